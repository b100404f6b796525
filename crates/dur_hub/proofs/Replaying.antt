-- A `snapshot` is one legal event.
use Rattle.std.proofs.Common.{◌≡◌, ℕ, zero, suc, get_or, ◌≤◌, ◌<◌, List, [], ◌∷◌, ◌++◌, length, map, refl, ap, subst, ◌∙◌, sym, Bool, true, false, cond, not, Option, Some, None, arith}
use Rattle.std.specs.Prelude.{Ok, Err, slice_get, option_map, option_and_then, unwrap_or}
use Rattle.std.proofs.lemmas.List.{length-map}
use Rattle.dur_qos.specs.declared.plan.Plan.{Plan}
use Rattle.dur_qos.specs.declared.plan.Topic.{Topic}
use Rattle.dur_qos.specs.declared.plan.ReaderLine.{ReaderLine}
use Rattle.dur_qos.specs.Plan.{place_of}
use Rattle.dur_view.specs.Identities.{Guid}
use Rattle.dur_view.specs.History.{History, start, moment}
use Rattle.dur_view.specs.Past.{past}
use Rattle.dur_view.specs.Snapshot.{snap}
use Rattle.dur_view.specs.Full.{topic_place}
use Rattle.dur_store.specs.Keeps.{Keeps}
use Rattle.dur_view.specs.declared.change.Snapshot.{Snapshot}
use Rattle.dur_hub.specs.declared.event.Event.TheVariants as call
use Rattle.dur_hub.specs.declared.hub.Hub.{Hub}
use Rattle.dur_hub.specs.declared.reply.SnapFault.{SnapFault}
use Rattle.dur_hub.specs.declared.reply.SnapFault.TheVariants as fault
use Rattle.dur_hub.specs.Runs.{Run}
use Rattle.dur_hub.specs.Leases.{is_among, leavers, after_lease, at_moment}
use Rattle.dur_hub.specs.Replays.{PlacesFit, is_served, reader_line, is_served_in, refusal_by, refusal, listing, replay_by, MayReplay}
use Rattle.dur_hub.specs.Legal.{LegalSnapshot, after_snapshot}
use Rattle.dur_hub.specs.Hubs.{HubAt, Adds}
use Rattle.dur_hub.specs.Answers.{Begins}
use Rattle.dur_hub.proofs.GoodCalls.{good_given}
use Rattle.dur_hub.proofs.Receives.{lost_most}
use Rattle.dur_hub.proofs.Calls.{one_call}

-- a refusal is never want of memory
refusal_known : (plan : Plan) (given : List Guid) (g : Guid) (o : Option ReaderLine)
    → refusal_by plan given g o ≡ Some fault.OutOfMemory → ⊥
refusal_known plan given g None is = absurd (cc)
refusal_known plan given g (Some line) is =
    known_by (not (is_served_in plan line)) (is_among g given) is where
      known_by : (b c : Bool)
          → cond b (Some fault.NotServed) (cond c (Some fault.Already) None) ≡ Some fault.OutOfMemory
          → ⊥
      known_by true c e = absurd (cc)
      known_by false true e = absurd (cc)
      known_by false false e = absurd (cc)

refused_legal : (r : Run) (m : ℕ) (g : Guid) (f : SnapFault) → refusal r.plan r.given g ≡ Some f
    → LegalSnapshot r m g 0 (Err f) × (after_snapshot r m g 0 (Err f) ≡ r)
refused_legal r m g fault.Unknown is = (is, refl)
refused_legal r m g fault.NotServed is = (is, refl)
refused_legal r m g fault.Already is = (is, refl)
refused_legal r m g fault.OutOfMemory is =
    absurd (refusal_known r.plan r.given g (reader_line r.plan g) is)

-- a snapshot that is refused
pub refuses : (hub : Hub) (m : ℕ) (g : Guid) (f : SnapFault)
    → refusal hub.plan hub.given.items g ≡ Some f
    → (lost : ℕ) × Adds hub (call.Snapshot m g lost (Err f)) hub
refuses hub m g f is = (
  0,
  one_call hub hub (call.Snapshot m g 0 (Err f)) (λ r here.
      let a =
      refused_legal r m g f
      (ap (λ p. refusal p r.given g) (sym here.plan) ∙ ap (λ l. refusal hub.plan l g) (sym here.given) ∙ is) in
      (a.0, subst (λ k. HubAt hub k) (sym a.1) here)),
)

refusal_at : (hub : Hub) (r : Run) (g : Guid) → HubAt hub r
    → refusal hub.plan hub.given.items g ≡ None → refusal r.plan r.given g ≡ None
refusal_at hub r g here is =
    ap (λ p. refusal p r.given g) (sym here.plan) ∙ ap (λ l. refusal hub.plan l g) (sym here.given)
    ∙ is

-- one for which there was no memory
pub wants_memory : (old mid new : Hub) (m : ℕ) (g : Guid) (done : Bool)
    → refusal old.plan old.given.items g ≡ None → Begins old m done mid
    → ((r : Run) → HubAt mid r → HubAt new r)
    → (lost : ℕ) × Adds old (call.Snapshot m g lost (Err fault.OutOfMemory)) new
wants_memory old mid new m g done is lease same = (
  lease.count,
  one_call old new (call.Snapshot m g lease.count (Err fault.OutOfMemory)) (λ r here.
      let b = lease.holds r here in
      ((refusal_at old r g here is, lost_most done lease.count (length (leavers (at_moment m r))) b.0), same (after_lease (at_moment m r) lease.count) b.1)),
)

-- a hub with one more reader to whom a snapshot was given
pub given_one : (mid new : Hub) (r : Run) (g : Guid) → new ≡ record mid { given = new.given }
    → new.given.items ≡ mid.given.items ++ g ∷ [] → HubAt mid r → HubAt new (record r {
      given = r.given ++ g ∷ [];
    })
given_one mid new r g is given here = subst (λ k. HubAt k (record r { given = r.given ++ g ∷ [] })) (sym is) (
    record {
      at = record {
        ledger = here.at.ledger;
        lines = here.at.lines;
        good = good_given r (r.given ++ g ∷ []) here.at.good;
      };
      plan = here.plan;
      index = here.index;
      places = here.places;
      moment = here.moment;
      begun = here.begun;
      due = here.due;
      given = given ∙ ap (λ l. l ++ g ∷ []) here.given;
      leaving = here.leaving;
      acks = here.acks;
      refused = here.refused;
      working = here.working;
      stopped = here.stopped;
    }
    )

pub same_given : (mid new : Hub) (r : Run) → new ≡ record mid { given = new.given }
    → new.given.items ≡ mid.given.items → HubAt mid r → HubAt new r
same_given mid new r is given here = subst (λ k. HubAt k r) (sym is) (
    record {
      at = record { ledger = here.at.ledger; lines = here.at.lines; good = here.at.good };
      plan = here.plan;
      index = here.index;
      places = here.places;
      moment = here.moment;
      begun = here.begun;
      due = here.due;
      given = given ∙ here.given;
      leaving = here.leaving;
      acks = here.acks;
      refused = here.refused;
      working = here.working;
      stopped = here.stopped;
    }
    )

-- one that is given
pub replays : (old mid new : Hub) (m : ℕ) (g : Guid) (topic : ℕ) (s : Snapshot)
    → MayReplay old.plan old.given.items g (Ok topic) → Begins old m true mid
    → ((r : Run) → HubAt mid r → topic < length r.plan.topics → r.moment ≤ mid.moment → s.changes ≡ listing r topic mid.moment)
    → new ≡ record mid { given = new.given } → new.given.items ≡ mid.given.items ++ g ∷ []
    → (lost : ℕ) × Adds old (call.Snapshot m g lost (Ok s)) new
replays old mid new m g topic s may lease told is given = (
  lease.count,
  one_call old new (call.Snapshot m g lease.count (Ok s)) (λ r here.
      let b = lease.holds r here in
      let r2 : Run = after_lease (at_moment m r) lease.count in
      let within : topic < length r.plan.topics =
      subst (λ (p : Plan). topic < length p.topics) here.plan may.1 in
      let changes : s.changes ≡ listing r2 topic r2.moment =
      told r2 b.1 within (subst (λ k. k ≤ mid.moment) b.1.moment (omega arith))
      ∙ ap (listing r2 topic) b.1.moment in
      let line = may.2.0 in
      let those : s.changes ≡ listing r2 line.topic r2.moment =
      changes ∙ ap (λ t. listing r2 t r2.moment) may.2.2 in
      let found : reader_line r.plan g ≡ Some line =
      ap (λ p. reader_line p g) (sym here.plan) ∙ may.2.1 in
      ((refusal_at old r g here may.0, b.0, subst (λ o. replay_by r2 o s.changes) (sym found) those), given_one mid new r2 g is given b.1)),
)

-- as many places as topics
pub places_many : (plan : Plan) (topics : List Topic) (places : List ℕ)
    → PlacesFit plan topics places → length places ≡ length plan.topics
places_many plan topics places fit =
    ap length fit.each ∙ length-map plan.topics (λ t. unwrap_or (place_of t.name topics) 0)

-- the place of a topic
pub place_is : (plan : Plan) (topics : List Topic) (places : List ℕ) (t p : ℕ)
    → PlacesFit plan topics places → t < length plan.topics → p ≡ get_or places t p
    → p ≡ topic_place plan topics t
place_is plan topics places t p fit lt at =
    at ∙ ap (λ l. get_or l t p) fit.each ∙ at_by plan.topics t lt where
      at_by : (ts : List Topic) (t : ℕ) → t < length ts
          → get_or (map (λ (x : Topic). unwrap_or (place_of x.name topics) 0) ts) t p ≡ unwrap_or (option_and_then (λ (x : Topic). place_of x.name topics) (slice_get ts t)) 0
      at_by [] t lt = absurd (omega (arith, lt))
      at_by (x ∷ ts) zero lt = refl
      at_by (x ∷ ts) (suc t) lt = at_by ts t (omega (arith, lt))

-- what the store answers for that place
pub changes_told : (hub : Hub) (topic p now : ℕ) (s : Snapshot) (ls : List ℕ) → ls ≡ hub.places
    → p ≡ get_or ls topic p
    → ((h : History) → Keeps hub.ledger.store h → p < length (start h).topics → moment h ≤ now → s.changes ≡ snap (past p h) now)
    → (r : Run) → HubAt hub r → topic < length r.plan.topics → r.moment ≤ now
    → s.changes ≡ listing r topic now
changes_told hub topic p now s ls places at told r here lt late =
    let is : p ≡ topic_place r.plan (start r.history).topics topic =
    place_is r.plan (start r.history).topics hub.places topic p here.places lt
    (at ∙ ap (λ l. get_or l topic p) places) in
    let within : p < length (start r.history).topics =
    subst (λ q. q < length (start r.history).topics) (sym is) (here.places.within topic lt) in
    let early : moment r.history ≤ now = omega (arith, here.at.good.early, late) in
    told r.history here.at.ledger.keeps within early ∙ ap (λ q. snap (past q r.history) now) is

-- a reader that is served has a topic of the plan
pub served_within : (plan : Plan) (line : ReaderLine) → not (is_served_in plan line) ≡ false
    → line.topic < length plan.topics
served_within plan line is =
    within_by plan.topics line.topic line (served_true (is_served_in plan line) is) where
      served_true : (b : Bool) → not b ≡ false → b ≡ true
      served_true true e = refl
      served_true false e = absurd (cc)

      within_by : (topics : List Topic) (t : ℕ) (line : ReaderLine)
          → unwrap_or (option_map (is_served line) (slice_get topics t)) false ≡ true
          → t < length topics
      within_by [] t line e = absurd (cc)
      within_by (x ∷ topics) zero line e = omega arith
      within_by (x ∷ topics) (suc t) line e = omega (arith, within_by topics t line e)
