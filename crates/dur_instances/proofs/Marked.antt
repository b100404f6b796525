-- An event that speaks of no instance leaves what is kept as it is.
use Rattle.std.proofs.Common.{◌≡◌, ℕ, ◌*◌, ◌^◌, Bool, true, false, cond, not, ◌&&◌, ◌||◌, Option, Some, None, List, [], ◌∷◌, ◌++◌, map, refl, sym, ap, ◌∙◌, append-nil}
use Rattle.std.specs.Prelude.{is_some, unwrap_or}
use Rattle.dur_base.specs.declared.sample.Act.TheVariants.{Marker}
use Rattle.dur_base.specs.declared.sample.Sample.{Sample}
use Rattle.dur_qos.specs.declared.plan.Topic.{Topic}
use Rattle.dur_view.specs.Identities.{Guid, Key}
use Rattle.dur_view.specs.Words.{is_key, is_change}
use Rattle.dur_view.specs.declared.change.TopicEvent.{TopicEvent}
use Rattle.dur_view.specs.declared.change.TopicEvent.TheVariants.{Effect}
use Rattle.dur_view.specs.Past.{◌▹◌}
use Rattle.dur_view.specs.Fates.{time_of, is_of, is_nobody, is_long, disposes_by, registered_by}
use Rattle.dur_view.specs.Lines.{registered_after, quiet_after, disposed_after}
use Rattle.dur_view.specs.Later.{SameFrom}
use Rattle.dur_instances.specs.Trimmed.{Row, Late, begun_by, row_in, row_at, blank_row}
use Rattle.dur_instances.specs.Kept.{IsKept}
use Rattle.dur_instances.specs.Steps.{is_row_quiet, row_after, late_after, late_by}
use Rattle.dur_instances.proofs.Follows.{RowsFollow, follows}
use Rattle.dur_instances.proofs.Applied.{known-or}
use Rattle.dur_instances.proofs.Settled.{kept-all}

-- an event that is no change, and registers or releases nobody
pub record Idle (e : TopicEvent) : Type 0 where
  pub other : (k : Key) → is_of k e ≡ false
  pub same : (k : Key) (rs : List ℕ) → registered_after e k rs ≡ rs
  pub nothing : late_by e ≡ []

-- a moment is told exactly where it is quiet, so that it stays
stays : (q : Bool) (since : Option ℕ) (m : ℕ) → is_some since ≡ q → cond q (cond q since (Some m)) None ≡ since
stays true None m is = absurd (cc)
stays true (Some t) m is = refl
stays false None m is = refl
stays false (Some t) m is = absurd (cc)

row-stays : (e : TopicEvent) → Idle e → (r : Row) → is_some r.quiet ≡ is_row_quiet r → row_after e r ≡ r
row-stays e idle r told =
    let of = idle.other r.key in
    let disposed : disposed_after e r.key r.disposed ≡ r.disposed = ap (λ b. cond b (disposes_by e) r.disposed) of in
    let registered : registered_after e r.key r.registered ≡ r.registered = idle.same r.key r.registered in
    let quiet : quiet_after e r.key (is_row_quiet r) (disposed_after e r.key r.disposed && is_nobody (registered_after e r.key r.registered)) r.quiet ≡ r.quiet =
    ap (λ b. cond (disposed_after e r.key r.disposed && is_nobody (registered_after e r.key r.registered)) (cond (not b && is_row_quiet r) r.quiet (Some (time_of e))) None) of
    ∙ ap (λ b. cond (b && is_nobody (registered_after e r.key r.registered)) (cond (is_row_quiet r) r.quiet (Some (time_of e))) None) disposed
    ∙ ap (λ (l : List ℕ). cond (r.disposed && is_nobody l) (cond (is_row_quiet r) r.quiet (Some (time_of e))) None) registered
    ∙ stays (is_row_quiet r) r.quiet (time_of e) told in
    let q = quiet_after e r.key (is_row_quiet r) (disposed_after e r.key r.disposed && is_nobody (registered_after e r.key r.registered)) r.quiet in
    ap (λ (d : Bool). record { key = r.key; disposed = d; quiet = q; registered = registered_after e r.key r.registered }) disposed
    ∙ ap (λ (o : Option ℕ). record { key = r.key; disposed = r.disposed; quiet = o; registered = registered_after e r.key r.registered }) quiet
    ∙ ap (λ (l : List ℕ). record { key = r.key; disposed = r.disposed; quiet = r.quiet; registered = l }) registered

rows-stay : (e : TopicEvent) → Idle e → (rows : List Row) → ((k : Key) → is_some (row_at rows k).quiet ≡ is_row_quiet (row_at rows k)) → RowsFollow e rows rows
rows-stay e idle rows told k = at (row_in rows k) (told k)
  where
    at : (o : Option Row) → is_some (unwrap_or o (blank_row k)).quiet ≡ is_row_quiet (unwrap_or o (blank_row k)) → o ≡ cond (is_of k e || is_some o) (Some (row_after e (unwrap_or o (blank_row k)))) None
    at None told = ap (λ b. cond (b || false) (Some (row_after e (blank_row k))) None) (sym (idle.other k))
    at (Some r) told = ap (λ y. Some y) (sym (row-stays e idle r told)) ∙ known-or (is_of k e) (row_after e r)

-- where no kept instance is purged at its moment, what is kept tells the same after it
pub idles : (s : Topic) (rows : List Row) (lates : List Late) → IsKept rows lates → (e : TopicEvent) → Idle e → ((k : Key) → is_long (row_at rows k).quiet (s.delay * 2 ^ 32) (time_of e) ≡ false)
    → SameFrom (time_of e) (begun_by s rows lates ▹ e) (begun_by s rows lates)
idles s rows lates is e idle awake =
    follows s e rows rows lates lates is is (rows-stay e idle rows is.quiet) awake
    (sym (kept-all s.depth e idle.other lates) ∙ sym (append-nil (map (late_after s.depth e) lates)) ∙ ap (λ l. map (late_after s.depth e) lates ++ l) (sym idle.nothing))

pub marks : (m by : ℕ) (w : Guid) (n ar : ℕ) (x : Sample) → x.act ≡ Marker → Idle (Effect m by w n ar x)
marks m by w n ar x is =
    record {
      other = λ k. (let c : is_change x.act ≡ false = ap is_change is in ap (λ b. is_key x.key k && b) c ∙ never (is_key x.key k));
      same = λ k rs. ap (λ a. cond (is_key x.key k) (registered_by a by rs) rs) is ∙ both (is_key x.key k) rs;
      nothing = ap (λ a. cond (is_change a) (record { later = 0; writer = w; number = n; arrived = Some ar; sample = x } ∷ []) []) is;
    }
  where
    never : (b : Bool) → (b && false) ≡ false
    never true = refl
    never false = refl

    both : (b : Bool) (rs : List ℕ) → cond b rs rs ≡ rs
    both true rs = refl
    both false rs = refl
