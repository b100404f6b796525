-- One record after the other.
use Rattle.std.proofs.Common.{◌≡◌, inl, inr, ℕ, ◌≤◌, List, [], ◌∷◌, ◌++◌, length, take, refl, sym, ap, subst, ◌∙◌, arith, append-nil, append_assoc}
use Rattle.dur_capture.specs.declared.record.Record.{Record}
use Rattle.dur_outside.specs.World.{Image, World, Leaves}
use Rattle.dur_outside.proofs.Runs.{still, joins, weaker}
use Rattle.dur_qos.specs.declared.plan.Plan.{Plan}
use Rattle.dur_qos.specs.Good.{GoodPlan}
use Rattle.dur_view.specs.Stored.{stored}
use Rattle.dur_rerun.specs.Rerun.Kept.{IsCutOf}
use Rattle.dur_rerun.proofs.Cuts.{behind_of, durable_all}
use Rattle.dur_journal.proofs.Standing.{stands_keeps}
use Rattle.dur_journal.specs.declared.state.Journal.{Journal}
use Rattle.dur_journal.specs.Kept.{Kept}
use Rattle.dur_journal.specs.Journals.{Stands as StandsFor}
use Rattle.dur_hub.specs.declared.event.Event.{Event}
use Rattle.dur_hub.specs.declared.reply.Ack.{Ack}
use Rattle.dur_hub.specs.Handed.{Covered, acks_in}
use Rattle.dur_hub.specs.Legal.{after as run_by, run_after}
use Rattle.dur_hub.specs.Runs.{Run}
use Rattle.dur_rerun.specs.declared.rerun.replays.Replay.{Replay}
use Rattle.dur_rerun.specs.declared.rerun.service.Service.{Service}
use Rattle.dur_rerun.specs.Rerun.Courses.{RecordCalls, Course, IsNext, kept_at, kept_through, place_at}
use Rattle.dur_rerun.specs.Rerun.Crashes.{IsCovering, IsHandling, IsKept}
use Rattle.dur_rerun.specs.Rerun.Replies.{Place}
use Rattle.dur_rerun.specs.Rerun.Services.{Serves, ServesSome, MayServe, EndsHandling, Handled, IsAnswered, LeavesHandling, IsFullAt, StopsAt, StopsHandling, AnsweredAll, StartsFrom, ended}
use Rattle.dur_rerun.specs.Rerun.Answer.{IsFull, IsRead, RunsOver, StopsFull}
use Rattle.dur_rerun.specs.Input.Breaks.{EndsRecords}
use Rattle.dur_rerun.specs.declared.status.Status.{Status}
use Rattle.dur_rerun.specs.declared.status.Status.TheVariants.{Done, Usage, OutOfMemory, Input, ReadFault, WriteFault, DiskFault, Plan as BadPlan, NotAJournal, PlanDiffers, Full, Worn, TooMany}
use Rattle.dur_rerun.specs.Rerun.Stores.{kept_all, IsSettled, IsKeeping, IsStored, IsStoring, EndsStoring, FailsToStore, rig_of}
use Rattle.dur_rerun.proofs.Serving.{covered_calls}
use Rattle.dur_rerun.proofs.Recording.{storing_ends}
use Rattle.std.specs.Prelude.{IfOk, IfErr, Ok, Err}
use Rattle.std.specs.declared.result.Result.{Result}
use Rattle.std.proofs.Math.Path.{path_j, subst_refl}

-- ---- courses

pub course_more : (own : List ℕ) (before mid after : Place) (rs : List Record) (r : Record) (a b : List Ack) (x y : List ℕ) → Course own before rs a x mid → RecordCalls own mid r b y after
    → Course own before (rs ++ r ∷ []) (a ++ b) (x ++ y) after
course_more own before mid after [] r a b x y c calls = (
  b,
  [],
  y,
  [],
  after,
  subst (λ (p : Place). RecordCalls own p r b y after) c.2 calls,
  (refl, refl, refl),
  ap (λ (l : List Ack). l ++ b) c.0 ∙ sym (append-nil b),
  ap (λ (l : List ℕ). l ++ y) c.1 ∙ sym (append-nil y),
)
course_more own before mid after (s ∷ rs) r a b x y c calls = (
  c.0,
  c.1 ++ b,
  c.2,
  c.3 ++ y,
  c.4,
  c.5,
  course_more own c.4 mid after rs r c.1 b c.3 y c.6 calls,
  ap (λ (l : List Ack). l ++ b) c.7 ∙ append_assoc c.0 c.1 b,
  ap (λ (l : List ℕ). l ++ y) c.8 ∙ append_assoc c.2 c.3 y,
)

-- ---- what is kept

-- the call of a record does not depend on how its calls came to be known
same_call : (own own' : List ℕ) (before : Place) (r : Record) (acks : List Ack) (text : List ℕ) (after : Place) (calls : RecordCalls own before r acks text after) (is : own ≡ own')
    → (subst (λ (l : List ℕ). RecordCalls l before r acks text after) is calls).received.call ≡ calls.received.call
same_call own own' before r acks text after calls is =
    path_j (λ l e. (subst (λ (m : List ℕ). RecordCalls m before r acks text after) e calls).received.call ≡ calls.received.call)
    (ap (λ (x : RecordCalls own before r acks text after). x.received.call) (subst_refl (λ (m : List ℕ). RecordCalls m before r acks text after) calls)) is

same_place : (own : List ℕ) (mid before : Place) (r : Record) (acks : List Ack) (text : List ℕ) (after : Place) (calls : RecordCalls own mid r acks text after) (is : mid ≡ before) (k : Kept)
    → kept_at own before r (subst (λ (p : Place). RecordCalls own p r acks text after) is calls).received k ≡ kept_at own mid r calls.received k
same_place own mid before r acks text after calls is k =
    path_j (λ p e. kept_at own p r (subst (λ (q : Place). RecordCalls own q r acks text after) e calls).received k ≡ kept_at own mid r calls.received k)
    (ap (λ (x : RecordCalls own mid r acks text after). kept_at own mid r x.received k) (subst_refl (λ (q : Place). RecordCalls own q r acks text after) calls)) is

-- what is kept after one record more
pub through_more : (own : List ℕ) (before mid after : Place) (rs : List Record) (r : Record) (a b : List Ack) (x y : List ℕ) (c : Course own before rs a x mid) (calls : RecordCalls own mid r b y after) (k : Kept)
    → kept_through own before (rs ++ r ∷ []) (a ++ b) (x ++ y) after (course_more own before mid after rs r a b x y c calls) k
    ≡ kept_at own mid r calls.received (kept_through own before rs a x mid c k)
unfolding course_more
through_more own before mid after [] r a b x y c calls k = same_place own mid before r b y after calls c.2 k
through_more own before mid after (s ∷ rs) r a b x y c calls k =
    through_more own c.4 mid after rs r c.1 b c.3 y c.6 calls (kept_at own before s c.5.received k)

-- ---- what a crash leaves

next_more : (own : List ℕ) (place : Place) (rest : List Record) (r : Record) (run : Run) (acks : List Ack) (made : List ℕ) → IsNext own place rest run acks made → IsNext own place (rest ++ r ∷ []) run acks made
next_more own place [] r run acks made is = inl is
next_more own place (s ∷ rest) r run acks made is = is

-- the promise holds of more records
pub kept_more : (own : List ℕ) (plan : Plan) (epoch : ℕ) (begun : Run) (rs : List Record) (r : Record) (old c : Image) → IsKept own plan epoch begun rs old c → IsKept own plan epoch begun (rs ++ r ∷ []) old c
kept_more own plan epoch begun rs r old c k = record {
  done = k.done;
  rest = k.rest ++ r ∷ [];
  are = ap (λ (l : List Record). l ++ r ∷ []) k.are ∙ append_assoc k.done k.rest (r ∷ []);
  acks = k.acks;
  text = k.text;
  place = k.place;
  course = k.course;
  run = k.run;
  more = k.more;
  made = k.made;
  next = next_more own k.place k.rest r k.run k.more k.made k.next;
  covering = k.covering;
  out = k.out;
}

covering_same : (plan : Plan) (epoch later : ℕ) (run : Run) (a b : List Ack) (c : Image) → epoch ≤ later → a ≡ b → IsCovering plan later run a c → IsCovering plan epoch run b c
covering_same plan epoch later run a b c le same v = record {
  k = v.k;
  keeps = v.keeps;
  generation = omega (arith, le, v.generation);
  n = v.n;
  within = v.within;
  cut = v.cut;
  covered = subst (Covered run.history v.n) same v.covered;
}

-- while the next record is handled
pub kept_handling : (own : List ℕ) (plan : Plan) (epoch later : ℕ) (begun : Run) (log : List Event) (replays : List Replay) (rs : List Record) (r : Record) (acks : List Ack) (text : List ℕ) (first mid c : Image)
    → Course own (place_at begun [] []) rs acks text (place_at begun log replays) → acks ≡ acks_in log → epoch ≤ later → mid.written ≡ first.written ++ text
    → IsHandling own plan later begun log replays r mid c → IsKept own plan epoch begun (rs ++ r ∷ []) first c
kept_handling own plan epoch later begun log replays rs r acks text first mid c course said le out h = record {
  done = rs;
  rest = r ∷ [];
  are = refl;
  acks = acks;
  text = text;
  place = place_at begun log replays;
  course = course;
  run = h.run;
  more = h.acks;
  made = h.made;
  next = inr h.answering;
  covering = covering_same plan epoch later h.run (acks_in log ++ h.acks) (acks ++ h.acks) c le (ap (λ (l : List Ack). l ++ h.acks) (sym said)) h.covering;
  out = (h.out.0, h.out.1 ∙ ap (λ (l : List ℕ). l ++ take h.out.0 h.made) out ∙ append_assoc first.written text (take h.out.0 h.made));
}

-- while what is left is stored
pub kept_storing : (own : List ℕ) (plan : Plan) (epoch later : ℕ) (begun : Run) (log : List Event) (service : Service) (position : ℕ) (rs : List Record) (acks : List Ack) (text : List ℕ) (first mid c : Image)
    → Serves begun log service position → Course own (place_at begun [] []) rs acks text (place_at begun log service.replays.begun.items) → acks ≡ acks_in log → epoch ≤ later → mid.written ≡ first.written ++ text
    → IsStoring plan later (run_after begun log) mid c → IsKept own plan epoch begun rs first c
kept_storing own plan epoch later begun log service position rs acks text first mid c serves course said le out s =
    let run = run_after begun log in
    record {
      done = rs;
      rest = [];
      are = sym (append-nil rs);
      acks = acks;
      text = text;
      place = place_at begun log service.replays.begun.items;
      course = course;
      run = run;
      more = [];
      made = [];
      next = (refl, refl, refl);
      covering = record {
        k = s.k;
        keeps = s.keeps;
        generation = omega (arith, le, s.later);
        n = s.n;
        within = s.most;
        cut = s.cut;
        covered = subst (Covered run.history s.n) (sym said ∙ sym (append-nil acks))
            (covered_calls begun log service.hub s.n serves.good serves.settled.stands (omega (arith, serves.settled.durable, s.least)) s.most);
      };
      out = (0, s.out ∙ out ∙ ap (λ (l : List ℕ). first.written ++ l) (sym (append-nil text)));
    }

-- ---- the records so far

pub answered_first : {D : Type 0} (tells : Type 0) (begun : Run) (service : Service) (journal : Journal D) (w : World) → Serves begun [] service journal.position → service.replays.begun.items ≡ []
    → AnsweredAll tells service.own begun [] journal journal service w w
answered_first tells begun service journal w serves none = record {
  log = [];
  serves = serves;
  own_is = refl;
  acks = [];
  text = [];
  course = (refl, refl, ap (λ (l : List Replay). place_at begun [] l) none);
  said = refl;
  kept = λ told plan k stands keeping. record {
    answered = record { stands = stands; keeping = keeping; rises = omega arith; out = sym (append-nil w.now.written) };
    left = still w (IsKept service.own plan k.generation begun [] w.now);
  };
}

-- with one record more, which may not have been answered in full
pub left_next : {D : Type 0} (tells : Type 0) (own : List ℕ) (begun : Run) (rs : List Record) (r : Record) (first mid : Journal D) (service : Service) (w u v : World) (plan : Plan) (k : Kept)
    → (s : AnsweredAll tells own begun rs first mid service w u) → tells → StandsFor plan k first w → IsKeeping plan k begun → LeavesHandling service mid r u v
    → Leaves w v (IsKept own plan k.generation begun (rs ++ r ∷ []) w.now)
left_next tells own begun rs r first mid service w u v plan k s told stands keeping leaves =
    let so = s.kept told plan k stands keeping in
    let now = kept_through own (place_at begun [] []) rs s.acks s.text (place_at begun s.log service.replays.begun.items) s.course k in
    joins w u v (IsKept own plan k.generation begun (rs ++ r ∷ []) w.now)
    (weaker w u _ _ so.left (λ c is. kept_more own plan k.generation begun rs r w.now c is))
    (weaker u v _ _ (leaves plan now begun s.log so.answered.stands s.serves so.answered.keeping)
    (λ c h. kept_handling own plan k.generation now.generation begun s.log service.replays.begun.items rs r s.acks s.text w.now u.now c s.course s.said so.answered.rises so.answered.out
    (subst (λ (l : List ℕ). IsHandling l plan now.generation begun s.log service.replays.begun.items r u.now c) s.own_is h)))

pub answered_next : {D : Type 0} (tells : Type 0) (own : List ℕ) (begun : Run) (rs : List Record) (r : Record) (first mid last : Journal D) (old new : Service) (w u v : World)
    → (s : AnsweredAll tells own begun rs first mid old w u) → Handled tells begun s.log r old mid new last u v → (tells → LeavesHandling old mid r u v)
    → AnsweredAll tells own begun (rs ++ r ∷ []) first last new w v
answered_next tells own begun rs r first mid last old new w u v s h leaves =
    let start = place_at begun [] [] in
    let before = place_at begun s.log old.replays.begun.items in
    let after = place_at begun (s.log ++ h.more) new.replays.begun.items in
    let calls = subst (λ (l : List ℕ). RecordCalls l before r h.acks h.text after) s.own_is h.calls in
    record {
      log = s.log ++ h.more;
      serves = h.serves;
      own_is = h.own_is ∙ s.own_is;
      acks = s.acks ++ h.acks;
      text = s.text ++ h.text;
      course = course_more own start before after rs r s.acks h.acks s.text h.text s.course calls;
      said = ap (λ (l : List Ack). l ++ h.acks) s.said ∙ sym h.said;
      kept = λ told plan k stands keeping.
          let so = s.kept told plan k stands keeping in
          let now = kept_through own start rs s.acks s.text before s.course k in
          let one = h.kept told plan now so.answered.stands so.answered.keeping in
          let run = run_after begun (s.log ++ h.more) in
          let answered : IsAnswered plan k (kept_at old.own before r h.calls.received now) run (s.text ++ h.text) last w v = record {
            stands = one.stands;
            keeping = one.keeping;
            rises = omega (arith, so.answered.rises, one.rises);
            out = one.out ∙ ap (λ (l : List ℕ). l ++ h.text) so.answered.out ∙ append_assoc w.now.written s.text h.text;
          } in
          let same : kept_at old.own before r h.calls.received now ≡ kept_at own before r calls.received now =
          ap (λ (e : Event). kept_all now (run_by before.run e)) (sym (same_call old.own own before r h.acks h.text after h.calls s.own_is)) in
          record {
            answered = subst (λ (x : Kept). IsAnswered plan k x run (s.text ++ h.text) last w v)
                (same ∙ sym (through_more own start before after rs r s.acks h.acks s.text h.text s.course calls k)) answered;
            left = left_next tells own begun rs r first mid old w u v plan k s told stands keeping (leaves told);
          };
    }

-- the service may go on
pub serves_on : {D : Type 0} (tells : Type 0) (own : List ℕ) (rs : List Record) (first now : Journal D) (old new : Service) (w u : World) → ((b : Run) × Serves b [] old first.position)
    → ((b : Run) → Serves b [] old first.position → AnsweredAll tells own b rs first now new w u) → ServesSome new now.position
serves_on tells own rs first now old new w u some so = let s = so some.0 some.1 in (some.0, s.log, s.serves)

pub ready_on : {D : Type 0} (tells : Type 0) (own : List ℕ) (rs : List Record) (first now : Journal D) (old new : Service) (w u : World) → (tells → StartsFrom old first w)
    → ((b : Run) → Serves b [] old first.position → AnsweredAll tells own b rs first now new w u) → tells → MayServe new now u
ready_on tells own rs first now old new w u starts so told =
    let f = starts told in
    let s = so f.begun f.serves in
    let a = (s.kept told f.plan f.k f.stands f.keeping).answered in
    record {
      plan = f.plan;
      k = kept_through own (place_at f.begun [] []) rs s.acks s.text (place_at f.begun s.log new.replays.begun.items) s.course f.k;
      begun = f.begun;
      log = s.log;
      stands = a.stands;
      serves = s.serves;
      keeping = a.keeping;
    }

pub plan_on : {D : Type 0} (tells : Type 0) (own : List ℕ) (rs : List Record) (first now : Journal D) (old new : Service) (w u : World) → ((b : Run) × Serves b [] old first.position)
    → ((b : Run) → Serves b [] old first.position → AnsweredAll tells own b rs first now new w u) → GoodPlan old.plan → GoodPlan new.plan
plan_on tells own rs first now old new w u some so good = subst GoodPlan (sym some.1.plan ∙ (so some.0 some.1).serves.plan) good

-- ---- how it ends

not_read : (s : Status) → EndsHandling s → IsRead s → ⊥
not_read Done ends read = ends
not_read (Input place fault) ends read = ends
not_read ReadFault ends read = ends
not_read OutOfMemory ends read = read
not_read WriteFault ends read = read
not_read DiskFault ends read = read
not_read (Full size) ends read = read
not_read Worn ends read = read
not_read TooMany ends read = read
not_read Usage ends read = read
not_read (BadPlan line kind) ends read = read
not_read (NotAJournal file place) ends read = read
not_read (PlanDiffers name) ends read = read

full_by : (own : List ℕ) (plan : Plan) (begun : Run) (rs : List Record) (s : Status) → IsFull own plan begun rs s → StopsFull own plan begun rs s
full_by own plan begun rs Done full = tt
full_by own plan begun rs Usage full = tt
full_by own plan begun rs OutOfMemory full = tt
full_by own plan begun rs (Input place why) full = tt
full_by own plan begun rs ReadFault full = tt
full_by own plan begun rs WriteFault full = tt
full_by own plan begun rs DiskFault full = tt
full_by own plan begun rs (BadPlan line kind) full = tt
full_by own plan begun rs (NotAJournal file place) full = tt
full_by own plan begun rs (PlanDiffers name) full = tt
full_by own plan begun rs (Full size) full = full
full_by own plan begun rs Worn full = full
full_by own plan begun rs TooMany full = tt

full_reading : (own : List ℕ) (plan : Plan) (begun : Run) (rs : List Record) (s : Status) → EndsRecords s → StopsFull own plan begun rs s
full_reading own plan begun rs (Input place why) ends = tt
full_reading own plan begun rs OutOfMemory ends = tt
full_reading own plan begun rs ReadFault ends = tt
full_reading own plan begun rs Done ends = absurd ends
full_reading own plan begun rs Usage ends = absurd ends
full_reading own plan begun rs WriteFault ends = absurd ends
full_reading own plan begun rs DiskFault ends = absurd ends
full_reading own plan begun rs (BadPlan line kind) ends = absurd ends
full_reading own plan begun rs (NotAJournal file place) ends = absurd ends
full_reading own plan begun rs (PlanDiffers name) ends = absurd ends
full_reading own plan begun rs (Full size) ends = absurd ends
full_reading own plan begun rs Worn ends = absurd ends
full_reading own plan begun rs TooMany ends = absurd ends

-- while a record was handled
full_at : (own : List ℕ) (plan : Plan) (begun : Run) (rs : List Record) (r : Record) (acks : List Ack) (text : List ℕ) (place : Place) (s : Status) → Course own (place_at begun [] []) rs acks text place → IsFullAt own plan place r s
    → IsFull own plan begun (rs ++ r ∷ []) s
full_at own plan begun rs r acks text place s course f = record {
  done = rs;
  rest = r ∷ [];
  are = refl;
  acks = acks;
  text = text;
  place = place;
  course = course;
  run = run_by place.run f.received.call;
  next = inr (record { received = f.received; run_is = refl; answer = inl (refl, refl) });
  fails = f.fails;
}

full_handling : (own : List ℕ) (plan : Plan) (begun : Run) (rs : List Record) (r : Record) (acks : List Ack) (text : List ℕ) (place : Place) (s : Status) → Course own (place_at begun [] []) rs acks text place → StopsAt own plan place r s
    → StopsFull own plan begun (rs ++ r ∷ []) s
full_handling own plan begun rs r acks text place (Full size) course f = full_at own plan begun rs r acks text place (Full size) course f
full_handling own plan begun rs r acks text place Worn course f = full_at own plan begun rs r acks text place Worn course f
full_handling own plan begun rs r acks text place TooMany course f = tt
full_handling own plan begun rs r acks text place Done course f = tt
full_handling own plan begun rs r acks text place Usage course f = tt
full_handling own plan begun rs r acks text place OutOfMemory course f = tt
full_handling own plan begun rs r acks text place (Input at why) course f = tt
full_handling own plan begun rs r acks text place ReadFault course f = tt
full_handling own plan begun rs r acks text place WriteFault course f = tt
full_handling own plan begun rs r acks text place DiskFault course f = tt
full_handling own plan begun rs r acks text place (BadPlan line kind) course f = tt
full_handling own plan begun rs r acks text place (NotAJournal file at) course f = tt
full_handling own plan begun rs r acks text place (PlanDiffers name) course f = tt

-- no record came
pub ends_reading : {D : Type 0} (tells : Type 0) (own : List ℕ) (begun : Run) (rs : List Record) (first now : Journal D) (service : Service) (w u : World) (status : Status) (plan : Plan) (k : Kept)
    → (s : AnsweredAll tells own begun rs first now service w u) → EndsRecords status → tells → StandsFor plan k first w → IsKeeping plan k begun → RunsOver own plan k begun rs status w u
ends_reading tells own begun rs first now service w u status plan k s ends told stands keeping =
    let so = s.kept told plan k stands keeping in
    record {
      left = so.left;
      said = λ read. record { acks = s.acks; text = s.text; place = place_at begun s.log service.replays.begun.items; course = s.course; out = so.answered.out };
      stored = λ done. absurd (subst EndsRecords done ends);
      full = full_reading own plan begun rs status ends;
    }

-- a record was not handled
pub ends_handling : {D : Type 0} (tells : Type 0) (own : List ℕ) (begun : Run) (rs : List Record) (r : Record) (first mid : Journal D) (service : Service) (w u v : World) (status : Status) (plan : Plan) (k : Kept)
    → AnsweredAll tells own begun rs first mid service w u → EndsHandling status → (tells → LeavesHandling service mid r u v) → (tells → StopsHandling service mid r u status) → tells → StandsFor plan k first w
    → IsKeeping plan k begun → RunsOver own plan k begun (rs ++ r ∷ []) status w v
ends_handling tells own begun rs r first mid service w u v status plan k s ends leaves stops told stands keeping = record {
  full =
      let a = (s.kept told plan k stands keeping).answered in
      full_handling own plan begun rs r s.acks s.text (place_at begun s.log service.replays.begun.items) status s.course
      (subst (λ (l : List ℕ). StopsAt l plan (place_at begun s.log service.replays.begun.items) r status) s.own_is
      (stops told plan (kept_through own (place_at begun [] []) rs s.acks s.text (place_at begun s.log service.replays.begun.items) s.course k) begun s.log a.stands s.serves a.keeping));
  left = left_next tells own begun rs r first mid service w u v plan k s told stands keeping (leaves told);
  said = λ read. absurd (not_read status ends read);
  stored = λ done. absurd (subst EndsHandling done ends);
}

-- what was left is stored, or not all of it
pub left_last : {D : Type 0} (tells : Type 0) (own : List ℕ) (begun : Run) (rs : List Record) (first mid : Journal D) (service : Service) (w u v : World) (plan : Plan) (k : Kept)
    → (s : AnsweredAll tells own begun rs first mid service w u) → tells → StandsFor plan k first w → IsKeeping plan k begun
    → ((q : Plan) (x : Kept) (b : Run) (l : List Event) → StandsFor q x mid u → IsSettled b l service.hub mid.position → IsKeeping q x (run_after b l) → Leaves u v (IsStoring q x.generation (run_after b l) u.now))
    → Leaves w v (IsKept own plan k.generation begun rs w.now)
left_last tells own begun rs first mid service w u v plan k s told stands keeping run =
    let so = s.kept told plan k stands keeping in
    let a = so.answered in
    let now = kept_through own (place_at begun [] []) rs s.acks s.text (place_at begun s.log service.replays.begun.items) s.course k in
    joins w u v (IsKept own plan k.generation begun rs w.now) so.left
    (weaker u v _ _ (run plan now begun s.log a.stands s.serves.settled a.keeping)
    (λ c is. kept_storing own plan k.generation now.generation begun s.log service mid.position rs s.acks s.text w.now u.now c s.serves s.course s.said a.rises a.out is))

pub ends_storing : {D : Type 0} (tells : Type 0) (own : List ℕ) (begun : Run) (rs : List Record) (first mid : Journal D) (service : Service) (w u v : World) (status : Status) (plan : Plan) (k : Kept)
    → AnsweredAll tells own begun rs first mid service w u → EndsHandling status
    → ((q : Plan) (x : Kept) (b : Run) (l : List Event) → StandsFor q x mid u → IsSettled b l service.hub mid.position → IsKeeping q x (run_after b l) → FailsToStore q (run_after b l) status)
    → tells → StandsFor plan k first w → IsKeeping plan k begun
    → ((q : Plan) (x : Kept) (b : Run) (l : List Event) → StandsFor q x mid u → IsSettled b l service.hub mid.position → IsKeeping q x (run_after b l) → Leaves u v (IsStoring q x.generation (run_after b l) u.now))
    → RunsOver own plan k begun rs status w v
ends_storing tells own begun rs first mid service w u v status plan k s ends fails told stands keeping run = record {
  full =
      let a = (s.kept told plan k stands keeping).answered in
      full_by own plan begun rs status (record {
        done = rs;
        rest = [];
        are = sym (append-nil rs);
        acks = s.acks;
        text = s.text;
        place = place_at begun s.log service.replays.begun.items;
        course = s.course;
        run = run_after begun s.log;
        next = (refl, refl, refl);
        fails = fails plan (kept_through own (place_at begun [] []) rs s.acks s.text (place_at begun s.log service.replays.begun.items) s.course k) begun s.log a.stands s.serves.settled a.keeping;
      });
  left = left_last tells own begun rs first mid service w u v plan k s told stands keeping run;
  said = λ read. absurd (not_read status ends read);
  stored = λ done. absurd (subst EndsHandling done ends);
}

pub ends_done : {D : Type 0} (tells : Type 0) (own : List ℕ) (begun : Run) (rs : List Record) (first mid last : Journal D) (service : Service) (w u v : World) (plan : Plan) (k : Kept)
    → AnsweredAll tells own begun rs first mid service w u → tells → StandsFor plan k first w → IsKeeping plan k begun
    → ((q : Plan) (x : Kept) (b : Run) (l : List Event) → StandsFor q x mid u → IsSettled b l service.hub mid.position → IsKeeping q x (run_after b l) → Leaves u v (IsStoring q x.generation (run_after b l) u.now))
    → ((q : Plan) (x : Kept) (b : Run) (l : List Event) → StandsFor q x mid u → IsSettled b l service.hub mid.position → IsKeeping q x (run_after b l) → IsStored q x (run_after b l) last u v)
    → RunsOver own plan k begun rs Done w v
ends_done tells own begun rs first mid last service w u v plan k s told stands keeping run kept =
    let so = s.kept told plan k stands keeping in
    let a = so.answered in
    let q = run_after begun s.log in
    let now = kept_through own (place_at begun [] []) rs s.acks s.text (place_at begun s.log service.replays.begun.items) s.course k in
    let all = kept_all now q in
    let up = kept plan now begun s.log a.stands s.serves.settled a.keeping in
    let out : v.now.written ≡ w.now.written ++ s.text = up.out ∙ a.out in
    record {
      left = left_last tells own begun rs first mid service w u v plan k s told stands keeping run;
      said = λ read. record { acks = s.acks; text = s.text; place = place_at begun s.log service.replays.begun.items; course = s.course; out = out };
      stored = λ done. record {
        acks = s.acks;
        text = s.text;
        place = place_at begun s.log service.replays.begun.items;
        course = s.course;
        out = out;
        k = all;
        keeps = stands_keeps plan all last v up.stands;
        whole = subst (IsCutOf all.history) (durable_all q.history) (behind_of all.history q.history (length (stored q.history)) q.moment up.keeping.behind);
        rule = refl;
      };
      full = tt;
    }

-- by what storing answered
pub ends_last : {D : Type 0} (tells : Type 0) (own : List ℕ) (begun : Run) (rs : List Record) (first mid : Journal D) (service : Service) (w u : World) (world : D → World) (result : Result (Journal D) (Status × D)) (plan : Plan) (k : Kept)
    → AnsweredAll tells own begun rs first mid service w u → IfErr result (λ e. EndsStoring e.0)
    → ((q : Plan) (x : Kept) (b : Run) (l : List Event) → StandsFor q x mid u → IsSettled b l service.hub mid.position → IsKeeping q x (run_after b l) → IfErr result (λ e. FailsToStore q (run_after b l) e.0))
    → tells → StandsFor plan k first w → IsKeeping plan k begun
    → ((q : Plan) (x : Kept) (b : Run) (l : List Event) → StandsFor q x mid u → IsSettled b l service.hub mid.position → IsKeeping q x (run_after b l) → Leaves u (world (rig_of result)) (IsStoring q x.generation (run_after b l) u.now))
    → ((q : Plan) (x : Kept) (b : Run) (l : List Event) → StandsFor q x mid u → IsSettled b l service.hub mid.position → IsKeeping q x (run_after b l)
    → IfOk result (λ last. IsStored q x (run_after b l) last u (world last.disk)))
    → RunsOver own plan k begun rs (ended result) w (world (rig_of result))
ends_last tells own begun rs first mid service w u world (Ok last) plan k s ends fails told stands keeping run kept =
    ends_done tells own begun rs first mid last service w u (world last.disk) plan k s told stands keeping run kept
ends_last tells own begun rs first mid service w u world (Err e) plan k s ends fails told stands keeping run kept =
    ends_storing tells own begun rs first mid service w u (world e.1) e.0 plan k s (storing_ends e.0 ends) fails told stands keeping run
