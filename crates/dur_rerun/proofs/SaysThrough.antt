-- A text goes out through a journal piece by piece.
use Rattle.std.proofs.Common.{◌≡◌, ℕ, ◌+◌, ◌++◌, List, [], length, take, drop, sym, ◌∙◌, ap, min, Result, Ok, Err, append_assoc, arith}
use Rattle.std.proofs.lemmas.List.{append-nil, take-append-drop, take-append-le, take_min}
use Rattle.std.proofs.Math.Seq.{take-append-add}
use Rattle.dur_outside.specs.World.{Image, World, Sends, Leaves}
use Rattle.dur_outside.proofs.Runs.{still, goes_on, joins, weaker}
use Rattle.dur_qos.specs.declared.plan.Plan.{Plan}
use Rattle.dur_journal.specs.declared.state.Journal.{Journal}
use Rattle.dur_journal.specs.Kept.{Kept}
use Rattle.dur_journal.specs.Journals.{Stands, IsReady}
use Rattle.dur_rerun.specs.Saying.{IsSaying, wrote}
use Rattle.dur_rerun.specs.Rerun.Saying.{IsFront, Says}
use Rattle.dur_rerun.proofs.Says.{begins, says_more}

-- midway through a text
pub record Saying {D : Type 0} (old new : Journal D) (w v : World) (text rest : List ℕ) : Type 0 where
  pub ready : IsReady new v
  pub run : Leaves w v (IsFront text w.now)
  pub said : IsSaying text rest w.now v.now
  pub stands : (plan : Plan) (k : Kept) → Stands plan k old w → Stands plan k new v

-- the journal stands for all that it stood for
abbrev pub StandsOn : {D : Type 0} → Journal D → Journal D → World → World → Type 0
StandsOn old new w v = (plan : Plan) (k : Kept) → Stands plan k old w → Stands plan k new v

pub is_ready : {D : Type 0} (old new : Journal D) (w v : World) → StandsOn old new w v → IsReady old w → IsReady new v
is_ready old new w v on ready = record { plan = ready.plan; k = ready.k; stands = on ready.plan ready.k ready.stands }

pub starts : {D : Type 0} (journal : Journal D) (w : World) (text : List ℕ) → IsReady journal w → Saying journal journal w w text text
starts journal w text ready = record {
  ready = ready;
  run = still w (IsFront text w.now);
  said = begins text w.now;
  stands = λ plan k is. is;
}

-- a front of the text is what reads give, and a crash leaves just that
fronts : {D : Type 0} (journal : Journal D) (v : World) (text rest : List ℕ) (old : Image) → IsReady journal v → IsSaying text rest old v.now
    → (c : Image) → v.may c → IsFront text old c
fronts journal v text rest old ready said c left = (said.count, ready.stands.clean c left ∙ said.written)

pub more : {D E : Type 0} (old now new : Journal D) (w u v : World) (text rest later : List ℕ) (n : ℕ) → Saying old now w u text rest
    → Sends {E = E} rest (Ok n) u v → StandsOn now new u v → later ≡ drop n rest → Saying old new w v text later
more old now new w u v text rest later n so_far sent on is =
    let ready = is_ready now new u v on so_far.ready in
    let said = says_more text rest later n w.now u v so_far.said sent is in
    record {
      ready = ready;
      run = goes_on w u v (IsFront text w.now) so_far.run sent.time (fronts new v text later w.now ready said);
      said = said;
      stands = λ plan k is_old. on plan k (so_far.stands plan k is_old);
    }

pub fails : {D E : Type 0} (old now new : Journal D) (w u v : World) (text rest : List ℕ) (e : E) → Saying old now w u text rest
    → Sends {E = E} rest (Err e) u v → StandsOn now new u v → Says old new w v text (Err e)
fails old now new w u v text rest e so_far sent on =
    let ready = is_ready now new u v on so_far.ready in
    let said : IsSaying text rest w.now v.now = record { count = so_far.said.count; left = so_far.said.left; written = sent.none ∙ so_far.said.written } in
    record {
      run = goes_on w u v (IsFront text w.now) so_far.run sent.time (fronts new v text rest w.now ready said);
      all = tt;
      stands = λ plan k is_old. on plan k (so_far.stands plan k is_old);
    }

all_of : (count : ℕ) (text : List ℕ) → [] ≡ drop count text → take count text ≡ text
all_of count text left =
    sym (append-nil (take count text)) ∙ ap (λ (x : List ℕ). take count text ++ x) left ∙ take-append-drop count text

pub ends : {D : Type 0} (E : Type 0) (old new : Journal D) (w v : World) (text : List ℕ) → Saying old new w v text []
    → Says {E = E} old new w v text (Ok _)
ends E old new w v text so_far = record {
  run = so_far.run;
  all = so_far.said.written ∙ ap (λ (x : List ℕ). wrote x w.now) (all_of so_far.said.count text so_far.said.left);
  stands = so_far.stands;
}

-- a front of the first of two texts is one of both
first_front : (x y : List ℕ) (old c : Image) → IsFront x old c → IsFront (x ++ y) old c
first_front x y old c front =
    let n = min front.0 (length x) in
    (n, front.1 ∙ ap (λ (t : List ℕ). wrote t old) (sym (take_min front.0 x) ∙ sym (take-append-le n x y (omega arith))))

-- a front of the second one, behind all of the first, is one of both
second_front : (x y : List ℕ) (old mid c : Image) → mid ≡ wrote x old → IsFront y mid c → IsFront (x ++ y) old c
second_front x y old mid c is front = (
  length x + front.0,
  front.1
      ∙ ap (λ (i : Image). wrote (take front.0 y) i) is
      ∙ ap (λ (t : List ℕ). record old { written = t }) (append_assoc old.written x (take front.0 y))
      ∙ ap (λ (t : List ℕ). wrote t old) (sym (take-append-add x y front.0)),
)

both_run : (w u v : World) (x y : List ℕ) → u.now ≡ wrote x w.now → Leaves w u (IsFront x w.now) → Leaves u v (IsFront y u.now)
    → Leaves w v (IsFront (x ++ y) w.now)
both_run w u v x y is first second = joins w u v (IsFront (x ++ y) w.now)
    (weaker w u (IsFront x w.now) (IsFront (x ++ y) w.now) first (λ c front. first_front x y w.now c front))
    (weaker u v (IsFront y u.now) (IsFront (x ++ y) w.now) second (λ c front. second_front x y w.now u.now c is front))

-- a text, and then another one
pub says_both : {D E : Type 0} (old mid new : Journal D) (w u v : World) (x y : List ℕ) (result : Result (Unit {0}) E) → u.now ≡ wrote x w.now
    → Leaves w u (IsFront x w.now) → StandsOn old mid w u → Says mid new u v y result → Says old new w v (x ++ y) result
says_both old mid new w u v x y (Ok all) is run on second = record {
  run = both_run w u v x y is run second.run;
  all = second.all ∙ ap (λ (i : Image). wrote y i) is ∙ ap (λ (t : List ℕ). record w.now { written = t }) (append_assoc w.now.written x y);
  stands = λ plan k is_old. second.stands plan k (on plan k is_old);
}
says_both old mid new w u v x y (Err e) is run on second = record {
  run = both_run w u v x y is run second.run;
  all = tt;
  stands = λ plan k is_old. second.stands plan k (on plan k is_old);
}
