-- The place of a writer's line: no other line is the writer's; and the index of the lines.
use Rattle.std.proofs.Common.{◌≡◌, ◌≢◌, inl, inr, ℕ, zero, suc, ◌+◌, ◌<◌, ◌≤◌, List, [], ◌∷◌, ◌++◌, length, take, map, get_or, refl, ap, subst, ◌∙◌, sym, Bool, true, false, cond, Option, Some, None, arith}
use Rattle.std.specs.Str.{bytes_eq}
use Rattle.std.specs.Map.{KeepsOthers}
use Rattle.std.specs.HashMap as hash
use Rattle.std.specs.HashMap.{HashMap}
use Rattle.std.proofs.lemmas.Bool.{cases_Bool}
use Rattle.std.proofs.lemmas.List.{length-map, map-append, length-take, take_more, take_all}
use Rattle.std.proofs.lemmas.Slice.Eq.{bytes_eq-Decides}
use Rattle.dur_base.specs.declared.fact.Fact.{Fact}
use Rattle.dur_qos.specs.declared.plan.Plan.{Plan}
use Rattle.dur_view.specs.Identities.{Guid}
use Rattle.dur_view.specs.Words.{is_same}
use Rattle.dur_view.specs.History.{History}
use Rattle.dur_hub.specs.declared.event.Step.{Step}
use Rattle.dur_hub.specs.declared.line.Line.{Line}
use Rattle.dur_hub.specs.Telling.{speaks_of}
use Rattle.dur_hub.specs.Runs.{Writer, Run}
use Rattle.dur_hub.specs.Leases.{is_overdue, lose, heard_now}
use Rattle.dur_hub.specs.Steps.{spoken, with_speaker, after_step, after_steps}
use Rattle.dur_hub.specs.GoodRuns.{Out}
use Rattle.dur_hub.specs.Lines.{LinesFit}
use Rattle.dur_hub.specs.Places.{guids, guids_of, IsPlaceOf, HasNone, IsPlace, found, IsIndex}
use Rattle.dur_hub.proofs.Guids.{same_true, same_is}

-- two readings of a place are the same
pub same_line : (ls : List Line) (i : ℕ) (x y : Line) → i < length ls → x ≡ get_or ls i x
    → y ≡ get_or ls i y → x ≡ y
same_line [] i x y lt here there = absurd (omega (arith, lt))
same_line (l ∷ ls) zero x y lt here there = here ∙ sym there
same_line (l ∷ ls) (suc i) x y lt here there = same_line ls i x y (omega (arith, lt)) here there

-- the lines of writers of which none is this one
pub none_of : (plan : Plan) (h : History) (d : ℕ) (g : Guid) (ls : List Line) (ws : List Writer)
    → LinesFit plan h d ls ws → Out g ws → HasNone (guids ls) g
none_of plan h d g [] [] fit out = tt
none_of plan h d g [] (w ∷ ws) fit out = absurd fit
none_of plan h d g (l ∷ ls) [] fit out = absurd fit
none_of plan h d g (l ∷ ls) (w ∷ ws) fit out =
    (λ e. out.0 (sym fit.0.guid ∙ e), none_of plan h d g ls ws fit.1 out.1)

-- a writer that is none of the others is not the one at a place among them
pub other_place : (plan : Plan) (h : History) (d : ℕ) (u g : Guid) (i : ℕ) (ls : List Line)
    (ws : List Writer)
    → LinesFit plan h d ls ws → Out u ws → IsPlaceOf (guids ls) i g → u ≢ g
other_place plan h d u g i [] ws fit out at = absurd at
other_place plan h d u g i (l ∷ ls) [] fit out at = absurd fit
other_place plan h d u g zero (l ∷ ls) (w ∷ ws) fit out at =
    λ e. out.0 (sym fit.0.guid ∙ at ∙ sym e)
other_place plan h d u g (suc i) (l ∷ ls) (w ∷ ws) fit out at =
    other_place plan h d u g i ls ws fit.1 out.1 at

-- ---- the index

-- the lines of a run have its writers' GUIDs
pub guids_fit : (plan : Plan) (h : History) (d : ℕ) (ls : List Line) (ws : List Writer)
    → LinesFit plan h d ls ws → guids ls ≡ guids_of ws
guids_fit plan h d [] [] fit = refl
guids_fit plan h d [] (w ∷ ws) fit = absurd fit
guids_fit plan h d (l ∷ ls) [] fit = absurd fit
guids_fit plan h d (l ∷ ls) (w ∷ ws) fit =
    ap (λ g. g ∷ guids ls) fit.0.guid ∙ ap (λ gs. w.line.guid ∷ gs) (guids_fit plan h d ls ws fit.1)

pub index_lines : (plan : Plan) (h : History) (d : ℕ) (index : Guid → Option ℕ) (ls : List Line)
    (ws : List Writer)
    → LinesFit plan h d ls ws → IsIndex index (guids_of ws) → IsIndex index (guids ls)
index_lines plan h d index ls ws fit ix =
    subst (IsIndex index) (sym (guids_fit plan h d ls ws fit)) ix

-- calls leave the GUIDs
guids_with : (plan : Plan) (f : Fact) (change : Writer → Writer) (ws : List Writer)
    → ((w : Writer) → (change w).line ≡ w.line)
    → guids_of (with_speaker plan f change ws) ≡ guids_of ws
guids_with plan f change [] same = refl
guids_with plan f change (w ∷ ws) same =
    with_by (speaks_of plan w.line f) (guids_with plan f change ws same) where
      with_by : (b : Bool) → guids_of (with_speaker plan f change ws) ≡ guids_of ws
          → guids_of (cond b (change w ∷ ws) (w ∷ with_speaker plan f change ws)) ≡ guids_of (w ∷ ws)
      with_by true more = ap (λ l. l.guid ∷ guids_of ws) (same w)
      with_by false more = ap (λ gs. w.line.guid ∷ gs) more

guids_lost : (now n : ℕ) (ws : List Writer) → guids_of (lose now n ws) ≡ guids_of ws
guids_lost now zero ws = refl
guids_lost now (suc n) [] = refl
guids_lost now (suc n) (w ∷ ws) =
    lost_by (is_overdue now w) (guids_lost now n ws) (guids_lost now (suc n) ws) where
      lost_by : (b : Bool) → guids_of (lose now n ws) ≡ guids_of ws
          → guids_of (lose now (suc n) ws) ≡ guids_of ws
          → guids_of (cond b (record w { lost = true } ∷ lose now n ws) (w ∷ lose now (suc n) ws)) ≡ guids_of (w ∷ ws)
      lost_by true x y = ap (λ gs. w.line.guid ∷ gs) x
      lost_by false x y = ap (λ gs. w.line.guid ∷ gs) y

guids_heard : (now : ℕ) (ws : List Writer) → guids_of (map (heard_now now) ws) ≡ guids_of ws
guids_heard now [] = refl
guids_heard now (w ∷ ws) = ap (λ gs. w.line.guid ∷ gs) (guids_heard now ws)

pub index_leased : (index : Guid → Option ℕ) (b : Bool) (now n : ℕ) (ws : List Writer)
    → IsIndex index (guids_of ws)
    → IsIndex index (guids_of (cond b (lose now n ws) (map (heard_now now) ws)))
index_leased index true now n ws ix = subst (IsIndex index) (sym (guids_lost now n ws)) ix
index_leased index false now n ws ix = subst (IsIndex index) (sym (guids_heard now ws)) ix

pub index_steps : (index : Guid → Option ℕ) (r : Run) (ss : List Step)
    → IsIndex index (guids_of r.writers) → IsIndex index (guids_of (after_steps r ss).writers)
index_steps index r [] ix = ix
index_steps index r (s ∷ ss) ix =
    index_steps index (after_step r s) ss
    (subst (IsIndex index) (sym (guids_with r.plan s.fact (spoken r s) r.writers (λ w. refl))) ix)

-- what a map has after a place was noted
pub noted : {S : Type 0} (m n : HashMap (List ℕ) ℕ S) (key : Guid) (i : ℕ)
    → hash.UpdatesBy bytes_eq (bytes_eq key) m n (Some i)
    → (g : Guid) → found n g ≡ cond (is_same g key) (Some i) (found m g)
unfolding KeepsOthers
noted m n key i u g = elim (cases_Bool (bytes_eq g key)) [
  | inl e ↦
      ap (λ (t : List ℕ). hash.get_by (bytes_eq t) n) ((bytes_eq-Decides g key).0 e) ∙ u.1
      ∙ sym (ap (λ (b : Bool). cond b (Some i) (found m g)) e)
  | inr e ↦
      u.3 (bytes_eq g) (λ x y h. ap (λ (t : List ℕ). bytes_eq t y) ((bytes_eq-Decides g x).0 h))
      (λ k h. ap (λ (t : List ℕ). bytes_eq g t) (sym ((bytes_eq-Decides key k).0 h)) ∙ e)
      ∙ sym (ap (λ (b : Bool). cond b (Some i) (found m g)) e)
]

place_last : (xs : List Guid) (x : Guid) → IsPlaceOf (xs ++ x ∷ []) (length xs) x
place_last [] x = refl
place_last (y ∷ xs) x = place_last xs x

place_front : (xs : List Guid) (x : Guid) (i : ℕ) (g : Guid) → IsPlaceOf xs i g
    → IsPlaceOf (xs ++ x ∷ []) i g
place_front [] x i g at = absurd at
place_front (y ∷ xs) x zero g at = at
place_front (y ∷ xs) x (suc i) g at = place_front xs x i g at

none_more : (xs : List Guid) (x g : Guid) → HasNone xs g → x ≢ g → HasNone (xs ++ x ∷ []) g
none_more [] x g none ne = (ne, tt)
none_more (y ∷ xs) x g none ne = (none.0, none_more xs x g none.1 ne)

-- one GUID more
index_more : (m n : Guid → Option ℕ) (xs : List Guid) (x : Guid) (i : ℕ) → i ≡ length xs
    → IsIndex m xs → ((g : Guid) → n g ≡ cond (is_same g x) (Some i) (m g))
    → IsIndex n (xs ++ x ∷ [])
index_more m n xs x i len ix put g = more_by (is_same g x) refl where
  front : (o : Option ℕ) → IsPlace xs g o → x ≢ g → IsPlace (xs ++ x ∷ []) g o
  front (Some k) at ne = place_front xs x k g at
  front None none ne = none_more xs x g none ne

  more_by : (b : Bool) → is_same g x ≡ b → IsPlace (xs ++ x ∷ []) g (n g)
  more_by true e =
      subst (IsPlace (xs ++ x ∷ []) g)
      (sym (put g ∙ ap (λ b. cond b (Some i) (m g)) e))
      (subst (λ k. IsPlaceOf (xs ++ x ∷ []) k g) (sym len) (subst (IsPlaceOf (xs ++ x ∷ []) (length xs)) (sym (same_is g x e)) (place_last xs x)))
  more_by false e =
      subst (IsPlace (xs ++ x ∷ []) g)
      (sym (put g ∙ ap (λ b. cond b (Some i) (m g)) e))
      (front (m g) (ix g) (λ q. (let s = sym (same_true g x (sym q)) ∙ e in cc)))

-- one line more
pub lines_indexed : (m n : Guid → Option ℕ) (ls : List Line) (i : ℕ) (x : Line) → i < length ls
    → x ≡ get_or ls i x → IsIndex m (guids (take i ls))
    → ((g : Guid) → n g ≡ cond (is_same g x.guid) (Some i) (m g))
    → IsIndex n (guids (take (i + 1) ls))
lines_indexed m n ls i x lt at ix put =
    subst (IsIndex n)
    (sym (ap guids (take_more ls i x lt ∙ ap (λ y. take i ls ++ y ∷ []) (sym at)) ∙ map-append (λ (l : Line). l.guid) (take i ls) (x ∷ [])))
    (index_more m n (guids (take i ls)) x.guid i (omega (arith, lt, length-map (take i ls) (λ (l : Line). l.guid), length-take i ls)) ix put)

-- all of them
pub all_indexed : (m : Guid → Option ℕ) (ls : List Line) (i : ℕ) → length ls ≤ i
    → IsIndex m (guids (take i ls)) → IsIndex m (guids ls)
all_indexed m ls i le ix = subst (λ k. IsIndex m (guids k)) (take_all i ls le) ix

-- the map that has nothing
pub none_indexed : (m : Guid → Option ℕ) → ((g : Guid) → m g ≡ None) → IsIndex m []
none_indexed m none g = subst (IsPlace [] g) (sym (none g)) tt

-- a place that lies beyond the lines is none
pub none_beyond : (ls : List Line) (g : Guid) (i : ℕ) → length ls ≤ i → IsPlaceOf (guids ls) i g
    → HasNone (guids ls) g
none_beyond [] g i le at = absurd at
none_beyond (l ∷ ls) g zero le at = absurd (omega (arith, le))
none_beyond (l ∷ ls) g (suc i) le at =
    absurd (beyond ls i (omega (arith, le)) at) where
      beyond : (ls : List Line) (i : ℕ) → length ls ≤ i → IsPlaceOf (guids ls) i g → ⊥
      beyond [] i le at = at
      beyond (x ∷ ls) zero le at = absurd (omega (arith, le))
      beyond (x ∷ ls) (suc i) le at = beyond ls i (omega (arith, le)) at
