-- Runs of octets.
use Rattle.std.proofs.Common.{◌≡◌, ℕ, ◌+◌, ◌-◌, ◌≤◌, List, [], ◌∷◌, ◌++◌, length, take, drop, get_or, refl, sym, ap, ◌∙◌, arith, Bool, true, false, cond, Option, Some, None, inl, inr, append_assoc, ◌⊎◌}
use Rattle.std.proofs.lemmas.Bool.{cases_Bool}
use Rattle.std.specs.Prelude.{◌||◌}
use Rattle.std.specs.Option.{is_some}
use Rattle.std.proofs.lemmas.List.{take_rest}
use Rattle.dur_qos.specs.declared.fault.PlanFault.{PlanFault}
use Rattle.dur_qos.specs.declared.fault.PlanKind.TheVariants.{OutOfMemory}
use Rattle.dur_qos.specs.Reading.{Reading, octet, after, taken, stops, RunsOut, is_done}

or_true : (a : Bool) → (a || true) ≡ true
or_true true = refl
or_true false = refl

-- a reading that is done takes nothing
pub done_stays : (r : Reading) (bs : List ℕ) → is_done r ≡ true → after r bs ≡ r
done_stays r [] done = refl
done_stays r (b ∷ bs) done = ap (λ (d : Bool). cond d r (after (octet r b) bs)) done

pub done_takes : (r : Reading) (bs : List ℕ) → is_done r ≡ true → taken r bs ≡ 0
done_takes r [] done = refl
done_takes r (b ∷ bs) done = ap (λ (d : Bool). cond d 0 (1 + taken (octet r b) bs)) done

pub ended_done : (r : Reading) → r.ended ≡ true → is_done r ≡ true
ended_done r e = ap (λ (b : Bool). b || is_some r.fault) e

pub faulty_done : (r : Reading) (f : PlanFault) → r.fault ≡ Some f → is_done r ≡ true
faulty_done r f e = ap (λ (o : Option PlanFault). r.ended || is_some o) e ∙ or_true r.ended

open_not_done : (r : Reading) → r.ended ≡ false → r.fault ≡ None → is_done r ≡ false
open_not_done r e f = ap (λ (b : Bool). b || is_some r.fault) e ∙ ap (λ (o : Option PlanFault). is_some o) f

-- an octet of a run
pub step_after : (r : Reading) (b : ℕ) (bs : List ℕ) → r.ended ≡ false → r.fault ≡ None → after r (b ∷ bs) ≡ after (octet r b) bs
step_after r b bs e f = ap (λ (d : Bool). cond d r (after (octet r b) bs)) (open_not_done r e f)

pub step_taken : (r : Reading) (b : ℕ) (bs : List ℕ) → r.ended ≡ false → r.fault ≡ None → taken r (b ∷ bs) ≡ 1 + taken (octet r b) bs
step_taken r b bs e f = ap (λ (d : Bool). cond d 0 (1 + taken (octet r b) bs)) (open_not_done r e f)

-- the octets, from their first on
pub spelled : (rest : List ℕ) → 1 ≤ length rest → rest ≡ get_or rest 0 0 ∷ take (length rest - 1) (drop 1 rest)
spelled [] some = absurd (omega arith)
spelled (b ∷ bs) some = ap (λ (t : List ℕ). b ∷ t) (sym (take_rest (b ∷ bs) 1))

-- a run that goes over pieces is one run
pub after_append : (r : Reading) (xs ys : List ℕ) → after r (xs ++ ys) ≡ after (after r xs) ys
after_append r [] ys = refl
after_append r (x ∷ xs) ys = elim (cases_Bool (is_done r)) [
  | inl e ↦
      ap (λ (d : Bool). cond d r (after (octet r x) (xs ++ ys))) e
      ∙ sym (ap (λ (t : Reading). after t ys) (ap (λ (d : Bool). cond d r (after (octet r x) xs)) e) ∙ done_stays r ys e)
  | inr e ↦
      ap (λ (d : Bool). cond d r (after (octet r x) (xs ++ ys))) e ∙ after_append (octet r x) xs ys
      ∙ sym (ap (λ (t : Reading). after t ys) (ap (λ (d : Bool). cond d r (after (octet r x) xs)) e))
]

-- and so are the octets that it takes
pub taken_append : (r : Reading) (xs ys : List ℕ) → taken r (xs ++ ys) ≡ taken r xs + taken (after r xs) ys
taken_append r [] ys = omega arith
taken_append r (x ∷ xs) ys = elim (cases_Bool (is_done r)) [
  | inl e ↦
      let none : taken r ys ≡ 0 = done_takes r ys e in
      let whole : taken r (x ∷ xs ++ ys) ≡ 0 = done_takes r (x ∷ xs ++ ys) e in
      let front : taken r (x ∷ xs) ≡ 0 = done_takes r (x ∷ xs) e in
      let back : taken (after r (x ∷ xs)) ys ≡ 0 = ap (λ (t : Reading). taken t ys) (done_stays r (x ∷ xs) e) ∙ none in
      omega (arith, whole, front, back)
  | inr e ↦
      let whole : taken r (x ∷ xs ++ ys) ≡ 1 + taken (octet r x) (xs ++ ys) = ap (λ (d : Bool). cond d 0 (1 + taken (octet r x) (xs ++ ys))) e in
      let front : taken r (x ∷ xs) ≡ 1 + taken (octet r x) xs = ap (λ (d : Bool). cond d 0 (1 + taken (octet r x) xs)) e in
      let back : taken (after r (x ∷ xs)) ys ≡ taken (after (octet r x) xs) ys = ap (λ (d : Bool). taken (cond d r (after (octet r x) xs)) ys) e in
      omega (arith, whole, front, back, taken_append (octet r x) xs ys)
]

-- a reading that is not done has taken all octets
pub open_takes_all : (r : Reading) (xs : List ℕ) → is_done (after r xs) ≡ false → taken r xs ≡ length xs
open_takes_all r [] h = refl
open_takes_all r (x ∷ xs) h = elim (cases_Bool (is_done r)) [
  | inl e ↦ let done : true ≡ false = sym e ∙ ap is_done (sym (done_stays r (x ∷ xs) e)) ∙ h in absurd cc
  | inr e ↦
      let front : taken r (x ∷ xs) ≡ 1 + taken (octet r x) xs = ap (λ (d : Bool). cond d 0 (1 + taken (octet r x) xs)) e in
      let more : is_done (after (octet r x) xs) ≡ false = ap (λ (d : Bool). is_done (cond d r (after (octet r x) xs))) (sym e) ∙ h in
      omega (arith, front, open_takes_all (octet r x) xs more)
]

-- a run over pieces, one octet further
pub one_further : (old r new : Reading) (b : ℕ) (seen rest piece : List ℕ) → 1 ≤ length rest → b ≡ get_or rest 0 0 → r ≡ after old seen → seen ++ rest ≡ piece → r.ended ≡ false → r.fault ≡ None → new ≡ octet r b
    → (new ≡ after old (seen ++ b ∷ [])) × ((seen ++ b ∷ []) ++ take (length rest - 1) (drop 1 rest) ≡ piece)
    × (after new (take (length rest - 1) (drop 1 rest)) ≡ after r rest) × (taken r rest ≡ 1 + taken new (take (length rest - 1) (drop 1 rest)))
one_further old r new b seen rest piece some is reads parts ended sound step =
    let later = take (length rest - 1) (drop 1 rest) in
    let spelt : rest ≡ b ∷ later = spelled rest some ∙ ap (λ (x : ℕ). x ∷ later) (sym is) in
    let one : octet r b ≡ after r (b ∷ []) = sym (step_after r b [] ended sound) in (
      step ∙ one ∙ ap (λ (x : Reading). after x (b ∷ [])) reads ∙ sym (after_append old seen (b ∷ [])),
      append_assoc seen (b ∷ []) later ∙ ap (λ (t : List ℕ). seen ++ t) (sym spelt) ∙ parts,
      ap (λ (x : Reading). after x later) step ∙ sym (step_after r b later ended sound) ∙ ap (after r) (sym spelt),
      ap (taken r) spelt ∙ step_taken r b later ended sound ∙ ap (λ (x : Reading). 1 + taken x later) (sym step),
    )

-- memory ran out, or the fault is that of all the octets
pub piece_stops : (old r new : Reading) (b : ℕ) (seen rest piece : List ℕ) → 1 ≤ length rest → b ≡ get_or rest 0 0 → r ≡ after old seen → seen ++ rest ≡ piece → r.ended ≡ false → r.fault ≡ None → (e : PlanFault)
    → (new.fault ≡ Some e) × ((new ≡ stops r OutOfMemory) ⊎ (new ≡ octet r b)) → (new.fault ≡ Some e) × (RunsOut old piece new ⊎ (new ≡ after old piece))
piece_stops old r new b seen rest piece some is reads parts ended sound e err = elim err.1 [
  | inl out ↦ (err.0, inl (seen, rest, sym parts, omega arith, out ∙ ap (λ (x : Reading). stops x OutOfMemory) reads))
  | inr step ↦
      let on = one_further old r new b seen rest piece some is reads parts ended sound step in
      let later = take (length rest - 1) (drop 1 rest) in
      let whole : after old piece ≡ after new later = ap (after old) (sym on.1) ∙ after_append old (seen ++ b ∷ []) later ∙ ap (λ (x : Reading). after x later) (sym on.0) in
      (err.0, inr (sym (whole ∙ done_stays new later (faulty_done new e err.0))))
]
