-- What a GAP tells of the numbers between its start and its base.
use Rattle.std.proofs.Common.{◌≡◌, ℕ, ◌+◌, ◌-◌, ◌^◌, ◌≤◌, ◌<◌, ◌==◌, ◌&&◌, ◌||◌, ◌∙◌, Bool, true, false, cond, refl, ap, sym, arith, inl, inr, min, max}
use Rattle.std.specs.Prelude.{nat_lt, nat_le}
use Rattle.std.proofs.lemmas.Bool.{cases_eq, cases_lt, eq-eqb, ne_eqb, lt-ltb, le-ltb, le-leb, lt-leb}
use Rattle.rel_reader.specs.declared.known.Known.{Known}
use Rattle.rel_reader.specs.declared.known.Known.TheVariants.{Unknown, Irrelevant}
use Rattle.rel_reader.specs.Knowledge.{or_else}
use Rattle.rel_reader.specs.KnownNumbers.{is_near}
use Rattle.rel_reader.specs.Steps.{said, said_below, said_to, said_between}
use Rattle.rel_reader.proofs.Knowing.{or_nothing, or_assoc}

here : (le lt more eq near : Bool) → le ≡ true → lt ≡ false → more ≡ true → eq ≡ true
    → or_else (cond ((le && lt) && near) Irrelevant Unknown) (cond (eq && near) Irrelevant Unknown) ≡ cond ((le && more) && near) Irrelevant Unknown
here true false true true near p q r e = refl
here false lt more eq near p q r e = cc
here true true more eq near p q r e = cc
here true false false eq near p q r e = cc
here true false true false near p q r e = cc

same_order : (i k : ℕ) → (k ≡ i → ⊥) → nat_lt k i ≡ nat_lt k (i + 1)
same_order i k ne = elim (cases_lt k i) [
  | inl lt ↦ lt-ltb k i lt ∙ sym (lt-ltb k (i + 1) (omega arith))
  | inr ge ↦ let apart : (k ≡ i → ⊥) = ne in le-ltb k i ge ∙ sym (le-ltb k (i + 1) (omega (arith, apart)))
]

one_said : (n from i k : ℕ) → from ≤ i → or_else (said_between n from i k) (said n i Irrelevant k) ≡ said_between n from (i + 1) k
one_said n from i k le = elim (cases_eq k i) [
  | inl e ↦ here (nat_le from k) (nat_lt k i) (nat_lt k (i + 1)) (k == i) (is_near n k) (le-leb from k (omega arith)) (le-ltb k i (omega arith)) (lt-ltb k (i + 1) (omega arith)) (eq-eqb k i e)
  | inr ne ↦
      ap (λ t. or_else (said_between n from i k) (cond (t && is_near n k) Irrelevant Unknown)) (ne_eqb k i ne)
      ∙ or_nothing (said_between n from i k)
      ∙ ap (λ t. cond ((nat_le from k && t) && is_near n k) Irrelevant Unknown) (same_order i k ne)
]

-- one number more
pub one_more : (n from i : ℕ) (x : Known) (k : ℕ) → from ≤ i → or_else (or_else x (said_between n from i k)) (said n i Irrelevant k) ≡ or_else x (said_between n from (i + 1) k)
one_more n from i x k le = or_assoc x (said_between n from i k) (said n i Irrelevant k) ∙ ap (or_else x) (one_said n from i k le)

empty : (le lt near : Bool) → (le && lt) ≡ false → cond ((le && lt) && near) Irrelevant Unknown ≡ Unknown
empty le lt near h = ap (λ t. cond (t && near) Irrelevant Unknown) h

none_there : (from k : ℕ) → (nat_le from k && nat_lt k from) ≡ false
none_there from k = elim (cases_lt k from) [
  | inl lt ↦ ap (λ t. t && nat_lt k from) (lt-leb from k lt)
  | inr ge ↦ ap (λ t. nat_le from k && t) (le-ltb k from ge) ∙ and_no (nat_le from k)
] where
  and_no : (b : Bool) → (b && false) ≡ false
  and_no true = refl
  and_no false = refl

-- nothing yet
pub no_number : (n from : ℕ) (x : Known) (k : ℕ) → x ≡ or_else x (said_between n from from k)
no_number n from x k = sym (ap (or_else x) (empty (nat_le from k) (nat_lt k from) (is_near n k) (none_there from k)) ∙ or_nothing x)

far : (n k : ℕ) → n + 256 ≤ k → is_near n k ≡ false
far n k h = ap (λ t. t && nat_lt k (2 ^ 63 - 1)) (le-ltb k (n + 256) h)

no_near : (le lt other : Bool) → cond ((le && lt) && false) Irrelevant Unknown ≡ cond ((le && other) && false) Irrelevant Unknown
no_near true true true = refl
no_near true true false = refl
no_near true false true = refl
no_near true false false = refl
no_near false lt other = refl

-- what lies beyond the window says nothing
pub to_the_window : (n from to end k : ℕ) → end ≡ max from (min to (n + 256)) → said_between n from end k ≡ said_between n from to k
to_the_window n from to end k e = elim (cases_lt k (n + 256)) [
  | inr ge ↦
      ap (λ t. cond ((nat_le from k && nat_lt k end) && t) Irrelevant Unknown) (far n k ge)
      ∙ no_near (nat_le from k) (nat_lt k end) (nat_lt k to)
      ∙ sym (ap (λ t. cond ((nat_le from k && nat_lt k to) && t) Irrelevant Unknown) (far n k ge))
  | inl near ↦ elim (cases_lt k from) [
    | inl before ↦ ap (λ t. cond ((t && nat_lt k end) && is_near n k) Irrelevant Unknown) (lt-leb from k before) ∙ sym (ap (λ t. cond ((t && nat_lt k to) && is_near n k) Irrelevant Unknown) (lt-leb from k before))
    | inr ge ↦ elim (cases_lt k to) [
      | inl lt ↦ ap (λ t. cond ((nat_le from k && t) && is_near n k) Irrelevant Unknown) (lt-ltb k end (omega (arith, e)) ∙ sym (lt-ltb k to lt))
      | inr past ↦ ap (λ t. cond ((nat_le from k && t) && is_near n k) Irrelevant Unknown) (le-ltb k end (omega (arith, e)) ∙ sym (le-ltb k to past))
    ]
  ]
]

both_same : (lt le near : Bool) → ((true && lt) || ((le && lt) && near)) ≡ lt
both_same true le near = refl
both_same false true near = refl
both_same false false near = refl

-- where the start is not above next, all below the base is irrelevant
pub at_once : (n start base k : ℕ) → start ≤ n → said_below base k ≡ said_to n start base k
at_once n start base k le =
    sym (ap (λ t. cond ((t && nat_lt k base) || ((nat_le start k && nat_lt k base) && is_near n k)) Irrelevant Unknown) (le-leb start n le)
    ∙ ap (λ t. cond t Irrelevant Unknown) (both_same (nat_lt k base) (nat_le start k) (is_near n k)))

-- where it is above, those in the window are
pub ahead : (n start base k : ℕ) → n < start → said_between n start base k ≡ said_to n start base k
ahead n start base k lt = sym (ap (λ t. cond ((t && nat_lt k base) || ((nat_le start k && nat_lt k base) && is_near n k)) Irrelevant Unknown) (lt-leb start n lt))
