-- What a GAP tells, bit by bit.
use Rattle.std.proofs.Common.{◌≡◌, ◌≢◌, ℕ, ◌+◌, ◌-◌, ◌==◌, ◌&&◌, ◌||◌, Bool, true, false, cond, refl, ap, sym, ◌∙◌, arith, inl, inr}
use Rattle.std.specs.Prelude.{nat_lt, nat_le}
use Rattle.std.proofs.lemmas.Bool.{cases_eq, cases_lt, eq-eqb, ne_eqb, lt-ltb, le-ltb, le-leb, lt-leb}
use Rattle.dur_base.specs.NumberSets.{NumberSet, names, has_bit}
use Rattle.rel_reader.specs.declared.known.Known.{Known}
use Rattle.rel_reader.specs.declared.known.Known.TheVariants.{Unknown, Irrelevant}
use Rattle.rel_reader.specs.Knowledge.{or_else}
use Rattle.rel_reader.specs.KnownNumbers.{is_near, says_gap}
use Rattle.rel_reader.specs.Steps.{said, said_to, said_named, said_one}
use Rattle.rel_reader.proofs.Knowing.{or_nothing, or_assoc}

or_cond : (a b : Bool) → or_else (cond a Irrelevant Unknown) (cond b Irrelevant Unknown) ≡ cond (a || b) Irrelevant Unknown
or_cond true b = refl
or_cond false b = refl

-- a GAP tells what its base tells and what all its bits tell
pub gap_said : (n start : ℕ) (set : NumberSet) (x : Known) (k : ℕ)
    → or_else (or_else x (said_to n start set.base k)) (said_named n set set.count k) ≡ or_else x (says_gap n start set k)
gap_said n start set x k =
    or_assoc x (said_to n start set.base k) (said_named n set set.count k)
    ∙ ap (or_else x) (or_cond ((nat_le start n && nat_lt k set.base) || ((nat_le start k && nat_lt k set.base) && is_near n k)) (names set k && is_near n k))

one_here : (le lt more b c near : Bool) → le ≡ true → lt ≡ false → more ≡ true → b ≡ c
    → or_else (cond ((le && (lt && b)) && near) Irrelevant Unknown) (cond ((true && c) && near) Irrelevant Unknown) ≡ cond ((le && (more && b)) && near) Irrelevant Unknown
one_here true false true b c near p q r e = ap (λ x. cond (x && near) Irrelevant Unknown) (sym e)
one_here false lt more b c near p q r e = cc
one_here true true more b c near p q r e = cc
one_here true false false b c near p q r e = cc

same_order : (base i k : ℕ) (b : Bool) → (k ≡ base + i → ⊥) → (nat_le base k && (nat_lt (k - base) i && b)) ≡ (nat_le base k && (nat_lt (k - base) (i + 1) && b))
same_order base i k b ne = elim (cases_lt k base) [
  | inl below ↦ ap (λ t. t && (nat_lt (k - base) i && b)) (lt-leb base k below) ∙ sym (ap (λ t. t && (nat_lt (k - base) (i + 1) && b)) (lt-leb base k below))
  | inr above ↦ elim (cases_lt (k - base) i) [
    | inl lt ↦ ap (λ t. nat_le base k && (t && b)) (lt-ltb (k - base) i lt ∙ sym (lt-ltb (k - base) (i + 1) (omega arith)))
    | inr ge ↦
        let apart : k - base ≢ i = λ e. ne (omega arith) in
        ap (λ t. nat_le base k && (t && b)) (le-ltb (k - base) i ge ∙ sym (le-ltb (k - base) (i + 1) (omega arith)))
  ]
]

one_said : (n : ℕ) (set : NumberSet) (i k : ℕ) → or_else (said_named n set i k) (said_one n set i k) ≡ said_named n set (i + 1) k
one_said n set i k = elim (cases_eq k (set.base + i)) [
  | inl e ↦
      ap (λ t. or_else (said_named n set i k) (cond ((t && has_bit set.words i) && is_near n k) Irrelevant Unknown)) (eq-eqb k (set.base + i) e)
      ∙ one_here (nat_le set.base k) (nat_lt (k - set.base) i) (nat_lt (k - set.base) (i + 1)) (has_bit set.words (k - set.base)) (has_bit set.words i) (is_near n k)
      (le-leb set.base k (omega arith)) (le-ltb (k - set.base) i (omega arith)) (lt-ltb (k - set.base) (i + 1) (omega arith)) (let at : k - set.base ≡ i = omega arith in ap (has_bit set.words) at)
  | inr ne ↦
      ap (λ t. or_else (said_named n set i k) (cond ((t && has_bit set.words i) && is_near n k) Irrelevant Unknown)) (ne_eqb k (set.base + i) ne)
      ∙ or_nothing (said_named n set i k)
      ∙ ap (λ t. cond (t && is_near n k) Irrelevant Unknown) (same_order set.base i k (has_bit set.words (k - set.base)) ne)
]

-- one bit more
pub one_more : (n : ℕ) (set : NumberSet) (i : ℕ) (x : Known) (k : ℕ) → or_else (or_else x (said_named n set i k)) (said_one n set i k) ≡ or_else x (said_named n set (i + 1) k)
one_more n set i x k = or_assoc x (said_named n set i k) (said_one n set i k) ∙ ap (or_else x) (one_said n set i k)

-- a bit that isn't set says nothing
pub no_bit : (n : ℕ) (set : NumberSet) (i : ℕ) (x : Known) → has_bit set.words i ≡ false → (k : ℕ) → x ≡ or_else x (said_one n set i k)
no_bit n set i x h k = sym (ap (or_else x) (ap (λ t. cond (((k == set.base + i) && t) && is_near n k) Irrelevant Unknown) h ∙ nothing (k == set.base + i)) ∙ or_nothing x) where
  nothing : (t : Bool) → cond ((t && false) && is_near n k) Irrelevant Unknown ≡ Unknown
  nothing true = refl
  nothing false = refl

-- a bit that is set tells of its number
pub a_bit : (n : ℕ) (set : NumberSet) (i : ℕ) (x : Known) → has_bit set.words i ≡ true → (k : ℕ) → or_else x (said n (set.base + i) Irrelevant k) ≡ or_else x (said_one n set i k)
a_bit n set i x h k = ap (λ t. or_else x (cond (t && is_near n k) Irrelevant Unknown)) (sym (ap (λ t. (k == set.base + i) && t) h ∙ and_true (k == set.base + i))) where
  and_true : (t : Bool) → (t && true) ≡ t
  and_true true = refl
  and_true false = refl
