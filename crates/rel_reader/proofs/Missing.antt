-- The numbers of which a window knows nothing.
use Rattle.std.proofs.Common.{◌≡◌, ℕ, ◌+◌, ◌≤◌, ◌==◌, ◌&&◌, ◌||◌, Bool, true, false, max, min, refl, ap, sym, ◌∙◌, arith, inl, inr}
use Rattle.std.specs.Prelude.{nat_lt, nat_le}
use Rattle.std.proofs.lemmas.Bool.{cases_eq, cases_lt, eq-eqb, ne_eqb, lt-ltb, le-ltb, le-leb, lt-leb}
use Rattle.rel_reader.specs.Knowledge.{is_unknown}
use Rattle.rel_reader.specs.Stories.{Story, next}
use Rattle.rel_reader.specs.KnownNumbers.{known}
use Rattle.rel_reader.specs.MissingNumbers.{is_missing}
use Rattle.rel_reader.specs.Windows.{Window, Fits, known_in}
use Rattle.rel_reader.specs.Steps.{missing_upto}

and_off : (a b : Bool) → b ≡ false → (a && b) ≡ false
and_off true b h = h
and_off false b h = refl

or_on : (b : Bool) → (b || true) ≡ true
or_on true = refl
or_on false = refl

or_off : (b : Bool) → (b || false) ≡ b
or_off true = refl
or_off false = refl

missing_other : (w : Window) (start upto k : ℕ) → (k ≡ upto → ⊥) → missing_upto w start upto k ≡ missing_upto w start (upto + 1) k
missing_other w start upto k ne = elim (cases_lt k upto) [
  | inl lt ↦ ap (λ t. nat_le start k && (t && is_unknown (known_in w k))) (lt-ltb k upto lt ∙ sym (lt-ltb k (upto + 1) (omega arith)))
  | inr ge ↦ ap (λ t. nat_le start k && (t && is_unknown (known_in w k))) (le-ltb k upto ge ∙ sym (le-ltb k (upto + 1) (omega arith)))
]

pub missing_yes : (w : Window) (start upto : ℕ) → start ≤ upto → is_unknown (known_in w upto) ≡ true → (k : ℕ) → (missing_upto w start upto k || (k == upto)) ≡ missing_upto w start (upto + 1) k
missing_yes w start upto h u k = elim (cases_eq k upto) [
  | inl e ↦
      ap (λ t. missing_upto w start upto k || t) (eq-eqb k upto e) ∙ or_on (missing_upto w start upto k)
      ∙ sym (ap (λ t. t && (nat_lt k (upto + 1) && is_unknown (known_in w k))) (le-leb start k (omega arith)) ∙ ap (λ t. t && is_unknown (known_in w k)) (lt-ltb k (upto + 1) (omega arith)) ∙ ap (λ i. is_unknown (known_in w i)) e ∙ u)
  | inr ne ↦ ap (λ t. missing_upto w start upto k || t) (ne_eqb k upto ne) ∙ or_off (missing_upto w start upto k) ∙ missing_other w start upto k ne
]

pub missing_no : (w : Window) (start upto : ℕ) → is_unknown (known_in w upto) ≡ false → (k : ℕ) → missing_upto w start upto k ≡ missing_upto w start (upto + 1) k
missing_no w start upto u k = elim (cases_eq k upto) [
  | inl e ↦
      let off : is_unknown (known_in w k) ≡ false = ap (λ i. is_unknown (known_in w i)) e ∙ u in
      and_off (nat_le start k) _ (and_off (nat_lt k upto) _ off) ∙ sym (and_off (nat_le start k) _ (and_off (nat_lt k (upto + 1)) _ off))
  | inr ne ↦ missing_other w start upto k ne
]

-- one number more
pub missing_more : (w : Window) (start upto : ℕ) (u : Bool) (k : ℕ) → start ≤ upto → u ≡ is_unknown (known_in w upto) → (missing_upto w start upto k || (u && (k == upto))) ≡ missing_upto w start (upto + 1) k
missing_more w start upto true k h e = missing_yes w start upto h (sym e) k
missing_more w start upto false k h e = or_off (missing_upto w start upto k) ∙ missing_no w start upto (sym e) k

up_to : (start most k : ℕ) → start ≤ k → nat_lt k (max start (most + 1)) ≡ nat_le k most
up_to start most k h = elim (cases_lt most k) [
  | inl lt ↦ le-ltb k (max start (most + 1)) (omega arith) ∙ sym (lt-leb k most lt)
  | inr ge ↦ lt-ltb k (max start (most + 1)) (omega arith) ∙ sym (le-leb k most ge)
]

-- from next on up to the lesser of last and base + 255, the missing numbers of a window are those of its story
pub missing_all : (w : Window) (h : Story) (base last k : ℕ) → Fits w h → missing_upto w w.next (max w.next (min last (base + 255) + 1)) k ≡ is_missing h base last k
missing_all w h base last k s =
    let start : w.next ≡ next h = s.next in
    let most : ℕ = min last (base + 255) in
    elim (cases_lt k w.next) [
      | inl lt ↦
          ap (λ t. t && (nat_lt k (max w.next (min last (base + 255) + 1)) && is_unknown (known_in w k))) (lt-leb w.next k lt)
          ∙ sym (ap (λ t. t && (nat_le k (min last (base + 255)) && is_unknown (known h k))) (lt-leb (next h) k (omega arith)))
      | inr ge ↦
          ap (λ t. t && (nat_lt k (max w.next (min last (base + 255) + 1)) && is_unknown (known_in w k))) (le-leb w.next k ge)
          ∙ ap (λ t. t && is_unknown (known_in w k)) (up_to w.next (min last (base + 255)) k ge)
          ∙ ap (λ x. nat_le k (min last (base + 255)) && is_unknown x) (s.each k (omega arith))
          ∙ sym (ap (λ t. t && (nat_le k (min last (base + 255)) && is_unknown (known h k))) (le-leb (next h) k (omega arith)))
    ]

pub missing_to : (w : Window) (h : Story) (start upto base last k : ℕ) → start ≡ w.next → upto ≡ max start (min last (base + 255) + 1) → Fits w h → missing_upto w start upto k ≡ is_missing h base last k
missing_to w h start upto base last k e d s =
    ap (λ u. missing_upto w start u k) d ∙ ap (λ i. missing_upto w i (max i (min last (base + 255) + 1)) k) e ∙ missing_all w h base last k s
