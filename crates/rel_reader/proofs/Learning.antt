-- A window that is told of one number, or of all below one.
use Rattle.std.proofs.Common.{◌≡◌, ℕ, ◌+◌, ◌-◌, ◌%◌, ◌^◌, ◌<◌, ◌≤◌, ◌==◌, ◌&&◌, ◌||◌, ◌⊎◌, not, Bool, true, false, cond, max, length, refl, ap, sym, ◌∙◌, arith, inl, inr}
use Rattle.std.specs.Prelude.{slice_set, nat_lt, nat_le}
use Rattle.std.proofs.lemmas.Bool.{cases_eq, cases_lt, cases_Bool, eq-eqb, ne_eqb, lt-ltb, le-ltb, le-leb, leb-true, ltb-true, eqb-true}
use Rattle.std.proofs.lemmas.Bool.Decides.{nat_tests}
use Rattle.rel_reader.specs.declared.known.Known.{Known}
use Rattle.rel_reader.specs.declared.known.Known.TheVariants.{Unknown, Irrelevant}
use Rattle.rel_reader.specs.Knowledge.{is_unknown, or_else}
use Rattle.rel_reader.specs.Stories.{next}
use Rattle.rel_reader.specs.KnownNumbers.{is_near}
use Rattle.rel_reader.specs.Places.{place_at}
use Rattle.rel_reader.specs.Windows.{Window, Shows, known_in, kept_at, below_floor}
use Rattle.rel_reader.specs.Steps.{said, said_below, is_open, with_known, with_floor}
use Rattle.rel_reader.proofs.RingPlaces.{put_same, put_other}
use Rattle.rel_reader.proofs.Knowing.{or_nothing, or_known, or_unknown, or_assoc}

-- what a window knows may be said in another way
pub same_shown : (w : Window) (n : ℕ) (f g : ℕ → Known) → ((k : ℕ) → f k ≡ g k) → Shows w n f → Shows w n g
same_shown w n f g e s = record { next = s.next; each = λ k h. s.each k h ∙ e k; last = λ k h. sym (e k) ∙ s.last k h }

said_other : (n j : ℕ) (x : Known) (k : ℕ) → (k ≡ j → ⊥) → said n j x k ≡ Unknown
said_other n j x k ne = ap (λ b. cond (b && is_near n k) x Unknown) (ne_eqb k j ne)

said_far : (n j : ℕ) (x : Known) (k : ℕ) → is_near n k ≡ false → said n j x k ≡ Unknown
said_far n j x k far = ap (λ b. cond ((k == j) && b) x Unknown) far ∙ and_no (k == j) where
  and_no : (b : Bool) → cond (b && false) x Unknown ≡ Unknown
  and_no true = refl
  and_no false = refl

said_here : (n j : ℕ) (x : Known) → is_near n j ≡ true → said n j x j ≡ x
said_here n j x near = ap (λ b. cond (b && is_near n j) x Unknown) (eq-eqb j j refl) ∙ ap (λ b. cond b x Unknown) near

pub last_far : (n k : ℕ) → 2 ^ 63 - 1 ≤ k → is_near n k ≡ false
last_far n k h = grind (arith, le-ltb k (2 ^ 63 - 1) h)

third : (a b c : Bool) → (a && (b && c)) ≡ false → a ≡ true → b ≡ true → c ≡ false
third true true c h p q = h
third true false c h p q = cc
third false b c h p q = cc

all_three : (a b c : Bool) → (a && (b && c)) ≡ true → (a ≡ true) × (b ≡ true) × (c ≡ true)
all_three true true c h = (refl, refl, h)
all_three true false c h = cc
all_three false b c h = cc

both : (a b : Bool) → (a && b) ≡ true → (a ≡ true) × (b ≡ true)
both true b h = (refl, h)
both false b h = cc

says_nothing : (w : Window) (j : ℕ) (x : Known) → is_open w j ≡ false
    → (n : ℕ) (f : ℕ → Known) → Shows w n f → (k : ℕ) → n ≤ k → or_else (f k) (said n j x k) ≡ f k
says_nothing w j x shut n f s k h = elim (cases_eq k j) [
  | inr ne ↦ ap (or_else (f k)) (said_other n j x k ne) ∙ or_nothing (f k)
  | inl e ↦ elim (cases_Bool (is_near n k)) [
    | inr far ↦ ap (or_else (f k)) (said_far n j x k far) ∙ or_nothing (f k)
    | inl near ↦
        let start : w.next ≡ n = s.next in
        let le : nat_le w.next j ≡ true = le-leb w.next j (omega arith) in
        let near_j : is_near w.next j ≡ true = ap (λ m. is_near m j) start ∙ ap (is_near n) (sym e) ∙ near in
        let known : is_unknown (known_in w j) ≡ false = third _ _ _ shut le near_j in
        or_known (f k) (said n j x k) (ap is_unknown (sym (s.each k h) ∙ ap (known_in w) e) ∙ known)
  ]
]

-- a number that isn't open
pub ignored : (w : Window) (j : ℕ) (x : Known) → is_open w j ≡ false
    → (n : ℕ) (f : ℕ → Known) → Shows w n f → Shows w n (λ k. or_else (f k) (said n j x k))
ignored w j x shut n f s = record {
  next = s.next;
  each = λ k h. s.each k h ∙ sym (says_nothing w j x shut n f s k h);
  last = λ k h. ap (or_else (f k)) (said_far n j x k (last_far n k h)) ∙ or_nothing (f k) ∙ s.last k h;
}

hole_other : (h a b : Bool) → (a ≡ false) ⊎ (b ≡ false) → ((h && not a) && b) ≡ (h && b)
hole_other false a b e = refl
hole_other true false b e = refl
hole_other true true false e = refl
hole_other true true true e = elim e [ inl p ↦ cc | inr p ↦ cc ]

apart : (next j k : ℕ) → (k ≡ j → ⊥) → ((j == next) ≡ false) ⊎ ((k == next) ≡ false)
apart next j k ne = elim (cases_eq k next) [
  | inl e ↦ inl (ne_eqb j next (λ d. ne (e ∙ sym d)))
  | inr d ↦ inr (ne_eqb k next d)
]

kept_other : (w : Window) (j k : ℕ) (x : Known) → (k ≡ j → ⊥) → w.next ≤ j → j < w.next + 256 → w.next ≤ k → kept_at (with_known w j x) k ≡ kept_at w k
kept_other w j k x ne a b c = elim (cases_lt k (w.next + 256)) [
  | inl near ↦ ap (λ p. cond (nat_lt k (w.next + 256)) p Unknown) (put_other w.places j k x (λ e. ne (omega arith)))
  | inr far ↦ ap (λ t. cond t (place_at (slice_set w.places (j % 256) x) k) Unknown) (le-ltb k (w.next + 256) far) ∙ sym (ap (λ t. cond t (place_at w.places k) Unknown) (le-ltb k (w.next + 256) far))
]

known_other : (w : Window) (j k : ℕ) (x : Known) → (k ≡ j → ⊥) → w.next ≤ j → j < w.next + 256 → w.next ≤ k → known_in (with_known w j x) k ≡ known_in w k
known_other w j k x ne a b c =
    let kept = kept_other w j k x ne a b c in
    let below : below_floor (with_known w j x) k ≡ below_floor w k = ap (λ t. cond (nat_lt k w.floor && not t) Irrelevant Unknown) (hole_other w.refused (j == w.next) (k == w.next) (apart w.next j k ne)) in
    ap (λ p. or_else p (below_floor (with_known w j x) k)) kept ∙ ap (or_else (kept_at w k)) below

-- what is known of the number that was written, and of any other
known_here : (w : Window) (j : ℕ) (x : Known) → length w.places ≡ 256 → j < w.next + 256 → is_unknown x ≡ false → known_in (with_known w j x) j ≡ x
known_here w j x size near some =
    ap (λ t. or_else (cond t (place_at (slice_set w.places (j % 256) x) j) Unknown) (below_floor (with_known w j x) j)) (lt-ltb j (w.next + 256) near)
    ∙ ap (λ p. or_else p (below_floor (with_known w j x) j)) (put_same w.places j x size)
    ∙ or_known x _ some

ltb_near : (n j : ℕ) → is_near n j ≡ true → j < n + 256
ltb_near n j h = ltb-true j (n + 256) (both _ _ h).0

-- a number that is open
pub taken : (w : Window) (j : ℕ) (x : Known) → length w.places ≡ 256 → is_unknown x ≡ false → is_open w j ≡ true
    → (n : ℕ) (f : ℕ → Known) → Shows w n f → Shows (with_known w j x) n (λ k. or_else (f k) (said n j x k))
taken w j x size some opened n f s =
    let parts = all_three (nat_le w.next j) (is_near w.next j) (is_unknown (known_in w j)) opened in
    let le : w.next ≤ j = leb-true w.next j parts.0 in
    let near : j < w.next + 256 = ltb_near w.next j parts.1 in
    let start : w.next ≡ n = s.next in
    record {
      next = s.next;
      each = λ k h. elim (cases_eq k j) [
        | inl e ↦
            ap (known_in (with_known w j x)) e ∙ known_here w j x size near some
            ∙ sym (ap (λ i. or_else (f i) (said n j x i)) e ∙ or_unknown (f j) (said n j x j) (ap is_unknown (sym (s.each j (omega arith))) ∙ parts.2)
            ∙ said_here n j x (ap (λ m. is_near m j) (sym start) ∙ parts.1))
        | inr ne ↦
            known_other w j k x ne le near (omega arith) ∙ s.each k h
            ∙ sym (ap (or_else (f k)) (said_other n j x k ne) ∙ or_nothing (f k))
      ];
      last = λ k h. ap (or_else (f k)) (said_far n j x k (last_far n k h)) ∙ or_nothing (f k) ∙ s.last k h;
    }

below_raised : (e t l a b : Bool) → (e ≡ true → l ≡ not b)
    → cond ((a || b) && not ((t && l) && e)) Irrelevant Unknown ≡ or_else (cond (a && not (t && e)) Irrelevant Unknown) (cond b Irrelevant Unknown)
below_raised false false l true b h = refl
below_raised false false l false true h = refl
below_raised false false l false false h = refl
below_raised false true true true b h = refl
below_raised false true true false true h = refl
below_raised false true true false false h = refl
below_raised false true false true b h = refl
below_raised false true false false true h = refl
below_raised false true false false false h = refl
below_raised true false l true b h = refl
below_raised true false l false true h = refl
below_raised true false l false false h = refl
below_raised true true true true true h = cc (h refl)
below_raised true true true true false h = refl
below_raised true true true false true h = cc (h refl)
below_raised true true true false false h = refl
below_raised true true false true true h = refl
below_raised true true false true false h = cc (h refl)
below_raised true true false false true h = refl
below_raised true true false false false h = refl

lt_max : (k a b : ℕ) → nat_lt k (max a b) ≡ (nat_lt k a || nat_lt k b)
lt_max k a b = grind (arith, nat_tests)

le_not_lt : (a b : ℕ) → nat_le a b ≡ not (nat_lt b a)
le_not_lt a b = grind (arith, nat_tests)

floor_raised : (w : Window) (first k : ℕ) → below_floor (with_floor w first) k ≡ or_else (below_floor w k) (said_below first k)
floor_raised w first k =
    ap (λ t. cond (t && not ((w.refused && nat_le first w.next) && (k == w.next))) Irrelevant Unknown) (lt_max k w.floor first)
    ∙ below_raised (k == w.next) w.refused (nat_le first w.next) (nat_lt k w.floor) (nat_lt k first)
    (λ e. let here : k ≡ w.next = eqb-true k w.next e in le_not_lt first w.next ∙ ap (λ i. not (nat_lt i first)) (sym here))

-- a raised floor
pub raised : (w : Window) (first : ℕ) → first < 2 ^ 63 → (n : ℕ) (f : ℕ → Known) → Shows w n f
    → Shows (with_floor w first) n (λ k. or_else (f k) (said_below first k))
raised w first small n f s = record {
  next = s.next;
  each = λ k h.
      ap (or_else (kept_at w k)) (floor_raised w first k)
      ∙ sym (or_assoc (kept_at w k) (below_floor w k) (said_below first k))
      ∙ ap (λ p. or_else p (said_below first k)) (s.each k h);
  last = λ k h. ap (λ t. or_else (f k) (cond t Irrelevant Unknown)) (le-ltb k first (omega arith)) ∙ or_nothing (f k) ∙ s.last k h;
}
