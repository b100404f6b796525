-- Fronts of a replay, and what is handed out of them.
use Rattle.std.proofs.Common.{suc, zero, ◌≡◌, ℕ, ◌+◌, ◌≤◌, Bool, true, false, cond, List, [], ◌∷◌, ◌++◌, length, take, refl, ap, sym, ◌∙◌, arith, inl, inr}
use Rattle.std.specs.Prelude.{Option, Some, None, slice_get, is_some, ◌||◌, ◌&&◌}
use Rattle.std.specs.List.{AllByRecursion, list_all}
use Rattle.std.proofs.lemmas.Option.{slice_get_within, get_or_from_slice_get}
use Rattle.std.proofs.lemmas.Grind.{take_at_read}
use Rattle.std.proofs.lemmas.Bool.{cases_Bool}
use Rattle.dur_base.specs.declared.sample.Sample.{Sample}
use Rattle.rel_writer.specs.Replays.{replay}
use Rattle.rel_writer.specs.Sets.{is_marker, set_of, set_of_mark, is_same_set, is_open, handed, any_marker}
use Rattle.rel_writer.specs.Law.{IsFront}

pub take_step : (xs : List Sample) (n : ℕ) (s : Sample) → slice_get xs n ≡ Some s
    → take (n + 1) xs ≡ take n xs ++ s ∷ []
take_step xs n s e = (take_at_read xs n s (slice_get_within xs n s e)).1
    ∙ ap (λ x. take n xs ++ x ∷ []) (get_or_from_slice_get xs n s s e)

abbrev pub AreChanges : List Sample → Type 0
AreChanges xs = AllByRecursion (λ s. is_marker s ≡ false) xs

and_off : (a b : Bool) → b ≡ false → (a && b) ≡ false
and_off true b h = h
and_off false b h = refl

never_none : (o : Option ℕ) → is_same_set o None ≡ false
never_none None = refl
never_none (Some f) = refl

marker_apart : (o : Option ℕ) (s : Sample) → is_marker s ≡ true → is_same_set o (set_of s) ≡ false
marker_apart o s h = ap (λ b. is_same_set o (cond b None (set_of_mark s.set))) h ∙ never_none o

not_all : (o : Option ℕ) (later : List Sample) → any_marker later ≡ true
    → list_all (λ y. is_same_set o (set_of y)) later ≡ false
not_all o [] h = cc
not_all o (y ∷ ys) h = elim (cases_Bool (is_marker y)) [
  | inl it ↦ ap (λ b. b && list_all (λ z. is_same_set o (set_of z)) ys) (marker_apart o y it)
  | inr other ↦
      and_off (is_same_set o (set_of y)) _
      (not_all o ys (sym (ap (λ b. b || any_marker ys) other) ∙ h))
]

-- a marker ends each set before it
not_open : (s : Sample) (later : List Sample) → any_marker later ≡ true → is_open s later ≡ false
not_open s later h = and_off (is_some (set_of s)) _ (not_all (set_of s) later h)

nothing_handed : (k : ℕ) → handed (take k []) ≡ []
nothing_handed zero = refl
nothing_handed (suc k) = refl

pub front : (xs : List Sample) → AreChanges xs → (k : ℕ) → IsFront (handed (take k (replay xs))) xs
front [] h zero = ([], refl)
front [] h (suc k) = ([], ap (λ t. t ++ []) (nothing_handed k))
front (x ∷ xs) h zero = (x ∷ xs, refl)
front (x ∷ xs) h (suc k) =
    let later = take k (replay xs) in
    let rest = cond (is_marker x) (handed later) (x ∷ handed later) in
    let r = front xs h.1 k in
    elim (cases_Bool (is_open x later)) [
      | inl it ↦ (x ∷ xs, ap (λ b. cond b [] rest ++ (x ∷ xs)) it)
      | inr other ↦ (
        r.0,
        ap (λ b. cond b [] rest ++ r.0) other
            ∙ ap (λ b. cond b (handed later) (x ∷ handed later) ++ r.0) h.0 ∙ ap (λ t. x ∷ t) r.1,
      )
    ]

pub all_when_marked : (xs : List Sample) → AreChanges xs → (k : ℕ)
    → any_marker (take k (replay xs)) ≡ true → handed (take k (replay xs)) ≡ xs
all_when_marked [] h zero m = cc
all_when_marked [] h (suc k) m = nothing_handed k
all_when_marked (x ∷ xs) h zero m = cc
all_when_marked (x ∷ xs) h (suc k) m =
    let later = take k (replay xs) in
    let there : any_marker later ≡ true = sym (ap (λ b. b || any_marker later) h.0) ∙ m in
    ap (λ b. cond b [] (cond (is_marker x) (handed later) (x ∷ handed later)))
    (not_open x later there)
    ∙ ap (λ b. cond b (handed later) (x ∷ handed later)) h.0
    ∙ ap (λ t. x ∷ t) (all_when_marked xs h.1 k there)

or_on : (b : Bool) → (b || true) ≡ true
or_on true = refl
or_on false = refl

pub marked_when_long : (xs : List Sample) (k : ℕ) → length xs + 1 ≤ k
    → any_marker (take k (replay xs)) ≡ true
marked_when_long [] zero l = absurd (omega arith)
marked_when_long [] (suc k) l = refl
marked_when_long (x ∷ xs) zero l = absurd (omega arith)
marked_when_long (x ∷ xs) (suc k) l =
    ap (λ b. is_marker x || b) (marked_when_long xs k (omega arith)) ∙ or_on (is_marker x)
