-- A window that goes on to another next number.
use Rattle.std.proofs.Common.{◌≡◌, ℕ, ◌+◌, ◌%◌, ◌<◌, ◌≤◌, ◌==◌, ◌&&◌, not, Bool, true, false, cond, List, length, refl, ap, sym, subst, ◌∙◌, arith, inl, inr}
use Rattle.std.specs.Prelude.{slice_set, nat_lt, IsSome, IfSome, Some, None}
use Rattle.std.specs.declared.option.Option.{Option}
use Rattle.std.proofs.lemmas.Bool.{cases_lt, ne_eqb, lt-ltb, le-ltb, true≢false}
use Rattle.dur_base.specs.declared.sample.Sample.{Sample}
use Rattle.rel_reader.specs.declared.known.Known.{Known}
use Rattle.rel_reader.specs.declared.known.Known.TheVariants.{Unknown, Irrelevant, With}
use Rattle.rel_reader.specs.Knowledge.{or_else, is_irrelevant}
use Rattle.rel_reader.specs.Stories.{Story, next}
use Rattle.rel_reader.specs.Skips.{IsSkip}
use Rattle.rel_reader.specs.Places.{place_at}
use Rattle.rel_reader.specs.Windows.{Window, Fits, Shows, known_in, kept_at, below_floor}
use Rattle.rel_reader.specs.Steps.{past_next}
use Rattle.rel_reader.proofs.RingPlaces.{same_place, put_same, put_other}

no_hole : (h e : Bool) → e ≡ false → (h && e) ≡ false
no_hole true e p = p
no_hole false e p = refl

-- on to another number: what stands in both windows stays, and what comes into the window is empty
pub moved : (w : Window) (to top : ℕ) (places : List Known)
    → ((k : ℕ) → to ≤ k → k < w.next + 256 → place_at places k ≡ place_at w.places k)
    → ((k : ℕ) → to ≤ k → w.next + 256 ≤ k → k < to + 256 → place_at places k ≡ Unknown)
    → w.next < to → (n : ℕ) (f : ℕ → Known) → Shows w n f
    → Shows (record { next = to; floor = w.floor; top = top; refused = false; places = places }) to f
moved w to top places stays comes after n f s =
    let start : w.next ≡ n = s.next in
    let new : Window = record { next = to; floor = w.floor; top = top; refused = false; places = places } in
    record {
      next = refl;
      each = λ k h.
          let kept : kept_at new k ≡ kept_at w k = elim (cases_lt k (w.next + 256)) [
            | inl near ↦
                ap (λ t. cond t (place_at places k) Unknown) (lt-ltb k (to + 256) (omega arith)) ∙ stays k h near
                ∙ sym (ap (λ t. cond t (place_at w.places k) Unknown) (lt-ltb k (w.next + 256) near))
            | inr far ↦ elim (cases_lt k (to + 256)) [
              | inl near ↦
                  ap (λ t. cond t (place_at places k) Unknown) (lt-ltb k (to + 256) near) ∙ comes k h far near
                  ∙ sym (ap (λ t. cond t (place_at w.places k) Unknown) (le-ltb k (w.next + 256) far))
              | inr farther ↦
                  ap (λ t. cond t (place_at places k) Unknown) (le-ltb k (to + 256) farther)
                  ∙ sym (ap (λ t. cond t (place_at w.places k) Unknown) (le-ltb k (w.next + 256) far))
            ]
          ] in
          let below : below_floor new k ≡ below_floor w k = ap (λ t. cond (nat_lt k w.floor && not t) Irrelevant Unknown) (sym (no_hole w.refused (k == w.next) (ne_eqb k w.next (λ e. absurd (omega arith))))) in
          ap (λ p. or_else p (below_floor new k)) kept ∙ ap (or_else (kept_at w k)) below ∙ s.each k (omega arith);
      last = s.last;
    }

-- past a sample
pub pulled : (w : Window) → length w.places ≡ 256 → (n : ℕ) (f : ℕ → Known) → Shows w n f → Shows (past_next w) (n + 1) f
pulled w size n f s =
    let start : w.next ≡ n = s.next in
    subst (λ (m : ℕ). Shows (past_next w) (m + 1) f) start
    (moved w (w.next + 1) w.top (slice_set w.places (w.next % 256) Unknown)
    (λ k a b. put_other w.places w.next k Unknown (λ d. absurd (omega arith)))
    (λ k a b d. same_place (slice_set w.places (w.next % 256) Unknown) k w.next (omega arith) ∙ put_same w.places w.next Unknown size)
    (omega arith) n f s)

-- what was taken out is the sample
pub some_is : (o : Option Sample) (x : Known) (s : Sample) → IsSome o → IfSome o (λ t. x ≡ With t) → x ≡ With s → o ≡ Some s
some_is (Some t) x s h e d = let same : With t ≡ With s = sym e ∙ d in cc
some_is None x s h e d = absurd (true≢false (sym h))

-- a window's longest range of irrelevant numbers is the story's skip
pub skip_of : (w : Window) (h : Story) (to : ℕ) → Fits w h → w.next < to → ((k : ℕ) → w.next ≤ k → k < to → known_in w k ≡ Irrelevant) → is_irrelevant (known_in w to) ≡ false → IsSkip h to
skip_of w h to s some each ends =
    let start : w.next ≡ next h = s.next in
    record {
      some = omega arith;
      each = λ k a b. sym (s.each k a) ∙ each k (omega arith) b;
      ends = λ e. true≢false (sym (ap is_irrelevant (s.each to (omega arith) ∙ e)) ∙ ends);
    }
