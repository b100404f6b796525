-- What a number picks is one of the images that a crash may leave.
use Rattle.std.proofs.Common.{◌≡◌, inr, ℕ, ◌+◌, ◌-◌, ◌/◌, ◌%◌, ◌≤◌, ◌<◌, nat_le, if◌then◌else◌, true, false, Bool, List, [], ◌∷◌, ◌++◌, length, take, drop, refl, sym, ◌∙◌, ap, subst, arith, length-drop}
use Rattle.std.proofs.lemmas.List.{drop-drop, length-take, length-take-le, take-append-le, take-take, take_min}
use Rattle.dur_outside.specs.declared.change.Edit.{Edit}
use Rattle.dur_outside.specs.declared.change.Edit.TheVariants.{Wrote, Shortened, Synced}
use Rattle.dur_outside.specs.declared.change.Change.{Change}
use Rattle.dur_outside.specs.declared.change.Change.TheVariants.{Made, Sent}
use Rattle.dur_outside.specs.declared.values.FileId.{FileId}
use Rattle.dur_outside.specs.declared.values.FileId.TheVariants.{Zero, One}
use Rattle.dur_outside.specs.World.{over, Torn, Cut}
use Rattle.dur_outside.specs.Memory.{octets_before, ByEdit, MayHold}
use Rattle.dur_outside.specs.Picked.{tear, next_pick, edit_pick, pick_of}
use Rattle.dur_outside.proofs.Overs.{drop_over, length-over, torn_same}

-- a part of the range is written
over_within : (at s n : ℕ) (piece d : List ℕ) → at + s ≤ length d → s + length piece ≤ n → Torn at n d (over (at + s) piece d)
over_within at s n piece d reaches fits =
    let m = at + s + length piece in
    let k = at + n - m in
    let all : m + k ≡ at + n = omega (arith, fits) in
    record {
      before = take-append-le at (take (at + s) d) (piece ++ drop (at + s + length piece) d) (omega (arith, reaches, length-take-le (at + s) d reaches)) ∙ take-take at (at + s) d (omega arith);
      after = subst (λ (z : ℕ). drop z (over (at + s) piece d) ≡ drop z d) all
          (sym (drop-drop k m (over (at + s) piece d)) ∙ ap (drop k) (drop_over (at + s) piece d reaches) ∙ drop-drop k m d);
      no_shorter = omega (arith, length-over (at + s) piece d reaches);
      no_longer = omega (arith, fits, length-over (at + s) piece d reaches);
    }

placed_torn : (at s n : ℕ) (piece d : List ℕ) (b : Bool) → (b ≡ true → at + s ≤ length d) → s + length piece ≤ n → Torn at n d (if b then over (at + s) piece d else d)
placed_torn at s n piece d true reaches fits = over_within at s n piece d (reaches refl) fits
placed_torn at s n piece d false reaches fits = torn_same at n d

le_of : (a b : ℕ) → nat_le a b ≡ true → a ≤ b
le_of a b e = grind arith

part_fits : (s m n : ℕ) (made : List ℕ) → length made ≤ n → s < length made + 1 → s + length (take m (drop s made)) ≤ n
part_fits s m n made most some = omega (arith, most, some, length-take m (drop s made), length-drop s made)

tear_torn : (at count pick : ℕ) (made d : List ℕ) → length made ≤ count → Torn at count d (tear at pick made d)
tear_torn at count pick made d most =
    let s = pick % (length made + 1) in
    let m = pick / (length made + 1) % (length made + 1) in
    placed_torn at s count (take m (drop s made)) d (nat_le (at + s) (length d)) (le_of (at + s) (length d)) (part_fits s m count made most (omega arith))

longer_cut : (end more : ℕ) (d : List ℕ) → Cut end d (take (end + more) d)
longer_cut end more d = record {
  no_shorter = omega (arith, length-take (end + more) d);
  front = sym (ap (λ (k : ℕ). take k d) (length-take (end + more) d) ∙ take_min (end + more) d);
}

edit_may : (edit : Edit) (pick : ℕ) (x d : List ℕ) (M : List ℕ → Type 0) → M d → ByEdit edit x M (edit_pick edit pick x d)
edit_may (Wrote at count old) pick x d M has = inr (d, has, tear_torn at count pick (take count (drop at x)) d (omega (arith, length-take count (drop at x))))
edit_may (Shortened end tail) pick x d M has = inr (d, has, longer_cut end (pick % (length tail + 1)) d)
edit_may Synced pick x d M has = refl

pub picked_may : (past : List Change) (file : FileId) (pick : ℕ) (x : List ℕ) → MayHold past file x (pick_of past file pick x)
picked_may [] file pick x = refl
picked_may (Made Zero edit ∷ past) Zero pick x = edit_may edit pick x (pick_of past Zero (next_pick edit x pick) (octets_before edit x)) (MayHold past Zero (octets_before edit x)) (picked_may past Zero (next_pick edit x pick) (octets_before edit x))
picked_may (Made Zero edit ∷ past) One pick x = picked_may past One pick x
picked_may (Made One edit ∷ past) Zero pick x = picked_may past Zero pick x
picked_may (Made One edit ∷ past) One pick x = edit_may edit pick x (pick_of past One (next_pick edit x pick) (octets_before edit x)) (MayHold past One (octets_before edit x)) (picked_may past One (next_pick edit x pick) (octets_before edit x))
picked_may (Sent count ∷ past) file pick x = picked_may past file pick x

pub picked_here : (file : FileId) (edit : Edit) (past : List Change) (pick : ℕ) (x : List ℕ)
    → pick_of (Made file edit ∷ past) file pick x ≡ edit_pick edit pick x (pick_of past file (next_pick edit x pick) (octets_before edit x))
picked_here Zero edit past pick x = refl
picked_here One edit past pick x = refl

pub picked_elsewhere : (of file : FileId) (edit : Edit) (past : List Change) (pick : ℕ) (x : List ℕ) → (of ≡ file → ⊥)
    → pick_of (Made of edit ∷ past) file pick x ≡ pick_of past file pick x
picked_elsewhere Zero Zero edit past pick x other = absurd (other refl)
picked_elsewhere Zero One edit past pick x other = refl
picked_elsewhere One Zero edit past pick x other = refl
picked_elsewhere One One edit past pick x other = absurd (other refl)
