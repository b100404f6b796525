-- A text goes out piece by piece.
use Rattle.std.proofs.Common.{◌≡◌, ℕ, ◌+◌, ◌++◌, List, take, drop, refl, sym, ◌∙◌, ap, Ok, append_assoc, arith}
use Rattle.std.proofs.lemmas.List.{drop-drop}
use Rattle.std.proofs.Math.Seq.{take-add}
use Rattle.std.proofs.lemmas.Grind.{common_steps}
use Rattle.dur_outside.specs.World.{Image, World, Sends}
use Rattle.dur_rerun.specs.Saying.{IsSaying}

pub begins : (text : List ℕ) (i : Image) → IsSaying text text i i
begins text i = record { count = 0; left = refl; written = ap (λ (x : List ℕ). record i { written = x }) (grind (arith, common_steps)) }

pub says_more : {E : Type 0} → (text rest later : List ℕ) (n : ℕ) (old : Image) (u v : World)
    → IsSaying text rest old u.now → Sends {E = E} rest (Ok n) u v → later ≡ drop n rest → IsSaying text later old v.now
says_more text rest later n old u v so_far sent is = record {
  count = so_far.count + n;
  left = is ∙ ap (drop n) so_far.left ∙ drop-drop n so_far.count text;
  written =
      sent.done.2
      ∙ ap (λ (c : Image). record c { written = c.written ++ take n rest }) so_far.written
      ∙ ap (λ (x : List ℕ). record old { written = x })
      (append_assoc old.written (take so_far.count text) (take n rest)
      ∙ ap (λ (x : List ℕ). old.written ++ x) (ap (λ (r : List ℕ). take so_far.count text ++ take n r) so_far.left ∙ sym (take-add so_far.count n text)));
}
