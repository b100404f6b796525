-- What a view says of the kept changes at a moment.
use Rattle.std.proofs.Common.{◌≡◌, ℕ, ◌+◌, ◌-◌, ◌*◌, ◌^◌, ◌≤◌, cond, Option, Some, None, List, [], ◌∷◌, ◌++◌, map, refl, sym, ap, ◌∙◌, arith}
use Rattle.std.specs.Prelude.{find, option_map, count_by}
use Rattle.dur_qos.specs.declared.plan.Topic.{Topic}
use Rattle.dur_view.specs.Identities.{Key}
use Rattle.dur_view.specs.declared.data.Instance.{Instance}
use Rattle.dur_view.specs.Words.{is_key}
use Rattle.dur_view.specs.Past.{Made, Past}
use Rattle.dur_view.specs.View.{lines_at, kept_from, kept_of, counted, is_made_of, key_place}
use Rattle.dur_view.specs.Later.{SameFrom}
use Rattle.dur_instances.specs.declared.cells.Cell.{Cell}
use Rattle.dur_instances.specs.declared.registered.Registered.{Registered}
use Rattle.dur_instances.specs.declared.changes.Change.{Change}
use Rattle.dur_instances.specs.Trimmed.{begun_by, top}
use Rattle.dur_instances.specs.Layout.{rows_of, late_of, lates_of, left_of, is_change_of, first_later, line_shown, place_in_cells, shown_ordinal, all_shown, cells_there, count_in, IsLaid}
use Rattle.dur_instances.proofs.Follows.{map-append}
use Rattle.dur_instances.proofs.Shown.{made_at, find-map, count-map, raised-few, living-kept, lines-kept}

place-lines : (topic : ℕ) (depth : Option ℕ) (cells : List Cell) (regs : List Registered) (left : List Change) (cs : List Cell) (k : Key) → key_place (map (line_shown topic depth cells regs left) cs) k ≡ place_in_cells cs k
place-lines topic depth cells regs left [] k = refl
place-lines topic depth cells regs left (c ∷ cs) k = ap (λ n. cond (is_key c.key k) 0 (n + 1)) (place-lines topic depth cells regs left cs k)

module _ (s : Topic) (cells : List Cell) (regs : List Registered) (changes : List Change) (laid : IsLaid s cells regs changes) (longest t : ℕ) (is-longest : longest ≡ s.delay * 2 ^ 32) where
  abbrev b : Past
  b = begun_by s (rows_of cells regs) (lates_of cells changes)

  abbrev left : List Change
  left = left_of cells longest t changes

  ordinal-at : (depth : Option ℕ) (c : Change) (o : Option Change) (n : ℕ) → counted depth (option_map (made_at cells) o) (top - (late_of cells c).later) (n + 1) ≡ shown_ordinal depth (option_map (λ x. (late_of cells x).later) o) (late_of cells c).later n
  ordinal-at None c o n = refl
  ordinal-at (Some d) c None n = refl
  ordinal-at (Some d) c (Some f) n = let a = raised-few c.at (count_in cells c.sample.key) (laid.counts c.sample.key) in let e = raised-few f.at (count_in cells f.sample.key) (laid.counts f.sample.key) in omega arith

  kept-at : (topic : ℕ) (lines : List Instance) → lines ≡ map (line_shown topic s.depth cells regs left) (cells_there cells longest t) → (before cs : List Change)
      → kept_from 0 b lines (map (made_at cells) left) (map (made_at cells) before) (map (made_at cells) cs) ≡ all_shown s.depth cells (cells_there cells longest t) left before cs
  kept-at topic lines is before [] = refl
  kept-at topic lines is before (c ∷ cs) =
      let k = c.sample.key in
      let at_place : key_place lines k ≡ place_in_cells (cells_there cells longest t) k = ap (λ (l : List Instance). key_place l k) is ∙ place-lines topic s.depth cells regs left (cells_there cells longest t) k in
      let place : 0 + key_place lines k ≡ place_in_cells (cells_there cells longest t) k = omega arith in
      let ordinal : counted s.depth (find (is_made_of k) (map (made_at cells) left)) (top - (late_of cells c).later) (count_by (is_made_of k) (map (made_at cells) before) + 1)
      ≡ shown_ordinal s.depth (first_later cells k left) (late_of cells c).later (count_by (is_change_of k) before) =
      ap (λ o. counted s.depth o (top - (late_of cells c).later) (count_by (is_made_of k) (map (made_at cells) before) + 1)) (find-map (made_at cells) (is_made_of k) left)
      ∙ ap (λ z. counted s.depth (option_map (made_at cells) (find (is_change_of k) left)) (top - (late_of cells c).later) (z + 1)) (count-map (made_at cells) (is_made_of k) before)
      ∙ ordinal-at s.depth c (find (is_change_of k) left) (count_by (is_change_of k) before) in
      let more = map-append (made_at cells) before (c ∷ []) in
      let rest = ap (λ (l : List Made). kept_from 0 b lines (map (made_at cells) left) l (map (made_at cells) cs)) (sym more) ∙ kept-at topic lines is (before ++ c ∷ []) cs in
      cc

  pub kept-stand : (p : Past) (last topic : ℕ) → last ≤ t → SameFrom last p b → all_shown s.depth cells (cells_there cells longest t) left [] left ≡ kept_of 0 topic p t
  kept-stand p last topic le same =
      sym (kept-at topic (lines_at topic b t) (lines-kept s cells regs changes laid longest t is-longest topic) [] left)
      ∙ ap (λ (l : List Made). kept_from 0 b (lines_at topic b t) l [] l) (sym (living-kept s cells regs changes laid longest t is-longest))
      ∙ sym (same.kept 0 topic [] t record { rising = tt; upto = le })
