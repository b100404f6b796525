use Rattle.std.proofs.Common.{◌≡◌, ℕ, ◌<◌, ◌*◌, ◌^◌, Some, List, [], map, rules, sym, ap, ◌∙◌, subst, arith}
use Rattle.dur_qos.specs.declared.plan.Topic.{Topic}
use Rattle.dur_view.specs.declared.data.Instance.{Instance}
use Rattle.dur_view.specs.declared.data.Kept.{Kept}
use Rattle.dur_view.specs.Past.{Begin, part}
use Rattle.dur_view.specs.Later.{SameFrom}
use Rattle.dur_view.specs.Sound.{Ascending}
use Rattle.dur_instances.specs.declared.cells.Cell.{Cell}
use Rattle.dur_instances.specs.Trimmed.{begun_by}
use Rattle.dur_instances.specs.Layout.{keys_of, rows_of, lates_of, IsLaid}
use Rattle.dur_instances.specs.declared.changes.Change.{Change}
use Rattle.dur_instances.specs.Due.{due_of}
use Rattle.dur_instances.specs.FromView.{cell_of_line, lines_in, with_lines, changes_in}
use Rattle.dur_instances.proofs.FromView.{cells-in-order, laid-from, same-from}
use Rattle.dur_instances.proofs.instances.Instances.of_view.Goals as goal

pub of_list-requires : goal.of_list-requires
of_list-requires c =
    let t = c.args.at in
    let listed = c.deref.ensures.value ∙ c.in_ok-list.ensures ∙ ap (λ (l : List Instance). map cell_of_line (lines_in t l)) c.as_slice-lines.ensures in
    subst (λ (l : List Cell). Ascending (keys_of l)) (sym listed) (cells-in-order c.args.view.now t c.requires.sound)

pub invariant_of-result : goal.invariant_of-result
invariant_of-result c =
    let s = c.args.topic.now in
    let v = c.args.view.now in
    let t = c.args.at in
    let cells = c.in_ok-cells.cells.list in
    let regs = c.in_ok-registered.registered.items in
    let changes = c.in_ok-changes.changes.items in
    let deep : (d : ℕ) → s.depth ≡ Some d → d < 2 ^ 32 = search rules in (
      subst (λ (x : Topic). IsLaid x cells regs changes) (sym c.copy.ensures)
          (laid-from v t s c.requires.sound c.requires.topic deep cells regs changes
          (c.in_ok-cells.ensures ∙ c.deref.ensures.value ∙ c.in_ok-list.ensures ∙ ap (λ (l : List Instance). map cell_of_line (lines_in t l)) c.as_slice-lines.ensures)
          (c.in_ok-registered.ensures ∙ ap (λ (l : List Instance). with_lines (lines_in t l) []) c.as_slice-lines.ensures)
          (c.in_ok-changes.ensures ∙ ap (λ (l : List Instance). changes_in s.depth t l c.as_slice.result.now) c.as_slice-lines.ensures ∙ ap (λ (l : List Kept). changes_in s.depth t v.instances l) c.as_slice.ensures)),
      (let is = c.due_of.ensures ∙ ap (λ (l : List Change). due_of (s.delay * 2 ^ 32) cells l) c.places.ensures
          ∙ ap (λ (x : Topic). due_of (x.delay * 2 ^ 32) cells changes) (sym c.copy.ensures) in omega arith),
    )

pub returns-clause-stands : goal.returns-clause-stands
returns-clause-stands c =
    let s = c.args.topic.now in
    let v = c.args.view.now in
    let t = c.args.at in
    let cells = c.in_ok-cells.cells.list in
    let regs = c.in_ok-registered.registered.items in
    let changes = c.in_ok-changes.changes.items in
    let deep : (d : ℕ) → s.depth ≡ Some d → d < 2 ^ 32 = search rules in
    subst (λ (x : Topic). SameFrom v.last (Begin (part v t)) (begun_by x (rows_of cells regs) (lates_of cells changes))) (sym c.copy.ensures)
    (same-from v t s c.requires.sound c.requires.topic deep cells regs changes
    (c.in_ok-cells.ensures ∙ c.deref.ensures.value ∙ c.in_ok-list.ensures ∙ ap (λ (l : List Instance). map cell_of_line (lines_in t l)) c.as_slice-lines.ensures)
    (c.in_ok-registered.ensures ∙ ap (λ (l : List Instance). with_lines (lines_in t l) []) c.as_slice-lines.ensures)
    (c.in_ok-changes.ensures ∙ ap (λ (l : List Instance). changes_in s.depth t l c.as_slice.result.now) c.as_slice-lines.ensures ∙ ap (λ (l : List Kept). changes_in s.depth t v.instances l) c.as_slice.ensures) v.last)
