use Rattle.std.proofs.Common.{◌≡◌, cond, Some, rules, ap, ◌∙◌}
use Rattle.dur_view.specs.Identities.{Key}
use Rattle.dur_view.specs.Words.{is_key}
use Rattle.dur_instances.specs.declared.cells.Cell.{Cell}
use Rattle.dur_instances.specs.declared.table.State.{State}
use Rattle.dur_instances.specs.Layout.{with_cell}
use Rattle.dur_instances.specs.Table.{CellsNow, cells_by}
use Rattle.dur_instances.proofs.ByKey.{had, put-by}
use Rattle.dur_instances.proofs.table.Cells.put.Goals as goal
use Rattle.dur_instances.proofs.table.Cells.put.Goals.{in-Ok, in-Err}

pub returns-clause-list : goal.returns-clause-list
returns-clause-list c =
    let raw = c.cell.inside.0 in
    let s : State = record { disposed = raw.1.0; quiet = raw.1.1.0; count = raw.1.1.1.0 } in
    let es = c.self.inside.map.entries in
    let puts : (q : Key) → had q c.insert.new.self.entries ≡ cond (is_key raw.0.0 q) (Some s) (had q es) =
    elim c.match-insert.branch [ in-Ok w ↦ w.in-Ok.ensures.updates.0 | in-Err w ↦ absurd (search rules) ] in
    put-by raw.0.0 s es c.insert.new.self.entries puts ∙ ap (λ (x : Cell). with_cell x (cells_by es)) c.cell.view_is ∙ ap (λ (v : CellsNow). with_cell c.args.cell v.list) c.self.view_is
