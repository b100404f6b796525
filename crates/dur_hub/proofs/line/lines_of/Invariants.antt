use Rattle.std.proofs.Common.{take, map}
use Rattle.std.specs.List.{AllByRecursion}
use Rattle.dur_view.specs.declared.data.View.{View}
use Rattle.dur_view.specs.History.{Start}
use Rattle.dur_store.specs.Keeps.{Keeps}
use Rattle.dur_hub.specs.Runs.{first_writer}
use Rattle.dur_hub.specs.Openings.{WriterStands}
use Rattle.dur_hub.specs.Lines.{LinesFit}
use Rattle.dur_hub.proofs.line.lines_of.Given as goal

abbrev pub invariant-loop-writer : goal.invariant-loop-writer
invariant-loop-writer l =
    (v : View) → Keeps l.store (Start v) → AllByRecursion (WriterStands l.plan v) l.plan.writers
    → LinesFit l.plan (Start v) 0 l.lines.items (map (first_writer v) (take l.writer-index l.plan.writers))
