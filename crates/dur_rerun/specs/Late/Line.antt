-- What `late` prints.
use Rattle.std.specs.Prelude.{ℕ, List, map}
use Rattle.std.specs.List.{flat_map}
use Rattle.rel_writer.specs.declared.taken.Replayed.{Replayed}
use Rattle.rel_writer.specs.LateReaders.{Late}
use Rattle.rel_writer.specs.Sets.{handed}
use Rattle.rel_writer.specs.Standing.{replayed}
use Rattle.dur_rerun.specs.List.Line.{change_text}

-- a change as `list` prints it, without the topic
unfoldable pub late_line : Replayed → List ℕ
late_line r = change_text r.original r.number r.sample

abbrev pub lines : List Replayed → List ℕ
lines taken = flat_map late_line taken

-- the lines of what it took
abbrev pub late_text : Late → List ℕ
late_text l = lines (map replayed (handed l.handled))
