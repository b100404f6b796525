-- The two files of a journal, as texts name them.
use Rattle.std.specs.Prelude.{ℕ, List, codes}
use Rattle.dur_outside.specs.declared.values.FileId.{FileId}
use Rattle.dur_outside.specs.declared.values.FileId.TheVariants.{Zero, One}

-- 0 or 1
abbrev pub file_digit : FileId → List ℕ
file_digit Zero = codes "0"
file_digit One = codes "1"
