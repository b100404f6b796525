-- A ring of 256 places. The number k has the place k % 256.
use Rattle.std.specs.Prelude.{ℕ, ◌%◌, List, slice_index_or}
use Rattle.rel_reader.specs.declared.known.Known.{Known}
use Rattle.rel_reader.specs.declared.known.Known.TheVariants.{Unknown}

-- what stands at the place of a number
abbrev pub place_at : List Known → ℕ → Known
place_at places k = slice_index_or places (k % 256) Unknown
