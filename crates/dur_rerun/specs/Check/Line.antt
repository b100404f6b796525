-- The lines of `check`.
use Rattle.std.specs.Prelude.{ℕ, List, [], ◌++◌, Some, None, unwrap_or, codes}
use Rattle.std.specs.declared.option.Option.{Option}
use Rattle.std.specs.List.{flat_map}
use Rattle.std.specs.Fmt.{decimal}
use Rattle.dur_outside.specs.declared.values.FileId.{FileId}
use Rattle.dur_view.specs.declared.data.Kept.{Kept}
use Rattle.dur_view.specs.declared.data.View.{View}
use Rattle.dur_view.specs.IsSound.{topic_at}
use Rattle.dur_journal.specs.Histories.{name_at}
use Rattle.dur_journal.specs.declared.seen.Look.{Look}
use Rattle.dur_journal.specs.declared.seen.Look.TheVariants.{Blank, Closed, Open, Broken}
use Rattle.dur_rerun.specs.Files.{file_digit}
use Rattle.dur_rerun.specs.List.Line.{change_words}

-- what a file is
abbrev pub look_text : Look → List ℕ
look_text Blank = codes "blank"
look_text Closed = codes "closed"
look_text (Open generation records view) = codes "open " ++ decimal generation ++ codes " " ++ decimal records
look_text (Broken at) = codes "broken " ++ decimal at

abbrev pub file_line : FileId → Look → List ℕ
file_line file look = codes "file " ++ file_digit file ++ codes " " ++ look_text look ++ codes "\n"

-- the moment at which a change arrived, or a dash where it is not known
abbrev pub arrival_text : Option ℕ → List ℕ
arrival_text None = codes "-"
arrival_text (Some moment) = decimal moment

-- the original that its sample came with, or else its writer and its number (DDSI-RTPS 8.7.9)
abbrev pub original_of : Kept → List ℕ × ℕ
original_of c = unwrap_or c.sample.original (c.writer, c.number)

-- what `list` prints of a change in its topic, and when it arrived
unfoldable pub kept_line : View → Kept → List ℕ
kept_line v c =
    name_at v.topics (topic_at v c) ++ codes " " ++ change_words (original_of c).0 (original_of c).1 c.sample
    ++ codes " " ++ arrival_text c.arrived ++ codes "\n"

-- the lines of the changes that a view keeps, topic by topic and in the order of effect, as they stand there
abbrev pub kept_text : View → List ℕ
kept_text v = flat_map (kept_line v) v.kept

-- those of a view, if there is one
abbrev pub live_text : Option View → List ℕ
live_text None = []
live_text (Some v) = kept_text v
