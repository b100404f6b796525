-- What is known of one number of a writer: nothing, that it is irrelevant, or its sample.
use Rattle.std.specs.Prelude.{Bool, true, false, Option, Some, None}
use Rattle.dur_base.specs.declared.sample.Sample.{Sample}
use Rattle.rel_reader.specs.declared.known.Known.{Known}
use Rattle.rel_reader.specs.declared.known.Known.TheVariants.{Unknown, Irrelevant, With}

abbrev pub is_unknown : Known → Bool
is_unknown Unknown = true
is_unknown Irrelevant = false
is_unknown (With s) = false

abbrev pub is_irrelevant : Known → Bool
is_irrelevant Unknown = false
is_irrelevant Irrelevant = true
is_irrelevant (With s) = false

abbrev pub is_with : Known → Bool
is_with Unknown = false
is_with Irrelevant = false
is_with (With s) = true

-- what was known stays known: the first news counts
abbrev pub or_else : Known → Known → Known
or_else Unknown news = news
or_else known news = known

-- what a DATA tells of its number: its sample, or, where it is unreadable, that the number is irrelevant
abbrev pub read_as : Option Sample → Known
read_as None = Irrelevant
read_as (Some s) = With s
