-- The commands that are handed to clap, and what it finds.
use Rattle.std.specs.Prelude.{◌≡◌, ◌≢◌, ◌==◌, ℕ, List, [], ◌∷◌, map, Some, true, false, codes}
use Rattle.std.specs.List.{AllByRecursion, list_any}
use Rattle.clap.specs.Walk.{Rule, Text}
use Rattle.clap.specs.Simple.{App, new_rule, new_shape}
use Rattle.clap.specs.Matches.{first_value, found_of}
use Rattle.clap.specs.declared.builder.action.ArgAction.TheVariants.{Set}
use Rattle.clap.specs.declared.error.kind.ErrorKind.{ErrorKind}
use Rattle.clap.specs.declared.error.kind.ErrorKind.TheVariants as kind
use Rattle.clap.specs.declared.parser.matches.ArgMatches.{ArgMatches}
use Rattle.durability.specs.declared.words.WordsFault.{WordsFault}
use Rattle.durability.specs.declared.words.WordsFault.TheVariants.{Usage, OutOfMemory}
use Rattle.durability.specs.Options.{Given, Spells, IsAmong, AreNew, IsOptions, value_of}

-- an option with one value
abbrev pub new_option : Text → Rule
new_option n = record (new_rule n) { long = Some n; action = Some Set }

-- a command with these options, without help
abbrev pub command_of : Text → List Text → App
command_of name names = record { top = record (new_shape name) { rules = map new_option names; no_binary_name = true; disable_help_flag = true }; subs = [] }

abbrev pub list_names : List (List ℕ)
list_names = codes "at" ∷ codes "epoch" ∷ []

abbrev pub show_names : List (List ℕ)
show_names = codes "epoch" ∷ []

abbrev pub dir_names : List (List ℕ)
dir_names = codes "dir" ∷ []

abbrev pub late_names : List (List ℕ)
late_names = codes "reader" ∷ codes "prefix" ∷ codes "writer" ∷ codes "peer" ∷ codes "turns" ∷ []

-- the values of the options that the words are
pub record HasOptions (names words : List (List ℕ)) (m : ArgMatches) : Type 0 where
  pub given : List Given
  pub spells : Spells words given
  pub known : AllByRecursion (λ o. IsAmong names o.name) given
  pub once : AreNew [] given
  pub values : (name : List ℕ) → first_value (found_of m) name ≡ value_of name given
  -- and the words are no others
  pub only : (other : List Given) → IsOptions names words other → other ≡ given

-- a name is not empty, and has no `=`
abbrev pub AreNames : List (List ℕ) → Type 0
AreNames names = AllByRecursion (λ n. (n ≢ []) × (list_any (λ x. x == 61) n ≡ false)) names

-- each error of clap but want of memory is a faulty command line
abbrev pub words_fault : ErrorKind → WordsFault
words_fault kind.OutOfMemory = OutOfMemory
words_fault other = Usage
