-- The command lines.
use Rattle.std.specs.Prelude.{◌≡◌, ◌<◌, ◌^◌, ℕ, List, ◌∷◌, codes}
use Rattle.durability.specs.declared.words.Line.{Line}
use Rattle.durability.specs.declared.words.Line.TheVariants as line
use Rattle.durability.specs.Options.{Given, IsOptions, IsNumber, IsHex, IsText, IsCount, value_of}
use Rattle.durability.specs.Commands.{list_names, show_names, dir_names, late_names}

-- a word and the options `--at` and `--epoch`, as `list` and `learn` have them
pub record IsAt (word : List ℕ) (words : List (List ℕ)) (at epoch : ℕ) : Type 0 where
  pub rest : List (List ℕ)
  pub given : List Given
  pub words_are : words ≡ word ∷ rest
  pub options : IsOptions list_names rest given
  pub at_is : IsNumber (value_of (codes "at") given) at × (at < 2 ^ 64)
  pub epoch_is : IsNumber (value_of (codes "epoch") given) epoch × (epoch < 2 ^ 32)

-- the word `show` and its option
pub record IsShow (words : List (List ℕ)) (epoch : ℕ) : Type 0 where
  pub rest : List (List ℕ)
  pub given : List Given
  pub words_are : words ≡ codes "show" ∷ rest
  pub options : IsOptions show_names rest given
  pub epoch_is : IsNumber (value_of (codes "epoch") given) epoch × (epoch < 2 ^ 32)

-- the option `--dir`, which must be given
pub record HasDir (words : List (List ℕ)) (dir : List ℕ) : Type 0 where
  pub given : List Given
  pub options : IsOptions dir_names words given
  pub dir_is : IsText (value_of (codes "dir") given) dir

-- a word and that option
pub record IsOver (word : List ℕ) (words : List (List ℕ)) (dir : List ℕ) : Type 0 where
  pub rest : List (List ℕ)
  pub words_are : words ≡ word ∷ rest
  pub has : HasDir rest dir

-- the word `late` and its options, all of which must be given
pub record IsLate (words : List (List ℕ)) (reader prefix writer peer : List ℕ) (turns : ℕ) : Type 0 where
  pub rest : List (List ℕ)
  pub given : List Given
  pub words_are : words ≡ codes "late" ∷ rest
  pub options : IsOptions late_names rest given
  pub reader_is : IsHex 16 (value_of (codes "reader") given) reader
  pub prefix_is : IsHex 8 (value_of (codes "prefix") given) prefix
  pub writer_is : IsHex 4 (value_of (codes "writer") given) writer
  pub peer_is : IsText (value_of (codes "peer") given) peer
  pub turns_is : IsCount (value_of (codes "turns") given) turns × (turns < 2 ^ 32)

-- the words after the program's name are this command line
abbrev pub IsLine : List (List ℕ) → Line → Type 0
IsLine words (line.List at epoch) = IsAt (codes "list") words at epoch
IsLine words (line.Learn at epoch) = IsAt (codes "learn") words at epoch
IsLine words (line.Show epoch) = IsShow words epoch
IsLine words (line.Rerun dir) = IsOver (codes "rerun") words dir
IsLine words (line.Check dir) = IsOver (codes "check") words dir
IsLine words (line.Late reader prefix writer peer turns) = IsLate words reader prefix writer peer turns
