-- Words are one command line at most.
use Rattle.std.proofs.Common.{◌≡◌, ◌∙◌, ◌<◌, ◌^◌, ℕ, false, List, [], ◌∷◌, refl, sym, ap, subst, arith, codes}
use Rattle.std.specs.Str.{bytes_eq}
use Rattle.clap.specs.Walk.{Text}
use Rattle.durability.specs.declared.words.Line.{Line}
use Rattle.durability.specs.declared.words.Line.TheVariants as line
use Rattle.durability.specs.Options.{Given, IsOptions, value_of, IsNumber, IsHex, IsText, IsCount}
use Rattle.durability.specs.Commands.{list_names, show_names, dir_names, late_names, AreNames}
use Rattle.durability.specs.CommandLine.{IsAt, IsShow, HasDir, IsOver, IsLate, IsLine}
use Rattle.durability.proofs.Spelling.{eq_same, bool_no}
use Rattle.durability.proofs.Values.{hex_once, text_once}
use Rattle.durability.proofs.Lines.{rows_once, passes, number_once, list_are, show_are, dir_are, late_are}

-- ---- no other line

abbrev slice_first : List Text → Text
slice_first [] = []
slice_first (w ∷ words) = w

abbrev rest_of : List Text → List Text
rest_of [] = []
rest_of (w ∷ words) = words

-- words begin with one word
other_words : (a b : Text) (r s : List Text) → bytes_eq a b ≡ false → a ∷ r ≡ b ∷ s → ⊥
other_words a b r s differ same =
    let first : a ≡ b = ap (λ (w : List Text). slice_first w) same in
    bool_no (bytes_eq a b) (ap (bytes_eq a) (sym first) ∙ eq_same a) differ

-- a line whose first word is `list`, `learn`, `show`, `rerun`, `check` or `late`
line_of_list : (words : List Text) (l : Line) → IsLine (codes "list" ∷ words) l → (at : ℕ) × (epoch : ℕ) × (l ≡ line.List at epoch) × IsAt (codes "list") (codes "list" ∷ words) at epoch
line_of_list words (line.List at epoch) h = (at, epoch, refl, h)
line_of_list words (line.Learn at epoch) h = absurd (other_words (codes "list") (codes "learn") words h.rest refl h.words_are)
line_of_list words (line.Show epoch) h = absurd (other_words (codes "list") (codes "show") words h.rest refl h.words_are)
line_of_list words (line.Rerun dir) h = absurd (other_words (codes "list") (codes "rerun") words h.rest refl h.words_are)
line_of_list words (line.Check dir) h = absurd (other_words (codes "list") (codes "check") words h.rest refl h.words_are)
line_of_list words (line.Late reader prefix writer peer turns) h = absurd (other_words (codes "list") (codes "late") words h.rest refl h.words_are)

line_of_learn : (words : List Text) (l : Line) → IsLine (codes "learn" ∷ words) l → (at : ℕ) × (epoch : ℕ) × (l ≡ line.Learn at epoch) × IsAt (codes "learn") (codes "learn" ∷ words) at epoch
line_of_learn words (line.List at epoch) h = absurd (other_words (codes "learn") (codes "list") words h.rest refl h.words_are)
line_of_learn words (line.Learn at epoch) h = (at, epoch, refl, h)
line_of_learn words (line.Show epoch) h = absurd (other_words (codes "learn") (codes "show") words h.rest refl h.words_are)
line_of_learn words (line.Rerun dir) h = absurd (other_words (codes "learn") (codes "rerun") words h.rest refl h.words_are)
line_of_learn words (line.Check dir) h = absurd (other_words (codes "learn") (codes "check") words h.rest refl h.words_are)
line_of_learn words (line.Late reader prefix writer peer turns) h = absurd (other_words (codes "learn") (codes "late") words h.rest refl h.words_are)

line_of_show : (words : List Text) (l : Line) → IsLine (codes "show" ∷ words) l → (epoch : ℕ) × (l ≡ line.Show epoch) × IsShow (codes "show" ∷ words) epoch
line_of_show words (line.List at epoch) h = absurd (other_words (codes "show") (codes "list") words h.rest refl h.words_are)
line_of_show words (line.Learn at epoch) h = absurd (other_words (codes "show") (codes "learn") words h.rest refl h.words_are)
line_of_show words (line.Show epoch) h = (epoch, refl, h)
line_of_show words (line.Rerun dir) h = absurd (other_words (codes "show") (codes "rerun") words h.rest refl h.words_are)
line_of_show words (line.Check dir) h = absurd (other_words (codes "show") (codes "check") words h.rest refl h.words_are)
line_of_show words (line.Late reader prefix writer peer turns) h = absurd (other_words (codes "show") (codes "late") words h.rest refl h.words_are)

line_of_rerun : (words : List Text) (l : Line) → IsLine (codes "rerun" ∷ words) l → (dir : List ℕ) × (l ≡ line.Rerun dir) × IsOver (codes "rerun") (codes "rerun" ∷ words) dir
line_of_rerun words (line.List at epoch) h = absurd (other_words (codes "rerun") (codes "list") words h.rest refl h.words_are)
line_of_rerun words (line.Learn at epoch) h = absurd (other_words (codes "rerun") (codes "learn") words h.rest refl h.words_are)
line_of_rerun words (line.Show epoch) h = absurd (other_words (codes "rerun") (codes "show") words h.rest refl h.words_are)
line_of_rerun words (line.Rerun dir) h = (dir, refl, h)
line_of_rerun words (line.Check dir) h = absurd (other_words (codes "rerun") (codes "check") words h.rest refl h.words_are)
line_of_rerun words (line.Late reader prefix writer peer turns) h = absurd (other_words (codes "rerun") (codes "late") words h.rest refl h.words_are)

line_of_check : (words : List Text) (l : Line) → IsLine (codes "check" ∷ words) l → (dir : List ℕ) × (l ≡ line.Check dir) × IsOver (codes "check") (codes "check" ∷ words) dir
line_of_check words (line.List at epoch) h = absurd (other_words (codes "check") (codes "list") words h.rest refl h.words_are)
line_of_check words (line.Learn at epoch) h = absurd (other_words (codes "check") (codes "learn") words h.rest refl h.words_are)
line_of_check words (line.Show epoch) h = absurd (other_words (codes "check") (codes "show") words h.rest refl h.words_are)
line_of_check words (line.Rerun dir) h = absurd (other_words (codes "check") (codes "rerun") words h.rest refl h.words_are)
line_of_check words (line.Check dir) h = (dir, refl, h)
line_of_check words (line.Late reader prefix writer peer turns) h = absurd (other_words (codes "check") (codes "late") words h.rest refl h.words_are)

line_of_late : (words : List Text) (l : Line) → IsLine (codes "late" ∷ words) l
    → (reader : List ℕ) × (prefix : List ℕ) × (writer : List ℕ) × (peer : List ℕ) × (turns : ℕ) × (l ≡ line.Late reader prefix writer peer turns) × IsLate (codes "late" ∷ words) reader prefix writer peer turns
line_of_late words (line.List at epoch) h = absurd (other_words (codes "late") (codes "list") words h.rest refl h.words_are)
line_of_late words (line.Learn at epoch) h = absurd (other_words (codes "late") (codes "learn") words h.rest refl h.words_are)
line_of_late words (line.Show epoch) h = absurd (other_words (codes "late") (codes "show") words h.rest refl h.words_are)
line_of_late words (line.Rerun dir) h = absurd (other_words (codes "late") (codes "rerun") words h.rest refl h.words_are)
line_of_late words (line.Check dir) h = absurd (other_words (codes "late") (codes "check") words h.rest refl h.words_are)
line_of_late words (line.Late reader prefix writer peer turns) h = (reader, prefix, writer, peer, turns, refl, h)

-- the words of `list` or of `learn` are no line where their options are none, or their numbers are none
pub list_no : (words : List Text) (l : Line) → ((given : List Given) (at epoch : ℕ) → IsOptions list_names words given → IsNumber (value_of (codes "at") given) at → at < 2 ^ 64 → IsNumber (value_of (codes "epoch") given) epoch → epoch < 2 ^ 32 → ⊥)
    → IsLine (codes "list" ∷ words) l → ⊥
list_no words l never is =
    let h = (line_of_list words l is).3 in
    let rest : h.rest ≡ words = sym (ap (λ (w : List Text). rest_of w) h.words_are) in
    never h.given (line_of_list words l is).0 (line_of_list words l is).1 (subst (λ (w : List Text). IsOptions list_names w h.given) rest h.options) h.at_is.0 h.at_is.1 h.epoch_is.0 h.epoch_is.1

pub learn_no : (words : List Text) (l : Line) → ((given : List Given) (at epoch : ℕ) → IsOptions list_names words given → IsNumber (value_of (codes "at") given) at → at < 2 ^ 64 → IsNumber (value_of (codes "epoch") given) epoch → epoch < 2 ^ 32 → ⊥)
    → IsLine (codes "learn" ∷ words) l → ⊥
learn_no words l never is =
    let h = (line_of_learn words l is).3 in
    let rest : h.rest ≡ words = sym (ap (λ (w : List Text). rest_of w) h.words_are) in
    never h.given (line_of_learn words l is).0 (line_of_learn words l is).1 (subst (λ (w : List Text). IsOptions list_names w h.given) rest h.options) h.at_is.0 h.at_is.1 h.epoch_is.0 h.epoch_is.1

pub show_no : (words : List Text) (l : Line) → ((given : List Given) (epoch : ℕ) → IsOptions show_names words given → IsNumber (value_of (codes "epoch") given) epoch → epoch < 2 ^ 32 → ⊥) → IsLine (codes "show" ∷ words) l → ⊥
show_no words l never is =
    let h = (line_of_show words l is).2 in
    let rest : h.rest ≡ words = sym (ap (λ (w : List Text). rest_of w) h.words_are) in
    never h.given (line_of_show words l is).0 (subst (λ (w : List Text). IsOptions show_names w h.given) rest h.options) h.epoch_is.0 h.epoch_is.1

-- the words behind a subcommand, which name the folder
pub over_has : (word : Text) (words : List Text) (dir : List ℕ) → IsOver word (word ∷ words) dir → HasDir words dir
over_has word words dir h = subst (λ (w : List Text). HasDir w dir) (sym (ap (λ (w : List Text). rest_of w) h.words_are)) h.has

-- the words of `rerun` or `check` are no line where they name no folder
pub rerun_no : (words : List Text) (l : Line) → ((dir : List ℕ) → HasDir words dir → ⊥) → IsLine (codes "rerun" ∷ words) l → ⊥
rerun_no words l never is =
    let found = line_of_rerun words l is in
    never found.0 (over_has (codes "rerun") words found.0 found.2)

pub check_no : (words : List Text) (l : Line) → ((dir : List ℕ) → HasDir words dir → ⊥) → IsLine (codes "check" ∷ words) l → ⊥
check_no words l never is =
    let found = line_of_check words l is in
    never found.0 (over_has (codes "check") words found.0 found.2)

-- the words of `late` are no line where no options make one of them
pub late_no : (words : List Text) (l : Line) → ((given : List Given) (reader prefix writer peer : List ℕ) (turns : ℕ) → IsOptions late_names words given
    → IsHex 16 (value_of (codes "reader") given) reader → IsHex 8 (value_of (codes "prefix") given) prefix → IsHex 4 (value_of (codes "writer") given) writer → IsText (value_of (codes "peer") given) peer → IsCount (value_of (codes "turns") given) turns → turns < 2 ^ 32 → ⊥)
    → IsLine (codes "late" ∷ words) l → ⊥
late_no words l never is =
    let found = line_of_late words l is in
    let h = found.6 in
    let rest : h.rest ≡ words = sym (ap (λ (w : List Text). rest_of w) h.words_are) in
    never h.given found.0 found.1 found.2 found.3 found.4 (subst (λ (w : List Text). IsOptions late_names w h.given) rest h.options) h.reader_is h.prefix_is h.writer_is h.peer_is h.turns_is.0 h.turns_is.1

-- ---- one line

one_given : (name : Text) (names words : List Text) (a b : List Given) → AreNames names → IsOptions names words a → IsOptions names words b → a ≡ b
one_given name names words a b ok x y = rows_once a b (sym (passes name names words a ok x).1 ∙ (passes name names words b ok y).1)

at_once : (P : ℕ → ℕ → Line) (word : Text) (words : List Text) (at epoch at' epoch' : ℕ) → IsAt word words at epoch → IsAt word words at' epoch' → P at epoch ≡ P at' epoch'
at_once P word words at epoch at' epoch' h k =
    let rest : h.rest ≡ k.rest = ap (λ (w : List Text). rest_of w) (sym h.words_are ∙ k.words_are) in
    let given : h.given ≡ k.given = one_given word list_names k.rest h.given k.given list_are (subst (λ (w : List Text). IsOptions list_names w h.given) rest h.options) k.options in
    let ats : at ≡ at' = number_once (value_of (codes "at") k.given) at at' h.at_is.1 k.at_is.1 (subst (λ (g : List Given). IsNumber (value_of (codes "at") g) at) given h.at_is.0) k.at_is.0 in
    let epochs : epoch ≡ epoch' = number_once (value_of (codes "epoch") k.given) epoch epoch' (omega (arith, h.epoch_is.1)) (omega (arith, k.epoch_is.1)) (subst (λ (g : List Given). IsNumber (value_of (codes "epoch") g) epoch) given h.epoch_is.0) k.epoch_is.0 in
    ap (λ (n : ℕ). P n epoch) ats ∙ ap (λ (n : ℕ). P at' n) epochs

show_once : (words : List Text) (epoch epoch' : ℕ) → IsShow words epoch → IsShow words epoch' → line.Show epoch ≡ line.Show epoch'
show_once words epoch epoch' h k =
    let rest : h.rest ≡ k.rest = ap (λ (w : List Text). rest_of w) (sym h.words_are ∙ k.words_are) in
    let given : h.given ≡ k.given = one_given (codes "show") show_names k.rest h.given k.given show_are (subst (λ (w : List Text). IsOptions show_names w h.given) rest h.options) k.options in
    let epochs : epoch ≡ epoch' = number_once (value_of (codes "epoch") k.given) epoch epoch' (omega (arith, h.epoch_is.1)) (omega (arith, k.epoch_is.1)) (subst (λ (g : List Given). IsNumber (value_of (codes "epoch") g) epoch) given h.epoch_is.0) k.epoch_is.0 in
    ap (λ (n : ℕ). line.Show n) epochs

dir_once : (words : List Text) (d d' : List ℕ) → HasDir words d → HasDir words d' → d ≡ d'
dir_once words d d' h k =
    let given : h.given ≡ k.given = one_given (codes "dir") dir_names words h.given k.given dir_are h.options k.options in
    text_once (value_of (codes "dir") k.given) d d' (subst (λ (g : List Given). IsText (value_of (codes "dir") g) d) given h.dir_is) k.dir_is

-- the words of a subcommand say one folder
over_once : (word : Text) (words : List Text) (d d' : List ℕ) → IsOver word words d → IsOver word words d' → d ≡ d'
over_once word words d d' h k =
    let rest : h.rest ≡ k.rest = ap (λ (w : List Text). rest_of w) (sym h.words_are ∙ k.words_are) in
    dir_once k.rest d d' (subst (λ (w : List Text). HasDir w d) rest h.has) k.has

-- the words of `late` say one reader, prefix, writer, peer and number of turns
pub late_once : (words : List Text) (r p w e r' p' w' e' : List ℕ) (t t' : ℕ) → IsLate words r p w e t → IsLate words r' p' w' e' t' → line.Late r p w e t ≡ line.Late r' p' w' e' t'
late_once words r p w e r' p' w' e' t t' h k =
    let rest : h.rest ≡ k.rest = ap (λ (x : List Text). rest_of x) (sym h.words_are ∙ k.words_are) in
    let given : h.given ≡ k.given = one_given (codes "late") late_names k.rest h.given k.given late_are (subst (λ (x : List Text). IsOptions late_names x h.given) rest h.options) k.options in
    let rs : r ≡ r' = hex_once 16 (value_of (codes "reader") k.given) r r' (subst (λ (g : List Given). IsHex 16 (value_of (codes "reader") g) r) given h.reader_is) k.reader_is in
    let ps : p ≡ p' = hex_once 8 (value_of (codes "prefix") k.given) p p' (subst (λ (g : List Given). IsHex 8 (value_of (codes "prefix") g) p) given h.prefix_is) k.prefix_is in
    let ws : w ≡ w' = hex_once 4 (value_of (codes "writer") k.given) w w' (subst (λ (g : List Given). IsHex 4 (value_of (codes "writer") g) w) given h.writer_is) k.writer_is in
    let es : e ≡ e' = text_once (value_of (codes "peer") k.given) e e' (subst (λ (g : List Given). IsText (value_of (codes "peer") g) e) given h.peer_is) k.peer_is in
    let ts : t ≡ t' = number_once (value_of (codes "turns") k.given) t t' (omega (arith, h.turns_is.1)) (omega (arith, k.turns_is.1)) (subst (λ (g : List Given). IsNumber (value_of (codes "turns") g) t) given h.turns_is.0.0) k.turns_is.0.0 in
    ap (λ (x : List ℕ). line.Late x p w e t) rs ∙ ap (λ (x : List ℕ). line.Late r' x w e t) ps ∙ ap (λ (x : List ℕ). line.Late r' p' x e t) ws
    ∙ ap (λ (x : List ℕ). line.Late r' p' w' x t) es ∙ ap (λ (x : ℕ). line.Late r' p' w' e' x) ts

pub one_line : (words : List Text) (a b : Line) → IsLine words a → IsLine words b → a ≡ b
one_line words (line.List at epoch) b h k =
    let other = line_of_list h.rest b (subst (λ (w : List Text). IsLine w b) h.words_are k) in
    at_once (λ (n m : ℕ). line.List n m) (codes "list") (codes "list" ∷ h.rest) at epoch other.0 other.1 (subst (λ (w : List Text). IsAt (codes "list") w at epoch) h.words_are h) other.3 ∙ sym other.2
one_line words (line.Learn at epoch) b h k =
    let other = line_of_learn h.rest b (subst (λ (w : List Text). IsLine w b) h.words_are k) in
    at_once (λ (n m : ℕ). line.Learn n m) (codes "learn") (codes "learn" ∷ h.rest) at epoch other.0 other.1 (subst (λ (w : List Text). IsAt (codes "learn") w at epoch) h.words_are h) other.3 ∙ sym other.2
one_line words (line.Show epoch) b h k =
    let other = line_of_show h.rest b (subst (λ (w : List Text). IsLine w b) h.words_are k) in
    show_once (codes "show" ∷ h.rest) epoch other.0 (subst (λ (w : List Text). IsShow w epoch) h.words_are h) other.2 ∙ sym other.1
one_line words (line.Rerun dir) b h k =
    let other = line_of_rerun h.rest b (subst (λ (w : List Text). IsLine w b) h.words_are k) in
    ap (λ (d : List ℕ). line.Rerun d) (over_once (codes "rerun") (codes "rerun" ∷ h.rest) dir other.0 (subst (λ (w : List Text). IsOver (codes "rerun") w dir) h.words_are h) other.2) ∙ sym other.1
one_line words (line.Check dir) b h k =
    let other = line_of_check h.rest b (subst (λ (w : List Text). IsLine w b) h.words_are k) in
    ap (λ (d : List ℕ). line.Check d) (over_once (codes "check") (codes "check" ∷ h.rest) dir other.0 (subst (λ (w : List Text). IsOver (codes "check") w dir) h.words_are h) other.2) ∙ sym other.1
one_line words (line.Late r p w e t) b h k =
    let other = line_of_late h.rest b (subst (λ (x : List Text). IsLine x b) h.words_are k) in
    late_once (codes "late" ∷ h.rest) r p w e other.0 other.1 other.2 other.3 t other.4 (subst (λ (x : List Text). IsLate x r p w e t) h.words_are h) other.6 ∙ sym other.5
