-- The rules of a command whose arguments are options, and what clap makes of a word.
use Rattle.std.proofs.Common.{◌≡◌, ℕ, Bool, true, false, List, [], ◌∷◌, ◌++◌, Option, Some, None, refl, ap, ◌∙◌, map, append-nil}
use Rattle.std.specs.Prelude.{slice_get}
use Rattle.std.specs.Str.{bytes_eq, chars}
use Rattle.std.specs.List.{list_any}
use Rattle.clap.specs.Lexer.{long_of}
use Rattle.clap.specs.Walk.{Held, Row, Rule, Step, Text, Waiting, Walk, idle, option, positional, next, value, at_row, more_values, with_values, without, used, has_row, arg_by_long, arg_by_id, arg_by_short, arg_by_index, reacted, settled, plain_word, short_word, bundle_met, long_or_other, word_met, walked, after_step}
use Rattle.clap.specs.Simple.{Shape, new_rule, new_shape}
use Rattle.clap.specs.Kinds.{Kinds, or_else}
use Rattle.clap.specs.Faults.{use_fault, settle_fault, flag_word_fault, flags_fault, bundle_fault, word_fault, step_fault, walk_fault}
use Rattle.clap.specs.declared.builder.action.ArgAction.TheVariants.{Set}
use Rattle.clap.specs.declared.builder.value_parser.ValueParser.TheVariants as vp
use Rattle.clap.specs.declared.builder.value_parser.Reading.TheVariants.{AsWritten}
use Rattle.clap.specs.declared.parser.matches.ValueSource.TheVariants.{CommandLine}
use Rattle.clap.specs.declared.error.kind.ErrorKind.TheVariants as kind
use Rattle.durability.proofs.Spelling.{eq_of, eq_same}

-- ---- the rules

abbrev pub option_rule : Text → Rule
option_rule n = record (new_rule n) { long = Some n; action = Some Set; range = Some (record { start_inclusive = 1; end_inclusive = 1 }); parser = Some vp.String }

abbrev pub rules : List Text → List Rule
rules names = map option_rule names

abbrev pub leaf : Text → List Text → Shape
leaf name names = record (new_shape name) { rules = rules names; no_binary_name = true; disable_help_flag = true; disable_help_subcommand = true; is_built = true }

abbrev pub knows : List Text → Text → Bool
knows names n = list_any (λ x. bytes_eq x n) names

pub by_long : (names : List Text) (n : Text) → knows names n ≡ true → arg_by_long (rules names) n ≡ Some (option_rule n)
by_long [] n k = absurd cc
by_long (x ∷ xs) n k = go (bytes_eq x n) refl (λ m. by_long xs n m) where
  go : (b : Bool) → bytes_eq x n ≡ b → (knows xs n ≡ true → arg_by_long (rules xs) n ≡ Some (option_rule n)) → arg_by_long (rules (x ∷ xs)) n ≡ Some (option_rule n)
  go true e later = rw e (ap (λ (m : Text). Some (option_rule m)) (eq_of x n e))
  go false e later = rw e (later (rw e at k))

pub by_long_none : (names : List Text) (n : Text) → knows names n ≡ false → arg_by_long (rules names) n ≡ None
by_long_none [] n k = refl
by_long_none (x ∷ xs) n k = go (bytes_eq x n) refl (λ m. by_long_none xs n m) where
  go : (b : Bool) → bytes_eq x n ≡ b → (knows xs n ≡ false → arg_by_long (rules xs) n ≡ None) → arg_by_long (rules (x ∷ xs)) n ≡ None
  go true e later = let no = rw e at k in absurd cc
  go false e later = rw e (later (rw e at k))

pub by_id : (names : List Text) (n : Text) → knows names n ≡ true → arg_by_id (rules names) n ≡ Some (option_rule n)
by_id [] n k = absurd cc
by_id (x ∷ xs) n k = go (bytes_eq x n) refl (λ m. by_id xs n m) where
  go : (b : Bool) → bytes_eq x n ≡ b → (knows xs n ≡ true → arg_by_id (rules xs) n ≡ Some (option_rule n)) → arg_by_id (rules (x ∷ xs)) n ≡ Some (option_rule n)
  go true e later = rw e (ap (λ (m : Text). Some (option_rule m)) (eq_of x n e))
  go false e later = rw e (later (rw e at k))

pub by_short_none : (names : List Text) (x : ℕ) → arg_by_short (rules names) x ≡ None
by_short_none [] x = refl
by_short_none (n ∷ ns) x = by_short_none ns x

pub by_index_none : (names : List Text) (i : ℕ) → arg_by_index (rules names) i ≡ None
by_index_none [] i = refl
by_index_none (n ∷ ns) i = by_index_none ns i

-- ---- the rows

abbrev pub row : Text → Text → Row
row n v = record { id = n; values = v ∷ []; count = None; source = Some CommandLine; reading = AsWritten }

pub at_row_missing : (id : Text) (change : Row → List Row) (missing rs : List Row) → has_row id rs ≡ false → at_row id change missing rs ≡ rs ++ missing
at_row_missing id change missing [] h = refl
at_row_missing id change missing (r ∷ rs) h = go (bytes_eq r.id id) refl (λ m. at_row_missing id change missing rs m) where
  go : (b : Bool) → bytes_eq r.id id ≡ b → (has_row id rs ≡ false → at_row id change missing rs ≡ rs ++ missing) → at_row id change missing (r ∷ rs) ≡ r ∷ (rs ++ missing)
  go true e later = let no = rw e at h in absurd cc
  go false e later = rw e (ap (λ (t : List Row). r ∷ t) (later (rw e at h)))

pub used_new : (n v : Text) (rs : List Row) → has_row n rs ≡ false → used (option_rule n) (v ∷ []) rs ≡ rs ++ row n v ∷ []
used_new n v rs h =
    let inner : without n rs ≡ rs = at_row_missing n (λ r. []) [] rs h ∙ append-nil rs in
    ap (λ (t : List Row). with_values n AsWritten CommandLine (v ∷ []) t) inner ∙ at_row_missing n (more_values CommandLine (v ∷ [])) (row n v ∷ []) rs h

pub use_new : (n v : Text) (rs : List Row) → has_row n rs ≡ false → use_fault false (option_rule n) (v ∷ []) rs ≡ []
use_new n v rs h = rw h refl

pub use_old : (n v : Text) (rs : List Row) → has_row n rs ≡ true → use_fault false (option_rule n) (v ∷ []) rs ≡ kind.ArgumentConflict ∷ []
use_old n v rs h = rw h refl

pub use_none : (n : Text) (rs : List Row) → use_fault false (option_rule n) [] rs ≡ kind.InvalidValue ∷ []
use_none n rs = refl

-- ---- a word

pub met_long : (c : List Rule) (wt : Waiting) (w : Text) (h : Held) → bytes_eq w (45 ∷ 45 ∷ []) ≡ false → word_met c [] false wt 1 w h ≡ long_or_other c wt w (long_of w) h
met_long c idle w h e = rw e refl
met_long c (option id) w h e = rw e refl
met_long c positional w h e = rw e refl

pub known_value : (names : List Text) (n v : Text) (wt : Waiting) (w : Text) (h : Held) → knows names n ≡ true → long_or_other (rules names) wt w (Some (n, Some v)) h ≡ (reacted (rules names) (option_rule n) (v ∷ []) h, next idle)
known_value names n v wt w h k = rw (by_long names n k) refl

pub known_none : (names : List Text) (n : Text) (wt : Waiting) (w : Text) (h : Held) → knows names n ≡ true → long_or_other (rules names) wt w (Some (n, None)) h ≡ (record (settled (rules names) h) { pending = Some (n, []) }, next (option n))
known_none names n wt w h k = rw (by_long names n k) refl

pub fault_long : (name : Text) (names : List Text) (wt : Waiting) (w : Text) (h : Held) → bytes_eq w (45 ∷ 45 ∷ []) ≡ false → word_fault (leaf name names) [] false wt w h ≡ flag_word_fault (rules names) false (long_of w) w h
fault_long name names idle w h e = rw e refl
fault_long name names (option id) w h e = rw e refl
fault_long name names positional w h e = rw e refl

pub flag_value : (names : List Text) (n v w : Text) (h : Held) → knows names n ≡ true → flag_word_fault (rules names) false (Some (n, Some v)) w h ≡ or_else (settle_fault (rules names) false h) (use_fault false (option_rule n) (v ∷ []) (settled (rules names) h).rows)
flag_value names n v w h k = rw (by_long names n k) refl

pub flag_none : (names : List Text) (n w : Text) (h : Held) → knows names n ≡ true → flag_word_fault (rules names) false (Some (n, None)) w h ≡ settle_fault (rules names) false h
flag_none names n w h k = rw (by_long names n k) refl

pub flag_unknown : (names : List Text) (n w : Text) (o : Option Text) (h : Held) → knows names n ≡ false → flag_word_fault (rules names) false (Some (n, o)) w h ≡ kind.UnknownArgument ∷ []
flag_unknown names n w o h k = rw (by_long_none names n k) refl

abbrev pub held : List Row → Option (Text × List Text) → Held
held rs p = record { rows = rs; pending = p; skip = 0 }

pub plain_known : (names : List Text) (n v : Text) (rs : List Row) → knows names n ≡ true → plain_word (rules names) (option n) v (held rs (Some (n, []))) ≡ (held rs (Some (n, v ∷ [])), next idle)
plain_known names n v rs k = rw (by_id names n k, eq_same n) refl

-- a word of short flags names nothing that the command has
pub short_case : (names : List Text) (wt : Waiting) (w flags : Text) (rs : List Row) (p : Option (Text × List Text)) → bundle_fault (rules names) false flags (held rs p) ≡ [] → short_word (rules names) wt w flags (held rs p) ≡ plain_word (rules names) wt w (held rs p)
unfolding bundle_met flags_fault
short_case names wt w [] rs p ok = refl
short_case names wt w (x ∷ xs) rs p ok = go (slice_get (chars (x ∷ xs)) 0) refl where
  go : (o : Option ℕ) → slice_get (chars (x ∷ xs)) 0 ≡ o → short_word (rules names) wt w (x ∷ xs) (held rs p) ≡ plain_word (rules names) wt w (held rs p)
  go None e = rw e refl
  go (Some y) e = let no = rw (e, by_short_none names y) at ok in absurd cc

-- ---- a turn

pub or_none : (a b : Kinds) → or_else a b ≡ [] → (a ≡ []) × (b ≡ [])
or_none [] b h = (refl, h)
or_none (k ∷ ks) b h = absurd cc

pub or_both : (a b : Kinds) → a ≡ [] → b ≡ [] → or_else a b ≡ []
or_both [] b x y = y
or_both (k ∷ ks) b x y = absurd cc

abbrev pub st : List Row → Option (Text × List Text) → Waiting → Walk
st rs p wt = record { held = held rs p; waiting = wt; position = 1; is_trailing = false; stopped = None }

pub turn_parts : (name : Text) (names : List Text) (rs : List Row) (p : Option (Text × List Text)) (wt : Waiting) (w : Text) (rest : List Text) → walk_fault (leaf name names) [] (st rs p wt) (w ∷ rest) ≡ []
    → (word_fault (leaf name names) [] false wt w (held rs p) ≡ [])
    × (step_fault (leaf name names) 1 (word_met (rules names) [] false wt 1 w (held rs p)).0 (word_met (rules names) [] false wt 1 w (held rs p)).1 ≡ [])
    × (walk_fault (leaf name names) [] (walked (rules names) [] (st rs p wt) w) rest ≡ [])
unfolding walk_fault
turn_parts name names rs p wt w rest h =
    let a = or_none _ _ h in
    let b = or_none _ _ a.0 in
    (b.0, b.1, a.1)

pub turn_joins : (name : Text) (names : List Text) (rs : List Row) (p : Option (Text × List Text)) (wt : Waiting) (w : Text) (rest : List Text) → word_fault (leaf name names) [] false wt w (held rs p) ≡ []
    → step_fault (leaf name names) 1 (word_met (rules names) [] false wt 1 w (held rs p)).0 (word_met (rules names) [] false wt 1 w (held rs p)).1 ≡ []
    → walk_fault (leaf name names) [] (walked (rules names) [] (st rs p wt) w) rest ≡ [] → walk_fault (leaf name names) [] (st rs p wt) (w ∷ rest) ≡ []
unfolding walk_fault
turn_joins name names rs p wt w rest a b c = or_both _ _ (or_both _ _ a b) c

pub walked_to : (names : List Text) (rs ss : List Row) (p q : Option (Text × List Text)) (wt xt : Waiting) (w : Text) → word_met (rules names) [] false wt 1 w (held rs p) ≡ (held ss q, next xt) → walked (rules names) [] (st rs p wt) w ≡ st ss q xt
unfolding walked
walked_to names rs ss p q wt xt w met = ap (λ (m : Held × Step). after_step (rules names) w (st rs p wt) m.0 m.1) met

pub step_next : (name : Text) (names : List Text) (rs ss : List Row) (p q : Option (Text × List Text)) (wt xt : Waiting) (w : Text) → word_met (rules names) [] false wt 1 w (held rs p) ≡ (held ss q, next xt)
    → step_fault (leaf name names) 1 (word_met (rules names) [] false wt 1 w (held rs p)).0 (word_met (rules names) [] false wt 1 w (held rs p)).1 ≡ []
step_next name names rs ss p q wt xt w met = ap (λ (m : Held × Step). step_fault (leaf name names) 1 m.0 m.1) met

pub step_stray : (name : Text) (names : List Text) (h g : Held) (wt : Waiting) (w : Text) → word_met (rules names) [] false wt 1 w h ≡ (g, value)
    → step_fault (leaf name names) 1 (word_met (rules names) [] false wt 1 w h).0 (word_met (rules names) [] false wt 1 w h).1 ≡ kind.UnknownArgument ∷ []
step_stray name names h g wt w met = ap (λ (m : Held × Step). step_fault (leaf name names) 1 m.0 m.1) met ∙ rw (by_index_none names 1) refl
