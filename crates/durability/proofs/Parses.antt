-- What clap makes of the words of a command whose arguments are options, as a whole.
use Rattle.std.proofs.Common.{◌≡◌, ℕ, Bool, true, false, List, [], ◌∷◌, None, refl, sym, ap, ◌∙◌, map}
use Rattle.std.specs.Prelude.{fold, not, ◌&&◌}
use Rattle.std.specs.List.{list_any}
use Rattle.clap.specs.Walk.{Row, Rule, Text, has_row, with_default, nothing_held}
use Rattle.clap.specs.Simple.{App, built, filled_from, matches_of, names_of}
use Rattle.clap.specs.Takes.{is_given}
use Rattle.clap.specs.Walk.{rows_after, idle}
use Rattle.clap.specs.Faults.{fault_of, level_fault, built_fault, defaults_fault, default_fault, check_fault}
use Rattle.clap.proofs.FaultLemmas.{leaf_fault}
use Rattle.durability.specs.Commands.{new_option, command_of}
use Rattle.durability.specs.Options.{Given, Spells}
use Rattle.durability.proofs.Rules.{option_rule, rules, leaf, or_none, or_both, st}
use Rattle.durability.proofs.Walks.{rows_of, Follows, Known, Plain, NoDashes, NamesOk, IsRead, IsPassed, sound, complete, settled_end}

-- ---- the command

filled_are : (i : ℕ) (names : List Text) → filled_from i (map new_option names) ≡ rules names
filled_are i [] = refl
filled_are i (n ∷ names) = ap (λ (rs : List Rule). option_rule n ∷ rs) (filled_are i names)

abbrev pub built_of : Text → List Text → App
built_of name names = record { top = leaf name names; subs = [] }

pub built_is : (name : Text) (names : List Text) → built (command_of name names) ≡ built_of name names
built_is name names = ap (λ (rs : List Rule). let a : App = record { top = record (leaf name names) { rules = rs }; subs = [] } in a) (filled_are 1 names)

pub fault_is : (name : Text) (names words : List Text) → fault_of (command_of name names) words ≡ level_fault (leaf name names) [] nothing_held words false []
fault_is name names words = ap (λ (a : App). built_fault a nothing_held words) (built_is name names) ∙ leaf_fault (built_of name names) nothing_held words refl

-- ---- after the walk

with_default_is : (n : Text) (rows : List Row) → with_default rows (option_rule n) ≡ rows
with_default_is n rows = go (has_row n rows) refl where
  go : (b : Bool) → has_row n rows ≡ b → with_default rows (option_rule n) ≡ rows
  go true e = rw e refl
  go false e = rw e refl

finished_is : (names : List Text) (rows : List Row) → fold with_default rows (rules names) ≡ rows
finished_is [] rows = refl
finished_is (n ∷ names) rows = ap (λ (rs : List Row). fold with_default rs (rules names)) (with_default_is n rows) ∙ finished_is names rows

default_none : (n : Text) (rows : List Row) → default_fault rows (option_rule n) ≡ []
default_none n rows = go (has_row n rows) refl where
  go : (b : Bool) → has_row n rows ≡ b → default_fault rows (option_rule n) ≡ []
  go true e = rw e refl
  go false e = rw e refl

defaults_none : (names : List Text) (rows : List Row) → defaults_fault rows (rules names) ≡ []
unfolding defaults_fault
defaults_none [] rows = refl
defaults_none (n ∷ names) rows = or_both _ _ (default_none n rows) (defaults_none names (with_default rows (option_rule n)))

none_required : (names : List Text) (rows : List Row) → list_any (λ (a : Rule). a.required && not (is_given a.id rows)) (rules names) ≡ false
none_required [] rows = refl
none_required (n ∷ names) rows = none_required names rows

check_none : (name : Text) (names : List Text) (rows : List Row) → check_fault (leaf name names) rows false ≡ []
check_none name names rows = rw (none_required names rows) refl

-- ---- both ways

pub matches_are : (name : Text) (names words : List Text) → matches_of (command_of name names) words ≡ settled_end names (st [] None idle) words
matches_are name names words = ap (λ (a : App). rows_after a.top.rules (names_of a) words) (built_is name names) ∙ finished_is names _

pub options_read : (name : Text) (names words : List Text) → NoDashes words → fault_of (command_of name names) words ≡ [] → IsRead names [] None words (st [] None idle)
options_read name names words plain ok =
    let level = sym (fault_is name names words) ∙ ok in
    let a = or_none _ _ level in
    let b = or_none _ _ a.1 in
    sound name names words [] None tt plain a.0 b.0

pub options_pass : (name : Text) (names words : List Text) (given : List Given) → NamesOk names → Spells words given → Known names given → Plain given → Follows [] given
    → (fault_of (command_of name names) words ≡ []) × (matches_of (command_of name names) words ≡ rows_of given)
options_pass name names words given ok spells known plain follows =
    let r : IsPassed name names [] None given words = complete name names ok given words [] None tt spells known plain follows in (
      fault_is name names words ∙ or_both _ _ r.walk (or_both _ _ r.last (or_both _ _ (defaults_none names _) (check_none name names _))),
      matches_are name names words ∙ r.rows,
    )
