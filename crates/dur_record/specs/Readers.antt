-- What the readers answer.
use Rattle.std.specs.Prelude.{◌≡◌, ℕ, List, length, Option, Some, Result, IfOk, IfErr}
use Rattle.std.specs.List.{AllByRecursion}
use Rattle.dur_base.specs.declared.entry.Entry.{Entry}
use Rattle.dur_base.specs.declared.kinds.Durability.TheVariants.{Persistent}
use Rattle.dur_view.specs.declared.data.View.{View}
use Rattle.dur_view.specs.History.{History, AllFollow, ◌+>◌}
use Rattle.dur_view.specs.IsSound.{IsSound}
use Rattle.dur_record.specs.declared.fault.TextFault.{TextFault}
use Rattle.dur_record.specs.declared.past.Past.{Past}
use Rattle.dur_record.specs.declared.version.Version.{Version}
use Rattle.dur_record.specs.Grammar.{Break}
use Rattle.dur_record.specs.Faults.{IsFault, IsRead, IsRefused}
use Rattle.dur_record.specs.Entries.{IsGoodEntry, SpellsEntries, BreaksEntries}
use Rattle.dur_record.specs.Views.{SpellsView, BreaksView}
use Rattle.dur_record.specs.Past.{IsPast}

-- The value that the octets spell, or their first break by its place and kind; or want of memory.
pub record AnswersReading {V : Type 0} (Spelt : V → Type 0) (Broken : Break → Type 0)
    (len : ℕ) (r : Result V TextFault) : Type 0 where
  -- a value that is answered is spelt
  pub value : IfOk r Spelt
  -- a fault that is answered is a break, or want of memory
  pub fault : IfErr r (IsFault Broken len)
  -- a value that is spelt is answered, but for want of memory
  pub spelt : (v : V) → Spelt v → IsRead r v
  -- a break is answered, but for want of memory
  pub broken : (b : Break) → Broken b → IsRefused r len b

-- The entries of a text, in a history where one is given.
pub record AnswersEntries (version : Version) (past : Option History) (text : List ℕ)
    (r : Result (List Entry) TextFault) : Type 0 where
  pub reading : AnswersReading (SpellsEntries version past text) (BreaksEntries version past text) (length text) r
  -- each of them may be written
  pub good : IfOk r (AllByRecursion IsGoodEntry)

-- The entries of a text that follow a history, and what is kept of the history with them.
pub record GoesOn (version : Version) (h : History) (text : List ℕ) (after : Past)
    (r : Result (List Entry) TextFault) : Type 0 where
  pub entries : AnswersEntries version (Some h) text r
  pub follow : IfOk r (AllFollow h)
  pub past : IfOk r (λ es. IsPast after (Some (h +> es)))

-- The view that a text is.
pub record AnswersView (version : Version) (text : List ℕ) (r : Result View TextFault) : Type 0 where
  pub reading : AnswersReading (SpellsView version text) (BreaksView version text) (length text) r
  -- it may begin a history
  pub sound : IfOk r IsSound
  -- all its topics outlive the process
  pub persistent : IfOk r (λ v. AllByRecursion (λ t. t.kind ≡ Persistent) v.topics)
