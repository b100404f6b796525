-- What becomes of an entry that is to be admitted.
use Rattle.std.specs.Prelude.{◌≡◌, Option, Some, None}
use Rattle.dur_base.specs.declared.entry.Entry.{Entry}
use Rattle.dur_view.specs.declared.limit.Limit.{Limit}
use Rattle.dur_view.specs.declared.limit.Refuse.{Refuse}
use Rattle.dur_view.specs.declared.limit.Refuse.TheVariants as refuse
use Rattle.dur_view.specs.History.{History, ◌▸◌}
use Rattle.dur_view.specs.Refused.{refused}

-- It is admitted.
pub record Admits (before : History) (e : Entry) (after : History) : Type 0 where
  -- it passes no limit
  pub within : refused before e ≡ None
  -- it is the last one of the history
  pub added : after ≡ (before ▸ e)

-- a limit is the first one that is passed; want of memory may come at any time
abbrev pub IsCause : Refuse → Option Limit → Type 0
IsCause (refuse.Limit limit) first = first ≡ Some limit
IsCause refuse.OutOfMemory first = Unit {0}

-- It is refused.
pub record Refuses (before : History) (e : Entry) (after : History) (answer : Refuse × Entry) : Type 0 where
  pub cause : IsCause answer.0 (refused before e)
  -- the entry is handed back
  pub back : answer.1 ≡ e
  pub unchanged : after ≡ before
