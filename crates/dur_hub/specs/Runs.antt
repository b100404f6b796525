-- A run of the hub: where a list of calls has led.
use Rattle.std.specs.Prelude.{ℕ, Bool, false, List, [], map}
use Rattle.dur_qos.specs.declared.plan.Plan.{Plan}
use Rattle.dur_qos.specs.declared.plan.WriterLine.{WriterLine}
use Rattle.dur_view.specs.Identities.{Guid}
use Rattle.dur_view.specs.declared.data.View.{View}
use Rattle.dur_view.specs.History.{History, Start, next}
use Rattle.dur_view.specs.Full.{full}
use Rattle.rel_reader.specs.Stories.{Story, Begin}

-- A writer of the plan: its line, all that ever came of it, when it was heard last, whether it is lost, and how many
-- acknowledgements it was given.
pub record Writer : Type 0 where
  pub line : WriterLine
  pub story : Story
  pub heard : ℕ
  pub lost : Bool
  pub acks : ℕ

-- The history that it admitted, the last moment that it used, whether its first lease step is done, the writers of the plan,
-- the readers to whom a snapshot was given, how many persistent entries were handed out and how many of them are durable, how
-- many acknowledgements and refusals it answered, how many threads work, and whether they are to end.
pub record Run : Type 0 where
  pub plan : Plan
  pub history : History
  pub moment : ℕ
  pub begun : Bool
  pub writers : List Writer
  pub given : List Guid
  pub taken : ℕ
  pub durable : ℕ
  pub acks : ℕ
  pub refused : ℕ
  pub working : ℕ
  pub stopped : Bool

-- a writer of the plan of which nothing came yet
abbrev pub first_writer : View → WriterLine → Writer
first_writer v line = record {
  line = line;
  story = Begin (next (Start v) line.guid);
  heard = 0;
  lost = false;
  acks = 0;
}

-- The run that has no call yet, over this view with all that the plan declares.
abbrev pub opening : Plan → View → ℕ → Run
opening plan v working =
    record {
      plan = plan;
      history = Start (full plan v);
      moment = v.last;
      begun = false;
      writers = map (first_writer (full plan v)) plan.writers;
      given = [];
      taken = 0;
      durable = 0;
      acks = 0;
      refused = 0;
      working = working;
      stopped = false;
    }
