-- What a crash leaves of a run over records.
use Rattle.std.specs.Prelude.{◌≡◌, ℕ, ◌≤◌, List, [], ◌++◌, length, take}
use Rattle.dur_capture.specs.declared.record.Record.{Record}
use Rattle.dur_outside.specs.World.{Image}
use Rattle.dur_qos.specs.declared.plan.Plan.{Plan}
use Rattle.dur_view.specs.Stored.{stored, durable_part}
use Rattle.dur_journal.specs.Kept.{Kept, Keeps}
use Rattle.dur_hub.specs.declared.event.Event.{Event}
use Rattle.dur_hub.specs.declared.reply.Ack.{Ack}
use Rattle.dur_hub.specs.Handed.{Covered, acks_in}
use Rattle.dur_hub.specs.Runs.{Run}
use Rattle.dur_rerun.specs.declared.rerun.replays.Replay.{Replay}
use Rattle.dur_rerun.specs.Rerun.Courses.{Course, IsAnswering, IsNext, place_at}
use Rattle.dur_rerun.specs.Rerun.Kept.{IsCutOf}
use Rattle.dur_rerun.specs.Rerun.Replies.{Place}

-- The disk keeps the first n persistent entries that a run admitted, under an epoch or a later generation; and each number that
-- one of these acknowledgements lies above is among them, or was handled before the run.
pub record IsCovering (plan : Plan) (epoch : ℕ) (run : Run) (acks : List Ack) (c : Image) : Type 0 where
  pub k : Kept
  pub keeps : Keeps plan c k
  pub generation : epoch ≤ k.generation
  pub n : ℕ
  pub within : n ≤ length (stored run.history)
  pub cut : IsCutOf k.history (durable_part run.history n)
  pub covered : Covered run.history n acks

-- What a crash leaves while one record is handled, behind a list of calls.
pub record IsHandling (own : List ℕ) (plan : Plan) (epoch : ℕ) (begun : Run) (log : List Event) (replays : List Replay) (r : Record) (old c : Image) : Type 0 where
  pub run : Run
  pub acks : List Ack
  pub made : List ℕ
  pub answering : IsAnswering own (place_at begun log replays) r run acks made
  pub covering : IsCovering plan epoch run (acks_in log ++ acks) c
  pub out : (j : ℕ) × (c.written ≡ old.written ++ take j made)

-- The crash promise. Some of the records were answered, and the next one may have been received and answered in part. What was
-- written out is a front of what these call for; and each number that was acknowledged in it is kept.
pub record IsKept (own : List ℕ) (plan : Plan) (epoch : ℕ) (begun : Run) (records : List Record) (old c : Image) : Type 0 where
  pub done : List Record
  pub rest : List Record
  pub are : records ≡ done ++ rest
  -- what the answered ones call for
  pub acks : List Ack
  pub text : List ℕ
  pub place : Place
  pub course : Course own (place_at begun [] []) done acks text place
  -- and what was made for the next one
  pub run : Run
  pub more : List Ack
  pub made : List ℕ
  pub next : IsNext own place rest run more made
  pub covering : IsCovering plan epoch run (acks ++ more) c
  pub out : (j : ℕ) × (c.written ≡ old.written ++ (text ++ take j made))
