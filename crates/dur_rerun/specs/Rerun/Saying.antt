-- A text that goes out through a journal.
use Rattle.std.specs.Prelude.{◌≡◌, ℕ, List, take, OnOk}
use Rattle.std.specs.declared.result.Result.{Result}
use Rattle.dur_outside.specs.World.{Image, World, Leaves}
use Rattle.dur_qos.specs.declared.plan.Plan.{Plan}
use Rattle.dur_journal.specs.declared.state.Journal.{Journal}
use Rattle.dur_journal.specs.Kept.{Kept}
use Rattle.dur_journal.specs.Journals.{Stands}
use Rattle.dur_rerun.specs.Saying.{wrote}

-- the outside as it was, with a front of a text more written out
abbrev pub IsFront : List ℕ → Image → Image → Type 0
IsFront text old c = (k : ℕ) × (c ≡ wrote (take k text) old)

-- What a text that goes out through a journal leaves.
pub record Says {D E : Type 0} (old new : Journal D) (w v : World) (text : List ℕ) (result : Result (Unit {0}) E) : Type 0 where
  -- each crash state since then has what the disk had, and a front of the text was written out
  pub run : Leaves w v (IsFront text w.now)
  -- all of it was, where no call failed
  pub all : OnOk result (v.now ≡ wrote text w.now)
  -- the journal stands for what it stood for
  pub stands : (plan : Plan) (k : Kept) → Stands plan k old w → Stands plan k new v
