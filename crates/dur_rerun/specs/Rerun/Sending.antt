-- Messages that go out through a journal as records.
use Rattle.std.specs.Prelude.{◌≡◌, ℕ, List, OnOk, OnErr}
use Rattle.std.specs.declared.result.Result.{Result}
use Rattle.dur_outside.specs.World.{World}
use Rattle.dur_outside.specs.Causes.{Rose}
use Rattle.dur_journal.specs.declared.state.Journal.{Journal}
use Rattle.dur_journal.specs.Journals.{IsReady}
use Rattle.dur_rerun.specs.declared.rerun.reply.Cut.{Cut}
use Rattle.dur_rerun.specs.declared.rerun.reply.Cut.TheVariants as cut
use Rattle.dur_rerun.specs.Rerun.Saying.{Says}
use Rattle.dur_rerun.specs.Rerun.Replies.{records_text}

-- Messages that went out: all that there are, or with a failure the first of them, of whose text a front did.
pub record GoOut {D E : Type 0} (tells : Type 0) (old new : Journal D) (w v : World) (moment port : ℕ) (result : Result (Unit {0}) E) (Are Begin : List (List ℕ) → Type 0) : Type 0 where
  pub messages : List (List ℕ)
  pub all : OnOk result (Are messages)
  pub first : OnErr result (Begin messages)
  pub says : tells → Says old new w v (records_text moment port messages) result

-- what stays of a journal through which something goes out
pub record Stays {D : Type 0} (tells : Type 0) (old new : Journal D) (v : World) (disks disks_now : ℕ) : Type 0 where
  -- it is ready
  pub ready : tells → IsReady new v
  -- nothing but its disk has changed
  pub same : new ≡ record old { disk = new.disk }
  -- no call on a file failed
  pub keeps : disks_now ≡ disks

-- why not all was written out: a write failed, or memory was wanting
abbrev pub CutBy : Cut → ℕ → ℕ → Type 0
CutBy cut.Write writes writes_now = Rose writes writes_now
CutBy cut.OutOfMemory writes writes_now = Unit {0}
