-- What is replied to a record.
use Rattle.std.specs.Prelude.{ℕ, List, OnOk, OnErr}
use Rattle.std.specs.declared.result.Result.{Result}
use Rattle.dur_outside.specs.World.{World}
use Rattle.dur_journal.specs.declared.state.Journal.{Journal}
use Rattle.dur_qos.specs.declared.plan.Plan.{Plan}
use Rattle.dur_hub.specs.declared.hub.Hub.{Hub}
use Rattle.dur_hub.specs.declared.reply.Ack.{Ack}
use Rattle.dur_rerun.specs.declared.rerun.nacks.Nack.{Nack}
use Rattle.dur_rerun.specs.declared.rerun.replays.Replay.{Replay}
use Rattle.dur_rerun.specs.Rerun.Saying.{Says}
use Rattle.dur_rerun.specs.Rerun.Replies.{Replies, BeginsReplies}
use Rattle.dur_rerun.specs.Rerun.Steps.{Leads, Wherever, place_at}

-- What went out of what a record calls for.
pub record Replied {D E : Type 0} (tells : Type 0) (own : List ℕ) (port : ℕ) (acks : List Ack) (ns : List Nack) (plan : Plan) (hub hub' : Hub) (replays replays' : List Replay) (old new : Journal D) (w v : World) (result : Result (Unit {0}) E) : Type 0 where
  pub text : List ℕ
  -- wherever the hub stood over that plan, the text is what the record calls for there, and hub and replays stand where that leads
  pub all : OnOk result (Wherever plan hub (λ start log. Leads start log hub' replays' (λ after. Replies own port acks ns (place_at start log replays) text after)))
  -- with a failure it is that of the first messages
  pub begun : OnErr result (Wherever plan hub (λ start log. BeginsReplies own port acks ns (place_at start log replays) text))
  -- it went out through the journal, with a failure a front of it
  pub says : tells → Says old new w v text result
