use Rattle.std.proofs.Common.{refl, arith}
use Rattle.dur_hub.proofs.Queueing.{all_out}
use Rattle.dur_hub.proofs.queue.Queue.take_all.Goals as goal

pub returns : goal.returns
returns c = record {
  ok =
      λ t d es so. all_out c.args.self.now _ t d es c.in_ok-entries.entries.items _ so c.in_ok-entries.ensures refl c.of.ensures c.clear.ensures.pending (c.clear.ensures.same.0, c.clear.ensures.same.2) (omega (arith, c.clear.ensures.same.1));
  err = tt;
}
