use Rattle.std.proofs.Common.{arith}
use Rattle.dur_store.proofs.Wholes.{topic-more}
use Rattle.dur_store.proofs.whole.append_topic.Goals as goal

pub returns : goal.returns
returns c = λ h topic are.
    topic-more c.args.at h c.args.topic.now c.args.moment _ _ _ _ _ _ _ topic are c.in_ok-instances.ensures c.in_ok-kept.ensures c.in_ok-append_lines.ensures c.in_ok-append_kept.ensures c.len-base.ensures (omega arith)
