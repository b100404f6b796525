use Rattle.std.proofs.Common.{[], ◌∷◌, ◌++◌, ap, ◌∙◌, arith}
use Rattle.dur_base.specs.declared.sample.Sample.{Sample}
use Rattle.dur_store.proofs.HeldLists.{members-more}
use Rattle.dur_store.proofs.members.listed.Goals as goal

pub loop-at-preserved : goal.loop-at-preserved
loop-at-preserved c =
    c.in_ok-push.ensures.ok
    ∙ ap (λ (x : Sample). c.loop-at.members ++ record { number = c.index-taken-at.result.number; moment = c.index-taken-at.result.moment; sample = x } ∷ []) c.in_ok-copy.ensures
    ∙ members-more c.args.samples.now c.args.taken.now c.loop-at.at c.index-samples-at.result c.index-taken-at.result c.loop-at.members
    c.requires (omega arith) c.index-samples-at.is c.index-taken-at.is c.loop-at.invariant
