use Rattle.std.proofs.Common.{◌∙◌, sym}
use Rattle.rel_reader.proofs.Learning.{taken}
use Rattle.rel_reader.proofs.proxy.Proxy.learn.Goals as goal

pub returns-then-is_open : goal.returns-then-is_open
returns-then-is_open c = λ n f s. rw c.write.ensures.after (taken _ _ _ c.write.ensures.size c.requires (sym c.is_open.ensures.value ∙ c.if-is_open.true) n f s)
