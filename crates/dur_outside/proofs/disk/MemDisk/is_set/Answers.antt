use Rattle.std.proofs.Common.{inl, subst}
use Rattle.dur_outside.specs.Calls.{IsListed}
use Rattle.dur_outside.specs.Memory.{GivenDisk}
use Rattle.dur_outside.proofs.disk.MemDisk.is_set.Goals as goal

pub returns-then-listed : goal.returns-then-listed
returns-then-listed c = (λ listed. inl (subst (λ (d : GivenDisk). IsListed d.calls) c.self.view_is (c.is_listed-listed.ensures.0 listed)), λ _. c.if-listed.true)
