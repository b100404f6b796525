use Rattle.std.proofs.Common.{rules}
use Rattle.dur_base.proofs.WordBits.{names_pushed, normal_pushed}
use Rattle.dur_base.proofs.bits.Bits.push.Goals as goal

pub invariant_of-self : goal.invariant_of-self
invariant_of-self c = normal_pushed _ _ _ (search rules) c.requires.within (search rules) c.self.invariant

pub returns-clause-names : goal.returns-clause-names
returns-clause-names c = rw (← c.self.view_is) (names_pushed _ _ (search rules) c.requires.within (search rules) c.self.invariant.clear)
