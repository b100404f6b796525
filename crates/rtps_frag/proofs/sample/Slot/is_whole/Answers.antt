use Rattle.std.proofs.Common.{ap, refl, ◌∙◌, ℕ, subst, arith}
use Rattle.std.specs.Prelude.{◌==◌}
use Rattle.rtps_message.specs.Facts.{IsGoodFact}
use Rattle.rtps_frag.specs.Samples.{Opened, joined}
use Rattle.rtps_frag.proofs.Good.{joined_good}
use Rattle.rtps_frag.proofs.Pieces.{whole_none}
use Rattle.rtps_frag.proofs.sample.Slot.is_whole.Goals as goal

pub returns-clause-value : goal.returns-clause-value
returns-clause-value c = ap (λ (n : ℕ). n == 0) c.self.invariant.counted ∙ whole_none c.self.inside.came ∙ rw (← c.self.view_is) refl

pub returns-clause-good : goal.returns-clause-good
returns-clause-good c =
    subst (λ (o : Opened). IsGoodFact (joined o)) c.self.view_is (joined_good _ c.self.invariant.inside (omega (arith, c.self.invariant.octets_are, c.self.invariant.short)))
