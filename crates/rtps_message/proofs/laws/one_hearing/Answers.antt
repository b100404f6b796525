use Rattle.std.proofs.Common.{◌≡◌, ◌∙◌, sym, true, false}
use Rattle.rtps_message.proofs.Once.{hears_whole, hears_nothing}
use Rattle.rtps_message.proofs.laws.one_hearing.Goals as goal

pub returns-then-is_some : goal.returns-then-is_some
returns-then-is_some c = hears_whole c.args.bytes.now c.end_of.result (c.begin.ensures.some.0 (sym c.is_some.ensures ∙ c.if-is_some.true)) c.end_of.ensures

pub returns-else-is_some : goal.returns-else-is_some
returns-else-is_some c = hears_nothing c.args.bytes.now (λ h. let e : true ≡ false = sym (c.begin.ensures.some.1 h) ∙ sym c.is_some.ensures ∙ c.if-is_some.false in absurd cc)
