use Rattle.std.proofs.Common.{◌∙◌, true, not, sym, ap, arith}
use Rattle.rtps_frag.proofs.Pieces.{missing_less}
use Rattle.rtps_frag.proofs.sample.is_missing.Goals as goal

pub returns-then-k-len-clause-counted : goal.returns-then-k-len-clause-counted
returns-then-k-len-clause-counted c = λ e. missing_less c.args.came.now c.args.k true (omega (arith, c.if-k-len.true, c.len.ensures)) (ap not (sym (c.is_set.ensures true)) ∙ e)
