use Rattle.std.proofs.Common.{◌≡◌, true, false, List, length, arith, subst, sym, ◌∙◌}
use Rattle.std.specs.List.{AllByRecursion}
use Rattle.std.proofs.lemmas.Bool.{lt-ltb, ltb-true}
use Rattle.std.proofs.lemmas.List.{take_all}
use Rattle.dur_view.specs.declared.change.Change.{Change}
use Rattle.rel_writer.specs.Replays.{IsSendable}
use Rattle.rel_writer.proofs.SentAgain.{all_so_far, one_at}
use Rattle.rel_writer.proofs.sendable.are_sendable.Goals as goal

pub loop-change-preserved : goal.loop-change-preserved
loop-change-preserved c =
    all_so_far (IsSendable c.args.keyed) c.args.changes.now c.loop-change.change-index
    c.change-item.result c.loop-change-test.true c.change-item.is c.loop-change.invariant
    (c.is_sendable.ensures.0 c.if-not-is_sendable.false)

pub returns-then-not-is_sendable : goal.returns-then-not-is_sendable
returns-then-not-is_sendable c = (
  λ no. let e : false ≡ true = no in cc,
  λ are. sym c.if-not-is_sendable.true
      ∙ c.is_sendable.ensures.1
      (one_at (IsSendable c.args.keyed) c.args.changes.now c.loop-change.change-index
      c.change-item.result c.loop-change-test.true c.change-item.is are.each),
)

pub returns : goal.returns
returns c = (
  λ yes. record {
    each = subst (λ (t : List Change). AllByRecursion (IsSendable c.args.keyed) t)
        (take_all c.loop-change.change-index c.args.changes.now
        (omega (arith, c.loop-change-test.false))) c.loop-change.invariant;
    few = omega (arith, ltb-true (length c.args.changes.now) 0x7ffffffffffffffe yes);
  },
  λ are. lt-ltb (length c.args.changes.now) 0x7ffffffffffffffe (omega (arith, are.few)),
)
