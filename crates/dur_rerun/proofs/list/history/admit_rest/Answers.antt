use Rattle.std.proofs.Common.{arith, [], ◌∷◌, ◌++◌}
use Rattle.std.proofs.lemmas.Result.{err_from_is_err_and}
use Rattle.std.proofs.KnownBytes.{Consumes-trans, Consumes-nil}
use Rattle.dur_rerun.proofs.Admitting.{bring_more}
use Rattle.dur_rerun.proofs.Reading.{feeds_first, feeds_next, stops_rest}
use Rattle.dur_rerun.proofs.Taking.{adds_more}
use Rattle.dur_rerun.proofs.list.history.admit_rest.Goals as goal

pub records-init : goal.records-init
records-init g c = record {
  seen = [];
  consumed = Consumes-nil _;
  records = [];
  feeds = feeds_first c.args.feed c.requires;
  calls = [];
  brings = tt;
  adds = λ start stands. stands;
  later = omega arith;
}

pub returns-in_err-datagram-clause-stops : goal.returns-in_err-datagram-clause-stops
returns-in_err-datagram-clause-stops g c =
    let i = c.records.invariant in
    let p = err_from_is_err_and c.from_residual.result c.from_residual.ensures.1 in
    rw (p.1, p.2) (stops_rest _ c.args.feed.before _ _ _ c.args.feed.left i.seen i.records c.records.feed i.consumed i.feeds c.in_err-datagram.ensures.ends c.in_err-datagram.ensures.stops)

pub records-preserved-in_ok-admit-in-Some : goal.records-preserved-in_ok-admit-in-Some
records-preserved-in_ok-admit-in-Some g c =
    let i = c.records.invariant in
    let r = rw c.in-Some.is at c.in_ok-datagram.ensures.some in
    let e = c.in_ok-admit-in-Some.ensures in
    record {
      seen = i.seen ++ r.seen;
      consumed = Consumes-trans _ _ _ _ _ i.consumed r.consumed;
      records = _;
      feeds = feeds_next c.args.feed.before c.args.feed.left i.seen r.seen i.records c.records.feed _ _ i.feeds r.takes;
      calls = i.calls ++ e.call ∷ [];
      brings = bring_more _ i.records i.calls _ e.call i.brings e.brings;
      adds = adds_more _ _ _ i.calls e.call i.adds e.adds;
      later = omega (arith, i.later, c.in_ok-datagram.ensures.later);
    }

pub records-preserved : goal.records-preserved
records-preserved g c =
    let i = c.records.invariant in
    let r = rw c.in-Some.is at c.in_ok-datagram.ensures.some in
    let e = c.in_ok-admit-in-Some.ensures in
    record {
      seen = i.seen ++ r.seen;
      consumed = Consumes-trans _ _ _ _ _ i.consumed r.consumed;
      records = _;
      feeds = feeds_next c.args.feed.before c.args.feed.left i.seen r.seen i.records c.records.feed _ _ i.feeds r.takes;
      calls = i.calls ++ e.call ∷ [];
      brings = bring_more _ i.records i.calls _ e.call i.brings e.brings;
      adds = adds_more _ _ _ i.calls e.call i.adds e.adds;
      later = omega (arith, i.later, c.in_ok-datagram.ensures.later);
    }
