use Rattle.std.proofs.Common.{arith, [], ◌++◌, refl}
use Rattle.std.proofs.lemmas.Result.{err_from_is_err_and}
use Rattle.std.proofs.KnownBytes.{Consumes-trans, Consumes-nil}
use Rattle.dur_rerun.proofs.Learning.{hears_first, hears_whole, record_heard, record_told, last_next}
use Rattle.dur_rerun.proofs.Reading.{feeds_first, feeds_next, stops_rest}
use Rattle.dur_rerun.proofs.learn.facts.hear_rest.Goals as goal

pub records-init : goal.records-init
records-init g c = record {
  seen = [];
  consumed = Consumes-nil _;
  records = [];
  feeds = feeds_first c.args.feed c.requires;
  facts = [];
  tells = refl;
  more = hears_first _ _;
  last_is = refl;
  later = omega arith;
}

pub returns-in_err-datagram-clause-stops : goal.returns-in_err-datagram-clause-stops
returns-in_err-datagram-clause-stops g c =
    let i = c.records.invariant in
    let p = err_from_is_err_and c.from_residual.result c.from_residual.ensures.1 in
    rw (p.1, p.2) (stops_rest _ c.args.feed.before _ _ _ c.args.feed.left i.seen i.records c.records.feed i.consumed i.feeds c.in_err-datagram.ensures.ends c.in_err-datagram.ensures.stops)

pub records-preserved : goal.records-preserved
records-preserved g c =
    let i = c.records.invariant in
    let r = rw c.in-Some.is at c.in_ok-datagram.ensures.some in
    let e = c.in_ok-hear_record-in-Some.ensures in
    record {
      seen = i.seen ++ r.seen;
      consumed = Consumes-trans _ _ _ _ _ i.consumed r.consumed;
      records = _;
      feeds = feeds_next c.args.feed.before c.args.feed.left i.seen r.seen i.records c.records.feed _ _ i.feeds r.takes;
      facts = _;
      tells = record_told _ _ _ _ i.records i.facts _ _ _ i.last_is c.later-last.ensures i.tells e;
      more = record_heard _ _ _ _ _ _ _ i.facts i.more e;
      last_is = last_next _ _ i.records _ i.last_is c.later-last.ensures;
      later = omega (arith, i.later, c.in_ok-datagram.ensures.later);
    }

pub records-preserved-in_ok-hear_record-in-Some : goal.records-preserved-in_ok-hear_record-in-Some
records-preserved-in_ok-hear_record-in-Some g c =
    let i = c.records.invariant in
    let r = rw c.in-Some.is at c.in_ok-datagram.ensures.some in
    let e = c.in_ok-hear_record-in-Some.ensures in
    record {
      seen = i.seen ++ r.seen;
      consumed = Consumes-trans _ _ _ _ _ i.consumed r.consumed;
      records = _;
      feeds = feeds_next c.args.feed.before c.args.feed.left i.seen r.seen i.records c.records.feed _ _ i.feeds r.takes;
      facts = _;
      tells = record_told _ _ _ _ i.records i.facts _ _ _ i.last_is c.later-last.ensures i.tells e;
      more = record_heard _ _ _ _ _ _ _ i.facts i.more e;
      last_is = last_next _ _ i.records _ i.last_is c.later-last.ensures;
      later = omega (arith, i.later, c.in_ok-datagram.ensures.later);
    }

pub returns-in-None-clause-hears : goal.returns-in-None-clause-hears
returns-in-None-clause-hears g c =
    let i = c.records.invariant in
    let e = rw c.in-None.is at c.in_ok-datagram.ensures.none in
    hears_whole _ _ _ _ _ _ _ _ i.seen i.records _ _ i.facts _ _ i.consumed i.feeds e i.tells i.more i.last_is

pub returns-in-None-clause-more : goal.returns-in-None-clause-more
returns-in-None-clause-more g c = (c.records.invariant.facts, c.records.invariant.more)
