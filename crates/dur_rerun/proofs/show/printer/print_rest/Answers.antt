use Rattle.std.proofs.Common.{arith, ◌∙◌, ◌++◌, subst}
use Rattle.std.proofs.KnownBytes.{Consumes-trans}
use Rattle.std.proofs.lemmas.Result.{err_from_is_err_and}
use Rattle.dur_capture.specs.Feeding.{Feeding, Waits}
use Rattle.dur_rerun.specs.Input.Records.{Refills}
use Rattle.dur_rerun.proofs.Commands.{wrote_more}
use Rattle.dur_rerun.proofs.Shows.{text_read, out_cut, out_stopped, out_done, out_read, holds_sent, holds_given, counted_sent, counted_given, full_smaller, refill_smaller, not_true}
use Rattle.dur_rerun.proofs.show.printer.print_rest.Goals as goal

pub returns-in_err-send_held-clause-out : goal.returns-in_err-send_held-clause-out
returns-in_err-send_held-clause-out g c =
    let i = c.pieces.invariant in
    let a = c.args.printer.now in
    let h = c.hold_records-held.ensures.holds a.own a.feed.before (a.feed.left ++ i.seen) i.sent i.holds in
    let p = err_from_is_err_and c.from_residual.result c.from_residual.ensures.1 in
    rw (p.1, p.2) (out_cut _ _ a.own a.feed.before a.feed.left i.seen i.sent _ _ _ _ _ _ i.consumed (text_read a.own a.feed.before (a.feed.left ++ i.seen) i.sent c.pieces.ended c.hold_records-held.result c.hold_records-held.new.printer h) c.in_err-send_held.ensures.fault c.in_err-send_held.ensures.more i.written c.in_err-send_held.ensures.some)

pub returns-in_err-full-clause-out : goal.returns-in_err-full-clause-out
returns-in_err-full-clause-out g c =
    let i = c.pieces.invariant in
    let a = c.args.printer.now in
    let p = err_from_is_err_and c.from_residual-in_err-full.result c.from_residual-in_err-full.ensures.1 in
    rw (p.1, p.2) (out_stopped c.pieces.ended _ _ _ a.own a.feed.before a.feed.left i.seen i.sent _ _ _ _ _ i.consumed i.end (c.in_err-full.ensures.holds a.own a.feed.before (a.feed.left ++ i.seen) i.sent i.holds) c.in_err-full.ensures.ends i.written c.in_ok-send_held.ensures.all)

pub returns-then-ended-clause-out : goal.returns-then-ended-clause-out
returns-then-ended-clause-out g c =
    let i = c.pieces.invariant in
    let a = c.args.printer.now in
    let h = c.in_ok-full.ensures.holds a.own a.feed.before (a.feed.left ++ i.seen) i.sent i.holds in
    out_done _ _ a.own a.feed.before a.feed.left i.seen i.sent c.hold_records-held.new.printer _ _ _ _ i.consumed (i.end c.if-ended.true) h.0 (subst (Waits c.hold_records-held.new.printer.feed) c.if-ended.true (h.1 c.if-not-full.true)) i.written c.in_ok-send_held.ensures.all

pub returns-in_err-ended-clause-out : goal.returns-in_err-ended-clause-out
returns-in_err-ended-clause-out g c =
    let i = c.pieces.invariant in
    let a = c.args.printer.now in
    let h = c.hold_records-held.ensures.holds a.own a.feed.before (a.feed.left ++ i.seen) i.sent i.holds in
    let p = err_from_is_err_and c.from_residual-in_err-ended.result c.from_residual-in_err-ended.ensures.1 in
    rw (p.1, p.2) (out_read _ _ _ a.own a.feed.before a.feed.left i.seen i.sent _ _ _ _ _ i.consumed (text_read a.own a.feed.before (a.feed.left ++ i.seen) i.sent c.pieces.ended c.hold_records-held.result c.hold_records-held.new.printer h) c.in_err-ended.ensures.ends i.written c.in_ok-send_held.ensures.all)

pub pieces-preserved : goal.pieces-preserved
pieces-preserved g c =
    let i = c.pieces.invariant in
    let a = c.args.printer.now in
    let h = c.in_ok-full.ensures.holds a.own a.feed.before (a.feed.left ++ i.seen) i.sent i.holds in
    record {
      counted = counted_sent c.hold_records-held.new.printer c.send_held.new.printer c.in_ok-full.ensures.counted c.in_ok-send_held.ensures.rest;
      seen = i.seen;
      consumed = i.consumed;
      sent = i.sent ++ c.hold_records-held.new.printer.held.items;
      holds = holds_sent a.own a.feed.before (a.feed.left ++ i.seen) i.sent c.hold_records-held.new.printer c.send_held.new.printer h.0 c.in_ok-send_held.ensures.sent c.in_ok-send_held.ensures.rest;
      none = c.in_ok-send_held.ensures.sent;
      end = i.end;
      written = λ t. wrote_more i.sent c.hold_records-held.new.printer.held.items _ _ _ (i.written t) (c.in_ok-send_held.ensures.all t);
      disk = c.in_ok-send_held.ensures.keeps ∙ i.disk;
      later_read = i.later_read;
      later_write = omega (arith, i.later_write, c.in_ok-send_held.ensures.cause);
    }

pub pieces-smaller : goal.pieces-smaller
pieces-smaller g c =
    full_smaller c.pieces.printer.feed c.hold_records-held.new.printer.feed c.send_held.new.printer.feed c.in_ok-full.full _ c.in_ok-full.ensures.hands c.if-not-full.false c.in_ok-send_held.ensures.rest.1 c.in_ok-full.ensures.counted.within

pub pieces-smaller-then-not-full : goal.pieces-smaller-then-not-full
pieces-smaller-then-not-full g c =
    let i = c.pieces.invariant in
    let a = c.args.printer.now in
    let h = c.in_ok-full.ensures.holds a.own a.feed.before (a.feed.left ++ i.seen) i.sent i.holds in
    let f = c.hold_records-held.new.printer.feed in
    refill_smaller _ _ c.pieces.printer.feed f c.refill.new.feed c.in_ok-full.full c.in_ok-ended.field-0 c.pieces.ended c.in_ok-full.ensures.hands (subst (Waits f) c.if-ended.false (h.1 c.if-not-full.true))
    (subst (λ (x : Feeding). Refills (g.S.Source.left c.pieces.input) (g.S.Source.left c.refill.new.input) x c.refill.new.feed c.in_ok-ended.field-0) c.in_ok-send_held.ensures.rest.1 c.in_ok-ended.ensures.refills) c.if-ended.false

pub pieces-preserved-then-not-full : goal.pieces-preserved-then-not-full
pieces-preserved-then-not-full g c =
    let i = c.pieces.invariant in
    let a = c.args.printer.now in
    let h = c.in_ok-full.ensures.holds a.own a.feed.before (a.feed.left ++ i.seen) i.sent i.holds in
    let r = c.in_ok-ended.ensures.refills in
    record {
      counted = counted_given c.send_held.new.printer c.refill.new.feed r.piece (counted_sent c.hold_records-held.new.printer c.send_held.new.printer c.in_ok-full.ensures.counted c.in_ok-send_held.ensures.rest) r.given_is;
      seen = i.seen ++ r.piece;
      consumed = Consumes-trans _ _ _ _ _ i.consumed r.consumed;
      sent = i.sent ++ c.hold_records-held.new.printer.held.items;
      holds = holds_given a.own a.feed.before a.feed.left i.seen r.piece (i.sent ++ c.hold_records-held.new.printer.held.items) c.send_held.new.printer c.refill.new.feed (holds_sent a.own a.feed.before (a.feed.left ++ i.seen) i.sent c.hold_records-held.new.printer c.send_held.new.printer h.0 c.in_ok-send_held.ensures.sent c.in_ok-send_held.ensures.rest) r.given_is;
      none = c.in_ok-send_held.ensures.sent;
      end = λ e. (r.last (not_true c.in_ok-ended.field-0 e)).1;
      written = λ t. wrote_more i.sent c.hold_records-held.new.printer.held.items _ _ _ (i.written t) (c.in_ok-send_held.ensures.all t);
      disk = c.in_ok-send_held.ensures.keeps ∙ i.disk;
      later_read = omega (arith, i.later_read, c.in_ok-ended.ensures.later);
      later_write = omega (arith, i.later_write, c.in_ok-send_held.ensures.cause);
    }
