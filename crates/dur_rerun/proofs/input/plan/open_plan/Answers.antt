use Rattle.std.proofs.Common.{rules, arith, refl}
use Rattle.std.proofs.KnownBytes.{Consumes-trans}
use Rattle.std.proofs.lemmas.Result.{err_from_is_err_and}
use Rattle.dur_rerun.proofs.Rest.{same_seen}
use Rattle.dur_rerun.proofs.Opens.{opens_inside, piece_taken, reads_piece, push_told, sized, opened_last, ended_last}
use Rattle.dur_rerun.proofs.input.plan.open_plan.Goals as goal

pub returns-then-count-eq0-clause-opens : goal.returns-then-count-eq0-clause-opens
returns-then-count-eq0-clause-opens g c =
    let i = c.pieces.invariant in
    opened_last c.begin.result _ _ i.seen c.pieces.reader c.pieces.before i.reads i.size i.all c.begin.ensures.ended c.begin.ensures.ok (same_seen _ _ _ _ _ _ c.if-count-eq0.true i.consumed c.in_ok-count.ensures.bytes.0) (search rules)

pub returns-then-count-eq0-clause-stops : goal.returns-then-count-eq0-clause-stops
returns-then-count-eq0-clause-stops g c =
    let i = c.pieces.invariant in
    ended_last c.begin.result _ _ i.seen c.pieces.reader (same_seen _ _ _ _ _ _ c.if-count-eq0.true i.consumed c.in_ok-count.ensures.bytes.0) (c.in_ok-count.ensures.bytes.1 c.if-count-eq0.true (search rules)) i.reads c.begin.ensures.err

pub returns-in_err-taken-clause-stops : goal.returns-in_err-taken-clause-stops
returns-in_err-taken-clause-stops g c =
    let i = c.pieces.invariant in
    let p = err_from_is_err_and c.from_residual-in_err-taken.result c.from_residual-in_err-taken.ensures.1 in
    rw p.1 (push_told _ _ i.seen _ c.pieces.reader c.push.new.self _ p.0 p.2 (Consumes-trans _ _ _ _ _ i.consumed c.in_ok-count.ensures.bytes.0) i.reads c.in_err-taken.ensures.err)

pub returns-in-Ok-clause-opens : goal.returns-in-Ok-clause-opens
returns-in-Ok-clause-opens g c =
    let i = c.pieces.invariant in
    let b = c.in-Ok.ensures in
    (_, Consumes-trans _ _ _ _ _ i.consumed c.in_ok-count.ensures.bytes.0, opens_inside i.seen _ c.pieces.reader c.push.new.self c.in_ok-taken.taken c.pieces.before _ _ i.reads i.size i.all c.in_ok-taken.ensures.ok c.in_ok-taken.ensures.taken refl b.ended b.ok.0 b.ok.1 (search rules))

pub pieces-preserved : goal.pieces-preserved
pieces-preserved g c =
    let i = c.pieces.invariant in
    record {
      seen = _;
      consumed = Consumes-trans _ _ _ _ _ i.consumed c.in_ok-count.ensures.bytes.0;
      reads = reads_piece i.seen _ c.pieces.reader c.push.new.self i.reads c.in_ok-taken.ensures.ok;
      size = sized i.seen _ c.pieces.before c.in_ok-count.count i.size (search rules);
      all = piece_taken i.seen _ c.pieces.reader c.in_ok-taken.taken c.in_ok-count.count i.reads i.all c.in_ok-taken.ensures.taken (search rules) c.if-taken-count.false;
      later = omega (arith, i.later, c.in_ok-count.ensures.cause);
    }
