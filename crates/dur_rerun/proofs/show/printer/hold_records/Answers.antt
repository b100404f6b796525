use Rattle.std.proofs.Common.{◌∙◌, true, refl}
use Rattle.std.proofs.lemmas.Result.{err_from_is_err_and}
use Rattle.dur_rerun.proofs.Shows.{holds_stop, holds_short, holds_next, counted_next, hands_first, hands_next}
use Rattle.dur_rerun.proofs.show.printer.hold_records.Goals as goal

pub returns-then-len-ge-FULL-clause-hands : goal.returns-then-len-ge-FULL-clause-hands
returns-then-len-ge-FULL-clause-hands c =
    hands_next _ c.records.printer c.next.new.self c.hold_record.new.printer c.in-Some.datagram true c.records.invariant.hands (rw c.in-Some.is at c.in_ok-datagram.ensures.taken) c.in_ok-hold_record-in-Some.ensures.ok

pub records-init : goal.records-init
records-init c = record { counted = c.requires; own_is = refl; hands = hands_first _; holds = λ own before octets sent h. h }

pub returns-in_err-datagram-clause-holds : goal.returns-in_err-datagram-clause-holds
returns-in_err-datagram-clause-holds c own before octets sent h =
    let p = err_from_is_err_and c.from_residual.result c.from_residual.ensures.1 in
    rw p.1 (holds_stop c.in_err-datagram.field-0.0 p.0 own before octets sent c.args.ended c.records.printer c.next.new.self p.2 (c.records.invariant.holds own before octets sent h) c.in_err-datagram.ensures.fault)

pub returns-in_err-hold_record-in-Some-clause-holds :
    goal.returns-in_err-hold_record-in-Some-clause-holds
returns-in_err-hold_record-in-Some-clause-holds c own before octets sent h =
    let p = err_from_is_err_and c.from_residual-in_err-hold_record-in-Some.result c.from_residual-in_err-hold_record-in-Some.ensures.1 in
    rw p.1 (holds_short p.0 own before octets sent c.args.ended c.records.printer c.hold_record.new.printer c.next.new.self p.2 (c.records.invariant.holds own before octets sent h) c.in_err-hold_record-in-Some.ensures.err)

pub returns-then-len-ge-FULL-clause-holds : goal.returns-then-len-ge-FULL-clause-holds
returns-then-len-ge-FULL-clause-holds c own before octets sent h =
    let takes = rw c.in-Some.is at c.in_ok-datagram.ensures.taken in
    (holds_next own before octets sent c.records.printer c.next.new.self c.hold_record.new.printer c.in-Some.datagram (c.records.invariant.holds own before octets sent h) takes c.in_ok-hold_record-in-Some.ensures.ok, λ no. absurd (cc))

pub records-preserved : goal.records-preserved
records-preserved c =
    let i = c.records.invariant in
    let takes = rw c.in-Some.is at c.in_ok-datagram.ensures.taken in
    let l = c.in_ok-hold_record-in-Some.ensures.ok in
    record {
      counted = counted_next c.records.printer c.next.new.self c.hold_record.new.printer c.in-Some.datagram i.counted takes l;
      own_is = l.own_is ∙ i.own_is;
      hands = hands_next _ c.records.printer c.next.new.self c.hold_record.new.printer c.in-Some.datagram _ i.hands takes l;
      holds = λ own before octets sent h. holds_next own before octets sent c.records.printer c.next.new.self c.hold_record.new.printer c.in-Some.datagram (i.holds own before octets sent h) takes l;
    }
