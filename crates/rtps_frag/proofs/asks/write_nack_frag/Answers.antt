use Rattle.std.proofs.Common.{◌≡◌, length}
use Rattle.rtps_frag.proofs.Words.{nack_sent}
use Rattle.rtps_frag.proofs.asks.write_nack_frag.Goals as goal
use lib.Seq.{paste}

pub returns-clause-len : goal.returns-clause-len
returns-clause-len c =
    let text = rw (c.entity.ensures, c.entity-2.ensures) at c.nack_octets-text.ensures.text in
    let words = c.nack_octets-text.result.items in
    let written : c.write_at.new.octets ≡ paste c.write_start-at.new.out c.write_start-at.result words (length words) = rw (← c.as_slice.ensures.value) c.write_at.ensures.written in
    (nack_sent c.args.from c.args.to c.args.ask.now c.args.count _ _ c.args.out.now _ _ _ c.write_start-at.ensures.text c.write_start-at.ensures.len text c.len.ensures.value written).0

pub returns-clause-text : goal.returns-clause-text
returns-clause-text c =
    let text = rw (c.entity.ensures, c.entity-2.ensures) at c.nack_octets-text.ensures.text in
    let words = c.nack_octets-text.result.items in
    let written : c.write_at.new.octets ≡ paste c.write_start-at.new.out c.write_start-at.result words (length words) = rw (← c.as_slice.ensures.value) c.write_at.ensures.written in
    (nack_sent c.args.from c.args.to c.args.ask.now c.args.count _ _ c.args.out.now _ _ _ c.write_start-at.ensures.text c.write_start-at.ensures.len text c.len.ensures.value written).1
