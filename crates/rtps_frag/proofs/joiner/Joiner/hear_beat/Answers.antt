use Rattle.std.proofs.Common.{◌∙◌, sym}
use Rattle.rtps_frag.proofs.Runs.{beat_read, beat_idle, beat_asks}
use Rattle.rtps_frag.proofs.joiner.Joiner.hear_beat.Goals as goal

pub returns-then-not-is_for-clause-ok : goal.returns-then-not-is_for-clause-ok
returns-then-not-is_for-clause-ok c =
    let read = beat_read c.args.bytes.now _ c.args.len _ _ c.in-Ok.beat c.parts-flags.ensures.flags c.parts-flags.ensures.body c.has.ensures c.in-Ok.ensures.value in
    beat_idle c.args.own c.args.bytes.now _ c.args.len c.in-Ok.beat c.requires.spells c.requires.within read (sym c.is_for.ensures ∙ c.if-not-is_for.true)

pub returns-else-not-is_for-clause-ok : goal.returns-else-not-is_for-clause-ok
returns-else-not-is_for-clause-ok c =
    let read = beat_read c.args.bytes.now _ c.args.len _ _ c.in-Ok.beat c.parts-flags.ensures.flags c.parts-flags.ensures.body c.has.ensures c.in-Ok.ensures.value in
    beat_asks c.args.own c.args.bytes.now _ c.args.len c.in-Ok.beat c.asked-ask.result c.requires.spells c.requires.within read (sym c.is_for.ensures ∙ c.if-not-is_for.false) (rw (← c.of.ensures) c.asked-ask.ensures)
