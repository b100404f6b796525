use Rattle.std.proofs.Common.{rules, ◌≡◌, ◌+◌, ◌-◌, ◌<◌, ◌^◌, Bool, ap, subst, sym, length}
use Rattle.rtps_message.specs.Sent.{is_keyed}
use Rattle.rel_writer.specs.LateReaders.{shape_of}
use Rattle.rel_writer.specs.Replays.{AreSendable}
use Rattle.rel_writer.specs.declared.ids.Ids.{Ids}
use Rattle.dur_rerun.proofs.Sendable.{replay_sendable}
use Rattle.dur_rerun.proofs.rerun.reply.start.Goals as goal

pub new-requires : goal.new-requires
new-requires c =
    let few : length c.in-Ok.snapshot.changes + 1 < 2 ^ 63 - 1 = search (rules, c.count.ensures, c.as_slice.ensures) in
    let keyed : c.ids_of.result.keyed ≡ is_keyed (shape_of c.args.nack.now.writer) = ap (λ (i : Ids). i.keyed) c.ids_of.ensures in
    subst (λ (b : Bool). AreSendable b c.in-Ok.snapshot.changes) (sym keyed)
    (replay_sendable c.args.nack.now c.args.hub.now c.snapshot.new.self c.last-moment.result c.in-Ok.snapshot c.requires.reader c.in-Ok.ensures few)
