use Rattle.std.proofs.Common.{◌≡◌, ◌*◌, ◌/◌, ◌<◌, ◌≤◌, ◌∙◌, length, get_or, ap, set, true, arith}
use Rattle.std.proofs.lemmas.List.{get_or_read}
use Rattle.rtps_frag.proofs.Marks.{length-marks_in, marked}
use Rattle.rtps_frag.proofs.arrived.Arrived.set.Goals as goal

pub index_mut-requires : goal.index_mut-requires
index_mut-requires c = omega (arith, c.requires, length-marks_in c.self.inside.words.items c.self.inside.count, ap length c.self.view_is, c.self.inside.words.ok.0, c.self.invariant.words_are, c.self.invariant.within)

pub returns : goal.returns
returns c =
    let words = c.self.inside.words.items in
    let early : c.args.at < c.self.inside.count = omega (arith, c.requires, length-marks_in words c.self.inside.count, ap length c.self.view_is) in
    let room : c.self.inside.count ≤ 64 * length words = omega (arith, c.self.invariant.words_are, c.self.invariant.within) in
    let read : c.index_mut.result.now ≡ get_or words (c.args.at / 64) 0 = get_or_read words (c.args.at / 64) _ (omega (arith, early, room)) c.index_mut.ensures.value 0 in
    marked words c.self.inside.count c.args.at c.index_mut.result.now early room read ∙ ap (λ t. set t c.args.at true) c.self.view_is
