use Rattle.std.proofs.Common.{◌≡◌, ◌/◌, ◌%◌, ◌<◌, ◌∙◌, length, get_or, sym, ap, eqb, arith}
use Rattle.std.proofs.lemmas.List.{get_or_read}
use Rattle.std.proofs.lemmas.Nat.Bits.{shr_and_one}
use Rattle.std.specs.Int.{bit_at}
use Rattle.rtps_frag.proofs.Marks.{length-marks_in, get_or-marks_in}
use Rattle.rtps_frag.proofs.arrived.Arrived.is_set.Goals as goal

pub index-requires : goal.index-requires
index-requires c = omega (arith, c.requires, length-marks_in c.self.inside.words.items c.self.inside.count, ap length c.self.view_is, c.self.inside.words.ok.0, c.self.invariant.words_are, c.self.invariant.within)

pub returns : goal.returns
returns c =
    λ d.
    let words = c.self.inside.words.items in
    let early : c.args.at < c.self.inside.count = omega (arith, c.requires, length-marks_in words c.self.inside.count, ap length c.self.view_is) in
    let read : c.index.result.now ≡ get_or words (c.args.at / 64) 0 = get_or_read words (c.args.at / 64) _ (omega (arith, early, c.self.invariant.words_are, c.self.invariant.within)) c.index.ensures 0 in
    ap (λ x. eqb x 1) (shr_and_one c.index.result.now (c.args.at % 64))
    ∙ ap (λ x. eqb (bit_at x (c.args.at % 64)) 1) read
    ∙ sym (get_or-marks_in words c.self.inside.count c.args.at d early)
    ∙ ap (λ t. get_or t c.args.at d) c.self.view_is
