use Rattle.std.proofs.Common.{◌∙◌, arith, sym, subst}
use Rattle.rtps_message.specs.Facts.{AreGood}
use Rattle.std.specs.List.{sum_by}
use Rattle.rel_writer.specs.Room.{brings}
use Rattle.rel_writer.proofs.HearsFacts.{hear_none, hear_more, heard_all, none_of_length, room_next}
use Rattle.rel_writer.proofs.late.LateReader.hear_all.Goals as goal

pub loop-fact-init : goal.loop-fact-init
loop-fact-init c =
    let is = c.into_iter-fact-iterator.ensures.into_iter_gives.0 ∙ c.into_vec-fact-items.ensures in
    record {
      heard = λ m st room. hear_none _ m c.args.facts _ is st room;
      good = subst AreGood (sym is) c.requires;
    }

pub loop-fact-preserved : goal.loop-fact-preserved
loop-fact-preserved c =
    let is = c.in-Some.ensures.steps.0 in
    let rest = c.next.new.self.rest.items in
    record {
      heard = λ m st room.
          let h = c.loop-fact.invariant.heard m st room in
          let has = room_next _ m c.args.facts _ rest c.in-Some.fact c.loop-fact.asked is h in
          let one = c.hear.ensures h.now (sum_by brings rest) h.stands has in
          hear_more _ _ m c.args.facts _ rest c.in-Some.fact c.either-asked.result
          c.loop-fact.asked c.hear.result is c.either-asked.ensures h one;
      good = (subst AreGood is c.loop-fact.invariant.good).1;
    }

pub returns : goal.returns
returns c = λ l st room.
    let items = c.loop-fact.fact-iterator.rest.items in
    let none = none_of_length items
    (omega (arith, c.in-None.ensures.steps.0, c.loop-fact.fact-iterator.rest.ok.0)) in
    heard_all _ l c.args.facts items c.loop-fact.asked none (c.loop-fact.invariant.heard l st room)
