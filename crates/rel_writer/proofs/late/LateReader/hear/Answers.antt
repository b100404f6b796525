use Rattle.std.proofs.Common.{◌∙◌, ap}
use Rattle.rel_writer.specs.LateReaders.{asks_by, drain, told}
use Rattle.rel_writer.proofs.Steps.{room_told}
use Rattle.rel_writer.proofs.late.LateReader.hear.Goals as goal

pub returns : goal.returns
returns c = λ l more st room.
    let m = told l c.args.fact in
    let there = c.tell.ensures.told l st in
    let has = room_told c.args.self.now c.tell.new.self l c.args.fact more c.tell.ensures.taken
    room in
    let s = c.take_ready.ensures m more there has in
    record {
      settles = s;
      says =
          c.asks.ensures (drain s.times m) s.stands
          ∙ ap (asks_by (drain s.times m)) c.beat_of-beat.ensures;
    }
