use Rattle.std.proofs.Common.{arith}
use Rattle.std.proofs.lemmas.Result.{on_ok_weaker}
use Rattle.rel_reader.specs.Stories.{next}
use Rattle.rel_reader.specs.KnownNumbers.{known}
use Rattle.rel_writer.proofs.Waiting.{no_more_than}
use Rattle.rel_writer.proofs.late.LateReader.reserve.Goals as goal

pub returns-in-Some-clause-room : goal.returns-in-Some-clause-room
returns-in-Some-clause-room c =
    on_ok_weaker c.reserve.result
    (λ room l st. omega (
      arith,
      room,
      no_more_than (known l.story) (next l.story) 256,
      c.brought.ensures,
      c.in-Some.ensures,
    ))
    c.reserve.ensures.ok
