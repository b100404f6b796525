use Rattle.std.proofs.Common.{◌≡◌, Ok, sym, ◌∙◌, ap}
use Rattle.dur_journal.specs.File.{front_in}
use Rattle.dur_journal.specs.Reading.{history_of}
use Rattle.dur_journal.specs.declared.front.Front.{Front}
use Rattle.dur_journal.specs.declared.front.Front.TheVariants.{Open}
use Rattle.dur_journal.proofs.looking.look_at.Goals as goal

pub returns-in-Ok-last_view-clause-ok : goal.returns-in-Ok-last_view-clause-ok
returns-in-Ok-last_view-clause-ok c =
    let front : front_in c.args.bytes ≡ Ok (Open c.in-Ok-Open.generation) = sym (c.front_of.ensures ∙ ap front_in c.as_slice.ensures) ∙ c.in-Ok-Open.is ∙ ap (λ (f : Front). Ok f) c.in-Ok-Open.field-0-is in
    let read = c.in-Ok.ensures.ok c.in-Ok-Open.generation front in
    record { start = c.in-Ok.read.start; rs = read.rs; h = history_of c.in-Ok.read; text = read.text; counts = read.records; ends = c.in-Ok-last_view.ensures }
