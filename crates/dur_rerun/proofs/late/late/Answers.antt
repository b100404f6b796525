use Rattle.std.proofs.Common.{refl}
use Rattle.rel_writer.specs.LateReaders.{fresh}
use Rattle.dur_rerun.proofs.LateRuns.{took_all, took_some, took_none, caused_all, prints_cut, prints_none, completes}
use Rattle.dur_rerun.proofs.late.late.Goals as goal

pub returns-in-Ok-take_turns-clause-takes : goal.returns-in-Ok-take_turns-clause-takes
returns-in-Ok-take_turns-clause-takes g c =
    let first = fresh c.args.reader c.args.service c.args.writer in
    let goes = c.in-Ok-take_turns.ensures.goes first c.in-Ok.ensures refl in
    let ends = c.finish.ensures.finishes goes.after goes.stands in
    (goes.after, took_all first c.args.turns c.finish.result c.take_turns.new.late g.L.Link.tells _ _ _ _ _ _ goes ends, c.finish.ensures.prints goes.after goes.stands)

pub returns-in-Ok-take_turns-clause-cause : goal.returns-in-Ok-take_turns-clause-cause
returns-in-Ok-take_turns-clause-cause g c =
    let first = fresh c.args.reader c.args.service c.args.writer in
    let goes = c.in-Ok-take_turns.ensures.goes first c.in-Ok.ensures refl in
    caused_all goes.after c.finish.result _ _ _ _ (c.finish.ensures.finishes goes.after goes.stands)

pub returns-in-Ok-take_turns-clause-complete : goal.returns-in-Ok-take_turns-clause-complete
returns-in-Ok-take_turns-clause-complete g c = λ told.
    let first = fresh c.args.reader c.args.service c.args.writer in
    let goes = c.in-Ok-take_turns.ensures.goes first c.in-Ok.ensures refl in
    let ends = c.finish.ensures.finishes goes.after goes.stands in
    completes c.finish.result first c.args.turns g.L.Link.tells _ _ _ _ goes.after _ _ _ _
    (took_all first c.args.turns c.finish.result c.take_turns.new.late g.L.Link.tells _ _ _ _ _ _ goes ends) (caused_all goes.after c.finish.result _ _ _ _ ends) told

pub returns-in-Ok-clause-takes : goal.returns-in-Ok-clause-takes
returns-in-Ok-clause-takes g c =
    let first = fresh c.args.reader c.args.service c.args.writer in
    let stops = c.in-Err-take_turns.ensures.stops first c.in-Ok.ensures refl in
    let by = c.in-Err-take_turns.ensures.cut in
    (stops.after, took_some first c.args.turns c.in-Err-take_turns.status g.L.Link.tells _ _ _ _ _ _ stops by, prints_cut stops.after c.in-Err-take_turns.status g.K.Machine.tells _ _ _ _ _ by)

pub returns-clause-takes : goal.returns-clause-takes
returns-clause-takes g c =
    let first = fresh c.args.reader c.args.service c.args.writer in
    (first, took_none first c.args.turns g.L.Link.tells _ _, prints_none first g.K.Machine.tells _ _ _)
