use Rattle.dur_journal.proofs.Loads.{found_so, found_open, plan_fault}
use Rattle.dur_journal.proofs.opening.load_live.Goals as goal

pub returns-in-Err-fit-clause-err : goal.returns-in-Err-fit-clause-err
returns-in-Err-fit-clause-err g c told =
    let opens = found_open _ c.args.found c.args.live c.args.generation (c.requires.found told) (c.requires.live told) in
    plan_fault _ _ c.args.found c.args.live c.args.generation c.in-Ok.read c.in-Err-fit.fault (c.requires.found told) (c.requires.live told)
    (c.in-Ok.ensures.ok told c.args.generation opens) c.in-Err-fit.ensures.err

pub returns-clause-ok : goal.returns-clause-ok
returns-clause-ok g c told =
    let opens = found_open _ c.args.found c.args.live c.args.generation (c.requires.found told) (c.requires.live told) in
    found_so _ _ c.args.found c.args.live _ _ c.args.generation c.in-Ok.read _ _ _ (c.requires.found told) (c.requires.live told)
    (c.in-Ok.ensures.ok told c.args.generation opens) c.in-Ok-fit.ensures.agrees c.in-Ok-fit.ensures.view c.other_file.ensures c.other_file-2.ensures c.front.ensures c.front-2.ensures
