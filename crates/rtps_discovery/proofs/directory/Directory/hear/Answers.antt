use Rattle.std.proofs.Common.{◌++◌, ◌∷◌, []}
use Rattle.std.proofs.lemmas.Result.{on_ok_weaker, on_err_weaker}
use Rattle.rtps_discovery.specs.Fits.{Fits}
use Rattle.rtps_discovery.specs.Hearing.{Heard}
use Rattle.rtps_discovery.proofs.Noting.{told_own, told_more, told_none, all_more}
use Rattle.rtps_discovery.proofs.Payloads.{not_none}
use Rattle.rtps_discovery.proofs.directory.Directory.hear.Goals as goal

pub returns-in-Some-clause-ok : goal.returns-in-Some-clause-ok
unfolding Heard
returns-in-Some-clause-ok c =
    on_ok_weaker c.note.result (λ keeps facts heard. (heard.0 ++ c.in-Some.told ∷ [], told_more c.args.plan.now facts heard.0 (record { moment = c.args.moment; fact = c.args.fact.now }) c.in-Some.told heard.1 c.in-Some.ensures.some, all_more (λ t. Fits c.args.plan.now.topics t.what) heard.0 c.in-Some.told heard.2 c.in-Some.ensures.fits, keeps heard.0 (told_own c.args.plan.now c.args.moment c.args.fact.now c.in-Some.told c.in-Some.ensures.some) heard.3)) c.note.ensures.ok

pub returns-in-None-clause-ok : goal.returns-in-None-clause-ok
unfolding Heard
returns-in-None-clause-ok c facts heard =
    (heard.0, told_none c.args.plan.now facts heard.0 (record { moment = c.args.moment; fact = c.args.fact.now }) heard.1 (λ t is. not_none c.told.result t c.in-None.is (c.told.ensures.all t is)), heard.2, heard.3)

pub returns-in-Some-clause-err : goal.returns-in-Some-clause-err
unfolding Heard
returns-in-Some-clause-err c =
    on_err_weaker c.note.result (λ keeps plan facts heard. (heard.0, heard.1, heard.2, keeps heard.0 heard.3)) c.note.ensures.err
