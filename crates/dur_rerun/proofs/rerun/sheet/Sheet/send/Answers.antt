use Rattle.std.proofs.Common.{List, ℕ, subst}
use Rattle.dur_rerun.specs.Rerun.Saying.{Says}
use Rattle.dur_rerun.proofs.SendsOut.{record_sent}
use Rattle.dur_rerun.proofs.rerun.sheet.Sheet.send.Goals as goal

pub returns-clause-says : goal.returns-clause-says
returns-clause-says g c told =
    subst (λ (text : List ℕ). Says c.args.journal.now c.say_through.new.journal (g.R.Machine.world c.args.journal.now.disk) (g.R.Machine.world c.say_through.new.journal.disk) text c.say_through.result)
    (record_sent _ _ _ _ _ _ c.write_record-size.ensures.count c.write_record-size.ensures.text)
    (c.say_through.ensures.says told)
