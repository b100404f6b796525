use Rattle.std.proofs.Common.{rules, ◌+◌, ◌≤◌, length, arith}
use Rattle.std.specs.Prelude.{All}
use Rattle.dur_journal.specs.Histories.{Has}
use Rattle.dur_rerun.proofs.Fitting.{opens_so}
use Rattle.dur_rerun.proofs.rerun.fitting.may_open.Goals as goal

pub returns-then-has_topics : goal.returns-then-has_topics
returns-then-has_topics c =
    let few : length c.args.view.now.writers + length c.args.plan.now.writers ≤ 67108864 = omega (arith, c.len.ensures, c.len-2.ensures, c.if-len-gt-MOST_WRITERS.false) in
    let topics : All (Has c.args.plan.now) c.args.view.now.topics = search rules in
    λ yes. opens_so c.args.plan.now c.args.view.now c.requires.plan c.requires.view few topics (c.have_one_topic.ensures yes)
