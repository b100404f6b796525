use Rattle.std.proofs.Common.{List, ap, subst, refl, rules}
use Rattle.dur_qos.specs.declared.plan.Plan.{Plan}
use Rattle.rtps_discovery.specs.Hearing.{Heard}
use Rattle.rtps_discovery.specs.Learnt.{HeardFact, IsLearnt, PassesLimit}
use Rattle.rtps_discovery.proofs.Goods.{learnt_good}
use Rattle.rtps_discovery.proofs.NewLines.{follows, learnt_from}
use Rattle.rtps_discovery.proofs.Unique.{learnt_once}
use Rattle.rtps_discovery.proofs.directory.Directory.learn.Goals as goal

pub returns-clause-ok : goal.returns-clause-ok
unfolding Heard
returns-clause-ok c =
    let p : Plan = record { prefix = c.args.plan.now.prefix; topics = c.in_ok-copy.copy.topics; writers = c.in_ok-writers.writers; readers = c.in_ok-readers.readers } in
    let follow = λ (facts : List HeardFact) (heard : Heard c.args.plan.now c.args.self.now facts). follows c.args.plan.now c.args.self.now heard.0 c.args.moment p heard.3 heard.2 c.in_ok-writers.ensures.ordered refl (ap (λ (x : Plan). x.topics) c.in_ok-copy.ensures) c.in_ok-writers.ensures.lines c.in_ok-readers.ensures.lines in
    let is = λ (facts : List HeardFact) (heard : Heard c.args.plan.now c.args.self.now facts). learnt_from c.args.plan.now facts heard.0 c.args.moment p heard.1 (follow facts heard) in
    let small : PassesLimit p → ⊥ = search rules in
    record {
      is = is;
      only = λ facts q heard other. learnt_once c.args.plan.now facts c.args.moment p q (is facts heard) other;
      good = λ facts good heard. learnt_good c.args.plan.now heard.0 c.args.moment p good heard.2 (follow facts heard) small;
      within = small;
    }

pub returns-then-passes_limit-clause-too_many : goal.returns-then-passes_limit-clause-too_many
unfolding Heard
returns-then-passes_limit-clause-too_many c e facts heard =
    let p : Plan = record { prefix = c.args.plan.now.prefix; topics = c.args.plan.now.topics; writers = c.in_ok-writers.writers; readers = c.in_ok-readers.readers } in
    let learnt : IsLearnt c.args.plan.now facts c.args.moment p = record {
      told = heard.0;
      are_told = heard.1;
      follows = follows c.args.plan.now c.args.self.now heard.0 c.args.moment p heard.3 heard.2 c.in_ok-writers.ensures.ordered refl refl c.in_ok-writers.ensures.lines c.in_ok-readers.ensures.lines;
    } in
    let many : PassesLimit p = search rules in
    (p, learnt, many)
