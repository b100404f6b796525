use Rattle.std.proofs.Common.{◌≡◌, ℕ, ◌*◌, ◌++◌, List, length, map, replicate, slice_index_or, take, drop, ap, sym, subst, ◌∙◌, arith}
use Rattle.std.specs.List.{All}
use Rattle.std.proofs.Math.Seq.{take-append_seam}
use Rattle.dur_turn.specs.Calls.{events, AreOf}
use Rattle.turn_uses.specs.Counting.{count_after}
use Rattle.turn_uses.specs.Jobs.{kept_of}
use Rattle.turn_uses.specs.declared.jobs.Job.{Job}
use Rattle.turn_uses.specs.declared.counter.Event.{Event}
use Rattle.turn_uses.specs.declared.counter.Event.TheVariants.{Added}
use Rattle.turn_uses.proofs.Counts.{jobs_count}
use Rattle.turn_uses.proofs.jobs.count_in_threads.Goals as goal

pub returns : goal.returns
returns g c =
    let times : ℕ = c.args.times in
    let jobs : List Job = c.run_all.new.jobs in
    let before : List Job = c.in_ok-jobs.jobs.items in
    let s = c.close.ensures in
    let opened = c.in_ok-turn.ensures in
    let split = c.in_ok-jobs.ensures in
    let lent : c.as_mut_slice.result.now ≡ before = c.as_mut_slice.ensures.value in
    let long : length jobs ≡ c.args.threads = c.run_all.ensures.own.0 ∙ (ap length lent ∙ split.each.0) in
    let each : All (λ j. j.pass.mine ≡ replicate times (Added 1)) jobs =
    λ k d lt. let old = split.each.1 k d (let a = split.each.0 in omega arith) in
    c.run_all.ensures.each k d (let a = c.run_all.ensures.own.0 in omega arith)
    ∙ (ap (λ (l : List Job). (slice_index_or l k d).pass.mine ++ replicate (slice_index_or l k d).times (Added 1)) lent ∙ (λ i. old.1 i ++ replicate (old.2 i) (Added 1))) in
    let len : c.in_ok-jobs.jobs.len ≡ length jobs = sym c.as_mut_slice.ensures.len ∙ sym c.run_all.ensures.own.0 in
    let back : take c.in_ok-jobs.jobs.len (jobs ++ drop (length jobs) before) ≡ jobs = ap (λ (n : ℕ). take n (jobs ++ drop (length jobs) before)) len ∙ take-append_seam jobs (drop (length jobs) before) in
    let joined : c.join_all.new.root.joined ≡ map (λ (j : Job). kept_of j.pass) jobs =
    c.join_all.ensures.joined ∙ (ap (λ (l : List Job). c.split_all.new.root.joined ++ map (λ (j : Job). kept_of j.pass) l) back ∙ ap (λ (l : List (ℕ × List Event)). l ++ map (λ (j : Job). kept_of j.pass) jobs) (split.root.1 ∙ ap (λ v. v.joined) opened.root.1)) in
    let are : AreOf (map (λ (j : Job). kept_of j.pass) jobs) s.log = subst (λ (l : List (ℕ × List Event)). AreOf l s.log) joined s.calls in
    s.stood.0 ∙ (ap (λ (v : ℕ). count_after v (events s.log)) (ap (λ v. v.count) opened.start) ∙ (jobs_count jobs times s.log each are (rw long c.requires.fits) ∙ ap (λ (n : ℕ). n * times) long))
