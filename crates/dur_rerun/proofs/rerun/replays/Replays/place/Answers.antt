use Rattle.std.proofs.Common.{◌≡◌, rules, arith, true, false, ap, sym, subst, ◌∙◌, ◌+◌, ℕ, take, List, None}
use Rattle.std.specs.Prelude.{suc}
use Rattle.dur_view.specs.Words.{is_same}
use Rattle.dur_hub.proofs.Guids.{same_is}
use Rattle.dur_rerun.specs.declared.rerun.replays.Replay.{Replay}
use Rattle.dur_rerun.specs.Rerun.Replies.{session_for}
use Rattle.dur_rerun.specs.Rerun.Steps.{StandsAt}
use Rattle.dur_rerun.proofs.ReplayPlaces.{got, stands_at, none_more}
use Rattle.dur_rerun.proofs.rerun.replays.Replays.place.Goals as goal

pub returns-then-eq : goal.returns-then-eq
returns-then-eq c =
    let x = c.index-replays-at.result in
    let there = got c.as_slice-replays.result.now c.loop-at.at x (omega (arith, c.loop-at-test.true)) c.index-replays-at.is in
    let yes : c.eq.result ≡ true = search rules in
    let same : is_same x.reader c.args.reader ≡ true = ap (λ (y : Replay). is_same y.reader c.args.reader) c.index-replays-at.is ∙ (sym c.eq.ensures ∙ yes) in
    let stands : StandsAt c.as_slice-replays.result.now c.args.reader c.loop-at.at =
    stands_at c.args.reader c.as_slice-replays.result.now c.loop-at.at x there (same_is x.reader c.args.reader same) c.loop-at.invariant in
    (search rules, subst (λ (xs : List Replay). StandsAt xs c.args.reader c.loop-at.at) c.as_slice-replays.ensures.value stands)

pub loop-at-preserved : goal.loop-at-preserved
loop-at-preserved c =
    let x = c.index-replays-at.result in
    let there = got c.as_slice-replays.result.now c.loop-at.at x (omega (arith, c.loop-at-test.true)) c.index-replays-at.is in
    let no : c.eq.result ≡ false = search rules in
    let differs : is_same x.reader c.args.reader ≡ false = ap (λ (y : Replay). is_same y.reader c.args.reader) c.index-replays-at.is ∙ (sym c.eq.ensures ∙ no) in
    let one_more : suc c.loop-at.at ≡ c.loop-at.at + 1 = omega arith in
    subst (λ (n : ℕ). session_for (take n c.as_slice-replays.result.now) c.args.reader ≡ None) one_more
    (none_more c.args.reader c.as_slice-replays.result.now c.loop-at.at x there differs c.loop-at.invariant)
