use Rattle.std.proofs.Common.{rules, arith, ap, ◌∙◌, ◌+◌, ℕ, List, Ok, Err}
use Rattle.std.specs.Prelude.{◌&&◌, nat_le}
use Rattle.dur_base.specs.NumberSets.{names}
use Rattle.dur_rerun.specs.Rerun.Steps.{AreDataOf, BeginData, IsDataIf}
use Rattle.dur_rerun.proofs.SendsOut.{goes_on, goes_err, so_far, all_out, stays_on, data_more, data_all}
use Rattle.dur_rerun.proofs.rerun.session.send_numbers.Goals as goal

pub loop-i-preserved : goal.loop-i-preserved
loop-i-preserved g c =
    let s = c.args.session.now in
    let set = c.args.numbers.now in
    let b = c.is_asked-asked.result in
    let k = c.get-base.result + c.loop-i.i in
    let is_k = ap (λ (n : ℕ). n + c.loop-i.i) (c.get-base.ensures.value ∙ c.base.ensures) in
    let is_b = c.is_asked-asked.ensures ∙ ap (λ (n : ℕ). names set (set.base + c.loop-i.i) && nat_le (set.base + c.loop-i.i) n) (c.get-last.ensures.value ∙ c.last.ensures) in
    let joins = λ (xs ys : List (List ℕ)). data_more s set c.loop-i.i k b xs ys is_k is_b in
    record {
      goes =
          so_far _ _ _ _ _ _ _ _ _ _
          (goes_on _ _ _ _ _ _ _ _ _ (AreDataOf s set (c.loop-i.i + 1)) (BeginData s set) (AreDataOf s set c.loop-i.i) (IsDataIf b s k) (IsDataIf b s k)
          (Ok c.in_ok-send_data.field-0) c.loop-i.invariant.goes c.in_ok-send_data.ensures.goes joins
          (λ xs ys before one. (c.loop-i.i + 1, omega (arith, c.loop-i-test.true), joins xs ys before one)));
      stays = stays_on _ _ _ _ _ _ _ _ _ c.loop-i.invariant.stays c.send_data.ensures.stays;
      later = omega (arith, c.loop-i.invariant.later, c.send_data.ensures.cause);
    }

pub returns-in_err-send_data-clause-goes : goal.returns-in_err-send_data-clause-goes
returns-in_err-send_data-clause-goes g c =
    let s = c.args.session.now in
    let set = c.args.numbers.now in
    let b = c.is_asked-asked.result in
    let k = c.get-base.result + c.loop-i.i in
    let is_k = ap (λ (n : ℕ). n + c.loop-i.i) (c.get-base.ensures.value ∙ c.base.ensures) in
    let is_b = c.is_asked-asked.ensures ∙ ap (λ (n : ℕ). names set (set.base + c.loop-i.i) && nat_le (set.base + c.loop-i.i) n) (c.get-last.ensures.value ∙ c.last.ensures) in
    let joins = λ (xs ys : List (List ℕ)). data_more s set c.loop-i.i k b xs ys is_k is_b in
    let failed =
    goes_on _ _ _ _ _ _ _ _ _ (AreDataOf s set (c.loop-i.i + 1)) (BeginData s set) (AreDataOf s set c.loop-i.i) (IsDataIf b s k) (IsDataIf b s k)
    (Err c.in_err-send_data.field-0.0) c.loop-i.invariant.goes c.in_err-send_data.ensures.goes joins
    (λ xs ys before one. (c.loop-i.i + 1, omega (arith, c.loop-i-test.true), joins xs ys before one)) in
    let renamed = goes_err _ _ _ _ _ _ _ c.in_err-send_data.field-0.0 c.in_err-send_data.field-0.0 _ (BeginData s set) (AreDataOf s set 256) (BeginData s set) failed (λ xs x. x) in
    search (rules, renamed)

pub returns-clause-goes : goal.returns-clause-goes
returns-clause-goes g c =
    all_out _ _ _ _ _ _ _ _ (AreDataOf c.args.session.now c.args.numbers.now c.loop-i.i) _ _ c.loop-i.invariant.goes
    (λ xs are. data_all c.args.session.now c.args.numbers.now c.loop-i.i xs (omega (arith, c.loop-i-test.false, c.loop-i.auto.i-end)) are)
