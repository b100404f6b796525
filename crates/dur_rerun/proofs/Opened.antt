-- The plan in front of a capture, and what holds behind it.
use Rattle.std.proofs.Common.{◌≡◌, ℕ, ◌≤◌, ◌^◌, List, ◌++◌, drop, Option, None, ap, subst, ◌∙◌, arith}
use Rattle.std.specs.Prelude.{IfSome}
use Rattle.std.specs.Io.KnownBytes.{Consumes}
use Rattle.dur_capture.specs.Feeding.{Feeding}
use Rattle.dur_qos.specs.Good.{GoodPlan}
use Rattle.dur_qos.specs.Text.{PlanText}
use Rattle.dur_qos.proofs.Goods.{text_good}
use Rattle.dur_rerun.specs.declared.input.plan.Opened.{Opened}
use Rattle.dur_rerun.specs.Input.Plan.{Opens}
use Rattle.dur_rerun.proofs.Whole.{plan_more, behind_plan, behind}

pub plan_good : (seen : List ℕ) (p : Opened) → Opens seen p → GoodPlan p.plan
plan_good seen p o = text_good seen p.plan o.n o.plan_is

-- nothing was handed out of what came behind the plan
pub fresh_feed : (seen : List ℕ) (p : Opened) → Opens seen p → (p.feed.before ≤ 2 ^ 40) × (p.feed.taken ≡ 0) × (p.feed.fault ≡ None)
fresh_feed seen p o =
    let before : p.feed.before ≡ o.n = ap (λ (f : Feeding). f.before) o.feed_is in
    (omega (arith, before, o.within), ap (λ (f : Feeding). f.taken) o.feed_is, ap (λ (f : Feeding). f.fault) o.feed_is)

-- what holds of the octets behind the plan
pub lifted : (known mid : Option (List ℕ)) (seen : List ℕ) (p : Opened) (o : Opens seen p) (F : ℕ → List ℕ → Type 0) (P : List ℕ → Type 0) → Consumes known mid seen
    → IfSome mid (λ tail. F p.feed.before (p.feed.left ++ tail)) → ((input : List ℕ) → PlanText input p.plan o.n → F o.n (drop o.n input) → P input) → IfSome known P
lifted known mid seen p o F P consumed holds leads =
    behind known mid seen P (λ tail. F p.feed.before (p.feed.left ++ tail)) consumed holds (λ tail h.
    let octets : p.feed.left ++ tail ≡ drop o.n (seen ++ tail) = ap (λ (f : Feeding). f.left ++ tail) o.feed_is ∙ behind_plan seen tail p.plan o.n o.plan_is in
    leads (seen ++ tail) (plan_more seen tail p.plan o.n o.plan_is)
    (subst (F o.n) octets (subst (λ (k : ℕ). F k (p.feed.left ++ tail)) (ap (λ (f : Feeding). f.before) o.feed_is) h)))
