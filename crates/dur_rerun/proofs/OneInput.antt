-- An input is a plan and a capture in one way, or breaks off at one place.
use Rattle.std.proofs.Common.{◌≡◌, ℕ, List, drop, true, Some, sym, ap, subst, ◌∙◌}
use Rattle.dur_capture.specs.declared.record.Record.{Record}
use Rattle.dur_capture.specs.declared.fault.CapFault.{CapFault}
use Rattle.dur_capture.specs.Whole.{CaptureWithin, BreaksAt}
use Rattle.dur_capture.proofs.First.{one_first, no_break}
use Rattle.dur_qos.specs.declared.plan.Plan.{Plan as PlanOf}
use Rattle.dur_qos.specs.declared.fault.PlanKind.{PlanKind}
use Rattle.dur_qos.specs.declared.fault.PlanFault.{PlanFault}
use Rattle.dur_qos.specs.Text.{PlanText}
use Rattle.dur_qos.proofs.Texts.{no_further}
use Rattle.dur_qos.proofs.Verdicts.{one_fault, plan_or_fault}
use Rattle.dur_rerun.specs.declared.status.Status.TheVariants.{Input, Plan}
use Rattle.dur_rerun.specs.Input.Breaks.{place_at, PlanBreaks, CaptureBreaks}
use Rattle.dur_rerun.specs.Input.Whole.{IsWholeInput}

pub one_end : (input : List ℕ) (p q : PlanOf) (n m : ℕ) → PlanText input p n → PlanText input q m → n ≡ m
one_end input p q n m a b = sym (no_further input p n a) ∙ no_further input q m b

-- ---- the capture

break_moved : (input : List ℕ) (e : CapFault) (b : CaptureBreaks input e) (p : PlanOf) (n : ℕ) → PlanText input p n → BreaksAt n (drop n input) true e
break_moved input e b p n plan_is = subst (λ (k : ℕ). BreaksAt k (drop k input) true e) (one_end input b.plan p b.n n b.plan_is plan_is) b.breaks

pub capture_or_break : (input : List ℕ) (e : CapFault) (p : PlanOf) (n : ℕ) (rs : List Record) → PlanText input p n → CaptureWithin n (drop n input) rs → CaptureBreaks input e → ⊥
capture_or_break input e p n rs plan_is capture b = no_break e n (drop n input) rs capture (break_moved input e b p n plan_is)

pub one_break : (input : List ℕ) (d e : CapFault) → CaptureBreaks input d → CaptureBreaks input e → d ≡ e
one_break input d e x y = one_first d e y.n (drop y.n input) true (break_moved input d x y.plan y.n y.plan_is) y.breaks

pub one_place : (a b : CapFault) (p q : ℕ) → a ≡ b → place_at a ≡ Some p → place_at b ≡ Some q → Input p a ≡ Input q b
one_place a b p q same x y =
    let both : Some p ≡ Some q = sym x ∙ ap place_at same ∙ y in
    let places : p ≡ q = cc in
    cc

-- ---- the plan

pub plan_or_break : (input : List ℕ) (p : PlanOf) (n line : ℕ) (k : PlanKind) → PlanText input p n → PlanBreaks input line k → ⊥
plan_or_break input p n line k plan_is breaks = plan_or_fault input p n (record { line = line; kind = k }) plan_is breaks

pub one_plan_break : (input : List ℕ) (line at : ℕ) (k j : PlanKind) → PlanBreaks input line k → PlanBreaks input at j → Plan line k ≡ Plan at j
one_plan_break input line at k j a b =
    let same = one_fault input (record { line = line; kind = k }) (record { line = at; kind = j }) a b in
    let lines : line ≡ at = ap (λ (f : PlanFault). f.line) same in
    let kinds : k ≡ j = ap (λ (f : PlanFault). f.kind) same in
    cc

-- ---- an input that is whole

pub whole_or_break : (input : List ℕ) (e : CapFault) → IsWholeInput input → CaptureBreaks input e → ⊥
whole_or_break input e w b = capture_or_break input e w.plan w.n w.records w.plan_is w.capture b

pub whole_or_plan_break : (input : List ℕ) (line : ℕ) (k : PlanKind) → IsWholeInput input → PlanBreaks input line k → ⊥
whole_or_plan_break input line k w b = plan_or_break input w.plan w.n line k w.plan_is b
