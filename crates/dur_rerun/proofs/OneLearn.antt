-- An input has one answer of `learn`.
use Rattle.std.proofs.Common.{◌≡◌, ℕ, max, List, [], ◌∷◌, ◌++◌, drop, refl, sym, ap, subst, ◌∙◌, arith, inl, inr}
use Rattle.dur_capture.specs.declared.record.Record.{Record}
use Rattle.dur_capture.specs.declared.fault.CapFault.{CapFault}
use Rattle.dur_capture.specs.Whole.{CaptureWithin}
use Rattle.dur_capture.proofs.Runs.{one_capture}
use Rattle.dur_qos.specs.declared.plan.Plan.{Plan as PlanOf}
use Rattle.dur_qos.specs.declared.fault.PlanKind.{PlanKind}
use Rattle.dur_qos.specs.Good.{GoodPlan}
use Rattle.dur_qos.specs.Written.{plan_text}
use Rattle.dur_qos.proofs.Verdicts.{one_plan}
use Rattle.rtps_message.specs.declared.heard.Heard.{Heard}
use Rattle.rtps_message.proofs.Once.{hears_once}
use Rattle.rtps_discovery.specs.Learnt.{HeardFact, IsLearnt, PassesLimit}
use Rattle.rtps_discovery.proofs.Unique.{learnt_once}
use Rattle.dur_rerun.specs.declared.status.Status.{Status}
use Rattle.dur_rerun.specs.declared.status.Status.TheVariants.{Done, Usage, OutOfMemory, Input, ReadFault, WriteFault, Plan, DiskFault, NotAJournal, PlanDiffers, Full, Worn, TooMany}
use Rattle.dur_rerun.specs.Command.{IsTold, IsRead, IsFunction}
use Rattle.dur_rerun.specs.Input.Breaks.{PlanBreaks, CaptureBreaks}
use Rattle.dur_rerun.specs.Input.Prefix.{own_prefix}
use Rattle.dur_rerun.specs.Input.Records.{latest}
use Rattle.dur_rerun.specs.Input.Whole.{IsWholeInput}
use Rattle.dur_rerun.specs.Learn.Facts.{heard_at, Tells}
use Rattle.dur_rerun.specs.Learn.Answer.{Learns, LearnsText, LearnAnswers}
use Rattle.dur_rerun.proofs.OneInput.{one_end, capture_or_break, one_break, one_place, plan_or_break, one_plan_break, whole_or_break, whole_or_plan_break}

-- records tell one thing
tells_once : (own : List ℕ) (m : ℕ) (rs : List Record) (a b : List HeardFact) → Tells own m rs a → Tells own m rs b → a ≡ b
tells_once own m [] a b x y = x ∙ sym y
tells_once own m (r ∷ rs) a b x y =
    let same : x.0 ≡ y.0 = hears_once own r.bytes x.0 y.0 x.2 y.2 in
    let rest : x.1 ≡ y.1 = tells_once own (max m r.moment) rs x.1 y.1 x.3 y.3 in
    x.4 ∙ ap (λ (h : Heard). heard_at (max m r.moment) h.facts ++ x.1) same ∙ ap (λ (l : List HeardFact). heard_at (max m r.moment) y.0.facts ++ l) rest ∙ sym y.4

-- one plan is learnt
one_learnt : (at epoch : ℕ) (input : List ℕ) (a b : PlanOf) → Learns at epoch input a → Learns at epoch input b → a ≡ b
one_learnt at epoch input a b x y =
    let plans : x.plan ≡ y.plan = one_plan input x.plan y.plan x.n y.n x.plan_is y.plan_is in
    let ends : x.n ≡ y.n = one_end input x.plan y.plan x.n y.n x.plan_is y.plan_is in
    let captured : CaptureWithin y.n (drop y.n input) x.records = subst (λ (k : ℕ). CaptureWithin k (drop k input) x.records) ends x.capture in
    let records : x.records ≡ y.records = one_capture y.n (drop y.n input) x.records y.records captured y.capture in
    let told : Tells (own_prefix epoch y.plan) 0 x.records x.facts = subst (λ (p : PlanOf). Tells (own_prefix epoch p) 0 x.records x.facts) plans x.tells in
    let facts : x.facts ≡ y.facts = tells_once (own_prefix epoch y.plan) 0 y.records x.facts y.facts (subst (λ (rs : List Record). Tells (own_prefix epoch y.plan) 0 rs x.facts) records told) y.tells in
    let over : IsLearnt y.plan x.facts (max at (latest x.records)) a = subst (λ (p : PlanOf). IsLearnt p x.facts (max at (latest x.records)) a) plans x.learnt_is in
    let heard : IsLearnt y.plan y.facts (max at (latest x.records)) a = subst (λ (fs : List HeardFact). IsLearnt y.plan fs (max at (latest x.records)) a) facts over in
    let then : IsLearnt y.plan y.facts (max at (latest y.records)) a = subst (λ (rs : List Record). IsLearnt y.plan y.facts (max at (latest rs)) a) records heard in
    learnt_once y.plan y.facts (max at (latest y.records)) a b then y.learnt_is

one_text : (at epoch : ℕ) (input a b : List ℕ) → LearnsText at epoch input a → LearnsText at epoch input b → a ≡ b
one_text at epoch input a b x y = x.text_is ∙ ap plan_text (one_learnt at epoch input x.learnt y.learnt x.learns y.learns) ∙ sym y.text_is

-- a good plan passes no limit
no_limit : (p : PlanOf) → GoodPlan p → PassesLimit p → ⊥
no_limit p g passes = elim passes [ inl writers ↦ absurd (omega (arith, writers, g.writer_count)) | inr readers ↦ absurd (omega (arith, readers, g.reader_count)) ]

text_or_many : (at epoch : ℕ) (input text : List ℕ) (p : PlanOf) → LearnsText at epoch input text → Learns at epoch input p → PassesLimit p → ⊥
text_or_many at epoch input text p x learns passes = no_limit p (subst GoodPlan (one_learnt at epoch input x.learnt p x.learns learns) x.good) passes

learns_or_break : (at epoch : ℕ) (input : List ℕ) (p : PlanOf) (e : CapFault) → Learns at epoch input p → CaptureBreaks input e → ⊥
learns_or_break at epoch input p e x b = capture_or_break input e x.plan x.n x.records x.plan_is x.capture b

learns_or_plan : (at epoch : ℕ) (input : List ℕ) (p : PlanOf) (line : ℕ) (k : PlanKind) → Learns at epoch input p → PlanBreaks input line k → ⊥
learns_or_plan at epoch input p line k x b = plan_or_break input x.plan x.n line k x.plan_is b

break_or_plan : (input : List ℕ) (e : CapFault) (line : ℕ) (k : PlanKind) → CaptureBreaks input e → PlanBreaks input line k → ⊥
break_or_plan input e line k x b = plan_or_break input x.plan x.n line k x.plan_is b

-- ---- the relation is a function

both_empty : (t u : List ℕ) → t ≡ [] → u ≡ [] → t ≡ u
both_empty t u a b = a ∙ sym b

learn_once : (at epoch : ℕ) (input t u : List ℕ) (s r : Status) → IsTold s → IsTold r → LearnAnswers at epoch input t s → LearnAnswers at epoch input u r → (t ≡ u) × (s ≡ r)
learn_once at epoch input t u Done Done a b h k = (one_text at epoch input t u h k, refl)
learn_once at epoch input t u Done Usage a b h k = absurd b
learn_once at epoch input t u Done DiskFault a b h k = absurd k
learn_once at epoch input t u Done (NotAJournal file at') a b h k = absurd k
learn_once at epoch input t u Done (PlanDiffers name) a b h k = absurd k
learn_once at epoch input t u Done (Full size) a b h k = absurd k
learn_once at epoch input t u Done Worn a b h k = absurd k
learn_once at epoch input t u Done TooMany a b h k = absurd (text_or_many at epoch input t k.1 h k.2 k.3)
learn_once at epoch input t u Done OutOfMemory a b h k = absurd b
learn_once at epoch input t u Done (Input place' fault') a b h k = absurd (learns_or_break at epoch input h.learnt fault' h.learns k.2)
learn_once at epoch input t u Done ReadFault a b h k = absurd b
learn_once at epoch input t u Done WriteFault a b h k = absurd b
learn_once at epoch input t u Done (Plan line' kind') a b h k = absurd (learns_or_plan at epoch input h.learnt line' kind' h.learns k.1)
learn_once at epoch input t u Usage r a b h k = absurd a
learn_once at epoch input t u DiskFault r a b h k = absurd h
learn_once at epoch input t u (NotAJournal file at') r a b h k = absurd h
learn_once at epoch input t u (PlanDiffers name) r a b h k = absurd h
learn_once at epoch input t u (Full size) r a b h k = absurd h
learn_once at epoch input t u Worn r a b h k = absurd h
learn_once at epoch input t u TooMany Done a b h k = absurd (text_or_many at epoch input u h.1 k h.2 h.3)
learn_once at epoch input t u TooMany Usage a b h k = absurd b
learn_once at epoch input t u TooMany DiskFault a b h k = absurd k
learn_once at epoch input t u TooMany (NotAJournal file at') a b h k = absurd k
learn_once at epoch input t u TooMany (PlanDiffers name) a b h k = absurd k
learn_once at epoch input t u TooMany (Full size) a b h k = absurd k
learn_once at epoch input t u TooMany Worn a b h k = absurd k
learn_once at epoch input t u TooMany TooMany a b h k = (both_empty t u h.0 k.0, refl)
learn_once at epoch input t u TooMany OutOfMemory a b h k = absurd b
learn_once at epoch input t u TooMany (Input place' fault') a b h k = absurd (learns_or_break at epoch input h.1 fault' h.2 k.2)
learn_once at epoch input t u TooMany ReadFault a b h k = absurd b
learn_once at epoch input t u TooMany WriteFault a b h k = absurd b
learn_once at epoch input t u TooMany (Plan line' kind') a b h k = absurd (learns_or_plan at epoch input h.1 line' kind' h.2 k.1)
learn_once at epoch input t u OutOfMemory r a b h k = absurd a
learn_once at epoch input t u (Input place fault) Done a b h k = absurd (learns_or_break at epoch input k.learnt fault k.learns h.2)
learn_once at epoch input t u (Input place fault) Usage a b h k = absurd b
learn_once at epoch input t u (Input place fault) DiskFault a b h k = absurd k
learn_once at epoch input t u (Input place fault) (NotAJournal file at') a b h k = absurd k
learn_once at epoch input t u (Input place fault) (PlanDiffers name) a b h k = absurd k
learn_once at epoch input t u (Input place fault) (Full size) a b h k = absurd k
learn_once at epoch input t u (Input place fault) Worn a b h k = absurd k
learn_once at epoch input t u (Input place fault) TooMany a b h k = absurd (learns_or_break at epoch input k.1 fault k.2 h.2)
learn_once at epoch input t u (Input place fault) OutOfMemory a b h k = absurd b
learn_once at epoch input t u (Input place fault) (Input place' fault') a b h k = (both_empty t u h.0 k.0, one_place fault fault' place place' (one_break input fault fault' h.2 k.2) h.1 k.1)
learn_once at epoch input t u (Input place fault) ReadFault a b h k = absurd b
learn_once at epoch input t u (Input place fault) WriteFault a b h k = absurd b
learn_once at epoch input t u (Input place fault) (Plan line' kind') a b h k = absurd (break_or_plan input fault line' kind' h.2 k.1)
learn_once at epoch input t u ReadFault r a b h k = absurd a
learn_once at epoch input t u WriteFault r a b h k = absurd a
learn_once at epoch input t u (Plan line kind) Done a b h k = absurd (learns_or_plan at epoch input k.learnt line kind k.learns h.1)
learn_once at epoch input t u (Plan line kind) Usage a b h k = absurd b
learn_once at epoch input t u (Plan line kind) DiskFault a b h k = absurd k
learn_once at epoch input t u (Plan line kind) (NotAJournal file at') a b h k = absurd k
learn_once at epoch input t u (Plan line kind) (PlanDiffers name) a b h k = absurd k
learn_once at epoch input t u (Plan line kind) (Full size) a b h k = absurd k
learn_once at epoch input t u (Plan line kind) Worn a b h k = absurd k
learn_once at epoch input t u (Plan line kind) TooMany a b h k = absurd (learns_or_plan at epoch input k.1 line kind k.2 h.1)
learn_once at epoch input t u (Plan line kind) OutOfMemory a b h k = absurd b
learn_once at epoch input t u (Plan line kind) (Input place' fault') a b h k = absurd (break_or_plan input fault' line kind k.2 h.1)
learn_once at epoch input t u (Plan line kind) ReadFault a b h k = absurd b
learn_once at epoch input t u (Plan line kind) WriteFault a b h k = absurd b
learn_once at epoch input t u (Plan line kind) (Plan line' kind') a b h k = (both_empty t u h.0 k.0, one_plan_break input line line' kind kind' h.1 k.1)

learn_writes : (at epoch : ℕ) (input t : List ℕ) (s : Status) → IsTold s → LearnAnswers at epoch input t WriteFault → LearnAnswers at epoch input [] s → ⊥
learn_writes at epoch input t Done a h k = h.0 (one_text at epoch input t [] h.1 k)
learn_writes at epoch input t Usage a h k = absurd a
learn_writes at epoch input t DiskFault a h k = k
learn_writes at epoch input t (NotAJournal file at') a h k = k
learn_writes at epoch input t (PlanDiffers name) a h k = k
learn_writes at epoch input t (Full size) a h k = k
learn_writes at epoch input t Worn a h k = k
learn_writes at epoch input t TooMany a h k = text_or_many at epoch input t k.1 h.1 k.2 k.3
learn_writes at epoch input t OutOfMemory a h k = absurd a
learn_writes at epoch input t (Input place fault) a h k = learns_or_break at epoch input h.1.learnt fault h.1.learns k.2
learn_writes at epoch input t ReadFault a h k = absurd a
learn_writes at epoch input t WriteFault a h k = absurd a
learn_writes at epoch input t (Plan line kind) a h k = learns_or_plan at epoch input h.1.learnt line kind h.1.learns k.1

learn_whole : (at epoch : ℕ) (input t : List ℕ) (s : Status) → IsWholeInput input → IsTold s → LearnAnswers at epoch input t s → IsRead s
learn_whole at epoch input t Done w a h = tt
learn_whole at epoch input t Usage w a h = absurd a
learn_whole at epoch input t DiskFault w a h = absurd h
learn_whole at epoch input t (NotAJournal file at') w a h = absurd h
learn_whole at epoch input t (PlanDiffers name) w a h = absurd h
learn_whole at epoch input t (Full size) w a h = absurd h
learn_whole at epoch input t Worn w a h = absurd h
learn_whole at epoch input t TooMany w a h = tt
learn_whole at epoch input t OutOfMemory w a h = absurd a
learn_whole at epoch input t (Input place fault) w a h = absurd (whole_or_break input fault w h.2)
learn_whole at epoch input t ReadFault w a h = absurd a
learn_whole at epoch input t WriteFault w a h = absurd a
learn_whole at epoch input t (Plan line kind) w a h = absurd (whole_or_plan_break input line kind w h.1)

pub learn_function : (at epoch : ℕ) → IsFunction (LearnAnswers at epoch)
learn_function at epoch = record { once = learn_once at epoch; whole = learn_whole at epoch; writes = learn_writes at epoch; words = λ input t h. h; files = λ input t h. h }
