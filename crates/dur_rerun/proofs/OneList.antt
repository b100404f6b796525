-- An input has one answer of `list`.
use Rattle.std.proofs.Common.{◌≡◌, ℕ, max, List, [], drop, refl, sym, ap, subst, ◌∙◌}
use Rattle.dur_capture.specs.declared.record.Record.{Record}
use Rattle.dur_capture.specs.declared.fault.CapFault.{CapFault}
use Rattle.dur_capture.specs.Whole.{CaptureWithin}
use Rattle.dur_capture.proofs.Runs.{one_capture}
use Rattle.dur_qos.specs.declared.plan.Plan.{Plan as PlanOf}
use Rattle.dur_qos.specs.declared.fault.PlanKind.{PlanKind}
use Rattle.dur_qos.proofs.Verdicts.{one_plan}
use Rattle.dur_view.specs.Full.{blank}
use Rattle.dur_hub.specs.Runs.{Run, opening}
use Rattle.dur_hub.proofs.Same.{law_same}
use Rattle.dur_rerun.specs.declared.status.Status.{Status}
use Rattle.dur_rerun.specs.declared.status.Status.TheVariants.{Done, Usage, OutOfMemory, Input, ReadFault, WriteFault, Plan, DiskFault, NotAJournal, PlanDiffers, Full, Worn, TooMany}
use Rattle.dur_rerun.specs.Admission.{Admits}
use Rattle.dur_rerun.specs.Command.{IsTold, IsRead, IsFunction}
use Rattle.dur_rerun.specs.Input.Breaks.{PlanBreaks, CaptureBreaks}
use Rattle.dur_rerun.specs.Input.Prefix.{own_prefix}
use Rattle.dur_rerun.specs.Input.Records.{latest}
use Rattle.dur_rerun.specs.Input.Whole.{IsWholeInput}
use Rattle.dur_rerun.specs.List.Listing.{list_text}
use Rattle.dur_rerun.specs.List.Answer.{Lists, ListAnswers}
use Rattle.dur_rerun.proofs.Admitting.{all_alike}
use Rattle.dur_rerun.proofs.OneInput.{one_end, capture_or_break, one_break, one_place, plan_or_break, one_plan_break, whole_or_break, whole_or_plan_break}

-- records admit one history
one_run : (start : Run) (own : List ℕ) (rs : List Record) (a b : Run) → Admits start own rs a → Admits start own rs b → a ≡ b
one_run start own rs a b x y = x.leads ∙ law_same start x.calls y.calls x.legal y.legal (all_alike own rs x.calls y.calls x.brings y.brings) ∙ sym y.leads

one_text : (at epoch : ℕ) (input a b : List ℕ) → Lists at epoch input a → Lists at epoch input b → a ≡ b
one_text at epoch input a b x y =
    let plans : x.plan ≡ y.plan = one_plan input x.plan y.plan x.n y.n x.plan_is y.plan_is in
    let ends : x.n ≡ y.n = one_end input x.plan y.plan x.n y.n x.plan_is y.plan_is in
    let captured : CaptureWithin y.n (drop y.n input) x.records = subst (λ (k : ℕ). CaptureWithin k (drop k input) x.records) ends x.capture in
    let records : x.records ≡ y.records = one_capture y.n (drop y.n input) x.records y.records captured y.capture in
    let behind : Admits (opening y.plan (blank y.plan) 0) (own_prefix epoch y.plan) x.records x.run = subst (λ (p : PlanOf). Admits (opening p (blank p) 0) (own_prefix epoch p) x.records x.run) plans x.admits in
    let admitted = subst (λ (rs : List Record). Admits (opening y.plan (blank y.plan) 0) (own_prefix epoch y.plan) rs x.run) records behind in
    let runs : x.run ≡ y.run = one_run (opening y.plan (blank y.plan) 0) (own_prefix epoch y.plan) y.records x.run y.run admitted y.admits in
    x.text_is ∙ ap (λ (r : Run). list_text r (max at (latest x.records))) runs ∙ ap (λ (rs : List Record). list_text y.run (max at (latest rs))) records ∙ sym y.text_is

lists_or_break : (at epoch : ℕ) (input text : List ℕ) (e : CapFault) → Lists at epoch input text → CaptureBreaks input e → ⊥
lists_or_break at epoch input text e x b = capture_or_break input e x.plan x.n x.records x.plan_is x.capture b

lists_or_plan : (at epoch : ℕ) (input text : List ℕ) (line : ℕ) (k : PlanKind) → Lists at epoch input text → PlanBreaks input line k → ⊥
lists_or_plan at epoch input text line k x b = plan_or_break input x.plan x.n line k x.plan_is b

break_or_plan : (input : List ℕ) (e : CapFault) (line : ℕ) (k : PlanKind) → CaptureBreaks input e → PlanBreaks input line k → ⊥
break_or_plan input e line k x b = plan_or_break input x.plan x.n line k x.plan_is b

-- ---- the relation is a function

both_empty : (t u : List ℕ) → t ≡ [] → u ≡ [] → t ≡ u
both_empty t u a b = a ∙ sym b

list_once : (at epoch : ℕ) (input t u : List ℕ) (s r : Status) → IsTold s → IsTold r → ListAnswers at epoch input t s → ListAnswers at epoch input u r → (t ≡ u) × (s ≡ r)
list_once at epoch input t u Done Done a b h k = (one_text at epoch input t u h k, refl)
list_once at epoch input t u Done Usage a b h k = absurd b
list_once at epoch input t u Done DiskFault a b h k = absurd k
list_once at epoch input t u Done (NotAJournal file at') a b h k = absurd k
list_once at epoch input t u Done (PlanDiffers name) a b h k = absurd k
list_once at epoch input t u Done (Full size) a b h k = absurd k
list_once at epoch input t u Done Worn a b h k = absurd k
list_once at epoch input t u Done TooMany a b h k = absurd k
list_once at epoch input t u Done OutOfMemory a b h k = absurd b
list_once at epoch input t u Done (Input place' fault') a b h k = absurd (lists_or_break at epoch input t fault' h k.2)
list_once at epoch input t u Done ReadFault a b h k = absurd b
list_once at epoch input t u Done WriteFault a b h k = absurd b
list_once at epoch input t u Done (Plan line' kind') a b h k = absurd (lists_or_plan at epoch input t line' kind' h k.1)
list_once at epoch input t u Usage r a b h k = absurd a
list_once at epoch input t u DiskFault r a b h k = absurd h
list_once at epoch input t u (NotAJournal file at') r a b h k = absurd h
list_once at epoch input t u (PlanDiffers name) r a b h k = absurd h
list_once at epoch input t u (Full size) r a b h k = absurd h
list_once at epoch input t u Worn r a b h k = absurd h
list_once at epoch input t u TooMany r a b h k = absurd h
list_once at epoch input t u OutOfMemory r a b h k = absurd a
list_once at epoch input t u (Input place fault) Done a b h k = absurd (lists_or_break at epoch input u fault k h.2)
list_once at epoch input t u (Input place fault) Usage a b h k = absurd b
list_once at epoch input t u (Input place fault) DiskFault a b h k = absurd k
list_once at epoch input t u (Input place fault) (NotAJournal file at') a b h k = absurd k
list_once at epoch input t u (Input place fault) (PlanDiffers name) a b h k = absurd k
list_once at epoch input t u (Input place fault) (Full size) a b h k = absurd k
list_once at epoch input t u (Input place fault) Worn a b h k = absurd k
list_once at epoch input t u (Input place fault) TooMany a b h k = absurd k
list_once at epoch input t u (Input place fault) OutOfMemory a b h k = absurd b
list_once at epoch input t u (Input place fault) (Input place' fault') a b h k = (both_empty t u h.0 k.0, one_place fault fault' place place' (one_break input fault fault' h.2 k.2) h.1 k.1)
list_once at epoch input t u (Input place fault) ReadFault a b h k = absurd b
list_once at epoch input t u (Input place fault) WriteFault a b h k = absurd b
list_once at epoch input t u (Input place fault) (Plan line' kind') a b h k = absurd (break_or_plan input fault line' kind' h.2 k.1)
list_once at epoch input t u ReadFault r a b h k = absurd a
list_once at epoch input t u WriteFault r a b h k = absurd a
list_once at epoch input t u (Plan line kind) Done a b h k = absurd (lists_or_plan at epoch input u line kind k h.1)
list_once at epoch input t u (Plan line kind) Usage a b h k = absurd b
list_once at epoch input t u (Plan line kind) DiskFault a b h k = absurd k
list_once at epoch input t u (Plan line kind) (NotAJournal file at') a b h k = absurd k
list_once at epoch input t u (Plan line kind) (PlanDiffers name) a b h k = absurd k
list_once at epoch input t u (Plan line kind) (Full size) a b h k = absurd k
list_once at epoch input t u (Plan line kind) Worn a b h k = absurd k
list_once at epoch input t u (Plan line kind) TooMany a b h k = absurd k
list_once at epoch input t u (Plan line kind) OutOfMemory a b h k = absurd b
list_once at epoch input t u (Plan line kind) (Input place' fault') a b h k = absurd (break_or_plan input fault' line kind k.2 h.1)
list_once at epoch input t u (Plan line kind) ReadFault a b h k = absurd b
list_once at epoch input t u (Plan line kind) WriteFault a b h k = absurd b
list_once at epoch input t u (Plan line kind) (Plan line' kind') a b h k = (both_empty t u h.0 k.0, one_plan_break input line line' kind kind' h.1 k.1)

list_writes : (at epoch : ℕ) (input t : List ℕ) (s : Status) → IsTold s → ListAnswers at epoch input t WriteFault → ListAnswers at epoch input [] s → ⊥
list_writes at epoch input t Done a h k = h.0 (one_text at epoch input t [] h.1 k)
list_writes at epoch input t Usage a h k = absurd a
list_writes at epoch input t DiskFault a h k = k
list_writes at epoch input t (NotAJournal file at') a h k = k
list_writes at epoch input t (PlanDiffers name) a h k = k
list_writes at epoch input t (Full size) a h k = k
list_writes at epoch input t Worn a h k = k
list_writes at epoch input t TooMany a h k = k
list_writes at epoch input t OutOfMemory a h k = absurd a
list_writes at epoch input t (Input place fault) a h k = lists_or_break at epoch input t fault h.1 k.2
list_writes at epoch input t ReadFault a h k = absurd a
list_writes at epoch input t WriteFault a h k = absurd a
list_writes at epoch input t (Plan line kind) a h k = lists_or_plan at epoch input t line kind h.1 k.1

list_whole : (at epoch : ℕ) (input t : List ℕ) (s : Status) → IsWholeInput input → IsTold s → ListAnswers at epoch input t s → IsRead s
list_whole at epoch input t Done w a h = tt
list_whole at epoch input t Usage w a h = absurd a
list_whole at epoch input t DiskFault w a h = absurd h
list_whole at epoch input t (NotAJournal file at') w a h = absurd h
list_whole at epoch input t (PlanDiffers name) w a h = absurd h
list_whole at epoch input t (Full size) w a h = absurd h
list_whole at epoch input t Worn w a h = absurd h
list_whole at epoch input t TooMany w a h = absurd h
list_whole at epoch input t OutOfMemory w a h = absurd a
list_whole at epoch input t (Input place fault) w a h = absurd (whole_or_break input fault w h.2)
list_whole at epoch input t ReadFault w a h = absurd a
list_whole at epoch input t WriteFault w a h = absurd a
list_whole at epoch input t (Plan line kind) w a h = absurd (whole_or_plan_break input line kind w h.1)

pub list_function : (at epoch : ℕ) → IsFunction (ListAnswers at epoch)
list_function at epoch = record { once = list_once at epoch; whole = list_whole at epoch; writes = list_writes at epoch; words = λ input t h. h; files = λ input t h. h }
