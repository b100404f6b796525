-- An input has one answer of `show`.
use Rattle.std.proofs.Common.{◌≡◌, ◌≢◌, ℕ, ◌+◌, ◌-◌, ◌<◌, ◌^◌, List, [], ◌∷◌, ◌++◌, length, take, drop, true, refl, sym, ap, subst, ◌∙◌, append_assoc, length-append, arith}
use Rattle.std.specs.List.{flat_map}
use Rattle.std.proofs.lemmas.List.Concat.{flat_map-cons}
use Rattle.dur_capture.specs.declared.record.Record.{Record}
use Rattle.dur_capture.specs.declared.fault.CapFault.{CapFault}
use Rattle.dur_capture.specs.Capture.{record_text}
use Rattle.dur_capture.specs.Feeding.{Feeding, within}
use Rattle.dur_capture.specs.Whole.{Feeds, BreaksAt}
use Rattle.dur_capture.proofs.Unique.{one_split, IsStuck}
use Rattle.dur_capture.proofs.Runs.{one_capture}
use Rattle.dur_capture.proofs.First.{within_splits, break_stuck, one_first, no_break}
use Rattle.dur_qos.specs.declared.plan.Plan.{Plan as PlanOf}
use Rattle.dur_qos.specs.declared.fault.PlanKind.{PlanKind}
use Rattle.dur_qos.specs.Text.{PlanText}
use Rattle.dur_qos.proofs.Verdicts.{one_plan, plan_or_fault}
use Rattle.rtps_message.specs.declared.heard.Heard.{Heard}
use Rattle.rtps_message.proofs.Once.{hears_once}
use Rattle.dur_rerun.specs.declared.status.Status.{Status}
use Rattle.dur_rerun.specs.declared.status.Status.TheVariants.{Done, Usage, OutOfMemory, Input, ReadFault, WriteFault, Plan, DiskFault, NotAJournal, PlanDiffers, Full, Worn, TooMany}
use Rattle.dur_rerun.specs.Command.{IsTold, IsRead, IsFunction}
use Rattle.dur_rerun.specs.Input.Breaks.{PlanBreaks, CaptureBreaks}
use Rattle.dur_rerun.specs.Input.Prefix.{own_prefix}
use Rattle.dur_rerun.specs.Input.Whole.{IsWholeInput}
use Rattle.dur_rerun.specs.Show.Answer.{ShowsBehind, ShowAnswers}
use Rattle.dur_rerun.specs.Show.Line.{line, Shows}
use Rattle.dur_rerun.specs.Show.Printing.{ShowsAll, ShowsRead, ShowsBreak, ShowsRest}
use Rattle.dur_rerun.proofs.OneInput.{one_end, one_place, one_plan_break, whole_or_break, whole_or_plan_break}

-- ---- the lines of records

shows_once : (own : List ℕ) (i : ℕ) (rs : List Record) (t u : List ℕ) → Shows own i rs t → Shows own i rs u → t ≡ u
shows_once own i [] t u x y = x ∙ sym y
shows_once own i (r ∷ rs) t u x y =
    let same = hears_once own r.bytes x.0 y.0 x.2 y.2 in
    let rest = shows_once own (i + 1) rs x.1 y.1 x.3 y.3 in
    x.4 ∙ ap (λ (h : Heard). line i r h ++ x.1) same ∙ ap (λ (l : List ℕ). line i r y.0 ++ l) rest ∙ sym y.4

shows_of : (own : List ℕ) (rs qs : List Record) (t u : List ℕ) → rs ≡ qs → Shows own 1 rs t → Shows own 1 qs u → t ≡ u
shows_of own rs qs t u same x y = shows_once own 1 qs t u (subst (λ (l : List Record). Shows own 1 l t) same x) y

line_some : (i : ℕ) (r : Record) (h : Heard) → 0 < length (line i r h)
unfolding line
line_some i r h = rw length-append (omega arith)

none_shown : (own : List ℕ) (i : ℕ) (rs : List Record) → Shows own i rs [] → rs ≡ []
none_shown own i [] h = refl
none_shown own i (r ∷ rs) h = absurd (omega (arith, line_some i r h.0, ap length h.4, length-append (line i r h.0) h.1))

-- ---- the octets behind a plan

cons_parts : (d : Record) (ds : List Record) (rest : List ℕ) → flat_map record_text (d ∷ ds) ++ rest ≡ record_text d ++ (flat_map record_text ds ++ rest)
cons_parts d ds rest = ap (λ (t : List ℕ). t ++ rest) (flat_map-cons record_text d ds) ∙ append_assoc (record_text d) (flat_map record_text ds) rest

one_records : (before : ℕ) (octets : List ℕ) (rs qs : List Record) (f g : Feeding) → Feeds before octets rs f → Feeds before octets qs g → IsStuck (within f) → IsStuck (within g) → rs ≡ qs
one_records before octets rs qs f g a b fstuck gstuck =
    (one_split rs qs (take (2 ^ 40 - before) octets) (within f) (within g) a.splits.each (within_splits before octets rs f a) fstuck b.splits.each (within_splits before octets qs g b) gstuck).0

break_at : (own : List ℕ) (before : ℕ) (octets t : List ℕ) (e : CapFault) → ShowsBreak own before octets t e → BreaksAt before octets true e
break_at own before octets t e x = record { records = x.records; feed = x.feed; feeds = x.read; breaks = x.breaks }

all_or_break : (own : List ℕ) (before : ℕ) (octets t u : List ℕ) (e : CapFault) → ShowsAll own before octets t → ShowsBreak own before octets u e → ⊥
all_or_break own before octets t u e x y = no_break e before octets x.records x.capture (break_at own before octets u e y)

all_once : (own : List ℕ) (before : ℕ) (octets t u : List ℕ) → ShowsAll own before octets t → ShowsAll own before octets u → t ≡ u
all_once own before octets t u x y = shows_of own x.records y.records t u (one_capture before octets x.records y.records x.capture y.capture) x.shows y.shows

break_once : (own : List ℕ) (before : ℕ) (octets t u : List ℕ) (d e : CapFault) → ShowsBreak own before octets t d → ShowsBreak own before octets u e → (t ≡ u) × (d ≡ e)
break_once own before octets t u d e x y = (
  shows_of own x.records y.records t u (one_records before octets x.records y.records x.feed y.feed x.read y.read (break_stuck d x.feed true x.breaks) (break_stuck e y.feed true y.breaks)) x.shows y.shows,
  one_first d e before octets true (break_at own before octets t d x) (break_at own before octets u e y),
)

-- of no octets no record was read
none_read : (before : ℕ) (octets : List ℕ) (rs : List Record) (f : Feeding) → Feeds before octets rs f → length octets ≡ 0 → rs ≡ []
none_read before octets [] f fed none = refl
none_read before octets (r ∷ rs) f fed none =
    absurd (omega (arith, none, ap length (fed.splits.parts ∙ cons_parts r rs f.left), length-append (record_text r) (flat_map record_text rs ++ f.left)))

no_text : (own : List ℕ) (rs : List Record) (t : List ℕ) → rs ≡ [] → Shows own 1 rs t → t ≡ []
no_text own rs t none h = subst (λ (l : List Record). Shows own 1 l t) none h

all_or_read : (own : List ℕ) (before : ℕ) (octets t : List ℕ) → ShowsAll own before octets [] → ShowsRead own before octets t → t ≢ [] → ⊥
all_or_read own before octets t x y some =
    let none : x.records ≡ [] = none_shown own 1 x.records x.shows in
    let parts : octets ≡ flat_map record_text x.records ++ [] = x.capture.capture.parts in
    let empty : length octets ≡ 0 = ap length (parts ∙ ap (λ (l : List Record). flat_map record_text l ++ []) none) in
    some (no_text own y.records t (none_read before octets y.records y.feed y.read empty) y.shows)

stuck_or_read : (before : ℕ) (octets : List ℕ) (rs : List Record) (f g : Feeding) → Feeds before octets [] f → IsStuck (within f) → Feeds before octets rs g → rs ≡ []
stuck_or_read before octets [] f g a stuck b = refl
stuck_or_read before octets (r ∷ rs) f g a stuck b =
    absurd (stuck r (flat_map record_text rs ++ within g) b.splits.each.0 (sym (within_splits before octets [] f a) ∙ within_splits before octets (r ∷ rs) g b ∙ cons_parts r rs (within g)))

break_or_read : (own : List ℕ) (before : ℕ) (octets t : List ℕ) (e : CapFault) → ShowsBreak own before octets [] e → ShowsRead own before octets t → t ≢ [] → ⊥
break_or_read own before octets t e x y some =
    let none : x.records ≡ [] = none_shown own 1 x.records x.shows in
    let fed : Feeds before octets [] x.feed = subst (λ (l : List Record). Feeds before octets l x.feed) none x.read in
    some (no_text own y.records t (stuck_or_read before octets y.records x.feed y.feed fed (break_stuck e x.feed true x.breaks) y.read) y.shows)

-- ---- behind the plan

-- what is printed behind one reading of the plan is so behind the other
moved : (epoch : ℕ) (input t : List ℕ) (s : Status) (x : ShowsBehind epoch input t s) (q : PlanOf) (m : ℕ) → PlanText input q m → ShowsRest (own_prefix epoch q) m (drop m input) t s
moved epoch input t s x q m y =
    subst (λ (k : ℕ). ShowsRest (own_prefix epoch q) k (drop k input) t s) (one_end input x.plan q x.n m x.plan_is y)
    (subst (λ (o : PlanOf). ShowsRest (own_prefix epoch o) x.n (drop x.n input) t s) (one_plan input x.plan q x.n m x.plan_is y) x.rest)

rest_once : (own : List ℕ) (before : ℕ) (octets t u : List ℕ) (s r : Status) → IsTold s → IsTold r → ShowsRest own before octets t s → ShowsRest own before octets u r → (t ≡ u) × (s ≡ r)
rest_once own before octets t u Done Done a b h k = (all_once own before octets t u h k, refl)
rest_once own before octets t u Done Usage a b h k = absurd b
rest_once own before octets t u Done DiskFault a b h k = absurd k
rest_once own before octets t u Done (NotAJournal file at') a b h k = absurd k
rest_once own before octets t u Done (PlanDiffers name) a b h k = absurd k
rest_once own before octets t u Done (Full size) a b h k = absurd k
rest_once own before octets t u Done Worn a b h k = absurd k
rest_once own before octets t u Done TooMany a b h k = absurd k
rest_once own before octets t u Done OutOfMemory a b h k = absurd b
rest_once own before octets t u Done (Input place' fault') a b h k = absurd (all_or_break own before octets t u fault' h k.1)
rest_once own before octets t u Done ReadFault a b h k = absurd b
rest_once own before octets t u Done WriteFault a b h k = absurd b
rest_once own before octets t u Done (Plan line' kind') a b h k = absurd k
rest_once own before octets t u Usage r a b h k = absurd a
rest_once own before octets t u DiskFault r a b h k = absurd h
rest_once own before octets t u (NotAJournal file at') r a b h k = absurd h
rest_once own before octets t u (PlanDiffers name) r a b h k = absurd h
rest_once own before octets t u (Full size) r a b h k = absurd h
rest_once own before octets t u Worn r a b h k = absurd h
rest_once own before octets t u TooMany r a b h k = absurd h
rest_once own before octets t u OutOfMemory r a b h k = absurd a
rest_once own before octets t u (Input place fault) Done a b h k = absurd (all_or_break own before octets u t fault k h.1)
rest_once own before octets t u (Input place fault) Usage a b h k = absurd b
rest_once own before octets t u (Input place fault) DiskFault a b h k = absurd k
rest_once own before octets t u (Input place fault) (NotAJournal file at') a b h k = absurd k
rest_once own before octets t u (Input place fault) (PlanDiffers name) a b h k = absurd k
rest_once own before octets t u (Input place fault) (Full size) a b h k = absurd k
rest_once own before octets t u (Input place fault) Worn a b h k = absurd k
rest_once own before octets t u (Input place fault) TooMany a b h k = absurd k
rest_once own before octets t u (Input place fault) OutOfMemory a b h k = absurd b
rest_once own before octets t u (Input place fault) (Input place' fault') a b h k = let same = break_once own before octets t u fault fault' h.1 k.1 in (same.0, one_place fault fault' place place' same.1 h.0 k.0)
rest_once own before octets t u (Input place fault) ReadFault a b h k = absurd b
rest_once own before octets t u (Input place fault) WriteFault a b h k = absurd b
rest_once own before octets t u (Input place fault) (Plan line' kind') a b h k = absurd k
rest_once own before octets t u ReadFault r a b h k = absurd a
rest_once own before octets t u WriteFault r a b h k = absurd a
rest_once own before octets t u (Plan line kind) r a b h k = absurd h

behind_once : (epoch : ℕ) (input t u : List ℕ) (s r : Status) → IsTold s → IsTold r → ShowsBehind epoch input t s → ShowsBehind epoch input u r → (t ≡ u) × (s ≡ r)
behind_once epoch input t u s r a b h k = rest_once (own_prefix epoch k.plan) k.n (drop k.n input) t u s r a b (moved epoch input t s h k.plan k.n k.plan_is) k.rest

plan_or_behind : (epoch : ℕ) (input t : List ℕ) (s : Status) (line : ℕ) (k : PlanKind) → ShowsBehind epoch input t s → PlanBreaks input line k → ⊥
plan_or_behind epoch input t s line k x breaks = plan_or_fault input x.plan x.n (record { line = line; kind = k }) x.plan_is breaks

-- ---- the relation is a function

show_once : (epoch : ℕ) (input t u : List ℕ) (s r : Status) → IsTold s → IsTold r → ShowAnswers epoch input t s → ShowAnswers epoch input u r → (t ≡ u) × (s ≡ r)
show_once epoch input t u Done Done a b h k = behind_once epoch input t u Done Done a b h k
show_once epoch input t u Done Usage a b h k = absurd b
show_once epoch input t u Done DiskFault a b h k = absurd k.rest
show_once epoch input t u Done (NotAJournal file at') a b h k = absurd k.rest
show_once epoch input t u Done (PlanDiffers name) a b h k = absurd k.rest
show_once epoch input t u Done (Full size) a b h k = absurd k.rest
show_once epoch input t u Done Worn a b h k = absurd k.rest
show_once epoch input t u Done TooMany a b h k = absurd k.rest
show_once epoch input t u Done OutOfMemory a b h k = absurd b
show_once epoch input t u Done (Input place' fault') a b h k = behind_once epoch input t u Done (Input place' fault') a b h k
show_once epoch input t u Done ReadFault a b h k = absurd b
show_once epoch input t u Done WriteFault a b h k = absurd b
show_once epoch input t u Done (Plan line' kind') a b h k = absurd (plan_or_behind epoch input t Done line' kind' h k.1)
show_once epoch input t u Usage r a b h k = absurd a
show_once epoch input t u DiskFault r a b h k = absurd h.rest
show_once epoch input t u (NotAJournal file at') r a b h k = absurd h.rest
show_once epoch input t u (PlanDiffers name) r a b h k = absurd h.rest
show_once epoch input t u (Full size) r a b h k = absurd h.rest
show_once epoch input t u Worn r a b h k = absurd h.rest
show_once epoch input t u TooMany r a b h k = absurd h.rest
show_once epoch input t u OutOfMemory r a b h k = absurd a
show_once epoch input t u (Input place fault) Done a b h k = behind_once epoch input t u (Input place fault) Done a b h k
show_once epoch input t u (Input place fault) Usage a b h k = absurd b
show_once epoch input t u (Input place fault) DiskFault a b h k = absurd k.rest
show_once epoch input t u (Input place fault) (NotAJournal file at') a b h k = absurd k.rest
show_once epoch input t u (Input place fault) (PlanDiffers name) a b h k = absurd k.rest
show_once epoch input t u (Input place fault) (Full size) a b h k = absurd k.rest
show_once epoch input t u (Input place fault) Worn a b h k = absurd k.rest
show_once epoch input t u (Input place fault) TooMany a b h k = absurd k.rest
show_once epoch input t u (Input place fault) OutOfMemory a b h k = absurd b
show_once epoch input t u (Input place fault) (Input place' fault') a b h k = behind_once epoch input t u (Input place fault) (Input place' fault') a b h k
show_once epoch input t u (Input place fault) ReadFault a b h k = absurd b
show_once epoch input t u (Input place fault) WriteFault a b h k = absurd b
show_once epoch input t u (Input place fault) (Plan line' kind') a b h k = absurd (plan_or_behind epoch input t (Input place fault) line' kind' h k.1)
show_once epoch input t u ReadFault r a b h k = absurd a
show_once epoch input t u WriteFault r a b h k = absurd a
show_once epoch input t u (Plan line kind) Done a b h k = absurd (plan_or_behind epoch input u Done line kind k h.1)
show_once epoch input t u (Plan line kind) Usage a b h k = absurd b
show_once epoch input t u (Plan line kind) DiskFault a b h k = absurd k.rest
show_once epoch input t u (Plan line kind) (NotAJournal file at') a b h k = absurd k.rest
show_once epoch input t u (Plan line kind) (PlanDiffers name) a b h k = absurd k.rest
show_once epoch input t u (Plan line kind) (Full size) a b h k = absurd k.rest
show_once epoch input t u (Plan line kind) Worn a b h k = absurd k.rest
show_once epoch input t u (Plan line kind) TooMany a b h k = absurd k.rest
show_once epoch input t u (Plan line kind) OutOfMemory a b h k = absurd b
show_once epoch input t u (Plan line kind) (Input place' fault') a b h k = absurd (plan_or_behind epoch input u (Input place' fault') line kind k h.1)
show_once epoch input t u (Plan line kind) ReadFault a b h k = absurd b
show_once epoch input t u (Plan line kind) WriteFault a b h k = absurd b
show_once epoch input t u (Plan line kind) (Plan line' kind') a b h k = (h.0 ∙ sym k.0, one_plan_break input line line' kind kind' h.1 k.1)

rest_writes : (own : List ℕ) (before : ℕ) (octets t : List ℕ) (s : Status) → IsTold s → ShowsRest own before octets t WriteFault → ShowsRest own before octets [] s → ⊥
rest_writes own before octets t Done a h k = all_or_read own before octets t k h.1 h.0
rest_writes own before octets t Usage a h k = absurd a
rest_writes own before octets t DiskFault a h k = k
rest_writes own before octets t (NotAJournal file at') a h k = k
rest_writes own before octets t (PlanDiffers name) a h k = k
rest_writes own before octets t (Full size) a h k = k
rest_writes own before octets t Worn a h k = k
rest_writes own before octets t TooMany a h k = k
rest_writes own before octets t OutOfMemory a h k = absurd a
rest_writes own before octets t (Input place fault) a h k = break_or_read own before octets t fault k.1 h.1 h.0
rest_writes own before octets t ReadFault a h k = absurd a
rest_writes own before octets t WriteFault a h k = absurd a
rest_writes own before octets t (Plan line kind) a h k = k

behind_writes : (epoch : ℕ) (input t : List ℕ) (s : Status) → IsTold s → ShowsBehind epoch input t WriteFault → ShowsBehind epoch input [] s → ⊥
behind_writes epoch input t s a h k = rest_writes (own_prefix epoch k.plan) k.n (drop k.n input) t s a (moved epoch input t WriteFault h k.plan k.n k.plan_is) k.rest

show_writes : (epoch : ℕ) (input t : List ℕ) (s : Status) → IsTold s → ShowAnswers epoch input t WriteFault → ShowAnswers epoch input [] s → ⊥
show_writes epoch input t Done a h k = behind_writes epoch input t Done a h k
show_writes epoch input t Usage a h k = absurd a
show_writes epoch input t DiskFault a h k = k.rest
show_writes epoch input t (NotAJournal file at') a h k = k.rest
show_writes epoch input t (PlanDiffers name) a h k = k.rest
show_writes epoch input t (Full size) a h k = k.rest
show_writes epoch input t Worn a h k = k.rest
show_writes epoch input t TooMany a h k = k.rest
show_writes epoch input t OutOfMemory a h k = absurd a
show_writes epoch input t (Input place fault) a h k = behind_writes epoch input t (Input place fault) a h k
show_writes epoch input t ReadFault a h k = absurd a
show_writes epoch input t WriteFault a h k = absurd a
show_writes epoch input t (Plan line kind) a h k = plan_or_behind epoch input t WriteFault line kind h k.1

show_break : (epoch : ℕ) (input t : List ℕ) (place : ℕ) (e : CapFault) → ShowsBehind epoch input t (Input place e) → CaptureBreaks input e
show_break epoch input t place e h = record { plan = h.plan; n = h.n; plan_is = h.plan_is; breaks = break_at (own_prefix epoch h.plan) h.n (drop h.n input) t e h.rest.1 }

show_whole : (epoch : ℕ) (input t : List ℕ) (s : Status) → IsWholeInput input → IsTold s → ShowAnswers epoch input t s → IsRead s
show_whole epoch input t Done w a h = tt
show_whole epoch input t Usage w a h = absurd a
show_whole epoch input t DiskFault w a h = absurd h.rest
show_whole epoch input t (NotAJournal file at') w a h = absurd h.rest
show_whole epoch input t (PlanDiffers name) w a h = absurd h.rest
show_whole epoch input t (Full size) w a h = absurd h.rest
show_whole epoch input t Worn w a h = absurd h.rest
show_whole epoch input t TooMany w a h = absurd h.rest
show_whole epoch input t OutOfMemory w a h = absurd a
show_whole epoch input t (Input place fault) w a h = absurd (whole_or_break input fault w (show_break epoch input t place fault h))
show_whole epoch input t ReadFault w a h = absurd a
show_whole epoch input t WriteFault w a h = absurd a
show_whole epoch input t (Plan line kind) w a h = absurd (whole_or_plan_break input line kind w h.1)

pub show_function : (epoch : ℕ) → IsFunction (ShowAnswers epoch)
show_function epoch = record { once = show_once epoch; whole = show_whole epoch; writes = show_writes epoch; words = λ input t h. h.rest; files = λ input t h. h.rest }
