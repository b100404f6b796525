-- Up to when no lease ends.
use Rattle.std.proofs.Common.{◌≡◌, ℕ, List, [], ◌∷◌, refl, ap, subst, ◌∙◌, sym, Bool, true, false, cond, not, ◌||◌, Option, Some}
use Rattle.std.specs.Prelude.{filter, ◌&&◌}
use Rattle.std.specs.List.{list_any}
use Rattle.dur_base.specs.declared.fact.Fact.{Fact}
use Rattle.dur_qos.specs.declared.plan.Plan.{Plan}
use Rattle.dur_view.specs.History.{History}
use Rattle.dur_hub.specs.declared.line.Line.{Line}
use Rattle.dur_hub.specs.Telling.{speaks_of}
use Rattle.dur_hub.specs.Runs.{Writer}
use Rattle.dur_hub.specs.Leases.{is_past, is_overdue}
use Rattle.dur_hub.specs.Steps.{with_speaker}
use Rattle.dur_hub.specs.Lines.{LineFits, LinesFit}
use Rattle.dur_hub.specs.Looks.{is_late}
use Rattle.dur_hub.specs.Dues.{is_after, IsDue, AreDue}
use Rattle.dur_hub.proofs.Speakers.{speaker_in}

-- the writer of a line is overdue where the line is
pub late_is : (plan : Plan) (h : History) (d now : ℕ) (line : Line) (w : Writer)
    → LineFits plan h d line w → is_late line now ≡ is_overdue now w
late_is plan h d now line w fits =
    ap (λ b. not b && is_past line.lease line.heard now) fits.lost
    ∙ ap (λ x. not w.lost && is_past x line.heard now) fits.lease
    ∙ ap (λ x. not w.lost && is_past w.line.lease x now) fits.heard

-- a moment that is not after the earlier of two is after neither
pub neither : (a b : Bool) → (a || b) ≡ false → (a ≡ false) × (b ≡ false)
neither true b is = absurd (cc)
neither false b is = (refl, is)

-- no lease ends earlier
abbrev pub IsEarlier : Option ℕ → Option ℕ → Type 0
IsEarlier one other = (now : ℕ) → is_after one now ≡ false → is_after other now ≡ false

pub due_before : (one other : Option ℕ) (w : Writer) → IsEarlier one other → IsDue other w
    → IsDue one w
due_before one other w earlier due now no1 = due now (earlier now no1)

pub all_due_before : (one other : Option ℕ) (ws : List Writer) → IsEarlier one other
    → AreDue other ws → AreDue one ws
all_due_before one other [] earlier due = tt
all_due_before one other (w ∷ ws) earlier due =
    (due_before one other w earlier due.0, all_due_before one other ws earlier due.1)

-- a writer was heard
pub with_due : (plan : Plan) (f : Fact) (one other : Option ℕ) (change : Writer → Writer)
    (ws : List Writer) (x : Writer)
    → speaker_in plan f ws ≡ Some x → IsEarlier one other → AreDue other ws → IsDue one (change x)
    → AreDue one (with_speaker plan f change ws)
with_due plan f one other change [] x is earlier due here = tt
with_due plan f one other change (w ∷ ws) x is earlier due here =
    with_by (speaks_of plan w.line f) is (λ later. with_due plan f one other change ws x later earlier due.1 here) where
      with_by : (b : Bool) → cond b (Some w) (speaker_in plan f ws) ≡ Some x
          → (speaker_in plan f ws ≡ Some x → AreDue one (with_speaker plan f change ws))
          → AreDue one (cond b (change w ∷ ws) (w ∷ with_speaker plan f change ws))
      with_by true at more =
          (let e : w ≡ x = cc in
          (subst (λ (y : Writer). IsDue one (change y)) (sym e) here, all_due_before one other ws earlier due.1))
      with_by false at more = (due_before one other w earlier due.0, more at)

-- the writer of a line, by the end of its lease
pub line_due : (plan : Plan) (h : History) (d : ℕ) (due : Option ℕ) (line : Line) (w : Writer)
    → LineFits plan h d line w → ((now : ℕ) → is_after due now ≡ false → is_late line now ≡ false)
    → IsDue due w
line_due plan h d due line w fits ends now no1 =
    sym (late_is plan h d now line w fits) ∙ ends now no1

-- the writers of lines, by the first end
pub lines_due : (plan : Plan) (h : History) (d : ℕ) (due : Option ℕ) (ls : List Line)
    (ws : List Writer)
    → LinesFit plan h d ls ws
    → ((now : ℕ) → is_after due now ≡ false → list_any (λ line. is_late line now) ls ≡ false)
    → AreDue due ws
lines_due plan h d due [] [] fit ends = tt
lines_due plan h d due [] (w ∷ ws) fit ends = absurd fit
lines_due plan h d due (l ∷ ls) [] fit ends = tt
lines_due plan h d due (l ∷ ls) (w ∷ ws) fit ends = (
  line_due plan h d due l w fit.0 (λ now no1. (neither (is_late l now) (list_any (λ line. is_late line now) ls) (ends now no1)).0),
  lines_due plan h d due ls ws fit.1 (λ now no1. (neither (is_late l now) (list_any (λ line. is_late line now) ls) (ends now no1)).1),
)

-- nobody is overdue
pub nobody_overdue : (due : Option ℕ) (now : ℕ) (ws : List Writer) → is_after due now ≡ false
    → AreDue due ws → filter (is_overdue now) ws ≡ []
nobody_overdue due now [] no1 all = refl
nobody_overdue due now (w ∷ ws) no1 all =
    ap (λ b. cond b (w ∷ filter (is_overdue now) ws) (filter (is_overdue now) ws)) (all.0 now no1)
    ∙ nobody_overdue due now ws no1 all.1
