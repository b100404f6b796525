-- What `check` promises follows from what was seen.
use Rattle.std.proofs.Common.{◌≡◌, ◌⊎◌, inl, inr, ℕ, List, [], ◌++◌, Option, Some, None, refl, sym, ap, subst, ◌∙◌}
use Rattle.dur_outside.specs.declared.values.FileId.{FileId}
use Rattle.dur_outside.specs.declared.values.FileId.TheVariants.{Zero, One}
use Rattle.dur_outside.specs.World.{Image}
use Rattle.dur_outside.specs.Causes.{Rose}
use Rattle.dur_rerun.specs.declared.check.looks.Looks.{Looks}
use Rattle.dur_rerun.specs.declared.status.Status.{Status}
use Rattle.dur_rerun.specs.declared.status.Status.TheVariants.{Done, Usage, OutOfMemory, Input, ReadFault, WriteFault, Plan, DiskFault, NotAJournal, PlanDiffers, Full, Worn, TooMany}
use Rattle.dur_rerun.specs.Command.{IsTold, GoesOut}
use Rattle.dur_rerun.specs.Saying.{IsSaid, wrote}
use Rattle.dur_rerun.specs.Check.Line.{file_line, live_text}
use Rattle.dur_rerun.specs.Check.Looks.{AreLooks, first_broken, prints_changes, PrintsChanges, live_view}
use Rattle.dur_rerun.specs.Check.Answer.{Checks, CheckAnswers, found, CheckEnds, HasCheckReason, IsComplete}
use Rattle.dur_rerun.proofs.Commands.{all_out, nothing_out}
use Rattle.dur_rerun.proofs.Looked.{prints_live, looks_once, changes_once}

-- ---- what goes out

-- the text of what was seen
checks : (files : Image) (l : Looks) (text : List ℕ) → AreLooks files l → text ≡ file_line Zero l.zero ++ file_line One l.one ++ live_text (live_view l) → Checks files text (first_broken l)
checks files l text are is = record { looks = l; are = are; first = refl; changes = live_text (live_view l); prints = prints_live files l are; text_is = is }

answers : (files : Image) (text : List ℕ) (broken : Option (FileId × ℕ)) → Checks files text broken → CheckAnswers files text (found broken)
answers files text None c = c
answers files text (Some broken) c = c

-- nothing was written
pub out_none : (s : Status) (tells : Type 0) (old new : Image) → (s ≡ DiskFault) ⊎ (s ≡ OutOfMemory) → new ≡ old → GoesOut CheckAnswers old s tells old new
out_none s tells old new why same =
    subst (λ (c : Image). GoesOut CheckAnswers old s tells old c) (sym same) (elim why [
      | inl disk ↦ nothing_out CheckAnswers old s tells old (subst (CheckAnswers old []) (sym disk) refl)
      | inr memory ↦ nothing_out CheckAnswers old s tells old (subst (CheckAnswers old []) (sym memory) refl)
    ])

-- a front of the text was
pub out_cut : (l : Looks) (text : List ℕ) (s : Status) (tells : Type 0) (old mid new : Image) → AreLooks old l → text ≡ file_line Zero l.zero ++ file_line One l.one ++ live_text (live_view l)
    → s ≡ WriteFault → mid ≡ old → (tells → IsSaid text mid new) → GoesOut CheckAnswers old s tells old new
out_cut l text s tells old mid new are is cut same said =
    subst (λ (x : Status). GoesOut CheckAnswers old x tells old new) (sym cut) (record {
      text = text;
      answers = (first_broken l, checks old l text are is);
      all = λ told t. absurd told;
      front = λ t. subst (λ (c : Image). IsSaid text c new) same (said t);
    })

-- all of it was
pub out_all : (l : Looks) (text : List ℕ) (s : Status) (tells : Type 0) (old mid new : Image) → AreLooks old l → text ≡ file_line Zero l.zero ++ file_line One l.one ++ live_text (live_view l)
    → s ≡ found (first_broken l) → mid ≡ old → (tells → new ≡ wrote text mid) → GoesOut CheckAnswers old s tells old new
out_all l text s tells old mid new are is ended same written =
    subst (λ (x : Status). GoesOut CheckAnswers old x tells old new) (sym ended)
    (all_out CheckAnswers old text (found (first_broken l)) tells old new (answers old text (first_broken l) (checks old l text are is))
    (λ t. subst (λ (c : Image). new ≡ wrote text c) same (written t)))

-- ---- why it ended

pub found_reason : (broken : Option (FileId × ℕ)) (s : Status) (disks disks_now writes writes_now : ℕ) → s ≡ found broken → HasCheckReason s disks disks_now writes writes_now
found_reason None s disks disks_now writes writes_now is = record {
  ends = subst CheckEnds (sym is) tt;
  disk = λ d. absurd (let both = sym is ∙ d in cc);
  write = λ w. absurd (let both = sym is ∙ w in cc);
}
found_reason (Some broken) s disks disks_now writes writes_now is = record {
  ends = subst CheckEnds (sym is) tt;
  disk = λ d. absurd (let both = sym is ∙ d in cc);
  write = λ w. absurd (let both = sym is ∙ w in cc);
}

pub early_reason : (s : Status) (disks disks_now writes writes_now : ℕ) → (s ≡ DiskFault) ⊎ (s ≡ OutOfMemory) → (s ≡ DiskFault → Rose disks disks_now) → HasCheckReason s disks disks_now writes writes_now
early_reason s disks disks_now writes writes_now why rose = elim why [
  | inl disk ↦ (record { ends = subst CheckEnds (sym disk) tt; disk = rose; write = λ w. absurd (let both = sym disk ∙ w in cc) })
  | inr memory ↦ (record { ends = subst CheckEnds (sym memory) tt; disk = rose; write = λ w. absurd (let both = sym memory ∙ w in cc) })
]

pub memory_reason : (disks disks_now writes writes_now : ℕ) → HasCheckReason OutOfMemory disks disks_now writes writes_now
memory_reason disks disks_now writes writes_now = record { ends = tt; disk = λ d. absurd cc; write = λ w. absurd cc }

pub cut_reason : (s : Status) (disks disks_now writes writes_now : ℕ) → s ≡ WriteFault → Rose writes writes_now → HasCheckReason s disks disks_now writes writes_now
cut_reason s disks disks_now writes writes_now is rose = record {
  ends = subst CheckEnds (sym is) tt;
  disk = λ d. absurd (let both = sym is ∙ d in cc);
  write = λ w. rose;
}

-- ---- the answer comes, and there is one

same_broken : (files : Image) (text : List ℕ) (broken : Option (FileId × ℕ)) (looks : Looks) → Checks files text broken → AreLooks files looks → broken ≡ first_broken looks
same_broken files text broken looks c are = c.first ∙ ap first_broken (looks_once files c.looks looks c.are are)

pub completes : (s : Status) (files : Image) (text : List ℕ) (disks disks_now writes writes_now : ℕ) → CheckAnswers files text s → HasCheckReason s disks disks_now writes writes_now → IsComplete files s disks disks_now writes writes_now
completes Done files text disks disks_now writes writes_now a r looks are disk write = inl (ap found (same_broken files text None looks a are))
completes (NotAJournal file at) files text disks disks_now writes writes_now a r looks are disk write = inl (ap found (same_broken files text (Some (file, at)) looks a are))
completes OutOfMemory files text disks disks_now writes writes_now a r looks are disk write = inr refl
completes WriteFault files text disks disks_now writes writes_now a r looks are disk write = absurd (write (r.write refl))
completes DiskFault files text disks disks_now writes writes_now a r looks are disk write = absurd (disk (r.disk refl))
completes Usage files text disks disks_now writes writes_now a r looks are disk write = absurd a
completes (Input place fault) files text disks disks_now writes writes_now a r looks are disk write = absurd a
completes ReadFault files text disks disks_now writes writes_now a r looks are disk write = absurd a
completes (Plan line kind) files text disks disks_now writes writes_now a r looks are disk write = absurd a
completes (PlanDiffers name) files text disks disks_now writes writes_now a r looks are disk write = absurd a
completes (Full size) files text disks disks_now writes writes_now a r looks are disk write = absurd a
completes Worn files text disks disks_now writes writes_now a r looks are disk write = absurd a
completes TooMany files text disks disks_now writes writes_now a r looks are disk write = absurd a

-- a status that says what the files call for is that of their text
record Told (files : Image) (text : List ℕ) (s : Status) : Type 0 where
  broken : Option (FileId × ℕ)
  checks : Checks files text broken
  is : s ≡ found broken

told : (s : Status) (files : Image) (text : List ℕ) → IsTold s → CheckAnswers files text s → Told files text s
told Done files text t a = record { broken = None; checks = a; is = refl }
told (NotAJournal file at) files text t a = record { broken = Some (file, at); checks = a; is = refl }
told OutOfMemory files text t a = absurd t
told WriteFault files text t a = absurd t
told DiskFault files text t a = absurd t
told Usage files text t a = absurd t
told (Input place fault) files text t a = absurd a
told ReadFault files text t a = absurd t
told (Plan line kind) files text t a = absurd a
told (PlanDiffers name) files text t a = absurd a
told (Full size) files text t a = absurd a
told Worn files text t a = absurd a
told TooMany files text t a = absurd a

text_once : (files : Image) (t u : List ℕ) (b c : Option (FileId × ℕ)) → Checks files t b → Checks files u c → t ≡ u
text_once files t u b c x y =
    let same : x.looks ≡ y.looks = looks_once files x.looks y.looks x.are y.are in
    let prints = subst (λ (l : Looks). PrintsChanges files (prints_changes l) x.changes) same x.prints in
    let changes : x.changes ≡ y.changes = changes_once files (prints_changes y.looks) x.changes y.changes prints y.prints in
    x.text_is
    ∙ ap (λ (l : Looks). file_line Zero l.zero ++ file_line One l.one ++ x.changes) same
    ∙ ap (λ (o : List ℕ). file_line Zero y.looks.zero ++ file_line One y.looks.one ++ o) changes
    ∙ sym y.text_is

pub check_once : (files : Image) (t u : List ℕ) (s r : Status) → IsTold s → IsTold r → CheckAnswers files t s → CheckAnswers files u r → (t ≡ u) × (s ≡ r)
check_once files t u s r a b h k =
    let x = told s files t a h in
    let y = told r files u b k in
    let broken : x.broken ≡ y.broken = same_broken files t x.broken y.checks.looks x.checks y.checks.are ∙ sym y.checks.first in
    (text_once files t u x.broken y.broken x.checks y.checks, x.is ∙ ap found broken ∙ sym y.is)
