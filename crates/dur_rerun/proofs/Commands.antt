-- What a command promises follows from its answers.
use Rattle.std.proofs.Common.{◌≡◌, ℕ, ◌+◌, ◌≤◌, List, [], ◌++◌, length, take, Option, Some, None, refl, sym, ap, subst, ◌∙◌, append_assoc, append-nil, arith, ◌⊎◌, inl, inr}
use Rattle.std.specs.Prelude.{IfSome}
use Rattle.std.proofs.lemmas.List.{take_all}
use Rattle.bytes.proofs.Ranges.{take-append_past}
use Rattle.dur_outside.specs.World.{Image}
use Rattle.dur_outside.specs.Causes.{Rose}
use Rattle.dur_rerun.specs.declared.status.Status.{Status}
use Rattle.dur_rerun.specs.declared.status.Status.TheVariants.{Done, Usage, OutOfMemory, Input, ReadFault, WriteFault, Plan, DiskFault, NotAJournal, PlanDiffers, Full, Worn, TooMany}
use Rattle.dur_rerun.specs.Command.{IsTold, IsRead, IsFunction, HasReason, Arrives, GoesOut, Keeps}
use Rattle.dur_rerun.specs.Input.Whole.{IsWholeInput}
use Rattle.dur_rerun.specs.Saying.{IsSaid, wrote}

pub if_some : {X : Type 0} (o : Option X) (P Q : X → Type 0) → ((x : X) → P x → Q x) → IfSome o P → IfSome o Q
if_some None P Q leads h = tt
if_some (Some x) P Q leads h = leads x h

pub if_any : {X : Type 0} (o : Option X) (Q : X → Type 0) → ((x : X) → Q x) → IfSome o Q
if_any None Q leads = tt
if_any (Some x) Q leads = leads x

-- ---- what went out

pub wrote_nothing : (now : Image) → now ≡ wrote [] now
wrote_nothing now = ap (λ (x : List ℕ). record now { written = x }) (sym (append-nil now.written))

-- what went out in two parts went out
pub wrote_more : (a b : List ℕ) (first old new : Image) → old ≡ wrote a first → new ≡ wrote b old → new ≡ wrote (a ++ b) first
wrote_more a b first old new p q =
    q ∙ ap (wrote b) p ∙ ap (λ (x : List ℕ). record first { written = x }) (append_assoc first.written a b)

-- a front of the second part
pub said_more : (a b : List ℕ) (first old new : Image) → old ≡ wrote a first → IsSaid b old new → IsSaid (a ++ b) first new
said_more a b first old new p said = record {
  count = length a + said.count;
  written = wrote_more a (take said.count b) first old new p said.written
      ∙ ap (λ (t : List ℕ). wrote t first) (sym (take-append_past a b said.count (length a + said.count) (omega arith)));
}

-- all of a text is a front of it
pub said_all : (a : List ℕ) (first new : Image) → new ≡ wrote a first → IsSaid a first new
said_all a first new p = record { count = length a; written = p ∙ ap (λ (t : List ℕ). wrote t first) (sym (take_all (length a) a (omega arith))) }

-- all went out
pub all_out : {I : Type 0} → (answers : I → List ℕ → Status → Type 0) (input : I) (text : List ℕ) (s : Status) (tells : Type 0) (old new : Image) → answers input text s → (tells → new ≡ wrote text old) → GoesOut answers input s tells old new
all_out answers input text s tells old new h written = record {
  text = text;
  answers = h;
  all = λ told t. written t;
  front = λ t. said_all text old new (written t);
}

-- there is nothing to go out
pub nothing_out : {I : Type 0} → (answers : I → List ℕ → Status → Type 0) (input : I) (s : Status) (tells : Type 0) (now : Image) → answers input [] s → GoesOut answers input s tells now now
nothing_out answers input s tells now h = all_out answers input [] s tells now now h (λ t. wrote_nothing now)

pub keeps_same : (tells : Type 0) (now : Image) (disk : ℕ) → Keeps tells now now disk disk
keeps_same tells now disk = record { files = λ t. ([], wrote_nothing now); faults = refl }

pub keeps_said : (tells : Type 0) (text : List ℕ) (old new : Image) (disk disk_now : ℕ) → (tells → IsSaid text old new) → disk_now ≡ disk → Keeps tells old new disk disk_now
keeps_said tells text old new disk disk_now said same = record { files = λ t. (take (said t).count text, (said t).written); faults = same }

-- ---- why it ended

-- a run that ended before anything was written
pub early : (E Ends : Status → Type 0) (s : Status) (left : Option (List ℕ)) (read read_now written written_now : ℕ) → E s → ((x : Status) → E x → Ends x) → (E Done → ⊥) → (E WriteFault → ⊥) → (s ≡ ReadFault → Rose read read_now)
    → HasReason Ends s left read read_now written written_now
early E Ends s left read read_now written written_now ends leads not_done not_written rose = record {
  ends = leads s ends;
  done = λ is. absurd (not_done (subst E is ends));
  read = rose;
  write = λ is. absurd (not_written (subst E is ends));
}

-- the same reasons, from an earlier moment on
pub since : (E Ends : Status → Type 0) (s : Status) (left : Option (List ℕ)) (first read read_now written written_now : ℕ) → first ≤ read → ((x : Status) → E x → Ends x) → HasReason E s left read read_now written written_now
    → HasReason Ends s left first read_now written written_now
since E Ends s left first read read_now written written_now later leads r = record {
  ends = leads s r.ends;
  done = r.done;
  read = λ is. omega (arith, r.read is, later);
  write = r.write;
}

-- ---- that the answer comes

answer_comes : (answers : List ℕ → List ℕ → Status → Type 0) → IsFunction answers → (input text t : List ℕ) (s a : Status) (P Q : Type 0) → answers input text s → (s ≡ ReadFault → P) → (s ≡ WriteFault → Q) → IsTold a → answers input t a
    → (P → ⊥) → (Q → ⊥) → (s ≡ a) ⊎ (s ≡ OutOfMemory)
answer_comes answers laws input text t Done a P Q h read write told other p q = inl (laws.once input text t Done a tt told h other).1
answer_comes answers laws input text t Usage a P Q h read write told other p q = absurd (laws.words input text h)
answer_comes answers laws input text t OutOfMemory a P Q h read write told other p q = inr refl
answer_comes answers laws input text t (Input place fault) a P Q h read write told other p q = inl (laws.once input text t (Input place fault) a tt told h other).1
answer_comes answers laws input text t ReadFault a P Q h read write told other p q = absurd (p (read refl))
answer_comes answers laws input text t WriteFault a P Q h read write told other p q = absurd (q (write refl))
answer_comes answers laws input text t (Plan line kind) a P Q h read write told other p q = inl (laws.once input text t (Plan line kind) a tt told h other).1
answer_comes answers laws input text t (NotAJournal file place) a P Q h read write told other p q = inl (laws.once input text t (NotAJournal file place) a tt told h other).1
answer_comes answers laws input text t (PlanDiffers name) a P Q h read write told other p q = inl (laws.once input text t (PlanDiffers name) a tt told h other).1
answer_comes answers laws input text t (Full size) a P Q h read write told other p q = inl (laws.once input text t (Full size) a tt told h other).1
answer_comes answers laws input text t Worn a P Q h read write told other p q = inl (laws.once input text t Worn a tt told h other).1
answer_comes answers laws input text t TooMany a P Q h read write told other p q = inl (laws.once input text t TooMany a tt told h other).1
answer_comes answers laws input text t DiskFault a P Q h read write told other p q = absurd (laws.files input text h)

whole_comes : (answers : List ℕ → List ℕ → Status → Type 0) → IsFunction answers → (input text : List ℕ) (s : Status) (P Q : Type 0) → IsWholeInput input → answers input text s → (s ≡ ReadFault → P) → (s ≡ WriteFault → Q)
    → (P → ⊥) → (Q → ⊥) → IsRead s ⊎ (s ≡ OutOfMemory)
whole_comes answers laws input text Done P Q w h read write p q = inl tt
whole_comes answers laws input text Usage P Q w h read write p q = absurd (laws.words input text h)
whole_comes answers laws input text OutOfMemory P Q w h read write p q = inr refl
whole_comes answers laws input text (Input place fault) P Q w h read write p q = inl (laws.whole input text (Input place fault) w tt h)
whole_comes answers laws input text ReadFault P Q w h read write p q = absurd (p (read refl))
whole_comes answers laws input text WriteFault P Q w h read write p q = absurd (q (write refl))
whole_comes answers laws input text (Plan line kind) P Q w h read write p q = inl (laws.whole input text (Plan line kind) w tt h)
whole_comes answers laws input text (NotAJournal file place) P Q w h read write p q = inl (laws.whole input text (NotAJournal file place) w tt h)
whole_comes answers laws input text (PlanDiffers name) P Q w h read write p q = inl (laws.whole input text (PlanDiffers name) w tt h)
whole_comes answers laws input text (Full size) P Q w h read write p q = inl (laws.whole input text (Full size) w tt h)
whole_comes answers laws input text Worn P Q w h read write p q = inl (laws.whole input text Worn w tt h)
whole_comes answers laws input text TooMany P Q w h read write p q = inl (laws.whole input text TooMany w tt h)
whole_comes answers laws input text DiskFault P Q w h read write p q = absurd (laws.files input text h)

silent_comes : (answers : List ℕ → List ℕ → Status → Type 0) → IsFunction answers → (input text : List ℕ) (s a : Status) (P : Type 0) → answers input text s → (s ≡ ReadFault → P) → IsTold a → answers input [] a
    → (P → ⊥) → (s ≡ a) ⊎ (s ≡ OutOfMemory)
silent_comes answers laws input text Done a P h read told other p = inl (laws.once input text [] Done a tt told h other).1
silent_comes answers laws input text Usage a P h read told other p = absurd (laws.words input text h)
silent_comes answers laws input text OutOfMemory a P h read told other p = inr refl
silent_comes answers laws input text (Input place fault) a P h read told other p = inl (laws.once input text [] (Input place fault) a tt told h other).1
silent_comes answers laws input text ReadFault a P h read told other p = absurd (p (read refl))
silent_comes answers laws input text WriteFault a P h read told other p = absurd (laws.writes input text a told h other)
silent_comes answers laws input text (Plan line kind) a P h read told other p = inl (laws.once input text [] (Plan line kind) a tt told h other).1
silent_comes answers laws input text (NotAJournal file place) a P h read told other p = inl (laws.once input text [] (NotAJournal file place) a tt told h other).1
silent_comes answers laws input text (PlanDiffers name) a P h read told other p = inl (laws.once input text [] (PlanDiffers name) a tt told h other).1
silent_comes answers laws input text (Full size) a P h read told other p = inl (laws.once input text [] (Full size) a tt told h other).1
silent_comes answers laws input text Worn a P h read told other p = inl (laws.once input text [] Worn a tt told h other).1
silent_comes answers laws input text TooMany a P h read told other p = inl (laws.once input text [] TooMany a tt told h other).1
silent_comes answers laws input text DiskFault a P h read told other p = absurd (laws.files input text h)

-- where the relation is a function
pub arrives : (answers : List ℕ → List ℕ → Status → Type 0) → IsFunction answers → (Ends : Status → Type 0) (known left : Option (List ℕ)) (s : Status) (read read_now written written_now : ℕ) (tells : Type 0) (old new : Image)
    → HasReason Ends s left read read_now written written_now → IfSome known (λ input. GoesOut answers input s tells old new) → IfSome known (λ input. Arrives answers input s read read_now written written_now)
arrives answers laws Ends known left s read read_now written written_now tells old new reason out =
    if_some known (λ input. GoesOut answers input s tells old new) (λ input. Arrives answers input s read read_now written written_now) (λ input o. record {
      answer = λ t a told other p q. answer_comes answers laws input o.text t s a (Rose read read_now) (Rose written written_now) o.answers reason.read reason.write told other p q;
      whole = λ w p q. whole_comes answers laws input o.text s (Rose read read_now) (Rose written written_now) w o.answers reason.read reason.write p q;
      silent = λ a told other p. silent_comes answers laws input o.text s a (Rose read read_now) o.answers reason.read told other p;
    }) out
