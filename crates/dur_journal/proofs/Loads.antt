-- What a disk keeps, from what was read of it.
use Rattle.std.proofs.Common.{◌≡◌, ℕ, List, length, Option, Some, None, Result, Ok, Err, refl, sym, ◌∙◌, ap, subst}
use Rattle.dur_outside.specs.declared.values.FileId.{FileId}
use Rattle.dur_outside.specs.declared.values.FileId.TheVariants.{Zero, One}
use Rattle.dur_outside.specs.World.{Image, content}
use Rattle.dur_qos.specs.declared.plan.Plan.{Plan}
use Rattle.dur_view.specs.declared.data.View.{View}
use Rattle.dur_view.specs.History.{Start}
use Rattle.dur_journal.specs.Histories.{view_of, completed, blank_of, Differing, Agreeing}
use Rattle.dur_journal.specs.declared.front.Front.{Front}
use Rattle.dur_journal.specs.declared.front.Front.TheVariants.{Open}
use Rattle.dur_journal.specs.declared.opening.Found.{Found}
use Rattle.dur_journal.specs.declared.reading.FileHistory.{FileHistory}
use Rattle.dur_journal.specs.File.{front_in, Stored, records_text, FileText, TextBreaks}
use Rattle.dur_journal.proofs.Once.{text_once}
use Rattle.dur_journal.specs.Kept.{other, generation_of, newest, live_in, KeepsBy, BrokenBy, IsBroken}
use Rattle.dur_journal.specs.Reading.{IsRead, history_of}
use Rattle.dur_journal.specs.Opening.{Agrees, IsFound, IsLoaded, Differs, PlanFault, LoadFault, front_by}
use Rattle.dur_journal.specs.declared.opening.OpenFault.{OpenFault}
use Rattle.dur_journal.specs.declared.opening.OpenFault.TheVariants as why
use Rattle.dur_journal.proofs.Lives.{fronts_of, newest_is_zero, newest_is_one}

pub found_none : (plan : Plan) (c : Image) (found : Found) (view : View) → IsFound c found → found.live ≡ None → view ≡ view_of (Start (blank_of plan))
    → IsLoaded plan c (record { file = Zero; front = found.zero; spare = found.one; view = view; generation = 0 })
found_none plan c found view is none is_blank =
    let live : live_in c ≡ Ok None = is.live ∙ ap (λ (l : Option (FileId × ℕ)). Ok l) none in
    record {
      l = None;
      history = Start (blank_of plan);
      appended = 0;
      live = live;
      file = refl;
      generation = refl;
      front = is.zero;
      spare = is.one;
      view = is_blank;
      agrees = λ file generation v rs h told text. (let no = sym live ∙ told in absurd (cc));
      keeps = subst (λ (r : Result (Option (FileId × ℕ)) (FileId × ℕ)). KeepsBy plan c r (record { generation = 0; history = Start (blank_of plan); appended = 0 })) (sym live) refl;
    }

found_at : (c : Image) (found : Found) (file : FileId) → IsFound c found → front_in (content file c) ≡ Ok (front_by file found)
found_at c found Zero is = is.zero
found_at c found One is = is.one

some_same : (x : Result (Option (FileId × ℕ)) (FileId × ℕ)) (a b : FileId × ℕ) → x ≡ Ok (Some a) → x ≡ Ok (Some b) → a ≡ b
some_same x a b is is_too = cc

-- the plan agrees with the live file's view
agrees_so : (plan : Plan) (c : Image) (live : FileId) (generation : ℕ) (read : FileHistory) → live_in c ≡ Ok (Some (live, generation)) → IsRead (content live c) generation read
    → Agreeing plan read.start → Agrees plan c
agrees_so plan c live generation read told text agreeing = λ file number view rs h is other.
    let pair : (live, generation) ≡ (file, number) = some_same (live_in c) (live, generation) (file, number) told is in
    let same_file : live ≡ file = ap (λ (p : FileId × ℕ). p.0) pair in
    let mine = subst (λ (f : FileId). FileText (content f c) generation read.start text.rs (history_of read)) same_file text.text in
    let same = text_once (content file c) generation number read.start view text.rs rs (history_of read) h mine other in
    subst (λ (v : View). Agreeing plan v) same.view agreeing

pub found_live : (plan : Plan) (c : Image) (found : Found) (live : FileId) (generation : ℕ) (read : FileHistory) (view : View) (front spare : Front)
    → IsFound c found → found.live ≡ Some (live, generation) → IsRead (content live c) generation read → Agreeing plan read.start → view ≡ view_of (completed plan (history_of read))
    → front ≡ front_by (other live) found → spare ≡ front_by (other (other live)) found
    → IsLoaded plan c (record { file = other live; front = front; spare = spare; view = view; generation = generation })
found_live plan c found live generation read view front spare is some text agreeing fitted front_is spare_is =
    let told : live_in c ≡ Ok (Some (live, generation)) = is.live ∙ ap (λ (l : Option (FileId × ℕ)). Ok l) some in
    record {
      l = Some (live, generation);
      history = completed plan (history_of read);
      appended = length (records_text text.rs);
      live = told;
      file = refl;
      generation = refl;
      front = found_at c found (other live) is ∙ ap (λ (f : Front). Ok f) (sym front_is);
      spare = found_at c found (other (other live)) is ∙ ap (λ (f : Front). Ok f) (sym spare_is);
      view = fitted;
      agrees = agrees_so plan c live generation read told text agreeing;
      keeps = subst (λ (r : Result (Option (FileId × ℕ)) (FileId × ℕ)). KeepsBy plan c r (record { generation = generation; history = completed plan (history_of read); appended = length (records_text text.rs) })) (sym told)
          (record { view = read.start; rs = text.rs; read = history_of read; text = text.text; history = refl; appended = refl });
    }

-- the live file is open with the live generation
pub live_open : (c : Image) (live : FileId) (generation : ℕ) → live_in c ≡ Ok (Some (live, generation)) → front_in (content live c) ≡ Ok (Open generation)
live_open c live generation is =
    let f = fronts_of (front_in c.zero) (front_in c.one) (Some (live, generation)) is in
    by_fronts live f.a f.b f.zero_is f.one_is f.told
  where
    by_fronts : (live : FileId) (a b : Front) → front_in c.zero ≡ Ok a → front_in c.one ≡ Ok b → newest (generation_of a) (generation_of b) ≡ Ok (Some (live, generation)) → front_in (content live c) ≡ Ok (Open generation)
    by_fronts Zero a b za ob told = za ∙ ap (λ (f : Front). Ok f) (newest_is_zero a b generation told)
    by_fronts One a b za ob told = ob ∙ ap (λ (f : Front). Ok f) (newest_is_one a b generation told)

pub differs_so : (plan : Plan) (c : Image) (live : FileId) (generation : ℕ) (read : FileHistory) (name : List ℕ) → live_in c ≡ Ok (Some (live, generation))
    → IsRead (content live c) generation read → Differing plan read.start name → Differs plan c name
differs_so plan c live generation read name is text differs = record {
  file = live;
  generation = generation;
  view = read.start;
  rs = text.rs;
  h = history_of read;
  live = is;
  text = text.text;
  differs = differs;
}

pub broken_live : (c : Image) (live : FileId) (generation : ℕ) (file : FileId) (at : ℕ) → live_in c ≡ Ok (Some (live, generation)) → file ≡ live → TextBreaks (content live c) at → IsBroken c file at
broken_live c live generation file at is same breaks = subst (λ (r : Result (Option (FileId × ℕ)) (FileId × ℕ)). BrokenBy c r file at) (sym is) (same, breaks)

pub broken_front : (c : Image) (file : FileId) (at : ℕ) → live_in c ≡ Err (file, at) → IsBroken c file at
broken_front c file at is = subst (λ (r : Result (Option (FileId × ℕ)) (FileId × ℕ)). BrokenBy c r file at) (sym is) (refl, refl)

pub other_other : (file : FileId) → other (other file) ≡ file
other_other Zero = refl
other_other One = refl

pub found_so : (plan : Plan) (c : Image) (found : Found) (live file again : FileId) (generation : ℕ) (read : FileHistory) (view : View) (front spare : Front)
    → IsFound c found → found.live ≡ Some (live, generation) → IsRead (content live c) generation read → Agreeing plan read.start → view ≡ view_of (completed plan (history_of read))
    → file ≡ other live → again ≡ other live → front ≡ front_by again found → spare ≡ front_by live found
    → IsLoaded plan c (record { file = file; front = front; spare = spare; view = view; generation = generation })
found_so plan c found live file again generation read view front spare is some text agreeing fitted file_is again_is front_is spare_is =
    subst (λ (f : FileId). IsLoaded plan c (record { file = f; front = front; spare = spare; view = view; generation = generation })) (sym file_is)
    (found_live plan c found live generation read view front spare is some text agreeing fitted
    (front_is ∙ ap (λ (f : FileId). front_by f found) again_is) (spare_is ∙ ap (λ (f : FileId). front_by f found) (sym (other_other live))))

pub found_open : (c : Image) (found : Found) (live : FileId) (generation : ℕ) → IsFound c found → found.live ≡ Some (live, generation) → front_in (content live c) ≡ Ok (Open generation)
found_open c found live generation is some = live_open c live generation (is.live ∙ ap (λ (l : Option (FileId × ℕ)). Ok l) some)

pub plan_fault : (plan : Plan) (c : Image) (found : Found) (live : FileId) (generation : ℕ) (read : FileHistory) (e : OpenFault) → IsFound c found → found.live ≡ Some (live, generation)
    → IsRead (content live c) generation read → PlanFault plan read.start e → LoadFault plan c e
plan_fault plan c found live generation read why.Disk is some text fault = absurd fault
plan_fault plan c found live generation read (why.NotAJournal file at) is some text fault = absurd fault
plan_fault plan c found live generation read (why.PlanDiffers name) is some text fault =
    differs_so plan c live generation read name (is.live ∙ ap (λ (l : Option (FileId × ℕ)). Ok l) some) text fault
plan_fault plan c found live generation read why.Worn is some text fault = absurd fault
plan_fault plan c found live generation read (why.Full n) is some text fault = absurd fault
plan_fault plan c found live generation read why.OutOfMemory is some text fault = tt
