-- A new file, and what its disk keeps.
use Rattle.std.proofs.Common.{◌≡◌, inl, inr, ℕ, ◌+◌, ◌≤◌, ◌<◌, ◌^◌, List, [], length, Option, Some, Result, Ok, Err, IfOk, IfErr, refl, sym, ◌∙◌, ap, subst, arith}
use Rattle.dur_outside.specs.declared.values.FileId.{FileId}
use Rattle.dur_outside.specs.declared.values.FileId.TheVariants.{Zero, One}
use Rattle.dur_outside.specs.World.{Image, World, Leaves, Changed, IsClean, content, put}
use Rattle.dur_outside.proofs.Runs.{content-put, joins, weaker}
use Rattle.dur_view.specs.declared.data.View.{View}
use Rattle.dur_qos.specs.declared.plan.Plan.{Plan}
use Rattle.dur_view.specs.History.{Start}
use Rattle.dur_record.specs.declared.version.Version.TheVariants.{Two}
use Rattle.dur_record.specs.WholeTexts.{view_text}
use Rattle.dur_journal.specs.Histories.{view_of, IsWhole}
use Rattle.dur_journal.specs.Texts.{version_of, view_in}
use Rattle.dur_journal.proofs.Wholes.{whole_same}
use Rattle.dur_journal.specs.declared.front.Front.{Front}
use Rattle.dur_journal.specs.declared.front.Front.TheVariants.{Open}
use Rattle.dur_journal.specs.declared.state.Journal.{Journal}
use Rattle.dur_journal.specs.declared.opening.Loaded.{Loaded}
use Rattle.dur_journal.specs.declared.opening.OpenFault.{OpenFault}
use Rattle.dur_journal.specs.declared.opening.OpenFault.TheVariants as why
use Rattle.dur_journal.specs.declared.journal.Next.{Next}
use Rattle.dur_journal.specs.File.{front_in, base_length, FileText}
use Rattle.dur_journal.specs.Steps.{gated, file_text, IsRewriting}
use Rattle.dur_journal.specs.Kept.{live_in, target, other, generation_at, Kept, FileKeeps, Keeps, IsOneOf, renewed}
use Rattle.dur_journal.specs.Opening.{IsLoaded, IsKeptView, LoadFault}
use Rattle.dur_journal.specs.Journals.{IsNext, IsPrepared, RenderFault, OpenAnswers, OpenLeaves, Opens, Stands}
use Rattle.dur_journal.proofs.Fields.{in_front, front_text, base_text, new_text, version_new}
use Rattle.dur_journal.proofs.Lives.{new_live, rewriting_keeps, written_put}

-- the text of a new file
pub record IsNew (plan : Plan) (text : List ℕ) (generation : ℕ) (view : View) : Type 0 where
  pub is : text ≡ file_text generation (view_text view)
  pub fits : generation < 2 ^ 32
  pub bound : length (view_text view) ≤ 2 ^ 30
  pub whole : IsWhole plan view
  pub again : view_in Two (view_text view) ≡ Ok view

pub new_front : (plan : Plan) (text : List ℕ) (g : ℕ) (view : View) → IsNew plan text g view → front_in (gated 1 text) ≡ Ok (Open g)
new_front plan text g view new = ap (λ (t : List ℕ). front_in (gated 1 t)) new.is ∙ front_text g (view_text view) new.fits new.bound

pub new_keeps : (plan : Plan) (text : List ℕ) (g : ℕ) (view : View) (k : Kept) → IsNew plan text g view → g ≡ k.generation + 1 → FileKeeps plan (gated 1 text) (renewed view k)
new_keeps plan text g view k new next = record {
  view = view;
  rs = [];
  read = Start view;
  text = subst (λ (n : ℕ). FileText (gated 1 text) n view [] (Start view)) next
      (subst (λ (t : List ℕ). FileText (gated 1 t) g view [] (Start view)) (sym new.is) (new_text g (view_text view) view new.fits new.bound new.again));
  history = whole_same plan (Start view) view refl new.whole;
  appended = refl;
}

-- a disk while the new file is written
pub new_leaves : (plan : Plan) (old c : Image) (k : Kept) (l : Option (FileId × ℕ)) (text : List ℕ) (g : ℕ) (view : View) (file : FileId) → IsNew plan text g view → g ≡ k.generation + 1
    → live_in old ≡ Ok l → k.generation ≡ generation_at l → file ≡ target l → Keeps plan old k
    → Changed file (IsRewriting (content file old) text) old c → IsOneOf plan old k (renewed view k) c
new_leaves plan old c k l text g view file new next live kept_generation file_is keeps change =
    rewriting_keeps plan old c k (renewed view k) l g text live
    (subst (λ (f : FileId). Changed f (IsRewriting (content f old) text) old c) file_is change)
    keeps (new_front plan text g view new) (omega (arith, next, kept_generation)) (new_keeps plan text g view k new next)

-- a journal over its disk once the new file is written
pub new_stands : {D : Type 0} (plan : Plan) (old : Image) (v : World) (journal : Journal D) (k : Kept) (l : Option (FileId × ℕ)) (text : List ℕ) (view : View)
    → IsNew plan text journal.generation view → journal.generation ≡ k.generation + 1 → live_in old ≡ Ok l → k.generation ≡ generation_at l → journal.live ≡ target l
    → front_in (content (other journal.live) old) ≡ Ok journal.spare → journal.base ≡ length (view_text view) → journal.appended ≡ 0
    → v.now ≡ put journal.live (gated 1 text) old → IsClean v → Stands plan (renewed view k) journal v
new_stands plan old v journal k l text view new next live kept_generation file_is spare base appended done clean =
    let file = journal.live in
    let here : content file v.now ≡ gated 1 text = ap (content file) done ∙ content-put file (gated 1 text) old in
    let rest : v.now ≡ put file (content file v.now) old = done ∙ ap (λ (x : List ℕ). put file x old) (sym here) in
    let front = new_front plan text journal.generation view new in
    let f = in_front journal.generation (view_text view) in
    let less : generation_at l < journal.generation = omega (arith, next, kept_generation) in
    record {
      clean = clean;
      live = new_live file old v.now l journal.generation live (sym file_is) rest (ap front_in here ∙ front) less ∙ ap (λ (n : ℕ). Ok (Some (file, n))) next;
      spare = ap (λ (d : Image). front_in (content (other file) d)) done ∙ ap front_in (other_kept file (gated 1 text) old) ∙ spare;
      generation = next;
      view = view;
      rs = [];
      front = f.front;
      base = view_text view;
      parts = here ∙ ap (gated 1) new.is ∙ f.parts;
      header = f.header;
      sized = ap base_length here ∙ ap (λ (t : List ℕ). base_length (gated 1 t)) new.is ∙ base_text journal.generation (view_text view) new.bound;
      version = ap version_of here ∙ ap (λ (t : List ℕ). version_of (gated 1 t)) new.is ∙ version_new journal.generation (view_text view);
      spells = new.again;
      tells = refl;
      whole = new.whole;
      counted = base;
      records = refl;
      appended = appended;
    }
  where
    other_kept : (file : FileId) (x : List ℕ) (c : Image) → content (other file) (put file x c) ≡ content (other file) c
    other_kept Zero x c = refl
    other_kept One x c = refl

-- what was read, and its new file
pub prepared_so : (plan : Plan) (c : Image) (loaded : Loaded) (next : Next) → IsLoaded plan c loaded → IsKeptView plan loaded.view → IsNext loaded next → IsPrepared plan c next
prepared_so plan c loaded next read kept is = record {
  k = record { generation = loaded.generation; history = read.history; appended = read.appended };
  l = read.l;
  keeps = read.keeps;
  agrees = read.agrees;
  live = read.live;
  kept_generation = read.generation;
  file = is.file ∙ read.file;
  front = ap (λ (f : FileId). front_in (content f c)) is.file ∙ read.front ∙ ap (λ (f : Front). Ok f) (sym is.front);
  spare = ap (λ (f : FileId). front_in (content (other f) c)) is.file ∙ read.spare ∙ ap (λ (f : Front). Ok f) (sym is.spare);
  view = is.view ∙ read.view;
  whole = subst (λ (v : View). IsWhole plan v) (sym is.view) kept.whole;
  generation = is.generation;
  text = is.text;
  again = is.again;
  fits = is.fits;
  base = is.base;
  bound = is.bound;
}

pub prepared_new : (plan : Plan) (c : Image) (next : Next) → IsPrepared plan c next → IsNew plan next.new.text.items next.generation next.view
prepared_new plan c next is = record {
  is = is.text;
  fits = is.fits;
  bound = omega (arith, is.bound, is.base);
  whole = is.whole;
  again = is.again;
}

pub render_answers : (plan : Plan) (c : Image) (loaded : Loaded) (e : OpenFault) → IsLoaded plan c loaded → RenderFault loaded.generation loaded.view e → OpenAnswers plan c e
render_answers plan c loaded why.Disk read fault = absurd fault
render_answers plan c loaded (why.NotAJournal file at) read fault = absurd fault
render_answers plan c loaded (why.PlanDiffers name) read fault = absurd fault
render_answers plan c loaded why.Worn read fault = record { k = record { generation = loaded.generation; history = read.history; appended = read.appended }; keeps = read.keeps; agrees = read.agrees; last = fault }
render_answers plan c loaded (why.Full n) read fault = record { k = record { generation = loaded.generation; history = read.history; appended = read.appended }; keeps = read.keeps; agrees = read.agrees; not_last = fault.0; counts = fault.1 ∙ ap (λ (v : View). length (view_text v)) read.view; above = fault.2 }
render_answers plan c loaded why.OutOfMemory read fault = tt

pub load_answers : (plan : Plan) (c : Image) (e : OpenFault) → LoadFault plan c e → OpenAnswers plan c e
load_answers plan c why.Disk fault = tt
load_answers plan c (why.NotAJournal file at) fault = fault
load_answers plan c (why.PlanDiffers name) fault = fault
load_answers plan c why.Worn fault = absurd fault
load_answers plan c (why.Full n) fault = absurd fault
load_answers plan c why.OutOfMemory fault = tt

pub prepared_if : (plan : Plan) (c d : Image) (loaded : Loaded) (r : Result Next OpenFault) → d ≡ c → IsLoaded plan d loaded → IsKeptView plan loaded.view → IfOk r (IsNext loaded) → IfOk r (IsPrepared plan c)
prepared_if plan c d loaded (Ok next) same read kept is = subst (λ (i : Image). IsPrepared plan i next) same (prepared_so plan d loaded next read kept is)
prepared_if plan c d loaded (Err e) same read kept is = tt

pub open_runs : (plan : Plan) (w u v : World) (next : Next) (text : List ℕ) → text ≡ next.new.text.items → u.now ≡ w.now → IsPrepared plan w.now next → Leaves w u w.may
    → Leaves u v (Changed next.file (IsRewriting (content next.file u.now) text) u.now) → Leaves w v (OpenLeaves plan w)
open_runs plan w u v next text text_is same is first second =
    let P = OpenLeaves plan w in
    let new = prepared_new plan w.now next is in
    joins w u v P (weaker w u w.may P first (λ c may. inl may))
    (weaker u v _ P second (λ c change. inr (
      is.k,
      is.keeps,
      (let one = new_leaves plan w.now c is.k is.l next.new.text.items next.generation next.view next.file new is.generation is.live is.kept_generation is.file is.keeps
          (subst (λ (t : List ℕ). Changed next.file (IsRewriting (content next.file w.now) t) w.now c) text_is
          (subst (λ (i : Image). Changed next.file (IsRewriting (content next.file i) text) i c) same change)) in
          subst (λ (view : View). IsOneOf plan w.now is.k (renewed view is.k) c) is.view one),
    )))

pub opened_so : {D : Type 0} (plan : Plan) (w : World) (old : Image) (v : World) (next : Next) (journal : Journal D) (text : List ℕ) → text ≡ next.new.text.items → old ≡ w.now → IsPrepared plan w.now next
    → v.now ≡ put next.file (gated 1 text) old → IsClean v
    → journal.live ≡ next.file → journal.spare ≡ next.spare → journal.generation ≡ next.generation → journal.base ≡ next.new.base → journal.appended ≡ 0
    → Opens plan w.now (record { journal = journal; view = next.view; epoch = next.generation }) v
opened_so plan w old v next journal text text_is same is done clean live spare generation base appended =
    let new = prepared_new plan w.now next is in
    let done_now : v.now ≡ put journal.live (gated 1 next.new.text.items) w.now = done ∙ ap (λ (t : List ℕ). put next.file (gated 1 t) old) text_is ∙ ap (put next.file (gated 1 next.new.text.items)) same ∙ ap (λ (f : FileId). put f (gated 1 next.new.text.items) w.now) (sym live) in
    record {
      k = is.k;
      keeps = is.keeps;
      agrees = is.agrees;
      view = is.view;
      epoch = is.generation;
      stands = new_stands plan w.now v journal is.k is.l next.new.text.items next.view
          (subst (λ (n : ℕ). IsNew plan next.new.text.items n next.view) (sym generation) new) (generation ∙ is.generation) is.live is.kept_generation (live ∙ is.file)
          (ap (λ (f : FileId). front_in (content (other f) w.now)) live ∙ is.spare ∙ ap (λ (f : Front). Ok f) (sym spare)) (base ∙ is.base) appended done_now clean;
      out = ap (λ (i : Image). i.written) done_now ∙ written_put journal.live (gated 1 next.new.text.items) w.now;
    }

pub answers_if : (plan : Plan) (c d : Image) (loaded : Loaded) (r : Result Next OpenFault) → d ≡ c → IsLoaded plan d loaded → IfErr r (RenderFault loaded.generation loaded.view) → IfErr r (OpenAnswers plan c)
answers_if plan c d loaded (Ok next) same read fault = tt
answers_if plan c d loaded (Err e) same read fault = render_answers plan c loaded e (subst (λ (i : Image). IsLoaded plan i loaded) same read) fault
