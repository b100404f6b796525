-- What both files keep, from what each is by itself.
use Rattle.std.proofs.Common.{◌≡◌, ℕ, ◌==◌, Bool, true, false, not, List, [], length, Option, Some, None, Result, Ok, Err, refl, sym, ap, subst, ◌∙◌, append-nil, inl, inr}
use Rattle.std.specs.Prelude.{if◌then◌else◌, nat_lt}
use Rattle.dur_outside.specs.declared.values.FileId.{FileId}
use Rattle.dur_outside.specs.declared.values.FileId.TheVariants.{Zero, One}
use Rattle.dur_outside.specs.World.{Image, content}
use Rattle.dur_qos.specs.declared.plan.Topic.{Topic}
use Rattle.dur_view.specs.declared.data.KeptWriter.{KeptWriter}
use Rattle.dur_view.specs.declared.data.View.{View}
use Rattle.dur_view.specs.History.{History, Start, ◌▸◌}
use Rattle.dur_view.specs.Full.{full, filled}
use Rattle.dur_view.specs.Persistent.{persistent_plan}
use Rattle.dur_journal.specs.Histories.{view_of, completed, blank_of}
use Rattle.dur_journal.specs.declared.front.Front.{Front}
use Rattle.dur_journal.specs.declared.front.Front.TheVariants as front
use Rattle.dur_journal.specs.File.{front_in, records_text}
use Rattle.dur_journal.specs.Kept.{generation_of, newest, live_of, live_in, Kept, KeepsBy}
use Rattle.dur_journal.specs.Looks.{IsOpenFile, IsBrokenFile, LooksLike}
use Rattle.dur_journal.specs.declared.seen.Look.{Look}
use Rattle.dur_journal.specs.declared.seen.Look.TheVariants.{Blank, Closed, Open, Broken}
use Rattle.dur_journal.proofs.Lives.{kept_new}
use Rattle.dur_journal.proofs.Once.{text_once, never_both, break_once, keeps_once}
use Rattle.dur_rerun.specs.declared.check.looks.Looks.{Looks}
use Rattle.dur_rerun.specs.Check.Line.{kept_text, live_text}
use Rattle.dur_rerun.specs.Check.Looks.{AreLooks, break_of, first_of, open_generation, are_equal, unless_broken, live_unless, prints_changes, no_plan, KeepsChanges, PrintsChanges, live_file, view_at, live_view}

-- ---- a plan that declares nothing adds nothing

full_none : (v : View) → full (persistent_plan no_plan) v ≡ v
full_none v = same_view v.last _ _ _ _ (append-nil v.topics) (append-nil v.writers)
  where
    same_view : (last : ℕ) (t u : List Topic) (w x : List KeptWriter) → t ≡ u → w ≡ x
        → let a : View = record { last = last; topics = t; writers = w; instances = v.instances; kept = v.kept } in
        let b : View = record { last = last; topics = u; writers = x; instances = v.instances; kept = v.kept } in
        a ≡ b
    same_view last t u w x p q = cc

filled_none : (h : History) → filled (persistent_plan no_plan) h ≡ h
filled_none (Start v) = ap Start (full_none v)
filled_none (h ▸ e) = ap (λ (g : History). g ▸ e) (filled_none h)

completed_none : (h : History) → completed no_plan h ≡ h
unfolding completed
completed_none h = filled_none h

-- ---- what is kept

live_is : (files : Image) (f g : Front) → front_in files.zero ≡ Ok f → front_in files.one ≡ Ok g → live_in files ≡ newest (generation_of f) (generation_of g)
live_is files f g p q = ap (λ (x : Result Front ℕ). live_of x (front_in files.one)) p ∙ ap (λ (x : Result Front ℕ). live_of (Ok f) x) q

nothing_text : kept_text (view_of (Start (blank_of no_plan))) ≡ []
unfolding view_of blank_of
nothing_text = refl

-- no file is open
keeps_nothing : (files : Image) → live_in files ≡ Ok None → KeepsChanges files []
keeps_nothing files live =
    let k : Kept = record { generation = 0; history = Start (blank_of no_plan); appended = 0 } in
    record {
      kept = k;
      keeps = subst (λ (l : Result (Option (FileId × ℕ)) (FileId × ℕ)). KeepsBy no_plan files l k) (sym live) refl;
      text_is = sym nothing_text;
    }

-- that file is live
keeps_file : (files : Image) (file : FileId) (g n : ℕ) (v : View) → live_in files ≡ Ok (Some (file, g)) → IsOpenFile (content file files) g n v → KeepsChanges files (kept_text v)
keeps_file files file g n v live o =
    let k : Kept = record { generation = g; history = o.h; appended = length (records_text o.rs) } in
    record {
      kept = k;
      keeps = kept_new no_plan files k file g live (record { view = o.start; rs = o.rs; read = o.h; text = o.text; history = sym (completed_none o.h); appended = refl });
      text_is = ap kept_text o.ends;
    }

-- both are open
keeps_newest : (files : Image) (a n b m : ℕ) (v u : View) → IsOpenFile files.zero a n v → IsOpenFile files.one b m u
    → PrintsChanges files (not (a == b)) (live_text (view_at (Open a n v) (Open b m u) (live_file (Some a) (Some b))))
keeps_newest files a n b m v u x y = equal (a == b) refl where
  live : live_in files ≡ newest (Some a) (Some b)
  live = live_is files (front.Open a) (front.Open b) x.text.opens y.text.opens

  greater : (l : Bool) → nat_lt a b ≡ l → (a == b) ≡ false → KeepsChanges files (live_text (view_at (Open a n v) (Open b m u) (if nat_lt a b then Some One else Some Zero)))
  greater true less other = rw less (keeps_file files One b m u (live ∙ rw (other, less) refl) y)
  greater false less other = rw less (keeps_file files Zero a n v (live ∙ rw (other, less) refl) x)

  equal : (e : Bool) → (a == b) ≡ e → PrintsChanges files (not (a == b)) (live_text (view_at (Open a n v) (Open b m u) (live_file (Some a) (Some b))))
  equal true same = rw same refl
  equal false other = rw other (greater (nat_lt a b) refl other)

-- whether changes are printed, and the view whose changes they are
abbrev printed : Look → Look → Bool
printed zero one = unless_broken (first_of (break_of zero) (break_of one)) (not (are_equal (open_generation zero) (open_generation one)))

abbrev shown : Look → Look → Option View
shown zero one = live_unless (first_of (break_of zero) (break_of one)) (view_at zero one (live_file (open_generation zero) (open_generation one)))

prints : (files : Image) (zero one : Look) → LooksLike files.zero zero → LooksLike files.one one → PrintsChanges files (printed zero one) (live_text (shown zero one))
prints files (Broken at) one x y = refl
prints files Blank (Broken at) x y = refl
prints files Closed (Broken at) x y = refl
prints files (Open a n v) (Broken at) x y = refl
prints files Blank Blank x y = keeps_nothing files (live_is files front.Blank front.Blank x y)
prints files Blank Closed x y = keeps_nothing files (live_is files front.Blank front.Closed x y)
prints files Closed Blank x y = keeps_nothing files (live_is files front.Closed front.Blank x y)
prints files Closed Closed x y = keeps_nothing files (live_is files front.Closed front.Closed x y)
prints files Blank (Open b m u) x y = keeps_file files One b m u (live_is files front.Blank (front.Open b) x y.text.opens) y
prints files Closed (Open b m u) x y = keeps_file files One b m u (live_is files front.Closed (front.Open b) x y.text.opens) y
prints files (Open a n v) Blank x y = keeps_file files Zero a n v (live_is files (front.Open a) front.Blank x.text.opens y) x
prints files (Open a n v) Closed x y = keeps_file files Zero a n v (live_is files (front.Open a) front.Closed x.text.opens y) x
prints files (Open a n v) (Open b m u) x y = keeps_newest files a n b m v u x y

-- the changes of the view that was chosen are those that the files keep
pub prints_live : (files : Image) (l : Looks) → AreLooks files l → PrintsChanges files (prints_changes l) (live_text (live_view l))
prints_live files l are = prints files l.zero l.one are.zero are.one

-- ---- a file is one thing

err_same : (x : Result Front ℕ) (a b : ℕ) → x ≡ Err a → x ≡ Err b → a ≡ b
err_same x a b is is_too = cc

ok_same : (x : Result Front ℕ) (f g : Front) → x ≡ Ok f → x ≡ Ok g → f ≡ g
ok_same x f g is is_too = cc

err_or_ok : (x : Result Front ℕ) (at : ℕ) (f : Front) → x ≡ Err at → x ≡ Ok f → ⊥
err_or_ok x at f is is_too = absurd cc

open_once : (x : List ℕ) (a n b m : ℕ) (v u : View) → IsOpenFile x a n v → IsOpenFile x b m u → Open a n v ≡ Open b m u
open_once x a n b m v u p q =
    let same = text_once x a b p.start q.start p.rs q.rs p.h q.h p.text q.text in
    let counts : n ≡ m = p.counts ∙ ap length same.records ∙ sym q.counts in
    let views : v ≡ u = p.ends ∙ ap view_of same.history ∙ sym q.ends in
    let generations : a ≡ b = same.generation in
    cc

broken_once : (x : List ℕ) (at place : ℕ) → IsBrokenFile x at → IsBrokenFile x place → at ≡ place
broken_once x at place p q = elim p [
  | inl a ↦ elim q [
    | inl b ↦ (err_same (front_in x) at place a b)
    | inr b ↦ absurd (err_or_ok (front_in x) at (front.Open b.0) a b.1)
  ]
  | inr a ↦ elim q [
    | inl b ↦ absurd (err_or_ok (front_in x) place (front.Open a.0) b a.1)
    | inr b ↦ break_once x at place a.2 b.2
  ]
]

open_or_broken : (x : List ℕ) (a n : ℕ) (v : View) (at : ℕ) → IsOpenFile x a n v → IsBrokenFile x at → ⊥
open_or_broken x a n v at p q = elim q [
  | inl b ↦ err_or_ok (front_in x) at (front.Open a) b p.text.opens
  | inr b ↦ never_both x a p.start p.rs p.h at p.text b.2
]

front_or_broken : (x : List ℕ) (f : Front) (at : ℕ) → front_in x ≡ Ok f → ((g : ℕ) → f ≡ front.Open g → ⊥) → IsBrokenFile x at → ⊥
front_or_broken x f at p quiet q = elim q [
  | inl b ↦ err_or_ok (front_in x) at f b p
  | inr b ↦ quiet b.0 (ok_same (front_in x) f (front.Open b.0) p b.1)
]

look_once : (x : List ℕ) (a b : Look) → LooksLike x a → LooksLike x b → a ≡ b
look_once x Blank Blank p q = refl
look_once x Blank Closed p q = absurd (let both = sym p ∙ q in cc)
look_once x Blank (Open b m u) p q = absurd (let both = sym p ∙ q.text.opens in cc)
look_once x Blank (Broken at) p q = absurd (front_or_broken x front.Blank at p (λ g is. cc) q)
look_once x Closed Blank p q = absurd (let both = sym p ∙ q in cc)
look_once x Closed Closed p q = refl
look_once x Closed (Open b m u) p q = absurd (let both = sym p ∙ q.text.opens in cc)
look_once x Closed (Broken at) p q = absurd (front_or_broken x front.Closed at p (λ g is. cc) q)
look_once x (Open a n v) Blank p q = absurd (let both = sym q ∙ p.text.opens in cc)
look_once x (Open a n v) Closed p q = absurd (let both = sym q ∙ p.text.opens in cc)
look_once x (Open a n v) (Open b m u) p q = open_once x a n b m v u p q
look_once x (Open a n v) (Broken at) p q = absurd (open_or_broken x a n v at p q)
look_once x (Broken at) Blank p q = absurd (front_or_broken x front.Blank at q (λ g is. cc) p)
look_once x (Broken at) Closed p q = absurd (front_or_broken x front.Closed at q (λ g is. cc) p)
look_once x (Broken at) (Open b m u) p q = absurd (open_or_broken x b m u at q p)
look_once x (Broken at) (Broken place) p q = ap Broken (broken_once x at place p q)

pub looks_once : (files : Image) (a b : Looks) → AreLooks files a → AreLooks files b → a ≡ b
looks_once files a b p q =
    same_looks a.zero b.zero a.one b.one (look_once files.zero a.zero b.zero p.zero q.zero) (look_once files.one a.one b.one p.one q.one)
  where
    same_looks : (z w o r : Look) → z ≡ w → o ≡ r
        → let x : Looks = record { zero = z; one = o } in
        let y : Looks = record { zero = w; one = r } in
        x ≡ y
    same_looks z w o r zeros ones = cc

-- the files keep one thing
pub changes_once : (files : Image) (printed : Bool) (t u : List ℕ) → PrintsChanges files printed t → PrintsChanges files printed u → t ≡ u
changes_once files true t u x y = x.text_is ∙ ap (λ (k : Kept). kept_text (view_of k.history)) (keeps_once no_plan files x.kept y.kept x.keeps y.keeps) ∙ sym y.text_is
changes_once files false t u x y = x ∙ sym y
