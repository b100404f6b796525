-- A late reader passes numbers and handles samples.
use Rattle.std.proofs.Common.{suc, zero, ◌≡◌, ℕ, ◌+◌, ◌<◌, ◌≤◌, Bool, true, false, refl, ap, sym, subst, ◌∙◌, arith, cond, List, ◌++◌, [], ◌∷◌}
use Rattle.std.specs.Prelude.{Some, nat_lt, if◌then◌else◌, ◌-◌, ◌==◌, ◌&&◌, not}
use Rattle.rel_writer.specs.declared.taken.Taken.{Taken}
use Rattle.std.proofs.lemmas.Bool.{le-ltb}
use Rattle.dur_base.specs.declared.sample.Sample.{Sample}
use Rattle.rel_reader.specs.declared.known.Known.{Known}
use Rattle.rel_reader.specs.declared.known.Known.TheVariants.{Unknown, Irrelevant, With}
use Rattle.rel_reader.specs.Knowledge.{is_unknown, is_irrelevant, is_with, or_else}
use Rattle.rel_reader.specs.Places.{place_at}
use Rattle.rel_reader.specs.Windows.{Window, Shows, Fits, HasSample, known_in, below_floor}
use Rattle.rel_reader.specs.Stories.{Story, ◌▸◌, Handled, next}
use Rattle.rel_reader.specs.KnownNumbers.{known}
use Rattle.rel_reader.specs.Skips.{IsSkip}
use Rattle.rel_writer.specs.declared.late.LateReader.{LateReader}
use Rattle.rel_writer.specs.LateReaders.{Late, drain, handle, with_story}
use Rattle.rel_writer.specs.Standing.{Holds, Stands}
use Rattle.rel_writer.specs.Handling.{Passes}

-- ---- a sample is taken

with_of : (x : Known) → is_with x ≡ true → (s : Sample) × (x ≡ With s)
with_of Unknown h = cc
with_of Irrelevant h = cc
with_of (With s) h = (s, refl)

-- the sample that is ready
pub is_there : (w : Window) (h : Story) → HasSample w → Fits w h
    → (s : Sample) × (known h (next h) ≡ With s)
is_there w h has fit =
    with_of (known h (next h))
    (ap is_with (sym (fit.each (next h) (omega arith)) ∙ ap (known_in w) (sym fit.next)) ∙ has)

pub took_stands : (r q : LateReader) (l : Late) (s t : Sample) → Stands r l
    → known l.story (next l.story) ≡ With s → Some t ≡ Some s
    → Fits q.proxy (l.story ▸ Handled (next l.story + 1))
    → q.reader ≡ r.reader → q.service ≡ r.service → q.writer ≡ r.writer → q.kept ≡ r.kept
    → q.last ≡ r.last → q.nacks ≡ r.nacks
    → ((xs : List Sample) → Holds r.taken xs → Holds q.taken (xs ++ t ∷ []))
    → Stands q (handle l (known l.story (next l.story)))
took_stands r q l s t st there e fits reader service writer kept last nacks held =
    let same : t ≡ s = cc in
    subst (λ (x : Known). Stands q (handle l x)) (sym there) (record {
      reader = reader ∙ st.reader;
      service = service ∙ st.service;
      writer = writer ∙ st.writer;
      kept = kept ∙ st.kept;
      fits = fits;
      taken = subst (λ (y : Sample). Holds q.taken (l.handled ++ y ∷ [])) same
          (held l.handled st.taken);
      last = last ∙ st.last;
      nacks = nacks ∙ st.nacks;
    })

-- ---- draining

pub drain_join : (a b : ℕ) (l : Late) → drain b (drain a l) ≡ drain (a + b) l
drain_join zero b l = let e : b ≡ 0 + b = omega arith in ap (λ n. drain n l) e
drain_join (suc a) b l =
    let e : suc (a + b) ≡ suc a + b = omega arith in
    drain_join a b (handle l (known l.story (next l.story))) ∙ ap (λ n. drain n l) e

known_handle : (l : Late) (x : Known) (k : ℕ) → known (handle l x).story k ≡ known l.story k
known_handle l Unknown k = refl
known_handle l Irrelevant k = refl
known_handle l (With s) k = refl

-- what is known stays as it is
pub known_drain : (times : ℕ) (l : Late) (k : ℕ) → known (drain times l).story k ≡ known l.story k
known_drain zero l k = refl
known_drain (suc times) l k = known_drain times (handle l (known l.story (next l.story))) k
    ∙ known_handle l (known l.story (next l.story)) k

next_handle : (l : Late) (x : Known) → next l.story ≤ next (handle l x).story
next_handle l Unknown = omega arith
next_handle l Irrelevant = omega arith
next_handle l (With s) = omega arith

pub next_drain : (times : ℕ) (l : Late) → next l.story ≤ next (drain times l).story
next_drain zero l = omega arith
next_drain (suc times) l =
    omega (
      arith,
      next_handle l (known l.story (next l.story)),
      next_drain times
          (handle l (known l.story (next l.story))),
    )

-- ---- passing

-- all but the story of a late reader, whose window has the next number `to`
record Stays (q : LateReader) (l : Late) (to : ℕ) : Type 0 where
  reader : q.reader ≡ l.reader
  service : q.service ≡ l.service
  writer : q.writer ≡ l.writer
  kept : q.kept ≡ l.kept
  shows : Shows q.proxy to (known l.story)
  taken : Holds q.taken l.handled
  last : q.last ≡ l.last
  nacks : q.nacks ≡ l.nacks

skip_stands : (n : ℕ) (q : LateReader) (l : Late) (to : ℕ) → next l.story + n ≡ to
    → ((k : ℕ) → next l.story ≤ k → k < to → known l.story k ≡ Irrelevant) → Stays q l to
    → Stands q (drain n l)
skip_stands zero q l to e each s =
    let here : to ≡ next l.story = omega (arith, e) in
    record {
      reader = s.reader;
      service = s.service;
      writer = s.writer;
      kept = s.kept;
      fits = subst (λ (t : ℕ). Shows q.proxy t (known l.story)) here s.shows;
      taken = s.taken;
      last = s.last;
      nacks = s.nacks;
    }
skip_stands (suc n) q l to e each s =
    let one : known l.story (next l.story) ≡ Irrelevant =
    each (next l.story) (omega arith) (omega (arith, e)) in
    subst (λ (x : Known). Stands q (drain n (handle l x))) (sym one)
    (skip_stands n q (with_story l (l.story ▸ Handled (next l.story + 1))) to (omega (arith, e))
    (λ k low high. each k (omega (arith, low)) high)
    (record {
      reader = s.reader;
      service = s.service;
      writer = s.writer;
      kept = s.kept;
      shows =
          s.shows;
      taken = s.taken;
      last = s.last;
      nacks = s.nacks;
    }))

not_irrelevant : (x : Known) → (x ≡ Irrelevant → ⊥) → is_irrelevant x ≡ false
not_irrelevant Unknown h = refl
not_irrelevant Irrelevant h = absurd (h refl)
not_irrelevant (With s) h = refl

pub skipped : (r q : LateReader) (l : Late) (to : ℕ) → Stands r l → IsSkip l.story to
    → Fits q.proxy (l.story ▸ Handled to) → q.reader ≡ r.reader → q.service ≡ r.service
    → q.writer ≡ r.writer → q.kept ≡ r.kept → q.last ≡ r.last → q.nacks ≡ r.nacks
    → q.taken ≡ r.taken → Passes q l
skipped r q l to st skip fits reader service writer kept last nacks taken =
    let n : ℕ = to - next l.story in
    let stays : Stays q l to = record {
      reader = reader ∙ st.reader;
      service = service ∙ st.service;
      writer = writer ∙ st.writer;
      kept = kept ∙ st.kept;
      shows = fits;
      taken = subst (λ (t : Taken). Holds t l.handled) (sym taken) st.taken;
      last = last ∙ st.last;
      nacks = nacks ∙ st.nacks;
    } in
    let there : Stands q (drain n l) =
    skip_stands n q l to (omega (arith, skip.some)) skip.each stays in
    let at : next (drain n l).story ≡ to = sym there.fits.next ∙ fits.next in
    record {
      times = n;
      stands = there;
      passed = not_irrelevant (known (drain n l).story (next (drain n l).story))
          (λ h. skip.ends (sym (known_drain n l to) ∙ ap (known (drain n l).story) (sym at) ∙ h));
    }

-- ---- when nothing is left

pub unknown_left : (x : Known) → is_irrelevant x ≡ false → is_with x ≡ false → is_unknown x ≡ true
unknown_left Unknown a b = refl
unknown_left Irrelevant a b = cc
unknown_left (With s) a b = cc

never_with : (b : Bool) → is_with (if b then Irrelevant else Unknown) ≡ false
never_with true = refl
never_with false = refl

-- no sample lies beyond the window
pub near_only : (w : Window) (h : Story) → Fits w h → (k : ℕ) → next h + 256 ≤ k
    → is_with (known h k) ≡ false
near_only w h fit k far =
    let beyond : nat_lt k (w.next + 256) ≡ false =
    le-ltb k (w.next + 256) (omega (arith, fit.next, far)) in
    ap is_with (sym (fit.each k (omega (arith, far))))
    ∙ ap (λ b. is_with (or_else (cond b (place_at w.places k) Unknown) (below_floor w k))) beyond
    ∙ below
  where
    below : is_with (below_floor w k) ≡ false
    below = never_with (nat_lt k w.floor && not (w.refused && (k == w.next)))
