-- A late reader reads on in the replay that it keeps to.
use Rattle.std.proofs.Common.{suc, zero, ◌≡◌, ℕ, ◌+◌, ◌≤◌, Bool, true, false, cond, List, [], ◌∷◌, ◌++◌, refl, ap, sym, subst, ◌∙◌, arith, inl, inr}
use Rattle.std.specs.Prelude.{Option, Some, None, slice_get, ◌==◌, ◌&&◌, nat_lt}
use Rattle.std.proofs.lemmas.Bool.{cases_Bool, eqb-true, ltb-true, and_parts}
use Rattle.dur_base.specs.declared.fact.Fact.{Fact}
use Rattle.dur_base.specs.declared.fact.Fact.TheVariants as facts
use Rattle.dur_base.specs.declared.sample.Sample.{Sample}
use Rattle.rel_reader.specs.declared.known.Known.{Known}
use Rattle.rel_reader.specs.declared.known.Known.TheVariants.{Unknown, Irrelevant, With}
use Rattle.rel_reader.specs.Knowledge.{or_else}
use Rattle.rel_reader.specs.Stories.{Story, ◌▸◌, Data, next}
use Rattle.rel_reader.specs.KnownNumbers.{known, is_near, says_data, says_beat}
use Rattle.rel_writer.specs.LateReaders.{Late, is_from, keeps, read_of, with_story, with_kept, beat_told, told, handle, drain, LateHears}
use Rattle.rel_writer.proofs.Fronts.{take_step}
use Rattle.rel_writer.proofs.WorldParts.{KnownIn, Reads}

-- ---- the late reader reads on

known_or : (xs : List Sample) (k : ℕ) (x y : Known) → KnownIn xs k x → KnownIn xs k y
    → KnownIn xs k (or_else x y)
known_or xs k Unknown y a b = b
known_or xs k Irrelevant y a b = a
known_or xs k (With s) y a b = a

said_in : (xs : List Sample) (n k i : ℕ) (s : Sample) (j : ℕ) → k ≡ j + 1
    → slice_get xs j ≡ Some s → KnownIn xs i (says_data n k (Some s) i)
said_in xs n k i s j e g = elim (cases_Bool ((i == k) && is_near n i)) [
  | inl it ↦
      let same : i ≡ k = eqb-true i k (and_parts _ _ it).0 in
      subst (λ (b : Bool). KnownIn xs i (cond b (With s) Unknown)) (sym it) (j, same ∙ e, g)
  | inr other ↦ subst (λ (b : Bool). KnownIn xs i (cond b (With s) Unknown)) (sym other) tt
]

pub reads_data : (l : Late) (xs : List Sample) (k : ℕ) (r : Option Sample) (s : Sample) (j : ℕ)
    → r ≡ Some s → k ≡ j + 1 → slice_get xs j ≡ Some s → Reads l xs
    → Reads (with_story l (l.story ▸ Data k r)) xs
reads_data l xs k r s j is e g h = record {
  at = h.at;
  next_is = h.next_is;
  knows = λ i low. known_or xs i (known l.story i) (says_data (next l.story) k r i)
      (h.knows i low)
      (subst (λ (o : Option Sample). KnownIn xs i (says_data (next l.story) k o i)) (sym is)
      (said_in xs (next l.story) k i s j e g));
  handled_is = h.handled_is;
}

beat_in : (xs : List Sample) (first i : ℕ) → first ≡ 1 → 1 ≤ i → KnownIn xs i (says_beat first i)
beat_in xs first i one low = elim (cases_Bool (nat_lt i first)) [
  | inl it ↦ absurd (omega (arith, ltb-true i first it, one))
  | inr other ↦ subst (λ (b : Bool). KnownIn xs i (cond b Irrelevant Unknown)) (sym other) tt
]

pub reads_beat : (l : Late) (xs : List Sample) (b : Bool) (first last : ℕ) → first ≡ 1 → Reads l xs
    → Reads (beat_told l b first last) xs
reads_beat l xs false first last one h = h
reads_beat l xs true first last one h = record {
  at = h.at;
  next_is = h.next_is;
  knows = λ i low. known_or xs i (known l.story i) (says_beat first i) (h.knows i low)
      (beat_in xs first i one low);
  handled_is = h.handled_is;
}

reads_handle : (l : Late) (xs : List Sample) (x : Known) → known l.story (next l.story) ≡ x
    → Reads l xs → Reads (handle l x) xs
reads_handle l xs Unknown e r = r
reads_handle l xs Irrelevant e r =
    absurd (subst (KnownIn xs (next l.story)) e
    (r.knows (next l.story) (omega (arith, r.next_is))))
reads_handle l xs (With s) e r =
    let here : KnownIn xs (next l.story) (With s) =
    subst (KnownIn xs (next l.story)) e (r.knows (next l.story) (omega (arith, r.next_is))) in
    let at_is : here.0 ≡ r.at = omega (arith, r.next_is, here.1) in
    let get : slice_get xs r.at ≡ Some s = ap (slice_get xs) (sym at_is) ∙ here.2 in
    record {
      at = r.at + 1;
      next_is = ap (λ n. n + 1) r.next_is;
      knows = r.knows;
      handled_is = ap (λ t. t ++ s ∷ []) r.handled_is ∙ sym (take_step xs r.at s get);
    }

pub reads_drain : (times : ℕ) (l : Late) (xs : List Sample) → Reads l xs → Reads (drain times l) xs
reads_drain zero l xs r = r
reads_drain (suc times) l xs r =
    reads_drain times _ xs (reads_handle l xs (known l.story (next l.story)) refl r)

-- ---- what it keeps to stays, and its next number never falls

pub record Later (l m : Late) : Type 0 where
  pub reader : m.reader ≡ l.reader
  pub writer : m.writer ≡ l.writer
  pub keeps : (p : List ℕ) → l.kept ≡ Some p → m.kept ≡ Some p
  pub rises : next l.story ≤ next m.story

later_refl : (l : Late) → Later l l
later_refl l = record { reader = refl; writer = refl; keeps = λ p e. e; rises = omega arith }

later_trans : (l m n : Late) → Later l m → Later m n → Later l n
later_trans l m n a b =
    record {
      reader = b.reader ∙ a.reader;
      writer = b.writer ∙ a.writer;
      keeps =
          λ p e. b.keeps p (a.keeps p e);
      rises = omega (arith, a.rises, b.rises);
    }

later_handle : (l : Late) (x : Known) → Later l (handle l x)
later_handle l Unknown = later_refl l
later_handle l Irrelevant =
    record { reader = refl; writer = refl; keeps = λ p e. e; rises = omega arith }
later_handle l (With s) =
    record { reader = refl; writer = refl; keeps = λ p e. e; rises = omega arith }

kept_handle : (l : Late) (x : Known) → (handle l x).kept ≡ l.kept
kept_handle l Unknown = refl
kept_handle l Irrelevant = refl
kept_handle l (With s) = refl

later_drain : (times : ℕ) (l : Late) → Later l (drain times l)
later_drain zero l = later_refl l
later_drain (suc times) l =
    later_trans l _ _ (later_handle l (known l.story (next l.story))) (later_drain times _)

pub kept_drain : (times : ℕ) (l : Late) → (drain times l).kept ≡ l.kept
kept_drain zero l = refl
kept_drain (suc times) l = kept_drain times _ ∙ kept_handle l (known l.story (next l.story))

later_story : (b : Bool) (l : Late) (h : Story) → next h ≡ next l.story
    → Later l (cond b (with_story l h) l)
later_story true l h e =
    record { reader = refl; writer = refl; keeps = λ p k. k; rises = omega (arith, e) }
later_story false l h e = later_refl l

later_beat : (b : Bool) (l : Late) (first last : ℕ) → Later l (beat_told l b first last)
later_beat false l first last = later_refl l
later_beat true l first last =
    record { reader = refl; writer = refl; keeps = λ p k. k; rises = omega arith }

keeps_same : (service id : List ℕ) (o : Option (List ℕ)) (writer q : List ℕ) → o ≡ Some q
    → keeps service id o writer ≡ Some q
keeps_same service id None writer q e = cc
keeps_same service id (Some r) writer q e = e

later_told : (l : Late) (f : Fact) → Later l (told l f)
later_told l (facts.Data writer reader k raw) =
    later_story (is_from l.kept l.writer writer) l (l.story ▸ Data k (read_of l.writer raw)) refl
later_told l (facts.Unreadable writer reader k) =
    later_story (is_from l.kept l.writer writer) l (l.story ▸ Data k None) refl
later_told l (facts.Gap writer reader first set) =
    later_story (is_from l.kept l.writer writer) l _ refl
later_told l (facts.Beat writer reader first last is_final) =
    let kept = keeps l.service l.writer l.kept writer in
    let m = with_kept l kept in
    later_trans l m _
    (record {
      reader = refl;
      writer = refl;
      keeps =
          λ q e. keeps_same l.service l.writer l.kept writer q e;
      rises = omega arith;
    })
    (later_beat (is_from kept l.writer writer) m first last)
later_told l (facts.Nack reader writer set is_final) = later_refl l

pub later_hears : (fs : List Fact) (l : Late) (more : Bool) (m : Late) → LateHears l fs more m
    → Later l m
later_hears [] l more m h = subst (Later l) (sym h.0) (later_refl l)
later_hears (f ∷ fs) l more m h =
    later_trans l (drain h.0 (told l f)) m
    (later_trans l (told l f) _ (later_told l f) (later_drain h.0 (told l f)))
    (later_hears fs (drain h.0 (told l f)) h.1 m h.3)
