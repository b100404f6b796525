-- What a session picks: the numbers of a set, and the datagram of a number.
use Rattle.std.proofs.Common.{◌≡◌, ℕ, ◌+◌, ◌-◌, ◌≤◌, ◌<◌, Bool, true, false, List, ◌++◌, map, option_map, get_or, length, take, drop, refl, ap, sym, subst, ◌∙◌, arith, inl, inr}
use Rattle.std.specs.Prelude.{Option, Some, None, slice_get, ◌==◌, ◌&&◌, ◌||◌, nat_lt, nat_le}
use Rattle.std.proofs.lemmas.Bool.{cases_eq, cases_lt, eq-eqb, ne_eqb, lt-ltb, le-ltb, le-leb, lt-leb}
use Rattle.std.proofs.lemmas.List.{take_at, drop_at, length-map, length-append}
use Rattle.dur_base.specs.NumberSets.{NumberSet, has_bit}
use Rattle.dur_base.specs.declared.fact.Fact.TheVariants as facts
use Rattle.dur_base.specs.declared.sample.Sample.{Sample}
use Rattle.rtps_submsg.specs.declared.sub.Sub.{Sub}
use Rattle.rtps_message.specs.Written.{message, sample_subs, marker_subs, sample_raw, marker_raw, IsWritten, WritesSample, WritesMarker, TellsOne}
use Rattle.std.proofs.lemmas.Option.{slice_get-map, slice_get_read, slice_get_past}
use Rattle.dur_view.specs.declared.change.Change.{Change}
use Rattle.rel_writer.specs.declared.ids.Ids.{Ids}
use Rattle.rel_writer.specs.Sessions.{Sending, IsSample, IsMarker, IsPlace, IsData, Writes}

and_off : (a : Bool) → (a && false) ≡ false
and_off true = refl
and_off false = refl

and_on : (a : Bool) → (a && true) ≡ a
and_on true = refl
and_on false = refl

or_off : (a : Bool) → (a || false) ≡ a
or_off true = refl
or_off false = refl

-- those of the first i bits
abbrev pub among : NumberSet → ℕ → ℕ → Bool
among set i k = nat_le set.base k && (nat_lt (k - set.base) i && has_bit set.words (k - set.base))

among_other : (set : NumberSet) (i k : ℕ) → (k ≡ set.base + i → ⊥)
    → among set (i + 1) k ≡ among set i k
among_other set i k ne = elim (cases_lt k set.base) [
  | inl lt ↦ ap (λ b. b && (nat_lt (k - set.base) (i + 1) && has_bit set.words (k - set.base)))
      (lt-leb set.base k lt)
      ∙ sym (ap (λ b. b && (nat_lt (k - set.base) i && has_bit set.words (k - set.base)))
      (lt-leb set.base k lt))
  | inr le ↦ elim (cases_lt (k - set.base) i) [
    | inl lt ↦
        ap (λ b. nat_le set.base k && (b && has_bit set.words (k - set.base)))
        (lt-ltb (k - set.base) (i + 1) (omega (arith, lt)) ∙ sym (lt-ltb (k - set.base) i lt))
    | inr far ↦
        let more : i + 1 ≤ k - set.base = by le far in
        ap (λ b. nat_le set.base k && (b && has_bit set.words (k - set.base)))
        (le-ltb (k - set.base) (i + 1) more ∙ sym (le-ltb (k - set.base) i far))
  ]
]
  where
    by : set.base ≤ k → i ≤ k - set.base → i + 1 ≤ k - set.base
    by le far = elim (cases_eq (k - set.base) i) [
      | inl same ↦ absurd (ne (omega (arith, same, le)))
      | inr other ↦ omega (arith, far, other)
    ]

-- one bit more
pub among_more : (set : NumberSet) (i last k : ℕ) (asked : Bool)
    → asked ≡ (has_bit set.words i && nat_le (set.base + i) last)
    → ((among set i k && nat_le k last) || (asked && (k == set.base + i)))
    ≡ (among set (i + 1) k && nat_le k last)
among_more set i last k asked is = elim (cases_eq k (set.base + i)) [
  | inl e ↦
      let place : k - set.base ≡ i = omega (arith, e) in
      let before : among set i k ≡ false =
      ap (λ b. nat_le set.base k && (b && has_bit set.words (k - set.base)))
      (le-ltb (k - set.base) i (omega (arith, place))) ∙ and_off (nat_le set.base k) in
      let now : among set (i + 1) k ≡ has_bit set.words i =
      ap (λ b. b && (nat_lt (k - set.base) (i + 1) && has_bit set.words (k - set.base)))
      (le-leb set.base k (omega (arith, e)))
      ∙ ap (λ b. b && has_bit set.words (k - set.base))
      (lt-ltb (k - set.base) (i + 1) (omega (arith, place))) ∙ ap (has_bit set.words) place in
      ap (λ b. (b && nat_le k last) || (asked && (k == set.base + i))) before
      ∙ ap (λ b. asked && b) (eq-eqb k (set.base + i) e) ∙ and_on asked ∙ is
      ∙ ap (λ n. has_bit set.words i && nat_le n last) (sym e)
      ∙ sym (ap (λ b. b && nat_le k last) now)
  | inr ne ↦
      ap (λ b. (among set i k && nat_le k last) || (asked && b)) (ne_eqb k (set.base + i) ne)
      ∙ ap (λ b. (among set i k && nat_le k last) || b) (and_off asked)
      ∙ or_off (among set i k && nat_le k last)
      ∙ ap (λ b. b && nat_le k last) (sym (among_other set i k ne))
]

-- ---- the datagram of a number

pub sample_is : (s : Sending) (at number : ℕ) (x : Sample) (old new : List ℕ) (n : ℕ)
    → slice_get s.samples at ≡ Some x → number ≡ at + 1
    → WritesSample old new s.ids.own s.ids.reader s.ids.writer number x s.ids.keyed n
    → TellsOne s.ids.reader (take n new)
    (facts.Data (s.ids.own ++ s.ids.writer) (drop 12 s.ids.reader) number
    (sample_raw x s.ids.keyed)) → IsData s at (take n new)
sample_is s at number x old new n get is w tells =
    let here : IsSample s.ids number x (take n new) = record {
      d = w.d;
      is = w.is;
      text = ap (take n) w.written.text
          ∙ take_at (message s.ids.own (sample_subs s.ids.reader x.stamp w.d)) (drop n old) n
          (sym w.written.len);
      tells = tells;
    } in
    subst (λ (o : Option Sample). IsPlace s at o (take n new)) (sym get)
    (subst (λ (k : ℕ). IsSample s.ids k x (take n new)) is here)

pub marker_is : (s : Sending) (at number : ℕ) (old new : List ℕ) (n : ℕ)
    → slice_get s.samples at ≡ None → at ≡ length s.samples → number ≡ at + 1
    → WritesMarker old new s.ids.own s.ids.reader s.ids.writer number n
    → TellsOne s.ids.reader (take n new)
    (facts.Data (s.ids.own ++ s.ids.writer) (drop 12 s.ids.reader) number marker_raw)
    → IsData s at (take n new)
marker_is s at number old new n get last is w tells =
    let here : IsMarker s.ids number (take n new) = record {
      d = w.d;
      is = w.is;
      text = ap (take n) w.written.text
          ∙ take_at (message s.ids.own (marker_subs s.ids.reader w.d)) (drop n old) n
          (sym w.written.len);
      tells = tells;
    } in
    subst (λ (o : Option Sample). IsPlace s at o (take n new)) (sym get)
    (last, subst (λ (k : ℕ). IsMarker s.ids k (take n new)) is here)

-- the session of which the fields are these
abbrev pub seen : Ids → List Change → ℕ → Bool → Sending
seen ids changes beats complete =
    record {
      ids = ids;
      samples = map (λ (c : Change). c.sample) changes;
      beats =
          beats;
      complete = complete;
    }

pub change_at : (items slice : List Change) (i : ℕ) (x : Change) → slice ≡ items
    → i < length slice → x ≡ get_or slice i x
    → slice_get (map (λ (c : Change). c.sample) items) i ≡ Some x.sample
change_at items slice i x same inside is =
    ap (λ (t : List Change). slice_get (map (λ (c : Change). c.sample) t) i) (sym same)
    ∙ slice_get-map (λ (c : Change). c.sample) slice i
    ∙ ap (option_map (λ (c : Change). c.sample))
    (slice_get_read slice (length slice) i x refl inside is)

pub past_all : (items slice : List Change) (i : ℕ) → slice ≡ items → length slice ≤ i
    → slice_get (map (λ (c : Change). c.sample) items) i ≡ None
past_all items slice i same over =
    slice_get_past (map (λ (c : Change). c.sample) items) i
    (omega (
      arith,
      over,
      ap (λ (t : List Change). length t) same,
      length-map items
          (λ (c : Change). c.sample),
    ))

-- what was written lies in the place
fits_in : (old new prefix : List ℕ) (subs : List Sub) (n : ℕ) → IsWritten old new prefix subs n
    → n ≤ length new
fits_in old new prefix subs n w = omega (
  arith,
  w.len,
  ap (λ (t : List ℕ). length t) w.text,
  length-append (message prefix subs) (drop n old),
)

pub written : (old new prefix : List ℕ) (subs : List Sub) (n : ℕ) → IsWritten old new prefix subs n
    → Writes old new n
written old new prefix subs n w = record {
  within = fits_in old new prefix subs n w;
  rest = ap (drop n) w.text ∙ drop_at (message prefix subs) (drop n old) n (sym w.len);
}
