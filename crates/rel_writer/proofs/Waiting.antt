-- How many samples wait in the window of a late reader.
use Rattle.std.proofs.Common.{suc, zero, ◌≡◌, ℕ, ◌+◌, ◌≤◌, Bool, true, false, cond, refl, ap, sym, subst, arith, inl, inr}
use Rattle.std.specs.Prelude.{Option, None, nat_lt, ◌==◌, ◌&&◌}
use Rattle.std.proofs.lemmas.Bool.{cases_eq, ne_eqb}
use Rattle.dur_base.specs.declared.fact.Fact.{Fact}
use Rattle.dur_base.specs.declared.fact.Fact.TheVariants as facts
use Rattle.dur_base.specs.declared.sample.Sample.{Sample}
use Rattle.rel_reader.specs.declared.known.Known.{Known}
use Rattle.rel_reader.specs.declared.known.Known.TheVariants.{Unknown, Irrelevant, With}
use Rattle.rel_reader.specs.Knowledge.{is_with, or_else, read_as}
use Rattle.rel_reader.specs.Stories.{Happening, ◌▸◌, Data, Gap, Beat, next}
use Rattle.rel_reader.specs.KnownNumbers.{known, is_near, says_data, says_gap, says_beat}
use Rattle.rel_writer.specs.LateReaders.{Late, drain, handle, is_from, keeps, beat_told, with_kept, with_story, told}
use Rattle.rel_writer.specs.Room.{brings, samples_from, waiting}

-- ---- counting

abbrev pub one_if : Bool → ℕ
one_if b = cond b 1 0

-- a number with a sample counts
abbrev counts : (ℕ → Known) → ℕ → ℕ
counts f k = one_if (is_with (f k))

at_none : (f : ℕ → Known) (k : ℕ) → samples_from f k 0 ≡ 0
unfolding samples_from
at_none f k = refl

at_more : (f : ℕ → Known) (k n : ℕ)
    → samples_from f k (suc n) ≡ counts f k + samples_from f (k + 1) n
unfolding samples_from
at_more f k n = refl

small : (b : Bool) → one_if b ≤ 1
small true = omega arith
small false = omega arith

pub no_more_than : (f : ℕ → Known) (k n : ℕ) → samples_from f k n ≤ n
no_more_than f k zero = omega (arith, at_none f k)
no_more_than f k (suc n) =
    let here = at_more f k n in
    let one = small (is_with (f k)) in
    let rest = no_more_than f (k + 1) n in
    omega (arith, here, one, rest)

-- a window of n numbers moves by one
shift : (f : ℕ → Known) (k n : ℕ)
    → samples_from f (k + 1) n + counts f k ≡ samples_from f k n + counts f (k + n)
shift f k zero =
    let e : k + 0 ≡ k = omega arith in
    let a = at_none f k in
    let b = at_none f (k + 1) in
    let same : counts f (k + 0) ≡ counts f k = ap (counts f) e in
    omega (arith, a, b, same)
shift f k (suc n) =
    let e : (k + 1) + n ≡ k + suc n = omega arith in
    let a = at_more f (k + 1) n in
    let b = at_more f k n in
    let rest = shift f (k + 1) n in
    let same : counts f ((k + 1) + n) ≡ counts f (k + suc n) = ap (counts f) e in
    omega (arith, a, b, rest, same)

not_more : (f g : ℕ → Known) (k n : ℕ) → ((i : ℕ) → k ≤ i → counts g i ≤ counts f i)
    → samples_from g k n ≤ samples_from f k n
not_more f g k zero each = omega (arith, at_none f k, at_none g k)
not_more f g k (suc n) each =
    let a = at_more f k n in
    let b = at_more g k n in
    let rest = not_more f g (k + 1) n (λ i far. each i (omega (arith, far))) in
    let here = each k (omega arith) in
    omega (arith, a, b, rest, here)

-- all but one number are as they were
one_more : (f g : ℕ → Known) (j k n : ℕ) → ((i : ℕ) → (i ≡ j → ⊥) → counts g i ≤ counts f i)
    → samples_from g k n ≤ samples_from f k n + 1
one_more f g j k zero others = omega (arith, at_none f k, at_none g k)
one_more f g j k (suc n) others = elim (cases_eq k j) [
  | inl e ↦
      let a = at_more f k n in
      let b = at_more g k n in
      let rest = not_more f g (k + 1) n (λ i far. others i (λ same. omega (arith, same, far, e))) in
      let here = small (is_with (g k)) in
      omega (arith, a, b, rest, here)
  | inr other ↦
      let a = at_more f k n in
      let b = at_more g k n in
      let rest = one_more f g j (k + 1) n others in
      let here = others k other in
      omega (arith, a, b, rest, here)
]

-- ---- numbers are handled

-- no sample lies beyond the window
abbrev pub NearOnly : Late → Type 0
NearOnly l = (k : ℕ) → next l.story + 256 ≤ k → is_with (known l.story k) ≡ false

none_beyond : (l : Late) → NearOnly l → counts (known l.story) (next l.story + 256) ≡ 0
none_beyond l near = ap one_if (near (next l.story + 256) (omega arith))

near_handle : (l : Late) (x : Known) → NearOnly l → NearOnly (handle l x)
near_handle l Unknown near = near
near_handle l Irrelevant near = λ k far. near k (omega (arith, far))
near_handle l (With s) near = λ k far. near k (omega (arith, far))

-- the number of those that wait falls by each that is taken
handle_waits : (l : Late) (x : Known) → NearOnly l → known l.story (next l.story) ≡ x
    → waiting (handle l x) + one_if (is_with x) ≤ waiting l
handle_waits l Unknown near e = omega arith
handle_waits l Irrelevant near e =
    let moved = shift (known l.story) (next l.story) 256 in
    let far = none_beyond l near in
    omega (arith, moved, far)
handle_waits l (With s) near e =
    let moved = shift (known l.story) (next l.story) 256 in
    let far = none_beyond l near in
    let here : counts (known l.story) (next l.story) ≡ 1 = ap (λ y. one_if (is_with y)) e in
    omega (arith, moved, far, here)

near_drain : (times : ℕ) (l : Late) → NearOnly l → NearOnly (drain times l)
near_drain zero l near = near
near_drain (suc times) l near =
    let x = known l.story (next l.story) in
    near_drain times (handle l x) (near_handle l x near)

pub drain_waits : (times : ℕ) (l : Late) → NearOnly l → waiting (drain times l) ≤ waiting l
drain_waits zero l near = omega arith
drain_waits (suc times) l near =
    let x = known l.story (next l.story) in
    let one = handle_waits l x near refl in
    let rest = drain_waits times (handle l x) (near_handle l x near) in
    omega (arith, one, rest)

pub taken_waits : (times : ℕ) (l : Late) → NearOnly l
    → is_with (known (drain times l).story (next (drain times l).story)) ≡ true
    → waiting (handle (drain times l)
    (known (drain times l).story (next (drain times l).story))) + 1 ≤ waiting l
taken_waits times l near has =
    let m = drain times l in
    let x = known m.story (next m.story) in
    let one = handle_waits m x (near_drain times l near) refl in
    let it : one_if (is_with x) ≡ 1 = ap one_if has in
    let rest = drain_waits times l near in
    omega (arith, one, it, rest)

-- where none waits, the next number has no sample
pub none_waits : (l : Late) → waiting l ≡ 0 → is_with (known l.story (next l.story)) ≡ false
none_waits l none = by (is_with (known l.story (next l.story))) refl where
  by : (b : Bool) → is_with (known l.story (next l.story)) ≡ b → b ≡ false
  by false e = refl
  by true e =
      let first = at_more (known l.story) (next l.story) 255 in
      let it : counts (known l.story) (next l.story) ≡ 1 = ap one_if e in
      absurd (omega (arith, first, it, none))

-- ---- a fact comes

plain : (x y : Known) → is_with y ≡ false → one_if (is_with (or_else x y)) ≤ one_if (is_with x)
plain Unknown y e = omega (arith, ap one_if e)
plain Irrelevant y e = omega arith
plain (With s) y e = omega arith

never : (b : Bool) → is_with (cond b Irrelevant Unknown) ≡ false
never true = refl
never false = refl

-- all that is told of other numbers is nothing
elsewhere : (n j i : ℕ) (r : Option Sample) → (i ≡ j → ⊥) → is_with (says_data n j r i) ≡ false
elsewhere n j i r ne =
    ap (λ b. is_with (cond (b && is_near n i) (read_as r) Unknown)) (ne_eqb i j ne)

data_waits : (b : Bool) (l : Late) (k : ℕ) (r : Option Sample)
    → waiting (cond b (with_story l (l.story ▸ Data k r)) l) ≤ waiting l + 1
data_waits false l k r = omega arith
data_waits true l k r =
    one_more (known l.story) (known (l.story ▸ Data k r)) k (next l.story) 256
    (λ i ne. plain (known l.story i) (says_data (next l.story) k r i)
    (elsewhere (next l.story) k i r ne))

plain_waits : (b : Bool) (l : Late) (e : Happening) (says : ℕ → Known)
    → next (l.story ▸ e) ≡ next l.story
    → ((i : ℕ) → known (l.story ▸ e) i ≡ or_else (known l.story i) (says i))
    → ((i : ℕ) → is_with (says i) ≡ false)
    → waiting (cond b (with_story l (l.story ▸ e)) l) ≤ waiting l
plain_waits false l e says same is none = omega arith
plain_waits true l e says same is none =
    let h = l.story ▸ e in
    let less = not_more (known l.story) (known h) (next l.story) 256 (λ i far.
    subst (λ x. one_if (is_with x) ≤ counts (known l.story) i) (sym (is i))
    (plain (known l.story i) (says i) (none i))) in
    subst (λ n. samples_from (known h) n 256 ≤ waiting l) (sym same) less

beat_waits : (b : Bool) (l : Late) (first last : ℕ) → waiting (beat_told l b first last) ≤ waiting l
beat_waits false l first last = omega arith
beat_waits true l first last =
    not_more (known l.story) (known (l.story ▸ Beat first)) (next l.story) 256
    (λ i far. plain (known l.story i) (says_beat first i) (never (nat_lt i first)))

unread : (b : Bool) → is_with (cond b (read_as None) Unknown) ≡ false
unread true = refl
unread false = refl

-- a fact brings so many
pub told_waits : (l : Late) (f : Fact) → waiting (told l f) ≤ waiting l + brings f
told_waits l (facts.Data writer reader k raw) = data_waits (is_from l.kept l.writer writer) l k _
told_waits l (facts.Unreadable writer reader k) =
    let less = plain_waits (is_from l.kept l.writer writer) l (Data k None)
    (says_data (next l.story) k None) refl (λ i. refl)
    (λ i. unread ((i == k) && is_near (next l.story) i)) in
    omega (arith, less)
told_waits l (facts.Gap writer reader start set) =
    let less = plain_waits (is_from l.kept l.writer writer) l (Gap start set)
    (says_gap (next l.story) start set) refl (λ i. refl) (λ i. never _) in
    omega (arith, less)
told_waits l (facts.Beat writer reader first last is_final) =
    let kept = keeps l.service l.writer l.kept writer in
    let less = beat_waits (is_from kept l.writer writer) (with_kept l kept) first last in
    omega (arith, less)
told_waits l (facts.Nack reader writer set is_final) = omega arith
