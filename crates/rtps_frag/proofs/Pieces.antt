-- Fragments of one sample.
use Rattle.std.proofs.Common.{◌≡◌, ℕ, zero, suc, ◌+◌, ◌-◌, ◌*◌, ◌/◌, ◌<◌, ◌≤◌, Bool, true, false, List, [], ◌∷◌, length, take, drop, not, set, replicate, get_or, refl, sym, arith}
use Rattle.std.specs.Prelude.{◌==◌}
use Rattle.std.specs.List.{list_all}
use Rattle.std.proofs.Math.Nat.{mul-le-mul_right, add-mul, div-le_self}
use Rattle.std.proofs.lemmas.List.{length-drop, length-replicate}
use Rattle.std.proofs.lemmas.Bool.{ne_eqb, false≢true}
use Rattle.rtps_params.specs.declared.inline.Inline.{Inline}
use Rattle.rtps_params.specs.Meaning.{inline_of}
use Rattle.rtps_frag.proofs.Good.{nothing_inside}
use Rattle.rtps_frag.specs.Samples.{Opened, IsOpened, missing_in, with_one, with_some}

pub missing_none : (n : ℕ) → missing_in (replicate n false) ≡ n
missing_none zero = refl
missing_none (suc n) = let more = missing_none n in omega (arith, more)

pub missing_less : (came : List Bool) (k : ℕ) (d : Bool) → k < length came → not (get_or came k d) ≡ true → missing_in (set came k true) + 1 ≡ missing_in came
missing_less [] k d short not_yet = absurd (omega (arith, short))
missing_less (true ∷ later) zero d short not_yet = absurd (false≢true not_yet)
missing_less (false ∷ later) zero d short not_yet = refl
missing_less (true ∷ later) (suc k) d short not_yet = missing_less later k d (omega (arith, short)) not_yet
missing_less (false ∷ later) (suc k) d short not_yet = let more = missing_less later k d (omega (arith, short)) not_yet in omega (arith, more)

-- a sample of 65,344 octets at most has no more fragments than that
pub few : (size width : ℕ) → 0 < size → size ≤ 65344 → (size - 1) / width + 1 ≤ 65344
few size width some short = let less : (size - 1) / width ≤ size - 1 = div-le_self (size - 1) width in omega (arith, less, some, short)

-- a sample is opened
pub opened_so : (size n : ℕ) (inline : Inline) (came : List Bool) (octets : List ℕ) → size ≤ 65344 → inline ≡ inline_of [] → came ≡ replicate n false → octets ≡ replicate size 0 → IsOpened size n inline came octets
opened_so size n inline came octets short inline_is came_is octets_are = rw (came_is, octets_are) (record { octets_are = length-replicate size 0; short = short; counted = sym (missing_none n); inside = nothing_inside inline inline_is })

pub whole_none : (came : List Bool) → (missing_in came == 0) ≡ list_all (λ b. b) came
whole_none [] = refl
whole_none (true ∷ later) = whole_none later
whole_none (false ∷ later) = ne_eqb (missing_in later + 1) 0 (λ e. omega (arith, e))

-- the fragments of one submessage lie within the sample
pub begins_within : (k left first count w width s size : ℕ) → k + left ≡ first + count → left ≤ count → 0 < left → w ≡ width → s ≡ size → (0 < count → (first + count - 1) * width ≤ size) → k * w ≤ s
begins_within k left first count w width s size all more some w_is s_is last =
    let early : k ≤ first + count - 1 = omega (arith, all, more, some) in
    let there : 0 < count = omega (arith, more, some) in
    let product : k * width ≤ (first + count - 1) * width = mul-le-mul_right width early in
    let within : k * width ≤ size = omega (arith, product, last there) in
    rw (w_is, s_is) within

pub ends_within : (k w s v t : ℕ) (rest later : List ℕ) → length rest ≤ s - k * w → later ≡ drop w rest → v ≡ w → t ≡ s → length later ≤ t - (k + 1) * v
ends_within k w s v t rest later ends later_is v_is t_is =
    let short : length (drop w rest) ≡ length rest - w = length-drop w rest in
    let wide : (k + 1) * w ≡ k * w + 1 * w = add-mul k 1 w in
    let bound : length (drop w rest) ≤ s - (k + 1) * w = omega (arith, short, wide, ends) in
    rw (later_is, v_is, t_is) bound

-- one of them more
pub some_more : (k left n : ℕ) (rest text later : List ℕ) (o p : Opened) → left ≡ suc n → text ≡ take o.width rest → later ≡ drop o.width rest → p ≡ with_one k text o → with_some (k + 1) n later p ≡ with_some k left rest o
some_more k left n rest text later o p left_is text_is later_is p_is = rw (left_is, later_is, p_is, text_is) refl
