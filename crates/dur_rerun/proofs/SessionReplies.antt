-- What a session replies, of what it is asked for.
use Rattle.std.proofs.Common.{◌≡◌, inl, ℕ, ◌+◌, ◌≤◌, Bool, true, false, List, [], ◌∷◌, ◌++◌, refl, ◌∙◌, ap, subst, Result, Ok, Err, Option, Some, None, arith}
use Rattle.std.specs.Prelude.{suc, zero, ◌&&◌, nat_le, if◌then◌else◌}
use Rattle.dur_base.specs.NumberSets.{NumberSet, names}
use Rattle.dur_base.specs.declared.sample.Sample.{Sample}
use Rattle.dur_outside.specs.Causes.{HasCause}
use Rattle.rel_writer.specs.Sessions.{Sending, IsPlace, answered, is_asked, asks_beat, last_of}
use Rattle.rel_writer.specs.Turns.{AreData, BeatsIf, asked_from, Replies}
use Rattle.dur_rerun.specs.Rerun.Replies.{SessionBegins}
use Rattle.dur_rerun.specs.Rerun.Steps.{AreDataOf, BeginData, IsBeatIf}

and_again : (a b : Bool) → ((a && b) && b) ≡ (a && b)
and_again true true = refl
and_again true false = refl
and_again false b = refl

asked_same : (f g : ℕ → Bool) → ((k : ℕ) → f k ≡ g k) → (k n : ℕ) → asked_from f k n ≡ asked_from g k n
asked_same f g same k zero = refl
asked_same f g same k (suc n) =
    ap (λ (b : Bool). if b then k ∷ asked_from f (k + 1) n else asked_from f (k + 1) n) (same k)
    ∙ ap (λ (ks : List ℕ). if g k then k ∷ ks else ks) (asked_same f g same (k + 1) n)

place_same : (s : Sending) (set : NumberSet) (at : ℕ) (o : Option Sample) (bytes : List ℕ) → IsPlace (answered s set) at o bytes → IsPlace s at o bytes
place_same s set at (Some x) bytes is = is
place_same s set at None bytes is = is

data_same : (s : Sending) (set : NumberSet) (ks : List ℕ) (xs : List (List ℕ)) → AreData (answered s set) ks xs → AreData s ks xs
data_same s set [] xs are = are
data_same s set (k ∷ ks) xs (first, more, is, written, rest) =
    (first, more, is, place_same s set _ _ first written, data_same s set ks more rest)

-- what is asked for is what the ACKNACK's set asks for
pub data_as : (s t : Sending) (set num : NumberSet) (m : ℕ) (xs : List (List ℕ)) → t ≡ answered s set → num.base ≡ set.base
    → ((k : ℕ) → names num k ≡ is_asked s set k) → AreDataOf t num m xs → AreData s (asked_from (is_asked s set) set.base m) xs
data_as s t set num m xs is base named are =
    let of_s : AreDataOf (answered s set) num m xs = subst (λ (u : Sending). AreDataOf u num m xs) is are in
    let one : (k : ℕ) → is_asked (answered s set) num k ≡ is_asked s set k =
    λ k. ap (λ (b : Bool). b && nat_le k (last_of s)) (named k) ∙ and_again (names set k) (nat_le k (last_of s)) in
    let keys : asked_from (is_asked (answered s set) num) num.base m ≡ asked_from (is_asked s set) set.base m =
    asked_same (is_asked (answered s set) num) (is_asked s set) one num.base m ∙ ap (λ (n : ℕ). asked_from (is_asked s set) n m) base in
    data_same s set (asked_from (is_asked s set) set.base m) xs (subst (λ (ks : List ℕ). AreData (answered s set) ks xs) keys of_s)

pub replies_of : (s t after : Sending) (set num : NumberSet) (b : Bool) (xs ys : List (List ℕ)) → t ≡ answered s set → num.base ≡ set.base
    → ((k : ℕ) → names num k ≡ is_asked s set k) → b ≡ asks_beat s set → AreDataOf t num 256 xs → IsBeatIf b t after ys → Replies s set (xs ++ ys) after
replies_of s t after set num b xs ys is base named beat are behind = record {
  numbers = xs;
  are = data_as s t set num 256 xs is base named are;
  beats = ys;
  behind = subst (λ (u : Sending). BeatsIf (asks_beat s set) u ys after) is (subst (λ (c : Bool). BeatsIf c t ys after) beat behind);
  all = refl;
}

pub begins_of : (s t : Sending) (set num : NumberSet) (xs : List (List ℕ)) → t ≡ answered s set → num.base ≡ set.base
    → ((k : ℕ) → names num k ≡ is_asked s set k) → BeginData t num xs → SessionBegins s set xs
begins_of s t set num xs is base named (m, within, are) = inl (m, within, data_as s t set num m xs is base named are)

-- a cause of a later part is one of the whole
pub cause_on : {T E : Type 0} (a b c : ℕ) (result : Result T E) → a ≤ b → HasCause b c result → HasCause a c result
cause_on a b c (Ok x) le cause = record { later = omega (arith, le, cause.later); failed = tt }
cause_on a b c (Err e) le cause = record { later = omega (arith, le, cause.later); failed = omega (arith, le, cause.failed) }
