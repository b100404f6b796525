-- What was seen of a source's octets, and all of them.
use Rattle.std.proofs.Common.{◌≡◌, ℕ, List, [], ◌++◌, take, Option, Some, None, refl, sym, ap, subst, ◌∙◌, append-nil}
use Rattle.std.specs.Prelude.{IfSome}
use Rattle.std.specs.Io.KnownBytes.{Consumes, IsAtEnd}
use Rattle.std.proofs.KnownBytes.{Consumes-trans}

-- what holds of the octets seen with any that are left holds of all that were known
pub told : (known now : Option (List ℕ)) (seen : List ℕ) (P : List ℕ → Type 0) → Consumes known now seen → ((more : List ℕ) → now ≡ Some more → P (seen ++ more)) → IfSome known P
told None now seen P consumed holds = tt
told (Some all) None seen P consumed holds = absurd consumed
told (Some all) (Some more) seen P consumed holds = subst P (sym consumed) (holds more refl)

pub none_left : (now : Option (List ℕ)) (more : List ℕ) → IsAtEnd now → now ≡ Some more → more ≡ []
none_left now more end is = subst IsAtEnd is end

-- a read of nothing
pub same_seen : (known mid now : Option (List ℕ)) (seen buf : List ℕ) (n : ℕ) → n ≡ 0 → Consumes known mid seen → Consumes mid now (take n buf) → Consumes known now seen
same_seen known mid now seen buf n none a b =
    subst (Consumes known now) (ap (λ (m : ℕ). seen ++ take m buf) none ∙ append-nil seen) (Consumes-trans known mid now seen (take n buf) a b)

-- at the end of the input what was seen is all
pub all_told : (known now : Option (List ℕ)) (seen octets : List ℕ) (P : List ℕ → Type 0) → Consumes known now seen → IsAtEnd now → P (octets ++ seen) → IfSome known (λ tail. P (octets ++ tail))
all_told known now seen octets P consumed end holds =
    told known now seen (λ tail. P (octets ++ tail)) consumed
    (λ more is. subst (λ (t : List ℕ). P (octets ++ t)) (sym (ap (λ (t : List ℕ). seen ++ t) (none_left now more end is) ∙ append-nil seen)) holds)
