-- Lists of calls on a desk.
use Rattle.std.proofs.Common.{◌≡◌, ℕ, ◌+◌, ◌%◌, ◌^◌, List, [], ◌∷◌, ◌++◌, refl, ap, sym, ◌∙◌}
use Rattle.std.specs.List.{filter}
use Rattle.turn_uses.specs.declared.desk.Event.{Event}
use Rattle.turn_uses.specs.declared.desk.Event.TheVariants.{Put, Took, Marked}
use Rattle.turn_uses.specs.Storing.{put_after, taken_after, IsLegal, is_lone}

pub put_snoc : (n : ℕ) (es : List Event) (e : Event) → put_after n (es ++ e ∷ []) ≡ put_after (put_after n es) (e ∷ [])
put_snoc n [] e = refl
put_snoc n (Put ∷ es) e = put_snoc ((n + 1) % 2 ^ 64) es e
put_snoc n (Took to ∷ es) e = put_snoc n es e
put_snoc n (Marked at ∷ es) e = put_snoc n es e

pub taken_snoc : (n : ℕ) (es : List Event) (e : Event) → taken_after n (es ++ e ∷ []) ≡ taken_after (taken_after n es) (e ∷ [])
taken_snoc n [] e = refl
taken_snoc n (Put ∷ es) e = taken_snoc n es e
taken_snoc n (Took to ∷ es) e = taken_snoc to es e
taken_snoc n (Marked at ∷ es) e = taken_snoc n es e

pub legal_snoc : (p t : ℕ) (es : List Event) (e : Event) → IsLegal p t es → IsLegal (put_after p es) (taken_after t es) (e ∷ []) → IsLegal p t (es ++ e ∷ [])
legal_snoc p t [] e h one = one
legal_snoc p t (Put ∷ es) e h one = legal_snoc ((p + 1) % 2 ^ 64) t es e h one
legal_snoc p t (Took to ∷ es) e h one = (h.0, legal_snoc p to es e h.1 one)
legal_snoc p t (Marked at ∷ es) e h one = (h.0, legal_snoc p t es e h.1 one)

-- what was taken is told by the lone calls
pub taken_lone : (n : ℕ) (es : List Event) → taken_after n (filter is_lone es) ≡ taken_after n es
taken_lone n [] = refl
taken_lone n (Put ∷ es) = taken_lone n es
taken_lone n (Took to ∷ es) = taken_lone to es
taken_lone n (Marked at ∷ es) = taken_lone n es

-- right after a take by the lone pass, every list that has just its lone calls has taken what it took
pub taken_is : (n to : ℕ) (log mine old : List Event) → filter is_lone log ≡ filter is_lone mine → mine ≡ old ++ Took to ∷ [] → to ≡ taken_after n log
taken_is n to log mine old same is =
    sym (sym (taken_lone n log) ∙ (ap (taken_after n) same ∙ (taken_lone n mine ∙ (ap (taken_after n) is ∙ taken_snoc n old (Took to)))))
