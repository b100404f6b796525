-- The answers of a link in memory.
use Rattle.std.proofs.Common.{◌≡◌, ℕ, ◌+◌, ◌-◌, ◌≤◌, ◌<◌, List, [], ◌∷◌, ◌++◌, length, get_or, None, Option, sym, arith, inl, inr, append_assoc}
use Rattle.std.specs.Prelude.{replicate}
use Rattle.std.proofs.lemmas.Bool.{cases_lt}
use Rattle.std.proofs.lemmas.List.{take_more, take_all, get_or_past, replicate_more}
use Rattle.std.proofs.lemmas.Grind.{common_steps}
use Rattle.dur_outside.specs.Given.{heard_of}

early : (given : List (Option (List ℕ))) (i : ℕ) → i < length given → heard_of given (i + 1) ≡ heard_of given i ++ get_or given i None ∷ []
early given i lt =
    let now : i - length given ≡ 0 = omega arith in
    let next : i + 1 - length given ≡ 0 = omega arith in
    rw (now, next, take_more given i None lt) (grind (arith, common_steps))

late : (given : List (Option (List ℕ))) (i : ℕ) → length given ≤ i → heard_of given (i + 1) ≡ heard_of given i ++ get_or given i None ∷ []
late given i le =
    let next : i + 1 - length given ≡ i - length given + 1 = omega arith in
    let longer : length given ≤ i + 1 = omega arith in
    rw (next, take_all (i + 1) given longer, take_all i given le, get_or_past given i None le, ← replicate_more {X = Option (List ℕ)} (i - length given) None)
    (sym (append_assoc given (replicate (i - length given) None) (None ∷ [])))

pub heard_next : (given : List (Option (List ℕ))) (i : ℕ) → heard_of given (i + 1) ≡ heard_of given i ++ get_or given i None ∷ []
heard_next given i = elim (cases_lt i (length given)) [ inl lt ↦ early given i lt | inr le ↦ late given i le ]
