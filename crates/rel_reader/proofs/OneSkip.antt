-- A story has one skip at most.
use Rattle.std.proofs.Common.{◌≡◌, ℕ, arith, inl, inr}
use Rattle.std.proofs.lemmas.Bool.{cases_lt}
use Rattle.rel_reader.specs.Stories.{Story}
use Rattle.rel_reader.specs.Skips.{IsSkip}

-- the one that ended first would go on
pub one_end : (h : Story) (a b : ℕ) → IsSkip h a → IsSkip h b → a ≡ b
one_end h a b p q = elim (cases_lt a b) [
  | inl lt ↦ absurd (p.ends (q.each a (omega (arith, p.some)) lt))
  | inr le ↦ elim (cases_lt b a) [
    | inl lt ↦ absurd (q.ends (p.each b (omega (arith, q.some)) lt))
    | inr ge ↦ omega (arith, le, ge)
  ]
]
