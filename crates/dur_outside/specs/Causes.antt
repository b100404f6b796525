-- When a call of the outside may fail.
use Rattle.std.specs.Prelude.{ℕ, ◌+◌, ◌-◌, ◌^◌, ◌≤◌, min, Bool, if◌then◌else◌, Result, OnErr}

-- a count after one more, which stays at 2^64 - 1
abbrev pub one_more : ℕ → ℕ
one_more n = min (n + 1) (2 ^ 64 - 1)

-- the count of faults after a call that failed or did not
abbrev pub faults_after : Bool → ℕ → ℕ
faults_after failed before = if failed then one_more before else before

-- a count rose; one that stands at its end counts as risen
abbrev pub Rose : ℕ → ℕ → Type 0
Rose before now = one_more before ≤ now

-- the count of faults does not fall, and a failure is answered only where it rose
pub record HasCause {T E : Type 0} (before now : ℕ) (result : Result T E) : Type 0 where
  pub later : before ≤ now
  pub failed : OnErr result (Rose before now)
