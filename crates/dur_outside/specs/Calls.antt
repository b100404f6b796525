-- How an object in memory counts its calls.
use Rattle.std.specs.Prelude.{◌≡◌, ◌⊎◌, ◌≤◌, ℕ, Bool, IsTrue, IsFalse, List, Contains}
use Rattle.dur_outside.specs.Causes.{one_more}

-- the numbers, from 0, of the calls that are set to fail; how many came; how many failed; and how many of these
-- found no memory
pub record GivenCalls : Type 0 where
  pub fails : List ℕ
  pub made : ℕ
  pub faults : ℕ
  pub starved : ℕ

-- none came yet
abbrev pub no_calls : List ℕ → GivenCalls
no_calls fails = record { fails = fails; made = 0; faults = 0; starved = 0 }

-- the next call is in the list
abbrev pub IsListed : GivenCalls → Type 0
IsListed c = Contains c.fails c.made

-- after a call that did what it was asked
abbrev pub after_success : GivenCalls → GivenCalls
after_success c = record c { made = one_more c.made }

-- after a call that failed
abbrev pub after_fault : GivenCalls → GivenCalls
after_fault c = record c { made = one_more c.made; faults = one_more c.faults }

-- after a call that failed since it found no memory
abbrev pub after_want : GivenCalls → GivenCalls
after_want c = record c { made = one_more c.made; faults = one_more c.faults; starved = one_more c.starved }

-- A call that is set to fail fails. Any other fails only for want of memory, and is counted so.
pub record Counts (set : Type 0) (failed : Bool) (old new : GivenCalls) : Type 0 where
  pub set_to_fail : set → IsTrue failed
  pub later : old.faults ≤ new.faults
  pub success : IsFalse failed → new ≡ after_success old
  pub failure : IsTrue failed → (set × (new ≡ after_fault old)) ⊎ ((set → ⊥) × (new ≡ after_want old))
