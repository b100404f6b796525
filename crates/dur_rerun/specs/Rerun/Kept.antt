-- What stands for a history: that, or the same with its first entries replaced by the view that they left.
use Rattle.std.specs.Prelude.{◌≡◌, ◌⊎◌, ℕ, ◌≤◌, List, [], ◌∷◌, drop}
use Rattle.dur_base.specs.declared.entry.Entry.{Entry}
use Rattle.dur_view.specs.History.{History, Start, ◌+>◌, moment, moment_of}
use Rattle.dur_view.specs.View.{view}
use Rattle.dur_view.specs.Stored.{stored, durable_part}

-- each of the entries is of that moment or a later one
abbrev pub AllFrom : ℕ → List Entry → Type 0
AllFrom m [] = Unit {0}
AllFrom m (e ∷ es) = (m ≤ moment_of e) × AllFrom m es

-- The first entries are replaced by the view that they left at some moment, and the others are as they were.
pub record IsCut (kept whole : History) : Type 0 where
  pub before : History
  -- the moment of the view
  pub m : ℕ
  -- the other ones, which are not earlier
  pub es : List Entry
  pub whole_is : whole ≡ before +> es
  pub kept_is : kept ≡ Start (view before m) +> es
  pub late : moment before ≤ m
  pub from : AllFrom m es

-- It is the history, or that with its first entries replaced by their view.
abbrev pub IsCutOf : History → History → Type 0
IsCutOf kept whole = (kept ≡ whole) ⊎ IsCut kept whole

-- Its first entries are replaced by a view; none of the rest is earlier than that, nor is anything of this moment.
abbrev pub CutBefore : History → History → List Entry → ℕ → Type 0
CutBefore kept whole rest now = (c : IsCut kept whole) × AllFrom c.m rest × (c.m ≤ now)

-- What is kept is the first n stored entries of a history, or that with some of them replaced by their view; and the others may
-- follow it, as any of this moment or a later one may.
pub record IsBehind (kept h : History) (n now : ℕ) : Type 0 where
  pub either : (kept ≡ durable_part h n) ⊎ CutBefore kept (durable_part h n) (drop n (stored h)) now
