-- What a late reader has taken.
use Rattle.std.specs.Prelude.{◌≡◌, ℕ, Bool, true, false, Option, Some, None, List, [], ◌++◌}
use Rattle.dur_base.specs.declared.sample.Sample.{Sample}
use Rattle.dur_view.specs.declared.change.Change.{Change}
use Rattle.rel_writer.specs.Replays.{sent}
use Rattle.rel_writer.specs.Sets.{handed, any_marker}
use Rattle.rel_writer.specs.Sessions.{Sending}
use Rattle.dur_base.specs.declared.fact.Fact.{Fact}
use Rattle.rel_writer.specs.LateReaders.{Late, LateHears, IsNack}
use Rattle.rel_writer.specs.Worlds.{World, Begun, found}

-- the one list, and something behind it, is the other
abbrev pub IsFront : List Sample → List Sample → Type 0
IsFront xs ys = (rest : List Sample) × (xs ++ rest ≡ ys)

-- a session under this prefix began, and what was taken is a front of what it sends, and all of it
-- once the late reader is done
pub record TakesOf (begun : List Begun) (prefix : List ℕ) (l : Late) : Type 0 where
  pub changes : List Change
  pub begins : found begun prefix ≡ Some changes
  pub front : IsFront (handed l.handled) (sent changes)
  pub all : any_marker l.handled ≡ true → handed l.handled ≡ sent changes

-- before it keeps to a prefix, it took nothing and is not done
abbrev pub Takes : List Begun → Option (List ℕ) → Late → Type 0
Takes begun None l = (handed l.handled ≡ []) × (any_marker l.handled ≡ false)
Takes begun (Some prefix) l = TakesOf begun prefix l

abbrev pub TakesReplay : World → Type 0
TakesReplay w = Takes w.begun w.late.kept w.late

-- the late reader keeps to the session, which sends the changes that it began with, and has taken
-- all of them
pub record HasTakenAll (w : World) (s : Sending) : Type 0 where
  pub kept : w.late.kept ≡ Some s.ids.own
  pub changes : List Change
  pub begins : found w.begun s.ids.own ≡ Some changes
  pub all : handed w.late.handled ≡ sent changes

-- what a late reader makes of the facts of a datagram is one thing, and so is whether they ask
abbrev pub HearsOneWay : Late → List Fact → Type 0
HearsOneWay l fs =
    (a b : Bool) (m n : Late) → LateHears l fs a m → LateHears l fs b n → (m ≡ n) × (a ≡ b)

-- and it has one next ACKNACK
abbrev pub AsksOneWay : Late → Type 0
AsksOneWay l = (a b : List ℕ) → IsNack l a → IsNack l b → a ≡ b
