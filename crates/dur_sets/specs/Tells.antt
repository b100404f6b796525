-- What an answer says of a sample and of the members that its writer holds (DDS 2.2.3.6).
use Rattle.std.specs.Prelude.{◌≡◌, ℕ, ◌<◌, List, [], ◌∷◌, ◌++◌, map, take, drop, length}
use Rattle.dur_base.specs.declared.sample.Sample.{Sample}
use Rattle.dur_base.specs.declared.sample.SetMark.{SetMark}
use Rattle.dur_base.specs.declared.entry.Entry.TheVariants.{Took}
use Rattle.dur_view.specs.declared.data.Held.{Held}
use Rattle.dur_view.specs.Identities.{Guid}
use Rattle.dur_view.specs.declared.change.TopicEvent.{TopicEvent}
use Rattle.dur_view.specs.declared.change.TopicEvent.TheVariants.{Effect}
use Rattle.dur_view.specs.History.{brings, joined}
use Rattle.dur_sets.specs.declared.effect.Effect.{Effect as Answer}
use Rattle.dur_sets.specs.declared.effect.Before.{Before}
use Rattle.dur_sets.specs.declared.effect.Before.TheVariants.{Nothing, Close}
use Rattle.dur_sets.specs.declared.effect.Now.{Now}
use Rattle.dur_sets.specs.declared.effect.Now.TheVariants as itself

-- the held members that take effect, and those that stay held
abbrev pub closed : Before → List Held → List Held
closed Nothing members = []
closed (Close n) members = take n members

abbrev pub left : Before → List Held → List Held
left Nothing members = members
left (Close n) members = drop n members

-- a list of the thing that takes effect, or of the member that is held, where the answer says so
abbrev pub if_now : {X : Type 0} → Now → X → List X
if_now itself.Now x = x ∷ []
if_now itself.Hold x = []
if_now itself.Drop x = []

abbrev pub if_held : {X : Type 0} → Now → X → List X
if_held itself.Now x = []
if_held itself.Hold x = x ∷ []
if_held itself.Drop x = []

-- a held member takes effect at the moment of its closer
abbrev pub takes_effect : ℕ → ℕ → Guid → Held → TopicEvent
takes_effect moment by w x = Effect moment by w x.number x.moment x.sample

-- What the answer says of the writer's sample of a number and a mark, where these are the members of its open set.
pub record Tells (members : List Held) (number : ℕ) (mark : SetMark) (answer : Answer) : Type 0 where
  -- the sample brings the held members that the answer counts, and then itself where it takes effect now
  pub brings : (moment by : ℕ) (w : Guid) (s : Sample) → s.set ≡ mark
      → brings by members (Took moment w number s)
      ≡ map (takes_effect moment by w) (closed answer.before members) ++ if_now answer.now (Effect moment by w number moment s)
  -- held are then those that stay, and the sample itself where it is a member
  pub held : (x : Held) → x.number ≡ number → joined mark x members ≡ left answer.before members ++ if_held answer.now x
  -- a set is closed whole
  pub whole : (n : ℕ) → answer.before ≡ Close n → (0 < n) × (n ≡ length members)
