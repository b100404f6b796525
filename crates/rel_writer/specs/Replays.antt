-- What a session sends: its changes, and a marker behind them (DDSI-RTPS 8.4.9).
use Rattle.std.specs.Prelude.{◌≡◌, ℕ, ◌+◌, ◌-◌, ◌<◌, ◌^◌, ◌==◌, ◌&&◌, Bool, false, List, [], ◌∷◌, ◌++◌, map, length, Some, IsSome, if◌then◌else◌}
use Rattle.std.specs.List.{AllByRecursion}
use Rattle.std.specs.Str.{bytes_eq}
use Rattle.dur_base.specs.Goodness.{IsGood, zero_key}
use Rattle.dur_base.specs.declared.sample.Sample.{Sample}
use Rattle.dur_base.specs.declared.sample.SetMark.{SetMark}
use Rattle.dur_base.specs.declared.sample.SetMark.TheVariants.{NoSet, End, Of}
use Rattle.dur_view.specs.declared.change.Change.{Change}
use Rattle.rtps_message.specs.Written.{IsChange}
use Rattle.rtps_message.specs.Sent.{sent_act, marker}
use Rattle.rtps_message.specs.Sent as wire

-- ---- sets (DDS 2.2.3.6; their mark, DDSI-RTPS 9.6.4.2)

-- both marks are of one set
abbrev pub is_one_set : SetMark → SetMark → Bool
is_one_set (Of f) (Of g) = f == g
is_one_set (Of f) NoSet = false
is_one_set (Of f) End = false
is_one_set NoSet mark = false
is_one_set End mark = false

-- both changes are members of one set: of one writer, and under one number
abbrev pub are_of_one_set : Change → Change → Bool
are_of_one_set b c = bytes_eq b.writer c.writer && is_one_set b.sample.set c.sample.set

-- The number that the set of a change is sent under, where these changes are sent before it, the
-- latest of them first: that of the first of the members that stand directly before it, or else its
-- own.
abbrev pub first_member : List Change → Change → ℕ
first_member [] c = 1
first_member (b ∷ before) c =
    if are_of_one_set b c then first_member before b else length (b ∷ before) + 1

-- the mark of a change of a set that is sent under this number
abbrev pub sent_mark : SetMark → ℕ → SetMark
sent_mark (Of f) first = Of first
sent_mark NoSet first = NoSet
sent_mark End first = NoSet

-- ---- changes as they are sent

-- a change with that mark, and a dispose without its unregister
abbrev pub marked : Change → SetMark → Change
marked c mark =
    record c { sample = record c.sample { act = sent_act c.sample.act; set = mark } }

-- a change as it is sent after these
abbrev pub change_after : List Change → Change → Change
change_after before c = marked c (sent_mark c.sample.set (first_member before c))

abbrev pub changes_after : List Change → List Change → List Change
changes_after before [] = []
changes_after before (c ∷ cs) = change_after before c ∷ changes_after (c ∷ before) cs

abbrev pub samples : List Change → List Sample
samples changes = map (λ c. c.sample) changes

-- the samples of the changes as they are sent
abbrev pub sent : List Change → List Sample
sent changes = samples (changes_after [] changes)

-- the samples of the numbers from 1 on
abbrev pub replay : List Sample → List Sample
replay xs = xs ++ marker 0 ∷ []

-- ---- what is asked of the changes

-- its sample is good and carries its original; it is a change; without keys its key is zero
pub record IsSendable (keyed : Bool) (c : Change) : Type 0 where
  pub good : IsGood c.sample
  pub act : IsChange c.sample.act
  pub original : c.sample.original ≡ Some (c.original, c.number)
  pub key : keyed ≡ false → c.sample.key ≡ zero_key

-- each change is, and the marker has a number of a sample
pub record AreSendable (keyed : Bool) (changes : List Change) : Type 0 where
  pub each : AllByRecursion (IsSendable keyed) changes
  pub few : length changes + 1 < 2 ^ 63 - 1

-- the same of what is sent, which is as it is read again
pub record IsSent (keyed : Bool) (s : Sample) : Type 0 where
  pub good : IsGood s
  pub act : IsChange s.act
  pub original : IsSome s.original
  pub again : wire.sent s ≡ s
  pub key : keyed ≡ false → s.key ≡ zero_key
