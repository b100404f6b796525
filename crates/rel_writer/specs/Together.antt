-- Sets whose members stand together, as those do that a history makes effective (DDS 2.2.3.6: the
-- changes of a set become visible together).
use Rattle.std.specs.Prelude.{◌≡◌, ℕ, ◌+◌, ◌<◌, true, List, [], ◌∷◌, map, Some, slice_get, if◌then◌else◌}
use Rattle.dur_base.specs.declared.sample.Sample.{Sample}
use Rattle.dur_view.specs.declared.change.Change.{Change}
use Rattle.rel_writer.specs.Replays.{are_of_one_set, marked, sent, sent_mark}

-- between two members of a set stand its members alone
abbrev pub StandTogether : List Change → Type 0
StandTogether changes = (i j k : ℕ) (a b c : Change) → i < j → j < k
    → slice_get changes i ≡ Some a → slice_get changes j ≡ Some b → slice_get changes k ≡ Some c
    → are_of_one_set a c ≡ true → are_of_one_set a b ≡ true

-- the least place, from 1 on, of a change of this one's writer and with its mark
abbrev pub least_member : Change → List Change → ℕ
least_member c [] = 1
least_member c (x ∷ xs) = if are_of_one_set x c then 1 else least_member c xs + 1

-- a change as it is sent under that number
abbrev pub sent_among : List Change → Change → Sample
sent_among changes c = (marked c (sent_mark c.sample.set (least_member c changes))).sample

-- each change of a set is sent under the least place of its members
abbrev pub GoUnderTheirFirst : List Change → Type 0
GoUnderTheirFirst changes = StandTogether changes → sent changes ≡ map (sent_among changes) changes
