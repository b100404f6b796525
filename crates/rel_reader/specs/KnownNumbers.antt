-- The known numbers of a writer, by all that ever came of it (DDSI-RTPS 8.4.10.4).
use Rattle.std.specs.Prelude.{ℕ, ◌+◌, ◌-◌, ◌^◌, ◌==◌, ◌&&◌, ◌||◌, nat_lt, nat_le, Bool, Option, if◌then◌else◌}
use Rattle.dur_base.specs.declared.sample.Sample.{Sample}
use Rattle.dur_base.specs.NumberSets.{NumberSet, names}
use Rattle.rel_reader.specs.declared.known.Known.{Known}
use Rattle.rel_reader.specs.declared.known.Known.TheVariants.{Unknown, Irrelevant}
use Rattle.rel_reader.specs.Knowledge.{or_else, read_as}
use Rattle.rel_reader.specs.Stories.{Story, Begin, ◌▸◌, Data, Gap, Beat, Handled, Refused, next}

-- in the window: one of the 256 numbers from next on, and below 2^63 - 1, of which nothing is ever known
abbrev pub is_near : ℕ → ℕ → Bool
is_near next k = nat_lt k (next + 256) && nat_lt k (2 ^ 63 - 1)

-- a DATA of the number j tells what it reads as, where j is in the window
abbrev pub says_data : ℕ → ℕ → Option Sample → ℕ → Known
says_data next j read k = if (k == j) && is_near next k then read_as read else Unknown

-- a GAP makes irrelevant all below its set's base, where its start is not above next, and of the numbers from its start to
-- below that base, and of its set, those that are in the window
abbrev pub says_gap : ℕ → ℕ → NumberSet → ℕ → Known
says_gap next start set k = if ((nat_le start next && nat_lt k set.base) || ((nat_le start k && nat_lt k set.base) && is_near next k)) || (names set k && is_near next k) then Irrelevant else Unknown

-- a HEARTBEAT makes irrelevant all below its first available number
abbrev pub says_beat : ℕ → ℕ → Known
says_beat first k = if nat_lt k first then Irrelevant else Unknown

-- What is known of the number k, where k is at least next. The first news of it counts, handling lower numbers leaves it as it
-- is, and a refusal ends what was known of the next number.
abbrev pub known : Story → ℕ → Known
known (Begin n) k = Unknown
known (h ▸ Data j read) k = or_else (known h k) (says_data (next h) j read k)
known (h ▸ Gap start set) k = or_else (known h k) (says_gap (next h) start set k)
known (h ▸ Beat first) k = or_else (known h k) (says_beat first k)
known (h ▸ Handled to) k = known h k
known (h ▸ Refused) k = if k == next h then Unknown else known h k
