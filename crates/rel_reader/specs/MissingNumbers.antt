-- The missing numbers: those that an ACKNACK asks for (DDSI-RTPS 8.3.8.1).
use Rattle.std.specs.Prelude.{ℕ, ◌+◌, ◌&&◌, Bool, nat_le, min}
use Rattle.rel_reader.specs.Knowledge.{is_unknown}
use Rattle.rel_reader.specs.Stories.{Story, next}
use Rattle.rel_reader.specs.KnownNumbers.{known}

-- k is missing, by a HEARTBEAT with this last number, for an acknowledgement with this base: it is from next on, at most the
-- lesser of last and base + 255, and nothing is known of it
abbrev pub is_missing : Story → ℕ → ℕ → ℕ → Bool
is_missing h base last k = nat_le (next h) k && (nat_le k (min last (base + 255)) && is_unknown (known h k))
