-- Another way to say what is purged: the list of an instance's quiet stretches that have ended.
use Rattle.std.specs.Prelude.{ℕ, ◌-◌, Bool, ◌&&◌, if◌then◌else◌, nat_lt, nat_le, Option, Some, None, List, [], ◌∷◌}
use Rattle.dur_view.specs.Identities.{Key}
use Rattle.dur_view.specs.Past.{Past, Begin, ◌▹◌}
use Rattle.dur_view.specs.Fates.{time_of, is_of, count, quiet_since}

-- A quiet stretch that has ended, and how many changes of its instance stood when it began.
pub record Stretch : Type 0 where
  pub from : ℕ
  pub to : ℕ
  pub standing : ℕ

-- one more, if the instance was quiet
abbrev pub with_ended : Option ℕ → ℕ → ℕ → List Stretch → List Stretch
with_ended None to standing before = before
with_ended (Some from) to standing before = record { from = from; to = to; standing = standing } ∷ before

-- the ended stretches of an instance: one ends at the next change
abbrev pub ended : Past → Key → List Stretch
ended (Begin v) k = []
ended (p ▹ e) k = if is_of k e then with_ended (quiet_since p k) (time_of e) (count p k) (ended p k) else ended p k

-- whether a stretch that began at the change or after it is longer than the delay
abbrev pub purges : ℕ → ℕ → Stretch → Bool
purges longest ordinal s = nat_le ordinal s.standing && nat_lt longest (s.to - s.from)
