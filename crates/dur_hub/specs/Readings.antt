-- What the reading calls of a hub answer, which are no events.
use Rattle.std.specs.Prelude.{ℕ, ◌%◌, ◌^◌, nat_lt, Bool, List, length, max, [], ◌∷◌, ◌++◌}
use Rattle.dur_view.specs.declared.change.Change.{Change}
use Rattle.dur_view.specs.Extend.{entries_of}
use Rattle.dur_hub.specs.declared.event.Event.{Event}
use Rattle.dur_hub.specs.declared.event.Event.TheVariants as call
use Rattle.dur_hub.specs.declared.reply.Refusal.{Refusal}
use Rattle.dur_hub.specs.Hearings.{refusals_of}
use Rattle.dur_hub.specs.declared.reply.Counts.{Counts}
use Rattle.dur_view.specs.Stored.{stored}
use Rattle.dur_hub.specs.Runs.{Run}
use Rattle.dur_hub.specs.Replays.{listing}

-- `counts`: what the run admitted, acknowledged, refused and replayed, modulo 2^64
abbrev pub counts : Run → Counts
counts r =
    record {
      entries = length (entries_of r.history) % 2 ^ 64;
      acks = r.acks % 2 ^ 64;
      refused = r.refused % 2 ^ 64;
      replays = length r.given % 2 ^ 64;
    }

-- `listing`: what is entitled in a topic of the plan, at the greater of a moment and the last one
abbrev pub listed : Run → ℕ → ℕ → List Change
listed r t m = listing r t (max m r.moment)

-- `last`: the last moment
abbrev pub last : Run → ℕ
last r = r.moment

-- `has_pending`: whether `take` would hand out an entry
abbrev pub has_pending : Run → Bool
has_pending r = nat_lt r.taken (length (stored r.history))

-- the refusals that a list of calls answered
abbrev pub refusals_by : Event → List Refusal
refusals_by (call.Receive m lost steps cut stopped) = refusals_of (steps ++ cut)
refusals_by e = []

abbrev pub refusals_in : List Event → List Refusal
refusals_in [] = []
refusals_in (e ∷ es) = refusals_by e ++ refusals_in es
