-- What is counted against the limits of a topic (DDS 2.2.3.19, RESOURCE_LIMITS).
use Rattle.std.specs.Prelude.{ℕ, ◌+◌, ◌-◌, ◌==◌, if◌then◌else◌, Option, List, ◌++◌, length, sum_by}
use Rattle.dur_view.specs.declared.data.Held.{Held}
use Rattle.dur_view.specs.declared.data.KeptWriter.{KeptWriter}
use Rattle.dur_view.specs.declared.limit.Limit.{Limit}
use Rattle.dur_view.specs.Past.{Past}
use Rattle.dur_view.specs.Fates.{settings, entitled, existing}
use Rattle.dur_view.specs.Refused.{passed}
use Rattle.dur_sets.specs.declared.effect.Effect.{Effect as Answer}
use Rattle.dur_sets.specs.Tells.{left, if_held}
use Rattle.dur_store.specs.declared.writer.Writer.{Writer}
use Rattle.dur_store.specs.Parts.{line_of}

-- how many members the open set of a writer of the topic has
abbrev pub held_for : ℕ → KeptWriter → ℕ
held_for t line = if line.topic == t then length line.held else 0

-- how many the open sets of the topic have
abbrev pub members_in : ℕ → List Writer → ℕ
members_in t ws = sum_by (λ w. held_for t (line_of w)) ws

-- and how many then, when the writer took its next sample, of which this is the answer, and this the member that it would be
abbrev pub members_then : List Writer → Writer → Answer → Held → ℕ
members_then ws w answer x =
    members_in w.topic ws - length w.held.items + length (left answer.before w.held.items ++ if_held answer.now x)

-- the first limit that a past passes at a moment, with so many members in open sets
abbrev pub limit_at : Past → ℕ → ℕ → Option Limit
limit_at p now members = passed (settings p) (existing p now) (entitled p now) members
