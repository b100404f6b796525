-- The listing of all topics.
use Rattle.std.specs.Prelude.{◌≡◌, ℕ, ◌+◌, max, List, [], ◌∷◌, ◌++◌}
use Rattle.dur_capture.specs.declared.record.Record.{Record}
use Rattle.dur_qos.specs.declared.plan.Topic.{Topic}
use Rattle.dur_hub.specs.declared.event.Event.{Event}
use Rattle.dur_hub.specs.declared.hub.Hub.{Hub}
use Rattle.dur_hub.specs.Runs.{Run}
use Rattle.dur_hub.specs.Replays.{listing}
use Rattle.dur_hub.specs.Legal.{run_after}
use Rattle.dur_hub.specs.Hubs.{Stands}
use Rattle.dur_rerun.specs.List.Line.{topic_text}

-- the lines of what is entitled at a moment in topics, of which the first has that place in the plan
abbrev pub lines_from : Run → ℕ → ℕ → List Topic → List ℕ
lines_from run now place [] = []
lines_from run now place (t ∷ ts) = topic_text t.name (listing run place now) ++ lines_from run now (place + 1) ts

-- the lines of what is entitled at a moment, topic by topic in the plan's order
abbrev pub list_text : Run → ℕ → List ℕ
list_text run now = lines_from run now 0 run.plan.topics

-- the text is that of a hub over a plan of these topics, at this moment or at the hub's last one, whichever is later
abbrev pub IsListing : Hub → List Topic → ℕ → List ℕ → Type 0
IsListing hub topics moment text =
    (start : Run) (log : List Event) → Stands start log hub → topics ≡ (run_after start log).plan.topics
    → text ≡ list_text (run_after start log) (max moment (run_after start log).moment)
