use Rattle.std.proofs.Common.{◌≡◌, ◌+◌, ◌++◌, max, List, length}
use Rattle.dur_hub.specs.declared.event.Event.{Event}
use Rattle.dur_hub.specs.Runs.{Run}
use Rattle.dur_hub.specs.Legal.{run_after}
use Rattle.dur_hub.specs.Hubs.{Stands}
use Rattle.dur_rerun.specs.List.Listing.{lines_from, list_text}
use Rattle.dur_rerun.proofs.list.listing.text_of.Given as goal

-- with the lines of the topics that are left it is the text
abbrev pub invariant-loop-rest : goal.invariant-loop-rest
invariant-loop-rest l = record {
  places : l.place + length l.rest ≡ length l.topics;
  text : (start : Run) (log : List Event) → Stands start log l.hub → l.topics ≡ (run_after start log).plan.topics
      → l.out.items ++ lines_from (run_after start log) (max l.moment (run_after start log).moment) l.place l.rest ≡ list_text (run_after start log) (max l.moment (run_after start log).moment);
}

abbrev pub decreases-loop-rest : goal.decreases-loop-rest
decreases-loop-rest l = length l.rest
