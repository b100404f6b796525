use Rattle.std.proofs.Common.{ℕ, ◌+◌, ◌≤◌, List}
use Rattle.dur_qos.specs.declared.plan.Plan.{Plan}
use Rattle.dur_view.specs.History.{History}
use Rattle.dur_view.specs.Stored.{stored}
use Rattle.dur_hub.specs.Runs.{Writer}
use Rattle.dur_hub.specs.GoodRuns.{Apart}
use Rattle.dur_hub.specs.Lines.{LinesFit}
use Rattle.dur_hub.specs.Places.{guids_of, found, IsIndex}
use Rattle.dur_hub.specs.Queues.{Queued}
use Rattle.dur_hub.proofs.marking.pass_all.Given as goal

abbrev pub invariant-loop : goal.invariant-loop
invariant-loop l =
    (plan : Plan) (h : History) (t d : ℕ) (ws : List Writer) → Queued l.fn.queue t d (stored h)
    → d + l.count ≤ t → Apart ws
    → IsIndex (found l.index) (guids_of ws) → LinesFit plan h d l.fn.lines ws
    → Queued l.queue t (d + l.counter) (stored h) × LinesFit plan h (d + l.counter) l.lines ws
