use Rattle.std.proofs.Common.{◌≡◌, ◌≤◌, length}
use Rattle.dur_rerun.specs.Saying.{IsSaying}
use Rattle.dur_rerun.proofs.output.say.Given as goal

abbrev pub invariant-loop-rest : goal.invariant-loop-rest
invariant-loop-rest g l = record {
  said : g.K.Machine.tells → IsSaying l.fn.text l.rest (g.K.Machine.world l.fn.sink).now (g.K.Machine.world l.sink).now;
  within : length l.rest ≤ length l.fn.text;
  disk : g.K.Machine.disk_faults l.sink ≡ g.K.Machine.disk_faults l.fn.sink;
  later : g.K.Machine.sink_faults l.fn.sink ≤ g.K.Machine.sink_faults l.sink;
}

abbrev pub decreases-loop-rest : goal.decreases-loop-rest
decreases-loop-rest g l = length l.rest
