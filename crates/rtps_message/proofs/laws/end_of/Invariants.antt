use Rattle.std.proofs.Common.{[], List, length, ◌-◌}
use Rattle.dur_base.specs.declared.fact.Fact.{Fact}
use Rattle.rtps_message.specs.declared.context.Context.{Context}
use Rattle.rtps_message.specs.Facts.{start}
use Rattle.rtps_message.proofs.Runs.{Stands}
use Rattle.rtps_message.proofs.laws.end_of.Given as goal

abbrev pub invariant-loop-at : goal.invariant-loop-at
invariant-loop-at l = record { facts : List Fact; context : Context; stands : Stands [] l.bytes (start l.bytes) facts context l.at }

abbrev pub decreases-loop-at : goal.decreases-loop-at
decreases-loop-at l = length l.bytes - l.at
