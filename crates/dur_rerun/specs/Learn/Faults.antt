-- The statuses with which nothing is learnt.
use Rattle.rtps_discovery.specs.declared.fault.LearnFault.{LearnFault}
use Rattle.rtps_discovery.specs.declared.fault.LearnFault.TheVariants as fault
use Rattle.dur_rerun.specs.declared.status.Status.{Status}
use Rattle.dur_rerun.specs.declared.status.Status.TheVariants.{OutOfMemory, TooMany}

abbrev pub learn_status : LearnFault → Status
learn_status fault.TooMany = TooMany
learn_status fault.OutOfMemory = OutOfMemory
