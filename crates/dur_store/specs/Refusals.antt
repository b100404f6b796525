-- What a store answers for a limit, and for want of memory.
use Rattle.dur_view.specs.declared.limit.Limit.{Limit}
use Rattle.dur_view.specs.declared.limit.Limit.TheVariants.{Instances, PerInstance, Samples, Held}
use Rattle.dur_view.specs.declared.limit.Refuse.{Refuse as Cause}
use Rattle.dur_view.specs.declared.limit.Refuse.TheVariants as cause
use Rattle.dur_store.specs.declared.refuse.Refuse.{Refuse}
use Rattle.dur_store.specs.declared.refuse.Refuse.TheVariants as refuse

abbrev pub refusal_for : Limit → Refuse
refusal_for Instances = refuse.Instances
refusal_for PerInstance = refuse.PerInstance
refusal_for Samples = refuse.Samples
refusal_for Held = refuse.Held

abbrev pub refusal_of : Cause → Refuse
refusal_of (cause.Limit limit) = refusal_for limit
refusal_of cause.OutOfMemory = refuse.OutOfMemory
