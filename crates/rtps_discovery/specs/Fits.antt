-- What holds of everything that is announced: a lease that ends is below 7fffffff seconds, and a topic is one of the
-- plan.
use Rattle.std.specs.Prelude.{ℕ, ◌*◌, ◌^◌, ◌<◌, List, length, Option, IfSome}
use Rattle.dur_qos.specs.declared.plan.Topic.{Topic as TopicLine}
use Rattle.rtps_discovery.specs.declared.announcement.Announcement.{Announcement}
use Rattle.rtps_discovery.specs.declared.announcement.Announcement.TheVariants as says
use Rattle.rtps_discovery.specs.declared.list.Listed.{Listed}
use Rattle.rtps_discovery.specs.declared.parameter.Parameter.{Parameter}
use Rattle.rtps_discovery.specs.declared.parameter.Parameter.TheVariants.{Lease, Topic, Kind, Participant, Endpoint, Passed}

abbrev pub IsLease : Option ℕ → Type 0
IsLease lease = IfSome lease (λ ticks. ticks < 0x7fffffff * 2 ^ 32)

abbrev pub IsPlace : List TopicLine → Option ℕ → Type 0
IsPlace topics place = IfSome place (λ i. i < length topics)

abbrev pub FitsParameter : List TopicLine → Parameter → Type 0
FitsParameter topics (Lease ticks) = IsLease ticks
FitsParameter topics (Topic place) = IsPlace topics place
FitsParameter topics (Kind kind) = Unit {0}
FitsParameter topics (Participant guid) = Unit {0}
FitsParameter topics (Endpoint guid) = Unit {0}
FitsParameter topics Passed = Unit {0}

abbrev pub FitsListed : List TopicLine → Listed → Type 0
FitsListed topics l = IsLease l.lease × IsPlace topics l.topic

abbrev pub Fits : List TopicLine → Announcement → Type 0
Fits topics (says.Participant guid lease) = IsLease lease
Fits topics (says.Writer guid topic kind) = topic < length topics
Fits topics (says.Reader guid topic kind) = topic < length topics
Fits topics (says.Gone guid) = Unit {0}
