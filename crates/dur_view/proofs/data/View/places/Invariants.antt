use Rattle.std.proofs.Common.{◌≡◌, take}
use Rattle.dur_view.specs.Full.{places_of}
use Rattle.dur_view.proofs.data.View.places.Given as goal

abbrev pub invariant-loop-topic : goal.invariant-loop-topic
invariant-loop-topic l = l.places ≡ places_of (record l.plan { topics = take l.topic-index l.plan.topics }) l.self.topics
