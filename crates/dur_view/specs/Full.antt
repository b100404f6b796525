-- A view with all that a plan declares. The plan, in place of what DDS announces, is this project's own.
use Rattle.std.specs.Prelude.{ℕ, not, List, [], ◌++◌, map, filter, option_and_then, unwrap_or, slice_get}
use Rattle.std.specs.Option.{is_some}
use Rattle.dur_qos.specs.declared.plan.Plan.{Plan}
use Rattle.dur_qos.specs.declared.plan.Topic.{Topic}
use Rattle.dur_qos.specs.declared.plan.WriterLine.{WriterLine}
use Rattle.dur_qos.specs.Plan.{place_of}
use Rattle.dur_view.specs.declared.data.KeptWriter.{KeptWriter}
use Rattle.dur_view.specs.declared.data.View.{View}
use Rattle.dur_view.specs.Words.{stands}
use Rattle.dur_view.specs.History.{History, Start, ◌▸◌}

-- the topics of the plan that a list of topics lacks, by their names, in the plan's order
abbrev pub more_topics : Plan → List Topic → List Topic
more_topics plan topics = filter (λ t. not (is_some (place_of t.name topics))) plan.topics

-- the place among the topics of the one that stands at a place in the plan, by its name
abbrev pub topic_place : Plan → List Topic → ℕ → ℕ
topic_place plan topics i = unwrap_or (option_and_then (λ t. place_of t.name topics) (slice_get plan.topics i)) 0

-- the places among the topics of those of the plan, in the plan's order
abbrev pub places_of : Plan → List Topic → List ℕ
places_of plan topics = map (λ t. unwrap_or (place_of t.name topics) 0) plan.topics

-- a declared writer of which nothing was handled
abbrev pub new_writer : Plan → List Topic → WriterLine → KeptWriter
new_writer plan topics w = record { guid = w.guid; topic = topic_place plan topics w.topic; next = 1; held = [] }

-- the line of a declared writer whose topic has the same place in the plan
abbrev pub first_line : WriterLine → KeptWriter
first_line w = record { guid = w.guid; topic = w.topic; next = 1; held = [] }

-- the writers of the plan that a view lacks
abbrev pub more_writers : Plan → List Topic → View → List KeptWriter
more_writers plan topics v = map (new_writer plan topics) (filter (λ w. not (stands v w.guid)) plan.writers)

-- full(plan, v): v with the topics and then the writers of the plan that it lacks, at the end, in the plan's order, with next number 1.
abbrev pub full : Plan → View → View
full plan v =
    record {
      last = v.last;
      topics = v.topics ++ more_topics plan v.topics;
      writers = v.writers ++ more_writers plan (v.topics ++ more_topics plan v.topics) v;
      instances = v.instances;
      kept = v.kept;
    }

-- the view of nothing
abbrev pub nothing : View
nothing = record { last = 0; topics = []; writers = []; instances = []; kept = [] }

-- blank(plan): all that the plan declares, and nothing handled.
abbrev pub blank : Plan → View
blank plan = full plan nothing

-- full of a history: its entries over the full view of its start
abbrev pub filled : Plan → History → History
filled plan (Start v) = Start (full plan v)
filled plan (h ▸ e) = filled plan h ▸ e
