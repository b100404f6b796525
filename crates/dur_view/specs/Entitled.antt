-- What an entry brings.
use Rattle.std.specs.Prelude.{ℕ, ◌==◌, if◌then◌else◌, List, []}
use Rattle.dur_base.specs.declared.entry.Entry.{Entry}
use Rattle.dur_view.specs.declared.data.View.{View}
use Rattle.dur_view.specs.declared.change.TopicEvent.{TopicEvent}
use Rattle.dur_view.specs.Words.{topic_of, place_in}
use Rattle.dur_view.specs.History.{Start, ◌+>◌, held, writer_of, brings}

-- what an entry brings to a topic after a start and the entries after it
abbrev pub brings_over : ℕ → View → List Entry → Entry → List TopicEvent
brings_over t v x e = if topic_of v (writer_of e) == t then brings (place_in v.writers (writer_of e)) (held (Start v +> x) (writer_of e)) e else []
