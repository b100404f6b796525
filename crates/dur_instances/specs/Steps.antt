-- What an event does to a row and to a kept change.
use Rattle.std.specs.Prelude.{ℕ, ◌+◌, Bool, ◌&&◌, if◌then◌else◌, Option, Some, None, List, [], ◌∷◌}
use Rattle.dur_view.specs.Words.{is_change}
use Rattle.dur_view.specs.declared.change.TopicEvent.{TopicEvent}
use Rattle.dur_view.specs.declared.change.TopicEvent.TheVariants.{Effect, Gone}
use Rattle.dur_view.specs.Fates.{is_of, is_nobody, is_long}
use Rattle.dur_view.specs.Lines.{registered_after, quiet_after, disposed_after}
use Rattle.dur_instances.specs.Trimmed.{Row, Late}

abbrev pub is_row_quiet : Row → Bool
is_row_quiet r = r.disposed && is_nobody r.registered

-- the row after an event
abbrev pub row_after : TopicEvent → Row → Row
row_after e r =
    record {
      key = r.key;
      disposed = disposed_after e r.key r.disposed;
      quiet = quiet_after e r.key (is_row_quiet r) (disposed_after e r.key r.disposed && is_nobody (registered_after e r.key r.registered)) r.quiet;
      registered = registered_after e r.key r.registered;
    }

-- a kept change after an event, in a topic of this depth
abbrev pub late_after : Option ℕ → TopicEvent → Late → Late
late_after None e c = c
late_after (Some depth) e c = if is_of c.sample.key e then record c { later = c.later + 1 } else c

-- the change that an event is, as it is kept
abbrev pub late_by : TopicEvent → List Late
late_by (Effect m by w n a s) = if is_change s.act then record { later = 0; writer = w; number = n; arrived = Some a; sample = s } ∷ [] else []
late_by (Gone m by) = []

-- whether the instance is purged at a moment, in a topic with this cleanup delay in ticks
abbrev pub is_row_long : ℕ → ℕ → Row → Bool
is_row_long longest now r = is_long r.quiet longest now
