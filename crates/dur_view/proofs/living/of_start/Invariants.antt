use Rattle.std.proofs.Common.{◌≡◌, map, take}
use Rattle.std.specs.Prelude.{filter}
use Rattle.dur_view.specs.Past.{Begin, ◌▹▹◌, part, made_of, is_kept_of}
use Rattle.dur_view.specs.Living.{all_made, living_of}
use Rattle.dur_view.proofs.living.of_start.Given as goal

abbrev pub invariant-loop-kept : goal.invariant-loop-kept
invariant-loop-kept l = all_made l.list ≡ living_of (Begin (part l.start l.topic) ▹▹ l.events) l.now (map made_of (filter (is_kept_of l.start l.topic) (take l.kept-index l.start.kept)))
