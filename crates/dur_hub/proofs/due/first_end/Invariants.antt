use Rattle.std.proofs.Common.{◌≡◌, ℕ, drop, ◌||◌}
use Rattle.std.specs.List.{list_any}
use Rattle.dur_hub.specs.Looks.{is_late}
use Rattle.dur_hub.specs.Dues.{is_after}
use Rattle.dur_hub.proofs.due.first_end.Given as goal

abbrev pub invariant-loop-line : goal.invariant-loop-line
invariant-loop-line l =
    (now : ℕ) → list_any (λ line. is_late line now) l.lines ≡ (is_after l.due now || list_any (λ line. is_late line now) (drop l.line-index l.lines))
