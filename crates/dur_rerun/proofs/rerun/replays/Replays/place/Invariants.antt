use Rattle.std.proofs.Common.{◌≡◌, None, take}
use Rattle.dur_rerun.specs.Rerun.Replies.{session_for}
use Rattle.dur_rerun.proofs.rerun.replays.Replays.place.Given as goal

-- none of the first ones is to this reader
abbrev pub invariant-loop-at : goal.invariant-loop-at
invariant-loop-at l = session_for (take l.at l.replays) l.reader ≡ None
