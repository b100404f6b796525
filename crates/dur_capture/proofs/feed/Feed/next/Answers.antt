use Rattle.std.proofs.Common.{◌∙◌}
use Rattle.dur_capture.proofs.Records.{handed_out}
use Rattle.dur_capture.proofs.feed.Feed.next.Goals as goal

pub returns-in-Ok-clause-taken : goal.returns-in-Ok-clause-taken
returns-in-Ok-clause-taken c =
    handed_out _ _ _ _ _ _ _ _ _ _ c.self.view_is c.in-None.is c.as_slice.ensures c.in-Ok.ensures.front (c.of.ensures ∙ c.advance.ensures) c.in-Ok.ensures.rest.0 c.in-Record.ensures
