use Rattle.dur_hub.proofs.BlankOpens.{blank_opens}
use Rattle.dur_hub.proofs.law.hubs_open_over_blank_views.Goals as goal

pub returns : goal.returns
returns c = blank_opens
