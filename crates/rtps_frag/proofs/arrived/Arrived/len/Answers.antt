use Rattle.std.proofs.Common.{◌∙◌, length, sym, ap}
use Rattle.rtps_frag.proofs.Marks.{length-marks_in}
use Rattle.rtps_frag.proofs.arrived.Arrived.len.Goals as goal

pub returns : goal.returns
returns c = sym (length-marks_in c.self.inside.words.items c.self.inside.count) ∙ ap length c.self.view_is
