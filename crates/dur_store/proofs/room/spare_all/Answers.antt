use Rattle.std.proofs.Common.{◌∙◌}
use Rattle.dur_store.proofs.Rooms.{spare-more}
use Rattle.dur_store.proofs.room.spare_all.Goals as goal

pub loop-at-preserved : goal.loop-at-preserved
loop-at-preserved c = record {
  lines = c.spare_at.ensures.lines ∙ c.loop-at.invariant.lines;
  room = spare-more c.loop-at.writers.items c.spare_at.new.writers.items c.loop-at.at c.spare_at.ensures.stays c.in_ok-spare_at.ensures.room c.loop-at.invariant.room;
}
