use Rattle.dur_view.proofs.PersistentSound.{persistent-sound}
use Rattle.dur_view.proofs.PersistentHistories.{history-persistent}
use Rattle.dur_view.proofs.law.persistent_parts_are_histories.Goals as goal

pub returns : goal.returns
returns c = record { start = persistent-sound; entries = history-persistent }
