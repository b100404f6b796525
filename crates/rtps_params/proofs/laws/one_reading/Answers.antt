use Rattle.rtps_params.proofs.OneReading.{reads_once}
use Rattle.rtps_params.proofs.laws.one_reading.Goals as goal

pub returns : goal.returns
returns c = λ bytes little fits. reads_once bytes little fits
