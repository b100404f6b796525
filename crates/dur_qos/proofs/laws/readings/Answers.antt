use Rattle.dur_qos.proofs.Runs.{after_append, taken_append}
use Rattle.dur_qos.proofs.Texts.{text_read, break_told, unfinished_read, no_further as none_after}
use Rattle.dur_qos.proofs.Goods.{text_good}
use Rattle.dur_qos.proofs.Outcomes.{outcome}
use Rattle.dur_qos.proofs.laws.readings.Goals as goal

pub returns : goal.returns
returns c = record { pieces = after_append; octets = taken_append; read = text_read; no_further = none_after; good = text_good; told = break_told; unfinished = unfinished_read; each = outcome }
