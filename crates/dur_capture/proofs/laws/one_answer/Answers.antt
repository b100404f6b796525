use Rattle.dur_capture.proofs.Settled as settled
use Rattle.dur_capture.proofs.laws.one_answer.Goals as goal

pub returns-clause-waits_alone : goal.returns-clause-waits_alone
returns-clause-waits_alone c f ended w = (λ r g t. settled.waits_not_takes f ended r g w t, λ e b. settled.waits_not_breaks e f ended w b)

pub returns-clause-record_alone : goal.returns-clause-record_alone
returns-clause-record_alone c f ended r g t e b = settled.takes_not_breaks e f ended r g t b

pub returns-clause-one_record : goal.returns-clause-one_record
returns-clause-one_record c = settled.one_record

pub returns-clause-one_break : goal.returns-clause-one_break
returns-clause-one_break c f ended d e = settled.one_break d e f ended
