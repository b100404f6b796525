use Rattle.std.proofs.Common.{◌∙◌}
use Rattle.rtps_discovery.proofs.Payloads.{leaves_all, leaves_none, only_read}
use Rattle.rtps_discovery.proofs.reading.leaving.Goals as goal

pub returns-in_err-read_payload-in-None-clause-all :
    goal.returns-in_err-read_payload-in-None-clause-all
returns-in_err-read_payload-in-None-clause-all c g h =
    absurd (leaves_none c.args.topics.now c.args.source c.args.raw.now.hash c.args.raw.now.payload c.read_payload.result c.in-None.is c.in_err-read_payload-in-None.was (only_read c.args.topics.now c.as_slice.result.now c.args.raw.now.payload c.read_payload.result c.as_slice.ensures c.read_payload.ensures.all) g h)

pub returns-in_ok-read_payload-in-None-clause-all :
    goal.returns-in_ok-read_payload-in-None-clause-all
returns-in_ok-read_payload-in-None-clause-all c g h =
    c.subject.ensures ∙ leaves_all c.args.topics.now c.args.source c.args.raw.now.hash c.args.raw.now.payload c.read_payload.result c.in_ok-read_payload-in-None.field-0 c.in-None.is c.in_ok-read_payload-in-None.was (only_read c.args.topics.now c.as_slice.result.now c.args.raw.now.payload c.read_payload.result c.as_slice.ensures c.read_payload.ensures.all) g h
