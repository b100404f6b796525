use Rattle.std.proofs.Common.{◌∙◌, rules}
use Rattle.rtps_discovery.proofs.Payloads.{says_all, says_none, only_read}
use Rattle.rtps_discovery.proofs.reading.said.Goals as goal

pub returns-in_err-read_payload-clause-all : goal.returns-in_err-read_payload-clause-all
returns-in_err-read_payload-clause-all c a h =
    absurd (says_none c.args.topics.now c.args.source c.args.raw.now c.read_payload.result (search rules) c.in_err-read_payload.was (only_read c.args.topics.now c.as_slice.result.now c.args.raw.now.payload c.read_payload.result c.as_slice.ensures c.read_payload.ensures.all) a h)

pub returns-in_ok-read_payload-clause-all : goal.returns-in_ok-read_payload-clause-all
returns-in_ok-read_payload-clause-all c a h =
    c.present.ensures.value ∙ says_all c.args.topics.now c.args.source c.args.raw.now c.read_payload.result c.in_ok-read_payload.field-0 (search rules) c.in_ok-read_payload.was (only_read c.args.topics.now c.as_slice.result.now c.args.raw.now.payload c.read_payload.result c.as_slice.ensures c.read_payload.ensures.all) a h
