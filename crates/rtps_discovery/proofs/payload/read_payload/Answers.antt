use Rattle.std.proofs.Common.{rules}
use Rattle.rtps_discovery.proofs.Payloads.{payload_all}
use Rattle.rtps_discovery.proofs.payload.read_payload.Goals as goal

pub returns-clause-all : goal.returns-clause-all
returns-clause-all c =
    payload_all c.args.topics.now c.args.payload.now c.split_at-2.result.1.now c.in_ok-little.little c.read_list.result (search rules) (search rules) c.read_list.ensures.all
