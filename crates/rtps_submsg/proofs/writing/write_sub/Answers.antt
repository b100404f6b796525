use Rattle.rtps_submsg.proofs.SubBack.{pieces_back}
use Rattle.rtps_submsg.proofs.writing.write_sub.Goals as goal

pub returns-clause-back : goal.returns-clause-back
returns-clause-back c = λ range rest.
    pieces_back _ _ _ _ rest _ _ _ _ _ c.place.ensures c.header-header.ensures c.as_slice.ensures.value c.body_octets-body.ensures.text c.payload-payload.ensures c.len.ensures.value c.requires c.body_octets-body.ensures.typed range
