use Rattle.std.proofs.Common.{arith, refl, inl, inr}
use Rattle.rtps_submsg.proofs.Headers.{read_frames, read_head_breaks}
use Rattle.rtps_submsg.proofs.reading.sub_at.Goals as goal

pub returns-in-Err-clause-err : goal.returns-in-Err-clause-err
returns-in-Err-clause-err c = inl (read_head_breaks _ _ _ (λ i. omega (arith, c.type_inv.bytes i)) c.in-Err.ensures.gives)

pub returns-in-Ok-read_body-clause-ok : goal.returns-in-Ok-read_body-clause-ok
returns-in-Ok-read_body-clause-ok c = record {
  frame = record { id = c.in-Ok.frame.id; flags = c.in-Ok.frame.flags; body = c.in-Ok.frame.body.now };
  framed = read_frames _ _ (λ i. omega (arith, c.type_inv.bytes i)) c.in-Ok.ensures.gives;
  body = c.in-Ok-read_body.ensures.ok;
  takes = refl;
}

pub returns-in-Err-read_body-clause-err : goal.returns-in-Err-read_body-clause-err
returns-in-Err-read_body-clause-err c = inr (record {
  frame = record { id = c.in-Ok.frame.id; flags = c.in-Ok.frame.flags; body = c.in-Ok.frame.body.now };
  framed = read_frames _ _ (λ i. omega (arith, c.type_inv.bytes i)) c.in-Ok.ensures.gives;
  broken = c.in-Err-read_body.broken;
  breaks = c.in-Err-read_body.ensures.err;
  place = refl;
  kind_is = refl;
})
