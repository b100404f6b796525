use Rattle.std.proofs.Common.{arith, subst, List}
use Rattle.std.proofs.lemmas.List.{take_all}
use Rattle.std.specs.List.{AllByRecursion}
use Rattle.rtps_submsg.specs.declared.sub.Sub.{Sub}
use Rattle.rtps_message.specs.Written.{IsWritten, ReadsBack}
use Rattle.rtps_message.proofs.Back.{tells_back}
use Rattle.rtps_message.proofs.Places.{opened, one_more, room_for, all_more, opening_long}
use Rattle.rtps_message.proofs.writing.write_message.Goals as goal

pub split_at_mut-front-requires : goal.split_at_mut-front-requires
split_at_mut-front-requires c =
    let long = opening_long c.args.from c.header-header.result c.args.subs.now c.header-header.ensures.text c.header-header.ensures.len in
    omega (arith, long.1, c.requires.room)

pub loop-sub-init : goal.loop-sub-init
loop-sub-init c =
    record {
      written = opened c.args.from c.args.out.now c.header-header.result _ _ c.header-header.ensures.text c.header-header.ensures.len c.copy_from_slice.ensures.after c.split_at_mut-front.ensures.back;
      back = tt;
    }

pub put-at-requires-clause-room : goal.put-at-requires-clause-room
put-at-requires-clause-room c =
    room_for c.args.from c.args.out.now c.loop-sub.out c.args.subs.now c.loop-sub.sub-index c.loop-sub.at c.sub-item.result c.loop-sub-test.true c.sub-item.is c.requires.room c.loop-sub.invariant.written

pub loop-sub-preserved : goal.loop-sub-preserved
loop-sub-preserved c = record {
  written =
      one_more c.args.out.now c.loop-sub.out c.put-at.new.out c.args.from c.args.subs.now c.loop-sub.sub-index c.loop-sub.at c.put-at.result c.sub-item.result c.loop-sub-test.true c.sub-item.is c.loop-sub.invariant.written
      c.put-at.ensures.end c.put-at.ensures.text;
  back = all_more c.args.subs.now c.loop-sub.sub-index c.sub-item.result c.loop-sub-test.true c.sub-item.is c.loop-sub.invariant.back c.put-at.ensures.back;
}

pub returns-clause-written : goal.returns-clause-written
returns-clause-written c = subst (λ (t : List Sub). IsWritten c.args.out.now c.loop-sub.out c.args.from t c.loop-sub.at) (take_all c.loop-sub.sub-index c.args.subs.now (omega (arith, c.loop-sub-test.false))) c.loop-sub.invariant.written

pub returns-clause-back : goal.returns-clause-back
returns-clause-back c =
    let all = take_all c.loop-sub.sub-index c.args.subs.now (omega (arith, c.loop-sub-test.false)) in
    let written = subst (λ (t : List Sub). IsWritten c.args.out.now c.loop-sub.out c.args.from t c.loop-sub.at) all c.loop-sub.invariant.written in
    tells_back _ _ c.args.from c.args.subs.now c.loop-sub.at c.prefix_size.ensures written (subst (λ (t : List Sub). AllByRecursion ReadsBack t) all c.loop-sub.invariant.back)
