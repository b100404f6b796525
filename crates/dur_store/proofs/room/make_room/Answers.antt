use Rattle.std.proofs.Common.{◌<◌, arith}
use Rattle.std.proofs.lemmas.Option.{slice_get_within}
use Rattle.dur_store.proofs.Rooms.{room-more, got-none, got-more}
use Rattle.dur_store.proofs.room.make_room.Goals as goal

pub loop-at-preserved : goal.loop-at-preserved
loop-at-preserved c = record {
  rest = got-more c.args.topics.now.items c.loop-at.topics.items c.room_at.new.topics.items c.loop-at.invariant.rest c.room_at.ensures.rest;
  room = room-more c.args.needed.now c.loop-at.topics.items c.room_at.new.topics.items c.loop-at.at c.needed_at-more.result c.needed_at-more.ensures c.room_at.ensures.rest.stays c.in_ok-room_at.ensures.room c.loop-at.invariant.room;
}

pub loop-at-init : goal.loop-at-init
loop-at-init c = record { rest = got-none c.args.topics.now.items; room = λ t x lt at. absurd (omega (arith, lt)) }

pub returns-in_err-room_at-clause-rest : goal.returns-in_err-room_at-clause-rest
returns-in_err-room_at-clause-rest c = got-more c.args.topics.now.items c.loop-at.topics.items c.room_at.new.topics.items c.loop-at.invariant.rest c.room_at.ensures.rest

pub returns-clause-room : goal.returns-clause-room
returns-clause-room c = λ t x at.
    let xs = c.loop-at.topics.items in
    let within = slice_get_within xs t x at in
    let low : t < c.loop-at.at = (let len = c.args.topics.now.ok.0 in omega (arith, within, c.loop-at.invariant.rest.count, c.len-at-end.ensures)) in
    c.loop-at.invariant.room t x low at
