use Rattle.std.proofs.Common.{◌≤◌, ◌<◌, length, refl, sym, subst, arith}
use Rattle.std.specs.Prelude.{IsOk}
use Rattle.dur_instances.specs.Trimmed.{Trimmed}
use Rattle.dur_store.proofs.Lists.{got}
use Rattle.dur_store.proofs.Rooms.{got-none, got-at, set-is, ok-then}
use Rattle.dur_store.proofs.room.room_at.Goals as goal

pub returns-clause-rest : goal.returns-clause-rest
returns-clause-rest c =
    let xs = c.args.topics.now.items in
    let old = c.index_mut.result.now in
    let lt : c.args.at < length xs = (let len = c.args.topics.now.ok.0 in omega arith) in
    got-at xs c.args.at old c.reserve.new.self (got xs xs c.args.at old refl lt c.index_mut.ensures.value) c.reserve.ensures.stays c.reserve.ensures.rest

pub returns-then-at-len-clause-rest : goal.returns-then-at-len-clause-rest
returns-then-at-len-clause-rest c = got-none c.args.topics.now.items

pub returns-clause-room : goal.returns-clause-room
returns-clause-room c =
    let xs = c.args.topics.now.items in
    let lt : c.args.at < length xs = (let len = c.args.topics.now.ok.0 in omega arith) in
    ok-then c.reserve.result c.reserve.ensures.room (λ room x at. subst (λ (y : Trimmed). c.args.more ≤ y.room) (set-is xs c.args.at c.reserve.new.self x lt at) room)

pub returns-clause-enough : goal.returns-clause-enough
returns-clause-enough c = λ has.
    let xs = c.args.topics.now.items in
    let old = c.index_mut.result.now in
    let lt : c.args.at < length xs = (let len = c.args.topics.now.ok.0 in omega arith) in
    subst IsOk (sym (c.reserve.ensures.enough (has old (got xs xs c.args.at old refl lt c.index_mut.ensures.value)))) refl
