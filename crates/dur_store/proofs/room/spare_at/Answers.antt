use Rattle.std.proofs.Common.{◌<◌, length, refl, ap, subst, arith}
use Rattle.std.proofs.Math.ListN.{set}
use Rattle.dur_view.specs.declared.data.KeptWriter.{KeptWriter}
use Rattle.dur_store.specs.declared.writer.Writer.{Writer}
use Rattle.dur_store.specs.Parts.{line_of}
use Rattle.dur_store.proofs.Lists.{got}
use Rattle.dur_store.proofs.Entries.{same-put}
use Rattle.dur_store.proofs.Rooms.{put-writers, few-same, set-is, ok-then}
use Rattle.dur_store.proofs.room.spare_at.Goals as goal

pub returns-clause-lines : goal.returns-clause-lines
returns-clause-lines c =
    let ws = c.args.writers.now.items in
    let old = c.index_mut.result.now in
    let lt : c.args.at < length ws = (let len = c.args.writers.now.ok.0 in omega arith) in
    same-put line_of ws c.args.at old c.spare.new.writer (got ws ws c.args.at old refl lt c.index_mut.ensures.value) c.spare.ensures.line

pub returns-clause-stays : goal.returns-clause-stays
returns-clause-stays c =
    let ws = c.args.writers.now.items in
    let old = c.index_mut.result.now in
    let w = c.spare.new.writer in
    let lt : c.args.at < length ws = (let len = c.args.writers.now.ok.0 in omega arith) in
    put-writers ws (set ws c.args.at w) c.args.at old w (got ws ws c.args.at old refl lt c.index_mut.ensures.value)
    (ap (λ (l : KeptWriter). l.topic) c.spare.ensures.line) (few-same w old (ap (λ (l : KeptWriter). l.held) c.spare.ensures.line)) c.spare.ensures.stays refl

pub returns-clause-room : goal.returns-clause-room
returns-clause-room c =
    let ws = c.args.writers.now.items in
    let lt : c.args.at < length ws = (let len = c.args.writers.now.ok.0 in omega arith) in
    ok-then c.spare.result c.spare.ensures.room (λ room w at. subst (λ (v : Writer). 0 < v.held.room) (set-is ws c.args.at c.spare.new.writer w lt at) room)

pub returns-clause-enough : goal.returns-clause-enough
returns-clause-enough c = λ has.
    let ws = c.args.writers.now.items in
    let old = c.index_mut.result.now in
    let lt : c.args.at < length ws = (let len = c.args.writers.now.ok.0 in omega arith) in
    c.spare.ensures.enough (has old (got ws ws c.args.at old refl lt c.index_mut.ensures.value))
