use Rattle.std.proofs.Common.{ℕ, ◌≤◌, List, get_or, subst, ◌∙◌, arith}
use Rattle.dur_view.specs.declared.data.KeptWriter.{KeptWriter}
use Rattle.dur_store.specs.declared.writer.Writer.{Writer}
use Rattle.dur_store.specs.Spare.{AreNeeded}
use Rattle.dur_store.specs.Places.{guids, found, IsIndex}
use Rattle.dur_store.proofs.Rooms.{topic-within}
use Rattle.dur_store.proofs.Writers.{start-writers}
use Rattle.dur_store.proofs.store.Store.over.Goals as goal

pub returns : goal.returns
returns c =
    let a = c.new-2.ensures in
    let b = c.new-3.ensures in
    let d = c.new-4.ensures in
    let ws = c.spare_all.new.writers.items in
    let lines = c.spare_all.ensures.lines ∙ c.in_ok-writers.ensures in
    record {
      history = c.requires;
      outline = cc;
      writers = start-writers c.args.view ws c.requires lines;
      index = subst (λ (l : List KeptWriter). IsIndex (found c.in_ok-index.index) (guids l)) c.as_slice.ensures c.in_ok-index.ensures;
      sets = c.in_ok-sets.ensures;
      count = c.make_room.ensures.rest.count ∙ c.in_ok-topics.ensures.count;
      topics = c.make_room.ensures.rest.topics _ c.in_ok-topics.ensures.topics;
      room = record {
        writers = λ i w at other. c.in_ok-spare_all.ensures.room i w at;
        topics = λ t x at other. subst (λ (ns : List ℕ). get_or ns t 0 ≤ x.room) c.deref-2.ensures.value (c.in_ok-make_room.ensures.room t x at);
        needed = λ i w at.
            subst (λ (vs : List Writer). AreNeeded c.in_ok-needed.needed.items c.len.result vs) c.deref.ensures.value c.in_ok-needed.ensures i w at
            (let low = topic-within c.args.view ws i w c.requires lines at in let own = c.in_ok-topics.topics.ok.0 in omega (arith, c.len.ensures, c.in_ok-topics.ensures.count));
      };
    }
