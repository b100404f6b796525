use Rattle.std.proofs.Common.{None, List, sym, ap, ◌∙◌}
use Rattle.dur_instances.specs.declared.links.Place.{Place}
use Rattle.dur_instances.specs.Places.{past_at}
use Rattle.dur_instances.proofs.Chains.{stepped, past-none, all-left}
use Rattle.dur_instances.proofs.links.empty_past.Goals as goal

pub loop-place-smaller : goal.loop-place-smaller
loop-place-smaller c =
    (stepped c.args.key c.args.depth c.args.count c.args.last c.loop-place.places.items c.loop-place.at c.in-Some.place _ c.empty-at.new.place c.empty-at.result
    (sym (c.past_at.ensures ∙ ap (λ (l : List Place). past_at c.args.depth c.args.count l c.loop-place.at) c.deref.ensures.value) ∙ c.in-Some.is)
    (c.empty-at.ensures.place ∙ ap (λ (z : Place). record z { change = None }) c.index_mut.ensures.value) (c.empty-at.ensures.next ∙ ap (λ (z : Place). z.next) c.index_mut.ensures.value)
    c.loop-place.invariant.chain c.loop-place.invariant.own c.loop-place.invariant.sinks).smaller

pub loop-place-preserved : goal.loop-place-preserved
loop-place-preserved c =
    let s = stepped c.args.key c.args.depth c.args.count c.args.last c.loop-place.places.items c.loop-place.at c.in-Some.place _ c.empty-at.new.place c.empty-at.result
    (sym (c.past_at.ensures ∙ ap (λ (l : List Place). past_at c.args.depth c.args.count l c.loop-place.at) c.deref.ensures.value) ∙ c.in-Some.is)
    (c.empty-at.ensures.place ∙ ap (λ (z : Place). record z { change = None }) c.index_mut.ensures.value) (c.empty-at.ensures.next ∙ ap (λ (z : Place). z.next) c.index_mut.ensures.value)
    c.loop-place.invariant.chain c.loop-place.invariant.own c.loop-place.invariant.sinks in
    record {
      chain = s.chain;
      own = s.own;
      sinks = s.sinks;
      items = s.items ∙ c.loop-place.invariant.items;
      others = λ k f n chain. s.others k f n (c.loop-place.invariant.others k f n chain);
      len = c.loop-place.invariant.len;
      capacity = c.loop-place.invariant.capacity;
    }

pub returns-clause-items : goal.returns-clause-items
returns-clause-items c =
    sym (all-left c.args.key c.args.depth c.args.count c.args.last c.loop-place.at c.loop-place.places.items c.loop-place.invariant.chain c.loop-place.invariant.own c.loop-place.invariant.sinks
    (past-none c.args.depth c.args.count c.loop-place.places.items c.loop-place.at
    (sym (c.past_at.ensures ∙ ap (λ (l : List Place). past_at c.args.depth c.args.count l c.loop-place.at) c.deref.ensures.value) ∙ c.in_default.is))) ∙ c.loop-place.invariant.items
