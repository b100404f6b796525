use Rattle.std.proofs.Common.{◌≡◌, List, [], ◌∷◌, ◌++◌, not, ◌&&◌, filter, sym, ap, ◌∙◌, subst, arith}
use Rattle.dur_instances.specs.declared.changes.Change.{Change}
use Rattle.dur_view.specs.Identities.{Key}
use Rattle.dur_instances.specs.Layout.{is_change_of}
use Rattle.dur_instances.specs.Places.{is_past}
use Rattle.dur_instances.specs.Places.{ChangesNow, kept_in, found, Chain, Sinks}
use Rattle.dur_instances.proofs.Pushes.{chain-end, chained, linked-all, Added, added}
use Rattle.dur_instances.proofs.order.Changes.add.Goals as goal

pub link-first-requires : goal.link-first-requires
link-first-requires c = λ i is.
    let k = c.key-key.result in
    let ps = c.self.inside.places.items in
    let chain = chained c.self.inside.ends k ps c.first_of.result c.last_of.result c.ends_of-ends.result c.self.invariant c.ends_of-ends.ensures c.first_of.ensures c.last_of.ensures in
    let lt = chain-end k 0 i c.last_of.result ps (subst (λ o. Chain k 0 o c.last_of.result ps) is chain) in
    let len = c.self.inside.places.ok.0 in
    omega arith

more : (c : goal.After-empty_past-arg-1) → Added c.key-key.result c.len-last.result c.link-first.result c.self.inside.places.items c.push_within.new.items.items c.args.change
more c =
    added c.self.inside.ends c.key-key.result c.self.inside.places.items c.ends_of-ends.result c.first_of.result c.last_of.result c.len-last.result c.link-first.result c.link-first.new.places.items c.push_within.new.items.items c.of.result c.args.change
    c.self.invariant c.ends_of-ends.ensures c.first_of.ensures c.last_of.ensures (c.len-last.ensures ∙ c.self.inside.places.ok.0) c.link-first.ensures.first c.link-first.ensures.items c.push_within.ensures.items c.of.ensures c.key-key.ensures

kept-is : (c : goal.After-empty_past-arg-1) → kept_in c.push_within.new.items.items ≡ c.args.self.now.items ++ c.args.change ∷ []
kept-is c = (more c).kept ∙ ap (λ (l : List Change). l ++ c.args.change ∷ []) (ap (λ (v : ChangesNow). v.items) c.self.view_is)

pub empty_past-first-requires-clause-chain : goal.empty_past-first-requires-clause-chain
empty_past-first-requires-clause-chain c = (more c).chain

pub empty_past-first-requires-clause-own : goal.empty_past-first-requires-clause-own
empty_past-first-requires-clause-own c = (more c).own

pub empty_past-first-requires-clause-sinks : goal.empty_past-first-requires-clause-sinks
empty_past-first-requires-clause-sinks c =
    subst (λ (l : List Change). Sinks c.key-key.result c.args.depth c.args.count l) (sym (kept-is c))
    (subst (λ (k : Key). Sinks k c.args.depth c.args.count (c.args.self.now.items ++ c.args.change ∷ [])) (sym c.key-key.ensures) c.requires.sinks)

more-then : (c : goal.After-note_ends) → Added c.key-key.result c.len-last.result c.link-first.result c.self.inside.places.items c.push_within.new.items.items c.args.change
more-then c =
    added c.self.inside.ends c.key-key.result c.self.inside.places.items c.ends_of-ends.result c.first_of.result c.last_of.result c.len-last.result c.link-first.result c.link-first.new.places.items c.push_within.new.items.items c.of.result c.args.change
    c.self.invariant c.ends_of-ends.ensures c.first_of.ensures c.last_of.ensures (c.len-last.ensures ∙ c.self.inside.places.ok.0) c.link-first.ensures.first c.link-first.ensures.items c.push_within.ensures.items c.of.ensures c.key-key.ensures

kept-then : (c : goal.After-note_ends) → kept_in c.push_within.new.items.items ≡ c.args.self.now.items ++ c.args.change ∷ []
kept-then c = (more-then c).kept ∙ ap (λ (l : List Change). l ++ c.args.change ∷ []) (ap (λ (v : ChangesNow). v.items) c.self.view_is)

pub invariant_of-self : goal.invariant_of-self
invariant_of-self c =
    record {
      chains =
          linked-all (found c.self.inside.ends) (found c.note_ends.new.ends) c.key-key.result record { first = c.empty_past-first.result; last = c.len-last.result } c.empty_past-first.new.places.items
          c.note_ends.ensures.found c.empty_past-first.ensures.chain (λ j other. c.empty_past-first.ensures.others j _ _ ((more-then c).others j _ _ other (c.self.invariant.chains j)));
      own = c.empty_past-first.ensures.own;
    }

pub returns-clause-items : goal.returns-clause-items
returns-clause-items c =
    c.empty_past-first.ensures.items
    ∙ ap (λ (k : Key). filter (λ x. not (is_change_of k x && is_past c.args.depth c.args.count x)) (kept_in c.push_within.new.items.items)) c.key-key.ensures
    ∙ ap (λ (l : List Change). filter (λ x. not (is_change_of c.args.change.sample.key x && is_past c.args.depth c.args.count x)) l) (kept-then c)
