use Rattle.std.proofs.Common.{◌≡◌, ◌+◌, ◌++◌, ◌∷◌, [], true, false, drop, sym, ap, ◌∙◌, arith, rules, append-nil}
use Rattle.std.specs.Prelude.{unwrap_or, option_map}
use Rattle.dur_view.specs.Words.{is_key}
use Rattle.dur_instances.specs.declared.registered.Registered.{Registered}
use Rattle.dur_instances.specs.Layout.{places}
use Rattle.dur_instances.proofs.AnyLists.{append-one}
use Rattle.dur_instances.proofs.CellLists.{get-at}
use Rattle.dur_instances.proofs.RegLists.{of_key_at, skip-below, places-step, next-not-above, rest-none, key-there}
use Rattle.dur_instances.proofs.registered.places_of.Goals as goal

pub loop-key-init : goal.loop-key-init
loop-key-init c =
    record { all = skip-below c.args.key c.args.list.now c.place_of-at.result c.place_of-at.ensures.before ∙ sym (ap (λ l. l ++ places (drop c.place_of-at.result c.args.list.now) c.args.key) c.new-places.ensures); bound = c.place_of-at.ensures.bound; after = c.place_of-at.ensures.after }

pub loop-key-preserved : goal.loop-key-preserved
loop-key-preserved c =
    let k = c.args.key in
    let at = c.loop-key.at in
    let x = c.index-list-at.result in
    let own : of_key_at c.args.list.now at k ≡ true = search rules in
    let lt = key-there k c.args.list.now at own in
    let here = get-at c.args.list.now at x lt c.index-list-at.is in
    let own-x : is_key x.key k ≡ true = ap (λ o. unwrap_or (option_map (λ r. is_key r.key k) o) false) (sym here) ∙ own in
    let rest = places (drop (at + 1) c.args.list.now) k in
    record {
      all = c.loop-key.invariant.all ∙ ap (λ l. c.loop-key.places ++ l) (places-step k c.args.list.now at x here own-x) ∙ append-one c.loop-key.places x.by rest
          ∙ ap (λ l. l ++ rest) (sym (c.in_ok-push.ensures.ok ∙ ap (λ (z : Registered). c.loop-key.places ++ z.by ∷ []) (sym c.index-list-at.is)));
      bound = omega arith;
      after = next-not-above k c.args.list.now at x c.requires here c.loop-key.invariant.after;
    }

pub returns : goal.returns
returns c = sym (c.loop-key.invariant.all ∙ ap (λ l. c.loop-key.places ++ l) (rest-none c.args.key c.args.list.now c.loop-key.at c.requires c.loop-key.invariant.after (search rules)) ∙ append-nil c.loop-key.places)
