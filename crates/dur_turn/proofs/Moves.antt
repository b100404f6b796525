-- A pass changes what it knows, and stays the pass that it is.
use Rattle.std.proofs.Common.{◌≡◌, ◌≢◌, ◌⊎◌, ℕ, ◌+◌, ◌%◌, ◌^◌, ◌<◌, Bool, List, [], ◌∷◌, set, sym, refl, ap, ◌∙◌, inl, inr, ⊎_elim, arith}
use Rattle.std.specs.List.{filter}
use mathlib.Core.Option.{some, none, some-ne-none, some-injective}
use mathlib.Core.Option as maybe
use mathlib.Core.Logic.{dite}
use native.Mathlib.Decide.{ℕ_discrete}
use lib.ListN.{get_elem?}
use Rattle.atomic_table.specs.Table.{State}
use Rattle.atomic_table.proofs.Lists.{set_here, set_else}
use Rattle.dur_turn.specs.declared.known.Role.TheVariants.{Holds}
use Rattle.dur_turn.specs.declared.known.Known.{Known}
use Rattle.dur_turn.specs.Calls.{total, events, calls_by}
use Rattle.dur_turn.specs.Rule.{live, waits, ticket, Knows, Kept}
use Rattle.dur_turn.proofs.Rows.{total_set, at_below}
use Rattle.dur_turn.proofs.Seats.{split_at}

module _ {V E : Type 0} (stands : V → List E → V → Type 0) (is_lone : E → Bool) (start : V) where
  abbrev St : Type 0
  St = State V (Known V E)

  abbrev Rule : St → Type 0
  Rule = Kept stands is_lone start

  -- a pass changes its view, and stays the pass that it is
  pub moves : (s : St) (k : Rule s) (id : ℕ) (v w : Known V E) (log : List (ℕ × E)) (now next : ℕ) (words : List ℕ) (homes : List (maybe.Option V))
      → get_elem? s.views id ≡ some v → live v.role ≡ 1 → live w.role ≡ 1 → w.number ≡ v.number
      → words ≡ next % 2 ^ 64 ∷ now % 2 ^ 64 ∷ []
      → next + waits v.role ≡ now + total (λ (u : Known V E). waits u.role) s.views + waits w.role
      → ((y : V) × (homes ≡ some y ∷ []) × stands start (events log) y)
      ⊎ ((homes ≡ none ∷ []) × ((i : ℕ) × (u : Known V E) × (get_elem? (set s.views id w) i ≡ some u) × (u.role ≡ Holds now)))
      → filter is_lone (events log) ≡ filter is_lone (calls_by 0 log)
      → ((j : ℕ) → j ≢ v.number → calls_by j log ≡ calls_by j k.log)
      → ((j : ℕ) (u : Known V E) → j ≢ id → get_elem? s.views j ≡ some u → Knows start log now next k.out k.made k.root k.joined homes j u)
      → Knows start log now next k.out k.made k.root k.joined homes id w
      → ((j : ℕ) (u : Known V E) (t : ℕ) → j ≢ id → get_elem? s.views j ≡ some u → ticket w.role ≡ some t → ticket u.role ≢ some t)
      → Rule record { words = words; homes = homes; views = set s.views id w }
  moves s k id v w log now next words homes at was is same words_are queue slot lones calls others mine alone =
      let views : List (Known V E) = set s.views id w in
      let here : get_elem? views id ≡ some w = set_here s.views id w (at_below s.views id v at) in
      let number_in : v.number < k.made = ((k.each id v at).mine was).0 in record {
        log = log;
        now = now;
        next = next;
        out = k.out;
        made = k.made;
        root = k.root;
        joined = k.joined;
        words = words_are;
        queue = (let t = total_set (λ (u : Known V E). waits u.role) s.views id v w at in omega arith);
        passes = (let t = total_set (λ (u : Known V E). live u.role) s.views id v w at in let p = k.passes in omega arith);
        few = k.few;
        slot = slot;
        lones = lones;
        each = λ i u e. split_at s.views id i w u (λ j x. Knows start log now next k.out k.made k.root k.joined homes j x) mine (λ ne old. others i u ne old) e;
        apart = λ i j x y t ei ej tx ty.
            split_at s.views id i w x (λ a b. ticket b.role ≡ some t → a ≡ j)
            (λ tw. split_at s.views id j w y (λ a b. ticket b.role ≡ some t → id ≡ a) (λ _. refl) (λ ne old ty'. absurd (alone j y t ne old tw ty')) ej ty)
            (λ ne old tx'. split_at s.views id j w y (λ a b. ticket b.role ≡ some t → i ≡ a) (λ tw. absurd (alone i x t ne old tw tx')) (λ ne' old' ty'. k.apart i j x y t old old' tx' ty') ej ty)
            ei tx;
        numbers = λ i j x y ei ej lx ly nn.
            split_at s.views id i w x (λ a b. live b.role ≡ 1 → b.number ≡ y.number → a ≡ j)
            (λ _ n. split_at s.views id j w y (λ a b. live b.role ≡ 1 → w.number ≡ b.number → id ≡ a) (λ _ _. refl) (λ ne old ly' n'. k.numbers id j v y at old was ly' (sym same ∙ n')) ej ly n)
            (λ ne old lx' n. split_at s.views id j w y (λ a b. live b.role ≡ 1 → x.number ≡ b.number → i ≡ a) (λ _ n'. k.numbers i id x v old at lx' was (n' ∙ same)) (λ ne' old' ly' n'. k.numbers i j x y old old' lx' ly' n') ej ly n)
            ei lx nn;
        once = k.once;
        joins = λ j n c e. let h = k.joins j n c e in (
          h.0,
          calls n (λ q. h.2 id v at was (sym q)) ∙ h.1,
          λ i u ei lu. split_at s.views id i w u (λ a b. live b.role ≡ 1 → b.number ≢ n) (λ _ q. h.2 id v at was (sym same ∙ q)) (λ ne old lu'. h.2 i u old lu') ei lu,
        );
        all = λ n lt. ⊎_elim
            (λ (h : (i : ℕ) × (u : Known V E) × (get_elem? s.views i ≡ some u) × (live u.role ≡ 1) × (u.number ≡ n)).
            dite (ℕ_discrete h.0 id)
            (λ e. let one : h.1 ≡ v = some-injective h.1 v (sym h.2 ∙ (ap (λ q. get_elem? s.views q) e ∙ at)) in inl (id, w, here, is, same ∙ (sym (ap (λ (z : Known V E). z.number) one) ∙ h.4)))
            (λ ne. inl (h.0, h.1, set_else s.views id h.0 w ne ∙ h.2, h.3, h.4)))
            (λ (h : (j : ℕ) × (get_elem? k.joined j ≡ some (n, calls_by n k.log))).
            let off : n ≢ v.number = λ q. (k.joins h.0 n (calls_by n k.log) h.1).2 id v at was (sym q) in
            inr (h.0, h.1 ∙ ap (λ (c : List E). some (n, c)) (sym (calls n off))))
            (k.all n lt);
        later = λ n le. calls n (λ q. omega arith) ∙ k.later n le;
      }
