-- To split a pass keeps the rule.
use Rattle.std.proofs.Common.{◌≡◌, ◌≢◌, ℕ, ◌+◌, ◌^◌, ◌<◌, Bool, List, [], ◌∷◌, ◌++◌, length, set, sym, refl, ap, ◌∙◌, subst, inl, inr, ⊎_elim, arith}
use Rattle.std.proofs.lemmas.List.{length-set}
use mathlib.Core.Option.{some, some-ne-none}
use mathlib.Core.Logic.{dite}
use native.Mathlib.Decide.{ℕ_discrete}
use lib.ListN.{get_elem?}
use Rattle.atomic_table.specs.Table.{State, Splits}
use Rattle.atomic_table.proofs.Lists.{set_else, at_longer, at_last}
use Rattle.dur_turn.specs.declared.known.Role.TheVariants.{Root}
use Rattle.dur_turn.specs.declared.known.Known.{Known}
use Rattle.dur_turn.specs.Rule.{live, waits, ticket, Knows, Kept}
use Rattle.dur_turn.specs.Steps.{split_root, split_pass}
use Rattle.dur_turn.proofs.Rows.{total_set, total_snoc}
use Rattle.dur_turn.proofs.Seats.{same_view, grow_at, not_live}

module _ {V E : Type 0} (stands : V → List E → V → Type 0) (is_lone : E → Bool) (start : V) where
  abbrev St : Type 0
  St = State V (Known V E)

  abbrev Rule : St → Type 0
  Rule = Kept stands is_lone start

  pub forks : (id : ℕ) (v : Known V E) → v.role ≡ Root → v.out + 1 < 2 ^ 32 → Splits Rule id v (split_root v) (split_pass v)
  forks id v is room s k at =
      let left : Known V E = split_root v in
      let right : Known V E = split_pass v in
      let views : List (Known V E) = set s.views id left ++ right ∷ [] in
      let old = k.each id v at in
      let mine = old.roots is in
      let begun = old.begun (λ e. absurd (cc (is, e))) in
      let stays : (i : ℕ) (u : Known V E) → i ≢ id → get_elem? s.views i ≡ some u → get_elem? views i ≡ some u = λ i u ne e. at_longer (set s.views id left) (right ∷ []) i u (set_else s.views id i left ne ∙ e) in
      let not_me : (i : ℕ) (u : Known V E) → get_elem? s.views i ≡ some u → u.role ≢ Root → i ≢ id =
      λ i u e off same. off (ap (λ (z : Known V E). z.role) (sym (same_view s id v u at (subst (λ (j : ℕ). get_elem? s.views j ≡ some u) same e))) ∙ is) in
      let weighs : waits v.role ≡ 0 = ap waits is in
      let counts : live v.role ≡ 0 = ap live is in record {
        log = k.log;
        now = k.now;
        next = k.next;
        out = k.out + 1;
        made = k.made + 1;
        root = k.root;
        joined = k.joined;
        words = k.words;
        queue = (let t = total_set (λ (u : Known V E). waits u.role) s.views id v left at in let n = total_snoc (λ (u : Known V E). waits u.role) (set s.views id left) right in let q = k.queue in omega arith);
        passes = (let t = total_set (λ (u : Known V E). live u.role) s.views id v left at in let n = total_snoc (λ (u : Known V E). live u.role) (set s.views id left) right in let p = k.passes in omega arith);
        few = (let o = mine.1 in omega arith);
        slot = ⊎_elim (λ h. inl h) (λ h. inr (h.0, (h.1.0, h.1.1, stays h.1.0 h.1.1 (not_me h.1.0 h.1.1 h.1.2 (λ r. absurd (cc (r, h.1.3)))) h.1.2, h.1.3))) k.slot;
        lones = k.lones;
        each = λ i u e. grow_at s.views id i left right u (λ j x. Knows start k.log k.now k.next (k.out + 1) (k.made + 1) k.root k.joined s.homes j x)
            (record {
              begun = λ _. begun;
              seen = old.seen;
              mine = λ l. absurd (not_live v is l);
              roots = λ _. (mine.0, ap (λ (z : ℕ). z + 1) mine.1, ap (λ (z : ℕ). z + 1) mine.2, mine.3);
              heard = old.heard;
              queued = old.queued;
              holds = old.holds;
            })
            (record {
              begun = λ _. begun;
              seen = old.seen;
              mine = λ _. ((let m = mine.2 in omega arith), k.later v.number (let m = mine.2 in omega arith));
              roots = λ r. absurd (cc r);
              heard = (λ j l b. absurd (some-ne-none l (sym b)));
              queued = λ t b. absurd (some-ne-none t (sym b));
              holds = λ t b. absurd (cc b);
            })
            (λ ne at_i. let h = k.each i u at_i in record {
              begun = h.begun;
              seen = h.seen;
              mine = λ l. let m = h.mine l in ((let a = m.0 in omega arith), m.1);
              roots = λ r. absurd (ne ((h.roots r).0 ∙ sym mine.0));
              heard = h.heard;
              queued = h.queued;
              holds = h.holds;
            })
            e;
        apart = λ i j x y t ei ej tx ty.
            grow_at s.views id i left right x (λ a b. ticket b.role ≡ some t → a ≡ j)
            (λ b. absurd (some-ne-none t (sym (sym (ap ticket is) ∙ b))))
            (λ b. absurd (some-ne-none t (sym b)))
            (λ ne old_i tx'. grow_at s.views id j left right y (λ a b. ticket b.role ≡ some t → i ≡ a)
            (λ b. absurd (some-ne-none t (sym (sym (ap ticket is) ∙ b))))
            (λ b. absurd (some-ne-none t (sym b)))
            (λ ne' old_j ty'. k.apart i j x y t old_i old_j tx' ty') ej ty)
            ei tx;
        numbers = λ i j x y ei ej lx ly nn.
            grow_at s.views id i left right x (λ a b. live b.role ≡ 1 → b.number ≡ y.number → a ≡ j)
            (λ l n. absurd (not_live v is l))
            (λ l n. grow_at s.views id j left right y (λ a b. live b.role ≡ 1 → v.number ≡ b.number → length s.views ≡ a)
            (λ l' n'. absurd (not_live v is l'))
            (λ _ _. refl)
            (λ ne old_j l' n'. absurd (let m = ((k.each j y old_j).mine l').0 in let o = mine.2 in omega arith)) ej ly n)
            (λ ne old_i l n. grow_at s.views id j left right y (λ a b. live b.role ≡ 1 → x.number ≡ b.number → i ≡ a)
            (λ l' n'. absurd (not_live v is l'))
            (λ l' n'. absurd (let m = ((k.each i x old_i).mine l).0 in let o = mine.2 in omega arith))
            (λ ne' old_j l' n'. k.numbers i j x y old_i old_j l l' n') ej ly n)
            ei lx nn;
        once = k.once;
        joins = λ j n c e. let h = k.joins j n c e in (
          (let a = h.0 in omega arith),
          h.1,
          λ i u ei lu. grow_at s.views id i left right u (λ a b. live b.role ≡ 1 → b.number ≢ n)
              (λ l. absurd (not_live v is l))
              (λ _ q. let o = mine.2 in let a = h.0 in absurd (omega arith))
              (λ ne old_i l. h.2 i u old_i l) ei lu,
        );
        all = λ n lt. dite (ℕ_discrete n k.made)
            (λ new. inl (length s.views, right, at_last (set s.views id left) right (length s.views) (length-set s.views id left), refl, mine.2 ∙ sym new))
            (λ older. ⊎_elim
            (λ (h : (i : ℕ) × (u : Known V E) × (get_elem? s.views i ≡ some u) × (live u.role ≡ 1) × (u.number ≡ n)).
            inl (h.0, h.1, stays h.0 h.1 (not_me h.0 h.1 h.2 (λ r. absurd (not_live h.1 r h.3))) h.2, h.3, h.4))
            (λ h. inr h)
            (k.all n (omega arith)));
        later = λ n le. k.later n (omega arith);
      }
