-- To join a pass keeps the rule.
use Rattle.std.proofs.Common.{◌≡◌, ◌≢◌, ℕ, ◌-◌, Bool, List, [], ◌∷◌, ◌++◌, length, set, sym, refl, ap, ◌∙◌, subst, inl, inr, ⊎_elim, arith}
use mathlib.Core.Option.{some, some-ne-none}
use mathlib.Core.List.{IsPrefix}
use mathlib.Core.Logic.{dite}
use native.Mathlib.Decide.{ℕ_discrete}
use lib.ListN.{get_elem?}
use Rattle.atomic_table.specs.Table.{State, Joins}
use Rattle.atomic_table.proofs.Lists.{set_else, at_longer, at_last}
use Rattle.dur_turn.specs.declared.known.Role.TheVariants.{Root, Idle}
use Rattle.dur_turn.specs.declared.known.Known.{Known}
use Rattle.dur_turn.specs.Calls.{events, calls_by}
use Rattle.dur_turn.specs.Rule.{live, waits, ticket, Knows, Kept}
use Rattle.dur_turn.specs.Steps.{spent, joined_root}
use Rattle.dur_turn.proofs.Rows.{total_set, at_end, longer_begins}
use Rattle.dur_turn.proofs.Seats.{same_view, both_at, not_live}

module _ {V E : Type 0} (stands : V → List E → V → Type 0) (is_lone : E → Bool) (start : V) where
  abbrev St : Type 0
  St = State V (Known V E)

  abbrev Rule : St → Type 0
  Rule = Kept stands is_lone start

  pub merges : (id other : ℕ) (v w : Known V E) → v.role ≡ Root → w.role ≡ Idle → Joins Rule id v other w (joined_root v w) spent
  merges id other v w is idle s k at apart there =
      let both : Known V E = joined_root v w in
      let views : List (Known V E) = set (set s.views id both) other spent in
      let at_w : get_elem? s.views other ≡ some w = sym (set_else s.views id other both apart) ∙ there in
      let old = k.each id v at in
      let mine = old.roots is in
      let theirs = k.each other w at_w in
      let was : live w.role ≡ 1 = ap live idle in
      let own = theirs.mine was in
      let begun = old.begun (λ e. absurd (cc (is, e))) in
      let one_of : (i : ℕ) (u : Known V E) → get_elem? s.views i ≡ some u → i ≡ other → u ≡ w = λ i u e same. sym (same_view s other w u at_w (subst (λ (j : ℕ). get_elem? s.views j ≡ some u) same e)) in
      let not_me : (i : ℕ) (u : Known V E) → get_elem? s.views i ≡ some u → u.role ≢ Root → i ≢ id =
      λ i u e off same. off (ap (λ (z : Known V E). z.role) (sym (same_view s id v u at (subst (λ (j : ℕ). get_elem? s.views j ≡ some u) same e))) ∙ is) in
      let stays : (i : ℕ) (u : Known V E) → i ≢ id → i ≢ other → get_elem? s.views i ≡ some u → get_elem? views i ≡ some u =
      λ i u ne ne' e. set_else (set s.views id both) other i spent ne' ∙ (set_else s.views id i both ne ∙ e) in
      let weighs : waits v.role ≡ 0 = ap waits is in
      let counts : live v.role ≡ 0 = ap live is in
      let taken : (n i : ℕ) (c : List E) → get_elem? k.joined i ≡ some (n, c) → w.number ≡ n → ⊥ = λ n i c e same. (k.joins i n c e).2 other w at_w was same in
      let weighs' : waits w.role ≡ 0 = ap waits idle in record {
        log = k.log;
        now = k.now;
        next = k.next;
        out = k.out - 1;
        made = k.made;
        root = k.root;
        joined = k.joined ++ (w.number, w.mine) ∷ [];
        words = k.words;
        queue = (let t = total_set (λ (u : Known V E). waits u.role) s.views id v both at in let t' = total_set (λ (u : Known V E). waits u.role) (set s.views id both) other w spent there in let q = k.queue in omega arith);
        passes = (let t = total_set (λ (u : Known V E). live u.role) s.views id v both at in let t' = total_set (λ (u : Known V E). live u.role) (set s.views id both) other w spent there in let p = k.passes in omega arith);
        few = (let f = k.few in omega arith);
        slot = ⊎_elim (λ h. inl h) (λ h. inr (h.0, (h.1.0, h.1.1, stays h.1.0 h.1.1 (not_me h.1.0 h.1.1 h.1.2 (λ r. absurd (cc (r, h.1.3)))) (λ q. absurd (cc (one_of h.1.0 h.1.1 h.1.2 q, idle, h.1.3))) h.1.2, h.1.3))) k.slot;
        lones = k.lones;
        each = λ i u e. both_at s.views id other i both spent u (λ j x. Knows start k.log k.now k.next (k.out - 1) k.made k.root (k.joined ++ (w.number, w.mine) ∷ []) s.homes j x)
            (record {
              begun = λ _. begun;
              seen = longer_begins v.seen w.seen (events k.log) old.seen theirs.seen;
              mine = λ l. absurd (not_live v is l);
              roots = λ _. (mine.0, ap (λ (z : ℕ). z - 1) mine.1, mine.2, ap (λ (z : List (ℕ × List E)). z ++ (w.number, w.mine) ∷ []) mine.3);
              heard = (λ j l b. ⊎_elim (λ o. old.heard j l o) (λ (x : (j ≡ length v.heard) × (w.seen ≡ l)). subst (λ (z : List E). IsPrefix z (events k.log)) x.1 theirs.seen) (at_end v.heard w.seen l j b));
              queued = old.queued;
              holds = λ t b. absurd (cc (is, b));
            })
            (record {
              begun = λ off. absurd (off refl);
              seen = (events k.log, refl);
              mine = λ l. absurd (omega arith);
              roots = λ r. absurd (cc r);
              heard = (λ j l b. absurd (some-ne-none l (sym b)));
              queued = λ t b. absurd (some-ne-none t (sym b));
              holds = λ t b. absurd (cc b);
            })
            (λ ne ne' at_i. let h = k.each i u at_i in record {
              begun = h.begun;
              seen = h.seen;
              mine = h.mine;
              roots = λ r. absurd (ne ((h.roots r).0 ∙ sym mine.0));
              heard = h.heard;
              queued = h.queued;
              holds = h.holds;
            })
            e;
        apart = λ i j x y t ei ej tx ty.
            both_at s.views id other i both spent x (λ a b. ticket b.role ≡ some t → a ≡ j)
            (λ b. absurd (some-ne-none t (sym (sym (ap ticket is) ∙ b))))
            (λ b. absurd (some-ne-none t (sym b)))
            (λ ne ne' old_i tx'. both_at s.views id other j both spent y (λ a b. ticket b.role ≡ some t → i ≡ a)
            (λ b. absurd (some-ne-none t (sym (sym (ap ticket is) ∙ b))))
            (λ b. absurd (some-ne-none t (sym b)))
            (λ _ _ old_j ty'. k.apart i j x y t old_i old_j tx' ty') ej ty)
            ei tx;
        numbers = λ i j x y ei ej lx ly nn.
            both_at s.views id other i both spent x (λ a b. live b.role ≡ 1 → b.number ≡ y.number → a ≡ j)
            (λ l n. absurd (not_live v is l))
            (λ l n. absurd (omega arith))
            (λ ne ne' old_i l n. both_at s.views id other j both spent y (λ a b. live b.role ≡ 1 → x.number ≡ b.number → i ≡ a)
            (λ l' n'. absurd (not_live v is l'))
            (λ l' n'. absurd (omega arith))
            (λ _ _ old_j l' n'. k.numbers i j x y old_i old_j l l' n') ej ly n)
            ei lx nn;
        once = λ i j n a b ei ej. ⊎_elim
            (λ old_i. ⊎_elim (λ old_j. k.once i j n a b old_i old_j) (λ (new_j : (j ≡ length k.joined) × ((w.number, w.mine) ≡ (n, b))). absurd (taken n i a old_i (ap (λ (z : ℕ × List E). z.0) new_j.1))) (at_end k.joined (w.number, w.mine) (n, b) j ej))
            (λ (new_i : (i ≡ length k.joined) × ((w.number, w.mine) ≡ (n, a))).
            ⊎_elim (λ old_j. absurd (taken n j b old_j (ap (λ (z : ℕ × List E). z.0) new_i.1))) (λ (new_j : (j ≡ length k.joined) × ((w.number, w.mine) ≡ (n, b))). new_i.0 ∙ sym new_j.0) (at_end k.joined (w.number, w.mine) (n, b) j ej))
            (at_end k.joined (w.number, w.mine) (n, a) i ei);
        joins = λ j n c e. ⊎_elim
            (λ older. let h = k.joins j n c older in (
              h.0,
              h.1,
              λ i u ei lu. both_at s.views id other i both spent u (λ a b. live b.role ≡ 1 → b.number ≢ n)
                  (λ l. absurd (not_live v is l))
                  (λ l. absurd (omega arith))
                  (λ ne ne' old_i l. h.2 i u old_i l) ei lu,
            ))
            (λ (new : (j ≡ length k.joined) × ((w.number, w.mine) ≡ (n, c))).
            let number_is : w.number ≡ n = ap (λ (z : ℕ × List E). z.0) new.1 in
            let calls_are : w.mine ≡ c = ap (λ (z : ℕ × List E). z.1) new.1 in (
              (let a = own.0 in omega arith),
              subst (λ (z : ℕ). calls_by z k.log ≡ c) number_is (own.1 ∙ calls_are),
              λ i u ei lu. both_at s.views id other i both spent u (λ a b. live b.role ≡ 1 → b.number ≢ n)
                  (λ l. absurd (not_live v is l))
                  (λ l. absurd (omega arith))
                  (λ ne ne' old_i l q. ne' (k.numbers i other u w old_i at_w l was (q ∙ sym number_is))) ei lu,
            ))
            (at_end k.joined (w.number, w.mine) (n, c) j e);
        all = λ n lt. ⊎_elim
            (λ (h : (i : ℕ) × (u : Known V E) × (get_elem? s.views i ≡ some u) × (live u.role ≡ 1) × (u.number ≡ n)).
            dite (ℕ_discrete h.0 other)
            (λ q. let number_is : w.number ≡ n = ap (λ (z : Known V E). z.number) (sym (one_of h.0 h.1 h.2 q)) ∙ h.4 in
            inr (length k.joined, at_last k.joined (w.number, w.mine) (length k.joined) refl ∙ ap some (λ i. (number_is i, sym own.1 i)) ∙ ap (λ (z : ℕ). some (n, calls_by z k.log)) number_is))
            (λ ne. inl (h.0, h.1, stays h.0 h.1 (not_me h.0 h.1 h.2 (λ r. absurd (not_live h.1 r h.3))) ne h.2, h.3, h.4)))
            (λ (h : (j : ℕ) × (get_elem? k.joined j ≡ some (n, calls_by n k.log))). inr (h.0, at_longer k.joined ((w.number, w.mine) ∷ []) h.0 (n, calls_by n k.log) h.1))
            (k.all n lt);
        later = k.later;
      }
