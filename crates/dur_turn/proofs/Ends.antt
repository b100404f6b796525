-- The rule at the opening, and what it says at the end.
use Rattle.std.proofs.Common.{◌≡◌, ◌≢◌, ℕ, zero, suc, Bool, List, [], ◌∷◌, sym, refl, ap, ◌∙◌, subst, inl, inr, ⊎_elim, arith, lt_of_not-le}
use mathlib.Core.Option.{some, none, some-ne-none, some-injective}
use mathlib.Core.Option as maybe
use mathlib.Core.Logic.{dite}
use native.Mathlib.Decide.{dec_le}
use lib.ListN.{get_elem?}
use Rattle.atomic_table.specs.Table.{State, opening, Final, Seen}
use Rattle.dur_turn.specs.declared.known.Role.TheVariants.{Root}
use Rattle.dur_turn.specs.declared.known.Known.{Known}
use Rattle.dur_turn.specs.Calls.{events, calls_by}
use Rattle.dur_turn.specs.Rule.{live, ticket, Knows, Kept}
use Rattle.dur_turn.specs.Steps.{first_root}
use Rattle.dur_turn.proofs.Rows.{total_at}
use Rattle.dur_turn.specs.Passes.{root_state, Settled}
use Rattle.atomic_table.specs.Seated.{TableId}

module _ {V E : Type 0} (stands : V → List E → V → Type 0) (is_lone : E → Bool) (start : V) where
  abbrev St : Type 0
  St = State V (Known V E)

  abbrev Rule : St → Type 0
  Rule = Kept stands is_lone start

  one_seat : (v u : Known V E) (i : ℕ) → get_elem? (v ∷ []) i ≡ some u → (i ≡ 0) × (v ≡ u)
  one_seat v u zero e = (refl, some-injective v u e)
  one_seat v u (suc i) e = absurd (some-ne-none u (sym e))

  pub opens : stands start [] start → Rule (opening (0 ∷ 0 ∷ []) (start ∷ []) (first_root start))
  opens alone =
      let v : Known V E = first_root start in
      let views : List (Known V E) = v ∷ [] in
      let idle : (u : Known V E) (i : ℕ) → get_elem? views i ≡ some u → live u.role ≡ 0 = λ u i e. ap (λ (z : Known V E). live z.role) (sym (one_seat v u i e).1) in
      let no_ticket : (u : Known V E) (i t : ℕ) → get_elem? views i ≡ some u → ticket u.role ≢ some t = λ u i t e b. some-ne-none t (sym (ap (λ (z : Known V E). ticket z.role) (one_seat v u i e).1 ∙ b)) in
      record {
        log = [];
        now = 0;
        next = 0;
        out = 0;
        made = 0;
        root = 0;
        joined = [];
        words = refl;
        queue = refl;
        passes = refl;
        few = omega arith;
        slot = inl (start, refl, alone);
        lones = refl;
        each = λ i u e. let o = one_seat v u i e in subst (λ (z : ℕ × Known V E). Knows start [] 0 0 0 0 0 [] (some start ∷ []) z.0 z.1) (λ c. (sym o.0 c, o.1 c)) (record {
          begun = λ _. refl;
          seen = ([], refl);
          mine = λ l. absurd (omega arith);
          roots = λ _. (refl, refl, refl, refl);
          heard = (λ j l b. absurd (some-ne-none l (sym b)));
          queued = λ t b. absurd (some-ne-none t (sym b));
          holds = λ t b. absurd (cc b);
        });
        apart = λ i j x y t ei ej tx ty. absurd (no_ticket x i t ei tx);
        numbers = λ i j x y ei ej lx ly nn. (one_seat v x i ei).0 ∙ sym (one_seat v y j ej).0;
        once = λ i j n a b ei ej. absurd (some-ne-none (n, a) (sym ei));
        joins = λ j n c e. absurd (some-ne-none (n, c) (sym e));
        all = λ n lt. absurd (omega arith);
        later = λ n le. refl;
      }

  pub settles : (table : TableId) (id : ℕ) (v : Known V E) (words : List ℕ) (slots : List V) → v.role ≡ Root → v.out ≡ 0 → Final (Seen Rule id v) words slots → (y : V) → get_elem? slots 0 ≡ some y → Settled stands is_lone start (root_state table v) y
  settles table id v words slots is none_out end y at_y =
      let s = end.0 in
      let k = end.1.0 in
      let at = end.1.1 in
      let old = k.each id v at in
      let mine = old.roots is in
      let no_pass : (i : ℕ) (u : Known V E) → get_elem? s.views i ≡ some u → live u.role ≡ 1 → ⊥ =
      λ i u e l. let t = total_at (λ (z : Known V E). live z.role) s.views i u e in let p = k.passes in let o = mine.1 in omega arith in
      let here = ⊎_elim (λ h. h) (λ h. absurd (no_pass h.1.0 h.1.1 h.1.2 (ap live h.1.3))) k.slot in
      let same : here.0 ≡ y = some-injective here.0 y (sym (end.4 0 here.0 (ap (λ (l : List (maybe.Option V)). get_elem? l 0) here.1)) ∙ at_y) in record {
        log = k.log;
        stood = subst (λ (z : V). stands start (events k.log) z) same here.2;
        begins = old.seen;
        heard = old.heard;
        lones = k.lones;
        calls = (let known : (i n : ℕ) (c : List E) → get_elem? v.joined i ≡ some (n, c) → get_elem? k.joined i ≡ some (n, c) = λ i n c e. subst (λ (l : List (ℕ × List E)). get_elem? l i ≡ some (n, c)) mine.3 e in record {
          own = λ j n c e. (k.joins j n c (known j n c e)).1;
          apart = λ i j n a b ei ej. k.once i j n a b (known i n a ei) (known j n b ej);
          no_others = λ n. dite (dec_le k.made n)
              (λ le. inl (k.later n le))
              (λ off. ⊎_elim (λ h. absurd (no_pass h.0 h.1 h.2 h.3)) (λ h. inr (h.0, subst (λ (l : List (ℕ × List E)). get_elem? l h.0 ≡ some (n, calls_by n k.log)) (sym mine.3) h.1)) (k.all n (lt_of_not-le off)));
        });
      }
