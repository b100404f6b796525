-- To draw a ticket and to look at the ticket that is served keep the rule.
use Rattle.std.proofs.Common.{◌≡◌, ℕ, ◌+◌, ◌%◌, ◌^◌, ◌<◌, ◌≤◌, Bool, List, [], ◌∷◌, set, sym, refl, ap, ◌∙◌, subst, inl, inr, ⊎_elim, arith}
use Rattle.std.specs.List.{filter}
use Rattle.std.specs.Prelude.{slice_index, slice_set}
use Rattle.std.proofs.Math.Nat.{mod-add-mod}
use mathlib.Core.Option.{some, none, some-ne-none, some-injective}
use mathlib.Core.Option as maybe
use mathlib.Core.Logic.{dite}
use native.Mathlib.Decide.{ℕ_discrete}
use lib.ListN.{get_elem?}
use Rattle.atomic_table.specs.Table.{State, step, keeps, takes, Allows}
use Rattle.atomic_table.proofs.Lists.{set_here, set_else, set_again, one_turn}
use Rattle.dur_turn.specs.declared.known.Role.TheVariants.{Idle, Waits, Holds}
use Rattle.dur_turn.specs.declared.known.Known.{Known}
use Rattle.dur_turn.specs.Calls.{total, events, calls_by}
use Rattle.dur_turn.specs.Rule.{live, waits, ticket, Kept}
use Rattle.dur_turn.specs.Steps.{posed, drew, looked}
use Rattle.dur_turn.proofs.Rows.{total_le, at_below, prefix_self}
use Rattle.dur_turn.proofs.Seats.{waits_below, same_view}
use Rattle.dur_turn.proofs.Moves.{moves}

module _ {V E : Type 0} (stands : V → List E → V → Type 0) (is_lone : E → Bool) (start : V) where
  abbrev St : Type 0
  St = State V (Known V E)

  abbrev Rule : St → Type 0
  Rule = Kept stands is_lone start

  pub draws : (slots id : ℕ) (v : Known V E) (c : List (ℕ × V)) → v.role ≡ Idle → Allows Rule slots id (v, c) 0 (λ n. (n + 1) % 2 ^ 64) (drew (step slots 0 1 0 none) (v, c))
  draws slots id v c idle s k deep at small =
      let w : Known V E = posed v (Waits k.next) v.seen in
      let old = k.each id v at in
      let was : live v.role ≡ 1 = ap live idle in
      let n_is : slice_index s.words 0 ≡ k.next % 2 ^ 64 = ap (λ (l : List ℕ). slice_index l 0) k.words in
      let words_are : slice_set s.words 0 ((slice_index s.words 0 + 1) % 2 ^ 64) ≡ (k.next + 1) % 2 ^ 64 ∷ k.now % 2 ^ 64 ∷ [] =
      ap (λ (l : List ℕ). slice_set l 0 ((slice_index l 0 + 1) % 2 ^ 64)) k.words ∙ ap (λ (z : ℕ). z ∷ k.now % 2 ^ 64 ∷ []) (mod-add-mod k.next (2 ^ 64) 1) in
      let nobody : waits v.role ≡ 0 = ap waits idle in
      let q = k.queue in (
        w,
        keeps,
        tt,
        moves stands is_lone start s k id v w k.log k.now (k.next + 1) _ s.homes at was refl refl words_are
            (omega arith)
            (⊎_elim (λ h. inl h) (λ h. inr (h.0, (h.1.0, h.1.1, set_else s.views id h.1.0 w (λ e. absurd (cc (idle, h.1.3, same_view s id v h.1.1 at (subst (λ (j : ℕ). get_elem? s.views j ≡ some h.1.1) e h.1.2)))) ∙ h.1.2, h.1.3))) k.slot)
            k.lones
            (λ j ne. refl)
            (λ j u ne e. let h = k.each j u e in record { begun = h.begun; seen = h.seen; mine = h.mine; roots = h.roots; heard = h.heard; queued = (λ t is. let p = h.queued t is in (p.0, omega arith)); holds = h.holds })
            (record {
              begun = λ _. old.begun (λ e. absurd (cc (idle, e)));
              seen = old.seen;
              mine = λ _. old.mine was;
              roots = λ e. absurd (cc e);
              heard = old.heard;
              queued = λ t e. let same : k.next ≡ t = some-injective k.next t e in (omega arith, omega arith);
              holds = λ t e. absurd (cc e);
            })
            (λ j u t ne e mine theirs. let same : k.next ≡ t = some-injective k.next t mine in let p = (k.each j u e).queued t theirs in absurd (omega arith)),
        (k.next, refl, sym n_is),
      )

  unchanged : (s : St) (k : Rule s) (id : ℕ) (v : Known V E) → get_elem? s.views id ≡ some v → Rule record { words = slice_set s.words 1 (slice_index s.words 1); homes = s.homes; views = set s.views id v }
  unchanged s k id v at =
      let words_are : slice_set s.words 1 (slice_index s.words 1) ≡ s.words = ap (λ (l : List ℕ). slice_set l 1 (slice_index l 1)) k.words ∙ sym k.words in
      subst (λ (z : List ℕ × List (Known V E)). Rule record { words = z.0; homes = s.homes; views = z.1 }) (λ i. (sym words_are i, sym (set_again s.views id v at) i)) k

  -- where the serving word is the caller's ticket, the value is at home
  home : (s : St) (k : Rule s) (id : ℕ) (v : Known V E) (t : ℕ) → get_elem? s.views id ≡ some v → v.role ≡ Waits t → k.now ≡ t → (y : V) × (s.homes ≡ some y ∷ []) × stands start (events k.log) y
  home s k id v t at is now_is = ⊎_elim (λ h. h)
      (λ h. let u = h.1.1 in
      let mine : ticket v.role ≡ some k.now = ap ticket is ∙ ap some (sym now_is) in
      let theirs : ticket u.role ≡ some k.now = ap ticket h.1.3 in
      let one : id ≡ h.1.0 = k.apart id h.1.0 v u k.now at h.1.2 mine theirs in
      absurd (cc (is, h.1.3, same_view s id v u at (subst (λ (j : ℕ). get_elem? s.views j ≡ some u) (sym one) h.1.2))))
      k.slot

  pub looks : (slots id : ℕ) (v : Known V E) (c : List (ℕ × V)) (t : ℕ) → v.role ≡ Waits t → Allows Rule slots id (v, c) 1 (λ n. n) (looked stands is_lone (step slots 1 0 0 none) (v, c))
  looks slots id v c t is s k deep at small = dite (ℕ_discrete (slice_index s.words 1) (t % 2 ^ 64))
      (λ hit.
      let old = k.each id v at in
      let mine = old.queued t (ap ticket is) in
      let was : live v.role ≡ 1 = ap live is in
      let n_is : slice_index s.words 1 ≡ k.now % 2 ^ 64 = ap (λ (l : List ℕ). slice_index l 1) k.words in
      let few : total (λ (u : Known V E). waits u.role) s.views ≤ total (λ (u : Known V E). live u.role) s.views = total_le (λ (u : Known V E). waits u.role) (λ (u : Known V E). live u.role) s.views (λ u. waits_below u.role) in
      let close : t < k.now + 2 ^ 64 = (let q = k.queue in let p = k.passes in let f = k.few in omega arith) in
      let now_is : k.now ≡ t = one_turn k.now t (2 ^ 64) mine.0 close (sym n_is ∙ hit) in
      let there = home s k id v t at is now_is in
      let w : Known V E = posed v (Holds t) (events k.log) in
      let homes : List (maybe.Option V) = slice_set s.homes 0 none in
      let homes_are : homes ≡ none ∷ [] = ap (λ (l : List (maybe.Option V)). slice_set l 0 none) there.1 in
      let words_are : slice_set s.words 1 (slice_index s.words 1) ≡ k.next % 2 ^ 64 ∷ k.now % 2 ^ 64 ∷ [] = ap (λ (l : List ℕ). slice_set l 1 (slice_index l 1)) k.words in
      let begun = old.begun (λ e. absurd (cc (is, e))) in
      let q = k.queue in
      let weighs : waits v.role ≡ 1 = ap waits is in (
        w,
        takes 0 there.0,
        ap (λ (l : List (maybe.Option V)). get_elem? l 0) there.1,
        moves stands is_lone start s k id v w k.log k.now k.next _ homes at was refl refl words_are
            (omega arith)
            (inr (homes_are, (id, w, set_here s.views id w (at_below s.views id v at), ap Holds (sym now_is))))
            k.lones
            (λ j ne. refl)
            (λ j u ne e. let h = k.each j u e in record { begun = h.begun; seen = h.seen; mine = h.mine; roots = h.roots; heard = h.heard; queued = h.queued; holds = λ a b. let g = h.holds a b in (g.0, homes_are, g.2) })
            (record {
              begun = λ _. begun;
              seen = prefix_self (events k.log);
              mine = λ _. old.mine was;
              roots = λ e. absurd (cc e);
              heard = old.heard;
              queued = λ a e. old.queued a (ap ticket is ∙ e);
              holds = λ a e. (let same : t ≡ a = cc e in sym same ∙ sym now_is, homes_are, refl);
            })
            (λ j u a ne e mine theirs. ne (sym (k.apart id j v u a at e (ap ticket is ∙ mine) theirs))),
        (λ a e. (
          (λ _. (
            t,
            events k.log,
            there.0,
            refl,
            old.seen,
            (λ st b. let same : start ≡ st = cc (begun, b) in subst (λ (z : V). stands z (events k.log) there.0) same there.2),
            (λ zero_is. k.lones ∙ ap (filter is_lone) (subst (λ (z : ℕ). calls_by z k.log ≡ v.mine) zero_is (old.mine was).1)),
          )),
          (λ off. absurd (let same : t ≡ a = cc (is, e) in off (hit ∙ ap (λ (z : ℕ). z % 2 ^ 64) same))),
        )),
      ))
      (λ miss. (v, keeps, tt, unchanged s k id v at, λ a e. ((λ hit. absurd (let same : t ≡ a = cc (is, e) in miss (hit ∙ ap (λ (z : ℕ). z % 2 ^ 64) (sym same)))), (λ _. refl))))
