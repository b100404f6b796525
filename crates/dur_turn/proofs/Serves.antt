-- To serve keeps the rule.
use Rattle.std.proofs.Common.{◌≡◌, ◌≢◌, ℕ, ◌+◌, ◌%◌, ◌^◌, Bool, true, List, [], ◌∷◌, ◌++◌, sym, refl, ap, ◌∙◌, subst, inl, arith, Some}
use Rattle.std.specs.Prelude.{slice_index, slice_set}
use Rattle.std.proofs.Math.Nat.{mod-add-mod}
use mathlib.Core.Option.{some, none, some-ne-none, some-injective}
use mathlib.Core.Option as maybe
use mathlib.Core.List.{IsPrefix}
use Rattle.atomic_table.specs.Table.{State, step, gives, Allows}
use Rattle.dur_turn.specs.declared.known.Role.TheVariants.{Holds}
use Rattle.dur_turn.specs.declared.known.Known.{Known}
use Rattle.dur_turn.specs.Calls.{events}
use Rattle.dur_turn.specs.Rule.{Sat, live, waits, ticket, Kept}
use Rattle.dur_turn.specs.Steps.{done_with, served}
use Rattle.dur_turn.proofs.Rows.{prefix_self, prefix_more, events_snoc, by_own, by_other, lone_snoc}
use Rattle.dur_turn.proofs.Moves.{moves}

module _ {V E : Type 0} (stands : V → List E → V → Type 0) (is_lone : E → Bool) (start : V) where
  abbrev St : Type 0
  St = State V (Known V E)

  abbrev Rule : St → Type 0
  Rule = Kept stands is_lone start

  pub serves : (told : E → Type 0) (slots id : ℕ) (v : Known V E) (t : ℕ) (y : V) (e : E) → v.role ≡ Holds t → told e
      → ((st : V) → v.start ≡ Some st → stands st (v.seen ++ e ∷ []) y) → (is_lone e ≡ true → v.number ≡ 0)
      → Allows Rule slots id (v, (0, y) ∷ []) 1 (λ n. (n + 1) % 2 ^ 64) (served stands told (step slots 1 1 0 none) (v, (0, y) ∷ []))
  serves told slots id v t y e is is_told after lone s k deep at small =
      let old = k.each id v at in
      let mine = old.queued t (ap ticket is) in
      let was : live v.role ≡ 1 = ap live is in
      let held = old.holds t is in
      let begun = old.begun (λ q. absurd (cc (is, q))) in
      let w : Known V E = done_with v e in
      let log : List (ℕ × E) = k.log ++ (v.number, e) ∷ [] in
      let log_is : events log ≡ v.seen ++ e ∷ [] = events_snoc k.log v.number e ∙ ap (λ (l : List E). l ++ e ∷ []) (sym held.2) in
      let homes : List (maybe.Option V) = slice_set s.homes 0 (some y) in
      let homes_are : homes ≡ some y ∷ [] = ap (λ (l : List (maybe.Option V)). slice_set l 0 (some y)) held.1 in
      let words_are : slice_set s.words 1 ((slice_index s.words 1 + 1) % 2 ^ 64) ≡ k.next % 2 ^ 64 ∷ (k.now + 1) % 2 ^ 64 ∷ [] =
      ap (λ (l : List ℕ). slice_set l 1 ((slice_index l 1 + 1) % 2 ^ 64)) k.words ∙ ap (λ (z : ℕ). k.next % 2 ^ 64 ∷ z ∷ []) (mod-add-mod k.now (2 ^ 64) 1) in
      let q = k.queue in
      let weighs : waits v.role ≡ 1 = ap waits is in (
        w,
        gives,
        tt,
        moves stands is_lone start s k id v w log (k.now + 1) k.next _ homes at was refl refl words_are
            (omega arith)
            (inl (y, homes_are, subst (λ (l : List E). stands start l y) (sym log_is) (after start begun)))
            (lone_snoc is_lone k.log v.number e lone k.lones)
            (λ j ne. by_other k.log j v.number e ne)
            (λ j u ne at_j. let h = k.each j u at_j in record {
              begun = h.begun;
              seen = subst (λ (l : List E). IsPrefix u.seen l) (sym (events_snoc k.log v.number e)) (prefix_more u.seen (events k.log) (e ∷ []) h.seen);
              mine = λ l. let m = h.mine l in (m.0, by_other k.log u.number v.number e (λ n. ne (k.numbers j id u v at_j at l was n)) ∙ m.1);
              roots = h.roots;
              heard = (λ j l b. subst (λ (z : List E). IsPrefix l z) (sym (events_snoc k.log v.number e)) (prefix_more l (events k.log) (e ∷ []) (h.heard j l b)));
              queued = λ a b. let p = h.queued a b in (let off : a ≢ t = (λ same. ne (k.apart j id u v t at_j at (b ∙ ap some same) (ap ticket is))) in let n = held.0 in omega arith, p.1);
              holds = λ a b. absurd (ne (k.apart j id u v t at_j at (ap ticket b ∙ ap some ((h.holds a b).0 ∙ sym held.0)) (ap ticket is)));
            })
            (record {
              begun = λ _. begun;
              seen = subst (λ (l : List E). IsPrefix (v.seen ++ e ∷ []) l) (sym log_is) (prefix_self (v.seen ++ e ∷ []));
              mine = λ _. ((old.mine was).0, by_own k.log v.number e ∙ ap (λ (l : List E). l ++ e ∷ []) (old.mine was).1);
              roots = λ b. absurd (cc b);
              heard = (λ j l b. subst (λ (z : List E). IsPrefix l z) (sym (events_snoc k.log v.number e)) (prefix_more l (events k.log) (e ∷ []) (old.heard j l b)));
              queued = λ a b. absurd (some-ne-none a (sym b));
              holds = λ a b. absurd (cc b);
            })
            (λ j u a ne at_j b. absurd (some-ne-none a (sym b))),
        (e, is_told, (λ st b. (y, after st b)), refl),
      )

  -- the same, at a seat that is known to hold the slot
  pub serves_as : (told : E → Type 0) (slots id : ℕ) (m : Sat V E) (t : ℕ) (y : V) (e : E) → m.0.role ≡ Holds t → m.1 ≡ (0, y) ∷ [] → told e
      → ((st : V) → m.0.start ≡ Some st → stands st (m.0.seen ++ e ∷ []) y) → (is_lone e ≡ true → m.0.number ≡ 0)
      → Allows Rule slots id m 1 (λ n. (n + 1) % 2 ^ 64) (served stands told (step slots 1 1 0 none) m)
  serves_as told slots id m t y e is carried is_told after lone =
      subst (λ (c : List (ℕ × V)). Allows Rule slots id (m.0, c) 1 (λ n. (n + 1) % 2 ^ 64) (served stands told (step slots 1 1 0 none) (m.0, c))) (sym carried)
      (serves told slots id m.0 t y e is is_told after lone)
