-- From a place on before which all who work have left, nobody who works makes a call.
use Rattle.std.proofs.Common.{◌≡◌, ℕ, zero, suc, ◌+◌, ◌≤◌, ◌==◌, eqb, eqb-true, Bool, true, false, List, [], ◌∷◌, ◌++◌, length, MatchBool, refl, ap, sym, ◌∙◌, subst, arith, cond, append-nil}
use Rattle.std.specs.List.{filter}
use Rattle.std.proofs.lemmas.List.{map-append}
use mathlib.Core.Option.{some, some-ne-none, some-injective}
use lib.ListN.{get_elem?}
use Rattle.dur_turn.specs.Calls.{total, events, calls_by}
use Rattle.dur_turn.proofs.Rows.{by_append}
use Rattle.turn_uses.specs.Laws.{LeavesLast, EachLeaves, NobodyBehind, AllBefore}
use Rattle.turn_uses.proofs.Sums.{in_own, sums_by_pass, joined_of, part_below}

module _ {E : Type 0} where
  -- 1 for a leave
  abbrev one_for : (E → Bool) → E → ℕ
  one_for leaves e = cond (leaves e) 1 0

  total_append : (f : E → ℕ) (xs ys : List E) → total f (xs ++ ys) ≡ total f xs + total f ys
  total_append f [] ys = omega arith
  total_append f (x ∷ xs) ys = let h = total_append f xs ys in omega arith

  counted : (leaves : E → Bool) (es : List E) → total (one_for leaves) es ≡ length (filter leaves es)
  counted leaves [] = refl
  counted leaves (e ∷ es) = step (leaves e) (counted leaves es)
    where
      step : (b : Bool) → total (one_for leaves) es ≡ length (filter leaves es) → cond b 1 0 + total (one_for leaves) es ≡ length (cond b (e ∷ filter leaves es) (filter leaves es))
      step true h = omega arith
      step false h = omega arith

  -- a pass that works has one leave, another has none
  one_leave : (leaves : E → Bool) (calls : List E) (b : Bool) → MatchBool b (LeavesLast leaves calls) (filter leaves calls ≡ []) → total (one_for leaves) calls ≡ cond b 1 0
  one_leave leaves calls true h =
      let parts = total_append (one_for leaves) h.before (h.last ∷ []) in
      let none : total (one_for leaves) h.before ≡ 0 = counted leaves h.before ∙ ap length h.no_other in
      let one : one_for leaves h.last ≡ 1 = ap (λ (b : Bool). cond b 1 0) h.leave in
      ap (total (one_for leaves)) h.are ∙ (omega arith)
  one_leave leaves calls false h = counted leaves calls ∙ ap length h

  -- as many leaves as passes that work
  workers : (leaves : E → Bool) (works : ℕ → Bool) (joined : List (ℕ × List E)) → EachLeaves leaves works joined
      → total (λ (x : ℕ × List E). total (one_for leaves) x.1) joined ≡ length (filter (λ (x : ℕ × List E). works x.0) joined)
  workers leaves works [] each = refl
  workers leaves works (x ∷ xs) each = step (works x.0) (one_leave leaves x.1 (works x.0) (each 0 x.0 x.1 refl)) (workers leaves works xs (λ j k calls at. each (suc j) k calls at))
    where
      rest : List (ℕ × List E)
      rest = filter (λ (y : ℕ × List E). works y.0) xs

      step : (b : Bool) → total (one_for leaves) x.1 ≡ cond b 1 0 → total (λ (y : ℕ × List E). total (one_for leaves) y.1) xs ≡ length rest
          → total (one_for leaves) x.1 + total (λ (y : ℕ × List E). total (one_for leaves) y.1) xs ≡ length (cond b (x ∷ rest) rest)
      step true one h = omega arith
      step false one h = omega arith

  -- where a list is cut before its last element, that element is in the second part
  last_in : (f : E → ℕ) (xs ys rest : List E) (l e : E) (i : ℕ) → xs ++ ys ≡ rest ++ l ∷ [] → get_elem? ys i ≡ some e → f l ≤ total f ys
  last_in f [] ys rest l e i is at = let t = ap (total f) is in let s = total_append f rest (l ∷ []) in omega arith
  last_in f (x ∷ xs) ys [] l e i is at = absurd (some-ne-none e (sym (sym (ap (λ (w : List E). get_elem? w i) (empty xs ys (cc is))) ∙ at)))
    where
      empty : (us vs : List E) → us ++ vs ≡ [] → vs ≡ []
      empty [] vs q = q
      empty (u ∷ us) vs q = absurd (cc q)
  last_in f (x ∷ xs) ys (r ∷ rest) l e i is at = last_in f xs ys rest l e i (cc is) at

  pub nobody : NobodyBehind E
  nobody leaves works joined before after are each gone i k e at = decide (works k) refl
    where
      log : List (ℕ × E)
      log = before ++ after

      none_after : total (one_for leaves) (events after) ≡ 0
      none_after =
          let all = sums_by_pass (one_for leaves) joined log are in
          let by = workers leaves works joined each in
          let two : total (one_for leaves) (events log) ≡ total (one_for leaves) (events before) + total (one_for leaves) (events after)
          = ap (total (one_for leaves)) (map-append (λ (x : ℕ × E). x.1) before after) ∙ total_append (one_for leaves) (events before) (events after) in
          let left = counted leaves (events before) in
          omega arith

      decide : (b : Bool) → works k ≡ b → works k ≡ false
      decide false is = is
      decide true is =
          let own = in_own after i k e at in
          let cut : calls_by k log ≡ calls_by k before ++ calls_by k after = by_append k before after in
          let pass = joined_again own.0 own.1 cut in
          let leaves_last : LeavesLast leaves (calls_by k log) = subst (λ (b : Bool). MatchBool b (LeavesLast leaves (calls_by k log)) (filter leaves (calls_by k log) ≡ [])) is (each pass.0 k (calls_by k log) pass.1) in
          let ends : calls_by k before ++ calls_by k after ≡ leaves_last.before ++ leaves_last.last ∷ [] = sym cut ∙ leaves_last.are in
          let last = last_in (one_for leaves) (calls_by k before) (calls_by k after) leaves_last.before leaves_last.last e own.0 ends own.1 in
          let one : one_for leaves leaves_last.last ≡ 1 = ap (λ (b : Bool). cond b 1 0) leaves_last.leave in
          let below = part_below (one_for leaves) k after in
          let none = none_after in
          absurd (omega arith)
        where
          behind : (xs ys : List E) (p : ℕ) → get_elem? ys p ≡ some e → (q : ℕ) × (get_elem? (xs ++ ys) q ≡ some e)
          behind [] ys p h = (p, h)
          behind (x ∷ xs) ys p h = let r = behind xs ys p h in (suc r.0, r.1)

          joined_again : (p : ℕ) → get_elem? (calls_by k after) p ≡ some e → calls_by k log ≡ calls_by k before ++ calls_by k after → (j : ℕ) × (get_elem? joined j ≡ some (k, calls_by k log))
          joined_again p h cut = let r = behind (calls_by k before) (calls_by k after) p h in joined_of joined log are k r.0 e (ap (λ (l : List E). get_elem? l r.0) cut ∙ r.1)

  -- a call of the pass k stands in the list with that number
  placed : (log : List (ℕ × E)) (k p : ℕ) (e : E) → get_elem? (calls_by k log) p ≡ some e → (i : ℕ) × (get_elem? log i ≡ some (k, e))
  placed [] k p e at = absurd (some-ne-none e (sym at))
  placed (x ∷ xs) k p e at = step (λ q. placed xs k q e) (eqb k x.0) refl p at
    where
      step : ((q : ℕ) → get_elem? (calls_by k xs) q ≡ some e → (i : ℕ) × (get_elem? xs i ≡ some (k, e))) → (b : Bool) → eqb k x.0 ≡ b → (q : ℕ) → get_elem? (events (cond b (x ∷ filter (λ (y : ℕ × E). k == y.0) xs) (filter (λ (y : ℕ × E). k == y.0) xs))) q ≡ some e
          → (i : ℕ) × (get_elem? (x ∷ xs) i ≡ some (k, e))
      step rest true is zero h = (0, (λ i. some (sym (eqb-true k x.0 is) i, some-injective x.1 e h i)))
      step rest true is (suc q) h = let r = rest q h in (suc r.0, r.1)
      step rest false is q h = let r = rest q h in (suc r.0, r.1)

  pub all_before : AllBefore E
  all_before leaves works joined before after are each gone j k calls at is =
      let cut : calls_by k (before ++ after) ≡ calls_by k before ++ calls_by k after = by_append k before after in
      let own : calls_by k (before ++ after) ≡ calls = are.own j k calls at in
      let none : calls_by k after ≡ [] = empty (calls_by k after) (λ e h. let r = placed after k 0 e h in absurd (cc (sym is ∙ nobody leaves works joined before after are each gone r.0 k e r.1))) in
      sym (append-nil (calls_by k before)) ∙ (ap (λ (l : List E). calls_by k before ++ l) (sym none) ∙ (sym cut ∙ own))
    where
      empty : (l : List E) → ((e : E) → get_elem? l 0 ≡ some e → ⊥) → l ≡ []
      empty [] h = refl
      empty (x ∷ xs) h = absurd (h x refl)
