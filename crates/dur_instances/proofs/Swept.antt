-- What the vectors keep without what is expired or purged at a moment tells the same from then on.
use Rattle.std.proofs.Common.{◌≡◌, ℕ, ◌*◌, ◌^◌, ◌<◌, Bool, true, false, cond, not, ◌&&◌, ◌||◌, Option, Some, None, List, [], ◌∷◌, refl, sym, ap, ◌∙◌, subst, arith, inl, inr}
use Rattle.std.specs.Prelude.{is_some, filter, unwrap_or, option_map}
use Rattle.std.proofs.lemmas.Bool.{and_parts, or_left, or_right, not-false}
use Rattle.dur_qos.specs.declared.plan.Topic.{Topic}
use Rattle.dur_view.specs.Identities.{Key}
use Rattle.dur_view.specs.Fates.{is_nobody, is_long, is_over_by, reaches, has_fate, is_expired, is_displaced}
use Rattle.dur_view.specs.Sound.{Ascending}
use Rattle.dur_view.specs.Later.{SameFrom}
use Rattle.dur_instances.specs.declared.cells.Cell.{Cell}
use Rattle.dur_instances.specs.declared.registered.Registered.{Registered}
use Rattle.dur_instances.specs.declared.changes.Change.{Change}
use Rattle.dur_instances.specs.Trimmed.{Row, Late, made_of_late, begun_by, row_in, row_at, blank_row}
use Rattle.dur_instances.specs.Kept.{EachLate, Falls, IsOfRows, IsKept, NoneIsOver}
use Rattle.dur_instances.specs.Layout.{row_of, rows_of, late_of, lates_of, cell_in, places, count_in, raised, is_purged_in, is_gone_in, IsLaid}
use Rattle.dur_instances.proofs.CellLists.{row_in-cells, cell_in-filter, cell_in-key, kept_if, keys-rows, order-filter}
use Rattle.dur_instances.proofs.Rows.{quiet-begun}
use Rattle.dur_instances.proofs.Laws.{forgets, StillThere}
use Rattle.dur_instances.proofs.Applied.{map-filter, EachLate-filter, Falls-filter, EachChange-filter, EachLate-weaken, EachLate-passed}

-- whether a kept change is not expired or purged
abbrev pub lives_on : List Cell → ℕ → ℕ → Late → Bool
lives_on cells longest m c = not (is_over_by c.sample.lifespan c.sample.stamp m || is_purged_in cells longest m c.sample.key)

abbrev pub is_awake : ℕ → ℕ → Cell → Bool
is_awake longest m c = not (is_long c.quiet longest m)

-- an instance is purged by its cell where it is by its row
pub purged-row : (cells : List Cell) (regs : List Registered) (longest m : ℕ) (k : Key) → is_long (row_at (rows_of cells regs) k).quiet longest m ≡ is_purged_in cells longest m k
purged-row cells regs longest m k = ap (λ o. is_long (unwrap_or o (blank_row k)).quiet longest m) (row_in-cells cells regs k) ∙ at (cell_in cells k)
  where
    at : (o : Option Cell) → is_long (unwrap_or (option_map (row_of regs) o) (blank_row k)).quiet longest m ≡ unwrap_or (option_map (λ c. is_long c.quiet longest m) o) false
    at None = refl
    at (Some c) = refl

is_some-long : (o : Option ℕ) (longest m : ℕ) → is_long o longest m ≡ true → is_some o ≡ true
is_some-long None longest m e = e
is_some-long (Some b) longest m e = refl

nobody_is : (xs : List ℕ) → is_nobody xs ≡ true → xs ≡ []
nobody_is [] e = refl
nobody_is (x ∷ xs) e = cc

module _ (s : Topic) (cells : List Cell) (regs : List Registered) (changes : List Change) (laid : IsLaid s cells regs changes) (longest m : ℕ) where
  abbrev rest : List Cell
  rest = filter (is_awake longest m) cells

  rest-in : (k : Key) → cell_in rest k ≡ kept_if (is_awake longest m) (cell_in cells k)
  rest-in k = cell_in-filter (is_awake longest m) cells k (subst Ascending (keys-rows cells regs) laid.kept.order)

  awake-same : (k : Key) → is_purged_in cells longest m k ≡ false → cell_in rest k ≡ cell_in cells k
  awake-same k awake = rest-in k ∙ at (cell_in cells k) awake
    where
      at : (o : Option Cell) → unwrap_or (option_map (λ c. is_long c.quiet longest m) o) false ≡ false → kept_if (is_awake longest m) o ≡ o
      at None e = refl
      at (Some c) e = ap (λ b. cond (not b) (Some c) None) e

  purged-none : (k : Key) → is_purged_in cells longest m k ≡ true → cell_in rest k ≡ None
  purged-none k gone = rest-in k ∙ at (cell_in cells k) gone
    where
      at : (o : Option Cell) → unwrap_or (option_map (λ c. is_long c.quiet longest m) o) false ≡ true → kept_if (is_awake longest m) o ≡ None
      at None e = refl
      at (Some c) e = ap (λ b. cond (not b) (Some c) None) e

  row-same : (k : Key) → is_purged_in cells longest m k ≡ false → row_in (rows_of rest regs) k ≡ row_in (rows_of cells regs) k
  row-same k awake = row_in-cells rest regs k ∙ ap (λ o. option_map (row_of regs) o) (awake-same k awake) ∙ sym (row_in-cells cells regs k)

  row-none : (k : Key) → is_purged_in cells longest m k ≡ true → row_in (rows_of rest regs) k ≡ None
  row-none k gone = row_in-cells rest regs k ∙ ap (λ o. option_map (row_of regs) o) (purged-none k gone)

  quiet-rest : (k : Key) → is_some (row_at (rows_of rest regs) k).quiet ≡ ((row_at (rows_of rest regs) k).disposed && is_nobody (row_at (rows_of rest regs) k).registered)
  quiet-rest k = at (is_purged_in cells longest m k) refl
    where
      at : (b : Bool) → is_purged_in cells longest m k ≡ b → is_some (row_at (rows_of rest regs) k).quiet ≡ ((row_at (rows_of rest regs) k).disposed && is_nobody (row_at (rows_of rest regs) k).registered)
      at true is =
          let own : row_at (rows_of rest regs) k ≡ blank_row k = ap (λ o. unwrap_or o (blank_row k)) (row-none k is) in
          subst (λ (r : Row). is_some r.quiet ≡ (r.disposed && is_nobody r.registered)) (sym own) refl
      at false is =
          let own : row_at (rows_of rest regs) k ≡ row_at (rows_of cells regs) k = ap (λ o. unwrap_or o (blank_row k)) (row-same k is) in
          subst (λ (r : Row). is_some r.quiet ≡ (r.disposed && is_nobody r.registered)) (sym own) (laid.kept.quiet k)

  known-rest : (k : Key) → cell_in rest k ≡ None → places regs k ≡ []
  known-rest k none_left = at (is_purged_in cells longest m k) refl
    where
      at : (b : Bool) → is_purged_in cells longest m k ≡ b → places regs k ≡ []
      at false is = laid.known k (sym (awake-same k is) ∙ none_left)
      at true is = held (cell_in cells k) refl is
        where
          held : (o : Option Cell) → cell_in cells k ≡ o → unwrap_or (option_map (λ c. is_long c.quiet longest m) o) false ≡ true → places regs k ≡ []
          held None found e = laid.known k found
          held (Some c) found e =
              let own : row_at (rows_of cells regs) k ≡ row_of regs c = ap (λ o. unwrap_or o (blank_row k)) (row_in-cells cells regs k ∙ ap (λ o. option_map (row_of regs) o) found) in
              let told : is_some c.quiet ≡ (c.disposed && is_nobody (places regs c.key)) = subst (λ (r : Row). is_some r.quiet ≡ (r.disposed && is_nobody r.registered)) own (laid.kept.quiet k) in
              let nobody = (and_parts c.disposed (is_nobody (places regs c.key)) (sym told ∙ is_some-long c.quiet longest m e)).1 in
              subst (λ (j : Key). places regs j ≡ []) (cell_in-key cells k c found) (nobody_is (places regs c.key) nobody)

  counts-rest : (k : Key) → count_in rest k < 2 ^ 32
  counts-rest k = at (is_purged_in cells longest m k) refl
    where
      at : (b : Bool) → is_purged_in cells longest m k ≡ b → count_in rest k < 2 ^ 32
      at true is = subst (λ (z : ℕ). z < 2 ^ 32) (sym (ap (λ o. unwrap_or (option_map (λ c. c.count) o) 0) (purged-none k is))) (omega arith)
      at false is = subst (λ (z : ℕ). z < 2 ^ 32) (sym (ap (λ o. unwrap_or (option_map (λ c. c.count) o) 0) (awake-same k is))) (laid.counts k)

  -- the changes that are left
  late-rest : (c : Change) → is_purged_in cells longest m c.sample.key ≡ false → late_of rest c ≡ late_of cells c
  late-rest c awake = ap (λ o. record { later = raised c.at (unwrap_or (option_map (λ x. x.count) o) 0); writer = c.writer; number = c.number; arrived = c.arrived; sample = c.sample }) (awake-same c.sample.key awake)

  not-or : (a b : Bool) → not (a || b) ≡ true → b ≡ false
  not-or true b e = cc
  not-or false true e = cc
  not-or false false e = refl

  lates-rest : (cs : List Change) → lates_of rest (filter (λ c. not (is_gone_in cells longest m c)) cs) ≡ lates_of cells (filter (λ c. not (is_gone_in cells longest m c)) cs)
  lates-rest [] = refl
  lates-rest (c ∷ cs) = at (not (is_gone_in cells longest m c)) refl (lates-rest cs)
    where
      at : (b : Bool) → not (is_gone_in cells longest m c) ≡ b → lates_of rest (filter (λ c. not (is_gone_in cells longest m c)) cs) ≡ lates_of cells (filter (λ c. not (is_gone_in cells longest m c)) cs)
          → lates_of rest (cond b (c ∷ filter (λ c. not (is_gone_in cells longest m c)) cs) (filter (λ c. not (is_gone_in cells longest m c)) cs)) ≡ lates_of cells (cond b (c ∷ filter (λ c. not (is_gone_in cells longest m c)) cs) (filter (λ c. not (is_gone_in cells longest m c)) cs))
      at true is more = let one = late-rest c (not-or (is_over_by c.sample.lifespan c.sample.stamp m) (is_purged_in cells longest m c.sample.key) is) in cc
      at false is more = more

  abbrev left : List Change
  left = filter (λ c. not (is_gone_in cells longest m c)) changes

  pub lates-left : lates_of rest left ≡ filter (lives_on cells longest m) (lates_of cells changes)
  lates-left = lates-rest changes ∙ map-filter (late_of cells) (lives_on cells longest m) changes

  of-rest-at : (c : Late) → lives_on cells longest m c ≡ true → IsOfRows (rows_of cells regs) c → IsOfRows (rows_of rest regs) c
  of-rest-at c alive of =
      record { known = ap is_some (row-same c.sample.key (not-or (is_over_by c.sample.lifespan c.sample.stamp m) (is_purged_in cells longest m c.sample.key) alive)) ∙ of.known; few = of.few }

  of-rest : (cs : List Late) → EachLate (IsOfRows (rows_of cells regs)) cs → EachLate (IsOfRows (rows_of rest regs)) (filter (lives_on cells longest m) cs)
  of-rest [] each = tt
  of-rest (c ∷ cs) each = at (lives_on cells longest m c) refl (of-rest cs each.1)
    where
      at : (b : Bool) → lives_on cells longest m c ≡ b → EachLate (IsOfRows (rows_of rest regs)) (filter (lives_on cells longest m) cs) → EachLate (IsOfRows (rows_of rest regs)) (cond b (c ∷ filter (lives_on cells longest m) cs) (filter (lives_on cells longest m) cs))
      at true is more = (of-rest-at c is each.0, more)
      at false is more = more

  kept-rest : IsKept (rows_of rest regs) (lates_of rest left)
  kept-rest =
      record {
        order = subst Ascending (sym (keys-rows rest regs)) (order-filter (is_awake longest m) cells (subst Ascending (keys-rows cells regs) laid.kept.order));
        quiet = quiet-rest;
        each = subst (EachLate (IsOfRows (rows_of rest regs))) (sym lates-left) (of-rest (lates_of cells changes) laid.kept.each);
        falls = subst Falls (sym lates-left) (Falls-filter (lives_on cells longest m) (lates_of cells changes) laid.kept.falls);
      }

  pub laid-rest : IsLaid s rest regs left
  laid-rest =
      record {
        kept = kept-rest;
        in_order = laid.in_order;
        known = known-rest;
        deep = laid.deep;
        counts = counts-rest;
        counters = EachChange-filter (λ c. c.at < 2 ^ 32) (λ c. not (is_gone_in cells longest m c)) changes laid.counters;
        shallow = subst (EachLate (λ c. reaches s.depth c.later ≡ false)) (sym lates-left) (EachLate-filter (λ c. reaches s.depth c.later ≡ false) (lives_on cells longest m) (lates_of cells changes) laid.shallow);
      }

  pub awake-rest : (k : Key) → is_long (row_at (rows_of rest regs) k).quiet longest m ≡ false
  awake-rest k = purged-row rest regs longest m k ∙ ap (λ o. unwrap_or (option_map (λ c. is_long c.quiet longest m) o) false) (rest-in k) ∙ at (cell_in cells k)
    where
      cell : (b : Bool) (c : Cell) → is_long c.quiet longest m ≡ b → unwrap_or (option_map (λ c. is_long c.quiet longest m) (cond (not b) (Some c) None)) false ≡ false
      cell true c is = refl
      cell false c is = is

      at : (o : Option Cell) → unwrap_or (option_map (λ c. is_long c.quiet longest m) (kept_if (is_awake longest m) o)) false ≡ false
      at None = refl
      at (Some c) = cell (is_long c.quiet longest m) c refl

  pub same-rest : longest ≡ s.delay * 2 ^ 32 → SameFrom m (begun_by s (rows_of cells regs) (lates_of cells changes)) (begun_by s (rows_of rest regs) (lates_of rest left))
  same-rest is-longest =
      forgets s m (rows_of cells regs) (rows_of rest regs) (lates_of cells changes) (lates_of rest left) (lives_on cells longest m) laid.kept kept-rest lates-left still
      fate
    where
      still : (k : Key) → StillThere s m (rows_of cells regs) (rows_of rest regs) k
      still k = at (is_purged_in cells longest m k) refl
        where
          at : (b : Bool) → is_purged_in cells longest m k ≡ b → StillThere s m (rows_of cells regs) (rows_of rest regs) k
          at true is = inr (ap (λ z. is_long (row_at (rows_of cells regs) k).quiet z m) (sym is-longest) ∙ purged-row cells regs longest m k ∙ is, row-none k is)
          at false is = inl (row-same k is)

      fate : (c : Late) → IsOfRows (rows_of cells regs) c → lives_on cells longest m c ≡ false → has_fate (begun_by s (rows_of cells regs) (lates_of cells changes)) m (made_of_late c) ≡ true
      fate c of gone = at (is_over_by c.sample.lifespan c.sample.stamp m) refl (not-false (is_over_by c.sample.lifespan c.sample.stamp m || is_purged_in cells longest m c.sample.key) gone)
        where
          at : (b : Bool) → is_over_by c.sample.lifespan c.sample.stamp m ≡ b → (b || is_purged_in cells longest m c.sample.key) ≡ true → has_fate (begun_by s (rows_of cells regs) (lates_of cells changes)) m (made_of_late c) ≡ true
          at true is e = or_left _ _ is
          at false is e =
              let purged = ap (λ o. is_long o (s.delay * 2 ^ 32) m) (quiet-begun s (rows_of cells regs) (lates_of cells changes) c.sample.key) ∙ ap (λ z. is_long (row_at (rows_of cells regs) c.sample.key).quiet z m) (sym is-longest) ∙ purged-row cells regs longest m c.sample.key ∙ e in
              or_right (is_expired m (made_of_late c)) _ (or_right (is_displaced (begun_by s (rows_of cells regs) (lates_of cells changes)) (made_of_late c)) _ (or_right _ _ purged))

-- what is kept of the vectors after a sweep
pub record Left (s : Topic) (cells cells2 : List Cell) (regs : List Registered) (changes changes2 : List Change) (longest m : ℕ) : Type 0 where
  pub laid : IsLaid s cells2 regs changes2
  pub same : SameFrom m (begun_by s (rows_of cells regs) (lates_of cells changes)) (begun_by s (rows_of cells2 regs) (lates_of cells2 changes2))
  pub awake : (k : Key) → is_long (row_at (rows_of cells2 regs) k).quiet longest m ≡ false
  pub trimmed : NoneIsOver m (lates_of cells2 changes2)

not_either : (a b : Bool) → not (a || b) ≡ true → a ≡ false
not_either true b e = cc
not_either false b e = refl

pub swept : (s : Topic) (cells seen cells2 : List Cell) (regs : List Registered) (changes changes2 : List Change) → IsLaid s cells regs changes → (longest m : ℕ) → longest ≡ s.delay * 2 ^ 32 → seen ≡ cells
    → cells2 ≡ filter (λ c. not (is_long c.quiet longest m)) cells → changes2 ≡ filter (λ c. not (is_gone_in seen longest m c)) changes → Left s cells cells2 regs changes changes2 longest m
swept s cells seen cells2 regs changes changes2 laid longest m is-longest seen-is cells-is changes-is =
    let whole : Left s cells (filter (is_awake longest m) cells) regs changes (filter (λ c. not (is_gone_in cells longest m c)) changes) longest m =
    record {
      laid = laid-rest s cells regs changes laid longest m;
      same = same-rest s cells regs changes laid longest m is-longest;
      awake = awake-rest s cells regs changes laid longest m;
      trimmed =
          subst (NoneIsOver m) (sym (lates-left s cells regs changes laid longest m))
          (EachLate-weaken (λ c. lives_on cells longest m c ≡ true) (λ c. is_over_by c.sample.lifespan c.sample.stamp m ≡ false) (λ c t. not_either (is_over_by c.sample.lifespan c.sample.stamp m) (is_purged_in cells longest m c.sample.key) t)
          (filter (lives_on cells longest m) (lates_of cells changes)) (EachLate-passed (lives_on cells longest m) (lates_of cells changes)));
    } in
    subst (λ l. Left s cells l regs changes changes2 longest m) (sym cells-is)
    (subst (λ l. Left s cells (filter (is_awake longest m) cells) regs changes l longest m) (sym (changes-is ∙ ap (λ l. filter (λ c. not (is_gone_in l longest m c)) changes) seen-is)) whole)
