-- The first lease step.
use Rattle.std.proofs.Common.{◌≡◌, ℕ, zero, suc, ◌+◌, ◌≤◌, ◌<◌, List, [], ◌∷◌, ◌++◌, length, take, drop, map, refl, ap, subst, ◌∙◌, sym, Bool, true, false, cond, get_or, ◌||◌, arith}
use Rattle.std.specs.Prelude.{◌==◌}
use Rattle.std.proofs.lemmas.List.{drop-drop, length-map}
use Rattle.std.proofs.Common.{length-drop}
use Rattle.dur_base.specs.declared.entry.Entry.{Entry}
use Rattle.dur_base.specs.declared.entry.Entry.TheVariants.{Lost}
use Rattle.dur_qos.specs.declared.plan.Plan.{Plan}
use Rattle.dur_view.specs.Identities.{Guid}
use Rattle.dur_view.specs.declared.data.View.{View}
use Rattle.dur_view.specs.Words.{stands}
use Rattle.dur_view.specs.Extend.{extend-push}
use Rattle.dur_view.specs.History.{History, ◌▸◌, ◌+>◌, start, moment, Follows}
use Rattle.dur_hub.specs.declared.left_behind.Leaver.{Leaver}
use Rattle.dur_hub.specs.declared.ledger.Ledger.{Ledger}
use Rattle.dur_hub.specs.declared.line.Line.{Line}
use Rattle.dur_view.specs.Stored.{stored}
use Rattle.dur_hub.specs.Runs.{Writer}
use Rattle.dur_hub.specs.Leases.{leavers, lose, heard_now, after_lease}
use Rattle.dur_hub.specs.LeftBehind.{leaver_of, AreLeaving, AllStand, AreLost, LosesLeft}
use Rattle.dur_hub.specs.Lines.{LinesFit}
use Rattle.dur_hub.specs.Queues.{LedgerAt}
use Rattle.dur_hub.specs.Looks.{Leases, StepsLease}
use Rattle.dur_hub.proofs.Guids.{start_extend}
use Rattle.dur_hub.proofs.Stored.{durable_extend}
use Rattle.dur_hub.proofs.Placing.{lines_same}
use Rattle.dur_hub.proofs.Leasing.{gone, map_lost}
use Rattle.dur_hub.proofs.GoodCalls.{good_lease, leavers_stand}
use Rattle.dur_hub.proofs.LeftBehind.{leaving_after}

-- the first so many are lost, and more may be
pub record Losing (l : Ledger) (leaving : List Leaver) (m : ℕ) (l' : Ledger) (leaving' : List Leaver) : Type 0 where
  pub count : ℕ
  pub few : count ≤ length leaving
  pub left : leaving' ≡ drop count leaving
  pub holds : (h : History) (t d : ℕ) (gs : List Guid) → LedgerAt l h t d
      → leaving ≡ map (leaver_of (start h)) gs
      → moment h ≤ m → AllStand (start h) gs → LedgerAt l' (h +> map (Lost m) (take count gs)) t d

pub losing_init : (l : Ledger) (leaving : List Leaver) (m : ℕ) → Losing l leaving m l leaving
losing_init l leaving m = record {
  count = 0;
  few = omega arith;
  left = refl;
  holds = λ h t d gs at is early there. at;
}

-- the one at a place
stands_at : (v : View) (n : ℕ) (gs : List Guid) (g : Guid) → n < length gs → AllStand v gs
    → stands v (get_or gs n g) ≡ true
stands_at v n [] g lt there = absurd (omega (arith, lt))
stands_at v zero (x ∷ gs) g lt there = there.0
stands_at v (suc n) (x ∷ gs) g lt there = stands_at v n gs g (omega (arith, lt)) there.1

-- the moment after some are lost
lost_early : (h : History) (m : ℕ) (gs : List Guid) → moment h ≤ m
    → moment (h +> map (Lost m) gs) ≤ m
lost_early h m [] le = le
lost_early h m (g ∷ gs) le = lost_early (h ▸ Lost m g) m gs (omega arith)

first_of_map : (v : View) (gs : List Guid) (n : ℕ) (x : Leaver) (rest : List Leaver)
    → drop n (map (leaver_of v) gs) ≡ x ∷ rest
    → (n < length gs) × (x ≡ leaver_of v x.guid) × (take (suc n) gs ≡ take n gs ++ x.guid ∷ [])
    × (AllStand v gs → stands v x.guid ≡ true)
first_of_map v [] zero x rest is = absurd (cc)
first_of_map v [] (suc n) x rest is = absurd (cc)
first_of_map v (g ∷ gs) zero x rest is =
    let e : leaver_of v g ≡ x = cc in
    let same : g ≡ x.guid = ap (λ (y : Leaver). y.guid) e in
    (omega arith, sym e ∙ ap (leaver_of v) same, ap (λ y. y ∷ []) same, λ there. subst (λ y. stands v y ≡ true) same there.0)
first_of_map v (g ∷ gs) (suc n) x rest is =
    let more = first_of_map v gs n x rest is in
    (omega (arith, more.0), more.1, ap (λ l. g ∷ l) more.2, λ there. more.3 there.1)

module _ (l : Ledger) (leaving : List Leaver) (m : ℕ) (l1 : Ledger) (mid : List Leaver) (l2 : Ledger) (x : Leaver) (rest : List Leaver) (so : Losing l leaving m l1 mid) (is : mid ≡ x ∷ rest) where
  -- one more is lost
  pub losing_more :
      ((h : History) (t d : ℕ) → LedgerAt l1 h t d → x ≡ leaver_of (start h) x.guid → Follows h (Lost m x.guid) → LedgerAt l2 (h ▸ Lost m x.guid) t d)
      → Losing l leaving m l2 rest
  losing_more lost = record {
    count = suc so.count;
    few = omega (arith, ap length so.left, ap length is, length-drop so.count leaving);
    left =
        ap (drop 1) (sym is ∙ so.left) ∙ drop-drop 1 so.count leaving
        ∙ ap (λ n. drop n leaving) (let e : so.count + 1 ≡ suc so.count = omega arith in e);
    holds = λ h t d gs at those early there.
        let v : View = start h in
        let h1 : History = h +> map (Lost m) (take so.count gs) in
        let kept : start h1 ≡ v = start_extend h (map (Lost m) (take so.count gs)) in
        let here =
        first_of_map v gs so.count x rest (ap (drop so.count) (sym those) ∙ sym so.left ∙ is) in
        let follows : Follows h1 (Lost m x.guid) = record {
          known = ap (λ y. stands y x.guid) kept ∙ here.3 there;
          later = lost_early h m (take so.count gs) early;
          number = tt;
          short = tt;
          good = tt;
        } in
        let next =
        lost h1 t d (so.holds h t d gs at those early there)
        (here.1 ∙ ap (λ y. leaver_of y x.guid) (sym kept)) follows in
        subst (λ k. LedgerAt l2 k t d)
        (sym (ap (λ q. h +> map (Lost m) q) here.2 ∙ ap (λ q. h +> q) (map_lost m (take so.count gs) x.guid) ∙ extend-push h (map (Lost m) (take so.count gs)) (Lost m x.guid)))
        next;
  }

  -- there was no memory for one more
  pub losing_stopped : ((h : History) (t d : ℕ) → LedgerAt l1 h t d → LedgerAt l2 h t d)
      → LosesLeft l leaving m false l2 mid
  losing_stopped keeps = record {
    count = so.count;
    left = so.left;
    lost = omega (arith, ap length so.left, ap length is, length-drop so.count leaving);
    holds =
        λ h t d gs at those early there. keeps (h +> map (Lost m) (take so.count gs)) t d (so.holds h t d gs at those early there);
  }

pub losing_all : (l : Ledger) (leaving : List Leaver) (m : ℕ) (l' : Ledger) (leaving' : List Leaver)
    → length leaving' ≡ 0 → Losing l leaving m l' leaving' → LosesLeft l leaving m true l' leaving'
losing_all l leaving m l' leaving' none so = record {
  count = so.count;
  left = so.left;
  lost = omega (arith, so.few, none, ap length so.left, length-drop so.count leaving);
  holds = so.holds;
}

-- the first of a list
pub head_of : (xs : List Leaver) (x : Leaver) → 0 < length xs → x ≡ get_or xs 0 x
    → xs ≡ x ∷ drop 1 xs
head_of [] x lt is = absurd (omega (arith, lt))
head_of (y ∷ xs) x lt is = ap (λ z. z ∷ xs) (sym is)

-- ---- the step of any call

still_begun : (a b : Bool) → a ≡ true → (a || b) ≡ true
still_begun true b is = refl
still_begun false b is = absurd (cc)

pub step_begun : (l : Ledger) (ls : List Line) (leaving : List Leaver) (m : ℕ) (begun done : Bool)
    (l' : Ledger) (ls' : List Line)
    → begun ≡ true → Leases l ls m done l' ls' → StepsLease l ls leaving m begun done l' ls' leaving
step_begun l ls leaving m begun done l' ls' yes1 so = record {
  count = so.count;
  holds = λ r st is same at.
      let all : r.begun ≡ true = same ∙ yes1 in
      let a = so.holds r st is all in
      (a.0, a.1, λ no1. absurd (let q = still_begun r.begun (so.count == length (leavers r)) all in cc));
}

pub step_first : (l : Ledger) (ls : List Line) (leaving : List Leaver) (m : ℕ) (begun done : Bool)
    (l' : Ledger) (ls' : List Line) (leaving' : List Leaver)
    → begun ≡ false → LosesLeft l leaving m done l' leaving'
    → ((plan : Plan) (h : History) (d : ℕ) (ws : List Writer) → LinesFit plan h d ls ws → LinesFit plan h d ls' (map (heard_now m) ws))
    → StepsLease l ls leaving m begun done l' ls' leaving'
step_first l ls leaving m begun done l' ls' leaving' no1 so hear = record {
  count = so.count;
  holds = λ r st is same at.
      let first : r.begun ≡ false = same ∙ no1 in
      let gs : List Guid = leavers r in
      let n : ℕ = so.count in
      let those = at first in
      let early : moment r.history ≤ m = subst (λ k. moment r.history ≤ k) is st.good.early in
      let at' =
      so.holds r.history r.taken r.durable gs st.ledger those early
      (leavers_stand r st.good.writers) in
      let within : r.durable ≤ length (stored r.history) =
      omega (arith, st.good.durable, st.good.taken) in
      let es : List Entry = map (Lost r.moment) (take n gs) in
      let fit = lines_same r.plan r.history (gone r n) r.durable ls' (map (heard_now r.moment) r.writers) record {
        begun = start_extend r.history es;
        kept = durable_extend r.history es r.durable within;
      }
      (subst (λ k. LinesFit r.plan r.history r.durable ls' (map (heard_now k) r.writers)) (sym is) (hear r.plan r.history r.durable r.writers st.lines)) in (
        subst (AreLost done n) (ap length those ∙ length-map gs (leaver_of (start r.history)))
            so.lost,
        record {
          ledger =
              subst (λ k. LedgerAt l' (r.history +> map (Lost k) (take n gs)) r.taken r.durable)
              (sym is) at';
          lines =
              subst
              (λ b. LinesFit r.plan (gone r n) r.durable ls' (cond b (lose r.moment n r.writers) (map (heard_now r.moment) r.writers)))
              (sym first) fit;
          good = good_lease r n st.good;
        },
        subst (λ q. AreLeaving (after_lease r n) q) (sym so.left)
            (leaving_after r n leaving first st.good those),
      );
}
