-- The lease step, line by line.
use Rattle.std.proofs.Common.{◌≡◌, ℕ, zero, suc, ◌+◌, ◌<◌, ◌≤◌, List, [], ◌∷◌, ◌++◌, length, take, map, get_or, refl, ap, subst, ◌∙◌, sym, Bool, true, false, cond, arith}
use Rattle.std.proofs.Math.ListN.{set}
use Rattle.std.specs.Prelude.{filter}
use Rattle.dur_base.specs.declared.entry.Entry.{Entry}
use Rattle.dur_base.specs.declared.entry.Entry.TheVariants.{Lost}
use Rattle.dur_qos.specs.declared.plan.Plan.{Plan}
use Rattle.dur_view.specs.Identities.{Guid}
use Rattle.dur_view.specs.Extend.{extend-push}
use Rattle.dur_view.specs.Words.{stands}
use Rattle.dur_view.specs.History.{History, ◌▸◌, ◌+>◌, start, moment, Follows}
use Rattle.dur_hub.specs.declared.ledger.Ledger.{Ledger}
use Rattle.dur_hub.specs.declared.line.Line.{Line}
use Rattle.dur_view.specs.Stored.{stored, is_stored}
use Rattle.dur_hub.specs.Runs.{Writer, Run}
use Rattle.dur_hub.specs.Leases.{is_overdue, is_left_behind, leavers, lose, heard_now, after_lease}
use Rattle.dur_hub.specs.GoodRuns.{GoodWriter, GoodWriters, IsGoodRun}
use Rattle.dur_hub.specs.Lines.{LineFits, LinesFit}
use Rattle.dur_hub.specs.Queues.{LedgerAt}
use Rattle.dur_hub.specs.Hubs.{StandsAt}
use Rattle.dur_hub.specs.Looks.{is_late, overdue_upto, LookedAt, Leases}
use Rattle.dur_hub.proofs.Guids.{start_extend}
use Rattle.dur_hub.proofs.Stored.{durable_extend}
use Rattle.dur_hub.proofs.Dues.{late_is}
use Rattle.dur_hub.proofs.Placing.{lines_same}
use Rattle.dur_hub.proofs.GoodCalls.{good_lease}

abbrev pub guid_of : Writer → Guid
guid_of w = w.line.guid

-- the line at a place, where the overdue writers before it were lost
pub record LookAt (plan : Plan) (h : History) (d now : ℕ) (ls : List Line) (ws : List Writer) (i n : ℕ) (x : Line) : Type 0 where
  pub writer : Writer
  pub fits : LineFits plan h d (get_or ls i x) writer
  pub stands : (k : History) (plan2 : Plan) → GoodWriters k plan2 ws → GoodWriter k plan2 writer
  pub more : is_overdue now writer ≡ true
      → (take (suc n) (map guid_of (filter (is_overdue now) ws)) ≡ take n (map guid_of (filter (is_overdue now) ws)) ++ writer.line.guid ∷ [])
      × (suc n ≡ overdue_upto now (suc i) ws)
      × ((line : Line) → LineFits plan h d line (record writer { lost = true }) → LinesFit plan h d (set ls i line) (lose now (suc n) ws))
  pub less : is_overdue now writer ≡ false → n ≡ overdue_upto now (suc i) ws
  pub same : (line : Line) → LineFits plan h d line writer
      → LinesFit plan h d (set ls i line) (lose now n ws)

lose_none : (now : ℕ) (ws : List Writer) → lose now 0 ws ≡ ws
lose_none now ws = refl

module _ (plan : Plan) (h : History) (d now : ℕ) where
  pub look_at : (ls : List Line) (ws : List Writer) (i n : ℕ) (x : Line) → n ≡ overdue_upto now i ws
      → i < length ls → LinesFit plan h d ls (lose now n ws) → LookAt plan h d now ls ws i n x
  look_at [] ws i n x is lt fit = absurd (omega (arith, lt))
  look_at (l ∷ ls) [] i zero x is lt fit = absurd fit
  look_at (l ∷ ls) [] i (suc n) x is lt fit = absurd fit
  look_at (l ∷ ls) (w ∷ ws) zero zero x is lt fit = record {
    writer = w;
    fits = fit.0;
    stands = λ k plan2 good. good.0;
    more = λ yes1. (
      ap
          (λ b. take 1 (map guid_of (cond b (w ∷ filter (is_overdue now) ws) (filter (is_overdue now) ws))))
          yes1,
      sym (ap (λ b. cond b (overdue_upto now 0 ws + 1) (overdue_upto now 0 ws)) yes1),
      λ line here. subst (λ b. LinesFit plan h d (line ∷ ls) (cond b (record w { lost = true } ∷ lose now 0 ws) (w ∷ lose now 1 ws))) (sym yes1) (here, fit.1),
    );
    less = λ no1. sym (ap (λ b. cond b (overdue_upto now 0 ws + 1) (overdue_upto now 0 ws)) no1);
    same = λ line here. (here, fit.1);
  }
  look_at (l ∷ ls) (w ∷ ws) zero (suc n) x is lt fit = absurd (omega (arith, is))
  look_at (l ∷ ls) (w ∷ ws) (suc i) n x is lt fit =
      at_by (is_overdue now w) refl n is fit (λ k e f. look_at ls ws i k x e (omega (arith, lt)) f) where
        at_by : (b : Bool) → is_overdue now w ≡ b → (n : ℕ)
            → n ≡ cond b (overdue_upto now i ws + 1) (overdue_upto now i ws)
            → LinesFit plan h d (l ∷ ls) (lose now n (w ∷ ws))
            → ((k : ℕ) → k ≡ overdue_upto now i ws → LinesFit plan h d ls (lose now k ws) → LookAt plan h d now ls ws i k x)
            → LookAt plan h d now (l ∷ ls) (w ∷ ws) (suc i) n x
        at_by true e zero is fit look = absurd (omega (arith, is))
        at_by true e (suc k) is fit look =
            let f : LinesFit plan h d (l ∷ ls) (record w { lost = true } ∷ lose now k ws) =
            subst
            (λ b. LinesFit plan h d (l ∷ ls) (cond b (record w { lost = true } ∷ lose now k ws) (w ∷ lose now (suc k) ws)))
            e fit in
            let p = look k (omega (arith, is)) f.1 in
            record {
              writer = p.writer;
              fits = p.fits;
              stands = λ q plan2 good. p.stands q plan2 good.1;
              more = λ yes1.
                  let m = p.more yes1 in (
                    (let all : map guid_of (filter (is_overdue now) (w ∷ ws)) ≡ w.line.guid ∷ map guid_of (filter (is_overdue now) ws) = ap (λ b. map guid_of (cond b (w ∷ filter (is_overdue now) ws) (filter (is_overdue now) ws))) e in
                        ap (take (suc (suc k))) all ∙ ap (λ r. w.line.guid ∷ r) m.0
                        ∙ ap (λ r. r ++ p.writer.line.guid ∷ []) (sym (ap (take (suc k)) all))),
                    omega
                        (arith, m.1, ap (λ b. cond b (overdue_upto now (suc i) ws + 1) (overdue_upto now (suc i) ws)) e),
                    λ line here. subst (λ b. LinesFit plan h d (l ∷ set ls i line) (cond b (record w { lost = true } ∷ lose now (suc k) ws) (w ∷ lose now (suc (suc k)) ws))) (sym e) (f.0, m.2 line here),
                  );
              less =
                  λ no1. omega (arith, p.less no1, ap (λ b. cond b (overdue_upto now (suc i) ws + 1) (overdue_upto now (suc i) ws)) e);
              same =
                  λ line here. subst (λ b. LinesFit plan h d (l ∷ set ls i line) (cond b (record w { lost = true } ∷ lose now k ws) (w ∷ lose now (suc k) ws))) (sym e) (f.0, p.same line here);
            }
        at_by false e n is fit look =
            let same : (k : ℕ) → lose now k (w ∷ ws) ≡ w ∷ lose now k ws = λ k. same_by k in
            let f : LinesFit plan h d (l ∷ ls) (w ∷ lose now n ws) =
            subst (λ q. LinesFit plan h d (l ∷ ls) q) (same n) fit in
            let p = look n is f.1 in
            let all : map guid_of (filter (is_overdue now) (w ∷ ws)) ≡ map guid_of (filter (is_overdue now) ws) =
            ap
            (λ b. map guid_of (cond b (w ∷ filter (is_overdue now) ws) (filter (is_overdue now) ws)))
            e in
            record {
              writer = p.writer;
              fits = p.fits;
              stands = λ q plan2 good. p.stands q plan2 good.1;
              more = λ yes1.
                  let m = p.more yes1 in (
                    ap (take (suc n)) all ∙ m.0
                        ∙ ap (λ r. r ++ p.writer.line.guid ∷ []) (sym (ap (take n) all)),
                    m.1
                        ∙ sym (ap (λ b. cond b (overdue_upto now (suc i) ws + 1) (overdue_upto now (suc i) ws)) e),
                    λ line here. subst (λ q. LinesFit plan h d (l ∷ set ls i line) q) (sym (same (suc n))) (f.0, m.2 line here),
                  );
              less =
                  λ no1. p.less no1
                  ∙ sym (ap (λ b. cond b (overdue_upto now (suc i) ws + 1) (overdue_upto now (suc i) ws)) e);
              same =
                  λ line here. subst (λ q. LinesFit plan h d (l ∷ set ls i line) q) (sym (same n)) (f.0, p.same line here);
            } where
              same_by : (k : ℕ) → lose now k (w ∷ ws) ≡ w ∷ lose now k ws
              same_by zero = refl
              same_by (suc k) =
                  ap (λ b. cond b (record w { lost = true } ∷ lose now k ws) (w ∷ lose now (suc k) ws))
                  e

-- how many are overdue
pub overdue_all : (now i : ℕ) (ws : List Writer) → length ws ≤ i
    → overdue_upto now i ws ≡ length (filter (is_overdue now) ws)
overdue_all now zero [] le = refl
overdue_all now (suc i) [] le = refl
overdue_all now zero (w ∷ ws) le = absurd (omega (arith, le))
overdue_all now (suc i) (w ∷ ws) le =
    all_by (is_overdue now w) (overdue_all now i ws (omega (arith, le))) where
      all_by : (b : Bool) → overdue_upto now i ws ≡ length (filter (is_overdue now) ws)
          → cond b (overdue_upto now i ws + 1) (overdue_upto now i ws) ≡ length (cond b (w ∷ filter (is_overdue now) ws) (filter (is_overdue now) ws))
      all_by true so = omega (arith, so)
      all_by false so = so

pub overdue_le : (now i : ℕ) (ws : List Writer)
    → overdue_upto now i ws ≤ length (filter (is_overdue now) ws)
overdue_le now zero ws = omega arith
overdue_le now (suc i) [] = omega arith
overdue_le now (suc i) (w ∷ ws) = le_by (is_overdue now w) (overdue_le now i ws) where
  le_by : (b : Bool) → overdue_upto now i ws ≤ length (filter (is_overdue now) ws)
      → cond b (overdue_upto now i ws + 1) (overdue_upto now i ws) ≤ length (cond b (w ∷ filter (is_overdue now) ws) (filter (is_overdue now) ws))
  le_by true so = omega (arith, so)
  le_by false so = so

pub length_map : (ws : List Writer) → length (map guid_of ws) ≡ length ws
length_map [] = refl
length_map (w ∷ ws) = ap suc (length_map ws)

-- those that leave once the first step is done
pub leavers_begun : (r : Run) → r.begun ≡ true
    → leavers r ≡ map guid_of (filter (is_overdue r.moment) r.writers)
leavers_begun r is =
    ap
    (λ b. cond b (map guid_of (filter (is_overdue r.moment) r.writers)) (map (λ line. line.guid) (filter (is_left_behind r) (start r.history).writers)))
    is

-- ---- the step

abbrev pub gone : Run → ℕ → History
gone r n = r.history +> map (Lost r.moment) (take n (leavers r))

pub stands_leased : (l : Ledger) (ls : List Line) (r : Run) (n : ℕ) → r.begun ≡ true → IsGoodRun r
    → LedgerAt l (gone r n) r.taken r.durable
    → LinesFit r.plan (gone r n) r.durable ls (lose r.moment n r.writers)
    → StandsAt l ls (after_lease r n)
stands_leased l ls r n begun good at fit = record {
  ledger = at;
  lines =
      subst
      (λ b. LinesFit r.plan (gone r n) r.durable ls (cond b (lose r.moment n r.writers) (map (heard_now r.moment) r.writers)))
      (sym begun) fit;
  good = good_lease r n good;
}

lines_leased : (l : Ledger) (ls : List Line) (r : Run) (n : ℕ) → r.begun ≡ true
    → StandsAt l ls (after_lease r n)
    → LinesFit r.plan (gone r n) r.durable ls (lose r.moment n r.writers)
lines_leased l ls r n begun st =
    subst
    (λ b. LinesFit r.plan (gone r n) r.durable ls (cond b (lose r.moment n r.writers) (map (heard_now r.moment) r.writers)))
    begun st.lines

pub looked_init : (l : Ledger) (ls : List Line) (m : ℕ) → LookedAt l ls m 0 l ls
looked_init l ls m = record {
  count = 0;
  holds = λ r st is begun. (refl, stands_leased l ls r 0 begun st.good st.ledger st.lines);
}

pub map_lost : (m : ℕ) (gs : List Guid) (g : Guid)
    → map (Lost m) (gs ++ g ∷ []) ≡ map (Lost m) gs ++ Lost m g ∷ []
map_lost m [] g = refl
map_lost m (x ∷ gs) g = ap (λ l. Lost m x ∷ l) (map_lost m gs g)

module _ (l : Ledger) (ls : List Line) (m i : ℕ) (l1 : Ledger) (ls1 : List Line) (l2 : Ledger) (x line' : Line) (so : LookedAt l ls m i l1 ls1) (lt : i < length ls1) where
  at_line : (r : Run) → StandsAt l ls r → r.moment ≡ m → r.begun ≡ true
      → LookAt r.plan (gone r so.count) r.durable r.moment ls1 r.writers i so.count x
  at_line r st is begun =
      let a = so.holds r st is begun in
      look_at r.plan (gone r so.count) r.durable r.moment ls1 r.writers i so.count x
      (a.0 ∙ ap (λ k. overdue_upto k i r.writers) (sym is)) lt
      (lines_leased l1 ls1 r so.count begun a.1)

  -- one that is not overdue
  pub looked_less : is_late (get_or ls1 i x) m ≡ false → l2 ≡ l1 → line' ≡ get_or ls1 i x
      → LookedAt l ls m (suc i) l2 (set ls1 i line')
  looked_less on_time same_ledger same_line = record {
    count = so.count;
    holds = λ r st is begun.
        let a = so.holds r st is begun in
        let p = at_line r st is begun in
        let quiet : is_overdue r.moment p.writer ≡ false = sym (late_is r.plan (gone r so.count) r.durable r.moment (get_or ls1 i x) p.writer p.fits) ∙ ap (is_late (get_or ls1 i x)) is ∙ on_time in (
          p.less quiet ∙ ap (λ k. overdue_upto k (suc i) r.writers) is,
          stands_leased l2 (set ls1 i line') r so.count begun st.good
              (subst (λ q. LedgerAt q (gone r so.count) r.taken r.durable) (sym same_ledger) a.1.ledger)
              (p.same line' (subst (λ q. LineFits r.plan (gone r so.count) r.durable q p.writer) (sym same_line) p.fits)),
        );
  }

  -- one that is
  pub looked_more : is_late (get_or ls1 i x) m ≡ true → line' ≡ record (get_or ls1 i x) {
    lost = true;
  }
      → ((h : History) (t d : ℕ) → LedgerAt l1 h t d → (get_or ls1 i x).stored ≡ is_stored (start h) (get_or ls1 i x).guid → Follows h (Lost m (get_or ls1 i x).guid) → LedgerAt l2 (h ▸ Lost m (get_or ls1 i x).guid) t d)
      → LookedAt l ls m (suc i) l2 (set ls1 i line')
  looked_more late line_is admit = record {
    count = suc so.count;
    holds = λ r st is begun.
        let a = so.holds r st is begun in
        let p = at_line r st is begun in
        let line : Line = get_or ls1 i x in
        let w : Writer = p.writer in
        let h1 : History = gone r so.count in
        let overdue : is_overdue r.moment w ≡ true =
        sym (late_is r.plan h1 r.durable r.moment line w p.fits) ∙ ap (is_late line) is
        ∙ late in
        let more = p.more overdue in
        let g : GoodWriter r.history r.plan w = p.stands r.history r.plan st.good.writers in
        let begun_at : start h1 ≡ start r.history =
        start_extend r.history (map (Lost r.moment) (take so.count (leavers r))) in
        let known : stands (start h1) line.guid ≡ true =
        ap (λ v. stands v line.guid) begun_at ∙ ap (stands (start r.history)) p.fits.guid
        ∙ g.stands in
        let early : moment h1 ≤ m = subst (λ k. moment h1 ≤ k) is a.1.good.early in
        let at = admit h1 r.taken r.durable a.1.ledger (p.fits.stored ∙ ap (is_stored (start h1)) (sym p.fits.guid)) record {
          known = known;
          later = early;
          number = tt;
          short = tt;
          good = tt;
        } in
        let e : Entry = Lost r.moment w.line.guid in
        let lost_is : Lost m line.guid ≡ e =
        ap (λ k. Lost k line.guid) (sym is) ∙ ap (Lost r.moment) p.fits.guid in
        let leaving = leavers_begun r begun in
        let taken_is : take (suc so.count) (leavers r) ≡ take so.count (leavers r) ++ w.line.guid ∷ [] =
        ap (take (suc so.count)) leaving ∙ more.0
        ∙ ap (λ q. take so.count q ++ w.line.guid ∷ []) (sym leaving) in
        let history : gone r (suc so.count) ≡ h1 ▸ e =
        ap (λ q. r.history +> map (Lost r.moment) q) taken_is
        ∙ ap (λ q. r.history +> q) (map_lost r.moment (take so.count (leavers r)) w.line.guid)
        ∙ extend-push r.history (map (Lost r.moment) (take so.count (leavers r))) e in
        let within : r.durable ≤ length (stored h1) =
        omega (arith, a.1.ledger.queued.lined.marked, a.1.ledger.queued.lined.handed) in
        let here : LineFits r.plan h1 r.durable line' (record w { lost = true }) =
        subst (λ q. LineFits r.plan h1 r.durable q (record w { lost = true })) (sym line_is)
        (line_lost r.plan h1 r.durable line w p.fits) in
        let fit = lines_same r.plan h1 (h1 ▸ e) r.durable (set ls1 i line') (lose r.moment (suc so.count) r.writers) record { begun = refl; kept = durable_extend h1 (e ∷ []) r.durable within } (more.2 line' here) in (
          more.1 ∙ ap (λ k. overdue_upto k (suc i) r.writers) is,
          stands_leased l2 (set ls1 i line') r (suc so.count) begun st.good
              (subst (λ q. LedgerAt l2 q r.taken r.durable) (sym history) (subst (λ q. LedgerAt l2 (h1 ▸ q) r.taken r.durable) lost_is at))
              (subst (λ q. LinesFit r.plan q r.durable (set ls1 i line') (lose r.moment (suc so.count) r.writers)) (sym history) fit),
        );
  } where
    line_lost : (plan : Plan) (h : History) (d : ℕ) (q : Line) (w : Writer) → LineFits plan h d q w
        → LineFits plan h d (record q { lost = true }) (record w {
          lost = true;
        })
    line_lost plan h d q w fits = record {
      guid = fits.guid;
      shape = fits.shape;
      reader = fits.reader;
      lease = fits.lease;
      stored = fits.stored;
      proxy = fits.proxy;
      heard = fits.heard;
      lost = refl;
      acks = fits.acks;
      durable = fits.durable;
    }

  -- one for which there was no memory
  pub looked_stopped : is_late (get_or ls1 i x) m ≡ true → line' ≡ get_or ls1 i x
      → ((h : History) (t d : ℕ) → LedgerAt l1 h t d → LedgerAt l2 h t d)
      → Leases l ls m false l2 (set ls1 i line')
  looked_stopped late same keeps = record {
    count = so.count;
    holds = λ r st is begun.
        let a = so.holds r st is begun in
        let p = at_line r st is begun in
        let overdue : is_overdue r.moment p.writer ≡ true =
        sym
        (late_is r.plan (gone r so.count) r.durable r.moment (get_or ls1 i x) p.writer p.fits)
        ∙ ap (is_late (get_or ls1 i x)) is ∙ late in
        let all : length (leavers r) ≡ length (filter (is_overdue r.moment) r.writers) = ap length (leavers_begun r begun) ∙ length_map (filter (is_overdue r.moment) r.writers) in (
          omega (arith, all, (p.more overdue).1, overdue_le r.moment (suc i) r.writers),
          stands_leased l2 (set ls1 i line') r so.count begun st.good
              (keeps (gone r so.count) r.taken r.durable a.1.ledger)
              (p.same line' (subst (λ q. LineFits r.plan (gone r so.count) r.durable q p.writer) (sym same) p.fits)),
        );
  }

lines_length : (plan : Plan) (h : History) (d : ℕ) (ls : List Line) (ws : List Writer)
    → LinesFit plan h d ls ws → length ls ≡ length ws
lines_length plan h d [] [] fit = refl
lines_length plan h d [] (w ∷ ws) fit = absurd fit
lines_length plan h d (l ∷ ls) [] fit = absurd fit
lines_length plan h d (l ∷ ls) (w ∷ ws) fit = ap suc (lines_length plan h d ls ws fit.1)

pub looked_all : (l : Ledger) (ls : List Line) (m i : ℕ) (l' : Ledger) (ls' : List Line)
    → length ls ≤ i → LookedAt l ls m i l' ls' → Leases l ls m true l' ls'
looked_all l ls m i l' ls' le so = record {
  count = so.count;
  holds = λ r st is begun.
      let a = so.holds r st is begun in
      let all : length (leavers r) ≡ length (filter (is_overdue r.moment) r.writers) =
      ap length (leavers_begun r begun) ∙ length_map (filter (is_overdue r.moment) r.writers) in
      let many : length r.writers ≤ i =
      omega (arith, le, lines_length r.plan r.history r.durable ls r.writers st.lines) in
      (a.0 ∙ ap (λ k. overdue_upto k i r.writers) (sym is) ∙ overdue_all r.moment i r.writers many ∙ sym all, a.1);
}

pub looked_step : (l : Ledger) (ls : List Line) (m i : ℕ) (l1 : Ledger) (ls1 : List Line)
    (l2 : Ledger) (x line' : Line)
    → LookedAt l ls m i l1 ls1 → i < length ls1
    → (is_late (get_or ls1 i x) m ≡ false → (true ≡ true) × (l2 ≡ l1) × (line' ≡ get_or ls1 i x))
    → (is_late (get_or ls1 i x) m ≡ true → true ≡ true → (line' ≡ record (get_or ls1 i x) { lost = true }) × ((h : History) (t d : ℕ) → LedgerAt l1 h t d → (get_or ls1 i x).stored ≡ is_stored (start h) (get_or ls1 i x).guid → Follows h (Lost m (get_or ls1 i x).guid) → LedgerAt l2 (h ▸ Lost m (get_or ls1 i x).guid) t d))
    → LookedAt l ls m (i + 1) l2 (set ls1 i line')
looked_step l ls m i l1 ls1 l2 x line' so lt less more =
    let e : suc i ≡ i + 1 =
    omega arith in subst (λ k. LookedAt l ls m k l2 (set ls1 i line')) e (step_by (is_late (get_or ls1 i x) m) refl) where
      step_by : (b : Bool) → is_late (get_or ls1 i x) m ≡ b
          → LookedAt l ls m (suc i) l2 (set ls1 i line')
      step_by false is = looked_less l ls m i l1 ls1 l2 x line' so lt is (less is).1 (less is).2
      step_by true is =
          looked_more l ls m i l1 ls1 l2 x line' so lt is (more is refl).0 (more is refl).1
