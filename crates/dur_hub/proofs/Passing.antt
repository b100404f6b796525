-- Entries become durable, one after another.
use Rattle.std.proofs.Common.{◌≡◌, ◌≢◌, ℕ, zero, suc, ◌+◌, ◌<◌, ◌^◌, ◌%◌, List, [], ◌∷◌, ◌++◌, length, take, drop, get_or, map, refl, ap, subst, ◌∙◌, sym, Bool, true, false, cond, Option, Some, None, arith, length-drop}
use Rattle.std.proofs.Math.ListN.{set}
use Rattle.std.specs.Option.{option_to_list}
use Rattle.dur_base.specs.declared.entry.Entry.{Entry}
use Rattle.dur_base.specs.declared.entry.Entry.TheVariants.{Took, Skip, Lost}
use Rattle.dur_qos.specs.declared.plan.Plan.{Plan}
use Rattle.dur_view.specs.Identities.{Guid}
use Rattle.dur_view.specs.Words.{is_same}
use Rattle.dur_view.specs.Extend.{extend-push}
use Rattle.dur_view.specs.Persistent.{persistent_view}
use Rattle.dur_view.specs.History.{History, Start, start, next, next_by, writer_of}
use Rattle.dur_hub.specs.declared.line.Line.{Line}
use Rattle.dur_hub.specs.declared.queue.Passed.{Passed}
use Rattle.dur_hub.specs.declared.queue.Queue.{Queue}
use Rattle.dur_view.specs.Stored.{stored, durable_part}
use Rattle.dur_hub.specs.Runs.{Writer}
use Rattle.dur_hub.specs.GoodRuns.{Out, Apart}
use Rattle.dur_hub.specs.Lines.{LineFits, Pairs, LinesFit}
use Rattle.dur_hub.specs.Places.{guids, IsPlaceOf, HasNone}
use Rattle.dur_hub.specs.Queues.{passed_by, joined, AllFull, Queued}
use Rattle.rel_reader.specs.Windows.{Fits}
use Rattle.dur_hub.specs.Marks.{IsAt, passed_number}
use Rattle.dur_hub.proofs.Guids.{next_other}
use Rattle.dur_hub.proofs.Lookups.{none_of, other_place}
use Rattle.dur_hub.proofs.Stored.{over, durable_is}

-- the first i lines fit one way, and the others another way
abbrev pub Half : (Line → Writer → Type 0) → (Line → Writer → Type 0) → ℕ → List Line → List Writer
    → Type 0
Half P Q i [] [] = Unit {0}
Half P Q i [] (w ∷ ws) = ⊥
Half P Q i (l ∷ ls) [] = ⊥
Half P Q zero (l ∷ ls) (w ∷ ws) = P l w × Half P Q zero ls ws
Half P Q (suc i) (l ∷ ls) (w ∷ ws) = Q l w × Half P Q i ls ws

pub half_none : (P Q : Line → Writer → Type 0) (ls : List Line) (ws : List Writer) → Pairs P ls ws
    → Half P Q 0 ls ws
half_none P Q [] [] fit = tt
half_none P Q [] (w ∷ ws) fit = fit
half_none P Q (l ∷ ls) [] fit = fit
half_none P Q (l ∷ ls) (w ∷ ws) fit = (fit.0, half_none P Q ls ws fit.1)

pub half_all : (P Q : Line → Writer → Type 0) (ls : List Line) (ws : List Writer)
    → Half P Q (length ls) ls ws → Pairs Q ls ws
half_all P Q [] [] fit = tt
half_all P Q [] (w ∷ ws) fit = fit
half_all P Q (l ∷ ls) [] fit = fit
half_all P Q (l ∷ ls) (w ∷ ws) fit = (fit.0, half_all P Q ls ws fit.1)

pub half_more : (P Q : Line → Writer → Type 0) (i : ℕ) (ls : List Line) (ws : List Writer)
    (x line : Line)
    → Half P Q i ls ws → i < length ls → ((w : Writer) → P (get_or ls i x) w → Q line w)
    → Half P Q (suc i) (set ls i line) ws
half_more P Q i [] ws x line fit lt turn = absurd (omega (arith, lt))
half_more P Q zero (l ∷ ls) [] x line fit lt turn = fit
half_more P Q (suc i) (l ∷ ls) [] x line fit lt turn = fit
half_more P Q zero (l ∷ ls) (w ∷ ws) x line fit lt turn = (turn w fit.0, fit.1)
half_more P Q (suc i) (l ∷ ls) (w ∷ ws) x line fit lt turn =
    (fit.0, half_more P Q i ls ws x line fit.1 (omega (arith, lt)) turn)

pub half_step : (P Q : Line → Writer → Type 0) (i : ℕ) (ls : List Line) (ws : List Writer)
    (x line : Line)
    → Half P Q i ls ws → i < length ls → ((w : Writer) → P (get_or ls i x) w → Q line w)
    → Half P Q (i + 1) (set ls i line) ws
half_step P Q i ls ws x line fit lt turn =
    let e : suc i ≡ i + 1 =
    omega arith in subst (λ n. Half P Q n (set ls i line) ws) e (half_more P Q i ls ws x line fit lt turn)

pub half_end : (P Q : Line → Writer → Type 0) (n : ℕ) (ls : List Line) (ws : List Writer)
    → n ≡ length ls → Half P Q n ls ws → Pairs Q ls ws
half_end P Q n ls ws is fit = half_all P Q ls ws (subst (λ k. Half P Q k ls ws) is fit)

pub passed_is : (e : Entry) (g : Guid) (before : ℕ)
    → passed_number (is_same (passed_by e).writer g) (passed_by e).next before ≡ next_by e g before
passed_is (Took m u n s) g before = number_by (is_same u g) where
  number_by : (b : Bool) → passed_number b (Some (n + 1)) before ≡ cond b (n + 1) before
  number_by true = refl
  number_by false = refl
passed_is (Skip m u from to) g before = number_by (is_same u g) where
  number_by : (b : Bool) → passed_number b (Some (to + 1)) before ≡ cond b (to + 1) before
  number_by true = refl
  number_by false = refl
passed_is (Lost m u) g before = number_by (is_same u g) where
  number_by : (b : Bool) → passed_number b None before ≡ before
  number_by true = refl
  number_by false = refl

-- one more durable entry
pub durable_more : (h : History) (d : ℕ) (e : Entry) (g : Guid) → IsAt (stored h) d e
    → next (durable_part h (d + 1)) g ≡ next_by e g (next (durable_part h d) g)
durable_more h d e g at =
    ap (λ q. next q g)
    (durable_is h (d + 1) ∙ ap (over (start h)) at ∙ extend-push (Start (persistent_view (start h))) (take d (stored h)) e)
    ∙ ap (λ q. next_by e g (next q g)) (sym (durable_is h d))

pub line_passed : (plan : Plan) (h : History) (d : ℕ) (e : Entry) (w : Writer) (line line' : Line)
    (p : Passed)
    → IsAt (stored h) d e → p ≡ passed_by e → LineFits plan h d line w
    → line'.guid ≡ line.guid → line'.shape ≡ line.shape → line'.reader ≡ line.reader
    → line'.lease ≡ line.lease → line'.stored ≡ line.stored → line'.proxy ≡ line.proxy
    → line'.heard ≡ line.heard → line'.lost ≡ line.lost → line'.acks ≡ line.acks
    → line'.durable ≡ passed_number (is_same p.writer line.guid) p.next line.durable
    → LineFits plan h (d + 1) line' w
line_passed plan h d e w line line' p at is fits guid shape reader lease stor proxy heard lost acks durable = record {
  guid = guid ∙ fits.guid;
  shape = shape ∙ fits.shape;
  reader = reader ∙ fits.reader;
  lease = lease ∙ fits.lease;
  stored = stor ∙ fits.stored;
  proxy = subst (λ q. Fits q w.story) (sym proxy) fits.proxy;
  heard = heard ∙ fits.heard;
  lost = lost ∙ fits.lost;
  acks = acks ∙ fits.acks;
  durable =
      λ yes1. durable ∙ ap (λ q. passed_number (is_same q.writer line.guid) q.next line.durable) is
      ∙ passed_is e line.guid line.durable ∙ ap (λ g. next_by e g line.durable) fits.guid
      ∙ ap (next_by e w.line.guid) (fits.durable yes1) ∙ sym (durable_more h d e w.line.guid at);
}

-- a line of another writer
line_kept : (plan : Plan) (h : History) (d : ℕ) (e : Entry) (w : Writer) (line : Line)
    → IsAt (stored h) d e → LineFits plan h d line w → line.guid ≢ writer_of e
    → LineFits plan h (d + 1) line w
line_kept plan h d e w line at fits ne = record {
  guid = fits.guid;
  shape = fits.shape;
  reader = fits.reader;
  lease = fits.lease;
  stored = fits.stored;
  proxy = fits.proxy;
  heard = fits.heard;
  lost = fits.lost;
  acks = fits.acks;
  durable =
      λ yes1. fits.durable yes1
      ∙ sym (next_other e w.line.guid (next (durable_part h d) w.line.guid) (λ q. ne (fits.guid ∙ sym q)))
      ∙ sym (durable_more h d e w.line.guid at);
}

passed_writer : (e : Entry) → (passed_by e).writer ≡ writer_of e
passed_writer (Took m u n s) = refl
passed_writer (Skip m u from to) = refl
passed_writer (Lost m u) = refl

module _ (plan : Plan) (h : History) (d : ℕ) (e : Entry) (at : IsAt (stored h) d e) where
  -- the lines of other writers
  lines_kept : (ls : List Line) (ws : List Writer) → LinesFit plan h d ls ws
      → HasNone (guids ls) (writer_of e) → LinesFit plan h (d + 1) ls ws
  lines_kept [] [] fit none = tt
  lines_kept [] (w ∷ ws) fit none = fit
  lines_kept (l ∷ ls) [] fit none = fit
  lines_kept (l ∷ ls) (w ∷ ws) fit none =
      (line_kept plan h d e w l at fit.0 none.0, lines_kept ls ws fit.1 none.1)

  -- the line of the entry's writer, and the others
  lines_put : (i : ℕ) (ls : List Line) (ws : List Writer) (x line : Line) → Apart ws
      → LinesFit plan h d ls ws → IsPlaceOf (guids ls) i (writer_of e)
      → ((w : Writer) → LineFits plan h d (get_or ls i x) w → LineFits plan h (d + 1) line w)
      → LinesFit plan h (d + 1) (set ls i line) ws
  lines_put i [] ws x line apart fit here turn = absurd here
  lines_put i (l ∷ ls) [] x line apart fit here turn = absurd fit
  lines_put zero (l ∷ ls) (w ∷ ws) x line apart fit here turn =
      (turn w fit.0, lines_kept ls ws fit.1 (none_of plan h d (writer_of e) ls ws fit.1 (subst (λ g. Out g ws) (sym fit.0.guid ∙ here) apart.0)))
  lines_put (suc i) (l ∷ ls) (w ∷ ws) x line apart fit here turn =
      let ne = other_place plan h d w.line.guid (writer_of e) i ls ws fit.1 apart.0 here in
      (line_kept plan h d e w l at fit.0 (λ q. ne (sym fit.0.guid ∙ q)), lines_put i ls ws x line apart.1 fit.1 here turn)

  pub none_passed : (p : Passed) (ls : List Line) (ws : List Writer) → p ≡ passed_by e
      → LinesFit plan h d ls ws → HasNone (guids ls) p.writer → LinesFit plan h (d + 1) ls ws
  none_passed p ls ws is fit none =
      lines_kept ls ws fit
      (subst (HasNone (guids ls)) (ap (λ q. q.writer) is ∙ passed_writer e) none)

  pub one_passed : (p : Passed) (i : ℕ) (ls : List Line) (ws : List Writer) (x line : Line)
      → p ≡ passed_by e → Apart ws → LinesFit plan h d ls ws → IsPlaceOf (guids ls) i p.writer
      → x ≡ get_or ls i x
      → ((w : Writer) → LineFits plan h d x w → LineFits plan h (d + 1) line w)
      → LinesFit plan h (d + 1) (set ls i line) ws
  one_passed p i ls ws x line is apart fit here same turn =
      lines_put i ls ws x line apart fit
      (subst (IsPlaceOf (guids ls) i) (ap (λ q. q.writer) is ∙ passed_writer e) here)
      (λ w fits. turn w (subst (λ q. LineFits plan h d q w) (sym same) fits))

empty_any : {X : Type 0} (l : List X) → l ≡ drop 1 l → l ≡ []
empty_any [] is = refl
empty_any (x ∷ l) is = absurd (omega (arith, ap length is))

pub moved : (q : Queue) (ls : List Line) (plan : Plan) (h : History) (t d n : ℕ) (ws : List Writer)
    → d ≡ n → Queued q t d (stored h) × LinesFit plan h d ls ws
    → Queued q t n (stored h) × LinesFit plan h n ls ws
moved q ls plan h t d n ws is so =
    subst (λ k. Queued q t k (stored h) × LinesFit plan h k ls ws) is so

-- the queue without the first pair
front_at : (es : List Entry) (d : ℕ) (e : Entry) (rest : List Entry) → drop d es ≡ e ∷ rest
    → IsAt es d e × (drop (d + 1) es ≡ rest)
front_at es zero e rest is = (ap (take 1) is, ap (drop 1) is)
front_at [] (suc d) e rest is = absurd (cc)
front_at (x ∷ es) (suc d) e rest is =
    let so = front_at es d e rest is in
    let n : suc d + 1 ≡ suc (d + 1) = omega arith in
    (ap (λ k. take k (x ∷ es)) n ∙ ap (λ l. x ∷ l) so.0, ap (λ k. drop k (x ∷ es)) n ∙ so.1)

pub popped : (old new : Queue) (t d : ℕ) (es : List Entry) (o : Option Passed) → Queued old t d es
    → d < t → old.unmarked.items ≡ option_to_list o ++ new.unmarked.items
    → new.unmarked.items ≡ drop 1 old.unmarked.items → new.full.items ≡ old.full.items
    → new.last.items ≡ old.last.items → new.taken ≡ old.taken
    → new.durable ≡ (old.durable + 1) % 2 ^ 64
    → (e : Entry) × IsAt es d e × (o ≡ Some (passed_by e)) × Queued new t (d + 1) es
popped old new t d es o so lt items left_is full last taken durable =
    popped_by (drop d es) refl where
      popped_by : (l : List Entry) → drop d es ≡ l
          → (e : Entry) × IsAt es d e × (o ≡ Some (passed_by e)) × Queued new t (d + 1) es
      popped_by [] is = absurd (omega (arith, lt, so.lined.handed, ap length is, length-drop d es))
      popped_by (e ∷ rest) is = first o refl where
        first : (x : Option Passed) → o ≡ x
            → (e : Entry) × IsAt es d e × (o ≡ Some (passed_by e)) × Queued new t (d + 1) es
        first None at =
            absurd
            (let q = empty_any old.unmarked.items (items ∙ ap (λ k. option_to_list k ++ new.unmarked.items) at ∙ left_is) in let p = so.lined.unmarked ∙ ap (map passed_by) is in cc)
        first (Some p) at =
            let front = front_at es d e rest is in
            let pairs : p ∷ new.unmarked.items ≡ passed_by e ∷ map passed_by rest =
            sym (items ∙ ap (λ k. option_to_list k ++ new.unmarked.items) at) ∙ so.lined.unmarked
            ∙ ap (map passed_by) is in
            let here : p ≡ passed_by e = cc in
            let left : new.unmarked.items ≡ map passed_by rest = cc in (
              e,
              front.0,
              at ∙ ap Some here,
              record {
                lined = record {
                  pending =
                      ap (λ k. joined k ++ new.last.items) full
                      ∙ ap (λ k. joined old.full.items ++ k) last ∙ so.lined.pending;
                  full = subst AllFull (sym full) so.lined.full;
                  unmarked = left ∙ ap (map passed_by) (sym front.1);
                  taken = taken ∙ so.lined.taken;
                  durable = omega (arith, durable, so.lined.durable);
                  marked = omega (arith, lt);
                  handed = so.lined.handed;
                };
                last = subst (λ k. length k < 4096) (sym last) so.last;
              },
            )
