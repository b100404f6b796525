-- One fact, among the lines of the hub.
use Rattle.std.proofs.Common.{◌≡◌, ◌≢◌, ℕ, zero, suc, ◌<◌, ◌≤◌, List, [], ◌∷◌, ◌++◌, length, get_or, refl, ap, subst, ◌∙◌, sym, true, false, cond, Option, Some, None, arith, append-nil}
use Rattle.std.proofs.Math.ListN.{set}
use Rattle.std.specs.Prelude.{◌&&◌, ◌||◌}
use Rattle.std.specs.Str.{bytes_eq}
use Rattle.dur_base.specs.declared.entry.Entry.{Entry}
use Rattle.dur_base.specs.declared.fact.Fact.{Fact}
use Rattle.dur_base.specs.declared.fact.Fact.TheVariants as fact
use Rattle.dur_qos.specs.declared.plan.Plan.{Plan}
use Rattle.dur_qos.specs.Served.{reader_id_of}
use Rattle.dur_view.specs.Identities.{Guid}
use Rattle.dur_view.specs.Words.{is_same}
use Rattle.dur_view.specs.History.{History, ◌+>◌, start, next as next_in}
use Rattle.rtps_message.specs.Facts.{IsGoodFact}
use Rattle.dur_hub.specs.declared.event.End.{End}
use Rattle.dur_hub.specs.declared.event.End.TheVariants.{Waits, Refuses, Stopped}
use Rattle.dur_hub.specs.declared.event.Step.{Step}
use Rattle.dur_hub.specs.declared.heeding.Heeded.{Heeded}
use Rattle.dur_hub.specs.declared.hearing.Hearing.{Hearing}
use Rattle.dur_hub.specs.declared.ledger.Ledger.{Ledger}
use Rattle.dur_hub.specs.declared.line.Line.{Line}
use Rattle.dur_hub.specs.declared.notes.Notes.{Notes}
use Rattle.dur_hub.specs.declared.telling.Address.{Address}
use Rattle.dur_hub.specs.Telling.{every_reader, is_for, speaks_of}
use Rattle.dur_view.specs.Stored.{stored, durable_part, is_stored}
use Rattle.dur_hub.specs.Runs.{Writer, Run}
use Rattle.dur_hub.specs.Steps.{speaker, Hears, HearsBy, LegalStep, spoken, with_speaker}
use Rattle.dur_hub.specs.Handed.{ack_of}
use Rattle.dur_hub.specs.GoodRuns.{GoodWriter, Out, Apart}
use Rattle.dur_hub.specs.Lines.{LineFits, LinesFit, step_of, Speaks}
use Rattle.dur_hub.specs.Looks.{is_late}
use Rattle.dur_hub.specs.Dues.{is_after, AreDue}
use Rattle.dur_hub.specs.Queues.{LedgerAt}
use Rattle.dur_hub.specs.Hubs.{StandsAt}
use Rattle.dur_hub.specs.Places.{guids, guids_of, IsPlaceOf, HasNone, IsIndex}
use Rattle.dur_hub.specs.Hearings.{address_of, is_to, refusal_at, writer_in, OneStep, HearsTo, hearing_of}
use Rattle.dur_hub.proofs.Guids.{differs, start_extend}
use Rattle.dur_hub.proofs.Lookups.{other_place, none_of, index_lines}
use Rattle.dur_hub.proofs.Dues.{neither, with_due, line_due}
use Rattle.dur_hub.proofs.Stored.{durable_extend}
use Rattle.dur_hub.proofs.Speakers.{speaker_in, speaker_good, with_none}
use Rattle.dur_hub.proofs.GoodCalls.{good_step}

-- what lines of other writers need of the history
pub record Same (h h' : History) (d : ℕ) : Type 0 where
  pub begun : start h' ≡ start h
  pub kept : durable_part h' d ≡ durable_part h d

pub line_same : (plan : Plan) (h h' : History) (d : ℕ) (l : Line) (w : Writer) → Same h h' d
    → LineFits plan h d l w → LineFits plan h' d l w
line_same plan h h' d l w same fits = record {
  guid = fits.guid;
  shape = fits.shape;
  reader = fits.reader;
  lease = fits.lease;
  stored = fits.stored ∙ sym (ap (λ v. is_stored v w.line.guid) same.begun);
  proxy = fits.proxy;
  heard = fits.heard;
  lost = fits.lost;
  acks = fits.acks;
  durable =
      λ yes1. fits.durable (sym (ap (λ v. is_stored v w.line.guid) same.begun) ∙ yes1)
      ∙ sym (ap (λ k. next_in k w.line.guid) same.kept);
}

pub lines_same : (plan : Plan) (h h' : History) (d : ℕ) (ls : List Line) (ws : List Writer)
    → Same h h' d → LinesFit plan h d ls ws → LinesFit plan h' d ls ws
lines_same plan h h' d [] [] same fit = tt
lines_same plan h h' d [] (w ∷ ws) same fit = fit
lines_same plan h h' d (l ∷ ls) [] same fit = fit
lines_same plan h h' d (l ∷ ls) (w ∷ ws) same fit =
    (line_same plan h h' d l w same fit.0, lines_same plan h h' d ls ws same fit.1)

to_same : (l : Line) (w : Writer) (plan : Plan) (a : Address) (u r : List ℕ) → l.guid ≡ w.line.guid
    → l.reader ≡ reader_id_of plan w.line.topic → a.writer ≡ u → a.reader ≡ r
    → is_to l a ≡ (is_same w.line.guid u && is_for plan w.line r)
to_same l w plan a u r e1 e2 e3 e4 =
    ap (λ x. is_same x a.writer && (bytes_eq a.reader every_reader || bytes_eq a.reader l.reader))
    e1
    ∙ ap (λ x. is_same w.line.guid x && (bytes_eq a.reader every_reader || bytes_eq a.reader l.reader)) e3
    ∙ ap (λ x. is_same w.line.guid u && (bytes_eq x every_reader || bytes_eq x l.reader)) e4
    ∙ ap (λ x. is_same w.line.guid u && (bytes_eq r every_reader || bytes_eq r x)) e2

abbrev pub the_address : List ℕ → List ℕ → Address
the_address u r = record { writer = u; reader = r }

some_address : (u r : List ℕ) (a : Address) → Some (record { writer = u; reader = r }) ≡ Some a
    → (a.writer ≡ u) × (a.reader ≡ r)
some_address u r a is =
    let e : the_address u r ≡ a = cc in (sym (ap (λ x. x.writer) e), sym (ap (λ x. x.reader) e))

-- a line of an address stands for a writer of which the fact speaks
pub is_to_is : (plan : Plan) (h : History) (d : ℕ) (l : Line) (w : Writer) (f : Fact) (a : Address)
    → LineFits plan h d l w → address_of f ≡ Some a → is_to l a ≡ speaks_of plan w.line f
is_to_is plan h d l w (fact.Data u r n raw) a fits is =
    to_same l w plan a u r fits.guid fits.reader (some_address u r a is).0 (some_address u r a is).1
is_to_is plan h d l w (fact.Unreadable u r n) a fits is =
    to_same l w plan a u r fits.guid fits.reader (some_address u r a is).0 (some_address u r a is).1
is_to_is plan h d l w (fact.Gap u r from set) a fits is =
    to_same l w plan a u r fits.guid fits.reader (some_address u r a is).0 (some_address u r a is).1
is_to_is plan h d l w (fact.Beat u r first last is_final) a fits is =
    to_same l w plan a u r fits.guid fits.reader (some_address u r a is).0 (some_address u r a is).1
is_to_is plan h d l w (fact.Nack u r set is_final) a fits is = absurd (cc)

pub none_speaks : (plan : Plan) (f : Fact) (ws : List Writer) → address_of f ≡ None
    → speaker_in plan f ws ≡ None
none_speaks plan (fact.Data u r n raw) ws is = absurd (cc)
none_speaks plan (fact.Unreadable u r n) ws is = absurd (cc)
none_speaks plan (fact.Gap u r from set) ws is = absurd (cc)
none_speaks plan (fact.Beat u r first last is_final) ws is = absurd (cc)
none_speaks plan (fact.Nack u r set is_final) [] is = refl
none_speaks plan (fact.Nack u r set is_final) (w ∷ ws) is =
    none_speaks plan (fact.Nack u r set is_final) ws is

module _ (plan : Plan) (h : History) (d : ℕ) (f : Fact) (a : Address) (by : address_of f ≡ Some a) where
  -- the line at the place that was found, its writer, and what stands after both change
  pub record Picked (ls : List Line) (ws : List Writer) (k : ℕ) (x : Line) : Type 0 where
    pub writer : Writer
    pub within : k < length ls
    pub found : speaker_in plan f ws ≡ Some writer
    pub fits : LineFits plan h d (get_or ls k x) writer
    pub put : (h' : History) (line : Line) (change : Writer → Writer) → Same h h' d
        → LineFits plan h' d line (change writer)
        → LinesFit plan h' d (set ls k line) (with_speaker plan f change ws)

  picked_next : (l : Line) (ls : List Line) (w : Writer) (ws : List Writer) (k : ℕ) (x : Line)
      → speaks_of plan w.line f ≡ false → LineFits plan h d l w → Picked ls ws k x
      → Picked (l ∷ ls) (w ∷ ws) (suc k) x
  picked_next l ls w ws k x no_speech fits p = record {
    writer = p.writer;
    within = omega (arith, p.within);
    found = ap (λ b. cond b (Some w) (speaker_in plan f ws)) no_speech ∙ p.found;
    fits = p.fits;
    put = λ h' line change same fit.
        let here : LinesFit plan h' d (l ∷ set ls k line) (w ∷ with_speaker plan f change ws) =
        (line_same plan h h' d l w same fits, p.put h' line change same fit) in
        subst
        (λ b. LinesFit plan h' d (l ∷ set ls k line) (cond b (change w ∷ ws) (w ∷ with_speaker plan f change ws)))
        (sym no_speech) here;
  }

  picked_here : (l : Line) (ls : List Line) (w : Writer) (ws : List Writer) (x : Line)
      → speaks_of plan w.line f ≡ true → LineFits plan h d l w → LinesFit plan h d ls ws
      → Picked (l ∷ ls) (w ∷ ws) 0 x
  picked_here l ls w ws x is fits rest = record {
    writer = w;
    within = omega arith;
    found = ap (λ b. cond b (Some w) (speaker_in plan f ws)) is;
    fits = fits;
    put = λ h' line change same fit.
        let here : LinesFit plan h' d (line ∷ ls) (change w ∷ ws) =
        (fit, lines_same plan h h' d ls ws same rest) in
        subst
        (λ b. LinesFit plan h' d (line ∷ ls) (cond b (change w ∷ ws) (w ∷ with_speaker plan f change ws)))
        (sym is) here;
  }

  not_here : (l : Line) → l.guid ≢ a.writer → is_to l a ≡ false
  not_here l ne =
      ap (λ b. b && (bytes_eq a.reader every_reader || bytes_eq a.reader l.reader))
      (differs l.guid a.writer ne)

  -- the line at a place of the writer, where the address is that of the line
  pub picks : (i : ℕ) (ls : List Line) (ws : List Writer) (x : Line) → LinesFit plan h d ls ws
      → Apart ws → IsPlaceOf (guids ls) i a.writer → is_to (get_or ls i x) a ≡ true → Picked ls ws i x
  picks i [] ws x fit apart at is = absurd at
  picks i (l ∷ ls) [] x fit apart at is = absurd fit
  picks zero (l ∷ ls) (w ∷ ws) x fit apart at is =
      picked_here l ls w ws x (sym (is_to_is plan h d l w f a fit.0 by) ∙ is) fit.0 fit.1
  picks (suc i) (l ∷ ls) (w ∷ ws) x fit apart at is =
      let ne = other_place plan h d w.line.guid a.writer i ls ws fit.1 apart.0 at in
      let no1 = not_here l (λ e. ne (sym fit.0.guid ∙ e)) in
      picked_next l ls w ws i x (sym (is_to_is plan h d l w f a fit.0 by) ∙ no1) fit.0
      (picks i ls ws x fit.1 apart.1 at is)

  -- where no line is that of the writer
  pub not_there : (ls : List Line) (ws : List Writer) → LinesFit plan h d ls ws
      → HasNone (guids ls) a.writer → speaker_in plan f ws ≡ None
  not_there [] [] fit none = refl
  not_there [] (w ∷ ws) fit none = absurd fit
  not_there (l ∷ ls) [] fit none = absurd fit
  not_there (l ∷ ls) (w ∷ ws) fit none =
      ap (λ b. cond b (Some w) (speaker_in plan f ws))
      (sym (is_to_is plan h d l w f a fit.0 by) ∙ not_here l none.0)
      ∙ not_there ls ws fit.1 none.1

  -- where the line of the writer is that of another reader
  pub not_for_it : (i : ℕ) (ls : List Line) (ws : List Writer) (x : Line) → LinesFit plan h d ls ws
      → Apart ws → IsPlaceOf (guids ls) i a.writer → is_to (get_or ls i x) a ≡ false
      → speaker_in plan f ws ≡ None
  not_for_it i [] ws x fit apart at is = absurd at
  not_for_it i (l ∷ ls) [] x fit apart at is = absurd fit
  not_for_it zero (l ∷ ls) (w ∷ ws) x fit apart at is =
      ap (λ b. cond b (Some w) (speaker_in plan f ws))
      (sym (is_to_is plan h d l w f a fit.0 by) ∙ is)
      ∙ not_there ls ws fit.1
      (none_of plan h d a.writer ls ws fit.1 (subst (λ g. Out g ws) (sym fit.0.guid ∙ at) apart.0))
  not_for_it (suc i) (l ∷ ls) (w ∷ ws) x fit apart at is =
      let ne = other_place plan h d w.line.guid a.writer i ls ws fit.1 apart.0 at in
      ap (λ b. cond b (Some w) (speaker_in plan f ws))
      (sym (is_to_is plan h d l w f a fit.0 by) ∙ not_here l (λ e. ne (sym fit.0.guid ∙ e)))
      ∙ not_for_it i ls ws x fit.1 apart.1 at is

-- a fact of the writer of a line, and what stands after it
module _ (l : Ledger) (ls : List Line) (index : Guid → Option ℕ) (m i : ℕ) (f : Fact) (a : Address) (x : Heeded) (l' : Ledger) (line line' : Line) (by : address_of f ≡ Some a) (place : IsIndex index (guids ls) → IsPlaceOf (guids ls) i a.writer) (own : is_to line a ≡ true) (at : line ≡ get_or ls i line) (speaks : Speaks l line m f x l' line') where
  record Spoke (r : Run) : Type 0 where
    pub picked : Picked r.plan r.history r.durable f a by ls r.writers i line
    pub hears : Hears r picked.writer (step_of f speaks.entries x)
    pub ledger : LedgerAt l' (r.history +> speaks.entries) r.taken r.durable
    pub fits : LineFits r.plan (r.history +> speaks.entries) r.durable line' (spoken r (step_of f speaks.entries x) picked.writer)

  spoke : (r : Run) → StandsAt l ls r → IsIndex index (guids_of r.writers) → r.moment ≡ m → Spoke r
  spoke r st ix is =
      let p =
      picks r.plan r.history r.durable f a by i ls r.writers line st.lines st.good.apart
      (place (index_lines r.plan r.history r.durable index ls r.writers st.lines ix))
      (subst (λ q. is_to q a ≡ true) at own) in
      let fits : LineFits r.plan r.history r.durable line p.writer =
      subst (λ q. LineFits r.plan r.history r.durable q p.writer) (sym at) p.fits in
      let good : GoodWriter r.history r.plan p.writer =
      speaker_good r.plan f r.history r.writers p.writer st.good.writers p.found in
      let b = speaks.holds r p.writer st.ledger fits good st.good.history st.good.early is in
      record { picked = p; hears = b.0; ledger = b.1; fits = b.2 }

  -- a fact of a writer of the plan
  pub one_step : (notes mid notes' : Notes) → IsGoodFact f
      → mid.acks.items ≡ notes.acks.items → mid.refused.items ≡ notes.refused.items
      → notes'.acks.items ≡ mid.acks.items ++ ack_of x.ack
      → notes'.refused.items ≡ mid.refused.items ++ refusal_at a.writer x.end
      → ((now : ℕ) → is_after notes'.due now ≡ (is_after notes.due now || is_late line' now))
      → OneStep l ls index m f notes l' (set ls i line') notes' (step_of f speaks.entries x)
  one_step notes mid notes' fine acks0 refused0 acks refused due = record {
    fact = refl;
    acks = acks ∙ ap (λ k. k ++ ack_of x.ack) acks0;
    refused =
        refused ∙ ap (λ k. k ++ refusal_at a.writer x.end) refused0
        ∙ ap (λ o. notes.refused.items ++ refusal_at (writer_in o) x.end) (sym by);
    due = λ r st ix is all.
        let b = spoke r st ix is in
        let step : Step = step_of f speaks.entries x in
        let ends : (now : ℕ) → is_after notes'.due now ≡ false
        → (is_after notes.due now ≡ false) × (is_late line' now ≡ false) =
        λ now no1. neither (is_after notes.due now) (is_late line' now) (sym (due now) ∙ no1) in
        with_due r.plan f notes'.due notes.due (spoken r step) r.writers b.picked.writer
        b.picked.found (λ now no1. (ends now no1).0) all
        (line_due r.plan (r.history +> speaks.entries) r.durable notes'.due line' (spoken r step b.picked.writer) b.fits (λ now no1. (ends now no1).1));
    holds = λ r st ix is.
        let b = spoke r st ix is in
        let es : List Entry = speaks.entries in
        let h' : History = r.history +> es in
        let step : Step = step_of f es x in
        let legal : LegalStep r step = subst (HearsBy r step) (sym b.picked.found) b.hears in
        let within : r.durable ≤ length (stored r.history) =
        omega (arith, st.good.durable, st.good.taken) in
        let same : Same r.history h' r.durable = record { begun = start_extend r.history es; kept = durable_extend r.history es r.durable within } in (
          legal,
          record {
            ledger = b.ledger;
            lines = b.picked.put h' line' (spoken r step) same b.fits;
            good = good_step r step st.good fine legal;
          },
        );
  }

-- a fact that is none of a writer of the plan
pub no_step : (l : Ledger) (ls : List Line) (index : Guid → Option ℕ) (m : ℕ) (f : Fact) (notes : Notes) → IsGoodFact f
    → ((r : Run) → StandsAt l ls r → IsIndex index (guids_of r.writers) → speaker r f ≡ None)
    → OneStep l ls index m f notes l ls notes record {
      fact = f;
      entries = [];
      end = Waits;
      ack = None;
    }
no_step l ls index m f notes fine out = record {
  fact = refl;
  acks = sym (append-nil notes.acks.items);
  refused = sym (append-nil notes.refused.items);
  due = λ r st ix is all.
      let step : Step = record { fact = f; entries = []; end = Waits; ack = None } in
      subst (AreDue notes.due) (sym (with_none r.plan f (spoken r step) r.writers (out r st ix))) all;
  holds = λ r st ix is.
      let step : Step = record { fact = f; entries = []; end = Waits; ack = None } in
      let legal : LegalStep r step = subst (HearsBy r step) (sym (out r st ix)) (refl, refl, refl) in (
        legal,
        record {
          ledger = st.ledger;
          lines =
              subst (λ ws. LinesFit r.plan r.history r.durable ls ws)
              (sym (with_none r.plan f (spoken r step) r.writers (out r st ix))) st.lines;
          good = good_step r step st.good fine legal;
        },
      );
}

pub unknown : (l : Ledger) (ls : List Line) (index : Guid → Option ℕ) (f : Fact) (a : Address)
    → address_of f ≡ Some a → (IsIndex index (guids ls) → HasNone (guids ls) a.writer)
    → (r : Run) → StandsAt l ls r → IsIndex index (guids_of r.writers) → speaker r f ≡ None
unknown l ls index f a by none r st ix =
    not_there r.plan r.history r.durable f a by ls r.writers st.lines
    (none (index_lines r.plan r.history r.durable index ls r.writers st.lines ix))

pub not_heard : (l : Ledger) (ls : List Line) (index : Guid → Option ℕ) (f : Fact) (a : Address)
    (i : ℕ) (line : Line)
    → address_of f ≡ Some a → (IsIndex index (guids ls) → IsPlaceOf (guids ls) i a.writer)
    → is_to (get_or ls i line) a ≡ false
    → (r : Run) → StandsAt l ls r → IsIndex index (guids_of r.writers) → speaker r f ≡ None
not_heard l ls index f a i line by place other r st ix =
    not_for_it r.plan r.history r.durable f a by i ls r.writers line st.lines st.good.apart
    (place (index_lines r.plan r.history r.durable index ls r.writers st.lines ix)) other

-- a step is whole or cut off by its end
pub heard_as : (l : Ledger) (ls : List Line) (index : Guid → Option ℕ) (m : ℕ) (f : Fact) (notes : Notes) (hearing : Hearing)
    (end : End) (l' : Ledger) (ls' : List Line) (notes' : Notes) (step : Step)
    → hearing ≡ hearing_of end → step.end ≡ end → OneStep l ls index m f notes l' ls' notes' step
    → HearsTo l ls index m f notes hearing l' ls' notes'
heard_as l ls index m f notes hearing end l' ls' notes' step at is one =
    subst (λ x. HearsTo l ls index m f notes x l' ls' notes') (sym at) (as_by end is) where
      as_by : (x : End) → step.end ≡ x → HearsTo l ls index m f notes (hearing_of x) l' ls' notes'
      as_by Waits e = (step, one, λ q. (let p = sym e ∙ q in cc))
      as_by (Refuses n limit) e = (step, one, λ q. (let p = sym e ∙ q in cc))
      as_by Stopped e = (step, one, e)
