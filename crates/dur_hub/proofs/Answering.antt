-- One fact of one writer.
use Rattle.std.proofs.Common.{◌≡◌, ℕ, ◌+◌, ◌≤◌, ◌%◌, ◌^◌, List, length, refl, ap, subst, ◌∙◌, sym, Bool, true, false, cond, Option, Some, None, arith}
use Rattle.std.specs.Prelude.{◌==◌}
use Rattle.std.proofs.lemmas.List.{take_all}
use Rattle.dur_base.specs.NumberSets.{names}
use Rattle.dur_base.specs.declared.entry.Entry.{Entry}
use Rattle.dur_base.specs.declared.fact.Fact.{Fact}
use Rattle.dur_qos.specs.declared.plan.Plan.{Plan}
use Rattle.dur_view.specs.Identities.{Guid}
use Rattle.dur_view.specs.History.{History, ◌+>◌, start, moment, next as next_in}
use Rattle.dur_view.specs.IsSound.{IsHistory}
use Rattle.rtps_message.specs.Facts.{IsGoodFact}
use Rattle.rel_reader.specs.Stories.{Story, next}
use Rattle.rel_reader.specs.MissingNumbers.{is_missing}
use Rattle.rel_reader.specs.Windows.{Window, Fits}
use Rattle.dur_hub.specs.declared.event.End.{End}
use Rattle.dur_hub.specs.declared.event.End.TheVariants.{Waits, Refuses, Stopped}
use Rattle.dur_hub.specs.declared.ledger.Ledger.{Ledger}
use Rattle.dur_hub.specs.declared.line.Line.{Line}
use Rattle.dur_hub.specs.declared.reply.Ack.{Ack}
use Rattle.dur_hub.specs.Telling.{topic_in, with_fact, with_entries}
use Rattle.dur_hub.specs.Admission.{Handles, after_handling}
use Rattle.dur_view.specs.Stored.{stored, durable_part, is_stored, ack_base}
use Rattle.dur_hub.specs.Runs.{Writer, Run}
use Rattle.dur_hub.specs.Acks.{asks, asks_at, IsAck, IsAnswer, one_for, acks_after}
use Rattle.dur_hub.specs.Steps.{heard_of, told_by}
use Rattle.dur_hub.specs.GoodRuns.{MayTake, Tells, GoodWriter}
use Rattle.dur_hub.specs.Queues.{LedgerAt}
use Rattle.dur_hub.specs.Drains.{MayAdd, Drains}
use Rattle.dur_hub.specs.Lines.{LineFits, MayAnswer, step_of, Speaks}
use Rattle.dur_hub.proofs.Guids.{start_extend}
use Rattle.dur_hub.proofs.Stored.{over, durable_is, durable_extend, next_stored, next_longer, grown_by, longer_grown}
use Rattle.dur_hub.proofs.Stories.{next_fact, tells_fact, next_end, handles_well}

-- the durable numbers are none above the next one
pub durable_low : (h : History) (d : ℕ) (g : Guid) → IsHistory h → d ≤ length (stored h)
    → is_stored (start h) g ≡ true → next_in (durable_part h d) g ≤ next_in h g
durable_low h d g hist le is =
    omega
    (arith, next_longer h g d (length (stored h)) is hist le (omega arith), ap (λ q. next_in q g) (durable_is h d), ap (λ l. next_in (over (start h) l) g) (take_all (length (stored h)) (stored h) (omega arith)), next_stored h g is)

-- the base of an acknowledgement, as it is computed
pub base_is : (h : History) (d : ℕ) (g : Guid) (stor : Bool) (dur num base : ℕ)
    → stor ≡ is_stored (start h) g
    → (is_stored (start h) g ≡ true → dur ≡ next_in (durable_part h d) g) → num ≡ next_in h g
    → (is_stored (start h) g ≡ true → next_in (durable_part h d) g ≤ next_in h g)
    → (dur ≤ num → base ≡ cond stor dur num) → (stor ≡ false → base ≡ num) → base ≡ ack_base h d g
base_is h d g stor dur num base kind durable same low value other = base_by stor refl where
  base_by : (b : Bool) → stor ≡ b → base ≡ ack_base h d g
  base_by true is =
      let yes1 : is_stored (start h) g ≡ true = sym kind ∙ is in
      let at : dur ≡ next_in (durable_part h d) g = durable yes1 in
      value (omega (arith, at, same, low yes1)) ∙ ap (λ b. cond b dur num) is ∙ at
      ∙ sym (ap (λ b. cond b (next_in (durable_part h d) g) (next_in h g)) yes1)
  base_by false is =
      other is ∙ same
      ∙ sym (ap (λ b. cond b (next_in (durable_part h d) g) (next_in h g)) (sym kind ∙ is))

-- an acknowledgement that asks by the line
pub acknowledged : (plan : Plan) (h : History) (d : ℕ) (line : Line) (w : Writer) (last : ℕ)
    (a : Ack) (base num : ℕ)
    → LineFits plan h d line w → MayAnswer h d w
    → a.writer ≡ line.guid → a.reader ≡ line.reader → a.set.base ≡ base → num ≡ line.proxy.next
    → (num ≡ next_in h w.line.guid → base ≡ ack_base h d w.line.guid)
    → ((s : Story) → Fits line.proxy s → (k : ℕ) → names a.set k ≡ is_missing s base last k)
    → a.is_final ≡ (base == num) → a.count ≡ (line.acks + 1) % 2 ^ 32
    → IsAck plan h d w w.story last a
acknowledged plan h d line w last a base num fits may writer reader set_base num_is base_is asked final count =
    let num_at : num ≡ next_in h w.line.guid = num_is ∙ fits.proxy.next ∙ may.same in
    let at : base ≡ ack_base h d w.line.guid = base_is num_at in
    record {
      writer = writer ∙ fits.guid;
      reader = reader ∙ fits.reader;
      base = set_base ∙ at;
      asked = λ k. asked w.story fits.proxy k ∙ ap (λ b. is_missing w.story b last k) at;
      is_final = final ∙ ap (λ b. b == num) at ∙ ap (λ n. ack_base h d w.line.guid == n) num_at;
      count = count ∙ ap (λ n. (n + 1) % 2 ^ 32) fits.acks;
    }

-- the writer after a fact, before it is answered
abbrev pub told_writer : Run → Writer → Fact → List Entry → End → Writer
told_writer r w f es end = record w {
  story = after_handling (heard_of r w f) es end;
  heard = r.moment;
  lost = false;
}

-- a fact is told, and what is ready is admitted
pub record Told (l : Ledger) (line : Line) (m : ℕ) (f : Fact) (end : End) (l' : Ledger) (line' : Line) : Type 0 where
  pub entries : List Entry
  pub holds : (r : Run) (w : Writer) → LedgerAt l r.history r.taken r.durable
      → LineFits r.plan r.history r.durable line w → GoodWriter r.history r.plan w
      → IsHistory r.history → moment r.history ≤ r.moment → r.moment ≡ m →
      Handles (heard_of r w f) r.history w.line.guid r.moment entries end
      × LedgerAt l' (r.history +> entries) r.taken r.durable
      × LineFits r.plan (r.history +> entries) r.durable line' (told_writer r w f entries end)
      × MayAnswer (r.history +> entries) r.durable (told_writer r w f entries end)

pub told_drained : (l : Ledger) (line : Line) (m : ℕ) (f : Fact) (end : End) (l' : Ledger)
    (line' : Line) (p : Window)
    → IsGoodFact f
    → ((s : Story) → Fits line.proxy s → Fits p (with_fact line.shape m f s))
    → Drains l p line.guid line.stored m end l' line'.proxy
    → line'.guid ≡ line.guid → line'.shape ≡ line.shape → line'.reader ≡ line.reader
    → line'.lease ≡ line.lease → line'.stored ≡ line.stored → line'.heard ≡ m → line'.lost ≡ false
    → line'.acks ≡ line.acks → line'.durable ≡ line.durable
    → Told l line m f end l' line'
told_drained l line m f end l' line' p fine tell drains guid shape reader lease stor heard lost acks durable = record {
  entries = drains.entries;
  holds = λ r w at fits good hist early is.
      let g : Guid = w.line.guid in
      let s : Story = heard_of r w f in
      let es : List Entry = drains.entries in
      let h' : History = r.history +> es in
      let tells : Tells (MayTake (start r.history) g) s =
      tells_fact (start r.history) g (topic_in r.plan w.line.topic).shape r.moment f w.story
      fine good.shape good.samples in
      let same : next s ≡ next_in r.history g =
      next_fact (topic_in r.plan w.line.topic).shape r.moment f w.story ∙ good.next in
      let told : Fits p s =
      subst (λ k. Fits p (with_fact k r.moment f w.story)) fits.shape
      (subst (λ k. Fits p (with_fact line.shape k f w.story)) (sym is) (tell w.story fits.proxy)) in
      let may : MayAdd r.history s g line.stored m = record {
        stands = good.stands;
        kind = fits.stored;
        early = subst (λ k. moment r.history ≤ k) is early;
        next = same;
        samples = tells;
      } in
      let done =
      drains.holds r.history r.taken r.durable s at told
      (subst (λ k. MayAdd r.history s k line.stored m) (sym fits.guid) may) in
      let handles : Handles s r.history g r.moment es end =
      subst (λ k. Handles s r.history g k es end) (sym is)
      (subst (λ k. Handles s r.history k m es end) fits.guid done.0) in
      let well =
      handles_well s r.history g r.moment es end handles hist early good.stands same tells in
      let within : r.durable ≤ length (stored r.history) = omega (arith, at.queued.lined.marked, at.queued.lined.handed) in (
        handles,
        done.1,
        record {
          guid = guid ∙ fits.guid;
          shape = shape ∙ fits.shape;
          reader = reader ∙ fits.reader;
          lease = lease ∙ fits.lease;
          stored = stor ∙ fits.stored ∙ sym (ap (λ v. is_stored v g) (start_extend r.history es));
          proxy = done.2;
          heard = heard ∙ sym is;
          lost = lost;
          acks = acks ∙ fits.acks;
          durable =
              λ yes1. durable
              ∙ fits.durable (sym (ap (λ v. is_stored v g) (start_extend r.history es)) ∙ yes1)
              ∙ sym (ap (λ q. next_in q g) (durable_extend r.history es r.durable within));
        },
        record {
          same = next_end (with_entries s es) end ∙ well.same;
          low =
              durable_low h' r.durable g well.history
              (longer_grown r.history h' r.durable (grown_by r.history es) within);
        },
      );
}

-- want of memory in a fact
pub speaks_stopped : (l : Ledger) (line : Line) (m : ℕ) (f : Fact) (l' : Ledger) (line' : Line)
    (end : End)
    → end ≡ Stopped → Told l line m f end l' line'
    → Speaks l line m f record { end = end; ack = None } l' line'
speaks_stopped l line m f l' line' end is so = record {
  entries = so.entries;
  holds = λ r w at fits good hist early now.
      let a = so.holds r w at fits good hist early now in
      let h' : History = r.history +> so.entries in
      (record { handles = a.0; answer = subst (λ x. IsAnswer r.plan h' r.durable w (told_by r w (step_of f so.entries record { end = end; ack = None })) (asks_at x f (next_in h' w.line.guid)) None) (sym is) refl }, a.1, a.2);
}

asked_whole : (end : End) → (end ≡ Stopped → ⊥) → (f : Fact) (n : ℕ) → asks f n ≡ asks_at end f n
asked_whole Waits is f n = refl
asked_whole (Refuses k limit) is f n = refl
asked_whole Stopped is f n = absurd (is refl)

-- the answer depends on the writer's line and its count alone
same_answer : (r : Run) (w : Writer) (f : Fact) (es : List Entry) (end : End) (h : History) (o : Option ℕ) (x : Option Ack)
    → IsAnswer r.plan h r.durable (told_writer r w f es end) (told_writer r w f es end).story o x
    → IsAnswer r.plan h r.durable w (told_writer r w f es end).story o x
same_answer r w f es end h None x is = is
same_answer r w f es end h (Some last) None is = is
same_answer r w f es end h (Some last) (Some a) is = record {
  writer = is.writer;
  reader = is.reader;
  base = is.base;
  asked = is.asked;
  is_final = is.is_final;
  count = is.count;
}

-- a fact that was handled whole
pub speaks_whole : (l : Ledger) (line : Line) (m : ℕ) (f : Fact) (l' : Ledger) (line1 line2 : Line)
    (end : End) (last : Option ℕ) (ack : Option Ack) (num : ℕ)
    → (end ≡ Stopped → ⊥) → Told l line m f end l' line1
    → num ≡ line1.proxy.next → last ≡ asks f num
    → ((plan : Plan) (h : History) (d : ℕ) (w : Writer) → LineFits plan h d line1 w → MayAnswer h d w → IsAnswer plan h d w w.story last ack × LineFits plan h d line2 (record w {
      acks = acks_after (one_for ack) w.acks;
    }))
    → Speaks l line m f record { end = end; ack = ack } l' line2
speaks_whole l line m f l' line1 line2 end last ack num is so num_is last_is answers = record {
  entries = so.entries;
  holds = λ r w at fits good hist early now.
      let a = so.holds r w at fits good hist early now in
      let h' : History = r.history +> so.entries in
      let v : Writer = told_writer r w f so.entries end in
      let b = answers r.plan h' r.durable v a.2 a.3 in
      let asked : last ≡ asks_at end f (next_in h' w.line.guid) =
      last_is ∙ ap (asks f) (num_is ∙ a.2.proxy.next ∙ a.3.same)
      ∙ asked_whole end is f (next_in h' w.line.guid) in
      (record { handles = a.0; answer = subst (λ z. IsAnswer r.plan h' r.durable w v.story z ack) asked (same_answer r w f so.entries end h' last ack b.0) }, a.1, b.1);
}
