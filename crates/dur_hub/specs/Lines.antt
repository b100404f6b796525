-- A line of the hub stands for a writer of the run.
use Rattle.std.specs.Prelude.{◌≡◌, ℕ, ◌≤◌, true, Option, Some, None, List, [], ◌∷◌}
use Rattle.dur_base.specs.declared.entry.Entry.{Entry}
use Rattle.dur_base.specs.declared.fact.Fact.{Fact}
use Rattle.dur_base.specs.declared.fact.Fact.TheVariants as fact
use Rattle.dur_qos.specs.declared.plan.Plan.{Plan}
use Rattle.dur_qos.specs.Served.{reader_id_of}
use Rattle.dur_view.specs.History.{History, ◌+>◌, start, moment, next as next_in}
use Rattle.dur_view.specs.IsSound.{IsHistory}
use Rattle.rel_reader.specs.Stories.{next}
use Rattle.rel_reader.specs.Windows.{Fits}
use Rattle.dur_hub.specs.declared.ledger.Ledger.{Ledger}
use Rattle.dur_hub.specs.declared.line.Line.{Line}
use Rattle.dur_hub.specs.declared.telling.Heartbeat.{Heartbeat}
use Rattle.dur_hub.specs.declared.heeding.Heeded.{Heeded}
use Rattle.dur_hub.specs.declared.event.Step.{Step}
use Rattle.dur_hub.specs.Telling.{topic_in}
use Rattle.dur_view.specs.Stored.{durable_part, is_stored}
use Rattle.dur_hub.specs.Runs.{Writer, Run}
use Rattle.dur_hub.specs.Steps.{Hears, spoken}
use Rattle.dur_hub.specs.GoodRuns.{GoodWriter}
use Rattle.dur_hub.specs.Queues.{LedgerAt}

-- what a line keeps of its writer, over a history whose first d persistent entries are durable
pub record LineFits (plan : Plan) (h : History) (d : ℕ) (line : Line) (w : Writer) : Type 0 where
  pub guid : line.guid ≡ w.line.guid
  pub shape : line.shape ≡ (topic_in plan w.line.topic).shape
  pub reader : line.reader ≡ reader_id_of plan w.line.topic
  pub lease : line.lease ≡ w.line.lease
  pub stored : line.stored ≡ is_stored (start h) w.line.guid
  pub proxy : Fits line.proxy w.story
  pub heard : line.heard ≡ w.heard
  pub lost : line.lost ≡ w.lost
  pub acks : line.acks ≡ w.acks
  pub durable : is_stored (start h) w.line.guid ≡ true
      → line.durable ≡ next_in (durable_part h d) w.line.guid

-- each line fits the writer at its place
abbrev pub Pairs : (Line → Writer → Type 0) → List Line → List Writer → Type 0
Pairs P [] [] = Unit {0}
Pairs P [] (w ∷ ws) = ⊥
Pairs P (l ∷ ls) [] = ⊥
Pairs P (l ∷ ls) (w ∷ ws) = P l w × Pairs P ls ws

-- the lines of the hub, and the writers of the plan, in their order
abbrev pub LinesFit : Plan → History → ℕ → List Line → List Writer → Type 0
LinesFit plan h d ls ws = Pairs (LineFits plan h d) ls ws

-- what a HEARTBEAT says of its last number, and whether it is final
abbrev pub beat_of : Fact → Option Heartbeat
beat_of (fact.Beat w reader first last is_final) = Some record { last = last; is_final = is_final }
beat_of f = None

-- what an acknowledgement needs: the next number is the history's, and the durable ones are none above it
pub record MayAnswer (h : History) (d : ℕ) (w : Writer) : Type 0 where
  pub same : next w.story ≡ next_in h w.line.guid
  pub low : is_stored (start h) w.line.guid ≡ true
      → next_in (durable_part h d) w.line.guid ≤ next_in h w.line.guid

abbrev pub step_of : Fact → List Entry → Heeded → Step
step_of f es x = record { fact = f; entries = es; end = x.end; ack = x.ack }

-- What a fact of its writer does to a line and the ledger.
pub record Speaks (l : Ledger) (line : Line) (m : ℕ) (f : Fact) (x : Heeded) (l' : Ledger) (line' : Line) : Type 0 where
  pub entries : List Entry
  pub holds : (r : Run) (w : Writer) → LedgerAt l r.history r.taken r.durable
      → LineFits r.plan r.history r.durable line w → GoodWriter r.history r.plan w
      → IsHistory r.history → moment r.history ≤ r.moment → r.moment ≡ m →
      Hears r w (step_of f entries x) × LedgerAt l' (r.history +> entries) r.taken r.durable
      × LineFits r.plan (r.history +> entries) r.durable line' (spoken r (step_of f entries x) w)
