-- Acknowledgements (DDSI-RTPS 8.3.8.1).
use Rattle.std.specs.Prelude.{◌≡◌, ℕ, ◌+◌, ◌^◌, ◌%◌, not, ◌||◌, ◌==◌, if◌then◌else◌, nat_le, Option, Some, None}
use Rattle.dur_base.specs.declared.fact.Fact.{Fact}
use Rattle.dur_base.specs.declared.fact.Fact.TheVariants as fact
use Rattle.dur_base.specs.NumberSets.{names}
use Rattle.dur_qos.specs.declared.plan.Plan.{Plan}
use Rattle.dur_qos.specs.Served.{reader_id_of}
use Rattle.dur_view.specs.History.{History, next}
use Rattle.rel_reader.specs.Stories.{Story}
use Rattle.rel_reader.specs.MissingNumbers.{is_missing}
use Rattle.dur_hub.specs.declared.event.End.{End}
use Rattle.dur_hub.specs.declared.event.End.TheVariants.{Waits, Refuses, Stopped}
use Rattle.dur_hub.specs.declared.reply.Ack.{Ack}
use Rattle.dur_view.specs.Stored.{ack_base}
use Rattle.dur_hub.specs.Runs.{Writer}

-- A HEARTBEAT asks (DDSI-RTPS 8.3.8.6, 8.4.12) where it is not final, or where its last number is at least the writer's next one. What asks is its last number.
abbrev pub asks : Fact → ℕ → Option ℕ
asks (fact.Beat w reader first last is_final) next =
    if not is_final || nat_le next last then Some last else None
asks f next = None

-- what asks of a fact that was handled up to this end: nothing of one that was cut off
abbrev pub asks_at : End → Fact → ℕ → Option ℕ
asks_at Stopped f next = None
asks_at Waits f next = asks f next
asks_at (Refuses n limit) f next = asks f next

-- The acknowledgement of a writer for a HEARTBEAT with this last number, over the history and the story right after it was handled.
pub record IsAck (plan : Plan) (h : History) (d : ℕ) (w : Writer) (s : Story) (last : ℕ) (a : Ack) : Type 0 where
  pub writer : a.writer ≡ w.line.guid
  pub reader : a.reader ≡ reader_id_of plan w.line.topic
  pub base : a.set.base ≡ ack_base h d w.line.guid
  pub asked : (k : ℕ) → names a.set k ≡ is_missing s (ack_base h d w.line.guid) last k
  pub is_final : a.is_final ≡ (ack_base h d w.line.guid == next h w.line.guid)
  pub count : a.count ≡ (w.acks + 1) % 2 ^ 32

-- one is given exactly where something asks
abbrev pub IsAnswer : Plan → History → ℕ → Writer → Story → Option ℕ → Option Ack → Type 0
IsAnswer plan h d w s None answer = answer ≡ None
IsAnswer plan h d w s (Some last) None = ⊥
IsAnswer plan h d w s (Some last) (Some a) = IsAck plan h d w s last a

abbrev pub one_for : Option Ack → ℕ
one_for None = 0
one_for (Some a) = 1

-- how many acknowledgements a writer was given, modulo 2^32, after one more or none
abbrev pub acks_after : ℕ → ℕ → ℕ
acks_after n before = if n == 0 then before else (before + 1) % 2 ^ 32
