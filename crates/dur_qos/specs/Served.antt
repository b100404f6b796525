-- Who is served, and under which ids.
use Rattle.std.specs.Prelude.{ℕ, ◌+◌, ◌≤◌, List, [], ◌∷◌, ◌++◌, Some, None, slice_get, slice_index_or}
use Rattle.std.specs.Int.{w16, to_be_bytes}
use Rattle.std.specs.declared.option.Option.{Option}
use Rattle.dur_base.specs.declared.kinds.Durability.{Durability}
use Rattle.dur_base.specs.declared.kinds.Durability.TheVariants.{Volatile, TransientLocal, Transient, Persistent}
use Rattle.dur_base.specs.declared.kinds.Shape.{Shape}
use Rattle.dur_base.specs.declared.kinds.Shape.TheVariants as shape
use Rattle.dur_qos.specs.declared.plan.Topic.{Topic}
use Rattle.dur_qos.specs.declared.plan.Plan.{Plan}
use Rattle.dur_qos.specs.declared.plan.ReaderLine.{ReaderLine}

-- the order of the kinds
abbrev pub rank : Durability → ℕ
rank Volatile = 0
rank TransientLocal = 1
rank Transient = 2
rank Persistent = 3

-- a reader requests transient or persistent samples, and the topic's kind is at least that
abbrev pub IsServed : Topic → ReaderLine → Type 0
IsServed topic reader = (2 ≤ rank reader.kind) × (rank reader.kind ≤ rank topic.kind)

abbrev pub reader_end : Shape → ℕ
reader_end shape.None = 4
reader_end shape.Hash = 7
reader_end shape.U32 = 7
reader_end shape.Text = 7

abbrev pub reader_id_at : ℕ → Option Topic → List ℕ
reader_id_at place None = []
reader_id_at place (Some t) = 0 ∷ [] ++ to_be_bytes w16 (place + 1) ++ reader_end t.shape ∷ []

-- 00, the place from 1 as two octets, and 07, or 04 where samples have no key
abbrev pub reader_id_of : Plan → ℕ → List ℕ
reader_id_of plan place = reader_id_at place (slice_get plan.topics place)

abbrev pub no_reader : ReaderLine
no_reader = record { guid = []; topic = 0; kind = Volatile }

abbrev pub replay_end : Shape → ℕ
replay_end shape.None = 3
replay_end shape.Hash = 2
replay_end shape.U32 = 2
replay_end shape.Text = 2

abbrev pub replay_id_at : ℕ → Option Topic → List ℕ
replay_id_at place None = []
replay_id_at place (Some t) = 1 ∷ [] ++ to_be_bytes w16 (place + 1) ++ replay_end t.shape ∷ []

-- 01, the place from 1 as two octets, and 02, or 03 where the reader's topic has no key
abbrev pub replay_id_of : Plan → ℕ → List ℕ
replay_id_of plan place = replay_id_at place (slice_get plan.topics (slice_index_or plan.readers place no_reader).topic)
