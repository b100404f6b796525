-- The text that is written of a plan.
use Rattle.std.specs.Prelude.{◌≡◌, ℕ, List, [], ◌∷◌, ◌++◌, length, Some, None, slice_get, codes}
use Rattle.std.specs.List.{flat_map, AllByRecursion}
use Rattle.std.specs.Fmt.{decimal}
use Rattle.std.specs.declared.option.Option.{Option}
use Rattle.hex.specs.Hex.{IsBytes, encode_lower}
use Rattle.dur_base.specs.declared.kinds.Durability.{Durability}
use Rattle.dur_base.specs.declared.kinds.Durability.TheVariants.{Volatile, TransientLocal, Transient, Persistent}
use Rattle.dur_base.specs.declared.kinds.Shape.{Shape}
use Rattle.dur_base.specs.declared.kinds.Shape.TheVariants as shape
use Rattle.dur_qos.specs.declared.plan.Topic.{Topic}
use Rattle.dur_qos.specs.declared.plan.Plan.{Plan}
use Rattle.dur_qos.specs.declared.plan.WriterLine.{WriterLine}
use Rattle.dur_qos.specs.declared.plan.ReaderLine.{ReaderLine}
use Rattle.dur_qos.specs.Text.{line_text}

-- ---- words
abbrev pub kind_word : Durability → List ℕ
kind_word Volatile = codes "volatile"
kind_word TransientLocal = codes "transient_local"
kind_word Transient = codes "transient"
kind_word Persistent = codes "persistent"

abbrev pub shape_word : Shape → List ℕ
shape_word shape.None = codes "none"
shape_word shape.Hash = codes "hash"
shape_word shape.U32 = codes "u32"
shape_word shape.Text = codes "text"

-- `all` or a depth
abbrev pub history_word : Option ℕ → List ℕ
history_word None = codes "all"
history_word (Some n) = decimal n

-- `-` or a number
abbrev pub limit_word : Option ℕ → List ℕ
limit_word None = codes "-"
limit_word (Some n) = decimal n

abbrev pub name_in : Option Topic → List ℕ
name_in None = []
name_in (Some t) = t.name

-- the name of the topic at a place
abbrev pub topic_word : List Topic → ℕ → List ℕ
topic_word topics place = name_in (slice_get topics place)

-- ---- lines

-- words, a space before each
abbrev pub behind : List (List ℕ) → List ℕ
behind [] = []
behind (w ∷ ws) = 32 ∷ (w ++ behind ws)

unfoldable pub prefix_written : List ℕ → List ℕ
prefix_written prefix = codes "prefix" ++ behind (encode_lower prefix ∷ [])

-- a topic's limits and its delay
abbrev pub limit_words : Topic → List (List ℕ)
limit_words t = limit_word t.max_samples ∷ limit_word t.max_instances ∷ limit_word t.max_per_instance ∷ limit_word t.max_held ∷ decimal t.delay ∷ []

unfoldable pub topic_written : Topic → List ℕ
topic_written t = codes "topic" ++ behind (t.name ∷ kind_word t.kind ∷ shape_word t.shape ∷ history_word t.depth ∷ limit_words t)

unfoldable pub writer_written : List Topic → WriterLine → List ℕ
writer_written topics w = codes "writer" ++ behind (encode_lower w.guid ∷ topic_word topics w.topic ∷ limit_word w.lease ∷ [])

unfoldable pub reader_written : List Topic → ReaderLine → List ℕ
reader_written topics r = codes "reader" ++ behind (encode_lower r.guid ∷ topic_word topics r.topic ∷ kind_word r.kind ∷ [])

-- the prefix line, the topics, the writers, the readers, and `end`, each with its line feed
abbrev pub topics_text : List Topic → List ℕ
topics_text topics = flat_map (λ t. line_text (topic_written t)) topics

abbrev pub writers_text : List Topic → List WriterLine → List ℕ
writers_text topics writers = flat_map (λ w. line_text (writer_written topics w)) writers

abbrev pub readers_text : List Topic → List ReaderLine → List ℕ
readers_text topics readers = flat_map (λ r. line_text (reader_written topics r)) readers

unfoldable pub plan_text : Plan → List ℕ
plan_text p = line_text (prefix_written p.prefix) ++ (topics_text p.topics ++ (writers_text p.topics p.writers ++ (readers_text p.topics p.readers ++ line_text (codes "end"))))

-- ---- what the types of values say of them

-- so many octets
abbrev pub IsOctets : ℕ → List ℕ → Type 0
IsOctets n bytes = (length bytes ≡ n) × IsBytes bytes

pub record IsTypedPlan (p : Plan) : Type 0 where
  pub prefix : IsOctets 8 p.prefix
  pub writers : AllByRecursion (λ w. IsOctets 16 w.guid) p.writers
  pub readers : AllByRecursion (λ r. IsOctets 16 r.guid) p.readers
