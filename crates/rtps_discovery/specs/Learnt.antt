-- The plan that facts of discovery teach.
use Rattle.std.specs.Prelude.{◌≡◌, ◌≢◌, ◌⊎◌, ℕ, ◌+◌, ◌-◌, ◌/◌, ◌^◌, ◌≤◌, ◌<◌, ◌&&◌, ◌||◌, Bool, not, false, List, [], ◌∷◌, ◌++◌, length, map, max, Option, Some, None, option_map, nat_le, slice_get, if◌then◌else◌}
use Rattle.std.specs.List.{AllByRecursion, Contains, list_all}
use Rattle.std.specs.List.Sorted.{IsStrictlySortedBy}
use Rattle.std.specs.Ordering.{nat_cmp}
use Rattle.std.specs.Cmp.Lexicographic.{slice_cmp}
use Rattle.std.specs.Str.{bytes_eq}
use Rattle.dur_base.specs.declared.fact.Fact.{Fact}
use Rattle.dur_base.specs.declared.fact.Fact.TheVariants.{Data, Unreadable, Gap, Beat, Nack}
use Rattle.dur_base.specs.declared.kinds.Durability.{Durability}
use Rattle.dur_qos.specs.declared.plan.Plan.{Plan}
use Rattle.dur_qos.specs.declared.plan.Topic.{Topic}
use Rattle.dur_qos.specs.declared.plan.WriterLine.{WriterLine}
use Rattle.dur_qos.specs.declared.plan.ReaderLine.{ReaderLine}
use Rattle.dur_qos.specs.Plan.{has_writer, has_reader}
use Rattle.dur_qos.specs.Served.{rank}
use Rattle.rtps_discovery.specs.declared.announcement.Announcement.{Announcement}
use Rattle.rtps_discovery.specs.declared.announcement.Announcement.TheVariants.{Participant, Writer, Reader, Gone}
use Rattle.rtps_discovery.specs.declared.announcement.Told.{Told}
use Rattle.rtps_discovery.specs.Sources.{participant_of}
use Rattle.rtps_discovery.specs.Announcing.{guid_of, Announces}

-- a fact, and when it was heard
pub record HeardFact : Type 0 where
  pub moment : ℕ
  pub fact : Fact

abbrev pub heard : ℕ → Fact → HeardFact
heard moment fact = record { moment = moment; fact = fact }

-- whom it is about
abbrev pub about : Told → List ℕ
about t = guid_of t.what

-- ---- what facts announce

-- a DATA that announces it
abbrev pub IsTold : Plan → ℕ → Fact → Told → Type 0
IsTold plan moment (Data writer reader number raw) t =
    (t ≡ record { writer = writer; number = number; moment = moment; what = t.what }) × Announces plan writer raw t.what
IsTold plan moment (Unreadable writer reader number) t = ⊥
IsTold plan moment (Gap writer reader start set) t = ⊥
IsTold plan moment (Beat writer reader first last is_final) t = ⊥
IsTold plan moment (Nack reader writer set is_final) t = ⊥

-- what these facts announce, in their order
abbrev pub AreTold : Plan → List HeardFact → List Told → Type 0
AreTold plan [] told = told ≡ []
AreTold plan (h ∷ hs) told =
    ((t : Told) × (later : List Told) × IsTold plan h.moment h.fact t × (told ≡ t ∷ later) × AreTold plan hs later)
    ⊎ (((t : Told) → IsTold plan h.moment h.fact t → ⊥) × AreTold plan hs told)

-- ---- which announcements count

-- of that GUID no number above this one was heard from that writer
abbrev pub none_above : List ℕ → List ℕ → ℕ → List Told → Bool
none_above writer guid number before =
    list_all (λ b. not (bytes_eq b.writer writer && bytes_eq (about b) guid) || nat_le b.number number) before

-- its number is at least all that were heard before of that GUID from that writer
abbrev pub counts : List Told → Told → Bool
counts before t = none_above t.writer (about t) t.number before

-- those that count, where others were heard before
abbrev pub counted_after : List Told → List Told → List Told
counted_after before [] = []
counted_after before (t ∷ ts) =
    if counts before t then t ∷ counted_after (before ++ t ∷ []) ts else counted_after (before ++ t ∷ []) ts

abbrev pub counted : List Told → List Told
counted told = counted_after [] told

-- ---- who is alive

-- the last one that counts of a GUID, and those that count after it
pub record IsLast (counted : List Told) (guid : List ℕ) (last : Told) (after : List Told) : Type 0 where
  pub before : List Told
  pub parts : counted ≡ before ++ last ∷ after
  pub whose : about last ≡ guid
  pub no_later : AllByRecursion (λ t. about t ≢ guid) after

-- the moment lies within a lease that began then
abbrev pub IsWithin : Option ℕ → ℕ → ℕ → Type 0
IsWithin None began now = Unit {0}
IsWithin (Some ticks) began now = now ≤ began + ticks

-- A participant is alive, with this lease (DDSI-RTPS 8.5.3.2): its last announcement that counts is no farewell, and
-- the lease is not over.
pub record IsAlive (counted : List Told) (guid : List ℕ) (lease : Option ℕ) (now : ℕ) : Type 0 where
  pub last : Told
  pub after : List Told
  pub is_last : IsLast counted guid last after
  pub says : last.what ≡ Participant guid lease
  pub within : IsWithin lease last.moment now

-- A writer or reader is alive: what counts of it last announces it so, its participant is alive, and no farewell of
-- that participant that counts stands after it.
pub record IsThere (counted : List Told) (what : Announcement) (lease : Option ℕ) (now : ℕ) : Type 0 where
  pub last : Told
  pub after : List Told
  pub is_last : IsLast counted (guid_of what) last after
  pub says : last.what ≡ what
  pub stays : AllByRecursion (λ t. t.what ≢ Gone (participant_of (guid_of what))) after
  pub participant : IsAlive counted (participant_of (guid_of what)) lease now

-- ---- which lines are added

-- seconds, rounded up, and at least 1
abbrev pub seconds_of : ℕ → ℕ
seconds_of ticks = max 1 ((ticks + (2 ^ 32 - 1)) / 2 ^ 32)

-- a writer that is alive, offers at least the kind of its topic, and has no line yet, with its participant's lease
pub record IsNewWriter (plan : Plan) (counted : List Told) (now : ℕ) (line : WriterLine) : Type 0 where
  pub kind : Durability
  pub topic : Topic
  pub lease : Option ℕ
  pub there : IsThere counted (Writer line.guid line.topic kind) lease now
  pub topic_is : slice_get plan.topics line.topic ≡ Some topic
  pub enough : rank topic.kind ≤ rank kind
  pub lease_is : line.lease ≡ option_map seconds_of lease
  pub unnamed : has_writer line.guid plan.writers ≡ false

-- a reader that is alive and has no line yet
pub record IsNewReader (plan : Plan) (counted : List Told) (now : ℕ) (line : ReaderLine) : Type 0 where
  pub lease : Option ℕ
  pub there : IsThere counted (Reader line.guid line.topic line.kind) lease now
  pub unnamed : has_reader line.guid plan.readers ≡ false

-- behind the old lines stand all new ones, and no others, by rising GUID
pub record AreAdded {L : Type 0} (IsNew : L → Type 0) (guid : L → List ℕ) (old all : List L) : Type 0 where
  pub lines : List L
  pub parts : all ≡ old ++ lines
  pub rising : IsStrictlySortedBy (slice_cmp nat_cmp) (map guid lines)
  pub new : AllByRecursion IsNew lines
  pub every : (line : L) → IsNew line → Contains lines line

-- the plan that follows at that moment from what was told
pub record Follows (plan : Plan) (told : List Told) (now : ℕ) (learnt : Plan) : Type 0 where
  pub prefix : learnt.prefix ≡ plan.prefix
  pub topics : learnt.topics ≡ plan.topics
  pub writers : AreAdded (IsNewWriter plan (counted told) now) (λ w. w.guid) plan.writers learnt.writers
  pub readers : AreAdded (IsNewReader plan (counted told) now) (λ r. r.guid) plan.readers learnt.readers

-- the plan learnt from all these facts, at that moment
pub record IsLearnt (plan : Plan) (facts : List HeardFact) (now : ℕ) (learnt : Plan) : Type 0 where
  pub told : List Told
  pub are_told : AreTold plan facts told
  pub follows : Follows plan told now learnt

-- it has more than 4,096 writers or 1,024 readers
abbrev pub PassesLimit : Plan → Type 0
PassesLimit p = (4096 < length p.writers) ⊎ (1024 < length p.readers)
