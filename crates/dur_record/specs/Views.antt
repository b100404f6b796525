-- The text of a view. A rule over several fields is tested at the last of them.
use Rattle.std.specs.Prelude.{◌≡◌, ◌⊎◌, ℕ, ◌+◌, ◌-◌, ◌<◌, Bool, true, false, not, ◌&&◌, ◌||◌, ◌==◌, nat_le, nat_lt, List, [], ◌∷◌, length, Option, Some, None, is_some, option_map, unwrap_or, slice_get, if◌then◌else◌}
use Rattle.std.specs.List.{list_all}
use Rattle.std.specs.Str.{bytes_eq}
use Rattle.std.specs.Ordering.{is_lt}
use Rattle.dur_base.specs.Goodness.{zero_key}
use Rattle.dur_base.specs.Names.{is_name}
use Rattle.dur_base.specs.declared.kinds.Shape.{Shape}
use Rattle.dur_base.specs.declared.kinds.Shape.TheVariants as shape
use Rattle.dur_base.specs.declared.kinds.Durability.TheVariants.{Persistent}
use Rattle.dur_qos.specs.Plan.{is_above}
use Rattle.dur_qos.specs.declared.plan.Topic.{Topic}
use Rattle.dur_view.specs.Fates.{key_cmp}
use Rattle.dur_view.specs.IsSound.{first_open}
use Rattle.dur_view.specs.Words.{at_most, is_same_bool}
use Rattle.dur_view.specs.Words.{is_same, is_keyless, writer_line}
use Rattle.dur_view.specs.declared.data.Held.{Held}
use Rattle.dur_view.specs.declared.data.KeptWriter.{KeptWriter}
use Rattle.dur_view.specs.declared.data.Instance.{Instance}
use Rattle.dur_view.specs.declared.data.Kept.{Kept}
use Rattle.dur_view.specs.declared.data.View.{View}
use Rattle.dur_record.specs.Grammar.{Row, ends, ◌>>=◌, items, Break, Spells, Breaks}
use Rattle.dur_record.specs.Fields.{u64, octets_if, u8_if, u32_if, u64_if, is_number, is_next}
use Rattle.dur_record.specs.Samples.{is_asked, is_there_row, option_row, sample_row}
use Rattle.dur_record.specs.declared.version.Version.{Version}
use Rattle.dur_record.specs.declared.version.Version.TheVariants.{One, Two}
use Rattle.dur_record.specs.declared.field.Kind.TheVariants.{BadField}

-- the last of those so far
abbrev pub last_of : {A : Type 0} → List A → Option A
last_of xs = slice_get xs (length xs - 1)

-- a test of the last of those so far, if there is one
abbrev pub after : {A : Type 0} → List A → (A → Bool) → Bool
after seen test = unwrap_or (option_map test (last_of seen)) true

-- ---- topics

-- that many octets, which are a name and none of those before
unfoldable pub octets_of_name : List Topic → ℕ → Row (List ℕ)
octets_of_name seen n = octets_if n (λ name. is_name name && list_all (λ t. not (bytes_eq t.name name)) seen)

-- length u8, octets
unfoldable pub name_row : List Topic → Row (List ℕ)
name_row seen = do
  n ← u8_if (λ n. nat_le 1 n && nat_le n 64)
  octets_of_name seen n

-- 0 none, 1 hash, 2 u32, 3 text
abbrev pub shape_of : ℕ → Shape
shape_of n = if n == 0 then shape.None else if n == 1 then shape.Hash else if n == 2 then shape.U32 else shape.Text

unfoldable pub shape_row : Row Shape
shape_row = do
  n ← u8_if (λ n. nat_le n 3)
  ends (shape_of n)

-- 0 for all, or unlimited
abbrev pub limit_of : ℕ → Option ℕ
limit_of n = if n == 0 then None else Some n

-- a limit under a test
unfoldable pub limit_if : (Option ℕ → Bool) → Row (Option ℕ)
limit_if good = do
  n ← u32_if (λ n. nat_le n 2147483647 && good (limit_of n))
  ends (limit_of n)

abbrev pub any_limit : Option ℕ → Bool
any_limit limit = true

unfoldable pub delay_row : Row ℕ
delay_row = u32_if (λ n. nat_le n 2147483647)

-- name, shape u8, depth, max_samples, max_instances, max_per_instance not below the depth, max_held, delay u32
unfoldable pub topic_row : List Topic → Row Topic
topic_row seen = do
  name ← name_row seen
  shape ← shape_row
  depth ← limit_if any_limit
  max_samples ← limit_if any_limit
  max_instances ← limit_if any_limit
  max_per_instance ← limit_if (λ limit. not (is_above depth limit))
  max_held ← limit_if any_limit
  delay ← delay_row
  ends (record { name = name; kind = Persistent; shape = shape; depth = depth; max_samples = max_samples; max_instances = max_instances; max_per_instance = max_per_instance; max_held = max_held; delay = delay })

-- ---- writers

-- the key that samples of the topic have to have: without keys it is zero
abbrev pub key_asked : List Topic → ℕ → Option (List ℕ)
key_asked topics t = if is_keyless topics t then Some zero_key else None

-- the number of the set: that of its first member
abbrev pub set_number : List Held → ℕ → ℕ
set_number [] n = n
set_number (x ∷ xs) n = x.number

-- a moment u64, at most the last one
unfoldable pub moment_row : ℕ → Row ℕ
moment_row last = u64_if (λ m. nat_le m last)

-- member i of a writer, from 0, has the number next - count + i
unfoldable pub member_row : ℕ → ℕ → ℕ → Row ℕ
member_row next count i = u64_if (λ n. is_number n && (n + count == next + i))

-- number u64, moment u64, sample with the mark of the set
unfoldable pub held_row : Version → ℕ → Option (List ℕ) → ℕ → ℕ → List Held → Row Held
held_row version last key next count seen = do
  number ← member_row next count (length seen)
  moment ← moment_row last
  sample ← sample_row version (record { change = false; key = key; set = Some (set_number seen number) })
  ends (record { number = number; moment = moment; sample = sample })

-- a GUID that is none of those before
unfoldable pub guid_row : List KeptWriter → Row (List ℕ)
guid_row seen = octets_if 16 (λ g. list_all (λ w. not (is_same w.guid g)) seen)

-- the place u32 of a topic
unfoldable pub topic_in_row : List Topic → Row ℕ
topic_in_row topics = u32_if (λ t. nat_lt t (length topics))

unfoldable pub next_row : Row ℕ
next_row = u64_if is_next

-- GUID 16, topic u32, next u64, held count u64, held
unfoldable pub writer_row : Version → ℕ → List Topic → List KeptWriter → Row KeptWriter
writer_row version last topics seen = do
  guid ← guid_row seen
  topic ← topic_in_row topics
  next ← next_row
  count ← u64
  held ← items count (held_row version last (key_asked topics topic) next count) []
  ends (record { guid = guid; topic = topic; next = next; held = held })

-- ---- instances

-- the depth of the topic at a place
abbrev pub depth_at : List Topic → ℕ → Option ℕ
depth_at topics t = unwrap_or (option_map (λ topic. topic.depth) (slice_get topics t)) None

-- a later key, where the topic is that of the one before
abbrev pub is_later : ℕ → List ℕ → Instance → Bool
is_later topic key before = nat_lt before.topic topic || is_lt (key_cmp before.key key)

-- whether a writer stands at the place, and is one of that topic
abbrev pub is_writer_of : List KeptWriter → ℕ → ℕ → Bool
is_writer_of writers topic r = unwrap_or (option_map (λ w. w.topic == topic) (slice_get writers r)) false

-- the place u32 of a writer of the topic, after those before
unfoldable pub place_row : List KeptWriter → ℕ → List ℕ → Row ℕ
place_row writers topic seen = u32_if (λ r. is_writer_of writers topic r && after seen (λ before. nat_lt before r))

-- the place u32 of a topic, not before that of the instance before
unfoldable pub instance_topic_row : List Topic → List Instance → Row ℕ
instance_topic_row topics seen = u32_if (λ t. nat_lt t (length topics) && after seen (λ before. nat_le before.topic t))

-- key 16, after that of the instance before within a topic, and zero without keys
unfoldable pub instance_key_row : List Topic → List Instance → ℕ → Row (List ℕ)
instance_key_row topics seen topic = octets_if 16 (λ k. is_asked bytes_eq (key_asked topics topic) k && after seen (is_later topic k))

unfoldable pub quiet_row : ℕ → Row (Option ℕ)
quiet_row last = option_row (moment_row last)

-- at most the depth of the topic
unfoldable pub changes_row : List Topic → ℕ → Row ℕ
changes_row topics topic = u64_if (λ n. at_most (depth_at topics topic) n)

-- how many are registered: none, of a disposed instance, exactly where it is quiet
unfoldable pub count_row : Bool → Bool → Row ℕ
count_row disposed is_quiet = u32_if (λ n. is_same_bool is_quiet (disposed && n == 0))

-- topic u32, key 16, disposed u8, quiet, changes u64, registered count u32, places
unfoldable pub instance_row : ℕ → List Topic → List KeptWriter → List Instance → Row Instance
instance_row last topics writers seen = do
  topic ← instance_topic_row topics seen
  key ← instance_key_row topics seen topic
  disposed ← is_there_row
  quiet ← quiet_row last
  changes ← changes_row topics topic
  count ← count_row disposed (is_some quiet)
  registered ← items count (place_row writers topic) []
  ends (record { topic = topic; key = key; disposed = disposed; quiet = quiet; registered = registered; changes = changes })

-- ---- kept changes

-- the ordinal of the instance's last kept change, or what it was before these
abbrev pub ordinal_from : ℕ → ℕ → List Kept → ℕ
ordinal_from before i [] = before
ordinal_from before i (c ∷ cs) = ordinal_from (if c.instance == i then c.ordinal else before) i cs

abbrev pub last_ordinal : ℕ → List Kept → ℕ
last_ordinal i kept = ordinal_from 0 i kept

-- the number of the writer's last kept change, or what it was before these
abbrev pub number_from : ℕ → List ℕ → List Kept → ℕ
number_from before guid [] = before
number_from before guid (c ∷ cs) = number_from (if is_same c.writer guid then c.number else before) guid cs

abbrev pub last_number : List ℕ → List Kept → ℕ
last_number guid kept = number_from 0 guid kept

-- an instance's ordinals begin at 1 and rise
abbrev pub goes_on : ℕ → ℕ → Bool
goes_on before n = if before == 0 then n == 1 else nat_lt before n

-- what stands for an instance past the end of the list
abbrev pub no_instance : Instance
no_instance = record { topic = 0; key = []; disposed = false; quiet = None; registered = []; changes = 0 }

-- the topic of the instance of a kept change
abbrev pub topic_in : List Instance → ℕ → ℕ
topic_in instances i = unwrap_or (option_map (λ x. x.topic) (slice_get instances i)) 0

-- the writer with that GUID is there, and of the topic
abbrev pub is_by : List KeptWriter → ℕ → List ℕ → (KeptWriter → Bool) → Bool
is_by writers topic guid test = unwrap_or (option_map (λ w. (w.topic == topic) && test w) (writer_line writers guid)) false

abbrev pub any_writer : KeptWriter → Bool
any_writer w = true

-- instance u64: there, and of a topic that is not before that of the change before
unfoldable pub instance_place_row : List Instance → List Kept → Row ℕ
instance_place_row instances seen = u64_if (λ i. nat_lt i (length instances) && after seen (λ c. nat_le (topic_in instances c.instance) (topic_in instances i)))

-- an ordinal u64, at most the instance's changes
unfoldable pub ordinal_row : ℕ → ℕ → Row ℕ
ordinal_row changes before = u64_if (λ n. nat_le n changes && goes_on before n)

-- GUID 16 of a writer of the topic
unfoldable pub kept_writer_row : List KeptWriter → ℕ → Row (List ℕ)
kept_writer_row writers topic = octets_if 16 (λ g. is_by writers topic g any_writer)

-- number u64, above the writer's one before, and below its open set and its next
unfoldable pub kept_number_row : List KeptWriter → ℕ → List ℕ → ℕ → Row ℕ
kept_number_row writers topic writer before = u64_if (λ n. is_number n && (nat_lt before n && is_by writers topic writer (λ w. nat_lt n (first_open w))))

-- 00, or 01 and u64, at most last; version 1 has none
unfoldable pub arrived_row : Version → ℕ → Row (Option ℕ)
arrived_row One last = ends None
arrived_row Two last = option_row (moment_row last)

-- what follows the place of a kept change's instance, which is this one
unfoldable pub change_row : Version → ℕ → List KeptWriter → List Kept → ℕ → Instance → Row Kept
change_row version last writers seen place instance = do
  ordinal ← ordinal_row instance.changes (last_ordinal place seen)
  writer ← kept_writer_row writers instance.topic
  number ← kept_number_row writers instance.topic writer (last_number writer seen)
  arrived ← arrived_row version last
  sample ← sample_row version (record { change = true; key = Some instance.key; set = None })
  ends (record { instance = place; ordinal = ordinal; writer = writer; number = number; arrived = arrived; sample = sample })

-- instance u64, ordinal u64, GUID 16, number u64, arrived, sample
unfoldable pub kept_row : Version → ℕ → List KeptWriter → List Instance → List Kept → Row Kept
kept_row version last writers instances seen = do
  place ← instance_place_row instances seen
  change_row version last writers seen place (unwrap_or (slice_get instances place) no_instance)

-- ---- views

unfoldable pub topic_count_row : Row ℕ
topic_count_row = u32_if (λ n. nat_le n 1024)

unfoldable pub writer_count_row : Row ℕ
writer_count_row = u32_if (λ n. nat_le n 67108864)

-- last u64; topics, count u32 at most 1,024; writers, count u32 at most 67,108,864; instances, count u64; kept, count u64
unfoldable pub view_row : Version → Row View
view_row version = do
  last ← u64
  topic_count ← topic_count_row
  topics ← items topic_count topic_row []
  writer_count ← writer_count_row
  writers ← items writer_count (writer_row version last topics) []
  instance_count ← u64
  instances ← items instance_count (instance_row last topics writers) []
  kept_count ← u64
  kept ← items kept_count (kept_row version last writers instances) []
  ends (record { last = last; topics = topics; writers = writers; instances = instances; kept = kept })

-- the text is this view
abbrev pub SpellsView : Version → List ℕ → View → Type 0
SpellsView version text v = Spells (view_row version) text v []

-- a field of the view breaks, or octets follow it
abbrev pub BreaksView : Version → List ℕ → Break → Type 0
BreaksView version text broken =
    Breaks (view_row version) text broken
    ⊎ ((v : View) × (rest : List ℕ) × Spells (view_row version) text v rest × (0 < length rest) × (broken ≡ record { left = length rest; kind = BadField }))
