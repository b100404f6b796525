-- A late reader: what it takes of all that comes, and what it asks for (DDSI-RTPS 8.4.12).
use Rattle.std.specs.Prelude.{suc, zero, ◌≡◌, ℕ, ◌+◌, ◌%◌, ◌^◌, ◌&&◌, ◌||◌, not, nat_le, max, Bool, true, false, if◌then◌else◌, Option, Some, None, is_some, List, [], ◌∷◌, ◌++◌, take, drop, unwrap_or}
use Rattle.std.specs.Str.{bytes_eq}
use Rattle.dur_base.specs.NumberSets.{NumberSet, IsNumberSet, names}
use Rattle.dur_base.specs.declared.fact.Fact.{Fact}
use Rattle.dur_base.specs.declared.fact.Fact.TheVariants as facts
use Rattle.dur_base.specs.declared.kinds.Shape.{Shape}
use Rattle.dur_base.specs.declared.kinds.Shape.TheVariants as shapes
use Rattle.dur_base.specs.declared.sample.Act.{Act}
use Rattle.dur_base.specs.declared.sample.Act.TheVariants.{Write, Dispose, Unregister, DisposeUnregister, Marker}
use Rattle.dur_base.specs.declared.sample.Raw.{Raw}
use Rattle.dur_base.specs.declared.sample.Sample.{Sample}
use Rattle.rtps_message.specs.Facts.{everybody}
use Rattle.rtps_message.specs.Samples.{reads}
use Rattle.rtps_message.specs.Written.{message, acknack_subs, TellsOne}
use Rattle.rel_reader.specs.declared.known.Known.{Known}
use Rattle.rel_reader.specs.declared.known.Known.TheVariants.{Unknown, Irrelevant, With}
use Rattle.rel_reader.specs.Knowledge.{is_unknown}
use Rattle.rel_reader.specs.Stories.{Happening, Story, Begin, ◌▸◌, Data, Gap, Beat, Handled, next}
use Rattle.rel_reader.specs.KnownNumbers.{known}
use Rattle.rel_reader.specs.MissingNumbers.{is_missing}
use Rattle.rel_writer.specs.Sets.{any_marker}

-- a late reader
pub record Late : Type 0 where
  -- its GUID
  pub reader : List ℕ
  -- the first octets of the service's prefixes, and the id of the replay's writer
  pub service : List ℕ
  pub writer : List ℕ
  -- the prefix that it keeps to
  pub kept : Option (List ℕ)
  -- all that came from there
  pub story : Story
  -- the samples that it handled, by their numbers
  pub handled : List Sample
  -- the greatest last number of the HEARTBEATs
  pub last : ℕ
  -- how many ACKNACKs it sent, modulo 2^32
  pub nacks : ℕ

abbrev pub fresh : List ℕ → List ℕ → List ℕ → Late
fresh reader service writer = record {
  reader = reader;
  service = service;
  writer = writer;
  kept = None;
  story = Begin 1;
  handled = [];
  last = 0;
  nacks = 0;
}

-- ---- whom it hears

-- the writer with its id in the participant that it keeps to
abbrev pub is_from : Option (List ℕ) → List ℕ → List ℕ → Bool
is_from None id writer = false
is_from (Some prefix) id writer = bytes_eq (take 12 writer) prefix && bytes_eq (drop 12 writer) id

-- the prefix that it keeps to after a HEARTBEAT: the first of the service's that its writer's id
-- comes with
abbrev pub keeps : List ℕ → List ℕ → Option (List ℕ) → List ℕ → Option (List ℕ)
keeps service id (Some prefix) writer = Some prefix
keeps service id None writer =
    if bytes_eq (take 8 writer) service && bytes_eq (drop 12 writer) id then Some (take 12 writer)
    else None

-- ---- what it makes of a DATA

-- a writer's id ends in 02 where its topic has keys
abbrev pub shape_of : List ℕ → Shape
shape_of id = if bytes_eq (drop 3 id) (2 ∷ []) then shapes.Hash else shapes.None

-- what a replay has: a marker, or a change with its original
abbrev pub is_of_replay : Act → Bool → Bool
is_of_replay Marker signed = true
is_of_replay Unregister signed = false
is_of_replay Write signed = signed
is_of_replay Dispose signed = signed
is_of_replay DisposeUnregister signed = signed

-- all else is unreadable
abbrev pub usable : Option Sample → Option Sample
usable None = None
usable (Some s) = if is_of_replay s.act (is_some s.original) then Some s else None

abbrev pub read_of : List ℕ → Raw → Option Sample
read_of id raw = usable (reads (shape_of id) 0 raw)

-- ---- what it knows

abbrev pub with_story : Late → Story → Late
with_story l story = record l { story = story }

abbrev pub with_kept : Late → Option (List ℕ) → Late
with_kept l kept = record l { kept = kept }

abbrev pub beat_told : Late → Bool → ℕ → ℕ → Late
beat_told l false first last = l
beat_told l true first last = record l { story = l.story ▸ Beat first; last = max l.last last }

-- what happened at a writer counts where that one is heard
abbrev pub heard_from : Late → List ℕ → Happening → Late
heard_from l writer e = if is_from l.kept l.writer writer then with_story l (l.story ▸ e) else l

-- a fact came
abbrev pub told : Late → Fact → Late
told l (facts.Data writer reader k raw) = heard_from l writer (Data k (read_of l.writer raw))
told l (facts.Unreadable writer reader k) = heard_from l writer (Data k None)
told l (facts.Gap writer reader start set) = heard_from l writer (Gap start set)
told l (facts.Beat writer reader first last is_final) =
    let kept = keeps l.service l.writer l.kept writer in
    beat_told (with_kept l kept) (is_from kept l.writer writer) first last
told l (facts.Nack reader writer set is_final) = l

-- ---- what it handles

-- the next number is taken where it is known with a sample, and passed where it is irrelevant
abbrev pub handle : Late → Known → Late
handle l Unknown = l
handle l Irrelevant = with_story l (l.story ▸ Handled (next l.story + 1))
handle l (With s) =
    record l { story = l.story ▸ Handled (next l.story + 1); handled = l.handled ++ s ∷ [] }

-- up to so many numbers are handled
abbrev pub drain : ℕ → Late → Late
drain zero l = l
drain (suc times) l = drain times (handle l (known l.story (next l.story)))

-- nothing is left to handle
abbrev pub IsSettled : Late → Type 0
IsSettled l = is_unknown (known l.story (next l.story)) ≡ true

-- who sent a HEARTBEAT, its last number, and whether it is final
abbrev pub beat_of : Fact → Option (List ℕ × ℕ × Bool)
beat_of (facts.Beat writer reader first last is_final) = Some (writer, last, is_final)
beat_of _ = None

-- a HEARTBEAT asks where it is not final or shows a missing number
abbrev pub asks_by : Late → Option (List ℕ × ℕ × Bool) → Bool
asks_by l None = false
asks_by l (Some beat) =
    is_from l.kept l.writer beat.0 && (not beat.2 || nat_le (next l.story) beat.1)

abbrev pub asks : Late → Fact → Bool
asks l fact = asks_by l (beat_of fact)

-- The facts of a datagram came, and after each all was handled that is ready; and whether one of
-- them asks for an ACKNACK.
abbrev pub LateHears : Late → List Fact → Bool → Late → Type 0
LateHears l [] asked after = (after ≡ l) × (asked ≡ false)
LateHears l (f ∷ fs) asked after =
    (times : ℕ) × (more : Bool) × IsSettled (drain times (told l f))
    × LateHears (drain times (told l f)) fs more after
    × (asked ≡ (asks (drain times (told l f)) f || more))

-- ---- what it sends

-- whom it asks: everybody, until it knows the service's prefix
abbrev pub asked_writer : Late → List ℕ
asked_writer l = unwrap_or l.kept everybody ++ l.writer

abbrev pub asked : Late → Late
asked l = record l { nacks = (l.nacks + 1) % 2 ^ 32 }

-- its next ACKNACK with this set, which is final where it is done (DDSI-RTPS 8.3.8.1)
abbrev pub nack_text : Late → NumberSet → List ℕ
nack_text l set = message (take 12 l.reader)
    (acknack_subs l.reader (asked_writer l) set (any_marker l.handled) ((l.nacks + 1) % 2 ^ 32))

abbrev pub nack_fact : Late → NumberSet → Fact
nack_fact l set = facts.Nack l.reader (drop 12 (asked_writer l)) set (any_marker l.handled)

-- Its next ACKNACK: it has all below its next number, and asks for those that it misses. A set has one form, so its
-- octets are determined.
pub record IsNack (l : Late) (bytes : List ℕ) : Type 0 where
  pub set : NumberSet
  pub form : IsNumberSet set
  pub base : set.base ≡ next l.story
  pub missing : (k : ℕ) → names set k ≡ is_missing l.story (next l.story) l.last k
  pub text : bytes ≡ nack_text l set
  pub tells : TellsOne (asked_writer l) bytes (nack_fact l set)
