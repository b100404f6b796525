-- The messages that the service writes (DDSI-RTPS 8.3.3).
use Rattle.std.specs.Prelude.{◌≡◌, ◌||◌, ℕ, Bool, true, false, List, [], ◌∷◌, ◌++◌, length, take, drop, Some, None, if◌then◌else◌}
use Rattle.std.specs.List.{flat_map}
use Rattle.std.specs.Str.{bytes_eq}
use Rattle.dur_base.specs.NumberSets.{NumberSet}
use Rattle.dur_base.specs.declared.fact.Fact.{Fact}
use Rattle.dur_base.specs.declared.sample.Act.{Act}
use Rattle.dur_base.specs.declared.sample.Act.TheVariants.{Write, Dispose, Unregister, DisposeUnregister, Marker}
use Rattle.dur_base.specs.declared.sample.Form.TheVariants as forms
use Rattle.dur_base.specs.declared.sample.SetMark.{SetMark}
use Rattle.dur_base.specs.declared.sample.SetMark.TheVariants.{NoSet, End, Of}
use Rattle.dur_base.specs.declared.sample.Raw.{Raw}
use Rattle.dur_base.specs.declared.sample.Sample.{Sample}
use Rattle.rtps_params.specs.declared.inline.Inline.{Inline}
use Rattle.rtps_submsg.specs.declared.sub.DataSub.{DataSub}
use Rattle.rtps_submsg.specs.declared.sub.Sub.{Sub}
use Rattle.rtps_submsg.specs.declared.sub.Sub.TheVariants.{InfoTs, InfoDst, Data, Heartbeat, AckNack}
use Rattle.rtps_submsg.specs.Writing.{sub_text, IsInRange}
use Rattle.rtps_submsg.specs.Subs.{SubSpells}
use Rattle.rtps_message.specs.declared.heard.End.TheVariants.{Whole}
use Rattle.rtps_message.specs.declared.context.Context.{Context}
use Rattle.rtps_message.specs.Facts.{everybody, told_of}
use Rattle.rtps_message.specs.Messages.{Hears}

-- "RTPS", version 2.5, vendor 0000, and the prefix
abbrev pub opening : List ℕ → List ℕ
opening prefix = (82 ∷ 84 ∷ 80 ∷ 83 ∷ 2 ∷ 5 ∷ 0 ∷ 0 ∷ []) ++ prefix

-- the header and the submessages, all of them little-endian
unfoldable pub message : List ℕ → List Sub → List ℕ
message prefix subs = opening prefix ++ flat_map (λ s. sub_text true s) subs

-- ACKNACK: header, INFO_DST of the writer's prefix, ACKNACK
abbrev pub acknack_subs : List ℕ → List ℕ → NumberSet → Bool → ℕ → List Sub
acknack_subs from to set is_final count = InfoDst (take 12 to) ∷ AckNack (drop 12 from) (drop 12 to) set count is_final ∷ []

-- HEARTBEAT: header, INFO_DST, HEARTBEAT that is not final, from 1 on
abbrev pub heartbeat_subs : List ℕ → List ℕ → ℕ → ℕ → List Sub
heartbeat_subs to writer last count = InfoDst (take 12 to) ∷ Heartbeat (drop 12 to) writer 1 last count false false ∷ []

-- 1 for a dispose, alone or with an unregister
abbrev pub status_of : Act → ℕ
status_of Dispose = 1
status_of DisposeUnregister = 1
status_of _ = 0

-- the mark of a set is sent, and where there is none, no mark is
abbrev pub sent_set : SetMark → SetMark
sent_set (Of number) = Of number
sent_set NoSet = NoSet
sent_set End = NoSet

-- key hash unless the topic has no key, status, original, lifespan if finite, the set if it is of one
abbrev pub sample_list : Sample → Bool → Inline
sample_list s keyed = record {
  hash = if keyed then Some s.key else None;
  status = status_of s.act;
  lifespan = s.lifespan;
  set = sent_set s.set;
  original = s.original;
  strange = None;
}

-- PID_COHERENT_SET of SEQUENCENUMBER_UNKNOWN
abbrev pub marker_list : Inline
marker_list = record { hash = None; status = 0; lifespan = None; set = End; original = None; strange = None }

-- the DATA of a sample, with its payload as it came
pub record IsSampleData (to writer : List ℕ) (number : ℕ) (s : Sample) (keyed : Bool) (d : DataSub) : Type 0 where
  pub reader : d.reader ≡ drop 12 to
  pub writer_is : d.writer ≡ writer
  pub number_is : d.number ≡ number
  pub inline : d.inline ≡ sample_list s keyed
  pub form : d.form ≡ s.form
  pub payload : d.payload.now ≡ s.payload

-- the DATA of a marker, without a payload
pub record IsMarkerData (to writer : List ℕ) (number : ℕ) (d : DataSub) : Type 0 where
  pub reader : d.reader ≡ drop 12 to
  pub writer_is : d.writer ≡ writer
  pub number_is : d.number ≡ number
  pub inline : d.inline ≡ marker_list
  pub form : d.form ≡ forms.Nothing
  pub payload : d.payload.now ≡ []

-- DATA of a session: header, INFO_DST, INFO_TS of the stamp, DATA
abbrev pub sample_subs : List ℕ → ℕ → DataSub → List Sub
sample_subs to stamp d = InfoDst (take 12 to) ∷ InfoTs (Some stamp) ∷ Data d ∷ []

-- Marker: header, INFO_DST, DATA
abbrev pub marker_subs : List ℕ → DataSub → List Sub
marker_subs to d = InfoDst (take 12 to) ∷ Data d ∷ []

-- n octets are written to the front of a place: this message
pub record IsWritten (old new : List ℕ) (prefix : List ℕ) (subs : List Sub) (n : ℕ) : Type 0 where
  pub len : n ≡ length (message prefix subs)
  pub text : new ≡ message prefix subs ++ drop n old

-- the act of a change
abbrev pub IsChange : Act → Type 0
IsChange Write = Unit {0}
IsChange Dispose = Unit {0}
IsChange DisposeUnregister = Unit {0}
IsChange Unregister = ⊥
IsChange Marker = ⊥

-- a DATA of that sample is written
pub record WritesSample (old new from to writer : List ℕ) (number : ℕ) (s : Sample) (keyed : Bool) (n : ℕ) : Type 0 where
  pub d : DataSub
  pub is : IsSampleData to writer number s keyed d
  pub written : IsWritten old new from (sample_subs to s.stamp d) n

-- a marker is written
pub record WritesMarker (old new from to writer : List ℕ) (number : ℕ) (n : ℕ) : Type 0 where
  pub d : DataSub
  pub is : IsMarkerData to writer number d
  pub written : IsWritten old new from (marker_subs to d) n

-- ---- what is written reads again as itself

-- a submessage in the ranges of the table reads again, whatever follows
abbrev pub ReadsBack : Sub → Type 0
ReadsBack s = IsInRange s → (rest : List ℕ) → SubSpells (sub_text true s ++ rest) s (length (sub_text true s))

-- what stands where a message from that prefix begins
abbrev pub begin_at : List ℕ → Context
begin_at prefix = record { source = prefix; destination = everybody; time = None }

-- each participant hears what these submessages tell it, and that the message is whole
abbrev pub Tells : List ℕ → List Sub → List ℕ → Type 0
Tells prefix subs bytes = (own : List ℕ) → Hears own bytes (record { facts = told_of own (begin_at prefix) subs; end = Whole })

-- the destination is everybody, or this participant
abbrev pub is_addressed : List ℕ → List ℕ → Bool
is_addressed own to = bytes_eq (take 12 to) everybody || bytes_eq (take 12 to) own

-- whom it is for hears this one fact and no more, and others hear nothing
abbrev pub TellsOne : List ℕ → List ℕ → Fact → Type 0
TellsOne to bytes fact = (own : List ℕ) → Hears own bytes (record { facts = if is_addressed own to then fact ∷ [] else []; end = Whole })

-- what the DATA of a change is read as
abbrev pub sample_raw : Sample → Bool → Raw
sample_raw s keyed = record {
  hash = if keyed then Some s.key else None;
  status = status_of s.act;
  stamp = Some s.stamp;
  lifespan = s.lifespan;
  set = sent_set s.set;
  original = s.original;
  form = s.form;
  payload = s.payload;
}

-- what a marker is read as
abbrev pub marker_raw : Raw
marker_raw = record { hash = None; status = 0; stamp = None; lifespan = None; set = End; original = None; form = forms.Nothing; payload = [] }
