-- What the submessages of a message tell, one after the other.
use Rattle.std.specs.Prelude.{◌≡◌, ◌≤◌, ◌-◌, slice_range, ℕ, ◌&&◌, ◌||◌, Bool, List, [], ◌∷◌, ◌++◌, length, take, drop, nat_le, is_none, Option, Some, None, if◌then◌else◌}
use Rattle.std.specs.Option.{option_to_list}
use Rattle.std.specs.Str.{bytes_eq}
use Rattle.std.specs.List.{AllByRecursion}
use Rattle.dur_base.specs.Goodness.{IsGoodRaw}
use Rattle.dur_base.specs.declared.fact.Fact.{Fact}
use Rattle.dur_base.specs.declared.fact.Fact.TheVariants as facts
use Rattle.dur_base.specs.declared.sample.Raw.{Raw}
use Rattle.rtps_submsg.specs.declared.sub.DataSub.{DataSub}
use Rattle.rtps_submsg.specs.declared.sub.Sub.{Sub}
use Rattle.rtps_submsg.specs.declared.sub.Sub.TheVariants.{InfoTs, InfoDst, InfoSrc, Data, Heartbeat, AckNack, Gap}
use Rattle.rtps_message.specs.declared.context.Context.{Context}

-- ---- whom a submessage is from and for, and when

-- the destination that is everybody
abbrev pub everybody : List ℕ
everybody = 0 ∷ 0 ∷ 0 ∷ 0 ∷ 0 ∷ 0 ∷ 0 ∷ 0 ∷ 0 ∷ 0 ∷ 0 ∷ 0 ∷ []

-- the destination is everybody or the own prefix
abbrev pub is_for : List ℕ → Context → Bool
is_for own c = bytes_eq c.destination everybody || bytes_eq c.destination own

-- The source is the header's prefix until an INFO_SRC, the destination everybody until an INFO_DST, and
-- the time none until an INFO_TS.
abbrev pub start : List ℕ → Context
start bytes = record { source = take 12 (drop 8 bytes); destination = everybody; time = None }

-- An INFO_TS sets the time, or makes it none; so does an INFO_SRC, which sets the source. An INFO_DST
-- sets the destination, and twelve zeros make it everybody again.
abbrev pub after : Context → Sub → Context
after c (InfoTs time) = record c { time = time }
after c (InfoDst prefix) = record c { destination = prefix }
after c (InfoSrc prefix) = record c { source = prefix; time = None }
after c _ = c

-- ---- what it tells

-- a DATA has no strange parameter, and a payload of at most 65,344 octets
abbrev pub is_readable : DataSub → Bool
is_readable d = is_none d.inline.strange && nat_le (length d.payload.now) 65344

-- its sample, of the time that stands
abbrev pub raw_of : Context → DataSub → Raw
raw_of c d = record {
  hash = d.inline.hash;
  status = d.inline.status;
  stamp = c.time;
  lifespan = d.inline.lifespan;
  set = d.inline.set;
  original = d.inline.original;
  form = d.form;
  payload = d.payload.now;
}

abbrev pub data_fact : Context → DataSub → Fact
data_fact c d = if is_readable d then facts.Data (c.source ++ d.writer) d.reader d.number (raw_of c d) else facts.Unreadable (c.source ++ d.writer) d.reader d.number

-- A writer is the source prefix with the writerId, and the reader of an ACKNACK the source prefix with
-- the readerId.
abbrev pub fact_of : Context → Sub → Option Fact
fact_of c (Data d) = Some (data_fact c d)
fact_of c (Heartbeat reader writer first last count is_final liveliness) = Some (facts.Beat (c.source ++ writer) reader first last is_final)
fact_of c (Gap reader writer first set) = Some (facts.Gap (c.source ++ writer) reader first set)
fact_of c (AckNack reader writer set count is_final) = Some (facts.Nack (c.source ++ reader) writer set is_final)
fact_of c _ = None

-- only what is for everybody or for the own prefix is told
abbrev pub told : List ℕ → Context → Sub → Option Fact
told own c s = if is_for own c then fact_of c s else None

-- what these submessages tell, in their order
abbrev pub told_of : List ℕ → Context → List Sub → List Fact
told_of own c [] = []
told_of own c (s ∷ subs) = option_to_list (told own c s) ++ told_of own (after c s) subs

-- ---- what is told is good

abbrev pub IsGoodFact : Fact → Type 0
IsGoodFact (facts.Data writer reader number raw) = IsGoodRaw raw
IsGoodFact _ = Unit {0}

abbrev pub AreGood : List Fact → Type 0
AreGood fs = AllByRecursion IsGoodFact fs

-- ---- where a payload lies

-- these octets of a datagram end before a place
pub record IsPartBefore (datagram : List ℕ) (end : ℕ) (payload : List ℕ) : Type 0 where
  pub whole : length payload ≤ end
  pub within : end ≤ length datagram
  pub part : payload ≡ slice_range datagram (end - length payload) end
