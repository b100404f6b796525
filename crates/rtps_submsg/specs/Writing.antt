-- The one text of a submessage that is written.
use Rattle.std.specs.Prelude.{◌≡◌, ℕ, ◌+◌, ◌-◌, ◌/◌, ◌^◌, ◌<◌, ◌≤◌, get_or, Bool, List, [], ◌∷◌, ◌++◌, length, take, Some, None, if◌then◌else◌}
use Rattle.std.specs.List.{flat_map}
use Rattle.std.specs.Int.{w16, w32}
use Rattle.dur_base.specs.NumberSets.{NumberSet, IsNormal}
use Rattle.dur_base.specs.declared.sample.Form.{Form}
use Rattle.dur_base.specs.declared.sample.Form.TheVariants as forms
use Rattle.dur_base.specs.Fields.{octets, sequence_octets}
use Rattle.rtps_params.specs.Writing.{list_text, IsWritable, IsWholeKey, IsWholeOriginal, IsMarkOfNumber}
use Rattle.rtps_submsg.specs.declared.sub.DataSub.{DataSub}
use Rattle.rtps_submsg.specs.declared.sub.Sub.{Sub}
use Rattle.rtps_submsg.specs.declared.sub.Sub.TheVariants.{Pad, InfoTs, InfoDst, InfoSrc, Data, Heartbeat, AckNack, Gap, Other}

-- base 8, numBits 4, and as many words as hold the bits
unfoldable pub set_text : Bool → NumberSet → List ℕ
set_text little set =
    (sequence_octets little set.base ++ octets little w32 set.count) ++ flat_map (λ word. octets little w32 word) (take ((set.count + 31) / 32) set.words)

-- extraFlags 0, octetsToInlineQos 16, readerId, writerId, writerSN, and a list, also an empty one
unfoldable pub data_text : Bool → DataSub → List ℕ
data_text little d =
    ((((octets little w16 0 ++ octets little w16 16) ++ d.reader) ++ d.writer) ++ sequence_octets little d.number) ++ list_text little d.inline

unfoldable pub heartbeat_text : Bool → List ℕ → List ℕ → ℕ → ℕ → ℕ → List ℕ
heartbeat_text little reader writer first last count =
    (((reader ++ writer) ++ sequence_octets little first) ++ sequence_octets little last) ++ octets little w32 count

unfoldable pub acknack_text : Bool → List ℕ → List ℕ → NumberSet → ℕ → List ℕ
acknack_text little reader writer set count = ((reader ++ writer) ++ set_text little set) ++ octets little w32 count

unfoldable pub gap_text : Bool → List ℕ → List ℕ → ℕ → NumberSet → List ℕ
gap_text little reader writer start set = ((reader ++ writer) ++ sequence_octets little start) ++ set_text little set

-- the fields; an INFO_SRC is of version 2.5 and vendor 0000
abbrev pub body_text : Bool → Sub → List ℕ
body_text little Pad = []
body_text little (InfoTs None) = []
body_text little (InfoTs (Some ticks)) = sequence_octets little ticks
body_text little (InfoDst prefix) = prefix
body_text little (InfoSrc prefix) = (0 ∷ 0 ∷ 0 ∷ 0 ∷ 2 ∷ 5 ∷ 0 ∷ 0 ∷ []) ++ prefix
body_text little (Data d) = data_text little d
body_text little (Heartbeat reader writer first last count is_final liveliness) = heartbeat_text little reader writer first last count
body_text little (AckNack reader writer set count is_final) = acknack_text little reader writer set count
body_text little (Gap reader writer start set) = gap_text little reader writer start set
body_text little (Other id) = []

abbrev pub payload_text : Sub → List ℕ
payload_text (Data d) = d.payload.now
payload_text _ = []

abbrev pub id_of : Sub → ℕ
id_of Pad = 0x01
id_of (InfoTs ticks) = 0x09
id_of (InfoDst prefix) = 0x0e
id_of (InfoSrc prefix) = 0x0c
id_of (Data d) = 0x15
id_of (Heartbeat reader writer first last count is_final liveliness) = 0x07
id_of (AckNack reader writer set count is_final) = 0x06
id_of (Gap reader writer start set) = 0x08
id_of (Other id) = id

abbrev pub flag : Bool → ℕ → ℕ
flag b n = if b then n else 0

abbrev pub form_flag : Form → ℕ
form_flag forms.Nothing = 0
form_flag forms.Data = 0x04
form_flag forms.KeyOnly = 0x08

abbrev pub own_flags : Sub → ℕ
own_flags Pad = 0
own_flags (InfoTs None) = 0x02
own_flags (InfoTs (Some ticks)) = 0
own_flags (InfoDst prefix) = 0
own_flags (InfoSrc prefix) = 0
own_flags (Data d) = 0x02 + form_flag d.form
own_flags (Heartbeat reader writer first last count is_final liveliness) = flag is_final 0x02 + flag liveliness 0x04
own_flags (AckNack reader writer set count is_final) = flag is_final 0x02
own_flags (Gap reader writer start set) = 0
own_flags (Other id) = 0

abbrev pub header_text : Bool → Sub → List ℕ
header_text little s = (id_of s ∷ (own_flags s + flag little 0x01) ∷ []) ++ octets little w16 (length (body_text little s) + length (payload_text s))

unfoldable pub sub_text : Bool → Sub → List ℕ
sub_text little s = header_text little s ++ (body_text little s ++ payload_text s)

-- ---- what can be written

-- every kind but Other has a text
abbrev pub IsKnown : Sub → Type 0
IsKnown (Other id) = ⊥
IsKnown _ = Unit {0}

-- and octetsToNextHeader can say the length of its body
pub record HasText (little : Bool) (s : Sub) : Type 0 where
  pub known : IsKnown s
  pub fits : length (body_text little s) + length (payload_text s) ≤ 65535

-- no octets where the form says that there are none
abbrev pub IsPayloadOf : Form → List ℕ → Type 0
IsPayloadOf forms.Nothing payload = payload ≡ []
IsPayloadOf forms.Data payload = Unit {0}
IsPayloadOf forms.KeyOnly payload = Unit {0}

pub record IsDataInRange (d : DataSub) : Type 0 where
  pub inline : IsWritable d.inline
  pub number : d.number ≤ 2 ^ 63 - 2
  pub payload : IsPayloadOf d.form d.payload.now

-- What reads again as itself: its fields lie in the ranges of the table.
abbrev pub IsInRange : Sub → Type 0
IsInRange (Data d) = IsDataInRange d
IsInRange (Heartbeat reader writer first last count is_final liveliness) = (last < 2 ^ 63) × (first ≤ last + 1)
IsInRange _ = Unit {0}

-- ---- what the types of the fields know

pub record IsNumberSet (set : NumberSet) : Type 0 where
  pub least : 1 ≤ set.base
  pub most : set.base < 2 ^ 63
  pub eight : length set.words ≡ 8
  pub words : (i : ℕ) → get_or set.words i 0 < 2 ^ 32
  pub normal : IsNormal set.count set.words

pub record IsEntities (reader writer : List ℕ) : Type 0 where
  pub of_reader : length reader ≡ 4
  pub of_writer : length writer ≡ 4

pub record IsDataTyped (d : DataSub) : Type 0 where
  pub entities : IsEntities d.reader d.writer
  pub number : 1 ≤ d.number
  pub key : IsWholeKey d.inline.hash
  pub original : IsWholeOriginal d.inline.original
  pub mark : IsMarkOfNumber d.inline.set

pub record IsHeartbeatTyped (reader writer : List ℕ) (first count : ℕ) : Type 0 where
  pub entities : IsEntities reader writer
  pub least : 1 ≤ first
  pub most : first < 2 ^ 63
  pub small : count < 2 ^ 32

pub record IsAckNackTyped (reader writer : List ℕ) (set : NumberSet) (count : ℕ) : Type 0 where
  pub entities : IsEntities reader writer
  pub numbers : IsNumberSet set
  pub small : count < 2 ^ 32

pub record IsGapTyped (reader writer : List ℕ) (start : ℕ) (set : NumberSet) : Type 0 where
  pub entities : IsEntities reader writer
  pub least : 1 ≤ start
  pub most : start < 2 ^ 63
  pub numbers : IsNumberSet set

abbrev pub IsTyped : Sub → Type 0
IsTyped Pad = Unit {0}
IsTyped (InfoTs None) = Unit {0}
IsTyped (InfoTs (Some ticks)) = ticks < 2 ^ 64
IsTyped (InfoDst prefix) = length prefix ≡ 12
IsTyped (InfoSrc prefix) = length prefix ≡ 12
IsTyped (Data d) = IsDataTyped d
IsTyped (Heartbeat reader writer first last count is_final liveliness) = IsHeartbeatTyped reader writer first count
IsTyped (AckNack reader writer set count is_final) = IsAckNackTyped reader writer set count
IsTyped (Gap reader writer start set) = IsGapTyped reader writer start set
IsTyped (Other id) = Unit {0}
