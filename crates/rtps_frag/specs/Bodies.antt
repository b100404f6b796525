-- The bodies of DATA_FRAG and HEARTBEAT_FRAG (DDSI-RTPS 8.3.8, 9.4.5): their fields in order, and where they break.
use Rattle.std.specs.Prelude.{◌≡◌, ◌⊎◌, ℕ, ◌+◌, ◌-◌, ◌*◌, ◌^◌, ◌<◌, ◌≤◌, Bool, true, List, length, take, drop, min, Result, Ok, Err, nat_lt, nat_le, ◌==◌, ◌&&◌, ◌||◌, not, if◌then◌else◌}
use Rattle.std.specs.Int.{w16, w32}
use Rattle.dur_base.specs.Fields.{number, sequence}
use Rattle.rtps_params.specs.declared.inline.Inline.{Inline}
use Rattle.rtps_params.specs.declared.parameter.ListKind.{ListKind}
use Rattle.rtps_params.specs.Lists.{ListBreaks}
use Rattle.rtps_submsg.specs.declared.sub.SubFault.{SubFault}
use Rattle.rtps_submsg.specs.declared.sub.SubKind.{SubKind}
use Rattle.rtps_submsg.specs.declared.sub.SubKind.TheVariants.{Cut, BadNumber, BadRange, BadOffset, List as InList}
use Rattle.rtps_submsg.specs.Rows.{has}
use Rattle.rtps_submsg.specs.Data.{InlineSpells}
use Rattle.rtps_message.proofs.Good.{IsInside}
use Rattle.rtps_frag.specs.declared.body.Head.{Head}
use Rattle.rtps_frag.specs.declared.body.FragBeat.{FragBeat}
use Rattle.rtps_frag.specs.declared.body.FragSub.{FragSub}

-- the octets of a field
abbrev pub part : ℕ → ℕ → List ℕ → List ℕ
part at width body = take width (drop at body)

-- what is wrong, at that place of the submessage
abbrev pub fault : {X : Type 0} → ℕ → SubKind → Result X SubFault
fault at kind = Err (record { at = at; kind = kind })

-- the number of a sample, from 1 to 2 ^ 63 - 2
abbrev pub is_sample_number : ℕ → Bool
is_sample_number n = nat_le 1 n && nat_le n (2 ^ 63 - 2)

-- 16 DATA_FRAG: extraFlags u16, octetsToInlineQos u16, readerId 4, writerId 4, writerSN 8, fragmentStartingNum
-- u32, fragmentsInSubmessage u16, fragmentSize u16, sampleSize u32
abbrev pub head_of : Bool → List ℕ → Head
head_of little body = record {
  offset = number little w16 (part 2 2 body);
  reader = part 4 4 body;
  writer = part 8 4 body;
  number = sequence little (part 12 8 body);
  first = number little w32 (part 20 4 body);
  count = number little w16 (part 24 2 body);
  width = number little w16 (part 26 2 body);
  size = number little w32 (part 28 4 body);
}

-- the last fragment of these begins past the sample's end
abbrev pub is_past : Head → Bool
is_past h = nat_le h.size ((h.first + h.count - 2) * h.width)

-- The fields are tested in their order. octetsToInlineQos counts from the octet after it, is at least 28 and
-- does not point past the body; so the fields behind it fit.
abbrev pub tested : ℕ → Head → Result Head SubFault
tested left h =
    if nat_lt h.offset 28 || nat_lt left h.offset then fault 6 BadOffset
    else if not (is_sample_number h.number) then fault 16 BadNumber
    else if h.first == 0 then fault 24 BadRange
    else if h.count == 0 then fault 28 BadRange
    else if h.width == 0 then fault 30 BadRange
    else if h.size == 0 || is_past h then fault 32 BadRange
    else Ok h

unfoldable pub head_at : Bool → List ℕ → Result Head SubFault
head_at little body =
    if nat_lt (length body) 2 then fault 4 Cut
    else if nat_lt (length body) 4 then fault 6 Cut
    else tested (length body - 4) (head_of little body)

-- 13 HEARTBEAT_FRAG: readerId 4, writerId 4, writerSN 8, lastFragmentNum u32, count 4
abbrev pub beat_of : Bool → List ℕ → FragBeat
beat_of little body = record {
  writer = part 4 4 body;
  number = sequence little (part 8 8 body);
  last = number little w32 (part 16 4 body);
}

unfoldable pub beat_at : Bool → List ℕ → Result FragBeat SubFault
beat_at little body =
    if nat_lt (length body) 4 then fault 4 Cut
    else if nat_lt (length body) 8 then fault 8 Cut
    else if nat_lt (length body) 16 then fault 12 Cut
    else if not (is_sample_number (sequence little (part 8 8 body))) then fault 12 BadNumber
    else if nat_lt (length body) 20 then fault 20 Cut
    else if number little w32 (part 16 4 body) == 0 then fault 20 BadRange
    else if nat_lt (length body) 24 then fault 24 Cut
    else Ok (beat_of little body)

-- how many octets the fragments have: fragmentSize each, and the sample's last one what is left of sampleSize
abbrev pub octets_of : Head → ℕ
octets_of h = min (h.count * h.width) (h.size - (h.first - 1) * h.width)

-- what is known of a good head
pub record IsGoodHead (h : Head) : Type 0 where
  pub first : 0 < h.first
  pub count : 0 < h.count
  pub width : 0 < h.width
  pub last : (h.first + h.count - 2) * h.width < h.size

-- what a DATA_FRAG brings
pub record Fragments : Type 0 where
  pub head : Head
  pub is_key : Bool
  pub inline : Inline
  pub octets : List ℕ

abbrev pub brings : FragSub → Fragments
brings f = record { head = f.head; is_key = f.is_key; inline = f.inline; octets = f.octets.now }

-- its fragments lie within the sample, and its inline QoS in the ranges of one
pub record Fits (f : Fragments) : Type 0 where
  pub head : IsGoodHead f.head
  pub inside : IsInside f.inline
  pub octets : length f.octets ≤ f.head.size - (f.head.first - 1) * f.head.width

-- the octets from the place on that octetsToInlineQos names
abbrev pub behind : Head → List ℕ → List ℕ
behind h body = drop (4 + h.offset) body

-- a good head, the inline QoS where Q 02, and the fragments; octets after them are not looked at
pub record FragmentsSpell (flags : ℕ) (body : List ℕ) (f : Fragments) : Type 0 where
  pub rest : List ℕ
  pub head : head_at (has flags 0x01) body ≡ Ok f.head
  pub inline : InlineSpells (has flags 0x02) (has flags 0x01) (behind f.head body) f.inline rest
  pub fits : octets_of f.head ≤ length rest
  pub octets : f.octets ≡ take (octets_of f.head) rest
  pub key : f.is_key ≡ has flags 0x04

-- the inline QoS has a fault
pub record IsListBroken (flags : ℕ) (body : List ℕ) (at : ℕ) (kind : SubKind) : Type 0 where
  pub head : Head
  pub spelt : head_at (has flags 0x01) body ≡ Ok head
  pub listed : has flags 0x02 ≡ true
  pub place : ℕ
  pub list : ListKind
  pub breaks : ListBreaks (behind head body) (has flags 0x01) place list
  pub at_is : at ≡ 8 + head.offset + place
  pub kind_is : kind ≡ InList list

-- the fragments do not fit
pub record IsShort (flags : ℕ) (body : List ℕ) (at : ℕ) (kind : SubKind) : Type 0 where
  pub head : Head
  pub spelt : head_at (has flags 0x01) body ≡ Ok head
  pub inline : Inline
  pub rest : List ℕ
  pub listed : InlineSpells (has flags 0x02) (has flags 0x01) (behind head body) inline rest
  pub short : length rest < octets_of head
  pub at_is : at ≡ 4 + (length body - length rest)
  pub kind_is : kind ≡ Cut

-- The first break of a DATA_FRAG.
abbrev pub FragmentsBreak : ℕ → List ℕ → ℕ → SubKind → Type 0
FragmentsBreak flags body at kind =
    (head_at (has flags 0x01) body ≡ Err (record { at = at; kind = kind }))
    ⊎ IsListBroken flags body at kind
    ⊎ IsShort flags body at kind
