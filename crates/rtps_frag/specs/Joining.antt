-- What a participant hears in a list of datagrams, where samples come in fragments.
use Rattle.std.specs.Prelude.{◌≡◌, ◌⊎◌, ℕ, ◌+◌, ◌-◌, ◌<◌, ◌≤◌, Bool, true, false, List, [], ◌∷◌, ◌++◌, length, map, take, drop, get_or, set, Option, Some, None, Ok, Err, nat_lt, nat_le, ◌==◌, ◌&&◌, not, slice_index, if◌then◌else◌}
use Rattle.std.specs.Option.{option_to_list}
use Rattle.std.specs.List.{remove, list_all}
use Rattle.dur_base.specs.declared.fact.Fact.{Fact}
use Rattle.dur_base.specs.declared.fact.Fact.TheVariants as facts
use Rattle.rtps_submsg.specs.declared.sub.Sub.{Sub}
use Rattle.rtps_submsg.specs.declared.sub.Sub.TheVariants.{Other}
use Rattle.rtps_submsg.specs.declared.sub.SubKind.{SubKind}
use Rattle.rtps_submsg.specs.Rows.{has}
use Rattle.rtps_submsg.specs.Subs.{SubSpells, SubBreaks}
use Rattle.rtps_message.specs.declared.context.Context.{Context}
use Rattle.rtps_message.specs.declared.heard.End.{End}
use Rattle.rtps_message.specs.declared.heard.End.TheVariants.{Whole, BadHeader, Stopped}
use Rattle.rtps_message.specs.Facts.{is_for, start, after, told}
use Rattle.rtps_message.specs.declared.heard.Heard.{Heard}
use Rattle.rtps_message.specs.Messages.{HasHeader, Hears}
use Rattle.rtps_message.specs.Messages as message
use Rattle.rtps_frag.specs.declared.asks.FragAsk.{FragAsk}
use Rattle.rtps_frag.specs.declared.body.FragBeat.{FragBeat}
use Rattle.rtps_frag.specs.declared.joiner.Joined.{Joined}
use Rattle.rtps_frag.specs.Bodies.{Fragments, FragmentsSpell, FragmentsBreak, beat_at}
use Rattle.rtps_frag.specs.Samples.{Opened, opening, is_sample, is_alike, with_fragments, is_whole, joined}
use Rattle.rtps_frag.specs.Asking.{asked}

-- ---- a submessage

-- one with fragments, one that says which fragments there are, or any other
pub data Item : Type 0 where
  plain : Sub → Item
  pieces : Fragments → Item
  beat : FragBeat → Item

-- the flags of a submessage, and its body
abbrev pub flags_of : List ℕ → ℕ
flags_of bytes = slice_index bytes 1

abbrev pub body_of : List ℕ → ℕ → List ℕ
body_of bytes n = drop 4 (take n bytes)

-- a submessage of an id that the table of the others does not have
abbrev pub is_other : ℕ → Sub → Bool
is_other id (Other x) = x == id
is_other id _ = false

-- it has to do with no fragments
abbrev pub is_plain : Sub → Bool
is_plain s = not (is_other 0x16 s) && not (is_other 0x13 s)

-- The first n octets spell it. 16 is a DATA_FRAG and 13 a HEARTBEAT_FRAG.
abbrev pub ItemSpells : List ℕ → Item → ℕ → Type 0
ItemSpells bytes (plain s) n = SubSpells bytes s n × (is_plain s ≡ true)
ItemSpells bytes (pieces f) n = SubSpells bytes (Other 0x16) n × FragmentsSpell (flags_of bytes) (body_of bytes n) f
ItemSpells bytes (beat b) n = SubSpells bytes (Other 0x13) n × (beat_at (has (flags_of bytes) 0x01) (body_of bytes n) ≡ Ok b)

pub record PiecesBreak (bytes : List ℕ) (at : ℕ) (kind : SubKind) : Type 0 where
  pub n : ℕ
  pub framed : SubSpells bytes (Other 0x16) n
  pub breaks : FragmentsBreak (flags_of bytes) (body_of bytes n) at kind

pub record BeatBreaks (bytes : List ℕ) (at : ℕ) (kind : SubKind) : Type 0 where
  pub n : ℕ
  pub framed : SubSpells bytes (Other 0x13) n
  pub breaks : beat_at (has (flags_of bytes) 0x01) (body_of bytes n) ≡ Err (record { at = at; kind = kind })

abbrev pub ItemBreaks : List ℕ → ℕ → SubKind → Type 0
ItemBreaks bytes at kind = SubBreaks bytes at kind ⊎ PiecesBreak bytes at kind ⊎ BeatBreaks bytes at kind

-- ---- what it does and tells

-- the open samples in the order of their opening, and what is told
pub record After : Type 0 where
  pub samples : List Opened
  pub fact : Option Fact

-- the place of a sample among open ones, of which the first one has place k
abbrev pub place_from : ℕ → List ℕ → ℕ → List Opened → Option ℕ
place_from k writer number [] = None
place_from k writer number (o ∷ os) = if is_sample writer number o then Some k else place_from (k + 1) writer number os

-- At most 64 are open: the one that was opened first is given up.
abbrev pub with_room : List Opened → List Opened
with_room os = if nat_le 64 (length os) then drop 1 os else os

-- a sample that is whole is closed and told, one that is not stays open
abbrev pub settled : Opened → List Opened → List Opened → After
settled o without with_it = if is_whole o then record { samples = without; fact = Some (joined o) } else record { samples = with_it; fact = None }

-- fragments of the sample at a place; those that differ from it are not looked at
abbrev pub again : Option ℕ → Fragments → Opened → ℕ → List Opened → After
again time f o i os = if is_alike o f then settled (with_fragments time f o) (remove os i) (set os i (with_fragments time f o)) else record { samples = os; fact = None }

-- Fragments of a sample that is not open open it, unless it is too long to be read.
abbrev pub anew : List ℕ → Option ℕ → Fragments → List Opened → After
anew writer time f os =
    if nat_lt 65344 f.head.size then record { samples = os; fact = Some (facts.Unreadable writer f.head.reader f.head.number) }
    else settled (with_fragments time f (opening writer f)) (with_room os) (with_room os ++ with_fragments time f (opening writer f) ∷ [])

abbrev pub at_place : List ℕ → Option ℕ → Fragments → List Opened → Option ℕ → After
at_place writer time f os None = anew writer time f os
at_place writer time f os (Some i) = again time f (get_or os i (opening writer f)) i os

-- what a DATA_FRAG of that writer does and tells
unfoldable pub with_pieces : List ℕ → Option ℕ → Fragments → List Opened → After
with_pieces writer time f os = at_place writer time f os (place_from 0 writer f.head.number os)

-- which fragments of an open sample a HEARTBEAT_FRAG asks for
abbrev pub asked_at : List ℕ → FragBeat → List Opened → Option ℕ → Option FragAsk
asked_at writer b os None = None
asked_at writer b os (Some i) = asked writer b.number (get_or (map (λ o. o.came) os) i []) b.last

unfoldable pub asked_in : List ℕ → FragBeat → List Opened → Option FragAsk
asked_in writer b os = asked_at writer b os (place_from 0 writer b.number os)

-- what stands between two submessages
pub record Standing : Type 0 where
  pub context : Context
  pub samples : List Opened

pub record Step : Type 0 where
  pub next : Standing
  pub fact : Option Fact
  pub ask : Option FragAsk

-- what is not for this participant does nothing and tells nothing
abbrev pub nothing : Standing → Step
nothing s = record { next = s; fact = None; ask = None }

abbrev pub opened_by : Standing → After → Step
opened_by s a = record { next = record s { samples = a.samples }; fact = a.fact; ask = None }

abbrev pub step : List ℕ → Standing → Item → Step
step own s (plain p) = record { next = record s { context = after s.context p }; fact = told own s.context p; ask = None }
step own s (pieces f) = if is_for own s.context then opened_by s (with_pieces (s.context.source ++ f.head.writer) s.context.time f s.samples) else nothing s
step own s (beat b) = if is_for own s.context then record { next = s; fact = None; ask = asked_in (s.context.source ++ b.writer) b s.samples } else nothing s

-- the first n octets are a submessage that does this and tells this
pub record Goes (own bytes : List ℕ) (old new : Standing) (n : ℕ) (fact : Option Fact) (ask : Option FragAsk) : Type 0 where
  pub item : Item
  pub spells : ItemSpells bytes item n
  pub within : n ≤ length bytes
  pub does : step own old item ≡ record { next = new; fact = fact; ask = ask }

-- ---- a message

-- the octets are these submessages, one after the other, and then a rest
abbrev pub Splits : List ℕ → List Item → List ℕ → Type 0
Splits bytes [] rest = bytes ≡ rest
Splits bytes (i ∷ is) rest = (n : ℕ) × ItemSpells bytes i n × Splits (drop n bytes) is rest

-- a faulty submessage begins the rest; its place counts from the message's first octet
pub record StopsAt (bytes rest : List ℕ) (at : ℕ) (kind : SubKind) : Type 0 where
  pub more : 0 < length rest
  pub place : ℕ
  pub breaks : ItemBreaks rest place kind
  pub at_is : at ≡ (length bytes - length rest) + place

abbrev pub Ends : List ℕ → List ℕ → End → Type 0
Ends bytes rest Whole = rest ≡ []
Ends bytes rest BadHeader = ⊥
Ends bytes rest (Stopped at kind) = StopsAt bytes rest at kind

-- what stands behind submessages, and what they tell and ask in their order
pub record Told : Type 0 where
  pub last : Standing
  pub facts : List Fact
  pub asks : List FragAsk

abbrev pub and_then : Step → Told → Told
and_then x t = record { last = t.last; facts = option_to_list x.fact ++ t.facts; asks = option_to_list x.ask ++ t.asks }

abbrev pub told_of : List ℕ → Standing → List Item → Told
told_of own s [] = record { last = s; facts = []; asks = [] }
told_of own s (i ∷ is) = and_then (step own s i) (told_of own (step own s i).next is)

-- The submessages behind the header tell the facts and the asks, and leave the open samples.
pub record Says (own bytes : List ℕ) (s : Standing) (heard : Joined) (samples : List Opened) : Type 0 where
  pub items : List Item
  pub rest : List ℕ
  pub splits : Splits (drop 20 bytes) items rest
  pub ends : Ends bytes rest heard.end
  pub facts : heard.facts ≡ (told_of own s items).facts
  pub asks : heard.asks ≡ (told_of own s items).asks
  pub leaves : samples ≡ (told_of own s items).last.samples

-- A datagram that comes while these samples are open, and those that are open behind it. Without a good header
-- it tells nothing and opens nothing.
abbrev pub Joins : List ℕ → List ℕ → List Opened → Joined → List Opened → Type 0
Joins own bytes samples heard left =
    (HasHeader bytes × Says own bytes (record { context = start bytes; samples = samples }) heard left)
    ⊎ ((HasHeader bytes → ⊥) × (heard ≡ record { facts = []; end = BadHeader; asks = [] }) × (left ≡ samples))

-- ---- without fragments

-- no submessage of a message is a DATA_FRAG or a HEARTBEAT_FRAG
abbrev pub HasNoFragments : List ℕ → Type 0
HasNoFragments bytes = (subs : List Sub) (rest : List ℕ) → message.Splits (drop 20 bytes) subs rest → list_all is_plain subs ≡ true

-- a message without fragments is heard as ever, and leaves the open samples
abbrev pub IsAsEver : List ℕ → List ℕ → List Opened → Joined → List Opened → Type 0
IsAsEver own bytes samples heard left = (h : Heard) → Hears own bytes h → HasNoFragments bytes → (heard ≡ record { facts = h.facts; end = h.end; asks = [] }) × (left ≡ samples)

-- nothing else is heard, and nothing else is left
abbrev pub IsAll : List ℕ → List ℕ → List Opened → Joined → List Opened → Type 0
IsAll own bytes samples heard left = (other : Joined) (after : List Opened) → Joins own bytes samples other after → (heard ≡ other) × (left ≡ after)
