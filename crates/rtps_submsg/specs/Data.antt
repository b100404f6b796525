-- DATA (DDSI-RTPS 9.4.5.3): its head, its inline QoS and its payload.
use Rattle.std.specs.Prelude.{◌≡◌, ◌⊎◌, ℕ, ◌-◌, ◌^◌, Bool, true, false, List, [], length, drop, nat_le, ◌&&◌, if◌then◌else◌}
use Rattle.std.specs.Int.{w16}
use Rattle.dur_base.specs.declared.sample.Form.{Form}
use Rattle.dur_base.specs.declared.sample.Form.TheVariants.{Nothing, Data, KeyOnly}
use Rattle.dur_base.specs.Fields.{number, sequence}
use Rattle.rtps_params.specs.declared.inline.Inline.{Inline}
use Rattle.rtps_params.specs.declared.parameter.ListKind.{ListKind}
use Rattle.rtps_params.specs.Lists.{ListSpells, ListBreaks}
use Rattle.rtps_params.specs.Meaning.{inline_of}
use Rattle.rtps_submsg.specs.declared.field.Broken.{Broken}
use Rattle.rtps_submsg.specs.declared.sub.DataSub.{DataSub}
use Rattle.rtps_submsg.specs.declared.sub.SubKind.TheVariants.{BadOffset, BadNumber, List as InList}
use Rattle.rtps_submsg.specs.Grammar.{Rule, Row, ends, field, any, only_if, Spells, Breaks}
use Rattle.rtps_submsg.specs.Rows.{has, is_number}

-- the head, and the octets from the place that octetsToInlineQos names
pub record Head : Type 0 where
  pub reader : List ℕ
  pub writer : List ℕ
  pub number : ℕ
  pub behind : List ℕ

-- a number of a sample, from 1 to 2 ^ 63 - 2
abbrev pub sample_rule : Bool → Rule
sample_rule little text rest = only_if (is_number (sequence little text) && nat_le (sequence little text) (2 ^ 63 - 2)) BadNumber

-- octetsToInlineQos counts from the octet after it; it is at least 16 and does not point past the body
abbrev pub offset_rule : Bool → Rule
offset_rule little text rest = only_if (nat_le 16 (number little w16 text) && nat_le (number little w16 text) (length rest)) BadOffset

-- 15 DATA: extraFlags u16, octetsToInlineQos u16, readerId 4, writerId 4, writerSN 8
abbrev pub head_row : Bool → List ℕ → Row Head
head_row little body =
    field 2 any (λ extra.
    field 2 (offset_rule little) (λ offset.
    field 4 any (λ reader.
    field 4 any (λ writer.
    field 8 (sample_rule little) (λ number_text.
    ends (record { reader = reader; writer = writer; number = sequence little number_text; behind = drop (number little w16 offset) (drop 4 body) }))))))

-- the inline QoS where Q 02
abbrev pub InlineSpells : Bool → Bool → List ℕ → Inline → List ℕ → Type 0
InlineSpells true little behind inline rest = (n : ℕ) × ListSpells behind little inline n × (rest ≡ drop n behind)
InlineSpells false little behind inline rest = (inline ≡ inline_of []) × (rest ≡ behind)

abbrev pub InlineBreaks : Bool → Bool → List ℕ → Broken → Type 0
InlineBreaks true little behind e = (at : ℕ) × (kind : ListKind) × ListBreaks behind little at kind × (e ≡ record { left = length behind - at; kind = InList kind })
InlineBreaks false little behind e = ⊥

-- a payload where D 04 or K 08
abbrev pub form_of : ℕ → Form
form_of flags = if has flags 0x04 then Data else if has flags 0x08 then KeyOnly else Nothing

abbrev pub payload_of : Form → List ℕ → List ℕ
payload_of Nothing rest = []
payload_of Data rest = rest
payload_of KeyOnly rest = rest

pub record DataSpells (little : Bool) (flags : ℕ) (body : List ℕ) (d : DataSub) : Type 0 where
  pub behind : List ℕ
  pub rest : List ℕ
  pub head : Spells (head_row little body) body (record { reader = d.reader; writer = d.writer; number = d.number; behind = behind })
  pub inline : InlineSpells (has flags 0x02) little behind d.inline rest
  pub form : d.form ≡ form_of flags
  pub payload : d.payload.now ≡ payload_of (form_of flags) rest

pub record ListBreaksIn (little : Bool) (flags : ℕ) (body : List ℕ) (e : Broken) : Type 0 where
  pub head : Head
  pub spelt : Spells (head_row little body) body head
  pub breaks : InlineBreaks (has flags 0x02) little head.behind e

abbrev pub DataBreaks : Bool → ℕ → List ℕ → Broken → Type 0
DataBreaks little flags body e = Breaks (head_row little body) body e ⊎ ListBreaksIn little flags body e
