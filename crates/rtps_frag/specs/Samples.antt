-- One open sample: what came of it since it was opened.
use Rattle.std.specs.Prelude.{◌≡◌, ℕ, zero, suc, ◌+◌, ◌-◌, ◌*◌, ◌/◌, ◌≤◌, Bool, true, false, List, [], ◌∷◌, length, take, drop, get_or, set, replicate, Option, None, is_none, ◌==◌, ◌&&◌, not, if◌then◌else◌}
use Rattle.std.specs.List.{list_all}
use Rattle.std.specs.Str.{bytes_eq}
use Rattle.dur_base.specs.declared.fact.Fact.{Fact}
use Rattle.dur_base.specs.declared.fact.Fact.TheVariants as facts
use Rattle.dur_base.specs.declared.sample.Form.{Form}
use Rattle.dur_base.specs.declared.sample.Form.TheVariants.{Data, KeyOnly}
use Rattle.rtps_params.specs.declared.inline.Inline.{Inline}
use Rattle.rtps_params.specs.Meaning.{inline_of}
use Rattle.rtps_message.proofs.Good.{IsInside}
use Rattle.rtps_frag.specs.Bodies.{Fragments}
use lib.Seq.{paste}

-- An open sample: who wrote it, as which number and for whom; what the submessage said that opened it; the
-- inline QoS and the time of the one that brought fragment 1; which fragments came, and the octets of those.
pub record Opened : Type 0 where
  pub writer : List ℕ
  pub number : ℕ
  pub reader : List ℕ
  pub size : ℕ
  pub width : ℕ
  pub is_key : Bool
  pub inline : Inline
  pub time : Option ℕ
  pub came : List Bool
  pub octets : List ℕ

-- how many of the fragments did not come
abbrev pub missing_in : List Bool → ℕ
missing_in [] = 0
missing_in (true ∷ later) = missing_in later
missing_in (false ∷ later) = missing_in later + 1

-- What a place of an open sample knows: it has sampleSize octets, at most 65,344; it counts the fragments that did
-- not come; and its inline QoS lies in the ranges of a sample.
pub record IsOpened (size missing : ℕ) (inline : Inline) (came : List Bool) (octets : List ℕ) : Type 0 where
  pub octets_are : length octets ≡ size
  pub short : size ≤ 65344
  pub counted : missing ≡ missing_in came
  pub inside : IsInside inline

-- that sample
abbrev pub is_sample : List ℕ → ℕ → Opened → Bool
is_sample writer number o = o.number == number && bytes_eq o.writer writer

-- how many fragments a sample of that size has
abbrev pub fragments_in : ℕ → ℕ → ℕ
fragments_in size width = (size - 1) / width + 1

-- a sample is opened, and nothing of it came
unfoldable pub opening : List ℕ → Fragments → Opened
opening writer f = record {
  writer = writer;
  number = f.head.number;
  reader = f.head.reader;
  size = f.head.size;
  width = f.head.width;
  is_key = f.is_key;
  inline = inline_of [];
  time = None;
  came = replicate (fragments_in f.head.size f.head.width) false;
  octets = replicate f.head.size 0;
}

-- it is of this sample's sampleSize, fragmentSize, readerId and K
abbrev pub is_alike : Opened → Fragments → Bool
is_alike o f = (o.size == f.head.size && o.width == f.head.width) && (bytes_eq o.reader f.head.reader && same o.is_key f.is_key) where
  same : Bool → Bool → Bool
  same true b = b
  same false b = not b

-- of the fragment at place k (that of number k + 1) the first arrival counts
abbrev pub with_one : ℕ → List ℕ → Opened → Opened
with_one k text o = if get_or o.came k true then o else record o { came = set o.came k true; octets = paste o.octets (k * o.width) text (length text) }

-- n fragments from place k on, whose octets follow one another
abbrev pub with_some : ℕ → ℕ → List ℕ → Opened → Opened
with_some k zero text o = o
with_some k (suc n) text o = with_some (k + 1) n (drop o.width text) (with_one k (take o.width text) o)

-- the inline QoS and the time are those of the submessage that brought fragment 1
abbrev pub with_list : Option ℕ → Fragments → Opened → Opened
with_list time f o = if f.head.first == 1 && not (get_or o.came 0 true) then record o { inline = f.inline; time = time } else o

-- what a DATA_FRAG brings to its sample
unfoldable pub with_fragments : Option ℕ → Fragments → Opened → Opened
with_fragments time f o = with_some (f.head.first - 1) f.head.count f.octets (with_list time f o)

-- all its fragments came
abbrev pub is_whole : Opened → Bool
is_whole o = list_all (λ b. b) o.came

abbrev pub form_of : Bool → Form
form_of is_key = if is_key then KeyOnly else Data

-- what a whole sample tells: what a DATA of its parts would
unfoldable pub joined : Opened → Fact
joined o = if is_none o.inline.strange then facts.Data o.writer o.reader o.number (record {
  hash = o.inline.hash;
  status = o.inline.status;
  stamp = o.time;
  lifespan = o.inline.lifespan;
  set = o.inline.set;
  original = o.inline.original;
  form = form_of o.is_key;
  payload = o.octets;
}) else facts.Unreadable o.writer o.reader o.number
