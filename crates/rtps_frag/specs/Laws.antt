-- What holds of open samples, and of what is asked for.
use Rattle.std.specs.Prelude.{◌≡◌, ◌⊎◌, ◌↔◌, ℕ, ◌+◌, ◌-◌, ◌<◌, ◌≤◌, true, List, [], ◌∷◌, ◌++◌, length, Bool, Option}
use Rattle.rtps_submsg.specs.declared.sub.DataSub.{DataSub}
use Rattle.rtps_message.specs.declared.context.Context.{Context}
use Rattle.rtps_message.specs.Facts.{data_fact}
use Rattle.dur_base.specs.NumberSets.{has_bit}
use Rattle.rtps_frag.specs.Asking.{words_where}
use Rattle.rtps_frag.specs.Bodies.{Fragments}
use Rattle.rtps_frag.specs.Samples.{Opened, fragments_in, opening, with_fragments, is_whole, form_of, joined}

-- a DATA_FRAG brings the fragment at that place, whose number is one more
pub record Brings (f : Fragments) (k : ℕ) : Type 0 where
  pub from : f.head.first - 1 ≤ k
  pub below : k < f.head.first - 1 + f.head.count

-- one of these does
abbrev pub AnyBrings : List (Option ℕ × Fragments) → ℕ → Type 0
AnyBrings [] k = ⊥
AnyBrings (x ∷ xs) k = Brings x.1 k ⊎ AnyBrings xs k

-- an open sample behind DATA_FRAGs of it, each with the time that stood
abbrev pub behind_all : List (Option ℕ × Fragments) → Opened → Opened
behind_all [] o = o
behind_all (x ∷ xs) o = behind_all xs (with_fragments x.0 x.1 o)

-- In whatever order they came and however often: it is whole exactly where each of its fragments came.
abbrev pub WholeWhereAllCame : Type 0
WholeWhereAllCame = (writer : List ℕ) (f : Fragments) (xs : List (Option ℕ × Fragments)) → (is_whole (behind_all xs (opening writer f)) ≡ true) ↔ ((k : ℕ) → k < fragments_in f.head.size f.head.width → AnyBrings xs k)

-- a DATA and what stands before it have the parts of a sample
pub record HasParts (c : Context) (d : DataSub) (o : Opened) : Type 0 where
  pub writer : c.source ++ d.writer ≡ o.writer
  pub reader : d.reader ≡ o.reader
  pub number : d.number ≡ o.number
  pub time : c.time ≡ o.time
  pub inline : d.inline ≡ o.inline
  pub form : d.form ≡ form_of o.is_key
  pub payload : d.payload.now ≡ o.octets
  pub short : length o.octets ≤ 65344

-- the sample tells what the DATA does
abbrev pub ToldAsData : Type 0
ToldAsData = (c : Context) (d : DataSub) (o : Opened) → HasParts c d o → joined o ≡ data_fact c d

-- Bit d of the words, which is the mask 1 << (31 - d % 32) of word d / 32, is the test of place k + d.
abbrev pub BitsInPlace : Type 0
BitsInPlace = (test : ℕ → Bool) (k d : ℕ) → d < 256 → has_bit (words_where test k) d ≡ test (k + d)
