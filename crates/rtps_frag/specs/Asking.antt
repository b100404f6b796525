-- Which fragments are asked for, and the message that asks for them.
use Rattle.std.specs.Prelude.{ℕ, zero, suc, ◌+◌, ◌*◌, ◌/◌, Bool, true, false, List, [], ◌∷◌, ◌++◌, get_or, take, drop, Option, Some, None, nat_lt, ◌&&◌, not, if◌then◌else◌}
use Rattle.std.specs.List.{flat_map}
use Rattle.std.specs.Int.{w16, w32}
use Rattle.dur_base.specs.Fields.{octets, sequence_octets}
use Rattle.dur_base.specs.NumberSets.{width_of}
use Rattle.rtps_message.specs.Written.{message}
use Rattle.rtps_submsg.specs.declared.sub.Sub.TheVariants.{InfoDst}
use Rattle.rtps_frag.specs.declared.asks.FragAsk.{FragAsk}

-- the place of the first fragment that did not come, where the first of these has place k
abbrev pub first_from : ℕ → List Bool → Option ℕ
first_from k [] = None
first_from k (true ∷ later) = first_from (k + 1) later
first_from k (false ∷ later) = Some k

-- n tests from place k on as a number, the first one as its highest digit
abbrev pub digits : (ℕ → Bool) → ℕ → ℕ → ℕ
digits test k zero = 0
digits test k (suc n) = digits test k n * 2 + (if test (k + n) then 1 else 0)

-- a word of a set: the test of place k + d is bit 31 - d
unfoldable pub word_where : (ℕ → Bool) → ℕ → ℕ
word_where test k = digits test k 32

-- the words of a set: the test of place k + d is bit 31 - d % 32 of word d / 32
abbrev pub words_where : (ℕ → Bool) → ℕ → List ℕ
words_where test k =
    word_where test k ∷ word_where test (k + 32) ∷ word_where test (k + 64) ∷ word_where test (k + 96)
    ∷ word_where test (k + 128) ∷ word_where test (k + 160) ∷ word_where test (k + 192) ∷ word_where test (k + 224) ∷ []

-- the fragment at a place, whose number is one more, is not above the last one, and did not come
abbrev pub is_asked : List Bool → ℕ → ℕ → Bool
is_asked came last k = nat_lt k last && not (get_or came k true)

-- The missing ones from the least one to the lesser of last and that one + 255, where there is one.
abbrev pub asked_from : List ℕ → ℕ → List Bool → ℕ → Option ℕ → Option FragAsk
asked_from writer number came last None = None
asked_from writer number came last (Some k) =
    if nat_lt k last then Some (record {
      writer = writer;
      number = number;
      base = k + 1;
      count = width_of (words_where (is_asked came last) k);
      words = words_where (is_asked came last) k;
    }) else None

unfoldable pub asked : List ℕ → ℕ → List Bool → ℕ → Option FragAsk
asked writer number came last = asked_from writer number came last (first_from 0 came)

-- ---- NACK_FRAG

-- the first n words
abbrev pub words_text : ℕ → List ℕ → List ℕ
words_text n words = flat_map (λ word. octets true w32 word) (take n words)

-- its length: 28 octets and the words that hold the bits
abbrev pub nack_len : FragAsk → ℕ
nack_len ask = 28 + 4 * ((ask.count + 31) / 32)

-- 12 NACK_FRAG, little-endian: readerId, writerId, writerSN, base, numBits, the words, count
unfoldable pub nack_sub : List ℕ → List ℕ → FragAsk → ℕ → List ℕ
nack_sub reader writer ask count =
    ((((((((0x12 ∷ 0x01 ∷ []) ++ octets true w16 (nack_len ask)) ++ reader) ++ writer) ++ sequence_octets true ask.number) ++ octets true w32 ask.base)
    ++ octets true w32 ask.count) ++ words_text ((ask.count + 31) / 32) ask.words) ++ octets true w32 count

-- header, INFO_DST of the writer's prefix, NACK_FRAG
unfoldable pub nack_message : List ℕ → List ℕ → FragAsk → ℕ → List ℕ
nack_message from to ask count = message (take 12 from) (InfoDst (take 12 to) ∷ []) ++ nack_sub (drop 12 from) (drop 12 to) ask count
