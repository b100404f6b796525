-- What is written of each kind reads as itself.
use Rattle.std.proofs.Common.{◌≡◌, ℕ, ◌+◌, ◌-◌, ◌*◌, ◌/◌, ◌%◌, ◌^◌, ◌<◌, ◌≤◌, Bool, true, false, List, [], ◌∷◌, ◌++◌, length, drop, Some, None, refl, sym, ap, ◌∙◌, append_assoc, arith}
use Rattle.std.specs.Int.{w16, w32}
use Rattle.std.proofs.lemmas.Bool.{le-leb, lt-ltb}
use Rattle.std.proofs.lemmas.List.{length-append, drop_at}
use Rattle.dur_base.specs.Fields.{number, octets, sequence, sequence_octets}
use Rattle.dur_base.specs.NumberSets.{NumberSet}
use Rattle.dur_base.proofs.FieldNumbers.{length_16, length_32, again_16, again_32, length_sequence}
use Rattle.rtps_submsg.specs.declared.sub.Sub.{Sub}
use Rattle.rtps_submsg.specs.declared.sub.Sub.TheVariants.{InfoTs, InfoDst, InfoSrc, Heartbeat, AckNack, Gap}
use Rattle.rtps_submsg.specs.Grammar.{Row, ends, field, any, Spells}
use Rattle.rtps_submsg.specs.Rows.{has, number_rule, acknack_row, heartbeat_row, gap_row, info_ts_row, info_src_row, info_dst_row}
use Rattle.rtps_submsg.specs.Data.{Head, sample_rule, head_row}
use Rattle.rtps_submsg.specs.Writing.{set_text, heartbeat_text, acknack_text, gap_text, IsNumberSet, IsEntities}
use Rattle.rtps_submsg.proofs.SetBack.{field_back, sequence_self, set_spells}

-- a number and what stands for it
word_self : (little : Bool) (n : ℕ) → n < 2 ^ 32 → number little w32 (octets little w32 n) ≡ n
word_self little n lt = again_32 little n lt

pub info_dst_back : (prefix rest : List ℕ) → length prefix ≡ 12 → Spells info_dst_row (prefix ++ rest) (InfoDst prefix)
info_dst_back prefix rest len = field_back 12 any (λ p. ends (InfoDst p)) prefix rest (InfoDst prefix) len refl refl

pub info_src_back : (prefix rest : List ℕ) → length prefix ≡ 12 → Spells info_src_row (((0 ∷ 0 ∷ 0 ∷ 0 ∷ 2 ∷ 5 ∷ 0 ∷ 0 ∷ []) ++ prefix) ++ rest) (InfoSrc prefix)
info_src_back prefix rest len = (
  0 ∷ 0 ∷ 0 ∷ 0 ∷ [],
  2 ∷ 5 ∷ 0 ∷ 0 ∷ (prefix ++ rest),
  refl,
  refl,
  refl,
  (
    2 ∷ 5 ∷ [],
    0 ∷ 0 ∷ (prefix ++ rest),
    refl,
    refl,
    refl,
    (
      0 ∷ 0 ∷ [],
      prefix ++ rest,
      refl,
      refl,
      refl,
      (prefix, rest, refl, len, refl, refl),
    ),
  ),
)

pub info_ts_back : (little : Bool) (flags ticks : ℕ) (rest : List ℕ) → has flags 0x02 ≡ false → ticks < 2 ^ 64 → Spells (info_ts_row little flags) (sequence_octets little ticks ++ rest) (InfoTs (Some ticks))
unfolding sequence_octets
info_ts_back little flags ticks rest there lt =
    let seconds = octets little w32 (ticks / 2 ^ 32) in
    let fraction = octets little w32 (ticks % 2 ^ 32) in
    let high : number little w32 seconds ≡ ticks / 2 ^ 32 = word_self little (ticks / 2 ^ 32) (omega (arith, lt)) in
    let low : number little w32 fraction ≡ ticks % 2 ^ 32 = word_self little (ticks % 2 ^ 32) (omega arith) in
    let whole : ticks / 2 ^ 32 * 2 ^ 32 + ticks % 2 ^ 32 ≡ ticks = omega arith in
    rw there (
      seconds,
      fraction ++ rest,
      append_assoc seconds fraction rest,
      length_32 little (ticks / 2 ^ 32),
      refl,
      (
        fraction,
        rest,
        refl,
        length_32 little (ticks % 2 ^ 32),
        refl,
        ap (λ (n : ℕ). InfoTs (Some n)) (sym (ap (λ (n : ℕ). n * 2 ^ 32 + number little w32 fraction) high ∙ ap (λ (n : ℕ). ticks / 2 ^ 32 * 2 ^ 32 + n) low ∙ whole)),
      ),
    )

pub acknack_back : (little : Bool) (flags : ℕ) (reader writer : List ℕ) (set : NumberSet) (count : ℕ) (rest : List ℕ) → IsEntities reader writer → IsNumberSet set → count < 2 ^ 32
    → Spells (acknack_row little flags) (acknack_text little reader writer set count ++ rest) (AckNack reader writer set count (has flags 0x02))
unfolding acknack_text
acknack_back little flags reader writer set count rest ids numbers small =
    let counted = octets little w32 count in
    let told : Sub = AckNack reader writer set count (has flags 0x02) in
    let parts : (((reader ++ writer) ++ set_text little set) ++ counted) ++ rest ≡ reader ++ (writer ++ (set_text little set ++ (counted ++ rest))) = simp append_assoc in
    let next : NumberSet → Row Sub = λ s. field 4 any (λ c. ends (AckNack reader writer s (number little w32 c) (has flags 0x02))) in
    let last : Spells (next set) (counted ++ rest) told =
    (counted, rest, refl, length_32 little count, refl, ap (λ (n : ℕ). AckNack reader writer set n (has flags 0x02)) (sym (word_self little count small))) in (
      reader,
      writer ++ (set_text little set ++ (counted ++ rest)),
      parts,
      ids.of_reader,
      refl,
      (
        writer,
        set_text little set ++ (counted ++ rest),
        refl,
        ids.of_writer,
        refl,
        set_spells little true next set (counted ++ rest) told numbers last,
      ),
    )

number_good : (little : Bool) (n : ℕ) (rest : List ℕ) → 1 ≤ n → n < 2 ^ 63 → number_rule little (sequence_octets little n) rest ≡ None
number_good little n rest least most = rw (sequence_self little n (omega (arith, most)), le-leb 1 n least, lt-ltb n (2 ^ 63) most) refl

pub gap_back : (little : Bool) (reader writer : List ℕ) (start : ℕ) (set : NumberSet) (rest : List ℕ) → IsEntities reader writer → 1 ≤ start → start < 2 ^ 63 → IsNumberSet set
    → Spells (gap_row little) (gap_text little reader writer start set ++ rest) (Gap reader writer start set)
unfolding gap_text
gap_back little reader writer start set rest ids least most numbers =
    let begin = sequence_octets little start in
    let told : Sub = Gap reader writer start set in
    let parts : (((reader ++ writer) ++ begin) ++ set_text little set) ++ rest ≡ reader ++ (writer ++ (begin ++ (set_text little set ++ rest))) = simp append_assoc in
    let next : NumberSet → Row Sub = λ s. ends (Gap reader writer (sequence little begin) s) in
    let last : Spells (next set) rest told = ap (λ (n : ℕ). Gap reader writer n set) (sym (sequence_self little start (omega (arith, most)))) in (
      reader,
      writer ++ (begin ++ (set_text little set ++ rest)),
      parts,
      ids.of_reader,
      refl,
      (
        writer,
        begin ++ (set_text little set ++ rest),
        refl,
        ids.of_writer,
        refl,
        (
          begin,
          set_text little set ++ rest,
          refl,
          length_sequence little start,
          number_good little start (set_text little set ++ rest) least most,
          set_spells little false next set rest told numbers last,
        ),
      ),
    )

pub heartbeat_back : (little : Bool) (flags : ℕ) (reader writer : List ℕ) (first last count : ℕ) (rest : List ℕ) → IsEntities reader writer → 1 ≤ first → first < 2 ^ 63 → last < 2 ^ 63 → first ≤ last + 1 → count < 2 ^ 32
    → Spells (heartbeat_row little flags) (heartbeat_text little reader writer first last count ++ rest) (Heartbeat reader writer first last count (has flags 0x02) (has flags 0x04))
unfolding heartbeat_text
heartbeat_back little flags reader writer first last count rest ids least most below range small =
    let a = sequence_octets little first in
    let b = sequence_octets little last in
    let c = octets little w32 count in
    let first_is : sequence little a ≡ first = sequence_self little first (omega (arith, most)) in
    let last_is : sequence little b ≡ last = sequence_self little last (omega (arith, below)) in
    let told : ℕ → ℕ → ℕ → Sub = λ x y z. Heartbeat reader writer x y z (has flags 0x02) (has flags 0x04) in
    let same : told first last count ≡ told (sequence little a) (sequence little b) (number little w32 c) =
    sym (ap (λ (x : ℕ). told x (sequence little b) (number little w32 c)) first_is ∙ ap (λ (y : ℕ). told first y (number little w32 c)) last_is ∙ ap (told first last) (word_self little count small)) in
    let parts : ((((reader ++ writer) ++ a) ++ b) ++ c) ++ rest ≡ reader ++ (writer ++ (a ++ (b ++ (c ++ rest)))) = simp append_assoc in (
      reader,
      writer ++ (a ++ (b ++ (c ++ rest))),
      parts,
      ids.of_reader,
      refl,
      (
        writer,
        a ++ (b ++ (c ++ rest)),
        refl,
        ids.of_writer,
        refl,
        (
          a,
          b ++ (c ++ rest),
          refl,
          length_sequence little first,
          number_good little first (b ++ (c ++ rest)) least most,
          (
            b,
            c ++ rest,
            refl,
            length_sequence little last,
            rw (first_is, last_is, lt-ltb last (2 ^ 63) below, le-leb first (last + 1) range) refl,
            (c, rest, refl, length_32 little count, refl, same),
          ),
        ),
      ),
    )

-- ---- the head of a DATA

sample_good : (little : Bool) (n : ℕ) (rest : List ℕ) → 1 ≤ n → n ≤ 2 ^ 63 - 2 → sample_rule little (sequence_octets little n) rest ≡ None
sample_good little n rest least most = rw (sequence_self little n (omega (arith, most)), le-leb 1 n least, lt-ltb n (2 ^ 63) (omega (arith, most)), le-leb n (2 ^ 63 - 2) most) refl

-- the fields before the list
abbrev pub head_text : Bool → List ℕ → List ℕ → ℕ → List ℕ → List ℕ
head_text little reader writer n behind = octets little w16 0 ++ (octets little w16 16 ++ (reader ++ (writer ++ (sequence_octets little n ++ behind))))

behind_is : (little : Bool) (reader writer behind : List ℕ) (n : ℕ) → IsEntities reader writer → drop 16 (drop 4 (head_text little reader writer n behind)) ≡ behind
behind_is little reader writer behind n ids =
    let a = octets little w16 0 ++ octets little w16 16 in
    let b = (reader ++ writer) ++ sequence_octets little n in
    let regrouped : head_text little reader writer n behind ≡ a ++ (b ++ behind) = simp append_assoc in
    let four : length a ≡ 4 = omega (arith, length-append (octets little w16 0) (octets little w16 16), length_16 little 0, length_16 little 16) in
    let sixteen : length b ≡ 16 = omega (arith, length-append (reader ++ writer) (sequence_octets little n), length-append reader writer, ids.of_reader, ids.of_writer, length_sequence little n) in
    ap (λ (x : List ℕ). drop 16 (drop 4 x)) regrouped ∙ ap (drop 16) (drop_at a (b ++ behind) 4 four) ∙ drop_at b behind 16 sixteen

pub head_back : (little : Bool) (reader writer behind : List ℕ) (n : ℕ) → IsEntities reader writer → 1 ≤ n → n ≤ 2 ^ 63 - 2
    → Spells (head_row little (head_text little reader writer n behind)) (head_text little reader writer n behind) (record { reader = reader; writer = writer; number = n; behind = behind })
head_back little reader writer behind n ids least most =
    let body = head_text little reader writer n behind in
    let offset = octets little w16 16 in
    let numbered = sequence_octets little n in
    let after = reader ++ (writer ++ (numbered ++ behind)) in
    let offset_is : number little w16 offset ≡ 16 = again_16 little 16 (omega arith) in
    let number_is : sequence little numbered ≡ n = sequence_self little n (omega (arith, most)) in
    let room : 16 ≤ length after = omega (arith, length-append reader (writer ++ (numbered ++ behind)), length-append writer (numbered ++ behind), length-append numbered behind, ids.of_reader, ids.of_writer, length_sequence little n) in
    let told : ℕ → List ℕ → Head = λ m b. record { reader = reader; writer = writer; number = m; behind = b } in
    let place : drop (number little w16 offset) (drop 4 body) ≡ behind = ap (λ (m : ℕ). drop m (drop 4 body)) offset_is ∙ behind_is little reader writer behind n ids in
    let same : told n behind ≡ told (sequence little numbered) (drop (number little w16 offset) (drop 4 body)) = sym (ap (λ (m : ℕ). told m (drop (number little w16 offset) (drop 4 body))) number_is ∙ ap (told n) place) in (
      octets little w16 0,
      offset ++ after,
      refl,
      length_16 little 0,
      refl,
      (
        offset,
        after,
        refl,
        length_16 little 16,
        rw (offset_is, le-leb 16 (length after) room) refl,
        (
          reader,
          writer ++ (numbered ++ behind),
          refl,
          ids.of_reader,
          refl,
          (
            writer,
            numbered ++ behind,
            refl,
            ids.of_writer,
            refl,
            (numbered, behind, refl, length_sequence little n, sample_good little n behind least most, same),
          ),
        ),
      ),
    )
