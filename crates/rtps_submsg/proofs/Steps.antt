-- The steps that the reader takes go over the rows of the table.
use Rattle.std.proofs.Common.{◌≡◌, ℕ, zero, suc, ◌+◌, ◌-◌, ◌*◌, ◌/◌, ◌%◌, ◌^◌, ◌≤◌, Bool, true, false, List, [], ◌++◌, length, take, drop, Result, Ok, Err, refl, sym, ap, ◌∙◌, inl, inr, arith}
use Rattle.std.specs.Prelude.{nat_lt, nat_le, ◌==◌, ◌&&◌, ◌||◌, if◌then◌else◌}
use Rattle.std.specs.Int.{w16, w32}
use Rattle.std.proofs.lemmas.Bool.{cases_lt, cases_eq, lt-ltb, le-ltb, lt-leb, le-leb, ne_eqb}
use Rattle.std.proofs.lemmas.List.{take-append-drop, drop-drop, drop_at, length-append, length-take, length-drop}
use Rattle.std.proofs.Math.Seq.{take-append-add}
use Rattle.dur_base.specs.Fields.{number, sequence}
use Rattle.dur_base.specs.NumberSets.{NumberSet, set_of}
use Rattle.rtps_submsg.specs.declared.field.Broken.{Broken}
use Rattle.rtps_submsg.specs.declared.sub.Sub.{Sub}
use Rattle.rtps_submsg.specs.declared.sub.Sub.TheVariants.{AckNack, Gap}
use Rattle.rtps_submsg.specs.declared.sub.SubKind.{SubKind}
use Rattle.rtps_submsg.specs.declared.sub.SubKind.TheVariants.{Cut, BadNumber, BadSet, BadRange, BadOffset}
use Rattle.rtps_submsg.specs.Grammar.{Row, ends, field, any, only_if}
use Rattle.rtps_submsg.specs.Rows.{has, is_number, number_rule, last_rule, base_rule, bits_bad, bits_rule, words_row, bits_row, set_row, acknack_row, heartbeat_row, gap_row, info_ts_row, info_src_row, info_dst_row, row_of}
use Rattle.rtps_submsg.specs.Sets.{words_of}
use Rattle.rtps_submsg.specs.Data.{Head, sample_rule, offset_rule, head_row}
use Rattle.rtps_submsg.specs.FieldSteps.{◌>>=◌, breaks, field_at, u16_at, u32_at, sequence_at, number_at, sample_number_at}
use Rattle.rtps_submsg.specs.SetSteps.{words_at, base_at, bits_at, set_at}
use Rattle.rtps_submsg.specs.RowSteps.{last_at, acknack_at, heartbeat_at, gap_at, info_ts_at, info_src_at, info_dst_at, plain_at}
use Rattle.rtps_submsg.specs.DataSteps.{offset_at, head_at}
use Rattle.rtps_submsg.proofs.Runs.{broken, judged, run}

-- the steps give what the row does
pub record Goes {V : Type 0} (steps : Result V Broken) (row : Row V) (body : List ℕ) : Type 0 where
  pub same : steps ≡ run row body

-- what follows a field that fits
abbrev Follows : {A V : Type 0} → ℕ → (List ℕ → A) → (List ℕ → Row V) → List ℕ → (A × List ℕ → Result V Broken) → Type 0
Follows width read next body k = (text rest : List ℕ) → body ≡ text ++ rest → length text ≡ width → Goes (k (read text, rest)) (next text) rest

-- ---- one field

octets_step : {V : Type 0} (width : ℕ) (next : List ℕ → Row V) (body : List ℕ) (k : List ℕ × List ℕ → Result V Broken)
    → Follows width (λ text. text) next body k → Goes (field_at width body >>= k) (field width any next) body
unfolding field_at
octets_step width next body k further = record {
  same =
      elim (cases_lt (length body) width) [
        | inl short ↦ rw (lt-ltb (length body) width short) refl
        | inr long ↦ rw (le-ltb (length body) width long) ((further (take width body) (drop width body) (sym (take-append-drop width body)) (omega (arith, length-take width body, long)))).same
      ];
}

u32_step : {V : Type 0} (little : Bool) (next : List ℕ → Row V) (body : List ℕ) (k : ℕ × List ℕ → Result V Broken)
    → Follows 4 (number little w32) next body k → Goes (u32_at little body >>= k) (field 4 any next) body
unfolding field_at u32_at
u32_step little next body k further = record {
  same =
      elim (cases_lt (length body) 4) [
        | inl short ↦ rw (lt-ltb (length body) 4 short) refl
        | inr long ↦ rw (le-ltb (length body) 4 long) ((further (take 4 body) (drop 4 body) (sym (take-append-drop 4 body)) (omega (arith, length-take 4 body, long)))).same
      ];
}

bind_assoc : {A B V : Type 0} (r : Result A Broken) (f : A → Result B Broken) (k : B → Result V Broken) → ((r >>= f) >>= k) ≡ (r >>= λ x. (f x >>= k))
bind_assoc (Ok x) f k = refl
bind_assoc (Err e) f k = refl

-- what is judged by a test
tested : {V : Type 0} (good : Bool) (kind : SubKind) (body : List ℕ) (x : ℕ × List ℕ) (k : ℕ × List ℕ → Result V Broken) (later : Result V Broken)
    → k x ≡ later → ((if good then Ok x else breaks body kind) >>= k) ≡ judged (only_if good kind) body later
tested true kind body x k later same = same
tested false kind body x k later same = let here : length body ≡ 0 + length body = omega arith in ap (λ (n : ℕ). Err (broken n kind)) here

-- a sequence number under a test
sequence_step : {V : Type 0} (little : Bool) (good : ℕ → Bool) (kind : SubKind) (next : List ℕ → Row V) (body : List ℕ) (k : ℕ × List ℕ → Result V Broken)
    → Follows 8 (sequence little) next body k
    → Goes ((sequence_at little body >>= λ n. if good n.0 then Ok n else breaks body kind) >>= k) (field 8 (λ text rest. only_if (good (sequence little text)) kind) next) body
unfolding field_at sequence_at
sequence_step little good kind next body k further = record {
  same =
      elim (cases_lt (length body) 8) [
        | inl short ↦ rw (lt-ltb (length body) 8 short) refl
        | inr long ↦
            rw (le-ltb (length body) 8 long) (tested (good (sequence little (take 8 body))) kind body (sequence little (take 8 body), drop 8 body) k (run (next (take 8 body)) (drop 8 body)) ((further (take 8 body) (drop 8 body) (sym (take-append-drop 8 body)) (omega (arith, length-take 8 body, long)))).same)
      ];
}

number_step : {V : Type 0} (little : Bool) (next : List ℕ → Row V) (body : List ℕ) (k : ℕ × List ℕ → Result V Broken)
    → Follows 8 (sequence little) next body k → Goes (number_at little body >>= k) (field 8 (number_rule little) next) body
unfolding number_at
number_step little next body k further = sequence_step little is_number BadNumber next body k further

last_step : {V : Type 0} (little : Bool) (first : ℕ) (next : List ℕ → Row V) (body : List ℕ) (k : ℕ × List ℕ → Result V Broken)
    → Follows 8 (sequence little) next body k → Goes (last_at little first body >>= k) (field 8 (last_rule little first) next) body
unfolding last_at
last_step little first next body k further = sequence_step little (λ n. nat_lt n (2 ^ 63) && nat_le first (n + 1)) BadRange next body k further

base_step : {V : Type 0} (little is_ack : Bool) (next : List ℕ → Row V) (body : List ℕ) (k : ℕ × List ℕ → Result V Broken)
    → Follows 8 (sequence little) next body k → Goes (base_at little is_ack body >>= k) (field 8 (base_rule little is_ack) next) body
unfolding base_at
base_step little is_ack next body k further = sequence_step little (λ n. is_number n || is_ack && n == 0) BadSet next body k further

-- two tests after each other
both_tested : {V : Type 0} (a : Bool) (good : ℕ → Bool) (body : List ℕ) (x : ℕ × List ℕ) (k : ℕ × List ℕ → Result V Broken) (later : Result V Broken) → k x ≡ later
    → (((if a then Ok x else breaks body BadNumber) >>= λ m. if good m.0 then Ok m else breaks body BadNumber) >>= k) ≡ judged (only_if (a && good x.0) BadNumber) body later
both_tested true good body x k later same = tested (good x.0) BadNumber body x k later same
both_tested false good body x k later same = tested false BadNumber body x k later same

sample_number_step : {V : Type 0} (little : Bool) (next : List ℕ → Row V) (body : List ℕ) (k : ℕ × List ℕ → Result V Broken)
    → Follows 8 (sequence little) next body k → Goes (sample_number_at little body >>= k) (field 8 (sample_rule little) next) body
unfolding field_at sequence_at number_at sample_number_at
sample_number_step little next body k further = record {
  same =
      elim (cases_lt (length body) 8) [
        | inl short ↦ rw (lt-ltb (length body) 8 short) refl
        | inr long ↦
            let n = sequence little (take 8 body) in
            let a = is_number n in
            let good : ℕ → Bool = λ m. nat_le m (2 ^ 63 - 2) in
            rw (le-ltb (length body) 8 long) (both_tested a good body (n, drop 8 body) k (run (next (take 8 body)) (drop 8 body)) ((further (take 8 body) (drop 8 body) (sym (take-append-drop 8 body)) (omega (arith, length-take 8 body, long)))).same)
      ];
}

offset_step : {V : Type 0} (little : Bool) (next : List ℕ → Row V) (body : List ℕ) (k : ℕ × List ℕ → Result V Broken)
    → Follows 2 (number little w16) next body k → Goes (offset_at little body >>= k) (field 2 (offset_rule little) next) body
unfolding field_at u16_at offset_at
offset_step little next body k further = record {
  same =
      elim (cases_lt (length body) 2) [
        | inl short ↦ rw (lt-ltb (length body) 2 short) refl
        | inr long ↦
            let n = number little w16 (take 2 body) in
            rw (le-ltb (length body) 2 long) (tested (nat_le 16 n && nat_le n (length (drop 2 body))) BadOffset body (n, drop 2 body) k (run (next (take 2 body)) (drop 2 body)) ((further (take 2 body) (drop 2 body) (sym (take-append-drop 2 body)) (omega (arith, length-take 2 body, long)))).same)
      ];
}

-- ---- sets

take_more : (n : ℕ) (body : List ℕ) → 4 ≤ length body → take 4 body ++ take n (drop 4 body) ≡ take (4 + n) body
take_more n body long =
    let four : length (take 4 body) ≡ 4 = omega (arith, length-take 4 body, long) in
    sym (ap (take (4 + n)) (sym (take-append-drop 4 body)) ∙ ap (λ (m : ℕ). take (m + n) (take 4 body ++ drop 4 body)) (sym four) ∙ take-append-add (take 4 body) (drop 4 body) n)

-- the octets of n words, cut at once
abbrev words_cut : ℕ → List ℕ → Result (List ℕ × List ℕ) Broken
words_cut width body = if nat_lt (length body) width then Err (broken (length body % 4) Cut) else Ok (take width body, drop width body)

words_step : (n : ℕ) (next : List ℕ → Row Sub) (body : List ℕ) (k : List ℕ × List ℕ → Result Sub Broken)
    → ((text rest : List ℕ) → k (text, rest) ≡ run (next text) rest) → (words_cut (4 * n) body >>= k) ≡ run (words_row n next) body
words_step zero next body k further = rw (le-ltb (length body) (4 * 0) (omega arith)) (further [] body)
words_step (suc n) next body k further =
    elim (cases_lt (length body) 4) [
      | inl short ↦
          let left : length body % 4 ≡ length body = omega (arith, short) in
          rw (lt-ltb (length body) (4 * suc n) (omega (arith, short)), lt-ltb (length body) 4 short, left) refl
      | inr long ↦
          let behind = drop 4 body in
          let later : (words_cut (4 * n) behind >>= λ x. k (take 4 body ++ x.0, x.1)) ≡ run (words_row n (λ words. next (take 4 body ++ words))) behind =
          words_step n (λ words. next (take 4 body ++ words)) behind (λ x. k (take 4 body ++ x.0, x.1)) (λ text rest. further (take 4 body ++ text) rest) in
          let less : length behind + 4 ≡ length body = omega (arith, length-drop 4 body, long) in
          rw (le-ltb (length body) 4 long) (cut_more n body long less ∙ later)
    ] where
      cut_more : (n : ℕ) (body : List ℕ) → 4 ≤ length body → length (drop 4 body) + 4 ≡ length body → (words_cut (4 * suc n) body >>= k) ≡ (words_cut (4 * n) (drop 4 body) >>= λ x. k (take 4 body ++ x.0, x.1))
      cut_more n body long less =
          elim (cases_lt (length body) (4 * suc n)) [
            | inl short ↦
                let left : length body % 4 ≡ length (drop 4 body) % 4 = omega (arith, less) in
                rw (lt-ltb (length body) (4 * suc n) short, lt-ltb (length (drop 4 body)) (4 * n) (omega (arith, short, less)), left) refl
            | inr all ↦
                let width : 4 * suc n ≡ 4 + 4 * n = omega arith in
                rw (le-ltb (length body) (4 * suc n) all, le-ltb (length (drop 4 body)) (4 * n) (omega (arith, all, less)), take_more (4 * n) body long, drop-drop (4 * n) 4 body, width) refl
          ]

abbrev told : NumberSet → List ℕ → Result (NumberSet × List ℕ) Broken
told set rest = Ok (set, rest)

bits_step : (little : Bool) (next : NumberSet → Row Sub) (k : NumberSet × List ℕ → Result Sub Broken) → ((set : NumberSet) (rest : List ℕ) → k (set, rest) ≡ run (next set) rest)
    → (base bits : ℕ) (body behind rest : List ℕ) → length body ≡ 8 + length behind
    → (bits_at little base bits body behind rest >>= k) ≡ judged (bits_bad base bits) behind (run (bits_row little base bits next) rest)
unfolding words_at
bits_step little next k further base bits body behind rest eight =
    elim (cases_eq base 0) [
      | inl none ↦ rw none (elim (cases_eq bits 0) [
        | inl empty ↦ rw empty (further (set_of 1 (words_of little 0 [])) rest)
        | inr some ↦ rw (ne_eqb bits 0 some, eight) refl
      ])
      | inr some ↦
          elim (cases_lt 256 bits) [
            | inl many ↦ let here : length behind ≡ 0 + length behind = omega arith in rw (ne_eqb base 0 some, lt-ltb 256 bits many, lt-leb bits 256 many) (ap (λ (n : ℕ). Err (broken n BadSet)) here)
            | inr few ↦
                rw (ne_eqb base 0 some, le-ltb 256 bits few, le-leb bits 256 few) (bind_assoc (words_cut (4 * ((bits + 31) / 32)) rest) (λ words. told (set_of base (words_of little bits words.0)) words.1) k
                ∙ words_step ((bits + 31) / 32) (λ words. next (set_of base (words_of little bits words))) rest (λ words. k (set_of base (words_of little bits words.0), words.1)) (λ text after. further (set_of base (words_of little bits text)) after))
          ]
    ]

counted_step : (little : Bool) (next : NumberSet → Row Sub) (k : NumberSet × List ℕ → Result Sub Broken) → ((set : NumberSet) (rest : List ℕ) → k (set, rest) ≡ run (next set) rest)
    → (base : ℕ) (body behind : List ℕ) → length body ≡ 8 + length behind
    → (u32_at little behind >>= λ bits. (bits_at little base bits.0 body behind bits.1 >>= k)) ≡ run (field 4 (bits_rule little base) (λ bits. bits_row little base (number little w32 bits) next)) behind
unfolding field_at u32_at
counted_step little next k further base body behind eight =
    elim (cases_lt (length behind) 4) [
      | inl short ↦ rw (lt-ltb (length behind) 4 short) refl
      | inr long ↦ rw (le-ltb (length behind) 4 long) (bits_step little next k further base (number little w32 (take 4 behind)) body behind (drop 4 behind) eight)
    ]

set_same : (little is_ack : Bool) (next : NumberSet → Row Sub) (body : List ℕ) (k : NumberSet × List ℕ → Result Sub Broken)
    → ((set : NumberSet) (rest : List ℕ) → k (set, rest) ≡ run (next set) rest) → (set_at little is_ack body >>= k) ≡ run (set_row little is_ack next) body
unfolding set_at
set_same little is_ack next body k further =
    bind_assoc (base_at little is_ack body) (λ base. u32_at little base.1 >>= λ bits. bits_at little base.0 bits.0 body base.1 bits.1) k
    ∙ (base_step little is_ack (λ base. field 4 (bits_rule little (sequence little base)) (λ bits. bits_row little (sequence little base) (number little w32 bits) next)) body (λ base. (u32_at little base.1 >>= λ bits. bits_at little base.0 bits.0 body base.1 bits.1) >>= k) (λ base behind parts eight. record {
      same =
          bind_assoc (u32_at little behind) (λ bits. bits_at little (sequence little base) bits.0 body behind bits.1) k
          ∙ counted_step little next k further (sequence little base) body behind (omega (arith, ap length parts, length-append base behind, eight));
    })).same

set_step : (little is_ack : Bool) (next : NumberSet → Row Sub) (body : List ℕ) (k : NumberSet × List ℕ → Result Sub Broken)
    → ((set : NumberSet) (rest : List ℕ) → Goes (k (set, rest)) (next set) rest) → Goes (set_at little is_ack body >>= k) (set_row little is_ack next) body
set_step little is_ack next body k goes =
    let further : (set : NumberSet) (rest : List ℕ) → k (set, rest) ≡ run (next set) rest = λ set rest. (goes set rest).same in
    record { same = set_same little is_ack next body k further }

-- ---- bodies

acknack_step : (little : Bool) (flags : ℕ) (body : List ℕ) → Goes (acknack_at little flags body) (acknack_row little flags) body
unfolding acknack_at
acknack_step little flags body =
    octets_step 4 _ body _ (λ reader behind_reader e f.
    octets_step 4 _ behind_reader _ (λ writer behind_writer e f.
    set_step little true (λ set. field 4 any (λ count. ends (AckNack reader writer set (number little w32 count) (has flags 0x02)))) behind_writer _ (λ set behind_set.
    u32_step little _ behind_set _ (λ count rest e f. record { same = refl }))))

heartbeat_step : (little : Bool) (flags : ℕ) (body : List ℕ) → Goes (heartbeat_at little flags body) (heartbeat_row little flags) body
unfolding heartbeat_at
heartbeat_step little flags body =
    octets_step 4 _ body _ (λ reader behind_reader e f.
    octets_step 4 _ behind_reader _ (λ writer behind_writer e f.
    number_step little _ behind_writer _ (λ first behind_first e f.
    last_step little (sequence little first) _ behind_first _ (λ last behind_last e f.
    u32_step little _ behind_last _ (λ count rest e f. record { same = refl })))))

gap_step : (little : Bool) (body : List ℕ) → Goes (gap_at little body) (gap_row little) body
unfolding gap_at
gap_step little body =
    octets_step 4 _ body _ (λ reader behind_reader e f.
    octets_step 4 _ behind_reader _ (λ writer behind_writer e f.
    number_step little _ behind_writer _ (λ start behind_start e f.
    set_step little false (λ set. ends (Gap reader writer (sequence little start) set)) behind_start _ (λ set rest. record { same = refl }))))

-- one of two rows
chosen : (b : Bool) (x y : Result Sub Broken) (r s : Row Sub) (body : List ℕ) → Goes x r body → Goes y s body → Goes (if b then x else y) (if b then r else s) body
chosen true x y r s body e f = e
chosen false x y r s body e f = f

info_ts_step : (little : Bool) (flags : ℕ) (body : List ℕ) → Goes (info_ts_at little flags body) (info_ts_row little flags) body
unfolding info_ts_at
info_ts_step little flags body =
    chosen (has flags 0x02) _ _ _ _ body (record { same = refl }) (u32_step little _ body _ (λ seconds behind e f. u32_step little _ behind _ (λ fraction rest e f. record { same = refl })))

info_src_step : (body : List ℕ) → Goes (info_src_at body) info_src_row body
unfolding info_src_at
info_src_step body =
    octets_step 4 _ body _ (λ unused behind_unused e f.
    octets_step 2 _ behind_unused _ (λ version behind_version e f.
    octets_step 2 _ behind_version _ (λ vendor behind_vendor e f.
    octets_step 12 _ behind_vendor _ (λ prefix rest e f. record { same = refl }))))

info_dst_step : (body : List ℕ) → Goes (info_dst_at body) info_dst_row body
unfolding info_dst_at
info_dst_step body = octets_step 12 _ body _ (λ prefix rest e f. record { same = refl })

pub plain_step : (little : Bool) (flags id : ℕ) (body : List ℕ) → Goes (plain_at little flags id body) (row_of little flags id) body
unfolding plain_at
plain_step little flags id body =
    chosen (id == 0x01) _ _ _ _ body (record { same = refl })
    (chosen (id == 0x06) _ _ _ _ body (acknack_step little flags body)
    (chosen (id == 0x07) _ _ _ _ body (heartbeat_step little flags body)
    (chosen (id == 0x08) _ _ _ _ body (gap_step little body)
    (chosen (id == 0x09) _ _ _ _ body (info_ts_step little flags body)
    (chosen (id == 0x0c) _ _ _ _ body (info_src_step body)
    (chosen (id == 0x0e) _ _ _ _ body (info_dst_step body) (record { same = refl })))))))

-- the octets behind two fields of two octets
behind_both : (body a more b rest : List ℕ) → body ≡ a ++ more → length a ≡ 2 → more ≡ b ++ rest → length b ≡ 2 → rest ≡ drop 4 body
behind_both body a more b rest e f g h =
    let first : drop 2 body ≡ more = ap (drop 2) e ∙ drop_at a more 2 f in
    let second : drop 2 more ≡ rest = ap (drop 2) g ∙ drop_at b rest 2 h in
    sym (sym (drop-drop 2 2 body) ∙ ap (drop 2) first ∙ second)

pub head_step : (little : Bool) (body : List ℕ) → Goes (head_at little body) (head_row little body) body
unfolding head_at
head_step little body =
    octets_step 2 _ body _ (λ extra behind_extra e f.
    offset_step little _ behind_extra _ (λ offset behind g h.
    octets_step 4 _ behind _ (λ reader behind_reader i j.
    octets_step 4 _ behind_reader _ (λ writer behind_writer i j.
    sample_number_step little _ behind_writer _ (λ numbered rest i j.
    record { same = ap (λ (x : List ℕ). head_told reader writer (sequence little numbered) (drop (number little w16 offset) x)) (behind_both body extra behind_extra offset behind e f g h) })))))
  where
    head_told : List ℕ → List ℕ → ℕ → List ℕ → Result Head Broken
    head_told reader writer n behind = Ok (record { reader = reader; writer = writer; number = n; behind = behind })
