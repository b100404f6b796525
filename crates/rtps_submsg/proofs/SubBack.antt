-- What is written of a submessage spells it, whatever follows.
use Rattle.std.proofs.Common.{◌≡◌, ℕ, ◌+◌, ◌<◌, Bool, true, false, List, [], ◌∷◌, ◌++◌, length, take, Some, None, refl, sym, ap, subst, ◌∙◌, append_assoc, arith}
use Rattle.std.specs.Int.{w16, w32}
use Rattle.std.proofs.lemmas.Bool.{ne_eqb}
use Rattle.std.proofs.lemmas.List.{length-append, take_at, drop_at}
use Rattle.dur_base.specs.declared.sample.Form.{Form}
use Rattle.dur_base.specs.declared.sample.Form.TheVariants as forms
use Rattle.dur_base.specs.Fields.{octets, sequence_octets}
use Rattle.dur_base.proofs.FieldNumbers.{length_16, length_32, length_sequence}
use Rattle.rtps_params.specs.Writing.{list_text}
use Rattle.rtps_params.proofs.Back.{list_spells}
use Rattle.rtps_submsg.specs.declared.sub.DataSub.{DataSub}
use Rattle.rtps_submsg.specs.declared.sub.Sub.{Sub}
use Rattle.rtps_submsg.specs.declared.sub.Sub.TheVariants.{Pad, InfoTs, InfoDst, InfoSrc, Data, Heartbeat, AckNack, Gap, Other}
use Rattle.rtps_submsg.specs.Grammar.{Spells}
use Rattle.rtps_submsg.specs.Rows.{has, row_of}
use Rattle.rtps_submsg.specs.Data.{Head, head_row, form_of, payload_of, InlineSpells, DataSpells}
use Rattle.rtps_submsg.specs.Headers.{Heads, has_both, extent, Framed}
use Rattle.rtps_submsg.specs.Subs.{BodySpells, SubSpells}
use Rattle.rtps_submsg.specs.Writing.{set_text, data_text, heartbeat_text, acknack_text, gap_text, body_text, payload_text, id_of, flag, form_flag, own_flags, header_text, sub_text, IsKnown, HasText, IsPayloadOf, IsDataInRange, IsInRange, IsDataTyped, IsTyped}
use Rattle.rtps_submsg.proofs.Text.{length_sub}
use Rattle.rtps_submsg.proofs.RowsBack.{info_dst_back, info_src_back, info_ts_back, acknack_back, gap_back, heartbeat_back, head_text, head_back}

-- ---- flags

abbrev flags_of : Bool → Sub → ℕ
flags_of little s = own_flags s + flag little 0x01

none_low : (little : Bool) → has (0 + flag little 0x01) 0x01 ≡ little
none_low true = refl
none_low false = refl

none_valid : (little : Bool) → has (0 + flag little 0x01) 0x02 ≡ false
none_valid true = refl
none_valid false = refl

invalid_low : (little : Bool) → has (0x02 + flag little 0x01) 0x01 ≡ little
invalid_low true = refl
invalid_low false = refl

invalid_is : (little : Bool) → has (0x02 + flag little 0x01) 0x02 ≡ true
invalid_is true = refl
invalid_is false = refl

ack_low : (f little : Bool) → has (flag f 0x02 + flag little 0x01) 0x01 ≡ little
ack_low true true = refl
ack_low true false = refl
ack_low false true = refl
ack_low false false = refl

ack_final : (f little : Bool) → has (flag f 0x02 + flag little 0x01) 0x02 ≡ f
ack_final true true = refl
ack_final true false = refl
ack_final false true = refl
ack_final false false = refl

abbrev beat : Bool → Bool → Bool → ℕ
beat f l little = (flag f 0x02 + flag l 0x04) + flag little 0x01

beat_low : (f l little : Bool) → has (beat f l little) 0x01 ≡ little
beat_low true true true = refl
beat_low true true false = refl
beat_low true false true = refl
beat_low true false false = refl
beat_low false true true = refl
beat_low false true false = refl
beat_low false false true = refl
beat_low false false false = refl

beat_final : (f l little : Bool) → has (beat f l little) 0x02 ≡ f
beat_final true true true = refl
beat_final true true false = refl
beat_final true false true = refl
beat_final true false false = refl
beat_final false true true = refl
beat_final false true false = refl
beat_final false false true = refl
beat_final false false false = refl

beat_lives : (f l little : Bool) → has (beat f l little) 0x04 ≡ l
beat_lives true true true = refl
beat_lives true true false = refl
beat_lives true false true = refl
beat_lives true false false = refl
beat_lives false true true = refl
beat_lives false true false = refl
beat_lives false false true = refl
beat_lives false false false = refl

abbrev data_flags : Form → Bool → ℕ
data_flags form little = (0x02 + form_flag form) + flag little 0x01

data_low : (form : Form) (little : Bool) → has (data_flags form little) 0x01 ≡ little
data_low forms.Nothing true = refl
data_low forms.Nothing false = refl
data_low forms.Data true = refl
data_low forms.Data false = refl
data_low forms.KeyOnly true = refl
data_low forms.KeyOnly false = refl

data_lists : (form : Form) (little : Bool) → has (data_flags form little) 0x02 ≡ true
data_lists forms.Nothing true = refl
data_lists forms.Nothing false = refl
data_lists forms.Data true = refl
data_lists forms.Data false = refl
data_lists forms.KeyOnly true = refl
data_lists forms.KeyOnly false = refl

data_form : (form : Form) (little : Bool) → form ≡ form_of (data_flags form little)
data_form forms.Nothing true = refl
data_form forms.Nothing false = refl
data_form forms.Data true = refl
data_form forms.Data false = refl
data_form forms.KeyOnly true = refl
data_form forms.KeyOnly false = refl

data_one : (form : Form) (little : Bool) → has_both 0x15 (data_flags form little) ≡ false
data_one forms.Nothing true = refl
data_one forms.Nothing false = refl
data_one forms.Data true = refl
data_one forms.Data false = refl
data_one forms.KeyOnly true = refl
data_one forms.KeyOnly false = refl

low_of : (little : Bool) (s : Sub) → has (flags_of little s) 0x01 ≡ little
low_of little Pad = none_low little
low_of little (InfoTs None) = invalid_low little
low_of little (InfoTs (Some ticks)) = none_low little
low_of little (InfoDst prefix) = none_low little
low_of little (InfoSrc prefix) = none_low little
low_of little (Data d) = data_low d.form little
low_of little (Heartbeat reader writer first last count f l) = beat_low f l little
low_of little (AckNack reader writer set count f) = ack_low f little
low_of little (Gap reader writer start set) = none_low little
low_of little (Other id) = none_low little

one_payload_of : (little : Bool) (s : Sub) → IsKnown s → has_both (id_of s) (flags_of little s) ≡ false
one_payload_of little Pad known = refl
one_payload_of little (InfoTs None) known = refl
one_payload_of little (InfoTs (Some ticks)) known = refl
one_payload_of little (InfoDst prefix) known = refl
one_payload_of little (InfoSrc prefix) known = refl
one_payload_of little (Data d) known = data_one d.form little
one_payload_of little (Heartbeat reader writer first last count f l) known = refl
one_payload_of little (AckNack reader writer set count f) known = refl
one_payload_of little (Gap reader writer start set) known = refl
one_payload_of little (Other id) known = absurd known

-- ---- the length that the header says

abbrev body_len : Bool → Sub → ℕ
body_len little s = length (body_text little s) + length (payload_text s)

extent_some : (id len left : ℕ) → 0 < len → len ≡ extent id len left
extent_some id len left some = rw (ne_eqb len 0 (λ e. omega (arith, e, some))) refl

data_some : (little : Bool) (d : DataSub) → 0 < length (data_text little d)
unfolding data_text
data_some little d =
    let a = octets little w16 0 in
    let b = octets little w16 16 in
    let regrouped : data_text little d ≡ a ++ (b ++ (d.reader ++ (d.writer ++ (sequence_octets little d.number ++ list_text little d.inline)))) = simp append_assoc in
    omega (arith, ap length regrouped, length-append a (b ++ (d.reader ++ (d.writer ++ (sequence_octets little d.number ++ list_text little d.inline)))), length_16 little 0)

heartbeat_some : (little : Bool) (reader writer : List ℕ) (first last count : ℕ) → 0 < length (heartbeat_text little reader writer first last count)
unfolding heartbeat_text
heartbeat_some little reader writer first last count =
    let front = ((reader ++ writer) ++ sequence_octets little first) ++ sequence_octets little last in
    omega (arith, length-append front (octets little w32 count), length_32 little count)

whole_of : (little : Bool) (s : Sub) (left : ℕ) → IsKnown s → IsTyped s → body_len little s ≡ extent (id_of s) (body_len little s) left
unfolding acknack_text gap_text
whole_of little Pad left known typed = refl
whole_of little (InfoTs None) left known typed = refl
whole_of little (InfoTs (Some ticks)) left known typed = extent_some 0x09 (body_len little (InfoTs (Some ticks))) left (omega (arith, length_sequence little ticks))
whole_of little (InfoDst prefix) left known typed = extent_some 0x0e (body_len little (InfoDst prefix)) left (omega (arith, typed))
whole_of little (InfoSrc prefix) left known typed = extent_some 0x0c (body_len little (InfoSrc prefix)) left (omega arith)
whole_of little (Data d) left known typed = extent_some 0x15 (body_len little (Data d)) left (omega (arith, data_some little d))
whole_of little (Heartbeat reader writer first last count f l) left known typed =
    extent_some 0x07 (body_len little (Heartbeat reader writer first last count f l)) left (omega (arith, heartbeat_some little reader writer first last count))
whole_of little (AckNack reader writer set count f) left known typed =
    extent_some 0x06 (body_len little (AckNack reader writer set count f)) left (omega (arith, length-append ((reader ++ writer) ++ set_text little set) (octets little w32 count), length_32 little count))
whole_of little (Gap reader writer start set) left known typed =
    extent_some 0x08 (body_len little (Gap reader writer start set)) left (omega (arith, length-append ((reader ++ writer) ++ sequence_octets little start) (set_text little set), length-append (reader ++ writer) (sequence_octets little start), length_sequence little start))
whole_of little (Other id) left known typed = absurd known

-- ---- the body

abbrev frame_of : Bool → Sub → Framed
frame_of little s = record { id = id_of s; flags = flags_of little s; body = body_text little s ++ payload_text s }

data_back : (little : Bool) (d : DataSub) → IsDataTyped d → IsDataInRange d → DataSpells (has (flags_of little (Data d)) 0x01) (flags_of little (Data d)) (data_text little d ++ d.payload.now) d
unfolding data_text
data_back little d typed range =
    let flags = flags_of little (Data d) in
    let payload = d.payload.now in
    let list = list_text little d.inline in
    let behind = list ++ payload in
    let body = data_text little d ++ payload in
    let head : Head = record { reader = d.reader; writer = d.writer; number = d.number; behind = behind } in
    let parts : body ≡ head_text little d.reader d.writer d.number behind = simp append_assoc in
    let low : has flags 0x01 ≡ little = data_low d.form little in
    let there : has flags 0x02 ≡ true = data_lists d.form little in
    let in_list : InlineSpells true little behind d.inline payload = (length list, list_spells little d.inline payload typed.key typed.original typed.mark range.inline, sym (drop_at list payload (length list) refl)) in
    record {
      behind = behind;
      rest = payload;
      head = subst (λ (l : Bool). Spells (head_row l body) body head) (sym low) (subst (λ (b : List ℕ). Spells (head_row little b) b head) (sym parts) (head_back little d.reader d.writer behind d.number typed.entities typed.number range.number));
      inline = subst (λ (q : Bool). InlineSpells q (has flags 0x01) behind d.inline payload) (sym there) (subst (λ (l : Bool). InlineSpells true l behind d.inline payload) (sym low) in_list);
      form = data_form d.form little;
      payload = own d.form payload range.payload ∙ ap (λ (f : Form). payload_of f payload) (data_form d.form little);
    } where
      own : (form : Form) (payload : List ℕ) → IsPayloadOf form payload → payload ≡ payload_of form payload
      own forms.Nothing payload none = none
      own forms.Data payload any = refl
      own forms.KeyOnly payload any = refl

body_back : (little : Bool) (s : Sub) → IsKnown s → IsTyped s → IsInRange s → BodySpells (frame_of little s) s
body_back little Pad known typed range = refl
body_back little (InfoTs None) known typed range = rw (invalid_is little) refl
body_back little (InfoTs (Some ticks)) known typed range =
    let f = flags_of little (InfoTs (Some ticks)) in
    subst (λ (l : Bool). Spells (row_of l f 0x09) (sequence_octets little ticks ++ []) (InfoTs (Some ticks))) (sym (none_low little)) (info_ts_back little f ticks [] (none_valid little) typed)
body_back little (InfoDst prefix) known typed range = info_dst_back prefix [] typed
body_back little (InfoSrc prefix) known typed range = info_src_back prefix [] typed
body_back little (Data d) known typed range = (d, data_back little d typed range, refl)
body_back little (Heartbeat reader writer first last count f l) known typed range =
    let flags = beat f l little in
    let body = heartbeat_text little reader writer first last count ++ [] in
    let told : Bool → Bool → Sub = λ x y. Heartbeat reader writer first last count x y in
    let same : told (has flags 0x02) (has flags 0x04) ≡ told f l = ap (λ (x : Bool). told x (has flags 0x04)) (beat_final f l little) ∙ ap (told f) (beat_lives f l little) in
    subst (λ (b : Bool). Spells (row_of b flags 0x07) body (told f l)) (sym (beat_low f l little)) (subst (λ (s : Sub). Spells (row_of little flags 0x07) body s) same
    (heartbeat_back little flags reader writer first last count [] typed.entities typed.least typed.most range.0 range.1 typed.small))
body_back little (AckNack reader writer set count f) known typed range =
    let flags = flag f 0x02 + flag little 0x01 in
    let body = acknack_text little reader writer set count ++ [] in
    let same : AckNack reader writer set count (has flags 0x02) ≡ AckNack reader writer set count f = ap (AckNack reader writer set count) (ack_final f little) in
    subst (λ (b : Bool). Spells (row_of b flags 0x06) body (AckNack reader writer set count f)) (sym (ack_low f little)) (subst (λ (s : Sub). Spells (row_of little flags 0x06) body s) same
    (acknack_back little flags reader writer set count [] typed.entities typed.numbers typed.small))
body_back little (Gap reader writer start set) known typed range =
    let flags = flags_of little (Gap reader writer start set) in
    subst (λ (b : Bool). Spells (row_of b flags 0x08) (gap_text little reader writer start set ++ []) (Gap reader writer start set)) (sym (none_low little))
    (gap_back little reader writer start set [] typed.entities typed.least typed.most typed.numbers)
body_back little (Other id) known typed range = absurd known

-- ---- the whole

pub sub_spells : (little : Bool) (s : Sub) (rest : List ℕ) → HasText little s → IsTyped s → IsInRange s → SubSpells (sub_text little s ++ rest) s (length (sub_text little s))
unfolding sub_text
sub_spells little s rest text typed range =
    let body = body_text little s ++ payload_text s in
    let size : length body ≡ body_len little s = length-append (body_text little s) (payload_text s) in
    let low : has (flags_of little s) 0x01 ≡ little = low_of little s in
    let heads : Heads (sub_text little s ++ rest) (id_of s) (flags_of little s) (body_len little s) (body ++ rest) = record {
      parts = append_assoc (header_text little s) body rest ∙ ap (λ (l : Bool). id_of s ∷ flags_of little s ∷ (octets l w16 (body_len little s) ++ (body ++ rest))) (sym low);
      fits = omega (arith, text.fits);
    } in
    record {
      frame = frame_of little s;
      framed = record {
        len = body_len little s;
        after = rest;
        heads = heads;
        one_payload = one_payload_of little s text.known;
        whole = size ∙ whole_of little s (length (body ++ rest)) text.known typed;
      };
      body = body_back little s text.known typed range;
      takes = length_sub little s ∙ ap (λ (n : ℕ). 4 + n) (sym size);
    }

-- as it stands in the place that it was written to
pub back_again : (little : Bool) (s : Sub) (out old rest : List ℕ) (n : ℕ) → out ≡ sub_text little s ++ old → n ≡ length (sub_text little s) → HasText little s → IsTyped s → IsInRange s → SubSpells (take n out ++ rest) s n
back_again little s out old rest n e len text typed range =
    let front : take n out ≡ sub_text little s = ap (take n) e ∙ take_at (sub_text little s) old n (sym len) in
    rw (front, len) (sub_spells little s rest text typed range)

-- the pieces that were written one after the other
pub pieces_back : (little : Bool) (s : Sub) (out old rest header text items payload : List ℕ) (len : ℕ)
    → out ≡ (header ++ (text ++ payload)) ++ old → header ≡ (id_of s ∷ flags_of little s ∷ []) ++ octets little w16 (len + length payload) → text ≡ items → items ≡ body_text little s → payload ≡ payload_text s → len ≡ length items
    → HasText little s → IsTyped s → IsInRange s → SubSpells (take (4 + (len + length payload)) out ++ rest) s (4 + (len + length payload))
unfolding sub_text
pieces_back little s out old rest header text items payload len whole head same body load size has typed range =
    let n : len + length payload ≡ body_len little s = omega (arith, size, ap length body, ap length load) in
    let head_is : header ≡ header_text little s = head ∙ ap (λ (m : ℕ). (id_of s ∷ flags_of little s ∷ []) ++ octets little w16 m) n in
    let written : out ≡ sub_text little s ++ old =
    whole ∙ ap (λ (h : List ℕ). (h ++ (text ++ payload)) ++ old) head_is ∙ ap (λ (b : List ℕ). (header_text little s ++ (b ++ payload)) ++ old) (same ∙ body) ∙ ap (λ (p : List ℕ). (header_text little s ++ (body_text little s ++ p)) ++ old) load in
    back_again little s out old rest (4 + (len + length payload)) written (ap (λ (m : ℕ). 4 + m) n ∙ sym (length_sub little s)) has typed range
