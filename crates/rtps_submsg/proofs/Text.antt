-- The length of a text, and the pieces of a place that it was written to.
use Rattle.std.proofs.Common.{◌≡◌, ℕ, ◌+◌, Bool, List, [], ◌∷◌, ◌++◌, length, drop, sym, ap, ◌∙◌, append_assoc, arith}
use Rattle.std.proofs.lemmas.List.{length-append, drop_at}
use Rattle.std.specs.Int.{w16}
use Rattle.dur_base.specs.Fields.{octets}
use Rattle.dur_base.proofs.FieldNumbers.{length_16}
use Rattle.rtps_submsg.specs.declared.sub.Sub.{Sub}
use Rattle.rtps_submsg.specs.Writing.{body_text, payload_text, id_of, own_flags, flag, header_text, sub_text}

length_header : (little : Bool) (s : Sub) → length (header_text little s) ≡ 4
length_header little s =
    length-append (id_of s ∷ (own_flags s + flag little 0x01) ∷ []) (octets little w16 (length (body_text little s) + length (payload_text s)))
    ∙ ap (λ (x : ℕ). 2 + x) (length_16 little (length (body_text little s) + length (payload_text s)))

pub length_sub : (little : Bool) (s : Sub) → length (sub_text little s) ≡ 4 + (length (body_text little s) + length (payload_text s))
unfolding sub_text
length_sub little s =
    length-append (header_text little s) (body_text little s ++ payload_text s) ∙ omega (arith, length_header little s, length-append (body_text little s) (payload_text s))

-- three pieces were written over three others
pub joined : (h m p a b c r old : List ℕ) (n : ℕ) → old ≡ a ++ (b ++ (c ++ r)) → n ≡ length a + (length b + length c) → h ++ (m ++ (p ++ r)) ≡ (h ++ (m ++ p)) ++ drop n old
joined h m p a b c r old n e len =
    let whole : old ≡ (a ++ (b ++ c)) ++ r = e ∙ ap (λ (x : List ℕ). a ++ x) (sym (append_assoc b c r)) ∙ sym (append_assoc a (b ++ c) r) in
    let size : length (a ++ (b ++ c)) ≡ n = omega (arith, length-append a (b ++ c), length-append b c, len) in
    let behind : drop n old ≡ r = ap (drop n) whole ∙ drop_at (a ++ (b ++ c)) r n size in
    rw behind (ap (λ (x : List ℕ). h ++ x) (sym (append_assoc m p r)) ∙ sym (append_assoc h (m ++ p) r))
