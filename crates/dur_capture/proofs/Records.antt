-- The places of a record's fields, and its spelling.
use Rattle.std.proofs.Common.{◌≡◌, ℕ, ◌+◌, ◌-◌, ◌≤◌, ◌^◌, List, ◌++◌, length, take, drop, refl, sym, ap, subst, ◌∙◌, append_assoc, length-append, arith}
use Rattle.std.specs.Prelude.{slice_range, None}
use Rattle.std.specs.declared.option.Option.{Option}
use Rattle.dur_capture.specs.declared.fault.CapFault.{CapFault}
use Rattle.std.specs.Int.{w16, w32, w64, to_le_bytes, from_le_bytes}
use Rattle.std.proofs.lemmas.List.{drop_at, take-append-drop, length-take, length-drop, drop-take, take-append-le, drop-append-le}
use Rattle.std.proofs.lemmas.List.Folds.{drop_split}
use Rattle.std.proofs.lemmas.Nat.{le_bytes_2, le_bytes_4, le_bytes_8}
use Rattle.dur_base.proofs.OctetLists.{IsBytes, IsBytes-range, IsBytes-take}
use Rattle.dur_capture.specs.declared.record.Record.{Record}
use Rattle.dur_capture.specs.declared.front.Head.{Head}
use Rattle.dur_capture.specs.Capture.{record_text, Fits, count_at}
use Rattle.dur_capture.specs.Front.{record_here, record_of, IsWhole, HasHead}
use Rattle.dur_capture.specs.Feeding.{Feeding, within, Takes}
use Rattle.dur_capture.specs.Look.{after, Offers}

glue : (a b c x y z w : List ℕ) → a ≡ x → b ≡ y → c ≡ z → ((a ++ b ++ c) ++ w) ≡ ((x ++ y ++ z) ++ w)
glue a b c x y z w p q r = cc

range_len : (a b : ℕ) (bytes : List ℕ) → a ≤ b → b ≤ length bytes → length (slice_range bytes a b) ≡ b - a
range_len a b bytes ab fits = omega (arith, length-take (b - a) (drop a bytes), length-drop a bytes)

head_split : (bytes : List ℕ) → bytes ≡ (slice_range bytes 0 8 ++ slice_range bytes 8 10 ++ slice_range bytes 10 14) ++ drop 14 bytes
head_split bytes =
    drop_split bytes 0 8 (omega arith)
    ∙ ap (λ (t : List ℕ). slice_range bytes 0 8 ++ t) (drop_split bytes 8 10 (omega arith) ∙ ap (λ (t : List ℕ). slice_range bytes 8 10 ++ t) (drop_split bytes 10 14 (omega arith)))
    ∙ sym (append_assoc (slice_range bytes 0 8) (slice_range bytes 8 10) (slice_range bytes 10 14 ++ drop 14 bytes))
    ∙ sym (append_assoc (slice_range bytes 0 8 ++ slice_range bytes 8 10) (slice_range bytes 10 14) (drop 14 bytes))

-- where a whole record stands, it is spelled so
pub record_found : (bytes : List ℕ) → IsBytes bytes → IsWhole bytes → bytes ≡ record_text (record_here bytes) ++ drop (count_at bytes) (drop 14 bytes)
unfolding count_at
record_found bytes fits whole =
    let n = count_at bytes in
    let len : length (take n (drop 14 bytes)) ≡ n = omega (arith, length-take n (drop 14 bytes), length-drop 14 bytes, whole.body) in
    let m : to_le_bytes w64 (from_le_bytes w64 (slice_range bytes 0 8)) ≡ slice_range bytes 0 8 = le_bytes_8 (slice_range bytes 0 8) _ (range_len 0 8 bytes (omega arith) (omega (arith, whole.head))) (IsBytes-range 0 8 bytes fits) refl in
    let p : to_le_bytes w16 (from_le_bytes w16 (slice_range bytes 8 10)) ≡ slice_range bytes 8 10 = le_bytes_2 (slice_range bytes 8 10) _ (range_len 8 10 bytes (omega arith) (omega (arith, whole.head))) (IsBytes-range 8 10 bytes fits) refl in
    let c : to_le_bytes w32 (length (take n (drop 14 bytes))) ≡ slice_range bytes 10 14 = le_bytes_4 (slice_range bytes 10 14) _ (range_len 10 14 bytes (omega arith) (omega (arith, whole.head))) (IsBytes-range 10 14 bytes fits) len in
    head_split bytes
    ∙ ap (λ (t : List ℕ). (slice_range bytes 0 8 ++ slice_range bytes 8 10 ++ slice_range bytes 10 14) ++ t) (sym (take-append-drop n (drop 14 bytes)))
    ∙ sym (append_assoc (slice_range bytes 0 8 ++ slice_range bytes 8 10 ++ slice_range bytes 10 14) (take n (drop 14 bytes)) (drop n (drop 14 bytes)))
    ∙ ap (λ (t : List ℕ). t ++ drop n (drop 14 bytes)) (sym (glue _ _ _ _ _ _ (take n (drop 14 bytes)) m p c))

-- a record at the front of what is within the limit is taken
regroup : (left w r rest more : List ℕ) → w ++ more ≡ left → w ≡ r ++ rest → left ≡ r ++ drop (length r) left
regroup left w r rest more p q =
    let all : left ≡ r ++ (rest ++ more) = sym p ∙ ap (λ (t : List ℕ). t ++ more) q ∙ append_assoc r rest more in
    all ∙ ap (λ (t : List ℕ). r ++ t) (sym (ap (drop (length r)) all ∙ drop_at r (rest ++ more) (length r) refl))

-- what stands after the head is the same, where more octets follow
body_more : (w more left : List ℕ) (n : ℕ) → w ++ more ≡ left → 14 + n ≤ length w → take n (drop 14 w) ≡ take n (drop 14 left)
body_more w more left n p fits =
    sym (ap (take n) (ap (drop 14) (sym p) ∙ drop-append-le 14 w more (omega arith)) ∙ take-append-le n (drop 14 w) more (omega (arith, length-drop 14 w)))

same_of : (w left : List ℕ) (head : Head) → take head.count (drop 14 w) ≡ take head.count (drop 14 left) → record_of head w ≡ record_of head left
same_of w left head p = ap (λ (bytes : List ℕ). let r : Record = record { moment = head.moment; port = head.port; bytes = bytes } in r) p

pub offers : (f : Feeding) (head : Head) (w : List ℕ) → IsBytes f.left → f.before + f.taken ≤ 2 ^ 40 → w ≡ within f → HasHead w head → Offers f head
offers f head w octets limit is h =
    let room = 2 ^ 40 - (f.before + f.taken) in
    let n = count_at w in
    let bytes : IsBytes w = subst IsBytes (sym is) (IsBytes-take room f.left octets) in
    let more : w ++ drop room f.left ≡ f.left = ap (λ (t : List ℕ). t ++ drop room f.left) is ∙ take-append-drop room f.left in
    let body : 14 + head.count ≤ length w = omega (arith, h.count, h.whole.body) in
    let same : record_here w ≡ record_of head f.left = h.here ∙ same_of w f.left head (body_more w (drop room f.left) f.left head.count more body) in
    let found : w ≡ record_text (record_of head f.left) ++ drop n (drop 14 w) = subst (λ (e : Record). w ≡ record_text e ++ drop n (drop 14 w)) same (record_found w bytes h.whole) in
    let len : length w ≤ length f.left = omega (arith, ap length more, length-append w (drop room f.left)) in
    let size : length (record_text (record_of head f.left)) ≡ 14 + head.count = omega (arith, length-take head.count (drop 14 f.left), length-drop 14 f.left) in
    record {
      takes = record {
        parts = subst (λ (k : ℕ). f.left ≡ record_text (record_of head f.left) ++ drop k f.left) size (regroup f.left w (record_text (record_of head f.left)) (drop n (drop 14 w)) (drop room f.left) more found);
        fits = subst Fits (same_of w f.left head (body_more w (drop room f.left) f.left head.count more body)) h.fits;
        within = omega (arith, body, ap length is, length-take room f.left);
        after = ap (λ (k : ℕ). let g : Feeding = record f { taken = f.taken + k; left = drop (14 + head.count) f.left } in g) (sym size);
      };
      body = omega (arith, body, len);
    }

-- a record that was cut off the front is handed out
pub handed_out : (self : Feeding) (before taken : ℕ) (items left front body rest : List ℕ) (fault : Option CapFault) (head : Head)
    → record { before = before; taken = taken; left = items; fault = fault } ≡ self → fault ≡ None → left ≡ items
    → front ≡ take (14 + head.count) items → body ≡ drop 14 front → rest ≡ drop (14 + head.count) items
    → Offers (record { before = before; taken = taken; left = left; fault = None }) head
    → Takes self (record { moment = head.moment; port = head.port; bytes = body }) (record { before = before; taken = taken + (14 + head.count); left = rest; fault = fault })
handed_out self before taken items left front body rest fault head same none is cut skip after offered =
    let old : Feeding = record { before = before; taken = taken; left = left; fault = None } in
    let new : Feeding = record { before = before; taken = taken + (14 + head.count); left = drop (14 + head.count) left; fault = None } in
    let wanted : Feeding = record { before = before; taken = taken + (14 + head.count); left = rest; fault = fault } in
    let r : Record = record { moment = head.moment; port = head.port; bytes = body } in
    let octets : body ≡ take head.count (drop 14 left) = skip ∙ ap (drop 14) cut ∙ drop-take 14 head.count items ∙ ap (λ (t : List ℕ). take head.count (drop 14 t)) (sym is) in
    let from : old ≡ self = cc in
    let to : new ≡ wanted = cc in
    let named : record_of head left ≡ r = cc in
    subst (λ (f : Feeding). Takes f r wanted) from (subst (λ (g : Feeding). Takes old r g) to (subst (λ (e : Record). Takes old e new) named offered.takes))
