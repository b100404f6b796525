-- One step of reading, and the text that it reads.
use Rattle.std.proofs.Common.{◌≡◌, ◌≢◌, ℕ, ◌%◌, ◌^◌, ◌<◌, ◌≤◌, Bool, List, ◌++◌, length, take, drop, Option, Some, None, refl, sym, ap, ◌∙◌, append_assoc, arith, inl, inr}
use Rattle.std.specs.Int.{w16}
use Rattle.std.proofs.lemmas.Bool.{cases_lt, cases_eq, le-ltb, lt-ltb, eq-eqb, ne_eqb}
use Rattle.std.proofs.lemmas.List.{take_at, drop_at, take-append-drop, length-append, length-take, length-drop}
use Rattle.dur_base.proofs.OctetLists.{IsBytes, IsBytes-take, IsBytes-drop}
use Rattle.dur_base.proofs.FieldNumbers.{length_16, back_16, again_16, below_16}
use Rattle.dur_base.specs.Fields.{number, octets}
use Rattle.dur_qos.specs.declared.plan.Topic.{Topic}
use Rattle.rtps_discovery.specs.declared.parameter.Parameter.{Parameter}
use Rattle.rtps_discovery.specs.Table.{parameter_at}
use Rattle.rtps_discovery.specs.Reading.{found, body_at, next_at}
use Rattle.rtps_discovery.specs.Lists.{Given, text, IsGood, Ends}

-- ---- what a text reads as

-- two fields of two octets
fields_again : (topics : List Topic) (little : Bool) (a b after : List ℕ) → length a ≡ 2 → length b ≡ 2 → next_at topics little (a ++ (b ++ after)) ≡ body_at topics little (number little w16 a) (number little w16 b) after
unfolding next_at
fields_again topics little a b after two_a two_b =
    let long : 4 ≤ length (a ++ (b ++ after)) = omega (arith, length-append a (b ++ after), length-append b after) in
    rw (le-ltb (length (a ++ (b ++ after))) 4 long, take_at a (b ++ after) 2 two_a, drop_at a (b ++ after) 2 two_a, take_at b after 2 two_b, drop_at b after 2 two_b) refl

-- id and length
head_again : (topics : List Topic) (little : Bool) (id len : ℕ) (after : List ℕ) → id < 2 ^ 16 → len < 2 ^ 16 → next_at topics little (octets little w16 id ++ (octets little w16 len ++ after)) ≡ body_at topics little id len after
head_again topics little id len after f g =
    fields_again topics little (octets little w16 id) (octets little w16 len) after (length_16 little id) (length_16 little len) ∙ rw (again_16 little id f, again_16 little len g) refl

-- where the value is there, a parameter tells what the table says
value_again : (topics : List Topic) (little : Bool) (id : ℕ) (value after : List ℕ) → id ≢ 1 → length value % 4 ≡ 0 → body_at topics little id (length value) (value ++ after) ≡ found after (parameter_at topics little id value)
value_again topics little id value after other whole =
    let long : length value ≤ length (value ++ after) = omega (arith, length-append value after) in
    rw (ne_eqb id 1 other, eq-eqb (length value % 4) 0 whole, le-ltb (length (value ++ after)) (length value) long, take_at value after (length value) refl, drop_at value after (length value) refl) refl

text_parts : (little : Bool) (p : Given) (after : List ℕ) → text little p ++ after ≡ octets little w16 p.id ++ (octets little w16 (length p.value) ++ (p.value ++ after))
text_parts little p after = simp append_assoc

pub good_again : (topics : List Topic) (little : Bool) (p : Given) (after : List ℕ) → IsGood topics little p → next_at topics little (text little p ++ after) ≡ Some (Some (p.means, after))
good_again topics little p after good =
    ap (next_at topics little) (text_parts little p after)
    ∙ head_again topics little p.id (length p.value) (p.value ++ after) good.id good.fits
    ∙ value_again topics little p.id p.value after good.no_sentinel good.whole
    ∙ ap (found after) good.tells

pub ends_again : (topics : List Topic) (little : Bool) (rest : List ℕ) → Ends little rest → next_at topics little rest ≡ Some None
ends_again topics little rest e =
    ap (next_at topics little) e.parts
    ∙ fields_again topics little (octets little w16 1) e.ignored e.after (length_16 little 1) e.two
    ∙ rw (again_16 little 1 (omega arith)) refl

-- ---- what any octets read as

pub data Front (topics : List Topic) (little : Bool) (bytes : List ℕ) : Type 0 where
  parameter : (p : Given) (after : List ℕ) → IsGood topics little p → bytes ≡ text little p ++ after → Front topics little bytes
  sentinel : Ends little bytes → Front topics little bytes
  neither : next_at topics little bytes ≡ None → Front topics little bytes

valued : (topics : List Topic) (little : Bool) (bytes : List ℕ) (id : ℕ) (value after : List ℕ) (o : Option Parameter) → parameter_at topics little id value ≡ o → bytes ≡ octets little w16 id ++ (octets little w16 (length value) ++ (value ++ after)) → id < 2 ^ 16 → length value < 2 ^ 16 → id ≢ 1 → length value % 4 ≡ 0 → Front topics little bytes
valued topics little bytes id value after None e parts f g other whole =
    neither (ap (next_at topics little) parts ∙ head_again topics little id (length value) (value ++ after) f g ∙ value_again topics little id value after other whole ∙ ap (found after) e)
valued topics little bytes id value after (Some m) e parts f g other whole =
    parameter (record { id = id; value = value; means = m }) after (record { id = f; no_sentinel = other; fits = g; whole = whole; tells = e }) (parts ∙ simp append_assoc)

begun : (topics : List Topic) (little : Bool) (bytes : List ℕ) (id len : ℕ) (after : List ℕ) → bytes ≡ octets little w16 id ++ (octets little w16 len ++ after) → id < 2 ^ 16 → len < 2 ^ 16 → id ≢ 1 → Front topics little bytes
begun topics little bytes id len after parts f g other =
    let read : next_at topics little bytes ≡ body_at topics little id len after = ap (next_at topics little) parts ∙ head_again topics little id len after f g in
    elim (cases_eq (len % 4) 0) [
      | inr odd ↦ neither (read ∙ rw (ne_eqb id 1 other, ne_eqb (len % 4) 0 odd) refl)
      | inl whole ↦
          elim (cases_lt (length after) len) [
            | inl short ↦ neither (read ∙ rw (ne_eqb id 1 other, eq-eqb (len % 4) 0 whole, lt-ltb (length after) len short) refl)
            | inr long ↦
                let fits : length (take len after) ≡ len = omega (arith, length-take len after) in
                valued topics little bytes id (take len after) (drop len after) (parameter_at topics little id (take len after)) refl (rw (fits, take-append-drop len after) parts) f (omega (arith, fits, g)) other (rw fits whole)
          ]
    ]

pub front_of : (topics : List Topic) (little : Bool) (bytes : List ℕ) → IsBytes bytes → Front topics little bytes
unfolding next_at
front_of topics little bytes fits =
    elim (cases_lt (length bytes) 4) [
      | inl short ↦ neither (rw (lt-ltb (length bytes) 4 short) refl)
      | inr long ↦
          let a = take 2 bytes in
          let b = take 2 (drop 2 bytes) in
          let after = drop 2 (drop 2 bytes) in
          let two_a : length a ≡ 2 = omega (arith, length-take 2 bytes) in
          let two_b : length b ≡ 2 = omega (arith, length-take 2 (drop 2 bytes), length-drop 2 bytes) in
          let fits_a : IsBytes a = IsBytes-take 2 bytes fits in
          let fits_b : IsBytes b = IsBytes-take 2 (drop 2 bytes) (IsBytes-drop 2 bytes fits) in
          let id = number little w16 a in
          let len = number little w16 b in
          let parts : bytes ≡ a ++ (b ++ after) = sym (take-append-drop 2 bytes) ∙ ap (λ (x : List ℕ). a ++ x) (sym (take-append-drop 2 (drop 2 bytes))) in
          let spelt : bytes ≡ octets little w16 id ++ (octets little w16 len ++ after) = rw (back_16 little a two_a fits_a, back_16 little b two_b fits_b) parts in
          elim (cases_eq id 1) [
            | inl one ↦ sentinel (record { ignored = b; after = after; parts = rw (← one, back_16 little a two_a fits_a) parts; two = two_b })
            | inr other ↦ begun topics little bytes id len after spelt (below_16 little a fits_a) (below_16 little b fits_b) other
          ]
    ]
