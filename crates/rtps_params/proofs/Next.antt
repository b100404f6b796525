-- One step of reading, and the text that it reads.
use Rattle.std.proofs.Common.{◌≡◌, ℕ, ◌%◌, ◌^◌, ◌<◌, ◌≤◌, ◌⊎◌, Bool, List, ◌++◌, length, take, drop, Option, Some, None, Ok, Err, refl, sym, ap, ◌∙◌, append_assoc, arith, inl, inr}
use Rattle.std.specs.Int.{w16}
use Rattle.std.proofs.lemmas.Bool.{cases_lt, cases_eq, le-ltb, lt-ltb, eq-eqb, ne_eqb}
use Rattle.std.proofs.lemmas.List.{take_at, drop_at, take-append-drop, length-append, length-take, length-drop}
use Rattle.dur_base.proofs.OctetLists.{IsBytes, IsBytes-take, IsBytes-drop}
use Rattle.rtps_params.specs.declared.parameter.ListKind.{ListKind}
use Rattle.rtps_params.specs.declared.parameter.ListKind.TheVariants.{Cut, OddLength, BadValue}
use Rattle.rtps_params.specs.declared.parameter.Parameter.{Parameter}
use Rattle.dur_base.specs.Fields.{number, octets}
use Rattle.rtps_params.specs.Table.{parameter_at}
use Rattle.rtps_params.specs.Reading.{field_at, found, body_at, next_at}
use Rattle.rtps_params.specs.Lists.{Given, text, IsGood, Ends, Begins, IsValueCut, Breaks}
use Rattle.dur_base.proofs.FieldNumbers.{length_16, back_16, again_16, below_16}

-- ---- what a text reads as

field_two : (little : Bool) (a rest : List ℕ) → length a ≡ 2 → field_at little (a ++ rest) ≡ Ok (number little w16 a, rest)
unfolding field_at
field_two little a rest two =
    let long : 2 ≤ length (a ++ rest) = omega (arith, length-append a rest) in
    rw (le-ltb (length (a ++ rest)) 2 long, take_at a rest 2 two, drop_at a rest 2 two) refl

field_again : (little : Bool) (n : ℕ) (rest : List ℕ) → n < 2 ^ 16 → field_at little (octets little w16 n ++ rest) ≡ Ok (n, rest)
field_again little n rest fits = field_two little (octets little w16 n) rest (length_16 little n) ∙ ap (λ (x : ℕ). Ok (x, rest)) (again_16 little n fits)

field_cut : (little : Bool) (bytes : List ℕ) → length bytes < 2 → field_at little bytes ≡ Err Cut
unfolding field_at
field_cut little bytes lt = rw (lt-ltb (length bytes) 2 lt) refl

head_again : (little : Bool) (id len : ℕ) (after : List ℕ) → id < 2 ^ 16 → len < 2 ^ 16 → next_at little (octets little w16 id ++ (octets little w16 len ++ after)) ≡ body_at little id len after
unfolding next_at
head_again little id len after f g = rw (field_again little id (octets little w16 len ++ after) f, field_again little len after g) refl

begins_again : (little : Bool) (rest : List ℕ) (id len : ℕ) (after : List ℕ) → Begins little rest id len after → next_at little rest ≡ body_at little id len after
begins_again little rest id len after b = ap (next_at little) b.parts ∙ head_again little id len after b.id_fits b.len_fits

-- where the value is there, a parameter tells what the table says
value_again : (little : Bool) (rest : List ℕ) (id : ℕ) (value after : List ℕ) → Begins little rest id (length value) (value ++ after) → length value % 4 ≡ 0 → next_at little rest ≡ found id after (parameter_at little id value)
value_again little rest id value after b whole =
    let long : length value ≤ length (value ++ after) = omega (arith, length-append value after) in
    begins_again little rest id (length value) (value ++ after) b ∙ rw (ne_eqb id 1 b.no_sentinel, eq-eqb (length value % 4) 0 whole, le-ltb (length (value ++ after)) (length value) long, take_at value after (length value) refl, drop_at value after (length value) refl) refl

pub text_begins : (little : Bool) (p : Given) (after : List ℕ) → IsGood little p → Begins little (text little p ++ after) p.id (length p.value) (p.value ++ after)
text_begins little p after good = record {
  parts = simp append_assoc;
  id_fits = good.id;
  len_fits = good.fits;
  no_sentinel = good.no_sentinel;
}

pub good_again : (little : Bool) (p : Given) (after : List ℕ) → IsGood little p → next_at little (text little p ++ after) ≡ Ok (Some (p.means, after))
good_again little p after good =
    value_again little (text little p ++ after) p.id p.value after (text_begins little p after good) good.whole ∙ ap (found p.id after) good.tells

pub ends_again : (little : Bool) (rest : List ℕ) → Ends little rest → next_at little rest ≡ Ok None
unfolding next_at
ends_again little rest e =
    let one : field_at little rest ≡ Ok (1, e.ignored ++ e.after) = ap (field_at little) e.parts ∙ field_again little 1 (e.ignored ++ e.after) (omega arith) in
    rw (one, field_two little e.ignored e.after e.two) refl

cut_again : (little : Bool) (rest : List ℕ) → (length rest < 4) ⊎ IsValueCut little rest → next_at little rest ≡ Err Cut
unfolding next_at
cut_again little rest (inl lt) =
    elim (cases_lt (length rest) 2) [
      | inl less ↦ rw (field_cut little rest less) refl
      | inr le ↦
          let a = take 2 rest in
          let two : length a ≡ 2 = omega (arith, length-take 2 rest) in
          let less : length (drop 2 rest) < 2 = omega (arith, length-drop 2 rest) in
          let one : field_at little rest ≡ Ok (number little w16 a, drop 2 rest) = ap (field_at little) (sym (take-append-drop 2 rest)) ∙ field_two little a (drop 2 rest) two in
          rw (one, field_cut little (drop 2 rest) less) refl
    ]
cut_again little rest (inr c) =
    begins_again little rest c.id c.len c.after c.begins ∙ rw (ne_eqb c.id 1 c.begins.no_sentinel, eq-eqb (c.len % 4) 0 c.whole, lt-ltb (length c.after) c.len c.short) refl

pub breaks_again : (little : Bool) (rest : List ℕ) (kind : ListKind) → Breaks little rest kind → next_at little rest ≡ Err kind
breaks_again little rest Cut b = cut_again little rest b
breaks_again little rest OddLength b =
    begins_again little rest b.id b.len b.after b.begins ∙ rw (ne_eqb b.id 1 b.begins.no_sentinel, ne_eqb (b.len % 4) 0 b.odd) refl
breaks_again little rest (BadValue id) b =
    value_again little rest id b.value b.after b.begins b.whole ∙ ap (found id b.after) b.bad

-- ---- what any octets read as

pub data Front (little : Bool) (bytes : List ℕ) : Type 0 where
  parameter : (p : Given) (after : List ℕ) → IsGood little p → bytes ≡ text little p ++ after → Front little bytes
  sentinel : Ends little bytes → Front little bytes
  fault : (kind : ListKind) → Breaks little bytes kind → Front little bytes

valued : (little : Bool) (bytes : List ℕ) (id : ℕ) (value after : List ℕ) (o : Option Parameter) → parameter_at little id value ≡ o → Begins little bytes id (length value) (value ++ after) → length value % 4 ≡ 0 → Front little bytes
valued little bytes id value after None e b whole = fault (BadValue id) (record { value = value; after = after; begins = b; whole = whole; bad = e })
valued little bytes id value after (Some m) e b whole =
    parameter (record { id = id; value = value; means = m }) after (record { id = b.id_fits; no_sentinel = b.no_sentinel; fits = b.len_fits; whole = whole; tells = e }) (b.parts ∙ simp append_assoc)

begun : (little : Bool) (bytes : List ℕ) (id len : ℕ) (after : List ℕ) → Begins little bytes id len after → Front little bytes
begun little bytes id len after b =
    elim (cases_eq (len % 4) 0) [
      | inr odd ↦ fault OddLength (record { id = id; len = len; after = after; begins = b; odd = odd })
      | inl whole ↦
          elim (cases_lt (length after) len) [
            | inl short ↦ fault Cut (inr (record { id = id; len = len; after = after; begins = b; whole = whole; short = short }))
            | inr long ↦
                let fits : length (take len after) ≡ len = omega (arith, length-take len after) in
                let parts : bytes ≡ octets little w16 id ++ (octets little w16 (length (take len after)) ++ (take len after ++ drop len after)) = rw (fits, take-append-drop len after) b.parts in
                valued little bytes id (take len after) (drop len after) (parameter_at little id (take len after)) refl (record { parts = parts; id_fits = b.id_fits; len_fits = omega (arith, fits, b.len_fits); no_sentinel = b.no_sentinel }) (rw fits whole)
          ]
    ]

pub front_of : (little : Bool) (bytes : List ℕ) → IsBytes bytes → Front little bytes
front_of little bytes fits =
    elim (cases_lt (length bytes) 4) [
      | inl short ↦ fault Cut (inl short)
      | inr long ↦
          let a = take 2 bytes in
          let b = take 2 (drop 2 bytes) in
          let after = drop 2 (drop 2 bytes) in
          let two_a : length a ≡ 2 = omega (arith, length-take 2 bytes) in
          let two_b : length b ≡ 2 = omega (arith, length-take 2 (drop 2 bytes), length-drop 2 bytes) in
          let fits_a : IsBytes a = IsBytes-take 2 bytes fits in
          let fits_b : IsBytes b = IsBytes-take 2 (drop 2 bytes) (IsBytes-drop 2 bytes fits) in
          let id = number little w16 a in
          let len = number little w16 b in
          let parts : bytes ≡ a ++ (b ++ after) = sym (take-append-drop 2 bytes) ∙ ap (λ (x : List ℕ). a ++ x) (sym (take-append-drop 2 (drop 2 bytes))) in
          let spelt : bytes ≡ octets little w16 id ++ (octets little w16 len ++ after) = rw (back_16 little a two_a fits_a, back_16 little b two_b fits_b) parts in
          elim (cases_eq id 1) [
            | inl one ↦ sentinel (record { ignored = b; after = after; parts = rw (← one, back_16 little a two_a fits_a) parts; two = two_b })
            | inr other ↦ begun little bytes id len after (record { parts = spelt; id_fits = below_16 little a fits_a; len_fits = below_16 little b fits_b; no_sentinel = other })
          ]
    ]
