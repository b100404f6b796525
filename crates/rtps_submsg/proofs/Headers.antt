-- A header is read as what it says, and any octets have a header or break.
use Rattle.std.proofs.Common.{◌≡◌, ℕ, suc, ◌<◌, ◌≤◌, Bool, true, false, List, [], ◌∷◌, ◌++◌, length, take, drop, Result, Ok, Err, refl, sym, ap, subst, ◌∙◌, inl, inr, arith}
use Rattle.std.specs.Prelude.{slice_index}
use Rattle.std.specs.Int.{w16}
use Rattle.std.proofs.lemmas.Bool.{cases_lt, lt-ltb, le-ltb}
use Rattle.std.proofs.lemmas.List.{take_at, drop_at, take-append-drop, length-append, length-take}
use Rattle.dur_base.specs.Fields.{number, octets}
use Rattle.dur_base.proofs.OctetLists.{IsBytes, IsBytes-take}
use Rattle.dur_base.proofs.FieldNumbers.{length_16, back_16, again_16, below_16}
use Rattle.rtps_submsg.specs.declared.sub.SubFault.{SubFault}
use Rattle.rtps_submsg.specs.declared.sub.SubKind.{SubKind}
use Rattle.rtps_submsg.specs.declared.sub.SubKind.TheVariants.{Cut, BothDataAndKey, BadNumber, BadSet, BadRange, List as InList, BadOffset}
use Rattle.rtps_submsg.specs.Rows.{has}
use Rattle.rtps_submsg.specs.Headers.{Heads, has_both, extent, Framed, Frames, IsBodyCut, HeadBreaks}
use Rattle.rtps_submsg.specs.HeaderSteps.{fault, framed, framed_at}

-- ---- what a header reads as

head_read : (bytes : List ℕ) (id flags len : ℕ) (rest : List ℕ) → Heads bytes id flags len rest → framed_at bytes ≡ framed id flags len rest
unfolding framed_at
head_read bytes id flags len rest h =
    let text = octets (has flags 0x01) w16 len in
    let whole : List ℕ = id ∷ flags ∷ (text ++ rest) in
    let long : 4 ≤ length whole = omega (arith, length-append text rest, length_16 (has flags 0x01) len) in
    ap framed_at h.parts
    ∙ rw (le-ltb (length whole) 4 long, take_at text rest 2 (length_16 (has flags 0x01) len), drop_at text rest 2 (length_16 (has flags 0x01) len), again_16 (has flags 0x01) len h.fits) refl

pub frames_read : (bytes : List ℕ) (f : Framed) → Frames bytes f → framed_at bytes ≡ Ok f
frames_read bytes f x =
    let long : length f.body ≤ length (f.body ++ x.after) = omega (arith, length-append f.body x.after) in
    head_read bytes f.id f.flags x.len (f.body ++ x.after) x.heads
    ∙ rw (x.one_payload, ← x.whole, le-ltb (length (f.body ++ x.after)) (length f.body) long, take_at f.body x.after (length f.body) refl) refl

body_cut_read : (bytes : List ℕ) (at : ℕ) → IsBodyCut bytes → at ≡ 4 → framed_at bytes ≡ fault at Cut
body_cut_read bytes at c place =
    head_read bytes c.id c.flags c.len c.rest c.heads ∙ rw (c.one_payload, lt-ltb (length c.rest) (extent c.id c.len (length c.rest)) c.short, place) refl

pub head_breaks_read : (bytes : List ℕ) (at : ℕ) (kind : SubKind) → HeadBreaks bytes at kind → framed_at bytes ≡ fault at kind
unfolding framed_at
head_breaks_read bytes at Cut (inl b) = rw (lt-ltb (length bytes) 4 b.0, b.1) refl
head_breaks_read bytes at Cut (inr b) = body_cut_read bytes at b.0 b.1
head_breaks_read bytes at BothDataAndKey b = head_read bytes b.0.id b.0.flags b.0.len b.0.rest b.0.heads ∙ rw (b.0.both, b.1) refl
head_breaks_read bytes at BadNumber b = absurd b
head_breaks_read bytes at BadSet b = absurd b
head_breaks_read bytes at BadRange b = absurd b
head_breaks_read bytes at (InList k) b = absurd b
head_breaks_read bytes at BadOffset b = absurd b

-- ---- what any octets read as

abbrev id_at : List ℕ → ℕ
id_at bytes = slice_index bytes 0

abbrev flags_at : List ℕ → ℕ
flags_at bytes = slice_index bytes 1

abbrev len_at : List ℕ → ℕ
len_at bytes = number (has (flags_at bytes) 0x01) w16 (take 2 (drop 2 bytes))

heads_at : (bytes : List ℕ) → IsBytes bytes → 4 ≤ length bytes → Heads bytes (id_at bytes) (flags_at bytes) (len_at bytes) (drop 4 bytes)
heads_at [] fits long = absurd (omega (arith, long))
heads_at (a ∷ []) fits long = absurd (omega (arith, long))
heads_at (a ∷ b ∷ t) fits long =
    let two : length (take 2 t) ≡ 2 = omega (arith, length-take 2 t, long) in
    let small : IsBytes (take 2 t) = IsBytes-take 2 t (λ i. fits (suc (suc i))) in
    record {
      parts = ap (λ (x : List ℕ). a ∷ b ∷ x) (sym (take-append-drop 2 t) ∙ ap (λ (x : List ℕ). x ++ drop 2 t) (sym (back_16 (has b 0x01) (take 2 t) two small)));
      fits = below_16 (has b 0x01) (take 2 t) small;
    }

framed_long : (bytes : List ℕ) → 4 ≤ length bytes → framed_at bytes ≡ framed (id_at bytes) (flags_at bytes) (len_at bytes) (drop 4 bytes)
unfolding framed_at
framed_long bytes long = rw (le-ltb (length bytes) 4 long) refl

framed_short : (bytes : List ℕ) → length bytes < 4 → framed_at bytes ≡ fault 0 Cut
unfolding framed_at
framed_short bytes short = rw (lt-ltb (length bytes) 4 short) refl

pub data Header (bytes : List ℕ) : Type 0 where
  good : (f : Framed) → Frames bytes f → Header bytes
  breaks : (at : ℕ) (kind : SubKind) → HeadBreaks bytes at kind → Header bytes

long_header : (bytes : List ℕ) (id flags len : ℕ) (rest : List ℕ) (both : Bool) → has_both id flags ≡ both → Heads bytes id flags len rest → Header bytes
long_header bytes id flags len rest true e heads = breaks 1 BothDataAndKey (record { id = id; flags = flags; len = len; rest = rest; heads = heads; both = e }, refl)
long_header bytes id flags len rest false e heads =
    let n = extent id len (length rest) in
    elim (cases_lt (length rest) n) [
      | inl short ↦ breaks 4 Cut (inr (record { id = id; flags = flags; len = len; rest = rest; heads = heads; one_payload = e; short = short }, refl))
      | inr long ↦
          let parts : take n rest ++ drop n rest ≡ rest = take-append-drop n rest in
          let size : length (take n rest) ≡ n = omega (arith, length-take n rest, long) in
          good (record { id = id; flags = flags; body = take n rest }) (record {
            len = len;
            after = drop n rest;
            heads = subst (Heads bytes id flags len) (sym parts) heads;
            one_payload = e;
            whole = size ∙ ap (λ (x : List ℕ). extent id len (length x)) (sym parts);
          })
    ]

pub header_of : (bytes : List ℕ) → IsBytes bytes → Header bytes
header_of bytes fits =
    elim (cases_lt (length bytes) 4) [
      | inl short ↦ breaks 0 Cut (inl (short, refl))
      | inr long ↦ long_header bytes (id_at bytes) (flags_at bytes) (len_at bytes) (drop 4 bytes) (has_both (id_at bytes) (flags_at bytes)) refl (heads_at bytes fits long)
    ]

-- ---- what the reader finds

abbrev Answer : Type 0
Answer = Result Framed SubFault

abbrev answer : Framed → Answer
answer f = Ok f

abbrev refusal : ℕ → SubKind → Answer
refusal at kind = Err (record { at = at; kind = kind })

same_frame : (f g : Framed) → answer f ≡ answer g → f ≡ g
same_frame f g e = cc

not_both : (f : Framed) (at : ℕ) (kind : SubKind) → answer f ≡ refusal at kind → ⊥
not_both f at kind e = cc

abbrev fault_in : ℕ → SubKind → SubFault
fault_in at kind = record { at = at; kind = kind }

one_fault : (f g : SubFault) (x y : Answer) → x ≡ Err f → y ≡ Err g → x ≡ y → f ≡ g
one_fault f g x y a b e = cc

same_fault : (at place : ℕ) (kind other : SubKind) → refusal at kind ≡ refusal place other → (at ≡ place) × (kind ≡ other)
same_fault at place kind other e =
    let same : fault_in at kind ≡ fault_in place other = one_fault (fault_in at kind) (fault_in place other) (refusal at kind) (refusal place other) refl refl e in
    (ap (λ (f : SubFault). f.at) same, ap (λ (f : SubFault). f.kind) same)

pub read_frames : (bytes : List ℕ) (f : Framed) → IsBytes bytes → framed_at bytes ≡ Ok f → Frames bytes f
read_frames bytes f fits read = elim (header_of bytes fits) [
  | good g x ↦ subst (Frames bytes) (same_frame g f (sym (frames_read bytes g x) ∙ read)) x
  | breaks at kind b ↦ absurd (not_both f at kind (sym read ∙ head_breaks_read bytes at kind b))
]

pub read_head_breaks : (bytes : List ℕ) (at : ℕ) (kind : SubKind) → IsBytes bytes → framed_at bytes ≡ fault at kind → HeadBreaks bytes at kind
read_head_breaks bytes at kind fits read = elim (header_of bytes fits) [
  | good g x ↦ absurd (not_both g at kind (sym (frames_read bytes g x) ∙ read))
  | breaks place other b ↦
      let e : (place ≡ at) × (other ≡ kind) = same_fault place at other kind (sym (head_breaks_read bytes place other b) ∙ read) in
      subst (HeadBreaks bytes at) e.1 (subst (λ (n : ℕ). HeadBreaks bytes n other) e.0 b)
]
