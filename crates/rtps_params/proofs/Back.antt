-- What is written spells the inline that it was written for.
use Rattle.std.proofs.Common.{◌≡◌, ◌≢◌, ℕ, zero, suc, ◌+◌, ◌-◌, ◌*◌, ◌/◌, ◌%◌, ◌<◌, ◌≤◌, ◌^◌, Bool, List, [], ◌∷◌, ◌++◌, length, map, take, drop, Option, Some, None, refl, sym, ap, subst, ◌∙◌, append_assoc, arith}
use Rattle.std.specs.Int.{w16, w32}
use Rattle.std.proofs.lemmas.List.{append-nil, length-append, map-append, take_at, drop_at, take_all}
use Rattle.std.proofs.lemmas.Bool.{le-ltb, ne_eqb, le-leb, lt-leb}
use Rattle.dur_base.specs.declared.sample.SetMark.{SetMark}
use Rattle.dur_base.specs.declared.sample.SetMark.TheVariants.{NoSet, End, Of}
use Rattle.rtps_params.specs.declared.inline.Inline.{Inline}
use Rattle.rtps_params.specs.declared.parameter.Parameter.{Parameter}
use Rattle.rtps_params.specs.declared.parameter.Parameter.TheVariants.{Hash, Status, Lifespan, Set, Original}
use Rattle.dur_base.specs.Goodness.{IsLifespan, IsMark, IsOriginal}
use Rattle.dur_base.specs.Fields.{number, octets, sequence, sequence_octets}
use Rattle.rtps_params.specs.Table.{sample_number_of, hash_at, status_at, lifespan_at, set_at, original_at, parameter_at}
use Rattle.rtps_params.specs.Meaning.{inline_of, with_parameter}
use Rattle.rtps_params.specs.Lists.{Given, text, texts, IsGood, AreGood, Ends, ListSpells}
use Rattle.rtps_params.specs.Writing.{parameter_text, sentinel_text, hash_text, status_text, original_text, lifespan_text, set_text, list_text, IsWholeKey, IsWholeOriginal, IsMarkOfNumber, IsWritable}
use Rattle.dur_base.proofs.FieldNumbers.{length_16, length_32, again_32, length_sequence, sequence_again}
use Rattle.rtps_params.proofs.Loop.{inline-push}

-- ---- the halves of eight octets

high_is : (little : Bool) (n : ℕ) (more : List ℕ) → n < 2 ^ 64 → number little w32 (take 4 (sequence_octets little n ++ more)) ≡ n / 2 ^ 32
unfolding sequence_octets
high_is little n more lt =
    let high = octets little w32 (n / 2 ^ 32) in
    let low = octets little w32 (n % 2 ^ 32) in
    let parts : (high ++ low) ++ more ≡ high ++ (low ++ more) = append_assoc high low more in
    rw (parts, take_at high (low ++ more) 4 (length_32 little (n / 2 ^ 32))) (again_32 little (n / 2 ^ 32) (omega arith))

low_is : (little : Bool) (n : ℕ) (more : List ℕ) → number little w32 (take 4 (drop 4 (sequence_octets little n ++ more))) ≡ n % 2 ^ 32
unfolding sequence_octets
low_is little n more =
    let high = octets little w32 (n / 2 ^ 32) in
    let low = octets little w32 (n % 2 ^ 32) in
    let parts : (high ++ low) ++ more ≡ high ++ (low ++ more) = append_assoc high low more in
    rw (parts, drop_at high (low ++ more) 4 (length_32 little (n / 2 ^ 32)), take_at low more 4 (length_32 little (n % 2 ^ 32))) (again_32 little (n % 2 ^ 32) (omega arith))

-- ---- what each value tells

abbrev given : ℕ → List ℕ → Parameter → Given
given id value m = record { id = id; value = value; means = m }

hash_good : (little : Bool) (key : List ℕ) → length key ≡ 16 → IsGood little (given 0x70 key (Hash key))
unfolding hash_at parameter_at
hash_good little key len = record {
  id = omega arith;
  no_sentinel = λ e. omega (arith, e);
  fits = omega arith;
  whole = rw len refl;
  tells = rw (le-ltb (length key) 16 (omega arith), take_all 16 key (omega arith)) refl;
}

status_good : (little : Bool) (s : ℕ) → s ≤ 3 → IsGood little (given 0x71 (0 ∷ 0 ∷ 0 ∷ s ∷ []) (Status s))
unfolding status_at parameter_at
status_good little s le = record {
  id = omega arith;
  no_sentinel = λ e. omega (arith, e);
  fits = omega arith;
  whole = refl;
  tells = let e : s % 4 ≡ s = omega arith in ap (λ (x : ℕ). Some (Status x)) e;
}

lifespan_good : (little : Bool) (t : ℕ) → t < 2147483647 * 2 ^ 32 → IsGood little (given 0x2b (sequence_octets little t) (Lifespan (Some t)))
unfolding lifespan_at parameter_at
lifespan_good little t lt =
    let v = sequence_octets little t in
    let len : length v ≡ 8 = length_sequence little t in
    let all : v ++ [] ≡ v = append-nil v in
    let high : number little w32 (take 4 v) ≡ t / 2 ^ 32 = ap (λ (x : List ℕ). number little w32 (take 4 x)) (sym all) ∙ high_is little t [] (omega arith) in
    let low : number little w32 (take 4 (drop 4 v)) ≡ t % 2 ^ 32 = ap (λ (x : List ℕ). number little w32 (take 4 (drop 4 x))) (sym all) ∙ low_is little t [] in
    let below : t / 2 ^ 32 < 2147483647 = omega arith in
    let other : t / 2 ^ 32 ≢ 2147483647 = λ e. omega (arith, e) in
    let same : t / 2 ^ 32 * 2 ^ 32 + t % 2 ^ 32 ≡ t = omega arith in
    record {
      id = omega arith;
      no_sentinel = λ e. omega (arith, e);
      fits = omega arith;
      whole = rw len refl;
      tells = rw (le-ltb (length v) 8 (omega arith), high, lt-leb (2 ^ 31) (t / 2 ^ 32) (omega arith), ne_eqb (t / 2 ^ 32) 2147483647 other, low, same) refl;
    }

sample_number_again : (n : ℕ) → 1 ≤ n → n ≤ 2 ^ 63 - 2 → sample_number_of n ≡ Some n
unfolding sample_number_of
sample_number_again n low high = rw (le-leb 1 n low, le-leb n (2 ^ 63 - 2) high) refl

end_good : (little : Bool) → IsGood little (given 0x56 (sequence_octets little 0xffffffff00000000) (Set End))
unfolding set_at parameter_at
end_good little =
    let v = sequence_octets little 0xffffffff00000000 in
    let len : length v ≡ 8 = length_sequence little 0xffffffff00000000 in
    let read : sequence little v ≡ 0xffffffff00000000 = ap (sequence little) (sym (append-nil v)) ∙ sequence_again little 0xffffffff00000000 [] (omega arith) in
    record {
      id = omega arith;
      no_sentinel = λ e. omega (arith, e);
      fits = omega arith;
      whole = rw len refl;
      tells = rw (le-ltb (length v) 8 (omega arith), read) refl;
    }

of_good : (little : Bool) (n : ℕ) → 1 ≤ n → n ≤ 2 ^ 63 - 2 → IsGood little (given 0x56 (sequence_octets little n) (Set (Of n)))
unfolding set_at parameter_at
of_good little n low high =
    let v = sequence_octets little n in
    let len : length v ≡ 8 = length_sequence little n in
    let read : sequence little v ≡ n = ap (sequence little) (sym (append-nil v)) ∙ sequence_again little n [] (omega arith) in
    let other : n ≢ 0xffffffff00000000 = λ e. omega (arith, e) in
    record {
      id = omega arith;
      no_sentinel = λ e. omega (arith, e);
      fits = omega arith;
      whole = rw len refl;
      tells = rw (le-ltb (length v) 8 (omega arith), read, ne_eqb n 0xffffffff00000000 other, sample_number_again n low high) refl;
    }

abbrev original_value : Bool → List ℕ → ℕ → List ℕ
original_value little guid n = guid ++ (sequence_octets little n ++ sentinel_text little)

length_sentinel : (little : Bool) → length (sentinel_text little) ≡ 4
unfolding parameter_text
length_sentinel little = omega (arith, length-append (octets little w16 1) (octets little w16 0 ++ []), length-append {A = ℕ} (octets little w16 0) [], length_16 little 1, length_16 little 0)

length_original : (little : Bool) (guid : List ℕ) (n : ℕ) → length guid ≡ 16 → length (original_value little guid n) ≡ 28
length_original little guid n len = omega (arith, length-append guid (sequence_octets little n ++ sentinel_text little), length-append (sequence_octets little n) (sentinel_text little), length_sequence little n, length_sentinel little, len)

original_good : (little : Bool) (guid : List ℕ) (n : ℕ) → length guid ≡ 16 → 1 ≤ n → n ≤ 2 ^ 63 - 2 → IsGood little (given 0x61 (original_value little guid n) (Original guid n))
unfolding original_at parameter_at
original_good little guid n sixteen low high =
    let tail = sequence_octets little n ++ sentinel_text little in
    let v = original_value little guid n in
    let len : length v ≡ 28 = length_original little guid n sixteen in
    let front : take 16 v ≡ guid = take_at guid tail 16 sixteen in
    let behind : drop 16 v ≡ tail = drop_at guid tail 16 sixteen in
    record {
      id = omega arith;
      no_sentinel = λ e. omega (arith, e);
      fits = omega arith;
      whole = rw len refl;
      tells = rw (le-ltb (length v) 24 (omega arith), behind, sequence_again little n (sentinel_text little) (omega arith), sample_number_again n low high, front) refl;
    }

-- ---- the parameters that are written

abbrev means : List Given → List Parameter
means ps = map (λ p. p.means) ps

-- what is told after some parameters more
abbrev all_with : Inline → List Parameter → Inline
all_with i [] = i
all_with i (p ∷ ps) = all_with (with_parameter i p) ps

all_with-append : (i : Inline) (ps qs : List Parameter) → all_with i (ps ++ qs) ≡ all_with (all_with i ps) qs
all_with-append i [] qs = refl
all_with-append i (p ∷ ps) qs = all_with-append (with_parameter i p) ps qs

inline_with : (ps qs : List Parameter) → inline_of (ps ++ qs) ≡ all_with (inline_of ps) qs
inline_with ps [] = ap inline_of (append-nil ps)
inline_with ps (q ∷ qs) =
    ap inline_of (sym (append_assoc ps (q ∷ []) qs)) ∙ inline_with (ps ++ q ∷ []) qs ∙ ap (λ (i : Inline). all_with i qs) (inline-push ps q)

-- some of them: their text, that they are good, and what they change
record Part (little : Bool) (written : List ℕ) (before after : Inline) : Type 0 where
  params : List Given
  spelt : texts little params ≡ written
  good : AreGood little params
  change : all_with before (means params) ≡ after

none : (little : Bool) (i : Inline) → Part little [] i i
none little i = record { params = []; spelt = refl; good = tt; change = refl }

one : (little : Bool) (p : Given) (before : Inline) → IsGood little p → Part little (parameter_text little p.id p.value) before (with_parameter before p.means)
unfolding parameter_text
one little p before good = record { params = p ∷ []; spelt = append-nil (text little p); good = (good, tt); change = refl }

texts-append : (little : Bool) (ps qs : List Given) → texts little (ps ++ qs) ≡ texts little ps ++ texts little qs
texts-append little [] qs = refl
texts-append little (p ∷ ps) qs = ap (λ (x : List ℕ). text little p ++ x) (texts-append little ps qs) ∙ sym (append_assoc (text little p) (texts little ps) (texts little qs))

good-append : (little : Bool) (ps qs : List Given) → AreGood little ps → AreGood little qs → AreGood little (ps ++ qs)
good-append little [] qs x y = y
good-append little (p ∷ ps) qs x y = (x.0, good-append little ps qs x.1 y)

both : (little : Bool) (v w : List ℕ) (a b c : Inline) → Part little v a b → Part little w b c → Part little (v ++ w) a c
both little v w a b c x y = record {
  params = x.params ++ y.params;
  spelt = texts-append little x.params y.params ∙ ap (λ (t : List ℕ). t ++ texts little y.params) x.spelt ∙ ap (λ (t : List ℕ). v ++ t) y.spelt;
  good = good-append little x.params y.params x.good y.good;
  change = ap (all_with a) (map-append (λ p. p.means) x.params y.params) ∙ all_with-append a (means x.params) (means y.params) ∙ ap (λ (i : Inline). all_with i (means y.params)) x.change ∙ y.change;
}

abbrev blank : Inline
blank = record { hash = None; status = 0; lifespan = None; set = NoSet; original = None; strange = None }

hash_part : (little : Bool) (h : Option (List ℕ)) → IsWholeKey h → Part little (hash_text little h) blank (record blank { hash = h })
hash_part little None ok = none little blank
hash_part little (Some key) ok = one little (given 0x70 key (Hash key)) blank (hash_good little key ok)

status_part : (little : Bool) (s : ℕ) (h : Option (List ℕ)) → s ≤ 3 → Part little (status_text little s) (record blank { hash = h }) (record blank { hash = h; status = s })
status_part little zero h le = none little (record blank { hash = h })
status_part little (suc s) h le = rw (ne_eqb (suc s) 0 (λ e. omega (arith, e))) (one little (given 0x71 (0 ∷ 0 ∷ 0 ∷ suc s ∷ []) (Status (suc s))) (record blank { hash = h }) (status_good little (suc s) le))

original_part : (little : Bool) (o : Option (List ℕ × ℕ)) (i : Inline) → i.original ≡ None → IsWholeOriginal o → IsOriginal o → Part little (original_text little o) i (record i { original = o })
original_part little None i e src le = subst (λ (x : Option (List ℕ × ℕ)). Part little [] i (record i { original = x })) e (none little i)
original_part little (Some o) i e src le = one little (given 0x61 (original_value little o.0 o.1) (Original o.0 o.1)) i (original_good little o.0 o.1 src.0 src.1 le)

lifespan_part : (little : Bool) (o : Option ℕ) (i : Inline) → i.lifespan ≡ None → IsLifespan o → Part little (lifespan_text little o) i (record i { lifespan = o })
lifespan_part little None i e lt = subst (λ (x : Option ℕ). Part little [] i (record i { lifespan = x })) e (none little i)
lifespan_part little (Some t) i e lt = one little (given 0x2b (sequence_octets little t) (Lifespan (Some t))) i (lifespan_good little t lt)

set_part : (little : Bool) (m : SetMark) (i : Inline) → i.set ≡ NoSet → IsMarkOfNumber m → IsMark m → Part little (set_text little m) i (record i { set = m })
set_part little NoSet i e low high = subst (λ (x : SetMark). Part little [] i (record i { set = x })) e (none little i)
set_part little End i e low high = one little (given 0x56 (sequence_octets little 0xffffffff00000000) (Set End)) i (end_good little)
set_part little (Of n) i e low high = one little (given 0x56 (sequence_octets little n) (Set (Of n))) i (of_good little n low high)

abbrev before_sentinel : Bool → Inline → List ℕ
before_sentinel little i = (((hash_text little i.hash ++ status_text little i.status) ++ original_text little i.original) ++ lifespan_text little i.lifespan) ++ set_text little i.set

all_parts : (little : Bool) (i : Inline) → IsWholeKey i.hash → IsWholeOriginal i.original → IsMarkOfNumber i.set → IsWritable i → Part little (before_sentinel little i) blank (record i { strange = None })
all_parts little i key src mark w =
    let a = record blank { hash = i.hash } in
    let b = record a { status = i.status } in
    let c = record b { original = i.original } in
    let d = record c { lifespan = i.lifespan } in
    let e = record d { set = i.set } in
    both little _ _ blank d e
    (both little _ _ blank c d
    (both little _ _ blank b c
    (both little _ _ blank a b (hash_part little i.hash key) (status_part little i.status i.hash w.status))
    (original_part little i.original b refl src w.original))
    (lifespan_part little i.lifespan c refl w.lifespan))
    (set_part little i.set d refl mark w.set)

sentinel_ends : (little : Bool) (rest : List ℕ) → Ends little (sentinel_text little ++ rest)
unfolding parameter_text
sentinel_ends little rest = record {
  ignored = octets little w16 0;
  after = rest;
  parts = ap (λ (x : List ℕ). (octets little w16 1 ++ x) ++ rest) (append-nil (octets little w16 0)) ∙ append_assoc (octets little w16 1) (octets little w16 0) rest;
  two = length_16 little 0;
}

pub list_spells : (little : Bool) (i : Inline) (rest : List ℕ) → IsWholeKey i.hash → IsWholeOriginal i.original → IsMarkOfNumber i.set → IsWritable i → ListSpells (list_text little i ++ rest) little i (length (list_text little i))
unfolding list_text inline_of
list_spells little i rest key src mark w =
    let p : Part little (before_sentinel little i) blank (record i { strange = None }) = all_parts little i key src mark w in
    let s = sentinel_text little in
    let same : record i { strange = None } ≡ i = ap (λ (x : Option ℕ). record i { strange = x }) (sym w.strange) in
    record {
      params = p.params;
      rest = s ++ rest;
      parts = append_assoc (before_sentinel little i) s rest ∙ ap (λ (x : List ℕ). x ++ (s ++ rest)) (sym p.spelt);
      good = p.good;
      ends = sentinel_ends little rest;
      tells = sym (inline_with [] (means p.params) ∙ p.change ∙ same);
      takes = length-append (before_sentinel little i) s ∙ omega (arith, length_sentinel little, ap length p.spelt);
    }

pub back_again : (little : Bool) (i : Inline) (written more rest : List ℕ) (n : ℕ) → written ≡ list_text little i → n ≡ length (list_text little i) → IsWholeKey i.hash → IsWholeOriginal i.original → IsMarkOfNumber i.set → IsWritable i → ListSpells (take n (written ++ more) ++ rest) little i n
back_again little i written more rest n e len key src mark w =
    let front : take n (written ++ more) ≡ list_text little i = take_at written more n (omega (arith, len, ap length e)) ∙ e in
    rw (front, len) (list_spells little i rest key src mark w)
