-- What is told is good: the values of an inline QoS lie in the ranges of a sample.
use Rattle.std.proofs.Common.{◌≡◌, ℕ, ◌+◌, ◌-◌, ◌*◌, ◌^◌, ◌%◌, ◌<◌, ◌≤◌, Bool, true, false, eqb, leb, ltb, List, [], ◌∷◌, ◌++◌, length, take, drop, map, option_map, Option, Some, None, refl, sym, ap, subst, ◌∙◌, arith}
use Rattle.std.specs.Prelude.{IfSome, ◌&&◌, bit_and, slice_index}
use Rattle.std.specs.Option.{option_or, unwrap_or, option_to_list}
use Rattle.std.specs.List.{AllByRecursion}
use Rattle.std.specs.Int.{w16, w32}
use Rattle.std.proofs.lemmas.Bool.{cond_both, leb-true, leb-false, eqb-false, and_parts}
use Rattle.std.proofs.lemmas.List.{take_at}
use Rattle.dur_base.specs.Fields.{number, octets, sequence}
use Rattle.dur_base.specs.Goodness.{IsLifespan, IsMark, IsOriginal, IsPayload, IsGoodRaw}
use Rattle.dur_base.proofs.OctetLists.{IsBytes, IsBytes-drop, IsBytes-take}
use Rattle.dur_base.proofs.FieldNumbers.{below_32}
use Rattle.dur_base.specs.declared.fact.Fact.{Fact}
use Rattle.dur_base.specs.declared.sample.Form.{Form}
use Rattle.dur_base.specs.declared.sample.Form.TheVariants as forms
use Rattle.dur_base.specs.declared.sample.SetMark.TheVariants.{NoSet, Of}
use Rattle.rtps_params.specs.declared.inline.Inline.{Inline}
use Rattle.rtps_params.specs.declared.parameter.Parameter.{Parameter}
use Rattle.rtps_params.specs.declared.parameter.Parameter.TheVariants.{Hash, Status, Lifespan, Set, Original, Strange, Passed}
use Rattle.rtps_params.specs.Table.{sample_number_of, lifespan_at, set_at, original_at, hash_at, status_at, parameter_at}
use Rattle.rtps_params.specs.Lists.{Given, text, texts, IsGood, ListSpells}
use Rattle.rtps_params.specs.Lists as lists
use Rattle.rtps_params.specs.Meaning.{status_in, lifespan_in, set_in, original_in, last_of, inline_of}
use Rattle.rtps_params.proofs.Loop.{rest_fits}
use Rattle.rtps_submsg.specs.declared.sub.DataSub.{DataSub}
use Rattle.rtps_submsg.specs.declared.sub.Sub.{Sub}
use Rattle.rtps_submsg.specs.declared.sub.Sub.TheVariants.{Pad, InfoTs, InfoDst, InfoSrc, Data, Heartbeat, AckNack, Gap, Other}
use Rattle.rtps_submsg.specs.Rows.{has}
use Rattle.rtps_submsg.specs.Data.{form_of, payload_of, InlineSpells, DataSpells}
use Rattle.rtps_submsg.specs.Headers.{Framed}
use Rattle.rtps_submsg.specs.Subs.{SpellsBy, SubSpells}
use Rattle.rtps_message.proofs.Parts.{IsPlain, plain_told, behind_ends}
use Rattle.rtps_message.specs.declared.context.Context.{Context}
use Rattle.rtps_message.specs.Facts.{is_for, is_readable, raw_of, data_fact, fact_of, told, IsGoodFact, AreGood}

-- ---- one parameter

abbrev IsRanged : Parameter → Type 0
IsRanged (Hash key) = Unit {0}
IsRanged (Status status) = status ≤ 3
IsRanged (Lifespan lifespan) = IsLifespan lifespan
IsRanged (Set mark) = IsMark mark
IsRanged (Original guid n) = n ≤ 2 ^ 63 - 2
IsRanged (Strange id) = Unit {0}
IsRanged Passed = Unit {0}

abbrev Tells : Option Parameter → Type 0
Tells o = IfSome o IsRanged

lifespan_tells : (little : Bool) (value : List ℕ) → IsBytes value → Tells (lifespan_at little value)
unfolding lifespan_at
lifespan_tells little value fits =
    let seconds = number little w32 (take 4 value) in
    let fraction = number little w32 (take 4 (drop 4 value)) in
    let small : fraction < 2 ^ 32 = below_32 little (take 4 (drop 4 value)) (IsBytes-take 4 (drop 4 value) (IsBytes-drop 4 value fits)) in
    cond_both (ltb (length value) 8) _ _ Tells (λ e. tt) (λ e.
    cond_both (leb (2 ^ 31) seconds) _ _ Tells (λ f. tt) (λ f.
    cond_both (eqb seconds 0x7fffffff) _ _ Tells (λ g. tt) (λ g. finite seconds fraction small (leb-false (2 ^ 31) seconds f) (eqb-false seconds 0x7fffffff g))))
  where
    finite : (seconds fraction : ℕ) → fraction < 2 ^ 32 → seconds < 2 ^ 31 → (seconds ≡ 0x7fffffff → ⊥) → seconds * 2 ^ 32 + fraction < 2147483647 * 2 ^ 32
    finite seconds fraction small below not = grind arith

number_tells : (n : ℕ) (f : ℕ → Parameter) → ((m : ℕ) → m ≤ 2 ^ 63 - 2 → IsRanged (f m)) → Tells (option_map f (sample_number_of n))
unfolding sample_number_of
number_tells n f each = cond_both (leb 1 n && leb n (2 ^ 63 - 2)) (Some n) None (λ o. Tells (option_map f o)) (λ e. each n (leb-true n (2 ^ 63 - 2) (and_parts (leb 1 n) (leb n (2 ^ 63 - 2)) e).1)) (λ e. tt)

set_tells : (little : Bool) (value : List ℕ) → Tells (set_at little value)
unfolding set_at
set_tells little value =
    cond_both (ltb (length value) 8) _ _ Tells (λ e. tt) (λ e. cond_both (eqb (sequence little value) 0xffffffff00000000) _ _ Tells (λ f. tt) (λ f. number_tells (sequence little value) (λ n. Set (Of n)) (λ m small. small)))

original_tells : (little : Bool) (value : List ℕ) → Tells (original_at little value)
unfolding original_at
original_tells little value =
    cond_both (ltb (length value) 24) _ _ Tells (λ e. tt) (λ e. number_tells (sequence little (drop 16 value)) (λ n. Original (take 16 value) n) (λ m small. small))

hash_tells : (value : List ℕ) → Tells (hash_at value)
unfolding hash_at
hash_tells value = cond_both (ltb (length value) 16) _ _ Tells (λ e. tt) (λ e. tt)

status_tells : (value : List ℕ) → Tells (status_at value)
unfolding status_at
status_tells value = cond_both (ltb (length value) 4) _ _ Tells (λ e. tt) (λ e. let small : slice_index value 3 % 4 ≤ 3 = omega arith in small)

parameter_tells : (little : Bool) (id : ℕ) (value : List ℕ) → IsBytes value → Tells (parameter_at little id value)
unfolding parameter_at
parameter_tells little id value fits =
    cond_both (eqb id 0x002b) _ _ Tells (λ e. lifespan_tells little value fits) (λ e.
    cond_both (eqb id 0x0056) _ _ Tells (λ f. set_tells little value) (λ f.
    cond_both (eqb id 0x0061) _ _ Tells (λ g. original_tells little value) (λ g.
    cond_both (eqb id 0x0070) _ _ Tells (λ h. hash_tells value) (λ h.
    cond_both (eqb id 0x0071) _ _ Tells (λ i. status_tells value) (λ i. cond_both (eqb (bit_and id 0x4000) 0) _ _ Tells (λ j. tt) (λ j. tt))))))

given_tells : (little : Bool) (p : Given) → IsGood little p → IsBytes p.value → IsRanged p.means
given_tells little p good fits = subst Tells good.tells (parameter_tells little p.id p.value fits)

-- ---- the parameters of a list

front_fits : (bytes front rest : List ℕ) → bytes ≡ front ++ rest → IsBytes bytes → IsBytes front
front_fits bytes front rest parts fits =
    let e : take (length front) bytes ≡ front = ap (take (length front)) parts ∙ take_at front rest (length front) refl in
    subst IsBytes e (IsBytes-take (length front) bytes fits)

all_tell : (little : Bool) (ps : List Given) → lists.AreGood little ps → IsBytes (texts little ps) → AllByRecursion (λ p. IsRanged p.means) ps
all_tell little [] good fits = tt
all_tell little (p ∷ ps) good fits =
    let id = octets little w16 p.id in
    let len = octets little w16 (length p.value) in
    let whole : IsBytes (text little p) = front_fits (text little p ++ texts little ps) (text little p) (texts little ps) refl fits in
    let value : IsBytes p.value = rest_fits (len ++ p.value) len p.value refl (rest_fits (text little p) id (len ++ p.value) refl whole) in
    (given_tells little p good.0 value, all_tell little ps good.1 (rest_fits (text little p ++ texts little ps) (text little p) (texts little ps) refl fits))

or_some : {A : Type 0} (P : A → Type 0) (a b : Option A) → IfSome a P → IfSome b P → IfSome (option_or a b) P
or_some P None b x y = y
or_some P (Some v) b x y = x

last_some : {A : Type 0} (P : A → Type 0) (f : Parameter → Option A) (ps : List Given) → ((p : Parameter) → IsRanged p → IfSome (f p) P) → AllByRecursion (λ p. IsRanged p.means) ps → IfSome (last_of f (map (λ p. p.means) ps)) P
last_some P f [] one each = tt
last_some P f (p ∷ ps) one each = or_some P (last_of f (map (λ q. q.means) ps)) (f p.means) (last_some P f ps one each.1) (one p.means each.0)

or_else : {A : Type 0} (P : A → Type 0) (o : Option A) (d : A) → IfSome o P → P d → P (unwrap_or o d)
or_else P None d x y = y
or_else P (Some v) d x y = x

status_one : (p : Parameter) → IsRanged p → IfSome (status_in p) (λ s. s ≤ 3)
status_one (Hash key) r = tt
status_one (Status status) r = r
status_one (Lifespan lifespan) r = tt
status_one (Set mark) r = tt
status_one (Original guid n) r = tt
status_one (Strange id) r = tt
status_one Passed r = tt

lifespan_one : (p : Parameter) → IsRanged p → IfSome (lifespan_in p) IsLifespan
lifespan_one (Hash key) r = tt
lifespan_one (Status status) r = tt
lifespan_one (Lifespan lifespan) r = r
lifespan_one (Set mark) r = tt
lifespan_one (Original guid n) r = tt
lifespan_one (Strange id) r = tt
lifespan_one Passed r = tt

set_one : (p : Parameter) → IsRanged p → IfSome (set_in p) IsMark
set_one (Hash key) r = tt
set_one (Status status) r = tt
set_one (Lifespan lifespan) r = tt
set_one (Set mark) r = r
set_one (Original guid n) r = tt
set_one (Strange id) r = tt
set_one Passed r = tt

original_one : (p : Parameter) → IsRanged p → IfSome (original_in p) (λ o. o.1 ≤ 2 ^ 63 - 2)
original_one (Hash key) r = tt
original_one (Status status) r = tt
original_one (Lifespan lifespan) r = tt
original_one (Set mark) r = tt
original_one (Original guid n) r = r
original_one (Strange id) r = tt
original_one Passed r = tt

original_is : (o : Option (List ℕ × ℕ)) → IfSome o (λ x. x.1 ≤ 2 ^ 63 - 2) → IsOriginal o
original_is None x = tt
original_is (Some o) x = x

pub record IsInside (i : Inline) : Type 0 where
  pub status : i.status ≤ 3
  pub lifespan : IsLifespan i.lifespan
  pub mark : IsMark i.set
  pub original : IsOriginal i.original

list_inside : (ps : List Given) → AllByRecursion (λ p. IsRanged p.means) ps → IsInside (inline_of (map (λ p. p.means) ps))
unfolding inline_of
list_inside ps each =
    let means = map (λ (p : Given). p.means) ps in
    record {
      status = or_else (λ s. s ≤ 3) (last_of status_in means) 0 (last_some (λ s. s ≤ 3) status_in ps status_one each) (omega arith);
      lifespan = or_else IsLifespan (last_of lifespan_in means) None (last_some IsLifespan lifespan_in ps lifespan_one each) tt;
      mark = or_else IsMark (last_of set_in means) NoSet (last_some IsMark set_in ps set_one each) tt;
      original = original_is (last_of original_in means) (last_some (λ o. o.1 ≤ 2 ^ 63 - 2) original_in ps original_one each);
    }

spelt_inside : (behind : List ℕ) (little : Bool) (i : Inline) (n : ℕ) → IsBytes behind → ListSpells behind little i n → IsInside i
spelt_inside behind little i n fits x = subst IsInside (sym x.tells) (list_inside x.params (all_tell little x.params x.good (front_fits behind (texts little x.params) x.rest x.parts fits)))

-- ---- a submessage

pub record IsFineData (d : DataSub) : Type 0 where
  pub inside : IsInside d.inline
  pub payload : length d.payload.now ≤ 65344 → IsPayload d.form d.payload.now

abbrev IsFine : Sub → Type 0
IsFine (Data d) = IsFineData d
IsFine _ = Unit {0}

plain_fine : (s : Sub) → IsPlain s → IsFine s
plain_fine Pad plain = tt
plain_fine (InfoTs ticks) plain = tt
plain_fine (InfoDst prefix) plain = tt
plain_fine (InfoSrc prefix) plain = tt
plain_fine (Data d) plain = absurd plain
plain_fine (Heartbeat reader writer first last count f l) plain = tt
plain_fine (AckNack reader writer set count f) plain = tt
plain_fine (Gap reader writer first set) plain = tt
plain_fine (Other id) plain = tt

pub inline_inside : (there little : Bool) (behind rest : List ℕ) (i : Inline) → IsBytes behind → InlineSpells there little behind i rest → IsInside i
inline_inside true little behind rest i fits x = spelt_inside behind little i x.0 fits x.1
inline_inside false little behind rest i fits x = subst IsInside (sym x.0) (list_inside [] tt)

pub payload_fine : (form : Form) (rest : List ℕ) → length (payload_of form rest) ≤ 65344 → IsPayload form (payload_of form rest)
payload_fine forms.Nothing rest small = refl
payload_fine forms.Data rest small = small
payload_fine forms.KeyOnly rest small = small

data_fine : (little : Bool) (flags : ℕ) (body : List ℕ) (d : DataSub) → IsBytes body → DataSpells little flags body d → IsFineData d
data_fine little flags body d fits x =
    let offset = number little w16 x.head.5.0 in
    let behind : IsBytes x.behind = subst IsBytes (sym (behind_ends little flags body d x)) (IsBytes-drop offset (drop 4 body) (IsBytes-drop 4 body fits)) in
    record {
      inside = inline_inside (has flags 0x02) little x.behind x.rest d.inline behind x.inline;
      payload = λ small. subst (λ (f : Form). IsPayload f d.payload.now) (sym x.form) (subst (λ (t : List ℕ). IsPayload (form_of flags) t) (sym x.payload)
          (payload_fine (form_of flags) x.rest (subst (λ (t : List ℕ). length t ≤ 65344) x.payload small)));
    }

body_fine : (is_data : Bool) (f : Framed) (s : Sub) → IsBytes f.body → SpellsBy is_data f s → IsFine s
body_fine true f s fits x = subst IsFine (sym x.2) (data_fine (has f.flags 0x01) f.flags f.body x.0 fits x.1)
body_fine false f s fits x = plain_fine s (plain_told (has f.flags 0x01) f.flags f.id f.body s x)

sub_fine : (bytes : List ℕ) (s : Sub) (n : ℕ) → IsBytes bytes → SubSpells bytes s n → IsFine s
sub_fine bytes s n fits x =
    let f = x.frame in
    let head : List ℕ = f.id ∷ f.flags ∷ octets (has f.flags 0x01) w16 x.framed.len in
    let body : IsBytes f.body = front_fits (f.body ++ x.framed.after) f.body x.framed.after refl (rest_fits bytes head (f.body ++ x.framed.after) x.framed.heads.parts fits) in
    body_fine (eqb f.id 0x15) f s body x.body

-- ---- a fact

pub data_good : (c : Context) (d : DataSub) → IsFineData d → IsGoodFact (data_fact c d)
data_good c d fine =
    cond_both (is_readable d) _ _ IsGoodFact (λ e. good (leb-true (length d.payload.now) 65344 (and_parts _ (leb (length d.payload.now) 65344) e).1)) (λ e. tt)
  where
    good : length d.payload.now ≤ 65344 → IsGoodRaw (raw_of c d)
    good small = record { status = fine.inside.status; lifespan = fine.inside.lifespan; mark = fine.inside.mark; original = fine.inside.original; payload = fine.payload small }

fact_good : (c : Context) (s : Sub) → IsFine s → IfSome (fact_of c s) IsGoodFact
fact_good c Pad fine = tt
fact_good c (InfoTs ticks) fine = tt
fact_good c (InfoDst prefix) fine = tt
fact_good c (InfoSrc prefix) fine = tt
fact_good c (Data d) fine = data_good c d fine
fact_good c (Heartbeat reader writer first last count f l) fine = tt
fact_good c (AckNack reader writer set count f) fine = tt
fact_good c (Gap reader writer first set) fine = tt
fact_good c (Other id) fine = tt

told_good : (own : List ℕ) (c : Context) (s : Sub) → IsFine s → IfSome (told own c s) IsGoodFact
told_good own c s fine = cond_both (is_for own c) (fact_of c s) None (λ o. IfSome o IsGoodFact) (λ e. fact_good c s fine) (λ e. tt)

all_push : (fs : List Fact) (o : Option Fact) → AreGood fs → IfSome o IsGoodFact → AreGood (fs ++ option_to_list o)
all_push [] None each one = tt
all_push [] (Some f) each one = (one, tt)
all_push (f ∷ fs) o each one = (each.0, all_push fs o each.1 one)

-- the facts stay good
pub good_more : (own bytes : List ℕ) (at n : ℕ) (c : Context) (s : Sub) (facts more : List Fact) (one : Option Fact) → IsBytes bytes → SubSpells (drop at bytes) s n → AreGood facts → one ≡ told own c s → more ≡ facts ++ option_to_list one → AreGood more
good_more own bytes at n c s facts more one fits x each tells adds =
    subst AreGood (sym adds) (all_push facts one each (subst (λ (o : Option Fact). IfSome o IsGoodFact) (sym tells) (told_good own c s (sub_fine (drop at bytes) s n (IsBytes-drop at bytes fits) x))))
