-- A submessage is read in one way alone.
use Rattle.std.proofs.Common.{◌≡◌, ◌⊎◌, ℕ, ◌+◌, ◌-◌, Bool, true, false, eqb, List, length, drop, Result, Ok, Err, sym, ap, subst, ◌∙◌, inl, inr}
use Rattle.std.specs.Prelude.{IfOk, IfErr, IsOkAnd, IsErrAnd}
use Rattle.rtps_params.specs.declared.inline.Inline.{Inline}
use Rattle.rtps_params.specs.declared.parameter.ListKind.{ListKind}
use Rattle.rtps_params.proofs.Loop.{spells_once, never_both, breaks_once}
use Rattle.rtps_submsg.specs.declared.field.Broken.{Broken}
use Rattle.rtps_submsg.specs.declared.sub.DataSub.{DataSub}
use Rattle.rtps_submsg.specs.declared.sub.Sub.{Sub}
use Rattle.rtps_submsg.specs.declared.sub.SubFault.{SubFault}
use Rattle.rtps_submsg.specs.declared.sub.SubKind.{SubKind}
use Rattle.rtps_submsg.specs.declared.sub.SubKind.TheVariants.{List as InList}
use Rattle.rtps_submsg.specs.Grammar.{Row, Spells, Breaks}
use Rattle.rtps_submsg.specs.Rows.{has, row_of}
use Rattle.rtps_submsg.specs.Data.{Head, head_row, form_of, payload_of, InlineSpells, InlineBreaks, DataSpells, DataBreaks}
use Rattle.rtps_submsg.proofs.Runs.{run, spells_run, breaks_run}
use Rattle.rtps_submsg.specs.Headers.{Framed}
use Rattle.rtps_submsg.specs.HeaderSteps.{framed_at}
use Rattle.rtps_submsg.proofs.Headers.{frames_read, head_breaks_read}
use Rattle.rtps_submsg.specs.OneReading.{SomeSub, SomeBreak, HasOneReading}
use Rattle.rtps_submsg.specs.Subs.{SpellsBy, BreaksBy, SubSpells, SubBreaks, SameData, SameSub}

-- ---- a result is one thing

pub ok_once : {A E : Type 0} (r : Result A E) (x y : A) → r ≡ Ok x → r ≡ Ok y → x ≡ y
ok_once r x y e f = cc

err_once : {A E : Type 0} (r : Result A E) (x y : E) → r ≡ Err x → r ≡ Err y → x ≡ y
err_once r x y e f = cc

pub not_both : {A E : Type 0} (r : Result A E) (x : A) (y : E) → r ≡ Ok x → r ≡ Err y → ⊥
not_both r x y e f = cc

-- ---- a row of fields

pub row_once : {V : Type 0} (row : Row V) (body : List ℕ) (v w : V) → Spells row body v → Spells row body w → v ≡ w
row_once row body v w x y = ok_once (run row body) v w (spells_run row body v x) (spells_run row body w y)

pub row_never : {V : Type 0} (row : Row V) (body : List ℕ) (v : V) (e : Broken) → Spells row body v → Breaks row body e → ⊥
row_never row body v e x y = not_both (run row body) v e (spells_run row body v x) (breaks_run row body e y)

row_breaks : {V : Type 0} (row : Row V) (body : List ℕ) (d e : Broken) → Breaks row body d → Breaks row body e → d ≡ e
row_breaks row body d e x y = err_once (run row body) d e (breaks_run row body d x) (breaks_run row body e y)

-- ---- the inline QoS

inline_once : (there little : Bool) (behind : List ℕ) (i j : Inline) (r s : List ℕ) → InlineSpells there little behind i r → InlineSpells there little behind j s → (i ≡ j) × (r ≡ s)
inline_once true little behind i j r s x y =
    let e : (i ≡ j) × (x.0 ≡ y.0) = spells_once behind little i j x.0 y.0 x.1 y.1 in
    (e.0, x.2 ∙ ap (λ (n : ℕ). drop n behind) e.1 ∙ sym y.2)
inline_once false little behind i j r s x y = (x.0 ∙ sym y.0, x.1 ∙ sym y.1)

inline_never : (there little : Bool) (behind : List ℕ) (i : Inline) (r : List ℕ) (e : Broken) → InlineSpells there little behind i r → InlineBreaks there little behind e → ⊥
inline_never true little behind i r e x y = never_both behind little i x.0 y.0 y.1 x.1 y.2
inline_never false little behind i r e x y = y

inline_breaks : (there little : Bool) (behind : List ℕ) (d e : Broken) → InlineBreaks there little behind d → InlineBreaks there little behind e → d ≡ e
inline_breaks true little behind d e x y =
    let same : (x.0 ≡ y.0) × (x.1 ≡ y.1) = breaks_once behind little x.0 y.0 x.1 y.1 x.2 y.2 in
    x.3 ∙ ap (λ (at : ℕ). let b : Broken = record { left = length behind - at; kind = InList x.1 } in b) same.0 ∙ ap (λ (k : ListKind). let b : Broken = record { left = length behind - y.0; kind = InList k } in b) same.1 ∙ sym y.3
inline_breaks false little behind d e x y = absurd x

-- ---- DATA

abbrev head_of : DataSub → List ℕ → Head
head_of d behind = record { reader = d.reader; writer = d.writer; number = d.number; behind = behind }

data_once : (little : Bool) (flags : ℕ) (body : List ℕ) (d e : DataSub) → DataSpells little flags body d → DataSpells little flags body e → SameData d e
data_once little flags body d e x y =
    let h : head_of d x.behind ≡ head_of e y.behind = row_once (head_row little body) body (head_of d x.behind) (head_of e y.behind) x.head y.head in
    let b : x.behind ≡ y.behind = ap (λ (k : Head). k.behind) h in
    let i : (d.inline ≡ e.inline) × (x.rest ≡ y.rest) = inline_once (has flags 0x02) little y.behind d.inline e.inline x.rest y.rest (subst (λ (t : List ℕ). InlineSpells (has flags 0x02) little t d.inline x.rest) b x.inline) y.inline in
    record {
      reader = ap (λ (k : Head). k.reader) h;
      writer = ap (λ (k : Head). k.writer) h;
      number = ap (λ (k : Head). k.number) h;
      inline = i.0;
      form = x.form ∙ sym y.form;
      payload = x.payload ∙ ap (payload_of (form_of flags)) i.1 ∙ sym y.payload;
    }

data_never : (little : Bool) (flags : ℕ) (body : List ℕ) (d : DataSub) (e : Broken) → DataSpells little flags body d → DataBreaks little flags body e → ⊥
data_never little flags body d e x (inl y) = row_never (head_row little body) body (head_of d x.behind) e x.head y
data_never little flags body d e x (inr y) =
    let h : head_of d x.behind ≡ y.head = row_once (head_row little body) body (head_of d x.behind) y.head x.head y.spelt in
    inline_never (has flags 0x02) little y.head.behind d.inline x.rest e (subst (λ (t : List ℕ). InlineSpells (has flags 0x02) little t d.inline x.rest) (ap (λ (k : Head). k.behind) h) x.inline) y.breaks

data_breaks : (little : Bool) (flags : ℕ) (body : List ℕ) (d e : Broken) → DataBreaks little flags body d → DataBreaks little flags body e → d ≡ e
data_breaks little flags body d e (inl x) (inl y) = row_breaks (head_row little body) body d e x y
data_breaks little flags body d e (inl x) (inr y) = absurd (row_never (head_row little body) body y.head d y.spelt x)
data_breaks little flags body d e (inr x) (inl y) = absurd (row_never (head_row little body) body x.head e x.spelt y)
data_breaks little flags body d e (inr x) (inr y) =
    let h : x.head ≡ y.head = row_once (head_row little body) body x.head y.head x.spelt y.spelt in
    inline_breaks (has flags 0x02) little y.head.behind d e (subst (λ (t : List ℕ). InlineBreaks (has flags 0x02) little t d) (ap (λ (k : Head). k.behind) h) x.breaks) y.breaks

-- ---- bodies

body_once : (is_data : Bool) (f : Framed) (s t : Sub) → SpellsBy is_data f s → SpellsBy is_data f t → SameSub s t
body_once true f s t x y = inr (record { one = x.0; other = y.0; one_is = x.2; other_is = y.2; same = data_once (has f.flags 0x01) f.flags f.body x.0 y.0 x.1 y.1 })
body_once false f s t x y = inl (row_once (row_of (has f.flags 0x01) f.flags f.id) f.body s t x y)

body_never : (is_data : Bool) (f : Framed) (s : Sub) (e : Broken) → SpellsBy is_data f s → BreaksBy is_data f e → ⊥
body_never true f s e x y = data_never (has f.flags 0x01) f.flags f.body x.0 e x.1 y
body_never false f s e x y = row_never (row_of (has f.flags 0x01) f.flags f.id) f.body s e x y

body_breaks : (is_data : Bool) (f : Framed) (d e : Broken) → BreaksBy is_data f d → BreaksBy is_data f e → d ≡ e
body_breaks true f d e x y = data_breaks (has f.flags 0x01) f.flags f.body d e x y
body_breaks false f d e x y = row_breaks (row_of (has f.flags 0x01) f.flags f.id) f.body d e x y

abbrev pub fault_of : ℕ → SubKind → SubFault
fault_of at kind = record { at = at; kind = kind }

-- ---- submessages

pub sub_once : (bytes : List ℕ) (s t : Sub) (n m : ℕ) → SubSpells bytes s n → SubSpells bytes t m → (n ≡ m) × SameSub s t
sub_once bytes s t n m x y =
    let f : x.frame ≡ y.frame = ok_once (framed_at bytes) x.frame y.frame (frames_read bytes x.frame x.framed) (frames_read bytes y.frame y.framed) in
    (x.takes ∙ ap (λ (k : Framed). 4 + length k.body) f ∙ sym y.takes, body_once (eqb y.frame.id 0x15) y.frame s t (subst (λ (k : Framed). SpellsBy (eqb k.id 0x15) k s) f x.body) y.body)

pub sub_never : (bytes : List ℕ) (s : Sub) (n at : ℕ) (kind : SubKind) → SubSpells bytes s n → SubBreaks bytes at kind → ⊥
sub_never bytes s n at kind x (inl y) = not_both (framed_at bytes) x.frame (fault_of at kind) (frames_read bytes x.frame x.framed) (head_breaks_read bytes at kind y)
sub_never bytes s n at kind x (inr y) =
    let f : x.frame ≡ y.frame = ok_once (framed_at bytes) x.frame y.frame (frames_read bytes x.frame x.framed) (frames_read bytes y.frame y.framed) in
    body_never (eqb y.frame.id 0x15) y.frame s y.broken (subst (λ (k : Framed). SpellsBy (eqb k.id 0x15) k s) f x.body) y.breaks

pub sub_breaks : (bytes : List ℕ) (at place : ℕ) (kind other : SubKind) → SubBreaks bytes at kind → SubBreaks bytes place other → (at ≡ place) × (kind ≡ other)
sub_breaks bytes at place kind other (inl x) (inl y) =
    let e : fault_of at kind ≡ fault_of place other = err_once (framed_at bytes) (fault_of at kind) (fault_of place other) (head_breaks_read bytes at kind x) (head_breaks_read bytes place other y) in
    (ap (λ (k : SubFault). k.at) e, ap (λ (k : SubFault). k.kind) e)
sub_breaks bytes at place kind other (inl x) (inr y) = absurd (not_both (framed_at bytes) y.frame (fault_of at kind) (frames_read bytes y.frame y.framed) (head_breaks_read bytes at kind x))
sub_breaks bytes at place kind other (inr x) (inl y) = absurd (not_both (framed_at bytes) x.frame (fault_of place other) (frames_read bytes x.frame x.framed) (head_breaks_read bytes place other y))
sub_breaks bytes at place kind other (inr x) (inr y) =
    let f : x.frame ≡ y.frame = ok_once (framed_at bytes) x.frame y.frame (frames_read bytes x.frame x.framed) (frames_read bytes y.frame y.framed) in
    let b : x.broken ≡ y.broken = body_breaks (eqb y.frame.id 0x15) y.frame x.broken y.broken (subst (λ (k : Framed). BreaksBy (eqb k.id 0x15) k x.broken) f x.breaks) y.breaks in
    (x.place ∙ ap (λ (k : Framed). 4 + (length k.body - x.broken.left)) f ∙ ap (λ (k : Broken). 4 + (length y.frame.body - k.left)) b ∙ sym y.place, x.kind_is ∙ ap (λ (k : Broken). k.kind) b ∙ sym y.kind_is)

-- ---- what a reader may answer

pub spelt_by : (bytes : List ℕ) (r : Result (Sub × ℕ) SubFault) → IfOk r (λ x. SubSpells bytes x.0 x.1) → IfErr r (λ f. SubBreaks bytes f.at f.kind) → (s : Sub) (n : ℕ) → SubSpells bytes s n → IsOkAnd r (λ x. (x.1 ≡ n) × SameSub x.0 s)
spelt_by bytes (Ok x) ok err s n y = sub_once bytes x.0 s x.1 n ok y
spelt_by bytes (Err f) ok err s n y = absurd (sub_never bytes s n f.at f.kind y err)

pub broken_by : (bytes : List ℕ) (r : Result (Sub × ℕ) SubFault) → IfOk r (λ x. SubSpells bytes x.0 x.1) → IfErr r (λ f. SubBreaks bytes f.at f.kind) → (at : ℕ) (kind : SubKind) → SubBreaks bytes at kind → IsErrAnd r (λ f. (f.at ≡ at) × (f.kind ≡ kind))
broken_by bytes (Ok x) ok err at kind y = absurd (sub_never bytes x.0 x.1 at kind ok y)
broken_by bytes (Err f) ok err at kind y = sub_breaks bytes f.at at f.kind kind err y

-- ---- one reading

either_by : (bytes : List ℕ) (r : Result (Sub × ℕ) SubFault) → IfOk r (λ x. SubSpells bytes x.0 x.1) → IfErr r (λ f. SubBreaks bytes f.at f.kind) → SomeSub bytes ⊎ SomeBreak bytes
either_by bytes (Ok x) ok err = inl (record { sub = x.0; n = x.1; spells = ok })
either_by bytes (Err f) ok err = inr (record { at = f.at; kind = f.kind; breaks = err })

pub reads_once : (bytes : List ℕ) (r : Result (Sub × ℕ) SubFault) → IfOk r (λ x. SubSpells bytes x.0 x.1) → IfErr r (λ f. SubBreaks bytes f.at f.kind) → HasOneReading bytes
reads_once bytes r ok err = record {
  either = either_by bytes r ok err;
  apart = λ x y. sub_never bytes x.sub x.n y.at y.kind x.spells y.breaks;
  one_sub = λ x y. sub_once bytes x.sub y.sub x.n y.n x.spells y.spells;
  one_break = λ x y. sub_breaks bytes x.at y.at x.kind y.kind x.breaks y.breaks;
}
