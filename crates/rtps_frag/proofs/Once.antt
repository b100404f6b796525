-- A message says one thing.
use Rattle.std.proofs.Common.{◌≡◌, ℕ, ◌+◌, ◌-◌, ◌<◌, Bool, true, false, List, [], ◌∷◌, ◌++◌, length, take, drop, Result, Ok, Err, refl, sym, ap, subst, ◌∙◌, arith, inl, inr}
use Rattle.std.specs.Prelude.{map, ◌&&◌}
use Rattle.std.specs.List.{list_all}
use Rattle.std.specs.Option.{option_to_list}
use Rattle.std.proofs.lemmas.Bool.{false≢true}
use Rattle.dur_base.specs.declared.fact.Fact.{Fact}
use Rattle.rtps_params.specs.declared.inline.Inline.{Inline}
use Rattle.rtps_params.specs.Lists.{ListBreaks}
use Rattle.rtps_params.proofs.Loop.{spells_once, never_both, breaks_once}
use Rattle.rtps_submsg.specs.declared.sub.DataSub.{DataSub}
use Rattle.rtps_submsg.specs.declared.sub.Sub.{Sub}
use Rattle.rtps_submsg.specs.declared.sub.Sub.TheVariants.{Other, Data}
use Rattle.rtps_submsg.specs.declared.sub.SubFault.{SubFault}
use Rattle.rtps_submsg.specs.declared.sub.SubKind.{SubKind}
use Rattle.rtps_submsg.specs.declared.sub.SubKind.TheVariants.{List as InList}
use Rattle.rtps_submsg.specs.Rows.{has}
use Rattle.rtps_submsg.specs.Data.{InlineSpells}
use Rattle.rtps_submsg.specs.Subs.{SubSpells, SameData, SameSub}
use Rattle.rtps_submsg.proofs.Unique.{ok_once, not_both, sub_once, sub_never, sub_breaks}
use Rattle.rtps_message.specs.declared.context.Context.{Context}
use Rattle.rtps_message.specs.declared.heard.End.{End}
use Rattle.rtps_message.specs.declared.heard.End.TheVariants.{Whole, BadHeader, Stopped}
use Rattle.rtps_message.specs.Facts.{start, after, data_fact, told}
use Rattle.rtps_message.specs.declared.heard.Heard.{Heard}
use Rattle.rtps_message.specs.Messages.{HasHeader, Hears}
use Rattle.rtps_message.specs.Messages as messages
use Rattle.rtps_message.specs.Facts as message
use Rattle.rtps_frag.specs.declared.asks.FragAsk.{FragAsk}
use Rattle.rtps_frag.specs.declared.body.FragBeat.{FragBeat}
use Rattle.rtps_frag.specs.declared.body.Head.{Head}
use Rattle.rtps_frag.specs.declared.joiner.Joined.{Joined}
use Rattle.rtps_frag.specs.Bodies.{Fragments, FragmentsSpell, FragmentsBreak, IsListBroken, head_at, beat_at, octets_of, behind}
use Rattle.rtps_frag.specs.Samples.{Opened}
use Rattle.rtps_frag.specs.Joining.{Item, plain, pieces, beat, is_other, is_plain, flags_of, body_of, ItemSpells, ItemBreaks, Standing, Step, Told, step, and_then, told_of, Splits, StopsAt, Ends, Joins, HasNoFragments, IsAsEver, IsAll}

-- ---- a DATA_FRAG

abbrev pub fault_of : ℕ → SubKind → SubFault
fault_of at kind = record { at = at; kind = kind }

err_once : {A E : Type 0} (r : Result A E) (x y : E) → r ≡ Err x → r ≡ Err y → x ≡ y
err_once r x y e f = cc

faults_once : {A : Type 0} (r : Result A SubFault) (at place : ℕ) (kind other : SubKind) → r ≡ Err (fault_of at kind) → r ≡ Err (fault_of place other) → (at ≡ place) × (kind ≡ other)
faults_once r at place kind other x y =
    let e : fault_of at kind ≡ fault_of place other = err_once r (fault_of at kind) (fault_of place other) x y in
    (ap (λ (k : SubFault). k.at) e, ap (λ (k : SubFault). k.kind) e)

inline_once : (is_there little : Bool) (behind : List ℕ) (i j : Inline) (r s : List ℕ) → InlineSpells is_there little behind i r → InlineSpells is_there little behind j s → (i ≡ j) × (r ≡ s)
inline_once true little behind i j r s x y =
    let same = spells_once behind little i j x.0 y.0 x.1 y.1 in
    (same.0, x.2 ∙ ap (λ (n : ℕ). drop n behind) same.1 ∙ sym y.2)
inline_once false little behind i j r s x y = (x.0 ∙ sym y.0, x.1 ∙ sym y.1)

fragments_same : (f g : Fragments) → f.head ≡ g.head → f.is_key ≡ g.is_key → f.inline ≡ g.inline → f.octets ≡ g.octets → f ≡ g
fragments_same f g head key inline octets =
    ap (λ (h : Head). let x : Fragments = record { head = h; is_key = f.is_key; inline = f.inline; octets = f.octets } in x) head
    ∙ ap (λ (k : Bool). let x : Fragments = record { head = g.head; is_key = k; inline = f.inline; octets = f.octets } in x) key
    ∙ ap (λ (i : Inline). let x : Fragments = record { head = g.head; is_key = g.is_key; inline = i; octets = f.octets } in x) inline
    ∙ ap (λ (o : List ℕ). let x : Fragments = record { head = g.head; is_key = g.is_key; inline = g.inline; octets = o } in x) octets

fragments_once : (flags : ℕ) (body : List ℕ) (f g : Fragments) → FragmentsSpell flags body f → FragmentsSpell flags body g → f ≡ g
fragments_once flags body f g x y =
    let little = has flags 0x01 in
    let h : f.head ≡ g.head = ok_once (head_at little body) f.head g.head x.head y.head in
    let moved : InlineSpells (has flags 0x02) little (behind g.head body) f.inline x.rest = subst (λ (k : Head). InlineSpells (has flags 0x02) little (behind k body) f.inline x.rest) h x.inline in
    let same = inline_once (has flags 0x02) little (behind g.head body) f.inline g.inline x.rest y.rest moved y.inline in
    fragments_same f g h (x.key ∙ sym y.key) same.0 (x.octets ∙ ap (λ (k : Head). take (octets_of k) x.rest) h ∙ ap (take (octets_of g.head)) same.1 ∙ sym y.octets)

list_never : (flags : ℕ) (body : List ℕ) (head : Head) (inline : Inline) (rest : List ℕ) (at : ℕ) (kind : SubKind) → head_at (has flags 0x01) body ≡ Ok head → InlineSpells (has flags 0x02) (has flags 0x01) (behind head body) inline rest
    → IsListBroken flags body at kind → ⊥
list_never flags body head inline rest at kind spelt listed b =
    let little = has flags 0x01 in
    let h : head ≡ b.head = ok_once (head_at little body) head b.head spelt b.spelt in
    let moved : InlineSpells true little (behind b.head body) inline rest =
    subst (λ (k : Head). InlineSpells true little (behind k body) inline rest) h (subst (λ (t : Bool). InlineSpells t little (behind head body) inline rest) b.listed listed) in
    never_both (behind b.head body) little inline moved.0 b.place b.list moved.1 b.breaks

rest_once : (flags : ℕ) (body : List ℕ) (head other : Head) (inline also : Inline) (rest left : List ℕ) → head_at (has flags 0x01) body ≡ Ok head → head_at (has flags 0x01) body ≡ Ok other
    → InlineSpells (has flags 0x02) (has flags 0x01) (behind head body) inline rest → InlineSpells (has flags 0x02) (has flags 0x01) (behind other body) also left → (head ≡ other) × (rest ≡ left)
rest_once flags body head other inline also rest left x y p q =
    let h : head ≡ other = ok_once (head_at (has flags 0x01) body) head other x y in
    let moved : InlineSpells (has flags 0x02) (has flags 0x01) (behind other body) inline rest = subst (λ (k : Head). InlineSpells (has flags 0x02) (has flags 0x01) (behind k body) inline rest) h p in
    (h, (inline_once (has flags 0x02) (has flags 0x01) (behind other body) inline also rest left moved q).1)

fragments_never : (flags : ℕ) (body : List ℕ) (f : Fragments) (at : ℕ) (kind : SubKind) → FragmentsSpell flags body f → FragmentsBreak flags body at kind → ⊥
fragments_never flags body f at kind x (inl e) = not_both (head_at (has flags 0x01) body) f.head (fault_of at kind) x.head e
fragments_never flags body f at kind x (inr (inl b)) = list_never flags body f.head f.inline x.rest at kind x.head x.inline b
fragments_never flags body f at kind x (inr (inr s)) =
    let same = rest_once flags body f.head s.head f.inline s.inline x.rest s.rest x.head s.spelt x.inline s.listed in
    absurd (omega (arith, x.fits, s.short, ap octets_of same.0, ap length same.1))

fragments_breaks : (flags : ℕ) (body : List ℕ) (at place : ℕ) (kind other : SubKind) → FragmentsBreak flags body at kind → FragmentsBreak flags body place other → (at ≡ place) × (kind ≡ other)
fragments_breaks flags body at place kind other (inl e) (inl f) = faults_once (head_at (has flags 0x01) body) at place kind other e f
fragments_breaks flags body at place kind other (inl e) (inr (inl b)) = absurd (not_both (head_at (has flags 0x01) body) b.head (fault_of at kind) b.spelt e)
fragments_breaks flags body at place kind other (inl e) (inr (inr s)) = absurd (not_both (head_at (has flags 0x01) body) s.head (fault_of at kind) s.spelt e)
fragments_breaks flags body at place kind other (inr (inl b)) (inl e) = absurd (not_both (head_at (has flags 0x01) body) b.head (fault_of place other) b.spelt e)
fragments_breaks flags body at place kind other (inr (inr s)) (inl e) = absurd (not_both (head_at (has flags 0x01) body) s.head (fault_of place other) s.spelt e)
fragments_breaks flags body at place kind other (inr (inl b)) (inr (inr s)) = absurd (list_never flags body s.head s.inline s.rest at kind s.spelt s.listed b)
fragments_breaks flags body at place kind other (inr (inr s)) (inr (inl b)) = absurd (list_never flags body s.head s.inline s.rest place other s.spelt s.listed b)
fragments_breaks flags body at place kind other (inr (inl b)) (inr (inl d)) =
    let little = has flags 0x01 in
    let h : b.head ≡ d.head = ok_once (head_at little body) b.head d.head b.spelt d.spelt in
    let same = breaks_once (behind d.head body) little b.place d.place b.list d.list (subst (λ (k : Head). ListBreaks (behind k body) little b.place b.list) h b.breaks) d.breaks in
    (b.at_is ∙ ap (λ (k : Head). 8 + k.offset + b.place) h ∙ ap (λ (n : ℕ). 8 + d.head.offset + n) same.0 ∙ sym d.at_is, b.kind_is ∙ ap InList same.1 ∙ sym d.kind_is)
fragments_breaks flags body at place kind other (inr (inr s)) (inr (inr t)) =
    let same = rest_once flags body s.head t.head s.inline t.inline s.rest t.rest s.spelt t.spelt s.listed t.listed in
    (s.at_is ∙ ap (λ (r : List ℕ). 4 + (length body - length r)) same.1 ∙ sym t.at_is, s.kind_is ∙ sym t.kind_is)

-- ---- a submessage

data_apart : (id : ℕ) (d : DataSub) → Other id ≡ Data d → ⊥
data_apart id d e = cc

pieces_apart : (s : Sub) → is_plain s ≡ true → SameSub s (Other 0x16) → ⊥
pieces_apart s alone (inl e) = false≢true (subst (λ (t : Sub). is_plain t ≡ true) e alone)
pieces_apart s alone (inr x) = data_apart 0x16 x.other x.other_is

beat_apart : (s : Sub) → is_plain s ≡ true → SameSub s (Other 0x13) → ⊥
beat_apart s alone (inl e) = false≢true (subst (λ (t : Sub). is_plain t ≡ true) e alone)
beat_apart s alone (inr x) = data_apart 0x13 x.other x.other_is

two_apart : SameSub (Other 0x16) (Other 0x13) → ⊥
two_apart (inl e) = false≢true (sym (ap (is_other 0x16) e))
two_apart (inr x) = data_apart 0x16 x.one x.one_is

apart_two : SameSub (Other 0x13) (Other 0x16) → ⊥
apart_two (inl e) = false≢true (sym (ap (is_other 0x13) e))
apart_two (inr x) = data_apart 0x13 x.one x.one_is

-- what it does and tells is the same
abbrev SameItem : Item → Item → Type 0
SameItem (plain s) (plain t) = SameSub s t
SameItem (plain s) (pieces g) = ⊥
SameItem (plain s) (beat d) = ⊥
SameItem (pieces f) (plain t) = ⊥
SameItem (pieces f) (pieces g) = f ≡ g
SameItem (pieces f) (beat d) = ⊥
SameItem (beat b) (plain t) = ⊥
SameItem (beat b) (pieces g) = ⊥
SameItem (beat b) (beat d) = b ≡ d

item_once : (bytes : List ℕ) (i j : Item) (n m : ℕ) → ItemSpells bytes i n → ItemSpells bytes j m → (n ≡ m) × SameItem i j
item_once bytes (plain s) (plain t) n m x y = sub_once bytes s t n m x.0 y.0
item_once bytes (plain s) (pieces g) n m x y = absurd (pieces_apart s x.1 (sub_once bytes s (Other 0x16) n m x.0 y.0).1)
item_once bytes (plain s) (beat d) n m x y = absurd (beat_apart s x.1 (sub_once bytes s (Other 0x13) n m x.0 y.0).1)
item_once bytes (pieces f) (plain t) n m x y = absurd (pieces_apart t y.1 (sub_once bytes t (Other 0x16) m n y.0 x.0).1)
item_once bytes (pieces f) (pieces g) n m x y =
    let e = (sub_once bytes (Other 0x16) (Other 0x16) n m x.0 y.0).0 in
    (e, fragments_once (flags_of bytes) (body_of bytes m) f g (subst (λ (k : ℕ). FragmentsSpell (flags_of bytes) (body_of bytes k) f) e x.1) y.1)
item_once bytes (pieces f) (beat d) n m x y = absurd (two_apart (sub_once bytes (Other 0x16) (Other 0x13) n m x.0 y.0).1)
item_once bytes (beat b) (plain t) n m x y = absurd (beat_apart t y.1 (sub_once bytes t (Other 0x13) m n y.0 x.0).1)
item_once bytes (beat b) (pieces g) n m x y = absurd (apart_two (sub_once bytes (Other 0x13) (Other 0x16) n m x.0 y.0).1)
item_once bytes (beat b) (beat d) n m x y =
    let e = (sub_once bytes (Other 0x13) (Other 0x13) n m x.0 y.0).0 in
    let little = has (flags_of bytes) 0x01 in
    (e, ok_once (beat_at little (body_of bytes m)) b d (subst (λ (k : ℕ). beat_at little (body_of bytes k) ≡ Ok b) e x.1) y.1)

item_never : (bytes : List ℕ) (i : Item) (n at : ℕ) (kind : SubKind) → ItemSpells bytes i n → ItemBreaks bytes at kind → ⊥
item_never bytes (plain s) n at kind x (inl y) = sub_never bytes s n at kind x.0 y
item_never bytes (pieces f) n at kind x (inl y) = sub_never bytes (Other 0x16) n at kind x.0 y
item_never bytes (beat b) n at kind x (inl y) = sub_never bytes (Other 0x13) n at kind x.0 y
item_never bytes (plain s) n at kind x (inr (inl y)) = pieces_apart s x.1 (sub_once bytes s (Other 0x16) n y.n x.0 y.framed).1
item_never bytes (plain s) n at kind x (inr (inr y)) = beat_apart s x.1 (sub_once bytes s (Other 0x13) n y.n x.0 y.framed).1
item_never bytes (pieces f) n at kind x (inr (inl y)) =
    let e = (sub_once bytes (Other 0x16) (Other 0x16) n y.n x.0 y.framed).0 in
    fragments_never (flags_of bytes) (body_of bytes y.n) f at kind (subst (λ (k : ℕ). FragmentsSpell (flags_of bytes) (body_of bytes k) f) e x.1) y.breaks
item_never bytes (pieces f) n at kind x (inr (inr y)) = two_apart (sub_once bytes (Other 0x16) (Other 0x13) n y.n x.0 y.framed).1
item_never bytes (beat b) n at kind x (inr (inl y)) = apart_two (sub_once bytes (Other 0x13) (Other 0x16) n y.n x.0 y.framed).1
item_never bytes (beat b) n at kind x (inr (inr y)) =
    let e = (sub_once bytes (Other 0x13) (Other 0x13) n y.n x.0 y.framed).0 in
    let little = has (flags_of bytes) 0x01 in
    not_both (beat_at little (body_of bytes y.n)) b (fault_of at kind) (subst (λ (k : ℕ). beat_at little (body_of bytes k) ≡ Ok b) e x.1) y.breaks

item_breaks : (bytes : List ℕ) (at place : ℕ) (kind other : SubKind) → ItemBreaks bytes at kind → ItemBreaks bytes place other → (at ≡ place) × (kind ≡ other)
item_breaks bytes at place kind other (inl x) (inl y) = sub_breaks bytes at place kind other x y
item_breaks bytes at place kind other (inl x) (inr (inl y)) = absurd (sub_never bytes (Other 0x16) y.n at kind y.framed x)
item_breaks bytes at place kind other (inl x) (inr (inr y)) = absurd (sub_never bytes (Other 0x13) y.n at kind y.framed x)
item_breaks bytes at place kind other (inr (inl x)) (inl y) = absurd (sub_never bytes (Other 0x16) x.n place other x.framed y)
item_breaks bytes at place kind other (inr (inr x)) (inl y) = absurd (sub_never bytes (Other 0x13) x.n place other x.framed y)
item_breaks bytes at place kind other (inr (inl x)) (inr (inr y)) = absurd (two_apart (sub_once bytes (Other 0x16) (Other 0x13) x.n y.n x.framed y.framed).1)
item_breaks bytes at place kind other (inr (inr x)) (inr (inl y)) = absurd (apart_two (sub_once bytes (Other 0x13) (Other 0x16) x.n y.n x.framed y.framed).1)
item_breaks bytes at place kind other (inr (inl x)) (inr (inl y)) =
    let e = (sub_once bytes (Other 0x16) (Other 0x16) x.n y.n x.framed y.framed).0 in
    fragments_breaks (flags_of bytes) (body_of bytes y.n) at place kind other (subst (λ (k : ℕ). FragmentsBreak (flags_of bytes) (body_of bytes k) at kind) e x.breaks) y.breaks
item_breaks bytes at place kind other (inr (inr x)) (inr (inr y)) =
    let e = (sub_once bytes (Other 0x13) (Other 0x13) x.n y.n x.framed y.framed).0 in
    let little = has (flags_of bytes) 0x01 in
    faults_once (beat_at little (body_of bytes y.n)) at place kind other (subst (λ (k : ℕ). beat_at little (body_of bytes k) ≡ Err (fault_of at kind)) e x.breaks) y.breaks

-- ---- what it does

data_same : (c : Context) (d e : DataSub) → SameData d e → data_fact c d ≡ data_fact c e
data_same c d e x = rw (x.reader, x.writer, x.number, x.inline, x.form, x.payload) refl

told_same : (own : List ℕ) (c : Context) (s t : Sub) → SameSub s t → told own c s ≡ told own c t
told_same own c s t (inl e) = ap (told own c) e
told_same own c s t (inr x) = ap (told own c) x.one_is ∙ rw (data_same c x.one x.other x.same) refl ∙ sym (ap (told own c) x.other_is)

after_same : (c : Context) (s t : Sub) → SameSub s t → after c s ≡ after c t
after_same c s t (inl e) = ap (after c) e
after_same c s t (inr x) = ap (after c) x.one_is ∙ sym (ap (after c) x.other_is)

step_same : (own : List ℕ) (s : Standing) (i j : Item) → SameItem i j → step own s i ≡ step own s j
step_same own s (plain p) (plain q) e = rw (told_same own s.context p q e, after_same s.context p q e) refl
step_same own s (plain p) (pieces g) e = absurd e
step_same own s (plain p) (beat d) e = absurd e
step_same own s (pieces f) (plain q) e = absurd e
step_same own s (pieces f) (pieces g) e = ap (λ (k : Fragments). step own s (pieces k)) e
step_same own s (pieces f) (beat d) e = absurd e
step_same own s (beat b) (plain q) e = absurd e
step_same own s (beat b) (pieces g) e = absurd e
step_same own s (beat b) (beat d) e = ap (λ (k : FragBeat). step own s (beat k)) e

-- ---- a message

nothing_spelt : (s : Sub) (n : ℕ) → SubSpells [] s n → ⊥
nothing_spelt s n x = no_head x.frame.id _ x.framed.heads.parts where
  no_head : (id : ℕ) (rest : List ℕ) → [] ≡ id ∷ rest → ⊥
  no_head id rest e = cc

no_item : (i : Item) (n : ℕ) → ItemSpells [] i n → ⊥
no_item (plain s) n x = nothing_spelt s n x.0
no_item (pieces f) n x = nothing_spelt (Other 0x16) n x.0
no_item (beat b) n x = nothing_spelt (Other 0x13) n x.0

stopped_once : (bytes rest : List ℕ) (at place : ℕ) (kind other : SubKind) → StopsAt bytes rest at kind → StopsAt bytes rest place other → Stopped at kind ≡ Stopped place other
stopped_once bytes rest at place kind other x y =
    let same = item_breaks rest x.place y.place kind other x.breaks y.breaks in
    let where_is : at ≡ place = x.at_is ∙ ap (λ (n : ℕ). (length bytes - length rest) + n) same.0 ∙ sym y.at_is in
    ap (λ (n : ℕ). Stopped n kind) where_is ∙ ap (Stopped place) same.1

not_empty : (rest : List ℕ) → 0 < length rest → rest ≡ [] → ⊥
not_empty rest some none = let zero_long : length rest ≡ 0 = ap length none in absurd (omega (arith, some, zero_long))

ends_once : (bytes rest : List ℕ) (e f : End) → Ends bytes rest e → Ends bytes rest f → e ≡ f
ends_once bytes rest Whole Whole x y = refl
ends_once bytes rest Whole BadHeader x y = absurd y
ends_once bytes rest Whole (Stopped at kind) x y = absurd (not_empty rest y.more x)
ends_once bytes rest BadHeader f x y = absurd x
ends_once bytes rest (Stopped at kind) Whole x y = absurd (not_empty rest x.more y)
ends_once bytes rest (Stopped at kind) BadHeader x y = absurd y
ends_once bytes rest (Stopped at kind) (Stopped place other) x y = stopped_once bytes rest at place kind other x y

never_goes_on : (bytes rest : List ℕ) (e : End) (i : Item) (n : ℕ) → Ends bytes rest e → ItemSpells rest i n → ⊥
never_goes_on bytes rest Whole i n x y = no_item i n (subst (λ (t : List ℕ). ItemSpells t i n) x y)
never_goes_on bytes rest BadHeader i n x y = x
never_goes_on bytes rest (Stopped at kind) i n x y = item_never rest i n x.place kind y x.breaks

splits_once : (own whole bytes : List ℕ) (s : Standing) (is js : List Item) (rest left : List ℕ) (e f : End) → Splits bytes is rest → Splits bytes js left → Ends whole rest e → Ends whole left f → (told_of own s is ≡ told_of own s js) × (e ≡ f)
splits_once own whole bytes s [] [] rest left e f x y p q = (refl, ends_once whole bytes e f (subst (λ (t : List ℕ). Ends whole t e) (sym x) p) (subst (λ (t : List ℕ). Ends whole t f) (sym y) q))
splits_once own whole bytes s [] (j ∷ js) rest left e f x y p q = absurd (never_goes_on whole bytes e j y.0 (subst (λ (r : List ℕ). Ends whole r e) (sym x) p) y.1)
splits_once own whole bytes s (i ∷ is) [] rest left e f x y p q = absurd (never_goes_on whole bytes f i x.0 (subst (λ (r : List ℕ). Ends whole r f) (sym y) q) x.1)
splits_once own whole bytes s (i ∷ is) (j ∷ js) rest left e f x y p q =
    let same = item_once bytes i j x.0 y.0 x.1 y.1 in
    let onward : Splits (drop y.0 bytes) is rest = subst (λ (n : ℕ). Splits (drop n bytes) is rest) same.0 x.2 in
    let later = splits_once own whole (drop y.0 bytes) (step own s i).next is js rest left e f onward y.2 p q in (
      ap (λ (t : Told). and_then (step own s i) t) later.0 ∙ ap (λ (k : Step). and_then k (told_of own k.next js)) (step_same own s i j same.1),
      later.1,
    )

joined_same : (h g : Joined) → h.facts ≡ g.facts → h.end ≡ g.end → h.asks ≡ g.asks → h ≡ g
joined_same h g facts end asks =
    ap (λ (fs : List Fact). let x : Joined = record { facts = fs; end = h.end; asks = h.asks } in x) facts
    ∙ ap (λ (e : End). let x : Joined = record { facts = g.facts; end = e; asks = h.asks } in x) end
    ∙ ap (λ (a : List FragAsk). let x : Joined = record { facts = g.facts; end = g.end; asks = a } in x) asks

pub joins_once : (own bytes : List ℕ) (os : List Opened) (h g : Joined) (left right : List Opened) → Joins own bytes os h left → Joins own bytes os g right → (h ≡ g) × (left ≡ right)
joins_once own bytes os h g left right (inl x) (inl y) =
    let same = splits_once own bytes (drop 20 bytes) (record { context = start bytes; samples = os }) x.1.items y.1.items x.1.rest y.1.rest h.end g.end x.1.splits y.1.splits x.1.ends y.1.ends in (
      joined_same h g (x.1.facts ∙ ap (λ (t : Told). t.facts) same.0 ∙ sym y.1.facts) same.1 (x.1.asks ∙ ap (λ (t : Told). t.asks) same.0 ∙ sym y.1.asks),
      x.1.leaves ∙ ap (λ (t : Told). t.last.samples) same.0 ∙ sym y.1.leaves,
    )
joins_once own bytes os h g left right (inl x) (inr y) = absurd (y.0 x.0)
joins_once own bytes os h g left right (inr x) (inl y) = absurd (x.0 y.0)
joins_once own bytes os h g left right (inr x) (inr y) = (x.1 ∙ sym y.1, x.2 ∙ sym y.2)

pub only_one : (own bytes : List ℕ) (os left : List Opened) (h : Joined) → Joins own bytes os h left → IsAll own bytes os h left
only_one own bytes os left h x = λ other right y. joins_once own bytes os h other left right x y

-- ---- without fragments

both_left : (a b : Bool) → (a && b) ≡ true → a ≡ true
both_left true b e = refl
both_left false b e = e

both_right : (a b : Bool) → (a && b) ≡ true → b ≡ true
both_right true b e = e
both_right false b e = absurd (false≢true e)

plain_facts : (own : List ℕ) (s : Standing) (subs : List Sub) → (told_of own s (map plain subs)).facts ≡ message.told_of own s.context subs
plain_facts own s [] = refl
plain_facts own s (x ∷ xs) = ap (λ (fs : List Fact). option_to_list (told own s.context x) ++ fs) (plain_facts own (step own s (plain x)).next xs)

plain_asks : (own : List ℕ) (s : Standing) (subs : List Sub) → (told_of own s (map plain subs)).asks ≡ []
plain_asks own s [] = refl
plain_asks own s (x ∷ xs) = plain_asks own (step own s (plain x)).next xs

plain_leaves : (own : List ℕ) (s : Standing) (subs : List Sub) → (told_of own s (map plain subs)).last.samples ≡ s.samples
plain_leaves own s [] = refl
plain_leaves own s (x ∷ xs) = plain_leaves own (step own s (plain x)).next xs

plain_splits : (bytes : List ℕ) (subs : List Sub) (rest : List ℕ) → messages.Splits bytes subs rest → list_all is_plain subs ≡ true → Splits bytes (map plain subs) rest
plain_splits bytes [] rest x all = x
plain_splits bytes (s ∷ ss) rest x all = (x.0, (x.1, both_left (is_plain s) (list_all is_plain ss) all), plain_splits (drop x.0 bytes) ss rest x.2 (both_right (is_plain s) (list_all is_plain ss) all))

plain_ends : (bytes rest : List ℕ) (e : End) → messages.Ends bytes rest e → Ends bytes rest e
plain_ends bytes rest Whole x = x
plain_ends bytes rest BadHeader x = x
plain_ends bytes rest (Stopped at kind) x = record { more = x.more; place = x.place; breaks = inl x.breaks; at_is = x.at_is }

abbrev as_joined : Heard → Joined
as_joined h = record { facts = h.facts; end = h.end; asks = [] }

plain_joins : (own bytes : List ℕ) (os : List Opened) (h : Heard) → Hears own bytes h → HasNoFragments bytes → Joins own bytes os (as_joined h) os
plain_joins own bytes os h (inl x) none =
    let s : Standing = record { context = start bytes; samples = os } in
    let subs = x.1.subs in
    inl (
      x.0,
      record {
        items = map plain subs;
        rest = x.1.rest;
        splits = plain_splits (drop 20 bytes) subs x.1.rest x.1.splits (none subs x.1.rest x.1.splits);
        ends = plain_ends bytes x.1.rest h.end x.1.ends;
        facts = x.1.facts ∙ sym (plain_facts own s subs);
        asks = sym (plain_asks own s subs);
        leaves = sym (plain_leaves own s subs);
      },
    )
plain_joins own bytes os h (inr x) none = inr (x.0, ap as_joined x.1, refl)

pub as_ever : (own bytes : List ℕ) (os left : List Opened) (j : Joined) → Joins own bytes os j left → IsAsEver own bytes os j left
as_ever own bytes os left j x = λ h y none. joins_once own bytes os j (as_joined h) left os x (plain_joins own bytes os h y none)
