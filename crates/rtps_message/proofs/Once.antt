-- A message says one thing.
use Rattle.std.proofs.Common.{◌≡◌, ℕ, ◌+◌, ◌-◌, ◌<◌, List, [], ◌∷◌, ◌++◌, length, drop, Option, Result, Ok, Err, refl, sym, ap, subst, ◌∙◌, arith, inl, inr}
use Rattle.std.specs.Prelude.{IfOk}
use Rattle.std.specs.Option.{option_to_list}
use Rattle.dur_base.specs.declared.fact.Fact.{Fact}
use Rattle.rtps_submsg.specs.declared.sub.DataSub.{DataSub}
use Rattle.rtps_submsg.specs.declared.sub.Sub.{Sub}
use Rattle.rtps_submsg.specs.declared.sub.SubKind.{SubKind}
use Rattle.rtps_submsg.specs.Subs.{SubSpells, SameData, SameSub}
use Rattle.rtps_submsg.proofs.Unique.{sub_once, sub_never, sub_breaks}
use Rattle.rtps_message.specs.declared.context.Context.{Context}
use Rattle.rtps_message.specs.declared.heard.End.{End}
use Rattle.rtps_message.specs.declared.heard.End.TheVariants.{Whole, BadHeader, Stopped}
use Rattle.rtps_message.specs.declared.heard.Heard.{Heard}
use Rattle.rtps_message.specs.Facts.{start, after, data_fact, told, told_of}
use Rattle.rtps_message.specs.Messages.{HasHeader, Splits, StopsAt, Ends, HasEnd, Hears, HasOneHearing}

-- ---- a submessage is compared by what it tells

data_same : (c : Context) (d e : DataSub) → SameData d e → data_fact c d ≡ data_fact c e
data_same c d e x = rw (x.reader, x.writer, x.number, x.inline, x.form, x.payload) refl

told_same : (own : List ℕ) (c : Context) (s t : Sub) → SameSub s t → told own c s ≡ told own c t
told_same own c s t (inl e) = ap (told own c) e
told_same own c s t (inr x) = ap (told own c) x.one_is ∙ rw (data_same c x.one x.other x.same) refl ∙ sym (ap (told own c) x.other_is)

after_same : (c : Context) (s t : Sub) → SameSub s t → after c s ≡ after c t
after_same c s t (inl e) = ap (after c) e
after_same c s t (inr x) = ap (after c) x.one_is ∙ sym (ap (after c) x.other_is)

-- ---- a message

nothing_spelt : (s : Sub) (n : ℕ) → SubSpells [] s n → ⊥
nothing_spelt s n x = no_head x.frame.id _ x.framed.heads.parts where
  no_head : (id : ℕ) (rest : List ℕ) → [] ≡ id ∷ rest → ⊥
  no_head id rest e = cc

stopped_once : (bytes rest : List ℕ) (at place : ℕ) (kind other : SubKind) → StopsAt bytes rest at kind → StopsAt bytes rest place other → Stopped at kind ≡ Stopped place other
stopped_once bytes rest at place kind other x y =
    let same = sub_breaks rest x.place y.place kind other x.breaks y.breaks in
    let where_is : at ≡ place = x.at_is ∙ ap (λ (n : ℕ). (length bytes - length rest) + n) same.0 ∙ sym y.at_is in
    ap (λ (n : ℕ). Stopped n kind) where_is ∙ ap (Stopped place) same.1

not_empty : (rest : List ℕ) → 0 < length rest → rest ≡ [] → ⊥
not_empty rest some none = let zero_long : length rest ≡ 0 = ap length none in absurd (omega (arith, some, zero_long))

ends_once : (bytes rest : List ℕ) (e f : End) → Ends bytes rest e → Ends bytes rest f → e ≡ f
ends_once bytes rest Whole Whole x y = refl
ends_once bytes rest Whole BadHeader x y = absurd y
ends_once bytes rest Whole (Stopped at kind) x y = absurd (not_empty rest y.more x)
ends_once bytes rest BadHeader f x y = absurd x
ends_once bytes rest (Stopped at kind) Whole x y = absurd (not_empty rest x.more y)
ends_once bytes rest (Stopped at kind) BadHeader x y = absurd y
ends_once bytes rest (Stopped at kind) (Stopped place other) x y = stopped_once bytes rest at place kind other x y

never_goes_on : (bytes rest : List ℕ) (e : End) (s : Sub) (n : ℕ) → Ends bytes rest e → SubSpells rest s n → ⊥
never_goes_on bytes rest Whole s n x y = nothing_spelt s n (subst (λ (t : List ℕ). SubSpells t s n) x y)
never_goes_on bytes rest BadHeader s n x y = x
never_goes_on bytes rest (Stopped at kind) s n x y = sub_never rest s n x.place kind y x.breaks

splits_once : (own whole bytes : List ℕ) (c : Context) (subs others : List Sub) (rest behind : List ℕ) (e f : End) → Splits bytes subs rest → Splits bytes others behind → Ends whole rest e → Ends whole behind f
    → (told_of own c subs ≡ told_of own c others) × (e ≡ f)
splits_once own whole bytes c [] [] rest behind e f x y p q = (refl, ends_once whole bytes e f (subst (λ (t : List ℕ). Ends whole t e) (sym x) p) (subst (λ (t : List ℕ). Ends whole t f) (sym y) q))
splits_once own whole bytes c [] (t ∷ ts) rest behind e f x y p q = absurd (never_goes_on whole bytes e t y.0 (subst (λ (r : List ℕ). Ends whole r e) (sym x) p) y.1)
splits_once own whole bytes c (s ∷ ss) [] rest behind e f x y p q = absurd (never_goes_on whole bytes f s x.0 (subst (λ (r : List ℕ). Ends whole r f) (sym y) q) x.1)
splits_once own whole bytes c (s ∷ ss) (t ∷ ts) rest behind e f x y p q =
    let same = sub_once bytes s t x.0 y.0 x.1 y.1 in
    let onward : Splits (drop y.0 bytes) ss rest = subst (λ (n : ℕ). Splits (drop n bytes) ss rest) same.0 x.2 in
    let later = splits_once own whole (drop y.0 bytes) (after c s) ss ts rest behind e f onward y.2 p q in (
      ap (λ (o : Option Fact). option_to_list o ++ told_of own (after c s) ss) (told_same own c s t same.1)
          ∙ ap (λ (fs : List Fact). option_to_list (told own c t) ++ fs) (later.0 ∙ ap (λ (k : Context). told_of own k ts) (after_same c s t same.1)),
      later.1,
    )

heard_same : (h g : Heard) → h.facts ≡ g.facts → h.end ≡ g.end → h ≡ g
heard_same h g facts end = ap (λ (fs : List Fact). let x : Heard = record { facts = fs; end = h.end } in x) facts ∙ ap (λ (e : End). let x : Heard = record { facts = g.facts; end = e } in x) end

pub hears_once : (own bytes : List ℕ) (h g : Heard) → Hears own bytes h → Hears own bytes g → h ≡ g
hears_once own bytes h g (inl x) (inl y) =
    let same = splits_once own bytes (drop 20 bytes) (start bytes) x.1.subs y.1.subs x.1.rest y.1.rest h.end g.end x.1.splits y.1.splits x.1.ends y.1.ends in
    heard_same h g (x.1.facts ∙ same.0 ∙ sym y.1.facts) same.1
hears_once own bytes h g (inl x) (inr y) = absurd (y.0 x.0)
hears_once own bytes h g (inr x) (inl y) = absurd (x.0 y.0)
hears_once own bytes h g (inr x) (inr y) = x.1 ∙ sym y.1

pub only_by : {E : Type 0} (own bytes : List ℕ) (r : Result Heard E) → IfOk r (λ h. Hears own bytes h) → IfOk r (λ h. (other : Heard) → Hears own bytes other → h ≡ other)
only_by own bytes (Ok h) x = λ other y. hears_once own bytes h other x y
only_by own bytes (Err e) x = tt

-- a message with a header is heard by what its submessages tell
pub hears_whole : (bytes : List ℕ) (end : End) → HasHeader bytes → HasEnd bytes end → HasOneHearing bytes
hears_whole bytes end header h = record {
  some = λ own. (
    record { facts = told_of own (start bytes) h.subs; end = end },
    inl (header, record { subs = h.subs; rest = h.rest; splits = h.splits; ends = h.ends; facts = refl }),
  );
  one = λ own. hears_once own bytes;
}

-- without a header it is heard as nothing
pub hears_nothing : (bytes : List ℕ) → (HasHeader bytes → ⊥) → HasOneHearing bytes
hears_nothing bytes none = record {
  some = λ own. (record { facts = []; end = BadHeader }, inr (none, refl));
  one = λ own. hears_once own bytes;
}
