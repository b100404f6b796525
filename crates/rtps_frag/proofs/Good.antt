-- What is told is good: the values of an inline QoS lie in the ranges of a sample.
use Rattle.std.proofs.Common.{◌≡◌, ℕ, ◌≤◌, Bool, true, false, List, [], ◌∷◌, ◌++◌, length, drop, Option, Some, None, Result, Ok, Err, refl, sym, subst, arith}
use Rattle.std.specs.Prelude.{IfSome, IfOk, is_none, if◌then◌else◌}
use Rattle.std.specs.Option.{option_to_list}
use Rattle.std.proofs.lemmas.Bool.{cond_both}
use Rattle.dur_base.specs.Goodness.{IsPayload, IsGoodRaw}
use Rattle.dur_base.specs.declared.fact.Fact.{Fact}
use Rattle.dur_base.proofs.OctetLists.{IsBytes}
use Rattle.rtps_params.specs.declared.inline.Inline.{Inline}
use Rattle.rtps_params.specs.Lists.{ListSpells}
use Rattle.rtps_params.specs.Meaning.{inline_of}
use Rattle.rtps_submsg.specs.declared.sub.Sub.{Sub}
use Rattle.rtps_submsg.specs.Subs.{SubSpells}
use Rattle.rtps_message.specs.declared.context.Context.{Context}
use Rattle.rtps_message.specs.Facts.{told, IsGoodFact, AreGood}
use Rattle.rtps_message.proofs.Good.{IsInside, inline_inside, good_more}
use Rattle.rtps_frag.specs.Samples.{Opened, form_of, joined}

-- a list without parameters
pub nothing_inside : (i : Inline) → i ≡ inline_of [] → IsInside i
nothing_inside i i_is = inline_inside false true [] [] i (λ k. omega arith) (i_is, refl)

-- a list that is read
pub listed_inside : {E : Type 0} (behind : List ℕ) (little : Bool) (r : Result (Inline × ℕ) E) → IsBytes behind → IfOk r (λ x. ListSpells behind little x.0 x.1) → IfOk r (λ x. IsInside x.0)
listed_inside behind little (Ok x) fits spells = inline_inside true little behind (drop x.1 behind) x.0 fits (x.1, spells, refl)
listed_inside behind little (Err e) fits spells = tt

-- ---- what an open sample would tell

form_fine : (is_key : Bool) (octets : List ℕ) → length octets ≤ 65344 → IsPayload (form_of is_key) octets
form_fine true octets short = short
form_fine false octets short = short

pub joined_good : (o : Opened) → IsInside o.inline → length o.octets ≤ 65344 → IsGoodFact (joined o)
unfolding joined
joined_good o inside short =
    cond_both (is_none o.inline.strange) _ _ IsGoodFact
    (λ e. let good : IsGoodRaw _ = record { status = inside.status; lifespan = inside.lifespan; mark = inside.mark; original = inside.original; payload = form_fine o.is_key o.octets short } in good)
    (λ e. tt)

pub whole_good : (is_whole : Bool) (fact : Option Fact) (joined : Fact) → IsGoodFact joined → fact ≡ (if is_whole then Some joined else None) → IfSome fact IsGoodFact
whole_good true fact joined good fact_is = subst (λ f. IfSome f IsGoodFact) (sym fact_is) good
whole_good false fact joined good fact_is = subst (λ f. IfSome f IsGoodFact) (sym fact_is) tt

-- ---- what a submessage tells

one_good : (fact : Option Fact) → AreGood ([] ++ option_to_list fact) → IfSome fact IsGoodFact
one_good None good = tt
one_good (Some fact) good = good.0

pub plain_good : (own bytes : List ℕ) (n : ℕ) (c : Context) (s : Sub) (fact : Option Fact) → IsBytes bytes → SubSpells bytes s n → fact ≡ told own c s → IfSome fact IsGoodFact
plain_good own bytes n c s fact fits spells fact_is = one_good fact (good_more own bytes 0 n c s [] ([] ++ option_to_list fact) fact fits spells tt fact_is refl)

all_push : (facts : List Fact) (fact : Option Fact) → AreGood facts → IfSome fact IsGoodFact → AreGood (facts ++ option_to_list fact)
all_push [] None each one = tt
all_push [] (Some f) each one = (one, tt)
all_push (f ∷ facts) fact each one = (each.0, all_push facts fact each.1 one)

-- the facts stay good
pub good_further : (facts more : List Fact) (fact : Option Fact) → AreGood facts → IfSome fact IsGoodFact → more ≡ facts ++ option_to_list fact → AreGood more
good_further facts more fact each one more_is = subst AreGood (sym more_is) (all_push facts fact each one)
