-- What the submessages that were read tell, and those that follow.
use Rattle.std.proofs.Common.{◌≡◌, ℕ, ◌+◌, ◌-◌, ◌<◌, ◌≤◌, List, [], ◌∷◌, ◌++◌, length, drop, refl, sym, ap, subst, ◌∙◌, append_assoc, append-nil, arith}
use Rattle.std.proofs.lemmas.List.{drop-drop, drop_all, length-drop}
use Rattle.std.specs.Prelude.{Option}
use Rattle.std.specs.Option.{option_to_list}
use Rattle.dur_base.specs.declared.fact.Fact.{Fact}
use Rattle.rtps_submsg.specs.declared.sub.Sub.{Sub}
use Rattle.rtps_submsg.specs.declared.sub.SubKind.{SubKind}
use Rattle.rtps_submsg.specs.Subs.{SubSpells, SubBreaks}
use Rattle.rtps_message.specs.declared.context.Context.{Context}
use Rattle.rtps_message.specs.declared.heard.End.TheVariants.{Whole, Stopped}
use Rattle.rtps_message.specs.Facts.{after, told, told_of}
use Rattle.rtps_message.specs.Messages.{Splits, Says}

-- all submessages, where these are the ones that are left
pub record Goes (own bytes : List ℕ) (begin : Context) (facts : List Fact) (c : Context) (subs : List Sub) (rest : List ℕ) : Type 0 where
  pub all : List Sub
  pub splits : Splits (drop 20 bytes) all rest
  pub tells : told_of own begin all ≡ facts ++ told_of own c subs

-- the facts so far, and what the octets from a place on tell, are what the whole tells
pub record Stands (own bytes : List ℕ) (begin : Context) (facts : List Fact) (c : Context) (at : ℕ) : Type 0 where
  pub from : 20 ≤ at
  pub within : at ≤ length bytes
  pub goes : (subs : List Sub) (rest : List ℕ) → Splits (drop at bytes) subs rest → Goes own bytes begin facts c subs rest

pub begins : (own bytes : List ℕ) (begin : Context) → 20 ≤ length bytes → Stands own bytes begin [] begin 20
begins own bytes begin long = record { from = omega arith; within = long; goes = λ subs rest x. record { all = subs; splits = x; tells = refl } }

-- a submessage more
pub goes_on : (own bytes : List ℕ) (begin : Context) (facts more : List Fact) (c d : Context) (at n : ℕ) (s : Sub) (one : Option Fact)
    → Stands own bytes begin facts c at → SubSpells (drop at bytes) s n → n ≤ length (drop at bytes) → d ≡ after c s → one ≡ told own c s → more ≡ facts ++ option_to_list one
    → Stands own bytes begin more d (at + n)
goes_on own bytes begin facts more c d at n s one h x fits next tells adds = record {
  from = omega (arith, h.from);
  within = omega (arith, h.within, fits, length-drop at bytes);
  goes = λ subs rest y.
      let behind : Splits (drop n (drop at bytes)) subs rest = subst (λ (t : List ℕ). Splits t subs rest) (sym (drop-drop n at bytes)) y in
      let g = h.goes (s ∷ subs) rest (n, x, behind) in
      record {
        all = g.all;
        splits = g.splits;
        tells =
            g.tells
            ∙ ap (λ (k : Context). facts ++ (option_to_list (told own c s) ++ told_of own k subs)) (sym next)
            ∙ ap (λ (o : Option Fact). facts ++ (option_to_list o ++ told_of own d subs)) (sym tells)
            ∙ sym (append_assoc facts (option_to_list one) (told_of own d subs))
            ∙ ap (λ (t : List Fact). t ++ told_of own d subs) (sym adds);
      };
}

-- nothing is left
pub ends_whole : (own bytes : List ℕ) (begin : Context) (facts : List Fact) (c : Context) (at : ℕ) → Stands own bytes begin facts c at → length bytes ≤ at → Says own bytes begin (record { facts = facts; end = Whole })
ends_whole own bytes begin facts c at h past =
    let none : drop at bytes ≡ [] = drop_all at bytes past in
    let g = h.goes [] [] none in
    record { subs = g.all; rest = []; splits = g.splits; ends = refl; facts = sym (append-nil facts) ∙ sym g.tells }

-- a faulty submessage
pub stops : (own bytes : List ℕ) (begin : Context) (facts : List Fact) (c : Context) (at place : ℕ) (kind : SubKind) → Stands own bytes begin facts c at → at < length bytes → SubBreaks (drop at bytes) place kind
    → Says own bytes begin (record { facts = facts; end = Stopped (at + place) kind })
stops own bytes begin facts c at place kind h more b =
    let g = h.goes [] (drop at bytes) refl in
    let len : length (drop at bytes) ≡ length bytes - at = length-drop at bytes in
    record {
      subs = g.all;
      rest = drop at bytes;
      splits = g.splits;
      ends = record { more = omega (arith, len, more); place = place; breaks = b; at_is = omega (arith, len, more) };
      facts = sym (append-nil facts) ∙ sym g.tells;
    }
