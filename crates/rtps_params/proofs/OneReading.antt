-- Any octets are read in one way.
use Rattle.std.proofs.Common.{◌⊎◌, ℕ, zero, suc, ◌+◌, ◌<◌, Bool, List, [], length, inl, inr, refl, arith}
use Rattle.dur_base.proofs.OctetLists.{IsBytes}
use Rattle.rtps_params.specs.declared.inline.Inline.{Inline}
use Rattle.rtps_params.specs.Lists.{texts}
use Rattle.rtps_params.specs.Meaning.{inline_of, with_parameter}
use Rattle.rtps_params.specs.OneReading.{SomeList, SomeBreak, HasOneReading}
use Rattle.rtps_params.proofs.Next.{parameter, sentinel, fault, front_of}
use Rattle.rtps_params.proofs.Loop.{Progress, begins_so, goes_by, rest_fits, text_takes, spells_once, never_both, breaks_once}

-- what is left is read to the sentinel or to the first break
read_on : (fuel : ℕ) (little : Bool) (bytes : List ℕ) (inline : Inline) (rest : List ℕ) → IsBytes bytes → length rest < fuel → Progress little bytes inline rest → SomeList bytes little ⊎ SomeBreak bytes little
read_on zero little bytes inline rest fits short so = absurd (omega (arith, short))
read_on (suc fuel) little bytes inline rest fits short so =
    elim (front_of little rest (rest_fits bytes (texts little so.params) rest so.parts fits)) [
      | parameter p after good parts ↦
          read_on fuel little bytes (with_parameter inline p.means) after fits (omega (arith, short, text_takes little rest p after parts)) (goes_by little bytes inline rest p after so good parts)
      | sentinel ends ↦
          inl (record {
            inline = inline;
            n = length (texts little so.params) + 4;
            spells = record { params = so.params; rest = rest; parts = so.parts; good = so.good; ends = ends; tells = so.tells; takes = refl };
          })
      | fault kind breaks ↦
          inr (record {
            at = length (texts little so.params);
            kind = kind;
            breaks = record { params = so.params; rest = rest; parts = so.parts; good = so.good; breaks = breaks; place = refl };
          })
    ]

pub reads_once : (bytes : List ℕ) (little : Bool) → IsBytes bytes → HasOneReading bytes little
reads_once bytes little fits = record {
  either = read_on (length bytes + 1) little bytes (inline_of []) bytes fits (omega arith) (begins_so little bytes (inline_of []) refl);
  apart = λ x y. never_both bytes little x.inline x.n y.at y.kind x.spells y.breaks;
  one_list = λ x y. spells_once bytes little x.inline y.inline x.n y.n x.spells y.spells;
  one_break = λ x y. breaks_once bytes little x.at y.at x.kind y.kind x.breaks y.breaks;
}
