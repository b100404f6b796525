-- Each text is the text of a plan, breaks at a line, or is unfinished.
use Rattle.std.proofs.Common.{◌≡◌, ℕ, ◌+◌, ◌≤◌, List, [], ◌∷◌, ◌++◌, length, refl, sym, ap, subst, ◌∙◌, append_assoc, append-nil, length-append, arith, Bool, true, false, Option, Some, None, Result, Ok, Err, inl, inr, ◌⊎◌}
use Rattle.std.specs.Prelude.{◌==◌}
use Rattle.std.specs.List.{flat_map}
use Rattle.std.proofs.lemmas.Bool.{cases_Bool, cases_lt}
use Rattle.std.proofs.lemmas.List.{flat_map_more}
use Rattle.dur_qos.specs.declared.fault.PlanKind.{PlanKind}
use Rattle.dur_qos.specs.declared.fault.PlanKind.TheVariants.{Word}
use Rattle.dur_qos.specs.declared.fault.PlanFault.{PlanFault}
use Rattle.dur_qos.specs.declared.plan.Plan.{Plan}
use Rattle.dur_qos.specs.Reading.{Next, whole_line}
use Rattle.dur_qos.specs.Text.{line_text, HasNoFeed, GoesOn, PlanText, BreaksAt, Unfinished}

abbrev pub Outcome : List ℕ → Type 0
Outcome bytes = ((plan : Plan) × (n : ℕ) × PlanText bytes plan n) ⊎ (((fault : PlanFault) × BreaksAt bytes fault) ⊎ ((line : ℕ) × Unfinished bytes line))

is_feed : (b : ℕ) → (b == 10) ≡ true → b ≡ 10
is_feed b h = grind arith

more_part : (l : List ℕ) (b : ℕ) → HasNoFeed l → (b == 10) ≡ false → HasNoFeed (l ++ b ∷ [])
more_part [] b none other = (other, tt)
more_part (x ∷ l) b none other = (none.0, more_part l b none.1 other)

goes_push : (ls : List (List ℕ)) (p q : Option Plan) (l : List ℕ) (next : Plan) → GoesOn p ls q → HasNoFeed l → length l ≤ 512 → whole_line q l ≡ Ok (record { plan = next; ended = false }) → GoesOn p (ls ++ l ∷ []) (Some next)
goes_push [] p q l next goes none short says = (none, short, next, ap (λ (x : Option Plan). whole_line x l) goes ∙ says, refl)
goes_push (x ∷ ls) p q l next goes none short says = (goes.0, goes.1, goes.2, goes.3, goes_push ls (Some goes.2) q l next goes.4 none short says)

-- the lines before, the part of a line, and what follows
abbrev laid : List (List ℕ) → List ℕ → List ℕ → List ℕ
laid ls l rest = flat_map line_text ls ++ (l ++ rest)

line_laid : (ls : List (List ℕ)) (l rest : List ℕ) → laid ls l (10 ∷ rest) ≡ flat_map line_text ls ++ (line_text l ++ rest)
line_laid ls l rest = ap (λ (t : List ℕ). flat_map line_text ls ++ t) (sym (append_assoc l (10 ∷ []) rest))

next_laid : (ls : List (List ℕ)) (l rest : List ℕ) → laid (ls ++ l ∷ []) [] rest ≡ laid ls l (10 ∷ rest)
next_laid ls l rest = ap (λ (t : List ℕ). t ++ rest) (sym (flat_map_more line_text [] ls l)) ∙ append_assoc (flat_map line_text ls) (line_text l) rest ∙ sym (line_laid ls l rest)

-- a line is whole
ends : (bs : List ℕ) (ls : List (List ℕ)) (p : Option Plan) (l : List ℕ) → GoesOn None ls p → HasNoFeed l → length l ≤ 512
    → ((next : Plan) → GoesOn None (ls ++ l ∷ []) (Some next) → Outcome (laid (ls ++ l ∷ []) [] bs))
    → (r : Result Next PlanKind) → whole_line p l ≡ r → Outcome (laid ls l (10 ∷ bs))
ends bs ls p l goes none short onward (Err kind) says =
    let fault : PlanFault = record { line = length ls + 1; kind = kind } in
    inr (inl (
      fault,
      record {
        count = length ls;
        before = p;
        bad = line_text l;
        more = bs;
        lines = record { lines = ls; parts = line_laid ls l bs; goes = goes; count_is = refl };
        place = refl;
        breaks = inl (l, refl, none, short, says);
      },
    ))
ends bs ls p l goes none short onward (Ok next) says = elim (cases_Bool next.ended) [
  | inl last ↦
      let same : next ≡ record { plan = next.plan; ended = true } = ap (λ (e : Bool). let n : Next = record { plan = next.plan; ended = e } in n) last in
      inl (
        next.plan,
        length (flat_map line_text ls ++ line_text l),
        record {
          count = length ls;
          before = p;
          last = l;
          more = bs;
          lines = record { lines = ls; parts = line_laid ls l bs; goes = goes; count_is = refl };
          feed = none;
          short = short;
          says = says ∙ ap (λ (n : Next). Ok n) same;
          size = omega (arith, ap length (line_laid ls l bs), length-append (flat_map line_text ls) (line_text l), length-append (flat_map line_text ls) (line_text l ++ bs), length-append (line_text l) bs);
        },
      )
  | inr more ↦
      let same : next ≡ record { plan = next.plan; ended = false } = ap (λ (e : Bool). let n : Next = record { plan = next.plan; ended = e } in n) more in
      subst Outcome (next_laid ls l bs) (onward next.plan (goes_push ls None p l next.plan goes none short (says ∙ ap (λ (n : Next). Ok n) same)))
]

outcome_from : (bytes : List ℕ) (ls : List (List ℕ)) (p : Option Plan) (l : List ℕ) → GoesOn None ls p → HasNoFeed l → length l ≤ 512 → Outcome (laid ls l bytes)
outcome_from [] ls p l goes none short = inr (inr (
  length ls + 1,
  record {
    count = length ls;
    before = p;
    part = l;
    lines = record { lines = ls; parts = ap (λ (t : List ℕ). flat_map line_text ls ++ t) (append-nil l); goes = goes; count_is = refl };
    feed = none;
    short = short;
    place = refl;
  },
))
outcome_from (b ∷ bs) ls p l goes none short = elim (cases_Bool (b == 10)) [
  | inl feed ↦
      subst (λ (x : ℕ). Outcome (laid ls l (x ∷ bs))) (sym (is_feed b feed))
      (ends bs ls p l goes none short (λ next on. outcome_from bs (ls ++ l ∷ []) (Some next) [] on (tt {0}) (omega arith)) (whole_line p l) refl)
  | inr other ↦ elim (cases_lt (length l) 512) [
    | inl room ↦
        subst Outcome (ap (λ (t : List ℕ). flat_map line_text ls ++ t) (append_assoc l (b ∷ []) bs))
        (outcome_from bs ls p (l ++ b ∷ []) goes (more_part l b none other) (omega (arith, length-append l (b ∷ []))))
    | inr full ↦
        let fault : PlanFault = record { line = length ls + 1; kind = Word } in
        inr (inl (
          fault,
          record {
            count = length ls;
            before = p;
            bad = l ++ b ∷ [];
            more = bs;
            lines = record { lines = ls; parts = ap (λ (t : List ℕ). flat_map line_text ls ++ t) (sym (append_assoc l (b ∷ []) bs)); goes = goes; count_is = refl };
            place = refl;
            breaks = inr (l, b, refl, none, omega (arith, full), other, refl);
          },
        ))
  ]
]

pub outcome : (bytes : List ℕ) → Outcome bytes
outcome bytes = outcome_from bytes [] None [] refl (tt {0}) (omega arith)
