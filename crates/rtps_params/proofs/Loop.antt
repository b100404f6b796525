-- What a reader knows on its way through a list, and that a list is read in one way alone.
use Rattle.std.proofs.Common.{◌≡◌, ◌≤◌, ℕ, ◌+◌, ◌-◌, ◌<◌, Bool, List, [], ◌∷◌, ◌++◌, length, map, drop, Option, Some, None, Result, Ok, Err, refl, sym, ap, subst, ◌∙◌, append_assoc, arith}
use Rattle.std.specs.Option.{option_or}
use Rattle.std.proofs.lemmas.List.{append-nil, length-append, map-append, drop_at}
use Rattle.dur_base.proofs.OctetLists.{IsBytes, IsBytes-drop}
use Rattle.rtps_params.specs.declared.inline.Inline.{Inline}
use Rattle.rtps_params.specs.declared.parameter.ListKind.{ListKind}
use Rattle.rtps_params.specs.declared.reading.ListFault.{ListFault}
use Rattle.rtps_params.specs.declared.parameter.Parameter.{Parameter}
use Rattle.rtps_params.specs.declared.parameter.Parameter.TheVariants.{Hash, Status, Lifespan, Set, Original, Strange, Passed}
use Rattle.std.specs.Int.{w16}
use Rattle.dur_base.specs.Fields.{octets}
use Rattle.rtps_params.specs.Lists.{Given, text, texts, IsGood, AreGood, Ends, Breaks, ListSpells, ListBreaks}
use Rattle.rtps_params.specs.Meaning.{last_of, first_of, inline_of, with_parameter}
use Rattle.rtps_params.specs.Reading.{next_at}
use Rattle.dur_base.proofs.FieldNumbers.{length_16}
use Rattle.rtps_params.proofs.Next.{parameter, sentinel, fault, front_of, good_again, ends_again, breaks_again}

-- the parameters read so far
pub record Progress (little : Bool) (bytes : List ℕ) (inline : Inline) (rest : List ℕ) : Type 0 where
  pub params : List Given
  pub parts : bytes ≡ texts little params ++ rest
  pub good : AreGood little params
  pub tells : inline ≡ inline_of (map (λ p. p.means) params)

-- ---- one parameter more

or_none : {A : Type 0} (o : Option A) → option_or None o ≡ option_or o None
or_none None = refl
or_none (Some x) = refl

or_assoc : {A : Type 0} (o p q : Option A) → option_or (option_or o p) q ≡ option_or o (option_or p q)
or_assoc None p q = refl
or_assoc (Some x) p q = refl

last-push : {A : Type 0} (f : Parameter → Option A) (ps : List Parameter) (p : Parameter) → last_of f (ps ++ p ∷ []) ≡ option_or (f p) (last_of f ps)
last-push f [] p = or_none (f p)
last-push f (q ∷ ps) p = ap (λ o. option_or o (f q)) (last-push f ps p) ∙ or_assoc (f p) (last_of f ps) (f q)

first-push : {A : Type 0} (f : Parameter → Option A) (ps : List Parameter) (p : Parameter) → first_of f (ps ++ p ∷ []) ≡ option_or (first_of f ps) (f p)
first-push f [] p = sym (or_none (f p))
first-push f (q ∷ ps) p = ap (λ o. option_or (f q) o) (first-push f ps p) ∙ sym (or_assoc (f q) (first_of f ps) (f p))

or_nothing : {A : Type 0} (o : Option A) → option_or o None ≡ o
or_nothing None = refl
or_nothing (Some x) = refl

pub inline-push : (ps : List Parameter) (p : Parameter) → inline_of (ps ++ p ∷ []) ≡ with_parameter (inline_of ps) p
unfolding inline_of
inline-push ps (Hash key) = simp (last-push, first-push, or_nothing)
inline-push ps (Status status) = simp (last-push, first-push, or_nothing)
inline-push ps (Lifespan ticks) = simp (last-push, first-push, or_nothing)
inline-push ps (Set mark) = simp (last-push, first-push, or_nothing)
inline-push ps (Original guid number) = simp (last-push, first-push, or_nothing)
inline-push ps (Strange id) = simp (last-push, first-push)
inline-push ps Passed = simp (last-push, first-push, or_nothing)

texts-push : (little : Bool) (ps : List Given) (p : Given) → texts little (ps ++ p ∷ []) ≡ texts little ps ++ text little p
texts-push little [] p = append-nil (text little p)
texts-push little (q ∷ ps) p = ap (λ (x : List ℕ). text little q ++ x) (texts-push little ps p) ∙ sym (append_assoc (text little q) (texts little ps) (text little p))

good-push : (little : Bool) (ps : List Given) (p : Given) → AreGood little ps → IsGood little p → AreGood little (ps ++ p ∷ [])
good-push little [] p all one = (one, tt)
good-push little (q ∷ ps) p all one = (all.0, good-push little ps p all.1 one)

-- ---- what one step of reading can't be twice

abbrev Step : Type 0
Step = Result (Option (Parameter × List ℕ)) ListKind

abbrev item : Parameter → List ℕ → Step
item m after = Ok (Some (m, after))

abbrev end : Step
end = Ok None

abbrev broken : ListKind → Step
broken kind = Err kind

same_pair : (x y : Parameter × List ℕ) → item x.0 x.1 ≡ item y.0 y.1 → x ≡ y
same_pair x y e = cc

same_item : (m n : Parameter) (a b : List ℕ) → item m a ≡ item n b → (m ≡ n) × (a ≡ b)
same_item m n a b e = let p = same_pair (m, a) (n, b) e in (ap (λ (x : Parameter × List ℕ). x.0) p, ap (λ (x : Parameter × List ℕ). x.1) p)

not_item_end : (m : Parameter) (after : List ℕ) → item m after ≡ end → ⊥
not_item_end m after e = cc

not_item_fault : (m : Parameter) (after : List ℕ) (kind : ListKind) → item m after ≡ broken kind → ⊥
not_item_fault m after kind e = cc

not_end_fault : (kind : ListKind) → end ≡ broken kind → ⊥
not_end_fault kind e = cc

same_fault : (k j : ListKind) → broken k ≡ broken j → k ≡ j
same_fault k j e = cc

pub rest_fits : (bytes front rest : List ℕ) → bytes ≡ front ++ rest → IsBytes bytes → IsBytes rest
rest_fits bytes front rest parts fits =
    let e : drop (length front) bytes ≡ rest = ap (drop (length front)) parts ∙ drop_at front rest (length front) refl in
    subst IsBytes e (IsBytes-drop (length front) bytes fits)

place_is : (bytes front rest : List ℕ) (n : ℕ) → bytes ≡ front ++ rest → n ≡ length bytes - length rest → n ≡ length front
place_is bytes front rest n parts e = omega (arith, length-append front rest, ap length parts, e)

pub begins_so : (little : Bool) (bytes : List ℕ) (inline : Inline) → inline ≡ inline_of [] → Progress little bytes inline bytes
begins_so little bytes inline nothing = record { params = []; parts = refl; good = tt; tells = nothing }

pub goes_by : (little : Bool) (bytes : List ℕ) (inline : Inline) (rest : List ℕ) (p : Given) (after : List ℕ) → Progress little bytes inline rest → IsGood little p → rest ≡ text little p ++ after → Progress little bytes (with_parameter inline p.means) after
goes_by little bytes inline rest p after so good parts = record {
  params = so.params ++ p ∷ [];
  parts = so.parts ∙ ap (λ (x : List ℕ). texts little so.params ++ x) parts ∙ sym (append_assoc (texts little so.params) (text little p) after) ∙ ap (λ (x : List ℕ). x ++ after) (sym (texts-push little so.params p));
  good = good-push little so.params p so.good good;
  tells = ap (λ (i : Inline). with_parameter i p.means) so.tells ∙ sym (inline-push (map (λ p. p.means) so.params) p.means) ∙ ap inline_of (sym (map-append (λ p. p.means) so.params (p ∷ [])));
}

pub goes_on : (little : Bool) (bytes : List ℕ) (inline : Inline) (rest : List ℕ) (m : Parameter) (after : List ℕ) (next : Inline) → IsBytes bytes → Progress little bytes inline rest → next_at little rest ≡ Ok (Some (m, after)) → next ≡ with_parameter inline m → Progress little bytes next after
goes_on little bytes inline rest m after next fits so read e =
    elim (front_of little rest (rest_fits bytes (texts little so.params) rest so.parts fits)) [
      | parameter p behind good parts ↦
          let again : next_at little rest ≡ Ok (Some (p.means, behind)) = ap (next_at little) parts ∙ good_again little p behind good in
          let same : (p.means ≡ m) × (behind ≡ after) = same_item p.means m behind after (sym again ∙ read) in
          subst (λ (i : Inline). Progress little bytes i after) (sym e) (subst (λ (x : List ℕ). Progress little bytes (with_parameter inline m) x) same.1 (subst (λ (x : Parameter). Progress little bytes (with_parameter inline x) behind) same.0 (goes_by little bytes inline rest p behind so good parts)))
      | sentinel ends ↦ absurd (not_item_end m after (sym read ∙ ends_again little rest ends))
      | fault kind breaks ↦ absurd (not_item_fault m after kind (sym read ∙ breaks_again little rest kind breaks))
    ]

pub ends_so : (little : Bool) (bytes : List ℕ) (inline : Inline) (rest : List ℕ) (n : ℕ) → IsBytes bytes → Progress little bytes inline rest → next_at little rest ≡ Ok None → n ≡ length bytes - length rest → ListSpells bytes little inline (n + 4)
ends_so little bytes inline rest n fits so read place =
    elim (front_of little rest (rest_fits bytes (texts little so.params) rest so.parts fits)) [
      | parameter p behind good parts ↦ absurd (not_item_end p.means behind (sym (ap (next_at little) parts ∙ good_again little p behind good) ∙ read))
      | sentinel ends ↦ record { params = so.params; rest = rest; parts = so.parts; good = so.good; ends = ends; tells = so.tells; takes = ap (λ (x : ℕ). x + 4) (place_is bytes (texts little so.params) rest n so.parts place) }
      | fault kind breaks ↦ absurd (not_end_fault kind (sym read ∙ breaks_again little rest kind breaks))
    ]

pub breaks_so : (little : Bool) (bytes : List ℕ) (inline : Inline) (rest : List ℕ) (n : ℕ) (kind : ListKind) → IsBytes bytes → Progress little bytes inline rest → next_at little rest ≡ Err kind → n ≡ length bytes - length rest → ListBreaks bytes little n kind
breaks_so little bytes inline rest n kind fits so read place =
    elim (front_of little rest (rest_fits bytes (texts little so.params) rest so.parts fits)) [
      | parameter p behind good parts ↦ absurd (not_item_fault p.means behind kind (sym (ap (next_at little) parts ∙ good_again little p behind good) ∙ read))
      | sentinel ends ↦ absurd (not_end_fault kind (sym (ends_again little rest ends) ∙ read))
      | fault k breaks ↦ record { params = so.params; rest = rest; parts = so.parts; good = so.good; breaks = subst (Breaks little rest) (same_fault k kind (sym (breaks_again little rest k breaks) ∙ read)) breaks; place = place_is bytes (texts little so.params) rest n so.parts place }
    ]

-- the step that reads a parameter leaves less
pub text_takes : (little : Bool) (rest : List ℕ) (p : Given) (after : List ℕ) → rest ≡ text little p ++ after → length after < length rest
text_takes little rest p after parts =
    let value = octets little w16 (length p.value) ++ p.value in
    let id : length (text little p) ≡ 2 + length value = length-append (octets little w16 p.id) value ∙ ap (λ (x : ℕ). x + length value) (length_16 little p.id) in
    omega (arith, ap length parts, id, length-append (text little p) after)

pub leaves_less : (little : Bool) (bytes : List ℕ) (inline : Inline) (rest : List ℕ) (m : Parameter) (after : List ℕ) → IsBytes bytes → Progress little bytes inline rest → next_at little rest ≡ Ok (Some (m, after)) → length after < length rest
leaves_less little bytes inline rest m after fits so read =
    elim (front_of little rest (rest_fits bytes (texts little so.params) rest so.parts fits)) [
      | parameter p behind good parts ↦
          let again : next_at little rest ≡ Ok (Some (p.means, behind)) = ap (next_at little) parts ∙ good_again little p behind good in
          let same : (p.means ≡ m) × (behind ≡ after) = same_item p.means m behind after (sym again ∙ read) in
          omega (arith, ap length same.1, text_takes little rest p behind parts)
      | sentinel ends ↦ absurd (not_item_end m after (sym read ∙ ends_again little rest ends))
      | fault kind breaks ↦ absurd (not_item_fault m after kind (sym read ∙ breaks_again little rest kind breaks))
    ]

-- ---- one way alone

abbrev Stops : Bool → List ℕ → Type 0
Stops little rest = (m : Parameter) (after : List ℕ) → next_at little rest ≡ Ok (Some (m, after)) → ⊥

abbrev meanings : List Given → List Parameter
meanings ps = map (λ p. p.means) ps

first_again : (little : Bool) (bytes : List ℕ) (p : Given) (ps : List Given) (rest : List ℕ) → bytes ≡ texts little (p ∷ ps) ++ rest → IsGood little p → next_at little bytes ≡ Ok (Some (p.means, texts little ps ++ rest))
first_again little bytes p ps rest parts good = ap (next_at little) (parts ∙ append_assoc (text little p) (texts little ps) rest) ∙ good_again little p (texts little ps ++ rest) good

goes_once : (little : Bool) (bytes : List ℕ) (ps qs : List Given) (r s : List ℕ) → bytes ≡ texts little ps ++ r → AreGood little ps → Stops little r → bytes ≡ texts little qs ++ s → AreGood little qs → Stops little s → (meanings ps ≡ meanings qs) × (r ≡ s)
goes_once little bytes [] [] r s e good stop e' good' stop' = (refl, sym e ∙ e')
goes_once little bytes [] (q ∷ qs) r s e good stop e' good' stop' =
    absurd (stop q.means (texts little qs ++ s) (ap (next_at little) (sym e) ∙ first_again little bytes q qs s e' good'.0))
goes_once little bytes (p ∷ ps) [] r s e good stop e' good' stop' =
    absurd (stop' p.means (texts little ps ++ r) (ap (next_at little) (sym e') ∙ first_again little bytes p ps r e good.0))
goes_once little bytes (p ∷ ps) (q ∷ qs) r s e good stop e' good' stop' =
    let same : (p.means ≡ q.means) × (texts little ps ++ r ≡ texts little qs ++ s) = same_item p.means q.means (texts little ps ++ r) (texts little qs ++ s) (sym (first_again little bytes p ps r e good.0) ∙ first_again little bytes q qs s e' good'.0) in
    let later : (meanings ps ≡ meanings qs) × (r ≡ s) = goes_once little (texts little ps ++ r) ps qs r s refl good.1 stop same.1 good'.1 stop' in
    (ap (λ (x : Parameter). x ∷ meanings ps) same.0 ∙ ap (λ (x : List Parameter). q.means ∷ x) later.0, later.1)

end_stops : (little : Bool) (rest : List ℕ) → Ends little rest → Stops little rest
end_stops little rest ends m after read = not_item_end m after (sym read ∙ ends_again little rest ends)

break_stops : (little : Bool) (rest : List ℕ) (kind : ListKind) → Breaks little rest kind → Stops little rest
break_stops little rest kind breaks m after read = not_item_fault m after kind (sym read ∙ breaks_again little rest kind breaks)

same_length : (bytes a b r s : List ℕ) → bytes ≡ a ++ r → bytes ≡ b ++ s → r ≡ s → length a ≡ length b
same_length bytes a b r s e f g = omega (arith, length-append a r, length-append b s, ap length e, ap length f, ap length g)

pub spells_once : (bytes : List ℕ) (little : Bool) (i j : Inline) (n m : ℕ) → ListSpells bytes little i n → ListSpells bytes little j m → (i ≡ j) × (n ≡ m)
spells_once bytes little i j n m x y =
    let same : (meanings x.params ≡ meanings y.params) × (x.rest ≡ y.rest) = goes_once little bytes x.params y.params x.rest y.rest x.parts x.good (end_stops little x.rest x.ends) y.parts y.good (end_stops little y.rest y.ends) in
    let len : length (texts little x.params) ≡ length (texts little y.params) = same_length bytes (texts little x.params) (texts little y.params) x.rest y.rest x.parts y.parts same.1 in
    (x.tells ∙ ap inline_of same.0 ∙ sym y.tells, x.takes ∙ ap (λ (k : ℕ). k + 4) len ∙ sym y.takes)

pub never_both : (bytes : List ℕ) (little : Bool) (i : Inline) (n at : ℕ) (kind : ListKind) → ListSpells bytes little i n → ListBreaks bytes little at kind → ⊥
never_both bytes little i n at kind x y =
    let same : (meanings x.params ≡ meanings y.params) × (x.rest ≡ y.rest) = goes_once little bytes x.params y.params x.rest y.rest x.parts x.good (end_stops little x.rest x.ends) y.parts y.good (break_stops little y.rest kind y.breaks) in
    not_end_fault kind (sym (ends_again little x.rest x.ends) ∙ ap (next_at little) same.1 ∙ breaks_again little y.rest kind y.breaks)

pub breaks_once : (bytes : List ℕ) (little : Bool) (at place : ℕ) (kind other : ListKind) → ListBreaks bytes little at kind → ListBreaks bytes little place other → (at ≡ place) × (kind ≡ other)
breaks_once bytes little at place kind other x y =
    let same : (meanings x.params ≡ meanings y.params) × (x.rest ≡ y.rest) = goes_once little bytes x.params y.params x.rest y.rest x.parts x.good (break_stops little x.rest kind x.breaks) y.parts y.good (break_stops little y.rest other y.breaks) in
    let len : length (texts little x.params) ≡ length (texts little y.params) = same_length bytes (texts little x.params) (texts little y.params) x.rest y.rest x.parts y.parts same.1 in
    (x.place ∙ len ∙ sym y.place, same_fault kind other (sym (breaks_again little x.rest kind x.breaks) ∙ ap (next_at little) same.1 ∙ breaks_again little y.rest other y.breaks))

-- ---- what a reader may answer

abbrev Answer : Type 0
Answer = Result (Inline × ℕ) ListFault

abbrev list : Inline → ℕ → Answer
list i n = Ok (i, n)

abbrev fault_at : ℕ → ListKind → Answer
fault_at at kind = Err (record { at = at; kind = kind })

pub only_list : (bytes : List ℕ) (little : Bool) (i : Inline) (n : ℕ) → ListSpells bytes little i n → (j : Inline) (m : ℕ) → ListSpells bytes little j m → list i n ≡ list j m
only_list bytes little i n x j m y = let e = spells_once bytes little i j n m x y in rw (e.0, e.1) refl

pub no_fault : (bytes : List ℕ) (little : Bool) (i : Inline) (n : ℕ) → ListSpells bytes little i n → (at : ℕ) (kind : ListKind) → ListBreaks bytes little at kind → list i n ≡ fault_at at kind
no_fault bytes little i n x at kind y = absurd (never_both bytes little i n at kind x y)

pub no_list : (bytes : List ℕ) (little : Bool) (at : ℕ) (kind : ListKind) → ListBreaks bytes little at kind → (i : Inline) (n : ℕ) → ListSpells bytes little i n → fault_at at kind ≡ list i n
no_list bytes little at kind y i n x = absurd (never_both bytes little i n at kind x y)

pub only_fault : (bytes : List ℕ) (little : Bool) (at : ℕ) (kind : ListKind) → ListBreaks bytes little at kind → (place : ℕ) (other : ListKind) → ListBreaks bytes little place other → fault_at at kind ≡ fault_at place other
only_fault bytes little at kind x place other y = let e = breaks_once bytes little at place kind other x y in rw (e.0, e.1) refl

-- ---- within the octets

pub spells_within : (bytes : List ℕ) (little : Bool) (i : Inline) (n : ℕ) → ListSpells bytes little i n → n ≤ length bytes
spells_within bytes little i n x =
    let a : length bytes ≡ length (texts little x.params) + length x.rest = ap length x.parts ∙ length-append (texts little x.params) x.rest in
    let b : length x.rest ≡ length (octets little w16 1) + length (x.ends.ignored ++ x.ends.after) = ap length x.ends.parts ∙ length-append (octets little w16 1) (x.ends.ignored ++ x.ends.after) in
    omega (arith, a, b, length-append x.ends.ignored x.ends.after, length_16 little 1, x.ends.two, x.takes)

pub breaks_within : (bytes : List ℕ) (little : Bool) (at : ℕ) (kind : ListKind) → ListBreaks bytes little at kind → at ≤ length bytes
breaks_within bytes little at kind x = omega (arith, ap length x.parts, length-append (texts little x.params) x.rest, x.place)
