-- What a reader knows on its way through a list, and that a list is read in one way alone.
use Rattle.std.proofs.Common.{◌≡◌, ℕ, ◌+◌, ◌<◌, Bool, List, [], ◌∷◌, ◌++◌, length, map, drop, Option, Some, None, refl, sym, ap, subst, ◌∙◌, append_assoc, arith}
use Rattle.std.specs.Int.{w16}
use Rattle.std.specs.Option.{option_or}
use Rattle.std.proofs.lemmas.List.{append-nil, length-append, map-append, drop_at}
use Rattle.dur_base.proofs.FieldNumbers.{length_16}
use Rattle.dur_base.proofs.OctetLists.{IsBytes, IsBytes-drop}
use Rattle.dur_base.specs.Fields.{octets}
use Rattle.dur_qos.specs.declared.plan.Topic.{Topic as TopicLine}
use Rattle.rtps_discovery.specs.declared.list.Listed.{Listed}
use Rattle.rtps_discovery.specs.declared.parameter.Parameter.{Parameter}
use Rattle.rtps_discovery.specs.declared.parameter.Parameter.TheVariants.{Lease, Topic, Kind, Participant, Endpoint, Passed}
use Rattle.rtps_discovery.specs.Lists.{Given, text, texts, IsGood, AreGood, Ends, ListTells}
use Rattle.rtps_discovery.specs.Meaning.{last_of, listed_of, with_parameter}
use Rattle.rtps_discovery.specs.Reading.{Step, next_at}
use Rattle.rtps_discovery.proofs.Next.{parameter, sentinel, neither, front_of, good_again, ends_again}

-- the parameters so far, what they tell, and what is left
pub record Progress (topics : List TopicLine) (little : Bool) (bytes : List ℕ) (listed : Listed) (rest : List ℕ) : Type 0 where
  pub params : List Given
  pub parts : bytes ≡ texts little params ++ rest
  pub good : AreGood topics little params
  pub tells : listed ≡ listed_of (map (λ p. p.means) params)

-- ---- one parameter more

or_none : {A : Type 0} (o : Option A) → option_or None o ≡ option_or o None
or_none None = refl
or_none (Some x) = refl

or_assoc : {A : Type 0} (o p q : Option A) → option_or (option_or o p) q ≡ option_or o (option_or p q)
or_assoc None p q = refl
or_assoc (Some x) p q = refl

last-push : {A : Type 0} (f : Parameter → Option A) (ps : List Parameter) (p : Parameter) → last_of f (ps ++ p ∷ []) ≡ option_or (f p) (last_of f ps)
last-push f [] p = or_none (f p)
last-push f (q ∷ ps) p = ap (λ o. option_or o (f q)) (last-push f ps p) ∙ or_assoc (f p) (last_of f ps) (f q)

listed-push : (ps : List Parameter) (p : Parameter) → listed_of (ps ++ p ∷ []) ≡ with_parameter (listed_of ps) p
unfolding listed_of
listed-push ps (Lease ticks) = simp last-push
listed-push ps (Topic place) = simp last-push
listed-push ps (Kind kind) = simp last-push
listed-push ps (Participant guid) = simp last-push
listed-push ps (Endpoint guid) = simp last-push
listed-push ps Passed = simp last-push

texts-push : (little : Bool) (ps : List Given) (p : Given) → texts little (ps ++ p ∷ []) ≡ texts little ps ++ text little p
texts-push little [] p = append-nil (text little p)
texts-push little (q ∷ ps) p = ap (λ (x : List ℕ). text little q ++ x) (texts-push little ps p) ∙ sym (append_assoc (text little q) (texts little ps) (text little p))

good-push : (topics : List TopicLine) (little : Bool) (ps : List Given) (p : Given) → AreGood topics little ps → IsGood topics little p → AreGood topics little (ps ++ p ∷ [])
good-push topics little [] p all one = (one, tt)
good-push topics little (q ∷ ps) p all one = (all.0, good-push topics little ps p all.1 one)

-- ---- what one step of reading can't be twice

abbrev item : Parameter → List ℕ → Option Step
item m after = Some (Some (m, after))

abbrev end : Option Step
end = Some None

abbrev broken : Option Step
broken = None

same_pair : (x y : Parameter × List ℕ) → item x.0 x.1 ≡ item y.0 y.1 → x ≡ y
same_pair x y e = cc

same_item : (m n : Parameter) (a b : List ℕ) → item m a ≡ item n b → (m ≡ n) × (a ≡ b)
same_item m n a b e = let p = same_pair (m, a) (n, b) e in (ap (λ (x : Parameter × List ℕ). x.0) p, ap (λ (x : Parameter × List ℕ). x.1) p)

not_item_end : (m : Parameter) (after : List ℕ) → item m after ≡ end → ⊥
not_item_end m after e = cc

not_item_broken : (m : Parameter) (after : List ℕ) → item m after ≡ broken → ⊥
not_item_broken m after e = cc

not_end_broken : end ≡ broken → ⊥
not_end_broken e = cc

rest_fits : (bytes front rest : List ℕ) → bytes ≡ front ++ rest → IsBytes bytes → IsBytes rest
rest_fits bytes front rest parts fits =
    let e : drop (length front) bytes ≡ rest = ap (drop (length front)) parts ∙ drop_at front rest (length front) refl in
    subst IsBytes e (IsBytes-drop (length front) bytes fits)

pub begins_so : (topics : List TopicLine) (little : Bool) (bytes : List ℕ) (listed : Listed) → listed ≡ listed_of [] → Progress topics little bytes listed bytes
begins_so topics little bytes listed nothing = record { params = []; parts = refl; good = tt; tells = nothing }

goes_by : (topics : List TopicLine) (little : Bool) (bytes : List ℕ) (listed : Listed) (rest : List ℕ) (p : Given) (after : List ℕ) → Progress topics little bytes listed rest → IsGood topics little p → rest ≡ text little p ++ after → Progress topics little bytes (with_parameter listed p.means) after
goes_by topics little bytes listed rest p after so good parts = record {
  params = so.params ++ p ∷ [];
  parts = so.parts ∙ ap (λ (x : List ℕ). texts little so.params ++ x) parts ∙ sym (append_assoc (texts little so.params) (text little p) after) ∙ ap (λ (x : List ℕ). x ++ after) (sym (texts-push little so.params p));
  good = good-push topics little so.params p so.good good;
  tells = ap (λ (i : Listed). with_parameter i p.means) so.tells ∙ sym (listed-push (map (λ p. p.means) so.params) p.means) ∙ ap listed_of (sym (map-append (λ p. p.means) so.params (p ∷ [])));
}

pub goes_on : (topics : List TopicLine) (little : Bool) (bytes : List ℕ) (listed : Listed) (rest : List ℕ) (m : Parameter) (after : List ℕ) (next : Listed) → IsBytes bytes → Progress topics little bytes listed rest → next_at topics little rest ≡ Some (Some (m, after)) → next ≡ with_parameter listed m → Progress topics little bytes next after
goes_on topics little bytes listed rest m after next fits so read e =
    elim (front_of topics little rest (rest_fits bytes (texts little so.params) rest so.parts fits)) [
      | parameter p behind good parts ↦
          let again : next_at topics little rest ≡ Some (Some (p.means, behind)) = ap (next_at topics little) parts ∙ good_again topics little p behind good in
          let same : (p.means ≡ m) × (behind ≡ after) = same_item p.means m behind after (sym again ∙ read) in
          subst (λ (i : Listed). Progress topics little bytes i after) (sym e) (subst (λ (x : List ℕ). Progress topics little bytes (with_parameter listed m) x) same.1 (subst (λ (x : Parameter). Progress topics little bytes (with_parameter listed x) behind) same.0 (goes_by topics little bytes listed rest p behind so good parts)))
      | sentinel ends ↦ absurd (not_item_end m after (sym read ∙ ends_again topics little rest ends))
      | neither none ↦ absurd (not_item_broken m after (sym read ∙ none))
    ]

pub ends_so : (topics : List TopicLine) (little : Bool) (bytes : List ℕ) (listed : Listed) (rest : List ℕ) → IsBytes bytes → Progress topics little bytes listed rest → next_at topics little rest ≡ Some None → ListTells topics little bytes listed
ends_so topics little bytes listed rest fits so read =
    elim (front_of topics little rest (rest_fits bytes (texts little so.params) rest so.parts fits)) [
      | parameter p behind good parts ↦ absurd (not_item_end p.means behind (sym (ap (next_at topics little) parts ∙ good_again topics little p behind good) ∙ read))
      | sentinel ends ↦ record { params = so.params; rest = rest; parts = so.parts; good = so.good; ends = ends; tells = so.tells }
      | neither none ↦ absurd (not_end_broken (sym read ∙ none))
    ]

-- the step that reads a parameter leaves less
text_takes : (little : Bool) (rest : List ℕ) (p : Given) (after : List ℕ) → rest ≡ text little p ++ after → length after < length rest
text_takes little rest p after parts =
    let value = octets little w16 (length p.value) ++ p.value in
    let id : length (text little p) ≡ 2 + length value = length-append (octets little w16 p.id) value ∙ ap (λ (x : ℕ). x + length value) (length_16 little p.id) in
    omega (arith, ap length parts, id, length-append (text little p) after)

pub leaves_less : (topics : List TopicLine) (little : Bool) (bytes : List ℕ) (listed : Listed) (rest : List ℕ) (m : Parameter) (after : List ℕ) → IsBytes bytes → Progress topics little bytes listed rest → next_at topics little rest ≡ Some (Some (m, after)) → length after < length rest
leaves_less topics little bytes listed rest m after fits so read =
    elim (front_of topics little rest (rest_fits bytes (texts little so.params) rest so.parts fits)) [
      | parameter p behind good parts ↦
          let again : next_at topics little rest ≡ Some (Some (p.means, behind)) = ap (next_at topics little) parts ∙ good_again topics little p behind good in
          let same : (p.means ≡ m) × (behind ≡ after) = same_item p.means m behind after (sym again ∙ read) in
          omega (arith, ap length same.1, text_takes little rest p behind parts)
      | sentinel ends ↦ absurd (not_item_end m after (sym read ∙ ends_again topics little rest ends))
      | neither none ↦ absurd (not_item_broken m after (sym read ∙ none))
    ]

-- ---- one way alone

abbrev Stops : List TopicLine → Bool → List ℕ → Type 0
Stops topics little rest = (m : Parameter) (after : List ℕ) → next_at topics little rest ≡ Some (Some (m, after)) → ⊥

abbrev meanings : List Given → List Parameter
meanings ps = map (λ p. p.means) ps

first_again : (topics : List TopicLine) (little : Bool) (bytes : List ℕ) (p : Given) (ps : List Given) (rest : List ℕ) → bytes ≡ texts little (p ∷ ps) ++ rest → IsGood topics little p → next_at topics little bytes ≡ Some (Some (p.means, texts little ps ++ rest))
first_again topics little bytes p ps rest parts good = ap (next_at topics little) (parts ∙ append_assoc (text little p) (texts little ps) rest) ∙ good_again topics little p (texts little ps ++ rest) good

goes_once : (topics : List TopicLine) (little : Bool) (bytes : List ℕ) (ps qs : List Given) (r s : List ℕ) → bytes ≡ texts little ps ++ r → AreGood topics little ps → Stops topics little r → bytes ≡ texts little qs ++ s → AreGood topics little qs → Stops topics little s → (meanings ps ≡ meanings qs) × (r ≡ s)
goes_once topics little bytes [] [] r s e good stop e' good' stop' = (refl, sym e ∙ e')
goes_once topics little bytes [] (q ∷ qs) r s e good stop e' good' stop' =
    absurd (stop q.means (texts little qs ++ s) (ap (next_at topics little) (sym e) ∙ first_again topics little bytes q qs s e' good'.0))
goes_once topics little bytes (p ∷ ps) [] r s e good stop e' good' stop' =
    absurd (stop' p.means (texts little ps ++ r) (ap (next_at topics little) (sym e') ∙ first_again topics little bytes p ps r e good.0))
goes_once topics little bytes (p ∷ ps) (q ∷ qs) r s e good stop e' good' stop' =
    let same : (p.means ≡ q.means) × (texts little ps ++ r ≡ texts little qs ++ s) = same_item p.means q.means (texts little ps ++ r) (texts little qs ++ s) (sym (first_again topics little bytes p ps r e good.0) ∙ first_again topics little bytes q qs s e' good'.0) in
    let later : (meanings ps ≡ meanings qs) × (r ≡ s) = goes_once topics little (texts little ps ++ r) ps qs r s refl good.1 stop same.1 good'.1 stop' in
    (ap (λ (x : Parameter). x ∷ meanings ps) same.0 ∙ ap (λ (x : List Parameter). q.means ∷ x) later.0, later.1)

end_stops : (topics : List TopicLine) (little : Bool) (rest : List ℕ) → Ends little rest → Stops topics little rest
end_stops topics little rest ends m after read = not_item_end m after (sym read ∙ ends_again topics little rest ends)

pub tells_once : (topics : List TopicLine) (little : Bool) (bytes : List ℕ) (i j : Listed) → ListTells topics little bytes i → ListTells topics little bytes j → i ≡ j
tells_once topics little bytes i j x y =
    let same : (meanings x.params ≡ meanings y.params) × (x.rest ≡ y.rest) = goes_once topics little bytes x.params y.params x.rest y.rest x.parts x.good (end_stops topics little x.rest x.ends) y.parts y.good (end_stops topics little y.rest y.ends) in
    x.tells ∙ ap listed_of same.0 ∙ sym y.tells

-- where the rest begins with neither a parameter nor the sentinel, the list tells nothing
pub breaks_so : (topics : List TopicLine) (little : Bool) (bytes : List ℕ) (listed : Listed) (rest : List ℕ) → Progress topics little bytes listed rest → next_at topics little rest ≡ None → (l : Listed) → ListTells topics little bytes l → ⊥
breaks_so topics little bytes listed rest so none l x =
    let same : (meanings so.params ≡ meanings x.params) × (rest ≡ x.rest) = goes_once topics little bytes so.params x.params rest x.rest so.parts so.good (λ m after read. not_item_broken m after (sym read ∙ none)) x.parts x.good (end_stops topics little x.rest x.ends) in
    not_end_broken (sym (ends_again topics little x.rest x.ends) ∙ ap (next_at topics little) (sym same.1) ∙ none)
