-- What the answers mean of the members of the open set.
use Rattle.std.proofs.Common.{◌≡◌, ℕ, suc, ◌+◌, ◌-◌, ◌<◌, Bool, true, false, cond, ◌||◌, Option, Some, None, List, [], ◌∷◌, ◌++◌, map, take, drop, length, length-append, refl, sym, ap, ◌∙◌, arith}
use Rattle.std.specs.Prelude.{◌==◌}
use Rattle.std.proofs.lemmas.Bool.{eqb-true}
use Rattle.dur_base.specs.declared.sample.Sample.{Sample}
use Rattle.dur_base.specs.declared.sample.SetMark.{SetMark}
use Rattle.dur_base.specs.declared.sample.SetMark.TheVariants.{NoSet, End, Of}
use Rattle.dur_view.specs.declared.data.Held.{Held}
use Rattle.dur_view.specs.Identities.{Guid}
use Rattle.dur_view.specs.declared.change.TopicEvent.{TopicEvent}
use Rattle.dur_view.specs.declared.change.TopicEvent.TheVariants.{Effect}
use Rattle.dur_view.specs.History.{joined, goes_on, itself as takes}
use Rattle.dur_sets.specs.declared.effect.Open.{Open}
use Rattle.dur_sets.specs.declared.effect.Before.{Before}
use Rattle.dur_sets.specs.declared.effect.Before.TheVariants.{Nothing, Close}
use Rattle.dur_sets.specs.declared.effect.Now.TheVariants as itself
use Rattle.dur_sets.specs.Open.{opened, goes_on_with, RunUpTo}
use Rattle.dur_sets.specs.Answers.{answer_of, open_by}
use Rattle.dur_sets.specs.Tells.{Tells, closed, left, if_now, if_held, takes_effect}

take-at : {X : Type 0} (xs : List X) → take (length xs) xs ≡ xs
take-at [] = refl
take-at (x ∷ xs) = ap (λ ys. x ∷ ys) (take-at xs)

take-all : {X : Type 0} (xs : List X) (n : ℕ) → n ≡ length xs → take n xs ≡ xs
take-all xs n is = ap (λ (k : ℕ). take k xs) is ∙ take-at xs

drop-at : {X : Type 0} (xs : List X) → drop (length xs) xs ≡ []
drop-at [] = refl
drop-at (x ∷ xs) = drop-at xs

drop-all : {X : Type 0} (xs : List X) (n : ℕ) → n ≡ length xs → drop n xs ≡ []
drop-all xs n is = ap (λ (k : ℕ). drop k xs) is ∙ drop-at xs

-- the members that are counted
counted : (x : Held) (xs : List Held) → x.number + length xs + 1 - x.number ≡ suc (length xs)
counted x xs = omega arith

neither : {X : Type 0} (b : Bool) (x : X) → if_now (cond b itself.Hold itself.Drop) x ≡ []
neither true x = refl
neither false x = refl

-- what takes effect
brings-of : (E : Held → TopicEvent) (x : Held) (xs : List Held) (f number : ℕ) (own : TopicEvent) (b : Bool)
    → cond b [] (map E (x ∷ xs)) ++ []
    ≡ map E (closed (cond b Nothing (Close (x.number + length xs + 1 - x.number))) (x ∷ xs)) ++ if_now (cond ((f == number) || b) itself.Hold itself.Drop) own
brings-of E x xs f number own true = sym (neither ((f == number) || true) own)
brings-of E x xs f number own false =
    ap (λ (l : List Held). map E l ++ []) (sym (take-all (x ∷ xs) (x.number + length xs + 1 - x.number) (counted x xs)))
    ∙ ap (λ (l : List TopicEvent). map E (take (x.number + length xs + 1 - x.number) (x ∷ xs)) ++ l) (sym (neither ((f == number) || false) own))

brings-all : (E : Held → TopicEvent) (x : Held) (xs : List Held) (own : TopicEvent)
    → map E (x ∷ xs) ++ own ∷ [] ≡ map E (take (x.number + length xs + 1 - x.number) (x ∷ xs)) ++ own ∷ []
brings-all E x xs own = ap (λ (l : List Held). map E l ++ own ∷ []) (sym (take-all (x ∷ xs) (x.number + length xs + 1 - x.number) (counted x xs)))

brings-by : (m by : ℕ) (w : Guid) (n : ℕ) (s : Sample) (members : List Held) (mark : SetMark)
    → cond (goes_on mark members) [] (map (λ x. Effect m by w x.number x.moment x.sample) members) ++ takes m by w n s mark
    ≡ map (takes_effect m by w) (closed (answer_of (opened members) n mark).before members) ++ if_now (answer_of (opened members) n mark).now (Effect m by w n m s)
brings-by m by w n s [] NoSet = refl
brings-by m by w n s [] End = refl
brings-by m by w n s [] (Of f) = sym (neither ((f == n) || false) (Effect m by w n m s))
brings-by m by w n s (x ∷ xs) NoSet = brings-all (takes_effect m by w) x xs (Effect m by w n m s)
brings-by m by w n s (x ∷ xs) End = brings-all (takes_effect m by w) x xs (Effect m by w n m s)
brings-by m by w n s (x ∷ xs) (Of f) = brings-of (takes_effect m by w) x xs f n (Effect m by w n m s) (f == x.number)

-- what is held
gone : (x : Held) (xs : List Held) → drop (x.number + length xs + 1 - x.number) (x ∷ xs) ≡ []
gone x xs = drop-all (x ∷ xs) (x.number + length xs + 1 - x.number) (counted x xs)

joined-of : (x : Held) (xs : List Held) (y : Held) (a b : Bool) → (a ≡ true → b ≡ true → ⊥)
    → cond a (y ∷ []) (cond b ((x ∷ xs) ++ y ∷ []) [])
    ≡ left (cond b Nothing (Close (x.number + length xs + 1 - x.number))) (x ∷ xs) ++ if_held (cond (a || b) itself.Hold itself.Drop) y
joined-of x xs y true true not_both = absurd (not_both refl refl)
joined-of x xs y true false not_both = ap (λ (l : List Held). l ++ y ∷ []) (sym (gone x xs))
joined-of x xs y false true not_both = refl
joined-of x xs y false false not_both = ap (λ (l : List Held). l ++ []) (sym (gone x xs))

first-of : (y : Held) (a : Bool) → cond a (y ∷ []) [] ≡ if_held (cond (a || false) itself.Hold itself.Drop) y
first-of y true = refl
first-of y false = refl

joined-by : (n : ℕ) (members : List Held) (mark : SetMark) (y : Held) → RunUpTo n members → y.number ≡ n
    → joined mark y members ≡ left (answer_of (opened members) n mark).before members ++ if_held (answer_of (opened members) n mark).now y
joined-by n [] NoSet y run is = refl
joined-by n [] End y run is = refl
joined-by n [] (Of f) y run is = ap (λ (k : ℕ). cond (f == k) (y ∷ []) []) is ∙ first-of y (f == n)
joined-by n (x ∷ xs) NoSet y run is = ap (λ (l : List Held). l ++ []) (sym (gone x xs))
joined-by n (x ∷ xs) End y run is = ap (λ (l : List Held). l ++ []) (sym (gone x xs))
joined-by n (x ∷ xs) (Of f) y run is =
    ap (λ (k : ℕ). cond (f == k) (y ∷ []) (cond (f == x.number) ((x ∷ xs) ++ y ∷ []) [])) is
    ∙ joined-of x xs y (f == n) (f == x.number) (λ p q. let a = eqb-true f n p in let b = eqb-true f x.number q in omega arith)

-- how many are closed
abbrev size : Before → ℕ
size Nothing = 0
size (Close n) = n

abbrev is_close : Before → Bool
is_close Nothing = false
is_close (Close n) = true

whole-of : (x : Held) (xs : List Held) (n : ℕ) (b : Bool) → cond b Nothing (Close (x.number + length xs + 1 - x.number)) ≡ Close n → (0 < n) × (n ≡ length (x ∷ xs))
whole-of x xs n true is = absurd (let e : false ≡ true = ap is_close is in cc)
whole-of x xs n false is =
    let e : x.number + length xs + 1 - x.number ≡ n = ap size is in
    let k = counted x xs in
    (omega arith, sym e ∙ k)

whole-by : (k : ℕ) (members : List Held) (mark : SetMark) (n : ℕ) → (answer_of (opened members) k mark).before ≡ Close n → (0 < n) × (n ≡ length members)
whole-by k [] mark n is = absurd (let e : false ≡ true = ap is_close is in cc)
whole-by k (x ∷ xs) mark n is = whole-of x xs n (goes_on_with (opened (x ∷ xs)) mark) is

pub answer-tells : (members : List Held) (number : ℕ) (mark : SetMark) → RunUpTo number members → Tells members number mark (answer_of (opened members) number mark)
answer-tells members number mark run = record {
  brings =
      λ m by w s is.
      ap (λ (k : SetMark). cond (goes_on k members) [] (map (λ x. Effect m by w x.number x.moment x.sample) members) ++ takes m by w number s k) is
      ∙ brings-by m by w number s members mark;
  held = λ x is. joined-by number members mark x run is;
  whole = λ n is. whole-by number members mark n is;
}

-- what is kept after it
on-of : (x : Held) (xs : List Held) (y : Held) (f n : ℕ) (b : Bool) → (f == x.number) ≡ b → x.number + length (x ∷ xs) ≡ n
    → cond b (Some record { first = f; last = n }) None ≡ opened (cond b ((x ∷ xs) ++ y ∷ []) [])
on-of x xs y f n true is run =
    let same = eqb-true f x.number is in
    let more = length-append xs (y ∷ []) in
    let last : n ≡ x.number + length (xs ++ y ∷ []) = omega arith in
    ap (λ (k : ℕ). Some record { first = k; last = n }) same ∙ ap (λ (k : ℕ). Some record { first = x.number; last = k }) last
on-of x xs y f n false is run = refl

opens-of : (y : Held) (n : ℕ) (a : Bool) (o : Option Open) (members : List Held) → y.number ≡ n → o ≡ opened members
    → cond a (Some record { first = n; last = n }) o ≡ opened (cond a (y ∷ []) members)
opens-of y n true o members is rest = let last : n ≡ y.number + 0 = omega arith in ap (λ (k : ℕ). Some record { first = k; last = n }) (sym is) ∙ ap (λ (k : ℕ). Some record { first = y.number; last = k }) last
opens-of y n false o members is rest = rest

pub open-joined : (members : List Held) (n : ℕ) (mark : SetMark) (y : Held) → RunUpTo n members → y.number ≡ n → open_by (opened members) n mark ≡ opened (joined mark y members)
open-joined members n NoSet y run is = refl
open-joined members n End y run is = refl
open-joined [] n (Of f) y run is =
    opens-of y n (f == n) None [] is refl ∙ ap (λ (k : ℕ). opened (cond (f == k) (y ∷ []) [])) (sym is)
open-joined (x ∷ xs) n (Of f) y run is =
    opens-of y n (f == n) (cond (f == x.number) (Some record { first = f; last = n }) None) (cond (f == x.number) ((x ∷ xs) ++ y ∷ []) []) is (on-of x xs y f n (f == x.number) refl run)
    ∙ ap (λ (k : ℕ). opened (cond (f == k) (y ∷ []) (cond (f == x.number) ((x ∷ xs) ++ y ∷ []) []))) (sym is)

pub count-opened : (x : Open) (members : List Held) → Some x ≡ opened members → x.last + 1 - x.first ≡ length members
count-opened x [] is = absurd (cc)
count-opened x (y ∷ ys) is =
    let first : x.first ≡ y.number = cc in
    let last : x.last ≡ y.number + length ys = cc in
    omega arith
