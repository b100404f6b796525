-- Which file is live while the other one is written.
use Rattle.std.proofs.Common.{◌≡◌, ◌⊎◌, inl, inr, ℕ, ◌<◌, ◌==◌, nat_lt, if◌then◌else◌, Bool, true, false, List, Option, Some, None, Result, Ok, Err, refl, sym, ◌∙◌, ap, subst, arith}
use Rattle.std.proofs.lemmas.Bool.Decides.{nat_tests}
use Rattle.dur_outside.specs.declared.values.FileId.{FileId}
use Rattle.dur_outside.specs.declared.values.FileId.TheVariants.{Zero, One}
use Rattle.dur_outside.specs.World.{Image, content, put, Changed}
use Rattle.dur_outside.proofs.Runs.{put-same}
use Rattle.dur_qos.specs.declared.plan.Plan.{Plan}
use Rattle.dur_journal.specs.declared.front.Front.{Front}
use Rattle.dur_journal.specs.declared.front.Front.TheVariants.{Blank, Closed, Open}
use Rattle.dur_journal.specs.File.{front_in}
use Rattle.dur_journal.specs.Steps.{IsQuiet, IsRewriting, gated}
use Rattle.dur_journal.specs.Kept.{other, generation_of, newest, live_of, live_in, target, generation_at, Kept, FileKeeps, KeepsBy, Keeps, IsOneOf}

-- the two files, where both are open, by the tests of their generations
choice : Bool → Bool → ℕ → ℕ → Result (Option (FileId × ℕ)) (FileId × ℕ)
choice equal below a b = if equal then Err (One, 13) else if below then Ok (Some (One, b)) else Ok (Some (Zero, a))

choice_zero : (equal below : Bool) (a b : ℕ) (l : Option (FileId × ℕ)) → choice equal below a b ≡ Ok l → target l ≡ Zero → newest None (Some b) ≡ Ok l
unfolding choice
choice_zero true below a b l is here = absurd (cc)
choice_zero false true a b l is here = is
choice_zero false false a b l is here = let l_is : Some (Zero, a) ≡ l = cc in let no = ap target l_is ∙ here in absurd (cc)

choice_one : (equal below : Bool) (a b : ℕ) (l : Option (FileId × ℕ)) → choice equal below a b ≡ Ok l → target l ≡ One → newest (Some a) None ≡ Ok l
unfolding choice
choice_one true below a b l is here = absurd (cc)
choice_one false false a b l is here = is
choice_one false true a b l is here = let l_is : Some (One, b) ≡ l = cc in let no = ap target l_is ∙ here in absurd (cc)

newest_zero : (a b : Option ℕ) (l : Option (FileId × ℕ)) → newest a b ≡ Ok l → target l ≡ Zero → newest None b ≡ Ok l
unfolding choice
newest_zero None b l is here = is
newest_zero (Some a) None l is here = let l_is : Some (Zero, a) ≡ l = cc in let no = ap target l_is ∙ here in absurd (cc)
newest_zero (Some a) (Some b) l is here = choice_zero (a == b) (nat_lt a b) a b l is here

newest_one : (a b : Option ℕ) (l : Option (FileId × ℕ)) → newest a b ≡ Ok l → target l ≡ One → newest a None ≡ Ok l
unfolding choice
newest_one None None l is here = is
newest_one (Some a) None l is here = is
newest_one None (Some b) l is here = let l_is : Some (One, b) ≡ l = cc in let no = ap target l_is ∙ here in absurd (cc)
newest_one (Some a) (Some b) l is here = choice_one (a == b) (nat_lt a b) a b l is here

above_zero : (b : Option ℕ) (l : Option (FileId × ℕ)) (n : ℕ) → newest None b ≡ Ok l → generation_at l < n → newest (Some n) b ≡ Ok (Some (Zero, n))
above_zero None l n is below = refl
above_zero (Some b) l n is below =
    let l_is : Some (One, b) ≡ l = cc in
    let less : b < n = subst (λ (m : ℕ). m < n) (sym (ap generation_at l_is)) below in
    grind (arith, nat_tests, less)

above_one : (a : Option ℕ) (l : Option (FileId × ℕ)) (n : ℕ) → newest a None ≡ Ok l → generation_at l < n → newest a (Some n) ≡ Ok (Some (One, n))
above_one None l n is below = refl
above_one (Some a) l n is below =
    let l_is : Some (Zero, a) ≡ l = cc in
    let less : a < n = subst (λ (m : ℕ). m < n) (sym (ap generation_at l_is)) below in
    grind (arith, nat_tests, less)

-- both fronts are good where a live file is told
pub record Fronts (zero one : Result Front ℕ) (l : Option (FileId × ℕ)) : Type 0 where
  pub a : Front
  pub b : Front
  pub zero_is : zero ≡ Ok a
  pub one_is : one ≡ Ok b
  pub told : newest (generation_of a) (generation_of b) ≡ Ok l

pub fronts_of : (zero one : Result Front ℕ) (l : Option (FileId × ℕ)) → live_of zero one ≡ Ok l → Fronts zero one l
fronts_of (Err at) one l is = absurd (cc)
fronts_of (Ok a) (Err at) l is = absurd (cc)
fronts_of (Ok a) (Ok b) l is = record { a = a; b = b; zero_is = refl; one_is = refl; told = is }

quiet_zero : (zero one q : Result Front ℕ) (l : Option (FileId × ℕ)) → live_of zero one ≡ Ok l → target l ≡ Zero → (q ≡ Ok Blank) ⊎ (q ≡ Ok Closed) → live_of q one ≡ Ok l
quiet_zero zero one q l is here quiet =
    let f = fronts_of zero one l is in
    let told = newest_zero (generation_of f.a) (generation_of f.b) l f.told here in
    elim quiet [
      | inl blank ↦ rw (blank, f.one_is) told
      | inr closed ↦ rw (closed, f.one_is) told
    ]

quiet_one : (zero one q : Result Front ℕ) (l : Option (FileId × ℕ)) → live_of zero one ≡ Ok l → target l ≡ One → (q ≡ Ok Blank) ⊎ (q ≡ Ok Closed) → live_of zero q ≡ Ok l
quiet_one zero one q l is here quiet =
    let f = fronts_of zero one l is in
    let told = newest_one (generation_of f.a) (generation_of f.b) l f.told here in
    elim quiet [
      | inl blank ↦ rw (blank, f.zero_is) told
      | inr closed ↦ rw (closed, f.zero_is) told
    ]

new_zero : (zero one : Result Front ℕ) (l : Option (FileId × ℕ)) (n : ℕ) → live_of zero one ≡ Ok l → target l ≡ Zero → generation_at l < n → live_of (Ok (Open n)) one ≡ Ok (Some (Zero, n))
new_zero zero one l n is here below =
    let f = fronts_of zero one l is in
    rw (f.one_is) (above_zero (generation_of f.b) l n (newest_zero (generation_of f.a) (generation_of f.b) l f.told here) below)

new_one : (zero one : Result Front ℕ) (l : Option (FileId × ℕ)) (n : ℕ) → live_of zero one ≡ Ok l → target l ≡ One → generation_at l < n → live_of zero (Ok (Open n)) ≡ Ok (Some (One, n))
new_one zero one l n is here below =
    let f = fronts_of zero one l is in
    rw (f.zero_is) (above_one (generation_of f.a) l n (newest_one (generation_of f.a) (generation_of f.b) l f.told here) below)

-- with a file that counts for nothing in the target's place, the same file is live
pub quiet_live : (file : FileId) (old c : Image) (l : Option (FileId × ℕ)) → live_in old ≡ Ok l → target l ≡ file → c ≡ put file (content file c) old
    → IsQuiet (content file c) → live_in c ≡ Ok l
quiet_live Zero old c l is here rest quiet = ap (λ (d : Image). live_of (front_in c.zero) (front_in d.one)) rest ∙ quiet_zero (front_in old.zero) (front_in old.one) (front_in c.zero) l is here quiet
quiet_live One old c l is here rest quiet = ap (λ (d : Image). live_of (front_in d.zero) (front_in c.one)) rest ∙ quiet_one (front_in old.zero) (front_in old.one) (front_in c.one) l is here quiet

-- an open file above the live generation is live
pub new_live : (file : FileId) (old c : Image) (l : Option (FileId × ℕ)) (n : ℕ) → live_in old ≡ Ok l → target l ≡ file → c ≡ put file (content file c) old
    → front_in (content file c) ≡ Ok (Open n) → generation_at l < n → live_in c ≡ Ok (Some (file, n))
new_live Zero old c l n is here rest front below =
    ap (λ (d : Image). live_of (front_in c.zero) (front_in d.one)) rest ∙ ap (λ (f : Result Front ℕ). live_of f (front_in old.one)) front
    ∙ new_zero (front_in old.zero) (front_in old.one) l n is here below
new_live One old c l n is here rest front below =
    ap (λ (d : Image). live_of (front_in d.zero) (front_in c.one)) rest ∙ ap (λ (f : Result Front ℕ). live_of (front_in old.zero) f) front
    ∙ new_one (front_in old.zero) (front_in old.one) l n is here below

other_put : (file : FileId) (x : List ℕ) (c : Image) → content file (put (other file) x c) ≡ content file c
other_put Zero x c = refl
other_put One x c = refl

pub written_put : (file : FileId) (x : List ℕ) (c : Image) → (put file x c).written ≡ c.written
written_put Zero x c = refl
written_put One x c = refl

keeps_by : (plan : Plan) (c old : Image) (k : Kept) (l : Option (FileId × ℕ)) (x : List ℕ) → c ≡ put (target l) x old → KeepsBy plan old (Ok l) k → KeepsBy plan c (Ok l) k
keeps_by plan c old k None x rest keeps = keeps
keeps_by plan c old k (Some live) x rest keeps =
    subst (λ (y : List ℕ). FileKeeps plan y k) (sym (ap (content live.0) rest ∙ other_put live.0 x old)) keeps

-- what was kept is kept while the same file is live
pub kept_same : (plan : Plan) (c old : Image) (k : Kept) (l : Option (FileId × ℕ)) (x : List ℕ) → live_in old ≡ Ok l → c ≡ put (target l) x old
    → live_in c ≡ Ok l → Keeps plan old k → Keeps plan c k
kept_same plan c old k l x was rest is keeps =
    subst (λ (r : Result (Option (FileId × ℕ)) (FileId × ℕ)). KeepsBy plan c r k) (sym is) (keeps_by plan c old k l x rest (subst (λ (r : Result (Option (FileId × ℕ)) (FileId × ℕ)). KeepsBy plan old r k) was keeps))

-- a newer file keeps what its text says
pub kept_new : (plan : Plan) (c : Image) (k : Kept) (file : FileId) (n : ℕ) → live_in c ≡ Ok (Some (file, n)) → FileKeeps plan (content file c) k → Keeps plan c k
kept_new plan c k file n is keeps = subst (λ (r : Result (Option (FileId × ℕ)) (FileId × ℕ)). KeepsBy plan c r k) (sym is) keeps

-- what a disk keeps while its other file is written
pub rewriting_keeps : (plan : Plan) (old c : Image) (k new : Kept) (l : Option (FileId × ℕ)) (n : ℕ) (text : List ℕ) → live_in old ≡ Ok l
    → Changed (target l) (IsRewriting (content (target l) old) text) old c → Keeps plan old k
    → front_in (gated 1 text) ≡ Ok (Open n) → generation_at l < n → FileKeeps plan (gated 1 text) new → IsOneOf plan old k new c
rewriting_keeps plan old c k new l n text was change keeps front below keeps_new = record {
  keeps = elim change.holds [
    | inl same ↦ inl (subst (λ (d : Image). Keeps plan d k) (sym (change.rest ∙ ap (λ (x : List ℕ). put (target l) x old) same ∙ put-same (target l) old)) keeps)
    | inr now ↦ elim now [
      | inl quiet ↦ inl (kept_same plan c old k l (content (target l) c) was change.rest (quiet_live (target l) old c l was refl change.rest quiet) keeps)
      | inr is ↦ inr (kept_new plan c new (target l) n (new_live (target l) old c l n was refl change.rest (ap front_in is ∙ front) below)
          (subst (λ (x : List ℕ). FileKeeps plan x new) (sym is) keeps_new))
    ]
  ];
  out = ap (λ (d : Image). d.written) change.rest ∙ written_put (target l) (content (target l) c) old;
}

file_in : Result (Option (FileId × ℕ)) (FileId × ℕ) → FileId
file_in (Ok (Some live)) = live.0
file_in r = Zero

number_in : Result (Option (FileId × ℕ)) (FileId × ℕ) → ℕ
number_in (Ok (Some live)) = live.1
number_in r = 0

choice_is_zero : (equal below : Bool) (a b g : ℕ) → choice equal below a b ≡ Ok (Some (Zero, g)) → a ≡ g
unfolding choice file_in number_in
choice_is_zero true below a b g is = absurd (cc)
choice_is_zero false true a b g is = let no : One ≡ Zero = ap file_in is in absurd (cc)
choice_is_zero false false a b g is = ap number_in is

choice_is_one : (equal below : Bool) (a b g : ℕ) → choice equal below a b ≡ Ok (Some (One, g)) → b ≡ g
unfolding choice file_in number_in
choice_is_one true below a b g is = absurd (cc)
choice_is_one false false a b g is = let no : Zero ≡ One = ap file_in is in absurd (cc)
choice_is_one false true a b g is = ap number_in is

by_zero : (a b : Option ℕ) (g : ℕ) → newest a b ≡ Ok (Some (Zero, g)) → a ≡ Some g
unfolding choice file_in number_in
by_zero None None g is = absurd (cc)
by_zero None (Some b) g is = let no : One ≡ Zero = ap file_in is in absurd (cc)
by_zero (Some a) None g is = ap (λ (n : ℕ). Some n) (ap number_in is)
by_zero (Some a) (Some b) g is = ap (λ (n : ℕ). Some n) (choice_is_zero (a == b) (nat_lt a b) a b g is)

by_one : (a b : Option ℕ) (g : ℕ) → newest a b ≡ Ok (Some (One, g)) → b ≡ Some g
unfolding choice file_in number_in
by_one None None g is = absurd (cc)
by_one (Some a) None g is = let no : Zero ≡ One = ap file_in is in absurd (cc)
by_one None (Some b) g is = ap (λ (n : ℕ). Some n) (ap number_in is)
by_one (Some a) (Some b) g is = ap (λ (n : ℕ). Some n) (choice_is_one (a == b) (nat_lt a b) a b g is)

open_of : (f : Front) (g : ℕ) → generation_of f ≡ Some g → f ≡ Open g
open_of Blank g is = absurd (cc)
open_of Closed g is = absurd (cc)
open_of (Open n) g is = let same : n ≡ g = cc in ap (λ (m : ℕ). Open m) same

pub newest_is_zero : (a b : Front) (g : ℕ) → newest (generation_of a) (generation_of b) ≡ Ok (Some (Zero, g)) → a ≡ Open g
newest_is_zero a b g is = open_of a g (by_zero (generation_of a) (generation_of b) g is)

pub newest_is_one : (a b : Front) (g : ℕ) → newest (generation_of a) (generation_of b) ≡ Ok (Some (One, g)) → b ≡ Open g
newest_is_one a b g is = open_of b g (by_one (generation_of a) (generation_of b) g is)
