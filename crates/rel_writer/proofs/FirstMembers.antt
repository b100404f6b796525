-- Where sets stand together, the first of the members before a change is the first of all.
use Rattle.std.proofs.Common.{suc, ◌≡◌, ℕ, ◌+◌, Bool, true, false, cond, List, [], ◌∷◌, ◌++◌, map, length, refl, ap, sym, ◌∙◌, arith, inl, inr}
use Rattle.std.specs.Prelude.{Some, slice_get, ◌&&◌}
use Rattle.std.specs.List.{AllByRecursion}
use Rattle.std.specs.Str.{bytes_eq}
use Rattle.std.proofs.lemmas.Bool.{cases_Bool, eq-eqb, eqb-true, and_parts}
use Rattle.std.proofs.lemmas.Slice.Eq.{bytes_eq-Decides}
use Rattle.dur_base.specs.declared.sample.SetMark.{SetMark}
use Rattle.dur_base.specs.declared.sample.SetMark.TheVariants.{NoSet, End, Of}
use Rattle.dur_view.specs.declared.change.Change.{Change}
use Rattle.rel_writer.specs.Replays.{is_one_set, are_of_one_set, first_member, sent_mark, marked, change_after, changes_after, samples}
use Rattle.rel_writer.proofs.Marks.{get_seam}
use Rattle.rel_writer.specs.Together.{StandTogether, least_member, sent_among, GoUnderTheirFirst}

-- ---- members of one set

one_mark : (m n : SetMark) → is_one_set m n ≡ true → (m ≡ n) × (is_one_set n n ≡ true)
one_mark (Of f) (Of g) h = (ap (λ n. Of n) (eqb-true f g h), eq-eqb g g refl)
one_mark (Of f) NoSet h = cc
one_mark (Of f) End h = cc
one_mark NoSet n h = cc
one_mark End n h = cc

-- they have one writer and one mark, which is that of a set
record OfOneSet (a b : Change) : Type 0 where
  writer : a.writer ≡ b.writer
  mark : a.sample.set ≡ b.sample.set
  set : is_one_set b.sample.set b.sample.set ≡ true

of_one : (a b : Change) → are_of_one_set a b ≡ true → OfOneSet a b
of_one a b h =
    let p = and_parts (bytes_eq a.writer b.writer) (is_one_set a.sample.set b.sample.set) h in
    let m = one_mark a.sample.set b.sample.set p.1 in
    record { writer = (bytes_eq-Decides a.writer b.writer).0 p.0; mark = m.0; set = m.1 }

both_on : (a b : Bool) → a ≡ true → b ≡ true → (a && b) ≡ true
both_on true b h k = k
both_on false b h k = cc

are_one : (a b : Change) → OfOneSet a b → are_of_one_set a b ≡ true
are_one a b h =
    both_on (bytes_eq a.writer b.writer) (is_one_set a.sample.set b.sample.set)
    ((bytes_eq-Decides a.writer b.writer).1 h.writer)
    (ap (λ m. is_one_set m b.sample.set) h.mark ∙ h.set)

-- a member of a's set is one of b's
same_set : (x a b : Change) → OfOneSet a b → are_of_one_set x a ≡ are_of_one_set x b
same_set x a b h =
    ap (λ w. bytes_eq x.writer w && is_one_set x.sample.set a.sample.set) h.writer
    ∙ ap (λ m. bytes_eq x.writer b.writer && is_one_set x.sample.set m) h.mark

-- ---- places

-- changes, of which those in front come with the latest first
abbrev onto : List Change → List Change → List Change
onto [] rest = rest
onto (b ∷ before) rest = onto before (b ∷ rest)

at_behind : (before rest : List Change) (n : ℕ)
    → slice_get (onto before rest) (length before + n) ≡ slice_get rest n
at_behind [] rest n = let e : 0 + n ≡ n = omega arith in ap (slice_get rest) e
at_behind (b ∷ before) rest n =
    let e : length (b ∷ before) + n ≡ length before + suc n = omega arith in
    ap (slice_get (onto before (b ∷ rest))) e ∙ at_behind before (b ∷ rest) (suc n)

get_next : (xs : List Change) (b c : Change) (ys : List Change)
    → slice_get (xs ++ b ∷ c ∷ ys) (suc (length xs)) ≡ Some c
get_next [] b c ys = refl
get_next (y ∷ xs) b c ys = get_next xs b c ys

-- ---- none in front

-- where the change before it is of another set, none before that one is of its set
none_before : (before ahead : List Change) (b c : Change) (cs : List Change)
    → StandTogether (onto before (ahead ++ b ∷ c ∷ cs)) → are_of_one_set b c ≡ false
    → AllByRecursion (λ x. are_of_one_set x c ≡ false) before
none_before [] ahead b c cs t other = tt
none_before (x ∷ before) ahead b c cs t other =
    (here, none_before before (x ∷ ahead) b c cs t other)
  where
    all : List Change
    all = onto before ((x ∷ ahead) ++ b ∷ c ∷ cs)

    n : ℕ
    n = length before

    here : are_of_one_set x c ≡ false
    here = elim (cases_Bool (are_of_one_set x c)) [
      | inl it ↦
          let first : slice_get all (n + 0) ≡ Some x =
          at_behind before ((x ∷ ahead) ++ b ∷ c ∷ cs) 0 in
          let second : slice_get all (n + length (x ∷ ahead)) ≡ Some b =
          at_behind before ((x ∷ ahead) ++ b ∷ c ∷ cs) (length (x ∷ ahead))
          ∙ get_seam (x ∷ ahead) b (c ∷ cs) in
          let third : slice_get all (n + suc (length (x ∷ ahead))) ≡ Some c =
          at_behind before ((x ∷ ahead) ++ b ∷ c ∷ cs) (suc (length (x ∷ ahead)))
          ∙ get_next (x ∷ ahead) b c cs in
          let with_b = of_one x b
          (t (n + 0) (n + length (x ∷ ahead)) (n + suc (length (x ∷ ahead))) x b c
          (omega arith) (omega arith) first second third it) in
          let with_c = of_one x c it in
          let yes : are_of_one_set b c ≡ true = are_one b c (record {
            writer = sym with_b.writer ∙ with_c.writer;
            mark = sym with_b.mark ∙ with_c.mark;
            set = with_c.set;
          }) in
          let no : true ≡ false = sym yes ∙ other in
          cc
      | inr off ↦ off
    ]

least_behind : (before rest : List Change) (c : Change)
    → AllByRecursion (λ x. are_of_one_set x c ≡ false) before
    → least_member c (onto before rest) ≡ length before + least_member c rest
least_behind [] rest c none = omega arith
least_behind (b ∷ before) rest c none =
    let more = least_behind before (b ∷ rest) c none.1 in
    let here : least_member c (b ∷ rest) ≡ least_member c rest + 1 =
    ap (λ x. cond x 1 (least_member c rest + 1)) none.0 in
    omega (arith, more, here)

least_same : (xs : List Change) (a b : Change) → OfOneSet a b
    → least_member a xs ≡ least_member b xs
least_same [] a b h = refl
least_same (x ∷ xs) a b h =
    ap (λ y. cond y 1 (least_member a xs + 1)) (same_set x a b h)
    ∙ ap (λ n. cond (are_of_one_set x b) 1 (n + 1)) (least_same xs a b h)

-- ---- the first member

first_is_least : (before : List Change) (c : Change) (cs : List Change)
    → StandTogether (onto before (c ∷ cs)) → are_of_one_set c c ≡ true
    → first_member before c ≡ least_member c (onto before (c ∷ cs))
first_is_least [] c cs t own = sym (ap (λ y. cond y 1 (least_member c cs + 1)) own)
first_is_least (b ∷ before) c cs t own = elim (cases_Bool (are_of_one_set b c)) [
  | inl it ↦
      let one = of_one b c it in
      let b_own : are_of_one_set b b ≡ true = same_set b b c one ∙ it in
      ap (λ y. cond y (first_member before b) (length (b ∷ before) + 1)) it
      ∙ first_is_least before b (c ∷ cs) t b_own
      ∙ least_same (onto before (b ∷ c ∷ cs)) b c one
  | inr off ↦
      let none = none_before before [] b c cs t off in
      let behind = least_behind (b ∷ before) (c ∷ cs) c (off, none) in
      let here : least_member c (c ∷ cs) ≡ 1 = ap (λ y. cond y 1 (least_member c cs + 1)) own in
      let is : cond (are_of_one_set b c) (first_member before b) (length (b ∷ before) + 1)
      ≡ length (b ∷ before) + 1 =
      ap (λ y. cond y (first_member before b) (length (b ∷ before) + 1)) off in
      is ∙ omega (arith, behind, here)
]

mark_is : (m : SetMark) (before : List Change) (c : Change) (cs : List Change) → c.sample.set ≡ m
    → StandTogether (onto before (c ∷ cs))
    → sent_mark m (first_member before c) ≡ sent_mark m (least_member c (onto before (c ∷ cs)))
mark_is NoSet before c cs e t = refl
mark_is End before c cs e t = refl
mark_is (Of f) before c cs e t =
    let own : are_of_one_set c c ≡ true = are_one c c (record {
      writer = refl;
      mark = refl;
      set = ap (λ m. is_one_set m m) e ∙ eq-eqb f f refl;
    }) in
    ap (λ n. Of n) (first_is_least before c cs t own)

all_after : (before cs : List Change) → StandTogether (onto before cs)
    → samples (changes_after before cs) ≡ map (sent_among (onto before cs)) cs
all_after before [] t = refl
all_after before (c ∷ cs) t =
    let here : (change_after before c).sample ≡ sent_among (onto before (c ∷ cs)) c =
    ap (λ m. (marked c m).sample) (mark_is c.sample.set before c cs refl t) in
    ap (λ x. x ∷ samples (changes_after (c ∷ before) cs)) here
    ∙ ap (λ xs. sent_among (onto before (c ∷ cs)) c ∷ xs) (all_after (c ∷ before) cs t)

pub go_under_their_first : (changes : List Change) → GoUnderTheirFirst changes
go_under_their_first changes = λ t. all_after [] changes t
