-- Which fragments came.
use Rattle.std.proofs.Common.{◌≡◌, ℕ, zero, suc, ◌+◌, ◌-◌, ◌<◌, ◌≤◌, Bool, true, false, List, [], ◌∷◌, length, take, drop, set, replicate, get_or, refl, sym, ap, subst, ◌∙◌, inl, inr, arith}
use Rattle.std.specs.Prelude.{◌⊎◌, ◌&&◌, is_none, Option, if◌then◌else◌}
use Rattle.std.specs.List.{list_all}
use Rattle.std.proofs.lemmas.List.{set-get_or, length-replicate, length-set}
use Rattle.std.proofs.lemmas.Bool.{cases_lt, false≢true, le-leb}
use Rattle.rtps_frag.specs.Bodies.{Fragments}
use Rattle.rtps_frag.specs.Samples.{Opened, fragments_in, opening, with_one, with_some, with_list, with_fragments, form_of, joined}
use Rattle.dur_base.specs.declared.fact.Fact.{Fact}
use Rattle.dur_base.specs.declared.fact.Fact.TheVariants as facts
use Rattle.rtps_frag.specs.Laws.{Brings, AnyBrings, behind_all, WholeWhereAllCame, ToldAsData}

-- ---- marks

set_keeps : (came : List Bool) (k j : ℕ) → get_or came j true ≡ true → get_or (set came k true) j true ≡ true
set_keeps [] k j there = refl
set_keeps (b ∷ came) zero zero there = refl
set_keeps (b ∷ came) zero (suc j) there = there
set_keeps (b ∷ came) (suc k) zero there = there
set_keeps (b ∷ came) (suc k) (suc j) there = set_keeps came k j there

set_there : (came : List Bool) (k : ℕ) → get_or (set came k true) k true ≡ true
set_there [] k = refl
set_there (b ∷ came) zero = refl
set_there (b ∷ came) (suc k) = set_there came k

set_only : (came : List Bool) (k j : ℕ) → get_or (set came k true) j true ≡ true → (get_or came j true ≡ true) ⊎ (k ≡ j)
set_only [] k j there = inl refl
set_only (b ∷ came) zero zero there = inr refl
set_only (b ∷ came) zero (suc j) there = inl there
set_only (b ∷ came) (suc k) zero there = inl there
set_only (b ∷ came) (suc k) (suc j) there = elim (set_only came k j there) [ inl x ↦ inl x | inr e ↦ inr (ap (λ (n : ℕ). suc n) e) ]

-- ---- one fragment, and several

one_by : (b : Bool) (k : ℕ) (text : List ℕ) (o p : Opened) → get_or o.came k true ≡ b → p.came ≡ set o.came k true → (if b then o else p).came ≡ set o.came k true
one_by true k text o p is new = sym (subst (λ (x : Bool). set o.came k x ≡ o.came) is (set-get_or o.came k true))
one_by false k text o p is new = new

one_sets : (k : ℕ) (text : List ℕ) (o : Opened) → (with_one k text o).came ≡ set o.came k true
one_sets k text o = one_by (get_or o.came k true) k text o _ refl refl

some_keep : (k n j : ℕ) (text : List ℕ) (o : Opened) → get_or o.came j true ≡ true → get_or (with_some k n text o).came j true ≡ true
some_keep k zero j text o there = there
some_keep k (suc n) j text o there = some_keep (k + 1) n j (drop o.width text) (with_one k (take o.width text) o) (rw (one_sets k (take o.width text) o) (set_keeps o.came k j there))

some_there : (k n j : ℕ) (text : List ℕ) (o : Opened) → k ≤ j → j < k + n → get_or (with_some k n text o).came j true ≡ true
some_there k zero j text o from below = absurd (omega (arith, from, below))
some_there k (suc n) j text o from below =
    elim (cases_lt k j) [
      | inl more ↦ some_there (k + 1) n j (drop o.width text) (with_one k (take o.width text) o) (omega (arith, more)) (omega (arith, below))
      | inr least ↦
          let here : k ≡ j = omega (arith, from, least) in
          some_keep (k + 1) n j (drop o.width text) (with_one k (take o.width text) o) (rw (one_sets k (take o.width text) o, ← here) (set_there o.came k))
    ]

some_only : (k n j : ℕ) (text : List ℕ) (o : Opened) → get_or (with_some k n text o).came j true ≡ true → (get_or o.came j true ≡ true) ⊎ ((k ≤ j) × (j < k + n))
some_only k zero j text o there = inl there
some_only k (suc n) j text o there =
    elim (some_only (k + 1) n j (drop o.width text) (with_one k (take o.width text) o) there) [
      | inl x ↦ elim (set_only o.came k j (subst (λ (c : List Bool). get_or c j true ≡ true) (one_sets k (take o.width text) o) x)) [
        | inl y ↦ inl y
        | inr e ↦ inr (omega (arith, e), omega (arith, e))
      ]
      | inr x ↦ inr (omega (arith, x.0), omega (arith, x.1))
    ]

some_len : (k n : ℕ) (text : List ℕ) (o : Opened) → length (with_some k n text o).came ≡ length o.came
some_len k zero text o = refl
some_len k (suc n) text o = some_len (k + 1) n (drop o.width text) (with_one k (take o.width text) o) ∙ ap length (one_sets k (take o.width text) o) ∙ length-set o.came k true

list_by : (b : Bool) (o p : Opened) → p.came ≡ o.came → (if b then p else o).came ≡ o.came
list_by true o p same = same
list_by false o p same = refl

-- ---- a DATA_FRAG, and several

fragments_keep : (time : Option ℕ) (f : Fragments) (j : ℕ) (o : Opened) → get_or o.came j true ≡ true → get_or (with_fragments time f o).came j true ≡ true
unfolding with_fragments
fragments_keep time f j o there = let same : (with_list time f o).came ≡ o.came = list_by _ o _ refl in some_keep (f.head.first - 1) f.head.count j f.octets (with_list time f o) (subst (λ (c : List Bool). get_or c j true ≡ true) (sym same) there)

fragments_there : (time : Option ℕ) (f : Fragments) (j : ℕ) (o : Opened) → Brings f j → get_or (with_fragments time f o).came j true ≡ true
unfolding with_fragments
fragments_there time f j o b = some_there (f.head.first - 1) f.head.count j f.octets (with_list time f o) b.from b.below

fragments_only : (time : Option ℕ) (f : Fragments) (j : ℕ) (o : Opened) → get_or (with_fragments time f o).came j true ≡ true → (get_or o.came j true ≡ true) ⊎ Brings f j
unfolding with_fragments
fragments_only time f j o there =
    let same : (with_list time f o).came ≡ o.came = list_by _ o _ refl in
    elim (some_only (f.head.first - 1) f.head.count j f.octets (with_list time f o) there) [
      | inl x ↦ inl (subst (λ (c : List Bool). get_or c j true ≡ true) same x)
      | inr x ↦ inr (record { from = x.0; below = x.1 })
    ]

fragments_len : (time : Option ℕ) (f : Fragments) (o : Opened) → length (with_fragments time f o).came ≡ length o.came
unfolding with_fragments
fragments_len time f o = let same : (with_list time f o).came ≡ o.came = list_by _ o _ refl in some_len (f.head.first - 1) f.head.count f.octets (with_list time f o) ∙ ap length same

all_keep : (xs : List (Option ℕ × Fragments)) (j : ℕ) (o : Opened) → get_or o.came j true ≡ true → get_or (behind_all xs o).came j true ≡ true
all_keep [] j o there = there
all_keep (x ∷ xs) j o there = all_keep xs j (with_fragments x.0 x.1 o) (fragments_keep x.0 x.1 j o there)

all_there : (xs : List (Option ℕ × Fragments)) (j : ℕ) (o : Opened) → AnyBrings xs j → get_or (behind_all xs o).came j true ≡ true
all_there [] j o b = absurd b
all_there (x ∷ xs) j o (inl b) = all_keep xs j (with_fragments x.0 x.1 o) (fragments_there x.0 x.1 j o b)
all_there (x ∷ xs) j o (inr b) = all_there xs j (with_fragments x.0 x.1 o) b

all_only : (xs : List (Option ℕ × Fragments)) (j : ℕ) (o : Opened) → get_or (behind_all xs o).came j true ≡ true → (get_or o.came j true ≡ true) ⊎ AnyBrings xs j
all_only [] j o there = inl there
all_only (x ∷ xs) j o there =
    elim (all_only xs j (with_fragments x.0 x.1 o) there) [
      | inl y ↦ elim (fragments_only x.0 x.1 j o y) [ inl z ↦ inl z | inr z ↦ inr (inl z) ]
      | inr y ↦ inr (inr y)
    ]

all_len : (xs : List (Option ℕ × Fragments)) (o : Opened) → length (behind_all xs o).came ≡ length o.came
all_len [] o = refl
all_len (x ∷ xs) o = all_len xs (with_fragments x.0 x.1 o) ∙ fragments_len x.0 x.1 o

-- ---- whole

whole_at : (came : List Bool) (k : ℕ) → list_all (λ b. b) came ≡ true → get_or came k true ≡ true
whole_at [] k all = refl
whole_at (true ∷ came) zero all = refl
whole_at (true ∷ came) (suc k) all = whole_at came k all
whole_at (false ∷ came) k all = absurd (false≢true all)

whole_from : (came : List Bool) → ((k : ℕ) → k < length came → get_or came k true ≡ true) → list_all (λ b. b) came ≡ true
whole_from [] at = refl
whole_from (true ∷ came) at = whole_from came (λ k within. at (suc k) (omega (arith, within)))
whole_from (false ∷ came) at = at 0 (omega arith)

none_yet : (n k : ℕ) → k < n → get_or (replicate n false) k true ≡ true → ⊥
none_yet zero k within there = absurd (omega (arith, within))
none_yet (suc n) zero within there = false≢true there
none_yet (suc n) (suc k) within there = none_yet n k (omega (arith, within)) there

pub whole_where_all_came : WholeWhereAllCame
unfolding opening
whole_where_all_came writer f xs = (
  λ whole k within. elim (all_only xs k (opening writer f) (whole_at (behind_all xs (opening writer f)).came k whole)) [
    | inl there ↦ absurd (none_yet (fragments_in f.head.size f.head.width) k within there)
    | inr b ↦ b
  ],
  λ all. whole_from (behind_all xs (opening writer f)).came (λ k within. all_there xs k (opening writer f) (all k (omega (arith, within, all_len xs (opening writer f), length-replicate (fragments_in f.head.size f.head.width) false)))),
)

-- ---- what a whole one tells

both_ways : (b : Bool) (x y : Fact) → (if b then x else y) ≡ (if b && true then x else y)
both_ways true x y = refl
both_ways false x y = refl

pub told_as_data : ToldAsData
unfolding joined
told_as_data c d o x =
    let told : Fact = facts.Data o.writer o.reader o.number (record { hash = o.inline.hash; status = o.inline.status; stamp = o.time; lifespan = o.inline.lifespan; set = o.inline.set; original = o.inline.original; form = form_of o.is_key; payload = o.octets }) in
    rw (x.writer, x.reader, x.number, x.time, x.inline, x.form, x.payload, le-leb (length o.octets) 65344 x.short) (both_ways (is_none o.inline.strange) told (facts.Unreadable o.writer o.reader o.number))
