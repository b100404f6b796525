-- The lines that the entries give are those of the learnt plan.
use Rattle.std.proofs.Common.{◌≡◌, ℕ, Bool, true, false, List, [], ◌∷◌, ◌++◌, map, Option, Some, None, refl, sym, ap, subst, ◌∙◌, inl, inr, if◌then◌else◌}
use Rattle.std.specs.BTreeMap.{IsOrdered}
use Rattle.std.specs.Cmp.Lexicographic.{slice_cmp}
use Rattle.std.specs.List.{AllByRecursion, filter_map, cons_option}
use Rattle.std.specs.List.Sorted.{IsStrictlySortedBy}
use Rattle.std.specs.Map.{keys_of}
use Rattle.std.specs.Ordering.{nat_cmp}
use Rattle.std.specs.declared.cmp.Ordering.{Ordering}
use Rattle.std.specs.declared.cmp.Ordering.TheVariants.{Less}
use Rattle.std.proofs.lemmas.Cmp.{nat_list_cmp_total}
use Rattle.std.proofs.lemmas.Map.Lookups.{exact_bytes}
use Rattle.std.proofs.lemmas.Map.Views.{btree_map_get_iff}
use Rattle.dur_qos.specs.declared.plan.Plan.{Plan}
use Rattle.rtps_discovery.specs.declared.announcement.Told.{Told}
use Rattle.rtps_discovery.specs.declared.directory.Directory.{Directory}
use Rattle.rtps_discovery.specs.declared.entry.Entry.{Entry}
use Rattle.rtps_discovery.specs.Fits.{IsLease, Fits}
use Rattle.rtps_discovery.specs.Hearing.{Keeps, AllFit}
use Rattle.rtps_discovery.specs.Learnt.{counts, counted_after, counted, IsLast, IsAlive, AreAdded, Follows, IsNewWriter, IsNewReader, HeardFact, AreTold, IsLearnt}
use Rattle.rtps_discovery.specs.Lines.{writer_at, reader_at}
use Rattle.rtps_discovery.proofs.Alive.{GivenBy, kept_in, writer_from, writer_back, reader_from, reader_back}
use Rattle.rtps_discovery.proofs.Unique.{Among, contains_from, among_from, all_at}

abbrev cmp : List ℕ → List ℕ → Ordering
cmp = slice_cmp nat_cmp

-- ---- what entries give

record Gives {A B : Type 0} (f : A → Option B) (es : List A) (x : B) : Type 0 where
  item : A
  within : Among es item
  gives : f item ≡ Some x

gives_later : {A B : Type 0} (f : A → Option B) (e : A) (es : List A) (x : B) → Gives f es x → Gives f (e ∷ es) x
gives_later f e es x g = record { item = g.item; within = inr g.within; gives = g.gives }

gives_at : {A B : Type 0} (f : A → Option B) (e : A) (es : List A) (x : B) (o : Option B) → f e ≡ o → (Among (filter_map f es) x → Gives f es x) → Among (cons_option o (filter_map f es)) x → Gives f (e ∷ es) x
gives_at f e es x None is more h = gives_later f e es x (more h)
gives_at f e es x (Some y) is more (inl same) = record { item = e; within = inl refl; gives = is ∙ ap Some same }
gives_at f e es x (Some y) is more (inr h) = gives_later f e es x (more h)

given : {A B : Type 0} (f : A → Option B) (es : List A) (x : B) → Among (filter_map f es) x → Gives f es x
given f [] x h = absurd h
given f (e ∷ es) x h = gives_at f e es x (f e) refl (given f es x) h

among_more : {B : Type 0} (o : Option B) (xs : List B) (x : B) → Among xs x → Among (cons_option o xs) x
among_more None xs x h = h
among_more (Some y) xs x h = inr h

gives_back : {A B : Type 0} (f : A → Option B) (es : List A) (e : A) (x : B) → Among es e → f e ≡ Some x → Among (filter_map f es) x
gives_back f [] e x h is = absurd h
gives_back f (d ∷ es) e x (inl same) is =
    let here : f d ≡ Some x = ap f same ∙ is in
    subst (λ o. Among (cons_option o (filter_map f es)) x) (sym here) (inl refl)
gives_back f (d ∷ es) e x (inr h) is = among_more (f d) (filter_map f es) x (gives_back f es e x h is)

all_from : {X : Type 0} (P : X → Type 0) (xs : List X) → ((x : X) → Among xs x → P x) → AllByRecursion P xs
all_from P [] f = tt
all_from P (x ∷ xs) f = (f x (inl refl), all_from P xs (λ y h. f y (inr h)))

all_among : {X : Type 0} (P : X → Type 0) (xs : List X) (x : X) → AllByRecursion P xs → Among xs x → P x
all_among P xs x all h = all_at P xs x all h

all_map : {X Y : Type 0} (f : X → Y) (P : Y → Type 0) (xs : List X) → AllByRecursion (λ x. P (f x)) xs → AllByRecursion P (map f xs)
all_map f P [] all = tt
all_map f P (x ∷ xs) all = (all.0, all_map f P xs all.1)

all_unmap : {X Y : Type 0} (f : X → Y) (P : Y → Type 0) (xs : List X) → AllByRecursion P (map f xs) → AllByRecursion (λ x. P (f x)) xs
all_unmap f P [] all = tt
all_unmap f P (x ∷ xs) all = (all.0, all_unmap f P xs all.1)

-- ---- in order

abbrev Pairs : Type 0
Pairs = List (List ℕ × Entry)

sorted_more : {L : Type 0} (guid : L → List ℕ) (x : L) (xs : List L) → AllByRecursion (λ k. cmp (guid x) k ≡ Less) (map guid xs) → IsStrictlySortedBy cmp (map guid xs) → IsStrictlySortedBy cmp (map guid (x ∷ xs))
unfolding IsStrictlySortedBy
sorted_more guid x xs all rest = (all, rest)

sorted_none : {L : Type 0} (guid : L → List ℕ) → IsStrictlySortedBy cmp (map guid [])
unfolding IsStrictlySortedBy
sorted_none guid = tt

sorted_parts : (e : List ℕ × Entry) (es : Pairs) → IsStrictlySortedBy cmp (keys_of (e ∷ es)) → AllByRecursion (λ k. cmp e.0 k ≡ Less) (keys_of es) × IsStrictlySortedBy cmp (keys_of es)
unfolding IsStrictlySortedBy
sorted_parts e es h = h

rises_at : {L : Type 0} (guid : L → List ℕ) (f : (List ℕ × Entry) → Option L) (e : List ℕ × Entry) (es : Pairs) (o : Option L) → f e ≡ o → IsStrictlySortedBy cmp (keys_of (e ∷ es)) → ((d : List ℕ × Entry) (x : L) → f d ≡ Some x → Among (e ∷ es) d → guid x ≡ d.0) → IsStrictlySortedBy cmp (map guid (filter_map f es)) → IsStrictlySortedBy cmp (map guid (cons_option o (filter_map f es)))
rises_at guid f e es None is sorted keyed rest = rest
rises_at guid f e es (Some x) is sorted keyed rest =
    let parts = sorted_parts e es sorted in
    let above : (y : _) → Among (filter_map f es) y → cmp (guid x) (guid y) ≡ Less =
    λ y h. let g = given f es y h in
    ap (λ k. cmp k (guid y)) (keyed e x is (inl refl)) ∙ ap (cmp e.0) (keyed g.item y g.gives (inr g.within)) ∙ all_among (λ d. cmp e.0 d.0 ≡ Less) es g.item (all_unmap (λ d. d.0) (λ k. cmp e.0 k ≡ Less) es parts.0) g.within in
    sorted_more guid x (filter_map f es) (all_map guid (λ k. cmp (guid x) k ≡ Less) (filter_map f es) (all_from (λ y. cmp (guid x) (guid y) ≡ Less) (filter_map f es) above)) rest

rises : {L : Type 0} (guid : L → List ℕ) (f : (List ℕ × Entry) → Option L) (es : Pairs) → IsStrictlySortedBy cmp (keys_of es) → ((d : List ℕ × Entry) (x : L) → f d ≡ Some x → Among es d → guid x ≡ d.0) → IsStrictlySortedBy cmp (map guid (filter_map f es))
rises guid f [] sorted keyed = sorted_none guid
rises guid f (e ∷ es) sorted keyed =
    rises_at guid f e es (f e) refl sorted keyed (rises guid f es (sorted_parts e es sorted).1 (λ d x is h. keyed d x is (inr h)))

-- ---- all lines

added : {L : Type 0} (d : Directory) (IsNew : L → Type 0) (guid : L → List ℕ) (line_at : Entry → Option L) (old : List L) → IsOrdered cmp d.entries → ((g : List ℕ) (e : Entry) (x : L) → kept_in d g ≡ Some e → line_at e ≡ Some x → (guid x ≡ g) × IsNew x) → ((x : L) → IsNew x → GivenBy d (guid x) line_at x) → AreAdded IsNew guid old (old ++ filter_map (λ e. line_at e.1) d.entries.entries)
added d IsNew guid line_at old ordered from back =
    let es = d.entries.entries in
    let f = λ (e : List ℕ × Entry). line_at e.1 in
    let look : (e : List ℕ × Entry) → Among es e → kept_in d e.0 ≡ Some e.1 = λ e h. (btree_map_get_iff nat_list_cmp_total exact_bytes d.entries ordered e.0 e.1).1 (contains_from es (e.0, e.1) h) in
    record {
      lines = filter_map f es;
      parts = refl;
      rising = rises guid f es ordered (λ e x is h. (from e.0 e.1 x (look e h) is).0);
      new = all_from IsNew (filter_map f es) (λ x h. let g = given f es x h in (from g.item.0 g.item.1 x (look g.item g.within) g.gives).1);
      every = λ x new. let b = back x new in contains_from (filter_map f es) x (gives_back f es (guid x, b.entry) x (among_from es (guid x, b.entry) ((btree_map_get_iff nat_list_cmp_total exact_bytes d.entries ordered (guid x) b.entry).0 b.is)) b.gives);
    }

-- ---- what was told fits

counted_if : (P : Told → Type 0) (b : Bool) (t : Told) (ts : List Told) → P t → AllByRecursion P ts → AllByRecursion P (if b then t ∷ ts else ts)
counted_if P true t ts one all = (one, all)
counted_if P false t ts one all = all

counted_all : (P : Told → Type 0) (before ts : List Told) → AllByRecursion P ts → AllByRecursion P (counted_after before ts)
counted_all P before [] all = tt
counted_all P before (t ∷ ts) all = counted_if P (counts before t) t (counted_after (before ++ t ∷ []) ts) all.0 (counted_all P (before ++ t ∷ []) ts all.1)

all_part : (P : Told → Type 0) (before : List Told) (t : Told) (after : List Told) → AllByRecursion P (before ++ t ∷ after) → P t
all_part P [] t after all = all.0
all_part P (x ∷ before) t after all = all_part P before t after all.1

pub last_fits : (plan : Plan) (told : List Told) (guid : List ℕ) (last : Told) (after : List Told) → AllFit plan told → IsLast (counted told) guid last after → Fits plan.topics last.what
last_fits plan told guid last after fit is =
    all_part (λ t. Fits plan.topics t.what) is.before last after (subst (AllByRecursion (λ t. Fits plan.topics t.what)) is.parts (counted_all (λ t. Fits plan.topics t.what) [] told fit))

pub lease_fits : (plan : Plan) (told : List Told) → AllFit plan told → (p : List ℕ) (lease : Option ℕ) (now : ℕ) → IsAlive (counted told) p lease now → IsLease lease
lease_fits plan told fit p lease now alive =
    subst (Fits plan.topics) alive.says (last_fits plan told p alive.last alive.after fit alive.is_last)

-- ---- the plan

pub follows : (plan : Plan) (d : Directory) (told : List Told) (now : ℕ) (p : Plan) → Keeps d told → AllFit plan told → IsOrdered cmp d.entries → p.prefix ≡ plan.prefix → p.topics ≡ plan.topics → p.writers ≡ plan.writers ++ filter_map (λ e. writer_at plan d now e.1) d.entries.entries → p.readers ≡ plan.readers ++ filter_map (λ e. reader_at plan d now e.1) d.entries.entries → Follows plan told now p
follows plan d told now p keeps fit ordered prefix topics writers readers =
    let fine = λ (g : List ℕ) (lease : Option ℕ) (alive : IsAlive (counted told) g lease now). lease_fits plan told fit g lease now alive in
    record {
      prefix = prefix;
      topics = topics;
      writers = subst (AreAdded (IsNewWriter plan (counted told) now) (λ w. w.guid) plan.writers) (sym writers) (added d (IsNewWriter plan (counted told) now) (λ w. w.guid) (writer_at plan d now) plan.writers ordered (λ g e x is gives. writer_from plan d told now g e x keeps fine is gives) (λ x new. writer_back plan d told now x keeps fine new));
      readers = subst (AreAdded (IsNewReader plan (counted told) now) (λ r. r.guid) plan.readers) (sym readers) (added d (IsNewReader plan (counted told) now) (λ r. r.guid) (reader_at plan d now) plan.readers ordered (λ g e x is gives. reader_from plan d told now g e x keeps is gives) (λ x new. reader_back plan d told now x keeps new));
    }

pub learnt_from : (plan : Plan) (facts : List HeardFact) (told : List Told) (now : ℕ) (p : Plan) → AreTold plan facts told → Follows plan told now p → IsLearnt plan facts now p
learnt_from plan facts told now p are_told follows = record { told = told; are_told = are_told; follows = follows }
