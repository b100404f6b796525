-- The learnt plan of a good plan is a good one.
use Rattle.std.proofs.Common.{◌≡◌, ℕ, ◌<◌, ◌≤◌, Bool, true, false, ◌||◌, List, [], ◌∷◌, ◌++◌, length, map, Option, Some, None, refl, sym, ap, subst, ◌∙◌, append_assoc, append-nil, inl, inr, if◌then◌else◌}
use Rattle.std.specs.Prelude.{option_map}
use Rattle.std.specs.Cmp.Lexicographic.{slice_cmp}
use Rattle.std.specs.List.{AllByRecursion}
use Rattle.std.specs.List.Sorted.{IsStrictlySortedBy}
use Rattle.std.specs.Ordering.{nat_cmp}
use Rattle.std.specs.Str.{bytes_eq}
use Rattle.std.specs.declared.cmp.Ordering.{Ordering}
use Rattle.std.specs.declared.cmp.Ordering.TheVariants.{Less}
use Rattle.std.proofs.lemmas.Bool.{false_from_ne_true, or_from, cases_lt}
use Rattle.std.proofs.lemmas.Map.Keys.{sorted_tail}
use Rattle.std.proofs.lemmas.Slice.Eq.{bytes_eq-Decides}
use Rattle.dur_qos.specs.declared.plan.Plan.{Plan}
use Rattle.dur_qos.specs.declared.plan.Topic.{Topic}
use Rattle.dur_qos.specs.declared.plan.WriterLine.{WriterLine}
use Rattle.dur_qos.specs.declared.plan.ReaderLine.{ReaderLine}
use Rattle.dur_qos.specs.Good.{IsLimit, IsGoodTopic, EachIsNew, IsGoodWriter, IsGoodReader, GoodPlan}
use Rattle.dur_qos.specs.Plan.{place_of, has_writer, has_reader, is_above}
use Rattle.rtps_discovery.specs.declared.announcement.Told.{Told}
use Rattle.rtps_discovery.specs.Fits.{IsLease, Fits}
use Rattle.rtps_discovery.specs.Hearing.{AllFit}
use Rattle.rtps_discovery.specs.Learnt.{counted, Follows, IsNewWriter, IsNewReader, PassesLimit, seconds_of}
use Rattle.rtps_discovery.specs.Sources.{participant_of}
use Rattle.rtps_discovery.proofs.Alive.{seconds_small}
use Rattle.rtps_discovery.proofs.NewLines.{last_fits, lease_fits}
use Rattle.rtps_discovery.proofs.Unique.{Among, all_at, later_above, not_less}

abbrev cmp : List ℕ → List ℕ → Ordering
cmp = slice_cmp nat_cmp

all_parts : {X : Type 0} (P : X → Type 0) (xs ys : List X) → AllByRecursion P xs → AllByRecursion P ys → AllByRecursion P (xs ++ ys)
all_parts P [] ys a b = b
all_parts P (x ∷ xs) ys a b = (a.0, all_parts P xs ys a.1 b)

all_weaker : {X : Type 0} (P Q : X → Type 0) (xs : List X) → ((x : X) → P x → Q x) → AllByRecursion P xs → AllByRecursion Q xs
all_weaker P Q [] f all = tt
all_weaker P Q (x ∷ xs) f all = (f x all.0, all_weaker P Q xs f all.1)

each_parts : {X : Type 0} (IsNew : List X → X → Type 0) (seen xs ys : List X) → EachIsNew IsNew seen xs → EachIsNew IsNew (seen ++ xs) ys → EachIsNew IsNew seen (xs ++ ys)
each_parts IsNew seen [] ys a b = subst (λ s. EachIsNew IsNew s ys) (append-nil seen) b
each_parts IsNew seen (x ∷ xs) ys a b =
    (a.0, each_parts IsNew (seen ++ x ∷ []) xs ys a.1 (subst (λ s. EachIsNew IsNew s ys) (sym (append_assoc seen (x ∷ []) xs)) b))

-- ---- lines by their GUIDs

-- a search of a GUID, from the front on
record Searches {L : Type 0} (guid : L → List ℕ) (has : List ℕ → List L → Bool) : Type 0 where
  none : (g : List ℕ) → has g [] ≡ false
  more : (g : List ℕ) (x : L) (xs : List L) → has g (x ∷ xs) ≡ (if bytes_eq g (guid x) then true else has g xs)

either : (b c d : Bool) → (if b then true else (c || d)) ≡ ((if b then true else c) || d)
either true c d = refl
either false c d = refl

has_parts : {L : Type 0} (guid : L → List ℕ) (has : List ℕ → List L → Bool) → Searches guid has → (g : List ℕ) (xs ys : List L) → has g (xs ++ ys) ≡ (has g xs || has g ys)
has_parts guid has s g [] ys = ap (λ b. b || has g ys) (sym (s.none g))
has_parts guid has s g (x ∷ xs) ys =
    s.more g x (xs ++ ys) ∙ ap (λ b. if bytes_eq g (guid x) then true else b) (has_parts guid has s g xs ys) ∙ either (bytes_eq g (guid x)) (has g xs) (has g ys) ∙ ap (λ b. b || has g ys) (sym (s.more g x xs))

each_rising : {L : Type 0} (guid : L → List ℕ) (has : List ℕ → List L → Bool) → Searches guid has → (seen ys : List L) → IsStrictlySortedBy cmp (map guid ys) → ((y : L) → Among ys y → has (guid y) seen ≡ false) → EachIsNew (λ old y. has (guid y) old ≡ false) seen ys
each_rising guid has s seen [] rises free = tt
each_rising guid has s seen (y ∷ ys) rises free =
    let apart : (z : _) → Among ys z → has (guid z) (y ∷ []) ≡ false =
    λ z h. s.more (guid z) y [] ∙ ap (λ b. if b then true else has (guid z) []) (false_from_ne_true (bytes_eq (guid z) (guid y)) (λ e. not_less (guid z) (subst (λ k. cmp k (guid z) ≡ Less) (sym ((bytes_eq-Decides (guid z) (guid y)).0 e)) (later_above guid y ys z rises h)))) ∙ s.none (guid z) in
    (free y (inl refl), each_rising guid has s (seen ++ y ∷ []) ys (sorted_tail cmp (guid y) (map guid ys) rises) (λ z h. has_parts guid has s (guid z) seen (y ∷ []) ∙ or_from (has (guid z) seen) (has (guid z) (y ∷ [])) (free z (inr h)) (apart z h)))

writers_searched : Searches (λ (w : WriterLine). w.guid) has_writer
writers_searched = record { none = λ g. refl; more = λ g x xs. refl }

readers_searched : Searches (λ (r : ReaderLine). r.guid) has_reader
readers_searched = record { none = λ g. refl; more = λ g x xs. refl }

-- ---- each line

limit_of : (lease : Option ℕ) → IsLease lease → IsLimit (option_map seconds_of lease)
limit_of None fits = tt
limit_of (Some ticks) fits = seconds_small ticks fits

writer_good : (plan : Plan) (told : List Told) (now : ℕ) → AllFit plan told → (line : WriterLine) → IsNewWriter plan (counted told) now line → IsGoodWriter (length plan.topics) line
writer_good plan told now fit line new =
    (subst (Fits plan.topics) new.there.says (last_fits plan told line.guid new.there.last new.there.after fit new.there.is_last), subst IsLimit (sym new.lease_is) (limit_of new.lease (lease_fits plan told fit (participant_of line.guid) new.lease now new.there.participant)))

reader_good : (plan : Plan) (told : List Told) (now : ℕ) → AllFit plan told → (line : ReaderLine) → IsNewReader plan (counted told) now line → IsGoodReader (length plan.topics) line
reader_good plan told now fit line new =
    subst (Fits plan.topics) new.there.says (last_fits plan told line.guid new.there.last new.there.after fit new.there.is_last)

at_most : (m n : ℕ) → (m < n → ⊥) → n ≤ m
at_most m n h =
    elim (cases_lt m n) [
      | inl lt ↦ absurd (h lt)
      | inr le ↦ le
    ]

-- ---- the plan

abbrev AreGoodTopics : List Topic → Type 0
AreGoodTopics ts =
    AllByRecursion IsGoodTopic ts × AllByRecursion (λ t. is_above t.depth t.max_per_instance ≡ false) ts × EachIsNew (λ seen t. place_of t.name seen ≡ None) [] ts × (length ts ≤ 1024)

abbrev AreGoodWriters : ℕ → List WriterLine → Type 0
AreGoodWriters topics ws = AllByRecursion (IsGoodWriter topics) ws × EachIsNew (λ seen w. has_writer w.guid seen ≡ false) [] ws

abbrev AreGoodReaders : ℕ → List ReaderLine → Type 0
AreGoodReaders topics rs = AllByRecursion (IsGoodReader topics) rs × EachIsNew (λ seen r. has_reader r.guid seen ≡ false) [] rs

writers_good : (plan : Plan) (told : List Told) (now : ℕ) (p : Plan) → GoodPlan plan → AllFit plan told → Follows plan told now p → AreGoodWriters (length plan.topics) p.writers
writers_good plan told now p good fit f =
    let a = f.writers in
    subst (AreGoodWriters (length plan.topics)) (sym a.parts) (
      all_parts (IsGoodWriter (length plan.topics)) plan.writers a.lines good.writers (all_weaker (IsNewWriter plan (counted told) now) (IsGoodWriter (length plan.topics)) a.lines (writer_good plan told now fit) a.new),
      each_parts (λ seen w. has_writer w.guid seen ≡ false) [] plan.writers a.lines good.writer_guids (each_rising (λ w. w.guid) has_writer writers_searched plan.writers a.lines a.rising (λ w h. (all_at (IsNewWriter plan (counted told) now) a.lines w a.new h).unnamed)),
    )

readers_good : (plan : Plan) (told : List Told) (now : ℕ) (p : Plan) → GoodPlan plan → AllFit plan told → Follows plan told now p → AreGoodReaders (length plan.topics) p.readers
readers_good plan told now p good fit f =
    let a = f.readers in
    subst (AreGoodReaders (length plan.topics)) (sym a.parts) (
      all_parts (IsGoodReader (length plan.topics)) plan.readers a.lines good.readers (all_weaker (IsNewReader plan (counted told) now) (IsGoodReader (length plan.topics)) a.lines (reader_good plan told now fit) a.new),
      each_parts (λ seen r. has_reader r.guid seen ≡ false) [] plan.readers a.lines good.reader_guids (each_rising (λ r. r.guid) has_reader readers_searched plan.readers a.lines a.rising (λ r h. (all_at (IsNewReader plan (counted told) now) a.lines r a.new h).unnamed)),
    )

pub learnt_good : (plan : Plan) (told : List Told) (now : ℕ) (p : Plan) → GoodPlan plan → AllFit plan told → Follows plan told now p → (PassesLimit p → ⊥) → GoodPlan p
learnt_good plan told now p good fit f within =
    let topics : AreGoodTopics p.topics = subst AreGoodTopics (sym f.topics) (good.topics, good.depths, good.names, good.topic_count) in
    let count : length plan.topics ≡ length p.topics = ap length (sym f.topics) in
    let writers : AreGoodWriters (length p.topics) p.writers = subst (λ n. AreGoodWriters n p.writers) count (writers_good plan told now p good fit f) in
    let readers : AreGoodReaders (length p.topics) p.readers = subst (λ n. AreGoodReaders n p.readers) count (readers_good plan told now p good fit f) in
    record {
      topics = topics.0;
      depths = topics.1;
      names = topics.2;
      writers = writers.0;
      writer_guids = writers.1;
      readers = readers.0;
      reader_guids = readers.1;
      topic_count = topics.3;
      writer_count = at_most 4096 (length p.writers) (λ h. within (inl h));
      reader_count = at_most 1024 (length p.readers) (λ h. within (inr h));
    }
