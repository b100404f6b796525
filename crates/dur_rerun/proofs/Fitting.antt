-- A view that a hub may be opened with.
use Rattle.std.proofs.Common.{◌≡◌, ◌+◌, ◌≤◌, List, [], ◌∷◌, ◌++◌, length, map, Bool, true, false, cond, refl, sym, ap, subst, not, arith, length-append}
use Rattle.std.proofs.lemmas.List.{length-map}
use Rattle.std.specs.Prelude.{filter, is_some, All, Contains}
use Rattle.std.specs.List.{AllByRecursion}
use Rattle.std.proofs.lemmas.List.Elements.{All-weaker, All-from_recursion}
use Rattle.dur_base.specs.declared.kinds.Durability.{Durability}
use Rattle.dur_base.specs.declared.kinds.Durability.TheVariants.{Persistent}
use Rattle.dur_qos.specs.declared.plan.Plan.{Plan}
use Rattle.dur_qos.specs.declared.plan.Topic.{Topic}
use Rattle.dur_qos.specs.declared.plan.WriterLine.{WriterLine}
use Rattle.dur_qos.specs.Good.{GoodPlan}
use Rattle.dur_qos.specs.Plan.{place_of}
use Rattle.dur_view.specs.declared.data.View.{View}
use Rattle.dur_view.specs.Words.{stands}
use Rattle.dur_view.specs.Full.{new_writer, more_topics, more_writers, full}
use Rattle.dur_view.specs.IsSound.{IsSound}
use Rattle.dur_view.specs.Persistent.{is_persistent_kind, is_persistent, passes_at, writer_line_among, persistent_plan, HasPersistentPart}
use Rattle.dur_journal.specs.Histories.{Has, IsBase, IsWhole}
use Rattle.dur_hub.specs.Openings.{HasOneTopic, MayOpen}

filter_few : (test : WriterLine → Bool) (ws : List WriterLine) → length (filter test ws) ≤ length ws
filter_few test [] = omega arith
filter_few test (w ∷ ws) = few_by (test w) (filter_few test ws) where
  few_by : (b : Bool) → length (filter test ws) ≤ length ws → length (cond b (w ∷ filter test ws) (filter test ws)) ≤ length (w ∷ ws)
  few_by true so = omega (arith, so)
  few_by false so = omega (arith, so)

pub few_writers : (plan : Plan) (v : View) → length v.writers + length plan.writers ≤ 67108864 → length (full plan v).writers ≤ 67108864
few_writers plan v few =
    let new = filter (λ (w : WriterLine). not (stands v w.guid)) plan.writers in
    let topics = v.topics ++ more_topics plan v.topics in
    omega (arith, few, length-append v.writers (more_writers plan topics v), length-map new (new_writer plan topics), filter_few (λ (w : WriterLine). not (stands v w.guid)) plan.writers)

has_contains : (plan : Plan) (t : Topic) → Has plan t → Contains plan.topics t
unfolding Has
has_contains plan t has = has

pub opens_so : (plan : Plan) (v : View) → GoodPlan plan → IsSound v → length v.writers + length plan.writers ≤ 67108864 → All (Has plan) v.topics → All (HasOneTopic plan v) plan.writers → MayOpen plan v
opens_so plan v good sound few topics writers = record {
  plan = good;
  view = sound;
  topics = All-weaker (Has plan) (Contains plan.topics) (has_contains plan) v.topics topics;
  writers = writers;
  count = few_writers plan v few;
}

-- ---- a view that lacks nothing persistent of the plan

-- what is added to a list that stays as it is
none_added : {X : Type 0} (xs ys : List X) → xs ++ ys ≡ xs → ys ≡ []
none_added xs [] is = refl
none_added xs (y ∷ ys) is = absurd (omega (arith, length-append xs (y ∷ ys), ap length is))

-- what fails a test where none passes it
none_pass : {X : Type 0} (test : X → Bool) (xs : List X) → filter test xs ≡ [] → AllByRecursion (λ x. test x ≡ false) xs
none_pass test [] is = tt
none_pass test (x ∷ xs) is = pass_by (test x) refl is (none_pass test xs) where
  pass_by : (b : Bool) → test x ≡ b → cond b (x ∷ filter test xs) (filter test xs) ≡ [] → (filter test xs ≡ [] → AllByRecursion (λ y. test y ≡ false) xs)
      → (test x ≡ false) × AllByRecursion (λ y. test y ≡ false) xs
  pass_by true at none more = absurd (cc)
  pass_by false at none more = (at, more none)

-- of those that pass one test each fails another
each_of : {X Y : Type 0} (f : X → Y) (test : X → Bool) (P : Y → Type 0) (xs : List X) → AllByRecursion P (map f (filter test xs)) → AllByRecursion (λ x. test x ≡ true → P (f x)) xs
each_of f test P [] all = tt
each_of f test P (x ∷ xs) all = each_by (test x) refl all (each_of f test P xs) where
  each_by : (b : Bool) → test x ≡ b → AllByRecursion P (map f (cond b (x ∷ filter test xs) (filter test xs)))
      → (AllByRecursion P (map f (filter test xs)) → AllByRecursion (λ y. test y ≡ true → P (f y)) xs)
      → (test x ≡ true → P (f x)) × AllByRecursion (λ y. test y ≡ true → P (f y)) xs
  each_by true at all more = (λ pass. all.0, more all.1)
  each_by false at all more = ((λ pass. absurd (cc)), more all)

map_same : (xs : List Topic) → map (λ (t : Topic). t) xs ≡ xs
map_same [] = refl
map_same (x ∷ xs) = ap (λ l. x ∷ l) (map_same xs)

yes_of : (b : Bool) → not b ≡ false → b ≡ true
yes_of true is = refl
yes_of false is = absurd (cc)

each_yes : {X : Type 0} (test : X → Bool) (Q : X → Bool) (xs : List X) → AllByRecursion (λ x. test x ≡ true → not (Q x) ≡ false) xs → AllByRecursion (λ x. test x ≡ true → Q x ≡ true) xs
each_yes test Q [] all = tt
each_yes test Q (x ∷ xs) all = (λ pass. yes_of (Q x) (all.0 pass), each_yes test Q xs all.1)

each_kind : (ts : List Topic) → AllByRecursion (λ (t : Topic). t.kind ≡ Persistent) ts → AllByRecursion (λ (t : Topic). is_persistent t ≡ true) ts
each_kind [] all = tt
each_kind (t ∷ ts) all = (kind_by t.kind all.0, each_kind ts all.1) where
  kind_by : (k : Durability) → k ≡ Persistent → is_persistent_kind k ≡ true
  kind_by k is = ap is_persistent_kind is

-- that has all of the plan's persistent part, and nothing else
pub has_part : (plan : Plan) (v : View) → IsBase v → IsWhole plan v → All (Contains plan.topics) v.topics → HasPersistentPart plan v
unfolding IsWhole
has_part plan v base whole listed =
    let part = persistent_plan plan in
    let no_topics : more_topics part v.topics ≡ [] = none_added v.topics (more_topics part v.topics) (ap (λ (u : View). u.topics) whole) in
    let topics = v.topics ++ more_topics part v.topics in
    let no_writers : more_writers part topics v ≡ [] = none_added v.writers (more_writers part topics v) (ap (λ (u : View). u.writers) whole) in
    let lines : filter (λ (w : WriterLine). not (stands v w.guid)) part.writers ≡ [] = map_none (new_writer part topics) (filter (λ (w : WriterLine). not (stands v w.guid)) part.writers) no_writers in
    record {
      persistent = All-from_recursion (λ (t : Topic). is_persistent t ≡ true) v.topics (each_kind v.topics base.persistent);
      declared = listed;
      topics = All-from_recursion (λ (t : Topic). is_persistent t ≡ true → is_some (place_of t.name v.topics) ≡ true) plan.topics
          (each_yes is_persistent (λ (t : Topic). is_some (place_of t.name v.topics)) plan.topics
          (each_of (λ (t : Topic). t) is_persistent (λ (t : Topic). not (is_some (place_of t.name v.topics)) ≡ false) plan.topics
          (subst (AllByRecursion (λ (t : Topic). not (is_some (place_of t.name v.topics)) ≡ false)) (sym (map_same (filter is_persistent plan.topics)))
          (none_pass (λ (t : Topic). not (is_some (place_of t.name v.topics))) (filter is_persistent plan.topics) no_topics))));
      writers = All-from_recursion (λ (w : WriterLine). passes_at is_persistent plan.topics w.topic ≡ true → stands v w.guid ≡ true) plan.writers
          (each_yes (λ (w : WriterLine). passes_at is_persistent plan.topics w.topic) (λ (w : WriterLine). stands v w.guid) plan.writers
          (each_of (writer_line_among plan) (λ (w : WriterLine). passes_at is_persistent plan.topics w.topic) (λ (w : WriterLine). not (stands v w.guid) ≡ false) plan.writers
          (none_pass (λ (w : WriterLine). not (stands v w.guid)) part.writers lines)));
    }
  where
    map_none : {X Y : Type 0} (f : X → Y) (xs : List X) → map f xs ≡ [] → xs ≡ []
    map_none f [] is = refl
    map_none f (x ∷ xs) is = absurd (cc)
