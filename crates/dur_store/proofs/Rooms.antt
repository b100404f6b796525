-- The room of a store, as writers and topics are put.
use Rattle.std.proofs.Common.{◌≡◌, ◌≢◌, ℕ, zero, suc, ◌+◌, ◌<◌, ◌≤◌, ◌⊎◌, inl, inr, Bool, true, false, Option, Some, Result, Ok, Err, OnOk, List, [], ◌∷◌, map, length, get_or, refl, sym, ap, ◌∙◌, subst, arith}
use Rattle.std.specs.Prelude.{slice_get, option_map, ◌==◌}
use Rattle.std.proofs.Math.ListN.{set}
use Rattle.std.proofs.lemmas.Bool.{eqb-true, eq-eqb}
use Rattle.std.proofs.lemmas.List.Elements.{All-get_or}
use Rattle.std.proofs.lemmas.Option.{slice_get_within, get_or_from_slice_get}
use Rattle.dur_view.specs.declared.data.Held.{Held}
use Rattle.dur_view.specs.declared.data.KeptWriter.{KeptWriter}
use Rattle.dur_view.specs.declared.data.View.{View}
use Rattle.dur_view.specs.History.{History}
use Rattle.dur_view.specs.IsSound.{IsSound}
use Rattle.dur_instances.specs.Trimmed.{Trimmed}
use Rattle.dur_store.specs.declared.store.Store.{Store}
use Rattle.dur_store.specs.declared.writer.Writer.{Writer}
use Rattle.dur_store.specs.Parts.{line_of, IsTopic, AreTopics}
use Rattle.dur_store.specs.Spare.{HadWriter, HadWriters, HadTopic, HadTopics, GotRoom}
use Rattle.dur_store.specs.Room.{HasRoom, HasRoomBut}
use Rattle.dur_store.proofs.Lists.{get-map}
use Rattle.dur_store.proofs.Steps.{get-set, length-set}

-- ---- numbers

pub stays-set : (xs : List ℕ) (t n k : ℕ) → get_or xs t 0 ≤ n → get_or xs k 0 ≤ get_or (set xs t n) k 0
stays-set [] t n k le = omega arith
stays-set (x ∷ xs) zero n zero le = le
stays-set (x ∷ xs) zero n (suc k) le = omega arith
stays-set (x ∷ xs) (suc t) n zero le = omega arith
stays-set (x ∷ xs) (suc t) n (suc k) le = stays-set xs t n k le

pub needed-within : (ns : List ℕ) (t n : ℕ) → n < get_or ns t 0 → t < length ns
needed-within [] t n lt = absurd (omega (arith, lt))
needed-within (x ∷ ns) zero n lt = omega arith
needed-within (x ∷ ns) (suc t) n lt = let le = needed-within ns t n lt in omega arith

-- ---- what stood at a place

pub get-own : {X : Type 0} (xs : List X) (i : ℕ) (x : X) → i < length xs → slice_get (set xs i x) i ≡ Some x
get-own [] i x lt = absurd (omega (arith, lt))
get-own (y ∷ xs) zero x lt = refl
get-own (y ∷ xs) (suc i) x lt = get-own xs i x (omega (arith, lt))

writer-by : (ws : List Writer) (i : ℕ) (old w : Writer) → slice_get ws i ≡ Some old → w.topic ≡ old.topic → length w.held.items ≤ length old.held.items → old.held.room ≤ w.held.room
    → (k : ℕ) (x : Writer) → ((k ≡ i) × (Some w ≡ Some x)) ⊎ ((k ≢ i) × (slice_get ws k ≡ Some x)) → HadWriter ws k x
writer-by ws i old w at topic held room k x (inl own) =
    let is : w ≡ x = (let e = own.1 in cc) in
    subst (λ (z : Writer). HadWriter ws k z) is (record { was = old; at = subst (λ (n : ℕ). slice_get ws n ≡ Some old) (sym own.0) at; topic = topic; held = held; room = room })
writer-by ws i old w at topic held room k x (inr other) = record { was = x; at = other.1; topic = refl; held = omega arith; room = omega arith }

pub put-writers : (ws now : List Writer) (i : ℕ) (old w : Writer) → slice_get ws i ≡ Some old → w.topic ≡ old.topic → length w.held.items ≤ length old.held.items → old.held.room ≤ w.held.room → now ≡ set ws i w → HadWriters ws now
put-writers ws now i old w at topic held room put k x there = writer-by ws i old w at topic held room k x (get-set ws i w k x (ap (λ (l : List Writer). slice_get l k) (sym put) ∙ there))

pub same-topics : (xs now : List Trimmed) → now ≡ xs → HadTopics xs now
same-topics xs now same t x at = record { was = x; at = ap (λ (l : List Trimmed). slice_get l t) (sym same) ∙ at; room = omega arith }

topic-by : (xs : List Trimmed) (t : ℕ) (old y : Trimmed) → slice_get xs t ≡ Some old → old.room ≤ y.room → (k : ℕ) (x : Trimmed) → ((k ≡ t) × (Some y ≡ Some x)) ⊎ ((k ≢ t) × (slice_get xs k ≡ Some x)) → HadTopic xs k x
topic-by xs t old y at room k x (inl own) =
    let is : y ≡ x = (let e = own.1 in cc) in
    subst (λ (z : Trimmed). HadTopic xs k z) is (record { was = old; at = subst (λ (n : ℕ). slice_get xs n ≡ Some old) (sym own.0) at; room = room })
topic-by xs t old y at room k x (inr other) = record { was = x; at = other.1; room = omega arith }

pub put-topics : (xs now : List Trimmed) (t : ℕ) (old y : Trimmed) → slice_get xs t ≡ Some old → old.room ≤ y.room → now ≡ set xs t y → HadTopics xs now
put-topics xs now t old y at room put k x there = topic-by xs t old y at room k x (get-set xs t y k x (ap (λ (l : List Trimmed). slice_get l k) (sym put) ∙ there))

pub few-none : (w old : Writer) → w.held.items ≡ [] → length w.held.items ≤ length old.held.items
few-none w old none = let e : length w.held.items ≡ 0 = ap (λ (l : List Held). length l) none in omega arith

pub few-same : (w old : Writer) → w.held.items ≡ old.held.items → length w.held.items ≤ length old.held.items
few-same w old same = let e : length w.held.items ≡ length old.held.items = ap (λ (l : List Held). length l) same in omega arith

-- ---- room

-- what a topic needs, and what the last entry used up, is as it was
abbrev pub SameNeeds : Store → Store → Type 0
SameNeeds s new = (new.needed.items ≡ s.needed.items) × ((new.used_writer ≡ s.used_writer) × (new.used_topic ≡ s.used_topic))

pub room-stays : (s new : Store) → HasRoomBut s → HadWriters s.writers.items new.writers.items → HadTopics s.topics.items new.topics.items → SameNeeds s new → HasRoomBut new
room-stays s new room writers topics needs = record {
  writers = λ i w at other.
      let had = writers i w at in
      let was = room.writers i had.was had.at (λ e. other (e ∙ sym needs.1.0)) in
      let more = had.room in
      omega arith;
  topics = λ t x at other.
      let had = topics t x at in
      let was = room.topics t had.was had.at (λ e. other (e ∙ sym needs.1.1)) in
      let more = had.room in
      subst (λ (ns : List ℕ). get_or ns t 0 ≤ x.room) (sym needs.0) (omega arith);
  needed = λ i w at.
      let had = writers i w at in
      let was = room.needed i had.was had.at in
      let few = had.held in
      subst (λ (ns : List ℕ). length w.held.items < get_or ns w.topic 0) (sym needs.0)
      (subst (λ (t : ℕ). length w.held.items < get_or s.needed.items t 0) (sym had.topic) (omega arith));
}

pub room-put : (s new : Store) (i : ℕ) (old w : Writer) → HasRoomBut s → slice_get s.writers.items i ≡ Some old → w.topic ≡ old.topic → length w.held.items ≤ length old.held.items → old.held.room ≤ w.held.room
    → new.writers.items ≡ set s.writers.items i w → HadTopics s.topics.items new.topics.items → SameNeeds s new → HasRoomBut new
room-put s new i old w room at topic held more writers topics needs =
    room-stays s new room (put-writers s.writers.items new.writers.items i old w at topic held more writers) topics needs

-- where there is room, it stays
pub all-stays : (s new : Store) → HasRoom s → HadWriters s.writers.items new.writers.items → HadTopics s.topics.items new.topics.items → new.needed.items ≡ s.needed.items → HasRoom new
all-stays s new room writers topics needed = record {
  writers = λ i w at.
      let had = writers i w at in
      let was = room.writers i had.was had.at in
      let more = had.room in
      omega arith;
  topics = λ t x at.
      let had = topics t x at in
      let was = room.topics t had.was had.at in
      let more = had.room in
      subst (λ (ns : List ℕ). get_or ns t 0 ≤ x.room) (sym needed) (omega arith);
}

-- what the last entry used up is there again
back-writer : (s new : Store) → HasRoomBut s → HadWriters s.writers.items new.writers.items → ((w : Writer) → slice_get new.writers.items s.used_writer ≡ Some w → 0 < w.held.room)
    → (i : ℕ) (w : Writer) → slice_get new.writers.items i ≡ Some w → (b : Bool) → (i == s.used_writer) ≡ b → 0 < w.held.room
back-writer s new room writers own i w at true is = own w (subst (λ (n : ℕ). slice_get new.writers.items n ≡ Some w) (eqb-true i s.used_writer is) at)
back-writer s new room writers own i w at false is =
    let had = writers i w at in
    let was = room.writers i had.was had.at (λ e. absurd (let same = eq-eqb i s.used_writer e in cc)) in
    let more = had.room in
    omega arith

back-topic : (s new : Store) → HasRoomBut s → HadTopics s.topics.items new.topics.items → ((x : Trimmed) → slice_get new.topics.items s.used_topic ≡ Some x → get_or s.needed.items s.used_topic 0 ≤ x.room)
    → (t : ℕ) (x : Trimmed) → slice_get new.topics.items t ≡ Some x → (b : Bool) → (t == s.used_topic) ≡ b → get_or s.needed.items t 0 ≤ x.room
back-topic s new room topics own t x at true is =
    let same = eqb-true t s.used_topic is in
    subst (λ (n : ℕ). get_or s.needed.items n 0 ≤ x.room) (sym same) (own x (subst (λ (n : ℕ). slice_get new.topics.items n ≡ Some x) same at))
back-topic s new room topics own t x at false is =
    let had = topics t x at in
    let was = room.topics t had.was had.at (λ e. absurd (let same = eq-eqb t s.used_topic e in cc)) in
    let more = had.room in
    omega arith

pub room-back : (s new : Store) → HasRoomBut s → HadWriters s.writers.items new.writers.items → HadTopics s.topics.items new.topics.items → new.needed.items ≡ s.needed.items
    → ((w : Writer) → slice_get new.writers.items s.used_writer ≡ Some w → 0 < w.held.room) → ((x : Trimmed) → slice_get new.topics.items s.used_topic ≡ Some x → get_or s.needed.items s.used_topic 0 ≤ x.room)
    → HasRoom new
room-back s new room writers topics needed own_writer own_topic = record {
  writers = λ i w at. back-writer s new room writers own_writer i w at (i == s.used_writer) refl;
  topics = λ t x at. subst (λ (ns : List ℕ). get_or ns t 0 ≤ x.room) (sym needed) (back-topic s new room topics own_topic t x at (t == s.used_topic) refl);
}

-- a sample was taken in by a writer of a topic, and used up their room
pub record IsUsed (s new : Store) (i : ℕ) (w : Writer) (t : ℕ) : Type 0 where
  pub writer : new.used_writer ≡ i
  pub topic : new.used_topic ≡ t
  pub own : length w.held.items < get_or new.needed.items t 0
  pub stays : (k : ℕ) → get_or s.needed.items k 0 ≤ get_or new.needed.items k 0
  pub others : (k : ℕ) → k ≢ t → get_or new.needed.items k 0 ≡ get_or s.needed.items k 0

took-writer : (s new : Store) (i : ℕ) (w : Writer) (t : ℕ) → HasRoom s → IsUsed s new i w t → (k : ℕ) (x : Writer) → k ≢ new.used_writer → ((k ≡ i) × (Some w ≡ Some x)) ⊎ ((k ≢ i) × (slice_get s.writers.items k ≡ Some x)) → 0 < x.held.room
took-writer s new i w t has used k x other (inl own) = absurd (other (own.0 ∙ sym used.writer))
took-writer s new i w t has used k x other (inr rest) = has.writers k x rest.1

took-topic : (s new : Store) (i : ℕ) (w : Writer) (t : ℕ) (y : Trimmed) → HasRoom s → IsUsed s new i w t → (k : ℕ) (x : Trimmed) → k ≢ new.used_topic → ((k ≡ t) × (Some y ≡ Some x)) ⊎ ((k ≢ t) × (slice_get s.topics.items k ≡ Some x))
    → get_or new.needed.items k 0 ≤ x.room
took-topic s new i w t y has used k x other (inl own) = absurd (other (own.0 ∙ sym used.topic))
took-topic s new i w t y has used k x other (inr rest) =
    let was = has.topics k x rest.1 in
    let same = used.others k rest.0 in
    omega arith

took-needed : (s new : Store) (i : ℕ) (w : Writer) (t : ℕ) → HasRoomBut s → w.topic ≡ t → IsUsed s new i w t → (k : ℕ) (x : Writer) → ((k ≡ i) × (Some w ≡ Some x)) ⊎ ((k ≢ i) × (slice_get s.writers.items k ≡ Some x))
    → length x.held.items < get_or new.needed.items x.topic 0
took-needed s new i w t room topic used k x (inl own) =
    let is : w ≡ x = (let e = own.1 in cc) in
    subst (λ (z : Writer). length z.held.items < get_or new.needed.items z.topic 0) is (subst (λ (n : ℕ). length w.held.items < get_or new.needed.items n 0) (sym topic) used.own)
took-needed s new i w t room topic used k x (inr rest) =
    let was = room.needed k x rest.1 in
    let more = used.stays x.topic in
    omega arith

pub room-took : (s new : Store) (i : ℕ) (w : Writer) (t : ℕ) (y : Trimmed) → HasRoomBut s → HasRoom s → w.topic ≡ t → new.writers.items ≡ set s.writers.items i w → new.topics.items ≡ set s.topics.items t y → IsUsed s new i w t → HasRoomBut new
room-took s new i w t y room has topic writers topics used = record {
  writers = λ k x at other. took-writer s new i w t has used k x other (get-set s.writers.items i w k x (ap (λ (l : List Writer). slice_get l k) (sym writers) ∙ at));
  topics = λ k x at other. took-topic s new i w t y has used k x other (get-set s.topics.items t y k x (ap (λ (l : List Trimmed). slice_get l k) (sym topics) ∙ at));
  needed = λ k x at. took-needed s new i w t room topic used k x (get-set s.writers.items i w k x (ap (λ (l : List Writer). slice_get l k) (sym writers) ∙ at));
}

-- ---- the beginning

pub topic-within : (v : View) (ws : List Writer) (i : ℕ) (w : Writer) → IsSound v → map line_of ws ≡ v.writers → slice_get ws i ≡ Some w → w.topic < length v.topics
topic-within v ws i w sound is at =
    let here : slice_get v.writers i ≡ Some (line_of w) = ap (λ (l : List KeptWriter). slice_get l i) (sym is) ∙ get-map line_of ws i ∙ ap (λ (o : Option Writer). option_map line_of o) at in
    subst (λ (l : KeptWriter). l.topic < length v.topics) (get_or_from_slice_get v.writers i (line_of w) (line_of w) here)
    (All-get_or (λ (l : KeptWriter). l.topic < length v.topics) v.writers i (line_of w) (slice_get_within v.writers i (line_of w) here) sound.writer_topics)

within-by : (i k : ℕ) (b : Bool) → (i == k) ≡ b → i < k + 1 → (i ≡ k) ⊎ (i < k)
within-by i k true is lt = inl (eqb-true i k is)
within-by i k false is lt = inr (let other : i ≢ k = (λ e. absurd (let same = eq-eqb i k e in cc)) in omega (arith, lt, other))

-- each of the first, and one more
pub needed-more : (ns now : List ℕ) (ws : List Writer) (k n : ℕ) (v : Writer) → slice_get ws k ≡ Some v → ((i : ℕ) (w : Writer) → i < k → slice_get ws i ≡ Some w → w.topic < n → length w.held.items < get_or ns w.topic 0)
    → ((t : ℕ) → get_or ns t 0 ≤ get_or now t 0) → (v.topic < n → length v.held.items < get_or now v.topic 0)
    → (i : ℕ) (w : Writer) → i < k + 1 → slice_get ws i ≡ Some w → w.topic < n → length w.held.items < get_or now w.topic 0
needed-more ns now ws k n v here before stays own i w lt at low = by (within-by i k (i == k) refl lt)
  where
    by : (i ≡ k) ⊎ (i < k) → length w.held.items < get_or now w.topic 0
    by (inl same) =
        let one : Some v ≡ Some w = sym here ∙ ap (λ (j : ℕ). slice_get ws j) (sym same) ∙ at in
        let is : v ≡ w = cc in
        subst (λ (z : Writer). z.topic < n → length z.held.items < get_or now z.topic 0) is own low
    by (inr less) =
        let was = before i w less at low in
        let more = stays w.topic in
        omega arith

pub room-more : (ns : List ℕ) (xs now : List Trimmed) (k n : ℕ) → n ≡ get_or ns k 0 → HadTopics xs now → ((x : Trimmed) → slice_get now k ≡ Some x → n ≤ x.room) → ((t : ℕ) (x : Trimmed) → t < k → slice_get xs t ≡ Some x → get_or ns t 0 ≤ x.room)
    → (t : ℕ) (x : Trimmed) → t < k + 1 → slice_get now t ≡ Some x → get_or ns t 0 ≤ x.room
room-more ns xs now k n is stays own before t x lt at = by (within-by t k (t == k) refl lt)
  where
    by : (t ≡ k) ⊎ (t < k) → get_or ns t 0 ≤ x.room
    by (inl same) =
        let le : n ≤ x.room = own x (subst (λ (j : ℕ). slice_get now j ≡ Some x) same at) in
        subst (λ (j : ℕ). get_or ns j 0 ≤ x.room) (sym same) (subst (λ (m : ℕ). m ≤ x.room) is le)
    by (inr less) =
        let had = stays t x at in
        let was = before t had.was less had.at in
        let more = had.room in
        omega arith

pub spare-more : (ws now : List Writer) (k : ℕ) → HadWriters ws now → ((w : Writer) → slice_get now k ≡ Some w → 0 < w.held.room) → ((i : ℕ) (w : Writer) → i < k → slice_get ws i ≡ Some w → 0 < w.held.room)
    → (i : ℕ) (w : Writer) → i < k + 1 → slice_get now i ≡ Some w → 0 < w.held.room
spare-more ws now k stays own before i w lt at = by (within-by i k (i == k) refl lt)
  where
    by : (i ≡ k) ⊎ (i < k) → 0 < w.held.room
    by (inl same) = own w (subst (λ (j : ℕ). slice_get now j ≡ Some w) same at)
    by (inr less) =
        let had = stays i w at in
        let was = before i had.was less had.at in
        let more = had.room in
        omega arith

-- what is written is what stands there
pub set-is : {X : Type 0} (xs : List X) (i : ℕ) (y x : X) → i < length xs → slice_get (set xs i y) i ≡ Some x → y ≡ x
set-is xs i y x lt at = let own = get-own xs i y lt in cc

pub ok-then : {T E P Q : Type 0} (r : Result T E) → OnOk r P → (P → Q) → OnOk r Q
ok-then (Ok v) p f = f p
ok-then (Err e) p f = tt

-- there is room for what a sample of a writer brings
pub roomy : (s : Store) (i : ℕ) (w : Writer) (x : Trimmed) → HasRoomBut s → HasRoom s → slice_get s.writers.items i ≡ Some w → slice_get s.topics.items w.topic ≡ Some x → (length w.held.items < x.room) × (0 < w.held.room)
roomy s i w x but has at there =
    let a = but.needed i w at in
    let b = has.topics w.topic x there in
    (omega arith, has.writers i w at)

-- ---- topics that get room

more-room : (t : ℕ) (h : History) (old y x : Trimmed) → y ≡ record old { room = y.room } → Some y ≡ Some x → IsTopic t h old → IsTopic t h x
more-room t h old y x is same was =
    let own : y ≡ x = (let e = same in cc) in
    subst (λ (z : Trimmed). IsTopic t h z) (sym is ∙ own) (record { stands = was.stands; early = was.early })

room-by : (xs : List Trimmed) (i : ℕ) (old y : Trimmed) (h : History) (t : ℕ) (x : Trimmed) → slice_get xs i ≡ Some old → y ≡ record old { room = y.room } → AreTopics xs h
    → ((t ≡ i) × (Some y ≡ Some x)) ⊎ ((t ≢ i) × (slice_get xs t ≡ Some x)) → IsTopic t h x
room-by xs i old y h t x here is are (inl own) = more-room t h old y x is own.1 (subst (λ (k : ℕ). IsTopic k h old) (sym own.0) (are i old here))
room-by xs i old y h t x here is are (inr other) = are t x other.1

pub topics-room : (xs : List Trimmed) (i : ℕ) (old y : Trimmed) (h : History) → slice_get xs i ≡ Some old → y ≡ record old { room = y.room } → AreTopics xs h → AreTopics (set xs i y) h
topics-room xs i old y h here is are t x at = room-by xs i old y h t x here is are (get-set xs i y t x at)

pub got-none : (xs : List Trimmed) → GotRoom xs xs
got-none xs = record { count = refl; topics = λ h are. are; stays = same-topics xs xs refl }

pub got-more : (xs ys zs : List Trimmed) → GotRoom xs ys → GotRoom ys zs → GotRoom xs zs
got-more xs ys zs first then = record {
  count = then.count ∙ first.count;
  topics = λ h are. then.topics h (first.topics h are);
  stays = λ t x at.
      let b = then.stays t x at in
      let a = first.stays t b.was b.at in
      let more = a.room in
      let most = b.room in
      record { was = a.was; at = a.at; room = omega arith };
}

pub got-at : (xs : List Trimmed) (i : ℕ) (old y : Trimmed) → slice_get xs i ≡ Some old → old.room ≤ y.room → y ≡ record old { room = y.room } → GotRoom xs (set xs i y)
got-at xs i old y here more is = record {
  count = length-set xs i y;
  topics = λ h are. topics-room xs i old y h here is are;
  stays = put-topics xs (set xs i y) i old y here more refl;
}
