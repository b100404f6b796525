-- One entry more in the store: a skip, a loss, a sample, by what became of each part. And a sample that is not taken in.
use Rattle.std.proofs.Common.{◌≡◌, ℕ, zero, suc, ◌+◌, ◌≤◌, max, Option, Some, Result, Ok, Err, OnOk, OnErr, List, [], ◌∷◌, map, length, refl, sym, ap, ◌∙◌, subst, arith}
use Rattle.std.specs.Prelude.{slice_get, option_map}
use Rattle.std.proofs.Math.ListN.{set}
use Rattle.dur_base.specs.declared.sample.Sample.{Sample}
use Rattle.dur_base.specs.declared.sample.SetMark.{SetMark}
use Rattle.dur_base.specs.declared.entry.Entry.{Entry}
use Rattle.dur_base.specs.declared.entry.Entry.TheVariants.{Took, Skip, Lost}
use Rattle.dur_view.specs.Identities.{Guid}
use Rattle.dur_view.specs.declared.data.Held.{Held}
use Rattle.dur_view.specs.declared.data.KeptWriter.{KeptWriter}
use Rattle.dur_view.specs.declared.change.TopicEvent.{TopicEvent}
use Rattle.dur_view.specs.declared.change.TopicEvent.TheVariants.{Gone}
use Rattle.dur_view.specs.History.{History, ◌▸◌, start, moment, next, held, brings, joined, Follows}
use Rattle.dur_view.specs.Past.{Past, past, ◌▹◌, ◌▹▹◌}
use Rattle.dur_view.specs.View.{line_after}
use Rattle.dur_instances.specs.Trimmed.{Trimmed}
use Rattle.dur_instances.specs.Stands.{Stands as Tells}
use Rattle.dur_sets.specs.declared.effect.Effect.{Effect as Answer}
use Rattle.dur_sets.specs.Tells.{Tells as AreTold}
use Rattle.dur_sets.specs.Stands.{StandFor}
use Rattle.dur_sets.specs.declared.sets.Sets.{Sets}
use Rattle.dur_store.specs.declared.store.Store.{Store}
use Rattle.dur_store.specs.declared.writer.Writer.{Writer}
use Rattle.dur_store.specs.Keeps.{Keeps}
use Rattle.dur_store.specs.Parts.{line_of, IsTopic, AreTopics}
use Rattle.dur_store.specs.Places.{guids, found, IsPlace}
use Rattle.dur_store.specs.Taking.{TakesIn}
use Rattle.dur_store.proofs.Writers.{Kept, kept-at}
use Rattle.dur_store.specs.Room.{HasRoom}
use Rattle.dur_store.specs.Spare.{HadWriters, HadTopics}
use Rattle.dur_store.proofs.Rooms.{SameNeeds, IsUsed, room-stays, room-put, room-took, few-none, few-same, same-topics, put-writers, put-topics, topics-room}
use Rattle.dur_store.proofs.Steps.{length-set, own-brings, keeps-step, keeps-quiet, skip-none, skip-line, lost-line, took-line}

-- the line of the writer that is kept at a place
pub line-at : (ws : List Writer) (h : History) (i : ℕ) (w : Guid) (x : Writer) (kept : Kept ws h i w) → slice_get ws i ≡ Some x → line_of x ≡ line_after h kept.at.line
line-at ws h i w x kept at =
    let e : Some (line_of x) ≡ Some (line_after h kept.at.line) = sym (ap (λ (o : Option Writer). option_map line_of o) at) ∙ kept.one in
    cc

-- Numbers of the writer at a place are passed over.
pub keeps-skip : (s new : Store) (h : History) (m : ℕ) (u : Guid) (from to i : ℕ) (old w : Writer) → Keeps s h → Follows h (Skip m u from to)
    → found s.index u ≡ Some i → slice_get s.writers.items i ≡ Some old → line_of w ≡ record (line_of old) { next = to + 1; held = [] }
    → ((line : KeptWriter) → slice_get (start h).writers i ≡ Some line → StandFor new.sets (h ▸ Skip m line.guid from to))
    → new.outline ≡ record s.outline { last = m } → new.writers.items ≡ set s.writers.items i w → ((g : Guid) → found new.index g ≡ found s.index g) → new.topics.items ≡ s.topics.items
    → old.held.room ≤ w.held.room → SameNeeds s new → Keeps new (h ▸ Skip m u from to)
keeps-skip s new h m u from to i old w keeps follows place lent line sets outline writers index topics more needs =
    let kept = kept-at s.writers.items h i u (found s.index u) keeps.writers keeps.history (keeps.index u) place in
    let same = line-at s.writers.items h i u old kept lent in
    keeps-quiet s new h (Skip m u from to) i w kept.at keeps follows outline writers (line ∙ skip-line h m u from to kept.at.line (line_of old) kept.at.guid same) index
    (subst (λ (g : Guid). StandFor new.sets (h ▸ Skip m g from to)) kept.at.guid (sets kept.at.line kept.at.at)) topics (skip-none h m u from to)
    (room-put s new i old w keeps.room lent (ap (λ (l : KeptWriter). l.topic) line) (few-none w old (ap (λ (l : KeptWriter). l.held) line)) more writers (same-topics s.topics.items new.topics.items topics) needs)

-- what two readings of one place give
pub one-got : {X : Type 0} (xs : List X) (i : ℕ) (x y : X) → slice_get xs i ≡ Some x → slice_get xs i ≡ Some y → x ≡ y
one-got xs i x y a b = cc

pub on-err : {T E P : Type 0} (r : Result T E) → P → OnErr r P
on-err (Ok v) p = tt
on-err (Err e) p = p

-- an entry that is a skip is appended as one
pub restored-skip : {E : Type 0} (r : Result (Unit {0}) E) (s new : Store) (e : Entry) (m : ℕ) (u : Guid) (from to : ℕ) → e ≡ Skip m u from to
    → OnOk r ((h : History) (k : ℕ) → Keeps s h → Follows h (Skip m u k to) → Keeps new (h ▸ Skip m u k to)) → OnOk r ((h : History) → Keeps s h → Follows h e → Keeps new (h ▸ e))
restored-skip (Ok v) s new e m u from to is step = λ h keeps follows. subst (λ (x : Entry). Keeps new (h ▸ x)) (sym is) (step h from keeps (subst (Follows h) is follows))
restored-skip (Err e2) s new e m u from to is step = tt

-- the topic of the writer at a place
record OwnTopic (h : History) (m t : ℕ) (x : Trimmed) : Type 0 where
  was : IsTopic t h x
  -- the later moment is that of the entry
  now : max m x.last ≡ m

own-topic : (s : Store) (h : History) (m t : ℕ) (x : Trimmed) → Keeps s h → moment h ≤ m → slice_get s.topics.items t ≡ Some x → OwnTopic h m t x
own-topic s h m t x keeps later at =
    let was = keeps.topics t x at in
    let early = was.early in
    record { was = was; now = omega arith }

-- The writer at a place is lost.
pub keeps-lost : (s new : Store) (h : History) (m : ℕ) (u : Guid) (i : ℕ) (old w : Writer) (x y : Trimmed) → Keeps s h → Follows h (Lost m u)
    → found s.index u ≡ Some i → slice_get s.writers.items i ≡ Some old → slice_get s.topics.items old.topic ≡ Some x → line_of w ≡ record (line_of old) { held = [] }
    → ((p : Past) → Tells x p → Tells y (p ▹ Gone (max m x.last) i)) → y.last ≡ max m x.last
    → ((line : KeptWriter) → slice_get (start h).writers i ≡ Some line → StandFor new.sets (h ▸ Lost m line.guid))
    → new.outline ≡ record s.outline { last = m } → new.writers.items ≡ set s.writers.items i w → ((g : Guid) → found new.index g ≡ found s.index g) → new.topics.items ≡ set s.topics.items old.topic y
    → old.held.room ≤ w.held.room → x.room ≤ y.room → SameNeeds s new → Keeps new (h ▸ Lost m u)
keeps-lost s new h m u i old w x y keeps follows place lent there line step last sets outline writers index topics more wide needs =
    let kept = kept-at s.writers.items h i u (found s.index u) keeps.writers keeps.history (keeps.index u) place in
    let same = line-at s.writers.items h i u old kept lent in
    let topic : old.topic ≡ kept.at.line.topic = ap (λ (l : KeptWriter). l.topic) same in
    let t = kept.at.line.topic in
    let own = own-topic s h m t x keeps follows.later (subst (λ (k : ℕ). slice_get s.topics.items k ≡ Some x) topic there) in
    let is = own.now in
    let stands : Tells y (past t h ▹ Gone m i) = subst (λ (k : ℕ). Tells y (past t h ▹ Gone k i)) is (step (past t h) own.was.stands) in
    keeps-step s new h (Lost m u) i w y kept.at keeps follows outline writers (line ∙ lost-line h m u kept.at.line (line_of old) kept.at.guid same) index
    (subst (λ (g : Guid). StandFor new.sets (h ▸ Lost m g)) kept.at.guid (sets kept.at.line kept.at.at))
    (topics ∙ ap (λ (k : ℕ). set s.topics.items k y) topic)
    (record { stands = subst (λ (es : List TopicEvent). Tells y (past t h ▹▹ es)) (sym (own-brings h (Lost m u) i kept.at)) stands; early = omega arith })
    (room-put s new i old w keeps.room lent (ap (λ (l : KeptWriter). l.topic) line) (few-none w old (ap (λ (l : KeptWriter). l.held) line)) more writers
    (put-topics s.topics.items new.topics.items old.topic x y there wide topics) needs)

-- A sample of the writer at a place is taken in.
pub keeps-took : (s new : Store) (h : History) (m : ℕ) (u : Guid) (n : ℕ) (sample : Sample) (i : ℕ) (old w : Writer) (x y : Trimmed) (answer : Answer) (mark : SetMark) → Keeps s h → Follows h (Took m u n sample)
    → found s.index u ≡ Some i → slice_get s.writers.items i ≡ Some old → slice_get s.topics.items old.topic ≡ Some x → mark ≡ sample.set
    → ((line : KeptWriter) → slice_get (start h).writers i ≡ Some line → n ≡ next h line.guid → AreTold (held h line.guid) n mark answer)
    → (AreTold old.held.items n sample.set answer → TakesIn i (max m x.last) n sample old w x y)
    → ((line : KeptWriter) → slice_get (start h).writers i ≡ Some line → n ≡ next h line.guid → StandFor new.sets (h ▸ Took m line.guid n sample))
    → new.outline ≡ record s.outline { last = m } → new.writers.items ≡ set s.writers.items i w → ((g : Guid) → found new.index g ≡ found s.index g) → new.topics.items ≡ set s.topics.items old.topic y
    → HasRoom s → IsUsed s new i w old.topic → Keeps new (h ▸ Took m u n sample)
keeps-took s new h m u n sample i old w x y answer mark keeps follows place lent there marked tells takes sets outline writers index topics has used =
    let kept = kept-at s.writers.items h i u (found s.index u) keeps.writers keeps.history (keeps.index u) place in
    let line = kept.at.line in
    let same = line-at s.writers.items h i u old kept lent in
    let guid : old.guid ≡ u = ap (λ (l : KeptWriter). l.guid) same ∙ kept.at.guid in
    let members : old.held.items ≡ held h line.guid = ap (λ (l : KeptWriter). l.held) same in
    let topic : old.topic ≡ line.topic = ap (λ (l : KeptWriter). l.topic) same in
    let t = line.topic in
    let own = own-topic s h m t x keeps follows.later (subst (λ (k : ℕ). slice_get s.topics.items k ≡ Some x) topic there) in
    let number : n ≡ next h line.guid = follows.number ∙ ap (λ (g : Guid). next h g) (sym kept.at.guid) in
    let told : AreTold old.held.items n sample.set answer =
    subst (λ (k : SetMark). AreTold old.held.items n k answer) marked (subst (λ (l : List Held). AreTold l n mark answer) (sym members) (tells line kept.at.at number)) in
    let taken : TakesIn i m n sample old w x y = subst (λ (k : ℕ). TakesIn i k n sample old w x y) own.now (takes told) in
    let joins : joined sample.set record { number = n; moment = m; sample = sample } old.held.items ≡ joined sample.set record { number = n; moment = m; sample = sample } (held h line.guid) =
    ap (λ (l : List Held). joined sample.set record { number = n; moment = m; sample = sample } l) members in
    let stands : Tells y (past t h ▹▹ brings i (held h u) (Took m u n sample)) =
    subst (λ (g : Guid). Tells y (past t h ▹▹ brings i (held h u) (Took m g n sample))) guid
    (subst (λ (l : List Held). Tells y (past t h ▹▹ brings i l (Took m old.guid n sample))) (members ∙ ap (λ (g : Guid). held h g) kept.at.guid) (taken.stands (past t h) own.was.stands)) in
    keeps-step s new h (Took m u n sample) i w y kept.at keeps follows outline writers
    (taken.writer ∙ took-line h m u n sample line (line_of old) (joined sample.set record { number = n; moment = m; sample = sample } old.held.items) kept.at.guid same joins) index
    (subst (λ (g : Guid). StandFor new.sets (h ▸ Took m g n sample)) kept.at.guid (sets line kept.at.at number))
    (topics ∙ ap (λ (k : ℕ). set s.topics.items k y) topic)
    (record { stands = subst (λ (es : List TopicEvent). Tells y (past t h ▹▹ es)) (sym (own-brings h (Took m u n sample) i kept.at)) stands; early = taken.last })
    (room-took s new i w old.topic y keeps.room has (ap (λ (l : KeptWriter). l.topic) taken.writer) writers topics used)

-- what is put reads the same
pub same-put : {X Y : Type 0} (f : X → Y) (xs : List X) (i : ℕ) (old x : X) → slice_get xs i ≡ Some old → f x ≡ f old → map f (set xs i x) ≡ map f xs
same-put f [] i old x at same = refl
same-put f (z ∷ xs) zero old x at same =
    let is : z ≡ old = cc in
    ap (λ y. y ∷ map f xs) (same ∙ ap f (sym is))
same-put f (z ∷ xs) (suc i) old x at same = ap (λ ys. f z ∷ ys) (same-put f xs i old x at same)

-- Nothing that is told changed, and no room was lost.
pub keeps-rest : (s new : Store) (h : History) → Keeps s h → new.outline ≡ s.outline → map line_of new.writers.items ≡ map line_of s.writers.items → ((g : Guid) → found new.index g ≡ found s.index g) → new.sets ≡ s.sets
    → length new.topics.items ≡ length s.topics.items → AreTopics new.topics.items h → HadWriters s.writers.items new.writers.items → HadTopics s.topics.items new.topics.items → SameNeeds s new → Keeps new h
keeps-rest s new h keeps outline lines index sets count topics writers had needs = record {
  history = keeps.history;
  outline = outline ∙ keeps.outline;
  writers = lines ∙ keeps.writers;
  index = λ g. subst (IsPlace (guids (start h).writers) g) (sym (index g)) (keeps.index g);
  sets = subst (λ (l : Sets). StandFor l h) (sym sets) keeps.sets;
  count = count ∙ keeps.count;
  topics = topics;
  room = room-stays s new keeps.room writers had needs;
}

-- A writer that reads the same was put.
pub keeps-line : (s new : Store) (h : History) (i : ℕ) (old w : Writer) → Keeps s h → slice_get s.writers.items i ≡ Some old → line_of w ≡ line_of old → new.outline ≡ s.outline → new.writers.items ≡ set s.writers.items i w
    → ((g : Guid) → found new.index g ≡ found s.index g) → new.sets ≡ s.sets → new.topics.items ≡ s.topics.items → old.held.room ≤ w.held.room → SameNeeds s new → Keeps new h
keeps-line s new h i old w keeps lent line outline writers index sets topics more needs =
    keeps-rest s new h keeps outline (ap (λ (l : List Writer). map line_of l) writers ∙ same-put line_of s.writers.items i old w lent line) index sets (ap length topics)
    (subst (λ (l : List Trimmed). AreTopics l h) (sym topics) keeps.topics)
    (put-writers s.writers.items new.writers.items i old w lent (ap (λ (l : KeptWriter). l.topic) line) (few-same w old (ap (λ (l : KeptWriter). l.held) line)) more writers)
    (same-topics s.topics.items new.topics.items topics) needs

-- A writer and a topic were put that got room.
pub keeps-room : (s new : Store) (h : History) (i : ℕ) (old w : Writer) (t : ℕ) (x y : Trimmed) → Keeps s h → slice_get s.writers.items i ≡ Some old → line_of w ≡ line_of old → slice_get s.topics.items t ≡ Some x → y ≡ record x { room = y.room }
    → new.outline ≡ s.outline → new.writers.items ≡ set s.writers.items i w → ((g : Guid) → found new.index g ≡ found s.index g) → new.sets ≡ s.sets → new.topics.items ≡ set s.topics.items t y
    → old.held.room ≤ w.held.room → x.room ≤ y.room → SameNeeds s new → Keeps new h
keeps-room s new h i old w t x y keeps lent line there is outline writers index sets topics more wide needs =
    keeps-rest s new h keeps outline (ap (λ (l : List Writer). map line_of l) writers ∙ same-put line_of s.writers.items i old w lent line) index sets (ap length topics ∙ length-set s.topics.items t y)
    (subst (λ (l : List Trimmed). AreTopics l h) (sym topics) (topics-room s.topics.items t x y h there is keeps.topics))
    (put-writers s.writers.items new.writers.items i old w lent (ap (λ (l : KeptWriter). l.topic) line) (few-same w old (ap (λ (l : KeptWriter). l.held) line)) more writers)
    (put-topics s.topics.items new.topics.items t x y there wide topics) needs
