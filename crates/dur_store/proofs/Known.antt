-- The writer of an entry that follows stands in the store, and its topic does.
use Rattle.std.proofs.Common.{◌≡◌, ℕ, ◌<◌, ◌≤◌, true, false, Some, None, length, ap, subst, arith}
use Rattle.std.specs.Prelude.{slice_get, is_some}
use Rattle.std.proofs.lemmas.List.Elements.{All-get_or}
use Rattle.std.proofs.lemmas.Option.{slice_get_past, slice_get_within, get_or_from_slice_get}
use Rattle.dur_view.specs.Identities.{Guid}
use Rattle.dur_view.specs.declared.data.KeptWriter.{KeptWriter}
use Rattle.dur_view.specs.History.{History, start}
use Rattle.dur_view.specs.Words.{stands, writer_line}
use Rattle.dur_store.specs.declared.store.Store.{Store}
use Rattle.dur_store.specs.declared.writer.Writer.{Writer}
use Rattle.dur_store.specs.Keeps.{Keeps}
use Rattle.dur_store.specs.Places.{guids, found, IsPlace}
use Rattle.dur_store.proofs.Places.{unknown}
use Rattle.dur_store.proofs.Writers.{kept-at, none-at}
use Rattle.dur_store.proofs.Wholes.{start-sound}
use Rattle.dur_store.proofs.Entries.{line-at}

pub none-known : (s : Store) (h : History) (u : Guid) → Keeps s h → stands (start h) u ≡ true → found s.index u ≡ None → ⊥
none-known s h u keeps known none =
    let line : writer_line (start h).writers u ≡ None = unknown (start h).writers u (subst (IsPlace (guids (start h).writers) u) none (keeps.index u)) in
    let other : stands (start h) u ≡ false = ap is_some line in
    absurd (cc)

pub place-known : (s : Store) (h : History) (u : Guid) (i : ℕ) → Keeps s h → found s.index u ≡ Some i → length s.writers.items ≤ i → ⊥
place-known s h u i keeps is le =
    none-at s.writers.items h i u (kept-at s.writers.items h i u (found s.index u) keeps.writers keeps.history (keeps.index u) is) (slice_get_past s.writers.items i le)

pub topic-known : (s : Store) (h : History) (u : Guid) (i : ℕ) (x : Writer) → Keeps s h → found s.index u ≡ Some i → slice_get s.writers.items i ≡ Some x → length s.topics.items ≤ x.topic → ⊥
topic-known s h u i x keeps is at le =
    let kept = kept-at s.writers.items h i u (found s.index u) keeps.writers keeps.history (keeps.index u) is in
    let topic : x.topic ≡ kept.at.line.topic = ap (λ (l : KeptWriter). l.topic) (line-at s.writers.items h i u x kept at) in
    let lines = (start h).writers in
    let lt : kept.at.line.topic < length (start h).topics =
    subst (λ (l : KeptWriter). l.topic < length (start h).topics) (get_or_from_slice_get lines i kept.at.line kept.at.line kept.at.at)
    (All-get_or (λ (l : KeptWriter). l.topic < length (start h).topics) lines i kept.at.line (slice_get_within lines i kept.at.line kept.at.at) (start-sound h keeps.history).writer_topics) in
    let count = keeps.count in
    absurd (omega arith)
