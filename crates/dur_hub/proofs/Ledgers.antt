-- The ledger, as entries are admitted.
use Rattle.std.proofs.Common.{◌≡◌, ℕ, ◌+◌, ◌%◌, ◌^◌, arith, length-append, ◌<◌, List, [], ◌∷◌, ◌++◌, length, ap, subst, ◌∙◌, sym, true, false, cond}
use Rattle.dur_base.specs.declared.entry.Entry.{Entry}
use Rattle.dur_view.specs.Extend.{entries_of}
use Rattle.dur_view.specs.History.{History, ◌▸◌, start, writer_of}
use Rattle.dur_store.specs.declared.store.Store.{Store}
use Rattle.dur_store.specs.Keeps.{Keeps}
use Rattle.dur_hub.specs.declared.queue.Queue.{Queue}
use Rattle.dur_hub.specs.declared.ledger.Ledger.{Ledger}
use Rattle.dur_view.specs.Stored.{stored, is_stored}
use Rattle.dur_hub.specs.Queues.{AllFull, Queued, SameMarks, LedgerAt}
use Rattle.dur_hub.proofs.Stored.{stored_one}

-- the same lists and counts are queued alike
pub same_queue : (q p : Queue) (t d : ℕ) (es : List Entry)
    → (p.full.items ≡ q.full.items) × (p.last.items ≡ q.last.items) × SameMarks q p
    → Queued q t d es → Queued p t d es
same_queue q p t d es same so = record {
  lined = record {
    pending = cc;
    full = subst (AllFull) (sym same.0) so.lined.full;
    unmarked = same.2.0 ∙ so.lined.unmarked;
    taken = same.2.1 ∙ so.lined.taken;
    durable = same.2.2 ∙ so.lined.durable;
    marked = so.lined.marked;
    handed = so.lined.handed;
  };
  last = subst (λ l. length l < 4096) (sym same.1) so.last;
}

one_more : (h : History) (e : Entry) (n k : ℕ) → n ≡ (k + 1) % 2 ^ 64
    → k ≡ length (entries_of h) % 2 ^ 64 → n ≡ length (entries_of (h ▸ e)) % 2 ^ 64
one_more h e n k more before = omega (arith, more, before, length-append (entries_of h) (e ∷ []))

-- an entry of a persistent topic was admitted and queued
pub admitted : (old : Ledger) (s : Store) (q r : Queue) (h : History) (t d n : ℕ) (e : Entry)
    → n ≡ (old.entries + 1) % 2 ^ 64 → old.entries ≡ length (entries_of h) % 2 ^ 64
    → Keeps s (h ▸ e) → true ≡ is_stored (start h) (writer_of e)
    → (q.full.items ≡ old.queue.full.items) × (q.last.items ≡ old.queue.last.items)
    × SameMarks old.queue q
    → Queued old.queue t d (stored h)
    → ((es : List Entry) → Queued q t d es → Queued r t d (es ++ e ∷ []))
    → LedgerAt (record { store = s; queue = r; entries = n }) (h ▸ e) t d
admitted old s q r h t d n e more before keeps is same so push = record {
  keeps = keeps;
  entries = one_more h e n old.entries more before;
  queued =
      subst (λ l. Queued r t d l)
      (sym (stored_one h e ∙ ap (λ b. cond b (stored h ++ e ∷ []) (stored h)) (sym is)))
      (push (stored h) (same_queue old.queue q t d (stored h) same so));
}

-- one of another topic
pub other_admitted : (s : Store) (q : Queue) (h : History) (t d n k : ℕ) (e : Entry)
    → n ≡ (k + 1) % 2 ^ 64 → k ≡ length (entries_of h) % 2 ^ 64 → Keeps s (h ▸ e)
    → false ≡ is_stored (start h) (writer_of e) → Queued q t d (stored h)
    → LedgerAt (record { store = s; queue = q; entries = n }) (h ▸ e) t d
other_admitted s q h t d n k e more before keeps is so = record {
  keeps = keeps;
  entries = one_more h e n k more before;
  queued =
      subst (λ l. Queued q t d l)
      (sym (stored_one h e ∙ ap (λ b. cond b (stored h ++ e ∷ []) (stored h)) (sym is))) so;
}
