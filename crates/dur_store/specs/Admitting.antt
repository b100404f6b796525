-- What becomes of an entry that is handed to a store (DDS 2.2.3.19, RESOURCE_LIMITS).
use Rattle.std.specs.Prelude.{◌≡◌, ◌≢◌, Some, None, Result, Err, OnOk, OnErr, IfErr}
use Rattle.dur_base.specs.declared.entry.Entry.{Entry}
use Rattle.dur_view.specs.declared.limit.Limit.{Limit}
use Rattle.dur_view.specs.History.{History, ◌▸◌, Follows}
use Rattle.dur_view.specs.Refused.{refused}
use Rattle.dur_store.specs.declared.refuse.Refuse.{Refuse}
use Rattle.dur_store.specs.declared.refuse.Refuse.TheVariants.{OutOfMemory}
use Rattle.dur_store.specs.declared.store.Store.{Store}
use Rattle.dur_store.specs.Keeps.{Keeps}
use Rattle.dur_store.specs.Refusals.{refusal_for}
use Rattle.dur_store.specs.Room.{HasRoom}

-- where there is room, of an entry that follows a history that the store keeps
abbrev pub WhereRoom : Store → Entry → Type 0 → Type 0
WhereRoom s entry P = HasRoom s → (h : History) → Keeps s h → Follows h entry → P

-- Of an entry that follows each history that the store keeps.
pub record Admitting (old : Store) (entry : Entry) (new : Store) (r : Result (Unit {0}) (Refuse × Entry)) : Type 0 where
  -- it is admitted where it passes no limit: the store then keeps the history with it
  pub ok : OnOk r ((h : History) → Keeps old h → Follows h entry → Keeps new (h ▸ entry) × (refused h entry ≡ None))
  -- a refusal changes nothing
  pub err : OnErr r ((h : History) → Keeps old h → Keeps new h)
  -- and hands the entry back
  pub back : IfErr r (λ answer. answer.1 ≡ entry)
  -- it is refused for the first limit that it passes, where not for want of memory
  pub limit : (limit : Limit) (back : Entry) → r ≡ Err (refusal_for limit, back)
      → (h : History) → Keeps old h → Follows h entry → refused h entry ≡ Some limit
  -- where there is room, the next entry is not refused for want of memory
  pub memory : WhereRoom old entry (IfErr r (λ answer. answer.0 ≢ OutOfMemory))
