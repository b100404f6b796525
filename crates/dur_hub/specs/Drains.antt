-- What is ready of a writer goes into the ledger.
use Rattle.std.specs.Prelude.{◌≡◌, ℕ, ◌+◌, ◌≤◌, ◌<◌, ◌^◌, Bool, true, false, None, List}
use Rattle.dur_base.specs.declared.entry.Entry.{Entry}
use Rattle.dur_view.specs.Identities.{Guid}
use Rattle.dur_view.specs.Words.{stands}
use Rattle.dur_view.specs.History.{History, ◌▸◌, ◌+>◌, start, moment, next as next_in, HasShortNumber}
use Rattle.dur_view.specs.Refused.{refused}
use Rattle.rel_reader.specs.Stories.{Story, next}
use Rattle.rel_reader.specs.Windows.{Window, Fits, known_in}
use Rattle.rel_reader.specs.Knowledge.{is_unknown}
use Rattle.rel_reader.specs.Skips.{IsSkip}
use Rattle.dur_hub.specs.declared.drain.Turned.{Turned}
use Rattle.dur_hub.specs.declared.drain.Turned.TheVariants.{More, Done}
use Rattle.dur_hub.specs.declared.event.End.{End}
use Rattle.dur_hub.specs.declared.ledger.Ledger.{Ledger}
use Rattle.dur_hub.specs.Telling.{with_entry}
use Rattle.dur_hub.specs.Admission.{IsNext, Ends, Handles, after_end, after_handling}
use Rattle.dur_view.specs.Stored.{is_stored}
use Rattle.dur_hub.specs.GoodRuns.{MayTake, Tells}
use Rattle.dur_hub.specs.Queues.{LedgerAt}

-- a history to which a writer with this story may add at a moment
pub record MayAdd (h : History) (s : Story) (w : Guid) (stored : Bool) (m : ℕ) : Type 0 where
  pub stands : stands (start h) w ≡ true
  pub kind : stored ≡ is_stored (start h) w
  pub early : moment h ≤ m
  pub next : next s ≡ next_in h w
  pub samples : Tells (MayTake (start h) w) s

-- What one number does: its entry is admitted, and the next number grows and stays one; or the numbers end here.
abbrev pub Turns : Ledger → Window → Guid → Bool → ℕ → Turned → Ledger → Window → Type 0
Turns l p w stored m More l' p' =
    (p.next < p'.next) × (p'.next < 2 ^ 63)
    × (e : Entry)
    × ((h : History) (t d : ℕ) (s : Story) → LedgerAt l h t d → Fits p s → MayAdd h s w stored m →
    IsNext s w m e × HasShortNumber e × (refused h e ≡ None) × LedgerAt l' (h ▸ e) t d
    × Fits p' (with_entry s e))
Turns l p w stored m (Done end) l' p' =
    (h : History) (t d : ℕ) (s : Story) → LedgerAt l h t d → Fits p s → MayAdd h s w stored m →
    Ends s h w m end × LedgerAt l' h t d × Fits p' (after_end s end)

-- What the numbers of a writer do: these entries are admitted.
pub record Drains (l : Ledger) (p : Window) (w : Guid) (stored : Bool) (m : ℕ) (end : End) (l' : Ledger) (p' : Window) : Type 0 where
  pub entries : List Entry
  pub holds : (h : History) (t d : ℕ) (s : Story) → LedgerAt l h t d → Fits p s
      → MayAdd h s w stored m →
      Handles s h w m entries end × LedgerAt l' (h +> entries) t d
      × Fits p' (after_handling s entries end)

-- a skip of these numbers is ready
pub record IsReadySkip (p : Window) (from to : ℕ) : Type 0 where
  pub known : is_unknown (known_in p p.next) ≡ false
  pub skips : (s : Story) → Fits p s → (from ≡ next s) × IsSkip s (to + 1)
