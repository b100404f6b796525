-- Kept writers that are left behind, and what the first lease step does with them.
use Rattle.std.specs.Prelude.{◌≡◌, ℕ, ◌+◌, ◌<◌, ◌≤◌, ◌==◌, ◌&&◌, ◌||◌, not, if◌then◌else◌, Bool, true, false, List, [], ◌∷◌, map, take, drop, length}
use Rattle.dur_base.specs.declared.entry.Entry.TheVariants.{Lost}
use Rattle.std.specs.List.{list_any}
use Rattle.dur_qos.specs.declared.plan.Plan.{Plan}
use Rattle.dur_qos.specs.Plan.{has_writer}
use Rattle.dur_view.specs.Identities.{Guid}
use Rattle.dur_view.specs.declared.data.KeptWriter.{KeptWriter}
use Rattle.dur_view.specs.declared.data.Instance.{Instance}
use Rattle.dur_view.specs.declared.data.View.{View}
use Rattle.dur_view.specs.Words.{stands}
use Rattle.dur_view.specs.History.{History, ◌+>◌, start, moment}
use Rattle.dur_hub.specs.declared.ledger.Ledger.{Ledger}
use Rattle.dur_hub.specs.declared.left_behind.Leaver.{Leaver}
use Rattle.dur_hub.specs.Runs.{Run}
use Rattle.dur_view.specs.Stored.{is_stored}
use Rattle.dur_view.specs.Persistent.{is_persistent, passes_at}
use Rattle.dur_hub.specs.Leases.{is_empty, leavers}
use Rattle.dur_hub.specs.Queues.{LedgerAt}

-- what the hub keeps of a writer that is left behind
abbrev pub leaver_of : View → Guid → Leaver
leaver_of v g = record { guid = g; stored = is_stored v g }

-- these are kept of those that the first lease step still has to lose
abbrev pub AreLeaving : Run → List Leaver → Type 0
AreLeaving r leaving = r.begun ≡ false → leaving ≡ map (leaver_of (start r.history)) (leavers r)

-- whether the writer at a place is registered with a key of a view
abbrev pub is_registered_in : View → ℕ → Bool
is_registered_in v i =
    list_any (λ (line : Instance). list_any (λ r. r == i) line.registered) v.instances

-- What is kept of the writers that are left behind among those of a view from a place on.
abbrev pub left_from : Plan → View → ℕ → List KeptWriter → List Leaver
left_from plan v i [] = []
left_from plan v i (w ∷ ws) =
    if not (has_writer w.guid plan.writers) && (is_registered_in v i || not (is_empty w.held))
    then record { guid = w.guid; stored = passes_at is_persistent v.topics w.topic } ∷ left_from plan v (i + 1) ws
    else left_from plan v (i + 1) ws

-- each of these stands in the view
abbrev pub AllStand : View → List Guid → Type 0
AllStand v [] = Unit {0}
AllStand v (g ∷ gs) = (stands v g ≡ true) × AllStand v gs

-- all that leave were lost, or not all for want of memory
abbrev pub AreLost : Bool → ℕ → ℕ → Type 0
AreLost true count all = count ≡ all
AreLost false count all = count < all

-- The first so many of them are lost, and the others are left.
pub record LosesLeft (l : Ledger) (leaving : List Leaver) (m : ℕ) (done : Bool) (l' : Ledger) (leaving' : List Leaver) : Type 0 where
  pub count : ℕ
  pub left : leaving' ≡ drop count leaving
  pub lost : AreLost done count (length leaving)
  pub holds : (h : History) (t d : ℕ) (gs : List Guid) → LedgerAt l h t d
      → leaving ≡ map (leaver_of (start h)) gs
      → moment h ≤ m → AllStand (start h) gs → LedgerAt l' (h +> map (Lost m) (take count gs)) t d
