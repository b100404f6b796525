-- The admission: what is admitted of one writer's numbers, from its next one on, as far as they are known and not refused.
use Rattle.std.specs.Prelude.{◌≡◌, ℕ, ◌+◌, Some, None, List, [], ◌∷◌}
use Rattle.dur_base.specs.declared.sample.Sample.{Sample}
use Rattle.dur_base.specs.declared.entry.Entry.{Entry}
use Rattle.dur_base.specs.declared.entry.Entry.TheVariants.{Took, Skip, Lost}
use Rattle.dur_view.specs.Identities.{Guid}
use Rattle.dur_view.specs.History.{History, ◌▸◌, HasShortNumber}
use Rattle.dur_view.specs.Refused.{refused}
use Rattle.rel_reader.specs.declared.known.Known.TheVariants.{Unknown, With}
use Rattle.rel_reader.specs.Stories.{Story, next}
use Rattle.rel_reader.specs.KnownNumbers.{known}
use Rattle.rel_reader.specs.Skips.{IsSkip}
use Rattle.dur_hub.specs.declared.event.End.{End}
use Rattle.dur_hub.specs.declared.event.End.TheVariants.{Waits, Refuses, Stopped}
use Rattle.dur_hub.specs.Telling.{with_entry, with_entries, with_refusal}

-- This entry of the writer's next number: its sample where it is known with one, and else the longest range from it on of
-- numbers that are known without one.
abbrev pub IsNext : Story → Guid → ℕ → Entry → Type 0
IsNext s w m (Took at u k x) = (at ≡ m) × (u ≡ w) × (k ≡ next s) × (known s (next s) ≡ With x)
IsNext s w m (Skip at u from to) = (at ≡ m) × (u ≡ w) × (from ≡ next s) × IsSkip s (to + 1)
IsNext s w m (Lost at u) = ⊥

-- where it ends: before a number that is not known, at a sample that is refused, or anywhere for want of memory
abbrev pub Ends : Story → History → Guid → ℕ → End → Type 0
Ends s h w m Waits = known s (next s) ≡ Unknown
Ends s h w m (Refuses n limit) =
    (n ≡ next s)
    × ((x : Sample) × (known s (next s) ≡ With x) × (refused h (Took m w (next s) x) ≡ Some limit))
Ends s h w m Stopped = Unit {0}

-- The entries of a writer's numbers from its next one on, each once and in order, and where they end.
abbrev pub Handles : Story → History → Guid → ℕ → List Entry → End → Type 0
Handles s h w m [] end = Ends s h w m end
Handles s h w m (e ∷ es) end =
    IsNext s w m e × HasShortNumber e × (refused h e ≡ None)
    × Handles (with_entry s e) (h ▸ e) w m es end

-- the story after the handling ended: a refused number is not known any more
abbrev pub after_end : Story → End → Story
after_end s Waits = s
after_end s (Refuses n answer) = with_refusal s
after_end s Stopped = s

-- the story after these entries and this end
abbrev pub after_handling : Story → List Entry → End → Story
after_handling s es end = after_end (with_entries s es) end
