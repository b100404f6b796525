-- Where a change of a history comes from: its writer's sample, and the moment at which that arrived.
use Rattle.std.specs.Prelude.{◌≡◌, ◌⊎◌, Some, Any}
use Rattle.dur_base.specs.declared.entry.Entry.{Entry}
use Rattle.dur_base.specs.declared.entry.Entry.TheVariants.{Took, Skip, Lost}
use Rattle.dur_view.specs.declared.data.Held.{Held}
use Rattle.dur_view.specs.declared.data.Kept.{Kept}
use Rattle.dur_view.specs.declared.data.KeptWriter.{KeptWriter}
use Rattle.dur_view.specs.History.{History, start}
use Rattle.dur_view.specs.Past.{Made}
use Rattle.dur_view.specs.Extend.{entries_of}

-- the start keeps it, with this arrival or without one
abbrev pub IsKept : Made → Kept → Type 0
IsKept c k = (k.writer ≡ c.writer) × (k.number ≡ c.number) × (k.arrived ≡ c.arrived) × (k.sample ≡ c.sample)

-- the start holds it as a member of this writer's open set, since it was taken in
abbrev pub IsMember : Made → Held → Type 0
IsMember c x = (x.number ≡ c.number) × (Some x.moment ≡ c.arrived) × (x.sample ≡ c.sample)

abbrev pub IsHeld : Made → KeptWriter → Type 0
IsHeld c w = (w.guid ≡ c.writer) × Any (IsMember c) w.held

-- the entry took it in
abbrev pub IsTaken : Made → Entry → Type 0
IsTaken c (Took m w n s) = (w ≡ c.writer) × (n ≡ c.number) × (Some m ≡ c.arrived) × (s ≡ c.sample)
IsTaken c (Skip m w from to) = ⊥
IsTaken c (Lost m w) = ⊥

-- What the start says of a change that it keeps, or the moment of the change's own entry, before the start for a held member.
abbrev pub ComesFrom : History → Made → Type 0
ComesFrom h c = Any (IsKept c) (start h).kept ⊎ (Any (IsHeld c) (start h).writers ⊎ Any (IsTaken c) (entries_of h))
