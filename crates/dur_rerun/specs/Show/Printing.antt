-- The lines of a capture behind its plan, of which some octets have come.
use Rattle.std.specs.Prelude.{◌≡◌, ◌≢◌, ℕ, ◌+◌, ◌<◌, ◌≤◌, ◌^◌, Bool, true, false, List, [], ◌++◌, length, Some, None, Ok, Err}
use Rattle.std.specs.declared.result.Result.{Result}
use Rattle.dur_capture.specs.declared.record.Record.{Record}
use Rattle.dur_capture.specs.declared.fault.CapFault.{CapFault}
use Rattle.dur_capture.specs.Feeding.{Feeding, Waits, Breaks}
use Rattle.dur_capture.specs.Whole.{Feeds, CaptureWithin}
use Rattle.rtps_message.specs.declared.heard.Heard.{Heard}
use Rattle.rtps_message.specs.Messages.{Hears}
use Rattle.dur_rerun.specs.declared.show.printer.Printer.{Printer}
use Rattle.dur_rerun.specs.declared.status.Status.{Status}
use Rattle.dur_rerun.specs.declared.status.Status.TheVariants.{Done, OutOfMemory, Input, ReadFault, WriteFault}
use Rattle.dur_rerun.specs.Input.Breaks.{place_at}
use Rattle.dur_rerun.specs.Input.Records.{total}
use Rattle.dur_rerun.specs.Show.Line.{line, Shows}

-- ---- what is printed for the octets behind a plan

-- the text is the lines of all records, and the octets are these
pub record ShowsAll (own : List ℕ) (before : ℕ) (octets text : List ℕ) : Type 0 where
  pub records : List Record
  pub capture : CaptureWithin before octets records
  pub shows : Shows own 1 records text

-- it is the lines of the records that were read
pub record ShowsRead (own : List ℕ) (before : ℕ) (octets text : List ℕ) : Type 0 where
  pub records : List Record
  pub feed : Feeding
  pub read : Feeds before octets records feed
  pub shows : Shows own 1 records text

-- it is the lines of the records before the octets break off with this fault
pub record ShowsBreak (own : List ℕ) (before : ℕ) (octets text : List ℕ) (fault : CapFault) : Type 0 where
  pub records : List Record
  pub feed : Feeding
  pub read : Feeds before octets records feed
  pub breaks : Breaks feed true fault
  pub shows : Shows own 1 records text

-- the text for the octets, and the status
abbrev pub ShowsRest : List ℕ → ℕ → List ℕ → List ℕ → Status → Type 0
ShowsRest own before octets text Done = ShowsAll own before octets text
ShowsRest own before octets text (Input place fault) = (place_at fault ≡ Some place) × ShowsBreak own before octets text fault
ShowsRest own before octets text ReadFault = ShowsRead own before octets text
ShowsRest own before octets text OutOfMemory = ShowsRead own before octets text
ShowsRest own before octets text WriteFault = (text ≢ []) × ShowsRead own before octets text
ShowsRest own before octets text other = ⊥

-- with this status the printing of a capture ends
abbrev pub EndsRest : Status → Type 0
EndsRest Done = Unit {0}
EndsRest ReadFault = Unit {0}
EndsRest OutOfMemory = Unit {0}
EndsRest WriteFault = Unit {0}
EndsRest (Input place fault) = place_at fault ≡ Some place
EndsRest other = ⊥

-- ---- a printer

-- records were handed out, at least one where the room is full
pub record HandsOn (old new : Feeding) (full : Bool) : Type 0 where
  pub total_is : total new ≡ total old
  pub before_is : new.before ≡ old.before
  pub later : old.taken ≤ new.taken
  pub more : full ≡ true → old.taken < new.taken

-- no more records were printed than octets were handed out, and these lie within the limit
pub record IsCounted (p : Printer) : Type 0 where
  pub fewer : p.count ≤ p.feed.taken
  pub within : p.feed.before + p.feed.taken ≤ 2 ^ 40

-- nothing was printed yet
pub record IsFresh (p : Printer) : Type 0 where
  pub count : p.count ≡ 0
  pub held : p.held.items ≡ []
  pub taken : p.feed.taken ≡ 0
  pub sound : p.feed.fault ≡ None
  pub within : p.feed.before ≤ 2 ^ 40

-- the line of the next record is held beside what was held before
pub record HoldsLine (old : Printer) (r : Record) (new : Printer) : Type 0 where
  pub heard : Heard
  pub hears : Hears old.own r.bytes heard
  pub count : new.count ≡ old.count + 1
  pub held : new.held.items ≡ old.held.items ++ line new.count r heard
  pub own_is : new.own ≡ old.own
  pub feed_is : new.feed ≡ old.feed

-- it is not, and nothing is changed
pub record IsSame (old new : Printer) : Type 0 where
  pub count : new.count ≡ old.count
  pub held : new.held.items ≡ old.held.items
  pub own_is : new.own ≡ old.own
  pub feed_is : new.feed ≡ old.feed

-- the lines of all records that the feed has handed out are what was sent and what is held
pub record Holds (own : List ℕ) (before : ℕ) (octets sent : List ℕ) (p : Printer) : Type 0 where
  pub records : List Record
  pub text : List ℕ
  pub feeds : Feeds before octets records p.feed
  pub shows : Shows own 1 records text
  pub own_is : p.own ≡ own
  pub count_is : p.count ≡ length records
  pub text_is : text ≡ sent ++ p.held.items

-- where the status is that of a break, the feed breaks off so
abbrev pub BreaksBy : Feeding → Bool → Status → Type 0
BreaksBy f ended (Input place fault) = (place_at fault ≡ Some place) × Breaks f ended fault
BreaksBy f ended OutOfMemory = Unit {0}
BreaksBy f ended other = ⊥

-- the lines of the records before a break, or before memory ran out, are what was sent and what is held
pub record HoldsUpTo (own : List ℕ) (before : ℕ) (octets sent : List ℕ) (ended : Bool) (s : Status) (held : List ℕ) : Type 0 where
  pub records : List Record
  pub text : List ℕ
  pub feed : Feeding
  pub feeds : Feeds before octets records feed
  pub shows : Shows own 1 records text
  pub text_is : text ≡ sent ++ held
  pub breaks : BreaksBy feed ended s

-- the lines of the records that are whole are held, all of them unless the room for them is full
abbrev pub HoldsWhole : List ℕ → ℕ → List ℕ → List ℕ → Bool → Result Bool Status → Printer → Type 0
HoldsWhole own before octets sent ended (Ok full) p = Holds own before octets sent p × (full ≡ false → Waits p.feed ended)
HoldsWhole own before octets sent ended (Err s) p = HoldsUpTo own before octets sent ended s p.held.items

-- with this status the holding of lines ends early
abbrev pub EndsHolding : Status → Type 0
EndsHolding OutOfMemory = Unit {0}
EndsHolding (Input place fault) = place_at fault ≡ Some place
EndsHolding other = ⊥
