-- What the steps of reading a file say.
use Rattle.std.specs.Prelude.{◌≡◌, ◌≢◌, ℕ, ◌+◌, ◌≤◌, ◌^◌, true, List, ◌∷◌, ◌++◌, length, take, drop, Option, Some, None, Ok}
use Rattle.std.specs.Int.{w32}
use Rattle.dur_base.specs.Fields.{number}
use Rattle.dur_base.specs.declared.entry.Entry.{Entry}
use Rattle.dur_view.specs.History.{History}
use Rattle.dur_record.specs.declared.fault.TextFault.{TextFault}
use Rattle.dur_record.specs.declared.fault.TextFault.TheVariants.{Cut, BadTag, BadField, OutOfMemory}
use Rattle.std.specs.Prelude.{Result, Err}
use Rattle.dur_view.specs.declared.data.View.{View}
use Rattle.dur_view.specs.History.{Start, ◌+>◌, AllFollow}
use Rattle.dur_record.specs.declared.version.Version.{Version}
use Rattle.dur_journal.specs.Histories.{more, IsBase}
use Rattle.dur_journal.specs.Texts.{version_of, entries_in}
use Rattle.dur_journal.specs.declared.reading.Unread.{Unread}
use Rattle.dur_journal.specs.declared.reading.Unread.TheVariants as why
use Rattle.dur_journal.specs.declared.reading.FileHistory.{FileHistory}
use Rattle.dur_journal.specs.File.{Stored, records_text, Tells, FileText, base_length, gate_break, TextBreaks}

-- why a text was not read
abbrev pub unread_of : TextFault → Unread
unread_of (Cut at) = why.Breaks at
unread_of (BadTag at) = why.Breaks at
unread_of (BadField at) = why.Breaks at
unread_of OutOfMemory = why.OutOfMemory

-- the place where a text breaks is told, or memory was wanting
abbrev pub BreaksAt : {A : Type 0} → Result A ℕ → Unread → Type 0
BreaksAt read (why.Breaks at) = read ≡ Err at
BreaksAt read why.OutOfMemory = Unit {0}

-- the same of octets of which a text stands at the front
abbrev pub BreaksBy : Option ℕ → Unread → Type 0
BreaksBy breaks (why.Breaks at) = breaks ≡ Some at
BreaksBy breaks why.OutOfMemory = Unit {0}

-- what stands behind an open gate is a record of n octets in its body, which are these entries
pub record IsRecord (version : Version) (h : History) (x : List ℕ) (n : ℕ) (entries : List Entry) : Type 0 where
  pub whole : 4 + n ≤ length x
  pub counts : number true w32 (take 4 x) ≡ n
  pub bound : n ≤ 2 ^ 28
  pub spells : entries_in version h (take n (drop 4 x)) ≡ Ok entries

-- the history of a file that was read
abbrev pub history_of : FileHistory → History
history_of r = Start r.start +> r.entries

-- what an open file has was read
pub record IsRead (x : List ℕ) (generation : ℕ) (r : FileHistory) : Type 0 where
  pub rs : List Stored
  pub text : FileText x generation r.start rs (history_of r)
  pub records : r.records ≡ length rs
  pub base : r.base ≡ base_length x
  pub appended : r.appended ≡ length (records_text rs)

-- What was read may begin a history, and its entries follow. It has no more writers than a text of 2^30 octets.
pub record IsSoundRead (r : FileHistory) : Type 0 where
  pub base : IsBase r.start
  pub few : length r.start.writers ≤ 2 ^ 25
  pub follow : AllFollow (Start r.start) r.entries

-- records that spell, from a history on
pub record Goes (version : Version) (h : History) (x : List ℕ) (after : History) (count : ℕ) (rest : List ℕ) : Type 0 where
  pub rs : List Stored
  pub parts : x ≡ records_text rs ++ rest
  pub tells : Tells version h rs after
  pub counts : count ≡ length rs

-- and then a closed gate; the records have that many octets
pub record Ends (version : Version) (h : History) (x : List ℕ) (after : History) (count size : ℕ) : Type 0 where
  pub gate : ℕ
  pub rest : List ℕ
  pub goes : Goes version h x after count (gate ∷ rest)
  pub closed : gate ≢ 1
  pub ends : size + length (gate ∷ rest) ≡ length x

-- they break behind some records
pub record BreaksBehind (version : Version) (h : History) (x : List ℕ) (at : ℕ) : Type 0 where
  pub after : History
  pub count : ℕ
  pub rest : List ℕ
  pub inside : ℕ
  pub goes : Goes version h x after count rest
  pub breaks : gate_break version after rest ≡ Some inside
  pub place : at + length rest ≡ length x + inside

abbrev pub BreaksInside : Version → History → List ℕ → Unread → Type 0
BreaksInside version h x (why.Breaks at) = BreaksBehind version h x at
BreaksInside version h x why.OutOfMemory = Unit {0}

-- the place of a break is within so many octets, or at their end
abbrev pub IsInside : ℕ → Unread → Type 0
IsInside n (why.Breaks at) = at ≤ n
IsInside n why.OutOfMemory = Unit {0}

abbrev pub BreaksText : List ℕ → Unread → Type 0
BreaksText x (why.Breaks at) = TextBreaks x at
BreaksText x why.OutOfMemory = Unit {0}
