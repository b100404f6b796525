-- What the texts of a base and of a record's body spell, or where they first break. A law says that these readings are the
-- grammar's.
use Rattle.std.specs.Prelude.{◌≡◌, ℕ, zero, suc, ◌-◌, ◌==◌, true, if◌then◌else◌, List, [], ◌∷◌, length, take, drop, Option, Some, Result, Ok, Err}
use Rattle.std.specs.Int.{w32}
use Rattle.dur_base.specs.Fields.{number}
use Rattle.dur_base.specs.declared.entry.Entry.{Entry}
use Rattle.dur_view.specs.declared.data.View.{View}
use Rattle.dur_view.specs.History.{History}
use Rattle.dur_record.specs.declared.version.Version.{Version}
use Rattle.dur_record.specs.declared.version.Version.TheVariants.{One, Two}
use Rattle.dur_record.specs.declared.field.Stop.{Stop}
use Rattle.dur_record.specs.declared.field.Stop.TheVariants.{Broken, OutOfMemory}
use Rattle.dur_record.specs.Run.{run}
use Rattle.dur_record.specs.Entries.{entry_row, with_entry}
use Rattle.dur_record.specs.Views.{view_row}

-- the version that an open file has at 9
unfoldable pub version_in : List ℕ → ℕ
version_in x = number true w32 (take 4 (drop 9 x))

-- the version of its texts
unfoldable pub version_of : List ℕ → Version
version_of x = if version_in x == 1 then One else Two

-- the place of a break in a text of that many octets
abbrev pub place_of : ℕ → Stop → ℕ
place_of len (Broken left kind) = len - left
place_of len OutOfMemory = len

-- a view, and that nothing follows it
abbrev pub alone : ℕ → View → List ℕ → Result View ℕ
alone len v [] = Ok v
alone len v (b ∷ rest) = Err (len - length (b ∷ rest))

abbrev pub whole_view : ℕ → Result (View × List ℕ) Stop → Result View ℕ
whole_view len (Ok r) = alone len r.0 r.1
whole_view len (Err stop) = Err (place_of len stop)

-- the view that a text spells, or the place where it first breaks
unfoldable pub view_in : Version → List ℕ → Result View ℕ
view_in version x = whole_view (length x) (run (view_row version) x)

abbrev pub before : Entry → Result (List Entry) ℕ → Result (List Entry) ℕ
before e (Ok es) = Ok (e ∷ es)
before e (Err at) = Err at

-- an entry, and what is read of the octets behind it
abbrev pub behind : ℕ → Result (Entry × List ℕ) Stop → (Entry × List ℕ → Result (List Entry) ℕ) → Result (List Entry) ℕ
behind len (Ok r) more = before r.0 (more r)
behind len (Err stop) more = Err (place_of len stop)

-- entries one after the other up to the end of a text of len octets, at most so many
abbrev pub each_in : ℕ → ℕ → Version → Option History → List ℕ → Result (List Entry) ℕ
each_in len n version past [] = Ok []
each_in len zero version past (b ∷ x) = Err len
each_in len (suc n) version past (b ∷ x) =
    behind len (run (entry_row version past) (b ∷ x)) (λ r. each_in len n version (with_entry past r.0) r.1)

-- The entries that a text spells after a history that they follow, or the place where it first breaks. An entry that does
-- not follow breaks at the field that says so.
unfoldable pub entries_in : Version → History → List ℕ → Result (List Entry) ℕ
entries_in version h x = each_in (length x) (length x) version (Some h) x
