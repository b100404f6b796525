-- What is kept of one GUID, and what one announcement more changes in it.
use Rattle.std.specs.Prelude.{ℕ, Bool, true, false, Option, Some, None, nat_lt, if◌then◌else◌}
use Rattle.rtps_discovery.specs.declared.announcement.Announcement.{Announcement}
use Rattle.rtps_discovery.specs.declared.announcement.Announcement.TheVariants.{Participant, Writer, Reader, Gone}
use Rattle.rtps_discovery.specs.declared.announcement.Told.{Told}
use Rattle.rtps_discovery.specs.declared.entry.Entry.{Entry}
use Rattle.rtps_discovery.specs.declared.entry.Numbers.{Numbers}
use Rattle.rtps_discovery.specs.declared.source.Source.{Source}
use Rattle.rtps_discovery.specs.declared.source.Source.TheVariants.{Participants, Publications, Subscriptions}

abbrev pub no_numbers : Numbers
no_numbers = record { participants = 0; publications = 0; subscriptions = 0 }

abbrev pub number_of : Source → Numbers → ℕ
number_of Participants n = n.participants
number_of Publications n = n.publications
number_of Subscriptions n = n.subscriptions

abbrev pub with_number : Source → ℕ → Numbers → Numbers
with_number Participants number n = record n { participants = number }
with_number Publications number n = record n { publications = number }
with_number Subscriptions number n = record n { subscriptions = number }

abbrev pub numbers_in : Option Entry → Numbers
numbers_in None = no_numbers
numbers_in (Some e) = e.numbers

abbrev pub farewell_in : Option Entry → ℕ
farewell_in None = 0
farewell_in (Some e) = e.farewell

abbrev pub is_gone : Announcement → Bool
is_gone (Participant guid lease) = false
is_gone (Writer guid topic kind) = false
is_gone (Reader guid topic kind) = false
is_gone (Gone guid) = true

-- what is kept after an announcement that counts
abbrev pub entry_with : Option Entry → Source → Told → ℕ → Entry
entry_with old source t place = record {
  numbers = with_number source t.number (numbers_in old);
  last = t.what;
  moment = t.moment;
  place = place;
  farewell = if is_gone t.what then place else farewell_in old;
}

-- the same, or None where the announcement does not count
abbrev pub entry_after : Option Entry → Source → Told → ℕ → Option Entry
entry_after old source t place =
    if nat_lt t.number (number_of source (numbers_in old)) then None else Some (entry_with old source t place)
