-- Entries that are read may be written.
use Rattle.std.proofs.Common.{◌≡◌, ℕ, ◌-◌, ◌^◌, ◌≤◌, Bool, true, false, List, [], ◌∷◌, Option, sym, subst}
use Rattle.std.specs.Prelude.{◌==◌, nat_le}
use Rattle.std.specs.List.{AllByRecursion}
use Rattle.dur_base.specs.declared.entry.Entry.{Entry}
use Rattle.dur_base.specs.declared.entry.Entry.TheVariants.{Lost}
use Rattle.dur_view.specs.History.{History}
use Rattle.dur_record.specs.declared.past.Wanted.{Wanted}
use Rattle.dur_record.specs.declared.version.Version.{Version}
use Rattle.dur_record.specs.Grammar.{ends, choose, Spells}
use Rattle.dur_record.specs.Fields.{is_number}
use Rattle.dur_record.specs.Samples.{is_asked}
use Rattle.dur_record.specs.Entries.{wanted, with_entry, entry_number_row, took_row, skip_row, entry_row, SpellEach, IsGoodEntry}
use Rattle.dur_record.proofs.Told.{both, u64_told, le_told}
use Rattle.dur_record.proofs.WritersTold.{sample_told}

number_in_range : (asked : Wanted) (text : List ℕ) (n : ℕ) (rest : List ℕ) → Spells (entry_number_row asked) text n rest → n ≤ 2 ^ 63 - 2
unfolding entry_number_row
number_in_range asked text n rest s =
    let tests : (is_number n ≡ true) × (is_asked (λ m k. m == k) asked.next n ≡ true) = both (is_number n) (is_asked (λ m k. m == k) asked.next n) (u64_told _ text n rest s) in
    le_told n (2 ^ 63 - 2) ((both (nat_le 1 n) (nat_le n (2 ^ 63 - 2)) tests.0).1)

took_good : (version : Version) (asked : Wanted) (m : ℕ) (w text : List ℕ) (e : Entry) (rest : List ℕ)
    → Spells (took_row version asked m w) text e rest → IsGoodEntry e
unfolding took_row
took_good version asked m w text e rest s =
    let s1 = s.3 in
    subst IsGoodEntry (sym s1.3.0)
    (number_in_range asked text s.0 s.1 s.2, (sample_told version _ s.1 s1.0 s1.1 s1.2).good)

skip_good : (asked : Wanted) (m : ℕ) (w text : List ℕ) (e : Entry) (rest : List ℕ)
    → Spells (skip_row asked m w) text e rest → IsGoodEntry e
unfolding skip_row
skip_good asked m w text e rest s =
    let s1 = s.3 in
    let tests : (is_number s1.0 ≡ true) × (nat_le s.0 s1.0 ≡ true) = both (is_number s1.0) (nat_le s.0 s1.0) (u64_told _ s.1 s1.0 s1.1 s1.2) in
    subst IsGoodEntry (sym s1.3.0)
    (le_told s.0 s1.0 tests.1, le_told s1.0 (2 ^ 63 - 2) ((both (nat_le 1 s1.0) (nat_le s1.0 (2 ^ 63 - 2)) tests.0).1))

entry_good : (version : Version) (past : Option History) (text : List ℕ) (e : Entry) (rest : List ℕ)
    → Spells (entry_row version past) text e rest → IsGoodEntry e
unfolding entry_row
entry_good version past text e rest s = by_one (s.0 == 1) s.3.3.3
  where
    by_two : (b : Bool) → Spells (choose b (skip_row (wanted past s.3.3.0) s.3.0 s.3.3.0) (ends (Lost s.3.0 s.3.3.0))) s.3.3.1 e rest → IsGoodEntry e
    by_two true t = skip_good (wanted past s.3.3.0) s.3.0 s.3.3.0 s.3.3.1 e rest t
    by_two false t = subst IsGoodEntry (sym t.0) tt

    by_one : (b : Bool) → Spells (choose b (took_row version (wanted past s.3.3.0) s.3.0 s.3.3.0) (choose (s.0 == 2) (skip_row (wanted past s.3.3.0) s.3.0 s.3.3.0) (ends (Lost s.3.0 s.3.3.0)))) s.3.3.1 e rest → IsGoodEntry e
    by_one true t = took_good version (wanted past s.3.3.0) s.3.0 s.3.3.0 s.3.3.1 e rest t
    by_one false t = by_two (s.0 == 2) t

pub entries_good : (version : Version) (past : Option History) (text : List ℕ) (es : List Entry) (rest : List ℕ)
    → SpellEach version past text es rest → AllByRecursion IsGoodEntry es
entries_good version past text [] rest s = tt
entries_good version past text (e ∷ es) rest s =
    (entry_good version past text e s.0 s.1, entries_good version (with_entry past e) s.0 es rest s.2)
