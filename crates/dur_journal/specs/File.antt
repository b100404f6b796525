-- What the octets of a journal's file spell, and where they break.
use Rattle.std.specs.Prelude.{◌≡◌, ◌≢◌, ◌⊎◌, ℕ, ◌+◌, ◌≤◌, ◌^◌, ◌==◌, nat_lt, nat_le, ◌||◌, if◌then◌else◌, not, true, List, [], ◌∷◌, ◌++◌, length, take, drop, slice_index, Option, Some, None, option_map, Result, Ok, Err}
use Rattle.std.specs.Int.{w32, w64}
use Rattle.dur_base.specs.Fields.{number}
use Rattle.dur_view.specs.declared.data.View.{View}
use Rattle.dur_base.specs.declared.entry.Entry.{Entry}
use Rattle.dur_view.specs.History.{History}
use Rattle.dur_view.specs.History.{Start}
use Rattle.dur_record.specs.declared.version.Version.{Version}
use Rattle.dur_journal.specs.Histories.{more}
use Rattle.dur_journal.specs.Texts.{version_in, version_of, view_in, entries_in}
use Rattle.dur_journal.specs.declared.front.Front.{Front}
use Rattle.dur_journal.specs.declared.front.Front.TheVariants.{Blank, Closed, Open}

-- the eight octets with which a file begins: DDSJRNL1
abbrev pub magic : List ℕ
magic = 0x44 ∷ 0x44 ∷ 0x53 ∷ 0x4a ∷ 0x52 ∷ 0x4e ∷ 0x4c ∷ 0x31 ∷ []

-- the first place at which octets do not begin with these
abbrev pub difference : List ℕ → List ℕ → Option ℕ
difference [] x = None
difference (m ∷ ms) [] = Some 0
difference (m ∷ ms) (b ∷ x) = if b == m then option_map (λ at. at + 1) (difference ms x) else Some 0

-- Behind the version at 9, an open file has its generation at 13, and at 17 the length of its base.
unfoldable pub generation_in : List ℕ → ℕ
generation_in x = number true w32 (take 4 (drop 13 x))

unfoldable pub base_length : List ℕ → ℕ
base_length x = number true w64 (take 8 (drop 17 x))

-- Its version is 1 or 2, and its base has at most 2^30 octets. It breaks at the first field that is not there whole or is not so.
unfoldable pub header_in : List ℕ → Result Front ℕ
header_in x =
    if nat_lt (length x) 13 then Err 9
    else if not (version_in x == 1 || version_in x == 2) then Err 9
    else if nat_lt (length x) 17 then Err 13
    else if nat_lt (length x) 25 then Err 17
    else if nat_lt (2 ^ 30) (base_length x) then Err 17
    else Ok (Open (generation_in x))

abbrev pub behind_magic : Option ℕ → List ℕ → Result Front ℕ
behind_magic (Some at) x = Err at
behind_magic None x = if slice_index x 8 == 1 then header_in x else Ok Closed

-- What a file is by its first octets, or the place where these break. A file of at most 9 octets is blank, whatever it holds. A
-- longer one begins with the eight octets, and is open where octet 8 is 1, else closed.
unfoldable pub front_in : List ℕ → Result Front ℕ
front_in x = if nat_le (length x) 9 then Ok Blank else behind_magic (difference magic x) x

-- a record behind its gate: the body's length u32, and the body
pub record Stored : Type 0 where
  pub size : List ℕ
  pub body : List ℕ

pub record IsStored (r : Stored) : Type 0 where
  pub whole : length r.size ≡ 4
  pub counts : number true w32 r.size ≡ length r.body
  pub bound : length r.body ≤ 2 ^ 28

-- records with their open gates, one after the other
abbrev pub records_text : List Stored → List ℕ
records_text [] = []
records_text (r ∷ rs) = 1 ∷ (r.size ++ (r.body ++ records_text rs))

-- the history that these records make of one, each after those before it
abbrev pub Tells : Version → History → List Stored → History → Type 0
Tells version h [] after = after ≡ h
Tells version h (r ∷ rs) after =
    IsStored r × ((es : List Entry) × (entries_in version h r.body ≡ Ok es) × Tells version (more h es) rs after)

-- The octets are an open file: a header, a base that spells a view, and records that spell entries which follow it, up to the first
-- closed gate. What follows is ignored.
pub record FileText (x : List ℕ) (generation : ℕ) (view : View) (rs : List Stored) (h : History) : Type 0 where
  pub front : List ℕ
  pub base : List ℕ
  pub gate : ℕ
  pub rest : List ℕ
  pub parts : x ≡ front ++ (base ++ (records_text rs ++ gate ∷ rest))
  pub header : length front ≡ 25
  pub opens : front_in x ≡ Ok (Open generation)
  pub sized : base_length x ≡ length base
  pub spells : view_in (version_of x) base ≡ Ok view
  pub tells : Tells (version_of x) (Start view) rs h
  pub closed : gate ≢ 1

-- where a text breaks, else its end
abbrev pub cut_at : {A : Type 0} → Result A ℕ → ℕ → ℕ
cut_at (Err at) end = at
cut_at (Ok a) end = end

abbrev pub error_of : {A : Type 0} → Result A ℕ → Option ℕ
error_of (Err at) = Some at
error_of (Ok a) = None

-- Where a text of n octets at the front of these breaks. One that is cut off breaks at the first field that is not there whole.
unfoldable pub break_of : {A : Type 0} → (List ℕ → Result A ℕ) → ℕ → List ℕ → Option ℕ
break_of read n x = if nat_lt (length x) n then Some (cut_at (read x) (length x)) else error_of (read (take n x))

-- where a record behind its gate breaks: at its length, or in its body
unfoldable pub record_break : Version → History → List ℕ → Option ℕ
record_break version h x =
    if nat_lt (length x) 4 then Some 0
    else if nat_lt (2 ^ 28) (number true w32 (take 4 x)) then Some 0
    else option_map (λ at. at + 4) (break_of (entries_in version h) (number true w32 (take 4 x)) (drop 4 x))

-- where these octets break from a gate's place on, up to the end of a record that is open there. A gate that is not there breaks.
abbrev pub gate_break : Version → History → List ℕ → Option ℕ
gate_break version h [] = Some 0
gate_break version h (gate ∷ x) = if gate == 1 then option_map (λ at. at + 1) (record_break version h x) else None

-- the octets of an open file break in its base, or behind records that spell
pub record BaseBreaks (x : List ℕ) (at : ℕ) : Type 0 where
  pub inside : ℕ
  pub breaks : break_of (view_in (version_of x)) (base_length x) (drop 25 x) ≡ Some inside
  pub place : at ≡ 25 + inside

pub record RecordBreaks (x : List ℕ) (at : ℕ) : Type 0 where
  pub front : List ℕ
  pub base : List ℕ
  pub view : View
  pub rs : List Stored
  pub h : History
  pub rest : List ℕ
  pub inside : ℕ
  pub parts : x ≡ front ++ (base ++ (records_text rs ++ rest))
  pub header : length front ≡ 25
  pub sized : base_length x ≡ length base
  pub spells : view_in (version_of x) base ≡ Ok view
  pub tells : Tells (version_of x) (Start view) rs h
  pub breaks : gate_break (version_of x) h rest ≡ Some inside
  pub place : at ≡ 25 + length base + length (records_text rs) + inside

abbrev pub TextBreaks : List ℕ → ℕ → Type 0
TextBreaks x at = BaseBreaks x at ⊎ RecordBreaks x at
