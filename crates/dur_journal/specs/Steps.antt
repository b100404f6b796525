-- A file while it is written.
use Rattle.std.specs.Prelude.{◌≡◌, ◌≢◌, ◌⊎◌, ℕ, ◌+◌, List, [], ◌∷◌, ◌++◌, length, take, slice_index, Ok}
use Rattle.std.specs.Prelude.{true}
use Rattle.std.specs.Int.{w32, w64}
use Rattle.dur_base.specs.Fields.{octets}
use Rattle.dur_outside.specs.World.{over}
use Rattle.dur_journal.specs.declared.front.Front.TheVariants.{Blank, Closed}
use Rattle.dur_journal.specs.File.{magic, front_in}

-- it counts for nothing: blank or closed
abbrev pub IsQuiet : List ℕ → Type 0
IsQuiet x = (front_in x ≡ Ok Blank) ⊎ (front_in x ≡ Ok Closed)

-- the eight octets and a closed gate
pub record IsHead (x : List ℕ) : Type 0 where
  pub size : length x ≡ 9
  pub begins : take 8 x ≡ magic
  pub closed : slice_index x 8 ≢ 1

-- this text behind a gate
abbrev pub gated : ℕ → List ℕ → List ℕ
gated gate text = 0x44 ∷ 0x44 ∷ 0x53 ∷ 0x4a ∷ 0x52 ∷ 0x4e ∷ 0x4c ∷ 0x31 ∷ gate ∷ text

-- the octet at that place is any
abbrev pub Swayed : ℕ → List ℕ → List ℕ → Type 0
Swayed at old x = (gate : ℕ) × (x ≡ over at (gate ∷ []) old)

-- while a file is emptied it is as it was, or counts for nothing
abbrev pub IsIdle : List ℕ → List ℕ → Type 0
IsIdle old x = (x ≡ old) ⊎ IsQuiet x

-- while a text is written into it, it counts for nothing or has the text behind an open gate
abbrev pub IsFilling : List ℕ → List ℕ → Type 0
IsFilling text x = IsQuiet x ⊎ (x ≡ gated 1 text)

-- while a file is written it is as it was, counts for nothing, or has the text behind an open gate
abbrev pub IsRewriting : List ℕ → List ℕ → List ℕ → Type 0
IsRewriting old text x = (x ≡ old) ⊎ IsFilling text x

-- the text of a new file behind its gate: version, generation, length, base, and one closed gate
unfoldable pub file_text : ℕ → List ℕ → List ℕ
file_text generation base = octets true w32 2 ++ (octets true w32 generation ++ (octets true w64 (length base) ++ (base ++ 0 ∷ [])))

-- a record's length and body, and a new closed gate
unfoldable pub record_text : List ℕ → List ℕ
record_text body = octets true w32 (length body) ++ (body ++ 0 ∷ [])

-- while a record is appended to a file that ends with its closed gate, that gate is closed, or the record stands behind any gate
abbrev pub IsAppending : ℕ → List ℕ → List ℕ → List ℕ → Type 0
IsAppending gate old text x = (take (gate + 1) x ≡ old) ⊎ Swayed gate (old ++ text) x
