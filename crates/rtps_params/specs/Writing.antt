-- The one text that is written of what is told.
use Rattle.std.specs.Prelude.{◌≡◌, ℕ, ◌≤◌, Bool, List, [], ◌∷◌, ◌++◌, length, Option, Some, None, IfSome, ◌==◌, if◌then◌else◌}
use Rattle.std.specs.Int.{w16}
use Rattle.dur_base.specs.declared.sample.SetMark.{SetMark}
use Rattle.dur_base.specs.declared.sample.SetMark.TheVariants.{NoSet, End, Of}
use Rattle.dur_base.specs.Goodness.{IsLifespan, IsMark, IsOriginal}
use Rattle.rtps_params.specs.declared.inline.Inline.{Inline}
use Rattle.dur_base.specs.Fields.{octets, sequence_octets}

-- id u16, length u16, value
unfoldable pub parameter_text : Bool → ℕ → List ℕ → List ℕ
parameter_text little id value = octets little w16 id ++ (octets little w16 (length value) ++ value)

abbrev pub sentinel_text : Bool → List ℕ
sentinel_text little = parameter_text little 0x0001 []

abbrev pub hash_text : Bool → Option (List ℕ) → List ℕ
hash_text little None = []
hash_text little (Some key) = parameter_text little 0x0070 key

abbrev pub status_text : Bool → ℕ → List ℕ
status_text little status = if status == 0 then [] else parameter_text little 0x0071 (0 ∷ 0 ∷ 0 ∷ status ∷ [])

-- 28 octets: the list at the end is one sentinel
abbrev pub original_text : Bool → Option (List ℕ × ℕ) → List ℕ
original_text little None = []
original_text little (Some original) = parameter_text little 0x0061 (original.0 ++ (sequence_octets little original.1 ++ sentinel_text little))

-- the seconds are the high part, the fraction the low one
abbrev pub lifespan_text : Bool → Option ℕ → List ℕ
lifespan_text little None = []
lifespan_text little (Some ticks) = parameter_text little 0x002b (sequence_octets little ticks)

-- the end of a set is SEQUENCENUMBER_UNKNOWN: high -1, low 0
abbrev pub set_text : Bool → SetMark → List ℕ
set_text little NoSet = []
set_text little End = parameter_text little 0x0056 (sequence_octets little 0xffffffff00000000)
set_text little (Of number) = parameter_text little 0x0056 (sequence_octets little number)

-- what is present, in this order
unfoldable pub list_text : Bool → Inline → List ℕ
list_text little i =
    ((((hash_text little i.hash ++ status_text little i.status) ++ original_text little i.original) ++ lifespan_text little i.lifespan) ++ set_text little i.set) ++ sentinel_text little

-- ---- what can be written

-- A key and a GUID have 16 octets, and a number is 1 at least: their types know it.
abbrev pub IsWholeKey : Option (List ℕ) → Type 0
IsWholeKey key = IfSome key (λ k. length k ≡ 16)

abbrev pub IsWholeOriginal : Option (List ℕ × ℕ) → Type 0
IsWholeOriginal original = IfSome original (λ o. (length o.0 ≡ 16) × (1 ≤ o.1))

abbrev pub IsMarkOfNumber : SetMark → Type 0
IsMarkOfNumber NoSet = Unit {0}
IsMarkOfNumber End = Unit {0}
IsMarkOfNumber (Of number) = 1 ≤ number

-- What reads again as itself: nothing strange, a status of two bits, a lifespan below 2147483647 seconds,
-- numbers of at most 2 ^ 63 - 2.
pub record IsWritable (i : Inline) : Type 0 where
  pub strange : i.strange ≡ None
  pub status : i.status ≤ 3
  pub lifespan : IsLifespan i.lifespan
  pub set : IsMark i.set
  pub original : IsOriginal i.original
