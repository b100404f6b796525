-- What one file is by itself.
use Rattle.std.specs.Prelude.{◌≡◌, ◌⊎◌, ℕ, List, length, Ok, Err}
use Rattle.dur_view.specs.declared.data.View.{View}
use Rattle.dur_view.specs.History.{History}
use Rattle.dur_journal.specs.Histories.{view_of}
use Rattle.dur_journal.specs.declared.front.Front.TheVariants as front
use Rattle.dur_journal.specs.declared.seen.Look.{Look}
use Rattle.dur_journal.specs.declared.seen.Look.TheVariants.{Blank, Closed, Open, Broken}
use Rattle.dur_journal.specs.File.{front_in, Stored, FileText, TextBreaks}

-- an open file of that generation, so many records and that view at its end
pub record IsOpenFile (x : List ℕ) (generation records : ℕ) (view : View) : Type 0 where
  pub start : View
  pub rs : List Stored
  pub h : History
  pub text : FileText x generation start rs h
  pub counts : records ≡ length rs
  pub ends : view ≡ view_of h

-- it breaks in its first octets, or in its text
abbrev pub IsBrokenFile : List ℕ → ℕ → Type 0
IsBrokenFile x at = (front_in x ≡ Err at) ⊎ ((generation : ℕ) × (front_in x ≡ Ok (front.Open generation)) × TextBreaks x at)

abbrev pub LooksLike : List ℕ → Look → Type 0
LooksLike x Blank = front_in x ≡ Ok front.Blank
LooksLike x Closed = front_in x ≡ Ok front.Closed
LooksLike x (Open generation records view) = IsOpenFile x generation records view
LooksLike x (Broken at) = IsBrokenFile x at
