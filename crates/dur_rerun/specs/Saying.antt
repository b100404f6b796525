-- How far a text went out.
use Rattle.std.specs.Prelude.{◌≡◌, ℕ, ◌++◌, List, take, drop}
use Rattle.dur_outside.specs.World.{Image}

-- the outside once this text was written to the sink: no file is changed
abbrev pub wrote : List ℕ → Image → Image
wrote text i = record i { written = i.written ++ text }

-- a front of the text went out, and nothing else is changed
pub record IsSaid (text : List ℕ) (old new : Image) : Type 0 where
  pub count : ℕ
  pub written : new ≡ wrote (take count text) old

-- and this is what is left of it
pub record IsSaying (text rest : List ℕ) (old new : Image) : Type 0 where
  pub count : ℕ
  pub left : rest ≡ drop count text
  pub written : new ≡ wrote (take count text) old
