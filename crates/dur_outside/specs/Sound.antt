-- Every world in memory is sound.
use Rattle.std.specs.Prelude.{ℕ, ◌≤◌, List, [], ◌∷◌, length, refl}
use Rattle.std.proofs.Common.{inl, ⊎_elim}
use Rattle.std.proofs.Math.Nat.{not-suc-le_self}
use Rattle.dur_outside.specs.declared.change.Edit.{Edit}
use Rattle.dur_outside.specs.declared.change.Edit.TheVariants.{Wrote, Shortened, Synced}
use Rattle.dur_outside.specs.declared.change.Change.{Change}
use Rattle.dur_outside.specs.declared.change.Change.TheVariants.{Made, Sent}
use Rattle.dur_outside.specs.declared.values.FileId.{FileId}
use Rattle.dur_outside.specs.declared.values.FileId.TheVariants.{Zero, One}
use Rattle.dur_outside.specs.World.{Image, IsSound}
use Rattle.dur_outside.specs.Memory.{octets_before, ByEdit, MayHold, IsImage, Since, world_of}

pub by_edit : (edit : Edit) (x : List ℕ) (M : List ℕ → Type 0) → ByEdit edit x M x
by_edit (Wrote at count old) x M = inl refl
by_edit (Shortened end tail) x M = inl refl
by_edit Synced x M = refl

pub reads_so : (past : List Change) (file : FileId) (x : List ℕ) → MayHold past file x x
reads_so [] file x = refl
reads_so (Made Zero edit ∷ past) Zero x = by_edit edit x (MayHold past Zero (octets_before edit x))
reads_so (Made Zero edit ∷ past) One x = reads_so past One x
reads_so (Made One edit ∷ past) Zero x = reads_so past Zero x
reads_so (Made One edit ∷ past) One x = by_edit edit x (MayHold past One (octets_before edit x))
reads_so (Sent count ∷ past) file x = reads_so past file x

pub counts_now : (past : List Change) (x : Image) (t : ℕ) (c : Image) → t ≤ length past → IsImage x past c → Since past x t c
counts_now [] x t c le now = now
counts_now (change ∷ past) x t c le now = inl now

pub only_now : (past : List Change) (x c : Image) → Since past x (length past) c → IsImage x past c
only_now [] x c since = since
only_now (change ∷ past) x c since = ⊎_elim (λ now. now) (λ p. absurd (not-suc-le_self (length past) p.0)) since

pub sound : (x : Image) (past : List Change) → IsSound (world_of x past)
sound x past = record {
  as_read = record { zero = reads_so past Zero x.zero; one = reads_so past One x.one; written = refl };
  out = λ c image. image.written;
  counts_now = counts_now past x;
  only_now = only_now past x;
}
