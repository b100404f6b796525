-- A call on a disk in memory, from its steps.
use Rattle.std.proofs.Common.{◌≡◌, ℕ, ◌≤◌, List, ◌∷◌, length, take, drop, true, false, refl, ◌∙◌, ap, subst, arith, inl, inr, ⊎_elim, Ok, Err, Result, is_err}
use Rattle.dur_outside.specs.declared.change.Edit.{Edit}
use Rattle.dur_outside.specs.declared.change.Edit.TheVariants.{Wrote, Shortened, Synced}
use Rattle.dur_outside.specs.declared.change.Change.{Change}
use Rattle.dur_outside.specs.declared.change.Change.TheVariants.{Made}
use Rattle.dur_outside.specs.declared.values.FileId.{FileId}
use Rattle.dur_outside.specs.declared.values.FileId.TheVariants.{Zero, One}
use Rattle.dur_outside.specs.World.{over, put}
use Rattle.dur_outside.specs.Causes.{HasCause, one_more}
use Rattle.dur_outside.specs.Calls.{GivenCalls, after_success, after_fault, after_want, Counts}
use Rattle.dur_outside.specs.Memory.{GivenDisk, octets_of, KeepsFiles, Edits}
use Rattle.dur_outside.proofs.Worlds.{image_same}

pub octets_same : (file : FileId) (old mid : GivenDisk) → KeepsFiles old mid → octets_of file mid ≡ octets_of file old
octets_same Zero old mid same = same.zero
octets_same One old mid same = same.one

pub files_after : (old mid new : GivenDisk) → KeepsFiles old mid → KeepsFiles mid new → KeepsFiles old new
files_after old mid new first second = record { zero = second.zero ∙ first.zero; one = second.one ∙ first.one; past = second.past ∙ first.past }

edits_after : (file : FileId) (edit : Edit) (octets : List ℕ) (old mid new : GivenDisk) → KeepsFiles old mid → Edits file edit octets mid new → Edits file edit octets old new
edits_after file edit octets old mid new same edits = record {
  files = λ written. edits.files written ∙ ap (put file octets) (image_same written old mid same);
  past = edits.past ∙ ap (λ (l : List Change). Made file edit ∷ l) same.past;
}

pub wrote_after : (file : FileId) (at : ℕ) (octets : List ℕ) (old mid new : GivenDisk) → KeepsFiles old mid
    → Edits file (Wrote at (length octets) (take (length octets) (drop at (octets_of file mid)))) (over at octets (octets_of file mid)) mid new
    → Edits file (Wrote at (length octets) (take (length octets) (drop at (octets_of file old)))) (over at octets (octets_of file old)) old new
wrote_after file at octets old mid new same edits =
    subst (λ (z : List ℕ). Edits file (Wrote at (length octets) (take (length octets) (drop at z))) (over at octets z) old new) (octets_same file old mid same)
    (edits_after file (Wrote at (length octets) (take (length octets) (drop at (octets_of file mid)))) (over at octets (octets_of file mid)) old mid new same edits)

pub cut_after : (file : FileId) (end : ℕ) (old mid new : GivenDisk) → KeepsFiles old mid
    → Edits file (Shortened end (drop end (octets_of file mid))) (take end (octets_of file mid)) mid new
    → Edits file (Shortened end (drop end (octets_of file old))) (take end (octets_of file old)) old new
cut_after file end old mid new same edits =
    subst (λ (z : List ℕ). Edits file (Shortened end (drop end z)) (take end z) old new) (octets_same file old mid same)
    (edits_after file (Shortened end (drop end (octets_of file mid))) (take end (octets_of file mid)) old mid new same edits)

pub synced_after : (file : FileId) (old mid new : GivenDisk) → KeepsFiles old mid
    → Edits file Synced (octets_of file mid) mid new
    → Edits file Synced (octets_of file old) old new
synced_after file old mid new same edits =
    subst (λ (z : List ℕ). Edits file Synced z old new) (octets_same file old mid same) (edits_after file Synced (octets_of file mid) old mid new same edits)

-- a call that did what it was asked, and was not set to fail
pub succeeded : (set : Type 0) (old mid new : GivenCalls) → (set → ⊥) → mid ≡ old → new ≡ after_success mid → Counts set false old new
succeeded set old mid new free same is = record {
  set_to_fail = λ listed. absurd (free listed);
  later = omega (arith, ap (λ (c : GivenCalls). c.faults) same, ap (λ (c : GivenCalls). c.faults) is);
  success = λ _. is ∙ ap after_success same;
  failure = λ e. absurd (cc e);
}

-- a call that was set to fail
pub was_set : (set : Type 0) (old new : GivenCalls) → set → old.faults ≤ new.faults → new ≡ after_fault old → Counts set true old new
was_set set old new listed later is = record {
  set_to_fail = λ _. refl;
  later = later;
  success = λ e. absurd (cc e);
  failure = λ _. inl (listed, is);
}

-- a call that found no memory, and was not set to fail
pub starved : (set : Type 0) (old mid new : GivenCalls) → (set → ⊥) → mid ≡ old → mid.faults ≤ new.faults → new ≡ after_want mid → Counts set true old new
starved set old mid new free same later is = record {
  set_to_fail = λ _. refl;
  later = omega (arith, later, ap (λ (c : GivenCalls). c.faults) same);
  success = λ e. absurd (cc e);
  failure = λ _. inr (free, is ∙ ap after_want same);
}

-- the count of faults does not fall, and a failure is counted
pub has_cause : {T E : Type 0} → (set : Type 0) (result : Result T E) (old new : GivenCalls) → Counts set (is_err result) old new → HasCause old.faults new.faults result
has_cause set (Ok t) old new counts = record { later = counts.later; failed = tt }
has_cause set (Err e) old new counts = record {
  later = counts.later;
  failed = ⊎_elim
      (λ p. let is : new.faults ≡ one_more old.faults = ap (λ (c : GivenCalls). c.faults) p.1 in omega (arith, is))
      (λ p. let is : new.faults ≡ one_more old.faults = ap (λ (c : GivenCalls). c.faults) p.1 in omega (arith, is))
      (counts.failure refl);
}
