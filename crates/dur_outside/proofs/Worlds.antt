-- How calls in memory change their world.
use Rattle.std.proofs.Common.{◌≡◌, ◌⊎◌, inl, inr, ⊎_elim, ℕ, ◌-◌, ◌≤◌, ◌<◌, List, ◌∷◌, ◌++◌, length, take, drop, refl, sym, ◌∙◌, ap, subst, arith, length-append, Ok, Err, Result, OnOk, OnErr, IfOk}
use Rattle.std.proofs.lemmas.List.{take_at, take_all, take-append-drop}
use Rattle.dur_outside.specs.declared.change.Edit.{Edit}
use Rattle.dur_outside.specs.declared.change.Edit.TheVariants.{Wrote, Shortened, Synced}
use Rattle.dur_outside.specs.declared.change.Change.{Change}
use Rattle.dur_outside.specs.declared.change.Change.TheVariants.{Made, Sent}
use Rattle.dur_outside.specs.declared.values.FileId.{FileId}
use Rattle.dur_outside.specs.declared.values.FileId.TheVariants.{Zero, One}
use Rattle.dur_outside.specs.World.{Image, World, Elapses, Reads, Writes, Cuts, Syncs, Sends, Torn, Cut, content, put, over, Follows}
use Rattle.dur_outside.specs.Memory.{octets_before, image_before, octets_of, ByEdit, MayHold, IsImage, Since, world_of, GivenDisk, image, disk_world, KeepsFiles, Edits}
use Rattle.dur_outside.specs.Sound.{reads_so}
use Rattle.dur_outside.proofs.Overs.{over_torn, restored, torn_same, take_cut, cut_same}

-- one change more
pub elapses : (change : Change) (past : List Change) (x v : Image) → image_before change v ≡ x → Elapses (world_of x past) (world_of v (change ∷ past))
elapses change past x v is = record {
  later = omega arith;
  splits = λ t c le left. ⊎_elim (λ now. inr now) (λ p. inl (subst (λ (y : Image). Since past y t c) is p.1)) left;
  keeps = λ t c le left. inr (le, subst (λ (y : Image). Since past y t c) (sym is) left);
}

pub no_time : (w : World) → Elapses w w
no_time w = record { later = omega arith; splits = λ t c le left. inl left; keeps = λ t c le left. left }

-- a sink

unsent : (written piece : List ℕ) → take (length (written ++ piece) - length piece) (written ++ piece) ≡ written
unsent written piece = take_at written piece (length (written ++ piece) - length piece) (omega (arith, length-append written piece))

sent : {E : Type 0} → (piece : List ℕ) (x : Image) (past : List Change) → 0 < length piece
    → Sends {E = E} piece (Ok (length piece)) (world_of x past) (world_of (record x { written = x.written ++ piece }) (Sent (length piece) ∷ past))
sent piece x past some = record {
  done = (some, omega arith, ap (λ (p : List ℕ). record x { written = x.written ++ p }) (sym (take_all (length piece) piece (omega arith))));
  none = tt;
  crash = λ c left. (record { zero = left.zero; one = left.one; written = refl }, left.written);
  time = elapses (Sent (length piece)) past x (record x { written = x.written ++ piece }) (ap (λ (p : List ℕ). record x { written = p }) (unsent x.written piece));
}

pub sends : {E : Type 0} → (piece : List ℕ) (result : Result ℕ E) (x v : Image) (past later : List Change) → 0 < length piece
    → IfOk result (λ n. n ≡ length piece)
    → OnOk result ((v ≡ record x { written = x.written ++ piece }) × (later ≡ Sent (length piece) ∷ past))
    → OnErr result ((v ≡ x) × (later ≡ past))
    → Sends piece result (world_of x past) (world_of v later)
sends {E} piece (Ok n) x v past later some whole done none =
    subst (λ (m : ℕ). Sends {E = E} piece (Ok m) (world_of x past) (world_of v later)) (sym whole)
    (subst (λ (y : Image). Sends {E = E} piece (Ok (length piece)) (world_of x past) (world_of y later)) (sym done.0)
    (subst (λ (l : List Change). Sends {E = E} piece (Ok (length piece)) (world_of x past) (world_of (record x { written = x.written ++ piece }) l)) (sym done.1)
    (sent piece x past some)))
sends {E} piece (Err e) x v past later some whole done none =
    subst (λ (y : Image). Sends piece (Err e) (world_of x past) (world_of y later)) (sym none.0)
    (subst (λ (l : List Change). Sends piece (Err e) (world_of x past) (world_of x l)) (sym none.1)
    (record { done = tt; none = refl; crash = λ c left. (record { zero = left.zero; one = left.one; written = refl }, left.written); time = no_time (world_of x past) }))

-- a disk

undone_put : (file : FileId) (edit : Edit) (x : Image) (y : List ℕ) → octets_before edit y ≡ content file x → image_before (Made file edit) (put file y x) ≡ x
undone_put Zero edit x y is = ap (λ (z : List ℕ). record x { zero = z }) is
undone_put One edit x y is = ap (λ (z : List ℕ). record x { one = z }) is

-- what a crash may leave after an edit that R tells of
follows : (file : FileId) (edit : Edit) (R : List ℕ → List ℕ → Type 0) (x : Image) (y : List ℕ) (past : List Change)
    → octets_before edit y ≡ content file x → R (content file x) y
    → ((M : List ℕ → Type 0) (c : List ℕ) → ByEdit edit y M c → (c ≡ y) ⊎ ((d : List ℕ) × M d × R d c))
    → Follows file R (world_of x past) (world_of (put file y x) (Made file edit ∷ past))
follows Zero edit R x y past is whole by = λ c left.
    ⊎_elim
    (λ same. (record c { zero = x.zero }, record { zero = reads_so past Zero x.zero; one = left.one; written = left.written }, subst (λ (z : List ℕ). R x.zero z) (sym same) whole, refl))
    (λ p. (record c { zero = p.0 }, record { zero = subst (λ (z : List ℕ). MayHold past Zero z p.0) is p.1; one = left.one; written = left.written }, p.2, refl))
    (by (MayHold past Zero (octets_before edit y)) c.zero left.zero)
follows One edit R x y past is whole by = λ c left.
    ⊎_elim
    (λ same. (record c { one = x.one }, record { zero = left.zero; one = reads_so past One x.one; written = left.written }, subst (λ (z : List ℕ). R x.one z) (sym same) whole, refl))
    (λ p. (record c { one = p.0 }, record { zero = left.zero; one = subst (λ (z : List ℕ). MayHold past One z p.0) is p.1; written = left.written }, p.2, refl))
    (by (MayHold past One (octets_before edit y)) c.one left.one)

-- after a call that changed nothing
stays : (file : FileId) (R : List ℕ → List ℕ → Type 0) (x : Image) (past : List Change) → ((z : List ℕ) → R z z) → Follows file R (world_of x past) (world_of x past)
stays Zero R x past same = λ c left. (c, left, same c.zero, refl)
stays One R x past same = λ c left. (c, left, same c.one, refl)

pub image_same : (written : List ℕ) (old new : GivenDisk) → KeepsFiles old new → image written new ≡ image written old
image_same written old new same =
    ap (λ (z : List ℕ). record { zero = z; one = new.one; written = written }) same.zero
    ∙ ap (λ (z : List ℕ). record { zero = old.zero; one = z; written = written }) same.one

pub octets_are : (file : FileId) (written : List ℕ) (d : GivenDisk) → content file (image written d) ≡ octets_of file d
octets_are Zero written d = refl
octets_are One written d = refl

-- a fact on a world, from one on another that is the same
at_world : (P : World → Type 0) (written : List ℕ) (new : GivenDisk) (x : Image) (past : List Change) → image written new ≡ x → new.past ≡ past → P (world_of x past) → P (disk_world written new)
at_world P written new x past is later p =
    subst (λ (y : Image). P (world_of y new.past)) (sym is) (subst (λ (l : List Change). P (world_of x l)) (sym later) p)

pub reads : (written : List ℕ) (old new : GivenDisk) → KeepsFiles old new → Reads (disk_world written old) (disk_world written new)
reads written old new same =
    at_world (λ (v : World). Reads (disk_world written old) v) written new (image written old) old.past (image_same written old new same) same.past
    (record { same = refl; crash = λ c left. left; time = no_time (disk_world written old) })

pub writes : {T E : Type 0} → (file : FileId) (at : ℕ) (octets : List ℕ) (result : Result T E) (written : List ℕ) (old new : GivenDisk)
    → at ≤ length (content file (image written old))
    → OnOk result (Edits file (Wrote at (length octets) (take (length octets) (drop at (octets_of file old)))) (over at octets (octets_of file old)) old new)
    → OnErr result (KeepsFiles old new)
    → Writes file at octets result (disk_world written old) (disk_world written new)
writes {T} {E} file at octets (Ok t) written old new within done none =
    let x = image written old in
    let is = octets_are file written old in
    let edit = Wrote at (length octets) (take (length octets) (drop at (octets_of file old))) in
    let y = over at octets (octets_of file old) in
    let fits : at ≤ length (octets_of file old) = subst (λ (z : List ℕ). at ≤ length z) is within in
    let back : octets_before edit y ≡ content file x = restored at octets (octets_of file old) fits ∙ sym is in
    let torn : Torn at (length octets) (content file x) y = subst (λ (z : List ℕ). Torn at (length octets) z y) (sym is) (over_torn at octets (octets_of file old) fits) in
    at_world (λ (v : World). Writes {T = T} {E = E} file at octets (Ok t) (disk_world written old) v) written new (put file y x) (Made file edit ∷ old.past) (done.files written) done.past
    (record {
      done = ap (λ (z : List ℕ). put file (over at octets z) x) (sym is);
      crash = follows file edit (Torn at (length octets)) x y old.past back torn (λ M c p. p);
      time = elapses (Made file edit) old.past x (put file y x) (undone_put file edit x y back);
    })
writes {T} {E} file at octets (Err e) written old new within done none =
    at_world (λ (v : World). Writes {T = T} {E = E} file at octets (Err e) (disk_world written old) v) written new (image written old) old.past (image_same written old new none) none.past
    (record { done = tt; crash = stays file (Torn at (length octets)) (image written old) old.past (λ z. torn_same at (length octets) z); time = no_time (disk_world written old) })

pub cuts : {T E : Type 0} → (file : FileId) (end : ℕ) (result : Result T E) (written : List ℕ) (old new : GivenDisk)
    → OnOk result (Edits file (Shortened end (drop end (octets_of file old))) (take end (octets_of file old)) old new)
    → OnErr result (KeepsFiles old new)
    → Cuts file end result (disk_world written old) (disk_world written new)
cuts {T} {E} file end (Ok t) written old new done none =
    let x = image written old in
    let is = octets_are file written old in
    let edit = Shortened end (drop end (octets_of file old)) in
    let y = take end (octets_of file old) in
    let back : octets_before edit y ≡ content file x = take-append-drop end (octets_of file old) ∙ sym is in
    let whole : Cut end (content file x) y = subst (λ (z : List ℕ). Cut end z y) (sym is) (take_cut end (octets_of file old)) in
    at_world (λ (v : World). Cuts {T = T} {E = E} file end (Ok t) (disk_world written old) v) written new (put file y x) (Made file edit ∷ old.past) (done.files written) done.past
    (record {
      done = ap (λ (z : List ℕ). put file (take end z) x) (sym is);
      crash = follows file edit (Cut end) x y old.past back whole (λ M c p. p);
      time = elapses (Made file edit) old.past x (put file y x) (undone_put file edit x y back);
    })
cuts {T} {E} file end (Err e) written old new done none =
    at_world (λ (v : World). Cuts {T = T} {E = E} file end (Err e) (disk_world written old) v) written new (image written old) old.past (image_same written old new none) none.past
    (record { done = tt; crash = stays file (Cut end) (image written old) old.past (λ z. cut_same end z); time = no_time (disk_world written old) })

-- after a sync a crash leaves of that file what reads give
settled : (file : FileId) (x : Image) (past : List Change) (c : Image) → IsImage x (Made file Synced ∷ past) c → content file c ≡ content file x
settled Zero x past c left = left.zero
settled One x past c left = left.one

no_more : (file : FileId) (x : Image) (past : List Change) (c : Image) → IsImage x (Made file Synced ∷ past) c → IsImage x past c
no_more Zero x past c left = record { zero = subst (λ (z : List ℕ). MayHold past Zero x.zero z) (sym left.zero) (reads_so past Zero x.zero); one = left.one; written = left.written }
no_more One x past c left = record { zero = left.zero; one = subst (λ (z : List ℕ). MayHold past One x.one z) (sym left.one) (reads_so past One x.one); written = left.written }

put_same : (file : FileId) (written : List ℕ) (d : GivenDisk) → put file (octets_of file d) (image written d) ≡ image written d
put_same Zero written d = refl
put_same One written d = refl

undone_same : (file : FileId) (x : Image) → image_before (Made file Synced) x ≡ x
undone_same Zero x = refl
undone_same One x = refl

pub syncs : {T E : Type 0} → (file : FileId) (result : Result T E) (written : List ℕ) (old new : GivenDisk)
    → OnOk result (Edits file Synced (octets_of file old) old new)
    → OnErr result (KeepsFiles old new)
    → Syncs file result (disk_world written old) (disk_world written new)
syncs {T} {E} file (Ok t) written old new done none =
    let x = image written old in
    at_world (λ (v : World). Syncs {T = T} {E = E} file (Ok t) (disk_world written old) v) written new x (Made file Synced ∷ old.past) (done.files written ∙ put_same file written old) done.past
    (record {
      same = refl;
      kept = settled file x old.past;
      crash = no_more file x old.past;
      time = elapses (Made file Synced) old.past x x (undone_same file x);
    })
syncs {T} {E} file (Err e) written old new done none =
    at_world (λ (v : World). Syncs {T = T} {E = E} file (Err e) (disk_world written old) v) written new (image written old) old.past (image_same written old new none) none.past
    (record { same = refl; kept = tt; crash = λ c left. left; time = no_time (disk_world written old) })
