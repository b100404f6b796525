-- A capture has one first break.
use Rattle.std.proofs.Common.{◌≡◌, ℕ, ◌+◌, ◌-◌, ◌^◌, List, ◌++◌, length, take, drop, refl, sym, ap, subst, ◌∙◌, length-append, arith, ◌⊎◌, inl, inr}
use Rattle.std.specs.Prelude.{Bool, true}
use Rattle.std.specs.List.{flat_map}
use Rattle.std.proofs.lemmas.List.{take_all, drop_at}
use Rattle.bytes.proofs.Ranges.{take-append_past}
use Rattle.dur_capture.specs.declared.record.Record.{Record}
use Rattle.dur_capture.specs.declared.fault.CapFault.{CapFault}
use Rattle.dur_capture.specs.declared.fault.CapFault.TheVariants.{LongDatagram, EndsInside, TooLong, OutOfMemory}
use Rattle.dur_capture.specs.Capture.{record_text, IsPart}
use Rattle.dur_capture.specs.Feeding.{Feeding, within, Breaks}
use Rattle.dur_capture.specs.Whole.{Feeds, CaptureWithin, BreaksAt, IsFault}
use Rattle.dur_capture.proofs.Unique.{IsStuck, one_split, part_stuck, long_stuck}
use Rattle.dur_capture.proofs.Settled.{one_break}
use Rattle.dur_capture.proofs.Runs.{capture_read}

-- the octets up to the limit are the records, and what lies within the limit of what is left
pub within_splits : (before : ℕ) (octets : List ℕ) (rs : List Record) (f : Feeding) → Feeds before octets rs f → take (2 ^ 40 - before) octets ≡ flat_map record_text rs ++ within f
within_splits before octets rs f fed =
    let handed = flat_map record_text rs in
    let len : length handed ≡ f.taken = omega (arith, ap length fed.splits.parts, length-append handed f.left, fed.count) in
    ap (take (2 ^ 40 - before)) fed.splits.parts
    ∙ take-append_past handed f.left (2 ^ 40 - (f.before + f.taken)) (2 ^ 40 - before) (omega (arith, len, fed.start, fed.within))

-- where a feed breaks off, no record stands within the limit
pub break_stuck : (e : CapFault) (f : Feeding) (ended : Bool) → Breaks f ended e → IsStuck (within f)
break_stuck (LongDatagram place) f ended b = long_stuck (within f) b.0
break_stuck (EndsInside place) f ended b = part_stuck (within f) (subst IsPart (sym (take_all (2 ^ 40 - (f.before + f.taken)) f.left (omega (arith, b.1)))) b.0)
break_stuck (TooLong place) f ended b = part_stuck (within f) b.0
break_stuck OutOfMemory f ended b = absurd b

same_feed : (f g : Feeding) → f.before ≡ g.before → f.taken ≡ g.taken → f.left ≡ g.left → f.fault ≡ g.fault → f ≡ g
same_feed f g before taken left fault =
    let a : Feeding = record { before = f.before; taken = f.taken; left = f.left; fault = f.fault } in
    let b : Feeding = record { before = g.before; taken = g.taken; left = g.left; fault = g.fault } in
    let by_fields : a ≡ b = cc in
    by_fields

one_feed : (before : ℕ) (octets : List ℕ) (rs qs : List Record) (f g : Feeding) → Feeds before octets rs f → Feeds before octets qs g → IsStuck (within f) → IsStuck (within g) → f ≡ g
one_feed before octets rs qs f g a b fstuck gstuck =
    let same : rs ≡ qs = (one_split rs qs (take (2 ^ 40 - before) octets) (within f) (within g) a.splits.each (within_splits before octets rs f a) fstuck b.splits.each (within_splits before octets qs g b) gstuck).0 in
    let handed : flat_map record_text rs ≡ flat_map record_text qs = ap (flat_map record_text) same in
    let rest = λ (l : List ℕ). drop (length l) octets in
    let ours : rest (flat_map record_text rs) ≡ f.left = ap (drop (length (flat_map record_text rs))) a.splits.parts ∙ drop_at (flat_map record_text rs) f.left _ refl in
    let theirs : rest (flat_map record_text qs) ≡ g.left = ap (drop (length (flat_map record_text qs))) b.splits.parts ∙ drop_at (flat_map record_text qs) g.left _ refl in
    let left : f.left ≡ g.left = sym ours ∙ ap rest handed ∙ theirs in
    same_feed f g (a.start ∙ sym b.start) (omega (arith, a.count, b.count, ap length left)) left (a.sound ∙ sym b.sound)

pub one_first : (d e : CapFault) (before : ℕ) (octets : List ℕ) (ended : Bool) → BreaksAt before octets ended d → BreaksAt before octets ended e → d ≡ e
one_first d e before octets ended a b =
    let same = one_feed before octets a.records b.records a.feed b.feed a.feeds b.feeds (break_stuck d a.feed ended a.breaks) (break_stuck e b.feed ended b.breaks) in
    one_break d e b.feed ended (subst (λ (f : Feeding). Breaks f ended d) same a.breaks) b.breaks

pub break_told : (e d : CapFault) (before : ℕ) (octets : List ℕ) → IsFault before octets true e → BreaksAt before octets true d → (e ≡ d) ⊎ (e ≡ OutOfMemory)
break_told OutOfMemory d before octets h b = inr refl
break_told (LongDatagram place) d before octets h b = inl (one_first (LongDatagram place) d before octets true h b)
break_told (EndsInside place) d before octets h b = inl (one_first (EndsInside place) d before octets true h b)
break_told (TooLong place) d before octets h b = inl (one_first (TooLong place) d before octets true h b)

pub no_break : (d : CapFault) (before : ℕ) (octets : List ℕ) (rs : List Record) → CaptureWithin before octets rs → BreaksAt before octets true d → ⊥
no_break OutOfMemory before octets rs whole b = b.breaks
no_break (LongDatagram place) before octets rs whole b = let e : LongDatagram place ≡ OutOfMemory = capture_read (LongDatagram place) before octets rs whole b in absurd cc
no_break (EndsInside place) before octets rs whole b = let e : EndsInside place ≡ OutOfMemory = capture_read (EndsInside place) before octets rs whole b in absurd cc
no_break (TooLong place) before octets rs whole b = let e : TooLong place ≡ OutOfMemory = capture_read (TooLong place) before octets rs whole b in absurd cc
