-- What a feed answers is settled by what it has left.
use Rattle.std.proofs.Common.{◌≡◌, ℕ, ◌+◌, ◌-◌, ◌^◌, List, ◌++◌, length, take, sym, ap, ◌∙◌, arith, inl, inr}
use Rattle.std.specs.Prelude.{Bool, true, false}
use Rattle.bytes.proofs.Ranges.{take-append_past}
use Rattle.dur_capture.specs.declared.record.Record.{Record}
use Rattle.dur_capture.specs.declared.fault.CapFault.{CapFault}
use Rattle.dur_capture.specs.declared.fault.CapFault.TheVariants.{LongDatagram, EndsInside, TooLong, OutOfMemory}
use Rattle.dur_capture.specs.Capture.{record_text, IsPart, IsLong}
use Rattle.dur_capture.specs.Feeding.{Feeding, within, Takes, Waits, Breaks}
use Rattle.dur_capture.proofs.Unique.{part_stuck, long_stuck, long_of_front, same_record}

-- a record that is taken lies within the limit
front_within : (f : Feeding) (r : Record) (g : Feeding) → Takes f r g → within f ≡ record_text r ++ take ((2 ^ 40 - (f.before + f.taken)) - length (record_text r)) g.left
front_within f r g t =
    let room = 2 ^ 40 - (f.before + f.taken) in
    let taken : g.taken ≡ f.taken + length (record_text r) = ap (λ (x : Feeding). x.taken) t.after in
    ap (take room) t.parts ∙ take-append_past (record_text r) g.left (room - length (record_text r)) room (omega (arith, t.within, taken))

part_not_long : (bytes : List ℕ) → IsPart bytes → IsLong bytes → ⊥
part_not_long bytes part long = absurd (omega (arith, (part long.0).0, long.1))

pub waits_not_takes : (f : Feeding) (ended : Bool) (r : Record) (g : Feeding) → Waits f ended → Takes f r g → ⊥
waits_not_takes f ended r g w t = part_stuck f.left w.part r g.left t.fits t.parts

pub waits_not_breaks : (e : CapFault) (f : Feeding) (ended : Bool) → Waits f ended → Breaks f ended e → ⊥
waits_not_breaks (LongDatagram place) f ended w b = part_not_long f.left w.part (long_of_front (2 ^ 40 - (f.before + f.taken)) f.left b.0)
waits_not_breaks (EndsInside place) f ended w b = elim w.waiting [
  | inl none ↦ let len : length f.left ≡ 0 = ap length none in absurd (omega (arith, len, b.2))
  | inr more ↦ let no : false ≡ true = sym more ∙ b.3 in absurd cc
]
waits_not_breaks (TooLong place) f ended w b = absurd (omega (arith, w.within, b.1))
waits_not_breaks OutOfMemory f ended w b = b

pub takes_not_breaks : (e : CapFault) (f : Feeding) (ended : Bool) (r : Record) (g : Feeding) → Takes f r g → Breaks f ended e → ⊥
takes_not_breaks (LongDatagram place) f ended r g t b = long_stuck (within f) b.0 r _ t.fits (front_within f r g t)
takes_not_breaks (EndsInside place) f ended r g t b = part_stuck f.left b.0 r g.left t.fits t.parts
takes_not_breaks (TooLong place) f ended r g t b = part_stuck (within f) b.0 r _ t.fits (front_within f r g t)
takes_not_breaks OutOfMemory f ended r g t b = b

pub one_record : (f : Feeding) (r s : Record) (g h : Feeding) → Takes f r g → Takes f s h → (r ≡ s) × (g ≡ h)
one_record f r s g h t u =
    let same = same_record f.left r s g.left h.left t.fits t.parts u.fits u.parts in
    let first : r ≡ s = same.0 in
    let rest : g.left ≡ h.left = same.1 in
    let a : g ≡ record f { taken = f.taken + length (record_text r); left = g.left } = t.after in
    let b : h ≡ record f { taken = f.taken + length (record_text s); left = h.left } = u.after in
    (first, a ∙ ap (λ (x : Record). let n : Feeding = record f { taken = f.taken + length (record_text x); left = g.left } in n) first ∙ ap (λ (l : List ℕ). let n : Feeding = record f { taken = f.taken + length (record_text s); left = l } in n) rest ∙ sym b)

pub one_break : (d e : CapFault) (f : Feeding) (ended : Bool) → Breaks f ended d → Breaks f ended e → d ≡ e
one_break (LongDatagram p) (LongDatagram q) f ended a b = ap LongDatagram (a.1 ∙ sym b.1)
one_break (LongDatagram p) (EndsInside q) f ended a b = absurd (part_not_long f.left b.0 (long_of_front (2 ^ 40 - (f.before + f.taken)) f.left a.0))
one_break (LongDatagram p) (TooLong q) f ended a b = absurd (part_not_long (within f) b.0 a.0)
one_break (EndsInside p) (LongDatagram q) f ended a b = absurd (part_not_long f.left a.0 (long_of_front (2 ^ 40 - (f.before + f.taken)) f.left b.0))
one_break (EndsInside p) (EndsInside q) f ended a b = ap EndsInside (a.4 ∙ sym b.4)
one_break (EndsInside p) (TooLong q) f ended a b = absurd (omega (arith, a.1, b.1))
one_break (TooLong p) (LongDatagram q) f ended a b = absurd (part_not_long (within f) a.0 b.0)
one_break (TooLong p) (EndsInside q) f ended a b = absurd (omega (arith, a.1, b.1))
one_break (TooLong p) (TooLong q) f ended a b = let same : p ≡ q = omega (arith, a.2, b.2) in ap TooLong same
one_break OutOfMemory e f ended a b = absurd a
one_break d OutOfMemory f ended a b = absurd b
