-- Pieces of a source that are given to a feed one after the other.
use Rattle.std.proofs.Common.{◌≡◌, ℕ, zero, suc, length-append, ◌+◌, ◌-◌, ◌<◌, ◌≤◌, ◌^◌, List, [], ◌++◌, length, take, Bool, true, false, Option, refl, sym, ap, subst, ◌∙◌, append_assoc, append-nil, arith}
use Rattle.std.specs.Prelude.{nat_lt}
use Rattle.std.proofs.lemmas.Bool.{ltb-true, ltb-false}
use Rattle.std.proofs.lemmas.List.{length-take-le}
use Rattle.std.specs.Io.KnownBytes.{Consumes, IsAtEnd}
use Rattle.std.proofs.KnownBytes.{Consumes-trans}
use Rattle.dur_capture.specs.declared.record.Record.{Record}
use Rattle.dur_capture.specs.declared.fault.CapFault.{CapFault}
use Rattle.dur_capture.specs.declared.fault.CapFault.TheVariants as cap
use Rattle.dur_capture.specs.Capture.{record_text}
use Rattle.dur_capture.specs.Feeding.{Feeding, Takes, Waits, Stops}
use Rattle.dur_rerun.specs.declared.status.Status.{Status}
use Rattle.dur_rerun.specs.declared.status.Status.TheVariants.{Done, Usage, OutOfMemory, Input, ReadFault, WriteFault, Plan, DiskFault, NotAJournal, PlanDiffers, Full, Worn, TooMany}
use Rattle.dur_rerun.specs.Input.Breaks.{capture_status, EndsRecords, EndsRefill}
use Rattle.dur_rerun.specs.Input.Records.{total, given, Refills, HandsOut, Ends, BreaksOff, StopsRecords}

pub given_more : (a b : List ℕ) (f : Feeding) → given b (given a f) ≡ given (a ++ b) f
given_more a b f = ap (λ (l : List ℕ). record f { left = l }) (append_assoc f.left a b)

pub given_nothing : (f : Feeding) → f ≡ given [] f
given_nothing f = ap (λ (l : List ℕ). record f { left = l }) (sym (append-nil f.left))

-- a piece more
pub given_next : (seen piece : List ℕ) (old f g : Feeding) → f ≡ given seen old → g ≡ given piece f → g ≡ given (seen ++ piece) old
given_next seen piece old f g p q = q ∙ ap (given piece) p ∙ given_more seen piece old

pub consumed_next : (known mid now : Option (List ℕ)) (old f g : Feeding) (seen : List ℕ) (more : Bool) → Consumes known mid seen → (r : Refills mid now f g more) → Consumes known now (seen ++ r.piece)
consumed_next known mid now old f g seen more consumed r = Consumes-trans known mid now seen r.piece consumed r.consumed

pub hands_out : (known now : Option (List ℕ)) (seen : List ℕ) (old mid new : Feeding) (r : Record) → Consumes known now seen → mid ≡ given seen old → Takes mid r new → HandsOut known now old r new
hands_out known now seen old mid new r consumed is takes = record {
  seen = seen;
  consumed = consumed;
  takes = subst (λ (f : Feeding). Takes f r new) is takes;
}

-- ---- how many octets came

-- a record that is handed out changes no total
pub total_kept : (f g : Feeding) (r : Record) → Takes f r g → total g ≡ total f
total_kept f g r takes =
    let taken : g.taken ≡ f.taken + length (record_text r) = ap (λ (x : Feeding). x.taken) takes.after in
    let before : g.before ≡ f.before = ap (λ (x : Feeding). x.before) takes.after in
    omega (arith, taken, before, ap length takes.parts, length-append (record_text r) g.left)

pub total_grows : (f g : Feeding) (piece : List ℕ) → g ≡ record f { left = f.left ++ piece } → total g ≡ total f + length piece
total_grows f g piece is =
    let same : total g ≡ f.before + f.taken + length (f.left ++ piece) = ap total is in
    omega (arith, same, length-append f.left piece)

-- a piece that is not empty brings the reading nearer to the limit
pub nearer : (head f g : Feeding) (piece : List ℕ) (count : ℕ) → total f ≡ total head → Waits f false → g ≡ record f { left = f.left ++ piece } → length piece ≡ count → (count ≡ 0 → ⊥) → count ≤ 65536
    → (2 ^ 40 + 65536 - total g) < (2 ^ 40 + 65536 - total head)
nearer head f g piece zero same waits is len some most = absurd (some refl)
nearer head f g piece (suc n) same waits is len some most = omega (arith, same, waits.within, total_grows f g piece is, len, most)

-- ---- the status of a fault

pub ends_records : (e : CapFault) (s : Status) → s ≡ capture_status e → EndsRecords s
ends_records e s is = subst EndsRecords (sym is) (of e) where
  of : (x : CapFault) → EndsRecords (capture_status x)
  of cap.OutOfMemory = tt
  of (cap.LongDatagram place) = refl
  of (cap.EndsInside place) = refl
  of (cap.TooLong place) = refl

breaks_off : (e : CapFault) (known now : Option (List ℕ)) (seen : List ℕ) (old mid new : Feeding) (ended : Bool) → Consumes known now seen → (ended ≡ true → IsAtEnd now) → mid ≡ given seen old → Stops mid ended e new → BreaksOff known now old e
breaks_off e known now seen old mid new ended consumed end is stops = record {
  seen = seen;
  consumed = consumed;
  ended = ended;
  end = end;
  new = new;
  stops = subst (λ (f : Feeding). Stops f ended e new) is stops;
}

pub stops_records : (e : CapFault) (s : Status) (known now : Option (List ℕ)) (seen : List ℕ) (old mid new : Feeding) (ended : Bool) → s ≡ capture_status e → Consumes known now seen → (ended ≡ true → IsAtEnd now) → mid ≡ given seen old → Stops mid ended e new
    → StopsRecords known now old s
stops_records e s known now seen old mid new ended named consumed end is stops = subst (StopsRecords known now old) (sym named) (of e stops) where
  of : (x : CapFault) → Stops mid ended x new → StopsRecords known now old (capture_status x)
  of cap.OutOfMemory h = tt
  of (cap.LongDatagram place) h = breaks_off (cap.LongDatagram place) known now seen old mid new ended consumed end is h
  of (cap.EndsInside place) h = breaks_off (cap.EndsInside place) known now seen old mid new ended consumed end is h
  of (cap.TooLong place) h = breaks_off (cap.TooLong place) known now seen old mid new ended consumed end is h

-- no piece came
pub refill_ends : (s : Status) → EndsRefill s → EndsRecords s
refill_ends ReadFault ends = tt
refill_ends OutOfMemory ends = tt
refill_ends Done ends = absurd ends
refill_ends Usage ends = absurd ends
refill_ends DiskFault ends = absurd ends
refill_ends (NotAJournal file at') ends = absurd ends
refill_ends (PlanDiffers name) ends = absurd ends
refill_ends (Full size) ends = absurd ends
refill_ends Worn ends = absurd ends
refill_ends TooMany ends = absurd ends
refill_ends WriteFault ends = absurd ends
refill_ends (Input place fault) ends = absurd ends
refill_ends (Plan line kind) ends = absurd ends

pub refill_stops : (s : Status) (known now : Option (List ℕ)) (old : Feeding) → EndsRefill s → StopsRecords known now old s
refill_stops ReadFault known now old ends = tt
refill_stops OutOfMemory known now old ends = tt
refill_stops Done known now old ends = absurd ends
refill_stops Usage known now old ends = absurd ends
refill_stops DiskFault known now old ends = absurd ends
refill_stops (NotAJournal file at') known now old ends = absurd ends
refill_stops (PlanDiffers name) known now old ends = absurd ends
refill_stops (Full size) known now old ends = absurd ends
refill_stops Worn known now old ends = absurd ends
refill_stops TooMany known now old ends = absurd ends
refill_stops WriteFault known now old ends = absurd ends
refill_stops (Input place fault) known now old ends = absurd ends
refill_stops (Plan line kind) known now old ends = absurd ends

-- ---- pieces

-- the source is at its end, and the feed waits
pub ends : (known mid now : Option (List ℕ)) (seen : List ℕ) (old f g new : Feeding) (more : Bool) → Consumes known mid seen → f ≡ given seen old → Refills mid now f g more → more ≡ false → Waits g true × (new ≡ g) → Ends known now old new
ends known mid now seen old f g new more consumed is r last waits = record {
  seen = seen ++ r.piece;
  consumed = consumed_next known mid now old f g seen more consumed r;
  given_is = waits.1 ∙ given_next seen r.piece old f g is r.given_is;
  waits = subst (λ (h : Feeding). Waits h true) (sym waits.1) waits.0;
  end = (r.last last).1;
}

not_none : (piece : List ℕ) → 0 < length piece → length piece ≡ 0 → ⊥
not_none piece some none = absurd (omega (arith, some, none))

-- a piece brings the reading nearer to the limit
pub refill_nearer : (known now : Option (List ℕ)) (head f g : Feeding) (more : Bool) → f ≡ head → Waits head false → Refills known now f g more → more ≡ true → (2 ^ 40 + 65536 - total g) < (2 ^ 40 + 65536 - total head)
refill_nearer known now head f g more is waits r some =
    nearer head f g r.piece (length r.piece) (ap total is) (subst (λ (h : Feeding). Waits h false) (sym is) waits) r.given_is refl (not_none r.piece (r.some some)) r.few

nothing_taken : (n : ℕ) (buf : List ℕ) → n ≤ 0 → take n buf ≡ []
nothing_taken n buf few = let none : n ≡ 0 = omega (arith, few) in ap (λ (k : ℕ). take k buf) none

-- a read of so many octets
pub refills : (known now : Option (List ℕ)) (buf : List ℕ) (n : ℕ) (old new : Feeding) → n ≤ length buf → length buf ≤ 65536 → Consumes known now (take n buf) → (n ≡ 0 → IsAtEnd now) → new ≡ given (take n buf) old
    → Refills known now old new (nat_lt 0 n)
refills known now buf n old new within few consumed end is =
    let size : length (take n buf) ≡ n = length-take-le n buf within in
    record {
      piece = take n buf;
      consumed = consumed;
      given_is = is;
      few = omega (arith, size, within, few);
      some = λ more. omega (arith, size, ltb-true 0 n more);
      last = λ none. (nothing_taken n buf (ltb-false 0 n none), end (let zero : n ≡ 0 = omega (arith, ltb-false 0 n none) in zero));
    }
