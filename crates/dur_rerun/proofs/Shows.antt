-- Lines that are held one after the other, and go out together.
use Rattle.std.proofs.Common.{◌≡◌, ◌≢◌, ℕ, ◌+◌, ◌-◌, ◌<◌, ◌≤◌, ◌^◌, List, [], ◌∷◌, ◌++◌, length, Bool, true, false, Option, Ok, Err, Result, refl, sym, ap, subst, ◌∙◌, append_assoc, append-nil, length-append, arith, ◌⊎◌, inl, inr}
use Rattle.std.specs.Prelude.{IfSome, not, if◌then◌else◌}
use Rattle.std.specs.Io.KnownBytes.{Consumes, IsAtEnd}
use Rattle.dur_outside.specs.World.{Image}
use Rattle.dur_capture.specs.declared.record.Record.{Record}
use Rattle.dur_capture.specs.declared.fault.CapFault.{CapFault}
use Rattle.dur_capture.specs.declared.fault.CapFault.TheVariants as cap
use Rattle.dur_capture.specs.Capture.{record_text}
use Rattle.dur_capture.specs.Feeding.{Feeding, Takes, Waits, Breaks, Stops}
use Rattle.dur_capture.specs.Whole.{Feeds}
use Rattle.dur_capture.proofs.Runs.{goes_on, takes_octets, whole_is, stops_break, breaks_stay}
use Rattle.rtps_message.specs.declared.heard.Heard.{Heard}
use Rattle.rtps_message.specs.Messages.{Hears}
use Rattle.dur_rerun.specs.declared.show.printer.Printer.{Printer}
use Rattle.dur_rerun.specs.declared.status.Status.{Status}
use Rattle.dur_rerun.specs.declared.status.Status.TheVariants.{Done, Usage, OutOfMemory, Input, ReadFault, WriteFault, Plan, DiskFault, NotAJournal, PlanDiffers, Full, Worn, TooMany}
use Rattle.dur_rerun.specs.Command.{GoesOut}
use Rattle.dur_rerun.specs.Saying.{IsSaid, wrote}
use Rattle.dur_rerun.specs.Input.Breaks.{capture_status, EndsRefill}
use Rattle.dur_rerun.specs.Input.Records.{total, given, Refills}
use Rattle.dur_rerun.specs.Show.Line.{line, Shows}
use Rattle.dur_rerun.specs.Show.Printing.{ShowsRead, ShowsRest, HandsOn, IsCounted, IsFresh, HoldsLine, IsSame, Holds, HoldsUpTo, HoldsWhole, BreaksBy, EndsHolding}
use Rattle.dur_rerun.proofs.Commands.{all_out, said_more, wrote_more}
use Rattle.dur_rerun.proofs.Handing.{total_kept, total_grows}
use Rattle.dur_rerun.proofs.Rest.{told, all_told}

-- the line of one record more
pub shows_more : (own : List ℕ) (index : ℕ) (rs : List Record) (text : List ℕ) (r : Record) (heard : Heard) (at : ℕ) → Shows own index rs text → Hears own r.bytes heard → at ≡ index + length rs
    → Shows own index (rs ++ r ∷ []) (text ++ line at r heard)
shows_more own index [] text r heard at shows hears is =
    let same : at ≡ index = omega (arith, is) in
    (heard, [], hears, refl, ap (λ (t : List ℕ). t ++ line at r heard) shows ∙ ap (λ (n : ℕ). line n r heard) same ∙ sym (append-nil (line index r heard)))
shows_more own index (x ∷ rs) text r heard at shows hears is = (
  shows.0,
  shows.1 ++ line at r heard,
  shows.2,
  shows_more own (index + 1) rs shows.1 r heard at shows.3 hears (omega (arith, is)),
  ap (λ (t : List ℕ). t ++ line at r heard) shows.4 ∙ append_assoc (line index x shows.0) shows.1 (line at r heard),
)

-- ---- holding

-- nothing is printed yet
pub holds_fresh : (p : Printer) → IsFresh p → Holds p.own p.feed.before (p.feed.left ++ []) [] p
holds_fresh p fresh = record {
  records = [];
  text = [];
  feeds = record { splits = record { parts = append-nil p.feed.left; each = tt }; count = omega (arith, fresh.taken, length-append p.feed.left []); start = refl; within = omega (arith, fresh.taken, fresh.within); sound = fresh.sound };
  shows = refl;
  own_is = refl;
  count_is = fresh.count;
  text_is = sym fresh.held;
}

pub counted_fresh : (p : Printer) → IsFresh p → IsCounted p
counted_fresh p fresh = record { fewer = omega (arith, fresh.count); within = omega (arith, fresh.taken, fresh.within) }

-- a record was handed out, and its line is held
pub holds_next : (own : List ℕ) (before : ℕ) (octets sent : List ℕ) (p : Printer) (g : Feeding) (q : Printer) (r : Record) → Holds own before octets sent p → Takes p.feed r g → HoldsLine (record p { feed = g }) r q → Holds own before octets sent q
holds_next own before octets sent p g q r h takes l =
    let fed : Feeds before octets (h.records ++ r ∷ []) g = goes_on before octets h.records p.feed r g h.feeds takes in
    record {
      records = h.records ++ r ∷ [];
      text = h.text ++ line q.count r l.heard;
      feeds = subst (λ (f : Feeding). Feeds before octets (h.records ++ r ∷ []) f) (sym l.feed_is) fed;
      shows = shows_more own 1 h.records h.text r l.heard q.count h.shows (subst (λ (o : List ℕ). Hears o r.bytes l.heard) h.own_is l.hears) (omega (arith, l.count, h.count_is));
      own_is = l.own_is ∙ h.own_is;
      count_is = omega (arith, l.count, h.count_is, length-append h.records (r ∷ []));
      text_is = ap (λ (t : List ℕ). t ++ line q.count r l.heard) h.text_is ∙ append_assoc sent p.held.items (line q.count r l.heard) ∙ ap (λ (t : List ℕ). sent ++ t) (sym l.held);
    }

-- a record more is counted
pub counted_next : (p : Printer) (g : Feeding) (q : Printer) (r : Record) → IsCounted p → Takes p.feed r g → HoldsLine (record p { feed = g }) r q → IsCounted q
counted_next p g q r counted takes l =
    let feed : q.feed ≡ g = l.feed_is in
    let taken : q.feed.taken ≡ p.feed.taken + length (record_text r) = ap (λ (f : Feeding). f.taken) (feed ∙ takes.after) in
    let before : q.feed.before ≡ p.feed.before = ap (λ (f : Feeding). f.before) (feed ∙ takes.after) in
    let handed : g.taken ≡ p.feed.taken + length (record_text r) = ap (λ (f : Feeding). f.taken) takes.after in
    record { fewer = omega (arith, counted.fewer, taken, l.count); within = omega (arith, takes.within, before, taken, handed) }

-- ---- records that are handed out

pub hands_first : (f : Feeding) → HandsOn f f false
hands_first f = record { total_is = refl; before_is = refl; later = omega arith; more = λ no. absurd cc }

pub hands_next : (first : Feeding) (p : Printer) (g : Feeding) (q : Printer) (r : Record) (full : Bool) → HandsOn first p.feed false → Takes p.feed r g → HoldsLine (record p { feed = g }) r q → HandsOn first q.feed full
hands_next first p g q r full h takes l =
    let is : q.feed ≡ g = l.feed_is in
    let taken : q.feed.taken ≡ p.feed.taken + length (record_text r) = ap (λ (f : Feeding). f.taken) (is ∙ takes.after) in
    record {
      total_is = ap total is ∙ total_kept p.feed g r takes ∙ h.total_is;
      before_is = ap (λ (f : Feeding). f.before) (is ∙ takes.after) ∙ h.before_is;
      later = omega (arith, h.later, taken);
      more = λ f. omega (arith, h.later, taken);
    }

pub hands_same : (first g h : Feeding) → HandsOn first g false → h ≡ g → HandsOn first h false
hands_same first g h hands is = subst (λ (f : Feeding). HandsOn first f false) (sym is) hands

-- a room that is full brings the printing on
pub full_smaller : (f g x : Feeding) (full : Bool) (e : ℕ) → HandsOn f g full → full ≡ true → x ≡ g → g.before + g.taken ≤ 2 ^ 40
    → (2 ^ 40 + 65536 - total x) + (2 ^ 40 - (x.before + x.taken)) + e < (2 ^ 40 + 65536 - total f) + (2 ^ 40 - (f.before + f.taken)) + e
full_smaller f g x full e h is same within =
    let totals : total x ≡ total g = ap total same in
    let taken : x.taken ≡ g.taken = ap (λ (y : Feeding). y.taken) same in
    let before : x.before ≡ g.before = ap (λ (y : Feeding). y.before) same in
    omega (arith, h.total_is, h.before_is, h.more is, within, totals, taken, before)

pub not_true : (b : Bool) → not b ≡ true → b ≡ false
not_true true is = absurd cc
not_true false is = refl

abbrev steps_left : Bool → ℕ
steps_left e = if e then 0 else 1

-- a piece, or the end, brings the printing on
pub refill_smaller : (known now : Option (List ℕ)) (f g h : Feeding) (full more e : Bool) → HandsOn f g full → Waits g false → Refills known now g h more → e ≡ false
    → (2 ^ 40 + 65536 - total h) + (2 ^ 40 - (h.before + h.taken)) + (if not more then 0 else 1) < (2 ^ 40 + 65536 - total f) + (2 ^ 40 - (f.before + f.taken)) + (if e then 0 else 1)
refill_smaller known now f g h full true e hands waits r is =
    let one : steps_left e ≡ 1 = ap steps_left is in
    let grows : total h ≡ total g + length r.piece = total_grows g h r.piece r.given_is in
    let taken : h.taken ≡ g.taken = ap (λ (x : Feeding). x.taken) r.given_is in
    let before : h.before ≡ g.before = ap (λ (x : Feeding). x.before) r.given_is in
    omega (arith, hands.total_is, hands.before_is, hands.later, waits.within, r.some refl, grows, taken, before, one)
refill_smaller known now f g h full false e hands waits r is =
    let one : steps_left e ≡ 1 = ap steps_left is in
    let grows : total h ≡ total g + length r.piece = total_grows g h r.piece r.given_is in
    let none : length r.piece ≡ 0 = ap length (r.last refl).0 in
    let taken : h.taken ≡ g.taken = ap (λ (x : Feeding). x.taken) r.given_is in
    let before : h.before ≡ g.before = ap (λ (x : Feeding). x.before) r.given_is in
    omega (arith, hands.total_is, hands.before_is, hands.later, grows, none, taken, before, one)

-- the feed is the same one
pub holds_same : (own : List ℕ) (before : ℕ) (octets sent : List ℕ) (p : Printer) (g : Feeding) → Holds own before octets sent p → g ≡ p.feed → Holds own before octets sent (record p { feed = g })
holds_same own before octets sent p g h is = record {
  records = h.records;
  text = h.text;
  feeds = subst (λ (f : Feeding). Feeds before octets h.records f) (sym is) h.feeds;
  shows = h.shows;
  own_is = h.own_is;
  count_is = h.count_is;
  text_is = h.text_is;
}

pub counted_same : (p : Printer) (g : Feeding) → IsCounted p → g ≡ p.feed → IsCounted (record p { feed = g })
counted_same p g counted is =
    let taken : g.taken ≡ p.feed.taken = ap (λ (f : Feeding). f.taken) is in
    let before : g.before ≡ p.feed.before = ap (λ (f : Feeding). f.before) is in
    record { fewer = omega (arith, counted.fewer, taken); within = omega (arith, counted.within, taken, before) }

-- where the feed stops
breaks_by : (e : CapFault) (f : Feeding) (ended : Bool) → (e ≡ cap.OutOfMemory) ⊎ Breaks f ended e → BreaksBy f ended (capture_status e)
breaks_by cap.OutOfMemory f ended b = tt
breaks_by (cap.LongDatagram place) f ended b = elim b [ inl other ↦ absurd cc | inr q ↦ (refl, q) ]
breaks_by (cap.EndsInside place) f ended b = elim b [ inl other ↦ absurd cc | inr q ↦ (refl, q) ]
breaks_by (cap.TooLong place) f ended b = elim b [ inl other ↦ absurd cc | inr q ↦ (refl, q) ]

pub holds_stop : (e : CapFault) (s : Status) (own : List ℕ) (before : ℕ) (octets sent : List ℕ) (ended : Bool) (p : Printer) (g : Feeding) → s ≡ capture_status e → Holds own before octets sent p → Stops p.feed ended e g
    → HoldsUpTo own before octets sent ended s p.held.items
holds_stop e s own before octets sent ended p g is h stops = record {
  records = h.records;
  text = h.text;
  feed = p.feed;
  feeds = h.feeds;
  shows = h.shows;
  text_is = h.text_is;
  breaks = subst (λ (x : Status). BreaksBy p.feed ended x) (sym is) (breaks_by e p.feed ended (stops_break e p.feed g ended h.feeds.sound stops));
}

pub ends_stop : (e : CapFault) (s : Status) → s ≡ capture_status e → EndsHolding s
ends_stop e s is = subst EndsHolding (sym is) (of e) where
  of : (x : CapFault) → EndsHolding (capture_status x)
  of cap.OutOfMemory = tt
  of (cap.LongDatagram place) = refl
  of (cap.EndsInside place) = refl
  of (cap.TooLong place) = refl

-- where memory runs out at a record
pub holds_short : (s : Status) (own : List ℕ) (before : ℕ) (octets sent : List ℕ) (ended : Bool) (p q : Printer) (g : Feeding) → s ≡ OutOfMemory → Holds own before octets sent p → IsSame (record p { feed = g }) q
    → HoldsUpTo own before octets sent ended s q.held.items
holds_short s own before octets sent ended p q g is h same = record {
  records = h.records;
  text = h.text;
  feed = p.feed;
  feeds = h.feeds;
  shows = h.shows;
  text_is = h.text_is ∙ ap (λ (t : List ℕ). sent ++ t) (sym same.held);
  breaks = subst (λ (x : Status). BreaksBy p.feed ended x) (sym is) tt;
}

-- octets were given to the feed
pub holds_given : (own : List ℕ) (before : ℕ) (octets seen piece sent : List ℕ) (p : Printer) (g : Feeding) → Holds own before (octets ++ seen) sent p → g ≡ given piece p.feed → Holds own before (octets ++ (seen ++ piece)) sent (record p { feed = g })
holds_given own before octets seen piece sent p g h is = record {
  records = h.records;
  text = h.text;
  feeds = subst (λ (o : List ℕ). Feeds before o h.records g) (append_assoc octets seen piece) (subst (λ (f : Feeding). Feeds before ((octets ++ seen) ++ piece) h.records f) (sym is) (takes_octets before (octets ++ seen) h.records p.feed piece h.feeds));
  shows = h.shows;
  own_is = h.own_is;
  count_is = h.count_is;
  text_is = h.text_is;
}

pub counted_given : (p : Printer) (g : Feeding) (piece : List ℕ) → IsCounted p → g ≡ given piece p.feed → IsCounted (record p { feed = g })
counted_given p g piece counted is =
    let taken : g.taken ≡ p.feed.taken = ap (λ (f : Feeding). f.taken) is in
    let before : g.before ≡ p.feed.before = ap (λ (f : Feeding). f.before) is in
    record { fewer = omega (arith, counted.fewer, taken); within = omega (arith, counted.within, taken, before) }

-- ---- letting out

-- what is held was sent as well
pub holds_sent : (own : List ℕ) (before : ℕ) (octets sent : List ℕ) (p q : Printer) → Holds own before octets sent p → q.held.items ≡ [] → (q.own ≡ p.own) × (q.feed ≡ p.feed) × (q.count ≡ p.count) → Holds own before octets (sent ++ p.held.items) q
holds_sent own before octets sent p q h none same = record {
  records = h.records;
  text = h.text;
  feeds = subst (λ (f : Feeding). Feeds before octets h.records f) (sym same.1) h.feeds;
  shows = h.shows;
  own_is = same.0 ∙ h.own_is;
  count_is = same.2 ∙ h.count_is;
  text_is = h.text_is ∙ sym (append-nil (sent ++ p.held.items)) ∙ ap (λ (t : List ℕ). (sent ++ p.held.items) ++ t) (sym none);
}

pub counted_sent : (p q : Printer) → IsCounted p → (q.own ≡ p.own) × (q.feed ≡ p.feed) × (q.count ≡ p.count) → IsCounted q
counted_sent p q counted same =
    let taken : q.feed.taken ≡ p.feed.taken = ap (λ (f : Feeding). f.taken) same.1 in
    let before : q.feed.before ≡ p.feed.before = ap (λ (f : Feeding). f.before) same.1 in
    record { fewer = omega (arith, counted.fewer, taken, same.2); within = omega (arith, counted.within, taken, before) }

-- the text of what was read
pub record TextRead (own : List ℕ) (before : ℕ) (octets sent held : List ℕ) : Type 0 where
  pub text : List ℕ
  pub read : ShowsRead own before octets text
  pub text_is : text ≡ sent ++ held

pub text_read : (own : List ℕ) (before : ℕ) (octets sent : List ℕ) (ended : Bool) (r : Result Bool Status) (q : Printer) → HoldsWhole own before octets sent ended r q → TextRead own before octets sent q.held.items
text_read own before octets sent ended (Ok full) q h = record { text = h.0.text; read = record { records = h.0.records; feed = q.feed; read = h.0.feeds; shows = h.0.shows }; text_is = h.0.text_is }
text_read own before octets sent ended (Err s) q h = record { text = h.text; read = record { records = h.records; feed = h.feed; read = h.feeds; shows = h.shows }; text_is = h.text_is }

-- octets that follow what was read
read_more : (own : List ℕ) (before : ℕ) (octets more text : List ℕ) → ShowsRead own before octets text → ShowsRead own before (octets ++ more) text
read_more own before octets more text r = record { records = r.records; feed = given more r.feed; read = takes_octets before octets r.records r.feed more r.read; shows = r.shows }

not_nothing : (text sent held : List ℕ) → text ≡ sent ++ held → 0 < length held → text ≢ []
not_nothing text sent held is some none = absurd (omega (arith, some, ap length is, ap length none, length-append sent held))

-- a write failed
pub out_cut : (known mid : Option (List ℕ)) (own : List ℕ) (before : ℕ) (octets seen sent held : List ℕ) (s : Status) (tells : Type 0) (first old new : Image) → Consumes known mid seen → TextRead own before (octets ++ seen) sent held
    → s ≡ WriteFault → 0 < length held → (tells → old ≡ wrote sent first) → (tells → IsSaid held old new) → IfSome known (λ tail. GoesOut (ShowsRest own before) (octets ++ tail) s tells first new)
out_cut known mid own before octets seen sent held s tells first old new consumed r is some written said =
    told known mid seen (λ tail. GoesOut (ShowsRest own before) (octets ++ tail) s tells first new) consumed (λ more m.
    subst (λ (x : Status). GoesOut (ShowsRest own before) (octets ++ (seen ++ more)) x tells first new) (sym is) (record {
      text = r.text;
      answers = (not_nothing r.text sent held r.text_is some, subst (λ (o : List ℕ). ShowsRead own before o r.text) (append_assoc octets seen more) (read_more own before (octets ++ seen) more r.text r.read));
      all = λ cut t. absurd cut;
      front = λ t. subst (λ (x : List ℕ). IsSaid x first new) (sym r.text_is) (said_more sent held first old new (written t) (said t));
    }))

-- all that was held went out
all_held : (text sent held : List ℕ) (first old new : Image) → text ≡ sent ++ held → old ≡ wrote sent first → new ≡ wrote held old → new ≡ wrote text first
all_held text sent held first old new is written said = wrote_more sent held first old new written said ∙ ap (λ (t : List ℕ). wrote t first) (sym is)

stopped : (s : Status) (own : List ℕ) (before : ℕ) (octets : List ℕ) (sent held : List ℕ) (tells : Type 0) (first old new : Image) (h : HoldsUpTo own before octets sent true s held) → EndsHolding s → (tells → old ≡ wrote sent first) → (tells → new ≡ wrote held old)
    → GoesOut (ShowsRest own before) octets s tells first new
stopped OutOfMemory own before octets sent held tells first old new h ends written said =
    all_out (ShowsRest own before) octets h.text OutOfMemory tells first new (record { records = h.records; feed = h.feed; read = h.feeds; shows = h.shows }) (λ t. all_held h.text sent held first old new h.text_is (written t) (said t))
stopped (Input place fault) own before octets sent held tells first old new h ends written said =
    all_out (ShowsRest own before) octets h.text (Input place fault) tells first new (ends, record { records = h.records; feed = h.feed; read = h.feeds; breaks = h.breaks.1; shows = h.shows }) (λ t. all_held h.text sent held first old new h.text_is (written t) (said t))
stopped Done own before octets sent held tells first old new h ends written said = absurd ends
stopped Usage own before octets sent held tells first old new h ends written said = absurd ends
stopped DiskFault own before octets sent held tells first old new h ends written said = absurd ends
stopped (NotAJournal file at') own before octets sent held tells first old new h ends written said = absurd ends
stopped (PlanDiffers name) own before octets sent held tells first old new h ends written said = absurd ends
stopped (Full size) own before octets sent held tells first old new h ends written said = absurd ends
stopped Worn own before octets sent held tells first old new h ends written said = absurd ends
stopped TooMany own before octets sent held tells first old new h ends written said = absurd ends
stopped ReadFault own before octets sent held tells first old new h ends written said = absurd ends
stopped WriteFault own before octets sent held tells first old new h ends written said = absurd ends
stopped (Plan line kind) own before octets sent held tells first old new h ends written said = absurd ends

-- with octets that follow, at the end of which it breaks off as well
breaks_more : (s : Status) (f : Feeding) (more : List ℕ) → BreaksBy f false s → BreaksBy (given more f) true s
breaks_more OutOfMemory f more b = tt
breaks_more (Input place fault) f more b = (b.0, breaks_stay fault f more b.1)
breaks_more Done f more b = absurd b
breaks_more Usage f more b = absurd b
breaks_more DiskFault f more b = absurd b
breaks_more (NotAJournal file at') f more b = absurd b
breaks_more (PlanDiffers name) f more b = absurd b
breaks_more (Full size) f more b = absurd b
breaks_more Worn f more b = absurd b
breaks_more TooMany f more b = absurd b
breaks_more ReadFault f more b = absurd b
breaks_more WriteFault f more b = absurd b
breaks_more (Plan line kind) f more b = absurd b

up_to_more : (s : Status) (own : List ℕ) (before : ℕ) (octets more sent held : List ℕ) → HoldsUpTo own before octets sent false s held → HoldsUpTo own before (octets ++ more) sent true s held
up_to_more s own before octets more sent held h = record {
  records = h.records;
  text = h.text;
  feed = given more h.feed;
  feeds = takes_octets before octets h.records h.feed more h.feeds;
  shows = h.shows;
  text_is = h.text_is;
  breaks = breaks_more s h.feed more h.breaks;
}

-- the capture broke off, or memory ran out
pub out_stopped : (ended : Bool) (known mid : Option (List ℕ)) (s : Status) (own : List ℕ) (before : ℕ) (octets seen sent held : List ℕ) (tells : Type 0) (first old new : Image) → Consumes known mid seen → (ended ≡ true → IsAtEnd mid)
    → HoldsUpTo own before (octets ++ seen) sent ended s held → EndsHolding s → (tells → old ≡ wrote sent first) → (tells → new ≡ wrote held old) → IfSome known (λ tail. GoesOut (ShowsRest own before) (octets ++ tail) s tells first new)
out_stopped true known mid s own before octets seen sent held tells first old new consumed end h ends written said =
    all_told known mid seen octets (λ o. GoesOut (ShowsRest own before) o s tells first new) consumed (end refl) (stopped s own before (octets ++ seen) sent held tells first old new h ends written said)
out_stopped false known mid s own before octets seen sent held tells first old new consumed end h ends written said =
    told known mid seen (λ tail. GoesOut (ShowsRest own before) (octets ++ tail) s tells first new) consumed (λ more m.
    subst (λ (o : List ℕ). GoesOut (ShowsRest own before) o s tells first new) (append_assoc octets seen more)
    (stopped s own before ((octets ++ seen) ++ more) sent held tells first old new (up_to_more s own before (octets ++ seen) more sent held h) ends written said))

-- all was printed
pub out_done : (known mid : Option (List ℕ)) (own : List ℕ) (before : ℕ) (octets seen sent : List ℕ) (p : Printer) (tells : Type 0) (first old new : Image) → Consumes known mid seen → IsAtEnd mid → Holds own before (octets ++ seen) sent p → Waits p.feed true
    → (tells → old ≡ wrote sent first) → (tells → new ≡ wrote p.held.items old) → IfSome known (λ tail. GoesOut (ShowsRest own before) (octets ++ tail) Done tells first new)
out_done known mid own before octets seen sent p tells first old new consumed end h waits written said =
    all_told known mid seen octets (λ o. GoesOut (ShowsRest own before) o Done tells first new) consumed end
    (all_out (ShowsRest own before) (octets ++ seen) h.text Done tells first new (record { records = h.records; capture = whole_is before (octets ++ seen) h.records p.feed h.feeds waits; shows = h.shows }) (λ t. all_held h.text sent p.held.items first old new h.text_is (written t) (said t)))

-- a read failed, or there was no memory for what it gave
refill_answer : (s : Status) (own : List ℕ) (before : ℕ) (octets text : List ℕ) → EndsRefill s → ShowsRead own before octets text → ShowsRest own before octets text s
refill_answer OutOfMemory own before octets text ends r = r
refill_answer ReadFault own before octets text ends r = r
refill_answer Done own before octets text ends r = absurd ends
refill_answer Usage own before octets text ends r = absurd ends
refill_answer DiskFault own before octets text ends r = absurd ends
refill_answer (NotAJournal file at') own before octets text ends r = absurd ends
refill_answer (PlanDiffers name) own before octets text ends r = absurd ends
refill_answer (Full size) own before octets text ends r = absurd ends
refill_answer Worn own before octets text ends r = absurd ends
refill_answer TooMany own before octets text ends r = absurd ends
refill_answer WriteFault own before octets text ends r = absurd ends
refill_answer (Input place fault) own before octets text ends r = absurd ends
refill_answer (Plan line kind) own before octets text ends r = absurd ends

pub out_read : (known mid : Option (List ℕ)) (s : Status) (own : List ℕ) (before : ℕ) (octets seen sent held : List ℕ) (tells : Type 0) (first old new : Image) → Consumes known mid seen → TextRead own before (octets ++ seen) sent held → EndsRefill s
    → (tells → old ≡ wrote sent first) → (tells → new ≡ wrote held old) → IfSome known (λ tail. GoesOut (ShowsRest own before) (octets ++ tail) s tells first new)
out_read known mid s own before octets seen sent held tells first old new consumed r ends written said =
    told known mid seen (λ tail. GoesOut (ShowsRest own before) (octets ++ tail) s tells first new) consumed (λ more m.
    all_out (ShowsRest own before) (octets ++ (seen ++ more)) r.text s tells first new
    (refill_answer s own before (octets ++ (seen ++ more)) r.text ends (subst (λ (o : List ℕ). ShowsRead own before o r.text) (append_assoc octets seen more) (read_more own before (octets ++ seen) more r.text r.read)))
    (λ t. all_held r.text sent held first old new r.text_is (written t) (said t)))
