-- The plan in front of a capture.
use Rattle.std.proofs.Common.{◌≡◌, ℕ, suc, ◌+◌, ◌≤◌, ◌^◌, List, [], ◌∷◌, ◌++◌, length, drop, Bool, true, cond, Option, Some, None, Result, Ok, Err, refl, sym, ap, subst, ◌∙◌, append-nil, length-append, arith, ◌⊎◌, inl, inr}
use Rattle.std.specs.Prelude.{IfSome, IfOk, IfErr, OnOk}
use Rattle.std.specs.Io.KnownBytes.{Consumes, IsAtEnd}
use Rattle.std.proofs.lemmas.Bool.{cases_Bool}
use Rattle.dur_qos.specs.declared.fault.PlanFault.{PlanFault}
use Rattle.dur_qos.specs.declared.fault.PlanKind.{PlanKind}
use Rattle.dur_qos.specs.declared.fault.PlanKind.TheVariants as kind
use Rattle.dur_qos.specs.Reading.{Reading, start, after, taken, octet, is_done, RunsOut}
use Rattle.dur_qos.specs.Text.{PlanText, IsFault}
use Rattle.dur_qos.proofs.Runs.{after_append, taken_append}
use Rattle.dur_qos.proofs.Texts.{no_further}
use Rattle.dur_qos.proofs.Verdicts.{ended_plan, push_says, finish_says}
use Rattle.dur_rerun.specs.declared.input.plan.Opened.{Opened}
use Rattle.dur_rerun.specs.declared.status.Status.{Status}
use Rattle.dur_rerun.specs.declared.status.Status.TheVariants.{OutOfMemory}
use Rattle.dur_rerun.specs.Input.Breaks.{line_status, plan_status, PlanBreaks, EndsPlan, StopsPlan}
use Rattle.dur_rerun.specs.Input.Plan.{begun, Opens, EndsReading}
use Rattle.dur_rerun.proofs.Commands.{if_any}
use Rattle.dur_rerun.proofs.Rest.{told, none_left}

pub taken_most : (r : Reading) (bs : List ℕ) → taken r bs ≤ length bs
taken_most r [] = omega arith
taken_most r (b ∷ bs) = elim (cases_Bool (is_done r)) [
  | inl e ↦ let none : taken r (b ∷ bs) ≡ 0 = ap (λ (d : Bool). cond d 0 (1 + taken (octet r b) bs)) e in omega (arith, none)
  | inr e ↦ let one : taken r (b ∷ bs) ≡ 1 + taken (octet r b) bs = ap (λ (d : Bool). cond d 0 (1 + taken (octet r b) bs)) e in omega (arith, one, taken_most (octet r b) bs)
]

drop_past : (xs ys : List ℕ) (n : ℕ) → drop (length xs + n) (xs ++ ys) ≡ drop n ys
drop_past [] ys n = let none : 0 + n ≡ n = omega arith in ap (λ (m : ℕ). drop m ys) none
drop_past (x ∷ xs) ys n =
    let one : length (x ∷ xs) + n ≡ suc (length xs + n) = omega arith in
    ap (λ (m : ℕ). drop m (x ∷ (xs ++ ys))) one ∙ drop_past xs ys n

-- a reading that has ended behind these octets, of which it took so many of the last piece
pub opens_inside : (seen piece : List ℕ) (r g : Reading) (n before at : ℕ) (o : Opened)
    → r ≡ after start seen → before ≡ length seen → taken start seen ≡ length seen → g ≡ after r piece → n ≡ taken r piece → at ≡ before + n
    → (g.fault ≡ None) × (g.ended ≡ true) → g.plan ≡ Some o.plan → o.feed ≡ begun at (drop n piece) → at ≤ 2 ^ 40 → Opens (seen ++ piece) o
opens_inside seen piece r g n before at o reads size all step count at_is ended plan_is feed within =
    let whole : g ≡ after start (seen ++ piece) = step ∙ ap (λ (x : Reading). after x piece) reads ∙ sym (after_append start seen piece) in
    let t = ended_plan (seen ++ piece) o.plan (ap (λ (x : Reading). x.fault) (sym whole) ∙ ended.0) (ap (λ (x : Reading). x.ended) (sym whole) ∙ ended.1) (ap (λ (x : Reading). x.plan) (sym whole) ∙ plan_is) in
    let m : ℕ = t.0 in
    let text_to : PlanText (seen ++ piece) o.plan m = t.1 in
    let same : taken r piece ≡ taken (after start seen) piece = ap (λ (x : Reading). taken x piece) reads in
    let place : at ≡ m = omega (arith, no_further (seen ++ piece) o.plan m text_to, taken_append start seen piece, same, all, size, count, at_is) in
    let where_is : length seen + n ≡ at = omega (arith, at_is, size) in
    let dropped : drop n piece ≡ drop at (seen ++ piece) = sym (drop_past seen piece n) ∙ ap (λ (k : ℕ). drop k (seen ++ piece)) where_is in
    record {
      n = at;
      plan_is = subst (PlanText (seen ++ piece) o.plan) (sym place) text_to;
      feed_is = feed ∙ ap (begun at) dropped;
      within = within;
    }

-- a reading that has ended at the end of the input
pub opens_last : (seen : List ℕ) (r : Reading) (before : ℕ) (o : Opened)
    → r ≡ after start seen → before ≡ length seen → taken start seen ≡ length seen
    → (r.fault ≡ None) × (r.ended ≡ true) → r.plan ≡ Some o.plan → o.feed ≡ begun (before + 0) [] → before ≤ 2 ^ 40 → Opens seen o
opens_last seen r before o reads size all ended plan_is feed within =
    subst (λ (l : List ℕ). Opens l o) (append-nil seen)
    (opens_inside seen [] r r 0 before (before + 0) o reads size all refl refl refl ended plan_is feed (omega (arith, within)))

-- a piece more, all of which was taken
pub piece_taken : (seen piece : List ℕ) (r : Reading) (n count : ℕ) → r ≡ after start seen → taken start seen ≡ length seen → n ≡ taken r piece → length piece ≡ count → count ≤ n
    → taken start (seen ++ piece) ≡ length (seen ++ piece)
piece_taken seen piece r n count reads all is len most =
    let same : taken r piece ≡ taken (after start seen) piece = ap (λ (x : Reading). taken x piece) reads in
    omega (arith, taken_append start seen piece, same, all, is, len, most, taken_most r piece, length-append seen piece)

pub reads_piece : (seen piece : List ℕ) (r g : Reading) → r ≡ after start seen → g ≡ after r piece → g ≡ after start (seen ++ piece)
reads_piece seen piece r g reads step = step ∙ ap (λ (x : Reading). after x piece) reads ∙ sym (after_append start seen piece)

-- ---- the status of a fault

ends_line : (line : ℕ) (k : PlanKind) → EndsPlan (line_status line k)
ends_line line kind.OutOfMemory = tt
ends_line line kind.Word = λ no. absurd cc
ends_line line kind.Number = λ no. absurd cc
ends_line line kind.Twice = λ no. absurd cc
ends_line line kind.UnknownTopic = λ no. absurd cc
ends_line line kind.DepthAboveLimit = λ no. absurd cc
ends_line line kind.TooMany = λ no. absurd cc

pub ends_fault : (e : PlanFault) (s : Status) → s ≡ plan_status e → EndsPlan s
ends_fault e s is = subst EndsPlan (sym is) (ends_line e.line e.kind)

stops_line : (bytes : List ℕ) (line : ℕ) (k : PlanKind) → (k ≡ kind.OutOfMemory) ⊎ PlanBreaks bytes line k → StopsPlan bytes (line_status line k)
stops_line bytes line kind.OutOfMemory h = tt
stops_line bytes line kind.Word h = elim h [ inl other ↦ absurd cc | inr b ↦ b ]
stops_line bytes line kind.Number h = elim h [ inl other ↦ absurd cc | inr b ↦ b ]
stops_line bytes line kind.Twice h = elim h [ inl other ↦ absurd cc | inr b ↦ b ]
stops_line bytes line kind.UnknownTopic h = elim h [ inl other ↦ absurd cc | inr b ↦ b ]
stops_line bytes line kind.DepthAboveLimit h = elim h [ inl other ↦ absurd cc | inr b ↦ b ]
stops_line bytes line kind.TooMany h = elim h [ inl other ↦ absurd cc | inr b ↦ b ]

stops_fault : (bytes : List ℕ) (e : PlanFault) (s : Status) → s ≡ plan_status e → (e.kind ≡ kind.OutOfMemory) ⊎ IsFault bytes e → StopsPlan bytes s
stops_fault bytes e s is h = subst (StopsPlan bytes) (sym is) (stops_line bytes e.line e.kind h)

-- a fault at a piece
pub push_told : (known now : Option (List ℕ)) (seen piece : List ℕ) (r g : Reading) (e : PlanFault) (s : Status) → s ≡ plan_status e → Consumes known now (seen ++ piece) → r ≡ after start seen
    → (g.fault ≡ Some e) × (RunsOut r piece g ⊎ (g ≡ after r piece)) → IfSome known (λ bytes. StopsPlan bytes s)
push_told known now seen piece r g e s is consumed reads err =
    told known now (seen ++ piece) (λ bytes. StopsPlan bytes s) consumed
    (λ more left. stops_fault ((seen ++ piece) ++ more) e s is (push_says ((seen ++ piece) ++ more) seen piece more r g e reads refl err).1)

-- a reading that ends without a plan
pub ends_reading : (r : Reading) (s : Status) → EndsReading r s → EndsPlan s
ends_reading r s err = elim err [ inl memory ↦ subst EndsPlan (sym memory) tt | inr told ↦ ends_fault told.0 s told.2 ]

-- a fault at the end of the input
pub last_told : (known now : Option (List ℕ)) (seen : List ℕ) (r : Reading) (s : Status) → Consumes known now seen → IsAtEnd now → r ≡ after start seen → EndsReading r s → IfSome known (λ bytes. StopsPlan bytes s)
last_told known now seen r s consumed end reads err =
    told known now seen (λ bytes. StopsPlan bytes s) consumed
    (λ more left. subst (λ (l : List ℕ). StopsPlan l s) (sym (ap (λ (t : List ℕ). seen ++ t) (none_left now more end left) ∙ append-nil seen))
    (elim err [
      | inl memory ↦ subst (StopsPlan seen) (sym memory) tt
      | inr fault ↦ stops_fault seen fault.0 s fault.2 (finish_says seen r (Err fault.0) reads tt fault.1).1
    ]))

-- want of memory
pub memory_told : (known : Option (List ℕ)) (s : Status) → s ≡ OutOfMemory → IfSome known (λ bytes. StopsPlan bytes s)
memory_told known s is = if_any known (λ bytes. StopsPlan bytes s) (λ bytes. subst (StopsPlan bytes) (sym is) tt)

pub sized : (seen piece : List ℕ) (before count : ℕ) → before ≡ length seen → length piece ≡ count → before + count ≡ length (seen ++ piece)
sized seen piece before count size len = omega (arith, size, len, length-append seen piece)

-- what a reading that ended with the input makes
pub opened_last : (result : Result Opened Status) (known now : Option (List ℕ)) (seen : List ℕ) (r : Reading) (before : ℕ) → r ≡ after start seen → before ≡ length seen → taken start seen ≡ length seen
    → OnOk result ((r.fault ≡ None) × (r.ended ≡ true)) → IfOk result (λ o. (r.plan ≡ Some o.plan) × (o.feed ≡ begun (before + 0) [])) → Consumes known now seen → before ≤ 2 ^ 40
    → IfOk result (λ o. (x : List ℕ) × Consumes known now x × Opens x o)
opened_last (Ok o) known now seen r before reads size all ended ok consumed within = (seen, consumed, opens_last seen r before o reads size all ended ok.0 ok.1 within)
opened_last (Err s) known now seen r before reads size all ended ok consumed within = tt

-- where it made none
pub ended_last : (result : Result Opened Status) (known now : Option (List ℕ)) (seen : List ℕ) (r : Reading) → Consumes known now seen → IsAtEnd now → r ≡ after start seen → IfErr result (λ s. EndsReading r s) → IfErr result (λ s. IfSome known (λ bytes. StopsPlan bytes s))
ended_last (Ok o) known now seen r consumed end reads err = tt
ended_last (Err s) known now seen r consumed end reads err = last_told known now seen r s consumed end reads err
