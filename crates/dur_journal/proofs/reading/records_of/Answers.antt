use Rattle.std.proofs.Common.{◌≡◌, ◌∷◌, ◌+◌, ◌-◌, ◌++◌, ℕ, drop, length, arith, rules, Some, sym, subst, ap}
use Rattle.std.proofs.lemmas.Grind.{common_steps}
use Rattle.dur_view.specs.History.{Start, ◌+>◌}
use Rattle.dur_journal.specs.File.{record_break}
use Rattle.dur_journal.specs.Reading.{BreaksBehind}
use Rattle.dur_journal.proofs.Records.{SoFar, breaks_at, so_far_more}
use Rattle.dur_journal.proofs.reading.records_of.Goals as goal

pub records-preserved : goal.records-preserved
records-preserved c =
    let at = c.records in
    let h = Start c.args.start.now +> at.all.items in
    let is : at.rest ≡ 1 ∷ c.advance.new.self = grind (arith, common_steps) in
    let next = so_far_more c.args.version c.args.start.now c.args.bytes at.rest c.advance.new.self c.in-Ok-record_of.next at.all.items c.in-Ok-record_of.entries at.count _ _ _
    at.invariant is (c.in-Ok-record_of.ensures.ok h at.invariant.knows) (c.in-Ok-record_of.ensures.past h at.invariant.knows) c.in-Ok-record_of.ensures.rest in
    let added-if = c.add_all.ensures in
    let added : c.add_all.new.all.items ≡ at.all.items ++ c.in-Ok-record_of.entries = search rules in
    rw added next

pub returns-in-Err-Breaks-clause-err : goal.returns-in-Err-Breaks-clause-err
returns-in-Err-Breaks-clause-err c =
    let at = c.records in
    let h = Start c.args.start.now +> at.all.items in
    let is : at.rest ≡ 1 ∷ c.advance.new.self = grind (arith, common_steps) in
    let breaks : record_break c.args.version h c.advance.new.self ≡ Some c.in-Err-Breaks.inside = rw c.in-Err-Breaks.field-0-is at (c.in-Err-Breaks.ensures.err h at.invariant.knows) in
    let within = at.invariant.progress.within in
    subst (λ (n : ℕ). BreaksBehind c.args.version (Start c.args.start.now) c.args.bytes (c.len-whole.result - c.len.result + 1 + n)) (sym c.in-Err-Breaks.inside-is)
    (breaks_at c.args.version (Start c.args.start.now) h c.args.bytes at.rest c.advance.new.self at.count c.in-Err-Breaks.inside _ at.invariant.progress is breaks (omega (arith, within, c.len-whole.ensures, c.len.ensures)))
