use Rattle.std.proofs.Common.{◌≡◌, ◌≤◌, ◌+◌, ◌^◌, length, drop, rules, arith, ap, sym, subst, Some}
use Rattle.std.proofs.lemmas.List.{length-drop}
use Rattle.dur_journal.specs.Texts.{version_of, view_in}
use Rattle.dur_journal.specs.File.{base_length, break_of, TextBreaks}
use Rattle.dur_journal.specs.Reading.{BreaksBehind}
use Rattle.dur_journal.proofs.Fronts.{open_is, open_long}
use Rattle.dur_journal.proofs.FileTexts.{text_base, text_ok, text_records, text_sound}
use Rattle.dur_journal.proofs.reading.text_of.Goals as goal

pub returns-then-len-lt-FRONT-clause-err : goal.returns-then-len-lt-FRONT-clause-err
returns-then-len-lt-FRONT-clause-err c n front = let long = open_long c.args.bytes n front in absurd (omega (arith, long))

pub returns-then-base-gt-LONGEST_BASE-clause-err : goal.returns-then-base-gt-LONGEST_BASE-clause-err
unfolding base_length
returns-then-base-gt-LONGEST_BASE-clause-err c n front =
    let opens = open_is c.args.bytes n front in
    let counted : c.u64_of-base.result ≡ base_length c.args.bytes = search rules in
    absurd (omega (arith, opens.bound, counted))

pub returns-in-Err-Breaks-clause-err : goal.returns-in-Err-Breaks-clause-err
unfolding base_length
returns-in-Err-Breaks-clause-err c n front =
    let x = c.args.bytes in
    let rest : c.advance.new.self ≡ drop 25 x = c.advance.ensures in
    let version : c.version_of-version.result ≡ version_of x = search rules in
    let counted : c.u64_of-base.result ≡ base_length x = search rules in
    let told = rw c.in-Err-Breaks.field-0-is at c.in-Err-Breaks.ensures.err in
    subst (λ n. TextBreaks x (25 + n)) (sym c.in-Err-Breaks.at-is) (text_base x _ _ _ _ rest version counted told)

pub returns-in-Ok-records_of-clause-ok : goal.returns-in-Ok-records_of-clause-ok
unfolding base_length
returns-in-Ok-records_of-clause-ok c n front =
    let x = c.args.bytes in
    let rest : c.advance.new.self ≡ drop 25 x = c.advance.ensures in
    let version : c.version_of-version.result ≡ version_of x = search rules in
    let counted : c.u64_of-base.result ≡ base_length x = search rules in
    text_ok x _ _ _ _ _ _ _ _ n front rest version counted c.in-Ok.ensures.whole c.in-Ok.ensures.ok c.in-Ok.ensures.rest c.in-Ok-records_of.ensures.ok

pub returns-in-Ok-records_of-clause-sound : goal.returns-in-Ok-records_of-clause-sound
returns-in-Ok-records_of-clause-sound c =
    let short : c.u64_of-base.result ≤ 2 ^ 30 = omega arith in
    text_sound c.version_of-version.result c.advance.new.self _ c.u64_of-base.result _ _ _ _ c.in-Ok.ensures.whole short c.in-Ok.ensures.ok c.in-Ok-records_of.ensures.follow

pub returns-in-Err-Breaks-records_of-clause-err : goal.returns-in-Err-Breaks-records_of-clause-err
unfolding base_length
returns-in-Err-Breaks-records_of-clause-err c n front =
    let x = c.args.bytes in
    let rest : c.advance.new.self ≡ drop 25 x = c.advance.ensures in
    let version : c.version_of-version.result ≡ version_of x = search rules in
    let counted : c.u64_of-base.result ≡ base_length x = search rules in
    let told = rw c.in-Err-Breaks-records_of.field-0-is at c.in-Err-Breaks-records_of.ensures.err in
    subst (λ n. TextBreaks x (25 + c.u64_of-base.result + n)) (sym c.in-Err-Breaks-records_of.at-is)
    (text_records x _ _ _ _ _ _ n front rest version counted c.in-Ok.ensures.whole c.in-Ok.ensures.ok c.in-Ok.ensures.rest told)

pub overflow_add-result : goal.overflow_add-result
overflow_add-result c =
    let within : c.in-Err-Breaks.at ≤ length c.advance.new.self = rw c.in-Err-Breaks.field-0-is at c.in-Err-Breaks.ensures.within in
    let rest = ap length c.advance.ensures in
    rw c.in-Err-Breaks.at-is (omega (arith, within, rest, length-drop 25 c.args.bytes))
