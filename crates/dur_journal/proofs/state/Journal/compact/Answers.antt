use Rattle.std.proofs.Common.{◌≡◌, ◌+◌, ◌<◌, ◌≤◌, ◌^◌, length, refl, rules, arith}
use Rattle.dur_outside.specs.World.{IsClean, put}
use Rattle.dur_record.specs.WholeTexts.{view_text}
use Rattle.dur_journal.specs.Steps.{gated, file_text}
use Rattle.dur_journal.proofs.News.{IsNew}
use Rattle.dur_journal.proofs.Standing.{compact_leaves, compact_stands}
use Rattle.dur_journal.proofs.state.Journal.compact.Goals as goal

pub returns-then-is_err-clause-run : goal.returns-then-is_err-clause-run
returns-then-is_err-clause-run g c told plan k stands whole =
    let w = g.D.Machine.world in
    let view = c.args.view.now in
    let next = c.args.self.generation + 1 in
    let text : c.deref.result.now ≡ file_text next (view_text view) = search rules in
    let fits : next < 2 ^ 32 = omega arith in
    let bound : length (view_text view) ≤ 2 ^ 30 = omega (arith, c.in-Ok.ensures.base, c.in-Ok.ensures.bound) in
    let new : IsNew plan c.deref.result.now next view = record { is = text; fits = fits; bound = bound; whole = whole; again = c.in-Ok.ensures.again } in
    compact_leaves plan k c.args.self (w c.args.self.disk) (w c.write_file.new.disk) view c.deref.result.now next c.other_file-file.result stands new refl c.other_file-file.ensures
    (c.write_file.ensures.run told)

pub returns-clause-run : goal.returns-clause-run
returns-clause-run g c told plan k stands whole =
    let w = g.D.Machine.world in
    let view = c.args.view.now in
    let next = c.args.self.generation + 1 in
    let text : c.deref.result.now ≡ file_text next (view_text view) = search rules in
    let fits : next < 2 ^ 32 = omega arith in
    let bound : length (view_text view) ≤ 2 ^ 30 = omega (arith, c.in-Ok.ensures.base, c.in-Ok.ensures.bound) in
    let new : IsNew plan c.deref.result.now next view = record { is = text; fits = fits; bound = bound; whole = whole; again = c.in-Ok.ensures.again } in
    compact_leaves plan k c.args.self (w c.args.self.disk) (w c.write_file.new.disk) view c.deref.result.now next c.other_file-file.result stands new refl c.other_file-file.ensures
    (c.write_file.ensures.run told)

pub returns-clause-ok : goal.returns-clause-ok
returns-clause-ok g c told plan k stands whole =
    let w = g.D.Machine.world in
    let view = c.args.view.now in
    let next = c.args.self.generation + 1 in
    let text : c.deref.result.now ≡ file_text next (view_text view) = search rules in
    let fits : next < 2 ^ 32 = omega arith in
    let bound : length (view_text view) ≤ 2 ^ 30 = omega (arith, c.in-Ok.ensures.base, c.in-Ok.ensures.bound) in
    let new : IsNew plan c.deref.result.now next view = record { is = text; fits = fits; bound = bound; whole = whole; again = c.in-Ok.ensures.again } in
    let clean-if = c.write_file.ensures.clean told in
    let done-if = c.write_file.ensures.done told in
    let clean : IsClean (w c.write_file.new.disk) = search rules in
    let done : (w c.write_file.new.disk).now ≡ put c.other_file-file.result (gated 1 c.deref.result.now) (w c.args.self.disk).now = search rules in
    compact_stands plan k c.args.self _ (w c.args.self.disk) (w c.write_file.new.disk) view c.deref.result.now stands new refl c.other_file-file.ensures refl c.in-Ok.ensures.base refl done clean
