use Rattle.std.proofs.Common.{◌≡◌, ◌+◌, ◌++◌, ◌∷◌, [], ◌≤◌, ◌^◌, length, refl, rules, arith, ap}
use Rattle.dur_outside.specs.World.{IsClean, put, over, content}
use Rattle.dur_outside.proofs.Runs.{weaker}
use Rattle.dur_record.specs.Texts.{entries_text}
use Rattle.dur_journal.specs.Steps.{record_text}
use Rattle.dur_journal.proofs.Standing.{append_leaves, append_stands}
use Rattle.dur_journal.proofs.state.Journal.commit.Goals as goal

pub returns-then-is_err-clause-run : goal.returns-then-is_err-clause-run
returns-then-is_err-clause-run g c told plan k stands follows =
    let w = g.D.Machine.world in
    let es = c.args.batch.now.entries in
    let gate = 25 + c.args.self.base + c.args.self.appended in
    let text : c.deref.result.now ≡ record_text (entries_text es) = search rules in
    let bound : length (entries_text es) ≤ 2 ^ 28 = omega (arith, c.in-Ok.ensures.bound, c.requires.count) in
    weaker (w c.args.self.disk) (w c.append.new.disk) _ _ (c.append.ensures.run told)
    (λ i change. append_leaves plan k c.args.self (w c.args.self.disk) es gate c.deref.result.now i stands (c.in-Ok.ensures.again k.history follows) bound refl text change)

pub returns-clause-run : goal.returns-clause-run
returns-clause-run g c told plan k stands follows =
    let w = g.D.Machine.world in
    let es = c.args.batch.now.entries in
    let gate = 25 + c.args.self.base + c.args.self.appended in
    let text : c.deref.result.now ≡ record_text (entries_text es) = search rules in
    let bound : length (entries_text es) ≤ 2 ^ 28 = omega (arith, c.in-Ok.ensures.bound, c.requires.count) in
    weaker (w c.args.self.disk) (w c.append.new.disk) _ _ (c.append.ensures.run told)
    (λ i change. append_leaves plan k c.args.self (w c.args.self.disk) es gate c.deref.result.now i stands (c.in-Ok.ensures.again k.history follows) bound refl text change)

pub returns-clause-ok : goal.returns-clause-ok
returns-clause-ok g c told plan k stands follows =
    let w = g.D.Machine.world in
    let es = c.args.batch.now.entries in
    let gate = 25 + c.args.self.base + c.args.self.appended in
    let text : c.deref.result.now ≡ record_text (entries_text es) = search rules in
    let bound : length (entries_text es) ≤ 2 ^ 28 = omega (arith, c.in-Ok.ensures.bound, c.requires.count) in
    let clean-if = c.append.ensures.clean told in
    let done-if = c.append.ensures.done told in
    let clean : IsClean (w c.append.new.disk) = search rules in
    let done : (w c.append.new.disk).now ≡ put c.args.self.live (over gate (1 ∷ []) (content c.args.self.live (w c.args.self.disk).now ++ c.deref.result.now)) (w c.args.self.disk).now = search rules in
    let body : c.in-Ok.body ≡ entries_text es = c.in-Ok.ensures.text in
    let size : c.args.self.appended + 5 + c.len-size.result ≡ c.args.self.appended + (5 + length (entries_text es)) = omega (arith, ap length body, c.len-size.ensures) in
    append_stands plan k c.args.self _ (w c.args.self.disk) (w c.append.new.disk) es gate c.deref.result.now stands (c.in-Ok.ensures.again k.history follows) bound refl text refl refl refl refl size done clean
