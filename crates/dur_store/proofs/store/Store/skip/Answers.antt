use Rattle.std.proofs.Common.{◌<◌, length, refl, sym, arith}
use Rattle.std.specs.Vec.{with_item}
use Rattle.dur_store.proofs.Lists.{got}
use Rattle.dur_store.proofs.Entries.{keeps-skip}
use Rattle.dur_store.proofs.Known.{none-known, place-known}
use Rattle.dur_store.proofs.store.Store.skip.Goals as goal

pub returns-clause-ok : goal.returns-clause-ok
returns-clause-ok c = λ h from keeps follows.
    let s = c.args.self.now in
    let place = c.in-Some.place in
    let old = c.index_mut.result.now in
    let within : place < length s.writers.items = (let len = s.writers.ok.0 in omega arith) in
    keeps-skip s (record { outline = c.stamp.new.outline; writers = with_item s.writers place c.pass_over.new.writer; index = s.index; sets = c.skip.new.self; topics = s.topics; needed = s.needed; used_writer = s.used_writer; used_topic = s.used_topic })
    h c.args.moment c.args.writer from c.args.to place old c.pass_over.new.writer keeps follows (sym c.in-Some.ensures)
    (got s.writers.items s.writers.items place old refl within c.index_mut.ensures.value) c.pass_over.ensures.line
    (λ line at. c.skip.ensures.stands h line c.args.moment from c.args.to keeps.sets keeps.history at)
    c.stamp.ensures refl (λ g. refl) refl c.pass_over.ensures.room (refl, (refl, refl))

pub returns-in_default-clause-memory : goal.returns-in_default-clause-memory
returns-in_default-clause-memory c = λ h from keeps follows. absurd (none-known c.args.self.now h c.args.writer keeps follows.known (sym c.in_default.ensures))

pub returns-then-at-len-clause-memory : goal.returns-then-at-len-clause-memory
returns-then-at-len-clause-memory c = λ h from keeps follows.
    let s = c.args.self.now in
    absurd (place-known s h c.args.writer c.in-Some.place keeps (sym c.in-Some.ensures) (let len = s.writers.ok.0 in omega arith))
