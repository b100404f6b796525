use Rattle.std.proofs.Common.{◌≡◌, ℕ, ◌<◌, ◌≤◌, max, [], length, refl, sym, ap, ◌∙◌, subst, arith}
use Rattle.std.specs.Vec.{with_item}
use Rattle.dur_view.specs.declared.change.TopicEvent.TheVariants.{Gone}
use Rattle.dur_view.specs.Past.{◌▹◌}
use Rattle.dur_instances.specs.Trimmed.{Trimmed}
use Rattle.dur_instances.specs.Stands.{Stands}
use Rattle.dur_store.specs.declared.writer.Writer.{Writer}
use Rattle.dur_store.specs.Parts.{line_of}
use Rattle.dur_store.proofs.Lists.{got}
use Rattle.dur_store.proofs.Entries.{one-got, keeps-lost}
use Rattle.dur_store.proofs.Known.{none-known, place-known, topic-known}
use Rattle.dur_store.proofs.store.Store.lose.Goals as goal

pub returns-clause-ok : goal.returns-clause-ok
returns-clause-ok c = λ h keeps follows.
    let s = c.args.self.now in
    let place = c.in-Some.place in
    let old = c.index.result.now in
    let x = c.index-2.result.now in
    let y = c.lost.new.self in
    let in_writers : place < length s.writers.items = (let len = s.writers.ok.0 in omega arith) in
    let in_topics : old.topic < length s.topics.items = (let len = s.topics.ok.0 in omega arith) in
    let lent = got s.writers.items s.writers.items place old refl in_writers c.index.ensures in
    let there = got s.topics.items s.topics.items old.topic x refl in_topics c.index-2.ensures in
    let own = one-got s.writers.items place _ old (got s.writers.items s.writers.items place c.index_mut-2.result.now refl in_writers c.index_mut-2.ensures.value) lent in
    let same = one-got s.topics.items old.topic _ x (got s.topics.items s.topics.items old.topic c.index_mut.result.now refl in_topics c.index_mut.ensures.value) there in
    let taken : c.later-taken.result ≡ max c.args.moment x.last = c.later-taken.ensures ∙ ap (λ (k : ℕ). max c.args.moment k) c.last.ensures in
    keeps-lost s (record { outline = c.stamp.new.outline; writers = with_item s.writers place c.let_go.new.writer; index = s.index; sets = c.lost-2.new.self; topics = with_item s.topics old.topic y; needed = s.needed; used_writer = s.used_writer; used_topic = s.used_topic })
    h c.args.moment c.args.writer place old c.let_go.new.writer x y keeps follows (sym c.in-Some.ensures) lent there
    (c.let_go.ensures.line ∙ ap (λ (w : Writer). record (line_of w) { held = [] }) own)
    (λ p st. subst (λ (k : ℕ). Stands y (p ▹ Gone k place)) taken (c.lost.ensures.stands p (subst (λ (t : Trimmed). Stands t p) (sym same) st)))
    (c.lost.ensures.last ∙ taken)
    (λ line at. c.lost-2.ensures.stands h line c.args.moment keeps.sets keeps.history at)
    c.stamp.ensures refl (λ g. refl) refl
    (subst (λ (w : Writer). w.held.room ≤ c.let_go.new.writer.held.room) own c.let_go.ensures.room)
    (subst (λ (t : Trimmed). t.room ≤ y.room) same c.lost.ensures.room) (refl, (refl, refl))

pub returns-in_default-clause-memory : goal.returns-in_default-clause-memory
returns-in_default-clause-memory c = λ h keeps follows. absurd (none-known c.args.self.now h c.args.writer keeps follows.known (sym c.in_default.ensures))

pub returns-then-at-len-clause-memory : goal.returns-then-at-len-clause-memory
returns-then-at-len-clause-memory c = λ h keeps follows.
    let s = c.args.self.now in
    absurd (place-known s h c.args.writer c.in-Some.place keeps (sym c.in-Some.ensures) (let len = s.writers.ok.0 in omega arith))

pub returns-then-topic-len-clause-memory : goal.returns-then-topic-len-clause-memory
returns-then-topic-len-clause-memory c = λ h keeps follows.
    let s = c.args.self.now in
    let place = c.in-Some.place in
    let old = c.index.result.now in
    let in_writers : place < length s.writers.items = (let len = s.writers.ok.0 in omega arith) in
    let lent = got s.writers.items s.writers.items place old refl in_writers c.index.ensures in
    absurd (topic-known s h c.args.writer place old keeps (sym c.in-Some.ensures) lent (let len = s.topics.ok.0 in omega arith))
