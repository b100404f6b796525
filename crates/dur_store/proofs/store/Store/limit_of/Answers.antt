use Rattle.std.proofs.Common.{ℕ, ◌<◌, Option, List, ◌++◌, map, length, refl, sym, ap, ◌∙◌, subst, arith}
use Rattle.std.specs.Prelude.{max}
use Rattle.std.specs.Vec.{with_item}
use Rattle.dur_base.specs.declared.sample.Sample.{Sample}
use Rattle.dur_base.specs.declared.sample.SetMark.{SetMark}
use Rattle.dur_view.specs.declared.data.Held.{Held}
use Rattle.dur_view.specs.History.{held}
use Rattle.dur_view.specs.Refused.{is_over}
use Rattle.dur_instances.specs.Trimmed.{Trimmed}
use Rattle.dur_sets.specs.Tells.{Tells, closed, if_now}
use Rattle.dur_store.specs.declared.writer.Writer.{Writer}
use Rattle.dur_store.specs.Members.{IsPassed}
use Rattle.dur_store.specs.Places.{found}
use Rattle.dur_store.specs.Taking.{IsWhole}
use Rattle.dur_store.specs.Limits.{members_then}
use Rattle.dur_store.proofs.Lists.{got}
use Rattle.dur_store.proofs.Entries.{one-got, keeps-line}
use Rattle.dur_store.proofs.Refusing.{refused-is}
use Rattle.dur_store.proofs.Rooms.{all-stays, put-writers, few-same, same-topics}
use Rattle.dur_view.specs.declared.data.KeptWriter.{KeptWriter}
use Rattle.dur_store.proofs.Writers.{kept-at}
use Rattle.dur_store.proofs.Known.{none-known, place-known, topic-known}
use Rattle.dur_store.proofs.store.Store.limit_of.Goals as goal

pub returns-in-Ok-clause-limit : goal.returns-in-Ok-clause-limit
returns-in-Ok-clause-limit c = λ h keeps follows.
    let s = c.args.self.now in
    let w = c.args.writer in
    let n = c.args.number in
    let x = c.args.sample in
    let place = c.in-Some.place in
    let old = c.index.result.now in
    let topic = c.index-3.result.now in
    let answer = c.effect-effect.result in
    let late = c.later-taken.result in
    let max_held = c.max_held_of-max_held.result in
    let in_writers : place < length s.writers.items = (let len = s.writers.ok.0 in omega arith) in
    let in_topics : old.topic < length s.topics.items = (let len = s.topics.ok.0 in omega arith) in
    let lent = got s.writers.items s.writers.items place old refl in_writers c.index.ensures in
    let there = got s.topics.items s.topics.items old.topic topic refl in_topics c.index-3.ensures in
    let own = one-got s.writers.items place _ old (got s.writers.items s.writers.items place c.index_mut.result.now refl in_writers c.index_mut.ensures.value) lent in
    let line = one-got s.writers.items place _ old (got s.writers.items s.writers.items place c.index-2.result.now refl in_writers c.index-2.ensures) lent in
    let same = one-got s.topics.items old.topic _ topic (got s.topics.items s.topics.items old.topic c.index-4.result.now refl in_topics c.index-4.ensures) there in
    let kept = kept-at s.writers.items h place w (found s.index w) keeps.writers keeps.history (keeps.index w) (sym c.in-Some.ensures) in
    let samples : List Sample = map {A = Held} {B = Sample} (λ y. y.sample) (closed answer.before old.held.items) ++ if_now answer.now x in
    let passed : IsWhole answer.before old.held.items → IsPassed topic late samples c.in-Ok.limit =
    subst (λ (t : Trimmed). IsWhole answer.before old.held.items → IsPassed t late samples c.in-Ok.limit) same
    (subst (λ (v : Writer). IsWhole answer.before v.held.items → IsPassed c.index-4.result.now late (map {A = Held} {B = Sample} (λ y. y.sample) (closed answer.before v.held.items) ++ if_now answer.now x) c.in-Ok.limit) own
    c.in-Ok.ensures.limit) in
    refused-is s h c.args.moment w n x place old topic answer samples late c.is_held_over-is_over.result c.limit_with.result kept keeps follows
    (record {
      writer_is = lent;
      topic_is = there;
      tells = λ g l stands good at next. subst (λ (mark : SetMark). Tells (held g l.guid) n mark answer) c.mark_of.ensures (c.effect-effect.ensures g l stands good at next);
      samples_are = λ whole. refl;
      late_is = c.later-taken.ensures ∙ ap (λ (k : ℕ). max c.args.moment k) c.last.ensures;
      over_is = λ y.
          c.is_held_over-is_over.ensures y
          ∙ ap (λ (ws : List Writer). is_over max_held (members_then ws c.index-2.result.now answer y)) c.deref.ensures.value
          ∙ ap (λ (v : Writer). is_over max_held (members_then s.writers.items v answer y)) line
          ∙ ap (λ (o : Option ℕ). is_over o (members_then s.writers.items old answer y)) c.max_held_of-max_held.ensures;
    })
    (λ whole p es members st take over. c.limit_with.ensures topic late samples p es members (passed whole) st take over)

pub returns-in-Ok-clause-keeps : goal.returns-in-Ok-clause-keeps
returns-in-Ok-clause-keeps c = λ h keeps.
    let s = c.args.self.now in
    let place = c.in-Some.place in
    let in_writers : place < length s.writers.items = (let len = s.writers.ok.0 in omega arith) in
    keeps-line s (record { outline = s.outline; writers = with_item s.writers place c.would_pass.new.writer; index = s.index; sets = s.sets; topics = s.topics; needed = s.needed; used_writer = s.used_writer; used_topic = s.used_topic }) h place c.index_mut.result.now c.would_pass.new.writer keeps
    (got s.writers.items s.writers.items place c.index_mut.result.now refl in_writers c.index_mut.ensures.value) c.would_pass.ensures.line refl refl (λ g. refl) refl refl c.would_pass.ensures.room (refl, (refl, refl))

pub returns-in-Err-clause-keeps : goal.returns-in-Err-clause-keeps
returns-in-Err-clause-keeps c = λ h keeps.
    let s = c.args.self.now in
    let place = c.in-Some.place in
    let in_writers : place < length s.writers.items = (let len = s.writers.ok.0 in omega arith) in
    keeps-line s (record { outline = s.outline; writers = with_item s.writers place c.would_pass.new.writer; index = s.index; sets = s.sets; topics = s.topics; needed = s.needed; used_writer = s.used_writer; used_topic = s.used_topic }) h place c.index_mut.result.now c.would_pass.new.writer keeps
    (got s.writers.items s.writers.items place c.index_mut.result.now refl in_writers c.index_mut.ensures.value) c.would_pass.ensures.line refl refl (λ g. refl) refl refl c.would_pass.ensures.room (refl, (refl, refl))

pub returns-in-Ok-clause-room : goal.returns-in-Ok-clause-room
returns-in-Ok-clause-room c = λ has.
    let s = c.args.self.now in
    let place = c.in-Some.place in
    let old = c.index_mut.result.now in
    let w = c.would_pass.new.writer in
    let in_writers : place < length s.writers.items = (let len = s.writers.ok.0 in omega arith) in
    all-stays s (record { outline = s.outline; writers = with_item s.writers place w; index = s.index; sets = s.sets; topics = s.topics; needed = s.needed; used_writer = s.used_writer; used_topic = s.used_topic }) has
    (put-writers s.writers.items (with_item s.writers place w).items place old w (got s.writers.items s.writers.items place old refl in_writers c.index_mut.ensures.value)
    (ap (λ (l : KeptWriter). l.topic) c.would_pass.ensures.line) (few-same w old (ap (λ (l : KeptWriter). l.held) c.would_pass.ensures.line)) c.would_pass.ensures.room refl)
    (same-topics s.topics.items s.topics.items refl) refl

pub returns-in-Err-clause-room : goal.returns-in-Err-clause-room
returns-in-Err-clause-room c = λ has.
    let s = c.args.self.now in
    let place = c.in-Some.place in
    let old = c.index_mut.result.now in
    let w = c.would_pass.new.writer in
    let in_writers : place < length s.writers.items = (let len = s.writers.ok.0 in omega arith) in
    all-stays s (record { outline = s.outline; writers = with_item s.writers place w; index = s.index; sets = s.sets; topics = s.topics; needed = s.needed; used_writer = s.used_writer; used_topic = s.used_topic }) has
    (put-writers s.writers.items (with_item s.writers place w).items place old w (got s.writers.items s.writers.items place old refl in_writers c.index_mut.ensures.value)
    (ap (λ (l : KeptWriter). l.topic) c.would_pass.ensures.line) (few-same w old (ap (λ (l : KeptWriter). l.held) c.would_pass.ensures.line)) c.would_pass.ensures.room refl)
    (same-topics s.topics.items s.topics.items refl) refl

pub returns-in_default-clause-memory : goal.returns-in_default-clause-memory
returns-in_default-clause-memory c = λ has h keeps follows. absurd (none-known c.args.self.now h c.args.writer keeps follows.known (sym c.in_default.ensures))

pub returns-then-at-len-clause-memory : goal.returns-then-at-len-clause-memory
returns-then-at-len-clause-memory c = λ has h keeps follows.
    let s = c.args.self.now in
    absurd (place-known s h c.args.writer c.in-Some.place keeps (sym c.in-Some.ensures) (let len = s.writers.ok.0 in omega arith))

pub returns-then-topic-len-clause-memory : goal.returns-then-topic-len-clause-memory
returns-then-topic-len-clause-memory c = λ has h keeps follows.
    let s = c.args.self.now in
    let place = c.in-Some.place in
    let old = c.index.result.now in
    let in_writers : place < length s.writers.items = (let len = s.writers.ok.0 in omega arith) in
    let lent = got s.writers.items s.writers.items place old refl in_writers c.index.ensures in
    absurd (topic-known s h c.args.writer place old keeps (sym c.in-Some.ensures) lent (let len = s.topics.ok.0 in omega arith))

pub returns-in-Err-clause-memory : goal.returns-in-Err-clause-memory
returns-in-Err-clause-memory c = λ has h keeps follows.
    let s = c.args.self.now in
    let place = c.in-Some.place in
    let old = c.index_mut.result.now in
    let in_writers : place < length s.writers.items = (let len = s.writers.ok.0 in omega arith) in
    c.in-Err.ensures.enough (has.writers place old (got s.writers.items s.writers.items place old refl in_writers c.index_mut.ensures.value))
