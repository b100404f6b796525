use Rattle.std.specs.Prelude.{slice_get}
use Rattle.std.proofs.Common.{◌≡◌, ℕ, ◌<◌, Some, max, length, refl, sym, ap, ◌∙◌, subst, arith}
use Rattle.std.specs.Vec.{with_item}
use Rattle.dur_instances.specs.Trimmed.{Trimmed}
use Rattle.dur_sets.specs.Tells.{Tells}
use Rattle.dur_store.specs.declared.writer.Writer.{Writer}
use Rattle.dur_store.specs.Taking.{TakesIn}
use Rattle.dur_store.proofs.Lists.{got}
use Rattle.std.proofs.Math.ListN.{set}
use Rattle.std.proofs.Common.{get_or}
use Rattle.dur_store.proofs.Entries.{one-got, on-err, keeps-took, keeps-room}
use Rattle.dur_store.proofs.Known.{none-known, place-known, topic-known}
use Rattle.dur_store.proofs.Rooms.{get-own, needed-within, roomy}
use Rattle.dur_store.proofs.Steps.{length-set}
use Rattle.dur_store.proofs.store.Store.take.Goals as goal

pub returns-clause-ok : goal.returns-clause-ok
returns-clause-ok c = λ h keeps follows.
    let s = c.reserve.new.self in
    let kept = c.reserve.ensures.keeps h keeps in
    let has = c.in-Ok.ensures.ok h keeps in
    let place = c.in-Some.place in
    let number = c.args.number in
    let sample = c.args.sample in
    let old = c.index.result.now in
    let w = c.take_in.new.writer in
    let x = c.index-2.result.now in
    let y = c.take_in.new.topic in
    let answer = c.effect-effect.result in
    let in_writers : place < length s.writers.items = (let len = s.writers.ok.0 in omega arith) in
    let in_topics : old.topic < length s.topics.items = (let len = s.topics.ok.0 in omega arith) in
    let lent = got s.writers.items s.writers.items place old refl in_writers c.index.ensures in
    let there = got s.topics.items s.topics.items old.topic x refl in_topics c.index-2.ensures in
    let own = one-got s.writers.items place _ old (got s.writers.items s.writers.items place c.index_mut.result.now refl in_writers c.index_mut.ensures.value) lent in
    let same = one-got s.topics.items old.topic _ x (got s.topics.items s.topics.items old.topic c.index_mut-2.result.now refl in_topics c.index_mut-2.ensures.value) there in
    let taken : c.later-taken.result ≡ max c.args.moment x.last = c.later-taken.ensures ∙ ap (λ (k : ℕ). max c.args.moment k) c.last.ensures in
    keeps-took s (record { outline = c.stamp.new.outline; writers = with_item s.writers place w; index = s.index; sets = c.step.new.self; topics = with_item s.topics old.topic y; needed = c.need.new.needed; used_writer = place; used_topic = old.topic })
    h c.args.moment c.args.writer number sample place old w x y answer c.mark_of.result kept follows (sym c.in-Some.ensures) lent there c.mark_of.ensures
    (λ line at next. c.effect-effect.ensures h line kept.sets kept.history at next)
    (λ told.
    subst (λ (t : Trimmed). TakesIn place (max c.args.moment x.last) number sample old w t y) same
    (subst (λ (v : Writer). TakesIn place (max c.args.moment x.last) number sample v w c.index_mut-2.result.now y) own
    (subst (λ (k : ℕ). TakesIn place k number sample c.index_mut.result.now w c.index_mut-2.result.now y) taken
    (c.in_ok-take_in.ensures.ok (subst (λ (v : Writer). Tells v.held.items number sample.set answer) (sym own) told)))))
    (λ line at next. c.step.ensures.stands h line c.args.moment sample kept.sets kept.history at next (sym c.mark_of-mark.ensures))
    c.stamp.ensures refl (λ g. refl) refl has
    (record {
      writer = refl;
      topic = refl;
      own =
          (let put = get-own s.writers.items place w in_writers in
          let then = got (set s.writers.items place w) (set s.writers.items place w) place c.index-3.result.now refl (omega (arith, length-set s.writers.items place w, in_writers)) c.index-3.ensures in
          let written = one-got (set s.writers.items place w) place c.index-3.result.now w then put in
          subst (λ (v : Writer). length v.held.items < get_or c.need.new.needed.items old.topic 0) written
          (subst (λ (n : ℕ). n < get_or c.need.new.needed.items old.topic 0) c.len-3.ensures.count (c.need.ensures.own (needed-within s.needed.items old.topic (length old.held.items) (kept.room.needed place old lent)))));
      stays = c.need.ensures.stays;
      others = c.need.ensures.others;
    })

pub returns-in_err-take_in-clause-err : goal.returns-in_err-take_in-clause-err
returns-in_err-take_in-clause-err c = on-err c.from_residual.result (λ h keeps.
    let s = c.reserve.new.self in
    let kept = c.reserve.ensures.keeps h keeps in
    let place = c.in-Some.place in
    let old = c.index_mut.result.now in
    let topic = c.index.result.now.topic in
    let in_writers : place < length s.writers.items = (let len = s.writers.ok.0 in omega arith) in
    let in_topics : topic < length s.topics.items = (let len = s.topics.ok.0 in omega arith) in
    keeps-room s (record { outline = s.outline; writers = with_item s.writers place c.take_in.new.writer; index = s.index; sets = s.sets; topics = with_item s.topics topic c.take_in.new.topic; needed = s.needed; used_writer = s.used_writer; used_topic = s.used_topic })
    h place old c.take_in.new.writer topic c.index_mut-2.result.now c.take_in.new.topic kept
    (got s.writers.items s.writers.items place old refl in_writers c.index_mut.ensures.value) c.in_err-take_in.ensures.writer
    (got s.topics.items s.topics.items topic c.index_mut-2.result.now refl in_topics c.index_mut-2.ensures.value) c.in_err-take_in.ensures.topic
    refl refl (λ g. refl) refl refl c.in_err-take_in.ensures.spare c.in_err-take_in.ensures.room (refl, (refl, refl)))

pub returns-in_default-place_of-clause-memory : goal.returns-in_default-place_of-clause-memory
returns-in_default-place_of-clause-memory c = λ has h keeps follows.
    absurd (none-known c.reserve.new.self h c.args.writer (c.reserve.ensures.keeps h keeps) follows.known (sym c.in_default-place_of.ensures))

pub returns-then-at-len-clause-memory : goal.returns-then-at-len-clause-memory
returns-then-at-len-clause-memory c = λ has h keeps follows.
    let s = c.reserve.new.self in
    absurd (place-known s h c.args.writer c.in-Some.place (c.reserve.ensures.keeps h keeps) (sym c.in-Some.ensures) (let len = s.writers.ok.0 in omega arith))

pub returns-then-topic-len-clause-memory : goal.returns-then-topic-len-clause-memory
returns-then-topic-len-clause-memory c = λ has h keeps follows.
    let s = c.reserve.new.self in
    let place = c.in-Some.place in
    let old = c.index.result.now in
    let in_writers : place < length s.writers.items = (let len = s.writers.ok.0 in omega arith) in
    let lent = got s.writers.items s.writers.items place old refl in_writers c.index.ensures in
    absurd (topic-known s h c.args.writer place old (c.reserve.ensures.keeps h keeps) (sym c.in-Some.ensures) lent (let len = s.topics.ok.0 in omega arith))

pub returns-in_err-take_in-clause-memory : goal.returns-in_err-take_in-clause-memory
returns-in_err-take_in-clause-memory c = λ has h keeps follows.
    let s = c.reserve.new.self in
    let place = c.in-Some.place in
    let old = c.index_mut.result.now in
    let x = c.index_mut-2.result.now in
    let in_writers : place < length s.writers.items = (let len = s.writers.ok.0 in omega arith) in
    let in_topics : c.index.result.now.topic < length s.topics.items = (let len = s.topics.ok.0 in omega arith) in
    let lent = got s.writers.items s.writers.items place old refl in_writers c.index_mut.ensures.value in
    let own = one-got s.writers.items place _ old (got s.writers.items s.writers.items place c.index.result.now refl in_writers c.index.ensures) lent in
    let there = got s.topics.items s.topics.items c.index.result.now.topic x refl in_topics c.index_mut-2.ensures.value in
    let is_room = roomy s place old x (c.reserve.ensures.keeps h keeps).room (c.in-Ok.ensures.ok h keeps) lent (subst (λ (w : Writer). slice_get s.topics.items w.topic ≡ Some x) own there) in
    absurd (let never = c.in_err-take_in.ensures.enough is_room.0 is_room.1 in cc)
