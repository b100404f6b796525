use Rattle.std.proofs.Common.{◌≡◌, ℕ, ◌≤◌, List, get_or, refl, sym, ap, ◌∙◌, subst}
use Rattle.dur_store.specs.declared.store.Store.{Store}
use Rattle.dur_store.proofs.Entries.{keeps-rest}
use Rattle.dur_store.proofs.Rooms.{room-back, same-topics, ok-then}
use Rattle.dur_store.proofs.store.Store.reserve.Goals as goal

pub returns-clause-ok : goal.returns-clause-ok
returns-clause-ok c =
    let s = c.args.self.now in
    let new : Store = record { outline = s.outline; writers = c.spare_at.new.writers; index = s.index; sets = s.sets; topics = c.room_at.new.topics; needed = s.needed; used_writer = s.used_writer; used_topic = s.used_topic } in
    let more : c.needed_at-more.result ≡ get_or s.needed.items s.used_topic 0 = c.needed_at-more.ensures ∙ ap (λ (ns : List ℕ). get_or ns s.used_topic 0) c.deref.ensures.value in
    ok-then c.room_at.result c.room_at.ensures.room (λ own h keeps.
    room-back s new keeps.room c.spare_at.ensures.stays c.room_at.ensures.rest.stays refl c.in_ok-spare_at.ensures.room
    (λ x at. subst (λ (n : ℕ). n ≤ x.room) more (own x at)))

pub returns-clause-enough : goal.returns-clause-enough
returns-clause-enough c = λ has.
    let s = c.args.self.now in
    let more : c.needed_at-more.result ≡ get_or s.needed.items s.used_topic 0 = c.needed_at-more.ensures ∙ ap (λ (ns : List ℕ). get_or ns s.used_topic 0) c.deref.ensures.value in
    c.room_at.ensures.enough (λ x at. subst (λ (n : ℕ). n ≤ x.room) (sym more) (has.topics s.used_topic x at))

pub returns-clause-keeps : goal.returns-clause-keeps
returns-clause-keeps c = λ h keeps.
    let s = c.args.self.now in
    let new : Store = record { outline = s.outline; writers = c.spare_at.new.writers; index = s.index; sets = s.sets; topics = c.room_at.new.topics; needed = s.needed; used_writer = s.used_writer; used_topic = s.used_topic } in
    keeps-rest s new h keeps refl c.spare_at.ensures.lines (λ g. refl) refl c.room_at.ensures.rest.count (c.room_at.ensures.rest.topics h keeps.topics) c.spare_at.ensures.stays c.room_at.ensures.rest.stays (refl, (refl, refl))

pub returns-in_err-spare_at-clause-keeps : goal.returns-in_err-spare_at-clause-keeps
returns-in_err-spare_at-clause-keeps c = λ h keeps.
    let s = c.args.self.now in
    let new : Store = record { outline = s.outline; writers = c.spare_at.new.writers; index = s.index; sets = s.sets; topics = s.topics; needed = s.needed; used_writer = s.used_writer; used_topic = s.used_topic } in
    keeps-rest s new h keeps refl c.spare_at.ensures.lines (λ g. refl) refl refl keeps.topics c.spare_at.ensures.stays (same-topics s.topics.items s.topics.items refl) (refl, (refl, refl))
