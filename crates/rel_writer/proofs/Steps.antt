-- What the steps of a late reader come to.
use Rattle.std.proofs.Common.{suc, zero, ◌≡◌, ℕ, ◌+◌, ◌≤◌, Bool, true, false, refl, ap, sym, subst, arith, cond, List}
use Rattle.std.specs.Prelude.{Option, vec_len, vec_capacity, if◌then◌else◌, ◌-◌}
use Rattle.dur_base.specs.declared.fact.Fact.{Fact}
use Rattle.rel_writer.specs.declared.taken.Taken.{Taken}
use Rattle.dur_base.specs.declared.sample.Sample.{Sample}
use Rattle.rel_reader.specs.declared.known.Known.{Known}
use Rattle.rel_reader.specs.declared.known.Known.TheVariants.{Unknown, Irrelevant, With}
use Rattle.rel_reader.specs.Knowledge.{is_unknown, is_irrelevant, is_with}
use Rattle.rel_reader.specs.Stories.{◌▸◌, Data, next}
use Rattle.dur_base.specs.declared.fact.Fact.TheVariants as facts
use Rattle.dur_base.specs.declared.sample.Raw.{Raw}
use Rattle.rel_reader.specs.KnownNumbers.{known}
use Rattle.rel_writer.specs.declared.late.LateReader.{LateReader}
use Rattle.rel_writer.specs.LateReaders.{Late, drain, handle, IsSettled, with_story, is_from, read_of, told}
use Rattle.rel_writer.specs.Standing.{Stands}
use Rattle.rel_writer.specs.Handling.{Passes, TakesOne, Settles}
use Rattle.rel_writer.specs.Room.{Grows, HasRoom, brings, waiting}
use Rattle.rel_writer.proofs.Waiting.{one_if, NearOnly, drain_waits, taken_waits, none_waits, told_waits}
use Rattle.rel_writer.proofs.Draining.{drain_join, unknown_left, near_only}

-- ---- what each function comes to

pub told_data : (q : LateReader) (l : Late) (w reader : List ℕ) (k : ℕ) (raw : Raw)
    (r : Option Sample) → r ≡ read_of l.writer raw
    → Stands q (if is_from l.kept l.writer w then with_story l (l.story ▸ Data k r) else l)
    → Stands q (told l (facts.Data w reader k raw))
told_data q l w reader k raw r e st =
    subst (λ (x : Option Sample). Stands q
    (cond (is_from l.kept l.writer w) (with_story l (l.story ▸ Data k x)) l)) e st

drain_more : (times : ℕ) (l : Late)
    → drain (suc times) l
    ≡ handle (drain times l) (known (drain times l).story (next (drain times l).story))
drain_more zero l = refl
drain_more (suc times) l = drain_more times (handle l (known l.story (next l.story)))

near : (r : LateReader) (l : Late) → Stands r l → NearOnly l
near r l st = near_only r.proxy l.story st.fits

-- numbers were passed, and the next one has a sample or does not
pub took_one : (r q : LateReader) (l : Late) (t : ℕ) → Stands r l
    → Stands q (handle (drain t l) (known (drain t l).story (next (drain t l).story)))
    → is_with (known (drain t l).story (next (drain t l).story)) ≡ true → TakesOne q true l
took_one r q l t st now has = record {
  times = suc t;
  stands = subst (Stands q) (sym (drain_more t l)) now;
  none = λ e. cc;
  fewer =
      subst (λ (m : Late). waiting m + 1 ≤ waiting l) (sym (drain_more t l))
      (taken_waits t l (near r l st) has);
}

not_ready : (x : Known) → is_irrelevant x ≡ false → (is_with x ≡ true → ⊥) → is_unknown x ≡ true
not_ready Unknown a b = refl
not_ready Irrelevant a b = cc
not_ready (With s) a b = absurd (b refl)

pub took_none : (r q : LateReader) (l : Late) → Stands r l → (p : Passes q l)
    → (is_with (known (drain p.times l).story (next (drain p.times l).story)) ≡ true → ⊥)
    → TakesOne q false l
took_none r q l st p none = record {
  times = p.times;
  stands = p.stands;
  none = λ e. not_ready (known (drain p.times l).story (next (drain p.times l).story)) p.passed
      none;
  fewer = omega (arith, drain_waits p.times l (near r l st));
}

settle_join : (q : LateReader) (m : Late) (more a b : ℕ) → Stands q (drain b (drain a m))
    → IsSettled (drain b (drain a m)) → HasRoom more q (drain b (drain a m)) → Settles more q m
settle_join q m more a b st settled room = record {
  times = a + b;
  stands = subst (Stands q) (drain_join a b m) st;
  settled = subst IsSettled (drain_join a b m) settled;
  room = subst (HasRoom more q) (drain_join a b m) room;
}

-- nothing was left after i samples
pub left_none : (r mid q : LateReader) (l : Late) (more i a : ℕ) (one : Bool) → one ≡ false
    → waiting (drain a l) + i ≤ waiting l → HasRoom more r l
    → Grows i r.taken.samples mid.taken.samples
    → Grows (one_if one) mid.taken.samples q.taken.samples → TakesOne q one (drain a l)
    → Settles more q l
left_none r mid q l more i a one e fewer room grown grows t =
    let zero_more : one_if one ≡ 0 = ap one_if e in
    let less = t.fewer in
    settle_join q l more a t.times t.stands (t.none e)
    (omega (arith, zero_more, less, fewer, room, grown.room, grown.count, grows.room, grows.count))

-- one more was taken
pub one_taken : (q : LateReader) (m : Late) (a i : ℕ) (one : Bool) → one ≡ true
    → waiting (drain a m) + i ≤ waiting m → TakesOne q one (drain a m)
    → (times : ℕ) × Stands q (drain times m) × (waiting (drain times m) + (i + 1) ≤ waiting m)
one_taken q m a i one e fewer t =
    let one_more : one_if one ≡ 1 = ap one_if e in
    let less = t.fewer in (
      a + t.times,
      subst (Stands q) (drain_join a t.times m) t.stands,
      subst (λ (n : Late). waiting n + (i + 1) ≤ waiting m) (drain_join a t.times m)
          (omega (arith, one_more, less, fewer)),
    )

pub grown_more : (r mid q : LateReader) (i : ℕ) (one : Bool) → one ≡ true
    → Grows i r.taken.samples mid.taken.samples
    → Grows (one_if one) mid.taken.samples q.taken.samples
    → Grows (i + 1) r.taken.samples q.taken.samples × Grows 1 mid.taken.samples q.taken.samples
grown_more r mid q i one e a b =
    let count : one_if one ≡ 1 = ap one_if e in (
      record {
        room = omega (arith, a.room, b.room);
        count = omega (arith, count, a.count, b.count);
      },
      record { room = b.room; count = omega (arith, count, b.count) },
    )

-- All the room is used, and so nothing waits.
pub left_full : (r mid q : LateReader) (l : Late) (more i a : ℕ)
    → i ≡ vec_capacity r.taken.samples - vec_len r.taken.samples → Stands mid (drain a l)
    → waiting (drain a l) + i ≤ waiting l → HasRoom more r l
    → Grows i r.taken.samples mid.taken.samples → q.taken ≡ mid.taken → Passes q (drain a l)
    → Settles more q l
left_full r mid q l more i a is st fewer has grown same p =
    let n = drain p.times (drain a l) in
    let less = drain_waits p.times (drain a l) (near mid (drain a l) st) in
    let empty : waiting n ≡ 0 = omega (arith, is, fewer, has, less) in
    let x = known n.story (next n.story) in
    let len = ap (λ (t : Taken). vec_len t.samples) same in
    let wide = ap (λ (t : Taken). vec_capacity t.samples) same in
    settle_join q l more a p.times p.stands (unknown_left x p.passed (none_waits n empty))
    (omega (arith, empty, is, fewer, has, len, wide, grown.room, grown.count))

-- ---- a fact comes

pub room_told : (r q : LateReader) (l : Late) (f : Fact) (more : ℕ) → q.taken ≡ r.taken
    → HasRoom (brings f + more) r l → HasRoom more q (told l f)
room_told r q l f more same room =
    let brought = told_waits l f in
    let len = ap (λ (t : Taken). vec_len t.samples) same in
    let wide = ap (λ (t : Taken). vec_capacity t.samples) same in
    omega (arith, brought, len, wide, room)
