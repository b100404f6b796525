use Rattle.std.proofs.Common.{◌≡◌, ℕ, ◌-◌, ◌≤◌, ◌^◌, length, take, subst, ap, arith, Some, None, List}
use Rattle.std.specs.Prelude.{slice_get}
use Rattle.std.proofs.lemmas.List.{length-map}
use Rattle.dur_view.specs.declared.change.Change.{Change}
use Rattle.rel_writer.specs.Replays.{IsSent}
use Rattle.rel_writer.specs.Sessions.{Sending, IsData, last_of}
use Rattle.rel_writer.proofs.SessionSteps.{one_of_each}
use Rattle.rel_writer.proofs.Picking.{seen, change_at, past_all, sample_is, marker_is, written}
use Rattle.rel_writer.proofs.session.Session.data.Goals as goal

pub write_data-requires-clause-good : goal.write_data-requires-clause-good
write_data-requires-clause-good c =
    let h = c.in-Some.ensures.lookup in
    (one_of_each (IsSent c.self.inside.ids.keyed) _ (c.get.result - 1) c.in-Some.change.now.sample
    c.self.invariant.each
    (change_at c.self.inside.changes.items c.as_slice.result.now (c.get.result - 1)
    c.in-Some.change.now c.as_slice.ensures.value h.3.0 h.1)).good

pub write_data-requires-clause-act : goal.write_data-requires-clause-act
write_data-requires-clause-act c =
    let h = c.in-Some.ensures.lookup in
    (one_of_each (IsSent c.self.inside.ids.keyed) _ (c.get.result - 1) c.in-Some.change.now.sample
    c.self.invariant.each
    (change_at c.self.inside.changes.items c.as_slice.result.now (c.get.result - 1)
    c.in-Some.change.now c.as_slice.ensures.value h.3.0 h.1)).act

pub write_data-requires-clause-original : goal.write_data-requires-clause-original
write_data-requires-clause-original c =
    let h = c.in-Some.ensures.lookup in
    (one_of_each (IsSent c.self.inside.ids.keyed) _ (c.get.result - 1) c.in-Some.change.now.sample
    c.self.invariant.each
    (change_at c.self.inside.changes.items c.as_slice.result.now (c.get.result - 1)
    c.in-Some.change.now c.as_slice.ensures.value h.3.0 h.1)).original

pub write_data-requires-clause-key : goal.write_data-requires-clause-key
write_data-requires-clause-key c =
    let h = c.in-Some.ensures.lookup in
    (one_of_each (IsSent c.self.inside.ids.keyed) _ (c.get.result - 1) c.in-Some.change.now.sample
    c.self.invariant.each
    (change_at c.self.inside.changes.items c.as_slice.result.now (c.get.result - 1)
    c.in-Some.change.now c.as_slice.ensures.value h.3.0 h.1)).key

pub returns-in-Some-clause-data : goal.returns-in-Some-clause-data
returns-in-Some-clause-data c =
    let h = c.in-Some.ensures.lookup in
    let s = seen c.self.inside.ids c.self.inside.changes.items c.self.inside.beats
    c.self.inside.complete in
    let same : s ≡ c.args.self.now = c.self.view_is in
    let small : c.args.number ≤ 2 ^ 63 - 2 =
    omega (arith, c.requires.number, ap last_of same, c.self.invariant.few) in
    let get : slice_get s.samples (c.args.number - 1) ≡ Some c.in-Some.change.now.sample =
    subst (λ (n : ℕ). slice_get s.samples (n - 1) ≡ Some c.in-Some.change.now.sample)
    c.get.ensures.value
    (change_at c.self.inside.changes.items c.as_slice.result.now (c.get.result - 1)
    c.in-Some.change.now c.as_slice.ensures.value h.3.0 h.1) in
    subst (λ (t : Sending). IsData t (c.args.number - 1)
    (take c.write_data.result c.write_data.new.out)) same
    (sample_is s (c.args.number - 1) c.args.number c.in-Some.change.now.sample _
    c.write_data.new.out c.write_data.result get
    (omega (arith, c.get.ensures.value, c.get.ensures.range.0)) c.write_data.ensures.written
    (c.write_data.ensures.back small))

pub returns-in-None-clause-data : goal.returns-in-None-clause-data
returns-in-None-clause-data c =
    let h = c.in-None.ensures.lookup in
    let s = seen c.self.inside.ids c.self.inside.changes.items c.self.inside.beats
    c.self.inside.complete in
    let same : s ≡ c.args.self.now = c.self.view_is in
    let small : c.args.number ≤ 2 ^ 63 - 2 =
    omega (arith, c.requires.number, ap last_of same, c.self.invariant.few) in
    let get : slice_get s.samples (c.args.number - 1) ≡ None =
    subst (λ (n : ℕ). slice_get s.samples (n - 1) ≡ None) c.get.ensures.value
    (past_all c.self.inside.changes.items c.as_slice.result.now (c.get.result - 1)
    c.as_slice.ensures.value h.3) in
    let end : c.args.number - 1 ≡ length s.samples =
    omega (
      arith,
      h.3,
      c.get.ensures.value,
      ap (λ (t : List Change). length t)
          c.as_slice.ensures.value,
      length-map c.self.inside.changes.items (λ (x : Change). x.sample),
      c.requires.number,
      ap last_of same,
    ) in
    subst (λ (t : Sending). IsData t (c.args.number - 1)
    (take c.write_marker.result c.write_marker.new.out)) same
    (marker_is s (c.args.number - 1) c.args.number _ c.write_marker.new.out c.write_marker.result
    get end (omega (arith, c.get.ensures.value, c.get.ensures.range.0))
    c.write_marker.ensures.written (c.write_marker.ensures.back small))

pub returns-in-Some-clause-writes : goal.returns-in-Some-clause-writes
returns-in-Some-clause-writes c = written _ _ _ _ _ c.write_data.ensures.written.written

pub returns-in-None-clause-writes : goal.returns-in-None-clause-writes
returns-in-None-clause-writes c = written _ _ _ _ _ c.write_marker.ensures.written.written
