use Rattle.std.proofs.Common.{◌≡◌, ℕ, ◌-◌, not, ◌&&◌, filter, length}
use Rattle.std.specs.Prelude.{unwrap_or, vec_len, vec_capacity}
use Rattle.std.specs.declared.option.Option.{Option as Maybe}
use Rattle.dur_view.specs.Identities.{Key as KeyOctets}
use Rattle.dur_instances.specs.Layout.{is_change_of}
use Rattle.dur_instances.specs.Places.{is_past}
use Rattle.dur_instances.specs.Places.{kept_in, Chain, Sinks, IsOwn}
use Rattle.dur_instances.proofs.links.empty_past.Given as goal

abbrev pub invariant-loop-place : goal.invariant-loop-place
invariant-loop-place l = record {
  chain : Chain l.fn.key 0 l.at l.last l.places.items;
  own : IsOwn l.places.items;
  sinks : Sinks l.fn.key l.depth l.count (kept_in l.places.items);
  items : filter (λ c. not (is_change_of l.fn.key c && is_past l.depth l.count c)) (kept_in l.places.items) ≡ filter (λ c. not (is_change_of l.fn.key c && is_past l.depth l.count c)) (kept_in l.initial.places.items);
  others : (k : KeyOctets) (f : Maybe ℕ) (n : ℕ) → Chain k 0 f n l.initial.places.items → Chain k 0 f n l.places.items;
  len : vec_len l.places ≡ vec_len l.initial.places;
  capacity : vec_capacity l.places ≡ vec_capacity l.initial.places;
}

abbrev pub decreases-loop-place : goal.decreases-loop-place
decreases-loop-place l = length l.places.items - unwrap_or l.at (length l.places.items)
