use Rattle.std.proofs.Common.{◌≡◌, ◌+◌, ◌-◌, ◌*◌, ◌≤◌, length}
use Rattle.rtps_frag.specs.Samples.{with_some}
use Rattle.rtps_frag.proofs.sample.Slot.put_some.Given as goal

abbrev pub invariant-loop-left : goal.invariant-loop-left
invariant-loop-left l = record {
  goes_on : with_some l.k l.left l.rest l.self ≡ with_some l.first l.count l.octets l.fn.self;
  all : l.k + l.left ≡ l.first + l.count;
  more : l.left ≤ l.count;
  width : l.self.width ≡ l.fn.self.width;
  size : l.self.size ≡ l.fn.self.size;
  ends : length l.rest ≤ l.self.size - l.k * l.self.width;
}

abbrev pub decreases-loop-left : goal.decreases-loop-left
decreases-loop-left l = l.left
