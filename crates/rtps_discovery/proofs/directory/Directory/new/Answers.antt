use Rattle.std.proofs.Common.{ap, refl, []}
use Rattle.std.specs.BTreeMap.{get}
use Rattle.std.specs.Cmp.Lexicographic.{slice_cmp}
use Rattle.std.specs.Ordering.{nat_cmp}
use Rattle.std.specs.Map.{lookup}
use Rattle.std.specs.BTreeMap.{is_at}
use Rattle.rtps_discovery.specs.Hearing.{Heard}
use Rattle.rtps_discovery.proofs.Keeping.{keeps_nothing}
use Rattle.rtps_discovery.proofs.directory.Directory.new.Goals as goal

pub returns : goal.returns
unfolding Heard
returns c plan = ([], refl, tt, keeps_nothing (get (slice_cmp nat_cmp) c.new.result) (λ q. ap (lookup (is_at (slice_cmp nat_cmp q))) c.new.ensures.empty))
