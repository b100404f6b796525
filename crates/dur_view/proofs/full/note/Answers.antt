use Rattle.std.proofs.Common.{◌≡◌, ℕ, List, true, cond, subst}
use Rattle.std.specs.Str.{bytes_eq}
use Rattle.dur_qos.specs.Index.{holds}
use Rattle.dur_qos.proofs.Maps.{noted}
use Rattle.dur_view.proofs.full.note.Goals as goal

pub returns-in-Ok : goal.returns-in-Ok
returns-in-Ok c =
    subst (λ (g : List ℕ). (q : List ℕ) → holds c.insert.new.self q ≡ cond (bytes_eq q g) true (holds c.args.guids.now q)) c.guid.view_is
    (noted c.args.guids.now c.insert.new.self c.guid.inside.0 c.in-Ok.ensures.updates)
