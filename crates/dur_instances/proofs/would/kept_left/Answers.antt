use Rattle.std.proofs.Common.{◌≡◌, ℕ, ◌+◌, ◌<◌, Bool, List, cond, length, drop, rules, sym, ap, ◌∙◌, arith}
use Rattle.dur_instances.specs.declared.changes.Change.{Change}
use Rattle.dur_instances.specs.Places.{kept_in}
use Rattle.dur_instances.proofs.PlaceLists.{kept-at, left_in, left-with}
use Rattle.dur_instances.proofs.would.kept_left.Goals as goal
use Rattle.dur_instances.proofs.would.kept_left.Goals.{then-is_left_at, else-is_left_at}

pub loop-place-preserved : goal.loop-place-preserved
loop-place-preserved c =
    let ps = c.args.places.now in
    let i = c.loop-place.place-index in
    let p = c.place-item.result in
    let left : List Change → ℕ = λ xs. left_in c.args.cells.now c.args.depth c.args.longest c.args.now c.args.samples.now c.args.of.now xs in
    let lt : i < length ps = search rules in
    let step : left (kept_in (drop i ps)) ≡ cond c.is_left_at.result 1 0 + left (kept_in (drop (i + 1) ps)) =
    ap left (kept-at ps i p lt c.place-item.is) ∙ left-with c.args.cells.now c.args.depth c.args.longest c.args.now c.args.samples.now c.args.of.now p.change (kept_in (drop (i + 1) ps))
    ∙ ap (λ (b : Bool). cond b 1 0 + left (kept_in (drop (i + 1) ps))) (sym c.is_left_at.ensures) in
    let before = c.loop-place.invariant.count in
    let bound = c.loop-place.invariant.bound in
    elim c.if-is_left_at.branch [
      | then-is_left_at w ↦
          let is = w.count-is in let now = step ∙ ap (λ (b : Bool). cond b 1 0 + left (kept_in (drop (i + 1) ps))) w.if-is_left_at.true in record { count = omega arith; bound = omega arith }
      | else-is_left_at w ↦
          let is = w.count-is in let now = step ∙ ap (λ (b : Bool). cond b 1 0 + left (kept_in (drop (i + 1) ps))) w.if-is_left_at.false in record { count = omega arith; bound = omega arith }
    ]
