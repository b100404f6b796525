use Rattle.std.proofs.Common.{◌≡◌, ◌+◌, Bool, false, not, ◌&&◌, ◌||◌, Some, length, sym, ap, ◌∙◌}
use Rattle.std.specs.List.{list_any}
use Rattle.dur_base.specs.declared.sample.Sample.{Sample}
use Rattle.dur_view.specs.Identities.{Key}
use Rattle.dur_view.specs.Words.{is_change}
use Rattle.dur_view.specs.Fates.{is_long}
use Rattle.dur_view.specs.Refused.{is_over}
use Rattle.dur_instances.specs.declared.cells.Cell.{Cell}
use Rattle.dur_instances.specs.Would.{count_asked, left_after}
use Rattle.dur_instances.specs.Places.{kept_in}
use Rattle.dur_instances.proofs.AnyLists.{any-and}
use Rattle.dur_instances.proofs.Bounds.{within, few-left}
use Rattle.dur_instances.proofs.would.is_any_over.Goals as goal

pub returns-then-not-is_over : goal.returns-then-not-is_over
returns-then-not-is_over c =
    let ps = c.args.places.now in
    let ss = c.args.samples.now in
    let left = left_after c.args.cells.now (kept_in ps) c.args.depth c.args.longest c.args.now ss in
    let never : (k : Key) → is_over c.args.limit (count_asked (Some k) left) ≡ false =
    λ k. within c.args.limit (length ps + length ss) (count_asked (Some k) left) (sym c.is_over.ensures ∙ c.if-not-is_over.true) (few-left c.args.cells.now ps c.args.depth c.args.longest c.args.now ss (Some k)) in
    let of_samples : Bool = list_any (λ (s : Sample). is_change s.act && is_over c.args.limit (count_asked (Some s.key) left)) ss in
    sym (ap (λ b. b || of_samples)
    (any-and (λ (x : Cell). not (is_long x.quiet c.args.longest c.args.now)) (λ x. is_over c.args.limit (count_asked (Some x.key) left)) c.args.cells.now (λ x. never x.key))
    ∙ any-and (λ (s : Sample). is_change s.act) (λ s. is_over c.args.limit (count_asked (Some s.key) left)) ss (λ s. never s.key))
