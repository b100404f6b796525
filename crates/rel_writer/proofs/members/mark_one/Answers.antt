use Rattle.std.proofs.Common.{◌∙◌, ◌+◌, ◌∷◌, ap}
use Rattle.std.proofs.lemmas.Option.{get_or_from_slice_get}
use Rattle.dur_view.specs.declared.change.Change.{Change}
use Rattle.rel_writer.specs.Members.{last_member}
use Rattle.rel_writer.proofs.Marks.{one_marked}
use Rattle.rel_writer.proofs.members.mark_one.Goals as goal

pub returns-clause-member : goal.returns-clause-member
returns-clause-member c = λ before x last len get.
    c.member_after-member.ensures before last (c.at.ensures ∙ ap (λ n. n + 1) len)
    ∙ ap (λ (y : Change). last_member (y ∷ before))
    (get_or_from_slice_get c.args.changes.now c.args.at x c.index-changes-at.result get)

pub returns-clause-marked : goal.returns-clause-marked
returns-clause-marked c = λ x get.
    one_marked c.args.changes.now c.args.at x c.index-changes-at-2.result _ c.give.new.change get
    c.give.ensures
