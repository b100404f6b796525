use Rattle.std.proofs.Common.{◌≡◌, None}
use Rattle.std.specs.List.{AllByRecursion}
use Rattle.dur_record.specs.declared.version.Version.TheVariants.{One}
use Rattle.dur_record.specs.Views.{SpellsView}
use Rattle.dur_record.proofs.TopicKinds.{unknown_told, if_read}
use Rattle.dur_record.proofs.Answering.{answers_view}
use Rattle.dur_record.proofs.view.read_view_1.Goals as goal

pub returns-clause-view : goal.returns-clause-view
returns-clause-view c = answers_view _ _ _ c.whole_view.ensures.ok c.whole_view.ensures.sound c.whole_view.ensures.err

pub returns-clause-unknown : goal.returns-clause-unknown
returns-clause-unknown c =
    if_read (SpellsView One c.args.bytes) (λ v. AllByRecursion (λ k. k.arrived ≡ None) v.kept)
    (λ v s. unknown_told c.args.bytes v s) c.whole_view.result c.whole_view.ensures.ok
