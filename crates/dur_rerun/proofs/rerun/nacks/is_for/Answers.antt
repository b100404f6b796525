use Rattle.std.proofs.Common.{◌≡◌, rules, true, false, ap, sym, ◌∙◌, Some}
use Rattle.std.specs.Prelude.{slice_get}
use Rattle.dur_qos.specs.declared.plan.ReaderLine.{ReaderLine}
use Rattle.dur_view.specs.Words.{is_same}
use Rattle.dur_hub.proofs.Guids.{same_is, same_true}
use Rattle.dur_rerun.proofs.ReplayPlaces.{got}
use Rattle.dur_rerun.proofs.rerun.nacks.is_for.Goals as goal

pub returns-then-eq-clause-yes : goal.returns-then-eq-clause-yes
returns-then-eq-clause-yes c is =
    let x = c.index-as_slice-at.result in
    let there : slice_get c.args.plan.now.readers c.args.at ≡ Some x =
    got c.args.plan.now.readers c.args.at x c.requires.place (search (rules, c.index-as_slice-at.is, c.as_slice.ensures)) in
    let yes : c.eq.result ≡ true = search rules in
    let same : is_same x.guid c.args.nack.now.reader ≡ true = search (rules, c.eq.ensures, yes) in
    record {
      line = x;
      stands = there;
      reader = same_is x.guid c.args.nack.now.reader same;
      writer = search (rules, c.replay_id-id.ensures, c.eq-then-eq.ensures, is);
    }

pub returns-else-eq-clause-no : goal.returns-else-eq-clause-no
returns-else-eq-clause-no c is f =
    let x = c.index-as_slice-at.result in
    let there : slice_get c.args.plan.now.readers c.args.at ≡ Some x =
    got c.args.plan.now.readers c.args.at x c.requires.place (search (rules, c.index-as_slice-at.is, c.as_slice.ensures)) in
    let line : f.line ≡ x = cc (f.stands, there) in
    let same : is_same x.guid c.args.nack.now.reader ≡ true =
    same_true x.guid c.args.nack.now.reader (ap (λ (l : ReaderLine). l.guid) (sym line) ∙ f.reader) in
    let no : c.eq.result ≡ false = search rules in
    let differs : is_same x.guid c.args.nack.now.reader ≡ false = search (rules, c.eq.ensures, no) in
    absurd (cc (same, differs))
