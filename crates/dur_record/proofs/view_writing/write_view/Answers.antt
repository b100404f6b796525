use Rattle.dur_record.proofs.ViewBack.{view_spells}
use Rattle.dur_record.proofs.view_writing.write_view.Goals as goal

pub returns-clause-back : goal.returns-clause-back
returns-clause-back c kinds =
    let first = c.in_ok-put_front.ensures.typed in
    let second = c.in_ok-put_back.ensures.typed in
    view_spells c.args.view.now c.requires (record { last = first.0; writers = first.1; instance_count = second.0; instances = second.1; kept_count = second.2; kept = second.3 }) kinds
