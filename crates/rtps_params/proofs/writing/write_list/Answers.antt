use Rattle.std.proofs.Common.{ap, ◌∙◌, length}
use Rattle.rtps_params.proofs.Back.{back_again}
use Rattle.rtps_params.proofs.writing.write_list.Goals as goal

pub returns-clause-back : goal.returns-clause-back
returns-clause-back c =
    let text = c.list_octets-text.ensures in
    let written = c.copy_from_slice.ensures.after ∙ c.as_slice.ensures.value ∙ text.text in
    λ writable rest. back_again _ _ _ _ rest _ written (c.len-len.ensures.value ∙ ap length text.text) text.key text.whole text.mark writable
