use Rattle.std.proofs.Common.{arith, ◌∙◌, sym, ap}
use Rattle.hex.specs.Hex.{encode_lower}
use Rattle.durability.proofs.Spelling.{bool_no}
use Rattle.durability.proofs.Values.{decodes_so}
use Rattle.durability.proofs.words.values.octets.Goals as goal

pub returns-else-is_hex-clause-none : goal.returns-else-is_hex-clause-none
returns-else-is_hex-clause-none g c octets size bytes is =
    let written = decodes_so c.args.text.now octets _ _ _ (grind (arith, size)) bytes is c.decode_to_slice.ensures.value in
    bool_no _ (c.is_hex.ensures.1 (is ∙ ap encode_lower (sym written.1))) c.if-is_hex.false

pub returns-in-Err-clause-none : goal.returns-in-Err-clause-none
returns-in-Err-clause-none g c octets size bytes is =
    let written = decodes_so c.args.text.now octets _ _ _ (grind (arith, size)) bytes is c.decode_to_slice.ensures.value in
    let both = sym c.in-Err.is ∙ written.0 in
    absurd cc
