use Rattle.std.proofs.Common.{◌≡◌, ◌∙◌, ◌++◌, sym}
use Rattle.rtps_frag.specs.Bodies.{FragmentsSpell, brings}
use Rattle.rtps_frag.specs.Joining.{flags_of, body_of, with_pieces}
use Rattle.rtps_frag.proofs.Places.{made}
use Rattle.rtps_frag.proofs.Runs.{pieces_idle, pieces_taken}
use Rattle.rtps_frag.proofs.joiner.Joiner.hear_fragments.Goals as goal

pub returns-then-not-is_ours-clause-ok : goal.returns-then-not-is_ours-clause-ok
returns-then-not-is_ours-clause-ok c =
    let spelt = rw c.in-Ok.is at c.read_fragments.ensures.ok in
    let read : FragmentsSpell (flags_of c.args.bytes.now) (body_of c.args.bytes.now c.args.len) (brings c.in-Ok.sub) = rw (← c.parts-flags.ensures.flags, ← c.parts-flags.ensures.body) spelt in
    pieces_idle c.args.own c.args.bytes.now _ c.args.len (brings c.in-Ok.sub) c.requires.spells c.requires.within read (sym c.is_for-is_ours.ensures ∙ c.if-not-is_ours.true)

pub returns-in_ok-fact-in-Ok-clause-ok : goal.returns-in_ok-fact-in-Ok-clause-ok
returns-in_ok-fact-in-Ok-clause-ok c =
    let spelt = rw c.in-Ok.is at c.read_fragments.ensures.ok in
    let read : FragmentsSpell (flags_of c.args.bytes.now) (body_of c.args.bytes.now c.args.len) (brings c.in-Ok.sub) = rw (← c.parts-flags.ensures.flags, ← c.parts-flags.ensures.body) spelt in
    let taken : made c.take.new.self c.in_ok-fact-in-Ok.fact ≡ with_pieces (c.args.context.now.source ++ c.in-Ok.sub.head.writer) c.args.context.now.time (brings c.in-Ok.sub) c.args.self.now = rw (← c.of-writer.ensures) c.in_ok-fact-in-Ok.ensures.does in
    pieces_taken c.args.own c.args.bytes.now c.args.context.now c.args.self.now c.take.new.self c.args.len (brings c.in-Ok.sub) c.in_ok-fact-in-Ok.fact c.requires.spells c.requires.within read (sym c.is_for-is_ours.ensures ∙ c.if-not-is_ours.false) taken
