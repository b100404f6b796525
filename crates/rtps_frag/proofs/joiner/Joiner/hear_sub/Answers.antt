use Rattle.std.proofs.Common.{◌≡◌, ◌≤◌, ◌∙◌, List, ℕ, ap, sym, subst, length, drop}
use Rattle.rtps_submsg.specs.Subs.{SubSpells}
use Rattle.rtps_message.proofs.Parts.{part_before}
use Rattle.rtps_frag.proofs.Good.{plain_good}
use Rattle.rtps_frag.proofs.Runs.{plain_told}
use Rattle.rtps_frag.proofs.joiner.Joiner.hear_sub.Goals as goal

pub hear-requires : goal.hear-requires
hear-requires c =
    let read = rw c.in-Ok.is at c.read_sub.ensures.ok in
    let fits = rw c.in-Ok.is at c.read_sub.ensures.within in
    let here : c.split_at.result.1.now ≡ drop c.args.at c.args.datagram.now = c.split_at.ensures.back ∙ ap (drop c.args.at) c.as_slice.ensures in
    part_before c.args.datagram.now c.args.at c.in-Ok.sub c.in-Ok.len c.requires (subst (λ (t : List ℕ). c.in-Ok.len ≤ length t) here fits) (subst (λ (t : List ℕ). SubSpells t c.in-Ok.sub c.in-Ok.len) here read)

pub returns-in_ok-fact-in-Ok-clause-ok : goal.returns-in_ok-fact-in-Ok-clause-ok
returns-in_ok-fact-in-Ok-clause-ok c =
    let read = rw c.in-Ok.is at c.read_sub.ensures.ok in
    let fits = rw c.in-Ok.is at c.read_sub.ensures.within in
    let here : c.split_at.result.1.now ≡ drop c.args.at c.args.datagram.now = c.split_at.ensures.back ∙ ap (drop c.args.at) c.as_slice.ensures in
    plain_told c.args.own (drop c.args.at c.args.datagram.now) c.args.context.now c.hear.new.self c.args.self.now c.in-Ok.len c.in-Ok.sub c.in_ok-fact-in-Ok.fact (subst (λ (t : List ℕ). SubSpells t c.in-Ok.sub c.in-Ok.len) here read)
    (subst (λ (t : List ℕ). c.in-Ok.len ≤ length t) here fits) (sym c.is_other.ensures.value ∙ c.if-is_other.false) (sym c.is_other-in-Ok.ensures.value ∙ c.if-is_other-2.false) c.hear.ensures.after c.in_ok-fact-in-Ok.ensures.told

pub returns-in_ok-fact-in-Ok-clause-good : goal.returns-in_ok-fact-in-Ok-clause-good
returns-in_ok-fact-in-Ok-clause-good c =
    let read = rw c.in-Ok.is at c.read_sub.ensures.ok in
    plain_good c.args.own c.split_at.result.1.now c.in-Ok.len c.args.context.now c.in-Ok.sub c.in_ok-fact-in-Ok.fact c.octets_below.ensures read c.in_ok-fact-in-Ok.ensures.told
