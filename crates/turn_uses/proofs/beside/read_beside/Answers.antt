use Rattle.std.proofs.Common.{◌≡◌, ℕ, ◌+◌, ◌++◌, ◌∷◌, [], replicate, ap, ◌∙◌, subst}
use Rattle.dur_turn.specs.Calls.{events}
use Rattle.turn_uses.specs.Counting.{IsLegal}
use Rattle.turn_uses.specs.declared.counter.Event.TheVariants.{Added, Read}
use Rattle.turn_uses.proofs.Counts.{reads_beside}
use Rattle.turn_uses.proofs.beside.read_beside.Goals as goal

pub returns : goal.returns
returns g c =
    let s = c.close.ensures in
    let by : ℕ = c.args.by in
    let times : ℕ = c.args.times in
    let read = c.join-read.result.0.1 in
    let first = c.join-read.ensures.first in
    let second = c.join-read.ensures.second in
    let root_0 = c.in_ok-turn.ensures.root.1 in
    let root_1 = c.split-a.ensures.root in
    let root_2 = c.split-b.ensures.root in
    let number_a : c.join-read.result.0.0.number ≡ 0 = first.2 ∙ (ap (λ v. v.number) c.split-a.ensures.pass ∙ ap (λ v. v.made) root_0) in
    let number_b : c.join-read.result.1.number ≡ 1 = second.2 ∙ (ap (λ v. v.number) c.split-b.ensures.pass ∙ (ap (λ v. v.made) root_1 ∙ ap (λ v. v.made + 1) root_0)) in
    let mine_a : c.join-read.result.0.0.mine ≡ Added by ∷ Read read ∷ [] = first.1 ∙ ap (λ v. (v.mine ++ Added by ∷ []) ++ Read read ∷ []) c.split-a.ensures.pass in
    let mine_b : c.join-read.result.1.mine ≡ replicate times (Added 1) = second.1 ∙ ap (λ v. v.mine ++ replicate times (Added 1)) c.split-b.ensures.pass in
    let bare : c.split-b.new.root.joined ≡ [] = ap (λ v. v.joined) root_2 ∙ (ap (λ v. v.joined) root_1 ∙ ap (λ v. v.joined) root_0) in
    let one : c.join.new.root.joined ≡ (0, Added by ∷ Read read ∷ []) ∷ [] = ap (λ v. v.joined) c.join.ensures.root ∙ (λ i. bare i ++ (number_a i, mine_a i) ∷ []) in
    let both : c.join-2.new.root.joined ≡ (0, Added by ∷ Read read ∷ []) ∷ (1, replicate times (Added 1)) ∷ [] = ap (λ v. v.joined) c.join-2.ensures.root ∙ (λ i. one i ++ (number_b i, mine_b i) ∷ []) in
    let legal : IsLegal 0 (events s.log) = subst (λ (n : ℕ). IsLegal n (events s.log)) (ap (λ v. v.count) c.in_ok-turn.ensures.start) s.stood.1 in
    reads_beside s.log c.join-2.new.root.joined by times read both s.calls legal c.requires
