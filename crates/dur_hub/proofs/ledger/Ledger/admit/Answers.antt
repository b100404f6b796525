use Rattle.std.proofs.Common.{◌≡◌, true, false, List, [], ◌∷◌, ◌++◌, ◌∙◌, arith, subst, sym}
use Rattle.dur_base.specs.declared.entry.Entry.{Entry}
use Rattle.dur_hub.specs.Queues.{Queued}
use Rattle.dur_store.specs.Refusals.{refusal_for}
use Rattle.dur_hub.specs.declared.ledger.Refused.TheVariants.{Limit}
use Rattle.dur_hub.proofs.Ledgers.{admitted, other_admitted}
use Rattle.dur_hub.proofs.ledger.Ledger.admit.Goals as goal

pub returns-in-Err-clause-limit : goal.returns-in-Err-clause-limit
returns-in-Err-clause-limit c =
    λ limit is h t d at follows. (let q : c.refused_for.result ≡ Limit limit = cc in let e : c.in-Err.refuse ≡ refusal_for limit = c.refused_for.ensures limit q in c.in-Err.ensures.limit limit c.in-Err._entry (cc) h (c.make_room.ensures.keeps h at.keeps) follows)

pub returns-in-Err-admit-clause-limit : goal.returns-in-Err-admit-clause-limit
returns-in-Err-admit-clause-limit c =
    λ limit is h t d at follows. (let q : c.refused_for-in-Err-admit.result ≡ Limit limit = cc in let e : c.in-Err-admit.refuse ≡ refusal_for limit = c.refused_for-in-Err-admit.ensures limit q in c.in-Err-admit.ensures.limit limit c.in-Err-admit._entry (cc) h (c.make_room.ensures.keeps h at.keeps) follows)

pub returns-in-Ok-admit-clause-ok : goal.returns-in-Ok-admit-clause-ok
returns-in-Ok-admit-clause-ok c = λ h t d at is follows.
    let both = c.in-Ok-admit.ensures.ok h (c.make_room.ensures.keeps h at.keeps) follows in
    let push : (es : List Entry) → Queued c.reserve.new.self t d es
    → Queued c.push.new.self t d (es ++ c.args.entry ∷ []) =
    λ es so. subst (λ e. Queued c.push.new.self t d (es ++ e ∷ [])) c.in-Ok-copy.ensures (c.push.ensures t d es so) in
    (admitted c.args.self.now _ _ _ h t d _ _ (omega arith) at.entries both.0 (let q : c.args.stored ≡ true = c.if-not-stored.false in sym q ∙ is) c.reserve.ensures.same at.queued push, both.1)

pub returns-in-Ok-clause-ok : goal.returns-in-Ok-clause-ok
returns-in-Ok-clause-ok c = λ h t d at is follows.
    let both = c.in-Ok.ensures.ok h (c.make_room.ensures.keeps h at.keeps) follows in
    (other_admitted _ _ h t d _ c.args.self.now.entries _ (omega arith) at.entries both.0 (let q : c.args.stored ≡ false = c.if-not-stored.true in sym q ∙ is) at.queued, both.1)
