use Rattle.std.proofs.Common.{◌++◌, ◌∙◌, ℕ, List, ap, sym, subst, Err}
use Rattle.dur_qos.specs.Reading.{Reading, start, after}
use Rattle.dur_qos.proofs.Runs.{after_append}
use Rattle.dur_qos.proofs.Verdicts.{Says, finish_says, push_says, says_only, says_read, says_told, says_sound, next_piece, no_more}
use Rattle.dur_qos.proofs.whole.read_plan.Goals as goal

broken : goal.returns-in-Err-clause-fault
broken c =
    (push_says _ c.loop-rest.invariant.seen c.as_slice.result.now _ c.loop-rest.reader c.push.new.self c.in-Err.fault c.loop-rest.invariant.reads
    (next_piece (λ x. x.items) c.loop-rest.invariant.seen c.as_slice.result.now _ c.loop-rest.rest.now c.piece-item.result c.in-len1-up.len_at_least c.piece-item.is c.as_slice.ensures.value c.loop-rest.invariant.all)
    c.in-Err.ensures.err).1

pub returns-in-Err-clause-fault : goal.returns-in-Err-clause-fault
returns-in-Err-clause-fault c = broken c

pub returns-in-Err-clause-read : goal.returns-in-Err-clause-read
returns-in-Err-clause-read c q n t = says_read _ (Err c.in-Err.fault) (tt, broken c) q n t

pub returns-in-Err-clause-told : goal.returns-in-Err-clause-told
returns-in-Err-clause-told c f h = says_told _ (Err c.in-Err.fault) (tt, broken c) f h

pub loop-rest-preserved : goal.loop-rest-preserved
loop-rest-preserved c = record {
  seen = c.loop-rest.invariant.seen ++ c.as_slice.result.now;
  reads = c.in-Ok.ensures.ok ∙ ap (λ (r : Reading). after r c.as_slice.result.now) c.loop-rest.invariant.reads ∙ sym (after_append start c.loop-rest.invariant.seen c.as_slice.result.now);
  all = next_piece (λ x. x.items) c.loop-rest.invariant.seen c.as_slice.result.now _ c.loop-rest.rest.now c.piece-item.result c.in-len1-up.len_at_least c.piece-item.is c.as_slice.ensures.value c.loop-rest.invariant.all;
}

plan : goal.returns-clause-plan
plan c =
    (subst (λ (t : List ℕ). Says t c.finish.result) (no_more (λ x. x.items) _ _ c.loop-rest.rest.now c.in_default.len_below c.loop-rest.invariant.all)
    (finish_says _ c.loop-rest.reader c.finish.result c.loop-rest.invariant.reads c.finish.ensures.ok c.finish.ensures.err)).0

fault : goal.returns-clause-fault
fault c =
    (subst (λ (t : List ℕ). Says t c.finish.result) (no_more (λ x. x.items) _ _ c.loop-rest.rest.now c.in_default.len_below c.loop-rest.invariant.all)
    (finish_says _ c.loop-rest.reader c.finish.result c.loop-rest.invariant.reads c.finish.ensures.ok c.finish.ensures.err)).1

pub returns-clause-plan : goal.returns-clause-plan
returns-clause-plan c = plan c

pub returns-clause-fault : goal.returns-clause-fault
returns-clause-fault c = fault c

pub returns-clause-only : goal.returns-clause-only
returns-clause-only c = says_only _ c.finish.result (plan c, fault c)

pub returns-clause-read : goal.returns-clause-read
returns-clause-read c q n t = says_read _ c.finish.result (plan c, fault c) q n t

pub returns-clause-told : goal.returns-clause-told
returns-clause-told c f h = says_told _ c.finish.result (plan c, fault c) f h

pub returns-clause-sound : goal.returns-clause-sound
returns-clause-sound c f h = says_sound _ c.finish.result (plan c, fault c) f h
