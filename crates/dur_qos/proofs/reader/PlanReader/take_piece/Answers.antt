use Rattle.std.proofs.Common.{◌++◌, ◌-◌, [], ◌∷◌, get_or, length, drop, refl, sym, ◌∙◌, length-take, length-drop, arith}
use Rattle.dur_qos.proofs.Runs.{one_further, piece_stops}
use Rattle.dur_qos.proofs.reader.PlanReader.take_piece.Goals as goal

pub returns-in-Err-clause-err : goal.returns-in-Err-clause-err
returns-in-Err-clause-err c =
    let l = c.loop-rest in
    piece_stops c.args.self.now l.self c.take_octet.new.self (get_or l.rest.now 0 0) l.invariant.seen l.rest.now c.args.piece.now c.in-len1-up.len_at_least refl l.invariant.reads l.invariant.parts (sym c.is_ended.ensures ∙ c.if-is_ended.false) l.invariant.sound c.in-Err.fault c.in-Err.ensures.err

pub loop-rest-preserved : goal.loop-rest-preserved
loop-rest-preserved c =
    let l = c.loop-rest in
    let on = one_further c.args.self.now l.self c.take_octet.new.self (get_or l.rest.now 0 0) l.invariant.seen l.rest.now c.args.piece.now c.in-len1-up.len_at_least refl l.invariant.reads l.invariant.parts (sym c.is_ended.ensures ∙ c.if-is_ended.false) l.invariant.sound c.in-Ok.ensures.ok in
    record {
      sound = c.in-Ok.ensures.sound;
      seen = l.invariant.seen ++ get_or l.rest.now 0 0 ∷ [];
      reads = on.0;
      parts = on.1;
      after = on.2 ∙ l.invariant.after;
      count = omega (arith, on.3, l.invariant.count);
      short = omega (arith, l.invariant.short, c.in-len1-up.len_at_least, length-take (length l.rest.now - 1) (drop 1 l.rest.now), length-drop 1 l.rest.now);
    }
