-- What came determines the turns, and over a session they end.
use Rattle.std.proofs.Common.{◌≡◌, ◌≤◌, ◌+◌, ◌*◌, ℕ, zero, suc, Bool, true, false, List, [], ◌∷◌, ◌++◌, length, Option, Some, None, refl, sym, ap, subst, ◌∙◌, arith, append-nil}
use Rattle.std.specs.Prelude.{◌||◌}
use Rattle.std.proofs.Math.Nat.{lt_of_not-le}
use Rattle.dur_view.specs.declared.change.Change.{Change}
use Rattle.rtps_message.specs.declared.heard.Heard.{Heard}
use Rattle.rtps_message.proofs.Once.{hears_once}
use Rattle.rel_writer.specs.declared.ids.Ids.{Ids}
use Rattle.rel_writer.specs.LateReaders.{Late, LateHears, asked}
use Rattle.rel_writer.specs.Sets.{any_marker}
use Rattle.rel_writer.specs.Sessions.{Sending}
use Rattle.rel_writer.specs.Turns.{Link, Receives, AsksIf, Turns, Turn as LinkTurn, begin}
use Rattle.rel_writer.proofs.HearsFacts.{one_way}
use Rattle.rel_writer.proofs.Asking.{one_nack}
use Rattle.rel_writer.proofs.Ending.{ends_in_time}
use Rattle.dur_rerun.specs.Late.Turns.{Turn, Takes, TakesAll, SendsIf, waiting, answers, GoOneWay}
use Rattle.dur_rerun.specs.Late.Sessions.{Gives, RepliesEach, AreOver, EndsBefore}

-- ---- what came determines the turns

receives_once : (l : Late) (o : Option (List ℕ)) (x y : Bool) (m n : Late) → Receives l (waiting o) [] x m → Receives l (waiting o) [] y n → (x ≡ y) × (m ≡ n)
receives_once l None x y m n a b = (a.1 ∙ sym b.1, a.2 ∙ sym b.2)
receives_once l (Some bytes) x y m n a b =
    let same : a.0 ≡ b.0 = hears_once _ bytes a.0 b.0 a.2 b.2 in
    let way = one_way b.0.facts l a.1 b.1 m n (subst (λ (h : Heard). LateHears l h.facts a.1 m) same a.3) b.3 in
    (a.4 ∙ ap (λ (s : Bool). s || any_marker m.handled) way.1 ∙ ap (λ (k : Late). b.1 || any_marker k.handled) way.0 ∙ sym b.4, way.0)

sends_once : (asks : Bool) (l : Late) (ns ms : List (List ℕ)) (a b : Late) → SendsIf asks l ns a → SendsIf asks l ms b → (ns ≡ ms) × (a ≡ b)
sends_once false l ns ms a b p q = (p.0 ∙ sym q.0, p.1 ∙ sym q.1)
sends_once true l ns ms a b p q = (p.2 ∙ ap (λ (x : List ℕ). x ∷ []) (one_nack l p.0 q.0 p.1 q.1) ∙ sym q.2, p.3 ∙ sym q.3)

same_turn : (t u : Turn) → t.answer ≡ u.answer → t.nacks ≡ u.nacks → t ≡ u
same_turn t u p q = ap (λ (o : Option (List ℕ)). let x : Turn = record { answer = o; nacks = t.nacks } in x) p ∙ ap (λ (n : List (List ℕ)). let x : Turn = record { answer = u.answer; nacks = n } in x) q

takes_once : (l : Late) (t u : Turn) (a b : Late) → t.answer ≡ u.answer → Takes l t a → Takes l u b → (t ≡ u) × (a ≡ b)
takes_once l t u a b same p q =
    let heard = receives_once l u.answer p.asks q.asks p.heard q.heard (subst (λ (o : Option (List ℕ)). Receives l (waiting o) [] p.asks p.heard) same p.receives) q.receives in
    let sends = sends_once q.asks q.heard t.nacks u.nacks a b (subst (λ (m : Late). SendsIf q.asks m t.nacks a) heard.1 (subst (λ (x : Bool). SendsIf x p.heard t.nacks a) heard.0 p.sends)) q.sends in
    (same_turn t u same sends.0, sends.1)

pub go_one_way : (l : Late) → GoOneWay l
go_one_way l [] [] a b p q is = (refl, p ∙ sym q)
go_one_way l [] (u ∷ us) a b p q is = absurd cc
go_one_way l (t ∷ ts) [] a b p q is = absurd cc
go_one_way l (t ∷ ts) (u ∷ us) a b p q is =
    let first : t.answer ≡ u.answer = cc in
    let rest : answers ts ≡ answers us = cc in
    let turn = takes_once l t u p.1 q.1 first p.2 q.2 in
    let later = go_one_way q.1 ts us a b (subst (λ (m : Late). TakesAll m ts a) turn.1 p.3) q.3 rest in
    (ap (λ (x : Turn). x ∷ ts) turn.0 ∙ ap (λ (xs : List Turn). u ∷ xs) later.0, later.1)

-- ---- over a session they end

gives_so : (l : Late) (queue rest : List (List ℕ)) (answer : Option (List ℕ)) (asks : Bool) (heard : Late) → Gives queue answer rest → Receives l (waiting answer) [] asks heard → Receives l queue rest asks heard
gives_so l [] rest answer asks heard gives r =
    let none = subst (λ (o : Option (List ℕ)). Receives l (waiting o) [] asks heard) gives.0 r in
    (gives.1, none.1, none.2)
gives_so l (bytes ∷ queue) rest answer asks heard gives r =
    let some = subst (λ (o : Option (List ℕ)). Receives l (waiting o) [] asks heard) gives.0 r in
    (some.0, some.1, some.2, some.3, some.4, gives.1)

-- an ACKNACK, and what becomes of the link
record AsksSo (asks : Bool) (l : Late) (s : Sending) (rest replies : List (List ℕ)) (after : Late) (served : Sending) : Type 0 where
  w : Link
  asks_if : AsksIf asks l s rest w
  late_is : w.late ≡ after
  session_is : w.session ≡ served
  queue_is : w.queue ≡ rest ++ replies

asks_so : (asks : Bool) (l : Late) (s : Sending) (rest nacks replies : List (List ℕ)) (after : Late) (served : Sending) → SendsIf asks l nacks after → RepliesEach s nacks replies served → AsksSo asks l s rest replies after served
asks_so false l s rest nacks replies after served sends each =
    let none = subst (λ (ns : List (List ℕ)). RepliesEach s ns replies served) sends.0 each in
    record {
      w = record { late = l; session = s; queue = rest };
      asks_if = refl;
      late_is = sym sends.1;
      session_is = sym none.1;
      queue_is = sym (append-nil rest) ∙ ap (λ (r : List (List ℕ)). rest ++ r) (sym none.0);
    }
asks_so true l s rest nacks replies after served sends each =
    let one = subst (λ (ns : List (List ℕ)). RepliesEach s ns replies served) sends.2 each in
    let reply = one.3 in
    record {
      w = record { late = asked l; session = one.2; queue = rest ++ one.0 };
      asks_if = record { bytes = sends.0; nack = sends.1; heard = reply.heard; tells = reply.tells; sent = one.0; after = one.2; replies = reply.all; is = refl };
      late_is = sym sends.3;
      session_is = sym one.4.1;
      queue_is = ap (λ (r : List (List ℕ)). rest ++ r) (sym (append-nil one.0) ∙ ap (λ (r : List (List ℕ)). one.0 ++ r) (sym one.4.0) ∙ sym one.5);
    }

first_not_done : (l after : Late) (ts : List Turn) → TakesAll l ts after → any_marker after.handled ≡ false → any_marker l.handled ≡ false
first_not_done l after [] all not_done = subst (λ (m : Late). any_marker m.handled ≡ false) all not_done
first_not_done l after (t ∷ ts) all not_done = all.0

-- so many of the turns are turns of the link
walks : (n : ℕ) (v : Link) (ts : List Turn) (after : Late) → AreOver v.session v.queue ts → TakesAll v.late ts after → any_marker after.handled ≡ false → n ≤ length ts → (w : Link) × Turns n v w × (any_marker w.late.handled ≡ false)
walks zero v ts after over all not_done within = (v, refl, first_not_done v.late after ts all not_done)
walks (suc n) v [] after over all not_done within = let no : ⊥ = omega (arith, within) in absurd no
walks (suc n) v (t ∷ ts) after over all not_done within =
    let turn = all.2 in
    let asks = asks_so turn.asks turn.heard v.session over.0 t.nacks over.1 all.1 over.2 turn.sends over.4 in
    let w = asks.w in
    let one : LinkTurn false v w = (over.0, turn.asks, turn.heard, gives_so v.late v.queue over.0 t.answer turn.asks turn.heard over.3 turn.receives, asks.asks_if) in
    let rest = walks n w ts after
    (subst (λ (q : List (List ℕ)). AreOver w.session q ts) (sym asks.queue_is) (subst (λ (s : Sending). AreOver s (over.0 ++ over.1) ts) (sym asks.session_is) over.5))
    (subst (λ (m : Late). TakesAll m ts after) (sym asks.late_is) all.3) not_done (omega (arith, within)) in
    (rest.0, (w, subst (λ (b : Bool). LinkTurn b v w) (sym all.0) one, rest.1), rest.2)

pub ends_before : (service : List ℕ) (ids : Ids) (changes : List Change) → EndsBefore service ids changes
ends_before service ids changes ts after fits over all not_done =
    lt_of_not-le (λ within.
    let walk = walks (3 + 2 * (length changes + 1)) (begin service ids changes) ts after over all not_done within in
    let both : true ≡ false = sym (ends_in_time service ids changes fits walk.0 walk.1) ∙ walk.2 in
    absurd cc)
