-- Turns of a late reader, step by step.
use Rattle.std.proofs.Common.{◌≡◌, ◌≤◌, ◌+◌, ℕ, Bool, true, false, List, [], ◌∷◌, ◌++◌, length, Option, Some, None, Result, refl, sym, ap, subst, ◌∙◌, arith, append-nil, append_assoc}
use Rattle.std.specs.Prelude.{◌||◌, OnOk, Ok, Err}
use Rattle.std.proofs.lemmas.List.{map-append}
use Rattle.std.proofs.lemmas.Grind.{flat_map-append}
use Rattle.rel_writer.specs.declared.late.LateReader.{LateReader}
use Rattle.rel_writer.specs.LateReaders.{Late, IsNack, asked}
use Rattle.rel_writer.specs.Sets.{any_marker}
use Rattle.rel_writer.specs.Standing.{Stands, HearsBytes}
use Rattle.dur_rerun.specs.Late.Turns.{Turn, Takes, TakesAll, answers, nacks}
use Rattle.dur_rerun.specs.Late.Steps.{HearsOf, SendsOf, TakesOf, IsCutShort, Went, GoesOn, GoesTo, StopsIn}

-- ---- one turn

pub hears_none : (l : Late) (r : LateReader) → Stands r l → HearsOf l None true r
hears_none l r st = record { heard = l; receives = (refl, refl, refl); stands = st }

pub hears_some : (l : Late) (r : LateReader) (bytes : List ℕ) (shown done : Bool) → HearsBytes r shown bytes l → ((m : Late) → Stands r m → done ≡ any_marker m.handled) → HearsOf l (Some bytes) (shown || done) r
hears_some l r bytes shown done h is = record {
  heard = h.all.after;
  receives = (h.heard, shown, h.tells, h.all.hears, ap (λ (b : Bool). shown || b) (is h.all.after h.all.stands), refl);
  stands = h.all.stands;
}

pub sends_none : (l : Late) (r : LateReader) (tells : Type 0) (sent : List (List ℕ)) → Stands r l → SendsOf l false r tells sent sent
sends_none l r tells sent st = record { nacks = []; after = l; sends = (refl, refl); stands = st; sent_is = λ t. sym (append-nil sent) }

pub sends_one : (l : Late) (r : LateReader) (bytes : List ℕ) (tells : Type 0) (sent sent_now : List (List ℕ)) → IsNack l bytes → Stands r (asked l) → (tells → sent_now ≡ sent ++ bytes ∷ []) → SendsOf l true r tells sent sent_now
sends_one l r bytes tells sent sent_now nack st is = record {
  nacks = bytes ∷ [];
  after = asked l;
  sends = (bytes, nack, refl, refl);
  stands = st;
  sent_is = is;
}

pub turn_taken : (l : Late) (r s : LateReader) (answer : Option (List ℕ)) (asks : Bool) (tells : Type 0) (heard heard_now : List (Option (List ℕ))) (sent sent_now : List (List ℕ))
    → HearsOf l answer asks r → ((m : Late) → Stands r m → SendsOf m asks s tells sent sent_now) → (tells → heard_now ≡ heard ++ answer ∷ []) → TakesOf l s tells heard heard_now sent sent_now
turn_taken l r s answer asks tells heard heard_now sent sent_now h sends is =
    let after = sends h.heard h.stands in
    record {
      turn = record { answer = answer; nacks = after.nacks };
      after = after.after;
      takes = record { asks = asks; heard = h.heard; receives = h.receives; sends = after.sends };
      stands = after.stands;
      heard_is = is;
      sent_is = after.sent_is;
    }

-- a call failed before anything came
pub cut_before : (tells : Type 0) (heard heard_now : List (Option (List ℕ))) (sent sent_now : List (List ℕ)) → (tells → heard_now ≡ heard) → (tells → sent_now ≡ sent) → IsCutShort tells heard heard_now sent sent_now
cut_before tells heard heard_now sent sent_now h s = record {
  cut = [];
  short = omega arith;
  heard_is = λ t. h t ∙ sym (append-nil heard);
  sent_is = s;
}

-- or behind it
pub cut_behind : (answer : Option (List ℕ)) (tells : Type 0) (heard heard_now : List (Option (List ℕ))) (sent sent_now : List (List ℕ)) → (tells → heard_now ≡ heard ++ answer ∷ []) → (tells → sent_now ≡ sent) → IsCutShort tells heard heard_now sent sent_now
cut_behind answer tells heard heard_now sent sent_now h s = record {
  cut = answer ∷ [];
  short = omega arith;
  heard_is = h;
  sent_is = s;
}

-- ---- one turn after others

takes_more : (l m n : Late) (ts : List Turn) (t : Turn) → TakesAll l ts m → any_marker m.handled ≡ false → Takes m t n → TakesAll l (ts ++ t ∷ []) n
takes_more l m n [] t all not_done takes = subst (λ (k : Late). TakesAll k (t ∷ []) n) all (not_done, n, takes, refl)
takes_more l m n (x ∷ xs) t all not_done takes = (all.0, all.1, all.2, takes_more all.1 m n xs t all.3 not_done takes)

length_more : (ts : List Turn) (t : Turn) → length (ts ++ t ∷ []) ≡ length ts + 1
length_more [] t = refl
length_more (x ∷ ts) t = let e = length_more ts t in omega (arith, e)

pub went_none : (l : Late) (tells : Type 0) (heard : List (Option (List ℕ))) (sent : List (List ℕ)) → Went l 0 tells heard heard sent sent l
went_none l tells heard sent = record {
  ts = [];
  takes = refl;
  count_is = refl;
  heard_is = λ t. sym (append-nil heard);
  sent_is = λ t. sym (append-nil sent);
}

pub went_more : (l m : Late) (r : LateReader) (count : ℕ) (tells : Type 0) (heard heard_mid heard_now : List (Option (List ℕ))) (sent sent_mid sent_now : List (List ℕ))
    → Went l count tells heard heard_mid sent sent_mid m → any_marker m.handled ≡ false → (turn : TakesOf m r tells heard_mid heard_now sent_mid sent_now) → Went l (count + 1) tells heard heard_now sent sent_now turn.after
went_more l m r count tells heard heard_mid heard_now sent sent_mid sent_now w not_done turn = record {
  ts = w.ts ++ turn.turn ∷ [];
  takes = takes_more l m turn.after w.ts turn.turn w.takes not_done turn.takes;
  count_is = length_more w.ts turn.turn ∙ ap (λ (n : ℕ). n + 1) w.count_is;
  heard_is = λ t.
      turn.heard_is t
      ∙ ap (λ (h : List (Option (List ℕ))). h ++ turn.turn.answer ∷ []) (w.heard_is t)
      ∙ append_assoc heard (answers w.ts) (turn.turn.answer ∷ [])
      ∙ ap (λ (a : List (Option (List ℕ))). heard ++ a) (sym (map-append (λ (t : Turn). t.answer) w.ts (turn.turn ∷ [])));
  sent_is = λ t.
      turn.sent_is t
      ∙ ap (λ (s : List (List ℕ)). s ++ turn.turn.nacks) (w.sent_is t)
      ∙ append_assoc sent (nacks w.ts) turn.turn.nacks
      ∙ ap (λ (a : List (List ℕ)). sent ++ a)
      (ap (λ (n : List (List ℕ)). nacks w.ts ++ n) (sym (append-nil turn.turn.nacks)) ∙ sym (flat_map-append (λ (t : Turn). t.nacks) w.ts (turn.turn ∷ [])));
}

-- ---- the loop

pub begins_going : (l : Late) (r : LateReader) (tells : Type 0) (heard : List (Option (List ℕ))) (sent : List (List ℕ)) → Stands r l → any_marker l.handled ≡ false → GoesOn l 0 r tells heard heard sent sent
begins_going l r tells heard sent st not_done = record { after = l; went = went_none l tells heard sent; stands = st; not_done = not_done }

pub goes_on : (l : Late) (r s : LateReader) (count : ℕ) (done : Bool) (tells : Type 0) (heard heard_mid heard_now : List (Option (List ℕ))) (sent sent_mid sent_now : List (List ℕ))
    → GoesOn l count r tells heard heard_mid sent sent_mid → ((m : Late) → Stands r m → TakesOf m s tells heard_mid heard_now sent_mid sent_now) → ((m : Late) → Stands s m → done ≡ any_marker m.handled) → done ≡ false
    → GoesOn l (count + 1) s tells heard heard_now sent sent_now
goes_on l r s count done tells heard heard_mid heard_now sent sent_mid sent_now g takes is not_done =
    let turn = takes g.after g.stands in
    record {
      after = turn.after;
      went = went_more l g.after s count tells heard heard_mid heard_now sent sent_mid sent_now g.went g.not_done turn;
      stands = turn.stands;
      not_done = sym (is turn.after turn.stands) ∙ not_done;
    }

pub goes_to_done : (l : Late) (r s : LateReader) (count turns : ℕ) (done : Bool) (tells : Type 0) (heard heard_mid heard_now : List (Option (List ℕ))) (sent sent_mid sent_now : List (List ℕ))
    → GoesOn l count r tells heard heard_mid sent sent_mid → ((m : Late) → Stands r m → TakesOf m s tells heard_mid heard_now sent_mid sent_now) → ((m : Late) → Stands s m → done ≡ any_marker m.handled) → done ≡ true → count + 1 ≤ turns
    → GoesTo l turns s tells heard heard_now sent sent_now
goes_to_done l r s count turns done tells heard heard_mid heard_now sent sent_mid sent_now g takes is is_done within =
    let turn = takes g.after g.stands in
    record {
      count = count + 1;
      within = within;
      after = turn.after;
      went = went_more l g.after s count tells heard heard_mid heard_now sent sent_mid sent_now g.went g.not_done turn;
      stands = turn.stands;
      ends = λ no. let both : true ≡ false = sym is_done ∙ is turn.after turn.stands ∙ no in absurd cc;
    }

pub goes_to_end : (l : Late) (r : LateReader) (count turns : ℕ) (tells : Type 0) (heard heard_now : List (Option (List ℕ))) (sent sent_now : List (List ℕ)) → GoesOn l count r tells heard heard_now sent sent_now → count ≡ turns → GoesTo l turns r tells heard heard_now sent sent_now
goes_to_end l r count turns tells heard heard_now sent sent_now g all = record {
  count = count;
  within = omega (arith, all);
  after = g.after;
  went = g.went;
  stands = g.stands;
  ends = λ no. all;
}

pub stops_in : (l : Late) (r : LateReader) (count turns : ℕ) (tells : Type 0) (heard heard_mid heard_now : List (Option (List ℕ))) (sent sent_mid sent_now : List (List ℕ))
    → GoesOn l count r tells heard heard_mid sent sent_mid → IsCutShort tells heard_mid heard_now sent_mid sent_now → count + 1 ≤ turns → StopsIn l turns tells heard heard_now sent sent_now
stops_in l r count turns tells heard heard_mid heard_now sent sent_mid sent_now g c within = record {
  ts = g.went.ts;
  after = g.after;
  takes = g.went.takes;
  not_done = g.not_done;
  cut = c.cut;
  short = c.short;
  within = omega (arith, g.went.count_is, c.short, within);
  heard_is = λ t. c.heard_is t ∙ ap (λ (h : List (Option (List ℕ))). h ++ c.cut) (g.went.heard_is t) ∙ append_assoc heard (answers g.went.ts) c.cut;
  sent_is = λ t. c.sent_is t ∙ g.went.sent_is t;
}

-- ---- by the results of the calls

pub send_ok : {E : Type 0} → (result : Result (Unit {0}) E) (old r : LateReader) (asks : Bool) (bytes : List ℕ) (tells : Type 0) (sent sent_now : List (List ℕ))
    → asks ≡ true → ((m : Late) → Stands old m → IsNack m bytes) → ((m : Late) → Stands old m → Stands r (asked m)) → (tells → OnOk result (sent_now ≡ sent ++ bytes ∷ []))
    → OnOk result ((l : Late) → Stands old l → SendsOf l asks r tells sent sent_now)
send_ok (Ok done) old r asks bytes tells sent sent_now is nack after sends =
    λ l st. subst (λ (b : Bool). SendsOf l b r tells sent sent_now) (sym is) (sends_one l r bytes tells sent sent_now (nack l st) (after l st) sends)
send_ok (Err e) old r asks bytes tells sent sent_now is nack after sends = tt

pub turn_ok : {E : Type 0} → (result : Result (Unit {0}) E) (old r s : LateReader) (answer : Option (List ℕ)) (asks : Bool) (tells : Type 0) (heard heard_mid heard_now : List (Option (List ℕ))) (sent sent_mid sent_now : List (List ℕ))
    → ((l : Late) → Stands old l → HearsOf l answer asks r) → OnOk result ((l : Late) → Stands r l → SendsOf l asks s tells sent_mid sent_now)
    → (tells → heard_mid ≡ heard ++ answer ∷ []) → (tells → heard_now ≡ heard_mid) → (tells → sent_mid ≡ sent)
    → OnOk result ((l : Late) → Stands old l → TakesOf l s tells heard heard_now sent sent_now)
turn_ok (Ok done) old r s answer asks tells heard heard_mid heard_now sent sent_mid sent_now hears sends came unheard unsent =
    λ l st. turn_taken l r s answer asks tells heard heard_now sent sent_now (hears l st)
    (λ m ms. let h = sends m ms in record {
      nacks = h.nacks;
      after = h.after;
      sends = h.sends;
      stands = h.stands;
      sent_is = λ t. h.sent_is t ∙ ap (λ (x : List (List ℕ)). x ++ h.nacks) (unsent t);
    })
    (λ t. unheard t ∙ came t)
turn_ok (Err e) old r s answer asks tells heard heard_mid heard_now sent sent_mid sent_now hears sends came unheard unsent = tt
