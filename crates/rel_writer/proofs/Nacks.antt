-- The late reader asks, and a session is asked.
use Rattle.std.proofs.Common.{suc, zero, ◌≡◌, ℕ, ◌+◌, ◌<◌, ◌≤◌, Bool, true, false, cond, List, [], ◌∷◌, ◌++◌, length, take, drop, refl, ap, sym, subst, ◌∙◌, arith, inl, inr}
use Rattle.std.specs.Prelude.{Option, Some, None, slice_get, ◌&&◌, ◌||◌, nat_lt, unwrap_or}
use Rattle.std.specs.Str.{bytes_eq}
use Rattle.std.proofs.lemmas.Bool.{ltb-true}
use Rattle.std.proofs.lemmas.List.{take_at}
use Rattle.dur_base.specs.NumberSets.{NumberSet}
use Rattle.dur_base.specs.declared.fact.Fact.{Fact}
use Rattle.dur_base.specs.declared.fact.Fact.TheVariants as facts
use Rattle.rtps_message.specs.declared.heard.Heard.{Heard}
use Rattle.rtps_message.specs.declared.heard.End.TheVariants.{Whole}
use Rattle.rtps_message.specs.Facts.{everybody}
use Rattle.rtps_message.specs.Messages.{Hears}
use Rattle.rtps_message.specs.Written.{is_addressed, TellsOne}
use Rattle.rtps_message.proofs.Once.{hears_once}
use Rattle.rel_reader.specs.Stories.{next}
use Rattle.rel_writer.specs.Sets.{any_marker}
use Rattle.rel_writer.specs.Sessions.{Sending, answered, last_of, hears_all}
use Rattle.rel_writer.specs.LateReaders.{Late, LateHears, asked, IsNack}
use Rattle.rel_writer.specs.Worlds.{Begun, World, with_asked, Reaches, Answers}
use Rattle.rel_writer.proofs.WorldParts.{LateOk, PacketOk, BaseOk, NackOk, SendingOk, SessionOk, Good, same_bytes}
use Rattle.rel_writer.proofs.Reading.{Later, later_hears}
use Rattle.rel_writer.proofs.Reaching.{hears_one_ok, to_reader_heard}

-- ---- what holds of an earlier reader holds of a later one

nack_later : (l m : Late) (bytes : List ℕ) → Later l m → NackOk l bytes → NackOk m bytes
nack_later l m bytes h ok = record {
  to = ok.to;
  long = ok.long;
  set = ok.set;
  reader = ok.reader;
  writer = ok.writer;
  final = ok.final;
  tells = subst
      (λ (w : List ℕ). TellsOne (ok.to ++ w) bytes
      (facts.Nack ok.reader ok.writer ok.set ok.final)) (sym h.writer) ok.tells;
  base = by ok.base;
} where
  by : BaseOk l ok.to ok.set.base → BaseOk m ok.to ok.set.base
  by (inl x) = inl x
  by (inr x) = inr (h.keeps ok.to x.0, omega (arith, x.1, h.rises), x.2)

session_later : (id : List ℕ) (begun : List Begun) (l m : Late) (o : Option Sending) → Later l m
    → SessionOk id begun l o → SessionOk id begun m o
session_later id begun l m None h ok = tt
session_later id begun l m (Some s) h ok = record {
  cs = ok.cs;
  begins = ok.begins;
  samples = ok.samples;
  writer = ok.writer;
  reader = ok.reader ∙ sym h.reader;
  keyed = ok.keyed;
  complete = λ c. (h.keeps s.ids.own (ok.complete c).0, omega (arith, (ok.complete c).1, h.rises));
}

pub comes_good : (reader id : List ℕ) (w v : World) (bytes : List ℕ)
    → PacketOk reader id w.begun bytes → Good reader id w → Reaches w bytes v → Good reader id v
comes_good reader id w v bytes packet g r =
    let heard : r.heard.facts ≡ packet.fact ∷ [] =
    to_reader_heard reader bytes packet.fact r.heard packet.tells
    (subst (λ (t : List ℕ). Hears (take 12 t) bytes r.heard) g.reader_is r.tells) in
    let hears : LateHears w.late (packet.fact ∷ []) r.asked r.late =
    subst (λ (fs : List Fact). LateHears w.late fs r.asked r.late) heard r.hears in
    let later : Later w.late r.late = later_hears (packet.fact ∷ []) w.late r.asked r.late hears in
    subst (λ (u : World). Good reader id u) (sym r.is) (record {
      reader_is = later.reader ∙ g.reader_is;
      id_is = later.writer ∙ g.id_is;
      late = hears_one_ok id w.begun w.late packet.fact r.asked r.late packet.p packet.cs g.id_is
          packet.begins packet.means g.late hears;
      session = session_later id w.begun w.late r.late w.session later g.session;
      packets = g.packets;
      nacks = λ i b e. nack_later w.late r.late b later (g.nacks i b e);
    })

-- ---- the late reader asks

long_kept : (id : List ℕ) (begun : List Begun) (l : Late) (o : Option (List ℕ)) (p : List ℕ)
    → LateOk id begun o l → o ≡ Some p → (length p ≡ 12) × (bytes_eq p everybody ≡ false)
long_kept id begun l None p ok e = cc
long_kept id begun l (Some q) p ok e = let same : q ≡ p = cc in
    subst (λ (t : List ℕ). (length t ≡ 12) × (bytes_eq t everybody ≡ false)) same
    (ok.1.long, ok.1.one)

ask_ok : (id : List ℕ) (begun : List Begun) (l : Late) (bytes : List ℕ) (o : Option (List ℕ))
    (set : NumberSet) (final : Bool) → l.kept ≡ o → LateOk id begun o l → set.base ≡ next l.story
    → TellsOne (unwrap_or o everybody ++ l.writer) bytes
    (facts.Nack l.reader (drop 12 (unwrap_or o everybody ++ l.writer)) set final) → NackOk l bytes
ask_ok id begun l bytes None set final e ok base tells =
    let one : next l.story ≡ 1 = ap next ok.0 in
    record {
      to = everybody;
      long = refl;
      set = set;
      reader = l.reader;
      writer = drop 12 (everybody ++ l.writer);
      final = final;
      tells = tells;
      base = inl (refl, omega (arith, base, one));
    }
ask_ok id begun l bytes (Some p) set final e ok base tells =
    record {
      to = p;
      long = ok.1.long;
      set = set;
      reader = l.reader;
      writer = drop 12 (p ++ l.writer);
      final = final;
      tells = tells;
      base = inr (e, omega (arith, base), ok.1.one);
    }

pub put_first : {X : Type 0} (P : X → Type 0) (x : X) (xs : List X) → P x
    → ((i : ℕ) (y : X) → slice_get xs i ≡ Some y → P y) → (i : ℕ) (y : X)
    → slice_get (x ∷ xs) i ≡ Some y → P y
put_first P x xs here rest zero y e = let same : x ≡ y = cc in subst P same here
put_first P x xs here rest (suc i) y e = rest i y e

later_asked : (l : Late) → Later l (asked l)
later_asked l = record { reader = refl; writer = refl; keeps = λ p e. e; rises = omega arith }

late_asked : (id : List ℕ) (begun : List Begun) (l : Late) (o : Option (List ℕ))
    → LateOk id begun o l → LateOk id begun o (asked l)
late_asked id begun l None ok = ok
late_asked id begun l (Some p) ok = (
  ok.0,
  ok.1,
  record
      { at = ok.2.at; next_is = ok.2.next_is; knows = ok.2.knows; handled_is = ok.2.handled_is },
)

pub asks_good : (reader id : List ℕ) (w : World) (bytes : List ℕ) → Good reader id w
    → IsNack w.late bytes → Good reader id (with_asked w bytes)
asks_good reader id w bytes g n =
    let here : NackOk w.late bytes =
    ask_ok id w.begun w.late bytes w.late.kept n.set (any_marker w.late.handled) refl g.late
    n.base n.tells in
    record {
      reader_is = g.reader_is;
      id_is = g.id_is;
      late = late_asked id w.begun w.late w.late.kept g.late;
      session = session_later id w.begun w.late (asked w.late) w.session (later_asked w.late)
          g.session;
      packets = g.packets;
      nacks = put_first (NackOk (asked w.late)) bytes w.to_session
          (nack_later w.late (asked w.late) bytes (later_asked w.late) here)
          (λ i b e. nack_later w.late (asked w.late) b (later_asked w.late) (g.nacks i b e));
    }

-- ---- a session is asked

completes : (a b : Bool) (P : Type 0) → (a ≡ true → P) → (b ≡ true → P) → (a || b) ≡ true → P
completes true b P f g h = f refl
completes false b P f g h = g h

-- whom an ACKNACK above the marker reaches, has that prefix kept
asked_by : (l : Late) (own to writer : List ℕ) (n base : ℕ) → length to ≡ 12 → BaseOk l to base
    → is_addressed own (to ++ writer) ≡ true → n + 1 < base
    → (l.kept ≡ Some own) × (n + 2 ≤ next l.story)
asked_by l own to writer n base long (inl x) h far = absurd (omega (arith, x.1, far))
asked_by l own to writer n base long (inr x) h far =
    let front : take 12 (to ++ writer) ≡ to = take_at to writer 12 long in
    let both : (bytes_eq to everybody || bytes_eq to own) ≡ true =
    ap (λ t. bytes_eq t everybody || bytes_eq t own) (sym front) ∙ h in
    let mine : bytes_eq to own ≡ true = sym (ap (λ b. b || bytes_eq to own) x.2) ∙ both in
    (x.0 ∙ ap (λ (r : List ℕ). Some r) (same_bytes to own mine), omega (arith, x.1, far))

answered_ok : (id : List ℕ) (begun : List Begun) (l : Late) (s : Sending) (set : NumberSet)
    → SendingOk id begun l s
    → (last_of s < set.base → (l.kept ≡ Some s.ids.own) × (length s.samples + 2 ≤ next l.story))
    → SendingOk id begun l (answered s set)
answered_ok id begun l s set ok far = record {
  cs = ok.cs;
  begins = ok.begins;
  samples = ok.samples;
  writer = ok.writer;
  reader = ok.reader;
  keyed = ok.keyed;
  complete = completes s.complete (nat_lt (last_of s) set.base) _ ok.complete
      (λ b. far (ltb-true (last_of s) set.base b));
}

cond_ok : (P : Sending → Type 0) (b : Bool) (s t : Sending) → P s → P t → P (cond b s t)
cond_ok P true s t x y = x
cond_ok P false s t x y = y

hears_ok : (id : List ℕ) (begun : List Begun) (l : Late) (s : Sending) (reader writer : List ℕ)
    (set : NumberSet) (final : Bool) → SendingOk id begun l s → (b : Bool)
    → (b ≡ true → last_of s < set.base
    → (l.kept ≡ Some s.ids.own) × (length s.samples + 2 ≤ next l.story))
    → SendingOk id begun l (hears_all s (cond b (facts.Nack reader writer set final ∷ []) []))
hears_ok id begun l s reader writer set final ok false far = ok
hears_ok id begun l s reader writer set final ok true far =
    cond_ok (SendingOk id begun l) (bytes_eq reader s.ids.reader && bytes_eq writer s.ids.writer)
    (answered s set) s (answered_ok id begun l s set ok (far refl)) ok

pub nack_good : (reader id : List ℕ) (w v : World) (s : Sending) (bytes : List ℕ) → Good reader id w
    → SendingOk id w.begun w.late s → NackOk w.late bytes → Answers w s bytes v → Good reader id v
nack_good reader id w v s bytes g ok n a =
    let own = s.ids.own in
    let b = is_addressed own (n.to ++ w.late.writer) in
    let fact = facts.Nack n.reader n.writer n.set n.final in
    let one : a.heard ≡ record { facts = cond b (fact ∷ []) []; end = Whole } =
    hears_once own bytes a.heard _ a.tells (n.tells own) in
    let done : SendingOk id w.begun w.late (hears_all s (cond b (fact ∷ []) [])) =
    hears_ok id w.begun w.late s n.reader n.writer n.set n.final ok b
    (λ mine far. asked_by w.late own n.to w.late.writer (length s.samples) n.set.base n.long
    n.base mine far) in
    subst (λ (u : World). Good reader id u) (sym a.is) (record {
      reader_is = g.reader_is;
      id_is = g.id_is;
      late = g.late;
      session = subst (λ (x : Heard). SendingOk id w.begun w.late (hears_all s x.facts)) (sym one)
          done;
      packets = g.packets;
      nacks = g.nacks;
    })
