-- In a turn the late reader asks, and the session replies.
use Rattle.std.proofs.Common.{suc, zero, ◌≡◌, ℕ, ◌+◌, ◌-◌, ◌<◌, ◌≤◌, Bool, true, false, cond, min, List, [], ◌∷◌, ◌++◌, length, take, drop, refl, ap, sym, subst, ◌∙◌, arith, inl, inr, append-nil}
use Rattle.std.specs.Prelude.{Option, Some, None, slice_get, ◌&&◌, ◌||◌, nat_le, unwrap_or}
use Rattle.std.specs.Str.{bytes_eq}
use Rattle.std.proofs.lemmas.Bool.{cases_Bool, leb-true, leb-false, le-leb, lt-leb}
use Rattle.std.proofs.lemmas.List.{take_at, drop_at}
use Rattle.dur_base.specs.NumberSets.{NumberSet, names}
use Rattle.dur_base.specs.declared.fact.Fact.{Fact}
use Rattle.dur_base.specs.declared.fact.Fact.TheVariants as facts
use Rattle.dur_base.specs.declared.sample.Sample.{Sample}
use Rattle.rtps_message.specs.declared.heard.Heard.{Heard}
use Rattle.rtps_message.specs.Facts.{everybody}
use Rattle.rtps_message.specs.Messages.{Hears}
use Rattle.rtps_message.specs.declared.heard.End.TheVariants.{Whole}
use Rattle.rtps_message.proofs.Once.{hears_once}
use Rattle.rtps_message.specs.Sent.{is_keyed, marker}
use Rattle.rtps_message.specs.Written.{TellsOne, is_addressed, sample_raw, marker_raw}
use Rattle.rel_reader.specs.Knowledge.{is_unknown}
use Rattle.rel_reader.specs.Stories.{next}
use Rattle.rel_reader.specs.KnownNumbers.{known}
use Rattle.rel_reader.specs.MissingNumbers.{is_missing}
use Rattle.rel_writer.specs.declared.ids.Ids.{Ids}
use Rattle.rel_writer.specs.Replays.{replay, sent, IsSent}
use Rattle.rel_writer.specs.Sessions.{Sending, answered, last_of, is_asked, asks_beat, IsBeat, IsPlace, IsData}
use Rattle.rel_writer.specs.Turns.{Link, asked_from, AreData, BeatsIf, Replies, RepliesIf, RepliesAll, Asks}
use Rattle.rel_writer.proofs.SentAgain.{sample_read, marker_read}
use Rattle.rel_writer.specs.Sets.{any_marker}
use Rattle.rel_writer.specs.LateReaders.{Late, shape_of, read_of, asked_writer}
use Rattle.rel_writer.proofs.WorldParts.{bytes_same}
use Rattle.rel_writer.proofs.SessionSteps.{get_front, get_behind, one_of_each}
use Rattle.rel_writer.proofs.TurnParts.{Setup, Has, TellsData, TellsBeat, Waits}

pub none_from : (f : ℕ → Bool) (k count : ℕ) → ((j : ℕ) → k ≤ j → j < k + count → f j ≡ false)
    → asked_from f k count ≡ []
none_from f k zero h = refl
none_from f k (suc count) h =
    ap (λ b. cond b (k ∷ asked_from f (k + 1) count) (asked_from f (k + 1) count))
    (h k (omega arith) (omega arith))
    ∙ none_from f (k + 1) count (λ j low high. h j (omega (arith, low)) (omega (arith, high)))

data_tells : (service : List ℕ) (ids : Ids) (xs : List Sample) (s : Sending) (at : ℕ)
    (bytes : List ℕ) (o : Option Sample) → Setup service ids xs → s.ids ≡ ids → s.samples ≡ xs
    → slice_get s.samples at ≡ o → IsPlace s at o bytes → TellsData ids xs at bytes
data_tells service ids xs s at bytes (Some x) u e is there d =
    let get : slice_get xs at ≡ Some x = ap (λ (ys : List Sample). slice_get ys at) (sym is)
    ∙ there in
    let good : IsSent (is_keyed (shape_of ids.writer)) x =
    one_of_each (IsSent (is_keyed (shape_of ids.writer))) xs at x u.each get in
    record {
      raw = sample_raw x ids.keyed;
      sample = x;
      tells = subst
          (λ (i : Ids). TellsOne i.reader bytes
          (facts.Data (i.own ++ i.writer) (drop 12 i.reader) (at + 1) (sample_raw x i.keyed))) e
          d.tells;
      get = get_front xs (marker 0 ∷ []) at x get;
      reads = ap (λ k. read_of ids.writer (sample_raw x k)) u.keyed
          ∙ sample_read ids.writer (is_keyed (shape_of ids.writer)) x refl good;
    }
data_tells service ids xs s at bytes None u e is there d = record {
  raw = marker_raw;
  sample = marker 0;
  tells = subst
      (λ (i : Ids). TellsOne i.reader bytes
      (facts.Data (i.own ++ i.writer) (drop 12 i.reader) (at + 1) marker_raw)) e d.1.tells;
  get = ap (slice_get (replay xs)) (d.0 ∙ ap (λ (ys : List Sample). length ys) is)
      ∙ get_behind xs (marker 0);
  reads = marker_read ids.writer;
}

-- some DATA from a place on, and the HEARTBEAT behind them; one at least, if one is asked for
pub record SomeWait (ids : Ids) (xs : List Sample) (at count : ℕ) (queue : List (List ℕ)) : Type 0 where
  pub n : ℕ
  pub within : at + n ≤ length xs + 1
  pub some : 0 < count → at ≤ length xs → 0 < n
  pub waits : Waits ids xs at n queue

waits_none : (ids : Ids) (xs : List Sample) (at count : ℕ) (sent_on : List (List ℕ))
    (beat : List ℕ) → at ≤ length xs + 1 → (0 < count → at ≤ length xs → ⊥)
    → TellsBeat ids xs beat → sent_on ≡ [] → SomeWait ids xs at count (sent_on ++ beat ∷ [])
waits_none ids xs at count sent_on beat within none tells e =
    record {
      n = 0;
      within = omega (arith, within);
      some = λ a b. absurd (none a b);
      waits =
          (beat, ap (λ t. t ++ beat ∷ []) e, tells);
    }

waits_of : (service : List ℕ) (ids : Ids) (xs : List Sample) (s : Sending) (f : ℕ → Bool)
    (count at : ℕ) (sent_on : List (List ℕ)) (beat : List ℕ) → Setup service ids xs → s.ids ≡ ids
    → s.samples ≡ xs → TellsBeat ids xs beat → at ≤ length xs + 1
    → ((j : ℕ) → at + 1 ≤ j → j < at + 1 + count → f j ≡ nat_le j (length xs + 1))
    → AreData s (asked_from f (at + 1) count) sent_on
    → SomeWait ids xs at count (sent_on ++ beat ∷ [])
waits_of service ids xs s f zero at sent_on beat u e is tells within h are =
    waits_none ids xs at zero sent_on beat within (λ a b. absurd (omega (arith, a))) tells are
waits_of service ids xs s f (suc count) at sent_on beat u e is tells within h are =
    elim (cases_Bool (f (at + 1))) [
      | inl it ↦
          let more : AreData s ((at + 1) ∷ asked_from f (at + 1 + 1) count) sent_on =
          subst (λ (b : Bool). AreData s
          (cond b ((at + 1) ∷ asked_from f (at + 1 + 1) count) (asked_from f (at + 1 + 1) count))
          sent_on) it are in
          let far : at + 1 ≤ length xs + 1 =
          leb-true (at + 1) (length xs + 1) (sym (h (at + 1) (omega arith) (omega arith)) ∙ it) in
          let place : at + 1 - 1 ≡ at = omega arith in
          let rest = waits_of service ids xs s f count (at + 1) more.1 beat u e is tells far
          (λ j low high. h j (omega (arith, low)) (omega (arith, high))) more.4 in
          let first : TellsData ids xs at more.0 =
          data_tells service ids xs s at more.0 (slice_get s.samples at) u e is refl
          (subst (λ (n : ℕ). IsData s n more.0) place more.3) in
          record {
            n = suc rest.n;
            within = omega (arith, rest.within);
            some = λ a b. omega arith;
            waits = (more.0, more.1 ++ beat ∷ [], ap (λ t. t ++ beat ∷ []) more.2, first, rest.waits);
          }
      | inr other ↦
          let over : length xs + 1 < at + 1 =
          leb-false (at + 1) (length xs + 1)
          (sym (h (at + 1) (omega arith) (omega arith)) ∙ other) in
          let none : asked_from f (at + 1) (suc count) ≡ [] =
          none_from f (at + 1) (suc count)
          (λ j low high. h j low high ∙ lt-leb j (length xs + 1) (omega (arith, low, over))) in
          waits_none ids xs at (suc count) sent_on beat within
          (λ a b. absurd (omega (arith, over, b))) tells
          (subst (λ (ks : List ℕ). AreData s ks sent_on) none are)
    ]

-- what the set of its ACKNACK names, of the 256 numbers from its next one on
asked_is : (service : List ℕ) (ids : Ids) (xs : List Sample) (l : Late) (s : Sending)
    (set : NumberSet) (at : ℕ) → Has service ids xs l at → l.last ≡ length xs + 1 → s.samples ≡ xs
    → ((k : ℕ) → names set k ≡ is_missing l.story (next l.story) l.last k)
    → (j : ℕ) → at + 1 ≤ j → j < at + 1 + 256 → is_asked s set j ≡ nat_le j (length xs + 1)
asked_is service ids xs l s set at h last is missing j low high =
    let top = length xs + 1 in
    let there : names set j ≡ nat_le j (min top (at + 1 + 255)) =
    missing j
    ∙ ap (λ b. b && (nat_le j (min l.last (next l.story + 255)) && is_unknown (known l.story j)))
    (le-leb (next l.story) j (omega (arith, h.next_is, low)))
    ∙ ap (λ x. nat_le j (min l.last (next l.story + 255)) && is_unknown x) (h.beyond j low)
    ∙ and_on (nat_le j (min l.last (next l.story + 255)))
    ∙ ap (λ k. nat_le j (min k (next l.story + 255))) last
    ∙ ap (λ k. nat_le j (min top (k + 255))) h.next_is in
    let least : nat_le j (last_of s) ≡ nat_le j top =
    ap (λ (ys : List Sample). nat_le j (length ys + 1)) is in
    ap (λ b. b && nat_le j (last_of s)) there
    ∙ ap (λ b. nat_le j (min top (at + 1 + 255)) && b) least
    ∙ lesser j top (at + 1 + 255) (omega (arith, high))
  where
    and_on : (a : Bool) → (a && true) ≡ a
    and_on true = refl
    and_on false = refl

    lesser : (i a b : ℕ) → i ≤ b → (nat_le i (min a b) && nat_le i a) ≡ nat_le i a
    lesser i a b far = elim (cases_Bool (nat_le i a)) [
      | inl it ↦ ap (λ t. t && nat_le i a)
          (le-leb i (min a b) (omega (arith, leb-true i a it, far)))
      | inr other ↦
          ap (λ t. t && nat_le i a) (lt-leb i (min a b) (omega (arith, leb-false i a other)))
          ∙ sym other
    ]

-- what came of an ACKNACK
pub record Replied (ids : Ids) (xs : List Sample) (s after : Sending) (at : ℕ) (sent : List (List ℕ)) : Type 0 where
  pub ids_is : after.ids ≡ ids
  pub samples_is : after.samples ≡ xs
  pub wait : SomeWait ids xs at 256 sent

pub beat_of_reply : (ids : Ids) (xs : List Sample) (s : Sending) (bytes : List ℕ) → s.ids ≡ ids
    → s.samples ≡ xs → IsBeat s bytes → TellsBeat ids xs bytes
beat_of_reply ids xs s bytes e is b =
    subst (λ (ys : List Sample). TellsOne ids.reader bytes
    (facts.Beat (ids.own ++ ids.writer) (drop 12 ids.reader) 1 (length ys + 1) false)) is
    (subst (λ (i : Ids). TellsOne i.reader bytes
    (facts.Beat (i.own ++ i.writer) (drop 12 i.reader) 1 (length s.samples + 1) false)) e b.tells)

replied_by : (service : List ℕ) (ids : Ids) (xs : List Sample) (s after : Sending)
    (set : NumberSet) (at : ℕ) (sent : List (List ℕ)) (b : Bool) → Setup service ids xs
    → s.ids ≡ ids → s.samples ≡ xs → at ≤ length xs → set.base ≡ at + 1
    → ((j : ℕ) → at + 1 ≤ j → j < at + 1 + 256 → is_asked s set j ≡ nat_le j (length xs + 1))
    → asks_beat s set ≡ b → b ≡ true → (numbers beats : List (List ℕ))
    → AreData s (asked_from (is_asked s set) set.base 256) numbers
    → BeatsIf b (answered s set) beats after → sent ≡ numbers ++ beats
    → Replied ids xs s after at sent
replied_by service ids xs s after set at sent false u e is small base f c d numbers beats are
    behind all = cc
replied_by service ids xs s after set at sent true u e is small base f c d numbers beats are
    behind all =
    let tells : TellsBeat ids xs behind.0 =
    beat_of_reply ids xs (answered s set) behind.0 e is behind.2 in
    let wait = waits_of service ids xs s (is_asked s set) 256 at numbers behind.0 u e is tells
    (omega (arith, small)) f
    (subst (λ (n : ℕ). AreData s (asked_from (is_asked s set) n 256) numbers) base are) in
    record {
      ids_is = ap (λ (t : Sending). t.ids) behind.3 ∙ e;
      samples_is = ap (λ (t : Sending). t.samples) behind.3 ∙ is;
      wait = subst (λ (q : List (List ℕ)). SomeWait ids xs at 256 q)
          (sym (all ∙ ap (λ t. numbers ++ t) behind.1)) wait;
    }

pub replied : (service : List ℕ) (ids : Ids) (xs : List Sample) (l : Late) (s after : Sending)
    (set : NumberSet) (at : ℕ) (sent : List (List ℕ)) → Setup service ids xs
    → Has service ids xs l at → l.last ≡ length xs + 1 → s.ids ≡ ids → s.samples ≡ xs
    → at ≤ length xs
    → set.base ≡ next l.story
    → ((k : ℕ) → names set k ≡ is_missing l.story (next l.story) l.last k)
    → Replies s set sent after → Replied ids xs s after at sent
replied service ids xs l s after set at sent u h last e is small base missing r =
    let beat : asks_beat s set ≡ true =
    le-leb set.base (last_of s)
    (omega (arith, base, h.next_is, small, ap (λ (ys : List Sample). length ys) is)) in
    replied_by service ids xs s after set at sent (asks_beat s set) u e is small
    (base ∙ h.next_is) (asked_is service ids xs l s set at h last is missing) refl beat r.numbers
    r.beats r.are r.behind r.all

-- the one ACKNACK is for the session
one_reply : (s after : Sending) (reader writer : List ℕ) (set : NumberSet) (final : Bool)
    (sent : List (List ℕ)) (b : Bool)
    → (bytes_eq reader s.ids.reader && bytes_eq writer s.ids.writer) ≡ b → b ≡ true
    → RepliesAll s (facts.Nack reader writer set final ∷ []) sent after → Replies s set sent after
one_reply s after reader writer set final sent false e f r = cc
one_reply s after reader writer set final sent true e f r =
    let now : Replies s set r.0 r.2 = subst (λ (b : Bool). RepliesIf b s set r.0 r.2) e r.3 in
    let all : sent ≡ r.0 = r.5 ∙ ap (λ t. r.0 ++ t) r.4.0 ∙ append-nil r.0 in
    subst (λ (q : List (List ℕ)). Replies s set q after) (sym all)
    (subst (λ (t : Sending). Replies s set r.0 t) (sym r.4.1) now)

session_heard : (service : List ℕ) (ids : Ids) (l : Late) (s : Sending) (bytes to : List ℕ)
    (fact : Fact) (heard : Heard) → length to ≡ 12 → s.ids ≡ ids
    → (bytes_eq to everybody || bytes_eq to ids.own) ≡ true → TellsOne (to ++ l.writer) bytes fact
    → Hears s.ids.own bytes heard
    → heard.facts ≡ fact ∷ []
session_heard service ids l s bytes to fact heard long e mine tells h =
    let front : take 12 (to ++ l.writer) ≡ to = take_at to l.writer 12 long in
    let addressed : is_addressed s.ids.own (to ++ l.writer) ≡ true =
    ap (λ t. bytes_eq t everybody || bytes_eq t s.ids.own) front
    ∙ ap (λ (i : Ids). bytes_eq to everybody || bytes_eq to i.own) e ∙ mine in
    let one : heard
    ≡ record {
      facts = cond (is_addressed s.ids.own (to ++ l.writer)) (fact ∷ []) [];
      end =
          Whole;
    } = hears_once s.ids.own bytes heard _ h (tells s.ids.own) in
    ap (λ (x : Heard). x.facts) one ∙ ap (λ b. cond b (fact ∷ []) []) addressed

-- what a session makes of the ACKNACK of a late reader that asks `to`
pub nack_replies : (service : List ℕ) (ids : Ids) (l : Late) (s : Sending) (to : List ℕ)
    (rest : List (List ℕ)) (w : Link) → length to ≡ 12 → s.ids ≡ ids → l.reader ≡ ids.reader
    → l.writer ≡ ids.writer → unwrap_or l.kept everybody ≡ to
    → (bytes_eq to everybody || bytes_eq to ids.own) ≡ true
    → (a : Asks l s rest w) → Replies s a.nack.set a.sent a.after
nack_replies service ids l s to rest w long e reader writer to_is mine a =
    let fact = facts.Nack l.reader (drop 12 (asked_writer l)) a.nack.set (any_marker l.handled) in
    let tells : TellsOne (to ++ l.writer) a.bytes fact =
    subst (λ (t : List ℕ). TellsOne (t ++ l.writer) a.bytes fact) to_is a.nack.tells in
    let facts_are : a.heard.facts ≡ fact ∷ [] =
    session_heard service ids l s a.bytes to fact a.heard long e mine tells a.tells in
    let asked_id : drop 12 (asked_writer l) ≡ s.ids.writer =
    ap (λ t. drop 12 (t ++ l.writer)) to_is ∙ drop_at to l.writer 12 long ∙ writer
    ∙ sym (ap (λ (i : Ids). i.writer) e) in
    let same_reader : bytes_eq l.reader s.ids.reader ≡ true =
    ap (bytes_eq l.reader) (ap (λ (i : Ids). i.reader) e ∙ sym reader)
    ∙ bytes_same l.reader in
    let ours : (bytes_eq l.reader s.ids.reader
    && bytes_eq (drop 12 (asked_writer l)) s.ids.writer) ≡ true =
    ap (λ b. b && bytes_eq (drop 12 (asked_writer l)) s.ids.writer) same_reader
    ∙ ap (λ t. bytes_eq t s.ids.writer) asked_id ∙ bytes_same s.ids.writer in
    one_reply s a.after l.reader (drop 12 (asked_writer l)) a.nack.set (any_marker l.handled)
    a.sent (bytes_eq l.reader s.ids.reader && bytes_eq (drop 12 (asked_writer l)) s.ids.writer)
    refl ours (subst (λ (fs : List Fact). RepliesAll s fs a.sent a.after) facts_are a.replies)
