-- A late reader that takes turns is done in time.
use Rattle.std.proofs.Common.{suc, zero, ◌≡◌, ℕ, ◌+◌, ◌-◌, ◌*◌, ◌<◌, ◌≤◌, Bool, true, false, cond, min, List, [], ◌∷◌, ◌++◌, length, take, drop, refl, ap, sym, subst, ◌∙◌, arith, inl, inr}
use Rattle.std.specs.Prelude.{Some, None, ◌&&◌, ◌||◌, ◌⊎◌, nat_le, unwrap_or}
use Rattle.std.specs.Str.{bytes_eq}
use Rattle.std.specs.List.{AllByRecursion}
use Rattle.std.proofs.lemmas.Bool.{cases_lt, or_right, le-leb, lt-leb}
use Rattle.std.proofs.lemmas.List.{take_at, drop_at, take-append-le}
use Rattle.dur_base.specs.NumberSets.{NumberSet, names}
use Rattle.dur_base.specs.declared.fact.Fact.{Fact}
use Rattle.dur_base.specs.declared.fact.Fact.TheVariants as facts
use Rattle.dur_base.specs.declared.sample.Sample.{Sample}
use Rattle.rtps_message.specs.Facts.{everybody}
use Rattle.rtps_message.specs.Messages.{Hears}
use Rattle.rtps_message.specs.Sent.{is_keyed}
use Rattle.rel_reader.specs.Stories.{Begin, next}
use Rattle.rel_reader.specs.MissingNumbers.{is_missing}
use Rattle.rel_writer.specs.declared.ids.Ids.{Ids}
use Rattle.dur_view.specs.declared.change.Change.{Change}
use Rattle.rel_writer.specs.Replays.{replay, sent, IsSent}
use Rattle.rel_writer.specs.Sessions.{Sending, opened, answered, last_of, is_asked, asks_beat}
use Rattle.rel_writer.specs.Turns.{Link, asked_from, AreData, BeatsIf, Replies, Receives, Asks, AsksIf, Turn, Turns, begin, EndsInTime}
use Rattle.rel_writer.proofs.SentAgain.{each_sent, length_sent, are_changes}
use Rattle.rel_writer.specs.Sets.{any_marker}
use Rattle.rel_writer.specs.LateReaders.{Late, fresh, keeps, shape_of, LateHears, asked}
use Rattle.rel_writer.proofs.Fronts.{AreChanges, marked_when_long}
use Rattle.rel_writer.proofs.Reaching.{to_reader_heard}
use Rattle.rel_writer.proofs.WorldParts.{bytes_same}
use Rattle.rel_writer.proofs.TurnParts.{Setup, Has, Waits, State}
use Rattle.rel_writer.proofs.TurnHears.{Beaten, beat_heard, TookOne, data_heard}
use Rattle.rel_writer.proofs.TurnAsks.{none_from, Replied, beat_of_reply, replied, nack_replies}

-- ---- a turn

-- how many turns are left at most
abbrev left : List Sample → ℕ → ℕ → ℕ
left xs at n = n + 2 * (length xs + 1 - (at + n))

pub record Goes (service : List ℕ) (ids : Ids) (xs : List Sample) (w : Link) (before : ℕ) : Type 0 where
  pub at : ℕ
  pub n : ℕ
  pub state : State service ids xs w at n
  pub fewer : left xs at n + 1 ≤ before

has_asked : (service : List ℕ) (ids : Ids) (xs : List Sample) (l : Late) (at : ℕ)
    → Has service ids xs l at → Has service ids xs (asked l) at
has_asked service ids xs l at h =
    record {
      reader_is = h.reader_is;
      writer_is = h.writer_is;
      keeps_to = h.keeps_to;
      next_is =
          h.next_is;
      handled_is = h.handled_is;
      beyond = h.beyond;
      last_is = h.last_is;
    }

-- behind the HEARTBEAT it asks for what it misses, and the session sends it
beat_turn : (service : List ℕ) (ids : Ids) (xs : List Sample) (l : Late) (s : Sending) (w : Link)
    (at : ℕ) → Setup service ids xs → Beaten service ids xs l at → s.ids ≡ ids → s.samples ≡ xs
    → at ≤ length xs → Asks l s [] w → Goes service ids xs w (left xs at 0)
beat_turn service ids xs l s w at u b e is small a =
    let to_is : unwrap_or l.kept everybody ≡ ids.own = ap (λ o. unwrap_or o everybody) b.kept in
    let mine : (bytes_eq ids.own everybody || bytes_eq ids.own ids.own) ≡ true =
    or_right (bytes_eq ids.own everybody) (bytes_eq ids.own ids.own) (bytes_same ids.own) in
    let r : Replies s a.nack.set a.sent a.after =
    nack_replies service ids l s ids.own [] w u.long e b.has.reader_is b.has.writer_is to_is
    mine a in
    let d : Replied ids xs s a.after at a.sent =
    replied service ids xs l s a.after a.nack.set at a.sent u b.has b.last_is e is small
    a.nack.base a.nack.missing r in
    let one : 0 < d.wait.n = d.wait.some (omega arith) small in
    subst (λ (v : Link). Goes service ids xs v (left xs at 0)) (sym a.is) (record {
      at = at;
      n = d.wait.n;
      state = record {
        has = has_asked service ids xs l at b.has;
        hears = λ some. b.kept;
        ids_is = d.ids_is;
        samples_is = d.samples_is;
        waits = d.wait.waits;
        within = d.wait.within;
        open_yet = small;
      };
      fewer = omega (arith, one, d.wait.within, small);
    })

abbrev pub IsDone : Link → Type 0
IsDone w = any_marker w.late.handled ≡ true

-- a DATA was taken: it is done, or goes on with the next
data_turn : (service : List ℕ) (ids : Ids) (xs : List Sample) (l : Late) (s : Sending)
    (rest : List (List ℕ)) (w : Link) (at n before : ℕ) (asks : Bool) → Setup service ids xs
    → TookOne service ids xs l at → s.ids ≡ ids → s.samples ≡ xs → at + suc n ≤ length xs + 1
    → Waits ids xs (at + 1) n rest → left xs at (suc n) ≤ before → asks ≡ any_marker l.handled
    → AsksIf asks l s rest w
    → IsDone w ⊎ Goes service ids xs w before
data_turn service ids xs l s rest w at n before true u t e is within waits fewer done a =
    inl (ap (λ (v : Link). any_marker v.late.handled) a.is ∙ sym done)
data_turn service ids xs l s rest w at n before false u t e is within waits fewer done a =
    let small : at + 1 ≤ length xs = elim (cases_lt (length xs) (at + 1)) [
      | inl lt ↦
          let marked : any_marker l.handled ≡ true =
          ap any_marker t.has.handled_is ∙ marked_when_long xs (at + 1) (omega (arith, lt)) in
          let no : false ≡ true = done ∙ marked in
          cc
      | inr le ↦ le
    ] in
    inr (subst (λ (v : Link). Goes service ids xs v before) (sym a) (record {
      at = at + 1;
      n = n;
      state = record {
        has = t.has;
        hears = λ some. t.kept;
        ids_is = e;
        samples_is = is;
        waits =
            waits;
        within = omega (arith, within);
        open_yet = small;
      };
      fewer = omega (arith, within, fewer);
    }))

turn_goes : (service : List ℕ) (ids : Ids) (xs : List Sample) (v w : Link) (at n : ℕ)
    → Setup service ids xs → State service ids xs v at n → Turn false v w
    → IsDone w ⊎ Goes service ids xs w (left xs at n)
turn_goes service ids xs v w at zero u st t =
    let recv : Receives v.late (st.waits.0 ∷ []) t.0 t.1 t.2 =
    subst (λ (q : List (List ℕ)). Receives v.late q t.0 t.1 t.2) st.waits.1 t.3 in
    let tells = st.waits.2 in
    let fact = facts.Beat (ids.own ++ ids.writer) (drop 12 ids.reader) 1 (length xs + 1) false in
    let facts_are : recv.0.facts ≡ fact ∷ [] =
    to_reader_heard ids.reader st.waits.0 fact recv.0 tells
    (subst (λ (r : List ℕ). Hears (take 12 r) st.waits.0 recv.0) st.has.reader_is recv.2) in
    let b = beat_heard service ids xs v.late t.2 at (drop 12 ids.reader) recv.1 u st.has
    (subst (λ (fs : List Fact). LateHears v.late fs recv.1 t.2) facts_are recv.3) in
    let asks : t.1 ≡ true = recv.4 ∙ ap (λ x. x || any_marker t.2.handled) b.1 in
    let a : Asks t.2 v.session [] w =
    subst (λ (q : List (List ℕ)). Asks t.2 v.session q w) recv.5
    (subst (λ (x : Bool). AsksIf x t.2 v.session t.0 w) asks t.4) in
    inr (beat_turn service ids xs t.2 v.session w at u b.0 st.ids_is st.samples_is st.open_yet a)
turn_goes service ids xs v w at (suc n) u st t =
    let recv : Receives v.late (st.waits.0 ∷ st.waits.1) t.0 t.1 t.2 =
    subst (λ (q : List (List ℕ)). Receives v.late q t.0 t.1 t.2) st.waits.2 t.3 in
    let d = st.waits.3 in
    let fact = facts.Data (ids.own ++ ids.writer) (drop 12 ids.reader) (at + 1) d.raw in
    let facts_are : recv.0.facts ≡ fact ∷ [] =
    to_reader_heard ids.reader st.waits.0 fact recv.0 d.tells
    (subst (λ (r : List ℕ). Hears (take 12 r) st.waits.0 recv.0) st.has.reader_is recv.2) in
    let b = data_heard service ids xs v.late t.2 at (drop 12 ids.reader) d.raw d.sample recv.1 u
    st.open_yet st.has (st.hears (omega arith)) d.get d.reads
    (subst (λ (fs : List Fact). LateHears v.late fs recv.1 t.2) facts_are recv.3) in
    let asks : t.1 ≡ any_marker t.2.handled = recv.4 ∙ ap (λ x. x || any_marker t.2.handled) b.1 in
    data_turn service ids xs t.2 v.session t.0 w at n (left xs at (suc n)) t.1 u b.0 st.ids_is
    st.samples_is st.within
    (subst (λ (q : List (List ℕ)). Waits ids xs (at + 1) n q) (sym recv.5) st.waits.4)
    (omega arith) asks t.4

-- ---- all turns

done_stays : (m : ℕ) (v w : Link) → IsDone v → Turns m v w → IsDone w
done_stays zero v w d t = subst IsDone (sym t) d
done_stays (suc m) v w d t =
    let same : t.0 ≡ v = subst (λ (b : Bool). Turn b v t.0) d t.1 in
    done_stays m t.0 w (subst IsDone (sym same) d) t.2

not_yet : (xs : List Sample) → AreChanges xs → (k : ℕ) → k ≤ length xs
    → any_marker (take k (replay xs)) ≡ false
not_yet [] h zero small = refl
not_yet [] h (suc k) small = absurd (omega (arith, small))
not_yet (x ∷ xs) h zero small = refl
not_yet (x ∷ xs) h (suc k) small = ap (λ b. b || any_marker (take k (replay xs))) h.0
    ∙ not_yet xs h.1 k (omega (arith, small))

onward : (service : List ℕ) (ids : Ids) (xs : List Sample) (v w : Link) (before m : ℕ)
    → before ≤ suc m → IsDone v ⊎ Goes service ids xs v before → (IsDone v → IsDone w)
    → ((at n : ℕ) → State service ids xs v at n → left xs at n ≤ m → IsDone w) → IsDone w
onward service ids xs v w before m fewer (inl d) done goes = done d
onward service ids xs v w before m fewer (inr g) done goes =
    goes g.at g.n g.state (omega (arith, g.fewer, fewer))

ends : (m : ℕ) (service : List ℕ) (ids : Ids) (xs : List Sample) (v w : Link) (at n : ℕ)
    → Setup service ids xs → State service ids xs v at n → left xs at n ≤ m → Turns m v w
    → IsDone w
ends zero service ids xs v w at n u st fewer t =
    absurd (omega (arith, fewer, st.within, st.open_yet))
ends (suc m) service ids xs v w at n u st fewer t =
    let plain : AreChanges xs = are_changes (is_keyed (shape_of ids.writer)) xs u.each in
    let yet : any_marker v.late.handled ≡ false =
    ap any_marker st.has.handled_is ∙ not_yet xs plain at st.open_yet in
    let turn : Turn false v t.0 = subst (λ (b : Bool). Turn b v t.0) yet t.1 in
    onward service ids xs t.0 w (left xs at n) m fewer
    (turn_goes service ids xs v t.0 at n u st turn) (λ d. done_stays m t.0 w d t.2)
    (λ i k s f. ends m service ids xs t.0 w i k u s f t.2)

-- ---- the first turn

none_missing : (service : List ℕ) (ids : Ids) (s : Sending) (set : NumberSet)
    → ((k : ℕ) → names set k ≡ is_missing (Begin 1) 1 0 k) → (j : ℕ) → 1 ≤ j
    → is_asked s set j ≡ false
none_missing service ids s set missing j low =
    let none : names set j ≡ false =
    missing j ∙ ap (λ b. nat_le 1 j && (b && true))
    (lt-leb j (min 0 (1 + 255)) (omega (arith, low))) ∙ off (nat_le 1 j) in
    ap (λ b. b && nat_le j (last_of s)) none
  where
    off : (a : Bool) → (a && false) ≡ false
    off true = refl
    off false = refl

first_wait : (ids : Ids) (xs : List Sample) (s after : Sending) (set : NumberSet)
    (sent : List (List ℕ)) (b : Bool) → s.ids ≡ ids → s.samples ≡ xs → b ≡ true
    → (numbers beats : List (List ℕ)) → numbers ≡ [] → BeatsIf b (answered s set) beats after
    → sent ≡ numbers ++ beats
    → (after.ids ≡ ids) × (after.samples ≡ xs) × Waits ids xs 0 0 sent
first_wait ids xs s after set sent false e is h numbers beats none behind all = cc
first_wait ids xs s after set sent true e is h numbers beats none behind all = (
  ap (λ (t : Sending). t.ids) behind.3 ∙ e,
  ap (λ (t : Sending). t.samples) behind.3 ∙ is,
  (
    behind.0,
    all ∙ ap (λ t. t ++ beats) none
        ∙ behind.1,
    beat_of_reply ids xs (answered s set) behind.0 e is behind.2,
  ),
)

fresh_keeps : (service : List ℕ) (ids : Ids) → length ids.own ≡ 12 → take 8 ids.own ≡ service
    → keeps service ids.writer None (ids.own ++ ids.writer) ≡ Some ids.own
fresh_keeps service ids long e =
    let w = ids.own ++ ids.writer in
    let front : take 8 w ≡ service = take-append-le 8 ids.own ids.writer (omega (arith, long))
    ∙ e in
    let test : (bytes_eq (take 8 w) service && bytes_eq (drop 12 w) ids.writer) ≡ true =
    ap (λ t. bytes_eq t service && bytes_eq (drop 12 w) ids.writer) front
    ∙ ap (λ b. b && bytes_eq (drop 12 w) ids.writer) (bytes_same service)
    ∙ ap (λ t. bytes_eq t ids.writer) (drop_at ids.own ids.writer 12 long)
    ∙ bytes_same ids.writer in
    ap (λ b. cond b (Some (take 12 w)) None) test
    ∙ ap (λ t. Some t) (take_at ids.own ids.writer 12 long)

first_turn : (service : List ℕ) (ids : Ids) (xs : List Sample) (l : Late) (s : Sending)
    (rest : List (List ℕ)) (w : Link) → Setup service ids xs
    → l ≡ fresh ids.reader service ids.writer → s ≡ opened ids xs → rest ≡ [] → Asks l s rest w
    → State service ids xs w 0 0
first_turn service ids xs l s rest w u new begun none a =
    let to_is : unwrap_or l.kept everybody ≡ everybody =
    ap (λ (m : Late). unwrap_or m.kept everybody) new in
    let e : s.ids ≡ ids = ap (λ (t : Sending). t.ids) begun in
    let is : s.samples ≡ xs = ap (λ (t : Sending). t.samples) begun in
    let r : Replies s a.nack.set a.sent a.after =
    nack_replies service ids l s everybody rest w refl e (ap (λ (m : Late). m.reader) new)
    (ap (λ (m : Late). m.writer) new) to_is refl a in
    let missing : (k : ℕ) → names a.nack.set k ≡ is_missing (Begin 1) 1 0 k =
    λ k. a.nack.missing k
    ∙ ap (λ (m : Late). is_missing m.story (next m.story) m.last k) new in
    let base : a.nack.set.base ≡ 1 = a.nack.base ∙ ap (λ (m : Late). next m.story) new in
    let nothing : asked_from (is_asked s a.nack.set) a.nack.set.base 256 ≡ [] =
    none_from (is_asked s a.nack.set) a.nack.set.base 256
    (λ j low high. none_missing service ids s a.nack.set missing j
    (omega (arith, base, low))) in
    let beat : asks_beat s a.nack.set ≡ true =
    le-leb a.nack.set.base (last_of s) (omega (arith, base)) in
    let d = first_wait ids xs s a.after a.nack.set a.sent (asks_beat s a.nack.set) e is beat
    r.numbers r.beats (subst (λ (ks : List ℕ). AreData s ks r.numbers) nothing r.are) r.behind
    r.all in
    let start : Has service ids xs (asked (fresh ids.reader service ids.writer)) 0 = record {
      reader_is = refl;
      writer_is = refl;
      keeps_to = fresh_keeps service ids u.long u.service_is;
      next_is = refl;
      handled_is = refl;
      beyond = λ k far. refl;
      last_is = omega arith;
    } in
    let at_first : Has service ids xs (asked l) 0 =
    subst (λ (m : Late). Has service ids xs (asked m) 0) (sym new) start in
    subst (λ (v : Link). State service ids xs v 0 0) (sym a.is) (record {
      has = at_first;
      hears = λ some. absurd (omega (arith, some));
      ids_is = d.0;
      samples_is = d.1;
      waits = subst (λ (q : List (List ℕ)). Waits ids xs 0 0 (q ++ a.sent)) (sym none) d.2;
      within = omega arith;
      open_yet = omega arith;
    })

pub ends_in_time : (service : List ℕ) (ids : Ids) (changes : List Change)
    → EndsInTime service ids changes
ends_in_time service ids changes fits w turns =
    let xs = sent changes in
    let count : length xs ≡ length changes = length_sent changes in
    let u : Setup service ids xs = record {
      long = fits.long;
      service_is = fits.service_is;
      keyed = fits.keyed;
      each = subst (λ (k : Bool). AllByRecursion (IsSent k) xs) fits.keyed
          (each_sent ids.keyed changes fits.sendable);
      few = omega (arith, count, fits.sendable.few);
    } in
    let many : 3 + 2 * (length changes + 1) ≡ suc (2 + 2 * (length changes + 1)) = omega arith in
    let t : Turns (suc (2 + 2 * (length changes + 1))) (begin service ids changes) w =
    subst (λ (n : ℕ). Turns n (begin service ids changes) w) many turns in
    let recv = t.1.3 in
    let a : Asks t.1.2 (opened ids xs) t.1.0 t.0 =
    subst (λ (b : Bool). AsksIf b t.1.2 (opened ids xs) t.1.0 t.0) recv.1 t.1.4 in
    let st : State service ids xs t.0 0 0 =
    first_turn service ids xs t.1.2 (opened ids xs) t.1.0 t.0 u recv.2 refl recv.0 a in
    ends (2 + 2 * (length changes + 1)) service ids xs t.0 w 0 0 u st (omega (arith, count)) t.2
