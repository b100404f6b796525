-- In a turn a HEARTBEAT comes, or a DATA.
use Rattle.std.proofs.Common.{◌≡◌, ℕ, ◌+◌, ◌-◌, ◌^◌, ◌<◌, ◌≤◌, Bool, true, false, cond, List, [], ◌∷◌, ◌++◌, length, take, drop, refl, ap, sym, subst, ◌∙◌, arith}
use Rattle.std.specs.Prelude.{Option, Some, None, slice_get, ◌&&◌, ◌||◌, nat_lt}
use Rattle.std.specs.Str.{bytes_eq}
use Rattle.std.proofs.lemmas.Bool.{ne_eqb, le-ltb, lt-ltb, eq-eqb}
use Rattle.std.proofs.lemmas.List.{take_at, drop_at}
use Rattle.dur_base.specs.declared.fact.Fact.TheVariants as facts
use Rattle.dur_base.specs.declared.sample.Raw.{Raw}
use Rattle.dur_base.specs.declared.sample.Sample.{Sample}
use Rattle.rel_reader.specs.declared.known.Known.{Known}
use Rattle.rel_reader.specs.declared.known.Known.TheVariants.{Unknown, Irrelevant, With}
use Rattle.rel_reader.specs.Knowledge.{or_else, read_as}
use Rattle.rel_reader.specs.Stories.{◌▸◌, Data, next}
use Rattle.rel_reader.specs.KnownNumbers.{known, is_near, says_data, says_beat}
use Rattle.rel_writer.specs.declared.ids.Ids.{Ids}
use Rattle.rel_writer.specs.Replays.{replay}
use Rattle.rel_writer.specs.LateReaders.{Late, is_from, keeps, read_of, with_kept, with_story, beat_told, told, handle, drain, IsSettled, LateHears, asks}
use Rattle.rel_writer.proofs.Fronts.{take_step}
use Rattle.rel_writer.proofs.WorldParts.{bytes_same}
use Rattle.rel_writer.proofs.TurnParts.{Setup, Has, still, one_taken}

-- ---- the HEARTBEAT comes

from_own : (ids : Ids) → length ids.own ≡ 12
    → is_from (Some ids.own) ids.writer (ids.own ++ ids.writer) ≡ true
from_own ids long =
    let front : take 12 (ids.own ++ ids.writer) ≡ ids.own = take_at ids.own ids.writer 12 long in
    let back : drop 12 (ids.own ++ ids.writer) ≡ ids.writer = drop_at ids.own ids.writer 12 long in
    ap (λ t. bytes_eq t ids.own && bytes_eq (drop 12 (ids.own ++ ids.writer)) ids.writer) front
    ∙ ap (λ b. b && bytes_eq (drop 12 (ids.own ++ ids.writer)) ids.writer) (bytes_same ids.own)
    ∙ ap (λ t. bytes_eq t ids.writer) back ∙ bytes_same ids.writer

beat_unknown : (x : Known) (k : ℕ) → x ≡ Unknown → 1 ≤ k → or_else x (says_beat 1 k) ≡ Unknown
beat_unknown x k e low =
    ap (λ y. or_else y (says_beat 1 k)) e ∙ ap (λ b. cond b Irrelevant Unknown) (le-ltb k 1 low)

-- it keeps to the session, and the HEARTBEAT's last number is the greatest
pub record Beaten (service : List ℕ) (ids : Ids) (xs : List Sample) (l : Late) (at : ℕ) : Type 0 where
  pub has : Has service ids xs l at
  pub kept : l.kept ≡ Some ids.own
  pub last_is : l.last ≡ length xs + 1

keeps_own : (service id own writer : List ℕ) (o : Option (List ℕ)) → o ≡ Some own
    → keeps service id o writer ≡ Some own
keeps_own service id own writer None e = cc
keeps_own service id own writer (Some p) e = e

beaten_by : (service : List ℕ) (ids : Ids) (xs : List Sample) (l : Late) (at : ℕ)
    (o : Option (List ℕ)) (b : Bool) → Has service ids xs l at → o ≡ Some ids.own → b ≡ true
    → Beaten service ids xs (beat_told (with_kept l o) b 1 (length xs + 1)) at
beaten_by service ids xs l at o false h e f = cc
beaten_by service ids xs l at o true h e f = record {
  has = record {
    reader_is = h.reader_is;
    writer_is = h.writer_is;
    keeps_to = keeps_own l.service l.writer ids.own (ids.own ++ ids.writer) o e;
    next_is = h.next_is;
    handled_is = h.handled_is;
    beyond = λ k far. beat_unknown (known l.story k) k (h.beyond k far) (omega (arith, far));
    last_is = omega (arith, h.last_is);
  };
  kept = e;
  last_is = omega (arith, h.last_is);
}

pub beat_heard : (service : List ℕ) (ids : Ids) (xs : List Sample) (l after : Late) (at : ℕ)
    (rid : List ℕ) (shown : Bool) → Setup service ids xs → Has service ids xs l at
    → LateHears l (facts.Beat (ids.own ++ ids.writer) rid 1 (length xs + 1) false ∷ []) shown
    after
    → Beaten service ids xs after at × (shown ≡ true)
beat_heard service ids xs l after at rid shown s h heard =
    let w = ids.own ++ ids.writer in
    let fact = facts.Beat w rid 1 (length xs + 1) false in
    let kept = keeps l.service l.writer l.kept w in
    let mine : is_from kept l.writer w ≡ true = ap (λ o. is_from o l.writer w) h.keeps_to
    ∙ ap (λ i. is_from (Some ids.own) i w) h.writer_is ∙ from_own ids s.long in
    let after_it : Beaten service ids xs (told l fact) at =
    beaten_by service ids xs l at kept (is_from kept l.writer w) h h.keeps_to mine in
    let same : drain heard.0 (told l fact) ≡ told l fact =
    still heard.0 (told l fact)
    (after_it.has.beyond (next (told l fact).story) (omega (arith, after_it.has.next_is))) in
    let now : after ≡ told l fact = heard.3.0 ∙ same in
    let from : is_from (told l fact).kept (told l fact).writer w ≡ true =
    ap (λ o. is_from o (told l fact).writer w) after_it.kept
    ∙ ap (λ i. is_from (Some ids.own) i w) after_it.has.writer_is ∙ from_own ids s.long in
    let asked : asks (drain heard.0 (told l fact)) fact ≡ true =
    ap (λ m. asks m fact) same ∙ ap (λ b. b && true) from in (
      subst (λ (m : Late). Beaten service ids xs m at) (sym now) after_it,
      heard.4 ∙ ap (λ b. b || heard.1) asked,
    )

-- ---- a DATA comes

data_next : (x : Known) (n : ℕ) (s : Sample) (r : Option Sample) → x ≡ Unknown → r ≡ Some s
    → n < 2 ^ 63 - 1 → or_else x (says_data n n r n) ≡ With s
data_next x n s r e is small =
    ap (λ y. or_else y (says_data n n r n)) e
    ∙ ap (λ b. cond (b && is_near n n) (read_as r) Unknown) (eq-eqb n n refl)
    ∙ ap (λ b. cond (b && nat_lt n (2 ^ 63 - 1)) (read_as r) Unknown)
    (lt-ltb n (n + 256) (omega arith))
    ∙ ap (λ b. cond b (read_as r) Unknown) (lt-ltb n (2 ^ 63 - 1) small)
    ∙ ap read_as is

data_beyond : (x : Known) (n k : ℕ) (r : Option Sample) → x ≡ Unknown → n < k
    → or_else x (says_data n n r k) ≡ Unknown
data_beyond x n k r e far =
    ap (λ y. or_else y (says_data n n r k)) e
    ∙ ap (λ b. cond (b && is_near n k) (read_as r) Unknown)
    (ne_eqb k n (λ same. omega (arith, same, far)))

cond_true : {A : Type 0} (b : Bool) (x y : A) → b ≡ true → cond b x y ≡ x
cond_true true x y h = refl
cond_true false x y h = cc

-- the sample at the place is taken
pub record TookOne (service : List ℕ) (ids : Ids) (xs : List Sample) (l : Late) (at : ℕ) : Type 0 where
  pub has : Has service ids xs l (at + 1)
  pub kept : l.kept ≡ Some ids.own

data_told : (service : List ℕ) (ids : Ids) (xs : List Sample) (l : Late) (at : ℕ) (s : Sample)
    (r : Option Sample) → at + 1 < 2 ^ 63 - 1 → Has service ids xs l at → l.kept ≡ Some ids.own
    → slice_get (replay xs) at ≡ Some s → r ≡ Some s
    → (times : ℕ) → IsSettled (drain times (with_story l (l.story ▸ Data (at + 1) r)))
    → TookOne service ids xs (drain times (with_story l (l.story ▸ Data (at + 1) r))) at
data_told service ids xs l at s r small h kept get is times settled =
    let m = with_story l (l.story ▸ Data (at + 1) r) in
    let n = at + 1 in
    let here : known m.story (next m.story) ≡ With s =
    ap (λ k. or_else (known l.story k) (says_data k n r k)) h.next_is
    ∙ data_next (known l.story n) n s r (h.beyond n (omega arith)) is small in
    let more : (k : ℕ) → n < k → known m.story k ≡ Unknown =
    λ k far. ap (λ i. or_else (known l.story k) (says_data i n r k)) h.next_is
    ∙ data_beyond (known l.story k) n k r (h.beyond k (omega (arith, far))) far in
    let one : drain times m ≡ handle m (With s) =
    one_taken times m s here (more (next m.story + 1) (omega (arith, h.next_is))) settled in
    subst (λ (t : Late). TookOne service ids xs t at) (sym one) (record {
      has = record {
        reader_is = h.reader_is;
        writer_is = h.writer_is;
        keeps_to = h.keeps_to;
        next_is = ap (λ k. k + 1) h.next_is;
        handled_is = ap (λ t. t ++ s ∷ []) h.handled_is ∙ sym (take_step (replay xs) at s get);
        beyond = λ k far. more k (omega (arith, far));
        last_is = h.last_is;
      };
      kept = kept;
    })

pub data_heard : (service : List ℕ) (ids : Ids) (xs : List Sample) (l after : Late) (at : ℕ)
    (rid : List ℕ) (raw : Raw) (s : Sample) (shown : Bool) → Setup service ids xs → at ≤ length xs
    → Has service ids xs l at → l.kept ≡ Some ids.own → slice_get (replay xs) at ≡ Some s
    → read_of ids.writer raw ≡ Some s
    → LateHears l (facts.Data (ids.own ++ ids.writer) rid (at + 1) raw ∷ []) shown after
    → TookOne service ids xs after at × (shown ≡ false)
data_heard service ids xs l after at rid raw s shown u small h kept get reads heard =
    let w = ids.own ++ ids.writer in
    let r = read_of l.writer raw in
    let m = with_story l (l.story ▸ Data (at + 1) r) in
    let fact = facts.Data w rid (at + 1) raw in
    let mine : is_from l.kept l.writer w ≡ true =
    ap (λ o. is_from o l.writer w) kept ∙ ap (λ i. is_from (Some ids.own) i w) h.writer_is
    ∙ from_own ids u.long in
    let now : told l fact ≡ m = cond_true (is_from l.kept l.writer w) m l mine in
    let is : r ≡ Some s = ap (λ i. read_of i raw) h.writer_is ∙ reads in
    let after_it : TookOne service ids xs (drain heard.0 m) at =
    data_told service ids xs l at s r (omega (arith, small, u.few)) h kept get is heard.0
    (subst (λ (t : Late). IsSettled (drain heard.0 t)) now heard.2) in (
      subst (λ (t : Late). TookOne service ids xs t at) (sym (heard.3.0 ∙ ap (drain heard.0) now))
          after_it,
      heard.4 ∙ heard.3.1,
    )
