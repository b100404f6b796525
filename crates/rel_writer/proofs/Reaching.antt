-- A datagram comes to the late reader.
use Rattle.std.proofs.Common.{suc, zero, ◌≡◌, ℕ, ◌+◌, Bool, true, false, cond, List, [], ◌∷◌, ◌++◌, length, take, drop, refl, ap, sym, subst, ◌∙◌}
use Rattle.std.specs.Prelude.{Option, Some, None, slice_get, ◌&&◌}
use Rattle.std.specs.Str.{bytes_eq}
use Rattle.std.proofs.lemmas.Bool.{and_parts, or_right}
use Rattle.std.proofs.lemmas.List.{take_at}
use Rattle.dur_base.specs.declared.fact.Fact.{Fact}
use Rattle.dur_base.specs.declared.fact.Fact.TheVariants as facts
use Rattle.dur_base.specs.declared.sample.Sample.{Sample}
use Rattle.dur_view.specs.declared.change.Change.{Change}
use Rattle.rtps_message.specs.declared.heard.Heard.{Heard}
use Rattle.rtps_message.specs.declared.heard.End.TheVariants.{Whole}
use Rattle.rtps_message.specs.Facts.{everybody}
use Rattle.rtps_message.specs.Messages.{Hears}
use Rattle.rtps_message.specs.Written.{is_addressed, TellsOne}
use Rattle.rtps_message.proofs.Once.{hears_once}
use Rattle.rel_reader.specs.declared.known.Known.TheVariants.{Unknown}
use Rattle.rel_reader.specs.Stories.{Story, Begin, ◌▸◌, Data, next}
use Rattle.rel_reader.specs.KnownNumbers.{known}
use Rattle.rel_writer.specs.Replays.{replay, sent}
use Rattle.rel_writer.specs.LateReaders.{Late, is_from, keeps, read_of, with_story, with_kept, beat_told, told, handle, drain, LateHears}
use Rattle.rel_writer.specs.Worlds.{Begun}
use Rattle.rel_writer.proofs.WorldParts.{IsBegun, KnownIn, Reads, IsFresh, LateOk, FactOk, same_bytes, bytes_same}
use Rattle.rel_writer.proofs.Reading.{reads_data, reads_beat, reads_drain, kept_drain}

pub one_found : (id : List ℕ) (begun : List Begun) (p : List ℕ) (a b : List Change)
    → IsBegun id begun p a → IsBegun id begun p b → a ≡ b
one_found id begun p a b x y = let e : Some a ≡ Some b = sym x.finds ∙ y.finds in cc

-- the sender's prefix is the one that is kept
from_kept : (q id w p : List ℕ) → length p ≡ 12 → w ≡ p ++ id → is_from (Some q) id w ≡ true → p ≡ q
from_kept q id w p long e h = sym (ap (take 12) e ∙ take_at p id 12 long)
    ∙ same_bytes (take 12 w) q (and_parts _ _ h).0

data_ok : (id : List ℕ) (begun : List Begun) (l : Late) (o : Option (List ℕ)) (w p : List ℕ)
    (cs : List Change) (k : ℕ) (r : Option Sample) (s : Sample) (j : ℕ) → IsBegun id begun p cs
    → w ≡ p ++ id → r ≡ Some s → k ≡ j + 1 → slice_get (replay (sent cs)) j ≡ Some s
    → LateOk id begun o l → (b : Bool) → is_from o id w ≡ b
    → LateOk id begun o (cond b (with_story l (l.story ▸ Data k r)) l)
data_ok id begun l None w p cs k r s j h e is n g ok false i = ok
data_ok id begun l None w p cs k r s j h e is n g ok true i = cc
data_ok id begun l (Some q) w p cs k r s j h e is n g ok false i = ok
data_ok id begun l (Some q) w p cs k r s j h e is n g ok true i =
    let same : p ≡ q = from_kept q id w p h.long e i in
    let here : IsBegun id begun q cs = subst (λ (t : List ℕ). IsBegun id begun t cs) same h in
    let one : cs ≡ ok.0 = one_found id begun q cs ok.0 here ok.1 in (
      ok.0,
      ok.1,
      reads_data l (replay (sent ok.0)) k r s j is n
          (ap (λ c. slice_get (replay (sent c)) j) (sym one) ∙ g) ok.2,
    )

reads_fresh : (l : Late) (xs : List Sample) → IsFresh l → Reads l xs
reads_fresh l xs f = record {
  at = 0;
  next_is = ap next f.0;
  knows = λ k low. subst (KnownIn xs k) (ap (λ (h : Story). known h k) (sym f.0)) tt;
  handled_is = f.1;
}

reads_kept : (l : Late) (o : Option (List ℕ)) (xs : List Sample) → Reads l xs
    → Reads (with_kept l o) xs
reads_kept l o xs r =
    record { at = r.at; next_is = r.next_is; knows = r.knows; handled_is = r.handled_is }

beat_first : (id : List ℕ) (begun : List Begun) (l : Late) (w p : List ℕ) (cs : List Change)
    (first last : ℕ) → IsBegun id begun p cs → w ≡ p ++ id → first ≡ 1 → IsFresh l
    → (c : Bool) → LateOk id begun (cond c (Some (take 12 w)) None)
    (beat_told (with_kept l (cond c (Some (take 12 w)) None))
    (is_from (cond c (Some (take 12 w)) None) id w) first last)
beat_first id begun l w p cs first last h e one f false = f
beat_first id begun l w p cs first last h e one f true =
    let same : p ≡ take 12 w = sym (ap (take 12) e ∙ take_at p id 12 h.long) in
    let m = with_kept l (Some (take 12 w)) in (
      cs,
      subst (λ (t : List ℕ). IsBegun id begun t cs) same h,
      reads_beat m (replay (sent cs))
          (is_from (Some (take 12 w)) id w) first last one
          (reads_kept l (Some (take 12 w)) (replay (sent cs)) (reads_fresh l (replay (sent cs)) f)),
    )

beat_ok : (id : List ℕ) (begun : List Begun) (l : Late) (o : Option (List ℕ))
    (service w p : List ℕ) (cs : List Change) (first last : ℕ) → IsBegun id begun p cs
    → w ≡ p ++ id → first ≡ 1 → LateOk id begun o l
    → LateOk id begun (keeps service id o w)
    (beat_told (with_kept l (keeps service id o w)) (is_from (keeps service id o w) id w) first
    last)
beat_ok id begun l None service w p cs first last h e one ok =
    beat_first id begun l w p cs first last h e one ok
    (bytes_eq (take 8 w) service && bytes_eq (drop 12 w) id)
beat_ok id begun l (Some q) service w p cs first last h e one ok = (
  ok.0,
  ok.1,
  reads_beat (with_kept l (Some q)) (replay (sent ok.0)) (is_from (Some q) id w)
      first last one (reads_kept l (Some q) (replay (sent ok.0)) ok.2),
)

kept_story : (b : Bool) (l : Late) (h : Story) → (cond b (with_story l h) l).kept ≡ l.kept
kept_story true l h = refl
kept_story false l h = refl

kept_beat : (b : Bool) (l : Late) (first last : ℕ) → (beat_told l b first last).kept ≡ l.kept
kept_beat true l first last = refl
kept_beat false l first last = refl

told_ok : (begun : List Begun) (l : Late) (f : Fact) (p : List ℕ) (cs : List Change)
    → IsBegun l.writer begun p cs → FactOk l.writer p (replay (sent cs)) f
    → LateOk l.writer begun l.kept l → LateOk l.writer begun (told l f).kept (told l f)
told_ok begun l (facts.Data writer reader k raw) p cs h means ok =
    let b = is_from l.kept l.writer writer in
    subst (λ (o : Option (List ℕ)). LateOk l.writer begun o
    (told l (facts.Data writer reader k raw)))
    (sym (kept_story b l (l.story ▸ Data k (read_of l.writer raw))))
    (data_ok l.writer begun l l.kept writer p cs k (read_of l.writer raw) means.1.1 means.1.0 h
    means.0 means.1.4 means.1.2 means.1.3 ok b refl)
told_ok begun l (facts.Unreadable writer reader k) p cs h means ok = absurd means
told_ok begun l (facts.Gap writer reader first set) p cs h means ok = absurd means
told_ok begun l (facts.Beat writer reader first last is_final) p cs h means ok =
    let kept = keeps l.service l.writer l.kept writer in
    subst (λ (o : Option (List ℕ)). LateOk l.writer begun o
    (told l (facts.Beat writer reader first last is_final)))
    (sym (kept_beat (is_from kept l.writer writer) (with_kept l kept) first last))
    (beat_ok l.writer begun l l.kept l.service writer p cs first last h means.0 means.1 ok)
told_ok begun l (facts.Nack reader writer set is_final) p cs h means ok = absurd means

fresh_drain : (times : ℕ) (l : Late) → l.story ≡ Begin 1 → drain times l ≡ l
fresh_drain zero l e = refl
fresh_drain (suc times) l e =
    let unknown : known l.story (next l.story) ≡ Unknown = ap (λ (h : Story). known h (next h)) e in
    ap (λ x. drain times (handle l x)) unknown ∙ fresh_drain times l e

drain_by : (id : List ℕ) (begun : List Begun) (times : ℕ) (l : Late) (o : Option (List ℕ))
    → LateOk id begun o l → LateOk id begun o (drain times l)
drain_by id begun times l None ok = subst IsFresh (sym (fresh_drain times l ok.0)) ok
drain_by id begun times l (Some p) ok = (ok.0, ok.1, reads_drain times l (replay (sent ok.0)) ok.2)

drain_ok : (id : List ℕ) (begun : List Begun) (times : ℕ) (l : Late) → LateOk id begun l.kept l
    → LateOk id begun (drain times l).kept (drain times l)
drain_ok id begun times l ok =
    subst (λ (o : Option (List ℕ)). LateOk id begun o (drain times l)) (sym (kept_drain times l))
    (drain_by id begun times l l.kept ok)

pub hears_one_ok : (id : List ℕ) (begun : List Begun) (l : Late) (f : Fact) (more : Bool) (m : Late)
    (p : List ℕ) (cs : List Change) → l.writer ≡ id → IsBegun id begun p cs
    → FactOk id p (replay (sent cs)) f → LateOk id begun l.kept l → LateHears l (f ∷ []) more m
    → LateOk id begun m.kept m
hears_one_ok id begun l f more m p cs e h means ok heard =
    let back = sym e in
    let here : LateOk l.writer begun (told l f).kept (told l f) =
    told_ok begun l f p cs (subst (λ (i : List ℕ). IsBegun i begun p cs) back h)
    (subst (λ (i : List ℕ). FactOk i p (replay (sent cs)) f) back means)
    (subst (λ (i : List ℕ). LateOk i begun l.kept l) back ok) in
    let there : LateOk id begun (told l f).kept (told l f) =
    subst (λ (i : List ℕ). LateOk i begun (told l f).kept (told l f)) e here in
    subst (λ (n : Late). LateOk id begun n.kept n) (sym heard.3.0)
    (drain_ok id begun heard.0 (told l f) there)

-- the addressee hears the one fact
pub to_reader_heard : (reader bytes : List ℕ) (fact : Fact) (heard : Heard)
    → TellsOne reader bytes fact → Hears (take 12 reader) bytes heard → heard.facts ≡ fact ∷ []
to_reader_heard reader bytes fact heard tells h =
    let mine : is_addressed (take 12 reader) reader ≡ true =
    or_right (bytes_eq (take 12 reader) everybody)
    (bytes_eq (take 12 reader) (take 12 reader)) (bytes_same (take 12 reader)) in
    let one : heard
    ≡ record {
      facts = cond (is_addressed (take 12 reader) reader) (fact ∷ []) [];
      end =
          Whole;
    } = hears_once (take 12 reader) bytes heard _ h (tells (take 12 reader)) in
    ap (λ (x : Heard). x.facts) one ∙ ap (λ b. cond b (fact ∷ []) []) mine
