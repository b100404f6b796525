-- A session begins, and sends.
use Rattle.std.proofs.Common.{suc, zero, ◌≡◌, ℕ, ◌+◌, Bool, true, false, cond, List, [], ◌∷◌, ◌++◌, length, drop, refl, ap, sym, subst, ◌∙◌}
use Rattle.std.specs.Prelude.{Option, Some, None, is_some, slice_get}
use Rattle.std.specs.Str.{bytes_eq}
use Rattle.std.specs.List.{AllByRecursion}
use Rattle.dur_base.specs.declared.fact.Fact.TheVariants as facts
use Rattle.dur_base.specs.declared.sample.Sample.{Sample}
use Rattle.dur_view.specs.declared.change.Change.{Change}
use Rattle.rtps_message.specs.Sent.{is_keyed, marker}
use Rattle.rtps_message.specs.Written.{TellsOne, sample_raw, marker_raw}
use Rattle.rel_writer.specs.declared.ids.Ids.{Ids}
use Rattle.rel_writer.specs.Replays.{replay, sent, IsSent}
use Rattle.rel_writer.specs.Sessions.{Sending, beaten, last_of, IsBeat, IsPlace}
use Rattle.rel_writer.specs.LateReaders.{Late, shape_of, read_of}
use Rattle.rel_writer.specs.Worlds.{Begun, World, found, CanBegin, with_begun, with_sent}
use Rattle.rel_writer.proofs.SentAgain.{each_sent, sample_read, marker_read}
use Rattle.rel_writer.proofs.WorldParts.{IsBegun, LateOk, PacketOk, SendingOk, Good, bytes_same}
use Rattle.rel_writer.proofs.Nacks.{put_first}

-- ---- a session sends

pub beat_packet : (reader id : List ℕ) (begun : List Begun) (l : Late) (s : Sending) (bytes : List ℕ)
    → l.reader ≡ reader → SendingOk id begun l s → IsBeat s bytes → PacketOk reader id begun bytes
beat_packet reader id begun l s bytes e ok b = record {
  p = s.ids.own;
  cs = ok.cs;
  begins = ok.begins;
  fact = facts.Beat (s.ids.own ++ s.ids.writer) (drop 12 s.ids.reader) 1 (last_of s) false;
  tells = subst
      (λ (t : List ℕ). TellsOne t bytes
      (facts.Beat (s.ids.own ++ s.ids.writer) (drop 12 s.ids.reader) 1 (last_of s) false))
      (ok.reader ∙ e) b.tells;
  means = (ap (λ t. s.ids.own ++ t) ok.writer, refl);
}

pub get_front : (xs ys : List Sample) (n : ℕ) (x : Sample) → slice_get xs n ≡ Some x
    → slice_get (xs ++ ys) n ≡ Some x
get_front [] ys n x e = cc
get_front (y ∷ xs) ys zero x e = e
get_front (y ∷ xs) ys (suc n) x e = get_front xs ys n x e

pub get_behind : (xs : List Sample) (x : Sample) → slice_get (xs ++ x ∷ []) (length xs) ≡ Some x
get_behind [] x = refl
get_behind (y ∷ xs) x = get_behind xs x

pub one_of_each : (P : Sample → Type 0) (xs : List Sample) (n : ℕ) (x : Sample)
    → AllByRecursion P xs → slice_get xs n ≡ Some x → P x
one_of_each P [] n x each e = cc
one_of_each P (y ∷ xs) zero x each e = let same : y ≡ x = cc in subst P same each.0
one_of_each P (y ∷ xs) (suc n) x each e = one_of_each P xs n x each.1 e

pub place_packet : (reader id : List ℕ) (begun : List Begun) (l : Late) (s : Sending) (at : ℕ)
    (bytes : List ℕ) (o : Option Sample) → l.reader ≡ reader → SendingOk id begun l s
    → slice_get s.samples at ≡ o → IsPlace s at o bytes → PacketOk reader id begun bytes
place_packet reader id begun l s at bytes (Some x) e ok there d =
    let get : slice_get (sent ok.cs) at ≡ Some x =
    ap (λ (xs : List Sample). slice_get xs at) (sym ok.samples) ∙ there in
    let good : IsSent (is_keyed (shape_of id)) x =
    one_of_each (IsSent (is_keyed (shape_of id))) (sent ok.cs) at x ok.begins.each get in
    let fact = facts.Data (s.ids.own ++ s.ids.writer) (drop 12 s.ids.reader) (at + 1)
    (sample_raw x s.ids.keyed) in
    record {
      p = s.ids.own;
      cs = ok.cs;
      begins = ok.begins;
      fact = fact;
      tells = subst (λ (t : List ℕ). TellsOne t bytes fact) (ok.reader ∙ e) d.tells;
      means = (
        ap (λ t. s.ids.own ++ t) ok.writer,
        (
          at,
          x,
          refl,
          get_front (sent ok.cs) (marker 0 ∷ []) at x get,
          ap
              (λ k. read_of id (sample_raw x k)) ok.keyed
              ∙ sample_read id (is_keyed (shape_of id)) x refl good,
        ),
      );
    }
place_packet reader id begun l s at bytes None e ok there d =
    let fact = facts.Data (s.ids.own ++ s.ids.writer) (drop 12 s.ids.reader) (at + 1) marker_raw in
    let get : slice_get (replay (sent ok.cs)) at ≡ Some (marker 0) =
    ap (slice_get (replay (sent ok.cs)))
    (d.0 ∙ ap (λ (xs : List Sample). length xs) ok.samples)
    ∙ get_behind (sent ok.cs) (marker 0) in
    record {
      p = s.ids.own;
      cs = ok.cs;
      begins = ok.begins;
      fact = fact;
      tells = subst (λ (t : List ℕ). TellsOne t bytes fact) (ok.reader ∙ e) d.1.tells;
      means = (ap (λ t. s.ids.own ++ t) ok.writer, (at, marker 0, refl, get, marker_read id));
    }

pub sent_good : (reader id : List ℕ) (w : World) (s : Sending) (bytes : List ℕ) → Good reader id w
    → SendingOk id w.begun w.late s → PacketOk reader id w.begun bytes
    → Good reader id (with_sent w s bytes)
sent_good reader id w s bytes g ok p = record {
  reader_is = g.reader_is;
  id_is = g.id_is;
  late = g.late;
  session = ok;
  packets = put_first (PacketOk reader id w.begun) bytes w.to_reader p g.packets;
  nacks = g.nacks;
}

pub beaten_ok : (id : List ℕ) (begun : List Begun) (l : Late) (s : Sending) → SendingOk id begun l s
    → SendingOk id begun l (beaten s)
beaten_ok id begun l s ok =
    record {
      cs = ok.cs;
      begins = ok.begins;
      samples = ok.samples;
      writer = ok.writer;
      reader = ok.reader;
      keyed = ok.keyed;
      complete = ok.complete;
    }

-- ---- a session begins

found_more : (begun more : List Begun) (p : List ℕ) (cs : List Change) → found begun p ≡ Some cs
    → found (begun ++ more) p ≡ Some cs
found_more [] more p cs e = cc
found_more (s ∷ ss) more p cs e =
    by_first (bytes_eq s.prefix p) refl (found_more ss more p cs) where
      by_first : (b : Bool) → bytes_eq s.prefix p ≡ b
          → (found ss p ≡ Some cs → found (ss ++ more) p ≡ Some cs)
          → cond (bytes_eq s.prefix p) (Some s.changes) (found (ss ++ more) p) ≡ Some cs
      by_first true h rest = ap (λ b. cond b (Some s.changes) (found (ss ++ more) p)) h
          ∙ sym (ap (λ b. cond b (Some s.changes) (found ss p)) h) ∙ e
      by_first false h rest = ap (λ b. cond b (Some s.changes) (found (ss ++ more) p)) h
          ∙ rest (sym (ap (λ b. cond b (Some s.changes) (found ss p)) h) ∙ e)

abbrev begin : List ℕ → List Change → Begun
begin p cs = record { prefix = p; changes = cs }

found_new : (begun : List Begun) (p : List ℕ) (cs : List Change) → is_some (found begun p) ≡ false
    → found (begun ++ begin p cs ∷ []) p ≡ Some cs
found_new [] p cs e = ap (λ b. cond b (Some cs) None) (bytes_same p)
found_new (s ∷ ss) p cs e = by_first (bytes_eq s.prefix p) refl (found_new ss p cs) where
  by_first : (b : Bool) → bytes_eq s.prefix p ≡ b
      → (is_some (found ss p) ≡ false → found (ss ++ begin p cs ∷ []) p ≡ Some cs)
      → cond (bytes_eq s.prefix p) (Some s.changes) (found (ss ++ begin p cs ∷ []) p) ≡ Some cs
  by_first true h rest =
      let no : is_some (cond true (Some s.changes) (found ss p)) ≡ false =
      ap (λ b. is_some (cond b (Some s.changes) (found ss p))) (sym h) ∙ e in
      cc
  by_first false h rest = ap (λ b. cond b (Some s.changes) (found (ss ++ begin p cs ∷ []) p)) h
      ∙ rest (sym (ap (λ b. is_some (cond b (Some s.changes) (found ss p))) h) ∙ e)

begun_more : (id : List ℕ) (begun more : List Begun) (p : List ℕ) (cs : List Change)
    → IsBegun id begun p cs → IsBegun id (begun ++ more) p cs
begun_more id begun more p cs h =
    record {
      finds = found_more begun more p cs h.finds;
      long = h.long;
      one = h.one;
      each = h.each;
    }

late_more : (id : List ℕ) (begun more : List Begun) (o : Option (List ℕ)) (l : Late)
    → LateOk id begun o l → LateOk id (begun ++ more) o l
late_more id begun more None l ok = ok
late_more id begun more (Some p) l ok = (ok.0, begun_more id begun more p ok.0 ok.1, ok.2)

packet_more : (reader id : List ℕ) (begun more : List Begun) (bytes : List ℕ)
    → PacketOk reader id begun bytes → PacketOk reader id (begun ++ more) bytes
packet_more reader id begun more bytes h =
    record {
      p = h.p;
      cs = h.cs;
      begins = begun_more id begun more h.p h.cs h.begins;
      fact = h.fact;
      tells = h.tells;
      means = h.means;
    }

pub begins_good : (reader id : List ℕ) (w : World) (ids : Ids) (cs : List Change) → Good reader id w
    → CanBegin w ids cs → Good reader id (with_begun w ids cs)
begins_good reader id w ids cs g c =
    let more = begin ids.own cs ∷ [] in
    let keyed : ids.keyed ≡ is_keyed (shape_of id) =
    c.keyed ∙ ap (λ t. is_keyed (shape_of t)) (c.writer ∙ g.id_is) in
    record {
      reader_is = g.reader_is;
      id_is = g.id_is;
      late = late_more id w.begun more w.late.kept w.late g.late;
      session = record {
        cs = cs;
        begins = record {
          finds = found_new w.begun ids.own cs c.is_new;
          long = c.long;
          one = c.one;
          each =
              subst (λ (k : Bool). AllByRecursion (IsSent k) (sent cs)) keyed
              (each_sent ids.keyed cs c.sendable);
        };
        samples = refl;
        writer = c.writer ∙ g.id_is;
        reader = c.reader;
        keyed = keyed;
        complete = λ e. cc;
      };
      packets = λ i b e. packet_more reader id w.begun more b (g.packets i b e);
      nacks = g.nacks;
    }
