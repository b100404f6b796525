-- What holds of each part is kept by each step, and the law on worlds.
use Rattle.std.proofs.Common.{◌≡◌, ℕ, ◌+◌, ◌≤◌, true, List, [], ◌∷◌, ◌++◌, length, refl, ap, sym, subst, ◌∙◌, arith}
use Rattle.std.specs.Prelude.{Option, Some, None, slice_get}
use Rattle.dur_base.specs.declared.sample.Sample.{Sample}
use Rattle.dur_view.specs.declared.change.Change.{Change}
use Rattle.rtps_message.specs.Sent.{is_keyed}
use Rattle.rel_reader.specs.Stories.{next}
use Rattle.rel_writer.specs.Replays.{sent}
use Rattle.rel_writer.specs.Sets.{any_marker, handed}
use Rattle.rel_writer.specs.Sessions.{Sending, beaten}
use Rattle.rel_writer.specs.LateReaders.{Late, shape_of}
use Rattle.rel_writer.specs.Worlds.{Begun, World, Event, Begins, Crash, Beats, Sends, Asks, Comes, Nack_comes, with_session, Step, Steps, start}
use Rattle.rel_writer.specs.Law.{Takes, TakesReplay, HasTakenAll}
use Rattle.rel_writer.proofs.Fronts.{AreChanges, front, all_when_marked, marked_when_long}
use Rattle.rel_writer.proofs.SentAgain.{are_changes}
use Rattle.rel_writer.proofs.WorldParts.{IsBegun, LateOk, SendingOk, SessionOk, Good}
use Rattle.rel_writer.proofs.Reaching.{one_found}
use Rattle.rel_writer.proofs.Nacks.{comes_good, asks_good, nack_good}
use Rattle.rel_writer.proofs.SessionSteps.{beat_packet, place_packet, sent_good, beaten_ok, begins_good}

-- ---- each step

session_is : (reader id : List ℕ) (w : World) (s : Sending) → Good reader id w
    → w.session ≡ Some s → SendingOk id w.begun w.late s
session_is reader id w s g e = subst (SessionOk id w.begun w.late) e g.session

crash_good : (reader id : List ℕ) (w : World) → Good reader id w
    → Good reader id (with_session w None)
crash_good reader id w g =
    record {
      reader_is = g.reader_is;
      id_is = g.id_is;
      late = g.late;
      session = tt;
      packets =
          g.packets;
      nacks = g.nacks;
    }

pub good_step : (reader id : List ℕ) (w v : World) (e : Event) → Good reader id w → Step w e v
    → Good reader id v
good_step reader id w v (Begins ids cs) g s =
    subst (λ (u : World). Good reader id u) (sym s.1) (begins_good reader id w ids cs g s.0)
good_step reader id w v Crash g s =
    subst (λ (u : World). Good reader id u) (sym s) (crash_good reader id w g)
good_step reader id w v (Beats bytes) g s =
    let ok = session_is reader id w s.0 g s.1 in
    subst (λ (u : World). Good reader id u) (sym s.3)
    (sent_good reader id w (beaten s.0) bytes g (beaten_ok id w.begun w.late s.0 ok)
    (beat_packet reader id w.begun w.late s.0 bytes g.reader_is ok s.2))
good_step reader id w v (Sends at bytes) g s =
    let ok = session_is reader id w s.0 g s.1 in
    subst (λ (u : World). Good reader id u) (sym s.3)
    (sent_good reader id w s.0 bytes g ok
    (place_packet reader id w.begun w.late s.0 at bytes (slice_get s.0.samples at) g.reader_is ok
    refl s.2))
good_step reader id w v (Asks bytes) g s =
    subst (λ (u : World). Good reader id u) (sym s.1) (asks_good reader id w bytes g s.0)
good_step reader id w v (Comes which) g s =
    comes_good reader id w v s.0 (g.packets which s.0 s.1) g s.2
good_step reader id w v (Nack_comes which) g s =
    nack_good reader id w v s.0 s.1 g (session_is reader id w s.0 g s.2) (g.nacks which s.1 s.3)
    s.4

pub good_steps : (reader id : List ℕ) (events : List Event) (w v : World) → Good reader id w
    → Steps w events v → Good reader id v
good_steps reader id [] w v g s = subst (λ (u : World). Good reader id u) (sym s) g
good_steps reader id (e ∷ es) w v g s =
    good_steps reader id es s.0 v (good_step reader id w s.0 e g s.1) s.2

pub good_start : (reader service id : List ℕ) → Good reader id (start reader service id)
good_start reader service id = record {
  reader_is = refl;
  id_is = refl;
  late = (refl, refl);
  session = tt;
  packets = λ i x e. cc;
  nacks = λ i x e. cc;
}

-- ---- the law

takes_by : (id : List ℕ) (begun : List Begun) (o : Option (List ℕ)) (l : Late)
    → LateOk id begun o l → Takes begun o l
takes_by id begun None l ok = (ap handed ok.1, ap any_marker ok.1)
takes_by id begun (Some p) l ok =
    let xs = sent ok.0 in
    let plain : AreChanges xs = are_changes (is_keyed (shape_of id)) xs ok.1.each in
    let r = front xs plain ok.2.at in
    record {
      changes = ok.0;
      begins = ok.1.finds;
      front = (r.0, ap (λ ys. handed ys ++ r.0) ok.2.handled_is ∙ r.1);
      all = λ d. ap handed ok.2.handled_is
          ∙ all_when_marked xs plain ok.2.at (sym (ap any_marker ok.2.handled_is) ∙ d);
    }

pub takes : (reader id : List ℕ) (w : World) → Good reader id w → TakesReplay w
takes reader id w g = takes_by id w.begun w.late.kept w.late g.late

all_by : (id : List ℕ) (begun : List Begun) (p : List ℕ) (cs : List Change) (l : Late)
    → IsBegun id begun p cs → LateOk id begun (Some p) l → length (sent cs) + 2 ≤ next l.story
    → handed l.handled ≡ sent cs
all_by id begun p cs l h ok far =
    let one : ok.0 ≡ cs = one_found id begun p ok.0 cs ok.1 h in
    let xs = sent ok.0 in
    let plain : AreChanges xs = are_changes (is_keyed (shape_of id)) xs ok.1.each in
    let long : length xs + 1 ≤ ok.2.at =
    omega (arith, ap (λ (c : List Change). length (sent c)) one, ok.2.next_is, far) in
    ap handed ok.2.handled_is
    ∙ all_when_marked xs plain ok.2.at (marked_when_long xs ok.2.at long) ∙ ap sent one

pub all_taken : (reader id : List ℕ) (w : World) (s : Sending) → Good reader id w
    → w.session ≡ Some s → s.complete ≡ true → HasTakenAll w s
all_taken reader id w s g e c =
    let ok = session_is reader id w s g e in
    let far = ok.complete c in
    record {
      kept = far.0;
      changes = ok.cs;
      begins = ok.begins.finds;
      all = all_by id w.begun s.ids.own ok.cs w.late ok.begins
          (subst (λ (o : Option (List ℕ)). LateOk id w.begun o w.late) far.0 g.late)
          (omega (arith, far.1, ap (λ (xs : List Sample). length xs) ok.samples));
    }
