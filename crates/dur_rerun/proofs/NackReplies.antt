-- What ACKNACKs call for, one after the other.
use Rattle.std.proofs.Common.{◌≡◌, ◌⊎◌, inl, inr, ⊎_elim, ℕ, ◌+◌, ◌<◌, ◌≤◌, Bool, true, false, List, [], ◌∷◌, ◌++◌, length, take, drop, get_or, refl, sym, ◌∙◌, ap, subst, append_assoc, append-nil, Option, Some, None, Ok, Err, arith}
use Rattle.std.proofs.lemmas.List.{length-append, take_more, take-append-drop, take_all}
use Rattle.std.specs.Prelude.{slice_get, set, if◌then◌else◌}
use Rattle.std.specs.declared.result.Result.{Result}
use Rattle.dur_qos.specs.declared.plan.Plan.{Plan}
use Rattle.dur_view.specs.Identities.{Guid}
use Rattle.dur_view.specs.Words.{is_same}
use Rattle.dur_view.specs.declared.change.Snapshot.{Snapshot}
use Rattle.dur_hub.specs.declared.event.Event.{Event}
use Rattle.dur_hub.specs.declared.event.Event.TheVariants as call
use Rattle.dur_hub.specs.declared.hub.Hub.{Hub}
use Rattle.dur_hub.specs.declared.reply.SnapFault.{SnapFault}
use Rattle.dur_hub.specs.declared.reply.SnapFault.TheVariants as refused
use Rattle.dur_hub.specs.Runs.{Run}
use Rattle.dur_hub.specs.Legal.{LegalAt, Legal, after as run_by, after_snapshot, run_after}
use Rattle.dur_hub.specs.Hubs.{Stands}
use Rattle.rel_writer.specs.Sessions.{Sending}
use Rattle.rel_writer.specs.Turns.{Replies as SessionReplies}
use Rattle.dur_rerun.specs.declared.rerun.nacks.Nack.{Nack}
use Rattle.dur_rerun.specs.declared.rerun.replays.Replay.{Replay}
use Rattle.dur_rerun.specs.Rerun.Replies.{Place, IsFor, ids_of, session_for, with_session, snapshot_call, AnswersWith, RepliesBy, NackCalls, NacksCall, IsSessionBy, BeginsReply, NacksBegin}
use Rattle.dur_rerun.specs.Rerun.Steps.{StandsAt, IsRepliedAt, BeginsAt, IsSnapshot, AreSnapshots, place_at, Opens, OpensWherever, IsStart, Starts, IsNackReplied, BeginsNack, AreReplied, BeginNacks}

-- ---- lists of calls

pub run_snoc : (r : Run) (es : List Event) (e : Event) → run_after r (es ++ e ∷ []) ≡ run_by (run_after r es) e
run_snoc r [] e = refl
run_snoc r (x ∷ es) e = run_snoc (run_by r x) es e

pub last_legal : (r : Run) (es : List Event) (e : Event) → Legal r (es ++ e ∷ []) → LegalAt (run_after r es) e
last_legal r [] e legal = legal.0
last_legal r (x ∷ es) e legal = last_legal (run_by r x) es e legal.1

no_more : (start : Run) (log : List Event) (hub : Hub) → Stands start log hub → Stands start (log ++ []) hub
no_more start log hub st = subst (λ (es : List Event). Stands start es hub) (sym (append-nil log)) st

-- ---- the session that replies

pub opens_there : (own : List ℕ) (n : Nack) (hub : Hub) (replays : List Replay) (at : ℕ) → at < length replays → StandsAt replays n.reader at
    → OpensWherever own n hub replays hub replays (Some at)
opens_there own n hub replays at within there start log st =
    let before = place_at start log replays in
    let same : run_after start (log ++ []) ≡ run_after start log = ap (λ (es : List Event). run_after start es) (append-nil log) in
    record {
      more = [];
      stands = no_more start log hub st;
      snapshots = tt;
      opens = record {
        within = within;
        r = there.r;
        stands = there.stands;
        session = subst (λ (o : Option Sending). IsSessionBy o own n before there.r.session) (sym there.session) refl;
        replies = λ messages t rep.
            let after : Place = record { run = run_after start (log ++ []); replays = set replays at (record there.r { session = t }) } in
            subst (λ (o : Option Sending). RepliesBy o own n before messages after) (sym there.session) (same, (t, rep, there.goes_on t));
      };
    }

get_last : (xs : List Replay) (x : Replay) → slice_get (xs ++ x ∷ []) (length xs) ≡ Some x
get_last [] x = refl
get_last (y ∷ xs) x = get_last xs x

last_goes_on : (xs : List Replay) (g : Guid) (s t : Sending) → session_for xs g ≡ None
    → set (xs ++ record { reader = g; session = s } ∷ []) (length xs) (record { reader = g; session = t }) ≡ with_session g t xs
last_goes_on [] g s t none = refl
last_goes_on (x ∷ xs) g s t none = on_by (is_same x.reader g) none (last_goes_on xs g s t) where
  on_by : (b : Bool) → (if b then Some x.session else session_for xs g) ≡ None
      → (session_for xs g ≡ None → set (xs ++ record { reader = g; session = s } ∷ []) (length xs) (record { reader = g; session = t }) ≡ with_session g t xs)
      → x ∷ set (xs ++ record { reader = g; session = s } ∷ []) (length xs) (record { reader = g; session = t })
      ≡ (if b then record { reader = g; session = t } ∷ xs else x ∷ with_session g t xs)
  on_by true is more = absurd (cc is)
  on_by false is more = ap (λ (ys : List Replay). x ∷ ys) (more is)

opens_new : (own : List ℕ) (n : Nack) (start : Run) (log : List Event) (hub : Hub) (replays : List Replay) (s : Sending) (lost : ℕ) (reply : Result Snapshot SnapFault)
    → session_for replays n.reader ≡ None → Stands start (log ++ snapshot_call (run_after start log) n lost reply ∷ []) hub → IsStart own n (Some s) reply
    → Opens own n start log replays hub (replays ++ record { reader = n.reader; session = s } ∷ []) (Some (length replays))
opens_new own n start log hub replays s lost (Ok snapshot) none st is =
    let before = place_at start log replays in
    let e = snapshot_call (run_after start log) n lost (Ok snapshot) in
    let r : Replay = record { reader = n.reader; session = s } in
    let legal = last_legal start log e st.legal in
    record {
      more = e ∷ [];
      stands = st;
      snapshots = (tt, tt);
      opens = record {
        within = omega (arith, length-append replays (r ∷ []));
        r = r;
        stands = get_last replays r;
        session = subst (λ (o : Option Sending). IsSessionBy o own n before s) (sym none) (lost, snapshot, legal, is);
        replies = λ messages t rep.
            let after : Place = record { run = run_after start (log ++ e ∷ []); replays = set (replays ++ r ∷ []) (length replays) (record r { session = t }) } in
            subst (λ (o : Option Sending). RepliesBy o own n before messages after) (sym none)
            (record {
              lost = lost;
              reply = Ok snapshot;
              legal = legal;
              leads = run_snoc start log e;
              answers = (t, subst (λ (u : Sending). SessionReplies u n.set messages t) is rep, last_goes_on replays n.reader s t none);
            });
      };
    }
opens_new own n start log hub replays s lost (Err why) none st is = absurd is

pub opens_by_start : (own : List ℕ) (n : Nack) (old hub : Hub) (replays : List Replay) (s : Sending) → session_for replays n.reader ≡ None
    → ((start : Run) (log : List Event) → Stands start log old → Starts own n start log hub (Some s))
    → OpensWherever own n old replays hub (replays ++ record { reader = n.reader; session = s } ∷ []) (Some (length replays))
opens_by_start own n old hub replays s none starts start log st =
    let so = starts start log st in opens_new own n start log hub replays s so.lost so.reply none so.stands so.is

nobody : (own : List ℕ) (n : Nack) (replays : List Replay) (why : SnapFault) → IsStart own n None (Err why) → AnswersWith (ids_of own n) n (Err why) replays [] replays
nobody own n replays refused.Unknown is = (refl, refl)
nobody own n replays refused.NotServed is = (refl, refl)
nobody own n replays refused.Already is = (refl, refl)
nobody own n replays refused.OutOfMemory is = absurd (is refl)

opens_none : (own : List ℕ) (n : Nack) (start : Run) (log : List Event) (hub : Hub) (replays : List Replay) (lost : ℕ) (reply : Result Snapshot SnapFault)
    → session_for replays n.reader ≡ None → Stands start (log ++ snapshot_call (run_after start log) n lost reply ∷ []) hub → IsStart own n None reply
    → Opens own n start log replays hub replays None
opens_none own n start log hub replays lost (Ok snapshot) none st is = absurd is
opens_none own n start log hub replays lost (Err why) none st is =
    let before = place_at start log replays in
    let e = snapshot_call (run_after start log) n lost (Err why) in
    let after : Place = record { run = run_after start (log ++ e ∷ []); replays = replays } in
    record {
      more = e ∷ [];
      stands = st;
      snapshots = (tt, tt);
      opens =
          subst (λ (o : Option Sending). RepliesBy o own n before [] after) (sym none)
          (record {
            lost = lost;
            reply = Err why;
            legal = last_legal start log e st.legal;
            leads = run_snoc start log e;
            answers = nobody own n replays why is;
          });
    }

pub opens_nobody : (own : List ℕ) (n : Nack) (old hub : Hub) (replays : List Replay) → session_for replays n.reader ≡ None
    → ((start : Run) (log : List Event) → Stands start log old → Starts own n start log hub None) → OpensWherever own n old replays hub replays None
opens_nobody own n old hub replays none starts start log st =
    let so = starts start log st in opens_none own n start log hub replays so.lost so.reply none so.stands so.is

pub opens_as : (own : List ℕ) (n : Nack) (old hub : Hub) (before replays : List Replay) (got new : Option ℕ) → got ≡ new
    → OpensWherever own n old before hub replays got → OpensWherever own n old before hub replays new
opens_as own n old hub before replays got new is opens = subst (λ (o : Option ℕ). OpensWherever own n old before hub replays o) is opens

pub starts_as : (own : List ℕ) (n : Nack) (old hub : Hub) (got new : Option Sending) → got ≡ new
    → ((start : Run) (log : List Event) → Stands start log old → Starts own n start log hub got)
    → (start : Run) (log : List Event) → Stands start log old → Starts own n start log hub new
starts_as own n old hub got new is starts start log st = subst (λ (o : Option Sending). Starts own n start log hub o) is (starts start log st)

pub opens_pushed : (own : List ℕ) (n : Nack) (old hub : Hub) (replays items : List Replay) (s : Sending) (place : ℕ) → session_for replays n.reader ≡ None
    → ((start : Run) (log : List Event) → Stands start log old → Starts own n start log hub (Some s)) → items ≡ replays ++ record { reader = n.reader; session = s } ∷ []
    → place ≡ length replays → OpensWherever own n old replays hub items (Some place)
opens_pushed own n old hub replays items s place none starts is at =
    subst (λ (i : ℕ). OpensWherever own n old replays hub items (Some i)) (sym at)
    (subst (λ (l : List Replay). OpensWherever own n old replays hub l (Some (length replays))) (sym is) (opens_by_start own n old hub replays s none starts))

-- ---- one ACKNACK

pub passes : (plan : Plan) (own : List ℕ) (n : Nack) (hub : Hub) (replays : List Replay) → ((at : ℕ) → IsFor plan n at → ⊥)
    → IsNackReplied plan own n hub replays hub replays []
passes plan own n hub replays none start log st plan_is = record {
  more = [];
  stands = no_more start log hub st;
  snapshots = tt;
  to = inl (record {
    none = λ at is_for. none at (subst (λ (p : Plan). IsFor p n at) plan_is is_for);
    silent = refl;
    same = ap (λ (es : List Event). place_at start es replays) (append-nil log);
  });
}

pub silent : (plan : Plan) (own : List ℕ) (n : Nack) (old hub : Hub) (before replays : List Replay) → (at : ℕ) × IsFor plan n at
    → OpensWherever own n old before hub replays None → IsNackReplied plan own n old before hub replays []
silent plan own n old hub before replays some opens start log st plan_is =
    let o = opens start log st in
    record {
      more = o.more;
      stands = o.stands;
      snapshots = o.snapshots;
      to = inr (record { at = some.0; is_for = subst (λ (p : Plan). IsFor p n some.0) (sym plan_is) some.1; replies = o.opens });
    }

pub replied : (plan : Plan) (own : List ℕ) (n : Nack) (old hub : Hub) (before mid replays : List Replay) (place : ℕ) (xs : List (List ℕ)) → (at : ℕ) × IsFor plan n at
    → OpensWherever own n old before hub mid (Some place) → IsRepliedAt mid place n.set replays xs → IsNackReplied plan own n old before hub replays xs
replied plan own n old hub before mid replays place xs some opens rep start log st plan_is =
    let o = opens start log st in
    let one : rep.r ≡ o.opens.r = cc (rep.stands, o.opens.stands) in
    let replies = subst (λ (r : Replay). SessionReplies r.session n.set xs rep.t) one rep.replies in
    let is : set mid place (record o.opens.r { session = rep.t }) ≡ replays =
    ap (λ (r : Replay). set mid place (record r { session = rep.t })) (sym one) ∙ sym rep.goes_on in
    record {
      more = o.more;
      stands = o.stands;
      snapshots = o.snapshots;
      to = inr (record {
        at = some.0;
        is_for = subst (λ (p : Plan). IsFor p n some.0) (sym plan_is) some.1;
        replies =
            subst (λ (l : List Replay). RepliesBy (session_for before n.reader) own n (place_at start log before) xs (place_at start (log ++ o.more) l)) is
            (o.opens.replies xs rep.t replies);
      });
    }

pub begun : (plan : Plan) (own : List ℕ) (n : Nack) (old hub : Hub) (before mid : List Replay) (place : ℕ) (xs : List (List ℕ)) → (at : ℕ) × IsFor plan n at
    → OpensWherever own n old before hub mid (Some place) → BeginsAt mid place n.set xs → BeginsNack plan own n old before xs
begun plan own n old hub before mid place xs some opens begins start log st plan_is =
    let o = opens start log st in
    let one : begins.r ≡ o.opens.r = cc (begins.stands, o.opens.stands) in
    inr (record {
      at = some.0;
      is_for = subst (λ (p : Plan). IsFor p n some.0) (sym plan_is) some.1;
      s = begins.r.session;
      session = subst (λ (r : Replay). IsSessionBy (session_for before n.reader) own n (place_at start log before) r.session) (sym one) o.opens.session;
      begins = begins.begins;
    })

-- ---- ACKNACKs one after the other

after_more : (r : Run) (es fs : List Event) → run_after r (es ++ fs) ≡ run_after (run_after r es) fs
after_more r [] fs = refl
after_more r (e ∷ es) fs = after_more (run_by r e) es fs

plan_by : (r : Run) (m : ℕ) (g : Guid) (lost : ℕ) (reply : Result Snapshot SnapFault) → (after_snapshot r m g lost reply).plan ≡ r.plan
plan_by r m g lost (Ok s) = refl
plan_by r m g lost (Err refused.Unknown) = refl
plan_by r m g lost (Err refused.NotServed) = refl
plan_by r m g lost (Err refused.Already) = refl
plan_by r m g lost (Err refused.OutOfMemory) = refl

plan_stays : (r : Run) (es : List Event) → AreSnapshots es → (run_after r es).plan ≡ r.plan
plan_stays r [] snapshots = refl
plan_stays r (e ∷ es) snapshots = plan_stays (run_by r e) es snapshots.1 ∙ one e snapshots.0 where
  one : (f : Event) → IsSnapshot f → (run_by r f).plan ≡ r.plan
  one (call.Snapshot m g lost reply) is = plan_by r m g lost reply
  one (call.Receive m lost steps cut stopped) is = absurd is
  one (call.Take b) is = absurd is
  one (call.TakeView reply) is = absurd is
  one (call.Mark upto) is = absurd is
  one call.Stop is = absurd is
  one call.Leave is = absurd is
  one (call.State s) is = absurd is

snapshots_join : (es fs : List Event) → AreSnapshots es → AreSnapshots fs → AreSnapshots (es ++ fs)
snapshots_join [] fs first second = second
snapshots_join (e ∷ es) fs first second = (first.0, snapshots_join es fs first.1 second)

-- one ACKNACK more
call_more : (own : List ℕ) (ns : List Nack) (n : Nack) (before mid after : Place) (xs ys : List (List ℕ)) → NacksCall own ns before xs mid
    → NackCalls own n mid ys after → NacksCall own (ns ++ n ∷ []) before (xs ++ ys) after
call_more own [] n before mid after xs ys (none, same) one =
    let here : NackCalls own n before ys after = subst (λ (p : Place). NackCalls own n p ys after) same one in
    (ys, [], after, here, (refl, refl), ap (λ (zs : List (List ℕ)). zs ++ ys) none ∙ sym (append-nil ys))
call_more own (m ∷ ns) n before mid after xs ys (now, later, next, first, rest, is) one = (
  now,
  later ++ ys,
  next,
  first,
  call_more own ns n next mid after later ys rest one,
  ap (λ (zs : List (List ℕ)). zs ++ ys) is ∙ append_assoc now later ys,
)

-- the next one begins to be replied
begin_more : (own : List ℕ) (ns rest : List Nack) (n : Nack) (before mid : Place) (xs ys : List (List ℕ)) → NacksCall own ns before xs mid
    → ((ys ≡ []) ⊎ BeginsReply own n mid ys) → NacksBegin own (ns ++ n ∷ rest) before (xs ++ ys)
begin_more own [] rest n before mid xs ys (none, same) one =
    let bare : ys ≡ xs ++ ys = sym (ap (λ (zs : List (List ℕ)). zs ++ ys) none) in
    subst (λ (zs : List (List ℕ)). NacksBegin own (n ∷ rest) before zs) bare
    (⊎_elim (λ (e : ys ≡ []). inl e) (λ (b : BeginsReply own n mid ys). inr (inl (subst (λ (p : Place). BeginsReply own n p ys) same b))) one)
begin_more own (m ∷ ns) rest n before mid xs ys (now, later, next, first, more, is) one =
    inr (inr (
      now,
      later ++ ys,
      next,
      first,
      begin_more own ns rest n next mid later ys more one,
      ap (λ (zs : List (List ℕ)). zs ++ ys) is ∙ append_assoc now later ys,
    ))

-- the items up to a place, that one, and the others
split_at : {X : Type 0} → (xs : List X) (i : ℕ) (x : X) → i < length xs → x ≡ get_or xs i x → take i xs ++ x ∷ drop (i + 1) xs ≡ xs
split_at {X = X} xs i x lt is =
    ap (λ (y : X). take i xs ++ y ∷ drop (i + 1) xs) is
    ∙ sym (append_assoc (take i xs) (get_or xs i x ∷ []) (drop (i + 1) xs))
    ∙ ap (λ (ys : List X). ys ++ drop (i + 1) xs) (sym (take_more xs i x lt))
    ∙ take-append-drop (i + 1) xs

take_on : {X : Type 0} → (xs : List X) (i : ℕ) (x : X) → i < length xs → x ≡ get_or xs i x → take i xs ++ x ∷ [] ≡ take (i + 1) xs
take_on {X = X} xs i x lt is = ap (λ (y : X). take i xs ++ y ∷ []) is ∙ sym (take_more xs i x lt)

module _ (plan : Plan) (own : List ℕ) (ns : List Nack) (i : ℕ) (n : Nack) (lt : i < length ns) (is : n ≡ get_or ns i n) (old mid new : Hub) (before between behind : List Replay) where
  pub nack_more : (xs ys : List (List ℕ)) → AreReplied plan own (take i ns) old before mid between xs → IsNackReplied plan own n mid between new behind ys
      → AreReplied plan own (take (i + 1) ns) old before new behind (xs ++ ys)
  nack_more xs ys are one start log st plan_is =
      let a = are start log st plan_is in
      let plan_on : (run_after start (log ++ a.more)).plan ≡ plan =
      ap (λ (r : Run). r.plan) (after_more start log a.more) ∙ plan_stays (run_after start log) a.more a.snapshots ∙ plan_is in
      let b = one start (log ++ a.more) a.stands plan_on in
      let log_is : (log ++ a.more) ++ b.more ≡ log ++ (a.more ++ b.more) = append_assoc log a.more b.more in
      let so = call_more own (take i ns) n (place_at start log before) (place_at start (log ++ a.more) between) (place_at start ((log ++ a.more) ++ b.more) behind) xs ys a.to b.to in
      let here = subst (λ (ms : List Nack). NacksCall own ms (place_at start log before) (xs ++ ys) (place_at start ((log ++ a.more) ++ b.more) behind)) (take_on ns i n lt is) so in
      record {
        more = a.more ++ b.more;
        stands = subst (λ (es : List Event). Stands start es new) log_is b.stands;
        snapshots = snapshots_join a.more b.more a.snapshots b.snapshots;
        to = subst (λ (es : List Event). NacksCall own (take (i + 1) ns) (place_at start log before) (xs ++ ys) (place_at start es behind)) log_is here;
      }

  pub nack_begins : (xs ys : List (List ℕ)) → AreReplied plan own (take i ns) old before mid between xs → BeginsNack plan own n mid between ys
      → BeginNacks plan own ns old before (xs ++ ys)
  nack_begins xs ys are one start log st plan_is =
      let a = are start log st plan_is in
      let plan_on : (run_after start (log ++ a.more)).plan ≡ plan =
      ap (λ (r : Run). r.plan) (after_more start log a.more) ∙ plan_stays (run_after start log) a.more a.snapshots ∙ plan_is in
      let b = one start (log ++ a.more) a.stands plan_on in
      subst (λ (ms : List Nack). NacksBegin own ms (place_at start log before) (xs ++ ys)) (split_at ns i n lt is)
      (begin_more own (take i ns) (drop (i + 1) ns) n (place_at start log before) (place_at start (log ++ a.more) between) xs ys a.to b)

pub none_replied : (plan : Plan) (own : List ℕ) (ns : List Nack) (hub : Hub) (replays : List Replay) → AreReplied plan own (take 0 ns) hub replays hub replays []
none_replied plan own ns hub replays start log st plan_is = record {
  more = [];
  stands = no_more start log hub st;
  snapshots = tt;
  to = (refl, ap (λ (es : List Event). place_at start es replays) (append-nil log));
}

pub all_replied : (plan : Plan) (own : List ℕ) (ns : List Nack) (i : ℕ) (old new : Hub) (before behind : List Replay) (xs : List (List ℕ)) → length ns ≤ i
    → AreReplied plan own (take i ns) old before new behind xs → AreReplied plan own ns old before new behind xs
all_replied plan own ns i old new before behind xs le are =
    subst (λ (ms : List Nack). AreReplied plan own ms old before new behind xs) (take_all i ns le) are
