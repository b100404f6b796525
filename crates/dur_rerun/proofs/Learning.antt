-- What a directory hears of the records behind a plan is what the input tells.
use Rattle.std.proofs.Common.{◌≡◌, ℕ, ◌-◌, ◌≤◌, ◌<◌, max, List, [], ◌∷◌, ◌++◌, length, get_or, take, drop, Option, refl, sym, ap, subst, ◌∙◌, append_assoc, append-nil, arith}
use Rattle.std.specs.Prelude.{IfSome}
use Rattle.std.proofs.lemmas.List.{take_rest}
use Rattle.std.specs.Io.KnownBytes.{Consumes}
use Rattle.dur_base.specs.declared.fact.Fact.{Fact}
use Rattle.dur_capture.specs.declared.record.Record.{Record}
use Rattle.dur_capture.specs.Feeding.{Feeding}
use Rattle.dur_capture.specs.Whole.{Feeds}
use Rattle.dur_qos.specs.declared.plan.Plan.{Plan as PlanOf}
use Rattle.dur_qos.specs.Good.{GoodPlan}
use Rattle.dur_qos.specs.Text.{PlanText}
use Rattle.dur_qos.specs.Written.{plan_text}
use Rattle.rtps_message.specs.declared.heard.Heard.{Heard}
use Rattle.rtps_message.specs.Messages.{Hears}
use Rattle.rtps_discovery.specs.declared.directory.Directory.{Directory}
use Rattle.rtps_discovery.specs.Hearing.{Heard as StandsFor}
use Rattle.rtps_discovery.specs.Learnt.{HeardFact, IsLearnt, PassesLimit}
use Rattle.rtps_discovery.specs.declared.fault.LearnFault.{LearnFault}
use Rattle.rtps_discovery.specs.declared.fault.LearnFault.TheVariants as fault
use Rattle.dur_rerun.specs.declared.input.plan.Opened.{Opened}
use Rattle.dur_rerun.specs.declared.status.Status.{Status}
use Rattle.dur_rerun.specs.declared.status.Status.TheVariants.{Done, Usage, OutOfMemory, Input, ReadFault, WriteFault, Plan, DiskFault, NotAJournal, PlanDiffers, Full, Worn, TooMany}
use Rattle.dur_rerun.specs.Input.Breaks.{EndsPlan, StopsPlan, EndsRecords, StopsRest}
use Rattle.dur_rerun.specs.Input.Plan.{Opens}
use Rattle.dur_rerun.specs.Input.Prefix.{own_prefix}
use Rattle.dur_rerun.specs.Input.Records.{latest, Ends}
use Rattle.dur_rerun.specs.Learn.Facts.{heard_at, Tells, HearsMore, HearsRecord, HearsAll}
use Rattle.dur_rerun.specs.Learn.Faults.{learn_status}
use Rattle.dur_rerun.specs.Learn.Answer.{Learns, LearnsText, LearnAnswers}
use Rattle.dur_rerun.proofs.Commands.{if_any}
use Rattle.dur_rerun.proofs.Opened.{lifted}
use Rattle.dur_rerun.proofs.Reading.{ends_whole}

-- ---- facts

pub hears_first : (plan : PlanOf) (d : Directory) → HearsMore plan d [] d
hears_first plan d facts stands = subst (λ (hs : List HeardFact). StandsFor plan d hs) (sym (append-nil facts)) stands

pub hears_both : (plan : PlanOf) (old mid new : Directory) (first next : List HeardFact) → HearsMore plan old first mid → HearsMore plan mid next new → HearsMore plan old (first ++ next) new
hears_both plan old mid new first next a b facts stands = subst (λ (hs : List HeardFact). StandsFor plan new hs) (append_assoc facts first next) (b (facts ++ first) (a facts stands))

-- one fact of those that are left
pub hears_fact : (plan : PlanOf) (m : ℕ) (old mid new : Directory) (fs : List Fact) (f : Fact) → 1 ≤ length fs → f ≡ get_or fs 0 f → HearsMore plan old (record { moment = m; fact = f } ∷ []) mid → HearsMore plan mid (heard_at m (take (length fs - 1) (drop 1 fs))) new → HearsMore plan old (heard_at m fs) new
hears_fact plan m old mid new [] f some is first next = absurd (omega (arith, some))
hears_fact plan m old mid new (x ∷ fs) f some is first next =
    let here : HearsMore plan old (record { moment = m; fact = x } ∷ []) mid = subst (λ (y : Fact). HearsMore plan old (record { moment = m; fact = y } ∷ []) mid) is first in
    hears_both plan old mid new (record { moment = m; fact = x } ∷ []) (heard_at m fs) here (subst (λ (l : List Fact). HearsMore plan mid (heard_at m l) new) (take_rest (x ∷ fs) 1) next)

pub none_left : (plan : PlanOf) (m : ℕ) (d : Directory) (fs : List Fact) → length fs < 1 → HearsMore plan d (heard_at m fs) d
none_left plan m d [] none = hears_first plan d
none_left plan m d (f ∷ fs) none = absurd (omega (arith, none))

-- ---- records

-- the greatest moment of records behind this one
abbrev pub last_from : ℕ → List Record → ℕ
last_from m [] = m
last_from m (r ∷ rs) = last_from (max m r.moment) rs

pub last_more : (m : ℕ) (rs : List Record) (r : Record) → last_from m (rs ++ r ∷ []) ≡ max (last_from m rs) r.moment
last_more m [] r = refl
last_more m (x ∷ rs) r = last_more (max m x.moment) rs r

last_is : (m : ℕ) (rs : List Record) → last_from m rs ≡ max m (latest rs)
last_is m [] = omega arith
last_is m (r ∷ rs) = last_is (max m r.moment) rs ∙ omega arith

pub last_latest : (rs : List Record) → last_from 0 rs ≡ latest rs
last_latest rs = last_is 0 rs ∙ omega arith

-- one record more
pub tells_more : (own : List ℕ) (m : ℕ) (rs : List Record) (facts : List HeardFact) (r : Record) (heard : Heard) → Tells own m rs facts → Hears own r.bytes heard → Tells own m (rs ++ r ∷ []) (facts ++ heard_at (max (last_from m rs) r.moment) heard.facts)
tells_more own m [] facts r heard t h =
    (heard, [], h, refl, ap (λ (l : List HeardFact). l ++ heard_at (max m r.moment) heard.facts) t ∙ sym (append-nil (heard_at (max m r.moment) heard.facts)))
tells_more own m (x ∷ rs) facts r heard t h =
    let more = heard_at (max (last_from (max m x.moment) rs) r.moment) heard.facts in
    (t.0, t.1 ++ more, t.2, tells_more own (max m x.moment) rs t.1 r heard t.3 h, ap (λ (l : List HeardFact). l ++ more) t.4 ∙ append_assoc (heard_at (max m x.moment) t.0.facts) t.1 more)

pub record_heard : (plan : PlanOf) (own : List ℕ) (m : ℕ) (r : Record) (first old new : Directory) (facts : List HeardFact) → HearsMore plan first facts old → (h : HearsRecord plan own m r old new) → HearsMore plan first (facts ++ heard_at m h.heard.facts) new
record_heard plan own m r first old new facts sofar h = hears_both plan first old new facts (heard_at m h.heard.facts) sofar h.more

-- and it is told at the greatest moment with it
pub record_told : (plan : PlanOf) (own : List ℕ) (m last : ℕ) (rs : List Record) (facts : List HeardFact) (r : Record) (old new : Directory) → last ≡ last_from 0 rs → m ≡ max last r.moment → Tells own 0 rs facts → (h : HearsRecord plan own m r old new) → Tells own 0 (rs ++ r ∷ []) (facts ++ heard_at m h.heard.facts)
record_told plan own m last rs facts r old new was is tells h =
    let now : max (last_from 0 rs) r.moment ≡ m = ap (λ (k : ℕ). max k r.moment) (sym was) ∙ sym is in
    subst (λ (k : ℕ). Tells own 0 (rs ++ r ∷ []) (facts ++ heard_at k h.heard.facts)) now (tells_more own 0 rs facts r h.heard tells h.hears)

pub last_next : (m last : ℕ) (rs : List Record) (r : Record) → last ≡ last_from 0 rs → m ≡ max last r.moment → m ≡ last_from 0 (rs ++ r ∷ [])
last_next m last rs r was is = is ∙ ap (λ (k : ℕ). max k r.moment) was ∙ sym (last_more 0 rs r)

-- at the end of the source every record was heard
pub hears_whole : (plan : PlanOf) (own : List ℕ) (before last : ℕ) (known mid now : Option (List ℕ)) (octets seen : List ℕ) (rs : List Record) (f g : Feeding) (facts : List HeardFact) (first new : Directory) → Consumes known mid seen → Feeds before (octets ++ seen) rs f → Ends mid now f g
    → Tells own 0 rs facts → HearsMore plan first facts new → last ≡ last_from 0 rs → IfSome known (λ tail. HearsAll plan own before (octets ++ tail) first new last)
hears_whole plan own before last known mid now octets seen rs f g facts first new consumed feeds e tells more is =
    ends_whole before known mid now octets seen rs f g (λ t. HearsAll plan own before t first new last) consumed feeds e (λ all capture. record {
      records = rs;
      capture = capture;
      facts = facts;
      tells = tells;
      more = more;
      last_is = is ∙ last_latest rs;
    })

-- ---- the input

-- a directory that heard every record behind the plan stands for what the input tells
pub learns_by : (known mid : Option (List ℕ)) (seen : List ℕ) (at epoch last : ℕ) (p : Opened) (o : Opens seen p) (own : List ℕ) (first new : Directory) (P : List ℕ → Type 0) → Consumes known mid seen → own ≡ own_prefix epoch p.plan → StandsFor p.plan first []
    → IfSome mid (λ tail. HearsAll p.plan own p.feed.before (p.feed.left ++ tail) first new last)
    → ((input : List ℕ) (facts : List HeardFact) → StandsFor p.plan new facts → ((q : PlanOf) → IsLearnt p.plan facts (max at last) q → Learns at epoch input q) → P input) → IfSome known P
learns_by known mid seen at epoch last p o own first new P consumed own_is stands hears leads =
    lifted known mid seen p o (λ n octets. HearsAll p.plan own n octets first new last) P consumed hears (λ input plan_is h. leads input h.facts (h.more [] stands) (λ q learnt. record {
      plan = p.plan;
      n = o.n;
      plan_is = plan_is;
      records = h.records;
      capture = h.capture;
      facts = h.facts;
      tells = subst (λ (x : List ℕ). Tells x 0 h.records h.facts) own_is h.tells;
      learnt_is = subst (λ (m : ℕ). IsLearnt p.plan h.facts (max at m) q) h.last_is learnt;
    }))

-- a good plan is learnt, and this is its text
pub learn_text : (known mid : Option (List ℕ)) (seen : List ℕ) (at epoch last now : ℕ) (p : Opened) (o : Opens seen p) (own : List ℕ) (first new : Directory) (learnt : PlanOf) (text : List ℕ) → Consumes known mid seen → own ≡ own_prefix epoch p.plan → StandsFor p.plan first []
    → IfSome mid (λ tail. HearsAll p.plan own p.feed.before (p.feed.left ++ tail) first new last) → now ≡ max at last
    → ((facts : List HeardFact) → StandsFor p.plan new facts → IsLearnt p.plan facts now learnt) → GoodPlan learnt → text ≡ plan_text learnt → IfSome known (λ input. LearnsText at epoch input text)
learn_text known mid seen at epoch last now p o own first new learnt text consumed own_is stands hears now_is ok good text_is =
    learns_by known mid seen at epoch last p o own first new (λ input. LearnsText at epoch input text) consumed own_is stands hears (λ input facts heard learns. record {
      learnt = learnt;
      learns = learns learnt (subst (λ (m : ℕ). IsLearnt p.plan facts m learnt) now_is (ok facts heard));
      good = good;
      text_is = text_is;
    })

-- the learnt plan passes a limit, or memory ran out
pub learn_fails : (e : LearnFault) (known mid : Option (List ℕ)) (seen : List ℕ) (at epoch last now : ℕ) (p : Opened) (o : Opens seen p) (own : List ℕ) (first new : Directory) → Consumes known mid seen → own ≡ own_prefix epoch p.plan → StandsFor p.plan first []
    → IfSome mid (λ tail. HearsAll p.plan own p.feed.before (p.feed.left ++ tail) first new last) → now ≡ max at last
    → (e ≡ fault.TooMany → (facts : List HeardFact) → StandsFor p.plan new facts → (q : PlanOf) × IsLearnt p.plan facts now q × PassesLimit q) → IfSome known (λ input. LearnAnswers at epoch input [] (learn_status e))
learn_fails fault.TooMany known mid seen at epoch last now p o own first new consumed own_is stands hears now_is many =
    learns_by known mid seen at epoch last p o own first new (λ input. LearnAnswers at epoch input [] TooMany) consumed own_is stands hears (λ input facts heard learns.
    let q = many refl facts heard in
    (refl, q.0, learns q.0 (subst (λ (m : ℕ). IsLearnt p.plan facts m q.0) now_is q.1), q.2))
learn_fails fault.OutOfMemory known mid seen at epoch last now p o own first new consumed own_is stands hears now_is many =
    if_any known (λ input. LearnAnswers at epoch input [] OutOfMemory) (λ input. refl)

-- ---- where there is none

rest_learns : (s : Status) (at epoch : ℕ) (input : List ℕ) (p : PlanOf) (n : ℕ) → PlanText input p n → EndsRecords s → StopsRest n (drop n input) s → LearnAnswers at epoch input [] s
rest_learns (Input place fault) at epoch input p n plan_is ends stops = (refl, ends, record { plan = p; n = n; plan_is = plan_is; breaks = stops })
rest_learns OutOfMemory at epoch input p n plan_is ends stops = refl
rest_learns ReadFault at epoch input p n plan_is ends stops = refl
rest_learns Done at epoch input p n plan_is ends stops = absurd ends
rest_learns Usage at epoch input p n plan_is ends stops = absurd ends
rest_learns DiskFault at epoch input p n plan_is ends stops = absurd ends
rest_learns (NotAJournal file at') at epoch input p n plan_is ends stops = absurd ends
rest_learns (PlanDiffers name) at epoch input p n plan_is ends stops = absurd ends
rest_learns (Full size) at epoch input p n plan_is ends stops = absurd ends
rest_learns Worn at epoch input p n plan_is ends stops = absurd ends
rest_learns TooMany at epoch input p n plan_is ends stops = absurd ends
rest_learns WriteFault at epoch input p n plan_is ends stops = absurd ends
rest_learns (Plan line kind) at epoch input p n plan_is ends stops = absurd ends

-- the records stop
pub rest_stops : (known mid : Option (List ℕ)) (seen : List ℕ) (at epoch : ℕ) (p : Opened) (o : Opens seen p) (s : Status) → Consumes known mid seen
    → EndsRecords s → IfSome mid (λ tail. StopsRest p.feed.before (p.feed.left ++ tail) s) → IfSome known (λ input. LearnAnswers at epoch input [] s)
rest_stops known mid seen at epoch p o s consumed ends stops =
    lifted known mid seen p o (λ n octets. StopsRest n octets s) (λ input. LearnAnswers at epoch input [] s) consumed stops (λ input plan_is h. rest_learns s at epoch input p.plan o.n plan_is ends h)

-- the plan stops
pub plan_learns : (s : Status) (at epoch : ℕ) (input : List ℕ) → EndsPlan s → StopsPlan input s → LearnAnswers at epoch input [] s
plan_learns OutOfMemory at epoch input ends stops = refl
plan_learns ReadFault at epoch input ends stops = refl
plan_learns (Plan line k) at epoch input ends stops = (refl, stops)
plan_learns Done at epoch input ends stops = absurd ends
plan_learns Usage at epoch input ends stops = absurd ends
plan_learns DiskFault at epoch input ends stops = absurd ends
plan_learns (NotAJournal file at') at epoch input ends stops = absurd ends
plan_learns (PlanDiffers name) at epoch input ends stops = absurd ends
plan_learns (Full size) at epoch input ends stops = absurd ends
plan_learns Worn at epoch input ends stops = absurd ends
plan_learns TooMany at epoch input ends stops = absurd ends
plan_learns WriteFault at epoch input ends stops = absurd ends
plan_learns (Input place fault) at epoch input ends stops = absurd ends
