-- What a hub lists behind a plan is the text for the whole input.
use Rattle.std.proofs.Common.{◌≡◌, ◌≢◌, ℕ, ◌+◌, ◌<◌, ◌≤◌, ◌^◌, max, List, [], ◌∷◌, ◌++◌, length, drop, Option, None, Result, Ok, Err, refl, sym, ap, subst, ◌∙◌, append_assoc, arith}
use Rattle.std.specs.Prelude.{IfSome, OnOk, OnErr, IfErr}
use Rattle.std.specs.Io.KnownBytes.{Consumes, IsAtEnd}
use Rattle.dur_outside.specs.World.{Image}
use Rattle.dur_outside.specs.Causes.{Rose}
use Rattle.dur_capture.specs.Feeding.{Feeding}
use Rattle.dur_qos.specs.declared.plan.Plan.{Plan as PlanOf}
use Rattle.dur_qos.specs.declared.plan.Topic.{Topic}
use Rattle.dur_qos.specs.Good.{GoodPlan}
use Rattle.dur_qos.specs.Text.{PlanText}
use Rattle.dur_qos.proofs.Goods.{text_good}
use Rattle.dur_view.specs.declared.change.Change.{Change}
use Rattle.dur_view.specs.Full.{blank}
use Rattle.dur_hub.specs.declared.hub.Hub.{Hub}
use Rattle.dur_hub.specs.Runs.{Run, opening}
use Rattle.dur_hub.specs.Legal.{run_after}
use Rattle.dur_hub.specs.Replays.{listing}
use Rattle.dur_hub.specs.Hubs.{Stands}
use Rattle.dur_rerun.specs.declared.input.plan.Opened.{Opened}
use Rattle.dur_rerun.specs.declared.status.Status.{Status}
use Rattle.dur_rerun.specs.declared.status.Status.TheVariants.{Done, Usage, OutOfMemory, Input, ReadFault, WriteFault, Plan, DiskFault, NotAJournal, PlanDiffers, Full, Worn, TooMany}
use Rattle.dur_rerun.specs.Admission.{BringAll}
use Rattle.dur_rerun.specs.Command.{HasReason, GoesOut, status_of}
use Rattle.dur_rerun.specs.Saying.{IsSaid, wrote}
use Rattle.dur_rerun.specs.Input.Breaks.{EndsPlan, StopsPlan, EndsRecords, StopsRest}
use Rattle.dur_rerun.specs.Input.Plan.{Opens}
use Rattle.dur_rerun.specs.Input.Prefix.{own_prefix}
use Rattle.dur_rerun.specs.List.Line.{topic_text}
use Rattle.dur_rerun.specs.Input.Records.{latest}
use Rattle.dur_rerun.specs.List.Listing.{lines_from, list_text, IsListing}
use Rattle.dur_rerun.specs.List.History.{TakesWhole}
use Rattle.dur_rerun.specs.List.Answer.{Lists, ListAnswers, ListEnds, EndsUnwritten}
use Rattle.dur_rerun.proofs.Admitting.{calls_keep}
use Rattle.dur_rerun.proofs.Commands.{if_some, all_out}
use Rattle.dur_rerun.proofs.Opened.{plan_good, lifted}

-- ---- the text of a hub

-- one topic more
pub lines_next : (run : Run) (now place : ℕ) (t : Topic) (ts : List Topic) (out new all : List ℕ) (changes : List Change) → changes ≡ listing run place now → new ≡ out ++ topic_text t.name changes
    → out ++ lines_from run now place (t ∷ ts) ≡ all → new ++ lines_from run now (place + 1) ts ≡ all
lines_next run now place t ts out new all changes listed step sofar =
    let here : new ≡ out ++ topic_text t.name (listing run place now) = step ∙ ap (λ (c : List Change). out ++ topic_text t.name c) listed in
    ap (λ (l : List ℕ). l ++ lines_from run now (place + 1) ts) here ∙ append_assoc out (topic_text t.name (listing run place now)) (lines_from run now (place + 1) ts) ∙ sofar

pub within_topics : (place n all : ℕ) (topics others : List Topic) → place + n ≡ length topics → 0 < n → topics ≡ others → place < length others
within_topics place n all topics others sum some same = omega (arith, sum, some, ap length same)

-- ---- the plan in front

pub few_topics : (seen : List ℕ) (p : Opened) (topics : List Topic) → Opens seen p → topics ≡ p.plan.topics → length topics ≤ 1024
few_topics seen p topics o same = omega (arith, (plan_good seen p o).topic_count, ap length same)

-- ---- the listing

latest_is : (moment now latest : ℕ) → moment ≡ 0 → now ≡ max moment latest → now ≡ latest
latest_is moment now latest first is = omega (arith, first, is)

-- the hub was called for each record behind the plan, and this is its text
pub lists : (known mid : Option (List ℕ)) (seen : List ℕ) (at epoch : ℕ) (p : Opened) (o : Opens seen p) (own : List ℕ) (topics : List Topic) (first hub : Hub) (text : List ℕ) → Consumes known mid seen
    → own ≡ own_prefix epoch p.plan → topics ≡ p.plan.topics → Stands (opening p.plan (blank p.plan) 0) [] first → IfSome mid (λ tail. TakesWhole own p.feed.before (p.feed.left ++ tail) first hub)
    → IsListing hub topics at text → IfSome known (λ input. Lists at epoch input text)
lists known mid seen at epoch p o own topics first hub text consumed own_is topics_are stands takes text_is =
    lifted known mid seen p o (λ n octets. TakesWhole own n octets first hub) (λ input. Lists at epoch input text) consumed takes (λ input plan_is t.
    let start : Run = opening p.plan (blank p.plan) 0 in
    let now : Stands start t.calls hub = t.adds start stands in
    let kept = calls_keep own t.records t.calls start t.brings in
    let said : text ≡ list_text (run_after start t.calls) (max at (run_after start t.calls).moment) = text_is start t.calls now (topics_are ∙ sym (ap (λ (q : PlanOf). q.topics) kept.0)) in
    let late : (run_after start t.calls).moment ≡ latest t.records = latest_is start.moment (run_after start t.calls).moment (latest t.records) refl kept.1 in
    record {
      plan = p.plan;
      n = o.n;
      plan_is = plan_is;
      records = t.records;
      capture = t.capture;
      run = run_after start t.calls;
      admits = record { calls = t.calls; brings = subst (λ (x : List ℕ). BringAll x t.records t.calls) own_is t.brings; legal = now.legal; leads = refl };
      text_is = said ∙ ap (λ (m : ℕ). list_text (run_after start t.calls) (max at m)) late;
    })

-- ---- where there is none

rest_answers : (s : Status) (at epoch : ℕ) (input : List ℕ) (p : PlanOf) (n : ℕ) → PlanText input p n → EndsRecords s → StopsRest n (drop n input) s → ListAnswers at epoch input [] s
rest_answers (Input place fault) at epoch input p n plan_is ends stops = (refl, ends, record { plan = p; n = n; plan_is = plan_is; breaks = stops })
rest_answers OutOfMemory at epoch input p n plan_is ends stops = refl
rest_answers ReadFault at epoch input p n plan_is ends stops = refl
rest_answers Done at epoch input p n plan_is ends stops = absurd ends
rest_answers Usage at epoch input p n plan_is ends stops = absurd ends
rest_answers DiskFault at epoch input p n plan_is ends stops = absurd ends
rest_answers (NotAJournal file at') at epoch input p n plan_is ends stops = absurd ends
rest_answers (PlanDiffers name) at epoch input p n plan_is ends stops = absurd ends
rest_answers (Full size) at epoch input p n plan_is ends stops = absurd ends
rest_answers Worn at epoch input p n plan_is ends stops = absurd ends
rest_answers TooMany at epoch input p n plan_is ends stops = absurd ends
rest_answers WriteFault at epoch input p n plan_is ends stops = absurd ends
rest_answers (Plan line kind) at epoch input p n plan_is ends stops = absurd ends

-- the records stop
pub rest_stops : (known mid : Option (List ℕ)) (seen : List ℕ) (at epoch : ℕ) (p : Opened) (o : Opens seen p) (s : Status) → Consumes known mid seen
    → EndsRecords s → IfSome mid (λ tail. StopsRest p.feed.before (p.feed.left ++ tail) s) → IfSome known (λ input. ListAnswers at epoch input [] s)
rest_stops known mid seen at epoch p o s consumed ends stops =
    lifted known mid seen p o (λ n octets. StopsRest n octets s) (λ input. ListAnswers at epoch input [] s) consumed stops (λ input plan_is h. rest_answers s at epoch input p.plan o.n plan_is ends h)

-- the plan stops
pub plan_lists : (s : Status) (at epoch : ℕ) (input : List ℕ) → EndsPlan s → StopsPlan input s → ListAnswers at epoch input [] s
plan_lists OutOfMemory at epoch input ends stops = refl
plan_lists ReadFault at epoch input ends stops = refl
plan_lists (Plan line k) at epoch input ends stops = (refl, stops)
plan_lists Done at epoch input ends stops = absurd ends
plan_lists Usage at epoch input ends stops = absurd ends
plan_lists DiskFault at epoch input ends stops = absurd ends
plan_lists (NotAJournal file at') at epoch input ends stops = absurd ends
plan_lists (PlanDiffers name) at epoch input ends stops = absurd ends
plan_lists (Full size) at epoch input ends stops = absurd ends
plan_lists Worn at epoch input ends stops = absurd ends
plan_lists TooMany at epoch input ends stops = absurd ends
plan_lists WriteFault at epoch input ends stops = absurd ends
plan_lists (Input place fault) at epoch input ends stops = absurd ends

-- ---- the statuses with which nothing was written

pub plan_unwritten : (s : Status) → EndsPlan s → EndsUnwritten s
plan_unwritten OutOfMemory ends = tt
plan_unwritten ReadFault ends = tt
plan_unwritten (Plan line k) ends = ends
plan_unwritten Done ends = absurd ends
plan_unwritten Usage ends = absurd ends
plan_unwritten DiskFault ends = absurd ends
plan_unwritten (NotAJournal file at') ends = absurd ends
plan_unwritten (PlanDiffers name) ends = absurd ends
plan_unwritten (Full size) ends = absurd ends
plan_unwritten Worn ends = absurd ends
plan_unwritten TooMany ends = absurd ends
plan_unwritten WriteFault ends = absurd ends
plan_unwritten (Input place fault) ends = absurd ends

pub records_unwritten : (s : Status) → EndsRecords s → EndsUnwritten s
records_unwritten OutOfMemory ends = tt
records_unwritten ReadFault ends = tt
records_unwritten (Input place fault) ends = ends
records_unwritten Done ends = absurd ends
records_unwritten Usage ends = absurd ends
records_unwritten DiskFault ends = absurd ends
records_unwritten (NotAJournal file at') ends = absurd ends
records_unwritten (PlanDiffers name) ends = absurd ends
records_unwritten (Full size) ends = absurd ends
records_unwritten Worn ends = absurd ends
records_unwritten TooMany ends = absurd ends
records_unwritten WriteFault ends = absurd ends
records_unwritten (Plan line kind) ends = absurd ends

pub unwritten_ends : (s : Status) → EndsUnwritten s → ListEnds s
unwritten_ends OutOfMemory ends = tt
unwritten_ends ReadFault ends = tt
unwritten_ends (Input place fault) ends = ends
unwritten_ends (Plan line k) ends = ends
unwritten_ends Done ends = absurd ends
unwritten_ends Usage ends = absurd ends
unwritten_ends DiskFault ends = absurd ends
unwritten_ends (NotAJournal file at') ends = absurd ends
unwritten_ends (PlanDiffers name) ends = absurd ends
unwritten_ends (Full size) ends = absurd ends
unwritten_ends Worn ends = absurd ends
unwritten_ends TooMany ends = absurd ends
unwritten_ends WriteFault ends = absurd ends

-- ---- the text goes out

not_nothing : (text : List ℕ) → 0 < length text → text ≢ []
not_nothing text some none = absurd (omega (arith, some, ap length none))

-- what was written of it
pub text_out : (result : Result (Unit {0}) Status) (known : Option (List ℕ)) (at epoch : ℕ) (text : List ℕ) (tells : Type 0) (old new : Image) → IfSome known (λ input. Lists at epoch input text)
    → (tells → OnOk result (new ≡ wrote text old)) → (tells → IsSaid text old new) → OnErr result (0 < length text) → IfErr result (λ s. s ≡ WriteFault) → IfSome known (λ input. GoesOut (ListAnswers at epoch) input (status_of result) tells old new)
text_out (Ok done) known at epoch text tells old new lists all some more fault =
    if_some known (λ input. Lists at epoch input text) (λ input. GoesOut (ListAnswers at epoch) input Done tells old new) (λ input l. all_out (ListAnswers at epoch) input text Done tells old new l all) lists
text_out (Err s) known at epoch text tells old new lists all some more fault =
    if_some known (λ input. Lists at epoch input text) (λ input. GoesOut (ListAnswers at epoch) input s tells old new) (λ input l.
    subst (λ (x : Status). GoesOut (ListAnswers at epoch) input x tells old new) (sym fault) (record {
      text = text;
      answers = (not_nothing text more, l);
      all = λ cut t. absurd cut;
      front = some;
    })) lists

pub text_reason : (result : Result (Unit {0}) Status) (left : Option (List ℕ)) (read read_now written written_now : ℕ) → IsAtEnd left → IfErr result (λ s. s ≡ WriteFault) → OnErr result (Rose written written_now)
    → HasReason ListEnds (status_of result) left read read_now written written_now
text_reason (Ok done) left read read_now written written_now end fault rose = record { ends = tt; done = λ is. end; read = λ is. absurd cc; write = λ is. absurd cc }
text_reason (Err s) left read read_now written written_now end fault rose = record {
  ends = subst ListEnds (sym fault) tt;
  done = λ is. end;
  read = λ is. let both : WriteFault ≡ ReadFault = sym fault ∙ is in absurd cc;
  write = λ is. rose;
}
