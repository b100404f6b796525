-- What holds of the octets behind a plan holds of the whole input.
use Rattle.std.proofs.Common.{◌≡◌, ℕ, List, [], ◌++◌, drop, Option, Some, None, refl, sym, ap, subst, ◌∙◌, append_assoc, length-append, arith, inl, inr}
use Rattle.std.specs.Prelude.{IfSome}
use Rattle.std.specs.Io.KnownBytes.{Consumes}
use Rattle.std.specs.List.{flat_map}
use Rattle.std.proofs.lemmas.List.{drop-append-le}
use Rattle.dur_outside.specs.World.{Image}
use Rattle.dur_capture.specs.Feeding.{Feeding}
use Rattle.dur_qos.specs.declared.plan.Plan.{Plan as PlanOf}
use Rattle.dur_qos.specs.Text.{PlanText, line_text}
use Rattle.dur_rerun.specs.declared.input.plan.Opened.{Opened}
use Rattle.dur_rerun.specs.declared.show.printer.Printer.{Printer}
use Rattle.dur_rerun.specs.declared.status.Status.{Status}
use Rattle.dur_rerun.specs.declared.status.Status.TheVariants.{Done, Usage, OutOfMemory, Input, ReadFault, WriteFault, Plan, DiskFault, NotAJournal, PlanDiffers, Full, Worn, TooMany}
use Rattle.dur_rerun.specs.Command.{GoesOut}
use Rattle.dur_rerun.specs.Input.Breaks.{EndsPlan, StopsPlan}
use Rattle.dur_rerun.specs.Input.Plan.{Opens}
use Rattle.dur_rerun.specs.Input.Prefix.{own_prefix}
use Rattle.dur_rerun.specs.Show.Answer.{ShowsBehind, ShowAnswers, ShowEnds}
use Rattle.dur_rerun.specs.Show.Printing.{ShowsRest, EndsRest, IsFresh}

-- what follows a plan does not change it
pub plan_more : (seen more : List ℕ) (plan : PlanOf) (n : ℕ) → PlanText seen plan n → PlanText (seen ++ more) plan n
plan_more seen more plan n t = record {
  count = t.count;
  before = t.before;
  last = t.last;
  more = t.more ++ more;
  lines = record {
    lines = t.lines.lines;
    parts = ap (λ (x : List ℕ). x ++ more) t.lines.parts ∙ append_assoc (flat_map line_text t.lines.lines) (line_text t.last ++ t.more) more
        ∙ ap (λ (x : List ℕ). flat_map line_text t.lines.lines ++ x) (append_assoc (line_text t.last) t.more more);
    goes = t.lines.goes;
    count_is = t.lines.count_is;
  };
  feed = t.feed;
  short = t.short;
  says = t.says;
  size = omega (arith, t.size, length-append t.more more, length-append seen more);
}

pub behind_plan : (seen more : List ℕ) (plan : PlanOf) (n : ℕ) → PlanText seen plan n → drop n seen ++ more ≡ drop n (seen ++ more)
behind_plan seen more plan n t = sym (drop-append-le n seen more (omega (arith, t.size)))

pub behind : (known mid : Option (List ℕ)) (seen : List ℕ) (P Q : List ℕ → Type 0) → Consumes known mid seen → IfSome mid Q → ((tail : List ℕ) → Q tail → P (seen ++ tail)) → IfSome known P
behind None mid seen P Q consumed holds leads = tt
behind (Some all) None seen P Q consumed holds leads = absurd consumed
behind (Some all) (Some tail) seen P Q consumed holds leads = subst P (sym consumed) (leads tail holds)

-- ---- what is printed

-- the answer behind the plan is that of the input
shows_behind : (s : Status) (epoch : ℕ) (input text : List ℕ) → ShowsBehind epoch input text s → ShowAnswers epoch input text s
shows_behind Done epoch input text h = h
shows_behind Usage epoch input text h = h
shows_behind DiskFault epoch input text h = h
shows_behind (NotAJournal file at') epoch input text h = h
shows_behind (PlanDiffers name) epoch input text h = h
shows_behind (Full size) epoch input text h = h
shows_behind Worn epoch input text h = h
shows_behind TooMany epoch input text h = h
shows_behind OutOfMemory epoch input text h = inr h
shows_behind (Input place fault) epoch input text h = h
shows_behind ReadFault epoch input text h = inr h
shows_behind WriteFault epoch input text h = h
shows_behind (Plan line k) epoch input text h = absurd h.rest

pub fresh_behind : (seen : List ℕ) (p : Opened) (o : Opens seen p) (q : Printer) → q.feed ≡ p.feed → (q.count ≡ 0) × (q.held.items ≡ []) → IsFresh q
fresh_behind seen p o q feed none =
    let is = feed ∙ o.feed_is in
    let before : q.feed.before ≡ o.n = ap (λ (f : Feeding). f.before) is in
    record {
      count = none.0;
      held = none.1;
      taken = ap (λ (f : Feeding). f.taken) is;
      sound = ap (λ (f : Feeding). f.fault) is;
      within = omega (arith, before, o.within);
    }

-- what went out for the octets behind the plan went out for the input
pub rest_out : (known mid : Option (List ℕ)) (seen : List ℕ) (epoch : ℕ) (p : Opened) (o : Opens seen p) (q : Printer) (s : Status) (tells : Type 0) (old new : Image) → Consumes known mid seen → q.own ≡ own_prefix epoch p.plan → q.feed ≡ p.feed
    → IfSome mid (λ tail. GoesOut (ShowsRest q.own q.feed.before) (q.feed.left ++ tail) s tells old new) → IfSome known (λ input. GoesOut (ShowAnswers epoch) input s tells old new)
rest_out known mid seen epoch p o q s tells old new consumed own_is feed out =
    behind known mid seen (λ input. GoesOut (ShowAnswers epoch) input s tells old new) (λ tail. GoesOut (ShowsRest q.own q.feed.before) (q.feed.left ++ tail) s tells old new) consumed out (λ tail g.
    let is = feed ∙ o.feed_is in
    let octets : q.feed.left ++ tail ≡ drop o.n (seen ++ tail) = ap (λ (f : Feeding). f.left ++ tail) is ∙ behind_plan seen tail p.plan o.n o.plan_is in
    record {
      text = g.text;
      answers = shows_behind s epoch (seen ++ tail) g.text (record {
        plan = p.plan;
        n = o.n;
        plan_is = plan_more seen tail p.plan o.n o.plan_is;
        rest = subst (λ (x : List ℕ). ShowsRest (own_prefix epoch p.plan) o.n x g.text s) octets
            (subst (λ (m : ℕ). ShowsRest (own_prefix epoch p.plan) m (q.feed.left ++ tail) g.text s) (ap (λ (f : Feeding). f.before) is)
            (subst (λ (w : List ℕ). ShowsRest w q.feed.before (q.feed.left ++ tail) g.text s) own_is g.answers));
      });
      all = g.all;
      front = g.front;
    })

-- ---- where no plan is read

pub plan_shows : (s : Status) (epoch : ℕ) (input : List ℕ) → EndsPlan s → StopsPlan input s → ShowAnswers epoch input [] s
plan_shows OutOfMemory epoch input ends stops = inl refl
plan_shows ReadFault epoch input ends stops = inl refl
plan_shows (Plan line k) epoch input ends stops = (refl, stops)
plan_shows Done epoch input ends stops = absurd ends
plan_shows Usage epoch input ends stops = absurd ends
plan_shows DiskFault epoch input ends stops = absurd ends
plan_shows (NotAJournal file at') epoch input ends stops = absurd ends
plan_shows (PlanDiffers name) epoch input ends stops = absurd ends
plan_shows (Full size) epoch input ends stops = absurd ends
plan_shows Worn epoch input ends stops = absurd ends
plan_shows TooMany epoch input ends stops = absurd ends
plan_shows WriteFault epoch input ends stops = absurd ends
plan_shows (Input place fault) epoch input ends stops = absurd ends

pub plan_show_ends : (s : Status) → EndsPlan s → ShowEnds s
plan_show_ends OutOfMemory ends = tt
plan_show_ends ReadFault ends = tt
plan_show_ends (Plan line k) ends = ends
plan_show_ends Done ends = absurd ends
plan_show_ends Usage ends = absurd ends
plan_show_ends DiskFault ends = absurd ends
plan_show_ends (NotAJournal file at') ends = absurd ends
plan_show_ends (PlanDiffers name) ends = absurd ends
plan_show_ends (Full size) ends = absurd ends
plan_show_ends Worn ends = absurd ends
plan_show_ends TooMany ends = absurd ends
plan_show_ends WriteFault ends = absurd ends
plan_show_ends (Input place fault) ends = absurd ends

pub rest_show_ends : (s : Status) → EndsRest s → ShowEnds s
rest_show_ends Done ends = tt
rest_show_ends OutOfMemory ends = tt
rest_show_ends ReadFault ends = tt
rest_show_ends WriteFault ends = tt
rest_show_ends (Input place fault) ends = ends
rest_show_ends Usage ends = absurd ends
rest_show_ends DiskFault ends = absurd ends
rest_show_ends (NotAJournal file at') ends = absurd ends
rest_show_ends (PlanDiffers name) ends = absurd ends
rest_show_ends (Full size) ends = absurd ends
rest_show_ends Worn ends = absurd ends
rest_show_ends TooMany ends = absurd ends
rest_show_ends (Plan line k) ends = absurd ends
