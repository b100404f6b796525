-- How a run of `late` ends.
use Rattle.std.proofs.Common.{◌≡◌, ◌≤◌, inl, inr, ℕ, Bool, true, false, List, [], ◌++◌, length, Option, Result, Ok, Err, refl, sym, ap, subst, ◌∙◌, arith, append-nil}
use Rattle.std.specs.Prelude.{OnOk}
use Rattle.std.proofs.lemmas.List.{append_cancel_left}
use Rattle.dur_outside.specs.World.{Image}
use Rattle.dur_outside.specs.Causes.{HasCause}
use Rattle.dur_outside.specs.declared.values.Failed.{Failed}
use Rattle.rel_writer.specs.declared.late.LateReader.{LateReader}
use Rattle.rel_writer.specs.LateReaders.{Late}
use Rattle.rel_writer.specs.Sets.{any_marker}
use Rattle.dur_rerun.specs.Saying.{IsSaid, wrote}
use Rattle.dur_rerun.specs.Late.Turns.{Turn, TakesAll, answers}
use Rattle.dur_rerun.specs.Late.Line.{late_text}
use Rattle.dur_rerun.specs.Late.Answer.{EndsBy, AreCut, TakesTurns, PrintsTaken, IsCaused, IsComplete}
use Rattle.dur_rerun.specs.Late.Steps.{CutBy, Finishes, ended_as, GoesTo, StopsIn}
use Rattle.dur_rerun.specs.declared.late.status.LateStatus.{LateStatus}
use Rattle.dur_rerun.specs.declared.late.status.LateStatus.TheVariants.{Done, Usage, OutOfMemory, WriteFault, LinkFault, Unfinished}
use Rattle.dur_rerun.proofs.Commands.{wrote_nothing}
use Rattle.dur_rerun.proofs.TurnLaws.{go_one_way, ends_before}

-- ---- the lines

pub finishes_so : (l : Late) (done : Bool) (said : Result (Unit {0}) Failed) (writes writes_now : ℕ) → done ≡ any_marker l.handled → HasCause writes writes_now said → Finishes l (ended_as done said) writes writes_now
finishes_so l false said writes writes_now is cause = sym is
finishes_so l true (Ok all) writes writes_now is cause = sym is
finishes_so l true (Err failed) writes writes_now is cause = (sym is, cause.failed)

pub prints_so : (l : Late) (text : List ℕ) (done : Bool) (said : Result (Unit {0}) Failed) (tells : Type 0) (old new : Image) (writes writes_now : ℕ) → text ≡ late_text l → (tells → OnOk said (new ≡ wrote text old)) → (tells → IsSaid text old new) → HasCause writes writes_now said
    → PrintsTaken l (ended_as done said) tells old new writes writes_now
prints_so l text false (Ok all) tells old new writes writes_now is whole front cause = record {
  done = λ no. absurd cc;
  unfinished = λ yes none t. whole t ∙ ap (λ (x : List ℕ). wrote x old) is;
  front = λ t. subst (λ (x : List ℕ). IsSaid x old new) is (front t);
}
prints_so l text false (Err failed) tells old new writes writes_now is whole front cause = record {
  done = λ no. absurd cc;
  unfinished = λ yes none t. absurd (none cause.failed);
  front = λ t. subst (λ (x : List ℕ). IsSaid x old new) is (front t);
}
prints_so l text true (Ok all) tells old new writes writes_now is whole front cause = record {
  done = λ yes t. whole t ∙ ap (λ (x : List ℕ). wrote x old) is;
  unfinished = λ no. absurd cc;
  front = λ t. subst (λ (x : List ℕ). IsSaid x old new) is (front t);
}
prints_so l text true (Err failed) tells old new writes writes_now is whole front cause = record {
  done = λ no. absurd cc;
  unfinished = λ no. absurd cc;
  front = λ t. subst (λ (x : List ℕ). IsSaid x old new) is (front t);
}

nothing_said : (l : Late) (now : Image) → IsSaid (late_text l) now now
nothing_said l now = record { count = 0; written = wrote_nothing now }

pub prints_none : (l : Late) (tells : Type 0) (now : Image) (writes writes_now : ℕ) → PrintsTaken l OutOfMemory tells now now writes writes_now
prints_none l tells now writes writes_now = record {
  done = λ no. absurd cc;
  unfinished = λ no. absurd cc;
  front = λ t. nothing_said l now;
}

pub prints_cut : (l : Late) (s : LateStatus) (tells : Type 0) (now : Image) (links links_now writes writes_now : ℕ) → CutBy s links links_now → PrintsTaken l s tells now now writes writes_now
prints_cut l s tells now links links_now writes writes_now by = record {
  done = λ is. absurd (subst (λ (x : LateStatus). CutBy x links links_now) is by);
  unfinished = λ is. absurd (subst (λ (x : LateStatus). CutBy x links links_now) is by);
  front = λ t. nothing_said l now;
}

-- ---- the turns

ends_so : (s : LateStatus) (l : Late) (ts : List Turn) (turns writes writes_now : ℕ) → Finishes l s writes writes_now → (any_marker l.handled ≡ false → length ts ≡ turns) → EndsBy turns s ts l
ends_so Done l ts turns writes writes_now f all = f
ends_so Usage l ts turns writes writes_now f all = absurd f
ends_so OutOfMemory l ts turns writes writes_now f all = tt
ends_so WriteFault l ts turns writes writes_now f all = f.0
ends_so LinkFault l ts turns writes writes_now f all = absurd f
ends_so Unfinished l ts turns writes writes_now f all = (all f, f)

none_cut : (s : LateStatus) (l : Late) (writes writes_now : ℕ) → Finishes l s writes writes_now → AreCut s []
none_cut Done l writes writes_now f = refl
none_cut Usage l writes writes_now f = absurd f
none_cut OutOfMemory l writes writes_now f = omega arith
none_cut WriteFault l writes writes_now f = refl
none_cut LinkFault l writes writes_now f = omega arith
none_cut Unfinished l writes writes_now f = refl

pub took_all : (first : Late) (turns : ℕ) (s : LateStatus) (r : LateReader) (tells : Type 0) (heard heard_now : List (Option (List ℕ))) (sent sent_now : List (List ℕ)) (writes writes_now : ℕ)
    → (g : GoesTo first turns r tells heard heard_now sent sent_now) → Finishes g.after s writes writes_now → TakesTurns first turns s tells heard heard_now sent sent_now g.after
took_all first turns s r tells heard heard_now sent sent_now writes writes_now g f = record {
  ts = g.went.ts;
  takes = g.went.takes;
  cut = [];
  cut_is = none_cut s g.after writes writes_now f;
  within = omega (arith, g.went.count_is, g.within);
  ends = ends_so s g.after g.went.ts turns writes writes_now f (λ no. g.went.count_is ∙ g.ends no);
  heard_is = λ t. g.went.heard_is t ∙ ap (λ (a : List (Option (List ℕ))). heard ++ a) (sym (append-nil (answers g.went.ts)));
  sent_is = g.went.sent_is;
  in_time = λ is service ids changes fits begins over.
      let no : any_marker g.after.handled ≡ false = subst (λ (x : LateStatus). Finishes g.after x writes writes_now) is f in
      let fewer = ends_before service ids changes g.went.ts g.after fits over (subst (λ (l : Late). TakesAll l g.went.ts g.after) begins g.went.takes) no in
      omega (arith, fewer, g.went.count_is, g.ends no);
}

few_cut : (s : LateStatus) (cut : List (Option (List ℕ))) (links links_now : ℕ) → CutBy s links links_now → length cut ≤ 1 → AreCut s cut
few_cut Done cut links links_now by short = absurd by
few_cut Usage cut links links_now by short = absurd by
few_cut OutOfMemory cut links links_now by short = short
few_cut WriteFault cut links links_now by short = absurd by
few_cut LinkFault cut links links_now by short = short
few_cut Unfinished cut links links_now by short = absurd by

cut_ends : (s : LateStatus) (l : Late) (ts : List Turn) (turns links links_now : ℕ) → CutBy s links links_now → any_marker l.handled ≡ false → EndsBy turns s ts l
cut_ends Done l ts turns links links_now by off = absurd by
cut_ends Usage l ts turns links links_now by off = absurd by
cut_ends OutOfMemory l ts turns links links_now by off = tt
cut_ends WriteFault l ts turns links links_now by off = absurd by
cut_ends LinkFault l ts turns links links_now by off = off
cut_ends Unfinished l ts turns links links_now by off = absurd by

pub took_some : (first : Late) (turns : ℕ) (s : LateStatus) (tells : Type 0) (heard heard_now : List (Option (List ℕ))) (sent sent_now : List (List ℕ)) (links links_now : ℕ)
    → (g : StopsIn first turns tells heard heard_now sent sent_now) → CutBy s links links_now → TakesTurns first turns s tells heard heard_now sent sent_now g.after
took_some first turns s tells heard heard_now sent sent_now links links_now g by = record {
  ts = g.ts;
  takes = g.takes;
  cut = g.cut;
  cut_is = few_cut s g.cut links links_now by g.short;
  within = g.within;
  ends = cut_ends s g.after g.ts turns links links_now by g.not_done;
  heard_is = g.heard_is;
  sent_is = g.sent_is;
  in_time = λ is. absurd (subst (λ (x : LateStatus). CutBy x links links_now) is by);
}

pub took_none : (first : Late) (turns : ℕ) (tells : Type 0) (heard : List (Option (List ℕ))) (sent : List (List ℕ)) → TakesTurns first turns OutOfMemory tells heard heard sent sent first
took_none first turns tells heard sent = record {
  ts = [];
  takes = refl;
  cut = [];
  cut_is = omega arith;
  within = omega arith;
  ends = tt;
  heard_is = λ t. sym (append-nil heard);
  sent_is = λ t. sym (append-nil sent);
  in_time = λ is. absurd cc;
}

-- ---- why it ended

pub caused_all : (l : Late) (s : LateStatus) (links links_now writes writes_now : ℕ) → Finishes l s writes writes_now → IsCaused s links links_now writes writes_now
caused_all l s links links_now writes writes_now f = record {
  link = λ is. absurd (subst (λ (x : LateStatus). Finishes l x writes writes_now) is f);
  write = λ is. (subst (λ (x : LateStatus). Finishes l x writes writes_now) is f).1;
}

pub caused_some : (s : LateStatus) (links links_now writes writes_now : ℕ) → CutBy s links links_now → IsCaused s links links_now writes writes_now
caused_some s links links_now writes writes_now by = record {
  link = λ is. subst (λ (x : LateStatus). CutBy x links links_now) is by;
  write = λ is. absurd (subst (λ (x : LateStatus). CutBy x links links_now) is by);
}

pub caused_none : (links links_now writes writes_now : ℕ) → IsCaused OutOfMemory links links_now writes writes_now
caused_none links links_now writes writes_now = record { link = λ is. absurd cc; write = λ is. absurd cc }

pub completes : (s : LateStatus) (first : Late) (turns : ℕ) (tells : Type 0) (heard heard_now : List (Option (List ℕ))) (sent sent_now : List (List ℕ)) (l : Late) (links links_now writes writes_now : ℕ)
    → TakesTurns first turns s tells heard heard_now sent sent_now l → IsCaused s links links_now writes writes_now → tells → IsComplete first s heard heard_now links links_now writes writes_now
completes Done first turns tells heard heard_now sent sent_now l links links_now writes writes_now t cause told ts late takes is done link write = inl refl
completes Usage first turns tells heard heard_now sent sent_now l links links_now writes writes_now t cause told ts late takes is done link write = absurd t.ends
completes OutOfMemory first turns tells heard heard_now sent sent_now l links links_now writes writes_now t cause told ts late takes is done link write = inr refl
completes WriteFault first turns tells heard heard_now sent sent_now l links links_now writes writes_now t cause told ts late takes is done link write = absurd (write (cause.write refl))
completes LinkFault first turns tells heard heard_now sent sent_now l links links_now writes writes_now t cause told ts late takes is done link write = absurd (link (cause.link refl))
completes Unfinished first turns tells heard heard_now sent sent_now l links links_now writes writes_now t cause told ts late takes is done link write =
    let none : t.cut ≡ [] = t.cut_is in
    let mine = t.heard_is told ∙ ap (λ (c : List (Option (List ℕ))). heard ++ (answers t.ts ++ c)) none ∙ ap (λ (a : List (Option (List ℕ))). heard ++ a) (append-nil (answers t.ts)) in
    let same = go_one_way first t.ts ts l late t.takes takes (append_cancel_left heard (answers t.ts) (answers ts) (sym mine ∙ is)) in
    let both : false ≡ true = sym t.ends.1 ∙ ap (λ (x : Late). any_marker x.handled) same.1 ∙ done in
    absurd cc
