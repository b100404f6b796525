-- A run over a whole input in which no call fails is complete.
use Rattle.std.proofs.Common.{◌≡◌, ◌⊎◌, inl, inr, ℕ, List, Option, Some, refl, sym, subst}
use Rattle.std.specs.Prelude.{IfSome}
use Rattle.dur_capture.specs.declared.record.Record.{Record}
use Rattle.dur_outside.specs.World.{World}
use Rattle.dur_qos.specs.declared.plan.Plan.{Plan as PlanOf}
use Rattle.dur_journal.specs.declared.opening.OpenFault.{OpenFault}
use Rattle.dur_journal.specs.declared.opening.OpenFault.TheVariants as fault
use Rattle.dur_rerun.specs.declared.status.Status.{Status}
use Rattle.dur_rerun.specs.declared.status.Status.TheVariants.{Done, Usage, OutOfMemory, Input, ReadFault, WriteFault, Plan, DiskFault, NotAJournal, PlanDiffers, Full, Worn, TooMany}
use Rattle.dur_rerun.specs.Input.Breaks.{EndsPlan, StopsPlan}
use Rattle.dur_rerun.specs.Input.Whole.{IsWholeInput}
use Rattle.dur_rerun.specs.Rerun.Answer.{EndsCourse, IsComplete, OpensNot, ReadsBehind, Reruns, RunsOn, open_status}
use Rattle.dur_rerun.proofs.OneInput.{whole_or_break, whole_or_plan_break}

-- faults come only where the counts rose, and they did not
record NoFault (s : Status) : Type 0 where
  read : s ≡ ReadFault → ⊥
  write : s ≡ WriteFault → ⊥
  disk : s ≡ DiskFault → ⊥

plan_complete : (s : Status) (bytes : List ℕ) → IsWholeInput bytes → NoFault s → EndsPlan s → StopsPlan bytes s → IsComplete s
plan_complete (Plan line k) bytes whole none ends stops = absurd (whole_or_plan_break bytes line k whole stops)
plan_complete OutOfMemory bytes whole none ends stops = tt
plan_complete ReadFault bytes whole none ends stops = absurd (none.read refl)
plan_complete Done bytes whole none ends stops = absurd ends
plan_complete Usage bytes whole none ends stops = absurd ends
plan_complete (Input place e) bytes whole none ends stops = absurd ends
plan_complete WriteFault bytes whole none ends stops = absurd ends
plan_complete DiskFault bytes whole none ends stops = absurd ends
plan_complete (NotAJournal file place) bytes whole none ends stops = absurd ends
plan_complete (PlanDiffers name) bytes whole none ends stops = absurd ends
plan_complete (Full size) bytes whole none ends stops = absurd ends
plan_complete Worn bytes whole none ends stops = absurd ends
plan_complete TooMany bytes whole none ends stops = absurd ends

open_complete : (why : OpenFault) → NoFault (open_status why) → IsComplete (open_status why)
open_complete fault.Disk none = absurd (none.disk refl)
open_complete (fault.NotAJournal file at) none = tt
open_complete (fault.PlanDiffers name) none = tt
open_complete fault.Worn none = tt
open_complete (fault.Full size) none = tt
open_complete fault.OutOfMemory none = tt

course_complete : (s : Status) (plan : PlanOf) (bytes : List ℕ) (rs : List Record) → IsWholeInput bytes → NoFault s → EndsCourse s → ReadsBehind plan bytes rs s → IsComplete s
course_complete (Input place e) plan bytes rs whole none ends reads =
    let b = reads.2.1 in
    absurd (whole_or_break bytes e whole (record { plan = plan; n = reads.0; plan_is = reads.1; breaks = record { records = rs; feed = b.feed; feeds = b.feeds; breaks = b.breaks } }))
course_complete Done plan bytes rs whole none ends reads = tt
course_complete OutOfMemory plan bytes rs whole none ends reads = tt
course_complete (Full size) plan bytes rs whole none ends reads = tt
course_complete Worn plan bytes rs whole none ends reads = tt
course_complete TooMany plan bytes rs whole none ends reads = absurd ends
course_complete ReadFault plan bytes rs whole none ends reads = absurd (none.read refl)
course_complete WriteFault plan bytes rs whole none ends reads = absurd (none.write refl)
course_complete DiskFault plan bytes rs whole none ends reads = absurd (none.disk refl)
course_complete Usage plan bytes rs whole none ends reads = absurd ends
course_complete (Plan line k) plan bytes rs whole none ends reads = absurd ends
course_complete (NotAJournal file place) plan bytes rs whole none ends reads = absurd ends
course_complete (PlanDiffers name) plan bytes rs whole none ends reads = absurd ends

does_complete : (s : Status) (p : PlanOf) (tells : Type 0) (w v : World) (bytes : List ℕ) → IsWholeInput bytes → NoFault s
    → OpensNot p s tells w v ⊎ RunsOn p (λ rs. IfSome (Some bytes) (λ input. ReadsBehind p input rs s)) s tells w v → IsComplete s
does_complete s p tells w v bytes whole none (inl o) = subst IsComplete (sym o.named) (open_complete o.why (subst NoFault o.named none))
does_complete s p tells w v bytes whole none (inr r) = course_complete s p bytes r.records whole none r.ends r.reads

known_complete : {R : Type 0} (s : Status) (tells : Type 0) (old new : R) (w v : World) (bytes : List ℕ) → IsWholeInput bytes → NoFault s → Reruns (Some bytes) s tells old new w v → IsComplete s
known_complete s tells old new w v bytes whole none (inl n) = plan_complete s bytes whole none n.ends n.breaks
known_complete s tells old new w v bytes whole none (inr p) = does_complete s p.plan tells w v bytes whole none p.does

pub complete_so : {R : Type 0} (known : Option (List ℕ)) (s : Status) (tells : Type 0) (old new : R) (w v : World) (P Q T : Type 0) (bytes : List ℕ) → Reruns known s tells old new w v
    → (s ≡ ReadFault → P) → (s ≡ WriteFault → Q) → (s ≡ DiskFault → T) → known ≡ Some bytes → IsWholeInput bytes → (P → ⊥) → (Q → ⊥) → (T → ⊥) → IsComplete s
complete_so known s tells old new w v P Q T bytes runs read write disk is whole p q t =
    known_complete s tells old new w v bytes whole (record { read = λ e. p (read e); write = λ e. q (write e); disk = λ e. t (disk e) })
    (subst (λ (o : Option (List ℕ)). Reruns o s tells old new w v) is runs)
