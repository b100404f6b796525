-- The hub of a run: it stands for calls over an opening of its plan.
use Rattle.std.specs.Prelude.{◌≡◌, ℕ, ◌<◌, ◌^◌, List}
use Rattle.std.specs.List.{AllByRecursion}
use Rattle.dur_qos.specs.declared.plan.Plan.{Plan}
use Rattle.dur_view.specs.declared.data.KeptWriter.{KeptWriter}
use Rattle.dur_view.specs.declared.data.View.{View}
use Rattle.dur_hub.specs.declared.event.Event.{Event}
use Rattle.dur_hub.specs.declared.hub.Hub.{Hub}
use Rattle.dur_hub.specs.Hubs.{Stands}
use Rattle.dur_hub.specs.Openings.{MayOpen}
use Rattle.dur_hub.specs.Runs.{Run, opening}
use Rattle.dur_rerun.specs.declared.rerun.nacks.Nack.{Nack}
use Rattle.dur_rerun.specs.Rerun.Replies.{IsFor}

-- the next numbers are sequence numbers (DDSI-RTPS 8.3.5.4)
abbrev pub AreNumbered : List KeptWriter → Type 0
AreNumbered writers = AllByRecursion (λ (w : KeptWriter). w.next < 2 ^ 63) writers

-- The run that has no call yet, over the plan and a view that a hub may be opened with.
pub record IsOpening (plan : Plan) (begun : Run) : Type 0 where
  pub view : View
  pub working : ℕ
  pub may : MayOpen plan view
  pub numbered : AreNumbered view.writers
  pub is : begun ≡ opening plan view working

-- The hub stands for some calls over such a run.
pub record IsOver (plan : Plan) (hub : Hub) : Type 0 where
  pub begun : Run
  pub log : List Event
  pub opens : IsOpening plan begun
  pub stands : Stands begun log hub

-- The hub is over a plan in which the ACKNACK comes from a late reader, and is for the writer that
-- replays to it.
pub record HasReader (n : Nack) (hub : Hub) : Type 0 where
  pub plan : Plan
  pub over : IsOver plan hub
  pub at : ℕ
  pub is_for : IsFor plan n at
