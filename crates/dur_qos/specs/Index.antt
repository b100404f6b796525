-- What the maps of a draft know of its plan.
use Rattle.std.specs.Prelude.{◌≡◌, ℕ, ◌+◌, ◌≤◌, Bool, true, false, List, length, Some, None, IsSome, IfSome}
use Rattle.std.specs.Str.{bytes_eq}
use Rattle.std.specs.declared.option.Option.{Option}
use Rattle.std.specs.HashMap as hash
use Rattle.std.specs.HashMap.{HashMap}
use Rattle.std.specs.HashSet as bag
use Rattle.std.specs.HashSet.{HashSet}
use Rattle.std.specs.Global.{Vec}
use Rattle.dur_qos.specs.declared.fault.PlanFault.{PlanFault}
use Rattle.dur_qos.specs.declared.draft.Draft.{Draft}
use Rattle.dur_qos.specs.Good.{GoodPlan}
use Rattle.dur_qos.specs.Plan.{place_of, has_writer, has_reader, total}

-- what a map has at a name
abbrev pub found : {S : Type 0} → HashMap (Vec ℕ) ℕ S → List ℕ → Option ℕ
found m name = hash.get_by (λ k. bytes_eq name k.items) m

abbrev pub holds : {S : Type 0} → HashSet (List ℕ) S → List ℕ → Bool
holds s guid = bag.contains_by (bytes_eq guid) s

-- the maps tell what stands in the plan, which keeps its limits
pub record IsIndexed (d : Draft) : Type 0 where
  pub names : (name : List ℕ) → found d.names name ≡ place_of name d.plan.topics
  pub writers : (guid : List ℕ) → holds d.writers guid ≡ has_writer guid d.plan.writers
  pub readers : (guid : List ℕ) → holds d.readers guid ≡ has_reader guid d.plan.readers
  pub topic_count : length d.plan.topics ≤ 1024
  pub writer_count : length d.plan.writers ≤ 4096
  pub reader_count : length d.plan.readers ≤ 1024

-- a reader that goes on has maps that fit its plan, and as many lines as the plan says
abbrev pub IsReady : Option Draft → ℕ → Type 0
IsReady None line = line ≡ 1
IsReady (Some d) line = IsIndexed d × (line ≡ 2 + total d.plan)

-- what a reader keeps
pub record Keeps (draft : Option Draft) (line : ℕ) (ended : Bool) (fault : Option PlanFault) : Type 0 where
  pub ready : fault ≡ None → ended ≡ false → IsReady draft line
  pub whole : ended ≡ true → IsSome draft
  pub good : IfSome draft (λ d. GoodPlan d.plan)
