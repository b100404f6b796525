-- The prefix of the service in a run.
use Rattle.std.specs.Prelude.{ℕ, List, ◌++◌}
use Rattle.std.specs.Int.{w32, to_be_bytes}
use Rattle.dur_qos.specs.declared.plan.Plan.{Plan}

-- the plan's eight octets and the epoch
abbrev pub own_prefix : ℕ → Plan → List ℕ
own_prefix epoch plan = plan.prefix ++ to_be_bytes w32 epoch
