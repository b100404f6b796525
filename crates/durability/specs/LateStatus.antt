-- The number that a process of `late` ends with, and the line of its fault.
use Rattle.std.specs.Prelude.{ℕ, List, [], codes}
use Rattle.dur_rerun.specs.declared.late.status.LateStatus.{LateStatus}
use Rattle.dur_rerun.specs.declared.late.status.LateStatus.TheVariants.{Done, Usage, OutOfMemory, WriteFault, LinkFault, Unfinished}

abbrev pub late_number : LateStatus → ℕ
late_number Done = 0
late_number Usage = 2
late_number OutOfMemory = 3
late_number WriteFault = 6
late_number LinkFault = 12
late_number Unfinished = 13

-- the line on standard error
abbrev pub late_fault_line : LateStatus → List ℕ
late_fault_line Done = []
late_fault_line Usage = codes "durability: usage\n"
late_fault_line OutOfMemory = codes "durability: out of memory\n"
late_fault_line WriteFault = codes "durability: write fault\n"
late_fault_line LinkFault = codes "durability: link fault\n"
late_fault_line Unfinished = codes "durability: unfinished\n"
