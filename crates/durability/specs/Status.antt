-- The number that a process ends with, and the line of a fault.
use Rattle.std.specs.Prelude.{ℕ, List, [], ◌++◌, codes}
use Rattle.std.specs.Fmt.{decimal}
use Rattle.dur_rerun.specs.declared.status.Status.{Status}
use Rattle.dur_rerun.specs.declared.status.Status.TheVariants.{Done, Usage, OutOfMemory, Input, ReadFault, WriteFault, DiskFault, Plan, NotAJournal, PlanDiffers, Full, Worn, TooMany}
use Rattle.dur_rerun.specs.Files.{file_digit}
use Rattle.dur_outside.specs.declared.values.FileId.{FileId}
use Rattle.dur_capture.specs.declared.fault.CapFault.{CapFault}
use Rattle.dur_capture.specs.declared.fault.CapFault.TheVariants as cap
use Rattle.dur_qos.specs.declared.fault.PlanKind.{PlanKind}
use Rattle.dur_qos.specs.declared.fault.PlanKind.TheVariants as kind

abbrev pub number_of : Status → ℕ
number_of Done = 0
number_of Usage = 2
number_of OutOfMemory = 3
number_of (Input place fault) = 4
number_of ReadFault = 5
number_of WriteFault = 6
number_of DiskFault = 7
number_of (Plan line kind) = 8
number_of (NotAJournal file place) = 9
number_of (PlanDiffers name) = 9
number_of (Full size) = 10
number_of Worn = 10
number_of TooMany = 15

abbrev pub fault_name : CapFault → List ℕ
fault_name (cap.LongDatagram place) = codes "LongDatagram"
fault_name (cap.EndsInside place) = codes "EndsInside"
fault_name (cap.TooLong place) = codes "TooLong"
fault_name cap.OutOfMemory = codes "OutOfMemory"

abbrev pub plan_name : PlanKind → List ℕ
plan_name kind.Word = codes "Word"
plan_name kind.Number = codes "Number"
plan_name kind.Twice = codes "Twice"
plan_name kind.UnknownTopic = codes "UnknownTopic"
plan_name kind.DepthAboveLimit = codes "DepthAboveLimit"
plan_name kind.TooMany = codes "TooMany"
plan_name kind.OutOfMemory = codes "OutOfMemory"

abbrev pub input_line : ℕ → CapFault → List ℕ
input_line place fault = codes "durability: input " ++ decimal place ++ codes " " ++ fault_name fault ++ codes "\n"

abbrev pub plan_line : ℕ → PlanKind → List ℕ
plan_line number kind = codes "durability: plan " ++ decimal number ++ codes " " ++ plan_name kind ++ codes "\n"

abbrev pub journal_line : FileId → ℕ → List ℕ
journal_line file place = codes "durability: not a journal " ++ file_digit file ++ codes " " ++ decimal place ++ codes "\n"

abbrev pub differs_line : List ℕ → List ℕ
differs_line name = codes "durability: plan differs " ++ name ++ codes "\n"

abbrev pub full_line : ℕ → List ℕ
full_line size = codes "durability: full " ++ decimal size ++ codes "\n"

-- the line on standard error
abbrev pub fault_line : Status → List ℕ
fault_line Done = []
fault_line Usage = codes "durability: usage\n"
fault_line OutOfMemory = codes "durability: out of memory\n"
fault_line ReadFault = codes "durability: read fault\n"
fault_line WriteFault = codes "durability: write fault\n"
fault_line (Input place fault) = input_line place fault
fault_line DiskFault = codes "durability: disk fault\n"
fault_line (Plan line kind) = plan_line line kind
fault_line (NotAJournal file place) = journal_line file place
fault_line (PlanDiffers name) = differs_line name
fault_line (Full size) = full_line size
fault_line Worn = codes "durability: worn\n"
fault_line TooMany = codes "durability: too many\n"
