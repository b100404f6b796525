use Rattle.std.proofs.Common.{take}
use Rattle.std.specs.List.{AllByRecursion}
use Rattle.rtps_message.specs.Written.{IsWritten, ReadsBack}
use Rattle.rtps_message.proofs.writing.write_message.Given as goal

abbrev pub invariant-loop-sub : goal.invariant-loop-sub
invariant-loop-sub l = record {
  written : IsWritten l.fn.out l.out l.fn.from (take l.sub-index l.subs) l.at;
  back : AllByRecursion ReadsBack (take l.sub-index l.subs);
}
