-- The line that `show` prints for a record.
use Rattle.std.specs.Prelude.{◌≡◌, ℕ, ◌+◌, List, [], ◌∷◌, ◌++◌, length, codes}
use Rattle.std.specs.Fmt.{decimal}
use Rattle.rtps_params.specs.declared.parameter.ListKind.TheVariants as list
use Rattle.rtps_submsg.specs.declared.sub.SubKind.{SubKind}
use Rattle.rtps_submsg.specs.declared.sub.SubKind.TheVariants as kind
use Rattle.rtps_message.specs.declared.heard.End.{End}
use Rattle.rtps_message.specs.declared.heard.End.TheVariants.{Whole, BadHeader, Stopped}
use Rattle.rtps_message.specs.declared.heard.Heard.{Heard}
use Rattle.rtps_message.specs.Messages.{Hears}
use Rattle.dur_capture.specs.declared.record.Record.{Record}

-- the name of what is wrong with a submessage
abbrev pub kind_name : SubKind → List ℕ
kind_name kind.Cut = codes "Cut"
kind_name kind.BothDataAndKey = codes "BothDataAndKey"
kind_name kind.BadNumber = codes "BadNumber"
kind_name kind.BadSet = codes "BadSet"
kind_name kind.BadRange = codes "BadRange"
kind_name (kind.List list.Cut) = codes "ListCut"
kind_name (kind.List list.OddLength) = codes "ListOddLength"
kind_name (kind.List (list.BadValue id)) = codes "ListBadValue"
kind_name kind.BadOffset = codes "BadOffset"

-- how a datagram ends
abbrev pub end_text : End → List ℕ
end_text Whole = codes "whole"
end_text BadHeader = codes "badheader"
end_text (Stopped at kind) = codes "stopped " ++ decimal at ++ 32 ∷ [] ++ kind_name kind

-- index, moment, port, number of facts, and how the datagram ends
unfoldable pub line : ℕ → Record → Heard → List ℕ
line index r h =
    decimal index ++ 32 ∷ [] ++ decimal r.moment ++ 32 ∷ [] ++ decimal r.port ++ 32 ∷ [] ++ decimal (length h.facts) ++ 32 ∷ []
    ++ end_text h.end ++ 10 ∷ []

-- the text is the lines of these records, of which the first has that index
abbrev pub Shows : List ℕ → ℕ → List Record → List ℕ → Type 0
Shows own index [] text = text ≡ []
Shows own index (r ∷ rs) text =
    (heard : Heard) × (rest : List ℕ) × Hears own r.bytes heard × Shows own (index + 1) rs rest × (text ≡ line index r heard ++ rest)
