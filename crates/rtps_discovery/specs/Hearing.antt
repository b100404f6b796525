-- For which facts a directory stands.
use Rattle.std.specs.Prelude.{◌≡◌, ℕ, ◌+◌, ◌&&◌, Bool, List, [], ◌∷◌, ◌++◌, length, take, Option, Some, None, nat_le, if◌then◌else◌}
use Rattle.std.specs.BTreeMap.{get}
use Rattle.std.specs.Cmp.Lexicographic.{slice_cmp}
use Rattle.std.specs.List.{AllByRecursion}
use Rattle.std.specs.Option.{option_or}
use Rattle.std.specs.Ordering.{nat_cmp}
use Rattle.std.specs.Str.{bytes_eq}
use Rattle.dur_qos.specs.declared.plan.Plan.{Plan}
use Rattle.dur_qos.specs.Good.{GoodPlan}
use Rattle.rtps_discovery.specs.declared.announcement.Told.{Told}
use Rattle.rtps_discovery.specs.declared.directory.Directory.{Directory}
use Rattle.rtps_discovery.specs.declared.entry.Entry.{Entry}
use Rattle.rtps_discovery.specs.declared.source.Source.{Source}
use Rattle.rtps_discovery.specs.Entries.{number_of, numbers_in, farewell_in, is_gone}
use Rattle.rtps_discovery.specs.Fits.{Fits}
use Rattle.rtps_discovery.specs.Learnt.{HeardFact, AreTold, about, none_above, counted, IsLearnt, PassesLimit}
use Rattle.rtps_discovery.specs.Sources.{id_of}

-- the last one of that GUID, and those after it
abbrev pub last_in : List ℕ → List Told → Option (Told × List Told)
last_in guid [] = None
last_in guid (t ∷ ts) = option_or (last_in guid ts) (if bytes_eq (about t) guid then Some (t, ts) else None)

-- it is a farewell of that GUID
abbrev pub is_farewell : List ℕ → Told → Bool
is_farewell guid t = is_gone t.what && bytes_eq (about t) guid

-- the place of the last farewell of that GUID, where so many stand before, and the last of them there
abbrev pub farewell_from : List ℕ → ℕ → ℕ → List Told → ℕ
farewell_from guid before last [] = last
farewell_from guid before last (t ∷ ts) = farewell_from guid (before + 1) (if is_farewell guid t then before + 1 else last) ts

-- what is kept of the last one that counts
abbrev pub IsLastKept : List Told → List ℕ → Option Entry → Type 0
IsLastKept counted guid None = last_in guid counted ≡ None
IsLastKept counted guid (Some e) =
    (last : Told) × (after : List Told) × (last_in guid counted ≡ Some (last, after))
    × (e.last ≡ last.what) × (e.moment ≡ last.moment) × (e.place + length after ≡ length counted)

-- What is kept of a GUID. Of each builtin writer of its participant it is the greatest number.
pub record IsKept (told : List Told) (guid : List ℕ) (entry : Option Entry) : Type 0 where
  pub numbers : (source : Source) (n : ℕ) → none_above (take 12 guid ++ id_of source) guid n told ≡ nat_le (number_of source (numbers_in entry)) n
  pub farewell : farewell_in entry ≡ farewell_from guid 0 0 (counted told)
  pub last : IsLastKept (counted told) guid entry

-- so many count, and of each GUID this is kept
pub record KeepsBy (count : ℕ) (kept : List ℕ → Option Entry) (told : List Told) : Type 0 where
  pub count_is : count ≡ length (counted told)
  pub each : (guid : List ℕ) → IsKept told guid (kept guid)

abbrev pub Keeps : Directory → List Told → Type 0
Keeps d told = KeepsBy d.count (get (slice_cmp nat_cmp) d.entries) told

-- all that was told has leases and topics that fit
abbrev pub AllFit : Plan → List Told → Type 0
AllFit plan told = AllByRecursion (λ t. Fits plan.topics t.what) told

-- The directory stands for these facts, which it was handed in this order, under this plan.
unfoldable pub Heard : Plan → Directory → List HeardFact → Type 0
Heard plan d facts = (told : List Told) × AreTold plan facts told × AllFit plan told × Keeps d told

-- it stands for one fact more
abbrev pub StandsForMore : Plan → Directory → Directory → HeardFact → Type 0
StandsForMore plan old new h = (facts : List HeardFact) → Heard plan old facts → Heard plan new (facts ++ h ∷ [])

-- it stands for all that it stood for
abbrev pub StandsForSame : Directory → Directory → Type 0
StandsForSame old new = (plan : Plan) (facts : List HeardFact) → Heard plan old facts → Heard plan new facts

-- a plan that is learnt from a directory
pub record IsLearntBy (plan : Plan) (d : Directory) (now : ℕ) (learnt : Plan) : Type 0 where
  -- it is the learnt plan of all facts that were heard, and no other plan is
  pub is : (facts : List HeardFact) → Heard plan d facts → IsLearnt plan facts now learnt
  pub only : (facts : List HeardFact) (q : Plan) → Heard plan d facts → IsLearnt plan facts now q → learnt ≡ q
  -- of a good plan it is a good one
  pub good : (facts : List HeardFact) → GoodPlan plan → Heard plan d facts → GoodPlan learnt
  pub within : PassesLimit learnt → ⊥

-- the plan that is learnt from all facts that were heard passes a limit
abbrev pub WouldPass : Plan → Directory → ℕ → Type 0
WouldPass plan d now =
    (facts : List HeardFact) → Heard plan d facts → (learnt : Plan) × IsLearnt plan facts now learnt × PassesLimit learnt
