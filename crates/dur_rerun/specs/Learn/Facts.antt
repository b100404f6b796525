-- The facts of the records of a capture, and when they are heard.
use Rattle.std.specs.Prelude.{◌≡◌, ℕ, max, List, [], ◌∷◌, ◌++◌, map}
use Rattle.dur_base.specs.declared.fact.Fact.{Fact}
use Rattle.dur_capture.specs.declared.record.Record.{Record}
use Rattle.dur_capture.specs.Whole.{CaptureWithin}
use Rattle.dur_qos.specs.declared.plan.Plan.{Plan}
use Rattle.rtps_message.specs.declared.heard.Heard.{Heard}
use Rattle.rtps_message.specs.Messages.{Hears}
use Rattle.rtps_discovery.specs.declared.directory.Directory.{Directory}
use Rattle.rtps_discovery.specs.Hearing.{Heard as StandsFor}
use Rattle.rtps_discovery.specs.Learnt.{HeardFact}
use Rattle.dur_rerun.specs.Input.Records.{latest}

-- facts, each heard at this moment
abbrev pub heard_at : ℕ → List Fact → List HeardFact
heard_at moment facts = map (λ f. record { moment = moment; fact = f }) facts

-- What records tell behind others of which that is the greatest moment: the facts of each datagram, by the own prefix,
-- heard at the greatest moment so far. Of a datagram that is not whole they are those before its fault.
abbrev pub Tells : List ℕ → ℕ → List Record → List HeardFact → Type 0
Tells own m [] facts = facts ≡ []
Tells own m (r ∷ rs) facts =
    (heard : Heard) × (later : List HeardFact) × Hears own r.bytes heard × Tells own (max m r.moment) rs later × (facts ≡ heard_at (max m r.moment) heard.facts ++ later)

-- the directory stands for these facts more
abbrev pub HearsMore : Plan → Directory → List HeardFact → Directory → Type 0
HearsMore plan old more new = (facts : List HeardFact) → StandsFor plan old facts → StandsFor plan new (facts ++ more)

-- it stands for those of a record more, heard at this moment
pub record HearsRecord (plan : Plan) (own : List ℕ) (moment : ℕ) (r : Record) (old new : Directory) : Type 0 where
  pub heard : Heard
  pub hears : Hears own r.bytes heard
  pub more : HearsMore plan old (heard_at moment heard.facts) new

-- the octets are records and no more, of which that is the greatest moment, and it stands for what they tell
pub record HearsAll (plan : Plan) (own : List ℕ) (before : ℕ) (octets : List ℕ) (old new : Directory) (last : ℕ) : Type 0 where
  pub records : List Record
  pub capture : CaptureWithin before octets records
  pub facts : List HeardFact
  pub tells : Tells own 0 records facts
  pub more : HearsMore plan old facts new
  pub last_is : last ≡ latest records
