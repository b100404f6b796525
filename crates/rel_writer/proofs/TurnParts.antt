-- What holds between two turns.
use Rattle.std.proofs.Common.{suc, zero, ◌≡◌, ℕ, ◌+◌, ◌-◌, ◌^◌, ◌<◌, ◌≤◌, true, false, List, [], ◌∷◌, ◌++◌, length, take, drop, refl, ap, sym, ◌∙◌}
use Rattle.std.specs.Prelude.{Some, slice_get}
use Rattle.std.specs.List.{AllByRecursion}
use Rattle.dur_base.specs.declared.fact.Fact.TheVariants as facts
use Rattle.dur_base.specs.declared.sample.Raw.{Raw}
use Rattle.dur_base.specs.declared.sample.Sample.{Sample}
use Rattle.rtps_message.specs.Sent.{is_keyed}
use Rattle.rtps_message.specs.Written.{TellsOne}
use Rattle.rel_reader.specs.declared.known.Known.TheVariants.{Unknown, With}
use Rattle.rel_reader.specs.Knowledge.{is_unknown}
use Rattle.rel_reader.specs.Stories.{next}
use Rattle.rel_reader.specs.KnownNumbers.{known}
use Rattle.rel_writer.specs.declared.ids.Ids.{Ids}
use Rattle.rel_writer.specs.Replays.{replay, IsSent}
use Rattle.rel_writer.specs.Turns.{Link}
use Rattle.rel_writer.specs.LateReaders.{Late, keeps, shape_of, read_of, handle, drain, IsSettled}

-- ---- what stands fixed

pub record Setup (service : List ℕ) (ids : Ids) (xs : List Sample) : Type 0 where
  pub long : length ids.own ≡ 12
  pub service_is : take 8 ids.own ≡ service
  pub keyed : ids.keyed ≡ is_keyed (shape_of ids.writer)
  pub each : AllByRecursion (IsSent (is_keyed (shape_of ids.writer))) xs
  pub few : length xs + 1 < 2 ^ 63 - 1

-- the late reader has the first `at` of the replay, and knows nothing more
pub record Has (service : List ℕ) (ids : Ids) (xs : List Sample) (l : Late) (at : ℕ) : Type 0 where
  pub reader_is : l.reader ≡ ids.reader
  pub writer_is : l.writer ≡ ids.writer
  pub keeps_to : keeps l.service l.writer l.kept (ids.own ++ ids.writer) ≡ Some ids.own
  pub next_is : next l.story ≡ at + 1
  pub handled_is : l.handled ≡ take at (replay xs)
  pub beyond : (k : ℕ) → at + 1 ≤ k → known l.story k ≡ Unknown
  pub last_is : l.last ≤ length xs + 1

-- a datagram of the DATA at a place
pub record TellsData (ids : Ids) (xs : List Sample) (at : ℕ) (bytes : List ℕ) : Type 0 where
  pub raw : Raw
  pub sample : Sample
  pub tells : TellsOne ids.reader bytes
      (facts.Data (ids.own ++ ids.writer) (drop 12 ids.reader) (at + 1) raw)
  pub get : slice_get (replay xs) at ≡ Some sample
  pub reads : read_of ids.writer raw ≡ Some sample

abbrev pub TellsBeat : Ids → List Sample → List ℕ → Type 0
TellsBeat ids xs bytes =
    TellsOne ids.reader bytes
    (facts.Beat (ids.own ++ ids.writer) (drop 12 ids.reader) 1 (length xs + 1) false)

-- what waits: so many DATA from a place on, and a HEARTBEAT behind them
abbrev pub Waits : Ids → List Sample → ℕ → ℕ → List (List ℕ) → Type 0
Waits ids xs at zero queue = (beat : List ℕ) × (queue ≡ beat ∷ []) × TellsBeat ids xs beat
Waits ids xs at (suc n) queue = (first : List ℕ) × (rest : List (List ℕ)) × (queue ≡ first ∷ rest)
    × TellsData ids xs at first × Waits ids xs (at + 1) n rest

pub record State (service : List ℕ) (ids : Ids) (xs : List Sample) (w : Link) (at n : ℕ) : Type 0 where
  pub has : Has service ids xs w.late at
  pub hears : 0 < n → w.late.kept ≡ Some ids.own
  pub ids_is : w.session.ids ≡ ids
  pub samples_is : w.session.samples ≡ xs
  pub waits : Waits ids xs at n w.queue
  pub within : at + n ≤ length xs + 1
  pub open_yet : at ≤ length xs

-- ---- draining

pub still : (times : ℕ) (l : Late) → known l.story (next l.story) ≡ Unknown → drain times l ≡ l
still zero l e = refl
still (suc times) l e = ap (λ x. drain times (handle l x)) e ∙ still times l e

-- exactly one is taken
pub one_taken : (times : ℕ) (l : Late) (s : Sample) → known l.story (next l.story) ≡ With s
    → known l.story (next l.story + 1) ≡ Unknown → IsSettled (drain times l)
    → drain times l ≡ handle l (With s)
one_taken zero l s e f settled = let no : false ≡ true = sym (ap is_unknown e) ∙ settled in cc
one_taken (suc times) l s e f settled =
    ap (λ x. drain times (handle l x)) e ∙ still times (handle l (With s)) f
