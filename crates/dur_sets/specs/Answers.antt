-- The answers, by what is kept of an open set. The clauses of the calls say what they mean of its members.
use Rattle.std.specs.Prelude.{ℕ, ◌+◌, ◌-◌, Bool, ◌||◌, ◌==◌, if◌then◌else◌, Option, Some, None}
use Rattle.dur_base.specs.declared.sample.SetMark.{SetMark}
use Rattle.dur_base.specs.declared.sample.SetMark.TheVariants.{NoSet, End, Of}
use Rattle.dur_sets.specs.declared.effect.Open.{Open}
use Rattle.dur_sets.specs.declared.effect.Effect.{Effect}
use Rattle.dur_sets.specs.declared.effect.Before.{Before}
use Rattle.dur_sets.specs.declared.effect.Before.TheVariants.{Nothing, Close}
use Rattle.dur_sets.specs.declared.effect.Now.{Now}
use Rattle.dur_sets.specs.declared.effect.Now.TheVariants as itself
use Rattle.dur_sets.specs.Open.{goes_on_with}

abbrev pub before_of : Option Open → Bool → Before
before_of None goes_on = Nothing
before_of (Some kept) goes_on = if goes_on then Nothing else Close (kept.last + 1 - kept.first)

abbrev pub now_of : ℕ → SetMark → Bool → Now
now_of number NoSet goes_on = itself.Now
now_of number End goes_on = itself.Now
now_of number (Of f) goes_on = if (f == number) || goes_on then itself.Hold else itself.Drop

abbrev pub answer_of : Option Open → ℕ → SetMark → Effect
answer_of kept number mark =
    record { before = before_of kept (goes_on_with kept mark); now = now_of number mark (goes_on_with kept mark) }

-- what is kept after the sample
abbrev pub open_by : Option Open → ℕ → SetMark → Option Open
open_by kept number NoSet = None
open_by kept number End = None
open_by kept number (Of f) =
    if f == number then Some record { first = number; last = number }
    else (if goes_on_with kept (Of f) then Some record { first = f; last = number } else None)
