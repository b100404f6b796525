-- The members of a writer's open set, whose samples lie side by side.
use Rattle.std.specs.Prelude.{◌≡◌, ℕ, Option, List, [], ◌∷◌, refl}
use Rattle.std.specs.Coded.{Coded, code_by, coded×, coded_ℕ, coded_list}
use Rattle.dur_base.specs.declared.sample.Sample.{Sample}
use Rattle.dur_view.specs.declared.change.TopicEvent.{TopicEvent}
use Rattle.dur_view.specs.declared.data.Held.{Held}
use Rattle.dur_view.specs.contracts.data.Held as held_row
use Rattle.dur_view.specs.declared.limit.Limit.{Limit}
use Rattle.dur_view.specs.Past.{Past, ◌▹▹◌}
use Rattle.dur_view.specs.Fates.{settings, entitled, existing}
use Rattle.dur_view.specs.Refused.{passed}
use Rattle.dur_instances.specs.Trimmed.{Trimmed}
use Rattle.dur_instances.specs.Stands.{Stands}
use Rattle.dur_instances.specs.Would.{TakeEffect}
use Rattle.dur_store.specs.declared.members.Taken.{Taken}

-- The members in the order of their numbers, and how many more may come without memory.
pub record MembersNow : Type 0 where
  pub items : List Held
  pub room : ℕ

abbrev pub members_code : Coded MembersNow
members_code = code_by (List Held × ℕ) (coded× (coded_list held_row.the_row.coded) coded_ℕ) (λ c. (c.items, c.room)) (λ p. record { items = p.0; room = p.1 }) (λ _. refl)

-- the members whose samples these are, with their numbers and moments
abbrev pub members_of : List Sample → List Taken → List Held
members_of [] ts = []
members_of (s ∷ ss) [] = []
members_of (s ∷ ss) (t ∷ ts) = record { number = t.number; moment = t.moment; sample = s } ∷ members_of ss ts

-- this is the first limit that the topic passes when the samples took effect, with no member held
abbrev pub IsPassed : Trimmed → ℕ → List Sample → Option Limit → Type 0
IsPassed topic now samples limit = (p : Past) (es : List TopicEvent) → Stands topic p → TakeEffect now samples es
    → limit ≡ passed (settings p) (existing (p ▹▹ es) now) (entitled (p ▹▹ es) now) 0
