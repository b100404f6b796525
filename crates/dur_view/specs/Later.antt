-- Two pasts of a topic that no continuation tells apart.
use Rattle.std.specs.Prelude.{◌≡◌, ℕ, ◌≤◌, List, [], ◌∷◌}
use Rattle.dur_view.specs.History.{TopicEvent}
use Rattle.dur_view.specs.Past.{Past, ◌▹▹◌}
use Rattle.dur_view.specs.Fates.{settings, time_of, entitled, existing}
use Rattle.dur_view.specs.View.{lines_at, kept_of}

-- events whose moments rise from a moment on, and the last of these
abbrev pub Rising : ℕ → List TopicEvent → Type 0
Rising now [] = Unit {0}
Rising now (e ∷ es) = (now ≤ time_of e) × Rising (time_of e) es

abbrev pub till : ℕ → List TopicEvent → ℕ
till now [] = now
till now (e ∷ es) = till (time_of e) es

-- A continuation between two moments: its events come from the one on, in the order of their moments, and none after the other.
pub record Between (m : ℕ) (es : List TopicEvent) (t : ℕ) : Type 0 where
  pub rising : Rising m es
  pub upto : till m es ≤ t

-- Two pasts of a topic that no continuation tells apart, from a moment on: whatever comes after, they entitle to the same
-- (DDS 2.2.3.4), have the same instances, and leave the same view.
pub record SameFrom (m : ℕ) (p q : Past) : Type 0 where
  pub settings : settings p ≡ settings q
  pub entitled : (es : List TopicEvent) (t : ℕ) → Between m es t → entitled (p ▹▹ es) t ≡ entitled (q ▹▹ es) t
  pub existing : (es : List TopicEvent) (t : ℕ) → Between m es t → existing (p ▹▹ es) t ≡ existing (q ▹▹ es) t
  -- the instances of the view, and its kept changes, with their arrivals
  pub lines : (topic : ℕ) (es : List TopicEvent) (t : ℕ) → Between m es t → lines_at topic (p ▹▹ es) t ≡ lines_at topic (q ▹▹ es) t
  pub kept : (at topic : ℕ) (es : List TopicEvent) (t : ℕ) → Between m es t → kept_of at topic (p ▹▹ es) t ≡ kept_of at topic (q ▹▹ es) t
