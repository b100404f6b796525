-- The changes of a topic without a fate, as the plain program keeps them, and what a view says by them.
use Rattle.std.specs.Prelude.{◌≡◌, ℕ, ◌+◌, ◌-◌, ◌<◌, ◌^◌, not, Option, Some, None, List, [], ◌∷◌, ◌++◌, filter, find, map, count_by, slice_get, take, All}
use Rattle.dur_qos.specs.Good.{IsLimit}
use Rattle.dur_view.specs.Identities.{Key}
use Rattle.dur_view.specs.declared.data.Instance.{Instance}
use Rattle.dur_view.specs.declared.data.Kept.{Kept}
use Rattle.dur_view.specs.declared.state.InstanceState.{InstanceState}
use Rattle.dur_view.specs.declared.living.Living.{Living}
use Rattle.dur_view.specs.Past.{Made, Past}
use Rattle.dur_view.specs.Fates.{settings, registered, made, has_fate}
use Rattle.dur_view.specs.Sound.{Each, Listed}
use Rattle.dur_view.specs.View.{is_made_of, counted, key_place}

abbrev pub made_living : Living → Made
made_living c = record { ordinal = c.ordinal; writer = c.writer; number = c.number; arrived = c.arrived; sample = c.sample }

abbrev pub all_made : List Living → List Made
all_made cs = map made_living cs

-- those of the changes that have no fate
abbrev pub living_of : Past → ℕ → List Made → List Made
living_of p now cs = filter (λ c. not (has_fate p now c)) cs

-- `counted`, where the first kept change is told by its ordinal
abbrev pub counted_from : Option ℕ → Option ℕ → ℕ → ℕ → ℕ
counted_from (Some d) None ordinal before = 0
counted_from (Some d) (Some first) ordinal before = ordinal + 1 - first
counted_from None first ordinal before = before

-- `counted`, where the first kept change is the first of the key among these
abbrev pub counted_in : Option ℕ → List Made → Key → ℕ → ℕ → ℕ
counted_in depth all k ordinal before = counted depth (find (is_made_of k) all) ordinal before

-- what a view says of an instance that is as the line says, beside these living changes
abbrev pub line_from : ℕ → Option ℕ → List Made → Key → InstanceState → Instance
line_from t depth all k l =
    record {
      topic = t;
      key = k;
      disposed = l.disposed;
      quiet = l.quiet;
      registered = l.registered;
      changes = counted_in depth all k l.changes (count_by (is_made_of k) all);
    }

-- what a view says of a living change of a topic whose lines begin at a place; `before` are those before it
abbrev pub kept_one : ℕ → Option ℕ → List Instance → List Made → List Made → Made → Kept
kept_one at depth lines all before c =
    record {
      instance = at + key_place lines c.sample.key;
      ordinal = counted_in depth all c.sample.key c.ordinal (count_by (is_made_of c.sample.key) before + 1);
      writer = c.writer;
      number = c.number;
      arrived = c.arrived;
      sample = c.sample;
    }

-- the same as `kept_from`, where the depth of the topic is told
abbrev pub kept_with : ℕ → Option ℕ → List Instance → List Made → List Made → List Made → List Kept
kept_with at depth lines all before [] = []
kept_with at depth lines all before (c ∷ cs) = kept_one at depth lines all before c ∷ kept_with at depth lines all (before ++ c ∷ []) cs

-- the ordinals that a view gives to living changes are numbers of 64 bits
abbrev pub AreCounted : Option ℕ → List Made → Type 0
AreCounted depth all = (i : ℕ) (c : Made) → slice_get all i ≡ Some c → counted_in depth all c.sample.key c.ordinal (count_by (is_made_of c.sample.key) (take i all) + 1) < 2 ^ 64

-- what keeps the numbers of a view in their ranges
pub record IsInRange (p : Past) : Type 0 where
  pub depth : IsLimit (settings p).depth
  pub listed : Each (Listed p) (made p)
  pub places : (k : Key) → All (λ r. r < 2 ^ 32) (registered p k)
