-- The places of kept changes, and how those of an instance are linked.
use Rattle.std.specs.Prelude.{◌≡◌, ℕ, zero, suc, ◌+◌, Bool, true, false, ◌==◌, if◌then◌else◌, option_and_then, option_map, unwrap_or, Option, Some, None, List, [], ◌∷◌, slice_get, refl}
use Rattle.std.specs.Coded.{Coded, code_by, coded×, coded_ℕ, coded_list}
use Rattle.std.specs.Str.{bytes_eq}
use Rattle.std.specs.HashMap as hash
use Rattle.std.specs.HashMap.{HashMap}
use Rattle.dur_instances.specs.declared.changes.Change.{Change}
use Rattle.dur_instances.specs.contracts.changes.Change as change_row
use Rattle.dur_instances.specs.declared.links.Place.{Place}
use Rattle.dur_instances.specs.declared.order.Ends.{Ends}
use Rattle.dur_view.specs.Identities.{Key}
use Rattle.dur_view.specs.Words.{is_key}
use Rattle.dur_view.specs.Fates.{reaches}
use Rattle.dur_instances.specs.Layout.{raised, is_change_of, is_gone_in, EachChange}
use Rattle.dur_instances.specs.declared.cells.Cell.{Cell}

-- The kept changes in the order of effect, and how many more may come without memory.
pub record ChangesNow : Type 0 where
  pub items : List Change
  pub room : ℕ

abbrev pub changes_code : Coded ChangesNow
changes_code = code_by (List Change × ℕ) (coded× (coded_list change_row.the_row.coded) coded_ℕ) (λ c. (c.items, c.room)) (λ p. record { items = p.0; room = p.1 }) (λ _. refl)

abbrev pub no_changes : ChangesNow
no_changes = record { items = []; room = 0 }

abbrev pub with_change : Option Change → List Change → List Change
with_change None rest = rest
with_change (Some c) rest = c ∷ rest

-- what is kept at the places, in their order
abbrev pub kept_in : List Place → List Change
kept_in [] = []
kept_in (p ∷ ps) = with_change p.change (kept_in ps)

-- what is known of the places of an instance
abbrev pub found : {S : Type 0} → HashMap (List ℕ) Ends S → Key → Option Ends
found ends k = hash.get_by (bytes_eq k) ends

-- whether as many later ones came as the topic is deep, where the counter of its instance is this
abbrev pub is_past : Option ℕ → ℕ → Change → Bool
is_past depth count c = reaches depth (raised c.at count)

-- whether nothing stands there that is to stay, in a topic of this depth, where the instance's counter is this
abbrev pub is_done : Option ℕ → ℕ → Option Change → Bool
is_done depth count None = true
is_done depth count (Some c) = is_past depth count c

abbrev pub past_at : Option ℕ → ℕ → List Place → Option ℕ → Option ℕ
past_at depth count ps None = None
past_at depth count ps (Some i) = option_and_then (λ p. if is_done depth count p.change then Some i else None) (slice_get ps i)

abbrev pub is_at : ℕ → Option ℕ → Bool
is_at b None = false
is_at b (Some i) = i == b

-- A place, the b-th one, beside the one of the instance that is the next to look at: it is this one, or keeps nothing of it.
pub record Link (k : Key) (b : ℕ) (at : Option ℕ) (last : ℕ) (p : Place) : Type 0 where
  pub own : is_at b at ≡ true → is_key p.key k ≡ true
  pub ends : is_at b at ≡ true → p.next ≡ None → last ≡ b
  pub empty : is_at b at ≡ false → is_key p.key k ≡ true → p.change ≡ None

-- the places of the instance from the b-th one on are linked from a first one to the last one
abbrev pub Chain : Key → ℕ → Option ℕ → ℕ → List Place → Type 0
Chain k b at last [] = at ≡ None
Chain k b at last (p ∷ ps) = Link k b at last p × Chain k (b + 1) (if is_at b at then p.next else at) last ps

-- the places, of which one has this next one
abbrev pub set_next : ℕ → ℕ → List Place → List Place
set_next d n [] = []
set_next zero n (p ∷ ps) = record p { next = Some n } ∷ ps
set_next (suc d) n (p ∷ ps) = p ∷ set_next d n ps

abbrev pub first_in : Option Ends → Option ℕ
first_in o = option_and_then (λ e. e.first) o

abbrev pub last_in : Option Ends → ℕ
last_in o = unwrap_or (option_map (λ e. e.last) o) 0

-- the places, of which the last one of an instance has this next one, where it has a first one
abbrev pub linked : Option ℕ → ℕ → ℕ → List Place → List Place
linked None last n ps = ps
linked (Some first) last n ps = set_next last n ps

-- the first place of an instance, or this one
abbrev pub first_with : Option ℕ → ℕ → ℕ
first_with None n = n
first_with (Some first) n = first

-- what is kept at a place is of its instance
abbrev pub IsOwn : List Place → Type 0
IsOwn [] = Unit {0}
IsOwn (p ∷ ps) = ((c : Change) → p.change ≡ Some c → c.sample.key ≡ p.key) × IsOwn ps

pub record IsLinked {S : Type 0} (ends : HashMap (List ℕ) Ends S) (ps : List Place) : Type 0 where
  pub chains : (k : Key) → Chain k 0 (first_in (found ends k)) (last_in (found ends k)) ps
  pub own : IsOwn ps

-- of two changes of the instance, the first one reaches the depth where the second one does
abbrev pub Sinks : Key → Option ℕ → ℕ → List Change → Type 0
Sinks k depth count [] = Unit {0}
Sinks k depth count (c ∷ cs) =
    EachChange (λ d. is_change_of k c ≡ true → is_change_of k d ≡ true → is_past depth count d ≡ true → is_past depth count c ≡ true) cs × Sinks k depth count cs

-- whether nothing stands there that is left at a moment
abbrev pub goes : List Cell → ℕ → ℕ → Option Change → Bool
goes cells longest now None = true
goes cells longest now (Some c) = is_gone_in cells longest now c

-- the place, emptied where nothing is left of it at a moment
abbrev pub thinned : List Cell → ℕ → ℕ → Place → Place
thinned cells longest now p = if goes cells longest now p.change then record p { change = None } else p
