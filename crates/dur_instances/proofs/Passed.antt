-- The first limit that samples would pass.
use Rattle.std.proofs.Common.{◌≡◌, ℕ, ◌+◌, ◌*◌, ◌^◌, ◌≤◌, Bool, true, false, cond, ◌&&◌, ◌||◌, Option, Some, None, List, [], ◌∷◌, map, refl, sym, ap, ◌∙◌, suc, arith}
use mathlib.Core.Path.{fun_ext}
use Rattle.std.specs.Prelude.{not, filter, length, count_by, sum_by}
use Rattle.std.specs.List.{list_any}
use Rattle.std.proofs.lemmas.Bool.{le-ltb}
use Rattle.std.proofs.lemmas.List.Sums.{sum_by-cons}
use Rattle.dur_base.specs.declared.sample.Sample.{Sample}
use Rattle.dur_qos.specs.declared.plan.Topic.{Topic}
use Rattle.dur_view.specs.Identities.{Key}
use Rattle.dur_view.specs.Words.{is_key, is_change}
use Rattle.dur_view.specs.declared.change.TopicEvent.{TopicEvent}
use Rattle.dur_view.specs.Past.{Past, ◌▹▹◌}
use Rattle.dur_view.specs.Fates.{settings, Told, is_long, entitled, existing, exists}
use Rattle.dur_view.specs.Later.{Rising, till, Between, SameFrom}
use Rattle.dur_view.specs.Refused.{is_over, of_key, passed}
use Rattle.dur_view.specs.declared.limit.Limit.TheVariants.{Instances, PerInstance, Samples, Held}
use Rattle.dur_instances.specs.declared.cells.Cell.{Cell}
use Rattle.dur_instances.specs.declared.registered.Registered.{Registered}
use Rattle.dur_instances.specs.declared.changes.Change.{Change}
use Rattle.dur_instances.specs.Trimmed.{begun_by}
use Rattle.dur_instances.specs.Layout.{rows_of, lates_of, cells_there, IsLaid}
use Rattle.dur_instances.specs.Would.{TakeEffect, none, one, count_asked, left_after, is_there_in, new_keys, any_there, passed_after}
use Rattle.dur_instances.proofs.Laws.{begun-good, begun-order}
use Rattle.dur_instances.proofs.Shown.{count-map}
use Rattle.dur_instances.proofs.NewChanges.{entitled-after}
use Rattle.dur_instances.proofs.NewKeys.{length-many, any-many, existing-kept, exists-kept}

rising-at : (m : ℕ) (ss : List Sample) (es : List TopicEvent) → TakeEffect m ss es → (last : ℕ) → last ≤ m → Rising last es
rising-at m _ _ none last le = tt
rising-at m _ _ (one by w n ar s {ss = ss} {es = es} rest) last le = (le, rising-at m ss es rest m (omega arith))

till-at : (m : ℕ) (ss : List Sample) (es : List TopicEvent) → TakeEffect m ss es → (last : ℕ) → last ≤ m → till last es ≤ m
till-at m _ _ none last le = le
till-at m _ _ (one by w n ar s {ss = ss} {es = es} rest) last le = till-at m ss es rest m (omega arith)

any-filter : {X : Type 0} (f test : X → Bool) (xs : List X) → list_any f (filter test xs) ≡ list_any (λ x. test x && f x) xs
any-filter f test [] = refl
any-filter f test (x ∷ xs) = at (test x) (any-filter f test xs)
  where
    at : (b : Bool) → list_any f (filter test xs) ≡ list_any (λ x. test x && f x) xs → list_any f (cond b (x ∷ filter test xs) (filter test xs)) ≡ ((b && f x) || list_any (λ x. test x && f x) xs)
    at true rest = ap (λ z. f x || z) rest
    at false rest = rest

one-and : (a n : ℕ) → a ≡ n → 1 + a ≡ suc n
one-and a n e = omega arith

count-all : {X : Type 0} (xs : List X) → count_by (λ x. true) xs ≡ length xs
count-all [] = refl
count-all (x ∷ xs) = sum_by-cons (λ y. 1) x xs ∙ one-and (sum_by (λ y. 1) xs) (length xs) (count-all xs)

length-map : {X Y : Type 0} (f : X → Y) (xs : List X) → length (map f xs) ≡ length xs
length-map f [] = refl
length-map f (x ∷ xs) = ap suc (length-map f xs)

any-map : {X Y : Type 0} (f : X → Y) (test : Y → Bool) (xs : List X) → list_any test (map f xs) ≡ list_any (λ x. test (f x)) xs
any-map f test [] = refl
any-map f test (x ∷ xs) = ap (λ b. test (f x) || b) (any-map f test xs)

none-held : (limit : Option ℕ) → is_over limit 0 ≡ false
none-held None = refl
none-held (Some n) = le-ltb n 0 (omega arith)

tested : (a a2 b b2 c c2 d : Bool) → a ≡ a2 → b ≡ b2 → c ≡ c2 → d ≡ false
    → cond a (Some Instances) (cond b (Some PerInstance) (cond c (Some Samples) None))
    ≡ cond a2 (Some Instances) (cond b2 (Some PerInstance) (cond c2 (Some Samples) (cond d (Some Held) None)))
tested a a2 b b2 c c2 d ia ib ic id = cc

module _ (s : Topic) (cells : List Cell) (regs : List Registered) (changes : List Change) (laid : IsLaid s cells regs changes) (longest m : ℕ) (is-longest : longest ≡ s.delay * 2 ^ 32) (ss : List Sample) (es : List TopicEvent) (take : TakeEffect m ss es) where
  abbrev b : Past
  b = begun_by s (rows_of cells regs) (lates_of cells changes)

  abbrev told_after : List Told
  told_after = entitled (b ▹▹ es) m

  abbrev left : List Sample
  left = left_after cells changes s.depth longest m ss

  is-left : map (λ (t : Told). t.sample) told_after ≡ left
  is-left = entitled-after s cells regs changes laid longest m is-longest ss es take

  of-key : (k : Key) → of_key k told_after ≡ count_asked (Some k) left
  of-key k = sym (count-map (λ (t : Told). t.sample) (λ x. is_key x.key k) told_after) ∙ ap (λ l. count_by (λ x. is_key x.key k) l) is-left

  all : length told_after ≡ count_asked None left
  all = sym (length-map (λ (t : Told). t.sample) told_after) ∙ ap length is-left ∙ sym (count-all left)

  instances : length (existing (b ▹▹ es) m) ≡ length (cells_there cells longest m) + new_keys (is_there_in cells longest m) ss
  instances =
      length-many m b ss es take (begun-good s (rows_of cells regs) (lates_of cells changes) laid.kept) (begun-order s (rows_of cells regs) (lates_of cells changes) laid.kept)
      ∙ ap (λ (l : List Key). length l + new_keys (λ k. exists b k m) ss) (existing-kept s cells regs changes laid longest m is-longest)
      ∙ ap (λ n. n + new_keys (λ k. exists b k m) ss) (length-map (λ (c : Cell). c.key) (cells_there cells longest m))
      ∙ ap (λ f. length (cells_there cells longest m) + new_keys f ss) (fun_ext (λ k. exists-kept s cells regs changes laid longest m is-longest k))

  any-one : (limit : Option ℕ) → list_any (λ k. is_over limit (of_key k told_after)) (existing (b ▹▹ es) m) ≡ any_there cells longest m ss (λ k. is_over limit (count_asked (Some k) left))
  any-one limit =
      ap (λ f. list_any f (existing (b ▹▹ es) m)) (fun_ext (λ k. ap (is_over limit) (of-key k)))
      ∙ any-many (λ k. is_over limit (count_asked (Some k) left)) m b ss es take (begun-good s (rows_of cells regs) (lates_of cells changes) laid.kept) (begun-order s (rows_of cells regs) (lates_of cells changes) laid.kept)
      ∙ ap (λ (l : List Key). list_any (λ k. is_over limit (count_asked (Some k) left)) l || list_any (λ x. is_change x.act && is_over limit (count_asked (Some x.key) left)) ss) (existing-kept s cells regs changes laid longest m is-longest)
      ∙ ap (λ z. z || list_any (λ x. is_change x.act && is_over limit (count_asked (Some x.key) left)) ss) (any-map (λ (c : Cell). c.key) (λ k. is_over limit (count_asked (Some k) left)) (cells_there cells longest m) ∙ any-filter (λ (c : Cell). is_over limit (count_asked (Some c.key) left)) (λ (c : Cell). not (is_long c.quiet longest m)) cells)

  pub passed-begun : passed_after s cells changes longest m ss ≡ passed s (existing (b ▹▹ es) m) told_after 0
  passed-begun = tested _ _ _ _ _ _ _ (ap (is_over s.max_instances) (sym instances)) (sym (any-one s.max_per_instance)) (ap (is_over s.max_samples) (sym all)) (none-held s.max_held)

-- What the samples would pass is what they pass in the past that is stood for.
pub passed-stands : (p : Past) (last : ℕ) (s : Topic) (cells : List Cell) (regs : List Registered) (changes : List Change) → IsLaid s cells regs changes → (longest m : ℕ) → longest ≡ s.delay * 2 ^ 32 → last ≤ m
    → (ss : List Sample) (es : List TopicEvent) → TakeEffect m ss es → SameFrom last p (begun_by s (rows_of cells regs) (lates_of cells changes))
    → passed_after s cells changes longest m ss ≡ passed (settings p) (existing (p ▹▹ es) m) (entitled (p ▹▹ es) m) 0
passed-stands p last s cells regs changes laid longest m is-longest le ss es take same =
    let between : Between last es m = record { rising = rising-at m ss es take last le; upto = till-at m ss es take last le } in
    passed-begun s cells regs changes laid longest m is-longest ss es take
    ∙ ap (λ (t : Topic). passed t (existing (begun_by s (rows_of cells regs) (lates_of cells changes) ▹▹ es) m) (entitled (begun_by s (rows_of cells regs) (lates_of cells changes) ▹▹ es) m) 0) (sym same.settings)
    ∙ ap (λ (l : List Key). passed (settings p) l (entitled (begun_by s (rows_of cells regs) (lates_of cells changes) ▹▹ es) m) 0) (sym (same.existing es m between))
    ∙ ap (λ (l : List Told). passed (settings p) (existing (p ▹▹ es) m) l 0) (sym (same.entitled es m between))
