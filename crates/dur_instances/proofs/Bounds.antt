-- No more is left than there are places and samples.
use Rattle.std.proofs.Common.{◌≡◌, ℕ, ◌+◌, ◌≤◌, Bool, true, false, cond, not, ◌&&◌, ◌||◌, Option, Some, None, List, [], ◌∷◌, ◌++◌, map, length, refl, arith, length-append}
use Rattle.std.specs.Prelude.{filter, ◌==◌}
use Rattle.std.proofs.lemmas.Bool.{le-ltb, ltb-false}
use Rattle.std.proofs.lemmas.List.{length-map}
use Rattle.std.proofs.lemmas.List.Sums.{count_by-le-length}
use Rattle.dur_base.specs.declared.sample.Sample.{Sample}
use Rattle.dur_view.specs.Identities.{Key}
use Rattle.dur_view.specs.Words.{is_change}
use Rattle.dur_view.specs.Fates.{is_long, is_over_by, reaches}
use Rattle.dur_view.specs.Refused.{is_over}
use Rattle.dur_instances.specs.declared.cells.Cell.{Cell}
use Rattle.dur_instances.specs.declared.changes.Change.{Change}
use Rattle.dur_instances.specs.declared.links.Place.{Place}
use Rattle.dur_instances.specs.Layout.{cells_there}
use Rattle.dur_instances.specs.Places.{kept_in, with_change}
use Rattle.dur_instances.specs.Would.{later_in, is_left, fresh_of, left_after, is_asked, count_asked, new_keys}

pub within : (o : Option ℕ) (most n : ℕ) → is_over o most ≡ false → n ≤ most → is_over o n ≡ false
within None most n is le = refl
within (Some limit) most n is le = let low = ltb-false limit most is in le-ltb limit n (omega arith)

filter-few : {X : Type 0} (test : X → Bool) (xs : List X) → length (filter test xs) ≤ length xs
filter-few test [] = omega arith
filter-few test (x ∷ xs) = at (test x) (filter-few test xs)
  where
    at : (b : Bool) → length (filter test xs) ≤ length xs → length (cond b (x ∷ filter test xs) (filter test xs)) ≤ length (x ∷ xs)
    at true rest = omega arith
    at false rest = omega arith

kept-few : (ps : List Place) → length (kept_in ps) ≤ length ps
kept-few [] = omega arith
kept-few (p ∷ ps) = at p.change (kept-few ps)
  where
    at : (o : Option Change) → length (kept_in ps) ≤ length ps → length (with_change o (kept_in ps)) ≤ length (p ∷ ps)
    at None rest = omega arith
    at (Some c) rest = omega arith

fresh-few : (depth : Option ℕ) (m : ℕ) (ss : List Sample) → length (fresh_of depth m ss) ≤ length ss
fresh-few depth m [] = omega arith
fresh-few depth m (s ∷ ss) = at (is_change s.act && not (is_over_by s.lifespan s.stamp m || reaches depth (later_in s.key ss))) (fresh-few depth m ss)
  where
    at : (b : Bool) → length (fresh_of depth m ss) ≤ length ss → length (cond b (s ∷ fresh_of depth m ss) (fresh_of depth m ss)) ≤ length (s ∷ ss)
    at true rest = omega arith
    at false rest = omega arith

pub few-left : (cells : List Cell) (ps : List Place) (depth : Option ℕ) (longest m : ℕ) (ss : List Sample) (of : Option Key) → count_asked of (left_after cells (kept_in ps) depth longest m ss) ≤ length ps + length ss
few-left cells ps depth longest m ss of =
    let left = filter (is_left cells depth longest m ss) (kept_in ps) in
    let fresh = fresh_of depth m ss in
    let told : List Sample = map (λ (c : Change). c.sample) left in
    let a = count_by-le-length (λ (s : Sample). is_asked of s.key) (told ++ fresh) in
    let b = length-append told fresh in
    let c = length-map left (λ (c : Change). c.sample) in
    let d = filter-few (is_left cells depth longest m ss) (kept_in ps) in
    let e = kept-few ps in
    let f = fresh-few depth m ss in
    omega arith

new-few : (there : Key → Bool) (ss : List Sample) → new_keys there ss ≤ length ss
new-few there [] = omega arith
new-few there (s ∷ ss) = at (is_change s.act && (not (there s.key) && later_in s.key ss == 0)) (new-few there ss)
  where
    at : (b : Bool) → new_keys there ss ≤ length ss → cond b (new_keys there ss + 1) (new_keys there ss) ≤ length (s ∷ ss)
    at true rest = omega arith
    at false rest = omega arith

pub few-there : (cells : List Cell) (longest m : ℕ) (there : Key → Bool) (ss : List Sample) → length (cells_there cells longest m) + new_keys there ss ≤ length cells + length ss
few-there cells longest m there ss = let a = filter-few (λ (c : Cell). not (is_long c.quiet longest m)) cells in let b = new-few there ss in omega arith
