-- What is kept at places, along them.
use Rattle.std.proofs.Common.{◌≡◌, ℕ, zero, suc, ◌+◌, ◌<◌, Bool, true, false, cond, not, ◌&&◌, Option, Some, None, List, [], ◌∷◌, map, length, drop, get_or, refl, sym, ap, ◌∙◌, subst, arith}
use Rattle.std.specs.Prelude.{filter, count_by, min}
use Rattle.std.proofs.lemmas.List.Sums.{sum_by-cons}
use Rattle.std.specs.HashMap.{HashMap}
use Rattle.dur_base.specs.declared.sample.Sample.{Sample}
use Rattle.dur_view.specs.Identities.{Key}
use Rattle.dur_instances.specs.declared.cells.Cell.{Cell}
use Rattle.dur_instances.specs.declared.changes.Change.{Change}
use Rattle.dur_instances.specs.declared.links.Place.{Place}
use Rattle.dur_instances.specs.declared.order.Ends.{Ends}
use Rattle.dur_instances.specs.Layout.{is_change_of, is_gone_in, EachChange}
use Rattle.dur_instances.specs.Due.{due_at, due_changes}
use Rattle.dur_instances.specs.Would.{is_asked, is_left, is_left_at}
use Rattle.dur_instances.specs.Places.{with_change, kept_in, is_at, Chain, IsOwn, IsLinked, found, first_in, last_in, goes, thinned, is_past, Sinks}
use Rattle.dur_instances.proofs.BeforeDue.{changes-most}

-- a step along them
kept-here : (ps : List Place) (i : ℕ) (p : Place) → i < length ps → p ≡ get_or ps i p → kept_in (drop i ps) ≡ with_change p.change (kept_in (drop (suc i) ps))
kept-here [] i p lt is = absurd (omega arith)
kept-here (q ∷ ps) zero p lt is = ap (λ (z : Place). with_change z.change (kept_in ps)) (sym is)
kept-here (q ∷ ps) (suc i) p lt is = kept-here ps i p (omega arith) is

pub kept-at : (ps : List Place) (i : ℕ) (p : Place) → i < length ps → p ≡ get_or ps i p → kept_in (drop i ps) ≡ with_change p.change (kept_in (drop (i + 1) ps))
kept-at ps i p lt is = kept-here ps i p lt is ∙ ap (λ n. with_change p.change (kept_in (drop n ps))) (let e : suc i ≡ i + 1 = omega arith in e)

abbrev pub is_there : Option Change → Bool
is_there None = false
is_there (Some c) = true

pub length-with : (o : Option Change) (xs : List Change) → length (with_change o xs) ≡ cond (is_there o) 1 0 + length xs
length-with None xs = omega arith
length-with (Some c) xs = omega arith

pub due-with : (o : Option Change) (xs : List Change) → due_changes (with_change o xs) ≡ min (due_at o) (due_changes xs)
due-with None xs = let most = changes-most xs in omega arith
due-with (Some c) xs = refl

module _ (cells : List Cell) (depth : Option ℕ) (longest m : ℕ) (ss : List Sample) (of : Option Key) where
  abbrev pub left_in : List Change → ℕ
  left_in xs = count_by (λ c. is_asked of c.sample.key) (filter (is_left cells depth longest m ss) xs)

  pub left-with : (o : Option Change) (xs : List Change) → left_in (with_change o xs) ≡ cond (is_left_at cells depth longest m ss of o) 1 0 + left_in xs
  left-with None xs = omega arith
  left-with (Some c) xs = at (is_left cells depth longest m ss c) (is_asked of c.sample.key) refl
    where
      at : (l a : Bool) → is_asked of c.sample.key ≡ a
          → count_by (λ c. is_asked of c.sample.key) (cond l (c ∷ filter (is_left cells depth longest m ss) xs) (filter (is_left cells depth longest m ss) xs)) ≡ cond (a && l) 1 0 + left_in xs
      at false true e = omega arith
      at false false e = omega arith
      at true true e = sum_by-cons (λ c. cond (is_asked of c.sample.key) 1 0) c (filter (is_left cells depth longest m ss) xs) ∙ ap (λ b. cond b 1 0 + left_in xs) e
      at true false e = sum_by-cons (λ c. cond (is_asked of c.sample.key) 1 0) c (filter (is_left cells depth longest m ss) xs) ∙ ap (λ b. cond b 1 0 + left_in xs) e

-- Without what is gone at a moment.
module _ (cells : List Cell) (longest m : ℕ) where
  thin-with : (p : Place) (xs ys : List Change) → xs ≡ filter (λ c. not (is_gone_in cells longest m c)) ys
      → with_change (thinned cells longest m p).change xs ≡ filter (λ c. not (is_gone_in cells longest m c)) (with_change p.change ys)
  thin-with p xs ys e = at p.change refl
    where
      gone : (b : Bool) (c : Change) → p.change ≡ Some c → is_gone_in cells longest m c ≡ b
          → with_change (cond b (record p { change = None }) p).change xs ≡ cond (not b) (c ∷ filter (λ c. not (is_gone_in cells longest m c)) ys) (filter (λ c. not (is_gone_in cells longest m c)) ys)
      gone true c is g = e
      gone false c is g = ap (λ o. with_change o xs) is ∙ ap (λ l. c ∷ l) e

      at : (o : Option Change) → p.change ≡ o → with_change (thinned cells longest m p).change xs ≡ filter (λ c. not (is_gone_in cells longest m c)) (with_change p.change ys)
      at None is = ap (λ o. with_change (cond (goes cells longest m o) (record p { change = None }) p).change xs) is ∙ e ∙ ap (λ o. filter (λ c. not (is_gone_in cells longest m c)) (with_change o ys)) (sym is)
      at (Some c) is =
          ap (λ o. with_change (cond (goes cells longest m o) (record p { change = None }) p).change xs) is ∙ gone (is_gone_in cells longest m c) c is refl
          ∙ ap (λ o. filter (λ c. not (is_gone_in cells longest m c)) (with_change o ys)) (sym is)

  pub kept-thinned : (ps : List Place) → kept_in (map (thinned cells longest m) ps) ≡ filter (λ c. not (is_gone_in cells longest m c)) (kept_in ps)
  kept-thinned [] = refl
  kept-thinned (p ∷ ps) = thin-with p (kept_in (map (thinned cells longest m) ps)) (kept_in ps) (kept-thinned ps)

  pub chain-thinned : (k : Key) (b last : ℕ) (at : Option ℕ) (ps : List Place) → Chain k b at last ps → Chain k b at last (map (thinned cells longest m) ps)
  chain-thinned k b last at [] c = c
  chain-thinned k b last at (p ∷ ps) c = go (goes cells longest m p.change) (chain-thinned k (b + 1) last (cond (is_at b at) p.next at) ps c.1)
    where
      go : (x : Bool) → Chain k (b + 1) (cond (is_at b at) p.next at) last (map (thinned cells longest m) ps) → Chain k b at last (cond x (record p { change = None }) p ∷ map (thinned cells longest m) ps)
      go true rest = (record { own = c.0.own; ends = c.0.ends; empty = λ e f. refl }, rest)
      go false rest = (c.0, rest)

  pub own-thinned : (ps : List Place) → IsOwn ps → IsOwn (map (thinned cells longest m) ps)
  own-thinned [] own = own
  own-thinned (p ∷ ps) own = go (goes cells longest m p.change) (own-thinned ps own.1)
    where
      go : (x : Bool) → IsOwn (map (thinned cells longest m) ps) → IsOwn (cond x (record p { change = None }) p ∷ map (thinned cells longest m) ps)
      go true rest = (λ c is. absurd (cc), rest)
      go false rest = (own.0, rest)

pub linked-thinned : {S : Type 0} (cells : List Cell) (longest m : ℕ) (ends : HashMap (List ℕ) Ends S) (ps qs : List Place) → IsLinked ends ps → qs ≡ map (thinned cells longest m) ps → IsLinked ends qs
linked-thinned cells longest m ends ps qs linked is =
    subst (IsLinked ends) (sym is) record { chains = λ k. chain-thinned cells longest m k 0 (last_in (found ends k)) (first_in (found ends k)) ps (linked.chains k); own = own-thinned cells longest m ps linked.own }

pub linked-same : {S : Type 0} (ends ends2 : HashMap (List ℕ) Ends S) (ps : List Place) → IsLinked ends ps → ((k : Key) → found ends2 k ≡ found ends k) → IsLinked ends2 ps
linked-same ends ends2 ps linked same = record { chains = λ k. subst (λ (o : Option Ends). Chain k 0 (first_in o) (last_in o) ps) (sym (same k)) (linked.chains k); own = linked.own }

-- where a topic keeps all, nothing is displaced
never-past : (own : Bool) → not (own && false) ≡ true
never-past true = refl
never-past false = refl

pub none-past : (k : Key) (count : ℕ) (xs : List Change) → filter (λ c. not (is_change_of k c && is_past None count c)) xs ≡ xs
none-past k count [] = refl
none-past k count (c ∷ xs) = ap (λ b. cond b (c ∷ filter (λ c. not (is_change_of k c && is_past None count c)) xs) (filter (λ c. not (is_change_of k c && is_past None count c)) xs)) (never-past (is_change_of k c)) ∙ ap (λ l. c ∷ l) (none-past k count xs)

sinks-at : (k : Key) (count : ℕ) (c : Change) (xs : List Change) → EachChange (λ d. is_change_of k c ≡ true → is_change_of k d ≡ true → is_past None count d ≡ true → is_past None count c ≡ true) xs
sinks-at k count c [] = tt
sinks-at k count c (d ∷ xs) = (λ a b past. past, sinks-at k count c xs)

pub none-sinks : (k : Key) (count : ℕ) (xs : List Change) → Sinks k None count xs
none-sinks k count [] = tt
none-sinks k count (c ∷ xs) = (sinks-at k count c xs, none-sinks k count xs)
