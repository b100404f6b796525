-- The persistent entries of a history, as it grows.
use Rattle.std.proofs.Common.{◌≡◌, ◌≢◌, ◌⊎◌, inl, inr, ℕ, ◌+◌, ◌≤◌, List, [], ◌∷◌, ◌++◌, length, take, refl, ap, subst, ◌∙◌, sym, Bool, true, false, cond, eqb, eqb-true, eq-eqb, arith, append-nil, append_assoc, length-append, Option, Some, map}
use Rattle.std.specs.Prelude.{filter, option_map, unwrap_or}
use Rattle.std.proofs.lemmas.List.{take-append-le, take_all}
use Rattle.dur_base.specs.declared.entry.Entry.{Entry}
use Rattle.dur_base.specs.declared.entry.Entry.TheVariants.{Took, Skip, Lost}
use Rattle.dur_view.specs.Identities.{Guid}
use Rattle.dur_view.specs.declared.data.KeptWriter.{KeptWriter}
use Rattle.dur_view.specs.declared.data.View.{View}
use Rattle.dur_view.specs.Words.{is_same, writer_line}
use Rattle.dur_view.specs.History.{History, Start, ◌▸◌, ◌+>◌, start, next, next_by, writer_of, has_number}
use Rattle.dur_view.specs.Extend.{entries_of, extend-push}
use Rattle.dur_view.specs.Persistent.{is_persistent, passes_at, writer_stays, writer_among, persistent_view, persistent}
use Rattle.dur_view.specs.IsSound.{IsHistory}
use Rattle.dur_view.specs.Stored.{stored, durable_part, is_stored}
use Rattle.dur_hub.proofs.Guids.{same_is, next_other, start_extend}

-- the start of the persistent part
pub start_persistent : (h : History) → start (persistent h) ≡ persistent_view (start h)
start_persistent (Start v) = refl
start_persistent (h ▸ e) = start_by (is_stored (start h) (writer_of e)) (start_persistent h) where
  start_by : (b : Bool) → start (persistent h) ≡ persistent_view (start h)
      → start (cond b (persistent h ▸ e) (persistent h)) ≡ persistent_view (start h)
  start_by true so = so
  start_by false so = so

-- one more entry
pub stored_one : (h : History) (e : Entry)
    → stored (h ▸ e) ≡ cond (is_stored (start h) (writer_of e)) (stored h ++ e ∷ []) (stored h)
stored_one h e = one_by (is_stored (start h) (writer_of e)) where
  one_by : (b : Bool)
      → entries_of (cond b (persistent h ▸ e) (persistent h)) ≡ cond b (stored h ++ e ∷ []) (stored h)
  one_by true = refl
  one_by false = refl

pub stored_step : (h : History) (e : Entry) → (xs : List Entry) × (stored (h ▸ e) ≡ stored h ++ xs)
stored_step h e = step_by (is_stored (start h) (writer_of e)) (stored_one h e) where
  step_by : (b : Bool) → stored (h ▸ e) ≡ cond b (stored h ++ e ∷ []) (stored h)
      → (xs : List Entry) × (stored (h ▸ e) ≡ stored h ++ xs)
  step_by true is = (e ∷ [], is)
  step_by false is = ([], is ∙ sym (append-nil (stored h)))

pub stored_extend : (h : History) (es : List Entry)
    → (xs : List Entry) × (stored (h +> es) ≡ stored h ++ xs)
stored_extend h [] = ([], sym (append-nil (stored h)))
stored_extend h (e ∷ es) =
    let one = stored_step h e in
    let more = stored_extend (h ▸ e) es in
    (one.0 ++ more.0, more.1 ∙ ap (λ l. l ++ more.0) one.1 ∙ append_assoc (stored h) one.0 more.0)

-- the persistent part of a view, followed by entries
abbrev pub over : View → List Entry → History
over v es = Start (persistent_view v) +> es

pub durable_is : (h : History) (d : ℕ) → durable_part h d ≡ over (start h) (take d (stored h))
durable_is h d = ap (λ v. Start v +> take d (stored h)) (start_persistent h)

-- what is durable stays
pub durable_extend : (h : History) (es : List Entry) (d : ℕ) → d ≤ length (stored h)
    → durable_part (h +> es) d ≡ durable_part h d
durable_extend h es d le =
    let more = stored_extend h es in
    let same : take d (stored (h +> es)) ≡ take d (stored h) =
    ap (take d) more.1 ∙ take-append-le d (stored h) more.0 le in
    durable_is (h +> es) d ∙ ap (λ v. over v (take d (stored (h +> es)))) (start_extend h es)
    ∙ ap (over (start h)) same ∙ sym (durable_is h d)

abbrev pub next_of : Option KeptWriter → ℕ
next_of line = unwrap_or (option_map (λ (l : KeptWriter). l.next) line) 1

abbrev pub stays : View → Option KeptWriter → Bool
stays v line =
    passes_at is_persistent v.topics (unwrap_or (option_map (λ (l : KeptWriter). l.topic) line) 0)

-- the persistent part has the lines of its writers
next_among : (v : View) (ws : List KeptWriter) (g : Guid) → stays v (writer_line ws g) ≡ true
    → next_of (writer_line (map (writer_among v) (filter (writer_stays v) ws)) g) ≡ next_of (writer_line ws g)
next_among v [] g yes1 = refl
next_among v (w ∷ ws) g yes1 =
    among_by (is_same w.guid g) (writer_stays v w) refl refl yes1 (λ more. next_among v ws g more) where
      rest : List KeptWriter
      rest = map (writer_among v) (filter (writer_stays v) ws)

      among_by : (b c : Bool) → is_same w.guid g ≡ b → writer_stays v w ≡ c
          → stays v (cond b (Some w) (writer_line ws g)) ≡ true
          → (stays v (writer_line ws g) ≡ true → next_of (writer_line rest g) ≡ next_of (writer_line ws g))
          → next_of (writer_line (map (writer_among v) (cond c (w ∷ filter (writer_stays v) ws) (filter (writer_stays v) ws))) g) ≡ next_of (cond b (Some w) (writer_line ws g))
      among_by true true same stay yes2 so =
          ap (λ x. next_of (cond x (Some (writer_among v w)) (writer_line rest g))) same
      among_by true false same stay yes2 so = absurd (cc)
      among_by false true other stay yes2 so =
          ap (λ x. next_of (cond x (Some (writer_among v w)) (writer_line rest g))) other ∙ so yes2
      among_by false false other stay yes2 so = so yes2

-- the persistent part tells the next numbers of its writers
pub next_stored : (h : History) (g : Guid) → is_stored (start h) g ≡ true
    → next (over (start h) (stored h)) g ≡ next h g
next_stored (Start v) g yes1 = next_among v v.writers g yes1
next_stored (h ▸ e) g yes1 =
    ap (λ l. next (over (start h) l) g) (stored_one h e) ∙ stored_by (is_stored (start h) (writer_of e)) refl (next_stored h g yes1) where
      stored_by : (b : Bool) → is_stored (start h) (writer_of e) ≡ b
          → next (over (start h) (stored h)) g ≡ next h g
          → next (over (start h) (cond b (stored h ++ e ∷ []) (stored h))) g ≡ next_by e g (next h g)
      stored_by true is so =
          ap (λ k. next k g) (extend-push (Start (persistent_view (start h))) (stored h) e)
          ∙ ap (next_by e g) so
      stored_by false is so =
          so
          ∙ sym (next_other e g (next h g) (λ same. (let both = ap (is_stored (start h)) same in cc)))

-- an entry with the next number moves on
pub next_rises : (h : History) (e : Entry) (g : Guid) (n : ℕ) → has_number e (next h (writer_of e))
    → n ≡ next h g → n ≤ next_by e g n
next_rises h (Took m u k s) g n num is = rises_by (is_same u g) refl where
  rises_by : (b : Bool) → is_same u g ≡ b → n ≤ cond b (k + 1) n
  rises_by true same = omega (arith, num, is, ap (next h) (same_is u g same))
  rises_by false same = omega arith
next_rises h (Skip m u from to) g n num is = rises_by (is_same u g) refl where
  rises_by : (b : Bool) → is_same u g ≡ b → n ≤ cond b (to + 1) n
  rises_by true same = omega (arith, num.0, num.1, is, ap (next h) (same_is u g same))
  rises_by false same = omega arith
next_rises h (Lost m u) g n num is = omega arith

-- a front of a list with one more element
fronts : (n L : ℕ) → n ≤ L + 1 → (n ≤ L) ⊎ (n ≡ L + 1)
fronts n L le = fronts_by (eqb n (L + 1)) refl where
  fronts_by : (b : Bool) → eqb n (L + 1) ≡ b → (n ≤ L) ⊎ (n ≡ L + 1)
  fronts_by true is = inr (eqb-true n (L + 1) is)
  fronts_by false is =
      inl (let ne : n ≢ L + 1 = λ e. (let yes1 = eq-eqb n (L + 1) e in cc) in omega arith)

-- over a longer front of the persistent part the next numbers are no less
pub next_longer : (h : History) (g : Guid) (i k : ℕ) → is_stored (start h) g ≡ true → IsHistory h
    → i ≤ k → k ≤ length (stored h)
    → next (over (start h) (take i (stored h))) g ≤ next (over (start h) (take k (stored h))) g
next_longer (Start v) g i k yes1 so le within =
    let a : i ≡ k =
    omega arith in subst (λ n. next (over v (take i [])) g ≤ next (over v (take n [])) g) a (omega arith)
next_longer (h ▸ e) g i k yes1 hist le within =
    subst (λ l. next (over (start h) (take i l)) g ≤ next (over (start h) (take k l)) g)
    (sym (stored_one h e))
    (longer_by (is_stored (start h) (writer_of e)) (subst (λ l. k ≤ length l) (stored_one h e) within) (λ j l a b. next_longer h g j l yes1 hist.0 a b)) where
      longer_by : (b : Bool) → k ≤ length (cond b (stored h ++ e ∷ []) (stored h))
          → ((j l : ℕ) → j ≤ l → l ≤ length (stored h) → next (over (start h) (take j (stored h))) g ≤ next (over (start h) (take l (stored h))) g)
          → next (over (start h) (take i (cond b (stored h ++ e ∷ []) (stored h)))) g ≤ next (over (start h) (take k (cond b (stored h ++ e ∷ []) (stored h)))) g
      longer_by false most so = so i k le most
      longer_by true most so =
          longer_at (fronts k (length (stored h)) (omega (arith, most, length-append (stored h) (e ∷ [])))) where
            early : (n : ℕ) → n ≤ length (stored h)
                → next (over (start h) (take n (stored h ++ e ∷ []))) g ≡ next (over (start h) (take n (stored h))) g
            early n few = ap (λ l. next (over (start h) l) g) (take-append-le n (stored h) (e ∷ []) few)

            late : (n : ℕ) → n ≡ length (stored h) + 1
                → next (over (start h) (take n (stored h ++ e ∷ []))) g ≡ next_by e g (next h g)
            late n is =
                ap (λ l. next (over (start h) l) g)
                (take_all n (stored h ++ e ∷ []) (omega (arith, is, length-append (stored h) (e ∷ []))))
                ∙ ap (λ q. next q g) (extend-push (Start (persistent_view (start h))) (stored h) e)
                ∙ ap (next_by e g) (next_stored h g yes1)

            all : next (over (start h) (take (length (stored h)) (stored h))) g ≡ next h g
            all =
                ap (λ l. next (over (start h) l) g)
                (take_all (length (stored h)) (stored h) (omega arith))
                ∙ next_stored h g yes1

            rises : next h g ≤ next_by e g (next h g)
            rises = next_rises h e g (next h g) hist.1.number refl

            longer_at : (k ≤ length (stored h)) ⊎ (k ≡ length (stored h) + 1)
                → next (over (start h) (take i (stored h ++ e ∷ []))) g ≤ next (over (start h) (take k (stored h ++ e ∷ []))) g
            longer_at (inl few) = omega (arith, early i (omega arith), early k few, so i k le few)
            longer_at (inr is) = longest (fronts i (length (stored h)) (omega arith)) where
              longest : (i ≤ length (stored h)) ⊎ (i ≡ length (stored h) + 1)
                  → next (over (start h) (take i (stored h ++ e ∷ []))) g ≤ next (over (start h) (take k (stored h ++ e ∷ []))) g
              longest (inl few) =
                  omega
                  (arith, early i few, late k is, all, rises, so i (length (stored h)) few (omega arith))
              longest (inr also) = omega (arith, late i also, late k is)

-- a history that other entries follow
pub record Grown (h h' : History) : Type 0 where
  pub begun : start h' ≡ start h
  pub more : List Entry
  pub kept : stored h' ≡ stored h ++ more

pub grown_refl : (h : History) → Grown h h
grown_refl h = record { begun = refl; more = []; kept = sym (append-nil (stored h)) }

pub grown_trans : (a b c : History) → Grown a b → Grown b c → Grown a c
grown_trans a b c x y = record {
  begun = y.begun ∙ x.begun;
  more = x.more ++ y.more;
  kept = y.kept ∙ ap (λ l. l ++ y.more) x.kept ∙ append_assoc (stored a) x.more y.more;
}

pub grown_by : (h : History) (es : List Entry) → Grown h (h +> es)
grown_by h es = let more = stored_extend h es in record {
  begun = start_extend h es;
  more = more.0;
  kept = more.1;
}

-- what is durable stays over growth
pub part_grown : (h h' : History) (d : ℕ) → Grown h h' → d ≤ length (stored h)
    → durable_part h' d ≡ durable_part h d
part_grown h h' d grown le =
    durable_is h' d ∙ ap (λ v. over v (take d (stored h'))) grown.begun
    ∙ ap (over (start h)) (ap (take d) grown.kept ∙ take-append-le d (stored h) grown.more le)
    ∙ sym (durable_is h d)

pub longer_grown : (h h' : History) (d : ℕ) → Grown h h' → d ≤ length (stored h)
    → d ≤ length (stored h')
longer_grown h h' d grown le =
    subst (λ l. d ≤ length l) (sym grown.kept)
    (omega (arith, le, length-append (stored h) grown.more))
