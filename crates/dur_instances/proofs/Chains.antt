-- The places of an instance, when some are emptied, and when there is one more.
use Rattle.std.proofs.Common.{◌≡◌, ℕ, zero, suc, ◌+◌, ◌<◌, ◌≤◌, Bool, true, false, cond, not, ◌&&◌, Option, Some, None, List, [], ◌∷◌, length, refl, sym, ap, ◌∙◌, subst, arith, eqb-true, ne_eqb, eq-eqb}
use Rattle.std.specs.Prelude.{filter, ◌==◌, ◌-◌, slice_get, slice_set, slice_index_or, option_and_then, unwrap_or}
use Rattle.std.proofs.lemmas.Slice.Eq.{bytes_eq-Decides}
use Rattle.dur_instances.specs.declared.changes.Change.{Change}
use Rattle.dur_instances.specs.declared.links.Place.{Place}
use Rattle.dur_view.specs.Identities.{Key}
use Rattle.dur_view.specs.Words.{is_key}
use Rattle.dur_instances.specs.Layout.{is_change_of, EachChange}
use Rattle.dur_instances.specs.Places.{is_past, with_change, kept_in, is_done, past_at, is_at, Link, Chain, IsOwn, Sinks}

at-same : (b i : ℕ) → i ≡ b → is_at b (Some i) ≡ true
at-same b i e = eq-eqb i b e

at-other : (b i : ℕ) → b < i → is_at b (Some i) ≡ false
at-other b i lt = ne_eqb i b (λ e. omega arith)

-- a chain from a place on begins at it or behind it
pub chain-from : (k : Key) (b i last : ℕ) (ps : List Place) → Chain k b (Some i) last ps → b ≤ i
chain-from k b i last [] c = absurd (cc)
chain-from k b i last (p ∷ ps) c = at (i == b) refl c.1 (λ rest. chain-from k (b + 1) i last ps rest)
  where
    at : (x : Bool) → (i == b) ≡ x → Chain k (b + 1) (cond x p.next (Some i)) last ps → (Chain k (b + 1) (Some i) last ps → b + 1 ≤ i) → b ≤ i
    at true e rest f = let same = eqb-true i b e in omega arith
    at false e rest f = let more = f rest in omega arith

pub not-here : (k : Key) (b last : ℕ) (at : Option ℕ) (ps : List Place) → Chain k (b + 1) at last ps → is_at b at ≡ false
not-here k b last None ps c = refl
not-here k b last (Some i) ps c = at-other b i (let le = chain-from k (b + 1) i last ps c in omega arith)

-- the place that is the next to look at
pub record Here (k : Key) (b d last : ℕ) (ps : List Place) (p : Place) : Type 0 where
  pub is : slice_get ps d ≡ Some p
  pub inside : d < length ps
  pub key : is_key p.key k ≡ true
  pub rises : (j : ℕ) → p.next ≡ Some j → b + d < j

pub here : (k : Key) (b d last : ℕ) (ps : List Place) (p : Place) → Chain k b (Some (b + d)) last ps → slice_get ps d ≡ Some p → Here k b d last ps p
here k b d last [] p c e = absurd (cc)
here k b zero last (p ∷ ps) q c e =
    let same = at-same b (b + 0) (omega arith) in
    let one : p ≡ q = cc in
    let rest : Chain k (b + 1) p.next last ps = subst (λ z. Chain k (b + 1) (cond z p.next (Some (b + 0))) last ps) same c.1 in
    subst (λ (z : Place). Here k b 0 last (p ∷ ps) z) one
    record { is = refl; inside = omega arith; key = c.0.own same; rises = λ j is. (let le = chain-from k (b + 1) j last ps (subst (λ o. Chain k (b + 1) o last ps) is rest) in omega arith) }
here k b (suc d) last (p ∷ ps) q c e =
    let other = at-other b (b + suc d) (omega arith) in
    let rest : Chain k (b + 1) (Some (b + suc d)) last ps = subst (λ z. Chain k (b + 1) (cond z p.next (Some (b + suc d))) last ps) other c.1 in
    let moved : b + suc d ≡ b + 1 + d = omega arith in
    let h = here k (b + 1) d last ps q (subst (λ n. Chain k (b + 1) (Some n) last ps) moved rest) e in
    let inside = h.inside in
    record { is = e; inside = omega arith; key = h.key; rises = λ j is. (let r = h.rises j is in omega arith) }

pub emptied : Place → Place
emptied p = record p { change = None }

-- It is emptied, and the next one is looked at.
pub chain-step : (k : Key) (b d last : ℕ) (ps : List Place) (p : Place) → Chain k b (Some (b + d)) last ps → slice_get ps d ≡ Some p → Chain k b p.next last (slice_set ps d (record p { change = None }))
chain-step k b d last [] p c e = absurd (cc)
chain-step k b zero last (p ∷ ps) q c e =
    let same = at-same b (b + 0) (omega arith) in
    let one : p ≡ q = cc in
    let rest : Chain k (b + 1) p.next last ps = subst (λ z. Chain k (b + 1) (cond z p.next (Some (b + 0))) last ps) same c.1 in
    let after = not-here k b last p.next ps rest in
    subst (λ (z : Place). Chain k b z.next last (record z { change = None } ∷ ps)) one
    (record { own = λ is. absurd (cc); ends = λ is. absurd (cc); empty = λ is own. refl }, subst (λ z. Chain k (b + 1) (cond z p.next p.next) last ps) (sym after) rest)
chain-step k b (suc d) last (p ∷ ps) q c e =
    let other = at-other b (b + suc d) (omega arith) in
    let rest : Chain k (b + 1) (Some (b + suc d)) last ps = subst (λ z. Chain k (b + 1) (cond z p.next (Some (b + suc d))) last ps) other c.1 in
    let moved : b + suc d ≡ b + 1 + d = omega arith in
    let tail = chain-step k (b + 1) d last ps q (subst (λ n. Chain k (b + 1) (Some n) last ps) moved rest) e in
    let after = not-here k b last q.next (slice_set ps d (record q { change = None })) tail in
    (record { own = λ is. absurd (cc); ends = λ is. absurd (cc); empty = λ is own. c.0.empty other own }, subst (λ z. Chain k (b + 1) (cond z p.next q.next) last (slice_set ps d (record q { change = None }))) (sym after) tail)

-- Emptying leaves what is linked linked.
pub chain-empty : (k : Key) (b d last : ℕ) (at : Option ℕ) (ps : List Place) (p : Place) → Chain k b at last ps → slice_get ps d ≡ Some p → Chain k b at last (slice_set ps d (record p { change = None }))
chain-empty k b d last at [] p c e = absurd (cc)
chain-empty k b zero last at (p ∷ ps) q c e =
    let one : p ≡ q = cc in
    subst (λ (z : Place). Chain k b at last (record z { change = None } ∷ ps)) one (record { own = c.0.own; ends = c.0.ends; empty = λ is own. refl }, c.1)
chain-empty k b (suc d) last at (p ∷ ps) q c e = (c.0, chain-empty k (b + 1) d last (cond (is_at b at) p.next at) ps q c.1 e)

pub own-empty : (d : ℕ) (ps : List Place) (p : Place) → IsOwn ps → slice_get ps d ≡ Some p → IsOwn (slice_set ps d (record p { change = None }))
own-empty d [] p own e = absurd (cc)
own-empty zero (p ∷ ps) q own e = (λ c is. absurd (cc), own.1)
own-empty (suc d) (p ∷ ps) q own e = (own.0, own-empty d ps q own.1 e)

-- what stays of what is kept
drops : Key → Option ℕ → ℕ → Change → Bool
drops k depth count c = is_change_of k c && is_past depth count c

kept-head : (test : Change → Bool) (o : Option Change) (xs ys : List Change) → filter test xs ≡ filter test ys → filter test (with_change o xs) ≡ filter test (with_change o ys)
kept-head test None xs ys e = e
kept-head test (Some c) xs ys e = ap (λ l. cond (test c) (c ∷ l) l) e

kept-drop : (test : Change → Bool) (o : Option Change) (xs : List Change) → ((c : Change) → o ≡ Some c → test c ≡ false) → filter test xs ≡ filter test (with_change o xs)
kept-drop test None xs un = refl
kept-drop test (Some c) xs un = sym (ap (λ b. cond b (c ∷ filter test xs) (filter test xs)) (un c refl))

pub kept-step : (test : Change → Bool) (d : ℕ) (ps : List Place) (p : Place) → slice_get ps d ≡ Some p → ((c : Change) → p.change ≡ Some c → test c ≡ false)
    → filter test (kept_in (slice_set ps d (record p { change = None }))) ≡ filter test (kept_in ps)
kept-step test d [] p e un = absurd (cc)
kept-step test zero (p ∷ ps) q e un = let one : p ≡ q = cc in kept-drop test p.change (kept_in ps) (λ c is. un c (ap (λ (z : Place). z.change) (sym one) ∙ is))
kept-step test (suc d) (p ∷ ps) q e un = kept-head test p.change _ _ (kept-step test d ps q e un)

each-with : (P : Change → Type 0) (o : Option Change) (xs : List Change) → EachChange P (with_change o xs) → EachChange P xs
each-with P None xs each = each
each-with P (Some c) xs each = each.1

each-again : (P : Change → Type 0) (o : Option Change) (xs ys : List Change) → EachChange P (with_change o xs) → (EachChange P xs → EachChange P ys) → EachChange P (with_change o ys)
each-again P None xs ys each f = f each
each-again P (Some c) xs ys each f = (each.0, f each.1)

each-step : (P : Change → Type 0) (d : ℕ) (ps : List Place) (p : Place) → EachChange P (kept_in ps) → EachChange P (kept_in (slice_set ps d (record p { change = None })))
each-step P d [] p each = each
each-step P zero (q ∷ ps) p each = each-with P q.change (kept_in ps) each
each-step P (suc d) (q ∷ ps) p each = each-again P q.change (kept_in ps) _ each (λ rest. each-step P d ps p rest)

pub sinks-step : (k : Key) (depth : Option ℕ) (count d : ℕ) (ps : List Place) (p : Place) → Sinks k depth count (kept_in ps) → Sinks k depth count (kept_in (slice_set ps d (record p { change = None })))
sinks-step k depth count d [] p s = s
sinks-step k depth count zero (q ∷ ps) p s = at q.change s
  where
    at : (o : Option Change) → Sinks k depth count (with_change o (kept_in ps)) → Sinks k depth count (kept_in ps)
    at None s = s
    at (Some c) s = s.1
sinks-step k depth count (suc d) (q ∷ ps) p s = at q.change s (λ rest. sinks-step k depth count d ps p rest)
  where
    at : (o : Option Change) → Sinks k depth count (with_change o (kept_in ps)) → (Sinks k depth count (kept_in ps) → Sinks k depth count (kept_in (slice_set ps d (record p { change = None }))))
        → Sinks k depth count (with_change o (kept_in (slice_set ps d (record p { change = None }))))
    at None s f = f s
    at (Some c) s f = (each-step _ d ps p s.0, f s.1)

-- where nothing more is to be emptied, all that is kept of the instance stays
all-stay : (test : Change → Bool) (xs : List Change) → EachChange (λ c. test c ≡ true) xs → filter test xs ≡ xs
all-stay test [] each = refl
all-stay test (c ∷ xs) each = ap (λ b. cond b (c ∷ filter test xs) (filter test xs)) each.0 ∙ ap (λ l. c ∷ l) (all-stay test xs each.1)

each-weaken : (P Q : Change → Type 0) → ((c : Change) → P c → Q c) → (xs : List Change) → EachChange P xs → EachChange Q xs
each-weaken P Q f [] each = tt
each-weaken P Q f (c ∷ xs) each = (f c each.0, each-weaken P Q f xs each.1)

stays-own : (o s : Bool) → (o ≡ true → s ≡ false) → not (o && s) ≡ true
stays-own true true f = absurd (let x = f refl in cc)
stays-own true false f = refl
stays-own false s f = refl

key-same : (a b : Key) → is_key a b ≡ true → a ≡ b
key-same a b e = (bytes_eq-Decides a b).0 e

nothing-done : (depth : Option ℕ) (count b d : ℕ) (ps : List Place) → Option ℕ → Type 0
nothing-done depth count b d ps at = (i : ℕ) (p : Place) → at ≡ Some (b + i) → slice_get ps i ≡ Some p → is_done depth count p.change ≡ false

module _ (k : Key) (depth : Option ℕ) (count : ℕ) where
  abbrev pub stays : Change → Bool
  stays c = not (is_change_of k c && is_past depth count c)

  -- what is kept behind a place
  abbrev Later : ℕ → ℕ → Option ℕ → List Place → Type 0
  Later b last at ps = Chain k (b + 1) at last ps → Sinks k depth count (kept_in ps) → EachChange (λ c. stays c ≡ true) (kept_in ps)

  one-stays : (b last : ℕ) (at : Option ℕ) (p : Place) (ps : List Place) (o : Option Change) → p.change ≡ o → is_at b at ≡ false → Chain k b at last (p ∷ ps) → IsOwn (p ∷ ps) → Sinks k depth count (with_change o (kept_in ps))
      → Later b last at ps → EachChange (λ c. stays c ≡ true) (with_change o (kept_in ps))
  one-stays b last at p ps None is off c own s f = f (subst (λ z. Chain k (b + 1) (cond z p.next at) last ps) off c.1) s
  one-stays b last at p ps (Some d) is off c own s f = (
    stays-own (is_change_of k d) (is_past depth count d) (λ mine. absurd (let key = own.0 d is in let e : is_key p.key k ≡ true = subst (λ (z : Key). is_key z k ≡ true) key mine in let gone = c.0.empty off e in cc)),
    f (subst (λ z. Chain k (b + 1) (cond z p.next at) last ps) off c.1) s.1,
  )

  at-false : (z w : Bool) → w ≡ false → (z ≡ true → w ≡ true) → z ≡ false
  at-false true w e f = absurd (let x = f refl in cc)
  at-false false w e f = refl

  found-stays : (b last : ℕ) (at : Option ℕ) (p : Place) (ps : List Place) (o : Option Change) → p.change ≡ o → is_at b at ≡ true → Link k b at last p → IsOwn (p ∷ ps) → Sinks k depth count (with_change o (kept_in ps))
      → is_done depth count o ≡ false → EachChange (λ c. stays c ≡ true) (with_change o (kept_in ps))
  found-stays b last at p ps None is on c own s done = absurd (cc)
  found-stays b last at p ps (Some d) is on c own s done =
      let key : d.sample.key ≡ p.key = own.0 d is in
      let mine : is_change_of k d ≡ true = subst (λ (z : Key). is_key z k ≡ true) (sym key) (c.own on) in
      (stays-own (is_change_of k d) (is_past depth count d) (λ m. done), each-weaken _ _ (λ x f. stays-own (is_change_of k x) (is_past depth count x) (λ m. at-false (is_past depth count x) (is_past depth count d) done (f mine m))) (kept_in ps) s.0)

  here-is : (b : ℕ) (o : Option ℕ) → is_at b o ≡ true → o ≡ Some (b + 0)
  here-is b None e = absurd (cc)
  here-is b (Some i) e = let s = eqb-true i b e in ap (λ n. Some n) (omega arith)

  pub each-stays : (b last : ℕ) (at : Option ℕ) (ps : List Place) → Chain k b at last ps → IsOwn ps → Sinks k depth count (kept_in ps)
      → ((i : ℕ) (p : Place) → at ≡ Some (b + i) → slice_get ps i ≡ Some p → is_done depth count p.change ≡ false)
      → EachChange (λ c. stays c ≡ true) (kept_in ps)
  each-stays b last at [] c own sinks left = tt
  each-stays b last at (p ∷ ps) c own sinks left = go (is_at b at) refl (λ rest s. each-stays (b + 1) last at ps rest own.1 s (λ i q is e. left (suc i) q (is ∙ ap (λ n. Some n) (omega arith)) e))
    where
      go : (z : Bool) → is_at b at ≡ z → Later b last at ps → EachChange (λ c. stays c ≡ true) (with_change p.change (kept_in ps))
      go false e f = one-stays b last at p ps p.change refl e c own sinks f
      go true e f = found-stays b last at p ps p.change refl e c.0 own sinks (left 0 p (here-is b at e) refl)

  pub all-left : (last : ℕ) (at : Option ℕ) (ps : List Place) → Chain k 0 at last ps → IsOwn ps → Sinks k depth count (kept_in ps)
      → ((i : ℕ) (p : Place) → at ≡ Some i → slice_get ps i ≡ Some p → is_done depth count p.change ≡ false)
      → filter stays (kept_in ps) ≡ kept_in ps
  all-left last at ps c own sinks left = all-stay stays (kept_in ps) (each-stays 0 last at ps c own sinks (λ i p is e. left i p (is ∙ ap (λ n. Some n) (omega arith)) e))

-- what is told of the place to look at
pub record Past (depth : Option ℕ) (count : ℕ) (ps : List Place) (at : Option ℕ) (i : ℕ) : Type 0 where
  pub is : at ≡ Some i
  pub place : Place
  pub there : slice_get ps i ≡ Some place
  pub done : is_done depth count place.change ≡ true

pub past-some : (depth : Option ℕ) (count : ℕ) (ps : List Place) (at : Option ℕ) (i : ℕ) → past_at depth count ps at ≡ Some i → Past depth count ps at i
past-some depth count ps None i e = absurd (cc)
past-some depth count ps (Some j) i e = go (slice_get ps j) refl e
  where
    go : (o : Option Place) → slice_get ps j ≡ o → option_and_then (λ p. cond (is_done depth count p.change) (Some j) None) o ≡ Some i → Past depth count ps (Some j) i
    go None is e = absurd (cc)
    go (Some p) is e = done (is_done depth count p.change) refl e
      where
        done : (b : Bool) → is_done depth count p.change ≡ b → cond b (Some j) None ≡ Some i → Past depth count ps (Some j) i
        done true d e = let same : j ≡ i = cc in record { is = e; place = p; there = subst (λ n. slice_get ps n ≡ Some p) same is; done = d }
        done false d e = absurd (cc)

pub past-none : (depth : Option ℕ) (count : ℕ) (ps : List Place) (at : Option ℕ) → past_at depth count ps at ≡ None → (i : ℕ) (p : Place) → at ≡ Some i → slice_get ps i ≡ Some p → is_done depth count p.change ≡ false
past-none depth count ps at e i p is there = go (is_done depth count p.change) refl
  where
    go : (b : Bool) → is_done depth count p.change ≡ b → b ≡ false
    go false d = refl
    go true d =
        absurd (let whole : past_at depth count ps at ≡ Some i = ap (past_at depth count ps) is ∙ ap (λ o. option_and_then (λ p. cond (is_done depth count p.change) (Some i) None) o) there ∙ ap (λ b. cond b (Some i) None) d in cc)

index-at : (ps : List Place) (i : ℕ) (p d : Place) → slice_get ps i ≡ Some p → slice_index_or ps i d ≡ p
index-at [] i p d e = absurd (cc)
index-at (q ∷ ps) zero p d e = cc
index-at (q ∷ ps) (suc i) p d e = index-at ps i p d e

length-at : (ps : List Place) (i : ℕ) (q : Place) → length (slice_set ps i q) ≡ length ps
length-at [] i q = refl
length-at (p ∷ ps) zero q = refl
length-at (p ∷ ps) (suc i) q = ap suc (length-at ps i q)

-- one place more was looked at
pub record Stepped (k : Key) (depth : Option ℕ) (count last : ℕ) (ps : List Place) (at next : Option ℕ) (qs : List Place) : Type 0 where
  pub chain : Chain k 0 next last qs
  pub own : IsOwn qs
  pub sinks : Sinks k depth count (kept_in qs)
  pub items : filter (stays k depth count) (kept_in qs) ≡ filter (stays k depth count) (kept_in ps)
  pub others : (j : Key) (f : Option ℕ) (n : ℕ) → Chain j 0 f n ps → Chain j 0 f n qs
  pub len : length qs ≡ length ps
  pub smaller : length qs - unwrap_or next (length qs) < length ps - unwrap_or at (length ps)

gone-test : (k : Key) (depth : Option ℕ) (count : ℕ) (c : Change) → is_change_of k c ≡ true → is_past depth count c ≡ true → stays k depth count c ≡ false
gone-test k depth count c a b = ap (λ z. not (z && is_past depth count c)) a ∙ ap not b

stepped-at : (k : Key) (depth : Option ℕ) (count last : ℕ) (ps : List Place) (at : Option ℕ) (i : ℕ) (p : Place) → at ≡ Some i → slice_get ps i ≡ Some p → is_done depth count p.change ≡ true
    → Chain k 0 at last ps → IsOwn ps → Sinks k depth count (kept_in ps) → Stepped k depth count last ps at p.next (slice_set ps i (record p { change = None }))
stepped-at k depth count last ps at i p is there done chain own sinks =
    let from : Chain k 0 (Some (0 + i)) last ps = subst (λ o. Chain k 0 o last ps) (is ∙ ap (λ n. Some n) (omega arith)) chain in
    let h = here k 0 i last ps p from there in
    let inside = h.inside in
    let len = length-at ps i (record p { change = None }) in
    record {
      chain = chain-step k 0 i last ps p from there;
      own = own-empty i ps p own there;
      sinks = sinks-step k depth count i ps p sinks;
      items = kept-step (stays k depth count) i ps p there (λ c c-is. gone-test k depth count c
          (let key = owned ps i own there c c-is in subst (λ (z : Key). is_key z k ≡ true) (sym key) h.key)
          (ap (is_done depth count) (sym c-is) ∙ done));
      others = λ j f n c. chain-empty j 0 i n f ps p c there;
      len = len;
      smaller = next p.next refl;
    }
  where
    owned : (ps : List Place) (i : ℕ) → IsOwn ps → slice_get ps i ≡ Some p → (c : Change) → p.change ≡ Some c → c.sample.key ≡ p.key
    owned [] i own e c c-is = absurd (cc)
    owned (q ∷ ps) zero own e c c-is = let one : q ≡ p = cc in subst (λ (z : Place). c.sample.key ≡ z.key) one (own.0 c (ap (λ (z : Place). z.change) one ∙ c-is))
    owned (q ∷ ps) (suc i) own e c c-is = owned ps i own.1 e c c-is

    next : (o : Option ℕ) → p.next ≡ o → length (slice_set ps i (record p { change = None })) - unwrap_or o (length (slice_set ps i (record p { change = None }))) < length ps - unwrap_or at (length ps)
    next None e =
        let len = length-at ps i (record p { change = None }) in
        let from : Chain k 0 (Some (0 + i)) last ps = subst (λ o. Chain k 0 o last ps) (is ∙ ap (λ n. Some n) (omega arith)) chain in
        let inside = (here k 0 i last ps p from there).inside in
        let at-is : unwrap_or at (length ps) ≡ i = ap (λ o. unwrap_or o (length ps)) is in
        omega arith
    next (Some j) e =
        let len = length-at ps i (record p { change = None }) in
        let from : Chain k 0 (Some (0 + i)) last ps = subst (λ o. Chain k 0 o last ps) (is ∙ ap (λ n. Some n) (omega arith)) chain in
        let h = here k 0 i last ps p from there in
        let inside = h.inside in
        let rises = h.rises j e in
        let at-is : unwrap_or at (length ps) ≡ i = ap (λ o. unwrap_or o (length ps)) is in
        omega arith

pub stepped : (k : Key) (depth : Option ℕ) (count last : ℕ) (ps : List Place) (at : Option ℕ) (i : ℕ) (d q : Place) (next : Option ℕ) → past_at depth count ps at ≡ Some i
    → q ≡ record (slice_index_or ps i d) { change = None } → next ≡ (slice_index_or ps i d).next → Chain k 0 at last ps → IsOwn ps → Sinks k depth count (kept_in ps) → Stepped k depth count last ps at next (slice_set ps i q)
stepped k depth count last ps at i d q next e q-is next-is chain own sinks =
    let p = past-some depth count ps at i e in
    let x = slice_index_or ps i d in
    let one : p.place ≡ x = sym (index-at ps i p.place d p.there) in
    let old = stepped-at k depth count last ps at i p.place p.is p.there p.done chain own sinks in
    let moved : Stepped k depth count last ps at x.next (slice_set ps i (record x { change = None })) = subst (λ (z : Place). Stepped k depth count last ps at z.next (slice_set ps i (record z { change = None }))) one old in
    subst (λ (o : Option ℕ). Stepped k depth count last ps at o (slice_set ps i q)) (sym next-is) (subst (λ (z : Place). Stepped k depth count last ps at x.next (slice_set ps i z)) (sym q-is) moved)
