-- The places of an instance, with one more.
use Rattle.std.proofs.Common.{◌≡◌, ℕ, zero, suc, ◌+◌, ◌<◌, ◌≤◌, Bool, true, false, cond, Option, Some, None, List, [], ◌∷◌, ◌++◌, length, refl, sym, ap, ◌∙◌, subst, arith, eqb-true, ne_eqb, eq-eqb}
use Rattle.std.specs.Prelude.{◌==◌, slice_get, slice_set, slice_index_or}
use Rattle.std.specs.HashMap.{HashMap}
use Rattle.std.proofs.lemmas.Slice.Eq.{bytes_eq-Decides}
use Rattle.dur_instances.specs.declared.changes.Change.{Change}
use Rattle.dur_instances.specs.declared.links.Place.{Place}
use Rattle.dur_instances.specs.declared.order.Ends.{Ends}
use Rattle.dur_view.specs.Identities.{Key}
use Rattle.dur_view.specs.Words.{is_key}
use Rattle.dur_instances.specs.Places.{with_change, kept_in, is_at, Chain, IsOwn, IsLinked, found, first_in, last_in, set_next, linked, first_with}
use Rattle.dur_instances.proofs.Chains.{chain-from}

-- the last one of a chain is behind its first one
chain-last : (k : Key) (b i last : ℕ) (ps : List Place) → Chain k b (Some i) last ps → i ≤ last
chain-last k b i last [] c = absurd (cc)
chain-last k b i last (p ∷ ps) c = at (i == b) refl c.1 (λ j rest. chain-last k (b + 1) j last ps rest)
  where
    here : (o : Option ℕ) → p.next ≡ o → i ≡ b → Chain k (b + 1) o last ps → ((j : ℕ) → Chain k (b + 1) (Some j) last ps → j ≤ last) → i ≤ last
    here None e same rest f = let l = c.0.ends (eq-eqb i b same) e in omega arith
    here (Some j) e same rest f = let from = chain-from k (b + 1) j last ps rest in let l = f j rest in omega arith

    at : (x : Bool) → (i == b) ≡ x → Chain k (b + 1) (cond x p.next (Some i)) last ps → ((j : ℕ) → Chain k (b + 1) (Some j) last ps → j ≤ last) → i ≤ last
    at true e rest f = here p.next refl (eqb-true i b e) rest f
    at false e rest f = f i rest

moved : (k : Key) (b d : ℕ) (o : Option ℕ) (ps : List Place) → Chain k (b + 1) o (b + suc d) ps → Chain k (b + 1) o (b + 1 + d) ps
moved k b d o ps rest = subst (λ n. Chain k (b + 1) o n ps) (let s : b + suc d ≡ b + 1 + d = omega arith in s) rest

-- the last place is one of the instance
pub last-key : (k : Key) (b i d : ℕ) (ps : List Place) (p : Place) → Chain k b (Some i) (b + d) ps → slice_get ps d ≡ Some p → is_key p.key k ≡ true
last-key k b i d [] p c e = absurd (cc)
last-key k b i zero (q ∷ ps) p c e = at (i == b) refl c.1
  where
    at : (x : Bool) → (i == b) ≡ x → Chain k (b + 1) (cond x q.next (Some i)) (b + 0) ps → is_key p.key k ≡ true
    at true is rest = let one : q ≡ p = cc in subst (λ (z : Place). is_key z.key k ≡ true) one (c.0.own is)
    at false is rest = absurd (let from = chain-from k (b + 1) i (b + 0) ps rest in let l = chain-last k (b + 1) i (b + 0) ps rest in omega arith)
last-key k b i (suc d) (q ∷ ps) p c e = at (i == b) refl c.1 (λ j rest. last-key k (b + 1) j d ps p (moved k b d (Some j) ps rest) e)
  where
    here : (o : Option ℕ) → q.next ≡ o → is_at b (Some i) ≡ true → Chain k (b + 1) o (b + suc d) ps → ((j : ℕ) → Chain k (b + 1) (Some j) (b + suc d) ps → is_key p.key k ≡ true) → is_key p.key k ≡ true
    here None n is rest f = absurd (let l = c.0.ends is n in omega arith)
    here (Some j) n is rest f = f j rest

    at : (x : Bool) → (i == b) ≡ x → Chain k (b + 1) (cond x q.next (Some i)) (b + suc d) ps → ((j : ℕ) → Chain k (b + 1) (Some j) (b + suc d) ps → is_key p.key k ≡ true) → is_key p.key k ≡ true
    at true is rest f = here q.next refl is rest f
    at false is rest f = f i rest

fresh : Key → Change → Place
fresh k c = record { key = k; next = None; change = Some c }

-- where none was kept
pub push-first : (k : Key) (b last n : ℕ) (ps : List Place) (new : Place) → Chain k b None last ps → n ≡ b + length ps → is_key new.key k ≡ true → new.next ≡ None → Chain k b (Some n) n (ps ++ new ∷ [])
push-first k b last n [] new c is own none =
    let same : is_at b (Some n) ≡ true = eq-eqb n b (omega arith) in
    (record { own = λ e. own; ends = λ e f. omega arith; empty = λ e f. absurd (cc) }, subst (λ z. cond z new.next (Some n) ≡ None) (sym same) none)
push-first k b last n (p ∷ ps) new c is own none =
    let other : is_at b (Some n) ≡ false = ne_eqb n b (λ e. omega arith) in (
      record { own = λ e. absurd (cc); ends = λ e f. absurd (cc); empty = λ e f. c.0.empty refl f },
      subst (λ z. Chain k (b + 1) (cond z p.next (Some n)) n (ps ++ new ∷ [])) (sym other) (push-first k (b + 1) last n ps new c.1 (omega arith) own none),
    )

-- behind the last one
pub push-own : (k : Key) (b i d n : ℕ) (ps : List Place) (new : Place) → Chain k b (Some i) (b + d) ps → n ≡ b + length ps → is_key new.key k ≡ true → new.next ≡ None → Chain k b (Some i) n (set_next d n ps ++ new ∷ [])
push-own k b i d n [] new c is own none = absurd (cc)
push-own k b i zero n (p ∷ ps) new c is own none = at (i == b) refl c.1
  where
    here : (o : Option ℕ) → p.next ≡ o → is_at b (Some i) ≡ true → Chain k (b + 1) o (b + 0) ps → Chain k b (Some i) n (set_next 0 n (p ∷ ps) ++ new ∷ [])
    here None e same rest = (
      record { own = λ f. c.0.own f; ends = λ f g. absurd (cc); empty = λ f g. absurd (cc) },
      subst (λ z. Chain k (b + 1) (cond z (Some n) (Some i)) n (ps ++ new ∷ [])) (sym same) (push-first k (b + 1) (b + 0) n ps new rest (omega arith) own none),
    )
    here (Some j) e same rest = absurd (let from = chain-from k (b + 1) j (b + 0) ps rest in let l = chain-last k (b + 1) j (b + 0) ps rest in omega arith)

    at : (x : Bool) → (i == b) ≡ x → Chain k (b + 1) (cond x p.next (Some i)) (b + 0) ps → Chain k b (Some i) n (set_next 0 n (p ∷ ps) ++ new ∷ [])
    at true is-at rest = here p.next refl is-at rest
    at false is-at rest = absurd (let from = chain-from k (b + 1) i (b + 0) ps rest in let l = chain-last k (b + 1) i (b + 0) ps rest in omega arith)
push-own k b i (suc y) n (p ∷ ps) new c is own none = at (i == b) refl c.1 (λ j rest. push-own k (b + 1) j y n ps new (moved k b y (Some j) ps rest) (omega arith) own none)
  where
    More : Type 0
    More = (j : ℕ) → Chain k (b + 1) (Some j) (b + suc y) ps → Chain k (b + 1) (Some j) n (set_next y n ps ++ new ∷ [])

    here : (o : Option ℕ) → p.next ≡ o → is_at b (Some i) ≡ true → Chain k (b + 1) o (b + suc y) ps → More → Chain k b (Some i) n (p ∷ set_next y n ps ++ new ∷ [])
    here None e same rest f = absurd (let l = c.0.ends same e in omega arith)
    here (Some j) e same rest f = (
      record { own = λ g. c.0.own g; ends = λ g h. absurd (cc); empty = λ g h. absurd (cc) },
      subst (λ z. Chain k (b + 1) (cond z p.next (Some i)) n (set_next y n ps ++ new ∷ [])) (sym same)
          (subst (λ o. Chain k (b + 1) o n (set_next y n ps ++ new ∷ [])) (sym e) (f j rest)),
    )

    at : (x : Bool) → (i == b) ≡ x → Chain k (b + 1) (cond x p.next (Some i)) (b + suc y) ps → More → Chain k b (Some i) n (p ∷ set_next y n ps ++ new ∷ [])
    at true is-at rest f = here p.next refl is-at rest f
    at false is-at rest f = (
      record { own = λ g. absurd (cc); ends = λ g h. absurd (cc); empty = λ g h. c.0.empty is-at h },
      subst (λ z. Chain k (b + 1) (cond z p.next (Some i)) n (set_next y n ps ++ new ∷ [])) (sym is-at) (f i rest),
    )

-- One of another instance.
pub push-other : (k : Key) (b last : ℕ) (at : Option ℕ) (ps : List Place) (new : Place) → Chain k b at last ps → is_key new.key k ≡ false → Chain k b at last (ps ++ new ∷ [])
push-other k b last at [] new c other = go at c
  where
    go : (o : Option ℕ) → o ≡ None → Chain k b o last (new ∷ [])
    go None e = (record { own = λ f. absurd (cc); ends = λ f g. absurd (cc); empty = λ f g. absurd (cc) }, refl)
    go (Some i) e = absurd (cc)
push-other k b last at (p ∷ ps) new c other = (c.0, push-other k (b + 1) last (cond (is_at b at) p.next at) ps new c.1 other)

pub set-other : (k : Key) (b last : ℕ) (at : Option ℕ) (ps : List Place) (d n : ℕ) → Chain k b at last ps → ((p : Place) → slice_get ps d ≡ Some p → is_key p.key k ≡ false) → Chain k b at last (set_next d n ps)
set-other k b last at [] d n c other = c
set-other k b last at (p ∷ ps) zero n c other =
    let no = other p refl in
    let not_at : is_at b at ≡ false = go (is_at b at) refl in
    (record { own = λ f. c.0.own f; ends = λ f g. absurd (cc); empty = c.0.empty }, subst (λ z. Chain k (b + 1) (cond z (Some n) at) last ps) (sym not_at) (subst (λ z. Chain k (b + 1) (cond z p.next at) last ps) not_at c.1))
  where
    go : (x : Bool) → is_at b at ≡ x → x ≡ false
    go true e = absurd (let a = c.0.own e in let no = other p refl in cc)
    go false e = refl
set-other k b last at (p ∷ ps) (suc d) n c other = (c.0, set-other k (b + 1) last (cond (is_at b at) p.next at) ps d n c.1 other)

-- what is kept
pub kept-set : (d n : ℕ) (ps : List Place) → kept_in (set_next d n ps) ≡ kept_in ps
kept-set d n [] = refl
kept-set zero n (p ∷ ps) = refl
kept-set (suc d) n (p ∷ ps) = ap (with_change p.change) (kept-set d n ps)

pub kept-push : (ps : List Place) (new : Place) (c : Change) → new.change ≡ Some c → kept_in (ps ++ new ∷ []) ≡ kept_in ps ++ c ∷ []
kept-push [] new c is = ap (λ o. with_change o []) is
kept-push (p ∷ ps) new c is = at p.change (kept-push ps new c is)
  where
    at : (o : Option Change) → kept_in (ps ++ new ∷ []) ≡ kept_in ps ++ c ∷ [] → with_change o (kept_in (ps ++ new ∷ [])) ≡ with_change o (kept_in ps) ++ c ∷ []
    at None rest = rest
    at (Some x) rest = ap (λ l. x ∷ l) rest

pub own-set : (d n : ℕ) (ps : List Place) → IsOwn ps → IsOwn (set_next d n ps)
own-set d n [] own = own
own-set zero n (p ∷ ps) own = (own.0, own.1)
own-set (suc d) n (p ∷ ps) own = (own.0, own-set d n ps own.1)

pub own-push : (ps : List Place) (new : Place) → IsOwn ps → ((c : Change) → new.change ≡ Some c → c.sample.key ≡ new.key) → IsOwn (ps ++ new ∷ [])
own-push [] new own is = (is, tt)
own-push (p ∷ ps) new own is = (own.0, own-push ps new own.1 is)

pub set-is : (ps : List Place) (d n : ℕ) (x : Place) → d < length ps → slice_set ps d (record (slice_index_or ps d x) { next = Some n }) ≡ set_next d n ps
set-is [] d n x lt = absurd (omega arith)
set-is (p ∷ ps) zero n x lt = refl
set-is (p ∷ ps) (suc d) n x lt = ap (λ l. p ∷ l) (set-is ps d n x (omega arith))

pub length-next : (d n : ℕ) (ps : List Place) → length (set_next d n ps) ≡ length ps
length-next d n [] = refl
length-next zero n (p ∷ ps) = refl
length-next (suc d) n (p ∷ ps) = ap suc (length-next d n ps)

-- the last one is one of the places
pub chain-end : (k : Key) (b i last : ℕ) (ps : List Place) → Chain k b (Some i) last ps → last < b + length ps
chain-end k b i last [] c = absurd (cc)
chain-end k b i last (p ∷ ps) c = at (i == b) refl c.1 (λ j rest. chain-end k (b + 1) j last ps rest)
  where
    here : (o : Option ℕ) → p.next ≡ o → i ≡ b → Chain k (b + 1) o last ps → ((j : ℕ) → Chain k (b + 1) (Some j) last ps → last < b + 1 + length ps) → last < b + length (p ∷ ps)
    here None e same rest f = let l = c.0.ends (eq-eqb i b same) e in omega arith
    here (Some j) e same rest f = let l = f j rest in omega arith

    at : (x : Bool) → (i == b) ≡ x → Chain k (b + 1) (cond x p.next (Some i)) last ps → ((j : ℕ) → Chain k (b + 1) (Some j) last ps → last < b + 1 + length ps) → last < b + length (p ∷ ps)
    at true e rest f = here p.next refl (eqb-true i b e) rest f
    at false e rest f = let l = f i rest in omega arith

-- One more of the instance.
pub linked-own : (k : Key) (at : Option ℕ) (last : ℕ) (ps : List Place) (new : Place) → Chain k 0 at last ps → is_key new.key k ≡ true → new.next ≡ None
    → Chain k 0 (Some (first_with at (length ps))) (length ps) (linked at last (length ps) ps ++ new ∷ [])
linked-own k None last ps new c own none = push-first k 0 last (length ps) ps new c (omega arith) own none
linked-own k (Some i) last ps new c own none = push-own k 0 i last (length ps) ps new (subst (λ n. Chain k 0 (Some i) n ps) (let s : last ≡ 0 + last = omega arith in s) c) (omega arith) own none

key-eq : (a b : Key) → is_key a b ≡ true → a ≡ b
key-eq a b e = (bytes_eq-Decides a b).0 e

pub linked-other : (k j : Key) (at f : Option ℕ) (last n : ℕ) (ps : List Place) (new : Place) → Chain k 0 at last ps → Chain j 0 f n ps → is_key new.key k ≡ true → is_key k j ≡ false
    → Chain j 0 f n (linked at last (length ps) ps ++ new ∷ [])
linked-other k j at f last n ps new c d own other =
    let new-other : is_key new.key j ≡ false = subst (λ (z : Key). is_key z j ≡ false) (sym (key-eq new.key k own)) other in
    push-other j 0 n f (linked at last (length ps) ps) new (go at c) new-other
  where
    go : (o : Option ℕ) → Chain k 0 o last ps → Chain j 0 f n (linked o last (length ps) ps)
    go None c = d
    go (Some i) c =
        set-other j 0 n f ps last (length ps) d
        (λ p is. (let key = key-eq p.key k (last-key k 0 i last ps p (subst (λ z. Chain k 0 (Some i) z ps) (let s : last ≡ 0 + last = omega arith in s) c) is) in subst (λ (z : Key). is_key z j ≡ false) (sym key) other))

pub linked-own-all : (at : Option ℕ) (last : ℕ) (ps : List Place) (new : Place) → IsOwn ps → ((c : Change) → new.change ≡ Some c → c.sample.key ≡ new.key) → IsOwn (linked at last (length ps) ps ++ new ∷ [])
linked-own-all None last ps new own is = own-push ps new own is
linked-own-all (Some i) last ps new own is = own-push (set_next last (length ps) ps) new (own-set last (length ps) ps own) is

pub linked-kept : (at : Option ℕ) (last : ℕ) (ps : List Place) (new : Place) (c : Change) → new.change ≡ Some c → kept_in (linked at last (length ps) ps ++ new ∷ []) ≡ kept_in ps ++ c ∷ []
linked-kept None last ps new c is = kept-push ps new c is
linked-kept (Some i) last ps new c is = kept-push (set_next last (length ps) ps) new c is ∙ ap (λ l. l ++ c ∷ []) (kept-set last (length ps) ps)

-- what is known of the places stays so
pub linked-all : (ends ends2 : Key → Option Ends) (k : Key) (of : Ends) (qs : List Place) → ((j : Key) → ends2 j ≡ cond (is_key k j) (Some of) (ends j)) → Chain k 0 of.first of.last qs
    → ((j : Key) → is_key k j ≡ false → Chain j 0 (first_in (ends j)) (last_in (ends j)) qs)
    → (j : Key) → Chain j 0 (first_in (ends2 j)) (last_in (ends2 j)) qs
linked-all ends ends2 k of qs is own others j = go (is_key k j) refl
  where
    go : (b : Bool) → is_key k j ≡ b → Chain j 0 (first_in (ends2 j)) (last_in (ends2 j)) qs
    go true e = subst (λ (o : Option Ends). Chain j 0 (first_in o) (last_in o) qs) (sym (is j ∙ ap (λ b. cond b (Some of) (ends j)) e)) (subst (λ (z : Key). Chain z 0 of.first of.last qs) (key-eq k j e) own)
    go false e = subst (λ (o : Option Ends). Chain j 0 (first_in o) (last_in o) qs) (sym (is j ∙ ap (λ b. cond b (Some of) (ends j)) e)) (others j e)

pub chained : {S : Type 0} (ends : HashMap (List ℕ) Ends S) (k : Key) (ps : List Place) (f : Option ℕ) (l : ℕ) (o : Option Ends) → IsLinked ends ps → o ≡ found ends k → f ≡ first_in o → l ≡ last_in o → Chain k 0 f l ps
chained ends k ps f l o links is f-is l-is =
    subst (λ x. Chain k 0 x l ps) (sym (f-is ∙ ap first_in is)) (subst (λ n. Chain k 0 (first_in (found ends k)) n ps) (sym (l-is ∙ ap last_in is)) (links.chains k))

-- one change more, at the end
pub record Added (k : Key) (n first : ℕ) (ps qs : List Place) (c : Change) : Type 0 where
  pub chain : Chain k 0 (Some first) n qs
  pub own : IsOwn qs
  pub kept : kept_in qs ≡ kept_in ps ++ c ∷ []
  pub others : (j : Key) (g : Option ℕ) (m : ℕ) → is_key k j ≡ false → Chain j 0 g m ps → Chain j 0 g m qs

is_key-own : (k : Key) → is_key k k ≡ true
is_key-own k = (bytes_eq-Decides k k).1 refl

added-at : (k : Key) (ps : List Place) (f : Option ℕ) (l : ℕ) (c : Change) → Chain k 0 f l ps → IsOwn ps → k ≡ c.sample.key → Added k (length ps) (first_with f (length ps)) ps (linked f l (length ps) ps ++ record { key = c.sample.key; next = None; change = Some c } ∷ []) c
added-at k ps f l c chain own key =
    let new : Place = record { key = c.sample.key; next = None; change = Some c } in
    let mine : is_key new.key k ≡ true = subst (λ (z : Key). is_key z k ≡ true) key (is_key-own k) in
    record {
      chain = linked-own k f l ps new chain mine refl;
      own = linked-own-all f l ps new own (λ x is. (let one : c ≡ x = cc in ap (λ (z : Change). z.sample.key) (sym one)));
      kept = linked-kept f l ps new c refl;
      others = λ j g m other d. linked-other k j f g l m ps new chain d mine other;
    }

pub added : {S : Type 0} (ends : HashMap (List ℕ) Ends S) (k : Key) (ps : List Place) (o : Option Ends) (f : Option ℕ) (l n first : ℕ) (mid qs : List Place) (new : Place) (c : Change)
    → IsLinked ends ps → o ≡ found ends k → f ≡ first_in o → l ≡ last_in o → n ≡ length ps → first ≡ first_with f n → mid ≡ linked f l n ps → qs ≡ mid ++ new ∷ []
    → new ≡ record { key = c.sample.key; next = None; change = Some c } → k ≡ c.sample.key → Added k n first ps qs c
added ends k ps o f l n first mid qs new c links o-is f-is l-is n-is first-is mid-is qs-is new-is key =
    let base = added-at k ps f l c (chained ends k ps f l o links o-is f-is l-is) links.own key in
    let list : qs ≡ linked f l (length ps) ps ++ record { key = c.sample.key; next = None; change = Some c } ∷ [] =
    qs-is ∙ ap (λ z. mid ++ z ∷ []) new-is ∙ ap (λ z. z ++ record { key = c.sample.key; next = None; change = Some c } ∷ []) (mid-is ∙ ap (λ z. linked f l z ps) n-is) in
    subst (λ z. Added k n first ps z c) (sym list)
    (subst (λ z. Added k n z ps (linked f l (length ps) ps ++ record { key = c.sample.key; next = None; change = Some c } ∷ []) c) (sym (first-is ∙ ap (first_with f) n-is))
    (subst (λ z. Added k z (first_with f (length ps)) ps (linked f l (length ps) ps ++ record { key = c.sample.key; next = None; change = Some c } ∷ []) c) (sym n-is) base))
