-- The queue, as entries come and go.
use Rattle.std.proofs.Common.{◌≡◌, ℕ, ◌+◌, ◌-◌, ◌≤◌, ◌<◌, ◌^◌, ◌%◌, List, [], ◌∷◌, ◌++◌, length, take, drop, map, refl, ap, subst, ◌∙◌, sym, arith, append-nil, append_assoc, length-append, length-drop, get_or}
use Rattle.std.specs.Prelude.{nat_lt}
use Rattle.std.proofs.lemmas.Grind.{common_steps}
use Rattle.std.proofs.lemmas.List.{take_more, drop-append-le, take-append-le, take_all, drop_all, drop-drop, length-take}
use Rattle.dur_base.specs.declared.entry.Entry.{Entry}
use Rattle.dur_view.specs.declared.change.Batch.{Batch}
use Rattle.dur_hub.specs.declared.queue.Queue.{Queue}
use Rattle.dur_hub.specs.Queues.{passed_by, joined, AllFull, Lined, Queued, FirstTaken, TakenAll}

map_more : (xs : List Entry) (e : Entry)
    → map passed_by (xs ++ e ∷ []) ≡ map passed_by xs ++ passed_by e ∷ []
map_more [] e = refl
map_more (x ∷ xs) e = ap (λ l. passed_by x ∷ l) (map_more xs e)

-- one more entry
pub pushed : (old new : Queue) (t d : ℕ) (es : List Entry) (e : Entry) → Queued old t d es
    → new.full.items ≡ old.full.items → new.last.items ≡ old.last.items ++ e ∷ []
    → new.unmarked.items ≡ old.unmarked.items ++ passed_by e ∷ [] → new.taken ≡ old.taken
    → new.durable ≡ old.durable
    → Lined new t d (es ++ e ∷ [])
pushed old new t d es e so full last unmarked taken durable = record {
  pending =
      ap (λ l. joined l ++ new.last.items) full ∙ ap (λ l. joined old.full.items ++ l) last
      ∙ sym (append_assoc (joined old.full.items) old.last.items (e ∷ []))
      ∙ ap (λ l. l ++ e ∷ []) so.lined.pending ∙ sym (drop-append-le t es (e ∷ []) so.lined.handed);
  full = subst AllFull (sym full) so.lined.full;
  unmarked =
      unmarked ∙ ap (λ l. l ++ passed_by e ∷ []) so.lined.unmarked ∙ sym (map_more (drop d es) e)
      ∙ ap (map passed_by) (sym (drop-append-le d es (e ∷ []) (omega (arith, so.lined.marked, so.lined.handed))));
  taken = taken ∙ so.lined.taken;
  durable = durable ∙ so.lined.durable;
  marked = so.lined.marked;
  handed = omega (arith, so.lined.handed, length-append es (e ∷ []));
}

joined_more : (ls : List (List Entry)) (l : List Entry) → joined (ls ++ l ∷ []) ≡ joined ls ++ l
joined_more [] l = append-nil l
joined_more (x ∷ ls) l = ap (λ k. x ++ k) (joined_more ls l) ∙ sym (append_assoc x (joined ls) l)

full_more : (ls : List (List Entry)) (l : List Entry) → AllFull ls → length l ≡ 4096
    → AllFull (ls ++ l ∷ [])
full_more [] l all is = (is, tt)
full_more (x ∷ ls) l all is = (all.0, full_more ls l all.1 is)

-- a full last list is closed
pub closed : (old new : Queue) (t d : ℕ) (es : List Entry) → Lined old t d es
    → length old.last.items ≡ 4096
    → new.full.items ≡ old.full.items ++ old.last.items ∷ [] → new.last.items ≡ []
    → new.unmarked.items ≡ old.unmarked.items → new.taken ≡ old.taken → new.durable ≡ old.durable
    → Queued new t d es
closed old new t d es so whole full last unmarked taken durable = record {
  lined = record {
    pending =
        ap (λ l. joined l ++ new.last.items) full
        ∙ ap (λ l. joined (old.full.items ++ old.last.items ∷ []) ++ l) last
        ∙ append-nil (joined (old.full.items ++ old.last.items ∷ []))
        ∙ joined_more old.full.items old.last.items ∙ so.pending;
    full = subst AllFull (sym full) (full_more old.full.items old.last.items so.full whole);
    unmarked = unmarked ∙ so.unmarked;
    taken = taken ∙ so.taken;
    durable = durable ∙ so.durable;
    marked = so.marked;
    handed = so.handed;
  };
  last = omega (arith, ap length last);
}

drop_add : (t n : ℕ) (es : List Entry) → drop n (drop t es) ≡ drop (t + n) es
drop_add t n es = drop-drop n t es

drop_front : (l rest : List Entry) → drop (length l) (l ++ rest) ≡ rest
drop_front [] rest = refl
drop_front (x ∷ l) rest = drop_front l rest

take_front : (l rest : List Entry) (n : ℕ) → length l ≡ n → take n (l ++ rest) ≡ l
take_front l rest n is =
    take-append-le n l rest (omega (arith, is)) ∙ take_all n l (omega (arith, is))

-- the first of the full lists
pub first_full : (old new : Queue) (t d : ℕ) (es : List Entry) (l : List Entry) → Queued old t d es
    → old.full.items ≡ l ∷ new.full.items → new.last.items ≡ old.last.items
    → FirstTaken old new l t es
first_full old new t d es l so full last =
    let rest : List Entry = joined new.full.items ++ new.last.items in
    let all : AllFull (l ∷ new.full.items) = subst AllFull full so.lined.full in
    let whole : drop t es ≡ l ++ rest =
    sym so.lined.pending ∙ ap (λ k. joined k ++ old.last.items) full
    ∙ append_assoc l (joined new.full.items) old.last.items
    ∙ ap (λ k. l ++ (joined new.full.items ++ k)) (sym last) in
    record {
      first = sym (ap (take 4096) whole ∙ take_front l rest 4096 all.0);
      pending =
          sym (sym (drop_add t (length l) es) ∙ ap (drop (length l)) whole ∙ drop_front l rest);
      full = all.1;
      last = subst (λ k. length k < 4096) (sym last) so.last;
    }

-- the last list, where none is full
pub first_last : (old new : Queue) (t d : ℕ) (es : List Entry) (l : List Entry) → Queued old t d es
    → old.full.items ≡ [] → new.full.items ≡ [] → l ≡ old.last.items → new.last.items ≡ []
    → FirstTaken old new l t es
first_last old new t d es l so none still is last =
    let whole : drop t es ≡ l =
    sym so.lined.pending ∙ ap (λ k. joined k ++ old.last.items) none ∙ sym is in
    record {
      first = sym (ap (take 4096) whole ∙ take_all 4096 l (omega (arith, so.last, ap length is)));
      pending =
          ap (λ k. joined k ++ new.last.items) still ∙ last
          ∙ sym (sym (drop_add t (length l) es) ∙ ap (drop (length l)) whole ∙ drop_all (length l) l (omega arith));
      full = subst AllFull (sym still) tt;
      last = omega (arith, ap length last);
    }

-- a batch was handed out
pub handed_out : (old mid new : Queue) (t d : ℕ) (es l : List Entry) → Queued old t d es
    → FirstTaken old mid l t es
    → mid.unmarked.items ≡ old.unmarked.items → mid.durable ≡ old.durable
    → new.full.items ≡ mid.full.items → new.last.items ≡ mid.last.items
    → new.unmarked.items ≡ mid.unmarked.items → new.durable ≡ mid.durable
    → new.taken ≡ (old.taken + length l) % 2 ^ 64 → Queued new (t + length l) d es
handed_out old mid new t d es l so is unmarked durable full last unmarked2 durable2 taken = record {
  lined = record {
    pending =
        ap (λ k. joined k ++ new.last.items) full ∙ ap (λ k. joined mid.full.items ++ k) last
        ∙ is.pending;
    full = subst AllFull (sym full) is.full;
    unmarked = unmarked2 ∙ unmarked ∙ so.lined.unmarked;
    taken = omega (arith, taken, so.lined.taken);
    durable = durable2 ∙ durable ∙ so.lined.durable;
    marked = omega (arith, so.lined.marked);
    handed =
        omega
        (arith, so.lined.handed, ap length is.first, length-take 4096 (drop t es), length-drop t es);
  };
  last = subst (λ k. length k < 4096) (sym last) is.last;
}

-- all that was pending was handed out
pub all_out : (old new : Queue) (t d : ℕ) (es l : List Entry) (b : Batch) → Queued old t d es
    → l ≡ joined old.full.items ++ old.last.items → b.from ≡ old.taken → b.entries ≡ l
    → (new.full.items ≡ []) × (new.last.items ≡ [])
    → (new.unmarked.items ≡ old.unmarked.items) × (new.durable ≡ old.durable)
    → new.taken ≡ (old.taken + length l) % 2 ^ 64 → TakenAll old new b t d es
all_out old new t d es l b so is from entries none same taken =
    let those : b.entries ≡ drop t es = entries ∙ is ∙ so.lined.pending in
    let many : t + length b.entries ≡ length es =
    omega (arith, ap length those, length-drop t es, so.lined.handed) in
    record {
      from = from ∙ so.lined.taken;
      entries = those;
      after = record {
        lined = record {
          pending =
              ap (λ k. joined k ++ new.last.items) none.0 ∙ none.1
              ∙ sym (drop_all (t + length b.entries) es (omega (arith, many)));
          full = subst AllFull (sym none.0) tt;
          unmarked = same.0 ∙ so.lined.unmarked;
          taken = omega (arith, taken, so.lined.taken, ap length entries);
          durable = same.1 ∙ so.lined.durable;
          marked = omega (arith, so.lined.marked);
          handed = omega (arith, many);
        };
        last = omega (arith, ap length none.1);
      };
    }

pub joined_both : (xs ys : List (List Entry)) → joined (xs ++ ys) ≡ joined xs ++ joined ys
joined_both [] ys = refl
joined_both (x ∷ xs) ys =
    ap (λ k. x ++ k) (joined_both xs ys) ∙ sym (append_assoc x (joined xs) (joined ys))

-- a list that was made of all of them, one after another
pub pending_all : (a b full : List (List Entry)) (x0 x1 x2 x3 s last : List Entry) → a ++ b ≡ full
    → x0 ≡ [] → x1 ≡ x0 ++ joined a → x2 ≡ x1 ++ joined b → x3 ≡ x2 ++ s → s ≡ last
    → x3 ≡ joined full ++ last
pending_all a b full x0 x1 x2 x3 s last all e0 e1 e2 e3 e4 =
    e3
    ∙ ap (λ k. k ++ s) (e2 ∙ ap (λ k. k ++ joined b) (e1 ∙ ap (λ k. k ++ joined a) e0) ∙ sym (joined_both a b) ∙ ap joined all)
    ∙ ap (λ k. joined full ++ k) e4

-- one more of the lists
pub joined_next : (ls : List (List Entry)) (i : ℕ) (l : List Entry) (front now : List Entry)
    → i < length ls → l ≡ get_or ls i l → now ≡ (front ++ joined (take i ls)) ++ l
    → now ≡ front ++ joined (take (i + 1) ls)
joined_next ls i l front now lt at is =
    is ∙ append_assoc front (joined (take i ls)) l
    ∙ ap (λ k. front ++ k) (sym (ap joined (take_more ls i l lt) ∙ ap (λ x. joined (take i ls ++ x ∷ [])) (sym at) ∙ joined_more (take i ls) l))

-- whether something is pending
pub pending_is : (q : Queue) (t d : ℕ) (es : List Entry) → Queued q t d es
    → (length (joined q.full.items ++ q.last.items)) ≡ length es - t
pending_is q t d es so = ap length so.lined.pending ∙ length-drop t es

pub empty_by : (l : List (List Entry)) → l ≡ drop 1 l → l ≡ []
empty_by [] is = refl
empty_by (x ∷ l) is = absurd (omega (arith, ap length is))

full_long : (ls : List (List Entry)) → AllFull ls → 0 < length ls → 4096 ≤ length (joined ls)
full_long [] all lt = absurd (omega (arith, lt))
full_long (l ∷ ls) all lt = omega (arith, all.0, length-append l (joined ls))

pub some_pending : (q : Queue) (t d : ℕ) (es : List Entry) → Queued q t d es
    → 0 < length q.full.items → t < length es
some_pending q t d es so lt =
    omega
    (arith, pending_is q t d es so, length-append (joined q.full.items) q.last.items, full_long q.full.items so.lined.full lt)

pub lt_same : (a b c d : ℕ) → a < b → c < d → nat_lt a b ≡ nat_lt c d
lt_same a b c d x y = grind (arith, common_steps)
