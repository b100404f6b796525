-- What the maps of a draft know after a change.
use Rattle.std.proofs.Common.{◌≡◌, ℕ, ◌+◌, ◌<◌, List, [], ◌∷◌, ◌++◌, length, refl, sym, ap, ◌∙◌, arith, length-append, Bool, true, false, cond, Option, Some, None, inl, inr}
use Rattle.std.specs.Global.{Vec}
use Rattle.std.specs.Str.{bytes_eq}
use Rattle.std.specs.Map.{KeepsOthers}
use Rattle.std.specs.HashMap as hash
use Rattle.std.specs.HashMap.{HashMap}
use Rattle.std.specs.HashSet as bag
use Rattle.std.specs.HashSet.{HashSet}
use Rattle.std.proofs.lemmas.Bool.{cases_Bool}
use Rattle.std.proofs.lemmas.Slice.Eq.{bytes_eq-Decides}
use Rattle.dur_qos.specs.declared.plan.Topic.{Topic}
use Rattle.dur_qos.specs.declared.plan.WriterLine.{WriterLine}
use Rattle.dur_qos.specs.declared.plan.ReaderLine.{ReaderLine}
use Rattle.dur_qos.specs.Plan.{place_from, place_of, has_writer, has_reader}
use Rattle.dur_qos.specs.declared.plan.Plan.{Plan}
use Rattle.dur_qos.specs.declared.draft.Draft.{Draft}
use Rattle.dur_qos.specs.Index.{found, holds, IsIndexed}

abbrev same_items : Vec ℕ → Vec ℕ → Bool
same_items x y = bytes_eq x.items y.items

pub named : {S : Type 0} (m n : HashMap (Vec ℕ) ℕ S) (key : Vec ℕ) (name : List ℕ) (i : ℕ) → key.items ≡ name → hash.UpdatesBy same_items (same_items key) m n (Some i)
    → (q : List ℕ) → found n q ≡ cond (bytes_eq q name) (Some i) (found m q)
unfolding KeepsOthers
named m n key name i is u q = elim (cases_Bool (bytes_eq q name)) [
  | inl e ↦
      ap (λ (t : List ℕ). hash.get_by (λ k. bytes_eq t k.items) n) ((bytes_eq-Decides q name).0 e ∙ sym is) ∙ u.1
      ∙ sym (ap (λ (b : Bool). cond b (Some i) (found m q)) e)
  | inr e ↦
      u.3 (λ k. bytes_eq q k.items) (λ x y h. ap (λ (t : List ℕ). bytes_eq t y.items) ((bytes_eq-Decides q x.items).0 h))
      (λ k h. ap (λ (t : List ℕ). bytes_eq q t) (sym ((bytes_eq-Decides key.items k.items).0 h) ∙ is) ∙ e)
      ∙ sym (ap (λ (b : Bool). cond b (Some i) (found m q)) e)
]

both_true : (a b : Bool) → (a ≡ true → b ≡ true) → (b ≡ true → a ≡ true) → a ≡ b
both_true true b f g = sym (f refl)
both_true false true f g = g refl
both_true false false f g = refl

pub bytes_eq_sym : (a b : List ℕ) → bytes_eq a b ≡ bytes_eq b a
bytes_eq_sym a b = both_true (bytes_eq a b) (bytes_eq b a) (λ h. (bytes_eq-Decides b a).1 (sym ((bytes_eq-Decides a b).0 h))) (λ h. (bytes_eq-Decides a b).1 (sym ((bytes_eq-Decides b a).0 h)))

pub noted : {S : Type 0} (m n : HashSet (List ℕ) S) (guid : List ℕ) → bag.UpdatesBy bytes_eq (bytes_eq guid) m n true → (q : List ℕ) → holds n q ≡ cond (bytes_eq q guid) true (holds m q)
noted m n guid u q = u.0 q ∙ ap (λ (b : Bool). cond b true (holds m q)) (bytes_eq_sym guid q)

-- ---- the lists, one longer
swap_cond : (a b h : Bool) → cond a true (cond b true h) ≡ cond b true (cond a true h)
swap_cond true true h = refl
swap_cond true false h = refl
swap_cond false true h = refl
swap_cond false false h = refl

pub writer_push : (q : List ℕ) (ws : List WriterLine) (w : WriterLine) → has_writer q (ws ++ w ∷ []) ≡ cond (bytes_eq q w.guid) true (has_writer q ws)
writer_push q [] w = refl
writer_push q (x ∷ ws) w = ap (λ (b : Bool). cond (bytes_eq q x.guid) true b) (writer_push q ws w) ∙ swap_cond (bytes_eq q x.guid) (bytes_eq q w.guid) (has_writer q ws)

pub reader_push : (q : List ℕ) (rs : List ReaderLine) (r : ReaderLine) → has_reader q (rs ++ r ∷ []) ≡ cond (bytes_eq q r.guid) true (has_reader q rs)
reader_push q [] r = refl
reader_push q (x ∷ rs) r = ap (λ (b : Bool). cond (bytes_eq q x.guid) true b) (reader_push q rs r) ∙ swap_cond (bytes_eq q x.guid) (bytes_eq q r.guid) (has_reader q rs)

-- where a name is new, a topic of that name is found at the end
not_first : (b : Bool) (i : ℕ) (rest : Option ℕ) → cond b (Some i) rest ≡ None → (b ≡ false) × (rest ≡ None)
not_first true i rest h = absurd cc
not_first false i rest h = (refl, h)

apart : (q a b : List ℕ) → bytes_eq a b ≡ false → bytes_eq q b ≡ true → bytes_eq q a ≡ false
apart q a b different same = ap (λ (t : List ℕ). bytes_eq t a) ((bytes_eq-Decides q b).0 same) ∙ bytes_eq_sym b a ∙ different

pub place_push : (i : ℕ) (q : List ℕ) (ts : List Topic) (t : Topic) → place_from i t.name ts ≡ None → place_from i q (ts ++ t ∷ []) ≡ cond (bytes_eq q t.name) (Some (i + length ts)) (place_from i q ts)
place_push i q [] t none = ap (λ (n : ℕ). cond (bytes_eq q t.name) (Some n) None) (omega arith)
place_push i q (x ∷ ts) t none =
    let first = not_first (bytes_eq t.name x.name) i (place_from (i + 1) t.name ts) none in
    elim (cases_Bool (bytes_eq q x.name)) [
      | inl e ↦
          ap (λ (b : Bool). cond b (Some i) (place_from (i + 1) q (ts ++ t ∷ []))) e
          ∙ sym (ap (λ (b : Bool). cond b (Some (i + length (x ∷ ts))) (place_from i q (x ∷ ts))) (apart q t.name x.name first.0 e) ∙ ap (λ (b : Bool). cond b (Some i) (place_from (i + 1) q ts)) e)
      | inr e ↦
          ap (λ (b : Bool). cond b (Some i) (place_from (i + 1) q (ts ++ t ∷ []))) e ∙ place_push (i + 1) q ts t first.1
          ∙ ap (λ (n : ℕ). cond (bytes_eq q t.name) (Some n) (place_from (i + 1) q ts)) (omega arith)
          ∙ ap (λ (o : Option ℕ). cond (bytes_eq q t.name) (Some (i + length (x ∷ ts))) o) (sym (ap (λ (b : Bool). cond b (Some i) (place_from (i + 1) q ts)) e))
    ]

-- ---- a draft, one line longer
pub topic_added : (d e : Draft) (t : Topic) (name : List ℕ) (i : ℕ) → IsIndexed d → place_of t.name d.plan.topics ≡ None → i ≡ length d.plan.topics → i < 1024 → name ≡ t.name
    → ((q : List ℕ) → found e.names q ≡ cond (bytes_eq q name) (Some i) (found d.names q)) → e.plan ≡ record d.plan { topics = d.plan.topics ++ t ∷ [] }
    → e.writers ≡ d.writers → e.readers ≡ d.readers → IsIndexed e
topic_added d e t name i old none place room is names plan writers readers =
    let from : i ≡ 0 + length d.plan.topics = omega arith in
    record {
      names = λ q. names q ∙ ap (λ (o : Option ℕ). cond (bytes_eq q name) (Some i) o) (old.names q) ∙ ap (λ (n : List ℕ). cond (bytes_eq q n) (Some i) (place_of q d.plan.topics)) is
          ∙ ap (λ (k : ℕ). cond (bytes_eq q t.name) (Some k) (place_of q d.plan.topics)) from ∙ sym (place_push 0 q d.plan.topics t none) ∙ ap (λ (p : Plan). place_of q p.topics) (sym plan);
      writers = λ q. ap (λ s. holds s q) writers ∙ old.writers q ∙ ap (λ (p : Plan). has_writer q p.writers) (sym plan);
      readers = λ q. ap (λ s. holds s q) readers ∙ old.readers q ∙ ap (λ (p : Plan). has_reader q p.readers) (sym plan);
      topic_count = omega (arith, ap (λ (p : Plan). length p.topics) plan, length-append d.plan.topics (t ∷ []));
      writer_count = omega (arith, ap (λ (p : Plan). length p.writers) plan, old.writer_count);
      reader_count = omega (arith, ap (λ (p : Plan). length p.readers) plan, old.reader_count);
    }

pub writer_added : (d e : Draft) (w : WriterLine) (guid : List ℕ) → IsIndexed d → length d.plan.writers < 4096 → guid ≡ w.guid
    → ((q : List ℕ) → holds e.writers q ≡ cond (bytes_eq q guid) true (holds d.writers q)) → e.plan ≡ record d.plan { writers = d.plan.writers ++ w ∷ [] }
    → e.names ≡ d.names → e.readers ≡ d.readers → IsIndexed e
writer_added d e w guid old room is writers plan names readers = record {
  names = λ q. ap (λ m. found m q) names ∙ old.names q ∙ ap (λ (p : Plan). place_of q p.topics) (sym plan);
  writers = λ q. writers q ∙ ap (λ (b : Bool). cond (bytes_eq q guid) true b) (old.writers q) ∙ ap (λ (g : List ℕ). cond (bytes_eq q g) true (has_writer q d.plan.writers)) is
      ∙ sym (writer_push q d.plan.writers w) ∙ ap (λ (p : Plan). has_writer q p.writers) (sym plan);
  readers = λ q. ap (λ s. holds s q) readers ∙ old.readers q ∙ ap (λ (p : Plan). has_reader q p.readers) (sym plan);
  topic_count = omega (arith, ap (λ (p : Plan). length p.topics) plan, old.topic_count);
  writer_count = omega (arith, ap (λ (p : Plan). length p.writers) plan, length-append d.plan.writers (w ∷ []));
  reader_count = omega (arith, ap (λ (p : Plan). length p.readers) plan, old.reader_count);
}

pub reader_added : (d e : Draft) (r : ReaderLine) (guid : List ℕ) → IsIndexed d → length d.plan.readers < 1024 → guid ≡ r.guid
    → ((q : List ℕ) → holds e.readers q ≡ cond (bytes_eq q guid) true (holds d.readers q)) → e.plan ≡ record d.plan { readers = d.plan.readers ++ r ∷ [] }
    → e.names ≡ d.names → e.writers ≡ d.writers → IsIndexed e
reader_added d e r guid old room is readers plan names writers = record {
  names = λ q. ap (λ m. found m q) names ∙ old.names q ∙ ap (λ (p : Plan). place_of q p.topics) (sym plan);
  writers = λ q. ap (λ s. holds s q) writers ∙ old.writers q ∙ ap (λ (p : Plan). has_writer q p.writers) (sym plan);
  readers = λ q. readers q ∙ ap (λ (b : Bool). cond (bytes_eq q guid) true b) (old.readers q) ∙ ap (λ (g : List ℕ). cond (bytes_eq q g) true (has_reader q d.plan.readers)) is
      ∙ sym (reader_push q d.plan.readers r) ∙ ap (λ (p : Plan). has_reader q p.readers) (sym plan);
  topic_count = omega (arith, ap (λ (p : Plan). length p.topics) plan, old.topic_count);
  writer_count = omega (arith, ap (λ (p : Plan). length p.writers) plan, old.writer_count);
  reader_count = omega (arith, ap (λ (p : Plan). length p.readers) plan, length-append d.plan.readers (r ∷ []));
}
