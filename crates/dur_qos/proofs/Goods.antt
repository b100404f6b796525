-- The plan of a text is good.
use Rattle.std.proofs.Common.{◌≡◌, ℕ, ◌+◌, ◌<◌, ◌≤◌, List, [], ◌∷◌, ◌++◌, length, refl, sym, ap, subst, ◌∙◌, append_assoc, append-nil, length-append, arith, Bool, true, false, cond, Option, Some, None, Result, Ok, Err, inl, inr, ◌⊎◌}
use Rattle.std.specs.Prelude.{◌&&◌, nat_le, nat_lt, IsTrue, IfSome, IfOk, OnErr, codes}
use Rattle.std.specs.List.{AllByRecursion}
use Rattle.std.specs.Str.{bytes_eq}
use Rattle.std.specs.Option.{is_some}
use Rattle.std.proofs.lemmas.Bool.{leb-true, leb-false, ltb-true}
use Rattle.dur_qos.specs.declared.fault.PlanKind.{PlanKind}
use Rattle.dur_qos.specs.declared.fault.PlanKind.TheVariants.{Word, Number, Twice, DepthAboveLimit, TooMany}
use Rattle.dur_base.specs.declared.kinds.Durability.{Durability}
use Rattle.dur_base.specs.declared.kinds.Durability.TheVariants.{Transient, Persistent}
use Rattle.dur_qos.specs.declared.plan.Topic.{Topic}
use Rattle.dur_qos.specs.declared.line.Line.{Line}
use Rattle.dur_qos.specs.declared.line.Line.TheVariants as line
use Rattle.dur_qos.specs.declared.plan.Plan.{Plan}
use Rattle.dur_qos.specs.declared.plan.WriterLine.{WriterLine}
use Rattle.dur_qos.specs.declared.plan.ReaderLine.{ReaderLine}
use Rattle.dur_base.specs.Names.{is_name}
use Rattle.dur_qos.specs.Digits.{number_of, is_number, value_after}
use Rattle.dur_qos.specs.Words.{words, word, good, last, ◌>>=◌}
use Rattle.dur_qos.specs.Lines.{topic_kind_of, positive, history_of, limit_of, name_of, name_at, topic_kind_at, reader_kind_at, shape_at, history_at, limit_at, delay_at, prefix_at, guid_at, prefix_line, topic_line, writer_line, reader_line, line_by, line_at}
use Rattle.dur_qos.specs.Served.{rank}
use Rattle.dur_qos.specs.Plan.{place_of, place_from, has_writer, has_reader, is_above, add_topic, add_writer, add_reader, writer_to, reader_to}
use Rattle.dur_qos.specs.Reading.{Next, first, added, later, whole_line}
use Rattle.dur_qos.specs.Text.{GoesOn, PlanText}
use Rattle.dur_qos.specs.Good.{IsLimit, IsGoodTopic, EachIsNew, IsGoodWriter, IsGoodReader, GoodPlan, IsGoodLine}

-- ---- a reading that succeeds, step by step
bind_ok : {A B : Type 0} (r : Result A PlanKind) (f : A → Result B PlanKind) (y : B) → (r >>= f) ≡ Ok y → (x : A) × (r ≡ Ok x) × (f x ≡ Ok y)
bind_ok (Ok x) f y e = (x, refl, e)
bind_ok (Err d) f y e = absurd cc

good_ok : {A : Type 0} (o : Option A) (ws : List (List ℕ)) (kind : PlanKind) (x : A × List (List ℕ)) → good o ws kind ≡ Ok x → o ≡ Some x.0
good_ok None ws kind x e = absurd cc
good_ok {A} (Some y) ws kind x e = let p : (y, ws) ≡ x = cc in ap (λ (z : A × List (List ℕ)). Some z.0) p

field_ok : {A : Type 0} (of : List ℕ → Option A) (kind : PlanKind) (ws : List (List ℕ)) (x : A × List (List ℕ)) → (word ws >>= λ w. good (of w.0) w.1 kind) ≡ Ok x → (w : List ℕ) × (of w ≡ Some x.0)
field_ok of kind [] x e = absurd cc
field_ok of kind (w ∷ ws) x e = (w, good_ok (of w) ws kind x e)

last_ok : {A : Type 0} (x y : A) (ws : List (List ℕ)) → last x ws ≡ Ok y → x ≡ y
last_ok x y [] e = cc
last_ok x y (w ∷ ws) e = absurd cc

-- a choice that gives this
chosen : {A : Type 0} (b : Bool) (x y z : A) → cond b x y ≡ z → ((b ≡ true) × (x ≡ z)) ⊎ ((b ≡ false) × (y ≡ z))
chosen true x y z e = inl (refl, e)
chosen false x y z e = inr (refl, e)

-- ---- the fields
and_right : (a b : Bool) → (a && b) ≡ true → b ≡ true
and_right true b e = e
and_right false b e = absurd cc

number_small : (w : List ℕ) (n : ℕ) → number_of w ≡ Some n → n ≤ 2147483647
unfolding number_of
number_small w n e = elim (chosen (is_number w && nat_le (value_after 0 w) 2147483647) (Some (value_after 0 w)) None (Some n) e) [
  | inl h ↦ let same : value_after 0 w ≡ n = cc (h.1) in let le : value_after 0 w ≤ 2147483647 = leb-true (value_after 0 w) 2147483647 (and_right (is_number w) (nat_le (value_after 0 w) 2147483647) h.0) in omega arith
  | inr h ↦ let no_value : None ≡ Some n = h.1 in absurd cc
]

positive_limit : (o : Option ℕ) (l : Option ℕ) → IfSome o (λ n. n ≤ 2147483647) → positive o ≡ Some l → IsLimit l
positive_limit None l small e = absurd cc
positive_limit (Some n) l small e = elim (chosen (nat_lt 0 n) (Some (Some n)) None (Some l) e) [
  | inl h ↦ let same : Some n ≡ l = cc (h.1) in subst IsLimit same (ltb-true _ _ h.0, small)
  | inr h ↦ let no_value : None ≡ Some l = h.1 in absurd cc
]

small_if : (o : Option ℕ) → ((n : ℕ) → o ≡ Some n → n ≤ 2147483647) → IfSome o (λ n. n ≤ 2147483647)
small_if None h = tt
small_if (Some n) h = h n refl

number_limit : (w : List ℕ) (l : Option ℕ) → positive (number_of w) ≡ Some l → IsLimit l
number_limit w l e = positive_limit (number_of w) l (small_if (number_of w) (λ n h. number_small w n h)) e

word_or_limit : (b : Bool) (w : List ℕ) (l : Option ℕ) → cond b (Some None) (positive (number_of w)) ≡ Some l → IsLimit l
word_or_limit b w l e = elim (chosen b (Some None) (positive (number_of w)) (Some l) e) [
  | inl h ↦ let same : None ≡ l = cc (h.1) in subst IsLimit same tt
  | inr h ↦ number_limit w l h.1
]

limit_good : (ws : List (List ℕ)) (x : Option ℕ × List (List ℕ)) → limit_at ws ≡ Ok x → IsLimit x.0
unfolding limit_at
limit_good ws x e = let f = field_ok limit_of Number ws x e in word_or_limit (bytes_eq f.0 (codes "-")) f.0 x.0 f.1

history_good : (ws : List (List ℕ)) (x : Option ℕ × List (List ℕ)) → history_at ws ≡ Ok x → IsLimit x.0
unfolding history_at
history_good ws x e = let f = field_ok history_of Number ws x e in word_or_limit (bytes_eq f.0 (codes "all")) f.0 x.0 f.1

delay_good : (ws : List (List ℕ)) (x : ℕ × List (List ℕ)) → delay_at ws ≡ Ok x → x.0 ≤ 2147483647
unfolding delay_at
delay_good ws x e = let f = field_ok number_of Number ws x e in number_small f.0 x.0 f.1

name_good : (ws : List (List ℕ)) (x : List ℕ × List (List ℕ)) → name_at ws ≡ Ok x → IsTrue (is_name x.0)
unfolding name_at
name_good ws x e = let f = field_ok name_of Word ws x e in elim (chosen (is_name f.0) (Some f.0) None (Some x.0) f.1) [
  | inl h ↦ let same : f.0 ≡ x.0 = cc (h.1) in subst (λ (n : List ℕ). IsTrue (is_name n)) same h.0
  | inr h ↦ let no_value : None ≡ Some x.0 = h.1 in absurd cc
]

kind_good : (ws : List (List ℕ)) (x : Durability × List (List ℕ)) → topic_kind_at ws ≡ Ok x → 2 ≤ rank x.0
unfolding topic_kind_at
kind_good ws x e = let f = field_ok topic_kind_of Word ws x e in
    elim (chosen (bytes_eq f.0 (codes "transient")) (Some Transient) (cond (bytes_eq f.0 (codes "persistent")) (Some Persistent) None) (Some x.0) f.1) [
      | inl h ↦ let same : Transient ≡ x.0 = cc (h.1) in subst (λ (d : Durability). 2 ≤ rank d) same (omega arith)
      | inr h ↦ elim (chosen (bytes_eq f.0 (codes "persistent")) (Some Persistent) None (Some x.0) h.1) [
        | inl g ↦ let same : Persistent ≡ x.0 = cc (g.1) in subst (λ (d : Durability). 2 ≤ rank d) same (omega arith)
        | inr g ↦ let no_value : None ≡ Some x.0 = g.1 in absurd cc
      ]
    ]

-- ---- the lines
topic_good : (ws : List (List ℕ)) (l : Line) → topic_line ws ≡ Ok l → IsGoodLine l
unfolding topic_line
topic_good ws l e =
    let name = bind_ok (name_at ws) _ l e in
    let kind = bind_ok (topic_kind_at name.0.1) _ l name.2 in
    let shape = bind_ok (shape_at kind.0.1) _ l kind.2 in
    let depth = bind_ok (history_at shape.0.1) _ l shape.2 in
    let samples = bind_ok (limit_at depth.0.1) _ l depth.2 in
    let instances = bind_ok (limit_at samples.0.1) _ l samples.2 in
    let per_instance = bind_ok (limit_at instances.0.1) _ l instances.2 in
    let held = bind_ok (limit_at per_instance.0.1) _ l per_instance.2 in
    let delay = bind_ok (delay_at held.0.1) _ l held.2 in
    let t : Topic = record { name = name.0.0; kind = kind.0.0; shape = shape.0.0; depth = depth.0.0; max_samples = samples.0.0; max_instances = instances.0.0; max_per_instance = per_instance.0.0; max_held = held.0.0; delay = delay.0.0 } in
    let fits : IsGoodTopic t = record {
      name = name_good ws name.0 name.1;
      kind = kind_good name.0.1 kind.0 kind.1;
      depth = history_good shape.0.1 depth.0 depth.1;
      max_samples = limit_good depth.0.1 samples.0 samples.1;
      max_instances = limit_good samples.0.1 instances.0 instances.1;
      max_per_instance = limit_good instances.0.1 per_instance.0 per_instance.1;
      max_held = limit_good per_instance.0.1 held.0 held.1;
      delay = delay_good held.0.1 delay.0 delay.1;
    } in
    subst IsGoodLine {x = line.Topic t} (last_ok (line.Topic t) l delay.0.1 delay.2) fits

writer_good : (ws : List (List ℕ)) (l : Line) → writer_line ws ≡ Ok l → IsGoodLine l
unfolding writer_line
writer_good ws l e =
    let guid = bind_ok (guid_at ws) _ l e in
    let topic = bind_ok (name_at guid.0.1) _ l guid.2 in
    let lease = bind_ok (limit_at topic.0.1) _ l topic.2 in
    subst IsGoodLine (last_ok (line.Writer guid.0.0 topic.0.0 lease.0.0) l lease.0.1 lease.2) (limit_good topic.0.1 lease.0 lease.1)

reader_good : (ws : List (List ℕ)) (l : Line) → reader_line ws ≡ Ok l → IsGoodLine l
unfolding reader_line
reader_good ws l e =
    let guid = bind_ok (guid_at ws) _ l e in
    let topic = bind_ok (name_at guid.0.1) _ l guid.2 in
    let kind = bind_ok (reader_kind_at topic.0.1) _ l topic.2 in
    subst IsGoodLine (last_ok (line.Reader guid.0.0 topic.0.0 kind.0.0) l kind.0.1 kind.2) (tt {0})

prefix_good : (ws : List (List ℕ)) (l : Line) → prefix_line ws ≡ Ok l → IsGoodLine l
unfolding prefix_line
prefix_good ws l e = let p = bind_ok (prefix_at ws) _ l e in subst IsGoodLine (last_ok (line.Prefix p.0.0) l p.0.1 p.2) (tt {0})

by_good : (first : List ℕ) (ws : List (List ℕ)) (l : Line) → line_by first ws ≡ Ok l → IsGoodLine l
by_good first ws l e = elim (chosen (bytes_eq first (codes "topic")) _ _ _ e) [
  | inl h ↦ topic_good ws l h.1
  | inr h ↦ elim (chosen (bytes_eq first (codes "writer")) _ _ _ h.1) [
    | inl g ↦ writer_good ws l g.1
    | inr g ↦ elim (chosen (bytes_eq first (codes "reader")) _ _ _ g.1) [
      | inl k ↦ reader_good ws l k.1
      | inr k ↦ elim (chosen (bytes_eq first (codes "prefix")) _ _ _ k.1) [
        | inl m ↦ prefix_good ws l m.1
        | inr m ↦ elim (chosen (bytes_eq first (codes "end")) _ _ _ m.1) [
          | inl n ↦ subst IsGoodLine (last_ok line.End l ws n.1) (tt {0})
          | inr n ↦ let no_value : Err Word ≡ Ok l = n.1 in absurd cc
        ]
      ]
    ]
  ]
]

pub line_good : (text : List ℕ) (l : Line) → line_at text ≡ Ok l → IsGoodLine l
unfolding line_at
line_good text l e = let w = bind_ok (word (words text)) (λ first. line_by first.0 first.1) l e in by_good w.0.0 w.0.1 l w.2

-- ---- the plan, one line longer
all_push : {X : Type 0} (P : X → Type 0) (xs : List X) (x : X) → AllByRecursion P xs → P x → AllByRecursion P (xs ++ x ∷ [])
all_push P [] x h p = (p, tt)
all_push P (y ∷ ys) x h p = (h.0, all_push P ys x h.1 p)

new_push : {X : Type 0} (IsNew : List X → X → Type 0) (seen xs : List X) (x : X) → EachIsNew IsNew seen xs → IsNew (seen ++ xs) x → EachIsNew IsNew seen (xs ++ x ∷ [])
new_push {X} IsNew seen [] x h n = (subst (λ (s : List X). IsNew s x) (append-nil seen) n, tt)
new_push {X} IsNew seen (y ∷ ys) x h n = (h.0, new_push IsNew (seen ++ y ∷ []) ys x h.1 (subst (λ (s : List X). IsNew s x) (sym (append_assoc seen (y ∷ []) ys)) n))

more_writers : (a b : ℕ) (ws : List WriterLine) → a ≤ b → AllByRecursion (IsGoodWriter a) ws → AllByRecursion (IsGoodWriter b) ws
more_writers a b [] le h = tt
more_writers a b (w ∷ ws) le h = ((omega (arith, h.0.0), h.0.1), more_writers a b ws le h.1)

more_readers : (a b : ℕ) (rs : List ReaderLine) → a ≤ b → AllByRecursion (IsGoodReader a) rs → AllByRecursion (IsGoodReader b) rs
more_readers a b [] le h = tt
more_readers a b (r ∷ rs) le h = (omega (arith, h.0), more_readers a b rs le h.1)

place_below : (i : ℕ) (name : List ℕ) (ts : List Topic) (k : ℕ) → place_from i name ts ≡ Some k → k < i + length ts
place_below i name [] k e = absurd cc
place_below i name (t ∷ ts) k e = elim (chosen (bytes_eq name t.name) (Some i) (place_from (i + 1) name ts) (Some k) e) [
  | inl h ↦ let same : i ≡ k = cc (h.1) in omega arith
  | inr h ↦ omega (arith, place_below (i + 1) name ts k h.1)
]

none_of : (o : Option ℕ) → is_some o ≡ false → o ≡ None
none_of None e = refl
none_of (Some n) e = absurd cc

topic_added_good : (p q : Plan) (t : Topic) → GoodPlan p → IsGoodTopic t → add_topic p t ≡ Ok q → GoodPlan q
unfolding add_topic
topic_added_good p q t old fits e = elim (chosen (is_some (place_of t.name p.topics)) _ _ _ e) [
  | inl h ↦ let no_value : Err Twice ≡ Ok q = h.1 in absurd cc
  | inr h ↦ elim (chosen (is_above t.depth t.max_per_instance) _ _ _ h.1) [
    | inl g ↦ let no_value : Err DepthAboveLimit ≡ Ok q = g.1 in absurd cc
    | inr g ↦ elim (chosen (nat_le 1024 (length p.topics)) _ _ _ g.1) [
      | inl k ↦ let no_value : Err TooMany ≡ Ok q = k.1 in absurd cc
      | inr k ↦
          let new : Plan = record p { topics = p.topics ++ t ∷ [] } in
          let both : Ok new ≡ Ok q = k.1 in
          let is : new ≡ q = cc in
          subst GoodPlan is (record {
            topics = all_push IsGoodTopic p.topics t old.topics fits;
            depths = all_push (λ u. is_above u.depth u.max_per_instance ≡ false) p.topics t old.depths g.0;
            names = new_push (λ seen u. place_of u.name seen ≡ None) [] p.topics t old.names (none_of (place_of t.name p.topics) h.0);
            writers = more_writers (length p.topics) (length (p.topics ++ t ∷ [])) p.writers (omega (arith, length-append p.topics (t ∷ []))) old.writers;
            writer_guids = old.writer_guids;
            readers = more_readers (length p.topics) (length (p.topics ++ t ∷ [])) p.readers (omega (arith, length-append p.topics (t ∷ []))) old.readers;
            reader_guids = old.reader_guids;
            topic_count = omega (arith, length-append p.topics (t ∷ []), leb-false _ _ k.0);
            writer_count = old.writer_count;
            reader_count = old.reader_count;
          })
    ]
  ]
]

writer_to_good : (p q : Plan) (guid : List ℕ) (lease o : Option ℕ) → GoodPlan p → IsLimit lease → has_writer guid p.writers ≡ false → IfSome o (λ i. i < length p.topics) → writer_to p guid lease o ≡ Ok q → GoodPlan q
writer_to_good p q guid lease None old fits fresh place e = absurd cc
writer_to_good p q guid lease (Some i) old fits fresh place e = elim (chosen (nat_le 4096 (length p.writers)) _ _ _ e) [
  | inl k ↦ let no_value : Err TooMany ≡ Ok q = k.1 in absurd cc
  | inr k ↦
      let w : WriterLine = record { guid = guid; topic = i; lease = lease } in
      let new : Plan = record p { writers = p.writers ++ w ∷ [] } in
      let both : Ok new ≡ Ok q = k.1 in
      let is : new ≡ q = cc in
      subst GoodPlan is (record {
        topics = old.topics;
        depths = old.depths;
        names = old.names;
        writers = all_push (IsGoodWriter (length p.topics)) p.writers w old.writers (place, fits);
        writer_guids = new_push (λ seen u. has_writer u.guid seen ≡ false) [] p.writers w old.writer_guids fresh;
        readers = old.readers;
        reader_guids = old.reader_guids;
        topic_count = old.topic_count;
        writer_count = omega (arith, length-append p.writers (w ∷ []), leb-false _ _ k.0);
        reader_count = old.reader_count;
      })
]

reader_to_good : (p q : Plan) (guid : List ℕ) (kind : Durability) (o : Option ℕ) → GoodPlan p → has_reader guid p.readers ≡ false → IfSome o (λ i. i < length p.topics) → reader_to p guid kind o ≡ Ok q → GoodPlan q
reader_to_good p q guid kind None old fresh place e = absurd cc
reader_to_good p q guid kind (Some i) old fresh place e = elim (chosen (nat_le 1024 (length p.readers)) _ _ _ e) [
  | inl k ↦ let no_value : Err TooMany ≡ Ok q = k.1 in absurd cc
  | inr k ↦
      let r : ReaderLine = record { guid = guid; topic = i; kind = kind } in
      let new : Plan = record p { readers = p.readers ++ r ∷ [] } in
      let both : Ok new ≡ Ok q = k.1 in
      let is : new ≡ q = cc in
      subst GoodPlan is (record {
        topics = old.topics;
        depths = old.depths;
        names = old.names;
        writers = old.writers;
        writer_guids = old.writer_guids;
        readers = all_push (IsGoodReader (length p.topics)) p.readers r old.readers place;
        reader_guids = new_push (λ seen u. has_reader u.guid seen ≡ false) [] p.readers r old.reader_guids fresh;
        topic_count = old.topic_count;
        writer_count = old.writer_count;
        reader_count = omega (arith, length-append p.readers (r ∷ []), leb-false _ _ k.0);
      })
]

placed : (o : Option ℕ) (n : ℕ) → ((k : ℕ) → o ≡ Some k → k < 0 + n) → IfSome o (λ i. i < n)
placed None n h = tt
placed (Some k) n h = omega (arith, h k refl)

writer_added_good : (p q : Plan) (guid topic : List ℕ) (lease : Option ℕ) → GoodPlan p → IsLimit lease → add_writer p guid topic lease ≡ Ok q → GoodPlan q
unfolding add_writer
writer_added_good p q guid topic lease old fits e = elim (chosen (has_writer guid p.writers) _ _ _ e) [
  | inl h ↦ let no_value : Err Twice ≡ Ok q = h.1 in absurd cc
  | inr h ↦ writer_to_good p q guid lease (place_of topic p.topics) old fits h.0 (placed _ _ (place_below 0 topic p.topics)) h.1
]

reader_added_good : (p q : Plan) (guid topic : List ℕ) (kind : Durability) → GoodPlan p → add_reader p guid topic kind ≡ Ok q → GoodPlan q
unfolding add_reader
reader_added_good p q guid topic kind old e = elim (chosen (has_reader guid p.readers) _ _ _ e) [
  | inl h ↦ let no_value : Err Twice ≡ Ok q = h.1 in absurd cc
  | inr h ↦ reader_to_good p q guid kind (place_of topic p.topics) old h.0 (placed _ _ (place_below 0 topic p.topics)) h.1
]

-- ---- a text
added_good : (r : Result Plan PlanKind) (n : Next) → ((q : Plan) → r ≡ Ok q → GoodPlan q) → added r ≡ Ok n → GoodPlan n.plan
added_good (Ok q) n h e = let m : Next = record { plan = q; ended = false } in let both : Ok m ≡ Ok n = e in let is : m ≡ n = cc in subst (λ (x : Next). GoodPlan x.plan) is (h q refl)
added_good (Err k) n h e = absurd cc

pub later_good : (p : Plan) (r : Result Line PlanKind) (n : Next) → GoodPlan p → ((l : Line) → r ≡ Ok l → IsGoodLine l) → later p r ≡ Ok n → GoodPlan n.plan
later_good p (Ok line.End) n old fits e = let m : Next = record { plan = p; ended = true } in let both : Ok m ≡ Ok n = e in let is : m ≡ n = cc in subst (λ (x : Next). GoodPlan x.plan) is old
later_good p (Ok (line.Prefix x)) n old fits e = absurd cc
later_good p (Ok (line.Topic t)) n old fits e = added_good (add_topic p t) n (λ q h. topic_added_good p q t old (fits (line.Topic t) refl) h) e
later_good p (Ok (line.Writer guid topic lease)) n old fits e = added_good (add_writer p guid topic lease) n (λ q h. writer_added_good p q guid topic lease old (fits (line.Writer guid topic lease) refl) h) e
later_good p (Ok (line.Reader guid topic kind)) n old fits e = added_good (add_reader p guid topic kind) n (λ q h. reader_added_good p q guid topic kind old h) e
later_good p (Err k) n old fits e = absurd cc

empty_good : (prefix : List ℕ) → GoodPlan (record { prefix = prefix; topics = []; writers = []; readers = [] })
empty_good prefix = record {
  topics = tt;
  depths = tt;
  names = tt;
  writers = tt;
  writer_guids = tt;
  readers = tt;
  reader_guids = tt;
  topic_count = omega arith;
  writer_count = omega arith;
  reader_count = omega arith;
}

pub first_good : (r : Result Line PlanKind) (n : Next) → first r ≡ Ok n → GoodPlan n.plan
first_good (Ok (line.Prefix x)) n e =
    let p : Plan = record { prefix = x; topics = []; writers = []; readers = [] } in
    let m : Next = record { plan = p; ended = false } in let both : Ok m ≡ Ok n = e in let is : m ≡ n = cc in subst (λ (y : Next). GoodPlan y.plan) is (empty_good x)
first_good (Ok (line.Topic t)) n e = absurd cc
first_good (Ok (line.Writer guid topic lease)) n e = absurd cc
first_good (Ok (line.Reader guid topic kind)) n e = absurd cc
first_good (Ok line.End) n e = absurd cc
first_good (Err k) n e = absurd cc

pub line_read_good : (p : Option Plan) (l : List ℕ) (n : Next) → IfSome p GoodPlan → whole_line p l ≡ Ok n → GoodPlan n.plan
line_read_good None l n old e = first_good (line_at l) n e
line_read_good (Some p) l n old e = later_good p (line_at l) n old (line_good l) e

goes_good : (ls : List (List ℕ)) (p q : Option Plan) → IfSome p GoodPlan → GoesOn p ls q → IfSome q GoodPlan
goes_good [] p q old goes = subst (λ (o : Option Plan). IfSome o GoodPlan) goes old
goes_good (l ∷ ls) p q old goes = goes_good ls (Some goes.2) q (line_read_good p l (record { plan = goes.2; ended = false }) old goes.3) goes.4

pub text_good : (bytes : List ℕ) (plan : Plan) (n : ℕ) → PlanText bytes plan n → GoodPlan plan
text_good bytes plan n t = line_read_good t.before t.last (record { plan = plan; ended = true }) (goes_good t.lines.lines None t.before tt t.lines.goes) t.says

pub line_added_good : (r : Result Bool PlanKind) (p q : Plan) (text : List ℕ) (l : Line) → Ok l ≡ line_at text → IfOk r (λ ended. later p (Ok l) ≡ Ok (record { plan = q; ended = ended })) → OnErr r (q ≡ p) → GoodPlan p → GoodPlan q
line_added_good (Ok ended) p q text l is says same old = later_good p (Ok l) (record { plan = q; ended = ended }) old (λ k h. line_good text k (sym is ∙ h)) says
line_added_good (Err kind) p q text l is says same old = subst GoodPlan (sym same) old
