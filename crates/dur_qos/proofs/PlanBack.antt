-- The text that is written of a plan is read back as that plan.
use Rattle.std.proofs.Common.{◌≡◌, ℕ, zero, suc, ◌+◌, ◌<◌, ◌≤◌, List, [], ◌∷◌, ◌++◌, length, map, refl, sym, ap, subst, ◌∙◌, append_assoc, append-nil, length-append, arith, Bool, true, false, cond, Option, Some, None, Ok, codes}
use Rattle.std.specs.Prelude.{IsTrue}
use Rattle.std.specs.List.{flat_map, AllByRecursion}
use Rattle.std.specs.Str.{bytes_eq}
use Rattle.std.specs.Fmt.{decimal}
use Rattle.std.proofs.lemmas.Bool.{lt-leb}
use Rattle.std.proofs.lemmas.List.Concat.{flat_map-cons}
use Rattle.std.proofs.lemmas.List.Folds.{flat_map-map}
use Rattle.std.proofs.lemmas.Grind.{flat_map-append}
use Rattle.std.proofs.lemmas.Slice.Eq.{bytes_eq-Decides}
use Rattle.hex.specs.Hex.{encode_lower}
use Rattle.dur_base.specs.Names.{is_name}
use Rattle.dur_base.specs.declared.kinds.Durability.{Durability}
use Rattle.dur_base.specs.declared.kinds.Shape.{Shape}
use Rattle.dur_qos.specs.declared.fault.PlanKind.TheVariants.{Word, Number}
use Rattle.dur_qos.specs.declared.plan.Topic.{Topic}
use Rattle.dur_qos.specs.declared.line.Line.{Line}
use Rattle.dur_qos.specs.declared.line.Line.TheVariants as line
use Rattle.dur_qos.specs.declared.plan.Plan.{Plan}
use Rattle.dur_qos.specs.declared.plan.WriterLine.{WriterLine}
use Rattle.dur_qos.specs.declared.plan.ReaderLine.{ReaderLine}
use Rattle.dur_qos.specs.Words.{good}
use Rattle.dur_qos.specs.Lines.{name_at, topic_kind_at, reader_kind_at, shape_at, history_at, limit_at, delay_at, prefix_at, guid_at, prefix_line, topic_line, writer_line, reader_line, line_by, line_at}
use Rattle.dur_qos.specs.Served.{rank}
use Rattle.dur_qos.specs.Plan.{place_of, place_from, has_writer, has_reader, is_above, add_topic, add_writer, add_reader}
use Rattle.dur_qos.specs.Reading.{first, later}
use Rattle.dur_qos.specs.Text.{line_text, HasNoFeed, GoesOn, PlanText}
use Rattle.dur_qos.specs.Good.{IsLimit, IsGoodTopic, EachIsNew, IsGoodWriter, IsGoodReader, GoodPlan}
use Rattle.dur_qos.specs.Written.{kind_word, shape_word, history_word, limit_word, topic_word, limit_words, behind, prefix_written, topic_written, writer_written, reader_written, topics_text, writers_text, readers_text, plan_text, IsOctets, IsTypedPlan}
use Rattle.dur_qos.proofs.WordsBack.{IsWord, words_behind, feed_behind, is_word, decimal_word, decimal_short, number_back, limit_back, history_back, limit_fits, history_fits, kind_back, reader_kind_back, kind_fits, shape_back, shape_fits, name_back, name_fits, hex_back, hex_fits}
use Rattle.dur_base.specs.Names.{is_name_octet}

-- ---- fields
name_again : (n : List ℕ) (ws : List (List ℕ)) → IsTrue (is_name n) → name_at (n ∷ ws) ≡ Ok (n, ws)
unfolding name_at
name_again n ws h = ap (λ (o : Option (List ℕ)). good o ws Word) (name_back n h)

kind_again : (k : Durability) (ws : List (List ℕ)) → 2 ≤ rank k → topic_kind_at (kind_word k ∷ ws) ≡ Ok (k, ws)
unfolding topic_kind_at
kind_again k ws h = ap (λ (o : Option Durability). good o ws Word) (kind_back k h)

reader_kind_again : (k : Durability) (ws : List (List ℕ)) → reader_kind_at (kind_word k ∷ ws) ≡ Ok (k, ws)
unfolding reader_kind_at
reader_kind_again k ws = ap (λ (o : Option Durability). good o ws Word) (reader_kind_back k)

shape_again : (s : Shape) (ws : List (List ℕ)) → shape_at (shape_word s ∷ ws) ≡ Ok (s, ws)
unfolding shape_at
shape_again s ws = ap (λ (o : Option Shape). good o ws Word) (shape_back s)

history_again : (o : Option ℕ) (ws : List (List ℕ)) → IsLimit o → history_at (history_word o ∷ ws) ≡ Ok (o, ws)
unfolding history_at
history_again o ws h = ap (λ (x : Option (Option ℕ)). good x ws Number) (history_back o h)

limit_again : (o : Option ℕ) (ws : List (List ℕ)) → IsLimit o → limit_at (limit_word o ∷ ws) ≡ Ok (o, ws)
unfolding limit_at
limit_again o ws h = ap (λ (x : Option (Option ℕ)). good x ws Number) (limit_back o h)

delay_again : (n : ℕ) (ws : List (List ℕ)) → n ≤ 2147483647 → delay_at (decimal n ∷ ws) ≡ Ok (n, ws)
unfolding delay_at
delay_again n ws h = ap (λ (x : Option ℕ). good x ws Number) (number_back n h)

prefix_again : (bytes : List ℕ) (ws : List (List ℕ)) → IsOctets 8 bytes → prefix_at (encode_lower bytes ∷ ws) ≡ Ok (bytes, ws)
unfolding prefix_at
prefix_again bytes ws h = ap (λ (x : Option (List ℕ)). good x ws Word) (hex_back 8 bytes h)

guid_again : (bytes : List ℕ) (ws : List (List ℕ)) → IsOctets 16 bytes → guid_at (encode_lower bytes ∷ ws) ≡ Ok (bytes, ws)
unfolding guid_at
guid_again bytes ws h = ap (λ (x : Option (List ℕ)). good x ws Word) (hex_back 16 bytes h)

-- ---- lines

-- a text of at most 512 octets that says this line
record IsLine (text : List ℕ) (l : Line) : Type 0 where
  pub feed : HasNoFeed text
  pub short : length text ≤ 512
  pub reads : line_at text ≡ Ok l

-- words, each with the space before it
abbrev spaced : List (List ℕ) → ℕ
spaced [] = 0
spaced (w ∷ ws) = 1 + length w + spaced ws

length_behind : (ws : List (List ℕ)) → length (behind ws) ≡ spaced ws
length_behind [] = refl
length_behind (w ∷ ws) = omega (arith, length-append w (behind ws), length_behind ws)

line_of : (w : List ℕ) (ws : List (List ℕ)) (l : Line) → IsWord w → AllByRecursion IsWord ws → length w + spaced ws ≤ 512 → line_by w ws ≡ Ok l → IsLine (w ++ behind ws) l
unfolding line_at
line_of w ws l h hs short reads = record {
  feed = feed_behind w ws h hs;
  short = omega (arith, length-append w (behind ws), length_behind ws, short);
  reads = rw (words_behind w ws h hs) reads;
}

prefix_says : (bytes : List ℕ) → IsOctets 8 bytes → prefix_line (encode_lower bytes ∷ []) ≡ Ok (line.Prefix bytes)
unfolding prefix_line
prefix_says bytes h = rw (prefix_again bytes [] h) refl

prefix_is : (bytes : List ℕ) → IsOctets 8 bytes → IsLine (prefix_written bytes) (line.Prefix bytes)
unfolding prefix_written
prefix_is bytes h =
    let f = hex_fits 8 bytes h in
    line_of (codes "prefix") (encode_lower bytes ∷ []) (line.Prefix bytes) (is_word is_name_octet (codes "prefix") refl refl refl) (f.word, tt) (omega (arith, f.short)) (prefix_says bytes h)

topic_says : (t : Topic) → IsGoodTopic t → topic_line (t.name ∷ kind_word t.kind ∷ shape_word t.shape ∷ history_word t.depth ∷ limit_words t) ≡ Ok (line.Topic t)
unfolding topic_line
topic_says t g =
    rw (name_again t.name _ g.name, kind_again t.kind _ g.kind, shape_again t.shape _, history_again t.depth _ g.depth, limit_again t.max_samples _ g.max_samples, limit_again t.max_instances _ g.max_instances, limit_again t.max_per_instance _ g.max_per_instance, limit_again t.max_held _ g.max_held, delay_again t.delay _ g.delay) refl

topic_is : (t : Topic) → IsGoodTopic t → IsLine (topic_written t) (line.Topic t)
unfolding topic_written
topic_is t g =
    let name = name_fits t.name g.name in
    let kind = kind_fits t.kind in
    let form = shape_fits t.shape in
    let depth = history_fits t.depth g.depth in
    let samples = limit_fits t.max_samples g.max_samples in
    let instances = limit_fits t.max_instances g.max_instances in
    let each = limit_fits t.max_per_instance g.max_per_instance in
    let held = limit_fits t.max_held g.max_held in
    line_of (codes "topic") (t.name ∷ kind_word t.kind ∷ shape_word t.shape ∷ history_word t.depth ∷ limit_words t) (line.Topic t) (is_word is_name_octet (codes "topic") refl refl refl)
    (name.word, (kind.word, (form.word, (depth.word, (samples.word, (instances.word, (each.word, (held.word, (decimal_word t.delay g.delay, tt)))))))))
    (omega (arith, name.short, kind.short, form.short, depth.short, samples.short, instances.short, each.short, held.short, decimal_short t.delay g.delay)) (topic_says t g)

writer_says : (guid name : List ℕ) (lease : Option ℕ) → IsOctets 16 guid → IsTrue (is_name name) → IsLimit lease → writer_line (encode_lower guid ∷ name ∷ limit_word lease ∷ []) ≡ Ok (line.Writer guid name lease)
unfolding writer_line
writer_says guid name lease g n l = rw (guid_again guid _ g, name_again name _ n, limit_again lease _ l) refl

writer_is : (topics : List Topic) (w : WriterLine) → IsOctets 16 w.guid → IsTrue (is_name (topic_word topics w.topic)) → IsLimit w.lease → IsLine (writer_written topics w) (line.Writer w.guid (topic_word topics w.topic) w.lease)
unfolding writer_written
writer_is topics w g n l =
    let guid = hex_fits 16 w.guid g in
    let name = name_fits (topic_word topics w.topic) n in
    let lease = limit_fits w.lease l in
    line_of (codes "writer") (encode_lower w.guid ∷ topic_word topics w.topic ∷ limit_word w.lease ∷ []) _ (is_word is_name_octet (codes "writer") refl refl refl)
    (guid.word, (name.word, (lease.word, tt))) (omega (arith, guid.short, name.short, lease.short)) (writer_says w.guid (topic_word topics w.topic) w.lease g n l)

reader_says : (guid name : List ℕ) (kind : Durability) → IsOctets 16 guid → IsTrue (is_name name) → reader_line (encode_lower guid ∷ name ∷ kind_word kind ∷ []) ≡ Ok (line.Reader guid name kind)
unfolding reader_line
reader_says guid name kind g n = rw (guid_again guid _ g, name_again name _ n, reader_kind_again kind _) refl

reader_is : (topics : List Topic) (r : ReaderLine) → IsOctets 16 r.guid → IsTrue (is_name (topic_word topics r.topic)) → IsLine (reader_written topics r) (line.Reader r.guid (topic_word topics r.topic) r.kind)
unfolding reader_written
reader_is topics r g n =
    let guid = hex_fits 16 r.guid g in
    let name = name_fits (topic_word topics r.topic) n in
    let kind = kind_fits r.kind in
    line_of (codes "reader") (encode_lower r.guid ∷ topic_word topics r.topic ∷ kind_word r.kind ∷ []) _ (is_word is_name_octet (codes "reader") refl refl refl)
    (guid.word, (name.word, (kind.word, tt))) (omega (arith, guid.short, name.short, kind.short)) (reader_says r.guid (topic_word topics r.topic) r.kind g n)

end_is : IsLine (codes "end") line.End
end_is = line_of (codes "end") [] line.End (is_word is_name_octet (codes "end") refl refl refl) tt (omega arith) refl

-- ---- the place of a topic's name
abbrev NewName : List Topic → Topic → Type 0
NewName seen t = place_of t.name seen ≡ None

same_octets : (xs : List ℕ) → bytes_eq xs xs ≡ true
same_octets xs = (bytes_eq-Decides xs xs).1 refl

-- a name that has no place is not that of a topic in the list
other_name : (k : ℕ) (name : List ℕ) (before between : List Topic) (t : Topic) → place_from k name (before ++ t ∷ between) ≡ None → bytes_eq name t.name ≡ false
other_name k name [] between t h = go (bytes_eq name t.name) h where
  go : (b : Bool) → cond b (Some k) (place_from (k + 1) name between) ≡ None → b ≡ false
  go true e = absurd cc
  go false e = refl
other_name k name (x ∷ before) between t h = go (bytes_eq name x.name) h (λ e. other_name (k + 1) name before between t e) where
  go : (b : Bool) → cond b (Some k) (place_from (k + 1) name (before ++ t ∷ between)) ≡ None → (place_from (k + 1) name (before ++ t ∷ between) ≡ None → bytes_eq name t.name ≡ false) → bytes_eq name t.name ≡ false
  go true e later = absurd cc
  go false e later = later e

differs : (before between ts : List Topic) (t : Topic) (i : ℕ) → EachIsNew NewName (before ++ t ∷ between) ts → i < length ts → bytes_eq (topic_word ts i) t.name ≡ false
differs before between [] t i new within = absurd (omega (arith, within))
differs before between (x ∷ ts) t zero new within = other_name 0 x.name before between t new.0
differs before between (x ∷ ts) t (suc i) new within =
    differs before (between ++ x ∷ []) ts t i (subst (λ (s : List Topic). EachIsNew NewName s ts) (append_assoc before (t ∷ between) (x ∷ [])) new.1) (omega (arith, within))

place_in : (k : ℕ) (seen ts : List Topic) (i : ℕ) → EachIsNew NewName seen ts → i < length ts → place_from k (topic_word ts i) ts ≡ Some (k + i)
place_in k seen [] i new within = absurd (omega (arith, within))
place_in k seen (t ∷ ts) zero new within = rw (same_octets t.name) (ap (λ (n : ℕ). Some n) (omega arith))
place_in k seen (t ∷ ts) (suc i) new within =
    rw (differs seen [] ts t i new.1 (omega (arith, within))) (place_in (k + 1) (seen ++ t ∷ []) ts i new.1 (omega (arith, within)) ∙ ap (λ (n : ℕ). Some n) (omega arith))

place_found : (ts : List Topic) (i : ℕ) → EachIsNew NewName [] ts → i < length ts → place_of (topic_word ts i) ts ≡ Some i
place_found ts i new within = place_in 0 [] ts i new within ∙ ap (λ (n : ℕ). Some n) (omega arith)

name_good : (ts : List Topic) (i : ℕ) → AllByRecursion IsGoodTopic ts → i < length ts → IsTrue (is_name (topic_word ts i))
name_good [] i all within = absurd (omega (arith, within))
name_good (t ∷ ts) zero all within = all.0.name
name_good (t ∷ ts) (suc i) all within = name_good ts i all.1 (omega (arith, within))

-- ---- lines go on
goes_on : (p q r : Option Plan) (ls ms : List (List ℕ)) → GoesOn p ls q → GoesOn q ms r → GoesOn p (ls ++ ms) r
goes_on p q r [] ms g h = subst (λ (x : Option Plan). GoesOn x ms r) (sym g) h
goes_on p q r (l ∷ ls) ms g h = (g.0, g.1, g.2, g.3, goes_on (Some g.2) q r ls ms g.4 h)

-- a line that is read and added
one_line : (plan next q : Plan) (text : List ℕ) (l : Line) (ls : List (List ℕ)) → IsLine text l → later plan (Ok l) ≡ Ok (record { plan = next; ended = false }) → GoesOn (Some next) ls (Some q) → GoesOn (Some plan) (text ∷ ls) (Some q)
one_line plan next q text l ls is adds goes = (is.feed, is.short, next, ap (later plan) is.reads ∙ adds, goes)

abbrev plan_of : List ℕ → List Topic → List WriterLine → List ReaderLine → Plan
plan_of prefix topics writers readers = record { prefix = prefix; topics = topics; writers = writers; readers = readers }

topic_adds : (prefix : List ℕ) (seen : List Topic) (t : Topic) → place_of t.name seen ≡ None → is_above t.depth t.max_per_instance ≡ false → length seen < 1024
    → later (plan_of prefix seen [] []) (Ok (line.Topic t)) ≡ Ok (record { plan = plan_of prefix (seen ++ t ∷ []) [] []; ended = false })
unfolding add_topic
topic_adds prefix seen t new depth room = rw (new, depth, lt-leb 1024 (length seen) room) refl

topics_go : (prefix : List ℕ) (all seen ts : List Topic) → all ≡ seen ++ ts → length all ≤ 1024 → AllByRecursion IsGoodTopic ts → AllByRecursion (λ t. is_above t.depth t.max_per_instance ≡ false) ts → EachIsNew NewName seen ts
    → GoesOn (Some (plan_of prefix seen [] [])) (map topic_written ts) (Some (plan_of prefix all [] []))
topics_go prefix all seen [] is most each depths new = ap (λ (s : List Topic). Some (plan_of prefix s [] [])) (sym (is ∙ append-nil seen))
topics_go prefix all seen (t ∷ ts) is most each depths new =
    let room : length seen < 1024 = omega (arith, ap length is, length-append seen (t ∷ ts), most) in
    one_line (plan_of prefix seen [] []) (plan_of prefix (seen ++ t ∷ []) [] []) (plan_of prefix all [] []) (topic_written t) (line.Topic t) (map topic_written ts) (topic_is t each.0) (topic_adds prefix seen t new.0 depths.0 room)
    (topics_go prefix all (seen ++ t ∷ []) ts (is ∙ sym (append_assoc seen (t ∷ []) ts)) most each.1 depths.1 new.1)

writer_adds : (prefix : List ℕ) (topics : List Topic) (seen : List WriterLine) (w : WriterLine) (name : List ℕ) → has_writer w.guid seen ≡ false → place_of name topics ≡ Some w.topic → length seen < 4096
    → later (plan_of prefix topics seen []) (Ok (line.Writer w.guid name w.lease)) ≡ Ok (record { plan = plan_of prefix topics (seen ++ w ∷ []) []; ended = false })
unfolding add_writer
writer_adds prefix topics seen w name new place room = rw (new, place, lt-leb 4096 (length seen) room) refl

writers_go : (prefix : List ℕ) (topics : List Topic) (all seen ws : List WriterLine) → AllByRecursion IsGoodTopic topics → EachIsNew NewName [] topics → all ≡ seen ++ ws → length all ≤ 4096 → AllByRecursion (IsGoodWriter (length topics)) ws → AllByRecursion (λ w. IsOctets 16 w.guid) ws → EachIsNew (λ old w. has_writer w.guid old ≡ false) seen ws
    → GoesOn (Some (plan_of prefix topics seen [])) (map (writer_written topics) ws) (Some (plan_of prefix topics all []))
writers_go prefix topics all seen [] goods names is most each typed new = ap (λ (s : List WriterLine). Some (plan_of prefix topics s [])) (sym (is ∙ append-nil seen))
writers_go prefix topics all seen (w ∷ ws) goods names is most each typed new =
    let room : length seen < 4096 = omega (arith, ap length is, length-append seen (w ∷ ws), most) in
    one_line (plan_of prefix topics seen []) (plan_of prefix topics (seen ++ w ∷ []) []) (plan_of prefix topics all []) (writer_written topics w) (line.Writer w.guid (topic_word topics w.topic) w.lease) (map (writer_written topics) ws)
    (writer_is topics w typed.0 (name_good topics w.topic goods each.0.0) each.0.1) (writer_adds prefix topics seen w (topic_word topics w.topic) new.0 (place_found topics w.topic names each.0.0) room)
    (writers_go prefix topics all (seen ++ w ∷ []) ws goods names (is ∙ sym (append_assoc seen (w ∷ []) ws)) most each.1 typed.1 new.1)

reader_adds : (prefix : List ℕ) (topics : List Topic) (writers : List WriterLine) (seen : List ReaderLine) (r : ReaderLine) (name : List ℕ) → has_reader r.guid seen ≡ false → place_of name topics ≡ Some r.topic → length seen < 1024
    → later (plan_of prefix topics writers seen) (Ok (line.Reader r.guid name r.kind)) ≡ Ok (record { plan = plan_of prefix topics writers (seen ++ r ∷ []); ended = false })
unfolding add_reader
reader_adds prefix topics writers seen r name new place room = rw (new, place, lt-leb 1024 (length seen) room) refl

readers_go : (prefix : List ℕ) (topics : List Topic) (writers : List WriterLine) (all seen rs : List ReaderLine) → AllByRecursion IsGoodTopic topics → EachIsNew NewName [] topics → all ≡ seen ++ rs → length all ≤ 1024 → AllByRecursion (IsGoodReader (length topics)) rs → AllByRecursion (λ r. IsOctets 16 r.guid) rs → EachIsNew (λ old r. has_reader r.guid old ≡ false) seen rs
    → GoesOn (Some (plan_of prefix topics writers seen)) (map (reader_written topics) rs) (Some (plan_of prefix topics writers all))
readers_go prefix topics writers all seen [] goods names is most each typed new = ap (λ (s : List ReaderLine). Some (plan_of prefix topics writers s)) (sym (is ∙ append-nil seen))
readers_go prefix topics writers all seen (r ∷ rs) goods names is most each typed new =
    let room : length seen < 1024 = omega (arith, ap length is, length-append seen (r ∷ rs), most) in
    one_line (plan_of prefix topics writers seen) (plan_of prefix topics writers (seen ++ r ∷ [])) (plan_of prefix topics writers all) (reader_written topics r) (line.Reader r.guid (topic_word topics r.topic) r.kind) (map (reader_written topics) rs)
    (reader_is topics r typed.0 (name_good topics r.topic goods each.0)) (reader_adds prefix topics writers seen r (topic_word topics r.topic) new.0 (place_found topics r.topic names each.0) room)
    (readers_go prefix topics writers all (seen ++ r ∷ []) rs goods names (is ∙ sym (append_assoc seen (r ∷ []) rs)) most each.1 typed.1 new.1)

-- ---- the whole text

-- the lines of a plan but the last
abbrev lines_of : Plan → List (List ℕ)
lines_of p = prefix_written p.prefix ∷ (map topic_written p.topics ++ (map (writer_written p.topics) p.writers ++ map (reader_written p.topics) p.readers))

lines_text : (p : Plan) → flat_map line_text (lines_of p) ≡ line_text (prefix_written p.prefix) ++ (topics_text p.topics ++ (writers_text p.topics p.writers ++ readers_text p.topics p.readers))
lines_text p =
    let ts = map topic_written p.topics in
    let ws = map (writer_written p.topics) p.writers in
    let rs = map (reader_written p.topics) p.readers in
    flat_map-cons line_text (prefix_written p.prefix) (ts ++ (ws ++ rs))
    ∙ ap (λ (t : List ℕ). line_text (prefix_written p.prefix) ++ t) (
    flat_map-append line_text ts (ws ++ rs) ∙ ap (λ (t : List ℕ). flat_map line_text ts ++ t) (flat_map-append line_text ws rs)
    ∙ rw (flat_map-map line_text topic_written p.topics, flat_map-map line_text (writer_written p.topics) p.writers, flat_map-map line_text (reader_written p.topics) p.readers) refl
    )

plan_parts : (p : Plan) → plan_text p ≡ flat_map line_text (lines_of p) ++ (line_text (codes "end") ++ [])
unfolding plan_text
plan_parts p =
    let a = line_text (prefix_written p.prefix) in
    let b = topics_text p.topics in
    let c = writers_text p.topics p.writers in
    let d = readers_text p.topics p.readers in
    let e = line_text (codes "end") in
    let joined : (a ++ (b ++ (c ++ d))) ++ e ≡ a ++ (b ++ (c ++ (d ++ e))) = simp append_assoc in
    sym (ap (λ (t : List ℕ). t ++ e) (lines_text p) ∙ joined)

lines_go : (p : Plan) → GoodPlan p → IsTypedPlan p → GoesOn None (lines_of p) (Some p)
lines_go p g typed =
    let first_line = prefix_is p.prefix typed.prefix in
    let none = plan_of p.prefix [] [] [] in
    let topics = plan_of p.prefix p.topics [] [] in
    let written = plan_of p.prefix p.topics p.writers [] in (
      first_line.feed,
      first_line.short,
      none,
      ap first first_line.reads,
      goes_on (Some none) (Some topics) (Some p) (map topic_written p.topics) _ (topics_go p.prefix p.topics [] p.topics refl g.topic_count g.topics g.depths g.names) (
          goes_on (Some topics) (Some written) (Some p) (map (writer_written p.topics) p.writers) _ (writers_go p.prefix p.topics p.writers [] p.writers g.topics g.names refl g.writer_count g.writers typed.writers g.writer_guids)
          (readers_go p.prefix p.topics p.writers p.readers [] p.readers g.topics g.names refl g.reader_count g.readers typed.readers g.reader_guids)
          ),
    )

pub plan_back : (p : Plan) → GoodPlan p → IsTypedPlan p → PlanText (plan_text p) p (length (plan_text p))
plan_back p g typed = record {
  count = length (lines_of p);
  before = Some p;
  last = codes "end";
  more = [];
  lines = record { lines = lines_of p; parts = plan_parts p; goes = lines_go p g typed; count_is = refl };
  feed = end_is.feed;
  short = end_is.short;
  says = ap (later p) end_is.reads;
  size = omega arith;
}
