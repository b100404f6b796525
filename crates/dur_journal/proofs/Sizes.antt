-- How many octets texts have: an entry at most 65,454 in version 2, and a writer of a view at least 36.
use Rattle.std.proofs.Common.{◌≡◌, ℕ, zero, suc, ◌+◌, ◌*◌, ◌^◌, ◌≤◌, Bool, true, false, List, [], ◌∷◌, ◌++◌, length, Option, None, Some, refl, ap, arith}
use Rattle.std.specs.Prelude.{◌==◌, nat_le}
use Rattle.std.proofs.lemmas.List.{length-append}
use Rattle.std.proofs.lemmas.Bool.{cases_Bool}
use Rattle.dur_base.specs.declared.entry.Entry.{Entry}
use Rattle.dur_base.specs.declared.sample.Form.{Form}
use Rattle.dur_base.specs.declared.sample.Form.TheVariants.{Nothing, Data, KeyOnly}
use Rattle.dur_base.specs.declared.sample.Act.{Act}
use Rattle.dur_qos.specs.declared.plan.Topic.{Topic}
use Rattle.dur_view.specs.declared.data.KeptWriter.{KeptWriter}
use Rattle.dur_view.specs.declared.data.View.{View}
use Rattle.dur_view.specs.History.{History}
use Rattle.dur_record.specs.declared.field.Kind.{Kind}
use Rattle.dur_record.specs.declared.past.Wanted.{Wanted}
use Rattle.dur_record.specs.declared.sample.Asks.{Asks}
use Rattle.dur_record.specs.declared.version.Version.{Version}
use Rattle.dur_record.specs.declared.version.Version.TheVariants.{One, Two}
use Rattle.dur_record.specs.Grammar.{Row, ends, field, ◌>>=◌, choose, items, Spells}
use Rattle.dur_record.specs.Fields.{octets, u64, octets_if, u8_if, u32_if, u64_if, tag_if, number_row}
use Rattle.dur_record.specs.Samples.{act_row, form_row, key_row, is_there_row, option_row, lifespan_row, mark_row, set_row, original_row, is_length, payload_row, sample_row}
use Rattle.dur_record.specs.Entries.{with_entry, tag_row, entry_moment_row, known_row, entry_number_row, took_row, skip_row, by_tag, entry_after, entry_row, SpellEach, SpellsEntries, wanted}
use Rattle.dur_record.specs.Views.{guid_row, topic_in_row, next_row, held_row, key_asked, writer_row, topic_count_row, topic_row, writer_count_row, view_row, SpellsView}
use Rattle.dur_record.proofs.Runs.{spells_within}
use Rattle.dur_record.proofs.Told.{u64_told, le_told}

-- ---- at most

-- what the row spells has at most so many octets
Most : {V : Type 0} → Row V → ℕ → Type 0
Most {V} row most = (text : List ℕ) (v : V) (rest : List ℕ) → Spells row text v rest → length text ≤ most + length rest

most_ends : {V : Type 0} (v : V) (n : ℕ) → Most (ends v) n
unfolding Most
most_ends v n = λ text w rest s. omega (arith, ap length s.1)

most_field : {V : Type 0} (width : ℕ) (kind : Kind) (good : List ℕ → Bool) (value : List ℕ → V) → Most (field width kind good value) width
unfolding Most
most_field width kind good value = λ text v rest s. omega (arith, ap length s.1, length-append s.0 rest, s.2)

most_then : {A V : Type 0} (row : Row A) (next : A → Row V) (a b : ℕ) → Most row a → ((x : A) → Most (next x) b) → Most (row >>= next) (a + b)
unfolding Most
most_then row next a b first later = λ text v rest s. omega (arith, first text s.0 s.1 s.2, later s.0 s.1 v rest s.3)

most_choose : {V : Type 0} (c : Bool) (one other : Row V) (n : ℕ) → Most one n → Most other n → Most (choose c one other) n
most_choose true one other n first second = first
most_choose false one other n first second = second

most_more : {V : Type 0} (row : Row V) (a b : ℕ) → a ≤ b → Most row a → Most row b
unfolding Most
most_more row a b le most = λ text v rest s. omega (arith, le, most text v rest s)

most_octets : (n : ℕ) → Most (octets n) n
unfolding octets
most_octets n = most_field n _ _ _

most_octets_if : (n : ℕ) (good : List ℕ → Bool) → Most (octets_if n good) n
unfolding octets_if
most_octets_if n good = most_field n _ _ _

most_u8 : (good : ℕ → Bool) → Most (u8_if good) 1
unfolding u8_if
most_u8 good = most_field 1 _ _ _

most_tag : (good : ℕ → Bool) → Most (tag_if good) 1
unfolding tag_if
most_tag good = most_field 1 _ _ _

most_u64_if : (good : ℕ → Bool) → Most (u64_if good) 8
unfolding u64_if
most_u64_if good = most_field 8 _ _ _

most_u64 : Most u64 8
unfolding u64
most_u64 = most_field 8 _ _ _

most_there : Most is_there_row 1
unfolding is_there_row
most_there = most_then _ _ 1 0 (most_u8 _) (λ n. most_ends _ 0)

most_option : {A : Type 0} (row : Row A) (n : ℕ) → Most row n → Most (option_row row) (1 + n)
most_option row n most =
    most_then _ _ 1 n most_there (λ there. most_choose there _ _ n (most_more _ (n + 0) n (omega arith) (most_then _ _ n 0 most (λ x. most_ends _ 0))) (most_ends _ n))

most_act : (asks : Asks) → Most (act_row asks) 1
unfolding act_row
most_act asks = most_then _ _ 1 0 (most_u8 _) (λ n. most_ends _ 0)

most_form : (act : Act) → Most (form_row act) 1
unfolding form_row
most_form act = most_then _ _ 1 0 (most_u8 _) (λ n. most_ends _ 0)

most_key : (asks : Asks) (act : Act) → Most (key_row asks act) 16
unfolding key_row
most_key asks act = most_octets_if 16 _

most_lifespan : Most lifespan_row 9
unfolding lifespan_row
most_lifespan = most_option _ 8 (most_u64_if _)

most_mark : (asked : Option ℕ) → Most (mark_row asked) 8
unfolding mark_row
most_mark asked = most_then _ _ 8 0 (most_u64_if _) (λ n. most_ends _ 0)

most_set : (asks : Asks) → Most (set_row asks) 9
unfolding set_row
most_set asks = most_then _ _ 1 8 (most_u8 _) (λ tag. most_choose (tag == 0) _ _ 8 (most_ends _ 8) (most_choose (tag == 1) _ _ 8 (most_ends _ 8) (most_mark _)))

most_number : Most number_row 8
unfolding number_row
most_number = most_u64_if _

most_original : Most original_row 25
unfolding original_row
most_original = most_option _ 24 (most_then _ _ 16 8 (most_octets 16) (λ guid. most_then _ _ 8 0 most_number (λ number. most_ends _ 0)))

length_few : (form : Form) (n : ℕ) → is_length form n ≡ true → n ≤ 65344
length_few Nothing n is = grind (arith, is)
length_few Data n is = le_told n 65344 is
length_few KeyOnly n is = le_told n 65344 is

most_payload : (form : Form) → Most (payload_row Two form) 65352
unfolding payload_row Most
most_payload form = λ text v rest s.
    omega (arith, most_u64_if (is_length form) text s.0 s.1 s.2, length_few form s.0 (u64_told (is_length form) text s.0 s.1 s.2), most_octets s.0 s.1 v rest s.3)

most_sample : (asks : Asks) → Most (sample_row Two asks) 65421
unfolding sample_row
most_sample asks =
    most_then _ _ 1 65420 (most_act asks) (λ act.
    most_then _ _ 1 65419 (most_form act) (λ form.
    most_then _ _ 16 65403 (most_key asks act) (λ key.
    most_then _ _ 8 65395 most_u64 (λ stamp.
    most_then _ _ 9 65386 most_lifespan (λ lifespan.
    most_then _ _ 9 65377 (most_set asks) (λ set.
    most_then _ _ 25 65352 most_original (λ original.
    most_then _ _ 65352 0 (most_payload form) (λ payload. most_ends _ 0))))))))

most_entry_number : (asked : Wanted) → Most (entry_number_row asked) 8
unfolding entry_number_row
most_entry_number asked = most_u64_if _

most_took : (asked : Wanted) (m : ℕ) (w : List ℕ) → Most (took_row Two asked m w) 65429
unfolding took_row
most_took asked m w = most_then _ _ 8 65421 (most_entry_number asked) (λ number. most_then _ _ 65421 0 (most_sample _) (λ sample. most_ends _ 0))

most_skip : (asked : Wanted) (m : ℕ) (w : List ℕ) → Most (skip_row asked m w) 65429
unfolding skip_row
most_skip asked m w = most_more _ 16 65429 (omega arith) (most_then _ _ 8 8 (most_entry_number asked) (λ from. most_then _ _ 8 0 (most_u64_if _) (λ to. most_ends _ 0)))

most_moment : (past : Option History) → Most (entry_moment_row past) 8
unfolding entry_moment_row
most_moment past = most_u64_if _

most_known : (past : Option History) → Most (known_row past) 16
unfolding known_row
most_known past = most_octets_if 16 _

most_tag_row : Most tag_row 1
unfolding tag_row
most_tag_row = most_tag _

most_entry : (past : Option History) → Most (entry_row Two past) 65454
unfolding entry_row
most_entry past =
    most_then _ _ 1 65453 most_tag_row (λ tag.
    most_then _ _ 8 65445 (most_moment past) (λ moment.
    most_then _ _ 16 65429 (most_known past) (λ writer.
    most_choose (tag == 1) _ _ 65429 (most_took (wanted past writer) moment writer) (most_choose (tag == 2) _ _ 65429 (most_skip (wanted past writer) moment writer) (most_ends _ 65429)))))

each_most : (past : Option History) (text : List ℕ) (es : List Entry) (rest : List ℕ) → SpellEach Two past text es rest → length text ≤ 65454 * length es + length rest
unfolding Most
each_most past text [] rest s = omega (arith, ap length s)
each_most past text (e ∷ es) rest s = omega (arith, most_entry past text e s.0 s.1, each_most (with_entry past e) s.0 es rest s.2)

-- entries have at most so many octets
pub entries_most : (past : Option History) (text : List ℕ) (es : List Entry) → SpellsEntries Two past text es → length text ≤ 65454 * length es
entries_most past text es s = let most = each_most past text es [] s in omega (arith, most)

-- ---- at least

guid_takes : (seen : List KeptWriter) (text v rest : List ℕ) → Spells (guid_row seen) text v rest → length text ≡ 16 + length rest
unfolding guid_row octets_if
guid_takes seen text v rest s = omega (arith, ap length s.1, length-append s.0 rest, s.2)

topic_takes : (topics : List Topic) (text : List ℕ) (v : ℕ) (rest : List ℕ) → Spells (topic_in_row topics) text v rest → length text ≡ 4 + length rest
unfolding topic_in_row u32_if
topic_takes topics text v rest s = omega (arith, ap length s.1, length-append s.0 rest, s.2)

next_takes : (text : List ℕ) (v : ℕ) (rest : List ℕ) → Spells next_row text v rest → length text ≡ 8 + length rest
unfolding next_row u64_if
next_takes text v rest s = omega (arith, ap length s.1, length-append s.0 rest, s.2)

u64_takes : (text : List ℕ) (v : ℕ) (rest : List ℕ) → Spells u64 text v rest → length text ≡ 8 + length rest
unfolding u64
u64_takes text v rest s = omega (arith, ap length s.1, length-append s.0 rest, s.2)

writer_takes : (version : Version) (last : ℕ) (topics : List Topic) (seen : List KeptWriter) (text : List ℕ) (w : KeptWriter) (rest : List ℕ) → Spells (writer_row version last topics seen) text w rest → 36 + length rest ≤ length text
unfolding writer_row
writer_takes version last topics seen text w rest s =
    let t = s.3 in
    let n = t.3 in
    let c = n.3 in
    let held = c.3 in
    omega (
      arith,
      guid_takes seen text s.0 s.1 s.2,
      topic_takes topics s.1 t.0 t.1 t.2,
      next_takes t.1 n.0 n.1 n.2,
      u64_takes n.1 c.0 c.1 c.2,
      spells_within (items c.0 (held_row version last (key_asked topics t.0) n.0 c.0) []) c.1 held.0 held.1 held.2,
      ap length held.3.1,
    )

writers_take : (version : Version) (last : ℕ) (topics : List Topic) (n : ℕ) (seen : List KeptWriter) (text : List ℕ) (ws : List KeptWriter) (rest : List ℕ) → Spells (items n (writer_row version last topics) seen) text ws rest
    → 36 * length ws ≤ 36 * length seen + length text
writers_take version last topics zero seen text ws rest s = omega (arith, ap length s.0)
writers_take version last topics (suc n) seen text ws rest s =
    omega (arith, writer_takes version last topics seen text s.0 s.1 s.2, writers_take version last topics n (seen ++ s.0 ∷ []) s.1 ws rest s.3, length-append seen (s.0 ∷ []))

-- a text of at most 2^30 octets has at most 2^25 writers
pub few_writers : (version : Version) (text : List ℕ) (v : View) → SpellsView version text v → length text ≤ 2 ^ 30 → length v.writers ≤ 2 ^ 25
unfolding view_row
few_writers version text v s short =
    let t = s.3 in
    let u = t.3 in
    let w = u.3 in
    let x = w.3 in
    let y = x.3 in
    let z = y.3 in
    let k = z.3 in
    let l = k.3 in
    let is : v.writers ≡ x.0 = ap (λ (q : View). q.writers) l.3.0 in
    omega (
      arith,
      short,
      ap length is,
      u64_takes text s.0 s.1 s.2,
      spells_within topic_count_row s.1 t.0 t.1 t.2,
      spells_within (items t.0 topic_row []) t.1 u.0 u.1 u.2,
      spells_within writer_count_row u.1 w.0 w.1 w.2,
      writers_take version s.0 u.0 w.0 [] w.1 x.0 x.1 x.2,
    )
