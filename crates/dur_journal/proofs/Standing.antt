-- What a journal's disk keeps, and while a batch is stored.
use Rattle.std.proofs.Common.{◌≡◌, ◌≢◌, inl, inr, ℕ, ◌+◌, ◌≤◌, ◌<◌, ◌^◌, true, List, [], ◌∷◌, ◌++◌, length, take, drop, Some, Result, Ok, refl, sym, ◌∙◌, ap, subst, arith, append_assoc}
use Rattle.std.specs.Int.{w32}
use Rattle.std.proofs.lemmas.Bool.{cases_eq}
use Rattle.std.proofs.lemmas.List.{length-append, take_at, drop_at, take-append-drop}
use Rattle.dur_outside.specs.declared.values.FileId.{FileId}
use Rattle.dur_outside.specs.declared.values.FileId.TheVariants.{Zero, One}
use Rattle.dur_outside.specs.World.{Image, World, IsSound, Leaves, Changed, IsClean, content, put, over}
use Rattle.dur_outside.proofs.Runs.{content-put, joins, now_has, weaker}
use Rattle.dur_base.specs.Fields.{octets}
use Rattle.dur_base.proofs.FieldNumbers.{length_32, again_32}
use Rattle.dur_view.specs.declared.data.View.{View}
use Rattle.dur_base.specs.declared.entry.Entry.{Entry}
use Rattle.dur_qos.specs.declared.plan.Plan.{Plan}
use Rattle.dur_view.specs.History.{History}
use Rattle.dur_view.specs.History.{Start, start}
use Rattle.dur_record.specs.declared.version.Version.{Version}
use Rattle.dur_record.specs.declared.version.Version.TheVariants.{Two}
use Rattle.dur_record.specs.Texts.{entries_text}
use Rattle.dur_record.specs.WholeTexts.{view_text}
use Rattle.dur_journal.specs.Histories.{more}
use Rattle.dur_journal.specs.Texts.{version_of, view_in, entries_in}
use Rattle.dur_journal.proofs.Wholes.{whole_same}
use Rattle.dur_journal.specs.declared.front.Front.{Front}
use Rattle.dur_journal.specs.declared.front.Front.TheVariants.{Open}
use Rattle.dur_journal.specs.declared.state.Journal.{Journal}
use Rattle.dur_journal.specs.File.{front_in, base_length, Stored, IsStored, records_text, Tells}
use Rattle.dur_journal.specs.Steps.{gated, record_text, IsAppending, IsRewriting}
use Rattle.dur_journal.specs.Kept.{live_of, live_in, other, Kept, Keeps, IsOneOf, extended, renewed}
use Rattle.dur_journal.specs.Journals.{Stands}
use Rattle.dur_journal.proofs.Fronts.{front_more, base_more, version_more}
use Rattle.dur_journal.proofs.FileTexts.{tells_start}
use Rattle.dur_journal.proofs.Records.{text_more, tells_more}
use Rattle.dur_journal.proofs.Loads.{live_open, other_other}
use Rattle.dur_journal.proofs.Lives.{kept_new, written_put}
use Rattle.dur_journal.proofs.News.{IsNew, new_leaves, new_stands}

-- the same front in the live file: the same file is live
same_live : (file : FileId) (old c : Image) → c ≡ put file (content file c) old → front_in (content file c) ≡ front_in (content file old) → live_in c ≡ live_in old
same_live Zero old c rest front = ap (λ (d : Image). live_of (front_in c.zero) (front_in d.one)) rest ∙ ap (λ (f : Result Front ℕ). live_of f (front_in old.one)) front
same_live One old c rest front = ap (λ (d : Image). live_of (front_in d.zero) (front_in c.one)) rest ∙ ap (λ (f : Result Front ℕ). live_of (front_in old.zero) f) front

-- the live file with other records behind the same base keeps what these tell
pub record IsLive {D : Type 0} (plan : Plan) (k : Kept) (journal : Journal D) (w : World) (s : Stands plan k journal w) (c : Image) (rs : List Stored) (gate : ℕ) (rest : List ℕ) : Type 0 where
  pub others : c ≡ put journal.live (content journal.live c) w.now
  pub parts : content journal.live c ≡ s.front ++ (s.base ++ (records_text rs ++ gate ∷ rest))

live_front : {D : Type 0} (plan : Plan) (k : Kept) (journal : Journal D) (w : World) (s : Stands plan k journal w) (c : Image) (rs : List Stored) (gate : ℕ) (rest : List ℕ)
    → IsLive plan k journal w s c rs gate rest → front_in (content journal.live c) ≡ front_in (content journal.live w.now)
live_front plan k journal w s c rs gate rest is =
    let long : 25 ≤ length s.front = omega (arith, s.header) in
    ap front_in is.parts ∙ front_more s.front (s.base ++ (records_text rs ++ gate ∷ rest)) long
    ∙ sym (ap front_in s.parts ∙ front_more s.front (s.base ++ (records_text s.rs ++ 0 ∷ [])) long)

live_base : {D : Type 0} (plan : Plan) (k : Kept) (journal : Journal D) (w : World) (s : Stands plan k journal w) (c : Image) (rs : List Stored) (gate : ℕ) (rest : List ℕ)
    → IsLive plan k journal w s c rs gate rest → base_length (content journal.live c) ≡ length s.base
live_base plan k journal w s c rs gate rest is =
    let long : 25 ≤ length s.front = omega (arith, s.header) in
    ap base_length is.parts ∙ base_more s.front (s.base ++ (records_text rs ++ gate ∷ rest)) long
    ∙ sym (ap base_length s.parts ∙ base_more s.front (s.base ++ (records_text s.rs ++ 0 ∷ [])) long) ∙ s.sized

live_version : {D : Type 0} (plan : Plan) (k : Kept) (journal : Journal D) (w : World) (s : Stands plan k journal w) (c : Image) (rs : List Stored) (gate : ℕ) (rest : List ℕ)
    → IsLive plan k journal w s c rs gate rest → version_of (content journal.live c) ≡ Two
live_version plan k journal w s c rs gate rest is =
    let long : 25 ≤ length s.front = omega (arith, s.header) in
    ap version_of is.parts ∙ version_more s.front (s.base ++ (records_text rs ++ gate ∷ rest)) long
    ∙ sym (ap version_of s.parts ∙ version_more s.front (s.base ++ (records_text s.rs ++ 0 ∷ [])) long) ∙ s.version

pub live_keeps : {D : Type 0} (plan : Plan) (k : Kept) (journal : Journal D) (w : World) (s : Stands plan k journal w) (c : Image) (rs : List Stored) (gate : ℕ) (rest : List ℕ) (h : History) (appended : ℕ)
    → IsLive plan k journal w s c rs gate rest → gate ≢ 1 → Tells Two (Start s.view) rs h → appended ≡ length (records_text rs)
    → Keeps plan c (record { generation = k.generation; history = h; appended = appended })
live_keeps plan k journal w s c rs gate rest h appended is closed tells counts =
    let front = live_front plan k journal w s c rs gate rest is in
    let live : live_in c ≡ Ok (Some (journal.live, k.generation)) = same_live journal.live w.now c is.others front ∙ s.live in
    let begins : start h ≡ s.view = tells_start Two (Start s.view) h rs tells in
    let version = live_version plan k journal w s c rs gate rest is in
    kept_new plan c _ journal.live k.generation live (record {
      view = s.view;
      rs = rs;
      read = h;
      text = record {
        front = s.front;
        base = s.base;
        gate = gate;
        rest = rest;
        parts = is.parts;
        header = s.header;
        opens = front ∙ live_open w.now journal.live k.generation s.live;
        sized = live_base plan k journal w s c rs gate rest is;
        spells = ap (λ (v : Version). view_in v s.base) version ∙ s.spells;
        tells = subst (λ (v : Version). Tells v (Start s.view) rs h) (sym version) tells;
        closed = closed;
      };
      history = whole_same plan h s.view begins s.whole;
      appended = counts;
    })

-- it keeps what it stands for
pub stands_keeps : {D : Type 0} (plan : Plan) (k : Kept) (journal : Journal D) (w : World) → Stands plan k journal w → Keeps plan w.now k
stands_keeps plan k journal w s =
    live_keeps plan k journal w s w.now s.rs 0 [] k.history k.appended (record { others = sym (put_back journal.live w.now); parts = s.parts }) (λ no. absurd (cc)) s.tells s.records
  where
    put_back : (file : FileId) (c : Image) → put file (content file c) c ≡ c
    put_back Zero c = refl
    put_back One c = refl

pub compact_leaves : {D : Type 0} (plan : Plan) (k : Kept) (journal : Journal D) (w v : World) (view : View) (text : List ℕ) (g : ℕ) (file : FileId) → Stands plan k journal w
    → IsNew plan text g view → g ≡ journal.generation + 1 → file ≡ other journal.live
    → Leaves w v (Changed file (IsRewriting (content file w.now) text) w.now) → Leaves w v (IsOneOf plan w.now k (renewed view k))
compact_leaves plan k journal w v view text g file s new next file_is run =
    weaker w v _ _ run (λ c change. new_leaves plan w.now c k (Some (journal.live, k.generation)) text g view file new (next ∙ ap (λ (n : ℕ). n + 1) s.generation) s.live refl file_is (stands_keeps plan k journal w s) change)

pub compact_stands : {D : Type 0} (plan : Plan) (k : Kept) (journal later : Journal D) (w v : World) (view : View) (text : List ℕ) → Stands plan k journal w
    → IsNew plan text later.generation view → later.generation ≡ journal.generation + 1 → later.live ≡ other journal.live → later.spare ≡ Open journal.generation
    → later.base ≡ length (view_text view) → later.appended ≡ 0
    → v.now ≡ put later.live (gated 1 text) w.now → IsClean v → Stands plan (renewed view k) later v
compact_stands plan k journal later w v view text s new next file_is spare base appended done clean =
    new_stands plan w.now v later k (Some (journal.live, k.generation)) text view new (next ∙ ap (λ (n : ℕ). n + 1) s.generation) s.live refl file_is
    (ap (λ (f : FileId). front_in (content (other f) w.now)) file_is ∙ ap (λ (f : FileId). front_in (content f w.now)) (other_other journal.live)
    ∙ live_open w.now journal.live k.generation s.live ∙ ap (λ (n : ℕ). Ok (Open n)) (sym s.generation) ∙ ap (λ (f : Front). Ok f) (sym spare))
    base appended done clean

-- a record of these entries
pub stored_of : List Entry → Stored
stored_of es = record { size = octets true w32 (length (entries_text es)); body = entries_text es }

pub is_stored : (es : List Entry) → length (entries_text es) ≤ 2 ^ 28 → IsStored (stored_of es)
unfolding stored_of
is_stored es bound = record {
  whole = length_32 true (length (entries_text es));
  counts = again_32 true (length (entries_text es)) (omega (arith, bound));
  bound = bound;
}

-- the octets in front of the last gate
before : {D : Type 0} (plan : Plan) (k : Kept) (journal : Journal D) (w : World) → Stands plan k journal w → List ℕ
before plan k journal w s = s.front ++ (s.base ++ records_text s.rs)

before_parts : {D : Type 0} (plan : Plan) (k : Kept) (journal : Journal D) (w : World) (s : Stands plan k journal w) (rest : List ℕ)
    → before plan k journal w s ++ rest ≡ s.front ++ (s.base ++ (records_text s.rs ++ rest))
unfolding before
before_parts plan k journal w s rest =
    append_assoc s.front (s.base ++ records_text s.rs) rest ∙ ap (λ (l : List ℕ). s.front ++ l) (append_assoc s.base (records_text s.rs) rest)

before_length : {D : Type 0} (plan : Plan) (k : Kept) (journal : Journal D) (w : World) (s : Stands plan k journal w) → length (before plan k journal w s) ≡ 25 + journal.base + journal.appended
unfolding before
before_length plan k journal w s =
    omega (arith, length-append s.front (s.base ++ records_text s.rs), length-append s.base (records_text s.rs), s.header, s.counted, s.records, s.appended)

before_file : {D : Type 0} (plan : Plan) (k : Kept) (journal : Journal D) (w : World) (s : Stands plan k journal w) → content journal.live w.now ≡ before plan k journal w s ++ 0 ∷ []
before_file plan k journal w s = s.parts ∙ sym (before_parts plan k journal w s (0 ∷ []))

swayed_end : (p text : List ℕ) (gate at : ℕ) → length p ≡ at → over at (gate ∷ []) ((p ++ 0 ∷ []) ++ text) ≡ p ++ (gate ∷ text)
swayed_end p text gate at size =
    let whole : length (p ++ 0 ∷ []) ≡ at + 1 = length-append p (0 ∷ []) ∙ omega (arith, size) in
    ap (λ (l : List ℕ). take at l ++ (gate ∷ drop (at + 1) ((p ++ 0 ∷ []) ++ text))) (append_assoc p (0 ∷ []) text)
    ∙ ap (λ (l : List ℕ). l ++ (gate ∷ drop (at + 1) ((p ++ 0 ∷ []) ++ text))) (take_at p (0 ∷ text) at size)
    ∙ ap (λ (l : List ℕ). p ++ (gate ∷ l)) (drop_at (p ++ 0 ∷ []) text (at + 1) whole)

pub gate_place : {D : Type 0} (plan : Plan) (k : Kept) (journal : Journal D) (w : World) → Stands plan k journal w → 25 + journal.base + journal.appended + 1 ≡ length (content journal.live w.now)
gate_place plan k journal w s =
    let size = before_length plan k journal w s in
    let whole = ap length (before_file plan k journal w s) ∙ length-append (before plan k journal w s) (0 ∷ []) in
    omega (arith, size, whole)

-- with the record behind its gate
appended_parts : {D : Type 0} (plan : Plan) (k : Kept) (journal : Journal D) (w : World) (s : Stands plan k journal w) (es : List Entry)
    → before plan k journal w s ++ (1 ∷ record_text (entries_text es)) ≡ s.front ++ (s.base ++ (records_text (s.rs ++ stored_of es ∷ []) ++ 0 ∷ []))
unfolding record_text stored_of
appended_parts plan k journal w s es =
    before_parts plan k journal w s (1 ∷ record_text (entries_text es))
    ∙ ap (λ (l : List ℕ). s.front ++ (s.base ++ l)) (text_more s.rs (stored_of es) (0 ∷ []))

appended_length : (rs : List Stored) (es : List Entry) → length (records_text (rs ++ stored_of es ∷ [])) ≡ length (records_text rs) + (5 + length (entries_text es))
unfolding stored_of
appended_length rs es =
    let r = stored_of es in
    let more : length (records_text rs ++ (1 ∷ (r.size ++ (r.body ++ [])))) ≡ length (records_text (rs ++ r ∷ []) ++ []) = ap length (text_more rs r []) in
    let left = length-append (records_text rs) (1 ∷ (r.size ++ (r.body ++ []))) in
    let right = length-append (records_text (rs ++ r ∷ [])) [] in
    let one = length-append (1 ∷ []) (r.size ++ (r.body ++ [])) in
    let two = length-append r.size (r.body ++ []) in
    let three = length-append r.body [] in
    let four : length r.size ≡ 4 = length_32 true (length (entries_text es)) in
    omega (arith, more, left, right, one, two, three, four)

appended_tells : (view : View) (h : History) (rs : List Stored) (es : List Entry) → Tells Two (Start view) rs h → entries_in Two h (entries_text es) ≡ Ok es → length (entries_text es) ≤ 2 ^ 28
    → Tells Two (Start view) (rs ++ stored_of es ∷ []) (more h es)
unfolding stored_of
appended_tells view h rs es tells again bound =
    tells_more Two (Start view) h (more h es) rs (stored_of es) es tells (is_stored es bound) again refl

-- a crash while a record is appended
pub append_leaves : {D : Type 0} (plan : Plan) (k : Kept) (journal : Journal D) (w : World) (es : List Entry) (gate : ℕ) (text : List ℕ) (c : Image) → Stands plan k journal w → entries_in Two k.history (entries_text es) ≡ Ok es
    → length (entries_text es) ≤ 2 ^ 28 → gate ≡ 25 + journal.base + journal.appended → text ≡ record_text (entries_text es)
    → Changed journal.live (IsAppending gate (content journal.live w.now) text) w.now c → IsOneOf plan w.now k (extended es k) c
append_leaves plan k journal w es gate text c s again bound gate_is text_is change =
    let p = before plan k journal w s in
    let file = before_file plan k journal w s in
    let size : length p ≡ gate = before_length plan k journal w s ∙ sym gate_is in
    let same = λ (octet : ℕ) (rest : List ℕ) (is : content journal.live c ≡ p ++ (octet ∷ rest)) (closed : octet ≢ 1).
    live_keeps plan k journal w s c s.rs octet rest k.history k.appended
    (record { others = change.rest; parts = is ∙ before_parts plan k journal w s (octet ∷ rest) }) closed s.tells s.records in
    record {
      keeps = elim change.holds [
        | inl front ↦ inl (same 0 (drop (gate + 1) (content journal.live c))
            (sym (take-append-drop (gate + 1) (content journal.live c)) ∙ ap (λ (l : List ℕ). l ++ drop (gate + 1) (content journal.live c)) (front ∙ file)
            ∙ append_assoc p (0 ∷ []) (drop (gate + 1) (content journal.live c))) (λ no. absurd (cc)))
        | inr swayed ↦ (
            let is : content journal.live c ≡ p ++ (swayed.0 ∷ text) =
            swayed.1 ∙ ap (λ (l : List ℕ). over gate (swayed.0 ∷ []) (l ++ text)) file ∙ swayed_end p text swayed.0 gate size in
            elim (cases_eq (swayed.0) 1) [
              | inl one ↦ inr (live_keeps plan k journal w s c (s.rs ++ stored_of es ∷ []) 0 [] (more k.history es) (k.appended + (5 + length (entries_text es)))
                  (record { others = change.rest; parts = is ∙ ap (λ (g : ℕ). p ++ (g ∷ text)) one ∙ ap (λ (t : List ℕ). p ++ (1 ∷ t)) text_is ∙ appended_parts plan k journal w s es })
                  (λ no. absurd (cc)) (appended_tells s.view k.history s.rs es s.tells again bound)
                  (ap (λ (n : ℕ). n + (5 + length (entries_text es))) s.records ∙ sym (appended_length s.rs es)))
              | inr shut ↦ inl (same swayed.0 text is shut)
            ])
      ];
      out = ap (λ (d : Image). d.written) change.rest ∙ written_put journal.live (content journal.live c) w.now;
    }

pub append_stands : {D : Type 0} (plan : Plan) (k : Kept) (journal later : Journal D) (w v : World) (es : List Entry) (gate : ℕ) (text : List ℕ) → Stands plan k journal w → entries_in Two k.history (entries_text es) ≡ Ok es
    → length (entries_text es) ≤ 2 ^ 28 → gate ≡ 25 + journal.base + journal.appended → text ≡ record_text (entries_text es)
    → later.live ≡ journal.live → later.spare ≡ journal.spare → later.generation ≡ journal.generation → later.base ≡ journal.base → later.appended ≡ journal.appended + (5 + length (entries_text es))
    → v.now ≡ put journal.live (over gate (1 ∷ []) (content journal.live w.now ++ text)) w.now → IsClean v → Stands plan (extended es k) later v
append_stands plan k journal later w v es gate text s again bound gate_is text_is live spare generation base appended done clean =
    let p = before plan k journal w s in
    let file = before_file plan k journal w s in
    let size : length p ≡ gate = before_length plan k journal w s ∙ sym gate_is in
    let x = over gate (1 ∷ []) (content journal.live w.now ++ text) in
    let here : content journal.live v.now ≡ x = ap (content journal.live) done ∙ content-put journal.live x w.now in
    let parts : content journal.live v.now ≡ s.front ++ (s.base ++ (records_text (s.rs ++ stored_of es ∷ []) ++ 0 ∷ [])) =
    here ∙ ap (λ (l : List ℕ). over gate (1 ∷ []) (l ++ text)) file ∙ swayed_end p text 1 gate size ∙ ap (λ (t : List ℕ). p ++ (1 ∷ t)) text_is ∙ appended_parts plan k journal w s es in
    let is : IsLive plan k journal w s v.now (s.rs ++ stored_of es ∷ []) 0 [] = record { others = done ∙ ap (λ (y : List ℕ). put journal.live y w.now) (sym here); parts = parts } in
    let front = live_front plan k journal w s v.now (s.rs ++ stored_of es ∷ []) 0 [] is in
    record {
      clean = clean;
      live = same_live journal.live w.now v.now is.others front ∙ s.live ∙ ap (λ (f : FileId). Ok (Some (f, k.generation))) (sym live);
      spare = ap (λ (f : FileId). front_in (content (other f) v.now)) live ∙ ap (λ (d : Image). front_in (content (other journal.live) d)) done ∙ ap front_in (other_kept journal.live x w.now)
          ∙ s.spare ∙ ap (λ (f : Front). Ok f) (sym spare);
      generation = generation ∙ s.generation;
      view = s.view;
      rs = s.rs ++ stored_of es ∷ [];
      front = s.front;
      base = s.base;
      parts = ap (λ (f : FileId). content f v.now) live ∙ parts;
      header = s.header;
      sized = ap (λ (f : FileId). base_length (content f v.now)) live ∙ live_base plan k journal w s v.now (s.rs ++ stored_of es ∷ []) 0 [] is;
      version = ap (λ (f : FileId). version_of (content f v.now)) live ∙ live_version plan k journal w s v.now (s.rs ++ stored_of es ∷ []) 0 [] is;
      spells = s.spells;
      tells = appended_tells s.view k.history s.rs es s.tells again bound;
      whole = s.whole;
      counted = base ∙ s.counted;
      records = ap (λ (n : ℕ). n + (5 + length (entries_text es))) s.records ∙ sym (appended_length s.rs es);
      appended = appended ∙ ap (λ (n : ℕ). n + (5 + length (entries_text es))) s.appended;
    }
  where
    other_kept : (file : FileId) (x : List ℕ) (c : Image) → content (other file) (put file x c) ≡ content (other file) c
    other_kept Zero x c = refl
    other_kept One x c = refl

-- the disk that a call handed back keeps the old state or the new one, and what was written out stays
pub handed_back : {D : Type 0} (plan : Plan) (k new : Kept) (journal : Journal D) (w v : World) → IsSound w → IsSound v → Stands plan k journal w
    → Leaves w v (IsOneOf plan w.now k new) → IsOneOf plan w.now k new v.now
handed_back plan k new journal w v sound sound_too s run = elim (now_has w v (IsOneOf plan w.now k new) sound sound_too run) [
  | inl may ↦ (let same = s.clean v.now may in
      record { keeps = inl (subst (λ (i : Image). Keeps plan i k) (sym same) (stands_keeps plan k journal w s)); out = ap (λ (i : Image). i.written) same })
  | inr is ↦ is
]

-- A run of calls: each image since its start keeps one of the states that it went through. P is what the images of the calls so far have.
pub run_more : {D : Type 0} (plan : Plan) (k new : Kept) (journal : Journal D) (w u v : World) (P : Image → Type 0) → Leaves w u P → Leaves u v (IsOneOf plan u.now k new)
    → ((c : Image) → IsOneOf plan u.now k new c → P c) → Leaves w v P
run_more plan k new journal w u v P so_far step gives = joins w u v P so_far (weaker u v _ P step gives)
