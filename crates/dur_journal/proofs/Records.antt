-- The records of a file, read one by one.
use Rattle.std.proofs.Common.{◌≡◌, ℕ, ◌+◌, ◌-◌, ◌≤◌, List, [], ◌∷◌, ◌++◌, length, take, drop, Some, Ok, refl, sym, ◌∙◌, ap, subst, arith, append_assoc, option_map}
use Rattle.std.proofs.lemmas.List.{length-append, take-append-drop, length-take-le, length-drop, drop-drop}
use Rattle.dur_base.specs.declared.entry.Entry.{Entry}
use Rattle.dur_view.specs.declared.data.View.{View}
use Rattle.dur_view.specs.History.{History, Start, ◌▸◌, ◌+>◌, AllFollow}
use Rattle.dur_record.specs.declared.past.Past.{Past}
use Rattle.dur_record.specs.Past.{IsPast}
use Rattle.dur_journal.proofs.TextReadings.{follow_told}
use Rattle.dur_record.specs.declared.version.Version.{Version}
use Rattle.dur_journal.specs.Histories.{more}
use Rattle.dur_journal.specs.Texts.{entries_in}
use Rattle.dur_journal.specs.File.{Stored, IsStored, records_text, Tells, gate_break, record_break}
use Rattle.dur_journal.specs.Reading.{IsRecord, Goes, BreaksBehind}

-- the records so far
pub record Progress (version : Version) (h : History) (x : List ℕ) (now : History) (count : ℕ) (rest : List ℕ) : Type 0 where
  pub goes : Goes version h x now count rest
  pub within : length rest ≤ length x
  pub counts : count + length rest ≤ length x

pub begins : (version : Version) (h : History) (x : List ℕ) → Progress version h x h 0 x
begins version h x = record {
  goes = record { rs = []; parts = refl; tells = refl; counts = refl };
  within = omega arith;
  counts = omega arith;
}

-- one more record behind these
pub text_more : (rs : List Stored) (r : Stored) (rest : List ℕ) → records_text rs ++ (1 ∷ (r.size ++ (r.body ++ rest))) ≡ records_text (rs ++ r ∷ []) ++ rest
text_more [] r rest = sym (ap (λ (l : List ℕ). 1 ∷ l) (append_assoc r.size (r.body ++ []) rest ∙ ap (λ (l : List ℕ). r.size ++ l) (append_assoc r.body [] rest)))
text_more (s ∷ rs) r rest =
    let inner = text_more rs r rest in
    ap (λ (l : List ℕ). 1 ∷ l)
    (append_assoc s.size (s.body ++ records_text rs) _ ∙ ap (λ (l : List ℕ). s.size ++ l) (append_assoc s.body (records_text rs) _ ∙ ap (λ (l : List ℕ). s.body ++ l) inner)
    ∙ sym (append_assoc s.size (s.body ++ records_text (rs ++ r ∷ [])) rest ∙ ap (λ (l : List ℕ). s.size ++ l) (append_assoc s.body (records_text (rs ++ r ∷ [])) rest)))

pub tells_more : (version : Version) (h now after : History) (rs : List Stored) (r : Stored) (es : List Entry) → Tells version h rs now → IsStored r → entries_in version now r.body ≡ Ok es → after ≡ more now es → Tells version h (rs ++ r ∷ []) after
tells_more version h now after [] r es tells good spells adds =
    let spells_h : entries_in version h r.body ≡ Ok es = subst (λ (g : History). entries_in version g r.body ≡ Ok es) tells spells in
    (good, (es, spells_h, adds ∙ ap (λ (g : History). more g es) tells))
tells_more version h now after (s ∷ rs) r es tells good spells adds =
    let inner = tells.1 in
    (tells.0, (inner.0, inner.1, tells_more version (more h inner.0) now after rs r es inner.2 good spells adds))

pub length_more : (rs : List Stored) (r : Stored) → length (rs ++ r ∷ []) ≡ length rs + 1
length_more rs r = length-append rs (r ∷ [])

pub goes_more : (version : Version) (h now after : History) (x behind : List ℕ) (count n : ℕ) (es : List Entry) → Goes version h x now count (1 ∷ behind) → IsRecord version now behind n es → after ≡ more now es
    → Goes version h x after (count + 1) (drop (4 + n) behind)
goes_more version h now after x behind count n es goes is adds =
    let size = take 4 behind in
    let body = take n (drop 4 behind) in
    let r : Stored = record { size = size; body = body } in
    let rest = drop (4 + n) behind in
    let whole = is.whole in
    let long : n ≤ length (drop 4 behind) = omega (arith, whole, length-drop 4 behind) in
    let four : length size ≡ 4 = length-take-le 4 behind (omega (arith, whole)) in
    let counted : length body ≡ n = length-take-le n (drop 4 behind) long in
    let split : behind ≡ size ++ (body ++ rest) =
    sym (take-append-drop 4 behind) ∙ ap (λ (l : List ℕ). size ++ l) (sym (take-append-drop n (drop 4 behind)) ∙ ap (λ (l : List ℕ). body ++ l) (drop-drop n 4 behind)) in
    record {
      rs = goes.rs ++ r ∷ [];
      parts = goes.parts ∙ ap (λ (l : List ℕ). records_text goes.rs ++ (1 ∷ l)) split ∙ text_more goes.rs r rest;
      tells = tells_more version h now after goes.rs r es goes.tells (record { whole = four; counts = is.counts ∙ sym counted; bound = omega (arith, counted, is.bound) }) is.spells adds;
      counts = ap (λ (m : ℕ). m + 1) goes.counts ∙ sym (length_more goes.rs r);
    }

pub progress_more : (version : Version) (h now after : History) (x behind : List ℕ) (count n : ℕ) (es : List Entry) → Progress version h x now count (1 ∷ behind) → IsRecord version now behind n es → after ≡ more now es
    → Progress version h x after (count + 1) (drop (4 + n) behind)
progress_more version h now after x behind count n es so_far is adds = record {
  goes = goes_more version h now after x behind count n es so_far.goes is adds;
  within = omega (arith, so_far.within, length-drop (4 + n) behind, length-append (1 ∷ []) behind);
  counts = omega (arith, so_far.counts, length-drop (4 + n) behind, length-append (1 ∷ []) behind);
}

pub breaks_at : (version : Version) (h now : History) (x rest behind : List ℕ) (count inside at : ℕ) → Progress version h x now count rest → rest ≡ 1 ∷ behind → record_break version now behind ≡ Some inside
    → at + length rest ≡ length x + (inside + 1) → BreaksBehind version h x at
breaks_at version h now x rest behind count inside at so_far is breaks place = record {
  after = now;
  count = count;
  rest = rest;
  inside = inside + 1;
  goes = so_far.goes;
  breaks = ap (gate_break version now) is ∙ ap (option_map (λ at. at + 1)) breaks;
  place = place;
}

pub progress_next : (version : Version) (h now after : History) (x rest behind next : List ℕ) (count n : ℕ) (es : List Entry) → Progress version h x now count rest → rest ≡ 1 ∷ behind → IsRecord version now behind n es → after ≡ more now es
    → next ≡ drop (4 + n) behind → Progress version h x after (count + 1) next
progress_next version h now after x rest behind next count n es so_far is record_is adds next_is =
    subst (λ (l : List ℕ). Progress version h x after (count + 1) l) (sym next_is)
    (progress_more version h now after x behind count n es (subst (λ (l : List ℕ). Progress version h x now count l) is so_far) record_is adds)

-- ---- the loop over the records of a base

-- the entries so far, and what is kept of the history with them
pub record SoFar (version : Version) (start : View) (x : List ℕ) (entries : List Entry) (count : ℕ) (rest : List ℕ) (past : Past) : Type 0 where
  pub progress : Progress version (Start start) x (Start start +> entries) count rest
  pub follow : AllFollow (Start start) entries
  pub knows : IsPast past (Some (Start start +> entries))

pub more_append : (h : History) (xs ys : List Entry) → more (h +> xs) ys ≡ h +> (xs ++ ys)
more_append h [] ys = refl
more_append h (x ∷ xs) ys = more_append (h ▸ x) xs ys

follow_append : (h : History) (xs ys : List Entry) → AllFollow h xs → AllFollow (h +> xs) ys → AllFollow h (xs ++ ys)
follow_append h [] ys first later = later
follow_append h (x ∷ xs) ys first later = (first.0, follow_append (h ▸ x) xs ys first.1 later)

pub so_far_more : (version : Version) (start : View) (x rest behind next : List ℕ) (all entries : List Entry) (count n : ℕ) (past after : Past) → SoFar version start x all count rest past → rest ≡ 1 ∷ behind
    → IsRecord version (Start start +> all) behind n entries → IsPast after (Some (more (Start start +> all) entries)) → next ≡ drop (4 + n) behind
    → SoFar version start x (all ++ entries) (count + 1) next after
so_far_more version start x rest behind next all entries count n past after so_far is record_is past_is next_is = record {
  progress = progress_next version (Start start) (Start start +> all) (Start start +> (all ++ entries)) x rest behind next count n entries so_far.progress is record_is
      (sym (more_append (Start start) all entries)) next_is;
  follow = follow_append (Start start) all entries so_far.follow (follow_told version (Start start +> all) _ entries record_is.spells);
  knows = subst (λ (h : History). IsPast after (Some h)) (more_append (Start start) all entries) past_is;
}
