-- A file's text from its parts.
use Rattle.std.proofs.Common.{◌≡◌, inl, inr, ℕ, ◌+◌, ◌^◌, ◌≤◌, List, [], ◌∷◌, ◌++◌, length, take, drop, Some, Ok, refl, sym, ◌∙◌, ap, subst, arith}
use Rattle.std.proofs.lemmas.List.{length-append, take-append-drop, length-take-le}
use Rattle.dur_view.specs.declared.data.View.{View}
use Rattle.dur_view.specs.History.{History}
use Rattle.dur_view.specs.History.{Start, start, ◌▸◌, ◌+>◌, AllFollow}
use Rattle.dur_base.specs.declared.entry.Entry.{Entry}
use Rattle.dur_record.specs.declared.version.Version.{Version}
use Rattle.dur_journal.specs.Histories.{more}
use Rattle.dur_journal.specs.Texts.{version_of, view_in}
use Rattle.dur_journal.specs.declared.front.Front.TheVariants.{Open}
use Rattle.dur_journal.specs.File.{Stored, records_text, Tells, TextBreaks, base_length, front_in, break_of}
use Rattle.dur_journal.specs.Reading.{Ends, BreaksBehind, IsRead, IsSoundRead}
use Rattle.dur_journal.proofs.Fronts.{open_long}
use Rattle.dur_journal.proofs.Sizes.{few_writers}
use Rattle.dur_journal.proofs.TextReadings.{base_told, view_back}

start_more : (h : History) (es : List Entry) → start (more h es) ≡ start h
start_more h [] = refl
start_more h (e ∷ es) = start_more (h ▸ e) es

pub tells_start : (version : Version) (h after : History) (rs : List Stored) → Tells version h rs after → start after ≡ start h
tells_start version h after [] tells = ap start tells
tells_start version h after (r ∷ rs) tells = let inner = tells.1 in tells_start version (more h inner.0) after rs inner.2 ∙ start_more h inner.0

-- a base at the front of these octets, and what follows it
cut_in : (x rest : List ℕ) (size : ℕ) → 25 ≤ length x → size ≤ length (drop 25 x) → x ≡ take 25 x ++ (take size (drop 25 x) ++ drop size (drop 25 x))
cut_in x rest size long within = sym (take-append-drop 25 x) ∙ ap (λ (l : List ℕ). take 25 x ++ l) (sym (take-append-drop size (drop 25 x)))

pub read_is : (x : List ℕ) (g : ℕ) (view : View) (es : List Entry) (size : ℕ) (count n : ℕ) → front_in x ≡ Ok (Open g) → 25 ≤ length x → size ≡ base_length x
    → size ≤ length (drop 25 x) → view_in (version_of x) (take size (drop 25 x)) ≡ Ok view → Ends (version_of x) (Start view) (drop size (drop 25 x)) (Start view +> es) count n
    → IsRead x g (record { version = version_of x; start = view; entries = es; records = count; base = size; appended = n })
read_is x g view es size count n front long counted within spells ends =
    let whole : length (take size (drop 25 x)) ≡ size = length-take-le size (drop 25 x) within in
    record {
      rs = ends.goes.rs;
      text = record {
        front = take 25 x;
        base = take size (drop 25 x);
        gate = ends.gate;
        rest = ends.rest;
        parts = cut_in x [] size long within ∙ ap (λ (l : List ℕ). take 25 x ++ (take size (drop 25 x) ++ l)) ends.goes.parts;
        header = length-take-le 25 x long;
        opens = front;
        sized = sym counted ∙ sym whole;
        spells = spells;
        tells = ends.goes.tells;
        closed = ends.closed;
      };
      records = ends.goes.counts;
      base = counted;
      appended = omega (arith, ends.ends, ap length ends.goes.parts, length-append (records_text ends.goes.rs) (ends.gate ∷ ends.rest));
    }

pub base_breaks : (x : List ℕ) (size inside : ℕ) → size ≡ base_length x → break_of (view_in (version_of x)) size (drop 25 x) ≡ Some inside → TextBreaks x (25 + inside)
base_breaks x size inside counted breaks = inl (record { inside = inside; breaks = ap (λ (n : ℕ). break_of (view_in (version_of x)) n (drop 25 x)) (sym counted) ∙ breaks; place = refl })

pub record_breaks : (x : List ℕ) (view : View) (size inside : ℕ) → 25 ≤ length x → size ≡ base_length x → size ≤ length (drop 25 x)
    → view_in (version_of x) (take size (drop 25 x)) ≡ Ok view → BreaksBehind (version_of x) (Start view) (drop size (drop 25 x)) inside → TextBreaks x (25 + size + inside)
record_breaks x view size inside long counted within spells behind =
    let whole : length (take size (drop 25 x)) ≡ size = length-take-le size (drop 25 x) within in
    inr (record {
      front = take 25 x;
      base = take size (drop 25 x);
      view = view;
      rs = behind.goes.rs;
      h = behind.after;
      rest = behind.rest;
      inside = behind.inside;
      parts = cut_in x [] size long within ∙ ap (λ (l : List ℕ). take 25 x ++ (take size (drop 25 x) ++ l)) behind.goes.parts;
      header = length-take-le 25 x long;
      sized = sym counted ∙ sym whole;
      spells = spells;
      tells = behind.goes.tells;
      breaks = behind.breaks;
      place = omega (arith, whole, behind.place, ap length behind.goes.parts, length-append (records_text behind.goes.rs) behind.rest);
    })

-- ---- by what was read

pub text_base : (x rest : List ℕ) (version : Version) (size inside : ℕ) → rest ≡ drop 25 x → version ≡ version_of x → size ≡ base_length x → break_of (view_in version) size rest ≡ Some inside → TextBreaks x (25 + inside)
text_base x rest version size inside rest_is version_is size_is breaks =
    base_breaks x size inside size_is
    (ap (λ (v : Version). break_of (view_in v) size (drop 25 x)) (sym version_is) ∙ ap (break_of (view_in version) size) (sym rest_is) ∙ breaks)

pub text_ok : (x rest behind : List ℕ) (version : Version) (view : View) (es : List Entry) (size count n g : ℕ) → front_in x ≡ Ok (Open g) → rest ≡ drop 25 x → version ≡ version_of x → size ≡ base_length x
    → size ≤ length rest → view_in version (take size rest) ≡ Ok view → behind ≡ drop size rest → Ends version (Start view) behind (Start view +> es) count n
    → IsRead x g (record { version = version; start = view; entries = es; records = count; base = size; appended = n })
text_ok x rest behind version view es size count n g front rest_is version_is size_is within spells behind_is ends =
    subst (λ (v : Version). IsRead x g (record { version = v; start = view; entries = es; records = count; base = size; appended = n })) (sym version_is)
    (read_is x g view es size count n front (open_long x g front) size_is
    (subst (λ (l : List ℕ). size ≤ length l) rest_is within)
    (ap (λ (v : Version). view_in v (take size (drop 25 x))) (sym version_is) ∙ ap (λ (l : List ℕ). view_in version (take size l)) (sym rest_is) ∙ spells)
    (subst (λ (v : Version). Ends v (Start view) (drop size (drop 25 x)) (Start view +> es) count n) version_is
    (subst (λ (l : List ℕ). Ends version (Start view) l (Start view +> es) count n) (behind_is ∙ ap (drop size) rest_is) ends)))

pub text_records : (x rest behind : List ℕ) (version : Version) (view : View) (size inside g : ℕ) → front_in x ≡ Ok (Open g) → rest ≡ drop 25 x → version ≡ version_of x → size ≡ base_length x
    → size ≤ length rest → view_in version (take size rest) ≡ Ok view → behind ≡ drop size rest → BreaksBehind version (Start view) behind inside → TextBreaks x (25 + size + inside)
text_records x rest behind version view size inside g front rest_is version_is size_is within spells behind_is breaks =
    record_breaks x view size inside (open_long x g front) size_is
    (subst (λ (l : List ℕ). size ≤ length l) rest_is within)
    (ap (λ (v : Version). view_in v (take size (drop 25 x))) (sym version_is) ∙ ap (λ (l : List ℕ). view_in version (take size l)) (sym rest_is) ∙ spells)
    (subst (λ (v : Version). BreaksBehind v (Start view) (drop size (drop 25 x)) inside) version_is
    (subst (λ (l : List ℕ). BreaksBehind version (Start view) l inside) (behind_is ∙ ap (drop size) rest_is) breaks))

-- what was read of a base that is not too long may begin a history
pub text_sound : (version : Version) (rest : List ℕ) (view : View) (size count base appended : ℕ) (es : List Entry) → size ≤ length rest → size ≤ 2 ^ 30 → view_in version (take size rest) ≡ Ok view → AllFollow (Start view) es
    → IsSoundRead (record { version = version; start = view; entries = es; records = count; base = base; appended = appended })
text_sound version rest view size count base appended es within short spells follow = record {
  base = base_told version (take size rest) view spells;
  few = few_writers version (take size rest) view (view_back version (take size rest) view spells) (omega (arith, short, length-take-le size rest within));
  follow = follow;
}
