-- Files of good fields.
use Rattle.std.proofs.Common.{◌≡◌, ℕ, ◌+◌, ◌≤◌, ◌<◌, ◌^◌, true, List, [], ◌∷◌, ◌++◌, length, take, drop, Ok, refl, sym, ◌∙◌, ap, arith, append_assoc}
use Rattle.std.specs.Int.{w32, w64}
use Rattle.std.proofs.lemmas.Bool.Decides.{nat_tests}
use Rattle.std.proofs.lemmas.List.{take_at, drop_at, length-append}
use Rattle.dur_base.specs.Fields.{number, octets}
use Rattle.dur_base.proofs.FieldNumbers.{length_32, length_64, again_32, again_64}
use Rattle.dur_view.specs.declared.data.View.{View}
use Rattle.dur_view.specs.History.{Start}
use Rattle.dur_record.specs.declared.version.Version.TheVariants.{Two}
use Rattle.dur_record.specs.declared.version.Version.{Version}
use Rattle.dur_journal.specs.Texts.{version_in, version_of, view_in}
use Rattle.dur_journal.specs.declared.front.Front.TheVariants.{Open}
use Rattle.dur_journal.specs.File.{generation_in, base_length, header_in, front_in, FileText}
use Rattle.dur_journal.specs.Steps.{gated, file_text}
use Rattle.dur_journal.proofs.Fronts.{open_front}

pub header_from : (x : List ℕ) → 25 ≤ length x → version_in x ≡ 2 → base_length x ≤ 2 ^ 30 → header_in x ≡ Ok (Open (generation_in x))
unfolding header_in
header_from x long version bound = grind (arith, nat_tests, version, long, bound)

version_text : (g : ℕ) (base : List ℕ) → version_in (gated 1 (file_text g base)) ≡ 2
unfolding version_in file_text
version_text g base = ap (number true w32) (take_at (octets true w32 2) _ 4 (length_32 true 2)) ∙ again_32 true 2 (omega arith)

-- the texts of a new file are of version 2
pub version_new : (g : ℕ) (base : List ℕ) → version_of (gated 1 (file_text g base)) ≡ Two
unfolding version_of
version_new g base = rw (version_text g base) refl

pub generation_text : (g : ℕ) (base : List ℕ) → g < 2 ^ 32 → generation_in (gated 1 (file_text g base)) ≡ g
unfolding generation_in file_text
generation_text g base small =
    ap (λ (l : List ℕ). number true w32 (take 4 l)) (drop_at (octets true w32 2) _ 4 (length_32 true 2))
    ∙ ap (number true w32) (take_at (octets true w32 g) _ 4 (length_32 true g)) ∙ again_32 true g small

eight_on : (a b rest : List ℕ) → length a ≡ 4 → length b ≡ 4 → drop 8 (a ++ (b ++ rest)) ≡ rest
eight_on a b rest la lb = ap (drop 8) (sym (append_assoc a b rest)) ∙ drop_at (a ++ b) rest 8 (length-append a b ∙ (omega (arith, la, lb)))

pub base_text : (g : ℕ) (base : List ℕ) → length base ≤ 2 ^ 30 → base_length (gated 1 (file_text g base)) ≡ length base
unfolding base_length file_text
base_text g base small =
    ap (λ (l : List ℕ). number true w64 (take 8 l)) (eight_on (octets true w32 2) (octets true w32 g) _ (length_32 true 2) (length_32 true g))
    ∙ ap (number true w64) (take_at (octets true w64 (length base)) _ 8 (length_64 true (length base))) ∙ again_64 true (length base) (omega (arith, small))

-- the octets in front of a base
pub record InFront (g : ℕ) (base : List ℕ) : Type 0 where
  pub front : List ℕ
  pub header : length front ≡ 25
  pub parts : gated 1 (file_text g base) ≡ front ++ (base ++ 0 ∷ [])

gated_length : (gate : ℕ) (text : List ℕ) → length (gated gate text) ≡ 9 + length text
gated_length gate text = length-append (gated gate []) text

pub in_front : (g : ℕ) (base : List ℕ) → InFront g base
unfolding file_text
in_front g base =
    let a = octets true w32 2 in
    let b = octets true w32 g in
    let c = octets true w64 (length base) in
    let la : length a ≡ 4 = length_32 true 2 in
    let lb : length b ≡ 4 = length_32 true g in
    let lc : length c ≡ 8 = length_64 true (length base) in
    let rest = base ++ 0 ∷ [] in
    let header : length (gated 1 (a ++ (b ++ c))) ≡ 25 = gated_length 1 (a ++ (b ++ c)) ∙ omega (arith, la, lb, lc, length-append a (b ++ c), length-append b c) in
    record {
      front = gated 1 (a ++ (b ++ c));
      header = header;
      parts = ap (gated 1) (sym (append_assoc a (b ++ c) rest ∙ ap (λ (l : List ℕ). a ++ l) (append_assoc b c rest)));
    }

pub front_text : (g : ℕ) (base : List ℕ) → g < 2 ^ 32 → length base ≤ 2 ^ 30 → front_in (gated 1 (file_text g base)) ≡ Ok (Open g)
front_text g base small bound =
    let x = gated 1 (file_text g base) in
    let f = in_front g base in
    let long : 25 ≤ length x = omega (arith, ap length f.parts, length-append f.front (base ++ 0 ∷ []), f.header) in
    open_front x (omega (arith, long)) refl refl
    ∙ header_from x long (version_text g base) (omega (arith, base_text g base bound, bound))
    ∙ ap (λ (n : ℕ). Ok (Open n)) (generation_text g base small)

-- a new file has its base and no record
pub new_text : (g : ℕ) (base : List ℕ) (view : View) → g < 2 ^ 32 → length base ≤ 2 ^ 30 → view_in Two base ≡ Ok view
    → FileText (gated 1 (file_text g base)) g view [] (Start view)
new_text g base view small bound spells =
    let f = in_front g base in
    record {
      front = f.front;
      base = base;
      gate = 0;
      rest = [];
      parts = f.parts;
      header = f.header;
      opens = front_text g base small bound;
      sized = base_text g base bound;
      spells = ap (λ (version : Version). view_in version base) (version_new g base) ∙ spells;
      tells = refl;
      closed = λ no. absurd (cc);
    }
