-- One pass over the changes gives each the mark that it is sent with.
use Rattle.std.proofs.Common.{◌≡◌, ℕ, ◌+◌, ◌<◌, ◌≤◌, Bool, true, false, cond, List, [], ◌∷◌, ◌++◌, drop, length, get_or, refl, ap, sym, ◌∙◌, arith, append_assoc, add-one, drop-cons}
use Rattle.std.specs.Prelude.{Option, Some, None, slice_get, slice_set, ◌&&◌}
use Rattle.std.specs.Str.{bytes_eq}
use Rattle.std.proofs.Math.ListN.{drop_of_length-le}
use Rattle.std.proofs.Math.Seq.{set-append_seam}
use Rattle.std.proofs.lemmas.Option.{get_or_from_slice_get}
use Rattle.dur_base.specs.declared.sample.SetMark.{SetMark}
use Rattle.dur_base.specs.declared.sample.SetMark.TheVariants.{NoSet, End, Of}
use Rattle.dur_view.specs.declared.change.Change.{Change}
use Rattle.rel_writer.specs.declared.members.Member.{Member}
use Rattle.rel_writer.specs.Replays.{is_one_set, are_of_one_set, first_member, sent_mark, marked, change_after, changes_after}
use Rattle.rel_writer.specs.Members.{member_by, last_member, first_after, mark_of}

-- ---- what a change is a member of

off : (a : Bool) → (a && false) ≡ false
off true = refl
off false = refl

-- behind a change of the mark m
first_behind : (m : SetMark) (b w : List ℕ) (p f n : ℕ)
    → first_after (member_by m b p) w f n ≡ cond (bytes_eq b w && is_one_set m (Of f)) p n
first_behind (Of g) b w p f n = refl
first_behind NoSet b w p f n = sym (ap (λ x. cond x p n) (off (bytes_eq b w)))
first_behind End b w p f n = sym (ap (λ x. cond x p n) (off (bytes_eq b w)))

first_is : (before : List Change) (c : Change) (f n : ℕ)
    → c.sample.set ≡ Of f → n ≡ length before + 1
    → first_after (last_member before) c.writer f n ≡ first_member before c
first_is [] c f n e len = len
first_is (b ∷ before) c f n e len =
    let p = first_member before b in
    first_behind b.sample.set b.writer c.writer p f n
    ∙ ap (λ m. cond (bytes_eq b.writer c.writer && is_one_set b.sample.set m) p n) (sym e)
    ∙ ap (λ k. cond (are_of_one_set b c) p k) len

abbrev as_member : List ℕ → ℕ → ℕ → Member
as_member writer set first = record { writer = writer; set = set; first = first }

pub member_is : (before : List Change) (c : Change) (last : Option Member) (f n first : ℕ)
    → c.sample.set ≡ Of f → last ≡ last_member before → n ≡ length before + 1
    → first ≡ first_after last c.writer f n
    → Some (as_member c.writer f first) ≡ last_member (c ∷ before)
member_is before c last f n first e l len is =
    let same : first ≡ first_member before c =
    is ∙ ap (λ o. first_after o c.writer f n) l ∙ first_is before c f n e len in
    ap (λ (k : ℕ). Some (as_member c.writer f k)) same
    ∙ ap (λ m. member_by m c.writer (first_member before c)) (sym e)

pub no_member : (before : List Change) (c : Change) (m : SetMark)
    → c.sample.set ≡ m → ((w : List ℕ) (p : ℕ) → member_by m w p ≡ None)
    → None ≡ last_member (c ∷ before)
no_member before c m e none =
    sym (ap (λ x. member_by x c.writer (first_member before c)) e
    ∙ none c.writer (first_member before c))

mark_by : (m : SetMark) (w : List ℕ) (p : ℕ) → mark_of (member_by m w p) ≡ sent_mark m p
mark_by (Of f) w p = refl
mark_by NoSet w p = refl
mark_by End w p = refl

-- ---- the pass

-- the changes before a place are marked, and those from there on are as they came
pub record Marking (cs now : List Change) (at : ℕ) (last : Option Member) : Type 0 where
  pub before : List Change
  pub front : List Change
  pub counted : at ≡ length before
  pub as_many : length front ≡ at
  pub whole : changes_after [] cs ≡ front ++ changes_after before (drop at cs)
  pub now_is : now ≡ front ++ drop at cs
  pub last_is : last ≡ last_member before

pub get_seam : (xs : List Change) (x : Change) (ys : List Change)
    → slice_get (xs ++ x ∷ ys) (length xs) ≡ Some x
get_seam [] x ys = refl
get_seam (y ∷ xs) x ys = get_seam xs x ys

element : (xs : List Change) (at : ℕ) → at < length xs
    → (x : Change) × (drop at xs ≡ x ∷ drop (at + 1) xs)
element [] at inside = absurd (omega (arith, inside))
element (y ∷ ys) at inside =
    let x = get_or (y ∷ ys) at y in
    (x, drop-cons (y ∷ ys) at y inside ∙ ap (λ n. x ∷ drop n (y ∷ ys)) (sym (add-one at)))

length_more : (xs : List Change) (x : Change) → length (xs ++ x ∷ []) ≡ length xs + 1
length_more [] x = refl
length_more (y ∷ xs) x = let rest = length_more xs x in omega (arith, rest)

pub begins : (cs : List Change) → Marking cs cs 0 None
begins cs = record {
  before = [];
  front = [];
  counted = refl;
  as_many = refl;
  whole = refl;
  now_is = refl;
  last_is = refl;
}

pub marks_one : (cs now new : List Change) (at : ℕ) (last next : Option Member)
    → at < length cs → Marking cs now at last
    → ((before : List Change) (c : Change) → last ≡ last_member before → at ≡ length before
    → slice_get now at ≡ Some c → next ≡ last_member (c ∷ before))
    → ((c : Change) → slice_get now at ≡ Some c
    → new ≡ slice_set now at (marked c (mark_of next)))
    → Marking cs new (at + 1) next
marks_one cs now new at last next inside m member marks =
    let e = element cs at inside in
    let x = e.0 in
    let rest = drop (at + 1) cs in
    let is : now ≡ m.front ++ x ∷ rest = m.now_is ∙ ap (λ t. m.front ++ t) e.1 in
    let here : slice_get now at ≡ Some x =
    ap (λ t. slice_get t at) is ∙ ap (slice_get (m.front ++ x ∷ rest)) (sym m.as_many)
    ∙ get_seam m.front x rest in
    let next_is : next ≡ last_member (x ∷ m.before) = member m.before x m.last_is m.counted here in
    let y = change_after m.before x in
    let same : marked x (mark_of next) ≡ y =
    ap (marked x) (ap mark_of next_is ∙ mark_by x.sample.set x.writer (first_member m.before x)) in
    record {
      before = x ∷ m.before;
      front = m.front ++ y ∷ [];
      counted = omega (arith, m.counted);
      as_many = omega (arith, length_more m.front y, m.as_many);
      whole =
          m.whole ∙ ap (λ t. m.front ++ changes_after m.before t) e.1
          ∙ sym (append_assoc m.front (y ∷ []) (changes_after (x ∷ m.before) rest));
      now_is =
          marks x here ∙ ap (λ t. slice_set t at (marked x (mark_of next))) is
          ∙ ap (λ n. slice_set (m.front ++ x ∷ rest) n (marked x (mark_of next))) (sym m.as_many)
          ∙ set-append_seam m.front x rest (marked x (mark_of next))
          ∙ ap (λ t. m.front ++ t ∷ rest) same
          ∙ sym (append_assoc m.front (y ∷ []) rest);
      last_is = next_is;
    }

pub all_marked : (cs now : List Change) (at : ℕ) (last : Option Member)
    → length cs ≤ at → Marking cs now at last → now ≡ changes_after [] cs
all_marked cs now at last long m =
    let none : drop at cs ≡ [] = drop_of_length-le cs long in
    m.now_is ∙ ap (λ t. m.front ++ t) none
    ∙ sym (m.whole ∙ ap (λ t. m.front ++ changes_after m.before t) none)

-- the element that was written is the one that was read
pub one_marked : (changes : List Change) (at : ℕ) (c b : Change) (mark : SetMark) (new : Change)
    → slice_get changes at ≡ Some c → new ≡ marked (get_or changes at b) mark
    → slice_set changes at new ≡ slice_set changes at (marked c mark)
one_marked changes at c b mark new get is =
    ap (slice_set changes at)
    (is ∙ ap (λ (y : Change). marked y mark) (get_or_from_slice_get changes at c b get))
