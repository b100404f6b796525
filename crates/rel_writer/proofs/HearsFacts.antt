-- What the facts of a datagram come to, one after the other, and in one way.
use Rattle.std.proofs.Common.{suc, zero, ◌≡◌, ℕ, ◌+◌, Bool, true, false, refl, ap, sym, subst, ◌∙◌, arith, length, List, [], ◌∷◌}
use Rattle.std.specs.Prelude.{◌||◌}
use Rattle.dur_base.specs.declared.fact.Fact.{Fact}
use Rattle.rel_reader.specs.declared.known.Known.{Known}
use Rattle.rel_reader.specs.declared.known.Known.TheVariants.{Unknown, Irrelevant, With}
use Rattle.rel_reader.specs.Knowledge.{is_unknown}
use Rattle.rel_reader.specs.Stories.{next}
use Rattle.rel_reader.specs.KnownNumbers.{known}
use Rattle.rel_writer.specs.declared.late.LateReader.{LateReader}
use Rattle.rel_writer.specs.LateReaders.{Late, drain, handle, IsSettled, told, asks, LateHears}
use Rattle.rel_writer.specs.Standing.{Stands, HearsAll}
use Rattle.rel_writer.specs.Handling.{HearsOne}
use Rattle.rel_writer.specs.Room.{HasRoom, brings}
use Rattle.std.proofs.lemmas.List.Sums.{sum_by-cons}
use Rattle.std.specs.List.{sum_by}
use Rattle.rel_writer.proofs.Draining.{drain_join}

-- ---- the facts of a datagram

or_swap : (a b c : Bool) → (a || (b || c)) ≡ ((b || a) || c)
or_swap true true c = refl
or_swap true false c = refl
or_swap false true c = refl
or_swap false false c = refl

or_off : (a : Bool) → (a || false) ≡ a
or_off true = refl
or_off false = refl

-- What the rest of the facts makes of a late reader as it is, all of them make of it as it was.
pub record Hearing (q : LateReader) (m : Late) (fs items : List Fact) (asked : Bool) : Type 0 where
  pub now : Late
  pub stands : Stands q now
  pub room : HasRoom (sum_by brings items) q now
  pub rest : (after : Late) (more : Bool) → LateHears now items more after
      → LateHears m fs (asked || more) after

pub hear_none : (q : LateReader) (m : Late) (fs items : List Fact) → items ≡ fs → Stands q m
    → HasRoom (sum_by brings fs) q m → Hearing q m fs items false
hear_none q m fs items e st room = record {
  now = m;
  stands = st;
  room = subst (λ (t : List Fact). HasRoom (sum_by brings t) q m) (sym e) room;
  rest = λ after more h. subst (λ (t : List Fact). LateHears m t more after) e h;
}

-- the room for the rest of the facts
pub room_next : (q : LateReader) (m : Late) (fs items rest : List Fact) (f : Fact) (asked : Bool)
    → items ≡ f ∷ rest → (h : Hearing q m fs items asked)
    → HasRoom (brings f + sum_by brings rest) q h.now
room_next q m fs items rest f asked e h =
    subst (λ n. HasRoom n q h.now) (ap (sum_by brings) e ∙ sum_by-cons brings f rest) h.room

pub hear_more : (r q : LateReader) (m : Late) (fs items rest : List Fact) (f : Fact)
    (now asked one : Bool) → items ≡ f ∷ rest → now ≡ (one || asked)
    → (h : Hearing r m fs items asked) → HearsOne (sum_by brings rest) q one f h.now
    → Hearing q m fs rest now
hear_more r q m fs items rest f now asked one e is h x =
    let k = drain x.settles.times (told h.now f) in
    record {
      now = k;
      stands = x.settles.stands;
      room = x.settles.room;
      rest = λ after more g.
          let here : LateHears h.now (f ∷ rest) (asks k f || more) after =
          (x.settles.times, more, x.settles.settled, g, refl) in
          let there : LateHears h.now items (one || more) after =
          subst (λ (b : Bool). LateHears h.now items (b || more) after) (sym x.says)
          (subst (λ (t : List Fact). LateHears h.now t (asks k f || more) after) (sym e) here) in
          subst (λ (b : Bool). LateHears m fs (b || more) after) (sym is)
          (subst (λ (b : Bool). LateHears m fs b after) (or_swap asked one more)
          (h.rest after (one || more) there));
    }

pub heard_all : (q : LateReader) (l : Late) (fs items : List Fact) (asked : Bool) → items ≡ []
    → Hearing q l fs items asked → HearsAll q asked fs l
heard_all q l fs items asked e h =
    let none : LateHears h.now items false h.now =
    subst (λ (t : List Fact). LateHears h.now t false h.now) (sym e) (refl, refl) in
    record {
      after = h.now;
      hears = subst (λ (b : Bool). LateHears l fs b h.now) (or_off asked) (h.rest h.now false none);
      stands = h.stands;
    }

pub none_of_length : (fs : List Fact) → length fs ≡ 0 → fs ≡ []
none_of_length [] e = refl
none_of_length (f ∷ fs) e = absurd (omega (arith, e))

-- ---- it hears in one way

unknown_is : (x : Known) → is_unknown x ≡ true → x ≡ Unknown
unknown_is Unknown h = refl
unknown_is Irrelevant h = cc
unknown_is (With s) h = cc

pub rests : (times : ℕ) (l : Late) → IsSettled l → drain times l ≡ l
rests zero l h = refl
rests (suc times) l h =
    ap (λ x. drain times (handle l x)) (unknown_is (known l.story (next l.story)) h)
    ∙ rests times l h

one_end : (a b : ℕ) (l : Late) → IsSettled (drain a l) → IsSettled (drain b l)
    → drain a l ≡ drain b l
one_end a b l s t =
    let swap : a + b ≡ b + a = omega arith in
    sym (rests b (drain a l) s) ∙ drain_join a b l ∙ ap (λ n. drain n l) swap
    ∙ sym (drain_join b a l) ∙ rests a (drain b l) t

pub one_way : (fs : List Fact) (l : Late) (a b : Bool) (m n : Late) → LateHears l fs a m
    → LateHears l fs b n → (m ≡ n) × (a ≡ b)
one_way [] l a b m n x y = (x.0 ∙ sym y.0, x.1 ∙ sym y.1)
one_way (f ∷ fs) l a b m n x y =
    let same : drain x.0 (told l f) ≡ drain y.0 (told l f) = one_end x.0 y.0 (told l f) x.2 y.2 in
    let rest = one_way fs (drain y.0 (told l f)) x.1 y.1 m n
    (subst (λ (k : Late). LateHears k fs x.1 m) same x.3) y.3 in (
      rest.0,
      x.4 ∙ ap (λ (k : Late). asks k f || x.1) same
          ∙ ap (λ c. asks (drain y.0 (told l f)) f || c) rest.1 ∙ sym y.4,
    )
