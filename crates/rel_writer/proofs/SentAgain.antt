-- What is sent is good, and is read again as it is.
use Rattle.std.proofs.Common.{suc, zero, ◌≡◌, ℕ, ◌+◌, ◌-◌, ◌<◌, ◌≤◌, ◌^◌, Bool, true, false, cond, List, [], ◌∷◌, ◌++◌, map, take, drop, get_or, length, refl, ap, sym, subst, ◌∙◌, arith}
use Rattle.std.specs.Prelude.{Option, Some, None, IsSome, is_some}
use Rattle.std.specs.List.{AllByRecursion}
use Rattle.std.proofs.lemmas.List.{length-map, take_at, take_more}
use Rattle.dur_base.specs.Goodness.{IsMark, IsAct, zero_key}
use Rattle.dur_base.specs.declared.kinds.Shape.TheVariants as shapes
use Rattle.dur_base.specs.declared.sample.Act.{Act}
use Rattle.dur_base.specs.declared.sample.Act.TheVariants.{Write, Dispose, Unregister, DisposeUnregister, Marker}
use Rattle.dur_base.specs.declared.sample.Form.{Form}
use Rattle.dur_base.specs.declared.sample.SetMark.{SetMark}
use Rattle.dur_base.specs.declared.sample.SetMark.TheVariants.{NoSet, End, Of}
use Rattle.dur_base.specs.declared.sample.Sample.{Sample}
use Rattle.dur_view.specs.declared.change.Change.{Change}
use Rattle.rtps_message.specs.Samples.{reads}
use Rattle.rtps_message.specs.Written.{IsChange, sent_set, sample_raw, marker_raw}
use Rattle.rtps_message.specs.Sent.{is_keyed, sent_act, marker}
use Rattle.rtps_message.specs.Sent as wire
use Rattle.rtps_message.proofs.Again.{changes_again}
use Rattle.rel_writer.specs.Replays.{are_of_one_set, first_member, sent_mark, change_after, changes_after, samples, sent, AreSendable, IsSendable, IsSent}
use Rattle.rel_writer.specs.Sets.{marks}
use Rattle.rel_writer.specs.LateReaders.{shape_of, is_of_replay, usable, read_of}
use Rattle.rel_writer.proofs.Fronts.{AreChanges}

-- ---- the marks

first_bound : (before : List Change) (c : Change)
    → (0 < first_member before c) × (first_member before c ≤ length before + 1)
first_bound [] c = (omega arith, omega arith)
first_bound (b ∷ before) c = by (are_of_one_set b c) (first_bound before b) where
  by : (one : Bool) → (0 < first_member before b) × (first_member before b ≤ length before + 1)
      → (0 < cond one (first_member before b) (length (b ∷ before) + 1))
      × (cond one (first_member before b) (length (b ∷ before) + 1) ≤ length (b ∷ before) + 1)
  by true r = (r.0, omega (arith, r.1))
  by false r = (omega arith, omega arith)

mark_good : (m : SetMark) (n : ℕ) → 0 < n → n < 2 ^ 63 - 1 → IsMark (sent_mark m n)
mark_good NoSet n some few = tt
mark_good End n some few = tt
mark_good (Of f) n some few = omega (arith, some, few)

mark_again : (m : SetMark) (n : ℕ) → sent_set (sent_mark m n) ≡ sent_mark m n
mark_again NoSet n = refl
mark_again End n = refl
mark_again (Of f) n = refl

-- ---- the changes

pub length_after : (before cs : List Change) → length (changes_after before cs) ≡ length cs
length_after before [] = refl
length_after before (c ∷ cs) = let rest = length_after (c ∷ before) cs in omega (arith, rest)

pub length_sent : (cs : List Change) → length (sent cs) ≡ length cs
length_sent cs =
    length-map (changes_after [] cs) (λ (c : Change). c.sample) ∙ length_after [] cs

-- what the list of changes becomes
pub all_sent : (cs items old new : List Change) (len : ℕ)
    → items ≡ cs → old ≡ items → len ≡ length items → new ≡ changes_after [] old
    → map (λ (c : Change). c.sample) (take len (new ++ drop (length new) items)) ≡ sent cs
all_sent cs items old new len a b c d =
    let is : new ≡ changes_after [] cs = d ∙ ap (changes_after []) (b ∙ a) in
    let long : length new ≡ len = ap length d ∙ length_after [] old ∙ ap length b ∙ sym c in
    ap samples (take_at new (drop (length new) items) len long ∙ is)

act_good : (a : Act) (form : Form) (key : List ℕ) → IsAct a form key → IsAct (sent_act a) form key
act_good Write form key h = h
act_good Dispose form key h = h
act_good Unregister form key h = h
act_good DisposeUnregister form key h = tt
act_good Marker form key h = h

act_change : (a : Act) → IsChange a → IsChange (sent_act a)
act_change Write h = tt
act_change Dispose h = tt
act_change DisposeUnregister h = tt
act_change Unregister h = h
act_change Marker h = h

act_again : (a : Act) → sent_act (sent_act a) ≡ sent_act a
act_again Write = refl
act_again Dispose = refl
act_again DisposeUnregister = refl
act_again Unregister = refl
act_again Marker = refl

some_of : (o : Option (List ℕ × ℕ)) (p : List ℕ × ℕ) → o ≡ Some p → IsSome o
some_of (Some q) p e = refl
some_of None p e = cc

abbrev build : Sample → Act → SetMark → Sample
build s a m =
    record {
      key = s.key;
      act = a;
      stamp = s.stamp;
      lifespan = s.lifespan;
      set = m;
      original =
          s.original;
      form = s.form;
      payload = s.payload;
    }

as_built : (s : Sample) → sent_act s.act ≡ s.act → sent_set s.set ≡ s.set → wire.sent s ≡ s
as_built s a m = ap (λ x. build s x (sent_set s.set)) a ∙ ap (build s s.act) m

one_sent : (keyed : Bool) (before : List Change) (c : Change)
    → length before + 1 < 2 ^ 63 - 1 → IsSendable keyed c
    → IsSent keyed (change_after before c).sample
one_sent keyed before c few h =
    let n = first_member before c in
    let bound = first_bound before c in
    record {
      good = record {
        lifespan = h.good.lifespan;
        mark = mark_good c.sample.set n bound.0 (omega (arith, bound.1, few));
        original = h.good.original;
        payload = h.good.payload;
        act = act_good c.sample.act c.sample.form c.sample.key h.good.act;
      };
      act = act_change c.sample.act h.act;
      original = some_of c.sample.original (c.original, c.number) h.original;
      again =
          as_built (change_after before c).sample (act_again c.sample.act)
          (mark_again c.sample.set n);
      key = h.key;
    }

each_after : (keyed : Bool) (before cs : List Change)
    → length before + length cs + 1 < 2 ^ 63 - 1 → AllByRecursion (IsSendable keyed) cs
    → AllByRecursion (IsSent keyed) (samples (changes_after before cs))
each_after keyed before [] few each = tt
each_after keyed before (c ∷ cs) few each = (
  one_sent keyed before c (omega (arith, few)) each.0,
  each_after keyed (c ∷ before) cs (omega (arith, few)) each.1,
)

pub each_sent : (keyed : Bool) (cs : List Change) → AreSendable keyed cs
    → AllByRecursion (IsSent keyed) (sent cs)
each_sent keyed cs are = each_after keyed [] cs (omega (arith, are.few)) are.each

change_marks : (a : Act) → IsChange a → marks a ≡ false
change_marks Write h = refl
change_marks Dispose h = refl
change_marks DisposeUnregister h = refl
change_marks Unregister h = refl
change_marks Marker h = absurd h

pub are_changes : (keyed : Bool) (xs : List Sample) → AllByRecursion (IsSent keyed) xs
    → AreChanges xs
are_changes keyed [] each = tt
are_changes keyed (x ∷ xs) each = (change_marks x.act each.0.act, are_changes keyed xs each.1)

-- ---- what the late reader reads

of_replay : (a : Act) (o : Option (List ℕ × ℕ)) → IsChange a → IsSome o
    → is_of_replay a (is_some o) ≡ true
of_replay a None h some = cc
of_replay Write (Some o) h some = refl
of_replay Dispose (Some o) h some = refl
of_replay DisposeUnregister (Some o) h some = refl
of_replay Unregister (Some o) h some = absurd h
of_replay Marker (Some o) h some = absurd h

pub sample_read : (id : List ℕ) (keyed : Bool) (s : Sample) → keyed ≡ is_keyed (shape_of id)
    → IsSent keyed s → read_of id (sample_raw s keyed) ≡ Some s
sample_read id keyed s e h =
    let shape = shape_of id in
    let none : shape ≡ shapes.None → s.key ≡ zero_key = λ n. h.key (e ∙ ap is_keyed n) in
    ap (λ k. usable (reads shape 0 (sample_raw s k))) e
    ∙ ap usable (changes_again shape 0 s h.good h.act none)
    ∙ ap (λ x. usable (Some x)) h.again
    ∙ ap (λ b. cond b (Some s) None) (of_replay s.act s.original h.act h.original)

pub marker_read : (id : List ℕ) → read_of id marker_raw ≡ Some (marker 0)
marker_read id = refl

-- ---- one change more

all_push : (P : Change → Type 0) (xs : List Change) (x : Change) → AllByRecursion P xs → P x
    → AllByRecursion P (xs ++ x ∷ [])
all_push P [] x each one = (one, tt)
all_push P (y ∷ xs) x each one = (each.0, all_push P xs x each.1 one)

pub all_so_far : (P : Change → Type 0) (xs : List Change) (i : ℕ) (x : Change) → i < length xs
    → x ≡ get_or xs i x → AllByRecursion P (take i xs) → P x → AllByRecursion P (take (i + 1) xs)
all_so_far P xs i x inside is each one =
    let more : take (i + 1) xs ≡ take i xs ++ x ∷ [] =
    take_more xs i x inside ∙ ap (λ (y : Change). take i xs ++ y ∷ []) (sym is) in
    subst (λ (t : List Change). AllByRecursion P t) (sym more) (all_push P (take i xs) x each one)

pub one_at : (P : Change → Type 0) (xs : List Change) (i : ℕ) (x : Change) → i < length xs
    → x ≡ get_or xs i x → AllByRecursion P xs → P x
one_at P [] i x inside is each = absurd (omega (arith, inside))
one_at P (y ∷ ys) zero x inside is each = subst P (sym is) each.0
one_at P (y ∷ ys) (suc i) x inside is each = one_at P ys i x (omega (arith, inside)) is each.1
