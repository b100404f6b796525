-- The ACKNACK of a late reader.
use Rattle.std.proofs.Common.{◌≡◌, ℕ, ◌+◌, ◌%◌, ◌^◌, Bool, List, take, drop, ap, sym, subst, ◌∙◌}
use Rattle.std.proofs.lemmas.List.{take_at}
use Rattle.dur_base.specs.NumberSets.{NumberSet, IsNumberSet, names}
use Rattle.dur_base.specs.declared.fact.Fact.TheVariants as facts
use Rattle.rtps_message.specs.Written.{message, acknack_subs, IsWritten, TellsOne}
use Rattle.rel_reader.specs.Stories.{next}
use Rattle.rel_reader.specs.MissingNumbers.{is_missing}
use Rattle.rel_writer.specs.Sets.{any_marker}
use Rattle.rel_writer.specs.LateReaders.{Late, asked_writer, nack_text, IsNack}
use Rattle.rel_writer.specs.Law.{AsksOneWay}
use Rattle.dur_base.proofs.SameSets.{one_form}

pub nack_is : (l : Late) (reader to : List ℕ) (set : NumberSet) (done : Bool) (count : ℕ)
    (old new : List ℕ) (n base last : ℕ) → reader ≡ l.reader → to ≡ asked_writer l
    → done ≡ any_marker l.handled → count ≡ (l.nacks + 1) % 2 ^ 32
    → IsNumberSet set → set.base ≡ base → base ≡ next l.story → last ≡ l.last
    → ((k : ℕ) → names set k ≡ is_missing l.story base last k)
    → IsWritten old new (take 12 reader) (acknack_subs reader to set done count) n
    → TellsOne to (take n new) (facts.Nack reader (drop 12 to) set done) → IsNack l (take n new)
nack_is l reader to set done count old new n base last r t d c form b e f missing w tells = record {
  set = set;
  form = form;
  base = b ∙ e;
  missing = λ k. missing k ∙ ap (λ i. is_missing l.story i last k) e
      ∙ ap (λ i. is_missing l.story (next l.story) i k) f;
  text =
      ap (take n) w.text
      ∙ take_at (message (take 12 reader) (acknack_subs reader to set done count)) (drop n old) n
      (sym w.len)
      ∙ ap (λ x. message (take 12 x) (acknack_subs x to set done count)) r
      ∙ ap (λ x. message (take 12 l.reader) (acknack_subs l.reader x set done count)) t
      ∙ ap (λ x. message (take 12 l.reader) (acknack_subs l.reader (asked_writer l) set x count)) d
      ∙ ap (λ x. message (take 12 l.reader)
      (acknack_subs l.reader (asked_writer l) set (any_marker l.handled) x)) c;
  tells =
      subst (λ (x : Bool). TellsOne (asked_writer l) (take n new)
      (facts.Nack l.reader (drop 12 (asked_writer l)) set x)) d
      (subst (λ (x : List ℕ). TellsOne x (take n new) (facts.Nack l.reader (drop 12 x) set done))
      t (subst (λ (x : List ℕ). TellsOne to (take n new) (facts.Nack x (drop 12 to) set done)) r
      tells));
}

pub one_nack : (l : Late) → AsksOneWay l
one_nack l = λ a b x y.
    let same : x.set ≡ y.set =
    one_form x.set y.set x.form y.form (x.base ∙ sym y.base)
    (λ k. x.missing k ∙ sym (y.missing k)) in
    x.text ∙ ap (nack_text l) same ∙ sym y.text
