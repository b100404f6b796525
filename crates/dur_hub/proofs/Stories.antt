-- What a story tells, and what handling makes of it.
use Rattle.std.proofs.Common.{◌≡◌, ◌≢◌, ◌⊎◌, inl, inr, ℕ, ◌+◌, ◌≤◌, List, [], ◌∷◌, refl, ap, subst, ◌∙◌, sym, Bool, true, false, cond, Option, Some, None, arith}
use Rattle.std.specs.Prelude.{◌==◌, ◌&&◌, ◌||◌, nat_le, nat_lt, unwrap_or, slice_get}
use Rattle.dur_base.specs.NumberSets.{names}
use Rattle.dur_base.specs.declared.sample.Sample.{Sample}
use Rattle.dur_base.specs.declared.entry.Entry.{Entry}
use Rattle.dur_base.specs.declared.entry.Entry.TheVariants.{Took, Skip, Lost}
use Rattle.dur_base.specs.declared.fact.Fact.{Fact}
use Rattle.dur_base.specs.declared.fact.Fact.TheVariants as fact
use Rattle.dur_base.specs.declared.kinds.Shape.{Shape}
use Rattle.dur_view.specs.Identities.{Guid}
use Rattle.dur_view.specs.declared.data.View.{View}
use Rattle.dur_view.specs.Past.{no_topic}
use Rattle.dur_view.specs.Words.{stands, topic_of}
use Rattle.dur_view.specs.History.{History, ◌+>◌, start, moment, next as next_in, writer_of, HasShortNumber, Follows}
use Rattle.dur_view.specs.History as histories
use Rattle.dur_view.specs.IsSound.{IsHistory}
use Rattle.rtps_message.specs.Facts.{IsGoodFact}
use Rattle.rtps_message.specs.Samples.{reads}
use Rattle.rel_reader.specs.declared.known.Known.{Known}
use Rattle.rel_reader.specs.declared.known.Known.TheVariants.{Unknown, Irrelevant, With}
use Rattle.rel_reader.specs.Knowledge.{or_else, read_as}
use Rattle.rel_reader.specs.Stories.{Story, Begin, ◌▸◌, Data, Gap, Beat, Handled, Refused, next}
use Rattle.rel_reader.specs.KnownNumbers.{known, is_near, says_data, says_gap, says_beat}
use Rattle.dur_hub.specs.declared.event.End.{End}
use Rattle.dur_hub.specs.declared.event.End.TheVariants.{Waits, Refuses, Stopped}
use Rattle.dur_hub.specs.Telling.{with_fact, with_entry, with_entries}
use Rattle.dur_hub.specs.Admission.{IsNext, Handles, after_end}
use Rattle.dur_hub.specs.GoodRuns.{MayTake, ReadsAs, Tells}
use Rattle.dur_hub.proofs.Guids.{same_true, next_other}
use Rattle.dur_hub.proofs.Samples.{may_take}

or_with : (o news : Known) (x : Sample) → or_else o news ≡ With x → (o ≡ With x) ⊎ (news ≡ With x)
or_with Unknown news x is = inr is
or_with Irrelevant news x is = absurd (cc)
or_with (With y) news x is = inl is

if_with : (b : Bool) (o : Known) (x : Sample) → cond b o Unknown ≡ With x → o ≡ With x
if_with true o x is = is
if_with false o x is = absurd (cc)

read_with : (P : Sample → Type 0) (read : Option Sample) (x : Sample) → read_as read ≡ With x
    → ReadsAs P read → P x
read_with P None x is so = absurd (cc)
read_with P (Some y) x is so = let e : y ≡ x = cc in subst P e so

-- what is known with a sample was told
pub known_told : (P : Sample → Type 0) (s : Story) (k : ℕ) (x : Sample) → Tells P s
    → known s k ≡ With x → P x
known_told P (Begin n) k x so is = absurd (cc)
known_told P (s ▸ Data j read) k x so is =
    data_by (or_with (known s k) (says_data (next s) j read k) x is) (known_told P s k x so.1) where
      data_by : (known s k ≡ With x) ⊎ (says_data (next s) j read k ≡ With x)
          → (known s k ≡ With x → P x) → P x
      data_by (inl before) more = more before
      data_by (inr now) more =
          read_with P read x (if_with ((k == j) && is_near (next s) k) (read_as read) x now) so.0
known_told P (s ▸ Gap start set) k x so is =
    gap_by (or_with (known s k) (says_gap (next s) start set k) x is) (known_told P s k x so) where
      gap_by : (known s k ≡ With x) ⊎ (says_gap (next s) start set k ≡ With x)
          → (known s k ≡ With x → P x) → P x
      gap_by (inl before) more = more before
      gap_by (inr now) more =
          (let e = if_with ((nat_le start (next s) && nat_lt k set.base) || ((nat_le start k && nat_lt k set.base) && is_near (next s) k) || (names set k && is_near (next s) k)) Irrelevant x now in absurd (cc))
known_told P (s ▸ Beat first) k x so is =
    beat_by (or_with (known s k) (says_beat first k) x is) (known_told P s k x so) where
      beat_by : (known s k ≡ With x) ⊎ (says_beat first k ≡ With x) → (known s k ≡ With x → P x) → P x
      beat_by (inl before) more = more before
      beat_by (inr now) more = (let e = if_with (nat_lt k first) Irrelevant x now in absurd (cc))
known_told P (s ▸ Handled to) k x so is = known_told P s k x so is
known_told P (s ▸ Refused) k x so is = refused_by (k == next s) is (known_told P s k x so) where
  refused_by : (b : Bool) → cond b Unknown (known s k) ≡ With x → (known s k ≡ With x → P x) → P x
  refused_by true yes1 more = absurd (cc)
  refused_by false before more = more before

-- a fact of a good DATA
pub next_fact : (shape : Shape) (m : ℕ) (f : Fact) (s : Story)
    → next (with_fact shape m f s) ≡ next s
next_fact shape m (fact.Data w r n raw) s = refl
next_fact shape m (fact.Unreadable w r n) s = refl
next_fact shape m (fact.Gap w r from set) s = refl
next_fact shape m (fact.Beat w r first last is_final) s = refl
next_fact shape m (fact.Nack w r set is_final) s = refl

pub tells_fact : (v : View) (w : Guid) (shape : Shape) (m : ℕ) (f : Fact) (s : Story) → IsGoodFact f
    → (unwrap_or (slice_get v.topics (topic_of v w)) no_topic).shape ≡ shape → Tells (MayTake v w) s
    → Tells (MayTake v w) (with_fact shape m f s)
tells_fact v w shape m (fact.Data u r n raw) s good same so =
    (reads_by (reads shape m raw) refl, so) where
      reads_by : (o : Option Sample) → reads shape m raw ≡ o → ReadsAs (MayTake v w) o
      reads_by None is = tt
      reads_by (Some x) is = may_take v w shape m raw x good same is
tells_fact v w shape m (fact.Unreadable u r n) s good same so = (tt, so)
tells_fact v w shape m (fact.Gap u r from set) s good same so = so
tells_fact v w shape m (fact.Beat u r first last is_final) s good same so = so
tells_fact v w shape m (fact.Nack u r set is_final) s good same so = so

pub tells_entries : (P : Sample → Type 0) (s : Story) (es : List Entry) → Tells P s
    → Tells P (with_entries s es)
tells_entries P s [] so = so
tells_entries P s (e ∷ es) so = tells_entries P (with_entry s e) es so

pub tells_end : (P : Sample → Type 0) (s : Story) (end : End) → Tells P s
    → Tells P (after_end s end)
tells_end P s Waits so = so
tells_end P s (Refuses n limit) so = so
tells_end P s Stopped so = so

pub next_end : (s : Story) (end : End) → next (after_end s end) ≡ next s
next_end s Waits = refl
next_end s (Refuses n limit) = refl
next_end s Stopped = refl

-- an entry of the next number is its writer's
pub next_writer : (s : Story) (w : Guid) (m : ℕ) (e : Entry) → IsNext s w m e → writer_of e ≡ w
next_writer s w m (Took at u k x) is = is.1
next_writer s w m (Skip at u from to) is = is.1
next_writer s w m (Lost at u) is = absurd is

-- an entry of the next number follows
pub next_follows : (s : Story) (h : History) (w : Guid) (m : ℕ) (e : Entry) → IsNext s w m e
    → HasShortNumber e → moment h ≤ m → stands (start h) w ≡ true → next s ≡ next_in h w
    → Tells (MayTake (start h) w) s → Follows h e
next_follows s h w m (Took at u k x) is short early there same tells = record {
  known = ap (stands (start h)) is.1 ∙ there;
  later = omega (arith, early, is.0);
  number = is.2 ∙ same ∙ ap (next_in h) (sym is.1);
  short = short;
  good =
      subst (λ g. MayTake (start h) g x) (sym is.1)
      (known_told (MayTake (start h) w) s (next s) x tells is.3);
}
next_follows s h w m (Skip at u from to) is short early there same tells = record {
  known = ap (stands (start h)) is.1 ∙ there;
  later = omega (arith, early, is.0);
  number = (is.2 ∙ same ∙ ap (next_in h) (sym is.1), omega (arith, is.2, is.3.some));
  short = short;
  good = tt;
}
next_follows s h w m (Lost at u) is short early there same tells = absurd is

-- after it both have the same next number
pub next_same : (s : Story) (h : History) (w : Guid) (m : ℕ) (e : Entry) → IsNext s w m e
    → next (with_entry s e) ≡ next_in (histories.◌▸◌ h e) w
next_same s h w m (Took at u k x) is =
    sym (ap (λ b. cond b (k + 1) (next_in h w)) (same_true u w is.1))
next_same s h w m (Skip at u from to) is =
    sym (ap (λ b. cond b (to + 1) (next_in h w)) (same_true u w is.1))
next_same s h w m (Lost at u) is = absurd is

pub next_moment : (s : Story) (w : Guid) (m : ℕ) (e : Entry) → IsNext s w m e
    → histories.moment_of e ≡ m
next_moment s w m (Took at u k x) is = is.0
next_moment s w m (Skip at u from to) is = is.0
next_moment s w m (Lost at u) is = absurd is

-- what handling gives: a history, whose next number of the writer is the story's
pub record Handled_well (s : Story) (h : History) (w : Guid) (m : ℕ) (es : List Entry) : Type 0 where
  pub history : IsHistory (h +> es)
  pub early : moment (h +> es) ≤ m
  pub same : next (with_entries s es) ≡ next_in (h +> es) w
  pub others : (u : Guid) → u ≢ w → next_in (h +> es) u ≡ next_in h u

pub handles_well : (s : Story) (h : History) (w : Guid) (m : ℕ) (es : List Entry) (end : End)
    → Handles s h w m es end → IsHistory h → moment h ≤ m → stands (start h) w ≡ true
    → next s ≡ next_in h w → Tells (MayTake (start h) w) s → Handled_well s h w m es
handles_well s h w m [] end so hist early there same tells = record {
  history = hist;
  early = early;
  same = same;
  others = λ u ne. refl;
}
handles_well s h w m (e ∷ es) end so hist early there same tells =
    let one = next_follows s h w m e so.0 so.1 early there same tells in
    let rest =
    handles_well (with_entry s e) (histories.◌▸◌ h e) w m es end so.3 (hist, one)
    (omega (arith, next_moment s w m e so.0)) there (next_same s h w m e so.0) tells in
    record {
      history = rest.history;
      early = rest.early;
      same = rest.same;
      others =
          λ u ne. rest.others u ne
          ∙ next_other e u (next_in h u) (λ q. ne (sym q ∙ next_writer s w m e so.0));
    }
