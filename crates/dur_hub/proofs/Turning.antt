-- One writer's numbers, admitted one after another.
use Rattle.std.proofs.Common.{◌≡◌, ℕ, ◌+◌, ◌-◌, ◌<◌, ◌^◌, List, [], ◌∷◌, ◌++◌, refl, ap, subst, ◌∙◌, sym, Bool, true, false, arith, Some, None}
use Rattle.dur_base.specs.declared.sample.Sample.{Sample}
use Rattle.dur_base.specs.declared.entry.Entry.{Entry}
use Rattle.dur_base.specs.declared.entry.Entry.TheVariants.{Took, Skip}
use Rattle.dur_view.specs.Identities.{Guid}
use Rattle.dur_view.specs.Extend.{extend-push}
use Rattle.dur_view.specs.History.{History, ◌▸◌, ◌+>◌, start, HasShortNumber, Follows}
use Rattle.dur_view.specs.declared.limit.Limit.{Limit}
use Rattle.dur_view.specs.Refused.{refused}
use Rattle.rel_reader.specs.declared.known.Known.TheVariants.{Unknown, Irrelevant, With}
use Rattle.rel_reader.specs.declared.known.Known.{Known}
use Rattle.rel_reader.specs.declared.ready.Ready.TheVariants as Ready
use Rattle.std.specs.Prelude.{◌↔◌}
use Rattle.rel_reader.specs.Knowledge.{is_unknown, is_with}
use Rattle.rel_reader.specs.Stories.{Story, next}
use Rattle.rel_reader.specs.Stories as stories
use Rattle.rel_reader.specs.KnownNumbers.{known}
use Rattle.rel_reader.specs.Skips.{IsSkip}
use Rattle.rel_reader.specs.Windows.{Window, Fits}
use Rattle.dur_hub.specs.declared.drain.Turned.TheVariants.{More, Done}
use Rattle.dur_hub.specs.declared.event.End.{End}
use Rattle.dur_hub.specs.declared.event.End.TheVariants.{Refuses, Stopped}
use Rattle.dur_hub.specs.declared.ledger.Ledger.{Ledger}
use Rattle.dur_hub.specs.Telling.{with_entry, with_entries}
use Rattle.dur_hub.specs.Admission.{IsNext, Ends, Handles}
use Rattle.dur_view.specs.Stored.{is_stored}
use Rattle.dur_hub.specs.Queues.{LedgerAt}
use Rattle.dur_hub.specs.Drains.{MayAdd, Turns, Drains}
use Rattle.dur_hub.proofs.Stories.{next_follows, next_same, next_moment}
use Rattle.dur_hub.proofs.Same.{skips_one, skip_first}

pub known_with : (x : Known) → is_with x ≡ true → is_unknown x ≡ false
known_with Unknown is = absurd (cc)
known_with Irrelevant is = refl
known_with (With s) is = refl

module _ (l l' : Ledger) (p p' : Window) (w : Guid) (stored : Bool) (m : ℕ) where
  pub turn_took : (n : ℕ) (x y : Sample) → n ≡ p.next → n < 2 ^ 63 - 1
      → ((s : Story) → Fits p s → known s (next s) ≡ With x) → y ≡ x
      → ((h : History) (t d : ℕ) → LedgerAt l h t d → stored ≡ is_stored (start h) w → Follows h (Took m w n y) → LedgerAt l' (h ▸ Took m w n y) t d × (refused h (Took m w n y) ≡ None))
      → ((s : Story) (z : Sample) → Fits p s → known s (next s) ≡ With z → Fits p' (stories.◌▸◌ s (stories.Handled (next s + 1))))
      → (p.next < p'.next) × (p'.next < 2 ^ 63)
      → Turns l p w stored m More l' p'
  turn_took n x y is short sample copied admit handled grows = (
    grows.0,
    grows.1,
    Took m w n y,
    λ h t d s at fits may.
        let num : n ≡ next s = is ∙ fits.next in
        let told : known s (next s) ≡ With y = sample s fits ∙ ap With (sym copied) in
        let a =
        admit h t d at may.kind
        (next_follows s h w m (Took m w n y) (refl, refl, num, told) short may.early may.stands may.next may.samples) in
        ((refl, refl, num, told), short, a.1, a.0, subst (λ k. Fits p' (stories.◌▸◌ s (stories.Handled (k + 1)))) (sym num) (handled s x fits (sample s fits))),
  )

  pub turn_refused : (n : ℕ) (x y : Sample) (limit : Limit) → n ≡ p.next → n < 2 ^ 63 - 1
      → ((s : Story) → Fits p s → known s (next s) ≡ With x) → y ≡ x
      → ((h : History) (t d : ℕ) → LedgerAt l h t d → LedgerAt l' h t d)
      → ((h : History) (t d : ℕ) → LedgerAt l h t d → Follows h (Took m w n y) → refused h (Took m w n y) ≡ Some limit)
      → ((s : Story) → Fits p s → Fits p' (stories.◌▸◌ s stories.Refused))
      → Turns l p w stored m (Done (Refuses n limit)) l' p'
  turn_refused n x y limit is short sample copied keeps passes dropped = λ h t d s at fits may.
      let num : n ≡ next s = is ∙ fits.next in
      let told : known s (next s) ≡ With y = sample s fits ∙ ap With (sym copied) in
      let follows =
      next_follows s h w m (Took m w n y) (refl, refl, num, told) short may.early may.stands
      may.next may.samples in
      ((num, (y, told, subst (λ k. refused h (Took m w k y) ≡ Some limit) num (passes h t d at follows))), keeps h t d at, dropped s fits)

  pub turn_skip : (from to : ℕ) → to < 2 ^ 63 - 1
      → ((s : Story) → Fits p s → (from ≡ next s) × IsSkip s (to + 1))
      → ((h : History) (t d : ℕ) → LedgerAt l h t d → stored ≡ is_stored (start h) w → Follows h (Skip m w from to) → LedgerAt l' (h ▸ Skip m w from to) t d × (refused h (Skip m w from to) ≡ None))
      → ((s : Story) → Fits p s → known s (next s) ≡ Irrelevant → (k : ℕ) × (IsSkip s k × Fits p' (stories.◌▸◌ s (stories.Handled k))))
      → (p.next < p'.next) × (p'.next < 2 ^ 63)
      → Turns l p w stored m More l' p'
  turn_skip from to short skips admit handled grows = (
    grows.0,
    grows.1,
    Skip m w from to,
    λ h t d s at fits may.
        let ready = skips s fits in
        let a =
        admit h t d at may.kind
        (next_follows s h w m (Skip m w from to) (refl, refl, ready.0, ready.1) short may.early may.stands may.next may.samples) in
        let after = handled s fits (skip_first s (to + 1) ready.1) in
        ((refl, refl, ready.0, ready.1), short, a.1, a.0, subst (λ k. Fits p' (stories.◌▸◌ s (stories.Handled k))) (skips_one s after.0 (to + 1) after.1.0 ready.1) after.1.1),
  )

  -- want of memory
  pub turn_stopped : ((h : History) (t d : ℕ) → LedgerAt l h t d → LedgerAt l' h t d) → p' ≡ p
      → Turns l p w stored m (Done Stopped) l' p'
  turn_stopped keeps same =
      λ h t d s at fits may. (tt, keeps h t d at, subst (λ q. Fits q s) (sym same) fits)

-- ---- the loop

pub record Sofar (l : Ledger) (p : Window) (w : Guid) (stored : Bool) (m : ℕ) (l' : Ledger) (p' : Window) : Type 0 where
  pub entries : List Entry
  pub holds : (h : History) (t d : ℕ) (s : Story) → LedgerAt l h t d → Fits p s
      → MayAdd h s w stored m →
      Handles s h w m entries Stopped × LedgerAt l' (h +> entries) t d
      × Fits p' (with_entries s entries) × MayAdd (h +> entries) (with_entries s entries) w stored m

entries_snoc : (s : Story) (es : List Entry) (e : Entry)
    → with_entries s (es ++ e ∷ []) ≡ with_entry (with_entries s es) e
entries_snoc s [] e = refl
entries_snoc s (x ∷ es) e = entries_snoc (with_entry s x) es e

handles_snoc : (s : Story) (h : History) (w : Guid) (m : ℕ) (es : List Entry) (e : Entry)
    → Handles s h w m es Stopped → IsNext (with_entries s es) w m e → HasShortNumber e
    → refused (h +> es) e ≡ None
    → Handles s h w m (es ++ e ∷ []) Stopped
handles_snoc s h w m [] e so is short fine = (is, short, fine, tt)
handles_snoc s h w m (x ∷ es) e so is short fine =
    (so.0, so.1, so.2, handles_snoc (with_entry s x) (h ▸ x) w m es e so.3 is short fine)

handles_end : (s : Story) (h : History) (w : Guid) (m : ℕ) (es : List Entry) (end : End)
    → Handles s h w m es Stopped → Ends (with_entries s es) (h +> es) w m end
    → Handles s h w m es end
handles_end s h w m [] end so ends = ends
handles_end s h w m (x ∷ es) end so ends =
    (so.0, so.1, so.2, handles_end (with_entry s x) (h ▸ x) w m es end so.3 ends)

may_more : (s : Story) (h : History) (w : Guid) (stored : Bool) (m : ℕ) (e : Entry) → IsNext s w m e
    → MayAdd h s w stored m → MayAdd (h ▸ e) (with_entry s e) w stored m
may_more s h w stored m e is may = record {
  stands = may.stands;
  kind = may.kind;
  early = omega (arith, next_moment s w m e is);
  next = next_same s h w m e is;
  samples = may.samples;
}

pub sofar_init : (l : Ledger) (p : Window) (w : Guid) (stored : Bool) (m : ℕ)
    → Sofar l p w stored m l p
sofar_init l p w stored m = record {
  entries = [];
  holds = λ h t d s at fits may. (tt, at, fits, may);
}

pub sofar_more : (l : Ledger) (p : Window) (w : Guid) (stored : Bool) (m : ℕ) (l1 : Ledger)
    (p1 : Window) (l2 : Ledger) (p2 : Window)
    → Sofar l p w stored m l1 p1 → Turns l1 p1 w stored m More l2 p2 → Sofar l p w stored m l2 p2
sofar_more l p w stored m l1 p1 l2 p2 so more =
    let e = more.2 in
    record {
      entries = so.entries ++ e ∷ [];
      holds = λ h t d s at fits may.
          let a = so.holds h t d s at fits may in
          let b = more.3 (h +> so.entries) t d (with_entries s so.entries) a.1 a.2 a.3 in
          let is : h +> (so.entries ++ e ∷ []) ≡ (h +> so.entries) ▸ e =
          extend-push h so.entries e in
          let also = entries_snoc s so.entries e in (
            handles_snoc s h w m so.entries e a.0 b.0 b.1 b.2,
            subst (λ k. LedgerAt l2 k t d) (sym is) b.3,
            subst (λ k. Fits p2 k) (sym also) b.4,
            subst (λ k. MayAdd k (with_entries s (so.entries ++ e ∷ [])) w stored m) (sym is)
                (subst (λ k. MayAdd ((h +> so.entries) ▸ e) k w stored m) (sym also) (may_more (with_entries s so.entries) (h +> so.entries) w stored m e b.0 a.3)),
          );
    }

pub sofar_done : (l : Ledger) (p : Window) (w : Guid) (stored : Bool) (m : ℕ) (l1 : Ledger)
    (p1 : Window) (l2 : Ledger) (p2 : Window) (end : End)
    → Sofar l p w stored m l1 p1 → Turns l1 p1 w stored m (Done end) l2 p2
    → Drains l p w stored m end l2 p2
sofar_done l p w stored m l1 p1 l2 p2 end so done = record {
  entries = so.entries;
  holds = λ h t d s at fits may.
      let a = so.holds h t d s at fits may in
      let b = done (h +> so.entries) t d (with_entries s so.entries) a.1 a.2 a.3 in
      (handles_end s h w m so.entries end a.0 b.0, b.1, b.2);
}

pub not_unknown : (b : Bool) (from to : ℕ) → ((Ready.Skip from to ≡ Ready.Nothing) ↔ (b ≡ true))
    → b ≡ false
not_unknown true from to iff = absurd (let e = iff.1 refl in cc)
not_unknown false from to iff = refl
