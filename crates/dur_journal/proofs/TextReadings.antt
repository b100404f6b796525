-- The readings of texts are those of the grammar.
use Rattle.std.proofs.Common.{◌≡◌, ◌⊎◌, inl, inr, ℕ, zero, suc, ◌+◌, ◌-◌, ◌<◌, ◌≤◌, List, [], ◌∷◌, ◌++◌, length, Option, Some, Result, Ok, Err, IfOk, IfErr, refl, sym, ◌∙◌, ap, subst, arith}
use Rattle.dur_base.specs.declared.entry.Entry.{Entry}
use Rattle.dur_view.specs.declared.data.View.{View}
use Rattle.dur_view.specs.History.{History, ◌+>◌, AllFollow}
use Rattle.dur_record.specs.declared.version.Version.{Version}
use Rattle.dur_record.specs.declared.fault.TextFault.{TextFault}
use Rattle.dur_record.specs.declared.fault.TextFault.TheVariants.{Cut, BadTag, BadField, OutOfMemory}
use Rattle.dur_record.specs.declared.field.Kind.{Kind}
use Rattle.dur_record.specs.declared.field.Kind.TheVariants as kind
use Rattle.dur_record.specs.declared.field.Stop.{Stop}
use Rattle.dur_record.specs.Grammar.{Break, Breaks}
use Rattle.dur_record.specs.Run.{run}
use Rattle.dur_record.specs.Faults.{IsFault, fault_at, told_at}
use Rattle.dur_record.specs.Entries.{entry_row, with_entry, with_entries, SpellEach, SpellsEntries, BreaksEntries}
use Rattle.dur_record.specs.Views.{view_row, SpellsView, BreaksView}
use Rattle.dur_record.proofs.Runs.{spells_run, breaks_run}
use Rattle.dur_record.proofs.EntryLists.{entry_takes}
use Rattle.dur_record.proofs.Following.{entries_follow}
use Rattle.dur_record.proofs.Readings.{entries_reading, view_reading}
use Rattle.dur_record.proofs.ViewTold.{view_told}
use Rattle.dur_record.proofs.TopicKinds.{kinds_told}
use Rattle.dur_journal.specs.Histories.{IsBase}
use Rattle.dur_journal.specs.Texts.{place_of, alone, whole_view, view_in, before, behind, each_in, entries_in}
use Rattle.dur_record.specs.declared.past.Past.{Past}
use Rattle.dur_record.specs.Past.{IsPast}
use Rattle.dur_record.specs.Readers.{AnswersView, GoesOn}
use Rattle.dur_journal.specs.Reading.{unread_of, BreaksAt, IsInside}
use Rattle.dur_journal.specs.declared.reading.Unread.{Unread}
use Rattle.dur_journal.specs.declared.reading.Unread.TheVariants as why

-- ---- views

pub view_spelt : (version : Version) (x : List ℕ) (v : View) → SpellsView version x v → view_in version x ≡ Ok v
unfolding view_in
view_spelt version x v s = ap (whole_view (length x)) (spells_run (view_row version) x v [] s)

alone_breaks : (len : ℕ) (v : View) (rest : List ℕ) → 0 < length rest → alone len v rest ≡ Err (len - length rest)
alone_breaks len v [] more = absurd (omega (arith, more))
alone_breaks len v (b ∷ rest) more = refl

pub view_broken : (version : Version) (x : List ℕ) (b : Break) → BreaksView version x b → view_in version x ≡ Err (length x - b.left)
unfolding view_in
view_broken version x b (inl row) = ap (whole_view (length x)) (breaks_run (view_row version) x b row)
view_broken version x b (inr more) =
    ap (whole_view (length x)) (spells_run (view_row version) x more.0 more.1 more.2) ∙ alone_breaks (length x) more.0 more.1 more.3
    ∙ ap (λ (c : Break). let r : Result View ℕ = Err (length x - c.left) in r) (sym more.4)

ok_same : {A : Type 0} (r : Result A ℕ) (a b : A) → r ≡ Ok a → r ≡ Ok b → a ≡ b
ok_same r a b is too = cc

never : {A : Type 0} (r : Result A ℕ) (a : A) (at : ℕ) → r ≡ Ok a → r ≡ Err at → ⊥
never r a at is too = absurd (cc)

err_same : {A : Type 0} (r : Result A ℕ) (a b : ℕ) → r ≡ Err a → r ≡ Err b → a ≡ b
err_same r a b is too = cc

pub view_back : (version : Version) (x : List ℕ) (v : View) → view_in version x ≡ Ok v → SpellsView version x v
view_back version x v is = elim ((view_reading version x).either) [
  | inl s ↦ subst (λ (w : View). SpellsView version x w) (ok_same (view_in version x) s.0 v (view_spelt version x s.0 s.1) is) s.1
  | inr b ↦ absurd (never (view_in version x) v (length x - b.0.left) is (view_broken version x b.0 b.1))
]

pub view_breaks_back : (version : Version) (x : List ℕ) (at : ℕ) → view_in version x ≡ Err at → (b : Break) × BreaksView version x b × (at ≡ length x - b.left)
view_breaks_back version x at is = elim ((view_reading version x).either) [
  | inl s ↦ absurd (never (view_in version x) s.0 at (view_spelt version x s.0 s.1) is)
  | inr b ↦ (b.0, b.1, err_same (view_in version x) at (length x - b.0.left) is (view_broken version x b.0 b.1))
]

-- a view that is read may be a base
pub base_told : (version : Version) (x : List ℕ) (v : View) → view_in version x ≡ Ok v → IsBase v
base_told version x v is =
    let s = view_back version x v is in
    record { sound = view_told version x v [] s; persistent = kinds_told version x v s }

-- ---- entries

each_spelt : (len n : ℕ) (version : Version) (past : Option History) (x : List ℕ) (es : List Entry) → length x ≤ n → SpellsEntries version past x es → each_in len n version past x ≡ Ok es
each_spelt len n version past [] [] few s = refl
each_spelt len zero version past (b ∷ x) es few s = absurd (omega (arith, few))
each_spelt len (suc n) version past (b ∷ x) [] few s = absurd (let h : b ∷ x ≡ [] = s in cc)
each_spelt len n version past [] (e ∷ es) few s = absurd (omega (arith, entry_takes version past [] e s.0 s.1))
each_spelt len (suc n) version past (b ∷ x) (e ∷ es) few s =
    ap (λ (q : Result (Entry × List ℕ) Stop). behind len q (λ r. each_in len n version (with_entry past r.0) r.1)) (spells_run (entry_row version past) (b ∷ x) e s.0 s.1)
    ∙ ap (before e) (each_spelt len n version (with_entry past e) s.0 es (omega (arith, few, entry_takes version past (b ∷ x) e s.0 s.1)) s.2)

each_broken : (len n : ℕ) (version : Version) (past : Option History) (x : List ℕ) (es : List Entry) (rest : List ℕ) (b : Break) → length x ≤ n → SpellEach version past x es rest → 0 < length rest
    → Breaks (entry_row version (with_entries past es)) rest b → each_in len n version past x ≡ Err (len - b.left)
each_broken len n version past [] [] rest b few s more breaks = absurd (omega (arith, more, ap length s))
each_broken len n version past [] (e ∷ es) rest b few s more breaks = absurd (omega (arith, entry_takes version past [] e s.0 s.1))
each_broken len zero version past (c ∷ x) es rest b few s more breaks = absurd (omega (arith, few))
each_broken len (suc n) version past (c ∷ x) [] rest b few s more breaks =
    ap (λ (q : Result (Entry × List ℕ) Stop). behind len q (λ r. each_in len n version (with_entry past r.0) r.1))
    (breaks_run (entry_row version past) (c ∷ x) b (subst (λ (t : List ℕ). Breaks (entry_row version past) t b) (sym s) breaks))
each_broken len (suc n) version past (c ∷ x) (e ∷ es) rest b few s more breaks =
    ap (λ (q : Result (Entry × List ℕ) Stop). behind len q (λ r. each_in len n version (with_entry past r.0) r.1)) (spells_run (entry_row version past) (c ∷ x) e s.0 s.1)
    ∙ ap (before e) (each_broken len n version (with_entry past e) s.0 es rest b (omega (arith, few, entry_takes version past (c ∷ x) e s.0 s.1)) s.2 more breaks)

pub entries_spelt : (version : Version) (h : History) (x : List ℕ) (es : List Entry) → SpellsEntries version (Some h) x es → entries_in version h x ≡ Ok es
unfolding entries_in
entries_spelt version h x es s = each_spelt (length x) (length x) version (Some h) x es (omega arith) s

pub entries_broken : (version : Version) (h : History) (x : List ℕ) (b : Break) → BreaksEntries version (Some h) x b → entries_in version h x ≡ Err (length x - b.left)
unfolding entries_in
entries_broken version h x b breaks = each_broken (length x) (length x) version (Some h) x breaks.before breaks.rest b (omega arith) breaks.spelt breaks.more breaks.breaks

pub entries_back : (version : Version) (h : History) (x : List ℕ) (es : List Entry) → entries_in version h x ≡ Ok es → SpellsEntries version (Some h) x es
entries_back version h x es is = elim ((entries_reading version (Some h) x).either) [
  | inl s ↦ subst (λ (fs : List Entry). SpellsEntries version (Some h) x fs) (ok_same (entries_in version h x) s.0 es (entries_spelt version h x s.0 s.1) is) s.1
  | inr b ↦ absurd (never (entries_in version h x) es (length x - b.0.left) is (entries_broken version h x b.0 b.1))
]

pub entries_breaks_back : (version : Version) (h : History) (x : List ℕ) (at : ℕ) → entries_in version h x ≡ Err at → (b : Break) × BreaksEntries version (Some h) x b × (at ≡ length x - b.left)
entries_breaks_back version h x at is = elim ((entries_reading version (Some h) x).either) [
  | inl s ↦ absurd (never (entries_in version h x) s.0 at (entries_spelt version h x s.0 s.1) is)
  | inr b ↦ (b.0, b.1, err_same (entries_in version h x) at (length x - b.0.left) is (entries_broken version h x b.0 b.1))
]

-- entries that are read follow
pub follow_told : (version : Version) (h : History) (x : List ℕ) (es : List Entry) → entries_in version h x ≡ Ok es → AllFollow h es
follow_told version h x es is = entries_follow version h x es [] (entries_back version h x es is)

-- ---- what the readers answer

-- a break is told by its place
told_breaks : {A : Type 0} (read : Result A ℕ) (len : ℕ) (b : Break) (k : Kind) → read ≡ Err (len - b.left) → b.kind ≡ k → BreaksAt read (unread_of (told_at len b)) × IsInside len (unread_of (told_at len b))
told_breaks read len b k is same = rw same (by_kind k)
  where
    by_kind : (k : Kind) → BreaksAt read (unread_of (fault_at (len - b.left) k)) × IsInside len (unread_of (fault_at (len - b.left) k))
    by_kind kind.Cut = (is, omega arith)
    by_kind kind.BadTag = (is, omega arith)
    by_kind kind.BadField = (is, omega arith)

by_break : {A : Type 0} (read : Result A ℕ) (len : ℕ) (f : TextFault) (b : Break) → f ≡ told_at len b → read ≡ Err (len - b.left) → BreaksAt read (unread_of f) × IsInside len (unread_of f)
by_break read len f b is reads = rw is (told_breaks read len b b.kind reads refl)

fault_breaks : {A : Type 0} (read : Result A ℕ) (Broken : Break → Type 0) (len : ℕ) (f : TextFault) → ((b : Break) → Broken b → read ≡ Err (len - b.left)) → IsFault Broken len f
    → BreaksAt read (unread_of f) × IsInside len (unread_of f)
fault_breaks read Broken len OutOfMemory reads fault = (tt, tt)
fault_breaks read Broken len (Cut n) reads fault = by_break read len (Cut n) fault.0 fault.3 (reads fault.0 fault.1)
fault_breaks read Broken len (BadTag n) reads fault = by_break read len (BadTag n) fault.0 fault.3 (reads fault.0 fault.1)
fault_breaks read Broken len (BadField n) reads fault = by_break read len (BadField n) fault.0 fault.3 (reads fault.0 fault.1)

pub view_read : (version : Version) (x : List ℕ) (r : Result View TextFault) (v : View) → AnswersView version x r → r ≡ Ok v → view_in version x ≡ Ok v
view_read version x r v answers is = view_spelt version x v (subst (λ (q : Result View TextFault). IfOk q (SpellsView version x)) is answers.reading.value)

pub view_unread : (version : Version) (x : List ℕ) (r : Result View TextFault) (f : TextFault) → AnswersView version x r → r ≡ Err f
    → BreaksAt (view_in version x) (unread_of f) × IsInside (length x) (unread_of f)
view_unread version x r f answers is =
    fault_breaks (view_in version x) (BreaksView version x) (length x) f (λ b breaks. view_broken version x b breaks)
    (subst (λ (q : Result View TextFault). IfErr q (IsFault (BreaksView version x) (length x))) is answers.reading.fault)

pub entries_unread : (version : Version) (h : History) (x : List ℕ) (after : Past) (r : Result (List Entry) TextFault) (f : TextFault) → GoesOn version h x after r → r ≡ Err f
    → BreaksAt (entries_in version h x) (unread_of f) × IsInside (length x) (unread_of f)
entries_unread version h x after r f goes is =
    fault_breaks (entries_in version h x) (BreaksEntries version (Some h) x) (length x) f (λ b breaks. entries_broken version h x b breaks)
    (subst (λ (q : Result (List Entry) TextFault). IfErr q (IsFault (BreaksEntries version (Some h) x) (length x))) is goes.entries.reading.fault)

pub entries_read : (version : Version) (h : History) (x : List ℕ) (after : Past) (r : Result (List Entry) TextFault) (es : List Entry) → GoesOn version h x after r → r ≡ Ok es
    → (entries_in version h x ≡ Ok es) × IsPast after (Some (h +> es))
entries_read version h x after r es goes is = (
  entries_spelt version h x es (subst (λ (q : Result (List Entry) TextFault). IfOk q (SpellsEntries version (Some h) x)) is goes.entries.reading.value),
  subst (λ (q : Result (List Entry) TextFault). IfOk q (λ fs. IsPast after (Some (h +> fs)))) is goes.past,
)
