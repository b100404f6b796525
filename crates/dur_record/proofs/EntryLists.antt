-- A list of entries is read in one way alone.
use Rattle.std.proofs.Common.{◌≡◌, ℕ, ◌-◌, ◌<◌, ◌≤◌, List, [], ◌∷◌, ◌++◌, length, Err, refl, sym, ap, subst, ◌∙◌, arith, length-append, true, false}
use Rattle.std.specs.Prelude.{◌==◌}
use Rattle.dur_base.specs.declared.entry.Entry.{Entry}
use Rattle.dur_record.specs.declared.field.Kind.{Kind}
use Rattle.dur_record.specs.declared.field.Kind.TheVariants as kind
use Rattle.dur_record.specs.declared.field.Stop.{Stop}
use Rattle.dur_record.specs.declared.field.Stop.TheVariants as stop
use Rattle.dur_record.specs.declared.fault.TextFault.{TextFault}
use Rattle.dur_record.specs.declared.version.Version.{Version}
use Rattle.dur_record.specs.Grammar.{Break, Spells, Breaks}
use Rattle.dur_record.specs.Run.{run, is_broken}
use Rattle.dur_record.specs.Fields.{tag_if}
use Rattle.dur_view.specs.History.{History}
use Rattle.std.specs.declared.option.Option.{Option}
use Rattle.dur_record.specs.Entries.{tag_row, entry_after, entry_row, with_entry, with_entries, SpellEach, SpellsEntries, BreaksEntries}
use Rattle.dur_record.specs.Faults.{fault_at, fault_of, LeftWithin, IsFault}
use Rattle.dur_record.proofs.Runs.{spells_within, run_breaks, row_once, row_never, break_once}

-- an entry has octets
pub entry_takes : (version : Version) (past : Option History) (text : List ℕ) (e : Entry) (rest : List ℕ) → Spells (entry_row version past) text e rest → length rest < length text
unfolding entry_row tag_row tag_if
entry_takes version past text e rest s = omega (arith, ap length s.2.1, length-append s.2.0 s.1, s.2.2, spells_within (entry_after version past s.0) s.1 e rest s.3)

-- one entry more
pub each_more : (version : Version) (past : Option History) (text : List ℕ) (es : List Entry) (behind : List ℕ) (e : Entry) (rest : List ℕ)
    → SpellEach version past text es behind → Spells (entry_row version (with_entries past es)) behind e rest → SpellEach version past text (es ++ e ∷ []) rest
each_more version past text [] behind e rest s t = rw s (rest, t, refl)
each_more version past text (x ∷ es) behind e rest s t = (s.0, s.1, each_more version (with_entry past x) s.0 es behind e rest s.2 t)

pub entries_more : (past : Option History) (es : List Entry) (e : Entry) → with_entries past (es ++ e ∷ []) ≡ with_entry (with_entries past es) e
entries_more past [] e = refl
entries_more past (x ∷ es) e = entries_more (with_entry past x) es e

-- no octets, no entry
none_left : (version : Version) (past : Option History) (text : List ℕ) (e : Entry) (rest : List ℕ) → text ≡ [] → Spells (entry_row version past) text e rest → ⊥
none_left version past text e rest empty s = omega (arith, entry_takes version past text e rest s, ap length empty)

-- what follows one entry, read in two ways
same_past : (version : Version) (past : Option History) (e f : Entry) (es : List Entry) (b c rest : List ℕ) → e ≡ f → b ≡ c → SpellEach version (with_entry past e) b es rest → SpellEach version (with_entry past f) c es rest
same_past version past e f es b c rest same at s =
    subst (λ (x : Entry). SpellEach version (with_entry past x) c es rest) same (subst (λ (t : List ℕ). SpellEach version (with_entry past e) t es rest) at s)

pub each_once : (version : Version) (past : Option History) (text : List ℕ) (es fs : List Entry) → SpellsEntries version past text es → SpellsEntries version past text fs → es ≡ fs
each_once version past text [] [] s t = refl
each_once version past text [] (f ∷ fs) s t = absurd (none_left version past text f t.0 s t.1)
each_once version past text (e ∷ es) [] s t = absurd (none_left version past text e s.0 t s.1)
each_once version past text (e ∷ es) (f ∷ fs) s t =
    let same : (e ≡ f) × (s.0 ≡ t.0) = row_once (entry_row version past) text e f s.0 t.0 s.1 t.1 in
    let more : es ≡ fs = each_once version (with_entry past f) t.0 es fs (same_past version past e f es s.0 t.0 [] same.0 same.1 s.2) t.2 in
    ap (λ (x : Entry). x ∷ es) same.0 ∙ ap (λ (xs : List Entry). f ∷ xs) more

-- entries and then a break are no list of entries
never_both : (version : Version) (past : Option History) (text : List ℕ) (es fs : List Entry) (rest : List ℕ) (b : Break)
    → SpellsEntries version past text es → SpellEach version past text fs rest → 0 < length rest → Breaks (entry_row version (with_entries past fs)) rest b → ⊥
never_both version past text [] [] rest b s t more breaks = omega (arith, ap length s, ap length t)
never_both version past text [] (f ∷ fs) rest b s t more breaks = none_left version past text f t.0 s t.1
never_both version past text (e ∷ es) [] rest b s t more breaks = row_never (entry_row version past) text e s.0 b s.1 (subst (λ (x : List ℕ). Breaks (entry_row version past) x b) (sym t) breaks)
never_both version past text (e ∷ es) (f ∷ fs) rest b s t more breaks =
    let same : (e ≡ f) × (s.0 ≡ t.0) = row_once (entry_row version past) text e f s.0 t.0 s.1 t.1 in
    never_both version (with_entry past f) t.0 es fs rest b (same_past version past e f es s.0 t.0 [] same.0 same.1 s.2) t.2 more breaks

pub entries_never : (version : Version) (past : Option History) (text : List ℕ) (es : List Entry) (b : Break) → SpellsEntries version past text es → BreaksEntries version past text b → ⊥
entries_never version past text es b s x = never_both version past text es x.before x.rest b s x.spelt x.more x.breaks

-- there is one first break
same_break : (version : Version) (past : Option History) (text : List ℕ) (es fs : List Entry) (r q : List ℕ) (a b : Break)
    → SpellEach version past text es r → SpellEach version past text fs q → Breaks (entry_row version (with_entries past es)) r a → Breaks (entry_row version (with_entries past fs)) q b → a ≡ b
same_break version past text [] [] r q a b s t x y = break_once (entry_row version past) text a b (subst (λ (z : List ℕ). Breaks (entry_row version past) z a) (sym s) x) (subst (λ (z : List ℕ). Breaks (entry_row version past) z b) (sym t) y)
same_break version past text [] (f ∷ fs) r q a b s t x y = absurd (row_never (entry_row version past) text f t.0 a t.1 (subst (λ (z : List ℕ). Breaks (entry_row version past) z a) (sym s) x))
same_break version past text (e ∷ es) [] r q a b s t x y = absurd (row_never (entry_row version past) text e s.0 b s.1 (subst (λ (z : List ℕ). Breaks (entry_row version past) z b) (sym t) y))
same_break version past text (e ∷ es) (f ∷ fs) r q a b s t x y =
    let same : (e ≡ f) × (s.0 ≡ t.0) = row_once (entry_row version past) text e f s.0 t.0 s.1 t.1 in
    same_break version (with_entry past f) t.0 es fs r q a b (same_past version past e f es s.0 t.0 r same.0 same.1 s.2) t.2
    (subst (λ (z : Entry). Breaks (entry_row version (with_entries (with_entry past z) es)) r a) same.0 x) y

pub entries_break_once : (version : Version) (past : Option History) (text : List ℕ) (a b : Break) → BreaksEntries version past text a → BreaksEntries version past text b → a ≡ b
entries_break_once version past text a b x y = same_break version past text x.before y.before x.rest y.rest a b x.spelt y.spelt x.breaks y.breaks

-- ---- one break of an entry, as it is told

-- the break is within what is left, and so within the text
pub each_within : (version : Version) (past : Option History) (text : List ℕ) (es : List Entry) (rest : List ℕ) → SpellEach version past text es rest → length rest ≤ length text
each_within version past text [] rest s = rw s (omega arith)
each_within version past text (e ∷ es) rest s = omega (arith, each_within version (with_entry past e) s.0 es rest s.2, spells_within (entry_row version past) text e s.0 s.1)

-- a stop of an entry lies within the text
pub stop_within : (version : Version) (past : Option History) (text : List ℕ) (es : List Entry) (rest : List ℕ) (s : Stop) → SpellEach version past text es rest
    → (is_broken s ≡ true → run (entry_row version (with_entries past es)) rest ≡ Err s) → LeftWithin s (length text)
stop_within version past text es rest (stop.Broken left kind) spelt reads =
    let b = run_breaks (entry_row version (with_entries past es)) rest (stop.Broken left kind) (reads refl) in
    let same : left ≡ b.broken.left = let e : stop.Broken left kind ≡ stop.Broken b.broken.left b.broken.kind = b.is in cc in
    omega (arith, same, b.within, each_within version past text es rest spelt)
stop_within version past text es rest stop.OutOfMemory spelt reads = tt

pub told_fault : (Bs : Break → Type 0) (len : ℕ) (b : Break) → Bs b → b.left ≤ len → (k : Kind) → b.kind ≡ k → (f : TextFault) → f ≡ fault_at (len - b.left) k → IsFault Bs len f
told_fault Bs len b x within kind.Cut e f is = rw is (b, x, within, ap (fault_at (len - b.left)) (sym e))
told_fault Bs len b x within kind.BadTag e f is = rw is (b, x, within, ap (fault_at (len - b.left)) (sym e))
told_fault Bs len b x within kind.BadField e f is = rw is (b, x, within, ap (fault_at (len - b.left)) (sym e))

-- the fault of a stop of an entry is a break of the text
pub stop_told : (version : Version) (past : Option History) (text : List ℕ) (es : List Entry) (rest : List ℕ) (s : Stop) → SpellEach version past text es rest → 0 < length rest
    → (is_broken s ≡ true → run (entry_row version (with_entries past es)) rest ≡ Err s) → IsFault (BreaksEntries version past text) (length text) (fault_of (length text) s)
stop_told version past text es rest stop.OutOfMemory spelt more reads = tt
stop_told version past text es rest (stop.Broken left kind) spelt more reads =
    let b = run_breaks (entry_row version (with_entries past es)) rest (stop.Broken left kind) (reads refl) in
    let e : stop.Broken left kind ≡ stop.Broken b.broken.left b.broken.kind = b.is in
    let same : left ≡ b.broken.left = cc in
    let same_kind : kind ≡ b.broken.kind = cc in
    let breaks : BreaksEntries version past text b.broken = record { before = es; rest = rest; spelt = spelt; more = more; breaks = b.breaks_at } in
    told_fault (BreaksEntries version past text) (length text) b.broken breaks (omega (arith, b.within, each_within version past text es rest spelt)) kind (sym same_kind) (fault_at (length text - left) kind) (ap (λ (n : ℕ). fault_at (length text - n) kind) same)

-- ---- whether octets are left

pub no_octets : (rest : List ℕ) → length rest ≡ 0 → rest ≡ []
no_octets [] e = refl
no_octets (x ∷ xs) e = absurd (omega (arith, e))

pub zero_of : (n : ℕ) → true ≡ (n == 0) → n ≡ 0
zero_of n e = grind (arith, e)

pub at_end : (version : Version) (past : Option History) (text : List ℕ) (es : List Entry) (rest : List ℕ) → SpellEach version past text es rest → true ≡ (length rest == 0) → SpellsEntries version past text es
at_end version past text es rest s e = subst (λ (r : List ℕ). SpellEach version past text es r) (no_octets rest (zero_of (length rest) e)) s

pub some_left : (rest : List ℕ) → false ≡ (length rest == 0) → 0 < length rest
some_left rest e = grind (arith, e)
