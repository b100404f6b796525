-- A view is read in one way alone.
use Rattle.std.proofs.Common.{◌≡◌, ℕ, ◌-◌, ◌<◌, List, [], length, Err, true, refl, sym, ap, subst, ◌∙◌, inl, inr, arith}
use Rattle.std.specs.Prelude.{◌==◌}
use Rattle.dur_view.specs.declared.data.View.{View}
use Rattle.dur_record.specs.declared.field.Kind.TheVariants as kind
use Rattle.dur_record.specs.declared.field.Stop.{Stop}
use Rattle.dur_record.specs.declared.field.Stop.TheVariants as stop
use Rattle.dur_record.specs.declared.fault.TextFault.TheVariants.{BadField}
use Rattle.dur_record.specs.declared.version.Version.{Version}
use Rattle.dur_record.specs.Grammar.{Break, Spells}
use Rattle.dur_record.specs.Run.{run, is_broken}
use Rattle.dur_record.specs.Views.{view_row, SpellsView, BreaksView}
use Rattle.dur_record.specs.Faults.{fault_at, fault_of, LeftWithin, IsFault}
use Rattle.dur_record.proofs.Runs.{spells_within, run_breaks, row_once, row_never, break_once}
use Rattle.dur_record.proofs.EntryLists.{no_octets, told_fault, zero_of}

pub view_once : (version : Version) (text : List ℕ) (v w : View) → SpellsView version text v → SpellsView version text w → v ≡ w
view_once version text v w s t = (row_once (view_row version) text v w [] [] s t).0

pub view_never : (version : Version) (text : List ℕ) (v : View) (b : Break) → SpellsView version text v → BreaksView version text b → ⊥
view_never version text v b s (inl x) = row_never (view_row version) text v [] b s x
view_never version text v b s (inr x) =
    let left : [] ≡ x.1 = (row_once (view_row version) text v x.0 [] x.1 s x.2).1 in
    omega (arith, ap length left, x.3)

pub view_break_once : (version : Version) (text : List ℕ) (a b : Break) → BreaksView version text a → BreaksView version text b → a ≡ b
view_break_once version text a b (inl x) (inl y) = break_once (view_row version) text a b x y
view_break_once version text a b (inl x) (inr y) = absurd (row_never (view_row version) text y.0 y.1 a y.2 x)
view_break_once version text a b (inr x) (inl y) = absurd (row_never (view_row version) text x.0 x.1 b x.2 y)
view_break_once version text a b (inr x) (inr y) =
    let left : x.1 ≡ y.1 = (row_once (view_row version) text x.0 y.0 x.1 y.1 x.2 y.2).1 in
    x.4 ∙ ap (λ (r : List ℕ). let c : Break = record { left = length r; kind = kind.BadField } in c) left ∙ sym y.4

-- ---- a break as it is told

pub view_stop_within : (version : Version) (text : List ℕ) (s : Stop) → (is_broken s ≡ true → run (view_row version) text ≡ Err s) → LeftWithin s (length text)
view_stop_within version text (stop.Broken left kind) reads =
    let b = run_breaks (view_row version) text (stop.Broken left kind) (reads refl) in
    let same : left ≡ b.broken.left = let e : stop.Broken left kind ≡ stop.Broken b.broken.left b.broken.kind = b.is in cc in
    omega (arith, same, b.within)
view_stop_within version text stop.OutOfMemory reads = tt

pub view_stop_told : (version : Version) (text : List ℕ) (s : Stop) → (is_broken s ≡ true → run (view_row version) text ≡ Err s) → IsFault (BreaksView version text) (length text) (fault_of (length text) s)
view_stop_told version text stop.OutOfMemory reads = tt
view_stop_told version text (stop.Broken left kind) reads =
    let b = run_breaks (view_row version) text (stop.Broken left kind) (reads refl) in
    let e : stop.Broken left kind ≡ stop.Broken b.broken.left b.broken.kind = b.is in
    let same : left ≡ b.broken.left = cc in
    let same_kind : kind ≡ b.broken.kind = cc in
    let breaks : BreaksView version text b.broken = inl b.breaks_at in
    told_fault (BreaksView version text) (length text) b.broken breaks b.within kind (sym same_kind) (fault_at (length text - left) kind) (ap (λ (n : ℕ). fault_at (length text - n) kind) same)

pub whole_view : (version : Version) (text : List ℕ) (v : View) (rest : List ℕ) → Spells (view_row version) text v rest → true ≡ (length rest == 0) → SpellsView version text v
whole_view version text v rest s e = subst (λ (r : List ℕ). Spells (view_row version) text v r) (no_octets rest (zero_of (length rest) e)) s

pub more_than_view : (version : Version) (text : List ℕ) (v : View) (rest : List ℕ) → Spells (view_row version) text v rest → 0 < length rest → IsFault (BreaksView version text) (length text) (BadField (length text - length rest))
more_than_view version text v rest s more =
    let b : Break = record { left = length rest; kind = kind.BadField } in
    (b, inr (v, rest, s, more, refl), spells_within (view_row version) text v rest s, refl)
