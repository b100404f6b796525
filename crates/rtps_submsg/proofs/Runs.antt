-- Going over the fields of a row from left to right, and that this finds what the grammar says.
use Rattle.std.proofs.Common.{◌≡◌, ℕ, ◌+◌, ◌<◌, ◌≤◌, List, ◌++◌, length, take, drop, Option, Some, None, Result, Ok, Err, refl, sym, ap, ◌∙◌, inl, inr, arith}
use Rattle.std.specs.Prelude.{nat_lt, if◌then◌else◌}
use Rattle.std.proofs.lemmas.Bool.{cases_lt, lt-ltb, le-ltb}
use Rattle.std.proofs.lemmas.List.{take_at, drop_at, take-append-drop, length-append, length-take}
use Rattle.rtps_submsg.specs.declared.field.Broken.{Broken}
use Rattle.rtps_submsg.specs.declared.sub.SubKind.{SubKind}
use Rattle.rtps_submsg.specs.declared.sub.SubKind.TheVariants.{Cut}
use Rattle.rtps_submsg.specs.Grammar.{Bad, Rule, Row, ends, field, Spells, Breaks}

abbrev pub broken : ℕ → SubKind → Broken
broken left kind = record { left = left; kind = kind }

-- what follows a field that is judged so
abbrev pub judged : {V : Type 0} → Option Bad → List ℕ → Result V Broken → Result V Broken
judged None body later = later
judged (Some bad) body later = Err (broken (bad.back + length body) bad.kind)

abbrev pub run : {V : Type 0} → Row V → List ℕ → Result V Broken
run (ends v) body = Ok v
run (field width rule next) body =
    if nat_lt (length body) width then Err (broken (length body) Cut)
    else judged (rule (take width body) (drop width body)) body (run (next (take width body)) (drop width body))

ok_same : {V : Type 0} (x y : V) (e : Result V Broken) → e ≡ Ok x → e ≡ Ok y → x ≡ y
ok_same x y e p q = cc

err_not_ok : {V : Type 0} (x : Broken) (y : V) (e : Result V Broken) → e ≡ Err x → e ≡ Ok y → ⊥
err_not_ok x y e p q = cc

err_same : {V : Type 0} (x y : Broken) (e : Result V Broken) → e ≡ Err x → e ≡ Err y → x ≡ y
err_same x y e p q = cc

-- ---- a text reads as what it tells

run_short : {V : Type 0} (width : ℕ) (rule : Rule) (next : List ℕ → Row V) (body : List ℕ) → length body < width → run (field width rule next) body ≡ Err (broken (length body) Cut)
run_short width rule next body short = rw (lt-ltb (length body) width short) refl

run_long : {V : Type 0} (width : ℕ) (rule : Rule) (next : List ℕ → Row V) (body : List ℕ) → width ≤ length body → run (field width rule next) body ≡ judged (rule (take width body) (drop width body)) body (run (next (take width body)) (drop width body))
run_long width rule next body long = rw (le-ltb (length body) width long) refl

run_text : {V : Type 0} (width : ℕ) (rule : Rule) (next : List ℕ → Row V) (body text rest : List ℕ) → body ≡ text ++ rest → length text ≡ width → run (field width rule next) body ≡ judged (rule text rest) body (run (next text) rest)
run_text width rule next body text rest parts fits =
    let long : width ≤ length body = omega (arith, length-append text rest, ap length parts, fits) in
    let front : take width body ≡ text = ap (take width) parts ∙ take_at text rest width fits in
    let behind : drop width body ≡ rest = ap (drop width) parts ∙ drop_at text rest width fits in
    run_long width rule next body long ∙ rw (front, behind) refl

pub spells_run : {V : Type 0} (row : Row V) (body : List ℕ) (v : V) → Spells row body v → run row body ≡ Ok v
spells_run (ends w) body v e = ap Ok (sym e)
spells_run (field width rule next) body v s =
    run_text width rule next body s.0 s.1 s.2 s.3 ∙ rw s.4 (spells_run (next s.0) s.1 v s.5)

pub breaks_run : {V : Type 0} (row : Row V) (body : List ℕ) (e : Broken) → Breaks row body e → run row body ≡ Err e
breaks_run (ends w) body e b = absurd b
breaks_run (field width rule next) body e (inl c) = run_short width rule next body c.short ∙ rw (← c.left, ← c.kind) refl
breaks_run (field width rule next) body e (inr (inl b)) = run_text width rule next body b.text b.rest b.parts b.fits ∙ rw (b.rule_says, ← b.left, ← b.kind) refl
breaks_run (field width rule next) body e (inr (inr b)) = run_text width rule next body b.0 b.1 b.2 b.3 ∙ rw b.4 (breaks_run (next b.0) b.1 e b.5)

-- ---- what reads so is such a text

pub run_spells : {V : Type 0} (row : Row V) (body : List ℕ) (v : V) → run row body ≡ Ok v → Spells row body v
run_spells (ends w) body v e = ok_same v w (Ok w) e refl
run_spells (field width rule next) body v e =
    elim (cases_lt (length body) width) [
      | inl short ↦ absurd (err_not_ok (broken (length body) Cut) v (run (field width rule next) body) (run_short width rule next body short) e)
      | inr long ↦ judged_spells (rule (take width body) (drop width body)) refl long (λ later. run_spells (next (take width body)) (drop width body) v later) (sym (run_long width rule next body long) ∙ e)
    ] where
      judged_spells : (o : Option Bad) → rule (take width body) (drop width body) ≡ o → width ≤ length body
          → (run (next (take width body)) (drop width body) ≡ Ok v → Spells (next (take width body)) (drop width body) v)
          → judged o body (run (next (take width body)) (drop width body)) ≡ Ok v → Spells (field width rule next) body v
      judged_spells None good long further later =
          (take width body, drop width body, sym (take-append-drop width body), omega (arith, length-take width body, long), good, further later)
      judged_spells (Some bad) says long further later = absurd (err_not_ok (broken (bad.back + length body) bad.kind) v (Err (broken (bad.back + length body) bad.kind)) refl later)

pub run_breaks : {V : Type 0} (row : Row V) (body : List ℕ) (e : Broken) → run row body ≡ Err e → Breaks row body e
run_breaks (ends w) body e b = absurd (err_not_ok e w (Ok w) b refl)
run_breaks (field width rule next) body e b =
    elim (cases_lt (length body) width) [
      | inl short ↦
          let same : broken (length body) Cut ≡ e = err_same (broken (length body) Cut) e (run (field width rule next) body) (run_short width rule next body short) b in
          inl (record { short = short; left = ap (λ (x : Broken). x.left) (sym same); kind = ap (λ (x : Broken). x.kind) (sym same) })
      | inr long ↦ judged_breaks (rule (take width body) (drop width body)) refl long (λ later. run_breaks (next (take width body)) (drop width body) e later) (sym (run_long width rule next body long) ∙ b)
    ] where
      judged_breaks : (o : Option Bad) → rule (take width body) (drop width body) ≡ o → width ≤ length body
          → (run (next (take width body)) (drop width body) ≡ Err e → Breaks (next (take width body)) (drop width body) e)
          → judged o body (run (next (take width body)) (drop width body)) ≡ Err e → Breaks (field width rule next) body e
      judged_breaks None good long further later =
          inr (inr (take width body, drop width body, sym (take-append-drop width body), omega (arith, length-take width body, long), good, further later))
      judged_breaks (Some bad) says long further later =
          let same : broken (bad.back + length body) bad.kind ≡ e = err_same (broken (bad.back + length body) bad.kind) e (Err (broken (bad.back + length body) bad.kind)) refl later in
          inr (inl (record {
            text = take width body;
            rest = drop width body;
            parts = sym (take-append-drop width body);
            fits = omega (arith, length-take width body, long);
            bad = bad;
            rule_says = says;
            left = ap (λ (x : Broken). x.left) (sym same);
            kind = ap (λ (x : Broken). x.kind) (sym same);
          }))
