-- What the state of a reading says of the text.
use Rattle.std.proofs.Common.{◌≡◌, ℕ, get_or, ◌-◌, ◌<◌, ◌≤◌, List, [], ◌∷◌, ◌++◌, length, take, drop, refl, sym, ap, subst, ◌∙◌, append_assoc, append-nil, arith, true, false, Some, None, Result, Ok, Err, inl, inr, ◌⊎◌}
use Rattle.std.specs.Prelude.{IfOk, IfErr}
use Rattle.std.specs.List.{flat_map}
use Rattle.std.proofs.lemmas.List.{take_rest}
use Rattle.dur_qos.specs.declared.fault.PlanKind.{PlanKind}
use Rattle.dur_qos.specs.declared.fault.PlanKind.TheVariants.{Word, OutOfMemory}
use Rattle.dur_qos.specs.declared.fault.PlanFault.{PlanFault}
use Rattle.dur_qos.specs.declared.plan.Plan.{Plan}
use Rattle.dur_qos.specs.Reading.{Reading, RunsOut, start, after}
use Rattle.dur_qos.specs.Text.{PlanText, BreaksAt, Unfinished, IsFault}
use Rattle.dur_qos.proofs.Runs.{after_append, done_stays, faulty_done}
use Rattle.dur_qos.proofs.Texts.{text_read, break_told, unfinished_read}
use Rattle.dur_qos.proofs.Outcomes.{outcome}

-- a fault that was told is the first break
pub fault_breaks : (bytes : List ℕ) (e : PlanFault) → (after start bytes).fault ≡ Some e → BreaksAt bytes e
fault_breaks bytes e told = elim (outcome bytes) [
  | inl t ↦ let none : None ≡ Some e = sym (ap (λ (r : Reading). r.fault) (text_read bytes t.0 t.1 t.2)) ∙ told in absurd cc
  | inr o ↦ elim o [
    | inl b ↦ let both : Some b.0 ≡ Some e = sym (break_told bytes b.0 b.1) ∙ told in let same : b.0 ≡ e = cc in subst (BreaksAt bytes) same b.1
    | inr u ↦ let none : None ≡ Some e = sym (unfinished_read bytes u.0 u.1).0 ∙ told in absurd cc
  ]
]

-- it stays so, whatever follows
pub fault_stays : (bytes more : List ℕ) (e : PlanFault) → (after start bytes).fault ≡ Some e → (after start (bytes ++ more)).fault ≡ Some e
fault_stays bytes more e told =
    ap (λ (r : Reading). r.fault) (after_append start bytes more ∙ done_stays (after start bytes) more (faulty_done (after start bytes) e told)) ∙ told

-- a reading that has ended has the plan of the text
pub ended_plan : (bytes : List ℕ) (p : Plan) → (after start bytes).fault ≡ None → (after start bytes).ended ≡ true → (after start bytes).plan ≡ Some p → (n : ℕ) × PlanText bytes p n
ended_plan bytes p sound ended plan = elim (outcome bytes) [
  | inl t ↦
      let both : Some t.0 ≡ Some p = sym (ap (λ (r : Reading). r.plan) (text_read bytes t.0 t.1 t.2)) ∙ plan in
      let same : t.0 ≡ p = cc in
      (t.1, subst (λ (q : Plan). PlanText bytes q t.1) same t.2)
  | inr o ↦ elim o [
    | inl b ↦ let none : None ≡ Some b.0 = sym sound ∙ break_told bytes b.0 b.1 in absurd cc
    | inr u ↦ let no : false ≡ true = sym (unfinished_read bytes u.0 u.1).1 ∙ ended in absurd cc
  ]
]

-- one that has not ended stands in the line in which the input ends
pub open_unfinished : (bytes : List ℕ) → (after start bytes).fault ≡ None → (after start bytes).ended ≡ false → Unfinished bytes (after start bytes).line
open_unfinished bytes sound more = elim (outcome bytes) [
  | inl t ↦ let no : true ≡ false = sym (ap (λ (r : Reading). r.ended) (text_read bytes t.0 t.1 t.2)) ∙ more in absurd cc
  | inr o ↦ elim o [
    | inl b ↦ let none : None ≡ Some b.0 = sym sound ∙ break_told bytes b.0 b.1 in absurd cc
    | inr u ↦ subst (Unfinished bytes) (sym (unfinished_read bytes u.0 u.1).2) u.1
  ]
]

-- ---- plan and fault are one
pub one_plan : (bytes : List ℕ) (p q : Plan) (n m : ℕ) → PlanText bytes p n → PlanText bytes q m → p ≡ q
one_plan bytes p q n m a b =
    let both : Some p ≡ Some q = sym (ap (λ (r : Reading). r.plan) (text_read bytes p n a)) ∙ ap (λ (r : Reading). r.plan) (text_read bytes q m b) in
    cc

pub plan_or_fault : (bytes : List ℕ) (p : Plan) (n : ℕ) (e : PlanFault) → PlanText bytes p n → IsFault bytes e → ⊥
plan_or_fault bytes p n e t f = elim f [
  | inl b ↦ let none : None ≡ Some e = sym (ap (λ (r : Reading). r.fault) (text_read bytes p n t)) ∙ break_told bytes e b in absurd cc
  | inr u ↦ let no : true ≡ false = sym (ap (λ (r : Reading). r.ended) (text_read bytes p n t)) ∙ (unfinished_read bytes e.line u.0).1 in absurd cc
]

fault_of : (f : PlanFault) (line : ℕ) → f.line ≡ line → f.kind ≡ Word → f ≡ record { line = line; kind = Word }
fault_of f line p q =
    ap (λ (n : ℕ). let g : PlanFault = record { line = n; kind = f.kind } in g) p ∙ ap (λ (k : PlanKind). let g : PlanFault = record { line = line; kind = k } in g) q

pub one_fault : (bytes : List ℕ) (e f : PlanFault) → IsFault bytes e → IsFault bytes f → e ≡ f
one_fault bytes e f a b = elim a [
  | inl x ↦ elim b [
    | inl y ↦ let both : Some e ≡ Some f = sym (break_told bytes e x) ∙ break_told bytes f y in cc
    | inr v ↦ let none : None ≡ Some e = sym (unfinished_read bytes f.line v.0).0 ∙ break_told bytes e x in absurd cc
  ]
  | inr u ↦ elim b [
    | inl y ↦ let none : None ≡ Some f = sym (unfinished_read bytes e.line u.0).0 ∙ break_told bytes f y in absurd cc
    | inr v ↦
        let lines : e.line ≡ f.line = sym (unfinished_read bytes e.line u.0).2 ∙ (unfinished_read bytes f.line v.0).2 in
        fault_of e f.line lines u.1 ∙ sym (fault_of f f.line refl v.1)
  ]
]

-- ---- pieces
pub next_piece : {X : Type 0} (f : X → List ℕ) (seen piece all : List ℕ) (xs : List X) (x : X)
    → 1 ≤ length xs → x ≡ get_or xs 0 x → piece ≡ f x → seen ++ flat_map f xs ≡ all → (seen ++ piece) ++ flat_map f (take (length xs - 1) (drop 1 xs)) ≡ all
next_piece f seen piece all [] x some is p h = absurd (omega arith)
next_piece {X} f seen piece all (y ∷ ys) x some is p h =
    ap (λ (t : List X). (seen ++ piece) ++ flat_map f t) (take_rest (y ∷ ys) 1) ∙ append_assoc seen piece (flat_map f ys)
    ∙ ap (λ (t : List ℕ). seen ++ (t ++ flat_map f ys)) (p ∙ ap f is) ∙ h

pub no_more : {X : Type 0} (f : X → List ℕ) (seen all : List ℕ) (xs : List X) → length xs < 1 → seen ++ flat_map f xs ≡ all → seen ≡ all
no_more f seen all [] none h = sym (append-nil seen) ∙ h
no_more f seen all (x ∷ xs) none h = absurd (omega arith)

-- ---- what an answer says of the text
abbrev pub Says : List ℕ → Result Plan PlanFault → Type 0
Says bytes result = IfOk result (λ p. (n : ℕ) × PlanText bytes p n) × IfErr result (λ e. (e.kind ≡ OutOfMemory) ⊎ IsFault bytes e)

pub says_only : (bytes : List ℕ) (result : Result Plan PlanFault) → Says bytes result → IfOk result (λ p. (q : Plan) (n : ℕ) → PlanText bytes q n → p ≡ q)
says_only bytes (Ok p) says = λ q n t. one_plan bytes p q says.0.0 n says.0.1 t
says_only bytes (Err e) says = tt

pub says_read : (bytes : List ℕ) (result : Result Plan PlanFault) → Says bytes result → (q : Plan) (n : ℕ) → PlanText bytes q n → IfErr result (λ e. e.kind ≡ OutOfMemory)
says_read bytes (Ok p) says q n t = tt
says_read bytes (Err e) says q n t = elim says.1 [ inl memory ↦ memory | inr fault ↦ absurd (plan_or_fault bytes q n e t fault) ]

pub says_told : (bytes : List ℕ) (result : Result Plan PlanFault) → Says bytes result → (f : PlanFault) → IsFault bytes f → IfErr result (λ e. (e.kind ≡ OutOfMemory) ⊎ (e ≡ f))
says_told bytes (Ok p) says f h = tt
says_told bytes (Err e) says f h = elim says.1 [ inl memory ↦ inl memory | inr fault ↦ inr (one_fault bytes e f fault h) ]

pub says_sound : (bytes : List ℕ) (result : Result Plan PlanFault) → Says bytes result → (f : PlanFault) → IsFault bytes f → IfOk result (λ p. ⊥)
says_sound bytes (Ok p) says f h = plan_or_fault bytes p says.0.0 f says.0.1 h
says_sound bytes (Err e) says f h = tt

pub finish_says : (bytes : List ℕ) (r : Reading) (result : Result Plan PlanFault) → r ≡ after start bytes
    → IfOk result (λ p. (r.fault ≡ None) × (r.ended ≡ true) × (r.plan ≡ Some p))
    → IfErr result (λ e. (r.fault ≡ Some e) ⊎ ((r.fault ≡ None) × (r.ended ≡ false) × (e ≡ record { line = r.line; kind = Word })))
    → Says bytes result
finish_says bytes r (Ok p) is ok err =
    (ended_plan bytes p (ap (λ (x : Reading). x.fault) (sym is) ∙ ok.0) (ap (λ (x : Reading). x.ended) (sym is) ∙ ok.1) (ap (λ (x : Reading). x.plan) (sym is) ∙ ok.2), tt)
finish_says bytes r (Err e) is ok err = elim err [
  | inl told ↦ (tt, inr (inl (fault_breaks bytes e (ap (λ (x : Reading). x.fault) (sym is) ∙ told))))
  | inr u ↦
      let stands = open_unfinished bytes (ap (λ (x : Reading). x.fault) (sym is) ∙ u.0) (ap (λ (x : Reading). x.ended) (sym is) ∙ u.1) in
      let line : (after start bytes).line ≡ e.line = ap (λ (x : Reading). x.line) (sym is) ∙ sym (ap (λ (x : PlanFault). x.line) u.2) in
      (tt, inr (inr (subst (Unfinished bytes) line stands, ap (λ (x : PlanFault). x.kind) u.2)))
]

pub push_says : (bytes seen piece more : List ℕ) (r g : Reading) (e : PlanFault) → r ≡ after start seen → (seen ++ piece) ++ more ≡ bytes
    → (g.fault ≡ Some e) × (RunsOut r piece g ⊎ (g ≡ after r piece)) → Says bytes (Err e)
push_says bytes seen piece more r g e is all err = elim err.1 [
  | inl out ↦
      let memory : PlanFault = record { line = (after r out.0).line; kind = OutOfMemory } in
      let both : Some memory ≡ Some e = ap (λ (x : Reading). x.fault) (sym out.4) ∙ err.0 in
      let same : memory ≡ e = cc in
      (tt, inl (ap (λ (x : PlanFault). x.kind) (sym same)))
  | inr read ↦
      let whole : g ≡ after start (seen ++ piece) = read ∙ ap (λ (x : Reading). after x piece) is ∙ sym (after_append start seen piece) in
      let told : (after start (seen ++ piece)).fault ≡ Some e = ap (λ (x : Reading). x.fault) (sym whole) ∙ err.0 in
      let stays : (after start bytes).fault ≡ Some e = ap (λ (t : List ℕ). (after start t).fault) (sym all) ∙ fault_stays (seen ++ piece) more e told in
      (tt, inr (inl (fault_breaks bytes e stays)))
]
