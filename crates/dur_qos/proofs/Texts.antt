-- The reading of a text by its lines.
use Rattle.std.proofs.Common.{◌≡◌, ℕ, ◌+◌, ◌<◌, ◌≤◌, List, [], ◌∷◌, ◌++◌, length, refl, sym, ap, ◌∙◌, append_assoc, append-nil, length-append, arith, Bool, true, false, cond, Option, Some, None, Result, inl, inr}
use Rattle.std.specs.Prelude.{◌==◌, nat_le}
use Rattle.std.specs.List.{flat_map}
use Rattle.std.proofs.lemmas.List.Concat.{flat_map-cons}
use Rattle.dur_qos.specs.declared.fault.PlanKind.{PlanKind}
use Rattle.dur_qos.specs.declared.fault.PlanFault.{PlanFault}
use Rattle.dur_qos.specs.declared.fault.PlanKind.TheVariants.{Word}
use Rattle.dur_qos.specs.declared.plan.Plan.{Plan}
use Rattle.dur_qos.specs.Reading.{Reading, Next, octet, after, taken, is_done, start, stops, ends_line, whole_line}
use Rattle.dur_qos.specs.Text.{line_text, HasNoFeed, GoesOn, Lines, PlanText, BreaksAt, Unfinished}
use Rattle.std.proofs.lemmas.Bool.{lt-leb, le-leb}
use Rattle.dur_qos.proofs.Runs.{done_stays, done_takes, faulty_done, step_after, step_taken, taken_append, open_takes_all}

-- at the beginning of a line
abbrev at : Option Plan → ℕ → Reading
at plan line = record { plan = plan; part = []; line = line; ended = false; fault = None }

kept : (r : Reading) (b : ℕ) → (b == 10) ≡ false → length r.part < 512 → octet r b ≡ record r { part = r.part ++ b ∷ [] }
unfolding octet
kept r b other short =
    ap (λ (d : Bool). cond d (ends_line r (whole_line r.plan r.part)) (cond (nat_le 512 (length r.part)) (stops r Word) (record r { part = r.part ++ b ∷ [] }))) other
    ∙ ap (λ (d : Bool). cond d (stops r Word) (record r { part = r.part ++ b ∷ [] })) (lt-leb _ _ short)

too_long : (r : Reading) (b : ℕ) → (b == 10) ≡ false → 512 ≤ length r.part → octet r b ≡ stops r Word
unfolding octet
too_long r b other long =
    ap (λ (d : Bool). cond d (ends_line r (whole_line r.plan r.part)) (cond (nat_le 512 (length r.part)) (stops r Word) (record r { part = r.part ++ b ∷ [] }))) other
    ∙ ap (λ (d : Bool). cond d (stops r Word) (record r { part = r.part ++ b ∷ [] })) (le-leb _ _ long)

fed : (r : Reading) → octet r 10 ≡ ends_line r (whole_line r.plan r.part)
unfolding octet
fed r = refl

part_after : (r : Reading) (l rest : List ℕ) → HasNoFeed l → length r.part + length l ≤ 512 → r.ended ≡ false → r.fault ≡ None → after r (l ++ rest) ≡ after (record r { part = r.part ++ l }) rest
part_after r [] rest none short e f = ap (λ (t : List ℕ). after (record r { part = t }) rest) (sym (append-nil r.part))
part_after r (b ∷ l) rest none short e f =
    step_after r b (l ++ rest) e f ∙ ap (λ (x : Reading). after x (l ++ rest)) (kept r b none.0 (omega arith))
    ∙ part_after (record r { part = r.part ++ b ∷ [] }) l rest none.1 (omega (arith, length-append r.part (b ∷ []))) e f
    ∙ ap (λ (t : List ℕ). after (record r { part = t }) rest) (append_assoc r.part (b ∷ []) l)

line_after : (p : Option Plan) (k : ℕ) (l rest : List ℕ) → HasNoFeed l → length l ≤ 512 → after (at p k) (line_text l ++ rest) ≡ after (ends_line (record (at p k) { part = l }) (whole_line p l)) rest
line_after p k l rest none short =
    ap (after (at p k)) (append_assoc l (10 ∷ []) rest) ∙ part_after (at p k) l (10 ∷ rest) none (omega arith) refl refl
    ∙ step_after (record (at p k) { part = l }) 10 rest refl refl ∙ ap (λ (x : Reading). after x rest) (fed (record (at p k) { part = l }))

lines_after : (ls : List (List ℕ)) (p q : Option Plan) (k : ℕ) (rest : List ℕ) → GoesOn p ls q → after (at p k) (flat_map line_text ls ++ rest) ≡ after (at q (k + length ls)) rest
lines_after [] p q k rest goes = ap (λ (x : Option Plan). after (at x k) rest) goes ∙ ap (λ (n : ℕ). after (at q n) rest) (omega arith)
lines_after (l ∷ ls) p q k rest goes =
    ap (λ (t : List ℕ). after (at p k) (t ++ rest)) (flat_map-cons line_text l ls) ∙ ap (after (at p k)) (append_assoc (line_text l) (flat_map line_text ls) rest)
    ∙ line_after p k l (flat_map line_text ls ++ rest) goes.0 goes.1
    ∙ ap (λ (n : Result Next PlanKind). after (ends_line (record (at p k) { part = l }) n) (flat_map line_text ls ++ rest)) goes.3
    ∙ lines_after ls (Some goes.2) q (k + 1) rest goes.4
    ∙ ap (λ (n : ℕ). after (at q n) rest) (omega arith)

front_after : (bytes : List ℕ) (count : ℕ) (before : Option Plan) (rest : List ℕ) → Lines bytes count before rest → after start bytes ≡ after (at before (count + 1)) rest
front_after bytes count before rest lines =
    ap (after start) lines.parts ∙ lines_after lines.lines None before 1 rest lines.goes ∙ ap (λ (n : ℕ). after (at before n) rest) (omega (arith, lines.count_is))

-- the text of a plan is read
pub text_read : (bytes : List ℕ) (plan : Plan) (n : ℕ) (t : PlanText bytes plan n) → after start bytes ≡ record { plan = Some plan; part = []; line = t.count + 1 + 1; ended = true; fault = None }
text_read bytes plan n t =
    let end : Reading = record { plan = Some plan; part = []; line = t.count + 1 + 1; ended = true; fault = None } in
    front_after bytes t.count t.before (line_text t.last ++ t.more) t.lines ∙ line_after t.before (t.count + 1) t.last t.more t.feed t.short
    ∙ ap (λ (x : Result Next PlanKind). after (ends_line (record (at t.before (t.count + 1)) { part = t.last }) x) t.more) t.says
    ∙ done_stays end t.more refl

as_parts : (f : PlanFault) (line : ℕ) (kind : PlanKind) → f.line ≡ line → f.kind ≡ kind → f ≡ record { line = line; kind = kind }
as_parts f line kind p q =
    ap (λ (n : ℕ). let g : PlanFault = record { line = n; kind = f.kind } in g) p ∙ ap (λ (k : PlanKind). let g : PlanFault = record { line = line; kind = k } in g) q

-- a break is told
told : (r : Reading) (more : List ℕ) (kind : PlanKind) (fault : PlanFault) → fault ≡ record { line = r.line; kind = kind } → (after (stops r kind) more).fault ≡ Some fault
told r more kind fault is =
    ap (λ (x : Reading). x.fault) (done_stays (stops r kind) more (faulty_done (stops r kind) (record { line = r.line; kind = kind }) refl)) ∙ ap (λ (f : PlanFault). Some f) (sym is)

pub break_told : (bytes : List ℕ) (fault : PlanFault) → BreaksAt bytes fault → (after start bytes).fault ≡ Some fault
break_told bytes fault t =
    let from : after start bytes ≡ after (at t.before (t.count + 1)) (t.bad ++ t.more) = front_after bytes t.count t.before (t.bad ++ t.more) t.lines in
    elim t.breaks [
      | inl w ↦
          ap (λ (x : Reading). x.fault)
          (from ∙ ap (λ (l : List ℕ). after (at t.before (t.count + 1)) (l ++ t.more)) w.1 ∙ line_after t.before (t.count + 1) w.0 t.more w.2 w.3
          ∙ ap (λ (x : Result Next PlanKind). after (ends_line (record (at t.before (t.count + 1)) { part = w.0 }) x) t.more) w.4)
          ∙ told (record (at t.before (t.count + 1)) { part = w.0 }) t.more fault.kind fault (as_parts fault (t.count + 1) fault.kind t.place refl)
      | inr w ↦
          let r : Reading = record (at t.before (t.count + 1)) { part = w.0 } in
          ap (λ (x : Reading). x.fault)
          (from ∙ ap (λ (l : List ℕ). after (at t.before (t.count + 1)) (l ++ t.more)) w.2 ∙ ap (after (at t.before (t.count + 1))) (append_assoc w.0 (w.1 ∷ []) t.more)
          ∙ part_after (at t.before (t.count + 1)) w.0 (w.1 ∷ t.more) w.3 (omega (arith, w.4)) refl refl ∙ step_after r w.1 t.more refl refl
          ∙ ap (λ (x : Reading). after x t.more) (too_long r w.1 w.5 (omega (arith, w.4))))
          ∙ told r t.more Word fault (as_parts fault (t.count + 1) Word t.place w.6)
    ]

-- where the input ends inside a line, the reading stands there
part_read : (bytes : List ℕ) (count : ℕ) (before : Option Plan) (part : List ℕ) → Lines bytes count before part → HasNoFeed part → length part ≤ 512
    → after start bytes ≡ record (at before (count + 1)) { part = part }
part_read bytes count before part lines none short =
    front_after bytes count before part lines ∙ ap (after (at before (count + 1))) (sym (append-nil part))
    ∙ part_after (at before (count + 1)) part [] none (omega (arith, short)) refl refl

pub unfinished_read : (bytes : List ℕ) (line : ℕ) → Unfinished bytes line
    → ((after start bytes).fault ≡ None) × ((after start bytes).ended ≡ false) × ((after start bytes).line ≡ line) × (taken start bytes ≡ length bytes)
unfinished_read bytes line u =
    let is = part_read bytes u.count u.before u.part u.lines u.feed u.short in
    (ap (λ (r : Reading). r.fault) is, ap (λ (r : Reading). r.ended) is, ap (λ (r : Reading). r.line) is ∙ sym u.place, open_takes_all start bytes (ap is_done is))

-- no octet after the line feed of `end` is taken
pub no_further : (bytes : List ℕ) (plan : Plan) (n : ℕ) → PlanText bytes plan n → taken start bytes ≡ n
no_further bytes plan n t =
    let front = flat_map line_text t.lines.lines ++ t.last in
    let lines : Lines front t.count t.before t.last = record { lines = t.lines.lines; parts = refl; goes = t.lines.goes; count_is = t.lines.count_is } in
    let r : Reading = record (at t.before (t.count + 1)) { part = t.last } in
    let stands : after start front ≡ r = part_read front t.count t.before t.last lines t.feed t.short in
    let all : bytes ≡ front ++ 10 ∷ t.more =
    t.lines.parts ∙ ap (λ (x : List ℕ). flat_map line_text t.lines.lines ++ x) (append_assoc t.last (10 ∷ []) t.more) ∙ sym (append_assoc (flat_map line_text t.lines.lines) t.last (10 ∷ t.more)) in
    let end : Reading = record { plan = Some plan; part = []; line = t.count + 1 + 1; ended = true; fault = None } in
    let ends : octet r 10 ≡ end = fed r ∙ ap (ends_line r) t.says in
    let tail : taken r (10 ∷ t.more) ≡ 1 + taken end t.more = step_taken r 10 t.more refl refl ∙ ap (λ (x : Reading). 1 + taken x t.more) ends in
    let front_taken : taken start front ≡ length front = open_takes_all start front (ap is_done stands) in
    let split : taken start bytes ≡ taken start front + taken (after start front) (10 ∷ t.more) = ap (taken start) all ∙ taken_append start front (10 ∷ t.more) in
    let back : taken (after start front) (10 ∷ t.more) ≡ 1 + taken end t.more = ap (λ (x : Reading). taken x (10 ∷ t.more)) stands ∙ tail in
    omega (arith, split, front_taken, back, done_takes end t.more refl, ap length all, length-append front (10 ∷ t.more), t.size)
