-- What clap reads of the words of a command whose arguments are options.
use Rattle.std.proofs.Common.{◌≡◌, ◌≢◌, ◌==◌, Bool, true, false, List, [], ◌∷◌, ◌++◌, Option, Some, None, refl, sym, ap, subst, ◌∙◌, inl, inr, map, append-nil, append_assoc}
use Rattle.std.specs.Prelude.{fold}
use Rattle.std.specs.Str.{bytes_eq}
use Rattle.std.specs.List.{list_any, AllByRecursion}
use Rattle.clap.specs.Lexer.{long_of, short_of}
use Rattle.clap.specs.Walk.{Held, Row, Step, Text, Waiting, Walk, idle, option, next, has_row, settled_rows, plain_word, long_or_other, word_met, walked, used}
use Rattle.clap.specs.Faults.{use_fault, settle_fault, flag_word_fault, word_fault, walk_fault}
use Rattle.clap.specs.declared.error.kind.ErrorKind.TheVariants as kind
use Rattle.durability.specs.Options.{Given, dashed, Spells, IsPlain}
use Rattle.durability.proofs.Spelling.{eq_not, spelled_apart, spelled_joined, long_apart, long_joined, long_plain, short_plain, not_dashes, not_nil}
use Rattle.durability.proofs.Rules.{option_rule, rules, leaf, knows, by_id, row, used_new, use_new, use_old, use_none, met_long, known_value, known_none, fault_long, flag_value, flag_none, flag_unknown, held, plain_known, short_case, or_none, or_both, st, turn_parts, turn_joins, walked_to, step_next, step_stray}

-- ---- options given so far

abbrev pub rows_of : List Given → List Row
rows_of given = map (λ o. row o.name o.value) given

-- each option is new after those seen
abbrev pub Follows : List Given → List Given → Type 0
Follows seen [] = Unit {0}
Follows seen (o ∷ more) = (has_row o.name (rows_of seen) ≡ false) × Follows (seen ++ o ∷ []) more

abbrev pub Known : List Text → List Given → Type 0
Known names given = AllByRecursion (λ o. knows names o.name ≡ true) given

-- the option whose value was read last
abbrev pub list_of : Option Given → List Given
list_of None = []
list_of (Some o) = o ∷ []

abbrev pub pending_of : Option Given → Option (Text × List Text)
pending_of None = None
pending_of (Some o) = Some (o.name, o.value ∷ [])

rows_more : (seen : List Given) (o : Given) → rows_of (seen ++ o ∷ []) ≡ rows_of seen ++ row o.name o.value ∷ []
rows_more [] o = refl
rows_more (x ∷ seen) o = ap (λ (t : List Row). row x.name x.value ∷ t) (rows_more seen o)

-- what settling the last option makes
pub record Settles (names : List Text) (before : List Given) (pend : Option Given) : Type 0 where
  pub rows : settled_rows (rules names) (pending_of pend) (rows_of before) ≡ rows_of (before ++ list_of pend)
  pub fresh : Follows before (list_of pend)

pub settles : (names : List Text) (before : List Given) (pend : Option Given) → Known names (list_of pend) → settle_fault (rules names) false (held (rows_of before) (pending_of pend)) ≡ [] → Settles names before pend
settles names before None known ok = record { rows = ap rows_of (sym (append-nil before)); fresh = tt }
settles names before (Some o) known ok = go (has_row o.name (rows_of before)) refl where
  used_up : use_fault false (option_rule o.name) (o.value ∷ []) (rows_of before) ≡ []
  used_up = rw (by_id names o.name known.0) at ok

  go : (b : Bool) → has_row o.name (rows_of before) ≡ b → Settles names before (Some o)
  go true e = let no = sym (use_old o.name o.value (rows_of before) e) ∙ used_up in absurd cc
  go false e = record { rows = rw (by_id names o.name known.0) (used_new o.name o.value (rows_of before) e ∙ sym (rows_more before o)); fresh = (e, tt) }

pub settles_back : (names : List Text) (before : List Given) (pend : Option Given) → Known names (list_of pend) → Follows before (list_of pend) → settle_fault (rules names) false (held (rows_of before) (pending_of pend)) ≡ []
settles_back names before None known fresh = refl
settles_back names before (Some o) known fresh = rw (by_id names o.name known.0) (use_new o.name o.value (rows_of before) fresh.0)

-- options after the last one
follows_join : (before : List Given) (pend : Option Given) (more : List Given) → Follows before (list_of pend) → Follows (before ++ list_of pend) more → Follows before (list_of pend ++ more)
follows_join before None more fresh rest = subst (λ (l : List Given). Follows l more) (append-nil before) rest
follows_join before (Some o) more fresh rest = (fresh.0, rest)

follows_split : (before : List Given) (pend : Option Given) (more : List Given) → Follows before (list_of pend ++ more) → Follows before (list_of pend) × Follows (before ++ list_of pend) more
follows_split before None more h = (tt, subst (λ (l : List Given). Follows l more) (sym (append-nil before)) h)
follows_split before (Some o) more h = ((h.0, tt), h.1)

-- ---- what is read

abbrev pub end_of : List Text → Walk → List Text → Held
end_of names w ws = (fold (walked (rules names) []) w ws).held

abbrev pub settled_end : List Text → Walk → List Text → List Row
settled_end names w ws = settled_rows (rules names) (end_of names w ws).pending (end_of names w ws).rows

-- no word is `--`
abbrev pub NoDashes : List Text → Type 0
NoDashes ws = AllByRecursion (λ w. bytes_eq w (45 ∷ 45 ∷ []) ≡ false) ws

pub record IsRead (names : List Text) (before : List Given) (pend : Option Given) (ws : List Text) (w : Walk) : Type 0 where
  pub given : List Given
  pub spells : Spells ws given
  pub known : Known names given
  pub follows : Follows before (list_of pend ++ given)
  pub rows : settled_end names w ws ≡ rows_of (before ++ (list_of pend ++ given))

abbrev pub Sound : Text → List Text → List Text → Type 0
Sound name names ws = (before : List Given) (pend : Option Given) → Known names (list_of pend) → NoDashes ws → walk_fault (leaf name names) [] (st (rows_of before) (pending_of pend) idle) ws ≡ []
    → settle_fault (rules names) false (end_of names (st (rows_of before) (pending_of pend) idle) ws) ≡ [] → IsRead names before pend ws (st (rows_of before) (pending_of pend) idle)

sound_nil : (name : Text) (names : List Text) → Sound name names []
sound_nil name names before pend known plain ok last =
    let s = settles names before pend known last in
    record {
      given = [];
      spells = refl;
      known = tt;
      follows = subst (λ (l : List Given). Follows before l) (sym (append-nil (list_of pend))) s.fresh;
      rows = s.rows ∙ ap (λ (l : List Given). rows_of (before ++ l)) (sym (append-nil (list_of pend)));
    }

-- ---- one word

abbrev pub mid : List Given → Option Given → List Given
mid before pend = before ++ list_of pend

abbrev pub here : List Given → Option Given → Held
here before pend = held (rows_of before) (pending_of pend)

-- `--name=value`
met_joined : (names : List Text) (before : List Given) (pend : Option Given) (w n v : Text) → bytes_eq w (45 ∷ 45 ∷ []) ≡ false → long_of w ≡ Some (n, Some v) → knows names n ≡ true → Settles names before pend
    → has_row n (rows_of (mid before pend)) ≡ false → word_met (rules names) [] false idle 1 w (here before pend) ≡ (held (rows_of (mid before pend ++ (record { name = n; value = v }) ∷ [])) None, next idle)
met_joined names before pend w n v e long k s fresh =
    let rows : used (option_rule n) (v ∷ []) (settled_rows (rules names) (pending_of pend) (rows_of before)) ≡ rows_of (mid before pend ++ (record { name = n; value = v }) ∷ []) =
    ap (λ (rs : List Row). used (option_rule n) (v ∷ []) rs) s.rows ∙ used_new n v (rows_of (mid before pend)) fresh ∙ sym (rows_more (mid before pend) (record { name = n; value = v })) in
    met_long (rules names) idle w (here before pend) e
    ∙ ap (λ (o : Option (Text × Option Text)). long_or_other (rules names) idle w o (here before pend)) long
    ∙ known_value names n v idle w (here before pend) k
    ∙ ap (λ (rs : List Row). let m : Held × Step = (held rs None, next idle) in m) rows

-- `--name`
met_apart : (names : List Text) (before : List Given) (pend : Option Given) (w n : Text) → bytes_eq w (45 ∷ 45 ∷ []) ≡ false → long_of w ≡ Some (n, None) → knows names n ≡ true → Settles names before pend
    → word_met (rules names) [] false idle 1 w (here before pend) ≡ (held (rows_of (mid before pend)) (Some (n, [])), next (option n))
met_apart names before pend w n e long k s =
    met_long (rules names) idle w (here before pend) e
    ∙ ap (λ (o : Option (Text × Option Text)). long_or_other (rules names) idle w o (here before pend)) long
    ∙ known_none names n idle w (here before pend) k
    ∙ ap (λ (rs : List Row). let m : Held × Step = (held rs (Some (n, [])), next (option n)) in m) s.rows

-- a word that is no flag
met_plain : (names : List Text) (wt : Waiting) (w : Text) (rs : List Row) (p : Option (Text × List Text)) → bytes_eq w (45 ∷ 45 ∷ []) ≡ false → long_of w ≡ None → flag_word_fault (rules names) false None w (held rs p) ≡ []
    → word_met (rules names) [] false wt 1 w (held rs p) ≡ plain_word (rules names) wt w (held rs p)
met_plain names wt w rs p e long ok =
    met_long (rules names) wt w (held rs p) e ∙ ap (λ (o : Option (Text × Option Text)). long_or_other (rules names) wt w o (held rs p)) long ∙ go (short_of w) refl where
      go : (o : Option Text) → short_of w ≡ o → long_or_other (rules names) wt w None (held rs p) ≡ plain_word (rules names) wt w (held rs p)
      go None is = rw is refl
      go (Some flags) is = rw is (short_case names wt w flags rs p (rw is at ok))

-- ---- what passes is read

fault_at : (name : Text) (names : List Text) (wt : Waiting) (w : Text) (h : Held) (o : Option (Text × Option Text)) → bytes_eq w (45 ∷ 45 ∷ []) ≡ false → long_of w ≡ o → word_fault (leaf name names) [] false wt w h ≡ []
    → flag_word_fault (rules names) false o w h ≡ []
fault_at name names wt w h o e long ok = sym (ap (λ (x : Option (Text × Option Text)). flag_word_fault (rules names) false x w h) long) ∙ sym (fault_long name names wt w h e) ∙ ok

known_in : (names : List Text) (n w : Text) (o : Option Text) (h : Held) → flag_word_fault (rules names) false (Some (n, o)) w h ≡ [] → knows names n ≡ true
known_in names n w o h ok = go (knows names n) refl where
  go : (b : Bool) → knows names n ≡ b → b ≡ true
  go true k = refl
  go false k = let no = sym (flag_unknown names n w o h k) ∙ ok in absurd cc

fresh_in : (n v : Text) (rs : List Row) → use_fault false (option_rule n) (v ∷ []) rs ≡ [] → has_row n rs ≡ false
fresh_in n v rs ok = go (has_row n rs) refl where
  go : (b : Bool) → has_row n rs ≡ b → b ≡ false
  go true e = let no = sym (use_old n v rs e) ∙ ok in absurd cc
  go false e = refl

joined_step : (name : Text) (names : List Text) (w : Text) (rest : List Text) (n v : Text) → long_of w ≡ Some (n, Some v) → Sound name names rest → (before : List Given) (pend : Option Given) → Known names (list_of pend) → NoDashes (w ∷ rest)
    → walk_fault (leaf name names) [] (st (rows_of before) (pending_of pend) idle) (w ∷ rest) ≡ [] → settle_fault (rules names) false (end_of names (st (rows_of before) (pending_of pend) idle) (w ∷ rest)) ≡ []
    → IsRead names before pend (w ∷ rest) (st (rows_of before) (pending_of pend) idle)
joined_step name names w rest n v long later before pend known plain ok last =
    let parts = turn_parts name names (rows_of before) (pending_of pend) idle w rest ok in
    let f = fault_at name names idle w (here before pend) (Some (n, Some v)) plain.0 long parts.0 in
    let k : knows names n ≡ true = known_in names n w (Some v) (here before pend) f in
    let g = or_none _ _ (sym (flag_value names n v w (here before pend) k) ∙ f) in
    let s : Settles names before pend = settles names before pend known g.0 in
    let fresh : has_row n (rows_of (mid before pend)) ≡ false = fresh_in n v (rows_of (mid before pend)) (subst (λ (rs : List Row). use_fault false (option_rule n) (v ∷ []) rs ≡ []) s.rows g.1) in
    let o : Given = record { name = n; value = v } in
    let met = met_joined names before pend w n v plain.0 long k s fresh in
    let walk' : walked (rules names) [] (st (rows_of before) (pending_of pend) idle) w ≡ st (rows_of (mid before pend ++ o ∷ [])) None idle = walked_to names (rows_of before) (rows_of (mid before pend ++ o ∷ [])) (pending_of pend) None idle idle w met in
    let r : IsRead names (mid before pend ++ o ∷ []) None rest (st (rows_of (mid before pend ++ o ∷ [])) None idle) =
    later (mid before pend ++ o ∷ []) None tt plain.1 (subst (λ (x : Walk). walk_fault (leaf name names) [] x rest ≡ []) walk' parts.2) (subst (λ (x : Walk). settle_fault (rules names) false (end_of names x rest) ≡ []) walk' last) in
    record {
      given = o ∷ r.given;
      spells = (rest, inr (ap (λ (x : Text). x ∷ rest) (spelled_joined w n v long)), r.spells);
      known = (k, r.known);
      follows = follows_join before pend (o ∷ r.given) s.fresh (fresh, r.follows);
      rows = ap (λ (x : Walk). settled_end names x rest) walk' ∙ r.rows ∙ ap rows_of (append_assoc (mid before pend) (o ∷ []) r.given ∙ append_assoc before (list_of pend) (o ∷ r.given));
    }

apart_end : (names : List Text) (n : Text) (rs : List Row) → knows names n ≡ true → settle_fault (rules names) false (held rs (Some (n, []))) ≡ [] → ⊥
apart_end names n rs k ok = let no : kind.InvalidValue ∷ [] ≡ [] = sym (rw (by_id names n k) (use_none n rs)) ∙ ok in absurd cc

-- behind `--name` stands a value
value_plain : (names : List Text) (n w : Text) (rs : List Row) → knows names n ≡ true → (o : Option (Text × Option Text)) → flag_word_fault (rules names) false o w (held rs (Some (n, []))) ≡ [] → o ≡ None
value_plain names n w rs k None ok = refl
value_plain names n w rs k (Some (m, None)) ok =
    let j = known_in names m w None (held rs (Some (n, []))) ok in absurd (apart_end names n rs k (sym (flag_none names m w (held rs (Some (n, []))) j) ∙ ok))
value_plain names n w rs k (Some (m, Some v)) ok =
    let j = known_in names m w (Some v) (held rs (Some (n, []))) ok in absurd (apart_end names n rs k (or_none _ _ (sym (flag_value names m v w (held rs (Some (n, []))) j) ∙ ok)).0)

apart_step : (name : Text) (names : List Text) (w : Text) (rest : List Text) (n : Text) → long_of w ≡ Some (n, None) → ((x : Text) (xs : List Text) → rest ≡ x ∷ xs → Sound name names xs) → (before : List Given) (pend : Option Given) → Known names (list_of pend) → NoDashes (w ∷ rest)
    → walk_fault (leaf name names) [] (st (rows_of before) (pending_of pend) idle) (w ∷ rest) ≡ [] → settle_fault (rules names) false (end_of names (st (rows_of before) (pending_of pend) idle) (w ∷ rest)) ≡ []
    → IsRead names before pend (w ∷ rest) (st (rows_of before) (pending_of pend) idle)
apart_step name names w [] n long later before pend known plain ok last =
    let parts = turn_parts name names (rows_of before) (pending_of pend) idle w [] ok in
    let f = fault_at name names idle w (here before pend) (Some (n, None)) plain.0 long parts.0 in
    let k : knows names n ≡ true = known_in names n w None (here before pend) f in
    let s : Settles names before pend = settles names before pend known (sym (flag_none names n w (here before pend) k) ∙ f) in
    let walk' : walked (rules names) [] (st (rows_of before) (pending_of pend) idle) w ≡ st (rows_of (mid before pend)) (Some (n, [])) (option n) =
    walked_to names (rows_of before) (rows_of (mid before pend)) (pending_of pend) (Some (n, [])) idle (option n) w (met_apart names before pend w n plain.0 long k s) in
    absurd (apart_end names n (rows_of (mid before pend)) k (subst (λ (x : Walk). settle_fault (rules names) false x.held ≡ []) walk' last))
apart_step name names w (x ∷ rest) n long later before pend known plain ok last =
    let parts = turn_parts name names (rows_of before) (pending_of pend) idle w (x ∷ rest) ok in
    let f = fault_at name names idle w (here before pend) (Some (n, None)) plain.0 long parts.0 in
    let k : knows names n ≡ true = known_in names n w None (here before pend) f in
    let s : Settles names before pend = settles names before pend known (sym (flag_none names n w (here before pend) k) ∙ f) in
    let walk' : walked (rules names) [] (st (rows_of before) (pending_of pend) idle) w ≡ st (rows_of (mid before pend)) (Some (n, [])) (option n) =
    walked_to names (rows_of before) (rows_of (mid before pend)) (pending_of pend) (Some (n, [])) idle (option n) w (met_apart names before pend w n plain.0 long k s) in
    let parts2 = turn_parts name names (rows_of (mid before pend)) (Some (n, [])) (option n) x rest (subst (λ (y : Walk). walk_fault (leaf name names) [] y (x ∷ rest) ≡ []) walk' parts.2) in
    let g = fault_at name names (option n) x (held (rows_of (mid before pend)) (Some (n, []))) (long_of x) plain.1.0 refl parts2.0 in
    let none : long_of x ≡ None = value_plain names n x (rows_of (mid before pend)) k (long_of x) g in
    let g' : flag_word_fault (rules names) false None x (held (rows_of (mid before pend)) (Some (n, []))) ≡ [] = fault_at name names (option n) x (held (rows_of (mid before pend)) (Some (n, []))) None plain.1.0 none parts2.0 in
    let o : Given = record { name = n; value = x } in
    let walk2 : walked (rules names) [] (st (rows_of (mid before pend)) (Some (n, [])) (option n)) x ≡ st (rows_of (mid before pend)) (Some (n, x ∷ [])) idle =
    walked_to names (rows_of (mid before pend)) (rows_of (mid before pend)) (Some (n, [])) (Some (n, x ∷ [])) (option n) idle x
    (met_plain names (option n) x (rows_of (mid before pend)) (Some (n, [])) plain.1.0 none g' ∙ plain_known names n x (rows_of (mid before pend)) k) in
    let r : IsRead names (mid before pend) (Some o) rest (st (rows_of (mid before pend)) (Some (n, x ∷ [])) idle) =
    later x rest refl (mid before pend) (Some o) (k, tt) plain.1.1 (subst (λ (y : Walk). walk_fault (leaf name names) [] y rest ≡ []) walk2 parts2.2)
    (subst (λ (y : Walk). settle_fault (rules names) false (end_of names y rest) ≡ []) walk2 (subst (λ (y : Walk). settle_fault (rules names) false (end_of names y (x ∷ rest)) ≡ []) walk' last)) in
    record {
      given = o ∷ r.given;
      spells = (rest, inl (ap (λ (y : Text). y ∷ x ∷ rest) (spelled_apart w n long)), r.spells);
      known = (k, r.known);
      follows = follows_join before pend (o ∷ r.given) s.fresh r.follows;
      rows = ap (λ (y : Walk). settled_end names y (x ∷ rest)) walk' ∙ ap (λ (y : Walk). settled_end names y rest) walk2 ∙ r.rows ∙ ap rows_of (append_assoc before (list_of pend) (o ∷ r.given));
    }

stray_step : (name : Text) (names : List Text) (w : Text) (rest : List Text) → long_of w ≡ None → (before : List Given) (pend : Option Given) → NoDashes (w ∷ rest) → walk_fault (leaf name names) [] (st (rows_of before) (pending_of pend) idle) (w ∷ rest) ≡ [] → ⊥
stray_step name names w rest long before pend plain ok =
    let parts = turn_parts name names (rows_of before) (pending_of pend) idle w rest ok in
    let f = fault_at name names idle w (here before pend) None plain.0 long parts.0 in
    let met = met_plain names idle w (rows_of before) (pending_of pend) plain.0 long f in
    let no : kind.UnknownArgument ∷ [] ≡ [] = sym (step_stray name names (here before pend) (here before pend) idle w met) ∙ parts.1 in
    absurd cc

sound_step : (name : Text) (names : List Text) (w : Text) (rest : List Text) → Sound name names rest → ((x : Text) (xs : List Text) → rest ≡ x ∷ xs → Sound name names xs) → Sound name names (w ∷ rest)
sound_step name names w rest later later2 before pend known plain ok last = go (long_of w) refl where
  go : (o : Option (Text × Option Text)) → long_of w ≡ o → IsRead names before pend (w ∷ rest) (st (rows_of before) (pending_of pend) idle)
  go None long = absurd (stray_step name names w rest long before pend plain ok)
  go (Some (n, None)) long = apart_step name names w rest n long later2 before pend known plain ok last
  go (Some (n, Some v)) long = joined_step name names w rest n v long later before pend known plain ok last

no_more : (name : Text) (names : List Text) (x : Text) (xs : List Text) → [] ≡ x ∷ xs → Sound name names xs
no_more name names x xs is = absurd cc

tail_of : (a x : Text) (l xs : List Text) → a ∷ l ≡ x ∷ xs → l ≡ xs
tail_of a x l xs is = cc

pub sound : (name : Text) (names ws : List Text) → Sound name names ws
sound name names [] = sound_nil name names
sound name names (w ∷ []) = sound_step name names w [] (sound_nil name names) (no_more name names)
sound name names (w ∷ x ∷ rest) = sound_step name names w (x ∷ rest) (sound name names (x ∷ rest)) (λ y ys is. subst (λ (l : List Text). Sound name names l) (tail_of x y rest ys is) (sound name names rest))

-- ---- what is read passes

abbrev pub Plain : List Given → Type 0
Plain given = AllByRecursion (λ o. IsPlain o.value) given

-- a name of an option is some text without `=`
abbrev pub NamesOk : List Text → Type 0
NamesOk names = (n : Text) → knows names n ≡ true → (n ≢ []) × (list_any (λ x. x == 61) n ≡ false)

pub record IsPassed (name : Text) (names : List Text) (before : List Given) (pend : Option Given) (given : List Given) (ws : List Text) : Type 0 where
  pub walk : walk_fault (leaf name names) [] (st (rows_of before) (pending_of pend) idle) ws ≡ []
  pub last : settle_fault (rules names) false (end_of names (st (rows_of before) (pending_of pend) idle) ws) ≡ []
  pub rows : settled_end names (st (rows_of before) (pending_of pend) idle) ws ≡ rows_of (before ++ (list_of pend ++ given))

abbrev pub Complete : Text → List Text → List Given → Type 0
Complete name names given = (ws : List Text) (before : List Given) (pend : Option Given) → Known names (list_of pend) → Spells ws given → Known names given → Plain given → Follows before (list_of pend ++ given) → IsPassed name names before pend given ws

walk_nil : (name : Text) (names : List Text) (w : Walk) → walk_fault (leaf name names) [] w [] ≡ []
unfolding walk_fault
walk_nil name names w = refl

settled_by : (names : List Text) (before : List Given) (pend : Option Given) → Known names (list_of pend) → Follows before (list_of pend) → Settles names before pend
settled_by names before pend known fresh = settles names before pend known (settles_back names before pend known fresh)

complete_nil : (name : Text) (names : List Text) → Complete name names []
complete_nil name names ws before pend kp spells known plain follows =
    let fresh : Follows before (list_of pend) = subst (λ (l : List Given). Follows before l) (append-nil (list_of pend)) follows in
    let none : IsPassed name names before pend [] [] = record {
      walk = walk_nil name names (st (rows_of before) (pending_of pend) idle);
      last = settles_back names before pend kp fresh;
      rows = (settled_by names before pend kp fresh).rows ∙ ap (λ (l : List Given). rows_of (before ++ l)) (sym (append-nil (list_of pend)));
    } in
    subst (λ (l : List Text). IsPassed name names before pend [] l) (sym spells) none

pub dashed_some : (r : Text) → r ≢ [] → bytes_eq (dashed r) (45 ∷ 45 ∷ []) ≡ false
dashed_some r some = eq_not (dashed r) (45 ∷ 45 ∷ []) (λ is. let none : r ≡ [] = cc in some none)

joined_passes : (name : Text) (names : List Text) (ok : NamesOk names) (o : Given) (more : List Given) (rest : List Text) → Complete name names more → (before : List Given) (pend : Option Given) → Known names (list_of pend) → Spells rest more → Known names (o ∷ more) → Plain (o ∷ more)
    → Follows before (list_of pend ++ (o ∷ more)) → IsPassed name names before pend (o ∷ more) (dashed (o.name ++ 61 ∷ o.value) ∷ rest)
joined_passes name names ok o more rest later before pend kp spells known plain follows =
    let w : Text = dashed (o.name ++ 61 ∷ o.value) in
    let fs = follows_split before pend (o ∷ more) follows in
    let settled_ok = settles_back names before pend kp fs.0 in
    let s : Settles names before pend = settled_by names before pend kp fs.0 in
    let long : long_of w ≡ Some (o.name, Some o.value) = long_joined o.name o.value (ok o.name known.0).1 in
    let e : bytes_eq w (45 ∷ 45 ∷ []) ≡ false = dashed_some (o.name ++ 61 ∷ o.value) (not_nil o.name o.value) in
    let met = met_joined names before pend w o.name o.value e long known.0 s fs.1.0 in
    let passed : word_fault (leaf name names) [] false idle w (here before pend) ≡ [] =
    fault_long name names idle w (here before pend) e ∙ ap (λ (x : Option (Text × Option Text)). flag_word_fault (rules names) false x w (here before pend)) long
    ∙ flag_value names o.name o.value w (here before pend) known.0
    ∙ or_both _ _ settled_ok (subst (λ (rs : List Row). use_fault false (option_rule o.name) (o.value ∷ []) rs ≡ []) (sym s.rows) (use_new o.name o.value (rows_of (mid before pend)) fs.1.0)) in
    let walk' : walked (rules names) [] (st (rows_of before) (pending_of pend) idle) w ≡ st (rows_of (mid before pend ++ o ∷ [])) None idle = walked_to names (rows_of before) (rows_of (mid before pend ++ o ∷ [])) (pending_of pend) None idle idle w met in
    let r : IsPassed name names (mid before pend ++ o ∷ []) None more rest = later rest (mid before pend ++ o ∷ []) None tt spells known.1 plain.1 fs.1.1 in
    record {
      walk = turn_joins name names (rows_of before) (pending_of pend) idle w rest passed (step_next name names (rows_of before) (rows_of (mid before pend ++ o ∷ [])) (pending_of pend) None idle idle w met)
          (subst (λ (x : Walk). walk_fault (leaf name names) [] x rest ≡ []) (sym walk') r.walk);
      last = subst (λ (x : Walk). settle_fault (rules names) false (end_of names x rest) ≡ []) (sym walk') r.last;
      rows = ap (λ (x : Walk). settled_end names x rest) walk' ∙ r.rows ∙ ap rows_of (append_assoc (mid before pend) (o ∷ []) more ∙ append_assoc before (list_of pend) (o ∷ more));
    }

apart_passes : (name : Text) (names : List Text) (ok : NamesOk names) (o : Given) (more : List Given) (rest : List Text) → Complete name names more → (before : List Given) (pend : Option Given) → Known names (list_of pend) → Spells rest more → Known names (o ∷ more) → Plain (o ∷ more)
    → Follows before (list_of pend ++ (o ∷ more)) → IsPassed name names before pend (o ∷ more) (dashed o.name ∷ o.value ∷ rest)
apart_passes name names ok o more rest later before pend kp spells known plain follows =
    let w : Text = dashed o.name in
    let n : Text = o.name in
    let fs = follows_split before pend (o ∷ more) follows in
    let settled_ok = settles_back names before pend kp fs.0 in
    let s : Settles names before pend = settled_by names before pend kp fs.0 in
    let long : long_of w ≡ Some (n, None) = long_apart n (ok n known.0).0 (ok n known.0).1 in
    let e : bytes_eq w (45 ∷ 45 ∷ []) ≡ false = dashed_some n (ok n known.0).0 in
    let met = met_apart names before pend w n e long known.0 s in
    let passed : word_fault (leaf name names) [] false idle w (here before pend) ≡ [] =
    fault_long name names idle w (here before pend) e ∙ ap (λ (x : Option (Text × Option Text)). flag_word_fault (rules names) false x w (here before pend)) long ∙ flag_none names n w (here before pend) known.0 ∙ settled_ok in
    let walk' : walked (rules names) [] (st (rows_of before) (pending_of pend) idle) w ≡ st (rows_of (mid before pend)) (Some (n, [])) (option n) =
    walked_to names (rows_of before) (rows_of (mid before pend)) (pending_of pend) (Some (n, [])) idle (option n) w met in
    let h2 : Held = held (rows_of (mid before pend)) (Some (n, [])) in
    let e2 : bytes_eq o.value (45 ∷ 45 ∷ []) ≡ false = not_dashes o.value plain.0 in
    let flag2 : flag_word_fault (rules names) false None o.value h2 ≡ [] = rw (short_plain o.value plain.0) refl in
    let passed2 : word_fault (leaf name names) [] false (option n) o.value h2 ≡ [] =
    fault_long name names (option n) o.value h2 e2 ∙ ap (λ (x : Option (Text × Option Text)). flag_word_fault (rules names) false x o.value h2) (long_plain o.value plain.0) ∙ flag2 in
    let met2 : word_met (rules names) [] false (option n) 1 o.value h2 ≡ (held (rows_of (mid before pend)) (Some (n, o.value ∷ [])), next idle) =
    met_plain names (option n) o.value (rows_of (mid before pend)) (Some (n, [])) e2 (long_plain o.value plain.0) flag2 ∙ plain_known names n o.value (rows_of (mid before pend)) known.0 in
    let walk2 : walked (rules names) [] (st (rows_of (mid before pend)) (Some (n, [])) (option n)) o.value ≡ st (rows_of (mid before pend)) (Some (n, o.value ∷ [])) idle =
    walked_to names (rows_of (mid before pend)) (rows_of (mid before pend)) (Some (n, [])) (Some (n, o.value ∷ [])) (option n) idle o.value met2 in
    let r : IsPassed name names (mid before pend) (Some o) more rest = later rest (mid before pend) (Some o) (known.0, tt) spells known.1 plain.1 fs.1 in
    let behind : walk_fault (leaf name names) [] (st (rows_of (mid before pend)) (Some (n, [])) (option n)) (o.value ∷ rest) ≡ [] =
    turn_joins name names (rows_of (mid before pend)) (Some (n, [])) (option n) o.value rest passed2
    (step_next name names (rows_of (mid before pend)) (rows_of (mid before pend)) (Some (n, [])) (Some (n, o.value ∷ [])) (option n) idle o.value met2) (subst (λ (x : Walk). walk_fault (leaf name names) [] x rest ≡ []) (sym walk2) r.walk) in
    record {
      walk = turn_joins name names (rows_of before) (pending_of pend) idle w (o.value ∷ rest) passed (step_next name names (rows_of before) (rows_of (mid before pend)) (pending_of pend) (Some (n, [])) idle (option n) w met)
          (subst (λ (x : Walk). walk_fault (leaf name names) [] x (o.value ∷ rest) ≡ []) (sym walk') behind);
      last = subst (λ (x : Walk). settle_fault (rules names) false (end_of names x (o.value ∷ rest)) ≡ []) (sym walk') (subst (λ (x : Walk). settle_fault (rules names) false (end_of names x rest) ≡ []) (sym walk2) r.last);
      rows = ap (λ (y : Walk). settled_end names y (o.value ∷ rest)) walk' ∙ ap (λ (y : Walk). settled_end names y rest) walk2 ∙ r.rows ∙ ap rows_of (append_assoc before (list_of pend) (o ∷ more));
    }

pub complete : (name : Text) (names : List Text) → NamesOk names → (given : List Given) → Complete name names given
complete name names ok [] = complete_nil name names
complete name names ok (o ∷ more) = λ ws before pend kp spells known plain follows.
    let later : Complete name names more = complete name names ok more in
    elim spells.1 [
      | inl is ↦ subst (λ (l : List Text). IsPassed name names before pend (o ∷ more) l) (sym is) (apart_passes name names ok o more spells.0 later before pend kp spells.2 known plain follows)
      | inr is ↦ subst (λ (l : List Text). IsPassed name names before pend (o ∷ more) l) (sym is) (joined_passes name names ok o more spells.0 later before pend kp spells.2 known plain follows)
    ]
