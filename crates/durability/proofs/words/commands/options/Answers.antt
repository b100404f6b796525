use Rattle.std.proofs.Common.{◌∙◌, sym, ap, subst, ◌≡◌, [], ◌∷◌, map, true}
use Rattle.std.specs.Prelude.{string_bytes}
use Rattle.std.specs.Str.{bytes_eq}
use Rattle.std.proofs.lemmas.Result.{err_from_is_err_and}
use Rattle.clap.specs.Simple.{App, app_of, matches_of}
use Rattle.clap.specs.Kinds.{HasKind}
use Rattle.clap.specs.Faults.{fault_of, is_simple_and_free}
use Rattle.clap.proofs.WalkLemmas.{list_any-map}
use Rattle.durability.proofs.Lines.{dashes_refused, error_refused, has_options, simple_of}
use Rattle.durability.proofs.words.commands.options.Goals as goal

pub returns-then-has_dashes-clause-usage : goal.returns-then-has_dashes-clause-usage
returns-then-has_dashes-clause-usage c name names app simple ok is given o =
    dashes_refused names (map string_bytes c.args.words.now) given ok o (sym (list_any-map (λ w. bytes_eq w (45 ∷ 45 ∷ [])) string_bytes c.args.words.now) ∙ sym c.has_dashes.ensures ∙ c.if-has_dashes.true)

pub returns-in_err-matches-clause-usage : goal.returns-in_err-matches-clause-usage
returns-in_err-matches-clause-usage c name names app simple ok is given o =
    let p = err_from_is_err_and c.from_residual.result c.from_residual.ensures.1 in
    let e = c.in_err-matches.field-0.0 in
    let simple' : is_simple_and_free (app_of c.args.command) ≡ true = subst (λ (a : App). is_simple_and_free a ≡ true) (sym app) simple in
    let usage = sym p.1 ∙ is in
    error_refused name names (map string_bytes c.args.words.now) given e ok o (subst (λ (a : App). HasKind (fault_of a (map string_bytes c.args.words.now)) e) app (c.in_err-matches.ensures.kinds simple')) (sym p.2 ∙ cc)

pub returns-clause-ok : goal.returns-clause-ok
returns-clause-ok c name names app simple ok =
    let simple' : is_simple_and_free (app_of c.args.command) ≡ true = subst (λ (a : App). is_simple_and_free a ≡ true) (sym app) simple in
    has_options name names (map string_bytes c.args.words.now) c.in_ok-matches.matches ok
    (sym (list_any-map (λ w. bytes_eq w (45 ∷ 45 ∷ [])) string_bytes c.args.words.now) ∙ sym c.has_dashes.ensures ∙ c.if-has_dashes.false)
    (ap (λ (a : App). fault_of a (map string_bytes c.args.words.now)) (sym app) ∙ c.in_ok-matches.ensures.kinds simple')
    ((c.in_ok-matches.ensures.matches (simple_of (app_of c.args.command) simple')).0 ∙ ap (λ (a : App). matches_of a (map string_bytes c.args.words.now)) app)
