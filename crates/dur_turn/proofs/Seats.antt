-- The seats where one of them changes what it knows, and where one is made or spent.
use Rattle.std.proofs.Common.{◌≡◌, ◌≢◌, ℕ, ◌≤◌, List, [], ◌∷◌, ◌++◌, length, set, sym, ap, ◌∙◌, subst, ⊎_elim, arith}
use Rattle.std.proofs.lemmas.List.{length-set}
use mathlib.Core.Option.{some, some-injective}
use lib.ListN.{get_elem?}
use Rattle.atomic_table.specs.Table.{State}
use Rattle.atomic_table.proofs.Lists.{at_set}
use Rattle.dur_turn.specs.declared.known.Role.{Role}
use Rattle.dur_turn.specs.declared.known.Role.TheVariants.{Spent, Root, Idle, Waits, Holds}
use Rattle.dur_turn.specs.declared.known.Known.{Known}
use Rattle.dur_turn.specs.Rule.{live, waits}
use Rattle.dur_turn.proofs.Rows.{at_end}

-- who waits is out
pub waits_below : (r : Role) → waits r ≤ live r
waits_below Spent = omega arith
waits_below Root = omega arith
waits_below Idle = omega arith
waits_below (Waits t) = omega arith
waits_below (Holds t) = omega arith

module _ {V E : Type 0} where
  -- where i is not the seat that changes, its view is as before
  pub split_at : (views : List (Known V E)) (id i : ℕ) (w u : Known V E) (P : ℕ → Known V E → Type 0) → P id w → (i ≢ id → get_elem? views i ≡ some u → P i u) → get_elem? (set views id w) i ≡ some u → P i u
  split_at views id i w u P mine others e =
      ⊎_elim (λ (x : (i ≡ id) × (w ≡ u)). subst (λ (y : ℕ × Known V E). P y.0 y.1) (λ c. (sym x.0 c, x.1 c)) mine)
      (λ (x : (i ≢ id) × (get_elem? views i ≡ some u)). others x.0 x.1)
      (at_set views id i w u e)

  -- what holds of the views that stay, for a seat at which the view is known
  pub same_view : (s : State V (Known V E)) (id : ℕ) (v u : Known V E) → get_elem? s.views id ≡ some v → get_elem? s.views id ≡ some u → v ≡ u
  same_view s id v u a b = some-injective v u (sym a ∙ b)

  pub grow_at : (views : List (Known V E)) (id i : ℕ) (left right u : Known V E) (P : ℕ → Known V E → Type 0) → P id left → P (length views) right → (i ≢ id → get_elem? views i ≡ some u → P i u)
      → get_elem? (set views id left ++ right ∷ []) i ≡ some u → P i u
  grow_at views id i left right u P mine new others e =
      ⊎_elim (λ old. split_at views id i left u P mine others old)
      (λ (x : (i ≡ length (set views id left)) × (right ≡ u)). subst (λ (y : ℕ × Known V E). P y.0 y.1) (λ c. (sym (x.0 ∙ length-set views id left) c, x.1 c)) new)
      (at_end (set views id left) right u i e)

  pub not_live : (v : Known V E) → v.role ≡ Root → live v.role ≡ 1 → ⊥
  not_live v is l = let z : live v.role ≡ 0 = ap live is in omega arith

  -- of two changes of views, at id and at other
  pub both_at : (views : List (Known V E)) (id other i : ℕ) (a b u : Known V E) (P : ℕ → Known V E → Type 0) → P id a → P other b → (i ≢ id → i ≢ other → get_elem? views i ≡ some u → P i u)
      → get_elem? (set (set views id a) other b) i ≡ some u → P i u
  both_at views id other i a b u P one two others e =
      split_at (set views id a) other i b u P two (λ ne old. split_at views id i a u P one (λ ne' old'. others ne' ne old') old) e
