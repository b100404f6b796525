-- The replay to a reader among others.
use Rattle.std.proofs.Common.{◌≡◌, ℕ, ◌<◌, Bool, true, false, List, [], ◌∷◌, length, take, refl, sym, ◌∙◌, ap, get_or, Option, Some, None, arith}
use Rattle.std.specs.Prelude.{suc, zero, slice_get, if◌then◌else◌}
use Rattle.dur_view.specs.Identities.{Guid}
use Rattle.dur_view.specs.Words.{is_same}
use Rattle.dur_hub.proofs.Guids.{same_true}
use Rattle.rel_writer.specs.Sessions.{Sending}
use Rattle.dur_rerun.specs.declared.rerun.replays.Replay.{Replay}
use Rattle.dur_rerun.specs.Rerun.Replies.{session_for, with_session}
use Rattle.dur_rerun.specs.Rerun.Steps.{StandsAt}

module _ (g : Guid) where
  not_first : (s : Sending) (rest : Option Sending) (b : Bool) → (if b then Some s else rest) ≡ None → (b ≡ false) × (rest ≡ None)
  not_first s rest true is = absurd (cc is)
  not_first s rest false is = (refl, is)

  at_first : (x : Replay) (xs : List Replay) → x.reader ≡ g → StandsAt (x ∷ xs) g 0
  at_first x xs same =
      let e = same_true x.reader g same in
      record {
        r = x;
        stands = refl;
        session = ap (λ (b : Bool). if b then Some x.session else session_for xs g) e;
        goes_on = λ t.
            ap (λ (h : Guid). record { reader = h; session = t } ∷ xs) same
            ∙ sym (ap (λ (b : Bool). if b then record { reader = g; session = t } ∷ xs else x ∷ with_session g t xs) e);
      }

  behind : (x : Replay) (xs : List Replay) (i : ℕ) → is_same x.reader g ≡ false → StandsAt xs g i → StandsAt (x ∷ xs) g (suc i)
  behind x xs i e there = record {
    r = there.r;
    stands = there.stands;
    session = ap (λ (b : Bool). if b then Some x.session else session_for xs g) e ∙ there.session;
    goes_on = λ t.
        ap (λ (ys : List Replay). x ∷ ys) (there.goes_on t)
        ∙ sym (ap (λ (b : Bool). if b then record { reader = g; session = t } ∷ xs else x ∷ with_session g t xs) e);
  }

  -- the first one whose reader that is
  pub stands_at : (xs : List Replay) (i : ℕ) (r : Replay) → slice_get xs i ≡ Some r → r.reader ≡ g → session_for (take i xs) g ≡ None → StandsAt xs g i
  stands_at [] i r get same none = absurd (cc get)
  stands_at (x ∷ xs) zero r get same none =
      let is : x ≡ r = cc get in
      at_first x xs (ap (λ (y : Replay). y.reader) is ∙ same)
  stands_at (x ∷ xs) (suc i) r get same none =
      let parts = not_first x.session (session_for (take i xs) g) (is_same x.reader g) none in
      behind x xs i parts.0 (stands_at xs i r get same parts.1)

  pub none_more : (xs : List Replay) (i : ℕ) (r : Replay) → slice_get xs i ≡ Some r → is_same r.reader g ≡ false → session_for (take i xs) g ≡ None
      → session_for (take (suc i) xs) g ≡ None
  none_more [] i r get differs none = refl
  none_more (x ∷ xs) zero r get differs none =
      let is : x ≡ r = cc get in
      ap (λ (y : Replay). if is_same y.reader g then Some x.session else session_for (take 0 xs) g) is
      ∙ ap (λ (b : Bool). if b then Some x.session else session_for (take 0 xs) g) differs
  none_more (x ∷ xs) (suc i) r get differs none =
      let parts = not_first x.session (session_for (take i xs) g) (is_same x.reader g) none in
      ap (λ (b : Bool). if b then Some x.session else session_for (take (suc i) xs) g) parts.0 ∙ none_more xs i r get differs parts.1

-- an item at a place within a list
pub got : {X : Type 0} → (xs : List X) (i : ℕ) (x : X) → i < length xs → x ≡ get_or xs i x → slice_get xs i ≡ Some x
got [] i x lt is = absurd (omega (arith, lt))
got (y ∷ ys) zero x lt is = ap Some (sym is)
got (y ∷ ys) (suc i) x lt is = got ys i x (omega (arith, lt)) is

pub got_within : {X : Type 0} → (xs : List X) (i : ℕ) (x : X) → slice_get xs i ≡ Some x → i < length xs
got_within [] i x is = absurd (cc is)
got_within (y ∷ ys) zero x is = omega arith
got_within (y ∷ ys) (suc i) x is = let so = got_within ys i x is in omega (arith, so)
