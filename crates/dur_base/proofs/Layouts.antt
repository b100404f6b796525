-- Cutting a text gives back its fields, and the parts make up the text.
use Rattle.std.proofs.Common.{◌≡◌, ℕ, List, [], ◌∷◌, ◌++◌, length, take, drop, map, refl, ap, ◌∙◌, append_assoc, append-nil}
use Rattle.std.proofs.lemmas.List.{take_at, drop_at, take-append-drop}
use Rattle.dur_base.specs.Layout.{glued, cutting}

pub cut_back : (fs : List (List ℕ)) (rest : List ℕ) → cutting (map length fs) (glued fs ++ rest) ≡ fs ++ rest ∷ []
cut_back [] rest = refl
cut_back (f ∷ fs) rest =
    rw (append_assoc f (glued fs) rest, take_at f (glued fs ++ rest) (length f) refl, drop_at f (glued fs ++ rest) (length f) refl, cut_back fs rest) refl

pub join_back : (ws : List ℕ) (bytes : List ℕ) → glued (cutting ws bytes) ≡ bytes
join_back [] bytes = append-nil bytes
join_back (w ∷ ws) bytes = rw (join_back ws (drop w bytes)) (take-append-drop w bytes)

-- what follows the first field
pub drop_field : (n : ℕ) (bytes a tail : List ℕ) → bytes ≡ a ++ tail → length a ≡ n → drop n bytes ≡ tail
drop_field n bytes a tail parts len = ap (drop n) parts ∙ drop_at a tail n len

-- the field after the first one
pub next_field : (n : ℕ) (bytes a m tail : List ℕ) → bytes ≡ a ++ (m ++ tail) → length a ≡ n → take (length m) (drop n bytes) ≡ m
next_field n bytes a m tail parts len = ap (take (length m)) (drop_field n bytes a (m ++ tail) parts len) ∙ take_at m tail (length m) refl
