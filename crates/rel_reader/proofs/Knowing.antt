-- What was known stays known.
use Rattle.std.proofs.Common.{◌≡◌, true, false, refl}
use Rattle.rel_reader.specs.declared.known.Known.{Known}
use Rattle.rel_reader.specs.declared.known.Known.TheVariants.{Unknown, Irrelevant, With}
use Rattle.rel_reader.specs.Knowledge.{is_unknown, or_else}

pub or_nothing : (x : Known) → or_else x Unknown ≡ x
or_nothing Unknown = refl
or_nothing Irrelevant = refl
or_nothing (With s) = refl

pub or_known : (x y : Known) → is_unknown x ≡ false → or_else x y ≡ x
or_known Unknown y h = cc
or_known Irrelevant y h = refl
or_known (With s) y h = refl

pub or_unknown : (x y : Known) → is_unknown x ≡ true → or_else x y ≡ y
or_unknown Unknown y h = refl
or_unknown Irrelevant y h = cc
or_unknown (With s) y h = cc

pub or_assoc : (x y z : Known) → or_else (or_else x y) z ≡ or_else x (or_else y z)
or_assoc Unknown y z = refl
or_assoc Irrelevant y z = refl
or_assoc (With s) y z = refl

pub was_unknown : (x : Known) → is_unknown x ≡ true → x ≡ Unknown
was_unknown Unknown h = refl
was_unknown Irrelevant h = cc
was_unknown (With s) h = cc

left_unknown : (x y : Known) → is_unknown (or_else x y) ≡ true → x ≡ Unknown
left_unknown Unknown y h = refl
left_unknown Irrelevant y h = cc
left_unknown (With s) y h = cc
