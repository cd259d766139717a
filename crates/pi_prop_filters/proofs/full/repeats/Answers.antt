use Rattle.std.proofs.Common.{arith, ◌≡◌, ◌∙◌, ap, sym, ℤ, FitsSigned, w64, to_z, of_z, rules}
use Rattle.std.proofs.lemmas.Bool.{eqb-true}
use Rattle.std.proofs.lemmas.Int.{to_z-of_z}
use Rattle.pi_prop_filters.proofs.full.repeats.Goals as goal

same64 : (x y : ℤ) → FitsSigned w64 x → FitsSigned w64 y → of_z w64 x ≡ of_z w64 y → x ≡ y
same64 x y f g h = sym (to_z-of_z w64 x f) ∙ (ap (to_z w64) h ∙ to_z-of_z w64 y g)

pub returns : goal.returns
returns c = λ t. (omega (arith, c.if-i-eq0.false), same64 _ _ (search rules) (search rules) (eqb-true _ _ t))
