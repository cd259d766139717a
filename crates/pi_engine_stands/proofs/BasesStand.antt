-- Where the blocks of levels begin.
use Rattle.std.proofs.Common.{◌≡◌, ℕ, ◌≤◌, Bool, List, Option, Some, None, refl, ap, subst, arith}
use Rattle.std.specs.Prelude.{slice_get}
use Rattle.pi_engine_arenas.specs.declared.arenas.Kind.{Kind}
use Rattle.pi_engine_arenas.specs.declared.arenas.Strict.{Strict}
use Rattle.pi_engine_code.specs.declared.code.Step.{Step}
use Rattle.pi_engine_code.specs.declared.code.Predicate.{Predicate}
use Rattle.pi_engine_code.specs.declared.code.Rule.{Rule}
use Rattle.pi_engine_code.specs.Code.{Tables}
use Rattle.pi_engine_arenas.specs.declared.arenas.Entry.{Entry}
use Rattle.pi_meaning.specs.Machine.Configuration.{Frame}
use Rattle.pi_engine_stands.specs.Here.{Block, Here, ends_base, GoesOn, answers, gives, returns_to_end, more_of_block, returns_to}
use Rattle.pi_engine_stands.specs.Stands.{Loaded, steps_of, ends_of, entry_ends, shape_of, rule_shape}

pub shape-base : (o : Option Step) (base : ℕ) → (shape_of o base).base ≡ base
shape-base None base = refl
shape-base (Some s) base = refl

rule-base : (p : Option Predicate) (r : Option Rule) (base : ℕ) → (rule_shape p r base).base ≡ base
rule-base None None base = refl
rule-base None (Some r) base = refl
rule-base (Some p) None base = refl
rule-base (Some p) (Some r) base = refl

pub ends-begin : (l : Loaded) (kind : Kind) (base : ℕ) → ends_base (ends_of l kind base) ≡ base
ends-begin l (Kind.Strict (Strict.Once place)) base = shape-base (slice_get (steps_of l) place) base
ends-begin l (Kind.Strict (Strict.Not place)) base = shape-base (slice_get (steps_of l) place) base
ends-begin l (Kind.Strict (Strict.If place)) base = shape-base (slice_get (steps_of l) place) base
ends-begin l (Kind.Strict (Strict.Guard p r)) base = rule-base (slice_get l.code.predicates.items p) (slice_get l.code.rules.items r) base
ends-begin l (Kind.Strict (Strict.Apply place caller)) base = refl
ends-begin l (Kind.Strict (Strict.Collect place first)) base = shape-base (slice_get (steps_of l) place) base
ends-begin l (Kind.Strict (Strict.Count place n)) base = shape-base (slice_get (steps_of l) place) base
ends-begin l (Kind.Strict (Strict.Search it)) base = refl
ends-begin l (Kind.Catch place) base = shape-base (slice_get (steps_of l) place) base
ends-begin l (Kind.Rules p r) base = refl
ends-begin l (Kind.Facts p r) base = refl
ends-begin l (Kind.Branches place n) base = refl
ends-begin l (Kind.Alternatives place it) base = refl
ends-begin l Kind.Exit base = refl

-- the blocks in front of which a level was entered lie in front of those in it
pub block-above : (t : Tables) (steps : List Step) (h : Here) (b : Block) (leaves : Bool) (n : ℕ) (k : List Frame) → GoesOn t steps h b leaves n k → ends_base h.ends ≤ b.base
block-above t steps h b leaves n k (answers is) = omega (arith, ap ends_base is)
block-above t steps h b leaves n k (gives base is lies) = omega (arith, ap ends_base is, lies)
block-above t steps h b leaves n k (returns_to_end d is lies holds) = omega (arith, ap ends_base is, lies)
block-above t steps h b leaves n k (more_of_block p gs value last out k' at same earlier some here and_leaves rest) = block-above t steps h b out p.frame k' rest
block-above t steps h b leaves n k (returns_to p d gs value last out k' at same lies earlier some holds here and_leaves rest) =
    omega (arith, block-above t steps h d out p.frame k' rest, lies)

-- a level's block lies in front of what lies behind all of them
pub level-begins : (l : Loaded) {M : Type 0} (x : Entry M) (o : Option (Entry M)) (n : ℕ) → o ≡ Some x → ends_base (entry_ends l o) ≤ n → x.back.base ≤ n
level-begins l x o n is lies = omega (arith, subst (λ r. ends_base (entry_ends l r) ≤ n) is lies, ends-begin l x.back.kind x.back.base)
