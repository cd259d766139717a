-- The terms that faults of built-ins raise. A fault has the Ref of the term that it tells, so that no copy is made before the exception is. (A User's
-- Guide to Picat, 'Exceptions'; which faults there are is own.)
use Rattle.std.specs.Prelude.{◌≡◌, ℕ, pos, List, codes}
use Rattle.pi_terms.specs.Tree.{Tree, int, atom}
use Rattle.pi_constraints.specs.State.{State}
use Rattle.pi_constraints.specs.Store.{StoreView, IsTerm}
use Rattle.pi_constraints.specs.declared.store.Ref.{Ref}
use Rattle.pi_effects.specs.Exception.{thrown, exception_with, type_error, bad_index, bad_format, bad_range, range_too_long, term_too_large}
use Rattle.pi_effects.specs.Integers.{fault_term}
use Rattle.pi_effects.specs.declared.fault.Kind.{Kind}
use Rattle.pi_effects.specs.declared.fault.Fault.{Fault}

-- what an argument has to be, by name
abbrev pub kind_name : Kind → List ℕ
kind_name Kind.Integer = codes "integer"
kind_name Kind.ProperList = codes "list"
kind_name Kind.Collection = codes "collection"
kind_name Kind.Callable = codes "callable"
kind_name Kind.Pair = codes "array"
kind_name Kind.Domain = codes "domain"

-- a term that is raised tells the term of a Ref
abbrev pub Tells : {M : Type 0} → StoreView M → Ref → (Tree → State → Tree) → Tree → Type 0
Tells v r raised ball = (t : Tree) × IsTerm v r t × (ball ≡ raised t v.now.state)

-- a fault raises this term
abbrev pub IsBall : {M : Type 0} → StoreView M → Fault → Tree → Type 0
IsBall v (Fault.WrongKind kind r) ball = Tells v r (type_error (kind_name kind)) ball
IsBall v (Fault.BadIndex r) ball = Tells v r bad_index ball
IsBall v Fault.NoFirst ball = ball ≡ bad_index (int (pos 1)) v.now.state
IsBall v (Fault.BadFormat r) ball = Tells v r bad_format ball
IsBall v Fault.BadRange ball = ball ≡ bad_range
IsBall v Fault.RangeTooLong ball = ball ≡ range_too_long
IsBall v Fault.TermTooLarge ball = ball ≡ term_too_large
IsBall v (Fault.Arithmetic fault) ball = ball ≡ fault_term fault
IsBall v (Fault.NotAConstraint r) ball = Tells v r (exception_with (codes "not_a_constraint")) ball
IsBall v (Fault.BadOption r) ball = Tells v r (exception_with (codes "bad_option")) ball
IsBall v Fault.ConstraintTooLarge ball = ball ≡ atom (codes "constraint_too_large")
IsBall v Fault.DomainTooWide ball = ball ≡ atom (codes "domain_too_wide")
IsBall v (Fault.Thrown r) ball = Tells v r thrown ball
