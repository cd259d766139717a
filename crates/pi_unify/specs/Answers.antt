-- What the answers of a unification say.
use Rattle.std.specs.Prelude.{◌≡◌, ◌≢◌, ℕ, ◌<◌, Bool, true, false, List, [], Option, Some, None, ⊤}
use Rattle.pi_terms.specs.Tree.{Tree, args, arity}
use Rattle.pi_constraints.specs.Domain.{has_value}
use Rattle.pi_constraints.specs.declared.domain.Span.{Span}
use Rattle.pi_constraints.specs.declared.store.Cell.{Cell}
use Rattle.pi_constraints.specs.State.{State, bindings, IsState}
use Rattle.pi_constraints.specs.Store.{StoreView}
use Rattle.pi_constraints.specs.Unify.{Pair, in_pairs, Outcome, clash, changed, parts, all_unified, pairs_ahead}
use Rattle.pi_unify.specs.Refs.{IsRef}
use Rattle.pi_unify.specs.Ahead.{pairs_on, IsNextPair, pair_and, AreArgs, args_on, term_and, some_hold, cells_of_values}
use Rattle.pi_unify.specs.declared.roots.Roots.{Roots}
use Rattle.pi_constraints.specs.declared.store.Ref.{Ref}
use Rattle.pi_unify.specs.declared.ahead.Rest.{Rest}
use Rattle.pi_unify.specs.declared.ahead.RefPair.{RefPair}
use Rattle.pi_unify.specs.declared.unifier.Step.{Step}
use Rattle.pi_unify.specs.declared.occurs.Look.{Look}

-- true exactly where there is a state after, and then it is the state now
abbrev pub Answers : Option State → Bool → State → Type 0
Answers None one now = one ≡ false
Answers (Some r) one now = (one ≡ true) × (now ≡ r)

-- the same of an outcome that leaves no pairs
abbrev pub Makes : Outcome → Bool → State → Type 0
Makes clash one now = one ≡ false
Makes (changed r) one now = (one ≡ true) × (now ≡ r)
Makes (parts qs) one now = ⊥

-- what two terms come to as far as their roots go: where they are one if their arguments are, these are as many of each
abbrev pub Meets : State → Tree → Tree → Outcome → Roots → State → Type 0
Meets s t u clash Roots.Clash now = ⊤
Meets s t u clash Roots.Same now = ⊥
Meets s t u clash (Roots.Args k) now = ⊥
Meets s t u (changed r) Roots.Clash now = ⊥
Meets s t u (changed r) Roots.Same now = now ≡ r
Meets s t u (changed r) (Roots.Args k) now = ⊥
Meets s t u (parts qs) Roots.Clash now = ⊥
Meets s t u (parts qs) Roots.Same now = (now ≡ s) × (qs ≡ [])
Meets s t u (parts qs) (Roots.Args k) now = (now ≡ s) × (qs ≡ in_pairs (args t) (args u)) × (0 < k) × (arity t ≡ k) × (arity u ≡ k)

-- two roots that are no variables, by what a store shows of them
abbrev pub args_of_cell : Cell → ℕ
args_of_cell (Cell.Var n) = 0
args_of_cell (Cell.Int n) = 0
args_of_cell (Cell.Atom f) = 0
args_of_cell (Cell.Comp f k) = k

abbrev pub Compares : Cell → Cell → Roots → Type 0
Compares one other Roots.Clash = one ≢ other
Compares one other Roots.Same = (one ≡ other) × (args_of_cell one ≡ 0)
Compares one other (Roots.Args k) = (one ≡ other) × (args_of_cell one ≡ k) × (0 < k)

-- a root is an integer of a domain
abbrev pub has_cell : List Span → Cell → Bool
has_cell d (Cell.Var n) = false
has_cell d (Cell.Int i) = has_value d i
has_cell d (Cell.Atom f) = false
has_cell d (Cell.Comp f k) = false

-- what is taken off a stack: nothing where nothing is left, else the argument that stands first
abbrev pub GivesArg : {M : Type 0} → StoreView M → List (Rest Ref) → Option Ref → List (Rest Ref) → Type 0
GivesArg v fs None gs = args_on v fs [] ≡ []
GivesArg v fs (Some r) gs = IsRef v r × AreArgs v gs × (term_and v r gs ≡ args_on v fs [])

-- the same, as a look goes on
abbrev pub TakesArg : {M : Type 0} → StoreView M → List (Rest Ref) → Look → List (Rest Ref) → Type 0
TakesArg v fs Look.Found gs = ⊥
TakesArg v fs Look.Done gs = args_on v fs [] ≡ []
TakesArg v fs (Look.Next r) gs = IsRef v r × AreArgs v gs × (term_and v r gs ≡ args_on v fs [])

-- whether a variable occurs in the value of one of the terms, or does exactly where it occurs in what is left
abbrev pub LooksFor : {M : Type 0} → StoreView M → ℕ → List Tree → Look → List (Rest Ref) → Type 0
LooksFor v n ts Look.Found gs = some_hold (bindings v.now.state) n ts ≡ true
LooksFor v n ts Look.Done gs = some_hold (bindings v.now.state) n ts ≡ false
LooksFor v n ts (Look.Next r) gs = IsRef v r × AreArgs v gs × (some_hold (bindings v.now.state) n ts ≡ some_hold (bindings v.now.state) n (term_and v r gs)) × (cells_of_values (bindings v.now.state) (term_and v r gs) < cells_of_values (bindings v.now.state) ts)

-- the same of pairs
abbrev pub GivesPair : {M : Type 0} → StoreView M → List (Rest RefPair) → Option RefPair → List (Rest RefPair) → Type 0
GivesPair v fs None gs = pairs_on v fs [] ≡ []
GivesPair v fs (Some p) gs = IsNextPair v p.left p.right gs × (pair_and v p.left p.right gs ≡ pairs_on v fs [])

-- all pairs are taken, or one comes next
abbrev pub GoesOn : {M : Type 0} → StoreView M → List Pair → Step → List (Rest RefPair) → Type 0
GoesOn v ps (Step.Done one) gs = (one ≡ true) × (ps ≡ [])
GoesOn v ps (Step.Next a b) gs = IsNextPair v a b gs × (pair_and v a b gs ≡ ps)

-- pairs are unified, or are where those are that are left, and these are fewer
abbrev pub Steps : {M : Type 0} → StoreView M → List Pair → Step → StoreView M → List (Rest RefPair) → Type 0
Steps v ps (Step.Done one) w gs = Answers (all_unified v.now.state ps) one w.now.state
Steps v ps (Step.Next a b) w gs = IsState w.now.state × IsNextPair w a b gs × (all_unified v.now.state ps ≡ all_unified w.now.state (pair_and w a b gs)) × (pairs_ahead w.now.state (pair_and w a b gs) < pairs_ahead v.now.state ps)
