-- The names that mean something by themselves, with their numbers of arguments: in a call by name they are no predicates or functions of the program. (A User's Guide to
-- Picat, 'Appendix: Predicates and Functions'; which names are there, and which stage of the language gives them, is own.)
use Rattle.std.specs.Prelude.{ℕ, ◌==◌, ◌&&◌, ◌||◌, nat_le, Bool, true, false, List, [], ◌∷◌, codes}
use Rattle.std.specs.Ordering.{is_eq}
use Rattle.std.specs.Str.{bytes_eq}
use Rattle.std.specs.List.{list_any}
use Rattle.pi_terms.specs.Order.{name_order}
use Rattle.pi_syntax.specs.Tokens.{is_one_of}
use Rattle.pi_syntax.specs.Signature.{Signature}
use Rattle.pi_effects.specs.BuiltIns.{is_predicate, is_function}

abbrev pub with_arity : List ℕ → ℕ → Signature
with_arity name k = record { name = name; arity = k }

abbrev pub is_among_signatures : List Signature → List ℕ → ℕ → Bool
is_among_signatures signatures name k = list_any (λ s. bytes_eq s.name name && (s.arity == k)) signatures

-- constraints, labelling, events and planner calls, with their numbers of arguments
unfoldable pub later_predicates : List Signature
later_predicates =
    with_arity (codes "::") 2 ∷
    with_arity (codes "notin") 2 ∷
    with_arity (codes "#=") 2 ∷
    with_arity (codes "#!=") 2 ∷
    with_arity (codes "#<") 2 ∷
    with_arity (codes "#=<") 2 ∷
    with_arity (codes "#<=") 2 ∷
    with_arity (codes "#>") 2 ∷
    with_arity (codes "#>=") 2 ∷
    with_arity (codes "#~") 1 ∷
    with_arity (codes "#/\\") 2 ∷
    with_arity (codes "#\\/") 2 ∷
    with_arity (codes "#^") 2 ∷
    with_arity (codes "#=>") 2 ∷
    with_arity (codes "#<=>") 2 ∷
    with_arity (codes "all_different") 1 ∷
    with_arity (codes "all_distinct") 1 ∷
    with_arity (codes "element") 3 ∷
    with_arity (codes "solve") 1 ∷
    with_arity (codes "solve") 2 ∷
    with_arity (codes "post_event") 2 ∷
    with_arity (codes "plan") 2 ∷
    with_arity (codes "plan") 3 ∷
    with_arity (codes "plan") 4 ∷
    with_arity (codes "best_plan") 2 ∷
    with_arity (codes "best_plan") 3 ∷
    with_arity (codes "best_plan") 4 ∷
    []

unfoldable pub is_later_predicate : List ℕ → ℕ → Bool
is_later_predicate name k = is_among_signatures later_predicates name k

-- functions of domains
unfoldable pub is_later_function : List ℕ → ℕ → Bool
is_later_function name k = k == 1 && is_one_of (codes "fd_min" ∷ codes "fd_max" ∷ codes "fd_size" ∷ codes "fd_dom" ∷ []) name

-- planner calls
abbrev pub is_planner : List ℕ → ℕ → Bool
is_planner name k = (is_eq (name_order name (codes "plan")) || is_eq (name_order name (codes "best_plan"))) && ((k == 2) || ((k == 3) || (k == 4)))

abbrev pub is_resource : List ℕ → ℕ → Bool
is_resource name k = (k == 0) && bytes_eq name (codes "current_resource")

abbrev pub is_catch : List ℕ → ℕ → Bool
is_catch name k = k == 3 && bytes_eq name (codes "catch")

abbrev pub is_call : List ℕ → ℕ → Bool
is_call name k = (nat_le 1 k && nat_le k 8) && bytes_eq name (codes "call")

-- all that goals of the core language may call that no program defines: predicates, and functions
abbrev pub is_given_predicate : List ℕ → ℕ → Bool
is_given_predicate name k = is_call name k || (is_predicate name k || is_later_predicate name k)

abbrev pub is_given_function : List ℕ → ℕ → Bool
is_given_function name k = is_function name k || (is_resource name k || is_later_function name k)

-- functions where the first part is true
abbrev pub is_given : Bool → List ℕ → ℕ → Bool
is_given true name k = is_given_function name k
is_given false name k = is_given_predicate name k
