-- The right side of `::` and `notin`: a range, a range with a step, or a list of integers; and what is raised in its place. (A User's Guide to Picat, 'Constraints'; limits and
-- exceptions are own.)
use Rattle.std.specs.Prelude.{ℕ, zero, suc, nat_lt, Bool, true, not, ◌&&◌, cond, List, [], ◌∷◌, Option, Some, None, option_map, option_and_then, Ok, Err, ℤ, pos, negsuc, neg_ℤ, int_le, codes}
use Rattle.std.specs.List.{list_all}
use Rattle.std.specs.Str.{bytes_eq}
use Rattle.pi_terms.specs.Tree.{Tree, atom, comp, no_trees, tree}
use Rattle.pi_constraints.specs.declared.domain.Span.{Span}
use Rattle.pi_constraints.specs.declared.domain.TheConstants.{MAX_VALUE}
use Rattle.pi_constraints.specs.Domain.{overlap}
use Rattle.pi_constraints.specs.Value.{value}
use Rattle.pi_constraints.specs.State.{State, bindings}
use Rattle.pi_effects.specs.Exception.{type_error, bad_range, range_too_long}
use Rattle.pi_effects.specs.Answer.{Answer, integer_at}
use Rattle.pi_effects.specs.Items.{list_items}
use Rattle.pi_effects.specs.Ranges.{most_items, count_by}
use Rattle.pi_settling.specs.Values.{can_have, domain_of_values, numbers_by}

-- L..U, L..S..U, and the items of a list
pub data RightSide : Type 0 where
  from_to : ℤ → ℤ → RightSide
  by_steps : ℤ → ℤ → ℤ → RightSide
  these : List ℤ → RightSide

-- ---- which term is which

abbrev pub range_of : Tree → Tree → Option RightSide
range_of t u = option_and_then (λ lo. option_map (from_to lo) (integer_at u)) (integer_at t)

abbrev pub range_by : Tree → Tree → Tree → Option RightSide
range_by t s u = option_and_then (λ lo. option_and_then (λ step. option_map (by_steps lo step) (integer_at u)) (integer_at s)) (integer_at t)

-- the integers that terms are; None where one is none
unfoldable pub integers_of : List Tree → Option (List ℤ)
integers_of [] = Some []
integers_of (t ∷ ts) = option_and_then (λ i. option_map (λ is. i ∷ is) (integers_of ts)) (integer_at t)

abbrev pub listed : Tree → Option RightSide
listed t = option_map these (option_and_then integers_of (list_items [] t))

abbrev pub is_range : List ℕ → Bool
is_range name = bytes_eq name (codes "..")

-- the right side that a value is
unfoldable pub right_side : Tree → Option RightSide
right_side (comp name (tree t (tree u no_trees))) = cond (is_range name) (range_of t u) (listed (comp name (tree t (tree u no_trees))))
right_side (comp name (tree t (tree s (tree u no_trees)))) = cond (is_range name) (range_by t s u) None
right_side t = listed t

-- ---- what is raised: first a step of 0, then too many values of a range with a step, then a value that no domain can have

abbrev pub domain_too_wide : Tree
domain_too_wide = atom (codes "domain_too_wide")

-- under `::` each value has to be one that a domain can have; `notin` passes over those that aren't
abbrev pub unless_wide : Bool → Bool → List Span → Answer (List Span)
unless_wide strict within d = cond (strict && not within) (Err domain_too_wide) (Ok d)

-- a range has values where its first number isn't above its last one
abbrev pub range_can_have : ℤ → ℤ → Bool
range_can_have lo hi = cond (int_le lo hi) (can_have lo && can_have hi) true

abbrev pub range_judged : Bool → ℤ → ℤ → Answer (List Span)
range_judged strict lo hi =
    unless_wide strict (range_can_have lo hi) (overlap (record { lo = lo; hi = hi }) (record { lo = neg_ℤ MAX_VALUE; hi = MAX_VALUE }))

abbrev pub values_judged : Bool → List ℤ → Answer (List Span)
values_judged strict is = unless_wide strict (list_all can_have is) (domain_of_values is)

abbrev pub steps_judged : Bool → ℤ → ℤ → ℤ → Answer (List Span)
steps_judged strict lo step hi =
    let count : ℕ = count_by lo step hi in
    cond (nat_lt most_items count) (Err range_too_long) (values_judged strict (numbers_by count lo step))

abbrev pub step_judged : Bool → ℤ → ℤ → ℤ → Answer (List Span)
step_judged strict lo (pos zero) hi = Err bad_range
step_judged strict lo (pos (suc n)) hi = steps_judged strict lo (pos (suc n)) hi
step_judged strict lo (negsuc n) hi = steps_judged strict lo (negsuc n) hi

abbrev pub side_judged : Bool → RightSide → Answer (List Span)
side_judged strict (from_to lo hi) = range_judged strict lo hi
side_judged strict (by_steps lo step hi) = step_judged strict lo step hi
side_judged strict (these is) = values_judged strict is

abbrev pub judged_or : Bool → Tree → Option RightSide → Answer (List Span)
judged_or strict ball None = Err ball
judged_or strict ball (Some side) = side_judged strict side

-- the domain that a right side stands for in a state, or what is raised
abbrev pub side_domain : Bool → State → Tree → Answer (List Span)
side_domain strict s t = judged_or strict (type_error (codes "domain") t s) (right_side (value (bindings s) t))
