use Rattle.std.proofs.Common.{drop, List}
use Rattle.std.specs.Prelude.{map}
use Rattle.pi_core.specs.GoalTree.{GoalTree}
use Rattle.pi_core.specs.CoreTree.{pred_tree}
use Rattle.pi_syntax.specs.ExpLists.{exps_of}
use Rattle.pi_rewrite_spec.specs.Values.{SlotValue}
use Rattle.pi_rewrite_spec.specs.Goals.{indexed_by}
use Rattle.pi_rewrite_spec.specs.Written.{all_of}
use Rattle.pi_rewrite_spec.specs.Helpers.{all_helpers, conjunct_helpers, branch_helpers}
use Rattle.pi_rewrite_slots.specs.Branches.{branches_in}
use Rattle.pi_rewrite_slots.specs.ReadAs.{readings_of}
use Rattle.pi_rewrite_sites.specs.SiteOf.{site_of}
use Rattle.pi_rewrite_loops.specs.Parts.{IsValue}
use Rattle.pi_rewrite_loops.specs.Helpers.{ending_of}
use Rattle.pi_rewrite_goals.specs.Planned.{inner_in}
use Rattle.pi_rewrite_goals.specs.Opened.{OpenTo}
use Rattle.pi_rewrite_goals.specs.Lowering.{values_as}
use Rattle.pi_rewrite_goals.proofs.PartLemmas.{places_in, ValuesTo, GoalsTo, IndexedTo}
use Rattle.pi_rewrite_goals.proofs.HelperLemmas.{Going}
use Rattle.pi_rewrite_goals.proofs.BranchLemmas.{BranchesTo, ConditionsTo}
use Rattle.pi_rewrite_goals.proofs.+lowering.Given as goal

-- What is made stands in front of what the definition makes of those that are left, from where these stand; and so do the helpers.

abbrev pub invariant-values::values_as-loop-i : goal.invariant-values::values_as-loop-i
invariant-values::values_as-loop-i l =
    Going (ValuesTo (values_as l.are_parts (site_of l.site) (readings_of l.readings) (exps_of l.exps) l.initial.slots) (values_as l.are_parts (site_of l.here) (drop l.i (readings_of l.readings)) (exps_of (drop l.i l.exps)) l.slots) l.initial.goals.items l.goals.items l.terms.items)
    l.initial.helpers.items l.helpers.items (all_helpers (site_of l.site) (exps_of l.exps)) (all_helpers (site_of l.here) (exps_of (drop l.i l.exps)))

abbrev pub invariant-structures::indexed_by-loop-exp : goal.invariant-structures::indexed_by-loop-exp
invariant-structures::indexed_by-loop-exp l =
    Going ((v : SlotValue) (before : List GoalTree) → IsValue v before l.initial.goals.items l.fn.whole l.initial.slots →
    IndexedTo (indexed_by v (places_in (site_of l.initial.site) (exps_of l.places))) (places_in (site_of l.site) (exps_of (drop l.exp-index l.places))) before l.goals.items l.item l.slots)
    l.initial.helpers.items l.helpers.items (all_helpers (site_of l.initial.site) (exps_of l.places)) (all_helpers (site_of l.site) (exps_of (drop l.exp-index l.places)))

abbrev pub invariant-goals::push_all-loop-exp : goal.invariant-goals::push_all-loop-exp
invariant-goals::push_all-loop-exp l =
    Going (GoalsTo (all_of (site_of l.site) (exps_of l.exps) l.initial.slots) (all_of (site_of l.here) (exps_of (drop l.exp-index l.exps)) l.slots) l.initial.goals.items l.goals.items)
    l.initial.helpers.items l.helpers.items (conjunct_helpers (site_of l.site) (exps_of l.exps)) (conjunct_helpers (site_of l.here) (exps_of (drop l.exp-index l.exps)))

abbrev pub invariant-goals::branches-loop-exp : goal.invariant-goals::branches-loop-exp
invariant-goals::branches-loop-exp l =
    Going (BranchesTo (site_of l.site) (site_of l.here) l.exps l.exp-index l.initial.slots l.slots l.made.items)
    l.initial.helpers.items l.helpers.items (conjunct_helpers (site_of l.site) (exps_of l.exps)) (conjunct_helpers (site_of l.here) (exps_of (drop l.exp-index l.exps)))

abbrev pub invariant-goals::conditions-loop-branch : goal.invariant-goals::conditions-loop-branch
invariant-goals::conditions-loop-branch l =
    Going (ConditionsTo (site_of l.site) (site_of l.here) l.branches l.branch-index l.initial.slots l.slots l.made.items)
    l.initial.helpers.items l.helpers.items (branch_helpers (site_of l.site) (branches_in l.branches)) (branch_helpers (site_of l.here) (branches_in (drop l.branch-index l.branches)))

-- Those that are open are so but for the rest.

abbrev pub invariant-units::open_units-loop-i : goal.invariant-units::open_units-loop-i
invariant-units::open_units-loop-i l =
    OpenTo (site_of l.initial.inside.site) (ending_of l.fn.ending) (inner_in l.inner) (exps_of l.units) l.initial.inside.goals.items l.initial.inside.slots l.opened.items (site_of l.inside.site) (ending_of l.now) (exps_of (drop l.i l.units)) l.inside.goals.items l.inside.slots
    (map pred_tree l.initial.helpers.items) (map pred_tree l.helpers.items)
