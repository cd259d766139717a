-- The slots of the names that are told come behind those of the goal.
use Rattle.std.proofs.Common.{ℕ, List, map, ◌∙◌, ap}
use Rattle.pi_syntax.specs.ExpTree.{exp_tree}
use Rattle.pi_core.specs.CoreTree.{pred_tree}
use Rattle.pi_meaning.specs.OverNames.Texts.{Names}
use Rattle.pi_rewrite_spec.specs.Slots.{named_slots, slots_behind}
use Rattle.pi_rewrite_spec.specs.Programs.{core_query}
use Rattle.pi_rewrite_slots.specs.Indexed.{names_in}
use Rattle.pi_rewrite_sites.specs.OwnNames.{own_name}
use Rattle.pi_rewrite.proofs.ClauseLemmas.{site, query-is}
use Rattle.pi_rewrite.proofs.queries.lower_query.Goals as goal

pub returns : goal.returns
returns c =
    query-is (record { goal = c.in_ok-body.body; helpers = c.from_vec.result; names = c.in_ok-names.names; slots = c.in_ok-count.count }) (exp_tree c.args.goal.now) (own_name c.in_ok-naming.naming.prefix) c.new-slots.result c.lower_body.new.slots
    c.name_slots.new.slots (names_in c.in_ok-told.told.items) (map pred_tree c.new-helpers.result.items) (map pred_tree c.lower_body.new.helpers.items) _ c.new-slots.ensures
    (ap (λ (before : Names). site 0 before 0 (own_name c.in_ok-naming.naming.prefix)) (ap names_in c.new.ensures.items)) c.in_ok-body.ensures.is c.in_ok-body.ensures.slots c.in_ok-told.ensures (ap (map pred_tree) c.new-helpers.ensures.items)
    c.in_ok-body.ensures.helpers (ap (map pred_tree) c.from_vec.ensures)
    (c.in_ok-names.ensures.are ∙ ap (λ xs. named_slots (names_in xs) c.lower_body.new.slots) c.as_slice.ensures.value) (c.in_ok-names.ensures.slots ∙ ap (λ xs. slots_behind (names_in xs) c.lower_body.new.slots) c.as_slice.ensures.value)
    c.in_ok-count.ensures
    ∙ ap (λ (prefix : List ℕ). core_query (own_name prefix) (exp_tree c.args.goal.now)) c.in_ok-naming.ensures
