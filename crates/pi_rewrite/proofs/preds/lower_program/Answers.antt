-- The parts of the prelude, and then the program's; and the helpers behind them.
use Rattle.std.proofs.Common.{◌≡◌, ℕ, suc, List, map, ◌++◌, ◌∙◌, ap}
use Rattle.std.proofs.lemmas.List.{map-append}
use Rattle.pi_syntax.specs.ProgramTree.{ProgramTree, part_tree, source_tree}
use Rattle.pi_core.specs.CoreTree.{pred_tree}
use Rattle.pi_meaning.specs.OverNames.Prelude.{prelude}
use Rattle.pi_rewrite_spec.specs.Programs.{Naming, core_program}
use Rattle.pi_rewrite_sites.specs.OwnNames.{own_name}
use Rattle.pi_rewrite.specs.Built.{tildes, longest_head, program_prefix}
use Rattle.pi_rewrite.proofs.GroupLemmas.{program-is}
use Rattle.pi_rewrite.proofs.preds.lower_program.Goals as goal

pub returns : goal.returns
returns c =
    let called : Naming = own_name c.in_ok-naming.naming.prefix in
    let pre : map part_tree c.as_slice-3.result.now ≡ prelude = ap (map part_tree) c.as_slice-3.ensures ∙ c.in_ok-prelude.ensures in
    let own : map part_tree c.as_slice-4.result.now ≡ source_tree c.args.program.now = ap (map part_tree) c.as_slice-4.ensures in
    let named : c.in_ok-naming.naming.prefix ≡ program_prefix (source_tree c.args.program.now) =
    c.in_ok-naming.ensures
    ∙ (ap (λ (ps : ProgramTree). tildes (suc (longest_head 0 (ps ++ map part_tree c.as_slice-2.result.now)))) (ap (map part_tree) c.as_slice.ensures ∙ c.in_ok-prelude.ensures)
    ∙ ap (λ (ps : ProgramTree). tildes (suc (longest_head 0 (prelude ++ ps)))) (ap (map part_tree) c.as_slice-2.ensures)) in
    ap (map pred_tree) (c.from_vec.ensures ∙ c.in_ok-append.ensures.items)
    ∙ (map-append pred_tree c.lower_parts-2.new.preds.items c.lower_parts-2.new.helpers.items
    ∙ (program-is called (map part_tree c.as_slice-3.result.now) (map part_tree c.as_slice-4.result.now) (map pred_tree c.new-preds.result.items) (map pred_tree c.lower_parts.new.preds.items) (map pred_tree c.lower_parts-2.new.preds.items)
    (map pred_tree c.new-helpers.result.items) (map pred_tree c.lower_parts.new.helpers.items) (map pred_tree c.lower_parts-2.new.helpers.items) c.in_ok-count.count c.in_ok-lower_parts.field-0 pre (ap (map pred_tree) c.new-preds.ensures.items)
    (ap (map pred_tree) c.new-helpers.ensures.items) c.in_ok-count.ensures.preds c.in_ok-count.ensures.helpers c.in_ok-lower_parts.ensures.preds c.in_ok-lower_parts.ensures.helpers
    ∙ (ap (λ (ps : ProgramTree). core_program called ps) own ∙ ap (λ (prefix : List ℕ). core_program (own_name prefix) (source_tree c.args.program.now)) named)))
