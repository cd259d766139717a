use Rattle.std.proofs.Common.{drop, map}
use Rattle.pi_core.specs.CoreTree.{pred_tree}
use Rattle.pi_rewrite_sites.specs.OwnNames.{own_name}
use Rattle.pi_rewrite.proofs.GroupLemmas.{PredsAhead, HelpersAhead}
use Rattle.pi_rewrite.proofs.preds.lower_parts.Given as goal

-- what is made so far, and the parts ahead
abbrev pub invariant-loop-part : goal.invariant-loop-part
invariant-loop-part l =
    PredsAhead (own_name l.naming.prefix) (map pred_tree l.initial.preds.items) l.before l.parts (map pred_tree l.preds.items) l.count (drop l.part-index l.parts)
    × HelpersAhead (own_name l.naming.prefix) (map pred_tree l.initial.helpers.items) l.before l.parts (map pred_tree l.helpers.items) l.count (drop l.part-index l.parts)
