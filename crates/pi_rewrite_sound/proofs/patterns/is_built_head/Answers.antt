use Rattle.std.proofs.Common.{refl}
use Rattle.pi_meaning.specs.OverNames.WrittenRules.{head_arguments}
use Rattle.pi_syntax.specs.ExpTree.{call}
use Rattle.pi_syntax.specs.ExpLists.{exps_of}
use Rattle.pi_rewrite_slots.proofs.ExpTrees.{call-is}
use Rattle.pi_rewrite_sound.specs.Built.{are_built_patterns}
use Rattle.pi_rewrite_sound.proofs.NodeLemmas.{of-list}
use Rattle.pi_rewrite_sound.proofs.patterns.is_built_head.Goals as goal

pub returns-in-Call : goal.returns-in-Call
returns-in-Call c =
    of-list exps_of (λ t. are_built_patterns (head_arguments t)) are_built_patterns (call c.in-Call.field-0) (λ ts. refl) c.args.head.now c.in-Call.args.items c.as_slice.result.now c.are_built_patterns.result
    (call-is c.args.head.now c.in-Call.field-0 c.in-Call.args c.in-Call.is) c.as_slice.ensures.value c.are_built_patterns.ensures
