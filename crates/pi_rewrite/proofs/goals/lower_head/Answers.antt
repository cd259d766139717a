-- A head's arguments.
use Rattle.std.proofs.Common.{◌≡◌, sym, ◌∙◌, ap}
use Rattle.pi_syntax.specs.ExpTree.{ExpTrees, exp_tree}
use Rattle.pi_syntax.specs.ExpLists.{exps_of}
use Rattle.pi_meaning.specs.OverNames.WrittenRules.{head_arguments}
use Rattle.pi_rewrite_spec.specs.Values.{slot_patterns}
use Rattle.pi_rewrite_slots.proofs.ExpTrees.{call-is}
use Rattle.pi_rewrite.proofs.goals.lower_head.Goals as goal

pub returns-in_ok-made-in-Call-clause-are : goal.returns-in_ok-made-in-Call-clause-are
returns-in_ok-made-in-Call-clause-are c =
    let arguments : head_arguments (exp_tree c.args.head.now) ≡ exps_of c.as_slice.result.now =
    ap head_arguments (call-is c.args.head.now c.in-Call.field-0 c.in-Call.args c.in-Call.is) ∙ ap (λ xs. exps_of xs) (sym c.as_slice.ensures.value) in
    c.in_ok-made-in-Call.ensures.are ∙ ap (λ (es : ExpTrees). (slot_patterns es c.args.slots.now).forms) (sym arguments)

pub returns-in_ok-made-in-Call-clause-slots : goal.returns-in_ok-made-in-Call-clause-slots
returns-in_ok-made-in-Call-clause-slots c =
    let arguments : head_arguments (exp_tree c.args.head.now) ≡ exps_of c.as_slice.result.now =
    ap head_arguments (call-is c.args.head.now c.in-Call.field-0 c.in-Call.args c.in-Call.is) ∙ ap (λ xs. exps_of xs) (sym c.as_slice.ensures.value) in
    c.in_ok-made-in-Call.ensures.slots ∙ ap (λ (es : ExpTrees). (slot_patterns es c.args.slots.now).names) (sym arguments)
