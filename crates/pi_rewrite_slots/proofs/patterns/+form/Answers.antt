-- Each kind of expression by its lemma.
use Rattle.std.proofs.Common.{[], refl}
use Rattle.std.proofs.lemmas.Result.{IfOk-weaker, IfOk-from_err}
use Rattle.pi_syntax.specs.PrintTerm.{array_name}
use Rattle.pi_terms.specs.PatternTree.{exact_atom}
use Rattle.pi_core.specs.CoreTree.{pattern_tree, pattern_trees}
use Rattle.pi_syntax.specs.ExpTree.{exp_tree}
use Rattle.pi_syntax.specs.ExpLists.{exps_of}
use Rattle.pi_rewrite_spec.specs.Values.{exact, slot_pattern, slot_patterns, structure}
use Rattle.pi_rewrite_slots.proofs.PatternLemmas.{patterns-none, patterns-more, patterns-end}
use Rattle.pi_rewrite_slots.proofs.HeadLemmas.{pattern-list, pattern-onto, pattern-array, pattern-call, pattern-quote, pattern-range, pattern-range_by, onto_pattern, list_pattern, two_patterns, three_patterns, form-structure, form-onto, form-list, form-two, form-three, form-same, names-as, put-form, nameless-index, nameless-collect, nameless-and, nameless-or, nameless-arrow, nameless-if, nameless-foreach, nameless-while, nameless-do_while, form-var, names-var, form-atom, names-atom, form-str, names-str}
use Rattle.pi_rewrite_slots.proofs.patterns.+form.Goals as goal

pub slot_patterns-loop-exp-init : goal.slot_patterns-loop-exp-init
slot_patterns-loop-exp-init t c = patterns-none c.args.exps.now c.args.slots.now c.new-patterns.result.items c.new-patterns.ensures.items

pub slot_patterns-loop-exp-preserved : goal.slot_patterns-loop-exp-preserved
slot_patterns-loop-exp-preserved t c =
    patterns-more c.args.exps.now c.loop-exp.exp-index c.exp-item.result c.args.slots.now c.loop-exp.slots c.slot_pattern.new.slots c.loop-exp.patterns.items c.push.new.self.items c.in_ok-slot_pattern.field-0 c.loop-exp-test.true c.exp-item.is c.loop-exp.invariant
    c.in_ok-push.ensures.items c.in_ok-slot_pattern.ensures.is c.in_ok-slot_pattern.ensures.slots

pub slot_patterns-returns-clause-are : goal.slot_patterns-returns-clause-are
slot_patterns-returns-clause-are t c = (patterns-end c.args.exps.now c.loop-exp.exp-index c.args.slots.now c.loop-exp.slots c.loop-exp.patterns.items c.loop-exp-test.false c.loop-exp.invariant).0

pub slot_patterns-returns-clause-slots : goal.slot_patterns-returns-clause-slots
slot_patterns-returns-clause-slots t c = (patterns-end c.args.exps.now c.loop-exp.exp-index c.args.slots.now c.loop-exp.slots c.loop-exp.patterns.items c.loop-exp-test.false c.loop-exp.invariant).1

pub slot_pattern-returns-in_ok-rest-in-Some-clause-is : goal.slot_pattern-returns-in_ok-rest-in-Some-clause-is
slot_pattern-returns-in_ok-rest-in-Some-clause-is t c =
    IfOk-weaker c.cells_onto.result _ _ (λ made so. form-onto (slot_pattern (exp_tree c.args.exp.now) c.args.slots.now) (slot_patterns (exps_of c.as_slice.result.now) c.args.slots.now) (slot_pattern (exp_tree c.deref.result.now) c.slot_patterns.new.slots) (pattern_trees c.in_ok-items-in-Some.items.items) (pattern_tree c.in_ok-rest-in-Some.rest) (pattern_tree made) (pattern-onto c.args.exp.now c.in-List.items c.in-List.tail c.in-Some.tail c.as_slice.result.now c.deref.result.now c.args.slots.now c.slot_patterns.new.slots c.in-List.is c.in-Some.is c.as_slice.ensures.value c.deref.ensures c.in_ok-items-in-Some.ensures.slots) c.in_ok-items-in-Some.ensures.are c.in_ok-rest-in-Some.ensures.is so) c.cells_onto.ensures

pub slot_pattern-returns-in_ok-rest-in-Some-clause-slots : goal.slot_pattern-returns-in_ok-rest-in-Some-clause-slots
slot_pattern-returns-in_ok-rest-in-Some-clause-slots t c =
    IfOk-weaker c.cells_onto.result _ _ (λ _ so. names-as (slot_pattern (exp_tree c.args.exp.now) c.args.slots.now) (onto_pattern (slot_patterns (exps_of c.as_slice.result.now) c.args.slots.now) (slot_pattern (exp_tree c.deref.result.now) c.slot_patterns.new.slots)) c.slot_pattern.new.slots (pattern-onto c.args.exp.now c.in-List.items c.in-List.tail c.in-Some.tail c.as_slice.result.now c.deref.result.now c.args.slots.now c.slot_patterns.new.slots c.in-List.is c.in-Some.is c.as_slice.ensures.value c.deref.ensures c.in_ok-items-in-Some.ensures.slots) c.in_ok-rest-in-Some.ensures.slots) c.cells_onto.ensures

pub slot_pattern-returns-in_ok-rest-in-None-clause-is : goal.slot_pattern-returns-in_ok-rest-in-None-clause-is
slot_pattern-returns-in_ok-rest-in-None-clause-is t c =
    IfOk-weaker c.cells_onto-in-None.result _ _ (λ made so. form-list (slot_pattern (exp_tree c.args.exp.now) c.args.slots.now) (slot_patterns (exps_of c.as_slice-in-None.result.now) c.args.slots.now) (pattern_trees c.in_ok-items-in-None.items.items) (pattern_tree c.in_ok-rest-in-None.rest) (pattern_tree made) (pattern-list c.args.exp.now c.in-List.items c.in-List.tail c.as_slice-in-None.result.now c.args.slots.now c.in-List.is c.in-None.is c.as_slice-in-None.ensures.value) c.in_ok-items-in-None.ensures.are c.in_ok-rest-in-None.ensures so) c.cells_onto-in-None.ensures

pub slot_pattern-returns-in_ok-rest-in-None-clause-slots : goal.slot_pattern-returns-in_ok-rest-in-None-clause-slots
slot_pattern-returns-in_ok-rest-in-None-clause-slots t c =
    IfOk-weaker c.cells_onto-in-None.result _ _ (λ _ so. names-as (slot_pattern (exp_tree c.args.exp.now) c.args.slots.now) (list_pattern (slot_patterns (exps_of c.as_slice-in-None.result.now) c.args.slots.now)) c.slot_patterns-in-None.new.slots (pattern-list c.args.exp.now c.in-List.items c.in-List.tail c.as_slice-in-None.result.now c.args.slots.now c.in-List.is c.in-None.is c.as_slice-in-None.ensures.value) c.in_ok-items-in-None.ensures.slots) c.cells_onto-in-None.ensures

pub slot_pattern-returns-in_ok-parts-in-Array-clause-is : goal.slot_pattern-returns-in_ok-parts-in-Array-clause-is
slot_pattern-returns-in_ok-parts-in-Array-clause-is t c =
    IfOk-weaker c.structure.result _ _ (λ made so. form-structure (slot_pattern (exp_tree c.args.exp.now) c.args.slots.now) array_name array_name (slot_patterns (exps_of c.as_slice-in-Array.result.now) c.args.slots.now) (pattern_trees c.in_ok-parts-in-Array.parts.items) (pattern_tree made) (pattern-array c.args.exp.now c.in-Array.items c.as_slice-in-Array.result.now c.args.slots.now c.in-Array.is c.as_slice-in-Array.ensures.value) refl c.in_ok-parts-in-Array.ensures.are so) c.structure.ensures

pub slot_pattern-returns-in_ok-parts-in-Array-clause-slots : goal.slot_pattern-returns-in_ok-parts-in-Array-clause-slots
slot_pattern-returns-in_ok-parts-in-Array-clause-slots t c =
    IfOk-weaker c.structure.result _ _ (λ _ so. names-as (slot_pattern (exp_tree c.args.exp.now) c.args.slots.now) (structure array_name (slot_patterns (exps_of c.as_slice-in-Array.result.now) c.args.slots.now)) c.slot_patterns-in-Array.new.slots (pattern-array c.args.exp.now c.in-Array.items c.as_slice-in-Array.result.now c.args.slots.now c.in-Array.is c.as_slice-in-Array.ensures.value) c.in_ok-parts-in-Array.ensures.slots) c.structure.ensures

pub slot_pattern-returns-in_ok-parts-in-Call-clause-is : goal.slot_pattern-returns-in_ok-parts-in-Call-clause-is
slot_pattern-returns-in_ok-parts-in-Call-clause-is t c =
    IfOk-weaker c.structure-in-Call.result _ _ (λ made so. form-structure (slot_pattern (exp_tree c.args.exp.now) c.args.slots.now) c.in-Call.name c.as_str-in-Call.result.now (slot_patterns (exps_of c.as_slice-in-Call.result.now) c.args.slots.now) (pattern_trees c.in_ok-parts-in-Call.parts.items) (pattern_tree made) (pattern-call c.args.exp.now c.in-Call.name c.in-Call.args c.as_slice-in-Call.result.now c.args.slots.now c.in-Call.is c.as_slice-in-Call.ensures.value) c.as_str-in-Call.ensures c.in_ok-parts-in-Call.ensures.are so) c.structure-in-Call.ensures

pub slot_pattern-returns-in_ok-parts-in-Call-clause-slots : goal.slot_pattern-returns-in_ok-parts-in-Call-clause-slots
slot_pattern-returns-in_ok-parts-in-Call-clause-slots t c =
    IfOk-weaker c.structure-in-Call.result _ _ (λ _ so. names-as (slot_pattern (exp_tree c.args.exp.now) c.args.slots.now) (structure c.in-Call.name (slot_patterns (exps_of c.as_slice-in-Call.result.now) c.args.slots.now)) c.slot_patterns-in-Call.new.slots (pattern-call c.args.exp.now c.in-Call.name c.in-Call.args c.as_slice-in-Call.result.now c.args.slots.now c.in-Call.is c.as_slice-in-Call.ensures.value) c.in_ok-parts-in-Call.ensures.slots) c.structure-in-Call.ensures

pub slot_pattern-returns-in-Quote-clause-is : goal.slot_pattern-returns-in-Quote-clause-is
slot_pattern-returns-in-Quote-clause-is t c =
    IfOk-weaker c.slot_pattern-in-Quote.result _ _ (λ made so. form-same (slot_pattern (exp_tree c.args.exp.now) c.args.slots.now) (slot_pattern (exp_tree c.deref-in-Quote.result.now) c.args.slots.now) (pattern_tree made) (pattern-quote c.args.exp.now c.in-Quote.inner c.deref-in-Quote.result.now c.args.slots.now c.in-Quote.is c.deref-in-Quote.ensures) so) c.slot_pattern-in-Quote.ensures.is

pub slot_pattern-returns-in-Quote-clause-slots : goal.slot_pattern-returns-in-Quote-clause-slots
slot_pattern-returns-in-Quote-clause-slots t c =
    IfOk-weaker c.slot_pattern-in-Quote.result _ _ (λ _ so. names-as (slot_pattern (exp_tree c.args.exp.now) c.args.slots.now) (slot_pattern (exp_tree c.deref-in-Quote.result.now) c.args.slots.now) c.slot_pattern-in-Quote.new.slots (pattern-quote c.args.exp.now c.in-Quote.inner c.deref-in-Quote.result.now c.args.slots.now c.in-Quote.is c.deref-in-Quote.ensures) so) c.slot_pattern-in-Quote.ensures.slots

pub slot_pattern-returns-in_ok-push_pattern-in-Some-step-3-clause-is : goal.slot_pattern-returns-in_ok-push_pattern-in-Some-step-3-clause-is
slot_pattern-returns-in_ok-push_pattern-in-Some-step-3-clause-is t c =
    IfOk-weaker c.structure-in-Some-step.result _ _
    (λ made so. form-three (slot_pattern (exp_tree c.args.exp.now) c.args.slots.now) (slot_pattern (exp_tree c.deref-in-Some-step.result.now) c.args.slots.now) (slot_pattern (exp_tree c.deref-in-Some-step-2.result.now) c.push_pattern.new.slots) (slot_pattern (exp_tree c.deref-in-Some-step-3.result.now) c.push_pattern-in-Some-step.new.slots) c.new-parts.result.items c.push_pattern.new.patterns.items c.push_pattern-in-Some-step.new.patterns.items c.push_pattern-in-Some-step-2.new.patterns.items (pattern_tree made) (pattern-range_by c.args.exp.now c.in-Range.first c.in-Range.step c.in-Range.last c.in-Some-step.step c.deref-in-Some-step.result.now c.deref-in-Some-step-2.result.now c.deref-in-Some-step-3.result.now c.args.slots.now c.push_pattern.new.slots c.push_pattern-in-Some-step.new.slots c.in-Range.is c.in-Some-step.is c.deref-in-Some-step.ensures c.deref-in-Some-step-2.ensures c.deref-in-Some-step-3.ensures c.in_ok-push_pattern-in-Some-step.ensures.slots c.in_ok-push_pattern-in-Some-step-2.ensures.slots) c.new-parts.ensures.items c.in_ok-push_pattern-in-Some-step.ensures.are c.in_ok-push_pattern-in-Some-step-2.ensures.are c.in_ok-push_pattern-in-Some-step-3.ensures.are so)
    c.structure-in-Some-step.ensures

pub slot_pattern-returns-in_ok-push_pattern-in-Some-step-3-clause-slots : goal.slot_pattern-returns-in_ok-push_pattern-in-Some-step-3-clause-slots
slot_pattern-returns-in_ok-push_pattern-in-Some-step-3-clause-slots t c =
    IfOk-weaker c.structure-in-Some-step.result _ _ (λ _ so. names-as (slot_pattern (exp_tree c.args.exp.now) c.args.slots.now) (three_patterns (slot_pattern (exp_tree c.deref-in-Some-step.result.now) c.args.slots.now) (slot_pattern (exp_tree c.deref-in-Some-step-2.result.now) c.push_pattern.new.slots) (slot_pattern (exp_tree c.deref-in-Some-step-3.result.now) c.push_pattern-in-Some-step.new.slots)) c.push_pattern-in-Some-step-2.new.slots (pattern-range_by c.args.exp.now c.in-Range.first c.in-Range.step c.in-Range.last c.in-Some-step.step c.deref-in-Some-step.result.now c.deref-in-Some-step-2.result.now c.deref-in-Some-step-3.result.now c.args.slots.now c.push_pattern.new.slots c.push_pattern-in-Some-step.new.slots c.in-Range.is c.in-Some-step.is c.deref-in-Some-step.ensures c.deref-in-Some-step-2.ensures c.deref-in-Some-step-3.ensures c.in_ok-push_pattern-in-Some-step.ensures.slots c.in_ok-push_pattern-in-Some-step-2.ensures.slots) c.in_ok-push_pattern-in-Some-step-3.ensures.slots) c.structure-in-Some-step.ensures

pub slot_pattern-returns-in_ok-push_pattern-in-None-step-2-clause-is : goal.slot_pattern-returns-in_ok-push_pattern-in-None-step-2-clause-is
slot_pattern-returns-in_ok-push_pattern-in-None-step-2-clause-is t c =
    IfOk-weaker c.structure-in-None-step.result _ _
    (λ made so. form-two (slot_pattern (exp_tree c.args.exp.now) c.args.slots.now) (slot_pattern (exp_tree c.deref-in-None-step.result.now) c.args.slots.now) (slot_pattern (exp_tree c.deref-in-None-step-2.result.now) c.push_pattern-in-None-step.new.slots) c.new-parts-in-None-step.result.items c.push_pattern-in-None-step.new.patterns.items c.push_pattern-in-None-step-2.new.patterns.items (pattern_tree made) (pattern-range c.args.exp.now c.in-Range.first c.in-Range.step c.in-Range.last c.deref-in-None-step.result.now c.deref-in-None-step-2.result.now c.args.slots.now c.push_pattern-in-None-step.new.slots c.in-Range.is c.in-None-step.is c.deref-in-None-step.ensures c.deref-in-None-step-2.ensures c.in_ok-push_pattern-in-None-step.ensures.slots) c.new-parts-in-None-step.ensures.items c.in_ok-push_pattern-in-None-step.ensures.are c.in_ok-push_pattern-in-None-step-2.ensures.are so)
    c.structure-in-None-step.ensures

pub slot_pattern-returns-in_ok-push_pattern-in-None-step-2-clause-slots : goal.slot_pattern-returns-in_ok-push_pattern-in-None-step-2-clause-slots
slot_pattern-returns-in_ok-push_pattern-in-None-step-2-clause-slots t c =
    IfOk-weaker c.structure-in-None-step.result _ _ (λ _ so. names-as (slot_pattern (exp_tree c.args.exp.now) c.args.slots.now) (two_patterns (slot_pattern (exp_tree c.deref-in-None-step.result.now) c.args.slots.now) (slot_pattern (exp_tree c.deref-in-None-step-2.result.now) c.push_pattern-in-None-step.new.slots)) c.push_pattern-in-None-step-2.new.slots (pattern-range c.args.exp.now c.in-Range.first c.in-Range.step c.in-Range.last c.deref-in-None-step.result.now c.deref-in-None-step-2.result.now c.args.slots.now c.push_pattern-in-None-step.new.slots c.in-Range.is c.in-None-step.is c.deref-in-None-step.ensures c.deref-in-None-step-2.ensures c.in_ok-push_pattern-in-None-step.ensures.slots) c.in_ok-push_pattern-in-None-step-2.ensures.slots) c.structure-in-None-step.ensures

pub push_pattern-returns-clause-are : goal.push_pattern-returns-clause-are
push_pattern-returns-clause-are t c =
    put-form c.args.patterns.now.items c.push.new.self.items c.in_ok-made.made (slot_pattern (exp_tree c.args.exp.now) c.args.slots.now).form c.in_ok-push.ensures.items c.in_ok-made.ensures.is

pub push_pattern-returns-clause-slots : goal.push_pattern-returns-clause-slots
push_pattern-returns-clause-slots t c = c.in_ok-made.ensures.slots

pub push_pattern-returns-in_err-made-clause-are : goal.push_pattern-returns-in_err-made-clause-are
push_pattern-returns-in_err-made-clause-are t c = IfOk-from_err c.from_residual.result _ c.from_residual.ensures.0

pub push_pattern-returns-in_err-made-clause-slots : goal.push_pattern-returns-in_err-made-clause-slots
push_pattern-returns-in_err-made-clause-slots t c = IfOk-from_err c.from_residual.result _ c.from_residual.ensures.0

pub push_pattern-returns-in_err-push-clause-are : goal.push_pattern-returns-in_err-push-clause-are
push_pattern-returns-in_err-push-clause-are t c = IfOk-from_err c.from_residual-in_err-push.result _ c.from_residual-in_err-push.ensures.0

pub push_pattern-returns-in_err-push-clause-slots : goal.push_pattern-returns-in_err-push-clause-slots
push_pattern-returns-in_err-push-clause-slots t c = IfOk-from_err c.from_residual-in_err-push.result _ c.from_residual-in_err-push.ensures.0

pub slot_pattern-returns-in_err-slot-in-Var-clause-is : goal.slot_pattern-returns-in_err-slot-in-Var-clause-is
slot_pattern-returns-in_err-slot-in-Var-clause-is t c = IfOk-from_err c.from_residual.result _ c.from_residual.ensures.0

pub slot_pattern-returns-in_err-slot-in-Var-clause-slots : goal.slot_pattern-returns-in_err-slot-in-Var-clause-slots
slot_pattern-returns-in_err-slot-in-Var-clause-slots t c = IfOk-from_err c.from_residual.result _ c.from_residual.ensures.0

pub slot_pattern-returns-in_err-items-in-Some-clause-is : goal.slot_pattern-returns-in_err-items-in-Some-clause-is
slot_pattern-returns-in_err-items-in-Some-clause-is t c = IfOk-from_err c.from_residual-in_err-items-in-Some.result _ c.from_residual-in_err-items-in-Some.ensures.0

pub slot_pattern-returns-in_err-items-in-Some-clause-slots : goal.slot_pattern-returns-in_err-items-in-Some-clause-slots
slot_pattern-returns-in_err-items-in-Some-clause-slots t c = IfOk-from_err c.from_residual-in_err-items-in-Some.result _ c.from_residual-in_err-items-in-Some.ensures.0

pub slot_pattern-returns-in_err-rest-in-Some-clause-is : goal.slot_pattern-returns-in_err-rest-in-Some-clause-is
slot_pattern-returns-in_err-rest-in-Some-clause-is t c = IfOk-from_err c.from_residual-in_err-rest-in-Some.result _ c.from_residual-in_err-rest-in-Some.ensures.0

pub slot_pattern-returns-in_err-rest-in-Some-clause-slots : goal.slot_pattern-returns-in_err-rest-in-Some-clause-slots
slot_pattern-returns-in_err-rest-in-Some-clause-slots t c = IfOk-from_err c.from_residual-in_err-rest-in-Some.result _ c.from_residual-in_err-rest-in-Some.ensures.0

pub slot_pattern-returns-in_err-items-in-None-clause-is : goal.slot_pattern-returns-in_err-items-in-None-clause-is
slot_pattern-returns-in_err-items-in-None-clause-is t c = IfOk-from_err c.from_residual-in_err-items-in-None.result _ c.from_residual-in_err-items-in-None.ensures.0

pub slot_pattern-returns-in_err-items-in-None-clause-slots : goal.slot_pattern-returns-in_err-items-in-None-clause-slots
slot_pattern-returns-in_err-items-in-None-clause-slots t c = IfOk-from_err c.from_residual-in_err-items-in-None.result _ c.from_residual-in_err-items-in-None.ensures.0

pub slot_pattern-returns-in_err-rest-in-None-clause-is : goal.slot_pattern-returns-in_err-rest-in-None-clause-is
slot_pattern-returns-in_err-rest-in-None-clause-is t c = IfOk-from_err c.from_residual-in_err-rest-in-None.result _ c.from_residual-in_err-rest-in-None.ensures.0

pub slot_pattern-returns-in_err-rest-in-None-clause-slots : goal.slot_pattern-returns-in_err-rest-in-None-clause-slots
slot_pattern-returns-in_err-rest-in-None-clause-slots t c = IfOk-from_err c.from_residual-in_err-rest-in-None.result _ c.from_residual-in_err-rest-in-None.ensures.0

pub slot_pattern-returns-in_err-parts-in-Array-clause-is : goal.slot_pattern-returns-in_err-parts-in-Array-clause-is
slot_pattern-returns-in_err-parts-in-Array-clause-is t c = IfOk-from_err c.from_residual-in_err-parts-in-Array.result _ c.from_residual-in_err-parts-in-Array.ensures.0

pub slot_pattern-returns-in_err-parts-in-Array-clause-slots : goal.slot_pattern-returns-in_err-parts-in-Array-clause-slots
slot_pattern-returns-in_err-parts-in-Array-clause-slots t c = IfOk-from_err c.from_residual-in_err-parts-in-Array.result _ c.from_residual-in_err-parts-in-Array.ensures.0

pub slot_pattern-returns-in_err-parts-in-Call-clause-is : goal.slot_pattern-returns-in_err-parts-in-Call-clause-is
slot_pattern-returns-in_err-parts-in-Call-clause-is t c = IfOk-from_err c.from_residual-in_err-parts-in-Call.result _ c.from_residual-in_err-parts-in-Call.ensures.0

pub slot_pattern-returns-in_err-parts-in-Call-clause-slots : goal.slot_pattern-returns-in_err-parts-in-Call-clause-slots
slot_pattern-returns-in_err-parts-in-Call-clause-slots t c = IfOk-from_err c.from_residual-in_err-parts-in-Call.result _ c.from_residual-in_err-parts-in-Call.ensures.0

pub slot_pattern-returns-in_err-push_pattern-in-Some-step-clause-is : goal.slot_pattern-returns-in_err-push_pattern-in-Some-step-clause-is
slot_pattern-returns-in_err-push_pattern-in-Some-step-clause-is t c = IfOk-from_err c.from_residual-in_err-push_pattern-in-Some-step.result _ c.from_residual-in_err-push_pattern-in-Some-step.ensures.0

pub slot_pattern-returns-in_err-push_pattern-in-Some-step-clause-slots : goal.slot_pattern-returns-in_err-push_pattern-in-Some-step-clause-slots
slot_pattern-returns-in_err-push_pattern-in-Some-step-clause-slots t c = IfOk-from_err c.from_residual-in_err-push_pattern-in-Some-step.result _ c.from_residual-in_err-push_pattern-in-Some-step.ensures.0

pub slot_pattern-returns-in_err-push_pattern-in-Some-step-2-clause-is : goal.slot_pattern-returns-in_err-push_pattern-in-Some-step-2-clause-is
slot_pattern-returns-in_err-push_pattern-in-Some-step-2-clause-is t c = IfOk-from_err c.from_residual-in_err-push_pattern-in-Some-step-2.result _ c.from_residual-in_err-push_pattern-in-Some-step-2.ensures.0

pub slot_pattern-returns-in_err-push_pattern-in-Some-step-2-clause-slots : goal.slot_pattern-returns-in_err-push_pattern-in-Some-step-2-clause-slots
slot_pattern-returns-in_err-push_pattern-in-Some-step-2-clause-slots t c = IfOk-from_err c.from_residual-in_err-push_pattern-in-Some-step-2.result _ c.from_residual-in_err-push_pattern-in-Some-step-2.ensures.0

pub slot_pattern-returns-in_err-push_pattern-in-Some-step-3-clause-is : goal.slot_pattern-returns-in_err-push_pattern-in-Some-step-3-clause-is
slot_pattern-returns-in_err-push_pattern-in-Some-step-3-clause-is t c = IfOk-from_err c.from_residual-in_err-push_pattern-in-Some-step-3.result _ c.from_residual-in_err-push_pattern-in-Some-step-3.ensures.0

pub slot_pattern-returns-in_err-push_pattern-in-Some-step-3-clause-slots : goal.slot_pattern-returns-in_err-push_pattern-in-Some-step-3-clause-slots
slot_pattern-returns-in_err-push_pattern-in-Some-step-3-clause-slots t c = IfOk-from_err c.from_residual-in_err-push_pattern-in-Some-step-3.result _ c.from_residual-in_err-push_pattern-in-Some-step-3.ensures.0

pub slot_pattern-returns-in_err-push_pattern-in-None-step-clause-is : goal.slot_pattern-returns-in_err-push_pattern-in-None-step-clause-is
slot_pattern-returns-in_err-push_pattern-in-None-step-clause-is t c = IfOk-from_err c.from_residual-in_err-push_pattern-in-None-step.result _ c.from_residual-in_err-push_pattern-in-None-step.ensures.0

pub slot_pattern-returns-in_err-push_pattern-in-None-step-clause-slots : goal.slot_pattern-returns-in_err-push_pattern-in-None-step-clause-slots
slot_pattern-returns-in_err-push_pattern-in-None-step-clause-slots t c = IfOk-from_err c.from_residual-in_err-push_pattern-in-None-step.result _ c.from_residual-in_err-push_pattern-in-None-step.ensures.0

pub slot_pattern-returns-in_err-push_pattern-in-None-step-2-clause-is : goal.slot_pattern-returns-in_err-push_pattern-in-None-step-2-clause-is
slot_pattern-returns-in_err-push_pattern-in-None-step-2-clause-is t c = IfOk-from_err c.from_residual-in_err-push_pattern-in-None-step-2.result _ c.from_residual-in_err-push_pattern-in-None-step-2.ensures.0

pub slot_pattern-returns-in_err-push_pattern-in-None-step-2-clause-slots : goal.slot_pattern-returns-in_err-push_pattern-in-None-step-2-clause-slots
slot_pattern-returns-in_err-push_pattern-in-None-step-2-clause-slots t c = IfOk-from_err c.from_residual-in_err-push_pattern-in-None-step-2.result _ c.from_residual-in_err-push_pattern-in-None-step-2.ensures.0

pub slot_pattern-returns-in_err-slot-in-At-clause-is : goal.slot_pattern-returns-in_err-slot-in-At-clause-is
slot_pattern-returns-in_err-slot-in-At-clause-is t c = IfOk-from_err c.from_residual-in_err-slot-in-At.result _ c.from_residual-in_err-slot-in-At.ensures.0

pub slot_pattern-returns-in_err-slot-in-At-clause-slots : goal.slot_pattern-returns-in_err-slot-in-At-clause-slots
slot_pattern-returns-in_err-slot-in-At-clause-slots t c = IfOk-from_err c.from_residual-in_err-slot-in-At.result _ c.from_residual-in_err-slot-in-At.ensures.0

pub slot_pattern-returns-in_err-part-in-At-clause-is : goal.slot_pattern-returns-in_err-part-in-At-clause-is
slot_pattern-returns-in_err-part-in-At-clause-is t c = IfOk-from_err c.from_residual-in_err-part-in-At.result _ c.from_residual-in_err-part-in-At.ensures.0

pub slot_pattern-returns-in_err-part-in-At-clause-slots : goal.slot_pattern-returns-in_err-part-in-At-clause-slots
slot_pattern-returns-in_err-part-in-At-clause-slots t c = IfOk-from_err c.from_residual-in_err-part-in-At.result _ c.from_residual-in_err-part-in-At.ensures.0

pub slot_pattern-returns-in_err-part-in-At-2-clause-is : goal.slot_pattern-returns-in_err-part-in-At-2-clause-is
slot_pattern-returns-in_err-part-in-At-2-clause-is t c = IfOk-from_err c.from_residual-in_err-part-in-At-2.result _ c.from_residual-in_err-part-in-At-2.ensures.0

pub slot_pattern-returns-in_err-part-in-At-2-clause-slots : goal.slot_pattern-returns-in_err-part-in-At-2-clause-slots
slot_pattern-returns-in_err-part-in-At-2-clause-slots t c = IfOk-from_err c.from_residual-in_err-part-in-At-2.result _ c.from_residual-in_err-part-in-At-2.ensures.0

pub slot_patterns-returns-in_err-slot_pattern-clause-are : goal.slot_patterns-returns-in_err-slot_pattern-clause-are
slot_patterns-returns-in_err-slot_pattern-clause-are t c = IfOk-from_err c.from_residual.result _ c.from_residual.ensures.0

pub slot_patterns-returns-in_err-slot_pattern-clause-slots : goal.slot_patterns-returns-in_err-slot_pattern-clause-slots
slot_patterns-returns-in_err-slot_pattern-clause-slots t c = IfOk-from_err c.from_residual.result _ c.from_residual.ensures.0

pub slot_patterns-returns-in_err-push-clause-are : goal.slot_patterns-returns-in_err-push-clause-are
slot_patterns-returns-in_err-push-clause-are t c = IfOk-from_err c.from_residual-in_err-push.result _ c.from_residual-in_err-push.ensures.0

pub slot_patterns-returns-in_err-push-clause-slots : goal.slot_patterns-returns-in_err-push-clause-slots
slot_patterns-returns-in_err-push-clause-slots t c = IfOk-from_err c.from_residual-in_err-push.result _ c.from_residual-in_err-push.ensures.0

pub slot_pattern-returns-in_ok-slot-in-Var-clause-is : goal.slot_pattern-returns-in_ok-slot-in-Var-clause-is
slot_pattern-returns-in_ok-slot-in-Var-clause-is t c = form-var c.args.exp.now c.in-Var.name c.as_str.result.now c.args.slots.now c.in_ok-slot-in-Var.slot c.in-Var.is c.as_str.ensures c.in_ok-slot-in-Var.ensures.is

pub slot_pattern-returns-in_ok-slot-in-Var-clause-slots : goal.slot_pattern-returns-in_ok-slot-in-Var-clause-slots
slot_pattern-returns-in_ok-slot-in-Var-clause-slots t c = names-var c.args.exp.now c.in-Var.name c.as_str.result.now c.args.slots.now c.slot_for.new.self c.in-Var.is c.as_str.ensures c.in_ok-slot-in-Var.ensures.slots

pub slot_pattern-returns-in-Atom-clause-is : goal.slot_pattern-returns-in-Atom-clause-is
slot_pattern-returns-in-Atom-clause-is t c = IfOk-weaker c.exact_atom.result _ _ (λ made so. form-atom c.args.exp.now c.in-Atom.name c.as_str-in-Atom.result.now c.args.slots.now (pattern_tree made) c.in-Atom.is c.as_str-in-Atom.ensures so) c.exact_atom.ensures

pub slot_pattern-returns-in-Atom-clause-slots : goal.slot_pattern-returns-in-Atom-clause-slots
slot_pattern-returns-in-Atom-clause-slots t c = IfOk-weaker c.exact_atom.result _ _ (λ _ _. names-atom c.args.exp.now c.in-Atom.name c.args.slots.now c.in-Atom.is) c.exact_atom.ensures

pub slot_pattern-returns-in-Str-clause-is : goal.slot_pattern-returns-in-Str-clause-is
slot_pattern-returns-in-Str-clause-is t c = IfOk-weaker c.exact_text.result _ _ (λ made so. form-str c.args.exp.now c.in-Str.text c.as_str-in-Str.result.now c.args.slots.now (pattern_tree made) c.in-Str.is c.as_str-in-Str.ensures so) c.exact_text.ensures

pub slot_pattern-returns-in-Str-clause-slots : goal.slot_pattern-returns-in-Str-clause-slots
slot_pattern-returns-in-Str-clause-slots t c = IfOk-weaker c.exact_text.result _ _ (λ _ _. names-str c.args.exp.now c.in-Str.text c.args.slots.now c.in-Str.is) c.exact_text.ensures

pub slot_pattern-returns-in-Index-clause-is : goal.slot_pattern-returns-in-Index-clause-is
slot_pattern-returns-in-Index-clause-is t c = IfOk-weaker c.exact_atom-in-Index.result _ _ (λ made so. form-same (slot_pattern (exp_tree c.args.exp.now) c.args.slots.now) (exact (exact_atom []) c.args.slots.now) (pattern_tree made) (nameless-index c.args.exp.now _ _ c.args.slots.now c.in-Index.is) so) c.exact_atom-in-Index.ensures

pub slot_pattern-returns-in-Index-clause-slots : goal.slot_pattern-returns-in-Index-clause-slots
slot_pattern-returns-in-Index-clause-slots t c = IfOk-weaker c.exact_atom-in-Index.result _ _ (λ _ _. names-as (slot_pattern (exp_tree c.args.exp.now) c.args.slots.now) (exact (exact_atom []) c.args.slots.now) c.args.slots.now (nameless-index c.args.exp.now _ _ c.args.slots.now c.in-Index.is) refl) c.exact_atom-in-Index.ensures

pub slot_pattern-returns-in-Collect-clause-is : goal.slot_pattern-returns-in-Collect-clause-is
slot_pattern-returns-in-Collect-clause-is t c = IfOk-weaker c.exact_atom-in-Collect.result _ _ (λ made so. form-same (slot_pattern (exp_tree c.args.exp.now) c.args.slots.now) (exact (exact_atom []) c.args.slots.now) (pattern_tree made) (nameless-collect c.args.exp.now _ _ _ c.args.slots.now c.in-Collect.is) so) c.exact_atom-in-Collect.ensures

pub slot_pattern-returns-in-Collect-clause-slots : goal.slot_pattern-returns-in-Collect-clause-slots
slot_pattern-returns-in-Collect-clause-slots t c = IfOk-weaker c.exact_atom-in-Collect.result _ _ (λ _ _. names-as (slot_pattern (exp_tree c.args.exp.now) c.args.slots.now) (exact (exact_atom []) c.args.slots.now) c.args.slots.now (nameless-collect c.args.exp.now _ _ _ c.args.slots.now c.in-Collect.is) refl) c.exact_atom-in-Collect.ensures

pub slot_pattern-returns-in-And-clause-is : goal.slot_pattern-returns-in-And-clause-is
slot_pattern-returns-in-And-clause-is t c = IfOk-weaker c.exact_atom-in-And.result _ _ (λ made so. form-same (slot_pattern (exp_tree c.args.exp.now) c.args.slots.now) (exact (exact_atom []) c.args.slots.now) (pattern_tree made) (nameless-and c.args.exp.now _ c.args.slots.now c.in-And.is) so) c.exact_atom-in-And.ensures

pub slot_pattern-returns-in-And-clause-slots : goal.slot_pattern-returns-in-And-clause-slots
slot_pattern-returns-in-And-clause-slots t c = IfOk-weaker c.exact_atom-in-And.result _ _ (λ _ _. names-as (slot_pattern (exp_tree c.args.exp.now) c.args.slots.now) (exact (exact_atom []) c.args.slots.now) c.args.slots.now (nameless-and c.args.exp.now _ c.args.slots.now c.in-And.is) refl) c.exact_atom-in-And.ensures

pub slot_pattern-returns-in-Or-clause-is : goal.slot_pattern-returns-in-Or-clause-is
slot_pattern-returns-in-Or-clause-is t c = IfOk-weaker c.exact_atom-in-Or.result _ _ (λ made so. form-same (slot_pattern (exp_tree c.args.exp.now) c.args.slots.now) (exact (exact_atom []) c.args.slots.now) (pattern_tree made) (nameless-or c.args.exp.now _ c.args.slots.now c.in-Or.is) so) c.exact_atom-in-Or.ensures

pub slot_pattern-returns-in-Or-clause-slots : goal.slot_pattern-returns-in-Or-clause-slots
slot_pattern-returns-in-Or-clause-slots t c = IfOk-weaker c.exact_atom-in-Or.result _ _ (λ _ _. names-as (slot_pattern (exp_tree c.args.exp.now) c.args.slots.now) (exact (exact_atom []) c.args.slots.now) c.args.slots.now (nameless-or c.args.exp.now _ c.args.slots.now c.in-Or.is) refl) c.exact_atom-in-Or.ensures

pub slot_pattern-returns-in-Arrow-clause-is : goal.slot_pattern-returns-in-Arrow-clause-is
slot_pattern-returns-in-Arrow-clause-is t c = IfOk-weaker c.exact_atom-in-Arrow.result _ _ (λ made so. form-same (slot_pattern (exp_tree c.args.exp.now) c.args.slots.now) (exact (exact_atom []) c.args.slots.now) (pattern_tree made) (nameless-arrow c.args.exp.now _ _ c.args.slots.now c.in-Arrow.is) so) c.exact_atom-in-Arrow.ensures

pub slot_pattern-returns-in-Arrow-clause-slots : goal.slot_pattern-returns-in-Arrow-clause-slots
slot_pattern-returns-in-Arrow-clause-slots t c = IfOk-weaker c.exact_atom-in-Arrow.result _ _ (λ _ _. names-as (slot_pattern (exp_tree c.args.exp.now) c.args.slots.now) (exact (exact_atom []) c.args.slots.now) c.args.slots.now (nameless-arrow c.args.exp.now _ _ c.args.slots.now c.in-Arrow.is) refl) c.exact_atom-in-Arrow.ensures

pub slot_pattern-returns-in-If-clause-is : goal.slot_pattern-returns-in-If-clause-is
slot_pattern-returns-in-If-clause-is t c = IfOk-weaker c.exact_atom-in-If.result _ _ (λ made so. form-same (slot_pattern (exp_tree c.args.exp.now) c.args.slots.now) (exact (exact_atom []) c.args.slots.now) (pattern_tree made) (nameless-if c.args.exp.now _ _ c.args.slots.now c.in-If.is) so) c.exact_atom-in-If.ensures

pub slot_pattern-returns-in-If-clause-slots : goal.slot_pattern-returns-in-If-clause-slots
slot_pattern-returns-in-If-clause-slots t c = IfOk-weaker c.exact_atom-in-If.result _ _ (λ _ _. names-as (slot_pattern (exp_tree c.args.exp.now) c.args.slots.now) (exact (exact_atom []) c.args.slots.now) c.args.slots.now (nameless-if c.args.exp.now _ _ c.args.slots.now c.in-If.is) refl) c.exact_atom-in-If.ensures

pub slot_pattern-returns-in-Foreach-clause-is : goal.slot_pattern-returns-in-Foreach-clause-is
slot_pattern-returns-in-Foreach-clause-is t c = IfOk-weaker c.exact_atom-in-Foreach.result _ _ (λ made so. form-same (slot_pattern (exp_tree c.args.exp.now) c.args.slots.now) (exact (exact_atom []) c.args.slots.now) (pattern_tree made) (nameless-foreach c.args.exp.now _ _ c.args.slots.now c.in-Foreach.is) so) c.exact_atom-in-Foreach.ensures

pub slot_pattern-returns-in-Foreach-clause-slots : goal.slot_pattern-returns-in-Foreach-clause-slots
slot_pattern-returns-in-Foreach-clause-slots t c = IfOk-weaker c.exact_atom-in-Foreach.result _ _ (λ _ _. names-as (slot_pattern (exp_tree c.args.exp.now) c.args.slots.now) (exact (exact_atom []) c.args.slots.now) c.args.slots.now (nameless-foreach c.args.exp.now _ _ c.args.slots.now c.in-Foreach.is) refl) c.exact_atom-in-Foreach.ensures

pub slot_pattern-returns-in-While-clause-is : goal.slot_pattern-returns-in-While-clause-is
slot_pattern-returns-in-While-clause-is t c = IfOk-weaker c.exact_atom-in-While.result _ _ (λ made so. form-same (slot_pattern (exp_tree c.args.exp.now) c.args.slots.now) (exact (exact_atom []) c.args.slots.now) (pattern_tree made) (nameless-while c.args.exp.now _ _ c.args.slots.now c.in-While.is) so) c.exact_atom-in-While.ensures

pub slot_pattern-returns-in-While-clause-slots : goal.slot_pattern-returns-in-While-clause-slots
slot_pattern-returns-in-While-clause-slots t c = IfOk-weaker c.exact_atom-in-While.result _ _ (λ _ _. names-as (slot_pattern (exp_tree c.args.exp.now) c.args.slots.now) (exact (exact_atom []) c.args.slots.now) c.args.slots.now (nameless-while c.args.exp.now _ _ c.args.slots.now c.in-While.is) refl) c.exact_atom-in-While.ensures

pub slot_pattern-returns-in-DoWhile-clause-is : goal.slot_pattern-returns-in-DoWhile-clause-is
slot_pattern-returns-in-DoWhile-clause-is t c = IfOk-weaker c.exact_atom-in-DoWhile.result _ _ (λ made so. form-same (slot_pattern (exp_tree c.args.exp.now) c.args.slots.now) (exact (exact_atom []) c.args.slots.now) (pattern_tree made) (nameless-do_while c.args.exp.now _ _ c.args.slots.now c.in-DoWhile.is) so) c.exact_atom-in-DoWhile.ensures

pub slot_pattern-returns-in-DoWhile-clause-slots : goal.slot_pattern-returns-in-DoWhile-clause-slots
slot_pattern-returns-in-DoWhile-clause-slots t c = IfOk-weaker c.exact_atom-in-DoWhile.result _ _ (λ _ _. names-as (slot_pattern (exp_tree c.args.exp.now) c.args.slots.now) (exact (exact_atom []) c.args.slots.now) c.args.slots.now (nameless-do_while c.args.exp.now _ _ c.args.slots.now c.in-DoWhile.is) refl) c.exact_atom-in-DoWhile.ensures
