-- Each kind of expression by its lemma.
use Rattle.std.proofs.Common.{◌≡◌, [], length, refl, rules}
use Rattle.std.specs.Prelude.{codes}
use Rattle.std.proofs.lemmas.Result.{IfOk-weaker}
use Rattle.pi_terms.specs.Tree.{Tree}
use Rattle.pi_terms.specs.ListNames.{nil}
use Rattle.pi_syntax.specs.PrintTerm.{array_name}
use Rattle.pi_syntax.specs.ExpTree.{exp_tree}
use Rattle.pi_syntax.specs.ExpLists.{exps_of}
use Rattle.pi_meaning.specs.OverNames.Terms.{items_onto}
use Rattle.pi_rewrite_spec.specs.Values.{slot_term, slot_terms, constant, made_of, made_onto}
use Rattle.pi_rewrite_slots.proofs.StepLemmas.{did}
use Rattle.pi_rewrite_slots.proofs.TermLemmas.{terms-none, terms-more, terms-end, items-none, items-more, items-end}
use Rattle.pi_rewrite_slots.proofs.ArmLemmas.{term-list, term-onto, term-array, term-call, term-quote, term-range, term-range_by, two_terms, three_terms, cells-list, cells-onto, cells-comp, cells-same, cells-two, cells-three, names-as, nameless-index, nameless-at, nameless-collect, nameless-and, nameless-or, nameless-arrow, nameless-if, nameless-foreach, nameless-while, nameless-do_while, cells-nameless, cells-var, names-var, cells-atom, names-atom, cells-str, names-str}
use Rattle.pi_rewrite_slots.proofs.terms.+standing.Goals as goal

pub push_terms-loop-exp-init : goal.push_terms-loop-exp-init
push_terms-loop-exp-init t c = terms-none c.args.exps.now c.args.slots.now c.args.cells.now.items

pub push_terms-loop-exp-preserved : goal.push_terms-loop-exp-preserved
push_terms-loop-exp-preserved t c =
    terms-more c.args.exps.now c.loop-exp.exp-index c.exp-item.result c.args.slots.now c.loop-exp.slots c.push_term.new.slots c.args.cells.now.items c.loop-exp.cells.items c.push_term.new.cells.items c.loop-exp-test.true c.exp-item.is c.loop-exp.invariant
    c.in_ok-push_term.ensures.cells c.in_ok-push_term.ensures.slots

pub push_terms-returns-clause-cells : goal.push_terms-returns-clause-cells
push_terms-returns-clause-cells t c = (terms-end c.args.exps.now c.loop-exp.exp-index c.args.slots.now c.loop-exp.slots c.args.cells.now.items c.loop-exp.cells.items c.loop-exp-test.false c.loop-exp.invariant).0

pub push_terms-returns-clause-slots : goal.push_terms-returns-clause-slots
push_terms-returns-clause-slots t c = (terms-end c.args.exps.now c.loop-exp.exp-index c.args.slots.now c.loop-exp.slots c.args.cells.now.items c.loop-exp.cells.items c.loop-exp-test.false c.loop-exp.invariant).1

pub push_items-loop-exp-init : goal.push_items-loop-exp-init
push_items-loop-exp-init t c = items-none c.args.exps.now c.args.slots.now c.args.cells.now.items

pub push_items-loop-exp-preserved : goal.push_items-loop-exp-preserved
push_items-loop-exp-preserved t c =
    items-more c.args.exps.now c.loop-exp.exp-index c.exp-item.result c.args.slots.now c.loop-exp.slots c.push_term.new.slots c.args.cells.now.items c.loop-exp.cells.items c.push_list_cell.new.cells.items c.push_term.new.cells.items c.loop-exp-test.true c.exp-item.is c.loop-exp.invariant
    c.in_ok-push_list_cell.ensures c.in_ok-push_term.ensures.cells c.in_ok-push_term.ensures.slots

pub push_items-returns-clause-cells : goal.push_items-returns-clause-cells
push_items-returns-clause-cells t c = (items-end c.args.exps.now c.loop-exp.exp-index c.args.slots.now c.loop-exp.slots c.args.cells.now.items c.loop-exp.cells.items c.loop-exp-test.false c.loop-exp.invariant).0

pub push_items-returns-clause-slots : goal.push_items-returns-clause-slots
push_items-returns-clause-slots t c = (items-end c.args.exps.now c.loop-exp.exp-index c.args.slots.now c.loop-exp.slots c.args.cells.now.items c.loop-exp.cells.items c.loop-exp-test.false c.loop-exp.invariant).1

pub push_term-returns-in-Some-clause-cells : goal.push_term-returns-in-Some-clause-cells
push_term-returns-in-Some-clause-cells t c =
    IfOk-weaker c.both.result _ _ (λ _ w. cells-onto (slot_term (exp_tree c.args.exp.now) c.args.slots.now) (slot_terms (exps_of c.as_slice.result.now) c.args.slots.now) (slot_term (exp_tree c.deref.result.now) c.push_items.new.slots) c.args.cells.now.items c.push_items.new.cells.items c.push_term.new.cells.items (term-onto c.args.exp.now c.in-List.items c.in-List.tail c.in-Some.tail c.as_slice.result.now c.deref.result.now c.args.slots.now c.push_items.new.slots c.in-List.is c.in-Some.is c.as_slice.ensures.value c.deref.ensures (did c.push_items.result _ w.0 c.push_items.ensures.slots)) (did c.push_items.result _ w.0 c.push_items.ensures.cells) (did c.push_term.result _ w.1 c.push_term.ensures.cells)) c.both.ensures

pub push_term-returns-in-Some-clause-slots : goal.push_term-returns-in-Some-clause-slots
push_term-returns-in-Some-clause-slots t c =
    IfOk-weaker c.both.result _ _ (λ _ w. names-as (slot_term (exp_tree c.args.exp.now) c.args.slots.now) (made_onto (slot_terms (exps_of c.as_slice.result.now) c.args.slots.now) (slot_term (exp_tree c.deref.result.now) c.push_items.new.slots)) c.push_term.new.slots (term-onto c.args.exp.now c.in-List.items c.in-List.tail c.in-Some.tail c.as_slice.result.now c.deref.result.now c.args.slots.now c.push_items.new.slots c.in-List.is c.in-Some.is c.as_slice.ensures.value c.deref.ensures (did c.push_items.result _ w.0 c.push_items.ensures.slots)) (did c.push_term.result _ w.1 c.push_term.ensures.slots)) c.both.ensures

pub push_term-returns-in-None-clause-cells : goal.push_term-returns-in-None-clause-cells
push_term-returns-in-None-clause-cells t c =
    IfOk-weaker c.both-in-None.result _ _ (λ _ w. cells-list (slot_term (exp_tree c.args.exp.now) c.args.slots.now) (slot_terms (exps_of c.as_slice-in-None.result.now) c.args.slots.now) c.args.cells.now.items c.push_items-in-None.new.cells.items c.push_atom-in-None.new.cells.items nil (term-list c.args.exp.now c.in-List.items c.in-List.tail c.as_slice-in-None.result.now c.args.slots.now c.in-List.is c.in-None.is c.as_slice-in-None.ensures.value) refl (did c.push_items-in-None.result _ w.0 c.push_items-in-None.ensures.cells) (did c.push_atom-in-None.result _ w.1 c.push_atom-in-None.ensures)) c.both-in-None.ensures

pub push_term-returns-in-None-clause-slots : goal.push_term-returns-in-None-clause-slots
push_term-returns-in-None-clause-slots t c =
    IfOk-weaker c.both-in-None.result _ _ (λ _ w. names-as (slot_term (exp_tree c.args.exp.now) c.args.slots.now) (made_of (λ ts. items_onto ts (Tree.atom nil)) (slot_terms (exps_of c.as_slice-in-None.result.now) c.args.slots.now)) c.push_items-in-None.new.slots (term-list c.args.exp.now c.in-List.items c.in-List.tail c.as_slice-in-None.result.now c.args.slots.now c.in-List.is c.in-None.is c.as_slice-in-None.ensures.value) (did c.push_items-in-None.result _ w.0 c.push_items-in-None.ensures.slots)) c.both-in-None.ensures

pub push_term-returns-in-Array-clause-cells : goal.push_term-returns-in-Array-clause-cells
push_term-returns-in-Array-clause-cells t c =
    IfOk-weaker c.both-in-Array.result _ _ (λ _ w. let count : c.len.result ≡ length c.as_slice-in-Array.result.now = search rules in
    cells-comp (slot_term (exp_tree c.args.exp.now) c.args.slots.now) array_name array_name c.as_slice-in-Array.result.now c.args.slots.now c.len.result c.args.cells.now.items c.push_compound.new.cells.items c.push_terms.new.cells.items (term-array c.args.exp.now c.in-Array.items c.as_slice-in-Array.result.now c.args.slots.now c.in-Array.is c.as_slice-in-Array.ensures.value) refl count (did c.push_compound.result _ w.0 c.push_compound.ensures) (did c.push_terms.result _ w.1 c.push_terms.ensures.cells)) c.both-in-Array.ensures

pub push_term-returns-in-Array-clause-slots : goal.push_term-returns-in-Array-clause-slots
push_term-returns-in-Array-clause-slots t c =
    IfOk-weaker c.both-in-Array.result _ _ (λ _ w. names-as (slot_term (exp_tree c.args.exp.now) c.args.slots.now) (made_of (Tree.comp array_name) (slot_terms (exps_of c.as_slice-in-Array.result.now) c.args.slots.now)) c.push_terms.new.slots (term-array c.args.exp.now c.in-Array.items c.as_slice-in-Array.result.now c.args.slots.now c.in-Array.is c.as_slice-in-Array.ensures.value) (did c.push_terms.result _ w.1 c.push_terms.ensures.slots)) c.both-in-Array.ensures

pub push_term-returns-in-Call-clause-cells : goal.push_term-returns-in-Call-clause-cells
push_term-returns-in-Call-clause-cells t c =
    IfOk-weaker c.both-in-Call.result _ _ (λ _ w. let count : c.len-in-Call.result ≡ length c.as_slice-in-Call.result.now = search rules in
    cells-comp (slot_term (exp_tree c.args.exp.now) c.args.slots.now) c.in-Call.name c.as_str-in-Call.result.now c.as_slice-in-Call.result.now c.args.slots.now c.len-in-Call.result c.args.cells.now.items c.push_compound-in-Call.new.cells.items c.push_terms-in-Call.new.cells.items (term-call c.args.exp.now c.in-Call.name c.in-Call.args c.as_slice-in-Call.result.now c.args.slots.now c.in-Call.is c.as_slice-in-Call.ensures.value) c.as_str-in-Call.ensures count (did c.push_compound-in-Call.result _ w.0 c.push_compound-in-Call.ensures) (did c.push_terms-in-Call.result _ w.1 c.push_terms-in-Call.ensures.cells)) c.both-in-Call.ensures

pub push_term-returns-in-Call-clause-slots : goal.push_term-returns-in-Call-clause-slots
push_term-returns-in-Call-clause-slots t c =
    IfOk-weaker c.both-in-Call.result _ _ (λ _ w. names-as (slot_term (exp_tree c.args.exp.now) c.args.slots.now) (made_of (Tree.comp c.in-Call.name) (slot_terms (exps_of c.as_slice-in-Call.result.now) c.args.slots.now)) c.push_terms-in-Call.new.slots (term-call c.args.exp.now c.in-Call.name c.in-Call.args c.as_slice-in-Call.result.now c.args.slots.now c.in-Call.is c.as_slice-in-Call.ensures.value) (did c.push_terms-in-Call.result _ w.1 c.push_terms-in-Call.ensures.slots)) c.both-in-Call.ensures

pub push_term-returns-in-Quote-clause-cells : goal.push_term-returns-in-Quote-clause-cells
push_term-returns-in-Quote-clause-cells t c =
    IfOk-weaker c.push_term-in-Quote.result _ _ (λ _ so. cells-same (slot_term (exp_tree c.args.exp.now) c.args.slots.now) (slot_term (exp_tree c.deref-in-Quote.result.now) c.args.slots.now) c.args.cells.now.items c.push_term-in-Quote.new.cells.items (term-quote c.args.exp.now c.in-Quote.inner c.deref-in-Quote.result.now c.args.slots.now c.in-Quote.is c.deref-in-Quote.ensures) so) c.push_term-in-Quote.ensures.cells

pub push_term-returns-in-Quote-clause-slots : goal.push_term-returns-in-Quote-clause-slots
push_term-returns-in-Quote-clause-slots t c =
    IfOk-weaker c.push_term-in-Quote.result _ _ (λ _ so. names-as (slot_term (exp_tree c.args.exp.now) c.args.slots.now) (slot_term (exp_tree c.deref-in-Quote.result.now) c.args.slots.now) c.push_term-in-Quote.new.slots (term-quote c.args.exp.now c.in-Quote.inner c.deref-in-Quote.result.now c.args.slots.now c.in-Quote.is c.deref-in-Quote.ensures) so) c.push_term-in-Quote.ensures.slots

pub push_term-returns-in-Some-step-clause-cells : goal.push_term-returns-in-Some-step-clause-cells
push_term-returns-in-Some-step-clause-cells t c =
    IfOk-weaker c.both-in-Some-step-3.result _ _ (λ _ w. let v = did c.both-in-Some-step.result _ w.0 c.both-in-Some-step.ensures in let u = did c.both-in-Some-step-2.result _ w.1 c.both-in-Some-step-2.ensures in cells-three (slot_term (exp_tree c.args.exp.now) c.args.slots.now) (slot_term (exp_tree c.deref-in-Some-step.result.now) c.args.slots.now) (slot_term (exp_tree c.deref-in-Some-step-2.result.now) c.push_term-in-Some-step.new.slots) (slot_term (exp_tree c.deref-in-Some-step-3.result.now) c.push_term-in-Some-step-2.new.slots) (codes "..") c.args.cells.now.items c.push_compound-in-Some-step.new.cells.items c.push_term-in-Some-step.new.cells.items c.push_term-in-Some-step-2.new.cells.items c.push_term-in-Some-step-3.new.cells.items (term-range_by c.args.exp.now c.in-Range.first c.in-Range.step c.in-Range.last c.in-Some-step.step c.deref-in-Some-step.result.now c.deref-in-Some-step-2.result.now c.deref-in-Some-step-3.result.now c.args.slots.now c.push_term-in-Some-step.new.slots c.push_term-in-Some-step-2.new.slots c.in-Range.is c.in-Some-step.is c.deref-in-Some-step.ensures c.deref-in-Some-step-2.ensures c.deref-in-Some-step-3.ensures (did c.push_term-in-Some-step.result _ v.1 c.push_term-in-Some-step.ensures.slots) (did c.push_term-in-Some-step-2.result _ u.0 c.push_term-in-Some-step-2.ensures.slots)) refl (did c.push_compound-in-Some-step.result _ v.0 c.push_compound-in-Some-step.ensures) (did c.push_term-in-Some-step.result _ v.1 c.push_term-in-Some-step.ensures.cells) (did c.push_term-in-Some-step-2.result _ u.0 c.push_term-in-Some-step-2.ensures.cells) (did c.push_term-in-Some-step-3.result _ u.1 c.push_term-in-Some-step-3.ensures.cells)) c.both-in-Some-step-3.ensures

pub push_term-returns-in-Some-step-clause-slots : goal.push_term-returns-in-Some-step-clause-slots
push_term-returns-in-Some-step-clause-slots t c =
    IfOk-weaker c.both-in-Some-step-3.result _ _ (λ _ w. let v = did c.both-in-Some-step.result _ w.0 c.both-in-Some-step.ensures in let u = did c.both-in-Some-step-2.result _ w.1 c.both-in-Some-step-2.ensures in names-as (slot_term (exp_tree c.args.exp.now) c.args.slots.now) (three_terms (slot_term (exp_tree c.deref-in-Some-step.result.now) c.args.slots.now) (slot_term (exp_tree c.deref-in-Some-step-2.result.now) c.push_term-in-Some-step.new.slots) (slot_term (exp_tree c.deref-in-Some-step-3.result.now) c.push_term-in-Some-step-2.new.slots)) c.push_term-in-Some-step-3.new.slots (term-range_by c.args.exp.now c.in-Range.first c.in-Range.step c.in-Range.last c.in-Some-step.step c.deref-in-Some-step.result.now c.deref-in-Some-step-2.result.now c.deref-in-Some-step-3.result.now c.args.slots.now c.push_term-in-Some-step.new.slots c.push_term-in-Some-step-2.new.slots c.in-Range.is c.in-Some-step.is c.deref-in-Some-step.ensures c.deref-in-Some-step-2.ensures c.deref-in-Some-step-3.ensures (did c.push_term-in-Some-step.result _ v.1 c.push_term-in-Some-step.ensures.slots) (did c.push_term-in-Some-step-2.result _ u.0 c.push_term-in-Some-step-2.ensures.slots)) (did c.push_term-in-Some-step-3.result _ u.1 c.push_term-in-Some-step-3.ensures.slots)) c.both-in-Some-step-3.ensures

pub push_term-returns-in-None-step-clause-cells : goal.push_term-returns-in-None-step-clause-cells
push_term-returns-in-None-step-clause-cells t c =
    IfOk-weaker c.both-in-None-step-2.result _ _ (λ _ w. let v = did c.both-in-None-step.result _ w.0 c.both-in-None-step.ensures in cells-two (slot_term (exp_tree c.args.exp.now) c.args.slots.now) (slot_term (exp_tree c.deref-in-None-step.result.now) c.args.slots.now) (slot_term (exp_tree c.deref-in-None-step-2.result.now) c.push_term-in-None-step.new.slots) (codes "..") c.args.cells.now.items c.push_compound-in-None-step.new.cells.items c.push_term-in-None-step.new.cells.items c.push_term-in-None-step-2.new.cells.items (term-range c.args.exp.now c.in-Range.first c.in-Range.step c.in-Range.last c.deref-in-None-step.result.now c.deref-in-None-step-2.result.now c.args.slots.now c.push_term-in-None-step.new.slots c.in-Range.is c.in-None-step.is c.deref-in-None-step.ensures c.deref-in-None-step-2.ensures (did c.push_term-in-None-step.result _ v.1 c.push_term-in-None-step.ensures.slots)) refl (did c.push_compound-in-None-step.result _ v.0 c.push_compound-in-None-step.ensures) (did c.push_term-in-None-step.result _ v.1 c.push_term-in-None-step.ensures.cells) (did c.push_term-in-None-step-2.result _ w.1 c.push_term-in-None-step-2.ensures.cells)) c.both-in-None-step-2.ensures

pub push_term-returns-in-None-step-clause-slots : goal.push_term-returns-in-None-step-clause-slots
push_term-returns-in-None-step-clause-slots t c =
    IfOk-weaker c.both-in-None-step-2.result _ _ (λ _ w. let v = did c.both-in-None-step.result _ w.0 c.both-in-None-step.ensures in names-as (slot_term (exp_tree c.args.exp.now) c.args.slots.now) (two_terms (slot_term (exp_tree c.deref-in-None-step.result.now) c.args.slots.now) (slot_term (exp_tree c.deref-in-None-step-2.result.now) c.push_term-in-None-step.new.slots)) c.push_term-in-None-step-2.new.slots (term-range c.args.exp.now c.in-Range.first c.in-Range.step c.in-Range.last c.deref-in-None-step.result.now c.deref-in-None-step-2.result.now c.args.slots.now c.push_term-in-None-step.new.slots c.in-Range.is c.in-None-step.is c.deref-in-None-step.ensures c.deref-in-None-step-2.ensures (did c.push_term-in-None-step.result _ v.1 c.push_term-in-None-step.ensures.slots)) (did c.push_term-in-None-step-2.result _ w.1 c.push_term-in-None-step-2.ensures.slots)) c.both-in-None-step-2.ensures

pub push_term-returns-in-Var-clause-cells : goal.push_term-returns-in-Var-clause-cells
push_term-returns-in-Var-clause-cells t c = IfOk-weaker c.push_slot.result _ _ (λ _ so. cells-var c.args.exp.now c.in-Var.name c.as_str.result.now c.args.slots.now c.args.cells.now.items c.push_slot.new.cells.items c.in-Var.is c.as_str.ensures so) c.push_slot.ensures.cells

pub push_term-returns-in-Var-clause-slots : goal.push_term-returns-in-Var-clause-slots
push_term-returns-in-Var-clause-slots t c = IfOk-weaker c.push_slot.result _ _ (λ _ so. names-var c.args.exp.now c.in-Var.name c.as_str.result.now c.args.slots.now c.push_slot.new.slots c.in-Var.is c.as_str.ensures so) c.push_slot.ensures.slots

pub push_term-returns-in-Atom-clause-cells : goal.push_term-returns-in-Atom-clause-cells
push_term-returns-in-Atom-clause-cells t c = IfOk-weaker c.push_atom.result _ _ (λ _ so. cells-atom c.args.exp.now c.in-Atom.name c.as_str-in-Atom.result.now c.args.slots.now c.args.cells.now.items c.push_atom.new.cells.items c.in-Atom.is c.as_str-in-Atom.ensures so) c.push_atom.ensures

pub push_term-returns-in-Atom-clause-slots : goal.push_term-returns-in-Atom-clause-slots
push_term-returns-in-Atom-clause-slots t c = IfOk-weaker c.push_atom.result _ _ (λ _ _. names-atom c.args.exp.now c.in-Atom.name c.args.slots.now c.in-Atom.is) c.push_atom.ensures

pub push_term-returns-in-Str-clause-cells : goal.push_term-returns-in-Str-clause-cells
push_term-returns-in-Str-clause-cells t c = IfOk-weaker c.push_text.result _ _ (λ _ so. cells-str c.args.exp.now c.in-Str.text c.as_str-in-Str.result.now c.args.slots.now c.args.cells.now.items c.push_text.new.cells.items c.in-Str.is c.as_str-in-Str.ensures so) c.push_text.ensures

pub push_term-returns-in-Str-clause-slots : goal.push_term-returns-in-Str-clause-slots
push_term-returns-in-Str-clause-slots t c = IfOk-weaker c.push_text.result _ _ (λ _ _. names-str c.args.exp.now c.in-Str.text c.args.slots.now c.in-Str.is) c.push_text.ensures

pub push_term-returns-in-Index-clause-cells : goal.push_term-returns-in-Index-clause-cells
push_term-returns-in-Index-clause-cells t c = IfOk-weaker c.push_nameless.result _ _ (λ _ so. cells-nameless (slot_term (exp_tree c.args.exp.now) c.args.slots.now) c.args.slots.now c.args.cells.now.items c.push_nameless.new.cells.items (nameless-index c.args.exp.now _ _ c.args.slots.now c.in-Index.is) so) c.push_nameless.ensures

pub push_term-returns-in-Index-clause-slots : goal.push_term-returns-in-Index-clause-slots
push_term-returns-in-Index-clause-slots t c = IfOk-weaker c.push_nameless.result _ _ (λ _ _. names-as (slot_term (exp_tree c.args.exp.now) c.args.slots.now) (constant (Tree.atom []) c.args.slots.now) c.args.slots.now (nameless-index c.args.exp.now _ _ c.args.slots.now c.in-Index.is) refl) c.push_nameless.ensures

pub push_term-returns-in-At-clause-cells : goal.push_term-returns-in-At-clause-cells
push_term-returns-in-At-clause-cells t c = IfOk-weaker c.push_nameless-in-At.result _ _ (λ _ so. cells-nameless (slot_term (exp_tree c.args.exp.now) c.args.slots.now) c.args.slots.now c.args.cells.now.items c.push_nameless-in-At.new.cells.items (nameless-at c.args.exp.now _ _ c.args.slots.now c.in-At.is) so) c.push_nameless-in-At.ensures

pub push_term-returns-in-At-clause-slots : goal.push_term-returns-in-At-clause-slots
push_term-returns-in-At-clause-slots t c = IfOk-weaker c.push_nameless-in-At.result _ _ (λ _ _. names-as (slot_term (exp_tree c.args.exp.now) c.args.slots.now) (constant (Tree.atom []) c.args.slots.now) c.args.slots.now (nameless-at c.args.exp.now _ _ c.args.slots.now c.in-At.is) refl) c.push_nameless-in-At.ensures

pub push_term-returns-in-Collect-clause-cells : goal.push_term-returns-in-Collect-clause-cells
push_term-returns-in-Collect-clause-cells t c = IfOk-weaker c.push_nameless-in-Collect.result _ _ (λ _ so. cells-nameless (slot_term (exp_tree c.args.exp.now) c.args.slots.now) c.args.slots.now c.args.cells.now.items c.push_nameless-in-Collect.new.cells.items (nameless-collect c.args.exp.now _ _ _ c.args.slots.now c.in-Collect.is) so) c.push_nameless-in-Collect.ensures

pub push_term-returns-in-Collect-clause-slots : goal.push_term-returns-in-Collect-clause-slots
push_term-returns-in-Collect-clause-slots t c = IfOk-weaker c.push_nameless-in-Collect.result _ _ (λ _ _. names-as (slot_term (exp_tree c.args.exp.now) c.args.slots.now) (constant (Tree.atom []) c.args.slots.now) c.args.slots.now (nameless-collect c.args.exp.now _ _ _ c.args.slots.now c.in-Collect.is) refl) c.push_nameless-in-Collect.ensures

pub push_term-returns-in-And-clause-cells : goal.push_term-returns-in-And-clause-cells
push_term-returns-in-And-clause-cells t c = IfOk-weaker c.push_nameless-in-And.result _ _ (λ _ so. cells-nameless (slot_term (exp_tree c.args.exp.now) c.args.slots.now) c.args.slots.now c.args.cells.now.items c.push_nameless-in-And.new.cells.items (nameless-and c.args.exp.now _ c.args.slots.now c.in-And.is) so) c.push_nameless-in-And.ensures

pub push_term-returns-in-And-clause-slots : goal.push_term-returns-in-And-clause-slots
push_term-returns-in-And-clause-slots t c = IfOk-weaker c.push_nameless-in-And.result _ _ (λ _ _. names-as (slot_term (exp_tree c.args.exp.now) c.args.slots.now) (constant (Tree.atom []) c.args.slots.now) c.args.slots.now (nameless-and c.args.exp.now _ c.args.slots.now c.in-And.is) refl) c.push_nameless-in-And.ensures

pub push_term-returns-in-Or-clause-cells : goal.push_term-returns-in-Or-clause-cells
push_term-returns-in-Or-clause-cells t c = IfOk-weaker c.push_nameless-in-Or.result _ _ (λ _ so. cells-nameless (slot_term (exp_tree c.args.exp.now) c.args.slots.now) c.args.slots.now c.args.cells.now.items c.push_nameless-in-Or.new.cells.items (nameless-or c.args.exp.now _ c.args.slots.now c.in-Or.is) so) c.push_nameless-in-Or.ensures

pub push_term-returns-in-Or-clause-slots : goal.push_term-returns-in-Or-clause-slots
push_term-returns-in-Or-clause-slots t c = IfOk-weaker c.push_nameless-in-Or.result _ _ (λ _ _. names-as (slot_term (exp_tree c.args.exp.now) c.args.slots.now) (constant (Tree.atom []) c.args.slots.now) c.args.slots.now (nameless-or c.args.exp.now _ c.args.slots.now c.in-Or.is) refl) c.push_nameless-in-Or.ensures

pub push_term-returns-in-Arrow-clause-cells : goal.push_term-returns-in-Arrow-clause-cells
push_term-returns-in-Arrow-clause-cells t c = IfOk-weaker c.push_nameless-in-Arrow.result _ _ (λ _ so. cells-nameless (slot_term (exp_tree c.args.exp.now) c.args.slots.now) c.args.slots.now c.args.cells.now.items c.push_nameless-in-Arrow.new.cells.items (nameless-arrow c.args.exp.now _ _ c.args.slots.now c.in-Arrow.is) so) c.push_nameless-in-Arrow.ensures

pub push_term-returns-in-Arrow-clause-slots : goal.push_term-returns-in-Arrow-clause-slots
push_term-returns-in-Arrow-clause-slots t c = IfOk-weaker c.push_nameless-in-Arrow.result _ _ (λ _ _. names-as (slot_term (exp_tree c.args.exp.now) c.args.slots.now) (constant (Tree.atom []) c.args.slots.now) c.args.slots.now (nameless-arrow c.args.exp.now _ _ c.args.slots.now c.in-Arrow.is) refl) c.push_nameless-in-Arrow.ensures

pub push_term-returns-in-If-clause-cells : goal.push_term-returns-in-If-clause-cells
push_term-returns-in-If-clause-cells t c = IfOk-weaker c.push_nameless-in-If.result _ _ (λ _ so. cells-nameless (slot_term (exp_tree c.args.exp.now) c.args.slots.now) c.args.slots.now c.args.cells.now.items c.push_nameless-in-If.new.cells.items (nameless-if c.args.exp.now _ _ c.args.slots.now c.in-If.is) so) c.push_nameless-in-If.ensures

pub push_term-returns-in-If-clause-slots : goal.push_term-returns-in-If-clause-slots
push_term-returns-in-If-clause-slots t c = IfOk-weaker c.push_nameless-in-If.result _ _ (λ _ _. names-as (slot_term (exp_tree c.args.exp.now) c.args.slots.now) (constant (Tree.atom []) c.args.slots.now) c.args.slots.now (nameless-if c.args.exp.now _ _ c.args.slots.now c.in-If.is) refl) c.push_nameless-in-If.ensures

pub push_term-returns-in-Foreach-clause-cells : goal.push_term-returns-in-Foreach-clause-cells
push_term-returns-in-Foreach-clause-cells t c = IfOk-weaker c.push_nameless-in-Foreach.result _ _ (λ _ so. cells-nameless (slot_term (exp_tree c.args.exp.now) c.args.slots.now) c.args.slots.now c.args.cells.now.items c.push_nameless-in-Foreach.new.cells.items (nameless-foreach c.args.exp.now _ _ c.args.slots.now c.in-Foreach.is) so) c.push_nameless-in-Foreach.ensures

pub push_term-returns-in-Foreach-clause-slots : goal.push_term-returns-in-Foreach-clause-slots
push_term-returns-in-Foreach-clause-slots t c = IfOk-weaker c.push_nameless-in-Foreach.result _ _ (λ _ _. names-as (slot_term (exp_tree c.args.exp.now) c.args.slots.now) (constant (Tree.atom []) c.args.slots.now) c.args.slots.now (nameless-foreach c.args.exp.now _ _ c.args.slots.now c.in-Foreach.is) refl) c.push_nameless-in-Foreach.ensures

pub push_term-returns-in-While-clause-cells : goal.push_term-returns-in-While-clause-cells
push_term-returns-in-While-clause-cells t c = IfOk-weaker c.push_nameless-in-While.result _ _ (λ _ so. cells-nameless (slot_term (exp_tree c.args.exp.now) c.args.slots.now) c.args.slots.now c.args.cells.now.items c.push_nameless-in-While.new.cells.items (nameless-while c.args.exp.now _ _ c.args.slots.now c.in-While.is) so) c.push_nameless-in-While.ensures

pub push_term-returns-in-While-clause-slots : goal.push_term-returns-in-While-clause-slots
push_term-returns-in-While-clause-slots t c = IfOk-weaker c.push_nameless-in-While.result _ _ (λ _ _. names-as (slot_term (exp_tree c.args.exp.now) c.args.slots.now) (constant (Tree.atom []) c.args.slots.now) c.args.slots.now (nameless-while c.args.exp.now _ _ c.args.slots.now c.in-While.is) refl) c.push_nameless-in-While.ensures

pub push_term-returns-in-DoWhile-clause-cells : goal.push_term-returns-in-DoWhile-clause-cells
push_term-returns-in-DoWhile-clause-cells t c = IfOk-weaker c.push_nameless-in-DoWhile.result _ _ (λ _ so. cells-nameless (slot_term (exp_tree c.args.exp.now) c.args.slots.now) c.args.slots.now c.args.cells.now.items c.push_nameless-in-DoWhile.new.cells.items (nameless-do_while c.args.exp.now _ _ c.args.slots.now c.in-DoWhile.is) so) c.push_nameless-in-DoWhile.ensures

pub push_term-returns-in-DoWhile-clause-slots : goal.push_term-returns-in-DoWhile-clause-slots
push_term-returns-in-DoWhile-clause-slots t c = IfOk-weaker c.push_nameless-in-DoWhile.result _ _ (λ _ _. names-as (slot_term (exp_tree c.args.exp.now) c.args.slots.now) (constant (Tree.atom []) c.args.slots.now) c.args.slots.now (nameless-do_while c.args.exp.now _ _ c.args.slots.now c.in-DoWhile.is) refl) c.push_nameless-in-DoWhile.ensures
