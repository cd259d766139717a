-- Each kind of expression by its text.
use Rattle.std.proofs.Common.{◌≡◌, ◌++◌, codes, refl, ap, ◌∙◌, sym, append_assoc, rules}
use Rattle.std.specs.Prelude.{if◌then◌else◌}
use Rattle.std.specs.String.{string_bytes}
use mir.Syntax.{w128}
use mir.Val.{to_z, of_z}
use Rattle.pi_syntax.specs.ExpTree.{exp_tree, list, list_onto, array, index, range, collect, and, or, arrow, foreach, while_do, do_while}
use Rattle.pi_syntax.specs.ExpLists.{exps_of}
use Rattle.pi_print_program.specs.Branches.{branches_in}
use Rattle.pi_print_program.specs.CanonicalExp.{exp_text, exp_texts, choice_texts}
use Rattle.pi_print_program.specs.Texts.{between, parted, comma, integer_text}
use Rattle.pi_print_program.proofs.ExpTrees as tree
use Rattle.pi_print_program.proofs.ExpTexts.{of-exps, of-exps-and, of-two, of-led, of-three, of-else, of-if, onto-opens, index-opens, range-opens, arrow-opens, collect-opens, foreach-opens, while-opens, do-opens, var-text, int-text, atom-text, str-text, call-text, quote-text, at-text, call-two, call-word, call-prefix, call-plain, quote-structure, quote-other}
use Rattle.pi_print_program.proofs.PartedLemmas.{two, three, four, wrote-as, wrote-behind, parts-begin, parts-more, parts-end}
use Rattle.pi_print_program.proofs.expressions.+exp.Goals as goal

-- ---- loops

pub write_exps-loop-exp-init : goal.write_exps-loop-exp-init
write_exps-loop-exp-init t c = record { text = search rules; written = parts-begin (string_bytes c.args.out.now) c.args.parting.now (exp_texts (exps_of c.args.exps.now)) }

pub write_exps-loop-exp-preserved : goal.write_exps-loop-exp-preserved
unfolding exp_texts
write_exps-loop-exp-preserved t c = record {
  text = search rules;
  written =
      parts-more (λ x. exp_text (exp_tree x)) (λ xs. exp_texts (exps_of xs)) (λ x xs. refl) c.args.exps.now c.loop-exp.exp-index c.exp-item.result c.loop-exp.before.now c.args.parting.now (string_bytes c.loop-exp.out) (string_bytes c.push_str.new.self) (string_bytes c.write_exp.new.out) _
      c.loop-exp-test.true c.exp-item.is c.in_ok-push_str.ensures.bytes c.in_ok-write_exp.ensures c.loop-exp.invariant.written;
}

pub write_exps-returns : goal.write_exps-returns
unfolding exp_texts
write_exps-returns t c = parts-end (λ xs. exp_texts (exps_of xs)) refl c.args.exps.now c.loop-exp.exp-index c.loop-exp.before.now c.args.parting.now (string_bytes c.loop-exp.out) _ c.loop-exp-test.false c.loop-exp.invariant.written

pub write_choices-loop-branch-init : goal.write_choices-loop-branch-init
write_choices-loop-branch-init t c = record { text = search rules; written = parts-begin (string_bytes c.push_str.new.self) (codes " elseif ") (choice_texts (branches_in c.args.branches.now)) }

pub write_choices-loop-branch-preserved : goal.write_choices-loop-branch-preserved
unfolding choice_texts
write_choices-loop-branch-preserved t c = record {
  text = search rules;
  written =
      parts-more (λ b. exp_text (exp_tree b.0) ++ (codes " then " ++ exp_text (exp_tree b.1))) (λ bs. choice_texts (branches_in bs)) (λ b bs. refl) c.args.branches.now c.loop-branch.branch-index c.branch-item.result c.loop-branch.before.now (codes " elseif ") (string_bytes c.loop-branch.out) (string_bytes c.push_str-in-loop-branch.new.self) (string_bytes c.write_exp.new.out) _
      c.loop-branch-test.true c.branch-item.is c.in_ok-push_str-2.ensures.bytes
      (two (string_bytes c.push_str-in-loop-branch.new.self) (string_bytes c.write_around.new.out) (string_bytes c.write_exp.new.out) (between (codes "") (exp_text (exp_tree c.branch-item.result.0)) (codes " then ")) (exp_text (exp_tree c.branch-item.result.1)) c.in_ok-write_around.ensures c.in_ok-write_exp.ensures
      ∙ ap (λ s. string_bytes c.push_str-in-loop-branch.new.self ++ s) (append_assoc (exp_text (exp_tree c.branch-item.result.0)) (codes " then ") (exp_text (exp_tree c.branch-item.result.1)))) c.loop-branch.invariant.written;
}

pub write_choices-returns : goal.write_choices-returns
unfolding choice_texts
write_choices-returns t c =
    let inner : string_bytes c.loop-branch.out ≡ string_bytes c.push_str.new.self ++ parted (codes " elseif ") (choice_texts (branches_in c.args.branches.now)) =
    parts-end (λ bs. choice_texts (branches_in bs)) refl c.args.branches.now c.loop-branch.branch-index c.loop-branch.before.now (codes " elseif ") (string_bytes c.loop-branch.out) _ c.loop-branch-test.false c.loop-branch.invariant.written in
    three (string_bytes c.args.out.now) (string_bytes c.push_str.new.self) (string_bytes c.loop-branch.out) (string_bytes c.push_str-2.new.self) (codes "if ") (parted (codes " elseif ") (choice_texts (branches_in c.args.branches.now))) c.args.right.now
    c.in_ok-push_str.ensures.bytes inner c.in_ok-push_str-3.ensures.bytes

-- ---- pieces

pub write_between-returns : goal.write_between-returns
write_between-returns t c = three _ _ _ _ _ _ _ c.in_ok-push_str.ensures.bytes c.in_ok-write_exps.ensures c.in_ok-push_str-2.ensures.bytes

pub write_around-returns : goal.write_around-returns
write_around-returns t c = three _ _ _ _ _ _ _ c.in_ok-push_str.ensures.bytes c.in_ok-write_exp.ensures c.in_ok-push_str-2.ensures.bytes

-- ---- calls

pub write_call-returns-then-is_two_place : goal.write_call-returns-then-is_two_place
write_call-returns-then-is_two_place t c =
    wrote-as c.write_between.result (string_bytes c.args.out.now) (string_bytes c.write_between.new.out) _ _
    (call-two c.args.name.now c.as_str.result.now c.args.args.now (sym c.is_two_place.ensures ∙ c.if-is_two_place.true) (c.as_str.ensures.value ∙ c.in_ok-parting.ensures)) c.write_between.ensures

pub write_call-returns-then-is_prefix_word : goal.write_call-returns-then-is_prefix_word
write_call-returns-then-is_prefix_word t c =
    let front : string_bytes c.push_str-then-is_prefix_word.new.self ≡ string_bytes c.args.out.now ++ (codes "(" ++ c.args.name.now) =
    two (string_bytes c.args.out.now) (string_bytes c.push_str.new.self) (string_bytes c.push_str-then-is_prefix_word.new.self) (codes "(") c.args.name.now c.in_ok-push_str.ensures.bytes c.in_ok-push_str-2.ensures.bytes in
    wrote-behind c.write_between-then-is_prefix_word.result (string_bytes c.args.out.now) (string_bytes c.push_str-then-is_prefix_word.new.self) (string_bytes c.write_between-then-is_prefix_word.new.out) (codes "(" ++ c.args.name.now)
    (between (codes " (") (parted comma (exp_texts (exps_of c.args.args.now))) (codes "))")) _ front
    (call-word c.args.name.now c.args.args.now (sym c.is_two_place.ensures ∙ c.if-is_two_place.false) (sym c.is_prefix_word.ensures ∙ c.if-is_prefix_word.true)) c.write_between-then-is_prefix_word.ensures

pub write_call-returns-then-is_prefix_sign : goal.write_call-returns-then-is_prefix_sign
write_call-returns-then-is_prefix_sign t c =
    let front : string_bytes c.push_str-then-is_prefix_sign-2.new.self ≡ string_bytes c.args.out.now ++ (codes "(" ++ c.args.name.now) =
    two (string_bytes c.args.out.now) (string_bytes c.push_str-then-is_prefix_sign.new.self) (string_bytes c.push_str-then-is_prefix_sign-2.new.self) (codes "(") c.args.name.now c.in_ok-push_str-3.ensures.bytes c.in_ok-push_str-4.ensures.bytes in
    wrote-behind c.write_between-then-is_prefix_sign.result (string_bytes c.args.out.now) (string_bytes c.push_str-then-is_prefix_sign-2.new.self) (string_bytes c.write_between-then-is_prefix_sign.new.out) (codes "(" ++ c.args.name.now)
    (between (codes "(") (parted comma (exp_texts (exps_of c.args.args.now))) (codes "))")) _ front
    (call-prefix c.args.name.now c.args.args.now (sym c.is_two_place.ensures ∙ c.if-is_two_place.false) (sym c.is_prefix_word.ensures ∙ c.if-is_prefix_word.false) (sym c.is_prefix_sign.ensures ∙ c.if-is_prefix_sign.true)) c.write_between-then-is_prefix_sign.ensures

pub write_call-returns : goal.write_call-returns
write_call-returns t c =
    wrote-behind c.write_between-2.result (string_bytes c.args.out.now) (string_bytes c.write_name.new.out) (string_bytes c.write_between-2.new.out) _ _ _ c.in_ok-write_name.ensures.ok
    (call-plain c.args.name.now c.args.args.now (sym c.is_two_place.ensures ∙ c.if-is_two_place.false) (sym c.is_prefix_word.ensures ∙ c.if-is_prefix_word.false) (sym c.is_prefix_sign.ensures ∙ c.if-is_prefix_sign.false)) c.write_between-2.ensures

pub write_quote-returns-then-is_structure_of : goal.write_quote-returns-then-is_structure_of
write_quote-returns-then-is_structure_of t c =
    wrote-behind c.write_exp.result (string_bytes c.args.out.now) (string_bytes c.push_str.new.self) (string_bytes c.write_exp.new.out) _ _ _ c.in_ok-push_str.ensures.bytes
    (quote-structure (exp_tree c.args.inner.now) (sym c.is_structure_of.ensures ∙ c.if-is_structure_of.true)) c.write_exp.ensures

pub write_quote-returns : goal.write_quote-returns
write_quote-returns t c =
    quote-other (exp_tree c.args.inner.now) _ _ (sym c.is_structure_of.ensures ∙ c.if-is_structure_of.false)
    (four _ _ _ _ _ _ _ _ _ c.in_ok-push_str.ensures.bytes c.in_ok-push_str-2.ensures.bytes c.in_ok-write_exp.ensures c.in_ok-push_str-3.ensures.bytes)

-- ---- each kind

pub write_exp-returns-in_ok-push_str-in-Var : goal.write_exp-returns-in_ok-push_str-in-Var
write_exp-returns-in_ok-push_str-in-Var t c = var-text c.args.exp.now c.in-Var.name c.as_str.result.now _ _ c.in-Var.is c.as_str.ensures c.in_ok-push_str-in-Var.ensures.bytes

pub write_exp-returns-in-Int : goal.write_exp-returns-in-Int
write_exp-returns-in-Int t c =
    let held : to_z w128 (of_z w128 c.value.result) ≡ c.value.result = search rules in
    let same : to_z w128 (of_z w128 c.value.result) ≡ c.in-Int.n = held ∙ c.value.ensures in
    wrote-as c.write_integer.result (string_bytes c.args.out.now) (string_bytes c.write_integer.new.out) _ (exp_text (exp_tree c.args.exp.now))
    (ap integer_text same ∙ int-text c.args.exp.now c.in-Int.n c.in-Int.is)
    c.write_integer.ensures.ok

pub write_exp-returns-in-Atom : goal.write_exp-returns-in-Atom
write_exp-returns-in-Atom t c =
    wrote-as c.write_name.result (string_bytes c.args.out.now) (string_bytes c.write_name.new.out) _ (exp_text (exp_tree c.args.exp.now))
    (atom-text c.args.exp.now c.in-Atom.name c.as_str-in-Atom.result.now c.in-Atom.is c.as_str-in-Atom.ensures)
    c.write_name.ensures.ok

pub write_exp-returns-in-Str : goal.write_exp-returns-in-Str
write_exp-returns-in-Str t c =
    wrote-as c.write_string.result (string_bytes c.args.out.now) (string_bytes c.write_string.new.out) _ (exp_text (exp_tree c.args.exp.now))
    (str-text c.args.exp.now c.in-Str.text c.as_str-in-Str.result.now c.in-Str.is c.as_str-in-Str.ensures)
    c.write_string.ensures.ok

pub write_exp-returns-in_ok-write_between-in-Some : goal.write_exp-returns-in_ok-write_between-in-Some
write_exp-returns-in_ok-write_between-in-Some t c =
    wrote-behind c.write_around.result (string_bytes c.args.out.now) (string_bytes c.write_between.new.out) (string_bytes c.write_around.new.out)
    (between (codes "[") (parted comma (exp_texts (exps_of c.as_slice.result.now))) (codes " | "))
    (between (codes "") (exp_text (exp_tree c.deref.result.now)) (codes "]")) (exp_text (exp_tree c.args.exp.now)) c.in_ok-write_between-in-Some.ensures
    (of-exps-and (λ ts u. between (codes "[") (parted comma ts) (codes " | ") ++ between (codes "") u (codes "]")) list_onto onto-opens c.args.exp.now c.in-Some.tail.value c.deref.result.now c.in-List.items.items c.as_slice.result.now
    (tree.list_onto-is c.args.exp.now c.in-List.items c.in-List.tail c.in-Some.tail c.in-List.is c.in-Some.is) c.as_slice.ensures.value c.deref.ensures)
    c.write_around.ensures

pub write_exp-returns-in-None : goal.write_exp-returns-in-None
unfolding exp_text
write_exp-returns-in-None t c =
    wrote-as c.write_between-in-None.result (string_bytes c.args.out.now) (string_bytes c.write_between-in-None.new.out) _ (exp_text (exp_tree c.args.exp.now))
    (of-exps (λ ts. between (codes "[") (parted (codes ", ") ts) (codes "]")) list (λ ts. refl) c.args.exp.now c.in-List.items.items c.as_slice-in-None.result.now
    (tree.list-is c.args.exp.now c.in-List.items c.in-List.tail c.in-List.is c.in-None.is) c.as_slice-in-None.ensures.value)
    c.write_between-in-None.ensures

pub write_exp-returns-in-Array : goal.write_exp-returns-in-Array
unfolding exp_text
write_exp-returns-in-Array t c =
    wrote-as c.write_between-in-Array.result (string_bytes c.args.out.now) (string_bytes c.write_between-in-Array.new.out) _ (exp_text (exp_tree c.args.exp.now))
    (of-exps (λ ts. between (codes "{") (parted (codes ", ") ts) (codes "}")) array (λ ts. refl) c.args.exp.now c.in-Array.items.items c.as_slice-in-Array.result.now
    (tree.array-is c.args.exp.now c.in-Array.items c.in-Array.is) c.as_slice-in-Array.ensures.value)
    c.write_between-in-Array.ensures

pub write_exp-returns-in-Call : goal.write_exp-returns-in-Call
write_exp-returns-in-Call t c =
    wrote-as c.write_call.result (string_bytes c.args.out.now) (string_bytes c.write_call.new.out) _ (exp_text (exp_tree c.args.exp.now))
    (call-text c.args.exp.now c.in-Call.name c.as_str-in-Call.result.now c.in-Call.args c.as_slice-in-Call.result.now c.in-Call.is c.as_str-in-Call.ensures c.as_slice-in-Call.ensures.value)
    c.write_call.ensures

pub write_exp-returns-in-Quote : goal.write_exp-returns-in-Quote
write_exp-returns-in-Quote t c =
    wrote-as c.write_quote.result (string_bytes c.args.out.now) (string_bytes c.write_quote.new.out) _ (exp_text (exp_tree c.args.exp.now))
    (quote-text c.args.exp.now c.in-Quote.inner c.deref-in-Quote.result.now c.in-Quote.is c.deref-in-Quote.ensures)
    c.write_quote.ensures

pub write_exp-returns-in_ok-write_exp-in-Index : goal.write_exp-returns-in_ok-write_exp-in-Index
write_exp-returns-in_ok-write_exp-in-Index t c =
    wrote-behind c.write_between-in-Index.result (string_bytes c.args.out.now) (string_bytes c.write_exp.new.out) (string_bytes c.write_between-in-Index.new.out)
    (exp_text (exp_tree c.deref-in-Index.result.now))
    (between (codes "[") (parted comma (exp_texts (exps_of c.as_slice-in-Index.result.now))) (codes "]")) (exp_text (exp_tree c.args.exp.now)) c.in_ok-write_exp-in-Index.ensures
    (of-led (λ u ts. u ++ between (codes "[") (parted comma ts) (codes "]")) index index-opens c.args.exp.now c.in-Index.of.value c.deref-in-Index.result.now c.in-Index.places.items c.as_slice-in-Index.result.now
    (tree.index-is c.args.exp.now c.in-Index.of c.in-Index.places c.in-Index.is) c.deref-in-Index.ensures c.as_slice-in-Index.ensures.value)
    c.write_between-in-Index.ensures

pub write_exp-returns-in_ok-write_around-in-Some-step-2 : goal.write_exp-returns-in_ok-write_around-in-Some-step-2
write_exp-returns-in_ok-write_around-in-Some-step-2 t c =
    let front : string_bytes c.write_around-in-Some-step-2.new.out ≡ string_bytes c.args.out.now ++ (between (codes "(") (exp_text (exp_tree c.deref-in-Some-step.result.now)) (codes " .. ") ++ between (codes "") (exp_text (exp_tree c.deref-in-Some-step-2.result.now)) (codes " .. ")) =
    two (string_bytes c.args.out.now) (string_bytes c.write_around-in-Some-step.new.out) (string_bytes c.write_around-in-Some-step-2.new.out) (between (codes "(") (exp_text (exp_tree c.deref-in-Some-step.result.now)) (codes " .. ")) (between (codes "") (exp_text (exp_tree c.deref-in-Some-step-2.result.now)) (codes " .. ")) c.in_ok-write_around-in-Some-step.ensures c.in_ok-write_around-in-Some-step-2.ensures in
    wrote-behind c.write_around-in-Some-step-3.result (string_bytes c.args.out.now) (string_bytes c.write_around-in-Some-step-2.new.out) (string_bytes c.write_around-in-Some-step-3.new.out)
    (between (codes "(") (exp_text (exp_tree c.deref-in-Some-step.result.now)) (codes " .. ") ++ between (codes "") (exp_text (exp_tree c.deref-in-Some-step-2.result.now)) (codes " .. ")) (between (codes "") (exp_text (exp_tree c.deref-in-Some-step-3.result.now)) (codes ")")) (exp_text (exp_tree c.args.exp.now)) front
    (of-three c.args.exp.now c.in-Range.first.value c.in-Some-step.step.value c.in-Range.last.value c.deref-in-Some-step.result.now c.deref-in-Some-step-2.result.now c.deref-in-Some-step-3.result.now
    (tree.range_by-is c.args.exp.now c.in-Range.first c.in-Range.step c.in-Range.last c.in-Some-step.step c.in-Range.is c.in-Some-step.is) c.deref-in-Some-step.ensures c.deref-in-Some-step-2.ensures c.deref-in-Some-step-3.ensures)
    c.write_around-in-Some-step-3.ensures

pub write_exp-returns-in_ok-write_around-in-None-step : goal.write_exp-returns-in_ok-write_around-in-None-step
write_exp-returns-in_ok-write_around-in-None-step t c =
    wrote-behind c.write_around-in-None-step-2.result (string_bytes c.args.out.now) (string_bytes c.write_around-in-None-step.new.out) (string_bytes c.write_around-in-None-step-2.new.out)
    (between (codes "(") (exp_text (exp_tree c.deref-in-None-step.result.now)) (codes " .. "))
    (between (codes "") (exp_text (exp_tree c.deref-in-None-step-2.result.now)) (codes ")")) (exp_text (exp_tree c.args.exp.now)) c.in_ok-write_around-in-None-step.ensures
    (of-two (λ u v. between (codes "(") u (codes " .. ") ++ between (codes "") v (codes ")")) range range-opens c.args.exp.now c.in-Range.first.value c.in-Range.last.value c.deref-in-None-step.result.now c.deref-in-None-step-2.result.now
    (tree.range-is c.args.exp.now c.in-Range.first c.in-Range.step c.in-Range.last c.in-Range.is c.in-None-step.is) c.deref-in-None-step.ensures c.deref-in-None-step-2.ensures)
    c.write_around-in-None-step-2.ensures

pub write_exp-returns-in_ok-push_str-in-At : goal.write_exp-returns-in_ok-push_str-in-At
write_exp-returns-in_ok-push_str-in-At t c =
    wrote-behind c.write_around-in-At.result (string_bytes c.args.out.now) (string_bytes c.push_str-in-At.new.self) (string_bytes c.write_around-in-At.new.out)
    (c.as_str-in-At.result.now)
    (between (codes "@") (exp_text (exp_tree c.deref-in-At.result.now)) (codes "")) (exp_text (exp_tree c.args.exp.now)) c.in_ok-push_str-in-At.ensures.bytes
    (at-text c.args.exp.now c.in-At.name c.as_str-in-At.result.now c.in-At.pattern c.deref-in-At.result.now c.in-At.is c.as_str-in-At.ensures c.deref-in-At.ensures)
    c.write_around-in-At.ensures

pub write_exp-returns-in_ok-write_around-in-Collect : goal.write_exp-returns-in_ok-write_around-in-Collect
write_exp-returns-in_ok-write_around-in-Collect t c =
    wrote-behind c.write_between-in-Collect.result (string_bytes c.args.out.now) (string_bytes c.write_around-in-Collect.new.out) (string_bytes c.write_between-in-Collect.new.out)
    (between c.opening.result.now (exp_text (exp_tree c.deref-in-Collect.result.now)) (codes " : "))
    (between (codes "") (parted comma (exp_texts (exps_of c.as_slice-in-Collect.result.now))) c.closing.result.now) (exp_text (exp_tree c.args.exp.now)) c.in_ok-write_around-in-Collect.ensures
    (ap (λ l. between l (exp_text (exp_tree c.deref-in-Collect.result.now)) (codes " : ") ++ between (codes "") (parted comma (exp_texts (exps_of c.as_slice-in-Collect.result.now))) c.closing.result.now) c.opening.ensures
    ∙ (ap (λ r. between (if c.in-Collect.is_array then codes "{" else codes "[") (exp_text (exp_tree c.deref-in-Collect.result.now)) (codes " : ") ++ between (codes "") (parted comma (exp_texts (exps_of c.as_slice-in-Collect.result.now))) r) c.closing.ensures
    ∙ of-led (λ u ts. between (if c.in-Collect.is_array then codes "{" else codes "[") u (codes " : ") ++ between (codes "") (parted comma ts) (if c.in-Collect.is_array then codes "}" else codes "]")) (collect c.in-Collect.is_array) (collect-opens c.in-Collect.is_array) c.args.exp.now c.in-Collect.item.value c.deref-in-Collect.result.now c.in-Collect.iterators.items c.as_slice-in-Collect.result.now
    (tree.collect-is c.args.exp.now c.in-Collect.is_array c.in-Collect.item c.in-Collect.iterators c.in-Collect.is) c.deref-in-Collect.ensures c.as_slice-in-Collect.ensures.value))
    c.write_between-in-Collect.ensures

pub write_exp-returns-in-And : goal.write_exp-returns-in-And
unfolding exp_text
write_exp-returns-in-And t c =
    wrote-as c.write_between-in-And.result (string_bytes c.args.out.now) (string_bytes c.write_between-in-And.new.out) _ (exp_text (exp_tree c.args.exp.now))
    (of-exps (λ ts. between (codes "(") (parted (codes ", ") ts) (codes ")")) and (λ ts. refl) c.args.exp.now c.in-And.goals.items c.as_slice-in-And.result.now
    (tree.and-is c.args.exp.now c.in-And.goals c.in-And.is) c.as_slice-in-And.ensures.value)
    c.write_between-in-And.ensures

pub write_exp-returns-in-Or : goal.write_exp-returns-in-Or
unfolding exp_text
write_exp-returns-in-Or t c =
    wrote-as c.write_between-in-Or.result (string_bytes c.args.out.now) (string_bytes c.write_between-in-Or.new.out) _ (exp_text (exp_tree c.args.exp.now))
    (of-exps (λ ts. between (codes "(") (parted (codes " ; ") ts) (codes ")")) or (λ ts. refl) c.args.exp.now c.in-Or.branches.items c.as_slice-in-Or.result.now
    (tree.or-is c.args.exp.now c.in-Or.branches c.in-Or.is) c.as_slice-in-Or.ensures.value)
    c.write_between-in-Or.ensures

pub write_exp-returns-in_ok-write_around-in-Arrow : goal.write_exp-returns-in_ok-write_around-in-Arrow
write_exp-returns-in_ok-write_around-in-Arrow t c =
    wrote-behind c.write_exp-in-Arrow.result (string_bytes c.args.out.now) (string_bytes c.write_around-in-Arrow.new.out) (string_bytes c.write_exp-in-Arrow.new.out)
    (between (codes "") (exp_text (exp_tree c.deref-in-Arrow.result.now)) (codes " -> "))
    (exp_text (exp_tree c.deref-in-Arrow-2.result.now)) (exp_text (exp_tree c.args.exp.now)) c.in_ok-write_around-in-Arrow.ensures
    (of-two (λ u v. between (codes "") u (codes " -> ") ++ v) arrow arrow-opens c.args.exp.now c.in-Arrow.test.value c.in-Arrow.body.value c.deref-in-Arrow.result.now c.deref-in-Arrow-2.result.now
    (tree.arrow-is c.args.exp.now c.in-Arrow.test c.in-Arrow.body c.in-Arrow.is) c.deref-in-Arrow.ensures c.deref-in-Arrow-2.ensures)
    c.write_exp-in-Arrow.ensures

pub write_exp-returns-in_ok-write_choices-in-Some-last : goal.write_exp-returns-in_ok-write_choices-in-Some-last
write_exp-returns-in_ok-write_choices-in-Some-last t c =
    wrote-behind c.write_around-in-Some-last.result (string_bytes c.args.out.now) (string_bytes c.write_choices.new.out) (string_bytes c.write_around-in-Some-last.new.out)
    (between (codes "if ") (parted (codes " elseif ") (choice_texts (branches_in c.as_slice-in-Some-last.result.now))) (codes " else "))
    (between (codes "") (exp_text (exp_tree c.deref-in-Some-last.result.now)) (codes " end")) (exp_text (exp_tree c.args.exp.now)) c.in_ok-write_choices-in-Some-last.ensures
    (of-else c.args.exp.now c.in-Some-last.last.value c.deref-in-Some-last.result.now c.in-If.branches.items c.as_slice-in-Some-last.result.now
    (tree.if_else-is c.args.exp.now c.in-If.branches c.in-If.last c.in-Some-last.last c.in-If.is c.in-Some-last.is) c.as_slice-in-Some-last.ensures.value c.deref-in-Some-last.ensures)
    c.write_around-in-Some-last.ensures

pub write_exp-returns-in-None-last : goal.write_exp-returns-in-None-last
write_exp-returns-in-None-last t c =
    wrote-as c.write_choices-in-None-last.result (string_bytes c.args.out.now) (string_bytes c.write_choices-in-None-last.new.out) _ (exp_text (exp_tree c.args.exp.now))
    (of-if c.args.exp.now c.in-If.branches.items c.as_slice-in-None-last.result.now (tree.if_then-is c.args.exp.now c.in-If.branches c.in-If.last c.in-If.is c.in-None-last.is) c.as_slice-in-None-last.ensures.value)
    c.write_choices-in-None-last.ensures

pub write_exp-returns-in_ok-write_between-in-Foreach : goal.write_exp-returns-in_ok-write_between-in-Foreach
write_exp-returns-in_ok-write_between-in-Foreach t c =
    wrote-behind c.write_around-in-Foreach.result (string_bytes c.args.out.now) (string_bytes c.write_between-in-Foreach.new.out) (string_bytes c.write_around-in-Foreach.new.out)
    (between (codes "foreach(") (parted comma (exp_texts (exps_of c.as_slice-in-Foreach.result.now))) (codes ") "))
    (between (codes "") (exp_text (exp_tree c.deref-in-Foreach.result.now)) (codes " end")) (exp_text (exp_tree c.args.exp.now)) c.in_ok-write_between-in-Foreach.ensures
    (of-exps-and (λ ts u. between (codes "foreach(") (parted comma ts) (codes ") ") ++ between (codes "") u (codes " end")) foreach foreach-opens c.args.exp.now c.in-Foreach.body.value c.deref-in-Foreach.result.now c.in-Foreach.iterators.items c.as_slice-in-Foreach.result.now
    (tree.foreach-is c.args.exp.now c.in-Foreach.iterators c.in-Foreach.body c.in-Foreach.is) c.as_slice-in-Foreach.ensures.value c.deref-in-Foreach.ensures)
    c.write_around-in-Foreach.ensures

pub write_exp-returns-in_ok-write_around-in-While : goal.write_exp-returns-in_ok-write_around-in-While
write_exp-returns-in_ok-write_around-in-While t c =
    wrote-behind c.write_around-in-While-2.result (string_bytes c.args.out.now) (string_bytes c.write_around-in-While.new.out) (string_bytes c.write_around-in-While-2.new.out)
    (between (codes "while (") (exp_text (exp_tree c.deref-in-While.result.now)) (codes ") "))
    (between (codes "") (exp_text (exp_tree c.deref-in-While-2.result.now)) (codes " end")) (exp_text (exp_tree c.args.exp.now)) c.in_ok-write_around-in-While.ensures
    (of-two (λ u v. between (codes "while (") u (codes ") ") ++ between (codes "") v (codes " end")) while_do while-opens c.args.exp.now c.in-While.test.value c.in-While.body.value c.deref-in-While.result.now c.deref-in-While-2.result.now
    (tree.while-is c.args.exp.now c.in-While.test c.in-While.body c.in-While.is) c.deref-in-While.ensures c.deref-in-While-2.ensures)
    c.write_around-in-While-2.ensures

pub write_exp-returns-in_ok-write_around-in-DoWhile : goal.write_exp-returns-in_ok-write_around-in-DoWhile
write_exp-returns-in_ok-write_around-in-DoWhile t c =
    wrote-behind c.write_around-in-DoWhile-2.result (string_bytes c.args.out.now) (string_bytes c.write_around-in-DoWhile.new.out) (string_bytes c.write_around-in-DoWhile-2.new.out)
    (between (codes "do ") (exp_text (exp_tree c.deref-in-DoWhile.result.now)) (codes " while ("))
    (between (codes "") (exp_text (exp_tree c.deref-in-DoWhile-2.result.now)) (codes ")")) (exp_text (exp_tree c.args.exp.now)) c.in_ok-write_around-in-DoWhile.ensures
    (of-two (λ u v. between (codes "do ") u (codes " while (") ++ between (codes "") v (codes ")")) do_while do-opens c.args.exp.now c.in-DoWhile.body.value c.in-DoWhile.test.value c.deref-in-DoWhile.result.now c.deref-in-DoWhile-2.result.now
    (tree.do_while-is c.args.exp.now c.in-DoWhile.body c.in-DoWhile.test c.in-DoWhile.is) c.deref-in-DoWhile.ensures c.deref-in-DoWhile-2.ensures)
    c.write_around-in-DoWhile-2.ensures
