use Rattle.std.proofs.Common.{◌≡◌, ◌++◌, [], ◌∙◌, refl, sym, ap, arith}
use Rattle.pi_lib_builtin.specs.Resolved.{rows_shown, named_with}
use Rattle.pi_lib_builtin.proofs.PredicateTables.{predicates_of_none, predicates_of_one, predicates_of_two}
use Rattle.pi_lib_builtin.proofs.NamesLemmas.{printf_names, printf-pushed, names-listed}
use Rattle.std.proofs.lemmas.List.{append-nil}
use Rattle.std.proofs.lemmas.Result.{IfOk-from_err}
use Rattle.pi_lib_builtin.proofs.lookup.predicate_names.Goals as goal

pub returns : goal.returns
returns c =
    let new : rows_shown c.new-names.result.items ≡ [] = ap rows_shown c.new-names.ensures.items in
    let none : rows_shown c.push_names.new.names.items ≡ [] ++ named_with 0 predicates_of_none = c.in_ok-push_names.ensures ∙ ap (λ r. r ++ named_with 0 predicates_of_none) new in
    let one : rows_shown c.push_names-2.new.names.items ≡ ([] ++ named_with 0 predicates_of_none) ++ named_with 1 predicates_of_one =
    c.in_ok-push_names-2.ensures ∙ ap (λ r. r ++ named_with 1 predicates_of_one) none in
    let two : rows_shown c.push_names-3.new.names.items ≡ (([] ++ named_with 0 predicates_of_none) ++ named_with 1 predicates_of_one) ++ named_with 2 predicates_of_two =
    c.in_ok-push_names-3.ensures ∙ ap (λ r. r ++ named_with 2 predicates_of_two) one in
    let more : c.loop-more.more ≡ 16 = omega arith in
    names-listed (rows_shown c.loop-more.names.items) (c.loop-more.invariant ∙ ap (λ r. r ++ printf_names c.loop-more.more) two ∙ ap (λ k. ((([] ++ named_with 0 predicates_of_none) ++ named_with 1 predicates_of_one) ++ named_with 2 predicates_of_two) ++ printf_names k) more)

pub returns-in_err-push_names : goal.returns-in_err-push_names
returns-in_err-push_names c = IfOk-from_err c.from_residual.result _ c.from_residual.ensures.0

pub returns-in_err-push_names-2 : goal.returns-in_err-push_names-2
returns-in_err-push_names-2 c = IfOk-from_err c.from_residual-in_err-push_names-2.result _ c.from_residual-in_err-push_names-2.ensures.0

pub returns-in_err-push_names-3 : goal.returns-in_err-push_names-3
returns-in_err-push_names-3 c = IfOk-from_err c.from_residual-in_err-push_names-3.result _ c.from_residual-in_err-push_names-3.ensures.0

pub returns-in_err-push : goal.returns-in_err-push
returns-in_err-push c = IfOk-from_err c.from_residual-in_err-push.result _ c.from_residual-in_err-push.ensures.0

pub loop-more-init : goal.loop-more-init
loop-more-init c = sym (append-nil (rows_shown c.push_names-3.new.names.items))

pub loop-more-preserved : goal.loop-more-preserved
loop-more-preserved c = printf-pushed c.push_names-3.new.names.items c.loop-more.names.items c.push.new.self.items _ c.loop-more.more c.in_ok-push.ensures.items refl c.loop-more.invariant
