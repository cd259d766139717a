use Rattle.std.proofs.Common.{◌≡◌, ◌++◌, [], ◌∷◌, ◌∙◌, ap, arith}
use Rattle.std.specs.Prelude.{codes}
use Rattle.std.proofs.lemmas.List.{map-append}
use Rattle.pi_lib_builtin.specs.Resolved.{rows_shown}
use Rattle.pi_engine_code.specs.Callables.{names_called}
use Rattle.pi_engine_code.proofs.CalledNames.{call_names, constraint_names, effects-named, solve_names, all-built-named, are-named}
use Rattle.pi_engine_code.proofs.build.named.callable_names.Goals as goal

pub returns : goal.returns
returns c =
    let built : rows_shown c.extend_from_slice.new.self.items ≡ rows_shown c.in_ok-names.names.items ++ constraint_names = ap rows_shown c.in_ok-extend_from_slice.ensures.items ∙ map-append _ c.in_ok-names.names.items _ in
    let solves : rows_shown c.extend_from_slice-2.new.self.items ≡ rows_shown c.extend_from_slice.new.self.items ++ solve_names = ap rows_shown c.in_ok-extend_from_slice-2.ensures.items ∙ map-append _ c.extend_from_slice.new.self.items _ in
    let catches : rows_shown c.push.new.self.items ≡ rows_shown c.extend_from_slice-2.new.self.items ++ (codes "catch", 3) ∷ [] = ap rows_shown c.in_ok-push.ensures.items ∙ map-append _ c.extend_from_slice-2.new.self.items _ in
    let more : c.loop-more.more ≡ 8 = omega arith in
    let calls : rows_shown c.loop-more.names.items ≡ (rows_shown c.extend_from_slice-2.new.self.items ++ (codes "catch", 3) ∷ []) ++ call_names 8 =
    c.loop-more.invariant ∙ ap (λ r. r ++ call_names c.loop-more.more) catches ∙ ap (λ k. (rows_shown c.extend_from_slice-2.new.self.items ++ (codes "catch", 3) ∷ []) ++ call_names k) more in
    let program : rows_shown c.push_called.new.names.items ≡ ((rows_shown c.extend_from_slice-2.new.self.items ++ (codes "catch", 3) ∷ []) ++ call_names 8) ++ names_called c.args.preds.now = c.in_ok-push_called.ensures ∙ ap (λ r. r ++ names_called c.args.preds.now) calls in
    are-named c.args.preds.now c.args.helpers.now (rows_shown c.extend_from_slice-2.new.self.items) (rows_shown c.push_called-2.new.names.items)
    (all-built-named (rows_shown c.extend_from_slice.new.self.items) (rows_shown c.extend_from_slice-2.new.self.items) (effects-named (rows_shown c.in_ok-names.names.items) (rows_shown c.extend_from_slice.new.self.items) c.in_ok-names.ensures built) solves) (c.in_ok-push_called-2.ensures ∙ ap (λ r. r ++ names_called c.args.helpers.now) program)
