use Rattle.std.proofs.Common.{ℕ, rules, sym, ◌∙◌, get_or}
use Rattle.std.specs.Prelude.{ℤ, pos}
use Rattle.std.specs.Int.{w64}
use Rattle.std.proofs.lemmas.Int.{to_z-of_z}
use Rattle.std.proofs.lemmas.List.{get_or_default}
use Rattle.pi_sat_search.proofs.ValueLemmas.{assigned-here, assigned-behind, assigned-end}
use Rattle.pi_sat_search.proofs.solutions.assigned.Goals as goal

pub returns-then-here-var : goal.returns-then-here-var
returns-then-here-var c =
    let p : ℕ × ℤ = get_or c.args.values.now c.loop-i.i (0, pos 0) in
    to_z-of_z w64 _ (search rules) ∙ (sym (assigned-here c.args.values.now c.args.var c.loop-i.i p c.loop-i-test.true (get_or_default c.args.values.now c.loop-i.i (0, pos 0) p c.loop-i-test.true) c.if-here-var.true) ∙ c.loop-i.invariant)

pub loop-i-preserved : goal.loop-i-preserved
loop-i-preserved c =
    let p : ℕ × ℤ = get_or c.args.values.now c.loop-i.i (0, pos 0) in
    assigned-behind c.args.values.now c.args.var c.loop-i.i p c.loop-i-test.true (get_or_default c.args.values.now c.loop-i.i (0, pos 0) p c.loop-i-test.true) c.if-here-var.false ∙ c.loop-i.invariant

pub returns : goal.returns
returns c = sym (assigned-end c.args.values.now c.args.var c.loop-i.i c.loop-i-test.false) ∙ c.loop-i.invariant
