use Rattle.std.proofs.Common.{◌≡◌, ◌≤◌, ◌<◌, ◌+◌, ◌∙◌, ◌++◌, ◌∷◌, [], ◌-◌, ap, length, length-append, arith, rules}
use Rattle.std.specs.Prelude.{slice_get}
use Rattle.pi_terms.specs.Tree.{most_cells}
use Rattle.pi_types.specs.TreeStoreRead.{entered_args}
use Rattle.pi_types.proofs.TreeStoreReads.{reading_start, reading_step, reading_large, reading_spelt, reading_done, none_left}
use Rattle.pi_types.proofs.tree_store.state.TreeState.bare_cells.Goals as goal

pub loop-at-init : goal.loop-at-init
loop-at-init c = reading_start c.args.atoms.now c.args.self.now c.args.r _ _ c.new-read.ensures.items (c.in-Ok.ensures.items ∙ ap (λ rs. rs ++ c.args.r ∷ []) c.new-stack.ensures.items)

pub returns-then-args-len-clause-reads : goal.returns-then-args-len-clause-reads
returns-then-args-len-clause-reads c =
    let e : length c.args-in-Some.result.now ≡ length (entered_args (slice_get c.args.self.now.terms c.followed-last.result.number)) = ap length c.args-in-Some.ensures in
    let l1 : c.len.result ≡ length c.loop-at.read.items = search rules in
    let l2 : c.len-in-Some.result ≡ length c.pop.new.self.items = search rules in
    let room : length c.loop-at.read.items + length c.loop-at.stack.items ≤ most_cells = c.loop-at.invariant.room in
    let n : length c.loop-at.stack.items ≡ length (c.pop.new.self.items ++ c.in-Some.at ∷ []) = ap length c.in-Some.ensures.items in
    let f : 16777215 - c.len.result - c.len-in-Some.result < length c.args-in-Some.result.now = c.if-args-len.true in
    reading_large c.args.atoms.now c.args.self.now c.args.r c.loop-at.read.items c.loop-at.stack.items c.pop.new.self.items c.in-Some.at c.followed-last.result c.loop-at.invariant c.in-Some.ensures.items c.followed-last.ensures (omega (arith, length-append c.pop.new.self.items (c.in-Some.at ∷ [])))

pub loop-at-preserved : goal.loop-at-preserved
loop-at-preserved c =
    let e : length c.args-in-Some.result.now ≡ length (entered_args (slice_get c.args.self.now.terms c.followed-last.result.number)) = ap length c.args-in-Some.ensures in
    let l1 : c.len.result ≡ length c.loop-at.read.items = search rules in
    let l2 : c.len-in-Some.result ≡ length c.pop.new.self.items = search rules in
    let room : length c.loop-at.read.items + length c.loop-at.stack.items ≤ most_cells = c.loop-at.invariant.room in
    let n : length c.loop-at.stack.items ≡ length (c.pop.new.self.items ++ c.in-Some.at ∷ []) = ap length c.in-Some.ensures.items in
    let f : length c.args-in-Some.result.now ≤ 16777215 - c.len.result - c.len-in-Some.result = c.if-args-len.false in
    reading_step c.args.atoms.now c.args.self.now c.args.r c.loop-at.read.items c.enter.new.read.items c.loop-at.stack.items c.pop.new.self.items c.enter.new.stack.items c.in-Some.at c.followed-last.result c.loop-at.invariant c.in-Some.ensures.items c.followed-last.ensures (omega (arith, length-append c.pop.new.self.items (c.in-Some.at ∷ []))) c.in-Ok-enter.ensures.read c.in-Ok-enter.ensures.stack

pub returns-clause-spelt : goal.returns-clause-spelt
returns-clause-spelt c =
    let n : length c.loop-at.stack.items ≡ 0 = omega (arith, c.in_default-pop.ensures.cases) in
    reading_spelt c.args.atoms.now c.args.self.now c.args.r _ _ c.loop-at.invariant (none_left c.loop-at.stack.items n)

pub returns-clause-reads : goal.returns-clause-reads
returns-clause-reads c =
    let n : length c.loop-at.stack.items ≡ 0 = omega (arith, c.in_default-pop.ensures.cases) in
    λ t g. reading_done c.args.atoms.now c.args.self.now c.args.r _ _ c.loop-at.invariant (none_left c.loop-at.stack.items n) t g
