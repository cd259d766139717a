use Rattle.std.proofs.Common.{◌≡◌, ◌≤◌, ◌<◌, ◌+◌, ◌∙◌, ◌++◌, ◌∷◌, [], ◌-◌, ap, length, length-append, arith, rules}
use Rattle.pi_terms.specs.Tree.{most_cells}
use Rattle.pi_store.specs.Read.{arity_of, followed_words}
use Rattle.pi_store.proofs.ReadLemmas.{reading_start, reading_step, reading_large, reading_spelt, reading_done}
use Rattle.pi_store.proofs.read.bare_cells.Goals as goal

pub loop-at-init : goal.loop-at-init
loop-at-init c = reading_start c.args.names.now c.args.words.now (followed_words c.args.reading c.args.words.now.variables) c.args.r _ _ c.new-read.ensures.items (c.in-Ok.ensures.items ∙ ap (λ rs. rs ++ c.args.r ∷ []) c.new-stack.ensures.items)

pub returns-clause-spelt : goal.returns-clause-spelt
returns-clause-spelt c =
    let n : length c.loop-at.stack.items ≡ 0 = omega (arith, c.in_default-pop.ensures.cases) in
    reading_spelt c.args.names.now c.args.words.now (followed_words c.args.reading c.args.words.now.variables) c.args.r _ _ c.loop-at.invariant n

pub returns-clause-reads : goal.returns-clause-reads
returns-clause-reads c =
    let n : length c.loop-at.stack.items ≡ 0 = omega (arith, c.in_default-pop.ensures.cases) in
    λ t g. reading_done c.args.names.now c.args.words.now (followed_words c.args.reading c.args.words.now.variables) c.args.r _ _ c.loop-at.invariant n t g

pub returns-then-arity-len-clause-reads : goal.returns-then-arity-len-clause-reads
returns-then-arity-len-clause-reads c =
    let e : c.arity.result ≡ arity_of c.cell-cell.result = c.arity.ensures in
    let l1 : c.len.result ≡ length c.loop-at.read.items = search rules in
    let l2 : c.len-in-Some.result ≡ length c.pop.new.self.items = search rules in
    let room : length c.loop-at.read.items + length c.loop-at.stack.items ≤ most_cells = c.loop-at.invariant.room in
    let n : length c.loop-at.stack.items ≡ length (c.pop.new.self.items ++ c.in-Some.at ∷ []) = ap length c.in-Some.ensures.items in
    let f : 16777215 - c.len.result - c.len-in-Some.result < c.arity.result = c.if-arity-len.true in
    reading_large c.args.names.now c.args.words.now (followed_words c.args.reading c.args.words.now.variables) c.args.r c.loop-at.read.items c.loop-at.stack.items c.pop.new.self.items c.in-Some.at c.root-last.result c.cell-cell.result c.loop-at.invariant c.in-Some.ensures.items
    c.root-last.ensures c.cell-cell.ensures (omega (arith, length-append c.pop.new.self.items (c.in-Some.at ∷ [])))

pub loop-at-preserved : goal.loop-at-preserved
loop-at-preserved c =
    let e : c.arity.result ≡ arity_of c.cell-cell.result = c.arity.ensures in
    let l1 : c.len.result ≡ length c.loop-at.read.items = search rules in
    let l2 : c.len-in-Some.result ≡ length c.pop.new.self.items = search rules in
    let room : length c.loop-at.read.items + length c.loop-at.stack.items ≤ most_cells = c.loop-at.invariant.room in
    let n : length c.loop-at.stack.items ≡ length (c.pop.new.self.items ++ c.in-Some.at ∷ []) = ap length c.in-Some.ensures.items in
    let f : c.arity.result ≤ 16777215 - c.len.result - c.len-in-Some.result = c.if-arity-len.false in
    reading_step c.args.names.now c.args.words.now (followed_words c.args.reading c.args.words.now.variables) c.args.r c.loop-at.read.items c.enter.new.read.items c.loop-at.stack.items c.pop.new.self.items c.enter.new.stack.items c.in-Some.at c.root-last.result c.cell-cell.result
    c.loop-at.invariant c.in-Some.ensures.items c.root-last.ensures c.cell-cell.ensures (omega (arith, length-append c.pop.new.self.items (c.in-Some.at ∷ []))) c.in-Ok-enter.ensures.read c.in-Ok-enter.ensures.stack
