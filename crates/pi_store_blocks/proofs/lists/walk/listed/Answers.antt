use Rattle.std.proofs.Common.{◌≡◌, ◌∙◌, ◌++◌, ◌∷◌, [], ap, length, arith}
use Rattle.pi_store_blocks.proofs.WalkLemmas.{walk_starts, walk_turns, walk_ends, turn_weighs_less}
use Rattle.pi_store_blocks.proofs.lists.walk.listed.Goals as goal

pub loop-at-init : goal.loop-at-init
loop-at-init c = walk_starts c.args.words.now.region c.args.end _ _ c.new-found.ensures.items (c.in_ok-push.ensures.items ∙ ap (λ es. es ++ c.args.end ∷ []) c.new-ends.ensures.items)

pub loop-at-preserved : goal.loop-at-preserved
loop-at-preserved c =
    walk_turns c.args.words.now.region c.args.end c.loop-at.found.items c.enter.new.found.items c.loop-at.ends.items c.pop.new.self.items c.enter.new.ends.items c.in-Some.at c.loop-at.invariant c.in-Some.ensures.items
    c.in_ok-enter.ensures.found c.in_ok-enter.ensures.ends

pub loop-at-smaller : goal.loop-at-smaller
loop-at-smaller c = turn_weighs_less c.args.words.now.region c.loop-at.ends.items c.pop.new.self.items c.enter.new.ends.items c.in-Some.at c.in-Some.ensures.items c.in_ok-enter.ensures.ends

pub returns : goal.returns
returns c =
    let n : length c.loop-at.ends.items ≡ 0 = omega (arith, c.in_default.ensures.cases) in
    walk_ends c.args.words.now.region c.args.end c.loop-at.found.items c.loop-at.ends.items c.loop-at.invariant n
