use Rattle.std.proofs.Common.{rules, ◌≡◌, sym, subst}
use Rattle.pi_engine_arenas.specs.Blocks.{BlocksView, brought_back, IsKept}
use Rattle.pi_engine_arenas.proofs.BlocksLemmas.{released}
use Rattle.pi_engine_arenas.proofs.blocks.Blocks.release.Goals as goal

pub returns-then-not-forget-clause-keeps : goal.returns-then-not-forget-clause-keeps
returns-then-not-forget-clause-keeps c = λ m h few early.
    let P : BlocksView → Type 0 = λ v. IsKept v m × (brought_back m v ≡ brought_back m c.args.self.now) in
    subst P (sym (c.forget.ensures.stays c.if-not-forget.true))
    (released m c.args.self.now _ c.loop-i.self h (search rules) (search rules) (search rules) (search rules) (c.loop-i.invariant.4 m.trail early (search rules)) (c.loop-i.invariant.3 m few early))

pub returns-clause-keeps : goal.returns-clause-keeps
returns-clause-keeps c = λ m h few early.
    released m c.args.self.now _ c.loop-i.self h (search rules) (search rules) (search rules) (search rules) (c.loop-i.invariant.4 m.trail early (search rules)) (c.loop-i.invariant.3 m few early)
