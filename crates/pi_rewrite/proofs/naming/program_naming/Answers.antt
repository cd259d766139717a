-- The most of the prelude's, and then of the program's.
use Rattle.std.proofs.Common.{◌≡◌, ◌++◌, ℕ, suc, map, ap, ◌∙◌, subst}
use Rattle.std.specs.Prelude.{IfOk}
use Rattle.pi_syntax.specs.ProgramTree.{part_tree}
use Rattle.pi_rewrite.specs.Built.{tildes, longest_head}
use Rattle.pi_rewrite.proofs.LengthLemmas.{head-append}
use Rattle.pi_rewrite.proofs.naming.program_naming.Goals as goal

pub returns : goal.returns
returns c =
    let most : c.longest_head-most-2.result ≡ longest_head 0 (map part_tree c.args.prelude.now ++ map part_tree c.args.program.now) =
    c.longest_head-most-2.ensures
    ∙ (ap (λ (m : ℕ). longest_head m (map part_tree c.args.program.now)) c.longest_head-most.ensures ∙ head-append 0 (map part_tree c.args.prelude.now) (map part_tree c.args.program.now)) in
    subst (λ (n : ℕ). IfOk c.longer_than.result (λ made. made.prefix ≡ tildes (suc n))) most c.longer_than.ensures
