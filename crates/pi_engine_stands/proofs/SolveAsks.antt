-- What a call of `solve` asks for, by its one argument or its two.
use Rattle.std.proofs.Common.{◌≡◌, ℕ, Bool, true, false, ◌&&◌, ◌||◌, List, Option, Some, None, refl, ap}
use Rattle.std.specs.Prelude.{codes, cond}
use Rattle.std.specs.Option.{option_or}
use Rattle.std.specs.Str.{bytes_eq}
use Rattle.pi_terms.specs.Tree.{Tree, Trees, no_trees, tree, tree_count}
use Rattle.pi_constraints.specs.State.{State}
use Rattle.pi_effects.specs.Rows.{done_by, has_line}
use Rattle.pi_settling.specs.Asked.{Asked, asked, asked_plainly}
use Rattle.pi_settling.specs.SolveCalls.{solve_calls, solve_asked, is_solve}

-- with the variables alone, or with options before them
pub data IsAsked (name : List ℕ) (s : State) : Trees → Type 0 where
  plainly : (vars : Tree) → solve_asked name (tree vars no_trees) s ≡ Some (asked_plainly s vars) → IsAsked name s (tree vars no_trees)
  by_options : (words vars : Tree) → solve_asked name (tree words (tree vars no_trees)) s ≡ Some (asked s words vars) → IsAsked name s (tree words (tree vars no_trees))

named : (b x y : Bool) → ((b && x) || ((b && y) || false)) ≡ true → b ≡ true
named true x y h = refl
named false x y h = absurd cc

unfit : (b : Bool) → ((b && false) || ((b && false) || false)) ≡ true → ⊥
unfit true h = cc
unfit false h = cc

pub asked-so : (name : List ℕ) (ts : Trees) (s : State) → is_solve name (tree_count ts) ≡ true → IsAsked name s ts
unfolding has_line solve_calls done_by tree_count
asked-so name no_trees s is = absurd (unfit (bytes_eq (codes "solve") name) is)
asked-so name (tree t no_trees) s is =
    plainly t (ap (λ b. option_or (cond b (Some (asked_plainly s t)) None) (option_or (cond b None None) None)) (named (bytes_eq (codes "solve") name) true false is))
asked-so name (tree t (tree u no_trees)) s is =
    by_options t u (ap (λ b. option_or (cond b None None) (option_or (cond b (Some (asked s t u)) None) None)) (named (bytes_eq (codes "solve") name) false true is))
asked-so name (tree t (tree u (tree w ts))) s is = absurd (unfit (bytes_eq (codes "solve") name) is)
