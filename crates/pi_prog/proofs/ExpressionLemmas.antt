-- The expression that tokens are, computed by the reader's steps.
use Rattle.std.proofs.Common.{◌≡◌, ℕ, zero, suc, List, map, Option, Some, None, refl, subst}
use Rattle.pi_syntax.specs.ExpTree.{ExpTree}
use Rattle.pi_syntax.specs.Grammar.{HasExp}
use Rattle.pi_expr_phrases.specs.Machine.{State, Outcome, next, done, fail, step, begin, Runs, stop, go}
use Rattle.pi_syntax.specs.Terminals.{terminal}
use Rattle.pi_syntax.specs.Tokens.{Token}
use Rattle.pi_expr.proofs.Exact.{runs_from}
use Rattle.pi_prog.proofs.TokenLemmas.{some_is}

-- behind a step
abbrev pub exp_by : (State → Option ExpTree) → Outcome → Option ExpTree
exp_by rest (next s) = rest s
exp_by rest (done e) = Some e
exp_by rest fail = None

-- what steps from a state come to, in at most so many
unfoldable pub exp_from : ℕ → State → Option ExpTree
exp_from zero s = None
exp_from (suc most) s = exp_by (exp_from most) (step s)

-- the expression that tokens are, where at most 1,000 steps read it
unfoldable pub exp_in : List Token → Option ExpTree
exp_in tokens = exp_from 1_000 (begin (map terminal tokens))

by-runs : (rest : State → Option ExpTree) → ((s : State) (e : ExpTree) → rest s ≡ Some e → Runs s e) → (s : State) (o : Outcome) (e : ExpTree) → step s ≡ o
    → exp_by rest o ≡ Some e → Runs s e
by-runs rest runs s (next n) e is same = go n is (runs n e same)
by-runs rest runs s (done f) e is same = subst (Runs s) (some_is f e same) (stop is)
by-runs rest runs s fail e is same = absurd cc

from-runs : (most : ℕ) (s : State) (e : ExpTree) → exp_from most s ≡ Some e → Runs s e
unfolding exp_from
from-runs zero s e same = absurd cc
from-runs (suc most) s e same = by-runs (exp_from most) (from-runs most) s (step s) e refl same

pub exp-has : (tokens : List Token) (e : ExpTree) → exp_in tokens ≡ Some e → HasExp tokens e
unfolding exp_in
exp-has tokens e same = runs_from tokens e (from-runs 1_000 (begin (map terminal tokens)) e same)
