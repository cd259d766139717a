-- What keeps a state one from which goals begin: new variables, and evaluation.
use Rattle.std.proofs.Common.{◌≡◌, ℕ, zero, suc, refl, ◌∙◌, subst, sym}
use Rattle.pi_terms.specs.Tree.{Tree, Trees}
use Rattle.pi_terms.specs.Places.{Places}
use Rattle.pi_constraints.specs.State.{State, with_new}
use Rattle.pi_constraints.specs.Evaluation.{evaluated, evaluated_all, with_new_variables}
use Rattle.pi_settling.proofs.CalmLemmas.{new_variables_keep_calm, evaluation_makes_variables, evaluation_of_all_makes_variables}
use Rattle.pi_engine_stands.specs.Rests.{Rests}

news-agents : (k : ℕ) (s : State) → (with_new_variables k s).agents ≡ s.agents
unfolding with_new_variables
news-agents zero s = refl
news-agents (suc k) s = news-agents k (with_new s)

pub news-rest : (k : ℕ) (s : State) → Rests s → Rests (with_new_variables k s)
news-rest k s is = record { calm = new_variables_keep_calm k s is.calm; none_made = news-agents k s ∙ is.none_made }

made-rest : (s r : State) → (k : ℕ) × (r ≡ with_new_variables k s) → Rests s → Rests r
made-rest s r made is = subst Rests (sym made.1) (news-rest made.0 s is)

pub evaluated-rests : (t : Tree) (e : Places) (s : State) → Rests s → Rests (evaluated t e s).state
evaluated-rests t e s is = made-rest s (evaluated t e s).state (evaluation_makes_variables t e s) is

pub evaluated-all-rests : (ts : Trees) (e : Places) (s : State) → Rests s → Rests (evaluated_all ts e s).state
evaluated-all-rests ts e s is = made-rest s (evaluated_all ts e s).state (evaluation_of_all_makes_variables ts e s) is
