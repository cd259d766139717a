-- What goals leave that began in a state from which goals begin, as stores answer a unification.
use Rattle.std.proofs.Common.{◌≡◌, Bool, true, [], Option, Some, None, refl, sym, ◌∙◌, subst}
use Rattle.pi_terms.specs.Tree.{Tree, comp, Trees}
use Rattle.pi_constraints.specs.State.{State, next, SpeaksBelow, IsState}
use Rattle.pi_constraints.specs.Unify.{unified}
use Rattle.pi_core.specs.CoreTree.{ClauseTree}
use Rattle.pi_unify.specs.Answers.{Answers}
use Rattle.pi_settling.specs.SettlingLaws.{MaySettle}
use Rattle.pi_settling.specs.Calm.{IsCalm}
use Rattle.pi_meaning.specs.Machine.Step.{with_fact}
use Rattle.pi_meaning.proofs.CoreMeaning.LeftLemmas.{Left, left-unified, left-fact}
use Rattle.pi_engine_settle.specs.Settles.{LeftBy}

pub left-by : (before s : State) → IsCalm before → before.agents ≡ [] → Left before s → LeftBy before s
left-by before s calm none left = record { calm = calm; follows = left.follows; state = left.state; settles = left.settles; none_made = left.agents ∙ none }

answered-in : (s u : State) (t x : Tree) (o : Option State) (one : Bool) → unified s t x ≡ o → IsState s → MaySettle s → SpeaksBelow (next s) t → SpeaksBelow (next s) x → Answers o one u → one ≡ true → Left s u
answered-in s u t x None one e is may a b answers so = absurd cc
answered-in s u t x (Some r) one e is may a b answers so = subst (Left s) (sym answers.1) (left-unified s r t x is may a b e)

-- the same of a unification in a store
pub left-answered : (s u : State) (t x : Tree) (one : Bool) → IsState s → MaySettle s → SpeaksBelow (next s) t → SpeaksBelow (next s) x → Answers (unified s t x) one u → one ≡ true → Left s u
left-answered s u t x one is may a b answers so = answered-in s u t x (unified s t x) one refl is may a b answers so

fact-answered : (ts : Trees) (s u : State) (c : ClauseTree) (o : Option State) (one : Bool) → with_fact ts s c ≡ o → IsState s → MaySettle s → SpeaksBelow (next s) (comp [] ts) → Answers o one u → one ≡ true → Left s u
fact-answered ts s u c None one e is may these answers so = absurd cc
fact-answered ts s u c (Some r) one e is may these answers so = subst (Left s) (sym answers.1) (left-fact ts s r c is may these e)

-- the same of a fact that is unified in a store
pub left-tried : (ts : Trees) (s u : State) (c : ClauseTree) (one : Bool) → IsState s → MaySettle s → SpeaksBelow (next s) (comp [] ts) → Answers (with_fact ts s c) one u → one ≡ true → Left s u
left-tried ts s u c one is may these answers so = fact-answered ts s u c (with_fact ts s c) one refl is may these answers so
