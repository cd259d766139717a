-- What goals leave that began in a state from which goals begin: new variables, a unification, and a fact that unifies.
use Rattle.std.proofs.Common.{◌≡◌, ℕ, zero, suc, [], Option, Some, None, replicate, refl, sym, ◌∙◌, subst, arith}
use Rattle.std.specs.Prelude.{List, Contains, option_map, option_and_then, ⊤}
use Rattle.pi_terms.specs.Tree.{Tree, comp, Trees}
use Rattle.pi_terms.specs.Places.{Places, held}
use Rattle.pi_terms.specs.PatternTree.{PatternTree, slot, exact_int, exact_atom, compound, named, PatternTrees, no_patterns, pattern}
use Rattle.pi_constraints.specs.declared.constraint.Constraint.{Constraint}
use Rattle.pi_constraints.specs.State.{State, next, with_new, SpeaksBelow, IsState, PlacesBelow}
use Rattle.pi_constraints.specs.Unify.{unified}
use Rattle.pi_constraints.specs.Evaluation.{Evaluated, EvaluatedAll, slot_term, with_new_variables}
use Rattle.pi_constraints.proofs.KeepsLemmas.{EvaluatedBelow, AllBelow, Later, slot-below, speaks-more, comp-below, trees-below, no-trees-below, int-below, atom-below, unified-later, places-empty, news-keep}
use Rattle.pi_core.specs.CoreTree.{ClauseTree}
use Rattle.pi_settling.specs.SettlingLaws.{MaySettle}
use Rattle.pi_settling.specs.CalmLaws.{KeepsTheRest, MaySettleAfter}
use Rattle.pi_settling.proofs.CalmItems.{LooksLike, news-like, like-comes}
use Rattle.pi_settling.proofs.CalmLemmas.{slot_makes_variables}
use Rattle.pi_settling.proofs.CalmUnify.{unified_keeps_the_rest, unified_may_settle}
use Rattle.pi_meaning.specs.CoreMeaning.Facts.{also_named, with_name, in_front, fact_term, fact_terms, unified_with}
use Rattle.pi_meaning.specs.Machine.Step.{with_fact}
use Rattle.pi_meaning.specs.Shared.Follows.{Follows}
use Rattle.pi_meaning.proofs.Shared.FollowLemmas.{follows-itself, follows-then, follows-news, follows-unified}

-- what a goal makes of a state, or a part of it
pub record Left (s r : State) : Type 0 where
  pub follows : Follows s r
  pub state : IsState r
  pub settles : MaySettle r
  pub agents : r.agents ≡ s.agents

pub left-none : (s : State) → IsState s → MaySettle s → Left s s
left-none s is may = record { follows = follows-itself s; state = is; settles = may; agents = refl }

pub left-then : (s r q : State) → Left s r → Left r q → Left s q
left-then s r q a b = record { follows = follows-then s r q a.follows b.follows; state = b.state; settles = b.settles; agents = b.agents ∙ a.agents }

-- a state that may settle after another one, and follows it
pub left-after : (s r : State) → MaySettleAfter s r → Follows s r → Left s r
left-after s r m f = record { follows = f; state = m.state; settles = m.settles; agents = m.agents }

-- ---- new variables

news-agents : (k : ℕ) (s : State) → (with_new_variables k s).agents ≡ s.agents
unfolding with_new_variables
news-agents zero s = refl
news-agents (suc k) s = news-agents k (with_new s)

news-settle : (s r : State) → LooksLike s r → MaySettle s → MaySettle r
news-settle s r h may c y posted at = like-comes s r h y (may c y (subst (λ (cs : List Constraint). Contains cs c) h.constraints posted) at)

pub left-news : (k : ℕ) (s : State) → IsState s → MaySettle s → Left s (with_new_variables k s)
left-news k s is may = record {
  follows = follows-news k s;
  state = news-keep k s is;
  settles = news-settle s (with_new_variables k s) (news-like k s is) may;
  agents = news-agents k s;
}

made-left : (s r : State) → (k : ℕ) × (r ≡ with_new_variables k s) → IsState s → MaySettle s → Left s r
made-left s r made is may = subst (Left s) (sym made.1) (left-news made.0 s is may)

-- ---- a unification

pub left-unified : (s r : State) (t u : Tree) → IsState s → MaySettle s → SpeaksBelow (next s) t → SpeaksBelow (next s) u → unified s t u ≡ Some r → Left s r
left-unified s r t u is may a b e =
    let it : KeepsTheRest s r = unified_keeps_the_rest s r t u e in
    record {
      follows = follows-unified s r t u is a b e;
      state = (unified-later s r t u is a b e).0;
      settles = unified_may_settle s r t u is may e;
      agents = it.agents;
    }

-- ---- a fact

-- what a term of its head comes to
record Leaves (s : State) (x : Evaluated) : Type 0 where
  below : EvaluatedBelow s x
  left : Left s x.state

record LeavesAll (s : State) (x : EvaluatedAll) : Type 0 where
  below : AllBelow s x
  left : Left s x.state

abbrev SomeLeaves : State → Option Evaluated → Type 0
SomeLeaves s None = ⊤
SomeLeaves s (Some x) = Leaves s x

abbrev SomeLeavesAll : State → Option EvaluatedAll → Type 0
SomeLeavesAll s None = ⊤
SomeLeavesAll s (Some x) = LeavesAll s x

slot-leaves : (k : ℕ) (e : Places) (s : State) → IsState s → MaySettle s → PlacesBelow (next s) e → Leaves s (slot_term (held e k) k e s)
slot-leaves k e s is may slots = record { below = slot-below k e s is slots; left = made-left s (slot_term (held e k) k e s).state (slot_makes_variables (held e k) k e s) is may }

compound-leaves : (s : State) (name : List ℕ) (o : Option EvaluatedAll) → SomeLeavesAll s o → SomeLeaves s (option_map (with_name name) o)
compound-leaves s name None a = tt
compound-leaves s name (Some x) a = record {
  below = record { state = a.below.state; more = a.below.more; below = comp-below (next x.state) name x.trees a.below.below; slots = a.below.slots };
  left = a.left;
}

joined-leaves : (s : State) (whole part : Evaluated) → Leaves s whole → Leaves whole.state part → (o : Option State) → unified part.state whole.tree part.tree ≡ o →
    SomeLeaves s (option_map (λ r. record { tree = whole.tree; slots = part.slots; state = r }) o)
joined-leaves s whole part a b None e = tt
joined-leaves s whole part a b (Some r) e =
    let this : SpeaksBelow (next part.state) whole.tree = speaks-more (next whole.state) (next part.state) whole.tree b.below.more a.below.below in
    let later : Later part.state r = unified-later part.state r whole.tree part.tree b.below.state this b.below.below e in
    record {
      below = record {
        state = later.0;
        more = omega (arith, a.below.more, b.below.more, later.1);
        below = speaks-more (next part.state) (next r) whole.tree later.1 this;
        slots = λ k t is. speaks-more (next part.state) (next r) t later.1 (b.below.slots k t is);
      };
      left = left-then s whole.state r a.left (left-then whole.state part.state r b.left (left-unified part.state r whole.tree part.tree b.below.state b.left.settles this b.below.below e));
    }

whole-leaves : (s : State) (whole : Evaluated) → Leaves s whole → (o : Option Evaluated) → SomeLeaves whole.state o → SomeLeaves s (option_and_then (also_named whole) o)
whole-leaves s whole a None b = tt
whole-leaves s whole a (Some part) b = joined-leaves s whole part a b (unified part.state whole.tree part.tree) refl

front-leaves : (s : State) (x : Evaluated) → Leaves s x → (o : Option EvaluatedAll) → SomeLeavesAll x.state o → SomeLeavesAll s (option_map (in_front x) o)
front-leaves s x a None b = tt
front-leaves s x a (Some rest) b = record {
  below = record {
    state = b.below.state;
    more = omega (arith, a.below.more, b.below.more);
    below = trees-below (next rest.state) x.tree rest.trees (speaks-more (next x.state) (next rest.state) x.tree b.below.more a.below.below) b.below.below;
    slots = b.below.slots;
  };
  left = left-then s x.state rest.state a.left b.left;
}

onward-leaves : (s : State) (f : Evaluated → Option EvaluatedAll) → ((x : Evaluated) → Leaves s x → SomeLeavesAll s (f x)) → (o : Option Evaluated) → SomeLeaves s o → SomeLeavesAll s (option_and_then f o)
onward-leaves s f b None a = tt
onward-leaves s f b (Some x) a = b x a

mutual
  unfolding fact_term

  fact-leaves : (p : PatternTree) (e : Places) (s : State) → IsState s → MaySettle s → PlacesBelow (next s) e → SomeLeaves s (fact_term p e s)
  fact-leaves (slot k) e s is may slots = slot-leaves k e s is may slots
  fact-leaves (exact_int n) e s is may slots = record { below = record { state = is; more = omega arith; below = int-below (next s) n; slots = slots }; left = left-none s is may }
  fact-leaves (exact_atom name) e s is may slots = record { below = record { state = is; more = omega arith; below = atom-below (next s) name; slots = slots }; left = left-none s is may }
  fact-leaves (compound name ps) e s is may slots = compound-leaves s name (fact_terms ps e s) (facts-leave ps e s is may slots)
  fact-leaves (named k p) e s is may slots =
      let whole : Evaluated = slot_term (held e k) k e s in
      let a : Leaves s whole = slot-leaves k e s is may slots in
      whole-leaves s whole a (fact_term p whole.slots whole.state) (fact-leaves p whole.slots whole.state a.below.state a.left.settles a.below.slots)

  facts-leave : (ps : PatternTrees) (e : Places) (s : State) → IsState s → MaySettle s → PlacesBelow (next s) e → SomeLeavesAll s (fact_terms ps e s)
  facts-leave no_patterns e s is may slots = record { below = record { state = is; more = omega arith; below = no-trees-below (next s); slots = slots }; left = left-none s is may }
  facts-leave (pattern p ps) e s is may slots =
      onward-leaves s (λ x. option_map (in_front x) (fact_terms ps x.slots x.state))
      (λ x a. front-leaves s x a (fact_terms ps x.slots x.state) (facts-leave ps x.slots x.state a.below.state a.left.settles a.below.slots)) (fact_term p e s) (fact-leaves p e s is may slots)

fact-in : (ts : Trees) (s r : State) (o : Option EvaluatedAll) → SpeaksBelow (next s) (comp [] ts) → SomeLeavesAll s o → option_and_then (unified_with ts) o ≡ Some r → Left s r
fact-in ts s r None these a e = absurd cc
fact-in ts s r (Some all) these a e =
    left-then s all.state r a.left
    (left-unified all.state r (comp [] ts) (comp [] all.trees) a.below.state a.left.settles (speaks-more (next s) (next all.state) (comp [] ts) a.below.more these) (comp-below (next all.state) [] all.trees a.below.below) e)

pub left-fact : (ts : Trees) (s r : State) (c : ClauseTree) → IsState s → MaySettle s → SpeaksBelow (next s) (comp [] ts) → with_fact ts s c ≡ Some r → Left s r
left-fact ts s r c is may these e =
    let es : Places = replicate c.slots None in
    fact-in ts s r (fact_terms c.head es s) these (facts-leave c.head es s is may (places-empty (next s) c.slots)) e
