-- Lemmas on the states that the terms of a fact's head leave: what solves one of them solves the state before the head too.
use Rattle.std.proofs.Common.{◌≡◌, ℕ, zero, suc, [], ◌∷◌, ◌++◌, refl, sym, subst, arith}
use Rattle.std.proofs.lemmas.List.{map-append}
use Rattle.std.specs.Prelude.{List, Option, Some, None, option_map, option_and_then, ⊤}
use Rattle.pi_terms.specs.Tree.{Tree}
use Rattle.pi_terms.specs.Places.{Places, held}
use Rattle.pi_terms.specs.PatternTree.{PatternTree, slot, exact_int, exact_atom, compound, named, PatternTrees, no_patterns, pattern}
use Rattle.pi_constraints.specs.Value.{Bindings, Solves}
use Rattle.pi_constraints.specs.State.{State, free, binding, bindings, next, with_new, SpeaksBelow, IsState, PlacesBelow}
use Rattle.pi_constraints.specs.Unify.{unified, PairsBelow}
use Rattle.pi_constraints.specs.Evaluation.{Evaluated, EvaluatedAll, slot_term}
use Rattle.pi_constraints.proofs.KeepsLemmas.{EvaluatedBelow, AllBelow, Later, slot-below, speaks-more, comp-below, trees-below, no-trees-below, int-below, atom-below, unified-later}
use Rattle.pi_constraints.proofs.UnifyLemmas.{Unifies, IsResult, result}
use Rattle.pi_meaning.specs.CoreMeaning.Facts.{also_named, with_name, in_front, fact_term, fact_terms}

-- what a term comes to
pub record Leaves (s : State) (x : Evaluated) : Type 0 where
  pub below : EvaluatedBelow s x
  pub solved : (a : ℕ → Tree) → Solves a (bindings x.state) → Solves a (bindings s)

pub record LeavesAll (s : State) (x : EvaluatedAll) : Type 0 where
  pub below : AllBelow s x
  pub solved : (a : ℕ → Tree) → Solves a (bindings x.state) → Solves a (bindings s)

abbrev SomeLeaves : State → Option Evaluated → Type 0
SomeLeaves s None = ⊤
SomeLeaves s (Some x) = Leaves s x

abbrev pub SomeLeavesAll : State → Option EvaluatedAll → Type 0
SomeLeavesAll s None = ⊤
SomeLeavesAll s (Some x) = LeavesAll s x

-- one more variable binds nothing
held-behind : (xs ys : Places) (n : ℕ) (u : Tree) → held xs n ≡ Some u → held (xs ++ ys) n ≡ Some u
held-behind [] ys n u is = absurd cc
held-behind (x ∷ xs) ys zero u is = is
held-behind (x ∷ xs) ys (suc n) u is = held-behind xs ys n u is

new-solved : (s : State) (a : ℕ → Tree) → Solves a (bindings (with_new s)) → Solves a (bindings s)
new-solved s a solves n u is = solves n u (subst (λ (bs : Bindings). held bs n ≡ Some u) (sym (map-append binding s.variables (free ∷ []))) (held-behind (bindings s) (None ∷ []) n u is))

slot-by : (o : Option Tree) (k : ℕ) (e : Places) (s : State) → EvaluatedBelow s (slot_term o k e s) → Leaves s (slot_term o k e s)
slot-by (Some t) k e s below = record { below = below; solved = λ a solves. solves }
slot-by None k e s below = record { below = below; solved = λ a solves. new-solved s a solves }

slot-leaves : (k : ℕ) (e : Places) (s : State) → IsState s → PlacesBelow (next s) e → Leaves s (slot_term (held e k) k e s)
slot-leaves k e s is slots = slot-by (held e k) k e s (slot-below k e s is slots)

compound-leaves : (s : State) (name : List ℕ) (o : Option EvaluatedAll) → SomeLeavesAll s o → SomeLeaves s (option_map (with_name name) o)
compound-leaves s name None a = tt
compound-leaves s name (Some x) a = record {
  below = record { state = a.below.state; more = a.below.more; below = comp-below (next x.state) name x.trees a.below.below; slots = a.below.slots };
  solved = a.solved;
}

-- the part of a named pattern is made equal to its variable
joined-leaves : (s : State) (whole part : Evaluated) → Leaves s whole → Leaves whole.state part → (o : Option State) →
    unified part.state whole.tree part.tree ≡ o → SomeLeaves s (option_map (λ r. record { tree = whole.tree; slots = part.slots; state = r }) o)
unfolding PairsBelow
joined-leaves s whole part a b None e = tt
joined-leaves s whole part a b (Some r) e =
    let this : SpeaksBelow (next part.state) whole.tree = speaks-more (next whole.state) (next part.state) whole.tree b.below.more a.below.below in
    let later : Later part.state r = unified-later part.state r whole.tree part.tree b.below.state this b.below.below e in
    let unifies : Unifies part.state ((whole.tree, part.tree) ∷ []) r =
    subst (IsResult part.state ((whole.tree, part.tree) ∷ [])) e (result part.state ((whole.tree, part.tree) ∷ []) b.below.state (this, b.below.below, tt)) in
    record {
      below = record {
        state = later.0;
        more = omega (arith, a.below.more, b.below.more, later.1);
        below = speaks-more (next part.state) (next r) whole.tree later.1 this;
        slots = λ k t is. speaks-more (next part.state) (next r) t later.1 (b.below.slots k t is);
      };
      solved = λ q solves. a.solved q (b.solved q (unifies.solved q solves).0);
    }

whole-leaves : (s : State) (whole : Evaluated) → Leaves s whole → (o : Option Evaluated) → SomeLeaves whole.state o → SomeLeaves s (option_and_then (also_named whole) o)
whole-leaves s whole a None b = tt
whole-leaves s whole a (Some part) b = joined-leaves s whole part a b (unified part.state whole.tree part.tree) refl

front-leaves : (s : State) (x : Evaluated) → Leaves s x → (o : Option EvaluatedAll) → SomeLeavesAll x.state o → SomeLeavesAll s (option_map (in_front x) o)
front-leaves s x a None b = tt
front-leaves s x a (Some rest) b = record {
  below = record {
    state = b.below.state;
    more = omega (arith, a.below.more, b.below.more);
    below = trees-below (next rest.state) x.tree rest.trees (speaks-more (next x.state) (next rest.state) x.tree b.below.more a.below.below) b.below.below;
    slots = b.below.slots;
  };
  solved = λ q solves. a.solved q (b.solved q solves);
}

onward-leaves : (s : State) (f : Evaluated → Option EvaluatedAll) → ((x : Evaluated) → Leaves s x → SomeLeavesAll s (f x)) → (o : Option Evaluated) → SomeLeaves s o → SomeLeavesAll s (option_and_then f o)
onward-leaves s f b None a = tt
onward-leaves s f b (Some x) a = b x a

mutual
  unfolding fact_term

  fact-leaves : (p : PatternTree) (e : Places) (s : State) → IsState s → PlacesBelow (next s) e → SomeLeaves s (fact_term p e s)
  fact-leaves (slot k) e s is slots = slot-leaves k e s is slots
  fact-leaves (exact_int n) e s is slots = record { below = record { state = is; more = omega arith; below = int-below (next s) n; slots = slots }; solved = λ a solves. solves }
  fact-leaves (exact_atom name) e s is slots = record { below = record { state = is; more = omega arith; below = atom-below (next s) name; slots = slots }; solved = λ a solves. solves }
  fact-leaves (compound name ps) e s is slots = compound-leaves s name (fact_terms ps e s) (facts-leave ps e s is slots)
  fact-leaves (named k p) e s is slots =
      let whole : Evaluated = slot_term (held e k) k e s in
      let a : Leaves s whole = slot-leaves k e s is slots in
      whole-leaves s whole a (fact_term p whole.slots whole.state) (fact-leaves p whole.slots whole.state a.below.state a.below.slots)

  pub facts-leave : (ps : PatternTrees) (e : Places) (s : State) → IsState s → PlacesBelow (next s) e → SomeLeavesAll s (fact_terms ps e s)
  facts-leave no_patterns e s is slots = record { below = record { state = is; more = omega arith; below = no-trees-below (next s); slots = slots }; solved = λ a solves. solves }
  facts-leave (pattern p ps) e s is slots =
      onward-leaves s (λ x. option_map (in_front x) (fact_terms ps x.slots x.state))
      (λ x a. front-leaves s x a (fact_terms ps x.slots x.state) (facts-leave ps x.slots x.state a.below.state a.below.slots)) (fact_term p e s) (fact-leaves p e s is slots)
