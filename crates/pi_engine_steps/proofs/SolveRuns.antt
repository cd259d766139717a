-- Calls of `solve` that label or begin a search, by what they ask for.
use Rattle.std.proofs.Common.{◌≡◌, ℕ, true, List, [], ◌∷◌, Option, Some, None, length, refl, sym, ◌∙◌, ap, subst}
use Rattle.pi_terms.specs.Tree.{Tree, Trees, no_trees, tree, tree_count}
use Rattle.pi_constraints.specs.declared.constraint.Item.{Item}
use Rattle.pi_constraints.specs.declared.store.Ref.{Ref}
use Rattle.pi_constraints.specs.State.{State, bindings}
use Rattle.pi_constraints.specs.Store.{StoreView, Keeps, Terms, IsTerm, AreTerms}
use Rattle.pi_constraints.specs.Value.{IsAcyclic}
use Rattle.pi_core.specs.CoreTree.{PredTree}
use Rattle.pi_label.specs.declared.options.Objective.{Objective}
use Rattle.pi_label.specs.Reads.{IsObjective, AreObjectives}
use Rattle.pi_settling.specs.Asked.{Flat, flat, no_item, flat_items, Asked, labels, raises, with_items, asked_plainly}
use Rattle.pi_settling.specs.Options.{Options, Objective as Sought}
use Rattle.pi_settling.specs.SolveCalls.{solve_asked, is_solve}
use Rattle.pi_settling.specs.Words.{plain_words}
use Rattle.pi_lib.proofs.RunLemmas.{terms-count}
use Rattle.pi_lib_solve.proofs.AskLemmas.{plainly-is}
use Rattle.pi_unify.specs.Terms.{HoldsNoCycle}
use Rattle.pi_engine_code.specs.declared.code.Code.{Code}
use Rattle.pi_engine_code.specs.Code.{tables_of}
use Rattle.pi_engine_stands.specs.Stands.{Loaded, tables_in, steps_of, search_held, IsCodeOf}
use Rattle.pi_engine_stands.specs.Searches.{FindsRound}
use Rattle.pi_engine_stands.proofs.ProgramStands.{code-keeps}
use Rattle.pi_engine_stands.proofs.SearchBeginsEntry.{search_for}
use Rattle.pi_engine_stands.proofs.SolveAsks.{IsAsked, plainly, by_options, asked-so}

-- ---- an objective

-- an objective is there where one was read
pub objective-there : {M : Type 0} (v : StoreView M) (x : Option Objective) (y : Option Sought) (p : Objective) → AreObjectives v x y → x ≡ Some p → (b : Sought) × (y ≡ Some b)
objective-there v None y p are is = absurd cc
objective-there v (Some q) None p are is = absurd are
objective-there v (Some q) (Some b) p are is = (b, refl)

pub objective-is : {M : Type 0} (v : StoreView M) (x : Option Objective) (y : Option Sought) (p : Objective) (b : Sought) → AreObjectives v x y → x ≡ Some p → y ≡ Some b → IsObjective v p b
objective-is v None y p b are is has = absurd cc
objective-is v (Some q) None p b are is has = absurd cc
objective-is v (Some q) (Some d) p b are is has = let same : q ≡ p = cc in let meant : d ≡ b = cc in subst (λ r. IsObjective v r b) same (subst (IsObjective v q) meant are)

pub objective-none : {M : Type 0} (v : StoreView M) (x : Option Objective) (y : Option Sought) → AreObjectives v x y → x ≡ None → y ≡ None
objective-none v None None are is = refl
objective-none v None (Some b) are is = absurd are
objective-none v (Some q) y are is = absurd cc

objective_in : Asked → Option Sought
objective_in (labels o xs) = o.objective
objective_in (raises ball) = None

items-none : (s : State) (p o : Options) (xs : List Item) (f : Flat) → p.objective ≡ None → with_items s p f ≡ labels o xs → o.objective ≡ None
unfolding objective_in
items-none s p o xs (flat ys) none is = ap objective_in (sym is) ∙ none
items-none s p o xs (no_item t) none is = absurd cc

same-asked : (o : Option Asked) (x y : Asked) → o ≡ Some x → o ≡ Some y → x ≡ y
same-asked o x y is at = cc

no-objective : (b : Sought) (o : Options) (X : Type 0) → o.objective ≡ None → o.objective ≡ Some b → X
no-objective b o X none some = absurd (let it : None ≡ Some b = sym none ∙ some in cc)

-- a call with an objective has two arguments
pub asked-two : (name : List ℕ) (ts : Trees) (s : State) (o : Options) (xs : List Item) → IsAcyclic (bindings s) → is_solve name (tree_count ts) ≡ true → solve_asked name ts s ≡ Some (labels o xs) →
    (b : Sought) → o.objective ≡ Some b → (words : Tree) × (vars : Tree) × (ts ≡ tree words (tree vars no_trees))
asked-two name ts s o xs acyclic solves asks b some = by ts (asked-so name ts s solves) asks
  where
    by : (us : Trees) → IsAsked name s us → solve_asked name us s ≡ Some (labels o xs) → (words : Tree) × (vars : Tree) × (us ≡ tree words (tree vars no_trees))
    by _ (plainly vars so) asks =
        no-objective b o _ (items-none s _ o xs (flat_items (bindings s) vars) refl (sym (plainly-is s vars acyclic) ∙ same-asked (solve_asked name (tree vars no_trees) s) (asked_plainly s vars) (labels o xs) so asks)) some
    by _ (by_options words vars so) asks = (words, vars, refl)

-- ---- what a search takes

-- there are two arguments
pub two-terms : {M : Type 0} (v : StoreView M) (rs : List Ref) (t u : Tree) → AreTerms v rs (tree t (tree u no_trees)) → length rs ≡ 2
unfolding tree_count
two-terms v rs t u are = terms-count v rs (tree t (tree u no_trees)) are

-- the second of two arguments
pub second-term : {M : Type 0} (v : StoreView M) (rs : List Ref) (q r : Ref) (t u : Tree) → AreTerms v rs (tree t (tree u no_trees)) → rs ≡ q ∷ r ∷ [] → IsTerm v r u
unfolding AreTerms
second-term v rs q r t u are is = (subst (λ qs. AreTerms v qs (tree t (tree u no_trees))) is are).1.0

-- what its block is to hold
pub search-terms : {M : Type 0} (v : StoreView M) (plain vars wanted : Ref) (o : Options) (b : Sought) (u : Tree) → IsTerm v plain (plain_words o) → IsTerm v vars u → IsTerm v wanted b.expression →
    AreTerms v (plain ∷ vars ∷ wanted ∷ []) (search_held (search_for o b u))
unfolding AreTerms
search-terms v plain vars wanted o b u words these this = (words, (these, (this, tt)))

-- the place of the goal that labels in rounds, in the tables that were loaded, where it is looked for in a store that keeps what there was
pub round-in : {M : Type 0} (l : Loaded) (code : Code) (v x u : StoreView M) (found : Option ℕ) → l.code ≡ code → IsCodeOf l.code (tables_in l) v.names l.preds → Keeps v u → HoldsNoCycle x →
    ((t : Terms) (preds : List PredTree) → HoldsNoCycle x → IsCodeOf code (tables_of t code) u.names preds → FindsRound (tables_of t code) code.steps.items found) → FindsRound (tables_in l) (steps_of l) found
round-in l code v x u found is_code is keeps acyclic finds =
    subst (λ y. (t : Terms) (preds : List PredTree) → HoldsNoCycle x → IsCodeOf y (tables_of t y) u.names preds → FindsRound (tables_of t y) y.steps.items found) (sym is_code) finds
    l.terms l.preds acyclic (code-keeps l.code (tables_in l) v.names u.names l.preds (λ i name has. keeps.names i name has) is)
