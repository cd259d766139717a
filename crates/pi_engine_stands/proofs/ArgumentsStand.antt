-- The arguments of a call are evaluated, from the left.
use Rattle.std.proofs.Common.{◌≡◌, ℕ, zero, suc, ◌+◌, ◌≤◌, ◌<◌, List, [], ◌∷◌, ◌++◌, Some, None, length, map, take, drop, refl, sym, ◌∙◌, ap, subst, arith}
use Rattle.std.specs.Prelude.{slice_get}
use Rattle.std.proofs.lemmas.List.{map-append}
use Rattle.pi_terms.specs.Tree.{Tree, Trees, no_trees, tree, trees_of}
use Rattle.pi_terms.specs.TermCells.{append_trees}
use Rattle.pi_terms.specs.Places.{Places}
use Rattle.pi_constraints.specs.State.{State}
use Rattle.pi_constraints.specs.Store.{StoreView, IsTerm, AreTerms}
use Rattle.pi_constraints.specs.Evaluation.{Evaluated, EvaluatedAll, evaluated, evaluated_all}
use Rattle.pi_constraints.specs.declared.store.Ref.{Ref}
use Rattle.pi_terms.proofs.GetLemmas.{take_more}
use Rattle.pi_unify.proofs.KeepsLemmas.{terms_kept}
use Rattle.pi_engine_code.specs.declared.code.Operand.{Operand}
use Rattle.pi_engine_arenas.specs.Arenas.{ArenasView, between}
use Rattle.pi_engine_code.specs.Code.{Tables, operand_tree}
use Rattle.pi_engine_stands.specs.Here.{Block, Holds}
use Rattle.pi_engine_stands.specs.Evaluates.{Evaluates, EvaluatesAll, operand_trees}
use Rattle.pi_terms.proofs.ListLemmas.{none-past}
use Rattle.pi_engine_stands.proofs.SlotsStand.{writes-none, writes-then}

up-one : (m j : ℕ) → suc (m + j) ≡ suc m + j
up-one m j = omega arith

pub behind-first : {A : Type 0} (xs : List A) (n i : ℕ) → slice_get (drop n xs) i ≡ slice_get xs (n + i)
behind-first xs zero i = ap (slice_get xs) (omega arith)
behind-first [] (suc n) i = refl
behind-first (x ∷ xs) (suc n) i = behind-first xs n i ∙ ap (slice_get (x ∷ xs)) (up-one n i)

one-more : (xs : List Tree) (t : Tree) (e : Places) (s : State) →
    let a : EvaluatedAll = evaluated_all (trees_of xs) e s in
    let y : Evaluated = evaluated t a.slots a.state in
    evaluated_all (trees_of (xs ++ t ∷ [])) e s ≡ record { trees = append_trees a.trees (tree y.tree no_trees); slots = y.slots; state = y.state }
unfolding evaluated
one-more [] t e s = refl
one-more (x ∷ xs) t e s =
    let z : Evaluated = evaluated x e s in
    ap (λ (r : EvaluatedAll). record { trees = tree z.tree r.trees; slots = r.slots; state = r.state }) (one-more xs t z.slots z.state)

pub terms-more : {M : Type 0} (v : StoreView M) (rs : List Ref) (ts : Trees) (r : Ref) (x : Tree) → AreTerms v rs ts → IsTerm v r x → AreTerms v (rs ++ r ∷ []) (append_trees ts (tree x no_trees))
unfolding AreTerms
terms-more v [] no_trees r x h is = (is, tt)
terms-more v [] (tree t ts) r x h is = absurd h
terms-more v (q ∷ rs) no_trees r x h is = absurd h
terms-more v (q ∷ rs) (tree t ts) r x h is = (h.0, terms-more v rs ts r x h.1 is)

-- after so many of them
abbrev pub EvaluatesFirst : {M : Type 0} → Block → StoreView M → StoreView M → ArenasView M → ArenasView M → Tables → ℕ → ℕ → Places → List Ref → Type 0
EvaluatesFirst b v w a c t first i e rs = EvaluatesAll b (between v w a c) (evaluated_all (trees_of (operand_trees t first i)) e v.now.state) rs

pub evaluates-none : {M : Type 0} (b : Block) (v : StoreView M) (a : ArenasView M) (t : Tables) (first : ℕ) (e : Places) (rs : List Ref) → rs ≡ [] → Holds v.now.terms a.blocks.slots b e →
    EvaluatesFirst b v v a a t first 0 e rs
unfolding evaluated AreTerms
evaluates-none b v a t first e rs none holds =
    record { writes = writes-none b v a e holds; terms = subst (λ (qs : List Ref). AreTerms v qs no_trees) (sym none) tt }

pub evaluates-more : {M : Type 0} (b : Block) (v w x : StoreView M) (a c d : ArenasView M) (t : Tables) (first i : ℕ) (o : Operand) (e : Places) (rs new : List Ref) (r : Ref) →
    slice_get t.operands (first + i) ≡ Some o → EvaluatesFirst b v w a c t first i e rs →
    Evaluates b (between w x c d) (evaluated (operand_tree t o) (evaluated_all (trees_of (operand_trees t first i)) e v.now.state).slots w.now.state) r → new ≡ rs ++ r ∷ [] →
    EvaluatesFirst b v x a d t first (i + 1) e new
evaluates-more b v w x a c d t first i o e rs new r at before one pushed =
    let f : EvaluatedAll = evaluated_all (trees_of (operand_trees t first i)) e v.now.state in
    let y : Evaluated = evaluated (operand_tree t o) f.slots f.state in
    let this : Evaluates b (between w x c d) y r = subst (λ s. Evaluates b (between w x c d) (evaluated (operand_tree t o) f.slots s) r) before.writes.state one in
    let here : slice_get (drop first t.operands) i ≡ Some o = behind-first t.operands first i ∙ at in
    let more : operand_trees t first (i + 1) ≡ operand_trees t first i ++ operand_tree t o ∷ [] =
    ap (map (operand_tree t)) (take_more (drop first t.operands) i o here) ∙ map-append (operand_tree t) (take i (drop first t.operands)) (o ∷ []) in
    subst (λ ts. EvaluatesAll b (between v x a d) (evaluated_all (trees_of ts) e v.now.state) new) (sym more)
    (subst (λ q. EvaluatesAll b (between v x a d) q new) (sym (one-more (operand_trees t first i) (operand_tree t o) e v.now.state))
    (record {
      writes = writes-then b v w x a c d f.slots y.slots f.state y.state before.writes this.writes;
      terms = subst (λ (qs : List Ref). AreTerms x qs (append_trees f.trees (tree y.tree no_trees))) (sym pushed)
          (terms-more x rs f.trees r y.tree (terms_kept w x rs f.trees this.writes.keeps before.terms) this.term);
    }))

pub operand-there : (t : Tables) (first i count : ℕ) → i < count → first + count ≤ length t.operands → slice_get t.operands (first + i) ≡ None → ⊥
operand-there t first i count below fits none = omega (arith, below, fits, none-past t.operands (first + i) none)
