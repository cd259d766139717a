-- The postings of rounds, by what the calls of constraints show.
use Rattle.std.specs.Prelude.{◌≡◌, ℕ, List, [], ◌∷◌, Result, Ok, Err}
use Rattle.std.proofs.Common.{◌∙◌, ap, sym, subst}
use Rattle.pi_terms.specs.Tree.{Tree, atom, comp, no_trees, tree}
use Rattle.pi_constraints.specs.declared.store.Ref.{Ref}
use Rattle.pi_constraints.specs.State.{State, IsState}
use Rattle.pi_constraints.specs.Store.{StoreView, IsTerm, Keeps, Stays, Gives}
use Rattle.pi_effects.specs.Balls.{IsBall}
use Rattle.pi_effects.specs.Items.{list_onto, list_of}
use Rattle.pi_effects.specs.declared.fault.Stop.{Stop}
use Rattle.pi_effects.proofs.FaultLemmas.{ball-stays}
use Rattle.pi_label.specs.declared.options.Options.{Options}
use Rattle.pi_label.specs.Reads.{AreOptions}
use Rattle.pi_label.specs.Words.{variable_word, value_word}
use Rattle.pi_lib_builtin.specs.Items.{AreItems}
use Rattle.pi_lib_constraints.specs.Posts.{ShowsPosted, ShowsOperandPosted}
use Rattle.pi_prop_spec.specs.Postings.{Posting, posting_in, raised_by}
use Rattle.pi_prop_spec.specs.Steps.{Refusal}
use Rattle.pi_settling.specs.Options.{Options as Chosen}
use Rattle.pi_settling.specs.Posted.{posted_in}
use Rattle.pi_settling.specs.Reading.{Operand}
use Rattle.pi_settling.specs.Words.{plain_words, variable_name, value_name}
use Rattle.pi_unify.proofs.KeepsLemmas.{stays_then}
use Rattle.pi_lib_solve.specs.Sought.{ShowsBegun, ShowsBettered}

pub begun : {M : Type 0} (v w : StoreView M) (result : Result (Unit {0}) Stop) (o : Operand) → ShowsOperandPosted v w result o → ShowsBegun v w result o
begun v w (Ok done) o h = h
begun v w (Err (Stop.Raised fault)) o (ball, e, is, stays) = (ball, e, ball-stays v w fault ball stays is, stays)
begun v w (Err Stop.Memory) o h = tt

-- a goal that was posted in the same state, of a store that has a term more
bettered : {M : Type 0} (v m w : StoreView M) (result : Result (Unit {0}) Stop) (o : Result Posting Refusal) → Stays v m → ShowsPosted m w result o → ShowsBettered v w result o
bettered v m w (Ok done) o put (p, e, is) = (p, e, is ∙ ap (λ (s : State). posted_in s p) put.state)
bettered v m w (Err (Stop.Raised fault)) o put (r, e, is, stays) =
    (r, e, subst (λ (s : State). IsBall w fault (raised_by s r)) put.state (ball-stays m w fault (raised_by m.now.state r) stays is), stays_then v m w v.now.state put stays)
bettered v m w (Err Stop.Memory) o put h = tt

-- the goal, by its sign and in the same state
goal-better : (s r : State) (name sign : List ℕ) (t u : Tree) → r ≡ s → name ≡ sign → posting_in r (comp name (tree t (tree u no_trees))) ≡ posting_in s (comp sign (tree t (tree u no_trees)))
goal-better s r name sign t u e f = (λ i. posting_in (e i) (comp (f i) (tree t (tree u no_trees))))

pub better-shown : {M : Type 0} (v m w : StoreView M) (result : Result (Unit {0}) Stop) (a b : Ref) (name sign : List ℕ) (t u : Tree) → IsState v.now.state → IsTerm v a t → Gives v m v.now.state b u → name ≡ sign →
    ((x y : Tree) → IsState m.now.state → IsTerm m a x → IsTerm m b y → ShowsPosted m w result (posting_in m.now.state (comp name (tree x (tree y no_trees))))) →
    ShowsBettered v w result (posting_in v.now.state (comp sign (tree t (tree u no_trees))))
better-shown v m w result a b name sign t u is at put same shows =
    let shown = shows t u (subst IsState (sym put.changes.state) is) (put.changes.keeps.terms a t at) put.term in
    bettered v m w result (posting_in v.now.state (comp sign (tree t (tree u no_trees)))) put.changes (subst (ShowsPosted m w result) (goal-better v.now.state m.now.state name sign t u put.changes.state same) shown)

-- ---- the list of both words

words-are : {M : Type 0} (v : StoreView M) (options : Options) (o : Chosen) (x y : List ℕ) → AreOptions v options o → x ≡ variable_name (variable_word options.variable) → y ≡ value_name (value_word options.value) →
    list_of (atom x ∷ atom y ∷ []) ≡ plain_words o
unfolding list_onto
words-are v options o x y are e f =
    (λ i. list_of (atom (e i) ∷ atom (f i) ∷ [])) ∙ (λ i. plain_words (record { variable = are.picked i; value = are.tried i; objective = o.objective }))

pub words-shown : {M : Type 0} (v m n w : StoreView M) (options : Options) (o : Chosen) (variable value made : Ref) (x y : List ℕ) → AreOptions v options o → IsTerm m variable (atom x) → Keeps m n → IsTerm n value (atom y) →
    x ≡ variable_name (variable_word options.variable) → y ≡ value_name (value_word options.value) → ((ts : List Tree) → AreItems n (variable ∷ value ∷ []) ts → IsTerm w made (list_of ts)) → IsTerm w made (plain_words o)
words-shown v m n w options o variable value made x y are at keeps too e f put =
    subst (IsTerm w made) (words-are v options o x y are e f) (put (atom x ∷ atom y ∷ []) (keeps.terms variable (atom x) at, (too, tt)))
