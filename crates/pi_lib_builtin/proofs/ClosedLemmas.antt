-- Terms without variables, by their arguments and by what is left to be looked at.
use Rattle.std.proofs.Common.{◌≡◌, ℕ, suc, ◌==◌, Bool, true, false, ◌&&◌, List, [], ◌∷◌, ◌++◌, length, refl, ap, sym, subst, ◌∙◌, arith}
use Rattle.std.specs.Prelude.{not, Ok}
use Rattle.pi_terms.specs.Tree.{Tree, var, comp, Trees, no_trees, tree, args, arity, drop_trees}
use Rattle.pi_terms.specs.Variables.{occurrences, occurrences_all, firsts, variables, IsGround}
use Rattle.pi_constraints.specs.State.{bindings}
use Rattle.pi_constraints.specs.Store.{StoreView, IsTerm, ShowsCell}
use Rattle.pi_constraints.specs.declared.store.Ref.{Ref}
use Rattle.pi_constraints.specs.declared.store.Cell.{Cell}
use Rattle.pi_unify.specs.Terms.{IsGiven, term_of, value_of}
use Rattle.pi_unify.proofs.TermValues.{IsArgument, term_is}
use Rattle.pi_effects.specs.Answer.{Answer}
use Rattle.pi_unify.proofs.RefLemmas.{drop_all}
use Rattle.pi_constraints.proofs.ValueLemmas.{ground_is_its_own_value}
use Rattle.pi_effects.specs.Kinds.{holds_no_variable}
use Rattle.pi_lib_builtin.specs.Closed.{AreGiven, is_closed, are_closed, Leaves}

-- ---- Booleans

and-assoc : (a b c : Bool) → ((a && b) && c) ≡ (a && (b && c))
and-assoc true b c = refl
and-assoc false b c = refl

and-true : (a : Bool) → (a && true) ≡ a
and-true true = refl
and-true false = refl

and-false : (a : Bool) → (a && false) ≡ false
and-false true = refl
and-false false = refl

and-comm : (a b : Bool) → (a && b) ≡ (b && a)
and-comm true b = sym (and-true b)
and-comm false b = sym (and-false b)

-- ---- trees without variables

abbrev is_empty : List ℕ → Bool
is_empty [] = true
is_empty (n ∷ ns) = false

empty-append : (ms ns : List ℕ) → is_empty (ms ++ ns) ≡ (is_empty ms && is_empty ns)
empty-append [] ns = refl
empty-append (m ∷ ms) ns = refl

none-firsts : (ns : List ℕ) → (length (firsts ns) == 0) ≡ is_empty ns
unfolding firsts
none-firsts [] = refl
none-firsts (n ∷ ns) = grind arith

-- no variable is in a tree, nor in several
abbrev is_free : Tree → Bool
is_free t = is_empty (occurrences t)

abbrev pub are_free : Trees → Bool
are_free ts = is_empty (occurrences_all ts)

free-more : (t : Tree) (ts : Trees) → are_free (tree t ts) ≡ (is_free t && are_free ts)
unfolding occurrences occurrences_all
free-more t ts = empty-append (occurrences t) (occurrences_all ts)

free-none : are_free no_trees ≡ true
unfolding occurrences_all
free-none = refl

free-args : (t : Tree) (name : List ℕ) → t ≡ comp name (args t) → is_free t ≡ are_free (args t)
unfolding occurrences
free-args t name e = ap is_free e

-- the value of a Ref
closed-free : {M : Type 0} (v : StoreView M) (r : Ref) → is_closed v r ≡ is_free (value_of v r)
closed-free v r = none-firsts (occurrences (value_of v r))

-- ---- several Refs

pub closed-append : {M : Type 0} (v : StoreView M) (rs : List Ref) (q : Ref) → are_closed v (rs ++ q ∷ []) ≡ (are_closed v rs && is_closed v q)
unfolding are_closed
closed-append v [] q = and-true (is_closed v q)
closed-append v (r ∷ rs) q = ap (λ b. is_closed v r && b) (closed-append v rs q) ∙ sym (and-assoc (is_closed v r) (are_closed v rs) (is_closed v q))

pub given-append : {M : Type 0} (v : StoreView M) (rs : List Ref) (q : Ref) → AreGiven v rs → IsGiven v q → AreGiven v (rs ++ q ∷ [])
unfolding AreGiven
given-append v [] q gs g = (g, tt)
given-append v (r ∷ rs) q gs g = (gs.0, given-append v rs q gs.1 g)

pub given-before : {M : Type 0} (v : StoreView M) (rs : List Ref) (q : Ref) → AreGiven v (rs ++ q ∷ []) → AreGiven v rs × IsGiven v q
unfolding AreGiven
given-before v [] q gs = (tt, gs.0)
given-before v (r ∷ rs) q gs = let before = given-before v rs q gs.1 in ((gs.0, before.0), before.1)

-- ---- what the walk leaves

-- arguments from one on are left, behind what was left before
pub record LeavesFrom {M : Type 0} (v : StoreView M) (at : Ref) (i : ℕ) (old now : List Ref) : Type 0 where
  pub given : AreGiven v now
  pub closed : are_closed v now ≡ (are_closed v old && are_free (drop_trees i (args (value_of v at))))

pub leaves-none : {M : Type 0} (v : StoreView M) (at : Ref) (count : ℕ) (old : List Ref) → count ≡ arity (value_of v at) → AreGiven v old → LeavesFrom v at count old old
leaves-none v at count old e given =
    let none : drop_trees count (args (value_of v at)) ≡ no_trees = drop_all (args (value_of v at)) count (omega (arith, e)) in
    record {
      given = given;
      closed = sym (ap (λ ts. are_closed v old && are_free ts) none ∙ ap (λ b. are_closed v old && b) free-none ∙ and-true (are_closed v old));
    }

pub leaves-more : {M : Type 0} (v : StoreView M) (at q : Ref) (i : ℕ) (old now new : List Ref) → LeavesFrom v at (suc i) old now → IsArgument v q (value_of v at) i → new ≡ now ++ q ∷ [] → LeavesFrom v at i old new
leaves-more v at q i old now new left is e =
    let rest : Bool = are_free (drop_trees (suc i) (args (value_of v at))) in
    let one : are_free (drop_trees i (args (value_of v at))) ≡ (is_closed v q && rest) =
    ap are_free is.front ∙ free-more (value_of v q) (drop_trees (suc i) (args (value_of v at))) ∙ ap (λ b. b && rest) (sym (closed-free v q)) in
    record {
      given = subst (AreGiven v) (sym e) (given-append v now q left.given is.given);
      closed = ap (are_closed v) e ∙ closed-append v now q ∙ ap (λ b. b && is_closed v q) left.closed
          ∙ and-assoc (are_closed v old) rest (is_closed v q) ∙ ap (λ b. are_closed v old && b) (and-comm rest (is_closed v q) ∙ sym one);
    }

pub leaves-all : {M : Type 0} (v : StoreView M) (at : Ref) (name : List ℕ) (old new : List Ref) → value_of v at ≡ comp name (args (value_of v at)) → LeavesFrom v at 0 old new → Leaves v at old new
leaves-all v at name old new is left = record {
  given = left.given;
  closed = left.closed ∙ ap (λ b. are_closed v old && b) (sym (closed-free v at ∙ free-args (value_of v at) name is));
}

-- a term that is closed leaves nothing
pub leaves-closed : {M : Type 0} (v : StoreView M) (at : Ref) (old : List Ref) → is_closed v at ≡ true → AreGiven v old → Leaves v at old old
leaves-closed v at old e given = record { given = given; closed = sym (ap (λ b. are_closed v old && b) e ∙ and-true (are_closed v old)) }

-- ---- the kinds of terms

pub variable-open : {M : Type 0} (v : StoreView M) (at : Ref) (n : ℕ) → value_of v at ≡ var n → is_closed v at ≡ false
unfolding occurrences
variable-open v at n e = closed-free v at ∙ ap is_free e

pub other-closed : {M : Type 0} (v : StoreView M) (at : Ref) (cell : Cell) → ((n : ℕ) → cell ≡ Cell.Var n → ⊥) → ((k count : ℕ) → cell ≡ Cell.Comp k count → ⊥) → ShowsCell v (value_of v at) cell → is_closed v at ≡ true
unfolding occurrences
other-closed v at (Cell.Var n) not other shows = absurd (not n refl)
other-closed v at (Cell.Int n) not other shows = closed-free v at ∙ ap is_free shows
other-closed v at (Cell.Atom k) not other shows = closed-free v at ∙ ap is_free shows.2
other-closed v at (Cell.Comp k count) not other shows = absurd (other k count refl)

-- a term that was made without variables is its own value
pub ground-closed : {M : Type 0} (v : StoreView M) (at : Ref) → IsGround (term_of v at) → is_closed v at ≡ true
ground-closed v at ground =
    ap (λ t. length (variables t) == 0) (ground_is_its_own_value (bindings v.now.state) (term_of v at) ground) ∙ ap (λ (ns : List ℕ). length ns == 0) ground

-- ---- the loop

pub looked-on : {M : Type 0} (v : StoreView M) (at : Ref) (left older new : List Ref) (whole : Bool) → left ≡ older ++ at ∷ [] → are_closed v left ≡ whole → Leaves v at older new → are_closed v new ≡ whole
looked-on v at left older new whole e is leaves = leaves.closed ∙ sym (closed-append v older at) ∙ ap (are_closed v) (sym e) ∙ is

pub looked-open : {M : Type 0} (v : StoreView M) (at : Ref) (left older : List Ref) (whole : Bool) → left ≡ older ++ at ∷ [] → are_closed v left ≡ whole → is_closed v at ≡ false → whole ≡ false
looked-open v at left older whole e is free_not = sym is ∙ ap (are_closed v) e ∙ closed-append v older at ∙ ap (λ b. are_closed v older && b) free_not ∙ and-false (are_closed v older)

pub first-left : {M : Type 0} (v : StoreView M) (r : Ref) (none items : List Ref) → none ≡ [] → items ≡ none ++ r ∷ [] → IsGiven v r → AreGiven v items × (are_closed v items ≡ is_closed v r)
unfolding AreGiven are_closed
first-left v r none items e is given =
    let one : items ≡ r ∷ [] = is ∙ ap (λ rs. rs ++ r ∷ []) e in
    (subst (AreGiven v) (sym one) (given, tt), ap (are_closed v) one ∙ and-true (is_closed v r))

pub none-left : {M : Type 0} (v : StoreView M) (rs : List Ref) → length rs ≡ 0 → are_closed v rs ≡ true
unfolding are_closed
none-left v [] e = refl
none-left v (r ∷ rs) e = absurd (omega (arith, e))

-- the answer is told of the term
pub closed-told : {M : Type 0} (v : StoreView M) (r : Ref) (t : Tree) (closed : Bool) → IsTerm v r t → is_closed v r ≡ closed → ◌≡◌ {A = Answer Bool} (Ok (holds_no_variable (bindings v.now.state) t)) (Ok closed)
closed-told v r t closed is e = ap (λ u. Ok (holds_no_variable (bindings v.now.state) u)) (sym (term_is v r t is)) ∙ ap (λ b. Ok b) e
