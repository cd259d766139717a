-- A term that was evaluated comes to the same once more, with nothing new: its slots are filled.
use Rattle.std.proofs.Common.{◌≡◌, ℕ, zero, suc, ◌<◌, List, [], ◌∷◌, length, refl, ap, sym, subst, ◌∙◌, arith}
use Rattle.std.specs.Prelude.{Bool, true, false, ◌&&◌, Option, Some, None, is_some, slice_set}
use Rattle.pi_meaning.specs.Machine.Filled.{is_filled, are_filled}
use Rattle.std.proofs.lemmas.List.{length-set, get_or-set_same}
use Rattle.pi_terms.specs.Tree.{Tree, var, int, atom, comp, Trees, no_trees, tree}
use Rattle.pi_terms.specs.Places.{Places, held}
use Rattle.pi_constraints.specs.State.{State, next, SpeaksBelow}
use Rattle.pi_terms.specs.Variables.{Occurs}
use Rattle.pi_constraints.specs.Evaluation.{Evaluated, EvaluatedAll, slot_term, evaluated, evaluated_all}
use Rattle.pi_constraints.proofs.KeepsLemmas.{TreesBelow, var-below, no-trees-below, trees-below, first-below, rest-below, args-below}

-- the slots of a term are filled, and with them it is this term
mutual
  pub data Filled (f : Places) : Tree → Tree → Type 0 where
    in_slot : (k : ℕ) (u : Tree) → held f k ≡ Some u → Filled f (var k) u
    is_int : (n : _) → Filled f (int n) (int n)
    is_atom : (name : List ℕ) → Filled f (atom name) (atom name)
    is_comp : (name : List ℕ) {ts us : Trees} → AllFilled f ts us → Filled f (comp name ts) (comp name us)

  pub data AllFilled (f : Places) : Trees → Trees → Type 0 where
    none : AllFilled f no_trees no_trees
    one_more : {t u : Tree} {ts us : Trees} → Filled f t u → AllFilled f ts us → AllFilled f (tree t ts) (tree u us)

-- as many slots, and what is in them stays
pub record MoreFilled (e f : Places) : Type 0 where
  pub as_many : length f ≡ length e
  pub kept : (k : ℕ) (t : Tree) → held e k ≡ Some t → held f k ≡ Some t

pub more-none : (e : Places) → MoreFilled e e
more-none e = record { as_many = refl; kept = λ k t h. h }

pub more-then : (e f g : Places) → MoreFilled e f → MoreFilled f g → MoreFilled e g
more-then e f g a b = record { as_many = b.as_many ∙ a.as_many; kept = λ k t h. b.kept k t (a.kept k t h) }

set-keeps : (e : Places) (k : ℕ) (u : Tree) → held e k ≡ None → (i : ℕ) (t : Tree) → held e i ≡ Some t → held (slice_set e k (Some u)) i ≡ Some t
set-keeps [] k u free i t h = h
set-keeps (x ∷ e) zero u free zero t h = absurd cc
set-keeps (x ∷ e) zero u free (suc i) t h = h
set-keeps (x ∷ e) (suc k) u free zero t h = h
set-keeps (x ∷ e) (suc k) u free (suc i) t h = set-keeps e k u free i t h

pub slot-more : (o : Option Tree) (k : ℕ) (e : Places) (s : State) → held e k ≡ o → MoreFilled e (slot_term o k e s).slots
slot-more (Some t) k e s h = more-none e
slot-more None k e s h = record { as_many = length-set e k (Some (var (next s))); kept = set-keeps e k (var (next s)) h }

mutual
  unfolding evaluated

  pub evaluated-more : (t : Tree) (e : Places) (s : State) → MoreFilled e (evaluated t e s).slots
  evaluated-more (var k) e s = slot-more (held e k) k e s refl
  evaluated-more (int n) e s = more-none e
  evaluated-more (atom name) e s = more-none e
  evaluated-more (comp name ts) e s = evaluated-all-more ts e s

  pub evaluated-all-more : (ts : Trees) (e : Places) (s : State) → MoreFilled e (evaluated_all ts e s).slots
  evaluated-all-more no_trees e s = more-none e
  evaluated-all-more (tree t ts) e s =
      let x : Evaluated = evaluated t e s in
      more-then e x.slots (evaluated_all ts x.slots x.state).slots (evaluated-more t e s) (evaluated-all-more ts x.slots x.state)

mutual
  filled-more : (e f : Places) → MoreFilled e f → (t u : Tree) → Filled e t u → Filled f t u
  filled-more e f m _ _ (in_slot k u h) = in_slot k u (m.kept k u h)
  filled-more e f m _ _ (is_int n) = is_int n
  filled-more e f m _ _ (is_atom name) = is_atom name
  filled-more e f m _ _ (is_comp name {ts = ts} {us = us} a) = is_comp name (all-filled-more e f m ts us a)

  all-filled-more : (e f : Places) → MoreFilled e f → (ts us : Trees) → AllFilled e ts us → AllFilled f ts us
  all-filled-more e f m _ _ none = none
  all-filled-more e f m _ _ (one_more {t = t} {u = u} {ts = ts} {us = us} a b) = one_more (filled-more e f m t u a) (all-filled-more e f m ts us b)

var-is-below : (n k : ℕ) → SpeaksBelow n (var k) → k < n
unfolding Occurs
var-is-below n k h = h k refl

slot-fills : (o : Option Tree) (k : ℕ) (e : Places) (s : State) → held e k ≡ o → k < length e → Filled (slot_term o k e s).slots (var k) (slot_term o k e s).tree
slot-fills (Some t) k e s h less = in_slot k t h
slot-fills None k e s h less = in_slot k (var (next s)) (get_or-set_same e k (Some (var (next s))) None less)

mutual
  unfolding evaluated

  pub evaluated-fills : (t : Tree) (e : Places) (s : State) → SpeaksBelow (length e) t → Filled (evaluated t e s).slots t (evaluated t e s).tree
  evaluated-fills (var k) e s h = slot-fills (held e k) k e s refl (var-is-below (length e) k h)
  evaluated-fills (int n) e s h = is_int n
  evaluated-fills (atom name) e s h = is_atom name
  evaluated-fills (comp name ts) e s h = is_comp name (evaluated-all-fills ts e s (args-below (length e) name ts h))

  pub evaluated-all-fills : (ts : Trees) (e : Places) (s : State) → TreesBelow (length e) ts → AllFilled (evaluated_all ts e s).slots ts (evaluated_all ts e s).trees
  evaluated-all-fills no_trees e s h = none
  evaluated-all-fills (tree t ts) e s h =
      let x : Evaluated = evaluated t e s in
      let y : EvaluatedAll = evaluated_all ts x.slots x.state in
      one_more (filled-more x.slots y.slots (evaluated-all-more ts x.slots x.state) t x.tree (evaluated-fills t e s (first-below (length e) t ts h)))
      (evaluated-all-fills ts x.slots x.state (subst (λ n. TreesBelow n ts) (sym (evaluated-more t e s).as_many) (rest-below (length e) t ts h)))

abbrev in_front_of : Evaluated → EvaluatedAll → EvaluatedAll
in_front_of x all = record { trees = tree x.tree all.trees; slots = all.slots; state = all.state }

mutual
  unfolding evaluated

  pub filled-again : (f : Places) (t u : Tree) → Filled f t u → (q : State) → evaluated t f q ≡ record { tree = u; slots = f; state = q }
  filled-again f _ _ (in_slot k u h) q = ap (λ o. slot_term o k f q) h
  filled-again f _ _ (is_int n) q = refl
  filled-again f _ _ (is_atom name) q = refl
  filled-again f _ _ (is_comp name {ts = ts} {us = us} a) q =
      ap (λ (all : EvaluatedAll). record { tree = comp name all.trees; slots = all.slots; state = all.state }) (all-filled-again f ts us a q)

  pub all-filled-again : (f : Places) (ts us : Trees) → AllFilled f ts us → (q : State) → evaluated_all ts f q ≡ record { trees = us; slots = f; state = q }
  all-filled-again f _ _ none q = refl
  all-filled-again f _ _ (one_more {t = t} {u = u} {ts = ts} {us = us} a b) q =
      ap (λ (x : Evaluated). in_front_of x (evaluated_all ts x.slots x.state)) (filled-again f t u a q)
      ∙ ap (in_front_of (record { tree = u; slots = f; state = q })) (all-filled-again f ts us b q)

-- ---- the test by which slots are looked at

held-inside : (e : Places) (k : ℕ) → is_some (held e k) ≡ true → k < length e
held-inside [] k h = absurd cc
held-inside (x ∷ e) zero h = omega arith
held-inside (x ∷ e) (suc k) h = let less : k < length e = held-inside e k h in omega arith

both-true : (a b : Bool) → (a && b) ≡ true → (a ≡ true) × (b ≡ true)
both-true true b h = (refl, h)
both-true false b h = absurd cc

mutual
  unfolding is_filled Occurs

  filled-below : (e : Places) (t : Tree) → is_filled e t ≡ true → SpeaksBelow (length e) t
  filled-below e (var k) h = var-below (length e) k (held-inside e k h)
  filled-below e (int n) h = λ m occurs. absurd occurs
  filled-below e (atom name) h = λ m occurs. absurd occurs
  filled-below e (comp name ts) h = λ m occurs. all-filled-below e ts h m occurs

  all-filled-below : (e : Places) (ts : Trees) → are_filled e ts ≡ true → TreesBelow (length e) ts
  all-filled-below e no_trees h = no-trees-below (length e)
  all-filled-below e (tree t ts) h =
      let parts : (is_filled e t ≡ true) × (are_filled e ts ≡ true) = both-true (is_filled e t) (are_filled e ts) h in
      trees-below (length e) t ts (filled-below e t parts.0) (all-filled-below e ts parts.1)

-- arguments that were evaluated and whose slots are filled, from any state once more
pub arguments-again : (ts : Trees) (e : Places) (s : State) → are_filled (evaluated_all ts e s).slots ts ≡ true → (q : State) →
    evaluated_all ts (evaluated_all ts e s).slots q ≡ record { trees = (evaluated_all ts e s).trees; slots = (evaluated_all ts e s).slots; state = q }
arguments-again ts e s h q =
    let all : EvaluatedAll = evaluated_all ts e s in
    all-filled-again all.slots ts all.trees (evaluated-all-fills ts e s (subst (λ n. TreesBelow n ts) (evaluated-all-more ts e s).as_many (all-filled-below all.slots ts h))) q

mutual
  unfolding is_filled

  filled-is : (f : Places) (t u : Tree) → Filled f t u → is_filled f t ≡ true
  filled-is f _ _ (in_slot k u h) = ap is_some h
  filled-is f _ _ (is_int n) = refl
  filled-is f _ _ (is_atom name) = refl
  filled-is f _ _ (is_comp name {ts = ts} {us = us} a) = all-filled-are f ts us a

  all-filled-are : (f : Places) (ts us : Trees) → AllFilled f ts us → are_filled f ts ≡ true
  all-filled-are f _ _ none = refl
  all-filled-are f _ _ (one_more {t = t} {u = u} {ts = ts} {us = us} a b) = ap (λ c. c && are_filled f ts) (filled-is f t u a) ∙ all-filled-are f ts us b

-- arguments of which each slot is one of the block's
pub arguments-filled : (ts : Trees) (e : Places) (s : State) → TreesBelow (length e) ts → are_filled (evaluated_all ts e s).slots ts ≡ true
arguments-filled ts e s h = all-filled-are (evaluated_all ts e s).slots ts (evaluated_all ts e s).trees (evaluated-all-fills ts e s h)

-- a term that was evaluated, from any state once more
pub evaluated-again : (t : Tree) (e : Places) (s : State) → SpeaksBelow (length e) t → (q : State) →
    evaluated t (evaluated t e s).slots q ≡ record { tree = (evaluated t e s).tree; slots = (evaluated t e s).slots; state = q }
evaluated-again t e s h q = filled-again (evaluated t e s).slots t (evaluated t e s).tree (evaluated-fills t e s h) q
