-- Terms over slots that are filled: what they come to, and that it stays.
use Rattle.std.proofs.Common.{◌≡◌, ℕ, zero, suc, List, [], ◌∷◌, refl, ap, ◌∙◌}
use Rattle.std.specs.Prelude.{Some, None, slice_set, map}
use Rattle.pi_terms.specs.Tree.{Tree, var, int, atom, comp, Trees, no_trees, tree}
use Rattle.pi_terms.specs.ListNames.{nil, cell_name}
use Rattle.pi_terms.specs.Places.{Places, held}
use Rattle.pi_constraints.specs.State.{State}
use Rattle.pi_constraints.specs.Evaluation.{Evaluated, EvaluatedAll, slot_term, evaluated, evaluated_all}
use Rattle.pi_effects.specs.Items.{list_onto, list_of}
use Rattle.pi_meaning.specs.OverNames.Terms.{items_onto}

-- the slots of a term are filled, and with them it is this term
mutual
  pub data Filled (f : Places) : Tree → Tree → Type 0 where
    in_slot : (k : ℕ) (u : Tree) → held f k ≡ Some u → Filled f (var k) u
    is_int : (n : _) → Filled f (int n) (int n)
    is_atom : (name : List ℕ) → Filled f (atom name) (atom name)
    is_comp : (name : List ℕ) {ts us : Trees} → AllFilled f ts us → Filled f (comp name ts) (comp name us)

  pub data AllFilled (f : Places) : Trees → Trees → Type 0 where
    none_filled : AllFilled f no_trees no_trees
    one_filled : {t u : Tree} {ts us : Trees} → Filled f t u → AllFilled f ts us → AllFilled f (tree t ts) (tree u us)

-- what is in slots stays
abbrev pub Extends : Places → Places → Type 0
Extends e f = (k : ℕ) (t : Tree) → held e k ≡ Some t → held f k ≡ Some t

pub extends-none : (e : Places) → Extends e e
extends-none e k t h = h

pub extends-nothing : (f : Places) → Extends [] f
extends-nothing f k t h = absurd cc

pub extends-then : (e f g : Places) → Extends e f → Extends f g → Extends e g
extends-then e f g a b k t h = b k t (a k t h)

pub set-keeps : (e : Places) (k : ℕ) (u : Tree) → held e k ≡ None → Extends e (slice_set e k (Some u))
set-keeps [] k u free i t h = h
set-keeps (x ∷ e) zero u free zero t h = absurd cc
set-keeps (x ∷ e) zero u free (suc i) t h = h
set-keeps (x ∷ e) (suc k) u free zero t h = h
set-keeps (x ∷ e) (suc k) u free (suc i) t h = set-keeps e k u free i t h

mutual
  pub filled-more : (e f : Places) → Extends e f → (t u : Tree) → Filled e t u → Filled f t u
  filled-more e f m _ _ (in_slot k u h) = in_slot k u (m k u h)
  filled-more e f m _ _ (is_int n) = is_int n
  filled-more e f m _ _ (is_atom name) = is_atom name
  filled-more e f m _ _ (is_comp name {ts = ts} {us = us} a) = is_comp name (all-filled-more e f m ts us a)

  pub all-filled-more : (e f : Places) → Extends e f → (ts us : Trees) → AllFilled e ts us → AllFilled f ts us
  all-filled-more e f m _ _ none_filled = none_filled
  all-filled-more e f m _ _ (one_filled {t = t} {u = u} {ts = ts} {us = us} a b) = one_filled (filled-more e f m t u a) (all-filled-more e f m ts us b)

-- a term, and terms, before others
abbrev pub in_front_of : Evaluated → EvaluatedAll → EvaluatedAll
in_front_of x all = record { trees = tree x.tree all.trees; slots = all.slots; state = all.state }

abbrev pub term_at : Tree → Places → State → Evaluated
term_at t e s = record { tree = t; slots = e; state = s }

abbrev pub terms_at : Trees → Places → State → EvaluatedAll
terms_at ts e s = record { trees = ts; slots = e; state = s }

mutual
  unfolding evaluated

  -- evaluating it makes nothing
  pub filled-comes : (f : Places) (t u : Tree) → Filled f t u → (q : State) → evaluated t f q ≡ term_at u f q
  filled-comes f _ _ (in_slot k u h) q = ap (λ o. slot_term o k f q) h
  filled-comes f _ _ (is_int n) q = refl
  filled-comes f _ _ (is_atom name) q = refl
  filled-comes f _ _ (is_comp name {ts = ts} {us = us} a) q =
      ap (λ (all : EvaluatedAll). record { tree = comp name all.trees; slots = all.slots; state = all.state }) (all-filled-comes f ts us a q)

  pub all-filled-comes : (f : Places) (ts us : Trees) → AllFilled f ts us → (q : State) → evaluated_all ts f q ≡ terms_at us f q
  all-filled-comes f _ _ none_filled q = refl
  all-filled-comes f _ _ (one_filled {t = t} {u = u} {ts = ts} {us = us} a b) q =
      ap (λ (x : Evaluated). in_front_of x (evaluated_all ts x.slots x.state)) (filled-comes f t u a q)
      ∙ ap (in_front_of (term_at u f q)) (all-filled-comes f ts us b q)

-- ---- lists

pub items-filled : (f : Places) (ts us : Trees) (t u : Tree) → AllFilled f ts us → Filled f t u → Filled f (items_onto ts t) (items_onto us u)
unfolding items_onto
items-filled f _ _ t u none_filled h = h
items-filled f _ _ t u (one_filled {t = x} {u = y} {ts = ts} {us = us} a b) h = is_comp cell_name (one_filled a (one_filled (items-filled f ts us t u b h) none_filled))

-- items that are atoms
pub atoms-filled : (f : Places) (g : ℕ → List ℕ) (cs : List ℕ) → Filled f (list_of (map (λ c. atom (g c)) cs)) (list_of (map (λ c. atom (g c)) cs))
unfolding list_onto
atoms-filled f g [] = is_atom nil
atoms-filled f g (c ∷ cs) = is_comp cell_name (one_filled (is_atom (g c)) (one_filled (atoms-filled f g cs) none_filled))

-- what items in front of a term come to
abbrev pub onto_evaluated : EvaluatedAll → Evaluated → Evaluated
onto_evaluated all x = record { tree = items_onto all.trees x.tree; slots = x.slots; state = x.state }

pub items-evaluated : (ts : Trees) (t : Tree) (e : Places) (s : State) →
    evaluated (items_onto ts t) e s ≡ onto_evaluated (evaluated_all ts e s) (evaluated t (evaluated_all ts e s).slots (evaluated_all ts e s).state)
unfolding evaluated items_onto
items-evaluated no_trees t e s = refl
items-evaluated (tree x ts) t e s =
    let first : Evaluated = evaluated x e s in
    ap (λ (y : Evaluated). record { tree = comp cell_name (tree first.tree (tree y.tree no_trees)); slots = y.slots; state = y.state }) (items-evaluated ts t first.slots first.state)
