-- The parts of a compound: their slots are filled, and the compound is put together.
use Rattle.std.proofs.Common.{◌≡◌, inl, inr, ℕ, zero, suc, ◌+◌, ◌-◌, ◌<◌, List, [], ◌∷◌, ◌++◌, Option, Some, None, length, take, drop, refl, sym, ◌∙◌, ap, subst, arith}
use Rattle.std.specs.Prelude.{slice_get, slice_index_or, unwrap_or}
use Rattle.pi_terms.specs.Tree.{Tree, var, int, atom, comp, Trees, no_trees, tree, drop_trees}
use Rattle.pi_terms.specs.TermCells.{take_trees}
use Rattle.pi_terms.specs.Places.{Places, held}
use Rattle.pi_terms.specs.Variables.{IsGround, Occurs, OccursInAny}
use Rattle.pi_constraints.specs.declared.store.Ref.{Ref}
use Rattle.pi_terms.proofs.VariableLemmas.{ground_has_no_variable}
use Rattle.std.proofs.lemmas.List.{get_or-set_same}
use Rattle.pi_constraints.specs.State.{State, next, SpeaksBelow}
use Rattle.pi_constraints.specs.Store.{Terms}
use Rattle.pi_constraints.specs.Evaluation.{Evaluated, EvaluatedAll, slot_term, evaluated, evaluated_all}
use Rattle.pi_constraints.proofs.KeepsLemmas.{TreesBelow, first-below, rest-below, comp-below, no-trees-below}
use Rattle.pi_engine_code.specs.declared.code.Part.{Part}
use Rattle.pi_engine_code.specs.Code.{Tables, term_at, with_part, spelled_parts}
use Rattle.pi_engine_stands.specs.Here.{Block, IsReadablePart}
use Rattle.pi_engine_stands.specs.Evaluates.{Filling, after_term, filled_one, filled_by, IsFilledPart, part_on, parts_between, AreReadableParts, AreFilledParts}
use Rattle.pi_meaning.proofs.Machine.EvaluationLemmas.{MoreFilled, more-none, more-then, slot-more, evaluated-again}

-- ---- lists

one-up : (m j : ℕ) → suc (m + j) ≡ m + suc j
one-up m j = omega arith

up-one : (m j : ℕ) → suc (m + j) ≡ suc m + j
up-one m j = omega arith

pub part-between : {A : Type 0} (xs : List A) (from n j : ℕ) → j < n → slice_get (take n (drop from xs)) j ≡ slice_get xs (from + j)
part-between xs zero zero j h = absurd (omega (arith, h))
part-between [] zero (suc n) j h = refl
part-between (x ∷ xs) zero (suc n) zero h = refl
part-between (x ∷ xs) zero (suc n) (suc j) h = part-between xs zero n j (omega (arith, h)) ∙ ap (slice_get (x ∷ xs)) (one-up zero j)
part-between [] (suc from) zero j h = absurd (omega (arith, h))
part-between [] (suc from) (suc n) j h = refl
part-between (x ∷ xs) (suc from) n j h = part-between xs from n j h ∙ ap (slice_get (x ∷ xs)) (up-one from j)

pub part-first : {A : Type 0} (xs : List A) (i : ℕ) (x : A) → slice_get xs i ≡ Some x → drop i xs ≡ x ∷ drop (suc i) xs
part-first [] i x h = absurd cc
part-first (y ∷ xs) zero x h = cc
part-first (y ∷ xs) (suc i) x h = part-first xs i x h

number : (i to : ℕ) → i < to → to - i ≡ suc (to - suc i)
number i to h = omega (arith, h)

pub parts-first : (t : Tables) (i to : ℕ) (p : Part) → slice_get t.parts i ≡ Some p → i < to → parts_between t i to ≡ p ∷ parts_between t (suc i) to
parts-first t i to p at below =
    ap (λ n. take n (drop i t.parts)) (number i to below) ∙ ap (take (suc (to - suc i))) (part-first t.parts i p at)

-- ---- slots are filled

pub filled-last : (ps : List Part) (p : Part) (f : Filling) → filled_by (ps ++ p ∷ []) f ≡ filled_one p (filled_by ps f)
unfolding filled_by
filled-last [] p f = refl
filled-last (q ∷ ps) p f = filled-last ps p (filled_one q f)

one-more : (p : Part) (f : Filling) → MoreFilled f.slots (filled_one p f).slots
one-more (Part.Slot k) f = slot-more (held f.slots k) k f.slots f.state refl
one-more (Part.Known r) f = more-none f.slots
one-more (Part.Compound i k) f = more-none f.slots

pub all-more : (ps : List Part) (f : Filling) → MoreFilled f.slots (filled_by ps f).slots
unfolding filled_by
all-more [] f = more-none f.slots
all-more (p ∷ ps) f = more-then f.slots (filled_one p f).slots (filled_by ps (filled_one p f)).slots (one-more p f) (all-more ps (filled_one p f))

-- a slot that was read is filled
slot-held : (o : Option Tree) (k : ℕ) (e : Places) (s : State) → held e k ≡ o → k < length e → held (slot_term o k e s).slots k ≡ Some (slot_term o k e s).tree
slot-held (Some t) k e s h less = h
slot-held None k e s h less = get_or-set_same e k (Some (var (next s))) None less

part-filled : (t : Terms) (b : Block) (p : Part) (ps : List Part) (f : Filling) → IsReadablePart t b p → length f.slots ≡ b.count → IsFilledPart (filled_by ps (filled_one p f)).slots p
part-filled t b (Part.Slot k) ps f is many =
    let x : Evaluated = slot_term (held f.slots k) k f.slots f.state in
    (x.tree, (all-more ps (after_term x)).kept k x.tree (slot-held (held f.slots k) k f.slots f.state refl (omega (arith, is, many))))
part-filled t b (Part.Known r) ps f is many = tt
part-filled t b (Part.Compound i k) ps f is many = tt

same-part : (p q : Part) → slice_get (p ∷ []) 0 ≡ Some q → p ≡ q
same-part p q h = cc

pub all-filled : (t : Tables) (b : Block) (ps : List Part) (f : Filling) → AreReadableParts t b ps → length f.slots ≡ b.count → AreFilledParts (filled_by ps f).slots ps
unfolding filled_by
all-filled t b [] f readable many i q at = absurd cc
all-filled t b (p ∷ ps) f readable many zero q at =
    subst (λ r. IsFilledPart (filled_by ps (filled_one p f)).slots r) (same-part p q at) (part-filled t.terms b p ps f (readable 0 p refl) many)
all-filled t b (p ∷ ps) f readable many (suc i) q at =
    all-filled t b ps (filled_one p f) (λ j r is. readable (suc j) r is) ((one-more p f).as_many ∙ many) i q at

-- ---- ground terms

abbrev in_front_of : Evaluated → EvaluatedAll → EvaluatedAll
in_front_of x all = record { trees = tree x.tree all.trees; slots = all.slots; state = all.state }

mutual
  unfolding evaluated Occurs

  bare-evaluated : (t : Tree) (e : Places) (s : State) → ((n : ℕ) → Occurs n t → ⊥) → evaluated t e s ≡ record { tree = t; slots = e; state = s }
  bare-evaluated (var k) e s h = absurd (h k refl)
  bare-evaluated (int n) e s h = refl
  bare-evaluated (atom name) e s h = refl
  bare-evaluated (comp name ts) e s h =
      ap (λ (all : EvaluatedAll). record { tree = comp name all.trees; slots = all.slots; state = all.state }) (all-bare-evaluated ts e s (λ n o. h n o))

  all-bare-evaluated : (ts : Trees) (e : Places) (s : State) → ((n : ℕ) → OccursInAny n ts → ⊥) → evaluated_all ts e s ≡ record { trees = ts; slots = e; state = s }
  all-bare-evaluated no_trees e s h = refl
  all-bare-evaluated (tree t ts) e s h =
      ap (λ (x : Evaluated). in_front_of x (evaluated_all ts x.slots x.state)) (bare-evaluated t e s (λ n o. h n (inl o)))
      ∙ ap (in_front_of (record { tree = t; slots = e; state = s })) (all-bare-evaluated ts e s (λ n o. h n (inr o)))

pub ground-evaluated : (t : Tree) (e : Places) (s : State) → IsGround t → evaluated t e s ≡ record { tree = t; slots = e; state = s }
ground-evaluated t e s ground = bare-evaluated t e s ((ground_has_no_variable t).0 ground)

pub known-is : (t : Tables) (r : Ref) (u : Tree) → t.terms r.number ≡ Some u → term_at t r ≡ u
known-is t r u is = ap (λ o. unwrap_or o (atom [])) is

pub known-evaluated : (t : Tables) (b : Block) (r : Ref) (e : Places) (s : State) → IsReadablePart t.terms b (Part.Known r) → evaluated (term_at t r) e s ≡ record { tree = term_at t r; slots = e; state = s }
known-evaluated t b r e s (u, is, ground) =
    subst (λ x. evaluated x e s ≡ record { tree = x; slots = e; state = s }) (sym (known-is t r u is)) (ground-evaluated u e s ground)

-- ---- terms in front, and those behind them

abbrev after_all : EvaluatedAll → Filling
after_all x = record { slots = x.slots; state = x.state }

abbrev front_of : ℕ → Trees → Places → State → EvaluatedAll
front_of k ts e s = evaluated_all (take_trees k ts) e s

abbrev behind_of : ℕ → Trees → Places → State → EvaluatedAll
behind_of k ts e s = evaluated_all (drop_trees k ts) (front_of k ts e s).slots (front_of k ts e s).state

split-after : (k : ℕ) (ts : Trees) (e : Places) (s : State) → after_all (behind_of k ts e s) ≡ after_all (evaluated_all ts e s)
unfolding evaluated
split-after zero ts e s = refl
split-after (suc k) no_trees e s = refl
split-after (suc k) (tree t ts) e s = let x : Evaluated = evaluated t e s in split-after k ts x.slots x.state

split-front : (k : ℕ) (ts : Trees) (e : Places) (s : State) → take_trees k (evaluated_all ts e s).trees ≡ (front_of k ts e s).trees
unfolding evaluated
split-front zero ts e s = refl
split-front (suc k) no_trees e s = refl
split-front (suc k) (tree t ts) e s = let x : Evaluated = evaluated t e s in ap (λ r. tree x.tree r) (split-front k ts x.slots x.state)

split-behind : (k : ℕ) (ts : Trees) (e : Places) (s : State) → drop_trees k (evaluated_all ts e s).trees ≡ (behind_of k ts e s).trees
unfolding evaluated
split-behind zero ts e s = refl
split-behind (suc k) no_trees e s = refl
split-behind (suc k) (tree t ts) e s = let x : Evaluated = evaluated t e s in split-behind k ts x.slots x.state

-- ---- what parts come to

-- the slots of the terms that parts spell are filled by the parts
pub filled-is : (t : Tables) (b : Block) (ps : List Part) (f : Filling) → AreReadableParts t b ps → after_all (evaluated_all (spelled_parts t ps) f.slots f.state) ≡ filled_by ps f
unfolding spelled_parts filled_by evaluated
filled-is t b [] f readable = refl
filled-is t b (Part.Slot k ∷ ps) f readable = filled-is t b ps (filled_one (Part.Slot k) f) (λ j r is. readable (suc j) r is)
filled-is t b (Part.Known r ∷ ps) f readable =
    ap (λ (x : Evaluated). after_all (evaluated_all (spelled_parts t ps) x.slots x.state)) (known-evaluated t b r f.slots f.state (readable 0 (Part.Known r) refl))
    ∙ filled-is t b ps f (λ j q is. readable (suc j) q is)
filled-is t b (Part.Compound i k ∷ ps) f readable =
    split-after k (spelled_parts t ps) f.slots f.state ∙ filled-is t b ps f (λ j q is. readable (suc j) q is)

-- a part in front of others, where its slot is filled
pub part-evaluated : (t : Tables) (b : Block) (p : Part) (ts : Trees) (f : Places) (s : State) → IsReadablePart t.terms b p → IsFilledPart f p →
    (evaluated_all (with_part t p ts) f s).trees ≡ part_on t p f s (evaluated_all ts f s).trees
unfolding evaluated
part-evaluated t b (Part.Slot k) ts f s is (y, filled) =
    ap (λ o. tree (slot_term (held f k) k f s).tree (evaluated_all ts (slot_term o k f s).slots (slot_term o k f s).state).trees) filled
part-evaluated t b (Part.Known r) ts f s is filled =
    ap (λ (x : Evaluated). tree x.tree (evaluated_all ts x.slots x.state).trees) (known-evaluated t b r f s is)
part-evaluated t b (Part.Compound i k) ts f s is filled =
    let name : List ℕ = slice_index_or t.names i [] in
    ap (λ r. tree (comp name r) (behind_of k ts f s).trees) (sym (split-front k ts f s))
    ∙ ap (λ r. tree (comp name (take_trees k (evaluated_all ts f s).trees)) r) (sym (split-behind k ts f s))

-- ---- what parts speak of

below-taken : (n k : ℕ) (ts : Trees) → TreesBelow n ts → TreesBelow n (take_trees k ts)
unfolding Occurs
below-taken n zero ts h m is = absurd is
below-taken n (suc k) no_trees h m is = absurd is
below-taken n (suc k) (tree t ts) h m (inl is) = h m (inl is)
below-taken n (suc k) (tree t ts) h m (inr is) = below-taken n k ts (rest-below n t ts h) m is

below-dropped : (n k : ℕ) (ts : Trees) → TreesBelow n ts → TreesBelow n (drop_trees k ts)
below-dropped n zero ts h = h
below-dropped n (suc k) no_trees h = h
below-dropped n (suc k) (tree t ts) h = below-dropped n k ts (rest-below n t ts h)

below-both : (n : ℕ) (t : Tree) (ts : Trees) → SpeaksBelow n t → TreesBelow n ts → TreesBelow n (tree t ts)
unfolding Occurs
below-both n t ts first rest m (inl is) = first m is
below-both n t ts first rest m (inr is) = rest m is

pub slot-below : (n k : ℕ) → k < n → SpeaksBelow n (var k)
unfolding Occurs
slot-below n k less m is = omega (arith, less, is)

pub known-below : (n : ℕ) (t : Tables) (b : Block) (r : Ref) → IsReadablePart t.terms b (Part.Known r) → SpeaksBelow n (term_at t r)
known-below n t b r (u, is, ground) = subst (λ x. SpeaksBelow n x) (sym (known-is t r u is)) (λ m occurs. absurd ((ground_has_no_variable u).0 ground m occurs))

pub parts-below : (t : Tables) (b : Block) (ps : List Part) → AreReadableParts t b ps → TreesBelow b.count (spelled_parts t ps)
unfolding spelled_parts
parts-below t b [] readable = no-trees-below b.count
parts-below t b (Part.Slot k ∷ ps) readable =
    below-both b.count (var k) (spelled_parts t ps) (slot-below b.count k (readable 0 (Part.Slot k) refl)) (parts-below t b ps (λ j q is. readable (suc j) q is))
parts-below t b (Part.Known r ∷ ps) readable =
    below-both b.count (term_at t r) (spelled_parts t ps) (known-below b.count t b r (readable 0 (Part.Known r) refl)) (parts-below t b ps (λ j q is. readable (suc j) q is))
parts-below t b (Part.Compound i k ∷ ps) readable =
    let rest : TreesBelow b.count (spelled_parts t ps) = parts-below t b ps (λ j q is. readable (suc j) q is) in
    below-both b.count (comp (slice_index_or t.names i []) (take_trees k (spelled_parts t ps))) (drop_trees k (spelled_parts t ps))
    (comp-below b.count (slice_index_or t.names i []) (take_trees k (spelled_parts t ps)) (below-taken b.count k (spelled_parts t ps) rest))
    (below-dropped b.count k (spelled_parts t ps) rest)

-- ---- a compound

-- what was filled, and the compound with it, is the compound evaluated
pub made-is : (t : Tables) (b : Block) (ps : List Part) (u : Tree) (f : Filling) → AreReadableParts t b ps → spelled_parts t ps ≡ tree u no_trees → length f.slots ≡ b.count →
    record { tree = (evaluated u (filled_by ps f).slots (filled_by ps f).state).tree; slots = (filled_by ps f).slots; state = (filled_by ps f).state } ≡ evaluated u f.slots f.state
unfolding evaluated
made-is t b ps u f readable spelled many =
    let x : Evaluated = evaluated u f.slots f.state in
    let is : after_term x ≡ filled_by ps f =
    ap (λ ts. after_all (evaluated_all ts f.slots f.state)) (sym spelled) ∙ filled-is t b ps f readable in
    let below : SpeaksBelow (length f.slots) u =
    subst (λ n. SpeaksBelow n u) (sym many) (first-below b.count u no_trees (subst (λ ts. TreesBelow b.count ts) spelled (parts-below t b ps readable))) in
    ap (λ (g : Filling). record { tree = (evaluated u g.slots g.state).tree; slots = g.slots; state = g.state }) (sym is)
    ∙ ap (λ (y : Evaluated). record { tree = y.tree; slots = x.slots; state = x.state }) (evaluated-again u f.slots f.state below x.state)
