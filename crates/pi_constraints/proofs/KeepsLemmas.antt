-- Steps keep states: what a term comes to, a head match, a unification, new variables, copies and a new agent leave a state
-- behind, in which all speaks of variables that were made.
use Rattle.pi_constraints.specs.State.{empty_state, State, Variable, free, within, bound, binding, bindings, next, followed, with_new, WatchTree, Agent, with_agent, SpeaksBelow, PlacesBelow, IsVariable, WatchBelow, IsActivation, IsState}
use Rattle.std.proofs.Common.{◌≡◌, ℕ, ℤ, nat_lt, zero, suc, ◌+◌, ◌<◌, ◌≤◌, Bool, true, false, cond, List, [], ◌∷◌, ◌++◌, length, refl, sym, subst, inl, inr, arith}
use Rattle.std.specs.Prelude.{Option, Some, None, slice_get, slice_set, replicate, option_and_then, IsSomeAnd, codes, ⊤}
use Rattle.std.specs.Ordering.{is_eq}
use Rattle.std.proofs.lemmas.List.{length-append, map-append}
use Rattle.pi_terms.specs.Tree.{Tree, var, int, atom, comp, Trees, no_trees, tree}
use Rattle.pi_terms.specs.Places.{Places, held}
use Rattle.pi_terms.specs.Order.{name_order, identical}
use Rattle.pi_terms.specs.Variables.{variables, Occurs, OccursInAny}
use Rattle.pi_terms.specs.Copy.{place_in, copy, new_variables}
use Rattle.pi_constraints.specs.Constraint.{SpeaksOf, IsWithinLimits}
use Rattle.pi_constraints.specs.Value.{Bindings, value, IsAcyclic}
use Rattle.pi_constraints.specs.Unify.{unified, Grows}
use Rattle.pi_terms.specs.PatternTree.{PatternTree, slot, exact_int, exact_atom, compound, named, PatternTrees, no_patterns, pattern}
use Rattle.pi_constraints.specs.HeadMatch.{taken_in, filled_in, compound_in, matched_in, matched_all_in}
use Rattle.pi_constraints.specs.Evaluation.{Evaluated, EvaluatedAll, slot_term, evaluated, evaluated_all, with_new_variables}
use Rattle.pi_terms.specs.ListCopies.{list_of_copies, new_in_all}
use Rattle.pi_terms.proofs.GetLemmas.{get_append_left, get_append_cases}
use Rattle.pi_constraints.proofs.ValueLemmas.{occurs_in_instance}
use Rattle.pi_terms.proofs.CopyLemmas.{place_in-within, Has-variables}
use Rattle.pi_constraints.proofs.BindingLemmas.{new_variable_stays_acyclic}
use Rattle.pi_constraints.proofs.FollowLemmas.{followed_below}
use Rattle.pi_constraints.proofs.UnifyLemmas.{unified_is_a_state, unified_grows}

-- ---- terms and places that speak of variables below a number

-- arguments that speak of variables below n alone
abbrev pub TreesBelow : ℕ → Trees → Type 0
TreesBelow n ts = (m : ℕ) → OccursInAny m ts → m < n

pub speaks-more : (m n : ℕ) (t : Tree) → m ≤ n → SpeaksBelow m t → SpeaksBelow n t
speaks-more m n t h below k occurs = let less : k < m = below k occurs in omega (arith, less, h)

pub trees-more : (m n : ℕ) (ts : Trees) → m ≤ n → TreesBelow m ts → TreesBelow n ts
trees-more m n ts h below k occurs = let less : k < m = below k occurs in omega (arith, less, h)

pub places-more : (m n : ℕ) (e : Places) → m ≤ n → PlacesBelow m e → PlacesBelow n e
places-more m n e h below k t is = speaks-more m n t h (below k t is)

pub var-below : (n m : ℕ) → m < n → SpeaksBelow n (var m)
unfolding Occurs
var-below n m h k e = subst (λ (j : ℕ). j < n) e h

pub no-trees-below : (n : ℕ) → TreesBelow n no_trees
unfolding Occurs
no-trees-below n m h = absurd h

pub trees-below : (n : ℕ) (t : Tree) (ts : Trees) → SpeaksBelow n t → TreesBelow n ts → TreesBelow n (tree t ts)
unfolding Occurs
trees-below n t ts a b m (inl h) = a m h
trees-below n t ts a b m (inr h) = b m h

pub first-below : (n : ℕ) (t : Tree) (ts : Trees) → TreesBelow n (tree t ts) → SpeaksBelow n t
unfolding Occurs
first-below n t ts a m h = a m (inl h)

pub rest-below : (n : ℕ) (t : Tree) (ts : Trees) → TreesBelow n (tree t ts) → TreesBelow n ts
unfolding Occurs
rest-below n t ts a m h = a m (inr h)

-- a compound speaks of what its arguments speak of
pub comp-below : (n : ℕ) (name : List ℕ) (ts : Trees) → TreesBelow n ts → SpeaksBelow n (comp name ts)
unfolding Occurs
comp-below n name ts a m h = a m h

pub args-below : (n : ℕ) (name : List ℕ) (ts : Trees) → SpeaksBelow n (comp name ts) → TreesBelow n ts
unfolding Occurs
args-below n name ts a m h = a m h

pub int-below : (n : ℕ) (i : ℤ) → SpeaksBelow n (int i)
unfolding Occurs
int-below n i m h = absurd h

pub atom-below : (n : ℕ) (name : List ℕ) → SpeaksBelow n (atom name)
unfolding Occurs
atom-below n name m h = absurd h

none-held : (k i : ℕ) → held (replicate k None) i ≡ None
none-held zero i = refl
none-held (suc k) zero = refl
none-held (suc k) (suc i) = none-held k i

-- empty places hold nothing
pub places-empty : (n k : ℕ) → PlacesBelow n (replicate k None)
places-empty n k i t is = absurd (let none : held (replicate k None) i ≡ None = none-held k i in cc)

-- a place is filled
pub places-set : (n : ℕ) (e : Places) (k : ℕ) (t : Tree) → PlacesBelow n e → SpeaksBelow n t → PlacesBelow n (slice_set e k (Some t))
places-set n [] k t below this j u is = below j u is
places-set n (o ∷ e) zero t below this zero u is = let same : t ≡ u = cc in subst (SpeaksBelow n) same this
places-set n (o ∷ e) zero t below this (suc j) u is = below (suc j) u is
places-set n (o ∷ e) (suc k) t below this zero u is = below zero u is
places-set n (o ∷ e) (suc k) t below this (suc j) u is = places-set n e k t (λ i w has. below (suc i) w has) this j u is

-- ---- new variables

-- a state after another one: with its variables, and maybe more
abbrev pub Later : State → State → Type 0
Later s r = IsState r × (next s ≤ next r)

pub later-itself : (s : State) → IsState s → Later s s
later-itself s is = (is, omega arith)

pub later-further : (s r q : State) → next s ≤ next r → Later r q → Later s q
later-further s r q h a = (a.0, omega (arith, h, a.1))

pub new-next : (s : State) → next (with_new s) ≡ suc (next s)
new-next s = let many : length (s.variables ++ free ∷ []) ≡ length s.variables + 1 = length-append s.variables (free ∷ []) in omega (arith, many)

variable-more : (m n : ℕ) (v : Variable) → m ≤ n → IsVariable m v → IsVariable n v
variable-more m n free h a = tt
variable-more m n (within d) h a = a
variable-more m n (bound t) h a = speaks-more m n t h a

watch-more : (m n : ℕ) (ws : List WatchTree) → m ≤ n → WatchBelow m ws → WatchBelow n ws
unfolding WatchBelow
watch-more m n [] h a = tt
watch-more m n (w ∷ ws) h a = (speaks-more m n _ h a.0, watch-more m n ws h a.1)

new-variable : (s : State) (m : ℕ) (w : Variable) → IsState s → slice_get (s.variables ++ free ∷ []) m ≡ Some w → IsVariable (next (with_new s)) w
new-variable s m w is got =
    let many : next (with_new s) ≡ suc (next s) = new-next s in
    elim (get_append_cases s.variables free m w got) [
      | inl old ↦ variable-more (next s) (next (with_new s)) w (omega (arith, many)) (is.variables m w old)
      | inr new ↦ subst (IsVariable (next (with_new s))) (sym new.1) tt
    ]

pub new-keeps : (s : State) → IsState s → IsState (with_new s)
new-keeps s is =
    let r : State = with_new s in
    let many : next r ≡ suc (next s) = new-next s in
    let more : next s ≤ next r = omega (arith, many) in
    let same : bindings r ≡ bindings s ++ None ∷ [] = map-append binding s.variables (free ∷ []) in
    record {
      acyclic = subst IsAcyclic (sym same) (new_variable_stays_acyclic (bindings s) is.acyclic);
      variables = λ m w got. new-variable s m w is got;
      constraints = λ i c got.
          let old : IsWithinLimits c × ((m : ℕ) → SpeaksOf c m → m < next s) = is.constraints i c got in
          (old.0, λ m speaks. let less : m < next s = old.1 m speaks in omega (arith, less, more));
      agents = λ i a got.
          let old : SpeaksBelow (next s) a.call × WatchBelow (next s) a.watches = is.agents i a got in
          (speaks-more (next s) (next r) a.call more old.0, watch-more (next s) (next r) a.watches more old.1);
      waiting = λ i a got.
          let old : IsActivation s a = is.waiting i a got in
          record { made = old.made; value = λ t e. speaks-more (next s) (next r) t more (old.value t e) };
    }

pub news-next : (k : ℕ) (s : State) → next (with_new_variables k s) ≡ next s + k
unfolding with_new_variables
news-next zero s = omega arith
news-next (suc k) s =
    let rest : next (with_new_variables k (with_new s)) ≡ next (with_new s) + k = news-next k (with_new s) in
    let this : next (with_new s) ≡ suc (next s) = new-next s in
    omega (arith, rest, this)

pub news-keep : (k : ℕ) (s : State) → IsState s → IsState (with_new_variables k s)
unfolding with_new_variables
news-keep zero s is = is
news-keep (suc k) s is = news-keep k (with_new s) (new-keeps s is)

pub news-later : (k : ℕ) (s : State) → IsState s → Later s (with_new_variables k s)
news-later k s is = let many : next (with_new_variables k s) ≡ next s + k = news-next k s in (news-keep k s is, omega (arith, many))

-- ---- what terms come to

-- a term, and slots and state after it, that speak of variables that were made
pub record EvaluatedBelow (s : State) (x : Evaluated) : Type 0 where
  pub state : IsState x.state
  pub more : next s ≤ next x.state
  pub below : SpeaksBelow (next x.state) x.tree
  pub slots : PlacesBelow (next x.state) x.slots

pub record AllBelow (s : State) (x : EvaluatedAll) : Type 0 where
  pub state : IsState x.state
  pub more : next s ≤ next x.state
  pub below : TreesBelow (next x.state) x.trees
  pub slots : PlacesBelow (next x.state) x.slots

slot-below-as : (o : Option Tree) (k : ℕ) (e : Places) (s : State) → IsState s → PlacesBelow (next s) e → held e k ≡ o → EvaluatedBelow s (slot_term o k e s)
slot-below-as (Some t) k e s is slots at = record { state = is; more = omega arith; below = slots k t at; slots = slots }
slot-below-as None k e s is slots at =
    let r : State = with_new s in
    let many : next r ≡ suc (next s) = new-next s in
    let this : SpeaksBelow (next r) (var (next s)) = var-below (next r) (next s) (omega (arith, many)) in
    record {
      state = new-keeps s is;
      more = omega (arith, many);
      below = this;
      slots = places-set (next r) e k (var (next s)) (places-more (next s) (next r) e (omega (arith, many)) slots) this;
    }

pub slot-below : (k : ℕ) (e : Places) (s : State) → IsState s → PlacesBelow (next s) e → EvaluatedBelow s (slot_term (held e k) k e s)
slot-below k e s is slots = slot-below-as (held e k) k e s is slots refl

mutual
  unfolding evaluated

  pub evaluated-below : (t : Tree) (e : Places) (s : State) → IsState s → PlacesBelow (next s) e → EvaluatedBelow s (evaluated t e s)
  evaluated-below (var k) e s is slots = slot-below k e s is slots
  evaluated-below (int n) e s is slots = record { state = is; more = omega arith; below = int-below (next s) n; slots = slots }
  evaluated-below (atom name) e s is slots = record { state = is; more = omega arith; below = atom-below (next s) name; slots = slots }
  evaluated-below (comp name ts) e s is slots =
      let all : EvaluatedAll = evaluated_all ts e s in
      let a : AllBelow s all = evaluated-all-below ts e s is slots in
      record { state = a.state; more = a.more; below = comp-below (next all.state) name all.trees a.below; slots = a.slots }

  pub evaluated-all-below : (ts : Trees) (e : Places) (s : State) → IsState s → PlacesBelow (next s) e → AllBelow s (evaluated_all ts e s)
  evaluated-all-below no_trees e s is slots = record { state = is; more = omega arith; below = no-trees-below (next s); slots = slots }
  evaluated-all-below (tree t ts) e s is slots =
      let x : Evaluated = evaluated t e s in
      let a : EvaluatedBelow s x = evaluated-below t e s is slots in
      let y : EvaluatedAll = evaluated_all ts x.slots x.state in
      let b : AllBelow x.state y = evaluated-all-below ts x.slots x.state a.state a.slots in
      record {
        state = b.state;
        more = omega (arith, a.more, b.more);
        below = trees-below (next y.state) x.tree y.trees (speaks-more (next x.state) (next y.state) x.tree b.more a.below) b.below;
        slots = b.slots;
      }

-- ---- unification

pub unified-later : (s r : State) (t u : Tree) → IsState s → SpeaksBelow (next s) t → SpeaksBelow (next s) u → unified s t u ≡ Some r → Later s r
unified-later s r t u is a b e =
    let grows : Grows s r = unified_grows s r t u is a b e in
    let many : next r ≡ next s = grows.as_many in
    (unified_is_a_state s r t u is a b e, omega (arith, many))

-- ---- head matches

abbrev pub SomePlacesBelow : ℕ → Option Places → Type 0
SomePlacesBelow n None = ⊤
SomePlacesBelow n (Some e) = PlacesBelow n e

tested-below : (n : ℕ) (c : Bool) (o : Option Places) → SomePlacesBelow n o → SomePlacesBelow n (cond c o None)
tested-below n true o a = a
tested-below n false o a = tt

onward-below : (n : ℕ) (f : Places → Option Places) → ((e : Places) → PlacesBelow n e → SomePlacesBelow n (f e)) → (o : Option Places) → SomePlacesBelow n o →
    SomePlacesBelow n (option_and_then f o)
onward-below n f b None a = tt
onward-below n f b (Some e) a = b e a

taken-below : (n : ℕ) (b : Bindings) (o : Option Tree) (e : Places) (k : ℕ) (t : Tree) → SpeaksBelow n t → PlacesBelow n e → SomePlacesBelow n (taken_in b o e k t)
taken-below n b (Some u) e k t this slots = tested-below n (identical (value b u) (value b t)) (Some e) slots
taken-below n b None e k t this slots = tested-below n (nat_lt k (length e)) (Some (slice_set e k (Some t))) (places-set n e k t slots this)

compound-below : (n : ℕ) (arguments : Trees → Option Places) → ((ts : Trees) → TreesBelow n ts → SomePlacesBelow n (arguments ts)) → (f : List ℕ) (u : Tree) → SpeaksBelow n u →
    SomePlacesBelow n (compound_in arguments f u)
compound-below n arguments a f (var m) this = tt
compound-below n arguments a f (int i) this = tt
compound-below n arguments a f (atom name) this = tt
compound-below n arguments a f (comp g ts) this = tested-below n (is_eq (name_order f g)) (arguments ts) (a ts (args-below n g ts this))

-- what variables are bound to speaks of variables below n alone
abbrev pub BindingsBelow : ℕ → Bindings → Type 0
BindingsBelow n b = (m : ℕ) (u : Tree) → held b m ≡ Some u → SpeaksBelow n u

mutual
  unfolding matched_in

  pub matched-below : (n : ℕ) (b : Bindings) → BindingsBelow n b → (p : PatternTree) (t : Tree) (e : Places) → SpeaksBelow n t → PlacesBelow n e → SomePlacesBelow n (matched_in b p t e)
  matched-below n b all (slot k) t e this slots = taken-below n b (held e k) e k t this slots
  matched-below n b all (exact_int i) t e this slots = tested-below n (identical (int i) (followed b t)) (Some e) slots
  matched-below n b all (exact_atom name) t e this slots = tested-below n (identical (atom name) (followed b t)) (Some e) slots
  matched-below n b all (compound f ps) t e this slots =
      compound-below n (λ ts. matched_all_in b ps ts e) (λ ts args. matched-all-below n b all ps ts e args slots) f (followed b t) (followed_below n b t all this)
  matched-below n b all (named k p) t e this slots =
      onward-below n (matched_in b p t) (λ r a. matched-below n b all p t r this a) (filled_in b k t e) (taken-below n b (held e k) e k t this slots)

  pub matched-all-below : (n : ℕ) (b : Bindings) → BindingsBelow n b → (ps : PatternTrees) (ts : Trees) (e : Places) → TreesBelow n ts → PlacesBelow n e → SomePlacesBelow n (matched_all_in b ps ts e)
  matched-all-below n b all no_patterns no_trees e these slots = slots
  matched-all-below n b all no_patterns (tree t ts) e these slots = tt
  matched-all-below n b all (pattern p ps) no_trees e these slots = tt
  matched-all-below n b all (pattern p ps) (tree t ts) e these slots =
      onward-below n (matched_all_in b ps ts) (λ r a. matched-all-below n b all ps ts r (rest-below n t ts these) a) (matched_in b p t e)
      (matched-below n b all p t e (first-below n t ts these) slots)

-- ---- copies

pub copy-below : (n : ℕ) (t : Tree) → SpeaksBelow (n + new_variables t) (copy n t)
unfolding copy Occurs
copy-below n t m h =
    let at : (k : ℕ) × Occurs k t × (n + place_in (variables t) k ≡ m) = occurs_in_instance (λ k. var (n + place_in (variables t) k)) t m h in
    let less : place_in (variables t) at.0 < length (variables t) = place_in-within (variables t) at.0 (Has-variables t at.0 at.1) in
    omega (arith, less, at.2)

pub copies-below : (n : ℕ) (ts : List Tree) → SpeaksBelow (n + new_in_all ts) (list_of_copies n ts)
unfolding list_of_copies new_in_all
copies-below n [] = atom-below (n + 0) (codes "[]")
copies-below n (t ∷ ts) =
    let k : ℕ = new_variables t in
    let all : ℕ = n + (k + new_in_all ts) in
    let rest : Tree = list_of_copies (n + k) ts in
    let here : SpeaksBelow all (copy n t) = speaks-more (n + k) all (copy n t) (omega arith) (copy-below n t) in
    let behind : SpeaksBelow all rest = speaks-more ((n + k) + new_in_all ts) all rest (omega arith) (copies-below (n + k) ts) in
    comp-below all (codes "[|]") (tree (copy n t) (tree rest no_trees))
    (trees-below all (copy n t) (tree rest no_trees) here (trees-below all rest no_trees behind (no-trees-below all)))

-- ---- a new agent

still-made : (xs : List Agent) (y : Agent) (i : ℕ) (P : Agent → Type 0) (o : Option Agent) → slice_get xs i ≡ o → IsSomeAnd o P → IsSomeAnd (slice_get (xs ++ y ∷ []) i) P
still-made xs y i P None e h = absurd h
still-made xs y i P (Some x) e h = subst (λ o. IsSomeAnd o P) (sym (get_append_left xs (y ∷ []) i x e)) h

new-agent : (s : State) (a : Agent) → SpeaksBelow (next s) a.call × WatchBelow (next s) a.watches → (i : ℕ) (x : Agent) → IsState s →
    slice_get (s.agents ++ a ∷ []) i ≡ Some x → SpeaksBelow (next s) x.call × WatchBelow (next s) x.watches
new-agent s a below i x is got = elim (get_append_cases s.agents a i x got) [
  | inl old ↦ is.agents i x old
  | inr new ↦ subst (λ (y : Agent). SpeaksBelow (next s) y.call × WatchBelow (next s) y.watches) (sym new.1) below
]

pub agent-keeps : (s : State) (a : Agent) → IsState s → SpeaksBelow (next s) a.call → WatchBelow (next s) a.watches → IsState (with_agent s a)
agent-keeps s a is call watches = record {
  acyclic = is.acyclic;
  variables = is.variables;
  constraints = is.constraints;
  agents = λ i x got. new-agent s a (call, watches) i x is got;
  waiting = λ i x got.
      let old : IsActivation s x = is.waiting i x got in
      record { made = still-made s.agents a x.agent (λ agent. x.watch < length agent.watches) (slice_get s.agents x.agent) refl old.made; value = old.value };
}

pub empty-is-state : IsState empty_state
empty-is-state = record {
  acyclic = record { rank = λ n. 0; falls = λ n m u is occurs. absurd (cc) };
  variables = λ n v got. absurd (cc);
  constraints = λ i c got. absurd (cc);
  agents = λ i a got. absurd (cc);
  waiting = λ i a got. absurd (cc);
}
