-- Goals over slots against goals over names: what is the same, and that goals stand one after the other.
use Rattle.std.proofs.Common.{◌≡◌, ℕ, ◌≤◌, true, false, List, [], ◌∷◌, ◌++◌, length, sym, ◌∙◌, ap, subst}
use Rattle.std.specs.Prelude.{◌||◌, IsTrue}
use Rattle.pi_terms.specs.Tree.{Tree, Trees, trees_of, tree_count}
use Rattle.pi_terms.specs.Places.{Places}
use Rattle.pi_constraints.specs.State.{State}
use Rattle.pi_core.specs.GoalTree.{GoalTree, goals_of}
use Rattle.pi_traces.specs.Trace.{Trace, one, then}
use Rattle.pi_traces.proofs.TraceLemmas.{alt-done, then-one, then-assoc}
use Rattle.pi_meaning.specs.Shared.Level.{Level, calls_at, Point}
use Rattle.pi_meaning.specs.CoreMeaning.Builtins.{Builtins, predicate_by, function_by}
use Rattle.pi_meaning.specs.Shared.Names.{is_call, is_given_predicate, is_given_function}
use Rattle.pi_meaning.specs.Shared.Given.{Setting}
use Rattle.pi_meaning.specs.Shared.Calls.{predicate_called, function_called, first_called}
use Rattle.pi_meaning.specs.CoreMeaning.Meaning.{Action, draining, strictly, succeeding, meaning, meaning_of_all}
use Rattle.pi_meaning.specs.OverNames.Environment.{Environment, Valued, ValuedAll}
use Rattle.pi_meaning.specs.OverNames.Place.{Place}
use Rattle.pi_meaning.specs.OverNames.Control.{Goal, Value, Values, draining as names_draining, strictly as names_strictly}
use Rattle.pi_rewrite_spec.specs.Slots.{SlotNames}
use Rattle.pi_rewrite_spec.specs.Values.{SlotValue, SlotValues}
use Rattle.pi_rewrite_spec.specs.Goals.{SlotGoals, in_turn}
use Rattle.pi_rewrite_spec.specs.Forms.{Knows}
use Rattle.pi_rewrite_spec.proofs.SameLemmas.{SameBy, same-one, same-then, same-map}
use Rattle.pi_rewrite_spec.proofs.FilledLemmas.{Filled, AllFilled, Extends}
use Rattle.pi_rewrite_spec.proofs.AgreeLemmas.{Room, Grows, Agrees, agrees-more}
use Rattle.pi_rewrite_spec.proofs.TermLemmas.{Comes, ComesAll, filled-comes-to}

-- what two levels have to have in common: calls by name do the same, and nothing waits
pub record Alike (known : Knows) (set : Setting) (b : Builtins) (l m : Level) : Type 0 where
  pub core_drains : (s : State) → (calls_at l).drained s ≡ one s
  pub names_drain : (s : State) → (calls_at m).drained s ≡ one s
  pub predicates : (name : List ℕ) (ts : Trees) (s : State) → is_call name (tree_count ts) ≡ false → IsTrue (is_given_predicate name (tree_count ts) || known.predicate name (tree_count ts)) →
      predicate_by b l name ts s ≡ predicate_called set m name ts s
  pub terms : (name : List ℕ) (ts : Trees) (s : State) → is_call name (tree_count ts) ≡ true → predicate_by b l name ts s ≡ first_called set m ts s
  pub functions : (name : List ℕ) (ts : Trees) (s : State) → IsTrue (is_given_function name (tree_count ts) || known.function name (tree_count ts)) →
      function_by b l name ts s ≡ function_called set m name ts s

abbrev pub point : Level → Places → State → Point
point l slots s = record { level = l; slots = slots; state = s }

abbrev pub place : Environment → State → Place
place e s = record { names = e; state = s }

-- ---- answers

-- the answers of a goal
pub data AtPlace (l : Level) (n : Room) (h : ℕ) (ns : SlotNames) : Point → Place → Type 0 where
  at_place : (e : Environment) (slots : Places) (s : State) → Agrees n h ns e slots → AtPlace l n h ns (point l slots s) (place e s)

-- a value that is evaluated where it is used
pub data AtValue (l : Level) (n : Room) (h : ℕ) (ns : SlotNames) (t : Tree) (start : Places) : Point → Valued → Type 0 where
  at_value : (slots : Places) (s : State) (x : Valued) → Comes n h ns t slots s x → Extends start slots → AtValue l n h ns t start (point l slots s) x

pub data AtValues (l : Level) (n : Room) (h : ℕ) (ns : SlotNames) (ts : Trees) (start : Places) : Point → ValuedAll → Type 0 where
  at_values : (slots : Places) (s : State) (x : ValuedAll) → ComesAll n h ns ts slots s x → Extends start slots → AtValues l n h ns ts start (point l slots s) x

-- a value whose slots are filled
pub data AtFilled (l : Level) (n : Room) (h : ℕ) (ns : SlotNames) (t : Tree) (start : Places) : Point → Valued → Type 0 where
  at_filled : (e : Environment) (slots : Places) (s : State) (u : Tree) → Agrees n h ns e slots → Extends start slots → Filled slots t u →
      AtFilled l n h ns t start (point l slots s) (record { tree = u; names = e; state = s })

pub data AllAtFilled (l : Level) (n : Room) (h : ℕ) (ns : SlotNames) (ts : Trees) (start : Places) : Point → ValuedAll → Type 0 where
  all_at_filled : (e : Environment) (slots : Places) (s : State) (us : Trees) → Agrees n h ns e slots → Extends start slots → AllFilled slots ts us →
      AllAtFilled l n h ns ts start (point l slots s) (record { trees = us; names = e; state = s })

-- ---- what is the same

-- what goals do from a place
abbrev pub runs : Builtins → List GoalTree → Point → Trace Point
runs b gs p = meaning_of_all b (goals_of gs) p

pub record SameGoals (b : Builtins) (l m : Level) (h : ℕ) (g : Goal) (lowered : SlotNames → SlotGoals) : Type 0 where
  pub grows : (ns : SlotNames) → Grows ns (lowered ns).names
  pub same : (n : Room) (ns : SlotNames) (e : Environment) (slots : Places) (s : State) → Agrees n h ns e slots → length (lowered ns).names ≤ n.slots →
      SameBy (AtPlace l n h (lowered ns).names) (runs b (lowered ns).goals (point l slots s)) (g m (place e s))

pub record SameLast (b : Builtins) (l m : Level) (h : ℕ) (v : Value) (lowered : SlotNames → SlotValue) : Type 0 where
  pub grows : (ns : SlotNames) → Grows ns (lowered ns).names
  pub same : (n : Room) (ns : SlotNames) (e : Environment) (slots : Places) (s : State) → Agrees n h ns e slots → length (lowered ns).names ≤ n.slots →
      SameBy (AtValue l n h (lowered ns).names (lowered ns).tree slots) (runs b (lowered ns).goals (point l slots s)) (v m (place e s))

pub record SameFilled (b : Builtins) (l m : Level) (h : ℕ) (v : Value) (lowered : SlotNames → SlotValue) : Type 0 where
  pub grows : (ns : SlotNames) → Grows ns (lowered ns).names
  pub same : (n : Room) (ns : SlotNames) (e : Environment) (slots : Places) (s : State) → Agrees n h ns e slots → length (lowered ns).names ≤ n.slots →
      SameBy (AtFilled l n h (lowered ns).names (lowered ns).tree slots) (runs b (lowered ns).goals (point l slots s)) (v m (place e s))

pub record SameArguments (b : Builtins) (l m : Level) (h : ℕ) (vs : Values) (lowered : SlotNames → SlotValues) : Type 0 where
  pub grows : (ns : SlotNames) → Grows ns (lowered ns).names
  pub same : (n : Room) (ns : SlotNames) (e : Environment) (slots : Places) (s : State) → Agrees n h ns e slots → length (lowered ns).names ≤ n.slots →
      SameBy (AtValues l n h (lowered ns).names (trees_of (lowered ns).trees) slots) (runs b (lowered ns).goals (point l slots s)) (vs m (place e s))

pub record SameParts (b : Builtins) (l m : Level) (h : ℕ) (vs : Values) (lowered : SlotNames → SlotValues) : Type 0 where
  pub grows : (ns : SlotNames) → Grows ns (lowered ns).names
  pub same : (n : Room) (ns : SlotNames) (e : Environment) (slots : Places) (s : State) → Agrees n h ns e slots → length (lowered ns).names ≤ n.slots →
      SameBy (AllAtFilled l n h (lowered ns).names (trees_of (lowered ns).trees) slots) (runs b (lowered ns).goals (point l slots s)) (vs m (place e s))

-- ---- widening

pub place-wider : (l : Level) (n : Room) (h : ℕ) (ns ms : SlotNames) → Grows ns ms → (p : Point) (q : Place) → AtPlace l n h ns p q → AtPlace l n h ms p q
place-wider l n h ns ms grows _ _ (at_place e slots s a) = at_place e slots s (agrees-more n h ns ms e slots grows a)

pub filled-value : (l : Level) (n : Room) (h : ℕ) (ns : SlotNames) (t : Tree) (start : Places) (p : Point) (x : Valued) → AtFilled l n h ns t start p x → AtValue l n h ns t start p x
filled-value l n h ns t start _ _ (at_filled e slots s u a extends f) = at_value slots s _ (filled-comes-to n h ns e slots s a t u f) extends

pub filled-last : (b : Builtins) (l m : Level) (h : ℕ) (v : Value) (lowered : SlotNames → SlotValue) → SameFilled b l m h v lowered → SameLast b l m h v lowered
filled-last b l m h v lowered f = record {
  grows = f.grows;
  same = λ n ns e slots s a room.
      same-map (AtFilled l n h (lowered ns).names (lowered ns).tree slots) (AtValue l n h (lowered ns).names (lowered ns).tree slots)
      (filled-value l n h (lowered ns).names (lowered ns).tree slots) _ _ (f.same n ns e slots s a room);
}

-- ---- goals one after the other

pub then-of-one : {A B : Type 0} (x : A) (f : A → Trace B) → then (one x) f ≡ f x
unfolding then
then-of-one x f = alt-done (f x)

pub runs-append : (b : Builtins) (gs hs : List GoalTree) (p : Point) → runs b (gs ++ hs) p ≡ then (runs b gs p) (runs b hs)
unfolding meaning
runs-append b [] hs p = sym (then-of-one p (runs b hs))
runs-append b (g ∷ gs) hs p =
    ap (then (meaning b g p)) (λ i q. runs-append b gs hs q i) ∙ sym (then-assoc (meaning b g p) (runs b gs) (runs b hs))

pub runs-one : (b : Builtins) (g : GoalTree) (p : Point) → runs b (g ∷ []) p ≡ meaning b g p
unfolding meaning
runs-one b g p = then-one (meaning b g p)

-- where nothing waits, draining does nothing
pub not-drained : (act : Action) (p : Point) → ((s : State) → (calls_at p.level).drained s ≡ one s) → draining act p ≡ act p
unfolding draining
not-drained act p drains = ap (λ t. then t (λ s. act (record { level = p.level; slots = p.slots; state = s }))) (drains p.state) ∙ then-of-one p.state _

pub names-not-drained : (g : Goal) (m : Level) (p : Place) → ((s : State) → (calls_at m).drained s ≡ one s) → names_draining g m p ≡ g m p
unfolding names_draining
names-not-drained g m p drains = ap (λ t. then t (λ s. g m (record { names = p.names; state = s }))) (drains p.state) ∙ then-of-one p.state _

pub turn-runs : (b : Builtins) (l : Level) → ((s : State) → (calls_at l).drained s ≡ one s) → (gs : List GoalTree) (slots : Places) (s : State) →
    meaning b (in_turn gs) (point l slots s) ≡ runs b gs (point l slots s)
unfolding meaning
turn-runs b l drains [] slots s = not-drained succeeding (point l slots s) drains
turn-runs b l drains (g ∷ []) slots s = sym (runs-one b g (point l slots s))
turn-runs b l drains (g ∷ g' ∷ gs) slots s = not-drained (meaning_of_all b (goals_of (g ∷ g' ∷ gs))) (point l slots s) drains

-- a goal first drains
pub goals-drained : (known : Knows) (set : Setting) (b : Builtins) (l m : Level) (h : ℕ) (g : Goal) (lowered : SlotNames → SlotGoals) → Alike known set b l m → SameGoals b l m h g lowered →
    SameGoals b l m h (names_draining g) lowered
goals-drained known set b l m h g lowered alike is = record {
  grows = is.grows;
  same = λ n ns e slots s a room.
      subst (λ (t : Trace Place). SameBy (AtPlace l n h (lowered ns).names) (runs b (lowered ns).goals (point l slots s)) t) (sym (names-not-drained g m (place e s) alike.names_drain))
      (is.same n ns e slots s a room);
}

-- a strict place
strict-answer : (l m : Level) (n : Room) (h : ℕ) (ns : SlotNames) → ((s : State) → (calls_at l).drained s ≡ one s) → ((s : State) → (calls_at m).drained s ≡ one s) →
    (p : Point) (q : Place) → AtPlace l n h ns p q → SameBy (AtPlace l n h ns) (draining (λ r. one r) p) (names_draining (λ k r. one r) m q)
strict-answer l m n h ns drains drain _ _ (at_place e slots s a) =
    subst (λ (t : Trace Point). SameBy (AtPlace l n h ns) t (names_draining (λ k r. one r) m (place e s))) (sym (not-drained (λ r. one r) (point l slots s) drains))
    (subst (λ (u : Trace Place). SameBy (AtPlace l n h ns) (one (point l slots s)) u) (sym (names-not-drained (λ k r. one r) m (place e s) drain))
    (same-one (AtPlace l n h ns) _ _ (at_place e slots s a)))

pub same-strictly : (known : Knows) (set : Setting) (b : Builtins) (l m : Level) (h : ℕ) (g : Goal) (lowered : SlotNames → SlotGoals) → Alike known set b l m → SameGoals b l m h g lowered →
    (n : Room) (ns : SlotNames) (e : Environment) (slots : Places) (s : State) → Agrees n h ns e slots → length (lowered ns).names ≤ n.slots →
    SameBy (AtPlace l n h (lowered ns).names) (strictly (meaning b (in_turn (lowered ns).goals)) (point l slots s)) (names_strictly g m (place e s))
unfolding strictly names_strictly
same-strictly known set b l m h g lowered alike is n ns e slots s a room =
    same-then (AtPlace l n h (lowered ns).names) (AtPlace l n h (lowered ns).names) _ _ (draining (λ r. one r)) (names_draining (λ k r. one r) m)
    (subst (λ (t : Trace Point). SameBy (AtPlace l n h (lowered ns).names) t (g m (place e s))) (sym (turn-runs b l alike.core_drains (lowered ns).goals slots s)) (is.same n ns e slots s a room))
    (strict-answer l m n h (lowered ns).names alike.core_drains alike.names_drain)
