-- Calls of a loop's helper: what its clause does, that it is called again, and where the loop ends.
use Rattle.std.proofs.Common.{◌≡◌, ℕ, suc, ◌+◌, ◌≤◌, ◌<◌, Bool, true, false, cond, List, [], ◌∷◌, length, refl, sym, ◌∙◌, ap}
use Rattle.std.specs.Prelude.{Option, Some, None, option_and_then, IsSome, is_some, replicate, ⊤, unwrap_or}
use Rattle.std.specs.Str.{bytes_eq}
use Rattle.std.proofs.lemmas.Bool.{true≢false}
use Rattle.pi_terms.specs.Tree.{Tree, Trees, trees_of, tree_count}
use Rattle.pi_terms.specs.Places.{Places, held}
use Rattle.pi_constraints.specs.State.{State, bindings}
use Rattle.pi_constraints.specs.HeadMatch.{matched_all_in}
use Rattle.pi_constraints.specs.Evaluation.{EvaluatedAll, evaluated_all}
use Rattle.pi_constraints.specs.Unify.{unified}
use Rattle.pi_core.specs.GoalTree.{GoalTree}
use Rattle.pi_core.specs.CoreTree.{PredTree}
use Rattle.pi_traces.specs.Trace.{Trace, end, note, ans, Done, one, then, done}
use Rattle.pi_traces.specs.Control.{chosen}
use Rattle.pi_traces.proofs.TraceLemmas.{then-one, then-assoc}
use Rattle.pi_meaning.specs.Shared.Settle.{settled_from}
use Rattle.pi_meaning.specs.Shared.Level.{Level, Point}
use Rattle.pi_meaning.specs.CoreMeaning.Builtins.{Builtins, predicate_by}
use Rattle.pi_meaning.specs.Shared.Given.{Setting}
use Rattle.pi_meaning.specs.CoreMeaning.Meaning.{calling, meaning}
use Rattle.pi_meaning.specs.CoreMeaning.Rules.{pred_run, rules, rule_before, rule_by}
use Rattle.pi_meaning.specs.OverNames.Environment.{Environment}
use Rattle.pi_meaning.specs.OverNames.Place.{Place}
use Rattle.pi_meaning.specs.OverNames.Texts.{Names, is_among}
use Rattle.pi_meaning.specs.OverNames.Assigning.{with_value}
use Rattle.pi_meaning.specs.OverNames.Loops as over_names
use Rattle.pi_meaning.specs.OverNames.Loops.{Finish, now}
use Rattle.pi_rewrite_spec.specs.Slots.{SlotNames, unnamed, slot_of, slot_or_next, slot_for}
use Rattle.pi_rewrite_spec.specs.Forms.{Knows}
use Rattle.pi_rewrite_spec.specs.Loops.{slots_from, slots_head, Ending, closing, closing_slots, clause_of, helper, Loop, loop_slots, again}
use Rattle.pi_rewrite_spec.proofs.FilledLemmas.{terms_at}
use Rattle.pi_rewrite_spec.proofs.AgreeLemmas.{Room, Grows, Agrees, slot-below}
use Rattle.pi_rewrite_spec.proofs.RunLemmas.{Alike, point, place, runs, then-of-one, runs-one, not-drained}
use Rattle.pi_rewrite_spec.proofs.ControlLemmas.{Drains}
use Rattle.pi_rewrite_spec.proofs.EndLemmas.{finish_of, Stand, closing-same, states_of}
use Rattle.pi_rewrite_spec.proofs.LoopLemmas.{InSlots}
use Rattle.pi_rewrite_spec.proofs.HandedLemmas.{entered, head-entered, some-again, values_from, slots-come}
use Rattle.pi_rewrite_spec.proofs.EnteredLemmas.{among-slot, slot-values, slot-stays}

-- of a call only the state counts
abbrev pub state_of : Point → Trace State
state_of q = one q.state

-- ---- what a helper does

-- A call of a helper does its clauses, at a level inside that of the call.
abbrev pub HelperCalled : Builtins → Level → PredTree → Level → Type 0
HelperCalled b l p inner = (ts : Trees) (s : State) → tree_count ts ≡ p.arity → predicate_by b l p.name ts s ≡ pred_run b inner p None ts s

pub count-trees : (vs : List Tree) → tree_count (trees_of vs) ≡ length vs
unfolding tree_count
count-trees [] = refl
count-trees (v ∷ vs) = ap suc (count-trees vs)

-- the one clause of a helper takes all that it is handed, and runs its body
pub helper-runs : (b : Builtins) (inner : Level) (name : List ℕ) (k n m : ℕ) (body : GoalTree) (vs : List Tree) (s : State) → length vs ≡ k → n ≡ k + m →
    pred_run b inner (helper name k (clause_of (slots_head 0 k) body n ∷ [])) None (trees_of vs) s ≡ then (meaning b body (point inner (entered vs m) s)) state_of
unfolding pred_run rules chosen
helper-runs b inner name k n m body vs s count is =
    ap (rule_before b inner (rule_by (clause_of (slots_head 0 k) body n) false (λ p. then (meaning b body p) state_of)) s done)
    (ap (λ (j : ℕ). matched_all_in (bindings s) (slots_head 0 j) (trees_of vs) (replicate n None)) (sym count)
    ∙ head-entered (bindings s) vs n m (is ∙ ap (λ (j : ℕ). j + m) (sym count)))

-- ---- a call of it

pub called-runs : (b : Builtins) (l : Level) → Drains l → (name : List ℕ) (args vs : List Tree) (slots after : Places) (s r : State) →
    evaluated_all (trees_of args) slots s ≡ terms_at (trees_of vs) after r → meaning b (GoalTree.call name args) (point l slots s) ≡ then (predicate_by b l name (trees_of vs) r) (λ q. one (point l after q))
unfolding meaning calling
called-runs b l drains name args vs slots after s r is =
    not-drained (calling b name args) (point l slots s) drains ∙ ap (λ (y : EvaluatedAll). then (predicate_by b l name y.trees y.state) (λ q. one (point l y.slots q))) is

-- the next turn is called with what slots have
pub again-runs : (b : Builtins) (l : Level) → Drains l → (w : Loop) (slots : Places) (s : State) → ((i : ℕ) → i < length (loop_slots w) → IsSome (held slots i)) →
    then (runs b (again w ∷ []) (point l slots s)) state_of ≡ predicate_by b l w.name (trees_of (values_from 0 (length (loop_slots w)) slots)) s
again-runs b l drains w slots s firm =
    ap (λ (t : Trace Point). then t state_of) (runs-one b (again w) (point l slots s) ∙ called-runs b l drains w.name (slots_from 0 k) (values_from 0 k slots) slots slots s s (slots-come k slots s firm))
    ∙ then-assoc (predicate_by b l w.name (trees_of (values_from 0 k slots)) s) (λ q. one (point l slots q)) state_of
    ∙ ap (then (predicate_by b l w.name (trees_of (values_from 0 k slots)) s)) (λ i q. then-of-one (point l slots q) state_of i)
    ∙ then-one (predicate_by b l w.name (trees_of (values_from 0 k slots)) s)
  where
    k : ℕ
    k = length (loop_slots w)

-- ---- where a loop ends

-- the loop's variables are unified with what is made of what its names have, one after the other
unfoldable pub endings : Finish → Names → ℕ → Place → Trace State
endings finish [] base p = one p.state
endings finish (name ∷ names) base p = then (settled_from p.state (unified p.state (Tree.var base) (finish (bindings p.state) (now name p.names)))) (λ r. endings finish names (suc base) (place p.names r))

pub closed-ends : (m : Level) → Drains m → (finish : Finish) (names : Names) (base : ℕ) (after : Environment) (p : Place) → states_of (over_names.closed finish names base after m p) ≡ endings finish names base p
unfolding over_names.closed endings
closed-ends m drains finish [] base after p = then-of-one (place after p.state) (λ q. one q.state)
closed-ends m drains finish (name ∷ names) base after p =
    ap states_of (ap (λ (t : Trace State). then t turn) (drains p.state) ∙ then-of-one p.state turn)
    ∙ then-assoc ends rest (λ q. one q.state)
    ∙ ap (then ends) (λ i r. closed-ends m drains finish names (suc base) (with_value after name (Tree.var base)) (place p.names r) i)
  where
    ends : Trace State
    ends = settled_from p.state (unified p.state (Tree.var base) (finish (bindings p.state) (now name p.names)))

    rest : State → Trace Place
    rest r = over_names.closed finish names (suc base) (with_value after name (Tree.var base)) m (place p.names r)

    turn : State → Trace Place
    turn s = then (settled_from s (unified s (Tree.var base) (finish (bindings s) (now name p.names)))) rest

-- names that are among others, each of which a slot can have
unfoldable pub AreAmong : Names → Names → Type 0
AreAmong more [] = ⊤
AreAmong more (name ∷ names) = (is_among more name ≡ true) × (bytes_eq name unnamed ≡ false) × AreAmong more names

-- a name that is handed on has a slot, and that is filled
pub shared-slot : (w : Loop) (name : List ℕ) → is_among w.shared name ≡ true → bytes_eq name unnamed ≡ false → (n : Room) (h : ℕ) (ms : SlotNames) → Grows (loop_slots w) ms → (e : Environment) (slots : Places) → Agrees n h ms e slots →
    ((i : ℕ) → i < length w.shared → IsSome (held slots i)) → held slots (slot_for name (loop_slots w)) ≡ Some (now name e)
shared-slot w name among named n h ms grows e slots a firm = go (slot_of name w.shared) refl
  where
    go : (o : Option ℕ) → slot_of name w.shared ≡ o → held slots (slot_for name (loop_slots w)) ≡ Some (now name e)
    go None at = absurd (true≢false (sym among ∙ among-slot name w.shared ∙ ap is_some at))
    go (Some k) at =
        let found : slot_of name (loop_slots w) ≡ Some k = slot-values w.kept name w.shared named ∙ at in
        let there : slot_for name (loop_slots w) ≡ k =
        ap (λ (c : Bool). slot_or_next (cond c None (slot_of name (loop_slots w))) (loop_slots w)) named ∙ ap (λ (o : Option ℕ). slot_or_next o (loop_slots w)) found in
        ap (held slots) there ∙ some-again (held slots k) (firm k (slot-below name w.shared k at))
        ∙ ap (λ (o : Option Tree). Some (unwrap_or o (Tree.atom []))) (sym (a.names name named ∙ ap (option_and_then (held slots)) (slot-stays name (loop_slots w) ms grows k found)))

pub stand-entered : (w : Loop) (names : Names) → AreAmong w.shared names → (k base : ℕ) (n : Room) (h : ℕ) (ms : SlotNames) → Grows (loop_slots w) ms → (e : Environment) (slots : Places) → Agrees n h ms e slots →
    ((i : ℕ) → i < length w.shared → IsSome (held slots i)) → InSlots names k base slots → Stand names k base (loop_slots w) e slots
unfolding AreAmong Stand InSlots
stand-entered w [] are k base n h ms grows e slots a firm ins = tt
stand-entered w (name ∷ names) are k base n h ms grows e slots a firm ins =
    (ins.0, shared-slot w name are.0 are.1 n h ms grows e slots a firm, stand-entered w names are.2 (suc k) (suc base) n h ms grows e slots a firm ins.1)

-- So a turn after which there is no other ends the loop as it ends over names.
pub closing-ends : (known : Knows) (set : Setting) (b : Builtins) (l m : Level) → Alike known set b l m → (o : Ending) (names : Names) (k base next : ℕ) (ns : SlotNames) (e : Environment) (slots : Places) (s : State) → Stand names k base ns e slots →
    ((i : ℕ) → next ≤ i → held slots i ≡ None) → closing_slots names next ≤ length slots → then (runs b (closing o names k next ns) (point l slots s)) state_of ≡ endings (finish_of o) names base (place e s)
closing-ends known set b l m alike o names k base next ns e slots s stand empty room =
    closing-same known set b l m alike o names k base next ns e e slots s stand empty room ∙ closed-ends m alike.names_drain (finish_of o) names base e (place e s)

-- ---- traces

pub chosen-followed : {A B C : Type 0} (t : Trace A) (f : A → Trace B) (u : Trace B) (g : B → Trace C) → then (chosen t f u) g ≡ chosen t (λ x. then (f x) g) (then u g)
unfolding chosen then
chosen-followed (end Done) f u g = refl
chosen-followed (end e) f u g = refl
chosen-followed (note n t) f u g = ap (note n) (chosen-followed t f u g)
chosen-followed (ans x t) f u g = refl
