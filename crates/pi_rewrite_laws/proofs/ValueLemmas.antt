-- Arguments, calls and terms that are made of values do over slots what they do over names.
use Rattle.std.proofs.Common.{◌≡◌, ℕ, suc, ◌≤◌, ◌<◌, true, false, List, [], ◌∷◌, ◌++◌, length, refl, sym, ◌∙◌, ap, subst, arith, length-append}
use Rattle.std.specs.Prelude.{Some, None, ◌||◌, IsTrue, slice_set}
use Rattle.std.proofs.lemmas.List.{get_or-set_same}
use Rattle.pi_terms.specs.Tree.{Tree, Trees, no_trees, tree, trees_of, tree_count}
use Rattle.pi_terms.specs.Places.{Places}
use Rattle.pi_constraints.specs.State.{State}
use Rattle.pi_constraints.specs.Evaluation.{Evaluated, EvaluatedAll, evaluated, evaluated_all}
use Rattle.pi_syntax.specs.ExpTree.{ExpTrees}
use Rattle.pi_core.specs.GoalTree.{GoalTree}
use Rattle.pi_traces.specs.Trace.{Trace, one, then}
use Rattle.pi_traces.proofs.TraceLemmas.{then-one}
use Rattle.pi_meaning.specs.Shared.Level.{Level, Applied, Point}
use Rattle.pi_meaning.specs.CoreMeaning.Builtins.{Builtins, predicate_by, function_by}
use Rattle.pi_meaning.specs.Shared.Given.{Setting}
use Rattle.pi_meaning.specs.Shared.Names.{is_call, is_given_predicate, is_given_function}
use Rattle.pi_meaning.specs.Shared.Calls.{predicate_called, function_called, first_called}
use Rattle.pi_meaning.specs.CoreMeaning.Meaning.{calling, applying, meaning}
use Rattle.pi_meaning.specs.OverNames.Environment.{Environment, Valued, ValuedAll}
use Rattle.pi_meaning.specs.OverNames.Place.{Place}
use Rattle.pi_meaning.specs.OverNames.Assigning.{place_of}
use Rattle.pi_meaning.specs.OverNames.Terms.{items_onto, written_terms}
use Rattle.pi_meaning.specs.OverNames.Control.{Value, Values, nothing, behind_all, in_front, made_of, made_onto, applied_to, called_with, calling_term}
use Rattle.pi_rewrite_spec.specs.Slots.{SlotNames, unnamed, with_value}
use Rattle.pi_rewrite_spec.specs.Values.{SlotTerms, SlotValue, SlotValues, slot_terms, no_values, before_values, value_of_parts, value_onto, applied}
use Rattle.pi_rewrite_spec.specs.Goals.{called}
use Rattle.pi_rewrite_spec.specs.Forms.{Knows, AreTerms}
use Rattle.pi_rewrite_spec.proofs.SameLemmas.{SameBy, same-one, same-then, same-then_same}
use Rattle.pi_rewrite_spec.proofs.FilledLemmas.{Filled, in_slot, AllFilled, none_filled, one_filled, extends-none, extends-then, set-keeps, filled-more, all-filled-more, filled-comes, items-filled, term_at, in_front_of}
use Rattle.pi_rewrite_spec.proofs.AgreeLemmas.{Room, by, grows-none, grows-then, grows-length, Agrees, agrees-value}
use Rattle.pi_rewrite_spec.proofs.TermLemmas.{ComeTo, terms-grow, terms-come, nothing-comes, front-comes}
use Rattle.pi_rewrite_spec.proofs.RunLemmas.{Alike, point, place, AtPlace, at_place, AtValue, at_value, AtValues, at_values, AtFilled, at_filled, AllAtFilled, all_at_filled, runs, SameGoals, SameLast, SameFilled, SameArguments, SameParts, then-of-one, runs-append}
use Rattle.pi_rewrite_spec.proofs.ControlLemmas.{just-same}
use Rattle.pi_rewrite_spec.proofs.FlatLemmas.{terms_value}

-- ---- calls

pub filled-count : (f : Places) (ts us : Trees) → AllFilled f ts us → tree_count us ≡ tree_count ts
unfolding tree_count
filled-count f _ _ none_filled = refl
filled-count f _ _ (one_filled {ts = ts} {us = us} a b) = ap suc (filled-count f ts us b)

-- a goal behind arguments
behind-arguments : {B : Type 0} (R : Point → B → Type 0) (b : Builtins) (l m : Level) (h : ℕ) (vs : Values) (lvs : SlotNames → SlotValues) → SameArguments b l m h vs lvs → (g : GoalTree) (after : ValuedAll → Trace B) →
    (n : Room) (ns : SlotNames) (e : Environment) (slots : Places) (s : State) → Agrees n h ns e slots → length (lvs ns).names ≤ n.slots →
    ((q : Point) (x : ValuedAll) → AtValues l n h (lvs ns).names (trees_of (lvs ns).trees) slots q x → SameBy R (runs b (g ∷ []) q) (after x)) →
    SameBy R (runs b ((lvs ns).goals ++ g ∷ []) (point l slots s)) (then (vs m (place e s)) after)
behind-arguments R b l m h vs lvs are g after n ns e slots s a room each =
    subst (λ (t : Trace Point). SameBy R t (then (vs m (place e s)) after)) (sym (runs-append b (lvs ns).goals (g ∷ []) (point l slots s)))
    (same-then (AtValues l n h (lvs ns).names (trees_of (lvs ns).trees) slots) R _ _ (runs b (g ∷ [])) after (are.same n ns e slots s a room) each)

-- the states of a call's answers, with the names behind its arguments
abbrev states_then : Environment → Trace State → Trace Place
states_then e t = then t (λ s. one (record { names = e; state = s }))

called-answer : (known : Knows) (set : Setting) (b : Builtins) (l m : Level) (n : Room) (h : ℕ) (ns : SlotNames) (name : List ℕ) (args : List Tree) (start : Places) (does : Trees → State → Trace State) → Alike known set b l m →
    ((ts : Trees) (s : State) → tree_count ts ≡ tree_count (trees_of args) → predicate_by b l name ts s ≡ does ts s) → (q : Point) (x : ValuedAll) → AtValues l n h ns (trees_of args) start q x →
    SameBy (AtPlace l n h ns) (runs b (GoalTree.call name args ∷ []) q) (states_then x.names (does x.trees x.state))
unfolding meaning calling
called-answer known set b l m n h ns name args start does alike is _ _ (at_values slots s x c extends) =
    just-same (AtPlace l n h ns) b l alike.core_drains (GoalTree.call name args) (calling b name args) refl slots s _
    (subst (λ (y : EvaluatedAll). SameBy (AtPlace l n h ns) (then (predicate_by b l name y.trees y.state) (λ r. one (point l y.slots r))) (states_then x.names (does x.trees x.state))) (sym c.comes)
    (same-then_same (AtPlace l n h ns) _ _ (λ r. one (point l c.after r)) (λ r. one (place x.names r)) (is x.trees x.state (filled-count c.after (trees_of args) x.trees c.filled))
    (λ r. same-one (AtPlace l n h ns) _ _ (at_place x.names c.after r c.agrees))))

pub called-goals : (known : Knows) (set : Setting) (b : Builtins) (l m : Level) (h : ℕ) (name : List ℕ) (k : ℕ) (vs : Values) (lvs : SlotNames → SlotValues) → Alike known set b l m → SameArguments b l m h vs lvs →
    ((ns : SlotNames) → tree_count (trees_of (lvs ns).trees) ≡ k) → is_call name k ≡ false → IsTrue (is_given_predicate name k || known.predicate name k) →
    SameGoals b l m h (called_with set name vs) (λ ns. called name (lvs ns))
unfolding called_with
called-goals known set b l m h name k vs lvs alike are count apart there = record {
  grows = are.grows;
  same = λ n ns e slots s a room.
      behind-arguments (AtPlace l n h (lvs ns).names) b l m h vs lvs are (GoalTree.call name (lvs ns).trees) (λ all. then (predicate_called set m name all.trees all.state) (λ s. one (record { names = all.names; state = s }))) n ns e slots s a room
      (called-answer known set b l m n h (lvs ns).names name (lvs ns).trees slots (predicate_called set m name) alike
      (λ ts r long. alike.predicates name ts r (ap (is_call name) (long ∙ count ns) ∙ apart) (subst (λ (j : ℕ). IsTrue (is_given_predicate name j || known.predicate name j)) (sym (long ∙ count ns)) there)));
}

pub terms-goals : (known : Knows) (set : Setting) (b : Builtins) (l m : Level) (h : ℕ) (name : List ℕ) (k : ℕ) (vs : Values) (lvs : SlotNames → SlotValues) → Alike known set b l m → SameArguments b l m h vs lvs →
    ((ns : SlotNames) → tree_count (trees_of (lvs ns).trees) ≡ k) → is_call name k ≡ true → SameGoals b l m h (calling_term set vs) (λ ns. called name (lvs ns))
unfolding calling_term
terms-goals known set b l m h name k vs lvs alike are count is = record {
  grows = are.grows;
  same = λ n ns e slots s a room.
      behind-arguments (AtPlace l n h (lvs ns).names) b l m h vs lvs are (GoalTree.call name (lvs ns).trees) (λ all. then (first_called set m all.trees all.state) (λ s. one (record { names = all.names; state = s }))) n ns e slots s a room
      (called-answer known set b l m n h (lvs ns).names name (lvs ns).trees slots (first_called set m) alike (λ ts r long. alike.terms name ts r (ap (is_call name) (long ∙ count ns) ∙ is)));
}

-- the call of a function: its value stands in a slot of its own
pub applied-answer : (known : Knows) (set : Setting) (b : Builtins) (l m : Level) (n : Room) (h : ℕ) (ns : SlotNames) (name : List ℕ) (args : List Tree) (start : Places) → Alike known set b l m → length (with_value ns) ≤ n.slots →
    IsTrue (is_given_function name (tree_count (trees_of args)) || known.function name (tree_count (trees_of args))) → (q : Point) (x : ValuedAll) → AtValues l n h ns (trees_of args) start q x →
    SameBy (AtFilled l n h (with_value ns) (Tree.var (length ns)) start) (runs b (GoalTree.apply name args (length ns) ∷ []) q)
    (then (function_called set m name x.trees x.state) (λ a. one (record { tree = a.value; names = x.names; state = a.state })))
unfolding meaning applying
applied-answer known set b l m n h ns name args start alike room there _ _ (at_values slots s x c extends) =
    just-same R b l alike.core_drains (GoalTree.apply name args (length ns)) (applying b name args (length ns)) refl slots s _
    (subst (λ (y : EvaluatedAll). SameBy R (then (function_by b l name y.trees y.state) (λ a. one (point l (slice_set y.slots (length ns) (Some a.value)) a.state)))
    (then (function_called set m name x.trees x.state) (λ a. one (record { tree = a.value; names = x.names; state = a.state })))) (sym c.comes)
    (same-then_same R _ _ _ _ (alike.functions name x.trees x.state (subst (λ (j : ℕ). IsTrue (is_given_function name j || known.function name j)) (sym (filled-count c.after (trees_of args) x.trees c.filled)) there))
    (λ a. same-one R _ _ (answer a))))
  where
    R : Point → Valued → Type 0
    R = AtFilled l n h (with_value ns) (Tree.var (length ns)) start

    fits : length ns < length c.after
    fits = omega (arith, room, length-append ns (unnamed ∷ []), c.agrees.long)

    answer : (a : Applied) → AtFilled l n h (with_value ns) (Tree.var (length ns)) start (point l (slice_set c.after (length ns) (Some a.value)) a.state) (record { tree = a.value; names = x.names; state = a.state })
    answer a = at_filled x.names (slice_set c.after (length ns) (Some a.value)) a.state a.value (agrees-value n h ns x.names c.after a.value c.agrees)
        (extends-then start c.after _ (extends-then start slots c.after extends c.extends) (set-keeps c.after (length ns) a.value (c.agrees.empty (length ns) (omega arith))))
        (in_slot (length ns) a.value (get_or-set_same c.after (length ns) (Some a.value) None fits))

pub applied-value : (known : Knows) (set : Setting) (b : Builtins) (l m : Level) (h : ℕ) (name : List ℕ) (k : ℕ) (vs : Values) (lvs : SlotNames → SlotValues) → Alike known set b l m → SameArguments b l m h vs lvs →
    ((ns : SlotNames) → tree_count (trees_of (lvs ns).trees) ≡ k) → IsTrue (is_given_function name k || known.function name k) →
    SameFilled b l m h (applied_to set name vs) (λ ns. applied name (lvs ns))
unfolding applied_to
applied-value known set b l m h name k vs lvs alike are count there = record {
  grows = λ ns. grows-then ns _ _ (are.grows ns) (by (unnamed ∷ []));
  same = λ n ns e slots s a room.
      behind-arguments (AtFilled l n h (with_value (lvs ns).names) (Tree.var (length (lvs ns).names)) slots) b l m h vs lvs are (GoalTree.apply name (lvs ns).trees (length (lvs ns).names))
      (λ all. then (function_called set m name all.trees all.state) (λ a. one (record { tree = a.value; names = all.names; state = a.state }))) n ns e slots s a
      (omega (arith, room, length-append (lvs ns).names (unnamed ∷ [])))
      (applied-answer known set b l m n h (lvs ns).names name (lvs ns).trees slots alike room (subst (λ (j : ℕ). IsTrue (is_given_function name j || known.function name j)) (sym (count ns)) there));
}

-- ---- arguments

pub no-arguments : (b : Builtins) (l m : Level) (h : ℕ) → SameArguments b l m h nothing no_values
unfolding meaning
no-arguments b l m h = record {
  grows = grows-none;
  same = λ n ns e slots s a room. same-one (AtValues l n h ns no_trees slots) _ _ (at_values slots s _ (nothing-comes n h ns e slots s a) (extends-none slots));
}

pub no-parts : (b : Builtins) (l m : Level) (h : ℕ) → SameParts b l m h nothing no_values
unfolding meaning
no-parts b l m h = record {
  grows = grows-none;
  same = λ n ns e slots s a room. same-one (AllAtFilled l n h ns no_trees slots) _ _ (all_at_filled e slots s no_trees a (extends-none slots) none_filled);
}

-- what stands behind a value
abbrev with_rest : Values → Level → Valued → Trace ValuedAll
with_rest vs m x = then (vs m (place_of x)) (λ all. one (record { trees = tree x.tree all.trees; names = all.names; state = all.state }))

-- a filled one before others
filled-before-arguments : (b : Builtins) (l m : Level) (h : ℕ) (vs : Values) (lvs : SlotNames → SlotValues) → SameArguments b l m h vs lvs → (n : Room) (ms : SlotNames) (t : Tree) (start : Places) → length (lvs ms).names ≤ n.slots →
    (q : Point) (x : Valued) → AtFilled l n h ms t start q x →
    SameBy (AtValues l n h (lvs ms).names (tree t (trees_of (lvs ms).trees)) start) (runs b (lvs ms).goals q) (with_rest vs m x)
unfolding evaluated
filled-before-arguments b l m h vs lvs are n ms t start room _ _ (at_filled e slots s u a extends f) =
    subst (λ (w : Trace Point). SameBy R w (with_rest vs m (record { tree = u; names = e; state = s }))) (then-one (runs b (lvs ms).goals (point l slots s)))
    (same-then (AtValues l n h (lvs ms).names (trees_of (lvs ms).trees) slots) R _ _ (λ q. one q) (λ all. one (record { trees = tree u all.trees; names = all.names; state = all.state })) (are.same n ms e slots s a room) step)
  where
    R : Point → ValuedAll → Type 0
    R = AtValues l n h (lvs ms).names (tree t (trees_of (lvs ms).trees)) start

    step : (q : Point) (all : ValuedAll) → AtValues l n h (lvs ms).names (trees_of (lvs ms).trees) slots q all → SameBy R (one q) (one (record { trees = tree u all.trees; names = all.names; state = all.state }))
    step _ _ (at_values more r all c further) = same-one R _ _ (at_values more r _ (record {
      after = c.after;
      comes = ap (λ (y : Evaluated). in_front_of y (evaluated_all (trees_of (lvs ms).trees) y.slots y.state)) (filled-comes more t u (filled-more slots more further t u f) r)
          ∙ ap (in_front_of (term_at u more r)) c.comes;
      agrees = c.agrees;
      extends = c.extends;
      filled = one_filled (filled-more more c.after c.extends t u (filled-more slots more further t u f)) c.filled;
    }) (extends-then start slots more extends further))

pub front-arguments : (b : Builtins) (l m : Level) (h : ℕ) (v : Value) (vs : Values) (lv : SlotNames → SlotValue) (lvs : SlotNames → SlotValues) → SameFilled b l m h v lv → SameArguments b l m h vs lvs →
    SameArguments b l m h (in_front v vs) (λ ns. before_values (lv ns) (lvs (lv ns).names))
front-arguments b l m h v vs lv lvs is are = record {
  grows = λ ns. grows-then ns _ _ (is.grows ns) (are.grows (lv ns).names);
  same = λ n ns e slots s a room.
      let ms : SlotNames = (lv ns).names in
      let ks : SlotNames = (lvs ms).names in
      subst (λ (t : Trace Point). SameBy (AtValues l n h ks (tree (lv ns).tree (trees_of (lvs ms).trees)) slots) t (in_front v vs m (place e s))) (sym (runs-append b (lv ns).goals (lvs ms).goals (point l slots s)))
      (same-then (AtFilled l n h ms (lv ns).tree slots) (AtValues l n h ks (tree (lv ns).tree (trees_of (lvs ms).trees)) slots) _ _ (runs b (lvs ms).goals) (with_rest vs m)
      (is.same n ns e slots s a (omega (arith, room, grows-length ms ks (are.grows ms)))) (filled-before-arguments b l m h vs lvs are n ms (lv ns).tree slots room));
}

-- parts, each of which is filled
filled-before-parts : (b : Builtins) (l m : Level) (h : ℕ) (vs : Values) (lvs : SlotNames → SlotValues) → SameParts b l m h vs lvs → (n : Room) (ms : SlotNames) (t : Tree) (start : Places) → length (lvs ms).names ≤ n.slots →
    (q : Point) (x : Valued) → AtFilled l n h ms t start q x →
    SameBy (AllAtFilled l n h (lvs ms).names (tree t (trees_of (lvs ms).trees)) start) (runs b (lvs ms).goals q) (with_rest vs m x)
filled-before-parts b l m h vs lvs are n ms t start room _ _ (at_filled e slots s u a extends f) =
    subst (λ (w : Trace Point). SameBy R w (with_rest vs m (record { tree = u; names = e; state = s }))) (then-one (runs b (lvs ms).goals (point l slots s)))
    (same-then (AllAtFilled l n h (lvs ms).names (trees_of (lvs ms).trees) slots) R _ _ (λ q. one q) (λ all. one (record { trees = tree u all.trees; names = all.names; state = all.state })) (are.same n ms e slots s a room) step)
  where
    R : Point → ValuedAll → Type 0
    R = AllAtFilled l n h (lvs ms).names (tree t (trees_of (lvs ms).trees)) start

    step : (q : Point) (all : ValuedAll) → AllAtFilled l n h (lvs ms).names (trees_of (lvs ms).trees) slots q all → SameBy R (one q) (one (record { trees = tree u all.trees; names = all.names; state = all.state }))
    step _ _ (all_at_filled e' more r us a' further fs) =
        same-one R _ _ (all_at_filled e' more r (tree u us) a' (extends-then start slots more extends further) (one_filled (filled-more slots more further t u f) fs))

pub front-parts : (b : Builtins) (l m : Level) (h : ℕ) (v : Value) (vs : Values) (lv : SlotNames → SlotValue) (lvs : SlotNames → SlotValues) → SameFilled b l m h v lv → SameParts b l m h vs lvs →
    SameParts b l m h (in_front v vs) (λ ns. before_values (lv ns) (lvs (lv ns).names))
front-parts b l m h v vs lv lvs is are = record {
  grows = λ ns. grows-then ns _ _ (is.grows ns) (are.grows (lv ns).names);
  same = λ n ns e slots s a room.
      let ms : SlotNames = (lv ns).names in
      let ks : SlotNames = (lvs ms).names in
      subst (λ (t : Trace Point). SameBy (AllAtFilled l n h ks (tree (lv ns).tree (trees_of (lvs ms).trees)) slots) t (in_front v vs m (place e s))) (sym (runs-append b (lv ns).goals (lvs ms).goals (point l slots s)))
      (same-then (AtFilled l n h ms (lv ns).tree slots) (AllAtFilled l n h ks (tree (lv ns).tree (trees_of (lvs ms).trees)) slots) _ _ (runs b (lvs ms).goals) (with_rest vs m)
      (is.same n ns e slots s a (omega (arith, room, grows-length ms ks (are.grows ms)))) (filled-before-parts b l m h vs lvs are n ms (lv ns).tree slots room));
}

-- the last one with a call in it, or none: those behind it are evaluated by the call that uses them
last-answer : (l m : Level) (n : Room) (h : ℕ) (ms : SlotNames) (t : Tree) (es : ExpTrees) (vs : Values) (start : Places) → AreTerms es → ((p : Place) → vs m p ≡ terms_value (written_terms es p.names p.state)) → length (slot_terms es ms).names ≤ n.slots →
    (q : Point) (x : Valued) → AtValue l n h ms t start q x →
    SameBy (AtValues l n h (slot_terms es ms).names (tree t (trees_of (slot_terms es ms).trees)) start) (one q) (with_rest vs m x)
last-answer l m n h ms t es vs start terms is room _ _ (at_value slots s x c extends) =
    let all : ComeTo n h (slot_terms es ms) c.after x.state (written_terms es x.names x.state) = terms-come es terms n h ms x.names c.after x.state c.agrees room in
    subst (λ (w : Trace ValuedAll). SameBy R (one (point l slots s)) w)
    (sym (ap (λ (w : Trace ValuedAll). then w (λ all. one (record { trees = tree x.tree all.trees; names = all.names; state = all.state }))) (is (place_of x) ∙ ap terms_value all.there) ∙ then-of-one all.values _))
    (same-one R _ _ (at_values slots s _ (front-comes n h ms (slot_terms es ms).names t (trees_of (slot_terms es ms).trees) slots s x all.values c all.comes) extends))
  where
    R : Point → ValuedAll → Type 0
    R = AtValues l n h (slot_terms es ms).names (tree t (trees_of (slot_terms es ms).trees)) start

abbrev pub flat_values : SlotTerms → SlotValues
flat_values ts = record { goals = []; trees = ts.trees; names = ts.names }

pub last-arguments : (b : Builtins) (l m : Level) (h : ℕ) (v : Value) (vs : Values) (lv : SlotNames → SlotValue) (es : ExpTrees) → SameLast b l m h v lv → AreTerms es → ((p : Place) → vs m p ≡ terms_value (written_terms es p.names p.state)) →
    SameArguments b l m h (in_front v vs) (λ ns. before_values (lv ns) (flat_values (slot_terms es (lv ns).names)))
unfolding meaning
last-arguments b l m h v vs lv es is terms flat = record {
  grows = λ ns. grows-then ns _ _ (is.grows ns) (terms-grow es (lv ns).names);
  same = λ n ns e slots s a room.
      let ms : SlotNames = (lv ns).names in
      let ks : SlotNames = (slot_terms es ms).names in
      subst (λ (t : Trace Point). SameBy (AtValues l n h ks (tree (lv ns).tree (trees_of (slot_terms es ms).trees)) slots) t (in_front v vs m (place e s))) (sym (runs-append b (lv ns).goals [] (point l slots s)))
      (same-then (AtValue l n h ms (lv ns).tree slots) (AtValues l n h ks (tree (lv ns).tree (trees_of (slot_terms es ms).trees)) slots) _ _ (λ q. one q) (with_rest vs m)
      (is.same n ns e slots s a (omega (arith, room, grows-length ms ks (terms-grow es ms)))) (last-answer l m n h ms (lv ns).tree es vs slots terms flat room));
}

-- ---- terms that are made of values

pub parts-value : (b : Builtins) (l m : Level) (h : ℕ) (make : Trees → Tree) (vs : Values) (lvs : SlotNames → SlotValues) → ((f : Places) (ts us : Trees) → AllFilled f ts us → Filled f (make ts) (make us)) → SameParts b l m h vs lvs →
    SameFilled b l m h (made_of make vs) (λ ns. value_of_parts make (lvs ns))
parts-value b l m h make vs lvs fill are = record {
  grows = are.grows;
  same = λ n ns e slots s a room.
      subst (λ (t : Trace Point). SameBy (AtFilled l n h (lvs ns).names (make (trees_of (lvs ns).trees)) slots) t (made_of make vs m (place e s))) (then-one (runs b (lvs ns).goals (point l slots s)))
      (same-then (AllAtFilled l n h (lvs ns).names (trees_of (lvs ns).trees) slots) (AtFilled l n h (lvs ns).names (make (trees_of (lvs ns).trees)) slots) _ _ (λ q. one q) _ (are.same n ns e slots s a room)
      (step n (lvs ns).names (trees_of (lvs ns).trees) slots));
}
  where
    step : (n : Room) (ms : SlotNames) (ts : Trees) (start : Places) (q : Point) (all : ValuedAll) → AllAtFilled l n h ms ts start q all →
        SameBy (AtFilled l n h ms (make ts) start) (one q) (one (record { tree = make all.trees; names = all.names; state = all.state }))
    step n ms ts start _ _ (all_at_filled e slots s us a extends fs) = same-one (AtFilled l n h ms (make ts) start) _ _ (at_filled e slots s (make us) a extends (fill slots ts us fs))

-- items in front of a value
onto-answer : (b : Builtins) (l m : Level) (h : ℕ) (v : Value) (lv : SlotNames → SlotValue) → SameFilled b l m h v lv → (n : Room) (ms : SlotNames) (ts : Trees) (start : Places) → length (lv ms).names ≤ n.slots →
    (q : Point) (all : ValuedAll) → AllAtFilled l n h ms ts start q all →
    SameBy (AtFilled l n h (lv ms).names (items_onto ts (lv ms).tree) start) (runs b (lv ms).goals q)
    (then (v m (behind_all all)) (λ x. one (record { tree = items_onto all.trees x.tree; names = x.names; state = x.state })))
onto-answer b l m h v lv is n ms ts start room _ _ (all_at_filled e slots s us a extends fs) =
    subst (λ (w : Trace Point). SameBy R w (then (v m (place e s)) (λ x. one (record { tree = items_onto us x.tree; names = x.names; state = x.state })))) (then-one (runs b (lv ms).goals (point l slots s)))
    (same-then (AtFilled l n h (lv ms).names (lv ms).tree slots) R _ _ (λ q. one q) (λ x. one (record { tree = items_onto us x.tree; names = x.names; state = x.state })) (is.same n ms e slots s a room) step)
  where
    R : Point → Valued → Type 0
    R = AtFilled l n h (lv ms).names (items_onto ts (lv ms).tree) start

    step : (q : Point) (x : Valued) → AtFilled l n h (lv ms).names (lv ms).tree slots q x → SameBy R (one q) (one (record { tree = items_onto us x.tree; names = x.names; state = x.state }))
    step _ _ (at_filled e' more r u a' further f) =
        same-one R _ _ (at_filled e' more r (items_onto us u) a' (extends-then start slots more extends further) (items-filled more ts us (lv ms).tree u (all-filled-more slots more further ts us fs) f))

pub onto-value : (b : Builtins) (l m : Level) (h : ℕ) (vs : Values) (v : Value) (lvs : SlotNames → SlotValues) (lv : SlotNames → SlotValue) → SameParts b l m h vs lvs → SameFilled b l m h v lv →
    SameFilled b l m h (made_onto items_onto vs v) (λ ns. value_onto (lvs ns) (lv (lvs ns).names))
onto-value b l m h vs v lvs lv are is = record {
  grows = λ ns. grows-then ns _ _ (are.grows ns) (is.grows (lvs ns).names);
  same = λ n ns e slots s a room.
      let ms : SlotNames = (lvs ns).names in
      let ks : SlotNames = (lv ms).names in
      let ts : Trees = trees_of (lvs ns).trees in
      subst (λ (t : Trace Point). SameBy (AtFilled l n h ks (items_onto ts (lv ms).tree) slots) t (made_onto items_onto vs v m (place e s))) (sym (runs-append b (lvs ns).goals (lv ms).goals (point l slots s)))
      (same-then (AllAtFilled l n h ms ts slots) (AtFilled l n h ks (items_onto ts (lv ms).tree) slots) _ _ (runs b (lv ms).goals) _
      (are.same n ns e slots s a (omega (arith, room, grows-length ms ks (is.grows ms)))) (onto-answer b l m h v lv is n ms ts slots room));
}
