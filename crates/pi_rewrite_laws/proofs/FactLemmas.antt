-- Facts do the same over slots as over names: a head comes to the same terms, with the same new variables.
use Rattle.std.proofs.Common.{◌≡◌, ℕ, ◌≤◌, List, [], ◌∷◌, length, map, refl, sym, ◌∙◌, ap, subst, arith}
use Rattle.std.specs.Prelude.{Option, Some, None, option_map, option_and_then, replicate, codes, ⊤}
use Rattle.std.specs.Str.{chars}
use Rattle.std.specs.Char.{encode_utf8}
use Rattle.pi_terms.specs.Tree.{Tree, Trees, no_trees, comp}
use Rattle.pi_terms.specs.ListNames.{nil, cell_name}
use Rattle.pi_terms.specs.ListCopies.{list_cell}
use Rattle.pi_terms.specs.Places.{Places}
use Rattle.pi_terms.specs.PatternTree.{PatternTree, exact_atom}
use Rattle.pi_constraints.specs.State.{State}
use Rattle.pi_constraints.specs.Unify.{unified}
use Rattle.pi_constraints.specs.Evaluation.{Evaluated, EvaluatedAll, evaluated}
use Rattle.pi_syntax.specs.PrintTerm.{array_name}
use Rattle.pi_effects.specs.Items.{list_onto, list_of}
use Rattle.pi_effects.specs.Texts.{text_list}
use Rattle.pi_syntax.specs.ExpTree.{ExpTree, var, int, atom, str, list, list_onto as listed_onto, array, call, quote, range, range_by, at, ExpTrees, no_exps, exp}
use Rattle.pi_traces.specs.Trace.{alt}
use Rattle.pi_meaning.specs.Shared.Settle.{settled_from}
use Rattle.pi_meaning.specs.OverNames.Environment.{Environment, known, Valued, ValuedAll, name_valued}
use Rattle.pi_meaning.specs.OverNames.WrittenRules.{head_arguments}
use Rattle.pi_meaning.specs.CoreMeaning.Facts as over_slots
use Rattle.pi_meaning.specs.CoreMeaning.Facts.{with_name, in_front, fact_term, fact_terms, facts}
use Rattle.pi_meaning.specs.OverNames.Terms as over_names
use Rattle.pi_meaning.specs.OverNames.Terms.{items_onto, made, with_front, nothing_behind, list_made, written_term, written_terms}
use Rattle.pi_meaning.specs.OverNames.Rules as names_rules
use Rattle.pi_meaning.specs.OverNames.Rules.{facts_called}
use Rattle.pi_rewrite_spec.specs.Slots.{SlotNames, slot_for, slots_for}
use Rattle.pi_rewrite_spec.specs.Values.{exact_term, cells_onto, slot_pattern, slot_patterns}
use Rattle.pi_rewrite_spec.specs.Forms.{IsPattern, ArePatterns}
use Rattle.pi_rewrite_spec.specs.Clauses.{head_forms, head_slots, lowered_fact}
use Rattle.pi_rewrite_spec.proofs.FilledLemmas.{term_at, terms_at}
use Rattle.pi_rewrite_spec.proofs.AgreeLemmas.{Room, free_room, grows-length, Agrees}
use Rattle.pi_rewrite_spec.proofs.NewNameLemmas.{agrees-nothing}
use Rattle.pi_rewrite_spec.proofs.TermLemmas.{Comes, name-comes}
use Rattle.pi_rewrite_laws.proofs.HeadLemmas.{pattern-grows, patterns-grow}

-- a term of a head over slots and over names: none in both, or one in one state
pub data TermSame (n : Room) (ns : SlotNames) : Option Evaluated → Option Valued → Type 0 where
  no_term : TermSame n ns None None
  one_term : (x : Valued) (slots : Places) → Agrees n 0 ns x.names slots → TermSame n ns (Some (term_at x.tree slots x.state)) (Some x)

pub data TermsSame (n : Room) (ns : SlotNames) : Option EvaluatedAll → Option ValuedAll → Type 0 where
  no_terms : TermsSame n ns None None
  all_terms : (x : ValuedAll) (slots : Places) → Agrees n 0 ns x.names slots → TermsSame n ns (Some (terms_at x.trees slots x.state)) (Some x)

-- where slots and names agree, what two say of a place is the same
abbrev TermsBehind : Room → SlotNames → SlotNames → (Places → State → Option EvaluatedAll) → (Environment → State → Option ValuedAll) → Type 0
TermsBehind n ns ms f g = (e : Environment) (slots : Places) (s : State) → Agrees n 0 ns e slots → TermsSame n ms (f slots s) (g e s)

abbrev TermBehind : Room → SlotNames → SlotNames → (Places → State → Option Evaluated) → (Environment → State → Option Valued) → Type 0
TermBehind n ns ms f g = (e : Environment) (slots : Places) (s : State) → Agrees n 0 ns e slots → TermSame n ms (f slots s) (g e s)

-- ---- names and constants

name-same : (n : Room) (ns : SlotNames) (name : List ℕ) → length (slots_for name ns) ≤ n.slots → TermBehind n ns (slots_for name ns) (λ slots s. Some (evaluated (Tree.var (slot_for name ns)) slots s)) (λ e s. Some (name_valued (known name e) name e s))
name-same n ns name room e slots s a =
    let c : Comes n 0 (slots_for name ns) (Tree.var (slot_for name ns)) slots s (name_valued (known name e) name e s) = name-comes n 0 ns e slots s a name room in
    subst (λ (y : Evaluated). TermSame n (slots_for name ns) (Some y) (Some (name_valued (known name e) name e s))) (sym c.comes) (one_term (name_valued (known name e) name e s) c.after c.agrees)

text-comes : (cs : List ℕ) (slots : Places) (s : State) →
    fact_term (exact_term (list_of (map (λ c. Tree.atom (encode_utf8 c)) cs))) slots s ≡ Some (term_at (list_of (map (λ c. Tree.atom (encode_utf8 c)) cs)) slots s)
unfolding exact_term list_onto fact_term
text-comes [] slots s = refl
text-comes (c ∷ cs) slots s =
    ap (λ (o : Option Evaluated). option_map (with_name cell_name) (option_map (in_front (term_at (Tree.atom (encode_utf8 c)) slots s)) (option_and_then (λ last. Some (in_front last (terms_at no_trees last.slots last.state))) o))) (text-comes cs slots s)

-- ---- structures

front-mapped : (n : Room) (ns : SlotNames) (x : Valued) (slots : Places) (o : Option EvaluatedAll) (p : Option ValuedAll) → TermsSame n ns o p → TermsSame n ns (option_map (in_front (term_at x.tree slots x.state)) o) (option_map (with_front x) p)
front-mapped n ns x slots _ _ no_terms = no_terms
front-mapped n ns x slots _ _ (all_terms y after a) = all_terms (with_front x y) after a

-- one, and those behind it
front-same : (n : Room) (ns ms : SlotNames) (f : Places → State → Option EvaluatedAll) (g : Environment → State → Option ValuedAll) → TermsBehind n ns ms f g → (o : Option Evaluated) (p : Option Valued) → TermSame n ns o p →
    TermsSame n ms (option_and_then (λ first. option_map (in_front first) (f first.slots first.state)) o) (option_and_then (λ first. option_map (with_front first) (g first.names first.state)) p)
front-same n ns ms f g rest _ _ no_term = no_terms
front-same n ns ms f g rest _ _ (one_term x slots a) = front-mapped n ms x slots (f slots x.state) (g x.names x.state) (rest x.names slots x.state a)

structure-same : (n : Room) (ns : SlotNames) (name : List ℕ) (o : Option EvaluatedAll) (p : Option ValuedAll) → TermsSame n ns o p → TermSame n ns (option_map (with_name name) o) (option_map (made (comp name)) p)
structure-same n ns name _ _ no_terms = no_term
structure-same n ns name _ _ (all_terms x slots a) = one_term (made (comp name) x) slots a

-- bounds of a range
abbrev last_alone : Evaluated → Option EvaluatedAll
last_alone y = Some (in_front y (terms_at no_trees y.slots y.state))

range-same : (n : Room) (ns ms : SlotNames) (f : Places → State → Option Evaluated) (g : Environment → State → Option Valued) → TermBehind n ns ms f g → (o : Option Evaluated) (p : Option Valued) → TermSame n ns o p →
    TermsSame n ms (option_and_then (λ x. option_map (in_front x) (option_and_then last_alone (f x.slots x.state))) o)
    (option_and_then (λ x. option_and_then (λ y. Some (with_front x (with_front y (nothing_behind y)))) (g x.names x.state)) p)
range-same n ns ms f g rest _ _ no_term = no_terms
range-same n ns ms f g rest _ _ (one_term x slots a) = go (f slots x.state) (g x.names x.state) (rest x.names slots x.state a)
  where
    go : (o : Option Evaluated) (p : Option Valued) → TermSame n ms o p →
        TermsSame n ms (option_map (in_front (term_at x.tree slots x.state)) (option_and_then last_alone o)) (option_and_then (λ y. Some (with_front x (with_front y (nothing_behind y)))) p)
    go _ _ no_term = no_terms
    go _ _ (one_term y after b) = all_terms (with_front x (with_front y (nothing_behind y))) after b

steps-same : (n : Room) (ns ms ks : SlotNames) (f h : Places → State → Option Evaluated) (g i : Environment → State → Option Valued) → TermBehind n ns ms f g → TermBehind n ms ks h i → (o : Option Evaluated) (p : Option Valued) → TermSame n ns o p →
    TermsSame n ks (option_and_then (λ x. option_map (in_front x) (option_and_then (λ y. option_map (in_front y) (option_and_then last_alone (h y.slots y.state))) (f x.slots x.state))) o)
    (option_and_then (λ x. option_and_then (λ y. option_and_then (λ z. Some (with_front x (with_front y (with_front z (nothing_behind z))))) (i y.names y.state)) (g x.names x.state)) p)
steps-same n ns ms ks f h g i rest last _ _ no_term = no_terms
steps-same n ns ms ks f h g i rest last _ _ (one_term x slots a) = go (f slots x.state) (g x.names x.state) (rest x.names slots x.state a)
  where
    go : (o : Option Evaluated) (p : Option Valued) → TermSame n ms o p →
        TermsSame n ks (option_map (in_front (term_at x.tree slots x.state)) (option_and_then (λ y. option_map (in_front y) (option_and_then last_alone (h y.slots y.state))) o))
        (option_and_then (λ y. option_and_then (λ z. Some (with_front x (with_front y (with_front z (nothing_behind z))))) (i y.names y.state)) p)
    go _ _ no_term = no_terms
    go _ _ (one_term y after b) = third (h after y.state) (i y.names y.state) (last y.names after y.state b)
      where
        third : (o : Option Evaluated) (p : Option Valued) → TermSame n ks o p →
            TermsSame n ks (option_map (in_front (term_at x.tree slots x.state)) (option_map (in_front (term_at y.tree after y.state)) (option_and_then last_alone o)))
            (option_and_then (λ z. Some (with_front x (with_front y (with_front z (nothing_behind z))))) p)
        third _ _ no_term = no_terms
        third _ _ (one_term z end c) = all_terms (with_front x (with_front y (with_front z (nothing_behind z)))) end c

-- ---- lists

cell_before : Valued → Valued → Valued
cell_before x z = record { tree = list_cell x.tree z.tree; names = z.names; state = z.state }

nothing-onto : (e : Environment) (s : State) (o : Option Valued) → o ≡ option_map (list_made (record { trees = no_trees; names = e; state = s })) o
unfolding items_onto
nothing-onto e s None = refl
nothing-onto e s (Some x) = refl

item-onto : (x : Valued) (r : Environment → State → Option Valued) (o : Option ValuedAll) →
    option_map (cell_before x) (option_and_then (λ all. option_map (list_made all) (r all.names all.state)) o) ≡ option_and_then (λ all. option_map (list_made all) (r all.names all.state)) (option_map (with_front x) o)
unfolding items_onto cell_before
item-onto x r None = refl
item-onto x r (Some all) = go (r all.names all.state)
  where
    go : (o : Option Valued) → option_map (cell_before x) (option_map (list_made all) o) ≡ option_map (list_made (with_front x all)) o
    go None = refl
    go (Some z) = refl

cell-same : (n : Room) (ns : SlotNames) (x : Valued) (slots : Places) (o : Option Evaluated) (p : Option Valued) → TermSame n ns o p →
    TermSame n ns (option_map (with_name cell_name) (option_map (in_front (term_at x.tree slots x.state)) (option_and_then last_alone o))) (option_map (cell_before x) p)
unfolding cell_before
cell-same n ns x slots _ _ no_term = no_term
cell-same n ns x slots _ _ (one_term z after a) = one_term (record { tree = list_cell x.tree z.tree; names = z.names; state = z.state }) after a

-- an item, and those behind it
first-item : (n : Room) (ns ks : SlotNames) (f : Places → State → Option Evaluated) (g : Environment → State → Option ValuedAll) (r : Environment → State → Option Valued) →
    TermBehind n ns ks f (λ e s. option_and_then (λ all. option_map (list_made all) (r all.names all.state)) (g e s)) → (o : Option Evaluated) (p : Option Valued) → TermSame n ns o p →
    TermSame n ks (option_map (with_name cell_name) (option_and_then (λ x. option_map (in_front x) (option_and_then last_alone (f x.slots x.state))) o))
    (option_and_then (λ all. option_map (list_made all) (r all.names all.state)) (option_and_then (λ x. option_map (with_front x) (g x.names x.state)) p))
first-item n ns ks f g r rest _ _ no_term = no_term
first-item n ns ks f g r rest _ _ (one_term x slots a) =
    subst (TermSame n ks (option_map (with_name cell_name) (option_map (in_front (term_at x.tree slots x.state)) (option_and_then last_alone (f slots x.state))))) (item-onto x r (g x.names x.state))
    (cell-same n ks x slots _ _ (rest x.names slots x.state a))

-- ---- `V@P`

named-same : (n : Room) (ns : SlotNames) (x : Valued) (slots : Places) (o : Option Evaluated) (p : Option Valued) → TermSame n ns o p →
    TermSame n ns (option_and_then (over_slots.also_named (term_at x.tree slots x.state)) o) (option_and_then (over_names.also_named x) p)
named-same n ns x slots _ _ no_term = no_term
named-same n ns x slots _ _ (one_term z after a) = go (unified z.state x.tree z.tree)
  where
    go : (o : Option State) → TermSame n ns (option_map (λ s. record { tree = x.tree; slots = after; state = s }) o) (option_map (λ s. record { tree = x.tree; names = z.names; state = s }) o)
    go None = no_term
    go (Some s) = one_term (record { tree = x.tree; names = z.names; state = s }) after a

-- ---- heads

mutual
  unfolding slot_pattern fact_term written_term IsPattern cells_onto evaluated

  pub term-same : (p : ExpTree) → IsPattern p → (n : Room) (ns : SlotNames) → length (slot_pattern p ns).names ≤ n.slots → TermBehind n ns (slot_pattern p ns).names (fact_term (slot_pattern p ns).form) (written_term p)
  term-same (var name) is n ns room e slots s a = name-same n ns name room e slots s a
  term-same (int k) is n ns room e slots s a = one_term (over_names.constant (Tree.int k) e s) slots a
  term-same (atom name) is n ns room e slots s a = one_term (over_names.constant (Tree.atom name) e s) slots a
  term-same (str text) is n ns room e slots s a =
      subst (λ (o : Option Evaluated). TermSame n ns o (Some (over_names.constant (text_list text) e s))) (sym (text-comes (chars text) slots s)) (one_term (over_names.constant (text_list text) e s) slots a)
  term-same (list ps) is n ns room e slots s a =
      items-same ps is n ns (slot_patterns ps ns).names room (exact_atom nil) (λ f t. Some (over_names.constant (Tree.atom nil) f t)) (λ f rest t b. one_term (over_names.constant (Tree.atom nil) f t) rest b) e slots s a
  term-same (listed_onto ps p) is n ns room e slots s a =
      let ms : SlotNames = (slot_patterns ps ns).names in
      items-same ps is.0 n ns (slot_pattern p ms).names (omega (arith, room, grows-length ms _ (pattern-grows p ms))) (slot_pattern p ms).form (written_term p) (term-same p is.1 n ms room) e slots s a
  term-same (array ps) is n ns room e slots s a = structure-same n (slot_patterns ps ns).names array_name _ _ (terms-same ps is n ns room e slots s a)
  term-same (call name ps) is n ns room e slots s a = structure-same n (slot_patterns ps ns).names name _ _ (terms-same ps is n ns room e slots s a)
  term-same (quote p) is n ns room e slots s a = term-same p is n ns room e slots s a
  term-same (range first last) is n ns room e slots s a =
      let ms : SlotNames = (slot_pattern first ns).names in
      let ks : SlotNames = (slot_pattern last ms).names in
      structure-same n ks (codes "..") _ _
      (range-same n ms ks (fact_term (slot_pattern last ms).form) (written_term last) (term-same last is.1 n ms room) _ _ (term-same first is.0 n ns (omega (arith, room, grows-length ms ks (pattern-grows last ms))) e slots s a))
  term-same (range_by first step last) is n ns room e slots s a =
      let ms : SlotNames = (slot_pattern first ns).names in
      let ks : SlotNames = (slot_pattern step ms).names in
      let js : SlotNames = (slot_pattern last ks).names in
      let room-k : length ks ≤ n.slots = omega (arith, room, grows-length ks js (pattern-grows last ks)) in
      structure-same n js (codes "..") _ _
      (steps-same n ms ks js (fact_term (slot_pattern step ms).form) (fact_term (slot_pattern last ks).form) (written_term step) (written_term last) (term-same step is.1 n ms room-k) (term-same last is.2 n ks room) _ _
      (term-same first is.0 n ns (omega (arith, room-k, grows-length ms ks (pattern-grows step ms))) e slots s a))
  term-same (at name p) is n ns room e slots s a =
      let ms : SlotNames = slots_for name ns in
      let ks : SlotNames = (slot_pattern p ms).names in
      let x : Valued = name_valued (known name e) name e s in
      let c : Comes n 0 ms (Tree.var (slot_for name ns)) slots s x = name-comes n 0 ns e slots s a name (omega (arith, room, grows-length ms ks (pattern-grows p ms))) in
      subst (λ (y : Evaluated). TermSame n ks (option_and_then (over_slots.also_named y) (fact_term (slot_pattern p ms).form y.slots y.state)) (option_and_then (over_names.also_named x) (written_term p x.names x.state))) (sym c.comes)
      (named-same n ks x c.after _ _ (term-same p is n ms room x.names c.after x.state c.agrees))
  term-same p is n ns room e slots s a = absurd is

  pub terms-same : (ps : ExpTrees) → ArePatterns ps → (n : Room) (ns : SlotNames) → length (slot_patterns ps ns).names ≤ n.slots → TermsBehind n ns (slot_patterns ps ns).names (fact_terms (slot_patterns ps ns).forms) (written_terms ps)
  terms-same no_exps is n ns room e slots s a = all_terms (record { trees = no_trees; names = e; state = s }) slots a
  terms-same (exp p ps) is n ns room e slots s a =
      let ms : SlotNames = (slot_pattern p ns).names in
      front-same n ms (slot_patterns ps ms).names (fact_terms (slot_patterns ps ms).forms) (written_terms ps) (terms-same ps is.1 n ms room) _ _
      (term-same p is.0 n ns (omega (arith, room, grows-length ms _ (patterns-grow ps ms))) e slots s a)

  items-same : (ps : ExpTrees) → ArePatterns ps → (n : Room) (ns ks : SlotNames) → length (slot_patterns ps ns).names ≤ n.slots → (rest : PatternTree) (r : Environment → State → Option Valued) →
      TermBehind n (slot_patterns ps ns).names ks (fact_term rest) r →
      TermBehind n ns ks (fact_term (cells_onto (slot_patterns ps ns).forms rest)) (λ e s. option_and_then (λ all. option_map (list_made all) (r all.names all.state)) (written_terms ps e s))
  items-same no_exps is n ns ks room rest r last e slots s a = subst (TermSame n ks (fact_term rest slots s)) (nothing-onto e s (r e s)) (last e slots s a)
  items-same (exp p ps) is n ns ks room rest r last e slots s a =
      let ms : SlotNames = (slot_pattern p ns).names in
      first-item n ms ks (fact_term (cells_onto (slot_patterns ps ms).forms rest)) (written_terms ps) r (items-same ps is.1 n ms ks room rest r last) _ _ (term-same p is.0 n ns (omega (arith, room, grows-length ms _ (patterns-grow ps ms))) e slots s a)

-- ---- facts

unified-same : (n : Room) (ns : SlotNames) (ts : Trees) (o : Option EvaluatedAll) (p : Option ValuedAll) → TermsSame n ns o p → option_and_then (over_slots.unified_with ts) o ≡ option_and_then (names_rules.unified_with ts) p
unified-same n ns ts _ _ no_terms = refl
unified-same n ns ts _ _ (all_terms x slots a) = refl

abbrev pub EachFact : List ExpTree → Type 0
EachFact [] = ⊤
EachFact (head ∷ heads) = ArePatterns (head_arguments head) × EachFact heads

-- one after the other
pub facts-same : (heads : List ExpTree) → EachFact heads → (ts : Trees) (s : State) → facts (map lowered_fact heads) ts s ≡ facts_called heads ts s
unfolding facts facts_called lowered_fact
facts-same [] each ts s = refl
facts-same (head ∷ heads) each ts s =
    let n : ℕ = head_slots head in
    ap (λ (o : Option State). alt (settled_from s o) (facts (map lowered_fact heads) ts s))
    (unified-same (free_room n) (head_forms head).names ts _ _ (terms-same (head_arguments head) each.0 (free_room n) [] (omega arith) [] (replicate n None) s (agrees-nothing n)))
    ∙ ap (alt (settled_from s (option_and_then (names_rules.unified_with ts) (written_terms (head_arguments head) [] s)))) (facts-same heads each.1 ts s)
