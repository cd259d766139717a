-- Terms as they are written come to the same over names and over slots.
use Rattle.std.proofs.Common.{◌≡◌, ℕ, suc, ◌≤◌, ◌<◌, List, [], ◌∷◌, length, refl, sym, ◌∙◌, ap, subst, arith, length-append}
use Rattle.std.specs.Prelude.{Option, Some, None, option_map, option_and_then, slice_set, codes}
use Rattle.std.specs.Str.{chars}
use Rattle.std.specs.Char.{encode_utf8}
use Rattle.std.proofs.lemmas.List.{get_or-set_same}
use Rattle.pi_terms.specs.Tree.{Tree, Trees, no_trees, tree, trees_of, comp}
use Rattle.pi_terms.specs.ListNames.{nil}
use Rattle.pi_terms.specs.Places.{Places, held}
use Rattle.pi_constraints.specs.State.{State, next}
use Rattle.pi_constraints.specs.Evaluation.{Evaluated, EvaluatedAll, slot_term as slot_comes, evaluated, evaluated_all}
use Rattle.pi_syntax.specs.PrintTerm.{array_name}
use Rattle.pi_effects.specs.Texts.{text_list}
use Rattle.pi_syntax.specs.ExpTree.{ExpTree, var, int, atom, str, list, list_onto, array, call, quote, range, range_by, ExpTrees, no_exps, exp}
use Rattle.pi_meaning.specs.OverNames.Environment.{Environment, known, Valued, ValuedAll, name_valued}
use Rattle.pi_meaning.specs.OverNames.Terms.{items_onto, constant, made, with_front, nothing_behind, written_term, written_terms}
use Rattle.pi_rewrite_spec.specs.Slots.{SlotNames, slot_known, slot_or_next, slots_with, slot_for, slots_for}
use Rattle.pi_rewrite_spec.specs.Values.{SlotTerm, SlotTerms, slot_term, slot_terms}
use Rattle.pi_rewrite_spec.specs.Forms.{IsTerm, AreTerms}
use Rattle.pi_rewrite_spec.proofs.FilledLemmas.{Filled, in_slot, is_int, is_atom, is_comp, AllFilled, none_filled, one_filled, Extends, extends-none, extends-then, set-keeps, filled-more, all-filled-more, term_at, terms_at, in_front_of, filled-comes, items-filled, atoms-filled, onto_evaluated, items-evaluated}
use Rattle.pi_rewrite_spec.proofs.AgreeLemmas.{Room, Grows, grows-none, grows-then, grows-length, grows-for, Agrees, agrees-known, agrees-more, slot-below}
use Rattle.pi_rewrite_spec.proofs.NewNameLemmas.{from_known, new-empty, agrees-new}

-- what a term over slots comes to, against what it comes to over names
pub record Comes (n : Room) (h : ℕ) (ns : SlotNames) (t : Tree) (slots : Places) (s : State) (x : Valued) : Type 0 where
  pub after : Places
  pub comes : evaluated t slots s ≡ term_at x.tree after x.state
  pub agrees : Agrees n h ns x.names after
  pub extends : Extends slots after
  pub filled : Filled after t x.tree

pub record ComesAll (n : Room) (h : ℕ) (ns : SlotNames) (ts : Trees) (slots : Places) (s : State) (x : ValuedAll) : Type 0 where
  pub after : Places
  pub comes : evaluated_all ts slots s ≡ terms_at x.trees after x.state
  pub agrees : Agrees n h ns x.names after
  pub extends : Extends slots after
  pub filled : AllFilled after ts x.trees

-- the same of a term that may be none over names
pub record ComesTo (n : Room) (h : ℕ) (t : SlotTerm) (slots : Places) (s : State) (o : Option Valued) : Type 0 where
  pub value : Valued
  pub there : o ≡ Some value
  pub comes : Comes n h t.names t.tree slots s value

pub record ComeTo (n : Room) (h : ℕ) (ts : SlotTerms) (slots : Places) (s : State) (o : Option ValuedAll) : Type 0 where
  pub values : ValuedAll
  pub there : o ≡ Some values
  pub comes : ComesAll n h ts.names (trees_of ts.trees) slots s values

-- ---- slots are only added

mutual
  unfolding slot_term

  pub term-grows : (e : ExpTree) (ns : SlotNames) → Grows ns (slot_term e ns).names
  term-grows (var name) ns = grows-for name ns
  term-grows (list es) ns = terms-grow es ns
  term-grows (list_onto es e) ns = grows-then ns _ _ (terms-grow es ns) (term-grows e (slot_terms es ns).names)
  term-grows (array es) ns = terms-grow es ns
  term-grows (call name es) ns = terms-grow es ns
  term-grows (quote e) ns = term-grows e ns
  term-grows (range first last) ns = grows-then ns _ _ (term-grows first ns) (term-grows last (slot_term first ns).names)
  term-grows (range_by first step last) ns =
      let two : SlotTerm = slot_term step (slot_term first ns).names in
      grows-then ns _ _ (term-grows first ns) (grows-then (slot_term first ns).names _ _ (term-grows step (slot_term first ns).names) (term-grows last two.names))
  term-grows e ns = grows-none ns

  pub terms-grow : (es : ExpTrees) (ns : SlotNames) → Grows ns (slot_terms es ns).names
  terms-grow no_exps ns = grows-none ns
  terms-grow (exp e es) ns = grows-then ns _ _ (term-grows e ns) (terms-grow es (slot_term e ns).names)

-- ---- a term

-- a name
pub name-room : (name : List ℕ) (ns : SlotNames) (n : ℕ) → length (slots_for name ns) ≤ n → slot_for name ns < n
name-room name ns n room = go (slot_known name ns) refl
  where
    go : (o : Option ℕ) → slot_known name ns ≡ o → slot_for name ns < n
    go None e =
        let long : length (slots_for name ns) ≡ suc (length ns) = ap (λ (q : Option ℕ). length (slots_with q name ns)) e ∙ (length-append ns (name ∷ []) ∙ omega arith) in
        let last : slot_for name ns ≡ length ns = ap (λ (q : Option ℕ). slot_or_next q ns) e in
        omega (arith, room, long, last)
    go (Some j) e =
        let long : length (slots_for name ns) ≡ length ns = ap (λ (q : Option ℕ). length (slots_with q name ns)) e in
        let it : slot_for name ns ≡ j = ap (λ (q : Option ℕ). slot_or_next q ns) e in
        omega (arith, room, long, it, slot-below name ns j (from_known _ _ j e))

pub name-comes : (n : Room) (h : ℕ) (ns : SlotNames) (e : Environment) (slots : Places) (s : State) → Agrees n h ns e slots → (name : List ℕ) → length (slots_for name ns) ≤ n.slots →
    Comes n h (slots_for name ns) (Tree.var (slot_for name ns)) slots s (name_valued (known name e) name e s)
unfolding evaluated
name-comes n h ns e slots s a name room = go (known name e) refl
  where
    k : ℕ
    k = slot_for name ns

    at : (t : Tree) (o : Option ℕ) → option_and_then (held slots) o ≡ Some t → held slots (slot_or_next o ns) ≡ Some t
    at t None e = absurd cc
    at t (Some j) e = e

    there : (t : Tree) → known name e ≡ Some t → held slots k ≡ Some t
    there t is = at t (slot_known name ns) (sym (agrees-known n h ns e slots a name) ∙ is)

    go : (o : Option Tree) → known name e ≡ o → Comes n h (slots_for name ns) (Tree.var k) slots s (name_valued (known name e) name e s)
    go (Some t) is = subst (λ (o : Option Tree). Comes n h (slots_for name ns) (Tree.var k) slots s (name_valued o name e s)) (sym is) (record {
      after = slots;
      comes = ap (λ o. slot_comes o k slots s) (there t is);
      agrees = agrees-more n h ns (slots_for name ns) e slots (grows-for name ns) a;
      extends = extends-none slots;
      filled = in_slot k t (there t is);
    })
    go None is = subst (λ (o : Option Tree). Comes n h (slots_for name ns) (Tree.var k) slots s (name_valued o name e s)) (sym is) (record {
      after = slice_set slots k (Some (Tree.var (next s)));
      comes = ap (λ o. slot_comes o k slots s) (new-empty n h ns e slots a name is);
      agrees = agrees-new n h ns e slots a name (Tree.var (next s)) is (name-room name ns n.slots room);
      extends = set-keeps slots k (Tree.var (next s)) (new-empty n h ns e slots a name is);
      filled = in_slot k (Tree.var (next s)) (get_or-set_same slots k (Some (Tree.var (next s))) None (subst (λ (m : ℕ). k < m) (sym a.long) (name-room name ns n.slots room)));
    })

-- what holds no variable
pub filled-comes-to : (n : Room) (h : ℕ) (ns : SlotNames) (e : Environment) (slots : Places) (s : State) → Agrees n h ns e slots → (t u : Tree) → Filled slots t u →
    Comes n h ns t slots s (record { tree = u; names = e; state = s })
filled-comes-to n h ns e slots s a t u f = record { after = slots; comes = filled-comes slots t u f s; agrees = a; extends = extends-none slots; filled = f }

constant-to : (n : Room) (h : ℕ) (ns : SlotNames) (e : Environment) (slots : Places) (s : State) → Agrees n h ns e slots → (t : Tree) → Filled slots t t →
    ComesTo n h (record { tree = t; names = ns }) slots s (Some (constant t e s))
constant-to n h ns e slots s a t f = record { value = constant t e s; there = refl; comes = filled-comes-to n h ns e slots s a t t f }

pub nothing-comes : (n : Room) (h : ℕ) (ns : SlotNames) (e : Environment) (slots : Places) (s : State) → Agrees n h ns e slots → ComesAll n h ns no_trees slots s (record { trees = no_trees; names = e; state = s })
unfolding evaluated
nothing-comes n h ns e slots s a = record { after = slots; comes = refl; agrees = a; extends = extends-none slots; filled = none_filled }

-- one, and then those behind it
pub front-comes : (n : Room) (h : ℕ) (ns ms : SlotNames) (t : Tree) (ts : Trees) (slots : Places) (s : State) (x : Valued) (all : ValuedAll) (one : Comes n h ns t slots s x) → ComesAll n h ms ts one.after x.state all →
    ComesAll n h ms (tree t ts) slots s (record { trees = tree x.tree all.trees; names = all.names; state = all.state })
unfolding evaluated
front-comes n h ns ms t ts slots s x all one rest = record {
  after = rest.after;
  comes = ap (λ (y : Evaluated). in_front_of y (evaluated_all ts y.slots y.state)) one.comes ∙ ap (in_front_of (term_at x.tree one.after x.state)) rest.comes;
  agrees = rest.agrees;
  extends = extends-then slots one.after rest.after one.extends rest.extends;
  filled = one_filled (filled-more one.after rest.after rest.extends t x.tree one.filled) rest.filled;
}

-- a structure, and items in front of a term
pub structure-comes : (n : Room) (h : ℕ) (ns : SlotNames) (name : List ℕ) (ts : Trees) (slots : Places) (s : State) (all : ValuedAll) → ComesAll n h ns ts slots s all →
    Comes n h ns (comp name ts) slots s (record { tree = comp name all.trees; names = all.names; state = all.state })
unfolding evaluated
structure-comes n h ns name ts slots s all c = record {
  after = c.after;
  comes = ap (λ (y : EvaluatedAll). term_at (comp name y.trees) y.slots y.state) c.comes;
  agrees = c.agrees;
  extends = c.extends;
  filled = is_comp name c.filled;
}

pub onto-comes : (n : Room) (h : ℕ) (ns ms : SlotNames) (ts : Trees) (t : Tree) (slots : Places) (s : State) (all : ValuedAll) (x : Valued) (c : ComesAll n h ns ts slots s all) → Comes n h ms t c.after all.state x →
    Comes n h ms (items_onto ts t) slots s (record { tree = items_onto all.trees x.tree; names = x.names; state = x.state })
onto-comes n h ns ms ts t slots s all x c d = record {
  after = d.after;
  comes = items-evaluated ts t slots s
      ∙ ap (λ (y : EvaluatedAll). onto_evaluated y (evaluated t y.slots y.state)) c.comes
      ∙ ap (onto_evaluated (terms_at all.trees c.after all.state)) d.comes;
  agrees = d.agrees;
  extends = extends-then slots c.after d.after c.extends d.extends;
  filled = items-filled d.after ts all.trees t x.tree (all-filled-more c.after d.after d.extends ts all.trees c.filled) d.filled;
}

-- a proper list
pub list-comes : (n : Room) (h : ℕ) (ns : SlotNames) (ts : Trees) (slots : Places) (s : State) (all : ValuedAll) → ComesAll n h ns ts slots s all →
    Comes n h ns (items_onto ts (Tree.atom nil)) slots s (record { tree = items_onto all.trees (Tree.atom nil); names = all.names; state = all.state })
list-comes n h ns ts slots s all c =
    onto-comes n h ns ns ts (Tree.atom nil) slots s all (record { tree = Tree.atom nil; names = all.names; state = all.state }) c
    (filled-comes-to n h ns all.names c.after all.state c.agrees (Tree.atom nil) (Tree.atom nil) (is_atom nil))

-- bounds of a range
two-there : (f : Valued → Option Valued) (o : Option Valued) (x y : Valued) → o ≡ Some x → f x ≡ Some y →
    option_map (made (comp (codes ".."))) (option_and_then (λ x. option_and_then (λ y. Some (with_front x (with_front y (nothing_behind y)))) (f x)) o)
    ≡ Some (made (comp (codes "..")) (with_front x (with_front y (nothing_behind y))))
two-there f o x y a b =
    ap (λ (o : Option Valued). option_map (made (comp (codes ".."))) (option_and_then (λ x. option_and_then (λ y. Some (with_front x (with_front y (nothing_behind y)))) (f x)) o)) a
    ∙ ap (λ (o : Option Valued). option_map (made (comp (codes ".."))) (option_and_then (λ y. Some (with_front x (with_front y (nothing_behind y)))) o)) b

three-there : (f g : Valued → Option Valued) (o : Option Valued) (x y z : Valued) → o ≡ Some x → f x ≡ Some y → g y ≡ Some z →
    option_map (made (comp (codes "..")))
    (option_and_then (λ x. option_and_then (λ y. option_and_then (λ z. Some (with_front x (with_front y (with_front z (nothing_behind z))))) (g y)) (f x)) o)
    ≡ Some (made (comp (codes "..")) (with_front x (with_front y (with_front z (nothing_behind z)))))
three-there f g o x y z a b c =
    ap (λ (o : Option Valued). option_map (made (comp (codes ".."))) (option_and_then (λ x. option_and_then (λ y. option_and_then (λ z. Some (with_front x (with_front y (with_front z (nothing_behind z))))) (g y)) (f x)) o)) a
    ∙ ap (λ (o : Option Valued). option_map (made (comp (codes ".."))) (option_and_then (λ y. option_and_then (λ z. Some (with_front x (with_front y (with_front z (nothing_behind z))))) (g y)) o)) b
    ∙ ap (λ (o : Option Valued). option_map (made (comp (codes ".."))) (option_and_then (λ z. Some (with_front x (with_front y (with_front z (nothing_behind z))))) o)) c

mutual
  unfolding slot_term written_term IsTerm

  pub term-comes : (x : ExpTree) → IsTerm x → (n : Room) (h : ℕ) (ns : SlotNames) (e : Environment) (slots : Places) (s : State) → Agrees n h ns e slots → length (slot_term x ns).names ≤ n.slots →
      ComesTo n h (slot_term x ns) slots s (written_term x e s)
  term-comes (var name) is n h ns e slots s a room = record { value = name_valued (known name e) name e s; there = refl; comes = name-comes n h ns e slots s a name room }
  term-comes (int k) is n h ns e slots s a room = constant-to n h ns e slots s a (Tree.int k) (is_int k)
  term-comes (atom name) is n h ns e slots s a room = constant-to n h ns e slots s a (Tree.atom name) (is_atom name)
  term-comes (str text) is n h ns e slots s a room = constant-to n h ns e slots s a (text_list text) (atoms-filled slots encode_utf8 (chars text))
  term-comes (list es) is n h ns e slots s a room =
      let all : ComeTo n h (slot_terms es ns) slots s (written_terms es e s) = terms-come es is n h ns e slots s a room in
      record { value = _; there = ap (option_map _) all.there; comes = list-comes n h (slot_terms es ns).names (trees_of (slot_terms es ns).trees) slots s all.values all.comes }
  term-comes (list_onto es x) is n h ns e slots s a room =
      let ms : SlotNames = (slot_terms es ns).names in
      let all : ComeTo n h (slot_terms es ns) slots s (written_terms es e s) = terms-come es is.0 n h ns e slots s a (omega (arith, room, grows-length ms _ (term-grows x ms))) in
      let last : ComesTo n h (slot_term x ms) all.comes.after all.values.state (written_term x all.values.names all.values.state) =
      term-comes x is.1 n h ms all.values.names all.comes.after all.values.state all.comes.agrees room in
      record {
        value = _;
        there = ap (option_and_then _) all.there ∙ ap (option_map _) last.there;
        comes = onto-comes n h ms (slot_term x ms).names (trees_of (slot_terms es ns).trees) (slot_term x ms).tree slots s all.values last.value all.comes last.comes;
      }
  term-comes (array es) is n h ns e slots s a room =
      let all : ComeTo n h (slot_terms es ns) slots s (written_terms es e s) = terms-come es is n h ns e slots s a room in
      record { value = _; there = ap (option_map _) all.there; comes = structure-comes n h (slot_terms es ns).names array_name (trees_of (slot_terms es ns).trees) slots s all.values all.comes }
  term-comes (call name es) is n h ns e slots s a room =
      let all : ComeTo n h (slot_terms es ns) slots s (written_terms es e s) = terms-come es is n h ns e slots s a room in
      record { value = _; there = ap (option_map _) all.there; comes = structure-comes n h (slot_terms es ns).names name (trees_of (slot_terms es ns).trees) slots s all.values all.comes }
  term-comes (quote x) is n h ns e slots s a room = term-comes x is n h ns e slots s a room
  term-comes (range first last) is n h ns e slots s a room =
      let ms : SlotNames = (slot_term first ns).names in
      let ks : SlotNames = (slot_term last ms).names in
      let one : ComesTo n h (slot_term first ns) slots s (written_term first e s) = term-comes first is.0 n h ns e slots s a (omega (arith, room, grows-length ms _ (term-grows last ms))) in
      let two : ComesTo n h (slot_term last ms) one.comes.after one.value.state (written_term last one.value.names one.value.state) =
      term-comes last is.1 n h ms one.value.names one.comes.after one.value.state one.comes.agrees room in
      let none : ComesAll n h ks no_trees two.comes.after two.value.state (record { trees = no_trees; names = two.value.names; state = two.value.state }) =
      nothing-comes n h ks two.value.names two.comes.after two.value.state two.comes.agrees in
      record {
        value = _;
        there = two-there (λ x. written_term last x.names x.state) (written_term first e s) one.value two.value one.there two.there;
        comes = structure-comes n h ks (codes "..") _ slots s _
            (front-comes n h ms ks _ _ slots s one.value _ one.comes (front-comes n h ks ks _ _ one.comes.after one.value.state two.value _ two.comes none));
      }
  term-comes (range_by first step last) is n h ns e slots s a room =
      let ms : SlotNames = (slot_term first ns).names in
      let ks : SlotNames = (slot_term step ms).names in
      let js : SlotNames = (slot_term last ks).names in
      let one : ComesTo n h (slot_term first ns) slots s (written_term first e s) =
      term-comes first is.0 n h ns e slots s a (omega (arith, room, grows-length ms _ (term-grows step ms), grows-length ks _ (term-grows last ks))) in
      let two : ComesTo n h (slot_term step ms) one.comes.after one.value.state (written_term step one.value.names one.value.state) =
      term-comes step is.1 n h ms one.value.names one.comes.after one.value.state one.comes.agrees (omega (arith, room, grows-length ks _ (term-grows last ks))) in
      let three : ComesTo n h (slot_term last ks) two.comes.after two.value.state (written_term last two.value.names two.value.state) =
      term-comes last is.2 n h ks two.value.names two.comes.after two.value.state two.comes.agrees room in
      let none : ComesAll n h js no_trees three.comes.after three.value.state (record { trees = no_trees; names = three.value.names; state = three.value.state }) =
      nothing-comes n h js three.value.names three.comes.after three.value.state three.comes.agrees in
      record {
        value = _;
        there = three-there (λ x. written_term step x.names x.state) (λ x. written_term last x.names x.state) (written_term first e s) one.value two.value three.value one.there two.there three.there;
        comes = structure-comes n h js (codes "..") _ slots s _
            (front-comes n h ms js _ _ slots s one.value _ one.comes (front-comes n h ks js _ _ one.comes.after one.value.state two.value _ two.comes
            (front-comes n h js js _ _ two.comes.after two.value.state three.value _ three.comes none)));
      }
  term-comes x is n h ns e slots s a room = absurd is

  pub terms-come : (xs : ExpTrees) → AreTerms xs → (n : Room) (h : ℕ) (ns : SlotNames) (e : Environment) (slots : Places) (s : State) → Agrees n h ns e slots → length (slot_terms xs ns).names ≤ n.slots →
      ComeTo n h (slot_terms xs ns) slots s (written_terms xs e s)
  terms-come no_exps is n h ns e slots s a room = record { values = _; there = refl; comes = nothing-comes n h ns e slots s a }
  terms-come (exp x xs) is n h ns e slots s a room =
      let ms : SlotNames = (slot_term x ns).names in
      let one : ComesTo n h (slot_term x ns) slots s (written_term x e s) = term-comes x is.0 n h ns e slots s a (omega (arith, room, grows-length ms _ (terms-grow xs ms))) in
      let rest : ComeTo n h (slot_terms xs ms) one.comes.after one.value.state (written_terms xs one.value.names one.value.state) =
      terms-come xs is.1 n h ms one.value.names one.comes.after one.value.state one.comes.agrees room in
      record {
        values = _;
        there = ap (option_and_then _) one.there ∙ ap (option_map _) rest.there;
        comes = front-comes n h ms (slot_terms xs ms).names _ _ slots s one.value rest.values one.comes rest.comes;
      }
