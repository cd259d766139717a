-- Heads over names match where their patterns match over slots, and then they stand for the same.
use Rattle.std.proofs.Common.{◌≡◌, ℕ, suc, ◌≤◌, ◌<◌, ◌⊎◌, inl, inr, Bool, true, false, cond, List, [], ◌∷◌, length, refl, sym, ◌∙◌, ap, subst, arith, length-append, nat_lt}
use Rattle.std.specs.Prelude.{Option, Some, None, option_and_then, slice_set, IsSome, is_some, map, codes}
use Rattle.std.specs.Char.{encode_utf8}
use Rattle.std.specs.Str.{bytes_eq, chars}
use Rattle.std.specs.Ordering.{is_eq}
use Rattle.std.specs.Bool.{Decides}
use Rattle.std.proofs.lemmas.Bool.{cond-true, cases_eq}
use Rattle.std.proofs.lemmas.Bool.Decides.{Decides-ltb, same_from_decides}
use Rattle.std.proofs.lemmas.List.{get_or-set_same}
use Rattle.std.proofs.lemmas.Slice.Eq.{bytes_eq-Decides}
use Rattle.pi_terms.specs.Tree.{Tree, Trees, tree, no_trees, comp}
use Rattle.pi_terms.specs.ListNames.{nil, cell_name}
use Rattle.pi_terms.specs.Places.{Places, held}
use Rattle.pi_terms.specs.Order.{name_order, identical}
use Rattle.pi_terms.specs.PatternTree.{PatternTree, exact_atom, compound, PatternTrees, no_patterns, pattern}
use Rattle.pi_constraints.specs.Value.{Bindings, value}
use Rattle.pi_constraints.specs.State.{followed}
use Rattle.pi_constraints.specs.HeadMatch.{taken_in, filled_in, compound_in, matched_in, matched_all_in}
use Rattle.pi_constraints.proofs.MatchLemmas.{same_name, name_itself}
use Rattle.pi_syntax.specs.PrintTerm.{array_name}
use Rattle.pi_effects.specs.Items.{list_onto as list_before, list_of, cell_parts}
use Rattle.pi_syntax.specs.ExpTree.{ExpTree, var, int, atom, str, list, list_onto, array, call, quote, range, range_by, at, ExpTrees, no_exps, exp}
use Rattle.pi_meaning.specs.OverNames.Environment.{Environment, known, with_name, name_matched}
use Rattle.pi_meaning.specs.OverNames.Heads.{Matching, compound_matched, one_before, no_more, cell_matched, atom_matched, characters_matched, pattern_matched, patterns_matched, items_matched}
use Rattle.pi_rewrite_spec.specs.Slots.{SlotNames, slot_known, slot_or_next, slots_with, slot_for, slots_for}
use Rattle.pi_rewrite_spec.specs.Values.{cells_onto, exact_term, slot_pattern, slot_patterns}
use Rattle.pi_rewrite_spec.specs.Forms.{IsPattern, ArePatterns}
use Rattle.pi_rewrite_spec.proofs.AgreeLemmas.{Room, Grows, grows-none, grows-then, grows-length, grows-for, Agrees, agrees-known, set-other}
use Rattle.pi_rewrite_spec.proofs.NewNameLemmas.{new-empty, agrees-new}
use Rattle.pi_rewrite_spec.proofs.TermLemmas.{name-room}

-- names are the same in their order exactly where they are the same texts
pub text_by_order : (a b : List ℕ) → is_eq (name_order a b) ≡ bytes_eq a b
text_by_order a b = same_from_decides (is_eq (name_order a b)) (bytes_eq a b) (by_order a b) (bytes_eq-Decides a b)
  where
    by_order : (a b : List ℕ) → Decides (is_eq (name_order a b)) (a ≡ b)
    by_order a b = (λ h. same_name a b h, λ e. rw e (name_itself b))

text_turned : (a b : List ℕ) → bytes_eq a b ≡ bytes_eq b a
text_turned a b = same_from_decides (bytes_eq a b) (bytes_eq b a) (bytes_eq-Decides a b) (turned (bytes_eq-Decides b a))
  where
    turned : Decides (bytes_eq b a) (b ≡ a) → Decides (bytes_eq b a) (a ≡ b)
    turned d = (λ h. sym (d.0 h), λ e. d.1 (sym e))

-- all slots so far are filled
abbrev pub AllFirm : Room → SlotNames → Environment → Places → Type 0
AllFirm n ns e slots = Agrees n (length ns) ns e slots

-- both match, or neither
pub data Both (n : Room) (ns : SlotNames) : Option Places → Option Environment → Type 0 where
  neither : Both n ns None None
  both_match : (e : Environment) (slots : Places) → AllFirm n ns e slots → Both n ns (Some slots) (Some e)

both-by : (b : Bool) (n : Room) (ns : SlotNames) (o : Option Places) (p : Option Environment) → Both n ns o p → Both n ns (cond b o None) (cond b p None)
both-by true n ns o p is = is
both-by false n ns o p is = neither

-- what follows where both match
both-then : (n : Room) (ns ms : SlotNames) (f : Places → Option Places) (g : Environment → Option Environment) → ((e : Environment) (slots : Places) → AllFirm n ns e slots → Both n ms (f slots) (g e)) →
    (o : Option Places) (p : Option Environment) → Both n ns o p → Both n ms (option_and_then f o) (option_and_then g p)
both-then n ns ms f g each _ _ neither = neither
both-then n ns ms f g each _ _ (both_match e slots a) = each e slots a

-- ---- a name

firm-new : (n : Room) (ns : SlotNames) (e : Environment) (slots : Places) → AllFirm n ns e slots → (name : List ℕ) (t : Tree) → known name e ≡ None → slot_for name ns < n.slots →
    AllFirm n (slots_for name ns) (with_name e name t) (slice_set slots (slot_for name ns) (Some t))
firm-new n ns e slots a name t new room =
    let r : Agrees n (length ns) (slots_for name ns) (with_name e name t) (slice_set slots (slot_for name ns) (Some t)) = agrees-new n (length ns) ns e slots a name t new room in
    record { long = r.long; names = r.names; empty = r.empty; fixed = r.fixed; firm = λ k less. firm k less (cases_eq k (slot_for name ns)) }
  where
    fits : slot_for name ns < length slots
    fits = subst (λ (m : ℕ). slot_for name ns < m) (sym a.long) room

    below : (k : ℕ) → k < length (slots_for name ns) → (k ≡ slot_for name ns → ⊥) → (o : Option ℕ) → slot_known name ns ≡ o → k < length ns
    below k less apart None is =
        let long : length (slots_for name ns) ≡ suc (length ns) = ap (λ (q : Option ℕ). length (slots_with q name ns)) is ∙ (length-append ns (name ∷ []) ∙ omega arith) in
        let last : slot_for name ns ≡ length ns = ap (λ (q : Option ℕ). slot_or_next q ns) is in
        not-last k less long (λ same. apart (same ∙ sym last))
      where
        not-last : (k : ℕ) → k < length (slots_for name ns) → length (slots_for name ns) ≡ suc (length ns) → (k ≡ length ns → ⊥) → k < length ns
        not-last k less long apart = go (cases_eq k (length ns))
          where
            go : (k ≡ length ns) ⊎ (k ≡ length ns → ⊥) → k < length ns
            go (inl same) = absurd (apart same)
            go (inr other) = omega (arith, less, long, other)
    below k less apart (Some j) is =
        let long : length (slots_for name ns) ≡ length ns = ap (λ (q : Option ℕ). length (slots_with q name ns)) is in
        omega (arith, less, long)

    firm : (k : ℕ) → k < length (slots_for name ns) → (k ≡ slot_for name ns) ⊎ (k ≡ slot_for name ns → ⊥) → IsSome (held (slice_set slots (slot_for name ns) (Some t)) k)
    firm k less (inl same) =
        subst (λ (j : ℕ). IsSome (held (slice_set slots (slot_for name ns) (Some t)) j)) (sym same) (ap is_some (get_or-set_same slots (slot_for name ns) (Some t) None fits))
    firm k less (inr apart) =
        subst (λ (o : Option Tree). IsSome o) (sym (set-other slots (slot_for name ns) (Some t) k apart)) (a.firm k (below k less apart (slot_known name ns) refl))

pub name-both : (b : Bindings) (n : Room) (ns : SlotNames) (e : Environment) (slots : Places) → AllFirm n ns e slots → (name : List ℕ) (t : Tree) → length (slots_for name ns) ≤ n.slots →
    Both n (slots_for name ns) (filled_in b (slot_for name ns) t slots) (name_matched b (known name e) name t e)
name-both b n ns e slots a name t room = go (known name e) refl
  where
    k : ℕ
    k = slot_for name ns

    fits : nat_lt k (length slots) ≡ true
    fits = (Decides-ltb k (length slots)).1 (subst (λ (m : ℕ). k < m) (sym a.long) (name-room name ns n.slots room))

    -- a name that is known has a slot
    at : (u : Tree) (o : Option ℕ) → option_and_then (held slots) o ≡ Some u → (held slots (slot_or_next o ns) ≡ Some u) × (slots_with o name ns ≡ ns)
    at u None h = absurd cc
    at u (Some j) h = (h, refl)

    go : (o : Option Tree) → known name e ≡ o → Both n (slots_for name ns) (filled_in b k t slots) (name_matched b o name t e)
    go (Some u) is =
        let there : (held slots k ≡ Some u) × (slots_for name ns ≡ ns) = at u (slot_known name ns) (sym (agrees-known n (length ns) ns e slots a name) ∙ is) in
        subst (λ (o : Option Tree). Both n (slots_for name ns) (taken_in b o slots k t) (name_matched b (Some u) name t e)) (sym there.0)
        (subst (λ (ms : SlotNames). Both n ms (cond (identical (value b u) (value b t)) (Some slots) None) (cond (identical (value b u) (value b t)) (Some e) None)) (sym there.1)
        (both-by (identical (value b u) (value b t)) n ns (Some slots) (Some e) (both_match e slots a)))
    go None is =
        subst (λ (o : Option Tree). Both n (slots_for name ns) (taken_in b o slots k t) (Some (with_name e name t))) (sym (new-empty n (length ns) ns e slots a name is))
        (subst (λ (o : Option Places). Both n (slots_for name ns) o (Some (with_name e name t))) (sym (cond-true (nat_lt k (length slots)) (Some (slice_set slots k (Some t))) None fits))
        (both_match (with_name e name t) (slice_set slots k (Some t)) (firm-new n ns e slots a name t is (name-room name ns n.slots room))))

-- ---- slots are only added

mutual
  unfolding slot_pattern

  pub pattern-grows : (e : ExpTree) (ns : SlotNames) → Grows ns (slot_pattern e ns).names
  pattern-grows (var name) ns = grows-for name ns
  pattern-grows (list es) ns = patterns-grow es ns
  pattern-grows (list_onto es e) ns = grows-then ns _ _ (patterns-grow es ns) (pattern-grows e (slot_patterns es ns).names)
  pattern-grows (array es) ns = patterns-grow es ns
  pattern-grows (call name es) ns = patterns-grow es ns
  pattern-grows (quote e) ns = pattern-grows e ns
  pattern-grows (range first last) ns = grows-then ns _ _ (pattern-grows first ns) (pattern-grows last (slot_pattern first ns).names)
  pattern-grows (range_by first step last) ns =
      let ms : SlotNames = (slot_pattern first ns).names in
      grows-then ns _ _ (pattern-grows first ns) (grows-then ms _ _ (pattern-grows step ms) (pattern-grows last (slot_pattern step ms).names))
  pattern-grows (at name e) ns = grows-then ns _ _ (grows-for name ns) (pattern-grows e (slots_for name ns))
  pattern-grows e ns = grows-none ns

  pub patterns-grow : (es : ExpTrees) (ns : SlotNames) → Grows ns (slot_patterns es ns).names
  patterns-grow no_exps ns = grows-none ns
  patterns-grow (exp e es) ns = grows-then ns _ _ (pattern-grows e ns) (patterns-grow es (slot_pattern e ns).names)

-- ---- structures

-- what a pattern, and what several, match at a place of the text
abbrev Matches : Bindings → Room → SlotNames → SlotNames → PatternTree → Matching → Type 0
Matches b n ns ms p m = (e : Environment) (slots : Places) → AllFirm n ns e slots → (t : Tree) → Both n ms (matched_in b p t slots) (m t e)

abbrev MatchAll : Bindings → Room → SlotNames → SlotNames → PatternTrees → (Trees → Environment → Option Environment) → Type 0
MatchAll b n ns ms ps m = (e : Environment) (slots : Places) → AllFirm n ns e slots → (ts : Trees) → Both n ms (matched_all_in b ps ts slots) (m ts e)

none-match : (b : Bindings) (n : Room) (ns : SlotNames) → MatchAll b n ns ns no_patterns no_more
unfolding matched_in
none-match b n ns e slots a no_trees = both_match e slots a
none-match b n ns e slots a (tree t ts) = neither

front-match : (b : Bindings) (n : Room) (ns ms ks : SlotNames) (p : PatternTree) (ps : PatternTrees) (m : Matching) (ms' : Trees → Environment → Option Environment) → Matches b n ns ms p m → MatchAll b n ms ks ps ms' →
    MatchAll b n ns ks (pattern p ps) (one_before m ms')
unfolding matched_in
front-match b n ns ms ks p ps m ms' first rest e slots a no_trees = neither
front-match b n ns ms ks p ps m ms' first rest e slots a (tree t ts) =
    both-then n ms ks (matched_all_in b ps ts) (ms' ts) (λ e' slots' a'. rest e' slots' a' ts) _ _ (first e slots a t)

structure-match : (b : Bindings) (n : Room) (ns ms : SlotNames) (name : List ℕ) (ps : PatternTrees) (m : Trees → Environment → Option Environment) → MatchAll b n ns ms ps m →
    Matches b n ns ms (compound name ps) (λ t e. compound_matched name m (followed b t) e)
unfolding matched_in
structure-match b n ns ms name ps m all e slots a t = go (followed b t)
  where
    go : (u : Tree) → Both n ms (compound_in (λ ts. matched_all_in b ps ts slots) name u) (compound_matched name m u e)
    go (Tree.var k) = neither
    go (Tree.int k) = neither
    go (Tree.atom f) = neither
    go (comp f ts) =
        subst (λ (c : Bool). Both n ms (cond c (matched_all_in b ps ts slots) None) (cond (bytes_eq name f) (m ts e) None)) (sym (text_by_order name f)) (both-by (bytes_eq name f) n ms _ _ (all e slots a ts))

-- a list cell
nothing-then : {A : Type 0} (o : Option A) → option_and_then {T = A} {U = Places} (λ x. None) o ≡ None
nothing-then None = refl
nothing-then (Some x) = refl

nothing-behind : (f : Places → Option Places) (o : Option Places) → option_and_then (λ s. option_and_then {T = Places} {U = Places} (λ x. None) (f s)) o ≡ None
nothing-behind f None = refl
nothing-behind f (Some s) = nothing-then (f s)

neither-by : (c : Bool) (n : Room) (ns : SlotNames) (o : Option Places) → o ≡ None → Both n ns (cond c o None) None
neither-by true n ns o is = subst (λ (x : Option Places). Both n ns x None) (sym is) neither
neither-by false n ns o is = neither

last-match : (n : Room) (ns : SlotNames) (o : Option Places) (p : Option Environment) → Both n ns o p → Both n ns (option_and_then (λ s. Some s) o) p
last-match n ns _ _ neither = neither
last-match n ns _ _ (both_match e slots a) = both_match e slots a

cell-match : (b : Bindings) (n : Room) (ns ms ks : SlotNames) (p q : PatternTree) (m r : Matching) → Matches b n ns ms p m → Matches b n ms ks q r →
    Matches b n ns ks (compound cell_name (pattern p (pattern q no_patterns))) (λ t e. cell_matched m r (cell_parts (followed b t)) e)
unfolding matched_in
cell-match b n ns ms ks p q m r first rest e slots a t = go (followed b t)
  where
    two : (c : Bool) (x y : Tree) → Both n ks (cond c (option_and_then (matched_all_in b (pattern q no_patterns) (tree y no_trees)) (matched_in b p x slots)) None) (cell_matched m r (cond c (Some (x, y)) None) e)
    two true x y =
        both-then n ms ks (matched_all_in b (pattern q no_patterns) (tree y no_trees)) (r y) (λ e' slots' a'. last-match n ks _ _ (rest e' slots' a' y)) _ _ (first e slots a x)
    two false x y = neither

    go : (u : Tree) → Both n ks (compound_in (λ ts. matched_all_in b (pattern p (pattern q no_patterns)) ts slots) cell_name u) (cell_matched m r (cell_parts u) e)
    go (Tree.var k) = neither
    go (Tree.int k) = neither
    go (Tree.atom f) = neither
    go (comp f no_trees) = neither-by (is_eq (name_order cell_name f)) n ks None refl
    go (comp f (tree x no_trees)) = neither-by (is_eq (name_order cell_name f)) n ks _ (nothing-then (matched_in b p x slots))
    go (comp f (tree x (tree y no_trees))) =
        subst (λ (c : Bool). Both n ks (cond c (option_and_then (matched_all_in b (pattern q no_patterns) (tree y no_trees)) (matched_in b p x slots)) None) (cell_matched m r (cond (bytes_eq f cell_name) (Some (x, y)) None) e))
        (sym (text_by_order cell_name f ∙ text_turned cell_name f)) (two (bytes_eq f cell_name) x y)
    go (comp f (tree x (tree y (tree z ts)))) = neither-by (is_eq (name_order cell_name f)) n ks _ (nothing-behind (λ s. matched_in b q y s) (matched_in b p x slots))

-- ---- texts

atom-match : (b : Bindings) (n : Room) (ns : SlotNames) (name : List ℕ) → Matches b n ns ns (exact_atom name) (atom_matched b name)
unfolding matched_in
atom-match b n ns name = λ e slots a t. both-by (identical (Tree.atom name) (followed b t)) n ns (Some slots) (Some e) (both_match e slots a)

-- the list of a text's characters, cell by cell
text-match : (b : Bindings) (n : Room) (ns : SlotNames) (cs : List ℕ) → Matches b n ns ns (exact_term (list_of (map (λ c. Tree.atom (encode_utf8 c)) cs))) (characters_matched b cs)
unfolding exact_term list_before characters_matched
text-match b n ns [] = atom-match b n ns nil
text-match b n ns (c ∷ cs) =
    cell-match b n ns ns ns (exact_atom (encode_utf8 c)) (exact_term (list_of (map (λ x. Tree.atom (encode_utf8 x)) cs))) (atom_matched b (encode_utf8 c)) (characters_matched b cs) (atom-match b n ns (encode_utf8 c)) (text-match b n ns cs)

-- ---- patterns

mutual
  unfolding slot_pattern pattern_matched matched_in IsPattern cells_onto

  pub pattern-match : (b : Bindings) (n : Room) (p : ExpTree) → IsPattern p → (ns : SlotNames) → length (slot_pattern p ns).names ≤ n.slots → Matches b n ns (slot_pattern p ns).names (slot_pattern p ns).form (pattern_matched b p)
  pattern-match b n (var name) is ns room = λ e slots a t. name-both b n ns e slots a name t room
  pattern-match b n (int k) is ns room = λ e slots a t. both-by (identical (Tree.int k) (followed b t)) n ns (Some slots) (Some e) (both_match e slots a)
  pattern-match b n (atom name) is ns room = atom-match b n ns name
  pattern-match b n (str text) is ns room = text-match b n ns (chars text)
  pattern-match b n (list ps) is ns room =
      items-match b n ps is ns (slot_patterns ps ns).names (exact_atom nil) (atom_matched b nil) room (atom-match b n (slot_patterns ps ns).names nil)
  pattern-match b n (list_onto ps p) is ns room =
      let ms : SlotNames = (slot_patterns ps ns).names in
      items-match b n ps is.0 ns (slot_pattern p ms).names (slot_pattern p ms).form (pattern_matched b p) (omega (arith, room, grows-length ms _ (pattern-grows p ms))) (pattern-match b n p is.1 ms room)
  pattern-match b n (array ps) is ns room = structure-match b n ns (slot_patterns ps ns).names array_name (slot_patterns ps ns).forms (patterns_matched b ps) (patterns-match b n ps is ns room)
  pattern-match b n (call name ps) is ns room = structure-match b n ns (slot_patterns ps ns).names name (slot_patterns ps ns).forms (patterns_matched b ps) (patterns-match b n ps is ns room)
  pattern-match b n (quote p) is ns room = pattern-match b n p is ns room
  pattern-match b n (range first last) is ns room =
      let ms : SlotNames = (slot_pattern first ns).names in
      let ks : SlotNames = (slot_pattern last ms).names in
      let f : PatternTree = (slot_pattern first ns).form in
      let g : PatternTree = (slot_pattern last ms).form in
      structure-match b n ns ks (codes "..") (pattern f (pattern g no_patterns)) (one_before (pattern_matched b first) (one_before (pattern_matched b last) no_more))
      (front-match b n ns ms ks f (pattern g no_patterns) (pattern_matched b first) (one_before (pattern_matched b last) no_more) (pattern-match b n first is.0 ns (omega (arith, room, grows-length ms ks (pattern-grows last ms))))
      (front-match b n ms ks ks g no_patterns (pattern_matched b last) no_more (pattern-match b n last is.1 ms room) (none-match b n ks)))
  pattern-match b n (range_by first step last) is ns room =
      let ms : SlotNames = (slot_pattern first ns).names in
      let ks : SlotNames = (slot_pattern step ms).names in
      let js : SlotNames = (slot_pattern last ks).names in
      let room-k : length ks ≤ n.slots = omega (arith, room, grows-length ks js (pattern-grows last ks)) in
      let f : PatternTree = (slot_pattern first ns).form in
      let g : PatternTree = (slot_pattern step ms).form in
      let i : PatternTree = (slot_pattern last ks).form in
      structure-match b n ns js (codes "..") (pattern f (pattern g (pattern i no_patterns))) (one_before (pattern_matched b first) (one_before (pattern_matched b step) (one_before (pattern_matched b last) no_more)))
      (front-match b n ns ms js f (pattern g (pattern i no_patterns)) (pattern_matched b first) (one_before (pattern_matched b step) (one_before (pattern_matched b last) no_more))
      (pattern-match b n first is.0 ns (omega (arith, room-k, grows-length ms ks (pattern-grows step ms))))
      (front-match b n ms ks js g (pattern i no_patterns) (pattern_matched b step) (one_before (pattern_matched b last) no_more) (pattern-match b n step is.1 ms room-k)
      (front-match b n ks js js i no_patterns (pattern_matched b last) no_more (pattern-match b n last is.2 ks room) (none-match b n js))))
  pattern-match b n (at name p) is ns room =
      λ e slots a t. let ms : SlotNames = slots_for name ns in
      let ks : SlotNames = (slot_pattern p ms).names in
      both-then n ms ks (λ s. matched_in b (slot_pattern p ms).form t s) (λ f. pattern_matched b p t f) (λ e' slots' a'. pattern-match b n p is ms room e' slots' a' t) _ _
      (name-both b n ns e slots a name t (omega (arith, room, grows-length ms ks (pattern-grows p ms))))
  pattern-match b n p is ns room = λ e slots a t. absurd is

  pub patterns-match : (b : Bindings) (n : Room) (ps : ExpTrees) → ArePatterns ps → (ns : SlotNames) → length (slot_patterns ps ns).names ≤ n.slots → MatchAll b n ns (slot_patterns ps ns).names (slot_patterns ps ns).forms (patterns_matched b ps)
  patterns-match b n no_exps is ns room = none-match b n ns
  patterns-match b n (exp p ps) is ns room =
      let ms : SlotNames = (slot_pattern p ns).names in
      front-match b n ns ms (slot_patterns ps ms).names (slot_pattern p ns).form (slot_patterns ps ms).forms (pattern_matched b p) (patterns_matched b ps) (pattern-match b n p is.0 ns (omega (arith, room, grows-length ms _ (patterns-grow ps ms)))) (patterns-match b n ps is.1 ms room)

  items-match : (b : Bindings) (n : Room) (ps : ExpTrees) → ArePatterns ps → (ns ks : SlotNames) (rest : PatternTree) (r : Matching) → length (slot_patterns ps ns).names ≤ n.slots → Matches b n (slot_patterns ps ns).names ks rest r →
      Matches b n ns ks (cells_onto (slot_patterns ps ns).forms rest) (items_matched b ps r)
  items-match b n no_exps is ns ks rest r room last = last
  items-match b n (exp p ps) is ns ks rest r room last =
      let ms : SlotNames = (slot_pattern p ns).names in
      cell-match b n ns ms ks (slot_pattern p ns).form (cells_onto (slot_patterns ps ms).forms rest) (pattern_matched b p) (items_matched b ps r) (pattern-match b n p is.0 ns (omega (arith, room, grows-length ms _ (patterns-grow ps ms))))
      (items-match b n ps is.1 ms ks rest r room last)
