-- Values and goals, put behind those that stand before.
use Rattle.std.proofs.Common.{◌≡◌, ℕ, List, [], ◌∷◌, ◌++◌, length, refl, sym, ◌∙◌, ap, append_assoc}
use Rattle.std.proofs.lemmas.List.{append-nil}
use Rattle.pi_terms.specs.Tree.{Tree, Trees, trees_of}
use Rattle.pi_core.specs.GoalTree.{GoalTree}
use Rattle.pi_syntax.specs.ExpTree.{ExpTree}
use Rattle.pi_meaning.specs.OverNames.Terms.{items_onto}
use Rattle.pi_rewrite_spec.specs.Slots.{SlotNames, with_value}
use Rattle.pi_rewrite_spec.specs.Values.{SlotValue, SlotValues, applied, slotted, Slotted, no_values, before_values, value_of_parts, value_onto}
use Rattle.pi_effects.specs.Indexing.{index_name}
use Rattle.pi_effects.specs.Inner.{itself_name}
use Rattle.pi_rewrite_spec.specs.Sites.{Site}
use Rattle.pi_rewrite_spec.specs.Written.{made}
use Rattle.pi_rewrite_spec.specs.Goals.{SlotGoals, in_turn, no_value, indexed, found_by, all_found, all_counted}
use Rattle.pi_rewrite_loops.specs.Parts.{IsValue, AreValues, AreGoals, IsAlone, IsSlotted}
use Rattle.pi_rewrite_goals.specs.Lowering.{value_of}
use Rattle.pi_rewrite_goals.specs.Calls.{collected_of, counted_of}

-- ---- the same by another name

pub value-as : (v w : SlotValue) (old new : List GoalTree) (t : Tree) (m : SlotNames) → v ≡ w → IsValue w old new t m → IsValue v old new t m
value-as v w old new t m e r = record {
  goals = r.goals ∙ sym (ap (λ x. old ++ x.goals) e);
  tree = r.tree ∙ sym (ap (λ x. x.tree) e);
  names = r.names ∙ sym (ap (λ x. x.names) e);
}

pub values-as : (v w : SlotValues) (old new : List GoalTree) (ts : List Tree) (m : SlotNames) → v ≡ w → AreValues w old new ts m → AreValues v old new ts m
values-as v w old new ts m e r = record {
  goals = r.goals ∙ sym (ap (λ x. old ++ x.goals) e);
  trees = r.trees ∙ sym (ap (λ x. x.trees) e);
  names = r.names ∙ sym (ap (λ x. x.names) e);
}

pub goals-as : (g h : SlotGoals) (old new : List GoalTree) (m : SlotNames) → g ≡ h → AreGoals h old new m → AreGoals g old new m
goals-as g h old new m e r = record {
  goals = r.goals ∙ sym (ap (λ x. old ++ x.goals) e);
  names = r.names ∙ sym (ap (λ x. x.names) e);
}

-- ---- terms of values

pub put-none : (v : SlotValue) (ns : SlotNames) (old new : List GoalTree) (t : Tree) (m : SlotNames) → v ≡ no_value ns → new ≡ old ++ GoalTree.fail ∷ [] → t ≡ Tree.atom [] → m ≡ ns → IsValue v old new t m
put-none v ns old new t m is put shape same = value-as v (no_value ns) old new t m is (record { goals = put; tree = shape; names = same })

pub put-parts : (v : SlotValue) (make : Trees → Tree) (vs : SlotValues) (old new : List GoalTree) (ts : List Tree) (t : Tree) (m : SlotNames) → v ≡ value_of_parts make vs → AreValues vs old new ts m → t ≡ make (trees_of ts) → IsValue v old new t m
put-parts v make vs old new ts t m is all made =
    value-as v (value_of_parts make vs) old new t m is (record { goals = all.goals; tree = made ∙ ap (λ us. make (trees_of us)) all.trees; names = all.names })

pub put-onto : (v : SlotValue) (vs : SlotValues) (w : SlotValue) (old mid new : List GoalTree) (ts : List Tree) (u t : Tree) (m n : SlotNames) → v ≡ value_onto vs w → AreValues vs old mid ts m → IsValue w mid new u n → t ≡ items_onto (trees_of ts) u → IsValue v old new t n
put-onto v vs w old mid new ts u t m n is all rest made =
    value-as v (value_onto vs w) old new t n is
    (record {
      goals = rest.goals ∙ (ap (λ gs. gs ++ w.goals) all.goals ∙ append_assoc old vs.goals w.goals);
      tree = made ∙ (ap (λ us. items_onto (trees_of us) u) all.trees ∙ ap (λ x. items_onto (trees_of vs.trees) x) rest.tree);
      names = rest.names;
    })

-- ---- functions' values

one_behind : (old mid new gs : List GoalTree) (g g' : GoalTree) → mid ≡ old ++ gs → new ≡ mid ++ g ∷ [] → g ≡ g' → new ≡ old ++ (gs ++ g' ∷ [])
one_behind old mid new gs g g' before put same = put ∙ (ap (λ hs. hs ++ g ∷ []) before ∙ (append_assoc old gs (g ∷ []) ∙ ap (λ (x : GoalTree). old ++ (gs ++ x ∷ [])) same))

pub put-applied : (name : List ℕ) (vs : SlotValues) (old mid new : List GoalTree) (ts : List Tree) (t : Tree) (m n : SlotNames) → AreValues vs old mid ts m → IsValue (applied name (record { goals = []; trees = ts; names = m })) mid new t n → IsValue (applied name vs) old new t n
put-applied name vs old mid new ts t m n all is = record {
  goals = one_behind old mid new vs.goals (GoalTree.apply name ts (length m)) (GoalTree.apply name vs.trees (length vs.names)) all.goals is.goals
      (ap (λ us. GoalTree.apply name us (length m)) all.trees ∙ ap (λ (ms : SlotNames). GoalTree.apply name vs.trees (length ms)) all.names);
  tree = is.tree ∙ ap (λ (ms : SlotNames). Tree.var (length ms)) all.names;
  names = is.names ∙ ap with_value all.names;
}

pub is-applied : (name label : List ℕ) (ts : List Tree) (k : ℕ) (ns : SlotNames) (old new : List GoalTree) (t : Tree) (m : SlotNames) → k ≡ length ns → m ≡ with_value ns → new ≡ old ++ GoalTree.apply name ts k ∷ [] → t ≡ Tree.var k →
    IsValue (applied name (record { goals = []; trees = ts; names = ns })) old new t m
is-applied name label ts k ns old new t m slot names put made = record {
  goals = put ∙ ap (λ (n : ℕ). old ++ GoalTree.apply name ts n ∷ []) slot;
  tree = made ∙ ap Tree.var slot;
  names = names;
}

pub two-values : (a b : SlotValue) (old mid new : List GoalTree) (t u : Tree) (m n : SlotNames) → IsValue a old mid t m → IsValue b mid new u n → AreValues (before_values a (before_values b (no_values b.names))) old new (t ∷ u ∷ []) n
two-values a b old mid new t u m n first second = record {
  goals = second.goals ∙ (ap (λ gs. gs ++ b.goals) first.goals ∙ (append_assoc old a.goals b.goals ∙ ap (λ gs. old ++ (a.goals ++ gs)) (sym (append-nil b.goals))));
  trees = ap (λ (x : Tree). x ∷ u ∷ []) first.tree ∙ ap (λ (x : Tree). a.tree ∷ x ∷ []) second.tree;
  names = second.names;
}

pub three-values : (a b c : SlotValue) (old one two new : List GoalTree) (t u w : Tree) (m n k : SlotNames) → IsValue a old one t m → IsValue b one two u n → IsValue c two new w k →
    AreValues (before_values a (before_values b (before_values c (no_values c.names)))) old new (t ∷ u ∷ w ∷ []) k
three-values a b c old one two new t u w m n k first second third =
    let rest : AreValues (before_values b (before_values c (no_values c.names))) one new (u ∷ w ∷ []) k = two-values b c one two new u w n k second third in
    record {
      goals = rest.goals ∙ (ap (λ gs. gs ++ (b.goals ++ (c.goals ++ []))) first.goals ∙ append_assoc old a.goals (b.goals ++ (c.goals ++ [])));
      trees = ap (λ (x : Tree). x ∷ u ∷ w ∷ []) first.tree ∙ ap (λ (xs : List Tree). a.tree ∷ xs) rest.trees;
      names = rest.names;
    }

pub put-indexed : (s : Site) (e : ExpTree) (v : SlotValue) (old one two new : List GoalTree) (t u w : Tree) (m n k : SlotNames) → IsValue v old one t m → IsValue (value_of s e m) one two u n →
    IsValue (applied index_name (record { goals = []; trees = t ∷ u ∷ []; names = n })) two new w k → IsValue (indexed v (λ ns. value_of s e ns)) old new w k
put-indexed s e v old one two new t u w m n k whole place is =
    let here : IsValue (value_of s e v.names) one two u n = value-as (value_of s e v.names) (value_of s e m) one two u n (ap (λ ns. value_of s e ns) (sym whole.names)) place in
    put-applied index_name (before_values v (before_values (value_of s e v.names) (no_values (value_of s e v.names).names))) old two new (t ∷ u ∷ []) w n k (two-values v (value_of s e v.names) old one two t u m n whole here) is

-- ---- a value that stands in a slot

slotted-onto : (gs : List GoalTree) (t : Tree) (ns : SlotNames) → slotted gs t ns ≡ record { goals = gs ++ (slotted [] t ns).goals; place = (slotted [] t ns).place; names = (slotted [] t ns).names }
slotted-onto gs (Tree.var k) ns = ap (λ hs. record { goals = hs; place = k; names = ns }) (sym (append-nil gs))
slotted-onto gs (Tree.int n) ns = refl
slotted-onto gs (Tree.atom name) ns = refl
slotted-onto gs (Tree.comp name ts) ns = refl

pub slotted-var : (t : Tree) (n k : ℕ) (ns : SlotNames) (old : List GoalTree) → t ≡ Tree.var n → k ≡ n → IsSlotted (slotted [] t ns) old old k ns
slotted-var t n k ns old is same = record {
  goals = sym (ap (λ u. old ++ (slotted [] u ns).goals) is ∙ append-nil old);
  slot = same ∙ sym (ap (λ u. (slotted [] u ns).place) is);
  names = sym (ap (λ u. (slotted [] u ns).names) is);
}

abbrev slotted_new : Tree → SlotNames → Slotted
slotted_new t ns = record { goals = GoalTree.apply itself_name (t ∷ []) (length ns) ∷ []; place = length ns; names = with_value ns }

slotted-as : (t : Tree) (k : ℕ) (ns m : SlotNames) (old new : List GoalTree) → slotted [] t ns ≡ slotted_new t ns → k ≡ length ns → new ≡ old ++ GoalTree.apply itself_name (t ∷ []) (length ns) ∷ [] → m ≡ with_value ns →
    IsSlotted (slotted [] t ns) old new k m
slotted-as t k ns m old new is slot put names = record {
  goals = put ∙ sym (ap (λ s. old ++ s.goals) is);
  slot = slot ∙ sym (ap (λ s. s.place) is);
  names = names ∙ sym (ap (λ s. s.names) is);
}

pub slotted-int : (t : Tree) (n : _) (k : ℕ) (ns m : SlotNames) (old new : List GoalTree) → t ≡ Tree.int n → k ≡ length ns → new ≡ old ++ GoalTree.apply itself_name (t ∷ []) (length ns) ∷ [] → m ≡ with_value ns →
    IsSlotted (slotted [] t ns) old new k m
slotted-int t n k ns m old new is slot put names = slotted-as t k ns m old new (ap (λ u. slotted [] u ns) is ∙ sym (ap (λ u. slotted_new u ns) is)) slot put names

pub slotted-atom : (t : Tree) (name : List ℕ) (k : ℕ) (ns m : SlotNames) (old new : List GoalTree) → t ≡ Tree.atom name → k ≡ length ns → new ≡ old ++ GoalTree.apply itself_name (t ∷ []) (length ns) ∷ [] → m ≡ with_value ns →
    IsSlotted (slotted [] t ns) old new k m
slotted-atom t name k ns m old new is slot put names = slotted-as t k ns m old new (ap (λ u. slotted [] u ns) is ∙ sym (ap (λ u. slotted_new u ns) is)) slot put names

pub slotted-comp : (t : Tree) (name : List ℕ) (ts : Trees) (k : ℕ) (ns m : SlotNames) (old new : List GoalTree) → t ≡ Tree.comp name ts → k ≡ length ns → new ≡ old ++ GoalTree.apply itself_name (t ∷ []) (length ns) ∷ [] → m ≡ with_value ns →
    IsSlotted (slotted [] t ns) old new k m
slotted-comp t name ts k ns m old new is slot put names = slotted-as t k ns m old new (ap (λ u. slotted [] u ns) is ∙ sym (ap (λ u. slotted_new u ns) is)) slot put names

-- ---- calls with a goal in them

pub is-collected : (inner three : List GoalTree) (t : Tree) (goal : GoalTree) (place into : ℕ) (old new : List GoalTree) (term : Tree) (b c d : SlotNames) → IsSlotted (slotted [] t b) inner three place c → goal ≡ in_turn three → into ≡ length c → d ≡ with_value c →
    new ≡ old ++ GoalTree.collect goal place into ∷ [] → term ≡ Tree.var into → IsValue (collected_of inner t b) old new term d
is-collected inner three t goal place into old new term b c d slot turn count names put made =
    let s : Slotted = slotted [] t b in
    let into-is : into ≡ length s.names = count ∙ ap (λ (ms : SlotNames). length ms) slot.names in
    record {
      goals = put
          ∙ (ap (λ (x : GoalTree). old ++ GoalTree.collect x place into ∷ []) (turn ∙ ap in_turn slot.goals)
          ∙ (ap (λ (p : ℕ). old ++ GoalTree.collect (in_turn (inner ++ s.goals)) p into ∷ []) slot.slot
          ∙ ap (λ (i : ℕ). old ++ GoalTree.collect (in_turn (inner ++ s.goals)) s.place i ∷ []) into-is));
      tree = made ∙ ap Tree.var into-is;
      names = names ∙ ap with_value slot.names;
    }

found-is : (g : SlotGoals) (w : SlotValue) (one : List GoalTree) (two : List GoalTree) (t : Tree) (b : SlotNames) → two ≡ g.goals ++ w.goals → t ≡ w.tree → b ≡ w.names → all_found g.names g.goals (slotted w.goals w.tree w.names) ≡ collected_of two t b
found-is g w one two t b all shape names =
    ap (λ (s : Slotted). all_found g.names g.goals s) (slotted-onto w.goals w.tree w.names)
    ∙ (ap (λ (gs : List GoalTree). record { goals = GoalTree.collect (in_turn gs) (slotted [] w.tree w.names).place (length (slotted [] w.tree w.names).names) ∷ []; tree = Tree.var (length (slotted [] w.tree w.names).names); names = with_value (slotted [] w.tree w.names).names }) (sym (append_assoc g.goals w.goals (slotted [] w.tree w.names).goals))
    ∙ (ap (λ (gs : List GoalTree). collected_of gs w.tree w.names) (sym all) ∙ (ap (λ (u : Tree). collected_of two u w.names) (sym shape) ∙ ap (λ (ms : SlotNames). collected_of two t ms) (sym names))))

pub put-found : (x : SlotValue) (g : SlotGoals) (v : SlotNames → SlotValue) (none one two : List GoalTree) (t : Tree) (old new : List GoalTree) (term : Tree) (a b d : SlotNames) → x ≡ found_by g v → none ≡ [] → AreGoals g none one a → IsValue (v a) one two t b →
    IsValue (collected_of two t b) old new term d → IsValue x old new term d
put-found x g v none one two t old new term a b d is empty first value put =
    let w : SlotValue = v g.names in
    let there : IsValue w one two t b = value-as w (v a) one two t b (ap v (sym first.names)) value in
    value-as x (collected_of two t b) old new term d
    (is ∙ found-is g w one two t b (there.goals ∙ ap (λ gs. gs ++ w.goals) (first.goals ∙ ap (λ gs. gs ++ g.goals) empty)) there.tree there.names) put

pub is-counted : (goal made : GoalTree) (into : ℕ) (old new : List GoalTree) (term : Tree) (c d : SlotNames) → into ≡ length c → d ≡ with_value c → made ≡ GoalTree.count goal into → new ≡ old ++ made ∷ [] → term ≡ Tree.var into → IsValue (counted_of goal c) old new term d
is-counted goal made into old new term c d count names by put var-is = record {
  goals = put ∙ ap (λ (x : GoalTree). old ++ x ∷ []) (by ∙ ap (λ (i : ℕ). GoalTree.count goal i) count);
  tree = var-is ∙ ap Tree.var count;
  names = names;
}

pub put-counted : (x : SlotValue) (g : SlotGoals) (goal : GoalTree) (old new : List GoalTree) (term : Tree) (c d : SlotNames) → x ≡ all_counted g → IsAlone g goal c → IsValue (counted_of goal c) old new term d → IsValue x old new term d
put-counted x g goal old new term c d is alone put =
    value-as x (counted_of goal c) old new term d
    (is ∙ (ap (λ (ms : SlotNames). counted_of (in_turn g.goals) ms) (sym alone.names) ∙ ap (λ (y : GoalTree). counted_of y c) (sym alone.goal))) put
