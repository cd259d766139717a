-- What an expression with a call in it comes to, by its kind.
use Rattle.std.proofs.Common.{◌≡◌, ℕ, ◌+◌, Bool, true, false, List, [], ◌∷◌, ◌&&◌, None, Some, length, get_or, ◌++◌, refl, sym, ◌∙◌, ap}
use Rattle.std.specs.Prelude.{Vec, Option, codes, map, ℤ, IfOk, Result, Ok, Err}
use Rattle.std.proofs.lemmas.Bool.{cond-true, cond-false, true≢false, false≢true}
use Rattle.std.specs.declared.alloc.Global.{Global}
use Rattle.std.specs.declared.boxed.Box.{Box}
use Rattle.pi_terms.specs.Tree.{Tree, trees_of}
use Rattle.pi_terms.specs.ListNames.{nil}
use Rattle.pi_core.specs.GoalTree.{GoalTree}
use Rattle.pi_core.specs.CoreTree.{pred_tree}
use Rattle.pi_core.specs.declared.core_program.CorePred.{CorePred}
use Rattle.pi_syntax.specs.PrintTerm.{array_name}
use Rattle.pi_syntax.specs.ExpTree.{ExpTree, ExpTrees, exp_tree}
use Rattle.pi_syntax.specs.ExpLists.{exps_of}
use Rattle.pi_syntax.specs.Signature.{exp_count}
use Rattle.pi_syntax.specs.declared.exp.Exp as e
use Rattle.pi_syntax.specs.declared.exp.Exp.{Exp}
use Rattle.pi_meaning.specs.OverNames.Terms.{items_onto}
use Rattle.pi_meaning.specs.OverNames.Texts.{places, places_all}
use Rattle.pi_meaning.specs.OverNames.Forms.{Reading, plain, operand, boolean, ranged, operand_readings, is_find_all, is_count_all}
use Rattle.pi_rewrite_spec.specs.Slots.{SlotNames}
use Rattle.pi_rewrite_spec.specs.Values.{stays, is_ranged, is_flat, SlotValue, value_of_parts, value_onto, applied, no_values, before_values}
use Rattle.pi_rewrite_spec.specs.Goals.{no_value, found_by, indexed_by, begins_flat, two_parts, three_parts}
use Rattle.pi_rewrite_spec.specs.Sites.{Site, helpers_in, helpers_in_all, behind_site, behind_exp}
use Rattle.pi_rewrite_spec.specs.Written.{made_as, parts_as, made, parts, arguments, goal_of}
use Rattle.pi_rewrite_spec.specs.Helpers.{value_helpers, all_helpers}
use Rattle.pi_rewrite_slots.proofs.ExpTrees.{if_then-is, if_else-is, list-is, list_onto-is, index-is, range-is, range_by-is}
use Rattle.pi_rewrite_spec.proofs.ReadingLemmas.{third-of}
use Rattle.pi_rewrite_loops.specs.Parts.{IsValue, AreValues, AreGoals, IsAlone}
use Rattle.pi_rewrite_goals.specs.Lowering.{With, GivesAs, so_far, value_of, by_place_as, by_place, values_as, values_of, call_as_value}
use Rattle.pi_rewrite_goals.specs.Shapes.{IsSpan}
use Rattle.pi_rewrite_goals.specs.Calls.{collected_of, counted_of}
use Rattle.pi_rewrite_goals.proofs.ValueLemmas.{value-as, values-as, put-none, put-parts, put-onto, put-applied, two-values, three-values, put-found, put-counted}
use Rattle.pi_rewrite_goals.proofs.PartLemmas.{count-exps, places_in}
use Rattle.pi_rewrite_goals.proofs.HelperLemmas.{behind-both, no-helpers}
use Rattle.pi_rewrite_goals.proofs.CallLemmas.{ball_site, value-collected, value-count, value-apply}

-- ---- what is put together

pub put-made_onto : (s s' : Site) (e : ExpTree) (es : ExpTrees) (y : ExpTree) (ns m n : SlotNames) (old mid new : List GoalTree) (ts us : List Tree) (u t : Tree) → e ≡ ExpTree.list_onto es y → AreValues (values_of true s es ns) old mid ts m →
    s' ≡ behind_site s (places_all es) (helpers_in_all es) → IsValue (by_place false s' y m) mid new u n → us ≡ ts → t ≡ items_onto (trees_of us) u → IsValue (made s e ns) old new t n
unfolding made_as values_as by_place_as
put-made_onto s s' e es y ns m n old mid new ts us u t p all go rest same shape =
    put-onto (made s e ns) (parts s es ns) (by_place false s' y m) old mid new ts u t m n
    (ap (λ z. made s z ns) p ∙ (ap (λ ms. value_onto (parts s es ns) (by_place false (behind_site s (places_all es) (helpers_in_all es)) y ms)) (sym all.names) ∙ ap (λ z. value_onto (parts s es ns) (by_place false z y m)) (sym go)))
    all rest (shape ∙ ap (λ xs. items_onto (trees_of xs) u) same)

pub put-made_list : (s : Site) (e : ExpTree) (es : ExpTrees) (ns m : SlotNames) (old new : List GoalTree) (ts us : List Tree) (u t : Tree) → e ≡ ExpTree.list es → AreValues (values_of true s es ns) old new ts m → us ≡ ts → u ≡ Tree.atom nil → t ≡ items_onto (trees_of us) u →
    IsValue (made s e ns) old new t m
unfolding made_as values_as
put-made_list s e es ns m old new ts us u t p all same end shape =
    put-parts (made s e ns) (λ us. items_onto us (Tree.atom nil)) (parts s es ns) old new ts t m (ap (λ z. made s z ns) p) all (shape ∙ (ap (λ xs. items_onto (trees_of xs) u) same ∙ ap (items_onto (trees_of ts)) end))

pub put-made_array : (s : Site) (e : ExpTree) (es : ExpTrees) (ns m : SlotNames) (old new : List GoalTree) (ts us : List Tree) (t : Tree) → e ≡ ExpTree.array es → AreValues (values_of true s es ns) old new ts m → us ≡ ts → t ≡ Tree.comp array_name (trees_of us) → IsValue (made s e ns) old new t m
unfolding made_as values_as
put-made_array s e es ns m old new ts us t p all same shape =
    put-parts (made s e ns) (Tree.comp array_name) (parts s es ns) old new ts t m (ap (λ z. made s z ns) p) all (shape ∙ ap (λ xs. Tree.comp array_name (trees_of xs)) same)

pub put-made_index : (s s' : Site) (e y : ExpTree) (es : ExpTrees) (b : Bool) (ns m n : SlotNames) (old mid new : List GoalTree) (u t : Tree) → e ≡ ExpTree.index y es → b ≡ begins_flat es → IsValue (by_place b s y ns) old mid u m → s' ≡ behind_exp s y →
    ((v : SlotValue) (before : List GoalTree) → IsValue v before mid u m → IsValue (indexed_by v (places_in s' es)) before new t n) → IsValue (made s e ns) old new t n
unfolding made_as by_place_as
put-made_index s s' e y es b ns m n old mid new u t p flat whole go step =
    value-as (made s e ns) (indexed_by (by_place b s y ns) (places_in s' es)) old new t n
    (ap (λ z. made s z ns) p ∙ (ap (λ c. indexed_by (by_place c s y ns) (places_in (behind_exp s y) es)) (sym flat) ∙ ap (λ z. indexed_by (by_place b s y ns) (places_in z es)) (sym go)))
    (step (by_place b s y ns) old whole)

abbrev pub of_two : SlotValue → SlotValue → SlotValue
of_two a b = applied (codes "..") (before_values a (before_values b (no_values b.names)))

abbrev pub of_three : SlotValue → SlotValue → SlotValue → SlotValue
of_three a b c = applied (codes "..") (before_values a (before_values b (before_values c (no_values c.names))))

pub put-made_range : (s s' : Site) (e a b : ExpTree) (flat : Bool) (ns m n k : SlotNames) (old one two new : List GoalTree) (t u w : Tree) → e ≡ ExpTree.range a b → flat ≡ is_flat b → s' ≡ behind_exp s a → IsValue (by_place flat s a ns) old one t m →
    IsValue (by_place true s' b m) one two u n → IsValue (applied (codes "..") (record { goals = []; trees = t ∷ u ∷ []; names = n })) two new w k → IsValue (made s e ns) old new w k
unfolding made_as by_place_as
put-made_range s s' e a b flat ns m n k old one two new t u w p f go begin end is =
    let v : SlotValue = by_place flat s a ns in
    let z : SlotValue = by_place true s' b m in
    value-as (made s e ns) (of_two v z) old new w k
    (ap (λ x. made s x ns) p ∙ (ap (λ c. of_two (by_place c s a ns) (by_place true (behind_exp s a) b (by_place c s a ns).names)) (sym f)
    ∙ (ap (λ ms. of_two v (by_place true (behind_exp s a) b ms)) (sym begin.names) ∙ ap (λ x. of_two v (by_place true x b m)) (sym go))))
    (put-applied (codes "..") (before_values v (before_values z (no_values z.names))) old two new (t ∷ u ∷ []) w n k (two-values v z old one two t u m n begin end) is)

pub put-made_range_by : (s s' s'' : Site) (e a b d : ExpTree) (flat both : Bool) (ns m n k l : SlotNames) (old one two three new : List GoalTree) (t u w r : Tree) → e ≡ ExpTree.range_by a b d → flat ≡ is_flat d → both ≡ (is_flat b && flat) → s' ≡ behind_exp s a → s'' ≡ behind_exp s' b →
    IsValue (by_place both s a ns) old one t m → IsValue (by_place flat s' b m) one two u n → IsValue (by_place true s'' d n) two three w k → IsValue (applied (codes "..") (record { goals = []; trees = t ∷ u ∷ w ∷ []; names = k })) three new r l → IsValue (made s e ns) old new r l
unfolding made_as by_place_as
put-made_range_by s s' s'' e a b d flat both ns m n k l old one two three new t u w r p f g first second begin next end is =
    let i : SlotValue = by_place both s a ns in
    let j : SlotValue = by_place flat s' b m in
    let z : SlotValue = by_place true s'' d n in
    let whole : Bool → Bool → Site → Site → SlotValue = λ x y v o. of_three (by_place x s a ns) (by_place y v b (by_place x s a ns).names) (by_place true o d (by_place y v b (by_place x s a ns).names).names) in
    let far : Site = behind_site s (places a ++ places b) (helpers_in a + helpers_in b) in
    value-as (made s e ns) (of_three i j z) old new r l
    (ap (λ x. made s x ns) p ∙ (ap (λ y. whole (is_flat b && y) y (behind_exp s a) far) (sym f)
    ∙ (ap (λ x. whole x flat (behind_exp s a) far) (sym g)
    ∙ (ap (λ o. whole both flat (behind_exp s a) o) (sym (behind-both s s' s'' a b first second))
    ∙ (ap (λ v. whole both flat v s'') (sym first)
    ∙ (ap (λ ms. of_three i (by_place flat s' b ms) (by_place true s'' d (by_place flat s' b ms).names)) (sym begin.names) ∙ ap (λ ms. of_three i j (by_place true s'' d ms)) (sym next.names)))))))
    (put-applied (codes "..") (before_values i (before_values j (before_values z (no_values z.names)))) old three new (t ∷ u ∷ w ∷ []) r k l (three-values i j z old one two three t u w m n k begin next end) is)

pub flip-and : (a p q : Bool) → p ≡ q → (a && p) ≡ (q && a)
flip-and true p true is = is
flip-and true p false is = is
flip-and false p true is = refl
flip-and false p false is = refl

-- ---- calls

pub put-call_found : (s g i : Site) (name : List ℕ) (es : List Exp) (x y : Exp) (ns a b d : SlotNames) (none one two old new : List GoalTree) (t term : Tree) → is_find_all name (length es) ≡ true → x ≡ get_or es 0 x → y ≡ get_or es 1 y → g ≡ ball_site s (exp_tree x) → i ≡ behind_exp s (exp_tree y) →
    none ≡ [] → AreGoals (goal_of g (exp_tree y) ns) none one a → IsValue (by_place true i (exp_tree x) a) one two t b → IsValue (collected_of two t b) old new term d → IsValue (call_as_value s name (exps_of es) ns) old new term d
unfolding by_place_as
put-call_found s g i name es x y ns a b d none one two old new t term holds at second first behind empty goal item put =
    put-found (call_as_value s name (exps_of es) ns) (goal_of g (exp_tree y) ns) (λ ms. value_of i (exp_tree x) ms) none one two t old new term a b d
    (value-collected s name es x y ns holds at second
    ∙ (ap (λ z. found_by (goal_of z (exp_tree y) ns) (λ ms. value_of (behind_exp s (exp_tree y)) (exp_tree x) ms)) (sym first) ∙ ap (λ (z : Site). found_by (goal_of g (exp_tree y) ns) (λ ms. value_of z (exp_tree x) ms)) (sym behind)))
    empty goal item put

pub put-call_counted : (s : Site) (name : List ℕ) (es : List Exp) (x : Exp) (ns c d : SlotNames) (goal : GoalTree) (old new : List GoalTree) (term : Tree) → is_find_all name (length es) ≡ false → is_count_all name (length es) ≡ true →
    x ≡ get_or es 0 x → IsAlone (goal_of s (exp_tree x) ns) goal c → IsValue (counted_of goal c) old new term d → IsValue (call_as_value s name (exps_of es) ns) old new term d
put-call_counted s name es x ns c d goal old new term fails holds at alone put =
    put-counted (call_as_value s name (exps_of es) ns) (goal_of s (exp_tree x) ns) goal old new term c d (value-count s name es x ns fails holds at) alone put

pub put-call_applied : (s : Site) (name : List ℕ) (es : List Exp) (ns m n : SlotNames) (old mid new : List GoalTree) (ts us : List Tree) (t : Tree) → is_find_all name (length es) ≡ false → is_count_all name (length es) ≡ false →
    AreValues (values_of false s (exps_of es) ns) old mid ts m → us ≡ ts → IsValue (applied name (record { goals = []; trees = us; names = m })) mid new t n → IsValue (call_as_value s name (exps_of es) ns) old new t n
unfolding values_as
put-call_applied s name es ns m n old mid new ts us t fails nor all same put =
    value-as (call_as_value s name (exps_of es) ns) (applied name (arguments s (exps_of es) ns)) old new t n (value-apply s name es ns fails nor)
    (put-applied name (arguments s (exps_of es) ns) old mid new us t m n (record { goals = all.goals; trees = same ∙ all.trees; names = all.names }) put)

-- ---- calls and ranges, as they are read

-- a call that stays, and one that doesn't
pub put-structure : (r : Reading) (s : Site) (name : List ℕ) (es : List Exp) (rs : List Reading) (ns m : SlotNames) (old new : List GoalTree) (ts us : List Tree) (t : Tree) → stays r name (length es) ≡ true → rs ≡ operand_readings r name (length es) →
    AreValues (values_as true s rs (exps_of es) ns) old new ts m → us ≡ ts → t ≡ Tree.comp name (trees_of us) → IsValue (made_as s r (ExpTree.call name (exps_of es)) ns) old new t m
unfolding made_as values_as
put-structure r s name es rs ns m old new ts us t stay read all same shape =
    put-parts (made_as s r (ExpTree.call name (exps_of es)) ns) (Tree.comp name) (parts_as s rs (exps_of es) ns) old new ts t m
    (cond-true (stays r name (exp_count (exps_of es))) (value_of_parts (Tree.comp name) (parts_as s (operand_readings r name (exp_count (exps_of es))) (exps_of es) ns)) _ (ap (stays r name) (count-exps es) ∙ stay)
    ∙ ap (λ qs. value_of_parts (Tree.comp name) (parts_as s qs (exps_of es) ns)) (ap (operand_readings r name) (count-exps es) ∙ sym read))
    all (shape ∙ ap (λ xs. Tree.comp name (trees_of xs)) same)

pub read-function : (r : Reading) (s : Site) (name : List ℕ) (es : List Exp) (ns : SlotNames) → stays r name (length es) ≡ false → made_as s r (ExpTree.call name (exps_of es)) ns ≡ call_as_value s name (exps_of es) ns
unfolding made_as call_as_value
read-function r s name es ns stay =
    cond-false (stays r name (exp_count (exps_of es))) (value_of_parts (Tree.comp name) (parts_as s (operand_readings r name (exp_count (exps_of es))) (exps_of es) ns)) _ (ap (stays r name) (count-exps es) ∙ stay)

-- the helpers of a call's arguments, where it stays
pub helpers-structure : (r : Reading) (s : Site) (name : List ℕ) (es : List Exp) → stays r name (length es) ≡ true → value_helpers s (ExpTree.call name (exps_of es)) ≡ all_helpers s (exps_of es)
unfolding value_helpers
helpers-structure r s name es stay = third-of r name (exp_count (exps_of es)) (ap (stays r name) (count-exps es) ∙ stay) _ _ (all_helpers s (exps_of es))

-- a range
pub put-kept_range : (s s' : Site) (e a b : ExpTree) (ns m n : SlotNames) (old one new : List GoalTree) (t u w : Tree) → e ≡ ExpTree.range a b → s' ≡ behind_exp s a → IsValue (by_place false s a ns) old one t m → IsValue (by_place false s' b m) one new u n →
    w ≡ Tree.comp (codes "..") (trees_of (t ∷ u ∷ [])) → IsValue (made_as s ranged e ns) old new w n
unfolding made_as by_place_as
put-kept_range s s' e a b ns m n old one new t u w p go begin end shape =
    let v : SlotValue = by_place false s a ns in
    let z : SlotValue = by_place false s' b m in
    put-parts (made_as s ranged e ns) (Tree.comp (codes "..")) (two_parts v (λ ms. by_place false s' b ms)) old new (t ∷ u ∷ []) w n
    (ap (λ x. made_as s ranged x ns) p ∙ ap (λ x. value_of_parts (Tree.comp (codes "..")) (two_parts v (λ ms. by_place false x b ms))) (sym go))
    (values-as (two_parts v (λ ms. by_place false s' b ms)) (before_values v (before_values z (no_values z.names))) old new (t ∷ u ∷ []) n
    (ap (λ ms. before_values v (before_values (by_place false s' b ms) (no_values (by_place false s' b ms).names))) (sym begin.names)) (two-values v z old one new t u m n begin end)) shape

pub put-kept_steps : (s s' s'' : Site) (e a b d : ExpTree) (ns m n k : SlotNames) (old one two new : List GoalTree) (t u w r : Tree) → e ≡ ExpTree.range_by a b d → s' ≡ behind_exp s a → s'' ≡ behind_exp s' b → IsValue (by_place false s a ns) old one t m →
    IsValue (by_place false s' b m) one two u n → IsValue (by_place false s'' d n) two new w k → r ≡ Tree.comp (codes "..") (trees_of (t ∷ u ∷ w ∷ [])) → IsValue (made_as s ranged e ns) old new r k
unfolding made_as by_place_as
put-kept_steps s s' s'' e a b d ns m n k old one two new t u w r p first second begin next end shape =
    let i : SlotValue = by_place false s a ns in
    let j : SlotValue = by_place false s' b m in
    let z : SlotValue = by_place false s'' d n in
    put-parts (made_as s ranged e ns) (Tree.comp (codes "..")) (three_parts i (λ ms. by_place false s' b ms) (λ ms. by_place false s'' d ms)) old new (t ∷ u ∷ w ∷ []) r k
    (ap (λ x. made_as s ranged x ns) p
    ∙ (ap (λ o. value_of_parts (Tree.comp (codes "..")) (three_parts i (λ ms. by_place false (behind_exp s a) b ms) (λ ms. by_place false o d ms))) (sym (behind-both s s' s'' a b first second))
    ∙ ap (λ x. value_of_parts (Tree.comp (codes "..")) (three_parts i (λ ms. by_place false x b ms) (λ ms. by_place false s'' d ms))) (sym first)))
    (values-as (three_parts i (λ ms. by_place false s' b ms) (λ ms. by_place false s'' d ms)) (before_values i (before_values j (before_values z (no_values z.names)))) old new (t ∷ u ∷ w ∷ []) k
    (ap (λ ms. before_values i (two_parts (by_place false s' b ms) (λ ls. by_place false s'' d ls))) (sym begin.names)
    ∙ ap (λ ms. before_values i (before_values j (before_values (by_place false s'' d ms) (no_values (by_place false s'' d ms).names)))) (sym next.names))
    (three-values i j z old one two new t u w m n k begin next end)) shape

-- by whether it stays
pub read-kept : (r : Reading) (s : Site) (x : Exp) (ns : SlotNames) → is_ranged r ≡ true → made_as s r (exp_tree x) ns ≡ made_as s ranged (exp_tree x) ns
read-kept plain s x ns is = absurd (false≢true is)
read-kept operand s x ns is = absurd (false≢true is)
read-kept boolean s x ns is = absurd (false≢true is)
read-kept ranged s x ns is = refl

range-read : (r : Reading) (s : Site) (a b : ExpTree) (ns : SlotNames) → is_ranged r ≡ false → made_as s r (ExpTree.range a b) ns ≡ made s (ExpTree.range a b) ns
unfolding made_as
range-read plain s a b ns is = refl
range-read operand s a b ns is = refl
range-read boolean s a b ns is = refl
range-read ranged s a b ns is = absurd (true≢false is)

steps-read : (r : Reading) (s : Site) (a b d : ExpTree) (ns : SlotNames) → is_ranged r ≡ false → made_as s r (ExpTree.range_by a b d) ns ≡ made s (ExpTree.range_by a b d) ns
unfolding made_as
steps-read plain s a b d ns is = refl
steps-read operand s a b d ns is = refl
steps-read boolean s a b d ns is = refl
steps-read ranged s a b d ns is = absurd (true≢false is)

-- the same term from the same places
same-as : (r : Reading) (s : Site) (e f : ExpTree) (ns : SlotNames) → e ≡ f → made_as s r f ns ≡ made s f ns → made_as s r e ns ≡ made s e ns
same-as r s e f ns p is = ap (λ t. made_as s r t ns) p ∙ (is ∙ sym (ap (λ t. made s t ns) p))

pub read-built : (r : Reading) (s : Site) (x : Exp) (ns : SlotNames) → is_ranged r ≡ false → IsSpan x → made_as s r (exp_tree x) ns ≡ made s (exp_tree x) ns
read-built r s x ns is span = go span.step span.is
  where
    go : (step : Option (Box Exp Global)) → x ≡ e.Range span.low step span.high → made_as s r (exp_tree x) ns ≡ made s (exp_tree x) ns
    go None p = same-as r s (exp_tree x) _ ns (range-is x span.low None span.high p refl) (range-read r s (exp_tree span.low.value) (exp_tree span.high.value) ns is)
    go (Some b) p = same-as r s (exp_tree x) _ ns (range_by-is x span.low (Some b) span.high b p refl) (steps-read r s (exp_tree span.low.value) (exp_tree b.value) (exp_tree span.high.value) ns is)

-- what is the same however it is read

list-read : (r : Reading) (s : Site) (es : ExpTrees) (ns : SlotNames) → made_as s r (ExpTree.list es) ns ≡ made s (ExpTree.list es) ns
unfolding made_as
list-read r s es ns = refl

onto-read : (r : Reading) (s : Site) (es : ExpTrees) (y : ExpTree) (ns : SlotNames) → made_as s r (ExpTree.list_onto es y) ns ≡ made s (ExpTree.list_onto es y) ns
unfolding made_as
onto-read r s es y ns = refl

pub read-list : (r : Reading) (s : Site) (x : Exp) (items : Vec Exp Global) (tail : Option (Box Exp Global)) (ns : SlotNames) → x ≡ e.List items tail → made_as s r (exp_tree x) ns ≡ made s (exp_tree x) ns
read-list r s x items None ns p = same-as r s (exp_tree x) _ ns (list-is x items None p refl) (list-read r s (exps_of items.items) ns)
read-list r s x items (Some b) ns p = same-as r s (exp_tree x) _ ns (list_onto-is x items (Some b) b p refl) (onto-read r s (exps_of items.items) (exp_tree b.value) ns)

pub read-array : (r : Reading) (s : Site) (y : ExpTree) (es : ExpTrees) (ns : SlotNames) → y ≡ ExpTree.array es → made_as s r y ns ≡ made s y ns
unfolding made_as
read-array r s y es ns p = same-as r s y (ExpTree.array es) ns p refl

index-read : (r : Reading) (s : Site) (y : ExpTree) (es : ExpTrees) (ns : SlotNames) → made_as s r (ExpTree.index y es) ns ≡ made s (ExpTree.index y es) ns
unfolding made_as
index-read r s y es ns = refl

pub read-index : (r : Reading) (s : Site) (x : Exp) (whole : Box Exp Global) (places : Vec Exp Global) (ns : SlotNames) → x ≡ e.Index whole places → made_as s r (exp_tree x) ns ≡ made s (exp_tree x) ns
read-index r s x whole places ns p = same-as r s (exp_tree x) _ ns (index-is x whole places p) (index-read r s (exp_tree whole.value) (exps_of places.items) ns)

pub read-collect : (r : Reading) (s : Site) (x : Exp) (is_array : Bool) (item : Box Exp Global) (units : Vec Exp Global) (ns : SlotNames) → x ≡ e.Collect is_array item units → made_as s r (exp_tree x) ns ≡ made s (exp_tree x) ns
unfolding made_as exp_tree
read-collect r s x is_array item units ns p = same-as r s (exp_tree x) (exp_tree (e.Collect is_array item units)) ns (ap exp_tree p) refl

-- what is given where it is evaluated is given as it is read
pub gives-read : (r q : Reading) (s : Site) (e : ExpTree) (ns m : SlotNames) (old new : List GoalTree) (t : Tree) (hs hs' : List CorePred) → made_as s r e ns ≡ made_as s q e ns → GivesAs q s e t (so_far ns old hs) (so_far m new hs') →
    GivesAs r s e t (so_far ns old hs) (so_far m new hs')
gives-read r q s e ns m old new t hs hs' same so = record { is = value-as (made_as s r e ns) (made_as s q e ns) old new t m same so.is; helpers = so.helpers }

-- ---- what has no value

pub no_value-as : {E : Type 0} → (read : Reading) (s : Site) (x y : Exp) (ns : SlotNames) (old new : List GoalTree) (hs : List CorePred) (r : Result Tree E) → x ≡ y → made_as s read (exp_tree y) ns ≡ no_value ns → value_helpers s (exp_tree y) ≡ [] → IfOk r (λ _. new ≡ old ++ GoalTree.fail ∷ []) →
    IfOk r (λ t. t ≡ Tree.atom []) → IfOk r (λ t. With (IsValue (made_as s read (exp_tree x) ns) old new t ns) hs hs (value_helpers s (exp_tree x)))
no_value-as read s x y ns old new hs (Ok t) p is none put shape = record {
  is = put-none (made_as s read (exp_tree x) ns) ns old new t ns (ap (λ z. made_as s read (exp_tree z) ns) p ∙ is) put shape refl;
  helpers = no-helpers (map pred_tree hs) (value_helpers s (exp_tree x)) (ap (λ z. value_helpers s (exp_tree z)) p ∙ none);
}
no_value-as read s x y ns old new hs (Err r) p is none put shape = tt

pub none-var : (r : Reading) (s : Site) (name : List ℕ) (ns : SlotNames) → made_as s r (exp_tree (e.Var name)) ns ≡ no_value ns
unfolding made_as exp_tree
none-var r s name ns = refl

pub none-int : (r : Reading) (s : Site) (n : ℤ) (ns : SlotNames) → made_as s r (exp_tree (e.Int n)) ns ≡ no_value ns
unfolding made_as exp_tree
none-int r s n ns = refl

pub none-atom : (r : Reading) (s : Site) (name : List ℕ) (ns : SlotNames) → made_as s r (exp_tree (e.Atom name)) ns ≡ no_value ns
unfolding made_as exp_tree
none-atom r s name ns = refl

pub none-str : (r : Reading) (s : Site) (text : List ℕ) (ns : SlotNames) → made_as s r (exp_tree (e.Str text)) ns ≡ no_value ns
unfolding made_as exp_tree
none-str r s text ns = refl

pub none-quote : (r : Reading) (s : Site) (of : Box Exp Global) (ns : SlotNames) → made_as s r (exp_tree (e.Quote of)) ns ≡ no_value ns
unfolding made_as exp_tree
none-quote r s of ns = refl

pub none-at : (r : Reading) (s : Site) (name : List ℕ) (of : Box Exp Global) (ns : SlotNames) → made_as s r (exp_tree (e.At name of)) ns ≡ no_value ns
unfolding made_as exp_tree
none-at r s name of ns = refl

pub none-and : (r : Reading) (s : Site) (es : Vec Exp Global) (ns : SlotNames) → made_as s r (exp_tree (e.And es)) ns ≡ no_value ns
unfolding made_as exp_tree
none-and r s es ns = refl

pub none-or : (r : Reading) (s : Site) (es : Vec Exp Global) (ns : SlotNames) → made_as s r (exp_tree (e.Or es)) ns ≡ no_value ns
unfolding made_as exp_tree
none-or r s es ns = refl

pub none-arrow : (r : Reading) (s : Site) (test body : Box Exp Global) (ns : SlotNames) → made_as s r (exp_tree (e.Arrow test body)) ns ≡ no_value ns
unfolding made_as exp_tree
none-arrow r s test body ns = refl

pub none-if : (r : Reading) (s : Site) (bs : Vec (Exp × Exp) Global) (last : Option (Box Exp Global)) (ns : SlotNames) → made_as s r (exp_tree (e.If bs last)) ns ≡ no_value ns
unfolding made_as
none-if r s bs None ns = ap (λ t. made_as s r t ns) (if_then-is (e.If bs None) bs None refl refl)
none-if r s bs (Some b) ns = ap (λ t. made_as s r t ns) (if_else-is (e.If bs (Some b)) bs (Some b) b refl refl)

pub none-foreach : (r : Reading) (s : Site) (es : Vec Exp Global) (body : Box Exp Global) (ns : SlotNames) → made_as s r (exp_tree (e.Foreach es body)) ns ≡ no_value ns
unfolding made_as exp_tree
none-foreach r s es body ns = refl

pub none-while : (r : Reading) (s : Site) (test body : Box Exp Global) (ns : SlotNames) → made_as s r (exp_tree (e.While test body)) ns ≡ no_value ns
unfolding made_as exp_tree
none-while r s test body ns = refl

pub none-do_while : (r : Reading) (s : Site) (body test : Box Exp Global) (ns : SlotNames) → made_as s r (exp_tree (e.DoWhile body test)) ns ≡ no_value ns
unfolding made_as exp_tree
none-do_while r s body test ns = refl

-- ---- and has no helpers

pub bare-var : (s : Site) (name : List ℕ) → value_helpers s (exp_tree (e.Var name)) ≡ []
unfolding value_helpers exp_tree
bare-var s name = refl

pub bare-int : (s : Site) (n : ℤ) → value_helpers s (exp_tree (e.Int n)) ≡ []
unfolding value_helpers exp_tree
bare-int s n = refl

pub bare-atom : (s : Site) (name : List ℕ) → value_helpers s (exp_tree (e.Atom name)) ≡ []
unfolding value_helpers exp_tree
bare-atom s name = refl

pub bare-str : (s : Site) (text : List ℕ) → value_helpers s (exp_tree (e.Str text)) ≡ []
unfolding value_helpers exp_tree
bare-str s text = refl

pub bare-quote : (s : Site) (of : Box Exp Global) → value_helpers s (exp_tree (e.Quote of)) ≡ []
unfolding value_helpers exp_tree
bare-quote s of = refl

pub bare-at : (s : Site) (name : List ℕ) (of : Box Exp Global) → value_helpers s (exp_tree (e.At name of)) ≡ []
unfolding value_helpers exp_tree
bare-at s name of = refl

pub bare-and : (s : Site) (es : Vec Exp Global) → value_helpers s (exp_tree (e.And es)) ≡ []
unfolding value_helpers exp_tree
bare-and s es = refl

pub bare-or : (s : Site) (es : Vec Exp Global) → value_helpers s (exp_tree (e.Or es)) ≡ []
unfolding value_helpers exp_tree
bare-or s es = refl

pub bare-arrow : (s : Site) (test body : Box Exp Global) → value_helpers s (exp_tree (e.Arrow test body)) ≡ []
unfolding value_helpers exp_tree
bare-arrow s test body = refl

pub bare-foreach : (s : Site) (es : Vec Exp Global) (body : Box Exp Global) → value_helpers s (exp_tree (e.Foreach es body)) ≡ []
unfolding value_helpers exp_tree
bare-foreach s es body = refl

pub bare-while : (s : Site) (test body : Box Exp Global) → value_helpers s (exp_tree (e.While test body)) ≡ []
unfolding value_helpers exp_tree
bare-while s test body = refl

pub bare-do_while : (s : Site) (body test : Box Exp Global) → value_helpers s (exp_tree (e.DoWhile body test)) ≡ []
unfolding value_helpers exp_tree
bare-do_while s body test = refl

pub bare-if : (s : Site) (bs : Vec (Exp × Exp) Global) (last : Option (Box Exp Global)) → value_helpers s (exp_tree (e.If bs last)) ≡ []
unfolding value_helpers
bare-if s bs None = ap (value_helpers s) (if_then-is (e.If bs None) bs None refl refl)
bare-if s bs (Some b) = ap (value_helpers s) (if_else-is (e.If bs (Some b)) bs (Some b) b refl refl)
