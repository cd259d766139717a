-- What an iterator goes over, put behind the goals, and the helpers of its loops.
use Rattle.std.proofs.Common.{◌≡◌, ℕ, ◌+◌, Bool, true, false, List, [], ◌∷◌, ◌++◌, refl, sym, ◌∙◌, ap}
use Rattle.std.specs.Prelude.{pos, ◌&&◌, Option, None, Some}
use Rattle.std.specs.declared.alloc.Global.{Global}
use Rattle.std.specs.declared.boxed.Box.{Box}
use Rattle.pi_terms.specs.Tree.{Tree}
use Rattle.pi_core.specs.GoalTree.{GoalTree}
use Rattle.pi_syntax.specs.ExpTree.{ExpTree, var, int, atom, str, list, list_onto, array, call, quote, index, range, range_by, at, collect, and, or, arrow, if_then, if_else, foreach, while_do, do_while, ExpTrees, exp, exp_tree}
use Rattle.pi_syntax.specs.declared.exp.Exp as code
use Rattle.pi_syntax.specs.declared.exp.Exp.{Exp}
use Rattle.pi_meaning.specs.OverNames.Texts.{Names, places}
use Rattle.pi_rewrite_spec.specs.Slots.{SlotNames}
use Rattle.pi_rewrite_spec.specs.Values.{SlotValue, SlotValues, is_flat, no_values, before_values}
use Rattle.pi_rewrite_spec.specs.Goals.{value_at}
use Rattle.pi_rewrite_spec.specs.Sites.{Site, helpers_in, behind_site, behind_exp}
use Rattle.pi_rewrite_spec.specs.Loops.{Loop, started}
use Rattle.pi_rewrite_spec.specs.Iterators.{only, walked, over, iterator_goals}
use Rattle.pi_rewrite_spec.specs.Ranges.{range_of, low_of, step_of, high_of, through, range_goals}
use Rattle.pi_rewrite_spec.specs.Written.{made_as, gone_over, is_range, bounds_of, collection_of}
use Rattle.pi_rewrite_spec.specs.Helpers.{value_helpers, helpers_at, collection_helpers}
use Rattle.pi_rewrite_loops.specs.Parts.{AreGoals, IsValue, AreValues, IsRange, goals_before}
use Rattle.pi_rewrite_loops.specs.Helpers.{range_between}
use Rattle.pi_rewrite_loops.specs.declared.ranges.Bounds.{Bounds}
use Rattle.pi_rewrite_loops.proofs.WholeLemmas.{iterator-whole, range-whole}
use Rattle.pi_rewrite_goals.specs.Lowering.{by_place_as, by_place}
use Rattle.pi_rewrite_goals.specs.Planned.{IsRangeOver, IsCollectionOver, IsGoneOver}
use Rattle.pi_rewrite_goals.proofs.ValueLemmas.{value-as, goals-as, two-values, three-values}
use Rattle.pi_rewrite_goals.proofs.HelperLemmas.{behind-both}

-- ---- which of both it is

-- a range, with or without a step
abbrev pub is_between : ExpTree → Bool
is_between (range first last) = true
is_between (range_by first step last) = true
is_between e = false

second-is : (name : List ℕ) (e o : ExpTree) (es : ExpTrees) → is_range (call name (exp e (exp o es))) ≡ is_between o
second-is name e (var n) es = refl
second-is name e (int n) es = refl
second-is name e (atom n) es = refl
second-is name e (str text) es = refl
second-is name e (list fs) es = refl
second-is name e (list_onto fs f) es = refl
second-is name e (array fs) es = refl
second-is name e (call n fs) es = refl
second-is name e (quote f) es = refl
second-is name e (index f fs) es = refl
second-is name e (range f g) es = refl
second-is name e (range_by f g k) es = refl
second-is name e (at n f) es = refl
second-is name e (collect is_array f fs) es = refl
second-is name e (and fs) es = refl
second-is name e (or fs) es = refl
second-is name e (arrow f g) es = refl
second-is name e (if_then bs) es = refl
second-is name e (if_else bs f) es = refl
second-is name e (foreach fs f) es = refl
second-is name e (while_do f g) es = refl
second-is name e (do_while f g) es = refl

-- an expression that is none
boxed : Box (Unit {0}) Global → Exp → Box Exp Global
boxed b x = record { ptr = b.ptr; alloc = b.alloc; value = x }

pub not-range : (x : Exp) → ((first : Box Exp Global) (step : Option (Box Exp Global)) (last : Box Exp Global) → x ≡ code.Range first step last → ⊥) → is_between (exp_tree x) ≡ false
unfolding exp_tree boxed
not-range (code.Var n) none = refl
not-range (code.Int n) none = refl
not-range (code.Atom n) none = refl
not-range (code.Str text) none = refl
not-range (code.List' place fs code.None') none = refl
not-range (code.List' place fs (code.Some' held tail)) none = refl
not-range (code.Array' place fs) none = refl
not-range (code.Call' n place fs) none = refl
not-range (code.Quote' place f) none = refl
not-range (code.Index' place f places fs) none = refl
not-range (code.Range' place first code.None' places last) none = absurd (none (boxed place first) None (boxed places last) refl)
not-range (code.Range' place first (code.Some' held step) places last) none = absurd (none (boxed place first) (Some (boxed held step)) (boxed places last) refl)
not-range (code.At' n place f) none = refl
not-range (code.Collect' is_array place f places fs) none = refl
not-range (code.And' place fs) none = refl
not-range (code.Or' place fs) none = refl
not-range (code.Arrow' place c places f) none = refl
not-range (code.If' place bs code.None') none = refl
not-range (code.If' place bs (code.Some' held last)) none = refl
not-range (code.Foreach' place fs places f) none = refl
not-range (code.While' place c places f) none = refl
not-range (code.DoWhile' place f places c) none = refl

-- ---- where it stands

-- the slots that it finds, from where the loop starts
started-as : (h : ℕ) (one before : Names) (ns ms : SlotNames) (old a : List GoalTree) → one ≡ before → AreGoals (goals_before (started h one ns)) old a ms → AreGoals (goals_before (started h before ns)) old a ms
started-as h one before ns ms old a same start =
    goals-as (goals_before (started h before ns)) (goals_before (started h one ns)) old a ms (ap (λ w. goals_before (started h w ns)) (sym same)) start

collection-is : (t : Site) (name : List ℕ) (u e o : ExpTree) (es : ExpTrees) (us : SlotNames) → u ≡ call name (exp e (exp o es)) → collection_of t u us ≡ by_place true t o us
unfolding made_as value_at by_place_as
collection-is t name u e o es us p = ap (λ z. collection_of t z us) p

-- a list or an array
pub over-collection : (t : Site) (one two : Names) (l : Loop) (u : ExpTree) (v : Tree) (ns ms us vs ks : SlotNames) (old a b new : List GoalTree) → one ≡ t.before → two ≡ t.before → AreGoals (goals_before (started t.filled one ns)) old a ms → us ≡ only two ms →
    IsCollectionOver v t u us a b vs → AreGoals (over l [] (walked ms (record { goals = []; tree = v; names = vs }))) b new ks → IsGoneOver false t l u ns old new ks
over-collection t one two l u v ns ms us vs ks old a b new first second start finds found put = record {
  is = sym found.ranges;
  put =
      goals-as (gone_over (is_range u) t l (bounds_of t u) (collection_of t u) ns) (iterator_goals t.filled t.before l (collection_of t u) ns) old new ks
      (ap (λ r. gone_over r t l (bounds_of t u) (collection_of t u) ns) found.ranges)
      (iterator-whole t.filled t.before l (collection_of t u) ns ms us vs ks old a b new v (started-as t.filled one t.before ns ms old a first start) (finds ∙ ap (λ w. only w ms) second) found.value put);
}

-- a range
pub over-range : (t : Site) (one two : Names) (l : Loop) (u : ExpTree) (r : Bounds) (ns ms us vs ks : SlotNames) (old a b new : List GoalTree) → one ≡ t.before → two ≡ t.before → AreGoals (goals_before (started t.filled one ns)) old a ms → us ≡ only two ms →
    IsRangeOver r t u us a b vs → AreGoals (through l [] ms (range_between r.low r.step r.high vs)) b new ks → IsGoneOver true t l u ns old new ks
over-range t one two l u r ns ms us vs ks old a b new first second start finds found put = record {
  is = sym found.ranges;
  put =
      goals-as (gone_over (is_range u) t l (bounds_of t u) (collection_of t u) ns) (range_goals t.filled t.before l (bounds_of t u) ns) old new ks
      (ap (λ r. gone_over r t l (bounds_of t u) (collection_of t u) ns) found.ranges)
      (range-whole t.filled t.before l (bounds_of t u) ns ms us vs ks old a b new r.low r.step r.high (started-as t.filled one t.before ns ms old a first start) (finds ∙ ap (λ w. only w ms) second) found.bounds put);
}

-- ---- a value

pub collection-found : (t : Site) (name : List ℕ) (u e o : ExpTree) (es : ExpTrees) (us vs : SlotNames) (old new : List GoalTree) (v : Tree) → u ≡ call name (exp e (exp o es)) → is_between o ≡ false → IsValue (by_place true t o us) old new v vs → IsCollectionOver v t u us old new vs
collection-found t name u e o es us vs old new v p kind value = record {
  ranges = ap is_range p ∙ (second-is name e o es ∙ kind);
  value = value-as (collection_of t u us) (by_place true t o us) old new v vs (collection-is t name u e o es us p) value;
}

-- ---- bounds

range-as : (vs ws : SlotValues) (old new : List GoalTree) (ts : List Tree) (a b c : Tree) (n : SlotNames) → vs ≡ ws → AreValues ws old new ts n → a ≡ low_of ts → b ≡ step_of ts → c ≡ high_of ts → IsRange (range_of vs) old new a b c n
range-as vs ws old new ts a b c n same are low step high = record {
  goals = are.goals ∙ ap (λ x. old ++ x.goals) (sym same);
  low = low ∙ (ap low_of are.trees ∙ ap (λ x. low_of x.trees) (sym same));
  step = step ∙ (ap step_of are.trees ∙ ap (λ x. step_of x.trees) (sym same));
  high = high ∙ (ap high_of are.trees ∙ ap (λ x. high_of x.trees) (sym same));
  names = are.names ∙ ap (λ x. x.names) (sym same);
}

abbrev both_of : SlotValue → SlotValue → SlotValues
both_of v w = before_values v (before_values w (no_values w.names))

abbrev all_three : SlotValue → SlotValue → SlotValue → SlotValues
all_three v w z = before_values v (before_values w (before_values z (no_values z.names)))

range-of-two : (s s' : Site) (name : List ℕ) (e o x y : ExpTree) (es : ExpTrees) (flat : Bool) (ns m n : SlotNames) (old one new : List GoalTree) (t u w : Tree) → o ≡ range x y → flat ≡ is_flat y → s' ≡ behind_exp s x →
    IsValue (by_place flat s x ns) old one t m → IsValue (by_place true s' y m) one new u n → w ≡ Tree.int (pos 1) → IsRange (range_of (bounds_of s (call name (exp e (exp o es))) ns)) old new t w u n
unfolding made_as by_place_as
range-of-two s s' name e o x y es flat ns m n old one new t u w p f go begin end is =
    let v : SlotValue = by_place flat s x ns in
    let z : SlotValue = by_place true s' y m in
    let whole : Bool → Site → SlotNames → SlotValues = λ b r ms. both_of (by_place b s x ns) (by_place true r y ms) in
    range-as (bounds_of s (call name (exp e (exp o es))) ns) (both_of v z) old new (t ∷ u ∷ []) t w u n
    (ap (λ q. bounds_of s (call name (exp e (exp q es))) ns) p
    ∙ (ap (λ b. whole b (behind_exp s x) (by_place b s x ns).names) (sym f) ∙ (ap (λ ms. whole flat (behind_exp s x) ms) (sym begin.names) ∙ ap (λ r. whole flat r m) (sym go))))
    (two-values v z old one new t u m n begin end) refl is refl

range-of-three : (s s' s'' : Site) (name : List ℕ) (e o x y k : ExpTree) (es : ExpTrees) (flat both : Bool) (ns m n l : SlotNames) (old one two new : List GoalTree) (t u w : Tree) → o ≡ range_by x y k → flat ≡ is_flat k → both ≡ (is_flat y && flat) → s' ≡ behind_exp s x → s'' ≡ behind_exp s' y →
    IsValue (by_place both s x ns) old one t m → IsValue (by_place flat s' y m) one two u n → IsValue (by_place true s'' k n) two new w l → IsRange (range_of (bounds_of s (call name (exp e (exp o es))) ns)) old new t u w l
unfolding made_as by_place_as
range-of-three s s' s'' name e o x y k es flat both ns m n l old one two new t u w p f g first second begin next end =
    let i : SlotValue = by_place both s x ns in
    let j : SlotValue = by_place flat s' y m in
    let z : SlotValue = by_place true s'' k n in
    let whole : Bool → Bool → Site → Site → SlotValues = λ b c v r. all_three (by_place b s x ns) (by_place c v y (by_place b s x ns).names) (by_place true r k (by_place c v y (by_place b s x ns).names).names) in
    let far : Site = behind_site s (places x ++ places y) (helpers_in x + helpers_in y) in
    range-as (bounds_of s (call name (exp e (exp o es))) ns) (all_three i j z) old new (t ∷ u ∷ w ∷ []) t u w l
    (ap (λ q. bounds_of s (call name (exp e (exp q es))) ns) p ∙ (ap (λ c. whole (is_flat y && c) c (behind_exp s x) far) (sym f)
    ∙ (ap (λ b. whole b flat (behind_exp s x) far) (sym g)
    ∙ (ap (λ r. whole both flat (behind_exp s x) r) (sym (behind-both s s' s'' x y first second))
    ∙ (ap (λ v. whole both flat v s'') (sym first)
    ∙ (ap (λ ms. all_three i (by_place flat s' y ms) (by_place true s'' k (by_place flat s' y ms).names)) (sym begin.names) ∙ ap (λ ms. all_three i j (by_place true s'' k ms)) (sym next.names)))))))
    (three-values i j z old one two new t u w m n l begin next end) refl refl refl

-- the range that they are
pub two-found : (s s' : Site) (name : List ℕ) (e o x y : ExpTree) (es : ExpTrees) (flat : Bool) (r : Bounds) (ns m n : SlotNames) (old one new : List GoalTree) → o ≡ range x y → flat ≡ is_flat y → s' ≡ behind_exp s x →
    IsValue (by_place flat s x ns) old one r.low m → IsValue (by_place true s' y m) one new r.high n → r.step ≡ Tree.int (pos 1) → IsRangeOver r s (call name (exp e (exp o es))) ns old new n
two-found s s' name e o x y es flat r ns m n old one new p f go begin end is = record {
  ranges = ap (λ z. is_range (call name (exp e (exp z es)))) p;
  bounds = range-of-two s s' name e o x y es flat ns m n old one new r.low r.high r.step p f go begin end is;
}

pub three-found : (s s' s'' : Site) (name : List ℕ) (e o x y k : ExpTree) (es : ExpTrees) (flat both : Bool) (r : Bounds) (ns m n l : SlotNames) (old one two new : List GoalTree) → o ≡ range_by x y k → flat ≡ is_flat k → both ≡ (is_flat y && flat) → s' ≡ behind_exp s x → s'' ≡ behind_exp s' y →
    IsValue (by_place both s x ns) old one r.low m → IsValue (by_place flat s' y m) one two r.step n → IsValue (by_place true s'' k n) two new r.high l → IsRangeOver r s (call name (exp e (exp o es))) ns old new l
three-found s s' s'' name e o x y k es flat both r ns m n l old one two new p f g first second begin next end = record {
  ranges = ap (λ z. is_range (call name (exp e (exp z es)))) p;
  bounds = range-of-three s s' s'' name e o x y k es flat both ns m n l old one two new r.low r.step r.high p f g first second begin next end;
}

-- ---- helpers

pub collection-helped : (t : Site) (name : List ℕ) (u e o : ExpTree) (es : ExpTrees) → u ≡ call name (exp e (exp o es)) → collection_helpers t u ≡ value_helpers t o
unfolding value_helpers helpers_at
collection-helped t name u e o es p = ap (collection_helpers t) p
