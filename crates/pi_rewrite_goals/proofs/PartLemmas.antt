-- Parts one after the other: what is made stands in front of what the definition makes of those that are left.
use Rattle.std.proofs.Common.{◌≡◌, ℕ, zero, suc, ◌+◌, ◌<◌, ◌≤◌, Bool, true, false, cond, ◌&&◌, List, [], ◌∷◌, ◌++◌, length, get_or, drop, refl, sym, ◌∙◌, ap, append_assoc, arith}
use Rattle.std.proofs.lemmas.Bool.{cond-true, cond-false}
use Rattle.std.proofs.lemmas.List.{append-nil, drop_all}
use Rattle.pi_terms.specs.Tree.{Tree}
use Rattle.pi_core.specs.GoalTree.{GoalTree}
use Rattle.pi_effects.specs.Indexing.{index_name}
use Rattle.pi_syntax.specs.ExpTree.{ExpTree, ExpTrees, no_exps, exp, exp_tree}
use Rattle.pi_syntax.specs.ExpLists.{exps_of}
use Rattle.pi_syntax.specs.Signature.{exp_count}
use Rattle.pi_syntax.specs.declared.exp.Exp.{Exp}
use Rattle.pi_rewrite_spec.specs.Slots.{SlotNames}
use Rattle.pi_meaning.specs.OverNames.Forms.{Reading, first_reading, later_readings}
use Rattle.pi_rewrite_spec.specs.Values.{is_flat_as, are_flat_as, slot_term, as_it_stands, filled_before, filling, is_below, SlotValue, SlotValues, value_before_as, value_by_as, no_values, before_values, applied}
use Rattle.pi_rewrite_spec.specs.Goals.{joined, indexed, indexed_by, SlotGoals}
use Rattle.pi_rewrite_spec.specs.Sites.{Site, behind_exp, following_sites}
use Rattle.pi_rewrite_spec.specs.Written.{made_as, parts_as, arguments_as, values_in, goal_of, all_of}
use Rattle.pi_rewrite_slots.proofs.FlatLemmas.{drop-next, later-drop, flat-more, flat-not, flat-all}
use Rattle.pi_rewrite_loops.specs.Parts.{IsValue, AreValues, AreGoals}
use Rattle.pi_rewrite_goals.specs.Lowering.{EndsCalls, value_of, by_place_as, by_place, flat_by, values_as}
use Rattle.pi_rewrite_goals.proofs.ValueLemmas.{value-as, put-indexed}

pub count-exps : (es : List Exp) → exp_count (exps_of es) ≡ length es
unfolding exp_count
count-exps [] = refl
count-exps (x ∷ es) = ap suc (count-exps es)

-- ---- values

pub record ValuesTo (whole rest : SlotValues) (old now : List GoalTree) (ts : List Tree) : Type 0 where
  pub goals : now ++ rest.goals ≡ old ++ whole.goals
  pub trees : ts ++ rest.trees ≡ whole.trees
  pub names : rest.names ≡ whole.names

values-more : (whole rest rest' : SlotValues) (v : SlotValue) (old now new : List GoalTree) (ts us : List Tree) (t : Tree) (n : SlotNames) → rest ≡ before_values v rest' → IsValue v now new t n → us ≡ ts ++ t ∷ [] → ValuesTo whole rest old now ts → ValuesTo whole rest' old new us
values-more whole rest rest' v old now new ts us t n is value put so = record {
  goals = ap (λ gs. gs ++ rest'.goals) value.goals ∙ (append_assoc now v.goals rest'.goals ∙ (ap (λ r. now ++ r.goals) (sym is) ∙ so.goals));
  trees = ap (λ xs. xs ++ rest'.trees) put ∙ (append_assoc ts (t ∷ []) rest'.trees ∙ (ap (λ (x : Tree). ts ++ x ∷ rest'.trees) value.tree ∙ (ap (λ r. ts ++ r.trees) (sym is) ∙ so.trees)));
  names = sym (ap (λ r. r.names) is) ∙ so.names;
}

values-end : (whole rest : SlotValues) (m : SlotNames) (old now : List GoalTree) (ts : List Tree) → rest ≡ no_values m → ValuesTo whole rest old now ts → AreValues whole old now ts m
values-end whole rest m old now ts is so = record {
  goals = sym (append-nil now) ∙ (ap (λ r. now ++ r.goals) (sym is) ∙ so.goals);
  trees = sym (append-nil ts) ∙ (ap (λ r. ts ++ r.trees) (sym is) ∙ so.trees);
  names = ap (λ r. r.names) (sym is) ∙ so.names;
}

pub parts-more : (s s' : Site) (rs : List Reading) (es : List Exp) (i : ℕ) (x : Exp) (r : Reading) (whole : SlotValues) (m n : SlotNames) (old now new : List GoalTree) (ts us : List Tree) (t : Tree) → i < length es → x ≡ get_or es i x → r ≡ first_reading (drop i rs) →
    s' ≡ behind_exp s (exp_tree x) → IsValue (value_before_as r s.filled (exp_tree x) m (made_as s r (exp_tree x) m)) now new t n → us ≡ ts ++ t ∷ [] → ValuesTo whole (parts_as s (drop i rs) (exps_of (drop i es)) m) old now ts →
    ValuesTo whole (parts_as s' (drop (i + 1) rs) (exps_of (drop (i + 1) es)) n) old new us
unfolding made_as
parts-more s s' rs es i x r whole m n old now new ts us t lt is read go value put so =
    let v : Reading → SlotValue = λ q. value_before_as q s.filled (exp_tree x) m (made_as s q (exp_tree x) m) in
    let rest : ExpTrees = exps_of (drop (i + 1) es) in
    values-more whole (parts_as s (drop i rs) (exps_of (drop i es)) m) (parts_as s' (drop (i + 1) rs) rest n) (v r) old now new ts us t n
    (ap (λ xs. parts_as s (drop i rs) (exps_of xs) m) (drop-next es i x lt is)
    ∙ (ap (λ q. before_values (v q) (parts_as (behind_exp s (exp_tree x)) (later_readings (drop i rs)) rest (v q).names)) (sym read)
    ∙ (ap (λ qs. before_values (v r) (parts_as (behind_exp s (exp_tree x)) qs rest (v r).names)) (later-drop rs i)
    ∙ (ap (λ ms. before_values (v r) (parts_as (behind_exp s (exp_tree x)) (drop (i + 1) rs) rest ms)) (sym value.names) ∙ ap (λ z. before_values (v r) (parts_as z (drop (i + 1) rs) rest n)) (sym go))))) value put so

pub parts-end : (s : Site) (rs : List Reading) (es : List Exp) (i : ℕ) (whole : SlotValues) (m : SlotNames) (old now : List GoalTree) (ts : List Tree) → length es ≤ i → ValuesTo whole (parts_as s (drop i rs) (exps_of (drop i es)) m) old now ts → AreValues whole old now ts m
unfolding made_as
parts-end s rs es i whole m old now ts past so = values-end whole (parts_as s (drop i rs) (exps_of (drop i es)) m) m old now ts (ap (λ xs. parts_as s (drop i rs) (exps_of xs) m) (drop_all i es past)) so

pub arguments-more : (s s' : Site) (rs : List Reading) (es : List Exp) (i : ℕ) (x : Exp) (r : Reading) (b : Bool) (whole : SlotValues) (m n : SlotNames) (old now new : List GoalTree) (ts us : List Tree) (t : Tree) → i < length es → x ≡ get_or es i x →
    r ≡ first_reading (drop i rs) → s' ≡ behind_exp s (exp_tree x) → b ≡ are_flat_as (drop (i + 1) rs) (exps_of (drop (i + 1) es)) → IsValue (value_by_as r b s.filled (exp_tree x) m (made_as s r (exp_tree x) m)) now new t n → us ≡ ts ++ t ∷ [] →
    ValuesTo whole (arguments_as s (drop i rs) (exps_of (drop i es)) m) old now ts → ValuesTo whole (arguments_as s' (drop (i + 1) rs) (exps_of (drop (i + 1) es)) n) old new us
unfolding made_as
arguments-more s s' rs es i x r b whole m n old now new ts us t lt is read go flat value put so =
    let rest : ExpTrees = exps_of (drop (i + 1) es) in
    let next : Site = behind_exp s (exp_tree x) in
    let v : Reading → Bool → SlotValue = λ q c. value_by_as q c s.filled (exp_tree x) m (made_as s q (exp_tree x) m) in
    values-more whole (arguments_as s (drop i rs) (exps_of (drop i es)) m) (arguments_as s' (drop (i + 1) rs) rest n) (v r b) old now new ts us t n
    (ap (λ xs. arguments_as s (drop i rs) (exps_of xs) m) (drop-next es i x lt is)
    ∙ (ap (λ q. before_values (v q (are_flat_as (later_readings (drop i rs)) rest)) (arguments_as next (later_readings (drop i rs)) rest (v q (are_flat_as (later_readings (drop i rs)) rest)).names)) (sym read)
    ∙ (ap (λ qs. before_values (v r (are_flat_as qs rest)) (arguments_as next qs rest (v r (are_flat_as qs rest)).names)) (later-drop rs i)
    ∙ (ap (λ c. before_values (v r c) (arguments_as next (drop (i + 1) rs) rest (v r c).names)) (sym flat)
    ∙ (ap (λ ms. before_values (v r b) (arguments_as next (drop (i + 1) rs) rest ms)) (sym value.names) ∙ ap (λ z. before_values (v r b) (arguments_as z (drop (i + 1) rs) rest n)) (sym go)))))) value put so

pub arguments-end : (s : Site) (rs : List Reading) (es : List Exp) (i : ℕ) (whole : SlotValues) (m : SlotNames) (old now : List GoalTree) (ts : List Tree) → length es ≤ i → ValuesTo whole (arguments_as s (drop i rs) (exps_of (drop i es)) m) old now ts →
    AreValues whole old now ts m
unfolding made_as
arguments-end s rs es i whole m old now ts past so = values-end whole (arguments_as s (drop i rs) (exps_of (drop i es)) m) m old now ts (ap (λ xs. arguments_as s (drop i rs) (exps_of xs) m) (drop_all i es past)) so

-- ---- goals of a conjunction

pub record GoalsTo (whole rest : SlotGoals) (old now : List GoalTree) : Type 0 where
  pub goals : now ++ rest.goals ≡ old ++ whole.goals
  pub names : rest.names ≡ whole.names

pub goals-none : (s s' : Site) (es : List Exp) (ns : SlotNames) (old : List GoalTree) → s' ≡ s → GoalsTo (all_of s (exps_of es) ns) (all_of s' (exps_of (drop 0 es)) ns) old old
goals-none s s' es ns old here = record { goals = ap (λ z. old ++ (all_of z (exps_of es) ns).goals) here; names = ap (λ z. (all_of z (exps_of es) ns).names) here }

pub all-more : (s s' : Site) (es : List Exp) (i : ℕ) (x : Exp) (whole : SlotGoals) (m n : SlotNames) (old now new : List GoalTree) → i < length es → x ≡ get_or es i x → s' ≡ behind_exp s (exp_tree x) → AreGoals (goal_of s (exp_tree x) m) now new n →
    GoalsTo whole (all_of s (exps_of (drop i es)) m) old now → GoalsTo whole (all_of s' (exps_of (drop (i + 1) es)) n) old new
unfolding made_as
all-more s s' es i x whole m n old now new lt is go here so =
    let g : SlotGoals = goal_of s (exp_tree x) m in
    let after : ExpTrees = exps_of (drop (i + 1) es) in
    let rest : SlotGoals = all_of s' after n in
    let next : all_of s (exps_of (drop i es)) m ≡ joined g rest =
    ap (λ xs. all_of s (exps_of xs) m) (drop-next es i x lt is) ∙ (ap (λ ms. joined g (all_of (behind_exp s (exp_tree x)) after ms)) (sym here.names) ∙ ap (λ z. joined g (all_of z after n)) (sym go)) in
    record {
      goals = ap (λ gs. gs ++ rest.goals) here.goals ∙ (append_assoc now g.goals rest.goals ∙ (ap (λ (r : SlotGoals). now ++ r.goals) (sym next) ∙ so.goals));
      names = sym (ap (λ (r : SlotGoals). r.names) next) ∙ so.names;
    }

pub all-end : (s : Site) (es : List Exp) (i : ℕ) (whole : SlotGoals) (m : SlotNames) (old now : List GoalTree) → length es ≤ i → GoalsTo whole (all_of s (exps_of (drop i es)) m) old now → AreGoals whole old now m
unfolding made_as
all-end s es i whole m old now past so =
    let none : all_of s (exps_of (drop i es)) m ≡ record { goals = []; names = m } = ap (λ xs. all_of s (exps_of xs) m) (drop_all i es past) in
    record {
      goals = sym (append-nil now) ∙ (ap (λ (r : SlotGoals). now ++ r.goals) (sym none) ∙ so.goals);
      names = sym (ap (λ (r : SlotGoals). r.names) none) ∙ so.names;
    }

-- ---- indexes

-- places that are left, each where it stands
abbrev pub places_in : Site → ExpTrees → List (SlotNames → SlotValue)
places_in s es = values_in (following_sites s es) es

places-exp : (s : Site) (e : ExpTree) (es : ExpTrees) → places_in s (exp e es) ≡ (λ ns. value_of s e ns) ∷ places_in (behind_exp s e) es
unfolding made_as following_sites
places-exp s e es = refl

-- what is indexed so far, and the places that are left
pub record IndexedTo (whole : SlotValue) (rest : List (SlotNames → SlotValue)) (old now : List GoalTree) (t : Tree) (m : SlotNames) : Type 0 where
  pub value : SlotValue
  pub is : IsValue value old now t m
  pub same : indexed_by value rest ≡ whole

pub indexed-none : (s s' : Site) (es : List Exp) (v : SlotValue) (old now : List GoalTree) (t : Tree) (m : SlotNames) → s' ≡ s → IsValue v old now t m → IndexedTo (indexed_by v (places_in s (exps_of es))) (places_in s' (exps_of (drop 0 es))) old now t m
indexed-none s s' es v old now t m here is = record { value = v; is = is; same = ap (λ z. indexed_by v (places_in z (exps_of es))) here }

pub indexed-more : (s s' : Site) (es : List Exp) (i : ℕ) (x : Exp) (whole : SlotValue) (old one two new : List GoalTree) (t u w : Tree) (m n k : SlotNames) → i < length es → x ≡ get_or es i x → s' ≡ behind_exp s (exp_tree x) → IsValue (by_place true s (exp_tree x) m) one two u n →
    IsValue (applied index_name (record { goals = []; trees = t ∷ u ∷ []; names = n })) two new w k → IndexedTo whole (places_in s (exps_of (drop i es))) old one t m → IndexedTo whole (places_in s' (exps_of (drop (i + 1) es))) old new w k
unfolding indexed_by by_place_as
indexed-more s s' es i x whole old one two new t u w m n k lt is go place call so =
    let f : SlotNames → SlotValue = λ ns. value_of s (exp_tree x) ns in
    let rest : ExpTrees = exps_of (drop (i + 1) es) in
    record {
      value = indexed so.value f;
      is = put-indexed s (exp_tree x) so.value old one two new t u w m n k so.is place call;
      same = sym (ap (λ xs. indexed_by so.value (places_in s (exps_of xs))) (drop-next es i x lt is) ∙ (ap (λ vs. indexed_by so.value vs) (places-exp s (exp_tree x) rest)
          ∙ ap (λ z. indexed_by (indexed so.value f) (places_in z rest)) (sym go))) ∙ so.same;
    }

places-none : (s : Site) → places_in s no_exps ≡ []
unfolding made_as
places-none s = refl

pub indexed-end : (s : Site) (es : List Exp) (i : ℕ) (whole : SlotValue) (old now : List GoalTree) (t : Tree) (m : SlotNames) → length es ≤ i → IndexedTo whole (places_in s (exps_of (drop i es))) old now t m → IsValue whole old now t m
unfolding indexed_by
indexed-end s es i whole old now t m past so =
    value-as whole so.value old now t m (sym so.same ∙ (ap (λ xs. indexed_by so.value (places_in s (exps_of xs))) (drop_all i es past) ∙ ap (λ vs. indexed_by so.value vs) (places-none s))) so.is

-- ---- where calls end

and-second : (a b : Bool) → (a && b) ≡ true → b ≡ true
and-second true b h = h
and-second false b h = absurd (fails h)
  where
    fails : false ≡ true → ⊥
    fails h = cc

-- the readings past one more
later-next : (rs : List Reading) (j : ℕ) → drop (suc j) rs ≡ drop j (later_readings rs)
later-next [] zero = refl
later-next [] (suc j) = refl
later-next (r ∷ rs) j = refl

pub flat-behind : (rs : List Reading) (es : List Exp) (k j : ℕ) → k ≤ j → are_flat_as (drop k rs) (exps_of (drop k es)) ≡ true → are_flat_as (drop j rs) (exps_of (drop j es)) ≡ true
unfolding is_flat_as
flat-behind rs [] k j le flat = ap (λ xs. are_flat_as (drop j rs) (exps_of xs)) (drop_all j [] (omega arith))
flat-behind rs (x ∷ es) zero zero le flat = flat
flat-behind rs (x ∷ es) zero (suc j) le flat =
    let all : are_flat_as (later_readings rs) (exps_of es) ≡ true = and-second (is_flat_as (first_reading rs) (exp_tree x)) (are_flat_as (later_readings rs) (exps_of es)) flat in
    ap (λ qs. are_flat_as qs (exps_of (drop j es))) (later-next rs j) ∙ flat-behind (later_readings rs) es zero j (omega arith) all
flat-behind rs (x ∷ es) (suc k) zero le flat = absurd (omega arith)
flat-behind rs (x ∷ es) (suc k) (suc j) le flat =
    ap (λ qs. are_flat_as qs (exps_of (drop j es))) (later-next rs j) ∙ flat-behind (later_readings rs) es k j (omega arith) (ap (λ qs. are_flat_as qs (exps_of (drop k es))) (sym (later-next rs k)) ∙ flat)

is-false : (b : Bool) → (b ≡ true → ⊥) → b ≡ false
is-false true fail = absurd (fail refl)
is-false false fail = refl

apart : (b : Bool) → b ≡ true → b ≡ false → ⊥
apart b holds not = cc

-- none of those from a place on has a call in it
abbrev pub IsFlatFrom : List Reading → List Exp → ℕ → Type 0
IsFlatFrom rs es k = are_flat_as (drop k rs) (exps_of (drop k es)) ≡ true

pub ends-here : (rs : List Reading) (es : List Exp) (k i : ℕ) (r : Reading) (x : Exp) → k ≡ i + 1 → i < length es → x ≡ get_or es i x → r ≡ first_reading (drop i rs) → is_flat_as r (exp_tree x) ≡ false → IsFlatFrom rs es k → EndsCalls rs es k
ends-here rs es k i r x next lt is read not flat = record {
  flat = λ j le. flat-behind rs es k j le flat;
  calls = λ j less.
      is-false (are_flat_as (drop j rs) (exps_of (drop j es))) (λ holds. apart (are_flat_as (drop i rs) (exps_of (drop i es))) (flat-behind rs es j i (omega arith) holds) (flat-not rs es i r x lt is read not));
}

pub ends-first : (rs : List Reading) (es : List Exp) (k : ℕ) → k ≤ 0 → IsFlatFrom rs es k → EndsCalls rs es k
ends-first rs es k none flat = record {
  flat = λ j le. flat-behind rs es k j le flat;
  calls = λ j less. absurd (omega arith);
}

pub flat-before : (rs : List Reading) (es : List Exp) (k i : ℕ) (r : Reading) (x : Exp) → k ≡ i + 1 → i < length es → x ≡ get_or es i x → r ≡ first_reading (drop i rs) → is_flat_as r (exp_tree x) ≡ true → IsFlatFrom rs es k → IsFlatFrom rs es i
flat-before rs es k i r x next lt is read flat so = flat-more rs es i r x lt is read flat ∙ (ap (λ (n : ℕ). are_flat_as (drop n rs) (exps_of (drop n es))) (sym next) ∙ so)

pub flat-end : (rs : List Reading) (es : List Exp) (k : ℕ) → length es ≤ k → IsFlatFrom rs es k
flat-end rs es k past = flat-all rs es k past

pub ends-yes : (rs : List Reading) (es : List Exp) (k j : ℕ) (b : Bool) → EndsCalls rs es k → k ≤ j → b ≡ true → b ≡ are_flat_as (drop j rs) (exps_of (drop j es))
ends-yes rs es k j b ends le holds = holds ∙ sym (ends.flat j le)

pub ends-no : (rs : List Reading) (es : List Exp) (k j : ℕ) (b : Bool) → EndsCalls rs es k → j < k → b ≡ false → b ≡ are_flat_as (drop j rs) (exps_of (drop j es))
ends-no rs es k j b ends less fails = fails ∙ sym (ends.calls j less)

-- ---- parts or arguments

pub values-none : (b : Bool) (s s' : Site) (rs : List Reading) (es : List Exp) (ns : SlotNames) (old : List GoalTree) (ts : List Tree) → s' ≡ s → ts ≡ [] →
    ValuesTo (values_as b s rs (exps_of es) ns) (values_as b s' (drop 0 rs) (exps_of (drop 0 es)) ns) old old ts
values-none b s s' rs es ns old ts here empty =
    let vs : SlotValues = values_as b s rs (exps_of es) ns in
    let same : values_as b s' rs (exps_of es) ns ≡ vs = ap (λ z. values_as b z rs (exps_of es) ns) here in
    record {
      goals = ap (λ (r : SlotValues). old ++ r.goals) same;
      trees = ap (λ us. us ++ (values_as b s' rs (exps_of es) ns).trees) empty ∙ ap (λ (r : SlotValues). r.trees) same;
      names = ap (λ (r : SlotValues). r.names) same;
    }

pub values-step : (b : Bool) (s s' : Site) (rs : List Reading) (es : List Exp) (i : ℕ) (x : Exp) (r : Reading) (last : Bool) (whole : SlotValues) (m n : SlotNames) (old now new : List GoalTree) (ts us : List Tree) (t : Tree) → i < length es → x ≡ get_or es i x →
    r ≡ first_reading (drop i rs) → s' ≡ behind_exp s (exp_tree x) → last ≡ cond b false (are_flat_as (drop (i + 1) rs) (exps_of (drop (i + 1) es))) → IsValue (by_place_as r last s (exp_tree x) m) now new t n → us ≡ ts ++ t ∷ [] →
    ValuesTo whole (values_as b s (drop i rs) (exps_of (drop i es)) m) old now ts → ValuesTo whole (values_as b s' (drop (i + 1) rs) (exps_of (drop (i + 1) es)) n) old new us
unfolding by_place_as values_as
values-step true s s' rs es i x r last whole m n old now new ts us t lt is read go at value put so =
    parts-more s s' rs es i x r whole m n old now new ts us t lt is read go
    (value-as (value_before_as r s.filled (exp_tree x) m (made_as s r (exp_tree x) m)) (by_place_as r last s (exp_tree x) m) now new t n (ap (λ c. by_place_as r c s (exp_tree x) m) (sym at)) value) put so
values-step false s s' rs es i x r last whole m n old now new ts us t lt is read go at value put so = arguments-more s s' rs es i x r last whole m n old now new ts us t lt is read go at value put so

pub values-last : (b : Bool) (s : Site) (rs : List Reading) (es : List Exp) (i : ℕ) (whole : SlotValues) (m : SlotNames) (old now : List GoalTree) (ts : List Tree) → length es ≤ i → ValuesTo whole (values_as b s (drop i rs) (exps_of (drop i es)) m) old now ts →
    AreValues whole old now ts m
unfolding by_place_as values_as
values-last true s rs es i whole m old now ts past so = parts-end s rs es i whole m old now ts past so
values-last false s rs es i whole m old now ts past so = arguments-end s rs es i whole m old now ts past so

-- ---- an expression by its place

pub place-flat : (r : Reading) (b : Bool) (s : Site) (e : ExpTree) (ns : SlotNames) (old new : List GoalTree) (t : Tree) (m : SlotNames) → is_flat_as r e ≡ true → IsValue (flat_by b s.filled e ns) old new t m → IsValue (by_place_as r b s e ns) old new t m
unfolding by_place_as
place-flat r true s e ns old new t m flat is = value-as (by_place_as r true s e ns) (flat_by true s.filled e ns) old new t m (cond-true (is_flat_as r e) (flat_by true s.filled e ns) (made_as s r e ns) flat) is
place-flat r false s e ns old new t m flat is = value-as (by_place_as r false s e ns) (flat_by false s.filled e ns) old new t m (cond-true (is_flat_as r e) (flat_by false s.filled e ns) (made_as s r e ns) flat) is

pub place-made : (r : Reading) (b : Bool) (s : Site) (e : ExpTree) (ns : SlotNames) (old new : List GoalTree) (t : Tree) (m : SlotNames) → is_flat_as r e ≡ false → IsValue (made_as s r e ns) old new t m → IsValue (by_place_as r b s e ns) old new t m
unfolding by_place_as
place-made r true s e ns old new t m not is = value-as (by_place_as r true s e ns) (made_as s r e ns) old new t m (cond-false (is_flat_as r e) (flat_by true s.filled e ns) (made_as s r e ns) not) is
place-made r false s e ns old new t m not is = value-as (by_place_as r false s e ns) (made_as s r e ns) old new t m (cond-false (is_flat_as r e) (flat_by false s.filled e ns) (made_as s r e ns) not) is

pub flat-last : (b : Bool) (h : ℕ) (e : ExpTree) (ns : SlotNames) (old : List GoalTree) (t : Tree) (m : SlotNames) → b ≡ true → t ≡ (slot_term e ns).tree → m ≡ (slot_term e ns).names → IsValue (flat_by b h e ns) old old t m
flat-last b h e ns old t m last shape names =
    value-as (flat_by b h e ns) (as_it_stands (slot_term e ns)) old old t m (cond-true b (as_it_stands (slot_term e ns)) (filled_before h (length ns) (slot_term e ns)) last)
    (record { goals = sym (append-nil old); tree = shape; names = names })

pub flat-filled : (b : Bool) (h : ℕ) (e : ExpTree) (ns : SlotNames) (k : ℕ) (old new : List GoalTree) (t : Tree) (m : SlotNames) → b ≡ false → k ≡ length ns → t ≡ (slot_term e ns).tree → m ≡ (slot_term e ns).names →
    new ≡ old ++ cond (is_below h t) [] (filling k t ∷ []) → IsValue (flat_by b h e ns) old new t m
flat-filled b h e ns k old new t m not count shape names put =
    value-as (flat_by b h e ns) (filled_before h (length ns) (slot_term e ns)) old new t m (cond-false b (as_it_stands (slot_term e ns)) (filled_before h (length ns) (slot_term e ns)) not)
    (record {
      goals = put ∙ (ap (λ n. old ++ cond (is_below h t) [] (filling n t ∷ [])) count ∙ ap (λ u. old ++ cond (is_below h u) [] (filling (length ns) u ∷ [])) shape);
      tree = shape;
      names = names;
    })
