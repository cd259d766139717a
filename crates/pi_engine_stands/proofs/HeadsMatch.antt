-- Heads of rules against the arguments of a call, a test or a pattern after another.
use Rattle.std.proofs.Common.{◌≡◌, ◌≢◌, ℕ, ℤ, zero, suc, ◌+◌, ◌≤◌, ◌<◌, ◌==◌, Bool, true, false, cond, List, [], ◌∷◌, ◌++◌, Option, Some, None, inl, inr, length, take, drop, set, get_or, refl, sym, ◌∙◌, ap, subst, arith, eqb-true, lt-ltb, drop-cons, add-one}
use Rattle.std.specs.Prelude.{slice_get, replicate, IsSome}
use Rattle.std.specs.Option.{option_and_then}
use Rattle.std.specs.Ordering.{is_eq}
use Rattle.std.specs.declared.cmp.Ordering.{Ordering}
use Rattle.std.proofs.lemmas.List.{take-set-le, take-append-le, length-set, length-take, length-drop, length-append, length-replicate}
use Rattle.std.proofs.Math.Seq.{drop-append_seam, take-length}
use Rattle.std.proofs.lemmas.Option.{get_or_from_slice_get, slice_get_within, slice_get-get_or}
use Rattle.std.proofs.lemmas.Bool.{cases_Bool, eqb-false, le-ltb}
use Rattle.pi_constraints.proofs.MatchLemmas.{identical_from_same, differs}
use Rattle.pi_terms.specs.Tree.{Tree, var, int, atom, comp, Trees, no_trees, tree}
use Rattle.pi_terms.specs.Places.{Places, held}
use Rattle.pi_terms.specs.Order.{order, identical}
use Rattle.pi_terms.specs.PatternTree.{PatternTree, slot, exact_int, PatternTrees, no_patterns, pattern}
use Rattle.pi_constraints.specs.HeadMatch.{taken_in, filled_in, matched_in, matched_all_in}
use Rattle.pi_meaning.specs.CoreMeaning.Sound.{pattern_count}
use Rattle.pi_constraints.specs.Value.{Bindings, value}
use Rattle.pi_constraints.specs.State.{bindings, followed}
use Rattle.pi_constraints.specs.Store.{Terms, StoreView, IsTerm, IsName, ShowsCell}
use Rattle.pi_constraints.specs.declared.store.Ref.{Ref}
use Rattle.pi_constraints.specs.declared.store.Cell.{Cell}
use Rattle.pi_core.specs.CoreTree.{pattern_tree, pattern_trees}
use Rattle.pi_core.specs.declared.core_program.Pattern.{Pattern}
use Rattle.pi_unify.specs.Terms.{IsGiven}
use Rattle.pi_unify.specs.Matching.{is_int_in, slot_terms, HoldAllGiven, TellsMatch}
use Rattle.pi_unify.proofs.TermValues.{term_given}
use Rattle.pi_unify.proofs.SlotLemmas.{int_told}
use Rattle.pi_engine_code.specs.declared.code.HeadTest.{HeadTest}
use Rattle.pi_engine_arenas.specs.Blocks.{BlocksView, KeepsBlocks}
use Rattle.pi_engine_stands.specs.Here.{Block, block_end, AreHeld, Holds, HoldsArguments}
use Rattle.pi_meaning.specs.Machine.Configuration.{in_places}
use Rattle.pi_engine_code.specs.LaidRules.{IsTestOf}
use Rattle.pi_engine_stands.specs.Stands.{AreTestsOf, NoneIsDeep}
use Rattle.pi_engine_arenas.specs.Frames.{slot_number}
use Rattle.pi_engine_stands.specs.Tries.{KeepsFront, RuleSlots, TellsHead, FillsHead, FillsSlots, is_atom_cell}
use Rattle.pi_engine_arenas.proofs.BlocksLemmas.{keeps_same, keeps_then}
use Rattle.pi_engine_stands.proofs.HereLemmas.{part-agrees}
use Rattle.pi_engine_stands.proofs.SlotsStand.{IsHeldAt, held-length, holds-at, holds-set}
use Rattle.pi_terms.proofs.ListLemmas.{none-past}

-- ---- one after the other

pub front-none : (a : BlocksView) (limit : ℕ) → limit ≤ length a.slots → KeepsFront a a limit
front-none a limit long = record { long = long; front = refl; keeps = keeps_same a; kept = refl }

pub front-then : (a b c : BlocksView) (limit : ℕ) → KeepsFront a b limit → KeepsFront b c limit → KeepsFront a c limit
front-then a b c limit one two = record { long = two.long; front = two.front ∙ one.front; keeps = keeps_then a b c one.keeps two.keeps; kept = two.kept ∙ one.kept }

-- ---- a test that fills nothing

tells-cond : (t : Terms) (xs : List (Option Ref)) (b : Block) (e : Places) (found test : Bool) → found ≡ test → Holds t xs b e → TellsHead t xs b found (cond test (Some e) None)
tells-cond t xs b e true true same holds = holds
tells-cond t xs b e true false same holds = absurd cc
tells-cond t xs b e false true same holds = absurd cc
tells-cond t xs b e false false same holds = tt

pub asked : {M : Type 0} (v : StoreView M) (a : BlocksView) (b : Block) (e : Places) (found test : Bool) → RuleSlots v a b e → found ≡ test → FillsSlots v.now.terms a a b found (cond test (Some e) None)
asked v a b e found test slots same =
    record { as_many = refl; head = record { keeps = front-none a (b.base + b.first) (omega (arith, slots.last)); tells = tells-cond v.now.terms a.slots b e found test same slots.holds } }

-- ---- a slot

held-past : (e : Places) (k : ℕ) → length e ≤ k → held e k ≡ None
held-past [] k past = refl
held-past (x ∷ e) zero past = absurd (omega (arith, past))
held-past (x ∷ e) (suc k) past = held-past e k (omega (arith, past))

-- as many places as slots
places-count : (t : Terms) (xs : List (Option Ref)) (b : Block) (e : Places) → Holds t xs b e → length e ≡ b.count
places-count t xs b e holds = omega (arith, held-length t (take b.count (drop (b.base + b.first) xs)) e holds.held, holds.within, length-take b.count (drop (b.base + b.first) xs), length-drop (b.base + b.first) xs)

-- past the last slot nothing is taken
pub taken-past : (b : Bindings) (e : Places) (k : ℕ) (t : Tree) → length e ≤ k → filled_in b k t e ≡ None
taken-past b e k t past = ap (λ o. taken_in b o e k t) (held-past e k past) ∙ ap (λ c. cond c (Some (set e k (Some t))) None) (le-ltb k (length e) past)

-- where a slot lies that is there
slot-there : (b : Block) (k i many : ℕ) → i ≡ slot_number (b.base + b.first) k → i < many → many ≡ block_end b → many ≤ 18446744073709551615 → i ≡ b.base + b.first + k
slot-there b k i many at within all most = omega (arith, at, within, all, most)

pub filled-past : {M : Type 0} (v : StoreView M) (a : BlocksView) (b : Block) (e : Places) (k i : ℕ) (t : Tree) → RuleSlots v a b e → i ≡ slot_number (b.base + b.first) k → slice_get a.slots i ≡ None →
    FillsSlots v.now.terms a a b false (filled_in (bindings v.now.state) k t e)
filled-past v a b e k i t slots at none =
    let past : length e ≤ k = omega (arith, at, none-past a.slots i none, slots.last, places-count v.now.terms a.slots b e slots.holds) in
    record {
      as_many = refl;
      head = record { keeps = front-none a (b.base + b.first) (omega (arith, slots.last)); tells = subst (λ m. TellsHead v.now.terms a.slots b false m) (sym (taken-past (bindings v.now.state) e k t past)) tt };
    }

held-none : (t : Terms) (o : Option Tree) → IsHeldAt t None o → o ≡ None
held-none t None h = refl
held-none t (Some x) h = absurd h

held-some : (t : Terms) (r : Ref) (o : Option Tree) → IsHeldAt t (Some r) o → (x : Tree) × (o ≡ Some x) × (t r.number ≡ Some x)
held-some t r None h = absurd h
held-some t r (Some x) h = (x, refl, h)

pub filled-empty : {M : Type 0} (v : StoreView M) (a c : BlocksView) (b : Block) (e : Places) (k i : ℕ) (r : Ref) (t : Tree) → RuleSlots v a b e → i ≡ slot_number (b.base + b.first) k → length a.slots ≤ 18446744073709551615 →
    slice_get a.slots i ≡ Some None → IsTerm v r t → c.slots ≡ set a.slots i (Some r) → KeepsBlocks a c → c.kept ≡ a.kept → FillsSlots v.now.terms a c b true (filled_in (bindings v.now.state) k t e)
filled-empty v a c b e k i r t slots at most is term new keeps kept =
    let below : i < length a.slots = slice_get_within a.slots i None is in
    let there : i ≡ b.base + b.first + k = slot-there b k i (length a.slots) at below slots.last most in
    let within : k < b.count = omega (arith, there, below, slots.last) in
    let none : held e k ≡ None = held-none v.now.terms (held e k)
    (subst (λ o. IsHeldAt v.now.terms o (held e k)) (ap (λ n. get_or a.slots n None) (sym there) ∙ get_or_from_slice_get a.slots i None None is) (holds-at v.now.terms a.slots b e k within slots.holds)) in
    let now : c.slots ≡ set a.slots (b.base + b.first + k) (Some r) = new ∙ ap (λ n. set a.slots n (Some r)) there in
    let takes : filled_in (bindings v.now.state) k t e ≡ Some (set e k (Some t)) =
    ap (λ o. taken_in (bindings v.now.state) o e k t) none
    ∙ ap (λ d. cond d (Some (set e k (Some t))) None) (lt-ltb k (length e) (omega (arith, within, places-count v.now.terms a.slots b e slots.holds))) in
    let many : length c.slots ≡ length a.slots = ap length now ∙ length-set a.slots (b.base + b.first + k) (Some r) in
    record {
      as_many = many;
      head = record {
        keeps = record {
          long = omega (arith, many, slots.last);
          front = ap (take (b.base + b.first)) now ∙ take-set-le (b.base + b.first) a.slots (b.base + b.first + k) (Some r) (omega arith);
          keeps = keeps;
          kept = kept;
        };
        tells = subst (λ m. TellsHead v.now.terms c.slots b true m) (sym takes)
            (subst (λ xs. Holds v.now.terms xs b (set e k (Some t))) (sym now) (holds-set v.now.terms a.slots b e k r t term slots.holds));
      };
    }

pub filled-held : {M : Type 0} (v : StoreView M) (a : BlocksView) (b : Block) (e : Places) (k i : ℕ) (h : Ref) (t : Tree) (found : Bool) (o : Ordering) → RuleSlots v a b e → i ≡ slot_number (b.base + b.first) k → length a.slots ≤ 18446744073709551615 →
    slice_get a.slots i ≡ Some (Some h) → found ≡ is_eq o → ((u : Tree) → IsTerm v h u → o ≡ order (value (bindings v.now.state) u) (value (bindings v.now.state) t)) →
    FillsSlots v.now.terms a a b found (filled_in (bindings v.now.state) k t e)
filled-held v a b e k i h t found o slots at most is same compared =
    let below : i < length a.slots = slice_get_within a.slots i (Some h) is in
    let there : i ≡ b.base + b.first + k = slot-there b k i (length a.slots) at below slots.last most in
    let within : k < b.count = omega (arith, there, below, slots.last) in
    let it : (x : Tree) × (held e k ≡ Some x) × (v.now.terms h.number ≡ Some x) = held-some v.now.terms h (held e k)
    (subst (λ r. IsHeldAt v.now.terms r (held e k)) (ap (λ n. get_or a.slots n None) (sym there) ∙ get_or_from_slice_get a.slots i (Some h) None is) (holds-at v.now.terms a.slots b e k within slots.holds)) in
    subst (λ r. FillsSlots v.now.terms a a b found (taken_in (bindings v.now.state) r e k t)) (sym it.1)
    (asked v a b e found (identical (value (bindings v.now.state) it.0) (value (bindings v.now.state) t)) slots (same ∙ ap is_eq (compared it.0 it.2)))

-- ---- an atom by its number

one-some : {X : Type 0} (o : Option X) (x y : X) → o ≡ Some x → o ≡ Some y → x ≡ y
one-some o x y h k = cc

same-name : {M : Type 0} (v : StoreView M) (j k : ℕ) (name f : List ℕ) → j ≡ k → IsName v k name → IsName v j f → name ≡ f
same-name v j k name f same is named = one-some (slice_get v.names k) name f is (ap (slice_get v.names) (sym same) ∙ named)

name_of : Tree → List ℕ
name_of (var n) = []
name_of (int n) = []
name_of (atom name) = name
name_of (comp f ts) = f

other-name : {M : Type 0} (v : StoreView M) (j k : ℕ) (name f : List ℕ) → ((j == k) ≡ false) → ((i j : ℕ) (g : List ℕ) → IsName v i g → IsName v j g → i ≡ j) → IsName v k name → IsName v j f → atom name ≢ atom f
unfolding name_of
other-name v j k name f other distinct is named same =
    eqb-false j k other (distinct j k f named (is ∙ ap (λ n. Some (name_of n)) same))

pub atom-asked : {M : Type 0} (v : StoreView M) (t : Tree) (c : Cell) (k : ℕ) (name : List ℕ) → ((i j : ℕ) (f : List ℕ) → IsName v i f → IsName v j f → i ≡ j) → IsName v k name → ShowsCell v t c → is_atom_cell k c ≡ identical (atom name) t
unfolding order
atom-asked v t (Cell.Var m) k name distinct is shown = sym (ap (identical (atom name)) shown)
atom-asked v t (Cell.Int n) k name distinct is shown = sym (ap (identical (atom name)) shown)
atom-asked v t (Cell.Comp j count) k name distinct is (f, named, shown, many) = sym (ap (identical (atom name)) shown)
atom-asked v t (Cell.Atom j) k name distinct is (f, named, shown) = elim (cases_Bool (j == k)) [
  | inl same ↦ same ∙ sym (ap (identical (atom name)) shown ∙ identical_from_same (atom name) (atom f) (ap atom (same-name v j k name f (eqb-true j k same) is named)))
  | inr other ↦ other ∙ sym (ap (identical (atom name)) shown ∙ differs (atom name) (atom f) (other-name v j k name f other distinct is named))
]

-- ---- a test of one argument

pub asks-int : {M : Type 0} (v : StoreView M) (a : BlocksView) (b : Block) (p : PatternTree) (t : Tree) (e : Places) (n : ℤ) (c : Cell) (found : Bool) → RuleSlots v a b e → p ≡ exact_int n → found ≡ is_int_in n c →
    ShowsCell v (followed (bindings v.now.state) t) c → FillsSlots v.now.terms a a b found (matched_in (bindings v.now.state) p t e)
unfolding matched_in
asks-int v a b p t e n c found slots is same shown =
    subst (λ q. FillsSlots v.now.terms a a b found (matched_in (bindings v.now.state) q t e)) (sym is)
    (asked v a b e found (identical (int n) (followed (bindings v.now.state) t)) slots (same ∙ int_told v (followed (bindings v.now.state) t) c n shown))

pub asks-atom : {M : Type 0} (v : StoreView M) (a : BlocksView) (b : Block) (p : PatternTree) (t : Tree) (e : Places) (k : ℕ) (c : Cell) (found : Bool) → RuleSlots v a b e → IsTestOf v.names p (HeadTest.Atom k) → found ≡ is_atom_cell k c →
    ((i j : ℕ) (f : List ℕ) → IsName v i f → IsName v j f → i ≡ j) → ShowsCell v (followed (bindings v.now.state) t) c → FillsSlots v.now.terms a a b found (matched_in (bindings v.now.state) p t e)
unfolding matched_in
asks-atom v a b p t e k c found slots (name, named, is) same distinct shown =
    subst (λ q. FillsSlots v.now.terms a a b found (matched_in (bindings v.now.state) q t e)) (sym is)
    (asked v a b e found (identical (atom name) (followed (bindings v.now.state) t)) slots (same ∙ atom-asked v (followed (bindings v.now.state) t) c k name distinct named shown))

pub asks-slot : {M : Type 0} (v : StoreView M) (a c : BlocksView) (b : Block) (p : PatternTree) (t : Tree) (e : Places) (k : ℕ) (found : Bool) → p ≡ slot k →
    FillsSlots v.now.terms a c b found (filled_in (bindings v.now.state) k t e) → FillsSlots v.now.terms a c b found (matched_in (bindings v.now.state) p t e)
unfolding matched_in
asks-slot v a c b p t e k found is told = subst (λ q. FillsSlots v.now.terms a c b found (matched_in (bindings v.now.state) q t e)) (sym is) told

-- ---- arguments, one after another

-- the first of some arguments
pub record NextArgument (t : Terms) (xs : List (Option Ref)) (base n : ℕ) (r : Ref) (ts : Trees) : Type 0 where
  pub it : Tree
  pub behind : Trees
  pub is : ts ≡ tree it behind
  pub at : t r.number ≡ Some it
  pub rest : HoldsArguments t xs (base + 1) n behind

held-first : (t : Terms) (rs : List (Option Ref)) (r : Ref) (ts : Trees) → AreHeld t (Some r ∷ rs) (in_places ts) → (it : Tree) × (behind : Trees) × (ts ≡ tree it behind) × (t r.number ≡ Some it) × AreHeld t rs (in_places behind)
unfolding AreHeld in_places
held-first t rs r no_trees held = absurd held
held-first t rs r (tree it behind) held = (it, behind, refl, held.0, held.1)

held-no-first : (t : Terms) (rs : List (Option Ref)) (ts : Trees) → AreHeld t (None ∷ rs) (in_places ts) → ⊥
unfolding AreHeld in_places
held-no-first t rs no_trees held = held
held-no-first t rs (tree it behind) held = held

-- they begin with what the first slot holds
arguments-cons : (t : Terms) (xs : List (Option Ref)) (base n : ℕ) (o : Option Ref) (ts : Trees) → HoldsArguments t xs base (suc n) ts → get_or xs base None ≡ o → AreHeld t (o ∷ take n (drop (base + 1) xs)) (in_places ts)
arguments-cons t xs base n o ts holds is =
    let front : drop base xs ≡ o ∷ drop (base + 1) xs = drop-cons xs base None (omega (arith, holds.within)) ∙ ap (λ q. q ∷ drop (suc base) xs) is ∙ ap (λ k. o ∷ drop k xs) (sym (add-one base)) in
    subst (λ q. AreHeld t (take (suc n) q) (in_places ts)) front holds.held

pub argument-next : (t : Terms) (xs : List (Option Ref)) (base n : ℕ) (r : Ref) (ts : Trees) → HoldsArguments t xs base (suc n) ts → get_or xs base None ≡ Some r → NextArgument t xs base n r ts
argument-next t xs base n r ts holds is =
    let first : (it : Tree) × (behind : Trees) × (ts ≡ tree it behind) × (t r.number ≡ Some it) × AreHeld t (take n (drop (base + 1) xs)) (in_places behind) =
    held-first t (take n (drop (base + 1) xs)) r ts (arguments-cons t xs base n (Some r) ts holds is) in
    record { it = first.0; behind = first.1; is = first.2; at = first.3; rest = record { within = omega (arith, holds.within); held = first.4 } }

pub argument-there : (t : Terms) (xs : List (Option Ref)) (base n : ℕ) (ts : Trees) → HoldsArguments t xs base (suc n) ts → get_or xs base None ≡ None → ⊥
argument-there t xs base n ts holds is = held-no-first t (take n (drop (base + 1) xs)) ts (arguments-cons t xs base n None ts holds is)

no-arguments : (t : Terms) (xs : List (Option Ref)) (base : ℕ) (ts : Trees) → HoldsArguments t xs base 0 ts → ts ≡ no_trees
unfolding AreHeld in_places
no-arguments t xs base no_trees holds = refl
no-arguments t xs base (tree it behind) holds = absurd holds.held

pub arguments-stay : (t : Terms) (xs ys : List (Option Ref)) (base n limit : ℕ) (ts : Trees) → base + n ≤ limit → limit ≤ length ys → take limit ys ≡ take limit xs → HoldsArguments t xs base n ts → HoldsArguments t ys base n ts
arguments-stay t xs ys base n limit ts fits long front holds =
    record { within = omega (arith, fits, long); held = subst (λ q. AreHeld t q (in_places ts)) (part-agrees base n limit xs ys fits (sym front)) holds.held }

-- ---- tests, one after another

-- what is left of the tests comes to the same as all of them
pub record TestsLeft {M : Type 0} (v : StoreView M) (a c : BlocksView) (b : Block) (base i : ℕ) (left : List HeadTest) (whole : Option Places) : Type 0 where
  pub patterns : PatternTrees
  pub terms : Trees
  pub slots : Places
  pub tests : AreTestsOf v.names patterns left
  pub count : pattern_count patterns ≡ length left
  pub args : HoldsArguments v.now.terms c.slots (base + i) (length left) terms
  pub is : RuleSlots v c b slots
  pub as_many : length c.slots ≡ length a.slots
  pub keeps : KeepsFront a c (b.base + b.first)
  pub same : whole ≡ matched_all_in (bindings v.now.state) patterns terms slots

pub tests-all : {M : Type 0} (v : StoreView M) (a : BlocksView) (b : Block) (base : ℕ) (tests : List HeadTest) (ps : PatternTrees) (ts : Trees) (e : Places) → RuleSlots v a b e → pattern_count ps ≡ length tests →
    AreTestsOf v.names ps tests → HoldsArguments v.now.terms a.slots base (length tests) ts → TestsLeft v a a b base 0 tests (matched_all_in (bindings v.now.state) ps ts e)
tests-all v a b base tests ps ts e slots count are args =
    record {
      patterns = ps;
      terms = ts;
      slots = e;
      tests = are;
      count = count;
      args = subst (λ n. HoldsArguments v.now.terms a.slots n (length tests) ts) (search arith) args;
      is = slots;
      as_many = refl;
      keeps = front-none a (b.base + b.first) (omega (arith, slots.last));
      same = refl;
    }

-- the next test, with those behind it
pub record NextTest {M : Type 0} (v : StoreView M) (a c : BlocksView) (b : Block) (base i : ℕ) (r : Ref) (test : HeadTest) (rest : List HeadTest) (whole : Option Places) : Type 0 where
  pub one : PatternTree
  pub patterns : PatternTrees
  pub term : Tree
  pub terms : Trees
  pub slots : Places
  pub is_test : IsTestOf v.names one test
  pub is_term : IsTerm v r term
  pub tests : AreTestsOf v.names patterns rest
  pub count : pattern_count patterns ≡ length rest
  pub args : HoldsArguments v.now.terms c.slots (base + (i + 1)) (length rest) terms
  pub is : RuleSlots v c b slots
  pub as_many : length c.slots ≡ length a.slots
  pub keeps : KeepsFront a c (b.base + b.first)
  pub same : whole ≡ option_and_then (matched_all_in (bindings v.now.state) patterns terms) (matched_in (bindings v.now.state) one term slots)

some-pattern : {M : Type 0} (v : StoreView M) (ps : PatternTrees) (test : HeadTest) (rest : List HeadTest) → AreTestsOf v.names ps (test ∷ rest) → pattern_count ps ≡ suc (length rest) →
    (p : PatternTree) × (qs : PatternTrees) × (ps ≡ pattern p qs) × IsTestOf v.names p test × AreTestsOf v.names qs rest × (pattern_count qs ≡ length rest)
unfolding AreTestsOf pattern_count
some-pattern v no_patterns test rest are count = absurd (omega (arith, count))
some-pattern v (pattern p qs) test rest are count = (p, qs, refl, are.0, are.1, omega (arith, count))

pub test-next : {M : Type 0} (v : StoreView M) (a c : BlocksView) (b : Block) (base i : ℕ) (r : Ref) (test : HeadTest) (left rest : List HeadTest) (whole : Option Places) → TestsLeft v a c b base i left whole → left ≡ test ∷ rest →
    get_or c.slots (base + i) None ≡ Some r → NextTest v a c b base i r test rest whole
unfolding matched_in
test-next v a c b base i r test left rest whole tests is found =
    let many : length left ≡ suc (length rest) = ap length is in
    let some : (p : PatternTree) × (qs : PatternTrees) × (tests.patterns ≡ pattern p qs) × IsTestOf v.names p test × AreTestsOf v.names qs rest × (pattern_count qs ≡ length rest) =
    some-pattern v tests.patterns test rest (subst (AreTestsOf v.names tests.patterns) is tests.tests) (tests.count ∙ many) in
    let next : NextArgument v.now.terms c.slots (base + i) (length rest) r tests.terms =
    argument-next v.now.terms c.slots (base + i) (length rest) r tests.terms (subst (λ n. HoldsArguments v.now.terms c.slots (base + i) n tests.terms) many tests.args) found in
    record {
      one = some.0;
      patterns = some.1;
      term = next.it;
      terms = next.behind;
      slots = tests.slots;
      is_test = some.3;
      is_term = next.at;
      tests = some.4;
      count = some.5;
      args = subst (λ n. HoldsArguments v.now.terms c.slots n (length rest) next.behind) (search arith) next.rest;
      is = tests.is;
      as_many = tests.as_many;
      keeps = tests.keeps;
      same = tests.same ∙ ap (λ ps. matched_all_in (bindings v.now.state) ps tests.terms tests.slots) some.2 ∙ ap (λ ts. matched_all_in (bindings v.now.state) (pattern some.0 some.1) ts tests.slots) next.is;
    }

pub tests-there : {M : Type 0} (v : StoreView M) (a c : BlocksView) (b : Block) (base i : ℕ) (test : HeadTest) (left rest : List HeadTest) (whole : Option Places) → TestsLeft v a c b base i left whole → left ≡ test ∷ rest → get_or c.slots (base + i) None ≡ None → ⊥
tests-there v a c b base i test left rest whole tests is none =
    argument-there v.now.terms c.slots (base + i) (length rest) tests.terms (subst (λ n. HoldsArguments v.now.terms c.slots (base + i) n tests.terms) (ap length is) tests.args) none

told-false : (t : Terms) (xs : List (Option Ref)) (b : Block) (m : Option Places) → TellsHead t xs b false m → m ≡ None
told-false t xs b None told = refl
told-false t xs b (Some e) told = absurd told

told-true : (t : Terms) (xs : List (Option Ref)) (b : Block) (m : Option Places) → TellsHead t xs b true m → (e : Places) × (m ≡ Some e) × Holds t xs b e
told-true t xs b None told = absurd told
told-true t xs b (Some e) told = (e, refl, told)

-- an argument doesn't pass its test
pub test-failed : {M : Type 0} (v : StoreView M) (a c d : BlocksView) (b : Block) (base i : ℕ) (r : Ref) (test : HeadTest) (rest : List HeadTest) (whole : Option Places) → (next : NextTest v a c b base i r test rest whole) →
    FillsSlots v.now.terms c d b false (matched_in (bindings v.now.state) next.one next.term next.slots) → FillsSlots v.now.terms a d b false whole
test-failed v a c d b base i r test rest whole next told =
    let none : whole ≡ None = next.same ∙ ap (option_and_then (matched_all_in (bindings v.now.state) next.patterns next.terms)) (told-false v.now.terms d.slots b _ told.head.tells) in
    record {
      as_many = told.as_many ∙ next.as_many;
      head = record { keeps = front-then a c d (b.base + b.first) next.keeps told.head.keeps; tells = subst (λ m. TellsHead v.now.terms d.slots b false m) (sym none) tt };
    }

-- it passes
pub test-passed : {M : Type 0} (v : StoreView M) (a c d : BlocksView) (b : Block) (base i : ℕ) (r : Ref) (test : HeadTest) (rest : List HeadTest) (whole : Option Places) → (next : NextTest v a c b base i r test rest whole) →
    base + (i + 1) + length rest ≤ b.base + b.first → FillsSlots v.now.terms c d b true (matched_in (bindings v.now.state) next.one next.term next.slots) → TestsLeft v a d b base (i + 1) rest whole
test-passed v a c d b base i r test rest whole next fits told =
    let some : (e : Places) × (matched_in (bindings v.now.state) next.one next.term next.slots ≡ Some e) × Holds v.now.terms d.slots b e = told-true v.now.terms d.slots b _ told.head.tells in
    record {
      patterns = next.patterns;
      terms = next.terms;
      slots = some.0;
      tests = next.tests;
      count = next.count;
      args = arguments-stay v.now.terms c.slots d.slots (base + (i + 1)) (length rest) (b.base + b.first) next.terms fits told.head.keeps.long told.head.keeps.front next.args;
      is = record { state = next.is.state; last = told.as_many ∙ next.is.last; over = omega (arith, told.head.keeps.kept, next.is.over); holds = some.2 };
      as_many = told.as_many ∙ next.as_many;
      keeps = front-then a c d (b.base + b.first) next.keeps told.head.keeps;
      same = next.same ∙ ap (option_and_then (matched_all_in (bindings v.now.state) next.patterns next.terms)) some.1;
    }

-- an argument that passes a test, or doesn't
abbrev pub Accepts : {M : Type 0} → StoreView M → BlocksView → BlocksView → Block → Ref → HeadTest → Bool → Type 0
Accepts v c d b r test found =
    (p : PatternTree) (t : Tree) (e : Places) → RuleSlots v c b e → IsTestOf v.names p test → test ≢ HeadTest.Deep → IsTerm v r t → FillsSlots v.now.terms c d b found (matched_in (bindings v.now.state) p t e)

next-at : {M : Type 0} (v : StoreView M) (a c : BlocksView) (b : Block) (base i : ℕ) (all : List HeadTest) (one : HeadTest) (r : Ref) (whole : Option Places) → i < length all → TestsLeft v a c b base i (drop i all) whole →
    get_or c.slots (base + i) None ≡ Some r → NextTest v a c b base i r (get_or all i one) (drop (suc i) all) whole
next-at v a c b base i all one r whole within tests found =
    test-next v a c b base i r (get_or all i one) (drop i all) (drop (suc i) all) whole tests (drop-cons all i one within) found

pub tests-fail : {M : Type 0} (v : StoreView M) (a c d : BlocksView) (b : Block) (base i : ℕ) (all : List HeadTest) (one : HeadTest) (r : Ref) (found : Bool) (whole : Option Places) → i < length all → NoneIsDeep all →
    TestsLeft v a c b base i (drop i all) whole → get_or c.slots (base + i) None ≡ Some r → found ≡ false → Accepts v c d b r (get_or all i one) found → FillsSlots v.now.terms a d b false whole
tests-fail v a c d b base i all one r found whole within deep tests is same told =
    let next : NextTest v a c b base i r (get_or all i one) (drop (suc i) all) whole = next-at v a c b base i all one r whole within tests is in
    test-failed v a c d b base i r (get_or all i one) (drop (suc i) all) whole next
    (subst (λ f. FillsSlots v.now.terms c d b f (matched_in (bindings v.now.state) next.one next.term next.slots)) same (told next.one next.term next.slots next.is next.is_test (deep i (get_or all i one) (slice_get-get_or all i one within)) next.is_term))

pub tests-pass : {M : Type 0} (v : StoreView M) (a c d : BlocksView) (b : Block) (base i : ℕ) (all : List HeadTest) (one : HeadTest) (r : Ref) (found : Bool) (whole : Option Places) → i < length all → NoneIsDeep all → base + length all ≤ b.base + b.first →
    TestsLeft v a c b base i (drop i all) whole → get_or c.slots (base + i) None ≡ Some r → found ≡ true → Accepts v c d b r (get_or all i one) found → TestsLeft v a d b base (i + 1) (drop (i + 1) all) whole
tests-pass v a c d b base i all one r found whole within deep fits tests is same told =
    let next : NextTest v a c b base i r (get_or all i one) (drop (suc i) all) whole = next-at v a c b base i all one r whole within tests is in
    subst (λ n. TestsLeft v a d b base (i + 1) (drop n all) whole) (sym (add-one i))
    (test-passed v a c d b base i r (get_or all i one) (drop (suc i) all) whole next (omega (arith, fits, within, length-drop (suc i) all))
    (subst (λ f. FillsSlots v.now.terms c d b f (matched_in (bindings v.now.state) next.one next.term next.slots)) same (told next.one next.term next.slots next.is next.is_test (deep i (get_or all i one) (slice_get-get_or all i one within)) next.is_term)))

pub tests-some : {M : Type 0} (v : StoreView M) (a c : BlocksView) (b : Block) (base i : ℕ) (all : List HeadTest) (one : HeadTest) (whole : Option Places) → i < length all → TestsLeft v a c b base i (drop i all) whole → get_or c.slots (base + i) None ≡ None → ⊥
tests-some v a c b base i all one whole within tests none = tests-there v a c b base i (get_or all i one) (drop i all) (drop (suc i) all) whole tests (drop-cons all i one within) none

no-patterns-left : (ps : PatternTrees) → pattern_count ps ≡ 0 → ps ≡ no_patterns
unfolding pattern_count
no-patterns-left no_patterns none = refl
no-patterns-left (pattern p ps) none = absurd (omega (arith, none))

-- all have passed
pub tests-done : {M : Type 0} (v : StoreView M) (a c : BlocksView) (b : Block) (base i : ℕ) (left : List HeadTest) (whole : Option Places) → TestsLeft v a c b base i left whole → left ≡ [] → FillsSlots v.now.terms a c b true whole
unfolding matched_in
tests-done v a c b base i left whole tests is =
    let none : tests.patterns ≡ no_patterns = no-patterns-left tests.patterns (tests.count ∙ ap length is) in
    let empty : tests.terms ≡ no_trees = no-arguments v.now.terms c.slots (base + i) tests.terms (subst (λ n. HoldsArguments v.now.terms c.slots (base + i) n tests.terms) (ap length is) tests.args) in
    let all : whole ≡ Some tests.slots =
    tests.same ∙ ap (λ ps. matched_all_in (bindings v.now.state) ps tests.terms tests.slots) none ∙ ap (λ ts. matched_all_in (bindings v.now.state) no_patterns ts tests.slots) empty in
    record { as_many = tests.as_many; head = record { keeps = tests.keeps; tells = subst (λ m. TellsHead v.now.terms c.slots b true m) (sym all) tests.is.holds } }

-- ---- patterns, one after another

-- what is left of the patterns comes to the same as all of them
pub record PatternsLeft {M : Type 0} (v : StoreView M) (xs : List (Option Ref)) (base i count : ℕ) (left : List Pattern) (slots : List (Option Ref)) (whole : Option Places) : Type 0 where
  pub terms : Trees
  pub args : HoldsArguments v.now.terms xs (base + i) (length left) terms
  pub as_many : length slots ≡ count
  pub given : HoldAllGiven v slots
  pub same : whole ≡ matched_all_in (bindings v.now.state) (pattern_trees left) terms (slot_terms v slots)

none-given : {M : Type 0} (v : StoreView M) (n : ℕ) → HoldAllGiven v (replicate n None)
unfolding HoldAllGiven
none-given v zero = tt
none-given v (suc n) = (tt, none-given v n)

none-terms : {M : Type 0} (v : StoreView M) (n : ℕ) → slot_terms v (replicate n None) ≡ replicate n None
none-terms v zero = refl
none-terms v (suc n) = ap (λ e. None ∷ e) (none-terms v n)

pub patterns-all : {M : Type 0} (v : StoreView M) (xs slots : List (Option Ref)) (base count : ℕ) (ps : List Pattern) (ts : Trees) → slots ≡ replicate count None → HoldsArguments v.now.terms xs base (length ps) ts →
    PatternsLeft v xs base 0 count ps slots (matched_all_in (bindings v.now.state) (pattern_trees ps) ts (replicate count None))
patterns-all v xs slots base count ps ts empty args =
    record {
      terms = ts;
      args = subst (λ n. HoldsArguments v.now.terms xs n (length ps) ts) (search arith) args;
      as_many = ap length empty ∙ length-replicate count None;
      given = subst (HoldAllGiven v) (sym empty) (none-given v count);
      same = ap (matched_all_in (bindings v.now.state) (pattern_trees ps) ts) (sym (none-terms v count) ∙ ap (slot_terms v) (sym empty));
    }

-- an argument that is under a pattern, or isn't
abbrev pub IsUnder : {M : Type 0} → StoreView M → Pattern → Ref → List (Option Ref) → List (Option Ref) → Bool → Type 0
IsUnder v p r old new found =
    (t : Tree) → IsTerm v r t → HoldAllGiven v old → TellsMatch found (matched_in (bindings v.now.state) (pattern_tree p) t (slot_terms v old)) (slot_terms v new)

next-pattern : {M : Type 0} (v : StoreView M) (xs : List (Option Ref)) (base i count : ℕ) (all : List Pattern) (one : Pattern) (r : Ref) (slots : List (Option Ref)) (whole : Option Places) → i < length all →
    (left : PatternsLeft v xs base i count (drop i all) slots whole) → get_or xs (base + i) None ≡ Some r → NextArgument v.now.terms xs (base + i) (length (drop (suc i) all)) r left.terms
next-pattern v xs base i count all one r slots whole within left found =
    argument-next v.now.terms xs (base + i) (length (drop (suc i) all)) r left.terms
    (subst (λ n. HoldsArguments v.now.terms xs (base + i) n left.terms) (ap length (drop-cons all i one within)) left.args) found

from-next : {M : Type 0} (v : StoreView M) (xs : List (Option Ref)) (base i count : ℕ) (all : List Pattern) (one : Pattern) (r : Ref) (slots : List (Option Ref)) (whole : Option Places) → (within : i < length all) →
    (left : PatternsLeft v xs base i count (drop i all) slots whole) → (next : NextArgument v.now.terms xs (base + i) (length (drop (suc i) all)) r left.terms) →
    whole ≡ option_and_then (matched_all_in (bindings v.now.state) (pattern_trees (drop (suc i) all)) next.behind) (matched_in (bindings v.now.state) (pattern_tree (get_or all i one)) next.it (slot_terms v slots))
unfolding matched_in pattern_trees
from-next v xs base i count all one r slots whole within left next =
    left.same ∙ ap (λ ps. matched_all_in (bindings v.now.state) (pattern_trees ps) left.terms (slot_terms v slots)) (drop-cons all i one within)
    ∙ ap (λ ts. matched_all_in (bindings v.now.state) (pattern_trees (get_or all i one ∷ drop (suc i) all)) ts (slot_terms v slots)) next.is

pub patterns-some : {M : Type 0} (v : StoreView M) (xs : List (Option Ref)) (base i count : ℕ) (all : List Pattern) (one : Pattern) (slots : List (Option Ref)) (whole : Option Places) → i < length all →
    PatternsLeft v xs base i count (drop i all) slots whole → get_or xs (base + i) None ≡ None → ⊥
patterns-some v xs base i count all one slots whole within left none =
    argument-there v.now.terms xs (base + i) (length (drop (suc i) all)) left.terms
    (subst (λ n. HoldsArguments v.now.terms xs (base + i) n left.terms) (ap length (drop-cons all i one within)) left.args) none

tells-no : (m : Option Places) (after : Places) (found : Bool) → found ≡ false → TellsMatch found m after → m ≡ None
tells-no m after true same told = absurd cc
tells-no m after false same told = told

tells-yes : (m : Option Places) (after : Places) (found : Bool) → found ≡ true → TellsMatch found m after → m ≡ Some after
tells-yes m after true same told = told
tells-yes m after false same told = absurd cc

pub patterns-fail : {M : Type 0} (v : StoreView M) (a : BlocksView) (b : Block) (base i count : ℕ) (all : List Pattern) (one : Pattern) (r : Ref) (found : Bool) (slots new : List (Option Ref)) (whole : Option Places) → i < length all → b.base + b.first ≤ length a.slots →
    PatternsLeft v a.slots base i count (drop i all) slots whole → get_or a.slots (base + i) None ≡ Some r → found ≡ false → (p : Pattern) → p ≡ get_or all i one → IsUnder v p r slots new found → FillsHead v.now.terms a a b false whole
patterns-fail v a b base i count all one r found slots new whole within long left is same p it under =
    let next : NextArgument v.now.terms a.slots (base + i) (length (drop (suc i) all)) r left.terms = next-pattern v a.slots base i count all one r slots whole within left is in
    let none : whole ≡ None = from-next v a.slots base i count all one r slots whole within left next
    ∙ ap (option_and_then (matched_all_in (bindings v.now.state) (pattern_trees (drop (suc i) all)) next.behind)) (tells-no _ (slot_terms v new) found same (subst (λ q. IsUnder v q r slots new found) it under next.it next.at left.given)) in
    record { keeps = front-none a (b.base + b.first) long; tells = subst (λ m. TellsHead v.now.terms a.slots b false m) (sym none) tt }

pub patterns-pass : {M : Type 0} (v : StoreView M) (xs : List (Option Ref)) (base i count : ℕ) (all : List Pattern) (one : Pattern) (r : Ref) (found : Bool) (slots new : List (Option Ref)) (whole : Option Places) → i < length all →
    PatternsLeft v xs base i count (drop i all) slots whole → get_or xs (base + i) None ≡ Some r → found ≡ true → (p : Pattern) → p ≡ get_or all i one → IsUnder v p r slots new found → length new ≡ length slots → (IsGiven v r → HoldAllGiven v slots → HoldAllGiven v new) →
    PatternsLeft v xs base (i + 1) count (drop (i + 1) all) new whole
patterns-pass v xs base i count all one r found slots new whole within left is same p it under as_many given =
    let next : NextArgument v.now.terms xs (base + i) (length (drop (suc i) all)) r left.terms = next-pattern v xs base i count all one r slots whole within left is in
    subst (λ n. PatternsLeft v xs base (i + 1) count (drop n all) new whole) (sym (add-one i))
    (record {
      terms = next.behind;
      args = subst (λ n. HoldsArguments v.now.terms xs n (length (drop (suc i) all)) next.behind) (search arith) next.rest;
      as_many = as_many ∙ left.as_many;
      given = given (term_given v r next.it next.at) left.given;
      same = from-next v xs base i count all one r slots whole within left next
          ∙ ap (option_and_then (matched_all_in (bindings v.now.state) (pattern_trees (drop (suc i) all)) next.behind)) (tells-yes _ (slot_terms v new) found same (subst (λ q. IsUnder v q r slots new found) it under next.it next.at left.given));
    })

held-more : {M : Type 0} (v : StoreView M) (r : Ref) (slots : List (Option Ref)) (e : Places) (o : Option Tree) → v.now.terms r.number ≡ o → IsSome o → AreHeld v.now.terms slots e → AreHeld v.now.terms (Some r ∷ slots) (o ∷ e)
unfolding AreHeld
held-more v r slots e None is some they = absurd cc
held-more v r slots e (Some t) is some they = (is, they)

held-terms : {M : Type 0} (v : StoreView M) (slots : List (Option Ref)) → HoldAllGiven v slots → AreHeld v.now.terms slots (slot_terms v slots)
unfolding HoldAllGiven AreHeld
held-terms v [] given = tt
held-terms v (None ∷ slots) given = held-terms v slots given.1
held-terms v (Some r ∷ slots) given = held-more v r slots (slot_terms v slots) (v.now.terms r.number) refl given.0 (held-terms v slots given.1)

-- all patterns have matched, and the slots are added
pub patterns-done : {M : Type 0} (v : StoreView M) (a c : BlocksView) (b : Block) (base i count : ℕ) (left : List Pattern) (slots : List (Option Ref)) (whole : Option Places) → PatternsLeft v a.slots base i count left slots whole → left ≡ [] →
    length a.slots ≡ b.base + b.first → b.count ≡ count → c.slots ≡ a.slots ++ slots → KeepsBlocks a c → c.kept ≡ a.kept → FillsHead v.now.terms a c b true whole
unfolding matched_in pattern_trees
patterns-done v a c b base i count left slots whole patterns is many same new keeps kept =
    let empty : patterns.terms ≡ no_trees = no-arguments v.now.terms a.slots (base + i) patterns.terms (subst (λ n. HoldsArguments v.now.terms a.slots (base + i) n patterns.terms) (ap length is) patterns.args) in
    let all : whole ≡ Some (slot_terms v slots) =
    patterns.same ∙ ap (λ ps. matched_all_in (bindings v.now.state) (pattern_trees ps) patterns.terms (slot_terms v slots)) is
    ∙ ap (λ ts. matched_all_in (bindings v.now.state) no_patterns ts (slot_terms v slots)) empty in
    let total : length c.slots ≡ length a.slots + length slots = ap length new ∙ length-append a.slots slots in
    let own : take b.count (drop (b.base + b.first) c.slots) ≡ slots =
    ap (λ n. take b.count (drop n c.slots)) (sym many) ∙ ap (λ xs. take b.count (drop (length a.slots) xs)) new ∙ ap (take b.count) (drop-append_seam a.slots slots)
    ∙ ap (λ n. take n slots) (omega (arith, same, patterns.as_many)) ∙ take-length slots in
    record {
      keeps = record {
        long = omega (arith, total, many);
        front = ap (take (b.base + b.first)) new ∙ take-append-le (b.base + b.first) a.slots slots (omega (arith, many));
        keeps = keeps;
        kept = kept;
      };
      tells = subst (λ m. TellsHead v.now.terms c.slots b true m) (sym all)
          (record { within = omega (arith, total, many, same, patterns.as_many); held = subst (λ xs. AreHeld v.now.terms xs (slot_terms v slots)) (sym own) (held-terms v slots patterns.given) });
    }
