-- The head of a rule that is tried, from what is done to the blocks.
use Rattle.std.proofs.Common.{◌≡◌, ℕ, zero, suc, ◌+◌, ◌-◌, ◌≤◌, Bool, List, [], ◌∷◌, ◌++◌, Option, Some, None, length, take, drop, refl, sym, ◌∙◌, ap, subst, arith}
use Rattle.std.specs.Prelude.{slice_get, replicate, max, map}
use Rattle.std.proofs.lemmas.List.{length-take-le, length-drop, length-append, length-replicate, take-append-le}
use Rattle.std.proofs.Math.Seq.{drop-append_seam, take-length}
use Rattle.pi_terms.specs.PatternTree.{PatternTrees, no_patterns, pattern}
use Rattle.pi_constraints.specs.HeadMatch.{matched_all_in}
use Rattle.pi_core.specs.CoreTree.{ClauseTree, PredTree, pattern_trees, pred_tree}
use Rattle.pi_meaning.specs.CoreMeaning.Sound.{pattern_count}
use Rattle.pi_constraints.specs.State.{State, bindings, IsState}
use Rattle.pi_constraints.specs.Store.{StoreView, Terms}
use Rattle.pi_constraints.specs.declared.store.Ref.{Ref}
use Rattle.pi_core.specs.declared.core_program.Pattern.{Pattern}
use Rattle.pi_engine_code.specs.declared.code.HeadTest.{HeadTest}
use Rattle.pi_engine_code.specs.declared.code.Rule.{Rule}
use Rattle.pi_engine_code.specs.declared.code.Predicate.{Predicate}
use Rattle.pi_engine_code.specs.declared.code.Code.{Code}
use Rattle.pi_engine_code.specs.Code.{preds_of}
use Rattle.pi_engine_arenas.specs.Blocks.{BlocksView, KeepsBlocks}
use Rattle.pi_meaning.specs.Machine.Configuration.{Frame, Called, Entry as EntryData}
use Rattle.pi_engine_stands.specs.Evaluates.{with_blocks}
use Rattle.pi_engine_stands.specs.Here.{Block, block_end, AreHeld, HoldsArguments}
use Rattle.pi_engine_stands.specs.Stands.{World, AreTestsOf, NoneIsDeep, IsRuleOf, tables_in, clause_block}
use Rattle.pi_engine_stands.specs.Tries.{CallIs, KeepsFront, KeepsBelow, RuleSlots, TellsHead, FillsHead, HasArguments}
use Rattle.pi_terms.proofs.ListLemmas.{take-take}
use Rattle.pi_engine_stands.proofs.HeadsMatch.{front-then, arguments-stay}
use Rattle.pi_engine_stands.proofs.GuardsAnswered.{rule-of}

-- ---- room for the slots of a rule

-- only the arguments are left
pub record Emptied (a c : BlocksView) (first : ℕ) : Type 0 where
  pub exact : length c.slots ≡ first
  pub keeps : KeepsFront a c first

pub emptied : (a c : BlocksView) (first : ℕ) → first ≤ length a.slots → a.kept ≤ first → c.slots ≡ take (max first a.kept) a.slots → KeepsBlocks a c → c.kept ≡ a.kept → Emptied a c first
emptied a c first fits over cut keeps kept =
    let front : c.slots ≡ take first a.slots = cut ∙ ap (λ n. take n a.slots) (omega (arith, over)) in
    let exact : length c.slots ≡ first = ap length front ∙ length-take-le first a.slots fits in
    record { exact = exact; keeps = record { long = omega (arith, exact); front = ap (take first) front ∙ take-take first first a.slots (omega arith); keeps = keeps; kept = kept } }

-- empty slots are added
pub front-added : (a c d : BlocksView) (first : ℕ) (more : List (Option Ref)) → Emptied a c first → d.slots ≡ c.slots ++ more → KeepsBlocks c d → d.kept ≡ c.kept → KeepsFront a d first
front-added a c d first more emptied new keeps kept =
    front-then a c d first emptied.keeps
    (record {
      long = omega (arith, ap length new, length-append c.slots more, emptied.exact);
      front = ap (take first) new ∙ take-append-le first c.slots more (omega (arith, emptied.exact));
      keeps = keeps;
      kept = kept;
    })

length-none : (n : ℕ) (xs : List (Option Ref)) → xs ≡ replicate n None → length xs ≡ n
length-none n xs is = ap length is ∙ length-replicate n None

none-held : (t : Terms) (n : ℕ) → AreHeld t (replicate n None) (replicate n None)
unfolding AreHeld
none-held t zero = tt
none-held t (suc n) = none-held t n

pub slots-added : {M : Type 0} (v : StoreView M) (c d : BlocksView) (b : Block) (n : ℕ) → IsState v.now.state → length c.slots ≡ b.base + b.first → c.kept ≤ b.base + b.first → n ≡ b.count → d.slots ≡ c.slots ++ replicate n None → d.kept ≡ c.kept →
    RuleSlots v d b (replicate b.count None)
slots-added v c d b n state exact over count new kept =
    let now : d.slots ≡ c.slots ++ replicate b.count None = new ∙ ap (λ k. c.slots ++ replicate k None) count in
    let total : length d.slots ≡ block_end b = ap length now ∙ omega (arith, length-append c.slots (replicate b.count None), length-none b.count (replicate b.count None) refl, exact) in
    let own : take b.count (drop (b.base + b.first) d.slots) ≡ replicate b.count None =
    ap (λ k. take b.count (drop k d.slots)) (sym exact) ∙ ap (λ xs. take b.count (drop (length c.slots) xs)) now ∙ ap (take b.count) (drop-append_seam c.slots (replicate b.count None))
    ∙ ap (λ k. take k (replicate b.count None)) (sym (length-replicate b.count None)) ∙ take-length (replicate b.count None) in
    record {
      state = state;
      last = total;
      over = omega (arith, kept, over);
      holds = record { within = omega (arith, total); held = subst (λ xs. AreHeld v.now.terms xs (replicate b.count None)) (sym own) (none-held v.now.terms b.count) };
    }

-- ---- the tests of a head

tests-fit : (names : List (List ℕ)) (ps : PatternTrees) (ts : List HeadTest) → AreTestsOf names ps ts → pattern_count ps ≤ length ts
unfolding AreTestsOf pattern_count
tests-fit names no_patterns ts are = omega arith
tests-fit names (pattern p ps) [] are = absurd are
tests-fit names (pattern p ps) (t ∷ ts) are = omega (arith, tests-fit names ps ts are.1)

tests-taken : (names : List (List ℕ)) (ps : PatternTrees) (ts : List HeadTest) → AreTestsOf names ps ts → AreTestsOf names ps (take (pattern_count ps) ts)
unfolding AreTestsOf pattern_count
tests-taken names no_patterns ts are = tt
tests-taken names (pattern p ps) [] are = absurd are
tests-taken names (pattern p ps) (t ∷ ts) are = (are.0, tests-taken names ps ts are.1)

-- the tests of a rule's head, as they are read
pub record HasTests (names : List (List ℕ)) (head : PatternTrees) (tests : List HeadTest) : Type 0 where
  pub count : pattern_count head ≡ length tests
  pub are : AreTestsOf names head tests
  pub shallow : NoneIsDeep tests

no-tests : (names : List (List ℕ)) (head : PatternTrees) → pattern_count head ≡ 0 → AreTestsOf names head []
unfolding AreTestsOf pattern_count
no-tests names no_patterns none = tt
no-tests names (pattern p ps) none = absurd (omega (arith, none))

tests-none : (names : List (List ℕ)) (head : PatternTrees) (read : List HeadTest) → pattern_count head ≡ 0 → read ≡ [] → HasTests names head read
tests-none names head read none is =
    record {
      count = none ∙ ap length (sym is);
      are = subst (AreTestsOf names head) (sym is) (no-tests names head none);
      shallow = subst NoneIsDeep (sym is) (λ i t at. absurd cc);
    }

pub tests-read : (names : List (List ℕ)) (head : PatternTrees) (all read : List HeadTest) (first arity : ℕ) → AreTestsOf names head (drop first all) → pattern_count head ≡ arity → NoneIsDeep (take arity (drop first all)) →
    (first + arity ≤ length all → read ≡ take arity (drop first all)) → (arity ≡ 0 → read ≡ []) → HasTests names head read
tests-read names head all read first zero are count shallow some none =
    tests-none names head read count (none refl)
tests-read names head all read first (suc n) are count shallow some none =
    let fit : pattern_count head ≤ length (drop first all) = tests-fit names head (drop first all) are in
    let is : read ≡ take (suc n) (drop first all) = some (omega (arith, fit, count, length-drop first all)) in
    record {
      count = count ∙ sym (ap length is ∙ length-take-le (suc n) (drop first all) (omega (arith, fit, count)));
      are = subst (AreTestsOf names head) (ap (λ k. take k (drop first all)) count ∙ sym is) (tests-taken names head (drop first all) are);
      shallow = subst NoneIsDeep (sym is) shallow;
    }

-- ---- what a call's head comes to

-- by what was done to the blocks
pub head-tried : {M : Type 0} (w : World M) (d : BlocksView) (p base frame number : ℕ) (found : Bool) (called : Called) (c : ClauseTree) (cs : List ClauseTree) (s : State) (k : List Frame) (es : List EntryData) (again : Bool) →
    (is : CallIs w p base frame number called (c ∷ cs) s k es again) → (e : BlocksView) → KeepsFront w.arenas.blocks e (base + is.call.call.pred.arity) →
    FillsHead w.store.now.terms e d (clause_block base is.call.call.pred c) found (matched_all_in (bindings w.store.now.state) c.head called.args (replicate c.slots None)) →
    KeepsBelow w.arenas (with_blocks w.arenas d) (base + is.call.call.pred.arity)
    × TellsHead w.store.now.terms d.slots (clause_block base is.call.call.pred c) found (matched_all_in (bindings w.store.now.state) c.head called.args (replicate c.slots None))
head-tried w d p base frame number found called c cs s k es again is e before told =
    let all : KeepsFront w.arenas.blocks d (base + is.call.call.pred.arity) = front-then w.arenas.blocks e d (base + is.call.call.pred.arity) before told.keeps in (
      record { long = all.long; front = all.front; keeps = all.keeps; kept = all.kept; frames = refl; entries = refl; level = refl; collected = refl },
      told.tells,
    )

-- where the call's arguments end
pub call-first : {M : Type 0} (w : World M) (p base frame number first arity : ℕ) (called : Called) (cs : List ClauseTree) (s : State) (k : List Frame) (es : List EntryData) (again : Bool) → (is : CallIs w p base frame number called cs s k es again) →
    arity ≡ is.call.call.pred.arity → (base + arity ≤ length w.arenas.blocks.slots → first ≡ base + arity) → first ≡ base + is.call.call.pred.arity
call-first w p base frame number first arity called cs s k es again is same at = at (omega (arith, same, is.call.fits)) ∙ ap (λ n. base + n) same

-- only its arguments are left
pub call-emptied : {M : Type 0} (w : World M) (e : BlocksView) (p base frame number first : ℕ) (called : Called) (cs : List ClauseTree) (s : State) (k : List Frame) (es : List EntryData) (again : Bool) → (is : CallIs w p base frame number called cs s k es again) →
    first ≡ base + is.call.call.pred.arity → e.slots ≡ take (max first w.arenas.blocks.kept) w.arenas.blocks.slots → KeepsBlocks w.arenas.blocks e → e.kept ≡ w.arenas.blocks.kept → Emptied w.arenas.blocks e (base + is.call.call.pred.arity)
call-emptied w e p base frame number first called cs s k es again is at cut keeps kept =
    emptied w.arenas.blocks e (base + is.call.call.pred.arity) is.call.fits is.over (cut ∙ ap (λ n. take (max n w.arenas.blocks.kept) w.arenas.blocks.slots) at) keeps kept

-- the rule's place in the tables
pub call-rule : {M : Type 0} (w : World M) (p base frame number : ℕ) (rule : Rule) (called : Called) (c : ClauseTree) (cs : List ClauseTree) (s : State) (k : List Frame) (es : List EntryData) (again : Bool) →
    (is : CallIs w p base frame number called (c ∷ cs) s k es again) → slice_get w.loaded.code.rules.items number ≡ Some rule → IsRuleOf w.loaded.code (tables_in w.loaded) w.store.names is.call.call.pred c rule
call-rule w p base frame number rule called c cs s k es again is found = rule-of w p number called c cs rule is.code is.call.call found

-- the arguments as they are there then
pub call-arguments : {M : Type 0} (w : World M) (e : BlocksView) (base arity n : ℕ) (called : Called) → n ≡ arity → KeepsFront w.arenas.blocks e (base + arity) → HasArguments w base arity called → HoldsArguments w.store.now.terms e.slots base n called.args
call-arguments w e base arity n called same keeps args =
    subst (λ m. HoldsArguments w.store.now.terms e.slots base m called.args) (sym same)
    (arguments-stay w.store.now.terms w.arenas.blocks.slots e.slots base arity (base + arity) called.args (omega arith) keeps.long keeps.front args)

-- ---- the patterns of a head

get-first : {X : Type 0} (xs : List X) (i : ℕ) (x : X) (rest : List X) → drop i xs ≡ x ∷ rest → slice_get xs i ≡ Some x
get-first [] zero x rest is = absurd cc
get-first [] (suc i) x rest is = absurd cc
get-first (y ∷ ys) zero x rest is = cc
get-first (y ∷ ys) (suc i) x rest is = get-first ys i x rest is

patterns-count : (ps : List Pattern) → pattern_count (pattern_trees ps) ≡ length ps
unfolding pattern_count pattern_trees
patterns-count [] = refl
patterns-count (p ∷ ps) = ap suc (patterns-count ps)

-- what is looked up in the program are the patterns of the rule's clause
abbrev pub LooksUp : Code → ℕ → ℕ → List Pattern → Type 0
LooksUp code p number found =
    (q : Predicate) (pred : PredTree) (c : ClauseTree) → slice_get code.predicates.items p ≡ Some q → slice_get (map pred_tree (preds_of code)) p ≡ Some pred → slice_get pred.clauses (number - q.first) ≡ Some c → pattern_trees found ≡ c.head

-- the patterns of a rule's head, as they are read
pub record HasPatterns (head : PatternTrees) (arity : ℕ) (found : List Pattern) : Type 0 where
  pub are : pattern_trees found ≡ head
  pub many : length found ≡ arity

pub call-patterns : {M : Type 0} (w : World M) (p base frame number : ℕ) (rule : Rule) (found : List Pattern) (called : Called) (c : ClauseTree) (cs : List ClauseTree) (s : State) (k : List Frame) (es : List EntryData) (again : Bool) →
    (is : CallIs w p base frame number called (c ∷ cs) s k es again) → IsRuleOf w.loaded.code (tables_in w.loaded) w.store.names is.call.call.pred c rule → LooksUp w.loaded.code p number found → HasPatterns c.head is.call.call.pred.arity found
call-patterns w p base frame number rule found called c cs s k es again is its looks =
    let are : pattern_trees found ≡ c.head = looks is.call.call.predicate is.call.call.pred c is.call.call.is_predicate
    (ap (λ ps. slice_get ps p) (sym is.code.source) ∙ is.call.call.is_pred)
    (get-first is.call.call.pred.clauses (number - is.call.call.predicate.first) c cs (sym is.call.call.rules)) in
    record { are = are; many = sym (patterns-count found) ∙ ap pattern_count are ∙ its.patterns }
