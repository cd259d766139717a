-- Iterators over ranges.
use Rattle.std.proofs.Common.{◌≡◌, ℕ, suc, ◌+◌, Bool, true, false, List, [], ◌∷◌, ◌++◌, length, refl, sym, ◌∙◌, ap, append_assoc, arith}
use Rattle.std.specs.Prelude.{codes}
use Rattle.pi_terms.specs.Tree.{Tree, Trees, trees_of}
use Rattle.pi_syntax.specs.PrintTerm.{array_name}
use Rattle.pi_effects.specs.Inner.{range_count_name}
use Rattle.pi_core.specs.GoalTree.{GoalTree}
use Rattle.pi_rewrite_spec.specs.Slots.{SlotNames, with_value}
use Rattle.pi_rewrite_spec.specs.Loops.{Loop, entered}
use Rattle.pi_rewrite_spec.specs.Iterators.{behind_collection}
use Rattle.pi_rewrite_spec.specs.Ranges.{number_goals, number_tree, counting, first_turn, through}
use Rattle.pi_rewrite_loops.specs.Helpers.{range_between}
use Rattle.pi_rewrite_loops.specs.Parts.{AreGoals}
use Rattle.pi_rewrite_loops.specs.Turns.{IsNumber}
use Rattle.pi_rewrite_loops.proofs.PushedLemmas.{pushed-three}
use Rattle.pi_rewrite_loops.proofs.WalkLemmas.{entered-behind}

-- ---- numbers that are written

pub number-int : (t : Tree) (n : _) → t ≡ Tree.int n → IsNumber t true
number-int t n is = record {
  written = λ _ k. (ap (λ (u : Tree). number_goals u k) is, ap (λ (u : Tree). number_tree u k) is ∙ sym is);
  found = λ h. absurd (cc);
}

pub number-var : (t : Tree) (n : ℕ) → t ≡ Tree.var n → IsNumber t false
number-var t n is = record {
  written = λ h. absurd (cc);
  found = λ _ k. (ap (λ (u : Tree). number_goals u k) is ∙ ap (λ (u : Tree). GoalTree.apply (codes "min") (u ∷ u ∷ []) k ∷ []) (sym is), ap (λ (u : Tree). number_tree u k) is);
}

pub number-atom : (t : Tree) (name : List ℕ) → t ≡ Tree.atom name → IsNumber t false
number-atom t name is = record {
  written = λ h. absurd (cc);
  found = λ _ k. (ap (λ (u : Tree). number_goals u k) is ∙ ap (λ (u : Tree). GoalTree.apply (codes "min") (u ∷ u ∷ []) k ∷ []) (sym is), ap (λ (u : Tree). number_tree u k) is);
}

pub number-comp : (t : Tree) (name : List ℕ) (ts : Trees) → t ≡ Tree.comp name ts → IsNumber t false
number-comp t name ts is = record {
  written = λ h. absurd (cc);
  found = λ _ k. (ap (λ (u : Tree). number_goals u k) is ∙ ap (λ (u : Tree). GoalTree.apply (codes "min") (u ∷ u ∷ []) k ∷ []) (sym is), ap (λ (u : Tree). number_tree u k) is);
}

pub goals-written : (t : Tree) (b : Bool) (k : ℕ) (old : List GoalTree) → IsNumber t b → b ≡ true → old ≡ old ++ number_goals t k
goals-written t b k old is holds = sym (ap (λ gs. old ++ gs) (is.written holds k).0 ∙ append-none old)
  where
    append-none : (gs : List GoalTree) → gs ++ [] ≡ gs
    append-none [] = refl
    append-none (g ∷ gs) = ap (λ hs. g ∷ hs) (append-none gs)

pub goals-found : (t : Tree) (b : Bool) (k : ℕ) (old new : List GoalTree) → IsNumber t b → b ≡ false → new ≡ old ++ GoalTree.apply (codes "min") (t ∷ t ∷ []) k ∷ [] → new ≡ old ++ number_goals t k
goals-found t b k old new is fails put = put ∙ ap (λ gs. old ++ gs) (sym (is.found fails k).0)

pub least-put : (t u v : Tree) (k : ℕ) (old new : List GoalTree) (args : List Tree) → u ≡ t → v ≡ t → args ≡ u ∷ v ∷ [] → new ≡ old ++ GoalTree.apply (codes "min") args k ∷ [] → new ≡ old ++ GoalTree.apply (codes "min") (t ∷ t ∷ []) k ∷ []
least-put t u v k old new args same same' all put = put ∙ ap (λ (ts : List Tree). old ++ GoalTree.apply (codes "min") ts k ∷ []) (all ∙ (ap (λ (x : Tree). x ∷ v ∷ []) same ∙ ap (λ (x : Tree). t ∷ x ∷ []) same'))

pub tree-written : (t made : Tree) (b : Bool) (k : ℕ) → IsNumber t b → b ≡ true → made ≡ t → made ≡ number_tree t k
tree-written t made b k is holds same = same ∙ sym (is.written holds k).1

pub tree-found : (t made : Tree) (b : Bool) (k : ℕ) → IsNumber t b → b ≡ false → made ≡ Tree.var k → made ≡ number_tree t k
tree-found t made b k is fails same = same ∙ sym (is.found fails k).1

-- ---- where one stands

pub further-is : (step high step' high' last : Tree) (pair : List Tree) → step' ≡ step → high' ≡ high → pair ≡ step' ∷ high' ∷ [] → last ≡ Tree.comp array_name (trees_of pair) → last ≡ Tree.comp array_name (trees_of (step ∷ high ∷ []))
further-is step high step' high' last pair same same' both made = made ∙ ap (λ ts. Tree.comp array_name (trees_of ts)) (both ∙ (ap (λ (x : Tree). x ∷ high' ∷ []) same ∙ ap (λ (x : Tree). step ∷ x ∷ []) same'))

pub count-put : (low low' last given : Tree) (into : ℕ) (old new : List GoalTree) (args : List Tree) → low' ≡ low → last ≡ given → args ≡ low' ∷ last ∷ [] → new ≡ old ++ GoalTree.apply range_count_name args into ∷ [] → new ≡ old ++ GoalTree.apply range_count_name (low ∷ given ∷ []) into ∷ []
count-put low low' last given into old new args same made all put = put ∙ ap (λ (ts : List Tree). old ++ GoalTree.apply range_count_name ts into ∷ []) (all ∙ (ap (λ (x : Tree). x ∷ last ∷ []) same ∙ ap (λ (x : Tree). low ∷ x ∷ []) made))

pub counting-is : (low step high : Tree) (ns : SlotNames) (count one two : ℕ) (old mid next new : List GoalTree) → mid ≡ old ++ GoalTree.apply range_count_name (low ∷ Tree.comp array_name (trees_of (step ∷ high ∷ [])) ∷ []) count ∷ [] → one ≡ count + 1 → next ≡ mid ++ number_goals low one → two ≡ count + 2 →
    new ≡ next ++ number_goals step two → count ≡ length ns → new ≡ old ++ counting (range_between low step high ns)
counting-is low step high ns count one two old mid next new first behind second further third at =
    let ones : List GoalTree = number_goals low (suc (length ns)) in
    let twos : List GoalTree = number_goals step (suc (suc (length ns))) in
    let call : ℕ → GoalTree = λ k. GoalTree.apply range_count_name (low ∷ Tree.comp array_name (trees_of (step ∷ high ∷ [])) ∷ []) k in
    let goals-one : number_goals low one ≡ ones = ap (number_goals low) (behind ∙ (ap (λ (k : ℕ). k + 1) at ∙ omega arith)) in
    let goals-two : number_goals step two ≡ twos = ap (number_goals step) (further ∙ (ap (λ (k : ℕ). k + 2) at ∙ omega arith)) in
    third ∙ (ap (λ gs. gs ++ number_goals step two) (second ∙ ap (λ gs. gs ++ number_goals low one) first)
    ∙ (ap (λ gs. ((old ++ call count ∷ []) ++ gs) ++ number_goals step two) goals-one ∙ (ap (λ gs. ((old ++ call count ∷ []) ++ ones) ++ gs) goals-two
    ∙ (append_assoc (old ++ call count ∷ []) ones twos ∙ (append_assoc old (call count ∷ []) (ones ++ twos) ∙ ap (λ (k : ℕ). old ++ call k ∷ (ones ++ twos)) at)))))

pub first-args : (low step high x z : Tree) (ns : SlotNames) (count one two : ℕ) (a0 a1 a2 a3 : List Tree) → one ≡ count + 1 → two ≡ count + 2 → a0 ≡ [] → x ≡ number_tree low one → a1 ≡ a0 ++ x ∷ [] → a2 ≡ a1 ++ Tree.var count ∷ [] → z ≡ number_tree step two → a3 ≡ a2 ++ z ∷ [] → count ≡ length ns →
    a3 ≡ first_turn (range_between low step high ns)
first-args low step high x z ns count one two a0 a1 a2 a3 behind further none first put put' third put'' at =
    let k : ℕ = length ns in
    let one-is : one ≡ suc k = behind ∙ (ap (λ (j : ℕ). j + 1) at ∙ omega arith) in
    let two-is : two ≡ suc (suc k) = further ∙ (ap (λ (j : ℕ). j + 2) at ∙ omega arith) in
    pushed-three a0 a1 a2 a3 x (Tree.var count) z none put put' put'' ∙ (ap (λ (t : Tree). t ∷ Tree.var count ∷ z ∷ []) (first ∙ ap (number_tree low) one-is)
    ∙ (ap (λ (t : Tree). number_tree low (suc k) ∷ t ∷ z ∷ []) (ap Tree.var at) ∙ ap (λ (t : Tree). number_tree low (suc k) ∷ Tree.var k ∷ t ∷ []) (third ∙ ap (number_tree step) two-is)))

pub through-is : (l : Loop) (low step high : Tree) (found ns ms ks : SlotNames) (old mid new : List GoalTree) (args : List Tree) → ms ≡ behind_collection ns (with_value (with_value (with_value found))) → args ≡ first_turn (range_between low step high found) → mid ≡ old ++ counting (range_between low step high found) →
    AreGoals (entered l [] args ms) mid new ks → AreGoals (through l [] ns (range_between low step high found)) old new ks
through-is l low step high found ns ms ks old mid new args behind are counted enter =
    entered-behind l (counting (range_between low step high found)) old mid new args (first_turn (range_between low step high found)) ms (behind_collection ns (with_value (with_value (with_value found)))) ks counted are behind enter

pub three-behind : (found f1 f2 f3 ns ms : SlotNames) → f1 ≡ with_value found → f2 ≡ with_value f1 → f3 ≡ with_value f2 → ms ≡ behind_collection ns f3 → ms ≡ behind_collection ns (with_value (with_value (with_value found)))
three-behind found f1 f2 f3 ns ms one two three behind = behind ∙ ap (behind_collection ns) (three ∙ ap with_value (two ∙ ap with_value one))
