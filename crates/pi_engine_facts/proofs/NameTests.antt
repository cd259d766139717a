-- Tests of names, and of predicates by them.
use Rattle.std.proofs.Common.{◌≡◌, ℕ, ◌+◌, ◌<◌, ◌==◌, ◌&&◌, Bool, true, false, cond, not, List, [], ◌∷◌, ◌++◌, Option, Some, None, map, drop, get_or, length, drop-cons, refl, sym, ◌∙◌, ap, arith, suc}
use Rattle.std.proofs.lemmas.List.{map-append}
use Rattle.std.specs.Prelude.{◌||◌, option_map, codes}
use Rattle.std.specs.Option.{option_or}
use Rattle.std.specs.Ordering.{is_eq}
use Rattle.std.specs.Str.{bytes_eq}
use Rattle.std.proofs.lemmas.Slice.Eq.{bytes_eq-Decides}
use Rattle.pi_terms.specs.Order.{name_order}
use Rattle.pi_core.specs.declared.core_program.CorePred.{CorePred}
use Rattle.pi_core.specs.CoreTree.{pred_tree, PredTree, is_pred, find_pred}
use Rattle.pi_meaning.specs.CoreMeaning.Instances.{is_called_by_name}
use Rattle.pi_meaning.specs.Shared.Names.{is_planner}
use Rattle.pi_meaning.specs.Machine.Step.{is_defined, unknown_ball, unknown_by}
use Rattle.pi_meaning.proofs.Shared.FoundLemmas.{names-same, is-named}

pub same-test : (a b : List ℕ) → bytes_eq a b ≡ is_eq (name_order a b)
same-test a b = agree (bytes_eq a b) (is_eq (name_order a b)) (λ is. is-named a b ((bytes_eq-Decides a b).0 is)) (λ is. (bytes_eq-Decides a b).1 (names-same a b is))
  where
    agree : (p q : Bool) → (p ≡ true → q ≡ true) → (q ≡ true → p ≡ true) → p ≡ q
    agree true q there back = sym (there refl)
    agree false true there back = back refl
    agree false false there back = refl

pub planner-test : (name : List ℕ) (k : ℕ) → ((bytes_eq name (codes "plan") || bytes_eq name (codes "best_plan")) && ((k == 2) || ((k == 3) || (k == 4)))) ≡ is_planner name k
planner-test name k =
    ap (λ p. (p || bytes_eq name (codes "best_plan")) && ((k == 2) || ((k == 3) || (k == 4)))) (same-test name (codes "plan"))
    ∙ ap (λ p. (is_eq (name_order name (codes "plan")) || p) && ((k == 2) || ((k == 3) || (k == 4)))) (same-test name (codes "best_plan"))

-- ---- the first of so many

abbrev pub loud : PredTree → Bool
loud p = not p.quiet

both-one : (here : Bool) (p : PredTree) (x y z : Option PredTree) → x ≡ option_or y z → cond here (Some p) x ≡ option_or (cond here (Some p) y) z
both-one true p x y z e = refl
both-one false p x y z e = e

found-both : (name : List ℕ) (k : ℕ) (ps qs : List PredTree) → find_pred false name k (ps ++ qs) ≡ option_or (find_pred false name k ps) (find_pred false name k qs)
unfolding find_pred
found-both name k [] qs = refl
found-both name k (p ∷ ps) qs = both-one (is_pred false name k p) p (find_pred false name k (ps ++ qs)) (find_pred false name k ps) (find_pred false name k qs) (found-both name k ps qs)

called-first : (x y : Option PredTree) (b : Bool) → option_map loud x ≡ Some b → is_called_by_name (option_or x y) ≡ b
called-first (Some p) y b e = cc
called-first None y b e = absurd cc

called-second : (x y : Option PredTree) (b : Bool) → option_map loud x ≡ None → option_map loud y ≡ Some b → is_called_by_name (option_or x y) ≡ b
called-second (Some p) y b none e = absurd cc
called-second None (Some p) b none e = cc
called-second None None b none e = absurd cc

called-none : (x y : Option PredTree) → option_map loud x ≡ None → option_map loud y ≡ None → is_called_by_name (option_or x y) ≡ false
called-none (Some p) y none e = absurd cc
called-none None (Some p) none e = absurd cc
called-none None None none e = refl

-- what is defined by a program's predicates and a query's own
abbrev AreDefined : List CorePred → List CorePred → List ℕ → ℕ → Bool → Type 0
AreDefined ps qs name k b = b ≡ is_defined (map pred_tree (ps ++ qs)) name k

by-parts : (ps qs : List CorePred) (name : List ℕ) (k : ℕ) (b : Bool) → is_called_by_name (option_or (find_pred false name k (map pred_tree ps)) (find_pred false name k (map pred_tree qs))) ≡ b → AreDefined ps qs name k b
by-parts ps qs name k b e = sym (ap (λ l. is_called_by_name (find_pred false name k l)) (map-append pred_tree ps qs) ∙ ap is_called_by_name (found-both name k (map pred_tree ps) (map pred_tree qs)) ∙ e)

pub defined-first : (ps qs : List CorePred) (name : List ℕ) (k : ℕ) (b : Bool) (x : Option Bool) → x ≡ option_map loud (find_pred false name k (map pred_tree ps)) → x ≡ Some b → AreDefined ps qs name k b
defined-first ps qs name k b x is e = by-parts ps qs name k b (called-first (find_pred false name k (map pred_tree ps)) (find_pred false name k (map pred_tree qs)) b (sym is ∙ e))

pub defined-second : (ps qs : List CorePred) (name : List ℕ) (k : ℕ) (b : Bool) (x y : Option Bool) → x ≡ option_map loud (find_pred false name k (map pred_tree ps)) → x ≡ None → y ≡ option_map loud (find_pred false name k (map pred_tree qs)) → y ≡ Some b → AreDefined ps qs name k b
defined-second ps qs name k b x y is none has e =
    by-parts ps qs name k b (called-second (find_pred false name k (map pred_tree ps)) (find_pred false name k (map pred_tree qs)) b (sym is ∙ none) (sym has ∙ e))

pub defined-none : (ps qs : List CorePred) (name : List ℕ) (k : ℕ) (x y : Option Bool) → x ≡ option_map loud (find_pred false name k (map pred_tree ps)) → x ≡ None → y ≡ option_map loud (find_pred false name k (map pred_tree qs)) → y ≡ None → AreDefined ps qs name k false
defined-none ps qs name k x y is none has e = by-parts ps qs name k false (called-none (find_pred false name k (map pred_tree ps)) (find_pred false name k (map pred_tree qs)) (sym is ∙ none) (sym has ∙ e))

-- ---- a search

one-found : (name : List ℕ) (k : ℕ) (ps : List CorePred) (i : ℕ) (p : CorePred) (here : Bool) → i < length ps → p ≡ get_or ps i p → is_pred false name k (pred_tree p) ≡ here →
    find_pred false name k (map pred_tree (drop i ps)) ≡ cond here (Some (pred_tree p)) (find_pred false name k (map pred_tree (drop (i + 1) ps)))
unfolding find_pred
one-found name k ps i p here within item is =
    let next : suc i ≡ i + 1 = omega arith in
    let front : drop i ps ≡ p ∷ drop (i + 1) ps = drop-cons ps i p within ∙ ap (λ q. q ∷ drop (suc i) ps) (sym item) ∙ ap (λ n. p ∷ drop n ps) next in
    ap (λ l. find_pred false name k (map pred_tree l)) front ∙ ap (λ b. cond b (Some (pred_tree p)) (find_pred false name k (map pred_tree (drop (i + 1) ps)))) is

pub found-here : (name : List ℕ) (k : ℕ) (ps : List CorePred) (i : ℕ) (p : CorePred) → i < length ps → p ≡ get_or ps i p → is_pred false name k (pred_tree p) ≡ true →
    option_map loud (find_pred false name k (map pred_tree (drop i ps))) ≡ Some (not p.quiet)
found-here name k ps i p within item is = ap (option_map loud) (one-found name k ps i p true within item is)

pub found-next : (name : List ℕ) (k : ℕ) (ps : List CorePred) (i : ℕ) (p : CorePred) → i < length ps → p ≡ get_or ps i p → is_pred false name k (pred_tree p) ≡ false →
    option_map loud (find_pred false name k (map pred_tree (drop (i + 1) ps))) ≡ option_map loud (find_pred false name k (map pred_tree (drop i ps)))
found-next name k ps i p within item is = sym (ap (option_map loud) (one-found name k ps i p false within item is))

-- ---- one predicate

pub named-test : (name shown : List ℕ) (k : ℕ) (p : PredTree) → p.function ≡ false → shown ≡ p.name → (bytes_eq shown name && (p.arity == k)) ≡ is_pred false name k p
named-test name shown k p none same =
    ap (λ n. bytes_eq n name && (p.arity == k)) same ∙ ap (λ b. b && (p.arity == k)) (same-test p.name name) ∙ sym (ap (λ f. cond f false (is_eq (name_order p.name name) && (p.arity == k))) none)

pub function-test : (name : List ℕ) (k : ℕ) (p : PredTree) → p.function ≡ true → false ≡ is_pred false name k p
function-test name k p is = sym (ap (λ f. cond f false (is_eq (name_order p.name name) && (p.arity == k))) is)

-- ---- what is raised

pub plain-unknown : (preds : List PredTree) (name : List ℕ) (k : ℕ) → is_planner name k ≡ false → unknown_ball name k ≡ unknown_by preds name k
unfolding unknown_by
plain-unknown preds name k other =
    sym (ap (λ b. cond b (cond (is_defined preds (codes "final") 1) (cond (is_defined preds (codes "action") 4) (unknown_ball name k) (unknown_ball (codes "action") 4)) (unknown_ball (codes "final") 1)) (unknown_ball name k)) other)

pub planner-unknown : (preds : List PredTree) (name : List ℕ) (k : ℕ) (final action : Bool) → is_planner name k ≡ true → is_defined preds (codes "final") 1 ≡ final → is_defined preds (codes "action") 4 ≡ action →
    unknown_by preds name k ≡ cond final (cond action (unknown_ball name k) (unknown_ball (codes "action") 4)) (unknown_ball (codes "final") 1)
unfolding unknown_by
planner-unknown preds name k final action is has also =
    ap (λ b. cond b (cond (is_defined preds (codes "final") 1) (cond (is_defined preds (codes "action") 4) (unknown_ball name k) (unknown_ball (codes "action") 4)) (unknown_ball (codes "final") 1)) (unknown_ball name k)) is
    ∙ ap (λ b. cond b (cond (is_defined preds (codes "action") 4) (unknown_ball name k) (unknown_ball (codes "action") 4)) (unknown_ball (codes "final") 1)) has
    ∙ ap (λ b. cond final (cond b (unknown_ball name k) (unknown_ball (codes "action") 4)) (unknown_ball (codes "final") 1)) also
