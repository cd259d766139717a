-- What stands behind `in` where there are fewer than two arguments, or no call.
use Rattle.std.proofs.Common.{◌≡◌, ℕ, ◌<◌, ◌≤◌, List, [], ◌∷◌, ◌++◌, length, get_or, drop, Bool, None, Some, true, false, arith, refl, sym, ap, subst}
use Rattle.std.specs.Prelude.{Vec}
use Rattle.std.specs.declared.alloc.Global.{Global}
use Rattle.pi_terms.specs.Tree.{Tree}
use Rattle.pi_core.specs.GoalTree.{GoalTree}
use Rattle.pi_syntax.specs.ExpTree.{ExpTree, var, int, atom, str, list, list_onto, array, call, quote, index, range, range_by, at, collect, and, or, arrow, if_then, if_else, foreach, while_do, do_while, exp, exp_tree, held_tree}
use Rattle.pi_syntax.specs.ExpLists.{exps_of}
use Rattle.pi_syntax.specs.declared.exp.Exp as code
use Rattle.pi_syntax.specs.declared.exp.Exp.{Exp}
use Rattle.pi_syntax.specs.declared.exp.Exp.TheOpen as layer
use Rattle.pi_syntax.specs.declared.exp.Exp.TheViews.{out-Exp, roll-Exp, roll-out-Exp, rolls-Var, rolls-Int, rolls-Atom, rolls-Str, rolls-List, rolls-Array, rolls-Call, rolls-Quote, rolls-Index, rolls-Range, rolls-At, rolls-Collect, rolls-And, rolls-Or, rolls-Arrow, rolls-If, rolls-Foreach, rolls-While, rolls-DoWhile}
use Rattle.pi_rewrite_spec.specs.Slots.{SlotNames}
use Rattle.pi_rewrite_spec.specs.Goals.{no_value, value_at}
use Rattle.pi_rewrite_spec.specs.Sites.{Site}
use Rattle.pi_rewrite_spec.specs.Written.{made_as, is_range, collection_of}
use Rattle.pi_rewrite_spec.specs.Helpers.{value_helpers, helpers_at, collection_helpers}
use Rattle.pi_rewrite_goals.specs.Planned.{IsCollectionOver}
use Rattle.pi_rewrite_goals.proofs.ValueLemmas.{put-none}

-- whether it is a call
abbrev calls : ExpTree → Bool
calls (call name es) = true
calls e = false

-- what is no call
abbrev IsNoCall : Exp → Type 0
IsNoCall x = ((name : List ℕ) (es : Vec Exp Global) → x ≡ code.Call name es → ⊥) → calls (exp_tree x) ≡ false

by-layer : (l : layer.Exp-F Exp) → IsNoCall (roll-Exp l)
unfolding exp_tree held_tree
by-layer (layer.Var n) none = ap (λ x. calls (exp_tree x)) (rolls-Var n)
by-layer (layer.Int n) none = ap (λ x. calls (exp_tree x)) (rolls-Int n)
by-layer (layer.Atom n) none = ap (λ x. calls (exp_tree x)) (rolls-Atom n)
by-layer (layer.Str text) none = ap (λ x. calls (exp_tree x)) (rolls-Str text)
by-layer (layer.List es None) none = ap (λ x. calls (exp_tree x)) (rolls-List es None)
by-layer (layer.List es (Some b)) none = ap (λ x. calls (exp_tree x)) (rolls-List es (Some b))
by-layer (layer.Array es) none = ap (λ x. calls (exp_tree x)) (rolls-Array es)
by-layer (layer.Call n es) none = absurd (none n es (rolls-Call n es))
by-layer (layer.Quote b) none = ap (λ x. calls (exp_tree x)) (rolls-Quote b)
by-layer (layer.Index b es) none = ap (λ x. calls (exp_tree x)) (rolls-Index b es)
by-layer (layer.Range b None d) none = ap (λ x. calls (exp_tree x)) (rolls-Range b None d)
by-layer (layer.Range b (Some c) d) none = ap (λ x. calls (exp_tree x)) (rolls-Range b (Some c) d)
by-layer (layer.At n b) none = ap (λ x. calls (exp_tree x)) (rolls-At n b)
by-layer (layer.Collect is_array b es) none = ap (λ x. calls (exp_tree x)) (rolls-Collect is_array b es)
by-layer (layer.And es) none = ap (λ x. calls (exp_tree x)) (rolls-And es)
by-layer (layer.Or es) none = ap (λ x. calls (exp_tree x)) (rolls-Or es)
by-layer (layer.Arrow b d) none = ap (λ x. calls (exp_tree x)) (rolls-Arrow b d)
by-layer (layer.If bs None) none = ap (λ x. calls (exp_tree x)) (rolls-If bs None)
by-layer (layer.If bs (Some b)) none = ap (λ x. calls (exp_tree x)) (rolls-If bs (Some b))
by-layer (layer.Foreach es b) none = ap (λ x. calls (exp_tree x)) (rolls-Foreach es b)
by-layer (layer.While b d) none = ap (λ x. calls (exp_tree x)) (rolls-While b d)
by-layer (layer.DoWhile b d) none = ap (λ x. calls (exp_tree x)) (rolls-DoWhile b d)

pub not-call : (x : Exp) → IsNoCall x
not-call x = subst IsNoCall (roll-out-Exp x) (by-layer (out-Exp x))

-- what has nothing to go over
pub record GoesOverNone (s : Site) (e : ExpTree) (ns : SlotNames) : Type 0 where
  pub ranges : is_range e ≡ false
  pub value : collection_of s e ns ≡ no_value ns
  pub helpers : collection_helpers s e ≡ []

pub none-found : (s : Site) (e : ExpTree) (ns ms : SlotNames) (old new : List GoalTree) (t : Tree) → GoesOverNone s e ns → new ≡ old ++ GoalTree.fail ∷ [] → t ≡ Tree.atom [] → ms ≡ ns → IsCollectionOver t s e ns old new ms
none-found s e ns ms old new t over put shape same = record { ranges = over.ranges; value = put-none (collection_of s e ns) ns old new t ms over.value put shape same }

pub no-call : (s : Site) (e : ExpTree) (ns : SlotNames) → calls e ≡ false → GoesOverNone s e ns
unfolding made_as value_helpers
no-call s (call name fs) ns is = absurd (cc)
no-call s (var n) ns is = record { ranges = refl; value = refl; helpers = refl }
no-call s (int n) ns is = record { ranges = refl; value = refl; helpers = refl }
no-call s (atom n) ns is = record { ranges = refl; value = refl; helpers = refl }
no-call s (str text) ns is = record { ranges = refl; value = refl; helpers = refl }
no-call s (list fs) ns is = record { ranges = refl; value = refl; helpers = refl }
no-call s (list_onto fs f) ns is = record { ranges = refl; value = refl; helpers = refl }
no-call s (array fs) ns is = record { ranges = refl; value = refl; helpers = refl }
no-call s (quote f) ns is = record { ranges = refl; value = refl; helpers = refl }
no-call s (index f fs) ns is = record { ranges = refl; value = refl; helpers = refl }
no-call s (range f g) ns is = record { ranges = refl; value = refl; helpers = refl }
no-call s (range_by f g k) ns is = record { ranges = refl; value = refl; helpers = refl }
no-call s (at n f) ns is = record { ranges = refl; value = refl; helpers = refl }
no-call s (collect b f fs) ns is = record { ranges = refl; value = refl; helpers = refl }
no-call s (and fs) ns is = record { ranges = refl; value = refl; helpers = refl }
no-call s (or fs) ns is = record { ranges = refl; value = refl; helpers = refl }
no-call s (arrow f g) ns is = record { ranges = refl; value = refl; helpers = refl }
no-call s (if_then bs) ns is = record { ranges = refl; value = refl; helpers = refl }
no-call s (if_else bs f) ns is = record { ranges = refl; value = refl; helpers = refl }
no-call s (foreach fs f) ns is = record { ranges = refl; value = refl; helpers = refl }
no-call s (while_do f g) ns is = record { ranges = refl; value = refl; helpers = refl }
no-call s (do_while f g) ns is = record { ranges = refl; value = refl; helpers = refl }

pub few-arguments : (s : Site) (name : List ℕ) (es : List Exp) (ns : SlotNames) → length es < 2 → GoesOverNone s (call name (exps_of es)) ns
unfolding made_as value_helpers value_at helpers_at
few-arguments s name [] ns few = record { ranges = refl; value = refl; helpers = refl }
few-arguments s name (x ∷ []) ns few = record { ranges = refl; value = refl; helpers = refl }
few-arguments s name (x ∷ y ∷ es) ns few = absurd (omega (arith, few))

-- two arguments or more
pub two-first : (es : List Exp) (x : Exp) → 2 ≤ length es → x ≡ get_or es 1 x → exps_of es ≡ exp (exp_tree (get_or es 0 x)) (exp (exp_tree x) (exps_of (drop 2 es)))
two-first [] x many is = absurd (omega (arith, many))
two-first (e ∷ []) x many is = absurd (omega (arith, many))
two-first (e ∷ f ∷ es) x many is = ap (λ z. exp (exp_tree e) (exp (exp_tree z) (exps_of es))) (sym is)
