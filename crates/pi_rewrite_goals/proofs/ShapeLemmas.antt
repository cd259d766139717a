-- What a form of expression comes to, by the tree that it has.
use Rattle.std.proofs.Common.{◌≡◌, List, None, Some, refl, sym, ◌∙◌, subst}
use Rattle.std.specs.Prelude.{Bool, Option}
use Rattle.std.specs.declared.alloc.Global.{Global}
use Rattle.std.specs.declared.boxed.Box.{Box}
use Rattle.pi_terms.specs.Tree.{Tree}
use Rattle.pi_core.specs.GoalTree.{GoalTree}
use Rattle.pi_core.specs.declared.core_program.CorePred.{CorePred}
use Rattle.pi_syntax.specs.ExpTree.{ExpTree, ExpTrees, range, range_by}
use Rattle.pi_syntax.specs.declared.exp.Exp as e
use Rattle.pi_syntax.specs.declared.exp.Exp.{Exp}
use Rattle.pi_meaning.specs.OverNames.Forms.{Reading}
use Rattle.pi_rewrite_spec.specs.Slots.{SlotNames}
use Rattle.pi_meaning.specs.OverNames.Texts.{assigned, kept_names}
use Rattle.pi_rewrite_spec.specs.Sites.{Site}
use Rattle.pi_rewrite_spec.specs.Loops.{as_it_is}
use Rattle.pi_rewrite_spec.specs.Written.{inner_of}
use Rattle.pi_rewrite_sites.proofs.NowTrees.{range-now, range_by-now}
use Rattle.pi_rewrite_goals.specs.Lowering.{Puts, GivesAs, so_far}
use Rattle.pi_rewrite_goals.specs.Shapes.{IsStepped}
use Rattle.pi_rewrite_goals.specs.Opening.{Iterates, HasBegun, Gathers, IsGathering}
use Rattle.pi_rewrite_goals.specs.declared.whole.Iterating.{Iterating}
use Rattle.pi_rewrite_goals.specs.declared.whole.Comprehension.{Comprehension}
use Rattle.pi_rewrite_loops.specs.Helpers.{lowered}

pub put-as : (s : Site) (e f : ExpTree) (ns m : SlotNames) (old new : List GoalTree) (before all : List CorePred) → e ≡ f → Puts s f (so_far ns old before) (so_far m new all) → Puts s e (so_far ns old before) (so_far m new all)
put-as s e f ns m old new before all is = subst (λ x. Puts s x (so_far ns old before) (so_far m new all)) (sym is)

pub gives-as : (r : Reading) (s : Site) (e f : ExpTree) (ns m : SlotNames) (old new : List GoalTree) (t : Tree) (before all : List CorePred) → e ≡ f → GivesAs r s f t (so_far ns old before) (so_far m new all) → GivesAs r s e t (so_far ns old before) (so_far m new all)
gives-as r s e f ns m old new t before all is = subst (λ x. GivesAs r s x t (so_far ns old before) (so_far m new all)) (sym is)

no-step : (a b x y z : ExpTree) → range a b ≡ range_by x y z → ⊥
no-step a b x y z e = absurd cc

-- a range without a step is none with one
pub not-stepped : (x : Exp) (low : Box Exp Global) (step : Option (Box Exp Global)) (high : Box Exp Global) → x ≡ e.Range low step high → step ≡ None → IsStepped x → ⊥
not-stepped x low step high is none f =
    no-step _ _ _ _ _ (sym (range-now x low step high low.value high.value is none refl refl) ∙ range_by-now x f.low (Some f.step) f.high f.step f.low.value f.step.value f.high.value f.is refl refl refl refl)

-- ---- a loop that has begun is that of its expression

pub has-begun : (s : Site) (x e : ExpTree) (us : ExpTrees) (ns : SlotNames) (b : Iterating) (ms : SlotNames) → x ≡ ExpTree.foreach us e → Iterates s as_it_is (kept_names s.before us (assigned e)) (inner_of e) us ns b ms → HasBegun s x ns b ms
unfolding HasBegun
has-begun s x e us ns b ms is = subst (λ z. HasBegun s z ns b ms) (sym is)

pub begun-of : (s : Site) (x e : ExpTree) (us : ExpTrees) (ns : SlotNames) (b : Iterating) (ms : SlotNames) → x ≡ ExpTree.foreach us e → HasBegun s x ns b ms → Iterates s as_it_is (kept_names s.before us (assigned e)) (inner_of e) us ns b ms
unfolding HasBegun
begun-of s x e us ns b ms is = subst (λ z. HasBegun s z ns b ms) is

pub is-gathering : (s : Site) (x e : ExpTree) (us : ExpTrees) (is_array : Bool) (ns : SlotNames) (old : List GoalTree) (c : Comprehension) (ms : SlotNames) (new : List GoalTree) → x ≡ ExpTree.collect is_array e us → Gathers s e us is_array ns old c ms new → IsGathering s x (lowered old ns) c (lowered new ms)
unfolding IsGathering
is-gathering s x e us is_array ns old c ms new is = subst (λ z. IsGathering s z (lowered old ns) c (lowered new ms)) (sym is)

pub gathers-of : (s : Site) (x e : ExpTree) (us : ExpTrees) (is_array : Bool) (ns : SlotNames) (old : List GoalTree) (c : Comprehension) (ms : SlotNames) (new : List GoalTree) → x ≡ ExpTree.collect is_array e us → IsGathering s x (lowered old ns) c (lowered new ms) → Gathers s e us is_array ns old c ms new
unfolding IsGathering
gathers-of s x e us is_array ns old c ms new is = subst (λ z. IsGathering s z (lowered old ns) c (lowered new ms)) is
