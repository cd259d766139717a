-- What is no goal: it has no answer, and no helpers.
use Rattle.std.proofs.Common.{◌≡◌, ℕ, Bool, List, [], None, Some, refl, ap}
use Rattle.std.specs.Prelude.{Vec, Option, ℤ}
use Rattle.std.specs.declared.alloc.Global.{Global}
use Rattle.std.specs.declared.boxed.Box.{Box}
use Rattle.pi_syntax.specs.ExpTree.{ExpTree, exp_tree}
use Rattle.pi_syntax.specs.declared.exp.Exp as e
use Rattle.pi_syntax.specs.declared.exp.Exp.{Exp}
use Rattle.pi_rewrite_spec.specs.Slots.{SlotNames}
use Rattle.pi_rewrite_spec.specs.Goals.{never}
use Rattle.pi_rewrite_spec.specs.Sites.{Site}
use Rattle.pi_rewrite_spec.specs.Written.{goal_of}
use Rattle.pi_rewrite_spec.specs.Helpers.{goal_helpers}
use Rattle.pi_rewrite_slots.proofs.ExpTrees.{list-is, list_onto-is, range-is, range_by-is}

pub never-var : (s : Site) (name : List ℕ) (ns : SlotNames) → goal_of s (exp_tree (e.Var name)) ns ≡ never ns
unfolding goal_of exp_tree
never-var s name ns = refl

pub idle-var : (s : Site) (name : List ℕ) → goal_helpers s (exp_tree (e.Var name)) ≡ []
unfolding goal_helpers exp_tree
idle-var s name = refl

pub never-int : (s : Site) (n : ℤ) (ns : SlotNames) → goal_of s (exp_tree (e.Int n)) ns ≡ never ns
unfolding goal_of exp_tree
never-int s n ns = refl

pub idle-int : (s : Site) (n : ℤ) → goal_helpers s (exp_tree (e.Int n)) ≡ []
unfolding goal_helpers exp_tree
idle-int s n = refl

pub never-str : (s : Site) (text : List ℕ) (ns : SlotNames) → goal_of s (exp_tree (e.Str text)) ns ≡ never ns
unfolding goal_of exp_tree
never-str s text ns = refl

pub idle-str : (s : Site) (text : List ℕ) → goal_helpers s (exp_tree (e.Str text)) ≡ []
unfolding goal_helpers exp_tree
idle-str s text = refl

pub never-array : (s : Site) (es : Vec Exp Global) (ns : SlotNames) → goal_of s (exp_tree (e.Array es)) ns ≡ never ns
unfolding goal_of exp_tree
never-array s es ns = refl

pub idle-array : (s : Site) (es : Vec Exp Global) → goal_helpers s (exp_tree (e.Array es)) ≡ []
unfolding goal_helpers exp_tree
idle-array s es = refl

pub never-quote : (s : Site) (of : Box Exp Global) (ns : SlotNames) → goal_of s (exp_tree (e.Quote of)) ns ≡ never ns
unfolding goal_of exp_tree
never-quote s of ns = refl

pub idle-quote : (s : Site) (of : Box Exp Global) → goal_helpers s (exp_tree (e.Quote of)) ≡ []
unfolding goal_helpers exp_tree
idle-quote s of = refl

pub never-index : (s : Site) (of : Box Exp Global) (es : Vec Exp Global) (ns : SlotNames) → goal_of s (exp_tree (e.Index of es)) ns ≡ never ns
unfolding goal_of exp_tree
never-index s of es ns = refl

pub idle-index : (s : Site) (of : Box Exp Global) (es : Vec Exp Global) → goal_helpers s (exp_tree (e.Index of es)) ≡ []
unfolding goal_helpers exp_tree
idle-index s of es = refl

pub never-at : (s : Site) (name : List ℕ) (of : Box Exp Global) (ns : SlotNames) → goal_of s (exp_tree (e.At name of)) ns ≡ never ns
unfolding goal_of exp_tree
never-at s name of ns = refl

pub idle-at : (s : Site) (name : List ℕ) (of : Box Exp Global) → goal_helpers s (exp_tree (e.At name of)) ≡ []
unfolding goal_helpers exp_tree
idle-at s name of = refl

pub never-collect : (s : Site) (b : Bool) (of : Box Exp Global) (es : Vec Exp Global) (ns : SlotNames) → goal_of s (exp_tree (e.Collect b of es)) ns ≡ never ns
unfolding goal_of exp_tree
never-collect s b of es ns = refl

pub idle-collect : (s : Site) (b : Bool) (of : Box Exp Global) (es : Vec Exp Global) → goal_helpers s (exp_tree (e.Collect b of es)) ≡ []
unfolding goal_helpers exp_tree
idle-collect s b of es = refl

pub never-arrow : (s : Site) (e c b : ExpTree) (ns : SlotNames) → e ≡ ExpTree.arrow c b → goal_of s e ns ≡ never ns
unfolding goal_of
never-arrow s e c b ns p = ap (λ t. goal_of s t ns) p

pub never-list : (s : Site) (es : Vec Exp Global) (tail : Option (Box Exp Global)) (ns : SlotNames) → goal_of s (exp_tree (e.List es tail)) ns ≡ never ns
unfolding goal_of
never-list s es None ns = ap (λ t. goal_of s t ns) (list-is (e.List es None) es None refl refl)
never-list s es (Some b) ns = ap (λ t. goal_of s t ns) (list_onto-is (e.List es (Some b)) es (Some b) b refl refl)

pub idle-list : (s : Site) (es : Vec Exp Global) (tail : Option (Box Exp Global)) → goal_helpers s (exp_tree (e.List es tail)) ≡ []
unfolding goal_helpers
idle-list s es None = ap (goal_helpers s) (list-is (e.List es None) es None refl refl)
idle-list s es (Some b) = ap (goal_helpers s) (list_onto-is (e.List es (Some b)) es (Some b) b refl refl)

pub never-range : (s : Site) (first : Box Exp Global) (step : Option (Box Exp Global)) (last : Box Exp Global) (ns : SlotNames) → goal_of s (exp_tree (e.Range first step last)) ns ≡ never ns
unfolding goal_of
never-range s first None last ns = ap (λ t. goal_of s t ns) (range-is (e.Range first None last) first None last refl refl)
never-range s first (Some b) last ns = ap (λ t. goal_of s t ns) (range_by-is (e.Range first (Some b) last) first (Some b) last b refl refl)

pub idle-range : (s : Site) (first : Box Exp Global) (step : Option (Box Exp Global)) (last : Box Exp Global) → goal_helpers s (exp_tree (e.Range first step last)) ≡ []
unfolding goal_helpers
idle-range s first None last = ap (goal_helpers s) (range-is (e.Range first None last) first None last refl refl)
idle-range s first (Some b) last = ap (goal_helpers s) (range_by-is (e.Range first (Some b) last) first (Some b) last b refl refl)
