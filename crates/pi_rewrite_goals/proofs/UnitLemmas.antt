-- Iterators and tests that code opens one after the other, and the loops that they stand in.
use Rattle.std.proofs.Common.{◌≡◌, ℕ, ◌+◌, ◌<◌, ◌≤◌, Bool, true, List, [], ◌∷◌, ◌++◌, length, get_or, drop, take, ◌-◌, None, Some, refl, sym, ap, subst}
use Rattle.std.proofs.lemmas.List.{drop_all, take_rest}
use Rattle.std.specs.Prelude.{Vec, Option, map}
use Rattle.std.specs.declared.alloc.Global.{Global}
use Rattle.pi_terms.specs.Tree.{Tree}
use Rattle.pi_core.specs.GoalTree.{GoalTree}
use Rattle.pi_core.specs.CoreTree.{PredTree, pred_tree}
use Rattle.pi_core.specs.declared.core_program.CorePred.{CorePred}
use Rattle.pi_syntax.specs.ExpTree.{ExpTree, ExpTrees, exp_tree}
use Rattle.pi_syntax.specs.ExpLists.{exps_of}
use Rattle.pi_syntax.specs.declared.exp.Exp.{Exp}
use Rattle.pi_meaning.specs.OverNames.Texts.{Names, assigned, kept_names}
use Rattle.pi_meaning.specs.OverNames.Loops.{hidden}
use Rattle.pi_rewrite_spec.specs.Slots.{SlotNames}
use Rattle.pi_rewrite_spec.specs.Sites.{Site, behind_exp}
use Rattle.pi_rewrite_spec.specs.Loops.{Ending, as_it_is, in_order}
use Rattle.pi_rewrite_spec.specs.Written.{Inner, inner_of, gathering, made, goal_of}
use Rattle.pi_rewrite_spec.specs.Helpers.{goal_helpers, value_helpers, collection_helpers}
use Rattle.pi_rewrite_slots.proofs.FlatLemmas.{drop-next}
use Rattle.pi_rewrite_sites.specs.SiteOf.{site_of}
use Rattle.pi_rewrite_loops.specs.Parts.{AreGoals, IsAlone, IsValue}
use Rattle.pi_rewrite_loops.specs.Helpers.{loop_of, ending_of, lowered}
use Rattle.pi_rewrite_loops.specs.declared.loops.Loop.{Loop}
use Rattle.pi_rewrite_loops.proofs.WholeLemmas.{adding-whole}
use Rattle.pi_rewrite_goals.specs.Opened.{OpenTo, AreOpen, StepTo}
use Rattle.pi_rewrite_goals.specs.Planned.{inner_in, IsPlanned, IsIterator, IsGoneOver}
use Rattle.pi_rewrite_goals.specs.declared.inner.Planned.{Planned}
use Rattle.pi_rewrite_goals.specs.declared.opened.Open.{Open}
use Rattle.pi_rewrite_goals.specs.declared.opened.Open.TheVariants.{Test, Iterator}
use Rattle.pi_rewrite_goals.proofs.OpenLemmas.{opened_by, open-more, all-open, step-test, step-iterator}
use Rattle.pi_rewrite_goals.specs.Lowering.{With, by_place}
use Rattle.pi_rewrite_goals.specs.Opening.{Iterates, OpensUnit, EndsLoop, Gathers, EndsGathering}
use Rattle.pi_rewrite_goals.specs.declared.whole.Iterating.{Iterating}
use Rattle.pi_rewrite_goals.specs.declared.whole.Comprehension.{Comprehension}
use Rattle.pi_rewrite_goals.proofs.IteratedLemmas.{added, iterated-goals, iterated-helpers, put-foreach, helpers-foreach, put-collect, helpers-collect}

-- ---- one more

pub opens-test : (p : Option Planned) (t t' : Site) (u : ExpTree) (goals : List GoalTree) (ms m : SlotNames) (test : GoalTree) (before : Vec GoalTree Global) (more : List GoalTree) (old new : List PredTree) → p ≡ None → IsAlone (goal_of t u ms) test m → t' ≡ behind_exp t u → before.items ≡ goals → more ≡ [] →
    new ≡ old ++ goal_helpers t u → OpensUnit p t u goals ms (Test test before) t' more m old new
opens-test p t t' u goals ms m test before more old new none here go same empty put = record {
  step = λ now i us is. step-test i t t' now u us goals ms m test before more old new (subst (λ q. IsPlanned t now i u us q) none is) here go same empty put;
}

pub opens-iterator : (p : Option Planned) (t t' : Site) (u : ExpTree) (goals put : List GoalTree) (ms m ks ns : SlotNames) (q : Planned) (r : Bool) (gs : Vec GoalTree Global) (more : List GoalTree) (old new : List PredTree) → p ≡ Some q → IsGoneOver r t (loop_of q.whole) u ms goals put ks → gs.items ≡ put → ns ≡ ks →
    t' ≡ site_of q.site → m ≡ q.slots → more ≡ [] → new ≡ old ++ collection_helpers t u → OpensUnit p t u goals ms (Iterator (opened_by q r gs ns)) t' more m old new
opens-iterator p t t' u goals put ms m ks ns q r gs more old new some gone same taken go start empty helpers = record {
  step = λ now i us is.
      let it : IsIterator t now i u us q = subst (λ o. IsPlanned t now i u us o) some is in
      let whole : IsGoneOver r t (loop_of q.whole) u ms goals gs.items ns = subst (λ xs. IsGoneOver r t (loop_of q.whole) u ms goals xs ns) (sym same) (subst (λ ys. IsGoneOver r t (loop_of q.whole) u ms goals put ys) (sym taken) gone) in
      step-iterator i t t' now u us goals ms m q r gs ns more old new it whole go start empty helpers;
}

-- ---- all, one after the other

pub units-more : (s : Site) (ending : Ending) (i : Inner) (us : List Exp) (before : List GoalTree) (ns : SlotNames) (os ps : List Open) (t t' : Site) (now : Ending) (k : ℕ) (x : Exp) (goals : List GoalTree) (ms : SlotNames) (old new : List PredTree) (o : Open) (more : List GoalTree) (m : SlotNames) (all : List PredTree) (p : Option Planned) →
    k < length us → x ≡ get_or us k x → IsPlanned t now i (exp_tree x) (exps_of (take (length us - (k + 1)) (drop (k + 1) us))) p → OpensUnit p t (exp_tree x) goals ms o t' more m new all → ps ≡ os ++ o ∷ [] →
    OpenTo s ending i (exps_of us) before ns os t now (exps_of (drop k us)) goals ms old new → OpenTo s ending i (exps_of us) before ns ps t' as_it_is (exps_of (drop (k + 1) us)) more m old all
units-more s ending i us before ns os ps t t' now k x goals ms old new o more m all p lt is planned opens put so =
    let u : ExpTree = exp_tree x in
    let rest : List Exp = drop (k + 1) us in
    let step : StepTo i t now u (exps_of rest) goals ms o t' more m new all = opens.step now i (exps_of rest) (subst (λ xs. IsPlanned t now i u (exps_of xs) p) (take_rest us (k + 1)) planned) in
    let here : OpenTo s ending i (exps_of us) before ns os t now (exps_of (x ∷ rest)) goals ms old new = subst (λ xs. OpenTo s ending i (exps_of us) before ns os t now (exps_of xs) goals ms old new) (drop-next us k x lt is) so in
    subst (λ qs. OpenTo s ending i (exps_of us) before ns qs t' as_it_is (exps_of rest) more m old all) (sym put) (open-more s ending i (exps_of us) before ns os t now u (exps_of rest) goals ms old new o t' more m all here step)

pub units-end : (s : Site) (ending : Ending) (i : Inner) (us : List Exp) (before : List GoalTree) (ns : SlotNames) (os : List Open) (t : Site) (now : Ending) (k : ℕ) (goals : List GoalTree) (ms : SlotNames) (old new : List PredTree) → length us ≤ k →
    OpenTo s ending i (exps_of us) before ns os t now (exps_of (drop k us)) goals ms old new → AreOpen s ending i (exps_of us) before ns os t goals ms old new
units-end s ending i us before ns os t now k goals ms old new past so = all-open s ending i (exps_of us) before ns os t now (exps_of (drop k us)) goals ms old new (ap exps_of (drop_all k us past)) so

-- ---- the loops

pub foreach-whole : (s : Site) (x e : ExpTree) (es : ExpTrees) (b : Iterating) (ns ns' : SlotNames) (os : List Open) (u : Site) (goals turn old new : List GoalTree) (m n end : SlotNames) (before all : List CorePred) (hs more : List PredTree) → x ≡ ExpTree.foreach es e →
    Iterates s as_it_is (kept_names s.before es (assigned e)) (inner_of e) es ns b ns' → AreOpen (site_of b.inside.site) (ending_of b.ending) (inner_in b.inner) es b.inside.goals.items b.inside.slots os u goals m (map pred_tree before) hs → AreGoals (goal_of u e m) goals turn n → more ≡ hs ++ goal_helpers u e →
    EndsLoop b.whole s os (lowered turn n) ns' old new end more (map pred_tree all) → With (AreGoals (goal_of s x ns) old new end) before all (goal_helpers s x)
foreach-whole s x e es b ns ns' os u goals turn old new m n end before all hs more p begun stands put here ended =
    let i : Inner = inner_of e in
    let kept : Names = kept_names s.before es (assigned e) in
    let t : Site = site_of b.inside.site in
    let now : Ending = ending_of b.ending in
    let first : List GoalTree = b.inside.goals.items in
    let ms : SlotNames = b.inside.slots in
    let o : List PredTree = map pred_tree before in
    let y : List PredTree = map pred_tree all in
    let are : AreOpen t now i es first ms os u goals m o hs = subst (λ j. AreOpen t now j es first ms os u goals m o hs) begun.inner stands in
    record {
      is = put-foreach s x e es i kept ns end old new p refl refl
          (iterated-goals b.whole s as_it_is kept i es ns t now first ms ns' os u goals turn ended.turn old new m n ended.slots end o hs ended.owned y (λ v. goal_of v e) begun.begins are put ended.closes ended.ends);
      helpers = helpers-foreach s x e es i kept o y p refl refl
          (iterated-helpers b.whole s as_it_is kept i es ns t now first ms ns' os u goals turn ended.turn old new m n ended.slots end o hs more ended.owned y (λ v. goal_of v e) (λ v. goal_helpers v e) begun.begins are put here ended.closes ended.owns ended.ends);
    }

pub collect-whole : (s : Site) (x e : ExpTree) (es : ExpTrees) (is_array : Bool) (c : Comprehension) (ns ms : SlotNames) (old a new : List GoalTree) (os : List Open) (u : Site) (goals mid : List GoalTree) (m l : SlotNames) (item term : Tree) (end : SlotNames) (before all : List CorePred) (hs more : List PredTree) → x ≡ ExpTree.collect is_array e es →
    Gathers s e es is_array ns old c ms a → AreOpen (site_of c.inside.site) (ending_of c.ending) (inner_in c.inner) es c.inside.goals.items c.inside.slots os u goals m (map pred_tree before) hs → IsValue (by_place true u e m) goals mid item l → more ≡ hs ++ value_helpers u e →
    EndsGathering c.around os item mid l ms a term new end more (map pred_tree all) → With (IsValue (made s x ns) old new term end) before all (value_helpers s x)
collect-whole s x e es is_array c ns ms old a new os u goals mid m l item term end before all hs more p begun stands value here ended =
    let i : Inner = gathering e in
    let kept : Names = hidden ∷ [] in
    let t : Site = site_of c.around.site in
    let z : Site = site_of c.inside.site in
    let now : Ending = ending_of c.ending in
    let first : List GoalTree = c.inside.goals.items in
    let ls : SlotNames = c.inside.slots in
    let o : List PredTree = map pred_tree before in
    let y : List PredTree = map pred_tree all in
    let w : Option Loop = c.around.whole in
    let us : SlotNames = c.around.slots in
    let by : EndsLoop w t os (lowered ended.turn ended.slots) us a new ended.behind more y = ended.ends in
    let are : AreOpen z now i es first ls os u goals m o hs = subst (λ j. AreOpen z now j es first ls os u goals m o hs) begun.inner stands in
    let put : AreGoals (added e u m) goals ended.turn ended.slots = adding-whole (by_place true u e m) goals mid ended.turn item l ended.slots value ended.adds in
    record {
      is = put-collect s t s.before x e es is_array i kept ns ms begun.within ended.behind end old begun.first a new term p refl refl begun.site refl begun.starts begun.has_begun
          (iterated-goals w t (in_order is_array) kept i es begun.within z now first ls us os u goals ended.turn by.turn a new m ended.slots by.slots ended.behind o hs by.owned y (added e) begun.begins are put by.closes by.ends) ended.is ended.left;
      helpers = helpers-collect s t x e es is_array i kept o y p refl refl begun.site
          (iterated-helpers w t (in_order is_array) kept i es begun.within z now first ls us os u goals ended.turn by.turn a new m ended.slots by.slots ended.behind o hs more by.owned y (added e) (λ v. value_helpers v e) begun.begins are put here by.closes by.owns by.ends);
    }
