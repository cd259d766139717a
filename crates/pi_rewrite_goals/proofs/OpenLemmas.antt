-- One more test or iterator is open.
use Rattle.std.proofs.Common.{◌≡◌, ℕ, suc, ◌+◌, Bool, true, false, List, [], ◌∷◌, ◌++◌, length, None, refl, sym, ◌∙◌, ap, append_assoc}
use Rattle.std.specs.Prelude.{Vec}
use Rattle.std.specs.declared.alloc.Global.{Global}
use Rattle.std.proofs.lemmas.List.{append-nil, length-replicate}
use Rattle.pi_terms.specs.PatternTree.{PatternTree, pattern}
use Rattle.pi_core.specs.GoalTree.{GoalTree}
use Rattle.pi_core.specs.CoreTree.{PredTree}
use Rattle.pi_syntax.specs.ExpTree.{ExpTree, ExpTrees, no_exps, exp}
use Rattle.pi_meaning.specs.OverNames.Texts.{iterated}
use Rattle.pi_rewrite_spec.specs.Slots.{SlotNames, unnamed}
use Rattle.pi_rewrite_spec.specs.Values.{SlotPattern, slot_pattern}
use Rattle.pi_rewrite_spec.specs.Goals.{SlotGoals, in_turn}
use Rattle.pi_rewrite_spec.specs.Sites.{Site, behind_exp}
use Rattle.pi_rewrite_spec.specs.Loops.{Ending, as_it_is, Loop, slots_from, slots_head, clause_of, helper}
use Rattle.pi_rewrite_spec.specs.Iterators.{handed, turn_slots, element_helper, tested}
use Rattle.pi_rewrite_spec.specs.Ranges.{next_turn, range_helper}
use Rattle.pi_rewrite_spec.specs.Written.{Inner, goal_of, units, unit_goals, gone_over, is_range, iterator_loop, elements_of, bounds_of, collection_of, turn_name}
use Rattle.pi_rewrite_spec.specs.Helpers.{goal_helpers, units_helpers, collection_helpers, unit_helpers, iterated_helpers, own_helpers, iterator_text}
use Rattle.pi_rewrite_loops.specs.Parts.{IsAlone}
use Rattle.pi_rewrite_loops.specs.Helpers.{IsElement, loop_of, lowered, own_by}
use Rattle.pi_rewrite_sites.specs.SiteOf.{site_of}
use Rattle.pi_rewrite_loops.specs.declared.elements.Element.{Element}
use Rattle.pi_rewrite_goals.specs.Opened.{element_pattern, onto, around, own_of, all_around, all_own, AreOpen, OpenTo, StepTo}
use Rattle.pi_rewrite_goals.specs.Planned.{IsIterator, IsGoneOver}
use Rattle.pi_rewrite_goals.specs.declared.inner.Planned.{Planned}
use Rattle.pi_rewrite_goals.specs.declared.opened.Iterated.{Iterated}
use Rattle.pi_rewrite_goals.specs.declared.opened.Open.{Open}
use Rattle.pi_rewrite_goals.specs.declared.opened.Open.TheVariants.{Test, Iterator}

-- ---- one more behind those that are open

pub around-push : (os : List Open) (o : Open) (g : SlotGoals) → all_around (os ++ o ∷ []) g ≡ all_around os (around o g)
unfolding all_around
around-push [] o g = refl
around-push (p ∷ os) o g = ap (around p) (around-push os o g)

pub own-push : (os : List Open) (o : Open) (g : SlotGoals) → all_own (os ++ o ∷ []) g ≡ own_of o g ++ all_own os (around o g)
unfolding all_own all_around
own-push [] o g = sym (append-nil (own_of o g))
own-push (p ∷ os) o g =
    ap (λ ps. ps ++ own_of p (all_around (os ++ o ∷ []) g)) (own-push os o g)
    ∙ (ap (λ h. (own_of o g ++ all_own os (around o g)) ++ own_of p h) (around-push os o g) ∙ append_assoc (own_of o g) (all_own os (around o g)) (own_of p (all_around os (around o g))))

-- one more
pub open-more : (s : Site) (ending : Ending) (i : Inner) (us : ExpTrees) (before : List GoalTree) (ns : SlotNames) (os : List Open) (t : Site) (now : Ending) (u : ExpTree) (rest : ExpTrees) (goals : List GoalTree) (ms : SlotNames) (old new : List PredTree) (o : Open) (t' : Site) (more : List GoalTree) (m : SlotNames) (all : List PredTree) →
    OpenTo s ending i us before ns os t now (exp u rest) goals ms old new → StepTo i t now u rest goals ms o t' more m new all → OpenTo s ending i us before ns (os ++ o ∷ []) t' as_it_is rest more m old all
open-more s ending i us before ns os t now u rest goals ms old new o t' more m all so step = record {
  goals_are = λ body.
      let g : SlotGoals = onto more (units t' as_it_is i rest body m) in
      so.goals_are body ∙ (ap (all_around os) (step.goals_are body) ∙ sym (around-push os o g));
  helpers_are = λ body inner.
      let g : SlotGoals = onto more (units t' as_it_is i rest body m) in
      let behind : List PredTree = units_helpers t' as_it_is i rest body inner in
      let here : List PredTree = units_helpers t now i (exp u rest) body inner in
      so.helpers_are body inner
      ∙ (ap (λ x. new ++ (here ++ all_own os x)) (step.goals_are body)
      ∙ (sym (append_assoc new here (all_own os (around o g)))
      ∙ (ap (λ ps. ps ++ all_own os (around o g)) (step.helpers_are body inner)
      ∙ (append_assoc all (behind ++ own_of o g) (all_own os (around o g))
      ∙ ap (λ ps. all ++ ps) (append_assoc behind (own_of o g) (all_own os (around o g)) ∙ ap (λ ps. behind ++ ps) (sym (own-push os o g)))))));
}

-- none is open at first, and all are at last
pub none-open : (s : Site) (ending : Ending) (i : Inner) (us : ExpTrees) (goals : List GoalTree) (ns : SlotNames) (os : List Open) (old : List PredTree) → os ≡ [] → OpenTo s ending i us goals ns os s ending us goals ns old old
unfolding all_around all_own
none-open s ending i us goals ns os old none =
    let whole : (Site → SlotNames → SlotGoals) → SlotGoals = λ body. onto goals (units s ending i us body ns) in
    record {
      goals_are = λ body. ap (λ ps. all_around ps (whole body)) (sym none);
      helpers_are = λ body inner.
          let hs : List PredTree = units_helpers s ending i us body inner in
          ap (λ ps. old ++ ps) (sym (append-nil hs) ∙ ap (λ ps. hs ++ all_own ps (whole body)) (sym none));
    }

pub all-open : (s : Site) (ending : Ending) (i : Inner) (us : ExpTrees) (before : List GoalTree) (ns : SlotNames) (os : List Open) (t : Site) (now : Ending) (rest : ExpTrees) (goals : List GoalTree) (ms : SlotNames) (old new : List PredTree) → rest ≡ no_exps →
    OpenTo s ending i us before ns os t now rest goals ms old new → AreOpen s ending i us before ns os t goals ms old new
unfolding units units_helpers
all-open s ending i us before ns os t now rest goals ms old new end so = record {
  goals_are = λ body. so.goals_are body ∙ ap (λ es. all_around os (onto goals (units t now i es body ms))) end;
  helpers_are = λ body inner. so.helpers_are body inner ∙ ap (λ es. new ++ (units_helpers t now i es body inner ++ all_own os (onto goals (units t now i es body ms)))) end;
}

-- ---- a test

-- a test with what stands behind it, behind goals
abbrev tested_shape : GoalTree → SlotGoals → List GoalTree → SlotGoals
tested_shape test r goals = onto goals (record { goals = GoalTree.if_else test (in_turn r.goals) GoalTree.truth ∷ []; names = r.names })

pub step-test : (i : Inner) (t t' : Site) (now : Ending) (u : ExpTree) (us : ExpTrees) (goals : List GoalTree) (ms m : SlotNames) (test : GoalTree) (before : Vec GoalTree Global) (more : List GoalTree) (old new : List PredTree) → iterated u ≡ None → IsAlone (goal_of t u ms) test m → t' ≡ behind_exp t u → before.items ≡ goals → more ≡ [] →
    new ≡ old ++ goal_helpers t u → StepTo i t now u us goals ms (Test test before) t' more m old new
unfolding units units_helpers
step-test i t t' now u us goals ms m test before more old new is here go same empty put =
    let rest : (Site → SlotNames → SlotGoals) → Site → SlotNames → SlotGoals = λ body z ks. units z as_it_is i us body ks in
    let g : SlotGoals = goal_of t u ms in
    record {
      goals_are = λ body.
          ap (λ o. onto goals (unit_goals o (λ e ks. gone_over (is_range u) t (iterator_loop t now i u us e) (bounds_of t u) (collection_of t u) ks) (λ ks. tested (goal_of t u ks) (rest body (behind_exp t u))) ms)) is
          ∙ (ap (λ z. onto goals (tested g (rest body z))) (sym go)
          ∙ (ap (λ (x : GoalTree). tested_shape x (rest body t' g.names) goals) (sym here.goal)
          ∙ (ap (λ ks. tested_shape test (rest body t' ks) goals) (sym here.names)
          ∙ (ap (tested_shape test (rest body t' m)) (sym same) ∙ ap (λ gs. tested_shape test (onto gs (rest body t' m)) before.items) (sym empty)))));
      helpers_are = λ body inner.
          let behind : List PredTree = units_helpers t' as_it_is i us body inner in
          ap (λ o. old ++ unit_helpers o (λ e. iterated_helpers (iterator_text t now i u us e) (collection_helpers t u) (units_helpers (elements_of t (iterator_loop t now i u us e) u e) as_it_is i us body inner)
          (units (elements_of t (iterator_loop t now i u us e) u e) as_it_is i us body)) (goal_helpers t u ++ units_helpers (behind_exp t u) as_it_is i us body inner)) is
          ∙ (ap (λ z. old ++ (goal_helpers t u ++ units_helpers z as_it_is i us body inner)) (sym go)
          ∙ (sym (append_assoc old (goal_helpers t u) behind) ∙ (ap (λ ps. ps ++ behind) (sym put) ∙ ap (λ ps. new ++ ps) (sym (append-nil behind)))));
    }

-- ---- an iterator

abbrev pub opened_by : Planned → Bool → Vec GoalTree Global → SlotNames → Iterated
opened_by p r gs ns = record { whole = p.whole; turn = p.turn; element = p.element; is_range = r; goals = gs; slots = ns }

-- its own helpers, by the form of its pattern and how many slots that has
abbrev own_shape : Bool → List ℕ → Loop → PatternTree → ℕ → SlotGoals → List PredTree
own_shape true name l form w g =
    range_helper name l ∷ helper name (suc (handed l)) (clause_of (pattern form (slots_head w (handed l))) (in_turn (g.goals ++ next_turn name l w (length g.names) ∷ [])) (length g.names + 2)
    ∷ clause_of (slots_head 0 (suc (handed l))) (next_turn name l 1 (suc (handed l))) (suc (handed l) + 2) ∷ []) ∷ []
own_shape false name l form w g =
    element_helper name l ∷ helper name (suc (handed l)) (clause_of (pattern form (slots_head w (handed l))) (in_turn (g.goals ++ GoalTree.call l.name (slots_from w (handed l)) ∷ [])) (length g.names)
    ∷ clause_of (slots_head 0 (suc (handed l))) (GoalTree.call l.name (slots_from 1 (handed l))) (suc (handed l)) ∷ []) ∷ []

shape-of : (r : Bool) (name : List ℕ) (l : Loop) (p : SlotPattern) (g : SlotGoals) → own_by r name l p g ≡ own_shape r name l p.form (length p.names) g
shape-of true name l p g = refl
shape-of false name l p g = refl

shape-from : (r : Bool) (name : List ℕ) (l : Loop) (e : ExpTree) (turn : SlotNames → SlotGoals) → own_helpers r name l e turn ≡ own_by r name l (slot_pattern e []) (turn (turn_slots l (slot_pattern e [])))
shape-from true name l e turn = refl
shape-from false name l e turn = refl

own-is : (r : Bool) (name : List ℕ) (l : Loop) (e : ExpTree) (el : Element) (turn : SlotNames → SlotGoals) → IsElement (slot_pattern e []) el → own_helpers r name l e turn ≡ own_by r name l (element_pattern el) (turn (turn_slots l (slot_pattern e [])))
own-is r name l e el turn is =
    let p : SlotPattern = slot_pattern e [] in
    let g : SlotGoals = turn (turn_slots l p) in
    let width : length p.names ≡ length (element_pattern el).names = sym is.width ∙ sym (length-replicate el.width unnamed) in
    shape-from r name l e turn
    ∙ (shape-of r name l p g ∙ (ap (λ f. own_shape r name l f (length p.names) g) (sym is.form) ∙ (ap (λ w. own_shape r name l (element_pattern el).form w g) width ∙ sym (shape-of r name l (element_pattern el) g))))

pub step-iterator : (i : Inner) (t t' : Site) (now : Ending) (u : ExpTree) (us : ExpTrees) (goals : List GoalTree) (ms m : SlotNames) (p : Planned) (r : Bool) (gs : Vec GoalTree Global) (ns : SlotNames) (more : List GoalTree) (old new : List PredTree) → IsIterator t now i u us p → IsGoneOver r t (loop_of p.whole) u ms goals gs.items ns →
    t' ≡ site_of p.site → m ≡ p.slots → more ≡ [] → new ≡ old ++ collection_helpers t u → StepTo i t now u us goals ms (Iterator (opened_by p r gs ns)) t' more m old new
unfolding units units_helpers
step-iterator i t t' now u us goals ms m p r gs ns more old new it gone go start empty helpers =
    let e : ExpTree = it.pattern in
    let l : Loop = iterator_loop t now i u us e in
    let whole : loop_of p.whole ≡ l = it.plan.whole it.iterates in
    let site-is : t' ≡ elements_of t l u e = go ∙ (it.plan.site ∙ ap (λ w. elements_of t w u e) whole) in
    let slots-are : m ≡ turn_slots l (slot_pattern e []) = start ∙ (it.plan.slots ∙ ap (λ w. turn_slots w (slot_pattern e [])) whole) in
    let there : Loop → SlotGoals = λ w. gone_over (is_range u) t w (bounds_of t u) (collection_of t u) ms in
    record {
      goals_are = λ body.
          ap (λ o. onto goals (unit_goals o (λ f ks. gone_over (is_range u) t (iterator_loop t now i u us f) (bounds_of t u) (collection_of t u) ks) (λ ks. tested (goal_of t u ks) (λ js. units (behind_exp t u) as_it_is i us body js)) ms)) it.iterates
          ∙ (ap (λ w. onto goals (there w)) (sym whole)
          ∙ (ap (λ hs. lowered hs (there (loop_of p.whole)).names) (sym gone.put.goals) ∙ ap (λ ks. lowered gs.items ks) (sym gone.put.names)));
      helpers_are = λ body inner.
          let over : List PredTree = collection_helpers t u in
          let turn : SlotNames → SlotGoals = units t' as_it_is i us body in
          let behind : List PredTree = units_helpers t' as_it_is i us body inner in
          let pattern-is : SlotPattern = element_pattern p.element in
          let name : List ℕ = turn_name t i u us in
          let own : List PredTree = own_of (Iterator (opened_by p r gs ns)) (turn m) in
          ap (λ o. old ++ unit_helpers o (λ f. iterated_helpers (iterator_text t now i u us f) over (units_helpers (elements_of t (iterator_loop t now i u us f) u f) as_it_is i us body inner)
          (units (elements_of t (iterator_loop t now i u us f) u f) as_it_is i us body)) (goal_helpers t u ++ units_helpers (behind_exp t u) as_it_is i us body inner)) it.iterates
          ∙ (ap (λ z. old ++ (over ++ (units_helpers z as_it_is i us body inner ++ own_helpers (is_range u) name l e (units z as_it_is i us body)))) (sym site-is)
          ∙ (ap (λ ps. old ++ (over ++ (behind ++ ps)))
          (own-is (is_range u) name l e p.element turn it.plan.element
          ∙ (ap (λ ks. own_by (is_range u) name l pattern-is (turn ks)) (sym slots-are)
          ∙ (ap (λ b. own_by b name l pattern-is (turn m)) (sym gone.is) ∙ (ap (λ n. own_by r n l pattern-is (turn m)) (sym it.plan.turn) ∙ ap (λ w. own_by r p.turn w pattern-is (turn m)) (sym whole)))))
          ∙ (sym (append_assoc old over (behind ++ own))
          ∙ (ap (λ ps. ps ++ (behind ++ own)) (sym helpers) ∙ ap (λ hs. new ++ (behind ++ own_of (Iterator (opened_by p r gs ns)) (onto hs (turn m)))) (sym empty)))));
    }
