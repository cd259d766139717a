-- The steps of a goal that are added one after the other, with a stack of the marks of those ahead.
use Rattle.std.proofs.Common.{◌≡◌, inl, inr, ℕ, ◌+◌, ◌-◌, ◌<◌, Bool, false, List, [], ◌∷◌, ◌++◌, Option, Some, length, map, refl, sym, ◌∙◌, ap, subst, arith, append_assoc, replicate, take, get_or, length-append}
use Rattle.std.specs.Prelude.{slice_get, slice_index_or, unwrap_or}
use Rattle.std.proofs.lemmas.List.{append-nil, map-append, length-map, take_all}
use Rattle.std.proofs.Math.Seq.{get_or-append_seam, take-append_seam}
use Rattle.pi_core.specs.GoalTree.{GoalTree, child_count, child_goals, subgoals, subgoal, nodes, ShowsNode}
use Rattle.pi_core.specs.GoalCells.{kind_of, kind_shown}
use Rattle.pi_core.specs.declared.goal_node.GoalKind.{GoalKind}
use Rattle.pi_core.specs.declared.goal_node.GoalNode.{GoalNode}
use Rattle.pi_constraints.specs.Store.{StoreView}
use Rattle.pi_terms.proofs.GetLemmas.{get_append_last, get_append_cases}
use Rattle.pi_unify.proofs.KeepsLemmas.{keeps_none}
use Rattle.pi_core.specs.declared.core_program.CorePred.{CorePred}
use Rattle.pi_engine_code.specs.declared.code.Node.{Node}
use Rattle.pi_engine_code.specs.declared.code.Step.{Step}
use Rattle.pi_engine_code.specs.declared.code.Code.{Code}
use Rattle.pi_engine_code.specs.declared.build.numbers.Numbers.{Numbers}
use Rattle.pi_engine_code.specs.Numbers.{IsNumbering}
use Rattle.pi_engine_code.specs.Code.{Tables}
use Rattle.pi_engine_code.specs.Laid.{IsNodeOf, Marked, mark, marked, IsStepFor, StepsAt, before_last, IsResolved, AreResolved, AddsOperands, AddsSteps, tables_for, layout}
use Rattle.pi_engine_code.proofs.LaidTables.{longer-pushed, adds-then, steps-none, steps-then, steps-by-operands}
use Rattle.pi_engine_code.proofs.LaidTerms.{wider-added}
use Rattle.pi_engine_code.proofs.LaidGoals.{node-wider, steps-wider, steps-more, below, marked_all, marked_all-append, marked-root, goals-in, length-marked, stacked, stacked-append, shown-kind, stacked-shown}

-- ---- steps that are added

-- so many steps of a goal were added, and the marks are those of the goals that are ahead
pub record StepsAdded {M : Type 0} (numbers : Numbers) (v w : StoreView M) (c d : Code) (first slots : ℕ) (g : GoalTree) (last : Bool) (marks : List Bool) (i : ℕ) : Type 0 where
  pub adds : AddsSteps v w c d
  pub long : length d.steps.items ≡ length c.steps.items + i
  pub written : List Marked
  pub ahead : List Marked
  pub whole : written ++ marked_all ahead ≡ marked g last
  pub counted : length written ≡ i
  pub stack : marks ≡ stacked ahead
  pub are : (preds : List CorePred) → IsNumbering numbers preds → StepsAt (layout preds (tables_for preds w.now.terms d) d.steps.items first slots) (length c.steps.items) written
  pub resolved : (preds : List CorePred) → IsNumbering numbers preds → AreResolved preds c.steps.items → AreResolved preds d.steps.items

pub no-steps-added : {M : Type 0} (numbers : Numbers) (v : StoreView M) (c : Code) (first slots : ℕ) (g : GoalTree) (last : Bool) (marks : List Bool) → marks ≡ last ∷ [] → StepsAdded numbers v v c c first slots g last marks 0
unfolding StepsAt
no-steps-added numbers v c first slots g last marks e =
    record {
      adds = steps-none v c;
      long = omega arith;
      written = [];
      ahead = mark g last ∷ [];
      whole = append-nil (marked g last);
      counted = refl;
      stack = e;
      are = λ preds numbered. tt;
      resolved = λ preds numbered are. are;
    }

-- the next goal that is ahead, with its mark on the stack
pub record NextAhead (g : GoalTree) (last : Bool) (marks : List Bool) (written ahead : List Marked) (i : ℕ) : Type 0 where
  pub next : Marked
  pub rest : List Marked
  pub is : ahead ≡ next ∷ rest
  pub it : subgoal g i ≡ next.it
  pub stack : marks ≡ stacked rest ++ next.last ∷ []

next-of : (g : GoalTree) (last : Bool) (marks : List Bool) (written ahead : List Marked) (i : ℕ) → written ++ marked_all ahead ≡ marked g last → length written ≡ i → marks ≡ stacked ahead → i < nodes g → NextAhead g last marks written ahead i
next-of g last marks written [] i whole counted stack within =
    absurd (omega (arith, within, counted, length-marked g last, ap length (sym (append-nil written) ∙ whole)))
next-of g last marks written (h ∷ hs) i whole counted stack within =
    let root : written ++ (h ∷ (marked_all (below h.it h.last) ++ marked_all hs)) ≡ marked g last =
    ap (λ r. written ++ (r ++ marked_all hs)) (sym (marked-root h.it h.last)) ∙ whole in
    let goals : map (λ x. x.it) written ++ (h.it ∷ map (λ x. x.it) (marked_all (below h.it h.last) ++ marked_all hs)) ≡ subgoals g =
    sym (map-append (λ x. x.it) written (h ∷ (marked_all (below h.it h.last) ++ marked_all hs))) ∙ ap (map (λ x. x.it)) root ∙ goals-in g last in
    let place : i ≡ length (map (λ x. x.it) written) = sym counted ∙ sym (length-map written (λ x. x.it)) in
    record {
      next = h;
      rest = hs;
      is = refl;
      it = ap (λ r. get_or r i g) (sym goals) ∙ ap (λ n. get_or (map (λ x. x.it) written ++ (h.it ∷ map (λ x. x.it) (marked_all (below h.it h.last) ++ marked_all hs))) n g) place
          ∙ get_or-append_seam (map (λ x. x.it) written) h.it (map (λ x. x.it) (marked_all (below h.it h.last) ++ marked_all hs)) g;
      stack = stack;
    }

-- the mark on the top
pub popped-last : (marks rest : List Bool) (n : ℕ) (xs : List Bool) (x : Bool) (popped : Option Bool) → n ≡ length marks → marks ≡ xs ++ x ∷ [] → rest ≡ take (n - 1) marks → ((d : Bool) → 0 < n → popped ≡ Some (slice_index_or marks (n - 1) d)) → (rest ≡ xs) × (popped ≡ Some x)
popped-last marks rest n xs x popped same e taken value =
    let long : n - 1 ≡ length xs = omega (arith, same, ap length e, length-append xs (x ∷ [])) in (
      taken ∙ ap (λ k. take k marks) long ∙ ap (take (length xs)) e ∙ take-append_seam xs (x ∷ []),
      value x (omega (arith, same, ap length e, length-append xs (x ∷ []))) ∙ ap (λ k. Some (get_or marks k x)) long ∙ ap (λ r. Some (get_or r (length xs) x)) e ∙ ap (λ y. Some y) (get_or-append_seam xs x [] x),
    )

resolved-node : (preds : List CorePred) (t : Tables) (k : GoalKind) (n : Node) → IsNodeOf preds t k n → IsResolved preds n
resolved-node preds t k Node.True is = tt
resolved-node preds t k Node.Fail is = tt
resolved-node preds t k Node.Tick is = tt
resolved-node preds t k (Node.Seq m) is = tt
resolved-node preds t k (Node.Alt m) is = tt
resolved-node preds t k Node.If is = tt
resolved-node preds t k Node.Not is = tt
resolved-node preds t k Node.Once is = tt
resolved-node preds t k (Node.Collect value into) is = tt
resolved-node preds t k (Node.Count into) is = tt
resolved-node preds t k (Node.Catch ball) is = tt
resolved-node preds t k (Node.Unify left right) is = tt
resolved-node preds t k (Node.Throw ball) is = tt
resolved-node preds t k (Node.Call m first) is = (is.0, length is.1, is.3, is.4)
resolved-node preds t k (Node.Apply m first slot) is = (is.0, length is.1, is.3, is.4)
resolved-node preds t k (Node.Value value) is = tt
resolved-node preds t k (Node.BuiltIn p m first arity) is = tt
resolved-node preds t k (Node.BuiltInValue f m first arity slot) is = tt
resolved-node preds t k (Node.Constrain g m first arity) is = tt
resolved-node preds t k (Node.DomainValue f m first arity slot) is = tt
resolved-node preds t k (Node.Solve m first arity) is = tt
resolved-node preds t k (Node.CallTerm first arity) is = tt

pub resolved-more : (preds : List CorePred) (ss rs : List Step) (s : Step) → rs ≡ ss ++ s ∷ [] → IsResolved preds s.node → AreResolved preds ss → AreResolved preds rs
resolved-more preds ss rs s e is are i r at =
    elim (get_append_cases ss s i r (ap (λ x. slice_get x i) (sym e) ∙ at)) [
      | inl old ↦ are i r old
      | inr new ↦ subst (λ x. IsResolved preds x.node) (sym new.1) is
    ]

abbrev with_steps : Code → Code → Code
with_steps d e = record { core = d.core; helpers = d.helpers; steps = e.steps; operands = d.operands; parts = d.parts; names = d.names; tests = d.tests; rules = d.rules; predicates = d.predicates; callables = d.callables; keys = d.keys }

pub step-pushed : {M : Type 0} (v : StoreView M) (d e : Code) (s : Step) → e.steps.items ≡ d.steps.items ++ s ∷ [] → AddsSteps v v d (with_steps d e)
step-pushed v d e s pushed =
    record {
      adds = record {
        stays = record { keeps = keeps_none v; state = refl };
        core = refl;
        steps = longer-pushed d.steps.items e.steps.items s pushed;
        operands = λ i x at. at;
        parts = λ i x at. at;
        names = λ i x at. at;
        tests = λ i x at. at;
        rules = λ i x at. at;
        predicates = λ i x at. at;
      };
      tests = refl;
      rules = refl;
      predicates = refl;
    }

-- One more step, whose node was resolved by adding operands.
pub step-added : {M : Type 0} (numbers : Numbers) (v w x : StoreView M) (c d f e : Code) (first slots : ℕ) (g : GoalTree) (last own : Bool) (marks rest more : List Bool) (m i : ℕ) (shown : GoalNode) (popped : Option Bool) (s : Step) →
    i < nodes g → StepsAdded numbers v w c d first slots g last marks i →
    m ≡ length marks → rest ≡ take (m - 1) marks → ((b : Bool) → 0 < m → popped ≡ Some (slice_index_or marks (m - 1) b)) → own ≡ unwrap_or popped false →
    ShowsNode (subgoal g i) shown → child_count (subgoal g i) ≡ child_goals shown → more ≡ rest ++ (replicate (child_goals shown - before_last shown) own ++ replicate (before_last shown) false) →
    AddsOperands w x d f → ((preds : List CorePred) → IsNumbering numbers preds → IsNodeOf preds (tables_for preds x.now.terms f) (kind_shown shown) s.node) →
    s.size ≡ nodes (subgoal g i) → s.first_slot ≡ first → s.slots ≡ slots → s.is_last ≡ own → e.steps.items ≡ f.steps.items ++ s ∷ [] →
    StepsAdded numbers v x c (with_steps f e) first slots g last more (i + 1)
step-added numbers v w x c d f e first slots g last own marks rest more m i shown popped s within before many taken value own_is shows has pushed_marks adds node size first_is slots_is last_is pushed =
    let n : NextAhead g last marks before.written before.ahead i = next-of g last marks before.written before.ahead i before.whole before.counted before.stack within in
    let top : (rest ≡ stacked n.rest) × (popped ≡ Some n.next.last) = popped-last marks rest m (stacked n.rest) n.next.last popped many n.stack taken value in
    let marked_own : own ≡ n.next.last = own_is ∙ ap (λ o. unwrap_or o false) top.1 in
    let h : Marked = n.next in
    let after : Code = with_steps f e in
    let all : AddsSteps v x c after = steps-then v x x c f after (steps-then v w x c d f before.adds (steps-by-operands w x d f adds)) (step-pushed x f e s pushed) in
    let place : length c.steps.items + length before.written ≡ length f.steps.items =
    ap (λ k. length c.steps.items + k) before.counted ∙ sym before.long ∙ ap (λ r. length r.items) (sym adds.steps) in
    let step : (preds : List CorePred) → IsNumbering numbers preds → IsStepFor preds (tables_for preds x.now.terms after) first slots h s =
    λ preds numbered. record {
      node = node-wider preds (tables_for preds x.now.terms f) (tables_for preds x.now.terms after) (kind_of h.it) s.node (wider-added preds x x f after (step-pushed x f e s pushed).adds)
          (subst (λ k. IsNodeOf preds (tables_for preds x.now.terms f) k s.node) (sym (shown-kind (subgoal g i) shown shows) ∙ ap kind_of n.it) (node preds numbered));
      size = size ∙ ap nodes n.it;
      first_is = first_is;
      slots_is = slots_is;
      last = last_is ∙ marked_own;
    } in
    record {
      adds = all;
      long = ap length pushed ∙ length-append f.steps.items (s ∷ []) ∙ omega (arith, before.long, ap (λ r. length r.items) adds.steps);
      written = before.written ++ h ∷ [];
      ahead = below h.it h.last ++ n.rest;
      whole = append_assoc before.written (h ∷ []) (marked_all (below h.it h.last ++ n.rest))
          ∙ ap (λ r. before.written ++ (h ∷ r)) (marked_all-append (below h.it h.last) n.rest)
          ∙ ap (λ r. before.written ++ (r ++ marked_all n.rest)) (sym (marked-root h.it h.last))
          ∙ ap (λ r. before.written ++ marked_all r) (sym n.is) ∙ before.whole;
      counted = length-append before.written (h ∷ []) ∙ ap (λ k. k + 1) before.counted;
      stack = pushed_marks ∙ ap (λ r. r ++ (replicate (child_goals shown - before_last shown) own ++ replicate (before_last shown) false)) top.0
          ∙ ap (λ r. stacked n.rest ++ r) (sym (stacked-shown (subgoal g i) shown own shows has) ∙ ap (λ r. stacked (below r own)) n.it ∙ ap (λ b. stacked (below h.it b)) marked_own)
          ∙ sym (stacked-append (below h.it h.last) n.rest);
      are = λ preds numbered.
          steps-more preds (tables_for preds x.now.terms after) e.steps.items first slots (length c.steps.items) before.written h s
          (steps-wider preds (tables_for preds w.now.terms d) (tables_for preds x.now.terms after) d.steps.items e.steps.items first slots (length c.steps.items) before.written
          (wider-added preds w x d after (adds-then w x x d f after adds.adds (step-pushed x f e s pushed).adds))
          (adds-then w x x d f after adds.adds (step-pushed x f e s pushed).adds).steps (before.are preds numbered))
          (ap (slice_get e.steps.items) place ∙ ap (λ r. slice_get r (length f.steps.items)) pushed ∙ get_append_last f.steps.items s) (step preds numbered);
      resolved = λ preds numbered are.
          resolved-more preds f.steps.items e.steps.items s pushed (resolved-node preds (tables_for preds x.now.terms f) (kind_shown shown) s.node (node preds numbered))
          (subst (λ r. AreResolved preds r.items) (sym adds.steps) (before.resolved preds numbered are));
    }

none-left : (xs : List Marked) (ahead ys : List Marked) → xs ++ marked_all ahead ≡ ys → length xs ≡ length ys → xs ≡ ys
none-left xs ahead ys e same = sym (take-append_seam xs (marked_all ahead)) ∙ ap (take (length xs)) e ∙ take_all (length xs) ys (omega (arith, same))

pub all-steps-added : {M : Type 0} (numbers : Numbers) (v w : StoreView M) (c d : Code) (first slots : ℕ) (g : GoalTree) (last : Bool) (marks : List Bool) (i : ℕ) → StepsAdded numbers v w c d first slots g last marks i → i ≡ nodes g →
    (preds : List CorePred) → IsNumbering numbers preds → StepsAt (layout preds (tables_for preds w.now.terms d) d.steps.items first slots) (length c.steps.items) (marked g last)
all-steps-added numbers v w c d first slots g last marks i added e preds numbered =
    subst (StepsAt (layout preds (tables_for preds w.now.terms d) d.steps.items first slots) (length c.steps.items))
    (none-left added.written added.ahead (marked g last) added.whole (omega (arith, added.counted, e, length-marked g last))) (added.are preds numbered)
