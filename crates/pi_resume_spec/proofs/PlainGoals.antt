-- Goals of the core language without their paths do what the core meaning says.
use Rattle.std.specs.Prelude.{◌≡◌, ℕ, suc, List, ◌∷◌, Option, Some, None, option_map, pos, refl}
use Rattle.std.proofs.Common.{sym, ◌∙◌, ap}
use Rattle.pi_terms.specs.Tree.{Tree, int, Trees, trees_of}
use Rattle.pi_constraints.specs.State.{State}
use Rattle.pi_constraints.specs.Evaluation.{Evaluated, evaluated, EvaluatedAll, evaluated_all}
use Rattle.pi_core.specs.GoalTree.{GoalTree, truth, fail, tick, call, apply, seq, alternatives as any_of, if_else, not, once, collect, count, catch, GoalTrees, no_goals, goal}
use Rattle.pi_traces.specs.Trace.{Trace, end, note, ans, Done, Raise, Abort, Miss, Deep, one, alt, then, first}
use Rattle.pi_traces.specs.Control.{negated, chosen, collected, counted, caught}
use Rattle.pi_meaning.specs.Shared.Settle.{settled}
use Rattle.pi_meaning.specs.Shared.Level.{Point, calls_at, lower, ticked as ticked_plain, or_called}
use Rattle.pi_meaning.specs.Shared.Handling.{handling as handling_plain, handled_in as handled_plain}
use Rattle.pi_meaning.specs.CoreMeaning.Builtins.{predicate_by as predicate_plain, function_by}
use Rattle.pi_meaning.specs.CoreMeaning.Meaning as over_slots
use Rattle.pi_meaning.specs.CoreMeaning.Meaning.{Action, meaning, meaning_of_all, meaning_of_any, slot_value, copyable}
use Rattle.pi_traces.proofs.TraceLemmas.{then-one, then-assoc, then-alt}
use Rattle.pi_resume_spec.specs.Ways.{plain, straight, choice_from}
use Rattle.pi_resume_spec.specs.Resumed.{Search, simple, sequence, ways_of, alternatives, chosen_search}
use Rattle.pi_resume_spec.specs.Searches.{Searches, SearchLevel, bottom, above, searches_at, below, plain_calls, plain_level, Spot, point_of, Tries, without_paths, only, in_state, draining, strictly}
use Rattle.pi_resume_spec.specs.ByName.{Offers, or_searched, handled_in, handling}
use Rattle.pi_resume_spec.specs.Goals.{with_slot, after_arguments, after_term, succeeding, failing, ticking, predicate_by, calling, applying, with_list, strict, collecting, counting, catching, search, search_all, search_any}
use Rattle.pi_resume_spec.proofs.PlainLemmas.{then-renamed, same-then, same-caught, same-chosen, then-caught, then-chosen, plain_of_sequence, plain_of_choice, plain_of_catch}

-- ---- traces without paths

pub plain-simple : {A : Type 0} (t : Trace A) → without_paths (simple t) ≡ t
plain-simple t = then-renamed t straight (λ w. one w.answer) ∙ then-one t

pub plain-sequence : {A B : Type 0} (s : Search A) (g : A → Search B) → without_paths (sequence s g) ≡ then (without_paths s) (λ x. without_paths (g x))
plain-sequence s g = plain_of_sequence s.ways (λ x. (g x).ways)

-- what follows an answer alone
pub plain-onward : {A B : Type 0} (s : Search A) (g : A → B) → without_paths (sequence s (λ x. only (g x))) ≡ then (without_paths s) (λ x. one (g x))
plain-onward s g = plain-sequence s (λ x. only (g x)) ∙ same-then (without_paths s) (λ x. without_paths (only (g x))) (λ x. one (g x)) (λ x. plain-simple (one (g x)))

pub plain-chosen : {X A : Type 0} (t : Trace X) (f : X → Search A) (other : Search A) → without_paths (chosen_search t f other) ≡ chosen t (λ x. without_paths (f x)) (without_paths other)
plain-chosen t f other = then-chosen t (λ w. w.answer) (λ x. (f x).ways) other.ways

-- ---- places in a run, as the core meaning has them

abbrev pub points : Trace Spot → Trace Point
points t = then t (λ q. one (point_of q))

pub points-then : {A : Type 0} (t : Trace A) (f : A → Trace Spot) (g : A → Trace Point) → ((x : A) → points (f x) ≡ g x) → points (then t f) ≡ then t g
points-then t f g same = then-assoc t f (λ q. one (point_of q)) ∙ same-then t (λ x. points (f x)) g same

pub then-points : {A : Type 0} (t : Trace Spot) (f : Spot → Trace A) (g : Point → Trace A) → ((q : Spot) → f q ≡ g (point_of q)) → then t f ≡ then (points t) g
then-points t f g same = same-then t f (λ q. g (point_of q)) same ∙ sym (then-renamed t point_of g)

pub points-first : (t : Trace Spot) → points (first t) ≡ first (points t)
unfolding then alt first
points-first (end e) = refl
points-first (note n t) = ap (note n) (points-first t)
points-first (ans x t) = refl

pub points-negated : (t : Trace Spot) (p : Spot) → points (negated t p) ≡ negated (points t) (point_of p)
unfolding then alt negated
points-negated (end Done) p = refl
points-negated (end (Raise ball)) p = refl
points-negated (end (Abort ball)) p = refl
points-negated (end (Miss c)) p = refl
points-negated (end Deep) p = refl
points-negated (note n t) p = ap (note n) (points-negated t p)
points-negated (ans x t) p = refl

chosen-renamed : {A : Type 0} (t : Trace Spot) (f : Point → Trace A) (u : Trace A) → chosen t (λ q. f (point_of q)) u ≡ chosen (points t) f u
unfolding then alt chosen
chosen-renamed (end Done) f u = refl
chosen-renamed (end (Raise ball)) f u = refl
chosen-renamed (end (Abort ball)) f u = refl
chosen-renamed (end (Miss c)) f u = refl
chosen-renamed (end Deep) f u = refl
chosen-renamed (note n t) f u = ap (note n) (chosen-renamed t f u)
chosen-renamed (ans x t) f u = refl

pub chosen-points : {A : Type 0} (t : Trace Spot) (f : Spot → Trace A) (g : Point → Trace A) (u : Trace A) → ((q : Spot) → f q ≡ g (point_of q)) → chosen t f u ≡ chosen (points t) g u
chosen-points t f g u same = same-chosen t f (λ q. g (point_of q)) u same ∙ chosen-renamed t g u

points-collected : {B C : Type 0} (t : Trace B) (value : B → C) (f : List C → Spot) → points (collected t value (λ ys. one (f ys))) ≡ collected t value (λ ys. one (point_of (f ys)))
unfolding then alt collected
points-collected (end Done) value f = refl
points-collected (end (Raise ball)) value f = refl
points-collected (end (Abort ball)) value f = refl
points-collected (end (Miss c)) value f = refl
points-collected (end Deep) value f = refl
points-collected (note n t) value f = ap (note n) (points-collected t value f)
points-collected (ans x t) value f = points-collected t value (λ ys. f (value x ∷ ys))

points-counted : (t : Trace Spot) (f : ℕ → Spot) → points (counted t (λ n. one (f n))) ≡ counted (points t) (λ n. one (point_of (f n)))
unfolding then alt counted
points-counted (end Done) f = refl
points-counted (end (Raise ball)) f = refl
points-counted (end (Abort ball)) f = refl
points-counted (end (Miss c)) f = refl
points-counted (end Deep) f = refl
points-counted (note n t) f = ap (note n) (points-counted t f)
points-counted (ans x t) f = points-counted t (λ n. f (suc n))

-- ---- levels

pub calls-plain : (l : SearchLevel) → calls_at (plain_level l) ≡ plain_calls (searches_at l)
unfolding plain_level
calls-plain (bottom c) = refl
calls-plain (above c l) = refl

pub lower-plain : (l : SearchLevel) → lower (plain_level l) ≡ option_map plain_level (below l)
unfolding plain_level
lower-plain (bottom c) = refl
lower-plain (above c l) = refl

-- ---- what goals do, the same with paths and without

abbrev pub Same : Tries → Action → Type 0
Same act other = (p : Spot) → points (without_paths (act p)) ≡ other (point_of p)

-- what names do by themselves is the same
abbrev pub ArePlain : Offers → Type 0
ArePlain b = (l : SearchLevel) (name : List ℕ) (ts : Trees) (s : State) → option_map without_paths (b.predicate l name ts s) ≡ b.plain.predicate (plain_level l) name ts s

drained-plain : (p : Spot) (s : State) → without_paths ((searches_at p.level).drained s) ≡ (calls_at (plain_level p.level)).drained s
drained-plain p s = sym (ap (λ c. c.drained s) (calls-plain p.level))

pub same-draining : (act : Tries) (other : Action) → Same act other → Same (draining act) (over_slots.draining other)
unfolding draining over_slots.draining
same-draining act other same p =
    let d = (searches_at p.level).drained p.state in
    ap points (plain-sequence d (λ s. act (in_state p s)))
    ∙ (points-then (without_paths d) (λ s. without_paths (act (in_state p s))) (λ s. other (point_of (in_state p s))) (λ s. same (in_state p s))
    ∙ ap (λ t. then t (λ s. other (point_of (in_state p s)))) (drained-plain p p.state))

pub same-only : Same (λ q. only q) (λ q. one q)
unfolding then alt
same-only q = ap points (plain-simple (one q))

pub same-strictly : (act : Tries) (other : Action) → Same act other → Same (strictly act) (over_slots.strictly other)
unfolding strictly over_slots.strictly
same-strictly act other same p =
    ap points (plain-sequence (act p) (draining (λ q. only q)))
    ∙ (then-assoc (without_paths (act p)) (λ q. without_paths (draining (λ r. only r) q)) (λ q. one (point_of q))
    ∙ (then-points (without_paths (act p)) (λ q. points (without_paths (draining (λ r. only r) q))) (over_slots.draining (λ q. one q)) (same-draining (λ r. only r) (λ r. one r) same-only)
    ∙ ap (λ t. then t (over_slots.draining (λ q. one q))) (same p)))

pub same-strict : (act : Tries) (other : Action) → Same act other → (p : Spot) → points (strict act p) ≡ over_slots.strictly other (point_of p)
same-strict act other same p = same-strictly act other same p

same-simple : (t : Trace Spot) → points (without_paths (simple t)) ≡ points t
same-simple t = ap points (plain-simple t)

-- ---- each goal

same-succeeding : Same succeeding over_slots.succeeding
same-succeeding = same-only

same-failing : Same failing over_slots.failing
unfolding then
same-failing p = refl

ticked-same : (p : Spot) (l : Option SearchLevel) →
    points (without_paths (Rattle.pi_resume_spec.specs.Searches.ticked_at l (λ k. only (record { level = k; slots = p.slots; state = p.state }))))
    ≡ ticked_plain (option_map plain_level l) (λ k. one (record { level = k; slots = p.slots; state = p.state }))
unfolding then alt
ticked-same p None = refl
ticked-same p (Some l) = refl

same-ticking : Same ticking over_slots.ticking
same-ticking p = ticked-same p (below p.level) ∙ ap (λ k. ticked_plain k (λ l. one (record { level = l; slots = p.slots; state = p.state }))) (sym (lower-plain p.level))

pub or-plain : (o : Option (Search State)) (l : SearchLevel) (name : List ℕ) (ts : Trees) (s : State) →
    without_paths (or_searched o l name ts s) ≡ or_called (option_map without_paths o) (plain_level l) name ts s
or-plain None l name ts s = sym (ap (λ c. c.called name ts s) (calls-plain l))
or-plain (Some t) l name ts s = refl

pub predicate-plain : (b : Offers) → ArePlain b → (l : SearchLevel) (name : List ℕ) (ts : Trees) (s : State) →
    without_paths (predicate_by b l name ts s) ≡ predicate_plain b.plain (plain_level l) name ts s
predicate-plain b same l name ts s = or-plain (b.predicate l name ts s) l name ts s ∙ ap (λ o. or_called o (plain_level l) name ts s) (same l name ts s)

same-calling : (b : Offers) → ArePlain b → (name : List ℕ) (args : List Tree) → Same (calling b name args) (over_slots.calling b.plain name args)
unfolding calling over_slots.calling
same-calling b same name args p =
    let all : EvaluatedAll = evaluated_all (trees_of args) p.slots p.state in
    let t = predicate_by b p.level name all.trees all.state in
    ap points (plain-onward t (λ s. in_state (after_arguments p all) s))
    ∙ (then-renamed (without_paths t) (λ s. in_state (after_arguments p all) s) (λ q. one (point_of q))
    ∙ ap (λ u. then u (λ s. one (point_of (in_state (after_arguments p all) s)))) (predicate-plain b same p.level name all.trees all.state))

same-applying : (b : Offers) (name : List ℕ) (args : List Tree) (into : ℕ) → Same (applying b name args into) (over_slots.applying b.plain name args into)
unfolding applying over_slots.applying
same-applying b name args into p =
    let all : EvaluatedAll = evaluated_all (trees_of args) p.slots p.state in
    let t = function_by b.plain (plain_level p.level) name all.trees all.state in
    same-simple (then t (λ a. one (with_slot (in_state (after_arguments p all) a.state) into a.value)))
    ∙ then-renamed t (λ a. with_slot (in_state (after_arguments p all) a.state) into a.value) (λ q. one (point_of q))

same-collecting : (act : Tries) (other : Action) → Same act other → (k into : ℕ) → Same (collecting act k into) (over_slots.collecting other k into)
unfolding collecting over_slots.collecting
same-collecting act other same k into p =
    let values : Trace Tree = then (strict act p) (λ q. copyable (slot_value k q.slots q.state)) in
    same-simple (collected values (λ t. t) (λ ts. one (with_list p into ts)))
    ∙ (points-collected values (λ t. t) (λ ts. with_list p into ts)
    ∙ ap (λ u. collected u (λ t. t) (λ ts. one (point_of (with_list p into ts))))
    (then-points (strict act p) (λ q. copyable (slot_value k q.slots q.state)) (λ q. copyable (slot_value k q.slots q.state)) (λ q. refl)
    ∙ ap (λ t. then t (λ q. copyable (slot_value k q.slots q.state))) (same-strict act other same p)))

same-counting : (act : Tries) (other : Action) → Same act other → (into : ℕ) → Same (counting act into) (over_slots.counting other into)
unfolding counting over_slots.counting
same-counting act other same into p =
    same-simple (counted (strict act p) (λ n. one (with_slot p into (int (pos n)))))
    ∙ (points-counted (strict act p) (λ n. with_slot p into (int (pos n)))
    ∙ ap (λ t. counted t (λ n. one (point_of (with_slot p into (int (pos n)))))) (same-strict act other same p))

handled-same : (s : State) (ball : Tree) (f : State → Search Spot) (g : State → Trace Point) → ((r : State) → points (without_paths (f r)) ≡ g r) → (o : Option State) →
    points (without_paths (handled_in s ball f o)) ≡ handled_plain s ball g o
unfolding then
handled-same s ball f g same None = refl
handled-same s ball f g same (Some r) =
    ap points (plain-sequence (simple (settled s r)) f)
    ∙ (points-then (without_paths (simple (settled s r))) (λ x. without_paths (f x)) g same
    ∙ ap (λ t. then t g) (plain-simple (settled s r)))

same-catching : (act handler : Tries) (other after : Action) → Same act other → Same handler after → (ball : Tree) → Same (catching act ball handler) (over_slots.catching other ball after)
unfolding catching over_slots.catching
same-catching act handler other after same later ball p =
    let e : Evaluated = evaluated ball p.slots p.state in
    let s = strictly act (after_term p e) in
    let f = handling e.state e.tree (λ r. handler (in_state (after_term p e) r)) in
    let g = handling_plain e.state e.tree (λ r. after (point_of (in_state (after_term p e) r))) in
    ap points (plain_of_catch s.ways (λ t. (f t).ways))
    ∙ (then-caught (without_paths s) point_of (λ t. without_paths (f t))
    ∙ (same-caught (points (without_paths s)) (λ t. points (without_paths (f t))) g
    (λ t. handled-same e.state t (λ r. handler (in_state (after_term p e) r)) (λ r. after (point_of (in_state (after_term p e) r))) (λ r. later (in_state (after_term p e) r))
    (Rattle.pi_constraints.specs.Unify.unified (Rattle.pi_constraints.specs.Evaluation.with_new_variables (Rattle.pi_terms.specs.Copy.new_variables t) e.state) e.tree (Rattle.pi_terms.specs.Copy.copy (Rattle.pi_constraints.specs.State.next e.state) t)))
    ∙ ap (λ u. caught u g) (same-strictly act other same (after_term p e))))

same-choosing : (test yes_goal other_goal : Tries) (t f u : Action) → Same test t → Same yes_goal f → Same other_goal u →
    Same (λ p. chosen_search (strict test p) yes_goal (other_goal p)) (λ p. chosen (over_slots.strictly t p) f (u p))
same-choosing test yes_goal other_goal t f u a b c p =
    ap points (plain-chosen (strict test p) yes_goal (other_goal p))
    ∙ (then-chosen (strict test p) point_of (λ q. without_paths (yes_goal q)) (without_paths (other_goal p))
    ∙ (chosen-points (strict test p) (λ q. points (without_paths (yes_goal q))) f (points (without_paths (other_goal p))) b
    ∙ (ap (λ v. chosen (points (strict test p)) f v) (c p) ∙ ap (λ v. chosen v f (u (point_of p))) (same-strict test t a p))))

-- ---- all goals

mutual
  unfolding search meaning choice_from then

  pub goal-plain : (b : Offers) → ArePlain b → (g : GoalTree) → Same (search b g) (meaning b.plain g)
  goal-plain b same truth = same-draining succeeding over_slots.succeeding same-succeeding
  goal-plain b same fail = same-draining failing over_slots.failing same-failing
  goal-plain b same tick = same-draining ticking over_slots.ticking same-ticking
  goal-plain b same (call name args) = same-draining (calling b name args) (over_slots.calling b.plain name args) (same-calling b same name args)
  goal-plain b same (apply name args slot) = same-draining (applying b name args slot) (over_slots.applying b.plain name args slot) (same-applying b name args slot)
  goal-plain b same (seq gs) = same-draining (search_all b gs) (meaning_of_all b.plain gs) (all-plain b same gs)
  goal-plain b same (any_of gs) = same-draining (λ p. alternatives (search_any b gs p)) (meaning_of_any b.plain gs) (any-plain b same gs 1)
  goal-plain b same (if_else test then_goal other) =
      same-draining (λ p. chosen_search (strict (search b test) p) (search b then_goal) (search b other p))
      (λ p. chosen (over_slots.strictly (meaning b.plain test) p) (meaning b.plain then_goal) (meaning b.plain other p))
      (same-choosing (search b test) (search b then_goal) (search b other) (meaning b.plain test) (meaning b.plain then_goal) (meaning b.plain other) (goal-plain b same test) (goal-plain b same then_goal) (goal-plain b same other))
  goal-plain b same (not g) =
      same-draining (λ p. simple (negated (strict (search b g) p) p)) (λ p. negated (over_slots.strictly (meaning b.plain g) p) p)
      (λ p. same-simple (negated (strict (search b g) p) p)
      ∙ (points-negated (strict (search b g) p) p ∙ ap (λ t. negated t (point_of p)) (same-strict (search b g) (meaning b.plain g) (goal-plain b same g) p)))
  goal-plain b same (once g) =
      same-draining (λ p. simple (first (strict (search b g) p))) (λ p. first (over_slots.strictly (meaning b.plain g) p))
      (λ p. same-simple (first (strict (search b g) p))
      ∙ (points-first (strict (search b g) p) ∙ ap first (same-strict (search b g) (meaning b.plain g) (goal-plain b same g) p)))
  goal-plain b same (collect g k into) =
      same-draining (collecting (search b g) k into) (over_slots.collecting (meaning b.plain g) k into) (same-collecting (search b g) (meaning b.plain g) (goal-plain b same g) k into)
  goal-plain b same (count g into) =
      same-draining (counting (search b g) into) (over_slots.counting (meaning b.plain g) into) (same-counting (search b g) (meaning b.plain g) (goal-plain b same g) into)
  goal-plain b same (catch g ball handler) =
      same-draining (catching (search b g) ball (search b handler)) (over_slots.catching (meaning b.plain g) ball (meaning b.plain handler))
      (same-catching (search b g) (search b handler) (meaning b.plain g) (meaning b.plain handler) (goal-plain b same g) (goal-plain b same handler) ball)

  all-plain : (b : Offers) → ArePlain b → (gs : GoalTrees) → Same (search_all b gs) (meaning_of_all b.plain gs)
  all-plain b same no_goals p = same-only p
  all-plain b same (goal g gs) p =
      ap points (plain-sequence (search b g p) (search_all b gs))
      ∙ (then-assoc (without_paths (search b g p)) (λ q. without_paths (search_all b gs q)) (λ q. one (point_of q))
      ∙ (then-points (without_paths (search b g p)) (λ q. points (without_paths (search_all b gs q))) (meaning_of_all b.plain gs) (all-plain b same gs)
      ∙ ap (λ t. then t (meaning_of_all b.plain gs)) (goal-plain b same g p)))

  any-plain : (b : Offers) → ArePlain b → (gs : GoalTrees) (k : ℕ) (p : Spot) → points (plain (choice_from k (ways_of (search_any b gs p)))) ≡ meaning_of_any b.plain gs (point_of p)
  any-plain b same no_goals k p = refl
  any-plain b same (goal g gs) k p =
      ap points (plain_of_choice k (search b g p).ways (ways_of (search_any b gs p)))
      ∙ (then-alt (without_paths (search b g p)) (plain (choice_from (suc k) (ways_of (search_any b gs p)))) (λ q. one (point_of q))
      ∙ (ap (λ t. alt t (points (plain (choice_from (suc k) (ways_of (search_any b gs p)))))) (goal-plain b same g p)
      ∙ ap (λ t. alt (meaning b.plain g (point_of p)) t) (any-plain b same gs (suc k) p)))
