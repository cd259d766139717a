-- A term before a call: a goal evaluates it, so that its slots are filled, where it isn't filled anyway.
use Rattle.std.proofs.Common.{◌≡◌, ℕ, ◌≤◌, ◌<◌, Bool, true, false, cond, [], ◌∷◌, length, refl, sym, ◌∙◌, ap, subst, nat_lt}
use Rattle.std.specs.Prelude.{Option, Some, None, codes, ◌||◌, IsSome, IsTrue}
use Rattle.std.proofs.lemmas.Bool.{false≢true}
use Rattle.std.proofs.lemmas.Bool.Decides.{Decides-ltb}
use Rattle.pi_terms.specs.Tree.{Tree, Trees, no_trees, tree, tree_count}
use Rattle.pi_terms.specs.Places.{Places, held}
use Rattle.pi_constraints.specs.State.{State}
use Rattle.pi_constraints.specs.Evaluation.{Evaluated, EvaluatedAll, slot_term as slot_comes, evaluated, evaluated_all}
use Rattle.pi_syntax.specs.ExpTree.{ExpTree}
use Rattle.pi_core.specs.GoalTree.{GoalTree}
use Rattle.pi_traces.specs.Trace.{Trace, one, then}
use Rattle.pi_traces.specs.Control.{caught}
use Rattle.pi_meaning.specs.Shared.Level.{Level, calls_at, Point}
use Rattle.pi_meaning.specs.CoreMeaning.Builtins.{Builtins, predicate_by}
use Rattle.pi_meaning.specs.Shared.Given.{Setting}
use Rattle.pi_meaning.specs.Shared.Names.{is_given_predicate}
use Rattle.pi_meaning.specs.Shared.Calls.{predicate_called}
use Rattle.pi_meaning.specs.Shared.Handling.{handling}
use Rattle.pi_meaning.specs.CoreMeaning.Meaning.{draining, strictly, succeeding, calling, catching, meaning}
use Rattle.pi_meaning.specs.OverNames.Environment.{Environment, Valued}
use Rattle.pi_meaning.specs.OverNames.Texts.{Names}
use Rattle.pi_meaning.specs.OverNames.Forms.{Reading}
use Rattle.pi_meaning.specs.OverNames.Terms.{written_term}
use Rattle.pi_meaning.specs.OverNames.Goals.{term_value, value_of}
use Rattle.pi_rewrite_spec.specs.Slots.{SlotNames}
use Rattle.pi_rewrite_spec.specs.Values.{SlotTerm, slot_term, is_flat_as, as_it_stands, is_below, are_below, evaluating, filling, filled_before}
use Rattle.pi_rewrite_spec.specs.Forms.{Knows, IsTerm}
use Rattle.pi_rewrite_spec.proofs.SameLemmas.{SameBy, same-one}
use Rattle.pi_rewrite_spec.proofs.FilledLemmas.{Filled, in_slot, is_int, is_atom, is_comp, AllFilled, none_filled, one_filled, extends-none, term_at, terms_at, in_front_of, filled-comes, all-filled-comes}
use Rattle.pi_rewrite_spec.proofs.AgreeLemmas.{Room, Agrees}
use Rattle.pi_rewrite_spec.proofs.TermLemmas.{Comes, ComesTo, term-grows, term-comes}
use Rattle.pi_rewrite_spec.proofs.RunLemmas.{Alike, point, place, AtValue, at_value, AtFilled, at_filled, runs, SameLast, SameFilled, then-of-one, runs-one, not-drained}
use Rattle.pi_rewrite_spec.proofs.BuiltInLemmas.{equals-itself, equals-known, not-less}
use Rattle.pi_rewrite_spec.proofs.FlatLemmas.{both, flat-value}

some-there : (o : Option Tree) → IsSome o → (t : Tree) × (o ≡ Some t)
some-there (Some t) h = (t, refl)
some-there None h = absurd (false≢true h)

-- a term whose slots the head fills
mutual
  unfolding is_below

  below-filled : (h : ℕ) (slots : Places) → ((k : ℕ) → k < h → IsSome (held slots k)) → (t : Tree) → is_below h t ≡ true → (u : Tree) × Filled slots t u
  below-filled h slots firm (Tree.var k) is = let there : (t : Tree) × (held slots k ≡ Some t) = some-there (held slots k) (firm k ((Decides-ltb k h).0 is)) in (there.0, in_slot k there.0 there.1)
  below-filled h slots firm (Tree.int n) is = (Tree.int n, is_int n)
  below-filled h slots firm (Tree.atom name) is = (Tree.atom name, is_atom name)
  below-filled h slots firm (Tree.comp name ts) is = let all : (us : Trees) × AllFilled slots ts us = all-below-filled h slots firm ts is in (Tree.comp name all.0, is_comp name all.1)

  all-below-filled : (h : ℕ) (slots : Places) → ((k : ℕ) → k < h → IsSome (held slots k)) → (ts : Trees) → are_below h ts ≡ true → (us : Trees) × AllFilled slots ts us
  all-below-filled h slots firm no_trees is = (no_trees, none_filled)
  all-below-filled h slots firm (tree t ts) is =
      let first : (u : Tree) × Filled slots t u = below-filled h slots firm t (both (is_below h t) (are_below h ts) is).0 in
      let rest : (us : Trees) × AllFilled slots ts us = all-below-filled h slots firm ts (both (is_below h t) (are_below h ts) is).1 in
      (tree first.0 rest.0, one_filled first.1 rest.1)

-- where a term was evaluated
at-evaluated : (l : Level) (n : Room) (h : ℕ) (ns : SlotNames) (t : Tree) (slots : Places) (s : State) (x : Valued) (c : Comes n h ns t slots s x) → (y : Evaluated) → evaluated t slots s ≡ y → y ≡ term_at y.tree slots s →
    AtFilled l n h ns t slots (point l slots s) x
at-evaluated l n h ns t slots s x c y is stays =
    subst (λ (z : Evaluated). AtFilled l n h ns t slots (point l z.slots z.state) x) (sym c.comes ∙ is ∙ stays) (at_filled x.names c.after x.state x.tree c.agrees c.extends c.filled)

pub evaluating-runs : (b : Builtins) (l : Level) → ((s : State) → (calls_at l).drained s ≡ one s) → (t : Tree) (slots after : Places) (s r : State) (u : Tree) → evaluated t slots s ≡ term_at u after r →
    runs b (evaluating t ∷ []) (point l slots s) ≡ one (point l after r)
unfolding meaning catching strictly caught
evaluating-runs b l drains t slots after s r u comes =
    runs-one b (evaluating t) (point l slots s)
    ∙ not-drained (catching (meaning b GoalTree.truth) t (meaning b GoalTree.fail)) (point l slots s) drains
    ∙ ap (λ (y : Evaluated). caught (strictly (meaning b GoalTree.truth) (point l y.slots y.state)) (handling y.state y.tree (λ q. meaning b GoalTree.fail (point l y.slots q)))) comes
    ∙ ap (λ (w : Trace Point). caught (then w (draining (λ q. one q))) (handling r u (λ q. meaning b GoalTree.fail (point l after q)))) (not-drained succeeding (point l after r) drains)
    ∙ ap (λ (w : Trace Point). caught w (handling r u (λ q. meaning b GoalTree.fail (point l after q)))) (then-of-one (point l after r) (draining (λ q. one q)) ∙ not-drained (λ q. one q) (point l after r) drains)

equals-runs : (known : Knows) (set : Setting) (b : Builtins) (l m : Level) → Alike known set b l m → (k : ℕ) (slots after : Places) (s r : State) (u : Tree) → held slots k ≡ None → evaluated (Tree.var k) slots s ≡ term_at u after r →
    Filled after (Tree.var k) u → runs b (GoalTree.call (codes "=") (Tree.var k ∷ Tree.var k ∷ []) ∷ []) (point l slots s) ≡ one (point l after r)
unfolding meaning calling evaluated tree_count
equals-runs known set b l m alike k slots after s r u free comes filled =
    runs-one b (GoalTree.call (codes "=") (Tree.var k ∷ Tree.var k ∷ [])) (point l slots s)
    ∙ not-drained (calling b (codes "=") (Tree.var k ∷ Tree.var k ∷ [])) (point l slots s) alike.core_drains
    ∙ ap (λ (y : EvaluatedAll). then (predicate_by b l (codes "=") y.trees y.state) (λ q. one (point l y.slots q))) arguments
    ∙ ap (λ (w : Trace State). then w (λ q. one (point l after q))) (alike.predicates (codes "=") (tree u (tree u no_trees)) r refl given ∙ itself)
    ∙ then-of-one r (λ q. one (point l after q))
  where
    given : IsTrue (is_given_predicate (codes "=") 2 || known.predicate (codes "=") 2)
    given = equals-known (known.predicate (codes "=") 2)

    arguments : evaluated_all (tree (Tree.var k) (tree (Tree.var k) no_trees)) slots s ≡ terms_at (tree u (tree u no_trees)) after r
    arguments =
        ap (λ (y : Evaluated). in_front_of y (evaluated_all (tree (Tree.var k) no_trees) y.slots y.state)) comes
        ∙ ap (in_front_of (term_at u after r)) (all-filled-comes after (tree (Tree.var k) no_trees) (tree u no_trees) (one_filled filled none_filled) r)

    new : slot_comes None k slots s ≡ term_at u after r
    new = ap (λ o. slot_comes o k slots s) (sym free) ∙ comes

    itself : predicate_called set m (codes "=") (tree u (tree u no_trees)) r ≡ one r
    itself = subst (λ (y : Evaluated). predicate_called set m (codes "=") (tree y.tree (tree y.tree no_trees)) y.state ≡ one y.state) new (equals-itself set m s)

filling-runs : (known : Knows) (set : Setting) (b : Builtins) (l m : Level) → Alike known set b l m → (n : Room) (h : ℕ) (ns ms : SlotNames) (e : Environment) (t : Tree) (slots : Places) (s : State) (x : Valued) → Agrees n h ns e slots →
    (c : Comes n h ms t slots s x) → runs b (filling (length ns) t ∷ []) (point l slots s) ≡ one (point l c.after x.state)
filling-runs known set b l m alike n h ns ms e (Tree.var k) slots s x a c = go (nat_lt k (length ns)) refl
  where
    past : nat_lt k (length ns) ≡ false → length ns ≤ k
    past is = not-less k (length ns) is

    go : (test : Bool) → nat_lt k (length ns) ≡ test →
        runs b (cond test (evaluating (Tree.var k)) (GoalTree.call (codes "=") (Tree.var k ∷ Tree.var k ∷ [])) ∷ []) (point l slots s) ≡ one (point l c.after x.state)
    go true is = evaluating-runs b l alike.core_drains (Tree.var k) slots c.after s x.state x.tree c.comes
    go false is = equals-runs known set b l m alike k slots c.after s x.state x.tree (a.empty k (past is)) c.comes c.filled
filling-runs known set b l m alike n h ns ms e t slots s x a c = evaluating-runs b l alike.core_drains t slots c.after s x.state x.tree c.comes

-- an expression without a call, as the last one and before a call
pub flat-last : (set : Setting) (b : Builtins) (l m : Level) (h : ℕ) (r : Reading) (before : Names) (e : ExpTree) → IsTerm e → is_flat_as r e ≡ true → SameLast b l m h (value_of set r before e) (λ ns. as_it_stands (slot_term e ns))
unfolding meaning
flat-last set b l m h r before e is flat = record {
  grows = λ ns. term-grows e ns;
  same = λ n ns env slots s a room.
      let c : ComesTo n h (slot_term e ns) slots s (written_term e env s) = term-comes e is n h ns env slots s a room in
      subst (λ (u : Trace Valued). SameBy (AtValue l n h (slot_term e ns).names (slot_term e ns).tree slots) (one (point l slots s)) u) (sym (flat-value set r before e flat m (place env s) ∙ ap term_value c.there))
      (same-one (AtValue l n h (slot_term e ns).names (slot_term e ns).tree slots) _ _ (at_value slots s c.value c.comes (extends-none slots)));
}

pub flat-filled : (known : Knows) (set : Setting) (b : Builtins) (l m : Level) (h : ℕ) (r : Reading) (before : Names) (e : ExpTree) → Alike known set b l m → IsTerm e → is_flat_as r e ≡ true →
    SameFilled b l m h (value_of set r before e) (λ ns. filled_before h (length ns) (slot_term e ns))
unfolding meaning
flat-filled known set b l m h r before e alike is flat = record {
  grows = λ ns. term-grows e ns;
  same = λ n ns env slots s a room.
      let t : SlotTerm = slot_term e ns in
      let c : ComesTo n h t slots s (written_term e env s) = term-comes e is n h ns env slots s a room in
      subst (λ (u : Trace Valued). SameBy (AtFilled l n h t.names t.tree slots) (runs b (cond (is_below h t.tree) [] (filling (length ns) t.tree ∷ [])) (point l slots s)) u)
      (sym (flat-value set r before e flat m (place env s) ∙ ap term_value c.there)) (go n ns env slots s a t c.value c.comes (is_below h t.tree) refl);
}
  where
    go : (n : Room) (ns : SlotNames) (env : Environment) (slots : Places) (s : State) → Agrees n h ns env slots → (t : SlotTerm) (x : Valued) → Comes n h t.names t.tree slots s x → (test : Bool) → is_below h t.tree ≡ test →
        SameBy (AtFilled l n h t.names t.tree slots) (runs b (cond test [] (filling (length ns) t.tree ∷ [])) (point l slots s)) (one x)
    go n ns env slots s a t x c true below =
        let filled : (u : Tree) × Filled slots t.tree u = below-filled h slots a.firm t.tree below in
        same-one (AtFilled l n h t.names t.tree slots) _ _ (at-evaluated l n h t.names t.tree slots s x c (term_at filled.0 slots s) (filled-comes slots t.tree filled.0 filled.1 s) refl)
    go n ns env slots s a t x c false below =
        subst (λ (w : Trace Point). SameBy (AtFilled l n h t.names t.tree slots) w (one x)) (sym (filling-runs known set b l m alike n h ns t.names env t.tree slots s x a c))
        (same-one (AtFilled l n h t.names t.tree slots) _ _ (at_filled x.names c.after x.state x.tree c.agrees c.extends c.filled))
