-- A test, and an iterator.
use Rattle.std.proofs.Common.{◌≡◌, ℕ, List, [], ◌∷◌, ◌++◌, refl, sym, ◌∙◌, ap}
use Rattle.std.specs.Prelude.{map}
use Rattle.std.proofs.lemmas.List.{append-nil}
use Rattle.pi_core.specs.CoreTree.{PredTree, pred_tree}
use Rattle.pi_rewrite_spec.specs.Goals.{SlotGoals, in_turn}
use Rattle.pi_rewrite_loops.specs.Helpers.{lowered, own_by, loop_of}
use Rattle.pi_rewrite_goals.specs.Opened.{around, own_of, element_pattern}
use Rattle.pi_rewrite_goals.proofs.CloseLemmas.{close-test, own-element}
use Rattle.pi_rewrite_goals.proofs.opened.close_one.Goals as goal

pub returns-in_ok-push-in-Test-clause-goals : goal.returns-in_ok-push-in-Test-clause-goals
returns-in_ok-push-in-Test-clause-goals c =
    close-test c.in-Test.test c.in_ok-then-in-Test.then c.in_ok-other-in-Test.other c.in_ok-choice-in-Test.choice c.in-Test.before c.args.goals.now.items c.push.new.self.items c.args.slots.now c.args.slots.now
    (c.in_ok-then-in-Test.ensures ∙ ap (λ v. in_turn v.items) c.replace-behind.ensures.value) c.in_ok-other-in-Test.ensures.ok c.in_ok-choice-in-Test.ensures.ok (c.in_ok-push-in-Test.ensures.items ∙ ap (λ v. v.items ++ c.in_ok-choice-in-Test.choice ∷ []) c.replace-behind.ensures.after) refl
    ∙ ap (λ o. around o (lowered c.args.goals.now.items c.args.slots.now)) (sym c.in-Test.is)

pub returns-in_ok-push-in-Test-clause-helpers : goal.returns-in_ok-push-in-Test-clause-helpers
returns-in_ok-push-in-Test-clause-helpers c =
    let hs : List PredTree = map pred_tree c.args.helpers.now.items in
    sym (append-nil hs) ∙ ap (λ o. hs ++ own_of o (lowered c.args.goals.now.items c.args.slots.now)) (sym c.in-Test.is)

pub returns-in_ok-push_own-in-Iterator-clause-goals : goal.returns-in_ok-push_own-in-Iterator-clause-goals
returns-in_ok-push_own-in-Iterator-clause-goals c =
    ap (λ v. lowered v.items c.replace-behind-in-Iterator.new.dest) c.replace-turn.ensures.after
    ∙ (ap (λ ns. lowered c.in-Iterator.over.goals.items ns) c.replace-behind-in-Iterator.ensures.after ∙ ap (λ o. around o (lowered c.args.goals.now.items c.args.slots.now)) (sym c.in-Iterator.is))

pub returns-in_ok-push_own-in-Iterator-clause-helpers : goal.returns-in_ok-push_own-in-Iterator-clause-helpers
returns-in_ok-push_own-in-Iterator-clause-helpers c =
    let hs : List PredTree = map pred_tree c.args.helpers.now.items in
    let all : List ℕ → SlotGoals → List PredTree = λ n g. hs ++ own_by c.in-Iterator.over.is_range n (loop_of c.in-Iterator.over.whole) (element_pattern c.in-Iterator.over.element) g in
    c.in_ok-push_own-in-Iterator.ensures (element_pattern c.in-Iterator.over.element) (own-element c.in-Iterator.over.element)
    ∙ (ap (λ n. all n (lowered c.replace-turn.result.items c.replace-behind-in-Iterator.result)) c.as_str.ensures
    ∙ (ap (λ v. all c.in-Iterator.over.turn (lowered v.items c.replace-behind-in-Iterator.result)) c.replace-turn.ensures.value
    ∙ (ap (λ ns. all c.in-Iterator.over.turn (lowered c.args.goals.now.items ns)) c.replace-behind-in-Iterator.ensures.value ∙ ap (λ o. hs ++ own_of o (lowered c.args.goals.now.items c.args.slots.now)) (sym c.in-Iterator.is))))
