-- What the postings of rounds come to, against what they do, what they leave, and what is next then.
use Rattle.std.proofs.Common.{◌≡◌, ◌∙◌, Bool, ℤ, Ok, Err, Result, refl, sym, ap, subst}
use Rattle.pi_terms.specs.Tree.{Tree, int, comp, no_trees, tree}
use Rattle.pi_constraints.specs.Value.{IsAcyclic}
use Rattle.pi_constraints.specs.State.{State, IsState, SpeaksBelow, bindings, next}
use Rattle.pi_constraints.specs.Store.{StoreView}
use Rattle.pi_constraints.proofs.KeepsLemmas.{int-below, no-trees-below, trees-below}
use Rattle.pi_effects.specs.Effect.{Effect, Succeeds}
use Rattle.pi_effects.specs.declared.fault.Stop.{Stop}
use Rattle.pi_prop_spec.specs.Postings.{Posting, posting_in, raised_by}
use Rattle.pi_prop_spec.specs.Steps.{Refusal}
use Rattle.pi_settling.specs.Posted.{effect_of_posting}
use Rattle.pi_settling.specs.Read.{operand_in}
use Rattle.pi_settling.specs.Reading.{Operand, reads, refuses}
use Rattle.pi_settling.specs.Rounds.{better_sign}
use Rattle.pi_settling.proofs.CalmPosted.{IsLeft, operand_may_settle}
use Rattle.pi_meaning.specs.Shared.Follows.{Follows}
use Rattle.pi_meaning.proofs.Shared.FollowLemmas.{follows-posting}
use Rattle.pi_engine_settle.proofs.LeftLemmas.{left-by}
use Rattle.pi_lib.specs.Runs.{IsRaised}
use Rattle.pi_lib_solve.specs.Sought.{ShowsBegun, ShowsBettered}
use Rattle.pi_engine_arenas.specs.declared.frames.Point.{Point}
use Rattle.pi_engine_arenas.specs.declared.run.Now.{Now}
use Rattle.pi_engine_settle.specs.Settles.{LeftBy}
use Rattle.pi_engine_stands.specs.Rests.{Rests}
use Rattle.pi_engine_stands.specs.Does.{ComesAfter}
use Rattle.pi_engine_stands.specs.Searches.{effect_of_operand}
use Rattle.pi_engine_stands.specs.Settling.{GoesOnTo}
use Rattle.pi_engine_steps.specs.Done.{Leaves}
use Rattle.pi_engine_steps.specs.Rounds.{ShowsPosting}
use Rattle.pi_engine_steps.proofs.GoalsLeave.{left-so, leaves-by, posted-left}

-- ---- what they come to

pub shows-begun : {M : Type 0} (v u : StoreView M) (r : Result (Unit {0}) Stop) (o : Operand) → ShowsBegun v u r o → ShowsPosting v u r (effect_of_operand o)
shows-begun v u (Ok done) o shows = ap effect_of_operand shows.1
shows-begun v u (Err (Stop.Raised fault)) o shows = (shows.0, ap effect_of_operand shows.1, shows.2, shows.3)
shows-begun v u (Err Stop.Memory) o shows = tt

pub shows-bettered : {M : Type 0} (v u : StoreView M) (r : Result (Unit {0}) Stop) (o : Result Posting Refusal) → ShowsBettered v u r o → ShowsPosting v u r (effect_of_posting v.now.state o)
shows-bettered v u (Ok done) o shows = ap (effect_of_posting v.now.state) shows.1 ∙ ap Succeeds (sym shows.2)
shows-bettered v u (Err (Stop.Raised fault)) o shows = (raised_by v.now.state shows.0, ap (effect_of_posting v.now.state) shows.1, shows.2, shows.3)
shows-bettered v u (Err Stop.Memory) o shows = tt

-- ---- what they leave

begun-by : (s : State) (t : Tree) (o : Operand) → Rests s → SpeaksBelow (next s) t → operand_in t s ≡ o → Leaves s (effect_of_operand o)
begun-by s t (reads r sum) rests below is =
    let left : IsLeft s r = operand_may_settle s rests.calm.state rests.calm.settles t below r sum is in
    left-by s r rests.calm rests.none_made (left-so s r (subst (Follows s) left.1 (follows-posting s left.0)) left.2)
begun-by s t (refuses ball) rests below is = tt

pub begun-leaves : (s : State) (t : Tree) → Rests s → SpeaksBelow (next s) t → Leaves s (effect_of_operand (operand_in t s))
begun-leaves s t rests below = begun-by s t (operand_in t s) rests below refl

pub bettered-leaves : (s : State) (t : Tree) (greatest : Bool) (v : ℤ) → Rests s → SpeaksBelow (next s) t → Leaves s (effect_of_posting s (posting_in s (comp (better_sign greatest) (tree t (tree (int v) no_trees)))))
bettered-leaves s t greatest v rests below =
    leaves-by s (effect_of_posting s (posting_in s (comp (better_sign greatest) (tree t (tree (int v) no_trees))))) rests
    (posted-left s (better_sign greatest) (tree t (tree (int v) no_trees)) rests.calm.state rests.calm.settles (trees-below (next s) t (tree (int v) no_trees) below (trees-below (next s) (int v) no_trees (int-below (next s) v) (no-trees-below (next s)))))

-- ---- what is next

pub round-comes : (before u : State) (p : Point) (e : Effect) (now : Now) → e ≡ Succeeds u → Leaves before e → (LeftBy before u → GoesOnTo before u p now) → ComesAfter before p e u now
round-comes before u p e now shows leaves so =
    let left : LeftBy before u = subst (Leaves before) shows leaves in subst (λ d. ComesAfter before p d u now) (sym shows) (refl, left, so left)

pub round-raised : {M : Type 0} (v w : StoreView M) (p : Point) (stop : Stop) (e : Effect) (made : Tree) → IsState v.now.state → ShowsPosting v w (Err stop) e → IsRaised w stop made → ComesAfter v.now.state p e w.now.state (Now.Raising made)
round-raised v w p stop e made state shows is =
    let told = subst (λ x. ShowsPosting v w (Err x) e) is.1 shows in
    subst (λ d. ComesAfter v.now.state p d w.now.state (Now.Raising made)) (sym told.1)
    (ap Now.Raising (is.2 told.0 (subst (λ s. IsAcyclic (bindings s)) (sym told.3.state) state.acyclic) told.2))
