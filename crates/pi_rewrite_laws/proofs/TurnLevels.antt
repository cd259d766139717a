-- The levels of a loop's turns, at each depth: where so many quiet calls may nest that its helper can be called, and what stands in a turn does the same at the level inside, the loop has its turns.
use Rattle.std.proofs.Common.{◌≡◌, ℕ, zero, suc, ◌+◌, ◌≤◌, true, false, List, length, refl, sym, ◌∙◌, ap, subst, arith}
use Rattle.std.specs.Prelude.{Option, Some, None}
use Rattle.pi_terms.specs.Tree.{Trees, tree_count}
use Rattle.pi_constraints.specs.State.{State}
use Rattle.pi_core.specs.CoreTree.{PredTree, find_pred}
use Rattle.pi_syntax.specs.ProgramTree.{ProgramTree}
use Rattle.pi_traces.specs.Trace.{Trace}
use Rattle.pi_meaning.specs.Shared.Level.{Level, lower, or_called}
use Rattle.pi_meaning.specs.CoreMeaning.Builtins.{Builtins}
use Rattle.pi_meaning.specs.CoreMeaning.Rules.{call_run, entered, pred_run, calls_of, quiet_level, level_at}
use Rattle.pi_meaning.specs.OverNames.Stages.{RulesSetting}
use Rattle.pi_meaning.specs.OverNames.Rules.{calls_by, level_for}
use Rattle.pi_rewrite_laws.proofs.LevelLemmas.{core-drains}
use Rattle.pi_rewrite_laws.proofs.HelperLemmas.{HelperCalled}
use Rattle.pi_rewrite_laws.proofs.WhileLemmas.{Turns, last_turn, one_more}
use Rattle.pi_rewrite_laws.proofs.OnlyTurns.{OnlyTurn, in_call}
use Rattle.pi_rewrite_laws.proofs.WalkTurns.{Walks, last_walk, next_walk}
use Rattle.pi_rewrite_laws.proofs.RangeTurns.{StepTurns, last_step, next_step, Steps, no_steps, some_steps}

-- the level of a depth at which so many quiet calls may still nest
unfoldable pub core_level : Builtins → List PredTree → ℕ → ℕ → Level
core_level b preds zero k = quiet_level b preds None k
core_level b preds (suc d) k = quiet_level b preds (Some (level_at b preds d)) k

-- and as many as may at first
abbrev pub quiet_calls : List PredTree → ℕ → ℕ
quiet_calls preds zero = length preds
quiet_calls preds (suc d) = suc (length preds + d)

pub level-is : (b : Builtins) (preds : List PredTree) (d : ℕ) → level_at b preds d ≡ core_level b preds d (quiet_calls preds d)
unfolding level_at core_level
level-is b preds zero = refl
level-is b preds (suc d) = refl

-- the core program has a helper, whose name does nothing by itself
pub record HasHelper (b : Builtins) (preds : List PredTree) (p : PredTree) : Type 0 where
  pub found : find_pred false p.name p.arity preds ≡ Some p
  pub quiet : p.quiet ≡ true
  pub index : p.index ≡ None
  pub own : (l : Level) (ts : Trees) (s : State) → tree_count ts ≡ p.arity → b.predicate l p.name ts s ≡ None

-- a call of it does its clauses one quiet call further inside
helper-called : (b : Builtins) (preds : List PredTree) (p : PredTree) → HasHelper b preds p → (below : Option Level) (k : ℕ) → HelperCalled b (quiet_level b preds below (suc k)) p (quiet_level b preds below k)
unfolding quiet_level calls_of
helper-called b preds p has None k ts s count =
    ap (λ (o : Option (Trace State)). or_called o (quiet_level b preds None (suc k)) p.name ts s) (has.own (quiet_level b preds None (suc k)) ts s count)
    ∙ ap (λ (n : ℕ). call_run b (Some (quiet_level b preds None k)) None (find_pred false p.name n preds) ts s) count
    ∙ ap (λ (o : Option PredTree). call_run b (Some (quiet_level b preds None k)) None o ts s) has.found
    ∙ ap (λ c. entered c (Some (quiet_level b preds None k)) None (λ l. pred_run b l p p.index ts s)) has.quiet
    ∙ ap (λ o. pred_run b (quiet_level b preds None k) p o ts s) has.index
helper-called b preds p has (Some l) k ts s count =
    ap (λ (o : Option (Trace State)). or_called o (quiet_level b preds (Some l) (suc k)) p.name ts s) (has.own (quiet_level b preds (Some l) (suc k)) ts s count)
    ∙ ap (λ (n : ℕ). call_run b (Some (quiet_level b preds (Some l) k)) (Some l) (find_pred false p.name n preds) ts s) count
    ∙ ap (λ (o : Option PredTree). call_run b (Some (quiet_level b preds (Some l) k)) (Some l) o ts s) has.found
    ∙ ap (λ c. entered c (Some (quiet_level b preds (Some l) k)) (Some l) (λ j. pred_run b j p p.index ts s)) has.quiet
    ∙ ap (λ o. pred_run b (quiet_level b preds (Some l) k) p o ts s) has.index

pub helper-called-at : (b : Builtins) (preds : List PredTree) (p : PredTree) → HasHelper b preds p → (d k : ℕ) → HelperCalled b (core_level b preds d (suc k)) p (core_level b preds d k)
unfolding core_level
helper-called-at b preds p has zero k = helper-called b preds p has None k
helper-called-at b preds p has (suc d) k = helper-called b preds p has (Some (level_at b preds d)) k

quiet-lower : (b : Builtins) (preds : List PredTree) (below : Option Level) (k : ℕ) → lower (quiet_level b preds below k) ≡ below
unfolding quiet_level
quiet-lower b preds None zero = refl
quiet-lower b preds None (suc k) = refl
quiet-lower b preds (Some l) zero = refl
quiet-lower b preds (Some l) (suc k) = refl

pub lowest-level : (b : Builtins) (preds : List PredTree) (k : ℕ) → lower (core_level b preds zero k) ≡ None
unfolding core_level
lowest-level b preds k = quiet-lower b preds None k

pub lower-level : (b : Builtins) (preds : List PredTree) (d k : ℕ) → lower (core_level b preds (suc d) k) ≡ Some (level_at b preds d)
unfolding core_level
lower-level b preds d k = quiet-lower b preds (Some (level_at b preds d)) k

-- at first all helpers may nest
pub enough-calls : (preds : List PredTree) (d n : ℕ) → n ≤ length preds → n ≤ quiet_calls preds d
enough-calls preds zero n few = few
enough-calls preds (suc d) n few = omega (arith, few)

-- what holds at each depth up to one where so many quiet calls may still nest
abbrev pub EachLevel : Builtins → List PredTree → RulesSetting → ProgramTree → ℕ → (Level → Level → Type 0) → ℕ → Type 0
EachLevel b preds set program most At rank = (d k : ℕ) → d ≤ most → rank ≤ k → At (core_level b preds d k) (level_for set program d)

-- A loop's turns have their levels, where one quiet call more may nest than those in a turn.
pub turns-at : (b : Builtins) (preds : List PredTree) (set : RulesSetting) (program : ProgramTree) (most : ℕ) (p : PredTree) → HasHelper b preds p → (At : Level → Level → Type 0) (rank : ℕ) → suc rank ≤ length preds → EachLevel b preds set program most At rank →
    EachLevel b preds set program most (Turns b p At) (suc rank)
unfolding level_for
turns-at b preds set program most p has At rank fits each d zero up less = absurd (omega (arith, less))
turns-at b preds set program most p has At rank fits each zero (suc k) up less =
    last_turn (core_level b preds zero (suc k)) (core_level b preds zero k) (calls_by set program None) (helper-called-at b preds p has zero k) (lowest-level b preds k) (each zero k up (omega (arith, less)))
turns-at b preds set program most p has At rank fits each (suc d) (suc k) up less =
    one_more (core_level b preds (suc d) (suc k)) (core_level b preds (suc d) k) (level_at b preds d) (calls_by set program (Some (level_for set program d))) (level_for set program d) (helper-called-at b preds p has (suc d) k) (lower-level b preds d k)
    (each (suc d) k up (omega (arith, less))) (subst (λ (l : Level). At l (level_for set program d)) (sym (level-is b preds d)) (each d (quiet_calls preds d) (omega (arith, up)) (enough-calls preds d rank (omega (arith, fits)))))
    (subst (λ (l : Level). Turns b p At l (level_for set program d)) (sym (level-is b preds d))
    (turns-at b preds set program most p has At rank fits each d (quiet_calls preds d) (omega (arith, up)) (enough-calls preds d (suc rank) fits)))

-- The turn of a loop that begins with a test has its level likewise.
pub only-at : (b : Builtins) (preds : List PredTree) (set : RulesSetting) (program : ProgramTree) (most : ℕ) (p : PredTree) → HasHelper b preds p → (At : Level → Level → Type 0) (rank : ℕ) → EachLevel b preds set program most At rank →
    EachLevel b preds set program most (OnlyTurn b p At) (suc rank)
only-at b preds set program most p has At rank each d zero up less = absurd (omega (arith, less))
only-at b preds set program most p has At rank each d (suc k) up less =
    in_call (core_level b preds d (suc k)) (core_level b preds d k) (level_for set program d) (helper-called-at b preds p has d k) (each d k up (omega (arith, less)))

-- A walk has its levels, where two quiet calls more may nest: the second helper calls the first one again.
pub walks-at : (b : Builtins) (preds : List PredTree) (set : RulesSetting) (program : ProgramTree) (most : ℕ) (h t : PredTree) → HasHelper b preds h → HasHelper b preds t → (At : Level → Level → Type 0) (rank : ℕ) → suc (suc rank) ≤ length preds →
    EachLevel b preds set program most At rank → EachLevel b preds set program most (Walks b h t At) (suc rank)
unfolding level_for
walks-at b preds set program most h t has second At rank fits each d zero up less = absurd (omega (arith, less))
walks-at b preds set program most h t has second At rank fits each zero (suc k) up less =
    last_walk (core_level b preds zero (suc k)) (core_level b preds zero k) (calls_by set program None) (helper-called-at b preds h has zero k) (lowest-level b preds k) (each zero k up (omega (arith, less)))
walks-at b preds set program most h t has second At rank fits each (suc d) (suc k) up less =
    inside (quiet_calls preds d) refl (λ j few. walks-at b preds set program most h t has second At rank fits each d j (omega (arith, up)) few)
  where
    lower_up : d ≤ most
    lower_up = omega (arith, up)

    inside : (n : ℕ) → quiet_calls preds d ≡ n → ((j : ℕ) → suc rank ≤ j → Walks b h t At (core_level b preds d j) (level_for set program d)) → Walks b h t At (core_level b preds (suc d) (suc k)) (level_for set program (suc d))
    inside zero is walks = absurd (omega (arith, is, enough-calls preds d (suc (suc rank)) fits))
    inside (suc n) is walks =
        next_walk (core_level b preds (suc d) (suc k)) (core_level b preds (suc d) k) (level_at b preds d) (core_level b preds d n) (calls_by set program (Some (level_for set program d))) (level_for set program d) (helper-called-at b preds h has (suc d) k)
        (lower-level b preds d k) (each (suc d) k up (omega (arith, less))) (subst (λ (l : Level). At l (level_for set program d)) (sym there) (each d (suc n) lower_up (omega (arith, is, enough-calls preds d (suc (suc rank)) fits))))
        (subst (λ (l : Level). HelperCalled b l t (core_level b preds d n)) (sym there) (helper-called-at b preds t second d n)) (each d n lower_up (omega (arith, is, enough-calls preds d (suc (suc rank)) fits)))
        (walks n (omega (arith, is, enough-calls preds d (suc (suc rank)) fits)))
      where
        there : level_at b preds d ≡ core_level b preds d (suc n)
        there = level-is b preds d ∙ ap (core_level b preds d) is

-- The turns of a range have theirs, where two quiet calls more may nest: the first helper ends the loop from inside the second one.
step-turns-at : (b : Builtins) (preds : List PredTree) (set : RulesSetting) (program : ProgramTree) (most : ℕ) (h t : PredTree) → HasHelper b preds h → HasHelper b preds t → (At : Level → Level → Type 0) (rank : ℕ) → suc (suc rank) ≤ length preds → EachLevel b preds set program most At rank → (d : ℕ) → d ≤ most →
    StepTurns b h t At (level_at b preds d) (level_for set program d)
unfolding level_for
step-turns-at b preds set program most h t has second At rank fits each zero up = inside (quiet_calls preds zero) refl
  where
    inside : (n : ℕ) → quiet_calls preds zero ≡ n → StepTurns b h t At (level_at b preds zero) (level_for set program zero)
    inside zero is = absurd (omega (arith, is, fits))
    inside (suc zero) is = absurd (omega (arith, is, fits))
    inside (suc (suc n)) is =
        subst (λ (l : Level). StepTurns b h t At l (level_for set program zero)) (sym (level-is b preds zero ∙ ap (core_level b preds zero) is))
        (last_step (core_level b preds zero (suc (suc n))) (core_level b preds zero (suc n)) (core_level b preds zero n) (calls_by set program None) (helper-called-at b preds t second zero (suc n)) (lowest-level b preds (suc n))
        (each zero (suc n) up (omega (arith, is, fits))) (helper-called-at b preds h has zero n) (each zero n up (omega (arith, is, fits))))
step-turns-at b preds set program most h t has second At rank fits each (suc d) up = inside (quiet_calls preds (suc d)) refl (step-turns-at b preds set program most h t has second At rank fits each d (omega (arith, up)))
  where
    inside : (n : ℕ) → quiet_calls preds (suc d) ≡ n → StepTurns b h t At (level_at b preds d) (level_for set program d) → StepTurns b h t At (level_at b preds (suc d)) (level_for set program (suc d))
    inside zero is turns = absurd (omega (arith, is, fits))
    inside (suc zero) is turns = absurd (omega (arith, is, fits))
    inside (suc (suc n)) is turns =
        subst (λ (l : Level). StepTurns b h t At l (level_for set program (suc d))) (sym (level-is b preds (suc d) ∙ ap (core_level b preds (suc d)) is))
        (next_step (core_level b preds (suc d) (suc (suc n))) (core_level b preds (suc d) (suc n)) (level_at b preds d) (core_level b preds (suc d) n) (calls_by set program (Some (level_for set program d))) (level_for set program d)
        (helper-called-at b preds t second (suc d) (suc n)) (lower-level b preds d (suc n)) (core-drains b preds d) (each (suc d) (suc n) up (omega (arith, is, fits))) (helper-called-at b preds h has (suc d) n) (each (suc d) n up (omega (arith, is, fits))) turns)

pub steps-at : (b : Builtins) (preds : List PredTree) (set : RulesSetting) (program : ProgramTree) (most : ℕ) (h t : PredTree) → HasHelper b preds h → HasHelper b preds t → (At : Level → Level → Type 0) (rank : ℕ) → suc (suc rank) ≤ length preds → EachLevel b preds set program most At rank →
    EachLevel b preds set program most (Steps b h t At) (suc rank)
unfolding level_for
steps-at b preds set program most h t has second At rank fits each d zero up less = absurd (omega (arith, less))
steps-at b preds set program most h t has second At rank fits each zero (suc k) up less =
    no_steps (core_level b preds zero (suc k)) (core_level b preds zero k) (calls_by set program None) (helper-called-at b preds h has zero k) (lowest-level b preds k) (each zero k up (omega (arith, less)))
steps-at b preds set program most h t has second At rank fits each (suc d) (suc k) up less =
    some_steps (core_level b preds (suc d) (suc k)) (core_level b preds (suc d) k) (level_at b preds d) (calls_by set program (Some (level_for set program d))) (level_for set program d) (helper-called-at b preds h has (suc d) k) (lower-level b preds d k) (core-drains b preds d)
    (each (suc d) k up (omega (arith, less))) (step-turns-at b preds set program most h t has second At rank fits each d (omega (arith, up)))
