-- A run's budget over several steps.
use Rattle.std.proofs.Common.{refl, ◌∙◌, arith}
use Rattle.pi_meaning.specs.declared.happening.Budget.{Budget}
use Rattle.pi_meaning.specs.declared.happening.Mode.{Mode}
use Rattle.pi_meaning.specs.Machine.Budget.{Counts}

pub counts_none : (mode : Mode) (b : Budget) → Counts mode b b
counts_none mode b =
    record {
      ticks = omega arith;
      goals = omega arith;
      runs = refl;
      expansions = refl;
      steps = refl;
      limit = refl;
      top = λ is. refl;
      inner = λ is. refl;
      within = λ h. h;
    }

pub counts_then : (mode : Mode) (a b c : Budget) → Counts mode a b → Counts mode b c → Counts mode a c
counts_then mode a b c first second =
    record {
      ticks = omega arith;
      goals = omega arith;
      runs = second.runs ∙ first.runs;
      expansions = second.expansions ∙ first.expansions;
      steps = second.steps ∙ first.steps;
      limit = second.limit ∙ first.limit;
      top = λ is. second.top is ∙ first.top is;
      inner = λ is. second.inner is ∙ first.inner is;
      within = λ h. second.within (first.within h);
    }
