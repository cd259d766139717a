-- A run's budget over several steps, and what a propagation spends of it.
use Rattle.std.proofs.Common.{◌≡◌, ◌⊎◌, inl, inr, ℕ, ◌+◌, ◌≤◌, refl, ◌∙◌, ap, arith}
use Rattle.pi_core.specs.declared.log.Work.{Work}
use Rattle.pi_meaning.specs.declared.happening.Budget.{Budget}
use Rattle.pi_meaning.specs.declared.happening.Mode.{Mode}
use Rattle.pi_meaning.specs.Machine.Budget.{Counts, IsWithin}
use Rattle.pi_settling.specs.Runs.{HasRun, work_of}
use Rattle.pi_queue.specs.Ends.{KeepsWithin}
use Rattle.pi_engine.specs.Spends.{Spends}

pub spends-none : (mode : Mode) (b : Budget) → Spends mode b b
spends-none mode b =
    record {
      ticks = omega arith;
      goals = omega arith;
      runs = omega arith;
      expansions = refl;
      steps = refl;
      limit = refl;
      top = λ is. refl;
      inner = λ is. refl;
      within = λ h. h;
    }

pub spends-then : (mode : Mode) (a b c : Budget) → Spends mode a b → Spends mode b c → Spends mode a c
spends-then mode a b c first second =
    record {
      ticks = omega (arith, first.ticks, second.ticks);
      goals = omega (arith, first.goals, second.goals);
      runs = omega (arith, first.runs, second.runs);
      expansions = second.expansions ∙ first.expansions;
      steps = second.steps ∙ first.steps;
      limit = second.limit ∙ first.limit;
      top = λ is. second.top is ∙ first.top is;
      inner = λ is. second.inner is ∙ first.inner is;
      within = λ h. second.within (first.within h);
    }

-- what counts Ticks alone
pub spends-ticks : (mode : Mode) (a b : Budget) → Counts mode a b → Spends mode a b
spends-ticks mode a b counts =
    record {
      ticks = counts.ticks;
      goals = counts.goals;
      runs = omega (arith, counts.runs);
      expansions = counts.expansions;
      steps = counts.steps;
      limit = counts.limit;
      top = λ is. ap (λ w. w.goals) (counts.top is);
      inner = counts.inner;
      within = counts.within;
    }

-- the budget with this work
abbrev pub with_work : Budget → Work → Budget
with_work b w = record { ticks = b.ticks; steps = b.steps; work = w; limit = b.limit }

-- what runs propagators alone
pub spends-runs : (mode : Mode) (b : Budget) (w : Work) → KeepsWithin b.limit b.work w → Spends mode b (with_work b w)
spends-runs mode b w keeps =
    record {
      ticks = omega arith;
      goals = omega (arith, keeps.counted.goals);
      runs = omega (arith, keeps.counted.runs);
      expansions = keeps.counted.expansions;
      steps = refl;
      limit = refl;
      top = λ is. keeps.counted.goals;
      inner = λ is. refl;
      within = λ h. record { ticks = h.ticks; work = in-limit h.work keeps.within };
    }
  where
    in-limit : b.work.goals + b.work.runs + b.work.expansions ≤ b.limit → (keeps.many ≡ 0) ⊎ (work_of w ≤ b.limit) → w.goals + w.runs + w.expansions ≤ b.limit
    in-limit h (inl none) = omega (arith, h, none, keeps.counted.goals, keeps.counted.runs, keeps.counted.expansions)
    in-limit h (inr within) = within
