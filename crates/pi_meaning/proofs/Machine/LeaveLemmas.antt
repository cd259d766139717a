-- Levels that are left by an answer leave nothing on the stack.
use Rattle.std.proofs.Common.{◌≡◌, List, [], refl, ap}
use Rattle.std.specs.Prelude.{Bool, true, false, Option, Some, None}
use Rattle.pi_terms.specs.Places.{Places}
use Rattle.pi_constraints.specs.State.{State}
use Rattle.pi_meaning.specs.Machine.Configuration.{Back, Called, Found, Entry}
use Rattle.pi_core.specs.CoreTree.{leaves_others}
use Rattle.pi_meaning.specs.Machine.Step.{later_rules, strict_step, searched, end_step}
use Rattle.pi_meaning.specs.Machine.Laws.{LeaveNothing}

no-rule-left : (back : Bool) (called : Called) (b : Back) (below : List Entry) → later_rules back called [] b below ≡ below
no-rule-left true called b below = refl
no-rule-left false called b below = refl

none-searched : (f : Option Found) (b : Back) (below : List Entry) → (searched f b below).stack ≡ below
none-searched None b below = refl
none-searched (Some f) b below = refl

pub levels-leave-nothing : (e : Places) (s : State) (above : List Entry) (b : Back) (below : List Entry) → LeaveNothing e s above b below
unfolding strict_step end_step
levels-leave-nothing e s above b below = record {
  once = refl;
  negation = refl;
  condition = λ g other. refl;
  function = λ called into. refl;
  committed = λ called c cs h. ap (λ back. later_rules back called cs b below) h;
  last_rule = λ called c. no-rule-left (leaves_others called.function c) called b below;
  caught = λ ball handler. refl;
  last_branch = λ g. refl;
  search = λ x labelled f. none-searched f b below;
  last_alternative = λ name args p. refl;
}
