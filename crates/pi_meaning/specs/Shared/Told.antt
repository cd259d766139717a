-- What an answer of a query tells: the value of each named variable, and the domain of each unbound variable in these
-- values that has one (own). How it is printed stands in PrintAnswer.
use Rattle.std.specs.Prelude.{List, [], ◌∷◌}
use Rattle.pi_terms.specs.Tree.{var}
use Rattle.pi_terms.specs.Places.{Places}
use Rattle.pi_constraints.specs.Value.{value}
use Rattle.pi_constraints.specs.State.{State, bindings}
use Rattle.pi_constraints.specs.Evaluation.{Evaluated, evaluated}
use Rattle.pi_constraints.specs.ToldDomains.{told_domains}
use Rattle.pi_meaning.specs.CoreMeaning.Run.{Solution}
use Rattle.pi_meaning.specs.OverNames.Telling.{Told}
use Rattle.pi_core.specs.AnswerVariables.{answer_variables}
use Rattle.pi_core.specs.declared.core_program.NameSlot.{NameSlot}
use Rattle.pi_core.specs.declared.answer.NamedTerm.{NamedTerm}
use Rattle.pi_core.specs.declared.answer.Answer.{Answer}

-- the named variables in order, each with its value; one whose slot is empty is a new variable
unfoldable pub named_values : List NameSlot → Places → State → List NamedTerm
named_values [] e s = []
named_values (n ∷ names) e s =
    let x : Evaluated = evaluated (var n.slot) e s in
    record { name = n.name; value = value (bindings x.state) x.tree } ∷ named_values names x.slots x.state

-- the values, and the domains of the variables in them, each once, by first occurrence; a variable that is new here has none
unfoldable pub answer_of : List NameSlot → Solution → Answer
answer_of names x =
    let values : List NamedTerm = named_values names x.slots x.state in
    record { values = values; domains = told_domains x.state (answer_variables values) }

-- as an answer of a goal over names tells it
abbrev pub solution_told : List NameSlot → Solution → Told
solution_told names x = record { values = named_values names x.slots x.state; state = x.state }
