-- What is known of a clause that is read again from its canonical text.
use Rattle.std.proofs.Common.{◌≡◌, Bool, ◌||◌, List}
use Rattle.pi_print_program.specs.Canonical.{clause_text}
use Rattle.pi_print_program.proofs.ClauseTexts.{ShapeText}
use Rattle.pi_prog_clauses.specs.Items.{has_bad_head, is_function_with_choice_or_events, is_open_action_rule, has_bad_events, are_bad_nodes}
use Rattle.pi_prog_clauses.specs.Places.{clause_placed}
use Rattle.pi_prog_clauses.specs.Reading.{variable_names, IsDeepShape}
use Rattle.pi_prog_clauses.specs.Shape.{Shape, clause_of}
use Rattle.pi_syntax.specs.Tokens.{Token}

-- what a part's shape and its nodes forbid, whatever its declaration and its names are
abbrev pub bad_shape : Shape → Bool
bad_shape s =
    (is_function_with_choice_or_events s || (is_open_action_rule s || has_bad_events s))
    || (has_bad_head (clause_of s) || are_bad_nodes (clause_placed (clause_of s)))

-- of the clause that these tokens are, of this shape
pub record ClauseAgain (ts : List Token) (s : Shape) : Type 0 where
  -- the shape of its text: the same, or with the only condition, a conjunction, taken apart
  pub shape : Shape
  pub text : ShapeText (clause_text (clause_of s)) shape
  pub clause : clause_of shape ≡ clause_of s
  pub form : bad_shape shape ≡ bad_shape s
  pub flat : ¬ IsDeepShape shape
  pub names : variable_names text.tokens ≡ variable_names ts
