-- A form of control that the code names, as the definition names it.
use Rattle.std.specs.Prelude.{Option, Some, None}
use Rattle.pi_meaning.specs.OverNames.Forms as names
use Rattle.pi_rewrite_sound.specs.declared.forms.Form.{Form}

abbrev pub form_shown : Option Form → Option names.Form
form_shown None = None
form_shown (Some Form.Negation) = Some names.negation
form_shown (Some Form.Once) = Some names.once
form_shown (Some Form.Assignment) = Some names.assignment
form_shown (Some Form.Catch) = Some names.catch
form_shown (Some Form.ByTerm) = Some names.by_term
form_shown (Some Form.Membership) = Some names.membership
