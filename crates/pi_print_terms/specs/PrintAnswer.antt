-- The lines of an answer (own).
use Rattle.pi_core.specs.AnswerVariables.{answer_variables}
use Rattle.std.specs.Prelude.{ℕ, ◌==◌, true, if◌then◌else◌, int_le, List, [], ◌∷◌, ◌++◌, map, codes, Option, Some, None}
use Rattle.std.specs.Fmt.{signed_decimal}
use Rattle.std.specs.List.{flat_map}
use Rattle.pi_syntax.specs.Tokens.{line_feed}
use Rattle.pi_syntax.specs.PrintTerm.{written, variable_text}
use Rattle.pi_core.specs.declared.answer.Answer.{Answer}
use Rattle.pi_core.specs.declared.answer.NamedTerm.{NamedTerm}
use Rattle.pi_constraints.specs.declared.var_domain.VarDomain.{VarDomain}
use Rattle.pi_constraints.specs.declared.domain.Span.{Span}

abbrev pub line : List ℕ → List ℕ
line text = text ++ line_feed ∷ []

-- the value of a named variable, in quoted form
abbrev pub value_line : List ℕ → NamedTerm → List ℕ
value_line vars v = line (v.name ++ (codes " = " ++ written true vars v.value))

-- a range is written as its least and greatest value, or as the one that it has
abbrev pub span_text : Span → List ℕ
span_text s =
    if int_le s.hi s.lo then signed_decimal s.lo else signed_decimal s.lo ++ (codes ".." ++ signed_decimal s.hi)

-- ranges behind another
abbrev pub more_spans_text : List Span → List ℕ
more_spans_text [] = []
more_spans_text (s ∷ ss) = codes "," ++ (span_text s ++ more_spans_text ss)

abbrev pub spans_text : List Span → List ℕ
spans_text [] = []
spans_text (s ∷ ss) = span_text s ++ more_spans_text ss

-- the domain of a variable, if it has one
unfoldable pub domain_of : List VarDomain → ℕ → Option (List Span)
domain_of [] n = None
domain_of (d ∷ ds) n = if d.var == n then Some d.domain else domain_of ds n

abbrev pub domain_line : List ℕ → ℕ → List Span → List ℕ
domain_line vars n spans = line (variable_text vars n ++ (codes " :: " ++ spans_text spans))

-- the line of a variable that has a domain
abbrev pub domain_line_if : List ℕ → ℕ → Option (List Span) → List (List ℕ)
domain_line_if vars n None = []
domain_line_if vars n (Some spans) = domain_line vars n spans ∷ []

-- the domains of the variables, by number
abbrev pub domain_lines : List ℕ → List VarDomain → List (List ℕ)
domain_lines vars domains = flat_map (λ n. domain_line_if vars n (domain_of domains n)) vars

-- the values by the order of the names, then the domains of their variables by number, then `yes`
unfoldable pub answer_lines : Answer → List (List ℕ)
answer_lines a =
    let vars = answer_variables a.values in
    map (value_line vars) a.values ++ (domain_lines vars a.domains ++ line (codes "yes") ∷ [])
