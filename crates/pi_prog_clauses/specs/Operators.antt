-- The signs that a call may have as its name, by what they stand for. (A User's Guide to Picat, 'Operators'; which are goals and which
-- are expressions is own.)
use Rattle.std.specs.Prelude.{ℕ, Bool, ◌&&◌, ◌||◌, ◌==◌, List, [], ◌∷◌, codes}
use Rattle.std.specs.Str.{bytes_eq}
use Rattle.pi_syntax.specs.Tokens.{is_one_of}

-- `not` and `once`
unfoldable pub is_goal_sign : List ℕ → ℕ → Bool
is_goal_sign name arity = arity == 1 && is_one_of (codes "not" ∷ codes "once" ∷ []) name

unfoldable pub is_assignment : List ℕ → ℕ → Bool
is_assignment name arity = arity == 2 && bytes_eq name (codes ":=")

-- `in`, of an iterator
unfoldable pub is_membership : List ℕ → ℕ → Bool
is_membership name arity = arity == 2 && bytes_eq name (codes "in")

-- the relations save `in`
unfoldable pub is_relation : List ℕ → ℕ → Bool
is_relation name arity =
    arity == 2 && is_one_of (codes "=" ∷ codes "!=" ∷ codes "==" ∷ codes "!==" ∷ codes "=:=" ∷ codes "=\\=" ∷ codes "<" ∷ codes "=<" ∷ codes "<="
    ∷ codes ">" ∷ codes ">=" ∷ codes "@<" ∷ codes "@=<" ∷ codes "@>" ∷ codes "@>=" ∷ codes ":=" ∷ codes "::" ∷ codes "notin" ∷ codes "#="
    ∷ codes "#!=" ∷ codes "#<" ∷ codes "#=<" ∷ codes "#<=" ∷ codes "#>" ∷ codes "#>=" ∷ []) name

-- the relations of constraints
unfoldable pub is_constraint : List ℕ → ℕ → Bool
is_constraint name arity =
    arity == 2 && is_one_of (codes "#=" ∷ codes "#!=" ∷ codes "#<" ∷ codes "#=<" ∷ codes "#<=" ∷ codes "#>" ∷ codes "#>=" ∷ []) name

-- the signs between constraints
unfoldable pub is_reified : List ℕ → ℕ → Bool
is_reified name arity =
    (arity == 1 && bytes_eq name (codes "#~"))
    || (arity == 2 && is_one_of (codes "#/\\" ∷ codes "#\\/" ∷ codes "#^" ∷ codes "#=>" ∷ codes "#<=>" ∷ []) name)

-- the signs of arithmetic, of lists and of ranges
unfoldable pub is_arithmetic : List ℕ → ℕ → Bool
is_arithmetic name arity =
    (arity == 1 && is_one_of (codes "+" ∷ codes "-" ∷ codes "~" ∷ []) name)
    || ((arity == 2 && is_one_of (codes "+" ∷ codes "-" ∷ codes "++" ∷ codes "*" ∷ codes "//" ∷ codes "/>" ∷ codes "/<" ∷ codes "div" ∷ codes "mod"
    ∷ codes "rem" ∷ codes "**" ∷ codes ">>" ∷ codes "<<" ∷ codes "/\\" ∷ codes "^" ∷ codes "\\/" ∷ codes ".." ∷ []) name)
    || (arity == 3 && bytes_eq name (codes "..")))

-- any sign of the grammar with as many operands as it has there
unfoldable pub is_operator : List ℕ → ℕ → Bool
is_operator name arity =
    (is_goal_sign name arity || (is_relation name arity || is_reified name arity)) || (is_membership name arity || is_arithmetic name arity)

-- what the language calls a goal, and no expression
abbrev pub is_goal_call : List ℕ → ℕ → Bool
is_goal_call name arity = is_goal_sign name arity || (is_relation name arity || is_reified name arity)

-- and an expression, and no goal
abbrev pub is_expression_call : List ℕ → ℕ → Bool
is_expression_call name arity = is_membership name arity || is_arithmetic name arity

-- a goal that may be an operand of a sign between constraints
abbrev pub is_boolean_call : List ℕ → ℕ → Bool
is_boolean_call name arity = is_reified name arity || is_constraint name arity
