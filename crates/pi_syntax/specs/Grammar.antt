-- The grammar of expressions, by cases: so the terminals of an expression are its tree's. It has one case for each line
-- of the grammar's table, which follows 'Grammar' and 'Operators' of A User's Guide to Picat. Which of the Guide's forms
-- it has, the order of some lines, which signs it reads as others, and the rules on arrows, dots, indexes and negative
-- integers are own.
--
-- Each relation speaks of two lists of terminals: what is read stands at the front of the first, and the second is the
-- rest behind it. An expression is read whole where the rest is empty.
use Rattle.std.specs.Prelude.{◌≡◌, ℕ, Bool, true, false, ◌==◌, if◌then◌else◌, ℤ, pos, ◌-ℤ◌, List, [], ◌∷◌, length, map, codes, Option, Some, None}
use Rattle.pi_syntax.specs.ExpTree.{ExpTree, var, int, atom as atom_of, str, list, list_onto, array, call, quote, index, range as range_of, range_by, at as at_of, collect, and, or, arrow as arrow_of, if_then, if_else, foreach, while_do, do_while, ExpTrees, no_exps, exp as exp_before, ExpBranches, no_branches, branch as branch_before, one_exp}
use Rattle.pi_syntax.specs.Terminals.{Line, equivalence, implication, constraint_or, constraint_xor, constraint_and, bit_or, bit_xor, bit_and, shift, sum, product, Terminal, variable, atom, integer, text, joint, plus, minus, relation, dots, power, complement, constraint_not, goal_sign, open_paren, close_paren, open_bracket, close_bracket, open_brace, close_brace, comma, semicolon, arrow, bar, colon, dot, dollar, at, word_if, word_then, word_elseif, word_else, word_end, word_foreach, word_while, word_do, terminal}
use Rattle.pi_syntax.specs.Tokens.{Token}

-- The lines of the table that give one expression, the loosest first.
pub data Phrase : Type 0 where
  exp : Phrase
  branch : Phrase
  conj : Phrase
  unit : Phrase
  line : Line → Phrase
  -- with `#~` before it, or not
  negation : Phrase
  relating : Phrase
  range : Phrase
  unary : Phrase
  pow : Phrase
  post : Phrase
  prim : Phrase

-- what stands between the signs of a line
abbrev pub operand : Line → Phrase
operand equivalence = line implication
operand implication = line constraint_or
operand constraint_or = line constraint_xor
operand constraint_xor = line constraint_and
operand constraint_and = negation
operand bit_or = line bit_xor
operand bit_xor = line bit_and
operand bit_and = line shift
operand shift = line sum
operand sum = line product
operand product = unary

-- the sign stands between two operands of the line, with this name
pub data Joins : Line → Terminal → List ℕ → Type 0 where
  a_joint : {l : Line} {name : List ℕ} → Joins l (joint l name) name
  a_plus : Joins sum plus (codes "+")
  a_minus : Joins sum minus (codes "-")

-- the tree of a sign before one operand, and between two
abbrev pub call_one : List ℕ → ExpTree → ExpTree
call_one name e = call name (one_exp e)

abbrev pub call_two : List ℕ → ExpTree → ExpTree → ExpTree
call_two name a b = call name (exp_before a (one_exp b))

-- two or more units are one `and`, two or more branches one `or`
abbrev pub conjunction : ExpTrees → ExpTree
conjunction no_exps = and no_exps
conjunction (exp_before e no_exps) = e
conjunction (exp_before e (exp_before f es)) = and (exp_before e (exp_before f es))

abbrev pub disjunction : ExpTrees → ExpTree
disjunction no_exps = or no_exps
disjunction (exp_before e no_exps) = e
disjunction (exp_before e (exp_before f es)) = or (exp_before e (exp_before f es))

-- The integer, where an integer terminal is all that stands before the rest: what is left behind it is then as long as the
-- rest.
abbrev pub integer_alone : List Terminal → List Terminal → Option ℤ
integer_alone (integer n ∷ ts) rest = if length ts == length rest then Some n else None
integer_alone _ rest = None

-- the tree of `-` before an operand: a negative integer where the operand is an integer alone
abbrev pub negated : Option ℤ → ExpTree → ExpTree
negated None e = call_one (codes "-") e
negated (Some n) e = int (pos 0 -ℤ n)

-- `X[I,J]` is `X[I][J]`
abbrev pub indexed : ExpTree → ExpTrees → ExpTree
indexed e no_exps = e
indexed e (exp_before i is) = indexed (index e (one_exp i)) is

-- A `[` behind what begins so is an index: it is a variable, or an atom with arguments in parentheses.
abbrev pub takes_index : List Terminal → Bool
takes_index (variable name ∷ at ∷ ts) = false
takes_index (variable name ∷ ts) = true
takes_index (atom name ∷ open_paren ∷ ts) = true
takes_index _ = false

abbrev pub is_atom : ExpTree → Bool
is_atom (atom_of name) = true
is_atom _ = false

mutual
  pub data Reads : Phrase → List Terminal → ExpTree → List Terminal → Type 0 where
    -- Exp: Branch { `;` Branch }. With an arrow it has two or more branches, and the last is none.
    branches : {ts rest : List Terminal} {es : ExpTrees} → Branches ts es rest → Reads exp ts (disjunction es) rest
    -- Branch: Conj [ `->` Conj ]
    no_arrow : {ts rest : List Terminal} {e : ExpTree} → Reads conj ts e rest → Reads branch ts e rest
    an_arrow : {ts mid rest : List Terminal} {c e : ExpTree} → Reads conj ts c (arrow ∷ mid) → Reads conj mid e rest
        → Reads branch ts (arrow_of c e) rest
    -- Conj: Unit { `,` Unit }
    conjuncts : {ts rest : List Terminal} {es : ExpTrees} → Units ts es rest → Reads conj ts (conjunction es) rest
    -- Unit: `not` Unit, `once` Unit, or Equiv
    signed_goal : {name : List ℕ} {ts rest : List Terminal} {e : ExpTree} → Reads unit ts e rest
        → Reads unit (goal_sign name ∷ ts) (call_one name e) rest
    plain_unit : {ts rest : List Terminal} {e : ExpTree} → Reads (line equivalence) ts e rest → Reads unit ts e rest
    -- Equiv, Impl, COr, CXor, CAnd, BitOr, BitXor, BitAnd, Shift, Add, Mul: operands with signs of the line between them
    joined : {l : Line} {ts mid rest : List Terminal} {a e : ExpTree} → Reads (operand l) ts a mid → Joined l a mid e rest
        → Reads (line l) ts e rest
    -- CNot: `#~` CNot, or Rel
    negative : {ts rest : List Terminal} {e : ExpTree} → Reads negation ts e rest
        → Reads negation (constraint_not ∷ ts) (call_one (codes "#~") e) rest
    positive : {ts rest : List Terminal} {e : ExpTree} → Reads relating ts e rest → Reads negation ts e rest
    -- Rel: Range [ relation Range ]
    unrelated : {ts rest : List Terminal} {e : ExpTree} → Reads range ts e rest → Reads relating ts e rest
    related : {name : List ℕ} {ts mid rest : List Terminal} {a b : ExpTree} → Reads range ts a (relation name ∷ mid)
        → Reads range mid b rest → Reads relating ts (call_two name a b) rest
    -- Range: BitOr [ `..` BitOr [ `..` BitOr ] ]
    no_range : {ts rest : List Terminal} {e : ExpTree} → Reads (line bit_or) ts e rest → Reads range ts e rest
    a_range : {ts mid rest : List Terminal} {a b : ExpTree} → Reads (line bit_or) ts a (dots ∷ mid)
        → Reads (line bit_or) mid b rest → Reads range ts (range_of a b) rest
    a_stepped_range : {ts mid end rest : List Terminal} {a b c : ExpTree} → Reads (line bit_or) ts a (dots ∷ mid)
        → Reads (line bit_or) mid b (dots ∷ end) → Reads (line bit_or) end c rest → Reads range ts (range_by a b c) rest
    -- Unary: `+`, `-` or `~` and Unary, or Pow
    with_plus : {ts rest : List Terminal} {e : ExpTree} → Reads unary ts e rest
        → Reads unary (plus ∷ ts) (call_one (codes "+") e) rest
    with_minus : {ts rest : List Terminal} {e : ExpTree} → Reads unary ts e rest
        → Reads unary (minus ∷ ts) (negated (integer_alone ts rest) e) rest
    with_complement : {ts rest : List Terminal} {e : ExpTree} → Reads unary ts e rest
        → Reads unary (complement ∷ ts) (call_one (codes "~") e) rest
    unsigned : {ts rest : List Terminal} {e : ExpTree} → Reads pow ts e rest → Reads unary ts e rest
    -- Pow: Post [ `**` Unary ]
    no_power : {ts rest : List Terminal} {e : ExpTree} → Reads post ts e rest → Reads pow ts e rest
    a_power : {ts mid rest : List Terminal} {a b : ExpTree} → Reads post ts a (power ∷ mid) → Reads unary mid b rest
        → Reads pow ts (call_two (codes "**") a b) rest
    -- Post: Prim { `[` Units `]`, or `.` atom [ `(` [Units] `)` ] }
    postfixes : {ts mid rest : List Terminal} {a e : ExpTree} → Reads prim ts a mid → Postfixes (takes_index ts) a mid e rest
        → Reads post ts e rest
    -- Prim
    a_variable : {name : List ℕ} {rest : List Terminal} → Reads prim (variable name ∷ rest) (var name) rest
    a_pattern : {name : List ℕ} {ts rest : List Terminal} {e : ExpTree} → Reads prim ts e rest
        → Reads prim (variable name ∷ at ∷ ts) (at_of name e) rest
    an_integer : {n : ℤ} {rest : List Terminal} → Reads prim (integer n ∷ rest) (int n) rest
    an_atom : {name : List ℕ} {rest : List Terminal} → Reads prim (atom name ∷ rest) (atom_of name) rest
    a_call : {name : List ℕ} {ts rest : List Terminal} {es : ExpTrees} → Arguments ts es rest
        → Reads prim (atom name ∷ ts) (call name es) rest
    a_text : {meaning : List ℕ} {rest : List Terminal} → Reads prim (text meaning ∷ rest) (str meaning) rest
    no_list : {rest : List Terminal} → Reads prim (open_bracket ∷ close_bracket ∷ rest) (list no_exps) rest
    a_list : {ts rest : List Terminal} {es : ExpTrees} → Units ts es (close_bracket ∷ rest)
        → Reads prim (open_bracket ∷ ts) (list es) rest
    a_list_onto : {ts mid rest : List Terminal} {es : ExpTrees} {e : ExpTree} → Units ts es (bar ∷ mid)
        → Reads unit mid e (close_bracket ∷ rest) → Reads prim (open_bracket ∷ ts) (list_onto es e) rest
    a_list_of : {ts mid rest : List Terminal} {es : ExpTrees} {e : ExpTree} → Reads unit ts e (colon ∷ mid)
        → Units mid es (close_bracket ∷ rest) → Reads prim (open_bracket ∷ ts) (collect false e es) rest
    no_array : {rest : List Terminal} → Reads prim (open_brace ∷ close_brace ∷ rest) (array no_exps) rest
    an_array : {ts rest : List Terminal} {es : ExpTrees} → Units ts es (close_brace ∷ rest)
        → Reads prim (open_brace ∷ ts) (array es) rest
    an_array_of : {ts mid rest : List Terminal} {es : ExpTrees} {e : ExpTree} → Reads unit ts e (colon ∷ mid)
        → Units mid es (close_brace ∷ rest) → Reads prim (open_brace ∷ ts) (collect true e es) rest
    -- parentheses give no node
    in_parens : {ts rest : List Terminal} {e : ExpTree} → Reads exp ts e (close_paren ∷ rest)
        → Reads prim (open_paren ∷ ts) e rest
    a_structure : {name : List ℕ} {ts rest : List Terminal} {es : ExpTrees} → Arguments ts es rest
        → Reads prim (dollar ∷ atom name ∷ ts) (quote (call name es)) rest
    a_term : {ts rest : List Terminal} {e : ExpTree} → Reads exp ts e (close_paren ∷ rest)
        → Reads prim (dollar ∷ open_paren ∷ ts) (quote e) rest
    an_if : {ts rest : List Terminal} {bs : ExpBranches} → Choices ts bs (word_end ∷ rest)
        → Reads prim (word_if ∷ ts) (if_then bs) rest
    an_if_else : {ts mid rest : List Terminal} {bs : ExpBranches} {e : ExpTree} → Choices ts bs (word_else ∷ mid)
        → Reads exp mid e (word_end ∷ rest) → Reads prim (word_if ∷ ts) (if_else bs e) rest
    a_foreach : {ts mid rest : List Terminal} {es : ExpTrees} {e : ExpTree} → Units ts es (close_paren ∷ mid)
        → Reads exp mid e (word_end ∷ rest) → Reads prim (word_foreach ∷ open_paren ∷ ts) (foreach es e) rest
    a_while : {ts mid rest : List Terminal} {c e : ExpTree} → Reads exp ts c (close_paren ∷ mid)
        → Reads exp mid e (word_end ∷ rest) → Reads prim (word_while ∷ open_paren ∷ ts) (while_do c e) rest
    a_do_while : {ts mid rest : List Terminal} {c e : ExpTree} → Reads exp ts e (word_while ∷ open_paren ∷ mid)
        → Reads exp mid c (close_paren ∷ rest) → Reads prim (word_do ∷ ts) (do_while e c) rest

  -- the branches of an Exp, the last of them no arrow
  pub data Branches : List Terminal → ExpTrees → List Terminal → Type 0 where
    last_branch : {ts rest : List Terminal} {e : ExpTree} → Reads conj ts e rest → Branches ts (one_exp e) rest
    more_branches : {ts mid rest : List Terminal} {e : ExpTree} {es : ExpTrees} → Reads branch ts e (semicolon ∷ mid)
        → Branches mid es rest → Branches ts (exp_before e es) rest

  -- Units: Unit { `,` Unit }
  pub data Units : List Terminal → ExpTrees → List Terminal → Type 0 where
    last_unit : {ts rest : List Terminal} {e : ExpTree} → Reads unit ts e rest → Units ts (one_exp e) rest
    more_units : {ts mid rest : List Terminal} {e : ExpTree} {es : ExpTrees} → Reads unit ts e (comma ∷ mid)
        → Units mid es rest → Units ts (exp_before e es) rest

  -- how a line goes on behind a first operand, from the left
  pub data Joined : Line → ExpTree → List Terminal → ExpTree → List Terminal → Type 0 where
    no_more : {l : Line} {a : ExpTree} {rest : List Terminal} → Joined l a rest a rest
    join : {l : Line} {a b e : ExpTree} {t : Terminal} {name : List ℕ} {ts mid rest : List Terminal} → Joins l t name
        → Reads (operand l) ts b mid → Joined l (call_two name a b) mid e rest → Joined l a (t ∷ ts) e rest

  -- How a Post goes on behind its Prim. An index stands behind another postfix, or where the first part says that the
  -- Prim takes one. `O.f(A)` is the call of f with O before A, and O is no atom.
  pub data Postfixes : Bool → ExpTree → List Terminal → ExpTree → List Terminal → Type 0 where
    no_postfix : {b : Bool} {a : ExpTree} {rest : List Terminal} → Postfixes b a rest a rest
    an_index : {a e : ExpTree} {is : ExpTrees} {ts mid rest : List Terminal} → Units ts is (close_bracket ∷ mid)
        → Postfixes true (indexed a is) mid e rest → Postfixes true a (open_bracket ∷ ts) e rest
    a_dot : {b : Bool} {a e : ExpTree} {name : List ℕ} {ts rest : List Terminal} → is_atom a ≡ false
        → Postfixes true (call_one name a) ts e rest → Postfixes b a (dot ∷ atom name ∷ ts) e rest
    a_dot_call : {b : Bool} {a e : ExpTree} {name : List ℕ} {es : ExpTrees} {ts mid rest : List Terminal} → is_atom a ≡ false
        → Arguments ts es mid → Postfixes true (call name (exp_before a es)) mid e rest
        → Postfixes b a (dot ∷ atom name ∷ ts) e rest

  -- `(` [Units] `)`
  pub data Arguments : List Terminal → ExpTrees → List Terminal → Type 0 where
    no_arguments : {rest : List Terminal} → Arguments (open_paren ∷ close_paren ∷ rest) no_exps rest
    arguments : {ts rest : List Terminal} {es : ExpTrees} → Units ts es (close_paren ∷ rest)
        → Arguments (open_paren ∷ ts) es rest

  -- Exp `then` Exp { `elseif` Exp `then` Exp }
  pub data Choices : List Terminal → ExpBranches → List Terminal → Type 0 where
    last_choice : {ts mid rest : List Terminal} {c e : ExpTree} → Reads exp ts c (word_then ∷ mid) → Reads exp mid e rest
        → Choices ts (branch_before c e no_branches) rest
    more_choices : {ts mid more rest : List Terminal} {c e : ExpTree} {bs : ExpBranches} → Reads exp ts c (word_then ∷ mid)
        → Reads exp mid e (word_elseif ∷ more) → Choices more bs rest → Choices ts (branch_before c e bs) rest

-- The tokens are an expression with this tree.
abbrev pub HasExp : List Token → ExpTree → Type 0
HasExp tokens e = Reads exp (map terminal tokens) e []

-- Tokens have at most one expression.
abbrev pub HasOneExp : Type 0
HasOneExp = (tokens : List Token) → (e f : ExpTree) → HasExp tokens e → HasExp tokens f → e ≡ f
