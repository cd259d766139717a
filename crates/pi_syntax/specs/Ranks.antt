-- Ranks of the lines of the grammar, the loosest first: what goes on with a phrase, and what begins one. They serve
-- readers and proofs; the grammar says nothing of them.
use Rattle.std.specs.Prelude.{ℕ, List, [], ◌∷◌}
use Rattle.pi_syntax.specs.Terminals.{Line, equivalence, implication, constraint_or, constraint_xor, constraint_and, bit_or, bit_xor, bit_and, shift, sum, product, Terminal, variable, atom, integer, text, joint, plus, minus, relation, dots, power, complement, constraint_not, goal_sign, open_paren, open_bracket, open_brace, comma, semicolon, arrow, dot, dollar, at, word_if, word_foreach, word_while, word_do}
use Rattle.pi_syntax.specs.Grammar.{Phrase, exp, branch, conj, unit, line, negation, relating, range, unary, pow, post, prim}

abbrev pub line_rank : Line → ℕ
line_rank equivalence = 5
line_rank implication = 6
line_rank constraint_or = 7
line_rank constraint_xor = 8
line_rank constraint_and = 9
line_rank bit_or = 13
line_rank bit_xor = 14
line_rank bit_and = 15
line_rank shift = 16
line_rank sum = 17
line_rank product = 18

abbrev pub rank : Phrase → ℕ
rank exp = 1
rank branch = 2
rank conj = 3
rank unit = 4
rank (line l) = line_rank l
rank negation = 10
rank relating = 11
rank range = 12
rank unary = 19
rank pow = 20
rank post = 21
rank prim = 22

-- the highest rank of the phrases that a terminal goes on with, or 0
abbrev pub reach : Terminal → ℕ
reach (joint l name) = line_rank l
reach plus = 17
reach minus = 17
reach (relation name) = 11
reach dots = 12
reach power = 20
reach open_paren = 22
reach open_bracket = 21
reach comma = 3
reach semicolon = 1
reach arrow = 2
reach dot = 21
reach at = 22
reach _ = 0

abbrev pub reach_of : List Terminal → ℕ
reach_of [] = 0
reach_of (t ∷ ts) = reach t

-- the highest rank of the phrases that a terminal begins, or 0
abbrev pub start : Terminal → ℕ
start (goal_sign name) = 4
start constraint_not = 10
start plus = 19
start minus = 19
start complement = 19
start (variable name) = 22
start (atom name) = 22
start (integer n) = 22
start (text meaning) = 22
start open_paren = 22
start open_bracket = 22
start open_brace = 22
start dollar = 22
start word_if = 22
start word_foreach = 22
start word_while = 22
start word_do = 22
start _ = 0

abbrev pub start_of : List Terminal → ℕ
start_of [] = 0
start_of (t ∷ ts) = start t
