-- What the reader's terminals and phrases show.
use Rattle.std.specs.Prelude.{◌≡◌, List, [], ◌∷◌, map}
use Rattle.pi_lex.specs.Kinds.{kinds}
use Rattle.pi_syntax.specs.Terminals as t
use Rattle.pi_syntax.specs.Grammar as g
use Rattle.pi_expr_phrases.specs.declared.phrase.Line.{Line}
use Rattle.pi_expr_phrases.specs.declared.phrase.Line.TheVariants as line
use Rattle.pi_expr_phrases.specs.declared.phrase.Phrase.{Phrase}
use Rattle.pi_expr_phrases.specs.declared.phrase.Phrase.TheVariants as phrase
use Rattle.pi_expr_phrases.specs.declared.terminal.Mark.{Mark}
use Rattle.pi_expr_phrases.specs.declared.terminal.Mark.TheVariants as mark
use Rattle.pi_expr_phrases.specs.declared.terminal.Terminal.{Terminal}
use Rattle.pi_expr_phrases.specs.declared.terminal.Terminal.TheVariants as terminal
use Rattle.pi_expr_phrases.specs.declared.terminals.Ahead.{Ahead}
use Rattle.pi_expr_phrases.specs.declared.terminals.Ahead.TheVariants as ahead
use Rattle.pi_expr_phrases.specs.declared.terminals.Terminals.{Terminals}
use Rattle.pi_expr_phrases.specs.Stretch.{stretch}

abbrev pub line_shown : Line → t.Line
line_shown line.Equivalence = t.equivalence
line_shown line.Implication = t.implication
line_shown line.ConstraintOr = t.constraint_or
line_shown line.ConstraintXor = t.constraint_xor
line_shown line.ConstraintAnd = t.constraint_and
line_shown line.BitOr = t.bit_or
line_shown line.BitXor = t.bit_xor
line_shown line.BitAnd = t.bit_and
line_shown line.Shift = t.shift
line_shown line.Sum = t.sum
line_shown line.Product = t.product

abbrev pub phrase_shown : Phrase → g.Phrase
phrase_shown phrase.Exp = g.exp
phrase_shown phrase.Branch = g.branch
phrase_shown phrase.Conj = g.conj
phrase_shown phrase.Unit = g.unit
phrase_shown (phrase.Line l) = g.line (line_shown l)
phrase_shown phrase.Negation = g.negation
phrase_shown phrase.Relating = g.relating
phrase_shown phrase.Range = g.range
phrase_shown phrase.Unary = g.unary
phrase_shown phrase.Pow = g.pow
phrase_shown phrase.Post = g.post
phrase_shown phrase.Prim = g.prim

abbrev pub mark_shown : Mark → t.Terminal
mark_shown mark.Plus = t.plus
mark_shown mark.Minus = t.minus
mark_shown mark.Dots = t.dots
mark_shown mark.Power = t.power
mark_shown mark.Complement = t.complement
mark_shown mark.ConstraintNot = t.constraint_not
mark_shown mark.OpenParen = t.open_paren
mark_shown mark.CloseParen = t.close_paren
mark_shown mark.OpenBracket = t.open_bracket
mark_shown mark.CloseBracket = t.close_bracket
mark_shown mark.OpenBrace = t.open_brace
mark_shown mark.CloseBrace = t.close_brace
mark_shown mark.Comma = t.comma
mark_shown mark.Semicolon = t.semicolon
mark_shown mark.Arrow = t.arrow
mark_shown mark.Bar = t.bar
mark_shown mark.Colon = t.colon
mark_shown mark.Dot = t.dot
mark_shown mark.Dollar = t.dollar
mark_shown mark.At = t.at
mark_shown mark.If = t.word_if
mark_shown mark.Then = t.word_then
mark_shown mark.ElseIf = t.word_elseif
mark_shown mark.Else = t.word_else
mark_shown mark.End = t.word_end
mark_shown mark.Foreach = t.word_foreach
mark_shown mark.While = t.word_while
mark_shown mark.Do = t.word_do
mark_shown mark.Foreign = t.foreign

abbrev pub terminal_shown : Terminal → t.Terminal
terminal_shown (terminal.Variable name) = t.variable name.now
terminal_shown (terminal.Atom name) = t.atom name.now
terminal_shown (terminal.Integer n) = t.integer n.value
terminal_shown (terminal.Text text) = t.text text.now
terminal_shown (terminal.Joint l name) = t.joint (line_shown l) name.now
terminal_shown (terminal.Relation name) = t.relation name.now
terminal_shown (terminal.GoalSign name) = t.goal_sign name.now
terminal_shown (terminal.Mark m) = mark_shown m

-- the terminals of the stretch of tokens that is left
unfoldable pub terminals : Terminals → List t.Terminal
terminals ts = map t.terminal (stretch (kinds ts.tokens.now) ts.from ts.to)

-- the first terminal and the rest, or none
abbrev pub ShowsAhead : Ahead → List t.Terminal → Type 0
ShowsAhead (ahead.Next first rest) ts = ts ≡ terminal_shown first ∷ terminals rest
ShowsAhead ahead.End ts = ts ≡ []
