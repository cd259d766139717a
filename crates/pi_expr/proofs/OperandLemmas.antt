-- An integer that stands alone, and conjunctions and disjunctions with one more.
use Rattle.std.proofs.Common.{◌≡◌, List, ◌∷◌, None, refl}
use Rattle.pi_syntax.specs.ExpTree.{ExpTree, ExpTrees, no_exps, exp as exp_before, and, or}
use Rattle.pi_syntax.specs.Grammar as g
use Rattle.pi_syntax.specs.Terminals as t
use Rattle.pi_expr_phrases.specs.Machine as m
use Rattle.pi_expr_phrases.specs.Shown.{terminal_shown}
use Rattle.pi_expr_phrases.specs.declared.terminal.Mark.TheVariants as mark
use Rattle.pi_expr_phrases.specs.declared.terminal.Terminal.{Terminal}
use Rattle.pi_expr_phrases.specs.declared.terminal.Terminal.TheVariants as terminal

alone_no-of : (rest : List t.Terminal) (first : Terminal) (ts : List t.Terminal) → ((x : _) → first ≡ terminal.Integer x → ⊥) → g.integer_alone (terminal_shown first ∷ ts) rest ≡ None
alone_no-of rest (terminal.Variable name) ts h = refl
alone_no-of rest (terminal.Atom name) ts h = refl
alone_no-of rest (terminal.Integer n) ts h = absurd (h _ refl)
alone_no-of rest (terminal.Text text) ts h = refl
alone_no-of rest (terminal.Joint l name) ts h = refl
alone_no-of rest (terminal.Relation name) ts h = refl
alone_no-of rest (terminal.GoalSign name) ts h = refl
alone_no-of rest (terminal.Mark mark.Plus) ts h = refl
alone_no-of rest (terminal.Mark mark.Minus) ts h = refl
alone_no-of rest (terminal.Mark mark.Dots) ts h = refl
alone_no-of rest (terminal.Mark mark.Power) ts h = refl
alone_no-of rest (terminal.Mark mark.Complement) ts h = refl
alone_no-of rest (terminal.Mark mark.ConstraintNot) ts h = refl
alone_no-of rest (terminal.Mark mark.OpenParen) ts h = refl
alone_no-of rest (terminal.Mark mark.CloseParen) ts h = refl
alone_no-of rest (terminal.Mark mark.OpenBracket) ts h = refl
alone_no-of rest (terminal.Mark mark.CloseBracket) ts h = refl
alone_no-of rest (terminal.Mark mark.OpenBrace) ts h = refl
alone_no-of rest (terminal.Mark mark.CloseBrace) ts h = refl
alone_no-of rest (terminal.Mark mark.Comma) ts h = refl
alone_no-of rest (terminal.Mark mark.Semicolon) ts h = refl
alone_no-of rest (terminal.Mark mark.Arrow) ts h = refl
alone_no-of rest (terminal.Mark mark.Bar) ts h = refl
alone_no-of rest (terminal.Mark mark.Colon) ts h = refl
alone_no-of rest (terminal.Mark mark.Dot) ts h = refl
alone_no-of rest (terminal.Mark mark.Dollar) ts h = refl
alone_no-of rest (terminal.Mark mark.At) ts h = refl
alone_no-of rest (terminal.Mark mark.If) ts h = refl
alone_no-of rest (terminal.Mark mark.Then) ts h = refl
alone_no-of rest (terminal.Mark mark.ElseIf) ts h = refl
alone_no-of rest (terminal.Mark mark.Else) ts h = refl
alone_no-of rest (terminal.Mark mark.End) ts h = refl
alone_no-of rest (terminal.Mark mark.Foreach) ts h = refl
alone_no-of rest (terminal.Mark mark.While) ts h = refl
alone_no-of rest (terminal.Mark mark.Do) ts h = refl
alone_no-of rest (terminal.Mark mark.Foreign) ts h = refl

pub alone_no : (rest all : List t.Terminal) (first : Terminal) (ts : List t.Terminal) → all ≡ terminal_shown first ∷ ts
    → ((x : _) → first ≡ terminal.Integer x → ⊥) → g.integer_alone all rest ≡ None
alone_no rest all first ts p h = rw p (alone_no-of rest first ts h)

pub conjunction_with : (a : ExpTree) (es : ExpTrees) (e : ExpTree)
    → g.conjunction (m.with_exp (exp_before a es) e) ≡ and (m.with_exp (exp_before a es) e)
conjunction_with a no_exps e = refl
conjunction_with a (exp_before b es) e = refl

pub disjunction_with : (a : ExpTree) (es : ExpTrees) (e : ExpTree)
    → g.disjunction (m.with_exp (exp_before a es) e) ≡ or (m.with_exp (exp_before a es) e)
disjunction_with a no_exps e = refl
disjunction_with a (exp_before b es) e = refl
