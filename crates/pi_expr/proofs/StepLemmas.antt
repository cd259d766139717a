-- Steps that the machine doesn't take.
use Rattle.std.proofs.Common.{◌≡◌, Bool, true, List, ◌∷◌, refl}
use Rattle.pi_syntax.specs.ExpTree.{ExpTree}
use Rattle.pi_syntax.specs.Grammar as g
use Rattle.pi_syntax.specs.Terminals as t
use Rattle.pi_expr_phrases.specs.Machine as m
use Rattle.pi_expr_phrases.specs.Shown.{mark_shown, terminal_shown}
use Rattle.pi_expr_phrases.specs.declared.terminal.Mark.{Mark}
use Rattle.pi_expr_phrases.specs.declared.terminal.Mark.TheVariants as mark
use Rattle.pi_expr_phrases.specs.declared.terminal.Terminal.{Terminal}
use Rattle.pi_expr_phrases.specs.declared.terminal.Terminal.TheVariants as terminal

pub enters_no : (fs : List m.Frame) (k : Mark) (ts : List t.Terminal) → (k ≡ mark.ConstraintNot → ⊥) → (k ≡ mark.Plus → ⊥) → (k ≡ mark.Complement → ⊥) → (k ≡ mark.Minus → ⊥) → (k ≡ mark.OpenParen → ⊥) → (k ≡ mark.OpenBracket → ⊥) → (k ≡ mark.OpenBrace → ⊥) → (k ≡ mark.Dollar → ⊥) → (k ≡ mark.If → ⊥) → (k ≡ mark.Foreach → ⊥) → (k ≡ mark.While → ⊥) → (k ≡ mark.Do → ⊥)
    → m.enter fs (mark_shown k ∷ ts) ≡ m.fail
enters_no fs mark.Plus ts h0 h1 h2 h3 h4 h5 h6 h7 h8 h9 h10 h11 = absurd (h1 refl)
enters_no fs mark.Minus ts h0 h1 h2 h3 h4 h5 h6 h7 h8 h9 h10 h11 = absurd (h3 refl)
enters_no fs mark.Dots ts h0 h1 h2 h3 h4 h5 h6 h7 h8 h9 h10 h11 = refl
enters_no fs mark.Power ts h0 h1 h2 h3 h4 h5 h6 h7 h8 h9 h10 h11 = refl
enters_no fs mark.Complement ts h0 h1 h2 h3 h4 h5 h6 h7 h8 h9 h10 h11 = absurd (h2 refl)
enters_no fs mark.ConstraintNot ts h0 h1 h2 h3 h4 h5 h6 h7 h8 h9 h10 h11 = absurd (h0 refl)
enters_no fs mark.OpenParen ts h0 h1 h2 h3 h4 h5 h6 h7 h8 h9 h10 h11 = absurd (h4 refl)
enters_no fs mark.CloseParen ts h0 h1 h2 h3 h4 h5 h6 h7 h8 h9 h10 h11 = refl
enters_no fs mark.OpenBracket ts h0 h1 h2 h3 h4 h5 h6 h7 h8 h9 h10 h11 = absurd (h5 refl)
enters_no fs mark.CloseBracket ts h0 h1 h2 h3 h4 h5 h6 h7 h8 h9 h10 h11 = refl
enters_no fs mark.OpenBrace ts h0 h1 h2 h3 h4 h5 h6 h7 h8 h9 h10 h11 = absurd (h6 refl)
enters_no fs mark.CloseBrace ts h0 h1 h2 h3 h4 h5 h6 h7 h8 h9 h10 h11 = refl
enters_no fs mark.Comma ts h0 h1 h2 h3 h4 h5 h6 h7 h8 h9 h10 h11 = refl
enters_no fs mark.Semicolon ts h0 h1 h2 h3 h4 h5 h6 h7 h8 h9 h10 h11 = refl
enters_no fs mark.Arrow ts h0 h1 h2 h3 h4 h5 h6 h7 h8 h9 h10 h11 = refl
enters_no fs mark.Bar ts h0 h1 h2 h3 h4 h5 h6 h7 h8 h9 h10 h11 = refl
enters_no fs mark.Colon ts h0 h1 h2 h3 h4 h5 h6 h7 h8 h9 h10 h11 = refl
enters_no fs mark.Dot ts h0 h1 h2 h3 h4 h5 h6 h7 h8 h9 h10 h11 = refl
enters_no fs mark.Dollar ts h0 h1 h2 h3 h4 h5 h6 h7 h8 h9 h10 h11 = absurd (h7 refl)
enters_no fs mark.At ts h0 h1 h2 h3 h4 h5 h6 h7 h8 h9 h10 h11 = refl
enters_no fs mark.If ts h0 h1 h2 h3 h4 h5 h6 h7 h8 h9 h10 h11 = absurd (h8 refl)
enters_no fs mark.Then ts h0 h1 h2 h3 h4 h5 h6 h7 h8 h9 h10 h11 = refl
enters_no fs mark.ElseIf ts h0 h1 h2 h3 h4 h5 h6 h7 h8 h9 h10 h11 = refl
enters_no fs mark.Else ts h0 h1 h2 h3 h4 h5 h6 h7 h8 h9 h10 h11 = refl
enters_no fs mark.End ts h0 h1 h2 h3 h4 h5 h6 h7 h8 h9 h10 h11 = refl
enters_no fs mark.Foreach ts h0 h1 h2 h3 h4 h5 h6 h7 h8 h9 h10 h11 = absurd (h9 refl)
enters_no fs mark.While ts h0 h1 h2 h3 h4 h5 h6 h7 h8 h9 h10 h11 = absurd (h10 refl)
enters_no fs mark.Do ts h0 h1 h2 h3 h4 h5 h6 h7 h8 h9 h10 h11 = absurd (h11 refl)
enters_no fs mark.Foreign ts h0 h1 h2 h3 h4 h5 h6 h7 h8 h9 h10 h11 = refl

pub continues_no : (fs : List m.Frame) (p : g.Phrase) (b : Bool) (e : ExpTree) (k : Mark) (ts : List t.Terminal) → (k ≡ mark.Plus → ⊥) → (k ≡ mark.Minus → ⊥) → (k ≡ mark.Dots → ⊥) → (k ≡ mark.Power → ⊥) → (k ≡ mark.Comma → ⊥) → (k ≡ mark.Semicolon → ⊥) → (k ≡ mark.Arrow → ⊥) → (k ≡ mark.OpenBracket → ⊥) → (k ≡ mark.Dot → ⊥)
    → m.continue fs p b e (mark_shown k ∷ ts) ≡ m.fail
continues_no fs p b e mark.Plus ts h0 h1 h2 h3 h4 h5 h6 h7 h8 = absurd (h0 refl)
continues_no fs p b e mark.Minus ts h0 h1 h2 h3 h4 h5 h6 h7 h8 = absurd (h1 refl)
continues_no fs p b e mark.Dots ts h0 h1 h2 h3 h4 h5 h6 h7 h8 = absurd (h2 refl)
continues_no fs p b e mark.Power ts h0 h1 h2 h3 h4 h5 h6 h7 h8 = absurd (h3 refl)
continues_no fs p b e mark.Complement ts h0 h1 h2 h3 h4 h5 h6 h7 h8 = refl
continues_no fs p b e mark.ConstraintNot ts h0 h1 h2 h3 h4 h5 h6 h7 h8 = refl
continues_no fs p b e mark.OpenParen ts h0 h1 h2 h3 h4 h5 h6 h7 h8 = refl
continues_no fs p b e mark.CloseParen ts h0 h1 h2 h3 h4 h5 h6 h7 h8 = refl
continues_no fs p b e mark.OpenBracket ts h0 h1 h2 h3 h4 h5 h6 h7 h8 = absurd (h7 refl)
continues_no fs p b e mark.CloseBracket ts h0 h1 h2 h3 h4 h5 h6 h7 h8 = refl
continues_no fs p b e mark.OpenBrace ts h0 h1 h2 h3 h4 h5 h6 h7 h8 = refl
continues_no fs p b e mark.CloseBrace ts h0 h1 h2 h3 h4 h5 h6 h7 h8 = refl
continues_no fs p b e mark.Comma ts h0 h1 h2 h3 h4 h5 h6 h7 h8 = absurd (h4 refl)
continues_no fs p b e mark.Semicolon ts h0 h1 h2 h3 h4 h5 h6 h7 h8 = absurd (h5 refl)
continues_no fs p b e mark.Arrow ts h0 h1 h2 h3 h4 h5 h6 h7 h8 = absurd (h6 refl)
continues_no fs p b e mark.Bar ts h0 h1 h2 h3 h4 h5 h6 h7 h8 = refl
continues_no fs p b e mark.Colon ts h0 h1 h2 h3 h4 h5 h6 h7 h8 = refl
continues_no fs p b e mark.Dot ts h0 h1 h2 h3 h4 h5 h6 h7 h8 = absurd (h8 refl)
continues_no fs p b e mark.Dollar ts h0 h1 h2 h3 h4 h5 h6 h7 h8 = refl
continues_no fs p b e mark.At ts h0 h1 h2 h3 h4 h5 h6 h7 h8 = refl
continues_no fs p b e mark.If ts h0 h1 h2 h3 h4 h5 h6 h7 h8 = refl
continues_no fs p b e mark.Then ts h0 h1 h2 h3 h4 h5 h6 h7 h8 = refl
continues_no fs p b e mark.ElseIf ts h0 h1 h2 h3 h4 h5 h6 h7 h8 = refl
continues_no fs p b e mark.Else ts h0 h1 h2 h3 h4 h5 h6 h7 h8 = refl
continues_no fs p b e mark.End ts h0 h1 h2 h3 h4 h5 h6 h7 h8 = refl
continues_no fs p b e mark.Foreach ts h0 h1 h2 h3 h4 h5 h6 h7 h8 = refl
continues_no fs p b e mark.While ts h0 h1 h2 h3 h4 h5 h6 h7 h8 = refl
continues_no fs p b e mark.Do ts h0 h1 h2 h3 h4 h5 h6 h7 h8 = refl
continues_no fs p b e mark.Foreign ts h0 h1 h2 h3 h4 h5 h6 h7 h8 = refl

terms_no-of : (fs : List m.Frame) (first : Terminal) (ts : List t.Terminal) → ((x : _) → first ≡ terminal.Atom x → ⊥) → m.enter_term fs (terminal_shown first ∷ ts) ≡ m.choose t.open_paren (terminal_shown first ∷ ts) (m.opened (m.parens true) fs) m.fail
terms_no-of fs (terminal.Variable name) ts h = refl
terms_no-of fs (terminal.Atom name) ts h = absurd (h _ refl)
terms_no-of fs (terminal.Integer n) ts h = refl
terms_no-of fs (terminal.Text text) ts h = refl
terms_no-of fs (terminal.Joint l name) ts h = refl
terms_no-of fs (terminal.Relation name) ts h = refl
terms_no-of fs (terminal.GoalSign name) ts h = refl
terms_no-of fs (terminal.Mark mark.Plus) ts h = refl
terms_no-of fs (terminal.Mark mark.Minus) ts h = refl
terms_no-of fs (terminal.Mark mark.Dots) ts h = refl
terms_no-of fs (terminal.Mark mark.Power) ts h = refl
terms_no-of fs (terminal.Mark mark.Complement) ts h = refl
terms_no-of fs (terminal.Mark mark.ConstraintNot) ts h = refl
terms_no-of fs (terminal.Mark mark.OpenParen) ts h = refl
terms_no-of fs (terminal.Mark mark.CloseParen) ts h = refl
terms_no-of fs (terminal.Mark mark.OpenBracket) ts h = refl
terms_no-of fs (terminal.Mark mark.CloseBracket) ts h = refl
terms_no-of fs (terminal.Mark mark.OpenBrace) ts h = refl
terms_no-of fs (terminal.Mark mark.CloseBrace) ts h = refl
terms_no-of fs (terminal.Mark mark.Comma) ts h = refl
terms_no-of fs (terminal.Mark mark.Semicolon) ts h = refl
terms_no-of fs (terminal.Mark mark.Arrow) ts h = refl
terms_no-of fs (terminal.Mark mark.Bar) ts h = refl
terms_no-of fs (terminal.Mark mark.Colon) ts h = refl
terms_no-of fs (terminal.Mark mark.Dot) ts h = refl
terms_no-of fs (terminal.Mark mark.Dollar) ts h = refl
terms_no-of fs (terminal.Mark mark.At) ts h = refl
terms_no-of fs (terminal.Mark mark.If) ts h = refl
terms_no-of fs (terminal.Mark mark.Then) ts h = refl
terms_no-of fs (terminal.Mark mark.ElseIf) ts h = refl
terms_no-of fs (terminal.Mark mark.Else) ts h = refl
terms_no-of fs (terminal.Mark mark.End) ts h = refl
terms_no-of fs (terminal.Mark mark.Foreach) ts h = refl
terms_no-of fs (terminal.Mark mark.While) ts h = refl
terms_no-of fs (terminal.Mark mark.Do) ts h = refl
terms_no-of fs (terminal.Mark mark.Foreign) ts h = refl

pub terms_no : (fs : List m.Frame) (all : List t.Terminal) (first : Terminal) (ts : List t.Terminal) → all ≡ terminal_shown first ∷ ts
    → ((x : _) → first ≡ terminal.Atom x → ⊥) → m.enter_term fs all ≡ m.choose t.open_paren all (m.opened (m.parens true) fs) m.fail
terms_no fs all first ts p h = rw p (terms_no-of fs first ts h)

dots_no-of : (fs : List m.Frame) (e : ExpTree) (first : Terminal) (ts : List t.Terminal) → ((x : _) → first ≡ terminal.Atom x → ⊥) → m.enter_dot fs e (terminal_shown first ∷ ts) ≡ m.fail
dots_no-of fs e (terminal.Variable name) ts h = refl
dots_no-of fs e (terminal.Atom name) ts h = absurd (h _ refl)
dots_no-of fs e (terminal.Integer n) ts h = refl
dots_no-of fs e (terminal.Text text) ts h = refl
dots_no-of fs e (terminal.Joint l name) ts h = refl
dots_no-of fs e (terminal.Relation name) ts h = refl
dots_no-of fs e (terminal.GoalSign name) ts h = refl
dots_no-of fs e (terminal.Mark mark.Plus) ts h = refl
dots_no-of fs e (terminal.Mark mark.Minus) ts h = refl
dots_no-of fs e (terminal.Mark mark.Dots) ts h = refl
dots_no-of fs e (terminal.Mark mark.Power) ts h = refl
dots_no-of fs e (terminal.Mark mark.Complement) ts h = refl
dots_no-of fs e (terminal.Mark mark.ConstraintNot) ts h = refl
dots_no-of fs e (terminal.Mark mark.OpenParen) ts h = refl
dots_no-of fs e (terminal.Mark mark.CloseParen) ts h = refl
dots_no-of fs e (terminal.Mark mark.OpenBracket) ts h = refl
dots_no-of fs e (terminal.Mark mark.CloseBracket) ts h = refl
dots_no-of fs e (terminal.Mark mark.OpenBrace) ts h = refl
dots_no-of fs e (terminal.Mark mark.CloseBrace) ts h = refl
dots_no-of fs e (terminal.Mark mark.Comma) ts h = refl
dots_no-of fs e (terminal.Mark mark.Semicolon) ts h = refl
dots_no-of fs e (terminal.Mark mark.Arrow) ts h = refl
dots_no-of fs e (terminal.Mark mark.Bar) ts h = refl
dots_no-of fs e (terminal.Mark mark.Colon) ts h = refl
dots_no-of fs e (terminal.Mark mark.Dot) ts h = refl
dots_no-of fs e (terminal.Mark mark.Dollar) ts h = refl
dots_no-of fs e (terminal.Mark mark.At) ts h = refl
dots_no-of fs e (terminal.Mark mark.If) ts h = refl
dots_no-of fs e (terminal.Mark mark.Then) ts h = refl
dots_no-of fs e (terminal.Mark mark.ElseIf) ts h = refl
dots_no-of fs e (terminal.Mark mark.Else) ts h = refl
dots_no-of fs e (terminal.Mark mark.End) ts h = refl
dots_no-of fs e (terminal.Mark mark.Foreach) ts h = refl
dots_no-of fs e (terminal.Mark mark.While) ts h = refl
dots_no-of fs e (terminal.Mark mark.Do) ts h = refl
dots_no-of fs e (terminal.Mark mark.Foreign) ts h = refl

pub dots_no : (fs : List m.Frame) (e : ExpTree) (all : List t.Terminal) (first : Terminal) (ts : List t.Terminal) → all ≡ terminal_shown first ∷ ts
    → ((x : _) → first ≡ terminal.Atom x → ⊥) → m.enter_dot fs e all ≡ m.fail
dots_no fs e all first ts p h = rw p (dots_no-of fs e first ts h)
