-- A program's text is asked goals or a line says why not, and so is a goal's text, each in one way.
use Rattle.std.proofs.Common.{◌≡◌, ℕ, List, sym, ap, ◌∙◌, true≢false}
use Rattle.pi_syntax.specs.ExpTree.{ExpTree}
use Rattle.pi_syntax.specs.ProgramTree.{ProgramTree}
use Rattle.pi_rewrite_sound.specs.Built.{unbuilt_part, is_built_goal}
use Rattle.pi_top.specs.Asking.{IsReady, IsUnready, AsksOf, RefusesOf}
use Rattle.pi_top.specs.FaultLines.{not_built_line, of_program, of_goal}
use Rattle.pi_top.proofs.Judging.{AreOne, none-some, some-in, one-program, program-no-line, one-program-line, one-goal, goal-no-line, one-goal-line}

-- ---- programs

pub one-ready : (o : AreOne) (text : List ℕ) (p q : ProgramTree) → IsReady text p → IsReady text q → p ≡ q
one-ready o text p q a b = one-program o text p q a.is_program b.is_program

pub ready-or-not : (o : AreOne) (text line : List ℕ) (p : ProgramTree) → IsReady text p → IsUnready text line → ⊥
ready-or-not o text line p a (IsUnready.faulty fault has is) = program-no-line o text fault p a.is_program has
ready-or-not o text line p a (IsUnready.not_built q number is_program part is) =
    let same : q ≡ p = one-program o text q p is_program a.is_program in
    none-some number (sym a.built ∙ ap unbuilt_part (sym same) ∙ part)

pub one-unready : (o : AreOne) (text line other : List ℕ) → IsUnready text line → IsUnready text other → line ≡ other
one-unready o text line other (IsUnready.faulty x has is) (IsUnready.faulty y has' is') = is ∙ ap of_program (one-program-line o text x y has has') ∙ sym is'
one-unready o text line other (IsUnready.faulty x has is) (IsUnready.not_built q number is_program part is') = absurd (program-no-line o text x q is_program has)
one-unready o text line other (IsUnready.not_built p number is_program part is) (IsUnready.faulty y has is') = absurd (program-no-line o text y p is_program has)
one-unready o text line other (IsUnready.not_built p n is_program part is) (IsUnready.not_built q m is_program' part' is') =
    let same : p ≡ q = one-program o text p q is_program is_program' in
    let number : n ≡ m = some-in n m (sym part ∙ ap unbuilt_part same ∙ part') in
    is ∙ ap (λ (k : ℕ). of_program (not_built_line k)) number ∙ sym is'

-- ---- goals

pub one-asks : (o : AreOne) (p : ProgramTree) (text : List ℕ) (e f : ExpTree) → AsksOf p text e → AsksOf p text f → e ≡ f
one-asks o p text e f a b = one-goal o text p e f a.is_goal b.is_goal

pub asks-or-not : (o : AreOne) (p : ProgramTree) (text line : List ℕ) (e : ExpTree) → AsksOf p text e → RefusesOf p text line → ⊥
asks-or-not o p text line e a (RefusesOf.faulty fault has is) = goal-no-line o text fault p e a.is_goal has
asks-or-not o p text line e a (RefusesOf.not_built f is_goal not_built is) =
    let same : f ≡ e = one-goal o text p f e is_goal a.is_goal in
    absurd (true≢false (sym a.built ∙ ap is_built_goal (sym same) ∙ not_built))

pub one-refuses : (o : AreOne) (p : ProgramTree) (text line other : List ℕ) → RefusesOf p text line → RefusesOf p text other → line ≡ other
one-refuses o p text line other (RefusesOf.faulty x has is) (RefusesOf.faulty y has' is') = is ∙ ap of_goal (one-goal-line o text x y p has has') ∙ sym is'
one-refuses o p text line other (RefusesOf.faulty x has is) (RefusesOf.not_built f is_goal not_built is') = absurd (goal-no-line o text x p f is_goal has)
one-refuses o p text line other (RefusesOf.not_built e is_goal not_built is) (RefusesOf.faulty y has is') = absurd (goal-no-line o text y p e is_goal has)
one-refuses o p text line other (RefusesOf.not_built e is_goal not_built is) (RefusesOf.not_built f is_goal' not_built' is') = is ∙ sym is'
