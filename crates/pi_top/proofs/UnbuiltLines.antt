-- The line on what isn't built.
use Rattle.std.proofs.Common.{◌≡◌, ℕ, Bool, true, false, if◌then◌else◌, List, Option, None, Some, sym, ap, ◌∙◌, refl}
use Rattle.pi_syntax.specs.ExpTree.{ExpTree}
use Rattle.pi_syntax.specs.ProgramTree.{ProgramTree}
use Rattle.pi_rewrite_sound.specs.Built.{unbuilt_part, unbuilt_goal, is_built_goal}
use Rattle.pi_top.specs.FaultLines.{not_built_line, of_program, of_goal}
use Rattle.pi_top.specs.Judged.{unbuilt_line_of, unbuilt_line}

pub unbuilt_line-part : (p : ProgramTree) (e : ExpTree) (number : ℕ) (line whole : List ℕ) → Some number ≡ unbuilt_part p → line ≡ not_built_line number → whole ≡ of_program line →
    unbuilt_line p e ≡ Some whole
unbuilt_line-part p e number line whole is its of =
    ap (λ (o : Option ℕ). unbuilt_line_of o (is_built_goal e)) (sym is) ∙ ap (λ (l : List ℕ). Some l) (sym (of ∙ ap of_program its))

goal-line : (b : Bool) (number : ℕ) → Some number ≡ (if b then None else Some 1) → unbuilt_line_of None b ≡ Some (of_goal (not_built_line number))
goal-line true number is = absurd (cc)
goal-line false number is = let one : number ≡ 1 = cc in ap (λ n. Some (of_goal (not_built_line n))) (sym one)

pub unbuilt_line-goal : (p : ProgramTree) (e : ExpTree) (number : ℕ) (line whole : List ℕ) → None ≡ unbuilt_part p → Some number ≡ unbuilt_goal e → line ≡ not_built_line number → whole ≡ of_goal line →
    unbuilt_line p e ≡ Some whole
unbuilt_line-goal p e number line whole none is its of =
    ap (λ (o : Option ℕ). unbuilt_line_of o (is_built_goal e)) (sym none) ∙ goal-line (is_built_goal e) number is ∙ ap (λ (l : List ℕ). Some l) (sym (of ∙ ap of_goal its))

no-line : (b : Bool) → ◌≡◌ {A = Option ℕ} None (if b then None else Some 1) → unbuilt_line_of None b ≡ None
no-line true is = refl
no-line false is = absurd (cc)

pub unbuilt_line-none : (p : ProgramTree) (e : ExpTree) → None ≡ unbuilt_part p → None ≡ unbuilt_goal e → unbuilt_line p e ≡ None
unbuilt_line-none p e none is =
    ap (λ (o : Option ℕ). unbuilt_line_of o (is_built_goal e)) (sym none) ∙ no-line (is_built_goal e) is

-- where there is no such line, all is built
of-none : (o : Option ℕ) (b : Bool) → unbuilt_line_of o b ≡ None → (o ≡ None) × (b ≡ true)
of-none None true e = (refl, refl)
of-none None false e = cc
of-none (Some number) b e = cc

pub unbuilt_line-none-parts : (p : ProgramTree) (e : ExpTree) → unbuilt_line p e ≡ None → (unbuilt_part p ≡ None) × (is_built_goal e ≡ true)
unbuilt_line-none-parts p e is = of-none (unbuilt_part p) (is_built_goal e) is
