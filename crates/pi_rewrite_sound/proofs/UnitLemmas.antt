-- An iterator or a test, as the code finds it: by its name and by the number of its arguments.
use Rattle.std.proofs.Common.{◌≡◌, ℕ, Bool, true, false, ◌==◌, ◌&&◌, List, [], ◌∷◌, length, get_or, Some, None, codes, cond, refl, sym, ◌∙◌, ap, arith}
use Rattle.std.proofs.lemmas.Bool.{eqb-true}
use Rattle.std.specs.Str.{bytes_eq}
use Rattle.pi_syntax.specs.ExpTree.{ExpTrees, call, exp_tree}
use Rattle.pi_syntax.specs.ExpLists.{exps_of}
use Rattle.pi_syntax.specs.declared.exp.Exp.{Exp}
use Rattle.pi_meaning.specs.OverNames.Texts.{iterated}
use Rattle.pi_rewrite_sound.specs.Built.{is_built_unit, is_built_pattern, is_built_value_at, is_built_goal}
use Rattle.pi_rewrite_sound.proofs.EachLemmas.{both}

both-hold : (a b : Bool) → (a && b) ≡ true → (a ≡ true) × (b ≡ true)
both-hold true b h = (refl, h)
both-hold false b h = absurd (cc)

-- what makes a call an iterator
abbrev iterates : List ℕ → List Exp → Bool
iterates name es = length es == 2 && bytes_eq name (codes "in")

counted : (name : List ℕ) (es : List Exp) → iterates name es ≡ true → length es ≡ 2
counted name es h = eqb-true (length es) 2 (both-hold (length es == 2) (bytes_eq name (codes "in")) h).0

pattern-first : (name : List ℕ) (es : List Exp) (x : Exp) → iterates name es ≡ true → x ≡ get_or es 0 x → iterated (call name (exps_of es)) ≡ Some (exp_tree x)
pattern-first name [] x h is = let none : 0 ≡ 2 = counted name [] h in absurd (omega (arith, none))
pattern-first name (y ∷ []) x h is = let n : length (y ∷ []) ≡ 2 = counted name (y ∷ []) h in absurd (omega arith)
pattern-first name (y ∷ z ∷ []) x h is =
    ap (λ b. cond b (Some (exp_tree y)) None) (both-hold (length (y ∷ z ∷ []) == 2) (bytes_eq name (codes "in")) h).1 ∙ ap (λ w. Some (exp_tree w)) (sym is)
pattern-first name (y ∷ z ∷ w ∷ es) x h is = let n : length (y ∷ z ∷ w ∷ es) ≡ 2 = counted name (y ∷ z ∷ w ∷ es) h in absurd (omega arith)

no-pattern : (name : List ℕ) (es : List Exp) → iterates name es ≡ false → iterated (call name (exps_of es)) ≡ None
no-pattern name [] h = refl
no-pattern name (y ∷ []) h = refl
no-pattern name (y ∷ z ∷ []) h = ap (λ b. cond b (Some (exp_tree y)) None) h
no-pattern name (y ∷ z ∷ w ∷ es) h = refl

pub iterator-built : (name : List ℕ) (es : List Exp) (x : Exp) (r s collection test : Bool) → iterates name es ≡ true → x ≡ get_or es 0 x → r ≡ is_built_pattern (exp_tree x) → s ≡ collection → (r && s) ≡ is_built_unit (iterated (call name (exps_of es))) collection test
iterator-built name es x r s collection test h is first over =
    both r s (is_built_pattern (exp_tree x)) collection first over ∙ sym (ap (λ o. is_built_unit o collection test) (pattern-first name es x h is))

pub test-built : (name : List ℕ) (es : List Exp) (r collection test : Bool) → iterates name es ≡ false → r ≡ test → r ≡ is_built_unit (iterated (call name (exps_of es))) collection test
test-built name es r collection test h is = is ∙ sym (ap (λ o. is_built_unit o collection test) (no-pattern name es h))

-- of a call
abbrev pub unit_called : List ℕ → ExpTrees → Bool
unit_called name ts = is_built_unit (iterated (call name ts)) (is_built_value_at ts 1) (is_built_goal (call name ts))
