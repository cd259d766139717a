-- Several goals as one, and goals that evaluate.
use Rattle.std.proofs.Common.{◌≡◌, ℕ, suc, ◌≢◌, Bool, true, false, cond, List, [], ◌∷◌, ◌++◌, length, refl, sym, ◌∙◌, ap, arith}
use Rattle.std.proofs.lemmas.Bool.{cond-true, cond-false}
use Rattle.std.proofs.lemmas.List.{append-nil, length-append}
use Rattle.std.specs.Prelude.{nat_lt, codes}
use Rattle.pi_terms.specs.Tree.{Tree, Trees}
use Rattle.pi_core.specs.GoalTree.{GoalTree, goals_of}
use Rattle.pi_rewrite_spec.specs.Values.{filling, evaluating}
use Rattle.pi_rewrite_spec.specs.Goals.{in_turn, either_of}

-- ---- goals as one

pub turn-none : (gs : List GoalTree) (made : GoalTree) → length gs ≡ 0 → made ≡ GoalTree.truth → made ≡ in_turn gs
turn-none [] made none is = is
turn-none (g ∷ gs) made none is = absurd (omega arith)

pub turn-one : (gs : List GoalTree) (made : GoalTree) → gs ≡ made ∷ [] → made ≡ in_turn gs
turn-one gs made is = sym (ap in_turn is)

pub turn-more : (gs : List GoalTree) (made : GoalTree) → length gs ≢ 0 → length gs ≢ 1 → made ≡ GoalTree.seq (goals_of gs) → made ≡ in_turn gs
turn-more [] made some more is = absurd (some refl)
turn-more (g ∷ []) made some more is = absurd (more refl)
turn-more (g ∷ h ∷ gs) made some more is = is

pub either-none : (gs : List GoalTree) (made : GoalTree) → length gs ≡ 0 → made ≡ GoalTree.fail → made ≡ either_of gs
either-none [] made none is = is
either-none (g ∷ gs) made none is = absurd (omega arith)

pub either-one : (gs : List GoalTree) (made : GoalTree) → gs ≡ made ∷ [] → made ≡ either_of gs
either-one gs made is = sym (ap either_of is)

pub either-more : (gs : List GoalTree) (made : GoalTree) → length gs ≢ 0 → length gs ≢ 1 → made ≡ GoalTree.alternatives (goals_of gs) → made ≡ either_of gs
either-more [] made some more is = absurd (some refl)
either-more (g ∷ []) made some more is = absurd (more refl)
either-more (g ∷ h ∷ gs) made some more is = is

pub only-one : {A : Type 0} (xs rest : List A) (x : A) → length xs ≡ 1 → xs ≡ rest ++ x ∷ [] → xs ≡ x ∷ []
only-one xs [] x count is = is
only-one xs (y ∷ rest) x count is =
    let more : length xs ≡ suc (length (rest ++ x ∷ [])) = ap length is in
    absurd (omega (arith, more, length-append rest (x ∷ [])))

pub only-none : (xs : List GoalTree) (g : GoalTree) → length xs ≡ 1 → xs ≡ [] → xs ≡ g ∷ []
only-none xs g count none = let fails : length xs ≡ 0 = ap length none in absurd (omega arith)

-- ---- what fills the slots of a term

pub push-none : (b : Bool) (old : List GoalTree) (g : GoalTree) → b ≡ true → old ≡ old ++ cond b [] (g ∷ [])
push-none b old g holds = sym (ap (λ gs. old ++ gs) (cond-true b [] (g ∷ []) holds) ∙ append-nil old)

pub push-some : (b : Bool) (old new : List GoalTree) (one g : GoalTree) → b ≡ false → one ≡ g → new ≡ old ++ one ∷ [] → new ≡ old ++ cond b [] (g ∷ [])
push-some b old new one g fails is put = put ∙ (ap (λ (x : GoalTree). old ++ x ∷ []) is ∙ sym (ap (λ gs. old ++ gs) (cond-false b [] (g ∷ []) fails)))

pub filling-old : (m n : ℕ) (t : Tree) (made : GoalTree) → t ≡ Tree.var n → nat_lt n m ≡ true → made ≡ evaluating t → made ≡ filling m t
filling-old m n t made is less put = put ∙ (ap evaluating is ∙ (sym (cond-true (nat_lt n m) (evaluating (Tree.var n)) (GoalTree.call (codes "=") (Tree.var n ∷ Tree.var n ∷ [])) less) ∙ ap (filling m) (sym is)))

pub filling-new : (m n : ℕ) (t : Tree) (made : GoalTree) → t ≡ Tree.var n → nat_lt n m ≡ false → made ≡ GoalTree.call (codes "=") (t ∷ t ∷ []) → made ≡ filling m t
filling-new m n t made is less put =
    put ∙ (ap (λ (u : Tree). GoalTree.call (codes "=") (u ∷ u ∷ [])) is ∙ (sym (cond-false (nat_lt n m) (evaluating (Tree.var n)) (GoalTree.call (codes "=") (Tree.var n ∷ Tree.var n ∷ [])) less) ∙ ap (filling m) (sym is)))

pub filling-int : (m : ℕ) (n : _) (t : Tree) (made : GoalTree) → t ≡ Tree.int n → made ≡ evaluating t → made ≡ filling m t
filling-int m n t made is put = put ∙ (ap evaluating is ∙ ap (filling m) (sym is))

pub filling-atom : (m : ℕ) (name : List ℕ) (t : Tree) (made : GoalTree) → t ≡ Tree.atom name → made ≡ evaluating t → made ≡ filling m t
filling-atom m name t made is put = put ∙ (ap evaluating is ∙ ap (filling m) (sym is))

pub filling-comp : (m : ℕ) (name : List ℕ) (ts : Trees) (t : Tree) (made : GoalTree) → t ≡ Tree.comp name ts → made ≡ evaluating t → made ≡ filling m t
filling-comp m name ts t made is put = put ∙ (ap evaluating is ∙ ap (filling m) (sym is))
