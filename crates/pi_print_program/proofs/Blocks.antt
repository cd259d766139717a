-- The canonical texts of conjunctions, disjunctions, choices and loops.
use Rattle.std.proofs.Common.{◌∷◌, ◌++◌, refl, codes}
use Rattle.pi_print_program.specs.CanonicalExp.{exp_text}
use Rattle.pi_syntax.specs.ExpTree.{ExpTree, and, or, if_then, if_else, foreach, while_do, do_while, ExpTrees, exp, ExpBranches}
use Rattle.pi_syntax.specs.Terminals.{sign_terminal, word_terminal}
use Rattle.pi_syntax.specs.Grammar.{branches, conjuncts, last_branch, in_parens as parenthesized_exp, an_if, an_if_else, a_foreach, a_while, a_do_while}
use Rattle.pi_syntax.specs.Tokens.{Sign, Word}
use Rattle.pi_print_program.proofs.Says.{Says, says-then, Stops}
use Rattle.pi_print_program.proofs.Punctuation.{stop_blank, stop_close_paren, says-stops, close_paren, if_blank, else_blank, end_blank, foreach_paren, paren_blank, while_paren, while_behind, do_blank}
use Rattle.pi_print_program.proofs.Writes.{Writes, plain_writes}
use Rattle.pi_print_program.proofs.Sequences.{reads_exp, Items, Sequence, sequence, Disjuncts, Conditions, choice_text}
use Rattle.pi_print_program.proofs.Forms.{parens, begins_paren}

-- ---- conjunctions and disjunctions

pub writes_and : {e f : ExpTree} {es : ExpTrees} → Sequence (exp e (exp f es)) → Writes (and (exp e (exp f es)))
unfolding exp_text sign_terminal
writes_and s = plain_writes refl refl refl refl (parens s.says) (λ more. begins_paren _) (λ us. parenthesized_exp (branches (last_branch (conjuncts (s.units (Sign (codes ")") ∷ us))))))

pub writes_or : {e f : ExpTree} {es : ExpTrees} → Disjuncts (exp e (exp f es)) → Writes (or (exp e (exp f es)))
unfolding exp_text sign_terminal
writes_or s = plain_writes refl refl refl refl (parens s.says) (λ more. begins_paren _) (λ us. parenthesized_exp (branches (s.branches (Sign (codes ")") ∷ us))))

-- ---- choices and loops

-- a body up to `end`
body_end : {e : ExpTree} (w : Writes e) → Says (exp_text e ++ codes " end") (λ m. w.cs (codes " end" ++ m)) (λ u. w.ts (Word (codes "end") ∷ u)) Stops
body_end w = says-then w.says end_blank (λ more h. stop_blank _)

pub writes_if : {bs : ExpBranches} → Conditions bs → Writes (if_then bs)
unfolding exp_text word_terminal
writes_if conditions =
    let s = choice_text conditions in
    plain_writes refl refl refl refl
    (says-then if_blank (says-then s.says end_blank (λ more h. stop_blank _)) (λ more h. (s.begins _).white))
    (λ more. record { white = refl; less = refl; equal = refl; greater = refl })
    (λ us. an_if (s.choices (Word (codes "end") ∷ us)))

pub writes_if_else : {bs : ExpBranches} {e : ExpTree} → Conditions bs → Writes e → Writes (if_else bs e)
unfolding exp_text word_terminal
writes_if_else conditions w =
    let s = choice_text conditions in
    plain_writes refl refl refl refl
    (says-then if_blank (says-then s.says (says-then else_blank (body_end w) (λ more h. (w.begins _).white)) (λ more h. stop_blank _)) (λ more h. (s.begins _).white))
    (λ more. record { white = refl; less = refl; equal = refl; greater = refl })
    (λ us. an_if_else (s.choices (Word (codes "else") ∷ w.ts (Word (codes "end") ∷ us))) (reads_exp w (Word (codes "end") ∷ us)))

pub writes_foreach : {es : ExpTrees} {e : ExpTree} → Items es → Writes e → Writes (foreach es e)
unfolding exp_text sign_terminal word_terminal
writes_foreach items w =
    let s = sequence items in
    plain_writes refl refl refl refl
    (says-then foreach_paren (says-then s.says (says-then paren_blank (body_end w) (λ more h. (w.begins _).white)) (λ more h. stop_close_paren _)) (λ more h. tt))
    (λ more. record { white = refl; less = refl; equal = refl; greater = refl })
    (λ us. a_foreach (s.units (Sign (codes ")") ∷ w.ts (Word (codes "end") ∷ us))) (reads_exp w (Word (codes "end") ∷ us)))

pub writes_while : {c e : ExpTree} → Writes c → Writes e → Writes (while_do c e)
unfolding exp_text sign_terminal word_terminal
writes_while v w =
    plain_writes refl refl refl refl
    (says-then while_paren (says-then v.says (says-then paren_blank (body_end w) (λ more h. (w.begins _).white)) (λ more h. stop_close_paren _)) (λ more h. tt))
    (λ more. record { white = refl; less = refl; equal = refl; greater = refl })
    (λ us. a_while (reads_exp v (Sign (codes ")") ∷ w.ts (Word (codes "end") ∷ us))) (reads_exp w (Word (codes "end") ∷ us)))

pub writes_do : {e c : ExpTree} → Writes e → Writes c → Writes (do_while e c)
unfolding exp_text sign_terminal word_terminal
writes_do w v =
    plain_writes refl refl refl refl
    (says-then do_blank (says-then w.says (says-then while_behind (says-then v.says (says-stops close_paren) (λ more h. stop_close_paren _)) (λ more h. tt)) (λ more h. stop_blank _)) (λ more h. (w.begins _).white))
    (λ more. record { white = refl; less = refl; equal = refl; greater = refl })
    (λ us. a_do_while (reads_exp w (Word (codes "while") ∷ Sign (codes "(") ∷ v.ts (Sign (codes ")") ∷ us))) (reads_exp v (Sign (codes ")") ∷ us)))
