-- The canonical texts of lists, arrays, comprehensions and ranges.
use Rattle.std.proofs.Common.{true, false, ◌∷◌, ◌++◌, refl, codes}
use Rattle.pi_print_program.specs.CanonicalExp.{exp_text, exp_texts}
use Rattle.pi_print_program.specs.Texts.{parted}
use Rattle.pi_syntax.specs.ExpTree.{ExpTree, list, list_onto, array, range, range_by, collect, ExpTrees, no_exps}
use Rattle.pi_syntax.specs.Terminals.{sign_terminal}
use Rattle.pi_syntax.specs.Grammar.{no_list, a_list, a_list_onto, a_list_of, no_array, an_array, an_array_of, in_parens as parenthesized_exp}
use Rattle.pi_syntax.specs.Tokens.{Sign}
use Rattle.pi_print_program.proofs.Says.{Says, says-nothing, says-then, Stops}
use Rattle.pi_print_program.proofs.Climb.{exp_unit, range_unit, stepped_unit}
use Rattle.pi_print_program.proofs.Punctuation.{stop_blank, stop_close_bracket, says-stops, open_bracket, close_bracket, bar_blank, colon_blank, dots_blank}
use Rattle.pi_print_program.proofs.Writes.{Writes, plain_writes}
use Rattle.pi_print_program.proofs.Sequences.{reads_unit, Items, Sequence, sequence}
use Rattle.pi_print_program.proofs.Forms.{parens, brackets, braces, begins_paren, begins_bracket, begins_brace}

-- ---- lists and arrays

pub writes_no_list : Writes (list no_exps)
unfolding exp_text exp_texts parted sign_terminal
writes_no_list = plain_writes refl refl refl refl (brackets (says-nothing Stops)) (λ more. begins_bracket _) (λ us. no_list)

pub writes_list : {es : ExpTrees} → Items es → Writes (list es)
unfolding exp_text sign_terminal
writes_list items =
    let s = sequence items in
    plain_writes refl refl refl refl (brackets s.says) (λ more. begins_bracket _) (λ us. a_list (s.units (Sign (codes "]") ∷ us)))

pub writes_list_onto : {es : ExpTrees} {e : ExpTree} → Items es → Writes e → Writes (list_onto es e)
unfolding exp_text sign_terminal
writes_list_onto items w =
    let s = sequence items in
    plain_writes refl refl refl refl
    (says-then open_bracket (says-then s.says (says-then bar_blank (says-then w.says (says-stops close_bracket) (λ more h. stop_close_bracket more)) (λ more h. (w.begins _).white)) (λ more h. stop_blank _)) (λ more h. tt))
    (λ more. begins_bracket _)
    (λ us. a_list_onto (s.units (Sign (codes "|") ∷ w.ts (Sign (codes "]") ∷ us))) (reads_unit w (Sign (codes "]") ∷ us)))

pub writes_no_array : Writes (array no_exps)
unfolding exp_text exp_texts parted sign_terminal
writes_no_array = plain_writes refl refl refl refl (braces (says-nothing Stops)) (λ more. begins_brace _) (λ us. no_array)

pub writes_array : {es : ExpTrees} → Items es → Writes (array es)
unfolding exp_text sign_terminal
writes_array items =
    let s = sequence items in
    plain_writes refl refl refl refl (braces s.says) (λ more. begins_brace _) (λ us. an_array (s.units (Sign (codes "}") ∷ us)))

-- ---- comprehensions

-- an item with what stands behind the colon
collected : {e : ExpTree} {es : ExpTrees} (w : Writes e) (s : Sequence es) → Says (exp_text e ++ (codes " : " ++ parted (codes ", ") (exp_texts es))) (λ m. w.cs (32 ∷ 58 ∷ 32 ∷ s.cs m)) (λ u. w.ts (Sign (codes ":") ∷ s.ts u)) Stops
collected w s = says-then w.says (says-then colon_blank s.says (λ more h. (s.begins more).white)) (λ more h. stop_blank _)

pub writes_list_of : {e : ExpTree} {es : ExpTrees} → Writes e → Items es → Writes (collect false e es)
unfolding exp_text sign_terminal
writes_list_of w items =
    let s = sequence items in
    plain_writes refl refl refl refl (brackets (collected w s)) (λ more. begins_bracket _)
    (λ us. a_list_of (reads_unit w (Sign (codes ":") ∷ s.ts (Sign (codes "]") ∷ us))) (s.units (Sign (codes "]") ∷ us)))

pub writes_array_of : {e : ExpTree} {es : ExpTrees} → Writes e → Items es → Writes (collect true e es)
unfolding exp_text sign_terminal
writes_array_of w items =
    let s = sequence items in
    plain_writes refl refl refl refl (braces (collected w s)) (λ more. begins_brace _)
    (λ us. an_array_of (reads_unit w (Sign (codes ":") ∷ s.ts (Sign (codes "}") ∷ us))) (s.units (Sign (codes "}") ∷ us)))

-- ---- ranges

pub writes_range : {a b : ExpTree} → Writes a → Writes b → Writes (range a b)
unfolding exp_text sign_terminal
writes_range v w =
    plain_writes refl refl refl refl
    (parens (says-then v.says (says-then dots_blank w.says (λ more h. (w.begins more).white)) (λ more h. stop_blank _)))
    (λ more. begins_paren _)
    (λ us. parenthesized_exp (exp_unit (range_unit (v.as_post (Sign (codes "..") ∷ w.ts (Sign (codes ")") ∷ us))) (w.as_post (Sign (codes ")") ∷ us)))))

pub writes_range_by : {a b c : ExpTree} → Writes a → Writes b → Writes c → Writes (range_by a b c)
unfolding exp_text sign_terminal
writes_range_by v w x =
    plain_writes refl refl refl refl
    (parens (says-then v.says (says-then dots_blank (says-then w.says (says-then dots_blank x.says (λ more h. (x.begins more).white)) (λ more h. stop_blank _)) (λ more h. (w.begins _).white)) (λ more h. stop_blank _)))
    (λ more. begins_paren _)
    (λ us. parenthesized_exp (exp_unit (stepped_unit (v.as_post (Sign (codes "..") ∷ w.ts (Sign (codes "..") ∷ x.ts (Sign (codes ")") ∷ us)))) (w.as_post (Sign (codes "..") ∷ x.ts (Sign (codes ")") ∷ us))) (x.as_post (Sign (codes ")") ∷ us)))))
