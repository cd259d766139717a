-- The canonical text of each form of expression, where its parts have theirs: names, numbers, calls, what stands in parentheses, and lists.
use Rattle.std.proofs.Common.{◌≡◌, ℕ, suc, ◌^◌, ◌<◌, ◌==◌, Bool, true, false, ℤ, pos, negsuc, int_lt, ◌-ℤ◌, List, ◌∷◌, ◌++◌, map, Option, Some, None, length, refl, subst, codes, arith, IsUtf8, if◌then◌else◌, rules}
use Rattle.std.proofs.lemmas.Bool.{false≢true}
use Rattle.std.proofs.lemmas.Bool.Decides.{nat_tests}
use Rattle.std.specs.Fmt.{decimal}
use Rattle.pi_print_program.specs.CanonicalExp.{exp_text}
use Rattle.pi_print_program.specs.Texts.{between, in_parens, integer_text}
use Rattle.pi_syntax.specs.ExpTree.{ExpTree, var, int, atom, str, at}
use Rattle.pi_syntax.specs.Terminals.{Terminal, terminal, sign_terminal, open_paren as open_paren_terminal, close_paren as close_paren_terminal, integer, minus}
use Rattle.pi_syntax.specs.Grammar.{Reads, prim, unary, negated, postfixes, a_variable, a_pattern, an_integer, an_atom, a_text, in_parens as parenthesized_exp, with_minus}
use Rattle.pi_syntax.specs.Tokens.{Token, Sign, Var, Int, Atom}
use Rattle.pi_print_program.specs.Patterns.{is_index}
use Rattle.pi_print_program.proofs.Says.{Says, says-at, says-then, Stops, Begins}
use Rattle.pi_print_program.proofs.Climb.{post_prim, unary_post, unary_up, exp_unit}
use Rattle.pi_print_program.proofs.Punctuation.{stop_close_paren, stop_close_bracket, stop_close_brace, stop_at, says-stops, open_paren, close_paren, open_bracket, close_bracket, open_brace, close_brace, at_sign, minus_sign}
use Rattle.pi_print_program.proofs.IntegerTokens.{says-natural, decimal_begins}
use Rattle.pi_print_program.proofs.NameTexts.{IsVariableName, IsAtomName, variable_text, atom_token_text, string_token_text}
use Rattle.pi_print_program.proofs.Writes.{Writes, plain_writes}

-- ---- what stands between brackets

pub parens : {inner : List ℕ} {cs : List ℕ → List ℕ} {ts : List Token → List Token} → Says inner cs ts Stops
    → Says (in_parens inner) (λ m. 40 ∷ cs (41 ∷ m)) (λ u. Sign (codes "(") ∷ ts (Sign (codes ")") ∷ u)) Stops
parens s = says-then open_paren (says-then s (says-stops close_paren) (λ more h. stop_close_paren more)) (λ more h. tt)

pub brackets : {inner : List ℕ} {cs : List ℕ → List ℕ} {ts : List Token → List Token} → Says inner cs ts Stops
    → Says (between (codes "[") inner (codes "]")) (λ m. 91 ∷ cs (93 ∷ m)) (λ u. Sign (codes "[") ∷ ts (Sign (codes "]") ∷ u)) Stops
brackets s = says-then open_bracket (says-then s (says-stops close_bracket) (λ more h. stop_close_bracket more)) (λ more h. tt)

pub braces : {inner : List ℕ} {cs : List ℕ → List ℕ} {ts : List Token → List Token} → Says inner cs ts Stops
    → Says (between (codes "{") inner (codes "}")) (λ m. 123 ∷ cs (125 ∷ m)) (λ u. Sign (codes "{") ∷ ts (Sign (codes "}") ∷ u)) Stops
braces s = says-then open_brace (says-then s (says-stops close_brace) (λ more h. stop_close_brace more)) (λ more h. tt)

pub begins_paren : (more : List ℕ) → Begins (40 ∷ more)
begins_paren more = record { white = refl; less = refl; equal = refl; greater = refl }

pub begins_bracket : (more : List ℕ) → Begins (91 ∷ more)
begins_bracket more = record { white = refl; less = refl; equal = refl; greater = refl }

pub begins_brace : (more : List ℕ) → Begins (123 ∷ more)
begins_brace more = record { white = refl; less = refl; equal = refl; greater = refl }

pub begins_dollar : (more : List ℕ) → Begins (36 ∷ more)
begins_dollar more = record { white = refl; less = refl; equal = refl; greater = refl }

-- ---- names, numbers and texts

pub writes_variable : (name : List ℕ) → IsVariableName name → Writes (var name)
unfolding exp_text sign_terminal
writes_variable name is =
    let t = variable_text name is in
    record {
      cs = t.cs;
      ts = λ u. Var name ∷ u;
      says = t.says;
      begins = t.begins;
      as_post = λ us. post_prim a_variable;
      as_prim = λ no us. a_variable;
      indexes = λ takes us f out more. postfixes a_variable more;
      structure = λ is us. absurd (false≢true is);
      head = λ n is us. absurd (none_some is);
    }
  where
    none_some : {n : List ℕ} → ◌≡◌ {A = Option (List ℕ)} None (Some n) → ⊥
    none_some e = cc

pub writes_at : (name : List ℕ) {e : ExpTree} → IsVariableName name → Writes e → is_index e ≡ false → Writes (at name e)
unfolding exp_text sign_terminal
writes_at name {e} is w no_index =
    let t = variable_text name is in
    plain_writes refl refl refl refl (says-then t.says (says-then at_sign w.says (λ more h. w.begins more)) (λ more h. stop_at _)) (λ more. t.begins _)
    (λ us. a_pattern (w.as_prim no_index us))

not_below : (n : ℕ) → int_lt (pos n) (pos 0) ≡ false
not_below n = grind (arith, nat_tests)

natural_text : (n : ℕ) → exp_text (int (pos n)) ≡ decimal n
unfolding exp_text integer_text
natural_text n = rw (not_below n) refl

pub writes_natural : (n : ℕ) → n < 2 ^ 127 → Writes (int (pos n))
writes_natural n fits = plain_writes refl refl refl refl (says-at (natural_text n) (says-natural n fits)) (λ more. decimal_begins n more) (λ us. an_integer)

-- what stands below 0
pub below_zero : (n : ℕ) → pos 0 -ℤ pos (suc n) ≡ negsuc n
below_zero n = search rules

minus_natural : (n : ℕ) (us : List Token) → Reads prim (map terminal (Sign (codes "(") ∷ Sign (codes "-") ∷ Int (pos (suc n)) ∷ Sign (codes ")") ∷ us)) (int (negsuc n)) (map terminal us)
unfolding sign_terminal
minus_natural n us =
    let rest : List Terminal = close_paren_terminal ∷ map terminal us in
    let same : (length rest == length rest) ≡ true = grind arith in
    let read : (b : Bool) → Type 0 = λ b. Reads unary (minus ∷ integer (pos (suc n)) ∷ rest) (negated (if b then Some (pos (suc n)) else None) (int (pos (suc n)))) rest in
    subst (λ (z : ℤ). Reads prim (open_paren_terminal ∷ minus ∷ integer (pos (suc n)) ∷ rest) (int z) (map terminal us)) (below_zero n) (parenthesized_exp (exp_unit (unary_up (subst read same (with_minus (unary_post (post_prim an_integer)))))))

negative_text : (n : ℕ) → exp_text (int (negsuc n)) ≡ in_parens (codes "-" ++ decimal (suc n))
unfolding exp_text integer_text
negative_text n = refl

pub writes_negative : (n : ℕ) → suc n < 2 ^ 127 → Writes (int (negsuc n))
writes_negative n fits =
    let digits = says-natural (suc n) fits in
    plain_writes refl refl refl refl (says-at (negative_text n) (parens (says-then minus_sign digits (λ more h. decimal_begins (suc n) more)))) (λ more. begins_paren _) (λ us. minus_natural n us)

pub writes_atom : (name : List ℕ) → IsAtomName name → Writes (atom name)
unfolding exp_text
writes_atom name is =
    let t = atom_token_text name is in
    record {
      cs = t.cs;
      ts = λ u. Atom name ∷ u;
      says = t.says;
      begins = t.begins;
      as_post = λ us. post_prim an_atom;
      as_prim = λ no us. an_atom;
      indexes = λ takes us f out more. absurd (false≢true takes);
      structure = λ is us. absurd (false≢true is);
      head = λ n is us. (us, same_name n us is);
    }
  where
    same_name : (n : List ℕ) (us : List Token) → ◌≡◌ {A = Option (List ℕ)} (Some name) (Some n) → ◌≡◌ {A = List Token} (Atom name ∷ us) (Atom n ∷ us)
    same_name n us e = cc

pub writes_text : (text : List ℕ) → IsUtf8 text → Writes (str text)
unfolding exp_text
writes_text text utf8 =
    let t = string_token_text text utf8 in
    plain_writes refl refl refl refl t.says t.begins (λ us. a_text)
