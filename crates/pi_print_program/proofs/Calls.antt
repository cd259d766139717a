-- The canonical texts of calls and signs, of terms behind `$`, and of indexes.
use Rattle.std.proofs.Common.{◌≡◌, ℕ, Bool, true, false, ◌||◌, List, [], ◌∷◌, ◌++◌, map, Option, Some, None, refl, sym, codes, inl, inr}
use Rattle.std.proofs.lemmas.Bool.{cases_Bool, false≢true}
use Rattle.pi_print_program.specs.CanonicalExp.{exp_text, exp_texts, is_structure}
use Rattle.pi_print_program.specs.Signs.{is_two_place, is_prefix_word, is_prefix_sign, is_sign, two_place_signs, prefix_words, prefix_signs}
use Rattle.pi_print_program.specs.Texts.{each_behind, parted, in_parens as in_parens_text, comma as comma_text}
use Rattle.pi_syntax.specs.ExpTree.{ExpTree, call, quote, index, ExpTrees, exp, one_exp}
use Rattle.pi_syntax.specs.Signature.{exp_count}
use Rattle.pi_syntax.specs.Terminals.{terminal, sign_terminal}
use Rattle.pi_syntax.specs.Grammar.{Reads, post, call_one, call_two, no_postfix, an_index, postfixes, a_call, in_parens as parenthesized_exp, a_structure, a_term, last_unit}
use Rattle.pi_syntax.specs.Tokens.{Token, Sign, Atom, is_one_of}
use Rattle.pi_print_program.proofs.Says.{Says, says-at, says-nothing, says-then, Stops, spaced, parenthesized}
use Rattle.pi_print_program.proofs.Climb.{post_prim, exp_unit}
use Rattle.pi_print_program.proofs.SignTexts.{two_place, prefix_word, prefix_sign}
use Rattle.pi_print_program.proofs.Punctuation.{stop_blank, stop_open_paren, stop_open_bracket, blank, dollar}
use Rattle.pi_print_program.proofs.NameTexts.{IsAtomName, atom_token_text}
use Rattle.pi_print_program.proofs.Writes.{Writes, plain_writes, takes_places, name_first}
use Rattle.pi_print_program.proofs.Sequences.{reads_unit, reads_exp, Each, in_parens_of}
use Rattle.pi_print_program.proofs.Forms.{parens, brackets, begins_paren, begins_dollar}

-- ---- signs

two_place_one_of : (name : List ℕ) → is_two_place name 2 ≡ true → is_one_of two_place_signs name ≡ true
unfolding is_two_place
two_place_one_of name is = is

prefix_word_one_of : (name : List ℕ) → is_prefix_word name 1 ≡ true → is_one_of prefix_words name ≡ true
unfolding is_prefix_word
prefix_word_one_of name is = is

prefix_sign_one_of : (name : List ℕ) → is_prefix_sign name 1 ≡ true → is_one_of prefix_signs name ≡ true
unfolding is_prefix_sign
prefix_sign_one_of name is = is

no_two_place : (name : List ℕ) → is_two_place name 1 ≡ false
unfolding is_two_place
no_two_place name = refl

no_prefix_word : (name : List ℕ) → is_one_of prefix_words name ≡ false → is_prefix_word name 1 ≡ false
unfolding is_prefix_word
no_prefix_word name none = none

two_text : (name : List ℕ) (a b : ExpTree) → is_two_place name 2 ≡ true
    → exp_text (call_two name a b) ≡ in_parens_text (exp_text a ++ ((codes " " ++ (name ++ codes " ")) ++ (exp_text b ++ [])))
unfolding exp_text exp_texts exp_count parted each_behind
two_text name a b is = rw is refl

signed_two : (name : List ℕ) (a b : ExpTree) → is_two_place name 2 ≡ true → is_sign name (exp_count (exp a (one_exp b))) ≡ true
unfolding exp_count
signed_two name a b is = rw is refl

pub writes_two : (name : List ℕ) {a b : ExpTree} → is_two_place name 2 ≡ true → Writes a → Writes b → Writes (call_two name a b)
unfolding sign_terminal
writes_two name {a} {b} is v w =
    let t = two_place name (two_place_one_of name is) in
    let signed = signed_two name a b is in
    plain_writes refl (rw signed refl) (rw signed refl) (rw signed refl)
    (says-at (two_text name a b is) (parens (says-then v.says (says-then (says-then blank (says-then t.says blank (λ more h. spaced)) (λ more h. t.dark (32 ∷ more))) (says-then w.says (says-nothing Stops) (λ more h. h)) (λ more h. (w.begins more).white)) (λ more h. stop_blank _))))
    (λ more. begins_paren _)
    (λ us. parenthesized_exp (exp_unit (t.joins (v.as_post (t.token ∷ w.ts (Sign (codes ")") ∷ us))) (w.as_post (Sign (codes ")") ∷ us)))))

-- an operand in parentheses
parens_item : {e : ExpTree} (w : Writes e) → Says (in_parens_text (parted comma_text (exp_texts (one_exp e)))) (λ m. 40 ∷ w.cs (41 ∷ m)) (λ u. Sign (codes "(") ∷ w.ts (Sign (codes ")") ∷ u)) Stops
unfolding exp_texts parted each_behind
parens_item w = parens (says-then w.says (says-nothing Stops) (λ more h. h))

parens_post : {e : ExpTree} (w : Writes e) (us : List Token) → Reads post (map terminal (Sign (codes "(") ∷ w.ts (Sign (codes ")") ∷ us))) e (map terminal us)
unfolding sign_terminal
parens_post w us = post_prim (parenthesized_exp (reads_exp w (Sign (codes ")") ∷ us)))

word_text : (name : List ℕ) (e : ExpTree) → is_prefix_word name 1 ≡ true
    → exp_text (call_one name e) ≡ in_parens_text (name ++ (codes " " ++ in_parens_text (parted comma_text (exp_texts (one_exp e)))))
unfolding exp_text exp_count
word_text name e is = rw (no_two_place name, is) refl

signed_word : (name : List ℕ) (e : ExpTree) → is_prefix_word name 1 ≡ true → is_sign name (exp_count (one_exp e)) ≡ true
unfolding exp_count
signed_word name e is = rw (no_two_place name, is) refl

pub writes_word : (name : List ℕ) {e : ExpTree} → is_prefix_word name 1 ≡ true → Writes e → Writes (call_one name e)
unfolding sign_terminal
writes_word name {e} is w =
    let t = prefix_word name (prefix_word_one_of name is) in
    let signed = signed_word name e is in
    plain_writes refl (rw signed refl) (rw signed refl) (rw signed refl)
    (says-at (word_text name e is) (parens (says-then t.says (says-then blank (parens_item w) (λ more h. refl)) (λ more h. spaced))))
    (λ more. begins_paren _)
    (λ us. parenthesized_exp (exp_unit (t.joins (parens_post w (Sign (codes ")") ∷ us)))))

sign_text : (name : List ℕ) (e : ExpTree) → is_prefix_word name 1 ≡ false → is_prefix_sign name 1 ≡ true
    → exp_text (call_one name e) ≡ in_parens_text (name ++ in_parens_text (parted comma_text (exp_texts (one_exp e))))
unfolding exp_text exp_count
sign_text name e no_word is = rw (no_two_place name, no_word, is) refl

signed_sign : (name : List ℕ) (e : ExpTree) → is_prefix_word name 1 ≡ false → is_prefix_sign name 1 ≡ true → is_sign name (exp_count (one_exp e)) ≡ true
unfolding exp_count
signed_sign name e no_word is = rw (no_two_place name, no_word, is) refl

pub writes_sign : (name : List ℕ) {e : ExpTree} → is_prefix_sign name 1 ≡ true → Writes e → Writes (call_one name e)
unfolding sign_terminal
writes_sign name {e} is w =
    let t = prefix_sign name (prefix_sign_one_of name is) in
    let no_word = no_prefix_word name t.no_word in
    let signed = signed_sign name e no_word is in
    plain_writes refl (rw signed refl) (rw signed refl) (rw signed refl)
    (says-at (sign_text name e no_word is) (parens (says-then t.says (parens_item w) (λ more h. parenthesized))))
    (λ more. begins_paren _)
    (λ us. parenthesized_exp (exp_unit (t.joins (parens_post w (Sign (codes ")") ∷ us)))))

-- ---- names with arguments

pub neither : (x y : Bool) → (x || y) ≡ false → (x ≡ false) × (y ≡ false)
neither true y none = absurd (false≢true (sym none))
neither false y none = (refl, none)

head_of_call : (name n : List ℕ) (signed : Bool) (us : List Token) → signed ≡ false → name_first signed name ≡ Some n → ◌≡◌ {A = List Token} (Atom name ∷ us) (Atom n ∷ us)
head_of_call name n signed us free is = let same = rw free at is in cc

pub writes_call : (name : List ℕ) {es : ExpTrees} → IsAtomName name → is_sign name (exp_count es) ≡ false → Each es → Writes (call name es)
unfolding exp_text sign_terminal
writes_call name {es} is free each =
    let t = atom_token_text name is in
    let p = in_parens_of each in
    let (no_two, no_prefix) = neither (is_two_place name (exp_count es)) (is_prefix_word name (exp_count es) || is_prefix_sign name (exp_count es)) free in
    let (no_word, no_sign) = neither (is_prefix_word name (exp_count es)) (is_prefix_sign name (exp_count es)) no_prefix in
    record {
      cs = λ m. t.cs (40 ∷ p.cs m);
      ts = λ u. Atom name ∷ Sign (codes "(") ∷ p.ts u;
      says = rw (no_two, no_word, no_sign) (says-then t.says p.says (λ more h. stop_open_paren (p.cs more)));
      begins = λ more. t.begins _;
      as_post = λ us. post_prim (a_call (p.arguments us));
      as_prim = λ other us. a_call (p.arguments us);
      indexes = λ takes us f out more. postfixes (a_call (p.arguments (Sign (codes "[") ∷ us))) more;
      structure = λ other us. a_structure (p.arguments us);
      head = λ n first' us. (Sign (codes "(") ∷ p.ts us, head_of_call name n (is_sign name (exp_count es)) (Sign (codes "(") ∷ p.ts us) free first');
    }

-- ---- behind `$`

structure_text : (e : ExpTree) → is_structure e ≡ true → exp_text (quote e) ≡ codes "$" ++ exp_text e
unfolding exp_text
structure_text e is = rw is refl

term_text : (e : ExpTree) → is_structure e ≡ false → exp_text (quote e) ≡ codes "$" ++ in_parens_text (exp_text e)
unfolding exp_text
term_text e is = rw is refl

quote_structure : {e : ExpTree} → is_structure e ≡ true → Writes e → Writes (quote e)
unfolding sign_terminal
quote_structure {e} is w =
    plain_writes refl refl refl refl (says-at (structure_text e is) (says-then dollar w.says (λ more h. tt))) (λ more. begins_dollar _) (λ us. w.structure is us)

quote_term : {e : ExpTree} → is_structure e ≡ false → Writes e → Writes (quote e)
unfolding sign_terminal
quote_term {e} other w =
    plain_writes refl refl refl refl (says-at (term_text e other) (says-then dollar (parens w.says) (λ more h. tt))) (λ more. begins_dollar _)
    (λ us. a_term (reads_exp w (Sign (codes ")") ∷ us)))

pub writes_quote : {e : ExpTree} → Writes e → Writes (quote e)
writes_quote {e} w =
    elim (cases_Bool (is_structure e)) [
      | inl is ↦ quote_structure is w
      | inr other ↦ quote_term other w
    ]

-- ---- indexes

pub writes_index : {e i : ExpTree} → takes_places e ≡ true → Writes e → Writes i → Writes (index e (one_exp i))
unfolding exp_text exp_texts parted each_behind sign_terminal
writes_index {e} {i} takes w x = record {
  cs = λ m. w.cs (91 ∷ x.cs (93 ∷ m));
  ts = λ u. w.ts (Sign (codes "[") ∷ x.ts (Sign (codes "]") ∷ u));
  says = says-then w.says (brackets (says-then x.says (says-nothing Stops) (λ more h. h))) (λ more h. stop_open_bracket _);
  begins = λ more. w.begins _;
  as_post = λ us. w.indexes takes (x.ts (Sign (codes "]") ∷ us)) (index e (one_exp i)) (map terminal us) (an_index (last_unit (reads_unit x (Sign (codes "]") ∷ us))) no_postfix);
  as_prim = λ other us. absurd (false≢true (sym other));
  indexes = λ also us f out more. w.indexes takes (x.ts (Sign (codes "]") ∷ Sign (codes "[") ∷ us)) f out (an_index (last_unit (reads_unit x (Sign (codes "]") ∷ Sign (codes "[") ∷ us))) more);
  structure = λ is us. absurd (false≢true is);
  head = λ name is us. absurd (none_some name is);
}
  where
    none_some : (n : List ℕ) → ◌≡◌ {A = Option (List ℕ)} None (Some n) → ⊥
    none_some n same = cc
