-- The names of variables of tokens are those of the shape that they have, from the left. At the first arrow tokens fall into two sides.
use Rattle.std.proofs.Common.{◌≡◌, ℕ, Bool, List, [], ◌∷◌, ◌++◌, map, Option, Some, None, option_map, refl, sym, ap, subst, ◌∙◌, append_assoc}
use Rattle.pi_prog_clauses.specs.Reading.{variable_names}
use Rattle.pi_prog_clauses.specs.Shape.{Shape, bare, ruled, arrow_of, Sides, with_left, sides_by, sides, HasShape, without_arrow, with_arrow}
use Rattle.pi_syntax.specs.Grammar.{HasExp}
use Rattle.pi_syntax.specs.ExpTree.{ExpTree}
use Rattle.pi_syntax.specs.Terminals.{Terminal, terminal, sign_terminal, word_terminal}
use Rattle.pi_syntax.specs.Tokens.{Token, Var, Atom, Word, Int, Str, Sign, End}
use Rattle.pi_print_program.proofs.Fine.{AreGood}
use Rattle.pi_print_program.proofs.TableRows.{each_sign, each_word}
use Rattle.pi_print_program.proofs.Names.{names_of, terminal_name, terminal_names, names_read}

-- ---- signs and words are no variables

abbrev IsNameless : Terminal → Type 0
IsNameless t = terminal_name t ≡ []

sign_nameless : (sign : List ℕ) → IsNameless (sign_terminal sign)
sign_nameless sign =
    each_sign IsNameless sign (refl, (refl, (refl, (refl, (refl, (refl, (refl, (refl, (refl, (refl, (refl, (refl, (refl, (refl, tt))))))))))))))
    (refl, (refl, (refl, (refl, (refl, (refl, (refl, (refl, (refl, (refl, (refl, (refl, (refl, (refl, (refl, tt)))))))))))))))
    (refl, (refl, (refl, (refl, (refl, (refl, (refl, (refl, (refl, (refl, (refl, (refl, (refl, (refl, (refl, (refl, (refl, tt)))))))))))))))))
    (refl, (refl, (refl, (refl, (refl, (refl, tt)))))) (refl, (refl, (refl, (refl, (refl, (refl, (refl, tt))))))) refl

word_nameless : (word : List ℕ) → IsNameless (word_terminal word)
word_nameless word = each_word IsNameless word (refl, (refl, (refl, (refl, (refl, (refl, (refl, tt))))))) (refl, (refl, (refl, (refl, (refl, (refl, (refl, (refl, tt)))))))) refl

-- ---- names of tokens

-- of one token
abbrev pub token_names : Token → List (List ℕ)
token_names (Var name) = name ∷ []
token_names t = []

pub names_then : (t : Token) (ts : List Token) → variable_names (t ∷ ts) ≡ token_names t ++ variable_names ts
names_then (Var name) ts = refl
names_then (Atom name) ts = refl
names_then (Word word) ts = refl
names_then (Int n) ts = refl
names_then (Str text) ts = refl
names_then (Sign sign) ts = refl
names_then End ts = refl

pub names_append : (ts us : List Token) → variable_names (ts ++ us) ≡ variable_names ts ++ variable_names us
names_append [] us = refl
names_append (t ∷ ts) us =
    names_then t (ts ++ us) ∙ ap (λ l. token_names t ++ l) (names_append ts us)
    ∙ sym (append_assoc (token_names t) (variable_names ts) (variable_names us)) ∙ ap (λ l. l ++ variable_names us) (sym (names_then t ts))

names_terminal : (t : Token) → terminal_name (terminal t) ≡ token_names t
names_terminal (Var name) = refl
names_terminal (Atom name) = refl
names_terminal (Word word) = word_nameless word
names_terminal (Int n) = refl
names_terminal (Str text) = refl
names_terminal (Sign sign) = sign_nameless sign
names_terminal End = refl

pub names_terminals : (ts : List Token) → terminal_names (map terminal ts) ≡ variable_names ts
names_terminals [] = refl
names_terminals (t ∷ ts) =
    ap (λ l. l ++ terminal_names (map terminal ts)) (names_terminal t) ∙ ap (λ l. token_names t ++ l) (names_terminals ts) ∙ sym (names_then t ts)

-- ---- the sides of an arrow

-- tokens with an arrow between them
pub record Halves (ts : List Token) (s : Sides) : Type 0 where
  pub sign : List ℕ
  pub same : ts ≡ s.left ++ Sign sign ∷ s.right

none_sides : (s : Sides) → ◌≡◌ {A = Option Sides} None (Some s) → ⊥
none_sides s e = cc

here : (t : Token) (ts : List Token) (back : Bool) → arrow_of t ≡ Some back → Halves (t ∷ ts) (record { left = []; back = back; right = ts })
here (Sign sign) ts back is = record { sign = sign; same = refl }
here (Var name) ts back is = absurd (cc)
here (Atom name) ts back is = absurd (cc)
here (Word word) ts back is = absurd (cc)
here (Int n) ts back is = absurd (cc)
here (Str text) ts back is = absurd (cc)
here End ts back is = absurd (cc)

later : (t : Token) (ts : List Token) (o : Option Sides) (s : Sides) → ((r : Sides) → o ≡ Some r → Halves ts r) → option_map (with_left t) o ≡ Some s → Halves (t ∷ ts) s
later t ts None s rest is = absurd (none_sides s is)
later t ts (Some r) s rest is =
    let h = rest r refl in
    let e : with_left t r ≡ s = cc in
    subst (λ x. Halves (t ∷ ts) x) e (record { sign = h.sign; same = ap (λ l. t ∷ l) h.same })

first_or : (t : Token) (ts : List Token) (o : Option Bool) (s : Sides) → arrow_of t ≡ o → ((r : Sides) → sides ts ≡ Some r → Halves ts r)
    → sides_by o t ts (sides ts) ≡ Some s → Halves (t ∷ ts) s
first_or t ts None s arrow rest is = later t ts (sides ts) s rest is
first_or t ts (Some back) s arrow rest is =
    let e : record { left = []; back = back; right = ts } ≡ s = cc in
    subst (λ x. Halves (t ∷ ts) x) e (here t ts back arrow)

pub halves : (ts : List Token) (s : Sides) → sides ts ≡ Some s → Halves ts s
unfolding sides
halves [] s is = absurd (none_sides s is)
halves (t ∷ ts) s is = first_or t ts (arrow_of t) s refl (halves ts) is

pub good_front : (ts us : List Terminal) → AreGood (ts ++ us) → AreGood ts
good_front [] us good = tt
good_front (t ∷ ts) us good = (good.0, good_front ts us good.1)

pub good_rest : (ts us : List Terminal) → AreGood (ts ++ us) → AreGood us
good_rest [] us good = good
good_rest (t ∷ ts) us good = good_rest ts us good.1

map_append : (ts us : List Token) → map terminal (ts ++ us) ≡ map terminal ts ++ map terminal us
map_append [] us = refl
map_append (t ∷ ts) us = ap (λ l. terminal t ∷ l) (map_append ts us)

-- the terminals of both sides are good where those of the whole are
pub good_sides : {ts : List Token} {s : Sides} → Halves ts s → AreGood (map terminal ts) → AreGood (map terminal s.left) × AreGood (map terminal s.right)
good_sides {s = s} h good =
    let whole : AreGood (map terminal s.left ++ map terminal (Sign h.sign ∷ s.right)) =
    subst AreGood (map_append s.left (Sign h.sign ∷ s.right)) (subst (λ l. AreGood (map terminal l)) h.same good) in
    (good_front (map terminal s.left) (map terminal (Sign h.sign ∷ s.right)) whole, (good_rest (map terminal s.left) (map terminal (Sign h.sign ∷ s.right)) whole).1)

-- ---- the names of a shape

abbrev pub shape_names : Shape → List (List ℕ)
shape_names (bare e) = names_of e
shape_names (ruled l back r) = names_of l ++ names_of r

exp_names : (ts : List Token) (e : ExpTree) → HasExp ts e → variable_names ts ≡ names_of e
exp_names ts e d = sym (names_terminals ts) ∙ names_read d

pub names_shown : {ts : List Token} {s : Shape} → HasShape ts s → variable_names ts ≡ shape_names s
names_shown (without_arrow {ts} {e} none d) = exp_names ts e d
names_shown (with_arrow {ts} {s} {l} {r} is dl dr) =
    let h = halves ts s is in
    ap variable_names h.same ∙ names_append s.left (Sign h.sign ∷ s.right)
    ∙ ap (λ n. n ++ variable_names s.right) (exp_names s.left l dl) ∙ ap (λ n. names_of l ++ n) (exp_names s.right r dr)
