-- How the token of a sign is read between two operands or before one, and what each name of a list has.
use Rattle.std.proofs.Common.{◌≡◌, ℕ, true, false, List, [], ◌∷◌, ◌++◌, length, sym, subst, inl, inr}
use Rattle.std.proofs.lemmas.Bool.{cases_Bool, false≢true}
use Rattle.std.proofs.lemmas.Slice.Eq.{bytes_eq-Decides}
use Rattle.std.specs.Str.{bytes_eq}
use Rattle.pi_syntax.specs.ExpTree.{ExpTree}
use Rattle.pi_syntax.specs.Terminals.{Terminal, open_paren, terminal}
use Rattle.pi_syntax.specs.Grammar.{Reads, post, unit, call_one, call_two}
use Rattle.pi_syntax.specs.Tokens.{Token, Lexeme, item_at, is_one_of}
use Rattle.pi_print_program.specs.Signs.{prefix_words}
use Rattle.pi_print_program.proofs.Says.{Says, Dark, Spaced, spaced, Parenthesized, parenthesized}

-- a sign between two operands, behind a blank and before one
pub record TwoPlace (name : List ℕ) : Type 0 where
  pub token : Token
  pub says : Says name (λ m. name ++ m) (λ u. token ∷ u) Spaced
  pub dark : (more : List ℕ) → Dark (name ++ more)
  pub joins : {ts mid rest : List Terminal} {a b : ExpTree} → Reads post ts a (terminal token ∷ mid) → Reads post mid b rest → Reads unit ts (call_two name a b) rest

-- a word before an operand in parentheses, and a sign there
pub record PrefixWord (name : List ℕ) : Type 0 where
  pub token : Token
  pub says : Says name (λ m. name ++ m) (λ u. token ∷ u) Spaced
  pub joins : {ts rest : List Terminal} {e : ExpTree} → Reads post ts e rest → Reads unit (terminal token ∷ ts) (call_one name e) rest

pub record PrefixSign (name : List ℕ) : Type 0 where
  pub token : Token
  pub says : Says name (λ m. name ++ m) (λ u. token ∷ u) Parenthesized
  pub no_word : is_one_of prefix_words name ≡ false
  pub joins : {ts rest : List Terminal} {e : ExpTree} → Reads post (open_paren ∷ ts) e rest → Reads unit (terminal token ∷ open_paren ∷ ts) (call_one name e) rest

pub before_blank : (name : List ℕ) (token : Token) → ((more : List ℕ) → item_at (name ++ 32 ∷ more) ≡ Lexeme token (length name)) → (more : List ℕ) → Spaced more
    → item_at (name ++ more) ≡ Lexeme token (length name)
before_blank name token item _ (spaced {more}) = item more

pub before_paren : (name : List ℕ) (token : Token) → ((more : List ℕ) → item_at (name ++ 40 ∷ more) ≡ Lexeme token (length name)) → (more : List ℕ) → Parenthesized more
    → item_at (name ++ more) ≡ Lexeme token (length name)
before_paren name token item _ (parenthesized {more}) = item more

-- ---- a property of each name in a list

abbrev pub EachName : (List ℕ → Type 0) → List (List ℕ) → Type 0
EachName P [] = Unit {0}
EachName P (name ∷ names) = P name × EachName P names

pub each_name : (P : List ℕ → Type 0) (names : List (List ℕ)) (name : List ℕ) → EachName P names → is_one_of names name ≡ true → P name
each_name P [] name each is = absurd (false≢true is)
each_name P (n ∷ ns) name each is =
    elim (cases_Bool (bytes_eq name n)) [
      | inl here ↦ subst P (sym ((bytes_eq-Decides name n).0 here)) each.0
      | inr other ↦ each_name P ns name each.1 (rw other at is)
    ]
