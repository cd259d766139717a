-- How a part begins: with a declaration or without one. A declaration is `import` and names of libraries, or `index` and mode lists
-- with a fact behind them. (A User's Guide to Picat, 'Predicates and Functions'; that these two alone are there is own.)
use Rattle.std.specs.Prelude.{◌≡◌, ℕ, Bool, true, false, ◌&&◌, if◌then◌else◌, List, [], ◌∷◌, Option, Some, None, option_map, codes}
use Rattle.std.specs.Str.{bytes_eq}
use Rattle.pi_syntax.specs.Tokens.{Token, Atom, Sign, is_one_of}
use Rattle.pi_syntax.specs.declared.program.Mode.{Mode}

pub data Opening : Type 0 where
  -- with no declaration: all its tokens are its clause's
  undeclared : Opening
  -- names of libraries
  importing : List (List ℕ) → Opening
  -- mode lists, and the tokens behind them
  indexing : List (List Mode) → List Token → Opening
  -- with a declaration of no form
  misdeclared : Opening

-- the words that begin a declaration
abbrev pub declaration_words : List (List ℕ)
declaration_words = codes "import" ∷ codes "table" ∷ codes "index" ∷ codes "module" ∷ codes "private" ∷ []

abbrev pub libraries : List (List ℕ)
libraries = codes "basic" ∷ codes "cp" ∷ codes "planner" ∷ codes "sys" ∷ []

abbrev pub is_sign : List ℕ → Token → Bool
is_sign spelling (Sign sign) = bytes_eq sign spelling
is_sign spelling _ = false

-- names of libraries, parted by commas, that are all of the tokens
unfoldable pub imported : List Token → Option (List (List ℕ))
imported (Atom name ∷ []) = if is_one_of libraries name then Some (name ∷ []) else None
imported (Atom name ∷ comma ∷ ts) =
    if is_one_of libraries name && is_sign (codes ",") comma then option_map (λ names. name ∷ names) (imported ts) else None
imported _ = None

-- `+` or `-`
abbrev pub mode_of : Token → Option Mode
mode_of (Sign sign) = if bytes_eq sign (codes "+") then Some Mode.Plus else if bytes_eq sign (codes "-") then Some Mode.Minus else None
mode_of _ = None

-- From a mode on: the modes up to the closing parenthesis, parted by commas, and the tokens behind it.
pub data Modes : List Token → List Mode → List Token → Type 0 where
  last_mode : {t close : Token} {ts : List Token} {m : Mode} → mode_of t ≡ Some m → is_sign (codes ")") close ≡ true → Modes (t ∷ close ∷ ts) (m ∷ []) ts
  more_modes : {t comma : Token} {ts rest : List Token} {m : Mode} {ms : List Mode} → mode_of t ≡ Some m → is_sign (codes ",") comma ≡ true
      → Modes ts ms rest → Modes (t ∷ comma ∷ ts) (m ∷ ms) rest

-- a mode list in parentheses, and the tokens behind it
pub data ModeList : List Token → List Mode → List Token → Type 0 where
  mode_list : {paren : Token} {ts rest : List Token} {ms : List Mode} → is_sign (codes "(") paren ≡ true → Modes ts ms rest → ModeList (paren ∷ ts) ms rest

-- as many mode lists as stand there, and the tokens behind them, which begin with none
pub data ModeLists : List Token → List (List Mode) → List Token → Type 0 where
  no_more : {ts : List Token} → ((ms : List Mode) (rest : List Token) → ModeList ts ms rest → ⊥) → ModeLists ts [] ts
  one_more : {ts mid rest : List Token} {ms : List Mode} {mss : List (List Mode)} → ModeList ts ms mid → ModeLists mid mss rest → ModeLists ts (ms ∷ mss) rest

-- the word that begins a declaration, where the tokens begin with one
abbrev pub declared : List Token → Option (List ℕ)
declared (Atom name ∷ ts) = if is_one_of declaration_words name then Some name else None
declared _ = None

-- behind the declaration's word
pub data Declares : List ℕ → List Token → Opening → Type 0 where
  imports : {ts : List Token} {names : List (List ℕ)} → imported ts ≡ Some names → Declares (codes "import") ts (importing names)
  no_imports : {ts : List Token} → imported ts ≡ None → Declares (codes "import") ts misdeclared
  indexes : {ts rest : List Token} {ms : List Mode} {mss : List (List Mode)} → ModeLists ts (ms ∷ mss) rest → Declares (codes "index") ts (indexing (ms ∷ mss) rest)
  no_indexes : {ts : List Token} → ModeLists ts [] ts → Declares (codes "index") ts misdeclared
  -- none of these forms is here
  others : {name : List ℕ} {ts : List Token} → is_one_of (codes "table" ∷ codes "module" ∷ codes "private" ∷ []) name ≡ true → Declares name ts misdeclared

pub data Opens : List Token → Opening → Type 0 where
  clause_alone : {ts : List Token} → declared ts ≡ None → Opens ts undeclared
  declaration : {name : List ℕ} {ts : List Token} {o : Opening} → declared (Atom name ∷ ts) ≡ Some name → Declares name ts o → Opens (Atom name ∷ ts) o
