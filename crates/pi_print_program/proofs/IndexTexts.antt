-- The text of an `index`: its tokens, and the mode lists that they declare.
use Rattle.std.proofs.Common.{◌≡◌, ℕ, List, [], ◌∷◌, ◌++◌, map, Some, refl, ap, ◌∙◌, codes, append_assoc}
use lib.Utf8.{encode}
use Rattle.pi_print_program.specs.Canonical.{mode_text, modes_text, declaration_text}
use Rattle.pi_print_program.specs.Texts.{each_behind, parted}
use Rattle.pi_prog_clauses.specs.Declaration.{indexing, mode_of, Modes, last_mode, more_modes, ModeList, mode_list, ModeLists, no_more, one_more, Declares, indexes, Opens, declaration}
use Rattle.pi_prog_clauses.specs.Reading.{variable_names}
use Rattle.pi_syntax.specs.Tokens.{Token, Lexeme, Atom, Sign, item_at, sign, is_end_point, is_reserved}
use Rattle.pi_syntax.specs.declared.program.Decl.TheVariants.{Index}
use Rattle.pi_syntax.specs.declared.program.Mode.{Mode}
use Rattle.pi_syntax.specs.declared.program.Mode.TheVariants.{Plus, Minus}
use Rattle.pi_print_program.proofs.Says.{Says, says-at, says-nothing, says-then, says-token, says-blank, item_some, Any, Stops, Dark}
use Rattle.pi_print_program.proofs.NameTokens.{name_token}
use Rattle.pi_print_program.proofs.Punctuation.{stop_blank, blank, open_paren, close_paren, comma_sign}
use Rattle.pi_print_program.proofs.Sequences.{each_behind-parted}

-- ---- modes

abbrev mode_token : Mode → Token
mode_token Plus = Sign (codes "+")
mode_token Minus = Sign (codes "-")

-- what a mode has behind it
data Closes : List ℕ → Type 0 where
  by_comma : {more : List ℕ} → Closes (44 ∷ more)
  by_paren : {more : List ℕ} → Closes (41 ∷ more)

plus_item : (more : List ℕ) → Closes more → item_at (43 ∷ more) ≡ Lexeme (Sign (43 ∷ [])) 1
unfolding sign is_end_point encode
plus_item _ by_comma = item_some _ _
plus_item _ by_paren = item_some _ _

minus_item : (more : List ℕ) → Closes more → item_at (45 ∷ more) ≡ Lexeme (Sign (45 ∷ [])) 1
unfolding sign is_end_point encode
minus_item _ by_comma = item_some _ _
minus_item _ by_paren = item_some _ _

mode_says : (m : Mode) → Says (mode_text m) (λ l. mode_text m ++ l) (λ u. mode_token m ∷ u) Closes
unfolding encode
mode_says Plus = says-token (codes "+") (codes "+") (Sign (codes "+")) Closes refl refl refl plus_item
mode_says Minus = says-token (codes "-") (codes "-") (Sign (codes "-")) Closes refl refl refl minus_item

mode_is : (m : Mode) → mode_of (mode_token m) ≡ Some m
mode_is Plus = refl
mode_is Minus = refl

nameless : (m : Mode) (us : List Token) → variable_names (mode_token m ∷ us) ≡ variable_names us
nameless Plus us = refl
nameless Minus us = refl

-- modes up to the closing parenthesis
record ModesText (ms : List Mode) : Type 0 where
  cs : List ℕ → List ℕ
  ts : List Token → List Token
  says : Says (parted (codes ",") (map mode_text ms) ++ codes ")") cs ts Any
  modes : (us : List Token) → Modes (ts us) ms us
  names : (us : List Token) → variable_names (ts us) ≡ variable_names us

modes_led : {ts rest : List Token} {ms : List Mode} → Modes ts ms rest → each_behind (codes ",") (map mode_text ms) ≡ codes "," ++ parted (codes ",") (map mode_text ms)
modes_led (last_mode {m = m} is closes) = each_behind-parted (codes ",") (mode_text m) []
modes_led (more_modes {m = m} {ms = ms} is parts more) = each_behind-parted (codes ",") (mode_text m) (map mode_text ms)

modes_text_of : {ts rest : List Token} {ms : List Mode} → Modes ts ms rest → ModesText ms
unfolding parted each_behind
modes_text_of (last_mode {m = m} is closes) = record {
  cs = λ l. mode_text m ++ 41 ∷ l;
  ts = λ u. mode_token m ∷ Sign (codes ")") ∷ u;
  says = says-then (says-then (mode_says m) (says-nothing Closes) (λ more h. h)) close_paren (λ more h. by_paren);
  modes = λ us. last_mode (mode_is m) refl;
  names = λ us. nameless m (Sign (codes ")") ∷ us);
}
modes_text_of (more_modes {m = m} {ms = ms} is parts more) =
    let s = modes_text_of more in
    let behind : Says (mode_text m ++ (codes "," ++ (parted (codes ",") (map mode_text ms) ++ codes ")"))) (λ l. mode_text m ++ 44 ∷ s.cs l) (λ u. mode_token m ∷ Sign (codes ",") ∷ s.ts u) Any =
    says-then (mode_says m) (says-then comma_sign s.says (λ more h. tt)) (λ more h. by_comma) in
    let same : (mode_text m ++ each_behind (codes ",") (map mode_text ms)) ++ codes ")" ≡ mode_text m ++ (codes "," ++ (parted (codes ",") (map mode_text ms) ++ codes ")")) =
    ap (λ l. (mode_text m ++ l) ++ codes ")") (modes_led more) ∙ append_assoc (mode_text m) (codes "," ++ parted (codes ",") (map mode_text ms)) (codes ")") in
    record {
      cs = λ l. mode_text m ++ 44 ∷ s.cs l;
      ts = λ u. mode_token m ∷ Sign (codes ",") ∷ s.ts u;
      says = says-at same behind;
      modes = λ us. more_modes (mode_is m) refl (s.modes us);
      names = λ us. nameless m (Sign (codes ",") ∷ s.ts us) ∙ s.names us;
    }

-- ---- mode lists

-- one in its parentheses
record ListText (ms : List Mode) : Type 0 where
  cs : List ℕ → List ℕ
  ts : List Token → List Token
  says : Says (modes_text ms) (λ l. 40 ∷ cs l) (λ u. Sign (codes "(") ∷ ts u) Any
  modes : (us : List Token) → ModeList (Sign (codes "(") ∷ ts us) ms us
  names : (us : List Token) → variable_names (ts us) ≡ variable_names us

list_text : {ts rest : List Token} {ms : List Mode} → ModeList ts ms rest → ListText ms
list_text (mode_list is modes) =
    let s = modes_text_of modes in
    record { cs = s.cs; ts = s.ts; says = says-then open_paren s.says (λ more h. tt); modes = λ us. mode_list refl (s.modes us); names = s.names }

data ListTexts : List (List Mode) → Type 0 where
  no_lists : ListTexts []
  more_lists : {ms : List Mode} {mss : List (List Mode)} → ListText ms → ListTexts mss → ListTexts (ms ∷ mss)

list_texts : {ts rest : List Token} {mss : List (List Mode)} → ModeLists ts mss rest → ListTexts mss
list_texts (no_more none) = no_lists
list_texts (one_more listed lists) = more_lists (list_text listed) (list_texts lists)

-- these tokens begin with no mode list
abbrev pub HasNoModes : List Token → Type 0
HasNoModes ts = (ms : List Mode) (rest : List Token) → ModeList ts ms rest → ⊥

-- mode lists up to the end of their line
record LinedText (mss : List (List Mode)) : Type 0 where
  cs : List ℕ → List ℕ
  ts : List Token → List Token
  says : Says (parted (codes " ") (map modes_text mss) ++ codes "\n") (λ l. 40 ∷ cs l) ts Dark
  lists : (us : List Token) → HasNoModes us → ModeLists (ts us) mss us
  names : (us : List Token) → variable_names (ts us) ≡ variable_names us

pub line_feed : Says (codes "\n") (λ m. 10 ∷ m) (λ u. u) Dark
unfolding encode
line_feed = says-blank 10 refl refl refl

lined_text : {ms : List Mode} {mss : List (List Mode)} → ListText ms → ListTexts mss → LinedText (ms ∷ mss)
unfolding parted each_behind
lined_text s no_lists = record {
  cs = λ l. s.cs (10 ∷ l);
  ts = λ u. Sign (codes "(") ∷ s.ts u;
  says = says-then (says-then s.says (says-nothing Any) (λ more h. h)) line_feed (λ more h. tt);
  lists = λ us none. one_more (s.modes us) (no_more none);
  names = s.names;
}
lined_text {ms} s (more_lists {ms = ns} {mss} t ts) =
    let u = lined_text t ts in
    let rest = parted (codes " ") (map modes_text (ns ∷ mss)) in
    let behind : Says (modes_text ms ++ (codes " " ++ (rest ++ codes "\n"))) (λ l. 40 ∷ s.cs (32 ∷ 40 ∷ u.cs l)) (λ us. Sign (codes "(") ∷ s.ts (u.ts us)) Dark =
    says-then s.says (says-then blank u.says (λ more h. refl)) (λ more h. tt) in
    let same : (modes_text ms ++ each_behind (codes " ") (map modes_text (ns ∷ mss))) ++ codes "\n" ≡ modes_text ms ++ (codes " " ++ (rest ++ codes "\n")) =
    ap (λ l. (modes_text ms ++ l) ++ codes "\n") (each_behind-parted (codes " ") (modes_text ns) (map modes_text mss)) ∙ append_assoc (modes_text ms) (codes " " ++ rest) (codes "\n") in
    record {
      cs = λ l. s.cs (32 ∷ 40 ∷ u.cs l);
      ts = λ us. Sign (codes "(") ∷ s.ts (u.ts us);
      says = says-at same behind;
      lists = λ us none. one_more (s.modes (u.ts us)) (u.lists us none);
      names = λ us. s.names (u.ts us) ∙ u.names us;
    }

-- ---- `index`

word_index : Says (codes "index") (λ m. codes "index" ++ m) (λ u. Atom (codes "index") ∷ u) Stops
unfolding is_reserved encode
word_index = says-token (codes "index") (codes "index") (Atom (codes "index")) Stops refl refl refl (λ more h. name_token 105 (110 ∷ 100 ∷ 101 ∷ 120 ∷ []) more refl refl h)

pub record IndexText (mss : List (List Mode)) : Type 0 where
  pub cs : List ℕ → List ℕ
  pub ts : List Token → List Token
  pub says : Says (declaration_text (Index mss)) cs ts Dark
  pub begins : (more : List ℕ) → Dark (cs more)
  -- whatever clause stands behind it
  pub opens : (us : List Token) → HasNoModes us → Opens (ts us) (indexing mss us)
  pub names : (us : List Token) → variable_names (ts us) ≡ variable_names us

index_lines : {ms : List Mode} {mss : List (List Mode)} → LinedText (ms ∷ mss) → IndexText (ms ∷ mss)
index_lines s = record {
  cs = λ l. codes "index " ++ 40 ∷ s.cs l;
  ts = λ u. Atom (codes "index") ∷ s.ts u;
  says = says-then (says-then word_index blank (λ more h. stop_blank _)) s.says (λ more h. refl);
  begins = λ more. refl;
  opens = λ us none. declaration refl (indexes (s.lists us none));
  names = s.names;
}

lists_index : {ts rest : List Token} {ms : List Mode} {mss : List (List Mode)} → ModeLists ts (ms ∷ mss) rest → IndexText (ms ∷ mss)
lists_index (one_more listed lists) = index_lines (lined_text (list_text listed) (list_texts lists))

declares_index : {name : List ℕ} {ts rest : List Token} {mss : List (List Mode)} → Declares name ts (indexing mss rest) → IndexText mss
declares_index (indexes lists) = lists_index lists

pub index_text : {ts rest : List Token} {mss : List (List Mode)} → Opens ts (indexing mss rest) → IndexText mss
index_text (declaration is declares) = declares_index declares
