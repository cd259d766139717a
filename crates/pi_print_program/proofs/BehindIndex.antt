-- The tokens of a clause are those of its part behind the `index`, in which no variable stands.
use Rattle.std.proofs.Common.{◌≡◌, ℕ, true, List, ◌∷◌, codes, Option, Some, refl, ◌∙◌}
use Rattle.std.specs.List.{list_any}
use Rattle.pi_prog_clauses.specs.Declaration.{Opening, indexing, is_sign, mode_of, Modes, last_mode, more_modes, ModeList, mode_list, ModeLists, no_more, one_more, Declares, indexes, Opens, declaration}
use Rattle.pi_prog_clauses.specs.Reading.{variable_names, ClauseOf, whole, behind_index}
use Rattle.pi_syntax.specs.Tokens.{Token, Var, Atom, Word, Int, Str, Sign, End}
use Rattle.pi_syntax.specs.declared.program.Mode.{Mode}
use Rattle.pi_print_program.specs.Reread.{HasPlainAtoms, spells_other}
use Rattle.pi_print_program.proofs.Calls.{neither}
use Rattle.pi_print_program.proofs.GoodTokens.{AreGoodTokens}

abbrev IsNameless : Token → Type 0
IsNameless t = (ts : List Token) → variable_names (t ∷ ts) ≡ variable_names ts

-- tokens that are no variables, and then the others
pub data Behind : List Token → List Token → Type 0 where
  all_of : {ts : List Token} → Behind ts ts
  behind_one : {t : Token} {ts rest : List Token} → IsNameless t → Behind ts rest → Behind (t ∷ ts) rest

behind_then : {ts mid rest : List Token} → Behind ts mid → Behind mid rest → Behind ts rest
behind_then all_of far = far
behind_then (behind_one none near) far = behind_one none (behind_then near far)

sign_nameless : (spelling : List ℕ) (t : Token) → is_sign spelling t ≡ true → IsNameless t
sign_nameless spelling (Sign sign) is ts = refl
sign_nameless spelling (Var name) is ts = absurd cc
sign_nameless spelling (Atom name) is ts = absurd cc
sign_nameless spelling (Word word) is ts = absurd cc
sign_nameless spelling (Int n) is ts = absurd cc
sign_nameless spelling (Str text) is ts = absurd cc
sign_nameless spelling End is ts = absurd cc

mode_nameless : (t : Token) (m : Mode) → mode_of t ≡ Some m → IsNameless t
mode_nameless (Sign sign) m is ts = refl
mode_nameless (Var name) m is ts = absurd cc
mode_nameless (Atom name) m is ts = absurd cc
mode_nameless (Word word) m is ts = absurd cc
mode_nameless (Int n) m is ts = absurd cc
mode_nameless (Str text) m is ts = absurd cc
mode_nameless End m is ts = absurd cc

behind_modes : {ts rest : List Token} {ms : List Mode} → Modes ts ms rest → Behind ts rest
behind_modes (last_mode {t} {close} {m = m} is closes) = behind_one (mode_nameless t m is) (behind_one (sign_nameless (codes ")") close closes) all_of)
behind_modes (more_modes {t} {comma} {m = m} is parts more) = behind_one (mode_nameless t m is) (behind_one (sign_nameless (codes ",") comma parts) (behind_modes more))

behind_list : {ts rest : List Token} {ms : List Mode} → ModeList ts ms rest → Behind ts rest
behind_list (mode_list {paren} is modes) = behind_one (sign_nameless (codes "(") paren is) (behind_modes modes)

behind_lists : {ts rest : List Token} {mss : List (List Mode)} → ModeLists ts mss rest → Behind ts rest
behind_lists (no_more none) = all_of
behind_lists (one_more listed lists) = behind_then (behind_list listed) (behind_lists lists)

behind_word : {name : List ℕ} {ts rest : List Token} {mss : List (List Mode)} → Declares name ts (indexing mss rest) → Behind ts rest
behind_word (indexes lists) = behind_lists lists

behind_declaration : {ts rest : List Token} {mss : List (List Mode)} → Opens ts (indexing mss rest) → Behind ts rest
behind_declaration (declaration is declares) = behind_one (λ ts. refl) (behind_word declares)

-- the clause of a part
pub clause_behind : {all ts : List Token} {o : Opening} {modes : Option (List (List Mode))} → Opens all o → ClauseOf all o modes ts → Behind all ts
clause_behind opens whole = all_of
clause_behind opens behind_index = behind_declaration opens

-- ---- what they have

pub behind_names : {ts rest : List Token} → Behind ts rest → variable_names ts ≡ variable_names rest
behind_names all_of = refl
behind_names (behind_one {ts = ts} none behind) = none ts ∙ behind_names behind

pub behind_good : {ts rest : List Token} → Behind ts rest → AreGoodTokens ts → AreGoodTokens rest
behind_good all_of good = good
behind_good (behind_one none behind) good = behind_good behind good.1

pub behind_plain : {ts rest : List Token} → Behind ts rest → HasPlainAtoms ts → HasPlainAtoms rest
behind_plain all_of plain = plain
behind_plain (behind_one {t} {ts} none behind) plain = behind_plain behind (neither (spells_other t) (list_any spells_other ts) plain).1
