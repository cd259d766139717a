-- The text of an import: its tokens, and what they import.
use Rattle.std.proofs.Common.{◌≡◌, ℕ, Bool, true, false, ◌&&◌, List, [], ◌∷◌, ◌++◌, map, option_map, Option, Some, None, refl, subst, codes, if◌then◌else◌}
use Rattle.std.proofs.lemmas.Bool.{and_parts}
use lib.Utf8.{encode}
use Rattle.pi_print_program.specs.Texts.{each_behind, parted, comma as comma_text, name_text}
use Rattle.pi_prog_clauses.specs.Declaration.{importing, libraries, is_sign, imported, Declares, imports, Opens, declaration}
use Rattle.pi_syntax.specs.Tokens.{Token, Var, Atom, Word, Int, Str, Sign, End, is_reserved, is_one_of}
use Rattle.pi_print_program.proofs.Says.{Says, says-at, says-nothing, says-then, says-token, Stops, Begins, Dark}
use Rattle.pi_print_program.proofs.NameTokens.{name_token}
use Rattle.pi_print_program.proofs.NameTexts.{IsAtomName, OneToken, atom_token_text}
use Rattle.pi_print_program.proofs.Punctuation.{stop_blank, stop_comma, blank, comma_blank}
use Rattle.pi_print_program.proofs.Sequences.{each_behind-parted}
use Rattle.pi_print_program.proofs.SignForms.{each_name}

some_same : {X : Type 0} (x y : X) → Some x ≡ Some y → x ≡ y
some_same x y e = cc

-- ---- names of libraries

-- each of these names is a library's, and there is one
pub data AreLibraries : List (List ℕ) → Type 0 where
  last_library : {name : List ℕ} → is_one_of libraries name ≡ true → AreLibraries (name ∷ [])
  more_libraries : {name : List ℕ} {names : List (List ℕ)} → is_one_of libraries name ≡ true → AreLibraries names → AreLibraries (name ∷ names)

abbrev AreSo : Option (List (List ℕ)) → Type 0
AreSo o = (names : List (List ℕ)) → o ≡ Some names → AreLibraries names

alone : (named : Bool) (name : List ℕ) → is_one_of libraries name ≡ named → AreSo (if named then Some (name ∷ []) else None)
alone true name is names same = subst AreLibraries (some_same (name ∷ []) names same) (last_library is)
alone false name is names same = absurd cc

with_name : (name : List ℕ) (later : Option (List (List ℕ))) → is_one_of libraries name ≡ true → AreSo later → AreSo (option_map (λ names. name ∷ names) later)
with_name name None is so names same = absurd cc
with_name name (Some more) is so names same = subst AreLibraries (some_same (name ∷ more) names same) (more_libraries is (so more refl))

before_others : (goes : Bool) (name : List ℕ) (later : Option (List (List ℕ))) → (goes ≡ true → is_one_of libraries name ≡ true) → AreSo later
    → AreSo (if goes then option_map (λ names. name ∷ names) later else None)
before_others true name later is so names same = with_name name later (is refl) so names same
before_others false name later is so names same = absurd cc

pub libraries_named : (ts : List Token) → AreSo (imported ts)
unfolding imported
libraries_named [] names same = absurd cc
libraries_named (Atom name ∷ []) names same = alone (is_one_of libraries name) name refl names same
libraries_named (Atom name ∷ t ∷ ts) names same =
    before_others (is_one_of libraries name && is_sign (codes ",") t) name (imported ts) (λ goes. (and_parts (is_one_of libraries name) (is_sign (codes ",") t) goes).0) (libraries_named ts) names same
libraries_named (Var name ∷ ts) names same = absurd cc
libraries_named (Word word ∷ ts) names same = absurd cc
libraries_named (Int n ∷ ts) names same = absurd cc
libraries_named (Str text ∷ ts) names same = absurd cc
libraries_named (Sign spelling ∷ ts) names same = absurd cc
libraries_named (End ∷ ts) names same = absurd cc

basic : IsAtomName (codes "basic")
unfolding encode
basic = record { utf8 = (codes "basic", (refl, refl)); other = refl }

cp : IsAtomName (codes "cp")
unfolding encode
cp = record { utf8 = (codes "cp", (refl, refl)); other = refl }

planner : IsAtomName (codes "planner")
unfolding encode
planner = record { utf8 = (codes "planner", (refl, refl)); other = refl }

sys : IsAtomName (codes "sys")
unfolding encode
sys = record { utf8 = (codes "sys", (refl, refl)); other = refl }

library_text : (name : List ℕ) → is_one_of libraries name ≡ true → OneToken (name_text name) (Atom name)
library_text name is = atom_token_text name (each_name IsAtomName libraries name (basic, (cp, (planner, (sys, tt)))) is)

record NamesText (names : List (List ℕ)) : Type 0 where
  cs : List ℕ → List ℕ
  ts : List Token → List Token
  says : Says (parted comma_text (map name_text names)) cs ts Stops
  begins : (more : List ℕ) → Begins (cs more)
  named : imported (ts []) ≡ Some names

names_led : {names : List (List ℕ)} → AreLibraries names → each_behind comma_text (map name_text names) ≡ comma_text ++ parted comma_text (map name_text names)
names_led (last_library {name} is) = each_behind-parted comma_text (name_text name) []
names_led (more_libraries {name} {names} is ls) = each_behind-parted comma_text (name_text name) (map name_text names)

names_text : {names : List (List ℕ)} → AreLibraries names → NamesText names
unfolding parted each_behind imported
names_text (last_library {name} is) =
    let t = library_text name is in
    record {
      cs = t.cs;
      ts = λ u. Atom name ∷ u;
      says = says-then t.says (says-nothing Stops) (λ more h. h);
      begins = t.begins;
      named = rw is refl;
    }
names_text (more_libraries {name} {names} is ls) =
    let s = names_text ls in
    let t = library_text name is in
    let behind : Says (comma_text ++ parted comma_text (map name_text names)) (λ m. 44 ∷ 32 ∷ s.cs m) (λ u. Sign (codes ",") ∷ s.ts u) Stops =
    says-then comma_blank s.says (λ more h. (s.begins more).white) in
    record {
      cs = λ m. t.cs (44 ∷ 32 ∷ s.cs m);
      ts = λ u. Atom name ∷ Sign (codes ",") ∷ s.ts u;
      says = says-then t.says (says-at (names_led ls) behind) (λ more h. stop_comma _);
      begins = λ more. t.begins _;
      named = rw (is, s.named) refl;
    }

-- ---- `import`

word_import : Says (codes "import") (λ m. codes "import" ++ m) (λ u. Atom (codes "import") ∷ u) Stops
unfolding is_reserved encode
word_import = says-token (codes "import") (codes "import") (Atom (codes "import")) Stops refl refl refl (λ more h. name_token 105 (109 ∷ 112 ∷ 111 ∷ 114 ∷ 116 ∷ []) more refl refl h)

-- before its end point
pub record ImportText (names : List (List ℕ)) : Type 0 where
  pub cs : List ℕ → List ℕ
  pub ts : List Token → List Token
  pub says : Says (codes "import " ++ parted comma_text (map name_text names)) cs ts Stops
  pub begins : (more : List ℕ) → Dark (cs more)
  pub opens : Opens (ts []) (importing names)

pub import_text : {names : List (List ℕ)} → AreLibraries names → ImportText names
import_text ls =
    let s = names_text ls in
    record {
      cs = λ m. codes "import " ++ s.cs m;
      ts = λ u. Atom (codes "import") ∷ s.ts u;
      says = says-then (says-then word_import blank (λ more h. stop_blank _)) s.says (λ more h. (s.begins more).white);
      begins = λ more. refl;
      opens = declaration refl (imports s.named);
    }

-- ---- what was imported

declares_imports : {name : List ℕ} {ts : List Token} {names : List (List ℕ)} → Declares name ts (importing names) → AreLibraries names
declares_imports (imports {ts} {names} is) = libraries_named ts names is

pub opens_imports : {ts : List Token} {names : List (List ℕ)} → Opens ts (importing names) → AreLibraries names
opens_imports (declaration is declares) = declares_imports declares
