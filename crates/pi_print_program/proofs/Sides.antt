-- The two sides of a clause: a head, alone or with a value, units behind it, and what stands behind an arrow, where conjuncts stand as they are.
use Rattle.std.proofs.Common.{◌≡◌, ℕ, Bool, true, false, List, ◌∷◌, ◌++◌, map, Option, Some, None, refl, sym, subst, codes, if◌then◌else◌}
use Rattle.std.proofs.lemmas.Bool.{false≢true}
use Rattle.pi_print_program.specs.Canonical.{head_text, begins_declaration}
use Rattle.pi_prog_clauses.specs.Declaration.{declaration_words, declared, ModeList, mode_list, Modes, last_mode, more_modes}
use Rattle.pi_print_program.specs.CanonicalExp.{exp_text, exp_texts, top_text}
use Rattle.pi_print_program.specs.Texts.{each_behind, parted, in_parens as in_parens_text, comma as comma_text}
use Rattle.pi_syntax.specs.ExpTree.{ExpTree, and, ExpTrees, exp as exp_before}
use Rattle.pi_syntax.specs.Grammar.{Reads, exp, unit, post, call_two, conjunction, branches, last_branch, conjuncts, more_units, in_parens}
use Rattle.pi_syntax.specs.Terminals.{terminal, sign_terminal}
use Rattle.pi_syntax.specs.Tokens.{Token, Sign, Atom, is_one_of}
use Rattle.pi_syntax.specs.declared.program.Mode.{Mode}
use Rattle.pi_print_program.proofs.Says.{Says, says-at, says-nothing, says-then, Stops, Begins, spaced}
use Rattle.pi_print_program.proofs.Climb.{post_prim, unit_post, exp_unit}
use Rattle.pi_print_program.proofs.SignTexts.{two_place}
use Rattle.pi_print_program.proofs.Punctuation.{stop_blank, stop_comma, blank, comma_blank}
use Rattle.pi_print_program.proofs.Writes.{Writes, name_of}
use Rattle.pi_print_program.proofs.Sequences.{reads_exp, items-led, sequence}
use Rattle.pi_print_program.proofs.Forms.{parens, begins_paren}
use Rattle.pi_print_program.proofs.Tree.{Tree, TreeItems, Trees}
use Rattle.pi_print_program.proofs.Tree as t
use Rattle.pi_print_program.proofs.WrittenTrees.{writes, writes_items}

-- ---- heads

-- these tokens begin with no declaration and no mode list
pub record StartsClause (ts : List Token) : Type 0 where
  pub undeclared : declared ts ≡ None
  pub no_modes : (ms : List Mode) (rest : List Token) → ModeList ts ms rest → ⊥

atom_no_modes : {name : List ℕ} {ts rest : List Token} {ms : List Mode} → ModeList (Atom name ∷ ts) ms rest → ⊥
atom_no_modes (mode_list is modes) = false≢true is

no_mode : {m : Mode} → ◌≡◌ {A = Option Mode} None (Some m) → ⊥
no_mode e = cc

paren_no_modes : {name : List ℕ} {ts rest : List Token} {ms : List Mode} → Modes (Atom name ∷ ts) ms rest → ⊥
paren_no_modes (last_mode is closes) = no_mode is
paren_no_modes (more_modes is parts more) = no_mode is

parens_no_modes : {name : List ℕ} {ts rest : List Token} {ms : List Mode} → ModeList (Sign (codes "(") ∷ Atom name ∷ ts) ms rest → ⊥
parens_no_modes (mode_list is modes) = paren_no_modes modes

starts_atom : (name : List ℕ) (ts : List Token) → is_one_of declaration_words name ≡ false → StartsClause (Atom name ∷ ts)
starts_atom name ts other = record { undeclared = rw other refl; no_modes = λ ms rest m. atom_no_modes m }

starts_paren : (name : List ℕ) (ts : List Token) → StartsClause (Sign (codes "(") ∷ Atom name ∷ ts)
starts_paren name ts = record { undeclared = refl; no_modes = λ ms rest m. parens_no_modes m }

-- a text that is read as a tree between signs
pub record PostText (text : List ℕ) (e : ExpTree) : Type 0 where
  pub cs : List ℕ → List ℕ
  pub ts : List Token → List Token
  pub says : Says text cs ts Stops
  pub begins : (more : List ℕ) → Begins (cs more)
  pub starts : (us : List Token) → StartsClause (ts us)
  pub as_post : (us : List Token) → Reads post (map terminal (ts us)) e (map terminal us)

parens_head : {e : ExpTree} (name : List ℕ) → Writes e → name_of e ≡ Some name → PostText (in_parens_text (exp_text e)) e
unfolding sign_terminal
parens_head name w named = record {
  cs = λ m. 40 ∷ w.cs (41 ∷ m);
  ts = λ u. Sign (codes "(") ∷ w.ts (Sign (codes ")") ∷ u);
  says = parens w.says;
  begins = λ more. begins_paren _;
  starts = λ us. let (rest, same) = w.head name named (Sign (codes ")") ∷ us) in subst (λ (ts : List Token). StartsClause (Sign (codes "(") ∷ ts)) (sym same) (starts_paren name rest);
  as_post = λ us. post_prim (in_parens (reads_exp w (Sign (codes ")") ∷ us)));
}

plain_head : {e : ExpTree} (name : List ℕ) → Writes e → name_of e ≡ Some name → is_one_of declaration_words name ≡ false → PostText (exp_text e) e
plain_head name w named other = record {
  cs = w.cs;
  ts = w.ts;
  says = w.says;
  begins = w.begins;
  starts = λ us. let (rest, same) = w.head name named us in subst StartsClause (sym same) (starts_atom name rest other);
  as_post = w.as_post;
}

head_by : {e : ExpTree} (name : List ℕ) → Writes e → name_of e ≡ Some name → (declares : Bool) → is_one_of declaration_words name ≡ declares
    → PostText (if declares then in_parens_text (exp_text e) else exp_text e) e
head_by name w named true is = parens_head name w named
head_by name w named false is = plain_head name w named is

-- the name of a head
pub record HasName (e : ExpTree) : Type 0 where
  pub name : List ℕ
  pub is : name_of e ≡ Some name
  pub begins : is_one_of declaration_words name ≡ begins_declaration e

pub head_of : {e : ExpTree} → HasName e → Writes e → PostText (head_text e) e
head_of {e} named w = head_by named.name w named.is (begins_declaration e) named.begins

-- ---- a first unit

pub record UnitText (text : List ℕ) (e : ExpTree) : Type 0 where
  pub cs : List ℕ → List ℕ
  pub ts : List Token → List Token
  pub says : Says text cs ts Stops
  pub begins : (more : List ℕ) → Begins (cs more)
  pub starts : (us : List Token) → StartsClause (ts us)
  pub as_unit : (us : List Token) → Reads unit (map terminal (ts us)) e (map terminal us)

pub head_unit : {text : List ℕ} {e : ExpTree} → PostText text e → UnitText text e
head_unit h = record { cs = h.cs; ts = h.ts; says = h.says; begins = h.begins; starts = h.starts; as_unit = λ us. unit_post (h.as_post us) }

-- a head with its value
pub equation_unit : {text : List ℕ} {head value : ExpTree} → PostText text head → Writes value → UnitText (text ++ (codes " = " ++ exp_text value)) (call_two (codes "=") head value)
equation_unit {text} {head} {value} h w =
    let s = two_place (codes "=") refl in
    let equal : Says (codes " " ++ (codes "=" ++ codes " ")) (λ m. 32 ∷ 61 ∷ 32 ∷ m) (λ u. s.token ∷ u) _ = says-then blank (says-then s.says blank (λ more d. spaced)) (λ more d. refl) in
    record {
      cs = λ m. h.cs (32 ∷ 61 ∷ 32 ∷ w.cs m);
      ts = λ u. h.ts (s.token ∷ w.ts u);
      says = says-then h.says (says-then equal w.says (λ more d. (w.begins more).white)) (λ more d. stop_blank _);
      begins = λ more. h.begins _;
      starts = λ us. h.starts _;
      as_unit = λ us. s.joins (h.as_post (s.token ∷ w.ts us)) (w.as_post us);
    }

-- ---- sides

abbrev pub AnyTokens : List Token → Type 0
AnyTokens ts = Unit {0}

pub record Side (Starts : List Token → Type 0) (text : List ℕ) (e : ExpTree) : Type 0 where
  pub cs : List ℕ → List ℕ
  pub ts : List Token → List Token
  pub says : Says text cs ts Stops
  pub begins : (more : List ℕ) → Begins (cs more)
  pub starts : (us : List Token) → Starts (ts us)
  pub as_exp : (us : List Token) → Reads exp (map terminal (ts us)) e (map terminal us)

-- conjuncts as they stand
conjuncts_side : {text : List ℕ} {e : ExpTree} {es : ExpTrees} → UnitText text e → TreeItems es
    → Side StartsClause (text ++ each_behind comma_text (exp_texts es)) (conjunction (exp_before e es))
unfolding sign_terminal
conjuncts_side {text} {e} {es} h items =
    let is = writes_items items in
    let s = sequence is in
    let behind : Says (comma_text ++ parted comma_text (exp_texts es)) (λ m. 44 ∷ 32 ∷ s.cs m) (λ u. Sign (codes ",") ∷ s.ts u) Stops =
    says-then comma_blank s.says (λ more d. (s.begins more).white) in
    record {
      cs = λ m. h.cs (44 ∷ 32 ∷ s.cs m);
      ts = λ u. h.ts (Sign (codes ",") ∷ s.ts u);
      says = says-then h.says (says-at (items-led is) behind) (λ more d. stop_comma _);
      begins = λ more. h.begins _;
      starts = λ us. h.starts _;
      as_exp = λ us. branches (last_branch (conjuncts (more_units (h.as_unit (Sign (codes ",") ∷ s.ts us)) (s.units us))));
    }

-- a unit, and others behind it
pub left_side : {text : List ℕ} {e : ExpTree} {es : ExpTrees} → UnitText text e → Trees es → Side StartsClause (text ++ each_behind comma_text (exp_texts es)) (conjunction (exp_before e es))
unfolding exp_texts each_behind
left_side h t.none = record {
  cs = h.cs;
  ts = h.ts;
  says = says-then h.says (says-nothing Stops) (λ more d. d);
  begins = h.begins;
  starts = h.starts;
  as_exp = λ us. exp_unit (h.as_unit us);
}
left_side h (t.some items) = conjuncts_side h items

-- what stands on the right, with its conjuncts as they are
top_side : {e f : ExpTree} {es : ExpTrees} → TreeItems (exp_before e (exp_before f es)) → Side AnyTokens (top_text (and (exp_before e (exp_before f es)))) (and (exp_before e (exp_before f es)))
unfolding top_text
top_side items =
    let s = sequence (writes_items items) in
    record { cs = s.cs; ts = s.ts; says = s.says; begins = s.begins; starts = λ us. tt; as_exp = λ us. branches (last_branch (conjuncts (s.units us))) }

other_side : {e : ExpTree} → top_text e ≡ exp_text e → Tree e → Side AnyTokens (top_text e) e
other_side same u =
    let w = writes u in
    record { cs = w.cs; ts = w.ts; says = says-at same w.says; begins = w.begins; starts = λ us. tt; as_exp = λ us. reads_exp w us }

pub right_side : {e : ExpTree} → Tree e → Side AnyTokens (top_text e) e
unfolding top_text
right_side (t.conjuncts items) = top_side items
right_side (t.a_variable is) = other_side refl (t.a_variable is)
right_side (t.an_at is u other) = other_side refl (t.an_at is u other)
right_side (t.a_natural m same fits) = other_side refl (t.a_natural m same fits)
right_side (t.a_negative m same fits) = other_side refl (t.a_negative m same fits)
right_side (t.an_atom is) = other_side refl (t.an_atom is)
right_side (t.a_text is) = other_side refl (t.a_text is)
right_side (t.two is u v) = other_side refl (t.two is u v)
right_side (t.behind_word is u) = other_side refl (t.behind_word is u)
right_side (t.behind_sign is u) = other_side refl (t.behind_sign is u)
right_side (t.a_call is free us) = other_side refl (t.a_call is free us)
right_side (t.a_term u) = other_side refl (t.a_term u)
right_side (t.an_index takes u v) = other_side refl (t.an_index takes u v)
right_side t.no_list = other_side refl t.no_list
right_side (t.a_list us) = other_side refl (t.a_list us)
right_side (t.a_list_onto us u) = other_side refl (t.a_list_onto us u)
right_side t.no_array = other_side refl t.no_array
right_side (t.an_array us) = other_side refl (t.an_array us)
right_side (t.a_list_of u us) = other_side refl (t.a_list_of u us)
right_side (t.an_array_of u us) = other_side refl (t.an_array_of u us)
right_side (t.a_range u v) = other_side refl (t.a_range u v)
right_side (t.a_stepped_range u v w) = other_side refl (t.a_stepped_range u v w)
right_side (t.disjuncts us) = other_side refl (t.disjuncts us)
right_side (t.an_if us) = other_side refl (t.an_if us)
right_side (t.an_if_else us u) = other_side refl (t.an_if_else us u)
right_side (t.a_foreach us u) = other_side refl (t.a_foreach us u)
right_side (t.a_while u v) = other_side refl (t.a_while u v)
right_side (t.a_do_while u v) = other_side refl (t.a_do_while u v)
