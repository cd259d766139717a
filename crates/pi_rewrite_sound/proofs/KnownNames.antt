-- A program has each predicate and each function that a call of a name of its own finds defined, and the prelude stands in front of it.
use Rattle.std.proofs.Common.{◌≡◌, inl, inr, ℕ, Bool, true, false, List, [], ◌∷◌, ◌++◌, refl, sym, ◌∙◌, subst}
use Rattle.std.specs.Prelude.{◌==◌, ◌&&◌, ◌||◌, not, cond, Option, Some, None, is_none, filter, filter_map}
use Rattle.std.specs.List.{list_any, cons_option}
use Rattle.std.specs.Str.{bytes_eq}
use Rattle.std.proofs.lemmas.Bool.{and_parts, or_cases, eqb-true, eq-eqb, false≢true}
use Rattle.std.proofs.lemmas.List.Folds.{list_any-append}
use Rattle.std.proofs.lemmas.Slice.Eq.{bytes_eq-Decides}
use Rattle.pi_syntax.specs.Forms.{is_form}
use Rattle.pi_syntax.specs.Names.{prelude_rows, is_listed, kind_of}
use Rattle.pi_syntax.specs.declared.builtin.BuiltinKind.{BuiltinKind}
use Rattle.pi_syntax.specs.ExpTree.{ExpTree}
use Rattle.pi_syntax.specs.ProgramTree.{FunctionTree, WrittenClause, rule, function, fact, PartTree, ProgramTree}
use Rattle.pi_syntax.specs.Signature.{Signature, signature, exp_count}
use Rattle.pi_meaning.specs.OverNames.WrittenRules.{is_signature}
use Rattle.pi_meaning.specs.OverNames.Rules.{predicate_head, function_in, is_head_of}
use Rattle.pi_meaning.specs.OverNames.Prelude.{prelude}
use Rattle.pi_meaning.specs.OverNames.Run.{is_some_head}
use Rattle.pi_meaning.proofs.Shared.TableLemmas.{same-name, each-from, each-row, rows-hold}
use Rattle.pi_prog_clauses.specs.Calls.{Named, named, is_kind, same_bool, same_named, is_known}
use Rattle.pi_prog_clauses.specs.GoalVerdict.{defined_by_clause, defined_by_program}
use Rattle.pi_prog_clauses.specs.Verdict.{as_list, named_of}
use Rattle.pi_rewrite_sound.specs.Built.{is_own}
use Rattle.pi_rewrite_laws.specs.Within.{is_some_function, knows}
use Rattle.pi_rewrite_sound.proofs.PlainNames.{prelude-listed}
use Rattle.pi_rewrite_sound.proofs.BuiltCalls.{Has}

-- ---- lists of what parts have

heads-found : (t : ExpTree → Bool) (xs : List ExpTree) → list_any t xs ≡ true → is_some_head (filter t xs) ≡ true
heads-found t [] h = absurd cc
heads-found t (x ∷ xs) h = go (t x) (heads-found t xs) h
  where
    go : (b : Bool) → (list_any t xs ≡ true → is_some_head (filter t xs) ≡ true) → (b || list_any t xs) ≡ true → is_some_head (cond b (x ∷ filter t xs) (filter t xs)) ≡ true
    go true rest h = refl
    go false rest h = rest h

functions-found : (t : FunctionTree → Bool) (xs : List FunctionTree) → list_any t xs ≡ true → is_some_function (filter t xs) ≡ true
functions-found t [] h = absurd cc
functions-found t (x ∷ xs) h = go (t x) (functions-found t xs) h
  where
    go : (b : Bool) → (list_any t xs ≡ true → is_some_function (filter t xs) ≡ true) → (b || list_any t xs) ≡ true → is_some_function (cond b (x ∷ filter t xs) (filter t xs)) ≡ true
    go true rest h = refl
    go false rest h = rest h

or-later : (a b : Bool) → b ≡ true → (a || b) ≡ true
or-later true b h = refl
or-later false b h = h

any-later : {X : Type 0} (t : X → Bool) (o : Option X) (xs : List X) → list_any t xs ≡ true → list_any t (cons_option o xs) ≡ true
any-later t None xs h = h
any-later t (Some x) xs h = or-later (t x) (list_any t xs) h

any-behind : {X : Type 0} (t : X → Bool) (f : PartTree → Option X) (qs ps : ProgramTree) → list_any t (filter_map f ps) ≡ true → list_any t (filter_map f (qs ++ ps)) ≡ true
any-behind t f [] ps h = h
any-behind t f (q ∷ qs) ps h = any-later t (f q) (filter_map f (qs ++ ps)) (any-behind t f qs ps h)

-- one of two tests of a list
any-option : {X : Type 0} (t : X → Bool) (o : Option X) (xs ys : List X) → (list_any t xs ≡ true → list_any t ys ≡ true) → list_any t (cons_option o xs) ≡ true → list_any t (cons_option o ys) ≡ true
any-option t None xs ys f h = f h
any-option t (Some x) xs ys f h = go (t x) h
  where
    go : (b : Bool) → (b || list_any t xs) ≡ true → (b || list_any t ys) ≡ true
    go true h = refl
    go false h = f h

any-front : {X : Type 0} (t : X → Bool) (f : PartTree → Option X) (qs ps : ProgramTree) → list_any t (filter_map f qs) ≡ true → list_any t (filter_map f (qs ++ ps)) ≡ true
any-front t f [] ps h = absurd cc
any-front t f (q ∷ qs) ps h = any-option t (f q) (filter_map f qs) (filter_map f (qs ++ ps)) (any-front t f qs ps) h

-- ---- what a clause defines

signed-same : (name : List ℕ) (k : ℕ) (s : Signature) → bytes_eq name s.name ≡ true → (k == s.arity) ≡ true → is_signature name k (Some s) ≡ true
signed-same name k s same equal =
    subst (λ (n : List ℕ). is_signature n k (Some s) ≡ true) (sym (same-name name s.name same))
    (subst (λ (j : ℕ). is_signature s.name j (Some s) ≡ true) (sym (eqb-true k s.arity equal)) (itself (bytes_eq s.name s.name) (s.arity == s.arity) ((bytes_eq-Decides s.name s.name).1 refl) (eq-eqb s.arity s.arity refl)))
  where
    itself : (a b : Bool) → a ≡ true → b ≡ true → (a && b) ≡ true
    itself true b h e = e
    itself false b h e = absurd cc

-- a name in a list of one or none
named-signature : (kind other : Bool) (name : List ℕ) (k : ℕ) (o : Option Signature) → list_any (same_named (named name k kind)) (as_list (named_of other o)) ≡ true → (is_signature name k o ≡ true) × (same_bool kind other ≡ true)
named-signature kind other name k None h = absurd cc
named-signature kind other name k (Some s) h = elim (or_cases (bytes_eq name s.name && (k == s.arity && same_bool kind other)) false h) [
  | inl is ↦
      let both = and_parts (bytes_eq name s.name) (k == s.arity && same_bool kind other) is in
      let rest = and_parts (k == s.arity) (same_bool kind other) both.1 in
      (signed-same name k s both.0 rest.0, rest.1)
  | inr none ↦ absurd (false≢true none)
]

or-now : (a b : Bool) → a ≡ true → (a || b) ≡ true
or-now true b h = refl
or-now false b h = absurd cc

predicate-here : (name : List ℕ) (k : ℕ) (c : Option WrittenClause) (heads : List ExpTree) → list_any (same_named (named name k false)) (defined_by_clause c) ≡ true → list_any (is_head_of name k) (cons_option (predicate_head c) heads) ≡ true
predicate-here name k None heads h = absurd cc
predicate-here name k (Some (rule r)) heads h = or-now (is_head_of name k r.head) (list_any (is_head_of name k) heads) (named-signature false false name k (signature r.head) h).0
predicate-here name k (Some (function f)) heads h = absurd (false≢true (named-signature false true name k (signature f.head) h).1)
predicate-here name k (Some (fact head)) heads h = or-now (is_head_of name k head) (list_any (is_head_of name k) heads) (named-signature false false name k (signature head) h).0

abbrev is_function_of : List ℕ → ℕ → FunctionTree → Bool
is_function_of name k = λ f. is_head_of name k f.head

function-here : (name : List ℕ) (k : ℕ) (c : Option WrittenClause) (functions : List FunctionTree) → list_any (same_named (named name k true)) (defined_by_clause c) ≡ true → list_any (is_function_of name k) (cons_option (function_in c) functions) ≡ true
function-here name k None functions h = absurd cc
function-here name k (Some (rule r)) functions h = absurd (false≢true (named-signature true false name k (signature r.head) h).1)
function-here name k (Some (function f)) functions h = or-now (is_head_of name k f.head) (list_any (is_function_of name k) functions) (named-signature true true name k (signature f.head) h).0
function-here name k (Some (fact head)) functions h = absurd (false≢true (named-signature true false name k (signature head) h).1)

-- ---- what a program defines

predicate-defined : (name : List ℕ) (k : ℕ) (ps : ProgramTree) → list_any (same_named (named name k false)) (defined_by_program ps) ≡ true → list_any (is_head_of name k) (filter_map (λ p. predicate_head p.clause) ps) ≡ true
predicate-defined name k [] h = absurd cc
predicate-defined name k (p ∷ ps) h =
    let t : Named → Bool = same_named (named name k false) in
    elim (or_cases (list_any t (defined_by_clause p.clause)) (list_any t (defined_by_program ps)) (sym (list_any-append t (defined_by_clause p.clause) (defined_by_program ps)) ∙ h)) [
      | inl here ↦ predicate-here name k p.clause (filter_map (λ q. predicate_head q.clause) ps) here
      | inr later ↦ any-later (is_head_of name k) (predicate_head p.clause) (filter_map (λ q. predicate_head q.clause) ps) (predicate-defined name k ps later)
    ]

function-defined : (name : List ℕ) (k : ℕ) (ps : ProgramTree) → list_any (same_named (named name k true)) (defined_by_program ps) ≡ true → list_any (is_function_of name k) (filter_map (λ p. function_in p.clause) ps) ≡ true
function-defined name k [] h = absurd cc
function-defined name k (p ∷ ps) h =
    let t : Named → Bool = same_named (named name k true) in
    elim (or_cases (list_any t (defined_by_clause p.clause)) (list_any t (defined_by_program ps)) (sym (list_any-append t (defined_by_clause p.clause) (defined_by_program ps)) ∙ h)) [
      | inl here ↦ function-here name k p.clause (filter_map (λ q. function_in q.clause) ps) here
      | inr later ↦ any-later (is_function_of name k) (function_in p.clause) (filter_map (λ q. function_in q.clause) ps) (function-defined name k ps later)
    ]

-- ---- names that the language doesn't give are those that are defined

none-of-kind : (kind : Bool) (o : Option BuiltinKind) → is_none o ≡ true → is_kind kind o ≡ false
none-of-kind kind None h = refl
none-of-kind kind (Some b) h = absurd cc

known-defined : (defined : List Named) (name : List ℕ) (k : ℕ) (kind : Bool) → is_own name k ≡ true → is_known defined (named name k kind) ≡ true → list_any (same_named (named name k kind)) defined ≡ true
known-defined defined name k kind own known = elim (or_cases (is_kind kind (kind_of name k)) (list_any (same_named (named name k kind)) defined) known) [
  | inl given ↦ absurd (false≢true (sym (none-of-kind kind (kind_of name k) (and_parts (not (is_form name k)) (is_none (kind_of name k)) own).1) ∙ given))
  | inr here ↦ here
]

-- ---- the prelude

in-prelude : (name : List ℕ) (k : ℕ) → is_listed prelude_rows name k ≡ true → list_any (is_head_of name k) (filter_map (λ p. predicate_head p.clause) prelude) ≡ true
unfolding prelude exp_count prelude_rows each-row each-from
in-prelude name k listed = rows-hold (λ n j. list_any (is_head_of n j) (filter_map (λ p. predicate_head p.clause) prelude)) prelude_rows refl name k listed

-- ---- the whole

pub program-has : (program : ProgramTree) → Has (defined_by_program program) (knows (prelude ++ program))
program-has program = record {
  predicate = λ name k own known.
      heads-found (is_head_of name k) (filter_map (λ p. predicate_head p.clause) (prelude ++ program))
      (any-behind (is_head_of name k) (λ p. predicate_head p.clause) prelude program (predicate-defined name k program (known-defined (defined_by_program program) name k false own known)));
  function = λ name k own known.
      functions-found (is_function_of name k) (filter_map (λ p. function_in p.clause) (prelude ++ program))
      (any-behind (is_function_of name k) (λ p. function_in p.clause) prelude program (function-defined name k program (known-defined (defined_by_program program) name k true own known)));
  prelude = λ name k written.
      heads-found (is_head_of name k) (filter_map (λ p. predicate_head p.clause) (prelude ++ program))
      (any-front (is_head_of name k) (λ p. predicate_head p.clause) prelude program (in-prelude name k (prelude-listed name k written)));
}
