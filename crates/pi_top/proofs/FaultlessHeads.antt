-- No predicate of a program without a fault has a name that means something else.
use Rattle.std.proofs.Common.{◌≡◌, ℕ, zero, suc, ◌==◌, ◌&&◌, ◌||◌, not, true, false, List, [], ◌∷◌, map, Option, Some, None, refl, sym, subst, arith}
use Rattle.std.specs.Prelude.{is_some, codes}
use Rattle.std.specs.Str.{bytes_eq}
use Rattle.std.proofs.lemmas.Bool.{and_parts, not-true, false_from_ne_true, eqb-true}
use Rattle.pi_syntax.specs.ExpTree.{ExpTree, atom, call}
use Rattle.pi_syntax.specs.ProgramTree.{WrittenClause, rule, function, fact, ProgramTree}
use Rattle.pi_syntax.specs.Signature.{Signature, signature, exp_count}
use Rattle.pi_syntax.specs.Tokens.{Token}
use Rattle.pi_meaning.specs.OverNames.WrittenRules.{defined_by, heads, Defines}
use Rattle.pi_syntax.specs.Forms.{is_form}
use Rattle.pi_syntax.specs.Names.{kind_of}
use Rattle.pi_prog_clauses.specs.Calls.{Named}
use Rattle.pi_prog_clauses.specs.Items.{head_of, is_head}
use Rattle.pi_prog_clauses.specs.Operators.{is_goal_sign, is_relation, is_reified, is_membership, is_operator}
use Rattle.pi_prog_clauses.specs.Verdict.{a_program, JudgedPart, refused, libraries, one_clause, judged, is_built_in_signature, all_defined, parts_of, HasVerdict}
use Rattle.pi_meaning.specs.OverNames.Laws.{is_taken, HeadsAreFree}
use Rattle.pi_meaning.proofs.Shared.TableLemmas.{same-name, one-of}
use Rattle.pi_meaning.proofs.OverNames.BuiltInNames.{other-names-are_free}
use Rattle.pi_rewrite_sound.proofs.FaultlessParts.{AreGood, IsFaultless, faultless}

-- ---- forms are signs of the grammar

sign-named : (name spelling : List ℕ) (k j : ℕ) → (k == j) ≡ true → bytes_eq name spelling ≡ true → is_operator spelling j ≡ true → is_operator name k ≡ true
sign-named name spelling k j same equal h =
    subst (λ (i : ℕ). is_operator name i ≡ true) (sym (eqb-true k j same)) (subst (λ (n : List ℕ). is_operator n j ≡ true) (sym (same-name name spelling equal)) h)

two-signs : (name first second : List ℕ) (k j : ℕ) → is_operator first j ≡ true → is_operator second j ≡ true → ((k == j) && (bytes_eq name first || bytes_eq name second)) ≡ true → is_operator name k ≡ true
two-signs name first second k j a b h =
    let parts = and_parts (k == j) (bytes_eq name first || bytes_eq name second) h in
    one-of (bytes_eq name first) (bytes_eq name second) (is_operator name k) (λ e. sign-named name first k j parts.0 e a) (λ e. sign-named name second k j parts.0 e b) parts.1

form-is-sign : (name : List ℕ) (k : ℕ) → is_form name k ≡ true → is_operator name k ≡ true
unfolding is_operator is_goal_sign is_relation is_reified is_membership
form-is-sign name k h =
    one-of (k == 1 && (bytes_eq name (codes "not") || bytes_eq name (codes "once"))) (k == 2 && (bytes_eq name (codes ":=") || bytes_eq name (codes "in"))) (is_operator name k)
    (two-signs name (codes "not") (codes "once") k 1 refl refl) (two-signs name (codes ":=") (codes "in") k 2 refl refl) h

no-sign-no-form : (name : List ℕ) (k : ℕ) → not (is_operator name k) ≡ true → is_form name k ≡ false
no-sign-no-form name k h =
    let none : is_operator name k ≡ false = not-true (is_operator name k) h in
    false_from_ne_true (is_form name k) (λ e. let sign : is_operator name k ≡ true = form-is-sign name k e in absurd cc)

-- ---- heads

no-kind : {X : Type 0} (o : Option X) → is_some o ≡ false → o ≡ None
no-kind None h = refl
no-kind (Some x) h = absurd cc

signed : List ℕ → ℕ → Signature
signed name k = record { name = name; arity = k }

head-free : (head : ExpTree) → is_head head ≡ true → is_built_in_signature (signature head) ≡ false → (s : Signature) → signature head ≡ Some s → is_taken s.name s.arity ≡ false
unfolding signed
head-free (atom name) good own s e =
    let is : signed name 0 ≡ s = cc in
    subst (λ (t : Signature). is_taken t.name t.arity ≡ false) is (other-names-are_free name 0 (no-kind (kind_of name 0) own) refl)
head-free (call name es) good own s e =
    let is : signed name (exp_count es) ≡ s = cc in
    subst (λ (t : Signature). is_taken t.name t.arity ≡ false) is
    (other-names-are_free name (exp_count es) (no-kind (kind_of name (exp_count es)) own) (no-sign-no-form name (exp_count es) good))
head-free e good own s is = absurd cc

clause-free : (c : WrittenClause) → is_head (head_of c) ≡ true → is_built_in_signature (signature (head_of c)) ≡ false → (s : Signature) → defined_by (Some c) ≡ Some s → is_taken s.name s.arity ≡ false
clause-free (rule r) good own s e = head-free r.head good own s e
clause-free (function f) good own s e = absurd cc
clause-free (fact head) good own s e = absurd cc

-- ---- parts

one-more : (x : Option Signature) (xs : List (Option Signature)) → ((s : Signature) → x ≡ Some s → is_taken s.name s.arity ≡ false) →
    ((name : List ℕ) (k : ℕ) → Defines xs name k → is_taken name k ≡ false) → (name : List ℕ) (k : ℕ) → Defines (x ∷ xs) name k → is_taken name k ≡ false
one-more x xs here rest name k (zero, below, is) = here (record { name = name; arity = k }) is
one-more x xs here rest name k (suc i, below, is) = rest name k (i, omega (arith, below), is)

parts-free : (all : List Named) (js : List JudgedPart) → AreGood all js → HeadsAreFree (parts_of js)
parts-free all [] good = λ name k known. absurd (omega (arith, known.1))
parts-free all (refused fault ∷ js) good = absurd good
parts-free all (libraries names ∷ js) good = one-more None (heads (parts_of js)) (λ s e. absurd cc) (parts-free all js good)
parts-free all (one_clause j ∷ js) good =
    one-more (defined_by (Some j.clause)) (heads (parts_of js)) (clause-free j.clause good.0.head good.0.own) (parts-free all js good.1)

pub faultless-heads-are-free : (tokens : List Token) (program : ProgramTree) → HasVerdict tokens (a_program program) → HeadsAreFree program
faultless-heads-are-free tokens program has =
    let js : List JudgedPart = map judged has.readings in
    let is : IsFaultless program js = faultless tokens program has in
    subst HeadsAreFree (sym is.parts) (parts-free (all_defined js) js is.good)
