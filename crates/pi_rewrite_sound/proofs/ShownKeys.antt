-- What the clauses of a program are of, by what they define; no name has two kinds, and none is one of the prelude's.
use Rattle.std.proofs.Common.{◌≡◌, inl, inr, ◌⊎◌, ℕ, zero, suc, Bool, true, false, List, [], ◌∷◌, ◌++◌, map, refl, ap, ◌∙◌, sym, subst, arith}
use Rattle.std.specs.Prelude.{◌==◌, ◌&&◌, not, Option, Some, None, is_some, Contains, codes}
use Rattle.std.specs.List.{list_any, cons_option}
use Rattle.std.specs.Str.{bytes_eq}
use Rattle.std.proofs.lemmas.Bool.{and_parts, or_parts, eqb-true, eq-eqb, false_from_ne_true, false≢true}
use Rattle.std.proofs.lemmas.Slice.Eq.{bytes_eq-Decides}
use Rattle.pi_syntax.specs.Names.{function_rows, predicate_rows, prelude_rows, kind_of}
use Rattle.pi_syntax.specs.ExpTree.{ExpTree, atom, call}
use Rattle.pi_syntax.specs.ProgramTree.{WrittenClause, rule, function, fact}
use Rattle.pi_syntax.specs.Signature.{Signature, signature, exp_count}
use Rattle.pi_meaning.specs.OverNames.WrittenRules.{is_signature}
use Rattle.pi_meaning.specs.OverNames.Prelude.{prelude}
use Rattle.pi_meaning.proofs.Shared.TableLemmas.{same-name, each-signed, signatures-hold}
use Rattle.pi_prog_clauses.specs.Calls.{Named, named, same_bool}
use Rattle.pi_prog_clauses.specs.Items.{head_of, is_head}
use Rattle.pi_prog_clauses.specs.Verdict.{JudgedPart, refused, libraries, one_clause, as_list, named_of, definition, all_defined, is_built_in_signature, is_other_kind, holds_other_kind, same_signature, parts_of}
use Rattle.pi_rewrite_laws.specs.Within.{Key, key_of, keys}
use Rattle.pi_rewrite_sound.proofs.FaultlessParts.{IsGood, AreGood}

abbrev pub signed : Named → Signature
signed d = record { name = d.name; arity = d.arity }

abbrev pub shown : Named → Key
shown d = record { kind = d.function; named = Some (signed d) }

-- ---- keys

head-key : (kind : Bool) (head : ExpTree) (ks : List Key) (ds : List Named) → is_head head ≡ true → ks ≡ map shown ds
    → (record { kind = kind; named = signature head } ∷ ks) ≡ map shown (as_list (named_of kind (signature head)) ++ ds)
head-key kind (atom name) ks ds good e = ap (λ rest. record { kind = kind; named = signature (atom name) } ∷ rest) e
head-key kind (call name es) ks ds good e = ap (λ rest. record { kind = kind; named = signature (call name es) } ∷ rest) e
head-key kind _ ks ds good e = absurd cc

clause-key : (c : WrittenClause) (ks : List Key) (ds : List Named) → is_head (head_of c) ≡ true → ks ≡ map shown ds → cons_option (key_of (Some c)) ks ≡ map shown (as_list (definition c) ++ ds)
clause-key (rule r) ks ds good e = head-key false r.head ks ds good e
clause-key (function f) ks ds good e = head-key true f.head ks ds good e
clause-key (fact head) ks ds good e = head-key false head ks ds good e

pub keys-shown : (all : List Named) (js : List JudgedPart) → AreGood all js → keys (parts_of js) ≡ map shown (all_defined js)
keys-shown all [] good = refl
keys-shown all (refused fault ∷ js) good = absurd good
keys-shown all (libraries names ∷ js) good = keys-shown all js good
keys-shown all (one_clause j ∷ js) good = clause-key j.clause (keys (parts_of js)) (all_defined js) good.0.head (keys-shown all js good.1)

-- ---- what is defined

pub none-of : {X : Type 0} (P : X → Bool) (xs : List X) → list_any P xs ≡ false → (x : X) → Contains xs x → P x ≡ false
none-of P [] none x (i, below, is) = absurd (omega (arith, below))
none-of P (y ∷ ys) none x (zero, below, is) = subst (λ z. P z ≡ false) is (or_parts (P y) (list_any P ys) none).0
none-of P (y ∷ ys) none x (suc i, below, is) = none-of P ys (or_parts (P y) (list_any P ys) none).1 x (i, omega (arith, below), is)

-- not built in, and of no other kind elsewhere
pub record IsOwn (all : List Named) (d : Named) : Type 0 where
  pub own : is_some (kind_of d.name d.arity) ≡ false
  pub kinds : list_any (is_other_kind (signed d) d.function) all ≡ false

own-named : (all : List Named) (kind : Bool) (o : Option Signature) (d : Named) → is_built_in_signature o ≡ false → holds_other_kind all kind o ≡ false → named_of kind o ≡ Some d → IsOwn all d
own-named all kind None d own kinds e = absurd cc
own-named all kind (Some s) d own kinds e =
    let is : named s.name s.arity kind ≡ d = cc in
    subst (IsOwn all) is (record { own = own; kinds = kinds })

own-clause : (all : List Named) (c : WrittenClause) (d : Named) → IsGood all c → definition c ≡ Some d → IsOwn all d
own-clause all (rule r) d good e = own-named all false (signature r.head) d good.own good.kinds e
own-clause all (function f) d good e = own-named all true (signature f.head) d good.own good.kinds e
own-clause all (fact head) d good e = own-named all false (signature head) d good.own good.kinds e

first-or-later : (o : Option Named) (ds : List Named) (d : Named) → Contains (as_list o ++ ds) d → (o ≡ Some d) ⊎ Contains ds d
first-or-later None ds d h = inr h
first-or-later (Some x) ds d (zero, below, is) = inl (ap Some is)
first-or-later (Some x) ds d (suc i, below, is) = inr (i, omega (arith, below), is)

pub all-own : (all : List Named) (js : List JudgedPart) → AreGood all js → (d : Named) → Contains (all_defined js) d → IsOwn all d
all-own all [] good d (i, below, is) = absurd (omega (arith, below))
all-own all (refused fault ∷ js) good d among = absurd good
all-own all (libraries names ∷ js) good d among = all-own all js good d among
all-own all (one_clause j ∷ js) good d among = elim (first-or-later (definition j.clause) (all_defined js) d among) [
  | inl here ↦ own-clause all j.clause d good.0 here
  | inr later ↦ all-own all js good.1 d later
]

same-kind : (a b c : Bool) → c ≡ true → (c && not (same_bool a b)) ≡ false → a ≡ b
same-kind true true c same h = refl
same-kind true false true same h = absurd cc
same-kind true false false same h = absurd cc
same-kind false true true same h = absurd cc
same-kind false true false same h = absurd cc
same-kind false false c same h = refl

-- a name has one kind
pub one-kind : (all : List Named) (d e : Named) → IsOwn all d → Contains all e → same_signature d e ≡ true → d.function ≡ e.function
one-kind all d e own among same = same-kind d.function e.function (same_signature d e) same (none-of (is_other_kind (signed d) d.function) all own.kinds e among)

-- ---- by names

pub same-signed : (d e : Named) → same_signature d e ≡ true → signed d ≡ signed e
same-signed d e same =
    let both = and_parts (bytes_eq d.name e.name) (d.arity == e.arity) same in
    ap (λ n. signed (named n d.arity d.function)) (same-name d.name e.name both.0) ∙ ap (λ m. signed (named e.name m d.function)) (eqb-true d.arity e.arity both.1)

name-in : Option Signature → List ℕ
name-in None = []
name-in (Some s) = s.name

arity-in : Option Signature → ℕ
arity-in None = 0
arity-in (Some s) = s.arity

both-hold : (a b : Bool) → a ≡ true → b ≡ true → (a && b) ≡ true
both-hold true b h e = e
both-hold false b h e = absurd cc

pub named-same : (d e : Named) → Some (signed d) ≡ Some (signed e) → same_signature d e ≡ true
unfolding name-in arity-in
named-same d e is =
    both-hold (bytes_eq d.name e.name) (d.arity == e.arity) ((bytes_eq-Decides d.name e.name).1 (ap name-in is)) (eq-eqb d.arity e.arity (ap arity-in is))

signed-itself : (d : Named) → is_signature d.name d.arity (Some (signed d)) ≡ true
signed-itself d = both-hold (bytes_eq d.name d.name) (d.arity == d.arity) ((bytes_eq-Decides d.name d.name).1 refl) (eq-eqb d.arity d.arity refl)

-- ---- names of the prelude

abbrev pub is_key_of : List ℕ → ℕ → Key → Bool
is_key_of name k key = is_signature name k key.named

abbrev pub prelude-key : List ℕ → ℕ → Key
prelude-key name k = record { kind = false; named = Some (record { name = name; arity = k }) }

-- of its predicates in their order, each with those before it, the nearest first
abbrev pub members : List Key
members = prelude-key (codes "member") 2 ∷ prelude-key (codes "member") 2 ∷ []

abbrev pub appends : List Key
appends = prelude-key (codes "append") 3 ∷ prelude-key (codes "append") 3 ∷ prelude-key (codes "append") 3 ∷ prelude-key (codes "append") 3 ∷ members

abbrev pub selects : List Key
selects = prelude-key (codes "select") 3 ∷ prelude-key (codes "select") 3 ∷ appends

abbrev pub prelude-before : List Key
prelude-before = prelude-key (codes "between") 3 ∷ prelude-key (codes "between") 3 ∷ selects

abbrev sign : List ℕ → ℕ → Signature
sign name k = record { name = name; arity = k }

before-signed : List Signature
before-signed =
    sign (codes "between") 3 ∷ sign (codes "between") 3 ∷ sign (codes "select") 3 ∷ sign (codes "select") 3 ∷
    sign (codes "append") 3 ∷ sign (codes "append") 3 ∷ sign (codes "append") 3 ∷ sign (codes "append") 3 ∷ sign (codes "member") 2 ∷ sign (codes "member") 2 ∷ []

front-signed : List Signature
front-signed =
    sign (codes "member") 2 ∷ sign (codes "member") 2 ∷ sign (codes "append") 3 ∷ sign (codes "append") 3 ∷ sign (codes "append") 3 ∷ sign (codes "append") 3 ∷
    sign (codes "select") 3 ∷ sign (codes "select") 3 ∷ sign (codes "between") 3 ∷ sign (codes "between") 3 ∷ []

not-prelude-before : (name : List ℕ) (k : ℕ) → is_some (kind_of name k) ≡ false → list_any (is_key_of name k) prelude-before ≡ false
unfolding before-signed each-signed kind_of function_rows predicate_rows prelude_rows
not-prelude-before name k own =
    false_from_ne_true (list_any (is_key_of name k) prelude-before)
    (λ h. false≢true (sym own ∙ signatures-hold (λ n j. is_some (kind_of n j)) before-signed refl name k h))

pub not-prelude : (name : List ℕ) (k : ℕ) → is_some (kind_of name k) ≡ false → list_any (is_key_of name k) (keys prelude) ≡ false
unfolding prelude exp_count front-signed each-signed kind_of function_rows predicate_rows prelude_rows
not-prelude name k own =
    false_from_ne_true (list_any (is_key_of name k) (keys prelude))
    (λ h. false≢true (sym own ∙ signatures-hold (λ n j. is_some (kind_of n j)) front-signed refl name k h))

not-among : (ks : List Key) (d : Named) (a : Key) → list_any (is_key_of d.name d.arity) ks ≡ false → Contains ks a → a.named ≡ Some (signed d) → ⊥
not-among ks d a none among is =
    false≢true (sym (none-of (is_key_of d.name d.arity) ks none a among) ∙ ap (is_signature d.name d.arity) is ∙ signed-itself d)

-- what is defined isn't the prelude's
pub not-before : (all : List Named) (d : Named) → IsOwn all d → Contains prelude-before (shown d) → ⊥
not-before all d own among = not-among prelude-before d (shown d) (not-prelude-before d.name d.arity own.own) among refl

pub not-in-front : (all : List Named) (d : Named) (a : Key) → IsOwn all d → Contains (keys prelude) a → a.named ≡ Some (signed d) → ⊥
not-in-front all d a own among is = not-among (keys prelude) d a (not-prelude d.name d.arity own.own) among is
