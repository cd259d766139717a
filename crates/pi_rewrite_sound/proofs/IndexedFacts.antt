-- In a program without a fault each predicate has rules alone or facts alone, and before its first fact stands an `index`, whose mode lists are as long as the fact has arguments.
use Rattle.std.proofs.Common.{◌≡◌, ◌⊎◌, inl, inr, ℕ, Bool, true, false, cond, List, [], ◌∷◌, ◌++◌, length, refl, ap, ◌∙◌, sym, subst}
use Rattle.std.specs.Prelude.{◌==◌, ◌&&◌, ◌||◌, not, Option, Some, None, is_some, filter, filter_map, All}
use Rattle.std.specs.List.{list_any, cons_option}
use Rattle.std.specs.Str.{bytes_eq}
use Rattle.std.proofs.lemmas.Bool.{and_parts, or_parts, eqb-true, eq-eqb, false≢true}
use Rattle.std.proofs.lemmas.List.Elements.{All-nil, All-cons}
use Rattle.std.proofs.lemmas.List.Folds.{list_any-append}
use Rattle.std.proofs.lemmas.Slice.Eq.{bytes_eq-Decides}
use Rattle.pi_syntax.specs.Names.{kind_of}
use Rattle.pi_syntax.specs.ExpTree.{ExpTree, atom, call}
use Rattle.pi_syntax.specs.ProgramTree.{WrittenClause, rule, function, fact, ProgramTree}
use Rattle.pi_syntax.specs.Signature.{Signature, signature, exp_count}
use Rattle.pi_syntax.specs.declared.program.Mode.{Mode}
use Rattle.pi_core.specs.CoreTree.{index_of}
use Rattle.pi_meaning.specs.OverNames.WrittenRules.{is_signature, is_rule_of, rule_in, rules_of, head_arguments}
use Rattle.pi_meaning.specs.OverNames.Rules.{fact_head, is_head_of, is_head_in, rules_named, facts_named}
use Rattle.pi_meaning.specs.OverNames.Prelude.{prelude}
use Rattle.pi_meaning.proofs.Shared.TableLemmas.{same-name}
use Rattle.pi_prog_clauses.specs.Calls.{Named, named}
use Rattle.pi_prog_clauses.specs.Items.{head_of, is_function, is_fact, is_head}
use Rattle.pi_prog_clauses.specs.Verdict.{JudgedClause, JudgedPart, refused, libraries, one_clause, as_list, named_of, defined_by, indexed_by, all_defined, all_indexed, is_of, holds, has_other_length, is_built_in_signature, is_kind_of_other, decl_of, parts_of}
use Rattle.pi_rewrite_laws.specs.Within.{AreModes, key_of, keys, declared_if, declared_before, BeginsWithModes, IsIndexed}
use Rattle.pi_rewrite_sound.proofs.FaultlessParts.{IsGood, AreGood, IsIndexedWell, AreIndexedWell}
use Rattle.pi_rewrite_sound.proofs.ShownKeys.{is_key_of, not-prelude}

-- ---- mode lists

lengths : (k : ℕ) (lists : List (List Mode)) → list_any (λ modes. not (length modes == k)) lists ≡ false → All (λ modes. length modes ≡ k) lists
lengths k [] h = All-nil (λ modes. length modes ≡ k)
lengths k (modes ∷ lists) h =
    let both = or_parts (not (length modes == k)) (list_any (λ ms. not (length ms == k)) lists) h in
    All-cons (λ ms. length ms ≡ k) modes lists (eqb-true (length modes) k (but (length modes == k) both.0)) (lengths k lists both.1)
  where
    but : (b : Bool) → not b ≡ false → b ≡ true
    but true h = refl
    but false h = absurd cc

fit : (head : ExpTree) (lists : List (List Mode)) → is_head head ≡ true → has_other_length (Some lists) (signature head) ≡ false → All (λ modes. length modes ≡ exp_count (head_arguments head)) lists
unfolding exp_count
fit (atom name) lists good h = lengths 0 lists h
fit (call name es) lists good h = lengths (exp_count es) lists h
fit _ lists good h = absurd cc

pub modes-fit : (all : List Named) (before : List JudgedPart) (j : JudgedClause) → IsGood all j.clause → IsIndexedWell before j → AreModes (index_of (decl_of j.modes)) (Some j.clause)
modes-fit all before j good well = go j.modes j.clause good.head well.lengths well.kind
  where
    go : (m : Option (List (List Mode))) (c : WrittenClause) → is_head (head_of c) ≡ true → has_other_length m (signature (head_of c)) ≡ false →
        is_kind_of_other (is_fact c) (is_some m || holds (all_indexed before) (signature (head_of c))) ≡ false → AreModes (index_of (decl_of m)) (Some c)
    go None c good lengths kind = tt
    go (Some lists) (rule r) good lengths kind = absurd cc
    go (Some lists) (function f) good lengths kind = absurd cc
    go (Some lists) (fact head) good lengths kind = fit head lists good lengths

-- ---- of one name

abbrev sign : List ℕ → ℕ → Signature
sign name k = record { name = name; arity = k }

both-true : (a b : Bool) → a ≡ true → b ≡ true → (a && b) ≡ true
both-true true b h e = e
both-true false b h e = absurd cc

-- a head of this name
signature-is : (name : List ℕ) (k : ℕ) (o : Option Signature) → is_signature name k o ≡ true → o ≡ Some (sign name k)
signature-is name k None h = absurd cc
signature-is name k (Some s) h =
    let both = and_parts (bytes_eq s.name name) (s.arity == k) h in
    ap (λ n. Some (sign n s.arity)) (same-name s.name name both.0) ∙ ap (λ j. Some (sign name j)) (eqb-true s.arity k both.1)

-- and of another one
other-name : (name : List ℕ) (k : ℕ) (kind : Bool) (o : Option Signature) → is_signature name k o ≡ false → list_any (is_of (sign name k)) (as_list (named_of kind o)) ≡ false
other-name name k kind None h = refl
other-name name k kind (Some s) h = go (bytes_eq name s.name && k == s.arity) refl
  where
    go : (b : Bool) → (bytes_eq name s.name && k == s.arity) ≡ b → (b || false) ≡ false
    go false is = refl
    go true is =
        let both = and_parts (bytes_eq name s.name) (k == s.arity) is in
        absurd (false≢true (sym h ∙ both-true (bytes_eq s.name name) (s.arity == k) ((bytes_eq-Decides s.name name).1 (sym (same-name name s.name both.0))) (eq-eqb s.arity k (sym (eqb-true k s.arity both.1)))))

this-name : (name : List ℕ) (k : ℕ) → is_of (sign name k) (named name k false) ≡ true
this-name name k = both-true (bytes_eq name name) (k == k) ((bytes_eq-Decides name name).1 refl) (eq-eqb k k refl)

defined-more : (before : List JudgedPart) (p : JudgedPart) → all_defined (before ++ p ∷ []) ≡ all_defined before ++ as_list (defined_by p)
defined-more [] p = nothing (defined_by p)
  where
    nothing : (o : Option Named) → as_list o ++ [] ≡ as_list o
    nothing None = refl
    nothing (Some d) = refl
defined-more (q ∷ before) p = front (defined_by q) (defined-more before p)
  where
    front : (o : Option Named) → all_defined (before ++ p ∷ []) ≡ all_defined before ++ as_list (defined_by p) → as_list o ++ all_defined (before ++ p ∷ []) ≡ (as_list o ++ all_defined before) ++ as_list (defined_by p)
    front None rest = rest
    front (Some d) rest = ap (λ ds. d ∷ ds) rest

indexed-more : (before : List JudgedPart) (p : JudgedPart) → all_indexed (before ++ p ∷ []) ≡ all_indexed before ++ as_list (indexed_by p)
indexed-more [] p = nothing (indexed_by p)
  where
    nothing : (o : Option Named) → as_list o ++ [] ≡ as_list o
    nothing None = refl
    nothing (Some d) = refl
indexed-more (q ∷ before) p = front (indexed_by q) (indexed-more before p)
  where
    front : (o : Option Named) → all_indexed (before ++ p ∷ []) ≡ all_indexed before ++ as_list (indexed_by p) → as_list o ++ all_indexed (before ++ p ∷ []) ≡ (as_list o ++ all_indexed before) ++ as_list (indexed_by p)
    front None rest = rest
    front (Some d) rest = ap (λ ds. d ∷ ds) rest

-- ---- what clauses of one name are

none-kept : {A : Type 0} (c : Bool) (x : A) (xs : List A) → c ≡ false → xs ≡ [] → cond c (x ∷ xs) xs ≡ []
none-kept true x xs is rest = absurd cc
none-kept false x xs is rest = rest

-- a clause that is none of this name
abbrev IsOther : List ℕ → ℕ → WrittenClause → Type 0
IsOther name k c = is_signature name k (signature (head_of c)) ≡ false

rules-behind : (name : List ℕ) (k : ℕ) (c : WrittenClause) (ps : ProgramTree) → (is_fact c ≡ true) ⊎ IsOther name k c → rules_named name k ps ≡ [] → filter (is_rule_of name k) (cons_option (rule_in (Some c)) (rules_of ps)) ≡ []
rules-behind name k (rule r) ps (inl is) none = absurd cc
rules-behind name k (rule r) ps (inr other) none = none-kept (is_rule_of name k r) r (rules_named name k ps) other none
rules-behind name k (function f) ps h none = none
rules-behind name k (fact head) ps h none = none

facts-behind : (name : List ℕ) (k : ℕ) (c : WrittenClause) (ps : ProgramTree) → (is_fact c ≡ false) ⊎ IsOther name k c → facts_named name k ps ≡ [] → filter (is_head_of name k) (cons_option (fact_head (Some c)) (filter_map (λ p. fact_head p.clause) ps)) ≡ []
facts-behind name k (rule r) ps h none = none
facts-behind name k (function f) ps h none = none
facts-behind name k (fact head) ps (inl is) none = absurd cc
facts-behind name k (fact head) ps (inr other) none = none-kept (is_head_of name k head) head (facts_named name k ps) other none

-- no fact, nothing stands before one
nothing-declared : (name : List ℕ) (k : ℕ) (ps : ProgramTree) → facts_named name k ps ≡ [] → declared_before name k ps ≡ []
nothing-declared name k [] none = refl
nothing-declared name k (p ∷ ps) none = go p.clause none (nothing-declared name k ps)
  where
    tested : (c : Bool) (head : ExpTree) → cond c (head ∷ facts_named name k ps) (facts_named name k ps) ≡ [] → (facts_named name k ps ≡ [] → declared_before name k ps ≡ []) →
        cons_option (declared_if c (index_of p.decl)) (declared_before name k ps) ≡ []
    tested true head none rest = absurd cc
    tested false head none rest = rest none

    go : (o : Option WrittenClause) → filter (is_head_of name k) (cons_option (fact_head o) (filter_map (λ q. fact_head q.clause) ps)) ≡ [] → (facts_named name k ps ≡ [] → declared_before name k ps ≡ []) →
        cons_option (declared_if (is_head_in name k (fact_head o)) (index_of p.decl)) (declared_before name k ps) ≡ []
    go None none rest = rest none
    go (Some (rule r)) none rest = rest none
    go (Some (function f)) none rest = rest none
    go (Some (fact head)) none rest = tested (is_head_of name k head) head none rest

first-of-none : (name : List ℕ) (k : ℕ) (ps : ProgramTree) → facts_named name k ps ≡ [] → BeginsWithModes (declared_before name k ps)
first-of-none name k ps none = subst BeginsWithModes (sym (nothing-declared name k ps none)) tt

-- ---- behind what stands before

-- whether those before define the name, and whether they index it
abbrev IsDefined : List ℕ → ℕ → List JudgedPart → Bool → Type 0
IsDefined name k before b = list_any (is_of (sign name k)) (all_defined before) ≡ b

abbrev HasIndex : List ℕ → ℕ → List JudgedPart → Bool → Type 0
HasIndex name k before b = list_any (is_of (sign name k)) (all_indexed before) ≡ b

defined-on : (name : List ℕ) (k : ℕ) (before : List JudgedPart) (p : JudgedPart) (b : Bool) → IsDefined name k before b → list_any (is_of (sign name k)) (as_list (defined_by p)) ≡ false → IsDefined name k (before ++ p ∷ []) b
defined-on name k before p b is none =
    ap (list_any (is_of (sign name k))) (defined-more before p) ∙ list_any-append (is_of (sign name k)) (all_defined before) (as_list (defined_by p)) ∙ ap (λ c. list_any (is_of (sign name k)) (all_defined before) || c) none ∙ ap (λ c. c || false) is ∙ same b
  where
    same : (b : Bool) → (b || false) ≡ b
    same true = refl
    same false = refl

indexed-on : (name : List ℕ) (k : ℕ) (before : List JudgedPart) (p : JudgedPart) (b : Bool) → HasIndex name k before b → list_any (is_of (sign name k)) (as_list (indexed_by p)) ≡ false → HasIndex name k (before ++ p ∷ []) b
indexed-on name k before p b is none =
    ap (list_any (is_of (sign name k))) (indexed-more before p) ∙ list_any-append (is_of (sign name k)) (all_indexed before) (as_list (indexed_by p)) ∙ ap (λ c. list_any (is_of (sign name k)) (all_indexed before) || c) none ∙ ap (λ c. c || false) is ∙ same b
  where
    same : (b : Bool) → (b || false) ≡ b
    same true = refl
    same false = refl

last-too : (a b : Bool) → b ≡ true → (a || b) ≡ true
last-too true b h = refl
last-too false b h = h

defined-now : (name : List ℕ) (k : ℕ) (before : List JudgedPart) (p : JudgedPart) → list_any (is_of (sign name k)) (as_list (defined_by p)) ≡ true → IsDefined name k (before ++ p ∷ []) true
defined-now name k before p is =
    ap (list_any (is_of (sign name k))) (defined-more before p) ∙ list_any-append (is_of (sign name k)) (all_defined before) (as_list (defined_by p)) ∙ last-too (list_any (is_of (sign name k)) (all_defined before)) _ is

indexed-now : (name : List ℕ) (k : ℕ) (before : List JudgedPart) (p : JudgedPart) → list_any (is_of (sign name k)) (as_list (indexed_by p)) ≡ true → HasIndex name k (before ++ p ∷ []) true
indexed-now name k before p is =
    ap (list_any (is_of (sign name k))) (indexed-more before p) ∙ list_any-append (is_of (sign name k)) (all_indexed before) (as_list (indexed_by p)) ∙ last-too (list_any (is_of (sign name k)) (all_indexed before)) _ is

indexed-still : (name : List ℕ) (k : ℕ) (before : List JudgedPart) (p : JudgedPart) → HasIndex name k before true → HasIndex name k (before ++ p ∷ []) true
indexed-still name k before p is =
    ap (list_any (is_of (sign name k))) (indexed-more before p) ∙ list_any-append (is_of (sign name k)) (all_indexed before) (as_list (indexed_by p)) ∙ ap (λ c. c || list_any (is_of (sign name k)) (as_list (indexed_by p))) is

-- what a clause of another name defines and indexes
others-define : (name : List ℕ) (k : ℕ) (j : JudgedClause) → IsOther name k j.clause → list_any (is_of (sign name k)) (as_list (defined_by (one_clause j))) ≡ false
others-define name k j other = other-name name k (is_function j.clause) (signature (head_of j.clause)) other

others-index : (name : List ℕ) (k : ℕ) (j : JudgedClause) → IsOther name k j.clause → list_any (is_of (sign name k)) (as_list (indexed_by (one_clause j))) ≡ false
others-index name k j other = go (is_some j.modes)
  where
    go : (b : Bool) → list_any (is_of (sign name k)) (as_list (cond b (named_of false (signature (head_of j.clause))) None)) ≡ false
    go true = other-name name k false (signature (head_of j.clause)) other
    go false = refl

-- what one of this name does
this-defines : (name : List ℕ) (k : ℕ) (j : JudgedClause) → signature (head_of j.clause) ≡ Some (sign name k) → list_any (is_of (sign name k)) (as_list (defined_by (one_clause j))) ≡ true
this-defines name k j is =
    ap (λ (o : Option Signature). list_any (is_of (sign name k)) (as_list (named_of (is_function j.clause) o))) is ∙ ap (λ b. b || false) (this-name name k)

this-indexes : (name : List ℕ) (k : ℕ) (j : JudgedClause) → signature (head_of j.clause) ≡ Some (sign name k) → is_some j.modes ≡ true → list_any (is_of (sign name k)) (as_list (indexed_by (one_clause j))) ≡ true
this-indexes name k j is some =
    ap (λ b. list_any (is_of (sign name k)) (as_list (cond b (named_of false (signature (head_of j.clause))) None))) some
    ∙ ap (λ (o : Option Signature). list_any (is_of (sign name k)) (as_list (named_of false o))) is ∙ ap (λ b. b || false) (this-name name k)

indexes-none : (name : List ℕ) (k : ℕ) (j : JudgedClause) → is_some j.modes ≡ false → list_any (is_of (sign name k)) (as_list (indexed_by (one_clause j))) ≡ false
indexes-none name k j none = ap (λ b. list_any (is_of (sign name k)) (as_list (cond b (named_of false (signature (head_of j.clause))) None))) none

held : (ds : List Named) (name : List ℕ) (k : ℕ) (o : Option Signature) (b : Bool) → o ≡ Some (sign name k) → list_any (is_of (sign name k)) ds ≡ b → holds ds o ≡ b
held ds name k o b is h = ap (holds ds) is ∙ h

-- what the kinds say
stray : (f i : Bool) → is_kind_of_other f i ≡ false → f ≡ i
stray true true h = refl
stray true false h = absurd cc
stray false true h = absurd cc
stray false false h = refl

kind-is : (before : List JudgedPart) (j : JudgedClause) → IsIndexedWell before j → (name : List ℕ) (k : ℕ) (m i : Bool) → signature (head_of j.clause) ≡ Some (sign name k) → is_some j.modes ≡ m → HasIndex name k before i → is_fact j.clause ≡ (m || i)
kind-is before j well name k m i is modes index =
    stray (is_fact j.clause) (is_some j.modes || holds (all_indexed before) (signature (head_of j.clause))) well.kind
    ∙ ap (λ b. b || holds (all_indexed before) (signature (head_of j.clause))) modes ∙ ap (λ b. m || b) (held (all_indexed before) name k (signature (head_of j.clause)) i is index)

no-modes : (before : List JudgedPart) (j : JudgedClause) → IsIndexedWell before j → (name : List ℕ) (k : ℕ) → signature (head_of j.clause) ≡ Some (sign name k) → IsDefined name k before true → is_some j.modes ≡ false
no-modes before j well name k is defined = go (is_some j.modes) (holds (all_defined before) (signature (head_of j.clause))) (held (all_defined before) name k (signature (head_of j.clause)) true is defined) well.early
  where
    go : (m h : Bool) → h ≡ true → (m && h) ≡ false → m ≡ false
    go true true is late = absurd cc
    go true false is late = absurd cc
    go false h is late = refl

-- ---- behind an index there are facts alone

only-facts : (name : List ℕ) (k : ℕ) (all : List Named) (before js : List JudgedPart) → AreGood all js → AreIndexedWell before js → HasIndex name k before true → rules_named name k (parts_of js) ≡ []
only-facts name k all before [] good well index = refl
only-facts name k all before (refused fault ∷ js) good well index = absurd good
only-facts name k all before (libraries names ∷ js) good well index = only-facts name k all (before ++ libraries names ∷ []) js good well (indexed-still name k before (libraries names) index)
only-facts name k all before (one_clause j ∷ js) good well index =
    rules-behind name k j.clause (parts_of js) (go (is_signature name k (signature (head_of j.clause))) refl)
    (only-facts name k all (before ++ one_clause j ∷ []) js good.1 well.1 (indexed-still name k before (one_clause j) index))
  where
    or-true : (m : Bool) → (m || true) ≡ true
    or-true true = refl
    or-true false = refl

    go : (b : Bool) → is_signature name k (signature (head_of j.clause)) ≡ b → (is_fact j.clause ≡ true) ⊎ IsOther name k j.clause
    go true is = inl (kind-is before j well.0 name k (is_some j.modes) true (signature-is name k (signature (head_of j.clause)) is) refl index ∙ or-true (is_some j.modes))
    go false is = inr is

-- ---- behind a clause without one there are none

no-facts : (name : List ℕ) (k : ℕ) (all : List Named) (before js : List JudgedPart) → AreGood all js → AreIndexedWell before js → IsDefined name k before true → HasIndex name k before false → facts_named name k (parts_of js) ≡ []
no-facts name k all before [] good well defined index = refl
no-facts name k all before (refused fault ∷ js) good well defined index = absurd good
no-facts name k all before (libraries names ∷ js) good well defined index =
    no-facts name k all (before ++ libraries names ∷ []) js good well (defined-on name k before (libraries names) true defined refl) (indexed-on name k before (libraries names) false index refl)
no-facts name k all before (one_clause j ∷ js) good well defined index =
    go (is_signature name k (signature (head_of j.clause))) refl (λ there. no-facts name k all (before ++ one_clause j ∷ []) js good.1 well.1 still there)
  where
    still : IsDefined name k (before ++ one_clause j ∷ []) true
    still = ap (list_any (is_of (sign name k))) (defined-more before (one_clause j)) ∙ list_any-append (is_of (sign name k)) (all_defined before) (as_list (defined_by (one_clause j)))
        ∙ ap (λ c. c || list_any (is_of (sign name k)) (as_list (defined_by (one_clause j)))) defined

    go : (b : Bool) → is_signature name k (signature (head_of j.clause)) ≡ b → (HasIndex name k (before ++ one_clause j ∷ []) false → facts_named name k (parts_of js) ≡ []) → facts_named name k (parts_of (one_clause j ∷ js)) ≡ []
    go true is rest =
        let here : signature (head_of j.clause) ≡ Some (sign name k) = signature-is name k (signature (head_of j.clause)) is in
        let none : is_some j.modes ≡ false = no-modes before j well.0 name k here defined in
        facts-behind name k j.clause (parts_of js) (inl (kind-is before j well.0 name k false false here none index)) (rest (indexed-on name k before (one_clause j) false index (indexes-none name k j none)))
    go false is rest = facts-behind name k j.clause (parts_of js) (inr is) (rest (indexed-on name k before (one_clause j) false index (others-index name k j is)))

-- ---- from where nothing is defined

another-first : (name : List ℕ) (k : ℕ) (d : _) (c : WrittenClause) (ps : ProgramTree) → IsOther name k c → IsIndexed name k ps → IsIndexed name k (record { decl = d; clause = Some c } ∷ ps)
another-first name k d c ps other is = record { alone = alone is.alone; first = first c other }
  where
    alone : (rules_named name k ps ≡ []) ⊎ (facts_named name k ps ≡ []) → (rules_named name k (record { decl = d; clause = Some c } ∷ ps) ≡ []) ⊎ (facts_named name k (record { decl = d; clause = Some c } ∷ ps) ≡ [])
    alone (inl none) = inl (rules-behind name k c ps (inr other) none)
    alone (inr none) = inr (facts-behind name k c ps (inr other) none)

    first : (c : WrittenClause) → IsOther name k c → BeginsWithModes (cons_option (declared_if (is_head_in name k (fact_head (Some c))) (index_of d)) (declared_before name k ps))
    first (rule r) other = is.first
    first (function f) other = is.first
    first (fact head) other = subst (λ b. BeginsWithModes (cons_option (declared_if b (index_of d)) (declared_before name k ps))) (sym other) is.first

begun : (name : List ℕ) (k : ℕ) (all : List Named) (before js : List JudgedPart) → AreGood all js → AreIndexedWell before js → IsDefined name k before false → HasIndex name k before false → IsIndexed name k (parts_of js)
begun name k all before [] good well defined index = record { alone = inl refl; first = tt }
begun name k all before (refused fault ∷ js) good well defined index = absurd good
begun name k all before (libraries names ∷ js) good well defined index =
    let rest : IsIndexed name k (parts_of js) = begun name k all (before ++ libraries names ∷ []) js good well (defined-on name k before (libraries names) false defined refl) (indexed-on name k before (libraries names) false index refl) in
    record { alone = rest.alone; first = rest.first }
begun name k all before (one_clause j ∷ js) good well defined index =
    go (is_signature name k (signature (head_of j.clause))) refl (λ defines indexes. begun name k all (before ++ one_clause j ∷ []) js good.1 well.1 defines indexes)
  where
    a-fact : (c : WrittenClause) (m : Option (List (List Mode))) → is_signature name k (signature (head_of c)) ≡ true → is_fact c ≡ true → is_some m ≡ true → rules_named name k (parts_of js) ≡ [] →
        IsIndexed name k (record { decl = decl_of m; clause = Some c } ∷ parts_of js)
    a-fact (rule r) m is fact_too some none = absurd cc
    a-fact (function f) m is fact_too some none = absurd cc
    a-fact (fact head) None is fact_too some none = absurd cc
    a-fact (fact head) (Some lists) is fact_too some none =
        record { alone = inl none; first = subst (λ b. BeginsWithModes (cons_option (declared_if b (Some lists)) (declared_before name k (parts_of js)))) (sym is) refl }

    no-fact : facts_named name k (parts_of (one_clause j ∷ js)) ≡ [] → IsIndexed name k (parts_of (one_clause j ∷ js))
    no-fact none = record { alone = inr none; first = first-of-none name k (parts_of (one_clause j ∷ js)) none }

    here-by : signature (head_of j.clause) ≡ Some (sign name k) → (m : Bool) → is_some j.modes ≡ m → IsIndexed name k (parts_of (one_clause j ∷ js))
    here-by here true some =
        a-fact j.clause j.modes (ap (is_signature name k) here ∙ both-true (bytes_eq name name) (k == k) ((bytes_eq-Decides name name).1 refl) (eq-eqb k k refl)) (kind-is before j well.0 name k true false here some index) some
        (only-facts name k all (before ++ one_clause j ∷ []) js good.1 well.1 (indexed-now name k before (one_clause j) (this-indexes name k j here some)))
    here-by here false none =
        no-fact (facts-behind name k j.clause (parts_of js) (inl (kind-is before j well.0 name k false false here none index))
        (no-facts name k all (before ++ one_clause j ∷ []) js good.1 well.1 (defined-now name k before (one_clause j) (this-defines name k j here)) (indexed-on name k before (one_clause j) false index (indexes-none name k j none))))

    go : (b : Bool) → is_signature name k (signature (head_of j.clause)) ≡ b → (IsDefined name k (before ++ one_clause j ∷ []) false → HasIndex name k (before ++ one_clause j ∷ []) false → IsIndexed name k (parts_of js)) →
        IsIndexed name k (parts_of (one_clause j ∷ js))
    go true is rest = here-by (signature-is name k (signature (head_of j.clause)) is) (is_some j.modes) refl
    go false is rest =
        another-first name k (decl_of j.modes) j.clause (parts_of js) is
        (rest (defined-on name k before (one_clause j) false defined (others-define name k j is)) (indexed-on name k before (one_clause j) false index (others-index name k j is)))

-- ---- behind the prelude

-- a predicate of facts isn't built in
fact-own : (name : List ℕ) (k : ℕ) (all : List Named) (js : List JudgedPart) → AreGood all js → (head : ExpTree) (heads : List ExpTree) → facts_named name k (parts_of js) ≡ head ∷ heads → is_some (kind_of name k) ≡ false
fact-own name k all [] good head heads some = absurd cc
fact-own name k all (refused fault ∷ js) good head heads some = absurd good
fact-own name k all (libraries names ∷ js) good head heads some = fact-own name k all js good head heads some
fact-own name k all (one_clause j ∷ js) good head heads some = go j.clause good.0.own some (λ later. fact-own name k all js good.1 head heads later)
  where
    tested : (first : ExpTree) → is_built_in_signature (signature first) ≡ false → (b : Bool) → is_head_of name k first ≡ b → cond b (first ∷ facts_named name k (parts_of js)) (facts_named name k (parts_of js)) ≡ head ∷ heads →
        (facts_named name k (parts_of js) ≡ head ∷ heads → is_some (kind_of name k) ≡ false) → is_some (kind_of name k) ≡ false
    tested first own true is some rest = sym (ap is_built_in_signature (signature-is name k (signature first) is)) ∙ own
    tested first own false is some rest = rest some

    go : (c : WrittenClause) → is_built_in_signature (signature (head_of c)) ≡ false → filter (is_head_of name k) (cons_option (fact_head (Some c)) (filter_map (λ p. fact_head p.clause) (parts_of js))) ≡ head ∷ heads →
        (facts_named name k (parts_of js) ≡ head ∷ heads → is_some (kind_of name k) ≡ false) → is_some (kind_of name k) ≡ false
    go (rule r) own some rest = rest some
    go (function f) own some rest = rest some
    go (fact first) own some rest = tested first own (is_head_of name k first) refl some rest

-- no clause of the prelude is one of it
rules-kept : (name : List ℕ) (k : ℕ) (qs ps : ProgramTree) → list_any (is_key_of name k) (keys qs) ≡ false → rules_named name k ps ≡ [] → rules_named name k (qs ++ ps) ≡ []
rules-kept name k [] ps none rest = rest
rules-kept name k (q ∷ qs) ps none rest = go q.clause none (λ no_more. rules-kept name k qs ps no_more rest)
  where
    go : (o : Option WrittenClause) → list_any (is_key_of name k) (cons_option (key_of o) (keys qs)) ≡ false → (list_any (is_key_of name k) (keys qs) ≡ false → rules_named name k (qs ++ ps) ≡ []) →
        filter (is_rule_of name k) (cons_option (rule_in o) (rules_of (qs ++ ps))) ≡ []
    go None none rest = rest none
    go (Some (rule r)) none rest =
        let both = or_parts (is_signature name k (signature r.head)) (list_any (is_key_of name k) (keys qs)) none in
        none-kept (is_rule_of name k r) r (rules_named name k (qs ++ ps)) both.0 (rest both.1)
    go (Some (function f)) none rest = rest (or_parts (is_signature name k (signature f.head)) (list_any (is_key_of name k) (keys qs)) none).1
    go (Some (fact head)) none rest = rest (or_parts (is_signature name k (signature head)) (list_any (is_key_of name k) (keys qs)) none).1

prelude-facts : (name : List ℕ) (k : ℕ) (ps : ProgramTree) → facts_named name k (prelude ++ ps) ≡ facts_named name k ps
unfolding prelude
prelude-facts name k ps = refl

prelude-declares : (name : List ℕ) (k : ℕ) (ps : ProgramTree) → declared_before name k (prelude ++ ps) ≡ declared_before name k ps
unfolding prelude
prelude-declares name k ps = refl

pub program-indexed : (all : List Named) (js : List JudgedPart) → AreGood all js → AreIndexedWell [] js → (name : List ℕ) (k : ℕ) → IsIndexed name k (prelude ++ parts_of js)
program-indexed all js good well name k =
    record { alone = alone (facts_named name k (parts_of js)) refl; first = subst BeginsWithModes (sym (prelude-declares name k (parts_of js))) own.first }
  where
    own : IsIndexed name k (parts_of js)
    own = begun name k all [] js good well refl refl

    no-rules : (heads : List ExpTree) (head : ExpTree) → facts_named name k (parts_of js) ≡ head ∷ heads → (rules_named name k (parts_of js) ≡ []) ⊎ (facts_named name k (parts_of js) ≡ []) → rules_named name k (parts_of js) ≡ []
    no-rules heads head some (inl none) = none
    no-rules heads head some (inr none) = absurd (cc (sym none ∙ some))

    alone : (heads : List ExpTree) → facts_named name k (parts_of js) ≡ heads → (rules_named name k (prelude ++ parts_of js) ≡ []) ⊎ (facts_named name k (prelude ++ parts_of js) ≡ [])
    alone [] none = inr (prelude-facts name k (parts_of js) ∙ none)
    alone (head ∷ heads) some = inl (rules-kept name k prelude (parts_of js) (not-prelude name k (fact-own name k all js good head heads some)) (no-rules heads head some own.alone))
