-- What a predicate of facts has of the clauses that parts are lowered to: those of its facts, in order, and the mode lists before the first of them.
use Rattle.std.proofs.Common.{◌≡◌, ℕ, Bool, true, false, cond, List, [], ◌∷◌, map, refl, sym, ◌∙◌, ap}
use Rattle.std.specs.Prelude.{Option, Some, None, filter, filter_map}
use Rattle.std.specs.List.{cons_option}
use Rattle.std.proofs.lemmas.Bool.{false≢true}
use Rattle.pi_syntax.specs.ExpTree.{ExpTree}
use Rattle.pi_syntax.specs.ProgramTree.{RuleTree, FunctionTree, WrittenClause, rule, function, fact, ProgramTree}
use Rattle.pi_syntax.specs.Signature.{Signature, signature}
use Rattle.pi_syntax.specs.declared.program.Mode.{Mode}
use Rattle.pi_core.specs.CoreTree.{ClauseTree, index_of}
use Rattle.pi_meaning.specs.OverNames.WrittenRules.{is_signature, is_rule_of, rule_in, rules_of}
use Rattle.pi_meaning.specs.OverNames.Rules.{predicate_head, fact_head, is_head_of, is_head_in, rules_named, facts_named, heads_named, modes_before, first_modes, modes_named}
use Rattle.pi_meaning.specs.OverNames.Run.{is_some_head}
use Rattle.pi_rewrite_spec.specs.Clauses.{lowered_fact, named_by, Lowering}
use Rattle.pi_rewrite_laws.specs.Within.{declared_if, declared_before, BeginsWithModes}
use Rattle.pi_rewrite_laws.proofs.FindLemmas.{matches, chosen, clauses, modes_in}

-- what a clause is lowered to, behind mode lists or none: whatever clause comes of a rule or a function
pub data Lowers (modes : Option (List (List Mode))) : Option WrittenClause → Option Lowering → Type 0 where
  no_clause : Lowers modes None None
  a_rule : (r : RuleTree) (c : ClauseTree) (s : Signature) → signature r.head ≡ Some s → Lowers modes (Some (rule r)) (Some (record { is_function = false; head = named_by (signature r.head); modes = None; clause = c }))
  a_function : (f : FunctionTree) (c : ClauseTree) → Lowers modes (Some (function f)) (Some (record { is_function = true; head = named_by (signature f.head); modes = None; clause = c }))
  a_fact : (head : ExpTree) (s : Signature) → signature head ≡ Some s → Lowers modes (Some (fact head)) (Some (record { is_function = false; head = named_by (signature head); modes = modes; clause = lowered_fact head }))

pub data LowersAll : ProgramTree → List Lowering → Type 0 where
  no_parts : LowersAll [] []
  one_part : (d : _) (w : Option WrittenClause) (o : Option Lowering) (ps : ProgramTree) (cs : List Lowering) → Lowers (index_of d) w o → LowersAll ps cs → LowersAll (record { decl = d; clause = w } ∷ ps) (cons_option o cs)

-- the names of heads
pub same-named : (s t : Signature) (head : ExpTree) → signature head ≡ Some t → matches false s false (named_by (signature head)) ≡ is_head_of s.name s.arity head
same-named s t head is = ap (λ n. is_signature s.name s.arity (Some (named_by n))) is ∙ sym (ap (is_signature s.name s.arity) is)

pub none-kept : {A : Type 0} (c : Bool) (x : A) (xs : List A) → cond c (x ∷ xs) xs ≡ [] → (c ≡ false) × (xs ≡ [])
none-kept true x xs is = absurd cc
none-kept false x xs is = (refl, is)

-- a clause that is none of it
pub passed-clauses : (c : Bool) (y : Lowering) (ys : List Lowering) → c ≡ false → clauses (cond c (y ∷ ys) ys) ≡ clauses ys
passed-clauses true y ys is = absurd cc
passed-clauses false y ys is = refl

passed-modes : (c : Bool) (y : Lowering) (ys : List Lowering) → c ≡ false → modes_in (cond c (y ∷ ys) ys) ≡ modes_in ys
passed-modes true y ys is = absurd cc
passed-modes false y ys is = refl

-- ---- where a predicate has no fact

pub modes-none : (name : List ℕ) (k : ℕ) (program : ProgramTree) → facts_named name k program ≡ [] → modes_named name k program ≡ None
unfolding modes_named
modes-none name k [] none = refl
modes-none name k (p ∷ ps) none = go p.clause (index_of p.decl) none (modes-none name k ps)
  where
    go : (w : Option WrittenClause) (o : Option (List (List Mode))) → filter (is_head_of name k) (cons_option (fact_head w) (filter_map (λ q. fact_head q.clause) ps)) ≡ [] → (facts_named name k ps ≡ [] → modes_named name k ps ≡ None) →
        first_modes (modes_before name k (record { decl = p.decl; clause = w }) o) (modes_named name k ps) ≡ None
    go w None none rest = tested w none rest
      where
        tested : (w : Option WrittenClause) → filter (is_head_of name k) (cons_option (fact_head w) (filter_map (λ q. fact_head q.clause) ps)) ≡ [] → (facts_named name k ps ≡ [] → modes_named name k ps ≡ None) → modes_named name k ps ≡ None
        tested None none rest = rest none
        tested (Some (rule r)) none rest = rest none
        tested (Some (function f)) none rest = rest none
        tested (Some (fact head)) none rest = rest (none-kept (is_head_of name k head) head (facts_named name k ps) none).1
    go None (Some lists) none rest = rest none
    go (Some (rule r)) (Some lists) none rest = rest none
    go (Some (function f)) (Some lists) none rest = rest none
    go (Some (fact head)) (Some lists) none rest =
        let out : (is_head_of name k head ≡ false) × (facts_named name k ps ≡ []) = none-kept (is_head_of name k head) head (facts_named name k ps) none in
        ap (λ c. first_modes (cond c (Some lists) None) (modes_named name k ps)) out.0 ∙ rest out.1

no-modes-first : (c : Bool) (y : Lowering) (ys : List Lowering) → y.modes ≡ None → modes_in ys ≡ None → modes_in (cond c (y ∷ ys) ys) ≡ None
no-modes-first true y ys is rest = is
no-modes-first false y ys is rest = rest

-- the clauses of a predicate without facts have no mode lists
pub rules-modes : (s : Signature) (program : ProgramTree) (cs : List Lowering) → LowersAll program cs → facts_named s.name s.arity program ≡ [] → modes_in (chosen false s cs) ≡ None
rules-modes s _ _ no_parts none = refl
rules-modes s _ _ (one_part d w o ps cs lowers all) none = go w o lowers none (λ no_more. rules-modes s ps cs all no_more)
  where
    go : (w : Option WrittenClause) (o : Option Lowering) → Lowers (index_of d) w o → filter (is_head_of s.name s.arity) (cons_option (fact_head w) (filter_map (λ q. fact_head q.clause) ps)) ≡ [] →
        (facts_named s.name s.arity ps ≡ [] → modes_in (chosen false s cs) ≡ None) → modes_in (chosen false s (cons_option o cs)) ≡ None
    go _ _ no_clause none rest = rest none
    go _ _ (a_rule r c t is) none rest = no-modes-first (matches false s false (named_by (signature r.head))) _ (chosen false s cs) refl (rest none)
    go _ _ (a_function f c) none rest = rest none
    go _ _ (a_fact head t is) none rest =
        let out : (is_head_of s.name s.arity head ≡ false) × (facts_named s.name s.arity ps ≡ []) = none-kept (is_head_of s.name s.arity head) head (facts_named s.name s.arity ps) none in
        passed-modes (matches false s false (named_by (signature head))) _ (chosen false s cs) (same-named s t head is ∙ out.0) ∙ rest out.1

-- nor have those of a function
pub functions-modes : (s : Signature) (program : ProgramTree) (cs : List Lowering) → LowersAll program cs → modes_in (chosen true s cs) ≡ None
functions-modes s _ _ no_parts = refl
functions-modes s _ _ (one_part d w o ps cs lowers all) = go w o lowers (functions-modes s ps cs all)
  where
    go : (w : Option WrittenClause) (o : Option Lowering) → Lowers (index_of d) w o → modes_in (chosen true s cs) ≡ None → modes_in (chosen true s (cons_option o cs)) ≡ None
    go _ _ no_clause rest = rest
    go _ _ (a_rule r c t is) rest = rest
    go _ _ (a_function f c) rest = no-modes-first (matches true s true (named_by (signature f.head))) _ (chosen true s cs) refl rest
    go _ _ (a_fact head t is) rest = rest

-- ---- where a predicate has no rule

no-rule-first : (c d : Bool) (y : Lowering) (ys : List Lowering) (head : ExpTree) (heads : List ExpTree) → d ≡ c → y.clause ≡ lowered_fact head → clauses ys ≡ map lowered_fact heads →
    clauses (cond d (y ∷ ys) ys) ≡ map lowered_fact (cond c (head ∷ heads) heads)
no-rule-first true true y ys head heads same is rest = ap (λ z. z ∷ clauses ys) is ∙ ap (λ zs. lowered_fact head ∷ zs) rest
no-rule-first true false y ys head heads same is rest = absurd (false≢true same)
no-rule-first false true y ys head heads same is rest = absurd (false≢true (sym same))
no-rule-first false false y ys head heads same is rest = rest

pub facts-chosen : (s : Signature) (program : ProgramTree) (cs : List Lowering) → LowersAll program cs → rules_named s.name s.arity program ≡ [] → clauses (chosen false s cs) ≡ map lowered_fact (facts_named s.name s.arity program)
facts-chosen s _ _ no_parts none = refl
facts-chosen s _ _ (one_part d w o ps cs lowers all) none = go w o lowers none (λ no_more. facts-chosen s ps cs all no_more)
  where
    go : (w : Option WrittenClause) (o : Option Lowering) → Lowers (index_of d) w o → filter (is_rule_of s.name s.arity) (cons_option (rule_in w) (rules_of ps)) ≡ [] →
        (rules_named s.name s.arity ps ≡ [] → clauses (chosen false s cs) ≡ map lowered_fact (facts_named s.name s.arity ps)) →
        clauses (chosen false s (cons_option o cs)) ≡ map lowered_fact (filter (is_head_of s.name s.arity) (cons_option (fact_head w) (filter_map (λ q. fact_head q.clause) ps)))
    go _ _ no_clause none rest = rest none
    go _ _ (a_rule r c t is) none rest =
        let out : (is_rule_of s.name s.arity r ≡ false) × (rules_named s.name s.arity ps ≡ []) = none-kept (is_rule_of s.name s.arity r) r (rules_named s.name s.arity ps) none in
        passed-clauses (matches false s false (named_by (signature r.head))) _ (chosen false s cs) (same-named s t r.head is ∙ out.0) ∙ rest out.1
    go _ _ (a_function f c) none rest = rest none
    go _ _ (a_fact head t is) none rest =
        no-rule-first (is_head_of s.name s.arity head) (matches false s false (named_by (signature head))) _ (chosen false s cs) head (facts_named s.name s.arity ps) (same-named s t head is) refl (rest none)

-- the mode lists before the first fact are those of the predicate
pub facts-modes : (s : Signature) (program : ProgramTree) (cs : List Lowering) → LowersAll program cs → rules_named s.name s.arity program ≡ [] → BeginsWithModes (declared_before s.name s.arity program) →
    modes_in (chosen false s cs) ≡ modes_named s.name s.arity program
unfolding modes_named
facts-modes s _ _ no_parts none begins = refl
facts-modes s _ _ (one_part d w o ps cs lowers all) none begins = go w o (index_of d) lowers none begins (λ no_more first. facts-modes s ps cs all no_more first)
  where
    go : (w : Option WrittenClause) (o : Option Lowering) (m : Option (List (List Mode))) → Lowers m w o → filter (is_rule_of s.name s.arity) (cons_option (rule_in w) (rules_of ps)) ≡ [] →
        BeginsWithModes (cons_option (declared_if (is_head_in s.name s.arity (fact_head w)) m) (declared_before s.name s.arity ps)) →
        (rules_named s.name s.arity ps ≡ [] → BeginsWithModes (declared_before s.name s.arity ps) → modes_in (chosen false s cs) ≡ modes_named s.name s.arity ps) →
        modes_in (chosen false s (cons_option o cs)) ≡ first_modes (modes_before s.name s.arity (record { decl = d; clause = w }) m) (modes_named s.name s.arity ps)
    go _ _ None no_clause none begins rest = rest none begins
    go _ _ (Some lists) no_clause none begins rest = rest none begins
    go _ _ m (a_rule r c t is) none begins rest =
        let out : (is_rule_of s.name s.arity r ≡ false) × (rules_named s.name s.arity ps ≡ []) = none-kept (is_rule_of s.name s.arity r) r (rules_named s.name s.arity ps) none in
        passed-modes (matches false s false (named_by (signature r.head))) _ (chosen false s cs) (same-named s t r.head is ∙ out.0) ∙ rest out.1 begins ∙ none-before m
      where
        none-before : (m : Option (List (List Mode))) → modes_named s.name s.arity ps ≡ first_modes (modes_before s.name s.arity (record { decl = d; clause = Some (rule r) }) m) (modes_named s.name s.arity ps)
        none-before None = refl
        none-before (Some lists) = refl
    go _ _ None (a_function f c) none begins rest = rest none begins
    go _ _ (Some lists) (a_function f c) none begins rest = rest none begins
    go _ _ None (a_fact head t is) none begins rest =
        ap (λ c. modes_in (cond c (record { is_function = false; head = named_by (signature head); modes = None; clause = lowered_fact head } ∷ chosen false s cs) (chosen false s cs))) (same-named s t head is)
        ∙ tested (is_head_of s.name s.arity head) begins
      where
        tested : (c : Bool) → BeginsWithModes (cons_option (declared_if c None) (declared_before s.name s.arity ps)) →
            modes_in (cond c (record { is_function = false; head = named_by (signature head); modes = None; clause = lowered_fact head } ∷ chosen false s cs) (chosen false s cs)) ≡ modes_named s.name s.arity ps
        tested true begins = absurd (cc begins)
        tested false begins = rest none begins
    go _ _ (Some lists) (a_fact head t is) none begins rest =
        ap (λ c. modes_in (cond c (record { is_function = false; head = named_by (signature head); modes = Some lists; clause = lowered_fact head } ∷ chosen false s cs) (chosen false s cs))) (same-named s t head is)
        ∙ tested (is_head_of s.name s.arity head) begins
      where
        tested : (c : Bool) → BeginsWithModes (cons_option (declared_if c (Some lists)) (declared_before s.name s.arity ps)) →
            modes_in (cond c (record { is_function = false; head = named_by (signature head); modes = Some lists; clause = lowered_fact head } ∷ chosen false s cs) (chosen false s cs))
            ≡ first_modes (cond c (Some lists) None) (modes_named s.name s.arity ps)
        tested true begins = refl
        tested false begins = rest none begins

-- where there are none, there is no fact
pub facts-none : (name : List ℕ) (k : ℕ) (program : ProgramTree) → BeginsWithModes (declared_before name k program) → modes_named name k program ≡ None → facts_named name k program ≡ []
unfolding modes_named
facts-none name k [] begins none = refl
facts-none name k (p ∷ ps) begins none = go p.clause (index_of p.decl) begins none (facts-none name k ps)
  where
    go : (w : Option WrittenClause) (m : Option (List (List Mode))) → BeginsWithModes (cons_option (declared_if (is_head_in name k (fact_head w)) m) (declared_before name k ps)) →
        first_modes (modes_before name k (record { decl = p.decl; clause = w }) m) (modes_named name k ps) ≡ None →
        (BeginsWithModes (declared_before name k ps) → modes_named name k ps ≡ None → facts_named name k ps ≡ []) →
        filter (is_head_of name k) (cons_option (fact_head w) (filter_map (λ q. fact_head q.clause) ps)) ≡ []
    go None None begins none rest = rest begins none
    go None (Some lists) begins none rest = rest begins none
    go (Some (rule r)) None begins none rest = rest begins none
    go (Some (rule r)) (Some lists) begins none rest = rest begins none
    go (Some (function f)) None begins none rest = rest begins none
    go (Some (function f)) (Some lists) begins none rest = rest begins none
    go (Some (fact head)) None begins none rest = tested (is_head_of name k head) begins
      where
        tested : (c : Bool) → BeginsWithModes (cons_option (declared_if c None) (declared_before name k ps)) → cond c (head ∷ facts_named name k ps) (facts_named name k ps) ≡ []
        tested true begins = absurd (cc begins)
        tested false begins = rest begins none
    go (Some (fact head)) (Some lists) begins none rest = tested (is_head_of name k head) begins none
      where
        tested : (c : Bool) → BeginsWithModes (cons_option (declared_if c (Some lists)) (declared_before name k ps)) → first_modes (cond c (Some lists) None) (modes_named name k ps) ≡ None →
            cond c (head ∷ facts_named name k ps) (facts_named name k ps) ≡ []
        tested true begins none = absurd (cc none)
        tested false begins none = rest begins none

-- ---- what a program defines

abbrev pub is_some_clause : List ClauseTree → Bool
is_some_clause [] = false
is_some_clause (c ∷ cs) = true

head-first : (c d : Bool) (head : ExpTree) (heads : List ExpTree) (y : Lowering) (ys : List Lowering) → d ≡ c → is_some_head heads ≡ is_some_clause (clauses ys) →
    is_some_head (cond c (head ∷ heads) heads) ≡ is_some_clause (clauses (cond d (y ∷ ys) ys))
head-first true true head heads y ys same rest = refl
head-first true false head heads y ys same rest = absurd (false≢true same)
head-first false true head heads y ys same rest = absurd (false≢true (sym same))
head-first false false head heads y ys same rest = rest

-- a predicate has clauses where it has heads
pub heads-clauses : (s : Signature) (program : ProgramTree) (cs : List Lowering) → LowersAll program cs → is_some_head (heads_named s.name s.arity program) ≡ is_some_clause (clauses (chosen false s cs))
heads-clauses s _ _ no_parts = refl
heads-clauses s _ _ (one_part d w o ps cs lowers all) = go w o lowers (heads-clauses s ps cs all)
  where
    go : (w : Option WrittenClause) (o : Option Lowering) → Lowers (index_of d) w o → is_some_head (heads_named s.name s.arity ps) ≡ is_some_clause (clauses (chosen false s cs)) →
        is_some_head (filter (is_head_of s.name s.arity) (cons_option (predicate_head w) (filter_map (λ q. predicate_head q.clause) ps))) ≡ is_some_clause (clauses (chosen false s (cons_option o cs)))
    go _ _ no_clause rest = rest
    go _ _ (a_rule r c t is) rest = head-first (is_head_of s.name s.arity r.head) (matches false s false (named_by (signature r.head))) r.head (heads_named s.name s.arity ps) _ (chosen false s cs) (same-named s t r.head is) rest
    go _ _ (a_function f c) rest = rest
    go _ _ (a_fact head t is) rest = head-first (is_head_of s.name s.arity head) (matches false s false (named_by (signature head))) head (heads_named s.name s.arity ps) _ (chosen false s cs) (same-named s t head is) rest
