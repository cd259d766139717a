-- The core program of a program with loops: it has the clauses of each predicate and function, and their helpers behind them.
use Rattle.std.proofs.Common.{◌≡◌, ℕ, suc, ◌+◌, ◌≤◌, Bool, true, false, cond, List, [], ◌∷◌, ◌++◌, length, refl, sym, ◌∙◌, ap, subst, arith, length-append}
use Rattle.std.specs.Prelude.{Option, Some, None, filter, filter_map}
use Rattle.std.specs.List.{AllByRecursion, cons_option}
use Rattle.std.proofs.lemmas.Bool.{false≢true}
use Rattle.pi_syntax.specs.ExpTree.{ExpTree}
use Rattle.pi_syntax.specs.ProgramTree.{RuleTree, FunctionTree, WrittenClause, rule, function, fact, ProgramTree}
use Rattle.pi_syntax.specs.Signature.{Signature, signature}
use Rattle.pi_core.specs.CoreTree.{ClauseTree, PredTree, index_of}
use Rattle.pi_meaning.specs.OverNames.WrittenRules.{is_signature, is_rule_of, rule_in, rules_of, head_arguments}
use Rattle.pi_meaning.specs.OverNames.Rules.{function_in, fact_head, is_head_of, rules_named, facts_named, functions_named}
use Rattle.pi_meaning.specs.OverNames.Forms.{plain}
use Rattle.pi_rewrite_spec.specs.Forms.{Knows, ArePatterns}
use Rattle.pi_rewrite_spec.specs.Clauses.{named_by, Lowering}
use Rattle.pi_rewrite_spec.specs.Helpers.{value_helpers, goal_helpers}
use Rattle.pi_rewrite_spec.specs.Sites.{Site, helpers_in}
use Rattle.pi_rewrite_spec.specs.Programs.{Naming, option_count, option_helpers, behind_option, rule_site, written_rule, rule_count, rule_helpers, function_site, value_site, written_function, function_count, function_helpers, clause_count, written_clause, clause_helpers, clauses_of, helpers_of}
use Rattle.pi_rewrite_laws.specs.Within.{IsGoalOrNone, IsRule, IsFunction, IsClause, IsPart, Key, key_of, keys}
use Rattle.pi_rewrite_laws.proofs.FindLemmas.{Modes, of, matches, keys_of, chosen, clauses}
use Rattle.pi_rewrite_laws.proofs.FactLemmas.{EachFact}
use Rattle.pi_rewrite_laws.proofs.FactParts.{Lowers, no_clause, a_rule, a_function, a_fact, LowersAll, no_parts, one_part, same-named, none-kept, passed-clauses}
use Rattle.pi_rewrite_laws.proofs.NumberedLemmas.{Numbered, none-numbered, both-numbered, value-numbered, goal-numbered}
use Rattle.pi_rewrite_laws.proofs.StandsLemmas.{Fixture, HaveHelpers, have-first, have-last}
use Rattle.pi_rewrite_laws.proofs.TextLevels.{RulesAt, no_more, one_more, FunctionsAt, no_more_functions, one_more_function}

abbrev pub Parts : Knows → ProgramTree → Type 0
Parts known program = AllByRecursion (IsPart known) program

-- ---- how many helpers, and their names

option-numbered : (known : Knows) (s : Site) (o : Option ExpTree) → IsGoalOrNone known o → Numbered s.called s.helpers (option_count o) (option_helpers s o)
option-numbered known s None is = none-numbered s.called s.helpers
option-numbered known s (Some e) is = goal-numbered known s e is

rule-numbered : (known : Knows) (called : Naming) (n : ℕ) (r : RuleTree) → IsRule known r → Numbered called n (rule_count r) (rule_helpers called n r)
rule-numbered known called n r is =
    let s : Site = rule_site called n r in
    let t : Site = behind_option s r.cond in
    both-numbered called n (option_count r.cond) t.helpers (helpers_in r.body) (rule_count r) (option_helpers s r.cond) (goal_helpers t r.body) refl refl (option-numbered known s r.cond is.cond) (goal-numbered known t r.body is.body)

function-numbered : (known : Knows) (called : Naming) (n : ℕ) (f : FunctionTree) → IsFunction known f → Numbered called n (function_count f) (function_helpers called n f)
function-numbered known called n f is =
    let s : Site = function_site called n f in
    let t : Site = behind_option s f.cond in
    let u : Site = value_site called n f in
    both-numbered called n (option_count f.cond) t.helpers (option_count f.body + helpers_in f.value) (function_count f) (option_helpers s f.cond) (option_helpers t f.body ++ value_helpers u f.value) refl refl (option-numbered known s f.cond is.cond)
    (both-numbered called t.helpers (option_count f.body) u.helpers (helpers_in f.value) (option_count f.body + helpers_in f.value) (option_helpers t f.body) (value_helpers u f.value) (omega arith) refl (option-numbered known t f.body is.body)
    (value-numbered known u plain f.value is.value))

clause-numbered : (known : Knows) (called : Naming) (n : ℕ) (o : Option WrittenClause) → IsClause known o → Numbered called n (clause_count o) (clause_helpers called n o)
clause-numbered known called n None is = none-numbered called n
clause-numbered known called n (Some (rule r)) is = rule-numbered known called n r is.0
clause-numbered known called n (Some (function f)) is = function-numbered known called n f is.0
clause-numbered known called n (Some (fact head)) is = none-numbered called n

unfoldable pub count_of : ProgramTree → ℕ
count_of [] = 0
count_of (p ∷ program) = clause_count p.clause + count_of program

pub program-numbered : (known : Knows) (called : Naming) (n : ℕ) (program : ProgramTree) → Parts known program → Numbered called n (count_of program) (helpers_of called n program)
unfolding helpers_of count_of
program-numbered known called n [] is = none-numbered called n
program-numbered known called n (p ∷ ps) is =
    both-numbered called n (clause_count p.clause) (n + clause_count p.clause) (count_of ps) (clause_count p.clause + count_of ps) (clause_helpers called n p.clause) (helpers_of called (n + clause_count p.clause) ps) refl refl
    (clause-numbered known called n p.clause is.0.clause) (program-numbered known called (n + clause_count p.clause) ps is.1)

-- ---- clauses of each predicate

-- as many clauses as rules, behind the helpers that they follow
pub record RulesFrom (known : Knows) (called : Naming) (helpers : List PredTree) (rs : List RuleTree) (cs : List ClauseTree) : Type 0 where
  pub at : (c : Fixture) → known ≡ c.known → HaveHelpers c helpers → length helpers ≤ length c.preds → RulesAt c called rs cs
  pub long : length cs ≡ length rs

pub record FunctionsFrom (known : Knows) (called : Naming) (helpers : List PredTree) (fs : List FunctionTree) (cs : List ClauseTree) : Type 0 where
  pub at : (c : Fixture) → known ≡ c.known → HaveHelpers c helpers → length helpers ≤ length c.preds → FunctionsAt c called fs cs
  pub long : length cs ≡ length fs

-- behind more helpers
rules-later : (known : Knows) (called : Naming) (ps helpers : List PredTree) (rs : List RuleTree) (cs : List ClauseTree) → RulesFrom known called helpers rs cs → RulesFrom known called (ps ++ helpers) rs cs
rules-later known called ps helpers rs cs is = record { at = λ c same has few. is.at c same (have-last c ps helpers has) (omega (arith, few, length-append ps helpers)); long = is.long }

functions-later : (known : Knows) (called : Naming) (ps helpers : List PredTree) (fs : List FunctionTree) (cs : List ClauseTree) → FunctionsFrom known called helpers fs cs → FunctionsFrom known called (ps ++ helpers) fs cs
functions-later known called ps helpers fs cs is = record { at = λ c same has few. is.at c same (have-last c ps helpers has) (omega (arith, few, length-append ps helpers)); long = is.long }

rule-first : (known : Knows) (called : Naming) (n : ℕ) (helpers : List PredTree) (r : RuleTree) (rs : List RuleTree) (y : Lowering) (ys : List Lowering) → IsRule known r → y.clause ≡ written_rule called n r → (c d : Bool) → d ≡ c →
    RulesFrom known called helpers rs (clauses ys) → RulesFrom known called (rule_helpers called n r ++ helpers) (cond c (r ∷ rs) rs) (clauses (cond d (y ∷ ys) ys))
rule-first known called n helpers r rs y ys is head true true same rest = record {
  at = λ c same has few.
      subst (λ (z : ClauseTree). RulesAt c called (r ∷ rs) (z ∷ clauses ys)) (sym head)
      (one_more n r rs (clauses ys) (subst (λ (k : Knows). IsRule k r) same is)
      (omega (arith, few, length-append (rule_helpers called n r) helpers, (rule-numbered known called n r is).long)) (have-first c (rule_helpers called n r) helpers has)
      (rest.at c same (have-last c (rule_helpers called n r) helpers has) (omega (arith, few, length-append (rule_helpers called n r) helpers))));
  long = ap suc rest.long;
}
rule-first known called n helpers r rs y ys is head true false same rest = absurd (false≢true same)
rule-first known called n helpers r rs y ys is head false true same rest = absurd (false≢true (sym same))
rule-first known called n helpers r rs y ys is head false false same rest = rules-later known called (rule_helpers called n r) helpers rs (clauses ys) rest

function-first : (known : Knows) (called : Naming) (n : ℕ) (helpers : List PredTree) (f : FunctionTree) (fs : List FunctionTree) (y : Lowering) (ys : List Lowering) → IsFunction known f → y.clause ≡ written_function called n f → (c d : Bool) → d ≡ c →
    FunctionsFrom known called helpers fs (clauses ys) → FunctionsFrom known called (function_helpers called n f ++ helpers) (cond c (f ∷ fs) fs) (clauses (cond d (y ∷ ys) ys))
function-first known called n helpers f fs y ys is head true true same rest = record {
  at = λ c same has few.
      subst (λ (z : ClauseTree). FunctionsAt c called (f ∷ fs) (z ∷ clauses ys)) (sym head)
      (one_more_function n f fs (clauses ys) (subst (λ (k : Knows). IsFunction k f) same is)
      (omega (arith, few, length-append (function_helpers called n f) helpers, (function-numbered known called n f is).long)) (have-first c (function_helpers called n f) helpers has)
      (rest.at c same (have-last c (function_helpers called n f) helpers has) (omega (arith, few, length-append (function_helpers called n f) helpers))));
  long = ap suc rest.long;
}
function-first known called n helpers f fs y ys is head true false same rest = absurd (false≢true same)
function-first known called n helpers f fs y ys is head false true same rest = absurd (false≢true (sym same))
function-first known called n helpers f fs y ys is head false false same rest = functions-later known called (function_helpers called n f) helpers fs (clauses ys) rest

-- of a predicate without facts
pub rules-from : (known : Knows) (called : Naming) (s : Signature) (n : ℕ) (program : ProgramTree) → Parts known program → facts_named s.name s.arity program ≡ [] → RulesFrom known called (helpers_of called n program) (rules_named s.name s.arity program) (clauses (chosen false s (clauses_of called n program)))
unfolding helpers_of clauses_of
rules-from known called s n [] is none = record { at = λ c same has few. no_more; long = refl }
rules-from known called s n (p ∷ ps) is none = go (index_of p.decl) p.clause is.0.clause none (λ m no_more. rules-from known called s m ps is.1 no_more)
  where
    go : (m : Modes) (o : Option WrittenClause) → IsClause known o → filter (is_head_of s.name s.arity) (cons_option (fact_head o) (filter_map (λ q. fact_head q.clause) ps)) ≡ [] →
        ((m : ℕ) → facts_named s.name s.arity ps ≡ [] → RulesFrom known called (helpers_of called m ps) (rules_named s.name s.arity ps) (clauses (chosen false s (clauses_of called m ps)))) →
        RulesFrom known called (clause_helpers called n o ++ helpers_of called (n + clause_count o) ps) (filter (is_rule_of s.name s.arity) (cons_option (rule_in o) (rules_of ps)))
        (clauses (chosen false s (cons_option (written_clause called n m o) (clauses_of called (n + clause_count o) ps))))
    go m None c none rest = rest (n + 0) none
    go m (Some (rule r)) c none rest =
        rule-first known called n (helpers_of called (n + rule_count r) ps) r (rules_named s.name s.arity ps) _ (chosen false s (clauses_of called (n + rule_count r) ps)) c.0 refl (is_rule_of s.name s.arity r)
        (matches false s false (named_by (signature r.head))) (ap (λ o. is_signature s.name s.arity (Some (named_by o))) c.1.is_named ∙ sym (ap (is_signature s.name s.arity) c.1.is_named)) (rest (n + rule_count r) none)
    go m (Some (function f)) c none rest =
        rules-later known called (function_helpers called n f) (helpers_of called (n + function_count f) ps) (rules_named s.name s.arity ps) (clauses (chosen false s (clauses_of called (n + function_count f) ps))) (rest (n + function_count f) none)
    go m (Some (fact head)) c none rest =
        let out : (is_head_of s.name s.arity head ≡ false) × (facts_named s.name s.arity ps ≡ []) = none-kept (is_head_of s.name s.arity head) head (facts_named s.name s.arity ps) none in
        subst (RulesFrom known called (helpers_of called (n + 0) ps) (rules_named s.name s.arity ps))
        (sym (passed-clauses (matches false s false (named_by (signature head))) _ (chosen false s (clauses_of called (n + 0) ps)) (same-named s c.1.named head c.1.is_named ∙ out.0))) (rest (n + 0) out.1)

pub functions-from : (known : Knows) (called : Naming) (s : Signature) (n : ℕ) (program : ProgramTree) → Parts known program →
    FunctionsFrom known called (helpers_of called n program) (functions_named s.name s.arity program) (clauses (chosen true s (clauses_of called n program)))
unfolding helpers_of clauses_of
functions-from known called s n [] is = record { at = λ c same has few. no_more_functions; long = refl }
functions-from known called s n (p ∷ ps) is = go (index_of p.decl) p.clause is.0.clause (λ m. functions-from known called s m ps is.1)
  where
    go : (m : Modes) (o : Option WrittenClause) → IsClause known o → ((m : ℕ) → FunctionsFrom known called (helpers_of called m ps) (functions_named s.name s.arity ps) (clauses (chosen true s (clauses_of called m ps)))) →
        FunctionsFrom known called (clause_helpers called n o ++ helpers_of called (n + clause_count o) ps) (filter (λ f. is_head_of s.name s.arity f.head) (cons_option (function_in o) (filter_map (λ p. function_in p.clause) ps)))
        (clauses (chosen true s (cons_option (written_clause called n m o) (clauses_of called (n + clause_count o) ps))))
    go m None c rest = rest (n + 0)
    go m (Some (rule r)) c rest =
        functions-later known called (rule_helpers called n r) (helpers_of called (n + rule_count r) ps) (functions_named s.name s.arity ps) (clauses (chosen true s (clauses_of called (n + rule_count r) ps))) (rest (n + rule_count r))
    go m (Some (function f)) c rest =
        function-first known called n (helpers_of called (n + function_count f) ps) f (functions_named s.name s.arity ps) _ (chosen true s (clauses_of called (n + function_count f) ps)) c.0 refl (is_head_of s.name s.arity f.head)
        (matches true s true (named_by (signature f.head))) (ap (λ o. is_signature s.name s.arity (Some (named_by o))) c.1.is_named ∙ sym (ap (is_signature s.name s.arity) c.1.is_named)) (rest (n + function_count f))
    go m (Some (fact head)) c rest = rest (n + 0)

-- ---- what stands together stands together

signed : (kind : Bool) (head : ExpTree) (s : Signature) (ks rest : List Key) → signature head ≡ Some s → rest ≡ ks → (of kind (named_by (signature head)) ∷ rest) ≡ record { kind = kind; named = signature head } ∷ ks
signed kind head s ks rest is same = ap (λ xs. of kind (named_by (signature head)) ∷ xs) same ∙ ap (λ n. record { kind = kind; named = n } ∷ ks) (ap (λ n. Some (named_by n)) is ∙ sym is)

pub keys-written : (known : Knows) (called : Naming) (n : ℕ) (program : ProgramTree) → Parts known program → keys_of (clauses_of called n program) ≡ keys program
unfolding clauses_of
keys-written known called n [] is = refl
keys-written known called n (p ∷ ps) is = go (index_of p.decl) p.clause is.0.clause (λ m. keys-written known called m ps is.1)
  where
    go : (m : Modes) (o : Option WrittenClause) → IsClause known o → ((m : ℕ) → keys_of (clauses_of called m ps) ≡ keys ps) → keys_of (cons_option (written_clause called n m o) (clauses_of called (n + clause_count o) ps)) ≡ cons_option (key_of o) (keys ps)
    go m None c rest = rest (n + 0)
    go m (Some (rule r)) c rest = signed false r.head c.1.named (keys ps) _ c.1.is_named (rest (n + rule_count r))
    go m (Some (function f)) c rest = signed true f.head c.1.named (keys ps) _ c.1.is_named (rest (n + function_count f))
    go m (Some (fact head)) c rest = signed false head c.1.named (keys ps) _ c.1.is_named (rest (n + 0))

-- ---- facts

clause-lowers : (known : Knows) (called : Naming) (n : ℕ) (m : Modes) (w : Option WrittenClause) → IsClause known w → Lowers m w (written_clause called n m w)
clause-lowers known called n m None is = no_clause
clause-lowers known called n m (Some (rule r)) is = a_rule r (written_rule called n r) is.1.named is.1.is_named
clause-lowers known called n m (Some (function f)) is = a_function f (written_function called n f)
clause-lowers known called n m (Some (fact head)) is = a_fact head is.1.named is.1.is_named

pub parts-lower : (known : Knows) (called : Naming) (n : ℕ) (program : ProgramTree) → Parts known program → LowersAll program (clauses_of called n program)
unfolding clauses_of
parts-lower known called n [] is = no_parts
parts-lower known called n (p ∷ ps) is =
    one_part p.decl p.clause (written_clause called n (index_of p.decl) p.clause) ps (clauses_of called (n + clause_count p.clause) ps) (clause-lowers known called n (index_of p.decl) p.clause is.0.clause)
    (parts-lower known called (n + clause_count p.clause) ps is.1)

pub facts-each : (known : Knows) (name : List ℕ) (k : ℕ) (program : ProgramTree) → Parts known program → EachFact (facts_named name k program)
facts-each known name k [] is = tt
facts-each known name k (p ∷ ps) is = go p.clause is.0.clause (facts-each known name k ps is.1)
  where
    chosen-one : (c : Bool) (head : ExpTree) (heads : List ExpTree) → ArePatterns (head_arguments head) → EachFact heads → EachFact (cond c (head ∷ heads) heads)
    chosen-one true head heads one each = (one, each)
    chosen-one false head heads one each = each

    go : (o : Option WrittenClause) → IsClause known o → EachFact (facts_named name k ps) → EachFact (filter (is_head_of name k) (cons_option (fact_head o) (filter_map (λ q. fact_head q.clause) ps)))
    go None c each = each
    go (Some (rule r)) c each = each
    go (Some (function f)) c each = each
    go (Some (fact head)) c each = chosen-one (is_head_of name k head) head (facts_named name k ps) c.0 each
