-- What helpers are called is no name that is there: it begins with `~`, as no name of the language does, and is longer than any of the program's.
use Rattle.std.proofs.Common.{◌≡◌, ℕ, suc, ◌<◌, ◌≤◌, Bool, true, false, List, [], ◌∷◌, ◌++◌, length, max, refl, sym, ◌∙◌, ap, subst, arith}
use Rattle.std.specs.Prelude.{◌==◌, ◌&&◌, ◌||◌, not, cond, nat_le, codes, filter, filter_map, Option, Some, None, is_some}
use Rattle.std.specs.List.{AllByRecursion, cons_option}
use Rattle.std.specs.Ordering.{is_eq}
use Rattle.std.specs.Str.{bytes_eq}
use Rattle.std.proofs.lemmas.Bool.{and_parts, false_from_ne_true}
use Rattle.std.proofs.lemmas.List.{length-append, length-replicate}
use Rattle.pi_terms.specs.Order.{name_order}
use Rattle.pi_syntax.specs.ExpTree.{ExpTree}
use Rattle.pi_syntax.specs.ProgramTree.{FunctionTree, WrittenClause, rule, function, fact, PartTree, ProgramTree}
use Rattle.pi_syntax.specs.Signature.{Signature, signature}
use Rattle.pi_effects.specs.BuiltIns.{is_predicate, tests, other_predicates}
use Rattle.pi_effects.specs.Comparing.{comparing_tests}
use Rattle.pi_effects.specs.Kinds.{kind_tests}
use Rattle.pi_effects.specs.Texts.{writing_predicates}
use Rattle.pi_effects.specs.Rows.{has_line}
use Rattle.pi_core.specs.CoreTree.{PredTree, is_pred, find_pred}
use Rattle.pi_meaning.specs.Shared.Names.{later_predicates, is_later_predicate, is_call, is_given_predicate}
use Rattle.pi_meaning.specs.OverNames.WrittenRules.{is_signature}
use Rattle.pi_meaning.specs.CoreMeaning.Instances.{is_called_by_name}
use Rattle.pi_meaning.specs.OverNames.Prelude.{prelude}
use Rattle.pi_meaning.specs.OverNames.Rules.{predicate_head, function_in, is_head_of, heads_named, functions_named}
use Rattle.pi_meaning.specs.OverNames.Run.{is_some_head}
use Rattle.pi_meaning.proofs.Shared.TableLemmas.{Test, same-name, one-of, lines-hold, signatures-hold, each-line, body-holds, each-below, each-signed}
use Rattle.pi_rewrite_spec.specs.Clauses.{named_by}
use Rattle.pi_rewrite_laws.specs.Within.{is_some_function}
use Rattle.pi_rewrite_laws.specs.Laws.{DefinesTheSame, AreNew}
use Rattle.pi_rewrite_laws.proofs.HeadLemmas.{text_by_order}
use Rattle.pi_rewrite_sites.specs.OwnNames.{own_digits, own_name}
use Rattle.pi_rewrite_sites.proofs.DigitLemmas.{names-apart}
use Rattle.pi_rewrite_sound.specs.Laws.{AreNames}
use Rattle.pi_rewrite.specs.Built.{name_length, head_length, longest_head, longest_name, tildes, program_prefix, query_prefix}

-- ---- no name of the language

abbrev is_tilde : List ℕ → Bool
is_tilde [] = false
is_tilde (c ∷ cs) = c == 126

call-plain : (name : List ℕ) (k : ℕ) → is_call name k ≡ true → not (is_tilde name) ≡ true
call-plain name k h =
    let same : name ≡ codes "call" = same-name name (codes "call") (and_parts (nat_le 1 k && nat_le k 8) (bytes_eq name (codes "call")) h).1 in
    subst (λ (n : List ℕ). not (is_tilde n) ≡ true) (sym same) refl

predicate-plain : (name : List ℕ) (k : ℕ) → is_predicate name k ≡ true → not (is_tilde name) ≡ true
unfolding is_predicate tests comparing_tests kind_tests writing_predicates other_predicates each-line body-holds each-below
predicate-plain name k found =
    let P : Test = λ n j. not (is_tilde n) in
    one-of (has_line tests name k) _ (P name k) (lines-hold P tests refl name k)
    (one-of (has_line writing_predicates name k) (has_line other_predicates name k) (P name k) (lines-hold P writing_predicates refl name k) (lines-hold P other_predicates refl name k)) found

later-plain : (name : List ℕ) (k : ℕ) → is_later_predicate name k ≡ true → not (is_tilde name) ≡ true
unfolding is_later_predicate later_predicates each-signed
later-plain name k found = let P : Test = λ n j. not (is_tilde n) in signatures-hold P later_predicates refl name k found

given-plain : (name : List ℕ) (k : ℕ) → is_given_predicate name k ≡ true → not (is_tilde name) ≡ true
given-plain name k found =
    one-of (is_call name k) (is_predicate name k || is_later_predicate name k) (not (is_tilde name)) (call-plain name k)
    (one-of (is_predicate name k) (is_later_predicate name k) (not (is_tilde name)) (predicate-plain name k) (later-plain name k)) found

none-given : (name : List ℕ) (k : ℕ) → is_tilde name ≡ true → is_given_predicate name k ≡ false
none-given name k is = false_from_ne_true (is_given_predicate name k) (λ found. both (is_tilde name) is (given-plain name k found))
  where
    both : (b : Bool) → b ≡ true → not b ≡ true → ⊥
    both true h i = cc
    both false h i = cc

-- ---- longer than each name

-- another length is another name
other-name : (a b : List ℕ) → length a < length b → bytes_eq a b ≡ false
other-name a b less = false_from_ne_true (bytes_eq a b) (λ e. let same : length a ≡ length b = ap length (same-name a b e) in omega (arith, less, same))

own-long : (count n : ℕ) → count ≤ length (own_name (tildes count) n)
own-long count n = omega (arith, length-append (tildes count) (own_digits n), length-replicate {A = ℕ} count 126)

-- ---- heads

head-kept : (most : ℕ) (parts : ProgramTree) → most ≤ longest_head most parts
unfolding longest_head
head-kept most [] = omega arith
head-kept most (p ∷ parts) = omega (arith, head-kept (max most (head_length p.clause)) parts)

abbrev AreShorter : ℕ → ProgramTree → Type 0
AreShorter most parts = AllByRecursion (λ (p : PartTree). head_length p.clause ≤ most) parts

heads-shorter : (most : ℕ) (parts : ProgramTree) → AreShorter (longest_head most parts) parts
unfolding longest_head
heads-shorter most [] = tt
heads-shorter most (p ∷ parts) = (omega (arith, head-kept (max most (head_length p.clause)) parts), heads-shorter (max most (head_length p.clause)) parts)

other-head : (name : List ℕ) (k : ℕ) (head : ExpTree) → name_length head < length name → is_head_of name k head ≡ false
other-head name k head less = go (signature head) less
  where
    go : (s : Option Signature) → length (named_by s).name < length name → is_signature name k s ≡ false
    go None less = refl
    go (Some s) less = ap (λ b. b && (s.arity == k)) (other-name s.name name less)

passed-over : (t : ExpTree → Bool) (o : Option ExpTree) (xs : List ExpTree) → ((x : ExpTree) → o ≡ Some x → t x ≡ false) → is_some_head (filter t xs) ≡ false → is_some_head (filter t (cons_option o xs)) ≡ false
passed-over t None xs h rest = rest
passed-over t (Some x) xs h rest = ap (λ b. is_some_head (cond b (x ∷ filter t xs) (filter t xs))) (h x refl) ∙ rest

passed-function : (t : FunctionTree → Bool) (o : Option FunctionTree) (xs : List FunctionTree) → ((x : FunctionTree) → o ≡ Some x → t x ≡ false) → is_some_function (filter t xs) ≡ false → is_some_function (filter t (cons_option o xs)) ≡ false
passed-function t None xs h rest = rest
passed-function t (Some x) xs h rest = ap (λ b. is_some_function (cond b (x ∷ filter t xs) (filter t xs))) (h x refl) ∙ rest

head-in : (name : List ℕ) (k : ℕ) (o : Option WrittenClause) → head_length o < length name → (head : ExpTree) → predicate_head o ≡ Some head → is_head_of name k head ≡ false
head-in name k None less head is = absurd cc
head-in name k (Some (rule r)) less head is = other-head name k head (subst (λ h. name_length h < length name) (some-same r.head head is) less)
  where
    some-same : (a b : ExpTree) → Some a ≡ Some b → a ≡ b
    some-same a b e = cc
head-in name k (Some (function f)) less head is = absurd cc
head-in name k (Some (fact h)) less head is = other-head name k head (subst (λ x. name_length x < length name) (some-same h head is) less)
  where
    some-same : (a b : ExpTree) → Some a ≡ Some b → a ≡ b
    some-same a b e = cc

function-head : (name : List ℕ) (k : ℕ) (o : Option WrittenClause) → head_length o < length name → (f : FunctionTree) → function_in o ≡ Some f → is_head_of name k f.head ≡ false
function-head name k None less f is = absurd cc
function-head name k (Some (rule r)) less f is = absurd cc
function-head name k (Some (function g)) less f is = other-head name k f.head (subst (λ h. name_length h < length name) (head-same g f is) less)
  where
    head-same : (a b : FunctionTree) → Some a ≡ Some b → a.head ≡ b.head
    head-same a b e = cc
function-head name k (Some (fact h)) less f is = absurd cc

no-head : (name : List ℕ) (k most : ℕ) (parts : ProgramTree) → AreShorter most parts → most < length name → is_some_head (heads_named name k parts) ≡ false
no-head name k most [] all less = refl
no-head name k most (p ∷ parts) all less =
    passed-over (is_head_of name k) (predicate_head p.clause) (filter_map (λ q. predicate_head q.clause) parts) (head-in name k p.clause (omega (arith, all.0, less))) (no-head name k most parts all.1 less)

no-function : (name : List ℕ) (k most : ℕ) (parts : ProgramTree) → AreShorter most parts → most < length name → is_some_function (functions_named name k parts) ≡ false
no-function name k most [] all less = refl
no-function name k most (p ∷ parts) all less =
    passed-function (λ f. is_head_of name k f.head) (function_in p.clause) (filter_map (λ q. function_in q.clause) parts) (function-head name k p.clause (omega (arith, all.0, less))) (no-function name k most parts all.1 less)

pub program-names : (program : ProgramTree) → AreNames program (own_name (program_prefix program))
program-names program =
    let most : ℕ = longest_head 0 (prelude ++ program) in
    let all : AreShorter most (prelude ++ program) = heads-shorter 0 (prelude ++ program) in
    record {
      own = record {
        unknown = λ n k. no-head (own_name (tildes (suc most)) n) k most (prelude ++ program) all (own-long (suc most) n);
        plain = λ n k. none-given (own_name (tildes (suc most)) n) k refl;
        apart = names-apart (tildes (suc most));
      };
      functions = λ n k. no-function (own_name (tildes (suc most)) n) k most (prelude ++ program) all (own-long (suc most) n);
    }

-- ---- predicates and functions

name-kept : (most : ℕ) (preds : List PredTree) → most ≤ longest_name most preds
unfolding longest_name
name-kept most [] = omega arith
name-kept most (p ∷ preds) = omega (arith, name-kept (max most (length p.name)) preds)

-- a predicate or function by its kind, its name and its number of arguments
abbrev pred_is : Bool → Bool → Bool → Bool → Bool
pred_is true applied is long = applied && (is && long)
pred_is false applied is long = cond applied false (is && long)

by-parts : (kind : Bool) (name : List ℕ) (k : ℕ) (p : PredTree) → is_pred kind name k p ≡ pred_is kind p.function (is_eq (name_order p.name name)) (p.arity == k)
by-parts true name k p = refl
by-parts false name k p = refl

other-pred : (kind : Bool) (name : List ℕ) (k : ℕ) (p : PredTree) → length p.name < length name → is_pred kind name k p ≡ false
other-pred kind name k p less = by-parts kind name k p ∙ go kind p.function (is_eq (name_order p.name name)) (text_by_order p.name name ∙ other-name p.name name less)
  where
    go : (kind applied is : Bool) → is ≡ false → pred_is kind applied is (p.arity == k) ≡ false
    go true true is h = ap (λ b. b && (p.arity == k)) h
    go true false is h = refl
    go false true is h = refl
    go false false is h = ap (λ b. b && (p.arity == k)) h

none-found : (kind : Bool) (name : List ℕ) (k most : ℕ) (preds : List PredTree) → longest_name most preds < length name → find_pred kind name k preds ≡ None
unfolding longest_name find_pred
none-found kind name k most [] less = refl
none-found kind name k most (p ∷ preds) less =
    let here : max most (length p.name) ≤ longest_name (max most (length p.name)) preds = name-kept (max most (length p.name)) preds in
    ap (λ (b : Bool). cond b (Some p) (find_pred kind name k preds)) (other-pred kind name k p (omega (arith, here, less))) ∙ none-found kind name k (max most (length p.name)) preds less

new-name : (kind : Bool) (preds : List PredTree) (n k : ℕ) → find_pred kind (own_name (query_prefix preds) n) k preds ≡ None
new-name kind preds n k = none-found kind (own_name (query_prefix preds) n) k 0 preds (own-long (suc (longest_name 0 preds)) n)

pub query-new : (preds : List PredTree) → AreNew preds (own_name (query_prefix preds))
query-new preds n k = new-name false preds n k

-- what a core program lacks its program lacks
pub query-names : (program : ProgramTree) (preds : List PredTree) → DefinesTheSame program preds → AreNames program (own_name (query_prefix preds))
query-names program preds defines = record {
  own = record {
    unknown = λ n k. sym (defines.predicates (own_name (query_prefix preds) n) k) ∙ ap is_called_by_name (new-name false preds n k);
    plain = λ n k. none-given (own_name (query_prefix preds) n) k refl;
    apart = names-apart (query_prefix preds);
  };
  functions = λ n k. sym (defines.functions (own_name (query_prefix preds) n) k) ∙ ap is_some (new-name true preds n k);
}
