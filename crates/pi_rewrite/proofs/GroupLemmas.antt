-- Clauses, and the predicates and functions that they are added to.
use Rattle.std.proofs.Common.{◌≡◌, ℕ, ◌+◌, ◌<◌, ◌≤◌, true, false, List, [], ◌∷◌, ◌++◌, length, get_or, drop, map, refl, sym, ◌∙◌, ap, append_assoc}
use Rattle.std.specs.Prelude.{Option, Some, None, option_map}
use Rattle.std.specs.List.{cons_option}
use Rattle.std.proofs.lemmas.Bool.{cond-true, cond-false}
use Rattle.std.proofs.lemmas.List.{append-nil, drop_more, drop_all, map-append}
use Rattle.std.specs.declared.alloc.Global.{Global}
use Rattle.std.specs.declared.boxed.Box.{Box}
use Rattle.pi_syntax.specs.ProgramTree.{ProgramTree, WrittenClause, rule, function, rule_tree, function_tree, written_clause, part_tree}
use Rattle.pi_syntax.specs.declared.program.Clause.{Clause}
use Rattle.pi_syntax.specs.declared.program.FunctionClause.{FunctionClause}
use Rattle.pi_syntax.specs.declared.program.RuleClause.{RuleClause}
use Rattle.pi_syntax.specs.declared.program.Part.{Part}
use Rattle.pi_core.specs.CoreTree.{PredTree, index_of, pred_tree}
use Rattle.pi_core.specs.declared.core_program.CorePred.{CorePred}
use Rattle.pi_meaning.specs.OverNames.Prelude.{prelude}
use Rattle.pi_rewrite_spec.specs.Clauses.{Lowering, with_first, with_next, is_clause_of, grouped, grouped_all}
use Rattle.pi_rewrite_spec.specs.Programs as programs
use Rattle.pi_rewrite_spec.specs.Programs.{Naming, written_rule, written_function, clause_count, rule_helpers, function_helpers, clause_helpers, clauses_of, helpers_of, core_program}
use Rattle.pi_rewrite.specs.Built.{lowered_behind}

-- ---- a clause

-- it begins a predicate where there is none
behind-first : (c : Lowering) (cs : List Lowering) (p : PredTree) → p ≡ with_first c → lowered_behind [] (c ∷ cs) ≡ lowered_behind (p ∷ []) cs
unfolding lowered_behind
behind-first c cs p is = ap (λ q. grouped q cs) (sym is)

-- it goes on with the last one
behind-same : (c : Lowering) (cs : List Lowering) (p q : PredTree) → is_clause_of p c ≡ true → q ≡ with_next p c.clause → lowered_behind (p ∷ []) (c ∷ cs) ≡ lowered_behind (q ∷ []) cs
unfolding lowered_behind grouped
behind-same c cs p q h is = cond-true (is_clause_of p c) (grouped (with_next p c.clause) cs) (p ∷ grouped (with_first c) cs) h ∙ ap (λ x. grouped x cs) (sym is)

-- or begins another
behind-other : (c : Lowering) (cs : List Lowering) (p q : PredTree) → is_clause_of p c ≡ false → q ≡ with_first c → lowered_behind (p ∷ []) (c ∷ cs) ≡ lowered_behind (p ∷ q ∷ []) cs
unfolding lowered_behind grouped
behind-other c cs p q h is = cond-false (is_clause_of p c) (grouped (with_next p c.clause) cs) (p ∷ grouped (with_first c) cs) h ∙ ap (λ x. p ∷ grouped x cs) (sym is)

-- behind others
behind-others : (ps : List PredTree) (p q : PredTree) (qs : List PredTree) (cs rest : List Lowering) → lowered_behind (p ∷ []) cs ≡ lowered_behind (q ∷ qs) rest → lowered_behind (ps ++ p ∷ []) cs ≡ lowered_behind (ps ++ q ∷ qs) rest
unfolding lowered_behind
behind-others [] p q qs cs rest e = e
behind-others (a ∷ []) p q qs cs rest e = ap (λ x. a ∷ x) e
behind-others (a ∷ b ∷ ps) p q qs cs rest e = ap (λ x. a ∷ x) (behind-others (b ∷ ps) p q qs cs rest e)

behind-none : (ps : List PredTree) → lowered_behind ps [] ≡ ps
unfolding lowered_behind grouped
behind-none [] = refl
behind-none (p ∷ []) = refl
behind-none (p ∷ q ∷ ps) = ap (λ x. p ∷ x) (behind-none (q ∷ ps))

pub no-items : {A : Type 0} (xs : List A) → length xs ≡ 0 → xs ≡ []
no-items [] h = refl
no-items (x ∷ xs) h = cc

pub pushed-pred : (old new : List CorePred) (p : CorePred) (t : PredTree) → new ≡ old ++ p ∷ [] → pred_tree p ≡ t → map pred_tree new ≡ map pred_tree old ++ t ∷ []
pushed-pred old new p t put is = ap (map pred_tree) put ∙ (map-append pred_tree old (p ∷ []) ∙ ap (λ q. map pred_tree old ++ q ∷ []) is)

pub adds-first : (c : Lowering) (before left after : List CorePred) → before ≡ [] → left ≡ [] → map pred_tree after ≡ map pred_tree left ++ with_first c ∷ [] → (rest : List Lowering) →
    lowered_behind (map pred_tree before) (c ∷ rest) ≡ lowered_behind (map pred_tree after) rest
adds-first c before left after none popped put rest =
    ap (λ ps. lowered_behind (map pred_tree ps) (c ∷ rest)) none
    ∙ (behind-first c rest (with_first c) refl ∙ ap (λ ps. lowered_behind ps rest) (sym (put ∙ ap (λ ps. map pred_tree ps ++ with_first c ∷ []) popped)))

pub adds-same : (c : Lowering) (last : CorePred) (front before after : List CorePred) → is_clause_of (pred_tree last) c ≡ true → before ≡ front ++ last ∷ [] →
    map pred_tree after ≡ map pred_tree front ++ with_next (pred_tree last) c.clause ∷ [] → (rest : List Lowering) → lowered_behind (map pred_tree before) (c ∷ rest) ≡ lowered_behind (map pred_tree after) rest
adds-same c last front before after test old put rest =
    ap (λ ps. lowered_behind ps (c ∷ rest)) (ap (map pred_tree) old ∙ map-append pred_tree front (last ∷ []))
    ∙ (behind-others (map pred_tree front) (pred_tree last) (with_next (pred_tree last) c.clause) [] (c ∷ rest) rest (behind-same c rest (pred_tree last) (with_next (pred_tree last) c.clause) test refl)
    ∙ ap (λ ps. lowered_behind ps rest) (sym put))

pub adds-other : (c : Lowering) (last : CorePred) (front before again after : List CorePred) → is_clause_of (pred_tree last) c ≡ false → before ≡ front ++ last ∷ [] → again ≡ front ++ last ∷ [] →
    map pred_tree after ≡ map pred_tree again ++ with_first c ∷ [] → (rest : List Lowering) → lowered_behind (map pred_tree before) (c ∷ rest) ≡ lowered_behind (map pred_tree after) rest
adds-other c last front before again after test old back put rest =
    ap (λ ps. lowered_behind ps (c ∷ rest)) (ap (map pred_tree) old ∙ map-append pred_tree front (last ∷ []))
    ∙ (behind-others (map pred_tree front) (pred_tree last) (pred_tree last) (with_first c ∷ []) (c ∷ rest) rest (behind-other c rest (pred_tree last) (with_first c) test refl)
    ∙ ap (λ ps. lowered_behind ps rest) (sym (put ∙ (ap (λ ps. ps ++ with_first c ∷ []) (ap (map pred_tree) back ∙ map-append pred_tree front (last ∷ [])) ∙ append_assoc (map pred_tree front) (pred_tree last ∷ []) (with_first c ∷ [])))))

-- ---- a part

-- a part's clause, behind so many helpers
abbrev lowered_of : Naming → ℕ → Part → Option Lowering
lowered_of called n p = programs.written_clause called n (index_of p.decl) (part_tree p).clause

-- by its rule
abbrev pub Adds : Naming → ℕ → List PredTree → List PredTree → WrittenClause → Type 0
Adds called n before after w = (rest : List Lowering) → lowered_behind before (cons_option (programs.written_clause called n None (Some w)) rest) ≡ lowered_behind after rest

pub rule-adds : (called : Naming) (n : ℕ) (p : Part) (boxed : Box RuleClause Global) (r : RuleClause) (before after : List PredTree) → p.clause ≡ Some (Clause.Rule boxed) → r ≡ boxed.value → Adds called n before after (rule (rule_tree r)) →
    (rest : List Lowering) → lowered_behind before (cons_option (lowered_of called n p) rest) ≡ lowered_behind after rest
rule-adds called n p boxed r before after is same adds rest =
    ap (λ o. lowered_behind before (cons_option (programs.written_clause called n (index_of p.decl) (option_map written_clause o)) rest)) is
    ∙ (ap (λ x. lowered_behind before (cons_option (programs.written_clause called n None (Some (rule (rule_tree x)))) rest)) (sym same) ∙ adds rest)

pub function-adds : (called : Naming) (n : ℕ) (p : Part) (boxed : Box FunctionClause Global) (f : FunctionClause) (before after : List PredTree) → p.clause ≡ Some (Clause.Function boxed) → f ≡ boxed.value → Adds called n before after (function (function_tree f)) →
    (rest : List Lowering) → lowered_behind before (cons_option (lowered_of called n p) rest) ≡ lowered_behind after rest
function-adds called n p boxed f before after is same adds rest =
    ap (λ o. lowered_behind before (cons_option (programs.written_clause called n (index_of p.decl) (option_map written_clause o)) rest)) is
    ∙ (ap (λ x. lowered_behind before (cons_option (programs.written_clause called n None (Some (function (function_tree x)))) rest)) (sym same) ∙ adds rest)

-- what a part's clause has of helpers
abbrev helps : Naming → ℕ → Option Clause → List PredTree
helps called n o = clause_helpers called n (option_map written_clause o)

pub rule-helps : (called : Naming) (n : ℕ) (p : Part) (boxed : Box RuleClause Global) (r : RuleClause) (before after : List PredTree) → p.clause ≡ Some (Clause.Rule boxed) → r ≡ boxed.value → after ≡ before ++ rule_helpers called n (rule_tree r) →
    after ≡ before ++ clause_helpers called n (part_tree p).clause
rule-helps called n p boxed r before after is same put = put ∙ ap (λ xs. before ++ xs) (ap (λ x. rule_helpers called n (rule_tree x)) same ∙ ap (helps called n) (sym is))

pub function-helps : (called : Naming) (n : ℕ) (p : Part) (boxed : Box FunctionClause Global) (f : FunctionClause) (before after : List PredTree) → p.clause ≡ Some (Clause.Function boxed) → f ≡ boxed.value → after ≡ before ++ function_helpers called n (function_tree f) →
    after ≡ before ++ clause_helpers called n (part_tree p).clause
function-helps called n p boxed f before after is same put = put ∙ ap (λ xs. before ++ xs) (ap (λ x. function_helpers called n (function_tree x)) same ∙ ap (helps called n) (sym is))

-- ---- mode lists

pub copied-more : {A : Type 0} (xs made new : List A) (i : ℕ) (x y : A) → i < length xs → x ≡ get_or xs i x → y ≡ x → new ≡ made ++ y ∷ [] → made ++ drop i xs ≡ xs → new ++ drop (i + 1) xs ≡ xs
copied-more xs made new i x y h is same put so =
    ap (λ zs. zs ++ drop (i + 1) xs) put ∙ (append_assoc made (y ∷ []) (drop (i + 1) xs) ∙ (ap (λ z. made ++ z ∷ drop (i + 1) xs) (same ∙ is) ∙ (sym (ap (λ zs. made ++ zs) (drop_more xs i x h)) ∙ so)))

pub copied-all : {A : Type 0} (xs made : List A) (i : ℕ) → length xs ≤ i → made ++ drop i xs ≡ xs → made ≡ xs
copied-all xs made i h so = sym (append-nil made) ∙ (sym (ap (λ zs. made ++ zs) (drop_all i xs h)) ∙ so)

-- ---- parts in order

-- what was made before and all parts come to what was made since and the parts ahead
abbrev pub PredsAhead : Naming → List PredTree → ℕ → List Part → List PredTree → ℕ → List Part → Type 0
PredsAhead called before from parts now count ahead = (rest : ProgramTree) → lowered_behind before (clauses_of called from (map part_tree parts ++ rest)) ≡ lowered_behind now (clauses_of called count (map part_tree ahead ++ rest))

abbrev pub HelpersAhead : Naming → List PredTree → ℕ → List Part → List PredTree → ℕ → List Part → Type 0
HelpersAhead called before from parts now count ahead = (rest : ProgramTree) → before ++ helpers_of called from (map part_tree parts ++ rest) ≡ now ++ helpers_of called count (map part_tree ahead ++ rest)

part-ahead : (parts : List Part) (i : ℕ) (p : Part) (rest : ProgramTree) → i < length parts → p ≡ get_or parts i p → map part_tree (drop i parts) ++ rest ≡ part_tree p ∷ (map part_tree (drop (i + 1) parts) ++ rest)
part-ahead parts i p rest h is = ap (λ ps. map part_tree ps ++ rest) (drop_more parts i p h ∙ ap (λ q. q ∷ drop (i + 1) parts) (sym is))

pub preds-more : (called : Naming) (parts : List Part) (i : ℕ) (p : Part) (before now after : List PredTree) (from count next : ℕ) → i < length parts → p ≡ get_or parts i p → next ≡ count + clause_count (part_tree p).clause →
    ((rest : List Lowering) → lowered_behind now (cons_option (lowered_of called count p) rest) ≡ lowered_behind after rest) → PredsAhead called before from parts now count (drop i parts) → PredsAhead called before from parts after next (drop (i + 1) parts)
unfolding clauses_of
preds-more called parts i p before now after from count next h is numbered adds so rest =
    let behind : ProgramTree = map part_tree (drop (i + 1) parts) ++ rest in
    so rest
    ∙ (ap (λ ps. lowered_behind now (clauses_of called count ps)) (part-ahead parts i p rest h is)
    ∙ (adds (clauses_of called (count + clause_count (part_tree p).clause) behind) ∙ ap (λ k. lowered_behind after (clauses_of called k behind)) (sym numbered)))

pub helpers-more : (called : Naming) (parts : List Part) (i : ℕ) (p : Part) (before now after : List PredTree) (from count next : ℕ) → i < length parts → p ≡ get_or parts i p → next ≡ count + clause_count (part_tree p).clause →
    after ≡ now ++ clause_helpers called count (part_tree p).clause → HelpersAhead called before from parts now count (drop i parts) → HelpersAhead called before from parts after next (drop (i + 1) parts)
unfolding helpers_of
helpers-more called parts i p before now after from count next h is numbered put so rest =
    let behind : ProgramTree = map part_tree (drop (i + 1) parts) ++ rest in
    so rest
    ∙ (ap (λ ps. now ++ helpers_of called count ps) (part-ahead parts i p rest h is)
    ∙ (sym (append_assoc now (clause_helpers called count (part_tree p).clause) (helpers_of called (count + clause_count (part_tree p).clause) behind))
    ∙ (ap (λ xs. xs ++ helpers_of called (count + clause_count (part_tree p).clause) behind) (sym put) ∙ ap (λ k. after ++ helpers_of called k behind) (sym numbered))))

pub preds-end : (called : Naming) (parts : List Part) (i : ℕ) (before now : List PredTree) (from count : ℕ) → length parts ≤ i → PredsAhead called before from parts now count (drop i parts) → (rest : ProgramTree) →
    lowered_behind before (clauses_of called from (map part_tree parts ++ rest)) ≡ lowered_behind now (clauses_of called count rest)
preds-end called parts i before now from count h so rest = so rest ∙ ap (λ ps. lowered_behind now (clauses_of called count (map part_tree ps ++ rest))) (drop_all i parts h)

pub helpers-end : (called : Naming) (parts : List Part) (i : ℕ) (before now : List PredTree) (from count : ℕ) → length parts ≤ i → HelpersAhead called before from parts now count (drop i parts) → (rest : ProgramTree) →
    before ++ helpers_of called from (map part_tree parts ++ rest) ≡ now ++ helpers_of called count rest
helpers-end called parts i before now from count h so rest = so rest ∙ ap (λ ps. now ++ helpers_of called count (map part_tree ps ++ rest)) (drop_all i parts h)

-- ---- a program behind the prelude

abbrev PredsMade : Naming → List PredTree → ℕ → ProgramTree → List PredTree → ℕ → Type 0
PredsMade called before from program after count = (rest : ProgramTree) → lowered_behind before (clauses_of called from (program ++ rest)) ≡ lowered_behind after (clauses_of called count rest)

abbrev HelpersMade : Naming → List PredTree → ℕ → ProgramTree → List PredTree → ℕ → Type 0
HelpersMade called before from program after count = (rest : ProgramTree) → before ++ helpers_of called from (program ++ rest) ≡ after ++ helpers_of called count rest

preds-are : (called : Naming) (pre program : ProgramTree) (start mid preds : List PredTree) (count last : ℕ) → start ≡ [] → PredsMade called start 0 pre mid count → PredsMade called mid count program preds last →
    grouped_all (clauses_of called 0 (pre ++ program)) ≡ preds
unfolding clauses_of lowered_behind
preds-are called pre program start mid preds count last none first second =
    ap (λ ps. lowered_behind ps (clauses_of called 0 (pre ++ program))) (sym none)
    ∙ (first program ∙ (ap (λ ps. lowered_behind mid (clauses_of called count ps)) (sym (append-nil program)) ∙ (second [] ∙ behind-none preds)))

helpers-are : (called : Naming) (pre program : ProgramTree) (start mid helpers : List PredTree) (count last : ℕ) → start ≡ [] → HelpersMade called start 0 pre mid count → HelpersMade called mid count program helpers last →
    helpers_of called 0 (pre ++ program) ≡ helpers
unfolding helpers_of
helpers-are called pre program start mid helpers count last none first second =
    ap (λ ps. ps ++ helpers_of called 0 (pre ++ program)) (sym none)
    ∙ (first program ∙ (ap (λ ps. mid ++ helpers_of called count ps) (sym (append-nil program)) ∙ (second [] ∙ append-nil helpers)))

pub program-is : (called : Naming) (pre program : ProgramTree) (none-preds some-preds preds none-helpers some-helpers helpers : List PredTree) (count last : ℕ) → pre ≡ prelude → none-preds ≡ [] → none-helpers ≡ [] →
    PredsMade called none-preds 0 pre some-preds count → HelpersMade called none-helpers 0 pre some-helpers count → PredsMade called some-preds count program preds last → HelpersMade called some-helpers count program helpers last →
    preds ++ helpers ≡ core_program called program
unfolding core_program
program-is called pre program none-preds some-preds preds none-helpers some-helpers helpers count last is no-preds no-helpers first also second more =
    ap (λ xs. xs ++ helpers) (sym (preds-are called pre program none-preds some-preds preds count last no-preds first second))
    ∙ (ap (λ xs. grouped_all (clauses_of called 0 (pre ++ program)) ++ xs) (sym (helpers-are called pre program none-helpers some-helpers helpers count last no-helpers also more))
    ∙ ap (λ ps. grouped_all (clauses_of called 0 (ps ++ program)) ++ helpers_of called 0 (ps ++ program)) is)
