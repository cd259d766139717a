-- Helpers behind what a program defines: each is found by its name, which does nothing by itself.
use Rattle.std.proofs.Common.{◌≡◌, ℕ, suc, ◌≤◌, ◌<◌, Bool, true, false, cond, List, [], ◌∷◌, ◌++◌, refl, sym, ◌∙◌, ap, arith, append_assoc}
use Rattle.std.specs.Ordering.{is_eq}
use Rattle.std.specs.Prelude.{Option, Some, None, option_map, is_some, not, ◌||◌, ◌==◌, ◌&&◌, ⊤}
use Rattle.std.specs.Option.{option_or}
use Rattle.std.specs.Str.{bytes_eq}
use Rattle.std.proofs.lemmas.Bool.{false≢true}
use Rattle.std.proofs.lemmas.Bool.Decides.{Decides-eqb}
use Rattle.std.proofs.lemmas.Slice.Eq.{bytes_eq-Decides}
use Rattle.pi_terms.specs.Tree.{Trees, tree_count}
use Rattle.pi_constraints.specs.State.{State}
use Rattle.pi_effects.specs.BuiltIns.{is_predicate, built_in_predicate}
use Rattle.pi_effects.proofs.BuiltInLemmas.{predicates-listed}
use Rattle.pi_terms.specs.Order.{name_order}
use Rattle.pi_core.specs.CoreTree.{PredTree, is_pred, find_pred}
use Rattle.pi_traces.specs.Trace.{Trace}
use Rattle.pi_meaning.specs.Shared.Level.{Level}
use Rattle.pi_meaning.specs.Shared.View.{View}
use Rattle.pi_meaning.specs.CoreMeaning.Builtins.{Builtins}
use Rattle.pi_meaning.specs.Shared.Given.{Setting, Later}
use Rattle.pi_meaning.specs.Shared.Calls.{given_later, predicate_given, first_called}
use Rattle.pi_meaning.specs.Shared.Names.{is_later_predicate, is_call, is_given_predicate}
use Rattle.pi_meaning.specs.CoreMeaning.Instances.{is_called_by_name, core_setting, whole}
use Rattle.pi_rewrite_spec.specs.Programs.{Naming}
use Rattle.pi_rewrite_laws.specs.Within.{AreQuiet}
use Rattle.pi_rewrite_laws.proofs.HeadLemmas.{text_by_order}
use Rattle.pi_rewrite_laws.proofs.TurnLevels.{HasHelper}
use Rattle.pi_rewrite_laws.proofs.NumberedLemmas.{IsHelper, NamedFrom}

abbrev pub AllHelp : Builtins → List PredTree → List PredTree → Type 0
AllHelp b preds [] = ⊤
AllHelp b preds (p ∷ ps) = HasHelper b preds p × AllHelp b preds ps

-- ---- a name that does nothing by itself

no-effect : {A B : Type 0} (f : A → B) (o : Option A) → is_some o ≡ false → option_map f o ≡ None
no-effect f None is = refl
no-effect f (Some x) is = absurd (false≢true (sym is))

neither : (a b c : Bool) → a || (b || c) ≡ false → (a ≡ false) × (b ≡ false) × (c ≡ false)
neither false false false h = (refl, refl, refl)
neither true b c h = absurd (false≢true (sym h))
neither false true c h = absurd (false≢true (sym h))
neither false false true h = absurd (false≢true (sym h))

pub not-given : (v : View) (later : Later) (preds : List PredTree) (name : List ℕ) → ((k : ℕ) → is_given_predicate name k ≡ false) → (l : Level) (ts : Trees) (s : State) → (whole v later preds).predicate l name ts s ≡ None
unfolding predicate_given
not-given v later preds name plain l ts s =
    ap (λ (c : Bool). cond c (Some (first_called set l ts s)) (predicate_given set l name ts s)) three.0
    ∙ ap (λ (o : Option (Trace State)). option_or o (given_later set l name ts s)) (no-effect _ (built_in_predicate name ts s) (predicates-listed name ts s ∙ three.1))
    ∙ ap (λ (c : Bool). cond c (Some (set.later.predicate set.view l name ts s)) None) three.2
  where
    set : Setting
    set = core_setting v later preds

    three : (is_call name (tree_count ts) ≡ false) × (is_predicate name (tree_count ts) ≡ false) × (is_later_predicate name (tree_count ts) ≡ false)
    three = neither (is_call name (tree_count ts)) (is_predicate name (tree_count ts)) (is_later_predicate name (tree_count ts)) (plain (tree_count ts))

-- ---- looking up among more

pub find-append : (kind : Bool) (name : List ℕ) (k : ℕ) (ps qs : List PredTree) → find_pred kind name k (ps ++ qs) ≡ option_or (find_pred kind name k ps) (find_pred kind name k qs)
unfolding find_pred
find-append kind name k [] qs = refl
find-append kind name k (p ∷ ps) qs = go (is_pred kind name k p) (find-append kind name k ps qs)
  where
    go : (c : Bool) → find_pred kind name k (ps ++ qs) ≡ option_or (find_pred kind name k ps) (find_pred kind name k qs) →
        cond c (Some p) (find_pred kind name k (ps ++ qs)) ≡ option_or (cond c (Some p) (find_pred kind name k ps)) (find_pred kind name k qs)
    go true rest = refl
    go false rest = rest

-- ---- helpers are found

-- one is looked for by name and number of arguments
helper-is : (called : Naming) (n : ℕ) (p : PredTree) → IsHelper called n p → (name : List ℕ) (k : ℕ) → is_pred false name k p ≡ (bytes_eq (called n) name && (p.arity == k))
helper-is called n p own name k =
    ap (λ (c : Bool). cond c false (is_eq (name_order p.name name) && (p.arity == k))) own.kind ∙ ap (λ (b : Bool). b && (p.arity == k)) (text_by_order p.name name) ∙ ap (λ (m : List ℕ). bytes_eq m name && (p.arity == k)) own.name

helper-itself : (called : Naming) (n : ℕ) (p : PredTree) → IsHelper called n p → is_pred false p.name p.arity p ≡ true
helper-itself called n p own =
    helper-is called n p own p.name p.arity ∙ ap (λ (b : Bool). b && (p.arity == p.arity)) ((bytes_eq-Decides (called n) p.name).1 (sym own.name)) ∙ (Decides-eqb p.arity p.arity).1 refl

helper-other : (called : Naming) → ((i j : ℕ) → called i ≡ called j → i ≡ j) → (n m : ℕ) → n < m → (p : PredTree) → IsHelper called n p → (k : ℕ) → is_pred false (called m) k p ≡ false
helper-other called apart n m less p own k = helper-is called n p own (called m) k ∙ go (bytes_eq (called n) (called m)) refl
  where
    go : (b : Bool) → bytes_eq (called n) (called m) ≡ b → b && (p.arity == k) ≡ false
    go true same = absurd (let e : n ≡ m = apart n m ((bytes_eq-Decides (called n) (called m)).0 same) in omega (arith, e, less))
    go false other = refl

found-first : (kind : Bool) (name : List ℕ) (k : ℕ) (p : PredTree) (qs : List PredTree) → is_pred kind name k p ≡ true → find_pred kind name k (p ∷ qs) ≡ Some p
unfolding find_pred
found-first kind name k p qs is = ap (λ (c : Bool). cond c (Some p) (find_pred kind name k qs)) is

found-none : (kind : Bool) (name : List ℕ) (k : ℕ) (p : PredTree) → is_pred kind name k p ≡ false → find_pred kind name k (p ∷ []) ≡ None
unfolding find_pred
found-none kind name k p is = ap (λ (c : Bool). cond c (Some p) None) is

-- what stands in front has none of the names from here on
abbrev pub LacksFrom : Naming → ℕ → List PredTree → Type 0
LacksFrom called n front = (m k : ℕ) → n ≤ m → find_pred false (called m) k front ≡ None

-- so all are found
pub helpers-found : (v : View) (later : Later) (preds : List PredTree) (called : Naming) → ((i j : ℕ) → called i ≡ called j → i ≡ j) → ((n k : ℕ) → is_given_predicate (called n) k ≡ false) → (n : ℕ) (front ps rest : List PredTree) → LacksFrom called n front → NamedFrom called n ps →
    preds ≡ front ++ (ps ++ rest) → AllHelp (whole v later preds) preds ps
unfolding NamedFrom
helpers-found v later preds called apart plain n front [] rest lacks named is = tt
helpers-found v later preds called apart plain n front (p ∷ ps) rest lacks named is = (
  record {
    found = ap (find_pred false p.name p.arity) is ∙ find-append false p.name p.arity front (p ∷ ps ++ rest)
        ∙ ap (λ (o : Option PredTree). option_or o (find_pred false p.name p.arity (p ∷ ps ++ rest))) (ap (λ (m : List ℕ). find_pred false m p.arity front) named.0.name ∙ lacks n p.arity (omega arith))
        ∙ found-first false p.name p.arity p (ps ++ rest) (helper-itself called n p named.0);
    quiet = named.0.quiet;
    index = named.0.index;
    own = λ l ts s count. ap (λ (m : List ℕ). (whole v later preds).predicate l m ts s) named.0.name ∙ not-given v later preds (called n) (plain n) l ts s;
  },
  helpers-found v later preds called apart plain (suc n) (front ++ p ∷ []) ps rest (λ m k more. find-append false (called m) k front (p ∷ [])
      ∙ ap (λ (o : Option PredTree). option_or o (find_pred false (called m) k (p ∷ []))) (lacks m k (omega (arith, more))) ∙ found-none false (called m) k p (helper-other called apart n m (omega (arith, more)) p named.0 k)) named.1
      (is ∙ sym (append_assoc front (p ∷ []) (ps ++ rest))),
)

-- each that is found among them is quiet
pub quiet-found : (name : List ℕ) (k : ℕ) (ps : List PredTree) → AreQuiet ps → is_called_by_name (find_pred false name k ps) ≡ false
unfolding find_pred
quiet-found name k [] quiet = refl
quiet-found name k (p ∷ ps) quiet = go (is_pred false name k p) (quiet-found name k ps quiet.2)
  where
    go : (c : Bool) → is_called_by_name (find_pred false name k ps) ≡ false → is_called_by_name (cond c (Some p) (find_pred false name k ps)) ≡ false
    go true rest = ap not quiet.0
    go false rest = rest

pub named-quiet : (called : Naming) (n : ℕ) (ps : List PredTree) → NamedFrom called n ps → AreQuiet ps
unfolding NamedFrom
named-quiet called n [] named = tt
named-quiet called n (p ∷ ps) named = (named.0.quiet, named.0.kind, named-quiet called (suc n) ps named.1)

pub both-quiet : (ps qs : List PredTree) → AreQuiet ps → AreQuiet qs → AreQuiet (ps ++ qs)
both-quiet [] qs a b = b
both-quiet (p ∷ ps) qs a b = (a.0, a.1, both-quiet ps qs a.2 b)

-- and none is a function
pub no-function : (name : List ℕ) (k : ℕ) (ps : List PredTree) → AreQuiet ps → find_pred true name k ps ≡ None
unfolding find_pred
no-function name k [] quiet = refl
no-function name k (p ∷ ps) quiet = ap (λ (f : Bool). cond (f && (is_eq (name_order p.name name) && (p.arity == k))) (Some p) (find_pred true name k ps)) quiet.1 ∙ no-function name k ps quiet.2
