-- Helpers of loops: their clauses are committed rules that name their own slots, and past no Tick they call what the program has, the tables, and helpers in front of them.
use Rattle.std.proofs.Common.{◌≡◌, ℕ, ◌<◌, false, true, List, [], ◌∷◌, ◌++◌, sym, subst, append_assoc}
use Rattle.std.specs.Prelude.{None, IsTrue, ⊤}
use Rattle.std.proofs.lemmas.List.{append-nil}
use Rattle.pi_terms.specs.PatternTree.{HaveSlot}
use Rattle.pi_core.specs.GoalTree.{truth}
use Rattle.pi_core.specs.CoreTree.{ClauseTree, PredTree}
use Rattle.pi_meaning.specs.Shared.Effects.{is_value_name}
use Rattle.pi_meaning.specs.CoreMeaning.Quiet.{Callee, Reaches}
use Rattle.pi_meaning.specs.CoreMeaning.Sound.{pattern_count}
use Rattle.pi_meaning.specs.CoreMeaning.Defined.{is_machine_predicate}
use Rattle.pi_rewrite_spec.specs.Forms.{Knows}
use Rattle.pi_rewrite_sound.proofs.FineGoals.{Fine, MayReach}

-- ---- what may be called

-- what a program has, and what the tables have
pub record Allows (known may : Knows) : Type 0 where
  pub predicates : (name : List ℕ) (k : ℕ) → IsTrue (known.predicate name k) → IsTrue (may.predicate name k)
  pub machine : (name : List ℕ) (k : ℕ) → IsTrue (is_machine_predicate name k) → IsTrue (may.predicate name k)
  pub functions : (name : List ℕ) (k : ℕ) → IsTrue (known.function name k) → IsTrue (may.function name k)
  pub tables : (name : List ℕ) (k : ℕ) → IsTrue (is_value_name name k) → IsTrue (may.function name k)

-- and each of these
abbrev pub Has : Knows → List PredTree → Type 0
Has may [] = ⊤
Has may (p ∷ ps) = IsTrue (may.predicate p.name p.arity) × Has may ps

pub has-first : (may : Knows) (ps qs : List PredTree) → Has may (ps ++ qs) → Has may ps
has-first may [] qs has = tt
has-first may (p ∷ ps) qs has = (has.0, has-first may ps qs has.1)

pub has-last : (may : Knows) (ps qs : List PredTree) → Has may (ps ++ qs) → Has may qs
has-last may [] qs has = has
has-last may (p ∷ ps) qs has = has-last may ps qs has.1

-- ---- clauses

-- a committed rule without a condition, of so many arguments
pub record FineClause (may : Knows) (arity : ℕ) (c : ClauseTree) : Type 0 where
  pub head : (k : ℕ) → HaveSlot c.head k → k < c.slots
  pub fits : pattern_count c.head ≡ arity
  pub body : Fine c.slots may c.body
  pub guard : c.guard ≡ truth
  pub back : c.back ≡ false
  pub watches : c.watches ≡ []
  pub value : c.value ≡ None

abbrev pub FineClauses : Knows → ℕ → List ClauseTree → Type 0
FineClauses may arity [] = ⊤
FineClauses may arity (c ∷ cs) = FineClause may arity c × FineClauses may arity cs

pub record FineHelper (may : Knows) (p : PredTree) : Type 0 where
  pub kind : p.function ≡ false
  pub quiet : p.quiet ≡ true
  pub index : p.index ≡ None
  pub clauses : FineClauses may p.arity p.clauses

abbrev pub FineHelpers : Knows → List PredTree → Type 0
FineHelpers may [] = ⊤
FineHelpers may (p ∷ ps) = FineHelper may p × FineHelpers may ps

pub fine-both : (may : Knows) (ps qs : List PredTree) → FineHelpers may ps → FineHelpers may qs → FineHelpers may (ps ++ qs)
fine-both may [] qs one two = two
fine-both may (p ∷ ps) qs one two = (one.0, fine-both may ps qs one.1 two)

-- ---- what is reached past no Tick

-- in the body of a clause: what may be called, where these helpers may
abbrev pub ReachesBefore : Knows → List PredTree → ClauseTree → Type 0
ReachesBefore known before c = (may : Knows) → Allows known may → Has may before → (d : Callee) → Reaches d c.body → MayReach may d

abbrev pub AllBefore : Knows → List PredTree → List ClauseTree → Type 0
AllBefore known before [] = ⊤
AllBefore known before (c ∷ cs) = ReachesBefore known before c × AllBefore known before cs

-- each helper reaches those in front of it alone
abbrev pub Falls : Knows → List PredTree → List PredTree → Type 0
Falls known before [] = ⊤
Falls known before (p ∷ ps) = AllBefore known before p.clauses × Falls known (before ++ p ∷ []) ps

all-behind : (known : Knows) (more before : List PredTree) (cs : List ClauseTree) → AllBefore known before cs → AllBefore known (more ++ before) cs
all-behind known more before [] all = tt
all-behind known more before (c ∷ cs) all = ((λ may allows has d at. all.0 may allows (has-last may more before has) d at), all-behind known more before cs all.1)

pub falls-behind : (known : Knows) (more before ps : List PredTree) → Falls known before ps → Falls known (more ++ before) ps
falls-behind known more before [] falls = tt
falls-behind known more before (p ∷ ps) falls = (
  all-behind known more before p.clauses falls.0,
  subst (λ (qs : List PredTree). Falls known qs ps) (sym (append_assoc more before (p ∷ []))) (falls-behind known more (before ++ p ∷ []) ps falls.1),
)

-- behind none
pub falls-later : (known : Knows) (more ps : List PredTree) → Falls known [] ps → Falls known more ps
falls-later known more ps falls = subst (λ (qs : List PredTree). Falls known qs ps) (append-nil more) (falls-behind known more [] ps falls)

pub falls-both : (known : Knows) (before ps qs : List PredTree) → Falls known before ps → Falls known (before ++ ps) qs → Falls known before (ps ++ qs)
falls-both known before [] qs one two = subst (λ (rs : List PredTree). Falls known rs qs) (append-nil before) two
falls-both known before (p ∷ ps) qs one two = (one.0, falls-both known (before ++ p ∷ []) ps qs one.1 (subst (λ (rs : List PredTree). Falls known rs qs) (sym (append_assoc before (p ∷ []) ps)) two))

-- ---- helpers of a text

pub record GoodHelpers (known : Knows) (ps : List PredTree) : Type 0 where
  pub each : (may : Knows) → Allows known may → Has may ps → FineHelpers may ps
  pub falls : Falls known [] ps

pub no-helpers : (known : Knows) → GoodHelpers known []
no-helpers known = record { each = λ may allows has. tt; falls = tt }

pub both-helpers : (known : Knows) (ps qs : List PredTree) → GoodHelpers known ps → GoodHelpers known qs → GoodHelpers known (ps ++ qs)
both-helpers known ps qs one two = record {
  each = λ may allows has. fine-both may ps qs (one.each may allows (has-first may ps qs has)) (two.each may allows (has-last may ps qs has));
  falls = falls-both known [] ps qs one.falls (falls-later known ps qs two.falls);
}

-- helpers, and behind them some that reach these alone
pub more-helpers : (known : Knows) (ps qs : List PredTree) → GoodHelpers known ps → ((may : Knows) → Allows known may → Has may ps → Has may qs → FineHelpers may qs) → Falls known ps qs → GoodHelpers known (ps ++ qs)
more-helpers known ps qs one two falls = record {
  each = λ may allows has. fine-both may ps qs (one.each may allows (has-first may ps qs has)) (two may allows (has-first may ps qs has) (has-last may ps qs has));
  falls = falls-both known [] ps qs one.falls falls;
}
