-- Operands of calls, and calls of what has a number.
use Rattle.std.proofs.Common.{◌≡◌, ℕ, suc, ◌+◌, ◌<◌, ◌≤◌, Bool, List, [], ◌∷◌, ◌++◌, Option, Some, None, length, take, get_or, refl, sym, ◌∙◌, ap, subst, arith, length-append}
use Rattle.std.specs.Prelude.{slice_get, IsSome}
use Rattle.std.proofs.lemmas.List.{take_more, take_all}
use Rattle.std.proofs.lemmas.Option.{slice_get_within}
use Rattle.pi_terms.specs.Tree.{Tree}
use Rattle.pi_constraints.specs.Store.{StoreView}
use Rattle.pi_core.specs.declared.goal_node.GoalKind.{GoalKind}
use Rattle.pi_core.specs.declared.core_program.CorePred.{CorePred}
use Rattle.pi_terms.proofs.GetLemmas.{get_append_last}
use Rattle.pi_unify.proofs.KeepsLemmas.{keeps_none}
use Rattle.pi_engine_code.specs.declared.code.Operand.{Operand}
use Rattle.pi_engine_code.specs.declared.code.Node.{Node}
use Rattle.pi_engine_code.specs.declared.code.Step.{Step}
use Rattle.pi_engine_code.specs.declared.code.Code.{Code}
use Rattle.pi_engine_code.specs.declared.build.numbers.Numbers.{Numbers}
use Rattle.pi_engine_code.specs.Numbers.{number_in, IsNumbering}
use Rattle.pi_engine_code.specs.Code.{Tables}
use Rattle.pi_engine_code.specs.Laid.{tables_for, AddsParts, AddsOperands, OperandsAt, IsOperand, IsUnnamed, IsValueLaid, IsResolved, AreResolved}
use Rattle.pi_engine_code.proofs.LaidTables.{operands-none, operands-by-parts, operands-then, longer-pushed}
use Rattle.pi_engine_code.proofs.LaidTerms.{wider-added, operand-wider, operands-wider}
use Rattle.pi_engine_code.proofs.LaidSteps.{step-pushed, resolved-more}
use Rattle.pi_terms.proofs.ListLemmas.{length-taken}

-- ---- operands that are added

pub operands-more : (t : Tables) (at : ℕ) (us : List Tree) (x : Tree) (o : Operand) → OperandsAt t at us → slice_get t.operands (at + length us) ≡ Some o → IsOperand t x o → OperandsAt t at (us ++ x ∷ [])
unfolding OperandsAt
operands-more t at [] x o are here is =
    let there : slice_get t.operands at ≡ Some o = ap (slice_get t.operands) (omega arith) ∙ here in
    ((o, there, is), omega (arith, slice_get_within t.operands at o there))
operands-more t at (y ∷ us) x o (first, rest) here is = (first, operands-more t (suc at) us x o rest (ap (slice_get t.operands) (omega arith) ∙ here) is)

pub record OperandsAdded {M : Type 0} (v w : StoreView M) (c d : Code) (us : List Tree) (i : ℕ) : Type 0 where
  pub adds : AddsOperands v w c d
  pub long : length d.operands.items ≡ length c.operands.items + i
  pub are : (preds : List CorePred) → OperandsAt (tables_for preds w.now.terms d) (length c.operands.items) (take i us)

pub no-operands-added : {M : Type 0} (v : StoreView M) (c : Code) (us : List Tree) → OperandsAdded v v c c us 0
unfolding OperandsAt
no-operands-added v c us = record { adds = operands-none v c; long = omega arith; are = λ preds. omega arith }

abbrev with_operands : Code → Code → Code
with_operands d e = record { core = d.core; helpers = d.helpers; steps = d.steps; operands = e.operands; parts = d.parts; names = d.names; tests = d.tests; rules = d.rules; predicates = d.predicates; callables = d.callables; keys = d.keys }

operand-pushed : {M : Type 0} (v : StoreView M) (d e : Code) (o : Operand) → e.operands.items ≡ d.operands.items ++ o ∷ [] → AddsOperands v v d (with_operands d e)
operand-pushed v d e o pushed =
    record {
      adds = record {
        stays = record { keeps = keeps_none v; state = refl };
        core = refl;
        steps = λ i x at. at;
        operands = longer-pushed d.operands.items e.operands.items o pushed;
        parts = λ i x at. at;
        names = λ i x at. at;
        tests = λ i x at. at;
        rules = λ i x at. at;
        predicates = λ i x at. at;
      };
      steps = refl;
      tests = refl;
      rules = refl;
      predicates = refl;
    }

pub operand-added : {M : Type 0} (v w x : StoreView M) (c d f e : Code) (us : List Tree) (i : ℕ) (u : Tree) (o : Operand) → OperandsAdded v w c d us i → i < length us → u ≡ get_or us i u → AddsParts w x d f →
    ((preds : List CorePred) → IsOperand (tables_for preds x.now.terms f) u o) → e.operands.items ≡ f.operands.items ++ o ∷ [] → OperandsAdded v x c (with_operands f e) us (i + 1)
operand-added v w x c d f e us i u o before within item adds is pushed =
    let after : Code = with_operands f e in
    let push : AddsOperands x x f after = operand-pushed x f e o pushed in
    let more : AddsOperands w x d after = operands-then w x x d f after (operands-by-parts w x d f adds) push in
    let place : length c.operands.items + length (take i us) ≡ length f.operands.items =
    ap (λ n. length c.operands.items + n) (length-taken us i (omega (arith, within))) ∙ sym before.long ∙ ap (λ r. length r.items) (sym adds.operands) in
    record {
      adds = operands-then v w x c d after before.adds more;
      long = ap length pushed ∙ length-append f.operands.items (o ∷ []) ∙ omega (arith, before.long, ap (λ r. length r.items) adds.operands);
      are = λ preds.
          subst (OperandsAt (tables_for preds x.now.terms after) (length c.operands.items)) (sym (take_more us i u within ∙ ap (λ y. take i us ++ y ∷ []) (sym item)))
          (operands-more (tables_for preds x.now.terms after) (length c.operands.items) (take i us) u o
          (operands-wider (tables_for preds w.now.terms d) (tables_for preds x.now.terms after) (length c.operands.items) (take i us) (wider-added preds w x d after more.adds) (before.are preds))
          (ap (slice_get e.operands.items) place ∙ ap (λ r. slice_get r (length f.operands.items)) pushed ∙ get_append_last f.operands.items o)
          (operand-wider (tables_for preds x.now.terms f) (tables_for preds x.now.terms after) u o (wider-added preds x x f after push.adds) (is preds)));
    }

pub all-operands-added : {M : Type 0} (v w : StoreView M) (c d : Code) (us : List Tree) (i first : ℕ) → OperandsAdded v w c d us i → length us ≤ i → first ≡ length c.operands.items → (preds : List CorePred) → OperandsAt (tables_for preds w.now.terms d) first us
all-operands-added v w c d us i first added whole place preds =
    subst (λ n. OperandsAt (tables_for preds w.now.terms d) n us) (sym place)
    (subst (OperandsAt (tables_for preds w.now.terms d) (length c.operands.items)) (take_all i us whole) (added.are preds))

-- ---- what is called

none-some : (o : Option ℕ) → o ≡ None → IsSome o → ⊥
none-some None e h = absurd cc
none-some (Some n) e h = absurd cc

pub unnamed : (m : Numbers) (preds : List CorePred) (function : Bool) (name : List ℕ) (k : ℕ) (found : Option ℕ) → IsNumbering m preds → found ≡ number_in m function name k → found ≡ None → IsUnnamed preds function name k
unnamed m preds function name k found numbered e none n is =
    let some : IsSome (number_in m is.pred.function is.pred.name is.pred.arity) = numbered.each n is.pred is.is in
    let same : number_in m is.pred.function is.pred.name is.pred.arity ≡ None =
    ap (λ b. number_in m b is.pred.name is.pred.arity) is.function_is ∙ ap (λ b. number_in m function b is.pred.arity) is.name_is ∙ ap (λ b. number_in m function name b) is.arity_is ∙ sym e ∙ none in
    none-some (number_in m is.pred.function is.pred.name is.pred.arity) same some

pub two-terms : (us : List Tree) (x y : Tree) → length us ≡ 2 → x ≡ get_or us 0 x → y ≡ get_or us 1 y → us ≡ x ∷ y ∷ []
two-terms [] x y h e f = absurd (omega arith)
two-terms (a ∷ []) x y h e f = absurd (omega arith)
two-terms (a ∷ b ∷ []) x y h e f = cc
two-terms (a ∷ b ∷ d ∷ us) x y h e f = absurd (omega arith)

pub one-term : (us : List Tree) (x : Tree) → length us ≡ 1 → x ≡ get_or us 0 x → us ≡ x ∷ []
one-term [] x h e = absurd (omega arith)
one-term (a ∷ []) x h e = cc
one-term (a ∷ b ∷ us) x h e = absurd (omega arith)

pub same-call : (name other : List ℕ) (us ws : List Tree) → name ≡ other → us ≡ ws → GoalKind.Call name us ≡ GoalKind.Call other ws
same-call name other us ws e f = cc

-- a function's value
pub value-laid : {M : Type 0} (v w : StoreView M) (c d e : Code) (first slots : ℕ) (u : Tree) (o : Operand) (s : Step) → AddsParts v w c d → ((preds : List CorePred) → IsOperand (tables_for preds w.now.terms d) u o) →
    s.node ≡ Node.Value o → s.first_slot ≡ first → s.slots ≡ slots → e.steps.items ≡ d.steps.items ++ s ∷ [] → (preds : List CorePred) →
    IsValueLaid (tables_for preds w.now.terms (record { core = d.core; helpers = d.helpers; steps = e.steps; operands = d.operands; parts = d.parts; names = d.names; tests = d.tests; rules = d.rules; predicates = d.predicates; callables = d.callables; keys = d.keys })) e.steps.items first slots (length c.steps.items) u
value-laid v w c d e first slots u o s adds is node first_is slots_is pushed preds =
    record {
      step = s;
      operand = o;
      stands = ap (slice_get e.steps.items) (ap (λ r. length r.items) (sym adds.steps)) ∙ ap (λ r. slice_get r (length d.steps.items)) pushed ∙ get_append_last d.steps.items s;
      node = node;
      is_value = operand-wider (tables_for preds w.now.terms d) _ u o (wider-added preds w w d _ (step-pushed w d e s pushed).adds) (is preds);
      first_is = first_is;
      slots_is = slots_is;
    }

pub value-resolved : (preds : List CorePred) (ss rs : List Step) (s : Step) (o : Operand) → rs ≡ ss ++ s ∷ [] → s.node ≡ Node.Value o → AreResolved preds ss → AreResolved preds rs
value-resolved preds ss rs s o e node are = resolved-more preds ss rs s e (subst (IsResolved preds) (sym node) tt) are
