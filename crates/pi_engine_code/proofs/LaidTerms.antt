-- Terms as operands: what is read in tables is read in longer ones, and spells the term.
use Rattle.std.proofs.Common.{◌≡◌, ℕ, zero, suc, ◌+◌, ◌≤◌, ◌<◌, List, [], ◌∷◌, ◌++◌, Some, length, take, get_or, refl, sym, ◌∙◌, ap, subst, arith, length-append}
use Rattle.std.specs.Prelude.{slice_get, IsSomeAnd}
use Rattle.std.proofs.lemmas.List.{take_more, take_all}
use Rattle.std.proofs.lemmas.Option.{slice_get-get_or, slice_get_within, get_or_from_slice_get}
use Rattle.pi_terms.specs.Tree.{Tree, var, int, atom, comp, Trees, no_trees, tree, cells, subterms, subterms_all, ShowsHead}
use Rattle.pi_terms.specs.Variables.{IsGround, occurrences, occurrences_all, firsts}
use Rattle.pi_constraints.specs.Store.{Terms, StoreView, Stays, Gives, Extend}
use Rattle.pi_terms.specs.Copy.{copy, new_variables}
use Rattle.pi_terms.specs.declared.term.TermHead.{TermHead}
use Rattle.pi_constraints.specs.declared.store.Ref.{Ref}
use Rattle.pi_core.specs.declared.core_program.CorePred.{CorePred}
use Rattle.pi_terms.proofs.GetLemmas.{get_append_last}
use Rattle.pi_terms.proofs.CopyLemmas.{ground_is_its_own_copy}
use Rattle.pi_terms.proofs.TermLemmas.{subterm_for_each_cell}
use Rattle.pi_unify.specs.Copying.{with_variables}
use Rattle.pi_engine_code.specs.declared.code.Operand.{Operand}
use Rattle.pi_engine_code.specs.declared.code.Part.{Part}
use Rattle.pi_engine_code.specs.declared.code.Code.{Code}
use Rattle.pi_engine_code.specs.Code.{Tables}
use Rattle.pi_engine_code.specs.Laid.{Longer, tables_for, Adds, AddsParts, IsPartOf, PartsAt, IsOperand, OperandsAt}
use Rattle.pi_constraints.proofs.StateLemmas.{extends}
use Rattle.pi_engine_code.proofs.LaidTables.{adds-none, parts-then, longer-pushed}
use Rattle.pi_terms.proofs.ListLemmas.{length-taken}

-- ---- longer tables

-- what tables that grow are to each other, where operands are read in them
pub record Wider (t u : Tables) : Type 0 where
  pub terms : Extend t.terms u.terms
  pub operands : Longer t.operands u.operands
  pub parts : Longer t.parts u.parts
  pub names : Longer t.names u.names

pub wider-added : {M : Type 0} (preds : List CorePred) (v w : StoreView M) (c d : Code) → Adds v w c d → Wider (tables_for preds v.now.terms c) (tables_for preds w.now.terms d)
wider-added preds v w c d a = record { terms = extends v w a.stays.keeps; operands = a.operands; parts = a.parts; names = a.names }

pub part-wider : (T U : Terms) (ns ms : List (List ℕ)) (u : Tree) (p : Part) → Extend T U → Longer ns ms → IsPartOf T ns u p → IsPartOf U ms u p
part-wider T U ns ms u (Part.Slot k) h l is = is
part-wider T U ns ms u (Part.Known r) h l is = (h r.number u is.0, is.1)
part-wider T U ns ms u (Part.Compound i k) h l is = (is.0, l i is.0 is.1, is.2, is.3)

pub parts-wider : (t u : Tables) (at : ℕ) (us : List Tree) → Wider t u → PartsAt t at us → PartsAt u at us
unfolding PartsAt
parts-wider t u at [] h are = are
parts-wider t u at (x ∷ us) h (first, rest) = ((first.0, h.parts at first.0 first.1, part-wider t.terms u.terms t.names u.names x first.0 h.terms h.names first.2), parts-wider t u (suc at) us h rest)

pub operand-wider : (t u : Tables) (x : Tree) (o : Operand) → Wider t u → IsOperand t x o → IsOperand u x o
operand-wider t u x (Operand.Slot k) h is = is
operand-wider t u x (Operand.Known r) h is = (h.terms r.number x is.0, is.1)
operand-wider t u x (Operand.Made from to) h is = (is.0, parts-wider t u from (subterms x) h is.1)

-- what has more at its places is as long at least
longer-length : {A : Type 0} (xs ys : List A) → Longer xs ys → length xs ≤ length ys
longer-length [] ys h = omega arith
longer-length (x ∷ xs) ys h =
    let some : slice_get (x ∷ xs) (length xs) ≡ Some (get_or (x ∷ xs) (length xs) x) = slice_get-get_or (x ∷ xs) (length xs) x (omega arith) in
    let within : length xs < length ys = slice_get_within ys (length xs) (get_or (x ∷ xs) (length xs) x) (h (length xs) (get_or (x ∷ xs) (length xs) x) some) in
    omega (arith, within)

pub operands-wider : (t u : Tables) (at : ℕ) (us : List Tree) → Wider t u → OperandsAt t at us → OperandsAt u at us
unfolding OperandsAt
operands-wider t u at [] h are = omega (arith, are, longer-length t.operands u.operands h.operands)
operands-wider t u at (x ∷ us) h (first, rest) = ((first.0, h.operands at first.0 first.1, operand-wider t u x first.0 h first.2), operands-wider t u (suc at) us h rest)

-- ---- one more part

pub parts-more : (t : Tables) (at : ℕ) (us : List Tree) (x : Tree) (p : Part) → PartsAt t at us → slice_get t.parts (at + length us) ≡ Some p → IsPartOf t.terms t.names x p → PartsAt t at (us ++ x ∷ [])
unfolding PartsAt
parts-more t at [] x p are here is = ((p, ap (slice_get t.parts) (omega arith) ∙ here, is), tt)
parts-more t at (y ∷ us) x p (first, rest) here is = (first, parts-more t (suc at) us x p rest (ap (slice_get t.parts) (omega arith) ∙ here) is)

some-at : (xs : List Tree) (i : ℕ) (P : Tree → Type 0) → IsSomeAnd (slice_get xs i) P → (u : Tree) × (slice_get xs i ≡ Some u) × P u
some-at [] i P h = absurd h
some-at (x ∷ xs) zero P h = (x, refl, h)
some-at (x ∷ xs) (suc i) P h = some-at xs i P h

-- the first terms, and one more
taken-more : (xs : List Tree) (i : ℕ) (u : Tree) → slice_get xs i ≡ Some u → take (i + 1) xs ≡ take i xs ++ u ∷ []
taken-more xs i u at = take_more xs i u (slice_get_within xs i u at) ∙ ap (λ r. take i xs ++ r ∷ []) (get_or_from_slice_get xs i u u at)

-- so many parts of a term were added
pub record PartsAdded {M : Type 0} (v w : StoreView M) (c d : Code) (u : Tree) (i : ℕ) : Type 0 where
  pub adds : AddsParts v w c d
  pub long : length d.parts.items ≡ length c.parts.items + i
  pub are : (preds : List CorePred) → PartsAt (tables_for preds w.now.terms d) (length c.parts.items) (take i (subterms u))

pub no-parts-added : {M : Type 0} (v : StoreView M) (c : Code) (u : Tree) → PartsAdded v v c c u 0
unfolding PartsAt
no-parts-added v c u =
    record { adds = record { adds = adds-none v c; steps = refl; operands = refl; tests = refl; rules = refl; predicates = refl }; long = omega arith; are = λ preds. tt }

abbrev with_parts : Code → Code → Code
with_parts d e = record { core = d.core; helpers = d.helpers; steps = d.steps; operands = d.operands; parts = e.parts; names = e.names; tests = d.tests; rules = d.rules; predicates = d.predicates; callables = d.callables; keys = d.keys }

pub part-added : {M : Type 0} (v w x : StoreView M) (c d e : Code) (u : Tree) (i : ℕ) (p : Part) (h : TermHead) → PartsAdded v w c d u i → IsSomeAnd (slice_get (subterms u) i) (λ r. ShowsHead r h) →
    Stays w x → Longer d.names.items e.names.items → ((r : Tree) → ShowsHead r h → IsPartOf x.now.terms e.names.items r p) → e.parts.items ≡ d.parts.items ++ p ∷ [] → PartsAdded v x c (with_parts d e) u (i + 1)
part-added v w x c d e u i p h before shows stays names is pushed =
    let found : (r : Tree) × (slice_get (subterms u) i ≡ Some r) × ShowsHead r h = some-at (subterms u) i (λ r. ShowsHead r h) shows in
    let more : AddsParts w x d (with_parts d e) =
    record {
      adds = record {
        stays = stays;
        core = refl;
        steps = λ i x at. at;
        operands = λ i x at. at;
        parts = longer-pushed d.parts.items e.parts.items p pushed;
        names = names;
        tests = λ i x at. at;
        rules = λ i x at. at;
        predicates = λ i x at. at;
      };
      steps = refl;
      operands = refl;
      tests = refl;
      rules = refl;
      predicates = refl;
    } in
    let place : length c.parts.items + length (take i (subterms u)) ≡ length d.parts.items = ap (λ n. length c.parts.items + n) (length-taken (subterms u) i (omega (arith, slice_get_within (subterms u) i found.0 found.1))) ∙ sym before.long in
    record {
      adds = parts-then v w x c d (with_parts d e) before.adds more;
      long = ap length pushed ∙ length-append d.parts.items (p ∷ []) ∙ ap (λ n. n + 1) before.long ∙ omega arith;
      are = λ preds.
          subst (λ us. PartsAt (tables_for preds x.now.terms (with_parts d e)) (length c.parts.items) us) (sym (taken-more (subterms u) i found.0 found.1))
          (parts-more (tables_for preds x.now.terms (with_parts d e)) (length c.parts.items) (take i (subterms u)) found.0 p
          (parts-wider (tables_for preds w.now.terms d) (tables_for preds x.now.terms (with_parts d e)) (length c.parts.items) (take i (subterms u)) (wider-added preds w x d (with_parts d e) more.adds) (before.are preds))
          (ap (slice_get e.parts.items) place ∙ ap (λ r. slice_get r (length d.parts.items)) pushed ∙ get_append_last d.parts.items p)
          (is found.0 found.2));
    }

pub all-parts-added : {M : Type 0} (v w : StoreView M) (c d : Code) (u : Tree) (i : ℕ) → PartsAdded v w c d u i → i ≡ cells u →
    (length d.parts.items ≡ length c.parts.items + cells u) × ((preds : List CorePred) → PartsAt (tables_for preds w.now.terms d) (length c.parts.items) (subterms u))
all-parts-added v w c d u i are e = (
  are.long ∙ ap (λ n. length c.parts.items + n) e,
  λ preds. subst (λ us. PartsAt (tables_for preds w.now.terms d) (length c.parts.items) us) (take_all i (subterms u) (omega (arith, e, subterm_for_each_cell u))) (are.are preds),
)

-- ---- ground terms

-- none of these is a variable
pub NoVariables : List Tree → Type 0
NoVariables [] = Unit {0}
NoVariables (u ∷ us) = ((n : ℕ) → u ≡ var n → ⊥) × NoVariables us

pub no-variables-none : NoVariables []
unfolding NoVariables
no-variables-none = tt

no-variables-more : (us : List Tree) (x : Tree) → NoVariables us → ((n : ℕ) → x ≡ var n → ⊥) → NoVariables (us ++ x ∷ [])
unfolding NoVariables
no-variables-more [] x h is = (is, tt)
no-variables-more (u ∷ us) x h is = (h.0, no-variables-more us x h.1 is)

no-variables-front : (us ws : List Tree) → NoVariables (us ++ ws) → NoVariables us
unfolding NoVariables
no-variables-front [] ws h = tt
no-variables-front (u ∷ us) ws h = (h.0, no-variables-front us ws h.1)

no-variables-behind : (us ws : List Tree) → NoVariables (us ++ ws) → NoVariables ws
unfolding NoVariables
no-variables-behind [] ws h = h
no-variables-behind (u ∷ us) ws h = no-variables-behind us ws h.1

mutual
  unfolding occurrences subterms NoVariables

  none-occurs : (u : Tree) → NoVariables (subterms u) → occurrences u ≡ []
  none-occurs (var n) h = absurd (h.0 n refl)
  none-occurs (int n) h = refl
  none-occurs (atom name) h = refl
  none-occurs (comp name ts) h = none-occurs-all ts h.1

  none-occurs-all : (ts : Trees) → NoVariables (subterms_all ts) → occurrences_all ts ≡ []
  none-occurs-all no_trees h = refl
  none-occurs-all (tree t ts) h =
      ap (λ r. r ++ occurrences_all ts) (none-occurs t (no-variables-front (subterms t) (subterms_all ts) h)) ∙ none-occurs-all ts (no-variables-behind (subterms t) (subterms_all ts) h)

shows-no-variable : (r : Tree) (h : TermHead) → ShowsHead r h → ((n : ℕ) → h ≡ TermHead.Var n → ⊥) → (n : ℕ) → r ≡ var n → ⊥
shows-no-variable r (TermHead.Var m) shows not n e = not m refl
shows-no-variable r (TermHead.Int m) shows not n e = absurd (cc (shows, e))
shows-no-variable r (TermHead.Atom name) shows not n e = absurd (cc (shows, e))
shows-no-variable r (TermHead.Comp name k) shows not n e = absurd (cc (shows.0, e))

pub no-variable-more : (u : Tree) (i : ℕ) (h : TermHead) → IsSomeAnd (slice_get (subterms u) i) (λ r. ShowsHead r h) → ((n : ℕ) → h ≡ TermHead.Var n → ⊥) → NoVariables (take i (subterms u)) → NoVariables (take (i + 1) (subterms u))
no-variable-more u i h shows not before =
    let found : (r : Tree) × (slice_get (subterms u) i ≡ Some r) × ShowsHead r h = some-at (subterms u) i (λ r. ShowsHead r h) shows in
    subst NoVariables (sym (taken-more (subterms u) i found.0 found.1)) (no-variables-more (take i (subterms u)) found.0 before (shows-no-variable found.0 h found.2 not))

pub ground-all : (u : Tree) (i : ℕ) → i ≡ cells u → NoVariables (take i (subterms u)) → IsGround u
unfolding firsts
ground-all u i e h = ap firsts (none-occurs u (subst NoVariables (take_all i (subterms u) (omega (arith, e, subterm_for_each_cell u))) h))

-- a ground term that is placed
pub placed-ground : {M : Type 0} (v w : StoreView M) (r : Ref) (u : Tree) (next : ℕ) → IsGround u → Gives v w (with_variables (new_variables u) v.now.state) r (copy next u) → Stays v w × (w.now.terms r.number ≡ Some u)
unfolding with_variables
placed-ground v w r u next ground gives = (
  record { keeps = gives.changes.keeps; state = gives.changes.state ∙ ap (λ n. with_variables n v.now.state) (ap length ground) },
  gives.term ∙ ap (λ x. Some x) (ground_is_its_own_copy next u ground),
)

pub placed-parts : {M : Type 0} (v w : StoreView M) (c : Code) → Stays v w → AddsParts v w c c
placed-parts v w c stays =
    record {
      adds = record {
        stays = stays;
        core = refl;
        steps = λ i x at. at;
        operands = λ i x at. at;
        parts = λ i x at. at;
        names = λ i x at. at;
        tests = λ i x at. at;
        rules = λ i x at. at;
        predicates = λ i x at. at;
      };
      steps = refl;
      operands = refl;
      tests = refl;
      rules = refl;
      predicates = refl;
    }
