-- A list that is walked, cell by cell.
use Rattle.std.proofs.Common.{◌≡◌, ℕ, true, cond, List, [], ◌∷◌, ◌++◌, refl, sym, ap, ◌∙◌, subst, append_assoc}
use Rattle.std.specs.Prelude.{Option, Some, None, Ok, option_map, option_and_then, Vec}
use Rattle.std.specs.Option.{option_or}
use Rattle.std.specs.declared.alloc.Global.{Global}
use Rattle.std.proofs.lemmas.List.{append-nil}
use Rattle.pi_terms.specs.Tree.{Tree, tree_at, arg_at}
use Rattle.pi_terms.specs.ListCopies.{list_cell}
use Rattle.pi_constraints.specs.Value.{Bindings, IsAcyclic}
use Rattle.pi_constraints.specs.State.{bindings, followed}
use Rattle.pi_constraints.specs.Store.{StoreView, IsTerm}
use Rattle.pi_constraints.specs.declared.store.Ref.{Ref}
use Rattle.pi_effects.specs.Items.{is_nil, cell_parts, in_front_of, items_of_root, list_items}
use Rattle.pi_effects.specs.Exception.{type_error}
use Rattle.pi_effects.specs.Answer.{found_or}
use Rattle.pi_effects.proofs.ItemLemmas.{items-by_root}
use Rattle.pi_effects.specs.Balls.{kind_name}
use Rattle.pi_effects.specs.Results.{Stops}
use Rattle.pi_effects.specs.declared.fault.Fault.{Fault}
use Rattle.pi_effects.specs.declared.fault.Kind.{Kind}
use Rattle.pi_effects.specs.declared.fault.Stop.{Stop}
use Rattle.pi_unify.specs.Terms.{HoldsNoCycle}
use Rattle.pi_lib_builtin.specs.Items.{AreItems, ShowsItems, ShowsPart, in_front_of_all, IsWalked}
use Rattle.pi_lib_builtin.specs.declared.parts.Part.{Part}
use Rattle.pi_lib_builtin.proofs.RowLemmas.{one-more}

-- ---- items by a list's root

at-nil : (items : Tree → Option (List Tree)) (u : Tree) → is_nil u ≡ true → items_of_root items u ≡ Some []
at-nil items u h = ap (λ b. option_or (cond b (Some []) None) (option_and_then (in_front_of items) (cell_parts u))) h

at-other : (items : Tree → Option (List Tree)) (u : Tree) → ShowsPart u Part.Other → items_of_root items u ≡ None
at-other items u h =
    ap (λ b. option_or (cond b (Some []) None) (option_and_then (in_front_of items) (cell_parts u))) h.0 ∙ ap (option_and_then (in_front_of items)) h.1

pub list-nil : (b : Bindings) (t : Tree) → IsAcyclic b → ShowsPart (followed b t) Part.Nil → list_items b t ≡ Some []
list-nil b t a h = items-by_root b t a ∙ at-nil (list_items b) (followed b t) h

pub list-other : (b : Bindings) (t : Tree) → IsAcyclic b → ShowsPart (followed b t) Part.Other → list_items b t ≡ None
list-other b t a h = items-by_root b t a ∙ at-other (list_items b) (followed b t) h

pub list-cell : (b : Bindings) (t item rest : Tree) → IsAcyclic b → followed b t ≡ list_cell item rest → list_items b t ≡ option_map (λ ts. item ∷ ts) (list_items b rest)
list-cell b t item rest a e = items-by_root b t a ∙ ap (items_of_root (list_items b)) e

-- ---- the walk

in-front-none : (o : Option (List Tree)) → o ≡ in_front_of_all [] o
in-front-none None = refl
in-front-none (Some ts) = refl

in-front-more : (done : List Tree) (t : Tree) (o : Option (List Tree)) → in_front_of_all done (option_map (λ ts. t ∷ ts) o) ≡ in_front_of_all (done ++ t ∷ []) o
in-front-more done t None = refl
in-front-more done t (Some ts) = ap Some (sym (append_assoc done (t ∷ []) ts))

pub walk-none : {M : Type 0} (v : StoreView M) (t : Tree) (r : Ref) (found : List Ref) → found ≡ [] → IsTerm v r t → IsWalked v t found r
walk-none v t r found none is =
    record { done = []; rest = t; are = subst (λ (rs : List Ref). AreItems v rs []) (sym none) tt; here = is; goes = in-front-none (list_items (bindings v.now.state) t) }

-- what `part_at` says of a Ref, and what `arg` of a store does
abbrev Parted : {M : Type 0} → StoreView M → Ref → Part → Type 0
Parted v r part = (t : Tree) → HoldsNoCycle v → IsTerm v r t → ShowsPart (followed (bindings v.now.state) t) part

abbrev IsArg : {M : Type 0} → StoreView M → Ref → ℕ → Ref → Type 0
IsArg v r i q = (t u : Tree) → IsTerm v r t → IsAcyclic (bindings v.now.state) → arg_at (followed (bindings v.now.state) t) i ≡ Some u → IsTerm v q u

pub cell-arguments : (item rest : Tree) → (arg_at (list_cell item rest) 0 ≡ Some item) × (arg_at (list_cell item rest) 1 ≡ Some rest)
unfolding tree_at
cell-arguments item rest = (refl, refl)

pub walk-more : {M : Type 0} (v : StoreView M) (whole : Tree) (found new : List Ref) (at x next : Ref) → HoldsNoCycle v → IsWalked v whole found at → Parted v at Part.Cell → IsArg v at 0 x → IsArg v at 1 next → new ≡ found ++ x ∷ [] → IsWalked v whole new next
walk-more v whole found new at x next a walked parted first second pushed =
    let b : Bindings = bindings v.now.state in
    let cell : ShowsPart (followed b walked.rest) Part.Cell = parted walked.rest a walked.here in
    let item : Tree = cell.0 in
    let rest : Tree = cell.1 in
    record {
      done = walked.done ++ item ∷ [];
      rest = rest;
      are = subst (λ (rs : List Ref). AreItems v rs (walked.done ++ item ∷ [])) (sym pushed)
          (one-more v found walked.done x item walked.are (first walked.rest item walked.here a (ap (λ u. arg_at u 0) cell.2 ∙ (cell-arguments item rest).0)));
      here = second walked.rest rest walked.here a (ap (λ u. arg_at u 1) cell.2 ∙ (cell-arguments item rest).1);
      goes = walked.goes ∙ (ap (in_front_of_all walked.done) (list-cell b walked.rest item rest a cell.2) ∙ in-front-more walked.done item (list_items b rest));
    }

pub walk-ends : {M : Type 0} (v : StoreView M) (whole : Tree) (found : Vec Ref Global) (at : Ref) → HoldsNoCycle v → IsWalked v whole found.items at → Parted v at Part.Nil → ShowsItems v (list_items (bindings v.now.state) whole) (Some found)
walk-ends v whole found at a walked parted = (
  walked.done,
  walked.goes ∙ (ap (in_front_of_all walked.done) (list-nil (bindings v.now.state) walked.rest a (parted walked.rest a walked.here)) ∙ ap Some (append-nil walked.done)),
  walked.are,
)

pub walk-fails : {M : Type 0} (v : StoreView M) (whole : Tree) (found : List Ref) (at : Ref) → HoldsNoCycle v → IsWalked v whole found at → Parted v at Part.Other → list_items (bindings v.now.state) whole ≡ None
walk-fails v whole found at a walked parted =
    walked.goes ∙ ap (in_front_of_all walked.done) (list-other (bindings v.now.state) walked.rest a (parted walked.rest a walked.here))

-- ---- what is raised where there are no items

pub list-raised : {M : Type 0} (v : StoreView M) (r : Ref) (kind : Kind) (t : Tree) → IsTerm v r t → list_items (bindings v.now.state) t ≡ None
    → Stops v (Stop.Raised (Fault.WrongKind kind r)) (found_or (list_items (bindings v.now.state) t) (type_error (kind_name kind) t v.now.state) (λ ts. Ok ts))
list-raised v r kind t is none = (type_error (kind_name kind) t v.now.state, ap (λ o. found_or o (type_error (kind_name kind) t v.now.state) (λ ts. Ok ts)) none, (t, is, refl))
