-- What a call of `solve` asks for, by its arguments: the options and the variables, or the term that is raised. The size of the options is judged first, then their
-- form, then their words, then the variables. (A User's Guide to Picat, 'Constraints'; that order, exceptions and the limit are own.)
use Rattle.std.specs.Prelude.{ℕ, zero, suc, nat_lt, cond, List, [], ◌∷◌, ◌++◌, map, Option, Some, None, codes}
use Rattle.pi_terms.specs.Tree.{Tree, var, int, atom, comp, cells, most_cells}
use Rattle.pi_terms.specs.ListNames.{nil}
use Rattle.pi_constraints.specs.declared.constraint.Item.{Item}
use Rattle.pi_constraints.specs.Value.{Bindings, value}
use Rattle.pi_constraints.specs.State.{State, bindings, followed}
use Rattle.pi_effects.specs.Exception.{term_too_large, exception_with, type_error}
use Rattle.pi_effects.specs.Items.{list_items, collection_items}
use Rattle.pi_settling.specs.Options.{Options, ReadOptions, options, bad_option, read_options}

-- ---- the variables: integers and variables, alone or nested in lists and arrays at any depth

-- all of them from the left, each as it stands; or the first term from the left that is none
pub data Flat : Type 0 where
  flat : List Item → Flat
  no_item : Tree → Flat

abbrev pub joined : Flat → Flat → Flat
joined (flat xs) (flat ys) = flat (xs ++ ys)
joined (flat xs) (no_item t) = no_item t
joined (no_item t) later = no_item t

unfoldable pub flat_all : (Tree → Flat) → List Tree → Flat
flat_all flatten [] = flat []
flat_all flatten (t ∷ ts) = joined (flatten t) (flat_all flatten ts)

-- a list or an array, by its items; any other term is none
abbrev pub flat_parts : (Tree → Flat) → Tree → Option (List Tree) → Flat
flat_parts flatten t None = no_item t
flat_parts flatten t (Some ts) = flat_all flatten ts

-- a variable, by the term that it leads to
abbrev pub flat_variable : (Tree → Flat) → Bindings → ℕ → Tree → Flat
flat_variable flatten b n (var m) = flat (Item.Var n ∷ [])
flat_variable flatten b n (int i) = flat (Item.Var n ∷ [])
flat_variable flatten b n (atom name) = flat_parts flatten (atom name) (collection_items b (atom name))
flat_variable flatten b n (comp name ts) = flat_parts flatten (comp name ts) (collection_items b (comp name ts))

-- so many levels deep at most
unfoldable pub flat_for : ℕ → Bindings → Tree → Flat
flat_for zero b t = no_item t
flat_for (suc k) b (var n) = flat_variable (flat_for k b) b n (followed b (var n))
flat_for (suc k) b (int i) = flat (Item.Int i ∷ [])
flat_for (suc k) b (atom name) = flat_parts (flat_for k b) (atom name) (collection_items b (atom name))
flat_for (suc k) b (comp name ts) = flat_parts (flat_for k b) (comp name ts) (collection_items b (comp name ts))

-- a term has no more levels than its value has cells
abbrev pub flat_items : Bindings → Tree → Flat
flat_items b t = flat_for (cells (value b t)) b t

-- ---- the call

pub data Asked : Type 0 where
  labels : Options → List Item → Asked
  raises : Tree → Asked

-- a term among the variables that is none is told
abbrev pub with_items : State → Options → Flat → Asked
with_items s o (flat xs) = labels o xs
with_items s o (no_item t) = raises (type_error (codes "integer") t s)

-- a wrong word is told, and the variables are looked at behind the words
abbrev pub with_options : State → Tree → ReadOptions → Asked
with_options s vars (options o) = with_items s o (flat_items (bindings s) vars)
with_options s vars (bad_option t) = raises (exception_with (codes "bad_option") t s)

-- options that are no proper list are told as they are
abbrev pub with_words : State → Tree → Tree → Option (List Tree) → Asked
with_words s words vars None = raises (exception_with (codes "bad_option") words s)
with_words s words vars (Some ts) = with_options s vars (read_options (map (followed (bindings s)) ts))

-- solve(Options,Vars)
abbrev pub asked : State → Tree → Tree → Asked
asked s words vars = cond (nat_lt most_cells (cells (value (bindings s) words))) (raises term_too_large) (with_words s words vars (list_items (bindings s) words))

-- solve(Vars), and the arguments of `sat_solve`
abbrev pub asked_plainly : State → Tree → Asked
asked_plainly s vars = asked s (atom nil) vars
