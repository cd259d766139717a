-- The items of lists and arrays by their Refs. (Own.)
use Rattle.std.specs.Prelude.{◌≡◌, ℕ, ℤ, true, false, List, ◌++◌, length, Option, Some, None, option_map, Vec}
use Rattle.std.specs.List.{AllZip}
use Rattle.std.specs.declared.alloc.Global.{Global}
use Rattle.pi_terms.specs.Tree.{Tree, int, args, arity}
use Rattle.pi_terms.specs.ListCopies.{list_cell}
use Rattle.pi_constraints.specs.State.{bindings, followed}
use Rattle.pi_constraints.specs.Store.{StoreView, IsTerm}
use Rattle.pi_constraints.specs.declared.store.Ref.{Ref}
use Rattle.pi_effects.specs.Items.{each_tree, is_nil, cell_parts, list_items}
use Rattle.pi_lib_builtin.specs.declared.parts.Part.{Part}
use Rattle.pi_lib_builtin.specs.declared.collection.Collection.{Collection}

-- Refs of these terms, in their order
abbrev pub AreItems : {M : Type 0} → StoreView M → List Ref → List Tree → Type 0
AreItems v rs ts = AllZip (IsTerm v) rs ts

-- the same of Refs in a vector
abbrev pub HoldsItems : {M : Type 0} → StoreView M → Vec Ref Global → List Tree → Type 0
HoldsItems v found ts = AreItems v found.items ts

-- the Ref of an item that is there, or none
abbrev pub ShowsItem : {M : Type 0} → StoreView M → Option Tree → Option Ref → Type 0
ShowsItem v item None = item ≡ None
ShowsItem v item (Some r) = (t : Tree) × (item ≡ Some t) × IsTerm v r t

-- Refs of the items of a term that has items, or none
abbrev pub ShowsItems : {M : Type 0} → StoreView M → Option (List Tree) → Option (Vec Ref Global) → Type 0
ShowsItems v items None = items ≡ None
ShowsItems v items (Some found) = (ts : List Tree) × (items ≡ Some ts) × HoldsItems v found ts

-- ---- a term at its root

-- what a term is as a list
abbrev pub ShowsPart : Tree → Part → Type 0
ShowsPart t Part.Nil = is_nil t ≡ true
ShowsPart t Part.Cell = (item : Tree) × (rest : Tree) × (t ≡ list_cell item rest)
ShowsPart t Part.Other = (is_nil t ≡ false) × (cell_parts t ≡ None)

-- where a term's arguments are its items, how many they are
abbrev pub ShowsSize : (Tree → Option (List Tree)) → Tree → Option ℕ → Type 0
ShowsSize parts t None = parts t ≡ None
ShowsSize parts t (Some count) = (parts t ≡ Some (each_tree (args t))) × (count ≡ arity t)

-- ---- a collection

-- it has the Refs of its items, or it is a compound whose arguments they are
abbrev pub HasItems : {M : Type 0} → StoreView M → Collection → List Tree → Type 0
HasItems v (Collection.Listed found) ts = HoldsItems v found ts
HasItems v (Collection.Arguments r count) ts = (t : Tree) × IsTerm v r t × (ts ≡ each_tree (args (followed (bindings v.now.state) t))) × (count ≡ length ts)

-- ---- a list that is walked

abbrev pub in_front_of_all : List Tree → Option (List Tree) → Option (List Tree)
in_front_of_all done items = option_map (λ ts. done ++ ts) items

-- a list was walked up to a Ref: the items that were found stand in front of those of the Ref's term
pub record IsWalked {M : Type 0} (v : StoreView M) (whole : Tree) (found : List Ref) (at : Ref) : Type 0 where
  pub done : List Tree
  pub rest : Tree
  pub are : AreItems v found done
  pub here : IsTerm v at rest
  pub goes : list_items (bindings v.now.state) whole ≡ in_front_of_all done (list_items (bindings v.now.state) rest)

-- ---- integers

abbrev pub IsInteger : ℤ → Tree → Type 0
IsInteger n t = t ≡ int n
