-- What a term calls, by the terms of a store. (Own.)
use Rattle.std.specs.Prelude.{◌≡◌, ℕ, List, ◌++◌, Option, Some, None}
use Rattle.pi_terms.specs.Tree.{Tree, Trees, trees_of}
use Rattle.pi_constraints.specs.Store.{StoreView, IsName, AreTerms}
use Rattle.pi_constraints.specs.declared.store.Ref.{Ref}
use Rattle.pi_effects.specs.Items.{each_tree}
use Rattle.pi_meaning.specs.Shared.Calls.{Called, called_by}

-- the number of a name with the Refs of the arguments is what is called; None is nothing
abbrev pub IsCalled : {M : Type 0} → StoreView M → Option ℕ → List Ref → Option Called → Type 0
IsCalled v None rs c = c ≡ None
IsCalled v (Some n) rs c = (d : Called) × (c ≡ Some d) × IsName v n d.name × AreTerms v rs d.args

-- the same of a term itself, whatever arguments come behind its own
abbrev pub IsRoot : {M : Type 0} → StoreView M → Option ℕ → List Ref → Tree → Type 0
IsRoot v None rs t = (more : List Tree) → called_by t more ≡ None
IsRoot v (Some n) rs t =
    (name : List ℕ) × (ts : Trees) × IsName v n name × AreTerms v rs ts × ((more : List Tree) → called_by t more ≡ Some (record { name = name; args = trees_of (each_tree ts ++ more) }))

-- no name has two numbers
abbrev pub NamesAreDistinct : {M : Type 0} → StoreView M → Type 0
NamesAreDistinct v = (i j : ℕ) (name : List ℕ) → IsName v i name → IsName v j name → i ≡ j
