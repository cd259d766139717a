-- The tables of functions: each name is that of what stands beside it, and a function that is built in has one of them.
use Rattle.std.proofs.Common.{◌≡◌, ◌≢◌, ◌∙◌, ℕ, zero, suc, Bool, true, false, List, [], ◌∷◌, refl, ap, arith}
use Rattle.std.specs.Prelude.{Some, None, is_some, codes}
use Rattle.std.specs.Str.{bytes_eq}
use Rattle.std.specs.List.{list_all}
use Rattle.pi_effects.specs.declared.operation.Op.{Op}
use Rattle.pi_terms.specs.Tree.{Tree, Trees, no_trees, tree, tree_count}
use Rattle.pi_constraints.specs.State.{State}
use Rattle.pi_effects.specs.Rows.{has_line, done_by}
use Rattle.pi_effects.specs.Integers.{integer_functions}
use Rattle.pi_effects.specs.Collections.{collection_functions}
use Rattle.pi_effects.specs.Sorting.{sorting_functions}
use Rattle.pi_effects.specs.Indexing.{index_functions}
use Rattle.pi_effects.specs.Ranges.{range_functions}
use Rattle.pi_effects.specs.Naming.{naming_functions}
use Rattle.pi_effects.specs.Texts.{text_functions}
use Rattle.pi_effects.specs.Making.{making_functions}
use Rattle.pi_effects.specs.BuiltIns.{reading_functions, built_in_function, is_function}
use Rattle.pi_lib_builtin.specs.Names.{one_name, two_name}
use Rattle.pi_lib_builtin.specs.Resolved.{Named, first_named, IsFunctionNamed}
use Rattle.pi_lib_builtin.specs.declared.functions.FunctionOfCollection.{FunctionOfCollection}
use Rattle.pi_lib_builtin.specs.declared.functions.FunctionOfOne.{FunctionOfOne}
use Rattle.pi_lib_builtin.specs.declared.functions.FunctionOfTwo.{FunctionOfTwo}
use Rattle.pi_lib_builtin.specs.declared.functions.Function.{Function}
use Rattle.pi_lib_builtin.proofs.NamedLemmas.{Each, found-same, found-known, is_there, knows, no-lines, neither, other-name}

-- ---- the tables

abbrev pub functions_of_one : List (Named FunctionOfOne)
functions_of_one =
    (codes "+", FunctionOfOne.Same) ∷
    (codes "-", FunctionOfOne.Negate) ∷
    (codes "abs", FunctionOfOne.Magnitude) ∷
    (codes "sign", FunctionOfOne.Sign) ∷
    (codes "~", FunctionOfOne.Complement) ∷
    (codes "length", FunctionOfOne.Collection FunctionOfCollection.Length) ∷
    (codes "len", FunctionOfOne.Collection FunctionOfCollection.Length) ∷
    (codes "head", FunctionOfOne.Collection FunctionOfCollection.Head) ∷
    (codes "tail", FunctionOfOne.Collection FunctionOfCollection.Tail) ∷
    (codes "first", FunctionOfOne.Collection FunctionOfCollection.First) ∷
    (codes "last", FunctionOfOne.Collection FunctionOfCollection.Last) ∷
    (codes "reverse", FunctionOfOne.Collection FunctionOfCollection.Reverse) ∷
    (codes "sum", FunctionOfOne.Collection FunctionOfCollection.Sum) ∷
    (codes "prod", FunctionOfOne.Collection FunctionOfCollection.Product) ∷
    (codes "to_list", FunctionOfOne.Collection FunctionOfCollection.ToList) ∷
    (codes "to_array", FunctionOfOne.Collection FunctionOfCollection.ToArray) ∷
    (codes "sort", FunctionOfOne.Collection FunctionOfCollection.Sort) ∷
    (codes "sort_remove_dups", FunctionOfOne.Collection FunctionOfCollection.SortOnce) ∷
    (codes "remove_dups", FunctionOfOne.Collection FunctionOfCollection.EachOnce) ∷
    (codes "min", FunctionOfOne.Collection FunctionOfCollection.Least) ∷
    (codes "max", FunctionOfOne.Collection FunctionOfCollection.Greatest) ∷
    (codes "name", FunctionOfOne.Name) ∷
    (codes "arity", FunctionOfOne.Arity) ∷
    (codes "to_string", FunctionOfOne.ToString) ∷
    (codes "new_list", FunctionOfOne.NewList) ∷
    (codes "new_array", FunctionOfOne.NewArray) ∷
    (codes "copy_term", FunctionOfOne.CopyTerm) ∷
    (codes "once", FunctionOfOne.Itself) ∷
    (codes "not", FunctionOfOne.InOrder) ∷
    []

abbrev pub functions_of_two : List (Named FunctionOfTwo)
functions_of_two =
    (codes "+", (FunctionOfTwo.Operation Op.Add)) ∷
    (codes "-", (FunctionOfTwo.Operation Op.Sub)) ∷
    (codes "*", (FunctionOfTwo.Operation Op.Mul)) ∷
    (codes "//", (FunctionOfTwo.Operation Op.Quot)) ∷
    (codes "/<", (FunctionOfTwo.Operation Op.Floor)) ∷
    (codes "div", (FunctionOfTwo.Operation Op.Floor)) ∷
    (codes "/>", (FunctionOfTwo.Operation Op.Ceil)) ∷
    (codes "mod", (FunctionOfTwo.Operation Op.Mod)) ∷
    (codes "rem", (FunctionOfTwo.Operation Op.Rem)) ∷
    (codes "**", (FunctionOfTwo.Operation Op.Pow)) ∷
    (codes ">>", (FunctionOfTwo.Operation Op.ShiftRight)) ∷
    (codes "<<", (FunctionOfTwo.Operation Op.ShiftLeft)) ∷
    (codes "/\\", (FunctionOfTwo.Operation Op.And)) ∷
    (codes "\\/", (FunctionOfTwo.Operation Op.Or)) ∷
    (codes "^", (FunctionOfTwo.Operation Op.Xor)) ∷
    (codes "min", FunctionOfTwo.Least) ∷
    (codes "max", FunctionOfTwo.Greatest) ∷
    (codes "++", FunctionOfTwo.Append) ∷
    (codes "delete_all", FunctionOfTwo.DeleteAll) ∷
    (codes "zip", FunctionOfTwo.Zip) ∷
    (codes "in", FunctionOfTwo.Item) ∷
    (codes "..", FunctionOfTwo.Range) ∷
    (codes "new_array", FunctionOfTwo.NewGrid) ∷
    (codes ":=", FunctionOfTwo.RangeCount) ∷
    []

-- ---- what their rows say

-- the name does what the function does
abbrev SameOfOne : List ℕ → FunctionOfOne → Type 0
SameOfOne name f = (t : Tree) (s : State) → built_in_function name (tree t no_trees) s ≡ built_in_function (one_name f) (tree t no_trees) s

abbrev SameOfTwo : List ℕ → FunctionOfTwo → Type 0
SameOfTwo name f = (t u : Tree) (s : State) → built_in_function name (tree t (tree u no_trees)) s ≡ built_in_function (two_name f) (tree t (tree u no_trees)) s

same-of_one : Each SameOfOne functions_of_one
unfolding built_in_function done_by reading_functions integer_functions collection_functions sorting_functions index_functions range_functions naming_functions text_functions making_functions
same-of_one = (λ t s. refl, (λ t s. refl, (λ t s. refl, (λ t s. refl, (λ t s. refl, (λ t s. refl, (λ t s. refl, (λ t s. refl, (λ t s. refl, (λ t s. refl, (λ t s. refl, (λ t s. refl, (λ t s. refl, (λ t s. refl, (λ t s. refl, (λ t s. refl, (λ t s. refl, (λ t s. refl, (λ t s. refl, (λ t s. refl, (λ t s. refl, (λ t s. refl, (λ t s. refl, (λ t s. refl, (λ t s. refl, (λ t s. refl, (λ t s. refl, (λ t s. refl, (λ t s. refl, tt)))))))))))))))))))))))))))))

same-of_two : Each SameOfTwo functions_of_two
unfolding built_in_function done_by reading_functions integer_functions collection_functions sorting_functions index_functions range_functions naming_functions text_functions making_functions
same-of_two = (λ t u s. refl, (λ t u s. refl, (λ t u s. refl, (λ t u s. refl, (λ t u s. refl, (λ t u s. refl, (λ t u s. refl, (λ t u s. refl, (λ t u s. refl, (λ t u s. refl, (λ t u s. refl, (λ t u s. refl, (λ t u s. refl, (λ t u s. refl, (λ t u s. refl, (λ t u s. refl, (λ t u s. refl, (λ t u s. refl, (λ t u s. refl, (λ t u s. refl, (λ t u s. refl, (λ t u s. refl, (λ t u s. refl, (λ t u s. refl, tt))))))))))))))))))))))))

known-of_one : list_all (λ r. is_function r.0 1) functions_of_one ≡ true
unfolding is_function has_line reading_functions integer_functions collection_functions sorting_functions index_functions range_functions naming_functions text_functions making_functions
known-of_one = refl

known-of_two : list_all (λ r. is_function r.0 2) functions_of_two ≡ true
unfolding is_function has_line reading_functions integer_functions collection_functions sorting_functions index_functions range_functions naming_functions text_functions making_functions
known-of_two = refl

-- ---- what is resolved

pub named-of_one : (name : List ℕ) (f : FunctionOfOne) → first_named name functions_of_one ≡ Some f → IsFunctionNamed name 1 (Function.OfOne f)
unfolding tree_count
named-of_one name f is = record { known = found-known (λ n. is_function n 1) name functions_of_one f known-of_one is; takes = refl; same = λ ts s e. apply ts s e }
  where
    apply : (ts : Trees) (s : State) → tree_count ts ≡ 1 → built_in_function name ts s ≡ built_in_function (one_name f) ts s
    apply no_trees s e = absurd (omega (arith, e))
    apply (tree t no_trees) s e = found-same SameOfOne name functions_of_one f same-of_one is t s
    apply (tree t (tree u ts)) s e = absurd (omega (arith, e))

pub named-of_two : (name : List ℕ) (f : FunctionOfTwo) → first_named name functions_of_two ≡ Some f → IsFunctionNamed name 2 (Function.OfTwo f)
unfolding tree_count
named-of_two name f is = record { known = found-known (λ n. is_function n 2) name functions_of_two f known-of_two is; takes = refl; same = λ ts s e. apply ts s e }
  where
    apply : (ts : Trees) (s : State) → tree_count ts ≡ 2 → built_in_function name ts s ≡ built_in_function (two_name f) ts s
    apply no_trees s e = absurd (omega (arith, e))
    apply (tree t no_trees) s e = absurd (omega (arith, e))
    apply (tree t (tree u no_trees)) s e = found-same SameOfTwo name functions_of_two f same-of_two is t u s
    apply (tree t (tree u (tree w ts))) s e = absurd (omega (arith, e))

range-known : is_function (codes "..") 3 ≡ true
unfolding is_function has_line reading_functions integer_functions collection_functions sorting_functions index_functions range_functions naming_functions text_functions making_functions
range-known = refl

pub named-range : (name : List ℕ) → name ≡ codes ".." → IsFunctionNamed name 3 Function.RangeBy
named-range name e = record { known = ap (λ n. is_function n 3) e ∙ range-known; takes = refl; same = λ ts s many. ap (λ n. built_in_function n ts s) e }

-- ---- what isn't there

none-with : (known : List ℕ → Bool) (k : ℕ) (name : List ℕ) → list_all (knows known k) reading_functions ≡ true → list_all (knows known k) making_functions ≡ true → known name ≡ false → is_function name k ≡ false
unfolding is_function
none-with known k name reading making none =
    neither (has_line reading_functions name k) (has_line making_functions name k) (no-lines known k reading_functions name reading none) (no-lines known k making_functions name making none)

pub none-of_one : (name : List ℕ) → first_named name functions_of_one ≡ None → is_function name 1 ≡ false
unfolding first_named reading_functions integer_functions collection_functions sorting_functions index_functions range_functions naming_functions text_functions making_functions
none-of_one name none = none-with (is_there functions_of_one) 1 name refl refl (ap is_some none)

pub none-of_two : (name : List ℕ) → first_named name functions_of_two ≡ None → is_function name 2 ≡ false
unfolding first_named reading_functions integer_functions collection_functions sorting_functions index_functions range_functions naming_functions text_functions making_functions
none-of_two name none = none-with (is_there functions_of_two) 2 name refl refl (ap is_some none)

pub none-of_three : (name : List ℕ) → (name ≡ codes ".." → ⊥) → is_function name 3 ≡ false
unfolding reading_functions integer_functions collection_functions sorting_functions index_functions range_functions naming_functions text_functions making_functions
none-of_three name other = none-with (λ n. bytes_eq (codes "..") n) 3 name refl refl (other-name (codes "..") name other)

abbrev none_known : List ℕ → Bool
none_known name = false

pub none-of_other : (name : List ℕ) (k : ℕ) → k ≢ 1 → k ≢ 2 → k ≢ 3 → is_function name k ≡ false
unfolding reading_functions integer_functions collection_functions sorting_functions index_functions range_functions naming_functions text_functions making_functions
none-of_other name zero a b c = none-with none_known 0 name refl refl refl
none-of_other name (suc zero) a b c = absurd (a refl)
none-of_other name (suc (suc zero)) a b c = absurd (b refl)
none-of_other name (suc (suc (suc zero))) a b c = absurd (c refl)
none-of_other name (suc (suc (suc (suc k)))) a b c = none-with none_known (suc (suc (suc (suc k)))) name refl refl refl
