-- The names of built-ins, each by what it is resolved to. A name that stands for the same as another isn't repeated: `len`, `div` and `int` are `length`, `/<` and
-- `integer`. (A User's Guide to Picat, 'Appendix: Predicates and Functions'; which of them are there is own.)
use Rattle.std.specs.Prelude.{ℕ, ◌==◌, ◌&&◌, nat_lt, Bool, true, false, List, [], codes}
use Rattle.pi_effects.specs.declared.operation.Op.{Op}
use Rattle.pi_lib_builtin.specs.declared.relations.Relation.{Relation}
use Rattle.pi_lib_builtin.specs.declared.kinds.TermKind.{TermKind}
use Rattle.pi_lib_builtin.specs.declared.ordering.TermRelation.{TermRelation}
use Rattle.pi_effects.specs.Indexing.{index_name}
use Rattle.pi_effects.specs.Inner.{itself_name, in_order_name, range_count_name}
use Rattle.pi_lib_builtin.specs.declared.functions.FunctionOfCollection.{FunctionOfCollection}
use Rattle.pi_lib_builtin.specs.declared.functions.FunctionOfOne.{FunctionOfOne}
use Rattle.pi_lib_builtin.specs.declared.functions.FunctionOfTwo.{FunctionOfTwo}
use Rattle.pi_lib_builtin.specs.declared.functions.Function.{Function}
use Rattle.pi_lib_builtin.specs.declared.predicates.PredicateOfNone.{PredicateOfNone}
use Rattle.pi_lib_builtin.specs.declared.predicates.PredicateOfOne.{PredicateOfOne}
use Rattle.pi_lib_builtin.specs.declared.predicates.PredicateOfTwo.{PredicateOfTwo}
use Rattle.pi_lib_builtin.specs.declared.predicates.Predicate.{Predicate}

-- ---- functions

-- of a list or an array
abbrev pub collection_name : FunctionOfCollection → List ℕ
collection_name FunctionOfCollection.Length = codes "length"
collection_name FunctionOfCollection.Head = codes "head"
collection_name FunctionOfCollection.Tail = codes "tail"
collection_name FunctionOfCollection.First = codes "first"
collection_name FunctionOfCollection.Last = codes "last"
collection_name FunctionOfCollection.Reverse = codes "reverse"
collection_name FunctionOfCollection.Sum = codes "sum"
collection_name FunctionOfCollection.Product = codes "prod"
collection_name FunctionOfCollection.ToList = codes "to_list"
collection_name FunctionOfCollection.ToArray = codes "to_array"
collection_name FunctionOfCollection.Sort = codes "sort"
collection_name FunctionOfCollection.SortOnce = codes "sort_remove_dups"
collection_name FunctionOfCollection.EachOnce = codes "remove_dups"
collection_name FunctionOfCollection.Least = codes "min"
collection_name FunctionOfCollection.Greatest = codes "max"

abbrev pub one_name : FunctionOfOne → List ℕ
one_name FunctionOfOne.Same = codes "+"
one_name FunctionOfOne.Negate = codes "-"
one_name FunctionOfOne.Magnitude = codes "abs"
one_name FunctionOfOne.Sign = codes "sign"
one_name FunctionOfOne.Complement = codes "~"
one_name (FunctionOfOne.Collection f) = collection_name f
one_name FunctionOfOne.Name = codes "name"
one_name FunctionOfOne.Arity = codes "arity"
one_name FunctionOfOne.ToString = codes "to_string"
one_name FunctionOfOne.NewList = codes "new_list"
one_name FunctionOfOne.NewArray = codes "new_array"
one_name FunctionOfOne.CopyTerm = codes "copy_term"
one_name FunctionOfOne.Itself = itself_name
one_name FunctionOfOne.InOrder = in_order_name

-- an operation on two integers; those on one have no name here
abbrev pub operation_name : Op → List ℕ
operation_name Op.Add = codes "+"
operation_name Op.Sub = codes "-"
operation_name Op.Mul = codes "*"
operation_name Op.Quot = codes "//"
operation_name Op.Floor = codes "/<"
operation_name Op.Ceil = codes "/>"
operation_name Op.Mod = codes "mod"
operation_name Op.Rem = codes "rem"
operation_name Op.Pow = codes "**"
operation_name Op.ShiftLeft = codes "<<"
operation_name Op.ShiftRight = codes ">>"
operation_name Op.And = codes "/\\"
operation_name Op.Or = codes "\\/"
operation_name Op.Xor = codes "^"
operation_name Op.Neg = []
operation_name Op.Not = []
operation_name Op.Abs = []
operation_name Op.Sign = []

abbrev pub two_name : FunctionOfTwo → List ℕ
two_name (FunctionOfTwo.Operation op) = operation_name op
two_name FunctionOfTwo.Least = codes "min"
two_name FunctionOfTwo.Greatest = codes "max"
two_name FunctionOfTwo.Append = codes "++"
two_name FunctionOfTwo.DeleteAll = codes "delete_all"
two_name FunctionOfTwo.Zip = codes "zip"
two_name FunctionOfTwo.Item = index_name
two_name FunctionOfTwo.Range = codes ".."
two_name FunctionOfTwo.NewGrid = codes "new_array"
two_name FunctionOfTwo.RangeCount = range_count_name

-- the name of a function with so many arguments
abbrev pub function_name : Function → List ℕ
function_name (Function.OfOne f) = one_name f
function_name (Function.OfTwo f) = two_name f
function_name Function.RangeBy = codes ".."

-- how many they are
abbrev pub function_arity : Function → ℕ
function_arity (Function.OfOne f) = 1
function_arity (Function.OfTwo f) = 2
function_arity Function.RangeBy = 3

-- ---- predicates

abbrev pub none_name : PredicateOfNone → List ℕ
none_name PredicateOfNone.True = codes "true"
none_name PredicateOfNone.Fail = codes "fail"
none_name PredicateOfNone.LineFeed = codes "nl"

abbrev pub kind_name : TermKind → List ℕ
kind_name TermKind.Variable = codes "var"
kind_name TermKind.NoVariable = codes "nonvar"
kind_name TermKind.Integer = codes "integer"
kind_name TermKind.Atom = codes "atom"
kind_name TermKind.Atomic = codes "atomic"
kind_name TermKind.Compound = codes "compound"
kind_name TermKind.List = codes "list"
kind_name TermKind.Array = codes "array"
kind_name TermKind.Structure = codes "struct"

abbrev pub test_name : PredicateOfOne → List ℕ
test_name (PredicateOfOne.Kind kind) = kind_name kind
test_name PredicateOfOne.Ground = codes "ground"
test_name PredicateOfOne.Throw = codes "throw"
test_name PredicateOfOne.Print = codes "print"
test_name PredicateOfOne.PrintLine = codes "println"
test_name PredicateOfOne.Write = codes "write"
test_name PredicateOfOne.WriteLine = codes "writeln"

abbrev pub relation_name : Relation → List ℕ
relation_name Relation.Less = codes "<"
relation_name Relation.AtMost = codes "=<"
relation_name Relation.Greater = codes ">"
relation_name Relation.AtLeast = codes ">="
relation_name Relation.Equal = codes "=:="
relation_name Relation.Unequal = codes "=\\="

abbrev pub order_name : TermRelation → List ℕ
order_name TermRelation.Same = codes "=="
order_name TermRelation.Different = codes "!=="
order_name TermRelation.Before = codes "@<"
order_name TermRelation.NotAfter = codes "@=<"
order_name TermRelation.After = codes "@>"
order_name TermRelation.NotBefore = codes "@>="

abbrev pub pair_name : PredicateOfTwo → List ℕ
pair_name PredicateOfTwo.Unify = codes "="
pair_name PredicateOfTwo.Differ = codes "!="
pair_name (PredicateOfTwo.Integers relation) = relation_name relation
pair_name (PredicateOfTwo.Terms relation) = order_name relation

abbrev pub predicate_name : Predicate → List ℕ
predicate_name (Predicate.OfNone p) = none_name p
predicate_name (Predicate.OfOne p) = test_name p
predicate_name (Predicate.OfTwo p) = pair_name p
predicate_name Predicate.Printf = codes "printf"

-- a predicate has so many arguments
abbrev pub takes : Predicate → ℕ → Bool
takes (Predicate.OfNone p) k = k == 0
takes (Predicate.OfOne p) k = k == 1
takes (Predicate.OfTwo p) k = k == 2
takes Predicate.Printf k = nat_lt 0 k && nat_lt k 17

-- it can bind variables
abbrev pub may_bind : Predicate → Bool
may_bind (Predicate.OfNone p) = false
may_bind (Predicate.OfOne p) = false
may_bind (Predicate.OfTwo PredicateOfTwo.Unify) = true
may_bind (Predicate.OfTwo PredicateOfTwo.Differ) = false
may_bind (Predicate.OfTwo (PredicateOfTwo.Integers relation)) = false
may_bind (Predicate.OfTwo (PredicateOfTwo.Terms relation)) = false
may_bind Predicate.Printf = false
