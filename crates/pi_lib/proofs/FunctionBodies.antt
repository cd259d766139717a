-- What the name of a function does, each by what its body is.
use Rattle.std.proofs.Common.{◌≡◌, refl, ap, sym, subst, ◌∙◌}
use Rattle.std.specs.Prelude.{Some, None, Result, Ok, pos, map, reverse, zip, slice_get, codes}
use Rattle.std.specs.Int.{int_min, int_max}
use Rattle.std.specs.List.{last_or}
use Rattle.pi_effects.specs.Value.{value_of}
use Rattle.pi_effects.specs.declared.operation.Op.{Op}
use Rattle.pi_terms.specs.Tree.{Tree, no_trees, tree}
use Rattle.pi_constraints.specs.State.{State, bindings, followed}
use Rattle.pi_constraints.specs.Value.{value}
use Rattle.pi_constraints.specs.Store.{StoreView, Stays}
use Rattle.pi_constraints.specs.declared.store.Ref.{Ref}
use Rattle.pi_effects.specs.Effect.{FunctionEffect}
use Rattle.pi_effects.specs.Exception.{type_error}
use Rattle.pi_effects.specs.Answer.{Answer, or_raised, integer_then, integers_then}
use Rattle.pi_effects.specs.Items.{list_of, array_of}
use Rattle.pi_effects.specs.Rows.{done_by}
use Rattle.pi_effects.specs.Integers.{integer_functions, outcome_then, number}
use Rattle.pi_effects.specs.Collections.{collection_functions, list_then, collection_then, count, cell_part, item_or_first_index, joined, without, pair, total}
use Rattle.pi_effects.specs.Sorting.{sorting_functions, sorted, each_once, least, greatest}
use Rattle.pi_effects.specs.Indexing.{index_functions, indexed}
use Rattle.pi_effects.specs.Ranges.{range_functions, range, range_by}
use Rattle.pi_effects.specs.Inner.{itself, in_order, range_count}
use Rattle.pi_effects.specs.Naming.{naming_functions, name_at, arity_at}
use Rattle.pi_effects.specs.Texts.{text_functions, plain_text_list}
use Rattle.pi_effects.specs.Making.{making_functions, new_items, new_grid, copied}
use Rattle.pi_effects.specs.BuiltIns.{reading_functions, built_in_function, answer_in}
use Rattle.pi_effects.specs.Results.{ShowsTerm, ShowsEffect}
use Rattle.pi_effects.specs.declared.fault.Stop.{Stop}
use Rattle.pi_lib_builtin.specs.Names.{collection_name, one_name, two_name}
use Rattle.pi_lib_builtin.specs.declared.functions.FunctionOfCollection.{FunctionOfCollection}
use Rattle.pi_lib_builtin.specs.declared.functions.FunctionOfOne.{FunctionOfOne}
use Rattle.pi_lib_builtin.specs.declared.functions.FunctionOfTwo.{FunctionOfTwo}
use Rattle.pi_lib.proofs.FunctionCalls.{shown-effect, shown-answer}

-- ---- by variant

abbrev pub collection_done : FunctionOfCollection → State → Tree → Answer Tree
collection_done FunctionOfCollection.Length s t = collection_then s t count
collection_done FunctionOfCollection.Head s t = cell_part (λ p. p.0) s t
collection_done FunctionOfCollection.Tail s t = cell_part (λ p. p.1) s t
collection_done FunctionOfCollection.First s t = collection_then s t (λ ts. item_or_first_index (slice_get ts 0) s)
collection_done FunctionOfCollection.Last s t = collection_then s t (λ ts. item_or_first_index (last_or None ts) s)
collection_done FunctionOfCollection.Reverse s t = list_then s t (λ ts. Ok (list_of (reverse ts)))
collection_done FunctionOfCollection.Sum s t = collection_then s t (total Op.Add s (pos 0))
collection_done FunctionOfCollection.Product s t = collection_then s t (total Op.Mul s (pos 1))
collection_done FunctionOfCollection.ToList s t = collection_then s t (λ ts. Ok (list_of ts))
collection_done FunctionOfCollection.ToArray s t = collection_then s t (λ ts. Ok (array_of ts))
collection_done FunctionOfCollection.Sort s t = list_then s t (λ ts. Ok (list_of (sorted s ts)))
collection_done FunctionOfCollection.SortOnce s t = list_then s t (λ ts. Ok (list_of (sorted s (each_once s ts))))
collection_done FunctionOfCollection.EachOnce s t = list_then s t (λ ts. Ok (list_of (each_once s ts)))
collection_done FunctionOfCollection.Least s t = collection_then s t (λ ts. item_or_first_index (least s ts) s)
collection_done FunctionOfCollection.Greatest s t = collection_then s t (λ ts. item_or_first_index (greatest s ts) s)

abbrev pub one_done : FunctionOfOne → State → Tree → FunctionEffect
one_done FunctionOfOne.Same s t = answer_in s (integer_then s t number)
one_done FunctionOfOne.Negate s t = answer_in s (integer_then s t (λ m. outcome_then (value_of Op.Neg m (pos 0)) number))
one_done FunctionOfOne.Magnitude s t = answer_in s (integer_then s t (λ m. outcome_then (value_of Op.Abs m (pos 0)) number))
one_done FunctionOfOne.Sign s t = answer_in s (integer_then s t (λ m. outcome_then (value_of Op.Sign m (pos 0)) number))
one_done FunctionOfOne.Complement s t = answer_in s (integer_then s t (λ m. outcome_then (value_of Op.Not m (pos 0)) number))
one_done (FunctionOfOne.Collection f) s t = answer_in s (collection_done f s t)
one_done FunctionOfOne.Name s t = answer_in s (or_raised (name_at (followed (bindings s) t)) (type_error (codes "callable") t s))
one_done FunctionOfOne.Arity s t = answer_in s (or_raised (arity_at (followed (bindings s) t)) (type_error (codes "callable") t s))
one_done FunctionOfOne.ToString s t = answer_in s (plain_text_list s t)
one_done FunctionOfOne.NewList s t = new_items list_of s t
one_done FunctionOfOne.NewArray s t = new_items array_of s t
one_done FunctionOfOne.CopyTerm s t = copied s (value (bindings s) t)
one_done FunctionOfOne.Itself s t = answer_in s (itself s t)
one_done FunctionOfOne.InOrder s t = answer_in s (in_order s t)

abbrev pub two_done : FunctionOfTwo → State → Tree → Tree → FunctionEffect
two_done (FunctionOfTwo.Operation op) s t u = answer_in s (integers_then s t u (λ m n. outcome_then (value_of op m n) number))
two_done FunctionOfTwo.Least s t u = answer_in s (integers_then s t u (λ m n. number (int_min m n)))
two_done FunctionOfTwo.Greatest s t u = answer_in s (integers_then s t u (λ m n. number (int_max m n)))
two_done FunctionOfTwo.Append s t u = answer_in s (joined s t u)
two_done FunctionOfTwo.DeleteAll s t u = answer_in s (list_then s t (λ ts. Ok (list_of (without s u ts))))
two_done FunctionOfTwo.Zip s t u = answer_in s (list_then s t (λ ts. list_then s u (λ us. Ok (list_of (map pair (zip ts us))))))
two_done FunctionOfTwo.Item s t u = answer_in s (indexed s t u)
two_done FunctionOfTwo.Range s t u = answer_in s (integers_then s t u (λ low high. range low (pos 1) high))
two_done FunctionOfTwo.NewGrid s t u = new_grid s t u
two_done FunctionOfTwo.RangeCount s t u = answer_in s (range_count s t u)

-- ---- by name

collection-by_name : (f : FunctionOfCollection) (t : Tree) (s : State) → built_in_function (collection_name f) (tree t no_trees) s ≡ Some (answer_in s (collection_done f s t))
unfolding built_in_function done_by reading_functions integer_functions collection_functions sorting_functions index_functions range_functions naming_functions text_functions making_functions
collection-by_name FunctionOfCollection.Length t s = refl
collection-by_name FunctionOfCollection.Head t s = refl
collection-by_name FunctionOfCollection.Tail t s = refl
collection-by_name FunctionOfCollection.First t s = refl
collection-by_name FunctionOfCollection.Last t s = refl
collection-by_name FunctionOfCollection.Reverse t s = refl
collection-by_name FunctionOfCollection.Sum t s = refl
collection-by_name FunctionOfCollection.Product t s = refl
collection-by_name FunctionOfCollection.ToList t s = refl
collection-by_name FunctionOfCollection.ToArray t s = refl
collection-by_name FunctionOfCollection.Sort t s = refl
collection-by_name FunctionOfCollection.SortOnce t s = refl
collection-by_name FunctionOfCollection.EachOnce t s = refl
collection-by_name FunctionOfCollection.Least t s = refl
collection-by_name FunctionOfCollection.Greatest t s = refl

one-by_name : (f : FunctionOfOne) (t : Tree) (s : State) → built_in_function (one_name f) (tree t no_trees) s ≡ Some (one_done f s t)
unfolding built_in_function done_by reading_functions integer_functions collection_functions sorting_functions index_functions range_functions naming_functions text_functions making_functions
one-by_name FunctionOfOne.Same t s = refl
one-by_name FunctionOfOne.Negate t s = refl
one-by_name FunctionOfOne.Magnitude t s = refl
one-by_name FunctionOfOne.Sign t s = refl
one-by_name FunctionOfOne.Complement t s = refl
one-by_name (FunctionOfOne.Collection f) t s = collection-by_name f t s
one-by_name FunctionOfOne.Name t s = refl
one-by_name FunctionOfOne.Arity t s = refl
one-by_name FunctionOfOne.ToString t s = refl
one-by_name FunctionOfOne.NewList t s = refl
one-by_name FunctionOfOne.NewArray t s = refl
one-by_name FunctionOfOne.CopyTerm t s = refl
one-by_name FunctionOfOne.Itself t s = refl
one-by_name FunctionOfOne.InOrder t s = refl

-- an operation on one integer has no name among those on two
some-operation : (op : Op) (t u : Tree) (s : State) (e : FunctionEffect) → built_in_function (two_name (FunctionOfTwo.Operation op)) (tree t (tree u no_trees)) s ≡ Some e → Some e ≡ Some (two_done (FunctionOfTwo.Operation op) s t u)
unfolding built_in_function done_by reading_functions integer_functions collection_functions sorting_functions index_functions range_functions naming_functions text_functions making_functions
some-operation Op.Add t u s e h = sym h
some-operation Op.Sub t u s e h = sym h
some-operation Op.Mul t u s e h = sym h
some-operation Op.Quot t u s e h = sym h
some-operation Op.Floor t u s e h = sym h
some-operation Op.Ceil t u s e h = sym h
some-operation Op.Mod t u s e h = sym h
some-operation Op.Rem t u s e h = sym h
some-operation Op.Pow t u s e h = sym h
some-operation Op.ShiftLeft t u s e h = sym h
some-operation Op.ShiftRight t u s e h = sym h
some-operation Op.And t u s e h = sym h
some-operation Op.Or t u s e h = sym h
some-operation Op.Xor t u s e h = sym h
some-operation Op.Neg t u s e h = cc
some-operation Op.Not t u s e h = cc
some-operation Op.Abs t u s e h = cc
some-operation Op.Sign t u s e h = cc

two-by_name : (f : FunctionOfTwo) (t u : Tree) (s : State) (e : FunctionEffect) → built_in_function (two_name f) (tree t (tree u no_trees)) s ≡ Some e → Some e ≡ Some (two_done f s t u)
unfolding built_in_function done_by reading_functions integer_functions collection_functions sorting_functions index_functions range_functions naming_functions text_functions making_functions
two-by_name (FunctionOfTwo.Operation op) t u s e h = some-operation op t u s e h
two-by_name FunctionOfTwo.Least t u s e h = sym h
two-by_name FunctionOfTwo.Greatest t u s e h = sym h
two-by_name FunctionOfTwo.Append t u s e h = sym h
two-by_name FunctionOfTwo.DeleteAll t u s e h = sym h
two-by_name FunctionOfTwo.Zip t u s e h = sym h
two-by_name FunctionOfTwo.Item t u s e h = sym h
two-by_name FunctionOfTwo.Range t u s e h = sym h
two-by_name FunctionOfTwo.NewGrid t u s e h = sym h
two-by_name FunctionOfTwo.RangeCount t u s e h = sym h

-- ---- what a body shows

pub collection-shown : {M : Type 0} (v w : StoreView M) (result : Result Ref Stop) (f g : FunctionOfCollection) (t : Tree) (e : FunctionEffect) → f ≡ g → Stays v w → ShowsTerm v w result (collection_done g v.now.state t)
    → built_in_function (collection_name f) (tree t no_trees) v.now.state ≡ Some e → ShowsEffect v w result e
collection-shown v w result f g t e same stays shows done =
    shown-answer v w result (built_in_function (collection_name g) (tree t no_trees) v.now.state) e (collection_done g v.now.state t) stays (collection-by_name g t v.now.state)
    (subst (λ h. built_in_function (collection_name h) (tree t no_trees) v.now.state ≡ Some e) same done) shows

pub one-shown : {M : Type 0} (v w : StoreView M) (result : Result Ref Stop) (f g : FunctionOfOne) (t : Tree) (e : FunctionEffect) (a : Answer Tree) → f ≡ g → one_done g v.now.state t ≡ answer_in v.now.state a → Stays v w → ShowsTerm v w result a
    → built_in_function (one_name f) (tree t no_trees) v.now.state ≡ Some e → ShowsEffect v w result e
one-shown v w result f g t e a same is stays shows done =
    shown-answer v w result (built_in_function (one_name g) (tree t no_trees) v.now.state) e a stays (one-by_name g t v.now.state ∙ ap (λ d. Some d) is)
    (subst (λ h. built_in_function (one_name h) (tree t no_trees) v.now.state ≡ Some e) same done) shows

pub one-made : {M : Type 0} (v w : StoreView M) (result : Result Ref Stop) (f g : FunctionOfOne) (t : Tree) (e : FunctionEffect) → f ≡ g → ShowsEffect v w result (one_done g v.now.state t)
    → built_in_function (one_name f) (tree t no_trees) v.now.state ≡ Some e → ShowsEffect v w result e
one-made v w result f g t e same shows done =
    shown-effect v w result (built_in_function (one_name g) (tree t no_trees) v.now.state) e (one_done g v.now.state t) (one-by_name g t v.now.state)
    (subst (λ h. built_in_function (one_name h) (tree t no_trees) v.now.state ≡ Some e) same done) shows

pub two-shown : {M : Type 0} (v w : StoreView M) (result : Result Ref Stop) (f g : FunctionOfTwo) (t u : Tree) (e : FunctionEffect) (a : Answer Tree) → f ≡ g → two_done g v.now.state t u ≡ answer_in v.now.state a → Stays v w → ShowsTerm v w result a
    → built_in_function (two_name f) (tree t (tree u no_trees)) v.now.state ≡ Some e → ShowsEffect v w result e
two-shown v w result f g t u e a same is stays shows done =
    shown-answer v w result (Some e) e a stays (two-by_name g t u v.now.state e (subst (λ h. built_in_function (two_name h) (tree t (tree u no_trees)) v.now.state ≡ Some e) same done) ∙ ap (λ d. Some d) is) refl shows

pub two-made : {M : Type 0} (v w : StoreView M) (result : Result Ref Stop) (f g : FunctionOfTwo) (t u : Tree) (e : FunctionEffect) → f ≡ g → ShowsEffect v w result (two_done g v.now.state t u)
    → built_in_function (two_name f) (tree t (tree u no_trees)) v.now.state ≡ Some e → ShowsEffect v w result e
two-made v w result f g t u e same shows done =
    shown-effect v w result (Some e) e (two_done g v.now.state t u) (two-by_name g t u v.now.state e (subst (λ h. built_in_function (two_name h) (tree t (tree u no_trees)) v.now.state ≡ Some e) same done)) refl shows

pub range-shown : {M : Type 0} (v w : StoreView M) (result : Result Ref Stop) (t u x : Tree) (e : FunctionEffect) → Stays v w → ShowsTerm v w result (integer_then v.now.state t (λ low. integers_then v.now.state u x (λ step high. range_by low step high)))
    → built_in_function (codes "..") (tree t (tree u (tree x no_trees))) v.now.state ≡ Some e → ShowsEffect v w result e
unfolding built_in_function done_by reading_functions integer_functions collection_functions sorting_functions index_functions range_functions naming_functions text_functions making_functions
range-shown v w result t u x e stays shows done = shown-answer v w result _ e (integer_then v.now.state t (λ low. integers_then v.now.state u x (λ step high. range_by low step high))) stays refl done shows
