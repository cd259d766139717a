-- The tables of predicates: each name is that of what stands beside it, and a predicate that is built in has one of them.
use Rattle.std.proofs.Common.{◌≡◌, ◌≢◌, ℕ, zero, suc, Bool, true, false, List, [], ◌∷◌, refl, ap, sym, subst, ◌∙◌, arith}
use Rattle.std.specs.Prelude.{Option, Some, None, IfSome, IfNone, is_some, codes, ◌||◌, nat_lt}
use Rattle.std.specs.Str.{bytes_eq}
use Rattle.std.specs.List.{list_all}
use Rattle.pi_terms.specs.Tree.{Tree, Trees, no_trees, tree, tree_count}
use Rattle.pi_constraints.specs.State.{State}
use Rattle.pi_effects.specs.Rows.{has_line, done_by}
use Rattle.pi_effects.specs.Comparing.{comparing_tests}
use Rattle.pi_effects.specs.Kinds.{kind_tests}
use Rattle.pi_effects.specs.Texts.{writing_predicates}
use Rattle.pi_effects.specs.BuiltIns.{tests, other_predicates, built_in_predicate, is_predicate}
use Rattle.pi_lib_builtin.specs.declared.relations.Relation.{Relation}
use Rattle.pi_lib_builtin.specs.declared.kinds.TermKind.{TermKind}
use Rattle.pi_lib_builtin.specs.declared.ordering.TermRelation.{TermRelation}
use Rattle.pi_lib_builtin.specs.Names.{none_name, test_name, pair_name, takes}
use Rattle.pi_lib_builtin.specs.Resolved.{Named, first_named, IsPredicateNamed}
use Rattle.pi_lib_builtin.specs.declared.predicates.PredicateOfNone.{PredicateOfNone}
use Rattle.pi_lib_builtin.specs.declared.predicates.PredicateOfOne.{PredicateOfOne}
use Rattle.pi_lib_builtin.specs.declared.predicates.PredicateOfTwo.{PredicateOfTwo}
use Rattle.pi_lib_builtin.specs.declared.predicates.Predicate.{Predicate}
use Rattle.pi_lib_builtin.proofs.NamedLemmas.{Each, found-same, found-known, is_there, knows, no-lines, neither, other-name}

-- ---- the tables

abbrev pub predicates_of_none : List (Named PredicateOfNone)
predicates_of_none =
    (codes "true", PredicateOfNone.True) ∷
    (codes "fail", PredicateOfNone.Fail) ∷
    (codes "nl", PredicateOfNone.LineFeed) ∷
    []

abbrev pub predicates_of_one : List (Named PredicateOfOne)
predicates_of_one =
    (codes "var", (PredicateOfOne.Kind TermKind.Variable)) ∷
    (codes "nonvar", (PredicateOfOne.Kind TermKind.NoVariable)) ∷
    (codes "integer", (PredicateOfOne.Kind TermKind.Integer)) ∷
    (codes "int", (PredicateOfOne.Kind TermKind.Integer)) ∷
    (codes "atom", (PredicateOfOne.Kind TermKind.Atom)) ∷
    (codes "atomic", (PredicateOfOne.Kind TermKind.Atomic)) ∷
    (codes "compound", (PredicateOfOne.Kind TermKind.Compound)) ∷
    (codes "list", (PredicateOfOne.Kind TermKind.List)) ∷
    (codes "array", (PredicateOfOne.Kind TermKind.Array)) ∷
    (codes "struct", (PredicateOfOne.Kind TermKind.Structure)) ∷
    (codes "ground", PredicateOfOne.Ground) ∷
    (codes "throw", PredicateOfOne.Throw) ∷
    (codes "print", PredicateOfOne.Print) ∷
    (codes "println", PredicateOfOne.PrintLine) ∷
    (codes "write", PredicateOfOne.Write) ∷
    (codes "writeln", PredicateOfOne.WriteLine) ∷
    []

abbrev pub predicates_of_two : List (Named PredicateOfTwo)
predicates_of_two =
    (codes "=", PredicateOfTwo.Unify) ∷
    (codes "!=", PredicateOfTwo.Differ) ∷
    (codes "==", (PredicateOfTwo.Terms TermRelation.Same)) ∷
    (codes "!==", (PredicateOfTwo.Terms TermRelation.Different)) ∷
    (codes "<", (PredicateOfTwo.Integers Relation.Less)) ∷
    (codes "=<", (PredicateOfTwo.Integers Relation.AtMost)) ∷
    (codes ">", (PredicateOfTwo.Integers Relation.Greater)) ∷
    (codes ">=", (PredicateOfTwo.Integers Relation.AtLeast)) ∷
    (codes "=:=", (PredicateOfTwo.Integers Relation.Equal)) ∷
    (codes "=\\=", (PredicateOfTwo.Integers Relation.Unequal)) ∷
    (codes "@<", (PredicateOfTwo.Terms TermRelation.Before)) ∷
    (codes "@=<", (PredicateOfTwo.Terms TermRelation.NotAfter)) ∷
    (codes "@>", (PredicateOfTwo.Terms TermRelation.After)) ∷
    (codes "@>=", (PredicateOfTwo.Terms TermRelation.NotBefore)) ∷
    []

-- ---- what their rows say

-- the name does what the predicate does
abbrev SameOfNone : List ℕ → PredicateOfNone → Type 0
SameOfNone name p = (s : State) → built_in_predicate name no_trees s ≡ built_in_predicate (none_name p) no_trees s

abbrev SameOfOne : List ℕ → PredicateOfOne → Type 0
SameOfOne name p = (t : Tree) (s : State) → built_in_predicate name (tree t no_trees) s ≡ built_in_predicate (test_name p) (tree t no_trees) s

abbrev SameOfTwo : List ℕ → PredicateOfTwo → Type 0
SameOfTwo name p = (t u : Tree) (s : State) → built_in_predicate name (tree t (tree u no_trees)) s ≡ built_in_predicate (pair_name p) (tree t (tree u no_trees)) s

same-of_none : Each SameOfNone predicates_of_none
same-of_none = (λ s. refl, (λ s. refl, (λ s. refl, tt)))

same-of_one : Each SameOfOne predicates_of_one
unfolding built_in_predicate done_by tests comparing_tests kind_tests writing_predicates other_predicates
same-of_one = (λ t s. refl, (λ t s. refl, (λ t s. refl, (λ t s. refl, (λ t s. refl, (λ t s. refl, (λ t s. refl, (λ t s. refl, (λ t s. refl, (λ t s. refl, (λ t s. refl, (λ t s. refl, (λ t s. refl, (λ t s. refl, (λ t s. refl, (λ t s. refl, tt))))))))))))))))

same-of_two : Each SameOfTwo predicates_of_two
same-of_two = (λ t u s. refl, (λ t u s. refl, (λ t u s. refl, (λ t u s. refl, (λ t u s. refl, (λ t u s. refl, (λ t u s. refl, (λ t u s. refl, (λ t u s. refl, (λ t u s. refl, (λ t u s. refl, (λ t u s. refl, (λ t u s. refl, (λ t u s. refl, tt))))))))))))))

known-of_none : list_all (λ r. is_predicate r.0 0) predicates_of_none ≡ true
unfolding is_predicate has_line tests comparing_tests kind_tests writing_predicates other_predicates
known-of_none = refl

known-of_one : list_all (λ r. is_predicate r.0 1) predicates_of_one ≡ true
unfolding is_predicate has_line tests comparing_tests kind_tests writing_predicates other_predicates
known-of_one = refl

known-of_two : list_all (λ r. is_predicate r.0 2) predicates_of_two ≡ true
unfolding is_predicate has_line tests comparing_tests kind_tests writing_predicates other_predicates
known-of_two = refl

-- ---- what is resolved

pub named-of_none : (name : List ℕ) (p : PredicateOfNone) → first_named name predicates_of_none ≡ Some p → IsPredicateNamed name 0 (Predicate.OfNone p)
unfolding tree_count
named-of_none name p is = record { known = found-known (λ n. is_predicate n 0) name predicates_of_none p known-of_none is; takes = refl; same = λ ts s e. apply ts s e }
  where
    apply : (ts : Trees) (s : State) → tree_count ts ≡ 0 → built_in_predicate name ts s ≡ built_in_predicate (none_name p) ts s
    apply no_trees s e = found-same SameOfNone name predicates_of_none p same-of_none is s
    apply (tree t ts) s e = absurd (omega (arith, e))

pub named-of_one : (name : List ℕ) (p : PredicateOfOne) → first_named name predicates_of_one ≡ Some p → IsPredicateNamed name 1 (Predicate.OfOne p)
unfolding tree_count
named-of_one name p is = record { known = found-known (λ n. is_predicate n 1) name predicates_of_one p known-of_one is; takes = refl; same = λ ts s e. apply ts s e }
  where
    apply : (ts : Trees) (s : State) → tree_count ts ≡ 1 → built_in_predicate name ts s ≡ built_in_predicate (test_name p) ts s
    apply no_trees s e = absurd (omega (arith, e))
    apply (tree t no_trees) s e = found-same SameOfOne name predicates_of_one p same-of_one is t s
    apply (tree t (tree u ts)) s e = absurd (omega (arith, e))

pub named-of_two : (name : List ℕ) (p : PredicateOfTwo) → first_named name predicates_of_two ≡ Some p → IsPredicateNamed name 2 (Predicate.OfTwo p)
unfolding tree_count
named-of_two name p is = record { known = found-known (λ n. is_predicate n 2) name predicates_of_two p known-of_two is; takes = refl; same = λ ts s e. apply ts s e }
  where
    apply : (ts : Trees) (s : State) → tree_count ts ≡ 2 → built_in_predicate name ts s ≡ built_in_predicate (pair_name p) ts s
    apply no_trees s e = absurd (omega (arith, e))
    apply (tree t no_trees) s e = absurd (omega (arith, e))
    apply (tree t (tree u no_trees)) s e = found-same SameOfTwo name predicates_of_two p same-of_two is t u s
    apply (tree t (tree u (tree w ts))) s e = absurd (omega (arith, e))

-- ---- what isn't there

none-with : (known : List ℕ → Bool) (k : ℕ) (name : List ℕ) → list_all (knows known k) tests ≡ true → list_all (knows known k) writing_predicates ≡ true → list_all (knows known k) other_predicates ≡ true → known name ≡ false → is_predicate name k ≡ false
unfolding is_predicate
none-with known k name tested written others none =
    neither (has_line tests name k) (has_line writing_predicates name k || has_line other_predicates name k) (no-lines known k tests name tested none)
    (neither (has_line writing_predicates name k) (has_line other_predicates name k) (no-lines known k writing_predicates name written none) (no-lines known k other_predicates name others none))

-- the rows of a table, and `printf`
abbrev with_printf : {F : Type 0} → List (Named F) → List ℕ → Bool
with_printf rows name = bytes_eq (codes "printf") name || is_there rows name

printf-and : {F : Type 0} (rows : List (Named F)) (name : List ℕ) → (name ≡ codes "printf" → ⊥) → first_named name rows ≡ None → with_printf rows name ≡ false
printf-and rows name other none = neither (bytes_eq (codes "printf") name) (is_there rows name) (other-name (codes "printf") name other) (ap is_some none)

pub none-of_none : (name : List ℕ) → (name ≡ codes "printf" → ⊥) → first_named name predicates_of_none ≡ None → is_predicate name 0 ≡ false
unfolding first_named tests comparing_tests kind_tests writing_predicates other_predicates
none-of_none name other none = none-with (with_printf predicates_of_none) 0 name refl refl refl (printf-and predicates_of_none name other none)

pub none-of_one : (name : List ℕ) → (name ≡ codes "printf" → ⊥) → first_named name predicates_of_one ≡ None → is_predicate name 1 ≡ false
unfolding first_named tests comparing_tests kind_tests writing_predicates other_predicates
none-of_one name other none = none-with (with_printf predicates_of_one) 1 name refl refl refl (printf-and predicates_of_one name other none)

pub none-of_two : (name : List ℕ) → (name ≡ codes "printf" → ⊥) → first_named name predicates_of_two ≡ None → is_predicate name 2 ≡ false
unfolding first_named tests comparing_tests kind_tests writing_predicates other_predicates
none-of_two name other none = none-with (with_printf predicates_of_two) 2 name refl refl refl (printf-and predicates_of_two name other none)

pub none-of_other : (name : List ℕ) (k : ℕ) → (name ≡ codes "printf" → ⊥) → k ≢ 0 → k ≢ 1 → k ≢ 2 → is_predicate name k ≡ false
unfolding tests comparing_tests kind_tests writing_predicates other_predicates
none-of_other name zero other a b c = absurd (a refl)
none-of_other name (suc zero) other a b c = absurd (b refl)
none-of_other name (suc (suc zero)) other a b c = absurd (c refl)
none-of_other name (suc (suc (suc k))) other a b c =
    none-with (bytes_eq (codes "printf")) (suc (suc (suc k))) name refl refl refl (other-name (codes "printf") name other)

-- ---- `printf`

or-false : (a : Bool) → (a || false) ≡ a
or-false true = refl
or-false false = refl

printf-lines : (k : ℕ) → is_predicate (codes "printf") (suc k) ≡ nat_lt k 16
unfolding is_predicate has_line tests comparing_tests kind_tests writing_predicates other_predicates
printf-lines k = or-false (nat_lt k 16 || false) ∙ or-false (nat_lt k 16)

pub none-of_printf : (name : List ℕ) (k : ℕ) → name ≡ codes "printf" → takes Predicate.Printf k ≡ false → is_predicate name k ≡ false
unfolding is_predicate has_line tests comparing_tests kind_tests writing_predicates other_predicates
none-of_printf name zero e not = ap (λ n. is_predicate n 0) e
none-of_printf name (suc k) e not = ap (λ n. is_predicate n (suc k)) e ∙ printf-lines k ∙ grind (arith, not)

printf-known : (k : ℕ) → takes Predicate.Printf k ≡ true → is_predicate (codes "printf") k ≡ true
printf-known zero takes_it = absurd cc
printf-known (suc k) takes_it = printf-lines k ∙ grind (arith, takes_it)

pub named-printf : (name : List ℕ) (k : ℕ) → name ≡ codes "printf" → takes Predicate.Printf k ≡ true → IsPredicateNamed name k Predicate.Printf
named-printf name k e takes_it = record { known = ap (λ n. is_predicate n k) e ∙ printf-known k takes_it; takes = takes_it; same = λ ts s many. ap (λ n. built_in_predicate n ts s) e }

-- what is told of a name that is `printf`
pub printf-told : (name : List ℕ) (k : ℕ) (found : Option Predicate) → name ≡ codes "printf" → IfSome found (λ p. (p ≡ Predicate.Printf) × (takes Predicate.Printf k ≡ true)) → IfNone found (takes Predicate.Printf k ≡ false)
    → IfSome found (λ p. IsPredicateNamed name k p) × IfNone found (is_predicate name k ≡ false)
printf-told name k None e some none = (some, none-of_printf name k e none)
printf-told name k (Some p) e some none = (subst (IsPredicateNamed name k) (sym some.0) (named-printf name k e some.1), none)
