-- The arguments of a compound, matched one after the other.
use Rattle.std.proofs.Common.{◌≡◌, ℕ, ◌+◌, Bool, true, List, [], length, drop, Option, Some, None, refl, ap, sym, ◌∙◌, subst}
use Rattle.std.specs.Option.{option_and_then}
use Rattle.pi_terms.specs.Tree.{Tree, Trees, args, drop_trees}
use Rattle.pi_terms.specs.Places.{Places}
use Rattle.pi_terms.specs.PatternTree.{PatternTree, PatternTrees, compound}
use Rattle.pi_constraints.specs.Value.{Bindings}
use Rattle.pi_constraints.specs.State.{bindings, followed}
use Rattle.pi_constraints.specs.Store.{StoreView}
use Rattle.pi_constraints.specs.HeadMatch.{matched_in, matched_all_in}
use Rattle.pi_core.specs.CoreTree.{pattern_tree, pattern_trees}
use Rattle.pi_core.specs.declared.core_program.Pattern.{Pattern}
use Rattle.pi_constraints.specs.declared.store.Ref.{Ref}
use Rattle.pi_unify.specs.Terms.{term_of}
use Rattle.pi_unify.specs.Matching.{root_match, FitsRoot, pending_match, slot_terms, HoldAllGiven, TellsMatch, HasAsMany, arguments_match, is_compound_of, pattern_count}
use Rattle.pi_unify.specs.declared.matching.Pending.{Pending}
use Rattle.pi_unify.specs.declared.matching.Arguments.{Arguments}
use Rattle.pi_unify.proofs.PatternLemmas.{count-trees}
use Rattle.pi_unify.proofs.MatchingLemmas.{behind_match, after, after_match, left_from_next, IsNext, Fitting, fitting, fits_from_match, drop_all, drop_all_trees, IsLeaf, leaf_bare, bare_match, passed}

-- a pattern without parts is matched at its root
pub leaf_told : (found : Bool) (b : Bindings) (p : Pattern) (t : Tree) (e f : Places) → IsLeaf p → TellsMatch found (root_match b (pattern_tree p) t e) f → TellsMatch found (matched_in b (pattern_tree p) t e) f
leaf_told found b p t e f leaf told = subst (λ (o : Option Places). TellsMatch found o f) (sym (bare_match b (pattern_tree p) t e (leaf_bare p leaf))) told

-- where the match of the patterns from a number on stands in that of all
abbrev pub match_from : {M : Type 0} → StoreView M → List Pattern → Ref → ℕ → Places → Option Places
match_from v ps of i e = matched_all_in (bindings v.now.state) (pattern_trees (drop i ps)) (drop_trees i (args (followed (bindings v.now.state) (term_of v of)))) e

pub record Along {M : Type 0} (v : StoreView M) (ps : List Pattern) (of : Ref) (i : ℕ) (old slots : List (Option Ref)) : Type 0 where
  pub given : HoldAllGiven v slots
  pub match_is : match_from v ps of i (slot_terms v slots) ≡ arguments_match v ps of (slot_terms v old)

pub along_first : {M : Type 0} (v : StoreView M) (ps : List Pattern) (of : Ref) (slots : List (Option Ref)) → HoldAllGiven v slots → Along v ps of 0 slots slots
along_first v ps of slots given = record { given = given; match_is = refl }

then_told : (next : Places → Option Places) (o : Option Places) (e : Places) → o ≡ Some e → option_and_then next o ≡ next e
then_told next o e is = ap (option_and_then next) is

pub along_next : {M : Type 0} (v : StoreView M) (f : Arguments) (p : Pending) (old slots new : List (Option Ref)) → IsNext v f p → Along v f.patterns.now f.of f.next old slots → HoldAllGiven v new → TellsMatch true (pending_match v p (slot_terms v slots)) (slot_terms v new) → Along v f.patterns.now f.of (f.next + 1) old new
along_next v f p old slots new next along given told = record {
  given = given;
  match_is =
      after_match v f (slot_terms v new)
      ∙ (sym (left_from_next v f p (slot_terms v slots) next ∙ then_told (behind_match v f) (pending_match v p (slot_terms v slots)) (slot_terms v new) told) ∙ along.match_is);
}

pub along_fails : {M : Type 0} (v : StoreView M) (f : Arguments) (p : Pending) (old slots : List (Option Ref)) → IsNext v f p → Along v f.patterns.now f.of f.next old slots → pending_match v p (slot_terms v slots) ≡ None → arguments_match v f.patterns.now f.of (slot_terms v old) ≡ None
along_fails v f p old slots next along none = sym along.match_is ∙ (left_from_next v f p (slot_terms v slots) next ∙ ap (option_and_then (behind_match v f)) none)

pub along_ends : {M : Type 0} (v : StoreView M) (ps : List Pattern) (of : Ref) (i : ℕ) (old slots : List (Option Ref)) → i ≡ length ps → HasAsMany v of ps → Along v ps of i old slots → arguments_match v ps of (slot_terms v old) ≡ Some (slot_terms v slots)
unfolding matched_in pattern_trees
along_ends v ps of i old slots last many along =
    let b : Bindings = bindings v.now.state in
    let e : Places = slot_terms v slots in
    sym along.match_is
    ∙ (ap (λ (qs : List Pattern). matched_all_in b (pattern_trees qs) (drop_trees i (args (followed b (term_of v of)))) e) (drop_all ps i (sym last))
    ∙ ap (λ (ts : Trees). matched_all_in b (pattern_trees []) ts e) (drop_all_trees (args (followed b (term_of v of))) i (many ∙ sym last)))

-- a compound whose root is what the pattern says has as many arguments, and its match is that of them
pub many_at : {M : Type 0} (v : StoreView M) (name : List ℕ) (ps : List Pattern) (p : PatternTree) (r : Ref) (e after : Places) → p ≡ compound name (pattern_trees ps) → root_match (bindings v.now.state) p (term_of v r) e ≡ Some after → HasAsMany v r ps
many_at v name ps p r e after is found =
    let fits : FitsRoot (bindings v.now.state) (compound name (pattern_trees ps)) (term_of v r) = subst (λ (q : PatternTree). FitsRoot (bindings v.now.state) q (term_of v r)) is (fits_from_match (bindings v.now.state) p (term_of v r) e after found) in
    (fitting (bindings v.now.state) name (pattern_trees ps) (term_of v r) fits).many ∙ count-trees ps

slots_stay : (b : Bindings) (name : List ℕ) (ps : PatternTrees) (t : Tree) (e after : Places) → root_match b (compound name ps) t e ≡ Some after → e ≡ after
slots_stay b name ps t e after found = (passed (is_compound_of name (pattern_count ps) (followed b t)) e after found).1

pub inside_told : {M : Type 0} (v : StoreView M) (found : Bool) (name : List ℕ) (ps : List Pattern) (p : PatternTree) (r : Ref) (e middle after : Places) → p ≡ compound name (pattern_trees ps) → root_match (bindings v.now.state) p (term_of v r) e ≡ Some middle → TellsMatch found (arguments_match v ps r middle) after → TellsMatch found (matched_in (bindings v.now.state) p (term_of v r) e) after
inside_told v found name ps p r e middle after is root told =
    let b : Bindings = bindings v.now.state in
    let t : Tree = term_of v r in
    let own : root_match b (compound name (pattern_trees ps)) t e ≡ Some middle = subst (λ (q : PatternTree). root_match b q t e ≡ Some middle) is root in
    let fits : Fitting b name (pattern_trees ps) t = fitting b name (pattern_trees ps) t (fits_from_match b (compound name (pattern_trees ps)) t e middle own) in
    let same : arguments_match v ps r middle ≡ matched_in b p t e =
    ap (arguments_match v ps r) (sym (slots_stay b name (pattern_trees ps) t e middle own)) ∙ (sym (fits.inside e) ∙ ap (λ (q : PatternTree). matched_in b q t e) (sym is)) in
    subst (λ (o : Option Places). TellsMatch found o after) same told
