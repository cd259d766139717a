-- The loop of a match: where the match of a pair stands in that of the whole.
use Rattle.std.proofs.Common.{◌≡◌, Bool, true, false, List, [], Option, Some, None, ap, sym, ◌∙◌, subst}
use Rattle.std.specs.Option.{option_map}
use Rattle.pi_terms.specs.Tree.{Tree}
use Rattle.pi_terms.specs.Places.{Places}
use Rattle.pi_terms.specs.PatternTree.{PatternTree}
use Rattle.pi_constraints.specs.Value.{Bindings, IsAcyclic, value}
use Rattle.pi_constraints.specs.State.{bindings}
use Rattle.pi_constraints.specs.Store.{StoreView, IsTerm}
use Rattle.pi_constraints.specs.Match.{matched}
use Rattle.pi_constraints.specs.HeadMatch.{matched_in, slot_values}
use Rattle.pi_core.specs.CoreTree.{pattern_tree}
use Rattle.pi_constraints.specs.declared.store.Ref.{Ref}
use Rattle.pi_constraints.proofs.HeadMatchLemmas.{matches-by_value}
use Rattle.pi_unify.specs.Terms.{IsGiven, term_of}
use Rattle.pi_unify.specs.Matching.{root_match, FitsRoot, AreLeft, match_with, pending_match, GoesBehind, EndsBehind, slot_terms, HoldAllGiven, TellsMatch}
use Rattle.pi_unify.specs.declared.matching.Pending.{Pending}
use Rattle.pi_unify.specs.declared.matching.Arguments.{Arguments}
use Rattle.pi_unify.proofs.TermValues.{term_is}
use Rattle.pi_unify.proofs.MatchingLemmas.{match_with-none, fits_from_match, none_from_root}

-- ---- the loop

-- where the match of a pair stands in that of the whole
pub record Goes {M : Type 0} (v : StoreView M) (fs : List Arguments) (p : Pending) (q : PatternTree) (w : Tree) (old slots : List (Option Ref)) : Type 0 where
  pub given : IsGiven v p.term
  pub left : AreLeft v fs
  pub slots_given : HoldAllGiven v slots
  pub match_is : match_with v fs (pending_match v p (slot_terms v slots)) ≡ matched_in (bindings v.now.state) q w (slot_terms v old)

pub started : {M : Type 0} (v : StoreView M) (fs : List Arguments) (p : Pending) (slots : List (Option Ref)) → fs ≡ [] → IsGiven v p.term → HoldAllGiven v slots → Goes v fs p (pattern_tree p.pattern.now) (term_of v p.term) slots slots
unfolding match_with AreLeft
started v fs p slots e given all = record {
  given = given;
  left = subst (AreLeft v) (sym e) tt;
  slots_given = all;
  match_is = ap (λ rs. match_with v rs (pending_match v p (slot_terms v slots))) e;
}

-- what the root of the pair came to
pub record Rooted {M : Type 0} (v : StoreView M) (p : Pending) (slots new : List (Option Ref)) (found : Bool) : Type 0 where
  pub given : HoldAllGiven v new
  pub tells : TellsMatch found (root_match (bindings v.now.state) (pattern_tree p.pattern.now) (term_of v p.term) (slot_terms v slots)) (slot_terms v new)

pub true_told : (found : Bool) (o : Option Places) (after : Places) → found ≡ true → TellsMatch found o after → o ≡ Some after
true_told true o after e told = told
true_told false o after e told = cc

pub false_told : (found : Bool) (o : Option Places) (after : Places) → found ≡ false → TellsMatch found o after → o ≡ None
false_told true o after e told = cc
false_told false o after e told = told

pub root_fits : {M : Type 0} (v : StoreView M) (p : Pending) (slots new : List (Option Ref)) (found : Bool) → found ≡ true → Rooted v p slots new found → FitsRoot (bindings v.now.state) (pattern_tree p.pattern.now) (term_of v p.term)
root_fits v p slots new found e rooted = fits_from_match (bindings v.now.state) (pattern_tree p.pattern.now) (term_of v p.term) (slot_terms v slots) (slot_terms v new) (true_told found _ (slot_terms v new) e rooted.tells)

-- the root differs
pub not_found : {M : Type 0} (v : StoreView M) (fs : List Arguments) (p : Pending) (q : PatternTree) (w : Tree) (old slots new : List (Option Ref)) (found : Bool) → Goes v fs p q w old slots → found ≡ false → Rooted v p slots new found → matched_in (bindings v.now.state) q w (slot_terms v old) ≡ None
not_found v fs p q w old slots new found goes e rooted =
    let none : pending_match v p (slot_terms v slots) ≡ None =
    none_from_root (bindings v.now.state) (pattern_tree p.pattern.now) (term_of v p.term) (slot_terms v slots) (false_told found _ (slot_terms v new) e rooted.tells) in
    sym goes.match_is ∙ (ap (match_with v fs) none ∙ match_with-none v fs)

pub goes_on : {M : Type 0} (v : StoreView M) (fs rest : List Arguments) (p next : Pending) (q : PatternTree) (w : Tree) (old slots new : List (Option Ref)) (found : Bool) → Goes v fs p q w old slots → found ≡ true → Rooted v p slots new found → GoesBehind v (pattern_tree p.pattern.now) (term_of v p.term) fs rest next → Goes v rest next q w old new
goes_on v fs rest p next q w old slots new found goes e rooted behind = record {
  given = behind.given;
  left = behind.left;
  slots_given = rooted.given;
  match_is = sym (behind.match_is (slot_terms v slots) (slot_terms v new) (true_told found _ (slot_terms v new) e rooted.tells)) ∙ goes.match_is;
}

pub all_found : {M : Type 0} (v : StoreView M) (fs : List Arguments) (p : Pending) (q : PatternTree) (w : Tree) (old slots new : List (Option Ref)) (found : Bool) → Goes v fs p q w old slots → found ≡ true → Rooted v p slots new found → EndsBehind v (pattern_tree p.pattern.now) (term_of v p.term) fs → matched_in (bindings v.now.state) q w (slot_terms v old) ≡ Some (slot_terms v new)
all_found v fs p q w old slots new found goes e rooted ends = sym goes.match_is ∙ ends (slot_terms v slots) (slot_terms v new) (true_told found _ (slot_terms v new) e rooted.tells)

-- a match in a state tells of values
pub values_told : (found : Bool) (b : Bindings) (p : PatternTree) (t : Tree) (e after : Places) → IsAcyclic b → TellsMatch found (matched_in b p t e) after → TellsMatch found (matched p (value b t) (slot_values b e)) (slot_values b after)
values_told true b p t e after a told = sym (matches-by_value b p t e a) ∙ ap (option_map (slot_values b)) told
values_told false b p t e after a told = sym (matches-by_value b p t e a) ∙ ap (option_map (slot_values b)) told

pub terms_are_told : {M : Type 0} (v : StoreView M) (found : Bool) (q : PatternTree) (r : Ref) (t : Tree) (e after : Places) → IsTerm v r t → TellsMatch found (matched_in (bindings v.now.state) q (term_of v r) e) after → TellsMatch found (matched_in (bindings v.now.state) q t e) after
terms_are_told v found q r t e after is told = subst (λ (u : Tree). TellsMatch found (matched_in (bindings v.now.state) q u e) after) (term_is v r t is) told
