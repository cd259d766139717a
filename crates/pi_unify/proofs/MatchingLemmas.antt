-- What is left to match.
use Rattle.std.proofs.Common.{◌≡◌, ℕ, ℤ, zero, suc, ◌+◌, ◌<◌, ◌≤◌, ◌==◌, ◌&&◌, Bool, true, false, cond, List, [], ◌∷◌, ◌++◌, length, get_or, drop, ◌⊎◌, Option, Some, None, Result, Ok, Err, inl, inr, refl, ap, sym, ◌∙◌, subst, arith, add-one, drop-cons, eq-eqb, eqb-true}
use Rattle.std.specs.Prelude.{MatchOption, IfOk}
use Rattle.std.specs.Option.{option_and_then}
use Rattle.std.specs.Ordering.{is_eq}
use Rattle.std.proofs.lemmas.Bool.{cases_Bool}
use Rattle.pi_terms.specs.Tree.{Tree, var, int, atom, comp, Trees, no_trees, tree, tree_count, args, arity, arg_at, drop_trees}
use Rattle.pi_terms.specs.Places.{Places}
use Rattle.pi_terms.specs.Order.{name_order}
use Rattle.pi_terms.specs.PatternTree.{PatternTree, slot, exact_int, exact_atom, compound, named, PatternTrees, no_patterns, pattern}
use Rattle.pi_constraints.specs.Value.{Bindings, IsAcyclic}
use Rattle.pi_constraints.specs.State.{bindings, followed}
use Rattle.pi_constraints.specs.Store.{StoreView, IsTerm}
use Rattle.pi_constraints.specs.HeadMatch.{compound_in, matched_in, matched_all_in}
use Rattle.pi_core.specs.CoreTree.{pattern_tree, pattern_trees}
use Rattle.pi_constraints.specs.declared.store.Ref.{Ref}
use Rattle.pi_core.specs.declared.core_program.Pattern.{Pattern, Slot, Int, Atom}
use Rattle.pi_terms.proofs.TermLemmas.{TreeAt, tree_at-below}
use Rattle.pi_unify.specs.Terms.{IsGiven, HoldsNoCycle, term_of}
use Rattle.pi_unify.specs.Matching.{pattern_count, is_compound_of, root_match, FitsRoot, IsWithin, AreWithin, IsLeft, AreLeft, left_match, match_with, nodes, nodes_of_all, nodes_left, pending_match, HasNodes, LeavesNodes, HasFewer, LeavesFewer, TakesNext, TakesPending, GoesBehind, ComesBehind, Pushes}
use Rattle.pi_unify.specs.declared.matching.Pending.{Pending}
use Rattle.pi_unify.specs.declared.matching.Arguments.{Arguments}
use Rattle.pi_unify.proofs.TermValues.{given_term, term_given, term_is}
use Rattle.pi_unify.proofs.PatternLemmas.{count-trees, pattern_tree-slot, pattern_tree-int, pattern_tree-atom}

-- ---- one after another

pub if_ok : {A E : Type 0} (r : Result A E) (P Q : A → Type 0) → ((x : A) → P x → Q x) → IfOk r P → IfOk r Q
if_ok (Ok x) P Q more h = more x h
if_ok (Err e) P Q more h = tt

then_some : (f : Places → Option Places) (o : Option Places) → ((e : Places) → f e ≡ Some e) → option_and_then f o ≡ o
then_some f None all = refl
then_some f (Some e) all = all e

match_with-more : {M : Type 0} (v : StoreView M) (fs : List Arguments) (f : Arguments) (o : Option Places) → match_with v (fs ++ f ∷ []) o ≡ match_with v fs (option_and_then (left_match v f) o)
unfolding match_with
match_with-more v [] f o = refl
match_with-more v (g ∷ fs) f o = ap (option_and_then (left_match v g)) (match_with-more v fs f o)

pub match_with-none : {M : Type 0} (v : StoreView M) (fs : List Arguments) → match_with v fs None ≡ None
unfolding match_with
match_with-none v [] = refl
match_with-none v (f ∷ fs) = ap (option_and_then (left_match v f)) (match_with-none v fs)

left_more : {M : Type 0} (v : StoreView M) (fs : List Arguments) (f : Arguments) → AreLeft v fs → IsLeft v f → AreLeft v (fs ++ f ∷ [])
unfolding AreLeft
left_more v [] f all is = (is, tt)
left_more v (g ∷ fs) f all is = (all.0, left_more v fs f all.1 is)

pub left_but_last : {M : Type 0} (v : StoreView M) (fs : List Arguments) (f : Arguments) → AreLeft v (fs ++ f ∷ []) → AreLeft v fs × IsLeft v f
unfolding AreLeft
left_but_last v [] f all = (tt, all.0)
left_but_last v (g ∷ fs) f all = let r : AreLeft v fs × IsLeft v f = left_but_last v fs f all.1 in ((all.0, r.0), r.1)

within_more : (fs : List Arguments) (f : Arguments) → AreWithin fs → IsWithin f → AreWithin (fs ++ f ∷ [])
unfolding AreWithin
within_more [] f all is = (is, tt)
within_more (g ∷ fs) f all is = (all.0, within_more fs f all.1 is)

pub none_within : (fs : List Arguments) → fs ≡ [] → AreWithin fs
unfolding AreWithin
none_within fs e = subst AreWithin (sym e) tt

pub within_but_last : (fs : List Arguments) (f : Arguments) → AreWithin (fs ++ f ∷ []) → AreWithin fs × IsWithin f
unfolding AreWithin
within_but_last [] f all = (tt, all.0)
within_but_last (g ∷ fs) f all = let r : AreWithin fs × IsWithin f = within_but_last fs f all.1 in ((all.0, r.0), r.1)

abbrev own_nodes : Arguments → ℕ
own_nodes f = nodes_of_all (pattern_trees (drop f.next f.patterns.now))

nodes_left-more : (fs : List Arguments) (f : Arguments) → nodes_left (fs ++ f ∷ []) ≡ nodes_left fs + own_nodes f
unfolding nodes_left
nodes_left-more [] f = omega arith
nodes_left-more (g ∷ fs) f = omega (arith, nodes_left-more fs f)

-- ---- the next argument

-- a Ref has this argument of a term that is followed
pub record IsNext {M : Type 0} (v : StoreView M) (f : Arguments) (p : Pending) : Type 0 where
  pub given : IsGiven v p.term
  pub terms : drop_trees f.next (args (followed (bindings v.now.state) (term_of v f.of))) ≡ tree (term_of v p.term) (drop_trees (suc f.next) (args (followed (bindings v.now.state) (term_of v f.of))))
  pub patterns : drop f.next f.patterns.now ≡ p.pattern.now ∷ drop (suc f.next) f.patterns.now

-- the pattern stands in front of those behind it
abbrev pub IsPattern : Arguments → Pending → Type 0
IsPattern f p = drop f.next f.patterns.now ≡ p.pattern.now ∷ drop (suc f.next) f.patterns.now

pub pattern_is : (f : Arguments) (p : Pending) → IsWithin f → p.pattern.now ≡ get_or f.patterns.now f.next p.pattern.now → IsPattern f p
pattern_is f p own is =
    let count : f.count ≡ length f.patterns.now = own.count in
    let below : f.next < f.count = own.within in
    let within : f.next < length f.patterns.now = omega arith in
    drop-cons f.patterns.now f.next p.pattern.now within ∙ ap (λ q. q ∷ drop (suc f.next) f.patterns.now) (sym is)

pub next_is : {M : Type 0} (v : StoreView M) (f : Arguments) (p : Pending) → HoldsNoCycle v → IsWithin f → IsLeft v f → p.pattern.now ≡ get_or f.patterns.now f.next p.pattern.now → ((t u : Tree) → IsTerm v f.of t → IsAcyclic (bindings v.now.state) → arg_at (followed (bindings v.now.state) t) f.next ≡ Some u → IsTerm v p.term u) → IsNext v f p
next_is v f p a own left is answers =
    let b : Bindings = bindings v.now.state in
    let t : Tree = term_of v f.of in
    let count : f.count ≡ length f.patterns.now = own.count in
    let below : f.next < f.count = own.within in
    let many : arity (followed b t) ≡ length f.patterns.now = left.many in
    let at : TreeAt (args (followed b t)) f.next = tree_at-below (args (followed b t)) f.next (omega arith) in
    let term : IsTerm v p.term at.it = answers t at.it (given_term v f.of left.given) a at.is in
    record {
      given = term_given v p.term at.it term;
      terms = at.front ∙ ap (λ u. tree u (drop_trees (suc f.next) (args (followed b t)))) (sym (term_is v p.term at.it term));
      patterns = pattern_is f p own is;
    }

abbrev pub behind_match : {M : Type 0} → StoreView M → Arguments → Places → Option Places
behind_match v f e =
    matched_all_in (bindings v.now.state) (pattern_trees (drop (suc f.next) f.patterns.now)) (drop_trees (suc f.next) (args (followed (bindings v.now.state) (term_of v f.of)))) e

pub left_from_next : {M : Type 0} (v : StoreView M) (f : Arguments) (p : Pending) (e : Places) → IsNext v f p → left_match v f e ≡ option_and_then (behind_match v f) (pending_match v p e)
unfolding matched_in pattern_trees
left_from_next v f p e next =
    let b : Bindings = bindings v.now.state in
    let ts : Trees = args (followed b (term_of v f.of)) in
    ap (λ ps. matched_all_in b (pattern_trees ps) (drop_trees f.next ts) e) next.patterns
    ∙ ap (λ us. matched_all_in b (pattern_trees (p.pattern.now ∷ drop (suc f.next) f.patterns.now)) us e) next.terms

nodes_from_next : (f : Arguments) (p : Pending) → IsPattern f p → own_nodes f ≡ nodes (pattern_tree p.pattern.now) + nodes_of_all (pattern_trees (drop (suc f.next) f.patterns.now))
unfolding nodes pattern_trees
nodes_from_next f p is = ap (λ ps. nodes_of_all (pattern_trees ps)) is

abbrev pub after : Arguments → Arguments
after f = record { patterns = f.patterns; of = f.of; next = f.next + 1; count = f.count }

pub after_match : {M : Type 0} (v : StoreView M) (f : Arguments) (e : Places) → left_match v (after f) e ≡ behind_match v f e
after_match v f e = ap (λ k. matched_all_in (bindings v.now.state) (pattern_trees (drop k f.patterns.now)) (drop_trees k (args (followed (bindings v.now.state) (term_of v f.of)))) e) (add-one f.next)

after_nodes : (f : Arguments) → own_nodes (after f) ≡ nodes_of_all (pattern_trees (drop (suc f.next) f.patterns.now))
after_nodes f = ap (λ k. nodes_of_all (pattern_trees (drop k f.patterns.now))) (add-one f.next)

same_then : (f g : Places → Option Places) (o : Option Places) → ((e : Places) → f e ≡ g e) → option_and_then f o ≡ option_and_then g o
same_then f g None same = refl
same_then f g (Some e) same = same e

-- more patterns are left behind it
pub takes_more : {M : Type 0} (v : StoreView M) (old fs new : List Arguments) (f : Arguments) (p : Pending) → old ≡ fs ++ f ∷ [] → new ≡ fs ++ after f ∷ [] → AreLeft v old → IsNext v f p → TakesNext v old new p
takes_more v old fs new f p was is all next =
    let parts : AreLeft v fs × IsLeft v f = left_but_last v fs f (subst (AreLeft v) was all) in
    let here : IsLeft v f = parts.1 in
    record {
      given = next.given;
      left = subst (AreLeft v) (sym is) (left_more v fs (after f) parts.0 (record { given = here.given; many = here.many }));
      match_is = λ e.
          ap (λ rs. match_with v rs (Some e)) was ∙ (match_with-more v fs f (Some e)
          ∙ (ap (match_with v fs) (left_from_next v f p e next ∙ same_then (behind_match v f) (left_match v (after f)) (pending_match v p e) (λ d. sym (after_match v f d)))
          ∙ (sym (match_with-more v fs (after f) (pending_match v p e)) ∙ ap (λ rs. match_with v rs (pending_match v p e)) (sym is))));
    }

pub leaves_more : (old fs new : List Arguments) (f : Arguments) (p : Pending) → old ≡ fs ++ f ∷ [] → new ≡ fs ++ after f ∷ [] → AreWithin old → f.next + 1 < f.count → IsPattern f p → HasNodes (nodes_left old) new p
leaves_more old fs new f p was is all more at =
    let parts : AreWithin fs × IsWithin f = within_but_last fs f (subst AreWithin was all) in
    record {
      within = subst AreWithin (sym is) (within_more fs (after f) parts.0 (record { count = parts.1.count; within = more }));
      nodes = omega (arith, ap nodes_left was, ap nodes_left is, nodes_left-more fs f, nodes_left-more fs (after f), nodes_from_next f p at, after_nodes f);
    }

pub drop_all_trees : (ts : Trees) (k : ℕ) → tree_count ts ≡ k → drop_trees k ts ≡ no_trees
unfolding tree_count
drop_all_trees no_trees zero e = refl
drop_all_trees no_trees (suc k) e = refl
drop_all_trees (tree t ts) zero e = cc
drop_all_trees (tree t ts) (suc k) e = drop_all_trees ts k (omega arith)

pub drop_all : (ps : List Pattern) (k : ℕ) → length ps ≡ k → drop k ps ≡ []
drop_all [] zero e = refl
drop_all [] (suc k) e = refl
drop_all (p ∷ ps) zero e = cc
drop_all (p ∷ ps) (suc k) e = drop_all ps k (omega arith)

last_count : (f : Arguments) → IsWithin f → f.count ≤ f.next + 1 → length f.patterns.now ≡ suc f.next
last_count f own last =
    let within : f.next < f.count = own.within in
    let count : f.count ≡ length f.patterns.now = own.count in
    omega arith

none_behind : {M : Type 0} (v : StoreView M) (f : Arguments) → IsWithin f → IsLeft v f → f.count ≤ f.next + 1 → (drop (suc f.next) f.patterns.now ≡ []) × (drop_trees (suc f.next) (args (followed (bindings v.now.state) (term_of v f.of))) ≡ no_trees)
none_behind v f own here last =
    let many : length f.patterns.now ≡ suc f.next = last_count f own last in
    (drop_all f.patterns.now (suc f.next) many, drop_all_trees (args (followed (bindings v.now.state) (term_of v f.of))) (suc f.next) (here.many ∙ many))

ends : {M : Type 0} (v : StoreView M) (f : Arguments) (e : Places) → IsWithin f → IsLeft v f → f.count ≤ f.next + 1 → behind_match v f e ≡ Some e
unfolding matched_in pattern_trees
ends v f e own here last =
    let none : (drop (suc f.next) f.patterns.now ≡ []) × (drop_trees (suc f.next) (args (followed (bindings v.now.state) (term_of v f.of))) ≡ no_trees) = none_behind v f own here last in
    ap (λ ps. matched_all_in (bindings v.now.state) (pattern_trees ps) (drop_trees (suc f.next) (args (followed (bindings v.now.state) (term_of v f.of)))) e) none.0
    ∙ ap (λ ts. matched_all_in (bindings v.now.state) no_patterns ts e) none.1

-- it was the last one of its compound
pub takes_last : {M : Type 0} (v : StoreView M) (old new : List Arguments) (f : Arguments) (p : Pending) → old ≡ new ++ f ∷ [] → IsWithin f → AreLeft v old → f.count ≤ f.next + 1 → IsNext v f p → TakesNext v old new p
takes_last v old new f p was own all last next =
    let parts : AreLeft v new × IsLeft v f = left_but_last v new f (subst (AreLeft v) was all) in
    record {
      given = next.given;
      left = parts.0;
      match_is = λ e.
          ap (λ rs. match_with v rs (Some e)) was ∙ (match_with-more v new f (Some e)
          ∙ ap (match_with v new) (left_from_next v f p e next ∙ then_some (behind_match v f) (pending_match v p e) (λ d. ends v f d own parts.1 last)));
    }

pub leaves_last : (old new : List Arguments) (f : Arguments) (p : Pending) → old ≡ new ++ f ∷ [] → AreWithin old → f.count ≤ f.next + 1 → IsPattern f p → HasNodes (nodes_left old) new p
unfolding nodes pattern_trees
leaves_last old new f p was all last at =
    let parts : AreWithin new × IsWithin f = within_but_last new f (subst AreWithin was all) in
    let none : drop (suc f.next) f.patterns.now ≡ [] = drop_all f.patterns.now (suc f.next) (last_count f parts.1 last) in
    let empty : nodes_of_all (pattern_trees (drop (suc f.next) f.patterns.now)) ≡ 0 = ap (λ ps. nodes_of_all (pattern_trees ps)) none in
    record { within = parts.0; nodes = omega (arith, ap nodes_left was, nodes_left-more new f, nodes_from_next f p at, empty) }

-- the number behind another, where there is none
pub none_following : (o : Option ℕ) (next count : ℕ) → MatchOption o (count ≤ next + 1) (λ k. (k ≡ next + 1) × (k < count)) → ((k : ℕ) → o ≡ Some k → ⊥) → count ≤ next + 1
none_following None next count h none = h
none_following (Some k) next count h none = absurd (none k refl)

-- ---- the root of a pattern, and what is behind it

and_true : (c d : Bool) → (c && d) ≡ true → (c ≡ true) × (d ≡ true)
and_true true true e = (refl, refl)
and_true true false e = cc
and_true false d e = cc

pub passed : (c : Bool) (e after : Places) → cond c (Some e) None ≡ Some after → (c ≡ true) × (e ≡ after)
passed true e after h = (refl, cc)
passed false e after h = cc

failed : (c : Bool) (e : Places) → cond c (Some e) None ≡ None → c ≡ false
failed true e h = cc
failed false e h = refl

-- a compound of the pattern's name
pub record Fitting (b : Bindings) (f : List ℕ) (ps : PatternTrees) (t : Tree) : Type 0 where
  pub many : arity (followed b t) ≡ pattern_count ps
  pub inside : (e : Places) → matched_in b (compound f ps) t e ≡ matched_all_in b ps (args (followed b t)) e

fitting_at : (b : Bindings) (f : List ℕ) (ps : PatternTrees) (t u : Tree) → followed b t ≡ u → is_compound_of f (pattern_count ps) u ≡ true → Fitting b f ps t
unfolding matched_in
fitting_at b f ps t (var n) is e = cc
fitting_at b f ps t (int n) is e = cc
fitting_at b f ps t (atom name) is e = cc
fitting_at b f ps t (comp h ts) is e =
    let both : (is_eq (name_order f h) ≡ true) × ((tree_count ts == pattern_count ps) ≡ true) = and_true (is_eq (name_order f h)) (tree_count ts == pattern_count ps) e in
    record {
      many = ap arity is ∙ eqb-true (tree_count ts) (pattern_count ps) both.1;
      inside = λ s.
          ap (compound_in (λ us. matched_all_in b ps us s) f) is
          ∙ (ap (λ c. cond c (matched_all_in b ps ts s) None) both.0 ∙ ap (λ w. matched_all_in b ps (args w) s) (sym is));
    }

pub fitting : (b : Bindings) (f : List ℕ) (ps : PatternTrees) (t : Tree) → FitsRoot b (compound f ps) t → Fitting b f ps t
fitting b f ps t fits = fitting_at b f ps t (followed b t) refl fits

pub fits_from_match : (b : Bindings) (p : PatternTree) (t : Tree) (e after : Places) → root_match b p t e ≡ Some after → FitsRoot b p t
fits_from_match b (slot k) t e after h = tt
fits_from_match b (exact_int n) t e after h = tt
fits_from_match b (exact_atom name) t e after h = tt
fits_from_match b (compound f ps) t e after h = (passed (is_compound_of f (pattern_count ps) (followed b t)) e after h).0
fits_from_match b (named k p) t e after h = tt

-- where not as many arguments as patterns stand, there is no match
none_behind_any : (f : Places → Option Places) (o : Option Places) → ((e : Places) → f e ≡ None) → option_and_then f o ≡ None
none_behind_any f None all = refl
none_behind_any f (Some e) all = all e

even_less : (m n : ℕ) → (suc m == suc n) ≡ false → (m == n) ≡ false
even_less m n h = elim (cases_Bool (m == n)) [ inl hit ↦ cc (eq-eqb (suc m) (suc n) (ap suc (eqb-true m n hit))) | inr miss ↦ miss ]

no_guarded : (c d : Bool) (o : Option Places) → (c && d) ≡ false → (d ≡ false → o ≡ None) → cond c o None ≡ None
no_guarded true d o h none = none h
no_guarded false d o h none = refl

uneven : (b : Bindings) (ps : PatternTrees) (ts : Trees) (e : Places) → (tree_count ts == pattern_count ps) ≡ false → matched_all_in b ps ts e ≡ None
unfolding matched_in tree_count
uneven b no_patterns no_trees e h = cc (eq-eqb 0 0 refl)
uneven b no_patterns (tree t ts) e h = refl
uneven b (pattern p ps) no_trees e h = refl
uneven b (pattern p ps) (tree t ts) e h = none_behind_any (matched_all_in b ps ts) (matched_in b p t e) (λ d. uneven b ps ts d (even_less (tree_count ts) (pattern_count ps) h))

no_compound : (b : Bindings) (f : List ℕ) (ps : PatternTrees) (t u : Tree) (e : Places) → followed b t ≡ u → is_compound_of f (pattern_count ps) u ≡ false → matched_in b (compound f ps) t e ≡ None
unfolding matched_in
no_compound b f ps t (var n) e is h = ap (compound_in (λ us. matched_all_in b ps us e) f) is
no_compound b f ps t (int n) e is h = ap (compound_in (λ us. matched_all_in b ps us e) f) is
no_compound b f ps t (atom name) e is h = ap (compound_in (λ us. matched_all_in b ps us e) f) is
no_compound b f ps t (comp g ts) e is h =
    ap (compound_in (λ us. matched_all_in b ps us e) f) is
    ∙ no_guarded (is_eq (name_order f g)) (tree_count ts == pattern_count ps) (matched_all_in b ps ts e) h (uneven b ps ts e)

-- where the root differs there is no match
pub none_from_root : (b : Bindings) (p : PatternTree) (t : Tree) (e : Places) → root_match b p t e ≡ None → matched_in b p t e ≡ None
unfolding matched_in
none_from_root b (slot k) t e h = h
none_from_root b (exact_int n) t e h = h
none_from_root b (exact_atom name) t e h = h
none_from_root b (compound f ps) t e h = no_compound b f ps t (followed b t) e refl (failed (is_compound_of f (pattern_count ps) (followed b t)) e h)
none_from_root b (named k p) t e h = ap (option_and_then (matched_in b p t)) h

-- ---- all that is left, once the root of a pattern was found

pub record Behind {M : Type 0} (v : StoreView M) (p : PatternTree) (t : Tree) (old new : List Arguments) : Type 0 where
  pub left : AreLeft v new
  pub match_is : (e after : Places) → root_match (bindings v.now.state) p t e ≡ Some after → match_with v old (matched_in (bindings v.now.state) p t e) ≡ match_with v new (Some after)

-- a pattern without parts
abbrev pub IsBare : PatternTree → Type 0
IsBare (slot k) = Unit {0}
IsBare (exact_int n) = Unit {0}
IsBare (exact_atom name) = Unit {0}
IsBare (compound f ps) = ⊥
IsBare (named k p) = ⊥

pub bare_match : (b : Bindings) (p : PatternTree) (t : Tree) (e : Places) → IsBare p → matched_in b p t e ≡ root_match b p t e
unfolding matched_in
bare_match b (slot k) t e bare = refl
bare_match b (exact_int n) t e bare = refl
bare_match b (exact_atom name) t e bare = refl
bare_match b (compound f ps) t e bare = absurd bare
bare_match b (named k p) t e bare = absurd bare

pub behind_bare : {M : Type 0} (v : StoreView M) (p : PatternTree) (t : Tree) (fs : List Arguments) → IsBare p → AreLeft v fs → Behind v p t fs fs
behind_bare v p t fs bare all = record {
  left = all;
  match_is = λ e after h. ap (match_with v fs) (bare_match (bindings v.now.state) p t e bare ∙ h);
}

-- a pattern that is a slot, an integer or an atom
abbrev pub IsLeaf : Pattern → Type 0
IsLeaf p = ((k : ℕ) × (p ≡ Slot k)) ⊎ (((n : ℤ) × (p ≡ Int n)) ⊎ ((name : List ℕ) × (p ≡ Atom name)))

pub leaf_bare : (p : Pattern) → IsLeaf p → IsBare (pattern_tree p)
leaf_bare p (inl (k, is)) = subst IsBare (sym (ap pattern_tree is ∙ pattern_tree-slot k)) tt
leaf_bare p (inr (inl (n, is))) = subst IsBare (sym (ap pattern_tree is ∙ pattern_tree-int n)) tt
leaf_bare p (inr (inr (name, is))) = subst IsBare (sym (ap pattern_tree is ∙ pattern_tree-atom name)) tt

pub behind_leaf : {M : Type 0} (v : StoreView M) (p : Pattern) (t : Tree) (fs : List Arguments) → IsLeaf p → AreLeft v fs → Behind v (pattern_tree p) t fs fs
behind_leaf v p t fs leaf all = behind_bare v (pattern_tree p) t fs (leaf_bare p leaf) all

zero_or_more : (n : ℕ) → (n ≡ 0) ⊎ (0 < n)
zero_or_more zero = inl refl
zero_or_more (suc n) = inr (omega arith)

no_patterns_left : (ps : List Pattern) → length ps ≡ 0 → ps ≡ []
no_patterns_left [] e = refl
no_patterns_left (p ∷ ps) e = absurd (omega arith)

no_trees_left : (ts : Trees) → tree_count ts ≡ 0 → ts ≡ no_trees
unfolding tree_count
no_trees_left no_trees e = refl
no_trees_left (tree t ts) e = absurd (omega arith)

compound_nodes : (f : List ℕ) (ps : PatternTrees) → nodes (compound f ps) ≡ suc (nodes_of_all ps)
unfolding nodes
compound_nodes f ps = refl

nothing_inside : (b : Bindings) (e : Places) → matched_all_in b no_patterns no_trees e ≡ Some e
unfolding matched_in
nothing_inside b e = refl

trees_of_none : (ps : List Pattern) → length ps ≡ 0 → pattern_trees ps ≡ no_patterns
unfolding pattern_trees
trees_of_none ps e = ap pattern_trees (no_patterns_left ps e)

abbrev own_match : {M : Type 0} → StoreView M → Ref → List Pattern → ℕ → Places → Option Places
own_match v r ps k e = matched_all_in (bindings v.now.state) (pattern_trees (drop k ps)) (drop_trees k (args (followed (bindings v.now.state) (term_of v r)))) e

-- the patterns of a compound in front of what was left
pushed_compound : {M : Type 0} (v : StoreView M) (f : List ℕ) (ps : List Pattern) (r : Ref) (old new : List Arguments) → IsGiven v r → AreLeft v old → Fitting (bindings v.now.state) f (pattern_trees ps) (term_of v r) → arity (followed (bindings v.now.state) (term_of v r)) ≡ length ps → 0 < length ps → ((g : Arguments) × (g.patterns.now ≡ ps) × (g.of ≡ r) × (g.next ≡ 0) × (g.count ≡ length ps) × (new ≡ old ++ g ∷ [])) → Behind v (compound f (pattern_trees ps)) (term_of v r) old new
pushed_compound v f ps r old new given all fit many some (g, patterns, of, next, count, is_new) =
    let b : Bindings = bindings v.now.state in
    let t : Tree = term_of v r in
    let here : IsLeft v g = record {
      given = subst (IsGiven v) (sym of) given;
      many = ap (λ q. arity (followed b (term_of v q))) of ∙ (many ∙ ap length (sym patterns));
    } in
    let own : (e : Places) → left_match v g e ≡ matched_all_in b (pattern_trees ps) (args (followed b t)) e = λ e.
    ap (λ qs. own_match v g.of qs g.next e) patterns ∙ (ap (λ q. own_match v q ps g.next e) of ∙ ap (λ k. own_match v r ps k e) next) in
    record {
      left = subst (AreLeft v) (sym is_new) (left_more v old g all here);
      match_is = λ e after h.
          let same : e ≡ after = (passed (is_compound_of f (pattern_count (pattern_trees ps)) (followed b t)) e after h).1 in
          ap (match_with v old) (fit.inside e ∙ sym (own e))
          ∙ (sym (match_with-more v old g (Some e)) ∙ (ap (λ fs. match_with v fs (Some e)) (sym is_new) ∙ ap (λ d. match_with v new (Some d)) same));
    }

pub behind_compound : {M : Type 0} (v : StoreView M) (f : List ℕ) (ps : List Pattern) (r : Ref) (old new : List Arguments) → IsGiven v r → AreLeft v old → FitsRoot (bindings v.now.state) (compound f (pattern_trees ps)) (term_of v r) → Pushes old new ps r → Behind v (compound f (pattern_trees ps)) (term_of v r) old new
behind_compound v f ps r old new given all fits pushes =
    let b : Bindings = bindings v.now.state in
    let t : Tree = term_of v r in
    let fit : Fitting b f (pattern_trees ps) t = fitting b f (pattern_trees ps) t fits in
    let many : arity (followed b t) ≡ length ps = fit.many ∙ count-trees ps in
    elim (zero_or_more (length ps)) [
      | inl none ↦
          let is_new : new ≡ old = pushes.none none in
          let no_ps : pattern_trees ps ≡ no_patterns = trees_of_none ps none in
          let no_ts : args (followed b t) ≡ no_trees = no_trees_left (args (followed b t)) (many ∙ none) in
          record {
            left = subst (AreLeft v) (sym is_new) all;
            match_is = λ e after h.
                let same : e ≡ after = (passed (is_compound_of f (pattern_count (pattern_trees ps)) (followed b t)) e after h).1 in
                let inside : matched_in b (compound f (pattern_trees ps)) t e ≡ Some after =
                fit.inside e ∙ (ap (λ qs. matched_all_in b qs (args (followed b t)) e) no_ps ∙ (ap (λ ts. matched_all_in b no_patterns ts e) no_ts ∙ (nothing_inside b e ∙ ap Some same))) in
                ap (match_with v old) inside ∙ ap (λ fs. match_with v fs (Some after)) (sym is_new);
          }
      | inr some ↦ pushed_compound v f ps r old new given all fit many some (pushes.some some)
    ]

-- ---- the nodes that are left behind the root

-- what is left when the root of a pattern was found
pub record Shrinks (p : PatternTree) (old new : List Arguments) : Type 0 where
  pub within : AreWithin new
  pub nodes : nodes_left new < nodes p + nodes_left old

some_nodes : (p : PatternTree) → 0 < nodes p
unfolding nodes
some_nodes (slot k) = omega arith
some_nodes (exact_int n) = omega arith
some_nodes (exact_atom name) = omega arith
some_nodes (compound f ps) = omega arith
some_nodes (named k p) = omega arith

pub shrinks_bare : (p : PatternTree) (fs : List Arguments) → AreWithin fs → Shrinks p fs fs
shrinks_bare p fs all = record { within = all; nodes = omega (arith, some_nodes p) }

pub shrinks_compound : (f : List ℕ) (ps : List Pattern) (r : Ref) (old new : List Arguments) → AreWithin old → Pushes old new ps r → Shrinks (compound f (pattern_trees ps)) old new
shrinks_compound f ps r old new all pushes = elim (zero_or_more (length ps)) [
  | inl none ↦
      let is_new : new ≡ old = pushes.none none in
      record { within = subst AreWithin (sym is_new) all; nodes = omega (arith, ap nodes_left is_new, compound_nodes f (pattern_trees ps)) }
  | inr some ↦
      let pushed : (g : Arguments) × (g.patterns.now ≡ ps) × (g.of ≡ r) × (g.next ≡ 0) × (g.count ≡ length ps) × (new ≡ old ++ g ∷ []) = pushes.some some in
      let g : Arguments = pushed.0 in
      let patterns : g.patterns.now ≡ ps = pushed.1 in
      let next : g.next ≡ 0 = pushed.3 in
      let count : g.count ≡ length ps = pushed.4 in
      let is_new : new ≡ old ++ g ∷ [] = pushed.5 in
      let own : IsWithin g = record { count = count ∙ ap length (sym patterns); within = omega arith } in
      let size : own_nodes g ≡ nodes_of_all (pattern_trees ps) = ap (λ qs. nodes_of_all (pattern_trees (drop g.next qs))) patterns ∙ ap (λ k. nodes_of_all (pattern_trees (drop k ps))) next in
      record {
        within = subst AreWithin (sym is_new) (within_more old g all own);
        nodes = omega (arith, ap nodes_left is_new, nodes_left-more old g, size, compound_nodes f (pattern_trees ps));
      }
]

pub leaves_fewer : (p : PatternTree) (old middle new : List Arguments) (next : Option Pending) → Shrinks p old middle → LeavesNodes (nodes_left middle) new next → LeavesFewer (nodes p + nodes_left old) new next
leaves_fewer p old middle new None shrinks leaves = tt
leaves_fewer p old middle new (Some q) shrinks leaves =
    let fewer : nodes_left middle < nodes p + nodes_left old = shrinks.nodes in
    let same : nodes (pattern_tree q.pattern.now) + nodes_left new ≡ nodes_left middle = leaves.nodes in
    record { within = leaves.within; nodes = omega arith }

pub named_fewer : (k : ℕ) (p : PatternTree) (old : List Arguments) (next : Pending) → AreWithin old → pattern_tree next.pattern.now ≡ p → HasFewer (nodes (named k p) + nodes_left old) old next
unfolding nodes
named_fewer k p old next all is = record { within = all; nodes = omega (arith, ap nodes is) }

-- ---- what is to be matched next

pub goes_behind : {M : Type 0} (v : StoreView M) (p : PatternTree) (t : Tree) (old middle new : List Arguments) (next : Pending) → Behind v p t old middle → TakesNext v middle new next → GoesBehind v p t old new next
goes_behind v p t old middle new next behind taken = record {
  given = taken.given;
  left = taken.left;
  match_is = λ e after h. behind.match_is e after h ∙ taken.match_is after;
}

pub comes_behind : {M : Type 0} (v : StoreView M) (p : PatternTree) (t : Tree) (old middle new : List Arguments) (next : Option Pending) → Behind v p t old middle → TakesPending v middle new next → ComesBehind v p t old new next
unfolding match_with
comes_behind v p t old middle new None behind none = λ e after h. behind.match_is e after h ∙ ap (λ fs. match_with v fs (Some after)) none
comes_behind v p t old middle new (Some next) behind taken = goes_behind v p t old middle new next behind taken

-- a named pattern goes on with what it names
pub named_behind : {M : Type 0} (v : StoreView M) (k : ℕ) (p : PatternTree) (r : Ref) (old : List Arguments) (next : Pending) → IsGiven v r → AreLeft v old → next.term ≡ r → pattern_tree next.pattern.now ≡ p → GoesBehind v (named k p) (term_of v r) old old next
unfolding matched_in
named_behind v k p r old next given all term is = record {
  given = subst (IsGiven v) (sym term) given;
  left = all;
  match_is = λ e after h.
      ap (match_with v old) (ap (option_and_then (matched_in (bindings v.now.state) p (term_of v r))) h
      ∙ (ap (λ q. matched_in (bindings v.now.state) q (term_of v r) after) (sym is) ∙ ap (λ q. matched_in (bindings v.now.state) (pattern_tree next.pattern.now) (term_of v q) after) (sym term)));
}
