-- The terms in a value, listed from a store.
use Rattle.std.proofs.Common.{◌≡◌, ℕ, zero, suc, ◌+◌, ◌<◌, ◌≤◌, Option, Some, None, List, [], ◌∷◌, ◌++◌, length, inl, inr, refl, ap, sym, ◌∙◌, subst, arith, add-one, append_assoc, length-append}
use Rattle.std.proofs.lemmas.List.{map-append, append-nil}
use Rattle.pi_terms.specs.Tree.{Tree, var, int, atom, comp, Trees, no_trees, tree, tree_count, args, arity, drop_trees, cells, subterms, subterms_all}
use Rattle.pi_terms.specs.Variables.{firsts, variables}
use Rattle.pi_constraints.specs.Store.{StoreView, ShowsCell}
use Rattle.pi_constraints.specs.declared.store.Ref.{Ref}
use Rattle.pi_constraints.specs.declared.store.Cell.{Cell}
use Rattle.pi_terms.proofs.TermLemmas.{subterm_for_each_cell}
use Rattle.pi_unify.specs.Terms.{IsGiven, HoldsNoCycle, value_of}
use Rattle.pi_unify.specs.Comparison.{cell_arity}
use Rattle.pi_unify.specs.Copying.{AreGiven, values_of, noted_cell, IsWalk, AreWalks, left_terms, Enters, EntersNext, root_variables, Listing, GoesOnListing}
use Rattle.pi_unify.specs.declared.ahead.Rest.{Rest}
use Rattle.pi_unify.specs.Rests.{with_all, after, Taken}
use Rattle.pi_unify.proofs.RestLemmas.{put, IsBehind, behind}
use Rattle.pi_unify.proofs.AheadLemmas.{ArgSays}
use Rattle.pi_unify.proofs.TermValues.{IsArgument, argument}
use Rattle.pi_unify.proofs.ComparisonLemmas.{ShownBy, shown, arity_shown}
use Rattle.pi_terms.proofs.NumberLemmas.{noted-firsts}
use Rattle.pi_unify.proofs.BuildLemmas.{root_variables-append, root_variables-subterms}

-- ---- terms in terms

pub subterms_split : (t : Tree) → subterms t ≡ t ∷ subterms_all (args t)
unfolding subterms
subterms_split (var n) = refl
subterms_split (int n) = refl
subterms_split (atom name) = refl
subterms_split (comp name ts) = refl

drop_every : (ts : Trees) (k : ℕ) → tree_count ts ≡ k → drop_trees k ts ≡ no_trees
unfolding tree_count
drop_every no_trees zero e = refl
drop_every no_trees (suc k) e = refl
drop_every (tree t ts) zero e = cc
drop_every (tree t ts) (suc k) e = drop_every ts k (omega arith)

-- ---- what is left

abbrev own_terms : {M : Type 0} → StoreView M → Rest Ref → List Tree
own_terms v f = subterms_all (drop_trees f.next (args (value_of v f.of)))

left_terms-more : {M : Type 0} (v : StoreView M) (fs : List (Rest Ref)) (f : Rest Ref) → left_terms v (fs ++ f ∷ []) ≡ own_terms v f ++ left_terms v fs
unfolding left_terms
left_terms-more v [] f = sym (append-nil (own_terms v f))
left_terms-more v (g ∷ fs) f = ap (λ us. us ++ own_terms v g) (left_terms-more v fs f) ∙ append_assoc (own_terms v f) (left_terms v fs) (own_terms v g)

walks_more : {M : Type 0} (v : StoreView M) (fs : List (Rest Ref)) (f : Rest Ref) → AreWalks v fs → IsWalk v f → AreWalks v (fs ++ f ∷ [])
unfolding AreWalks
walks_more v [] f all is = (is, tt)
walks_more v (g ∷ fs) f all is = (all.0, walks_more v fs f all.1 is)

walks_but_last : {M : Type 0} (v : StoreView M) (fs : List (Rest Ref)) (f : Rest Ref) → AreWalks v (fs ++ f ∷ []) → AreWalks v fs × IsWalk v f
unfolding AreWalks
walks_but_last v [] f all = (tt, all.0)
walks_but_last v (g ∷ fs) f all = let r : AreWalks v fs × IsWalk v f = walks_but_last v fs f all.1 in ((all.0, r.0), r.1)

-- ---- the next one

abbrev own_behind : {M : Type 0} → StoreView M → Rest Ref → Trees
own_behind v f = drop_trees (suc f.next) (args (value_of v f.of))

own_from_front : {M : Type 0} (v : StoreView M) (f : Rest Ref) (q : Ref) → IsArgument v q (value_of v f.of) f.next → own_terms v f ≡ subterms (value_of v q) ++ subterms_all (own_behind v f)
unfolding subterms
own_from_front v f q at = ap subterms_all at.front

after_terms : {M : Type 0} (v : StoreView M) (f : Rest Ref) → own_terms v (after f) ≡ subterms_all (own_behind v f)
after_terms v f = ap (λ k. subterms_all (drop_trees k (args (value_of v f.of)))) (add-one f.next)

enters_more : {M : Type 0} (v : StoreView M) (old fs new : List (Rest Ref)) (f : Rest Ref) (q : Ref) → old ≡ fs ++ f ∷ [] → new ≡ fs ++ after f ∷ [] → AreWalks v old → f.next + 1 < f.count → IsArgument v q (value_of v f.of) f.next → Enters v old new q
enters_more v old fs new f q was is all more at =
    let parts : AreWalks v fs × IsWalk v f = walks_but_last v fs f (subst (AreWalks v) was all) in
    let here : IsWalk v f = parts.1 in
    record {
      given = at.given;
      walks = subst (AreWalks v) (sym is) (walks_more v fs (after f) parts.0 (record { given = here.given; many = here.many; within = more }));
      terms =
          ap (left_terms v) was ∙ (left_terms-more v fs f ∙ (ap (λ us. us ++ left_terms v fs) (own_from_front v f q at ∙ ap (λ us. subterms (value_of v q) ++ us) (sym (after_terms v f)))
          ∙ (append_assoc (subterms (value_of v q)) (own_terms v (after f)) (left_terms v fs)
          ∙ ap (λ us. subterms (value_of v q) ++ us) (sym (left_terms-more v fs (after f)) ∙ ap (left_terms v) (sym is)))));
    }

no_terms : subterms_all no_trees ≡ []
unfolding subterms
no_terms = refl

enters_last : {M : Type 0} (v : StoreView M) (old new : List (Rest Ref)) (f : Rest Ref) (q : Ref) → old ≡ new ++ f ∷ [] → AreWalks v old → f.count ≤ f.next + 1 → IsArgument v q (value_of v f.of) f.next → Enters v old new q
enters_last v old new f q was all last at =
    let parts : AreWalks v new × IsWalk v f = walks_but_last v new f (subst (AreWalks v) was all) in
    let within : f.next < f.count = parts.1.within in
    let many : arity (value_of v f.of) ≡ suc f.next = parts.1.many ∙ omega arith in
    let none : subterms_all (own_behind v f) ≡ [] = ap subterms_all (drop_every (args (value_of v f.of)) (suc f.next) many) ∙ no_terms in
    record {
      given = at.given;
      walks = parts.0;
      terms =
          ap (left_terms v) was ∙ (left_terms-more v new f
          ∙ ap (λ us. us ++ left_terms v new) (own_from_front v f q at ∙ (ap (λ us. subterms (value_of v q) ++ us) none ∙ append-nil (subterms (value_of v q)))));
    }

enters_by : {M : Type 0} (v : StoreView M) (old fs new : List (Rest Ref)) (f : Rest Ref) (q : Ref) → old ≡ fs ++ f ∷ [] → AreWalks v old → IsArgument v q (value_of v f.of) f.next → IsBehind f fs new → Enters v old new q
enters_by v old fs new f q was all at (inl more) = enters_more v old fs new f q was more.1 all more.0 at
enters_by v old fs new f q was all at (inr last) = enters_last v old new f q (was ∙ ap (λ rs. rs ++ f ∷ []) (sym last.1)) all last.0 at

-- what a store says of the argument
pub enters : {M : Type 0} (v : StoreView M) (old new : List (Rest Ref)) (f : Rest Ref) (q : Ref) → Taken old new f → HoldsNoCycle v → AreWalks v old → ArgSays v f.of f.next q → EntersNext v old new (Some q)
enters v old new f q t a all says =
    let here : IsWalk v f = (walks_but_last v t.older f (subst (AreWalks v) t.was all)).1 in
    let within : f.next < f.count = here.within in
    let many : arity (value_of v f.of) ≡ f.count = here.many in
    enters_by v old t.older new f q t.was all (argument v f.of q f.next a here.given (omega arith) says) (behind old new f t)

-- ---- all arguments of a term

no_arguments : (ts : Trees) → tree_count ts ≡ 0 → ts ≡ no_trees
unfolding tree_count
no_arguments no_trees e = refl
no_arguments (tree t ts) e = absurd (omega arith)

pub record Opened {M : Type 0} (v : StoreView M) (fs new : List (Rest Ref)) (r : Ref) : Type 0 where
  pub walks : AreWalks v new
  pub terms : left_terms v new ≡ subterms_all (args (value_of v r)) ++ left_terms v fs

pub opened : {M : Type 0} (v : StoreView M) (fs new : List (Rest Ref)) (r : Ref) (count : ℕ) → AreWalks v fs → IsGiven v r → count ≡ arity (value_of v r) → new ≡ with_all fs r count → Opened v fs new r
opened v fs new r count all given many e = elim (put fs new r count e) [
  | inl none ↦
      let is_new : new ≡ fs = none.1 in
      let empty : subterms_all (args (value_of v r)) ≡ [] = ap subterms_all (no_arguments (args (value_of v r)) (sym many ∙ none.0)) ∙ no_terms in
      record { walks = subst (AreWalks v) (sym is_new) all; terms = ap (left_terms v) is_new ∙ ap (λ us. us ++ left_terms v fs) (sym empty) }
  | inr some ↦
      let f : Rest Ref = record { of = r; next = 0; count = count } in
      let is_new : new ≡ fs ++ f ∷ [] = some.1 in
      let here : IsWalk v f = record { given = given; many = sym many; within = some.0 } in
      record { walks = subst (AreWalks v) (sym is_new) (walks_more v fs f all here); terms = ap (left_terms v) is_new ∙ left_terms-more v fs f }
]

-- ---- the loop

pub listing_none : {M : Type 0} (v : StoreView M) (refs : List Ref) (numbers : List ℕ) (fs : List (Rest Ref)) (r : Ref) → refs ≡ [] → numbers ≡ [] → fs ≡ [] → IsGiven v r → Listing v refs numbers fs r r
unfolding AreGiven AreWalks left_terms firsts
listing_none v refs numbers fs r none no_numbers no_walks given = record {
  given = subst (AreGiven v) (sym none) tt;
  at_given = given;
  walks = subst (AreWalks v) (sym no_walks) tt;
  listed =
      ap (λ rs. values_of v rs ++ (subterms (value_of v r) ++ left_terms v fs)) none
      ∙ (ap (λ gs. subterms (value_of v r) ++ left_terms v gs) no_walks ∙ append-nil (subterms (value_of v r)));
  numbers = no_numbers ∙ ap (λ rs. firsts (root_variables (values_of v rs))) (sym none);
}

given_more : {M : Type 0} (v : StoreView M) (refs : List Ref) (r : Ref) → AreGiven v refs → IsGiven v r → AreGiven v (refs ++ r ∷ [])
unfolding AreGiven
given_more v [] r all given = (given, tt)
given_more v (q ∷ refs) r all given = (all.0, given_more v refs r all.1 given)

noted_root : {M : Type 0} (v : StoreView M) (ns : List ℕ) (u : Tree) (c : Cell) → ShowsCell v u c → noted_cell (firsts ns) c ≡ firsts (ns ++ root_variables (u ∷ []))
noted_root v ns u (Cell.Var n) h = noted-firsts ns n ∙ ap (λ w. firsts (ns ++ root_variables (w ∷ []))) (sym h)
noted_root v ns u (Cell.Int n) h = ap firsts (sym (append-nil ns)) ∙ ap (λ w. firsts (ns ++ root_variables (w ∷ []))) (sym h)
noted_root v ns u (Cell.Atom k) (name, is, h) = ap firsts (sym (append-nil ns)) ∙ ap (λ w. firsts (ns ++ root_variables (w ∷ []))) (sym h)
noted_root v ns u (Cell.Comp k count) (name, is, h, many) = ap firsts (sym (append-nil ns)) ∙ ap (λ w. firsts (ns ++ root_variables (w ∷ []))) (sym h)

-- one term was listed, and what is in it is left
record Listed {M : Type 0} (v : StoreView M) (refs : List Ref) (ns : List ℕ) (fs : List (Rest Ref)) (whole : Ref) : Type 0 where
  given : AreGiven v refs
  walks : AreWalks v fs
  listed : values_of v refs ++ left_terms v fs ≡ subterms (value_of v whole)
  numbers : ns ≡ firsts (root_variables (values_of v refs))

one_listed : {M : Type 0} (v : StoreView M) (refs more : List Ref) (numbers noted' : List ℕ) (fs new : List (Rest Ref)) (at whole : Ref) (c : Cell) (count : ℕ) → HoldsNoCycle v → Listing v refs numbers fs at whole → ShownBy v at c → more ≡ refs ++ at ∷ [] → noted' ≡ noted_cell numbers c → count ≡ cell_arity c → new ≡ with_all fs at count → Listed v more noted' new whole
one_listed v refs more numbers noted' fs new at whole c count a now looked is noted_is many children =
    let u : Tree = value_of v at in
    let shows : ShowsCell v u c = shown v at c a now.at_given looked in
    let open' : Opened v fs new at = opened v fs new at count now.walks now.at_given (many ∙ arity_shown v u c shows) children in
    let values : values_of v more ≡ values_of v refs ++ u ∷ [] = ap (values_of v) is ∙ map-append (value_of v) refs (at ∷ []) in
    record {
      given = subst (AreGiven v) (sym is) (given_more v refs at now.given now.at_given);
      walks = open'.walks;
      listed =
          ap (λ us. us ++ left_terms v new) values ∙ (append_assoc (values_of v refs) (u ∷ []) (left_terms v new)
          ∙ (ap (λ us. values_of v refs ++ (u ∷ us)) open'.terms
          ∙ (ap (λ us. values_of v refs ++ (us ++ left_terms v fs)) (sym (subterms_split u)) ∙ now.listed)));
      numbers =
          noted_is ∙ (ap (λ ns. noted_cell ns c) now.numbers ∙ (noted_root v (root_variables (values_of v refs)) u c shows
          ∙ ap firsts (sym (ap root_variables values ∙ root_variables-append (values_of v refs) (u ∷ [])))));
    }

listing_more : {M : Type 0} (v : StoreView M) (refs : List Ref) (numbers : List ℕ) (fs new : List (Rest Ref)) (next whole : Ref) → Listed v refs numbers fs whole → Enters v fs new next → Listing v refs numbers new next whole
listing_more v refs numbers fs new next whole now enters = record {
  given = now.given;
  at_given = enters.given;
  walks = enters.walks;
  listed = ap (λ us. values_of v refs ++ us) (sym enters.terms) ∙ now.listed;
  numbers = now.numbers;
}

length-values : {M : Type 0} (v : StoreView M) (refs : List Ref) → length (values_of v refs) ≡ length refs
length-values v [] = refl
length-values v (r ∷ refs) = ap suc (length-values v refs)

-- how many cells are listed and left
pub cells_listed : {M : Type 0} (v : StoreView M) (refs : List Ref) (numbers : List ℕ) (fs : List (Rest Ref)) (at whole : Ref) → Listing v refs numbers fs at whole → length refs + (cells (value_of v at) + length (left_terms v fs)) ≡ cells (value_of v whole)
cells_listed v refs numbers fs at whole now =
    omega (arith, ap length now.listed, length-append (values_of v refs) (subterms (value_of v at) ++ left_terms v fs), length-append (subterms (value_of v at)) (left_terms v fs), length-values v refs, subterm_for_each_cell (value_of v at), subterm_for_each_cell (value_of v whole))

all_listed : {M : Type 0} (v : StoreView M) (refs : List Ref) (numbers : List ℕ) (fs : List (Rest Ref)) (whole : Ref) → Listed v refs numbers fs whole → fs ≡ [] → (values_of v refs ≡ subterms (value_of v whole)) × (numbers ≡ variables (value_of v whole)) × (length refs ≡ cells (value_of v whole))
unfolding left_terms
all_listed v refs numbers fs whole now none =
    let listed : values_of v refs ≡ subterms (value_of v whole) = sym (append-nil (values_of v refs)) ∙ (ap (λ gs. values_of v refs ++ left_terms v gs) (sym none) ∙ now.listed) in (
      listed,
      now.numbers ∙ ap firsts (ap root_variables listed ∙ root_variables-subterms (value_of v whole)),
      omega (arith, ap length listed, length-values v refs, subterm_for_each_cell (value_of v whole)),
    )

-- one more term was listed
pub node_listed : {M : Type 0} (v : StoreView M) (refs more : List Ref) (numbers noted' : List ℕ) (fs middle new : List (Rest Ref)) (at whole : Ref) (c : Cell) (count : ℕ) (next : Option Ref) → HoldsNoCycle v → Listing v refs numbers fs at whole → ShownBy v at c → more ≡ refs ++ at ∷ [] → noted' ≡ noted_cell numbers c → count ≡ cell_arity c → middle ≡ with_all fs at count → (AreWalks v middle → EntersNext v middle new next) → GoesOnListing v more noted' new whole next
node_listed v refs more numbers noted' fs middle new at whole c count None a now looked is noted_is many children enters =
    let here : Listed v more noted' middle whole = one_listed v refs more numbers noted' fs middle at whole c count a now looked is noted_is many children in
    let all : (values_of v more ≡ subterms (value_of v whole)) × (noted' ≡ variables (value_of v whole)) × (length more ≡ cells (value_of v whole)) = all_listed v more noted' middle whole here (enters here.walks) in
    record { given = here.given; listed = all.0; numbers = all.1; many = all.2 }
node_listed v refs more numbers noted' fs middle new at whole c count (Some q) a now looked is noted_is many children enters =
    let here : Listed v more noted' middle whole = one_listed v refs more numbers noted' fs middle at whole c count a now looked is noted_is many children in
    listing_more v more noted' middle new q whole here (enters here.walks)
