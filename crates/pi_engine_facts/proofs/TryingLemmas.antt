-- The next fact that unifies with a call.
use Rattle.std.proofs.Common.{◌≡◌, ℕ, zero, suc, ◌+◌, ◌-◌, ◌<◌, ◌≤◌, Bool, true, false, List, [], ◌∷◌, drop, length, map, Option, Some, None, get_or, refl, ap, sym, ◌∙◌, subst, arith}
use Rattle.std.proofs.lemmas.List.{drop_all, drop_more, length-map}
use Rattle.std.specs.Prelude.{is_some, cond, slice_get}
use Rattle.pi_terms.specs.Tree.{Trees}
use Rattle.pi_constraints.specs.State.{State}
use Rattle.pi_constraints.specs.Store.{StoreView, Keeps, Stays, Marks, Returns}
use Rattle.pi_core.specs.CoreTree.{ClauseTree, clause_tree}
use Rattle.pi_core.specs.declared.core_program.CoreClause.{CoreClause}
use Rattle.pi_unify.specs.Answers.{Answers}
use Rattle.pi_unify.proofs.KeepsLemmas.{keeps_none, stays_then}
use Rattle.pi_meaning.specs.Machine.Step.{with_fact, from_unifying}
use Rattle.pi_engine_facts.specs.Trying.{IsFirst, numbered}
use Rattle.pi_engine_facts.specs.Keyed.{NoneBetween}

-- a state that was come back to
pub returned : {M : Type 0} (order : M → ℕ) (v w x u : StoreView M) (m : M) → Marks order v w m → Keeps w x → Returns order x u m → Stays v u
returned {M = M} order v w x u m marks keeps returns =
    let good : (n : M) → (h : v.is_good n ≡ true) → x.is_good n ≡ true = λ n h. keeps.good n (marks.stays.keeps.good n h) in
    let back : u.now ≡ v.now = returns.now ∙ (keeps.same m marks.good ∙ marks.brings_back) in
    record {
      keeps = record {
        good = λ n h. returns.good n (good n h) (marks.newest n h);
        same = λ n h. returns.same n (good n h) (marks.newest n h) ∙ (keeps.same n (marks.stays.keeps.good n h) ∙ marks.stays.keeps.same n h);
        beside = λ n. returns.beside n ∙ (keeps.beside n ∙ marks.stays.keeps.beside n);
        terms = λ r t h. subst (λ o. o.terms r.number ≡ Some t) (sym back) h;
        names = λ k name h. returns.names k name (keeps.names k name (marks.stays.keeps.names k name h));
      };
      state = ap (λ o. o.state) back;
    }

pub answers-tell : (o : Option State) (one : Bool) (s : State) → Answers o one s → one ≡ is_some o
answers-tell None one s told = told
answers-tell (Some r) one s told = told.0

-- the facts that are left: none before them unified
pub record SoFar (ts : Trees) (s : State) (cs : List ClauseTree) (first from number : ℕ) : Type 0 where
  pub from_on : from ≤ number
  pub same : from_unifying ts s (drop (from - first) cs) ≡ from_unifying ts s (drop (number - first) cs)

pub none-tried : (ts : Trees) (s : State) (cs : List ClauseTree) (first from : ℕ) → SoFar ts s cs first from from
none-tried ts s cs first from = record { from_on = omega arith; same = refl }

pub record NextFact (cs : List ClauseTree) (first number : ℕ) (c : ClauseTree) : Type 0 where
  pub here : drop (number - first) cs ≡ c ∷ drop (number + 1 - first) cs

next-item : (ds : List CoreClause) (i : ℕ) (d : CoreClause) → slice_get ds i ≡ Some d → (i < length ds) × (get_or (map clause_tree ds) i (clause_tree d) ≡ clause_tree d)
next-item [] i d at = absurd cc
next-item (x ∷ ds) zero d at = (omega arith, ap clause_tree (one x d at))
  where
    one : (x d : CoreClause) → Some x ≡ Some d → x ≡ d
    one x d h = cc
next-item (x ∷ ds) (suc i) d at = let rest : _ = next-item ds i d at in (omega (arith, rest.0), rest.1)

pub next-there : (ds : List CoreClause) (i : ℕ) (d : CoreClause) → slice_get ds i ≡ Some d → drop i (map clause_tree ds) ≡ clause_tree d ∷ drop (i + 1) (map clause_tree ds)
next-there ds i d at =
    let it : (i < length ds) × (get_or (map clause_tree ds) i (clause_tree d) ≡ clause_tree d) = next-item ds i d at in
    drop_more (map clause_tree ds) i (clause_tree d) (omega (arith, it.0, length-map ds clause_tree)) ∙ ap (λ y. y ∷ drop (i + 1) (map clause_tree ds)) it.1

pub next-fact : (ds : List CoreClause) (first number : ℕ) (d : CoreClause) → first ≤ number → slice_get ds (number - first) ≡ Some d → NextFact (map clause_tree ds) first number (clause_tree d)
next-fact ds first number d low at =
    record { here = next-there ds (number - first) d at ∙ ap (λ n. clause_tree d ∷ drop n (map clause_tree ds)) (omega (arith, low)) }

passed-by : (ts : Trees) (s : State) (c : ClauseTree) (cs : List ClauseTree) (o : Option State) → with_fact ts s c ≡ o → false ≡ is_some o → from_unifying ts s (c ∷ cs) ≡ from_unifying ts s cs
unfolding from_unifying
passed-by ts s c cs None is not = ap (λ o. cond (is_some o) (c ∷ cs) (from_unifying ts s cs)) is
passed-by ts s c cs (Some r) is not = absurd cc

-- the next one doesn't unify
pub one-passed : (ts : Trees) (s : State) (cs : List ClauseTree) (first from number : ℕ) (c : ClauseTree) → SoFar ts s cs first from number → NextFact cs first number c → false ≡ is_some (with_fact ts s c) → SoFar ts s cs first from (number + 1)
one-passed ts s cs first from number c so next not =
    record {
      from_on = omega (arith, so.from_on);
      same = so.same ∙ (ap (from_unifying ts s) next.here ∙ passed-by ts s c (drop (number + 1 - first) cs) (with_fact ts s c) refl not);
    }

found-by : (ts : Trees) (s : State) (cs : List ClauseTree) (first from end number : ℕ) (c : ClauseTree) (o : Option State) → number < end → SoFar ts s cs first from number → NextFact cs first number c → with_fact ts s c ≡ o → true ≡ is_some o →
    IsFirst ts s (numbered cs first end) from number
unfolding from_unifying
found-by ts s cs first from end number c None less so next is holds = absurd cc
found-by ts s cs first from end number c (Some r) less so next is holds =
    record {
      from_on = so.from_on;
      within = less;
      fact = c;
      behind = drop (number + 1 - first) cs;
      here = next.here;
      state = r;
      unifies = is;
      found = so.same ∙ (ap (from_unifying ts s) next.here ∙ ap (λ o. cond (is_some o) (c ∷ drop (number + 1 - first) cs) (from_unifying ts s (drop (number + 1 - first) cs))) is);
    }

-- it does
pub one-found : (ts : Trees) (s : State) (cs : List ClauseTree) (first from end number : ℕ) (c : ClauseTree) → number < end → SoFar ts s cs first from number → NextFact cs first number c → true ≡ is_some (with_fact ts s c) → IsFirst ts s (numbered cs first end) from number
one-found ts s cs first from end number c less so next holds = found-by ts s cs first from end number c (with_fact ts s c) less so next refl holds

-- none does
pub none-found : (ts : Trees) (s : State) (ds : List CoreClause) (first from end number : ℕ) → end ≤ number → end ≡ first + length ds → SoFar ts s (map clause_tree ds) first from number → from_unifying ts s (drop (from - first) (map clause_tree ds)) ≡ []
unfolding from_unifying
none-found ts s ds first from end number past ends so =
    so.same ∙ ap (from_unifying ts s) (drop_all (number - first) (map clause_tree ds) (omega (arith, past, ends, length-map ds clause_tree)))

there : (ds : List CoreClause) (i : ℕ) → i < length ds → (d : CoreClause) × (slice_get ds i ≡ Some d)
there [] i less = absurd (omega (arith, less))
there (d ∷ ds) zero less = (d, refl)
there (d ∷ ds) (suc i) less = there ds i (omega (arith, less))

-- ---- facts that are passed over

-- behind the last there is none
none-there : (ds : List CoreClause) (i : ℕ) → slice_get ds i ≡ None → length ds ≤ i
none-there [] i none = omega arith
none-there (d ∷ ds) zero none = absurd cc
none-there (d ∷ ds) (suc i) none = omega (arith, none-there ds i none)

none-left : (ds : List CoreClause) (i : ℕ) → length ds ≤ i → drop i (map clause_tree ds) ≡ []
none-left ds i past = drop_all i (map clause_tree ds) (omega (arith, past, length-map ds clause_tree))

-- the next one is passed over, where there is one
next-passed : (ts : Trees) (s : State) (ds : List CoreClause) (first from number : ℕ) → SoFar ts s (map clause_tree ds) first from number → first ≤ number → (o : Option CoreClause) → slice_get ds (number - first) ≡ o →
    ((d : CoreClause) → slice_get ds (number - first) ≡ Some d → with_fact ts s (clause_tree d) ≡ None) → SoFar ts s (map clause_tree ds) first from (number + 1)
next-passed ts s ds first from number so low None at none =
    let past : length ds ≤ number - first = none-there ds (number - first) at in
    record {
      from_on = omega (arith, so.from_on);
      same = so.same ∙ ap (from_unifying ts s) (none-left ds (number - first) past ∙ sym (none-left ds (number + 1 - first) (omega (arith, past))));
    }
next-passed ts s ds first from number so low (Some d) at none = one-passed ts s (map clause_tree ds) first from number (clause_tree d) so (next-fact ds first number d low at) (sym (ap is_some (none d at)))

all-passed : (ts : Trees) (s : State) (ds : List CoreClause) (first from k number : ℕ) → SoFar ts s (map clause_tree ds) first from number → first ≤ number → NoneBetween ts s ds first number (number + k) → SoFar ts s (map clause_tree ds) first from (number + k)
all-passed ts s ds first from zero number so low none = subst (SoFar ts s (map clause_tree ds) first from) (omega arith) so
all-passed ts s ds first from (suc k) number so low none =
    subst (SoFar ts s (map clause_tree ds) first from) (omega arith)
    (all-passed ts s ds first from k (number + 1)
    (next-passed ts s ds first from number so low (slice_get ds (number - first)) refl (λ d at. none number d (omega arith) (omega arith) at)) (omega (arith, low))
    (λ n d here before at. none n d (omega (arith, here)) (omega (arith, before)) at))

-- ---- over a store

-- facts were tried or passed over, and the state stayed; what is known of the facts is a premise
pub record Tried {M : Type 0} (K : Type 0) (v w : StoreView M) (ts : Trees) (ds : List CoreClause) (first from end number : ℕ) : Type 0 where
  pub stays : Stays v w
  pub so : K → first ≤ from → end ≡ first + length ds → SoFar ts v.now.state (map clause_tree ds) first from number

pub tried-none : {M : Type 0} (K : Type 0) (v : StoreView M) (ts : Trees) (ds : List CoreClause) (first from end : ℕ) → Tried K v v ts ds first from end from
tried-none K v ts ds first from end = record { stays = record { keeps = keeps_none v; state = refl }; so = λ known low ends. none-tried ts v.now.state (map clause_tree ds) first from }

abbrev pub TellsAt : {M : Type 0} → StoreView M → Trees → List CoreClause → ℕ → Bool → Type 0
TellsAt w ts ds place one = (d : CoreClause) → slice_get ds place ≡ Some d → one ≡ is_some (with_fact ts w.now.state (clause_tree d))

told-at : {M : Type 0} (v w : StoreView M) (ts : Trees) (d : CoreClause) (one : Bool) → Stays v w → one ≡ is_some (with_fact ts w.now.state (clause_tree d)) → one ≡ is_some (with_fact ts v.now.state (clause_tree d))
told-at v w ts d one stays is = is ∙ ap (λ s. is_some (with_fact ts s (clause_tree d))) stays.state

pub tried-more : {M : Type 0} (K : Type 0) (v w u : StoreView M) (ts : Trees) (ds : List CoreClause) (first from end number place : ℕ) → number < end → place ≡ number - first → Tried K v w ts ds first from end number → Stays w u → TellsAt w ts ds place false →
    Tried K v u ts ds first from end (number + 1)
tried-more K v w u ts ds first from end number place less at tried stays tells =
    record {
      stays = stays_then v w u v.now.state tried.stays stays;
      so = λ known low ends.
          (let so : SoFar ts v.now.state (map clause_tree ds) first from number = tried.so known low ends in
          let d : (d : CoreClause) × (slice_get ds (number - first) ≡ Some d) = there ds (number - first) (omega (arith, less, ends, low, so.from_on)) in
          one-passed ts v.now.state (map clause_tree ds) first from number (clause_tree d.0) so (next-fact ds first number d.0 (omega (arith, low, so.from_on)) d.1)
          (told-at v w ts d.0 false tried.stays (tells d.0 (ap (slice_get ds) at ∙ d.1))));
    }

-- facts are passed over
pub tried-passed : {M : Type 0} (K : Type 0) (v w : StoreView M) (ts : Trees) (ds : List CoreClause) (first from end number to : ℕ) → Tried K v w ts ds first from end number → number ≤ to →
    (K → first ≤ number → end ≡ first + length ds → NoneBetween ts w.now.state ds first number to) → Tried K v w ts ds first from end to
tried-passed K v w ts ds first from end number to tried up none =
    record {
      stays = tried.stays;
      so = λ known low ends.
          (let so : SoFar ts v.now.state (map clause_tree ds) first from number = tried.so known low ends in
          subst (SoFar ts v.now.state (map clause_tree ds) first from) (omega (arith, up))
          (all-passed ts v.now.state ds first from (to - number) number so (omega (arith, low, so.from_on))
          (λ n d here before at. subst (λ s. with_fact ts s (clause_tree d) ≡ None) tried.stays.state (none known (omega (arith, low, so.from_on)) ends n d here (omega (arith, up, before)) at))));
    }

pub tried-found : {M : Type 0} (K : Type 0) (v w : StoreView M) (ts : Trees) (ds : List CoreClause) (first from end number place : ℕ) → number < end → place ≡ number - first → Tried K v w ts ds first from end number → TellsAt w ts ds place true → K → first ≤ from →
    end ≡ first + length ds → IsFirst ts v.now.state (numbered (map clause_tree ds) first end) from number
tried-found K v w ts ds first from end number place less at tried tells known low ends =
    let so : SoFar ts v.now.state (map clause_tree ds) first from number = tried.so known low ends in
    let d : (d : CoreClause) × (slice_get ds (number - first) ≡ Some d) = there ds (number - first) (omega (arith, less, ends, low, so.from_on)) in
    one-found ts v.now.state (map clause_tree ds) first from end number (clause_tree d.0) less so (next-fact ds first number d.0 (omega (arith, low, so.from_on)) d.1) (told-at v w ts d.0 true tried.stays (tells d.0 (ap (slice_get ds) at ∙ d.1)))

pub tried-all : {M : Type 0} (K : Type 0) (v w : StoreView M) (ts : Trees) (ds : List CoreClause) (first from end number : ℕ) → end ≤ number → Tried K v w ts ds first from end number → K → first ≤ from → end ≡ first + length ds →
    from_unifying ts v.now.state (drop (from - first) (map clause_tree ds)) ≡ []
tried-all K v w ts ds first from end number past tried known low ends = none-found ts v.now.state ds first from end number past ends (tried.so known low ends)
