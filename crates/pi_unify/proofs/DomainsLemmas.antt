-- Variables that are met one after the other, and their domains.
use Rattle.std.proofs.Common.{◌≡◌, ℕ, ◌+◌, ◌≤◌, ◌<◌, List, [], ◌∷◌, ◌++◌, Option, None, length, take, get_or, inl, inr, refl, sym, ◌∙◌, ap, subst, add-one, arith}
use Rattle.std.specs.Prelude.{nat_eq}
use Rattle.std.specs.List.{list_any, flat_map}
use Rattle.std.proofs.Math.Seq.{take-suc}
use Rattle.std.proofs.lemmas.Bool.{cases_Bool}
use Rattle.std.proofs.lemmas.Grind.{flat_map-append}
use Rattle.std.proofs.lemmas.List.{append_assoc, append-nil, length-append, take_all}
use Rattle.pi_terms.specs.Tree.{Tree, var, cells, subterms, ShowsHead}
use Rattle.pi_terms.specs.Variables.{occurrences, firsts}
use Rattle.pi_terms.specs.Numbers.{noted}
use Rattle.pi_terms.specs.Places.{held}
use Rattle.pi_constraints.specs.Value.{IsAcyclic}
use Rattle.pi_constraints.specs.State.{State, bindings, domain_of, domain_at_root, followed, next}
use Rattle.pi_constraints.specs.Store.{StoreView, IsTerm}
use Rattle.pi_constraints.specs.ToldDomains.{told_domain, told_domains}
use Rattle.pi_constraints.specs.declared.domain.Span.{Span}
use Rattle.pi_constraints.specs.declared.store.Ref.{Ref}
use Rattle.pi_core.specs.declared.answer.NamedTerm.{NamedTerm}
use Rattle.pi_terms.specs.declared.term.TermHead.{TermHead}
use Rattle.pi_constraints.specs.declared.var_domain.VarDomain.{VarDomain}
use Rattle.pi_constraints.proofs.FollowLemmas.{followed_itself}
use Rattle.pi_terms.proofs.NumberLemmas.{noted-firsts}
use Rattle.pi_terms.proofs.TermLemmas.{subterm_for_each_cell}
use Rattle.pi_unify.specs.Copying.{root_variables}
use Rattle.pi_unify.proofs.BuildLemmas.{NodeAt, root_variables-append, root_variables-subterms, no_root_variable, no_variables}
use Rattle.pi_unify.specs.declared.domains.Met.{Met}
use Rattle.pi_unify.specs.Domains.{AreUnbound, HasMet, occurring}

-- ---- the domain of one variable

pub domain-found : {M : Type 0} (v : StoreView M) (n : ℕ) (r : Ref) (found : Option (List Span)) → n < next v.now.state → (n < next v.now.state → IsTerm v r (var n)) →
    ((t : Tree) → IsTerm v r t → IsAcyclic (bindings v.now.state) → found ≡ domain_at_root v.now.state (followed (bindings v.now.state) t)) →
    IsAcyclic (bindings v.now.state) → held (bindings v.now.state) n ≡ None → found ≡ domain_of v.now.state n
domain-found v n r found within is tells acyclic unbound = tells (var n) (is within) acyclic ∙ ap (domain_at_root v.now.state) (followed_itself (bindings v.now.state) n unbound)

-- ---- one variable

unbound-front : (s : State) (xs ys : List ℕ) → AreUnbound s (xs ++ ys) → AreUnbound s xs
unfolding AreUnbound
unbound-front s [] ys are = tt
unbound-front s (x ∷ xs) ys are = (are.0, unbound-front s xs ys are.1)

unbound-behind : (s : State) (xs : List ℕ) (n : ℕ) → AreUnbound s (xs ++ n ∷ []) → held (bindings s) n ≡ None
unfolding AreUnbound
unbound-behind s [] n are = are.0
unbound-behind s (x ∷ xs) n are = unbound-behind s xs n are.1

one-longer : (ns : List ℕ) (n : ℕ) → length (ns ++ n ∷ []) ≡ length ns → ⊥
one-longer ns n same = omega (arith, same, length-append ns (n ∷ []))

noted-known : (ns : List ℕ) (n : ℕ) → length (noted ns n) ≡ length ns → noted ns n ≡ ns
noted-known ns n same = elim (cases_Bool (list_any (nat_eq n) ns)) [
  | inl hit ↦ rw hit refl
  | inr miss ↦ absurd (one-longer ns n (rw miss at same))
]

noted-new : (ns : List ℕ) (n : ℕ) → (length (noted ns n) ≡ length ns → ⊥) → noted ns n ≡ ns ++ n ∷ []
noted-new ns n other = elim (cases_Bool (list_any (nat_eq n) ns)) [
  | inl hit ↦ absurd (other (rw hit refl))
  | inr miss ↦ rw miss refl
]

told-more : (s : State) (ns : List ℕ) (n : ℕ) → told_domains s (ns ++ n ∷ []) ≡ told_domains s ns ++ told_domain n (domain_of s n)
unfolding told_domains
told-more s ns n =
    flat_map-append (λ m. told_domain m (domain_of s m)) ns (n ∷ []) ∙ ap (λ ds. flat_map (λ m. told_domain m (domain_of s m)) ns ++ ds) (append-nil (told_domain n (domain_of s n)))

-- it was met before
pub met-again : (s : State) (ns : List ℕ) (n : ℕ) (old : Met) (new : List ℕ) → new ≡ noted old.variables n → length new ≡ length old.variables →
    HasMet s ns old → HasMet s (ns ++ n ∷ []) (record { variables = new; domains = old.domains })
met-again s ns n old new is same has =
    let known : noted old.variables n ≡ old.variables = noted-known old.variables n (ap length (sym is) ∙ same) in
    let all : firsts (ns ++ n ∷ []) ≡ firsts ns = sym (noted-firsts ns n) ∙ ap (λ m. noted m n) (sym has.variables) ∙ known ∙ has.variables in
    record {
      variables = is ∙ known ∙ has.variables ∙ sym all;
      domains = λ acyclic unbound. has.domains acyclic (unbound-front s ns (n ∷ []) unbound) ∙ ap (told_domains s) (sym all);
    }

-- it is met for the first time
pub met-first : (s : State) (ns : List ℕ) (n : ℕ) (old : Met) (new : List ℕ) (domains : List VarDomain) (found : Option (List Span)) → new ≡ noted old.variables n → (length new ≡ length old.variables → ⊥) →
    (IsAcyclic (bindings s) → held (bindings s) n ≡ None → found ≡ domain_of s n) → domains ≡ old.domains ++ told_domain n found →
    HasMet s ns old → HasMet s (ns ++ n ∷ []) (record { variables = new; domains = domains })
met-first s ns n old new domains found is other tells told has =
    let added : noted old.variables n ≡ old.variables ++ n ∷ [] = noted-new old.variables n (λ same. other (ap length is ∙ same)) in
    let all : firsts (ns ++ n ∷ []) ≡ firsts ns ++ n ∷ [] = sym (noted-firsts ns n) ∙ ap (λ m. noted m n) (sym has.variables) ∙ added ∙ ap (λ m. m ++ n ∷ []) has.variables in
    record {
      variables = is ∙ added ∙ ap (λ m. m ++ n ∷ []) has.variables ∙ sym all;
      domains = λ acyclic unbound.
          told ∙ ap (λ ds. ds ++ told_domain n found) (has.domains acyclic (unbound-front s ns (n ∷ []) unbound))
          ∙ ap (λ o. told_domains s (firsts ns) ++ told_domain n o) (tells acyclic (unbound-behind s ns n unbound)) ∙ sym (told-more s (firsts ns) n) ∙ ap (told_domains s) (sym all);
    }

-- ---- the variables of a term, node by node

pub met-none : (s : State) (met : Met) → met.variables ≡ [] → met.domains ≡ [] → HasMet s [] met
unfolding told_domains
met-none s met none no_domains = record { variables = none ∙ sym no_variables; domains = λ acyclic unbound. no_domains ∙ ap (told_domains s) (sym no_variables) }

-- the variables of so many nodes, and those before them
abbrev pub before_node : List ℕ → List Tree → ℕ → List ℕ
before_node ns us i = ns ++ root_variables (take i us)

node-more : (us : List Tree) (i : ℕ) (head : TermHead) → (at : NodeAt us i head) → root_variables (take (i + 1) us) ≡ root_variables (take i us) ++ root_variables (at.it ∷ [])
node-more us i head at = ap root_variables (ap (λ k. take k us) (add-one i) ∙ at.more) ∙ root_variables-append (take i us) (at.it ∷ [])

pub node-met : (s : State) (ns : List ℕ) (us : List Tree) (i n : ℕ) (head : TermHead) (met : Met) → NodeAt us i head → head ≡ TermHead.Var n → HasMet s (before_node ns us i ++ n ∷ []) met → HasMet s (before_node ns us (i + 1)) met
node-met s ns us i n head met at is has =
    let here : at.it ≡ var n = subst (ShowsHead at.it) is at.shown in
    let more : root_variables (take (i + 1) us) ≡ root_variables (take i us) ++ n ∷ [] = node-more us i head at ∙ ap (λ u. root_variables (take i us) ++ root_variables (u ∷ [])) here in
    subst (λ ms. HasMet s ms met) (append_assoc ns (root_variables (take i us)) (n ∷ []) ∙ ap (λ ms. ns ++ ms) (sym more)) has

pub node-passed : (s : State) (ns : List ℕ) (us : List Tree) (i : ℕ) (head : TermHead) (met : Met) → NodeAt us i head → ((n : ℕ) → head ≡ TermHead.Var n → ⊥) → HasMet s (before_node ns us i) met → HasMet s (before_node ns us (i + 1)) met
node-passed s ns us i head met at other has =
    let more : root_variables (take (i + 1) us) ≡ root_variables (take i us) =
    node-more us i head at ∙ ap (λ ms. root_variables (take i us) ++ ms) (no_root_variable at.it head at.shown other) ∙ append-nil (root_variables (take i us)) in
    subst (λ ms. HasMet s (ns ++ ms) met) (sym more) has

pub nodes-met : (s : State) (ns : List ℕ) (t : Tree) (i : ℕ) (met : Met) → cells t ≤ i → HasMet s (before_node ns (subterms t) i) met → HasMet s (ns ++ occurrences t) met
nodes-met s ns t i met all has =
    subst (λ ms. HasMet s (ns ++ ms) met) (ap root_variables (take_all i (subterms t) (omega (arith, all, subterm_for_each_cell t))) ∙ root_variables-subterms t) has

-- ---- value by value

pub occurring-more : (values : List NamedTerm) (i : ℕ) (value : NamedTerm) → i < length values → value ≡ get_or values i value → occurring (take (i + 1) values) ≡ occurring (take i values) ++ occurrences value.value
occurring-more values i value within is =
    let more : take (i + 1) values ≡ take i values ++ value ∷ [] = ap (λ k. take k values) (add-one i) ∙ take-suc values i value within ∙ ap (λ v. take i values ++ v ∷ []) (sym is) in
    ap occurring more ∙ flat_map-append (λ (v : NamedTerm). occurrences v.value) (take i values) (value ∷ []) ∙ ap (λ ns. occurring (take i values) ++ ns) (append-nil (occurrences value.value))
