-- What an answer tells, from the state in which its names are read to the one behind it.
use Rattle.std.proofs.Common.{◌≡◌, inl, inr, ℕ, List, [], ◌∷◌, ◌++◌, Option, Some, None, refl, sym, ◌∙◌, ap, subst, arith}
use Rattle.pi_terms.specs.Tree.{Tree, var}
use Rattle.pi_terms.specs.Variables.{occurrences}
use Rattle.pi_terms.specs.Places.{Places, held}
use Rattle.pi_constraints.specs.Value.{IsAcyclic, value}
use Rattle.pi_constraints.specs.State.{State, bindings, binding, domain_in, domain_of, next, with_new}
use Rattle.pi_constraints.specs.Evaluation.{Evaluated, evaluated, slot_term}
use Rattle.pi_meaning.specs.CoreMeaning.Run.{Solution}
use Rattle.pi_core.specs.AnswerVariables.{answer_variables}
use Rattle.pi_meaning.specs.Shared.Told.{named_values, answer_of}
use Rattle.pi_constraints.specs.ToldDomains.{told_domain, told_domains}
use Rattle.pi_core.specs.declared.core_program.NameSlot.{NameSlot}
use Rattle.pi_core.specs.declared.answer.NamedTerm.{NamedTerm}
use Rattle.pi_constraints.specs.declared.var_domain.VarDomain.{VarDomain}
use Rattle.pi_core.specs.declared.answer.Answer.{Answer}
use Rattle.pi_constraints.proofs.StateLemmas.{held_is, as_many}
use Rattle.pi_terms.proofs.VariableLemmas.{Has, Has-append_cases, occurs_from_Has}
use Rattle.pi_constraints.proofs.ValueLemmas.{value_has_none_bound}
use Rattle.pi_unify.specs.Domains.{AreUnbound, occurring}
use Rattle.pi_meaning.proofs.Machine.LaterStates.{IsLaterState, later-same-state, later-new, new-variable, held-past, value-new}

pub slot-is : (k : ℕ) (e : Places) (s : State) → evaluated (var k) e s ≡ slot_term (held e k) k e s
unfolding evaluated
slot-is k e s = refl

abbrev pub value_in : Evaluated → Tree
value_in y = value (bindings y.state) y.tree

pub named-more : (n : NameSlot) (names : List NameSlot) (e : Places) (s : State) →
    named_values (n ∷ names) e s ≡ record { name = n.name; value = value_in (evaluated (var n.slot) e s) } ∷ named_values names (evaluated (var n.slot) e s).slots (evaluated (var n.slot) e s).state
unfolding named_values
named-more n names e s = refl

-- ---- the variables of the values

has-itself : (m n : ℕ) → Has (occurrences (var m)) n → m ≡ n
unfolding occurrences
has-itself m n (inl e) = e
has-itself m n (inr h) = absurd h

-- a slot is read before the values of which this is so already
slot-unbound : (o : Option Tree) (k : ℕ) (names : List NameSlot) (e : Places) (s : State) → IsAcyclic (bindings s) →
    ((f : Places) (r : State) → IsAcyclic (bindings r) → (n : ℕ) → Has (occurring (named_values names f r)) n → held (bindings r) n ≡ None) →
    (n : ℕ) → Has (occurrences (value_in (slot_term o k e s)) ++ occurring (named_values names (slot_term o k e s).slots (slot_term o k e s).state)) n → held (bindings s) n ≡ None
slot-unbound (Some t) k names e s acyclic rest n h =
    elim (Has-append_cases (occurrences (value (bindings s) t)) (occurring (named_values names e s)) n h) [
      | inl here ↦ value_has_none_bound (bindings s) t n acyclic (occurs_from_Has (value (bindings s) t) n here)
      | inr there ↦ rest e s acyclic n there
    ]
slot-unbound None k names e s acyclic rest n h =
    let y : Evaluated = slot_term None k e s in
    elim (Has-append_cases (occurrences (value_in y)) (occurring (named_values names y.slots y.state)) n h) [
      | inl here ↦
          let same : next s ≡ n = has-itself (next s) n (subst (λ t. Has (occurrences t) n) (value-new s acyclic) here) in
          held-past (bindings s) n (omega (arith, same, as_many s))
      | inr there ↦ held_is s n ∙ ap binding (sym (new-variable s n)) ∙ sym (held_is (with_new s) n) ∙ rest y.slots y.state (later-new s s (later-same-state s acyclic)).acyclic n there
    ]

-- no variable of the values is bound where the names are read
named-unbound : (names : List NameSlot) (e : Places) (s : State) → IsAcyclic (bindings s) → (n : ℕ) → Has (occurring (named_values names e s)) n → held (bindings s) n ≡ None
unfolding named_values
named-unbound [] e s acyclic n h = absurd h
named-unbound (x ∷ names) e s acyclic n h =
    slot-unbound (held e x.slot) x.slot names e s acyclic (named-unbound names) n
    (subst (λ (y : Evaluated). Has (occurrences (value_in y) ++ occurring (named_values names y.slots y.state)) n) (slot-is x.slot e s) h)

unbound-each : (s : State) (ns : List ℕ) → ((n : ℕ) → Has ns n → held (bindings s) n ≡ None) → AreUnbound s ns
unfolding AreUnbound
unbound-each s [] each = tt
unbound-each s (n ∷ ns) each = (each n (inl refl), unbound-each s ns (λ m h. each m (inr h)))

-- ---- the domains behind the names

same-domains : (s r : State) (ns : List ℕ) → IsLaterState s r → told_domains r ns ≡ told_domains s ns
unfolding told_domains
same-domains s r [] later = refl
same-domains s r (n ∷ ns) later = ap (λ v. told_domain n (domain_in v) ++ told_domains r ns) (later.variables n) ∙ ap (λ ds. told_domain n (domain_of s n) ++ ds) (same-domains s r ns later)

whole : (a : Answer) (values : List NamedTerm) (domains : List VarDomain) → a.values ≡ values → a.domains ≡ domains → a ≡ record { values = values; domains = domains }
whole a values domains is has = ap (λ v. record { values = v; domains = a.domains }) is ∙ ap (λ d. record { values = values; domains = d }) has

-- an answer with the values, and with the domains that their variables have behind the names, is told whole
pub told-whole : (names : List NameSlot) (x : Solution) (r : State) (a : Answer) → IsAcyclic (bindings x.state) → IsLaterState x.state r → a.values ≡ named_values names x.slots x.state →
    (IsAcyclic (bindings r) → AreUnbound r (occurring a.values) → a.domains ≡ told_domains r (answer_variables a.values)) → a ≡ answer_of names x
unfolding answer_of
told-whole names x r a acyclic later values domains =
    let s : State = x.state in
    let vs : List NamedTerm = named_values names x.slots s in
    let unbound : AreUnbound r (occurring vs) =
    unbound-each r (occurring vs) (λ n h. held_is r n ∙ ap binding (later.variables n) ∙ sym (held_is s n) ∙ named-unbound names x.slots s acyclic n h) in
    whole a vs (told_domains s (answer_variables vs)) values
    (domains later.acyclic (subst (λ q. AreUnbound r (occurring q)) (sym values) unbound) ∙ ap (λ q. told_domains r (answer_variables q)) values ∙ same-domains s r (answer_variables vs) later)
