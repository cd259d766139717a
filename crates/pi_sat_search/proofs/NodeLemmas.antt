-- The way down: what holds of a node where its domains are cut once more, and what two refuted lemmas lead to.
use Rattle.std.specs.Int.{int_gap}
use Rattle.std.specs.Prelude.{◌≡◌, ◌≢◌, ◌⊎◌, ℕ, ◌<◌, ◌≤◌, Bool, true, false, not, ◌||◌, nat_eq, IsTrue, Some, List, [], ◌∷◌, ◌++◌, length, get_or, slice_get, All, ℤ, pos, ◌≤ℤ◌, ◌<ℤ◌, ◌+ℤ◌, int_le, refl}
use Rattle.std.proofs.Common.{arith, sym, ◌∙◌, ap, subst, inl, inr}
use Rattle.std.proofs.lemmas.Bool.{cases_Bool, both_ways}
use Rattle.std.proofs.lemmas.Int.{ints}
use Rattle.std.proofs.lemmas.List.Elements.{All-nil, All-cons, All-head, All-tail}
use Rattle.std.proofs.lemmas.Option.{slice_get_within, slice_get-get_or}
use Rattle.pi_constraints.specs.declared.constraint.Constraint.{Constraint}
use Rattle.pi_constraints.specs.declared.domain.Span.{Span}
use Rattle.pi_constraints.specs.declared.var_domain.VarDomain.{VarDomain}
use Rattle.pi_constraints.specs.Domain.{IsDomain, has_value, IsLeastValue}
use Rattle.pi_constraints.proofs.DomainLemmas.{gap_is}
use Rattle.pi_prop_spec.specs.Ends.{least_of, greatest_of}
use Rattle.pi_prop_spec.proofs.EndLemmas.{least-has, greatest-has, least-below, ends_within, not_empty}
use Rattle.pi_sat_spec.specs.declared.entry.SatEntry.{SatEntry}
use Rattle.pi_sat_spec.specs.declared.literal.Literal.{Literal}
use Rattle.pi_sat_spec.specs.Literals.{Precedes, Ascends, allows, negated, left_by}
use Rattle.pi_sat_spec.specs.Domains.{domain_of, cut, refuted, has_empty, is_allowed, allowed, AreDomains, IsLemma}
use Rattle.pi_sat_spec.specs.Logs.{lemma_of, lemma_or_none, lemma_at, by_only, leads_on, IsRightEntry, AreRight}
use Rattle.pi_sat_spec.proofs.CutLemmas.{cut-domains, domain-good}
use Rattle.pi_sat_spec.proofs.LiteralLemmas.{left-domain}
use Rattle.pi_sat_search.specs.declared.picks.Pick.{Pick}
use Rattle.pi_sat_search.specs.Nodes.{IsOpen, NoneRefuted, Sorted, IsBehind, IsNode, IsPick, IsPut, IsNext, width, widths}
use Rattle.pi_sat_search.specs.Steps.{IsOnce, IsNew, AreSome}
use Rattle.pi_sat_search.proofs.SortedLemmas.{All-push, All-base, All-last, All-more, ascends-sorted, sorted-ascends, sorted-push, sorted-base, none-pass, All-pass, sorted-filter, one-at-most}
use Rattle.pi_sat_search.proofs.ShrinkLemmas.{cut-here, cut-has-parts, cut-keeps, is-allowed, value-of-allowed, none-allowed-cut, refuted-none, refuted-before, refuted-push, refuted-domains, cut-twice, cut-some, cut-once, same-or-other, left-parts, Has}

-- the two literals of a pick
abbrev pub low : ℕ → ℤ → Literal
low x v = record { var = x; bound = v; above = false }

abbrev pub high : ℕ → ℤ → Literal
high x v = record { var = x; bound = v; above = true }

le-self : (v : ℤ) → int_le v v ≡ true
le-self v = grind (arith, ints)

le-is : (m n : ℤ) → m ≤ℤ n → int_le m n ≡ true
le-is m n h = grind (arith, ints, h)

is-le : (m n : ℤ) → int_le m n ≡ true → m ≤ℤ n
is-le m n h = grind (arith, ints, h)

not-le : (m n : ℤ) → not (int_le m n) ≡ true → n <ℤ m
not-le m n h = grind (arith, ints, h)

le-not : (m n : ℤ) → n <ℤ m → not (int_le m n) ≡ true
le-not m n h = grind (arith, ints, h)

le-or-less : (m n : ℤ) → (m ≤ℤ n) ⊎ (n <ℤ m)
le-or-less m n = grind (arith, ints)

-- ---- open domains

pub some-open : (d : List Span) → IsOpen d → d ≢ []
unfolding greatest_of
some-open [] o e = omega (arith, ints, o)
some-open (s ∷ ss) o e = cc

pub open-within : (d e : List Span) → IsDomain d → IsDomain e → ((n : ℤ) → IsTrue (has_value e n) → IsTrue (has_value d n)) → IsOpen e → IsOpen d
open-within d e good is sub o = let w = ends_within d e good is (some-open e o) sub in let l = w.low in let h = w.high in omega (arith, ints, o, l, h)

pub open-before : (xs : List VarDomain) (l : Literal) (n : ℕ) → AreDomains xs → IsOpen (domain_of (cut xs l) n) → IsOpen (domain_of xs n)
open-before xs l n good o =
    open-within (domain_of xs n) (domain_of (cut xs l) n) (domain-good xs n good) (domain-good (cut xs l) n (cut-domains xs l good)) (λ v h. (cut-has-parts xs l n v good h).0) o

left-closed : (xs : List VarDomain) (x : ℕ) (v : ℤ) → AreDomains xs → IsLeastValue (domain_of xs x) v → IsOpen (domain_of (cut xs (low x v)) x) → ⊥
left-closed xs x v good least o =
    let e : List Span = domain_of (cut xs (low x v)) x in
    let is : IsDomain e = domain-good (cut xs (low x v)) x (cut-domains xs (low x v) good) in
    let g : IsTrue (has_value e (greatest_of e)) = greatest-has e is (some-open e o) in
    let b : IsTrue (has_value e (least_of e)) = least-has e is (some-open e o) in
    let gp = cut-has-parts xs (low x v) x (greatest_of e) good g in
    let bp = cut-has-parts xs (low x v) x (least_of e) good b in
    let up : greatest_of e ≤ℤ v = is-le (greatest_of e) v (gp.1 refl) in
    let down : v ≤ℤ least_of e = least.none_below (least_of e) bp.0 in
    omega (arith, ints, o, up, down)

-- the least value of an open domain is below the greatest
least-less : (d : List Span) (v : ℤ) → IsDomain d → IsOpen d → IsLeastValue d v → v <ℤ greatest_of d
least-less d v good o least = let down : v ≤ℤ least_of d = least.none_below (least_of d) (least-has d good (some-open d o)) in omega (arith, ints, o, down)

-- ---- the width falls

gap-zero : (a b : ℤ) → a ≡ b → int_gap a b ≡ 0
gap-zero a b e = let g : a +ℤ pos (int_gap a b) ≡ b = gap_is a b (omega (arith, ints, e)) in omega (arith, ints, g, e)

gap-less : (a b c d : ℤ) → a ≤ℤ c → c ≤ℤ d → d ≤ℤ b → (a <ℤ c) ⊎ (d <ℤ b) → int_gap c d < int_gap a b
gap-less a b c d low mid top strict =
    let g : a +ℤ pos (int_gap a b) ≡ b = gap_is a b (omega (arith, ints, low, mid, top)) in
    let h : c +ℤ pos (int_gap c d) ≡ d = gap_is c d mid in
    elim strict [ inl s ↦ omega (arith, ints, g, h, low, mid, top, s) | inr s ↦ omega (arith, ints, g, h, low, mid, top, s) ]

no-width : width [] ≡ 0
unfolding greatest_of
no-width = refl

narrower : (xs : List VarDomain) (l : Literal) → width (left_by l (domain_of xs l.var)) < width (domain_of xs l.var) → widths (cut xs l) < widths xs
unfolding cut domain_of widths
narrower [] l h = absurd (omega (arith, no-width, h))
narrower (x ∷ xs) l h = elim (cases_Bool (nat_eq x.var l.var)) [
  | inl e ↦ let less : width (left_by l x.domain) < width x.domain = rw e at h in rw e (omega (arith, less))
  | inr e ↦ let rest : width (left_by l (domain_of xs l.var)) < width (domain_of xs l.var) = rw e at h in let less = narrower xs l rest in rw e (omega (arith, less))
]

-- where one end at least is cut off
narrowed : (xs : List VarDomain) (l : Literal) (v : ℤ) → AreDomains xs → Has xs l.var v → IsTrue (allows l v) →
    (IsTrue (allows l (least_of (domain_of xs l.var))) → ⊥) ⊎ (IsTrue (allows l (greatest_of (domain_of xs l.var))) → ⊥) → widths (cut xs l) < widths xs
narrowed xs l v good has ok lost =
    let d : List Span = domain_of xs l.var in
    let e : List Span = left_by l d in
    let fine : IsDomain d = domain-good xs l.var good in
    let is : IsDomain e = left-domain l d fine in
    let here : IsTrue (has_value e v) = subst (λ (f : List Span). IsTrue (has_value f v)) (cut-here xs l) (cut-keeps xs l l.var v good has (λ f. ok)) in
    let some : e ≢ [] = not_empty e v here in
    let w = ends_within d e fine is some (λ n h. (left-parts l d n fine h).0) in
    let down = w.low in
    let mid = w.ordered in
    let up = w.high in
    let lok : IsTrue (allows l (least_of e)) = (left-parts l d (least_of e) fine (least-has e is some)).1 in
    let gok : IsTrue (allows l (greatest_of e)) = (left-parts l d (greatest_of e) fine (greatest-has e is some)).1 in
    narrower xs l (gap-less (least_of d) (greatest_of d) (least_of e) (greatest_of e) down mid up (elim lost [
      | inl none ↦ inl (strictly (least_of d) (least_of e) down (λ f. none (subst (λ (n : ℤ). IsTrue (allows l n)) (sym f) lok)))
      | inr none ↦ inr (strictly (greatest_of e) (greatest_of d) up (λ f. none (subst (λ (n : ℤ). IsTrue (allows l n)) f gok)))
    ]))
  where
    strictly : (a b : ℤ) → a ≤ℤ b → (a ≡ b → ⊥) → a <ℤ b
    strictly a b le other = grind (arith, ints, le, other)

pub left-narrower : (xs : List VarDomain) (x : ℕ) (v : ℤ) → AreDomains xs → IsOpen (domain_of xs x) → IsLeastValue (domain_of xs x) v → widths (cut xs (low x v)) < widths xs
left-narrower xs x v good o least =
    let less = least-less (domain_of xs x) v (domain-good xs x good) o least in
    narrowed xs (low x v) v good least.is_value (le-self v) (inr (λ t. let le = is-le (greatest_of (domain_of xs x)) v t in omega (arith, ints, le, less)))

pub right-narrower : (xs : List VarDomain) (x : ℕ) (v : ℤ) → AreDomains xs → IsOpen (domain_of xs x) → IsLeastValue (domain_of xs x) v → widths (cut xs (high x v)) < widths xs
right-narrower xs x v good o least =
    let d : List Span = domain_of xs x in
    let fine : IsDomain d = domain-good xs x good in
    let less = least-less d v fine o least in
    narrowed xs (high x v) (greatest_of d) good (greatest-has d fine (some-open d o)) (le-not (greatest_of d) v less)
    (inl (λ t. let more = not-le (least_of d) v t in let le = least-below d v fine least.is_value in omega (arith, ints, le, more)))

-- ---- nodes

pub root-node : (xs : List VarDomain) (log : List SatEntry) → AreDomains xs → IsOnce xs → has_empty xs ≡ false → NoneRefuted xs log → IsNode xs log xs []
unfolding refuted Sorted
root-node xs log good once some none = record {
  cut = refl;
  given = good;
  domains = good;
  once = once;
  some = some;
  unrefuted = none;
  sorted = tt;
  bounds = All-nil (λ l. IsTrue (has_value (domain_of xs l.var) l.bound));
  behind = All-nil (IsBehind xs);
}

-- the least value is one of those that were given
given-value : (xs : List VarDomain) (log : List SatEntry) (present : List VarDomain) (lemma : List Literal) (x : ℕ) (v : ℤ) → IsNode xs log present lemma → Has present x v → Has xs x v
given-value xs log present lemma x v n h = refuted-before xs lemma x v n.given (subst (λ (ys : List VarDomain). Has ys x v) n.cut h)

behind-cut : (present : List VarDomain) (l : Literal) (lemma : List Literal) → AreDomains present → All (IsBehind present) lemma → All (IsBehind (cut present l)) lemma
behind-cut present l lemma good h = All-more (IsBehind present) (IsBehind (cut present l)) lemma (λ m b n o. b n (open-before present l n good o)) h

pub left-node : (xs : List VarDomain) (log : List SatEntry) (present : List VarDomain) (lemma : List Literal) (p : Pick) → IsNode xs log present lemma → IsPick present p →
    NoneRefuted (cut present (low p.var p.least)) log → IsNode xs log (cut present (low p.var p.least)) (lemma ++ high p.var p.least ∷ [])
left-node xs log present lemma p n pick none =
    let x : ℕ = p.var in
    let v : ℤ = p.least in
    record {
      cut = ap (λ (ys : List VarDomain). cut ys (low x v)) n.cut ∙ sym (refuted-push xs lemma (high x v));
      given = n.given;
      domains = cut-domains present (low x v) n.domains;
      once = cut-once present (low x v) n.once;
      some = cut-some present (low x v) n.some (is-allowed present (low x v) v n.domains pick.least.is_value (le-self v));
      unrefuted = none;
      sorted = sorted-push lemma (high x v) n.sorted (All-more (IsBehind present) (λ m. Precedes m (high x v)) lemma (λ m b. stands m x v (b x pick.is_open)) n.behind);
      bounds = All-push (λ l. IsTrue (has_value (domain_of xs l.var) l.bound)) lemma (high x v) n.bounds (given-value xs log present lemma x v n pick.least.is_value);
      behind = All-push (IsBehind (cut present (low x v))) lemma (high x v) (behind-cut present (low x v) lemma n.domains n.behind)
          (λ m o. inl (later x m (pick.first m (open-before present (low x v) m n.domains o))
          (λ e. left-closed present x v n.domains pick.least (subst (λ (k : ℕ). IsOpen (domain_of (cut present (low x v)) k)) (sym e) o))));
    }
  where
    stands : (m : Literal) (y : ℕ) (b : ℤ) → (m.var < y) ⊎ ((m.var ≡ y) × (m.above ≡ false)) → Precedes m (high y b)
    stands m y b (inl l) = inl l
    stands m y b (inr s) = inr (s.0, s.1, refl)

    later : (y m : ℕ) → y ≤ m → (y ≡ m → ⊥) → y < m
    later y m le other = grind (arith, le, other)

-- the right one, by the literals before that of its variable
right-from : (xs : List VarDomain) (log : List SatEntry) (present : List VarDomain) (lemma base : List Literal) (p : Pick) → IsNode xs log present lemma → IsPick present p →
    NoneRefuted (cut present (high p.var p.least)) log → cut present (high p.var p.least) ≡ refuted xs (base ++ low p.var p.least ∷ []) → Sorted base → All (λ m. m.var < p.var) base →
    All (λ l. IsTrue (has_value (domain_of xs l.var) l.bound)) base → All (IsBehind present) base → IsNode xs log (cut present (high p.var p.least)) (base ++ low p.var p.least ∷ [])
right-from xs log present lemma base p n pick none is sorted before bounds behind =
    let x : ℕ = p.var in
    let v : ℤ = p.least in
    let d : List Span = domain_of present x in
    let fine : IsDomain d = domain-good present x n.domains in
    record {
      cut = is;
      given = n.given;
      domains = cut-domains present (high x v) n.domains;
      once = cut-once present (high x v) n.once;
      some = cut-some present (high x v) n.some
          (is-allowed present (high x v) (greatest_of d) n.domains (greatest-has d fine (some-open d pick.is_open)) (le-not (greatest_of d) v (least-less d v fine pick.is_open pick.least)));
      unrefuted = none;
      sorted = sorted-push base (low x v) sorted (All-more (λ m. m.var < x) (λ m. Precedes m (low x v)) base (λ m l. inl l) before);
      bounds = All-push (λ l. IsTrue (has_value (domain_of xs l.var) l.bound)) base (low x v) bounds (given-value xs log present lemma x v n pick.least.is_value);
      behind = All-push (IsBehind (cut present (high x v))) base (low x v) (behind-cut present (high x v) base n.domains behind)
          (λ m o. later x m (pick.first m (open-before present (high x v) m n.domains o)));
    }
  where
    less-or-same : (y m : ℕ) → y ≤ m → (y < m) ⊎ (y ≡ m)
    less-or-same y m le = grind (arith, le)

    later : (y m : ℕ) → y ≤ m → (y < m) ⊎ ((y ≡ m) × (false ≡ false))
    later y m le = elim (less-or-same y m le) [ inl l ↦ inl l | inr e ↦ inr (e, refl) ]

abbrev BeforeOr : ℕ → Literal → Type 0
BeforeOr x m = (m.var < x) ⊎ ((m.var ≡ x) × (m.above ≡ false))

all-before : (x : ℕ) (ls : List Literal) → Sorted ls → All (BeforeOr x) ls → ((base : List Literal) (m : Literal) → ls ≡ base ++ m ∷ [] → m.var ≢ x) → All (λ m. m.var < x) ls
unfolding Sorted
all-before x [] s h last = All-nil (λ m. m.var < x)
all-before x (m ∷ []) s h last = All-cons (λ n. n.var < x) m [] (elim (All-head (BeforeOr x) m [] h) [ inl l ↦ l | inr e ↦ absurd (last [] m refl e.0) ]) (All-nil (λ n. n.var < x))
all-before x (m ∷ n ∷ ls) s h last =
    let rest : All (λ k. k.var < x) (n ∷ ls) = all-before x (n ∷ ls) s.1 (All-tail (BeforeOr x) m (n ∷ ls) h) (λ base k e. last (m ∷ base) k (ap (λ (ks : List Literal). m ∷ ks) e)) in
    let second : n.var < x = All-head (λ k. k.var < x) n ls rest in
    All-cons (λ k. k.var < x) m (n ∷ ls) (elim (All-head (Precedes m) n ls s.0) [ inl l ↦ omega (arith, l, second) | inr e ↦ (let f = e.0 in omega (arith, f, second)) ]) rest

base-before : (x : ℕ) (base : List Literal) (m : Literal) → m.var ≡ x → m.above ≡ false → All (λ k. Precedes k m) base → All (λ k. k.var < x) base
base-before x base m e above h = All-more (λ k. Precedes k m) (λ k. k.var < x) base (λ k p. elim p [ inl l ↦ omega (arith, l, e) | inr s ↦ absurd (let f : false ≡ true = sym above ∙ s.2 in cc) ]) h

pub right-node : (xs : List VarDomain) (log : List SatEntry) (present : List VarDomain) (old new : List Literal) (p : Pick) → IsNode xs log present old → IsPick present p →
    IsPut old (low p.var p.least) new → NoneRefuted (cut present (high p.var p.least)) log → IsNode xs log (cut present (high p.var p.least)) new
right-node xs log present old new p n pick (inl put) none =
    subst (IsNode xs log (cut present (high p.var p.least))) (sym put.0)
    (right-from xs log present old old p n pick none (ap (λ (ys : List VarDomain). cut ys (high p.var p.least)) n.cut ∙ sym (refuted-push xs old (low p.var p.least))) n.sorted
    (all-before p.var old n.sorted (All-more (IsBehind present) (BeforeOr p.var) old (λ m b. b p.var pick.is_open) n.behind) put.1) n.bounds n.behind)
right-node xs log present old new p n pick (inr (base, (m, is, same, made))) none =
    let x : ℕ = p.var in
    let v : ℤ = p.least in
    let parts = sorted-base base m (subst Sorted is n.sorted) in
    let behind : All (IsBehind present) (base ++ m ∷ []) = subst (All (IsBehind present)) is n.behind in
    let above : m.above ≡ false = elim (All-last (IsBehind present) base m behind x pick.is_open) [ inl l ↦ absurd (omega (arith, l, same)) | inr s ↦ s.1 ] in
    let z : List VarDomain = refuted xs base in
    let good : AreDomains z = refuted-domains xs base n.given in
    let turned : negated m ≡ high x m.bound = turn m x same above in
    let was : present ≡ cut z (high x m.bound) = n.cut ∙ (ap (refuted xs) is ∙ (refuted-push xs base m ∙ ap (cut z) turned)) in
    let has : Has (cut z (high x m.bound)) x v = subst (λ (ys : List VarDomain). Has ys x v) was pick.least.is_value in
    let more : m.bound <ℤ v = not-le v m.bound ((cut-has-parts z (high x m.bound) x v good has).1 refl) in
    let now : cut present (high x v) ≡ refuted xs (base ++ low x v ∷ []) =
    ap (λ (ys : List VarDomain). cut ys (high x v)) was ∙ (cut-twice x m.bound v z good (omega (arith, ints, more)) ∙ sym (refuted-push xs base (low x v))) in
    subst (IsNode xs log (cut present (high x v))) (sym made)
    (right-from xs log present old base p n pick none now parts.0 (base-before x base m same above parts.1)
    (All-base (λ l. IsTrue (has_value (domain_of xs l.var) l.bound)) base m (subst (All (λ l. IsTrue (has_value (domain_of xs l.var) l.bound))) is n.bounds)) (All-base (IsBehind present) base m behind))
  where
    turn : (l : Literal) (y : ℕ) → l.var ≡ y → l.above ≡ false → negated l ≡ high y l.bound
    turn l y e a = cc

-- ---- new lemmas

at-entry : (log : List SatEntry) (j : ℕ) (e : SatEntry) → slice_get log j ≡ Some e → lemma_at log j ≡ lemma_of e
at-entry log j e is = ap lemma_or_none is

pub new-lemma : (xs : List VarDomain) (log : List SatEntry) (present : List VarDomain) (lemma : List Literal) → IsNode xs log present lemma → IsNew log lemma
new-lemma xs log present lemma n = λ j e is same.
    n.unrefuted j (slice_get_within log j e is)
    (ap (allowed present) (at-entry log j e is ∙ same) ∙ (ap (λ (ys : List VarDomain). allowed ys lemma) n.cut ∙ refuted-none xs lemma n.given))

pub node-lemma : (xs : List VarDomain) (log : List SatEntry) (present : List VarDomain) (lemma : List Literal) → IsNode xs log present lemma → IsLemma xs lemma
node-lemma xs log present lemma n = record { ascends = sorted-ascends lemma n.sorted; bounds = n.bounds }

no-lemma : (xs : List VarDomain) → IsLemma xs []
no-lemma xs = record { ascends = λ k other l. absurd (omega (arith, l)); bounds = All-nil (λ l. IsTrue (has_value (domain_of xs l.var) l.bound)) }

new-end : (log : List SatEntry) → AreSome log → IsNew log []
new-end log some = λ k e is same. some k e is same

pub empty-next : (xs : List VarDomain) (cs : List Constraint) (log : List SatEntry) → AreSome log → has_empty xs ≡ true → IsNext xs cs log (SatEntry.Learned [] [])
unfolding refuted
empty-next xs cs log some e = ((no-lemma xs, All-nil (λ h. h < length log), rw e refl), new-end log some)

led-by : (log : List SatEntry) (xs : List VarDomain) (h : ℕ) → allowed xs (lemma_at log h) ≡ [] → leads_on log xs (h ∷ []) ≡ true
unfolding leads_on
led-by log xs h e = ap (λ (ls : List Literal). by_only ls (λ l. leads_on log (cut xs l) [])) e

or-true : (b c : Bool) → c ≡ true → (b || c) ≡ true
or-true true c e = refl
or-true false c e = e

pub root-next : (xs : List VarDomain) (cs : List Constraint) (log : List SatEntry) (h : ℕ) → AreSome log → h < length log → allowed xs (lemma_at log h) ≡ [] → IsNext xs cs log (SatEntry.Learned [] (h ∷ []))
unfolding refuted
root-next xs cs log h some inside e =
    ((no-lemma xs, All-cons (λ k. k < length log) h [] inside (All-nil (λ k. k < length log)), or-true (has_empty xs) (leads_on log xs (h ∷ [])) (led-by log xs h e)), new-end log some)

-- a literal that the node allows and its left side doesn't
abbrev IsTurned : ℕ → ℤ → Literal → Type 0
IsTurned x v m = (m.var ≡ x) × (m.above ≡ true) × (v ≤ℤ m.bound)

turned-by : (present : List VarDomain) (x : ℕ) (v : ℤ) (m : Literal) → AreDomains present → IsLeastValue (domain_of present x) v → is_allowed (cut present (low x v)) m ≡ false → is_allowed present m ≡ true →
    IsTurned x v m
turned-by present x v m good least lost here =
    let left : List VarDomain = cut present (low x v) in
    let fine : AreDomains left = cut-domains present (low x v) good in
    let n = value-of-allowed present m good here in
    elim (same-or-other m.var x) [
      | inr other ↦ absurd (both_ways (is_allowed left m) lost (is-allowed left m n.0 fine (cut-keeps present (low x v) m.var n.0 good n.1 (λ e. absurd (other e))) n.2))
      | inl e ↦
          let has : Has present m.var v = subst (λ (k : ℕ). Has present k v) (sym e) least.is_value in
          let stays : Has left m.var v = cut-keeps present (low x v) m.var v good has (λ f. le-self v) in
          let bottom : v ≤ℤ n.0 = least.none_below n.0 (subst (λ (k : ℕ). Has present k n.0) e n.1) in
          let none : IsTrue (allows m v) → ⊥ = λ ok. both_ways (is_allowed left m) lost (is-allowed left m v fine stays ok) in
          elim (cases_Bool m.above) [
            | inr f ↦
                let under : n.0 ≤ℤ m.bound = is-le n.0 m.bound (sym (allows-low m n.0 f) ∙ n.2) in
                absurd (none (allows-low m v f ∙ le-is v m.bound (omega (arith, ints, under, bottom))))
            | inl t ↦ elim (le-or-less v m.bound) [
              | inl le ↦ (e, t, le)
              | inr less ↦ absurd (none (allows-high m v t ∙ le-not v m.bound less))
            ]
          ]
    ]
  where
    allows-low : (l : Literal) (k : ℤ) → l.above ≡ false → allows l k ≡ int_le k l.bound
    allows-low l k f = rw f refl

    allows-high : (l : Literal) (k : ℤ) → l.above ≡ true → allows l k ≡ not (int_le k l.bound)
    allows-high l k f = rw f refl

turned-cut : (present : List VarDomain) (x : ℕ) (v : ℤ) (l : Literal) (lemma : List Literal) → AreDomains present → IsTurned x v l → allowed (cut present (high x v)) lemma ≡ [] → allowed (cut present l) lemma ≡ []
turned-cut present x v l lemma good t none =
    let is : l ≡ high x l.bound = same l x t.0 t.1 in
    ap (λ (m : Literal). allowed (cut present m) lemma) is
    ∙ (ap (λ (ys : List VarDomain). allowed ys lemma) (sym (cut-twice x v l.bound present good t.2))
    ∙ none-allowed-cut (cut present (high x v)) (high x l.bound) lemma (cut-domains present (high x v) good) none)
  where
    same : (m : Literal) (y : ℕ) → m.var ≡ y → m.above ≡ true → m ≡ high y m.bound
    same m y e a = ap (λ (n : ℕ). record { var = n; bound = m.bound; above = m.above }) e ∙ ap (λ (t : Bool). record { var = y; bound = m.bound; above = t }) a

-- both sides refuted: the first lemma has one literal left at most, and the second none where that cuts
pub led-by-two : (log : List SatEntry) (present : List VarDomain) (x : ℕ) (v : ℤ) (h k : ℕ) → AreDomains present → IsLeastValue (domain_of present x) v → Ascends (lemma_at log h) →
    allowed (cut present (low x v)) (lemma_at log h) ≡ [] → allowed (cut present (high x v)) (lemma_at log k) ≡ [] → leads_on log present (h ∷ k ∷ []) ≡ true
unfolding leads_on
led-by-two log present x v h k good least up first second =
    let ls : List Literal = allowed present (lemma_at log h) in
    let turned : All (IsTurned x v) ls =
    All-pass (is_allowed present) (IsTurned x v) (lemma_at log h)
    (All-more (λ m. is_allowed (cut present (low x v)) m ≡ false) (λ m. is_allowed present m ≡ true → IsTurned x v m) (lemma_at log h) (λ m lost here. turned-by present x v m good least lost here)
    (none-pass (is_allowed (cut present (low x v))) (lemma_at log h) first)) in
    by-cases ls (λ l. leads_on log (cut present l) (k ∷ [])) turned (sorted-filter (is_allowed present) (lemma_at log h) (ascends-sorted (lemma_at log h) up))
    (λ l t. led-by log (cut present l) k (turned-cut present x v l (lemma_at log k) good t second))
  where
    by-cases : (ms : List Literal) (goes_on : Literal → Bool) → All (IsTurned x v) ms → Sorted ms → ((l : Literal) → IsTurned x v l → goes_on l ≡ true) → by_only ms goes_on ≡ true
    by-cases [] goes_on t s f = refl
    by-cases (l ∷ []) goes_on t s f = f l (All-head (IsTurned x v) l [] t)
    by-cases (l ∷ m ∷ ms) goes_on t s f =
        let a = All-head (IsTurned x v) l (m ∷ ms) t in
        let b = All-head (IsTurned x v) m ms (All-tail (IsTurned x v) l (m ∷ ms) t) in
        absurd (one-at-most x l m ms s a.0 b.0 a.1)

pub ascending : (xs : List VarDomain) (cs : List Constraint) (log : List SatEntry) (h : ℕ) (other : SatEntry) → AreRight xs cs log → h < length log → Ascends (lemma_at log h)
ascending xs cs log h other right inside =
    let is = slice_get-get_or log h other inside in
    subst Ascends (sym (at-entry log h (get_or log h other) is)) (entry-ascends xs cs _ (get_or log h other) (right h (get_or log h other) is))
  where
    entry-ascends : (ys : List VarDomain) (bs : List Constraint) (earlier : List SatEntry) (e : SatEntry) → IsRightEntry ys bs earlier e → Ascends (lemma_of e)
    entry-ascends ys bs earlier (SatEntry.FromConstraint lemma constraint) r = r.0.ascends
    entry-ascends ys bs earlier (SatEntry.Learned lemma hints) r = r.0.ascends

pub two-next : (xs : List VarDomain) (cs : List Constraint) (log : List SatEntry) (present : List VarDomain) (lemma : List Literal) (p : Pick) (h k : ℕ) → IsNode xs log present lemma →
    IsPick present p → AreRight xs cs log → h < length log → allowed (cut present (low p.var p.least)) (lemma_at log h) ≡ [] → k < length log → allowed (cut present (high p.var p.least)) (lemma_at log k) ≡ [] →
    IsNext xs cs log (SatEntry.Learned lemma (h ∷ k ∷ []))
two-next xs cs log present lemma p h k n pick right inside first there second = (
  (
    node-lemma xs log present lemma n,
    All-cons (λ j. j < length log) h (k ∷ []) inside (All-cons (λ j. j < length log) k [] there (All-nil (λ j. j < length log))),
    or-true (has_empty (refuted xs lemma)) (leads_on log (refuted xs lemma) (h ∷ k ∷ []))
        (subst (λ (ys : List VarDomain). leads_on log ys (h ∷ k ∷ []) ≡ true) n.cut
        (led-by-two log present p.var p.least h k n.domains pick.least (ascending xs cs log h (SatEntry.Learned [] []) right inside) first second)),
  ),
  new-lemma xs log present lemma n,
)

-- ---- one step down

pub went-left : (xs : List VarDomain) (log : List SatEntry) (present left : List VarDomain) (lemma new : List Literal) (p : Pick) → IsNode xs log present lemma → IsPick present p →
    left ≡ cut present (low p.var p.least) → NoneRefuted left log → new ≡ lemma ++ high p.var p.least ∷ [] → IsNode xs log left new × (widths left < widths present)
went-left xs log present left lemma new p n pick is none made = (
  subst (λ (ys : List VarDomain). IsNode xs log ys new) (sym is)
      (subst (IsNode xs log (cut present (low p.var p.least))) (sym made) (left-node xs log present lemma p n pick (subst (λ (ys : List VarDomain). NoneRefuted ys log) is none))),
  subst (λ (ys : List VarDomain). widths ys < widths present) (sym is) (left-narrower present p.var p.least n.domains pick.is_open pick.least),
)

pub went-right : (xs : List VarDomain) (log : List SatEntry) (present right : List VarDomain) (old new : List Literal) (p : Pick) → IsNode xs log present old → IsPick present p →
    right ≡ cut present (high p.var p.least) → NoneRefuted right log → IsPut old (low p.var p.least) new → IsNode xs log right new × (widths right < widths present)
went-right xs log present right old new p n pick is none put = (
  subst (λ (ys : List VarDomain). IsNode xs log ys new) (sym is) (right-node xs log present old new p n pick put (subst (λ (ys : List VarDomain). NoneRefuted ys log) is none)),
  subst (λ (ys : List VarDomain). widths ys < widths present) (sym is) (right-narrower present p.var p.least n.domains pick.is_open pick.least),
)
