-- What a planner asks for, is given and answers.
use Rattle.std.proofs.Common.{◌≡◌, ℕ, ◌-◌, ◌<◌, ◌≤◌, Bool, true, false, cond, List, [], ◌∷◌, ◌++◌, Option, Some, None, refl, ap, sym, ◌∙◌, subst, inl, inr, arith, ℤ, pos}
use Rattle.std.specs.Prelude.{Contains, unsigned_abs, negsuc, ◌^◌}
use Rattle.std.proofs.lemmas.List.Elements.{Contains-push, Contains-push_cases}
use mir.Val.{SFits}
use mir.Syntax.{w128}
use Rattle.pi_terms.specs.Tree.{Tree, var, int, atom, comp}
use Rattle.pi_terms.specs.Variables.{variables, IsGround}
use Rattle.pi_plan.specs.declared.given.Successor.{Successor}
use Rattle.pi_plan.specs.declared.given.GivenState.{GivenState}
use Rattle.pi_plan.specs.Plan.{Valid, Reached, at_start, AllBelow, Wanted, FoundAs}
use Rattle.pi_plan.specs.Given.{StandsFor, IsFaultless, GivenFinal, over}
use Rattle.pi_plan.proofs.PlanLemmas.{valid_at, reached_below, none_where_none_final}
use Rattle.pi_plan.proofs.GivenLemmas.{over_is_free, IsNew, exhausted_stays}
use Rattle.pi_plan.specs.declared.checks.PlanFault.{PlanFault}
use Rattle.pi_plan.specs.declared.search.Search.{Search}
use Rattle.pi_plan.specs.declared.planner.PlanStep.{PlanStep}
use Rattle.pi_plan.specs.Place.{place_of}
use Rattle.pi_plan.specs.Faults.{is_none_left, first_of_two, ground_fault, cost_fault, successor_fault, first_fault}
use Rattle.pi_plan.specs.Searching.{weight, asked_of, place_asked, rest_of, NoneFinal}
use Rattle.pi_plan.specs.Planner.{number_of, ReachedFirst, MayAsk, Says, IsAsking, IsAnswered, IsPlan}
use Rattle.pi_plan.proofs.PlaceLemmas.{first_or_later, nothing_contained}
use Rattle.pi_plan.proofs.ExhaustedLemmas.{none_is_final, place_same}
use Rattle.pi_plan.proofs.WayLemmas.{ways_given, reached_way}
use Rattle.pi_plan.proofs.AdvanceLemmas.{contains_map}

-- ---- faults

first_none : (o p : Option PlanFault) → first_of_two o p ≡ None → (o ≡ None) × (p ≡ None)
first_none None p e = (refl, e)
first_none (Some f) p e = absurd (cc)

no_variables : (xs : List ℕ) (f : PlanFault) → cond (is_none_left xs) None (Some f) ≡ None → xs ≡ []
no_variables [] f e = refl
no_variables (x ∷ xs) f e = absurd (cc)

ground_of : (t : Tree) → ground_fault t ≡ None → IsGround t
ground_of t e = no_variables (variables t) (PlanFault.NotGround t) e

cost_of : (t : Tree) → cost_fault t ≡ None → (c : ℕ) × (t ≡ int (pos c))
cost_of (int (pos n)) e = (n, refl)
cost_of (int (negsuc n)) e = absurd (cc)
cost_of (var n) e = absurd (cc)
cost_of (atom name) e = absurd (cc)
cost_of (comp name ts) e = absurd (cc)

faultless_one : (n : Successor) → successor_fault n ≡ None → (c : ℕ) × IsFaultless n c
faultless_one n e =
    let one : (ground_fault n.state ≡ None) × (first_of_two (ground_fault n.action) (cost_fault n.cost) ≡ None) = first_none (ground_fault n.state) (first_of_two (ground_fault n.action) (cost_fault n.cost)) e in
    let two : (ground_fault n.action ≡ None) × (cost_fault n.cost ≡ None) = first_none (ground_fault n.action) (cost_fault n.cost) one.1 in
    let cost : (c : ℕ) × (n.cost ≡ int (pos c)) = cost_of n.cost two.1 in
    (cost.0, record { state = ground_of n.state one.0; action = ground_of n.action two.0; cost = cost.1 })

pub faultless_all : (ns : List Successor) → first_fault ns ≡ None → (n : Successor) → Contains ns n → (c : ℕ) × IsFaultless n c
faultless_all [] e n among = absurd (nothing_contained n among)
faultless_all (m ∷ ns) e n among =
    let both : (successor_fault m ≡ None) × (first_fault ns ≡ None) = first_none (successor_fault m) (first_fault ns) e in
    elim (first_or_later m ns n among) [
      | inl same ↦ faultless_one n (ap successor_fault (sym same) ∙ both.0)
      | inr rest ↦ faultless_all ns both.1 n rest
    ]

-- ---- a state is asked for

may_first : (given : List GivenState) (by_rest : Bool) (start : Tree) (whole : ℕ) (s : Tree) (r : ℕ) → r ≤ whole → Reached (over given by_rest) start whole s r →
    AllBelow (over given by_rest) start (number_of by_rest whole (weight by_rest whole r)) → ReachedFirst (over given by_rest) by_rest start whole s r
may_first given true start whole s r within reached least = record {
  number = whole;
  within = omega arith;
  there = r;
  by_rests = λ e. (refl, refl);
  reached = reached;
  least = least;
}
may_first given false start whole s r within reached least = record {
  number = whole - r;
  within = omega arith;
  there = r - r;
  by_rests = λ e. absurd (cc);
  reached = reached_below (over given false) (over_is_free given) start whole r s r (omega arith) reached;
  least = least;
}

entry_place : (by_rest : Bool) (e : GivenState) (s : Tree) (r : ℕ) → StandsFor by_rest e s r → place_asked by_rest (asked_of e) ≡ place_of by_rest s r
entry_place by_rest e s r h = place_same by_rest e.state s (rest_of e) r h.state (λ b. ap unsigned_abs (h.rest b))

-- where nothing that was given is final, no plan may be answered
none_from : (given : List GivenState) (by_rest : Bool) (start : Tree) (m : ℕ) → NoneFinal given → (plan : List Tree) (cost : ℕ) → Valid (over given by_rest) start m plan cost → ⊥
none_from given by_rest start m none plan cost v =
    none_where_none_final (over given by_rest) start m (λ s r reached f. none_is_final given none f.entry f.among f.is_final) start m plan cost at_start v

none_found : (given : List GivenState) (by_rest best : Bool) (start : Tree) (limit : ℕ) → NoneFinal given → (plan : List Tree) (cost : ℕ) → FoundAs best (over given by_rest) start limit plan cost → ⊥
none_found given by_rest false start limit none plan cost v = none_from given by_rest start limit none plan cost v
none_found given by_rest true start limit none plan cost f = none_from given by_rest start f.0 none plan cost f.1.valid

pub may_ask : (w : Wanted) (given : List GivenState) (s : Search) (i : ℕ) → (h : IsAsking w given s i) → MayAsk given s.by_rest w h.way.place.state h.way.rest
may_ask w given s i h =
    let reached : Reached (over given s.by_rest) w.start s.whole h.way.place.state h.way.rest =
    reached_way (over given s.by_rest) w.start s.whole s.ways.items h.under.ways (λ t r f. none_is_final given h.none_final f.entry f.among f.is_final) i h.way h.at in
    record {
      whole = s.whole;
      within = h.under.within;
      reached = reached;
      of_any = h.under.any_plan;
      of_best = λ best. may_first given s.by_rest w.start s.whole h.way.place.state h.way.rest h.within reached (h.least best);
      open_yet = λ g. h.fresh (asked_of g.entry) (contains_map asked_of given g.entry g.among) (entry_place s.by_rest g.entry h.way.place.state h.way.rest g.stands ∙ sym h.place);
      none_found = none_found given s.by_rest w.best w.start w.limit h.none_final;
    }

-- ---- what was asked for is given

pub answered_of : (w : Wanted) (given : List GivenState) (s : Search) (i : ℕ) (e : GivenState) → (h : IsAsking w given s i) → e.state ≡ h.way.place.state → e.rest ≡ pos h.way.rest → first_fault e.successors ≡ None →
    IsAnswered w (given ++ e ∷ []) s i
answered_of w given s i e h state rest fit =
    let left : rest_of e ≡ h.way.rest = ap unsigned_abs rest in
    let here : place_asked s.by_rest (asked_of e) ≡ h.way.place = place_same s.by_rest e.state h.way.place.state (rest_of e) h.way.rest state (λ b. left) ∙ sym h.place in
    let new : IsNew given e s.by_rest = record {
      apart = λ t r g stands. h.fresh (asked_of g.entry) (contains_map asked_of given g.entry g.among)
          (entry_place s.by_rest g.entry t r g.stands ∙ (sym (entry_place s.by_rest e t r stands) ∙ here));
    } in
    record {
      before = given;
      entry = e;
      last = refl;
      under = record {
        bounded = h.under.bounded;
        within = h.under.within;
        by_cost = h.under.by_cost;
        any_plan = h.under.any_plan;
        root = h.under.root;
        ways = ways_given given e s.by_rest w.start s.whole s.ways.items h.under.ways;
        are_given = record {
          rests = λ f among. elim (Contains-push_cases given e f among) [
            | inl old ↦ h.under.are_given.rests f old
            | inr same ↦ subst (λ (x : GivenState). x.rest ≡ pos (rest_of x)) same (rest ∙ ap (λ (k : ℕ). pos k) (sym left))
          ];
          faultless = λ f among. elim (Contains-push_cases given e f among) [
            | inl old ↦ h.under.are_given.faultless f old
            | inr same ↦ subst (λ (x : GivenState). (n : Successor) → Contains x.successors n → (c : ℕ) × IsFaultless n c) same (faultless_all e.successors fit)
          ];
        };
      };
      none_final = h.none_final;
      way = h.way;
      at = h.at;
      within = h.within;
      state = state;
      rest = rest;
      search = h.search;
      least = λ best n less. exhausted_stays given e s.by_rest new w.start n (h.least best n less);
    }

-- ---- a plan is found

found_as : (best by_rest : Bool) (given : List GivenState) (start : Tree) (limit whole r : ℕ) (actions : List Tree) → r ≤ whole → whole ≤ limit → (best ≡ false → whole ≡ limit) → Valid (over given by_rest) start whole actions (whole - r) →
    (best ≡ true → AllBelow (over given by_rest) start (number_of by_rest whole (weight by_rest whole r))) → FoundAs best (over given by_rest) start limit actions (whole - r)
found_as false by_rest given start limit whole r actions within bound all v least = subst (λ (n : ℕ). Valid (over given by_rest) start n actions (whole - r)) (all refl) v
found_as true true given start limit whole r actions within bound all v least = (whole, record { within = bound; valid = v; least = least refl })
found_as true false given start limit whole r actions within bound all v least = (
  whole - r,
  record {
    within = omega arith;
    valid = valid_at (over given false) (over_is_free given) start whole (whole - r) actions (whole - r) v (omega arith);
    least = least refl;
  },
)

pub final_way : (w : Wanted) (given : List GivenState) (s : Search) (i : ℕ) → (h : IsAnswered w given s i) → h.entry.is_final ≡ true → GivenFinal given s.by_rest h.way.place.state h.way.rest
final_way w given s i h is_final = record {
  entry = h.entry;
  among = subst (λ (es : List GivenState). Contains es h.entry) (sym h.last) (Contains-push h.before h.entry);
  stands = record { state = h.state; rest = λ b. h.rest };
  is_final = is_final;
}

pub found_of : (w : Wanted) (given : List GivenState) (s : Search) (i : ℕ) (plan : Tree) (cost : ℤ) → (h : IsAnswered w given s i) → IsPlan given s.by_rest w.start s.whole (s.whole - h.way.rest) plan → cost ≡ pos (s.whole - h.way.rest) →
    Says given s.by_rest w (PlanStep.Found plan cost)
found_of w given s i plan cost h p costs = (
  p.actions,
  (s.whole - h.way.rest),
  p.term,
  costs,
  found_as w.best s.by_rest given w.start w.limit s.whole h.way.rest p.actions h.within h.under.within h.under.any_plan p.valid h.least,
)

-- ---- limits

pub limit_bound : (start : Tree) (limit : ℤ) (n : ℕ) → SFits w128 limit → first_of_two (ground_fault start) (cost_fault (int limit)) ≡ None → n ≡ unsigned_abs limit → n < 2 ^ 127
limit_bound start limit n fits fit e =
    let both : (ground_fault start ≡ None) × (cost_fault (int limit) ≡ None) = first_none (ground_fault start) (cost_fault (int limit)) fit in
    limit_below limit n fits both.1 e
  where
    limit_below : (limit : ℤ) (n : ℕ) → SFits w128 limit → cost_fault (int limit) ≡ None → n ≡ unsigned_abs limit → n < 2 ^ 127
    limit_below (pos m) n f fit e = let bound = f.sfits in omega arith
    limit_below (negsuc m) n f fit e = absurd (cc)
