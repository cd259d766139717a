-- Which numbers a search has exhausted: those below all that is due.
use Rattle.std.proofs.Common.{◌≡◌, ℕ, ◌-◌, ◌+◌, ◌<◌, ◌≤◌, Bool, true, false, cond, List, Option, Some, None, refl, ap, sym, ◌∙◌, arith, pos}
use Rattle.std.specs.Prelude.{Contains}
use Rattle.pi_terms.specs.Tree.{Tree}
use Rattle.pi_plan.specs.declared.given.GivenState.{GivenState}
use Rattle.pi_plan.specs.Plan.{Step, Reached, at_start, then_step, Exhausted}
use Rattle.pi_plan.specs.Given.{StandsFor, GivenStep, GivenDone, over}
use Rattle.pi_plan.proofs.PlanLemmas.{none_where_none_final}
use Rattle.pi_plan.specs.declared.place.Place.{Place}
use Rattle.pi_plan.specs.declared.due.Due.{Due}
use Rattle.pi_plan.specs.declared.search.Way.{Way}
use Rattle.pi_plan.specs.declared.search.Standing.{Standing}
use Rattle.pi_plan.specs.Place.{place_of}
use Rattle.pi_plan.specs.Searching.{weight, Asked, asked_of, rest_of, place_asked, Covers, DueWithin, AskedAt, IsSearch, AreGiven, NoneFinal}
use Rattle.pi_plan.proofs.SearchLemmas.{standing, same_costs}

-- ---- weights and places, by rests and not

least_left : (by_rest : Bool) (whole a b : ℕ) → by_rest ≡ false → weight by_rest whole a ≤ weight by_rest whole b → a ≤ whole → b ≤ whole → b ≤ a
least_left false whole a b e h p q = omega arith
least_left true whole a b e h p q = absurd (cc)

same_left : (by_rest : Bool) (whole a b : ℕ) → by_rest ≡ false → weight by_rest whole a ≡ weight by_rest whole b → a ≤ whole → b ≤ whole → a ≡ b
same_left false whole a b e h p q = omega arith
same_left true whole a b e h p q = absurd (cc)

place_rest : (by_rest : Bool) (a b : ℕ) → by_rest ≡ true → cond by_rest a 0 ≡ cond by_rest b 0 → a ≡ b
place_rest true a b e h = h
place_rest false a b e h = absurd (cc)

pub place_same : (by_rest : Bool) (s t : Tree) (a b : ℕ) → s ≡ t → (by_rest ≡ true → a ≡ b) → place_of by_rest s a ≡ place_of by_rest t b
place_same true s t a b e h = let f : a ≡ b = h refl in cc
place_same false s t a b e h = cc

pub weight_whole : (by_rest : Bool) (whole : ℕ) → weight by_rest whole whole ≡ 0
weight_whole true whole = refl
weight_whole false whole = omega arith

weight_within : (by_rest : Bool) (whole n r left : ℕ) → (by_rest ≡ false → whole + r ≤ left + n) → weight by_rest whole left ≤ n
weight_within true whole n r left h = omega arith
weight_within false whole n r left h = let k : whole + r ≤ left + n = h refl in omega arith

same_state : (s t u : Tree) → s ≡ t → t ≡ u → s ≡ u
same_state s t u e f = e ∙ f

left_behind : (x a b r c : ℕ) → x ≡ a - c → a ≡ b → b ≡ r → x ≡ r - c
left_behind x a b r c e f g = omega arith

pub cases_rest : {P : Type 0} (by_rest : Bool) → (by_rest ≡ true → P) → (by_rest ≡ false → P) → P
cases_rest true p q = p refl
cases_rest false p q = q refl

-- ---- what is known at no more than a number that is below all that is due was asked for

-- what was asked for: this state with, by rests, just this rest, and else with at least as much left
record AskedFrom (by_rest : Bool) (asked : List Asked) (s : Tree) (r : ℕ) : Type 0 where
  pub it : Asked
  pub among : Contains asked it
  pub state : it.state ≡ s
  pub rest : by_rest ≡ true → it.rest ≡ r
  pub least : by_rest ≡ false → r ≤ it.rest

module _ (by_rest : Bool) (whole level n : ℕ) (given : List GivenState) (asked : List Asked) (ways : List Way) (known : Place → Option Standing) (due : List Due)
    (h : IsSearch by_rest whole level given asked ways known due) (above : (d : Due) → Contains due d → n < d.cost) where
  asked_standing : (s : Tree) (r : ℕ) (t : Standing) → known (place_of by_rest s r) ≡ Some t → t.cost ≤ weight by_rest whole r → (by_rest ≡ false → r ≤ whole) → t.is_asked ≡ true → AskedFrom by_rest asked s r
  asked_standing s r t e bound within hit =
      let found : AskedAt by_rest asked (place_of by_rest s r) = h.known_asked (place_of by_rest s r) t e hit in
      let one : Some (standing (weight by_rest whole found.it.rest) true) ≡ Some t = sym (h.asked_known found.it found.among) ∙ (ap known found.place ∙ e) in
      let costs : weight by_rest whole found.it.rest ≡ t.cost = cc in
      let less : weight by_rest whole found.it.rest ≤ weight by_rest whole r = omega arith in
      record {
        it = found.it;
        among = found.among;
        state = ap (λ (x : Place). x.state) found.place;
        rest = λ yes. place_rest by_rest found.it.rest r yes (ap (λ (x : Place). x.rest) found.place);
        least = λ no. least_left by_rest whole found.it.rest r no less (h.asked_within found.it found.among no) (within no);
      }

  due_standing : (k : Place) (t : Standing) → known k ≡ Some t → t.cost ≤ n → t.is_asked ≡ false → ⊥
  due_standing k t e bound miss =
      let d : DueWithin ways due k t.cost = h.known_due k t e miss in
      let more : n < d.it.cost = above d.it d.among in
      let less : d.it.cost ≤ t.cost = d.bound in
      absurd (omega arith)

  of_standing : (s : Tree) (r : ℕ) (t : Standing) (hit : Bool) → t.is_asked ≡ hit → known (place_of by_rest s r) ≡ Some t → t.cost ≤ weight by_rest whole r → weight by_rest whole r ≤ n → (by_rest ≡ false → r ≤ whole) →
      AskedFrom by_rest asked s r
  of_standing s r t true hit e bound small within = asked_standing s r t e bound within hit
  of_standing s r t false hit e bound small within = absurd (due_standing (place_of by_rest s r) t e (omega arith) hit)

  of_known : (s : Tree) (r : ℕ) (o : Option Standing) → known (place_of by_rest s r) ≡ o → Covers o (weight by_rest whole r) → weight by_rest whole r ≤ n → (by_rest ≡ false → r ≤ whole) → AskedFrom by_rest asked s r
  of_known s r None e bound small within = absurd bound
  of_known s r (Some t) e bound small within = of_standing s r t t.is_asked refl e bound small within

  of_covered : (s : Tree) (r : ℕ) → Covers (known (place_of by_rest s r)) (weight by_rest whole r) → weight by_rest whole r ≤ n → (by_rest ≡ false → r ≤ whole) → AskedFrom by_rest asked s r
  of_covered s r c small within = of_known s r (known (place_of by_rest s r)) refl c small within

-- ---- what is reached was asked for

pub none_is_final : (given : List GivenState) → NoneFinal given → (e : GivenState) → Contains given e → e.is_final ≡ true → ⊥
none_is_final given none e among hit = let miss : e.is_final ≡ false = none e among in absurd (cc)

record Met (by_rest : Bool) (whole n : ℕ) (asked : List Asked) (s : Tree) (r : ℕ) : Type 0 where
  pub it : Asked
  pub among : Contains asked it
  pub state : it.state ≡ s
  pub rest : by_rest ≡ true → it.rest ≡ r
  pub left : by_rest ≡ false → whole + r ≤ it.rest + n

-- what a number is exhausted by: nothing is due within it, and all that was asked for within it was given, and isn't final
pub record IsBelow (by_rest : Bool) (start : Tree) (whole n : ℕ) (given : List GivenState) (asked : List Asked) (known : Place → Option Standing) (due : List Due) : Type 0 where
  pub root : Covers (known (place_of by_rest start whole)) 0
  pub within : n ≤ whole
  pub last : by_rest ≡ true → n ≡ whole
  pub above : (d : Due) → Contains due d → n < d.cost
  pub are_given : AreGiven given
  pub none_final : NoneFinal given
  pub of_given : (e : GivenState) → Contains given e → Contains asked (asked_of e)
  pub to_given : (p : Asked) → Contains asked p → weight by_rest whole p.rest ≤ n → (e : GivenState) × Contains given e × (asked_of e ≡ p)

module _ (by_rest : Bool) (start : Tree) (whole level n : ℕ) (given : List GivenState) (asked : List Asked) (ways : List Way) (known : Place → Option Standing) (due : List Due)
    (h : IsSearch by_rest whole level given asked ways known due) (b : IsBelow by_rest start whole n given asked known due) where
  met_start : Met by_rest whole n asked start n
  met_start =
      let zero_weight : weight by_rest whole whole ≡ 0 = weight_whole by_rest whole in
      let found : AskedFrom by_rest asked start whole =
      of_covered by_rest whole level n given asked ways known due h b.above start whole (rw zero_weight b.root) (omega arith) (λ no. omega arith) in
      record {
        it = found.it;
        among = found.among;
        state = found.state;
        rest = λ yes. found.rest yes ∙ sym (b.last yes);
        left = λ no. omega (arith, found.least no);
      }

  entry_rest : (s : Tree) (r : ℕ) → (m : Met by_rest whole n asked s r) → (e : GivenState) → Contains given e → StandsFor by_rest e s r → rest_of e ≡ m.it.rest
  entry_rest s r m e among stands =
      let is_rest : e.rest ≡ pos (rest_of e) = b.are_given.rests e among in
      let by_rests : by_rest ≡ true → rest_of e ≡ r = λ yes. let both : pos (rest_of e) ≡ pos r = sym is_rest ∙ stands.rest yes in cc in
      let places : place_asked by_rest (asked_of e) ≡ place_asked by_rest m.it =
      place_same by_rest e.state m.it.state (rest_of e) m.it.rest (stands.state ∙ sym m.state) (λ yes. by_rests yes ∙ sym (m.rest yes)) in
      let one : Some (standing (weight by_rest whole (rest_of e)) true) ≡ Some (standing (weight by_rest whole m.it.rest) true) =
      sym (h.asked_known (asked_of e) (b.of_given e among)) ∙ (ap known places ∙ h.asked_known m.it m.among) in
      let weights : weight by_rest whole (rest_of e) ≡ weight by_rest whole m.it.rest = same_costs (weight by_rest whole (rest_of e)) (weight by_rest whole m.it.rest) true true one in
      cases_rest by_rest (λ yes. by_rests yes ∙ sym (m.rest yes))
      (λ no. same_left by_rest whole (rest_of e) m.it.rest no weights (h.asked_within (asked_of e) (b.of_given e among) no) (h.asked_within m.it m.among no))

  met_step : (s : Tree) (r : ℕ) (a : Tree) (c : ℕ) (t : Tree) → Met by_rest whole n asked s r → Step (over given by_rest) s r a c t → Met by_rest whole n asked t (r - c)
  met_step s r a c t m step =
      let g : GivenStep given by_rest s r a c t = step.given in
      let within_rest : c ≤ r = step.within in
      let same : rest_of g.entry ≡ m.it.rest = entry_rest s r m g.entry g.among g.stands in
      let enough : r ≤ rest_of g.entry = cases_rest by_rest (λ yes. omega (arith, m.rest yes, same)) (λ no. omega (arith, m.left no, same, b.within)) in
      let small : weight by_rest whole (rest_of g.entry - c) ≤ n =
      weight_within by_rest whole n (r - c) (rest_of g.entry - c) (λ no. omega (arith, m.left no, same)) in
      let found : AskedFrom by_rest asked g.successor.state (rest_of g.entry - c) =
      of_covered by_rest whole level n given asked ways known due h b.above g.successor.state (rest_of g.entry - c)
      (h.unfolds g.entry g.among g.successor g.offered c g.faultless.cost (omega arith)) small
      (λ no. omega (arith, h.asked_within (asked_of g.entry) (b.of_given g.entry g.among) no)) in
      record {
        it = found.it;
        among = found.among;
        state = same_state found.it.state g.successor.state t found.state g.state;
        rest = λ yes. left_behind found.it.rest (rest_of g.entry) m.it.rest r c (found.rest yes) same (m.rest yes);
        left = λ no. omega (arith, found.least no, m.left no, same);
      }

  met : (s : Tree) (r : ℕ) → Reached (over given by_rest) start n s r → Met by_rest whole n asked s r
  met s r at_start = met_start
  met s r (then_step {s = u} {r = q} {a = a} {c = c} reached not_final step) = met_step u q a c s (met u q reached) step

  met_done : (s : Tree) (r : ℕ) → Met by_rest whole n asked s r → GivenDone given by_rest s r
  met_done s r m =
      let small : weight by_rest whole m.it.rest ≤ n = weight_within by_rest whole n r m.it.rest m.left in
      let found : (e : GivenState) × Contains given e × (asked_of e ≡ m.it) = b.to_given m.it m.among small in
      record {
        is_given = record {
          entry = found.0;
          among = found.1;
          stands = record {
            state = ap (λ (x : Asked). x.state) found.2 ∙ m.state;
            rest = λ yes. b.are_given.rests found.0 found.1 ∙ ap (λ (k : ℕ). pos k) (ap (λ (x : Asked). x.rest) found.2 ∙ m.rest yes);
          };
        };
        not_final = λ e among stands. b.none_final e among;
        faultless = λ e among stands. b.are_given.faultless e among;
      }

  pub exhausted : Exhausted (over given by_rest) start n
  exhausted = record {
    none = λ plan cost v. none_where_none_final (over given by_rest) start n
        (λ s r reached f. none_is_final given b.none_final f.entry f.among f.is_final) start n plan cost at_start v;
    done = λ s r reached. met_done s r (met s r reached);
  }
