-- How a search goes on: a way is added, an entry is unfolded, a way is taken, a number is exhausted, the next one is begun.
use Rattle.std.proofs.Common.{◌≡◌, ℕ, zero, suc, ◌-◌, ◌+◌, ◌<◌, ◌≤◌, Bool, true, false, List, [], ◌∷◌, ◌++◌, length, length-append, get_or, map, Some, None, refl, ap, sym, ◌∙◌, subst, inl, inr, arith, pos}
use Rattle.std.specs.Prelude.{Contains, slice_get, unsigned_abs}
use Rattle.std.specs.Prelude.{◌^◌}
use Rattle.std.specs.BTreeMap.{get, is_at, BTreeMap}
use Rattle.std.specs.Map.{lookup}
use Rattle.std.proofs.lemmas.Bool.{cases_lt}
use Rattle.std.proofs.lemmas.List.{map-append}
use Rattle.std.proofs.lemmas.List.Elements.{Contains-append_left, Contains-push, Contains-push_cases}
use Rattle.pi_terms.specs.Tree.{Tree, int}
use Rattle.pi_terms.proofs.GetLemmas.{get_append_left, get_append_last}
use Rattle.pi_terms.proofs.OptionLemmas.{one-some, same-some}
use Rattle.pi_plan.specs.declared.given.Successor.{Successor}
use Rattle.pi_plan.specs.declared.given.GivenState.{GivenState}
use Rattle.pi_plan.specs.Plan.{Bodies, AllBelow, Exhausted, Wanted, NoneAs, HasNoPlan}
use Rattle.pi_plan.specs.Given.{IsFaultless, over}
use Rattle.pi_plan.specs.declared.place.Place.{Place}
use Rattle.pi_plan.specs.declared.due.Due.{Due}
use Rattle.pi_plan.specs.declared.search.Way.{Way}
use Rattle.pi_plan.specs.declared.search.Origin.{Origin}
use Rattle.pi_plan.specs.declared.search.Search.{Search}
use Rattle.pi_plan.specs.declared.search.Standing.{Standing}
use Rattle.pi_plan.specs.Place.{place_of, place_order}
use Rattle.pi_plan.specs.Ways.{ComesFrom, AreWays, root}
use Rattle.pi_plan.specs.Searching.{weight, Asked, asked_of, asked_by, rest_of, Covers, Improves, IsSearch, Unfolds, AreGiven, NoneFinal}
use Rattle.pi_plan.specs.Search.{known_of, Keeps, Adds, known_before, put_now, AddsStep, start_way, IsSearchNow, Takes, IsDry}
use Rattle.pi_plan.specs.Planner.{number_of, first_number_of, IsUnder, IsReady, IsAsking, IsAnswered, IsSpent}
use Rattle.pi_plan.proofs.PlaceLemmas.{later, nothing_contained}
use Rattle.pi_plan.proofs.SearchLemmas.{IsFit, search_put, put_improves, search_unfolded, search_next}
use Rattle.pi_plan.proofs.ExhaustedLemmas.{IsBelow, exhausted, weight_whole, cases_rest}
use Rattle.pi_plan.proofs.WayLemmas.{ways_put}

-- ---- lists by place

contains_get : {X : Type 0} (xs : List X) (i : ℕ) (x : X) → slice_get xs i ≡ Some x → Contains xs x
contains_get [] i x e = absurd (cc)
contains_get (y ∷ ys) zero x e = (0, omega arith, same-some e)
contains_get (y ∷ ys) (suc i) x e = later y ys x (contains_get ys i x e)

get_contained : {X : Type 0} (xs : List X) (x : X) → Contains xs x → (i : ℕ) × (i < length xs) × (slice_get xs i ≡ Some x)
get_contained [] x (k, within, e) = absurd (omega arith)
get_contained (y ∷ ys) x (zero, within, e) = (0, within, ap (λ z. Some z) e)
get_contained (y ∷ ys) x (suc k, within, e) = let r : (i : ℕ) × (i < length ys) × (slice_get ys i ≡ Some x) = get_contained ys x (k, omega arith, e) in let less = r.1 in (suc r.0, omega arith, r.2)

get_below : {X : Type 0} (xs : List X) (i : ℕ) (x : X) → slice_get xs i ≡ Some x → i < length xs
get_below [] i x e = absurd (cc)
get_below (y ∷ ys) zero x e = omega arith
get_below (y ∷ ys) (suc i) x e = let r = get_below ys i x e in omega arith

pub contains_map : {X Y : Type 0} (f : X → Y) (xs : List X) (x : X) → Contains xs x → Contains (map f xs) (f x)
contains_map f [] x h = absurd (nothing_contained x h)
contains_map f (y ∷ ys) x (zero, within, e) = (0, omega arith, ap f e)
contains_map f (y ∷ ys) x (suc k, within, e) = later (f y) (map f ys) (f x) (contains_map f ys x (k, omega arith, e))

map_contains : {X Y : Type 0} (f : X → Y) (xs : List X) (y : Y) → Contains (map f xs) y → (x : X) × Contains xs x × (f x ≡ y)
map_contains f [] y h = absurd (nothing_contained y h)
map_contains f (x ∷ xs) y (zero, within, e) = (x, (0, omega arith, refl), e)
map_contains f (x ∷ xs) y (suc k, within, e) =
    let r : (z : _) × Contains xs z × (f z ≡ y) = map_contains f xs y (k, omega arith, e) in (r.0, later x xs r.0 r.1, r.2)

-- ---- a way is added

pub record Added (b : Bodies) (start : Tree) (old new : Search) (level : ℕ) (unfolded : List GivenState) (asked : List Asked) (k : Place) (spent : ℕ) : Type 0 where
  pub keeps : Keeps old new
  pub improves : Improves (known_of old) (known_of new)
  pub left : (i : ℕ) (w : Way) → slice_get old.ways.items i ≡ Some w → slice_get new.ways.items i ≡ Some w
  pub covers : Covers (known_of new k) spent
  pub search : IsSearchNow new level unfolded asked
  pub ways : AreWays b start new.whole new.ways.items

same_search : (b : Bodies) (start : Tree) (old : Search) (level : ℕ) (unfolded : List GivenState) (asked : List Asked) (k : Place) (spent : ℕ) → Covers (known_of old k) spent →
    IsSearchNow old level unfolded asked → AreWays b start old.whole old.ways.items → Added b start old old level unfolded asked k spent
same_search b start old level unfolded asked k spent covered search ways = record {
  keeps = record { by_rest = refl; whole = refl };
  improves = λ q most c. c;
  left = λ i w at. at;
  covers = covered;
  search = search;
  ways = ways;
}

pub added : (b : Bodies) (start : Tree) (old new : Search) (level : ℕ) (unfolded : List GivenState) (asked : List Asked) (k : Place) (w : Way) (spent : ℕ) → Adds old new k w spent →
    IsFit old.by_rest old.whole level k w spent → ComesFrom b (root start old.whole) old.ways.items (length old.ways.items) w w.origin → IsSearchNow old level unfolded asked → AreWays b start old.whole old.ways.items →
    Added b start old new level unfolded asked k spent
added b start old new level unfolded asked k w spent (known_before covered same) fit from search ways =
    subst (λ (s : Search). Added b start old s level unfolded asked k spent) (sym same) (same_search b start old level unfolded asked k spent covered search ways)
added b start old new level unfolded asked k w spent (put_now miss keeps puts) fit from search ways = record {
  keeps = keeps;
  improves = put_improves old new k w spent puts miss;
  left = λ i v at. subst (λ (ws : List Way). slice_get ws i ≡ Some v) (sym puts.ways) (get_append_left old.ways.items (w ∷ []) i v at);
  covers = rw puts.here (omega arith);
  search = rw (keeps.by_rest, keeps.whole) (search_put old new k w spent level unfolded asked puts miss fit search);
  ways = rw (keeps.whole, puts.ways) (ways_put b start old.whole old.ways.items w ways from);
}

under_moved : (w : Wanted) (given : List GivenState) (s new : Search) → Keeps s new → Improves (known_of s) (known_of new) → AreWays (over given s.by_rest) w.start new.whole new.ways.items → IsUnder w given s → IsUnder w given new
under_moved w given s new keeps improves ways u = record {
  bounded = u.bounded;
  within = rw keeps.whole u.within;
  by_cost = λ e. keeps.whole ∙ u.by_cost (sym keeps.by_rest ∙ e);
  any_plan = λ e. keeps.whole ∙ u.any_plan e;
  root = record { covered = rw (keeps.by_rest, keeps.whole) (improves (place_of s.by_rest w.start s.whole) 0 u.root.covered) };
  ways = rw keeps.by_rest ways;
  are_given = u.are_given;
}

weight_moved : (s new : Search) → Keeps s new → (r : ℕ) → weight s.by_rest s.whole r ≡ weight new.by_rest new.whole r
weight_moved s new keeps r = rw (keeps.by_rest, keeps.whole) refl

weight_more : (by_rest : Bool) (whole r c : ℕ) → weight by_rest whole r ≤ weight by_rest whole (r - c)
weight_more true whole r c = omega arith
weight_more false whole r c = omega arith

-- ---- an entry is unfolded

pub record Unfolding (w : Wanted) (given before : List GivenState) (e : GivenState) (way : Way) (parent : ℕ) (s : Search) (i : ℕ) : Type 0 where
  pub under : IsUnder w given s
  pub at : slice_get s.ways.items parent ≡ Some way
  pub within : way.rest ≤ s.whole
  pub search : IsSearchNow s (weight s.by_rest s.whole way.rest) before (map asked_of before ++ asked_by way ∷ [])
  pub least : w.best ≡ true → AllBelow (over given s.by_rest) w.start (number_of s.by_rest s.whole (weight s.by_rest s.whole way.rest))
  pub so_far : (j : ℕ) (n : Successor) → j < i → slice_get e.successors j ≡ Some n → (c : ℕ) → n.cost ≡ int (pos c) → c ≤ way.rest →
      Covers (known_of s (place_of s.by_rest n.state (way.rest - c))) (weight s.by_rest s.whole (way.rest - c))

same_cost : (m n : ℕ) → int (pos m) ≡ int (pos n) → m ≡ n
same_cost m n e = cc

unfolding_skip : (w : Wanted) (given before : List GivenState) (e : GivenState) (way : Way) (parent : ℕ) (s : Search) (i : ℕ) (n : Successor) (cost : ℕ) → Unfolding w given before e way parent s i → slice_get e.successors i ≡ Some n →
    n.cost ≡ int (pos cost) → way.rest < cost → Unfolding w given before e way parent s (i + 1)
unfolding_skip w given before e way parent s i n cost u here is_cost past = record {
  under = u.under;
  at = u.at;
  within = u.within;
  search = u.search;
  least = u.least;
  so_far = λ j m less there c is_c enough. elim (cases_lt j i) [
    | inl front ↦ u.so_far j m front there c is_c enough
    | inr back ↦
        let last : j ≡ i = omega arith in
        let one : n ≡ m = one-some (slice_get e.successors i) n m here (ap (λ (k : ℕ). slice_get e.successors k) (sym last) ∙ there) in
        let costs : cost ≡ c = same_cost cost c (sym is_cost ∙ (ap (λ (x : Successor). x.cost) one ∙ is_c)) in
        absurd (omega arith)
  ];
}

unfolding_added : (w : Wanted) (given before : List GivenState) (e : GivenState) (way : Way) (parent : ℕ) (s new : Search) (i : ℕ) (n : Successor) (cost : ℕ) → Unfolding w given before e way parent s i → slice_get e.successors i ≡ Some n →
    n.cost ≡ int (pos cost) →
    Added (over given s.by_rest) w.start s new (weight s.by_rest s.whole way.rest) before (map asked_of before ++ asked_by way ∷ []) (place_of s.by_rest n.state (way.rest - cost)) (weight s.by_rest s.whole (way.rest - cost)) →
    Unfolding w given before e way parent new (i + 1)
unfolding_added w given before e way parent s new i n cost u here is_cost a = record {
  under = under_moved w given s new a.keeps a.improves a.ways u.under;
  at = a.left parent way u.at;
  within = rw a.keeps.whole u.within;
  search = subst (λ (l : ℕ). IsSearchNow new l before (map asked_of before ++ asked_by way ∷ [])) (weight_moved s new a.keeps way.rest) a.search;
  least = λ best. rw (a.keeps.by_rest, a.keeps.whole) (u.least best);
  so_far = λ j m less there c is_c enough. elim (cases_lt j i) [
    | inl front ↦ rw (a.keeps.by_rest, a.keeps.whole) (a.improves (place_of s.by_rest m.state (way.rest - c)) (weight s.by_rest s.whole (way.rest - c)) (u.so_far j m front there c is_c enough))
    | inr back ↦
        let last : j ≡ i = omega arith in
        let one : n ≡ m = one-some (slice_get e.successors i) n m here (ap (λ (k : ℕ). slice_get e.successors k) (sym last) ∙ there) in
        let costs : cost ≡ c = same_cost cost c (sym is_cost ∙ (ap (λ (x : Successor). x.cost) one ∙ is_c)) in
        rw (a.keeps.by_rest, a.keeps.whole)
        (subst (λ (x : ℕ). Covers (known_of new (place_of s.by_rest m.state (way.rest - x))) (weight s.by_rest s.whole (way.rest - x))) costs
        (subst (λ (x : Successor). Covers (known_of new (place_of s.by_rest x.state (way.rest - cost))) (weight s.by_rest s.whole (way.rest - cost))) one a.covers))
  ];
}

pub unfolding_more : (w : Wanted) (given before : List GivenState) (e : GivenState) (way : Way) (parent : ℕ) (s new : Search) (i : ℕ) (n : Successor) → Contains given e → e.state ≡ way.place.state → e.rest ≡ pos way.rest →
    slice_get e.successors i ≡ Some n → AddsStep s new parent way.rest n → Unfolding w given before e way parent s i → Unfolding w given before e way parent new (i + 1)
unfolding_more w given before e way parent s new i n among state rest here adds u =
    let offered : Contains e.successors n = contains_get e.successors i n here in
    let faultless : (c : ℕ) × IsFaultless n c = u.under.are_given.faultless e among n offered in
    let is_cost : n.cost ≡ int (pos faultless.0) = faultless.1.cost in
    elim (cases_lt way.rest faultless.0) [
      | inl past ↦
          let same : new ≡ s = adds.skips (λ c is_c enough. let costs : c ≡ faultless.0 = same_cost c faultless.0 (sym is_c ∙ is_cost) in absurd (omega arith)) in
          subst (λ (x : Search). Unfolding w given before e way parent x (i + 1)) (sym same) (unfolding_skip w given before e way parent s i n faultless.0 u here is_cost past)
      | inr enough ↦
          unfolding_added w given before e way parent s new i n faultless.0 u here is_cost
          (added (over given s.by_rest) w.start s new (weight s.by_rest s.whole way.rest) before (map asked_of before ++ asked_by way ∷ []) (place_of s.by_rest n.state (way.rest - faultless.0))
          (record { place = place_of s.by_rest n.state (way.rest - faultless.0); rest = way.rest - faultless.0; origin = Origin.Step parent n.action })
          (weight s.by_rest s.whole (way.rest - faultless.0))
          (adds.adds faultless.0 is_cost enough)
          (record { level = weight_more s.by_rest s.whole way.rest faultless.0; cost = refl; within = omega (arith, u.within); place = refl; is_place = refl })
          (record {
            earlier = get_below s.ways.items parent way u.at;
            before = way;
            is_before = u.at;
            cost = faultless.0;
            step = record {
              given = record {
                entry = e;
                among = among;
                stands = record { state = state; rest = λ yes. rest };
                successor = n;
                offered = offered;
                faultless = faultless.1;
                action = refl;
                state = refl;
              };
              within = enough;
            };
            rest = refl;
          })
          u.search u.under.ways)
    ]

pub unfolding_end : (w : Wanted) (given before : List GivenState) (e : GivenState) (way : Way) (parent : ℕ) (s : Search) → given ≡ before ++ e ∷ [] → NoneFinal before → e.is_final ≡ false → e.state ≡ way.place.state →
    e.rest ≡ pos way.rest → Unfolding w given before e way parent s (length e.successors) → IsReady w given s
unfolding_end w given before e way parent s last none_final not_final state rest u =
    let left : rest_of e ≡ way.rest = ap unsigned_abs rest in
    let asked_one : asked_by way ≡ asked_of e = same_asked way.place.state e.state way.rest (rest_of e) (sym state) (sym left) in
    let asked_all : map asked_of before ++ asked_by way ∷ [] ≡ map asked_of given =
    ap (λ (x : Asked). map asked_of before ++ x ∷ []) asked_one ∙ (sym (map-append asked_of before (e ∷ [])) ∙ ap (λ (es : List GivenState). map asked_of es) (sym last)) in
    let all : Unfolds s.by_rest s.whole (known_of s) e = λ n offered c is_c enough.
    let at : (j : ℕ) × (j < length e.successors) × (slice_get e.successors j ≡ Some n) = get_contained e.successors n offered in
    rw left (u.so_far at.0 n at.1 at.2 c is_c (omega arith)) in
    let unfolded : IsSearchNow s (weight s.by_rest s.whole way.rest) (before ++ e ∷ []) (map asked_of before ++ asked_by way ∷ []) =
    search_unfolded s.by_rest s.whole (weight s.by_rest s.whole way.rest) before (map asked_of before ++ asked_by way ∷ []) s.ways.items (known_of s) s.frontier.keys e all u.search in
    record {
      under = u.under;
      none_final = λ f among. elim (Contains-push_cases before e f (subst (λ (es : List GivenState). Contains es f) last among)) [
        | inl old ↦ none_final f old
        | inr same ↦ subst (λ (x : GivenState). x.is_final ≡ false) same not_final
      ];
      level = weight s.by_rest s.whole way.rest;
      search = subst (λ (es : List GivenState). IsSearchNow s (weight s.by_rest s.whole way.rest) es (map asked_of given)) (sym last)
          (subst (λ (ps : List Asked). IsSearchNow s (weight s.by_rest s.whole way.rest) (before ++ e ∷ []) ps) asked_all unfolded);
      least = u.least;
    }
  where
    asked : Tree → ℕ → Asked
    asked t r = record { state = t; rest = r }

    same_asked : (t u : Tree) (m n : ℕ) → t ≡ u → m ≡ n → asked t m ≡ asked u n
    same_asked t u m n e f = cc

-- ---- a way is taken

below_of : (w : Wanted) (given : List GivenState) (s : Search) (n : ℕ) (asked : List Asked) → IsUnder w given s → NoneFinal given → n ≤ s.whole → (s.by_rest ≡ true → n ≡ s.whole) → ((d : Due) → Contains s.frontier.keys d → n < d.cost) →
    ((p : Asked) → Contains (map asked_of given) p → Contains asked p) → ((p : Asked) → Contains asked p → weight s.by_rest s.whole p.rest ≤ n → Contains (map asked_of given) p) →
    IsBelow s.by_rest w.start s.whole n given asked (known_of s) s.frontier.keys
below_of w given s n asked u none within last above old back = record {
  root = u.root.covered;
  within = within;
  last = last;
  above = above;
  are_given = u.are_given;
  none_final = none;
  of_given = λ e among. old (asked_of e) (contains_map asked_of given e among);
  to_given = λ p among small. map_contains asked_of given p (back p among small);
}

below_whole : (by_rest : Bool) (whole level n : ℕ) → by_rest ≡ true → n < number_of by_rest whole level → n < whole
below_whole true whole level n e h = h
below_whole false whole level n e h = absurd (cc)

under_whole : (by_rest : Bool) (whole level n : ℕ) → by_rest ≡ true → n < whole → n < number_of by_rest whole level
under_whole true whole level n e h = h
under_whole false whole level n e h = absurd (cc)

below_level : (by_rest : Bool) (whole level n : ℕ) → by_rest ≡ false → n < number_of by_rest whole level → n < level
below_level true whole level n e h = absurd (cc)
below_level false whole level n e h = h

pub asks_from : (w : Wanted) (given : List GivenState) (s new : Search) (i : ℕ) → IsReady w given s → Keeps s new → Takes s new given (map asked_of given) i → IsAsking w given new i
asks_from w given s new i h keeps t =
    let under : IsUnder w given new = under_moved w given s new keeps t.improves (rw (keeps.whole, t.ways) h.under.ways) h.under in
    record {
      under = under;
      none_final = h.none_final;
      way = t.way;
      at = t.at;
      within = t.within;
      place = t.place;
      fresh = t.fresh;
      search = t.search;
      least = λ best. least_by new.by_rest refl (h.least best) (λ no n less.
          exhausted new.by_rest w.start new.whole (weight new.by_rest new.whole t.way.rest) n given (map asked_of given ++ asked_by t.way ∷ []) new.ways.items (known_of new) new.frontier.keys t.search
          (below_of w given new n (map asked_of given ++ asked_by t.way ∷ []) under h.none_final (less_whole new.by_rest new.whole t.way.rest n no less) (λ yes. absurd (cc))
          (λ d among. omega (arith, t.search.above d among, less))
          (λ p among. Contains-append_left (map asked_of given) (asked_by t.way ∷ []) p among)
          (λ p among small. elim (Contains-push_cases (map asked_of given) (asked_by t.way) p among) [
            | inl before ↦ before
            | inr same ↦ let weights : weight new.by_rest new.whole t.way.rest ≡ weight new.by_rest new.whole p.rest = ap (λ (x : Asked). weight new.by_rest new.whole x.rest) same in absurd (omega arith)
          ])));
    }
  where
    less_whole : (by_rest : Bool) (whole r n : ℕ) → by_rest ≡ false → n < weight by_rest whole r → n ≤ whole
    less_whole true whole r n e h = absurd (cc)
    less_whole false whole r n e h = omega arith

    least_by : (by_rest : Bool) → new.by_rest ≡ by_rest → AllBelow (over given s.by_rest) w.start (number_of s.by_rest s.whole h.level) →
        (new.by_rest ≡ false → (n : ℕ) → n < weight new.by_rest new.whole t.way.rest → Exhausted (over given new.by_rest) w.start n) →
        AllBelow (over given new.by_rest) w.start (number_of new.by_rest new.whole (weight new.by_rest new.whole t.way.rest))
    least_by true e was found =
        let was_true : s.by_rest ≡ true = sym keeps.by_rest ∙ e in
        λ n less. rw keeps.by_rest (was n (under_whole s.by_rest s.whole h.level n was_true (rw (sym keeps.whole) (below_whole new.by_rest new.whole (weight new.by_rest new.whole t.way.rest) n e less))))
    least_by false e was found = λ n less. found e n (below_level new.by_rest new.whole (weight new.by_rest new.whole t.way.rest) n e less)

-- ---- nothing is due any more

pub spent_from : (w : Wanted) (given : List GivenState) (s new : Search) → (h : IsReady w given s) → Keeps s new → IsDry s new h.level given (map asked_of given) → IsSpent w given new
spent_from w given s new h keeps d =
    let under : IsUnder w given new = under_moved w given s new keeps d.skips.improves (rw (keeps.whole, d.skips.ways) h.under.ways) h.under in
    record {
      under = under;
      none_final = h.none_final;
      level = h.level;
      search = d.skips.search;
      dry = d.dry;
      spent = λ m within last.
          exhausted new.by_rest w.start new.whole h.level m given (map asked_of given) new.ways.items (known_of new) new.frontier.keys d.skips.search
          (below_of w given new m (map asked_of given) under h.none_final within last
          (λ x among. absurd (nothing_contained x (subst (λ (ds : List Due). Contains ds x) d.dry among)))
          (λ p among. among) (λ p among small. among));
      least = λ best. rw (keeps.by_rest, keeps.whole) (h.least best);
    }

pub none_of : (w : Wanted) (given : List GivenState) (s : Search) → IsSpent w given s → w.limit ≤ s.whole → HasNoPlan (over given s.by_rest) w
none_of w given s h past = none_as w.best refl
  where
    whole : s.whole ≡ w.limit
    whole = omega (arith, h.under.within)

    none_as : (best : Bool) → w.best ≡ best → NoneAs best (over given s.by_rest) w.start w.limit
    none_as false e = h.spent w.limit (omega arith) (λ yes. sym whole)
    none_as true e = λ m within. elim (cases_lt m s.whole) [
      | inl less ↦ cases_rest s.by_rest
          (λ yes. h.least e m (under_whole s.by_rest s.whole h.level m yes less))
          (λ no. h.spent m (omega arith) (λ yes. absurd (cc)))
      | inr more ↦ let last : m ≡ s.whole = omega (arith, whole) in h.spent m (omega arith) (λ yes. last)
    ]

-- ---- the next number is begun

next_search : (s t : Search) (level : ℕ) (given : List GivenState) (asked : List Asked) → s.by_rest ≡ true → s.frontier.keys ≡ [] → t.by_rest ≡ s.by_rest → t.ways.items ≡ [] → t.known ≡ s.known →
    t.frontier.keys ≡ s.frontier.keys → IsSearchNow s level given asked → IsSearchNow t 0 given asked
next_search s t level given asked by dry by_rest ways known due h =
    let at_dry : IsSearch s.by_rest s.whole level given asked s.ways.items (known_of s) [] = subst (λ (ds : List Due). IsSearch s.by_rest s.whole level given asked s.ways.items (known_of s) ds) dry h in
    let by_rests : IsSearch true s.whole level given asked s.ways.items (known_of s) [] = subst (λ (b : Bool). IsSearch b s.whole level given asked s.ways.items (known_of s) []) by at_dry in
    let next : IsSearch true t.whole 0 given asked [] (known_of s) [] = search_next s.whole t.whole level given asked s.ways.items (known_of s) by_rests in
    subst (λ (b : Bool). IsSearch b t.whole 0 given asked t.ways.items (known_of t) t.frontier.keys) (sym (by_rest ∙ by))
    (subst (λ (ws : List Way). IsSearch true t.whole 0 given asked ws (known_of t) t.frontier.keys) (sym ways)
    (subst (λ (ds : List Due). IsSearch true t.whole 0 given asked [] (known_of t) ds) (sym (due ∙ dry))
    (subst (λ (m : BTreeMap Place Standing). IsSearch true t.whole 0 given asked [] (λ k. get place_order m k) []) (sym known) next)))

no_way : (i : ℕ) (x : Way) → slice_get [] i ≡ Some x → ⊥
no_way i x e = absurd (cc)

must_be : (x : Bool) → (x ≡ false → ⊥) → x ≡ true
must_be true h = refl
must_be false h = absurd (h refl)

clash : (x : Bool) → x ≡ false → x ≡ true → ⊥
clash x e f = absurd (cc)

-- a search whose one way is the start
pub root_of : (w : Wanted) (given : List GivenState) (s new : Search) → w.limit < 2 ^ 127 → s.whole ≤ w.limit → (s.by_rest ≡ false → s.whole ≡ w.limit) → (w.best ≡ false → s.whole ≡ w.limit) → AreGiven given → NoneFinal given →
    s.ways.items ≡ [] → IsSearchNow s 0 given (map asked_of given) → (w.best ≡ true → AllBelow (over given s.by_rest) w.start (number_of s.by_rest s.whole 0)) →
    Adds s new (place_of s.by_rest w.start s.whole) (start_way s.by_rest w.start s.whole) (weight s.by_rest s.whole s.whole) → IsReady w given new
root_of w given s new bounded within by_cost any_plan are_given none_final empty search least adds =
    let ways : AreWays (over given s.by_rest) w.start s.whole s.ways.items = record { each = λ i x at. absurd (no_way i x (subst (λ (ws : List Way). slice_get ws i ≡ Some x) empty at)) } in
    let a : Added (over given s.by_rest) w.start s new 0 given (map asked_of given) (place_of s.by_rest w.start s.whole) (weight s.by_rest s.whole s.whole) =
    added (over given s.by_rest) w.start s new 0 given (map asked_of given) (place_of s.by_rest w.start s.whole) (start_way s.by_rest w.start s.whole) (weight s.by_rest s.whole s.whole) adds
    (record { level = omega arith; cost = refl; within = omega arith; place = refl; is_place = refl }) (record { state = refl; rest = refl }) search ways in
    record {
      under = record {
        bounded = bounded;
        within = rw a.keeps.whole within;
        by_cost = λ no. a.keeps.whole ∙ by_cost (sym a.keeps.by_rest ∙ no);
        any_plan = λ no. a.keeps.whole ∙ any_plan no;
        root = record { covered = rw (a.keeps.by_rest, a.keeps.whole) (subst (λ (n : ℕ). Covers (known_of new (place_of s.by_rest w.start s.whole)) n) (weight_whole s.by_rest s.whole) a.covers) };
        ways = rw a.keeps.by_rest a.ways;
        are_given = are_given;
      };
      none_final = none_final;
      level = 0;
      search = a.search;
      least = λ best. rw (a.keeps.by_rest, a.keeps.whole) (least best);
    }

least_next : (w : Wanted) (given : List GivenState) (s : Search) → IsSpent w given s → s.by_rest ≡ true → w.best ≡ true → (n : ℕ) → n < s.whole + 1 → Exhausted (over given s.by_rest) w.start n
least_next w given s h by best n under = elim (cases_lt n s.whole) [
  | inl before ↦ h.least best n (under_whole s.by_rest s.whole h.level n by before)
  | inr last ↦ let same : n ≡ s.whole = omega arith in h.spent n (omega arith) (λ e. same)
]

pub next_of : (w : Wanted) (given : List GivenState) (s t new : Search) → t.by_rest ≡ s.by_rest → t.whole ≡ s.whole + 1 → t.ways.items ≡ [] → t.known ≡ s.known → t.frontier.keys ≡ s.frontier.keys → s.whole < w.limit →
    IsSpent w given s → Adds t new (place_of t.by_rest w.start t.whole) (start_way t.by_rest w.start t.whole) (weight t.by_rest t.whole t.whole) → IsReady w given new
next_of w given s t new by_rest whole ways known due less h adds =
    let yes : s.by_rest ≡ true = must_be s.by_rest (λ no. let all : s.whole ≡ w.limit = h.under.by_cost no in absurd (omega arith)) in
    let best : w.best ≡ true = must_be w.best (λ no. let all : s.whole ≡ w.limit = h.under.any_plan no in absurd (omega arith)) in
    root_of w given t new h.under.bounded (omega arith) (λ no. absurd (clash t.by_rest no (by_rest ∙ yes))) (λ no. absurd (clash w.best no best)) h.under.are_given h.none_final ways
    (next_search s t h.level given (map asked_of given) yes h.dry by_rest ways known due h.search)
    (λ b n under. rw by_rest (least_next w given s h yes best n (rw whole at (below_whole t.by_rest t.whole 0 n (by_rest ∙ yes) under)))) adds

-- ---- the first number is begun

first_within : (limit : ℕ) (best by_rest : Bool) → first_number_of limit best by_rest ≤ limit
first_within limit true true = omega arith
first_within limit true false = omega arith
first_within limit false by_rest = omega arith

first_by_cost : (limit : ℕ) (best by_rest : Bool) → by_rest ≡ false → first_number_of limit best by_rest ≡ limit
first_by_cost limit true true e = absurd (cc)
first_by_cost limit true false e = refl
first_by_cost limit false by_rest e = refl

first_any : (limit : ℕ) (best by_rest : Bool) → best ≡ false → first_number_of limit best by_rest ≡ limit
first_any limit true by_rest e = absurd (cc)
first_any limit false by_rest e = refl

first_least : (limit : ℕ) (best by_rest : Bool) (n : ℕ) → best ≡ true → n < number_of by_rest (first_number_of limit best by_rest) 0 → ⊥
first_least limit true true n e h = absurd (omega arith)
first_least limit true false n e h = absurd (omega arith)
first_least limit false by_rest n e h = absurd (cc)

nothing_known : (s : Search) (k : Place) (t : Standing) → s.known.entries ≡ [] → known_of s k ≡ Some t → ⊥
nothing_known s k t none e = let it : None ≡ Some t = sym (ap (λ es. lookup (is_at (place_order k)) es) none) ∙ e in absurd (cc)

empty_search : (s : Search) → s.known.entries ≡ [] → s.frontier.keys ≡ [] → IsSearchNow s 0 [] []
empty_search s known due = record {
  dues = λ d among. absurd (nothing_contained d (subst (λ (ds : List Due). Contains ds d) due among));
  above = λ d among. absurd (nothing_contained d (subst (λ (ds : List Due). Contains ds d) due among));
  asked_known = λ p among. absurd (nothing_contained p among);
  asked_below = λ p among. absurd (nothing_contained p among);
  asked_within = λ p among. absurd (nothing_contained p among);
  known_asked = λ k t e. absurd (nothing_known s k t known e);
  known_due = λ k t e. absurd (nothing_known s k t known e);
  unfolds = λ e among. absurd (nothing_contained e among);
}

pub begun_of : (limit : ℕ) (best by_rest : Bool) (start : Tree) (s new : Search) → limit < 2 ^ 127 → s.by_rest ≡ by_rest → s.whole ≡ first_number_of limit best by_rest → s.ways.items ≡ [] → s.known.entries ≡ [] →
    s.frontier.keys ≡ [] → Adds s new (place_of s.by_rest start s.whole) (start_way s.by_rest start s.whole) (weight s.by_rest s.whole s.whole) →
    IsReady (record { best = best; start = start; limit = limit }) [] new
begun_of limit best by_rest start s new bounded is_by whole ways known due adds =
    root_of (record { best = best; start = start; limit = limit }) [] s new bounded (rw whole (first_within limit best by_rest))
    (λ no. whole ∙ first_by_cost limit best by_rest (sym is_by ∙ no)) (λ no. whole ∙ first_any limit best by_rest no)
    (record { rests = λ e among. absurd (nothing_contained e among); faultless = λ e among. absurd (nothing_contained e among) })
    (λ e among. absurd (nothing_contained e among)) ways (empty_search s known due)
    (λ yes n less. absurd (first_least limit best by_rest n yes (rw (is_by, whole) at less))) adds

-- ---- what the loop over the successors says

last_entry : (before : List GivenState) (e f : GivenState) → slice_get (before ++ e ∷ []) (length (before ++ e ∷ []) - 1) ≡ Some f → e ≡ f
last_entry before e f at =
    let count : length (before ++ e ∷ []) - 1 ≡ length before = simp length-append (omega arith) in
    one-some (slice_get (before ++ e ∷ []) (length before)) e f (get_append_last before e) (ap (λ (k : ℕ). slice_get (before ++ e ∷ []) k) (sym count) ∙ at)

pub entry_is : (w : Wanted) (given : List GivenState) (s : Search) (parent : ℕ) (entry : GivenState) → (h : IsAnswered w given s parent) → slice_get given (length given - 1) ≡ Some entry → h.entry ≡ entry
entry_is w given s parent entry h at = last_entry h.before h.entry entry (subst (λ (es : List GivenState). slice_get es (length es - 1) ≡ Some entry) h.last at)

get_at : {X : Type 0} (xs : List X) (i : ℕ) (x : X) → i < length xs → x ≡ get_or xs i x → slice_get xs i ≡ Some x
get_at [] i x less e = absurd (omega arith)
get_at (y ∷ ys) zero x less e = ap (λ z. Some z) (sym e)
get_at (y ∷ ys) (suc i) x less e = get_at ys i x (omega arith) e

pub unfold_more : (w : Wanted) (given : List GivenState) (s0 s new : Search) (parent i : ℕ) (entry : GivenState) (way : Way) (xs : List Successor) (n : Successor) (ws : List Way) → (h : IsAnswered w given s0 parent) →
    slice_get given (length given - 1) ≡ Some entry → ws ≡ s0.ways.items → Some way ≡ slice_get ws parent → xs ≡ entry.successors → i < length xs → n ≡ get_or xs i n → AddsStep s new parent way.rest n →
    Unfolding w given h.before h.entry h.way parent s i → Unfolding w given h.before h.entry h.way parent new (i + 1)
unfold_more w given s0 s new parent i entry way xs n ws h last ways at_way items within item adds u =
    let entries : h.entry ≡ entry = entry_is w given s0 parent entry h last in
    let same_way : way ≡ h.way = one-some (slice_get s0.ways.items parent) way h.way (ap (λ (vs : List Way). slice_get vs parent) (sym ways) ∙ sym at_way) h.at in
    let here : slice_get h.entry.successors i ≡ Some n =
    ap (λ (e : GivenState). slice_get e.successors i) entries ∙ (ap (λ (ns : List Successor). slice_get ns i) (sym items) ∙ get_at xs i n within item) in
    let among : Contains given h.entry = subst (λ (es : List GivenState). Contains es h.entry) (sym h.last) (Contains-push h.before h.entry) in
    unfolding_more w given h.before h.entry h.way parent s new i n among h.state h.rest here (subst (λ (x : Way). AddsStep s new parent x.rest n) same_way adds) u

pub unfold_end : (w : Wanted) (given : List GivenState) (s0 s : Search) (parent i : ℕ) (entry : GivenState) (xs : List Successor) → (h : IsAnswered w given s0 parent) → slice_get given (length given - 1) ≡ Some entry →
    entry.is_final ≡ false → xs ≡ entry.successors → i ≡ length xs → Unfolding w given h.before h.entry h.way parent s i → IsReady w given s
unfold_end w given s0 s parent i entry xs h last not_final items count u =
    let entries : h.entry ≡ entry = entry_is w given s0 parent entry h last in
    let counts : i ≡ length h.entry.successors = count ∙ (ap (λ (ns : List Successor). length ns) items ∙ ap (λ (e : GivenState). length e.successors) (sym entries)) in
    unfolding_end w given h.before h.entry h.way parent s h.last h.none_final (ap (λ (e : GivenState). e.is_final) entries ∙ not_final) h.state h.rest
    (subst (λ (k : ℕ). Unfolding w given h.before h.entry h.way parent s k) counts u)
