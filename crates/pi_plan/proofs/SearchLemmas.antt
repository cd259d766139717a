-- What each change of a search keeps.
use Rattle.std.proofs.Common.{◌≡◌, ◌≢◌, ℕ, ◌<◌, ◌≤◌, Bool, true, false, List, [], ◌∷◌, ◌++◌, length, Option, Some, None, refl, ap, sym, ◌∙◌, subst, inl, inr, arith}
use Rattle.std.specs.Prelude.{Contains, All, slice_get, not}
use Rattle.std.specs.BTreeMap.{BTreeMap}
use Rattle.std.specs.BTreeMap.Range.{IsLtBy}
use Rattle.std.specs.BTreeSet.{BTreeSet}
use Rattle.std.specs.Ordering.{nat_cmp, ordering_then}
use Rattle.std.specs.declared.cmp.Ordering.{Ordering}
use Rattle.std.specs.declared.cmp.Ordering.TheVariants.{Less, Equal, Greater}
use Rattle.std.proofs.lemmas.Cmp.{ranked, by_ranked}
use Rattle.std.proofs.lemmas.Bool.Decides.{nat_tests}
use Rattle.std.proofs.lemmas.List.Elements.{All-contains, Contains-append_left, Contains-push, Contains-push_cases}
use Rattle.pi_terms.proofs.GetLemmas.{get_append_left, get_append_last}
use Rattle.pi_terms.proofs.OptionLemmas.{one-some, none-some, same-some}
use Rattle.pi_plan.specs.declared.given.GivenState.{GivenState}
use Rattle.pi_plan.specs.declared.place.Place.{Place}
use Rattle.pi_plan.specs.declared.due.Due.{Due}
use Rattle.pi_plan.specs.declared.search.Way.{Way}
use Rattle.pi_plan.specs.declared.search.Standing.{Standing}
use Rattle.pi_plan.specs.declared.search.Search.{Search}
use Rattle.pi_plan.specs.Place.{place_of}
use Rattle.pi_plan.specs.Due.{due_order}
use Rattle.pi_plan.specs.Searching.{weight, Asked, asked_by, place_asked, Covers, IsDue, DueWithin, AskedAt, Unfolds, Improves, IsSearch}
use Rattle.pi_plan.specs.Search.{known_of, covers, Keeps, Puts, IsSearchNow, Skips, IsFirst, Takes, Marks, IsDry, opens}
use Rattle.pi_plan.proofs.PlaceLemmas.{one_or_other, later, first_or_later, nothing_contained}

abbrev pub standing : ℕ → Bool → Standing
standing c asked = record { cost = c; is_asked = asked }

pub same_costs : (a b : ℕ) (x y : Bool) → Some (standing a x) ≡ Some (standing b y) → a ≡ b
same_costs a b x y e =
    let it : standing a x ≡ standing b y = same-some e in
    ap (λ (s : Standing). s.cost) it

-- ---- one more way

covered_not : (o : Option Standing) (s : Standing) (cost : ℕ) → o ≡ Some s → s.cost ≤ cost → covers o cost ≡ false → ⊥
covered_not o s cost e h miss = let k : covers (Some s) cost ≡ false = rw e at miss in grind (arith, nat_tests)

better : (o : Option Standing) (cost most : ℕ) → covers o cost ≡ false → Covers o most → cost ≤ most
better None cost most miss h = absurd h
better (Some s) cost most miss h = grind (arith, nat_tests)

pub covered : (o : Option Standing) (cost : ℕ) → covers o cost ≡ true → Covers o cost
covered None cost hit = absurd (cc)
covered (Some s) cost hit = grind (arith, nat_tests)

due_stays : (by_rest : Bool) (whole : ℕ) (ways : List Way) (w : Way) (d : Due) → IsDue by_rest whole ways d → IsDue by_rest whole (ways ++ w ∷ []) d
due_stays by_rest whole ways w d h = record {
  way = h.way;
  at = get_append_left ways (w ∷ []) d.way h.way h.at;
  cost = h.cost;
  within = h.within;
  place = h.place;
}

due_new : (by_rest : Bool) (whole : ℕ) (ways : List Way) (w : Way) (cost : ℕ) (d : Due) → d ≡ record { cost = cost; way = length ways } → cost ≡ weight by_rest whole w.rest → w.rest ≤ whole →
    w.place ≡ place_of by_rest w.place.state w.rest → IsDue by_rest whole (ways ++ w ∷ []) d
due_new by_rest whole ways w cost d e costs within place = record {
  way = w;
  at = rw e (get_append_last ways w);
  cost = rw e costs;
  within = within;
  place = place;
}

within_stays : (ways : List Way) (w : Way) (due more : List Due) (k : Place) (most : ℕ) → ((d : Due) → Contains due d → Contains more d) → DueWithin ways due k most → DueWithin (ways ++ w ∷ []) more k most
within_stays ways w due more k most old h = record {
  it = h.it;
  among = old h.it h.among;
  way = h.way;
  at = get_append_left ways (w ∷ []) h.it.way h.way h.at;
  place = h.place;
  bound = h.bound;
}

pub put_improves : (old new : Search) (k : Place) (w : Way) (cost : ℕ) → Puts old new k w cost → covers (known_of old k) cost ≡ false → Improves (known_of old) (known_of new)
put_improves old new k w cost p miss q most h = elim (one_or_other k q) [
  | inl same ↦
      let before : Covers (known_of old k) most = subst (λ (x : Place). Covers (known_of old x) most) same h in
      subst (λ (x : Place). Covers (known_of new x) most) (sym same) (rw p.here (better (known_of old k) cost most miss before))
  | inr other ↦ rw (p.elsewhere q other) h
]

-- what is asked of a way that is put
pub record IsFit (by_rest : Bool) (whole least : ℕ) (k : Place) (w : Way) (spent : ℕ) : Type 0 where
  pub level : least ≤ spent
  pub cost : spent ≡ weight by_rest whole w.rest
  pub within : w.rest ≤ whole
  pub place : w.place ≡ k
  pub is_place : w.place ≡ place_of by_rest w.place.state w.rest

pub search_put : (old new : Search) (k : Place) (w : Way) (cost level : ℕ) (unfolded : List GivenState) (asked : List Asked) → Puts old new k w cost → covers (known_of old k) cost ≡ false →
    IsFit old.by_rest old.whole level k w cost → IsSearchNow old level unfolded asked → IsSearch old.by_rest old.whole level unfolded asked new.ways.items (known_of new) new.frontier.keys
search_put old new k w cost level unfolded asked p miss fit h = record {
  dues = λ d among. elim (p.due_cases d among) [
    | inl was ↦ subst (λ (ws : List Way). IsDue old.by_rest old.whole ws d) (sym p.ways) (due_stays old.by_rest old.whole old.ways.items w d (h.dues d was))
    | inr e ↦ subst (λ (ws : List Way). IsDue old.by_rest old.whole ws d) (sym p.ways) (due_new old.by_rest old.whole old.ways.items w cost d e fit.cost fit.within fit.is_place)
  ];
  above = λ d among. elim (p.due_cases d among) [
    | inl was ↦ h.above d was
    | inr e ↦ subst (λ (x : Due). level ≤ x.cost) (sym e) fit.level
  ];
  asked_known = λ q among. elim (one_or_other k (place_asked old.by_rest q)) [
    | inl same ↦ absurd (covered_not (known_of old k) (standing (weight old.by_rest old.whole q.rest) true) cost (ap (known_of old) (sym same) ∙ h.asked_known q among) (omega (arith, h.asked_below q among, fit.level)) miss)
    | inr other ↦ p.elsewhere (place_asked old.by_rest q) other ∙ h.asked_known q among
  ];
  asked_below = h.asked_below;
  asked_within = h.asked_within;
  known_asked = λ q s e hit. elim (one_or_other k q) [
    | inl same ↦
        let it : Some (standing cost false) ≡ Some s = sym p.here ∙ (ap (known_of new) (sym same) ∙ e) in
        absurd (cc)
    | inr other ↦ h.known_asked q s (sym (p.elsewhere q other) ∙ e) hit
  ];
  known_due = λ q s e hit. elim (one_or_other k q) [
    | inl same ↦
        let it : Some (standing cost false) ≡ Some s = sym p.here ∙ (ap (known_of new) (sym same) ∙ e) in
        let costs : cost ≡ s.cost = cc in
        record {
          it = record { cost = cost; way = length old.ways.items };
          among = p.due_new;
          way = w;
          at = rw p.ways (get_append_last old.ways.items w);
          place = fit.place ∙ sym same;
          bound = omega arith;
        }
    | inr other ↦ subst (λ (ws : List Way). DueWithin ws new.frontier.keys q s.cost) (sym p.ways)
        (within_stays old.ways.items w old.frontier.keys new.frontier.keys q s.cost p.due_old (h.known_due q s (sym (p.elsewhere q other) ∙ e) hit))
  ];
  unfolds = λ e among n offered c costs enough. put_improves old new k w cost p miss _ _ (h.unfolds e among n offered c costs enough);
}

-- ---- the first way that is due

rest_within : (ways : List Way) (d : Due) (due : List Due) (w : Way) (k : Place) (most : ℕ) → slice_get ways d.way ≡ Some w → (w.place ≡ k → ⊥) → DueWithin ways (d ∷ due) k most → DueWithin ways due k most
rest_within ways d due w k most at not h = elim (first_or_later d due h.it h.among) [
  | inl same ↦
      let here : slice_get ways d.way ≡ Some h.way = subst (λ (x : Due). slice_get ways x.way ≡ Some h.way) (sym same) h.at in
      let one : w ≡ h.way = one-some (slice_get ways d.way) w h.way at here in
      absurd (not (ap (λ (x : Way). x.place) one ∙ h.place))
  | inr rest ↦ record { it = h.it; among = rest; way = h.way; at = h.at; place = h.place; bound = h.bound }
]

-- it is left out where its place was asked for already
pub search_stale : (by_rest : Bool) (whole level : ℕ) (unfolded : List GivenState) (asked : List Asked) (ways : List Way) (known : Place → Option Standing) (d : Due) (due : List Due) (w : Way) →
    slice_get ways d.way ≡ Some w → ((s : Standing) → known w.place ≡ Some s → s.is_asked ≡ false → ⊥) →
    IsSearch by_rest whole level unfolded asked ways known (d ∷ due) → IsSearch by_rest whole level unfolded asked ways known due
search_stale by_rest whole level unfolded asked ways known d due w at stale h = record {
  dues = λ x among. h.dues x (later d due x among);
  above = λ x among. h.above x (later d due x among);
  asked_known = h.asked_known;
  asked_below = h.asked_below;
  asked_within = h.asked_within;
  known_asked = h.known_asked;
  known_due = λ k s e hit. rest_within ways d due w k s.cost at (λ same. stale s (ap known same ∙ e) hit) (h.known_due k s e hit);
  unfolds = h.unfolds;
}

-- it is taken where it wasn't
pub record IsMarked (known marked : Place → Option Standing) (k : Place) (spent : ℕ) : Type 0 where
  pub here : marked k ≡ Some (standing spent true)
  pub elsewhere : (q : Place) → q ≢ k → marked q ≡ known q

least_bound : (ways : List Way) (d : Due) (due : List Due) (k : Place) (most : ℕ) → ((x : Due) → Contains due x → d.cost ≤ x.cost) → DueWithin ways (d ∷ due) k most → d.cost ≤ most
least_bound ways d due k most least h = elim (first_or_later d due h.it h.among) [
  | inl same ↦ let e : d.cost ≡ h.it.cost = ap (λ (x : Due). x.cost) same in omega (arith, h.bound)
  | inr rest ↦ omega (arith, h.bound, least h.it rest)
]

pub mark_improves : (ways : List Way) (known marked : Place → Option Standing) (d : Due) (due : List Due) (k : Place) (s : Standing) → IsMarked known marked k d.cost → known k ≡ Some s → d.cost ≤ s.cost →
    Improves known marked
mark_improves ways known marked d due k s m was least q most h = elim (one_or_other k q) [
  | inl same ↦
      let before : Covers (Some s) most = subst (λ (o : Option Standing). Covers o most) was (subst (λ (x : Place). Covers (known x) most) same h) in
      subst (λ (x : Place). Covers (marked x) most) (sym same) (rw m.here (omega (arith, before, least)))
  | inr other ↦ rw (m.elsewhere q other) h
]

pub search_taken : (by_rest : Bool) (whole level : ℕ) (unfolded : List GivenState) (asked : List Asked) (ways : List Way) (known marked : Place → Option Standing) (d : Due) (due : List Due) (w : Way) (s : Standing) →
    slice_get ways d.way ≡ Some w → known w.place ≡ Some s → s.is_asked ≡ false → IsMarked known marked w.place d.cost → ((x : Due) → Contains due x → d.cost ≤ x.cost) →
    d.cost ≡ weight by_rest whole w.rest → w.rest ≤ whole → w.place ≡ place_of by_rest w.place.state w.rest →
    IsSearch by_rest whole level unfolded asked ways known (d ∷ due) → IsSearch by_rest whole (weight by_rest whole w.rest) unfolded (asked ++ asked_by w ∷ []) ways marked due
search_taken by_rest whole level unfolded asked ways known marked d due w s at was fresh m least costs within is_place h =
    let above : level ≤ d.cost = h.above d (0, omega arith, refl) in
    let no_worse : d.cost ≤ s.cost = least_bound ways d due w.place s.cost least (h.known_due w.place s was fresh) in
    record {
      dues = λ x among. h.dues x (later d due x among);
      above = λ x among. omega (arith, least x among, costs);
      asked_known = λ q among. elim (Contains-push_cases asked (asked_by w) q among) [
        | inl before ↦ elim (one_or_other w.place (place_asked by_rest q)) [
          | inl same ↦
              let it : Some (standing (weight by_rest whole q.rest) true) ≡ Some s = sym (h.asked_known q before) ∙ (ap known same ∙ was) in
              absurd (cc)
          | inr other ↦ m.elsewhere (place_asked by_rest q) other ∙ h.asked_known q before
        ]
        | inr same ↦ subst (λ (x : Asked). marked (place_asked by_rest x) ≡ Some (standing (weight by_rest whole x.rest) true)) same
            (ap marked (sym is_place) ∙ (m.here ∙ ap (λ (n : ℕ). Some (standing n true)) costs))
      ];
      asked_below = λ q among. elim (Contains-push_cases asked (asked_by w) q among) [
        | inl before ↦ omega (arith, h.asked_below q before, above, costs)
        | inr same ↦ subst (λ (x : Asked). weight by_rest whole x.rest ≤ weight by_rest whole w.rest) same (omega arith)
      ];
      asked_within = λ q among not. elim (Contains-push_cases asked (asked_by w) q among) [
        | inl before ↦ h.asked_within q before not
        | inr same ↦ subst (λ (x : Asked). x.rest ≤ whole) same within
      ];
      known_asked = λ k t e hit. elim (one_or_other w.place k) [
        | inl same ↦ record { it = asked_by w; among = Contains-push asked (asked_by w); place = sym is_place ∙ sym same }
        | inr other ↦
            let before : AskedAt by_rest asked k = h.known_asked k t (sym (m.elsewhere k other) ∙ e) hit in
            record { it = before.it; among = Contains-append_left asked (asked_by w ∷ []) before.it before.among; place = before.place }
      ];
      known_due = λ k t e hit. elim (one_or_other w.place k) [
        | inl same ↦
            let it : Some (standing d.cost true) ≡ Some t = sym m.here ∙ (ap marked (sym same) ∙ e) in
            absurd (cc)
        | inr other ↦ rest_within ways d due w k t.cost at (λ same. other (sym same)) (h.known_due k t (sym (m.elsewhere k other) ∙ e) hit)
      ];
      unfolds = λ e among n offered c c_is enough. mark_improves ways known marked d due w.place s m was no_worse _ _ (h.unfolds e among n offered c c_is enough);
    }

-- a place that wasn't asked for is that of none before
pub fresh_place : (by_rest : Bool) (whole level : ℕ) (unfolded : List GivenState) (asked : List Asked) (ways : List Way) (known : Place → Option Standing) (due : List Due) (k : Place) (s : Standing) →
    known k ≡ Some s → s.is_asked ≡ false → IsSearch by_rest whole level unfolded asked ways known due → (p : Asked) → Contains asked p → place_asked by_rest p ≡ k → ⊥
fresh_place by_rest whole level unfolded asked ways known due k s was fresh h p among same =
    let it : Some (standing (weight by_rest whole p.rest) true) ≡ Some s = sym (h.asked_known p among) ∙ (ap known same ∙ was) in
    absurd (cc)

-- ---- one more entry is unfolded

pub search_unfolded : (by_rest : Bool) (whole level : ℕ) (unfolded : List GivenState) (asked : List Asked) (ways : List Way) (known : Place → Option Standing) (due : List Due) (e : GivenState) →
    Unfolds by_rest whole known e → IsSearch by_rest whole level unfolded asked ways known due → IsSearch by_rest whole level (unfolded ++ e ∷ []) asked ways known due
search_unfolded by_rest whole level unfolded asked ways known due e all h = record {
  dues = h.dues;
  above = h.above;
  asked_known = h.asked_known;
  asked_below = h.asked_below;
  asked_within = h.asked_within;
  known_asked = h.known_asked;
  known_due = h.known_due;
  unfolds = λ f among. elim (Contains-push_cases unfolded e f among) [
    | inl before ↦ h.unfolds f before
    | inr same ↦ subst (λ (x : GivenState). Unfolds by_rest whole known x) same all
  ];
}

-- ---- by rests, the next number

pub search_next : (whole more level : ℕ) (unfolded : List GivenState) (asked : List Asked) (ways : List Way) (known : Place → Option Standing) →
    IsSearch true whole level unfolded asked ways known [] → IsSearch true more 0 unfolded asked [] known []
search_next whole more level unfolded asked ways known h = record {
  dues = λ d among. absurd (nothing_contained d among);
  above = λ d among. absurd (nothing_contained d among);
  asked_known = h.asked_known;
  asked_below = λ p among. omega arith;
  asked_within = λ p among not. absurd (cc);
  known_asked = h.known_asked;
  known_due = λ k s e hit. let d : DueWithin ways [] k s.cost = h.known_due k s e hit in absurd (nothing_contained d.it d.among);
  unfolds = h.unfolds;
}

-- ---- ways are left out, one after another

pub record Skipping (old new : Search) : Type 0 where
  pub keeps : Keeps old new
  pub skips : (level : ℕ) (unfolded : List GivenState) (asked : List Asked) → IsSearchNow old level unfolded asked → Skips old new level unfolded asked

-- the first of those that are due is taken out of the frontier
pub first_of : (s : Search) (f : BTreeSet Due) (level : ℕ) (unfolded : List GivenState) (asked : List Asked) (d : Due) → s.frontier.keys ≡ d ∷ f.keys → ((x : Due) → Contains f.keys x → d.cost ≤ x.cost) →
    IsSearchNow s level unfolded asked → IsFirst (record s { frontier = f }) level unfolded asked d
first_of s f level unfolded asked d keys least h = record {
  search = subst (λ (ds : List Due). IsSearch s.by_rest s.whole level unfolded asked s.ways.items (known_of s) ds) keys h;
  least = least;
}

one_due : (by_rest : Bool) (whole : ℕ) (ways : List Way) (d : Due) (w : Way) → slice_get ways d.way ≡ Some w → IsDue by_rest whole ways d →
    (d.cost ≡ weight by_rest whole w.rest) × (w.rest ≤ whole) × (w.place ≡ place_of by_rest w.place.state w.rest)
one_due by_rest whole ways d w at h =
    let same : h.way ≡ w = one-some (slice_get ways d.way) h.way w h.at at in
    subst (λ (x : Way). (d.cost ≡ weight by_rest whole x.rest) × (x.rest ≤ whole) × (x.place ≡ place_of by_rest x.place.state x.rest)) same (h.cost, h.within, h.place)

pub take_none : (s : Search) (level : ℕ) (unfolded : List GivenState) (asked : List Asked) (d : Due) → slice_get s.ways.items d.way ≡ None → IsFirst s level unfolded asked d → Skips s s level unfolded asked
take_none s level unfolded asked d none h =
    let due : IsDue s.by_rest s.whole s.ways.items d = h.search.dues d (0, omega arith, refl) in
    absurd (none-some none due.at)

opens_unasked : (o : Option Standing) (t : Standing) → o ≡ Some t → t.is_asked ≡ false → opens o ≡ true
opens_unasked o t e miss = rw e (rw miss refl)

pub take_stale : (s : Search) (level : ℕ) (unfolded : List GivenState) (asked : List Asked) (d : Due) (w : Way) → slice_get s.ways.items d.way ≡ Some w → opens (known_of s w.place) ≡ false →
    IsFirst s level unfolded asked d → Skips s s level unfolded asked
take_stale s level unfolded asked d w at closed h = record {
  ways = refl;
  improves = λ k most c. c;
  search = search_stale s.by_rest s.whole level unfolded asked s.ways.items (known_of s) d s.frontier.keys w at
      (λ t e miss. let open_now : opens (known_of s w.place) ≡ true = opens_unasked (known_of s w.place) t e miss in absurd (cc)) h.search;
}

not_false : (x : Bool) → not x ≡ true → x ≡ false
not_false true e = absurd (cc)
not_false false e = refl

open_standing : (o : Option Standing) → opens o ≡ true → (t : Standing) × (o ≡ Some t) × (t.is_asked ≡ false)
open_standing None e = absurd (cc)
open_standing (Some t) e = (t, refl, not_false t.is_asked e)

pub take_marked : (s : Search) (m : BTreeMap Place Standing) (level : ℕ) (unfolded : List GivenState) (asked : List Asked) (d : Due) (w : Way) → slice_get s.ways.items d.way ≡ Some w →
    opens (known_of s w.place) ≡ true → Marks s.known m w.place d.cost → IsFirst s level unfolded asked d → Takes s (record s { known = m }) unfolded asked d.way
take_marked s m level unfolded asked d w at open_now marks h =
    let t : (t : Standing) × (known_of s w.place ≡ Some t) × (t.is_asked ≡ false) = open_standing (known_of s w.place) open_now in
    let due : (d.cost ≡ weight s.by_rest s.whole w.rest) × (w.rest ≤ s.whole) × (w.place ≡ place_of s.by_rest w.place.state w.rest) =
    one_due s.by_rest s.whole s.ways.items d w at (h.search.dues d (0, omega arith, refl)) in
    let now : Place → Option Standing = known_of (record s { known = m }) in
    let marked : IsMarked (known_of s) now w.place d.cost = record { here = marks.here; elsewhere = marks.elsewhere } in
    let no_worse : d.cost ≤ t.0.cost = least_bound s.ways.items d s.frontier.keys w.place t.0.cost h.least (h.search.known_due w.place t.0 t.1 t.2) in
    record {
      ways = refl;
      improves = mark_improves s.ways.items (known_of s) now d s.frontier.keys w.place t.0 marked t.1 no_worse;
      way = w;
      at = at;
      within = due.1;
      place = due.2;
      fresh = fresh_place s.by_rest s.whole level unfolded asked s.ways.items (known_of s) (d ∷ s.frontier.keys) w.place t.0 t.1 t.2 h.search;
      search = search_taken s.by_rest s.whole level unfolded asked s.ways.items (known_of s) now d s.frontier.keys w t.0 at t.1 t.2 marked h.least due.0 due.1 due.2 h.search;
    }

-- ---- the loop that takes ways

less_cost : (d x : Due) (o p : Ordering) → nat_cmp d.cost x.cost ≡ o → ordering_then o p ≡ Less → d.cost ≤ x.cost
less_cost d x Less p e h = by_ranked (d.cost < x.cost) (d.cost ≡ x.cost) (x.cost < d.cost) (nat_cmp d.cost x.cost) (ranked d.cost x.cost (nat_cmp d.cost x.cost) refl) (λ f l. omega arith) (λ f l. omega arith) (λ f l. absurd (cc))
less_cost d x Equal p e h = by_ranked (d.cost < x.cost) (d.cost ≡ x.cost) (x.cost < d.cost) (nat_cmp d.cost x.cost) (ranked d.cost x.cost (nat_cmp d.cost x.cost) refl) (λ f l. omega arith) (λ f l. omega arith) (λ f l. absurd (cc))
less_cost d x Greater p e h = absurd (cc)

pub least_of : (d : Due) (ds : List Due) → All (IsLtBy due_order d) ds → (x : Due) → Contains ds x → d.cost ≤ x.cost
least_of d ds all x among = less_cost d x (nat_cmp d.cost x.cost) (nat_cmp d.way x.way) refl (All-contains (IsLtBy due_order d) ds x all among)

pub skipping_more : (old s : Search) (f : BTreeSet Due) (new : Search) (d : Due) → Skipping old s → s.frontier.keys ≡ d ∷ f.keys → All (IsLtBy due_order d) f.keys → Keeps (record s { frontier = f }) new →
    ((level : ℕ) (unfolded : List GivenState) (asked : List Asked) → IsFirst (record s { frontier = f }) level unfolded asked d → Skips (record s { frontier = f }) new level unfolded asked) → Skipping old new
skipping_more old s f new d before keys all keeps more = record {
  keeps = record { by_rest = keeps.by_rest ∙ before.keeps.by_rest; whole = keeps.whole ∙ before.keeps.whole };
  skips = λ level unfolded asked h.
      let was : Skips old s level unfolded asked = before.skips level unfolded asked h in
      let now : Skips (record s { frontier = f }) new level unfolded asked = more level unfolded asked (first_of s f level unfolded asked d keys (least_of d f.keys all) was.search) in
      record { ways = now.ways ∙ was.ways; improves = λ k most c. now.improves k most (was.improves k most c); search = now.search };
}

pub takes_at_last : (old s : Search) (f : BTreeSet Due) (new : Search) (d : Due) → Skipping old s → s.frontier.keys ≡ d ∷ f.keys → All (IsLtBy due_order d) f.keys →
    ((level : ℕ) (unfolded : List GivenState) (asked : List Asked) → IsFirst (record s { frontier = f }) level unfolded asked d → Takes (record s { frontier = f }) new unfolded asked d.way) →
    (level : ℕ) (unfolded : List GivenState) (asked : List Asked) → IsSearchNow old level unfolded asked → Takes old new unfolded asked d.way
takes_at_last old s f new d before keys all takes level unfolded asked h =
    let was : Skips old s level unfolded asked = before.skips level unfolded asked h in
    let now : Takes (record s { frontier = f }) new unfolded asked d.way = takes level unfolded asked (first_of s f level unfolded asked d keys (least_of d f.keys all) was.search) in
    record {
      ways = now.ways ∙ was.ways;
      improves = λ k most c. now.improves k most (was.improves k most c);
      way = now.way;
      at = now.at;
      within = now.within;
      place = now.place;
      fresh = now.fresh;
      search = now.search;
    }

pub dry_at_last : (old s : Search) (f : BTreeSet Due) → Skipping old s → s.frontier.keys ≡ [] → f.keys ≡ s.frontier.keys → (level : ℕ) (unfolded : List GivenState) (asked : List Asked) →
    IsSearchNow old level unfolded asked → IsDry old (record s { frontier = f }) level unfolded asked
dry_at_last old s f before none same level unfolded asked h =
    let was : Skips old s level unfolded asked = before.skips level unfolded asked h in
    record {
      skips = record {
        ways = was.ways;
        improves = was.improves;
        search = subst (λ (ds : List Due). IsSearch s.by_rest s.whole level unfolded asked s.ways.items (known_of s) ds) (sym same) was.search;
      };
      dry = same ∙ none;
    }

pub no_keys : (ds : List Due) → (0 < length ds → ⊥) → ds ≡ []
no_keys [] h = refl
no_keys (d ∷ ds) h = absurd (h (omega arith))
