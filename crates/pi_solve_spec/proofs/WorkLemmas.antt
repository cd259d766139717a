-- Wanted calls, and the bounds of work.
use Rattle.std.specs.Prelude.{◌≡◌, ℕ, suc, ◌+◌, ◌*◌, ◌≤◌, List, [], ◌∷◌, ◌++◌, length, sum_by, slice_index_or, All, Contains, refl}
use Rattle.std.proofs.Common.{◌∙◌, sym, ap, subst, arith, append_assoc, le_trans, le_refl, not-le_of_lt, add-le-add, mul-le-mul_right}
use Rattle.std.proofs.lemmas.List.Sums.{sum_by-cons}
use Rattle.pi_terms.specs.Tree.{Tree}
use Rattle.pi_traces.specs.Trace.{Trace, Call, Note, Tick, Load, Out, note, events_of, count_ticks, ticks}
use Rattle.pi_traces.specs.Depth.{deeper, same_end, same_note, same_answer}
use Rattle.pi_constraints.specs.State.{State}
use Rattle.pi_core.specs.declared.log.LogEntry.{LogEntry}
use Rattle.pi_meaning.specs.Shared.View.{body_view, call_of}
use Rattle.pi_settling.specs.Runs.{work_of}
use Rattle.pi_solve_spec.specs.Bodies.{Bodies, Offer}
use Rattle.pi_solve_spec.specs.Steps.{CallReaches}
use Rattle.pi_solve_spec.specs.Calls.{IsFront, itself, further, IsWanted}
use Rattle.pi_solve_spec.specs.Counted.{loads_of, loads, Count, its_ticks, its_loads, AtMostUnder, AtMost, AtMostEach, Expansion, AreExpanded, ReachesAtMost}
use Rattle.pi_solve_spec.specs.Known.{MoreKnown, known_now, known_end, known_note, known_answer, AreBodies}
use Rattle.pi_solve_spec.specs.WorkBounds.{Planning, calls_entered, entries_added, run_loads, most_work}
use Rattle.pi_solve_spec.specs.WorkLaws.{EdgesStay, ChainsStay, WantedStaysWanted, NothingIsWanted, NothingIsEntered, OnlyRunsAreCounted, LoadsAdd, DepthAddsCounts, KnownAddsCounts, SumsAreMonotone, WholeLogsBound, ReachedBoundsExpanded, WorkIsBounded, GreaterBudgetsLast}
use Rattle.pi_solve_spec.proofs.TraceLemmas.{none-contained}
use Rattle.pi_solve_spec.proofs.KnownLemmas.{goes_on-stays}

-- ---- wanted calls

front-longer : (least : ℕ) (log more front : List LogEntry) → IsFront least log front → IsFront least (log ++ more) front
front-longer least log more front h = record {
  behind = h.behind ++ more;
  parts = ap (λ (l : List LogEntry). l ++ more) h.parts ∙ append_assoc front h.behind more;
  enough = h.enough;
}

pub edges_stay : EdgesStay
edges_stay b least log more c d h = record { front = h.front; is_front = front-longer least log more h.front h.is_front; misses = h.misses }

pub chains_stay : ChainsStay
chains_stay b least log more c _ itself = itself
chains_stay b least log more c _ (further d e r h) = further d e (chains_stay b least log more c d r) (edges_stay b least log more d e h)

pub wanted_stays : {A : Type 0} → WantedStaysWanted A
wanted_stays b q known log more c w = record {
  first = w.first;
  asks = record { front = w.asks.front; is_front = front-longer known log more w.asks.front w.asks.is_front; depth = w.asks.depth; ends = w.asks.ends };
  leads = chains_stay b known log more w.first c w.leads;
}

pub nothing_is_wanted : {A : Type 0} → NothingIsWanted A
nothing_is_wanted b q known log c none w = none w.asks.front w.asks.depth w.first w.asks.ends

none-listed : {X : Type 0} (P : X → Type 0) (xs : List X) → All P xs → ((x : X) → P x → ⊥) → xs ≡ []
none-listed P [] all none = refl
none-listed P (x ∷ xs) all none = absurd (none x (all 0 x (omega arith)))

pub nothing_is_entered : {A : Type 0} → NothingIsEntered A
nothing_is_entered p q t nothing enters =
    let none : calls_entered t ≡ [] =
    none-listed (IsWanted p.bodies q t.query.known t.log) (calls_entered t) enters.wanted (λ c w. nothing_is_wanted p.bodies q t.query.known t.log c nothing w) in (
      none,
      none-listed (λ e. Contains (calls_entered t) (call_of e)) (entries_added t) enters.added
          (λ e h. none-contained (call_of e) (subst (λ (calls : List Call). Contains calls (call_of e)) none h)),
    )

-- ---- sums

pub loads_add : {A : Type 0} → LoadsAdd A
unfolding loads_of
loads_add [] others = omega arith
loads_add (event ∷ first) others = let rest : loads_of (first ++ others) ≡ loads_of first + loads_of others = loads_add first others in omega arith

-- a note in front of both
note-adds : {A : Type 0} (n : Note) (t u : Trace A) → (ticks t ≤ ticks u) × (loads t ≤ loads u) → (ticks (note n t) ≤ ticks (note n u)) × (loads (note n t) ≤ loads (note n u))
unfolding events_of count_ticks loads_of
note-adds Tick t u (h, k) = (omega arith, omega arith)
note-adds (Load i) t u (h, k) = (omega arith, omega arith)
note-adds (Out text) t u (h, k) = (omega arith, omega arith)

pub depth_adds : {A : Type 0} → DepthAddsCounts A
unfolding events_of count_ticks loads_of
depth_adds t u (deeper v) = (omega arith, omega arith)
depth_adds t u (same_end e) = (omega arith, omega arith)
depth_adds t u (same_note n {t = t'} {u = u'} h) = note-adds n t' u' (depth_adds t' u' h)
depth_adds t u (same_answer x {t = t'} {u = u'} h) = let rest : (ticks t' ≤ ticks u') × (loads t' ≤ loads u') = depth_adds t' u' h in (rest.0, let more : loads t' ≤ loads u' = rest.1 in omega arith)

pub known_adds : {A : Type 0} → KnownAddsCounts A
unfolding events_of count_ticks loads_of
known_adds t u (known_now c v) = (omega arith, omega arith)
known_adds t u (known_end e) = (omega arith, omega arith)
known_adds t u (known_note n {t = t'} {u = u'} h) = note-adds n t' u' (known_adds t' u' h)
known_adds t u (known_answer x {t = t'} {u = u'} h) = let rest : (ticks t' ≤ ticks u') × (loads t' ≤ loads u') = known_adds t' u' h in (rest.0, let more : loads t' ≤ loads u' = rest.1 in omega arith)

pub sums_are_monotone : SumsAreMonotone
sums_are_monotone f g [] all = omega arith
sums_are_monotone f g (c ∷ calls) all =
    let first : f c ≤ g c = all 0 c (omega arith) in
    let rest : sum_by f calls ≤ sum_by g calls = sums_are_monotone f g calls (λ k d l. all (suc k) d (omega arith)) in
    let left : sum_by f (c ∷ calls) ≡ f c + sum_by f calls = sum_by-cons f c calls in
    let right : sum_by g (c ∷ calls) ≡ g c + sum_by g calls = sum_by-cons g c calls in
    omega arith

-- ---- bounds

-- more that is known adds to what is counted
abbrev Grows : Count → Type 1
Grows count = (A : Type 0) (t u : Trace A) → MoreKnown t u → count A t ≤ count A u

whole-bounds : (count : Count) → Grows count → (b : Bodies) (log : List LogEntry) (s : Tree) (r most : ℕ) → AreBodies b → AtMostUnder count b log s r most → AtMost count b log s r most
whole-bounds count grows b log s r most are h front is =
    let whole : AtMostUnder count b (front ++ is.behind) s r most = subst (λ (l : List LogEntry). AtMostUnder count b l s r most) is.parts h in
    record {
      final = λ d. le_trans (grows State (b.final (body_view front [] r) s d) (b.final (body_view (front ++ is.behind) [] r) s d) (are.final_longer front is.behind r s d)) (whole.final d);
      both = λ goes d.
          le_trans (add-le-add (grows State (b.final (body_view front [] r) s d) (b.final (body_view (front ++ is.behind) [] r) s d) (are.final_longer front is.behind r s d))
          (grows Offer (b.action (body_view front [] r) s d) (b.action (body_view (front ++ is.behind) [] r) s d) (are.action_longer front is.behind r s d)))
          (whole.both (goes_on-stays b front is.behind s r are goes) d);
    }

pub whole_logs_bound : WholeLogsBound
whole_logs_bound b log s r most are = (
  whole-bounds its_ticks (λ A t u h. (known_adds t u h).0) b log s r most are,
  whole-bounds its_loads (λ A t u h. (known_adds t u h).1) b log s r most are,
)

each-expanded : (count : Count) (p : Planning) (log : List LogEntry) (calls : List Call) (expanded : List Expansion) (most : ℕ) → AreExpanded p.by_rests p.bodies log calls expanded →
    All (λ c. (s : Tree) (r : ℕ) → CallReaches p.bodies log c s r → AtMost count p.bodies log s r most) calls → AtMostEach count p.bodies log expanded most
each-expanded count p log calls expanded most are bounds k e l =
    let at : Expansion = slice_index_or expanded k e in
    let listed : Contains calls at.call = are.of_calls k e l in
    let bound : (s : Tree) (r : ℕ) → CallReaches p.bodies log at.call s r → AtMost count p.bodies log s r most =
    subst (λ (c : Call). (s : Tree) (r : ℕ) → CallReaches p.bodies log c s r → AtMost count p.bodies log s r most) listed.2 (bounds listed.0 at.call listed.1) in
    bound at.pair.state at.pair.rest (are.reached k e l)

pub reached_bounds_expanded : ReachedBoundsExpanded
reached_bounds_expanded p log calls expanded most are = (each-expanded its_ticks p log calls expanded most are, each-expanded its_loads p log calls expanded most are)

all-in : {X : Type 0} (P : X → Type 0) (xs : List X) → length xs ≤ 0 → All P xs
all-in P xs none k d l = absurd (omega arith)

none-expanded : (calls : List Call) (n : ℕ) → calls ≡ [] → n ≤ sum_by (λ (c : Call). 0) calls → n ≤ 0
none-expanded calls n none h = subst (λ (cs : List Call). n ≤ sum_by (λ (c : Call). 0) cs) none h

only-runs : (goals runs expansions loads : ℕ) → expansions ≤ 0 → goals ≤ expansions * 0 → runs ≤ loads + expansions * 0 → goals + runs + expansions ≤ loads
only-runs goals runs expansions loads e g r = omega arith

pub only_runs_are_counted : {A : Type 0} → OnlyRunsAreCounted A
only_runs_are_counted p q t depth reaches keeps none =
    let calls : length (calls_entered t) ≤ 0 = subst (λ (cs : List Call). length cs ≤ 0) (sym none) (omega arith) in
    let expansions : t.query.work.expansions ≤ 0 =
    none-expanded (calls_entered t) t.query.work.expansions none
    (keeps.expansions (λ c. 0) (all-in (λ c. ReachesAtMost p.by_rests p.bodies t.log c 0) (calls_entered t) calls)) in
    let expanded : length keeps.expanded ≤ 0 = subst (λ (n : ℕ). n ≤ 0) keeps.number expansions in
    only-runs t.query.work.goals t.query.work.runs t.query.work.expansions (run_loads q t.log depth) expansions
    (keeps.goals 0 (all-in (λ e. AtMost its_ticks p.bodies t.log e.pair.state e.pair.rest 0) keeps.expanded expanded))
    (keeps.runs depth 0 reaches (all-in (λ e. AtMost its_loads p.bodies t.log e.pair.state e.pair.rest 0) keeps.expanded expanded))

-- what three numbers come to that keep to their bounds, where the third bounds the other two
summed : (goals runs expansions reached ticks loads in_run : ℕ) → goals ≤ expansions * ticks → runs ≤ in_run + expansions * loads → expansions ≤ reached →
    goals + runs + expansions ≤ most_work reached ticks loads in_run
summed goals runs expansions reached ticks loads in_run g r e =
    let more_ticks : expansions * ticks ≤ reached * ticks = mul-le-mul_right ticks e in
    let more_loads : expansions * loads ≤ reached * loads = mul-le-mul_right loads e in
    add-le-add (add-le-add (le_trans g more_ticks) (le_trans r (add-le-add (le_refl in_run) more_loads))) e

pub work_is_bounded : {A : Type 0} → WorkIsBounded A
work_is_bounded p q t keeps limits =
    summed t.query.work.goals t.query.work.runs t.query.work.expansions (sum_by limits.reached (calls_entered t)) limits.ticks limits.loads (run_loads q t.log limits.depth)
    (keeps.goals limits.ticks limits.ticks_bound) (keeps.runs limits.depth limits.loads limits.depth_reaches limits.loads_bound) (keeps.expansions limits.reached limits.reached_bound)

pub greater_budgets_last : {A : Type 0} → GreaterBudgetsLast A
greater_budgets_last p q t keeps limits budget above spent =
    let bounded : work_of t.query.work ≤ most_work (sum_by limits.reached (calls_entered t)) limits.ticks limits.loads (run_loads q t.log limits.depth) = work_is_bounded p q t keeps limits in
    let least : budget ≤ most_work (sum_by limits.reached (calls_entered t)) limits.ticks limits.loads (run_loads q t.log limits.depth) = subst (λ (n : ℕ). n ≤ most_work (sum_by limits.reached (calls_entered t)) limits.ticks limits.loads (run_loads q t.log limits.depth)) spent bounded in
    not-le_of_lt above least
