-- The end of a level, or of what is passed over: there is no further answer.
use Rattle.std.proofs.Common.{◌≡◌, ℕ, ◌+◌, ◌<◌, Bool, false, List, ◌∷◌, Option, None, length, refl, sym, ◌∙◌, ap, subst, arith}
use Rattle.std.specs.Prelude.{slice_get}
use Rattle.pi_terms.specs.Tree.{Tree}
use Rattle.pi_terms.specs.Places.{Places}
use Rattle.pi_constraints.specs.State.{State}
use Rattle.pi_core.specs.GoalTree.{GoalTree, no_goals, goal, goal_at, take_goals, count_goals, if_else, children, child, child_count, nodes, nodes_all}
use Rattle.pi_core.proofs.GoalPlaces.{nodes-children}
use Rattle.pi_engine_arenas.specs.declared.arenas.Back.{Back}
use Rattle.pi_engine_arenas.specs.declared.arenas.Kind.{Kind}
use Rattle.pi_engine_arenas.specs.declared.arenas.Strict.{Strict as StrictKind}
use Rattle.pi_engine_code.specs.declared.code.Code.{Code}
use Rattle.pi_engine_code.specs.declared.code.Step.{Step}
use Rattle.pi_engine_arenas.specs.declared.run.Now.{Now}
use Rattle.pi_engine_code.specs.Code.{Tables, tables_of, StandsAt, child_place}
use Rattle.pi_engine_arenas.specs.Arenas.{ArenasView, DropsNewest}
use Rattle.pi_meaning.specs.Machine.Configuration.{Frame, Entry as EntryData, Strict, strict, Back as BackData}
use Rattle.pi_meaning.specs.Machine.Step.{end_step, fail_step}
use Rattle.pi_engine_stands.specs.Here.{Block, Here, SayLast, IsHere, none_here, last_here}
use Rattle.pi_engine_stands.specs.Stands.{World, Loaded, tables_in, steps_of, now_here, block_at, Agrees, GoalStands, KindIs, rules_kind, facts_kind, branches_kind, alternatives_kind, once_kind, not_kind, if_kind, guard_kind, apply_kind, collect_kind, count_kind, search_kind, catch_kind, exit_kind, Stands, going_now, failing_now, GoingIs}
use Rattle.pi_engine_stands.specs.Makes.{IsPassed}
use Rattle.pi_engine_stands.specs.Fails.{ComesTo, IsBack}
use Rattle.pi_engine_code.proofs.CodeLemmas.{stands-child, nodes-fit, child_place-first, child_place-more}
use Rattle.pi_engine_stands.proofs.BasesStand.{shape-base}
use Rattle.pi_engine_stands.proofs.StandsLemmas.{moved}
use Rattle.pi_engine_stands.proofs.BackStand.{Popped, popped, popped-stands}
use Rattle.pi_engine_stands.proofs.StacksLie.{stack-lies}

-- ---- goals of a level's block

-- a child goal stands at its place
pub child-here : (t : Tables) (steps : List Step) (b : Block) (place k : ℕ) (g : GoalTree) (own last : Bool) → IsHere t steps b place g own → k < child_count g →
    SayLast steps (child_place g place k) (child g k) last → IsHere t steps b (child_place g place k) (child g k) last
child-here t steps b place k g own last here within says =
    record {
      stands = stands-child t steps place g k here.stands within;
      of_block = λ i s h at. here.of_block (1 + nodes_all (take_goals k (children g)) + i) s (omega (arith, h, nodes-fit (children g) k within, nodes-children g)) (ap (slice_get steps) (omega arith) ∙ at);
      says = says;
    }

-- no goal is left in the block
pub behind-level : {M : Type 0} (w : World M) (base place frame : ℕ) (g : GoalTree) (e : Places) (k : List Frame) → GoalStands w.loaded (now_here w) base place frame g e k →
    Agrees w w.arenas.level (now_here w) → GoingIs w (record { place = 0; count = 0; base = base; frame = frame }) no_goals e k
behind-level w base place frame g e k own agrees =
    record {
      block = block_at w.loaded place base;
      base = shape-base (slice_get (steps_of w.loaded) place) base;
      value = None;
      last = false;
      rest = k;
      goals = none_here;
      behind = own.behind;
      leaves = record { is_last = λ h. absurd cc; is_given = own.leaves.is_given; is_value = λ t h. absurd cc };
      frames = refl;
      agrees = agrees;
    }

-- a child goal is left, and is last in its body where its parent is
pub child-runs : {M : Type 0} (w : World M) (base place frame n : ℕ) (g : GoalTree) (e : Places) (k : List Frame) → (own : GoalStands w.loaded (now_here w) base place frame g e k) → n < child_count g →
    SayLast (steps_of w.loaded) (child_place g place n) (child g n) own.last → Agrees w w.arenas.level (now_here w) →
    GoingIs w (record { place = child_place g place n; count = 1; base = base; frame = frame }) (goal (child g n) no_goals) e k
child-runs w base place frame n g e k own within says agrees =
    record {
      block = block_at w.loaded place base;
      base = shape-base (slice_get (steps_of w.loaded) place) base;
      value = None;
      last = own.last;
      rest = k;
      goals = last_here (child-here (tables_in w.loaded) (steps_of w.loaded) (block_at w.loaded place base) place n g own.last own.last own.goal within says);
      behind = own.behind;
      leaves = own.leaves;
      frames = refl;
      agrees = agrees;
    }

-- where the code finds a child goal
pub child-found : (l : Loaded) (b : Block) (place n at_child : ℕ) (g : GoalTree) (last : Bool) (code : Code) → l.code ≡ code → IsHere (tables_in l) (steps_of l) b place g last → n < child_count g →
    ((terms : ℕ → Option Tree) (h : GoalTree) → StandsAt (tables_of terms code) code.steps.items place h → n < child_count h → at_child ≡ child_place h place n) → at_child ≡ child_place g place n
child-found l b place n at_child g last code is_code here within finds =
    finds l.terms g (subst (λ c. StandsAt (tables_of l.terms c) c.steps.items place g) is_code here.stands) within

-- ---- the goals of `if`

pub if-counts : (test g other : GoalTree) (n : ℕ) → n < 3 → n < child_count (if_else test g other)
unfolding children count_goals
if-counts test g other n h = omega (arith, h)

if-first : (test g other : GoalTree) → child (if_else test g other) 0 ≡ test
unfolding children goal_at
if-first test g other = refl

pub if-second : (test g other : GoalTree) → child (if_else test g other) 1 ≡ g
unfolding children goal_at
if-second test g other = refl

pub if-third : (test g other : GoalTree) → child (if_else test g other) 2 ≡ other
unfolding children goal_at
if-third test g other = refl

pub if-second-place : (test g other : GoalTree) (place : ℕ) → child_place (if_else test g other) place 1 ≡ place + 1 + nodes test
if-second-place test g other place =
    child_place-more (if_else test g other) place 0 (if-counts test g other 0 (omega arith))
    ∙ ap (λ n. n + nodes (child (if_else test g other) 0)) (child_place-first (if_else test g other) place) ∙ ap (λ h. place + 1 + nodes h) (if-first test g other)

pub if-third-place : (test g other : GoalTree) (place : ℕ) → child_place (if_else test g other) place 2 ≡ place + 1 + nodes test + nodes g
if-third-place test g other place =
    child_place-more (if_else test g other) place 1 (if-counts test g other 1 (omega arith))
    ∙ ap (λ n. n + nodes (child (if_else test g other) 1)) (if-second-place test g other place) ∙ ap (λ h. place + 1 + nodes test + nodes h) (if-second test g other)

if-says-second : (steps : List Step) (place : ℕ) (test g other : GoalTree) (last : Bool) → SayLast steps place (if_else test g other) last → SayLast steps (place + 1 + nodes test) g last
unfolding SayLast
if-says-second steps place test g other last says = says.2

if-says-third : (steps : List Step) (place : ℕ) (test g other : GoalTree) (last : Bool) → SayLast steps place (if_else test g other) last → SayLast steps (place + 1 + nodes test + nodes g) other last
unfolding SayLast
if-says-third steps place test g other last says = says.3

-- the goal that runs where the condition has an answer
pub second-runs : {M : Type 0} (w : World M) (base place frame : ℕ) (test g other : GoalTree) (e : Places) (k : List Frame) → GoalStands w.loaded (now_here w) base place frame (if_else test g other) e k →
    Agrees w w.arenas.level (now_here w) → GoingIs w (record { place = child_place (if_else test g other) place 1; count = 1; base = base; frame = frame }) (goal g no_goals) e k
second-runs w base place frame test g other e k own agrees =
    subst (λ h. GoingIs w (record { place = child_place (if_else test g other) place 1; count = 1; base = base; frame = frame }) (goal h no_goals) e k) (if-second test g other)
    (child-runs w base place frame 1 (if_else test g other) e k own (if-counts test g other 1 (omega arith))
    (subst (λ n. SayLast (steps_of w.loaded) n (child (if_else test g other) 1) own.last) (sym (if-second-place test g other place))
    (subst (λ h. SayLast (steps_of w.loaded) (place + 1 + nodes test) h own.last) (sym (if-second test g other)) (if-says-second (steps_of w.loaded) place test g other own.last own.goal.says))) agrees)

-- the goal that runs where it has none
third-runs : {M : Type 0} (w : World M) (base place frame : ℕ) (test g other : GoalTree) (e : Places) (k : List Frame) → GoalStands w.loaded (now_here w) base place frame (if_else test g other) e k →
    Agrees w w.arenas.level (now_here w) → GoingIs w (record { place = child_place (if_else test g other) place 2; count = 1; base = base; frame = frame }) (goal other no_goals) e k
third-runs w base place frame test g other e k own agrees =
    subst (λ h. GoingIs w (record { place = child_place (if_else test g other) place 2; count = 1; base = base; frame = frame }) (goal h no_goals) e k) (if-third test g other)
    (child-runs w base place frame 2 (if_else test g other) e k own (if-counts test g other 2 (omega arith))
    (subst (λ n. SayLast (steps_of w.loaded) n (child (if_else test g other) 2) own.last) (sym (if-third-place test g other place))
    (subst (λ h. SayLast (steps_of w.loaded) (place + 1 + nodes test + nodes g) h own.last) (sym (if-third test g other)) (if-says-third (steps_of w.loaded) place test g other own.last own.goal.says))) agrees)

-- ---- entries that are passed over

passes : {M : Type 0} (w : World M) (back : Back) (collected : List Tree) (from : ℕ) (h : Here) (t : State) (base frame slots : ℕ) (kind : Kind) (y : EntryData) (es : List EntryData) →
    Popped w back collected from y es → IsPassed kind → KindIs w.loaded collected h t base frame slots from (length collected) kind y → ComesTo w Now.Failing (fail_step (y ∷ es))
unfolding fail_step end_step
passes w back collected from h t base frame slots kind y es it passed (rules_kind is fits one) = absurd passed
passes w back collected from h t base frame slots kind y es it passed (facts_kind is fits one) = absurd passed
passes w back collected from h t base frame slots kind y es it passed (branches_kind is at here last count one) = absurd passed
passes w back collected from h t base frame slots kind y es it passed (alternatives_kind own are one) = absurd passed
passes w back collected from h t base frame slots kind y es it passed (once_kind own one) = record { entries = stack-lies w es (popped-stands w back collected from y es it one); runs = failing_now }
passes w back collected from h t base frame slots kind y es it passed (not_kind own one) = absurd passed
passes w back collected from h t base frame slots kind y es it passed (if_kind own one) = absurd passed
passes w back collected from h t base frame slots kind y es it passed (guard_kind call fits one) = absurd passed
passes w back collected from h t base frame slots kind y es it passed (apply_kind own free args fit one) = absurd passed
passes w back collected from h t base frame slots kind y es it passed (collect_kind own order some) = absurd passed
passes w back collected from h t base frame slots kind y es it passed (count_kind own one) = absurd passed
passes w back collected from h t base frame slots kind y es it passed (search_kind own labels held fit order one) = absurd passed
passes w back collected from h t base frame slots kind y es it passed (catch_kind own stays one) = record { entries = stack-lies w es (popped-stands w back collected from y es it one); runs = failing_now }
passes w back collected from h t base frame slots kind y es it passed (exit_kind one) = record { entries = stack-lies w es (popped-stands w back collected from y es it one); runs = failing_now }

pub passed-over : {M : Type 0} (w : World M) (b : ArenasView M) (back : Back) (y : EntryData) (es : List EntryData) → IsPassed back.kind → IsBack w back y es → DropsNewest w.arenas b →
    ComesTo (moved w w.store b) Now.Failing (fail_step (y ∷ es))
passed-over w b back y es passed it drops =
    let out : Popped (moved w w.store b) back w.arenas.collected it.from y es = popped w b back y es it drops in
    passes (moved w w.store b) back w.arenas.collected it.from (now_here (moved w w.store b)) w.store.now.state back.base back.frame back.blocks.slots back.kind y es out passed out.kind

-- ---- `not` and `if`

not-ends-in : {M : Type 0} (w : World M) (back : Back) (collected : List Tree) (from place : ℕ) (kind : Kind) (s : Strict) (b : BackData) (es : List EntryData) →
    Popped w back collected from (strict s b) es → kind ≡ Kind.Strict (StrictKind.Not place) → KindIs w.loaded collected (now_here w) w.store.now.state back.base back.frame back.blocks.slots from (length collected) kind (strict s b) →
    Stands w (Now.Going (record { place = 0; count = 0; base = back.base; frame = back.frame })) (end_step s b es)
unfolding end_step
not-ends-in w back collected from place kind s b es it named (once_kind own one) = absurd cc
not-ends-in w back collected from place kind s b es it named (not_kind {place = at} {g = g} {e = e} {k = k} own one) =
    record { entries = popped-stands w back collected from (strict s b) es it one; runs = going_now (behind-level w back.base at back.frame _ e k own it.agrees) }
not-ends-in w back collected from place kind s b es it named (if_kind own one) = absurd cc
not-ends-in w back collected from place kind s b es it named (guard_kind call fits one) = absurd cc
not-ends-in w back collected from place kind s b es it named (apply_kind own free args fit one) = absurd cc
not-ends-in w back collected from place kind s b es it named (collect_kind own order some) = absurd cc
not-ends-in w back collected from place kind s b es it named (count_kind own one) = absurd cc
not-ends-in w back collected from place kind s b es it named (search_kind own labels held fit order one) = absurd cc

pub not-ends : {M : Type 0} (w : World M) (c : ArenasView M) (back : Back) (place : ℕ) (s : Strict) (b : BackData) (es : List EntryData) → back.kind ≡ Kind.Strict (StrictKind.Not place) →
    IsBack w back (strict s b) es → DropsNewest w.arenas c → Stands (moved w w.store c) (Now.Going (record { place = 0; count = 0; base = back.base; frame = back.frame })) (end_step s b es)
not-ends w c back place s b es named it drops =
    let out : Popped (moved w w.store c) back w.arenas.collected it.from (strict s b) es = popped w c back (strict s b) es it drops in
    not-ends-in (moved w w.store c) back w.arenas.collected it.from place back.kind s b es out named out.kind

if-ends-in : {M : Type 0} (w : World M) (back : Back) (collected : List Tree) (from place at_child : ℕ) (code : Code) (kind : Kind) (s : Strict) (b : BackData) (es : List EntryData) →
    Popped w back collected from (strict s b) es → kind ≡ Kind.Strict (StrictKind.If place) → w.loaded.code ≡ code →
    ((terms : ℕ → Option Tree) (h : GoalTree) → StandsAt (tables_of terms code) code.steps.items place h → 2 < child_count h → at_child ≡ child_place h place 2) →
    KindIs w.loaded collected (now_here w) w.store.now.state back.base back.frame back.blocks.slots from (length collected) kind (strict s b) →
    Stands w (Now.Going (record { place = at_child; count = 1; base = back.base; frame = back.frame })) (end_step s b es)
unfolding end_step
if-ends-in w back collected from place at_child code kind s b es it named is_code finds (once_kind own one) = absurd cc
if-ends-in w back collected from place at_child code kind s b es it named is_code finds (not_kind own one) = absurd cc
if-ends-in w back collected from place at_child code kind s b es it named is_code finds (if_kind {place = at} {test = test} {g = g} {other = other} {e = e} {k = k} own one) =
    let same : place ≡ at = cc in
    let child_is : at_child ≡ child_place (if_else test g other) at 2 =
    child-found w.loaded (block_at w.loaded at back.base) at 2 at_child (if_else test g other) own.last code is_code own.goal (if-counts test g other 2 (omega arith))
    (subst (λ n. (terms : ℕ → Option Tree) (h : GoalTree) → StandsAt (tables_of terms code) code.steps.items n h → 2 < child_count h → at_child ≡ child_place h n 2) same finds) in
    record {
      entries = popped-stands w back collected from (strict s b) es it one;
      runs = going_now (subst (λ n. GoingIs w (record { place = n; count = 1; base = back.base; frame = back.frame }) (goal other no_goals) e k) (sym child_is)
          (third-runs w back.base at back.frame test g other e k own it.agrees));
    }
if-ends-in w back collected from place at_child code kind s b es it named is_code finds (guard_kind call fits one) = absurd cc
if-ends-in w back collected from place at_child code kind s b es it named is_code finds (apply_kind own free args fit one) = absurd cc
if-ends-in w back collected from place at_child code kind s b es it named is_code finds (collect_kind own order some) = absurd cc
if-ends-in w back collected from place at_child code kind s b es it named is_code finds (count_kind own one) = absurd cc
if-ends-in w back collected from place at_child code kind s b es it named is_code finds (search_kind own labels held fit order one) = absurd cc

pub if-ends : {M : Type 0} (w : World M) (c : ArenasView M) (back : Back) (place at_child : ℕ) (code : Code) (s : Strict) (b : BackData) (es : List EntryData) → back.kind ≡ Kind.Strict (StrictKind.If place) → w.loaded.code ≡ code →
    ((terms : ℕ → Option Tree) (h : GoalTree) → StandsAt (tables_of terms code) code.steps.items place h → 2 < child_count h → at_child ≡ child_place h place 2) →
    IsBack w back (strict s b) es → DropsNewest w.arenas c → Stands (moved w w.store c) (Now.Going (record { place = at_child; count = 1; base = back.base; frame = back.frame })) (end_step s b es)
if-ends w c back place at_child code s b es named is_code finds it drops =
    let out : Popped (moved w w.store c) back w.arenas.collected it.from (strict s b) es = popped w c back (strict s b) es it drops in
    if-ends-in (moved w w.store c) back w.arenas.collected it.from place at_child code back.kind s b es out named is_code finds out.kind
