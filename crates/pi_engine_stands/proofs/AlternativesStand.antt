-- The alternatives that are left of a variable that is labelled: the next one narrows it, and the call labels on.
use Rattle.std.proofs.Common.{◌≡◌, ◌≢◌, ℕ, zero, suc, ◌+◌, ◌≤◌, List, [], ◌∷◌, Option, Some, None, length, drop, refl, sym, ◌∙◌, ap, subst, arith}
use Rattle.std.specs.Prelude.{slice_get, option_map}
use Rattle.pi_terms.specs.Tree.{Tree}
use Rattle.pi_terms.specs.Places.{Places}
use Rattle.pi_constraints.specs.declared.domain.Span.{Span}
use Rattle.pi_constraints.specs.State.{State, IsState, domain_of}
use Rattle.pi_constraints.specs.Store.{StoreView, Keeps}
use Rattle.pi_core.specs.GoalTree.{GoalTree, no_goals, goal, call}
use Rattle.pi_settling.specs.Choices.{Pending, Alternative, alternatives as alternatives_of, left_by, narrowed_to}
use Rattle.pi_label.specs.Follows.{Follows}
use Rattle.pi_label.specs.Words.{value_word, alternative_of}
use Rattle.pi_label.specs.declared.alternatives.Choice.{Choice}
use Rattle.pi_meaning.specs.Machine.Configuration.{Frame, Config, config, failed, settling, Entry as EntryData, choice, alternatives_left, Back as BackData}
use Rattle.pi_meaning.specs.Machine.Step.{alternative_now, alternatives_step, later_alternatives}
use Rattle.pi_engine_arenas.specs.declared.arenas.Alternatives.{Alternatives}
use Rattle.pi_engine_arenas.specs.declared.arenas.Back.{Back}
use Rattle.pi_engine_arenas.specs.declared.arenas.Kind.{Kind}
use Rattle.pi_engine_arenas.specs.declared.frames.Point.{Point}
use Rattle.pi_engine_arenas.specs.declared.run.Now.{Now}
use Rattle.pi_engine_arenas.specs.Arenas.{ArenasView, entry_at, DropsNewest, between}
use Rattle.pi_engine_stands.specs.Here.{Here}
use Rattle.pi_engine_stands.specs.Rests.{Rests}
use Rattle.pi_engine_stands.specs.Evaluates.{Writes}
use Rattle.pi_engine_stands.specs.Stands.{World, Loaded, entries_of, now_here, block_at, Agrees, GoalStands, IsTriedLast, AreAlternatives, KindIs, alternatives_kind, StackIs, StackStands, Stands, GoingIs, failing_now}
use Rattle.pi_engine_stands.specs.Settling.{NextLeft}
use Rattle.pi_engine_stands.specs.Goes.{Counting}
use Rattle.pi_engine_stands.specs.Fails.{IsBack, ComesBy, TicksTo, KeepsAlternatives, those_after}
use Rattle.pi_engine_stands.specs.Tries.{renamed}
use Rattle.std.proofs.lemmas.List.{drop-drop}
use Rattle.pi_engine_stands.proofs.StandsLemmas.{moved, stack-length, open_level-within}
use Rattle.pi_engine_stands.proofs.BasesStand.{shape-base}
use Rattle.pi_engine_stands.proofs.BackStand.{back-kind, back-agrees, back-rests, Popped, popped, popped-stands}
use Rattle.pi_engine_stands.proofs.BranchesStand.{one-runs, going-passes, renamed-stands}
use Rattle.pi_engine_stands.proofs.CallEntries.{renamed-passes}
use Rattle.pi_engine_stands.proofs.EqualStands.{lies-moved, going-moved, writes-kept}
use Rattle.pi_engine_stands.proofs.SettlesFirst.{goes-on-to}
use Rattle.pi_engine_stands.proofs.StacksLie.{stack-lies}

-- ---- what an entry says

record AlternativesShape (l : Loaded) (h : Here) (s : State) (base frame from to place : ℕ) (it : Alternatives) (name : List ℕ) (args : List Tree) (p : Pending) (alts : List Alternative) (b : BackData) : Type 0 where
  pub goal : GoalStands l h base place frame (call name args) b.slots b.frames
  pub are : AreAlternatives s it p alts
  pub state : b.state ≡ s
  pub one : from ≡ to

alternatives-shape : (l : Loaded) (c : List Tree) (h : Here) (s : State) (base frame slots from to place : ℕ) (it : Alternatives) (kind : Kind) (name : List ℕ) (args : List Tree) (p : Pending) (alts : List Alternative) (b : BackData) →
    kind ≡ Kind.Alternatives place it → KindIs l c h s base frame slots from to kind (choice (alternatives_left name args p alts) b) → AlternativesShape l h s base frame from to place it name args p alts b
alternatives-shape l c h s base frame slots from to place it kind name args p alts b named (alternatives_kind {place = at} {it = held} {e = e} {k = k} own are one) =
    let same : at ≡ place = cc in
    let also : held ≡ it = cc in
    record {
      goal = subst (λ m. GoalStands l h base m frame (call name args) e k) same own;
      are = subst (λ i. AreAlternatives s i p alts) also are;
      state = refl;
      one = one;
    }

-- ---- which one is next

-- the one after the last that was tried
next-tried : (all : List Alternative) (tried : ℕ) (last found : Option Alternative) → IsTriedLast all tried last → Follows all last found → found ≡ slice_get all tried
next-tried all zero last found is follows = subst (λ r. Follows all r found) is follows
next-tried all (suc k) None found is follows = absurd (is.0 refl)
next-tried all (suc k) (Some a) found is follows = follows k is.1 ∙ ap (slice_get all) (omega arith)

first-of-rest : (all : List Alternative) (n : ℕ) (a : Alternative) (rest : List Alternative) → a ∷ rest ≡ drop n all → slice_get all n ≡ Some a
first-of-rest [] zero a rest is = absurd cc
first-of-rest [] (suc n) a rest is = absurd cc
first-of-rest (x ∷ xs) zero a rest is = cc
first-of-rest (x ∷ xs) (suc n) a rest is = first-of-rest xs n a rest is

behind-first : (all : List Alternative) (n : ℕ) (a : Alternative) (rest : List Alternative) → a ∷ rest ≡ drop n all → rest ≡ drop (n + 1) all
behind-first all n a rest is = ap (drop 1) is ∙ drop-drop 1 n all

nothing-behind : (all : List Alternative) (n : ℕ) → slice_get all n ≡ None → drop n all ≡ []
nothing-behind [] zero none = refl
nothing-behind [] (suc n) none = refl
nothing-behind (x ∷ xs) zero none = absurd cc
nothing-behind (x ∷ xs) (suc n) none = nothing-behind xs n none

something-behind : (all : List Alternative) (n : ℕ) (a : Alternative) → slice_get all n ≡ Some a → drop n all ≢ []
something-behind [] zero a some = absurd cc
something-behind [] (suc n) a some = absurd cc
something-behind (x ∷ xs) zero a some = λ none. absurd cc
something-behind (x ∷ xs) (suc n) a some = something-behind xs n a some

-- ---- what it leaves is settled, or it leaves nothing

narrowed-goes : {M : Type 0} (w : World M) (u : StoreView M) (point : Point) (g : GoalTree) (b : BackData) (o : Option State) (next : Now) (es : List EntryData) → StackStands w es → GoingIs w point (goal g no_goals) b.slots b.frames →
    b.state ≡ w.store.now.state → Keeps w.store u → NextLeft w.store.now.state o u.now.state point next → Stands (moved w u w.arenas) next (config (alternative_now g b o) es)
narrowed-goes w u point g b None next es entries is state keeps comes =
    let writes : Writes is.block (between w.store u w.arenas w.arenas) b.slots u.now.state = writes-kept is.block w.store u w.arenas b.slots keeps is.behind.slots in
    subst (λ n. Stands (moved w u w.arenas) n (config failed es)) (sym comes)
    (record { entries = lies-moved w u w.arenas is.block b.slots u.now.state es writes (stack-lies w es entries); runs = failing_now })
narrowed-goes w u point g b (Some r) next es entries is state keeps comes =
    let writes : Writes is.block (between w.store u w.arenas w.arenas) b.slots u.now.state = writes-kept is.block w.store u w.arenas b.slots keeps is.behind.slots in
    let before : State = w.store.now.state in
    subst (λ q. Stands (moved w u w.arenas) next (config (settling q r (goal g no_goals) b.slots b.frames) es)) (sym state)
    (subst (λ q. Stands (moved w u w.arenas) next (config (settling before q (goal g no_goals) b.slots b.frames) es)) comes.0
    (record {
      entries = lies-moved w u w.arenas is.block b.slots u.now.state es writes (stack-lies w es entries);
      runs = goes-on-to (moved w u w.arenas) point before (goal g no_goals) b.slots b.frames next comes.1 (going-moved w u w.arenas point (goal g no_goals) b.slots b.slots u.now.state b.frames es entries is writes) comes.2;
    }))

-- ---- the entry

-- the call runs at its place, in its block
abbrev pub alone_at : Back → ℕ → Point
alone_at back place = record { place = place; count = 1; base = back.base; frame = back.frame }

call-runs : {M : Type 0} (w : World M) (back : Back) (place : ℕ) (g : GoalTree) (e : Places) (k : List Frame) → GoalStands w.loaded (now_here w) back.base place back.frame g e k → Agrees w w.arenas.level (now_here w) →
    GoingIs w (alone_at back place) (goal g no_goals) e k
call-runs w back place g e k own agrees =
    one-runs w place back.base back.frame (block_at w.loaded place back.base) g own.last e k own.behind (shape-base (slice_get w.loaded.code.steps.items place) back.base) own.goal own.leaves agrees

-- the stack and the call, once the entry waits for what is left or is gone
record AreKept {M : Type 0} (w : World M) (back : Back) (place : ℕ) (g : GoalTree) (b : BackData) (es : List EntryData) : Type 0 where
  pub entries : StackStands w es
  pub runs : GoingIs w (alone_at back place) (goal g no_goals) b.slots b.frames

entry-dropped : {M : Type 0} (w : World M) (a : ArenasView M) (back : Back) (place : ℕ) (left : Alternatives) (name : List ℕ) (args : List Tree) (p : Pending) (alts : List Alternative) (b : BackData) (es : List EntryData) → back.kind ≡ Kind.Alternatives place left →
    IsBack w back (choice (alternatives_left name args p alts) b) es → DropsNewest w.arenas a → AreKept (moved w w.store a) back place (call name args) b es
entry-dropped w a back place left name args p alts b es named it drops =
    let y : EntryData = choice (alternatives_left name args p alts) b in
    let w1 : World _ = moved w w.store a in
    let out : Popped w1 back w.arenas.collected it.from y es = popped w a back y es it drops in
    let shape : AlternativesShape w.loaded (now_here w1) w.store.now.state back.base back.frame it.from (length w.arenas.collected) place left name args p alts b =
    alternatives-shape w.loaded w.arenas.collected (now_here w1) w.store.now.state back.base back.frame back.blocks.slots it.from (length w.arenas.collected) place left back.kind name args p alts b named out.kind in
    record {
      entries = popped-stands w1 back w.arenas.collected it.from y es out shape.one;
      runs = call-runs w1 back place (call name args) b.slots b.frames shape.goal out.agrees;
    }

entry-renamed : {M : Type 0} (w : World M) (back : Back) (place : ℕ) (left : Alternatives) (tried : Choice) (name : List ℕ) (args : List Tree) (p : Pending) (y : EntryData) (rest : List Alternative) (b : BackData) (es : List EntryData) → (it : IsBack w back y es) →
    it.from ≡ length w.arenas.collected → b.state ≡ w.store.now.state → GoalStands w.loaded (now_here w) back.base place back.frame (call name args) b.slots b.frames → AreAlternatives w.store.now.state (those_after left tried) p rest →
    AreKept (moved w w.store (renamed w.arenas it.entry (Kind.Alternatives place (those_after left tried)))) back place (call name args) b (choice (alternatives_left name args p rest) b ∷ es)
entry-renamed w back place left tried name args p y rest b es it one state own are =
    let kind : Kind = Kind.Alternatives place (those_after left tried) in
    let top : ℕ = length w.arenas.collected in
    let stack : StackIs w it.below top es = subst (λ m. StackIs w it.below m es) one it.stack in
    let level : w.arenas.level ≤ it.below = omega (arith, it.level, ap (λ r. r.level) it.back_is, it.is.level, open_level-within zero es, stack-length w it.below top es stack) in
    let kind_is : KindIs w.loaded w.arenas.collected (now_here w) w.store.now.state back.base back.frame back.blocks.slots top top kind (choice (alternatives_left name args p rest) (record { slots = b.slots; state = w.store.now.state; frames = b.frames })) =
    alternatives_kind own are refl in
    record {
      entries = renamed-stands w back y (alternatives_left name args p rest) b es kind it one
          (subst (λ s. KindIs w.loaded w.arenas.collected (now_here w) w.store.now.state back.base back.frame back.blocks.slots top top kind (choice (alternatives_left name args p rest) (record { slots = b.slots; state = s; frames = b.frames }))) (sym state) kind_is);
      runs = going-passes w w.store (renamed w.arenas it.entry kind) it.below (alone_at back place) (goal (call name args) no_goals) b.slots b.frames es (renamed-passes w it.entry kind it.below it.count) stack level
          (call-runs w back place (call name args) b.slots b.frames own (back-agrees w back y es it));
    }

-- what is left after one is those behind it
left-after : (s : State) (it : Alternatives) (p : Pending) (a : Alternative) (tried next : Choice) (rest : List Alternative) → (are : AreAlternatives s it p (a ∷ rest)) → alternative_of tried ≡ a →
    Some (alternative_of next) ≡ slice_get (alternatives_of (value_word it.word) p.domain) (are.tried + 1) → AreAlternatives s (those_after it tried) p rest
left-after s it p a tried next rest are is more =
    let all : List Alternative = alternatives_of (value_word it.word) p.domain in
    let behind : rest ≡ drop (are.tried + 1) all = behind-first all are.tried a rest are.left in
    let one_more : are.tried + 1 ≡ suc are.tried = omega arith in
    record {
      variable = are.variable;
      domain = are.domain;
      tried = suc are.tried;
      last = (λ none. absurd cc, first-of-rest all are.tried a rest are.left ∙ ap Some (sym is));
      left = behind ∙ ap (λ n. drop n all) one_more;
      some = λ none. something-behind all (are.tried + 1) (alternative_of next) (sym more) (sym behind ∙ none);
    }

-- the entry by what the code finds after this one
kept-by : {M : Type 0} (w : World M) (a : ArenasView M) (back : Back) (place : ℕ) (left : Alternatives) (tried : Choice) (next : Option Choice) (name : List ℕ) (args : List Tree) (p : Pending) (first : Alternative) (rest : List Alternative) (b : BackData) (es : List EntryData) →
    back.kind ≡ Kind.Alternatives place left → (it : IsBack w back (choice (alternatives_left name args p (first ∷ rest)) b) es) →
    (shape : AlternativesShape w.loaded (now_here w) w.store.now.state back.base back.frame it.from (length w.arenas.collected) place left name args p (first ∷ rest) b) → alternative_of tried ≡ first →
    option_map alternative_of next ≡ slice_get (alternatives_of (value_word left.word) p.domain) (shape.are.tried + 1) → KeepsAlternatives place (those_after left tried) next w.arenas a →
    AreKept (moved w w.store a) back place (call name args) b (later_alternatives name args p rest b es)
kept-by w a back place left tried None name args p first rest b es named it shape is more keeps =
    let all : List Alternative = alternatives_of (value_word left.word) p.domain in
    let none : rest ≡ [] = behind-first all shape.are.tried first rest shape.are.left ∙ nothing-behind all (shape.are.tried + 1) (sym more) in
    subst (λ r. AreKept (moved w w.store a) back place (call name args) b (later_alternatives name args p r b es)) (sym none)
    (entry-dropped w a back place left name args p (first ∷ rest) b es named it keeps)
kept-by w a back place left tried (Some next) name args p first [] b es named it shape is more keeps =
    absurd ((left-after w.store.now.state left p first tried next [] shape.are is more).some refl)
kept-by w a back place left tried (Some next) name args p first (second ∷ rest) b es named it shape is more keeps =
    let y : EntryData = choice (alternatives_left name args p (first ∷ second ∷ rest)) b in
    subst (λ r. AreKept (moved w w.store r) back place (call name args) b (choice (alternatives_left name args p (second ∷ rest)) b ∷ es)) (sym (keeps it.entry (ap (entry_at (entries_of w)) it.count ∙ it.at)))
    (entry-renamed w back place left tried name args p y (second ∷ rest) b es it shape.one shape.state shape.goal (left-after w.store.now.state left p first tried next (second ∷ rest) shape.are is more))

-- ---- one is tried

-- what the code finds: this alternative is next, what comes after it stays with the entry, and what it leaves is settled
pub record IsTried {M : Type 0} (w : World M) (u : StoreView M) (a : ArenasView M) (back : Back) (place : ℕ) (left : Alternatives) (tried : Choice) (now : Now) (d : List Span) : Type 0 where
  pub found : Follows (alternatives_of (value_word left.word) d) (option_map alternative_of left.after) (Some (alternative_of tried))
  pub next : Option Choice
  pub follows : Follows (alternatives_of (value_word left.word) d) (Some (alternative_of tried)) (option_map alternative_of next)
  pub keeps : KeepsAlternatives place (those_after left tried) next w.arenas a
  pub comes : NextLeft w.store.now.state (narrowed_to w.store.now.state left.variable (left_by (alternative_of tried) d)) u.now.state (alone_at back place) now

tried-by : {M : Type 0} (w : World M) (u : StoreView M) (a : ArenasView M) (back : Back) (place : ℕ) (left : Alternatives) (tried : Choice) (name : List ℕ) (args : List Tree) (p : Pending) (alts : List Alternative) (b : BackData) (es : List EntryData) (c : Counting) (next now : Now) →
    back.kind ≡ Kind.Alternatives place left → (it : IsBack w back (choice (alternatives_left name args p alts) b) es) → Keeps w.store u →
    AlternativesShape w.loaded (now_here w) w.store.now.state back.base back.frame it.from (length w.arenas.collected) place left name args p alts b → IsTried w u a back place left tried next p.domain →
    ((x : Config) → Stands (moved w u a) next x → TicksTo c (moved w u a) now x) → ComesBy c (moved w u a) now (alternatives_step name args p alts b es)
tried-by w u a back place left tried name args p [] b es c next now named it keeps shape tries ticks = absurd (shape.are.some refl)
tried-by w u a back place left tried name args p (first ∷ rest) b es c next now named it keeps shape tries ticks =
    let all : List Alternative = alternatives_of (value_word left.word) p.domain in
    let here : slice_get all shape.are.tried ≡ Some first = first-of-rest all shape.are.tried first rest shape.are.left in
    let found : Some (alternative_of tried) ≡ Some first = next-tried all shape.are.tried (option_map alternative_of left.after) (Some (alternative_of tried)) shape.are.last tries.found ∙ here in
    let is : alternative_of tried ≡ first = cc in
    let more : option_map alternative_of tries.next ≡ slice_get all (shape.are.tried + 1) = tries.follows shape.are.tried (here ∙ sym found) in
    let kept : AreKept (moved w w.store a) back place (call name args) b (later_alternatives name args p rest b es) =
    kept-by w a back place left tried tries.next name args p first rest b es named it shape is more tries.keeps in
    let before : State = w.store.now.state in
    let left_is : narrowed_to before left.variable (left_by (alternative_of tried) p.domain) ≡ narrowed_to b.state p.variable (left_by first p.domain) =
    ap (λ n. narrowed_to before n (left_by (alternative_of tried) p.domain)) shape.are.variable ∙ ap (λ r. narrowed_to before p.variable (left_by r p.domain)) is ∙ ap (λ s. narrowed_to s p.variable (left_by first p.domain)) (sym shape.state) in
    ticks (config (alternative_now (call name args) b (narrowed_to b.state p.variable (left_by first p.domain))) (later_alternatives name args p rest b es))
    (narrowed-goes (moved w w.store a) u (alone_at back place) (call name args) b (narrowed_to b.state p.variable (left_by first p.domain)) next (later_alternatives name args p rest b es) kept.entries kept.runs shape.state keeps
    (subst (λ o. NextLeft before o u.now.state (alone_at back place) next) left_is tries.comes))

shape-back : {M : Type 0} (w : World M) (back : Back) (place : ℕ) (left : Alternatives) (name : List ℕ) (args : List Tree) (p : Pending) (alts : List Alternative) (b : BackData) (es : List EntryData) → back.kind ≡ Kind.Alternatives place left →
    (it : IsBack w back (choice (alternatives_left name args p alts) b) es) → AlternativesShape w.loaded (now_here w) w.store.now.state back.base back.frame it.from (length w.arenas.collected) place left name args p alts b
shape-back w back place left name args p alts b es named it =
    alternatives-shape w.loaded w.arenas.collected (now_here w) w.store.now.state back.base back.frame back.blocks.slots it.from (length w.arenas.collected) place left back.kind name args p alts b named
    (back-kind w back (choice (alternatives_left name args p alts) b) es it)

-- an alternative is tried, and its Tick is counted last
pub alternative-tried : {M : Type 0} (w : World M) (u : StoreView M) (a : ArenasView M) (back : Back) (place : ℕ) (left : Alternatives) (tried : Choice) (name : List ℕ) (args : List Tree) (p : Pending) (alts : List Alternative) (b : BackData) (es : List EntryData) (c : Counting) (next now : Now) →
    back.kind ≡ Kind.Alternatives place left → IsBack w back (choice (alternatives_left name args p alts) b) es → Keeps w.store u →
    ((d : List Span) → Rests w.store.now.state → domain_of w.store.now.state left.variable ≡ Some d → IsTried w u a back place left tried next d) →
    ((x : Config) → Stands (moved w u a) next x → TicksTo c (moved w u a) now x) → ComesBy c (moved w u a) now (alternatives_step name args p alts b es)
alternative-tried w u a back place left tried name args p alts b es c next now named it keeps finds ticks =
    let shape : _ = shape-back w back place left name args p alts b es named it in
    tried-by w u a back place left tried name args p alts b es c next now named it keeps shape
    (finds p.domain (back-rests w back (choice (alternatives_left name args p alts) b) es it) (ap (domain_of w.store.now.state) shape.are.variable ∙ shape.are.domain)) ticks

-- some alternative is left
none-next : (s : State) (it : Alternatives) (p : Pending) (alts : List Alternative) → AreAlternatives s it p alts → Follows (alternatives_of (value_word it.word) p.domain) (option_map alternative_of it.after) None → alts ≡ []
none-next s it p alts are follows =
    let all : List Alternative = alternatives_of (value_word it.word) p.domain in
    are.left ∙ nothing-behind all are.tried (sym (next-tried all are.tried (option_map alternative_of it.after) None are.last follows))

pub alternative-found : {M : Type 0} (w : World M) (back : Back) (place : ℕ) (left : Alternatives) (name : List ℕ) (args : List Tree) (p : Pending) (alts : List Alternative) (b : BackData) (es : List EntryData) → back.kind ≡ Kind.Alternatives place left →
    IsBack w back (choice (alternatives_left name args p alts) b) es →
    ((d : List Span) → IsState w.store.now.state → domain_of w.store.now.state left.variable ≡ Some d → Follows (alternatives_of (value_word left.word) d) (option_map alternative_of left.after) None) → ⊥
alternative-found w back place left name args p alts b es named it finds =
    let shape : _ = shape-back w back place left name args p alts b es named it in
    let rests : Rests w.store.now.state = back-rests w back (choice (alternatives_left name args p alts) b) es it in
    shape.are.some (none-next w.store.now.state left p alts shape.are (finds p.domain rests.calm.state (ap (domain_of w.store.now.state) shape.are.variable ∙ shape.are.domain)))
