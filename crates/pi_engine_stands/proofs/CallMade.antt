-- A call that is made: behind what its caller keeps, its arguments begin its block.
use Rattle.std.proofs.Common.{◌≡◌, ◌≢◌, ℕ, zero, suc, ◌+◌, ◌-◌, ◌≤◌, ◌<◌, Bool, true, false, List, [], ◌∷◌, ◌++◌, Option, Some, length, take, drop, map, refl, sym, ◌∙◌, ap, subst, arith}
use Rattle.std.specs.Prelude.{slice_get, max}
use Rattle.std.proofs.lemmas.List.{length-take-le, length-append, take-append-le}
use Rattle.std.proofs.Math.Seq.{drop-append_seam, take-length}
use Rattle.pi_terms.specs.Tree.{Tree, Trees, no_trees, tree, tree_count}
use Rattle.pi_terms.specs.Places.{Places}
use Rattle.pi_constraints.specs.Store.{StoreView, AreTerms}
use Rattle.pi_core.specs.CoreTree.{ClauseTree, PredTree}
use Rattle.pi_core.specs.GoalTree.{GoalTrees}
use Rattle.pi_constraints.specs.declared.store.Ref.{Ref}
use Rattle.pi_engine_code.specs.declared.code.Step.{Step}
use Rattle.pi_engine_code.specs.declared.code.Predicate.{Predicate}
use Rattle.pi_engine_code.specs.Code.{Tables}
use Rattle.pi_engine_arenas.specs.Blocks.{BlocksView, KeepsBlocks}
use Rattle.pi_engine_arenas.specs.Arenas.{ArenasView, entry_at, newest, slots_kept_by}
use Rattle.pi_engine_arenas.specs.declared.arenas.Entry.{Entry}
use Rattle.pi_meaning.specs.Machine.Configuration.{Frame, more, return, give, Called, behind, returning, Entry as EntryData, in_places}
use Rattle.pi_engine_stands.specs.Here.{Block, block_end, Here, Holds, AreHeld, HoldsArguments, AreHere, none_here, value_here, last_here, more_here, valued, GoesOn, answers, gives, returns_to_end, more_of_block, returns_to}
use Rattle.pi_engine_stands.specs.Stands.{World, tables_in, steps_of, entries_of, now_here, Agrees, agrees_from, StackIs, StackStands}
use Rattle.pi_engine_stands.specs.Evaluates.{with_blocks}
use Rattle.pi_engine_stands.specs.Tries.{RulesLeft, no_entry, CallIs, KeepsFront, KeepsBelow, HasArguments}
use Rattle.pi_engine_stands.proofs.HereLemmas.{goes_on-moves}
use Rattle.pi_engine_stands.proofs.StandsLemmas.{moved, open_level-within, stack-length, stack-moves, agrees-moves}
use Rattle.pi_engine_stands.proofs.BasesStand.{block-above, level-begins}
use Rattle.pi_engine_stands.proofs.LevelSteps.{kept-within}
use Rattle.pi_terms.proofs.ListLemmas.{take-take}
use Rattle.pi_engine_stands.proofs.HeadsMatch.{front-none, front-then}
use Rattle.pi_engine_stands.proofs.CallsTried.{below-leaves, below-ends, below-moves, below-agrees}

-- ---- what the call goes on with

some-more : (t : Tables) (steps : List Step) (b : Block) (place n : ℕ) (gs : GoalTrees) (value : Option Tree) (last : Bool) (k : List Frame) (e : Places) → AreHere t steps b place n gs value last → 0 < n →
    returning e (behind gs (valued value k)) ≡ return e ∷ behind gs (valued value k)
some-more t steps b place n gs value last k e none_here some = absurd (omega (arith, some))
some-more t steps b place n gs value last k e (value_here is) some = refl
some-more t steps b place n gs value last k e (last_here is) some = refl
some-more t steps b place n gs value last k e (more_here is rest) some = refl

-- the caller's block is kept, and returned to where something of what is left goes on with it
pub goes_on-return : (t : Tables) (steps : List Step) (h : Here) (b d : Block) (leaves : Bool) (n : ℕ) (k : List Frame) (e : Places) → (leaves ≡ true → k ≢ []) → Holds h.terms h.slots b e → block_end b ≤ d.base →
    GoesOn t steps h b leaves n k → GoesOn t steps h d true n (returning e k)
goes_on-return t steps h b d leaves n k e ends holds lies (answers is) = returns_to_end b is lies holds
goes_on-return t steps h b d leaves n k e ends holds lies (gives base is under) = absurd (ends refl refl)
goes_on-return t steps h b d leaves n k e ends holds lies (returns_to_end c is under held) = returns_to_end c is (omega (arith, under, lies)) held
goes_on-return t steps h b d leaves n k e ends holds lies (more_of_block p gs value last out k' at same earlier some here left rest) =
    subst (GoesOn t steps h d true n) (sym (some-more t steps b p.place p.count gs value last k' e here some))
    (returns_to p b gs value last out k' at same lies earlier some holds here left rest)
goes_on-return t steps h b d leaves n k e ends holds lies (returns_to p c gs value last out k' at same under earlier some held here left rest) =
    returns_to p c gs value last out k' at same (omega (arith, under, lies)) earlier some held here left rest

-- nothing of what is left goes on with the caller's block, which is given back
pub goes_on-leave : (t : Tables) (steps : List Step) (h : Here) (b d : Block) (leaves : Bool) (n : ℕ) (k : List Frame) (e : Places) → leaves ≡ true → k ≢ [] → b.base ≤ d.base →
    GoesOn t steps h b leaves n k → GoesOn t steps h d true n (returning e k)
goes_on-leave t steps h b d leaves n k e out ends lies (answers is) = absurd cc
goes_on-leave t steps h b d leaves n k e out ends lies (gives base is under) = absurd (ends refl)
goes_on-leave t steps h b d leaves n k e out ends lies (returns_to_end c is under held) = returns_to_end c is (omega (arith, under, lies)) held
goes_on-leave t steps h b d leaves n k e out ends lies (more_of_block p gs value last on k' at same earlier some here left rest) = absurd cc
goes_on-leave t steps h b d leaves n k e out ends lies (returns_to p c gs value last on k' at same under earlier some held here left rest) =
    returns_to p c gs value last on k' at same (omega (arith, under, lies)) earlier some held here left rest

pub returning-some : (e : Places) (k : List Frame) → returning e k ≢ []
returning-some e [] = λ same. absurd cc
returning-some e (more gs ∷ k) = λ same. absurd cc
returning-some e (return f ∷ k) = λ same. absurd cc
returning-some e (give t ∷ k) = λ same. absurd cc

-- ---- the arguments, as the newest slots

terms-held : {M : Type 0} (v : StoreView M) (rs : List Ref) (ts : Trees) → AreTerms v rs ts → AreHeld v.now.terms (map (λ r. Some r) rs) (in_places ts)
unfolding AreTerms AreHeld in_places
terms-held v [] no_trees are = tt
terms-held v [] (tree t ts) are = absurd are
terms-held v (r ∷ rs) no_trees are = absurd are
terms-held v (r ∷ rs) (tree t ts) are = (are.0, terms-held v rs ts are.1)

terms-count : {M : Type 0} (v : StoreView M) (rs : List Ref) (ts : Trees) → AreTerms v rs ts → length rs ≡ tree_count ts
unfolding AreTerms tree_count
terms-count v [] no_trees are = refl
terms-count v [] (tree t ts) are = absurd are
terms-count v (r ∷ rs) no_trees are = absurd are
terms-count v (r ∷ rs) (tree t ts) are = ap suc (terms-count v rs ts are.1)

some-count : (rs : List Ref) → length (map (λ r. Some r) rs) ≡ length rs
some-count [] = refl
some-count (r ∷ rs) = ap suc (some-count rs)

pub arguments-long : {M : Type 0} (v : StoreView M) (c d : List (Option Ref)) (rs : List Ref) (arity : ℕ) (ts : Trees) → AreTerms v rs ts → tree_count ts ≡ arity → d ≡ c ++ map (λ r. Some r) rs → length d ≡ length c + arity
arguments-long v c d rs arity ts are many new = ap length new ∙ length-append c (map (λ r. Some r) rs) ∙ ap (λ n. length c + n) (some-count rs ∙ terms-count v rs ts are ∙ many)

pub arguments-added : {M : Type 0} (v : StoreView M) (c d : List (Option Ref)) (rs : List Ref) (arity : ℕ) (ts : Trees) → AreTerms v rs ts → tree_count ts ≡ arity → d ≡ c ++ map (λ r. Some r) rs → HoldsArguments v.now.terms d (length c) arity ts
arguments-added v c d rs arity ts are many new =
    let count : length (map (λ r. Some r) rs) ≡ arity = some-count rs ∙ terms-count v rs ts are ∙ many in
    let own : take arity (drop (length c) d) ≡ map (λ r. Some r) rs =
    ap (λ xs. take arity (drop (length c) xs)) new ∙ ap (take arity) (drop-append_seam c (map (λ r. Some r) rs)) ∙ ap (λ n. take n (map (λ r. Some r) rs)) (sym count) ∙ take-length (map (λ r. Some r) rs) in
    record {
      within = omega (arith, arguments-long v c d rs arity ts are many new);
      held = subst (λ xs. AreHeld v.now.terms xs (in_places ts)) (sym own) (terms-held v rs ts are);
    }

-- ---- room for the call's block

-- what is given back of the caller's block, if anything, and how far the slots stay
pub data Room (a c : BlocksView) (b : Block) (leaves : Bool) (limit : ℕ) : Type 0 where
  kept_whole : c ≡ a → limit ≡ length a.slots → Room a c b leaves limit
  given_back : leaves ≡ true → limit ≡ b.base → KeepsFront a c limit → c.kept ≤ length c.slots → Room a c b leaves limit

pub room-front : (a c : BlocksView) (b : Block) (leaves : Bool) (limit : ℕ) → Room a c b leaves limit → KeepsFront a c limit
room-front a c b leaves limit (kept_whole same all) = subst (λ r. KeepsFront a r limit) (sym same) (front-none a limit (omega (arith, all)))
room-front a c b leaves limit (given_back out at front over) = front

pub room-limit : (a c : BlocksView) (b : Block) (leaves : Bool) (limit : ℕ) → b.base ≤ length a.slots → Room a c b leaves limit → (b.base ≤ limit) × (limit ≤ length c.slots)
room-limit a c b leaves limit fits (kept_whole same all) = (omega (arith, fits, all), omega (arith, all, ap (λ r. length r.slots) same))
room-limit a c b leaves limit fits (given_back out at front over) = (omega (arith, at), front.long)

pub room-over : (a c : BlocksView) (b : Block) (leaves : Bool) (limit : ℕ) → a.kept ≤ length a.slots → Room a c b leaves limit → c.kept ≤ length c.slots
room-over a c b leaves limit over (kept_whole same all) = subst (λ r. r.kept ≤ length r.slots) (sym same) over
room-over a c b leaves limit over (given_back out at front kept) = kept

pub cut-back : (a c : BlocksView) (base : ℕ) → base ≤ length a.slots → a.kept ≤ length a.slots → c.slots ≡ take (max base a.kept) a.slots → KeepsBlocks a c → c.kept ≡ a.kept → KeepsFront a c base × (c.kept ≤ length c.slots)
cut-back a c base fits over cut keeps kept =
    let count : length c.slots ≡ max base a.kept = ap length cut ∙ length-take-le (max base a.kept) a.slots (omega (arith, fits, over)) in (
      record { long = omega (arith, count); front = ap (take base) cut ∙ take-take base (max base a.kept) a.slots (omega arith); keeps = keeps; kept = kept },
      omega (arith, count, kept),
    )

pub front-more : (c d : BlocksView) (limit : ℕ) (xs : List (Option Ref)) → limit ≤ length c.slots → d.slots ≡ c.slots ++ xs → KeepsBlocks c d → d.kept ≡ c.kept → KeepsFront c d limit
front-more c d limit xs within new keeps kept =
    record { long = omega (arith, ap length new, length-append c.slots xs, within); front = ap (take limit) new ∙ take-append-le limit c.slots xs within; keeps = keeps; kept = kept }

-- ---- the call

-- what a caller has at its block
pub record Caller {M : Type 0} (w : World M) (b : Block) (leaves : Bool) (n : ℕ) (e : Places) (k : List Frame) (es : List EntryData) : Type 0 where
  pub stands : StackStands w es
  pub slots : Holds w.store.now.terms w.arenas.blocks.slots b e
  pub frames : GoesOn (tables_in w.loaded) (steps_of w.loaded) (now_here w) b leaves n k
  pub given : leaves ≡ true → k ≢ []
  pub agrees : Agrees w w.arenas.level (now_here w)

-- what is left behind a block that is made behind what the caller keeps
pub frames-made : {M : Type 0} (w : World M) (c d : BlocksView) (b : Block) (leaves : Bool) (limit n first many : ℕ) (e : Places) (k : List Frame) (es : List EntryData) → Caller w b leaves n e k es → Room w.arenas.blocks c b leaves limit →
    KeepsBelow w.arenas (with_blocks w.arenas d) limit → limit ≤ length c.slots →
    GoesOn (tables_in w.loaded) (steps_of w.loaded) (now_here (moved w w.store (with_blocks w.arenas d))) (record { base = length c.slots; first = first; count = many }) true n (returning e k)
frames-made w c d b leaves limit n first many e k es caller (kept_whole same all) keeps within =
    goes_on-moves (tables_in w.loaded) (steps_of w.loaded) (now_here w) (now_here (moved w w.store (with_blocks w.arenas d))) (record { base = length c.slots; first = first; count = many }) true n (returning e k) limit n
    (omega (arith, all, ap (λ r. length r.slots) same)) (omega arith) (below-moves w (with_blocks w.arenas d) limit n keeps) (below-ends w (with_blocks w.arenas d) limit keeps)
    (goes_on-return (tables_in w.loaded) (steps_of w.loaded) (now_here w) b (record { base = length c.slots; first = first; count = many }) leaves n k e caller.given caller.slots
    (omega (arith, caller.slots.within, ap (λ r. length r.slots) same)) caller.frames)
frames-made w c d b leaves limit n first many e k es caller (given_back out at front over) keeps within =
    goes_on-leave (tables_in w.loaded) (steps_of w.loaded) (now_here (moved w w.store (with_blocks w.arenas d))) b (record { base = length c.slots; first = first; count = many }) leaves n k e out (caller.given out) (omega (arith, at, within))
    (goes_on-moves (tables_in w.loaded) (steps_of w.loaded) (now_here w) (now_here (moved w w.store (with_blocks w.arenas d))) b leaves n k limit n
    (omega (arith, at)) (omega arith) (below-moves w (with_blocks w.arenas d) limit n keeps) (below-ends w (with_blocks w.arenas d) limit keeps) caller.frames)

none-between : (n : ℕ) → 0 ≡ n - n
none-between n = omega arith

pub all-left : {X : Type 0} (xs : List X) (n : ℕ) → xs ≡ drop (n - n) xs
all-left xs n = ap (λ m. drop m xs) (none-between n)

-- the entries, and what they agree with, where slots behind some are changed
pub stack-below : {M : Type 0} (w : World M) (b : ArenasView M) (limit : ℕ) (es : List EntryData) → KeepsBelow w.arenas b limit → StackStands w es → StackStands (moved w w.store b) es
stack-below w b limit es keeps stands =
    let count : ℕ = length (entries_of w) in
    let top : ℕ = length w.arenas.collected in
    record {
      code = stands.code;
      state = stands.state;
      tables = stands.tables;
      level = keeps.level ∙ stands.level;
      kept = keeps.kept ∙ stands.kept ∙ ap (λ xs. slots_kept_by (newest xs)) (sym keeps.entries);
      stack = subst (λ m. StackIs (moved w w.store b) m (length b.collected) es) (ap length (sym keeps.entries))
          (subst (λ m. StackIs (moved w w.store b) count m es) (ap length (sym keeps.collected))
          (stack-moves w w.store b count top count top es (below-leaves w b limit count keeps) (omega arith) (omega arith) stands.stack));
    }

pub level-below : {M : Type 0} (w : World M) (b : ArenasView M) (limit : ℕ) (es : List EntryData) → KeepsBelow w.arenas b limit → StackStands w es → ((z : Entry M) → entry_at (entries_of w) w.arenas.level ≡ Some z → z.back.base ≤ limit) →
    Agrees w w.arenas.level (now_here w) → Agrees (moved w w.store b) b.level (now_here (moved w w.store b))
level-below w b limit es keeps stands begins agrees =
    let count : ℕ = length (entries_of w) in
    let top : ℕ = length w.arenas.collected in
    let level : w.arenas.level ≤ count = omega (arith, stands.level, open_level-within zero es, stack-length w count top es stands.stack) in
    below-agrees w b limit (entry_at b.entries b.level) keeps
    (λ z found. begins z (ap (λ xs. entry_at xs w.arenas.level) (sym keeps.entries) ∙ ap (entry_at b.entries) (sym keeps.level) ∙ found))
    (subst (λ n. agrees_from (moved w w.store b) (entry_at b.entries n) (now_here w)) (sym keeps.level)
    (agrees-moves w w.store b count top count top w.arenas.level es (now_here w) (now_here w) (below-leaves w b limit count keeps) (omega arith) stands.stack level refl agrees))

pub record Made {M : Type 0} (w : World M) (p base frame : ℕ) (called : Called) (cs : List ClauseTree) (k : List Frame) (es : List EntryData) (from : ℕ) : Type 0 where
  pub is : CallIs w p base frame from called cs w.store.now.state k es false
  pub args : HasArguments w base is.call.call.pred.arity called

no-function : (b : Bool) → b ≡ true → b ≡ false → ⊥
no-function b h k = cc

pub call-made : {M : Type 0} (w : World M) (c d : BlocksView) (rs : List Ref) (b : Block) (leaves : Bool) (limit n p : ℕ) (pred : PredTree) (predicate : Predicate) (called : Called) (e : Places) (k : List Frame) (es : List EntryData) →
    Caller w b leaves n e k es → Room w.arenas.blocks c b leaves limit → d.slots ≡ c.slots ++ map (λ r. Some r) rs → KeepsBlocks c d → d.kept ≡ c.kept →
    slice_get w.loaded.preds p ≡ Some pred → slice_get w.loaded.code.predicates.items p ≡ Some predicate → called.function ≡ pred.function → called.function ≡ false → AreTerms w.store rs called.args → tree_count called.args ≡ pred.arity →
    Made (moved w w.store (with_blocks w.arenas d)) p (length c.slots) n called pred.clauses (returning e k) es predicate.first
call-made w c d rs b leaves limit n p pred predicate called e k es caller room new kept_blocks kept is_pred is_predicate function no_function are many =
    let after : World _ = moved w w.store (with_blocks w.arenas d) in
    let fits : b.base ≤ length w.arenas.blocks.slots = omega (arith, caller.slots.within) in
    let lies : (b.base ≤ limit) × (limit ≤ length c.slots) = room-limit w.arenas.blocks c b leaves limit fits room in
    let front : KeepsFront w.arenas.blocks d limit = front-then w.arenas.blocks c d limit (room-front w.arenas.blocks c b leaves limit room) (front-more c d limit (map (λ r. Some r) rs) lies.1 new kept_blocks kept) in
    let keeps : KeepsBelow w.arenas (with_blocks w.arenas d) limit = record { long = front.long; front = front.front; keeps = front.keeps; kept = front.kept; frames = refl; entries = refl; level = refl; collected = refl } in
    let holds : HoldsArguments w.store.now.terms d.slots (length c.slots) pred.arity called.args = arguments-added w.store c.slots d.slots rs pred.arity called.args are many new in
    let left : RulesLeft w.loaded p predicate.first called pred.clauses =
    record { pred = pred; predicate = predicate; is_pred = is_pred; is_predicate = is_predicate; function = function; from = omega arith; rules = all-left pred.clauses predicate.first } in
    let goes : GoesOn (tables_in w.loaded) (steps_of w.loaded) (now_here after) (record { base = length c.slots; first = pred.arity; count = 0 }) true n (returning e k) =
    frames-made w c d b leaves limit n pred.arity 0 e k es caller room keeps lies.1 in
    let begins : (z : Entry _) → entry_at (entries_of w) w.arenas.level ≡ Some z → z.back.base ≤ limit =
    λ z found. omega (arith, lies.0, level-begins w.loaded z (entry_at (entries_of w) w.arenas.level) b.base found (block-above (tables_in w.loaded) (steps_of w.loaded) (now_here w) b leaves n k caller.frames)) in
    let stands : StackStands after es = stack-below w (with_blocks w.arenas d) limit es keeps caller.stands in
    record {
      is = record {
        code = stands.code;
        state = stands.state;
        tables = stands.tables;
        level = stands.level;
        kept = stands.kept;
        call = record { call = left; fits = holds.within; frames = goes; returns = λ not. returning-some e k; alone = λ is. absurd (no-function called.function is no_function) };
        agrees = level-below w (with_blocks w.arenas d) limit es keeps caller.stands begins caller.agrees;
        over = omega (arith, kept, room-over w.arenas.blocks c b leaves limit (kept-within w es caller.stands) room);
        inside = λ z found. omega (arith, begins z found, lies.1);
        entry = no_entry refl
            (record {
              call = record { pred = pred; predicate = predicate; is_pred = is_pred; is_predicate = is_predicate; function = function; args = holds; from = omega arith; rules = left.rules };
              frames = goes;
              returns = λ not. returning-some e k;
              alone = λ is. absurd (no-function called.function is no_function);
            })
            stands.stack;
      };
      args = holds;
    }
