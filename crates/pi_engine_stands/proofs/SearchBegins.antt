-- A round of a search begins: where it has nothing left to do, in the block of its search, and what its posting leads to.
use Rattle.std.proofs.Common.{◌≡◌, ℕ, false, List, [], ◌∷◌, Option, Some, None, Result, Ok, Err, take, drop, refl, sym, subst, arith}
use Rattle.pi_terms.specs.Tree.{Tree, no_trees, tree}
use Rattle.pi_constraints.specs.declared.store.Ref.{Ref}
use Rattle.pi_constraints.specs.State.{State}
use Rattle.pi_constraints.specs.Store.{StoreView, Keeps, Terms}
use Rattle.pi_core.specs.GoalTree.{no_goals}
use Rattle.pi_prop_spec.specs.Postings.{Posting}
use Rattle.pi_prop_spec.specs.Steps.{Refusal}
use Rattle.pi_settling.specs.Posted.{effect_of_posting}
use Rattle.pi_settling.specs.Reading.{Operand, reads, refuses}
use Rattle.pi_settling.specs.Words.{plain_words}
use Rattle.pi_meaning.specs.Machine.Configuration.{Search, config, settling, raising, in_places, Entry as EntryData}
use Rattle.pi_meaning.specs.Machine.Step.{search_slots, begun_now, bettered_now}
use Rattle.pi_engine_arenas.specs.declared.run.Now.{Now}
use Rattle.pi_engine_stands.specs.Here.{AreHeld, HoldsArguments, in_block, none_here, answers}
use Rattle.pi_engine_stands.specs.Stands.{World, now_here, level_ends, round_block, search_held, Agrees, StackLies, Stands, GoingIs, NowIs, raising_now}
use Rattle.pi_engine_stands.specs.Does.{ComesAfter}
use Rattle.pi_engine_stands.specs.Searches.{effect_of_operand, round_end}
use Rattle.pi_engine_stands.proofs.StandsLemmas.{moved}
use Rattle.pi_engine_stands.proofs.EqualStands.{writes-kept, lies-moved, going-lies}
use Rattle.pi_engine_stands.proofs.SettlesFirst.{goes-on-to}
use Rattle.pi_engine_stands.proofs.TermRuns.{arguments-hold}

-- ---- the block of a search

front-held : (t : Terms) (rs : List (Option Ref)) (a b c : Tree) → AreHeld t (take 3 rs) (in_places (tree a (tree b (tree c no_trees)))) → AreHeld t (take 2 rs) (in_places (tree a (tree b no_trees)))
unfolding AreHeld in_places
front-held t [] a b c held = held
front-held t (None ∷ rs) a b c held = absurd held
front-held t (Some r ∷ []) a b c held = absurd held.1
front-held t (Some r ∷ None ∷ rs) a b c held = absurd held.1
front-held t (Some r ∷ Some q ∷ rs) a b c held = (held.0, (held.1.0, tt))

-- its first two slots hold the arguments of the call that labels
pub labels-held : (t : Terms) (slots : List (Option Ref)) (base : ℕ) (x : Search) → HoldsArguments t slots base 3 (search_held x) → HoldsArguments t slots base 2 (tree (plain_words x.options) (tree x.vars no_trees))
labels-held t slots base x holds =
    record { within = omega (arith, holds.within); held = front-held t (drop base slots) (plain_words x.options) x.vars x.objective.expression holds.held }

-- a round has nothing left to do in it
pub round-going : {M : Type 0} (w : World M) (base : ℕ) (x : Search) → HoldsArguments w.store.now.terms w.arenas.blocks.slots base 3 (search_held x) → level_ends w w.arenas.level ≡ in_block (round_block base) → Agrees w w.arenas.level (now_here w) →
    GoingIs w (round_end base) no_goals (search_slots x) []
round-going w base x holds ends agrees =
    record {
      block = round_block base;
      base = refl;
      value = None;
      last = false;
      rest = [];
      goals = none_here;
      behind = record {
        slots = arguments-hold w.store.now.terms w.arenas.blocks.slots base 2 (tree (plain_words x.options) (tree x.vars no_trees)) (labels-held w.store.now.terms w.arenas.blocks.slots base x holds);
        leaves = false;
        frames = answers ends;
      };
      leaves = record { is_last = λ h. h; is_given = λ none out. absurd cc; is_value = λ t h. absurd cc };
      frames = refl;
      agrees = agrees;
    }

-- ---- what its posting leads to

-- the first round's, by how the expression is read
pub begun-stands : {M : Type 0} (w : World M) (before : State) (x : Search) (o : Operand) (base : ℕ) (now : Now) (es : List EntryData) → StackLies w es → GoingIs w (round_end base) no_goals (search_slots x) [] →
    ComesAfter before (round_end base) (effect_of_operand o) w.store.now.state now → Stands w now (config (begun_now x before o) es)
begun-stands w before x (reads r sum) base now es lies is next =
    subst (λ q. Stands w now (config (begun_now x before (reads q sum)) es)) (sym next.0) (record { entries = lies; runs = goes-on-to w (round_end base) before no_goals (search_slots x) [] now next.1 is next.2 })
begun-stands w before x (refuses ball) base now es lies is next = subst (λ n. Stands w n (config (raising ball) es)) (sym next) (record { entries = lies; runs = raising_now })

-- a later round's, by its goal
pub bettered-stands : {M : Type 0} (w : World M) (before : State) (x : Search) (o : Result Posting Refusal) (base : ℕ) (now : Now) (es : List EntryData) → StackLies w es → GoingIs w (round_end base) no_goals (search_slots x) [] →
    ComesAfter before (round_end base) (effect_of_posting before o) w.store.now.state now → Stands w now (config (bettered_now x before o) es)
bettered-stands w before x (Ok p) base now es lies is next = record {
  entries = lies;
  runs = subst (λ q. NowIs w now (settling before q no_goals (search_slots x) [])) (sym next.0) (goes-on-to w (round_end base) before no_goals (search_slots x) [] now next.1 is next.2);
}
bettered-stands w before x (Err r) base now es lies is next = subst (λ n. Stands w n (config (bettered_now x before (Err r)) es)) (sym next) (record { entries = lies; runs = raising_now })

-- ---- the store alone changes after the round's beginning

-- the entries lie as they did, whatever the state is then
pub posted-lies : {M : Type 0} (w : World M) (u : StoreView M) (base : ℕ) (x : Search) (es : List EntryData) → Keeps w.store u → StackLies w es → GoingIs w (round_end base) no_goals (search_slots x) [] → StackLies (moved w u w.arenas) es
posted-lies w u base x es keeps lies is =
    lies-moved w u w.arenas is.block (search_slots x) u.now.state es (writes-kept is.block w.store u w.arenas (search_slots x) keeps is.behind.slots) lies

pub posted-going : {M : Type 0} (w : World M) (u : StoreView M) (base : ℕ) (x : Search) (es : List EntryData) → Keeps w.store u → StackLies w es → GoingIs w (round_end base) no_goals (search_slots x) [] →
    GoingIs (moved w u w.arenas) (round_end base) no_goals (search_slots x) []
posted-going w u base x es keeps lies is =
    going-lies w u w.arenas (round_end base) no_goals (search_slots x) (search_slots x) u.now.state [] es lies is (writes-kept is.block w.store u w.arenas (search_slots x) keeps is.behind.slots)
