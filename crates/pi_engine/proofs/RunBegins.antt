-- A run that begins stands for the configuration that a query begins with.
use Rattle.std.proofs.Common.{◌≡◌, ℕ, zero, suc, false, List, [], ◌++◌, Option, None, length, take, map, replicate, refl, sym, ◌∙◌, ap, subst, arith}
use Rattle.pi_constraints.specs.State.{empty_state, bindings}
use Rattle.pi_engine_stands.specs.Rests.{Rests}
use Rattle.pi_constraints.specs.Value.{IsAcyclic}
use Rattle.pi_constraints.specs.Store.{Terms, Moment, StoreView, Keeps, Stays, Marks, Returns}
use Rattle.pi_core.specs.GoalTree.{GoalTree, no_goals, goal}
use Rattle.pi_core.specs.CoreTree.{pred_tree}
use Rattle.pi_meaning.specs.CoreMeaning.Sound.{IsSound, IsSoundQuery}
use Rattle.pi_meaning.specs.CoreMeaning.Defined.{CallsDefined, ProgramCallsDefined, QueryCallsDefined, NamesAreFree}
use Rattle.pi_constraints.specs.declared.store.Ref.{Ref}
use Rattle.pi_core.specs.declared.core_program.CorePred.{CorePred}
use Rattle.pi_core.specs.declared.core_program.NameSlot.{NameSlot}
use Rattle.pi_constraints.proofs.KeepsLemmas.{empty-is-state}
use Rattle.std.proofs.lemmas.List.{map-append}
use Rattle.pi_engine_code.specs.declared.code.Code.{Code}
use Rattle.pi_engine_arenas.specs.declared.blocks.Written.{Written}
use Rattle.pi_engine_arenas.specs.declared.run.Now.{Now}
use Rattle.pi_engine_code.specs.Code.{tables_of, preds_of}
use Rattle.pi_engine_arenas.specs.Arenas.{ArenasView, no_arenas}
use Rattle.pi_engine_stands.specs.Here.{Block, AreHeld, IsHere, last_here, answers}
use Rattle.pi_meaning.specs.Machine.Shape.{open_level}
use Rattle.pi_meaning.specs.Machine.Configuration.{config, going}
use Rattle.pi_settling.proofs.CalmLemmas.{empty_is_calm}
use Rattle.pi_engine_stands.specs.Stands.{Loaded, tables_in, steps_of, world, IsCodeOf, no_entries, Stands, NowIs, going_now}
use Rattle.pi_engine_code.specs.LaidRules.{IsFilled, in_tables}
use Rattle.pi_engine.specs.Begins.{asked, loaded_with, Begins, begun}
use Rattle.pi_engine_arenas.specs.Blocks.{BlocksView}
use Rattle.pi_engine.proofs.LaidHere.{goal-here}
use Rattle.pi_engine.proofs.LaidCode.{code-stands}

-- arenas with nothing but the query's slots
abbrev pub fresh : {M : Type 0} → ℕ → List Written → ArenasView M
fresh slots trail = record { frames = []; blocks = record { slots = replicate slots None; trail = trail; kept = 0 }; entries = []; level = 0; collected = [] }

length-none : (n : ℕ) → length (replicate {A = Option Ref} n None) ≡ n
length-none zero = refl
length-none (suc n) = ap suc (length-none n)

none-held : (t : Terms) (n : ℕ) → AreHeld t (take n (replicate n None)) (replicate n None)
unfolding AreHeld
none-held t zero = tt
none-held t (suc n) = none-held t n

-- the query's goal in its block
abbrev query_block : ℕ → Block
query_block slots = record { base = 0; first = 0; count = slots }

pub run-begins : {M : Type 0} (l : Loaded) (v : StoreView M) (order : M → ℕ) (trail : List Written) (place : ℕ) (g : GoalTree) → IsCodeOf l.code (tables_in l) v.names l.preds → v.now.state ≡ empty_state → l.terms ≡ v.now.terms →
    IsHere (tables_in l) (steps_of l) (query_block l.query_slots) place g false →
    Stands (world l v order (fresh l.query_slots trail)) (Now.Going (record { place = place; count = 1; base = 0; frame = 0 })) (config (going (goal g no_goals) (replicate l.query_slots None) empty_state []) [])
unfolding open_level
run-begins l v order trail place g code empty same here =
    let w = world l v order (fresh l.query_slots trail) in
    record {
      entries = record {
        code = code;
        state = subst Rests (sym empty) (record { calm = empty_is_calm; none_made = refl });
        tables = λ n x at. ap (λ t. t n) (sym same) ∙ at;
        level = refl;
        kept = refl;
        stack = no_entries;
      };
      runs = subst (λ s. NowIs w (Now.Going (record { place = place; count = 1; base = 0; frame = 0 })) (going (goal g no_goals) (replicate l.query_slots None) s [])) empty
          (going_now (record {
            block = query_block l.query_slots;
            base = refl;
            value = None;
            last = false;
            rest = [];
            goals = last_here here;
            behind = record {
              slots = record { within = omega (arith, length-none l.query_slots); held = none-held v.now.terms l.query_slots };
              leaves = false;
              frames = answers refl;
            };
            leaves = record { is_last = λ e. absurd cc; is_given = λ e f. absurd cc; is_value = λ t e. absurd cc };
            frames = refl;
            agrees = tt;
          }));
    }

-- the run of a query whose tables are filled
pub query-begins : {M : Type 0} (order : M → ℕ) (u v : StoreView M) (code : Code) (place : ℕ) (trail : List Written) (core helpers : List CorePred) (g : GoalTree) (names : List NameSlot) (slots : ℕ) → u.now.state ≡ empty_state → Stays u v →
    preds_of code ≡ core ++ helpers → (IsAcyclic (bindings u.now.state) → IsFilled (in_tables (preds_of code) (tables_of v.now.terms code) v.names code) g slots place) → IsSoundQuery (map pred_tree core) (asked g helpers names slots) → QueryCallsDefined (map pred_tree core) (asked g helpers names slots) → NamesAreFree (map pred_tree core ++ map pred_tree helpers) →
    Begins code (begun v order (fresh slots trail) (Now.Going (record { place = place; count = 1; base = 0; frame = 0 }))) (map pred_tree core) (asked g helpers names slots)
query-begins order u v code place trail core helpers g names slots empty stays source filled sound calls free =
    let preds : map pred_tree (preds_of code) ≡ map pred_tree core ++ map pred_tree helpers = ap (map pred_tree) source ∙ map-append pred_tree core helpers in
    let is_filled : IsFilled (in_tables (preds_of code) (tables_of v.now.terms code) v.names code) g slots place = filled (subst (λ s. IsAcyclic (bindings s)) (sym empty) empty-is-state.acyclic) in
    let is_code : IsCodeOf code (tables_of v.now.terms code) v.names (map pred_tree core ++ map pred_tree helpers) =
    subst (IsCodeOf code (tables_of v.now.terms code) v.names) preds (code-stands v.now.terms v.names code g slots place is_filled (subst IsSound (sym preds) sound.preds) (subst ProgramCallsDefined (sym preds) calls.preds) (subst NamesAreFree (sym preds) free)) in
    run-begins (loaded_with code v (map pred_tree core ++ map pred_tree helpers) slots) v order trail place g is_code (stays.state ∙ empty) refl
    (goal-here (preds_of code) v.now.terms code (query_block slots) place g false is_filled.goal_is (subst (λ ps. CallsDefined ps g) (sym preds) calls.goal) sound.slots)

-- ---- a beginning that fails

-- a store that comes back to a mark that was made at once is as it was
pub undone-stays : {M : Type 0} (order : M → ℕ) (u v w x : StoreView M) (m : M) → Marks order u v m → Keeps v w → Returns order w x m → Stays u x
undone-stays order u v w x m marks keeps back =
    let at : w.at_mark m ≡ u.now = keeps.same m marks.good ∙ marks.brings_back in
    record {
      keeps = record {
        good = λ n good. back.good n (keeps.good n (marks.stays.keeps.good n good)) (marks.newest n good);
        same = λ n good. back.same n (keeps.good n (marks.stays.keeps.good n good)) (marks.newest n good) ∙ keeps.same n (marks.stays.keeps.good n good) ∙ marks.stays.keeps.same n good;
        beside = λ n. back.beside n ∙ (keeps.beside n ∙ marks.stays.keeps.beside n);
        terms = λ r t is. ap (λ (now : Moment). now.terms r.number) (back.now ∙ at) ∙ is;
        names = λ k name is. back.names k name (keeps.names k name (marks.stays.keeps.names k name is));
      };
      state = ap (λ (now : Moment). now.state) (back.now ∙ at);
    }

-- ---- the arenas of a beginning

blocks-fresh : (b : BlocksView) (slots : List (Option Ref)) → b.slots ≡ slots → b.kept ≡ 0 → b ≡ record { slots = slots; trail = b.trail; kept = 0 }
blocks-fresh b slots e f = ap (λ s. (let v : BlocksView = record { slots = s; trail = b.trail; kept = b.kept } in v)) e ∙ ap (λ k. (let v : BlocksView = record { slots = slots; trail = b.trail; kept = k } in v)) f

pub arenas-fresh : {M : Type 0} (a : ArenasView M) (b : BlocksView) (slots : ℕ) → a ≡ no_arenas → b.slots ≡ a.blocks.slots ++ replicate slots None → b.kept ≡ a.blocks.kept →
    record { frames = a.frames; blocks = b; entries = a.entries; level = a.level; collected = a.collected } ≡ fresh slots b.trail
arenas-fresh {M} a b slots none filled kept =
    ap (λ (x : ArenasView M). (let v : ArenasView M = record { frames = x.frames; blocks = b; entries = x.entries; level = x.level; collected = x.collected } in v)) none
    ∙ ap (λ (c : BlocksView). (let v : ArenasView M = record { frames = []; blocks = c; entries = []; level = 0; collected = [] } in v))
    (blocks-fresh b (replicate slots None) (filled ∙ ap (λ (x : ArenasView M). x.blocks.slots ++ replicate slots None) none) (kept ∙ ap (λ (x : ArenasView M). x.blocks.kept) none))

-- a run whose arenas were empty, and got the query's slots
pub run-begun : {M : Type 0} (order : M → ℕ) (u v : StoreView M) (a : ArenasView M) (b : BlocksView) (now : Now) (code : Code) (place : ℕ) (core helpers : List CorePred) (g : GoalTree) (names : List NameSlot) (slots : ℕ) → u.now.state ≡ empty_state → Stays u v →
    preds_of code ≡ core ++ helpers → (IsAcyclic (bindings u.now.state) → IsFilled (in_tables (preds_of code) (tables_of v.now.terms code) v.names code) g slots place) → IsSoundQuery (map pred_tree core) (asked g helpers names slots) → QueryCallsDefined (map pred_tree core) (asked g helpers names slots) → NamesAreFree (map pred_tree core ++ map pred_tree helpers) → a ≡ no_arenas →
    b.slots ≡ a.blocks.slots ++ replicate slots None → b.kept ≡ a.blocks.kept → now ≡ Now.Going (record { place = place; count = 1; base = 0; frame = 0 }) →
    Begins code (begun v order (record { frames = a.frames; blocks = b; entries = a.entries; level = a.level; collected = a.collected }) now) (map pred_tree core) (asked g helpers names slots)
run-begun {M} order u v a b now code place core helpers g names slots empty stays source filled sound calls free none pushed kept going_is =
    subst (λ (n : Now). Begins code (begun v order (record { frames = a.frames; blocks = b; entries = a.entries; level = a.level; collected = a.collected }) n) (map pred_tree core) (asked g helpers names slots)) (sym going_is)
    (subst (λ (x : ArenasView M). Begins code (begun v order x (Now.Going (record { place = place; count = 1; base = 0; frame = 0 }))) (map pred_tree core) (asked g helpers names slots)) (sym (arenas-fresh a b slots none pushed kept))
    (query-begins order u v code place b.trail core helpers g names slots empty stays source filled sound calls free))
