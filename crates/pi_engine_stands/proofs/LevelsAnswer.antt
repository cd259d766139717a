-- The newest open level has an answer, whichever it is.
use Rattle.std.proofs.Common.{◌≡◌, ℕ, zero, suc, ◌≤◌, ◌<◌, Bool, true, List, [], ◌∷◌, Option, Some, None, length, refl, sym, ◌∙◌, ap, subst, arith}
use Rattle.std.specs.Prelude.{slice_get}
use Rattle.std.proofs.lemmas.Option.{slice_get_within}
use Rattle.pi_terms.specs.Tree.{Tree}
use Rattle.pi_terms.specs.Places.{Places}
use Rattle.pi_constraints.specs.State.{State}
use Rattle.pi_constraints.specs.Store.{StoreView}
use Rattle.pi_meaning.specs.Shared.View.{View}
use Rattle.pi_core.specs.GoalTree.{no_goals}
use Rattle.pi_core.specs.CoreTree.{ClauseTree}
use Rattle.pi_terms.proofs.GetLemmas.{get_some}
use Rattle.pi_core.specs.declared.core_program.NameSlot.{NameSlot}
use Rattle.pi_engine_arenas.specs.declared.arenas.Back.{Back}
use Rattle.pi_engine_arenas.specs.declared.arenas.Kind.{Kind}
use Rattle.pi_engine_arenas.specs.declared.arenas.Strict.{Strict as StrictKind}
use Rattle.pi_engine_arenas.specs.declared.frames.Point.{Point}
use Rattle.pi_engine_arenas.specs.declared.run.Now.{Now}
use Rattle.pi_engine_arenas.specs.Arenas.{ArenasView, entry_at, IsLevel}
use Rattle.pi_engine_arenas.specs.declared.arenas.Entry.{Entry}
use Rattle.pi_meaning.specs.Machine.Configuration.{Frame, Called, Entry as EntryData, Config, config, going, Strict, strict, guard_level, Back as BackData}
use Rattle.pi_meaning.specs.Machine.Step.{back_to, strict_step, taken, trial}
use Rattle.pi_meaning.specs.Machine.Shape.{IsBalanced}
use Rattle.pi_engine_stands.specs.Here.{Block, with_value, Holds, LeftBehind, GoesOn, answers, gives, returns_to_end, more_of_block, returns_to}
use Rattle.pi_engine_stands.specs.Stands.{World, tables_in, steps_of, entries_of, ends_of, entry_ends, level_ends, rule_block, back_here, now_here, Agrees, KindIs, once_kind, not_kind, if_kind, guard_kind, apply_kind, collect_kind, count_kind, search_kind, StackIs, entry_above, StackStands, Stands, StandsGoing, GoingIs}
use Rattle.pi_engine_stands.specs.Tries.{TakesGuarded}
use Rattle.pi_engine_stands.specs.Makes.{SilentlyTo}
use Rattle.pi_engine_stands.proofs.StandsLemmas.{moved, stack-length, open_level-within}
use Rattle.pi_engine_stands.proofs.BasesStand.{block-above, level-begins}
use Rattle.pi_terms.proofs.OptionLemmas.{none-some, one-some}
use Rattle.pi_engine_stands.proofs.FramesStand.{going-of}
use Rattle.pi_engine_stands.proofs.FollowStand.{no-value}
use Rattle.pi_engine_stands.proofs.OnceStand.{level-answers}
use Rattle.pi_engine_stands.specs.Changes.{change}

-- ---- the condition of a rule

guard-step : (called : Called) (c : ClauseTree) (cs : List ClauseTree) (e : Places) (t : State) (above : List EntryData) (b : BackData) (below : List EntryData) → strict_step (guard_level called c cs) e t above b below ≡ taken (trial called c cs b below) e t
unfolding strict_step
guard-step called c cs e t above b below = refl

guard-makes : {M : Type 0} (w : World M) (v : StoreView M) (b : ArenasView M) (i from predicate number : ℕ) (x : Entry M) (back : Back) (kind : Kind) (s : Strict) (d : BackData) (now : Now) (es above below : List EntryData) (f : Places) → StackStands w es → x.back ≡ back →
    slice_get (entries_of w) i ≡ Some x → kind ≡ Kind.Strict (StrictKind.Guard predicate number) → back.kind ≡ kind → StackIs w (suc i) (length w.arenas.collected) (strict s d ∷ below) → length below ≡ i → Agrees w (suc i) (now_here w) →
    Holds w.store.now.terms w.arenas.blocks.slots (rule_block w.loaded predicate number x.back.base) f → TakesGuarded (suc i) back predicate number (change w (moved w v b) now) →
    KindIs w.loaded w.arenas.collected (back_here w x) (w.store.at_mark x.mark).state x.back.base x.back.frame x.back.blocks.slots from (length w.arenas.collected) kind (strict s d) →
    Stands (moved w v b) now (strict_step s f w.store.now.state above d below)
guard-makes w v b i from predicate number x back kind s d now es above below f stands is_back at named is_kind stack long agrees holds takes (once_kind own one) = absurd cc
guard-makes w v b i from predicate number x back kind s d now es above below f stands is_back at named is_kind stack long agrees holds takes (not_kind own one) = absurd cc
guard-makes w v b i from predicate number x back kind s d now es above below f stands is_back at named is_kind stack long agrees holds takes (if_kind own one) = absurd cc
guard-makes w v b i from predicate number x back kind s d now es above below f stands is_back at named is_kind stack long agrees holds takes (guard_kind {called = called} {c = c} {cs = cs} {k = k} call over one) =
    subst (Stands (moved w v b) now) (sym (guard-step called c cs f w.store.now.state above d below))
    (takes called c cs (w.store.at_mark x.mark).state k below f
    (record {
      code = stands.code;
      state = stands.state;
      tables = stands.tables;
      is_level = ap suc (sym long);
      within = slice_get_within (entries_of w) i x at;
      stack = subst (λ n. StackIs w (suc n) (length w.arenas.collected) (strict (guard_level called c cs) (back_to [] (w.store.at_mark x.mark).state k) ∷ below)) (sym long) stack;
      is_back = λ z found. subst (λ r. r.back ≡ back) (one-some (slice_get (entries_of w) i) x z at found) is_back;
      is_kind = is_kind ∙ named;
      slots = subst (λ r. Holds w.store.now.terms w.arenas.blocks.slots (rule_block w.loaded predicate number r.base) f) is_back holds;
      agrees = agrees;
      inside = subst (λ r. (z : Entry _) → entry_at (entries_of w) r.level ≡ Some z → z.back.base ≤ r.base) is_back
          (λ z found. level-begins w.loaded z (entry_at (entries_of w) x.back.level) x.back.base found (block-above (tables_in w.loaded) (steps_of w.loaded) (back_here w x) _ true x.back.frame k call.frames));
    }))
guard-makes w v b i from predicate number x back kind s d now es above below f stands is_back at named is_kind stack long agrees holds takes (apply_kind own free args fit one) = absurd cc
guard-makes w v b i from predicate number x back kind s d now es above below f stands is_back at named is_kind stack long agrees holds takes (collect_kind own order some) = absurd cc
guard-makes w v b i from predicate number x back kind s d now es above below f stands is_back at named is_kind stack long agrees holds takes (count_kind own one) = absurd cc
guard-makes w v b i from predicate number x back kind s d now es above below f stands is_back at named is_kind stack long agrees holds takes (search_kind own labels held fit order one) = absurd cc

pub guard-answers : {M : Type 0} (w : World M) (v : StoreView M) (b : ArenasView M) (i predicate number : ℕ) (x : Entry M) (back : Back) (now : Now) (p : Point) (es : List EntryData) (view : View) (names : List NameSlot) (e : Places) (k : List Frame) →
    StandsGoing w p no_goals e k es → p.count ≡ 0 → p.frame ≡ 0 → IsBalanced zero es → w.arenas.level ≡ suc i → slice_get (entries_of w) i ≡ Some x → x.back ≡ back → back.kind ≡ Kind.Strict (StrictKind.Guard predicate number) →
    TakesGuarded (suc i) back predicate number (change w (moved w v b) now) →
    (c : Config) × SilentlyTo view w.loaded.preds names (config (going no_goals e w.store.now.state k) es) c × Stands (moved w v b) now c
guard-answers w v b i predicate number x back now p es view names e k stands none last balanced level at is_back named takes =
    let kind_is : x.back.kind ≡ Kind.Strict (StrictKind.Guard predicate number) = ap (λ r. r.kind) is_back ∙ named in
    level-answers w v b i (rule_block w.loaded predicate number x.back.base) x (StrictKind.Guard predicate number) now p es view names e k stands none last balanced level at kind_is refl
    (λ it f agrees holds. guard-makes w v b i it.from predicate number x back x.back.kind it.level it.back now es it.above it.below f stands.entries is_back at kind_is (ap (λ r. r.kind) (sym is_back))
    (entry_above i it.from it.below x (strict it.level it.back) at it.is it.stack) (stack-length w i it.from it.below it.stack) (subst (λ n. Agrees w n (now_here w)) level agrees) holds takes it.is.kind)

-- ---- what is open

level-there-in : {M : Type 0} (w : World M) (n : ℕ) → 0 < n → n ≤ length (entries_of w) → entry_at (entries_of w) n ≡ None → ⊥
level-there-in w zero some within none = absurd (omega (arith, some))
level-there-in w (suc i) some within none = none-some none (get_some (entries_of w) i (omega (arith, within))).1

-- a level that waits for a value isn't answered without one
value-in : {M : Type 0} (w : World M) (b : Block) (leaves last : Bool) (n base : ℕ) (value : Option Tree) (k : List Frame) → level_ends w w.arenas.level ≡ with_value base → n ≡ 0 → value ≡ None → LeftBehind value last leaves k →
    GoesOn (tables_in w.loaded) (steps_of w.loaded) (now_here w) b leaves n k → ⊥
value-in w b leaves last n base value k ends none no_value left (answers is) = cc
value-in w b leaves last n base value k ends none no_value left (gives start is lies) = left.is_given no_value refl refl
value-in w b leaves last n base value k ends none no_value left (returns_to_end d is lies holds) = cc
value-in w b leaves last n base value k ends none no_value left (more_of_block p gs v own on k' at same earlier some here and_leaves rest) = omega (arith, earlier, none)
value-in w b leaves last n base value k ends none no_value left (returns_to p d gs v own on k' at same lies earlier some holds here and_leaves rest) = omega (arith, earlier, none)

-- how the level of an entry ends
level-ends-are : {M : Type 0} (w : World M) (number : ℕ) (back : Back) → IsLevel w.arenas number back → level_ends w w.arenas.level ≡ ends_of w.loaded back.kind back.base
level-ends-are w number back is =
    ap (λ n. entry_ends w.loaded (entry_at (entries_of w) n)) is.is_open ∙ ap (entry_ends w.loaded) is.at ∙ ap (λ r. ends_of w.loaded r.kind r.base) is.back_is

pub no-value-answer : {M : Type 0} (w : World M) (number : ℕ) (back : Back) (kind : Kind) (p : Point) (e : Places) (k : List Frame) (es : List EntryData) → IsLevel w.arenas number back → back.kind ≡ kind → ((base : ℕ) → ends_of w.loaded kind base ≡ with_value base) →
    StandsGoing w p no_goals e k es → p.count ≡ 0 → p.frame ≡ 0 → ⊥
no-value-answer w number back kind p e k es is named value stands none last =
    let going_is : GoingIs w p no_goals e k = going-of w p no_goals e w.store.now.state k stands.runs in
    value-in w going_is.block going_is.behind.leaves going_is.last p.frame back.base going_is.value going_is.rest
    (level-ends-are w number back is ∙ ap (λ q. ends_of w.loaded q back.base) named ∙ value back.base) last
    (no-value (tables_in w.loaded) (steps_of w.loaded) going_is.block p.place p.count going_is.value going_is.last none going_is.goals) going_is.leaves going_is.behind.frames

-- an open level has its entry
pub level-there : {M : Type 0} (w : World M) (es : List EntryData) → StackStands w es → 0 < w.arenas.level → entry_at (entries_of w) w.arenas.level ≡ None → ⊥
level-there w es stands some none =
    level-there-in w w.arenas.level some
    (omega (arith, stands.level, open_level-within zero es, stack-length w (length (entries_of w)) (length w.arenas.collected) es stands.stack)) none
