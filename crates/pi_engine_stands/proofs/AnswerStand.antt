-- The newest open level has an answer, and is left.
use Rattle.std.proofs.Common.{◌≡◌, ℕ, Bool, List, [], refl, sym, ◌∙◌, ap, subst, arith}
use Rattle.pi_terms.specs.Places.{Places}
use Rattle.pi_meaning.specs.Shared.View.{View}
use Rattle.pi_core.specs.GoalTree.{no_goals}
use Rattle.pi_core.specs.declared.core_program.NameSlot.{NameSlot}
use Rattle.pi_engine_arenas.specs.declared.frames.Point.{Point}
use Rattle.pi_meaning.specs.Machine.Configuration.{Frame, Entry as EntryData, config, going}
use Rattle.pi_meaning.specs.Machine.Step.{step, frame_step}
use Rattle.pi_engine_stands.specs.Here.{Block, Holds, in_block, valued, GoesOn, answers, gives, returns_to_end, more_of_block, returns_to}
use Rattle.pi_engine_stands.specs.Stands.{tables_in, World, steps_of, level_ends, now_here, GoingIs, StandsGoing}
use Rattle.pi_engine_stands.specs.Makes.{SilentlyTo, already, one_more}
use Rattle.pi_engine_stands.proofs.FramesStand.{going-of}
use Rattle.pi_engine_stands.proofs.FollowStand.{no-value}

-- an answer, with what the slots of the level's block hold
pub record Arrives {M : Type 0} (w : World M) (view : View) (names : List NameSlot) (d : Block) (e : Places) (k : List Frame) (es : List EntryData) : Type 0 where
  pub slots : Places
  pub holds : Holds w.store.now.terms w.arenas.blocks.slots d slots
  pub silently : SilentlyTo view w.loaded.preds names (config (going no_goals e w.store.now.state k) es) (config (going no_goals slots w.store.now.state []) es)

arrives-in : {M : Type 0} (w : World M) (view : View) (names : List NameSlot) (b d : Block) (leaves : Bool) (e : Places) (n : ℕ) (k : List Frame) (es : List EntryData) →
    level_ends w w.arenas.level ≡ in_block d → n ≡ 0 → Holds w.store.now.terms w.arenas.blocks.slots b e → GoesOn (tables_in w.loaded) (steps_of w.loaded) (now_here w) b leaves n k → Arrives w view names d e k es
unfolding step frame_step
arrives-in w view names b d leaves e n k es ends none holds (answers is) =
    let same : b ≡ d = cc in record { slots = e; holds = subst (λ x. Holds w.store.now.terms w.arenas.blocks.slots x e) same holds; silently = already }
arrives-in w view names b d leaves e n k es ends none holds (gives base is lies) = absurd cc
arrives-in w view names b d leaves e n k es ends none holds (returns_to_end {e = f} c is lies held) =
    let same : c ≡ d = cc in record { slots = f; holds = subst (λ x. Holds w.store.now.terms w.arenas.blocks.slots x f) same held; silently = one_more refl already }
arrives-in w view names b d leaves e n k es ends none holds (more_of_block p gs value last out k' at same earlier some here and_leaves rest) = absurd (omega (arith, earlier, none))
arrives-in w view names b d leaves e n k es ends none holds (returns_to p c gs value last out k' at same lies earlier some held here and_leaves rest) = absurd (omega (arith, earlier, none))

-- goals that are done, with no frame left
pub arrives : {M : Type 0} (w : World M) (view : View) (names : List NameSlot) (p : Point) (d : Block) (e : Places) (k : List Frame) (es : List EntryData) →
    level_ends w w.arenas.level ≡ in_block d → p.frame ≡ 0 → p.count ≡ 0 → StandsGoing w p no_goals e k es → Arrives w view names d e k es
arrives w view names p d e k es ends last none stands =
    let is : GoingIs w p no_goals e k = going-of w p no_goals e w.store.now.state k stands.runs in
    let rest : k ≡ is.rest = is.frames ∙ ap (λ v. valued v is.rest) (no-value (tables_in w.loaded) (steps_of w.loaded) is.block p.place p.count is.value is.last none is.goals) in
    subst (λ r. Arrives w view names d e r es) (sym rest)
    (arrives-in w view names is.block d is.behind.leaves e p.frame is.rest es ends last is.behind.slots is.behind.frames)
