-- The goals at a point, and what is left behind the first of them.
use Rattle.std.proofs.Common.{◌≡◌, ◌≢◌, ◌⊎◌, inl, inr, ℕ, zero, suc, ◌+◌, ◌-◌, ◌^◌, ◌≤◌, ◌<◌, Bool, true, false, List, [], ◌∷◌, ◌++◌, Option, Some, None, length, refl, sym, ◌∙◌, ap, subst, arith}
use Rattle.std.specs.Prelude.{slice_get}
use Rattle.pi_terms.specs.Tree.{Tree}
use Rattle.pi_core.specs.GoalTree.{GoalTree, GoalTrees, no_goals, goal, nodes}
use Rattle.pi_engine_code.specs.declared.code.Step.{Step}
use Rattle.pi_engine_code.specs.Code.{Tables}
use Rattle.std.proofs.lemmas.Option.{slice_get_within}
use Rattle.pi_engine_arenas.specs.declared.frames.Point.{Point}
use Rattle.pi_terms.proofs.GetLemmas.{get_append_left, get_append_last}
use Rattle.pi_engine_arenas.specs.Frames.{frame_at, point_behind, PushesBehind}
use Rattle.pi_meaning.specs.Machine.Configuration.{Frame, behind}
use Rattle.pi_engine_stands.specs.Here.{Block, IsHere, AreHere, none_here, last_here, more_here, Here, valued, LeftBehind, GoesOn, answers, gives, returns_to_end, more_of_block, returns_to}
use Rattle.pi_engine_stands.proofs.HereLemmas.{FramesStay, goes_on-moves}
use Rattle.pi_engine_code.proofs.CodeLemmas.{size-shown, stands-first}

frame-within : (fs : List Point) (n : ℕ) (p : Point) → frame_at fs n ≡ Some p → n ≤ length fs
frame-within fs zero p at = absurd cc
frame-within fs (suc i) p at = omega (arith, slice_get_within fs i p at)

-- the first of some goals at a place, and what stands behind it
pub record FirstOf (t : Tables) (steps : List Step) (b : Block) (place count : ℕ) (g : GoalTree) (gs : GoalTrees) (value : Option Tree) (last : Bool) : Type 0 where
  pub own : Bool
  pub here : IsHere t steps b place g own
  pub some : 0 < count
  pub behind : AreHere t steps b (place + nodes g) (count - 1) gs value last
  pub alone : count ≤ 1 → (gs ≡ no_goals) × (value ≡ None) × (own ≡ last)
  pub not_last : 1 < count → own ≡ false

one-less : (t : Tables) (steps : List Step) (b : Block) (place n : ℕ) (gs : GoalTrees) (value : Option Tree) (last : Bool) →
    AreHere t steps b place (suc n) gs value last → AreHere t steps b place (suc (suc n) - 1) gs value last
one-less t steps b place n gs value last h = subst (λ m. AreHere t steps b place m gs value last) (omega arith) h

pub first-of : (t : Tables) (steps : List Step) (b : Block) (place count : ℕ) (g : GoalTree) (gs : GoalTrees) (value : Option Tree) (last : Bool) →
    AreHere t steps b place count (goal g gs) value last → FirstOf t steps b place count g gs value last
first-of t steps b place count g gs value last (last_here is) =
    record { own = last; here = is; some = omega arith; behind = none_here; alone = λ h. (refl, refl, refl); not_last = λ h. absurd (omega (arith, h)) }
first-of t steps b place count g gs value last (more_here is rest) =
    record { own = false; here = is; some = omega arith; behind = one-less t steps b _ _ gs value last rest; alone = λ h. absurd (omega (arith, h)); not_last = λ h. refl }

-- a frame's number is one of those that there are
pub goes_on-within : (t : Tables) (steps : List Step) (h : Here) (b : Block) (leaves : Bool) (n : ℕ) (k : List Frame) → GoesOn t steps h b leaves n k → n ≤ length h.frames
goes_on-within t steps h b leaves n k (answers is) = omega arith
goes_on-within t steps h b leaves n k (gives base is lies) = omega arith
goes_on-within t steps h b leaves n k (returns_to_end d is lies holds) = omega arith
goes_on-within t steps h b leaves n k (more_of_block p gs value last out k' at same earlier some here and_leaves rest) = frame-within h.frames n p at
goes_on-within t steps h b leaves n k (returns_to p d gs value last out k' at same lies earlier some holds here and_leaves rest) = frame-within h.frames n p at

-- a step that stands at a goal's place has the goal's size
pub here-size : (t : Tables) (steps : List Step) (b : Block) (place : ℕ) (g : GoalTree) (last : Bool) (s : Step) → IsHere t steps b place g last → slice_get steps place ≡ Some s →
    (s.size ≡ nodes g) × (place + nodes g < 2 ^ 32)
here-size t steps b place g last s is at = (size-shown t s g (stands-first t steps place g s is.stands at), is.stands.fits)

-- ---- frames for what is left

pub one-or-more : (n : ℕ) → (n ≤ 1) ⊎ (1 < n)
one-or-more zero = inl (omega arith)
one-or-more (suc zero) = inl (omega arith)
one-or-more (suc (suc n)) = inr (omega arith)

not-both : (b : Bool) → b ≡ false → b ≡ true → ⊥
not-both b one other = cc

pub frames-pushed : (fs : List Point) (q : Point) → FramesStay fs (fs ++ q ∷ []) (length fs)
frames-pushed fs q zero p within at = absurd cc
frames-pushed fs q (suc i) p within at = get_append_left fs (q ∷ []) i p at

abbrev pub with_frames : Here → List Point → Here
with_frames h fs = record { terms = h.terms; slots = h.slots; frames = fs; ends = h.ends }

-- what goes on goes on with more frames
pub goes_on-pushed : (t : Tables) (steps : List Step) (h : Here) (b : Block) (leaves : Bool) (n : ℕ) (k : List Frame) (q : Point) → b.base ≤ length h.slots →
    GoesOn t steps h b leaves n k → GoesOn t steps (with_frames h (h.frames ++ q ∷ [])) b leaves n k
goes_on-pushed t steps h b leaves n k q within goes =
    goes_on-moves t steps h (with_frames h (h.frames ++ q ∷ [])) b leaves n k (length h.slots) (length h.frames) within (goes_on-within t steps h b leaves n k goes)
    (record { long = omega arith; slots = refl; terms = λ n x is. is; frames = frames-pushed h.frames q }) refl goes

-- A goal at a point, and the frames that say what is left behind it.
pub record GoalAtPoint (t : Tables) (steps : List Step) (h : Here) (b : Block) (place n : ℕ) (g : GoalTree) (k : List Frame) : Type 0 where
  pub own : Bool
  pub leaves : Bool
  pub here : IsHere t steps b place g own
  pub frames : GoesOn t steps h b leaves n k
  pub own_leaves : LeftBehind None own leaves k

left-alone : (gs : GoalTrees) (value : Option Tree) (last own leaves : Bool) (rest : List Frame) → gs ≡ no_goals → value ≡ None → own ≡ last → LeftBehind value last leaves rest → LeftBehind None own leaves (behind gs (valued value rest))
left-alone gs value last own leaves rest no_more none same left =
    record {
      is_last = λ is. left.is_last (sym same ∙ is);
      is_given = λ h out. subst (λ k. k ≢ []) (sym (ap (λ x. behind x (valued value rest)) no_more ∙ ap (λ v. valued v rest) none)) (left.is_given none out);
      is_value = λ t h. absurd cc;
    }

pub frame-behind : (t : Tables) (steps : List Step) (h : Here) (b : Block) (p : Point) (s : Step) (g : GoalTree) (gs : GoalTrees) (value : Option Tree) (last leaves : Bool) (rest : List Frame) (fs : List Point) (n : ℕ) →
    slice_get steps p.place ≡ Some s → b.base ≡ p.base → b.base ≤ length h.slots → AreHere t steps b p.place p.count (goal g gs) value last →
    GoesOn t steps h b leaves p.frame rest → LeftBehind value last leaves rest → PushesBehind p s h.frames fs n →
    GoalAtPoint t steps (with_frames h fs) b p.place n g (behind gs (valued value rest))
frame-behind t steps h b p s g gs value last leaves rest fs n at base within here goes last_leaves pushes =
    let first : FirstOf t steps b p.place p.count g gs value last = first-of t steps b p.place p.count g gs value last here in
    let size : (s.size ≡ nodes g) × (p.place + nodes g < 2 ^ 32) = here-size t steps b p.place g first.own s first.here at in
    elim (one-or-more p.count) as (λ w. GoalAtPoint t steps (with_frames h fs) b p.place n g (behind gs (valued value rest))) [
      | inl few ↦
          (let alone : (gs ≡ no_goals) × (value ≡ None) × (first.own ≡ last) = first.alone few in
          let none : (n ≡ p.frame) × (fs ≡ h.frames) = pushes.alone few in
          record {
            own = first.own;
            leaves = leaves;
            here = first.here;
            frames = subst (λ k. GoesOn t steps (with_frames h fs) b leaves n k) (sym (ap (λ x. behind x (valued value rest)) alone.0 ∙ ap (λ v. valued v rest) alone.1))
                (subst (λ i. GoesOn t steps (with_frames h fs) b leaves i rest) (sym none.0) (subst (λ x. GoesOn t steps (with_frames h x) b leaves p.frame rest) (sym none.1) goes));
            own_leaves = left-alone gs value last first.own leaves rest alone.0 alone.1 alone.2 last_leaves;
          })
      | inr many ↦
          (let one : (n ≡ suc (length h.frames)) × (fs ≡ h.frames ++ point_behind p s ∷ []) = pushes.some many (omega (arith, size.0, size.1)) in
          record {
            own = first.own;
            leaves = false;
            here = first.here;
            frames = subst (λ x. GoesOn t steps (with_frames h x) b false n (behind gs (valued value rest))) (sym one.1)
                (subst (λ i. GoesOn t steps (with_frames h (h.frames ++ point_behind p s ∷ [])) b false i (behind gs (valued value rest))) (sym one.0)
                (more_of_block (point_behind p s) gs value last leaves rest (get_append_last h.frames (point_behind p s)) (sym base) (omega (arith, goes_on-within t steps h b leaves p.frame rest goes))
                (omega (arith, many))
                (subst (λ m. AreHere t steps b m (p.count - 1) gs value last) (ap (λ m. p.place + m) (sym size.0)) first.behind)
                last_leaves (goes_on-pushed t steps h b leaves p.frame rest (point_behind p s) within goes)));
            own_leaves = record { is_last = λ is. absurd (not-both first.own (first.not_last many) is); is_given = λ none out. absurd cc; is_value = λ t h. absurd cc };
          })
    ]
