-- What slots hold and frames say, where the arenas change.
use Rattle.std.proofs.Common.{◌≡◌, ℕ, ◌+◌, ◌≤◌, Bool, List, [], ◌∷◌, Option, Some, None, length, take, drop, sym, ◌∙◌, ap, subst, arith}
use Rattle.std.proofs.lemmas.List.{drop-take}
use Rattle.pi_terms.specs.Places.{Places}
use Rattle.pi_constraints.specs.Store.{Terms, Extend}
use Rattle.pi_constraints.specs.declared.store.Ref.{Ref}
use Rattle.pi_terms.proofs.ListLemmas.{take-take}
use Rattle.pi_engine_arenas.specs.declared.frames.Point.{Point}
use Rattle.pi_engine_code.specs.declared.code.Step.{Step}
use Rattle.pi_engine_code.specs.Code.{Tables}
use Rattle.pi_engine_arenas.specs.Frames.{frame_at}
use Rattle.pi_meaning.specs.Machine.Configuration.{Frame}
use Rattle.pi_engine_stands.specs.Here.{Block, block_end, AreHeld, Holds, Here, GoesOn, answers, gives, returns_to_end, more_of_block, returns_to}

-- ---- slots

pub take-agrees : {A : Type 0} (n m : ℕ) (xs ys : List A) → n ≤ m → take m xs ≡ take m ys → take n xs ≡ take n ys
take-agrees n m xs ys h agree = sym (take-take n m xs h) ∙ ap (take n) agree ∙ take-take n m ys h

pub part-agrees : {A : Type 0} (from count limit : ℕ) (xs ys : List A) → from + count ≤ limit → take limit xs ≡ take limit ys → take count (drop from xs) ≡ take count (drop from ys)
part-agrees from count limit xs ys h agree =
    sym (drop-take from count xs) ∙ ap (drop from) (take-agrees (from + count) limit xs ys h agree) ∙ drop-take from count ys

pub held-extends : (t u : Terms) (rs : List (Option Ref)) (e : Places) → Extend t u → AreHeld t rs e → AreHeld u rs e
unfolding AreHeld
held-extends t u [] [] h held = held
held-extends t u [] (x ∷ e) h held = held
held-extends t u (r ∷ rs) [] h held = held
held-extends t u (None ∷ rs) (None ∷ e) h held = held-extends t u rs e h held
held-extends t u (None ∷ rs) (Some x ∷ e) h held = held
held-extends t u (Some r ∷ rs) (None ∷ e) h held = held
held-extends t u (Some r ∷ rs) (Some x ∷ e) h (first, rest) = (h r.number x first, held-extends t u rs e h rest)

-- a block in front of some slot, where the slots in front of that one stay
pub holds-moves : (t u : Terms) (xs ys : List (Option Ref)) (b : Block) (e : Places) (limit : ℕ) →
    block_end b ≤ limit → limit ≤ length ys → take limit xs ≡ take limit ys → Extend t u → Holds t xs b e → Holds u ys b e
holds-moves t u xs ys b e limit within long agree extend held =
    record {
      within = omega (arith, within, long);
      held = held-extends t u (take b.count (drop (b.base + b.first) ys)) e extend
          (subst (λ rs. AreHeld t rs e) (part-agrees (b.base + b.first) b.count limit xs ys (omega (arith, within)) agree) held.held);
    }

pub holds-extends : (t u : Terms) (xs : List (Option Ref)) (b : Block) (e : Places) → Extend t u → Holds t xs b e → Holds u xs b e
holds-extends t u xs b e extend held = record { within = held.within; held = held-extends t u (take b.count (drop (b.base + b.first) xs)) e extend held.held }

-- ---- frames

-- the frames up to some number stay
abbrev pub FramesStay : List Point → List Point → ℕ → Type 0
FramesStay fs gs m = (n : ℕ) (p : Point) → n ≤ m → frame_at fs n ≡ Some p → frame_at gs n ≡ Some p

pub record Moves (h g : Here) (limit m : ℕ) : Type 0 where
  pub long : limit ≤ length g.slots
  pub slots : take limit h.slots ≡ take limit g.slots
  pub terms : Extend h.terms g.terms
  pub frames : FramesStay h.frames g.frames m

-- what is left to do behind a block is the same where the slots in front of it and the frames stay
pub goes_on-moves : (t : Tables) (steps : List Step) (h g : Here) (b : Block) (leaves : Bool) (n : ℕ) (k : List Frame) (limit m : ℕ) →
    b.base ≤ limit → n ≤ m → Moves h g limit m → h.ends ≡ g.ends → GoesOn t steps h b leaves n k → GoesOn t steps g b leaves n k
goes_on-moves t steps h g b leaves n k limit m in_front below moves ends (answers is) = answers (sym ends ∙ is)
goes_on-moves t steps h g b leaves n k limit m in_front below moves ends (gives base is lies) = gives base (sym ends ∙ is) lies
goes_on-moves t steps h g b leaves n k limit m in_front below moves ends (returns_to_end d is lies holds) =
    returns_to_end d (sym ends ∙ is) lies (holds-moves h.terms g.terms h.slots g.slots d _ limit (omega (arith, lies, in_front)) moves.long moves.slots moves.terms holds)
goes_on-moves t steps h g b leaves n k limit m in_front below moves ends (more_of_block p gs value last out k' at same earlier some here and_leaves rest) =
    more_of_block p gs value last out k' (moves.frames n p below at) same earlier some here and_leaves
    (goes_on-moves t steps h g b out p.frame k' limit m in_front (omega (arith, earlier, below)) moves ends rest)
goes_on-moves t steps h g b leaves n k limit m in_front below moves ends (returns_to p d gs value last out k' at same lies earlier some holds here and_leaves rest) =
    returns_to p d gs value last out k' (moves.frames n p below at) same lies earlier some
    (holds-moves h.terms g.terms h.slots g.slots d _ limit (omega (arith, lies, in_front)) moves.long moves.slots moves.terms holds) here and_leaves
    (goes_on-moves t steps h g d out p.frame k' limit m (omega (arith, lies, in_front)) (omega (arith, earlier, below)) moves ends rest)
