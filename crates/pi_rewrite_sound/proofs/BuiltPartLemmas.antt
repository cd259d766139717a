-- The first part that isn't built, by a loop over the parts.
use Rattle.std.proofs.Common.{◌≡◌, ℕ, ◌+◌, ◌<◌, ◌≤◌, Bool, true, false, if◌then◌else◌, List, ◌∷◌, map, length, get_or, drop, Option, Some, None, refl, ap, ◌∙◌, sym}
use Rattle.std.proofs.lemmas.List.{drop_more, drop_all}
use Rattle.pi_syntax.specs.declared.program.Part.{Part}
use Rattle.pi_syntax.specs.ProgramTree.{part_tree}
use Rattle.pi_rewrite_sound.specs.Built.{is_built_part, unbuilt_from}

step_over : (b : Bool) (later : Option ℕ) (n : ℕ) → b ≡ true → (if b then later else Some n) ≡ later
step_over true later n e = refl
step_over false later n e = absurd (cc)

stop_here : (b : Bool) (later : Option ℕ) (n : ℕ) → b ≡ false → (if b then later else Some n) ≡ Some n
stop_here true later n e = absurd (cc)
stop_here false later n e = refl

part_ahead : (i : ℕ) (ps : List Part) (p : Part) → i < length ps → p ≡ get_or ps i p → drop i ps ≡ p ∷ drop (i + 1) ps
part_ahead i ps p here is = drop_more ps i p here ∙ ap (λ q. q ∷ drop (i + 1) ps) (sym is)

-- so many parts are built
abbrev pub AreBuilt : List Part → ℕ → Type 0
AreBuilt ps i = unbuilt_from (i + 1) (map part_tree (drop i ps)) ≡ unbuilt_from 1 (map part_tree ps)

pub one_more_built : (i : ℕ) (ps : List Part) (p : Part) (r : Bool) → i < length ps → p ≡ get_or ps i p → r ≡ is_built_part (part_tree p) → r ≡ true → AreBuilt ps i → AreBuilt ps (i + 1)
unfolding unbuilt_from
one_more_built i ps p r here is tested built before =
    sym (ap (λ qs. unbuilt_from (i + 1) (map part_tree qs)) (part_ahead i ps p here is)
    ∙ step_over (is_built_part (part_tree p)) (unbuilt_from (i + 1 + 1) (map part_tree (drop (i + 1) ps))) (i + 1) (sym tested ∙ built)) ∙ before

pub one_not_built : (i : ℕ) (ps : List Part) (p : Part) (r : Bool) → i < length ps → p ≡ get_or ps i p → r ≡ is_built_part (part_tree p) → r ≡ false → AreBuilt ps i → Some (i + 1) ≡ unbuilt_from 1 (map part_tree ps)
unfolding unbuilt_from
one_not_built i ps p r here is tested failed before =
    sym (ap (λ qs. unbuilt_from (i + 1) (map part_tree qs)) (part_ahead i ps p here is)
    ∙ stop_here (is_built_part (part_tree p)) (unbuilt_from (i + 1 + 1) (map part_tree (drop (i + 1) ps))) (i + 1) (sym tested ∙ failed)) ∙ before

pub all_built : (i : ℕ) (ps : List Part) → length ps ≤ i → AreBuilt ps i → None ≡ unbuilt_from 1 (map part_tree ps)
unfolding unbuilt_from
all_built i ps end before = sym (ap (λ qs. unbuilt_from (i + 1) (map part_tree qs)) (drop_all i ps end)) ∙ before
