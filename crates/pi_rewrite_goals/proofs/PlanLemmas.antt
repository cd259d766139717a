-- The loop of an iterator, and where its turns stand, over the parts that code finds.
use Rattle.std.proofs.Common.{◌≡◌, ℕ, suc, ◌+◌, List, [], ◌++◌, length, Some, arith, sym, ◌∙◌, ap}
use Rattle.std.specs.Prelude.{replicate}
use Rattle.std.proofs.lemmas.List.{length-append}
use Rattle.pi_syntax.specs.ExpTree.{ExpTree, ExpTrees}
use Rattle.pi_meaning.specs.OverNames.Texts.{Names, places, iterated, occurring_all, pattern_places, patterns_of, without, shared_names}
use Rattle.pi_rewrite_spec.specs.Slots.{SlotNames, unnamed}
use Rattle.pi_rewrite_spec.specs.Values.{SlotPattern, slot_pattern}
use Rattle.pi_rewrite_spec.specs.Sites.{Site, helpers_in, helpers_in_units, behind_site, inside}
use Rattle.pi_rewrite_spec.specs.Loops.{Ending, Loop, loop_slots}
use Rattle.pi_rewrite_spec.specs.Iterators.{walk_slots, turn_slots}
use Rattle.pi_rewrite_spec.specs.Written.{Inner, loop_at, iterator_loop, turn_name, elements_of}
use Rattle.pi_rewrite_spec.proofs.EnteredLemmas.{values-long}
use Rattle.pi_rewrite_sites.specs.TextNames.{kept_of}
use Rattle.pi_rewrite_goals.specs.Planned.{loop_over}

pub plan-loop : (s : Site) (ending : Ending) (i : Inner) (n : ℕ) (own : Names) (u e : ExpTree) (us : ExpTrees) → iterated u ≡ Some e → n ≡ helpers_in u + (helpers_in_units us + i.count) → own ≡ places e → loop_over s ending i n own us ≡ iterator_loop s ending i u us e
unfolding patterns_of
plan-loop s ending i n own u e us is count names =
    let used : Names = occurring_all us ++ i.used in
    let kept : Names → Loop = λ ps. loop_at s (helpers_in u + (helpers_in_units us + i.count)) (without (shared_names s.before used) (places e)) (kept_of s.before (ps ++ patterns_of us) i.assigned) ending in
    ap (λ k. loop_over s ending i k own us) count
    ∙ (ap (λ ps. loop_over s ending i (helpers_in u + (helpers_in_units us + i.count)) ps us) names ∙ ap (λ o. kept (pattern_places o)) (sym is))

pub plan-turn : (s : Site) (i : Inner) (n m : ℕ) (u : ExpTree) (us : ExpTrees) (name : List ℕ) → n ≡ helpers_in u + (helpers_in_units us + i.count) → m ≡ n + 1 → name ≡ s.called (s.helpers + m) → name ≡ turn_name s i u us
plan-turn s i n m u us name count next is =
    let same : s.helpers + m ≡ suc (s.helpers + (helpers_in u + (helpers_in_units us + i.count))) = omega arith in
    is ∙ ap s.called same

-- how many slots its turns have at first
pub turn-long : (l : Loop) (p : SlotPattern) → length (turn_slots l p) ≡ length (p.names ++ replicate walk_slots unnamed) + length (loop_slots l)
turn-long l p =
    let walk : SlotNames = replicate walk_slots unnamed in
    omega (arith, values-long l.kept (p.names ++ walk ++ l.shared), values-long l.kept l.shared, length-append (p.names ++ walk) l.shared)

pub plan-site : (s made : Site) (l : Loop) (u e : ExpTree) (slots : SlotNames) (own : Names) → slots ≡ turn_slots l (slot_pattern e []) → own ≡ places e → made ≡ behind_site (inside s (length slots) l.shared) own (helpers_in u) → made ≡ elements_of s l u e
plan-site s made l u e slots own start names is =
    is
    ∙ (ap (λ ns. behind_site (inside s (length ns) l.shared) own (helpers_in u)) start
    ∙ (ap (λ ns. behind_site (inside s (length (turn_slots l (slot_pattern e []))) l.shared) ns (helpers_in u)) names
    ∙ ap (λ n. behind_site (inside s n l.shared) (places e) (helpers_in u)) (turn-long l (slot_pattern e []))))
