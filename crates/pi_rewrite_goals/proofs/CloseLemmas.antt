-- What is open is closed from the last one on.
use Rattle.std.proofs.Common.{◌≡◌, List, [], ◌∷◌, ◌++◌, length, refl, sym, ◌∙◌, ap, append_assoc}
use Rattle.std.specs.Prelude.{Vec}
use Rattle.std.specs.declared.alloc.Global.{Global}
use Rattle.std.proofs.lemmas.List.{append-nil, length-replicate}
use Rattle.pi_core.specs.GoalTree.{GoalTree}
use Rattle.pi_core.specs.CoreTree.{PredTree}
use Rattle.pi_rewrite_spec.specs.Slots.{SlotNames, unnamed}
use Rattle.pi_rewrite_spec.specs.Goals.{SlotGoals, in_turn}
use Rattle.pi_rewrite_loops.specs.Helpers.{IsElement, lowered}
use Rattle.pi_rewrite_loops.specs.declared.elements.Element.{Element}
use Rattle.pi_rewrite_goals.specs.Opened.{element_pattern, around, own_of, all_around, all_own}
use Rattle.pi_rewrite_goals.specs.declared.opened.Open.{Open}
use Rattle.pi_rewrite_goals.specs.declared.opened.Open.TheVariants.{Test}
use Rattle.pi_rewrite_goals.proofs.OpenLemmas.{around-push, own-push}

-- ---- one

-- its pattern, as its helpers ask for it
pub own-element : (e : Element) → IsElement (element_pattern e) e
own-element e = record { form = refl; width = sym (length-replicate e.width unnamed) }

-- a test
pub close-test : (test then other choice : GoalTree) (before : Vec GoalTree Global) (goals new : List GoalTree) (ns ms : SlotNames) → then ≡ in_turn goals → other ≡ GoalTree.truth → choice ≡ GoalTree.if_else test then other → new ≡ before.items ++ choice ∷ [] → ms ≡ ns → lowered new ms ≡ around (Test test before) (lowered goals ns)
close-test test then other choice before goals new ns ms turn truth made put same =
    ap (λ gs. lowered gs ms) (put ∙ ap (λ (g : GoalTree). before.items ++ g ∷ []) (made ∙ (ap (λ g. GoalTree.if_else test g other) turn ∙ ap (λ g. GoalTree.if_else test (in_turn goals) g) truth)))
    ∙ ap (λ ks. lowered (before.items ++ GoalTree.if_else test (in_turn goals) GoalTree.truth ∷ []) ks) same

-- ---- all

-- on the way: of those that are left, around what there is now, all come to what they did
pub record Closing (os : List Open) (g : SlotGoals) (old : List PredTree) (left : List Open) (now : SlotGoals) (new : List PredTree) : Type 0 where
  pub goals : all_around left now ≡ all_around os g
  pub helpers : new ++ all_own left now ≡ old ++ all_own os g

pub close-first : (os : List Open) (g : SlotGoals) (old : List PredTree) → Closing os g old os g old
close-first os g old = record { goals = refl; helpers = refl }

pub close-next : (os left rest : List Open) (o : Open) (g now next : SlotGoals) (old new more : List PredTree) → left ≡ rest ++ o ∷ [] → next ≡ around o now → more ≡ new ++ own_of o now → Closing os g old left now new → Closing os g old rest next more
close-next os left rest o g now next old new more last made put so = record {
  goals = ap (all_around rest) made ∙ (sym (around-push rest o now) ∙ (ap (λ ps. all_around ps now) (sym last) ∙ so.goals));
  helpers =
      ap (λ x. more ++ all_own rest x) made
      ∙ (ap (λ ps. ps ++ all_own rest (around o now)) put ∙ (append_assoc new (own_of o now) (all_own rest (around o now))
      ∙ (ap (λ ps. new ++ ps) (sym (own-push rest o now)) ∙ (ap (λ ps. new ++ all_own ps now) (sym last) ∙ so.helpers))));
}

pub no-more : (os : List Open) → length os ≡ 0 → os ≡ []
no-more [] none = refl
no-more (o ∷ os) none = absurd (cc)

pub close-goals : (os left : List Open) (g now : SlotGoals) (old new : List PredTree) → left ≡ [] → Closing os g old left now new → now ≡ all_around os g
unfolding all_around
close-goals os left g now old new none so = sym (ap (λ ps. all_around ps now) none) ∙ so.goals

pub close-helpers : (os left : List Open) (g now : SlotGoals) (old new : List PredTree) → left ≡ [] → Closing os g old left now new → new ≡ old ++ all_own os g
unfolding all_own all_around
close-helpers os left g now old new none so = sym (append-nil new) ∙ (sym (ap (λ ps. new ++ all_own ps now) none) ∙ so.helpers)
