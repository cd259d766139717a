-- What goals of a text are lowered to: goals that are fine wherever they stand, with good helpers.
use Rattle.std.proofs.Common.{◌≡◌, ℕ, ◌≤◌, List, [], ◌∷◌, ◌++◌, length, refl, sym, subst, arith, append_assoc}
use Rattle.std.specs.Prelude.{Option, Some, None}
use Rattle.pi_terms.specs.Tree.{trees_of}
use Rattle.pi_constraints.specs.State.{SpeaksBelow}
use Rattle.pi_constraints.proofs.KeepsLemmas.{TreesBelow}
use Rattle.pi_core.specs.GoalTree.{GoalTree, fail, if_else, not, once, catch}
use Rattle.pi_core.specs.CoreTree.{PredTree}
use Rattle.pi_rewrite_spec.specs.Forms.{Knows}
use Rattle.pi_rewrite_spec.specs.Slots.{SlotNames}
use Rattle.pi_rewrite_spec.specs.Values.{SlotValue, SlotValues}
use Rattle.pi_rewrite_spec.specs.Goals.{SlotGoals, SlotBranches, SlotArrow, in_turn, either_of, just, never, goal_by, catching, joined, choosing, as_goals, branch_before}
use Rattle.pi_rewrite_sound.proofs.FineGoals.{Fine, AllFine, fine-none, fine-one, fine-first, fine-append, fine-turn, fine-either, fine-fail, fine-if, fine-not, fine-once, fine-catch}
use Rattle.pi_rewrite_sound.proofs.GoodHelpers.{Allows, Has, has-first, has-last, GoodHelpers, no-helpers, both-helpers}

-- with so many helpers
pub record GoodGoals (known : Knows) (ps : List PredTree) (lowered : SlotNames → SlotGoals) : Type 0 where
  pub longer : (ns : SlotNames) → length ns ≤ length (lowered ns).names
  pub fine : (may : Knows) → Allows known may → Has may ps → (n : ℕ) (ns : SlotNames) → length (lowered ns).names ≤ n → AllFine n may (lowered ns).goals
  pub helpers : GoodHelpers known ps

pub record GoodValue (known : Knows) (ps : List PredTree) (lowered : SlotNames → SlotValue) : Type 0 where
  pub longer : (ns : SlotNames) → length ns ≤ length (lowered ns).names
  pub fine : (may : Knows) → Allows known may → Has may ps → (n : ℕ) (ns : SlotNames) → length (lowered ns).names ≤ n → AllFine n may (lowered ns).goals
  pub below : (n : ℕ) (ns : SlotNames) → length (lowered ns).names ≤ n → SpeaksBelow n (lowered ns).tree
  pub helpers : GoodHelpers known ps

pub record GoodValues (known : Knows) (ps : List PredTree) (lowered : SlotNames → SlotValues) : Type 0 where
  pub longer : (ns : SlotNames) → length ns ≤ length (lowered ns).names
  pub fine : (may : Knows) → Allows known may → Has may ps → (n : ℕ) (ns : SlotNames) → length (lowered ns).names ≤ n → AllFine n may (lowered ns).goals
  pub below : (n : ℕ) (ns : SlotNames) → length (lowered ns).names ≤ n → TreesBelow n (trees_of (lowered ns).trees)
  pub helpers : GoodHelpers known ps

pub record GoodBranches (known : Knows) (ps : List PredTree) (lowered : SlotNames → SlotBranches) : Type 0 where
  pub longer : (ns : SlotNames) → length ns ≤ length (lowered ns).names
  pub fine : (may : Knows) → Allows known may → Has may ps → (n : ℕ) (ns : SlotNames) → length (lowered ns).names ≤ n → AllFine n may (lowered ns).branches
  pub helpers : GoodHelpers known ps

-- ---- control

pub good-nothing : {known : Knows} → GoodGoals known [] (λ ns. record { goals = []; names = ns })
good-nothing {known} = record { longer = λ ns. omega arith; fine = λ may allows has n ns room. fine-none n may; helpers = no-helpers known }

pub good-just : {known : Knows} (g : GoalTree) → ((n : ℕ) (may : Knows) → Allows known may → Fine n may g) → GoodGoals known [] (λ ns. just g ns)
good-just {known} g is = record { longer = λ ns. omega arith; fine = λ may allows has n ns room. fine-one n may g (is n may allows); helpers = no-helpers known }

pub good-joined : {known : Knows} {ps qs : List PredTree} {f g : SlotNames → SlotGoals} → GoodGoals known ps f → GoodGoals known qs g → GoodGoals known (ps ++ qs) (λ ns. joined (f ns) (g (f ns).names))
good-joined {known} {ps} {qs} {f} {g} is are = record {
  longer = λ ns. omega (arith, is.longer ns, are.longer (f ns).names);
  fine = λ may allows has n ns room.
      fine-append n may (f ns).goals (g (f ns).names).goals (is.fine may allows (has-first may ps qs has) n ns (omega (arith, room, are.longer (f ns).names))) (are.fine may allows (has-last may ps qs has) n (f ns).names room);
  helpers = both-helpers known ps qs is.helpers are.helpers;
}

pub good-not : {known : Knows} {ps : List PredTree} {g : SlotNames → SlotGoals} → GoodGoals known ps g → GoodGoals known ps (λ ns. goal_by not (g ns))
good-not {known} {ps} {g} is = record {
  longer = is.longer;
  fine = λ may allows has n ns room. fine-one n may (not (in_turn (g ns).goals)) (fine-not n may (in_turn (g ns).goals) (fine-turn n may (g ns).goals (is.fine may allows has n ns room)));
  helpers = is.helpers;
}

pub good-once : {known : Knows} {ps : List PredTree} {g : SlotNames → SlotGoals} → GoodGoals known ps g → GoodGoals known ps (λ ns. goal_by once (g ns))
good-once {known} {ps} {g} is = record {
  longer = is.longer;
  fine = λ may allows has n ns room. fine-one n may (once (in_turn (g ns).goals)) (fine-once n may (in_turn (g ns).goals) (fine-turn n may (g ns).goals (is.fine may allows has n ns room)));
  helpers = is.helpers;
}

pub good-choosing : {known : Knows} {ps qs rs : List PredTree} {t h o : SlotNames → SlotGoals} → GoodGoals known ps t → GoodGoals known qs h → GoodGoals known rs o → GoodGoals known (ps ++ (qs ++ rs)) (λ ns. choosing (t ns) h o)
good-choosing {known} {ps} {qs} {rs} {t} {h} {o} test holds other = record {
  longer = λ ns. omega (arith, test.longer ns, holds.longer (t ns).names, other.longer (h (t ns).names).names);
  fine = λ may allows has n ns room.
      let ms : SlotNames = (t ns).names in
      let ks : SlotNames = (h ms).names in
      let room-k : length ks ≤ n = omega (arith, room, other.longer ks) in
      let room-m : length ms ≤ n = omega (arith, room-k, holds.longer ms) in
      let later : Has may (qs ++ rs) = has-last may ps (qs ++ rs) has in
      fine-one n may (if_else (in_turn (t ns).goals) (in_turn (h ms).goals) (in_turn (o ks).goals))
      (fine-if n may (in_turn (t ns).goals) (in_turn (h ms).goals) (in_turn (o ks).goals) (fine-turn n may (t ns).goals (test.fine may allows (has-first may ps (qs ++ rs) has) n ns room-m))
      (fine-turn n may (h ms).goals (holds.fine may allows (has-first may qs rs later) n ms room-k)) (fine-turn n may (o ks).goals (other.fine may allows (has-last may qs rs later) n ks room)));
  helpers = both-helpers known ps (qs ++ rs) test.helpers (both-helpers known qs rs holds.helpers other.helpers);
}

pub good-no-branches : {known : Knows} → GoodBranches known [] (λ ns. record { branches = []; names = ns })
good-no-branches {known} = record { longer = λ ns. omega arith; fine = λ may allows has n ns room. fine-none n may; helpers = no-helpers known }

pub good-as-goals : {known : Knows} {ps : List PredTree} {bs : SlotNames → SlotBranches} → GoodBranches known ps bs → GoodGoals known ps (λ ns. as_goals (bs ns))
good-as-goals {known} {ps} {bs} is = record {
  longer = is.longer;
  fine = λ may allows has n ns room. fine-one n may (either_of (bs ns).branches) (fine-either n may (bs ns).branches (is.fine may allows has n ns room));
  helpers = is.helpers;
}

-- a branch with or without an arrow
pub data GoodArrow (known : Knows) : List PredTree → Option SlotArrow → Type 0 where
  no_good_arrow : (ps : List PredTree) → GoodArrow known ps None
  a_good_arrow : (ps qs : List PredTree) (a : SlotArrow) → GoodGoals known ps a.test → GoodGoals known qs a.body → GoodArrow known (ps ++ qs) (Some a)

pub good-branch : {known : Knows} {ps qs : List PredTree} {o : Option SlotArrow} {g : SlotNames → SlotGoals} {others : SlotNames → SlotBranches} → GoodArrow known ps o → (o ≡ None → GoodGoals known ps g) → GoodBranches known qs others →
    GoodBranches known (ps ++ qs) (branch_before o g others)
good-branch {known = known} {qs = qs} {g = g} {others = others} (no_good_arrow ps) is are =
    let it : GoodGoals known ps g = is refl in
    record {
      longer = λ ns. omega (arith, it.longer ns, are.longer (g ns).names);
      fine = λ may allows has n ns room.
          fine-first n may (in_turn (g ns).goals) (others (g ns).names).branches (fine-turn n may (g ns).goals (it.fine may allows (has-first may ps qs has) n ns (omega (arith, room, are.longer (g ns).names))))
          (are.fine may allows (has-last may ps qs has) n (g ns).names room);
      helpers = both-helpers known ps qs it.helpers are.helpers;
    }
good-branch {known = known} {qs = rs} {g = g} {others = others} (a_good_arrow ps qs a test body) is are =
    let all : GoodGoals known (ps ++ (qs ++ rs)) (λ ns. choosing (a.test ns) a.body (λ ms. as_goals (others ms))) = good-choosing test body (good-as-goals are) in
    subst (λ (xs : List PredTree). GoodBranches known xs (branch_before (Some a) g others)) (sym (append_assoc ps qs rs)) (record { longer = all.longer; fine = all.fine; helpers = all.helpers })

pub good-catching : {known : Knows} {ps qs rs : List PredTree} {v : SlotNames → SlotValue} {g h : SlotNames → SlotGoals} → GoodValue known ps v → GoodGoals known qs g → GoodGoals known rs h → GoodGoals known (ps ++ (qs ++ rs)) (λ ns. catching g h (v ns))
good-catching {known} {ps} {qs} {rs} {v} {g} {h} ball is handles = record {
  longer = λ ns. omega (arith, ball.longer ns, is.longer (v ns).names, handles.longer (g (v ns).names).names);
  fine = λ may allows has n ns room.
      let ms : SlotNames = (v ns).names in
      let ks : SlotNames = (g ms).names in
      let room-k : length ks ≤ n = omega (arith, room, handles.longer ks) in
      let room-m : length ms ≤ n = omega (arith, room-k, is.longer ms) in
      let later : Has may (qs ++ rs) = has-last may ps (qs ++ rs) has in
      fine-append n may (v ns).goals (catch (in_turn (g ms).goals) (v ns).tree (in_turn (h ks).goals) ∷ []) (ball.fine may allows (has-first may ps (qs ++ rs) has) n ns room-m)
      (fine-one n may (catch (in_turn (g ms).goals) (v ns).tree (in_turn (h ks).goals))
      (fine-catch n may (in_turn (g ms).goals) (v ns).tree (in_turn (h ks).goals) (fine-turn n may (g ms).goals (is.fine may allows (has-first may qs rs later) n ms room-k)) (ball.below n ns room-m)
      (fine-turn n may (h ks).goals (handles.fine may allows (has-last may qs rs later) n ks room))));
  helpers = both-helpers known ps (qs ++ rs) ball.helpers (both-helpers known qs rs is.helpers handles.helpers);
}

-- with the same helpers
pub good-same : {known : Knows} {ps qs : List PredTree} {g : SlotNames → SlotGoals} → ps ≡ qs → GoodGoals known ps g → GoodGoals known qs g
good-same {known} {ps} {qs} {g} same is = subst (λ (xs : List PredTree). GoodGoals known xs g) same is
