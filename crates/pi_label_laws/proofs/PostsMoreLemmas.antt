-- What is posted over the items of a call leaves some of its assignments.
use Rattle.std.specs.Prelude.{◌≡◌, ◌⊎◌, ℕ, suc, ◌<◌, ◌≤◌, ℤ, List, [], ◌∷◌, map, Contains, refl}
use Rattle.std.proofs.Common.{arith, sym, ◌∙◌, ap, subst, inl, inr}
use Rattle.pi_constraints.specs.declared.constraint.Constraint.{Constraint}
use Rattle.pi_constraints.specs.declared.constraint.Item.{Item}
use Rattle.pi_constraints.specs.Domain.{IsWithinBounds}
use Rattle.pi_constraints.specs.State.{State, next}
use Rattle.pi_prop_spec.specs.Places.{places_of}
use Rattle.pi_prop_spec.specs.Solutions.{value_of, Holds}
use Rattle.pi_prop_spec.specs.Says.{AgreeBelow}
use Rattle.pi_prop_spec.specs.Postings.{Posting}
use Rattle.pi_settling.specs.Roots.{root_item}
use Rattle.pi_settling.specs.Solves.{Solves}
use Rattle.pi_settling.specs.Confined.{confined}
use Rattle.pi_settling.specs.Posted.{posted_in}
use Rattle.pi_settling.proofs.StableLemmas.{root-value}
use Rattle.pi_label_laws.specs.Made.{MayLabel}
use Rattle.pi_label_laws.specs.ObjectiveLaws.{PostsMore}
use Rattle.pi_label_laws.proofs.BeginLemmas.{IsGood, good-out}
use Rattle.pi_label_laws.proofs.DefaultLemmas.{confined-up, confined-down}
use Rattle.pi_label_laws.proofs.LabelledLemmas.{PostsNew, same-number, posts-new-labelled}
use Rattle.pi_label_laws.proofs.PostedLemmas.{posted-held}
use Rattle.pi_label_laws.proofs.PostSolves.{Extended, posted-solved, solved-before}
use Rattle.pi_label_laws.proofs.RoundLemmas.{AllGood, good-same, out-bounded, root-confined}

-- values of the new variables with which all holds that is posted
pub record Extension (s : State) (p : Posting) (a : ℕ → ℤ) : Type 0 where
  pub values : ℕ → ℤ
  pub agrees : AgreeBelow (next s) a values
  pub holds : (c : Constraint) → Contains p.list c → Holds c values
  pub bounded : (c : Constraint) (w : ℕ) → Contains p.list c → Contains (places_of c) (Item.Var w) → next s ≤ w → IsWithinBounds (values w)

less_or_not : (m n : ℕ) → (m < n) ⊎ (n ≤ m)
less_or_not m n = grind arith

-- a variable that an item comes to has a value within the bounds
item-bounded : (s : State) (items : List Item) (a : ℕ → ℤ) (x : Item) (v : ℕ) → AllGood s items → Solves (confined s items) a → Contains items x → root_item s x ≡ Item.Var v → IsWithinBounds (a v)
item-bounded s items a x v good h at root = out-bounded (confined s items) a x v h (good-out s items good x at) (root-confined s items x ∙ root)

extended : (s : State) (items : List Item) (p : Posting) (a : ℕ → ℤ) → AllGood s items → PostsNew s (posted_in s p) items p.list → Solves (confined s items) a → (e : Extension s p a) → Extended s p a e.values
extended s items p a good new h e = record {
  solves = confined-down items s a h;
  agrees = e.agrees;
  holds = e.holds;
  bounded = λ c w at place. elim (less_or_not w (next s)) [
    | inl l ↦ let x = new.old c w at place l in subst IsWithinBounds (sym (e.agrees w l)) (item-bounded s items a x.0 w good h x.1 x.2)
    | inr past ↦ e.bounded c w at place past
  ];
}

root-agrees : (s : State) (p : Posting) (a : ℕ → ℤ) (e : Extension s p a) (x : Item) → IsGood s x → value_of e.values (root_item s x) ≡ value_of a (root_item s x)
root-agrees s p a e x (inl (v, at, l, none)) = ap (value_of e.values) at ∙ (e.agrees v l ∙ sym (ap (value_of a) at))
root-agrees s p a e x (inr (i, at)) = ap (value_of e.values) at ∙ sym (ap (value_of a) at)

item-agrees : (s : State) (items : List Item) (p : Posting) (a : ℕ → ℤ) (e : Extension s p a) (x : Item) → PostsNew s (posted_in s p) items p.list → Solves s a → Solves (posted_in s p) e.values → IsGood s x → value_of e.values x ≡ value_of a x
item-agrees s items p a e x new h k good =
    sym (root-value (posted_in s p) e.values k x) ∙ (ap (value_of e.values) (new.roots x) ∙ (root-agrees s p a e x good ∙ root-value s a h x))

items-agree : (s : State) (all items : List Item) (p : Posting) (a : ℕ → ℤ) (e : Extension s p a) → PostsNew s (posted_in s p) all p.list → Solves s a → Solves (posted_in s p) e.values → AllGood s items → map (value_of e.values) items ≡ map (value_of a) items
items-agree s all [] p a e new h k good = refl
items-agree s all (x ∷ items) p a e new h k good =
    let first = item-agrees s all p a e x new h k (good x (0, omega arith, refl)) in
    let rest = items-agree s all items p a e new h k (λ y at. good y (suc at.0, omega (arith, at.1), at.2)) in
    (λ i. first i ∷ rest i)

bounded-there : (s : State) (items : List Item) (p : Posting) (a : ℕ → ℤ) (e : Extension s p a) (x : Item) (v : ℕ) → AllGood s items → Solves (confined s items) a → Contains items x → IsGood s x → root_item s x ≡ Item.Var v → IsWithinBounds (e.values v)
bounded-there s items p a e x v good h at (inl (w, f, l, none)) root =
    let same : w ≡ v = same-number w v (sym f ∙ root) in
    subst (λ (j : ℕ). IsWithinBounds (e.values j)) same (subst IsWithinBounds (sym (e.agrees w l)) (item-bounded s items a x w good h at f))
bounded-there s items p a e x v good h at (inr (i, f)) root = absurd cc

pub posts-more : (s : State) (items : List Item) (p : Posting) (leaves : List ℤ → Type 0) → MayLabel s items → AllGood s items → PostsNew s (posted_in s p) items p.list →
    ((a : ℕ → ℤ) → Solves (confined s items) a → ((c : Constraint) → Contains p.list c → Holds c a) → leaves (map (value_of a) items)) →
    ((a : ℕ → ℤ) → Solves (confined s items) a → leaves (map (value_of a) items) → Extension s p a) → PostsMore s (posted_in s p) items leaves
posts-more s items p leaves m good new says extends =
    let q : State = posted_in s p in
    let good_q : AllGood q items = λ x at. good-same s q m.state new.after.state new.after.more (posted-held s p) x (good x at) in
    record {
      state = new.after.state;
      settles = new.after.settles;
      more = new.after.more;
      same = posted-held s p;
      kept = λ values. (
        λ e.
            let a : ℕ → ℤ = e.assignment in
            let before = solved-before s items p a m.state m.settles new (confined-down items q a e.solves) in
            let there : Solves (confined s items) a =
            confined-up items s a before.0 (λ x at v root. out-bounded (confined q items) a x v e.solves (good-out q items good_q x at) (root-confined q items x ∙ (new.roots x ∙ root))) in
            (record { assignment = a; solves = there; are = e.are }, subst leaves e.are (says a there before.1)),
        λ both.
            let a : ℕ → ℤ = both.0.assignment in
            let h : Solves (confined s items) a = both.0.solves in
            let e : Extension s p a = extends a h (subst leaves (sym both.0.are) both.1) in
            let behind : Solves q e.values = posted-solved s items p a e.values m.state m.settles new (extended s items p a good new h e) in
            let there : Solves (confined q items) e.values = confined-up items q e.values behind (λ x at v root. bounded-there s items p a e x v good h at (good x at) (sym (new.roots x) ∙ root)) in
            record { assignment = e.values; solves = there; are = items-agree s items items p a e new (confined-down items s a h) behind good ∙ both.0.are },
      );
      may_label = λ r f. posts-new-labelled s q r items p.list m new f;
    }
