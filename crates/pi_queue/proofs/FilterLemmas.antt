-- What is told of places whose values stand in a store, where a constraint may be run.
use Rattle.std.specs.Prelude.{◌≡◌, ℕ, ◌<◌, List, [], ◌∷◌, length, map, Option, None, unwrap_or, get_or, refl}
use Rattle.std.proofs.Common.{arith, sym, ◌∙◌, ap, subst}
use Rattle.std.proofs.lemmas.List.{get_or_default}
use Rattle.pi_constraints.specs.Constraint.{AreItems, IsItem}
use Rattle.pi_constraints.specs.declared.constraint.Constraint.{Constraint}
use Rattle.pi_constraints.specs.declared.constraint.Item.{Item}
use Rattle.pi_constraints.specs.declared.domain.Span.{Span}
use Rattle.pi_prop_spec.specs.Places.{places_of, domain_at}
use Rattle.pi_constraints.specs.State.{State, bindings}
use Rattle.pi_constraints.specs.Value.{IsAcyclic}
use Rattle.pi_settling.specs.Roots.{root_item, given, domain_or_all}
use Rattle.pi_prop_filters.specs.Left.{AreLeft}
use Rattle.pi_queue.specs.Standing.{standing_at}
use Rattle.pi_queue.specs.Changes.{AreTold}
use Rattle.pi_settling.proofs.SizeLemmas.{in-front, behind}
use Rattle.pi_queue.specs.Reading.{IsRoot, AreRead, AreRoots}
use Rattle.pi_queue.specs.Filtering.{IsFiltered}
use Rattle.pi_queue.specs.Leaving.{MayNarrow, MayLeave, IsNarrower}
use Rattle.pi_queue.proofs.ReadLemmas.{are-read, are-roots, given-is}

-- what stands at an item that is followed is what it has
stands-there : (s : State) (x : Item) → IsRoot s x → standing_at s x ≡ given s x
stands-there s (Item.Var n) (d, has) = ap (λ o. unwrap_or o []) has ∙ sym (ap domain_or_all has)
stands-there s (Item.Int i) b = refl

pub stand-there : (s : State) (xs : List Item) → AreRoots s xs → map (standing_at s) xs ≡ map (given s) xs
stand-there s [] all = refl
stand-there s (x ∷ xs) all = ap (λ d. d ∷ map (standing_at s) xs) (stands-there s x (all x (in-front x xs))) ∙ ap (λ ds. given s x ∷ ds) (stand-there s xs (λ y h. all y (behind x y xs h)))

root-item : (s : State) (x : Item) → IsRoot s x → IsItem x
root-item s (Item.Var n) h = tt
root-item s (Item.Int i) h = h

pub are-items : (s : State) (xs : List Item) → AreRoots s xs → AreItems xs
unfolding AreItems
are-items s [] all = tt
are-items s (x ∷ xs) all = (root-item s x (all x (in-front x xs)), are-items s xs (λ y h. all y (behind x y xs h)))

-- what the loop over the places begins with
pub record IsReadAndTold (s : State) (c : Constraint) (followed : List Item) (told : List (Option (List Span))) (lost : List ℕ) : Type 0 where
  pub before : List (List Span)
  pub left : List (List Span)
  pub is_told : AreTold before told left
  pub may : MayLeave s c followed before left lost

pub may-leave : (s : State) (c : Constraint) (lost : List ℕ) (items places roots followed : List Item) (found told : List (Option (List Span))) → MayNarrow s c lost → items ≡ places_of c → places ≡ items →
    (IsAcyclic (bindings s) → AreRead s places → roots ≡ map (root_item s) places) → followed ≡ roots → (AreItems followed → IsFiltered c (map (standing_at s) followed) found) → told ≡ found →
    IsReadAndTold s c followed told lost
may-leave s c lost items places roots followed found told m is-items is-places read is-followed filtered is-told =
    let at : places ≡ places_of c = is-places ∙ is-items in
    let are : AreRead s (places_of c) = are-read s c m.settles m.posted in
    let rooted : followed ≡ map (root_item s) (places_of c) = is-followed ∙ (read m.state.acyclic (subst (AreRead s) (sym at) are) ∙ ap (map (root_item s)) at) in
    let all : AreRoots s followed = subst (AreRoots s) (sym rooted) (are-roots s (places_of c) are) in
    let f : IsFiltered c (map (standing_at s) followed) found = filtered (are-items s followed all) in
    record {
      before = map (standing_at s) followed;
      left = f.after;
      is_told = subst (λ (os : List (Option (List Span))). AreTold (map (standing_at s) followed) os f.after) (sym is-told) f.is_told;
      may = record {
        narrows = m;
        are_roots = rooted;
        are_given = stand-there s followed all ∙ (ap (map (given s)) rooted ∙ given-is s c);
        are_left = f.left;
      };
    }

-- what is told of one place
pub told-at : (before left : List (List Span)) (told : List (Option (List Span))) (k : ℕ) (one : Option (List Span)) → AreTold before told left → k < length left → one ≡ get_or told k one → domain_at left k ≡ unwrap_or one (domain_at before k)
told-at before left told k one t l is = t.same k l ∙ ap (λ o. unwrap_or o (domain_at before k)) (get_or_default told k None one (let e : length told ≡ length left = t.count in omega (arith, e, l)) ∙ sym is)

-- ---- what leaving the places comes to then

pub told-narrows : (s r : State) (c : Constraint) (roots : List Item) (told : List (Option (List Span))) (lost : List ℕ) → IsReadAndTold s c roots told lost →
    ((d : Constraint) (before left : List (List Span)) → AreTold before told left → MayLeave s d roots before left lost → IsNarrower s r) → IsNarrower s r
told-narrows s r c roots told lost h narrows = narrows c h.before h.left h.is_told h.may

-- a filter that was run where the values stand
pub filters : (c : Constraint) (standing old new held : List (List Span)) (told : List (Option (List Span))) → old ≡ standing → AreLeft c old new → held ≡ new → AreTold standing told held → IsFiltered c standing told
filters c standing old new held told is left same t = record {
  after = new;
  left = subst (λ (ds : List (List Span)). AreLeft c ds new) is left;
  is_told = subst (AreTold standing told) same t;
}
