-- What is read of items, one after the other.
use Rattle.std.specs.Prelude.{◌≡◌, ℕ, ◌+◌, ◌<◌, ◌≤◌, List, [], ◌∷◌, ◌++◌, length, map, Contains, refl}
use Rattle.std.proofs.Common.{arith, sym, ◌∙◌, ap, subst, inl, inr, get_or, take, length-append}
use Rattle.std.proofs.lemmas.List.{take_all, take_more}
use Rattle.std.proofs.lemmas.List.Elements.{Contains-get_or}
use Rattle.pi_constraints.specs.declared.constraint.Constraint.{Constraint}
use Rattle.pi_constraints.specs.declared.constraint.Item.{Item}
use Rattle.pi_prop_spec.specs.Places.{places_of}
use Rattle.pi_constraints.specs.State.{State}
use Rattle.pi_settling.specs.Roots.{root_item, given}
use Rattle.pi_settling.specs.SettlingLaws.{MaySettle}
use Rattle.pi_settling.specs.Run.{given_at}
use Rattle.pi_settling.proofs.NarrowLemmas.{Comes, to_variable, to_integer, comes}
use Rattle.pi_settling.proofs.SizeLemmas.{in-front, behind, front-or-behind, none-there}
use Rattle.pi_queue.specs.Reading.{IsRoot, AreRoots, AreRead}

map-push : {X Y : Type 0} (f : X → Y) (xs : List X) (x : X) → map f (xs ++ x ∷ []) ≡ map f xs ++ f x ∷ []
map-push f [] x = refl
map-push f (y ∷ xs) x = ap (λ ys. f y ∷ ys) (map-push f xs x)

pub push-count : {X : Type 0} (xs ys : List X) (y : X) (n : ℕ) → ys ≡ xs ++ y ∷ [] → length xs ≡ n → length ys ≡ n + 1
push-count xs ys y n is e = let more : length ys ≡ length (xs ++ y ∷ []) = ap length is in omega (arith, length-append xs (y ∷ []), more, e)

-- what was made of those before, and of one more
pub read-more : {X Y : Type 0} (f : X → Y) (xs : List X) (k : ℕ) (d : X) (made : List Y) (y : Y) → k < length xs → made ≡ map f (take k xs) → y ≡ f (get_or xs k d) → made ++ y ∷ [] ≡ map f (take (k + 1) xs)
read-more f xs k d made y l is e =
    ap (λ ys. ys ++ y ∷ []) is ∙ (ap (λ z. map f (take k xs) ++ z ∷ []) e ∙ (sym (map-push f (take k xs) (get_or xs k d)) ∙ sym (ap (map f) (take_more xs k d l))))

pub read-all : {X Y : Type 0} (f : X → Y) (xs : List X) (k : ℕ) (made : List Y) → length xs ≤ k → made ≡ map f (take k xs) → made ≡ map f xs
read-all f xs k made l is = is ∙ ap (map f) (take_all k xs l)

pub one-of : {X : Type 0} (P : X → Type 0) (xs : List X) (k : ℕ) (d : X) → k < length xs → ((x : X) → Contains xs x → P x) → P (get_or xs k d)
one-of P xs k d l all = all (get_or xs k d) (Contains-get_or xs k d l)

-- ---- a constraint that may be run

come-root : (s : State) (x : Item) → Comes s x → IsRoot s x
come-root s x (to_variable n d e has) = subst (IsRoot s) (sym e) (d, has)
come-root s x (to_integer i e b) = subst (IsRoot s) (sym e) b

pub are-read : (s : State) (c : Constraint) → MaySettle s → Contains s.constraints c → AreRead s (places_of c)
are-read s c may posted x at = come-root s (root_item s x) (comes s may c x posted at)

pub are-roots : (s : State) (xs : List Item) → AreRead s xs → AreRoots s (map (root_item s) xs)
are-roots s [] all x h = absurd (none-there x h)
are-roots s (y ∷ xs) all x h = elim (front-or-behind (root_item s y) x (map (root_item s) xs) h) [
  | inl same ↦ subst (IsRoot s) same (all y (in-front y xs))
  | inr later ↦ are-roots s xs (λ z at. all z (behind y z xs at)) x later
]

map-both : (s : State) (xs : List Item) → map (given s) (map (root_item s) xs) ≡ map (λ x. given s (root_item s x)) xs
map-both s [] = refl
map-both s (x ∷ xs) = ap (λ ds. given s (root_item s x) ∷ ds) (map-both s xs)

pub given-is : (s : State) (c : Constraint) → map (given s) (map (root_item s) (places_of c)) ≡ given_at s c
given-is s c = map-both s (places_of c)
