-- Lists that are pushed one item after the other.
use Rattle.std.proofs.Common.{◌≡◌, List, [], ◌∷◌, ◌++◌, ◌∙◌, ap}

pub pushed-one : {A : Type 0} (none one : List A) (x : A) → none ≡ [] → one ≡ none ++ x ∷ [] → one ≡ x ∷ []
pushed-one none one x empty put = put ∙ ap (λ xs. xs ++ x ∷ []) empty

pub pushed-two : {A : Type 0} (none one two : List A) (x y : A) → none ≡ [] → one ≡ none ++ x ∷ [] → two ≡ one ++ y ∷ [] → two ≡ x ∷ y ∷ []
pushed-two none one two x y empty first second = second ∙ ap (λ xs. xs ++ y ∷ []) (pushed-one none one x empty first)

pub pushed-three : {A : Type 0} (none one two three : List A) (x y z : A) → none ≡ [] → one ≡ none ++ x ∷ [] → two ≡ one ++ y ∷ [] → three ≡ two ++ z ∷ [] → three ≡ x ∷ y ∷ z ∷ []
pushed-three none one two three x y z empty first second third = third ∙ ap (λ xs. xs ++ z ∷ []) (pushed-two none one two x y empty first second)

pub pushed-four : {A : Type 0} (none one two three four : List A) (x y z w : A) → none ≡ [] → one ≡ none ++ x ∷ [] → two ≡ one ++ y ∷ [] → three ≡ two ++ z ∷ [] → four ≡ three ++ w ∷ [] → four ≡ x ∷ y ∷ z ∷ w ∷ []
pushed-four none one two three four x y z w empty first second third fourth = fourth ∙ ap (λ xs. xs ++ w ∷ []) (pushed-three none one two three x y z empty first second third)

-- two arguments that are these
pub pair-is : {A : Type 0} (xs : List A) (x y a b : A) → xs ≡ x ∷ y ∷ [] → x ≡ a → y ≡ b → xs ≡ a ∷ b ∷ []
pair-is xs x y a b all one two = all ∙ (ap (λ z. z ∷ y ∷ []) one ∙ ap (λ z. a ∷ z ∷ []) two)
