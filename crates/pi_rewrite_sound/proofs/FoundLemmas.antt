-- What is looked for among predicates and more behind them: each that stands there is found by its name.
use Rattle.std.proofs.Common.{◌≡◌, ◌⊎◌, inl, inr, ℕ, suc, Bool, true, false, cond, List, [], ◌∷◌, ◌++◌, refl, sym, ◌∙◌, ap, subst, arith, append_assoc}
use Rattle.std.specs.Prelude.{Option, Some, None, is_some, IsSome, IsTrue, All, AllPairs, Contains, ◌||◌, ◌&&◌, ◌==◌}
use Rattle.std.specs.Option.{option_or}
use Rattle.std.specs.Ordering.{is_eq}
use Rattle.std.proofs.lemmas.Bool.{false≢true, or_left}
use Rattle.std.proofs.lemmas.Bool.Decides.{Decides-eqb}
use Rattle.std.proofs.lemmas.List.Elements.{All-head, All-tail, All-append}
use Rattle.std.proofs.lemmas.List.Kept.{AllPairs-cons}
use Rattle.pi_terms.specs.Order.{name_order}
use Rattle.pi_core.specs.CoreTree.{PredTree, is_pred, find_pred}
use Rattle.pi_meaning.specs.Shared.Effects.{is_value_name}
use Rattle.pi_meaning.specs.CoreMeaning.Defined.{is_machine_predicate}
use Rattle.pi_rewrite_spec.specs.Forms.{Knows}
use Rattle.pi_rewrite_laws.specs.Within.{AreQuiet}
use Rattle.pi_rewrite_spec.proofs.AgreeLemmas.{text_itself}
use Rattle.pi_rewrite_laws.proofs.HeadLemmas.{text_by_order}
use Rattle.pi_rewrite_laws.proofs.OwnLemmas.{find-append}
use Rattle.pi_rewrite_laws.proofs.SoundLemmas.{nothing-in, cons-cases}
use Rattle.pi_rewrite_sound.proofs.GoodHelpers.{Has}

-- what a core program has, and what the tables have
abbrev pub found_in : List PredTree → Knows
found_in preds = record { predicate = λ name k. is_some (find_pred false name k preds) || is_machine_predicate name k; function = λ name k. is_some (find_pred true name k preds) || is_value_name name k }

-- ---- one is found by its name

itself : (p : PredTree) (kind : Bool) → p.function ≡ kind → is_pred kind p.name p.arity p ≡ true
itself p kind is = go kind is
  where
    same : (is_eq (name_order p.name p.name) && (p.arity == p.arity)) ≡ true
    same = ap (λ (b : Bool). b && (p.arity == p.arity)) (text_by_order p.name p.name ∙ text_itself p.name) ∙ (Decides-eqb p.arity p.arity).1 refl

    go : (b : Bool) → p.function ≡ b → is_pred b p.name p.arity p ≡ true
    go true h = ap (λ (c : Bool). c && (is_eq (name_order p.name p.name) && (p.arity == p.arity))) h ∙ same
    go false h = ap (λ (c : Bool). cond c false (is_eq (name_order p.name p.name) && (p.arity == p.arity))) h ∙ same

-- the first of its name, in front or here
found-here : (p : PredTree) (kind : Bool) → p.function ≡ kind → (front rest : List PredTree) → IsSome (find_pred kind p.name p.arity (front ++ p ∷ rest))
unfolding find_pred
found-here p kind is front rest =
    ap is_some (find-append kind p.name p.arity front (p ∷ rest)) ∙ ap (λ (b : Bool). is_some (option_or (find_pred kind p.name p.arity front) (cond b (Some p) (find_pred kind p.name p.arity rest)))) (itself p kind is) ∙ any (find_pred kind p.name p.arity front)
  where
    any : (o : Option PredTree) → is_some (option_or o (Some p)) ≡ true
    any None = refl
    any (Some q) = refl

pub found-among : (ps : List PredTree) (p : PredTree) → Contains ps p → IsSome (find_pred p.function p.name p.arity ps)
unfolding find_pred
found-among [] p there = absurd (nothing-in p there)
found-among (q ∷ ps) p there = go (cons-cases q ps p there) (λ later. found-among ps p later)
  where
    later : (b : Bool) (o : Option PredTree) → IsSome o → IsSome (cond b (Some q) o)
    later true o is = refl
    later false o is = is

    go : (q ≡ p) ⊎ Contains ps p → (Contains ps p → IsSome (find_pred p.function p.name p.arity ps)) → IsSome (cond (is_pred p.function p.name p.arity q) (Some q) (find_pred p.function p.name p.arity ps))
    go (inl same) rest = subst (λ (x : PredTree). IsSome (cond (is_pred p.function p.name p.arity x) (Some x) (find_pred p.function p.name p.arity ps))) (sym same) (ap (λ (b : Bool). is_some (cond b (Some p) (find_pred p.function p.name p.arity ps))) (itself p p.function refl))
    go (inr at) rest = later (is_pred p.function p.name p.arity q) (find_pred p.function p.name p.arity ps) (rest at)

-- each of some quiet ones behind others
pub all-found : (front ps : List PredTree) → AreQuiet ps → (may : Knows) → ((name : List ℕ) (k : ℕ) → IsSome (find_pred false name k (front ++ ps)) → IsTrue (may.predicate name k)) → Has may ps
all-found front [] quiet may finds = tt
all-found front (p ∷ ps) quiet may finds = (
  finds p.name p.arity (found-here p false quiet.1 front ps),
  all-found (front ++ p ∷ []) ps quiet.2 may (λ name k is. finds name k (subst (λ (qs : List PredTree). IsSome (find_pred false name k qs)) (append_assoc front (p ∷ []) ps) is)),
)

pub found-has : (front ps : List PredTree) → AreQuiet ps → Has (found_in (front ++ ps)) ps
found-has front ps quiet = all-found front ps quiet (found_in (front ++ ps)) (λ name k is. or_left (is_some (find_pred false name k (front ++ ps))) (is_machine_predicate name k) is)

-- ---- among more

-- what is found first stays what is found
pub found-first : (kind : Bool) (name : List ℕ) (k : ℕ) (ps qs : List PredTree) (p : PredTree) → find_pred kind name k ps ≡ Some p → find_pred kind name k (ps ++ qs) ≡ Some p
found-first kind name k ps qs p is = find-append kind name k ps qs ∙ ap (λ (o : Option PredTree). option_or o (find_pred kind name k qs)) is

pub found-last : (kind : Bool) (name : List ℕ) (k : ℕ) (ps qs : List PredTree) → find_pred kind name k ps ≡ None → find_pred kind name k (ps ++ qs) ≡ find_pred kind name k qs
found-last kind name k ps qs is = find-append kind name k ps qs ∙ ap (λ (o : Option PredTree). option_or o (find_pred kind name k qs)) is

pub found-more : (kind : Bool) (name : List ℕ) (k : ℕ) (ps qs : List PredTree) → IsSome (find_pred kind name k ps) → IsSome (find_pred kind name k (ps ++ qs))
found-more kind name k ps qs is = ap is_some (find-append kind name k ps qs) ∙ go (find_pred kind name k ps) is
  where
    go : (o : Option PredTree) → IsSome o → is_some (option_or o (find_pred kind name k qs)) ≡ true
    go None h = absurd (false≢true h)
    go (Some p) h = refl

-- ---- pairs

pub pairs-append : {A : Type 0} (R : A → A → Type 0) (xs ys : List A) → AllPairs R xs → AllPairs R ys → All (λ x. All (R x) ys) xs → AllPairs R (xs ++ ys)
pairs-append R [] ys one two across = two
pairs-append R (x ∷ xs) ys one two across =
    AllPairs-cons R x (xs ++ ys) (All-append (R x) xs ys (λ k d within. one 0 (suc k) d (omega arith) (omega arith)) (All-head (λ y. All (R y) ys) x xs across))
    (pairs-append R xs ys (λ i j d below within. one (suc i) (suc j) d (omega arith) (omega arith)) two (All-tail (λ y. All (R y) ys) x xs across))
