-- Texts that are written one after the other, with a text between each two.
use Rattle.std.proofs.Common.{◌≡◌, ℕ, ◌+◌, ◌<◌, ◌≤◌, List, [], ◌∷◌, ◌++◌, length, get_or, drop, refl, sym, ◌∙◌, ap, append_assoc, Result, Ok, Err, IfOk}
use Rattle.std.proofs.lemmas.List.{drop_more, drop_all, append-nil}
use Rattle.pi_print_program.specs.Texts.{each_behind, parted}

-- ---- pieces

pub two : (o p q a b : List ℕ) → p ≡ o ++ a → q ≡ p ++ b → q ≡ o ++ (a ++ b)
two o p q a b one next = next ∙ (ap (λ t. t ++ b) one ∙ append_assoc o a b)

pub three : (o p q r a b d : List ℕ) → p ≡ o ++ a → q ≡ p ++ b → r ≡ q ++ d → r ≡ o ++ (a ++ (b ++ d))
three o p q r a b d one next last = two o p r a (b ++ d) one (two p q r b d next last)

pub four : (o p q r s a b d e : List ℕ) → p ≡ o ++ a → q ≡ p ++ b → r ≡ q ++ d → s ≡ r ++ e → s ≡ o ++ (a ++ (b ++ (d ++ e)))
four o p q r s a b d e one next then last = two o p s a (b ++ (d ++ e)) one (three p q r s b d e next then last)

-- what was written is this text too
pub wrote-as : {E : Type 0} (r : Result Unit E) (old new t u : List ℕ) → t ≡ u → IfOk r (λ _. new ≡ old ++ t) → IfOk r (λ _. new ≡ old ++ u)
wrote-as (Ok x) old new t u same wrote = wrote ∙ ap (λ s. old ++ s) same
wrote-as (Err e) old new t u same wrote = wrote

-- the last piece behind others
pub wrote-behind : {E : Type 0} (r : Result Unit E) (old mid new s t u : List ℕ) → mid ≡ old ++ s → s ++ t ≡ u → IfOk r (λ _. new ≡ mid ++ t) → IfOk r (λ _. new ≡ old ++ u)
wrote-behind (Ok x) old mid new s t u before same wrote = two old mid new s t before wrote ∙ ap (λ v. old ++ v) same
wrote-behind (Err e) old mid new s t u before same wrote = wrote

-- ---- a loop over them

-- those that are left, of which the first is written behind another text than the others
abbrev pub led : List ℕ → List ℕ → List (List ℕ) → List ℕ
led before parting [] = []
led before parting (t ∷ ts) = before ++ (t ++ each_behind parting ts)

led-first : (parting : List ℕ) (ts : List (List ℕ)) → led [] parting ts ≡ parted parting ts
unfolding each_behind parted
led-first parting [] = refl
led-first parting (t ∷ ts) = refl

led-next : (parting : List ℕ) (ts : List (List ℕ)) → led parting parting ts ≡ each_behind parting ts
unfolding each_behind
led-next parting [] = refl
led-next parting (t ∷ ts) = refl

pub parts-begin : (out parting : List ℕ) (ts : List (List ℕ)) → out ++ led [] parting ts ≡ out ++ parted parting ts
parts-begin out parting ts = ap (λ t. out ++ t) (led-first parting ts)

pub parts-at : {A : Type 0} (f : A → List ℕ) (shown : List A → List (List ℕ)) → ((x : A) (xs : List A) → shown (x ∷ xs) ≡ f x ∷ shown xs)
    → (xs : List A) (i : ℕ) (d : A) (before parting old mid new whole : List ℕ) → i < length xs → mid ≡ old ++ before → new ≡ mid ++ f (get_or xs i d)
    → old ++ led before parting (shown (drop i xs)) ≡ whole → new ++ led parting parting (shown (drop (i + 1) xs)) ≡ whole
parts-at f shown each xs i d before parting old mid new whole here one next left =
    let x = get_or xs i d in
    let rest = shown (drop (i + 1) xs) in
    let ahead : shown (drop i xs) ≡ f x ∷ rest = ap shown (drop_more xs i d here) ∙ each x (drop (i + 1) xs) in
    ap (λ t. new ++ t) (led-next parting rest) ∙ (ap (λ t. t ++ each_behind parting rest) (two old mid new before (f x) one next)
    ∙ (append_assoc old (before ++ f x) (each_behind parting rest) ∙ (ap (λ t. old ++ t) (append_assoc before (f x) (each_behind parting rest))
    ∙ (ap (λ ts. old ++ led before parting ts) (sym ahead) ∙ left))))

-- the same of an item that stands for itself
pub parts-more : {A : Type 0} (f : A → List ℕ) (shown : List A → List (List ℕ)) → ((x : A) (xs : List A) → shown (x ∷ xs) ≡ f x ∷ shown xs)
    → (xs : List A) (i : ℕ) (x : A) (before parting old mid new whole : List ℕ) → i < length xs → x ≡ get_or xs i x → mid ≡ old ++ before → new ≡ mid ++ f x
    → old ++ led before parting (shown (drop i xs)) ≡ whole → new ++ led parting parting (shown (drop (i + 1) xs)) ≡ whole
parts-more f shown each xs i x before parting old mid new whole here is one next left =
    parts-at f shown each xs i x before parting old mid new whole here one (next ∙ ap (λ y. mid ++ f y) is) left

pub parts-end : {A : Type 0} (shown : List A → List (List ℕ)) → shown [] ≡ [] → (xs : List A) (i : ℕ) (before parting old whole : List ℕ) → length xs ≤ i
    → old ++ led before parting (shown (drop i xs)) ≡ whole → old ≡ whole
parts-end shown none xs i before parting old whole end left =
    sym (append-nil old) ∙ (ap (λ ts. old ++ led before parting ts) (sym (ap shown (drop_all i xs end) ∙ none)) ∙ left)
