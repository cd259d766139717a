-- Lists of names, one after the other.
use Rattle.std.proofs.Common.{◌≡◌, ℕ, ◌+◌, ◌<◌, ◌≤◌, Bool, true, false, List, [], ◌∷◌, ◌++◌, length, get_or, drop, refl, sym, ◌∙◌, ap, append_assoc}
use Rattle.std.specs.Prelude.{◌||◌, not, filter, codes}
use Rattle.std.specs.Borrow.{Bor}
use Rattle.std.specs.Str.{bytes_eq}
use Rattle.std.proofs.lemmas.Bool.{cond-true, cond-false}
use Rattle.std.proofs.lemmas.List.{append-nil, drop_all, drop_more, map-append}
use Rattle.pi_meaning.specs.OverNames.Texts.{Names, is_among, is_blank, with_one, behind, without}
use Rattle.pi_rewrite_slots.specs.Indexed.{names_in}
use Rattle.pi_rewrite_sites.specs.TextNames.{those}

or-true : (a b : Bool) → a ≡ true → (a || b) ≡ true
or-true a b h = ap (λ c. c || b) h

or-false : (a b : Bool) → a ≡ false → (a || b) ≡ b
or-false a b h = ap (λ c. c || b) h

-- ---- whether a name is one of these

-- those that are left decide it
abbrev pub AmongTo : List ℕ → List (Bor (List ℕ)) → ℕ → Type 0
AmongTo name names k = is_among (names_in (drop k names)) name ≡ is_among (names_in names) name

among-at : (name : List ℕ) (names : List (Bor (List ℕ))) (k : ℕ) (d : Bor (List ℕ)) → k < length names → is_among (names_in (drop k names)) name ≡ (bytes_eq name (get_or names k d).now || is_among (names_in (drop (k + 1) names)) name)
among-at name names k d h = ap (λ xs. is_among (names_in xs) name) (drop_more names k d h)

pub among-found : (name : List ℕ) (names : List (Bor (List ℕ))) (k : ℕ) (d : Bor (List ℕ)) → k < length names → bytes_eq name (get_or names k d).now ≡ true → AmongTo name names k → true ≡ is_among (names_in names) name
among-found name names k d h same so = sym (among-at name names k d h ∙ or-true (bytes_eq name (get_or names k d).now) (is_among (names_in (drop (k + 1) names)) name) same) ∙ so

pub among-more : (name : List ℕ) (names : List (Bor (List ℕ))) (k : ℕ) (d : Bor (List ℕ)) → k < length names → bytes_eq name (get_or names k d).now ≡ false → AmongTo name names k → AmongTo name names (k + 1)
among-more name names k d h other so = sym (among-at name names k d h ∙ or-false (bytes_eq name (get_or names k d).now) (is_among (names_in (drop (k + 1) names)) name) other) ∙ so

pub among-none : (name : List ℕ) (names : List (Bor (List ℕ))) (k : ℕ) → length names ≤ k → AmongTo name names k → false ≡ is_among (names_in names) name
among-none name names k h so = sym (ap (λ xs. is_among (names_in xs) name) (drop_all k names h)) ∙ so

-- ---- names behind others

pub one-blank : (before : Names) (name : List ℕ) → bytes_eq name (codes "_") ≡ true → before ≡ with_one before name
one-blank before name h = sym (cond-true (is_blank name || is_among before name) before (before ++ name ∷ []) (or-true (is_blank name) (is_among before name) h))

pub one-there : (before : Names) (name : List ℕ) → bytes_eq name (codes "_") ≡ false → is_among before name ≡ true → before ≡ with_one before name
one-there before name h there = sym (cond-true (is_blank name || is_among before name) before (before ++ name ∷ []) (or-false (is_blank name) (is_among before name) h ∙ there))

pub one-new : (before now : Names) (name : List ℕ) → bytes_eq name (codes "_") ≡ false → is_among before name ≡ false → now ≡ before ++ name ∷ [] → now ≡ with_one before name
one-new before now name h new put = put ∙ sym (cond-false (is_blank name || is_among before name) before (before ++ name ∷ []) (or-false (is_blank name) (is_among before name) h ∙ new))

-- what is put so far, and the names that are left
abbrev pub BehindTo : Names → List (Bor (List ℕ)) → ℕ → Names → Type 0
BehindTo before names k now = behind now (names_in (drop k names)) ≡ behind before (names_in names)

pub behind-more : (before : Names) (names : List (Bor (List ℕ))) (k : ℕ) (d : Bor (List ℕ)) (now new : Names) → k < length names → new ≡ with_one now (get_or names k d).now → BehindTo before names k now → BehindTo before names (k + 1) new
unfolding behind
behind-more before names k d now new h put so =
    ap (λ b. behind b (names_in (drop (k + 1) names))) put ∙ (sym (ap (λ xs. behind now (names_in xs)) (drop_more names k d h)) ∙ so)

pub behind-end : (before : Names) (names : List (Bor (List ℕ))) (k : ℕ) (now : Names) → length names ≤ k → BehindTo before names k now → now ≡ behind before (names_in names)
unfolding behind
behind-end before names k now h so = sym (ap (λ xs. behind now (names_in xs)) (drop_all k names h)) ∙ so

-- one name list behind the other is the same as both at once
pub behind-append : (before a b : Names) → behind before (a ++ b) ≡ behind (behind before a) b
unfolding behind
behind-append before [] b = refl
behind-append before (name ∷ a) b = behind-append (with_one before name) a b

-- ---- those that are among some

pub those-in : (b : Bool) (some : Names) (name : List ℕ) (names : Names) → is_among some name ≡ b → those b some (name ∷ names) ≡ name ∷ those b some names
those-in true some name names h = cond-true (is_among some name) (name ∷ filter (is_among some) names) (filter (is_among some) names) h
those-in false some name names h = cond-true (not (is_among some name)) (name ∷ without names some) (without names some) (ap not h)

pub those-out : (b : Bool) (some : Names) (name : List ℕ) (names : Names) → is_among some name ≡ not b → those b some (name ∷ names) ≡ those b some names
those-out true some name names h = cond-false (is_among some name) (name ∷ filter (is_among some) names) (filter (is_among some) names) h
those-out false some name names h = cond-false (not (is_among some name)) (name ∷ without names some) (without names some) (ap not h)

-- what is taken so far, and the names that are left
abbrev pub ThoseTo : Bool → Names → List (Bor (List ℕ)) → ℕ → Names → Type 0
ThoseTo b some names k made = made ++ those b some (names_in (drop k names)) ≡ those b some (names_in names)

pub those-more : (b : Bool) (some : Names) (names : List (Bor (List ℕ))) (k : ℕ) (d : Bor (List ℕ)) (made new : Names) → k < length names → is_among some (get_or names k d).now ≡ b → new ≡ made ++ (get_or names k d).now ∷ [] → ThoseTo b some names k made → ThoseTo b some names (k + 1) new
those-more b some names k d made new h is put so =
    let name : List ℕ = (get_or names k d).now in
    let rest : Names = names_in (drop (k + 1) names) in
    ap (λ ns. ns ++ those b some rest) put ∙ (append_assoc made (name ∷ []) (those b some rest)
    ∙ (ap (λ ns. made ++ ns) (sym (ap (λ xs. those b some (names_in xs)) (drop_more names k d h) ∙ those-in b some name rest is)) ∙ so))

pub those-less : (b : Bool) (some : Names) (names : List (Bor (List ℕ))) (k : ℕ) (d : Bor (List ℕ)) (made : Names) → k < length names → is_among some (get_or names k d).now ≡ not b → ThoseTo b some names k made → ThoseTo b some names (k + 1) made
those-less b some names k d made h is so =
    let name : List ℕ = (get_or names k d).now in
    let rest : Names = names_in (drop (k + 1) names) in
    ap (λ ns. made ++ ns) (sym (ap (λ xs. those b some (names_in xs)) (drop_more names k d h) ∙ those-out b some name rest is)) ∙ so

those-none : (b : Bool) (some : Names) → those b some [] ≡ []
those-none true some = refl
those-none false some = refl

pub those-end : (b : Bool) (some : Names) (names : List (Bor (List ℕ))) (k : ℕ) (made : Names) → length names ≤ k → ThoseTo b some names k made → made ≡ those b some (names_in names)
those-end b some names k made h so = sym (append-nil made) ∙ (ap (λ ns. made ++ ns) (sym (ap (λ xs. those b some (names_in xs)) (drop_all k names h) ∙ those-none b some)) ∙ so)

-- ---- behind others

pub put-first : (old one w a : Names) → w ≡ a → one ≡ old ++ a → one ≡ old ++ w
put-first old one w a is first = first ∙ ap (λ ns. old ++ ns) (sym is)

pub put-both : (old one two w a b : Names) → w ≡ a ++ b → one ≡ old ++ a → two ≡ one ++ b → two ≡ old ++ w
put-both old one two w a b is first second = second ∙ (ap (λ ns. ns ++ b) first ∙ (append_assoc old a b ∙ ap (λ ns. old ++ ns) (sym is)))

pub put-three : (old one two three w a b c : Names) → w ≡ a ++ (b ++ c) → one ≡ old ++ a → two ≡ one ++ b → three ≡ two ++ c → three ≡ old ++ w
put-three old one two three w a b c is first second third = put-both old one three w a (b ++ c) is first (put-both one two three (b ++ c) b c refl second third)

pub put-nothing : (old w : Names) → w ≡ [] → old ≡ old ++ w
put-nothing old w is = sym (append-nil old) ∙ ap (λ ns. old ++ ns) (sym is)

pub names-append : (old more : List (Bor (List ℕ))) → names_in (old ++ more) ≡ names_in old ++ names_in more
names-append old more = map-append (λ (n : Bor (List ℕ)). n.now) old more
