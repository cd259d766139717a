-- The names that are told of a list, one after the other.
use Rattle.std.proofs.Common.{◌≡◌, ℕ, ◌+◌, ◌<◌, ◌≤◌, true, false, cond, List, [], ◌∷◌, ◌++◌, length, get_or, drop, sym, ◌∙◌, ap}
use Rattle.std.specs.Borrow.{Bor}
use Rattle.std.proofs.lemmas.Bool.{cond-true, cond-false}
use Rattle.std.proofs.lemmas.List.{drop_more, drop_all, map-append}
use Rattle.pi_meaning.specs.OverNames.Telling.{is_hidden, one_more, told_behind}
use Rattle.pi_meaning.specs.OverNames.Texts.{Names, is_among}
use Rattle.pi_rewrite_slots.specs.Indexed.{names_in}

-- what is told so far, and the names that are left
abbrev pub ToldTo : List (Bor (List ℕ)) → ℕ → Names → Type 0
ToldTo names k now = told_behind now (names_in (drop k names)) ≡ told_behind [] (names_in names)

pub told-more : (names : List (Bor (List ℕ))) (k : ℕ) (d : Bor (List ℕ)) (now new : Names) → k < length names → new ≡ one_more now (get_or names k d).now → ToldTo names k now → ToldTo names (k + 1) new
unfolding told_behind
told-more names k d now new h put so =
    ap (λ b. told_behind b (names_in (drop (k + 1) names))) put ∙ (sym (ap (λ xs. told_behind now (names_in xs)) (drop_more names k d h)) ∙ so)

pub told-all : (names : List (Bor (List ℕ))) (k : ℕ) (now : Names) → length names ≤ k → ToldTo names k now → now ≡ told_behind [] (names_in names)
unfolding told_behind
told-all names k now h so = sym (ap (λ xs. told_behind now (names_in xs)) (drop_all k names h)) ∙ so

-- ---- one name

pub hidden-name : (before : Names) (name : List ℕ) → is_hidden name ≡ true → before ≡ one_more before name
hidden-name before name h = sym (cond-true (is_hidden name) before (cond (is_among before name) before (before ++ name ∷ [])) h)

pub known-name : (before : Names) (name : List ℕ) → is_hidden name ≡ false → is_among before name ≡ true → before ≡ one_more before name
known-name before name h k =
    sym (cond-false (is_hidden name) before (cond (is_among before name) before (before ++ name ∷ [])) h ∙ cond-true (is_among before name) before (before ++ name ∷ []) k)

pub new-name : (before after : Names) (name : List ℕ) → is_hidden name ≡ false → is_among before name ≡ false → after ≡ before ++ name ∷ [] → after ≡ one_more before name
new-name before after name h k put =
    put ∙ sym (cond-false (is_hidden name) before (cond (is_among before name) before (before ++ name ∷ [])) h ∙ cond-false (is_among before name) before (before ++ name ∷ []) k)

pub pushed-name : (old new : List (Bor (List ℕ))) (x : Bor (List ℕ)) → new ≡ old ++ x ∷ [] → names_in new ≡ names_in old ++ x.now ∷ []
pushed-name old new x is = ap names_in is ∙ map-append (λ (n : Bor (List ℕ)). n.now) old (x ∷ [])
