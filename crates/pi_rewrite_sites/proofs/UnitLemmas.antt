-- Iterators and tests.
use Rattle.std.proofs.Common.{◌≡◌, ◌≢◌, ◌+◌, ◌<◌, ◌≤◌, true, false, List, [], ◌∷◌, ◌++◌, length, get_or, drop, refl, sym, ◌∙◌, ap, append_assoc, arith}
use Rattle.std.specs.Prelude.{ℕ, Some, None, codes}
use Rattle.std.specs.Str.{bytes_eq}
use Rattle.std.proofs.lemmas.Bool.{cond-true, cond-false}
use Rattle.std.proofs.lemmas.List.{append-nil, drop_all}
use Rattle.pi_syntax.specs.ExpTree.{ExpTrees, call, no_exps, exp, exp_tree}
use Rattle.pi_syntax.specs.ExpLists.{exps_of}
use Rattle.pi_syntax.specs.declared.exp.Exp.{Exp}
use Rattle.pi_meaning.specs.OverNames.Texts.{Names, iterated, patterns_of, pattern_places}
use Rattle.pi_rewrite_slots.proofs.FlatLemmas.{drop-next}
use Rattle.pi_rewrite_sites.specs.TextNames.{first_in}

-- what is put so far, and the patterns of those that are left
abbrev pub PatternsTo : Names → List Exp → ℕ → Names → Type 0
PatternsTo old us i now = now ++ patterns_of (exps_of (drop i us)) ≡ old ++ patterns_of (exps_of us)

pub patterns-more : (old : Names) (us : List Exp) (i : ℕ) (x : Exp) (now new : Names) → i < length us → x ≡ get_or us i x → new ≡ now ++ pattern_places (iterated (exp_tree x)) → PatternsTo old us i now → PatternsTo old us (i + 1) new
unfolding patterns_of
patterns-more old us i x now new h is put so =
    let rest : Names = patterns_of (exps_of (drop (i + 1) us)) in
    let here : Names = pattern_places (iterated (exp_tree x)) in
    ap (λ ns. ns ++ rest) put ∙ (append_assoc now here rest ∙ (ap (λ ns. now ++ ns) (sym (ap (λ xs. patterns_of (exps_of xs)) (drop-next us i x h is))) ∙ so))

pub patterns-end : (old : Names) (us : List Exp) (i : ℕ) (now : Names) → length us ≤ i → PatternsTo old us i now → now ≡ old ++ patterns_of (exps_of us)
unfolding patterns_of
patterns-end old us i now h so = sym (append-nil now) ∙ (ap (λ ns. now ++ ns) (sym (ap (λ xs. patterns_of (exps_of xs)) (drop_all i us h))) ∙ so)

-- ---- an iterator's pattern

pub iterated-in : (name : List ℕ) (es : ExpTrees) → bytes_eq name (codes "in") ≡ true → iterated (call name es) ≡ first_in es
iterated-in name no_exps is = refl
iterated-in name (exp e no_exps) is = refl
iterated-in name (exp e (exp d no_exps)) is = cond-true (bytes_eq name (codes "in")) (Some e) None is
iterated-in name (exp e (exp d (exp f fs))) is = refl

pub iterated-not : (name : List ℕ) (es : ExpTrees) → bytes_eq name (codes "in") ≡ false → None ≡ iterated (call name es)
iterated-not name no_exps not = refl
iterated-not name (exp e no_exps) not = refl
iterated-not name (exp e (exp d no_exps)) not = sym (cond-false (bytes_eq name (codes "in")) (Some e) None not)
iterated-not name (exp e (exp d (exp f fs))) not = refl

pub first-two : (es : List Exp) (x : Exp) → length es ≡ 2 → x ≡ get_or es 0 x → Some (exp_tree x) ≡ first_in (exps_of es)
first-two [] x two is = absurd (omega (arith, two))
first-two (e ∷ []) x two is = absurd (omega (arith, two))
first-two (e ∷ d ∷ []) x two is = ap (λ z. Some (exp_tree z)) is
first-two (e ∷ d ∷ f ∷ fs) x two is = absurd (omega (arith, two))

pub first-not : (es : List Exp) → length es ≢ 2 → None ≡ first_in (exps_of es)
first-not [] not = refl
first-not (e ∷ []) not = refl
first-not (e ∷ d ∷ []) not = absurd (not refl)
first-not (e ∷ d ∷ f ∷ fs) not = refl
