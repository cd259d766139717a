-- The lines of an answer, one after another.
use Rattle.std.proofs.Common.{◌≡◌, ℕ, ◌==◌, cond, List, [], ◌∷◌, ◌++◌, map, Some, nat_eq, zero, suc, ◌+◌, ◌<◌, ◌≤◌, length, drop, get_or, add-one, arith, inl, inr, refl, ap, sym, ◌∙◌, append_assoc}
use Rattle.std.specs.Prelude.{codes, option_copied}
use Rattle.std.specs.Borrow.{Bor}
use Rattle.std.specs.HashMap.{HashMap, get}
use Rattle.std.specs.List.{flat_map}
use Rattle.std.proofs.lemmas.Bool.{cases_Bool}
use Rattle.std.proofs.lemmas.List.{append-nil}
use Rattle.std.proofs.Math.Seq.{drop-cons}
use Rattle.pi_terms.specs.Variables.{occurrences, firsts}
use Rattle.pi_core.specs.AnswerVariables.{answer_variables}
use Rattle.pi_print_terms.specs.PrintAnswer.{value_line, domain_of, domain_lines, answer_lines}
use Rattle.pi_core.specs.declared.answer.Answer.{Answer}
use Rattle.pi_core.specs.declared.answer.NamedTerm.{NamedTerm}
use Rattle.pi_constraints.specs.declared.var_domain.VarDomain.{VarDomain}
use Rattle.pi_constraints.specs.declared.domain.Span.{Span}
use Rattle.pi_print_terms.specs.Answers.{HasDomains}
use Rattle.pi_print_terms.specs.Numbers.{noted_all}
use Rattle.pi_print_terms.proofs.NumberLemmas.{noted_firsts, noted_append, noted_none}

pub noted_variables : (ns : List ℕ) → noted_all [] ns ≡ firsts ns
unfolding firsts
noted_variables ns = noted_firsts [] ns

pub no_domains : {S : Type 0} (m : HashMap ℕ (Bor (List Span)) S) → m.entries ≡ [] → HasDomains [] m
unfolding domain_of
no_domains m e = record { domain = λ n. rw e refl }

pub one_more_domain : {S : Type 0} (ds : List VarDomain) (m m2 : HashMap ℕ (Bor (List Span)) S) (d : VarDomain) (lent : Bor (List Span)) → lent.now ≡ d.domain → HasDomains ds m
    → ((q : ℕ) → get nat_eq m2 q ≡ cond (nat_eq d.var q) (Some lent) (get nat_eq m q)) → HasDomains (d ∷ ds) m2
unfolding domain_of
one_more_domain ds m m2 d lent is has more = record {
  domain = λ q. elim (cases_Bool (d.var == q)) [
    | inl same ↦ ap option_copied (more q) ∙ rw same (ap Some is)
    | inr other ↦ ap option_copied (more q) ∙ rw other (has.domain q)
  ];
}

pub lines_are : (a : Answer) (nums : List ℕ) (values : List NamedTerm) (domains : List VarDomain) (l0 l1 l2 l3 : List (List ℕ)) (word : List ℕ)
    → l0 ≡ [] → values ≡ a.values → domains ≡ a.domains → nums ≡ answer_variables values → l1 ≡ l0 ++ map (value_line nums) values
    → l2 ≡ l1 ++ domain_lines nums domains → word ≡ codes "yes\n" → l3 ≡ l2 ++ word ∷ [] → l3 ≡ answer_lines a
unfolding answer_lines
lines_are a nums values domains l0 l1 l2 l3 word e0 v d n e1 e2 y e3 =
    let numbers : nums ≡ answer_variables a.values = n ∙ ap answer_variables v in
    let named : List (List ℕ) = map (value_line nums) values in
    e3 ∙ (ap (λ r. r ++ word ∷ []) (e2 ∙ ap (λ r. r ++ domain_lines nums domains) (e1 ∙ ap (λ r. r ++ named) e0))
    ∙ (append_assoc named (domain_lines nums domains) (word ∷ [])
    ∙ rw (v, d, y, numbers) refl))

-- ---- the items of a list, one after another

pub front : {A : Type 0} (xs : List A) (i : ℕ) (x : A) → i < length xs → x ≡ get_or xs i x → drop i xs ≡ x ∷ drop (i + 1) xs
front xs i x h e =
    drop-cons xs i x h ∙ (ap (λ y. y ∷ drop (suc i) xs) (sym e) ∙ ap (λ k. x ∷ drop k xs) (sym (add-one i)))

pub front_number : (xs : List ℕ) (i : ℕ) → i < length xs → drop i xs ≡ get_or xs i 0 ∷ drop (i + 1) xs
front_number xs i h = drop-cons xs i 0 h ∙ ap (λ k. get_or xs i 0 ∷ drop k xs) (sym (add-one i))

pub past : {A : Type 0} (i : ℕ) (xs : List A) → length xs ≤ i → drop i xs ≡ []
past zero [] h = refl
past (suc i) [] h = refl
past zero (x ∷ xs) h = absurd (omega arith)
past (suc i) (x ∷ xs) h = past i xs (omega arith)

pub noted_item : (vs new : List ℕ) (v : NamedTerm) (ys zs : List NamedTerm) → new ≡ noted_all vs (occurrences v.value) → ys ≡ v ∷ zs
    → noted_all new (flat_map (λ w. occurrences w.value) zs) ≡ noted_all vs (flat_map (λ w. occurrences w.value) ys)
noted_item vs new v ys zs n e =
    ap (λ us. noted_all us (flat_map (λ w. occurrences w.value) zs)) n
    ∙ (sym (noted_append vs (occurrences v.value) (flat_map (λ w. occurrences w.value) zs))
    ∙ ap (λ us. noted_all vs (flat_map (λ w. occurrences w.value) us)) (sym e))

pub noted_end : (vs : List ℕ) (ys : List NamedTerm) → ys ≡ [] → vs ≡ noted_all vs (flat_map (λ w. occurrences w.value) ys)
noted_end vs ys e = sym (noted_none vs) ∙ ap (λ us. noted_all vs (flat_map (λ w. occurrences w.value) us)) (sym e)

pub line_item : (lines new : List (List ℕ)) (f : ℕ → List (List ℕ)) (n : ℕ) (ns ms : List ℕ) → new ≡ lines ++ f n → ms ≡ n ∷ ns
    → new ++ flat_map f ns ≡ lines ++ flat_map f ms
line_item lines new f n ns ms e m =
    ap (λ r. r ++ flat_map f ns) e ∙ (append_assoc lines (f n) (flat_map f ns) ∙ ap (λ r. lines ++ flat_map f r) (sym m))

pub line_end : (lines : List (List ℕ)) (f : ℕ → List (List ℕ)) (ms : List ℕ) → ms ≡ [] → lines ≡ lines ++ flat_map f ms
line_end lines f ms e = sym (append-nil lines) ∙ ap (λ r. lines ++ flat_map f r) (sym e)
