-- Results that are known, and tasks that are done.
use Rattle.std.proofs.Common.{◌≡◌, ℕ, List, [], ◌∷◌, ◌++◌, length, ap, sym, ◌∙◌, subst, refl, Option, Some, None, MatchOption, Bool}
use Rattle.std.proofs.lemmas.List.{append-nil}
use Rattle.pi_terms.specs.Tree.{Trees}
use Rattle.pi_print_terms.specs.declared.printer.Task.{Task}
use Rattle.pi_print_terms.specs.Tasks.{tasks_text}
use Rattle.pi_print_terms.proofs.TaskLemmas.{tasks_text-none}

pub matched_some : {T : Type 0} (o : Option T) (P : Type 0) (Q : T → Type 0) (x : T) → MatchOption o P Q → o ≡ Some x → Q x
matched_some o P Q x m e = let F : Option _ → Type 0 = λ r. MatchOption r P Q in subst F e m

pub matched_none : {T : Type 0} (o : Option T) (P : Type 0) (Q : T → Type 0) → MatchOption o P Q → o ≡ None → P
matched_none o P Q m e = let F : Option _ → Type 0 = λ r. MatchOption r P Q in subst F e m

no_tasks : (ks : List Task) → length ks ≡ 0 → ks ≡ []
no_tasks [] e = refl
no_tasks (k ∷ ks) e = cc

pub all_done : (out whole : List ℕ) (q : Bool) (vs : List ℕ) (ks : List Task) (ts : Trees) → length ks ≡ 0 → out ++ tasks_text q vs ks ts ≡ whole → out ≡ whole
all_done out whole q vs ks ts none e =
    sym (append-nil out) ∙ (ap (λ r. out ++ r) (sym (ap (λ js. tasks_text q vs js ts) (no_tasks ks none) ∙ tasks_text-none q vs ts)) ∙ e)
