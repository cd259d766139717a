-- Searches whose paths lead apart and each lead to their answers, with what holds of the answers: however goals are put together.
use Rattle.std.specs.Prelude.{◌≡◌, ℕ, suc, Bool, true, false, List, [], ◌∷◌, length, refl}
use Rattle.std.proofs.Common.{arith, sym, ap, subst, inl, inr}
use Rattle.pi_terms.specs.Tree.{Tree}
use Rattle.pi_traces.specs.Trace.{Trace, end, note, ans, End, Done, Raise, Abort, Miss, Deep, one, alt, then, first, answers}
use Rattle.pi_traces.specs.Control.{negated, collected, counted, chosen}
use Rattle.pi_traces.proofs.AnswerLemmas.{EachAnswer, each-one, each-alt, each-then, each-caught, each-chosen}
use Rattle.pi_resume_spec.specs.Ways.{Way, straight, choosing, numbered, behind, choice_from}
use Rattle.pi_resume_spec.specs.Resumed.{Search, simple, sequence, ways_of, alternatives, caught_search, RuleSearch, rest_unless, rules_ways, rules_search, ticked, chosen_search, At}
use Rattle.pi_resume_spec.specs.PathLaws.{AllApart, AllResumable}
use Rattle.pi_resume_spec.specs.Searches.{without_paths, only}
use Rattle.pi_resume_spec.specs.LanguageLaws.{OneAtMost, IsGuided}
use Rattle.pi_resume_spec.proofs.ApartLemmas.{straight_is_apart, sequences-apart, choices_are_apart, catches_are_apart, BodiesApart, rules-apart, conditions-apart, ticks_are_apart}
use Rattle.pi_resume_spec.proofs.ResumedLemmas.{Begun, begun, sequences-resume}
use Rattle.pi_resume_spec.proofs.SimpleLemmas.{simple_is_resumable}
use Rattle.pi_resume_spec.proofs.ChoiceLemmas.{choices_are_resumable, catches_are_resumable, BodiesResume, rules-resume, conditions-resume, ticks_are_resumable}

-- a guided search, of each of whose answers something holds
pub record Guided {A : Type 0} (P : A → Type 0) (s : Search A) : Type 0 where
  pub guided : IsGuided s
  pub each : EachAnswer (λ w. P w.answer) s.ways

-- what holds of each answer holds of one
pub at-each : {A : Type 0} (P : A → Type 0) (t : Trace A) (x : A) (rest : Trace A) → EachAnswer P t → At t x rest → P x
unfolding EachAnswer Begun
at-each P (end e) x rest h a = absurd (begun a)
at-each P (note n t) x rest h a = at-each P t x rest h (begun a)
at-each P (ans y t) x rest h a = elim (begun a) [ inl is ↦ subst P (sym is.0) h.0 | inr later ↦ at-each P t x rest h.1 later ]

each-renamed : {A B : Type 0} (P : B → Type 0) (g : A → B) (t : Trace A) → EachAnswer (λ x. P (g x)) t → EachAnswer P (then t (λ x. one (g x)))
each-renamed P g t h = each-then (λ x. P (g x)) P t (λ x. one (g x)) h (λ x p. each-one P (g x) p)

-- the answers without their paths
pub each-plain : {A : Type 0} (P : A → Type 0) (s : Search A) → Guided P s → EachAnswer P (without_paths s)
each-plain P s g = each-renamed P (λ w. w.answer) s.ways g.each

-- ---- how many answers

few-more : {A B : Type 0} (t : Trace A) (f : A → B) → length (answers (then t (λ x. one (f x)))) ≡ length (answers t)
unfolding then alt answers
few-more (end e) f = refl
few-more (note n t) f = few-more t f
few-more (ans x t) f = ap suc (few-more t f)

pub one-renamed : {A B : Type 0} (t : Trace A) (f : A → B) → OneAtMost t → OneAtMost (then t (λ x. one (f x)))
one-renamed t f h = let same = few-more t f in omega (arith, same)

pub one-first : {A : Type 0} (t : Trace A) → OneAtMost (first t)
unfolding first answers
one-first (end e) = omega arith
one-first (note n t) = one-first t
one-first (ans x t) = omega arith

pub one-negated : {A B : Type 0} (t : Trace A) (y : B) → OneAtMost (negated t y)
unfolding negated answers
one-negated (end Done) y = omega arith
one-negated (end (Raise ball)) y = omega arith
one-negated (end (Abort ball)) y = omega arith
one-negated (end (Miss c)) y = omega arith
one-negated (end Deep) y = omega arith
one-negated (note n t) y = one-negated t y
one-negated (ans x t) y = omega arith

pub one-collected : {A B C : Type 0} (t : Trace A) (value : A → B) (f : List B → Trace C) → ((ys : List B) → OneAtMost (f ys)) → OneAtMost (collected t value f)
unfolding collected answers
one-collected (end Done) value f all = all []
one-collected (end (Raise ball)) value f all = omega arith
one-collected (end (Abort ball)) value f all = omega arith
one-collected (end (Miss c)) value f all = omega arith
one-collected (end Deep) value f all = omega arith
one-collected (note n t) value f all = one-collected t value f all
one-collected (ans x t) value f all = one-collected t value (λ ys. f (value x ∷ ys)) (λ ys. all (value x ∷ ys))

pub one-counted : {A B : Type 0} (t : Trace A) (f : ℕ → Trace B) → ((n : ℕ) → OneAtMost (f n)) → OneAtMost (counted t f)
unfolding counted answers
one-counted (end Done) f all = all 0
one-counted (end (Raise ball)) f all = omega arith
one-counted (end (Abort ball)) f all = omega arith
one-counted (end (Miss c)) f all = omega arith
one-counted (end Deep) f all = omega arith
one-counted (note n t) f all = one-counted t f all
one-counted (ans x t) f all = one-counted t (λ n. f (suc n)) (λ n. all (suc n))

pub one-chosen : {X A : Type 0} (t : Trace X) (f : X → Trace A) (u : Trace A) → ((x : X) → OneAtMost (f x)) → OneAtMost u → OneAtMost (chosen t f u)
unfolding chosen answers
one-chosen (end Done) f u all rest = rest
one-chosen (end (Raise ball)) f u all rest = omega arith
one-chosen (end (Abort ball)) f u all rest = omega arith
one-chosen (end (Miss c)) f u all rest = omega arith
one-chosen (end Deep) f u all rest = omega arith
one-chosen (note n t) f u all rest = one-chosen t f u all rest
one-chosen (ans x t) f u all rest = all x

pub one-one : {A : Type 0} (x : A) → OneAtMost (one x)
unfolding answers
one-one x = omega arith

pub one-end : (A : Type 0) (e : End) → OneAtMost {A = A} (end e)
unfolding answers
one-end A e = omega arith

-- ---- goals that are put together

pub simple-guided : {A : Type 0} (t : Trace A) → OneAtMost t → IsGuided (simple t)
simple-guided t h = record { apart = straight_is_apart t h; resumes = simple_is_resumable t h }

pub guided-simple : {A : Type 0} (P : A → Type 0) (t : Trace A) → OneAtMost t → EachAnswer P t → Guided P (simple t)
guided-simple P t h each = record { guided = simple-guided t h; each = each-renamed (λ w. P w.answer) straight t each }

pub guided-only : {A : Type 0} (P : A → Type 0) (x : A) → P x → Guided P (only x)
guided-only P x p = guided-simple P (one x) (one-one x) (each-one P x p)

pub guided-end : {A : Type 0} (P : A → Type 0) (e : End) → Guided P (simple (end e))
unfolding EachAnswer
guided-end {A = A} P e = guided-simple P (end e) (one-end A e) tt

pub guided-sequence : {A B : Type 0} (P : A → Type 0) (Q : B → Type 0) (s : Search A) (g : A → Search B) → Guided P s → ((x : A) → P x → Guided Q (g x)) → Guided Q (sequence s g)
guided-sequence P Q s g h all = record {
  guided = record {
    apart = sequences-apart P s.ways (λ x. (g x).ways) h.each h.guided.apart (λ x p. (all x p).guided.apart);
    resumes = sequences-resume s g h.guided.resumes (λ w r a. (all w.answer (at-each (λ v. P v.answer) s.ways w r h.each a)).guided.resumes);
  };
  each = each-then (λ w. P w.answer) (λ w. Q w.answer) s.ways (λ w. then (g w.answer).ways (λ v. one (behind w.path v))) h.each
      (λ w p. each-renamed (λ v. Q v.answer) (behind w.path) (g w.answer).ways (all w.answer p).each);
}

-- each of these is guided
unfoldable pub AllGuided : {A : Type 0} → (A → Type 0) → List (Search A) → Type 0
AllGuided P [] = Unit {0}
AllGuided P (s ∷ more) = Guided P s × AllGuided P more

all-apart : {A : Type 0} (P : A → Type 0) (more : List (Search A)) → AllGuided P more → AllApart (ways_of more)
unfolding AllGuided AllApart
all-apart P [] h = tt
all-apart P (s ∷ more) h = (h.0.guided.apart, all-apart P more h.1)

all-resumable : {A : Type 0} (P : A → Type 0) (more : List (Search A)) → AllGuided P more → AllResumable more
unfolding AllGuided AllResumable
all-resumable P [] h = tt
all-resumable P (s ∷ more) h = (h.0.guided.resumes, all-resumable P more h.1)

each-choice : {A : Type 0} (P : A → Type 0) (k : ℕ) (more : List (Search A)) → AllGuided P more → EachAnswer (λ w. P w.answer) (choice_from k (ways_of more))
unfolding AllGuided choice_from EachAnswer
each-choice P k [] h = tt
each-choice P k (s ∷ more) h =
    each-alt (λ w. P w.answer) (numbered k s.ways) (choice_from (suc k) (ways_of more)) (each-renamed (λ w. P w.answer) (choosing k) s.ways h.0.each) (each-choice P (suc k) more h.1)

pub guided-choice : {A : Type 0} (P : A → Type 0) (more : List (Search A)) → AllGuided P more → Guided P (alternatives more)
guided-choice P more h = record {
  guided = record { apart = choices_are_apart (ways_of more) (all-apart P more h); resumes = choices_are_resumable more (all-resumable P more h) };
  each = each-choice P 1 more h;
}

pub guided-catch : {A : Type 0} (P : A → Type 0) (s : Search A) (handler : Tree → Search A) → Guided P s → ((ball : Tree) → Guided P (handler ball)) → Guided P (caught_search s handler)
guided-catch P s handler h all = record {
  guided = record {
    apart = catches_are_apart s.ways (λ ball. (handler ball).ways) h.guided.apart (λ ball. (all ball).guided.apart);
    resumes = catches_are_resumable s handler h.guided.resumes (λ ball. (all ball).guided.resumes);
  };
  each = each-caught (λ w. P w.answer) (numbered 1 s.ways) (λ ball. numbered 2 (handler ball).ways) (each-renamed (λ w. P w.answer) (choosing 1) s.ways h.each)
      (λ ball. each-renamed (λ w. P w.answer) (choosing 2) (handler ball).ways (all ball).each);
}

pub guided-ticked : {A : Type 0} (P : A → Type 0) (s : Search A) → Guided P s → Guided P (ticked s)
unfolding EachAnswer
guided-ticked P s h = record { guided = record { apart = ticks_are_apart s h.guided.apart; resumes = ticks_are_resumable s h.guided.resumes }; each = h.each }

pub guided-chosen : {X A : Type 0} (P : X → Type 0) (Q : A → Type 0) (t : Trace X) (f : X → Search A) (other : Search A) → EachAnswer P t → ((x : X) → P x → Guided Q (f x)) → Guided Q other →
    Guided Q (chosen_search t f other)
guided-chosen P Q t f other is all rest = record {
  guided = record {
    apart = conditions-apart P t f other is (λ x p. (all x p).guided.apart) rest.guided.apart;
    resumes = conditions-resume t f other (λ x q a. (all x (at-each P t x q is a)).guided.resumes) rest.guided.resumes;
  };
  each = each-chosen P (λ w. Q w.answer) t (λ x. (f x).ways) other.ways is (λ x p. (all x p).each) rest.each;
}

-- rules whose bodies are guided from each answer of their conditions
unfoldable pub RulesGuided : {X A : Type 0} → (X → Type 0) → (A → Type 0) → List (RuleSearch X A) → Type 0
RulesGuided P Q [] = Unit {0}
RulesGuided {X = X} P Q (r ∷ rs) = (EachAnswer P r.applies × ((x : X) → P x → Guided Q (r.body x))) × RulesGuided P Q rs

bodies-apart : {X A : Type 0} (P : X → Type 0) (Q : A → Type 0) (rs : List (RuleSearch X A)) → RulesGuided P Q rs → BodiesApart P rs
unfolding RulesGuided BodiesApart
bodies-apart P Q [] h = tt
bodies-apart P Q (r ∷ rs) h = ((h.0.0, λ x p. (h.0.1 x p).guided.apart), bodies-apart P Q rs h.1)

bodies-resume : {X A : Type 0} (P : X → Type 0) (Q : A → Type 0) (rs : List (RuleSearch X A)) → RulesGuided P Q rs → BodiesResume rs
unfolding RulesGuided BodiesResume
bodies-resume P Q [] h = tt
bodies-resume P Q (r ∷ rs) h = (λ x q a. (h.0.1 x (at-each P r.applies x q h.0.0 a)).guided.resumes, bodies-resume P Q rs h.1)

each-unless : {A : Type 0} (P : A → Type 0) (c : Bool) (t : Trace (Way A)) → EachAnswer (λ w. P w.answer) t → EachAnswer (λ w. P w.answer) (rest_unless c t)
unfolding EachAnswer
each-unless P true t h = tt
each-unless P false t h = h

each-rules : {X A : Type 0} (P : X → Type 0) (Q : A → Type 0) (k : ℕ) (rs : List (RuleSearch X A)) → RulesGuided P Q rs → EachAnswer (λ w. Q w.answer) (rules_ways k rs)
unfolding RulesGuided rules_ways EachAnswer
each-rules P Q k [] h = tt
each-rules P Q k (r ∷ rs) h =
    let later = each-rules P Q (suc k) rs h.1 in
    each-chosen P (λ w. Q w.answer) r.applies (λ x. alt (numbered k (r.body x).ways) (rest_unless r.committed (rules_ways (suc k) rs))) (rules_ways (suc k) rs) h.0.0
    (λ x p. each-alt (λ w. Q w.answer) (numbered k (r.body x).ways) (rest_unless r.committed (rules_ways (suc k) rs))
    (each-renamed (λ w. Q w.answer) (choosing k) (r.body x).ways (h.0.1 x p).each) (each-unless Q r.committed (rules_ways (suc k) rs) later)) later

pub guided-rules : {X A : Type 0} (P : X → Type 0) (Q : A → Type 0) (rs : List (RuleSearch X A)) → RulesGuided P Q rs → Guided Q (rules_search rs)
guided-rules P Q rs h = record {
  guided = record { apart = rules-apart P rs (bodies-apart P Q rs h); resumes = rules-resume rs (bodies-resume P Q rs h) };
  each = each-rules P Q 1 rs h;
}
