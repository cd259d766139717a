-- The laws of paths and of resumed runs.
use Rattle.std.specs.Prelude.{◌≡◌, ◌≢◌, ◌≤◌, ℕ, suc, List, [], ◌∷◌, length, AllPairs, ⊤}
use Rattle.pi_terms.specs.Tree.{Tree}
use Rattle.pi_traces.specs.Trace.{Trace, alt, then, answers}
use Rattle.pi_traces.specs.Control.{caught, chosen}
use Rattle.pi_resume_spec.specs.Ways.{Ways, plain, without_choices, numbered, followed_by, choice_from, choice, catching, Apart}
use Rattle.pi_resume_spec.specs.Resumed.{Search, simple, sequence, alternatives, caught_search, RuleSearch, rest_unless, rules_ways, rules_search, ticked, chosen_search, IsResumable}

-- Without its paths a trace is what it was.

abbrev pub PlainOfNumbered : Type 0 → Type 0
PlainOfNumbered A = (k : ℕ) (t : Ways A) → plain (numbered k t) ≡ plain t

abbrev pub PlainOfSequence : Type 0 → Type 0 → Type 0
PlainOfSequence A B = (t : Ways A) (f : A → Ways B) → plain (followed_by t f) ≡ then (plain t) (λ x. plain (f x))

abbrev pub PlainOfChoice : Type 0 → Type 0
PlainOfChoice A = (k : ℕ) (t : Ways A) (more : List (Ways A)) → plain (choice_from k (t ∷ more)) ≡ alt (plain t) (plain (choice_from (suc k) more))

abbrev pub PlainOfCatch : Type 0 → Type 0
PlainOfCatch A = (t : Ways A) (handler : Tree → Ways A) → plain (catching t handler) ≡ caught (plain t) (λ ball. plain (handler ball))

-- of the rules of a call: what chooses by the rules alone, where a committed one ends the choice
abbrev pub PlainOfRules : Type 0 → Type 0 → Type 0
PlainOfRules X A = (k : ℕ) (r : RuleSearch X A) (rs : List (RuleSearch X A)) →
    plain (rules_ways k (r ∷ rs)) ≡ chosen r.applies (λ x. alt (plain (r.body x).ways) (plain (rest_unless r.committed (rules_ways (suc k) rs)))) (plain (rules_ways (suc k) rs))

-- The paths of a trace's answers lead apart, however goals are put together.

abbrev pub StraightIsApart : Type 0 → Type 0
StraightIsApart A = (t : Trace A) → length (answers t) ≤ 1 → Apart (without_choices t)

abbrev pub SequencesAreApart : Type 0 → Type 0 → Type 0
SequencesAreApart A B = (t : Ways A) (f : A → Ways B) → Apart t → ((x : A) → Apart (f x)) → Apart (followed_by t f)

-- each of these is so
unfoldable pub AllApart : {A : Type 0} → List (Ways A) → Type 0
AllApart [] = ⊤
AllApart (t ∷ ts) = Apart t × AllApart ts

abbrev pub ChoicesAreApart : Type 0 → Type 0
ChoicesAreApart A = (ts : List (Ways A)) → AllApart ts → Apart (choice ts)

abbrev pub CatchesAreApart : Type 0 → Type 0
CatchesAreApart A = (t : Ways A) (handler : Tree → Ways A) → Apart t → ((ball : Tree) → Apart (handler ball)) → Apart (catching t handler)

-- the bodies of these rules do
unfoldable pub AllBodiesApart : {X A : Type 0} → List (RuleSearch X A) → Type 0
AllBodiesApart [] = ⊤
AllBodiesApart {X = X} (r ∷ rs) = ((x : X) → Apart (r.body x).ways) × AllBodiesApart rs

abbrev pub RulesAreApart : Type 0 → Type 0 → Type 0
RulesAreApart X A = (rs : List (RuleSearch X A)) → AllBodiesApart rs → Apart (rules_search rs).ways

abbrev pub ConditionsAreApart : Type 0 → Type 0 → Type 0
ConditionsAreApart X A = (t : Trace X) (f : X → Search A) (other : Search A) → ((x : X) → Apart (f x).ways) → Apart other.ways → Apart (chosen_search t f other).ways

abbrev pub TicksAreApart : Type 0 → Type 0
TicksAreApart A = (s : Search A) → Apart s.ways → Apart (ticked s).ways

-- and so no two answers have one path
abbrev pub NoTwoPathsAreOne : Type 0 → Type 0
NoTwoPathsAreOne A = (t : Ways A) → Apart t → AllPairs (λ v w. v.path ≢ w.path) (answers t)

-- A resumed run gives, behind the answer of its path, what stands behind that answer in the trace.

-- where all begins: a goal that makes no choice, with one answer at most
abbrev pub SimpleIsResumable : Type 0 → Type 0
SimpleIsResumable A = (t : Trace A) → length (answers t) ≤ 1 → IsResumable (simple t)

abbrev pub SequencesAreResumable : Type 0 → Type 0 → Type 0
SequencesAreResumable A B = (s : Search A) (g : A → Search B) → IsResumable s → ((x : A) → IsResumable (g x)) → IsResumable (sequence s g)

-- each of these is so
unfoldable pub AllResumable : {A : Type 0} → List (Search A) → Type 0
AllResumable [] = ⊤
AllResumable (s ∷ more) = IsResumable s × AllResumable more

abbrev pub ChoicesAreResumable : Type 0 → Type 0
ChoicesAreResumable A = (more : List (Search A)) → AllResumable more → IsResumable (alternatives more)

abbrev pub CatchesAreResumable : Type 0 → Type 0
CatchesAreResumable A = (s : Search A) (handler : Tree → Search A) → IsResumable s → ((ball : Tree) → IsResumable (handler ball)) → IsResumable (caught_search s handler)

-- the rules of a call, whose bodies are so
unfoldable pub AllBodies : {X A : Type 0} → List (RuleSearch X A) → Type 0
AllBodies [] = ⊤
AllBodies {X = X} (r ∷ rs) = ((x : X) → IsResumable (r.body x)) × AllBodies rs

abbrev pub RulesAreResumable : Type 0 → Type 0 → Type 0
RulesAreResumable X A = (rs : List (RuleSearch X A)) → AllBodies rs → IsResumable (rules_search rs)

abbrev pub TicksAreResumable : Type 0 → Type 0
TicksAreResumable A = (s : Search A) → IsResumable s → IsResumable (ticked s)

abbrev pub ConditionsAreResumable : Type 0 → Type 0 → Type 0
ConditionsAreResumable X A = (t : Trace X) (f : X → Search A) (other : Search A) → ((x : X) → IsResumable (f x)) → IsResumable other → IsResumable (chosen_search t f other)
