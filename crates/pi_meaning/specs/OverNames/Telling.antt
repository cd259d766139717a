-- What an answer of a goal over names tells: which names, with which values, and the state. A name that begins with `_` isn't told. (Own.)
use Rattle.std.specs.Prelude.{ℕ, ◌==◌, Bool, false, cond, List, [], ◌∷◌, ◌++◌, map}
use Rattle.std.specs.Str.{bytes_eq}
use Rattle.std.specs.List.{list_any}
use Rattle.pi_constraints.specs.Value.{value}
use Rattle.pi_constraints.specs.State.{State, bindings}
use Rattle.pi_constraints.specs.ToldDomains.{told_domains}
use Rattle.pi_syntax.specs.ExpTree.{ExpTree}
use Rattle.pi_traces.specs.Trace.{Trace, Emitted, noted, answered, one, then}
use Rattle.pi_traces.specs.Depth.{Cut}
use Rattle.pi_core.specs.AnswerVariables.{answer_variables}
use Rattle.pi_core.specs.declared.answer.Answer.{Answer}
use Rattle.pi_core.specs.declared.answer.NamedTerm.{NamedTerm}
use Rattle.pi_meaning.specs.Shared.Raise.{within_limit}
use Rattle.pi_meaning.specs.OverNames.Environment.{Environment, Valued, valued}
use Rattle.pi_meaning.specs.OverNames.Place.{Place, Doing}

-- ---- names

-- a name that begins with `_`, whose code is 95
abbrev pub is_hidden : List ℕ → Bool
is_hidden [] = false
is_hidden (c ∷ cs) = c == 95

-- a name behind those before it, where it isn't among them and doesn't begin with `_`
abbrev pub one_more : List (List ℕ) → List ℕ → List (List ℕ)
one_more before name = cond (is_hidden name) before (cond (list_any (bytes_eq name) before) before (before ++ name ∷ []))

-- names that are told behind these, each once, by first occurrence
unfoldable pub told_behind : List (List ℕ) → List (List ℕ) → List (List ℕ)
told_behind before [] = before
told_behind before (name ∷ names) = told_behind (one_more before name) names

-- ---- values

-- the values of names, with all bindings replaced; a name that is not there is a new variable
unfoldable pub told_values : List (List ℕ) → Environment → State → List NamedTerm
told_values [] e s = []
told_values (name ∷ names) e s =
    let x : Valued = valued (ExpTree.var name) e s in
    record { name = name; value = value (bindings x.state) x.tree } ∷ told_values names x.names x.state

-- an answer that would tell a value past the limit raises an exception in its place
unfoldable pub if_tellable : List (List ℕ) → Place → Trace Place → Trace Place
if_tellable [] p t = t
if_tellable (name ∷ names) p t =
    let x : Valued = valued (ExpTree.var name) p.names p.state in
    within_limit (value (bindings x.state) x.tree) (if_tellable names p t)

abbrev pub telling : List (List ℕ) → Doing
telling names p = if_tellable names p (one p)

-- ---- answers

pub record Told : Type 0 where
  pub values : List NamedTerm
  pub state : State

abbrev pub place_told : List (List ℕ) → Place → Told
place_told names p = record { values = told_values names p.names p.state; state = p.state }

-- the answer that it is: the values, and the domains of the variables in them
abbrev pub told_answer : Told → Answer
told_answer t = record { values = t.values; domains = told_domains t.state (answer_variables t.values) }

-- a trace with what its answers tell in their place
abbrev pub told_trace : {A : Type 0} → (A → Told) → Trace A → Trace Told
told_trace f t = then t (λ x. one (f x))

-- a cut with what its answers tell in their place
abbrev pub told_event : {A : Type 0} → (A → Told) → Emitted A → Emitted Told
told_event f (noted n) = noted n
told_event f (answered x) = answered (f x)

abbrev pub told_cut : {A : Type 0} → (A → Told) → Cut A → Cut Told
told_cut f c = record { events = map (told_event f) c.events; stop = c.stop }
