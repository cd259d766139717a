-- Lemmas on rules: what follows them, and that those without events run their bodies.
use Rattle.std.proofs.Common.{◌≡◌, ◌⊎◌, inl, inr, ℕ, suc, List, [], ◌∷◌, refl, ap, subst, ◌∙◌}
use Rattle.std.proofs.Math.Path.{fun_ext}
use Rattle.std.specs.Prelude.{Bool, true, false, Option, Some, None, cond, replicate, ⊤}
use Rattle.pi_terms.specs.Tree.{Tree, Trees}
use Rattle.pi_terms.specs.Places.{Places}
use Rattle.pi_constraints.specs.State.{State, bindings}
use Rattle.pi_traces.specs.Trace.{Trace, end, note, ans, Done, one, alt, then}
use Rattle.pi_traces.specs.Control.{chosen}
use Rattle.pi_meaning.specs.CoreMeaning.Builtins.{Builtins}
use Rattle.pi_constraints.specs.HeadMatch.{matched_all_in}
use Rattle.pi_meaning.specs.Shared.Level.{Level, Point}
use Rattle.pi_core.specs.CoreTree.{ClauseTree, PredTree, find_pred, is_pred}
use Rattle.pi_meaning.specs.CoreMeaning.Rules.{guarded, chosen_rule, rule_before, rules, body_run, body_or_agent, rule_by, rules_by}
use Rattle.pi_traces.proofs.TraceLemmas.{then-alt}
use Rattle.pi_meaning.specs.Machine.Built.{WithoutEvents, IsOfRules, AreOfRules}

pub chosen-followed : {A B C : Type 0} (t : Trace A) (f : A → Trace B) (u : Trace B) (g : B → Trace C) →
    then (chosen t f u) g ≡ chosen t (λ x. then (f x) g) (then u g)
unfolding then chosen
chosen-followed (end Done) f u g = refl
chosen-followed (end e) f u g = refl
chosen-followed (note n t) f u g = ap (note n) (chosen-followed t f u g)
chosen-followed (ans x t) f u g = refl

-- the answers renamed before the choice
pub chosen-renamed : {A B C : Type 0} (t : Trace A) (h : A → B) (f : B → Trace C) (u : Trace C) →
    chosen (then t (λ x. one (h x))) f u ≡ chosen t (λ x. f (h x)) u
unfolding then alt chosen
chosen-renamed (end Done) h f u = refl
chosen-renamed (end e) h f u = refl
chosen-renamed (note n t) h f u = ap (note n) (chosen-renamed t h f u)
chosen-renamed (ans x t) h f u = refl

pub chosen-same : {A B : Type 0} (t : Trace A) (f g : A → Trace B) (u w : Trace B) → ((x : A) → f x ≡ g x) → u ≡ w → chosen t f u ≡ chosen t g w
chosen-same t f g u w h e = ap (λ k. chosen t k u) (fun_ext h) ∙ ap (chosen t g) e

pub then-same : {A B : Type 0} (t : Trace A) (f g : A → Trace B) → ((x : A) → f x ≡ g x) → then t f ≡ then t g
then-same t f g h = ap (then t) (fun_ext h)

rule-followed : {X Y : Type 0} (back : Bool) (t rest : Trace X) (f : X → Trace Y) → then (chosen_rule back t rest) f ≡ chosen_rule back (then t f) (then rest f)
rule-followed true t rest f = then-alt t rest f
rule-followed false t rest f = refl

before-followed : {X Y : Type 0} (given : Builtins) (l : Level) (c : ClauseTree) (back : Bool) (does : Point → Trace X) (s : State) (rest : Trace X) (f : X → Trace Y) (e : Option Places) →
    then (rule_before given l (rule_by c back does) s rest e) f ≡ rule_before given l (rule_by c back (λ p. then (does p) f)) s (then rest f) e
before-followed given l c back does s rest f None = refl
before-followed given l c back does s rest f (Some e) =
    let t : Trace Point = guarded given c.guard (record { level = l; slots = e; state = s }) in
    chosen-followed t (λ p. chosen_rule back (does p) rest) rest f
    ∙ chosen-same t (λ p. then (chosen_rule back (does p) rest) f) (λ p. chosen_rule back (then (does p) f) (then rest f)) (then rest f) (then rest f)
    (λ p. rule-followed back (does p) rest f) refl

-- what follows the rules follows what each of them does
pub rules-followed : {X Y : Type 0} (given : Builtins) (l : Level) (back : ClauseTree → Bool) (does : ℕ → ClauseTree → Point → Trace X) (i : ℕ) (cs : List ClauseTree) (ts : Trees) (s : State) (f : X → Trace Y) →
    then (rules (rules_by given l back does) i cs ts s) f ≡ rules (rules_by given l back (λ i c p. then (does i c p) f)) i cs ts s
unfolding rules then
rules-followed given l back does i [] ts s f = refl
rules-followed given l back does i (c ∷ cs) ts s f =
    let e : Option Places = matched_all_in (bindings s) c.head ts (replicate c.slots None) in
    before-followed given l c (back c) (does i c) s (rules (rules_by given l back does) (suc i) cs ts s) f e
    ∙ ap (λ rest. rule_before given l (rule_by c (back c) (λ p. then (does i c p) f)) s rest e) (rules-followed given l back does (suc i) cs ts s f)

-- rules that do the same are the same
unfoldable pub RulesDoSame : {X : Type 0} → (ℕ → ClauseTree → Point → Trace X) → (ℕ → ClauseTree → Point → Trace X) → List ClauseTree → Type 0
RulesDoSame does other [] = ⊤
RulesDoSame does other (c ∷ cs) = ((i j : ℕ) (p : Point) → does i c p ≡ other j c p) × RulesDoSame does other cs

before-same : {X : Type 0} (given : Builtins) (l : Level) (c : ClauseTree) (back : Bool) (does other : Point → Trace X) (s : State) (rest last : Trace X) (e : Option Places) →
    ((p : Point) → does p ≡ other p) → rest ≡ last → rule_before given l (rule_by c back does) s rest e ≡ rule_before given l (rule_by c back other) s last e
before-same given l c back does other s rest last e h r =
    ap (λ k. rule_before given l (rule_by c back k) s rest e) (fun_ext h) ∙ ap (λ k. rule_before given l (rule_by c back other) s k e) r

pub rules-same : {X : Type 0} (given : Builtins) (l : Level) (back : ClauseTree → Bool) (does other : ℕ → ClauseTree → Point → Trace X) (i j : ℕ) (cs : List ClauseTree) (ts : Trees) (s : State) →
    RulesDoSame does other cs → rules (rules_by given l back does) i cs ts s ≡ rules (rules_by given l back other) j cs ts s
unfolding rules RulesDoSame
rules-same given l back does other i j [] ts s h = refl
rules-same given l back does other i j (c ∷ cs) ts s h =
    before-same given l c (back c) (does i c) (other j c) s (rules (rules_by given l back does) (suc i) cs ts s) (rules (rules_by given l back other) (suc j) cs ts s)
    (matched_all_in (bindings s) c.head ts (replicate c.slots None)) (h.0 i j) (rules-same given l back does other (suc i) (suc j) cs ts s h.1)

do-same : {X : Type 0} (f : ClauseTree → Point → Trace X) (cs : List ClauseTree) → RulesDoSame (λ i c p. f c p) (λ i c p. f c p) cs
unfolding RulesDoSame
do-same f [] = tt
do-same f (c ∷ cs) = (λ i j p. refl, do-same f cs)

-- the number of a rule counts for nothing where it does the same for each
pub rules-anywhere : {X : Type 0} (given : Builtins) (l : Level) (back : ClauseTree → Bool) (f : ClauseTree → Point → Trace X) (i j : ℕ) (cs : List ClauseTree) (ts : Trees) (s : State) →
    rules (rules_by given l back (λ i c p. f c p)) i cs ts s ≡ rules (rules_by given l back (λ i c p. f c p)) j cs ts s
rules-anywhere given l back f i j cs ts s = rules-same given l back (λ i c p. f c p) (λ i c p. f c p) i j cs ts s (do-same f cs)

bodies-run : (given : Builtins) (t : Tree) (cs : List ClauseTree) → WithoutEvents cs → RulesDoSame (λ i c p. body_or_agent given t i c c.watches p) (λ i c p. body_run given c p) cs
unfolding RulesDoSame WithoutEvents
bodies-run given t [] h = tt
bodies-run given t (c ∷ cs) h = (λ i j p. ap (λ ws. body_or_agent given t i c ws p) h.0, bodies-run given t cs h.1)

-- rules without events run their bodies
pub rules-run : (given : Builtins) (l : Level) (back : ClauseTree → Bool) (t : Tree) (cs : List ClauseTree) (ts : Trees) (s : State) → WithoutEvents cs →
    rules (rules_by given l back (λ i c p. body_or_agent given t i c c.watches p)) 0 cs ts s ≡ rules (rules_by given l back (λ i c p. body_run given c p)) 0 cs ts s
rules-run given l back t cs ts s h = rules-same given l back (λ i c p. body_or_agent given t i c c.watches p) (λ i c p. body_run given c p) 0 0 cs ts s (bodies-run given t cs h)

found-by : (b : Bool) (pred found : PredTree) (other : Option PredTree) → cond b (Some pred) other ≡ Some found → (pred ≡ found) ⊎ (other ≡ Some found)
found-by true pred found other h = inl (cc)
found-by false pred found other h = inr h

-- a predicate that is found is one of the program
pub found-of-rules : (function : Bool) (name : List ℕ) (k : ℕ) (preds : List PredTree) (pred : PredTree) → AreOfRules preds → find_pred function name k preds ≡ Some pred → IsOfRules pred
unfolding AreOfRules find_pred
found-of-rules function name k [] pred h e = absurd cc
found-of-rules function name k (q ∷ qs) pred h e =
    elim (found-by (is_pred function name k q) q pred (find_pred function name k qs) e) as (λ w. IsOfRules pred)
    [ inl same ↦ subst IsOfRules same h.0 | inr later ↦ found-of-rules function name k qs pred h.1 later ]
