-- What a comprehension's loop leaves to what is behind it: of the names that there were before only the one that has the items stands for something else.
use Rattle.std.proofs.Common.{◌≡◌, ℕ, Bool, true, false, cond, List, [], ◌∷◌, refl, sym, ◌∙◌, ap, subst}
use Rattle.std.specs.Prelude.{Option, Some, None, IsSome, Ok, Err, ⊤, ◌||◌, pos, length}
use Rattle.std.specs.Str.{bytes_eq}
use Rattle.std.proofs.lemmas.Bool.{true≢false}
use Rattle.pi_terms.specs.Tree.{Tree, var}
use Rattle.pi_constraints.specs.State.{bindings, next}
use Rattle.pi_constraints.specs.Unify.{unified}
use Rattle.pi_effects.specs.Range.{Outcome}
use Rattle.pi_effects.specs.Value.{value_of}
use Rattle.pi_effects.specs.declared.operation.Op.TheVariants.{Add}
use Rattle.pi_effects.specs.Items.{collection_items}
use Rattle.pi_syntax.specs.ExpTree.{ExpTree}
use Rattle.pi_traces.specs.Trace.{Trace, end, note, ans, then}
use Rattle.pi_traces.proofs.AnswerLemmas.{EachAnswer, each-map, each-one, each-then}
use Rattle.pi_meaning.specs.Shared.Settle.{settled_from}
use Rattle.pi_meaning.specs.Shared.Level.{Level, calls_at}
use Rattle.pi_meaning.specs.OverNames.Environment.{Environment, meant, known, Valued, name_valued}
use Rattle.pi_meaning.specs.OverNames.Place.{Place}
use Rattle.pi_meaning.specs.OverNames.Texts.{Names, is_among}
use Rattle.pi_meaning.specs.OverNames.Assigning.{place_of, with_names, with_value, carried}
use Rattle.pi_meaning.specs.OverNames.Control.{Goal, Value}
use Rattle.pi_meaning.specs.OverNames.Loops.{Finish, now, closed, opened, framed, elements, if_numbered, items_then, iterating, turning, hidden, names_around}
use Rattle.pi_meaning.proofs.OverNames.OtherEnvironments.{meant-value}
use Rattle.pi_rewrite_spec.specs.Slots.{unnamed}
use Rattle.pi_rewrite_spec.proofs.AgreeLemmas.{or_last, text_itself, text_same, meant-more}
use Rattle.pi_rewrite_laws.proofs.EnterLemmas.{AllThere}
use Rattle.pi_rewrite_laws.proofs.ComprehensionLemmas.{Left, LeavesNames}

each-some : {A : Type 0} (t : Trace A) → EachAnswer (λ (x : A). ⊤) t
unfolding EachAnswer
each-some (end e) = tt
each-some (note n t) = each-some t
each-some (ans x t) = (tt, each-some t)

-- whatever stands before
behind-any : {A B : Type 0} (Q : B → Type 0) (t : Trace A) (f : A → Trace B) → ((x : A) → EachAnswer Q (f x)) → EachAnswer Q (then t f)
behind-any {A = A} Q t f each = each-then (λ (x : A). ⊤) Q t f (each-some t) (λ x is. each x)

-- ---- names that are there

-- one that is there stays what it is
one-there : (other : List ℕ) (p : Place) → (bytes_eq other unnamed ≡ false → IsSome (meant other p.names)) → (name : List ℕ) → bytes_eq name unnamed ≡ false → meant name (name_valued (known other p.names) other p.names p.state).names ≡ meant name p.names
one-there other p there name named = go (bytes_eq other unnamed) refl (meant other p.names) refl
  where
    last : (o : Option Tree) → or_last o None ≡ o
    last None = refl
    last (Some t) = refl

    apart : bytes_eq other unnamed ≡ true → (b : Bool) → bytes_eq name other ≡ b → b ≡ false
    apart is true same = absurd (true≢false (sym (ap (λ (x : List ℕ). bytes_eq x unnamed) (text_same name other same) ∙ is) ∙ named))
    apart is false same = refl

    go : (b : Bool) → bytes_eq other unnamed ≡ b → (o : Option Tree) → meant other p.names ≡ o → meant name (name_valued (cond b None (meant other p.names)) other p.names p.state).names ≡ meant name p.names
    go true is o at =
        meant-more name p.names other (var (next p.state)) ∙ ap (λ (b : Bool). or_last (meant name p.names) (cond b (Some (var (next p.state))) None)) (apart is (bytes_eq name other) refl) ∙ last (meant name p.names)
    go false is None at = absurd (cc (subst (λ (o : Option Tree). IsSome o) at (there is)))
    go false is (Some t) at = ap (λ (o : Option Tree). meant name (name_valued o other p.names p.state).names) at

pub names-stay : (names : Names) (p : Place) → AllThere names p.names → (name : List ℕ) → bytes_eq name unnamed ≡ false → meant name (with_names names p).names ≡ meant name p.names
unfolding with_names
names-stay [] p there name named = refl
names-stay (other ∷ names) p there name named = names-stay names after (λ n among is. subst (λ (o : Option Tree). IsSome o) (sym (first n is)) (there n (later n among) is)) name named ∙ first name named
  where
    after : Place
    after = place_of (name_valued (known other p.names) other p.names p.state)

    first : (n : List ℕ) → bytes_eq n unnamed ≡ false → meant n after.names ≡ meant n p.names
    first n is = one-there other p (λ named. there other (ap (λ (b : Bool). b || is_among names other) (text_itself other)) named) n is

    later : (n : List ℕ) → is_among names n ≡ true → bytes_eq n other || is_among names n ≡ true
    later n is = any (bytes_eq n other) (is_among names n) is
      where
        any : (a b : Bool) → b ≡ true → a || b ≡ true
        any true b is = refl
        any false b is = is

left-from : (e f g : Environment) → ((name : List ℕ) → bytes_eq name unnamed ≡ false → meant name f ≡ meant name e) → Left f g → Left e g
left-from e f g same left = record { others = λ name named other. left.others name named other ∙ same name named; gathered = left.gathered }

-- ---- where a loop ends

left-value : (e : Environment) (t : Tree) → Left e (with_value e hidden t)
left-value e t = record {
  others = λ name named other. meant-value name hidden t e ∙ ap (λ (b : Bool). cond b (Some t) (meant name e)) other;
  gathered = subst (λ (o : Option Tree). IsSome o) (sym (meant-value hidden hidden t e)) refl;
}

abbrev leaves : Environment → Place → Type 0
leaves e q = Left e q.names

closed-leaves : (finish : Finish) (base : ℕ) (e : Environment) (l : Level) (p : Place) → EachAnswer (leaves e) (closed finish (hidden ∷ []) base e l p)
unfolding closed
closed-leaves finish base e l p =
    behind-any (leaves e) ((calls_at l).drained p.state) _
    (λ s. behind-any (leaves e) (settled_from s (unified s (var base) (finish (bindings s) (now hidden p.names)))) _
    (λ r. each-one (leaves e) (record { names = with_value e hidden (var base); state = r }) (left-value e (var base))))

framed-leaves : (finish : Finish) (inside : Names) (turns : Goal) (l : Level) (p : Place) → EachAnswer (leaves p.names) (framed finish inside (hidden ∷ []) turns l p)
framed-leaves finish inside turns l p = behind-any (leaves p.names) (turns l (opened inside (hidden ∷ []) p)) _ (λ q. closed-leaves finish (next p.state) p.names l q)

-- ---- loops

pub turning-leaves : (finish : Finish) (before inside : Names) (turns : Goal) (l : Level) → LeavesNames l before (turning (names_around finish before inside (hidden ∷ [])) turns)
unfolding turning
turning-leaves finish before inside turns l p there =
    each-map (leaves (with_names before p).names) (leaves p.names) (λ q left. left-from p.names (with_names before p).names q.names (names-stay before p there) left) _ (framed-leaves finish inside turns l (with_names before p))

pub iterating-leaves : (finish : Finish) (before inside : Names) (pattern : ExpTree) (collection : Value) (body : Goal) (l : Level) → LeavesNames l before (iterating (names_around finish before inside (hidden ∷ [])) pattern collection body)
unfolding iterating EachAnswer
iterating-leaves finish before inside pattern collection body l p there =
    behind-any (leaves p.names) (collection l (carried before start)) _ (λ x. items x (collection_items (bindings x.state) x.tree))
  where
    start : Place
    start = with_names before p

    turns : Valued → List Tree → Trace Place
    turns x ts = framed finish inside (hidden ∷ []) (elements inside pattern body ts) l (record { names = start.names; state = x.state })

    numbered : (x : Valued) (ts : List Tree) (o : Outcome) → EachAnswer (leaves p.names) (if_numbered o (turns x ts))
    numbered x ts (Err fault) = tt
    numbered x ts (Ok n) =
        each-map (leaves (with_names before p).names) (leaves p.names) (λ q left. left-from p.names (with_names before p).names q.names (names-stay before p there) left) (turns x ts)
        (framed-leaves finish inside (elements inside pattern body ts) l (record { names = start.names; state = x.state }))

    items : (x : Valued) (o : Option (List Tree)) → EachAnswer (leaves p.names) (items_then (turns x) x.tree x.state o)
    items x None = tt
    items x (Some ts) = numbered x ts (value_of Add (pos (length ts)) (pos 1))
