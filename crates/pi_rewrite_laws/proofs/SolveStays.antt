-- `solve` keeps what terms are followed to, at a level at which calls do: it binds only variables that it has picked, and settles what it leaves.
use Rattle.std.proofs.Common.{◌≡◌, ℕ, zero, suc, List, [], ◌∷◌, refl, subst}
use Rattle.std.specs.Prelude.{ℤ, Option, Some, None, Result, Ok, Err, option_map, unwrap_or}
use Rattle.pi_terms.specs.Tree.{int, comp, Trees, no_trees, tree, tree_count}
use Rattle.pi_terms.specs.Places.{held}
use Rattle.pi_constraints.specs.Domain.{values_of}
use Rattle.pi_constraints.specs.State.{State, within, bound, bindings, next, with_binding, with_domain}
use Rattle.pi_constraints.specs.Evaluation.{with_new_variables}
use Rattle.pi_constraints.specs.Value.{value}
use Rattle.pi_constraints.specs.declared.constraint.Item.{Item}
use Rattle.pi_constraints.specs.declared.domain.Span.{Span}
use Rattle.pi_constraints.proofs.StateLemmas.{domain_unbound}
use Rattle.pi_traces.specs.Trace.{Trace, done, one, then}
use Rattle.pi_traces.proofs.AnswerLemmas.{EachAnswer, each-map, each-then, each-alt, each-chosen}
use Rattle.pi_settling.specs.CalmLaws.{FollowedStay}
use Rattle.pi_settling.specs.Options.{Options, Objective}
use Rattle.pi_settling.specs.Asked.{Asked, labels, raises}
use Rattle.pi_settling.specs.SolveCalls.{solve_asked}
use Rattle.pi_settling.specs.Confined.{confined}
use Rattle.pi_settling.specs.Posted.{with_constraints, places_of_all, posted_in}
use Rattle.pi_settling.specs.Read.{operand_as, relation_trace}
use Rattle.pi_settling.specs.Rounds.{operand_posted, begins, better_sign, betters, worth, weighed, count_better}
use Rattle.pi_prop_spec.specs.PostingSums.{Sum}
use Rattle.pi_prop_spec.specs.Postings.{Posting, posting_in, nothing_made, finished}
use Rattle.pi_prop_spec.specs.Steps.{Refusal, Known, read_operand}
use Rattle.pi_prop_spec.specs.Terms.{operand_of}
use Rattle.pi_settling.specs.Choices.{Pending, pending, picked, Alternative, alternatives, left_by, with_values, narrowed_to}
use Rattle.pi_settling.specs.Label.{Lower, tried, one_tried, all_tried, labelled_by, labelled}
use Rattle.pi_settling.proofs.CalmFollowed.{changed-stay, new_variables_keep_followed, constraints_keep_followed, confined_keeps_followed}
use Rattle.pi_settling.proofs.LabelKeeps.{HasItsDomain, MayHave, all-have, picked-has}
use Rattle.pi_meaning.specs.Shared.Settle.{settled}
use Rattle.pi_meaning.specs.Shared.Level.{Level, lowest, over, calls_at}
use Rattle.pi_meaning.specs.Shared.Solve.{labelled_in, plain, searching, round_in, bettered_in, sought_in, solved_for, solve_trace}
use Rattle.pi_meaning.specs.Shared.Calls.{unknown_name}
use Rattle.pi_meaning.specs.CoreMeaning.Instances.{solve_or_unknown}
use Rattle.pi_rewrite_laws.specs.Roots.{RootsStay, LevelKeepsRoots}
use Rattle.pi_rewrite_laws.proofs.ElementLemmas.{roots-stay-itself}
use Rattle.pi_rewrite_laws.proofs.StayLemmas.{roots-stay-then, roots-by}
use Rattle.pi_rewrite_laws.proofs.SettlingStays.{settling-stays}
use Rattle.pi_rewrite_laws.proofs.RootGoals.{calls-keep-roots}

-- each answer of what goes on from a state keeps what stands there
abbrev pub Keeps : (State → Trace State) → Type 0
Keeps f = (s : State) → EachAnswer (RootsStay s) (f s)

pub from-there : (s r : State) (t : Trace State) → RootsStay s r → EachAnswer (RootsStay r) t → EachAnswer (RootsStay s) t
from-there s r t h each = each-map (RootsStay r) (RootsStay s) (λ q k. roots-stay-then s r q h k) t each

pub followed-by : (s : State) (t : Trace State) (f : State → Trace State) → EachAnswer (RootsStay s) t → Keeps f → EachAnswer (RootsStay s) (then t f)
followed-by s t f h each = each-then (RootsStay s) (RootsStay s) t f h (λ r k. from-there s r (f r) k (each r))

-- ---- an alternative

values-stay : (s r : State) (n : ℕ) (d : List Span) (is : List ℤ) → held (bindings s) n ≡ None → with_values s n d is ≡ Some r → FollowedStay s r
values-stay s r n d [] none left = absurd cc
values-stay s r n d (i ∷ []) none left =
    let same : with_binding s n (int i) ≡ r = cc in
    subst (λ (q : State). FollowedStay s q) same (changed-stay s n (bound (int i)) none)
values-stay s r n d (i ∷ j ∷ rest) none left =
    let same : with_domain s n d ≡ r = cc in
    subst (λ (q : State). FollowedStay s q) same (changed-stay s n (within d) none)

narrowed-stays : (s r : State) (p : Pending) (a : Alternative) → HasItsDomain s p → narrowed_to s p.variable (left_by a p.domain) ≡ Some r → RootsStay s r
narrowed-stays s r p a has left =
    roots-by s r (values-stay s r p.variable (left_by a p.domain) (values_of (left_by a p.domain)) (domain_unbound s p.variable p.domain has) left)

-- ---- labelling

record LowerKeeps (l : Lower) : Type 0 where
  pub drains : Keeps l.drains
  pub labels : Keeps l.labels

abbrev MayKeep : Option Lower → Type 0
MayKeep None = Unit {0}
MayKeep (Some l) = LowerKeeps l

tried-keeps : (l : Lower) → LowerKeeps l → (s : State) (o : Option State) → ((r : State) → o ≡ Some r → RootsStay s r) → EachAnswer (RootsStay s) (tried settled l s o)
unfolding EachAnswer
tried-keeps l h s None stays = tt
tried-keeps l h s (Some r) stays =
    followed-by s (then (settled s r) l.drains) l.labels (followed-by s (settled s r) l.drains (settling-stays s s r (stays r refl)) h.drains) h.labels

one-keeps : (below : Option Lower) → MayKeep below → (s : State) (o : Option State) → ((r : State) → o ≡ Some r → RootsStay s r) → EachAnswer (RootsStay s) (one_tried settled below s o)
unfolding EachAnswer
one-keeps None h s o stays = tt
one-keeps (Some l) h s o stays = tried-keeps l h s o stays

all-keep : (below : Option Lower) → MayKeep below → (s : State) (p : Pending) → HasItsDomain s p → (alts : List Alternative) → EachAnswer (RootsStay s) (all_tried settled below s p alts)
unfolding all_tried EachAnswer
all-keep below h s p has [] = tt
all-keep below h s p has (a ∷ alts) =
    let left : Option State = narrowed_to s p.variable (left_by a p.domain) in
    each-alt (RootsStay s) (one_tried settled below s left) (all_tried settled below s p alts) (one-keeps below h s left (λ r is. narrowed-stays s r p a has is)) (all-keep below h s p has alts)

by-keeps : (below : Option Lower) → MayKeep below → (o : Options) (s : State) (p : Option Pending) → MayHave s p → EachAnswer (RootsStay s) (labelled_by settled below o s p)
unfolding EachAnswer
by-keeps below h o s None has = (roots-stay-itself s, tt)
by-keeps below h o s (Some p) has = all-keep below h s p has (alternatives o.value p.domain)

labelled-keeps : (below : Option Lower) → MayKeep below → (o : Options) (items : List Item) → Keeps (labelled settled below o items)
labelled-keeps below h o items s = by-keeps below h o s (picked (pending s items) o.variable) (picked-has s (pending s items) o.variable (all-have s items))

level-keeps : (o : Options) (items : List Item) (l : Level) → LevelKeepsRoots l → Keeps (labelled_in o items l)
unfolding labelled_in
level-keeps o items (lowest c) h s = labelled-keeps None tt o items s
level-keeps o items (over c l) h s =
    labelled-keeps (Some (record { drains = (calls_at l).drained; labels = labelled_in o items l }))
    (record { drains = λ r. (calls-keep-roots l h.1).drained r; labels = level-keeps o items l h.1 }) o items s

-- ---- with an objective

-- what a reading posts
posted-stays : (s : State) (p : Posting) → RootsStay s (posted_in s p)
posted-stays s p =
    let new : State = with_new_variables p.fresh s in
    let told : State = with_constraints p.list new in
    roots-stay-then s new (posted_in s p) (roots-by s new (new_variables_keep_followed p.fresh s))
    (roots-stay-then new told (posted_in s p) (roots-by new told (constraints_keep_followed new p.list)) (roots-by told (posted_in s p) (confined_keeps_followed told (places_of_all p.list))))

operand-keeps : (s : State) (k : Result (Known Sum) Refusal) (p : Result Posting Refusal) → EachAnswer (RootsStay s) (operand_posted settled s (operand_as s k p))
unfolding EachAnswer
operand-keeps s (Err r) p = tt
operand-keeps s (Ok k) (Err r) = tt
operand-keeps s (Ok k) (Ok p) = settling-stays s s (posted_in s p) (posted-stays s p)

begins-keeps : (o : Options) (items : List Item) (b : Objective) → Keeps (begins (searching o items) b)
begins-keeps o items b s =
    let read : Result (Known Sum) Refusal = read_operand (operand_of (value (bindings s) b.expression)) (nothing_made (next s)) in operand-keeps s read (finished (next s) read)

relation-keeps : (s : State) (p : Result Posting Refusal) → EachAnswer (RootsStay s) (relation_trace s p)
unfolding EachAnswer
relation-keeps s (Err r) = tt
relation-keeps s (Ok p) = (posted-stays s p, tt)

betters-keep : (o : Options) (items : List Item) (b : Objective) (v : ℤ) → Keeps (betters (searching o items) b v)
betters-keep o items b v s =
    let posting : Result Posting Refusal = posting_in s (comp (better_sign b.greatest) (tree b.expression (tree (int v) no_trees))) in
    followed-by s (relation_trace s posting) (settled s) (relation-keeps s posting) (λ r. settling-stays r s r (roots-stay-itself r))

confined-keeps : (o : Options) (items : List Item) (l : Level) → LevelKeepsRoots l → Keeps (λ s. labelled_in o items l (confined s items))
confined-keeps o items l h s = from-there s (confined s items) (labelled_in o items l (confined s items)) (roots-by s (confined s items) (confined_keeps_followed s items)) (level-keeps o items l h (confined s items))

round-keeps : (o : Options) (items : List Item) (l : Level) → LevelKeepsRoots l → (s : State) (t : Trace State) → EachAnswer (RootsStay s) t → EachAnswer (RootsStay s) (round_in o items l t)
round-keeps o items l h s t each =
    followed-by s (then t (calls_at l).drained) (λ r. labelled_in (plain o) items l (confined r items))
    (followed-by s t (calls_at l).drained each (calls-keep-roots l h).drained) (confined-keeps (plain o) items l h)

weighed-keeps : (b : Objective) (s q : State) (o : Option ℤ) (f : ℤ → Trace State) → ((v : ℤ) → EachAnswer (RootsStay s) (f v)) → EachAnswer (RootsStay s) (weighed b q o f)
unfolding EachAnswer
weighed-keeps b s q None f each = tt
weighed-keeps b s q (Some v) f each = each v

-- so many later rounds, where the answer that was found last keeps all
bettered-keeps : (o : Options) (items : List Item) (b : Objective) (l : Level) → LevelKeepsRoots l → (s : State) (n : ℕ) (r : State) → RootsStay s r → (v : ℤ) →
    EachAnswer (RootsStay s) (bettered_in o items b l s n r v)
unfolding bettered_in EachAnswer
bettered-keeps o items b l h s zero r found v = (found, tt)
bettered-keeps o items b l h s (suc n) r found v =
    each-chosen (RootsStay s) (RootsStay s) (round_in o items l (betters (searching o items) b v s)) (λ q. weighed b q (worth (searching o items) b q) (bettered_in o items b l s n q)) (one r)
    (round-keeps o items l h s (betters (searching o items) b v s) (betters-keep o items b v s))
    (λ q stays. weighed-keeps b s q (worth (searching o items) b q) (bettered_in o items b l s n q) (bettered-keeps o items b l h s n q stays)) (found, tt)

sought-keeps : (o : Options) (items : List Item) (b : Objective) (l : Level) → LevelKeepsRoots l → Keeps (sought_in o items b l)
unfolding EachAnswer
sought-keeps o items b l h s =
    let later : State → ℤ → Trace State = λ q v. bettered_in o items b l s (count_better b.greatest v) q v in
    each-chosen (RootsStay s) (RootsStay s) (round_in o items l (begins (searching o items) b s)) (λ q. weighed b q (worth (searching o items) b q) (later q)) done
    (round-keeps o items l h s (begins (searching o items) b s) (begins-keeps o items b s))
    (λ q stays. weighed-keeps b s q (worth (searching o items) b q) (later q) (λ v. bettered-keeps o items b l h s (count_better b.greatest v) q stays v)) tt

-- ---- `solve`

for-keeps : (objective : Option Objective) (o : Options) (items : List Item) (l : Level) → LevelKeepsRoots l → Keeps (solved_for objective o items l)
for-keeps None o items l h s = confined-keeps o items l h s
for-keeps (Some b) o items l h s = sought-keeps o items b l h s

asked-keeps : (l : Level) → LevelKeepsRoots l → (s : State) (a : Asked) → EachAnswer (RootsStay s) (solve_trace l s a)
unfolding EachAnswer
asked-keeps l h s (labels o items) = for-keeps o.objective o items l h s
asked-keeps l h s (raises ball) = tt

pub solve-keeps : (l : Level) → LevelKeepsRoots l → (name : List ℕ) (ts : Trees) (s : State) → EachAnswer (RootsStay s) (solve_or_unknown l name ts s)
unfolding EachAnswer
solve-keeps l h name ts s = go (solve_asked name ts s)
  where
    go : (o : Option Asked) → EachAnswer (RootsStay s) (unwrap_or (option_map (solve_trace l s) o) (unknown_name name (tree_count ts)))
    go None = tt
    go (Some a) = asked-keeps l h s a
