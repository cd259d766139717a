-- Labelling keeps calm states: what an alternative leaves is settled, and it goes on from that. So does a search, in which each round settles what it posts.
use Rattle.std.proofs.Common.{◌≡◌, ℕ, zero, suc, ℤ, Bool, true, false, cond, List, [], ◌∷◌, map, refl, ap, subst}
use Rattle.std.specs.Prelude.{nat_lt, Option, Some, None, option_map, unwrap_or, Result, Ok, Err, codes, ⊤}
use Rattle.std.specs.Str.{bytes_eq}
use Rattle.pi_terms.specs.Tree.{Tree, var, int, atom, comp, Trees, no_trees, tree, tree_count, cells, most_cells}
use Rattle.pi_terms.specs.ListNames.{nil}
use Rattle.pi_constraints.specs.declared.constraint.Item.{Item}
use Rattle.pi_constraints.specs.State.{State, bindings, next, followed, SpeaksBelow}
use Rattle.pi_constraints.specs.Value.{value}
use Rattle.pi_constraints.proofs.FollowLemmas.{followed_below}
use Rattle.pi_constraints.proofs.StateLemmas.{bound_below}
use Rattle.pi_constraints.proofs.KeepsLemmas.{TreesBelow, BindingsBelow, no-trees-below, trees-below, first-below, comp-below, args-below, int-below, atom-below}
use Rattle.pi_effects.specs.Items.{list_items}
use Rattle.pi_prop_spec.specs.Steps.{Refusal}
use Rattle.pi_prop_spec.specs.Postings.{Posting, posting_in}
use Rattle.pi_traces.specs.Trace.{Trace, End, end, done, one, then}
use Rattle.pi_traces.proofs.AnswerLemmas.{EachAnswer, each-map, each-one, each-alt, each-then, each-chosen}
use Rattle.pi_settling.specs.Calm.{IsCalm}
use Rattle.pi_settling.specs.Options.{VariableWord, ValueWord, Objective, Options, Word, picks, tries, seeks, named_word, word_of, Chosen, set_variable, set_value, set_objective, with_word, ReadOptions, options, bad_option, read_on, words_read, read_options}
use Rattle.pi_settling.specs.Asked.{Flat, flat, no_item, flat_items, Asked, labels, raises, with_items, with_options, with_words, asked}
use Rattle.pi_settling.specs.SolveCalls.{solve_calls, solve_asked}
use Rattle.pi_settling.specs.Reading.{Operand, reads, refuses}
use Rattle.pi_settling.specs.Read.{operand_in, relation_trace, relation_in}
use Rattle.pi_settling.specs.Posted.{posted_in, effect_of_posting}
use Rattle.pi_settling.specs.Rounds.{operand_posted, begins, better_sign, betters, worth, weighed, count_better}
use Rattle.pi_settling.proofs.CalmPosted.{IsLeft, posted_may_settle, operand_may_settle}
use Rattle.pi_settling.specs.Confined.{confined}
use Rattle.pi_settling.specs.Choices.{Pending, pending, picked, Alternative, alternatives, left_by, narrowed_to}
use Rattle.pi_settling.specs.Label.{Lower, tried, one_tried, all_tried, labelled_by}
use Rattle.pi_settling.proofs.LabelKeeps.{HasItsDomain, MayHave, all-have, picked-has}
use Rattle.pi_meaning.specs.Shared.Follows.{Follows}
use Rattle.pi_meaning.specs.Shared.Level.{Level, lowest, over, calls_at}
use Rattle.pi_meaning.specs.Shared.Settle.{settled}
use Rattle.pi_meaning.specs.Shared.Calls.{unknown_name}
use Rattle.pi_meaning.specs.Shared.Solve.{labelled_in, lower_in, plain, searching, round_in, bettered_in, sought_in, solved_for, solve_trace}
use Rattle.pi_meaning.specs.CoreMeaning.Instances.{solve_or_unknown}
use Rattle.pi_meaning.proofs.Shared.FollowLemmas.{follows-confined, follows-posting}
use Rattle.pi_meaning.proofs.CoreMeaning.AnswersBelow.{LinesKeep, ◌&◌, lines-keep}
use Rattle.pi_meaning.proofs.CoreMeaning.CalmStates.{CalmLater, calm-itself, calm-further, settled-calm, onward}
use Rattle.pi_meaning.proofs.CoreMeaning.ConfinedCalm.{confined-calm}
use Rattle.pi_meaning.proofs.CoreMeaning.ItemsBelow.{ItemsBelow, SomeItemsBelow, list-items-below}
use Rattle.pi_meaning.proofs.CoreMeaning.KeepsGoals.{LevelKeeps, calls-keep}
use Rattle.pi_meaning.proofs.CoreMeaning.LeftLemmas.{Left, left-after}
use Rattle.pi_meaning.proofs.CoreMeaning.NarrowedLeft.{left-narrowed}

pub end-keeps : {A : Type 0} (P : A → Type 0) (e : End) → EachAnswer P (end e)
unfolding EachAnswer
end-keeps P e = tt

-- what is done at the lower level, where there is one, keeps calm states
record LowerKeeps (l : Lower) : Type 0 where
  drains : (s : State) → IsCalm s → EachAnswer (CalmLater s) (l.drains s)
  labels : (s : State) → IsCalm s → EachAnswer (CalmLater s) (l.labels s)

abbrev MayKeep : Option Lower → Type 0
MayKeep None = Unit {0}
MayKeep (Some l) = LowerKeeps l

tried-keeps : (l : Lower) → LowerKeeps l → (s : State) (p : Pending) (a : Alternative) → IsCalm s → HasItsDomain s p → (o : Option State) → narrowed_to s p.variable (left_by a p.domain) ≡ o →
    EachAnswer (CalmLater s) (tried settled l s o)
tried-keeps l keeps s p a calm has None same = end-keeps (CalmLater s) _
tried-keeps l keeps s p a calm has (Some r) same =
    onward s (then (settled s r) l.drains) l.labels
    (onward s (settled s r) l.drains (settled-calm s r calm (left-narrowed s r p.variable p.domain a calm has same)) (λ q h. keeps.drains q h.0)) (λ q h. keeps.labels q h.0)

one-keeps : (l : Option Lower) → MayKeep l → (s : State) (p : Pending) (a : Alternative) → IsCalm s → HasItsDomain s p → EachAnswer (CalmLater s) (one_tried settled l s (narrowed_to s p.variable (left_by a p.domain)))
unfolding EachAnswer
one-keeps None keeps s p a calm has = tt
one-keeps (Some l) keeps s p a calm has = tried-keeps l keeps s p a calm has (narrowed_to s p.variable (left_by a p.domain)) refl

all-keep : (l : Option Lower) → MayKeep l → (s : State) (p : Pending) → IsCalm s → HasItsDomain s p → (alts : List Alternative) → EachAnswer (CalmLater s) (all_tried settled l s p alts)
unfolding all_tried
all-keep l keeps s p calm has [] = end-keeps (CalmLater s) _
all-keep l keeps s p calm has (a ∷ rest) =
    each-alt (CalmLater s) (one_tried settled l s (narrowed_to s p.variable (left_by a p.domain))) (all_tried settled l s p rest) (one-keeps l keeps s p a calm has) (all-keep l keeps s p calm has rest)

picked-keeps : (l : Option Lower) → MayKeep l → (o : Options) (s : State) → IsCalm s → (p : Option Pending) → MayHave s p → EachAnswer (CalmLater s) (labelled_by settled l o s p)
picked-keeps l keeps o s calm None has = each-one (CalmLater s) s (calm-itself s calm)
picked-keeps l keeps o s calm (Some p) has = all-keep l keeps s p calm has (alternatives o.value p.domain)

in-keeps : (o : Options) (items : List Item) (l : Level) → LevelKeeps l → (s : State) → IsCalm s → EachAnswer (CalmLater s) (labelled_in o items l s)
unfolding labelled_in
in-keeps o items (lowest c) k s calm = picked-keeps None tt o s calm (picked (pending s items) o.variable) (picked-has s (pending s items) o.variable (all-have s items))
in-keeps o items (over c l) k s calm =
    picked-keeps (lower_in o items (over c l)) (record { drains = λ r h. (calls-keep l k.1).drained r h; labels = λ r h. in-keeps o items l k.1 r h }) o s calm
    (picked (pending s items) o.variable) (picked-has s (pending s items) o.variable (all-have s items))

-- from where its variables are confined
begun-keeps : (o : Options) (items : List Item) (l : Level) → LevelKeeps l → (s : State) → IsCalm s → EachAnswer (CalmLater s) (labelled_in o items l (confined s items))
begun-keeps o items l k s calm =
    let c : State = confined s items in
    each-map (CalmLater c) (CalmLater s) (λ r h. calm-further s c r (follows-confined s items).count h) (labelled_in o items l c) (in-keeps o items l k c (confined-calm s items calm))

-- ---- with an objective

-- what is posted of an expression that speaks of variables that were made
module _ (s : State) (calm : IsCalm s) (b : Objective) (below : SpeaksBelow (next s) b.expression) where
  relation-left : (f : List ℕ) (t : Tree) → SpeaksBelow (next s) (comp f (tree b.expression (tree t no_trees))) → (o : Result Posting Refusal) → posting_in s (comp f (tree b.expression (tree t no_trees))) ≡ o →
      EachAnswer (Left s) (relation_trace s o)
  relation-left f t all (Err r) e = end-keeps (Left s) _
  relation-left f t all (Ok p) e =
      each-one (Left s) (posted_in s p)
      (left-after s (posted_in s p) (posted_may_settle s (posted_in s p) (comp f (tree b.expression (tree t no_trees))) calm.state calm.settles all (ap (effect_of_posting s) e)) (follows-posting s p))

  betters-keep : (o : Options) (items : List Item) (v : ℤ) → EachAnswer (CalmLater s) (betters (searching o items) b v s)
  betters-keep o items v =
      let f : List ℕ = better_sign b.greatest in
      let goal : Tree = comp f (tree b.expression (tree (int v) no_trees)) in
      let all : SpeaksBelow (next s) goal =
      comp-below (next s) f (tree b.expression (tree (int v) no_trees))
      (trees-below (next s) b.expression (tree (int v) no_trees) below (trees-below (next s) (int v) no_trees (int-below (next s) v) (no-trees-below (next s)))) in
      each-then (Left s) (CalmLater s) (relation_in f b.expression (int v) s) (settled s) (relation-left f (int v) all (posting_in s goal) refl) (λ r h. settled-calm s r calm h)

  operand-keeps : (x : Operand) → operand_in b.expression s ≡ x → EachAnswer (CalmLater s) (operand_posted settled s x)
  operand-keeps (refuses ball) e = end-keeps (CalmLater s) _
  operand-keeps (reads r sum) e =
      let left : IsLeft s r = operand_may_settle s calm.state calm.settles b.expression below r sum e in
      settled-calm s r calm (left-after s r left.2 (subst (Follows s) left.1 (follows-posting s left.0)))

  begins-keep : (o : Options) (items : List Item) → EachAnswer (CalmLater s) (begins (searching o items) b s)
  begins-keep o items = operand-keeps (operand_in b.expression s) refl

  weighed-keeps : (q : State) (w : Option ℤ) (f : ℤ → Trace State) → ((v : ℤ) → EachAnswer (CalmLater s) (f v)) → EachAnswer (CalmLater s) (weighed b q w f)
  weighed-keeps q None f each = end-keeps (CalmLater s) _
  weighed-keeps q (Some v) f each = each v

  -- a round, by what its posting leaves
  round-keeps : (o : Options) (items : List Item) (l : Level) → LevelKeeps l → (t : Trace State) → EachAnswer (CalmLater s) t → EachAnswer (CalmLater s) (round_in o items l t)
  round-keeps o items l k t a =
      onward s (then t (calls_at l).drained) (λ r. labelled_in (plain o) items l (confined r items))
      (onward s t (calls_at l).drained a (λ r h. (calls-keep l k).drained r h.0)) (λ r h. begun-keeps (plain o) items l k r h.0)

  bettered-keeps : (o : Options) (items : List Item) (l : Level) → LevelKeeps l → (n : ℕ) (r : State) (v : ℤ) → CalmLater s r → EachAnswer (CalmLater s) (bettered_in o items b l s n r v)
  unfolding bettered_in
  bettered-keeps o items l k zero r v h = each-one (CalmLater s) r h
  bettered-keeps o items l k (suc n) r v h =
      let better : Trace State = betters (searching o items) b v s in
      each-chosen (CalmLater s) (CalmLater s) (round_in o items l better) (λ q. weighed b q (worth (searching o items) b q) (bettered_in o items b l s n q)) (one r)
      (round-keeps o items l k better (betters-keep o items v))
      (λ q g. weighed-keeps q (worth (searching o items) b q) (bettered_in o items b l s n q) (λ w. bettered-keeps o items l k n q w g)) (each-one (CalmLater s) r h)

  sought-keeps : (o : Options) (items : List Item) (l : Level) → LevelKeeps l → EachAnswer (CalmLater s) (sought_in o items b l s)
  sought-keeps o items l k =
      let first : Trace State = begins (searching o items) b s in
      let later : State → ℤ → Trace State = λ q v. bettered_in o items b l s (count_better b.greatest v) q v in
      each-chosen (CalmLater s) (CalmLater s) (round_in o items l first) (λ q. weighed b q (worth (searching o items) b q) (later q)) done
      (round-keeps o items l k first (begins-keep o items))
      (λ q g. weighed-keeps q (worth (searching o items) b q) (later q) (λ v. bettered-keeps o items l k (count_better b.greatest v) q v g)) (end-keeps (CalmLater s) _)

-- ---- the expression speaks of variables that were made, where the options do

abbrev SomeObjectiveBelow : ℕ → Option Objective → Type 0
SomeObjectiveBelow n None = ⊤
SomeObjectiveBelow n (Some b) = SpeaksBelow n b.expression

abbrev WordBelow : ℕ → Option Word → Type 0
WordBelow n None = ⊤
WordBelow n (Some (picks w)) = ⊤
WordBelow n (Some (tries w)) = ⊤
WordBelow n (Some (seeks b)) = SpeaksBelow n b.expression

either-word : (n : ℕ) (c : Bool) (w x : Option Word) → WordBelow n w → WordBelow n x → WordBelow n (cond c w x)
either-word n true w x a b = a
either-word n false w x a b = b

named-below : (n : ℕ) (name : List ℕ) → WordBelow n (named_word name)
named-below n name =
    either-word n (bytes_eq name (codes "forward")) _ _ tt
    (either-word n (bytes_eq name (codes "backward")) _ _ tt
    (either-word n (bytes_eq name (codes "ff")) _ _ tt
    (either-word n (bytes_eq name (codes "up")) _ _ tt
    (either-word n (bytes_eq name (codes "down")) _ _ tt
    (either-word n (bytes_eq name (codes "split")) _ _ tt (either-word n (bytes_eq name (codes "reverse_split")) _ None tt tt))))))

word-below : (n : ℕ) (t : Tree) → SpeaksBelow n t → WordBelow n (word_of t)
word-below n (var m) h = tt
word-below n (int i) h = tt
word-below n (atom name) h = named-below n name
word-below n (comp name no_trees) h = tt
word-below n (comp name (tree t no_trees)) h =
    let this : SpeaksBelow n t = first-below n t no_trees (args-below n name (tree t no_trees) h) in
    either-word n (bytes_eq name (codes "min")) _ _ this (either-word n (bytes_eq name (codes "max")) _ None this tt)
word-below n (comp name (tree t (tree u ts))) h = tt

abbrev ChosenBelow : ℕ → Option Chosen → Type 0
ChosenBelow n None = ⊤
ChosenBelow n (Some c) = SomeObjectiveBelow n c.objective

variable-set : (n : ℕ) (c : Chosen) (o : Option VariableWord) (w : VariableWord) → SomeObjectiveBelow n c.objective → ChosenBelow n (set_variable c o w)
variable-set n c None w h = h
variable-set n c (Some x) w h = tt

value-set : (n : ℕ) (c : Chosen) (o : Option ValueWord) (w : ValueWord) → SomeObjectiveBelow n c.objective → ChosenBelow n (set_value c o w)
value-set n c None w h = h
value-set n c (Some x) w h = tt

objective-set : (n : ℕ) (c : Chosen) (o : Option Objective) (b : Objective) → SpeaksBelow n b.expression → ChosenBelow n (set_objective c o b)
objective-set n c None b h = h
objective-set n c (Some x) b h = tt

more-below : (n : ℕ) (c : Chosen) (w : Option Word) → SomeObjectiveBelow n c.objective → WordBelow n w → ChosenBelow n (with_word c w)
more-below n c None h a = tt
more-below n c (Some (picks w)) h a = variable-set n c c.variable w h
more-below n c (Some (tries w)) h a = value-set n c c.value w h
more-below n c (Some (seeks b)) h a = objective-set n c c.objective b a

abbrev ReadBelow : ℕ → ReadOptions → Type 0
ReadBelow n (options o) = SomeObjectiveBelow n o.objective
ReadBelow n (bad_option t) = ⊤

read-on : (n : ℕ) (t : Tree) (f : Chosen → ReadOptions) → ((c : Chosen) → SomeObjectiveBelow n c.objective → ReadBelow n (f c)) → (o : Option Chosen) → ChosenBelow n o → ReadBelow n (read_on t f o)
read-on n t f each None a = tt
read-on n t f each (Some c) a = each c a

read-below : (n : ℕ) (ts : List Tree) (c : Chosen) → ItemsBelow n ts → SomeObjectiveBelow n c.objective → ReadBelow n (words_read ts c)
unfolding words_read
read-below n [] c all h = h
read-below n (t ∷ ts) c all h =
    read-on n t (words_read ts) (λ d a. read-below n ts d all.1 a) (with_word c (word_of t)) (more-below n c (word_of t) h (word-below n t all.0))

abbrev AskedBelow : ℕ → Asked → Type 0
AskedBelow n (labels o items) = SomeObjectiveBelow n o.objective
AskedBelow n (raises ball) = ⊤

with-items-below : (n : ℕ) (s : State) (o : Options) (f : Flat) → SomeObjectiveBelow n o.objective → AskedBelow n (with_items s o f)
with-items-below n s o (flat items) h = h
with-items-below n s o (no_item t) h = tt

options-below : (n : ℕ) (s : State) (vars : Tree) (r : ReadOptions) → ReadBelow n r → AskedBelow n (with_options s vars r)
options-below n s vars (options o) h = with-items-below n s o (flat_items (bindings s) vars) h
options-below n s vars (bad_option t) h = tt

followed-all : (n : ℕ) (s : State) → BindingsBelow n (bindings s) → (ts : List Tree) → ItemsBelow n ts → ItemsBelow n (map (followed (bindings s)) ts)
followed-all n s all [] h = tt
followed-all n s all (t ∷ ts) h = (followed_below n (bindings s) t all h.0, followed-all n s all ts h.1)

words-below : (n : ℕ) (s : State) → BindingsBelow n (bindings s) → (words vars : Tree) (o : Option (List Tree)) → SomeItemsBelow n o → AskedBelow n (with_words s words vars o)
words-below n s all words vars None h = tt
words-below n s all words vars (Some ts) h =
    let us : List Tree = map (followed (bindings s)) ts in
    options-below n s vars (read_options us) (read-below n us (record { variable = None; value = None; objective = None }) (followed-all n s all ts h) tt)

asked-by : (n : ℕ) (large : Bool) (ball : Tree) (a : Asked) → AskedBelow n a → AskedBelow n (cond large (raises ball) a)
asked-by n true ball a h = tt
asked-by n false ball a h = h

asked-below : (s : State) → IsCalm s → (words vars : Tree) → SpeaksBelow (next s) words → AskedBelow (next s) (asked s words vars)
asked-below s calm words vars below =
    let all : BindingsBelow (next s) (bindings s) = λ m u held. bound_below s m u calm.state held in
    asked-by (next s) (nat_lt most_cells (cells (value (bindings s) words))) _ (with_words s words vars (list_items (bindings s) words))
    (words-below (next s) s all words vars (list_items (bindings s) words) (list-items-below (next s) (bindings s) all words below))

calls-ask : (s : State) → IsCalm s → LinesKeep (AskedBelow (next s)) s solve_calls
unfolding solve_calls
calls-ask s calm = (λ t a. asked-below s calm (atom nil) t (atom-below (next s) nil)) & (λ t u a b. asked-below s calm t u a) & tt

-- ---- the call

for-keeps : (w : Option Objective) (o : Options) (items : List Item) (l : Level) → LevelKeeps l → (s : State) → IsCalm s → SomeObjectiveBelow (next s) w → EachAnswer (CalmLater s) (solved_for w o items l s)
for-keeps None o items l k s calm below = begun-keeps o items l k s calm
for-keeps (Some b) o items l k s calm below = sought-keeps s calm b below o items l k

asked-keeps : (l : Level) → LevelKeeps l → (s : State) → IsCalm s → (a : Asked) → AskedBelow (next s) a → EachAnswer (CalmLater s) (solve_trace l s a)
asked-keeps l k s calm (labels o items) below = for-keeps o.objective o items l k s calm below
asked-keeps l k s calm (raises ball) below = end-keeps (CalmLater s) _

pub solve-keeps : (l : Level) → LevelKeeps l → (name : List ℕ) (ts : Trees) (s : State) → IsCalm s → TreesBelow (next s) ts → EachAnswer (CalmLater s) (solve_or_unknown l name ts s)
solve-keeps l k name ts s calm below = by (solve_asked name ts s) refl
  where
    by : (o : Option Asked) → solve_asked name ts s ≡ o → EachAnswer (CalmLater s) (unwrap_or (option_map (solve_trace l s) o) (unknown_name name (tree_count ts)))
    by None e = end-keeps (CalmLater s) _
    by (Some a) e = asked-keeps l k s calm a (lines-keep (AskedBelow (next s)) solve_calls name ts s a (calls-ask s calm) below e)
