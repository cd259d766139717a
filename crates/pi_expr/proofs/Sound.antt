-- What the machine reads is an expression of the grammar: the open phrases were begun as the grammar says.
use Rattle.std.proofs.Common.{◌≡◌, ℕ, ◌<◌, ◌≤◌, Bool, true, false, ◌&&◌, not, List, [], ◌∷◌, codes, refl, sym, ap, subst, ◌∙◌, arith, nat_le, ◌==◌, if◌then◌else◌}
use Rattle.std.proofs.lemmas.Bool.Decides.{nat_tests}
use Rattle.pi_syntax.specs.ExpTree.{ExpTree, ExpTrees, ExpBranches}
use Rattle.pi_syntax.specs.Terminals as t
use Rattle.pi_syntax.specs.Terminals.{Line, equivalence, implication, constraint_or, constraint_xor, constraint_and, bit_or, bit_xor, bit_and, shift, sum, product, Terminal, terminal}
use Rattle.pi_syntax.specs.Ranks.{rank, reach_of}
use Rattle.pi_syntax.specs.Grammar.{Phrase, exp, branch, conj, unit, line, negation, relating, range, unary, pow, post, prim, operand as operand_of, Joins, call_one, call_two, indexed, takes_index, is_atom, Reads, branches, no_arrow, signed_goal, joined, negative, with_plus, with_complement, postfixes, Branches, last_branch, Units, Joined, no_more, join, Postfixes, no_postfix, Choices}
use Rattle.pi_syntax.proofs.GrammarLemmas.{line_rank-below, line_rank-above}
use Rattle.pi_expr_phrases.specs.Machine as m
use Rattle.pi_expr_phrases.specs.Machine.{with_exp, with_branch, number, headed, tail, Closing, of_call, of_quote, of_method, of_list, of_array, of_collect, of_foreach, Frame, State, operand, value, Outcome, next, done, fail, wants, wanted, enter, continue, resume, resume_last, finish, when, choose, closed, closer, close_items, collect_by, arguments, enter_term, enter_sign, enter_dot, join_line, step, begin, Runs, stop, go}
use Rattle.pi_expr.proofs.Steps.{plus_exps}
use Rattle.pi_expr.proofs.Complete.{plus_branches}
use Rattle.pi_expr.proofs.Lift.{lift}

-- terminals by number

abbrev pub of_number : ℕ → Terminal
of_number n =
    if n == 1 then t.plus else if n == 2 then t.minus else if n == 3 then t.dots else if n == 4 then t.power
    else if n == 5 then t.complement else if n == 6 then t.constraint_not else if n == 7 then t.open_paren
    else if n == 8 then t.close_paren else if n == 9 then t.open_bracket else if n == 10 then t.close_bracket
    else if n == 11 then t.open_brace else if n == 12 then t.close_brace else if n == 13 then t.comma
    else if n == 14 then t.semicolon else if n == 15 then t.arrow else if n == 16 then t.bar else if n == 17 then t.colon
    else if n == 18 then t.dot else if n == 19 then t.dollar else if n == 20 then t.at else if n == 21 then t.word_if
    else if n == 22 then t.word_then else if n == 23 then t.word_elseif else if n == 24 then t.word_else
    else if n == 25 then t.word_end else if n == 26 then t.word_foreach else if n == 27 then t.word_while
    else if n == 28 then t.word_do else t.foreign

pub of_number-number : (u : Terminal) → 0 < number u → of_number (number u) ≡ u
of_number-number (t.variable name) h = absurd (omega arith)
of_number-number (t.atom name) h = absurd (omega arith)
of_number-number (t.integer n) h = absurd (omega arith)
of_number-number (t.text meaning) h = absurd (omega arith)
of_number-number (t.joint l name) h = absurd (omega arith)
of_number-number (t.relation name) h = absurd (omega arith)
of_number-number (t.goal_sign name) h = absurd (omega arith)
of_number-number _ h = refl

pub same_number : (u v : Terminal) → 0 < number v → number u ≡ number v → u ≡ v
same_number u v h p = sym (of_number-number u (omega arith)) ∙ (ap of_number p ∙ of_number-number v h)

pub headed_is : (mark : Terminal) (ts : List Terminal) → 0 < number mark → headed mark ts ≡ true → ts ≡ mark ∷ tail ts
headed_is mark [] h p = absurd (cc)
headed_is mark (u ∷ ts) h p = ap (λ (x : Terminal). x ∷ ts) (same_number u mark h (grind (arith, nat_tests)))

-- what is open

pub data Signs : Phrase → List ℕ → Terminal → Type 0 where
  goal : {name : List ℕ} → Signs unit name (t.goal_sign name)
  inverse : Signs negation (codes "#~") t.constraint_not
  plus : Signs unary (codes "+") t.plus
  complement : Signs unary (codes "~") t.complement

-- a Post so far: with the postfixes that follow it is one
abbrev pub PostSo : Bool → List Terminal → ExpTree → List Terminal → Type 0
PostSo b before e rest = (f : ExpTree) (end : List Terminal) → Postfixes b e rest f end → Reads post before f end

-- units, branches and choices so far: those that follow are behind them

abbrev pub UnitsSo : List Terminal → ExpTrees → List Terminal → Type 0
UnitsSo before es here = (us : ExpTrees) (rest : List Terminal) → Units here us rest → Units before (plus_exps es us) rest

abbrev pub BranchesSo : List Terminal → ExpTrees → List Terminal → Type 0
BranchesSo before es here = (bs : ExpTrees) (rest : List Terminal) → Branches here bs rest → Branches before (plus_exps es bs) rest

abbrev pub ChoicesSo : List Terminal → ExpBranches → List Terminal → Type 0
ChoicesSo before bs here =
    (cs : ExpBranches) (rest : List Terminal) → Choices here cs rest → Choices before (plus_branches bs cs) rest

-- what stands before the first unit
abbrev pub Begins : Closing → List Terminal → List Terminal → Type 0
Begins (of_call name) before first = before ≡ t.atom name ∷ t.open_paren ∷ first
Begins (of_quote name) before first = before ≡ t.dollar ∷ t.atom name ∷ t.open_paren ∷ first
Begins (of_method name e) before first =
    (b : Bool) × PostSo b before e (t.dot ∷ t.atom name ∷ t.open_paren ∷ first) × (is_atom e ≡ false)
Begins of_list before first = before ≡ t.open_bracket ∷ first
Begins of_array before first = before ≡ t.open_brace ∷ first
Begins (of_collect false e) before first =
    (ts : List Terminal) × (before ≡ t.open_bracket ∷ ts) × Reads unit ts e (t.colon ∷ first)
Begins (of_collect true e) before first =
    (ts : List Terminal) × (before ≡ t.open_brace ∷ ts) × Reads unit ts e (t.colon ∷ first)
Begins of_foreach before first = before ≡ t.word_foreach ∷ t.open_paren ∷ first

-- the open phrase was begun at the first place, and its operand begins at the second
abbrev pub Opens : Frame → List Terminal → List Terminal → Type 0
Opens (m.signed k name) before here = (u : Terminal) × Signs k name u × (before ≡ u ∷ here)
Opens (m.minus ts) before here = (before ≡ t.minus ∷ here) × (ts ≡ here)
Opens (m.joining l name a) before here = (u : Terminal) × Joins l u name × Reads (line l) before a (u ∷ here)
Opens (m.relation name a) before here = Reads range before a (t.relation name ∷ here)
Opens (m.range_from a) before here = Reads (line bit_or) before a (t.dots ∷ here)
Opens (m.range_step a b) before here =
    (mid : List Terminal) × Reads (line bit_or) before a (t.dots ∷ mid) × Reads (line bit_or) mid b (t.dots ∷ here)
Opens (m.power a) before here = Reads post before a (t.power ∷ here)
Opens (m.conjuncts es) before here = UnitsSo before es here
Opens (m.branches es) before here = BranchesSo before es here
Opens (m.arrow c) before here = Reads conj before c (t.arrow ∷ here)
Opens (m.pattern name) before here = before ≡ t.variable name ∷ t.at ∷ here
Opens (m.parens false) before here = before ≡ t.open_paren ∷ here
Opens (m.parens true) before here = before ≡ t.dollar ∷ t.open_paren ∷ here
Opens (m.items c es) before here = (first : List Terminal) × Begins c before first × UnitsSo first es here
Opens (m.list_tail es) before here = (ts : List Terminal) × (before ≡ t.open_bracket ∷ ts) × Units ts es (t.bar ∷ here)
Opens (m.indexing a) before here =
    (is : ExpTrees) (rest : List Terminal) → Units here is (t.close_bracket ∷ rest) → PostSo true before (indexed a is) rest
Opens (m.foreach_body es) before here =
    (ts : List Terminal) × (before ≡ t.word_foreach ∷ t.open_paren ∷ ts) × Units ts es (t.close_paren ∷ here)
Opens m.while_test before here = before ≡ t.word_while ∷ t.open_paren ∷ here
Opens (m.while_body c) before here =
    (ts : List Terminal) × (before ≡ t.word_while ∷ t.open_paren ∷ ts) × Reads exp ts c (t.close_paren ∷ here)
Opens m.do_body before here = before ≡ t.word_do ∷ here
Opens (m.do_test e) before here =
    (ts : List Terminal) × (before ≡ t.word_do ∷ ts) × Reads exp ts e (t.word_while ∷ t.open_paren ∷ here)
Opens (m.if_test bs) before here = (ts : List Terminal) × (before ≡ t.word_if ∷ ts) × ChoicesSo ts bs here
Opens (m.if_body bs c) before here =
    (ts mid : List Terminal) × (before ≡ t.word_if ∷ ts) × ChoicesSo ts bs mid × Reads exp mid c (t.word_then ∷ here)
Opens (m.if_last bs) before here = (ts : List Terminal) × (before ≡ t.word_if ∷ ts) × Choices ts bs (t.word_else ∷ here)

-- the phrase that units in brackets are
abbrev pub gives_units : Closing → Phrase
gives_units (of_method name e) = post
gives_units _ = prim

-- the phrase that it is with its operand
abbrev pub gives : Frame → Phrase
gives (m.signed k name) = k
gives (m.minus ts) = unary
gives (m.joining l name a) = line l
gives (m.relation name a) = relating
gives (m.range_from a) = range
gives (m.range_step a b) = range
gives (m.power a) = pow
gives (m.conjuncts es) = conj
gives (m.branches es) = exp
gives (m.arrow c) = branch
gives (m.items c es) = gives_units c
gives (m.indexing a) = post
gives _ = prim

-- all that is open, from the start to this place
abbrev pub Stacked : List Terminal → List Frame → List Terminal → Type 0
Stacked start [] here = start ≡ here
Stacked start (f ∷ fs) here =
    (before : List Terminal) × Stacked start fs before × Opens f before here × (wanted fs ≤ rank (gives f))

-- a phrase that was read
abbrev pub Holds : Phrase → Bool → List Terminal → ExpTree → List Terminal → Type 0
Holds prim b before e rest = Reads prim before e rest × (b ≡ takes_index before)
Holds post b before e rest = PostSo b before e rest
Holds branch b before e rest = Reads branch before e rest × (headed t.semicolon rest ≡ true)
Holds k b before e rest = Reads k before e rest

pub record Held (k : Phrase) (b : Bool) (before : List Terminal) (e : ExpTree) (rest : List Terminal) : Type 0 where
  pub is : Holds k b before e rest

abbrev pub Good : List Terminal → State → Type 0
Good start (operand fs ts) = Stacked start fs ts
Good start (value fs k b e ts) =
    (before : List Terminal) × Stacked start fs before × Held k b before e ts × (wanted fs ≤ rank k)

abbrev pub GoodOutcome : List Terminal → Outcome → Type 0
GoodOutcome start (next s) = Good start s
GoodOutcome start (done e) = Reads exp start e []
GoodOutcome start fail = Unit {0}

-- ways to a good outcome

pub good_choose : (start : List Terminal) (mark : Terminal) (ts : List Terminal) (f : List Terminal → Outcome) (o : Outcome) → 0 < number mark
    → ((rest : List Terminal) → ts ≡ mark ∷ rest → GoodOutcome start (f rest))
    → (headed mark ts ≡ false → GoodOutcome start o) → GoodOutcome start (choose mark ts f o)
good_choose start mark ts f o h found otherwise = go (headed mark ts) refl
  where
    go : (b : Bool) → headed mark ts ≡ b → GoodOutcome start (if b then f (tail ts) else o)
    go true p = found (tail ts) (headed_is mark ts h p)
    go false p = otherwise p

pub good_when : (start : List Terminal) (b : Bool) (o : Outcome) → (b ≡ true → GoodOutcome start o) → GoodOutcome start (when b o)
good_when start true o f = f refl
good_when start false o f = tt

pub wants_operand : (l : Line) → rank (operand_of l) ≤ 22
wants_operand equivalence = omega arith
wants_operand implication = omega arith
wants_operand constraint_or = omega arith
wants_operand constraint_xor = omega arith
wants_operand constraint_and = omega arith
wants_operand bit_or = omega arith
wants_operand bit_xor = omega arith
wants_operand bit_and = omega arith
wants_operand shift = omega arith
wants_operand sum = omega arith
wants_operand product = omega arith

pub rank_most : (k : Phrase) → rank k ≤ 22
rank_most (line l) = omega (arith, line_rank-below l)
rank_most exp = omega arith
rank_most _ = omega arith

pub wants_most : (f : Frame) → wants f ≤ 22
wants_most (m.signed k name) = rank_most k
wants_most (m.joining l name a) = wants_operand l
wants_most (m.minus ts) = omega arith
wants_most _ = omega arith

pub wanted_most : (fs : List Frame) → wanted fs ≤ 22
wanted_most [] = omega arith
wanted_most (f ∷ fs) = wants_most f

pub nat_le-is : (a b : ℕ) → nat_le a b ≡ true → a ≤ b
nat_le-is a b h = grind (arith, nat_tests)

pub and-left : (a b : Bool) → (a && b) ≡ true → a ≡ true
and-left true b h = refl
and-left false b h = absurd (cc)

pub and-right : (a b : Bool) → (a && b) ≡ true → b ≡ true
and-right true b h = h
and-right false b h = absurd (cc)

pub not-true : (a : Bool) → not a ≡ true → a ≡ false
not-true true h = absurd (cc)
not-true false h = refl

-- what is held is a phrase

pub holds_reads : (k : Phrase) {b : Bool} {before rest : List Terminal} {e : ExpTree} → Held k b before e rest → Reads k before e rest
holds_reads exp h = h.is
holds_reads branch h = h.is.0
holds_reads conj h = h.is
holds_reads unit h = h.is
holds_reads (line l) h = h.is
holds_reads negation h = h.is
holds_reads relating h = h.is
holds_reads range h = h.is
holds_reads unary h = h.is
holds_reads pow h = h.is
holds_reads post {rest = rest} {e = e} h = h.is e rest no_postfix
holds_reads prim h = h.is.0

pub reads_holds : (k : Phrase) {before rest : List Terminal} {e : ExpTree} → rank k < 21 → 2 < rank k → Reads k before e rest
    → Holds k false before e rest
reads_holds exp p q d = d
reads_holds branch p q d = absurd (omega arith)
reads_holds conj p q d = d
reads_holds unit p q d = d
reads_holds (line l) p q d = d
reads_holds negation p q d = d
reads_holds relating p q d = d
reads_holds range p q d = d
reads_holds unary p q d = d
reads_holds pow p q d = d
reads_holds post p q d = absurd (omega arith)
reads_holds prim p q d = absurd (omega arith)

pub holds_at : (k j : Phrase) {b : Bool} {before rest : List Terminal} {e : ExpTree} → 3 ≤ rank k → rank k ≤ rank j → Held j b before e rest
    → Reads k before e rest
holds_at k j h p d = lift k j h p (holds_reads j d)

-- a branch, before a semicolon
pub holds_branch : (k : Phrase) {b : Bool} {before rest : List Terminal} {e : ExpTree} → 2 ≤ rank k → Held k b before e rest
    → Reads branch before e rest
holds_branch branch h d = d.is.0
holds_branch exp h d = absurd (omega arith)
holds_branch (line l) h d = no_arrow (holds_at conj (line l) (omega arith) (omega (arith, line_rank-above l)) d)
holds_branch conj h d = no_arrow d.is
holds_branch unit h d = no_arrow (holds_at conj unit (omega arith) (omega arith) d)
holds_branch negation h d = no_arrow (holds_at conj negation (omega arith) (omega arith) d)
holds_branch relating h d = no_arrow (holds_at conj relating (omega arith) (omega arith) d)
holds_branch range h d = no_arrow (holds_at conj range (omega arith) (omega arith) d)
holds_branch unary h d = no_arrow (holds_at conj unary (omega arith) (omega arith) d)
holds_branch pow h d = no_arrow (holds_at conj pow (omega arith) (omega arith) d)
holds_branch post h d = no_arrow (holds_at conj post (omega arith) (omega arith) d)
holds_branch prim h d = no_arrow (holds_at conj prim (omega arith) (omega arith) d)

-- a conj, where no semicolon follows
pub holds_conj : (k : Phrase) {b : Bool} {before rest : List Terminal} {e : ExpTree} → 2 ≤ rank k → headed t.semicolon rest ≡ false
    → Held k b before e rest → Reads conj before e rest
holds_conj branch h s d = let p = d.is.1 in absurd (cc)
holds_conj exp h s d = absurd (omega arith)
holds_conj (line l) h s d = holds_at conj (line l) (omega arith) (omega (arith, line_rank-above l)) d
holds_conj conj h s d = d.is
holds_conj unit h s d = holds_at conj unit (omega arith) (omega arith) d
holds_conj negation h s d = holds_at conj negation (omega arith) (omega arith) d
holds_conj relating h s d = holds_at conj relating (omega arith) (omega arith) d
holds_conj range h s d = holds_at conj range (omega arith) (omega arith) d
holds_conj unary h s d = holds_at conj unary (omega arith) (omega arith) d
holds_conj pow h s d = holds_at conj pow (omega arith) (omega arith) d
holds_conj post h s d = holds_at conj post (omega arith) (omega arith) d
holds_conj prim h s d = holds_at conj prim (omega arith) (omega arith) d

pub no_semicolon : (ts : List Terminal) → reach_of ts < 1 → headed t.semicolon ts ≡ false
no_semicolon [] h = refl
no_semicolon (t.semicolon ∷ ts) h = absurd (omega arith)
no_semicolon (_ ∷ ts) h = refl

pub holds_exp : (k : Phrase) {b : Bool} {before rest : List Terminal} {e : ExpTree} → reach_of rest < 1 → Held k b before e rest
    → Reads exp before e rest
holds_exp exp h d = d.is
holds_exp branch {rest = rest} h d = branches (last_branch (holds_conj branch (omega arith) (no_semicolon rest h) d))
holds_exp (line l) {rest = rest} h d = branches (last_branch (holds_conj (line l) (omega (arith, line_rank-above l)) (no_semicolon rest h) d))
holds_exp conj {rest = rest} h d = branches (last_branch (holds_conj conj (omega arith) (no_semicolon rest h) d))
holds_exp unit {rest = rest} h d = branches (last_branch (holds_conj unit (omega arith) (no_semicolon rest h) d))
holds_exp negation {rest = rest} h d = branches (last_branch (holds_conj negation (omega arith) (no_semicolon rest h) d))
holds_exp relating {rest = rest} h d = branches (last_branch (holds_conj relating (omega arith) (no_semicolon rest h) d))
holds_exp range {rest = rest} h d = branches (last_branch (holds_conj range (omega arith) (no_semicolon rest h) d))
holds_exp unary {rest = rest} h d = branches (last_branch (holds_conj unary (omega arith) (no_semicolon rest h) d))
holds_exp pow {rest = rest} h d = branches (last_branch (holds_conj pow (omega arith) (no_semicolon rest h) d))
holds_exp post {rest = rest} h d = branches (last_branch (holds_conj post (omega arith) (no_semicolon rest h) d))
holds_exp prim {rest = rest} h d = branches (last_branch (holds_conj prim (omega arith) (no_semicolon rest h) d))

-- a Post so far
pub post_from : (b : Bool) (before rest : List Terminal) (e : ExpTree) → Held prim b before e rest → PostSo b before e rest
post_from b before rest e d f end p = postfixes d.is.0 (subst (λ (x : Bool). Postfixes x e rest f end) d.is.1 p)

pub holds_post : (k : Phrase) {b : Bool} {before rest : List Terminal} {e : ExpTree} → 21 ≤ rank k → Held k b before e rest
    → PostSo b before e rest
holds_post post h d = d.is
holds_post prim {b} {before} {rest} {e} h d = post_from b before rest e d
holds_post (line l) h d = absurd (omega (arith, line_rank-below l))
holds_post exp h d = absurd (omega arith)
holds_post branch h d = absurd (omega arith)
holds_post _ h d = absurd (omega arith)

-- a phrase behind a prefix or an operator

pub reads_signed : {k : Phrase} {name : List ℕ} {u : Terminal} {ts rest : List Terminal} {e : ExpTree} → Signs k name u → Reads k ts e rest
    → Reads k (u ∷ ts) (call_one name e) rest
reads_signed goal d = signed_goal d
reads_signed inverse d = negative d
reads_signed plus d = with_plus d
reads_signed complement d = with_complement d

pub signs_rank : {k : Phrase} {name : List ℕ} {u : Terminal} → Signs k name u → (rank k < 21) × (2 < rank k)
signs_rank goal = (omega arith, omega arith)
signs_rank inverse = (omega arith, omega arith)
signs_rank plus = (omega arith, omega arith)
signs_rank complement = (omega arith, omega arith)

pub joined_on : {l : Line} {u : Terminal} {name : List ℕ} {a b e : ExpTree} {ts mid rest : List Terminal} → Joined l e ts a (u ∷ mid)
    → Joins l u name → Reads (operand_of l) mid b rest → Joined l e ts (call_two name a b) rest
joined_on no_more j d = join j d no_more
joined_on (join i c more) j d = join i c (joined_on more j d)

pub reads_joined : {l : Line} {u : Terminal} {name : List ℕ} {a b : ExpTree} {ts mid rest : List Terminal} → Reads (line l) ts a (u ∷ mid)
    → Joins l u name → Reads (operand_of l) mid b rest → Reads (line l) ts (call_two name a b) rest
reads_joined (joined c more) j d = joined c (joined_on more j d)

pub reads_from : {k : Phrase} {ts us rest : List Terminal} {e : ExpTree} → ts ≡ us → Reads k us e rest → Reads k ts e rest
reads_from {k} {rest = rest} {e = e} p d = subst (λ (x : List Terminal). Reads k x e rest) (sym p) d

pub reads_to : {k : Phrase} {ts rest other : List Terminal} {e : ExpTree} → rest ≡ other → Reads k ts e rest → Reads k ts e other
reads_to {k} {ts} {e = e} p d = subst (λ (x : List Terminal). Reads k ts e x) p d

-- a value that is a Prim from this place on
pub good_prim : (start : List Terminal) (fs : List Frame) (before ts : List Terminal) (e : ExpTree) (b : Bool) → Stacked start fs before
    → Reads prim before e ts → b ≡ takes_index before → GoodOutcome start (next (value fs prim b e ts))
good_prim start fs before ts e b st d p = (before, st, record { is = (d, p) }, wanted_most fs)
