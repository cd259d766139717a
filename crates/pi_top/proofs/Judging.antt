-- Two texts come to one thing.
use Rattle.std.proofs.Common.{◌≡◌, ℕ, List, Option, None, Some, sym, ap, subst, ◌∙◌, inl, inr}
use Rattle.pi_lex.specs.Kinds.{kinds}
use Rattle.pi_syntax.specs.ExpTree.{ExpTree}
use Rattle.pi_syntax.specs.ProgramTree.{ProgramTree}
use Rattle.pi_syntax.specs.Tokens.{Token, Located, Fault, Lexes}
use Rattle.pi_prog_clauses.specs.GoalVerdict.{GoalVerdict, a_goal, goal_is_faulty, calls_unknown, HasGoalVerdict}
use Rattle.pi_prog_clauses.specs.Verdict.{Verdict, a_program, part_is_faulty, is_scattered, is_unknown, HasVerdict}
use Rattle.pi_top.specs.FaultLines.{token_line, verdict_line, goal_verdict_line, of_program, of_goal}
use Rattle.pi_top.specs.Judged.{unbuilt_line, OfTokens, IsTokenLine, IsProgramText, IsGoalText, HasVerdictLine, HasGoalVerdictLine, IsProgramLine, IsGoalLine, AreFaultless, Refused, program_fault, goal_fault, not_built, Asks}

-- what is one: the reading of a text, and the verdict on tokens
pub record AreOne : Type 0 where
  pub reading : (text : List ℕ) (tokens others : List Located) (fault other : Option Fault) → Lexes text tokens fault → Lexes text others other → (tokens ≡ others) × (fault ≡ other)
  pub verdict : (tokens : List Token) (v w : Verdict) → HasVerdict tokens v → HasVerdict tokens w → v ≡ w
  pub goal : (tokens : List Token) (program : ProgramTree) (v w : GoalVerdict) → HasGoalVerdict tokens program v → HasGoalVerdict tokens program w → v ≡ w

-- ---- parts of what is equal

abbrev IsNone : {T : Type 0} → Option T → Type 0
IsNone None = Unit {0}
IsNone (Some x) = ⊥

pub none-some : {T : Type 0} (x : T) → None ≡ Some x → ⊥
none-some x e = subst IsNone e tt

abbrev or_else : {T : Type 0} → T → Option T → T
or_else x None = x
or_else x (Some y) = y

pub some-in : {T : Type 0} (x y : T) → Some x ≡ Some y → x ≡ y
some-in x y e = ap (or_else x) e

abbrev program_or : ProgramTree → Verdict → ProgramTree
program_or p (a_program q) = q
program_or p (part_is_faulty f) = p
program_or p (is_scattered d) = p
program_or p (is_unknown u) = p

abbrev goal_or : ExpTree → GoalVerdict → ExpTree
goal_or e (a_goal g) = g
goal_or e (goal_is_faulty f) = e
goal_or e (calls_unknown c) = e

-- ---- a text

same-tokens : (o : AreOne) (text : List ℕ) (P Q : List Token → Type 0) (a : OfTokens text P) (b : OfTokens text Q) → kinds b.tokens ≡ kinds a.tokens
same-tokens o text P Q a b = ap kinds (o.reading text b.tokens a.tokens None None b.has a.has).0

-- both hold of the same tokens
together : (o : AreOne) (text : List ℕ) (P Q : List Token → Type 0) (a : OfTokens text P) (b : OfTokens text Q) → Q (kinds a.tokens)
together o text P Q a b = subst Q (same-tokens o text P Q a b) b.holds

tokens-no-line : (o : AreOne) (text line : List ℕ) (P : List Token → Type 0) → OfTokens text P → IsTokenLine text line → ⊥
tokens-no-line o text line P a b = none-some b.fault (o.reading text a.tokens b.has.0 None (Some b.fault) a.has b.has.1).1

one-token-line : (o : AreOne) (text line other : List ℕ) → IsTokenLine text line → IsTokenLine text other → line ≡ other
one-token-line o text line other a b =
    a.is ∙ ap token_line (some-in a.fault b.fault (o.reading text a.has.0 b.has.0 (Some a.fault) (Some b.fault) a.has.1 b.has.1).1) ∙ sym b.is

-- ---- a program

pub one-program : (o : AreOne) (text : List ℕ) (p q : ProgramTree) → IsProgramText text p → IsProgramText text q → p ≡ q
one-program o text p q a b =
    let P : List Token → Type 0 = λ ts. HasVerdict ts (a_program p) in
    let Q : List Token → Type 0 = λ ts. HasVerdict ts (a_program q) in
    ap (program_or p) (o.verdict (kinds a.tokens) (a_program p) (a_program q) a.holds (together o text P Q a b))

program-no-verdict-line : (o : AreOne) (ts : List Token) (p : ProgramTree) (line : List ℕ) → HasVerdict ts (a_program p) → HasVerdictLine ts line → ⊥
program-no-verdict-line o ts p line a b = none-some line (ap verdict_line (o.verdict ts (a_program p) b.verdict a b.has) ∙ b.is)

pub program-no-line : (o : AreOne) (text line : List ℕ) (p : ProgramTree) → IsProgramText text p → IsProgramLine text line → ⊥
program-no-line o text line p a (inl b) = tokens-no-line o text line (λ ts. HasVerdict ts (a_program p)) a b
program-no-line o text line p a (inr b) =
    let P : List Token → Type 0 = λ ts. HasVerdict ts (a_program p) in
    let Q : List Token → Type 0 = λ ts. HasVerdictLine ts line in
    program-no-verdict-line o (kinds a.tokens) p line a.holds (together o text P Q a b)

one-verdict-line : (o : AreOne) (ts : List Token) (line other : List ℕ) → HasVerdictLine ts line → HasVerdictLine ts other → line ≡ other
one-verdict-line o ts line other a b = some-in line other (sym a.is ∙ ap verdict_line (o.verdict ts a.verdict b.verdict a.has b.has) ∙ b.is)

pub one-program-line : (o : AreOne) (text line other : List ℕ) → IsProgramLine text line → IsProgramLine text other → line ≡ other
one-program-line o text line other (inl a) (inl b) = one-token-line o text line other a b
one-program-line o text line other (inl a) (inr b) = absurd (tokens-no-line o text line (λ ts. HasVerdictLine ts other) b a)
one-program-line o text line other (inr a) (inl b) = absurd (tokens-no-line o text other (λ ts. HasVerdictLine ts line) a b)
one-program-line o text line other (inr a) (inr b) =
    let P : List Token → Type 0 = λ ts. HasVerdictLine ts line in
    let Q : List Token → Type 0 = λ ts. HasVerdictLine ts other in
    one-verdict-line o (kinds a.tokens) line other a.holds (together o text P Q a b)

-- ---- a goal that is asked of a program

pub one-goal : (o : AreOne) (text : List ℕ) (p : ProgramTree) (e f : ExpTree) → IsGoalText text p e → IsGoalText text p f → e ≡ f
one-goal o text p e f a b =
    let P : List Token → Type 0 = λ ts. HasGoalVerdict ts p (a_goal e) in
    let Q : List Token → Type 0 = λ ts. HasGoalVerdict ts p (a_goal f) in
    ap (goal_or e) (o.goal (kinds a.tokens) p (a_goal e) (a_goal f) a.holds (together o text P Q a b))

goal-no-verdict-line : (o : AreOne) (ts : List Token) (p : ProgramTree) (e : ExpTree) (line : List ℕ) → HasGoalVerdict ts p (a_goal e) → HasGoalVerdictLine p ts line → ⊥
goal-no-verdict-line o ts p e line a b = none-some line (ap goal_verdict_line (o.goal ts p (a_goal e) b.verdict a b.has) ∙ b.is)

pub goal-no-line : (o : AreOne) (text line : List ℕ) (p : ProgramTree) (e : ExpTree) → IsGoalText text p e → IsGoalLine text p line → ⊥
goal-no-line o text line p e a (inl b) = tokens-no-line o text line (λ ts. HasGoalVerdict ts p (a_goal e)) a b
goal-no-line o text line p e a (inr b) =
    let P : List Token → Type 0 = λ ts. HasGoalVerdict ts p (a_goal e) in
    let Q : List Token → Type 0 = λ ts. HasGoalVerdictLine p ts line in
    goal-no-verdict-line o (kinds a.tokens) p e line a.holds (together o text P Q a b)

one-goal-verdict-line : (o : AreOne) (ts : List Token) (p : ProgramTree) (line other : List ℕ) → HasGoalVerdictLine p ts line → HasGoalVerdictLine p ts other → line ≡ other
one-goal-verdict-line o ts p line other a b = some-in line other (sym a.is ∙ ap goal_verdict_line (o.goal ts p a.verdict b.verdict a.has b.has) ∙ b.is)

pub one-goal-line : (o : AreOne) (text line other : List ℕ) (p : ProgramTree) → IsGoalLine text p line → IsGoalLine text p other → line ≡ other
one-goal-line o text line other p (inl a) (inl b) = one-token-line o text line other a b
one-goal-line o text line other p (inl a) (inr b) = absurd (tokens-no-line o text line (λ ts. HasGoalVerdictLine p ts other) b a)
one-goal-line o text line other p (inr a) (inl b) = absurd (tokens-no-line o text other (λ ts. HasGoalVerdictLine p ts line) a b)
one-goal-line o text line other p (inr a) (inr b) =
    let P : List Token → Type 0 = λ ts. HasGoalVerdictLine p ts line in
    let Q : List Token → Type 0 = λ ts. HasGoalVerdictLine p ts other in
    one-goal-verdict-line o (kinds a.tokens) p line other a.holds (together o text P Q a b)

-- ---- both

pub one-asked : (o : AreOne) (text goal : List ℕ) (p q : ProgramTree) (e f : ExpTree) → AreFaultless text goal p e → AreFaultless text goal q f → (p ≡ q) × (e ≡ f)
one-asked o text goal p q e f a b =
    let same : q ≡ p = one-program o text q p b.is_program a.is_program in
    (sym same, one-goal o goal p e f a.is_goal (subst (λ (r : ProgramTree). IsGoalText goal r f) same b.is_goal))

goal-fault-no-goal : (o : AreOne) (text goal fault : List ℕ) (p q : ProgramTree) (e : ExpTree) → AreFaultless text goal p e → IsProgramText text q → IsGoalLine goal q fault → ⊥
goal-fault-no-goal o text goal fault p q e a b line =
    let same : q ≡ p = one-program o text q p b a.is_program in
    goal-no-line o goal fault p e a.is_goal (subst (λ (r : ProgramTree). IsGoalLine goal r fault) same line)

same-unbuilt : (o : AreOne) (text goal : List ℕ) (p q : ProgramTree) (e f : ExpTree) → AreFaultless text goal p e → AreFaultless text goal q f → unbuilt_line p e ≡ unbuilt_line q f
same-unbuilt o text goal p q e f a b =
    let same : (p ≡ q) × (e ≡ f) = one-asked o text goal p q e f a b in
    ap (λ (r : ProgramTree). unbuilt_line r e) same.0 ∙ ap (λ (g : ExpTree). unbuilt_line q g) same.1

pub one-line : (o : AreOne) (text goal line other : List ℕ) → Refused text goal line → Refused text goal other → line ≡ other
one-line o text goal line other (program_fault x a is) (program_fault y b is') = is ∙ ap of_program (one-program-line o text x y a b) ∙ sym is'
one-line o text goal line other (program_fault x a is) (goal_fault q y b c is') = absurd (program-no-line o text x q b a)
one-line o text goal line other (program_fault x a is) (not_built q f b is') = absurd (program-no-line o text x q b.is_program a)
one-line o text goal line other (goal_fault p x a c is) (program_fault y b is') = absurd (program-no-line o text y p a b)
one-line o text goal line other (goal_fault p x a c is) (goal_fault q y b d is') =
    let same : q ≡ p = one-program o text q p b a in
    is ∙ ap of_goal (one-goal-line o goal x y p c (subst (λ (r : ProgramTree). IsGoalLine goal r y) same d)) ∙ sym is'
one-line o text goal line other (goal_fault p x a c is) (not_built q f b is') = absurd (goal-fault-no-goal o text goal x q p f b a c)
one-line o text goal line other (not_built p e a is) (program_fault y b is') = absurd (program-no-line o text y p a.is_program b)
one-line o text goal line other (not_built p e a is) (goal_fault q y b d is') = absurd (goal-fault-no-goal o text goal y p q e a b d)
one-line o text goal line other (not_built p e a is) (not_built q f b is') = some-in line other (sym is ∙ same-unbuilt o text goal p q e f a b ∙ is')

pub not-both : (o : AreOne) (text goal line : List ℕ) (p : ProgramTree) (e : ExpTree) → Refused text goal line → Asks text goal p e → ⊥
not-both o text goal line p e (program_fault y b is) asks = program-no-line o text y p asks.faultless.is_program b
not-both o text goal line p e (goal_fault q y b d is) asks = goal-fault-no-goal o text goal y p q e asks.faultless b d
not-both o text goal line p e (not_built q f b is) asks = none-some line (sym asks.built ∙ same-unbuilt o text goal p q e f asks.faultless b ∙ is)
