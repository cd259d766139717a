-- The verdict on a goal, by what the code finds in it.
use Rattle.std.proofs.Common.{◌≡◌, ◌≢◌, ◌⊎◌, inl, inr, ℕ, zero, suc, ◌-◌, true, false, cond, List, [], ◌∷◌, length, take, Option, Some, Result, Ok, Err, refl, ap, ◌∙◌, sym, subst, arith}
use Rattle.std.specs.Prelude.{IfOk, IfErr, slice_get}
use Rattle.std.proofs.lemmas.List.{length-map, take_all}
use Rattle.pi_lex.specs.Kinds.{kinds}
use Rattle.pi_expr.specs.Faults.{stretch, IsFault}
use Rattle.pi_expr.specs.declared.fault.ExpFault.{ExpFault}
use Rattle.pi_expr.specs.declared.fault.ExpFault.TheVariants as unread
use Rattle.pi_syntax.specs.Crowding.{IsRead}
use Rattle.pi_syntax.specs.ExpTree.{ExpTree}
use Rattle.pi_syntax.specs.ProgramTree.{ProgramTree, goal_source}
use Rattle.pi_syntax.specs.Tokens.{Token, Located, Var, Atom, Word, Int, Str, Sign, End}
use Rattle.pi_syntax.specs.declared.program.Goal.{Goal}
use Rattle.pi_prog.proofs.OneReadingLemmas.{one_goal}
use Rattle.pi_prog_clauses.specs.Calls.{Named, calls_among, first_unknown}
use Rattle.pi_prog_clauses.specs.Faults.{TellsGoalFault, IsTold, IsGoalTold, IsGoalFault, AnswersGoal}
use Rattle.pi_prog_clauses.specs.GoalVerdict.{GoalVerdict, a_goal, goal_is_faulty, calls_unknown, defined_by_program, unknown_goal, goal_verdict, JudgesGoal, goal_too_deep, no_goal, an_expression, HasGoalVerdict}
use Rattle.pi_prog_clauses.specs.Items.{are_bad_nodes}
use Rattle.pi_prog.specs.Pieces.{is_end}
use Rattle.pi_prog_clauses.specs.Places.{goal, placed}
use Rattle.pi_prog_clauses.specs.Reading.{variable_names}
use Rattle.pi_prog_clauses.specs.Stretch.{without_end}
use Rattle.pi_prog_clauses.specs.Verdict.{TooDeep, BadClause, TooManyVariables, has_too_many_names, Unknown, is_unknown}
use Rattle.pi_prog_clauses.specs.declared.prog_fault.ProgFault.{ProgFault}
use Rattle.pi_prog_clauses.specs.declared.prog_fault.ProgFault.TheVariants as fault

-- the end

pub from_start : (ts : List Token) (n : ℕ) → stretch ts 0 n ≡ take n ts
from_start ts n = let same : n - 0 ≡ n = omega arith in ap (λ m. take m ts) same

end_alone : (t : Token) → is_end t ≡ true → [] ≡ without_end (t ∷ [])
unfolding without_end
end_alone End e = refl
end_alone (Var name) e = absurd cc
end_alone (Atom name) e = absurd cc
end_alone (Word word) e = absurd cc
end_alone (Int n) e = absurd cc
end_alone (Str s) e = absurd cc
end_alone (Sign sign) e = absurd cc

no_end_alone : (t : Token) → is_end t ≡ false → t ∷ [] ≡ without_end (t ∷ [])
unfolding without_end
no_end_alone End e = absurd cc
no_end_alone (Var name) e = refl
no_end_alone (Atom name) e = refl
no_end_alone (Word word) e = refl
no_end_alone (Int n) e = refl
no_end_alone (Str s) e = refl
no_end_alone (Sign sign) e = refl

end_behind : (t u : Token) (ts : List Token) → t ∷ without_end (u ∷ ts) ≡ without_end (t ∷ u ∷ ts)
unfolding without_end
end_behind End u ts = refl
end_behind (Var name) u ts = refl
end_behind (Atom name) u ts = refl
end_behind (Word word) u ts = refl
end_behind (Int n) u ts = refl
end_behind (Str s) u ts = refl
end_behind (Sign sign) u ts = refl

before_end : (ts : List Token) (n : ℕ) (t : Token) → length ts ≡ suc n → slice_get ts n ≡ Some t → is_end t ≡ true → take n ts ≡ without_end ts
before_end [] n t count last e = absurd (omega (arith, count))
before_end (u ∷ []) zero t count last e = let same : u ≡ t = cc in end_alone u (subst (λ x. is_end x ≡ true) (sym same) e)
before_end (u ∷ []) (suc n) t count last e = absurd (omega (arith, count))
before_end (u ∷ v ∷ ts) zero t count last e = absurd (omega (arith, count))
before_end (u ∷ v ∷ ts) (suc n) t count last e = let less : length (v ∷ ts) ≡ suc n = omega (arith, count) in
    ap (λ us. u ∷ us) (before_end (v ∷ ts) n t less last e) ∙ end_behind u v ts

without_an_end : (ts : List Token) (n : ℕ) (t : Token) → length ts ≡ suc n → slice_get ts n ≡ Some t → is_end t ≡ false → ts ≡ without_end ts
without_an_end [] n t count last e = absurd (omega (arith, count))
without_an_end (u ∷ []) zero t count last e = let same : u ≡ t = cc in no_end_alone u (subst (λ x. is_end x ≡ false) (sym same) e)
without_an_end (u ∷ []) (suc n) t count last e = absurd (omega (arith, count))
without_an_end (u ∷ v ∷ ts) zero t count last e = absurd (omega (arith, count))
without_an_end (u ∷ v ∷ ts) (suc n) t count last e = let less : length (v ∷ ts) ≡ suc n = omega (arith, count) in
    ap (λ us. u ∷ us) (without_an_end (v ∷ ts) n t less last e) ∙ end_behind u v ts

nothing_there : (ts : List Token) → length ts ≡ 0 → [] ≡ without_end ts
unfolding without_end
nothing_there [] count = refl
nothing_there (t ∷ ts) count = absurd (omega (arith, count))

module _ (tokens : List Located) (n : ℕ) (is : n ≡ length tokens) where
  count_is : length (kinds tokens) ≡ n
  count_is = length-map tokens (λ (located : Located). located.0) ∙ sym is

  pub no_tokens : n ≡ 0 → [] ≡ without_end (kinds tokens)
  no_tokens none = nothing_there (kinds tokens) (count_is ∙ none)

  count_last : n ≢ 0 → length (kinds tokens) ≡ suc (n - 1)
  count_last some = let all = count_is in omega (arith, all, some)

  pub goal_before : (t : Token) → n ≢ 0 → slice_get (kinds tokens) (n - 1) ≡ Some t → is_end t ≡ true → stretch (kinds tokens) 0 (n - 1) ≡ without_end (kinds tokens)
  goal_before t some last e = from_start (kinds tokens) (n - 1) ∙ before_end (kinds tokens) (n - 1) t (count_last some) last e

  pub goal_whole : (t : Token) → n ≢ 0 → slice_get (kinds tokens) (n - 1) ≡ Some t → is_end t ≡ false → stretch (kinds tokens) 0 n ≡ without_end (kinds tokens)
  goal_whole t some last e = let all = count_is in
      from_start (kinds tokens) n ∙ take_all n (kinds tokens) (omega (arith, all)) ∙ without_an_end (kinds tokens) (n - 1) t (count_last some) last e

-- the verdict

module _ (program : ProgramTree) (e : ExpTree) (names : List (List ℕ)) where
  pub goal_is_bad : are_bad_nodes (placed (goal true) e) ≡ true → goal_is_faulty BadClause ≡ goal_verdict program e names
  unfolding goal_verdict
  goal_is_bad bad = sym (ap (λ b. cond b (goal_is_faulty BadClause) (cond (has_too_many_names names) (goal_is_faulty TooManyVariables) (unknown_goal e (first_unknown (defined_by_program program) (calls_among (placed (goal true) e)))))) bad)

  pub goal_has_many : are_bad_nodes (placed (goal true) e) ≡ false → has_too_many_names names ≡ true → goal_is_faulty TooManyVariables ≡ goal_verdict program e names
  unfolding goal_verdict
  goal_has_many bad many = sym (ap (λ b. cond b (goal_is_faulty BadClause) (cond (has_too_many_names names) (goal_is_faulty TooManyVariables) (unknown_goal e (first_unknown (defined_by_program program) (calls_among (placed (goal true) e)))))) bad
      ∙ ap (λ b. cond b (goal_is_faulty TooManyVariables) (unknown_goal e (first_unknown (defined_by_program program) (calls_among (placed (goal true) e))))) many)

  pub goal_calls : are_bad_nodes (placed (goal true) e) ≡ false → has_too_many_names names ≡ false → (o : Option Named) → o ≡ first_unknown (defined_by_program program) (calls_among (placed (goal true) e)) → goal_verdict program e names ≡ unknown_goal e o
  unfolding goal_verdict
  goal_calls bad many o unknown = ap (λ b. cond b (goal_is_faulty BadClause) (cond (has_too_many_names names) (goal_is_faulty TooManyVariables) (unknown_goal e (first_unknown (defined_by_program program) (calls_among (placed (goal true) e)))))) bad
      ∙ ap (λ b. cond b (goal_is_faulty TooManyVariables) (unknown_goal e (first_unknown (defined_by_program program) (calls_among (placed (goal true) e))))) many
      ∙ ap (unknown_goal e) (sym unknown)

pub goal_told : (v w : GoalVerdict) (f : ProgFault) → v ≡ w → IsGoalTold v f → IsGoalTold w f
goal_told v w f same told = subst (λ x. IsGoalTold x f) same told

pub bad_told : (program : ProgramTree) (e : ExpTree) (names : List (List ℕ)) → are_bad_nodes (placed (goal true) e) ≡ true → IsGoalTold (goal_verdict program e names) (fault.BadClause 1)
bad_told program e names bad = goal_told (goal_is_faulty BadClause) (goal_verdict program e names) (fault.BadClause 1) (goal_is_bad program e names bad) (refl, refl)

pub many_told : (program : ProgramTree) (e : ExpTree) (names : List (List ℕ)) → are_bad_nodes (placed (goal true) e) ≡ false → has_too_many_names names ≡ true → IsGoalTold (goal_verdict program e names) (fault.TooManyVariables 1)
many_told program e names bad many = goal_told (goal_is_faulty TooManyVariables) (goal_verdict program e names) (fault.TooManyVariables 1) (goal_has_many program e names bad many) (refl, refl)

unknown_as_goal : (u : Unknown) (f : ProgFault) → u.number ≡ 1 → IsTold (is_unknown u) f → IsGoalTold (calls_unknown u.called) f
unknown_as_goal u fault.Memory one told = tt
unknown_as_goal u (fault.UnknownName name arity n) one told = (told.0, told.1 ∙ one)
unknown_as_goal u (fault.BadClause n) one told = absurd told
unknown_as_goal u (fault.TooDeep n) one told = absurd told
unknown_as_goal u (fault.BadDeclaration n) one told = absurd told
unknown_as_goal u (fault.TooManyVariables n) one told = absurd told
unknown_as_goal u (fault.Scattered name arity) one told = absurd told

pub unknown_told : (program : ProgramTree) (e : ExpTree) (names : List (List ℕ)) (u : Unknown) (f : ProgFault) → are_bad_nodes (placed (goal true) e) ≡ false → has_too_many_names names ≡ false
    → Some u.called ≡ first_unknown (defined_by_program program) (calls_among (placed (goal true) e)) → u.number ≡ 1 → IsTold (is_unknown u) f → IsGoalTold (goal_verdict program e names) f
unknown_told program e names u f bad many unknown one told =
    goal_told (calls_unknown u.called) (goal_verdict program e names) f (sym (goal_calls program e names bad many (Some u.called) unknown)) (unknown_as_goal u f one told)

-- the answer

pub has_goal : (ts : List Token) (program : ProgramTree) (e : ExpTree) → IsRead (without_end ts) e → goal_verdict program e (variable_names (without_end ts)) ≡ a_goal e → HasGoalVerdict ts program (a_goal e)
has_goal ts program e read same = subst (JudgesGoal program (without_end ts)) same (an_expression read)

pub is_goal_fault : (ts : List Token) (program : ProgramTree) (v : GoalVerdict) (f : ProgFault) → HasGoalVerdict ts program v → IsGoalTold v f → IsGoalFault ts program f
is_goal_fault ts program v fault.Memory has told = tt
is_goal_fault ts program v (fault.BadClause n) has told = (v, has, told)
is_goal_fault ts program v (fault.TooDeep n) has told = (v, has, told)
is_goal_fault ts program v (fault.BadDeclaration n) has told = (v, has, told)
is_goal_fault ts program v (fault.TooManyVariables n) has told = (v, has, told)
is_goal_fault ts program v (fault.UnknownName name arity n) has told = (v, has, told)
is_goal_fault ts program v (fault.Scattered name arity) has told = (v, has, told)

pub body_fault : (ts : List Token) (program : ProgramTree) (e : ExpTree) (f : ProgFault) → IsRead (without_end ts) e → IsGoalTold (goal_verdict program e (variable_names (without_end ts))) f → IsGoalFault ts program f
body_fault ts program e f read told = is_goal_fault ts program (goal_verdict program e (variable_names (without_end ts))) f (an_expression read) told

pub no_expression : (ts : List Token) (program : ProgramTree) (f : ExpFault) → f ≡ unread.NoExpression → IsFault (without_end ts) f → IsGoalFault ts program (fault.BadClause 1)
no_expression ts program f is h = (goal_is_faulty BadClause, no_goal (subst (IsFault (without_end ts)) is h), (refl, refl))

pub too_deep_goal : (ts : List Token) (program : ProgramTree) (f : ExpFault) → f ≡ unread.TooDeep → IsFault (without_end ts) f → IsGoalFault ts program (fault.TooDeep 1)
too_deep_goal ts program f is h = (goal_is_faulty TooDeep, goal_too_deep (subst (IsFault (without_end ts)) is h), (refl, refl))

answered : (ts : List Token) (program : ProgramTree) (f : ProgFault) → IsGoalFault ts program f → (v : GoalVerdict) → HasGoalVerdict ts program v → (f ≡ fault.Memory) ⊎ TellsGoalFault f v
answered ts program fault.Memory is v has = inl refl
answered ts program (fault.BadClause n) is v has = inr (subst (TellsGoalFault (fault.BadClause n)) (one_goal ts program is.0 v is.1 has) is.2)
answered ts program (fault.TooDeep n) is v has = inr (subst (TellsGoalFault (fault.TooDeep n)) (one_goal ts program is.0 v is.1 has) is.2)
answered ts program (fault.BadDeclaration n) is v has = inr (subst (TellsGoalFault (fault.BadDeclaration n)) (one_goal ts program is.0 v is.1 has) is.2)
answered ts program (fault.TooManyVariables n) is v has = inr (subst (TellsGoalFault (fault.TooManyVariables n)) (one_goal ts program is.0 v is.1 has) is.2)
answered ts program (fault.UnknownName name arity n) is v has = inr (subst (TellsGoalFault (fault.UnknownName name arity n)) (one_goal ts program is.0 v is.1 has) is.2)
answered ts program (fault.Scattered name arity) is v has = inr (subst (TellsGoalFault (fault.Scattered name arity)) (one_goal ts program is.0 v is.1 has) is.2)

pub answers_goal : (ts : List Token) (program : ProgramTree) (r : Result Goal ProgFault) → IfOk r (λ g. HasGoalVerdict ts program (a_goal (goal_source g))) → IfErr r (IsGoalFault ts program)
    → (v : GoalVerdict) → HasGoalVerdict ts program v → AnswersGoal r v
answers_goal ts program (Ok g) is fails v has = one_goal ts program v (a_goal (goal_source g)) has is
answers_goal ts program (Err f) is fails v has = answered ts program f fails v has
