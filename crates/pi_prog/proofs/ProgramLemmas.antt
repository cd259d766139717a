-- Readings by what is judged of them.
use Rattle.std.proofs.Common.{◌≡◌, inl, inr, List, ◌∷◌, map, Err, refl, ap, ◌∙◌, sym, subst}
use Rattle.pi_syntax.specs.ProgramTree.{source_tree}
use Rattle.pi_syntax.specs.Tokens.{Token}
use Rattle.pi_prog_clauses.specs.Seen.{seen}
use Rattle.pi_prog_clauses.specs.Verdict.{JudgedPart, JudgedClause, libraries, one_clause, judged_clause, judged, parts_of, verdict, Verdict, a_program, HasVerdict}
use Rattle.pi_prog_clauses.specs.Faults.{IsTold, IsProgramFault, AnswersProgram}
use Rattle.pi_prog_clauses.specs.Reading.{Reading, too_deep, misdeclared_part, no_clause, imports_part, written, ReadAll}
use Rattle.pi_prog_clauses.specs.Shown.{IsShown, AreShown}
use Rattle.pi_prog_clauses.specs.Shown as shown
use Rattle.pi_prog_clauses.specs.Stretch.{stretches}
use Rattle.pi_prog_clauses.specs.declared.prog_fault.ProgFault.{ProgFault}
use Rattle.pi_prog_clauses.specs.declared.prog_fault.ProgFault.TheVariants as fault
use Rattle.pi_prog_clauses.specs.declared.parts.PartReading.{PartReading}
use Rattle.pi_prog_clauses.specs.declared.parts.PartReading.TheVariants as part
use Rattle.pi_syntax.specs.declared.program.Program.{Program}
use Rattle.pi_prog.proofs.OneReadingLemmas.{one_program}

clause_same : (c d : JudgedClause) → c.modes ≡ d.modes → c.clause ≡ d.clause → c.bad_form ≡ d.bad_form → c.many_names ≡ d.many_names → c ≡ d
clause_same c d p q r s = λ i. record { modes = p i; clause = q i; bad_form = r i; many_names = s i }

shown_seen : (p : PartReading) (r : Reading) → IsShown p r → seen p ≡ judged r
shown_seen part.TooDeep too_deep h = refl
shown_seen part.BadDeclaration misdeclared_part h = refl
shown_seen part.NoClause no_clause h = refl
shown_seen (part.Import names) (imports_part others) h = ap libraries h
shown_seen (part.Written p) (written w) h = ap one_clause (clause_same _ (judged_clause w) h.modes h.clause h.form h.names)
shown_seen p r h = absurd h

pub all_shown : {ps : List PartReading} {rs : List Reading} → AreShown ps rs → map seen ps ≡ map judged rs
all_shown shown.none = refl
all_shown (shown.next {p = p} {r = r} {ps = ps} {rs = rs} h hs) = ap (λ x. x ∷ map seen ps) (shown_seen p r h) ∙ ap (λ xs. judged r ∷ xs) (all_shown hs)

-- of the tokens

pub has_verdict : (tokens : List Token) (ps : List PartReading) (rs : List Reading) → ReadAll (stretches tokens) rs → AreShown ps rs → HasVerdict tokens (verdict (map seen ps))
has_verdict tokens ps rs read shown = record { readings = rs; read = read; is = ap verdict (all_shown shown) }

pub is_program_fault : (tokens : List Token) (v : Verdict) (f : ProgFault) → HasVerdict tokens v → IsTold v f → IsProgramFault tokens f
is_program_fault tokens v fault.Memory h t = tt
is_program_fault tokens v (fault.BadClause n) h t = (v, h, t)
is_program_fault tokens v (fault.TooDeep n) h t = (v, h, t)
is_program_fault tokens v (fault.BadDeclaration n) h t = (v, h, t)
is_program_fault tokens v (fault.TooManyVariables n) h t = (v, h, t)
is_program_fault tokens v (fault.UnknownName name arity n) h t = (v, h, t)
is_program_fault tokens v (fault.Scattered name arity) h t = (v, h, t)

told_answers : (v : Verdict) (f : ProgFault) → IsTold v f → AnswersProgram (Err f) v
told_answers v fault.Memory t = inl refl
told_answers v (fault.BadClause n) t = inr t
told_answers v (fault.TooDeep n) t = inr t
told_answers v (fault.BadDeclaration n) t = inr t
told_answers v (fault.TooManyVariables n) t = inr t
told_answers v (fault.UnknownName name arity n) t = inr t
told_answers v (fault.Scattered name arity) t = inr t

pub answers_fault : (tokens : List Token) (v : Verdict) (f : ProgFault) → HasVerdict tokens v → IsTold v f → (w : Verdict) → HasVerdict tokens w → AnswersProgram (Err f) w
answers_fault tokens v f h t w h' = told_answers w f (subst (λ x. IsTold x f) (one_program tokens v w h h') t)

pub has_program : (tokens : List Token) (ps : List PartReading) (program : Program) → HasVerdict tokens (verdict (map seen ps)) → verdict (map seen ps) ≡ a_program (parts_of (map seen ps))
    → source_tree program ≡ parts_of (map seen ps) → HasVerdict tokens (a_program (source_tree program))
has_program tokens ps program h sound made = subst (HasVerdict tokens) (sound ∙ ap a_program (sym made)) h
