-- Single steps of the machine.
use Rattle.std.proofs.Common.{◌≡◌, ℕ, ◌<◌, ◌≤◌, Bool, true, false, List, [], ◌∷◌, refl, ap, ◌∙◌, arith, nat_lt, nat_le}
use Rattle.std.proofs.lemmas.Bool.Decides.{nat_tests}
use Rattle.pi_syntax.specs.ExpTree.{ExpTree, ExpTrees, no_exps, exp as exp_before, one_exp}
use Rattle.pi_syntax.specs.Terminals as t
use Rattle.pi_syntax.specs.Terminals.{Line, Terminal}
use Rattle.pi_syntax.specs.Grammar.{Phrase, takes_index}
use Rattle.pi_syntax.specs.Ranks.{reach_of, start_of}
use Rattle.pi_expr_phrases.specs.Machine.{with_exp, headed, Frame, State, operand, value, Outcome, next, wants, wanted, enter, continue, resume, resume_last, when, step, Runs, go}

-- every tree that the later state ends with, the earlier ends with
pub record Goes (s n : State) : Type 0 where
  pub runs : (e : ExpTree) → Runs n e → Runs s e

pub goes_on : {s n : State} → step s ≡ next n → Goes s n
goes_on {s} {n} p = record { runs = λ e r. go n p r }

pub goes_then : {s m n : State} → Goes s m → Goes m n → Goes s n
goes_then p q = record { runs = λ e r. p.runs e (q.runs e r) }

pub goes_same : {s : State} → Goes s s
goes_same = record { runs = λ e r. r }

pub nat_lt-yes : (a b : ℕ) → a < b → nat_lt a b ≡ true
nat_lt-yes a b h = grind (arith, nat_tests)

pub nat_lt-no : (a b : ℕ) → b ≤ a → nat_lt a b ≡ false
nat_lt-no a b h = grind (arith, nat_tests)

pub nat_le-yes : (a b : ℕ) → a ≤ b → nat_le a b ≡ true
nat_le-yes a b h = grind (arith, nat_tests)

pub when-yes : {b : Bool} → b ≡ true → (o : Outcome) → when b o ≡ o
when-yes p o = rw p refl

pub entered : (fs : List Frame) (ts : List Terminal) → step (operand fs ts) ≡ enter fs ts
unfolding step
entered fs ts = refl

pub resumed_last : (fs : List Frame) (k : Phrase) (b : Bool) (e : ExpTree) (ts : List Terminal) → reach_of ts < wanted fs
    → step (value fs k b e ts) ≡ resume_last fs e ts
unfolding step
resumed_last fs k b e ts h = rw (nat_lt-yes (reach_of ts) (wanted fs) h) refl

pub continued : (fs : List Frame) (k : Phrase) (b : Bool) (e : ExpTree) (ts : List Terminal) → wanted fs ≤ reach_of ts
    → step (value fs k b e ts) ≡ continue fs k b e ts
unfolding step
continued fs k b e ts h = rw (nat_lt-no (reach_of ts) (wanted fs) h) refl

pub enters : {fs : List Frame} {ts : List Terminal} {n : State} → enter fs ts ≡ next n → Goes (operand fs ts) n
enters {fs} {ts} p = goes_on (entered fs ts ∙ p)

pub resumes : {f : Frame} {fs : List Frame} {k : Phrase} {b : Bool} {e : ExpTree} {ts : List Terminal} {n : State}
    → reach_of ts < wants f → resume f fs e ts ≡ next n → Goes (value (f ∷ fs) k b e ts) n
resumes {f} {fs} {k} {b} {e} {ts} h p = goes_on (resumed_last (f ∷ fs) k b e ts h ∙ p)

pub continues : {fs : List Frame} {k : Phrase} {b : Bool} {e : ExpTree} {ts : List Terminal} {n : State} → wanted fs ≤ reach_of ts
    → continue fs k b e ts ≡ next n → Goes (value fs k b e ts) n
continues {fs} {k} {b} {e} {ts} h p = goes_on (continued fs k b e ts h ∙ p)

-- more at the end

abbrev pub plus_exps : ExpTrees → ExpTrees → ExpTrees
plus_exps acc no_exps = acc
plus_exps acc (exp_before e es) = plus_exps (with_exp acc e) es

pub plus_exps-before : (e : ExpTree) (acc es : ExpTrees) → plus_exps (exp_before e acc) es ≡ exp_before e (plus_exps acc es)
plus_exps-before e acc no_exps = refl
plus_exps-before e acc (exp_before f es) = plus_exps-before e (with_exp acc f) es

pub plus_exps-none : (es : ExpTrees) → plus_exps no_exps es ≡ es
plus_exps-none no_exps = refl
plus_exps-none (exp_before e es) = plus_exps-before e no_exps es ∙ ap (exp_before e) (plus_exps-none es)

pub plus_exps-one : (e : ExpTree) (es : ExpTrees) → plus_exps (one_exp e) es ≡ exp_before e es
plus_exps-one e es = plus_exps-before e no_exps es ∙ ap (exp_before e) (plus_exps-none es)

-- what a terminal of this reach is not

pub not_semicolon : (ts : List Terminal) → reach_of ts < 1 → headed t.semicolon ts ≡ false
not_semicolon [] h = refl
not_semicolon (t.semicolon ∷ ts) h = absurd (omega arith)
not_semicolon (_ ∷ ts) h = refl

pub not_comma : (ts : List Terminal) → reach_of ts < 3 → headed t.comma ts ≡ false
not_comma [] h = refl
not_comma (t.comma ∷ ts) h = absurd (omega arith)
not_comma (_ ∷ ts) h = refl

pub not_dots : (ts : List Terminal) → reach_of ts < 12 → headed t.dots ts ≡ false
not_dots [] h = refl
not_dots (t.dots ∷ ts) h = absurd (omega arith)
not_dots (_ ∷ ts) h = refl

pub not_open_paren : (ts : List Terminal) → reach_of ts < 22 → headed t.open_paren ts ≡ false
not_open_paren [] h = refl
not_open_paren (t.open_paren ∷ ts) h = absurd (omega arith)
not_open_paren (_ ∷ ts) h = refl

pub not_at : (ts : List Terminal) → reach_of ts < 22 → headed t.at ts ≡ false
not_at [] h = refl
not_at (t.at ∷ ts) h = absurd (omega arith)
not_at (_ ∷ ts) h = refl

pub not_close_paren : (ts : List Terminal) → 1 ≤ start_of ts → headed t.close_paren ts ≡ false
not_close_paren [] h = refl
not_close_paren (t.close_paren ∷ ts) h = absurd (omega arith)
not_close_paren (_ ∷ ts) h = refl

pub not_close_bracket : (ts : List Terminal) → 1 ≤ start_of ts → headed t.close_bracket ts ≡ false
not_close_bracket [] h = refl
not_close_bracket (t.close_bracket ∷ ts) h = absurd (omega arith)
not_close_bracket (_ ∷ ts) h = refl

pub not_close_brace : (ts : List Terminal) → 1 ≤ start_of ts → headed t.close_brace ts ≡ false
not_close_brace [] h = refl
not_close_brace (t.close_brace ∷ ts) h = absurd (omega arith)
not_close_brace (_ ∷ ts) h = refl

-- what takes an index

pub variable_takes : (name : List ℕ) (ts : List Terminal) → headed t.at ts ≡ false → takes_index (t.variable name ∷ ts) ≡ true
variable_takes name [] h = refl
variable_takes name (t.at ∷ ts) h = absurd (cc)
variable_takes name (_ ∷ ts) h = refl

pub atom_takes_no : (name : List ℕ) (ts : List Terminal) → headed t.open_paren ts ≡ false → takes_index (t.atom name ∷ ts) ≡ false
atom_takes_no name [] h = refl
atom_takes_no name (t.open_paren ∷ ts) h = absurd (cc)
atom_takes_no name (_ ∷ ts) h = refl
