-- Helpers behind what a core program has are sound: by their clauses, their names and their ranks.
use Rattle.std.proofs.Common.{◌≡◌, ◌⊎◌, inl, inr, ℕ, Bool, true, false, List, [], ◌∷◌, sym, ◌∙◌, ap, subst}
use Rattle.std.proofs.lemmas.Bool.{false≢true}
use Rattle.std.specs.Prelude.{not, Some, None, All, Contains, is_some, IsTrue}
use Rattle.std.proofs.lemmas.List.Elements.{All-nil, All-cons}
use Rattle.pi_terms.specs.Tree.{Tree}
use Rattle.pi_constraints.specs.State.{SpeaksBelow}
use Rattle.pi_syntax.specs.declared.program.Mode.{Mode}
use Rattle.pi_core.specs.GoalTree.{GoalTree}
use Rattle.pi_core.specs.CoreTree.{ClauseTree, PredTree, find_pred}
use Rattle.pi_core.specs.declared.core_program.SlotWatch.{SlotWatch}
use Rattle.pi_meaning.specs.Shared.Names.{is_given}
use Rattle.pi_meaning.specs.CoreMeaning.Quiet.{Callee, IsQuiet}
use Rattle.pi_meaning.specs.CoreMeaning.Sound.{EventBelow, IsSoundClause, IsSoundIndex}
use Rattle.pi_meaning.specs.CoreMeaning.Defined.{ClauseCallsDefined, NamesAreFree, is_machine_predicate}
use Rattle.pi_meaning.specs.CoreMeaning.Instances.{is_called_by_name}
use Rattle.pi_rewrite_spec.specs.Forms.{Knows}
use Rattle.pi_rewrite_spec.specs.Programs.{Naming}
use Rattle.pi_rewrite_laws.specs.Within.{AreOwn}
use Rattle.pi_rewrite_laws.proofs.SoundLemmas.{nothing-in, cons-cases}
use Rattle.pi_rewrite_laws.proofs.NumberedLemmas.{IsHelper, NamedFrom}
use Rattle.pi_rewrite_sound.specs.Laws.{IsPlain}
use Rattle.pi_rewrite_sound.proofs.NameLemmas.{machine-given}
use Rattle.pi_rewrite_sound.proofs.FineGoals.{Fine, fine-truth, slots-below}
use Rattle.pi_rewrite_sound.proofs.GoodHelpers.{FineClause, FineClauses, FineHelper, FineHelpers}
use Rattle.pi_rewrite_sound.proofs.FoundLemmas.{found_in}
use Rattle.pi_rewrite_sound.proofs.RankLemmas.{NoGuards}
use Rattle.pi_rewrite_sound.proofs.SoundGoals.{found-free, goal-good}

-- ---- one of them

clause-of : (may : Knows) (arity : ℕ) (cs : List ClauseTree) → FineClauses may arity cs → (c : ClauseTree) → Contains cs c → FineClause may arity c
clause-of may arity [] are c there = absurd (nothing-in c there)
clause-of may arity (d ∷ cs) are c there = go (cons-cases d cs c there) (λ later. clause-of may arity cs are.1 c later)
  where
    go : (d ≡ c) ⊎ Contains cs c → (Contains cs c → FineClause may arity c) → FineClause may arity c
    go (inl same) rest = subst (FineClause may arity) same are.0
    go (inr later) rest = rest later

pub helper-of : (may : Knows) (ps : List PredTree) → FineHelpers may ps → (p : PredTree) → Contains ps p → FineHelper may p
helper-of may [] are p there = absurd (nothing-in p there)
helper-of may (q ∷ ps) are p there = go (cons-cases q ps p there) (λ later. helper-of may ps are.1 p later)
  where
    go : (q ≡ p) ⊎ Contains ps p → (Contains ps p → FineHelper may p) → FineHelper may p
    go (inl same) rest = subst (FineHelper may) same are.0
    go (inr later) rest = rest later

-- ---- clauses

module _ (preds : List PredTree) (free : NamesAreFree preds) (p : PredTree) (is : FineHelper (found_in preds) p) (c : ClauseTree) (there : Contains p.clauses c) where
  fine : FineClause (found_in preds) p.arity c
  fine = clause-of (found_in preds) p.arity p.clauses is.clauses c there

  guard-fine : Fine c.slots (found_in preds) c.guard
  guard-fine = subst (λ (g : GoalTree). Fine c.slots (found_in preds) g) (sym fine.guard) (fine-truth c.slots (found_in preds))

  no-watch : (w : SlotWatch) → Contains c.watches w → EventBelow c.slots w
  no-watch w at = absurd (nothing-in w (subst (λ (ws : List SlotWatch). Contains ws w) fine.watches at))

  no-value : (t : Tree) → c.value ≡ Some t → SpeaksBelow c.slots t
  no-value t at = absurd (let none : None ≡ Some t = sym fine.value ∙ at in cc)

  pub helper-sound : IsSoundClause preds p c
  helper-sound = record {
    slots = record { head = fine.head; guard = slots-below c.slots (found_in preds) c.guard guard-fine; watches = no-watch; body = slots-below c.slots (found_in preds) c.body fine.body; value = no-value };
    arity = fine.fits;
    value = (λ kind. absurd (false≢true (sym is.kind ∙ kind)), λ some. absurd (false≢true (sym (ap is_some fine.value) ∙ some)));
    guard = (goal-good preds free c.slots c.guard guard-fine).known;
    body = (goal-good preds free c.slots c.body fine.body).known;
    quiet = λ quiet. (fine.back, fine.watches);
  }

  pub helper-closed : ClauseCallsDefined preds c
  helper-closed = record { guard = (goal-good preds free c.slots c.guard guard-fine).defined; body = (goal-good preds free c.slots c.body fine.body).defined }

-- ---- the others

pub helper-index : (may : Knows) (p : PredTree) → FineHelper may p → (lists : List (List Mode)) → p.index ≡ Some lists → IsSoundIndex p lists
helper-index may p is lists at = absurd (let none : None ≡ Some lists = sym is.index ∙ at in cc)

pub no-guards : (may : Knows) (hs : List PredTree) → FineHelpers may hs → NoGuards hs
no-guards may hs are p at c there = (clause-of may p.arity p.clauses (helper-of may hs are p at).clauses c there).guard

-- ---- their names

pub record Named (called : Naming) (p : PredTree) : Type 0 where
  pub number : ℕ
  pub is : IsHelper called number p

pub named-of : (called : Naming) (n : ℕ) (ps : List PredTree) → NamedFrom called n ps → (p : PredTree) → Contains ps p → Named called p
unfolding NamedFrom
named-of called n [] named p there = absurd (nothing-in p there)
named-of called n (q ∷ ps) named p there = go (cons-cases q ps p there) (λ later. named-of called _ ps named.1 p later)
  where
    go : (q ≡ p) ⊎ Contains ps p → (Contains ps p → Named called p) → Named called p
    go (inl same) rest = subst (Named called) same (record { number = n; is = named.0 })
    go (inr later) rest = rest later

-- the language gives none of them
pub helper-free : (known : Knows) (called : Naming) → AreOwn known called → (p : PredTree) → Named called p → is_given p.function p.name p.arity ≡ false
helper-free known called own p named =
    ap (λ (b : Bool). is_given b p.name p.arity) named.is.kind ∙ ap (λ (m : List ℕ). is_given false m p.arity) named.is.name ∙ own.plain named.number p.arity

-- ---- what is loud

-- what a program has is called by name, and what the tables have is none of a core program
pub loud : (known : Knows) (preds : List PredTree) → ((name : List ℕ) (k : ℕ) → IsTrue (known.predicate name k) → is_called_by_name (find_pred false name k preds) ≡ true) → NamesAreFree preds → (c : Callee) (pred : PredTree) → c.function ≡ false →
    IsTrue (known.predicate c.name c.arity) ⊎ IsTrue (is_machine_predicate c.name c.arity) → IsQuiet preds c pred → ⊥
loud known preds has free c pred kind which quiet = go which
  where
    found : find_pred false c.name c.arity preds ≡ Some pred
    found = ap (λ (b : Bool). find_pred b c.name c.arity preds) (sym kind) ∙ quiet.0

    go : IsTrue (known.predicate c.name c.arity) ⊎ IsTrue (is_machine_predicate c.name c.arity) → ⊥
    go (inl own) = false≢true (sym (ap is_called_by_name found ∙ ap not quiet.1) ∙ has c.name c.arity own)
    go (inr machine) = false≢true (sym (found-free preds free false c.name c.arity pred found) ∙ machine-given c.name c.arity machine)
