-- What stands in a text whose helpers a core program has, at levels where so many quiet calls may still nest.
use Rattle.std.proofs.Common.{ℕ, ◌+◌, ◌≤◌, List, [], ◌∷◌, ◌++◌, length, arith}
use Rattle.std.specs.Prelude.{⊤}
use Rattle.pi_syntax.specs.ProgramTree.{ProgramTree}
use Rattle.pi_core.specs.CoreTree.{PredTree}
use Rattle.pi_meaning.specs.Shared.Level.{Level}
use Rattle.pi_meaning.specs.CoreMeaning.Builtins.{Builtins}
use Rattle.pi_meaning.specs.OverNames.Stages.{RulesSetting}
use Rattle.pi_meaning.specs.OverNames.Rules.{level_for}
use Rattle.pi_meaning.specs.OverNames.Texts.{Names}
use Rattle.pi_meaning.proofs.OverNames.LoopNames.{AreNamed, behind-named}
use Rattle.pi_rewrite_spec.specs.Forms.{Knows}
use Rattle.pi_rewrite_spec.specs.Sites.{Site, behind_site}
use Rattle.pi_rewrite_spec.proofs.RunLemmas.{Alike}
use Rattle.pi_rewrite_laws.proofs.RootGoals.{NamesKeepRoots}
use Rattle.pi_rewrite_laws.proofs.TurnLevels.{core_level, EachLevel, HasHelper}

-- ---- what is fixed

-- what a program has, its core program, and a depth
pub record Fixture : Type 0 where
  pub known : Knows
  pub set : RulesSetting
  pub builtins : Builtins
  pub program : ProgramTree
  pub preds : List PredTree
  pub most : ℕ

-- a level of a depth up to that one
pub record Here (c : Fixture) : Type 0 where
  pub depth : ℕ
  pub calls : ℕ
  pub up : depth ≤ c.most

abbrev pub slots_level : (c : Fixture) → Here c → Level
slots_level c w = core_level c.builtins c.preds w.depth w.calls

abbrev pub names_level : (c : Fixture) → Here c → Level
names_level c w = level_for c.set c.program w.depth

-- calls of what the program has do the same at each of them, and calls by name keep roots
pub record AlikeUpTo (c : Fixture) : Type 0 where
  pub alike : EachLevel c.builtins c.preds c.set c.program c.most (λ l m. Alike c.known c.set.calls c.builtins l m) 0
  pub roots : NamesKeepRoots c.builtins

pub alike-here : (c : Fixture) → AlikeUpTo c → (w : Here c) → Alike c.known c.set.calls c.builtins (slots_level c w) (names_level c w)
alike-here c each w = each.alike w.depth w.calls w.up (omega arith)

-- ---- helpers

abbrev pub HaveHelpers : Fixture → List PredTree → Type 0
HaveHelpers c [] = ⊤
HaveHelpers c (p ∷ ps) = HasHelper c.builtins c.preds p × HaveHelpers c ps

pub have-first : (c : Fixture) (ps qs : List PredTree) → HaveHelpers c (ps ++ qs) → HaveHelpers c ps
have-first c [] qs has = tt
have-first c (p ∷ ps) qs has = (has.0, have-first c ps qs has.1)

pub have-last : (c : Fixture) (ps qs : List PredTree) → HaveHelpers c (ps ++ qs) → HaveHelpers c qs
have-last c [] qs has = has
have-last c (p ∷ ps) qs has = have-last c ps qs has.1

-- what stands at a site has its helpers, so many of them
pub record Stands (c : Fixture) (w : Here c) (s : Site) (n : ℕ) (ps : List PredTree) : Type 0 where
  pub named : AreNamed s.before
  pub few : n ≤ w.calls
  pub fits : n ≤ length c.preds
  pub has : HaveHelpers c ps

-- the first of two
pub stands-first : (c : Fixture) (w : Here c) (s : Site) (n m : ℕ) (ps qs : List PredTree) → Stands c w s (n + m) (ps ++ qs) → Stands c w s n ps
stands-first c w s n m ps qs is = record { named = is.named; few = omega (arith, is.few); fits = omega (arith, is.fits); has = have-first c ps qs is.has }

-- and the other one, which stands behind names
pub stands-last : (c : Fixture) (w : Here c) (s : Site) (names : Names) (k n m : ℕ) (ps qs : List PredTree) → Stands c w s (n + m) (ps ++ qs) → Stands c w (behind_site s names k) m qs
stands-last c w s names k n m ps qs is = record { named = behind-named s.before names is.named; few = omega (arith, is.few); fits = omega (arith, is.fits); has = have-last c ps qs is.has }

-- the third of three
pub stands-third : (c : Fixture) (w : Here c) (s : Site) (names : Names) (j k n m : ℕ) (ps qs rs : List PredTree) → Stands c w s (k + (n + m)) (ps ++ (qs ++ rs)) → Stands c w (behind_site s names j) m rs
stands-third c w s names j k n m ps qs rs is = record {
  named = behind-named s.before names is.named;
  few = omega (arith, is.few);
  fits = omega (arith, is.fits);
  has = have-last c qs rs (have-last c ps (qs ++ rs) is.has);
}
