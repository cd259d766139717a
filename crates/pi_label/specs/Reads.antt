-- What the reading of options answers, against what they are by definition: a Ref stands for its term. (A User's Guide to Picat, 'Constraints'; the limit and
-- which term is told are own.)
use Rattle.std.specs.Prelude.{◌≡◌, ℕ, ◌<◌, ◌≤◌, List, map, Option, Some, None, option_map, Result, Ok, Err, ⊤}
use Rattle.pi_terms.specs.Tree.{Tree, cells, most_cells}
use Rattle.pi_constraints.specs.Value.{Bindings, value}
use Rattle.pi_constraints.specs.State.{bindings, followed}
use Rattle.pi_constraints.specs.Store.{StoreView, IsTerm}
use Rattle.pi_constraints.specs.declared.store.Ref.{Ref}
use Rattle.pi_effects.specs.Items.{list_items}
use Rattle.pi_effects.specs.declared.fault.Stop.{Stop}
use Rattle.pi_settling.specs.Options.{Objective as Wanted, Options as Asked, Word as Meant, picks, tries, seeks, named_word, Chosen as Had, ReadOptions, options, bad_option, read_options}
use Rattle.pi_label.specs.Words.{variable_word, value_word}
use Rattle.pi_label.specs.declared.options.Objective.{Objective}
use Rattle.pi_label.specs.declared.options.Options.{Options}
use Rattle.pi_label.specs.declared.fault.OptFault.{OptFault}
use Rattle.pi_label.specs.declared.words.Word.{Word}
use Rattle.pi_label.specs.declared.reading.Chosen.{Chosen}

-- ---- words

abbrev pub IsObjective : {M : Type 0} → StoreView M → Objective → Wanted → Type 0
IsObjective v o p = (o.greatest ≡ p.greatest) × IsTerm v o.expression p.expression

abbrev pub AreObjectives : {M : Type 0} → StoreView M → Option Objective → Option Wanted → Type 0
AreObjectives v None None = ⊤
AreObjectives v None (Some p) = ⊥
AreObjectives v (Some o) None = ⊥
AreObjectives v (Some o) (Some p) = IsObjective v o p

abbrev pub ShowsObjective : {M : Type 0} → StoreView M → Option Objective → Option Meant → Type 0
ShowsObjective v None w = w ≡ None
ShowsObjective v (Some o) w = (p : Wanted) × (w ≡ Some (seeks p)) × IsObjective v o p

abbrev pub ShowsWord : {M : Type 0} → StoreView M → Option Word → Option Meant → Type 0
ShowsWord v None w = w ≡ None
ShowsWord v (Some (Word.Picks p)) w = w ≡ Some (picks (variable_word p))
ShowsWord v (Some (Word.Tries t)) w = w ≡ Some (tries (value_word t))
ShowsWord v (Some (Word.Seeks o)) w = ShowsObjective v (Some o) w

-- a word that is an atom
abbrev pub ShowsPlain : List ℕ → Option Word → Type 0
ShowsPlain name None = named_word name ≡ None
ShowsPlain name (Some (Word.Picks p)) = named_word name ≡ Some (picks (variable_word p))
ShowsPlain name (Some (Word.Tries t)) = named_word name ≡ Some (tries (value_word t))
ShowsPlain name (Some (Word.Seeks o)) = ⊥

-- what was chosen so far
pub record AreChosen {M : Type 0} (v : StoreView M) (c : Chosen) (d : Had) : Type 0 where
  pub picked : option_map variable_word c.variable ≡ d.variable
  pub tried : option_map value_word c.value ≡ d.value
  pub sought : AreObjectives v c.objective d.objective

abbrev pub ShowsChosen : {M : Type 0} → StoreView M → Option Chosen → Option Had → Type 0
ShowsChosen v None d = d ≡ None
ShowsChosen v (Some c) d = (e : Had) × (d ≡ Some e) × AreChosen v c e

-- ---- options

pub record AreOptions {M : Type 0} (v : StoreView M) (o : Options) (w : Asked) : Type 0 where
  pub picked : variable_word o.variable ≡ w.variable
  pub tried : value_word o.value ≡ w.value
  pub sought : AreObjectives v o.objective w.objective

-- a Ref tells a term, by its value
abbrev pub Tells : {M : Type 0} → StoreView M → Ref → Tree → Type 0
Tells v r u = (t : Tree) × IsTerm v r t × (value (bindings v.now.state) t ≡ value (bindings v.now.state) u)

abbrev pub ShowsWords : {M : Type 0} → StoreView M → Result Options OptFault → ReadOptions → Type 0
ShowsWords v (Ok o) r = (w : Asked) × (r ≡ options w) × AreOptions v o w
ShowsWords v (Err OptFault.TooLarge) r = ⊥
ShowsWords v (Err (OptFault.BadOption q)) r = (u : Tree) × (r ≡ bad_option u) × Tells v q u
ShowsWords v (Err OptFault.Memory) r = ⊤

-- the options of a term: those of its words, where it is a proper list, and else it is told as it is
abbrev pub words_in : Bindings → Tree → Option (List Tree) → ReadOptions
words_in b t None = bad_option t
words_in b t (Some ts) = read_options (map (followed b) ts)

abbrev pub options_in : Bindings → Tree → ReadOptions
options_in b t = words_in b t (list_items b t)

-- why a term with no items is refused
abbrev pub refusal_of : Stop → Ref → OptFault
refusal_of (Stop.Raised f) r = OptFault.BadOption r
refusal_of Stop.Memory r = OptFault.Memory

-- a term whose size is judged, and why it is refused
abbrev pub IsUnmeasured : Tree → OptFault → Type 0
IsUnmeasured u OptFault.TooLarge = most_cells < cells u
IsUnmeasured u (OptFault.BadOption q) = ⊥
IsUnmeasured u OptFault.Memory = ⊤

abbrev pub ShowsMeasured : {A : Type 0} → Tree → Result A OptFault → Type 0
ShowsMeasured u (Ok x) = cells u ≤ most_cells
ShowsMeasured u (Err e) = IsUnmeasured u e

-- the size is judged first
abbrev pub ShowsOptions : {M : Type 0} → StoreView M → Tree → Result Options OptFault → Type 0
ShowsOptions v t (Ok o) = (cells (value (bindings v.now.state) t) ≤ most_cells) × ShowsWords v (Ok o) (options_in (bindings v.now.state) t)
ShowsOptions v t (Err OptFault.TooLarge) = most_cells < cells (value (bindings v.now.state) t)
ShowsOptions v t (Err (OptFault.BadOption q)) = (cells (value (bindings v.now.state) t) ≤ most_cells) × ShowsWords v (Err (OptFault.BadOption q)) (options_in (bindings v.now.state) t)
ShowsOptions v t (Err OptFault.Memory) = ⊤
