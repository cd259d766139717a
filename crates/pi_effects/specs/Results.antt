-- What the body of a built-in answers, against what the built-in does: a Ref stands for its term, a fault for the term that it raises. Want of memory says
-- nothing. (Own.)
use Rattle.std.specs.Prelude.{◌≡◌, Result, Ok, Err, ⊤}
use Rattle.pi_terms.specs.Tree.{Tree}
use Rattle.pi_constraints.specs.State.{State}
use Rattle.pi_constraints.specs.Store.{StoreView, IsTerm, Stays, Gives as GivesTerm}
use Rattle.pi_constraints.specs.declared.store.Ref.{Ref}
use Rattle.pi_effects.specs.Effect.{FunctionEffect, Gives, Refuses}
use Rattle.pi_effects.specs.Answer.{Answer}
use Rattle.pi_effects.specs.Balls.{IsBall}
use Rattle.pi_effects.specs.declared.fault.Stop.{Stop}

-- what stops a body is what is raised
abbrev pub Stops : {M A : Type 0} → StoreView M → Stop → Answer A → Type 0
Stops v (Stop.Raised fault) a = (ball : Tree) × (a ≡ Err ball) × IsBall v fault ball
Stops v Stop.Memory a = ⊤

-- what is there as `is` tells it, or what is raised in its place
abbrev pub Shows : {M A B : Type 0} → (A → B → Type 0) → StoreView M → Result A Stop → Answer B → Type 0
Shows {B} is v (Ok x) a = (y : B) × (a ≡ Ok y) × is x y
Shows is v (Err stop) a = Stops v stop a

-- the same of a value that is told as it is: a test, an integer, a text
abbrev pub ShowsSame : {M A : Type 0} → StoreView M → Result A Stop → Answer A → Type 0
ShowsSame v (Ok x) a = a ≡ Ok x
ShowsSame v (Err stop) a = Stops v stop a

-- of a term that is put into a store: a fault is one of the store before
abbrev pub ShowsTerm : {M : Type 0} → StoreView M → StoreView M → Result Ref Stop → Answer Tree → Type 0
ShowsTerm before after result a = Shows (IsTerm after) before result a

-- and of a term with the state that it is given in; with a fault the state is the one before
abbrev pub ShowsEffect : {M : Type 0} → StoreView M → StoreView M → Result Ref Stop → FunctionEffect → Type 0
ShowsEffect before after (Ok made) e = (t : Tree) × (s : State) × (e ≡ Gives t s) × GivesTerm before after s made t
ShowsEffect before after (Err (Stop.Raised fault)) e = (ball : Tree) × (e ≡ Refuses ball) × IsBall before fault ball × Stays before after
ShowsEffect before after (Err Stop.Memory) e = ⊤
