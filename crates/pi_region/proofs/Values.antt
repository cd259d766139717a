-- The machine values of the crate's structs: what is owned tells them, and is made of nothing.
use Rattle.std.proofs.Common.{◌≡◌, List, [], ◌∷◌, ◌++◌, refl, ◌∙◌, lit<}
use seplogic.Ra.Ura.{Ura}
use lib.Dec.{T}
use mir.Syntax.{Ty, ty_ptr, ty_struct, tcons, tnil}
use mir.Val.{Val, vstruct, vcons, vnil, of_list, has_ty, WT}
use base.Logic.{ent, emp, sep}
use base.Fml.{Fml}
use types.Logic.{Logic, sem}
use types.Kit.{‵, ◌$◌, ◌∵◌, !, qed, move, fjoin, fpack, feq_i, done}
use denote.RattleType.{RattleType, Valss}
use denote.RawPtr.{Ptr, RawPtr, block_ptr, null_ptr, ptr_val}
use denote.Shadow.{shadow, makes_shadow}
use denote.Steps.{nothing}
use denote.Struct.Struct.{Struct, within}
use denote.Struct.Declared as Declared
use denote.Struct.Tuple.{Tuple, tuple_type}

-- the value is one of the type
abbrev pub Good : Ty → Val → Type 0
Good τ v = T (has_ty τ v) × WT v

-- a struct by its fields alone: what it owns does not read its name
abbrev pub plainly : List RattleType → RattleType
plainly Rs = Struct (record { name = []; args = []; types = []; fields = Rs })

-- the one word of a `Start`
abbrev pub start_val : Ptr → Val
start_val p = vstruct (vcons (ptr_val p) vnil)

abbrev pub start_own : Ptr → List Val → Fml
start_own p = (plainly (RawPtr ∷ [])).own_val (p, tt)

pub start_told : (p : Ptr) (vs : List Val) → shadow (start_own p vs) → vs ≡ start_val p ∷ []
start_told p vs s = s.1.0 ∙ (λ i. vstruct (of_list (s.1.1.0 i ++ [])) ∷ [])

pub start_made : {M : Type 1} {𝓤 : Ura M} (𝓛 : Logic 𝓤) (p : Ptr) → ent 𝓤 (emp 𝓤) (sem 𝓛 (start_own p (start_val p ∷ [])))
start_made 𝓛 p = makes_shadow 𝓛 (start_own p (start_val p ∷ [])) (λ _. (tt, (tt, tt))) ((ptr_val p ∷ [], tt), (refl, (refl, tt)))

pub start_typed : (p : Ptr) → Good (ty_struct [] (tcons ty_ptr tnil)) (start_val p)
start_typed (block_ptr b o) = (tt, (tt, tt))
start_typed null_ptr = (tt, (record { fits = lit< tt }, tt))

-- `Cells` has no field
abbrev pub cells_val : Val
cells_val = vstruct vnil

abbrev pub cells_fields : List Val → Fml
cells_fields = (plainly []).own_val tt

pub cells_told : (vs : List Val) → shadow (cells_fields vs) → vs ≡ cells_val ∷ []
cells_told vs s = s.1.0

pub cells_made : {M : Type 1} {𝓤 : Ura M} (𝓛 : Logic 𝓤) → ent 𝓤 (emp 𝓤) (sem 𝓛 (cells_fields (cells_val ∷ [])))
cells_made 𝓛 = makes_shadow 𝓛 (cells_fields (cells_val ∷ [])) (λ _. (tt, tt)) (tt, (refl, tt))

-- the field of a `Lease` takes no space
abbrev pub lease_val : Val
lease_val = vstruct (vcons (vstruct vnil) vnil)

abbrev pub lease_fields : List Val → Fml
lease_fields = (plainly (plainly [] ∷ [])).own_val (tt, tt)

pub lease_told : (vs : List Val) → shadow (lease_fields vs) → vs ≡ lease_val ∷ []
lease_told vs s = s.1.0 ∙ (λ i. vstruct (of_list (s.1.1.0.1.0 i ++ [])) ∷ [])

pub lease_made : {M : Type 1} {𝓤 : Ura M} (𝓛 : Logic 𝓤) → ent 𝓤 (emp 𝓤) (sem 𝓛 (lease_fields (lease_val ∷ [])))
lease_made 𝓛 = makes_shadow 𝓛 (lease_fields (lease_val ∷ [])) (λ _. (tt, ((λ _. (tt, tt)), tt))) ((vstruct vnil ∷ [], tt), (refl, ((tt, (refl, tt)), tt)))

abbrev pub three_val : Val → Val → Val → Val
three_val u v w = vstruct (vcons u (vcons v (vcons w vnil)))

-- a tuple of three is made of its parts
pub three_of : {M : Type 1} {𝓤 : Ura M} (𝓛 : Logic 𝓤) (R S T' : RattleType) (x : R.Denot) (y : S.Denot) (z : T'.Denot) (u v w : Val)
    → ent 𝓤 (sep 𝓤 (sem 𝓛 (R.own_val x (u ∷ []))) (sep 𝓤 (sem 𝓛 (S.own_val y (v ∷ []))) (sem 𝓛 (T'.own_val z (w ∷ []))))) (sem 𝓛 ((Tuple (R ∷ S ∷ T' ∷ [])).own_val (x, y, z) (three_val u v w ∷ [])))
three_of 𝓛 R S T' x y z u v w =
    qed 𝓛 (‵ (R.own_val x (u ∷ [])) ∷ ‵ (S.own_val y (v ∷ [])) ∷ ‵ (T'.own_val z (w ∷ [])) ∷ []) ∵ nothing ! $ move ! (3 ∷ 0 ∷ []) $ fjoin ! $ move ! (2 ∷ 0 ∷ []) $ fjoin ! $ move ! (1 ∷ 0 ∷ []) $ fjoin ! $
    feq_i ! (List Val) (three_val u v w ∷ []) (three_val u v w ∷ []) refl $ fjoin ! $
    fpack ! (Valss (R ∷ S ∷ T' ∷ [])) (within (Declared.shape (tuple_type (R ∷ S ∷ T' ∷ []))) (x, (y, (z, tt))) (three_val u v w ∷ [])) (u ∷ [], (v ∷ [], (w ∷ [], tt))) $ done !
