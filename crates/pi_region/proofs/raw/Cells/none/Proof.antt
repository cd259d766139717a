-- `none` makes the owner of no words. Assumes `Logic`.
use Rattle.std.proofs.Common.{◌≡◌, List, [], ◌∷◌, ◌++◌, refl}
use mir.Val.{Val}
use base.Logic.{emp}
use base.Fml.{ftrue}
use prog.Wp.{WpFn}
use contract.Monad.{fact, fact_i}
use contract.Running.{tables}
use types.Kit.{‵, raw, ◌⊛◌, prop, ◌$◌, ◌∵◌, !, qed, by, move, drop, use0, split, regoal, fjoin}
use types.Part.{agg}
use types.Run.{no_more, returns, enter}
use types.ByLocal.{alloc_all, pass_all, free_all, look_at, sets}
use denote.RattleType.{owns}
use denote.Signature.{types_at}
use denote.Steps.{nothing}
use denote.Triple.Entry.{alive}
use denote.Triple.Walked.{Stays, stay_dropped, walk_of, Goes-dropped}
use Rattle.std.proofs.raw_atomic.Walks.{proved_at, leaves}
use Rattle.pi_region.specs.Ownership.{cells_own}
use Rattle.pi_region.proofs.Memory.{no_cells}
use Rattle.pi_region.proofs.Values.{start_val, start_told, start_typed, cells_val, cells_fields, cells_made}
use Rattle.pi_region.proofs.Walks.{slot_at}
use Rattle.pi_region.specs.contracts.raw.Cells.{the_row as Cells}
use Rattle.pi_region.specs.contracts.raw.Cells.none.{ended, clauses}
use Rattle.pi_region.specs.contracts.raw.Cells.none.Key.{name as #self}
use Rattle.pi_region.proofs.raw.Cells.none.Statement.{statement}
use Rattle.pi_region.proofs.raw.Cells.none.Code as compiled

abbrev stays : Stays ended.signature.params ended.kept
stays = (stay_dropped (slot_at 0 ended.signature.params) ended.kept.0, tt)

pub none_spec : {M : Type 1} → statement M
none_spec 𝓤 𝓛 𝓜 𝓡 wired =
    let H = 𝓛.H in let c = clauses 𝓛 𝓜.mem 𝓡.returns in let 𝓣 = tables 𝓤 H 𝓜 𝓡 𝓡.env in
    proved_at 𝓛 ended stays c 𝓜 𝓡 (Goes-dropped 𝓛 0 (slot_at 0 ended.signature.params) ended.kept.0 (λ κs x f. refl), tt) #self compiled.function (compiled.unfolded 𝓤 H 𝓜 𝓡 wired) (λ z are.
    let Post = (walk_of 𝓛 ended stays c).post z in let p = z.0.3.0.address in
    let made : Cells.Denot = record { at = p; words = [] } in
    qed 𝓛 ((raw (alive 𝓛 ended.signature z.0.0 z.0.1) ⊛ ‵ (owns (types_at ended.signature.params z.0.0) z.0.3 z.0.4)) ∷ ‵ ftrue ∷ []) ∵ move ! (1 ∷ []) $ drop ! $ split ! $ move ! (1 ∷ []) $ drop ! $
    -- [the tokens]
    regoal ! (λ (us : List Val). prop (WpFn 𝓤 H 𝓣.C 𝓣.Λ compiled.function us Post)) (λ i. start_told p z.0.4.0 are.0 i ++ []) refl $
    enter ! 𝓣.C 𝓣.Λ compiled.function (start_val p ∷ []) Post $ alloc_all ! (λ l. pass_all ! refl (start_typed p, tt) $
    sets ! (agg ! (no_more !)) refl (tt, tt) $ returns ! (look_at ! 0 refl) $ free_all ! refl $
    use0 𝓛 (‵ (cells_own p [])) (no_cells 𝓛 p) $ use0 𝓛 (‵ (cells_fields (cells_val ∷ []))) (cells_made 𝓛) $ fjoin ! $
    use0 𝓛 (raw (fact 𝓤 ((p ≡ p) × ([] ≡ [])))) (fact_i 𝓤 ((p ≡ p) × ([] ≡ [])) (emp 𝓤) (refl, refl)) $ nothing ! $ nothing ! $ fjoin ! $ move ! (3 ∷ 0 ∷ 2 ∷ 1 ∷ []) $
    by ! (leaves 𝓛 ended stays c z cells_val made (tt, tt) (tt, tt))))
