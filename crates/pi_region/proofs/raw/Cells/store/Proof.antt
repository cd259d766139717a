-- `store` writes one cell. Assumes `Logic`.
use Rattle.std.proofs.Common.{◌≡◌, ℕ, ◌+◌, ◌*◌, ◌^◌, ◌<◌, List, [], ◌∷◌, ◌++◌, refl, sym, subst, ◌∙◌, arith, w64}
use Rattle.std.specs.Prelude.{Some, None}
use Rattle.std.proofs.VecSteps.Shapes.{after}
use Rattle.std.proofs.raw_atomic.Walks.{proved_at, leaves}
use lib.ListN.{get_or, set, length, length-set}
use base.Fraction.{full_share}
use base.Logic.{emp, id⊢}
use base.Fml.{ftrue, fat, froom, flft}
use mir.Syntax.{ty_int}
use mir.Val.{Val, vint, vptr, vunit}
use prog.Wp.{Env, WpFn}
use contract.Monad.{fact, fact_i}
use contract.Running.{tables}
use types.Kit.{‵, raw, ◌⊛◌, prop, at_ret, ◌$◌, ◌∵◌, !, qed, by, move, drop, use0, use1, use2, split, join, rewrite, regoal, fsplit, fsplit3, fjoin, fjoin3, feq_i, flt_i, flt_l}
use types.Part.{whole, sub}
use types.Run.{stop, fld, lit, unit_lit, bin, init, of_opd, assigns_last, first, blocks, exec, returns, enter}
use types.ByLocal.{alloc_all, pass_all, free_all, look_at, get, get_in, through, take_at, give_at, sets, env}
use denote.Param.{layout}
use denote.Plain.{uint_in}
use denote.RattleType.{owns}
use denote.RawPtr.{Ptr, in_a_block}
use denote.Signature.{plain, types_at}
use denote.Steps.{nothing, opens, closes, heard}
use denote.Triple.Entry.{alive}
use denote.Triple.Walked.{Stays, stay_dropped, stay_ref, walk_of, Goes-dropped, Goes-ref}
use Rattle.pi_region.specs.Ownership.{cell, cells, none, cells_own}
use Rattle.pi_region.proofs.Memory.{besides, cell_out, cell_in, cell_room}
use Rattle.pi_region.proofs.Values.{start_val, start_told, start_typed}
use Rattle.pi_region.proofs.Walks.{slot_at}
use Rattle.pi_region.specs.contracts.raw.Cells.{the_row as Cells}
use Rattle.pi_region.specs.contracts.raw.Start.{the_row as Start}
use Rattle.pi_region.specs.contracts.raw.Cells.store.{ended, clauses}
use Rattle.pi_region.specs.contracts.raw.Cells.store.Key.{name as #self}
use Rattle.pi_region.proofs.raw.Cells.store.Statement.{statement}
use Rattle.pi_region.proofs.raw.Cells.store.Code as compiled

abbrev stays : Stays ended.signature.params ended.kept
stays = (stay_ref (0 ∷ []) tt (plain (λ _. Cells)), (stay_dropped (slot_at 1 ended.signature.params) ended.kept.1.0, (stay_dropped (slot_at 2 ended.signature.params) ended.kept.1.1.0, (stay_dropped (slot_at 3 ended.signature.params) ended.kept.1.1.1.0, tt))))

pub store_spec : {M : Type 1} → statement M
store_spec 𝓤 𝓛 𝓜 𝓡 wired =
    let H = 𝓛.H in let c = clauses 𝓛 𝓜.mem 𝓡.returns in let 𝓣 = tables 𝓤 H 𝓜 𝓡 𝓡.env in let fn = compiled.function in
    proved_at 𝓛 ended stays c 𝓜 𝓡 (Goes-ref 𝓛 1 0 tt (plain (λ _. Cells)), (Goes-dropped 𝓛 1 (slot_at 1 ended.signature.params) ended.kept.1.0 (λ κs x f. refl), (Goes-dropped 𝓛 1 (slot_at 2 ended.signature.params) ended.kept.1.1.0 (λ κs x f. refl), (Goes-dropped 𝓛 1 (slot_at 3 ended.signature.params) ended.kept.1.1.1.0 (λ κs x f. refl), tt))))
    #self fn (compiled.unfolded 𝓤 H 𝓜 𝓡 wired) (λ z are.
    let Post = (walk_of 𝓛 ended stays c).post z in let κ = z.0.0.0 in let q = z.0.1.0 in let self = z.0.3.0 in let d = self.now in
    let rb = self.ref_ptr.0 in let ro = self.ref_ptr.1 in let p = z.0.3.1.0.address in let i = z.0.3.1.1.0 in let w = z.0.3.1.1.1.0 in
    let Asked : Type 0 = (p ≡ d.at) × (i < length d.words) in
    let new : Cells.Denot = record { at = d.at; words = set d.words i (Some w) } in
    let Said : Type 0 = (new.at ≡ d.at) × (new.words ≡ set d.words i (Some w)) in
    qed 𝓛 ((raw (alive 𝓛 ended.signature z.0.0 z.0.1) ⊛ ‵ (owns (types_at ended.signature.params z.0.0) z.0.3 z.0.4)) ∷ raw (fact 𝓤 Asked) ∷ []) ∵ move ! (1 ∷ []) $ heard ! Asked (λ asked.
    let within = asked.1 in let fits_word = are.1.1.1.0.1 in
    split ! $ move ! (1 ∷ []) $ fsplit ! $ move ! (1 ∷ []) $ drop ! $ fsplit3 ! $ move ! (3 ∷ []) $ use1 𝓛 (‵ (flft κ q) ⊛ ‵ ftrue) (id⊢ 𝓤 _) $ split ! $ move ! (3 ∷ 4 ∷ 0 ∷ []) $
    -- [what is known of the borrow; the borrow; its token; nothing; its address]
    regoal ! (λ (us : List Val). prop (WpFn 𝓤 H 𝓣.C 𝓣.Λ fn us Post)) (λ j. are.0.0 j ++ (start_told p z.0.4.1.0 are.1.0 j ++ (are.1.1.0.0 j ++ (are.1.1.1.0.0 j ++ [])))) refl $
    enter ! 𝓣.C 𝓣.Λ fn (vptr rb ro ∷ start_val p ∷ vint w64 i ∷ vint w64 w ∷ []) Post $
    alloc_all ! (λ l. pass_all ! refl ((tt, tt), (start_typed p, ((tt, record { fits = are.1.1.0.1 }), ((tt, record { fits = fits_word }), tt)))) $
    let E : Env 𝓤 H = env fn.locals l in
    opens ! tt Cells {h = d} rb ro (λ vs. move ! (1 ∷ []) $ fsplit ! $ move ! (1 ∷ []) $
    in_a_block ! d.at (λ p'. cells_own p' d.words) (qed 𝓛 (‵ (none d.words) ∷ []) ∵ flt_l ! (λ empty. absurd (omega arith))) (λ b o e. fsplit ! $ flt_l ! (λ small.
    let at = i * 8 + o in let far : i * 8 < 2 ^ 64 = omega arith in
    take_at ! 2 $ rewrite ! 0 (λ (p' : Ptr). ‵ (fat full_share (layout Start) (l 2) 0 (start_val p'))) (asked.0 ∙ e) refl $ give_at ! 2 $
    use1 𝓛 (‵ (cell b at (get_or d.words i None)) ⊛ ‵ (besides 𝓛 b o d.words i)) (cell_out 𝓛 b o d.words i at refl within) $ split ! $
    use1 𝓛 (‵ (froom (ty_int w64) b at)) (cell_room 𝓛 b at (get_or d.words i None)) $
    -- [room; the other cells; the fields; their cell; the open borrow, in three entries; nothing; its address]
    first ! $ blocks ! $
    sets ! (bin ! (get ! refl) (lit ! tt) (record { fits = far })) refl (tt, record { fits = far }) $
    sets ! (bin ! (get_in ! (fld ! refl (stop !)) (sub ! 0 refl (whole !))) (get ! refl) tt) refl (tt, tt) $
    assigns_last ! (of_opd ! (get ! refl)) (through ! refl (stop !)) (init ! 0 refl (tt, record { fits = fits_word })) $
    exec ! 𝓣.C 𝓣.Λ E (after 1 fn.body) (at_ret E Post) $ sets ! (of_opd ! (unit_lit !)) refl (tt, tt) $
    use1 𝓛 (‵ (cell b at (Some w))) (uint_in 𝓛 full_share w64 w b at) $
    use2 𝓛 (‵ (cells b o new.words)) (cell_in 𝓛 b o d.words i at (Some w) refl within) $
    flt_i ! (length new.words * 8) (2 ^ 63) (subst (λ (n : ℕ). n * 8 < 2 ^ 63) (sym (length-set d.words i (Some w))) small) $ fjoin ! $
    rewrite ! 0 (λ (p' : Ptr). ‵ (cells_own p' new.words)) (sym e) refl $ move ! (1 ∷ 0 ∷ []) $ fjoin ! $ move ! (1 ∷ 0 ∷ []) $ closes ! tt Cells new vs rb ro $
    -- [what is known of the borrow; the borrow; its token; nothing; its address]
    returns ! (look_at ! 0 refl) $ free_all ! refl $
    move ! (2 ∷ 3 ∷ []) $ join ! $ move ! (3 ∷ 1 ∷ 2 ∷ []) $ fjoin3 ! $ nothing ! $ nothing ! $ fjoin ! $ nothing ! $ fjoin ! $ nothing ! $ fjoin ! $ move ! (1 ∷ 0 ∷ []) $ fjoin ! $
    feq_i ! (List Val) (vunit ∷ []) (vunit ∷ []) refl $
    use0 𝓛 (raw (fact 𝓤 Said)) (fact_i 𝓤 Said (emp 𝓤) (refl, refl)) $ move ! (3 ∷ 2 ∷ 1 ∷ 0 ∷ []) $
    by ! (leaves 𝓛 ended stays c z vunit tt (new, (tt, (tt, (tt, tt)))) (tt, (tt, (tt, (tt, tt)))))))))))
