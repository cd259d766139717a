-- `load` reads a word that the cells lend. Assumes `Logic`.
use Rattle.std.proofs.Common.{◌≡◌, ℕ, ◌+◌, ◌*◌, ◌^◌, ◌<◌, List, [], ◌∷◌, ◌++◌, refl, ap, ◌∙◌, arith, w64}
use Rattle.std.specs.Prelude.{Option, Some, None}
use Rattle.std.proofs.Words.{word_in, word_out}
use Rattle.std.proofs.VecSteps.Shapes.{after}
use Rattle.std.proofs.raw_atomic.Walks.{proved_at, leaves}
use lib.ListN.{get_or}
use base.Logic.{emp, id⊢}
use base.Fml.{ftrue, flft}
use mir.Val.{Val, vint, vptr}
use prog.Wp.{Env, WpFn}
use contract.Monad.{fact, fact_i}
use contract.Running.{tables}
use types.Kit.{‵, raw, ◌⊛◌, prop, at_ret, ◌$◌, ◌∵◌, !, qed, by, move, keep, drop, use0, use1, split, join, rewrite, regoal, fsplit, fjoin, flt_l, done}
use types.Part.{whole, sub}
use types.Run.{stop, fld, lit, bin, load, look, of_opd, first, blocks, exec, returns, enter}
use types.ByLocal.{alloc_all, pass_all, free_all, look_at, get, get_in, through, sets, sets_last, env}
use denote.Builtin.{u64}
use denote.Memory.{hidden_shr}
use denote.Opens.{hide, unhide, shr_dup}
use denote.Plain.{uint_Makes, uint_row_laws}
use denote.RattleType.{owns}
use denote.RawPtr.{Ptr, block_ptr, in_a_block}
use denote.Signature.{types_at}
use denote.Steps.{nothing, owned, heard}
use denote.Triple.Entry.{alive}
use denote.Triple.Walked.{Stays, stay_dropped, walk_of, Goes-dropped}
use Rattle.pi_region.specs.Ownership.{IsWritten, cell_lent, none, cells_lent}
use Rattle.pi_region.proofs.Lists.{written_within}
use Rattle.pi_region.proofs.Memory.{cell_seen}
use Rattle.pi_region.proofs.Values.{start_val, start_told}
use Rattle.pi_region.proofs.Walks.{slot_at}
use Rattle.pi_region.specs.contracts.raw.Cells.{the_row as Cells}
use Rattle.pi_region.specs.contracts.raw.Cells.load.{ended, clauses}
use Rattle.pi_region.specs.contracts.raw.Cells.load.Key.{name as #self}
use Rattle.pi_region.proofs.raw.Cells.load.Statement.{statement}
use Rattle.pi_region.proofs.raw.Cells.load.Code as compiled

abbrev stays : Stays ended.signature.params ended.kept
stays = (stay_dropped (slot_at 0 ended.signature.params) ended.kept.0, (stay_dropped (slot_at 1 ended.signature.params) ended.kept.1.0, (stay_dropped (slot_at 2 ended.signature.params) ended.kept.1.1.0, tt)))

pub load_spec : {M : Type 1} → statement M
load_spec 𝓤 𝓛 𝓜 𝓡 wired =
    let H = 𝓛.H in let c = clauses 𝓛 𝓜.mem 𝓡.returns in let 𝓣 = tables 𝓤 H 𝓜 𝓡 𝓡.env in let fn = compiled.function in
    proved_at 𝓛 ended stays c 𝓜 𝓡 (Goes-dropped 𝓛 1 (slot_at 0 ended.signature.params) ended.kept.0 (λ κs x f. refl), (Goes-dropped 𝓛 1 (slot_at 1 ended.signature.params) ended.kept.1.0 (λ κs x f. refl), (Goes-dropped 𝓛 1 (slot_at 2 ended.signature.params) ended.kept.1.1.0 (λ κs x f. refl), tt)))
    #self fn (compiled.unfolded 𝓤 H 𝓜 𝓡 wired) (λ z are.
    let Post = (walk_of 𝓛 ended stays c).post z in let κ = z.0.0.0 in let q = z.0.1.0 in let self = z.0.3.0 in let d = self.now in
    let p = z.0.3.1.0.address in let i = z.0.3.1.1.0 in
    let Asked : Type 0 = (p ≡ d.at) × IsWritten d.words i in
    qed 𝓛 ((raw (alive 𝓛 ended.signature z.0.0 z.0.1) ⊛ ‵ (owns (types_at ended.signature.params z.0.0) z.0.3 z.0.4)) ∷ raw (fact 𝓤 Asked) ∷ []) ∵ move ! (1 ∷ []) $ heard ! Asked (λ asked.
    let w = asked.1.0 in let within = written_within d.words i w asked.1.1 in
    split ! $ move ! (1 ∷ []) $ fsplit ! $ fsplit ! $ drop ! $ move ! (1 ∷ []) $ drop ! $ use1 𝓛 (‵ (hidden_shr Cells κ d self.ref_ptr.0 self.ref_ptr.1)) (id⊢ 𝓤 _) $ unhide ! $ fsplit ! $ drop ! $
    in_a_block ! d.at (λ p'. cells_lent p' d.words κ) (qed 𝓛 (‵ (none d.words) ∷ []) ∵ flt_l ! (λ empty. absurd (omega arith))) (λ b o e. fsplit ! $ flt_l ! (λ small.
    let at = i * 8 + o in let far : i * 8 < 2 ^ 64 = omega arith in
    use1 𝓛 (‵ (cell_lent b at (get_or d.words i None) κ)) (cell_seen 𝓛 b κ o d.words i at refl within) $
    rewrite ! 0 (λ (c' : Option ℕ). ‵ (cell_lent b at c' κ)) asked.1.1 refl $ hide ! $
    move ! (1 ∷ []) $ use1 𝓛 (‵ (flft κ q) ⊛ ‵ ftrue) (id⊢ 𝓤 _) $ split ! $ move ! (2 ∷ []) $
    -- [the `&` to the word; its token; nothing]
    regoal ! (λ (us : List Val). prop (WpFn 𝓤 H 𝓣.C 𝓣.Λ fn us Post)) (λ j. are.0.0 j ++ ((start_told p z.0.4.1.0 are.1.0 ∙ ap (λ (r : Ptr). start_val r ∷ []) (asked.0 ∙ e)) j ++ (are.1.1.0.0 j ++ []))) refl $
    enter ! 𝓣.C 𝓣.Λ fn (vptr self.ref_ptr.0 self.ref_ptr.1 ∷ start_val (block_ptr b o) ∷ vint w64 i ∷ []) Post $
    alloc_all ! (λ l. pass_all ! refl ((tt, tt), ((tt, (tt, tt)), ((tt, record { fits = are.1.1.0.1 }), tt))) $
    let E : Env 𝓤 H = env fn.locals l in
    word_in ! tt w b at (qed 𝓛 (‵ (hidden_shr u64 κ w b at) ∷ []) ∵ shr_dup ! u64 (uint_row_laws w64) w b at κ $ done !) (λ q' fits.
    -- [nothing; the word; the way back; the `&` to it; nothing]
    first ! $ blocks ! $
    sets ! (bin ! (get ! refl) (lit ! tt) (record { fits = far })) refl (tt, record { fits = far }) $
    sets ! (bin ! (get_in ! (fld ! refl (stop !)) (sub ! 0 refl (whole !))) (get ! refl) tt) refl (tt, tt) $
    sets_last ! (of_opd ! (load ! (through ! refl (stop !)) (look ! 1 refl))) refl (tt, record { fits = fits }) $
    exec ! 𝓣.C 𝓣.Λ E (after 1 fn.body) (at_ret E Post) $
    sets ! (of_opd ! (get ! refl)) refl (tt, record { fits = fits }) $
    word_out ! tt w b at fits $ returns ! (look_at ! 0 refl) $ free_all ! refl $
    move ! (0 ∷ 2 ∷ []) $ join ! $ keep ! (0 ∷ []) $
    owned ! u64 _ (uint_Makes 𝓛 w64) w _ (refl, fits) $
    use0 𝓛 (raw (fact 𝓤 (get_or d.words i None ≡ Some w))) (fact_i 𝓤 (get_or d.words i None ≡ Some w) (emp 𝓤) asked.1.1) $
    nothing ! $ nothing ! $ fjoin ! $ nothing ! $ fjoin ! $ nothing ! $ fjoin ! $ move ! (3 ∷ 0 ∷ 2 ∷ 1 ∷ []) $
    by ! (leaves 𝓛 ended stays c z (vint w64 w) w (tt, (tt, (tt, tt))) (tt, (tt, (tt, tt))))))))))
