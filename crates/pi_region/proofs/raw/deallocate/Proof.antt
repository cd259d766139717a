-- `deallocate` gives a block back, whatever its cells hold. Assumes `Logic`.
use Rattle.std.proofs.Common.{◌≡◌, ℕ, ◌*◌, ◌^◌, ◌<◌, List, [], ◌∷◌, ◌++◌, refl, ap, sym, subst, ◌∙◌, arith, lit<, w64}
use Rattle.std.proofs.alloc.Calls.{Al, seen, token, Gives, at_gives, Gives-goes, Gives-Gives, Goes-blank}
use Rattle.std.proofs.alloc.Shapes.{after}
use Rattle.std.proofs.raw_atomic.Walks.{proved_at, leaves}
use lib.Dec.{T}
use lib.ListN.{length}
use base.Logic.{id⊢}
use base.Fml.{ftrue, froom, flft}
use mir.Syntax.{Ty, Fn, Args, a_type, dcons, dnil, ty_int, ty_array, ty_unit}
use mir.Val.{Val, vint, vptr, vunit, has_ty, WT}
use mir.MapTy.{inst_fn}
use prog.Capped.{capped_is}
use prog.Wp.{Env, WpFn}
use contract.BorrowLft.{◌⊑◌, ⊑_trans}
use contract.Monad.{fact}
use contract.Running.{tables}
use types.Kit.{‵, raw, ◌⊛◌, given, later, prop, at_ret, ◌$◌, ◌∵◌, !, qed, by, move, drop, use1, split, join, group, learn, rewrite, regoal, fsplit, fjoin, feq_i, flt_l, await}
use types.Part.{whole, sub}
use types.Run.{stop, fld, lit, unit_lit, bin, of_opd, no_more, and_then, first, blocks, exec, returns, enter}
use types.ByLocal.{alloc_all, pass_all, free_all, look_at, get, get_in, sets, lands_last, env}
use denote.Param.{bounded}
use denote.RattleType.{owns}
use denote.RawPtr.{Ptr, block_ptr, in_a_block}
use denote.Signature.{types_at}
use denote.Steps.{nothing, heard}
use denote.Triple.Call.{calls_at_last}
use denote.Triple.Entry.{alive}
use denote.Triple.Table.{framed}
use denote.Triple.Walked.{Stays, stay_dropped, walk_of, Goes-dropped}
use Rattle.pi_region.specs.Ownership.{cells_own, none, lease_owns}
use Rattle.pi_region.proofs.Memory.{cells_to_room}
use Rattle.pi_region.proofs.Values.{start_val, start_told, cells_val, cells_told, lease_val, lease_told}
use Rattle.pi_region.proofs.Walks.{slot_at}
use Rattle.pi_region.specs.contracts.raw.deallocate.{ended, clauses}
use Rattle.pi_region.specs.contracts.raw.deallocate.Key.{name as #self}
use Rattle.pi_region.proofs.raw.deallocate.Statement.{statement}
use Rattle.pi_region.proofs.raw.deallocate.Code as compiled

pub deallocate_spec : {M : Type 1} → statement M
deallocate_spec 𝓤 𝓛 𝓜 𝓡 wired A L g d dd met md =
    let H = 𝓛.H in let En₀ = ended A g d dd in let c = clauses A g d dd 𝓛 𝓜.mem 𝓡.returns in let 𝓣 = tables 𝓤 H 𝓜 𝓡 𝓡.env in
    let args : Args = bounded (a_type ∷ []) (A, tt) (dcons d (dcons dd dnil)) in let fn : Fn = inst_fn args compiled.function in let ps = En₀.signature.params in let ks = En₀.kept in
    let stays : Stays ps ks = (stay_dropped (slot_at 0 ps) ks.0, (stay_dropped (slot_at 1 ps) ks.1.0, (stay_dropped (slot_at 2 ps) ks.1.1.0, (stay_dropped (slot_at 3 ps) ks.1.1.1.0, (stay_dropped (slot_at 4 ps) ks.1.1.1.1.0, tt))))) in
    proved_at 𝓛 En₀ stays c 𝓜 𝓡 (Goes-dropped 𝓛 2 (slot_at 0 ps) ks.0 (λ κs x f. refl), (Goes-dropped 𝓛 2 (slot_at 1 ps) ks.1.0 (λ κs x f. refl), (Goes-dropped 𝓛 2 (slot_at 2 ps) ks.1.1.0 (λ κs x f. refl), (Goes-blank 𝓛 2 (slot_at 3 ps) ks.1.1.1.0 (λ κs x f. tt), (Goes-blank 𝓛 2 (slot_at 4 ps) ks.1.1.1.1.0 (λ κs x f. tt), tt)))))
    (#self args) fn (compiled.unfolded 𝓤 H 𝓜 𝓡 wired (A, tt) d dd) (λ z are.
    let Post = (walk_of 𝓛 En₀ stays c).post z in let κ = z.0.0.0 in let q = z.0.1.0 in let a = z.0.3 in let vss = z.0.4 in let h = a.0.now in let ref = a.0.ref_ptr in
    let p = a.1.0.address in let n = a.1.1.0 in let held = a.1.1.1.0 in let lease = a.1.1.1.1.0 in
    let Y : Al = record { row = A; laws = L; g = g; d = d; drops = dd } in let τ : Ty = ty_array (ty_int w64) n in
    let Asked : Type 0 = (0 < n) × (held.at ≡ p) × (length held.words ≡ n) × (lease.at ≡ p) × (lease.len ≡ n) × (lease.alloc ≡ h) in
    qed 𝓛 ((raw (alive 𝓛 En₀.signature z.0.0 z.0.1) ⊛ ‵ (owns (types_at ps z.0.0) a vss)) ∷ (raw (fact 𝓤 (z.0.0.1.0 ⊑ A.lives)) ⊛ raw (fact 𝓤 Asked)) ∷ []) ∵
    move ! (1 ∷ []) $ split ! $ heard ! (z.0.0.1.0 ⊑ A.lives) (λ le. heard ! Asked (λ asked. split ! $ move ! (1 ∷ []) $
    fsplit ! $ fsplit ! $ drop ! $ use1 𝓛 (‵ (seen Y κ ref h)) (id⊢ 𝓤 _) $ move ! (1 ∷ []) $ fsplit ! $ drop ! $ fsplit ! $ drop ! $
    -- [the cells and the lease; the `&` to the allocator; the tokens]
    fsplit ! $ fsplit ! $ drop ! $ move ! (1 ∷ []) $ fsplit ! $ fsplit ! $ drop ! $ move ! (1 ∷ []) $ drop ! $
    -- [what the lease owns; what the cells own; the `&`; the tokens]
    move ! (1 ∷ []) $ rewrite ! 0 (λ (p' : Ptr). ‵ (cells_own p' held.words)) asked.1 refl $
    in_a_block ! p (λ p'. cells_own p' held.words) (qed 𝓛 (‵ (none held.words) ∷ []) ∵ flt_l ! (λ empty. let long = asked.2 in absurd (omega arith))) (λ b o e. fsplit ! $ flt_l ! (λ small.
    let long = asked.2 in let bytes : n * 8 < 2 ^ 64 = omega arith in
    use1 𝓛 (‵ (froom (ty_array (ty_int w64) (length held.words)) b o)) (cells_to_room 𝓛 b held.words o) $ rewrite ! 0 (λ (k : ℕ). ‵ (froom (ty_array (ty_int w64) k) b o)) asked.2 refl $
    move ! (1 ∷ []) $ rewrite ! 0 (λ (t : A.Denot × Ptr × ℕ). ‵ (lease_owns (token Y t.0) t.1 t.2)) (λ i. (asked.5 i, (asked.3 ∙ e) i, asked.4 i)) refl $
    move ! (3 ∷ []) $ use1 𝓛 (‵ (flft κ q) ⊛ ‵ (flft z.0.0.1.0 z.0.1.1.0) ⊛ ‵ ftrue) (id⊢ 𝓤 _) $ split ! $ move ! (3 ∷ 2 ∷ 4 ∷ 0 ∷ []) $
    -- [room; the right to give it back; the `&`; its token; the other tokens]
    let y = at_gives Y 𝓛 𝓜.mem 𝓡.returns κ q ref h b o (n * 8) 8 τ in
    regoal ! (λ (us : List Val). prop (WpFn 𝓤 H 𝓣.C 𝓣.Λ fn us Post)) (λ i. are.0.0 i ++ ((start_told p vss.1.0 are.1.0 ∙ ap (λ (r : Ptr). start_val r ∷ []) e) i ++ (are.1.1.0.0 i ++ (cells_told vss.1.1.1.0 are.1.1.1.0.0 i ++ (lease_told vss.1.1.1.1.0 are.1.1.1.1.0.0 i ++ []))))) refl $
    enter ! 𝓣.C 𝓣.Λ fn (vptr ref.0 ref.1 ∷ start_val (block_ptr b o) ∷ vint w64 n ∷ cells_val ∷ lease_val ∷ []) Post $
    alloc_all ! (λ l. pass_all ! refl ((tt, tt), ((tt, (tt, tt)), ((tt, record { fits = are.1.1.0.1 }), ((tt, tt), ((tt, (tt, tt)), tt))))) $ let E : Env 𝓤 H = env fn.locals l in
    first ! $ blocks ! $ sets ! (of_opd ! (get_in ! (fld ! refl (stop !)) (sub ! 0 refl (whole !)))) refl (tt, tt) $
    sets ! (bin ! (get ! refl) (lit ! tt) (record { fits = bytes })) refl (tt, record { fits = bytes }) $
    group ! 4 $ use1 𝓛 (raw ((Gives Y 𝓛 𝓜.mem 𝓡.returns).pre y)) (Gives-goes Y 𝓛 𝓜.mem 𝓡.returns κ q ref h (⊑_trans κ z.0.0.1.0 A.lives z.0.2.0 le) b o (n * 8) 8 τ (capped_is (n * 8) bytes) refl bytes (lit< tt)) $
    calls_at_last ! (framed 𝓤 H 𝓜 𝓣) (Gives Y 𝓛 𝓜.mem 𝓡.returns) (met.deallocate dd) y (and_then ! (get ! refl) (and_then ! (get ! refl) (and_then ! (get ! refl) (and_then ! (lit ! tt) (no_more !))))) (λ v.
    use1 𝓛 (later (given (v ≡ vunit) (‵ (flft κ q)))) (Gives-Gives Y 𝓛 𝓜.mem 𝓡.returns κ q ref h b o (n * 8) 8 τ v) $ await ! tt $ learn ! (λ gone. join ! $
    lands_last ! refl (subst (λ (u : Val). T (has_ty ty_unit u) × WT u) (sym gone) (tt, tt)) $ exec ! 𝓣.C 𝓣.Λ E (after 1 fn.body) (at_ret E Post) $
    sets ! (of_opd ! (unit_lit !)) refl (tt, tt) $ returns ! (look_at ! 0 refl) $ free_all ! refl $
    feq_i ! (List Val) (vunit ∷ []) (vunit ∷ []) refl $ nothing ! $ nothing ! $ nothing ! $ fjoin ! $ nothing ! $ fjoin ! $ nothing ! $ fjoin ! $ nothing ! $ fjoin ! $ nothing ! $ fjoin ! $ move ! (3 ∷ 0 ∷ 2 ∷ 1 ∷ []) $
    by ! (leaves 𝓛 En₀ stays c z vunit tt (tt, (tt, (tt, (tt, (tt, tt))))) (tt, (tt, (tt, (tt, (tt, tt))))))))))))))
