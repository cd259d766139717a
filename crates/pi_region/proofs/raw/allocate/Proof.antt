-- `allocate` cuts a new block into empty cells, and keeps the right to give it back. Assumes `Logic`.
use Rattle.std.proofs.Common.{◌≡◌, ℕ, ◌*◌, ◌^◌, ◌<◌, List, [], ◌∷◌, ◌++◌, true, false, refl, sym, subst, arith, lit<, w64}
use Rattle.std.specs.Prelude.{None, Ok, Err}
use Rattle.std.proofs.alloc.Calls.{Al, seen, Answer-typed, Takes, at_takes, Answered, Takes-goes, Takes-gives, answers}
use Rattle.std.proofs.ResultValues.{ok_of, err_of}
use Rattle.std.proofs.alloc.Shapes.{after, head, arm_body}
use Rattle.std.proofs.raw_atomic.Walks.{proved_at, leaves}
use Rattle.std.specs.contracts.alloc.AllocError as AE
use lib.ListN.{length, replicate, length-replicate}
use base.Logic.{emp, id⊢}
use base.Fml.{ftrue, flft}
use mir.Syntax.{Ty, Fn, Args, a_type, dcons, dnil, ty_int, ty_array}
use mir.Val.{Val, vint, vptr, vstruct, vcons, vnil}
use mir.MapTy.{inst_fn}
use prog.Capped.{capped_is}
use prog.Wp.{Env, WpFn}
use contract.BorrowLft.{◌⊑◌, ⊑_trans}
use contract.Monad.{fact, fact_i}
use contract.Running.{tables}
use types.Kit.{‵, raw, ◌⊛◌, later, prop, at_ret, ◌$◌, ◌∵◌, !, qed, by, move, drop, use0, use1, use2, use3, split, join, regoal, fsplit, fjoin, flt_i, await}
use types.Match.{live, vrt, in_variant}
use types.Part.{whole, agg}
use types.Run.{stop, fld, lit, bin, of_opd, no_more, and_then, first, switches_on, exec, returns, enter}
use types.ByLocal.{alloc_all, pass_all, free_all, look_at, get, get_in, get_tag, sets, sets_last, lands_as, env}
use denote.Laws.{Is}
use denote.Param.{param, bounded}
use denote.RattleType.{RattleType, owns}
use denote.RawPtr.{Ptr, block_ptr}
use denote.Signature.{types_at, type_at}
use denote.Steps.{nothing, heard, owned}
use denote.Struct.Struct.{Struct, Struct-Makes}
use denote.Struct.Declared as Declared
use denote.Struct.Tuple.{Tuple}
use denote.Triple.Call.{calls_at}
use denote.Triple.Entry.{alive}
use denote.Triple.Table.{framed}
use denote.Triple.Walked.{Stays, stay_dropped, walk_of, Goes-dropped}
use Rattle.pi_region.specs.Ownership.{cells}
use Rattle.pi_region.proofs.Memory.{cells_of_room}
use Rattle.pi_region.proofs.Values.{start_val, start_own, start_made, cells_val, cells_fields, cells_made, lease_val, lease_fields, lease_made, three_val, three_of}
use Rattle.pi_region.proofs.Walks.{slot_at, then_runs}
use Rattle.pi_region.specs.contracts.raw.Cells.{the_row as Cells}
use Rattle.pi_region.specs.contracts.raw.Start.{the_row as Start}
use Rattle.pi_region.specs.contracts.raw.Lease as lease
use Rattle.pi_region.specs.contracts.raw.allocate.{ended, clauses}
use Rattle.pi_region.specs.contracts.raw.allocate.Key.{name as #self}
use Rattle.pi_region.proofs.raw.allocate.Statement.{statement}
use Rattle.pi_region.proofs.raw.allocate.Code as compiled

pub allocate_spec : {M : Type 1} → statement M
allocate_spec 𝓤 𝓛 𝓜 𝓡 wired A L g d dd met md =
    let H = 𝓛.H in let En₀ = ended A g d dd in let c = clauses A g d dd 𝓛 𝓜.mem 𝓡.returns in let 𝓣 = tables 𝓤 H 𝓜 𝓡 𝓡.env in
    let args : Args = bounded (a_type ∷ []) (A, tt) (dcons d (dcons dd dnil)) in let fn : Fn = inst_fn args compiled.function in
    let stays : Stays En₀.signature.params En₀.kept = (stay_dropped (slot_at 0 En₀.signature.params) En₀.kept.0, (stay_dropped (slot_at 1 En₀.signature.params) En₀.kept.1.0, tt)) in
    proved_at 𝓛 En₀ stays c 𝓜 𝓡 (Goes-dropped 𝓛 2 (slot_at 0 En₀.signature.params) En₀.kept.0 (λ κs x f. refl), (Goes-dropped 𝓛 2 (slot_at 1 En₀.signature.params) En₀.kept.1.0 (λ κs x f. refl), tt))
    (#self args) fn (compiled.unfolded 𝓤 H 𝓜 𝓡 wired (A, tt) d dd) (λ z are.
    let Post = (walk_of 𝓛 En₀ stays c).post z in let κ = z.0.0.0 in let q = z.0.1.0 in let a = z.0.3 in let h = a.0.now in let ref = a.0.ref_ptr in let n = a.1.0 in
    let Y : Al = record { row = A; laws = L; g = g; d = d; drops = dd } in let Z : RattleType = param 0 A in
    let τ : Ty = ty_array (ty_int w64) n in
    let y = at_takes Y 𝓛 𝓜.mem 𝓡.returns κ q ref h (n * 8) 8 τ in
    let Lease : RattleType = lease.the_row Z g in let Three : RattleType = Tuple (Start ∷ Cells ∷ Lease ∷ []) in let Out : RattleType = type_at En₀.signature.result z.0.0 in
    let Asked : Type 0 = n * 8 < 2 ^ 63 in
    qed 𝓛 ((raw (alive 𝓛 En₀.signature z.0.0 z.0.1) ⊛ ‵ (owns (types_at En₀.signature.params z.0.0) a z.0.4)) ∷ (raw (fact 𝓤 (z.0.0.1.0 ⊑ A.lives)) ⊛ raw (fact 𝓤 Asked)) ∷ []) ∵
    move ! (1 ∷ []) $ split ! $ heard ! (z.0.0.1.0 ⊑ A.lives) (λ le. heard ! Asked (λ asked. split ! $ move ! (1 ∷ []) $
    fsplit ! $ fsplit ! $ drop ! $ move ! (1 ∷ []) $ drop ! $ use1 𝓛 (‵ (seen Y κ ref h)) (id⊢ 𝓤 _) $ move ! (1 ∷ []) $ use1 𝓛 (‵ (flft κ q) ⊛ ‵ (flft z.0.0.1.0 z.0.1.1.0) ⊛ ‵ ftrue) (id⊢ 𝓤 _) $ split ! $ move ! (2 ∷ 0 ∷ []) $
    let bytes : n * 8 < 2 ^ 64 = omega arith in
    -- [the `&` to the allocator; its token; the other tokens]
    regoal ! (λ (us : List Val). prop (WpFn 𝓤 H 𝓣.C 𝓣.Λ fn us Post)) (λ i. are.0.0 i ++ (are.1.0.0 i ++ [])) refl $
    enter ! 𝓣.C 𝓣.Λ fn (vptr ref.0 ref.1 ∷ vint w64 n ∷ []) Post $
    alloc_all ! (λ l. pass_all ! refl ((tt, tt), ((tt, record { fits = are.1.0.1 }), tt)) $ let E : Env 𝓤 H = env fn.locals l in
    sets ! (bin ! (get ! refl) (lit ! tt) (record { fits = bytes })) refl (tt, record { fits = bytes }) $
    use2 𝓛 (raw ((Takes Y 𝓛 𝓜.mem 𝓡.returns).pre y)) (Takes-goes Y 𝓛 𝓜.mem 𝓡.returns κ q ref h (⊑_trans κ z.0.0.1.0 A.lives z.0.2.0 le) (n * 8) 8 τ (capped_is (n * 8) bytes) refl bytes (lit< tt)) $
    calls_at ! (framed 𝓤 H 𝓜 𝓣) (Takes Y 𝓛 𝓜.mem 𝓡.returns) (met.allocate dd) y (and_then ! (get ! refl) (and_then ! (get ! refl) (and_then ! (lit ! tt) (no_more !)))) (λ v.
    use1 𝓛 (later (raw (Answered Y 𝓛 𝓜.mem 𝓡.returns h τ v) ⊛ ‵ (flft κ q))) (Takes-gives Y 𝓛 𝓜.mem 𝓡.returns κ q ref h (n * 8) 8 τ v) $ await ! tt $ split ! $
    answers Y ! 𝓜.mem 𝓡.returns h τ v
    (λ b o e.
    let p : Ptr = block_ptr b o in
    let start : Start.Denot = record { address = p } in let made : Cells.Denot = record { at = p; words = replicate n None } in let held : Lease.Denot = record { mark = record {}; at = p; len = n; alloc = h } in
    let out : Val = three_val (start_val p) cells_val lease_val in
    let Said : Type 0 = (p ≡ p) × (replicate n None ≡ replicate n None) × (p ≡ p) × (n ≡ n) × (h ≡ h) in
    move ! (2 ∷ 3 ∷ []) $ join ! $ move ! (1 ∷ 2 ∷ []) $ lands_as ! e refl (Answer-typed true b o) $
    -- [room; the right to give it back; the tokens]
    first ! $ switches_on ! (get_tag ! (vrt ! refl (fld ! refl (stop !))) (whole !)) $ exec ! 𝓣.C 𝓣.Λ E (arm_body 0 (head (after 2 fn.body))) (then_runs 𝓛 𝓣.C 𝓣.Λ E (after 3 fn.body) (at_ret E Post)) $
    sets ! (of_opd ! (get_in ! (vrt ! refl (fld ! refl (stop !))) (in_variant ! 0 0 refl refl (whole !)))) refl (tt, tt) $ sets ! (of_opd ! (get ! refl)) refl (tt, tt) $
    sets ! (agg ! (and_then ! (get ! refl) (no_more !))) refl (tt, (tt, tt)) $ sets ! (agg ! (no_more !)) refl (tt, tt) $
    sets ! (agg ! (no_more !)) refl (tt, tt) $ sets ! (agg ! (and_then ! (get ! refl) (no_more !))) refl (tt, (tt, tt)) $
    sets ! (agg ! (and_then ! (get ! refl) (and_then ! (get ! refl) (and_then ! (get ! refl) (no_more !))))) refl (tt, ((tt, tt), (tt, ((tt, tt), tt)))) $
    sets_last ! (agg ! (and_then ! (lit ! tt) (and_then ! (get ! refl) (no_more !)))) refl (tt, (record { fits = lit< tt }, (((tt, tt), (tt, ((tt, tt), tt))), tt))) $
    exec ! 𝓣.C 𝓣.Λ E (after 3 fn.body) (at_ret E Post) $ sets ! (of_opd ! (get ! refl)) refl (tt, (record { fits = lit< tt }, (((tt, tt), (tt, ((tt, tt), tt))), tt))) $
    returns ! (look_at ! 0 refl) $ free_all ! refl $
    use1 𝓛 (‵ (cells b o (replicate n None))) (cells_of_room 𝓛 b n o) $
    flt_i ! (length (replicate n None) * 8) (2 ^ 63) (subst (λ (k : ℕ). k * 8 < 2 ^ 63) (sym (length-replicate n None)) asked) $ fjoin ! $
    use0 𝓛 (‵ (cells_fields (cells_val ∷ []))) (cells_made 𝓛) $ fjoin ! $ move ! (1 ∷ []) $ use0 𝓛 (‵ (lease_fields (lease_val ∷ []))) (lease_made 𝓛) $ fjoin ! $
    move ! (1 ∷ 0 ∷ []) $ use0 𝓛 (‵ (start_own p (start_val p ∷ []))) (start_made 𝓛 p) $
    use3 𝓛 (‵ (Three.own_val (start, made, held) (out ∷ []))) (three_of 𝓛 Start Cells Lease start made held (start_val p) cells_val lease_val) $
    use1 𝓛 (‵ (Out.own_val (Ok (start, made, held)) (live 0 (vcons out vnil) ∷ []))) (ok_of 𝓛 Three AE.the_row (start, made, held) out) $
    use0 𝓛 (raw (fact 𝓤 Said)) (fact_i 𝓤 Said (emp 𝓤) (refl, refl, refl, refl, refl)) $ nothing ! $ nothing ! $ fjoin ! $ nothing ! $ fjoin ! $ move ! (3 ∷ 0 ∷ 2 ∷ 1 ∷ []) $
    by ! (leaves 𝓛 En₀ stays c z (live 0 (vcons out vnil)) (Ok (start, made, held)) (tt, (tt, tt)) (tt, (tt, tt))))
    (λ e.
    let Refusal : RattleType = Struct (Declared.shape AE.the_type) in let none : Val = live 1 (vcons (vstruct vnil) vnil) in
    join ! $ lands_as ! e refl (Answer-typed false 0 0) $
    first ! $ switches_on ! (get_tag ! (vrt ! refl (fld ! refl (stop !))) (whole !)) $ exec ! 𝓣.C 𝓣.Λ E (arm_body 1 (head (after 2 fn.body))) (then_runs 𝓛 𝓣.C 𝓣.Λ E (after 3 fn.body) (at_ret E Post)) $
    sets ! (of_opd ! (get_in ! (vrt ! refl (fld ! refl (stop !))) (in_variant ! 1 0 refl refl (whole !)))) refl (tt, tt) $
    sets_last ! (agg ! (and_then ! (lit ! tt) (and_then ! (get ! refl) (no_more !)))) refl (tt, (record { fits = lit< tt }, (tt, tt))) $
    exec ! 𝓣.C 𝓣.Λ E (after 3 fn.body) (at_ret E Post) $ sets ! (of_opd ! (get ! refl)) refl (tt, (record { fits = lit< tt }, (tt, tt))) $
    returns ! (look_at ! 0 refl) $ free_all ! refl $
    owned ! Refusal (Is Refusal) (Struct-Makes 𝓛 (Declared.shape AE.the_type) tt) tt (vstruct vnil ∷ []) (tt, (refl, tt)) $
    use1 𝓛 (‵ (Out.own_val (Err (record {})) (none ∷ []))) (err_of 𝓛 Three AE.the_row (record {}) (vstruct vnil)) $
    use0 𝓛 (raw (fact 𝓤 (Unit {0}))) (fact_i 𝓤 (Unit {0}) (emp 𝓤) tt) $ nothing ! $ nothing ! $ fjoin ! $ nothing ! $ fjoin ! $ move ! (3 ∷ 0 ∷ 2 ∷ 1 ∷ []) $
    by ! (leaves 𝓛 En₀ stays c z none (Err (record {})) (tt, (tt, tt)) (tt, (tt, tt)))))))))
