-- `then` adds one record at the end; as ghost code the list has no bytes at run time.
use Rattle.std.proofs.Common.{[], ◌∷◌, ◌++◌, refl}
use Rattle.std.proofs.raw_atomic.Walks.{proved}
use mir.Syntax.{named}
use mir.Val.{Val, vptr, vstruct, vnil}
use types.Kit.{‵, raw, ◌⊛◌, ◌$◌, ◌∵◌, !, qed, keep, move, split, suffices, done}
use types.Run.{no_more, returns, enter}
use types.Part.{agg}
use types.ByLocal.{alloc_all, pass_all, free_all, look_at, sets}
use contract.Running.{tables}
use denote.Exit.{yes}
use denote.RattleType.{owns}
use denote.Ref.{shr_vals, shr_Tells}
use denote.Shadow.{pure_i}
use denote.Signature.{plain, types_at}
use denote.Triple.Entry.{alive}
use denote.Triple.Walked.{says, stay_none_ref, Goes-none_ref, Stays, walk_of, ends_at}
use Rattle.kcl_audit_streams.specs.contracts.puts.Puts as puts
use Rattle.kcl_audit_streams.specs.contracts.puts.Puts.then as f
use Rattle.kcl_audit_streams.specs.contracts.puts.Puts.then.Key as key
use Rattle.kcl_audit_streams.specs.contracts.records.Sized as sized
use Rattle.kcl_audit_streams.proofs.puts.Puts.then.Statement.{statement}
use Rattle.kcl_audit_streams.proofs.puts.Puts.then.Code as code

abbrev stayed : Stays f.ended.signature.params f.ended.kept
stayed = (
  stay_none_ref (0 ∷ []) tt (plain (λ _. puts.the_row)) yes,
  (stay_none_ref (1 ∷ []) tt (plain (λ _. sized.the_row)) yes, tt),
)

pub then_spec : {M : Type 1} → statement M
then_spec 𝓤 𝓛 𝓜 𝓡 wired =
    let c = f.clauses 𝓛 𝓜.mem 𝓡.returns in let W = walk_of 𝓛 f.ended stayed c in let 𝓣 = tables 𝓤 𝓛.H 𝓜 𝓡 𝓡.env in
    proved 𝓛 f.ended stayed c 𝓜 𝓡 (
      Goes-none_ref 𝓛 2 (0 ∷ []) tt (plain (λ _. puts.the_row)) yes,
      (Goes-none_ref 𝓛 2 (1 ∷ []) tt (plain (λ _. sized.the_row)) yes, tt),
    )
    key.name code.function (code.unfolded 𝓤 𝓛.H 𝓜 𝓡 wired) (λ κs. (shr_vals, (shr_vals, tt)))
    (λ κs. (shr_Tells (named 0) κs.0 puts.the_row, (shr_Tells (named 1) κs.1.0 sized.the_row, tt)))
    (λ κs qs bounds a n are.
    let old : Val = vptr a.0.ref_ptr.0 a.0.ref_ptr.1 in let added : Val = vptr a.1.0.ref_ptr.0 a.1.0.ref_ptr.1 in
    let y : W.Ghost = ((κs, qs, bounds, a, (old ∷ [], (added ∷ [], tt))), n) in
    let made : puts.the_row.Denot = record { items = a.0.now.items ++ (a.1.0.now ∷ []) } in
    qed 𝓛 ((raw (alive 𝓛 f.signature κs qs) ⊛ ‵ (owns (types_at f.signature.params κs) a y.0.4))
    ∷ raw ((c κs a).requires n) ∷ []) ∵
    keep ! (0 ∷ []) $ split ! $
    enter ! 𝓣.C 𝓣.Λ code.function (old ∷ added ∷ []) (W.post y) $ alloc_all !
    (λ l. pass_all ! refl ((tt, tt), ((tt, tt), tt)) $
    sets ! (agg ! (no_more !)) refl (tt, tt) $ returns ! (look_at ! 0 refl) $ free_all ! refl $
    suffices ! _ (ends_at 𝓛 f.ended stayed c y (vstruct vnil) made (tt, (tt, tt)) (tt, (tt, tt))) $ says ! refl $
    pure_i ! (puts.the_row.own_val made (vstruct vnil ∷ [])) ((λ vss. (tt, tt)), tt) ((tt, (refl, tt)), tt) $
    move ! (1 ∷ 2 ∷ 0 ∷ []) $ done !))
