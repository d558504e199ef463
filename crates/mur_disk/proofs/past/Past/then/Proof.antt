-- `then` makes the empty struct, and its ghost field is the list that the clause names: the body has nothing to do.
use mathlib.Core.Path.{refl}
use mathlib.Core.List.{[], ◌∷◌, ◌++◌}
use seplogic.Ra.Ura.{Ura}
use mir.Syntax.{named}
use mir.Val.{Val, vptr, vstruct, vnil}
use base.Logic.{SProp, ent, emp, via, fst∗}
use base.Fml.{Fml}
use prog.Memory.{Memory}
use prog.Routine.{Routine}
use prog.Wp.{Calls, Loops, WpFn, Tables}
use types.Logic.{Logic}
use contract.Lifetimes.{Lfts, Shares}
use contract.Monad.{Fun}
use contract.Running.{tables, tables_of}
use sound.WpLaws.{WpFn-mono}
use types.Kit.{‵, raw, ◌$◌, ◌∵◌, !, qed, move, suffices, done}
use types.Run.{no_more, returns, enter}
use types.Part.{agg}
use types.ByLocal.{alloc_all, pass_all, free_all, look_at, sets}
use denote.Exit.{yes}
use denote.RattleType.{owns}
use denote.Ref.{shr_vals, shr_Tells}
use denote.Shadow.{pure_i}
use denote.Signature.{plain, types_at}
use denote.Triple.Entry.{on_entry, alive, Args}
use denote.Triple.Spec.{Meets, triple_of}
use denote.Triple.Table.{entered}
use denote.Triple.Walked.{says, stay_none_ref, Stays, walk_of, Walks, ends_at, walked, Goes-none_ref, walk_Meets}
use Rattle.mur_disk.specs.declared.past.Past.{Past}
use Rattle.mur_disk.specs.contracts.past.Past as past
use Rattle.mur_disk.specs.contracts.held.Held as held
use Rattle.mur_disk.specs.contracts.past.Past.then as here
use Rattle.mur_disk.specs.contracts.past.Past.then.Key.{name as key}
use Rattle.mur_disk.proofs.past.Past.then.Statement as stated
use Rattle.mur_disk.proofs.past.Past.then.Code as code

-- both arguments are borrowed
abbrev stayed : Stays (here.ended).signature.params (here.ended).kept
stayed = (stay_none_ref (0 ∷ []) tt (plain (λ _. past.the_row)) yes, (stay_none_ref (1 ∷ []) tt (plain (λ _. held.the_row)) yes, tt))

module _ {M : Type 1} {𝓤 : Ura M} (𝓛 : Logic 𝓤) (memory : Memory → SProp 𝓤) (run : Routine → Fun 𝓤) (C : Calls 𝓤 𝓛.H) (Λ : Loops 𝓤 𝓛.H) where
  open 𝓛 use {H}

  module _ (lifetimes : Lfts 2) (shares : Shares 2) (args : Args here.signature lifetimes) where
    abbrev self_at : Val
    self_at = vptr args.0.ref_ptr.0 args.0.ref_ptr.1

    abbrev held_at : Val
    held_at = vptr args.1.0.ref_ptr.0 args.1.0.ref_ptr.1

    abbrev one_more : Past
    one_more = record { moments = args.0.now.moments ++ args.1.0.now ∷ [] }

    abbrev bound : (walk_of 𝓛 here.ended stayed (here.clauses 𝓛 memory run)).Ghost
    bound = ((lifetimes, shares, tt, args, (self_at ∷ [], (held_at ∷ [], tt))), tt)

    abbrev passed : Fml
    passed = owns (types_at here.signature.params lifetimes) args (self_at ∷ [], (held_at ∷ [], tt))

    walk : ent 𝓤 (on_entry 𝓛 here.signature lifetimes shares args (self_at ∷ [], (held_at ∷ [], tt)))
        (WpFn 𝓤 H C Λ code.function (self_at ∷ held_at ∷ []) ((walk_of 𝓛 here.ended stayed (here.clauses 𝓛 memory run)).post bound))
    walk =
        qed 𝓛 (raw (alive 𝓛 here.signature lifetimes shares) ∷ ‵ passed ∷ []) ∵ enter ! C Λ code.function (self_at ∷ held_at ∷ []) _ $
        alloc_all ! (λ locals. pass_all ! refl ((tt, tt), ((tt, tt), tt)) $ sets ! (agg ! (no_more !)) refl (tt, tt) $
        returns ! (look_at ! 0 refl) $ free_all ! refl $
        suffices ! _ (ends_at 𝓛 here.ended stayed (here.clauses 𝓛 memory run) bound (vstruct vnil) one_more (tt, (tt, tt)) (tt, (tt, tt))) $
        says ! refl $ pure_i ! (past.the_row.own_val one_more (vstruct vnil ∷ [])) ((λ values. (tt, tt)), tt) ((tt, (refl, tt)), tt) $
        move ! (1 ∷ 2 ∷ 0 ∷ []) $ done !)

  walks : Walks 𝓛 here.ended stayed (WpFn 𝓤 H C Λ code.function) (here.clauses 𝓛 memory run)
  walks =
      walked 𝓛 here.ended stayed (here.clauses 𝓛 memory run) (WpFn 𝓤 H C Λ code.function) (λ κs. (shr_vals, (shr_vals, tt)))
      (λ κs. (shr_Tells (named 0) κs.0 past.the_row, (shr_Tells (named 1) κs.1.0 held.the_row, tt)))
      (λ κs qs bounds args ghosts are. via 𝓤 _ (fst∗ 𝓤 _ (emp 𝓤)) (walk κs qs args))

meets : {M : Type 1} {𝓤 : Ura M} (𝓛 : Logic 𝓤) (memory : Memory → SProp 𝓤) (run : Routine → Fun 𝓤) (𝓣 : Tables 𝓤 𝓛.H)
    → Meets 𝓛 here.signature (WpFn 𝓤 𝓛.H 𝓣.C 𝓣.Λ code.function) (here.spec 𝓛 memory run)
meets {𝓤 = 𝓤} 𝓛 memory run 𝓣 =
    walk_Meets 𝓛 here.ended stayed (
      Goes-none_ref 𝓛 2 (0 ∷ []) tt (plain (λ _. past.the_row)) yes,
      (Goes-none_ref 𝓛 2 (1 ∷ []) tt (plain (λ _. held.the_row)) yes, tt),
    )
    (here.clauses 𝓛 memory run) (WpFn 𝓤 𝓛.H 𝓣.C 𝓣.Λ code.function) (WpFn-mono 𝓤 𝓛.H 𝓛.laws 𝓣 code.function) (walks 𝓛 memory run 𝓣.C 𝓣.Λ)

pub then_spec : {M : Type 1} → stated.statement M
unfolding tables_of
then_spec 𝓤 𝓛 𝓜 𝓡 wired =
    entered 𝓤 𝓛.H (triple_of 𝓛 here.signature (here.spec 𝓛 𝓜.mem 𝓡.returns))
    (tables 𝓤 𝓛.H 𝓜 𝓡 𝓡.env).C (tables 𝓤 𝓛.H 𝓜 𝓡 𝓡.env).Λ key code.function (code.unfolded 𝓤 𝓛.H 𝓜 𝓡 wired)
    (meets 𝓛 𝓜.mem 𝓡.returns (tables_of 𝓤 𝓛.H 𝓜 (tables 𝓤 𝓛.H 𝓜 𝓡 𝓡.env)))
