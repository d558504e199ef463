-- `new` makes the empty struct, and its ghost field is the empty list.
use mathlib.Core.Path.{refl}
use mathlib.Core.List.{[], ◌∷◌}
use seplogic.Ra.Ura.{Ura}
use mir.Val.{vstruct, vnil}
use base.Logic.{SProp}
use prog.Memory.{Memory}
use prog.Routine.{Routine}
use prog.Wp.{WpFn, Tables}
use types.Logic.{Logic}
use contract.Monad.{Fun}
use contract.Running.{tables, tables_of}
use sound.WpLaws.{WpFn-mono}
use types.Kit.{raw, ◌$◌, ◌∵◌, !, qed, keep, join, suffices, done}
use types.Run.{no_more, returns, enter}
use types.Part.{agg}
use types.ByLocal.{alloc_all, pass_all, free_all, look_at, sets}
use denote.Shadow.{pure_i}
use denote.Steps.{nothing}
use denote.Triple.Entry.{on_entry}
use denote.Triple.Spec.{Meets, triple_of}
use denote.Triple.Table.{entered}
use denote.Triple.Walked.{says, ends_at, walked, walk_Meets}
use Rattle.mur_disk.specs.declared.past.Past.{Past}
use Rattle.mur_disk.specs.contracts.past.Past as past
use Rattle.mur_disk.specs.contracts.past.Past.new as here
use Rattle.mur_disk.specs.contracts.past.Past.new.Key.{name as key}
use Rattle.mur_disk.proofs.past.Past.new.Statement as stated
use Rattle.mur_disk.proofs.past.Past.new.Code as code

abbrev none : Past
none = record { moments = [] }

meets : {M : Type 1} {𝓤 : Ura M} (𝓛 : Logic 𝓤) (memory : Memory → SProp 𝓤) (run : Routine → Fun 𝓤) (𝓣 : Tables 𝓤 𝓛.H)
    → Meets 𝓛 here.signature (WpFn 𝓤 𝓛.H 𝓣.C 𝓣.Λ code.function) (here.spec 𝓛 memory run)
meets {𝓤 = 𝓤} 𝓛 memory run 𝓣 =
    walk_Meets 𝓛 here.ended tt tt (here.clauses 𝓛 memory run) (WpFn 𝓤 𝓛.H 𝓣.C 𝓣.Λ code.function) (WpFn-mono 𝓤 𝓛.H 𝓛.laws 𝓣 code.function)
    (walked 𝓛 here.ended tt (here.clauses 𝓛 memory run) (WpFn 𝓤 𝓛.H 𝓣.C 𝓣.Λ code.function) (λ κs. tt) (λ κs. tt) (λ κs qs bounds args ghosts _.
    qed 𝓛 (raw (on_entry 𝓛 here.signature κs qs args tt) ∷ raw ((here.clauses 𝓛 memory run κs args).requires ghosts) ∷ []) ∵ keep ! [] $
    enter ! 𝓣.C 𝓣.Λ code.function [] _ $ alloc_all ! (λ locals. pass_all ! refl tt $
    sets ! (agg ! (no_more !)) refl (tt, tt) $
    returns ! (look_at ! 0 refl) $ free_all ! refl $
    pure_i ! (past.the_row.own_val none (vstruct vnil ∷ [])) ((λ values. (tt, tt)), tt) ((tt, (refl, tt)), tt) $
    suffices ! _ (ends_at 𝓛 here.ended tt (here.clauses 𝓛 memory run) ((κs, qs, bounds, args, tt), ghosts) (vstruct vnil) none tt tt) $ says ! refl $
    nothing ! $ join ! $ nothing ! $ done !)))

pub new_spec : {M : Type 1} → stated.statement M
unfolding tables_of
new_spec 𝓤 𝓛 𝓜 𝓡 wired =
    entered 𝓤 𝓛.H (triple_of 𝓛 here.signature (here.spec 𝓛 𝓜.mem 𝓡.returns))
    (tables 𝓤 𝓛.H 𝓜 𝓡 𝓡.env).C (tables 𝓤 𝓛.H 𝓜 𝓡 𝓡.env).Λ key code.function (code.unfolded 𝓤 𝓛.H 𝓜 𝓡 wired)
    (meets 𝓛 𝓜.mem 𝓡.returns (tables_of 𝓤 𝓛.H 𝓜 (tables 𝓤 𝓛.H 𝓜 𝓡 𝓡.env)))
