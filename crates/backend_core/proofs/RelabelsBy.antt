-- What a home writes of a STORE, from the rows that it gives or is refused.
use Rattle.std.proofs.Common.{◌≡◌, ℕ, Bool, true, false, List, refl, ap, Ok, Err, inl, inr}
use Rattle.mail_message.specs.Boxes.{Content}
use Rattle.mail_message.specs.FlagSets.{Flags}
use Rattle.mail_message.specs.declared.message.Row.{Row}
use Rattle.mail_message.specs.declared.mode.Mode.{Mode}
use Rattle.mail_store.specs.Store.{rows_stored, IsStoredBy}
use Rattle.mail_store.specs.declared.fault.StoreFault.TheVariants.{TooManyFlags}
use Rattle.link_msg.specs.declared.outcome.Outcome.TheVariants.{Limit}
use Rattle.backend_core.specs.Flags.{rows_plan, relabels_unless}
use Rattle.backend_core.specs.OpPlan.{looks}

pub relabels_rows : (name : List ℕ) (box : Content) (uids : List ℕ) (mode : Mode) (flags : Flags) (rows : List Row) (many : Bool)
    → IsStoredBy many (rows_stored box uids mode flags) (Ok rows) → rows_plan name box rows ≡ relabels_unless name box uids mode flags many
unfolding relabels_unless
relabels_rows name box uids mode flags rows true is = elim is [ inl e ↦ cc | inr e ↦ cc ]
relabels_rows name box uids mode flags rows false is = ap (rows_plan name box) is

pub relabels_none : (name : List ℕ) (box : Content) (uids : List ℕ) (mode : Mode) (flags : Flags) (many : Bool)
    → IsStoredBy many (rows_stored box uids mode flags) (Err TooManyFlags) → looks name Limit ≡ relabels_unless name box uids mode flags many
unfolding relabels_unless
relabels_none name box uids mode flags true is = refl
relabels_none name box uids mode flags false is = cc
