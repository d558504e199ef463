-- What a STORE leaves, from what mail_store says of it.
use Rattle.std.proofs.Common.{◌≡◌, ◌≢◌, Bool, true, false, List, subst, Ok, Err, inl, inr}
use Rattle.mail_message.specs.Boxes.{Content}
use Rattle.mail_message.specs.declared.message.Row.{Row}
use Rattle.mail_store.specs.Store.{stored, rows_stored, IsStoredBy}
use Rattle.mail_store.specs.declared.fault.StoreFault.{StoreFault}
use Rattle.mail_store.specs.declared.fault.StoreFault.TheVariants.{Memory}
use Rattle.mur_model.specs.declared.session.Turn.{Turn}
use Rattle.mur_model.specs.declared.commands.store.FlagStore.{FlagStore}
use Rattle.mur_model.specs.declared.view.View.{View}
use Rattle.mur_model.specs.Left.{IsLeft, box_after}
use Rattle.mur_model.specs.Selected.{rows_of}
use Rattle.mur_model.specs.StoreFlags.{stored_at, store_told, store_refused}

pub stored_worked : (view : View) (it : FlagStore) (box left : Content) (given : List Row) (turn : Turn) (many : Bool)
    → IsStoredBy many (rows_stored box it.uids it.mode it.flags) (Ok given) → left ≡ stored box it.uids it.mode it.flags
    → turn ≡ store_told view it given (rows_of left) → IsLeft box (stored_at view it box many) left turn
unfolding box_after
stored_worked view it box left given turn true is leaves tells = elim is [ inl e ↦ cc | inr e ↦ cc ]
stored_worked view it box left given turn false is leaves tells =
    let after = stored box it.uids it.mode it.flags in
    let tells_after = subst (λ (content : Content). turn ≡ store_told view it given (rows_of content)) leaves tells in
    (leaves, subst (λ (rows : List Row). turn ≡ store_told view it rows (rows_of after)) is tells_after)

pub refused_worked : (view : View) (it : FlagStore) (box left : Content) (why : StoreFault) (turn : Turn) (many : Bool)
    → IsStoredBy many (rows_stored box it.uids it.mode it.flags) (Err why) → left ≡ box
    → (why ≢ Memory) × (turn ≡ store_refused view it (rows_of left)) → IsLeft box (stored_at view it box many) left turn
unfolding box_after
refused_worked view it box left why turn true is same tells =
    (same, subst (λ (content : Content). turn ≡ store_refused view it (rows_of content)) same tells.1)
refused_worked view it box left why turn false is same tells = absurd (tells.0 is)
