-- What a home has of a name, beside what the store has of it.
use Rattle.std.proofs.Common.{◌≡◌, ℕ, List, Some, ◌≢◌, None, refl}
use Rattle.backend_core.specs.declared.backend.Backend.{Backend}
use Rattle.node_record.specs.declared.held.Held.{Held}
use Rattle.backend_core.specs.HomeStep.{held_at, with_content}
use Rattle.mur_base.specs.declared.home.Phase.TheVariants.{Open as open_here}
use Rattle.mur_model.specs.declared.store.Store.{Store}
use Rattle.mur_model.specs.Left.{Left, kept, made, changed, removed, store_after}
use Rattle.mur_model.specs.Store.{box_at, with_box}
use Rattle.mur_model.proofs.BoxGone.{others_there}
use Rattle.backend_core.specs.OpenBox.{open_content, open_box}
use Rattle.std.specs.Ordering.{nat_cmp}
use Rattle.std.specs.Cmp.Lexicographic.{slice_cmp}
use Rattle.mail_message.specs.Boxes.{Content}
use Rattle.mur_base.proofs.MapLaws.{names_apart, value_at-with_value, value_at-with_value-other, value_at-with_entry-other}

-- a mailbox at its home: it is open there, with the content that it has in the store
pub record IsAtHome (store : Store) (home : Backend) (name : List ℕ) (held : Held) : Type 0 where
  pub at : held_at home name ≡ Some held
  pub is_open : held.phase ≡ open_here
  pub box : box_at store name ≡ Some held.content

-- a home has of a name what the store has: no mailbox, or the same one
pub data IsStoreOf (store : Store) (home : Backend) (name : List ℕ) : Type 0 where
  is_missing : box_at store name ≡ None → held_at home name ≡ None → IsStoreOf store home name
  is_there : (held : Held) → IsAtHome store home name held → IsStoreOf store home name

pub opened : (held : Held) (content : Content) → held.phase ≡ open_here → open_content (Some (record held { content = content })) ≡ Some content
unfolding open_box
opened held content e = rw e refl

-- another content at home and in the store
pub changed_alike : (store : Store) (home : Backend) (name : List ℕ) (held : Held) (content : Content) → IsAtHome store home name held
    → IsStoreOf (with_box store name content) (with_content home name held content) name
changed_alike store home name held content is =
    let now : Held = record held { content = content } in
    is_there now (record {
      at = value_at-with_value (slice_cmp nat_cmp) names_apart home.held name now held is.at;
      is_open = is.is_open;
      box = value_at-with_value (slice_cmp nat_cmp) names_apart store.boxes name content held.content is.box;
    })

-- the same content at home
pub kept_alike : (store : Store) (home : Backend) (name : List ℕ) (held : Held) → IsAtHome store home name held
    → IsStoreOf store (with_content home name held held.content) name
kept_alike store home name held is =
    let now : Held = record held { content = held.content } in
    is_there now (record {
      at = value_at-with_value (slice_cmp nat_cmp) names_apart home.held name now held is.at;
      is_open = is.is_open;
      box = is.box;
    })

-- work at a mailbox leaves every other one
pub other_boxes : (store : Store) (name : List ℕ) (left : Left) (other : List ℕ) → other ≢ name
    → box_at (store_after store name left) other ≡ box_at store other
unfolding store_after
other_boxes store name kept other ne = refl
other_boxes store name (made box) other ne = value_at-with_entry-other (slice_cmp nat_cmp) names_apart store.boxes name other box ne
other_boxes store name (changed box) other ne = value_at-with_value-other (slice_cmp nat_cmp) names_apart store.boxes name other box ne
other_boxes store name removed other ne = others_there store name other ne
