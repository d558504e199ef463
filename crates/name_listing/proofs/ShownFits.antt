-- What a user is shown of a name is no longer than the name.
use Rattle.std.proofs.Common.{◌≡◌, ◌≤◌, ℕ, Bool, true, false, ◌&&◌, nat_eq, List, length, drop, None, refl, ap, ◌∙◌, arith}
use Rattle.std.specs.List.{starts_with}
use Rattle.std.proofs.lemmas.Bool.{and_parts}
use Rattle.std.proofs.lemmas.List.{length-append}
use Rattle.mur_base.specs.declared.limits.TheConstants.{NAME_LIMIT}
use Rattle.mur_base.specs.Inbox.{own_name, is_level_end, behind, shown_name}
use Rattle.mur_base.specs.Names.{mail_name_fault}
use Rattle.mur_base.proofs.InboxLaw.{starts_with-parts}
use Rattle.mur_base.proofs.NamesFit.{name_fits}

own_is_long : (user : List ℕ) → 5 ≤ length (own_name user)
unfolding own_name
own_is_long user = omega arith

no_longer_by : (user name : List ℕ) (test : Bool) → (starts_with nat_eq name (own_name user) && is_level_end (drop (length (own_name user)) name)) ≡ test
    → length (shown_name user name) ≤ length name
unfolding shown_name behind
no_longer_by user name false h = rw h (omega arith)
no_longer_by user name true h =
    let parts = and_parts (starts_with nat_eq name (own_name user)) (is_level_end (drop (length (own_name user)) name)) h in
    let sizes = ap length (starts_with-parts name (own_name user) parts.0) ∙ length-append (own_name user) (drop (length (own_name user)) name) in
    let own = own_is_long user in
    rw h (omega (arith, sizes, own))

pub shown_fits : (user name : List ℕ) → mail_name_fault name ≡ None → length (shown_name user name) ≤ NAME_LIMIT
shown_fits user name sound =
    let no_longer = no_longer_by user name (starts_with nat_eq name (own_name user) && is_level_end (drop (length (own_name user)) name)) refl in
    let fits = name_fits name sound in omega (arith, no_longer, fits)
