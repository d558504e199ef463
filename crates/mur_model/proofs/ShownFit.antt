-- The names that LIST shows are no longer than names may be.
use Rattle.std.proofs.Common.{◌≡◌, ℕ, ◌≤◌, List, [], ◌∷◌, ◌++◌, length, None, sym, subst}
use Rattle.std.specs.Prelude.{All}
use Rattle.std.proofs.lemmas.List.Elements.{All-nil, All-cons, All-append}
use Rattle.mur_base.specs.Inbox.{shown_name}
use Rattle.mur_base.specs.Names.{mail_name_fault}
use Rattle.mur_base.specs.declared.limits.TheConstants.{NAME_LIMIT}
use Rattle.mur_base.proofs.NamesFit.{name_fits}
use Rattle.name_listing.proofs.ShownFits.{shown_fits}
use Rattle.mur_model.specs.Listing.{Gathering, IsShort, all_gathered, CanBeListed as ListCanBeListed}

abbrev CanBeListed : List ℕ → Type 0
CanBeListed name = length name ≤ NAME_LIMIT

pub more_fit : (user name : List ℕ) (list new : List (List ℕ)) → mail_name_fault name ≡ None → new ≡ list ++ shown_name user name ∷ []
    → All (λ (name : List ℕ). length name ≤ NAME_LIMIT) list → All (λ (name : List ℕ). length name ≤ NAME_LIMIT) new
more_fit user name list new ruled put fits =
    subst (All CanBeListed) (sym put)
    (All-append CanBeListed list (shown_name user name ∷ []) fits
    (All-cons CanBeListed (shown_name user name) [] (shown_fits user name ruled) (All-nil CanBeListed)))

pub more_named : (name : List ℕ) (list new : List (List ℕ)) → mail_name_fault name ≡ None → new ≡ list ++ name ∷ []
    → All (λ (name : List ℕ). length name ≤ NAME_LIMIT) list → All (λ (name : List ℕ). length name ≤ NAME_LIMIT) new
more_named name list new ruled put fits =
    subst (All CanBeListed) (sym put)
    (All-append CanBeListed list (name ∷ []) fits (All-cons CanBeListed name [] (name_fits name ruled) (All-nil CanBeListed)))

pub all_short : (it : Gathering) (names : List (List ℕ)) → IsShort it → names ≡ all_gathered it → ListCanBeListed names
all_short it names short same = subst ListCanBeListed (sym same) (All-append CanBeListed it.own it.named short.1 short.0)
