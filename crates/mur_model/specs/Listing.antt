-- LIST (RFC 9051, 6.3.9): the mailboxes on which the user has rights are told, as they are shown to the user, and levels above them. None is selected, and
-- no news is told.
use Rattle.std.specs.Prelude.{ℕ, ◌≤◌, Bool, ◌||◌, if◌then◌else◌, List, [], ◌∷◌, ◌++◌, length, map, filter, codes, All}
use Rattle.std.specs.List.{fold}
use Rattle.std.specs.Map.{keys_of}
use Rattle.mur_base.specs.Inbox.{owns, shown_name}
use Rattle.mur_base.specs.declared.limits.TheConstants.{NAME_LIMIT}
use Rattle.imap_types.specs.declared.reply.Attribute.TheVariants.{NoSelect}
use Rattle.imap_types.specs.declared.reply.Code.TheVariants.{None as no_code}
use Rattle.imap_types.specs.declared.reply.Reply.{Reply}
use Rattle.imap_types.specs.declared.reply.ReplyLine.TheVariants.{Listed}
use Rattle.imap_types.specs.declared.reply.Verdict.TheVariants.{Ok as ok_reply}
use Rattle.name_listing.specs.Found.{found_lines}
use Rattle.name_listing.specs.Listing.{asks_separator, pattern_of}
use Rattle.name_listing.specs.Told.{line_of}
use Rattle.mur_model.specs.declared.commands.list.Listing.{Listing}
use Rattle.mur_model.specs.declared.setting.Setting.{Setting}
use Rattle.mur_model.specs.declared.store.Store.{Store}
use Rattle.mur_model.specs.AtOnce.{told_at_once}
use Rattle.mur_model.specs.Needed.{Needed, Turned, Names}
use Rattle.mur_model.specs.Rights.{is_admin}

-- whether a mailbox of this name is told, where it matches
unfoldable pub tells : Listing → List ℕ → Bool
tells it name = it.is_admin || owns it.user name

-- the mailboxes that are told, where they match, as they are shown
unfoldable pub shown_to : Listing → List (List ℕ) → List (List ℕ)
shown_to it names = map (shown_name it.user) (filter (tells it) names)

-- the reply, where there are mailboxes of these names and no other
unfoldable pub list_reply : Listing → List (List ℕ) → Reply
list_reply it names =
    record { lines = map line_of (found_lines it.pattern (shown_to it names)); verdict = ok_reply no_code (codes "LIST") }

-- Mailboxes that are told, where they match, as they are gathered: those that are shown under their own names; and the user's own, as they are shown.
pub record Gathering : Type 0 where
  pub named : List (List ℕ)
  pub own : List (List ℕ)

abbrev pub nothing_gathered : Gathering
nothing_gathered = record { named = []; own = [] }

-- with one mailbox more
unfoldable pub gathered_with : Listing → Gathering → List ℕ → Gathering
gathered_with it so_far name =
    if owns it.user name then record so_far { own = so_far.own ++ shown_name it.user name ∷ [] }
    else if it.is_admin then record so_far { named = so_far.named ++ name ∷ [] }
    else so_far

unfoldable pub gathered_of : Listing → List (List ℕ) → Gathering
gathered_of it names = fold (gathered_with it) nothing_gathered names

-- all of them, none of which is longer than names may be
abbrev pub all_gathered : Gathering → List (List ℕ)
all_gathered it = it.own ++ it.named

abbrev pub CanBeListed : List (List ℕ) → Type 0
CanBeListed names = All (λ name. length name ≤ NAME_LIMIT) names

abbrev pub IsShort : Gathering → Type 0
IsShort it = CanBeListed it.named × CanBeListed it.own

-- the names of the mailboxes of a store
abbrev pub names_in : Store → List (List ℕ)
names_in store = keys_of store.boxes

abbrev pub listing_by : Setting → List ℕ → List ℕ → Listing
listing_by setting user pattern = record { user = user; is_admin = is_admin setting.users user; pattern = pattern }

-- the separator alone is told, as that of the empty name, which can't be selected
abbrev pub separator_told : Needed
separator_told = Turned (told_at_once (Listed NoSelect []) (codes "LIST"))

-- an empty mailbox argument asks for the separator, whatever mailboxes there are
unfoldable pub list : Setting → List ℕ → List ℕ → List ℕ → Needed
list setting user reference mailbox =
    if asks_separator mailbox then separator_told
    else Names (listing_by setting user (pattern_of reference mailbox))
