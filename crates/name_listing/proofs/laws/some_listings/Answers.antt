use Rattle.std.proofs.Common.{[], ◌∷◌}
use Rattle.std.specs.Prelude.{codes}
use Rattle.mur_base.specs.Inbox.{is_level_end, behind_inbox}
use Rattle.mur_base.specs.Patterns.{matches, behind_byte, behind_some, behind_one, covers, is_wildcard}
use Rattle.name_listing.specs.Listing.{ends_in_percent, pattern_of}
use Rattle.name_listing.specs.Found.{found_lines, with_mailbox, with_level, with_levels, levels_from}
use Rattle.name_listing.proofs.FoundOrder.{found_listing}
use Rattle.name_listing.proofs.laws.some_listings.Goals as goal

pub returns : goal.returns
unfolding is_level_end behind_inbox matches behind_byte behind_some behind_one covers is_wildcard ends_in_percent pattern_of with_mailbox with_level
    with_levels levels_from found_lines
returns c = record {
  above = found_listing (pattern_of [] (codes "%")) (codes "user.bob.work" ∷ []);
  all = found_listing (pattern_of [] (codes "*")) (codes "INBOX.work" ∷ codes "INBOX.work" ∷ []);
  mailbox = found_listing (pattern_of [] (codes "%")) (codes "a.b" ∷ codes "a" ∷ []);
  below = found_listing (pattern_of (codes "a.") (codes "%")) (codes "a.d" ∷ codes "a.b.c" ∷ codes "a" ∷ codes "e.f" ∷ []);
  levels = found_listing (pattern_of [] (codes "*%")) (codes "a.b.c" ∷ []);
  inbox = found_listing (pattern_of [] (codes "inbox")) (codes "INBOX" ∷ codes "INBOX.work" ∷ []);
  below_inbox = found_listing (pattern_of (codes "Inbox.") (codes "%")) (codes "INBOX" ∷ codes "INBOX.work" ∷ []);
}
