-- Each line of a listing tells what is listed, and what is listed has one line.
use Rattle.std.proofs.Common.{◌≡◌, ◌↔◌, ℕ, List, Some, sym, ◌∙◌}
use Rattle.std.specs.Cmp.{eq_by_cmp_equiv}
use Rattle.std.specs.Cmp.Lexicographic.{slice_cmp, nat_list_cmp_total}
use Rattle.std.specs.List.{Contains}
use Rattle.std.specs.Map.{keys_of}
use Rattle.std.specs.Ordering.{nat_cmp}
use Rattle.std.proofs.lemmas.Map.Keys.{IsDistinct-from_sorted}
use Rattle.std.proofs.lemmas.Map.Views.{Contains-from_lookup, lookup-from_Contains}
use Rattle.mur_base.proofs.MapLaws.{names_apart}
use Rattle.imap_types.specs.declared.reply.Attribute.{Attribute}
use Rattle.name_listing.specs.Listing.{Lines, IsListing, listed_as}

pub line_told : (pattern : List ℕ) (names : List (List ℕ)) (lines : Lines) (name : List ℕ) (attribute : Attribute) → IsListing pattern names lines
    → (Contains lines (name, attribute)) ↔ (listed_as pattern names name ≡ Some attribute)
line_told pattern names lines name attribute listing = (
  λ there. sym (listing.told name)
      ∙ lookup-from_Contains (eq_by_cmp_equiv nat_list_cmp_total) name attribute lines
      (IsDistinct-from_sorted (slice_cmp nat_cmp) (keys_of lines) listing.rising) there,
  λ told. Contains-from_lookup names_apart.exact name attribute lines (listing.told name ∙ told),
)
