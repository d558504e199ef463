-- A part of a list, in its order, as a link that breaks leaves of what is on its way.
use Rattle.std.proofs.Common.{◌≡◌, ◌≤◌, List, [], ◌∷◌, ◌++◌, refl, sym, ap, subst, append-nil, arith}
use Rattle.std.specs.List.{AllByRecursion}
use Rattle.link_msg.specs.declared.message.LinkMsg.{LinkMsg}
use Rattle.link_msg.specs.declared.message.LinkMsg.TheVariants.{End}
use Rattle.feed_links.specs.OneFeed.{ends_of}

pub data IsPart {M : Type 0} : List M → List M → Type 0 where
  is_none : IsPart [] []
  has_it : (x : M) {part whole : List M} → IsPart part whole → IsPart (x ∷ part) (x ∷ whole)
  lacks_it : (x : M) {part whole : List M} → IsPart part whole → IsPart part (x ∷ whole)

-- what holds of all of a list holds of all of its part
pub part_has : {M : Type 0} (P : M → Type 0) {part whole : List M} → IsPart part whole → AllByRecursion P whole → AllByRecursion P part
part_has P is_none all = tt
part_has P (has_it x is) all = (all.0, part_has P is all.1)
part_has P (lacks_it x is) all = part_has P is all.1

-- it ends no more often
pub part_ends : {part whole : List LinkMsg} → IsPart part whole → ends_of part ≤ ends_of whole
unfolding ends_of
part_ends is_none = omega arith
part_ends (has_it x is) = omega (arith, part_ends is)
part_ends (lacks_it x is) = omega (arith, part_ends is)

-- the first one is still there, or is gone
pub data IsFirstPart {M : Type 0} (x : M) (part whole : List M) : Type 0 where
  keeps_first : (rest : List M) → part ≡ x ∷ rest → IsPart rest whole → IsFirstPart x part whole
  lost_first : IsPart part whole → IsFirstPart x part whole

first_part : {M : Type 0} (x : M) (whole : List M) {part all : List M} → IsPart part all → all ≡ x ∷ whole → IsFirstPart x part whole
first_part x whole is_none e = cc
first_part {M} x whole (has_it y {part = part} {whole = rest} is) e =
    let same : y ≡ x = cc in
    let left : rest ≡ whole = cc in
    keeps_first part (ap (λ m. m ∷ part) same) (subst (IsPart part) left is)
first_part {M} x whole (lacks_it y {part = part} {whole = rest} is) e =
    let left : rest ≡ whole = cc in
    lost_first (subst (IsPart part) left is)

pub part_of_first : {M : Type 0} (x : M) (whole part : List M) → IsPart part (x ∷ whole) → IsFirstPart x part whole
part_of_first x whole part is = first_part x whole is refl

-- what is lost of a link stands behind all that is kept, but for where it ends
pub record IsCutShort (part whole : List LinkMsg) : Type 0 where
  pub kept : List LinkMsg
  pub lost : List LinkMsg
  pub behind : List LinkMsg
  pub whole_is : whole ≡ kept ++ (lost ++ behind)
  pub part_is : part ≡ kept ++ behind
  pub ends : AllByRecursion (λ (message : LinkMsg). message ≡ End) behind

pub nothing_lost : (messages : List LinkMsg) → IsCutShort messages messages
nothing_lost messages = record {
  kept = messages;
  lost = [];
  behind = [];
  whole_is = sym (append-nil messages);
  part_is = sym (append-nil messages);
  ends = tt;
}

pub all_kept : (messages : List LinkMsg) → IsPart messages messages
all_kept [] = is_none
all_kept (message ∷ messages) = has_it message (all_kept messages)

all_lost : (lost behind : List LinkMsg) → IsPart behind (lost ++ behind)
all_lost [] behind = all_kept behind
all_lost (message ∷ lost) behind = lacks_it message (all_lost lost behind)

pub lost_between : (kept lost behind : List LinkMsg) → IsPart (kept ++ behind) (kept ++ (lost ++ behind))
lost_between [] lost behind = all_lost lost behind
lost_between (message ∷ kept) lost behind = has_it message (lost_between kept lost behind)

pub cut_part : (part whole : List LinkMsg) → IsCutShort part whole → IsPart part whole
cut_part part whole cut =
    subst (λ p. IsPart p whole) (sym cut.part_is) (subst (IsPart (cut.kept ++ cut.behind)) (sym cut.whole_is) (lost_between cut.kept cut.lost cut.behind))
