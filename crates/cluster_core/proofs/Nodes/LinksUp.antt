-- The links of a node that come up one after another: to each node from which one came, its link is up.
use Rattle.std.proofs.Common.{◌≡◌, ℕ, zero, suc, ◌<◌, Bool, true, false, List, [], ◌∷◌, length, sym, subst, arith, slice_index_or}
use Rattle.std.specs.Ordering.{nat_cmp, is_eq}
use Rattle.std.specs.Cmp.Lexicographic.{slice_cmp}
use Rattle.front_core.specs.Ups.{Ups, coming_up, is_up}
use Rattle.front_core.proofs.UpsLaws.{coming_keeps, up_comes}
use Rattle.mur_base.proofs.MapLaws.{names_apart}
use Rattle.mur_config.specs.declared.node.Link.{Link}

abbrev pub up_if : Bool → Ups → List ℕ → Ups
up_if true ups from = coming_up ups from
up_if false ups from = ups

-- to which nodes the links of this one are up, behind those that come up
unfoldable pub ups_on : List ℕ → Ups → List Link → Ups
ups_on node ups [] = ups
ups_on node ups (link ∷ links) = ups_on node (up_if (is_eq (slice_cmp nat_cmp link.to node)) ups link.from) links

-- a link that came up is up

if_keeps : (test : Bool) (ups : Ups) (other node : List ℕ) → is_up ups node ≡ true → is_up (up_if test ups other) node ≡ true
if_keeps true ups other node up = coming_keeps ups other node up
if_keeps false ups other node up = up

ups_keep : (me : List ℕ) (ups : Ups) (links : List Link) (node : List ℕ) → is_up ups node ≡ true → is_up (ups_on me ups links) node ≡ true
unfolding ups_on
ups_keep me ups [] node up = up
ups_keep me ups (link ∷ links) node up =
    let test : Bool = is_eq (slice_cmp nat_cmp link.to me) in
    ups_keep me (up_if test ups link.from) links node (if_keeps test ups link.from node up)

pub linked_up : (me from : List ℕ) (ups : Ups) (links : List Link) (k : ℕ) → k < length links
    → slice_index_or links k (record { from = from; to = me }) ≡ record { from = from; to = me } → is_up (ups_on me ups links) from ≡ true
unfolding ups_on
linked_up me from ups [] k h e = absurd (omega arith)
linked_up me from ups (link ∷ links) zero h e =
    let here : is_up (up_if (is_eq (slice_cmp nat_cmp link.to me)) ups link.from) from ≡ true =
    subst (λ (l : Link). is_up (up_if (is_eq (slice_cmp nat_cmp l.to me)) ups l.from) from ≡ true) (sym e)
    (subst (λ test. is_up (up_if test ups from) from ≡ true) (sym (names_apart.itself me)) (up_comes ups from)) in
    ups_keep me (up_if (is_eq (slice_cmp nat_cmp link.to me)) ups link.from) links from here
linked_up me from ups (link ∷ links) (suc k) h e =
    linked_up me from (up_if (is_eq (slice_cmp nat_cmp link.to me)) ups link.from) links k (omega arith) e
