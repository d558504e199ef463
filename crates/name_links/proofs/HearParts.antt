-- What a response tells, for the laws of the steps that take it.
use Rattle.std.proofs.Common.{◌≡◌, ℕ, Bool, true, false, ◌&&◌, is_some, List, [], ◌∷◌, Option, None, Some, refl, ap}
use Rattle.std.specs.List.{fold}
use Rattle.mur_base.specs.declared.home.Location.{Location}
use Rattle.mupdate_codec.specs.declared.command.MResponse.{MResponse}
use Rattle.mupdate_codec.specs.declared.command.MResponse.TheVariants as response
use Rattle.node_record.specs.declared.held.Held.{Held}
use Rattle.node_record.specs.Held.{Names, forgotten}
use Rattle.home_law.specs.Items.{listed_active, listed_reserved}
use Rattle.home_law.specs.ManyNames.{Mailbox, SentLine as OpenLine, sent_list, downs_of, line_items as told_items}
use Rattle.home_law.specs.Rows.{is_listing}
use Rattle.home_law.proofs.SameName.{is_itself}
use Rattle.name_flows.specs.declared.flows.Flows.{Flows}
use Rattle.name_flows.specs.declared.resync.Resync.{Resync}
use Rattle.name_flows.specs.declared.sent.Sent.{Sent}
use Rattle.name_flows.specs.declared.sent.Sent.TheVariants.{List as List_line, Reserve, Make, Again, Deactivate, Delete, Wipe, Find}
use Rattle.name_flows.specs.Listed.{ListedNames, is_unlisted, is_lost, forget_all}
use Rattle.name_flows.specs.Phases.{is_closing}
use Rattle.name_flows.specs.OneName.{progress_in, open_line, told_by, IsRead}
use Rattle.name_flows.specs.Steps.{held_with}
use Rattle.name_links.specs.LinkIs.{IsAnswerTo}
use Rattle.name_links.proofs.LinesByName.{passes}
use Rattle.name_links.proofs.Sends.{is_list_end}

pub and_left : (a b : Bool) → (a && b) ≡ true → a ≡ true
and_left true b e = refl
and_left false b e = cc

pub and_right : (a b : Bool) → (a && b) ≡ true → b ≡ true
and_right true b e = e
and_right false b e = cc

-- a name is listed while a resync runs
pub runs : (n : Mailbox) (r : Option Resync) → is_listing (progress_in n r) ≡ true → is_some r ≡ true
unfolding is_listing
runs n None e = cc
runs n (Some w) e = refl

pub list_items : (n : Mailbox) (place : Location) (acl : List ℕ) (rest : List OpenLine) → downs_of n (sent_list ∷ rest) (told_by (response.Mailbox n place acl)) ≡ listed_active ∷ []
unfolding downs_of told_items
list_items n place acl rest = rw (is_itself n) refl

pub reserved_items : (n : Mailbox) (place : Location) (rest : List OpenLine) → downs_of n (sent_list ∷ rest) (told_by (response.Reserve n place)) ≡ listed_reserved ∷ []
unfolding downs_of told_items
reserved_items n place rest = rw (is_itself n) refl

pub read_is : (flows : Flows) (found : Bool) (what : Sent) (it : MResponse) → IsAnswerTo (open_line found what) it → is_list_end (Some what) it ≡ false
    → ((name : List ℕ) (place : Location) (acl : List ℕ) → what ≡ List_line → it ≡ response.Mailbox name place acl → is_some flows.resync ≡ true)
    → ((name : List ℕ) (place : Location) → what ≡ List_line → it ≡ response.Reserve name place → is_some flows.resync ≡ true)
    → IsRead (Some what) it flows
read_is flows found List_line (response.Mailbox name place acl) a n listed reserved = listed name place acl refl refl
read_is flows found List_line (response.Reserve name place) a n listed reserved = reserved name place refl refl
read_is flows found List_line (response.Delete name) a n listed reserved = tt
read_is flows found List_line (response.Ok text) a n listed reserved = cc
read_is flows found List_line (response.No text) a n listed reserved = tt
read_is flows found List_line (response.Bad text) a n listed reserved = tt
read_is flows found (Reserve m) (response.Mailbox name place acl) a n listed reserved = tt
read_is flows found (Reserve m) (response.Reserve name place) a n listed reserved = tt
read_is flows found (Reserve m) (response.Delete name) a n listed reserved = tt
read_is flows found (Reserve m) (response.Ok text) a n listed reserved = a
read_is flows found (Reserve m) (response.No text) a n listed reserved = tt
read_is flows found (Reserve m) (response.Bad text) a n listed reserved = tt
read_is flows found (Make m) it a n listed reserved = tt
read_is flows found (Again m) it a n listed reserved = tt
read_is flows found (Deactivate m) it a n listed reserved = tt
read_is flows found (Delete m) it a n listed reserved = tt
read_is flows found (Wipe m) it a n listed reserved = tt
read_is flows found (Find m) it a n listed reserved = tt

-- the entry by which some names are here no more
pub forget_is : (held : Names) (names : List Mailbox) → held_with held (forget_all names) ≡ fold forgotten held names
forget_is held [] = refl
forget_is held (name ∷ names) = refl

-- a name that isn't closed here isn't looked for
pub not_lost : (listed : ListedNames) (k : Mailbox) (h : Option Held) → is_closing h ≡ false → passes (is_lost listed) k h ≡ false
not_lost listed k None e = refl
not_lost listed k (Some it) e = ap (λ (t : Bool). t && is_unlisted listed k) e
