-- The nodes and the users that drafts make break no rule, where the drafts break none.
use Rattle.std.proofs.Common.{◌≡◌, ℕ, Bool, true, false, ◌&&◌, is_none, List, [], ◌∷◌, map, Option, None, Some}
use Rattle.std.proofs.Common.{option_map, option_and_then, refl, sym, ap, ◌∙◌, suc, subst, if◌then◌else◌, unwrap_or, Result, Ok, Err, IsOk, rules}
use Rattle.std.specs.List.{list_any, list_all}
use Rattle.std.specs.Str.{bytes_eq}
use Rattle.std.proofs.lemmas.Bool.{and_parts}
use Rattle.mur_base.specs.declared.name.NameFault.{NameFault}
use Rattle.mur_base.specs.Names.{short_name_fault}
use Rattle.mur_base.specs.Users.{users_fault, user_names_differ, is_user_named, has_password, is_password}
use Rattle.mur_base.specs.declared.user.User.{User}
use Rattle.mur_config.specs.Config.{is_kind, is_draft_of_kind, count_of_drafts, has_draft_counts, has_own_names, port_of, node_at, has_node_names, node_of_kind, node_of_draft, user_at, user_of_draft}
use Rattle.mur_config.specs.Json.{each_of}
use Rattle.mur_config.specs.Names.{names_differ}
use Rattle.mur_config.specs.Nodes.{nodes_fault, has_valid_name, node_names_differ, is_node_named, has_node_counts, count_of_kind, is_of_kind}
use Rattle.mur_config.specs.Nodes.{is_node_of_kind, has_partition, fits_kind, AreTakenAsNodes}
use Rattle.mur_config.specs.declared.draft.Draft.{Draft}
use Rattle.mur_config.specs.declared.draft.NodeDraft.{NodeDraft}
use Rattle.mur_config.specs.declared.draft.UserDraft.{UserDraft}
use Rattle.mur_config.specs.declared.node.Kind.{Kind}
use Rattle.mur_config.specs.declared.node.Kind.TheVariants.{Master, Frontend, Backend}
use Rattle.mur_config.specs.declared.node.Node.{Node}
use Rattle.mur_config.specs.declared.nodes.NodesFault.{NodesFault}
use Rattle.mur_config.proofs.Texts.{bytes_eq_both_ways}

-- each member of a list is something
record Each {S T : Type 0} (is : S → Option T) (x : S) (xs : List S) (made : List T) : Type 0 where
  pub one : T
  pub others : List T
  pub first : is x ≡ Some one
  pub rest : each_of is xs ≡ Some others
  pub whole : one ∷ others ≡ made

taken : {T : Type 0} (one other : T) → Some one ≡ Some other → one ≡ other
taken {T} one other same = ap (λ (value : Option T). unwrap_or value one) same

each_by : {S T : Type 0} (is : S → Option T) (x : S) (xs : List S) (made : List T) (one : Option T) (others : Option (List T))
    → is x ≡ one → each_of is xs ≡ others
    → option_and_then (λ (one : T). option_map (λ (others : List T). one ∷ others) others) one ≡ Some made → Each is x xs made
each_by is x xs made (Some one) (Some others) f r h = record { one = one; others = others; first = f; rest = r; whole = taken _ _ h }
each_by is x xs made (Some one) None f r h = cc
each_by is x xs made None others f r h = cc

each-cons : {S T : Type 0} (is : S → Option T) (x : S) (xs : List S) (made : List T) → each_of is (x ∷ xs) ≡ Some made → Each is x xs made
unfolding each_of
each-cons is x xs made h = each_by is x xs made _ _ refl refl h

-- what a node has of its draft
record FromDraft (draft : NodeDraft) (node : Node) : Type 0 where
  pub name : node.name ≡ draft.name
  pub valid : has_valid_name node ≡ true
  pub kind : draft.kind ≡ Some node.kind
  pub partition : has_partition node ≡ true

made_by : (draft : NodeDraft) (node : Node) (kind : Kind) (port : Option ℕ) → draft.kind ≡ Some kind → is_none (short_name_fault draft.name) ≡ true
    → fits_kind kind draft.partition ≡ true → option_map (node_at draft kind) port ≡ Some node → FromDraft draft node
unfolding has_valid_name has_partition
made_by draft node kind (Some port) is valid fits h =
    let same : node_at draft kind port ≡ node = taken _ _ h in
    subst (λ (node : Node). FromDraft draft node) same (record { name = refl; valid = valid; kind = is; partition = fits })
made_by draft node kind None is valid fits h = cc

named_by : (draft : NodeDraft) (node : Node) (kind : Kind) (good : Bool) → draft.kind ≡ Some kind → has_node_names draft kind ≡ good
    → (if good then option_map (node_at draft kind) (port_of kind draft.port) else None) ≡ Some node → FromDraft draft node
unfolding has_node_names
named_by draft node kind true is good h =
    let parts = and_parts (is_none (short_name_fault draft.name)) (fits_kind kind draft.partition) good in
    made_by draft node kind _ is parts.0 parts.1 h
named_by draft node kind false is good h = cc

kind_by : (draft : NodeDraft) (node : Node) (kind : Option Kind) → draft.kind ≡ kind → node_of_kind draft kind ≡ Some node → FromDraft draft node
unfolding node_of_kind
kind_by draft node (Some kind) is h = named_by draft node kind _ is refl h
kind_by draft node None is h = cc

from_draft : (draft : NodeDraft) (node : Node) → node_of_draft draft ≡ Some node → FromDraft draft node
unfolding node_of_draft
from_draft draft node h = kind_by draft node _ refl h

-- the nodes have their drafts' names and kinds, each name is valid, and a backend has a partition
record FromDrafts (drafts : List NodeDraft) (nodes : List Node) : Type 0 where
  pub names : map (λ (node : Node). node.name) nodes ≡ map (λ (draft : NodeDraft). draft.name) drafts
  pub valid : list_all has_valid_name nodes ≡ true
  pub counts : (kind : Kind) → count_of_kind kind nodes ≡ count_of_drafts kind drafts
  pub partitions : list_all has_partition nodes ≡ true

counted : (kind : Kind) (draft : NodeDraft) (node : Node) (drafts : List NodeDraft) (nodes : List Node) → draft.kind ≡ Some node.kind
    → count_of_kind kind nodes ≡ count_of_drafts kind drafts → (test : Bool) → is_of_kind kind node.kind ≡ test
    → count_of_kind kind (node ∷ nodes) ≡ count_of_drafts kind (draft ∷ drafts)
unfolding count_of_kind count_of_drafts is_node_of_kind is_draft_of_kind is_kind
counted kind draft node drafts nodes is rest true t = rw (is, t) (ap suc rest)
counted kind draft node drafts nodes is rest false t = rw (is, t) rest

from_drafts : (drafts : List NodeDraft) (nodes : List Node) → each_of node_of_draft drafts ≡ Some nodes → FromDrafts drafts nodes
unfolding each_of count_of_kind count_of_drafts
from_drafts [] nodes h =
    let same : [] ≡ nodes = taken _ _ h in
    subst (λ (nodes : List Node). FromDrafts [] nodes) same (record { names = refl; valid = refl; counts = λ kind. refl; partitions = refl })
from_drafts (draft ∷ drafts) nodes h =
    let each = each-cons node_of_draft draft drafts nodes h in
    let first = from_draft draft each.one each.first in
    let rest = from_drafts drafts each.others each.rest in
    subst (λ (nodes : List Node). FromDrafts (draft ∷ drafts) nodes) each.whole (record {
      names = rw (first.name, rest.names) refl;
      valid = rw (first.valid, rest.valid) refl;
      counts = λ kind. counted kind draft each.one drafts each.others first.kind (rest.counts kind) _ refl;
      partitions = rw (first.partition, rest.partitions) refl;
    })

among_nodes : (name : List ℕ) (nodes : List Node) → list_any (is_node_named name) nodes ≡ list_any (bytes_eq name) (map (λ (node : Node). node.name) nodes)
unfolding is_node_named
among_nodes name [] = refl
among_nodes name (node ∷ nodes) = rw (bytes_eq_both_ways node.name name, among_nodes name nodes) refl

node_names_are : (nodes : List Node) → node_names_differ nodes ≡ names_differ (map (λ (node : Node). node.name) nodes)
unfolding node_names_differ names_differ
node_names_are [] = refl
node_names_are (node ∷ nodes) = rw (among_nodes node.name nodes, node_names_are nodes) refl

counts_are : (drafts : List NodeDraft) (nodes : List Node) → FromDrafts drafts nodes → has_node_counts nodes ≡ has_draft_counts drafts
unfolding has_node_counts has_draft_counts
counts_are drafts nodes from = rw (from.counts Master, from.counts Frontend, from.counts Backend) refl

none_from : (fault : Option NameFault) → is_none fault ≡ true → fault ≡ None
none_from None h = refl
none_from (Some fault) h = cc

pub has_short_name : (draft : NodeDraft) (kind : Kind) → has_node_names draft kind ≡ true → short_name_fault draft.name ≡ None
unfolding has_node_names
has_short_name draft kind named =
    none_from (short_name_fault draft.name) ((and_parts (is_none (short_name_fault draft.name)) (fits_kind kind draft.partition) named).0)

pub are_taken : (nodes : List Node) (taken : Result (List Node) NodesFault) → AreTakenAsNodes nodes taken → nodes_fault nodes ≡ None → IsOk taken
are_taken nodes (Ok found) told none = search rules
are_taken nodes (Err fault) told none = let fault_there : Some fault ≡ None = sym told ∙ none in cc

-- where nodes have names of their own, those of the users decide
pub users_decide : (draft : Draft) (nodes users : Bool) → nodes ≡ true
    → nodes ≡ names_differ (map (λ (node : NodeDraft). node.name) draft.nodes)
    → users ≡ names_differ (map (λ (user : UserDraft). user.name) draft.users) → users ≡ has_own_names draft
unfolding has_own_names
users_decide draft nodes users own of_nodes of_users =
    let differ : names_differ (map (λ (node : NodeDraft). node.name) draft.nodes) ≡ true = sym of_nodes ∙ own in
    rw differ of_users

pub nodes_decide : (draft : Draft) (nodes : Bool) → nodes ≡ false → nodes ≡ names_differ (map (λ (node : NodeDraft). node.name) draft.nodes)
    → nodes ≡ has_own_names draft
unfolding has_own_names
nodes_decide draft nodes shared of_nodes =
    let same : names_differ (map (λ (node : NodeDraft). node.name) draft.nodes) ≡ false = sym of_nodes ∙ shared in
    rw same shared

-- drafts that break no rule make nodes that break none
pub nodes_keep : (draft : Draft) (nodes : List Node) → each_of node_of_draft draft.nodes ≡ Some nodes → has_own_names draft ≡ true
    → has_draft_counts draft.nodes ≡ true → nodes_fault nodes ≡ None
unfolding has_own_names nodes_fault
nodes_keep draft nodes made own counts =
    let from = from_drafts draft.nodes nodes made in
    let names = (and_parts (names_differ (map (λ (node : NodeDraft). node.name) draft.nodes))
    (names_differ (map (λ (user : UserDraft). user.name) draft.users)) own).0 in
    let differ : node_names_differ nodes ≡ true = node_names_are nodes ∙ (ap names_differ from.names ∙ names) in
    let counted : has_node_counts nodes ≡ true = counts_are draft.nodes nodes from ∙ counts in
    rw (from.valid, differ, counted, from.partitions) refl

-- what a user has of its draft
record OfDraft (draft : UserDraft) (user : User) : Type 0 where
  pub name : user.name ≡ draft.name
  pub password : has_password user ≡ true

user_by : (draft : UserDraft) (user : User) (good : Bool) → (is_none (short_name_fault draft.name) && is_password draft.password) ≡ good
    → (if good then Some (user_at draft) else None) ≡ Some user → OfDraft draft user
unfolding has_password
user_by draft user true good h =
    let same = taken (user_at draft) user h in
    subst (λ (user : User). OfDraft draft user) same (record {
      name = refl;
      password = (and_parts (is_none (short_name_fault draft.name)) (is_password draft.password) good).1;
    })
user_by draft user false good h = cc

of_draft : (draft : UserDraft) (user : User) → user_of_draft draft ≡ Some user → OfDraft draft user
unfolding user_of_draft
of_draft draft user h = user_by draft user _ refl h

record OfDrafts (drafts : List UserDraft) (users : List User) : Type 0 where
  pub names : map (λ (user : User). user.name) users ≡ map (λ (draft : UserDraft). draft.name) drafts
  pub passwords : list_all has_password users ≡ true

of_drafts : (drafts : List UserDraft) (users : List User) → each_of user_of_draft drafts ≡ Some users → OfDrafts drafts users
unfolding each_of
of_drafts [] users h =
    let same : [] ≡ users = taken _ _ h in
    subst (λ (users : List User). OfDrafts [] users) same (record { names = refl; passwords = refl })
of_drafts (draft ∷ drafts) users h =
    let each = each-cons user_of_draft draft drafts users h in
    let first = of_draft draft each.one each.first in
    let rest = of_drafts drafts each.others each.rest in
    subst (λ (users : List User). OfDrafts (draft ∷ drafts) users) each.whole (record {
      names = rw (first.name, rest.names) refl;
      passwords = rw (first.password, rest.passwords) refl;
    })

among_users : (name : List ℕ) (users : List User) → list_any (is_user_named name) users ≡ list_any (bytes_eq name) (map (λ (user : User). user.name) users)
unfolding is_user_named
among_users name [] = refl
among_users name (user ∷ users) = rw (bytes_eq_both_ways user.name name, among_users name users) refl

user_names_are : (users : List User) → user_names_differ users ≡ names_differ (map (λ (user : User). user.name) users)
unfolding user_names_differ names_differ
user_names_are [] = refl
user_names_are (user ∷ users) = rw (among_users user.name users, user_names_are users) refl

-- drafts that break no rule make users that break none
pub users_keep : (draft : Draft) (users : List User) → each_of user_of_draft draft.users ≡ Some users → has_own_names draft ≡ true → users_fault users ≡ None
unfolding has_own_names users_fault
users_keep draft users made own =
    let from = of_drafts draft.users users made in
    let names = (and_parts (names_differ (map (λ (node : NodeDraft). node.name) draft.nodes))
    (names_differ (map (λ (user : UserDraft). user.name) draft.users)) own).1 in
    let differ : user_names_differ users ≡ true = user_names_are users ∙ (ap names_differ from.names ∙ names) in
    rw (differ, from.passwords) refl
