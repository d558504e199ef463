use Rattle.std.proofs.Common.{rules, ◌≡◌, Some}
use Rattle.mur_config.specs.Config.{node_of_draft, user_of_draft}
use Rattle.mur_config.specs.Json.{each_of}
use Rattle.mur_config.proofs.ValuesLaw.{nodes_keep, users_keep, are_taken}
use Rattle.mur_config.proofs.values.values_of.Goals as goal

pub unwrap-requires : goal.unwrap-requires
unwrap-requires c =
    let made : each_of node_of_draft c.args.draft.now.nodes ≡ Some c.in-Some.nodes = search rules in
    are_taken c.in-Some.nodes c.new.result c.new.ensures (nodes_keep c.args.draft.now c.in-Some.nodes made c.requires.names c.requires.counts)

pub from_checked-requires : goal.from_checked-requires
from_checked-requires c =
    let made : each_of user_of_draft c.args.draft.now.users ≡ Some c.in-Some-2.users = search rules in
    users_keep c.args.draft.now c.in-Some-2.users made c.requires.names
