-- The nodes, the users and the date of a drill break no rule.
use Rattle.std.proofs.Common.{◌≡◌, List, None, Some, Result, Ok, Err, IsOk, refl, sym, ap, ◌∙◌, codes, rules, arith}
use Rattle.std.specs.Result.{result_unwrap_or}
use Rattle.mail_message.specs.Date.{date_of, is_date, is_calendar, is_day, is_below, is_month, is_clock, is_zone}
use Rattle.mur_base.specs.Names.{short_name_fault, has_short_name_bytes, is_short_name_byte}
use Rattle.mur_base.specs.Users.{users_fault, user_names_differ, is_user_named, has_password, is_password, is_no_nul}
use Rattle.mur_config.specs.Nodes.{nodes_fault, has_valid_name, node_names_differ, is_node_named, has_node_counts, count_of_kind, is_of_kind}
use Rattle.mur_config.specs.Nodes.{is_node_of_kind, is_some_within, has_partition, fits_kind, AreTakenAsNodes}
use Rattle.mur_config.specs.declared.node.Node.{Node}
use Rattle.mur_config.specs.declared.nodes.NodesFault.{NodesFault}
use Rattle.drill_gen.specs.DrillCluster.{node_at, drill_nodes, administrator, user_numbered, users_up_to}
use Rattle.drill_gen.proofs.NamesLaw.{one_digit}

no_fault : nodes_fault drill_nodes ≡ None
unfolding nodes_fault has_valid_name node_names_differ is_node_named has_node_counts count_of_kind is_of_kind is_node_of_kind is_some_within has_partition fits_kind drill_nodes node_at short_name_fault has_short_name_bytes is_short_name_byte
no_fault = refl

pub taken : (list : List Node) (result : Result (List Node) NodesFault) → list ≡ drill_nodes → AreTakenAsNodes list result → IsOk result
taken list (Ok nodes) is told = search rules
taken list (Err fault) is told =
    let bad : Some fault ≡ None = sym told ∙ (ap nodes_fault is ∙ no_fault) in
    cc

pub taken_as : (list nodes : List Node) (result : Result (List Node) NodesFault) → list ≡ drill_nodes → AreTakenAsNodes list result → result ≡ Ok nodes
    → nodes ≡ drill_nodes
taken_as list nodes (Ok found) is told same =
    let kept : found ≡ list = told.1 in
    let both : found ≡ nodes = ap (λ (r : Result (List Node) NodesFault). result_unwrap_or r found) same in
    sym both ∙ (kept ∙ is)
taken_as list nodes (Err fault) is told same = cc

pub no_users_fault : users_fault (users_up_to 8) ≡ None
unfolding users_fault user_names_differ is_user_named has_password is_password is_no_nul users_up_to user_numbered administrator
no_users_fault =
    rw (
      one_digit 1 (omega arith),
      one_digit 2 (omega arith),
      one_digit 3 (omega arith),
      one_digit 4 (omega arith),
      one_digit 5 (omega arith),
      one_digit 6 (omega arith),
      one_digit 7 (omega arith),
      one_digit 8 (omega arith),
    ) refl

pub dated : date_of (codes "17-Jul-1996 02:44:25 -0700") ≡ Some (codes "17-Jul-1996 02:44:25 -0700")
unfolding date_of is_date is_calendar is_day is_below is_month is_clock is_zone
dated = refl
