-- The state of a node after a step is what the entries of its disk make, once the entry of the step stands behind them.
use Rattle.std.proofs.Common.{◌≡◌, ℕ, List, [], ◌∷◌, ◌++◌, Option, None, Some, sym, ◌∙◌, ap}
use Rattle.std.specs.Prelude.{⊤}
use Rattle.std.specs.Option.{option_map}
use Rattle.std.proofs.lemmas.Grind.{fold-append}
use Rattle.std.proofs.lemmas.List.{map-append}
use Rattle.back_node.specs.declared.node.BackNode.{BackNode}
use Rattle.back_node.specs.Takes.{node_takes as home_step}
use Rattle.back_node.proofs.Courses.{one_entry}
use Rattle.guest_links.specs.Happenings.{change_of, step_of}
use Rattle.guest_links.proofs.ServedLaw.{changes_are_of_the_table}
use Rattle.master_core.specs.declared.master.Master.{Master}
use Rattle.master_core.specs.Step.{table_with}
use Rattle.name_flows.specs.Steps.{held_with}
use Rattle.node_record.specs.declared.backend.BackendRecord.{BackendRecord}
use Rattle.node_record.specs.declared.master.MasterRecord.{MasterRecord}
use Rattle.node_record.specs.BackendEntries.{backend_entry}
use Rattle.node_record.specs.MasterEntries.{master_entry}
use Rattle.node_record.specs.Held.{Names, held_after}
use Rattle.node_record.specs.Table.{MailboxTable, empty_table, table_after}
use Rattle.node_step.specs.declared.input.NodeInput.{NodeInput}
use Rattle.node_step.specs.declared.input.NodeInput.TheVariants.{Opened, Piece, Hung, From}
use Rattle.node_step.specs.declared.node.NodeState.{NodeState}
use Rattle.node_step.specs.declared.node.NodeState.TheVariants as state
use Rattle.node_step.specs.NodeStep.{back_takes, front_takes, master_takes, takes as node_takes}
use Rattle.cluster_core.specs.Headline.Disks.{MailboxesStandOn, TableStandsOn}
use Rattle.cluster_core.proofs.Guests.AtMaster.{happening_by}

-- the entries of a disk, if there is one, and an entry more, if there is one
abbrev pub Disk : Type 0
Disk = Option (List (List ℕ))

abbrev pub disk_with : Disk → Option (List ℕ) → Disk
disk_with disk None = disk
disk_with None (Some entry) = None
disk_with (Some entries) (Some entry) = Some (entries ++ entry ∷ [])

-- what a node has is what stands on its disk
abbrev pub StandsOn : NodeState → Disk → Type 0
StandsOn (state.Front front) disk = ⊤
StandsOn (state.Back home) disk = MailboxesStandOn disk home.home.held
StandsOn (state.Master master) disk = TableStandsOn disk master.table

-- ---- an entry more

mailboxes_more : (disk : Disk) (held : Names) (entry : Option BackendRecord) → MailboxesStandOn disk held
    → MailboxesStandOn (disk_with disk (option_map backend_entry.text entry)) (held_with held entry)
mailboxes_more disk held None is = is
mailboxes_more disk held (Some entry) is = record {
  records = is.records ++ entry ∷ [];
  written = ap (λ d. disk_with d (Some (backend_entry.text entry))) is.written
      ∙ ap (λ l. Some l) (sym (map-append backend_entry.text is.records (entry ∷ [])));
  made = ap (λ (h : Names). held_after h entry) is.made ∙ sym (fold-append held_after [] is.records (entry ∷ []));
}

table_more : (disk : Disk) (table : MailboxTable) (entry : Option MasterRecord) → TableStandsOn disk table
    → TableStandsOn (disk_with disk (option_map master_entry.text entry)) (table_with table entry)
table_more disk table None is = is
table_more disk table (Some entry) is = record {
  records = is.records ++ entry ∷ [];
  written = ap (λ d. disk_with d (Some (master_entry.text entry))) is.written
      ∙ ap (λ l. Some l) (sym (map-append master_entry.text is.records (entry ∷ [])));
  made = ap (λ (t : MailboxTable). table_after t entry) is.made ∙ sym (fold-append table_after empty_table is.records (entry ∷ []));
}

mailboxes_are : (disk : Disk) (one other : Names) → other ≡ one → MailboxesStandOn disk one → MailboxesStandOn disk other
mailboxes_are disk one other e is = record { records = is.records; written = is.written; made = e ∙ is.made }

table_is : (disk : Disk) (one other : MailboxTable) → other ≡ one → TableStandsOn disk one → TableStandsOn disk other
table_is disk one other e is = record { records = is.records; written = is.written; made = e ∙ is.made }

-- ---- a step

home_stands : (home : BackNode) (input : NodeInput) (disk : Disk) → MailboxesStandOn disk home.home.held
    → StandsOn (back_takes home input).state (disk_with disk (back_takes home input).entry)
unfolding back_takes
home_stands home (Opened conn) disk is = is
home_stands home (Piece conn bytes) disk is = is
home_stands home (Hung conn) disk is = is
home_stands home (From from message) disk is =
    let next = home_step home from message in
    mailboxes_are (disk_with disk (option_map backend_entry.text next.entry)) (held_with home.home.held next.entry) next.state.home.held
    (one_entry home from message) (mailboxes_more disk home.home.held next.entry is)

master_stands : (master : Master) (input : NodeInput) (disk : Disk) → TableStandsOn disk master.table
    → StandsOn (master_takes master input).state (disk_with disk (master_takes master input).entry)
unfolding master_takes step_of
master_stands master (Opened conn) disk is = table_is disk master.table _ (changes_are_of_the_table master (happening_by (Opened conn))) is
master_stands master (Piece conn bytes) disk is = table_is disk master.table _ (changes_are_of_the_table master (happening_by (Piece conn bytes))) is
master_stands master (Hung conn) disk is = table_is disk master.table _ (changes_are_of_the_table master (happening_by (Hung conn))) is
master_stands master (From from message) disk is =
    let change = change_of master (happening_by (From from message)) in
    table_is (disk_with disk (option_map master_entry.text change)) (table_with master.table change) _
    (changes_are_of_the_table master (happening_by (From from message))) (table_more disk master.table change is)

-- whatever comes to whichever node
pub takes_stands : (it : NodeState) (input : NodeInput) (disk : Disk) → StandsOn it disk
    → StandsOn (node_takes it input).state (disk_with disk (node_takes it input).entry)
unfolding node_takes front_takes
takes_stands (state.Front front) (Opened conn) disk is = tt
takes_stands (state.Front front) (Piece conn bytes) disk is = tt
takes_stands (state.Front front) (Hung conn) disk is = tt
takes_stands (state.Front front) (From from message) disk is = tt
takes_stands (state.Back home) input disk is = home_stands home input disk is
takes_stands (state.Master master) input disk is = master_stands master input disk is
