-- The place of a backend of the configuration is a server and a partition by the rules of short names.
use Rattle.std.proofs.Common.{◌≡◌, None, sym, ap, ◌∙◌, subst}
use Rattle.std.proofs.lemmas.List.Elements.{All-contains}
use Rattle.mur_base.specs.Names.{short_name_fault}
use Rattle.mur_base.specs.declared.home.Location.{Location}
use Rattle.mur_config.specs.declared.config.Config.{Config}
use Rattle.mur_config.specs.declared.node.Node.{Node}
use Rattle.mur_config.specs.Nodes.{AreNodes, FitsKind}
use Rattle.cluster_core.specs.Headline.Records.{IsAtBackend}
use Rattle.cluster_core.proofs.Starts.Kinds.{named_among, named_so}

pub record IsNamedPlace (place : Location) : Type 0 where
  pub server : short_name_fault place.server ≡ None
  pub partition : short_name_fault place.partition ≡ None

pub named_place : (config : Config) → AreNodes config.nodes → (place : Location) → IsAtBackend config place → IsNamedPlace place
named_place config are place at =
    let node : Node = (at.backend).node in
    let among = named_among place.server config.nodes node (at.backend).at in
    record {
      server = ap short_name_fault (sym (named_so place.server config.nodes node (at.backend).at))
          ∙ All-contains (λ (n : Node). short_name_fault n.name ≡ None) config.nodes node are.named among;
      partition = ap short_name_fault at.partition
          ∙ subst (λ kind. FitsKind kind node.partition) (at.backend).kind
          (All-contains (λ (n : Node). FitsKind n.kind n.partition) config.nodes node are.partitions among);
    }
