-- Nothing waits on empty links, behind whatever steps keep the law.
use Rattle.std.proofs.Common.{List}
use Rattle.imap_talk.specs.Heard.{frames_heard}
use Rattle.imap_talk.proofs.RequestsOf.{asks_all, requests_of}
use Rattle.mur_config.specs.declared.config.Config.{Config}
use Rattle.mur_config.specs.Nodes.{AreNodes}
use Rattle.schedule_text.specs.declared.event.Event.{Event}
use Rattle.cluster_core.specs.Heard.{heard}
use Rattle.cluster_core.specs.LawSetting.{law_setting}
use Rattle.cluster_core.specs.Flow.{run_steps}
use Rattle.cluster_core.specs.Headline.AtRest.{NothingWaits}
use Rattle.cluster_core.specs.World.{start}
use Rattle.cluster_core.proofs.Links.StandLaw.{links_stand}
use Rattle.cluster_core.proofs.OneServer.EachStep.{LawBehind}
use Rattle.cluster_core.proofs.OneServer.SaysOf.{says_of}
use Rattle.cluster_core.proofs.OneServer.ToldSoFar.{OthersAreSilent}

pub at_rest : (config : Config) (steps : List Event) → AreNodes config.nodes → LawBehind config steps → OthersAreSilent config steps
    → NothingWaits config steps (run_steps (start config) steps)
at_rest config steps are law silent = λ empty conn mail stays.
    let says = says_of config (λ c. heard config c steps) (run_steps (start config) steps) law (links_stand config steps are) conn in
    record {
      requests = requests_of (law_setting config) (frames_heard (heard config conn steps));
      answers = law.story.told conn;
      stop = law.stops conn;
      asked = asks_all (law_setting config) (frames_heard (heard config conn steps));
      given = says.given (λ _. silent conn mail);
      each = says.waits_not empty stays;
    }
