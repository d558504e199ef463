-- The master takes the NOOP of a LIST, and the mailboxes of its table are those of the store.
use Rattle.std.proofs.Common.{sym}
use Rattle.route_links.specs.Answered.{noop_of}
use Rattle.route_links.proofs.AnsweredLaw.{noop_is_answered}
use Rattle.route_links.proofs.StoreLaw.{names_are_the_stores}
use Rattle.many_links.specs.Murder.{homes_of}
use Rattle.many_links.proofs.MasterLaw.{frontends_keep_many}
use Rattle.point_links.specs.Lists.{ListIsAPoint}

pub list_is_a_point : ListIsAPoint
list_is_a_point murder given store front id comes = record {
  taken = record {
    step = noop_is_answered murder.master front id comes.numbered;
    then_holds = frontends_keep_many murder given store front (noop_of id) comes.holds comes.its_front;
  };
  names = sym (names_are_the_stores murder.master.table (homes_of murder.nodes) store comes.holds.shows);
}
