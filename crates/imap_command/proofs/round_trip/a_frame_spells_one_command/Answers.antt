use Rattle.imap_command.proofs.SpellsLaw.{spelled_once}
use Rattle.imap_command.proofs.round_trip.a_frame_spells_one_command.Goals as goal

pub returns : goal.returns
returns c = spelled_once
