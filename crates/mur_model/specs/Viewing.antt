-- The commands of a selected session (RFC 9051, 6.4) at its mailbox.
use Rattle.std.specs.Prelude.{◌==◌, if◌then◌else◌, Option, None, Some}
use Rattle.mail_message.specs.Boxes.{Content}
use Rattle.mur_model.specs.declared.work.ViewWork.{ViewWork}
use Rattle.mur_model.specs.declared.work.ViewWork.TheVariants as work
use Rattle.mur_model.specs.declared.view.View.{View}
use Rattle.mur_model.specs.Close.{close_at}
use Rattle.mur_model.specs.Expunge.{expunge_at}
use Rattle.mur_model.specs.Fetch.{fetch_at}
use Rattle.mur_model.specs.Left.{Worked, kept}
use Rattle.mur_model.specs.Noop.{news_at}
use Rattle.mur_model.specs.Search.{search_at}
use Rattle.mur_model.specs.Selected.{gone}
use Rattle.mur_model.specs.StoreFlags.{store_at}

unfoldable pub work_there : View → ViewWork → Content → Worked
work_there view (work.News why) box = news_at view why box
work_there view work.Close box = close_at view box
work_there view (work.Expunge only) box = expunge_at view only box
work_there view (work.Store it) box = store_at view it box
work_there view (work.Fetch it) box = fetch_at view it box
work_there view (work.Search it) box = search_at view it box

abbrev pub found_gone : Worked
found_gone = record { left = kept; turn = gone }

-- The work at the mailbox of the view, if that is there still: one of its name with another UIDVALIDITY is another (RFC 9051, 2.3.1.1).
unfoldable pub viewed_on : View → ViewWork → Option Content → Worked
viewed_on view it None = found_gone
viewed_on view it (Some box) = if box.serial == view.serial then work_there view it box else found_gone
