use Rattle.std.proofs.Common.{◌≡◌, Some, refl}
use Rattle.mur_model.specs.SearchRows.{no_date}
use Rattle.mur_model.proofs.SearchRowsLaw.{no_date_is_read}
use Rattle.mur_model.proofs.commands.search_rows.no_date.Goals as goal

pub unwrap-requires : goal.unwrap-requires
unwrap-requires c = rw (c.date.ensures, no_date_is_read) refl

pub returns : goal.returns
returns c =
    let read : c.date.result ≡ Some no_date = rw (c.date.ensures) no_date_is_read in
    let taken = c.unwrap.ensures in
    cc
