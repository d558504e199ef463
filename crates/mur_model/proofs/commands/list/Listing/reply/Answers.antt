use Rattle.std.proofs.Common.{◌≡◌, map, codes, arith}
use Rattle.name_listing.specs.Found.{found_lines}
use Rattle.name_listing.specs.Told.{line_of}
use Rattle.mur_model.specs.Listing.{all_gathered}
use Rattle.mur_model.proofs.GatheredLaw.{reply_is}
use Rattle.mur_model.proofs.commands.list.Listing.reply.Goals as goal

pub returns : goal.returns
returns c =
    let every : c.as_slice.result.now ≡ all_gathered c.args.gathered.now = grind (arith, c.as_slice.ensures, c.names.view_is, c.in_ok-names.ensures.all) in
    let finds : c.in_ok-found.found ≡ found_lines c.args.self.now.pattern c.as_slice.result.now = grind (arith, c.in_ok-found.ensures.found) in
    let tells : c.in_ok-reply_lines.field-0 ≡ map line_of c.in_ok-found.found = grind (arith, c.in_ok-reply_lines.ensures) in
    let named : c.in_ok-from_slice.field-0 ≡ codes "LIST" = grind (arith, c.in_ok-from_slice.ensures) in
    λ names same.
    reply_is c.args.self.now names c.args.gathered.now c.as_slice.result.now c.in_ok-found.found c.in_ok-reply_lines.field-0 c.in_ok-from_slice.field-0
    same every finds tells named
