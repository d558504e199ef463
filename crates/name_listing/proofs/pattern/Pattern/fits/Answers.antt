use Rattle.std.proofs.Common.{◌∙◌, sym, subst}
use Rattle.name_listing.specs.Listing.{IsPlainFront}
use Rattle.name_listing.proofs.PlainFront.{fits_none, fits_so}
use Rattle.name_listing.proofs.pattern.Pattern.fits.Goals as goal

pub returns-then-starts_with : goal.returns-then-starts_with
returns-then-starts_with c =
    fits_so c.self.inside.front c.args.self.now c.args.text.now c.as_slice-bytes.result.now c.starts_with.result c.matches.result
    (sym c.self.view_is ∙ sym c.as_slice-bytes.ensures) (subst (IsPlainFront c.self.inside.front) (sym c.as_slice-bytes.ensures) c.self.invariant)
    c.starts_with.ensures.value c.if-starts_with.true c.matches.ensures

pub returns-else-starts_with : goal.returns-else-starts_with
returns-else-starts_with c =
    fits_none c.self.inside.front c.args.self.now c.args.text.now c.as_slice-bytes.result.now c.starts_with.result
    (sym c.self.view_is ∙ sym c.as_slice-bytes.ensures) (subst (IsPlainFront c.self.inside.front) (sym c.as_slice-bytes.ensures) c.self.invariant)
    c.starts_with.ensures.value c.if-starts_with.false
