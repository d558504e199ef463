-- Lines that make bytes are the only ones.
use Rattle.std.proofs.Common.{◌≡◌, ℕ, List, sym, ◌∙◌}
use Rattle.std.specs.Prelude.{All}
use Rattle.std.specs.List.{concat}
use Rattle.imap_reply.specs.Lines.{IsLine}
use Rattle.imap_reply.specs.ReadAs.{IsReadAs}
use Rattle.imap_reply.proofs.OneCut.{same_lines}

pub read_by : (bytes : List ℕ) (lines : List (List ℕ)) → concat lines ≡ bytes → All IsLine lines → IsReadAs bytes lines
read_by bytes lines whole each = record {
  whole = whole;
  each = each;
  only = λ others all text. same_lines others lines all each (text ∙ sym whole);
}
