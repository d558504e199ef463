-- The response code of a tagged OK, with its space, if there is one (RFC 9051, 7.1).
use Rattle.std.specs.Prelude.{ℕ, List, [], ◌∷◌, ◌++◌, codes, decimal}
use Rattle.mur_base.specs.Ascii.{space}
use Rattle.imap_types.specs.declared.reply.Code.{Code}
use Rattle.imap_types.specs.declared.reply.Code.TheVariants.{None as no_code, AppendUid, CopyUid, ExpungeIssued, ReadWrite, ReadOnly}
use Rattle.imap_reply.specs.Sets.{set_text}

abbrev pub appended_text : ℕ → ℕ → List ℕ
appended_text serial uid = codes "[APPENDUID " ++ (decimal serial ++ space ∷ (decimal uid ++ codes "] "))

abbrev pub copied_text : ℕ → List ℕ → List ℕ → List ℕ
copied_text serial uids copies = codes "[COPYUID " ++ (decimal serial ++ space ∷ (set_text uids ++ space ∷ (set_text copies ++ codes "] ")))

unfoldable pub code_text : Code → List ℕ
code_text no_code = []
code_text (AppendUid serial uid) = appended_text serial uid
code_text (CopyUid serial uids copies) = copied_text serial uids copies
code_text ExpungeIssued = codes "[EXPUNGEISSUED] "
code_text ReadWrite = codes "[READ-WRITE] "
code_text ReadOnly = codes "[READ-ONLY] "
