-- The home law of one name, from the invariant at each backend.
use Rattle.std.proofs.Common.{◌≡◌, [], ◌⊎◌, inl, inr, sym, ◌∙◌, ap, subst}
use Rattle.std.proofs.Math.Logic.{⊎_elim}
use Rattle.home_law.specs.Items.{RecordKind, kept, active, NameRecord, no_record, recorded, Server, mine, serving}
use Rattle.home_law.specs.Link.{see}
use Rattle.home_law.specs.NameRun.{NameWorld, name_start, name_run}
use Rattle.home_law.specs.Rows.{mine_of}
use Rattle.home_law.specs.LinkOk.{LinkOk, NameOk}
use Rattle.home_law.specs.NameLaw.{phase_at, NameLaw, KeepsNameLaw}
use Rattle.home_law.proofs.Records.{own_record, record_own}
use Rattle.home_law.proofs.LinkSays.{serving_mine, active_is_there, reserved_is_there, none_refused, none_stays_reserved}
use Rattle.home_law.proofs.Keeps.{always}

named : (w : NameWorld) (b : Server) → NameOk w → phase_at w b ≡ serving → (w.known ≡ recorded active b) ⊎ (w.known ≡ recorded kept b)
named w b ok e =
    ⊎_elim (λ (h : mine_of (see w.known b) ≡ mine active). inl (own_record w.known b active h))
    (λ (h : mine_of (see w.known b) ≡ mine kept). inr (own_record w.known b kept h))
    (serving_mine (mine_of (see w.known b)) (w.back b) (ok b) e)

unfoldable server_of : NameRecord → Server
server_of no_record = []
server_of (recorded k b) = b

at_server : (w : NameWorld) (b : Server) → (w.known ≡ recorded active b) ⊎ (w.known ≡ recorded kept b) → server_of w.known ≡ b
unfolding server_of
at_server w b (inl e) = ap server_of e
at_server w b (inr e) = ap server_of e

-- the invariant at the backend that the record names
own_link : (w : NameWorld) (b : Server) (k : RecordKind) → NameOk w → w.known ≡ recorded k b → LinkOk (mine k) (w.back b)
own_link w b k ok e = subst (λ m. LinkOk m (w.back b)) (record_own w.known b k e) (ok b)

law : (w : NameWorld) → NameOk w → NameLaw w
law w ok = record {
  one_home = λ a b e f. sym (at_server w a (named w a ok e)) ∙ at_server w b (named w b ok f);
  home_is_named = λ b e. named w b ok e;
  active_is_there = λ b e. active_is_there (w.back b) (own_link w b active ok e);
  reserved_is_there = λ b e. reserved_is_there (w.back b) (own_link w b kept ok e);
  none_refused = λ b is_full x u e. none_refused is_full (see w.known b) (w.back b) x u (ok b) e;
  reserved_ends = λ b k e l d u. none_stays_reserved k (w.back b) (own_link w b k ok e) l d u;
}

pub keeps_name_law : KeepsNameLaw
keeps_name_law events = law (name_run name_start events) (always events)
