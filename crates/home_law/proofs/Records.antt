-- The record of the name, as its backend and the others find it.
use Rattle.std.proofs.Common.{◌≡◌, Bool, true, false, cond, refl, sym, ◌∙◌, ap}
use Rattle.home_law.specs.Items.{RecordKind, NameRecord, no_record, recorded, Server, is_same_server, Seen, free, other, own, away, mine}
use Rattle.home_law.specs.Link.{see, put}
use Rattle.home_law.specs.Rows.{mine_of}
use Rattle.home_law.proofs.Moves.{is_other}
use Rattle.home_law.proofs.SameName.{is_itself, is_the_same}

other_is : (s : Seen) → is_other s ≡ true → s ≡ other
unfolding is_other
other_is other h = refl
other_is free h = cc
other_is (own k) h = cc

own_of_itself : (k : RecordKind) (b : Server) → see (recorded k b) b ≡ own k
unfolding see
own_of_itself k b = ap (λ t. cond t (own k) other) (is_itself b)

-- the record as its backend finds it after the change is what was meant
pub see_put : (r : NameRecord) (b : Server) (s : Seen) → is_other s ≡ is_other (see r b) → see (put s b r) b ≡ s
unfolding see put is_other
see_put r b free e = refl
see_put r b (own k) e = own_of_itself k b
see_put r b other e = other_is (see r b) (sym e)

-- a record of one backend, as another finds it
away_from : (k : RecordKind) (b q : Server) → is_same_server b q ≡ false → mine_of (see (recorded k b) q) ≡ away
unfolding see mine_of
away_from k b q e = ap (λ t. mine_of (cond t (own k) other)) e

own_server : (k : RecordKind) (z b : Server) (t : Bool) → is_same_server z b ≡ t → false ≡ is_other (cond t (own k) other) → z ≡ b
unfolding is_other
own_server k z b true e h = is_the_same z b e
own_server k z b false e h = cc

-- a record that isn't another's is away from others
away_before : (r : NameRecord) (b q : Server) → is_same_server b q ≡ false → false ≡ is_other (see r b) → mine_of (see r q) ≡ away
unfolding see mine_of
away_before no_record b q e h = refl
away_before (recorded k z) b q e h =
    let same : z ≡ b = own_server k z b (is_same_server z b) refl h in
    ap (λ y. mine_of (see (recorded k y) q)) same ∙ away_from k b q e

-- other backends find the record as before
pub others_same : (r : NameRecord) (b q : Server) (s : Seen) → is_same_server b q ≡ false → is_other s ≡ is_other (see r b)
    → mine_of (see (put s b r) q) ≡ mine_of (see r q)
unfolding put is_other mine_of see
others_same r b q other e h = refl
others_same r b q free e h = sym (away_before r b q e h)
others_same r b q (own k) e h = away_from k b q e ∙ sym (away_before r b q e h)

own_by : (j : RecordKind) (z b : Server) (t : Bool) (k : RecordKind) → is_same_server z b ≡ t → mine_of (cond t (own j) other) ≡ mine k
    → recorded j z ≡ recorded k b
unfolding mine_of
own_by j z b true k e h = let same = is_the_same z b e in let kind : j ≡ k = cc in rw (same, kind) refl
own_by j z b false k e h = cc

-- what a backend finds as its own is a record that names it
pub own_record : (r : NameRecord) (b : Server) (k : RecordKind) → mine_of (see r b) ≡ mine k → r ≡ recorded k b
unfolding see mine_of
own_record no_record b k h = cc
own_record (recorded j z) b k h = own_by j z b (is_same_server z b) k refl h

pub record_own : (r : NameRecord) (b : Server) (k : RecordKind) → r ≡ recorded k b → mine_of (see r b) ≡ mine k
unfolding mine_of
record_own r b k e = ap (λ s. mine_of (see s b)) e ∙ ap mine_of (own_of_itself k b)
