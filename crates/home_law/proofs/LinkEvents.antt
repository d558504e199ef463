-- Each event keeps the invariant of a link: a lemma an event.
use Rattle.std.proofs.Common.{◌≡◌, ◌≢◌, ℕ, Bool, List, [], ◌∷◌, refl, sym, subst}
use Rattle.home_law.specs.Items.{NameRecord, Server, Mine}
use Rattle.home_law.specs.Steps.{NameAsk}
use Rattle.home_law.specs.Link.{Back, LineStep, hears_first, asked, asked_each, takes_first, cut, crash, lose, join, see, put}
use Rattle.home_law.specs.Rows.{mine_of}
use Rattle.home_law.specs.LinkOk.{LinkOk}
use Rattle.home_law.proofs.Events.{LineStepOk, hears_by, takes_by, asked_kept}
use Rattle.home_law.proofs.Faults.{cut_by, crash_by, lose_by, join_by}
use Rattle.home_law.proofs.Records.{see_put, others_same}
use Rattle.home_law.proofs.SameName.{is_another}

-- the backend takes its first message
pub hears_kept : (m : Mine) (k : Back) → LinkOk m k → LinkOk m (hears_first k k.down)
hears_kept m k ok = hears_by m k k.down refl ok

-- the backend is asked by those that waited
pub asked_each_kept : (asks : List NameAsk) (m : Mine) (k : Back) → LinkOk m k → LinkOk m (asked_each asks k)
unfolding asked_each
asked_each_kept [] m k ok = ok
asked_each_kept (a ∷ asks) m k ok = asked_each_kept asks m (asked a k) (asked_kept a m k ok)

-- the master takes the first line of a backend

taken_kept : (r : NameRecord) (b : Server) (t : LineStep) → LineStepOk (see r b) t → LinkOk (mine_of (see (put t.seen b r) b)) t.back
taken_kept r b t ok = subst (λ s. LinkOk (mine_of s) t.back) (sym (see_put r b t.seen ok.others)) ok.link

pub takes_kept : (is_full : Bool) (r : NameRecord) (b : Server) (k : Back) → LinkOk (mine_of (see r b)) k
    → LinkOk (mine_of (see (put (takes_first is_full (see r b) k k.up).seen b r) b)) (takes_first is_full (see r b) k k.up).back
takes_kept is_full r b k ok = taken_kept r b (takes_first is_full (see r b) k k.up) (takes_by is_full (see r b) k k.up refl ok)

-- the record is to each other backend as it was
pub others_kept : (is_full : Bool) (r : NameRecord) (b q : Server) (k : Back) → b ≢ q → LinkOk (mine_of (see r b)) k
    → mine_of (see (put (takes_first is_full (see r b) k k.up).seen b r) q) ≡ mine_of (see r q)
others_kept is_full r b q k ne ok =
    let step = takes_by is_full (see r b) k k.up refl ok in
    others_same r b q (takes_first is_full (see r b) k k.up).seen (is_another b q ne) step.others

-- the link breaks, the backend crashes, the master crashes, the link is joined again

pub cut_kept : (i j : ℕ) (m : Mine) (k : Back) → LinkOk m k → LinkOk m (cut i j k k.ctl.linked)
cut_kept i j m k ok = cut_by i j m k k.ctl.linked refl ok

pub crash_kept : (j : ℕ) (m : Mine) (k : Back) → LinkOk m k → LinkOk m (crash j k k.ctl.linked)
crash_kept j m k ok = crash_by j m k k.ctl.linked refl ok

pub lose_kept : (i : ℕ) (m : Mine) (k : Back) → LinkOk m k → LinkOk m (lose i k k.ctl.linked)
lose_kept i m k ok = lose_by i m k k.ctl.linked refl ok

pub join_kept : (m : Mine) (k : Back) → LinkOk m k → LinkOk m (join k k.ctl.linked k.down k.up)
join_kept m k ok = join_by m k k.ctl.linked k.down k.up refl refl ok
