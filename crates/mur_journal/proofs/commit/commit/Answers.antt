use Rattle.std.proofs.Common.{inl, length, IsTrue, sym, ap, subst}
use Rattle.mur_disk.proofs.MomentLaws.{weaker, and_then}
use Rattle.mur_journal.specs.Image.{entries_of, entries_in}
use Rattle.mur_journal.specs.Settled.{HasBeforeOrAfter}
use Rattle.mur_journal.proofs.Crashes.{torn_block_kept, gate_kept, gate_opened, good_of}
use Rattle.std.proofs.lemmas.Result.{on_ok_weaker}
use Rattle.mur_journal.proofs.Answered.{on_two}
use Rattle.mur_journal.proofs.commit.commit.Goals as goal

-- the first write leaves the entries as they were
pub returns-in_err-write_synced-clause-any_moment : goal.returns-in_err-write_synced-clause-any_moment
returns-in_err-write_synced-clause-any_moment g c more is told =
    let s = c.requires.settled told in
    weaker g.D.Disk.moment g.D.Disk.left_since c.args.disk.now c.write_synced.new.disk _ _ (c.write_synced.ensures.any_moment told s.durable)
    (λ f torn. inl (torn_block_kept (g.D.Disk.seen c.args.disk.now) _ c.args.gate s.form (length c.args.block.now) f torn))

pub returns-clause-settled : goal.returns-clause-settled
returns-clause-settled g c more is told =
    let s = c.requires.settled told in
    let seen = g.D.Disk.seen c.args.disk.now in
    let still : IsTrue (g.D.Disk.tells c.write_synced.new.disk) = subst IsTrue (sym c.write_synced.ensures.told) told in
    on_two c.write_synced-2.result _ _ _ (c.write_synced-2.ensures.written still) (c.write_synced-2.ensures.durable still)
    (λ holds only. record {
      form = good_of (g.D.Disk.seen c.write_synced-2.new.disk) _ _
          (gate_opened seen _ c.args.gate s.form more c.args.block.now is _ (c.in_ok-write_synced.ensures.written told) _ holds);
      durable = only;
    })

pub returns-clause-entries : goal.returns-clause-entries
returns-clause-entries g c more is told =
    let s = c.requires.settled told in
    let seen = g.D.Disk.seen c.args.disk.now in
    let still : IsTrue (g.D.Disk.tells c.write_synced.new.disk) = subst IsTrue (sym c.write_synced.ensures.told) told in
    on_ok_weaker c.write_synced-2.result
    (λ holds. ap entries_in (gate_opened seen _ c.args.gate s.form more c.args.block.now is _ (c.in_ok-write_synced.ensures.written told) _ holds))
    (c.write_synced-2.ensures.written still)

-- the second leaves them with these or without
pub returns-clause-any_moment : goal.returns-clause-any_moment
returns-clause-any_moment g c more is told =
    let s = c.requires.settled told in
    let seen = g.D.Disk.seen c.args.disk.now in
    let mid = g.D.Disk.seen c.write_synced.new.disk in
    let still : IsTrue (g.D.Disk.tells c.write_synced.new.disk) = subst IsTrue (sym c.write_synced.ensures.told) told in
    let first = weaker g.D.Disk.moment g.D.Disk.left_since c.args.disk.now c.write_synced.new.disk _ (HasBeforeOrAfter (entries_of seen) more)
    (c.write_synced.ensures.any_moment told s.durable)
    (λ f torn. inl (torn_block_kept seen _ c.args.gate s.form (length c.args.block.now) f torn)) in
    let second = weaker g.D.Disk.moment g.D.Disk.left_since c.write_synced.new.disk c.write_synced-2.new.disk _ (HasBeforeOrAfter (entries_of seen) more)
    (c.write_synced-2.ensures.any_moment still (c.in_ok-write_synced.ensures.durable told))
    (λ f torn. gate_kept seen _ c.args.gate s.form more c.args.block.now is mid (c.in_ok-write_synced.ensures.written told) f torn) in
    and_then g.D.Disk.moment g.D.Disk.left_since c.args.disk.now c.write_synced.new.disk c.write_synced-2.new.disk _ first second
